use Rattle.std.proofs.Common.{arith, subst, sym}
use Rattle.std.specs.Prelude.{None}
use Rattle.system_io.specs.Limits.{IsNamed, TellsLimit}
use Rattle.system_io.proofs.Told.{behind_line, in_line, in_last, in_none}
use Rattle.system_io.proofs.limits.limit_told.Goals as goal

pub returns-in-Some-behind_name : goal.returns-in-Some-behind_name
returns-in-Some-behind_name c =
    let split = c.in-Some.ensures.byte (omega arith) (λ w o found. found) in
    let limits = c.in-Some-behind_name.limits.now in
    let named = subst (λ line. IsNamed line limits) split.0 c.in-Some-behind_name.ensures.named in
    c.loop-line.invariant.1 c.first_number.result (in_line c.loop-line.rest.now split.2 limits named c.first_number.result c.first_number.ensures)

pub loop-line-preserved : goal.loop-line-preserved
loop-line-preserved c =
    let split = c.in-Some.ensures.byte (omega arith) (λ w o found. found) in (
      search,
      λ told tells. c.loop-line.invariant.1 told (behind_line c.loop-line.rest.now split.2
          (λ limits named. c.in_default-behind_name.ensures.other limits (subst (λ line. IsNamed line limits) (sym split.0) named)) told
          (subst (λ behind. TellsLimit behind told) split.1 tells)),
    )

pub returns-in_err-behind_name : goal.returns-in_err-behind_name
returns-in_err-behind_name c =
    let whole = c.in_default.ensures.byte (omega arith) (λ w o found. found) in
    subst (λ told. TellsLimit c.args.text.now told) (sym c.from_residual.ensures)
    (c.loop-line.invariant.1 None (in_none c.loop-line.rest.now whole c.in_err-behind_name.ensures.other))

pub returns : goal.returns
returns c =
    let whole = c.in_default.ensures.byte (omega arith) (λ w o found. found) in
    c.loop-line.invariant.1 c.first_number-2.result
    (in_last c.loop-line.rest.now whole c.in_ok-behind_name.field-0.now c.in_ok-behind_name.ensures.named c.first_number-2.result c.first_number-2.ensures)
