use Rattle.std.proofs.Common.{◌≡◌, Some, None, inl, inr, refl}
use Rattle.run_audit.proofs.Under.{both_short, short_said, is_too_long, refuted}
use Rattle.run_audit.proofs.FoundTop.{foreign_said, found_said}
use Rattle.run_audit.proofs.auditor.Auditor.said.Goals as goal

pub returns-then-is_too_long-clause-right : goal.returns-then-is_too_long-clause-right
returns-then-is_too_long-clause-right c = λ job console steps jt ct st r known knows over ended right.
    record { right = is_too_long c.args.self.now job console steps jt ct st r (inl (c.is_too_long.ensures.0 c.if-is_too_long.true)); short = tt }

pub returns-then-is_too_long-2-clause-right : goal.returns-then-is_too_long-2-clause-right
returns-then-is_too_long-2-clause-right c = λ job console steps jt ct st r known knows over ended right.
    record { right = is_too_long c.args.self.now job console steps jt ct st r (inr (c.is_too_long-2.ensures.0 c.if-is_too_long-2.true)); short = tt }

pub returns-in-Some-clause-right : goal.returns-in-Some-clause-right
returns-in-Some-clause-right c = λ job console steps jt ct st r known knows over ended right.
    record {
      right = c.in-Some.ensures.first job jt r.sent r.job_so_far;
      short = both_short c.args.self.now job console steps jt ct st r known knows over ended (refuted c.is_too_long.result c.if-is_too_long.false c.is_too_long.ensures.1)
          (refuted c.is_too_long-2.result c.if-is_too_long-2.false c.is_too_long-2.ensures.1);
    }

pub returns-in-None-clause-right : goal.returns-in-None-clause-right
returns-in-None-clause-right c = λ job console steps jt ct st r known knows over ended right.
    record {
      right = right;
      short = short_said ct st c.args.found (both_short c.args.self.now job console steps jt ct st r known knows over ended (refuted c.is_too_long.result c.if-is_too_long.false c.is_too_long.ensures.1)
          (refuted c.is_too_long-2.result c.if-is_too_long-2.false c.is_too_long-2.ensures.1));
    }

pub returns-then-is_too_long-clause-finds : goal.returns-then-is_too_long-clause-finds
returns-then-is_too_long-clause-finds c = λ job console steps jt ct st r known knows over ended read is.
    is_too_long c.args.self.now job console steps jt ct st r (inl (c.is_too_long.ensures.0 c.if-is_too_long.true))

pub returns-then-is_too_long-2-clause-finds : goal.returns-then-is_too_long-2-clause-finds
returns-then-is_too_long-2-clause-finds c = λ job console steps jt ct st r known knows over ended read is.
    is_too_long c.args.self.now job console steps jt ct st r (inr (c.is_too_long-2.ensures.0 c.if-is_too_long-2.true))

pub returns-in-Some-clause-finds : goal.returns-in-Some-clause-finds
returns-in-Some-clause-finds c = λ job console steps jt ct st r known knows over ended read is.
    let short = both_short c.args.self.now job console steps jt ct st r known knows over ended (refuted c.is_too_long.result c.if-is_too_long.false c.is_too_long.ensures.1)
    (refuted c.is_too_long-2.result c.if-is_too_long-2.false c.is_too_long-2.ensures.1) in
    foreign_said c.args.self.now job console steps jt ct st c.in-Some.line c.args.found r short (λ none. (let e : Some c.in-Some.line ≡ None = c.in-Some.ensures.zero none in cc)) (c.in-Some.ensures.first job jt r.sent r.job_so_far) (is short)

pub returns-in-None-clause-finds : goal.returns-in-None-clause-finds
returns-in-None-clause-finds c = λ job console steps jt ct st r known knows over ended read is.
    let short = both_short c.args.self.now job console steps jt ct st r known knows over ended (refuted c.is_too_long.result c.if-is_too_long.false c.is_too_long.ensures.1)
    (refuted c.is_too_long-2.result c.if-is_too_long-2.false c.is_too_long-2.ensures.1) in
    found_said c.args.self.now job console steps jt ct st c.args.found r short (c.in-None.ensures.none refl) read (is short)
