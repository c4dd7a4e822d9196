use Rattle.std.proofs.Common.{◌≡◌, ◌+◌, ◌-◌, ◌*◌, ℕ, nat_abs, ◌∙◌, refl, arith, rules, subst, w8, FitsSigned, to_z-of_z}
use Rattle.step_line.specs.Tracing.{IsCounter}
use Rattle.step_line.proofs.Counters.{goes_over, stays_under, steps_over, rests_under}
use Rattle.step_line.proofs.axis.Axis.next.Goals as goal

pub returns-then-self-twice : goal.returns-then-self-twice
returns-then-self-twice c =
    let at = c.args.self.now.at in
    let under = c.if-self-twice.true in
    let some = c.requires.some in record {
      bit = λ d n k rise twice turns was. rests_under at (nat_abs d) n k d refl was (omega (arith, some, twice)) (omega (arith, under, rise, twice));
      next = λ count n k rise twice was.
          subst (λ (now : ℕ). IsCounter now count n (k + 1)) (let e : at + 2 * count ≡ at + c.args.self.now.rise = omega (arith, rise) in e)
          (stays_under at count n k was (omega (arith, some, twice)) (omega (arith, under, rise, twice)));
      rise = refl;
      step = refl;
    }

pub returns : goal.returns
returns c =
    let at = c.args.self.now.at in
    let step = c.args.self.now.step in
    let over = c.if-self-twice.false in
    let fits : FitsSigned w8 step = search rules in
    let same = to_z-of_z fits in record {
      bit = λ d n k rise twice turns was. same ∙ steps_over at (nat_abs d) n k d step refl turns was (omega (arith, over, rise, twice));
      next = λ count n k rise twice was.
          subst (λ (now : ℕ). IsCounter now count n (k + 1)) (let e : at + 2 * count - 2 * n ≡ at + c.args.self.now.rise - c.args.twice = omega (arith, rise, twice) in e)
          (goes_over at count n k was (omega (arith, over, rise, twice)));
      rise = refl;
      step = refl;
    }
