use Rattle.std.proofs.Common.{rules, ◌≡◌, ◌<◌, ◌+◌, ◌^◌, ℕ, false, ap, sym, ◌∙◌, subst}
use Rattle.units.specs.Lengths.{IsPlace}
use Rattle.line_interpreter.specs.Interpreting.{Interpreting}
use Rattle.audit_course.proofs.Refused.{cuts_not, cuts_not_there, never_cut}
use Rattle.audit_course.proofs.judge.CourseJudge.cut.Goals as goal

pub returns-clause-yes : goal.returns-clause-yes
returns-clause-yes c = λ yes first sent replies records s. c.make_cut.ensures.adds first sent replies records (c.close.ensures.stays first sent replies records s)

pub returns-clause-point : goal.returns-clause-point
returns-clause-point c = λ yes p hand at. let closed = c.close.ensures.point p hand at in c.make_cut.ensures.point p closed.0 closed.1

pub returns-then-not-may_cut-clause-here : goal.returns-then-not-may_cut-clause-here
returns-then-not-may_cut-clause-here c = λ no done place few.
    let same = c.close.ensures in
    let refused : c.may_cut.result ≡ false = search rules in
    cuts_not_there c.args.self.now c.close.new.self c.args.k same.stands
    (cuts_not c.close.new.self c.args.k (record { done = ap (λ (i : Interpreting). i.left) same.work ∙ done; closed = same.closed })
    (c.may_cut.ensures.no refused (subst IsPlace (sym same.place) place) (subst (λ (m : ℕ). m + 1 < 2 ^ 32) (sym same.cuts) few)))

pub returns-then-not-may_cut-clause-no : goal.returns-then-not-may_cut-clause-no
returns-then-not-may_cut-clause-no c = λ no done late place few. never_cut c.args.self.now c.args.k (returns-then-not-may_cut-clause-here c no done place few) late
