use Rattle.std.proofs.Common.{rules, ◌≡◌, ℕ, true, false, List, sym, ◌∙◌, subst}
use Rattle.run_rules.specs.Outcomes.{has_cause, begins_with_dollar}
use Rattle.system_lines.specs.Commands.{kind_of, refused_in_run}
use Rattle.audit_course.specs.declared.MotionError.{MotionError}
use Rattle.audit_course.specs.declared.MotionError.TheVariants as errors
use Rattle.audit_course.proofs.Choosing.{locked_alone, runs_alone, jogs_alone, stands_alone}
use Rattle.audit_course.proofs.judge.CourseJudge.machine_for.Goals as goal

pub returns-then-self-clause-alone : goal.returns-then-self-clause-alone
returns-then-self-clause-alone c = λ kept is. locked_alone c.args.self.now c.args.error kept c.if-self.true

pub returns-in-Busy-clause-alone : goal.returns-in-Busy-clause-alone
returns-in-Busy-clause-alone c = λ kept is.
    let same = (c.in-Some.ensures.short kept is).0 in
    runs_alone c.args.self.now c.args.error kept c.in-Busy.is c.if-self.false
    (subst (λ (xs : List ℕ). begins_with_dollar xs ≡ true) same (c.is_busy.ensures.dollar c.if-is_busy.true))
    (subst (λ (xs : List ℕ). refused_in_run (kind_of xs) ≡ true) same (c.is_busy.ensures.kind c.if-is_busy.true))
    (λ p knows. subst (λ (xs : List ℕ). has_cause p.before (kind_of xs) ≡ true) same (c.is_busy.ensures.cause c.if-is_busy.true p knows))

pub returns-in-Locked-clause-alone : goal.returns-in-Locked-clause-alone
returns-in-Locked-clause-alone c = λ kept is.
    let same = (c.in-Some.ensures.short kept is).0 in
    let code : begins_with_dollar c.in-Some.kept.now ≡ false = search rules in
    jogs_alone c.args.self.now c.args.error kept c.in-Locked.is c.if-self.false (subst (λ (xs : List ℕ). begins_with_dollar xs ≡ false) same code) c.if-self-2.true

pub returns-in_default-error-clause-alone : goal.returns-in_default-error-clause-alone
returns-in_default-error-clause-alone c = λ kept is.
    let same = (c.in-Some.ensures.short kept is).0 in
    stands_alone c.args.self.now c.args.error kept c.if-self.false
    (λ e dollar p knows. subst (λ (xs : List ℕ). has_cause p.before (kind_of xs) ≡ false) same (c.is_busy.ensures.no c.if-is_busy.false (subst (λ (xs : List ℕ). begins_with_dollar xs ≡ true) (sym same) dollar) p knows))
    (λ e code. absurd (let f : ◌≡◌ {A = MotionError} errors.Busy errors.Locked = sym c.in-Busy.is ∙ e in cc))

pub returns-in_default-error-2-clause-alone : goal.returns-in_default-error-2-clause-alone
returns-in_default-error-2-clause-alone c = λ kept is.
    let same = (c.in-Some.ensures.short kept is).0 in
    let dollar : begins_with_dollar c.in-Some.kept.now ≡ true = search rules in
    stands_alone c.args.self.now c.args.error kept c.if-self.false
    (λ e. absurd (let f : ◌≡◌ {A = MotionError} errors.Locked errors.Busy = sym c.in-Locked.is ∙ e in cc))
    (λ e code. absurd (let f : true ≡ false = sym (subst (λ (xs : List ℕ). begins_with_dollar xs ≡ true) same dollar) ∙ code in cc))

pub returns-in_default-error-3-clause-alone : goal.returns-in_default-error-3-clause-alone
returns-in_default-error-3-clause-alone c = λ kept is.
    stands_alone c.args.self.now c.args.error kept c.if-self.false
    (λ e. absurd (let f : ◌≡◌ {A = MotionError} errors.Locked errors.Busy = sym c.in-Locked.is ∙ e in cc))
    (λ e code. c.if-self-2.false)

pub returns-in_default-error-4-clause-alone : goal.returns-in_default-error-4-clause-alone
returns-in_default-error-4-clause-alone c = λ kept is.
    let none : c.args.error ≡ errors.None = search rules in
    stands_alone c.args.self.now c.args.error kept c.if-self.false
    (λ e. absurd (let f : ◌≡◌ {A = MotionError} errors.None errors.Busy = sym none ∙ e in cc))
    (λ e code. absurd (let f : ◌≡◌ {A = MotionError} errors.None errors.Locked = sym none ∙ e in cc))
