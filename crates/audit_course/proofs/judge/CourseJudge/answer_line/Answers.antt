use Rattle.std.proofs.Common.{true, refl, ap, ◌∙◌, ◌&&◌, Bool, not, subst, sym}
use Rattle.run_rules.specs.States.{IsState}
use Rattle.line_interpreter.specs.Interpreting.{Interpreting}
use Rattle.audit_course.proofs.Heard.{line_heard}
use Rattle.audit_course.proofs.Beginning.{line_answered, line_tells, line_work, short_found}
use Rattle.audit_course.proofs.judge.CourseJudge.answer_line.Goals as goal

pub of-self-requires : goal.of-self-requires
of-self-requires c = subst IsState (sym c.state.ensures.is) c.judge_settling-judged.ensures.valid

pub returns-clause-adds : goal.returns-clause-adds
returns-clause-adds c = λ kept is first sent replies records s.
    line_answered c.args.self.now c.args.machine c.judge_settling-judged.new.self c.of-self.result c.still_locked-self.result c.jogged_behind-self.result c.begin-self.result c.judge_settling-judged.result.accepted c.judge_settling-judged.result.settles kept first sent replies records s
    c.requires.may (λ since. c.judge_settling-judged.ensures.becomes since kept is) (c.requires.found kept is) (c.of-self.ensures ∙ c.state.ensures.is) c.begin-self.ensures.is_new c.begin-self.ensures.accepted c.begin-self.ensures.settles c.jogged_behind-self.ensures
    (c.still_locked-self.ensures ∙ ap (λ (b : Bool). c.args.self.now.locked && not b) (c.unlocks-unlocked.ensures kept is))

pub returns-clause-tells : goal.returns-clause-tells
returns-clause-tells c = λ kept is.
    line_tells c.args.self.now (record c.args.self.now { work = c.judge_settling-judged.new.self; state = c.of-self.result; locked = c.still_locked-self.result; has_line = true; in_hand = true; jogged = c.jogged_behind-self.result; line = c.begin-self.result })
    c.args.machine c.judge_settling-judged.new.self c.judge_settling-judged.result.accepted c.judge_settling-judged.result.settles kept c.requires.may (λ since. c.judge_settling-judged.ensures.becomes since kept is) refl refl

pub returns-clause-work : goal.returns-clause-work
returns-clause-work c = λ kept is.
    line_work c.args.self.now (record c.args.self.now { work = c.judge_settling-judged.new.self; state = c.of-self.result; locked = c.still_locked-self.result; has_line = true; in_hand = true; jogged = c.jogged_behind-self.result; line = c.begin-self.result })
    c.args.machine c.judge_settling-judged.new.self c.judge_settling-judged.result.accepted c.judge_settling-judged.result.settles kept c.requires.may (λ since. c.judge_settling-judged.ensures.becomes since kept is) (c.requires.found kept is) refl

pub returns-clause-heard : goal.returns-clause-heard
returns-clause-heard c = λ kept is.
    line_heard c.args.self.now c.args.machine c.judge_settling-judged.new.self c.of-self.result c.still_locked-self.result c.jogged_behind-self.result c.begin-self.result c.judge_settling-judged.result.accepted c.judge_settling-judged.result.settles kept
    c.requires.may (λ since. c.judge_settling-judged.ensures.becomes since kept is) (c.requires.found kept is) (c.of-self.ensures ∙ c.state.ensures.is) c.begin-self.ensures.is_new c.begin-self.ensures.accepted c.begin-self.ensures.settles c.jogged_behind-self.ensures
    (c.still_locked-self.ensures ∙ ap (λ (b : Bool). c.args.self.now.locked && not b) (c.unlocks-unlocked.ensures kept is))

pub returns-clause-short : goal.returns-clause-short
returns-clause-short c = λ kept is.
    short_found c.args.self.now true c.args.machine c.judge_settling-judged.new.self kept
    (λ since. let o = c.judge_settling-judged.ensures.becomes since kept is in (o.0, o.1, ap (λ (i : Interpreting). i.left) o.2)) (c.requires.found kept is)
