use Rattle.std.proofs.Common.{ap, not, ◌∙◌, ◌&&◌, Bool, true, cond}
use Rattle.audit_course.specs.Progressing.{moved_now}
use Rattle.audit_course.proofs.Heard.{close_kept, close_heard}
use Rattle.audit_course.proofs.Parting.{closes}
use Rattle.audit_course.proofs.judge.CourseJudge.close.Goals as goal

pub returns-clause-stands : goal.returns-clause-stands
returns-clause-stands c = λ first sent replies records s.
    let j = c.args.self.now in
    closes j c.ticks_now-now.result c.fresh-self.result c.moved_now-self.result c.moved_now-self-2.result c.behind_line-self.result c.behind_line-self-2.result c.behind_line-self-3.result first sent replies records s c.requires c.ticks_now-now.ensures c.fresh-self.ensures
    (c.behind_line-self.ensures ∙ ap (λ (b : Bool). cond (b && true) c.ticks_now-now.result j.answered) c.has_answered-here.ensures)
    (c.behind_line-self-2.ensures ∙ ap (λ (b : Bool). cond (b && c.asks_for_code.result) c.ticks_now-now.result j.code) c.has_answered-here.ensures ∙ ap (λ (b : Bool). cond ((j.in_hand && not j.unanswered) && b) c.ticks_now-now.result j.code) c.asks_for_code.ensures)
    (c.behind_line-self-3.ensures ∙ ap (λ (b : Bool). cond (b && j.line.settles) c.ticks_now-now.result j.settled) c.has_answered-here.ensures)
    (c.moved_now-self.ensures ∙ ap (λ (b : Bool). moved_now b j.line j.moved) c.is_code.ensures)
    (c.moved_now-self-2.ensures ∙ ap (λ (b : Bool). moved_now b j.line j.jog_moved) c.is_jog.ensures)

pub returns-clause-stays : goal.returns-clause-stays
returns-clause-stays c = λ first sent replies records s. (returns-clause-stands c first sent replies records s).there

pub returns-clause-point : goal.returns-clause-point
returns-clause-point c =
    let j = c.args.self.now in
    close_kept j c.fresh-self.result c.moved_now-self.result c.moved_now-self-2.result c.behind_line-self.result c.behind_line-self-2.result c.behind_line-self-3.result c.requires c.fresh-self.ensures
    (c.moved_now-self.ensures ∙ ap (λ (b : Bool). moved_now b j.line j.moved) c.is_code.ensures)
    (c.moved_now-self-2.ensures ∙ ap (λ (b : Bool). moved_now b j.line j.jog_moved) c.is_jog.ensures)

pub returns-clause-heard : goal.returns-clause-heard
returns-clause-heard c =
    let j = c.args.self.now in
    close_heard j c.fresh-self.result c.moved_now-self.result c.moved_now-self-2.result c.behind_line-self.result c.behind_line-self-2.result c.behind_line-self-3.result c.requires c.fresh-self.ensures
    (c.moved_now-self.ensures ∙ ap (λ (b : Bool). moved_now b j.line j.moved) c.is_code.ensures)
    (c.moved_now-self-2.ensures ∙ ap (λ (b : Bool). moved_now b j.line j.jog_moved) c.is_jog.ensures)
