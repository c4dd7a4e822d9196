use Rattle.std.proofs.Common.{rules, ◌≡◌, ◌+◌, Bool, not, ◌||◌, [], ◌∷◌, ap, ◌∙◌, ℕ}
use Rattle.flight.specs.Places.{moved_by}
use Rattle.part_making.specs.Judging.{Goes, Refuses}
use Rattle.audit_course.proofs.Heard.{same_heard}
use Rattle.audit_course.proofs.Parting.{record_taken, was_no, was_yes}
use Rattle.audit_course.proofs.Refused.{makes_not, never_follows}
use Rattle.audit_course.proofs.judge.CourseJudge.take.Goals as goal

pub returns-then-not-take-clause-here : goal.returns-then-not-take-clause-here
returns-then-not-take-clause-here c = λ no owes inside place few.
    let refuses : Refuses c.args.self.now.part c.args.given.now = search rules in
    makes_not c.args.self.now c.args.given.now refuses

pub returns-then-not-take-clause-no : goal.returns-then-not-take-clause-no
returns-then-not-take-clause-no c = λ no owes inside place few. never_follows c.args.self.now c.args.given.now (returns-then-not-take-clause-here c no owes inside place few) inside

pub returns-clause-yes : goal.returns-clause-yes
returns-clause-yes c = λ yes first sent replies records s.
    let goes : Goes c.args.self.now.part c.args.given.now c.take.new.self = search rules in
    let place : c.in-Some.place ≡ moved_by c.args.self.now.place (c.args.given.now ∷ []) = search rules in
    record_taken c.args.self.now c.args.given.now c.take.new.self c.in-Some.place (c.args.self.now.events + c.event_count-count.result) c.touches-self.result (not c.owes-idle.result) c.behind_record-self.result c.behind_record-self-2.result c.behind_record-self-3.result
    first sent replies records s goes place (ap (λ (n : ℕ). c.args.self.now.events + n) c.event_count-count.ensures.is)
    (λ e. c.owes-idle.ensures.idle (was_no c.owes-idle.result e)) (λ e. c.owes-idle.ensures.owes.0 (was_yes c.owes-idle.result e)) (c.touches-self.ensures ∙ ap (λ (b : Bool). c.args.self.now.touched || b) c.is_whole.ensures)
    c.behind_record-self.ensures c.behind_record-self-2.ensures c.behind_record-self-3.ensures

pub returns-then-not-take-clause-heard : goal.returns-then-not-take-clause-heard
returns-then-not-take-clause-heard c = let j = c.args.self.now in same_heard j c.take.new.self j.place j.events j.touched j.answered j.code j.settled

pub returns-clause-heard : goal.returns-clause-heard
returns-clause-heard c =
    same_heard c.args.self.now c.take.new.self c.in-Some.place (c.args.self.now.events + c.event_count-count.result) c.touches-self.result c.behind_record-self.result c.behind_record-self-2.result c.behind_record-self-3.result
