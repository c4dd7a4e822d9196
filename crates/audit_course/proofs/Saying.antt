-- What a task says of a line.
use Rattle.std.proofs.Common.{◌≡◌, Bool, true, false, ◌||◌, List, refl, subst}
use Rattle.step_line.specs.Asking.Asked.{a_rest}
use Rattle.step_line.specs.declared.Mark.{Mark}
use Rattle.run_rules.specs.Work.{Task}
use Rattle.run_rules.specs.Work.Task.{ask, tell, pause, normal, finish}
use Rattle.line_interpreter.specs.Lefts.{IsNextOf, IsTodo}
use Rattle.line_interpreter.specs.declared.tasks.Todo.{Todo}
use Rattle.line_interpreter.specs.declared.tasks.Todo.TheVariants as todos
use Rattle.status_report.specs.declared.Reply.{Reply}
use Rattle.audit_course.specs.declared.Progress.{Progress}
use Rattle.audit_course.specs.Progressing.{Counts}

pub or_on : (a b c : Bool) → ((a || b) || c) ≡ (a || (b || c))
or_on true b c = refl
or_on false b c = refl

-- a reply that is told says nothing of a line
or_none : (b : Bool) → b ≡ (b || false)
or_none true = refl
or_none false = refl

pub tells_nothing_of : (l : Progress) (r : Reply) → Counts l l (tell r)
tells_nothing_of l r = record { accepted = refl; moves = or_none l.moves; asks = or_none l.asks; settles = refl; halts = or_none l.halts }

-- nor does any other task but a move, a mark and a halt
next_is : (t u : Task) (left : List Task) → IsNextOf t left → IsNextOf u left → t ≡ u
next_is t u left a b = cc (a, b)

rests_so : (l : Progress) → Counts l l (ask a_rest)
rests_so l = record { accepted = refl; moves = or_none l.moves; asks = or_none l.asks; settles = refl; halts = or_none l.halts }

pauses_so : (l : Progress) → Counts l l pause
pauses_so l = record { accepted = refl; moves = or_none l.moves; asks = or_none l.asks; settles = refl; halts = or_none l.halts }

normal_so : (l : Progress) → Counts l l normal
normal_so l = record { accepted = refl; moves = or_none l.moves; asks = or_none l.asks; settles = refl; halts = or_none l.halts }

finish_so : (l : Progress) → Counts l l finish
finish_so l = record { accepted = refl; moves = or_none l.moves; asks = or_none l.asks; settles = refl; halts = or_none l.halts }

pub counts_nothing : (l : Progress) (todo : Todo) (left : List Task) → IsTodo todo left → (todo ≡ todos.Move → ⊥) → ((m : Mark) → todo ≡ todos.Mark m → ⊥) → (todo ≡ todos.Halt → ⊥) → (t : Task) → IsNextOf t left → Counts l l t
counts_nothing l todos.Nothing left is move mark halts t next = absurd (cc (is, next))
counts_nothing l todos.Rest left is move mark halts t next = subst (Counts l l) (next_is (ask a_rest) t left is next) (rests_so l)
counts_nothing l (todos.Mark m) left is move mark halts t next = absurd (mark m refl)
counts_nothing l todos.Move left is move mark halts t next = absurd (move refl)
counts_nothing l todos.Tell left is move mark halts t next = subst (Counts l l) (next_is (tell is.0) t left is.1 next) (tells_nothing_of l is.0)
counts_nothing l todos.Pause left is move mark halts t next = subst (Counts l l) (next_is pause t left is next) (pauses_so l)
counts_nothing l todos.Normal left is move mark halts t next = subst (Counts l l) (next_is normal t left is next) (normal_so l)
counts_nothing l todos.Finish left is move mark halts t next = subst (Counts l l) (next_is finish t left is next) (finish_so l)
counts_nothing l todos.Halt left is move mark halts t next = absurd (halts refl)
