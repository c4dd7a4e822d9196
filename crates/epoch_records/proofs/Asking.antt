-- No line asks for the mark of a cut or a reset.
use Rattle.std.proofs.Common.{◌≡◌, ℕ, Bool, true, false, List, [], ◌∷◌, ◌++◌, map, sym, refl, subst, append-nil}
use Rattle.run_rules.specs.Locking.{BecomesLocked}
use Rattle.run_rules.specs.Outcomes.{Becomes, either}
use Rattle.run_rules.specs.Work.{Task, Outcome, asks}
use Rattle.run_rules.specs.Work.Task.{ask}
use Rattle.run_rules.proofs.Items.{IsOfItem, PassesTasks, holds_of_lines}
use Rattle.run_rules.proofs.Locking.{locked_still}
use Rattle.run_texts.specs.Points.{Point, BecomesAt}
use Rattle.step_line.specs.Asking.{Asked, ticks_of_all}
use Rattle.step_line.specs.Asking.Asked.{a_move, a_mark, a_rest}
use Rattle.step_line.specs.declared.Bits.{Bits}
use Rattle.step_line.specs.declared.Mark.TheVariants as marks
use Rattle.step_line.specs.declared.Record.{Record}
use Rattle.step_line.specs.declared.Record.TheVariants as kinds
use Rattle.step_line.specs.Events.{line_events}
use Rattle.epoch_records.specs.Runs.{AskForNoEnding}
use Rattle.epoch_records.proofs.Driving.{Inside}

-- what these tasks ask for
abbrev AsksInside : List Task → Type 0
AsksInside ts = Inside (ticks_of_all (asks ts))

pub events_inside : (bs : List Bits) (rs : List Record) → Inside rs → Inside (map kinds.Event bs ++ rs)
events_inside [] rs all = all
events_inside (b ∷ bs) rs all = (refl, events_inside bs rs all)

one_inside : (a : Asked) (ts : List Task) → IsOfItem a → AsksInside ts → AsksInside (ask a ∷ ts)
one_inside (a_move m) ts is all = events_inside (line_events m.mv) (ticks_of_all (asks ts)) all
one_inside (a_mark (marks.Dwell ms)) ts is all = (refl, all)
one_inside (a_mark (marks.Spindle code speed)) ts is all = (refl, all)
one_inside (a_mark (marks.Coolant on)) ts is all = (refl, all)
one_inside (a_mark (marks.Cut k)) ts is all = absurd is
one_inside (a_mark (marks.Reset k)) ts is all = absurd is
one_inside a_rest ts is all = all

tasks_inside : PassesTasks AsksInside
tasks_inside = record { asks = one_inside; pauses = λ ts all. all; normals = λ ts all. all; ends = λ ts all. all }

asks_inside : (runs : Bool) (p : Point) (kept : List ℕ) (o : Outcome) → (locked : Bool) → p.locked ≡ locked → BecomesAt runs p kept o → AsksInside o.work
asks_inside runs p kept o true e is =
    let still = locked_still p.before kept o (subst (λ t. either t (BecomesLocked p.before kept o) (Becomes runs p.before kept o)) e is) in
    subst (λ (asked : List Asked). Inside (ticks_of_all asked)) (sym still.asks) tt
asks_inside runs p kept o false e is =
    holds_of_lines AsksInside tasks_inside (λ r ts all. all) (λ n. tt) tt tt runs p.before kept o (subst (λ t. either t (BecomesLocked p.before kept o) (Becomes runs p.before kept o)) e is)

pub ask_for_no_ending : (runs : Bool) (p : Point) (kept : List ℕ) (o : Outcome) → BecomesAt runs p kept o → AskForNoEnding (o ∷ [])
ask_for_no_ending runs p kept o is =
    subst (λ (asked : List Asked). Inside (ticks_of_all asked)) (sym (append-nil (asks o.work))) (asks_inside runs p kept o p.locked refl is)
