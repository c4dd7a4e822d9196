-- What is left to ask behind a jog is nothing, or all that the last line asks for, which is that jog.
use Rattle.std.proofs.Common.{◌≡◌, ℕ, Bool, inl, inr, true, List, [], ◌∷◌, ◌++◌, drop, sym, refl, ap, ◌∙◌}
use Rattle.planner_runs.specs.declared.Action.{Action}
use Rattle.planner_runs.specs.declared.Action.TheVariants.{Add, Take, Override, Mark, Rest, Clear, Reset}
use Rattle.run_rules.specs.Finding.{Fate}
use Rattle.run_rules.specs.Finding.{Fate as fates}
use Rattle.run_rules.specs.declared.machine.Machine.{Machine}
use Rattle.run_rules.specs.Outcomes.{jogged_behind}
use Rattle.run_rules.specs.Work.{Task, Outcome, Kind, asks, asked_by_task, accepted_jog}
use Rattle.run_rules.specs.Work.Task.{ask, tell, pause, normal, finish, halt}
use Rattle.step_line.specs.Asking.{Asked}
use Rattle.step_line.specs.Asking.Asked.{a_move, a_mark, a_rest}
use Rattle.step_line.specs.declared.Piece.{Piece}
use Rattle.board_journal.specs.Openings.{Opening}
use Rattle.board_journal.specs.Ports.PortStep.{answered}
use Rattle.board_rules.specs.Parts.{DropsLast}
use Rattle.board_journal.specs.Steps.{Step, Journal, left_of, motion_of, open_of}
use Rattle.board_journal.specs.Steps.Step.{at_port, began, did, made_end, evened, paused, cut, halted, closing}
use Rattle.board_rules.specs.Cuts.{part_outcomes}
use Rattle.board_rules.specs.Turns.{has_jogged, machine_in}
use Rattle.board_rules.specs.Conduct.{Conducted, MayDo}
use Rattle.board_rules.proofs.Beginning.{fate_now}
use Rattle.board_rules.proofs.Dropping.{asks_dropped}
use Rattle.board_rules.proofs.Jogging.{OneMove, one_move}
use Rattle.board_rules.proofs.Opening.{asks_telling}

abbrev Drops : Opening → Journal → Type 0
Drops first h = DropsLast (asks (left_of first h)) (part_outcomes h)

-- a line of which a jog is the last that was accepted
line_drops : (m : Machine) (kept : List ℕ) (early : List Outcome) (o : Outcome) (was : Bool) → Fate m kept o → jogged_behind o.kind was ≡ true → DropsLast (asks o.work) (early ++ o ∷ [])
line_drops m kept early o was (fates.coded kind other) is = absurd (let e = sym (ap (λ (k : Kind). jogged_behind k was) kind) ∙ is in cc)
line_drops m kept early o was (fates.a_jog kind other dollar still work) is = inr (early, o, refl, refl, ap accepted_jog kind)
line_drops m kept early o was (fates.halted kind other still work) is = inl (ap asks work)
line_drops m kept early o was (fates.neither kind still none) is = inl none

-- what is done next asks for nothing
same_asks : (ts : List Task) (t : Task) → ts ≡ t ∷ drop 1 ts → asked_by_task t ≡ [] → asks (drop 1 ts) ≡ asks ts
same_asks ts t next none = sym (ap asks next ∙ ap (λ (xs : List Asked). xs ++ asks (drop 1 ts)) none)

drops_on : (first : Opening) (h : Journal) (s : Step) → asks (left_of first (s ∷ h)) ≡ asks (left_of first h) → part_outcomes (s ∷ h) ≡ part_outcomes h → Drops first h → Drops first (s ∷ h)
drops_on first h s left outcomes (inl none) = inl (left ∙ none)
drops_on first h s left outcomes (inr (early, o, is, all, jog)) = inr (early, o, outcomes ∙ is, all ∙ sym left, jog)

-- it asks for the one move
none_behind : (ts : List Task) (a : Asked) → ts ≡ ask a ∷ drop 1 ts → OneMove ts → asks (drop 1 ts) ≡ []
none_behind ts a next (inl none) = absurd (let e = sym (ap asks next) ∙ none in cc)
none_behind ts a next (inr (m, is, none)) = none

drops_did : (first : Opening) (h : Journal) (a : Action) (ps : List Piece) → MayDo first a h → OneMove (left_of first h) → Drops first h → Drops first (did a ps ∷ h)
drops_did first h (Add m) ps may one drops = inl (none_behind (left_of first h) (a_move m) may one)
drops_did first h (Mark m) ps may one drops = inl (none_behind (left_of first h) (a_mark m) may.next one)
drops_did first h Rest ps may one drops = inl (none_behind (left_of first h) a_rest may.next one)
drops_did first h (Take mode) ps may one drops = drops
drops_did first h (Override o) ps may one drops = drops
drops_did first h Clear ps may one drops = absurd may
drops_did first h Reset ps may one drops = absurd may

pub drops_last : (first : Opening) (h : Journal) → Conducted first h → has_jogged h ≡ true → Drops first h
drops_last first [] c is = inl (asks_telling first.tells)
drops_last first (at_port (answered r) ∷ h) c is = drops_on first h (at_port (answered r)) (same_asks (left_of first h) (tell r) c.0.next refl) refl (drops_last first h c.1 is)
drops_last first (began o ∷ h) c is = line_drops (machine_in (motion_of first h)) (open_of h) (part_outcomes h) o (has_jogged h) (fate_now first h o c.0) is
drops_last first (did a ps ∷ h) c is = drops_did first h a ps c.0.0 (one_move first h c.1 is) (drops_last first h c.1 is)
drops_last first (made_end ∷ h) c is = drops_on first h made_end (same_asks (left_of first h) finish c.0.next refl) refl (drops_last first h c.1 is)
drops_last first (evened ∷ h) c is = drops_on first h evened (same_asks (left_of first h) normal c.0.rests.next refl) refl (drops_last first h c.1 is)
drops_last first (paused ∷ h) c is = drops_on first h paused (same_asks (left_of first h) pause c.0.rests.next refl) refl (drops_last first h c.1 is)
drops_last first (cut k ∷ h) c is = inl (asks_dropped (left_of first h))
drops_last first (halted ∷ h) c is = drops_on first h halted (same_asks (left_of first h) halt c.0.next refl) refl (drops_last first h c.1 is)
drops_last first (closing ∷ h) c is = inl refl
drops_last first (_ ∷ h) c is = drops_last first h c.1 is
