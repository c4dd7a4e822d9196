-- The subticks of a world that has run to its end.
use Rattle.std.proofs.Common.{◌≡◌, ◌∙◌, inl, inr, ℕ, Bool, List, [], ◌∷◌, length, reverse, sym, ap, arith}
use Rattle.outside.specs.declared.Actor.{Actor}
use Rattle.outside.specs.declared.Actor.TheVariants as actors
use Rattle.outside.specs.declared.Turn.{Turn}
use Rattle.step_line.specs.Logs.{NewestFirst}
use Rattle.step_line.specs.declared.Record.{Record as AnyRecord}
use Rattle.pulse_engine.specs.Logs.{records_put}
use Rattle.motion_pulse.specs.declared.pulse.Stepping.{Stepping}
use Rattle.motion_pulse.specs.Pulses.{pins_of, pins_by_heads, stepping_of}
use Rattle.epoch_records.specs.Epochs.{Epoch}
use Rattle.epoch_records.specs.Publishing.{AreSameHalts, halts_in}
use Rattle.host_journal.specs.Steps.{is_attended}
use Rattle.stream_host.proofs.Running.{turned_attended, attended_own}
use Rattle.actor_turns.specs.Worlds.{Seen, History, Holds, Adds, Turns, no_history, pins_in}
use Rattle.actor_turns.specs.Pacing.{PacedTurns, pace_after}
use Rattle.actor_turns.specs.declared.pacing.Pace.{Pace}

-- a run of one epoch has no halt
pub one_unhalted : (es : List Epoch) (halts : NewestFirst (ℕ × ℕ)) → length es ≡ 1 → AreSameHalts (reverse (halts_in 0 0 es)) halts → halts ≡ []
one_unhalted [] halts one same = absurd (omega (arith, one))
one_unhalted (e ∷ []) halts one (inl same) = same
one_unhalted (e ∷ []) halts one (inr same) = same
one_unhalted (e ∷ (f ∷ es)) halts one same = absurd (omega (arith, one))

-- by the history of the world, and the records of the run
pub counted_by_heads : {N : ℕ} (w : Seen N) (hist : History) → Holds w hist → pins_of (stepping_of w.pulse) hist.puts ≡ pins_by_heads (stepping_of w.pulse) (records_put hist.puts)
    → (records : List AnyRecord) → records ≡ records_put hist.puts → pins_in hist ≡ pins_by_heads hist.stepping records
counted_by_heads w hist h by_heads records same =
    ap (λ (kind : Stepping). pins_of kind hist.puts) (sym h.stepping)
    ∙ by_heads
    ∙ ap (λ (kind : Stepping). pins_by_heads kind (records_put hist.puts)) h.stepping
    ∙ ap (pins_by_heads hist.stepping) (sym same)

-- ---- turns change nothing of how the pulse steps

turn_stays : {N : ℕ} (actor : Actor) (t : Turn) (w w' : Seen N) (hist next : History) → Adds actor t w w' hist next → next.stepping ≡ hist.stepping
turn_stays actors.Host t w w' hist next adds = ap (λ (h : History). h.stepping) adds.0
turn_stays actors.Board t w w' hist next adds = ap (λ (h : History). h.stepping) adds.0
turn_stays actors.Pulse t w w' hist next adds = ap (λ (h : History). h.stepping) adds.0
turn_stays actors.Record t w w' hist next adds = ap (λ (h : History). h.stepping) adds.0

pub stepping_stays : {N : ℕ} (schedule : List Actor) (w w' : Seen N) (hist next : History) → Turns schedule w w' hist next → next.stepping ≡ hist.stepping
stepping_stays [] w w' hist next turns = ap (λ (h : History). h.stepping) turns.1
stepping_stays (actor ∷ schedule) w w' hist next turns =
    stepping_stays schedule turns.1 w' turns.2 next turns.4 ∙ turn_stays actor turns.0 w turns.1 hist turns.2 turns.3

-- ---- nor of whom the host reads for

turn_attends : {N : ℕ} (actor : Actor) (t : Turn) (w w' : Seen N) (hist next : History) → Adds actor t w w' hist next → is_attended next.host ≡ is_attended hist.host
turn_attends actors.Host t w w' hist next adds = turned_attended t w.host w'.host hist.host next.host adds.1
turn_attends actors.Board t w w' hist next adds = ap (λ (h : History). is_attended h.host) adds.0
turn_attends actors.Pulse t w w' hist next adds = ap (λ (h : History). is_attended h.host) adds.0
turn_attends actors.Record t w w' hist next adds = ap (λ (h : History). is_attended h.host) adds.0

turns_attend : {N : ℕ} (schedule : List Actor) (w w' : Seen N) (hist next : History) → Turns schedule w w' hist next → is_attended next.host ≡ is_attended hist.host
turns_attend [] w w' hist next turns = ap (λ (h : History). is_attended h.host) turns.1
turns_attend (actor ∷ schedule) w w' hist next turns =
    turns_attend schedule turns.1 w' turns.2 next turns.4 ∙ turn_attends actor turns.0 w turns.1 hist turns.2 turns.3

paced_attend : {N : ℕ} (schedule : List Actor) (p p' : Pace) (w w' : Seen N) (hist next : History) → PacedTurns schedule p p' w w' hist next → is_attended next.host ≡ is_attended hist.host
paced_attend [] p p' w w' hist next turns = ap (λ (h : History). is_attended h.host) turns.2
paced_attend (actor ∷ schedule) p p' w w' hist next turns =
    paced_attend schedule (pace_after turns.0 turns.1 p) p' turns.2 w' turns.3 next turns.8 ∙ turn_attends actor turns.0 w turns.2 hist turns.3 turns.5

-- so a world does what it was made for, since nothing was done
pub attended_since : {N : ℕ} (attended : Bool) (stepping : Stepping) (schedule : List Actor) (w w' : Seen N) (next : History) → Turns schedule w w' (no_history attended stepping) next → Holds w' next → w'.host.attended ≡ attended
attended_since attended stepping schedule w w' next turns h = h.host.attended_is ∙ turns_attend schedule w w' (no_history attended stepping) next turns ∙ attended_own attended

pub paced_since : {N : ℕ} (attended : Bool) (stepping : Stepping) (schedule : List Actor) (p p' : Pace) (w w' : Seen N) (next : History) → PacedTurns schedule p p' w w' (no_history attended stepping) next → Holds w' next → w'.host.attended ≡ attended
paced_since attended stepping schedule p p' w w' next turns h = h.host.attended_is ∙ paced_attend schedule p p' w w' (no_history attended stepping) next turns ∙ attended_own attended
