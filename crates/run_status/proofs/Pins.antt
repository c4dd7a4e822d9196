-- The subticks of the generated job: there are few of them, and the run is one epoch.
use Rattle.status_report.specs.Answering.{receive_room}
use Rattle.planner_runs.specs.Runs.{most_blocks, all_records}
use Rattle.std.proofs.Common.{◌≡◌, ℕ, ◌*◌, ◌^◌, ◌≤◌, Bool, true, false, cond, nat_lt, List, [], ◌∷◌, ◌++◌, length, map, refl, ap, ◌∙◌, subst, arith, append-nil}
use Rattle.std.proofs.lemmas.List.{length-append, length-map}
use Rattle.std.proofs.lemmas.List.FromFn.{length-range_with_len}
use Rattle.std.specs.List.{range_with_len, list_any}
use Rattle.flight.specs.Places.{origin}
use Rattle.outside.specs.Causes.{SourceState}
use Rattle.settings.specs.declared.Settings.{Settings}
use Rattle.step_line.specs.declared.Piece.{Piece}
use Rattle.step_line.specs.declared.Piece.TheVariants as pieces
use Rattle.step_line.specs.declared.Record.{Record}
use Rattle.step_line.specs.declared.Record.TheVariants as kinds
use Rattle.step_line.specs.Asking.{ticks_among, ticks_of_all}
use Rattle.step_line.specs.Asking.Asked.{a_move, a_rest}
use Rattle.step_line.specs.Events.{events_after, line_events}
use Rattle.step_line.specs.Pieces.{records_of}
use Rattle.step_line.proofs.Order.{length_after, length_line}
use Rattle.pulse_engine.specs.Logs.{ticks_in}
use Rattle.pulse_engine.proofs.Ticks.{ticks-append, ticks_in_piece}
use Rattle.step_record.specs.declared.forms.Form.TheVariants.{One}
use Rattle.motion_pulse.specs.declared.pulse.Stepping.{Stepping}
use Rattle.motion_pulse.specs.declared.pulse.Stepping.TheVariants.{Events, Subticks}
use Rattle.motion_pulse.specs.Pulses.{pins_by_heads}
use Rattle.smooth_step.specs.Counts.{subticks_of_heads}
use Rattle.smooth_step.proofs.Heads.{both_heads, no_heads}
use Rattle.run_rules.specs.Outcomes.{either}
use Rattle.run_rules.specs.Reports.{raises_alarm}
use Rattle.run_rules.specs.Told.{asked_in}
use Rattle.run_rules.specs.Work.{Outcome}
use Rattle.run_texts.specs.Courses.{lines_in}
use Rattle.run_texts.specs.Parts.{Part, lines_counted}
use Rattle.run_texts.specs.Parts.Ending.{by_end}
use Rattle.run_texts.specs.Recorded.{AreRecorded, HoldsSettled, ticks_for_all}
use Rattle.run_law.specs.declared.RunEnd.{RunEnd}
use Rattle.run_law.specs.Runs.{Sinks}
use Rattle.run_law.proofs.Begins.{ticks_length}
use Rattle.epoch_records.specs.Epochs.{Epoch, ArePut}
use Rattle.epoch_records.specs.Runs.{AreRun}
use Rattle.epoch_law.specs.Runs.{IsRun}
use Rattle.demo_job.specs.Jobs.{job_move}
use Rattle.demo_job.proofs.Summing.{few_events}
use Rattle.demo_law.specs.Asked.{demo_asks, demo_move}
use Rattle.run_status.specs.Demos.{subticks_in}
use Rattle.run_status.proofs.Accepted.{RunsWhole}

-- ---- at most eight subticks an event

eight_each : (n : ℕ) (a b c : Bool) → n * 2 ^ cond a 0 (cond b 1 (cond c 2 3)) ≤ 8 * n
eight_each n true b c = omega arith
eight_each n false true c = omega arith
eight_each n false false true = omega arith
eight_each n false false false = omega arith

piece_few : (p : Piece) → subticks_of_heads (records_of p) ≤ 8 * ticks_in (records_of p)
piece_few (pieces.Segment s) =
    let bits = events_after s.mv s.first s.n in
    let few = eight_each s.n (nat_lt s.cycles 2000) (nat_lt s.cycles 4000) (nat_lt s.cycles 8000) in
    let none = no_heads bits in
    let ticks = ticks_in_piece (pieces.Segment s) in
    let each = length-map bits kinds.Event in
    let all = length_after s.mv s.first s.n in
    omega (arith, few, none, ticks, each, all)
piece_few (pieces.Mark m) = omega arith
piece_few pieces.End = omega arith

pieces_few : (ps : List Piece) → subticks_of_heads (all_records ps) ≤ 8 * ticks_in (all_records ps)
pieces_few [] = omega arith
pieces_few (p ∷ ps) =
    let heads = both_heads (records_of p) (all_records ps) in
    let ticks = ticks-append (records_of p) (all_records ps) in
    let first = piece_few p in
    let rest = pieces_few ps in
    omega (arith, heads, ticks, first, rest)

-- ---- the run is one part, which the end ends

abbrev one_part : List Outcome → List Part
one_part lines = record { lines = lines; begun = []; ending = by_end } ∷ []

pub one_epoch : (lines : List Outcome) (es : List Epoch) → AreRun (one_part lines) origin es → length es ≡ 1
one_epoch lines [] are = absurd are
one_epoch lines (e ∷ es) are = ap (λ (fs : List Epoch). length (e ∷ fs)) are.2

records_few : (lines : List Outcome) (es : List Epoch) (records : List Record) → AreRun (one_part lines) origin es → ArePut es records → subticks_of_heads records ≤ 8 * ticks_in records
records_few lines [] records are put = absurd are
records_few lines (e ∷ es) records are put =
    let none : put.1 ≡ [] = subst (λ (fs : List Epoch). ArePut fs put.1) are.2 put.4 in
    let last : records_of e.closing ++ put.1 ≡ kinds.End ∷ [] = ap (λ (p : Piece). records_of p ++ put.1) are.0 ∙ ap (λ (rs : List Record). kinds.End ∷ rs) none in
    let all : records ≡ all_records e.pieces ++ kinds.End ∷ [] = put.2 ∙ ap (λ (rs : List Record). rs ++ (records_of e.closing ++ put.1)) (put.3.whole are.0) ∙ ap (λ (rs : List Record). all_records e.pieces ++ rs) last in
    let heads = ap subticks_of_heads all ∙ both_heads (all_records e.pieces) (kinds.End ∷ []) in
    let ticks = ap ticks_in all ∙ ticks-append (all_records e.pieces) (kinds.End ∷ []) in
    let few = pieces_few e.pieces in
    omega (arith, heads, ticks, few)

-- ---- the ticks are at most those that the lines ask for

front_few : (t : Bool) (p : Part) (ticks : List Record) → either t (HoldsSettled p ticks) (ticks ≡ ticks_for_all (lines_counted p)) → length ticks ≤ length (ticks_for_all (lines_counted p))
front_few true p ticks holds = let all = ap length holds.first.is ∙ length-append ticks holds.first.rest in omega (arith, all)
front_few false p ticks same = let all = ap length same in omega (arith, all)

ticks_few : (lines : List Outcome) (records : List Record) → AreRecorded origin (one_part lines) records → ticks_in records ≤ length (ticks_of_all (asked_in lines))
ticks_few lines records is =
    let part : Part = record { lines = lines; begun = []; ending = by_end } in
    let few = front_few (list_any raises_alarm lines) part (ticks_among is.0) is.3.ticks in
    let asked : length (ticks_for_all (lines_counted part)) ≡ length (ticks_of_all (asked_in lines)) = ap (λ (os : List Outcome). length (ticks_for_all os)) (append-nil lines) in
    let split = ap ticks_in is.2 ∙ ticks-append is.0 (kinds.End ∷ is.1) in
    let rest : ticks_in (kinds.End ∷ is.1) ≡ 0 = ap (λ (rs : List Record). ticks_in (kinds.End ∷ rs)) is.4 in
    let mine = ticks_length is.0 in
    omega (arith, few, asked, split, rest, mine)

-- ---- the generated job asks for few

moves_few : (s : Settings) (is : List ℕ) → length (ticks_of_all (map (λ i. a_move (demo_move s i)) is ++ a_rest ∷ a_rest ∷ [])) ≤ 1225 * length is
moves_few s [] = omega arith
moves_few s (i ∷ is) =
    let rest = moves_few s is in
    let more = map (λ i. a_move (demo_move s i)) is ++ a_rest ∷ a_rest ∷ [] in
    let both = length-append (map kinds.Event (line_events (job_move i))) (ticks_of_all more) in
    let each = length-map (line_events (job_move i)) kinds.Event in
    let all = length_line (job_move i) in
    let few = few_events i in
    omega (arith, rest, both, each, all, few)

job_few : (s : Settings) (n : ℕ) → length (ticks_of_all (demo_asks s n)) ≤ 1225 * n
job_few s n = let few = moves_few s (range_with_len 1 n) in let all = length-range_with_len 1 n in omega (arith, few, all)

-- ---- a run of the generated job

-- a count of 64 bits holds them
pub uncapped : (stepping : Stepping) (records : List Record) → subticks_of_heads records ≤ 980000000 → pins_by_heads stepping records ≡ subticks_in stepping records
uncapped Events records few = refl
uncapped Subticks records few = omega (arith, few)

module _ (n : ℕ) (most : n ≤ 100000) (job_was job_is : SourceState) (was is : Sinks) (end : RunEnd) (run : IsRun false receive_room most_blocks One job_was job_is was is end)
    (whole : RunsWhole n job_was job_is was is end run) where
  are_run : AreRun (one_part (lines_in run.fits.course)) origin run.epochs
  are_run = subst (λ (ps : List Part). AreRun ps origin run.epochs) whole.uncut run.recording.run

  pub one : length run.epochs ≡ 1
  one = one_epoch (lines_in run.fits.course) run.epochs are_run

  pub few : subticks_of_heads run.records ≤ 980000000
  few =
      let heads = records_few (lines_in run.fits.course) run.epochs run.records are_run run.recording.put in
      let ticks = ticks_few (lines_in run.fits.course) run.records (subst (λ (ps : List Part). AreRecorded origin ps run.records) whole.uncut run.fits.recorded) in
      let asks : length (ticks_of_all (asked_in (lines_in run.fits.course))) ≡ length (ticks_of_all (demo_asks run.fits.first.settings n)) = ap (λ asked. length (ticks_of_all asked)) whole.asks in
      let job = job_few run.fits.first.settings n in
      omega (arith, heads, ticks, asks, job, most)
