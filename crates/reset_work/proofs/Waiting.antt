-- A turn of a reset's work waits.
use Rattle.std.proofs.Common.{◌≡◌, ◌≤◌, ◌<◌, ◌+◌, ◌-◌, ◌^◌, ℕ, Bool, false, ◌∷◌, length, nat_eq, nat_lt, refl, sym, ap, subst, ◌∙◌, arith}
use Rattle.std.proofs.lemmas.Bool.Decides.{nat_tests}
use Rattle.motion_ring.specs.Sides as ring
use Rattle.outside.specs.declared.On.TheVariants as on
use Rattle.outside.specs.declared.Turn.TheVariants.{Wait}
use Rattle.run_rules.specs.declared.State.{State}
use Rattle.step_line.specs.Logs.{NewestFirst}
use Rattle.board_journal.specs.Ports.{BoardLog, MayBeDone, taken_in, sent_in}
use Rattle.board_journal.specs.Ports.PortStep.{found_mark, found_no_halt, loaded}
use Rattle.board_journal.specs.Steps.{Journal}
use Rattle.board_journal.specs.Steps.Step.{at_port}
use Rattle.board_epochs.specs.Epochs.{Closed, closed_log, last_line, log_behind, log_of, opening_behind}
use Rattle.board_epochs.specs.Epochs.Epochs.{resets}
use Rattle.board_epochs.specs.Work.{Work, Stage as WorkStage, MayWorkAt, NeedsAt, Works, stage_at, stage_of, by_mark, by_load, worked_in, halted_in}
use Rattle.board_epochs.specs.Work.Stage.{awaits_mark, awaits_halt, awaits_done}
use Rattle.board_epochs.proofs.Working.{Holds, holds, all_of}
use Rattle.reset_work.specs.declared.reset.ResetWork.{ResetWork}
use Rattle.reset_work.specs.declared.reset.Stage.{Stage}
use Rattle.reset_work.specs.declared.reset.Stage.TheVariants.{AwaitsMark, AwaitsHalt, AwaitsDone}
use Rattle.reset_work.specs.declared.reset.Words.TheVariants.{Both, None}
use Rattle.reset_work.specs.Working.{IsBetween, WorksOn, HasWaited, AreLeft, AreMade, bytes_left, mark_known, stage_in}
use Rattle.reset_work.proofs.Going.{both_dropped, stepped, turned_by, waits}

-- ---- for the host's mark

old_mark : (worked m : ℕ) → m ≤ worked → nat_lt worked m ≡ false
old_mark worked m le = grind (arith, nat_tests)

pub await_mark : (was is : BoardLog → Type 0) (it : ResetWork) (m bytes : ℕ) (blocks : ℕ) (state : State) (es : NewestFirst Closed) (h : Journal) (w : Work) → it.stage ≡ AwaitsMark → it.words ≡ None
    → m < 2 ^ 32 → m ≤ it.mark → IsBetween was it blocks state es h w → is (found_mark m bytes ∷ log_of (resets es h w)) → WorksOn is (Wait on.Reset) it (record it { words = Both }) blocks state es h w
await_mark was is it m bytes blocks state es h w at free fits old b port =
    let l = log_of (resets es h w) in
    let e = found_mark m bytes in
    let number = last_line (opening_behind blocks state es) h in
    let before = log_behind (closed_log es) h in
    let i = b.working in
    let stage : stage_of before w ≡ awaits_mark = i.stage_is ∙ ap stage_in at in
    let worked : it.mark ≡ worked_in l = i.mark_is ∙ ap (mark_known l) at in
    let still : stage_of before (at_port e ∷ w) ≡ awaits_mark =
    ap (stage_at l e) stage ∙ ap (λ (t : Bool). by_mark t (bytes - length (taken_in l))) (old_mark (worked_in l) m (subst (λ (n : ℕ). m ≤ n) worked old)) in
    turned_by is (Wait on.Reset) it (record it { words = Both }) blocks state es h w e port
    (stepped blocks state es h w e (Wait on.Reset) b.epochs (λ ends. absurd (let f = sym stage ∙ ends in cc)) (subst (MayWorkAt number l e) (sym stage) fits)
    (waits before w e on.Reset b.between refl refl refl (both_dropped it.words w free i.words_are) (subst (λ (s : WorkStage). NeedsAt on.Reset s (at_port e ∷ w)) (sym still) refl))
    (record { bytes = b.epochs.2.bytes; reports = b.epochs.2.reports }))
    (record {
      stage_is = still ∙ sym (ap stage_in at);
      words_are = tt;
      waited = subst (λ (s : Stage). HasWaited s Both) (sym at) tt;
      number_is = i.number_is;
      mark_is = worked ∙ sym (ap (mark_known (e ∷ l)) at);
      left_are = subst (AreLeft (e ∷ l)) (sym at) tt;
      taken_is = i.taken_is;
      dropped_is = i.dropped_is;
      halted_is = i.halted_is;
      made_are = subst (λ (s : Stage). AreMade (e ∷ l) s it.ticks) (sym at) tt;
    })
    (λ did. absurd cc)
    (λ ends. absurd (let f = sym at ∙ ends in cc))

-- ---- for the halt

pub await_halt : (was is : BoardLog → Type 0) (it : ResetWork) (left : ℕ) (blocks : ℕ) (state : State) (es : NewestFirst Closed) (h : Journal) (w : Work) → it.stage ≡ AwaitsHalt left → it.words ≡ None
    → IsBetween was it blocks state es h w → is (found_no_halt ∷ log_of (resets es h w)) → WorksOn is (Wait on.Halt) it (record it { words = Both }) blocks state es h w
await_halt was is it left blocks state es h w at free b port =
    let l = log_of (resets es h w) in
    let e = found_no_halt in
    let number = last_line (opening_behind blocks state es) h in
    let before = log_behind (closed_log es) h in
    let i = b.working in
    let stage : stage_of before w ≡ awaits_halt left = i.stage_is ∙ ap stage_in at in
    let still : stage_of before (at_port e ∷ w) ≡ awaits_halt left = ap (stage_at l e) stage in
    turned_by is (Wait on.Halt) it (record it { words = Both }) blocks state es h w e port
    (stepped blocks state es h w e (Wait on.Halt) b.epochs (λ ends. absurd (let f = sym stage ∙ ends in cc)) (subst (MayWorkAt number l e) (sym stage) tt)
    (waits before w e on.Halt b.between refl refl refl (both_dropped it.words w free i.words_are) (subst (λ (s : WorkStage). NeedsAt on.Halt s (at_port e ∷ w)) (sym still) refl))
    (record { bytes = b.epochs.2.bytes; reports = b.epochs.2.reports }))
    (record {
      stage_is = still ∙ sym (ap stage_in at);
      words_are = tt;
      waited = subst (λ (s : Stage). HasWaited s Both) (sym at) tt;
      number_is = i.number_is;
      mark_is = i.mark_is ∙ ap (mark_known l) at ∙ sym (ap (mark_known (e ∷ l)) at);
      left_are = subst (AreLeft (e ∷ l)) (sym at) (let k : left ≡ bytes_left l = subst (AreLeft l) at i.left_are in k);
      taken_is = i.taken_is;
      dropped_is = i.dropped_is;
      halted_is = i.halted_is;
      made_are = subst (λ (s : Stage). AreMade (e ∷ l) s it.ticks) (sym at) tt;
    })
    (λ did. absurd cc)
    (λ ends. absurd (let f = sym at ∙ ends in cc))

-- ---- for the mark of the reset

-- while it is awaited, the ticks published are those done at the halt and its own
pub published_then : (number : ℕ) (before : BoardLog) (w : Work) → Works number before w → stage_of before w ≡ awaits_done → ring.ticks_published (sent_in (all_of before w)) ≡ halted_in w + 1
published_then number before w works stage = ap ring.ticks_published (let s : Holds number before (all_of before w) (halted_in w) awaits_done = subst (Holds number before (all_of before w) (halted_in w)) stage (holds number before w works) in s)

undone : (done halted ticks : ℕ) → ticks ≡ halted + 1 → done ≤ halted → nat_eq done ticks ≡ false
undone done halted ticks is le = grind (arith, nat_tests)

pub await_done : (was is : BoardLog → Type 0) (it : ResetWork) (done : ℕ) (blocks : ℕ) (state : State) (es : NewestFirst Closed) (h : Journal) (w : Work) → it.stage ≡ AwaitsDone → it.words ≡ None
    → MayBeDone done (log_of (resets es h w)) → done ≤ it.halted → IsBetween was it blocks state es h w → is (loaded done ∷ log_of (resets es h w)) → WorksOn is (Wait on.Motion) it (record it { words = Both }) blocks state es h w
await_done was is it done blocks state es h w at free may below b port =
    let l = log_of (resets es h w) in
    let e = loaded done in
    let number = last_line (opening_behind blocks state es) h in
    let before = log_behind (closed_log es) h in
    let i = b.working in
    let stage : stage_of before w ≡ awaits_done = i.stage_is ∙ ap stage_in at in
    let ticks = published_then number before w b.epochs.1.works stage in
    let still : stage_of before (at_port e ∷ w) ≡ awaits_done =
    ap (stage_at l e) stage ∙ ap by_load (undone done (halted_in w) (ring.ticks_published (sent_in l)) ticks (subst (λ (n : ℕ). done ≤ n) i.halted_is below)) in
    turned_by is (Wait on.Motion) it (record it { words = Both }) blocks state es h w e port
    (stepped blocks state es h w e (Wait on.Motion) b.epochs (λ ends. absurd (let f = sym stage ∙ ends in cc)) (subst (MayWorkAt number l e) (sym stage) may)
    (waits before w e on.Motion b.between refl refl refl (both_dropped it.words w free i.words_are) (subst (λ (s : WorkStage). NeedsAt on.Motion s (at_port e ∷ w)) (sym still) refl))
    (record { bytes = b.epochs.2.bytes; reports = b.epochs.2.reports }))
    (record {
      stage_is = still ∙ sym (ap stage_in at);
      words_are = tt;
      waited = subst (λ (s : Stage). HasWaited s Both) (sym at) tt;
      number_is = i.number_is;
      mark_is = i.mark_is ∙ ap (mark_known l) at ∙ sym (ap (mark_known (e ∷ l)) at);
      left_are = subst (AreLeft (e ∷ l)) (sym at) tt;
      taken_is = i.taken_is;
      dropped_is = i.dropped_is;
      halted_is = i.halted_is;
      made_are = subst (λ (s : Stage). AreMade (e ∷ l) s it.ticks) (sym at) tt;
    })
    (λ did. absurd cc)
    (λ ends. absurd (let f = sym at ∙ ends in cc))
