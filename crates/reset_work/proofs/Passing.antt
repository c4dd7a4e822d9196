-- A turn of a reset's work goes on to the next stage.
use Rattle.std.proofs.Common.{◌≡◌, ◌≤◌, ◌<◌, ◌+◌, ◌-◌, ◌^◌, inl, inr, ℕ, suc, Bool, true, ◌∷◌, ◌++◌, [], length, length-append, nat_eq, nat_lt, refl, sym, ap, subst, ◌∙◌, arith}
use Rattle.std.proofs.lemmas.Bool.Decides.{nat_tests}
use Rattle.std.proofs.lemmas.List.Sums.{count_by-le-length}
use Rattle.code_table.specs.declared.flags.Ovr.{Ovr}
use Rattle.motion_ring.specs.Sides as ring
use Rattle.outside.specs.declared.Turn.TheVariants.{Did}
use Rattle.run_rules.specs.declared.State.{State}
use Rattle.status_report.specs.Answering.{lfs_in}
use Rattle.status_report.proofs.Answered.{lfs_on}
use Rattle.step_line.specs.declared.Mark.TheVariants as marks
use Rattle.step_line.specs.declared.Piece.TheVariants as pieces
use Rattle.step_line.specs.Logs.{NewestFirst}
use Rattle.board_journal.specs.Ports.{BoardLog, HasTakenFew, MayBeDone, MayPublish, taken_in, sent_in}
use Rattle.board_journal.specs.Ports.PortStep.{took, found_mark, took_ovr, published, loaded, stored_stop, found_halt}
use Rattle.board_journal.specs.Steps.{Journal, port_log}
use Rattle.board_journal.specs.Steps.Step.{at_port, turned}
use Rattle.board_epochs.specs.Epochs.{Closed, closed_log, last_line, log_behind, log_of, opening_behind}
use Rattle.board_epochs.specs.Epochs.Epochs.{resets}
use Rattle.board_epochs.specs.Work.{Work, MayWorkAt, stage_at, stage_of, by_mark, by_load, dropping, worked_in, halted_in}
use Rattle.board_epochs.specs.Work.Stage.{drops_changes, awaits_mark, stops, awaits_halt, drops, publishes, awaits_done}
use Rattle.board_epochs.proofs.Asking.{mark_there}
use Rattle.reset_work.specs.declared.reset.ResetWork.{ResetWork}
use Rattle.reset_work.specs.declared.reset.Stage.TheVariants.{DropsChanges, AwaitsMark, Stops, AwaitsHalt, Drops, AwaitsDone, Over}
use Rattle.reset_work.specs.declared.reset.Words.{Words}
use Rattle.reset_work.specs.declared.reset.Words.TheVariants.{None}
use Rattle.reset_work.specs.Working.{IsBetween, WorksOn, AreDropped, AreLeft, bytes_left, mark_known, stage_in, number_at}
use Rattle.reset_work.proofs.Going.{both_dropped, one_out, stepped, turned_by}
use Rattle.reset_work.proofs.Waiting.{published_then}

-- ---- the word of overrides is dropped

pub drop_changes : (was is : BoardLog → Type 0) (it : ResetWork) (word : Ovr) (blocks : ℕ) (state : State) (es : NewestFirst Closed) (h : Journal) (w : Work) → it.stage ≡ DropsChanges → it.words ≡ None
    → IsBetween was it blocks state es h w → is (took_ovr word ∷ log_of (resets es h w)) → WorksOn is Did it (record it { stage = AwaitsMark }) blocks state es h w
drop_changes was is it word blocks state es h w at free b port =
    let l = log_of (resets es h w) in
    let e = took_ovr word in
    let number = last_line (opening_behind blocks state es) h in
    let before = log_behind (closed_log es) h in
    let i = b.working in
    let stage : stage_of before w ≡ drops_changes = i.stage_is ∙ ap stage_in at in
    let next = turned Did ∷ at_port e ∷ w in
    let dropped = both_dropped it.words w free i.words_are in
    turned_by is Did it (record it { stage = AwaitsMark }) blocks state es h w e port
    (stepped blocks state es h w e Did b.epochs (λ ends. absurd (let f = sym stage ∙ ends in cc)) (subst (MayWorkAt number l e) (sym stage) tt) (one_out e w b.between) (record { bytes = b.epochs.2.bytes; reports = b.epochs.2.reports }))
    (record {
      stage_is = ap (stage_at l e) stage;
      words_are = subst (λ (ws : Words). AreDropped ws next) (sym free) (refl, dropped.1);
      waited = tt;
      number_is = i.number_is;
      mark_is = i.mark_is ∙ ap (mark_known l) at;
      left_are = tt;
      taken_is = i.taken_is;
      dropped_is = i.dropped_is;
      halted_is = i.halted_is;
      made_are = tt;
    })
    (λ did. inr (let f = ap number_at at in omega (arith, f)))
    (λ ends. absurd cc)

-- ---- the host's mark is new

new_mark : (worked m : ℕ) → worked < m → nat_lt worked m ≡ true
new_mark worked m lt = grind (arith, nat_tests)

pub found_new_mark : (was is : BoardLog → Type 0) (it : ResetWork) (m bytes left : ℕ) (blocks : ℕ) (state : State) (es : NewestFirst Closed) (h : Journal) (w : Work) → it.stage ≡ AwaitsMark → it.words ≡ None
    → m < 2 ^ 32 → it.mark < m → left ≡ bytes - it.taken → IsBetween was it blocks state es h w → is (found_mark m bytes ∷ log_of (resets es h w)) → WorksOn is Did it (record it { stage = Stops left; mark = m }) blocks state es h w
found_new_mark was is it m bytes left blocks state es h w at free fits new left_is b port =
    let l = log_of (resets es h w) in
    let e = found_mark m bytes in
    let number = last_line (opening_behind blocks state es) h in
    let before = log_behind (closed_log es) h in
    let i = b.working in
    let stage : stage_of before w ≡ awaits_mark = i.stage_is ∙ ap stage_in at in
    let next = turned Did ∷ at_port e ∷ w in
    let dropped = both_dropped it.words w free i.words_are in
    let worked : it.mark ≡ worked_in l = i.mark_is ∙ ap (mark_known l) at in
    let bytes_are : left ≡ bytes - length (taken_in l) = left_is ∙ ap (λ (n : ℕ). bytes - n) i.taken_is in
    turned_by is Did it (record it { stage = Stops left; mark = m }) blocks state es h w e port
    (stepped blocks state es h w e Did b.epochs (λ ends. absurd (let f = sym stage ∙ ends in cc)) (subst (MayWorkAt number l e) (sym stage) fits) (one_out e w b.between) (record { bytes = b.epochs.2.bytes; reports = b.epochs.2.reports }))
    (record {
      stage_is = ap (stage_at l e) stage ∙ ap (λ (t : Bool). by_mark t (bytes - length (taken_in l))) (new_mark (worked_in l) m (subst (λ (n : ℕ). n < m) worked new)) ∙ ap stops (sym bytes_are);
      words_are = subst (λ (ws : Words). AreDropped ws next) (sym free) dropped;
      waited = free;
      number_is = i.number_is;
      mark_is = refl;
      left_are = bytes_are;
      taken_is = i.taken_is;
      dropped_is = i.dropped_is;
      halted_is = i.halted_is;
      made_are = tt;
    })
    (λ did. inr (let f = ap number_at at in omega (arith, f)))
    (λ ends. absurd cc)

-- ---- the pulse is told to stop

pub stop_pulse : (was is : BoardLog → Type 0) (it : ResetWork) (left : ℕ) (blocks : ℕ) (state : State) (es : NewestFirst Closed) (h : Journal) (w : Work) → it.stage ≡ Stops left → it.words ≡ None
    → IsBetween was it blocks state es h w → is (stored_stop ∷ log_of (resets es h w)) → WorksOn is Did it (record it { stage = AwaitsHalt left }) blocks state es h w
stop_pulse was is it left blocks state es h w at free b port =
    let l = log_of (resets es h w) in
    let e = stored_stop in
    let number = last_line (opening_behind blocks state es) h in
    let before = log_behind (closed_log es) h in
    let i = b.working in
    let stage : stage_of before w ≡ stops left = i.stage_is ∙ ap stage_in at in
    let next = turned Did ∷ at_port e ∷ w in
    let dropped = both_dropped it.words w free i.words_are in
    turned_by is Did it (record it { stage = AwaitsHalt left }) blocks state es h w e port
    (stepped blocks state es h w e Did b.epochs (λ ends. absurd (let f = sym stage ∙ ends in cc)) (subst (MayWorkAt number l e) (sym stage) tt) (one_out e w b.between) (record { bytes = b.epochs.2.bytes; reports = b.epochs.2.reports }))
    (record {
      stage_is = ap (stage_at l e) stage;
      words_are = subst (λ (ws : Words). AreDropped ws next) (sym free) dropped;
      waited = tt;
      number_is = i.number_is;
      mark_is = i.mark_is ∙ ap (mark_known l) at;
      left_are = subst (AreLeft l) at i.left_are;
      taken_is = i.taken_is;
      dropped_is = i.dropped_is;
      halted_is = i.halted_is;
      made_are = tt;
    })
    (λ did. inr (let f = ap number_at at in omega (arith, f)))
    (λ ends. absurd cc)

-- ---- it has halted

pub found_halted : (was is : BoardLog → Type 0) (it : ResetWork) (left done : ℕ) (blocks : ℕ) (state : State) (es : NewestFirst Closed) (h : Journal) (w : Work) → it.stage ≡ AwaitsHalt left → it.words ≡ None
    → MayBeDone done (log_of (resets es h w)) → IsBetween was it blocks state es h w → is (found_halt done ∷ log_of (resets es h w)) → WorksOn is Did it (record it { stage = Drops left; halted = done }) blocks state es h w
found_halted was is it left done blocks state es h w at free may b port =
    let l = log_of (resets es h w) in
    let e = found_halt done in
    let number = last_line (opening_behind blocks state es) h in
    let before = log_behind (closed_log es) h in
    let i = b.working in
    let stage : stage_of before w ≡ awaits_halt left = i.stage_is ∙ ap stage_in at in
    let next = turned Did ∷ at_port e ∷ w in
    let dropped = both_dropped it.words w free i.words_are in
    turned_by is Did it (record it { stage = Drops left; halted = done }) blocks state es h w e port
    (stepped blocks state es h w e Did b.epochs (λ ends. absurd (let f = sym stage ∙ ends in cc)) (subst (MayWorkAt number l e) (sym stage) may) (one_out e w b.between) (record { bytes = b.epochs.2.bytes; reports = b.epochs.2.reports }))
    (record {
      stage_is = ap (stage_at l e) stage;
      words_are = subst (λ (ws : Words). AreDropped ws next) (sym free) dropped;
      waited = free;
      number_is = i.number_is;
      mark_is = i.mark_is ∙ ap (mark_known l) at;
      left_are = subst (AreLeft l) at i.left_are;
      taken_is = i.taken_is;
      dropped_is = i.dropped_is;
      halted_is = refl;
      made_are = tt;
    })
    (λ did. inr (let f = ap number_at at in omega (arith, f)))
    (λ ends. absurd cc)

-- ---- bytes before the mark are dropped

-- of the bytes that the work took no more end a line than were taken in all
pub few_dropped : (it : ResetWork) (before : BoardLog) (w : Work) → it.dropped ≡ lfs_in (taken_in (port_log w)) → it.taken ≡ length (taken_in (port_log w ++ before)) → it.dropped ≤ it.taken
few_dropped it before w dropped taken =
    let a = count_by-le-length (λ (b : ℕ). nat_eq b 10) (taken_in (port_log w)) in
    let m = more_own (port_log w) before in
    omega (arith, dropped, taken, a, m)
  where
    more_own : (l before : BoardLog) → length (taken_in l) ≤ length (taken_in (l ++ before))
    more_own [] before = omega arith
    more_own (took b ∷ l) before =
        let e = more_own l before in let x = length-append (taken_in l) (b ∷ []) in let y = length-append (taken_in (l ++ before)) (b ∷ []) in omega (arith, e, x, y)
    more_own (_ ∷ l) before = more_own l before

pub drop_byte : (was is : BoardLog → Type 0) (it : ResetWork) (left rest : ℕ) (byte taken dropped : ℕ) (blocks : ℕ) (state : State) (es : NewestFirst Closed) (h : Journal) (w : Work) → it.stage ≡ Drops left → left ≡ suc rest → it.words ≡ None
    → taken ≡ it.taken + 1 → dropped ≡ it.dropped + lfs_in (byte ∷ [])
    → HasTakenFew (log_of (resets es h w)) → IsBetween was it blocks state es h w → is (took byte ∷ log_of (resets es h w)) → WorksOn is Did it (record it { stage = Drops rest; taken = taken; dropped = dropped }) blocks state es h w
drop_byte was is it left rest byte taken dropped_now blocks state es h w at more free taken_now lfs_now few b port =
    let l = log_of (resets es h w) in
    let e = took byte in
    let number = last_line (opening_behind blocks state es) h in
    let before = log_behind (closed_log es) h in
    let i = b.working in
    let stage : stage_of before w ≡ drops (suc rest) = i.stage_is ∙ ap stage_in at ∙ ap dropping more in
    let next = turned Did ∷ at_port e ∷ w in
    let dropped = both_dropped it.words w free i.words_are in
    let one = length-append (taken_in l) (byte ∷ []) in
    let k : left ≡ bytes_left l = subst (AreLeft l) at i.left_are in
    turned_by is Did it (record it { stage = Drops rest; taken = taken; dropped = dropped_now }) blocks state es h w e port
    (stepped blocks state es h w e Did b.epochs (λ ends. absurd (let f = sym stage ∙ ends in cc)) (subst (MayWorkAt number l e) (sym stage) few) (one_out e w b.between)
    (record { bytes = omega (arith, one, few); reports = b.epochs.2.reports }))
    (record {
      stage_is = ap (stage_at l e) stage;
      words_are = subst (λ (ws : Words). AreDropped ws next) (sym free) dropped;
      waited = free;
      number_is = i.number_is;
      mark_is = i.mark_is ∙ ap (mark_known l) at;
      left_are = omega (arith, one, k, more);
      taken_is = (let t = i.taken_is in omega (arith, one, t, taken_now));
      dropped_is = lfs_now ∙ ap (λ (n : ℕ). n + lfs_in (byte ∷ [])) i.dropped_is ∙ sym (lfs_on (taken_in (port_log w)) (byte ∷ []));
      halted_is = i.halted_is;
      made_are = tt;
    })
    (λ did. inl refl)
    (λ ends. absurd cc)

-- ---- the mark of the reset is published

pub may_publish : (was : BoardLog → Type 0) (it : ResetWork) (blocks : ℕ) (state : State) (es : NewestFirst Closed) (h : Journal) (w : Work) → it.stage ≡ Drops 0 → IsBetween was it blocks state es h w
    → MayPublish (log_of (resets es h w)) (pieces.Mark (marks.Reset it.number))
may_publish was it blocks state es h w at b =
    let i = b.working in
    subst (λ (n : ℕ). MayPublish (log_of (resets es h w)) (pieces.Mark (marks.Reset n))) (sym i.number_is) (mark_there blocks state es h w b.epochs (i.stage_is ∙ ap stage_in at))

pub publish_mark : (was is : BoardLog → Type 0) (it : ResetWork) (blocks : ℕ) (state : State) (es : NewestFirst Closed) (h : Journal) (w : Work) → it.stage ≡ Drops 0 → it.words ≡ None
    → IsBetween was it blocks state es h w → is (published (pieces.Mark (marks.Reset it.number)) ∷ log_of (resets es h w)) → WorksOn is Did it (record it { stage = AwaitsDone }) blocks state es h w
publish_mark was is it blocks state es h w at free b port =
    let l = log_of (resets es h w) in
    let e = published (pieces.Mark (marks.Reset it.number)) in
    let number = last_line (opening_behind blocks state es) h in
    let before = log_behind (closed_log es) h in
    let i = b.working in
    let stage : stage_of before w ≡ publishes = i.stage_is ∙ ap stage_in at in
    let next = turned Did ∷ at_port e ∷ w in
    let dropped = both_dropped it.words w free i.words_are in
    turned_by is Did it (record it { stage = AwaitsDone }) blocks state es h w e port
    (stepped blocks state es h w e Did b.epochs (λ ends. absurd (let f = sym stage ∙ ends in cc)) (subst (MayWorkAt number l e) (sym stage) (ap (λ (n : ℕ). pieces.Mark (marks.Reset n)) i.number_is)) (one_out e w b.between)
    (record { bytes = b.epochs.2.bytes; reports = b.epochs.2.reports }))
    (record {
      stage_is = ap (stage_at l e) stage;
      words_are = subst (λ (ws : Words). AreDropped ws next) (sym free) dropped;
      waited = tt;
      number_is = i.number_is;
      mark_is = i.mark_is ∙ ap (mark_known l) at;
      left_are = tt;
      taken_is = i.taken_is;
      dropped_is = i.dropped_is;
      halted_is = i.halted_is;
      made_are = tt;
    })
    (λ did. inl refl)
    (λ ends. absurd cc)

-- ---- it is done

all_done : (done halted ticks : ℕ) → ticks ≡ halted + 1 → halted < done → done ≤ ticks → nat_eq done ticks ≡ true
all_done done halted ticks is above below = grind (arith, nat_tests)

pub found_done : (was is : BoardLog → Type 0) (it : ResetWork) (done : ℕ) (blocks : ℕ) (state : State) (es : NewestFirst Closed) (h : Journal) (w : Work) → it.stage ≡ AwaitsDone → it.words ≡ None
    → MayBeDone done (log_of (resets es h w)) → it.halted < done → IsBetween was it blocks state es h w → is (loaded done ∷ log_of (resets es h w)) → WorksOn is Did it (record it { stage = Over; ticks = done }) blocks state es h w
found_done was is it done blocks state es h w at free may above b port =
    let l = log_of (resets es h w) in
    let e = loaded done in
    let number = last_line (opening_behind blocks state es) h in
    let before = log_behind (closed_log es) h in
    let i = b.working in
    let stage : stage_of before w ≡ awaits_done = i.stage_is ∙ ap stage_in at in
    let next = turned Did ∷ at_port e ∷ w in
    let dropped = both_dropped it.words w free i.words_are in
    let ticks = published_then number before w b.epochs.1.works stage in
    turned_by is Did it (record it { stage = Over; ticks = done }) blocks state es h w e port
    (stepped blocks state es h w e Did b.epochs (λ ends. absurd (let f = sym stage ∙ ends in cc)) (subst (MayWorkAt number l e) (sym stage) may) (one_out e w b.between) (record { bytes = b.epochs.2.bytes; reports = b.epochs.2.reports }))
    (record {
      stage_is = ap (stage_at l e) stage ∙ ap by_load (all_done done (halted_in w) (ring.ticks_published (sent_in l)) ticks (subst (λ (n : ℕ). n < done) i.halted_is above) may.below);
      words_are = subst (λ (ws : Words). AreDropped ws next) (sym free) dropped;
      waited = free;
      number_is = i.number_is;
      mark_is = i.mark_is ∙ ap (mark_known l) at;
      left_are = tt;
      taken_is = i.taken_is;
      dropped_is = i.dropped_is;
      halted_is = i.halted_is;
      made_are = refl;
    })
    (λ did. inr (let f = ap number_at at in omega (arith, f)))
    (λ ends. (let f = ap number_at at in omega (arith, f)))
