-- What the calls of the tests' port make of it.
use Rattle.std.proofs.Common.{◌≡◌, ◌⊎◌, inl, inr, ◌≤◌, ◌<◌, ◌+◌, ◌-◌, ℕ, suc, Bool, true, false, cond, nat_lt, List, ◌∷◌, ◌++◌, [], reverse, sym, subst, arith}
use Rattle.std.proofs.lemmas.Bool.Decides.{nat_tests}
use Rattle.std.proofs.lemmas.Grind.{reverse_onto}
use Rattle.motion_ring.specs.Sides as ring
use Rattle.motion_ring.proofs.Ticks.{together_reversed}
use Rattle.serial_ring.specs.Logs.{marked_in}
use Rattle.serial_ring.specs.Marks.{MarkedPast}
use Rattle.status_report.specs.declared.Reply.{Reply}
use Rattle.status_report.specs.declared.Reply.TheVariants as replies
use Rattle.step_line.proofs.Finished.{together, fewer_later}
use Rattle.step_line.specs.Finishing.{tick_count, ticks_together, unfinished}
use Rattle.step_line.specs.declared.Piece.{Piece}
use Rattle.board_journal.specs.Ports.{BoardLog, IsMarkedPast, MayBeDone, link_steps, sent_in, said}
use Rattle.board_journal.specs.Ports.PortStep.{found_mark, published, loaded}
use Rattle.reset_work.specs.Tapes.{IsTape}

pub answers : (stored left ticks done : ℕ) (l : BoardLog) (r : Reply) → IsTape stored left ticks done l → IsTape stored left ticks done (said r ∷ l)
answers stored left ticks done l (replies.Report x) t = record { bytes = t.bytes; marks = t.marks; ticks_are = t.ticks_are; known = t.known; below = t.below; few = t.few }
answers stored left ticks done l r t = record { bytes = t.bytes; marks = t.marks; ticks_are = t.ticks_are; known = t.known; below = t.below; few = t.few }

none_past : (stored n bytes : ℕ) (earlier : Type 0) → bytes ≤ stored → (earlier → n < stored) → (n < bytes) ⊎ earlier → n < stored
none_past stored n bytes earlier few before (inl past) = omega (arith, past, few)
none_past stored n bytes earlier few before (inr past) = before past

pub marks : (stored left ticks done m bytes : ℕ) (l : BoardLog) → bytes ≤ stored → IsTape stored left ticks done l → IsTape stored left ticks done (found_mark m bytes ∷ l)
marks stored left ticks done m bytes l few t =
    record { bytes = t.bytes; marks = λ n past. none_past stored n bytes (MarkedPast n (marked_in (link_steps l))) few (t.marks n) past; ticks_are = t.ticks_are; known = t.known; below = t.below; few = t.few }

pub not_empty : {A : Type 0} (stored ticks done : ℕ) (l : BoardLog) → IsTape stored 0 ticks done l → IsMarkedPast l → A
not_empty stored ticks done l t past = absurd (let n = t.marks _ past in let b = t.bytes in omega (arith, n, b))

-- ---- what is done

pub later_done : (stored left ticks done later : ℕ) (l : BoardLog) → done ≤ later → later ≤ ticks → IsTape stored left ticks done l → IsTape stored left ticks later (loaded later ∷ l)
later_done stored left ticks done later l le within t =
    let s = sent_in l in
    let few = t.few in
    let f = fewer_later (reverse s.since) (done - ring.ticks_at s.halts) (later - ring.ticks_at s.halts) (omega (arith, le)) in
    record { bytes = t.bytes; marks = t.marks; ticks_are = t.ticks_are; known = omega arith; below = within; few = omega (arith, few, f) }

pub may_be_done : (stored left ticks done later : ℕ) (l : BoardLog) → done ≤ later → later ≤ ticks → IsTape stored left ticks done l → MayBeDone later l
may_be_done stored left ticks done later l le within t =
    let s = sent_in l in
    let few = t.few in let known = t.known in let is = t.ticks_are in
    let f = fewer_later (reverse s.since) (done - ring.ticks_at s.halts) (later - ring.ticks_at s.halts) (omega (arith, le)) in
    record { later = omega (arith, known, le); below = omega (arith, is, within); few = omega (arith, few, f) }

-- ---- a piece

done_before : (done t n : ℕ) → t ≤ done → cond (nat_lt done t) (suc n) n ≡ n
done_before done t n all = grind (arith, nat_tests)

at_most : (b : Bool) → cond b (suc 0) 0 ≤ 1
at_most true = omega arith
at_most false = omega arith

-- where all pieces before it are done, the last alone may be unfinished
last_alone : (ps : List Piece) (p : Piece) (done : ℕ) → ticks_together ps ≤ done → unfinished (ps ++ p ∷ []) done ≤ 1
last_alone [] p done all = at_most (nat_lt done (tick_count p))
last_alone (q ∷ ps) p done all =
    let e = together q ps in
    let here = done_before done (tick_count q) (unfinished (ps ++ p ∷ []) (done - tick_count q)) (omega (arith, e, all)) in
    let behind = last_alone ps p (done - tick_count q) (omega (arith, e, all)) in
    omega (arith, here, behind)

pub publishes : (stored left ticks done n : ℕ) (l : BoardLog) (p : Piece) → n ≡ tick_count p → IsTape stored left ticks done l → IsTape stored left (ticks + n) ticks (published p ∷ l)
publishes stored left ticks done n l p is t =
    let s = sent_in l in
    let e = together p s.since in
    let all = t.ticks_are in let known = t.known in let below = t.below in
    let r = together_reversed s.since in
    let last = last_alone (reverse s.since) p (ticks - ring.ticks_at s.halts) (omega (arith, r, all)) in
    record {
      bytes = t.bytes;
      marks = t.marks;
      ticks_are = omega (arith, e, all, is);
      known = omega (arith, known, below);
      below = omega arith;
      few = subst (λ (ps : List Piece). unfinished ps (ticks - ring.ticks_at s.halts) ≤ 1) (sym (reverse_onto s.since p [])) last;
    }
