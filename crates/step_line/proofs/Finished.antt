-- Which pieces are unfinished while some ticks are done.
use Rattle.std.proofs.Common.{◌≡◌, ℕ, suc, ◌+◌, ◌-◌, ◌<◌, ◌≤◌, Bool, true, false, cond, nat_lt, List, [], ◌∷◌, ◌++◌, length, ◌↔◌, refl, ap, ◌∙◌, arith}
use Rattle.std.specs.List.{flat_map}
use Rattle.std.proofs.lemmas.Bool.Decides.{nat_tests}
use Rattle.std.proofs.lemmas.List.{length-append, length-map}
use Rattle.std.proofs.lemmas.List.Concat.{flat_map-append, flat_map-cons}
use Rattle.step_line.specs.declared.Piece.{Piece}
use Rattle.step_line.specs.declared.Piece.TheVariants as pieces
use Rattle.step_line.specs.declared.Record.TheVariants as kinds
use Rattle.step_line.specs.declared.Segment.{Segment}
use Rattle.step_line.specs.Events.{events_after}
use Rattle.step_line.specs.Pieces.{ticks_of}
use Rattle.step_line.specs.Finishing.{tick_count, ticks_together, unfinished}
use Rattle.step_line.proofs.Order.{length_after}

pub segment_ticks : (s : Segment) → tick_count (pieces.Segment s) ≡ s.n
segment_ticks s = length-map (events_after s.mv s.first s.n) kinds.Event ∙ length_after s.mv s.first s.n

pub together : (p : Piece) (ps : List Piece) → ticks_together (p ∷ ps) ≡ tick_count p + ticks_together ps
together p ps = ap length (flat_map-cons ticks_of p ps) ∙ length-append (ticks_of p) (flat_map ticks_of ps)

pub together_both : (ps qs : List Piece) → ticks_together (ps ++ qs) ≡ ticks_together ps + ticks_together qs
together_both ps qs = ap length (flat_map-append ticks_of ps qs) ∙ length-append (flat_map ticks_of ps) (flat_map ticks_of qs)

-- a piece counts where a tick of it is left
one_by : (done t n : ℕ) → done < t → cond (nat_lt done t) (suc n) n ≡ suc n
one_by done t n more = grind (arith, nat_tests)

none_by : (done t n : ℕ) → t ≤ done → cond (nat_lt done t) (suc n) n ≡ n
none_by done t n all = grind (arith, nat_tests)

pub all_done : (ps : List Piece) (done : ℕ) → ticks_together ps ≤ done → unfinished ps done ≡ 0
all_done [] done all = refl
all_done (p ∷ ps) done all =
    let e = together p ps in
    none_by done (tick_count p) (unfinished ps (done - tick_count p)) (omega arith) ∙ all_done ps (done - tick_count p) (omega arith)

none_counted : (done t n : ℕ) → cond (nat_lt done t) (suc n) n ≡ 0 → (t ≤ done) × (n ≡ 0)
none_counted done t n none = grind (arith, nat_tests)

pub none_left : (ps : List Piece) (done : ℕ) → unfinished ps done ≡ 0 → ticks_together ps ≤ done
none_left [] done none = omega arith
none_left (p ∷ ps) done none =
    let e = together p ps in
    let here = none_counted done (tick_count p) (unfinished ps (done - tick_count p)) none in
    let behind = none_left ps (done - tick_count p) here.1 in
    omega (arith, here.0)

pub none_once_all_done : (ps : List Piece) (done : ℕ) → (unfinished ps done ≡ 0) ↔ (ticks_together ps ≤ done)
none_once_all_done ps done = (none_left ps done, all_done ps done)

pub together_on : (ps : List Piece) (p : Piece) → ticks_together (ps ++ p ∷ []) ≡ ticks_together ps + tick_count p
together_on [] p = together p [] ∙ omega arith
together_on (q ∷ ps) p =
    let e = together q (ps ++ p ∷ []) in
    let behind = together_on ps p in
    let f = together q ps in
    omega arith

counted_on : (b : Bool) (n : ℕ) → cond b (suc (n + 1)) (n + 1) ≡ cond b (suc n) n + 1
counted_on true n = omega arith
counted_on false n = refl

pub one_more_behind : (ps : List Piece) (p : Piece) (done : ℕ) → 0 < tick_count p → done < ticks_together (ps ++ p ∷ []) → unfinished (ps ++ p ∷ []) done ≡ unfinished ps done + 1
one_more_behind [] p done some left =
    let e = together p [] in one_by done (tick_count p) 0 (omega arith)
one_more_behind (q ∷ ps) p done some left =
    let e = together q (ps ++ p ∷ []) in
    let more = together_on ps p in
    let behind = one_more_behind ps p (done - tick_count q) some (omega arith) in
    rw behind (counted_on (nat_lt done (tick_count q)) (unfinished ps (done - tick_count q)))

pub end_is_finished : (ps : List Piece) (done : ℕ) → unfinished (ps ++ pieces.End ∷ []) done ≡ unfinished ps done
end_is_finished [] done = none_by done 0 0 (omega arith)
end_is_finished (q ∷ ps) done = ap (λ n. cond (nat_lt done (tick_count q)) (suc n) n) (end_is_finished ps (done - tick_count q))

fewer_by : (done later t n m : ℕ) → done ≤ later → n ≤ m → cond (nat_lt later t) (suc n) n ≤ cond (nat_lt done t) (suc m) m
fewer_by done later t n m h few = grind (arith, nat_tests)

pub fewer_later : (ps : List Piece) (done later : ℕ) → done ≤ later → unfinished ps later ≤ unfinished ps done
fewer_later [] done later h = omega arith
fewer_later (p ∷ ps) done later h = fewer_by done later (tick_count p) _ _ h (fewer_later ps (done - tick_count p) (later - tick_count p) (omega arith))
