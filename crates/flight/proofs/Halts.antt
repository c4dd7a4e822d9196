-- Halts leave the machine where it is.
use Rattle.std.proofs.Common.{◌≡◌, ℕ, zero, suc, ◌+◌, ◌-◌, ◌≤◌, List, [], ◌∷◌, ◌++◌, length, take, sym, refl, ap, ◌∙◌, arith, append-nil, append_assoc, length-append}
use Rattle.std.specs.List.{flat_map}
use Rattle.std.proofs.lemmas.List.Concat.{flat_map-append, flat_map-cons}
use Rattle.std.proofs.Math.Seq.{take-append-add}
use Rattle.step_line.specs.declared.Piece.{Piece}
use Rattle.step_line.specs.declared.Record.{Record}
use Rattle.step_line.specs.Pieces.{ticks_of}
use Rattle.step_line.specs.Finishing.{tick_count, ticks_together}
use Rattle.flight.specs.Places.{moved_by, origin, machine_at}
use Rattle.flight.specs.Halts.{Stretch, AreStretches, ticks_made, count_made, machine_after, halted_at, halted}
use Rattle.flight.proofs.Places.{moved_on}

taken : (xs : List Record) (n : ℕ) → n ≤ length xs → length (take n xs) ≡ n
taken xs zero le = refl
taken [] (suc n) le = absurd (omega arith)
taken (x ∷ xs) (suc n) le = let e = taken xs n (omega arith) in omega arith

made : (ss : List Stretch) → AreStretches ss → length (ticks_made ss) ≡ count_made ss
made [] are = refl
made (s ∷ ss) are =
    let a = length-append (take s.done (flat_map ticks_of s.pieces)) (ticks_made ss) in
    let b = taken (flat_map ticks_of s.pieces) s.done are.0 in
    let c = made ss are.1 in omega arith

made_on : (ss : List Stretch) (s : Stretch) → ticks_made (ss ++ s ∷ []) ≡ ticks_made ss ++ take s.done (flat_map ticks_of s.pieces)
made_on [] s = append-nil (take s.done (flat_map ticks_of s.pieces))
made_on (q ∷ ss) s = ap (λ (l : List Record). take q.done (flat_map ticks_of q.pieces) ++ l) (made_on ss s) ∙ sym (append_assoc (take q.done (flat_map ticks_of q.pieces)) (ticks_made ss) (take s.done (flat_map ticks_of s.pieces)))

-- the first ticks, past those of the halted stretches
first_ticks : (ss : List Stretch) (ps : List Piece) (done : ℕ) → AreStretches ss → count_made ss ≤ done → take done (ticks_made ss ++ flat_map ticks_of ps) ≡ ticks_made ss ++ take (done - count_made ss) (flat_map ticks_of ps)
first_ticks ss ps done are le =
    let m = made ss are in
    ap (λ n. take n (ticks_made ss ++ flat_map ticks_of ps)) (let e : done ≡ length (ticks_made ss) + (done - count_made ss) = omega arith in e) ∙ take-append-add (ticks_made ss) (flat_map ticks_of ps) (done - count_made ss)

pub unhalted : (ps : List Piece) (done : ℕ) → machine_after [] ps done ≡ machine_at ps done
unhalted ps done = refl

pub goes_from : (ss : List Stretch) (ps : List Piece) (done : ℕ) → AreStretches ss → count_made ss ≤ done → machine_after ss ps done ≡ moved_by (halted_at ss) (take (done - count_made ss) (flat_map ticks_of ps))
goes_from ss ps done are le = ap (moved_by origin) (first_ticks ss ps done are le) ∙ moved_on origin (ticks_made ss) (take (done - count_made ss) (flat_map ticks_of ps))

stretches_on : (ss : List Stretch) (s : Stretch) → AreStretches ss → s.done ≤ ticks_together s.pieces → AreStretches (ss ++ s ∷ [])
stretches_on [] s are le = (le, tt)
stretches_on (q ∷ ss) s are le = (are.0, stretches_on ss s are.1 le)

pub halts_well : (ss : List Stretch) (ps : List Piece) (done : ℕ) → AreStretches ss → done ≤ count_made ss + ticks_together ps → AreStretches (halted ss ps done)
halts_well ss ps done are le = stretches_on ss (record { pieces = ps; done = done - count_made ss }) are (omega arith)

count_on : (ss : List Stretch) (s : Stretch) → count_made (ss ++ s ∷ []) ≡ count_made ss + s.done
count_on [] s = omega arith
count_on (q ∷ ss) s = let e = count_on ss s in omega arith

pub counts_all : (ss : List Stretch) (ps : List Piece) (done : ℕ) → count_made ss ≤ done → count_made (halted ss ps done) ≡ done
counts_all ss ps done le = let e = count_on ss (record { pieces = ps; done = done - count_made ss }) in omega arith

pub stays : (ss : List Stretch) (ps : List Piece) (done : ℕ) → AreStretches ss → count_made ss ≤ done → halted_at (halted ss ps done) ≡ machine_after ss ps done
stays ss ps done are le = ap (moved_by origin) (made_on ss (record { pieces = ps; done = done - count_made ss }) ∙ sym (first_ticks ss ps done are le))

-- the ticks of whole pieces, and the first of the one that is cut
pub cut_ticks : (ps : List Piece) (p : Piece) (qs : List Piece) (m : ℕ) → m ≤ tick_count p → take (ticks_together ps + m) (flat_map ticks_of (ps ++ p ∷ qs)) ≡ flat_map ticks_of ps ++ take m (ticks_of p)
cut_ticks ps p qs m le =
    ap (take (ticks_together ps + m)) (flat_map-append ticks_of ps (p ∷ qs))
    ∙ (take-append-add (flat_map ticks_of ps) (flat_map ticks_of (p ∷ qs)) m
    ∙ ap (λ (l : List Record). flat_map ticks_of ps ++ l) (ap (take m) (flat_map-cons ticks_of p qs) ∙ within (ticks_of p) (flat_map ticks_of qs) m le))
  where
    within : (xs ys : List Record) (n : ℕ) → n ≤ length xs → take n (xs ++ ys) ≡ take n xs
    within xs ys zero le = refl
    within [] ys (suc n) le = absurd (omega arith)
    within (x ∷ xs) ys (suc n) le = ap (λ (l : List Record). x ∷ l) (within xs ys n (omega arith))
