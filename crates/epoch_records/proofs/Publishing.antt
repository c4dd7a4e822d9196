-- Where a pulse got or dropped what was published of epochs, and has halted where they halt, its stretches are these epochs.
use Rattle.std.proofs.Common.{◌≡◌, ℕ, suc, ◌+◌, inl, inr, true, false, cond, nat_eq, List, [], ◌∷◌, ◌++◌, length, reverse, sym, refl, ap, ◌∙◌, subst, append-nil, append_assoc, arith}
use Rattle.std.proofs.lemmas.Bool.Decides.{nat_tests}
use Rattle.std.proofs.lemmas.List.{length-append, reverse-append}
use Rattle.flight.specs.Halts.{Stretch, count_made}
use Rattle.pulse_engine.specs.Logs.{PieceLog, RecordLog, pieces_of, halts_of, records_put, end_is_put}
use Rattle.pulse_engine.specs.Steps.{Pulsing}
use Rattle.pulse_engine.specs.Turns.{PulseFits}
use Rattle.run_texts.specs.Parts.{Part}
use Rattle.run_texts.specs.Recorded.{AreRecorded}
use Rattle.step_line.specs.Finishing.{ticks_together}
use Rattle.step_line.specs.Logs.{NewestFirst}
use Rattle.step_line.specs.declared.Piece.{Piece}
use Rattle.step_line.specs.declared.Piece.TheVariants as pieces
use Rattle.units.specs.declared.Steps3.{Steps3}
use Rattle.epoch_records.specs.Epochs.{Epoch}
use Rattle.epoch_records.specs.Publishing.{published_in, halts_in, but_none, AreOver}
use Rattle.epoch_records.specs.Runs.{AreRun}
use Rattle.epoch_records.specs.Stretches.{stretches_in, pieces_since, pieces_of_all, EndStretches, Opens, AreEpochsOf}
use Rattle.epoch_records.proofs.Epochs.{one_parting, stretches_put}
use Rattle.epoch_records.proofs.Over.{are_recorded}
use Rattle.epoch_records.proofs.Pulsing.{made_on, stretches_on, all_pieces, halts_end, done_over}

-- ---- the stretches of epochs

abbrev stretch_for : List Piece → Epoch → Stretch
stretch_for opens e = record { pieces = opens ++ e.pieces; done = ticks_together opens + e.done }

abbrev stretches_for : List Piece → List Epoch → List Stretch
stretches_for opens [] = []
stretches_for opens (e ∷ []) = []
stretches_for opens (e ∷ (f ∷ es)) = stretch_for opens e ∷ stretches_for (e.closing ∷ []) (f ∷ es)

-- what is published behind the last halt
abbrev last_for : List Piece → List Epoch → List Piece
last_for opens [] = opens
last_for opens (e ∷ []) = opens ++ (e.pieces ++ e.closing ∷ [])
last_for opens (e ∷ (f ∷ es)) = last_for (e.closing ∷ []) (f ∷ es)

are_epochs : (es : List Epoch) (opens : List Piece) → AreOver es → AreEpochsOf opens es (stretches_for opens es) (last_for opens es)
are_epochs [] opens over = absurd over
are_epochs (e ∷ []) opens over = (refl, over.0, over.1, ap (λ (c : Piece). opens ++ (e.pieces ++ c ∷ [])) over.0)
are_epochs (e ∷ (f ∷ es)) opens over =
    (over.0, inr (stretch_for opens e, stretches_for (e.closing ∷ []) (f ∷ es), refl, record { pieces = refl; done = refl }, are_epochs (f ∷ es) (e.closing ∷ []) over.2))

all_published : (e : Epoch) (es : List Epoch) (opens : List Piece) → pieces_of_all (stretches_for opens (e ∷ es)) ++ last_for opens (e ∷ es) ≡ opens ++ published_in (e ∷ es)
all_published e [] opens = refl
all_published e (f ∷ es) opens =
    append_assoc (opens ++ e.pieces) (pieces_of_all (stretches_for (e.closing ∷ []) (f ∷ es))) (last_for (e.closing ∷ []) (f ∷ es))
    ∙ ap (λ (ps : List Piece). (opens ++ e.pieces) ++ ps) (all_published f es (e.closing ∷ []))
    ∙ append_assoc opens e.pieces (e.closing ∷ published_in (f ∷ es))

-- ---- their halts

reversed_onto : {A : Type 0} (x : A) (xs ys : List A) → reverse (x ∷ xs) ++ ys ≡ reverse xs ++ (x ∷ ys)
reversed_onto x xs ys = ap (λ zs. zs ++ ys) (reverse-append (x ∷ []) xs) ∙ append_assoc (reverse xs) (x ∷ []) ys

one_tick : (c : Piece) → Opens (c ∷ []) → ticks_together (c ∷ []) ≡ 1
one_tick (pieces.Mark m) opens = refl
one_tick (pieces.Segment s) opens = absurd opens
one_tick pieces.End opens = absurd opens

-- behind stretches that were ended before
halts_behind : (es : List Epoch) (opens : List Piece) (early : List Stretch) (halts : NewestFirst (ℕ × ℕ)) (published done : ℕ) → AreOver es → EndStretches halts early
    → published ≡ length (pieces_of_all early) + length opens → done ≡ count_made early + ticks_together opens
    → EndStretches (reverse (halts_in published done es) ++ halts) (early ++ stretches_for opens es)
halts_behind [] opens early halts published done over ends pieces ticks = absurd over
halts_behind (e ∷ []) opens early halts published done over ends pieces ticks = subst (λ (ss : List Stretch). EndStretches halts ss) (sym (append-nil early)) ends
halts_behind (e ∷ (f ∷ es)) opens early halts published done over ends pieces ticks =
    let s = stretch_for opens e in
    let long : length (pieces_of_all (early ++ s ∷ [])) ≡ length (pieces_of_all early) + (length opens + length e.pieces) =
    ap length (stretches_on early s) ∙ length-append (pieces_of_all early) (opens ++ e.pieces) ∙ ap (λ n. length (pieces_of_all early) + n) (length-append opens e.pieces) in
    let made = made_on early s in
    let tick = one_tick e.closing over.0 in
    let next : EndStretches ((published + length e.pieces, done + e.done) ∷ halts) (early ++ s ∷ []) = (early, s, refl, omega (arith, long, pieces), omega (arith, made, ticks), ends) in
    let on = halts_behind (f ∷ es) (e.closing ∷ []) (early ++ s ∷ []) ((published + length e.pieces, done + e.done) ∷ halts) (published + length e.pieces + 1) (done + e.done + 1) over.2 next
    (omega (arith, long, pieces)) (omega (arith, made, ticks, tick)) in
    subst (λ (hs : List (ℕ × ℕ)). EndStretches hs (early ++ (s ∷ stretches_for (e.closing ∷ []) (f ∷ es))))
    (sym (reversed_onto (published + length e.pieces, done + e.done) (halts_in (published + length e.pieces + 1) (done + e.done + 1) (f ∷ es)) halts))
    (subst (λ (ss : List Stretch). EndStretches (reverse (halts_in (published + length e.pieces + 1) (done + e.done + 1) (f ∷ es)) ++ ((published + length e.pieces, done + e.done) ∷ halts)) ss)
    (append_assoc early (s ∷ []) (stretches_for (e.closing ∷ []) (f ∷ es))) on)

halts_are : (es : List Epoch) (opens : List Piece) (published done : ℕ) → AreOver es → published ≡ length opens → done ≡ ticks_together opens
    → EndStretches (reverse (halts_in published done es)) (stretches_for opens es)
halts_are es opens published done over pieces ticks =
    subst (λ (hs : List (ℕ × ℕ)). EndStretches hs (stretches_for opens es)) (append-nil (reverse (halts_in published done es)))
    (halts_behind es opens [] [] published done over refl (omega (arith, pieces)) (omega (arith, ticks)))

-- ---- stretches with the same pieces and halts

-- they are those of the epochs
same_stretches : (halts : NewestFirst (ℕ × ℕ)) (ss : List Stretch) (last : List Piece) (e : Epoch) (es : List Epoch) (opens : List Piece) → AreOver (e ∷ es) → pieces_of_all ss ++ last ≡ opens ++ published_in (e ∷ es)
    → EndStretches halts ss → EndStretches halts (stretches_for opens (e ∷ es)) → AreEpochsOf opens (e ∷ es) ss last
same_stretches halts ss last e es opens over pieces end halted =
    let same = one_parting halts (stretches_for opens (e ∷ es)) ss (last_for opens (e ∷ es)) last halted end (all_published e es opens ∙ sym pieces) in
    subst (λ (ps : List Piece). AreEpochsOf opens (e ∷ es) ss ps) same.1
    (subst (λ (xs : List Stretch). AreEpochsOf opens (e ∷ es) xs (last_for opens (e ∷ es))) same.0 (are_epochs (e ∷ es) opens over))

pub epochs_of_stretches : (es : List Epoch) (halts : NewestFirst (ℕ × ℕ)) (ss : List Stretch) (last : List Piece) → AreOver es → pieces_of_all ss ++ last ≡ published_in es → EndStretches halts ss → halts ≡ reverse (halts_in 0 0 es)
    → AreEpochsOf [] es ss last
epochs_of_stretches [] halts ss last over pieces end are = absurd over
epochs_of_stretches (e ∷ es) halts ss last over pieces end are =
    same_stretches halts ss last e es [] over pieces end (subst (λ (hs : List (ℕ × ℕ)). EndStretches hs (stretches_for [] (e ∷ es))) (sym are) (halts_are (e ∷ es) [] 0 0 over refl refl))

-- ---- where no halt is stored at no pieces

some_pieces : (n m : ℕ) → n ≡ suc m → nat_eq n 0 ≡ false
some_pieces n m e = grind (arith, nat_tests)

-- behind a piece none is at no pieces
none_dropped : (es : List Epoch) (published m done : ℕ) → published ≡ suc m → but_none (halts_in published done es) ≡ halts_in published done es
none_dropped [] published m done some = refl
none_dropped (e ∷ []) published m done some = refl
none_dropped (e ∷ (f ∷ es)) published m done some =
    let rest = none_dropped (f ∷ es) (published + length e.pieces + 1) (m + length e.pieces + 1) (done + e.done + 1) (omega (arith, some)) in
    let test = some_pieces (published + length e.pieces) (m + length e.pieces) (omega (arith, some)) in
    ap (λ t. cond t (but_none (halts_in (published + length e.pieces + 1) (done + e.done + 1) (f ∷ es))) ((published + length e.pieces, done + e.done) ∷ but_none (halts_in (published + length e.pieces + 1) (done + e.done + 1) (f ∷ es)))) test
    ∙ ap (λ (hs : List (ℕ × ℕ)). (published + length e.pieces, done + e.done) ∷ hs) rest

-- the first epoch has a piece, or none
by_first : (e f : Epoch) (es : List Epoch) (halts : NewestFirst (ℕ × ℕ)) (ss : List Stretch) (last : List Piece) (ps : List Piece) → e.pieces ≡ ps → AreOver (e ∷ (f ∷ es)) → pieces_of_all ss ++ last ≡ published_in (e ∷ (f ∷ es)) → EndStretches halts ss
    → halts ≡ reverse (but_none (halts_in 0 0 (e ∷ (f ∷ es)))) → AreEpochsOf [] (e ∷ (f ∷ es)) ss last
by_first e f es halts ss last (p ∷ ps) some over pieces end are =
    let later = halts_in (0 + length e.pieces + 1) (0 + e.done + 1) (f ∷ es) in
    let test = some_pieces (0 + length e.pieces) (length ps) (omega (arith, ap length some)) in
    let rest = none_dropped (f ∷ es) (0 + length e.pieces + 1) (length e.pieces) (0 + e.done + 1) (omega arith) in
    let same : but_none (halts_in 0 0 (e ∷ (f ∷ es))) ≡ halts_in 0 0 (e ∷ (f ∷ es)) =
    ap (λ t. cond t (but_none later) ((0 + length e.pieces, 0 + e.done) ∷ but_none later)) test ∙ ap (λ (hs : List (ℕ × ℕ)). (0 + length e.pieces, 0 + e.done) ∷ hs) rest in
    epochs_of_stretches (e ∷ (f ∷ es)) halts ss last over pieces end (are ∙ ap reverse same)
by_first e f es halts ss last [] none over pieces end are =
    let later = halts_in (0 + length e.pieces + 1) (0 + e.done + 1) (f ∷ es) in
    let few = over.1 in
    let no_ticks : ticks_together e.pieces ≡ 0 = ap ticks_together none in
    let no_done : e.done ≡ 0 = omega (arith, few, no_ticks) in
    let no_length : length e.pieces ≡ 0 = ap length none in
    let test : nat_eq (0 + length e.pieces) 0 ≡ true = ap (λ n. nat_eq (0 + n) 0) no_length in
    let rest = none_dropped (f ∷ es) (0 + length e.pieces + 1) (length e.pieces) (0 + e.done + 1) (omega arith) in
    let same : but_none (halts_in 0 0 (e ∷ (f ∷ es))) ≡ later = ap (λ t. cond t (but_none later) ((0 + length e.pieces, 0 + e.done) ∷ but_none later)) test ∙ rest in
    let tick = one_tick e.closing over.0 in
    let ends = halts_are (f ∷ es) (e.closing ∷ []) (0 + length e.pieces + 1) (0 + e.done + 1) over.2 (omega (arith, no_length)) (omega (arith, no_done, tick)) in
    let behind = same_stretches halts ss last f es (e.closing ∷ []) over.2 (pieces ∙ ap (λ (qs : List Piece). qs ++ e.closing ∷ published_in (f ∷ es)) none) end
    (subst (λ (hs : List (ℕ × ℕ)). EndStretches hs (stretches_for (e.closing ∷ []) (f ∷ es))) (sym (are ∙ ap reverse same)) ends) in
    (over.0, inl (record { nothing = none; done = no_done }, behind))

pub some_epochs_of_stretches : (es : List Epoch) (halts : NewestFirst (ℕ × ℕ)) (ss : List Stretch) (last : List Piece) → AreOver es → pieces_of_all ss ++ last ≡ published_in es → EndStretches halts ss → halts ≡ reverse (but_none (halts_in 0 0 es))
    → AreEpochsOf [] es ss last
some_epochs_of_stretches [] halts ss last over pieces end are = absurd over
some_epochs_of_stretches (e ∷ []) halts ss last over pieces end are = epochs_of_stretches (e ∷ []) halts ss last over pieces end are
some_epochs_of_stretches (e ∷ (f ∷ es)) halts ss last over pieces end are = by_first e f es halts ss last e.pieces refl over pieces end are

-- ---- a pulse

pub epochs_of_pulse : (es : List Epoch) (h : PieceLog) → AreOver es → reverse (pieces_of h) ≡ published_in es → halts_of h ≡ reverse (halts_in 0 0 es)
    → AreEpochsOf [] es (stretches_in h) (pieces_since h)
epochs_of_pulse es h over pieces halts = epochs_of_stretches es (halts_of h) (stretches_in h) (pieces_since h) over (all_pieces h ∙ pieces) (halts_end h) halts

pub some_epochs_of_pulse : (es : List Epoch) (h : PieceLog) → AreOver es → reverse (pieces_of h) ≡ published_in es → halts_of h ≡ reverse (but_none (halts_in 0 0 es))
    → AreEpochsOf [] es (stretches_in h) (pieces_since h)
some_epochs_of_pulse es h over pieces halts = some_epochs_of_stretches es (halts_of h) (stretches_in h) (pieces_since h) over (all_pieces h ∙ pieces) (halts_end h) halts

-- ---- the records of parts

pub parts_of_stretches : (parts : List Part) (place : Steps3) (es : List Epoch) (p : Pulsing) (h : PieceLog) (k : RecordLog) → AreRun parts place es → AreEpochsOf [] es (stretches_in h) (pieces_since h) → PulseFits p h k → end_is_put k ≡ true
    → AreRecorded place parts (records_put k)
parts_of_stretches parts place es p h k run are fits end =
    are_recorded parts place es (records_put k) run (stretches_put es (stretches_in h) (pieces_since h) (records_put k) are (done_over p h k fits end))

pub parts_of_all : (parts : List Part) (place : Steps3) (es : List Epoch) (p : Pulsing) (h : PieceLog) (k : RecordLog) → AreRun parts place es → AreOver es → reverse (pieces_of h) ≡ published_in es → halts_of h ≡ reverse (halts_in 0 0 es)
    → PulseFits p h k → end_is_put k ≡ true → AreRecorded place parts (records_put k)
parts_of_all parts place es p h k run over pieces halts fits end = parts_of_stretches parts place es p h k run (epochs_of_pulse es h over pieces halts) fits end

pub parts_of_some : (parts : List Part) (place : Steps3) (es : List Epoch) (p : Pulsing) (h : PieceLog) (k : RecordLog) → AreRun parts place es → AreOver es → reverse (pieces_of h) ≡ published_in es → halts_of h ≡ reverse (but_none (halts_in 0 0 es))
    → PulseFits p h k → end_is_put k ≡ true → AreRecorded place parts (records_put k)
parts_of_some parts place es p h k run over pieces halts fits end = parts_of_stretches parts place es p h k run (some_epochs_of_pulse es h over pieces halts) fits end
