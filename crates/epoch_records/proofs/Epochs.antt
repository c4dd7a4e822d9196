-- What is put of the stretches of a pulse is put of the epochs that they are.
use Rattle.std.proofs.Common.{◌≡◌, ℕ, ◌+◌, inl, inr, List, [], ◌∷◌, ◌++◌, length, sym, refl, ap, ◌∙◌, subst, append-nil, append_assoc, arith}
use Rattle.std.proofs.lemmas.Grind.{flat_map-append}
use Rattle.flight.specs.Halts.{Stretch, count_made}
use Rattle.planner_runs.specs.Runs.{all_records}
use Rattle.planner_runs.proofs.Driven.{ticks_of_pieces}
use Rattle.run_texts.specs.Fronts.{BeginsWith}
use Rattle.step_line.specs.Asking.{ticks_among}
use Rattle.step_line.specs.Finishing.{ticks_together}
use Rattle.step_line.specs.Logs.{NewestFirst}
use Rattle.step_line.specs.Pieces.{records_of}
use Rattle.step_line.specs.declared.Mark.{Mark}
use Rattle.step_line.specs.declared.Piece.{Piece}
use Rattle.step_line.specs.declared.Piece.TheVariants as pieces
use Rattle.step_line.specs.declared.Record.{Record}
use Rattle.step_line.specs.declared.Record.TheVariants as kinds
use Rattle.epoch_records.specs.Epochs.{Epoch, IsPut, ArePut}
use Rattle.epoch_records.specs.Stretches.{pieces_of_all, EndStretches, IsPutOf, ArePutOf, ArePutOver, Opens, IsStretch, IsUnhalted, AreEpochsOf}
use Rattle.epoch_records.proofs.Pulsing.{made_on, stretches_on}

-- ---- an epoch of a stretch

not_end : {A : Type 0} (c : Piece) → Opens (c ∷ []) → c ≡ pieces.End → A
not_end c opens e = absurd (subst (λ (x : Piece). Opens (x ∷ [])) e opens)

-- what is put of a stretch: what is published first, and what is put of its epoch
record Opened (opens : List Piece) (e : Epoch) (mine : List Record) : Type 0 where
  pub own : List Record
  pub split : mine ≡ all_records opens ++ own
  pub put : IsPut e own

behind_mark : (m : Mark) (e : Epoch) (s : Stretch) (mine rest : List Record) → Opens (e.closing ∷ []) → IsStretch (pieces.Mark m ∷ []) e s → length (ticks_among mine) ≡ s.done
    → kinds.Mark m ∷ all_records e.pieces ≡ mine ++ rest → Opened (pieces.Mark m ∷ []) e mine
behind_mark m e s [] rest ends is count split = absurd (let done = is.done in omega (arith, done, count))
behind_mark m e s (r ∷ mine) rest ends is count split =
    let same : kinds.Mark m ≡ r = cc in
    let tails : all_records e.pieces ≡ mine ++ rest = cc in
    let done = is.done in
    let ticks : length (ticks_among (kinds.Mark m ∷ mine)) ≡ s.done = ap (λ (x : Record). length (ticks_among (x ∷ mine))) same ∙ count in
    record {
      own = mine;
      split = ap (λ (x : Record). x ∷ mine) (sym same);
      put = record { first = record { rest = rest; is = tails }; ticks = omega (arith, ticks, done); whole = λ closes. not_end e.closing ends closes };
    }

opened : (opens : List Piece) (e : Epoch) (s : Stretch) (mine : List Record) → Opens opens → Opens (e.closing ∷ []) → IsStretch opens e s → IsPutOf s mine → Opened opens e mine
opened [] e s mine may ends is put = record {
  own = mine;
  split = refl;
  put = record {
    first = subst (λ (ps : List Piece). BeginsWith (all_records ps) mine) is.pieces put.first;
    ticks = (let done = is.done in let count = put.ticks in omega (arith, done, count));
    whole = λ closes. not_end e.closing ends closes;
  };
}
opened (pieces.Mark m ∷ []) e s mine may ends is put = behind_mark m e s mine put.first.rest ends is put.ticks (ap all_records (sym is.pieces) ∙ put.first.is)
opened (pieces.Mark m ∷ (p ∷ ps)) e s mine may ends is put = absurd may
opened (pieces.Segment x ∷ ps) e s mine may ends is put = absurd may
opened (pieces.End ∷ ps) e s mine may ends is put = absurd may

-- ---- all of them

record EpochsPut (opens : List Piece) (es : List Epoch) (records : List Record) : Type 0 where
  pub own : List Record
  pub split : records ≡ all_records opens ++ own
  pub are : ArePut es own

no_pieces : {A : Type 0} (xs ys : List A) → xs ++ ys ≡ [] → (xs ≡ []) × (ys ≡ [])
no_pieces [] ys e = (refl, e)
no_pieces (x ∷ xs) ys e = absurd cc

-- the last
last_put : (opens : List Piece) (e : Epoch) (last : List Piece) (halted : List Record) → halted ≡ [] → e.closing ≡ pieces.End → e.done ≡ ticks_together e.pieces → last ≡ opens ++ (e.pieces ++ pieces.End ∷ [])
    → EpochsPut opens (e ∷ []) (halted ++ all_records last)
last_put opens e last halted none closes done is = record {
  own = all_records e.pieces ++ kinds.End ∷ [];
  split =
      ap (λ (rs : List Record). rs ++ all_records last) none ∙ ap all_records is ∙ flat_map-append records_of opens (e.pieces ++ pieces.End ∷ [])
      ∙ ap (λ (rs : List Record). all_records opens ++ rs) (flat_map-append records_of e.pieces (pieces.End ∷ []));
  are = (
    all_records e.pieces,
    [],
    ap (λ (c : Piece). all_records e.pieces ++ (records_of c ++ [])) (sym closes),
    record { first = record { rest = []; is = sym (append-nil (all_records e.pieces)) }; ticks = ap length (ticks_of_pieces e.pieces) ∙ sym done; whole = λ x. refl },
    refl,
  );
}

-- one that no halt has ended
unhalted_put : (opens : List Piece) (e f : Epoch) (es : List Epoch) (records : List Record) → Opens (e.closing ∷ []) → IsUnhalted opens e → EpochsPut (e.closing ∷ []) (f ∷ es) records → EpochsPut opens (e ∷ (f ∷ es)) records
unhalted_put opens e f es records ends none later =
    let nothing = no_pieces opens e.pieces none.nothing in
    record {
      own = records_of e.closing ++ later.own;
      split = later.split ∙ ap (λ (rs : List Record). rs ++ later.own) (append-nil (records_of e.closing)) ∙ ap (λ (ps : List Piece). all_records ps ++ (records_of e.closing ++ later.own)) (sym nothing.0);
      are = ([], later.own, refl, record { first = record { rest = all_records e.pieces; is = refl }; ticks = sym none.done; whole = λ closes. not_end e.closing ends closes }, later.are);
    }

-- one that a halt has ended
halted_put : (opens : List Piece) (e f : Epoch) (es : List Epoch) (s : Stretch) (last : List Piece) (mine rest : List Record) → Opened opens e mine → EpochsPut (e.closing ∷ []) (f ∷ es) (rest ++ all_records last)
    → EpochsPut opens (e ∷ (f ∷ es)) ((mine ++ rest) ++ all_records last)
halted_put opens e f es s last mine rest here later = record {
  own = here.own ++ (records_of e.closing ++ later.own);
  split =
      append_assoc mine rest (all_records last) ∙ ap (λ (rs : List Record). mine ++ rs) (later.split ∙ ap (λ (rs : List Record). rs ++ later.own) (append-nil (records_of e.closing)))
      ∙ ap (λ (rs : List Record). rs ++ (records_of e.closing ++ later.own)) here.split ∙ append_assoc (all_records opens) here.own (records_of e.closing ++ later.own);
  are = (here.own, later.own, refl, here.put, later.are);
}

epochs_put : (es : List Epoch) (opens : List Piece) (ss : List Stretch) (last : List Piece) (halted : List Record) → Opens opens → AreEpochsOf opens es ss last → ArePutOf ss halted → EpochsPut opens es (halted ++ all_records last)
epochs_put [] opens ss last halted may are put = absurd are
epochs_put (e ∷ []) opens ss last halted may are put = last_put opens e last halted (subst (λ (some : List Stretch). ArePutOf some halted) are.0 put) are.1 are.2 are.3
epochs_put (e ∷ (f ∷ es)) opens ss last halted may are put = elim are.1 [
  | inl on ↦ unhalted_put opens e f es (halted ++ all_records last) are.0 on.0 (epochs_put (f ∷ es) (e.closing ∷ []) ss last halted are.0 on.1 put)
  | inr on ↦
      let parts = subst (λ (some : List Stretch). ArePutOf some halted) on.2 put in
      let here = opened opens e on.0 parts.0 may are.0 on.3 parts.3 in
      let later = epochs_put (f ∷ es) (e.closing ∷ []) on.1 last parts.1 are.0 on.4 parts.4 in
      subst (λ (rs : List Record). EpochsPut opens (e ∷ (f ∷ es)) (rs ++ all_records last)) (sym parts.2) (halted_put opens e f es on.0 last parts.0 parts.1 here later)
]

pub stretches_put : (es : List Epoch) (ss : List Stretch) (last : List Piece) (records : List Record) → AreEpochsOf [] es ss last → ArePutOver ss last records → ArePut es records
stretches_put es ss last records are over =
    let put = epochs_put es [] ss last over.halted tt are over.are in
    subst (ArePut es) (sym (over.split ∙ put.split)) put.are

-- ---- stretches are known by their halts

record SameParts {A : Type 0} (xs ys us vs : List A) : Type 0 where
  pub first : xs ≡ ys
  pub second : us ≡ vs

same_parts : {A : Type 0} (xs ys us vs : List A) → length xs ≡ length ys → xs ++ us ≡ ys ++ vs → SameParts xs ys us vs
same_parts [] [] us vs long e = record { first = refl; second = e }
same_parts [] (y ∷ ys) us vs long e = absurd (omega arith)
same_parts (x ∷ xs) [] us vs long e = absurd (omega arith)
same_parts (x ∷ xs) (y ∷ ys) us vs long e =
    let both : x ∷ (xs ++ us) ≡ y ∷ (ys ++ vs) = e in
    let same : x ≡ y = cc in
    let tails : xs ++ us ≡ ys ++ vs = cc in
    let rest = same_parts xs ys us vs (omega arith) tails in
    record { first = ap (λ z. z ∷ xs) same ∙ ap (λ zs. y ∷ zs) rest.first; second = rest.second }

same_stretch : (s t : Stretch) → s.pieces ≡ t.pieces → s.done ≡ t.done → s ≡ t
same_stretch s t pieces done = ap (λ ps. stretch ps s.done) pieces ∙ ap (λ n. stretch t.pieces n) done
  where
    stretch : List Piece → ℕ → Stretch
    stretch ps n = record { pieces = ps; done = n }

pub one_parting : (halts : NewestFirst (ℕ × ℕ)) (ss others : List Stretch) (last rest : List Piece) → EndStretches halts ss → EndStretches halts others → pieces_of_all ss ++ last ≡ pieces_of_all others ++ rest
    → (ss ≡ others) × (last ≡ rest)
one_parting [] ss others last rest a b e = (a ∙ sym b, ap (λ (ts : List Stretch). pieces_of_all ts ++ last) (sym a) ∙ e ∙ ap (λ (ts : List Stretch). pieces_of_all ts ++ rest) b)
one_parting (halt ∷ halts) ss others last rest a b e =
    let both = same_parts (pieces_of_all ss) (pieces_of_all others) last rest (sym a.3 ∙ b.3) e in
    let pieces : pieces_of_all a.0 ++ a.1.pieces ≡ pieces_of_all b.0 ++ b.1.pieces =
    sym (ap pieces_of_all a.2 ∙ stretches_on a.0 a.1) ∙ both.first ∙ ap pieces_of_all b.2 ∙ stretches_on b.0 b.1 in
    let early = one_parting halts a.0 b.0 a.1.pieces b.1.pieces a.5 b.5 pieces in
    let made : count_made a.0 + a.1.done ≡ count_made b.0 + b.1.done =
    sym (a.4 ∙ ap count_made a.2 ∙ made_on a.0 a.1) ∙ b.4 ∙ ap count_made b.2 ∙ made_on b.0 b.1 in
    let before : count_made a.0 ≡ count_made b.0 = ap count_made early.0 in
    let one : a.1 ≡ b.1 = same_stretch a.1 b.1 early.1 (omega (arith, made, before)) in
    (a.2 ∙ ap (λ (ts : List Stretch). ts ++ a.1 ∷ []) early.0 ∙ ap (λ (s : Stretch). b.0 ++ s ∷ []) one ∙ sym b.2, both.second)
