-- What a pulse has put so far is put of epochs, of which the last is open.
use Rattle.std.proofs.Common.{◌≡◌, ℕ, suc, ◌+◌, ◌≤◌, List, [], ◌∷◌, ◌++◌, length, sym, refl, ap, ◌∙◌, subst, append-nil, append_assoc, arith}
use Rattle.std.proofs.lemmas.List.{append_cancel_right}
use Rattle.planner_runs.specs.Runs.{all_records}
use Rattle.run_texts.specs.Fronts.{BeginsWith}
use Rattle.step_line.specs.Asking.{ticks_among}
use Rattle.step_line.specs.Finishing.{ticks_together}
use Rattle.step_line.specs.Pieces.{records_of}
use Rattle.step_line.specs.declared.Mark.{Mark}
use Rattle.step_line.specs.declared.Mark.TheVariants as marks
use Rattle.step_line.specs.declared.Piece.{Piece}
use Rattle.step_line.specs.declared.Piece.TheVariants as pieces
use Rattle.step_line.specs.declared.Record.{Record}
use Rattle.step_line.specs.declared.Record.TheVariants as kinds
use Rattle.epoch_records.specs.Epochs.{Epoch, IsPut, ArePut}
use Rattle.epoch_records.specs.SoFar.{ArePutSoFar, IsPutSoFar, EndByMarks, done_in, nothing_done}
use Rattle.epoch_records.specs.Stretches.{Opens}
use Rattle.epoch_records.proofs.Driving.{both_lengths}
use Rattle.epoch_records.proofs.Fronts.{Reaches, reaches}
use Rattle.epoch_records.proofs.Fronts.Reaches.{within, beyond}

-- ---- closed epochs

mark_of : (c : Piece) → Opens (c ∷ []) → (m : Mark) × (c ≡ pieces.Mark m)
mark_of (pieces.Mark m) opens = (m, refl)
mark_of (pieces.Segment s) opens = absurd opens
mark_of pieces.End opens = absurd opens

so_far_on : (e : Epoch) (es : List Epoch) (records mine rest : List Record) → records ≡ mine ++ (records_of e.closing ++ rest) → IsPut e mine → ArePutSoFar es rest → ArePutSoFar (e ∷ es) records
so_far_on e [] records mine rest split is put = absurd put
so_far_on e (f ∷ es) records mine rest split is put = (mine, rest, split, is, put)

-- A front of what is put of some epochs, in which all ticks of the first of them are made: it has all records of these, and a front of those
-- of the others.
record BehindClosed (es fs : List Epoch) (front lost : List Record) : Type 0 where
  pub early : List Record
  pub later : List Record
  pub others : List Record
  pub split : front ≡ early ++ later
  pub put : ArePut fs others
  pub first : others ≡ later ++ lost
  pub ticks : length (ticks_among front) ≡ done_in es + length (ticks_among later)
  pub back : (g : Epoch) (gs : List Epoch) (made : List Record) → ArePutSoFar (g ∷ gs) made → ArePutSoFar (es ++ g ∷ gs) (early ++ made)

-- a front within the records of an epoch has too few ticks
too_few : {A : Type 0} (e : Epoch) (mine front more : List Record) (n : ℕ) → IsPut e mine → mine ≡ front ++ more → e.done + 1 + n ≤ length (ticks_among front) → A
too_few e mine front more n put is few =
    let all = ap (λ (rs : List Record). length (ticks_among rs)) is in let both = both_lengths front more in let count = put.ticks in absurd (omega (arith, all, both, count, few))

one_closed : (e : Epoch) (es fs : List Epoch) (m : Mark) (mine rest front lost : List Record) → e.closing ≡ pieces.Mark m → IsPut e mine → done_in (e ∷ es) ≤ length (ticks_among front)
    → ((later : List Record) → rest ≡ later ++ lost → done_in es ≤ length (ticks_among later) → BehindClosed es fs later lost)
    → Reaches mine (kinds.Mark m ∷ rest) front lost → BehindClosed (e ∷ es) fs front lost
one_closed e es fs m mine rest front lost closes put few more (within b) = too_few e mine front b.rest (done_in es) put b.is few
one_closed e es fs m mine rest front lost closes put few more (beyond [] parted behind) =
    too_few e mine front [] (done_in es) put (sym (append-nil mine) ∙ sym parted ∙ sym (append-nil front)) few
one_closed e es fs m mine rest front lost closes put few more (beyond (r ∷ later) parted behind) =
    let same : kinds.Mark m ≡ r = cc in
    let tails : rest ≡ later ++ lost = cc in
    let front_is : front ≡ mine ++ kinds.Mark m ∷ later = parted ∙ ap (λ (x : Record). mine ++ x ∷ later) (sym same) in
    let all = ap (λ (rs : List Record). length (ticks_among rs)) front_is in
    let both : length (ticks_among (mine ++ kinds.Mark m ∷ later)) ≡ length (ticks_among mine) + suc (length (ticks_among later)) = both_lengths mine (kinds.Mark m ∷ later) in
    let count = put.ticks in
    let on = more later tails (omega (arith, all, both, count, few)) in
    let ticks = on.ticks in
    let mark : records_of e.closing ≡ kinds.Mark m ∷ [] = ap records_of closes in
    record {
      early = mine ++ kinds.Mark m ∷ on.early;
      later = on.later;
      others = on.others;
      split = front_is ∙ ap (λ (rs : List Record). mine ++ kinds.Mark m ∷ rs) on.split ∙ sym (append_assoc mine (kinds.Mark m ∷ on.early) on.later);
      put = on.put;
      first = on.first;
      ticks = omega (arith, all, both, count, ticks);
      back = λ g gs made are.
          so_far_on e (es ++ g ∷ gs) ((mine ++ kinds.Mark m ∷ on.early) ++ made) mine (on.early ++ made)
          (append_assoc mine (kinds.Mark m ∷ on.early) made ∙ ap (λ (rs : List Record). mine ++ (rs ++ (on.early ++ made))) (sym mark)) put (on.back g gs made are);
    }

behind_closed : (es fs : List Epoch) (rs front lost : List Record) → EndByMarks es → ArePut (es ++ fs) rs → rs ≡ front ++ lost → done_in es ≤ length (ticks_among front) → BehindClosed es fs front lost
behind_closed [] fs rs front lost marked put is few = record { early = []; later = front; others = rs; split = refl; put = put; first = is; ticks = omega arith; back = λ g gs made are. are }
behind_closed (e ∷ es) fs rs front lost marked put is few =
    let m = mark_of e.closing marked.0 in
    let split : put.0 ++ kinds.Mark m.0 ∷ put.1 ≡ front ++ lost = ap (λ (c : Piece). put.0 ++ (records_of c ++ put.1)) (sym m.1) ∙ sym put.2 ∙ is in
    one_closed e es fs m.0 put.0 put.1 front lost m.1 put.3 few
    (λ later tails enough. behind_closed es fs put.1 later lost marked.2 put.4 tails enough) (reaches put.0 (kinds.Mark m.0 ∷ put.1) front lost split)

-- ---- the open one

-- as if it were done, and ended; and as if the mark of its reset ended it
abbrev pub all_of : Epoch → Epoch
all_of e = record { pieces = e.pieces; done = ticks_together e.pieces; closing = pieces.End }

abbrev pub marked_by : ℕ → Epoch → Epoch
marked_by number e = record { pieces = e.pieces; done = e.done; closing = pieces.Mark (marks.Reset number) }

no_more : (xs ys : List Record) → [] ≡ xs ++ ys → xs ≡ []
no_more [] ys e = refl
no_more (x ∷ xs) ys e = absurd cc

same_front : (mine front : List Record) → front ≡ mine ++ [] → mine ≡ front ++ []
same_front mine front e = sym (append-nil mine) ∙ sym e ∙ sym (append-nil front)

by_reach : (number : ℕ) (e : Epoch) (mine front lost : List Record) → mine ≡ all_records e.pieces → length (ticks_among front) ≡ e.done → Reaches mine (kinds.End ∷ []) front lost → IsPutSoFar number (e ∷ []) front
by_reach number e mine front lost whole count (within b) =
    record { made = front; ending = []; split = sym (append-nil front); are = record { first = record { rest = b.rest; is = sym whole ∙ b.is }; ticks = count }; may = tt }
by_reach number e mine front lost whole count (beyond [] parted behind) =
    record { made = front; ending = []; split = sym (append-nil front); are = record { first = record { rest = []; is = sym whole ∙ same_front mine front parted }; ticks = count }; may = tt }
by_reach number e mine front lost whole count (beyond (r ∷ later) parted behind) =
    let same : kinds.End ≡ r = cc in
    let tails : [] ≡ later ++ lost = cc in
    let front_is : front ≡ mine ++ kinds.End ∷ [] = parted ∙ ap (λ (x : Record). mine ++ x ∷ later) (sym same) ∙ ap (λ (rs : List Record). mine ++ kinds.End ∷ rs) (no_more later lost tails) in
    let all = ap (λ (rs : List Record). length (ticks_among rs)) front_is in
    let both : length (ticks_among (mine ++ kinds.End ∷ [])) ≡ length (ticks_among mine) + 0 = both_lengths mine (kinds.End ∷ []) in
    record { made = mine; ending = kinds.End ∷ []; split = front_is; are = record { first = record { rest = []; is = sym whole ∙ sym (append-nil mine) }; ticks = omega (arith, all, both, count) }; may = tt }

going_put : (number : ℕ) (e : Epoch) (rs front : List Record) → ArePut (all_of e ∷ []) rs → BeginsWith rs front → length (ticks_among front) ≡ e.done → IsPutSoFar number (e ∷ []) front
going_put number e rs front put b count =
    by_reach number e put.0 front b.rest (put.3.whole refl) count
    (reaches put.0 (kinds.End ∷ []) front b.rest (ap (λ (rest : List Record). put.0 ++ kinds.End ∷ rest) (sym put.4) ∙ sym put.2 ∙ b.is))

by_mark : (e : Epoch) (number : ℕ) (mine front lost : List Record) → IsPut (marked_by number e) mine → e.done ≤ length (ticks_among front) → Reaches mine (kinds.Mark (marks.Reset number) ∷ []) front lost → IsPutSoFar number (e ∷ []) front
by_mark e number mine front lost put few (within b) = record {
  made = front;
  ending = [];
  split = sym (append-nil front);
  are = record {
    first = record { rest = b.rest ++ put.first.rest; is = put.first.is ∙ ap (λ (rs : List Record). rs ++ put.first.rest) b.is ∙ append_assoc front b.rest put.first.rest };
    ticks = (let all = ap (λ (rs : List Record). length (ticks_among rs)) b.is in let both = both_lengths front b.rest in let count = put.ticks in omega (arith, all, both, count, few));
  };
  may = tt;
}
by_mark e number mine front lost put few (beyond [] parted behind) = record {
  made = front;
  ending = [];
  split = sym (append-nil front);
  are = record {
    first = record { rest = put.first.rest; is = put.first.is ∙ ap (λ (rs : List Record). rs ++ put.first.rest) (same_front mine front parted ∙ append-nil front) };
    ticks = (let all = ap (λ (rs : List Record). length (ticks_among rs)) (same_front mine front parted ∙ append-nil front) in let count = put.ticks in omega (arith, all, count));
  };
  may = tt;
}
by_mark e number mine front lost put few (beyond (r ∷ later) parted behind) =
    let same : kinds.Mark (marks.Reset number) ≡ r = cc in
    let tails : [] ≡ later ++ lost = cc in
    record {
      made = mine;
      ending = kinds.Mark (marks.Reset number) ∷ [];
      split = parted ∙ ap (λ (x : Record). mine ++ x ∷ later) (sym same) ∙ ap (λ (rs : List Record). mine ++ kinds.Mark (marks.Reset number) ∷ rs) (no_more later lost tails);
      are = record { first = put.first; ticks = put.ticks };
      may = refl;
    }

halted_put : (e : Epoch) (number : ℕ) (rs front : List Record) → ArePut (marked_by number e ∷ (nothing_done ∷ [])) (rs ++ kinds.End ∷ []) → BeginsWith rs front → e.done ≤ length (ticks_among front) → IsPutSoFar number (e ∷ []) front
halted_put e number rs front put b few =
    let mark : List Record = kinds.Mark (marks.Reset number) ∷ [] in
    let none : put.4.0 ≡ [] = put.4.3.whole refl in
    let rest : put.1 ≡ kinds.End ∷ [] = put.4.2 ∙ ap (λ (xs : List Record). xs ++ kinds.End ∷ put.4.1) none ∙ ap (λ (xs : List Record). kinds.End ∷ xs) put.4.4 in
    let all : rs ≡ put.0 ++ mark =
    append_cancel_right rs (put.0 ++ mark) (kinds.End ∷ [])
    (put.2 ∙ ap (λ (xs : List Record). put.0 ++ kinds.Mark (marks.Reset number) ∷ xs) rest ∙ sym (append_assoc put.0 mark (kinds.End ∷ []))) in
    by_mark e number put.0 front b.rest put.3 few (reaches put.0 mark front b.rest (sym all ∙ b.is))

-- ---- both

joined : (number : ℕ) (es : List Epoch) (e : Epoch) (fs : List Epoch) (front lost : List Record) → (on : BehindClosed es fs front lost) → IsPutSoFar number (e ∷ []) on.later → IsPutSoFar number (es ++ e ∷ []) front
joined number es e fs front lost on put = record {
  made = on.early ++ put.made;
  ending = put.ending;
  split = on.split ∙ ap (λ (rs : List Record). on.early ++ rs) put.split ∙ sym (append_assoc on.early put.made put.ending);
  are = on.back e [] put.made put.are;
  may = put.may;
}

pub going_so_far : (number : ℕ) (es : List Epoch) (e : Epoch) (rs front : List Record) → EndByMarks es → ArePut (es ++ all_of e ∷ []) rs → BeginsWith rs front → length (ticks_among front) ≡ done_in es + e.done → IsPutSoFar number (es ++ e ∷ []) front
going_so_far number es e rs front marked put b count =
    let on = behind_closed es (all_of e ∷ []) rs front b.rest marked put b.is (omega (arith, count)) in
    let ticks = on.ticks in
    joined number es e (all_of e ∷ []) front b.rest on (going_put number e on.others on.later on.put (record { rest = b.rest; is = on.first }) (omega (arith, ticks, count)))

pub halted_so_far : (es : List Epoch) (e : Epoch) (number : ℕ) (rs front : List Record) → EndByMarks es → ArePut (es ++ marked_by number e ∷ (nothing_done ∷ [])) (rs ++ kinds.End ∷ []) → BeginsWith rs front → done_in es + e.done ≤ length (ticks_among front)
    → IsPutSoFar number (es ++ e ∷ []) front
halted_so_far es e number rs front marked put b few =
    let end : List Record = kinds.End ∷ [] in
    let fs : List Epoch = marked_by number e ∷ (nothing_done ∷ []) in
    let on = behind_closed es fs (rs ++ end) front (b.rest ++ end) marked put (ap (λ (xs : List Record). xs ++ end) b.is ∙ append_assoc front b.rest end) (omega (arith, few)) in
    let ticks = on.ticks in
    joined number es e fs front (b.rest ++ end) on
    (halted_put e number (on.later ++ b.rest) on.later (subst (ArePut fs) (on.first ∙ sym (append_assoc on.later b.rest end)) on.put) (record { rest = b.rest; is = refl }) (omega (arith, ticks, few)))
