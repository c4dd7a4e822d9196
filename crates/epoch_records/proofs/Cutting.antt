-- A halt cuts one piece: those before it are put whole, and nothing of those behind it.
use Rattle.std.proofs.Common.{◌≡◌, ℕ, ◌+◌, ◌<◌, List, [], ◌∷◌, ◌++◌, length, map, sym, refl, ap, ◌∙◌, subst, append-nil, append_assoc, arith}
use Rattle.std.specs.List.{flat_map}
use Rattle.std.proofs.lemmas.Grind.{flat_map-append}
use Rattle.std.proofs.lemmas.List.{length-append}
use Rattle.flight.proofs.Counts.{segment_ticks}
use Rattle.plan_rules.specs.Plans.{Planned}
use Rattle.plan_rules.specs.Segments.{advanced}
use Rattle.planner_runs.specs.declared.Action.{Action}
use Rattle.planner_runs.specs.declared.Action.TheVariants.{Add, Take, Override, Mark, Rest, Clear, Reset}
use Rattle.planner_runs.specs.Runs.{Plans, IsStart, AllFollow, with_move, cleared, all_records}
use Rattle.planner_runs.proofs.Driven.{ticks_of_pieces}
use Rattle.planner_runs.proofs.Following.{start_follows}
use Rattle.run_texts.specs.Fronts.{BeginsWith}
use Rattle.step_line.specs.Asking.{ticks_among}
use Rattle.step_line.specs.Events.{events_after}
use Rattle.step_line.specs.Finishing.{tick_count, ticks_together}
use Rattle.step_line.specs.Pieces.{records_of, ticks_of}
use Rattle.step_line.specs.declared.Bits.{Bits}
use Rattle.step_line.specs.declared.Piece.{Piece}
use Rattle.step_line.specs.declared.Piece.TheVariants as pieces
use Rattle.step_line.specs.declared.Record.{Record}
use Rattle.step_line.specs.declared.Record.TheVariants as kinds
use Rattle.epoch_records.specs.Cutting.{HaveTicks, IsPutOfFirst, IsCutAmong}
use Rattle.epoch_records.proofs.Driving.{both_lengths}
use Rattle.epoch_records.proofs.Fronts.{Reaches, reaches}
use Rattle.epoch_records.proofs.Fronts.Reaches.{within, beyond}

one_piece : (p : Piece) → length (ticks_among (records_of p)) ≡ tick_count p
one_piece p =
    ap (λ (rs : List Record). length (ticks_among rs)) (sym (append-nil (records_of p)))
    ∙ ap length (ticks_of_pieces (p ∷ []) ∙ append-nil (ticks_of p))

-- ---- what is left of a piece has a tick

event_left : (bs : List Bits) (front rest : List Record) (r : Record) → map kinds.Event bs ≡ front ++ r ∷ rest → 0 < length (ticks_among (r ∷ rest))
event_left [] [] rest r e = absurd cc
event_left [] (x ∷ front) rest r e = absurd cc
event_left (b ∷ bs) [] rest r e =
    let same : kinds.Event b ≡ r = cc in
    let count : length (ticks_among (kinds.Event b ∷ rest)) ≡ length (ticks_among (r ∷ rest)) = ap (λ (x : Record). length (ticks_among (x ∷ rest))) same in
    omega (arith, count)
event_left (b ∷ bs) (x ∷ front) rest r e = event_left bs front rest r (let more : map kinds.Event bs ≡ front ++ r ∷ rest = cc in more)

left_has : (p : Piece) (front rest : List Record) (r : Record) → 0 < tick_count p → records_of p ≡ front ++ r ∷ rest → 0 < length (ticks_among (r ∷ rest))
left_has p [] rest r some e = let all = one_piece p in let same = ap (λ (rs : List Record). length (ticks_among rs)) e in omega (arith, all, same, some)
left_has (pieces.Segment s) (x ∷ front) rest r some e = event_left (events_after s.mv s.first s.n) front rest r (let more : map kinds.Event (events_after s.mv s.first s.n) ≡ front ++ r ∷ rest = cc in more)
left_has (pieces.Mark m) (x ∷ []) rest r some e = absurd (let more : [] ≡ r ∷ rest = cc in cc)
left_has (pieces.Mark m) (x ∷ (y ∷ front)) rest r some e = absurd (let more : [] ≡ y ∷ (front ++ r ∷ rest) = cc in cc)
left_has pieces.End (x ∷ front) rest r some e = absurd (omega (arith, some))

-- ---- piece by piece

nothing_put : (ps : List Piece) → HaveTicks ps → IsPutOfFirst ps 0 []
nothing_put [] have = (refl, refl)
nothing_put (p ∷ ps) have = (have.0, record { rest = records_of p; is = refl }, refl)

-- the first of them is cut, or whole with nothing put of the others
within_first : (p : Piece) (ps : List Piece) (mine left : List Record) → HaveTicks (p ∷ ps) → records_of p ≡ mine ++ left → IsCutAmong (p ∷ ps) (length (ticks_among mine)) mine
within_first p ps mine [] have e =
    let same : records_of p ≡ mine = e ∙ append-nil mine in
    let ticks = ap (λ (rs : List Record). length (ticks_among rs)) (sym same) ∙ one_piece p in
    let one : ticks_together (p ∷ []) ≡ tick_count p = ap length (append-nil (ticks_of p)) in
    record {
      whole = p ∷ [];
      others = ps;
      both = refl;
      m = 0;
      ticks = omega (arith, ticks, one);
      cut = [];
      put = sym same ∙ sym (append-nil (records_of p)) ∙ sym (append-nil (records_of p ++ []));
      first = nothing_put ps have.1;
    }
within_first p ps mine (r ∷ left) have e =
    let some = left_has p mine left r have.0 e in
    let all = sym (one_piece p) ∙ ap (λ (rs : List Record). length (ticks_among rs)) e ∙ both_lengths mine (r ∷ left) in
    record {
      whole = [];
      others = p ∷ ps;
      both = refl;
      m = length (ticks_among mine);
      ticks = omega arith;
      cut = mine;
      put = refl;
      first = (omega (arith, some, all), record { rest = r ∷ left; is = e }, refl);
    }

behind_first : (p : Piece) (ps : List Piece) (mine more : List Record) → mine ≡ records_of p ++ more → IsCutAmong ps (length (ticks_among more)) more → IsCutAmong (p ∷ ps) (length (ticks_among mine)) mine
behind_first p ps mine more e is =
    let ticks = ap (λ (rs : List Record). length (ticks_among rs)) e ∙ both_lengths (records_of p) more in
    let one = one_piece p in
    let all : ticks_together (p ∷ is.whole) ≡ tick_count p + ticks_together is.whole = length-append (ticks_of p) (flat_map ticks_of is.whole) in
    let later = is.ticks in
    record {
      whole = p ∷ is.whole;
      others = is.others;
      both = ap (λ (qs : List Piece). p ∷ qs) is.both;
      m = is.m;
      ticks = omega (arith, ticks, one, all, later);
      cut = is.cut;
      put = e ∙ ap (λ (rs : List Record). records_of p ++ rs) is.put ∙ sym (append_assoc (records_of p) (all_records is.whole) is.cut);
      first = is.first;
    }

by_reach : (p : Piece) (ps : List Piece) (mine rest : List Record) → HaveTicks (p ∷ ps) → ((more : List Record) → all_records ps ≡ more ++ rest → IsCutAmong ps (length (ticks_among more)) more)
    → Reaches (records_of p) (all_records ps) mine rest → IsCutAmong (p ∷ ps) (length (ticks_among mine)) mine
by_reach p ps mine rest have later (within b) = within_first p ps mine b.rest have b.is
by_reach p ps mine rest have later (beyond more e l) = behind_first p ps mine more e (later more l)

cut_at : (ps : List Piece) (mine rest : List Record) → HaveTicks ps → all_records ps ≡ mine ++ rest → IsCutAmong ps (length (ticks_among mine)) mine
cut_at [] [] rest have e = record { whole = []; others = []; both = refl; m = 0; ticks = refl; cut = []; put = refl; first = (refl, refl) }
cut_at [] (r ∷ mine) rest have e = absurd cc
cut_at (p ∷ ps) mine rest have e = by_reach p ps mine rest have (λ more l. cut_at ps more rest have.1 l) (reaches (records_of p) (all_records ps) mine rest e)

pub cut_among : (ps : List Piece) (done : ℕ) (mine : List Record) → HaveTicks ps → BeginsWith (all_records ps) mine → length (ticks_among mine) ≡ done → IsCutAmong ps done mine
cut_among ps done mine have b count = subst (λ n. IsCutAmong ps n mine) count (cut_at ps mine b.rest have b.is)

-- ---- and back

first_front : (ps : List Piece) (m : ℕ) (cut : List Record) → IsPutOfFirst ps m cut → BeginsWith (all_records ps) cut
first_front [] m cut is = record { rest = []; is = sym is.1 ∙ sym (append-nil cut) }
first_front (p ∷ ps) m cut is = record { rest = is.1.rest ++ all_records ps; is = ap (λ (rs : List Record). rs ++ all_records ps) is.1.is ∙ append_assoc cut is.1.rest (all_records ps) }

first_ticks : (ps : List Piece) (m : ℕ) (cut : List Record) → IsPutOfFirst ps m cut → length (ticks_among cut) ≡ m
first_ticks [] m cut is = ap (λ (rs : List Record). length (ticks_among rs)) is.1 ∙ sym is.0
first_ticks (p ∷ ps) m cut is = is.2

pub cut_front : (ps : List Piece) (done : ℕ) (mine : List Record) → IsCutAmong ps done mine → BeginsWith (all_records ps) mine
cut_front ps done mine is =
    let b = first_front is.others is.m is.cut is.first in
    record {
      rest = b.rest;
      is = ap all_records is.both ∙ flat_map-append records_of is.whole is.others ∙ ap (λ (rs : List Record). all_records is.whole ++ rs) b.is
          ∙ sym (append_assoc (all_records is.whole) is.cut b.rest) ∙ ap (λ (rs : List Record). rs ++ b.rest) (sym is.put);
    }

pub cut_count : (ps : List Piece) (done : ℕ) (mine : List Record) → IsCutAmong ps done mine → length (ticks_among mine) ≡ done
cut_count ps done mine is =
    let all = ap (λ (rs : List Record). length (ticks_among rs)) is.put ∙ both_lengths (all_records is.whole) is.cut in
    let whole : length (ticks_among (all_records is.whole)) ≡ ticks_together is.whole = ap length (ticks_of_pieces is.whole) in
    let last = first_ticks is.others is.m is.cut is.first in
    let ticks = is.ticks in
    omega (arith, all, whole, last, ticks)

-- ---- the pieces of a planner run

pieces_have : (most : ℕ) (p last : Planned) (actions : List Action) (given before : List Piece) → AllFollow before given → Plans most p actions given last → HaveTicks given
pieces_have most p last [] [] before all run = tt
pieces_have most p last (Add m ∷ rest) ps before all run = pieces_have most (with_move p m) last rest ps before all run.1
pieces_have most p last (Override o ∷ rest) ps before all run = pieces_have most (record p { overrides = o }) last rest ps before all run.1
pieces_have most p last (Rest ∷ rest) ps before all run = pieces_have most p last rest ps before all run.1
pieces_have most p last (Clear ∷ rest) ps before all run = pieces_have most (cleared p) last rest ps before all run.1
pieces_have most p last (Reset ∷ rest) ps before all run = subst HaveTicks (sym run.1) tt
pieces_have most p last (Take mode ∷ rest) (pieces.Segment s ∷ ps) before all run =
    let some = all.0.0.head.n.0 in
    let ticks = segment_ticks s in
    (omega (arith, some, ticks), pieces_have most (advanced p s.n s.w_out) last rest ps (pieces.Segment s ∷ before) all.1 run.1)
pieces_have most p last (Mark m ∷ rest) (pieces.Mark g ∷ ps) before all run = (omega arith, pieces_have most p last rest ps (pieces.Mark g ∷ before) all.1 run.3)
pieces_have most p last rest ps before all run = absurd run

pub runs_have : (most : ℕ) (p last : Planned) (actions : List Action) (given : List Piece) → IsStart p → Plans most p actions given last → HaveTicks given
runs_have most p last actions given is run = pieces_have most p last actions given [] (start_follows most [] p last actions given is run) run
