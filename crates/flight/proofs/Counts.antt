-- How many ticks pieces have, and how many of the pieces are unfinished.
use Rattle.std.proofs.Common.{◌≡◌, ℕ, suc, ◌-◌, ◌≤◌, ◌<◌, Bool, true, false, cond, nat_lt, List, [], ◌∷◌, ◌++◌, length, sym, refl, ap, ◌∙◌, arith}
use Rattle.std.specs.List.{flat_map, filter, All}
use Rattle.std.proofs.lemmas.Bool.Decides.{nat_tests}
use Rattle.std.proofs.lemmas.List.Elements.{All-head, All-tail}
use Rattle.step_line.specs.declared.Segment.{Segment}
use Rattle.step_line.specs.declared.Piece.{Piece}
use Rattle.step_line.specs.declared.Piece.TheVariants as pieces
use Rattle.step_line.specs.declared.Record.{Record}
use Rattle.step_line.specs.Pieces.{ticks_of}
use Rattle.step_line.specs.Finishing.{tick_count, ticks_together, unfinished}
use Rattle.step_line.proofs.Finished.{segment_ticks as of_segment, together}
use Rattle.flight.specs.Flights.{has_ticks, EndsWithin}

pub segment_ticks : (s : Segment) → s.n ≡ tick_count (pieces.Segment s)
segment_ticks s = sym (of_segment s)

abbrev pub Ticking : Piece → Type 0
Ticking p = has_ticks p ≡ true

-- ---- pieces with no ticks do not count

none_of : (rs : List Record) → nat_lt 0 (length rs) ≡ false → rs ≡ []
none_of [] none = refl
none_of (r ∷ rs) none = let no : suc (length rs) ≡ 0 = grind (arith, nat_tests) in absurd (omega arith)

same_ticks_by : (b : Bool) (p : Piece) (ps qs : List Piece) → has_ticks p ≡ b → flat_map ticks_of qs ≡ flat_map ticks_of ps → flat_map ticks_of (cond b (p ∷ qs) qs) ≡ flat_map ticks_of (p ∷ ps)
same_ticks_by true p ps qs has same = ap (λ (rs : List Record). ticks_of p ++ rs) same
same_ticks_by false p ps qs has same = same ∙ ap (λ (rs : List Record). rs ++ flat_map ticks_of ps) (sym (none_of (ticks_of p) has))

pub same_ticks : (ps : List Piece) → flat_map ticks_of (filter has_ticks ps) ≡ flat_map ticks_of ps
same_ticks [] = refl
same_ticks (p ∷ ps) = same_ticks_by (has_ticks p) p ps (filter has_ticks ps) refl (same_ticks ps)

none_left : (done t n : ℕ) → nat_lt 0 t ≡ false → n ≡ cond (nat_lt done t) (suc n) n
none_left done t n none = grind (arith, nat_tests)

less_none : (done t : ℕ) → nat_lt 0 t ≡ false → done - t ≡ done
less_none done t none = let no : t ≡ 0 = grind (arith, nat_tests) in omega arith

same_count_by : (b : Bool) (p : Piece) (ps qs : List Piece) (done : ℕ) → has_ticks p ≡ b → ((left : ℕ) → unfinished qs left ≡ unfinished ps left) → unfinished (cond b (p ∷ qs) qs) done ≡ unfinished (p ∷ ps) done
same_count_by true p ps qs done has same = let e = same (done - tick_count p) in cc
same_count_by false p ps qs done has same =
    same done ∙ ap (unfinished ps) (sym (less_none done (tick_count p) has)) ∙ none_left done (tick_count p) (unfinished ps (done - tick_count p)) has

pub same_count : (ps : List Piece) (done : ℕ) → unfinished (filter has_ticks ps) done ≡ unfinished ps done
same_count [] done = refl
same_count (p ∷ ps) done = same_count_by (has_ticks p) p ps (filter has_ticks ps) done refl (same_count ps)

-- ---- finished pieces, and those behind them

not_counted : (done t n : ℕ) → t ≤ done → cond (nat_lt done t) (suc n) n ≡ n
not_counted done t n all = grind (arith, nat_tests)

pub count_behind : (ps qs : List Piece) (done : ℕ) → ticks_together ps ≤ done → unfinished (ps ++ qs) done ≡ unfinished qs (done - ticks_together ps)
count_behind [] qs done over = ap (unfinished qs) (let e : done ≡ done - 0 = omega arith in e)
count_behind (p ∷ ps) qs done over =
    let e = together p ps in
    not_counted done (tick_count p) (unfinished (ps ++ qs) (done - tick_count p)) (omega arith)
    ∙ count_behind ps qs (done - tick_count p) (omega arith)
    ∙ ap (unfinished qs) (let f : done - tick_count p - ticks_together ps ≡ done - ticks_together (p ∷ ps) = omega arith in f)

counted : (done t n m : ℕ) → done < t → n ≡ m → cond (nat_lt done t) (suc n) n ≡ suc m
counted done t n m left same = grind (arith, nat_tests)

ticks_there : (p : Piece) → has_ticks p ≡ true → 0 < tick_count p
ticks_there p has = grind (arith, nat_tests)

count_fresh : (ps : List Piece) (done : ℕ) → All Ticking ps → done ≡ 0 → unfinished ps done ≡ length ps
count_fresh [] done has none = refl
count_fresh (p ∷ ps) done has none =
    let some = ticks_there p (All-head Ticking p ps has) in
    counted done (tick_count p) (unfinished ps (done - tick_count p)) (length ps) (omega arith) (count_fresh ps (done - tick_count p) (All-tail Ticking p ps has) (omega arith))

pub count_begun : (ps : List Piece) (done : ℕ) → All Ticking ps → EndsWithin ps done → unfinished ps done ≡ length ps
count_begun [] done has within = refl
count_begun (p ∷ ps) done has within =
    counted done (tick_count p) (unfinished ps (done - tick_count p)) (length ps) within (count_fresh ps (done - tick_count p) (All-tail Ticking p ps has) (omega arith))
