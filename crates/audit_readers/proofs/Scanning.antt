-- A job cut into lines from its front.
use Rattle.std.proofs.Common.{◌≡◌, ◌≤◌, ◌+◌, ℕ, Bool, true, false, cond, List, [], ◌∷◌, ◌++◌, length, take, drop, nat_lt, append-nil, append_assoc, length-append, ◌⊎◌, inl, inr, Some, None, refl, sym, ap, ◌∙◌, subst, arith}
use Rattle.std.specs.declared.option.Option.{Option}
use Rattle.std.specs.Option.{is_some, unwrap_or}
use Rattle.std.proofs.lemmas.Bool.Decides.{nat_tests}
use Rattle.std.proofs.lemmas.List.{take_all}
use Rattle.std.proofs.Math.Seq.{take-append-add, take-append_seam, drop-append-add}
use Rattle.run_rules.specs.Lines.{HasNoLf, ended, lines_of, whole_lines, onto_line, onto_first}
use Rattle.run_texts.specs.Sent.{kept_of}
use Rattle.audit_rules.specs.Scanned.{Scanned, onto_lines, up_to_long, open_line, long_front, scanned_of, most_sent}

-- ---- the first line of a text

pub line_first : (xs rest : List ℕ) → HasNoLf xs → lines_of (xs ++ 10 ∷ rest) ≡ xs ∷ lines_of rest
line_first [] rest h = refl
line_first (c ∷ cs) rest h = rw h.0 (ap (onto_first c) (line_first cs rest h.1))

whole_first : (xs rest : List ℕ) → HasNoLf xs → whole_lines (xs ++ 10 ∷ rest) ≡ xs ∷ whole_lines rest
whole_first [] rest h = refl
whole_first (c ∷ cs) rest h = rw h.0 (ap (onto_line c) (whole_first cs rest h.1))

no_whole : (xs : List ℕ) → HasNoLf xs → whole_lines xs ≡ []
no_whole [] h = refl
no_whole (c ∷ cs) h = rw h.0 (ap (onto_line c) (no_whole cs h.1))

pub one_line : (c : ℕ) (cs : List ℕ) → HasNoLf (c ∷ cs) → lines_of (c ∷ cs) ≡ (c ∷ cs) ∷ []
one_line c [] h = rw h.0 refl
one_line c (d ∷ ds) h = rw h.0 (ap (onto_first c) (one_line d ds h.1))

-- ---- a line so far: it is not too long yet

-- whatever comes behind these bytes
abbrev pub IsShort : List ℕ → Type 0
IsShort front = (rest : List ℕ) → long_front [] (front ++ rest) ≡ long_front front rest

pub nothing_short : IsShort []
nothing_short rest = refl

pub more_short : (front : List ℕ) (byte : ℕ) → IsShort front → nat_lt most_sent (length (kept_of (front ++ byte ∷ []))) ≡ false → IsShort (front ++ byte ∷ [])
more_short front byte short few rest =
    ap (long_front []) (append_assoc front (byte ∷ []) rest) ∙ short (byte ∷ rest)
    ∙ ap (λ (t : Bool). cond t (Some (front ++ byte ∷ [])) (long_front (front ++ byte ∷ []) rest)) few

not_long : (front : List ℕ) → IsShort front → long_front [] front ≡ None
not_long front short = ap (long_front []) (sym (append-nil front)) ∙ short []

long_with : (front : List ℕ) (byte : ℕ) (rest : List ℕ) → IsShort front → nat_lt most_sent (length (kept_of (front ++ byte ∷ []))) ≡ true
    → long_front [] (front ++ byte ∷ rest) ≡ Some (front ++ byte ∷ [])
long_with front byte rest short many =
    short (byte ∷ rest) ∙ ap (λ (t : Bool). cond t (Some (front ++ byte ∷ [])) (long_front (front ++ byte ∷ []) rest)) many

-- ---- what is scanned of a text, of which so many bytes count

abbrev pub scan_to : ℕ → List ℕ → Scanned
scan_to room text = cond (nat_lt room (length text)) (up_to_long (whole_lines (take room text)) (open_line (take room text))) (up_to_long (lines_of text) [])

by_test : {A : Type 0} (b : Bool) (x y z : A) → (b ≡ true → x ≡ z) → (b ≡ false → y ≡ z) → cond b x y ≡ z
by_test true x y z on off = on refl
by_test false x y z on off = off refl

-- ---- a line that ends with LF

abbrev pub with_lf : List ℕ → List ℕ
with_lf front = front ++ 10 ∷ []

whole_with : (front more : List ℕ) → HasNoLf front → whole_lines (with_lf front ++ more) ≡ front ∷ whole_lines more
whole_with front more h = ap whole_lines (append_assoc front (10 ∷ []) more) ∙ whole_first front more h

lines_with : (front more : List ℕ) → HasNoLf front → lines_of (with_lf front ++ more) ≡ front ∷ lines_of more
lines_with front more h = ap lines_of (append_assoc front (10 ∷ []) more) ∙ line_first front more h

open_with : (front more : List ℕ) → HasNoLf front → open_line (with_lf front ++ more) ≡ open_line more
open_with front more h =
    let long : length (ended (front ∷ whole_lines more)) ≡ length (with_lf front) + length (ended (whole_lines more)) = length-append (with_lf front) (ended (whole_lines more)) in
    ap (λ (ls : List (List ℕ)). drop (length (ended ls)) (with_lf front ++ more)) (whole_with front more h)
    ∙ ap (λ (n : ℕ). drop n (with_lf front ++ more)) long
    ∙ drop-append-add (with_lf front) more (length (ended (whole_lines more)))

longer : (n room more : ℕ) → nat_lt (n + room) (n + more) ≡ nat_lt room more
longer n room more = grind (arith, nat_tests)

onto_up : (front : List ℕ) (ls : List (List ℕ)) (rest : List ℕ) → IsShort front → up_to_long (front ∷ ls) rest ≡ onto_lines front (up_to_long ls rest)
onto_up front ls rest short =
    ap (λ (o : Option (List ℕ)). cond (is_some o) (record { lines = []; rest = scanned_of front }) (onto_lines front (up_to_long ls rest))) (not_long front short)

onto_cond : (front : List ℕ) (b : Bool) (x y : Scanned) → cond b (onto_lines front x) (onto_lines front y) ≡ onto_lines front (cond b x y)
onto_cond front true x y = refl
onto_cond front false x y = refl

pub scanned_with : (front more : List ℕ) (room : ℕ) → HasNoLf front → IsShort front → scan_to (length (with_lf front) + room) (with_lf front ++ more) ≡ onto_lines front (scan_to room more)
scanned_with front more room inside short =
    let taken : take (length (with_lf front) + room) (with_lf front ++ more) ≡ with_lf front ++ take room more = take-append-add (with_lf front) more room in
    let test : nat_lt (length (with_lf front) + room) (length (with_lf front ++ more)) ≡ nat_lt room (length more) =
    ap (nat_lt (length (with_lf front) + room)) (length-append (with_lf front) more) ∙ longer (length (with_lf front)) room (length more) in
    let large : up_to_long (whole_lines (take (length (with_lf front) + room) (with_lf front ++ more))) (open_line (take (length (with_lf front) + room) (with_lf front ++ more)))
    ≡ onto_lines front (up_to_long (whole_lines (take room more)) (open_line (take room more))) =
    ap (λ (t : List ℕ). up_to_long (whole_lines t) (open_line t)) taken
    ∙ ap (λ (ls : List (List ℕ)). up_to_long ls (open_line (with_lf front ++ take room more))) (whole_with front (take room more) inside)
    ∙ ap (up_to_long (front ∷ whole_lines (take room more))) (open_with front (take room more) inside)
    ∙ onto_up front (whole_lines (take room more)) (open_line (take room more)) short in
    let small : up_to_long (lines_of (with_lf front ++ more)) [] ≡ onto_lines front (up_to_long (lines_of more) []) =
    ap (λ (ls : List (List ℕ)). up_to_long ls []) (lines_with front more inside) ∙ onto_up front (lines_of more) [] short in
    ap (λ (b : Bool). cond b (up_to_long (whole_lines (take (length (with_lf front) + room) (with_lf front ++ more))) (open_line (take (length (with_lf front) + room) (with_lf front ++ more))))
    (up_to_long (lines_of (with_lf front ++ more)) [])) test
    ∙ ap (λ (x : Scanned). cond (nat_lt room (length more)) x (up_to_long (lines_of (with_lf front ++ more)) [])) large
    ∙ ap (λ (x : Scanned). cond (nat_lt room (length more)) (onto_lines front (up_to_long (whole_lines (take room more)) (open_line (take room more)))) x) small
    ∙ onto_cond front (nat_lt room (length more)) (up_to_long (whole_lines (take room more)) (open_line (take room more))) (up_to_long (lines_of more) [])

pub raw_with : (front more : List ℕ) (room : ℕ) → HasNoLf front → lines_of (take (length (with_lf front) + room) (with_lf front ++ more)) ≡ front ∷ lines_of (take room more)
raw_with front more room inside = ap lines_of (take-append-add (with_lf front) more room) ∙ lines_with front (take room more) inside

-- ---- a last line without LF

pub scanned_last : (c : ℕ) (cs : List ℕ) (room : ℕ) → HasNoLf (c ∷ cs) → IsShort (c ∷ cs) → length (c ∷ cs) ≤ room → scan_to room (c ∷ cs) ≡ onto_lines (c ∷ cs) (record { lines = []; rest = [] })
scanned_last c cs room inside short few =
    let test : nat_lt room (length (c ∷ cs)) ≡ false = grind (arith, nat_tests) in
    ap (λ (b : Bool). cond b (up_to_long (whole_lines (take room (c ∷ cs))) (open_line (take room (c ∷ cs)))) (up_to_long (lines_of (c ∷ cs)) [])) test
    ∙ ap (λ (ls : List (List ℕ)). up_to_long ls []) (one_line c cs inside) ∙ onto_up (c ∷ cs) [] [] short

pub scanned_none : (room : ℕ) → scan_to room [] ≡ record { lines = []; rest = [] }
scanned_none room =
    let test : nat_lt room 0 ≡ false = grind (arith, nat_tests) in
    ap (λ (b : Bool). cond b (up_to_long (whole_lines (take room [])) (open_line (take room []))) (up_to_long (lines_of []) [])) test

pub raw_last : (c : ℕ) (cs : List ℕ) (room : ℕ) → HasNoLf (c ∷ cs) → length (c ∷ cs) ≤ room → lines_of (take room (c ∷ cs)) ≡ (c ∷ cs) ∷ []
raw_last c cs room inside few = ap lines_of (take_all room (c ∷ cs) few) ∙ one_line c cs inside

-- ---- a job that is too large, amid a line

short_scanned : (front : List ℕ) → IsShort front → scanned_of front ≡ front
short_scanned front short = ap (λ (o : Option (List ℕ)). unwrap_or o front) (not_long front short)

pub scanned_large : (front : List ℕ) (byte : ℕ) (more : List ℕ) → HasNoLf front → IsShort front → scan_to (length front) (front ++ byte ∷ more) ≡ record { lines = []; rest = front }
scanned_large front byte more inside short =
    let test : nat_lt (length front) (length (front ++ byte ∷ more)) ≡ true = let l = length-append front (byte ∷ more) in grind (arith, nat_tests) in
    let taken : take (length front) (front ++ byte ∷ more) ≡ front = take-append_seam front (byte ∷ more) in
    ap (λ (b : Bool). cond b (up_to_long (whole_lines (take (length front) (front ++ byte ∷ more))) (open_line (take (length front) (front ++ byte ∷ more)))) (up_to_long (lines_of (front ++ byte ∷ more)) [])) test
    ∙ ap (λ (t : List ℕ). up_to_long (whole_lines t) (open_line t)) taken
    ∙ ap (λ (ls : List (List ℕ)). up_to_long ls (drop (length (ended ls)) front)) (no_whole front inside)
    ∙ ap (λ (r : List ℕ). record { lines = []; rest = r }) (short_scanned front short)

-- ---- a line that is too long

-- the first line of a text begins with a front of it that has no LF
pub record FirstBegins (ls : List (List ℕ)) (front : List ℕ) : Type 0 where
  pub rest : List ℕ
  pub more : List (List ℕ)
  pub is : ls ≡ (front ++ rest) ∷ more

first_onto : (c : ℕ) (ls : List (List ℕ)) (front : List ℕ) → FirstBegins ls front → FirstBegins (onto_first c ls) (c ∷ front)
first_onto c ls front f = record { rest = f.rest; more = f.more; is = ap (onto_first c) f.is }

first_any : (c : ℕ) (ls : List (List ℕ)) → FirstBegins (onto_first c ls) (c ∷ [])
first_any c [] = record { rest = []; more = []; is = refl }
first_any c (l ∷ ls) = record { rest = l; more = ls; is = refl }

line_begins : (c : ℕ) (cs rest : List ℕ) → HasNoLf (c ∷ cs) → FirstBegins (lines_of ((c ∷ cs) ++ rest)) (c ∷ cs)
line_begins c [] rest h = rw h.0 (first_any c (lines_of rest))
line_begins c (d ∷ ds) rest h = rw h.0 (first_onto c (lines_of ((d ∷ ds) ++ rest)) (d ∷ ds) (line_begins d ds rest h.1))

long_up : (front : List ℕ) (ls : List (List ℕ)) (rest : List ℕ) (long : List ℕ) → FirstBegins ls front → ((more : List ℕ) → long_front [] (front ++ more) ≡ Some long) → up_to_long ls rest ≡ record { lines = []; rest = long }
long_up front ls rest long f is =
    ap (λ (xs : List (List ℕ)). up_to_long xs rest) f.is
    ∙ ap (λ (o : Option (List ℕ)). cond (is_some o) (record { lines = []; rest = unwrap_or o (front ++ f.rest) }) (onto_lines (front ++ f.rest) (up_to_long f.more rest))) (is f.rest)

-- no line is ended there, or the first begins so
whole_begins : (c : ℕ) (cs rest : List ℕ) → HasNoLf (c ∷ cs) → (whole_lines ((c ∷ cs) ++ rest) ≡ []) ⊎ FirstBegins (whole_lines ((c ∷ cs) ++ rest)) (c ∷ cs)
whole_begins c [] rest h = rw h.0 (by_lines (whole_lines rest)) where
  by_lines : (ls : List (List ℕ)) → (onto_line c ls ≡ []) ⊎ FirstBegins (onto_line c ls) (c ∷ [])
  by_lines [] = inl refl
  by_lines (l ∷ ls) = inr (record { rest = l; more = ls; is = refl })
whole_begins c (d ∷ ds) rest h = rw h.0 (by_rest (whole_begins d ds rest h.1)) where
  by_rest : (whole_lines ((d ∷ ds) ++ rest) ≡ []) ⊎ FirstBegins (whole_lines ((d ∷ ds) ++ rest)) (d ∷ ds)
      → (onto_line c (whole_lines ((d ∷ ds) ++ rest)) ≡ []) ⊎ FirstBegins (onto_line c (whole_lines ((d ∷ ds) ++ rest))) (c ∷ d ∷ ds)
  by_rest (inl none) = inl (ap (onto_line c) none)
  by_rest (inr f) = inr (record { rest = f.rest; more = f.more; is = ap (onto_line c) f.is })

scanned_up : (c : ℕ) (cs more : List ℕ) (room : ℕ) → HasNoLf (c ∷ cs) → ((rest : List ℕ) → long_front [] ((c ∷ cs) ++ rest) ≡ Some (c ∷ cs))
    → scan_to (length (c ∷ cs) + room) ((c ∷ cs) ++ more) ≡ record { lines = []; rest = c ∷ cs }
scanned_up c cs more room inside long =
    by_test (nat_lt (length (c ∷ cs) + room) (length ((c ∷ cs) ++ more)))
    (up_to_long (whole_lines (take (length (c ∷ cs) + room) ((c ∷ cs) ++ more))) (open_line (take (length (c ∷ cs) + room) ((c ∷ cs) ++ more)))) (up_to_long (lines_of ((c ∷ cs) ++ more)) [])
    (record { lines = []; rest = c ∷ cs })
    (λ _. ap (λ (t : List ℕ). up_to_long (whole_lines t) (open_line t)) (take-append-add (c ∷ cs) more room) ∙ by_whole (take room more) (whole_begins c cs (take room more) inside))
    (λ _. long_up (c ∷ cs) (lines_of ((c ∷ cs) ++ more)) [] (c ∷ cs) (line_begins c cs more inside) long) where
      by_whole : (m : List ℕ) → (whole_lines ((c ∷ cs) ++ m) ≡ []) ⊎ FirstBegins (whole_lines ((c ∷ cs) ++ m)) (c ∷ cs)
          → up_to_long (whole_lines ((c ∷ cs) ++ m)) (open_line ((c ∷ cs) ++ m)) ≡ record { lines = []; rest = c ∷ cs }
      by_whole m (inl none) =
          ap (λ (ls : List (List ℕ)). up_to_long ls (drop (length (ended ls)) ((c ∷ cs) ++ m))) none
          ∙ ap (λ (o : Option (List ℕ)). record { lines = []; rest = unwrap_or o ((c ∷ cs) ++ m) }) (long m)
      by_whole m (inr f) = long_up (c ∷ cs) (whole_lines ((c ∷ cs) ++ m)) (open_line ((c ∷ cs) ++ m)) (c ∷ cs) f long

pub scanned_long : (front : List ℕ) (byte : ℕ) (more : List ℕ) (room : ℕ) → HasNoLf (front ++ byte ∷ []) → IsShort front → nat_lt most_sent (length (kept_of (front ++ byte ∷ []))) ≡ true
    → scan_to (length (front ++ byte ∷ []) + room) ((front ++ byte ∷ []) ++ more) ≡ record { lines = []; rest = front ++ byte ∷ [] }
scanned_long front byte more room inside short many = by_front front refl where
  long : (rest : List ℕ) → long_front [] ((front ++ byte ∷ []) ++ rest) ≡ Some (front ++ byte ∷ [])
  long rest = ap (long_front []) (append_assoc front (byte ∷ []) rest) ∙ long_with front byte rest short many

  by_some : (c : ℕ) (cs : List ℕ) → front ++ byte ∷ [] ≡ c ∷ cs → scan_to (length (front ++ byte ∷ []) + room) ((front ++ byte ∷ []) ++ more) ≡ record { lines = []; rest = front ++ byte ∷ [] }
  by_some c cs e =
      let P : List ℕ → Type 0 = λ xs. scan_to (length xs + room) (xs ++ more) ≡ record { lines = []; rest = xs } in
      subst P (sym e) (scanned_up c cs more room (subst HasNoLf e inside) (λ rest. subst (λ (xs : List ℕ). long_front [] (xs ++ rest) ≡ Some xs) e (long rest)))

  by_front : (f : List ℕ) → front ≡ f → scan_to (length (front ++ byte ∷ []) + room) ((front ++ byte ∷ []) ++ more) ≡ record { lines = []; rest = front ++ byte ∷ [] }
  by_front [] e = by_some byte [] (ap (λ (t : List ℕ). t ++ byte ∷ []) e)
  by_front (c ∷ cs) e = by_some c (cs ++ byte ∷ []) (ap (λ (t : List ℕ). t ++ byte ∷ []) e)
