-- A text cut into lines, one byte more at a time.
use Rattle.std.proofs.Common.{◌≡◌, ℕ, true, false, cond, List, [], ◌∷◌, ◌++◌, length, nat_eq, nat_lt, refl, sym, ap, ◌∙◌, arith, append-nil, append_assoc}
use Rattle.std.specs.List.{AllByRecursion}
use Rattle.std.proofs.lemmas.Grind.{flat_map-append}
use Rattle.std.proofs.lemmas.Bool.Decides.{nat_tests}
use Rattle.run_rules.specs.Lines.{CutsInto, HasNoLf, ended, lines_of, whole_lines, onto_line, onto_first}

all_push : {X : Type 0} (P : X → Type 0) (xs : List X) (x : X) → AllByRecursion P xs → P x → AllByRecursion P (xs ++ x ∷ [])
all_push P [] x h p = (p, tt)
all_push P (y ∷ ys) x h p = (h.0, all_push P ys x h.1 p)

-- a byte within a line
pub cut_byte : (text : List ℕ) (lines : List (List ℕ)) (xs : List ℕ) (b : ℕ) → CutsInto text lines xs → nat_eq b 10 ≡ false → CutsInto (text ++ b ∷ []) lines (xs ++ b ∷ [])
cut_byte text lines xs b is h = record {
  whole = ap (λ t. t ++ b ∷ []) is.whole ∙ append_assoc (ended lines) xs (b ∷ []);
  each = is.each;
  partial = all_push (λ c. nat_eq c 10 ≡ false) xs b is.partial h;
}

-- a line's end
pub cut_line : (text : List ℕ) (lines : List (List ℕ)) (xs : List ℕ) → CutsInto text lines xs → CutsInto (text ++ 10 ∷ []) (lines ++ xs ∷ []) []
cut_line text lines xs is = record {
  whole = ap (λ t. t ++ 10 ∷ []) is.whole ∙ append_assoc (ended lines) xs (10 ∷ [])
      ∙ sym (flat_map-append (λ l. l ++ 10 ∷ []) lines (xs ∷ []) ∙ ap (λ t. ended lines ++ t) (append-nil (xs ++ 10 ∷ []))) ∙ sym (append-nil (ended (lines ++ xs ∷ [])));
  each = all_push HasNoLf lines xs is.each is.partial;
  partial = tt;
}

pub cut_none : CutsInto [] [] []
cut_none = record { whole = refl; each = tt; partial = tt }

line_first : (xs rest : List ℕ) → HasNoLf xs → lines_of (xs ++ 10 ∷ rest) ≡ xs ∷ lines_of rest
line_first [] rest h = refl
line_first (c ∷ cs) rest h = rw h.0 (ap (onto_first c) (line_first cs rest h.1))

some_line : (c : ℕ) (cs : List ℕ) → cond (nat_lt 0 (length (c ∷ cs))) ((c ∷ cs) ∷ []) [] ≡ (c ∷ cs) ∷ []
some_line c cs = grind (arith, nat_tests)

last_line : (xs : List ℕ) → HasNoLf xs → lines_of xs ≡ cond (nat_lt 0 (length xs)) (xs ∷ []) []
last_line [] h = refl
last_line (c ∷ []) h = rw h.0 refl
last_line (c ∷ d ∷ ds) h = rw h.0 (ap (onto_first c) (last_line (d ∷ ds) h.1 ∙ some_line d ds) ∙ sym (some_line c (d ∷ ds)))

-- the lines of a text that begins with lines
pub lines_on : (lines : List (List ℕ)) (xs : List ℕ) → AllByRecursion HasNoLf lines → lines_of (ended lines ++ xs) ≡ lines ++ lines_of xs
lines_on [] xs h = refl
lines_on (l ∷ ls) xs h =
    ap lines_of (append_assoc (l ++ 10 ∷ []) (ended ls) xs ∙ append_assoc l (10 ∷ []) (ended ls ++ xs))
    ∙ line_first l (ended ls ++ xs) h.0 ∙ ap (λ (r : List (List ℕ)). l ∷ r) (lines_on ls xs h.1)

-- the lines of a text that is cut
pub lines_are : (text : List ℕ) (lines : List (List ℕ)) (xs : List ℕ) → CutsInto text lines xs → lines_of text ≡ lines ++ cond (nat_lt 0 (length xs)) (xs ∷ []) []
lines_are text lines xs is = ap lines_of is.whole ∙ lines_on lines xs is.each ∙ ap (λ (r : List (List ℕ)). lines ++ r) (last_line xs is.partial)

-- the lines of a text whose last line is told
pub lines_with : (text : List ℕ) (lines : List (List ℕ)) (xs : List ℕ) → CutsInto text lines xs → nat_lt 0 (length xs) ≡ true → lines_of text ≡ lines ++ xs ∷ []
lines_with text lines xs is some = lines_are text lines xs is ∙ ap (λ b. lines ++ cond b (xs ∷ []) []) some

pub lines_without : (text : List ℕ) (lines : List (List ℕ)) (xs : List ℕ) → CutsInto text lines xs → nat_lt 0 (length xs) ≡ false → lines_of text ≡ lines
lines_without text lines xs is none = lines_are text lines xs is ∙ ap (λ b. lines ++ cond b (xs ∷ []) []) none ∙ append-nil lines

whole_first : (xs rest : List ℕ) → HasNoLf xs → whole_lines (xs ++ 10 ∷ rest) ≡ xs ∷ whole_lines rest
whole_first [] rest h = refl
whole_first (c ∷ cs) rest h = rw h.0 (ap (onto_line c) (whole_first cs rest h.1))

no_whole : (xs : List ℕ) → HasNoLf xs → whole_lines xs ≡ []
no_whole [] h = refl
no_whole (c ∷ cs) h = rw h.0 (ap (onto_line c) (no_whole cs h.1))

pub wholes_on : (lines : List (List ℕ)) (xs : List ℕ) → AllByRecursion HasNoLf lines → whole_lines (ended lines ++ xs) ≡ lines ++ whole_lines xs
wholes_on [] xs h = refl
wholes_on (l ∷ ls) xs h =
    ap whole_lines (append_assoc (l ++ 10 ∷ []) (ended ls) xs ∙ append_assoc l (10 ∷ []) (ended ls ++ xs))
    ∙ whole_first l (ended ls ++ xs) h.0 ∙ ap (λ (r : List (List ℕ)). l ∷ r) (wholes_on ls xs h.1)

-- the ended lines of a text that is cut
pub wholes_are : (text : List ℕ) (lines : List (List ℕ)) (xs : List ℕ) → CutsInto text lines xs → whole_lines text ≡ lines
wholes_are text lines xs is = ap whole_lines is.whole ∙ wholes_on lines xs is.each ∙ ap (λ (r : List (List ℕ)). lines ++ r) (no_whole xs is.partial) ∙ append-nil lines

pub some_bytes : (c : ℕ) (cs : List ℕ) → nat_lt 0 (length (c ∷ cs)) ≡ true
some_bytes c cs = grind (arith, nat_tests)
