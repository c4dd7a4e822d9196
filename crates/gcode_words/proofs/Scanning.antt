-- The cut of a line, found byte by byte.
use Rattle.std.proofs.Common.{◌≡◌, ℕ, zero, suc, ◌+◌, ◌≤◌, ◌<◌, Bool, true, false, cond, ◌||◌, List, [], ◌∷◌, ◌++◌, length, take, drop, nat_eq, refl, sym, ◌∙◌, ap, arith, append_assoc, add-one, length-drop}
use Rattle.std.specs.List.{before_first, after_first, list_any, position_or_len}
use Rattle.gcode_words.specs.Comments.{Cut, begins_comment, ends_comment, cut_comment, cut_within}
use Rattle.gcode_words.specs.declared.stripping.Comment.{Comment}
use Rattle.gcode_words.specs.declared.stripping.Comment.TheVariants.{Outside, Paren, Semicolon}

-- where a byte leads
abbrev pub next : Comment → ℕ → Comment
next Outside c = cond (nat_eq c 40) Paren (cond (nat_eq c 59) Semicolon Outside)
next Paren c = cond (nat_eq c 41) Outside Paren
next Semicolon c = Semicolon

-- a byte, where it stands outside comments
abbrev pub seen : Comment → ℕ → List ℕ
seen Outside c = cond (begins_comment c) [] (c ∷ [])
seen Paren c = []
seen Semicolon c = []

abbrev pub after : Comment → List ℕ → Comment
after s [] = s
after s (c ∷ cs) = after (next s c) cs

abbrev pub shown : Comment → List ℕ → List ℕ
shown s [] = []
shown s (c ∷ cs) = seen s c ++ shown (next s c) cs

abbrev pub scan : Comment → List ℕ → Cut
scan s line = record { outside = shown s line; comment = after s line }

abbrev pub behind : List ℕ → Cut → Cut
behind front c = record { outside = front ++ c.outside; comment = c.comment }

pub after-append : (s : Comment) (xs ys : List ℕ) → after s (xs ++ ys) ≡ after (after s xs) ys
after-append s [] ys = refl
after-append s (x ∷ xs) ys = after-append (next s x) xs ys

pub shown-append : (s : Comment) (xs ys : List ℕ) → shown s (xs ++ ys) ≡ shown s xs ++ shown (after s xs) ys
shown-append s [] ys = refl
shown-append s (x ∷ xs) ys = ap (λ l. seen s x ++ l) (shown-append (next s x) xs ys) ∙ sym (append_assoc (seen s x) (shown (next s x) xs) (shown (after (next s x) xs) ys))

pub scan-append : (s : Comment) (xs ys : List ℕ) → scan s (xs ++ ys) ≡ behind (shown s xs) (scan (after s xs) ys)
scan-append s xs ys = let a = after-append s xs ys in let b = shown-append s xs ys in cc

-- ---- what a front without a comment, and a comment, come to

or_false : (a b : Bool) → (a || b) ≡ false → (a ≡ false) × (b ≡ false)
or_false true b h = absurd cc
or_false false b h = (refl, h)

pub scan_plain : (xs : List ℕ) → list_any begins_comment xs ≡ false → scan Outside xs ≡ record { outside = xs; comment = Outside }
scan_plain [] h = refl
scan_plain (x ∷ xs) h =
    let both = or_false (begins_comment x) (list_any begins_comment xs) h in
    let here = or_false (nat_eq x 40) (nat_eq x 59) both.0 in
    rw (here.0, here.1) (ap (behind (x ∷ [])) (scan_plain xs both.1))

pub scan_paren : (xs : List ℕ) → list_any ends_comment xs ≡ false → scan Paren xs ≡ record { outside = []; comment = Paren }
scan_paren [] h = refl
scan_paren (x ∷ xs) h = let both = or_false (ends_comment x) (list_any ends_comment xs) h in rw both.0 (scan_paren xs both.1)

pub scan_semicolon : (xs : List ℕ) → scan Semicolon xs ≡ record { outside = []; comment = Semicolon }
scan_semicolon [] = refl
scan_semicolon (x ∷ xs) = scan_semicolon xs

-- ---- the cut is found so

first_later : (p : ℕ → Bool) (x : ℕ) (xs : List ℕ) → p x ≡ false → position_or_len p (x ∷ xs) ≡ suc (position_or_len p xs)
first_later p x xs h = rw h (omega arith)

scan_closed_at : (b : Bool) (x : ℕ) (xs : List ℕ) → ends_comment x ≡ b → (b || list_any ends_comment xs) ≡ true
    → (list_any ends_comment xs ≡ true → scan Paren xs ≡ scan Outside (after_first ends_comment xs))
    → scan Paren (x ∷ xs) ≡ scan Outside (after_first ends_comment (x ∷ xs))
scan_closed_at true x xs e h ih = rw e refl
scan_closed_at false x xs e h ih =
    let k = position_or_len ends_comment xs in
    let further : drop (position_or_len ends_comment (x ∷ xs) + 1) (x ∷ xs) ≡ drop (k + 1) xs = ap (λ n. drop (n + 1) (x ∷ xs)) (first_later ends_comment x xs e) ∙ rw (add-one, add-one) refl in
    rw e (ih h) ∙ ap (scan Outside) (sym further)

scan_closed : (xs : List ℕ) → list_any ends_comment xs ≡ true → scan Paren xs ≡ scan Outside (after_first ends_comment xs)
scan_closed [] h = absurd cc
scan_closed (x ∷ xs) h = scan_closed_at (ends_comment x) x xs refl h (scan_closed xs)

abbrev Shorter : (List ℕ → Cut) → ℕ → Type 0
Shorter cut_rest n = (text : List ℕ) → length text < n → cut_rest text ≡ scan Outside text

abbrev cut_from : (List ℕ → Cut) → List ℕ → Cut
cut_from cut_rest line = behind (before_first begins_comment line) (cut_comment cut_rest (drop (length (before_first begins_comment line)) line))

comment_at : (cut_rest : List ℕ → Cut) (some : Bool) (xs : List ℕ) → list_any ends_comment xs ≡ some → Shorter cut_rest (suc (length xs))
    → cond some (cut_rest (after_first ends_comment xs)) (record { outside = []; comment = Paren }) ≡ scan Paren xs
comment_at cut_rest true xs e ih = ih (after_first ends_comment xs) (simp length-drop (omega arith)) ∙ sym (scan_closed xs e)
comment_at cut_rest false xs e ih = sym (scan_paren xs e)

kind_at : (cut_rest : List ℕ → Cut) (paren semicolon : Bool) (x : ℕ) (xs : List ℕ) → nat_eq x 40 ≡ paren → nat_eq x 59 ≡ semicolon → (paren || semicolon) ≡ true
    → (paren ≡ true → semicolon ≡ false) → Shorter cut_rest (suc (length xs))
    → cut_comment cut_rest (x ∷ xs) ≡ scan (cond paren Paren (cond semicolon Semicolon Outside)) xs
kind_at cut_rest true true x xs e f some one ih = absurd (let h = one refl in cc)
kind_at cut_rest true false x xs e f some one ih = rw f (comment_at cut_rest (list_any ends_comment xs) xs refl ih)
kind_at cut_rest false true x xs e f some one ih = rw f (sym (scan_semicolon xs))
kind_at cut_rest false false x xs e f some one ih = absurd cc

not_both : (x : ℕ) → nat_eq x 40 ≡ true → nat_eq x 59 ≡ false
not_both x h = grind arith

from_at : (cut_rest : List ℕ → Cut) (begins : Bool) (x : ℕ) (xs : List ℕ) → begins_comment x ≡ begins → Shorter cut_rest (suc (length xs))
    → cut_from cut_rest xs ≡ scan Outside xs → cut_from cut_rest (x ∷ xs) ≡ scan Outside (x ∷ xs)
from_at cut_rest true x xs e ih rest = rw e (kind_at cut_rest (nat_eq x 40) (nat_eq x 59) x xs refl refl e (not_both x) ih)
from_at cut_rest false x xs e ih rest =
    let front : before_first begins_comment (x ∷ xs) ≡ x ∷ before_first begins_comment xs = ap (λ n. take n (x ∷ xs)) (first_later begins_comment x xs e) in
    let further : cut_from cut_rest (x ∷ xs) ≡ behind (x ∷ []) (cut_from cut_rest xs) = ap (λ f. behind f (cut_comment cut_rest (drop (length f) (x ∷ xs)))) front in
    let here = or_false (nat_eq x 40) (nat_eq x 59) e in
    let scanned : scan Outside (x ∷ xs) ≡ behind (x ∷ []) (scan Outside xs) = rw (here.0, here.1) refl in
    further ∙ ap (behind (x ∷ [])) rest ∙ sym scanned

cut_from_scan : (cut_rest : List ℕ → Cut) (line : List ℕ) → Shorter cut_rest (length line) → cut_from cut_rest line ≡ scan Outside line
cut_from_scan cut_rest [] ih = refl
cut_from_scan cut_rest (x ∷ xs) ih =
    from_at cut_rest (begins_comment x) x xs refl ih (cut_from_scan cut_rest xs (λ text less. ih text (omega (arith, less))))

pub cut_scan : (n : ℕ) (line : List ℕ) → length line ≤ n → cut_within n line ≡ scan Outside line
unfolding cut_within
cut_scan zero [] few = refl
cut_scan zero (x ∷ xs) few = absurd (omega arith)
cut_scan (suc n) line few = cut_from_scan (cut_within n) line (λ text less. cut_scan n text (omega (arith, few, less)))
