-- What is sent of a line, one byte more at a time.
use Rattle.std.proofs.Common.{◌≡◌, ℕ, ◌≤◌, ◌⊎◌, inl, inr, Bool, true, false, cond, ◌||◌, List, [], ◌∷◌, ◌++◌, length, map, nat_eq, nat_lt, refl, sym, ap, ◌∙◌, arith, append-nil, append_assoc}
use Rattle.std.specs.List.{filter, list_any}
use Rattle.std.proofs.lemmas.Bool.Decides.{nat_tests}
use Rattle.std.proofs.lemmas.List.{map-append, append_cancel_left}
use Rattle.std.proofs.lemmas.List.Elements.{filter-append}
use Rattle.std.proofs.lemmas.List.Folds.{list_any-append}
use Rattle.gcode_words.specs.Comments.{cut, cut_within, comment_after, begins_comment}
use Rattle.gcode_words.specs.declared.stripping.Comment.{Comment}
use Rattle.gcode_words.specs.declared.stripping.Comment.TheVariants.{Outside, Paren, Semicolon}
use Rattle.gcode_words.specs.declared.stripping.Stripped.{Stripped}
use Rattle.gcode_words.specs.Stripping.{is_plain, is_realtime, capital, plain, realtime, kept_by, taken_by}
use Rattle.gcode_words.proofs.Scanning.{shown, cut_scan, shown-append}
use Rattle.gcode_words.proofs.Fed.{kept_of, comment_is, plain-append, realtime-append}
use Rattle.host_journal.specs.Jobs.{is_reset, behind_last, sent_text, fronts, has_too_many, is_long}

-- ---- behind the last byte that passes a test

behind_push : (p : ℕ → Bool) (xs : List ℕ) (x : ℕ) → behind_last p (xs ++ x ∷ []) ≡ cond (p x) [] (behind_last p xs ++ x ∷ [])
behind_push p [] x = refl
behind_push p (y ∷ ys) x =
    ap (λ t. cond t (behind_last p (ys ++ x ∷ [])) (cond (p y) (ys ++ x ∷ []) (y ∷ ys ++ x ∷ []))) (list_any-append p ys (x ∷ []))
    ∙ ap (λ b. cond (list_any p ys || (p x || false)) b (cond (p y) (ys ++ x ∷ []) (y ∷ ys ++ x ∷ []))) (behind_push p ys x)
    ∙ by_tests (p x) (list_any p ys) (p y) (behind_last p ys)
  where
    by_tests : (t u v : Bool) (b : List ℕ) → cond (u || (t || false)) (cond t [] (b ++ x ∷ [])) (cond v (ys ++ x ∷ []) (y ∷ ys ++ x ∷ [])) ≡ cond t [] (cond u b (cond v ys (y ∷ ys)) ++ x ∷ [])
    by_tests true true v b = refl
    by_tests true false v b = refl
    by_tests false true v b = refl
    by_tests false false true b = refl
    by_tests false false false b = refl

few_behind : (p : ℕ → Bool) (xs : List ℕ) → length (behind_last p xs) ≤ length xs
few_behind p [] = omega arith
few_behind p (x ∷ xs) = by_tests (list_any p xs) (p x) (few_behind p xs)
  where
    by_tests : (t u : Bool) → length (behind_last p xs) ≤ length xs → length (cond t (behind_last p xs) (cond u xs (x ∷ xs))) ≤ length (x ∷ xs)
    by_tests true u few = omega arith
    by_tests false true few = omega arith
    by_tests false false few = omega arith

-- ---- one byte more

-- what is sent of some bytes outside comments
sent_of : List ℕ → List ℕ
sent_of bytes = kept_of (behind_last is_reset bytes)

kept_of-append : (xs ys : List ℕ) → kept_of (xs ++ ys) ≡ kept_of xs ++ kept_of ys
kept_of-append xs ys = ap (map capital) (filter-append is_plain xs ys) ∙ map-append capital (filter is_plain xs) (filter is_plain ys)

outside_is : (line : List ℕ) → (cut line).outside ≡ shown Outside line
outside_is line = ap (λ c. c.outside) (cut_scan (length line) line (omega arith))

reset_seen : (x : ℕ) (t : Bool) → is_reset x ≡ t → list_any is_reset (filter is_realtime (x ∷ [])) ≡ t
reset_seen x true e = let n : nat_eq x 24 ≡ true = e in rw (n, e) refl
reset_seen x false e = by_test (is_realtime x)
  where
    by_test : (r : Bool) → list_any is_reset (cond r (x ∷ []) []) ≡ false
    by_test true = rw e refl
    by_test false = refl

sent_on : (front more : List ℕ) → length more ≤ 1 → sent_of (front ++ more) ≡ cond (list_any is_reset (filter is_realtime more)) [] (sent_of front ++ kept_of more)
unfolding sent_of
sent_on front [] few = ap sent_of (append-nil front) ∙ sym (append-nil (sent_of front))
sent_on front (x ∷ []) few =
    ap kept_of (behind_push is_reset front x) ∙ by_test (is_reset x) refl
  where
    by_test : (t : Bool) → is_reset x ≡ t → kept_of (cond t [] (behind_last is_reset front ++ x ∷ [])) ≡ cond (list_any is_reset (filter is_realtime (x ∷ []))) [] (sent_of front ++ kept_of (x ∷ []))
    by_test true e = ap (λ t. cond t [] (sent_of front ++ kept_of (x ∷ []))) (sym (reset_seen x true e))
    by_test false e = kept_of-append (behind_last is_reset front) (x ∷ []) ∙ ap (λ t. cond t [] (sent_of front ++ kept_of (x ∷ []))) (sym (reset_seen x false e))
sent_on front (x ∷ y ∷ more) few = absurd (omega arith)

pub few_seen : (s : Comment) (b : ℕ) → length (shown s (b ∷ [])) ≤ 1
few_seen Outside b = by_test (begins_comment b)
  where
    by_test : (t : Bool) → length (cond t [] (b ∷ []) ++ []) ≤ 1
    by_test true = omega arith
    by_test false = omega arith
few_seen Paren b = omega arith
few_seen Semicolon b = omega arith

sent_is : (line : List ℕ) → sent_text line ≡ sent_of (shown Outside line)
unfolding sent_of
sent_is line = ap (λ bytes. kept_of (behind_last is_reset bytes)) (outside_is line)

-- what a byte adds that outside comments adds these
sent_more : (raw : List ℕ) (b : ℕ) → sent_text (raw ++ b ∷ []) ≡ cond (list_any is_reset (filter is_realtime (shown (comment_after raw) (b ∷ [])))) [] (sent_text raw ++ kept_of (shown (comment_after raw) (b ∷ [])))
sent_more raw b =
    sent_is (raw ++ b ∷ []) ∙ ap sent_of (shown-append Outside raw (b ∷ []))
    ∙ rw (sym (comment_is raw), sent_is raw) (sent_on (shown Outside raw) (shown (comment_after raw) (b ∷ [])) (few_seen (comment_after raw) b))

-- by what a stripper answers to the byte
pub sent_by : (raw : List ℕ) (b : ℕ) (a : Stripped) → plain (raw ++ b ∷ []) ≡ plain raw ++ kept_by a → realtime (raw ++ b ∷ []) ≡ realtime raw ++ taken_by a
    → sent_text (raw ++ b ∷ []) ≡ cond (list_any is_reset (taken_by a)) [] (sent_text raw ++ kept_by a)
sent_by raw b a kept taken =
    let more = shown (comment_after raw) (b ∷ []) in
    let k : kept_by a ≡ kept_of more = append_cancel_left (plain raw) (kept_by a) (kept_of more) (sym kept ∙ plain-append raw (b ∷ [])) in
    let t : taken_by a ≡ filter is_realtime more = append_cancel_left (realtime raw) (taken_by a) (filter is_realtime more) (sym taken ∙ realtime-append raw (b ∷ [])) in
    sent_more raw b ∙ ap (λ x. cond (list_any is_reset x) [] (sent_text raw ++ kept_of more)) (sym t) ∙ ap (λ x. cond (list_any is_reset (taken_by a)) [] (sent_text raw ++ x)) (sym k)

-- a reset drops what is kept before it
pub reset_drops : (raw : List ℕ) (b : ℕ) (taken : List ℕ) → realtime (raw ++ b ∷ []) ≡ realtime raw ++ taken → list_any is_reset taken ≡ true → sent_text (raw ++ b ∷ []) ≡ []
reset_drops raw b taken is some =
    let more = shown (comment_after raw) (b ∷ []) in
    let t : taken ≡ filter is_realtime more = append_cancel_left (realtime raw) taken (filter is_realtime more) (sym is ∙ realtime-append raw (b ∷ [])) in
    sent_more raw b ∙ ap (λ x. cond (list_any is_reset x) [] (sent_text raw ++ kept_of more)) (sym t) ∙ ap (λ t. cond t [] (sent_text raw ++ kept_of more)) some

pub sent_nil : sent_text [] ≡ []
unfolding cut_within
sent_nil = refl

-- ---- a line that is too long

fronts_push : (xs : List ℕ) (x : ℕ) → fronts (xs ++ x ∷ []) ≡ fronts xs ++ (xs ++ x ∷ []) ∷ []
fronts_push [] x = refl
fronts_push (y ∷ ys) x =
    ap (λ ls. [] ∷ map (λ front. y ∷ front) ls) (fronts_push ys x) ∙ ap (λ ls. [] ∷ ls) (map-append (λ front. y ∷ front) (fronts ys) ((ys ++ x ∷ []) ∷ []))

or_none : (b : Bool) → (b || false) ≡ b
or_none true = refl
or_none false = refl

pub long_push : (raw : List ℕ) (b : ℕ) → is_long (raw ++ b ∷ []) ≡ (is_long raw || has_too_many (raw ++ b ∷ []))
long_push raw b =
    ap (list_any has_too_many) (fronts_push raw b) ∙ list_any-append has_too_many (fronts raw) ((raw ++ b ∷ []) ∷ [])
    ∙ ap (λ t. is_long raw || t) (or_none (has_too_many (raw ++ b ∷ [])))

pub none_long : is_long [] ≡ false
none_long = ap (λ (l : List ℕ). nat_lt 127 (length l) || false) sent_nil

pub long_on : (raw more : List ℕ) → is_long raw ≡ true → is_long (raw ++ more) ≡ true
long_on raw [] e = ap is_long (append-nil raw) ∙ e
long_on raw (m ∷ more) e =
    ap is_long (sym (append_assoc raw (m ∷ []) more)) ∙ long_on (raw ++ m ∷ []) more (long_push raw m ∙ ap (λ t. t || has_too_many (raw ++ m ∷ [])) e)

pub any_map : (p : List ℕ → Bool) (y : ℕ) (ls : List (List ℕ)) → list_any p (map (λ front. y ∷ front) ls) ≡ list_any (λ l. p (y ∷ l)) ls
any_map p y [] = refl
any_map p y (l ∷ ls) = ap (λ t. p (y ∷ l) || t) (any_map p y ls)

last_front : (p : List ℕ → Bool) (xs : List ℕ) → p xs ≡ true → list_any p (fronts xs) ≡ true
last_front p [] e = ap (λ t. t || false) e
last_front p (x ∷ xs) e = by_test (p []) (any_map p x (fronts xs) ∙ last_front (λ l. p (x ∷ l)) xs e)
  where
    by_test : (t : Bool) → list_any p (map (λ front. x ∷ front) (fronts xs)) ≡ true → (t || list_any p (map (λ front. x ∷ front) (fronts xs))) ≡ true
    by_test true f = refl
    by_test false f = f

-- a line that is not too long has not too many bytes
pub few_sent : (line : List ℕ) → is_long line ≡ false → has_too_many line ≡ false
few_sent line short = by_test (has_too_many line) refl
  where
    by_test : (t : Bool) → has_too_many line ≡ t → t ≡ false
    by_test false e = refl
    by_test true e = absurd (let f = sym short ∙ last_front has_too_many line e in cc)

-- a byte with which no more is sent makes no line too long
pub long_same : (raw : List ℕ) (b : ℕ) → (sent_text (raw ++ b ∷ []) ≡ []) ⊎ (sent_text (raw ++ b ∷ []) ≡ sent_text raw) → is_long (raw ++ b ∷ []) ≡ is_long raw
long_same raw b (inl none) = long_push raw b ∙ ap (λ (l : List ℕ). is_long raw || nat_lt 127 (length l)) none ∙ or_none (is_long raw)
long_same raw b (inr same) = long_push raw b ∙ ap (λ (l : List ℕ). is_long raw || nat_lt 127 (length l)) same ∙ by_test (is_long raw) refl
  where
    by_test : (t : Bool) → is_long raw ≡ t → (t || has_too_many raw) ≡ t
    by_test true e = refl
    by_test false e = few_sent raw e

-- so many bytes are sent of a line that is not too long
pub few_bytes : (line : List ℕ) → is_long line ≡ false → length (sent_text line) ≤ 127
few_bytes line short = let e = few_sent line short in grind (arith, nat_tests)

-- what is sent of a line is kept of some of its bytes
pub sent_within : (line : List ℕ) → length (behind_last is_reset (cut line).outside) ≤ length (shown Outside line)
sent_within line = let f = few_behind is_reset (cut line).outside in let e = ap length (outside_is line) in omega arith
