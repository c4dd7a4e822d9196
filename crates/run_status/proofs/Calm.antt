-- Lines without a reset: what is sent of them is what is kept of them, and their fronts have none either.
use Rattle.std.specs.Prelude.{replicate}
use Rattle.std.proofs.Common.{◌≡◌, ℕ, ◌+◌, ◌≤◌, Bool, true, false, cond, ◌||◌, List, [], ◌∷◌, ◌++◌, length, map, nat_lt, refl, sym, ap, ◌∙◌, arith, append-nil, append_assoc, length-append}
use Rattle.std.specs.List.{count_by, filter, flat_map, list_any}
use Rattle.std.proofs.lemmas.Bool.Decides.{nat_tests}
use Rattle.std.proofs.lemmas.List.Sums.{sum_by-append, sum_by-cons}
use Rattle.std.proofs.lemmas.List.Folds.{list_any-append}
use Rattle.gcode_words.specs.Comments.{cut, comment_after}
use Rattle.gcode_words.specs.Stripping.{plain, realtime, is_plain, is_realtime, capital}
use Rattle.gcode_words.proofs.Scanning.{shown}
use Rattle.gcode_words.proofs.Fed.{kept_of, plain-append, realtime-append}
use Rattle.run_texts.proofs.Kept.{kept_without}
use Rattle.run_texts.specs.Sent.{Sent, sent_by, resets_of}
use Rattle.run_texts.specs.Sent as texts
use Rattle.run_texts.specs.Sent.Sent.{a_text, a_stop}
use Rattle.host_journal.specs.Jobs.{is_long, is_reset, served, behind_last, sent_text, fronts, has_too_many}
use Rattle.stream_host.proofs.Pieces.{neither}
use Rattle.stream_host.proofs.Raising.{served_nil}
use Rattle.stream_host.proofs.Texts.{any_map}

-- no reset stands in a line outside its comments
abbrev pub holds_reset : List ℕ → Bool
holds_reset line = list_any is_reset (realtime line)

abbrev pub IsCalm : List ℕ → Type 0
IsCalm line = holds_reset line ≡ false

abbrev pub AreCalm : List (List ℕ) → Type 0
AreCalm lines = list_any holds_reset lines ≡ false

-- so many bytes are kept of a line that it is too long
abbrev keeps_many : List ℕ → Bool
keeps_many line = nat_lt 127 (length (plain line))

-- ---- one line

pub nil_calm : IsCalm []
nil_calm = ap (list_any is_reset) served_nil

long_on : (raw more : List ℕ) → keeps_many raw ≡ true → keeps_many (raw ++ more) ≡ true
long_on raw more h =
    let e = plain-append raw more in
    let l = length-append (plain raw) (kept_of (shown (comment_after raw) more)) in
    let w = ap length e in
    over (length (plain raw)) (length (plain (raw ++ more))) (omega arith) h
  where
    over : (m n : ℕ) → m ≤ n → nat_lt 127 m ≡ true → nat_lt 127 n ≡ true
    over m n l h = grind (arith, nat_tests)

pub reset_on : (raw more : List ℕ) → holds_reset raw ≡ true → holds_reset (raw ++ more) ≡ true
reset_on raw more h =
    ap (list_any is_reset) (realtime-append raw more)
    ∙ list_any-append is_reset (realtime raw) (filter is_realtime (shown (comment_after raw) more))
    ∙ ap (λ b. b || list_any is_reset (filter is_realtime (shown (comment_after raw) more))) h

-- a front of a line without a reset has none
pub calm_front : (raw more : List ℕ) → IsCalm (raw ++ more) → IsCalm raw
calm_front raw more calm = by_test (holds_reset raw) refl
  where
    by_test : (t : Bool) → holds_reset raw ≡ t → t ≡ false
    by_test false e = refl
    by_test true e = absurd (let f = sym calm ∙ reset_on raw more e in cc)

none_seen : (bytes : List ℕ) → list_any is_reset (filter is_realtime bytes) ≡ false → list_any is_reset bytes ≡ false
none_seen [] none = refl
none_seen (b ∷ bs) none = by_test (is_reset b) refl none (none_seen bs)
  where
    by_test : (t : Bool) → is_reset b ≡ t → list_any is_reset (cond (is_realtime b) (b ∷ filter is_realtime bs) (filter is_realtime bs)) ≡ false
        → (list_any is_reset (filter is_realtime bs) ≡ false → list_any is_reset bs ≡ false) → (t || list_any is_reset bs) ≡ false
    by_test true e none more = absurd (
        let n : b ≡ 24 = grind (arith, nat_tests) in
        let f = sym none ∙ ap (λ c. list_any is_reset (cond (is_realtime c) (c ∷ filter is_realtime bs) (filter is_realtime bs))) n in cc
        )
    by_test false e none more = more (by_seen (is_realtime b) refl none)
      where
        by_seen : (u : Bool) → is_realtime b ≡ u → list_any is_reset (cond u (b ∷ filter is_realtime bs) (filter is_realtime bs)) ≡ false → list_any is_reset (filter is_realtime bs) ≡ false
        by_seen true f none = (neither (is_reset b) (list_any is_reset (filter is_realtime bs)) none).1
        by_seen false f none = none

behind_none : (p : ℕ → Bool) (xs : List ℕ) → list_any p xs ≡ false → behind_last p xs ≡ xs
behind_none p [] none = refl
behind_none p (x ∷ xs) none = let n = neither (p x) (list_any p xs) none in rw (n.1, n.0) refl

-- what is sent of a line without a reset is what is kept of it
pub sent_plain : (line : List ℕ) → IsCalm line → sent_text line ≡ plain line
sent_plain line calm = ap (λ bytes. map capital (filter is_plain bytes)) (behind_none is_reset (cut line).outside (none_seen (cut line).outside calm))

long_by : (line : List ℕ) → IsCalm line → has_too_many line ≡ keeps_many line
long_by line calm = ap (λ (l : List ℕ). nat_lt 127 (length l)) (sent_plain line calm)

front_long : (pre xs : List ℕ) → IsCalm (pre ++ xs) → list_any (λ f. has_too_many (pre ++ f)) (fronts xs) ≡ true → keeps_many (pre ++ xs) ≡ true
front_long pre [] calm some = by_test (has_too_many (pre ++ [])) refl some
  where
    by_test : (t : Bool) → has_too_many (pre ++ []) ≡ t → (t || false) ≡ true → keeps_many (pre ++ []) ≡ true
    by_test true e some = sym (long_by (pre ++ []) calm) ∙ e
    by_test false e some = absurd cc
front_long pre (x ∷ xs) calm some = by_test (has_too_many (pre ++ [])) refl some
    (λ more. ap keeps_many (sym (append_assoc pre (x ∷ []) xs)) ∙ front_long (pre ++ x ∷ []) xs (ap holds_reset (append_assoc pre (x ∷ []) xs) ∙ calm)
    (ap (λ p. list_any p (fronts xs)) (λ i f. has_too_many (append_assoc pre (x ∷ []) f i)) ∙ more))
  where
    by_test : (t : Bool) → has_too_many (pre ++ []) ≡ t → (t || list_any (λ f. has_too_many (pre ++ f)) (map (λ front. x ∷ front) (fronts xs))) ≡ true
        → (list_any (λ f. has_too_many (pre ++ x ∷ f)) (fronts xs) ≡ true → keeps_many (pre ++ x ∷ xs) ≡ true) → keeps_many (pre ++ x ∷ xs) ≡ true
    by_test true e some more =
        let short : keeps_many pre ≡ true = ap keeps_many (sym (append-nil pre)) ∙ sym (long_by (pre ++ []) (ap holds_reset (append-nil pre) ∙ calm_front pre (x ∷ xs) calm)) ∙ e in
        long_on pre (x ∷ xs) short
    by_test false e some more = more (sym (any_map (λ f. has_too_many (pre ++ f)) x (fronts xs)) ∙ some)

-- such a line is not too long where few of its bytes are kept
pub calm_short : (line : List ℕ) → IsCalm line → keeps_many line ≡ false → is_long line ≡ false
calm_short line calm few = by_test (is_long line) refl
  where
    by_test : (t : Bool) → is_long line ≡ t → t ≡ false
    by_test false e = refl
    by_test true e = absurd (let f = sym few ∙ front_long [] line calm e in cc)

-- ---- what comes of it

none_counted : (bytes : List ℕ) → list_any is_reset bytes ≡ false → count_by is_reset bytes ≡ 0
none_counted [] none = refl
none_counted (b ∷ bs) none =
    let n = neither (is_reset b) (list_any is_reset bs) none in
    let c = sum_by-cons (λ x. cond {A = ℕ} (is_reset x) 1 0) b bs in
    let here = ap (λ t. cond {A = ℕ} t 1 0) n.0 in
    let more = none_counted bs n.1 in
    omega (arith, c, here, more)

pub no_resets : (line : List ℕ) → IsCalm line → resets_of line ≡ 0
no_resets line calm = none_counted (cut line).outside (none_seen (cut line).outside calm)

-- the line alone comes of it
pub calm_sent : (line : List ℕ) → IsCalm line → sent_by line ≡ a_text (plain line) ∷ []
calm_sent line calm =
    ap (λ n. replicate n a_stop ++ a_text (texts.kept_of line) ∷ []) (no_resets line calm)
    ∙ ap (λ (l : List ℕ). a_text l ∷ []) (kept_without line (none_seen (cut line).outside calm))

-- ---- lists of lines

pub any_none : (bytes : List ℕ) → count_by is_reset bytes ≡ 0 → list_any is_reset bytes ≡ false
any_none [] none = refl
any_none (b ∷ bs) none = by_test (is_reset b) refl (sum_by-cons (λ x. cond (is_reset x) 1 0) b bs) (any_none bs)
  where
    by_test : (t : Bool) → is_reset b ≡ t → count_by is_reset (b ∷ bs) ≡ cond t 1 0 + count_by is_reset bs → (count_by is_reset bs ≡ 0 → list_any is_reset bs ≡ false) → (t || list_any is_reset bs) ≡ false
    by_test true e n more = absurd (omega arith)
    by_test false e n more = more (omega arith)

pub lines_calm : (ls : List (List ℕ)) → count_by is_reset (flat_map served ls) ≡ 0 → AreCalm ls
lines_calm [] none = refl
lines_calm (l ∷ ls) none =
    let a = sum_by-append (λ x. cond (is_reset x) 1 0) (served l) (flat_map served ls) in
    let first : holds_reset l ≡ false = any_none (served l) (omega arith) in
    let rest = lines_calm ls (omega arith) in
    rw first rest

pub calm_both : (xs ys : List (List ℕ)) → AreCalm (xs ++ ys) → AreCalm xs × AreCalm ys
calm_both [] ys calm = (refl, calm)
calm_both (x ∷ xs) ys calm =
    let n = neither (holds_reset x) (list_any holds_reset (xs ++ ys)) calm in
    let more = calm_both xs ys n.1 in
    (ap (λ b. b || list_any holds_reset xs) n.0 ∙ more.0, more.1)

-- of lines without a reset come the lines alone
pub calm_sents : (lines : List (List ℕ)) → AreCalm lines → flat_map sent_by lines ≡ map a_text (map plain lines)
calm_sents [] calm = refl
calm_sents (l ∷ ls) calm =
    let n = neither (holds_reset l) (list_any holds_reset ls) calm in
    ap (λ (ss : List Sent). ss ++ flat_map sent_by ls) (calm_sent l n.0) ∙ ap (λ (ss : List Sent). a_text (plain l) ∷ ss) (calm_sents ls n.1)
