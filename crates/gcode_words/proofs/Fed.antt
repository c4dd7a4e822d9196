-- What one byte more does to what is kept of a line.
use Rattle.std.proofs.Common.{◌≡◌, ◌≢◌, ℕ, ◌≤◌, ◌<◌, Bool, true, false, cond, List, [], ◌∷◌, ◌++◌, length, map, nat_eq, refl, sym, ◌∙◌, ap, arith, append-nil, append_assoc, ◌+◌, get_or, take, drop, take-append-drop, length-append}
use Rattle.std.proofs.Math.Seq.{take-append_seam}
use Rattle.std.specs.List.{All, filter, flat_map}
use Rattle.std.proofs.lemmas.List.{map-append, take_more, take_all}
use Rattle.std.proofs.lemmas.List.Elements.{All-head, All-tail, All-get_or, filter-append}
use Rattle.gcode_words.specs.Comments.{cut, cut_within, comment_after}
use Rattle.gcode_words.specs.Stripping.{is_plain, is_realtime, capital, plain, realtime, kept_by, taken_by, Feeds, FeedsAll}
use Rattle.gcode_words.specs.declared.stripping.Comment.{Comment}
use Rattle.gcode_words.specs.declared.stripping.Comment.TheVariants.{Outside, Paren}
use Rattle.gcode_words.specs.declared.stripping.Stripped.{Stripped}
use Rattle.gcode_words.specs.declared.stripping.Stripped.TheVariants.{Nothing, Keep, Realtime, LineEnd}
use Rattle.gcode_words.proofs.Scanning.{next, seen, after, shown, scan, cut_scan, after-append, shown-append}

cut_is : (line : List ℕ) → cut line ≡ scan Outside line
cut_is line = cut_scan (length line) line (omega arith)

pub comment_is : (line : List ℕ) → comment_after line ≡ after Outside line
comment_is line = ap (λ c. c.comment) (cut_is line)

outside_is : (line : List ℕ) → (cut line).outside ≡ shown Outside line
outside_is line = ap (λ c. c.outside) (cut_is line)

abbrev pub kept_of : List ℕ → List ℕ
kept_of bytes = map capital (filter is_plain bytes)

kept_of-append : (xs ys : List ℕ) → kept_of (xs ++ ys) ≡ kept_of xs ++ kept_of ys
kept_of-append xs ys = ap (map capital) (filter-append is_plain xs ys) ∙ map-append capital (filter is_plain xs) (filter is_plain ys)

pub plain-append : (xs ys : List ℕ) → plain (xs ++ ys) ≡ plain xs ++ kept_of (shown (comment_after xs) ys)
plain-append xs ys =
    ap kept_of (outside_is (xs ++ ys) ∙ shown-append Outside xs ys) ∙ kept_of-append (shown Outside xs) (shown (after Outside xs) ys)
    ∙ rw (outside_is xs, comment_is xs) refl

pub realtime-append : (xs ys : List ℕ) → realtime (xs ++ ys) ≡ realtime xs ++ filter is_realtime (shown (comment_after xs) ys)
realtime-append xs ys =
    ap (filter is_realtime) (outside_is (xs ++ ys) ∙ shown-append Outside xs ys) ∙ filter-append is_realtime (shown Outside xs) (shown (after Outside xs) ys)
    ∙ rw (outside_is xs, comment_is xs) refl

pub comment_after-append : (xs ys : List ℕ) → comment_after (xs ++ ys) ≡ after (comment_after xs) ys
comment_after-append xs ys = comment_is (xs ++ ys) ∙ after-append Outside xs ys ∙ ap (λ s. after s ys) (sym (comment_is xs))

-- a byte that a stripper in this state answers so
pub feeds : (s before later : Comment) (byte : ℕ) (answer : Stripped) → before ≡ s → byte ≢ 10 → answer ≢ LineEnd → later ≡ next s byte
    → kept_by answer ≡ kept_of (seen s byte) → taken_by answer ≡ filter is_realtime (seen s byte) → Feeds before byte answer later
feeds s before later byte answer is ne more to kept taken = record {
  line_end = (λ h. absurd (more h), λ h. absurd (ne h));
  next_line = λ h. absurd (ne h);
  comment = λ line none at. to ∙ ap (λ x. next x byte) (sym is ∙ at) ∙ sym (comment_after-append line (byte ∷ []));
  kept = λ line none at. plain-append line (byte ∷ []) ∙ ap (λ l. plain line ++ l) (ap (λ x. kept_of (seen x byte ++ [])) (sym at ∙ is) ∙ ap kept_of (append-nil (seen s byte)) ∙ sym kept);
  taken = λ line none at. realtime-append line (byte ∷ []) ∙ ap (λ l. realtime line ++ l) (ap (λ x. filter is_realtime (seen x byte ++ [])) (sym at ∙ is) ∙ ap (filter is_realtime) (append-nil (seen s byte)) ∙ sym taken);
}

eq_false : (m n : ℕ) → m ≢ n → nat_eq m n ≡ false
eq_false m n h = grind arith

-- outside comments, where the byte begins none
pub feeds_outside : (before : Comment) (byte : ℕ) (answer : Stripped) → before ≡ Outside → byte ≢ 10 → byte ≢ 40 → byte ≢ 59 → answer ≢ LineEnd
    → kept_by answer ≡ cond (is_plain byte) (capital byte ∷ []) [] → taken_by answer ≡ cond (is_realtime byte) (byte ∷ []) [] → Feeds before byte answer before
feeds_outside before byte answer is ne no_paren no_semicolon more kept taken =
    let paren = eq_false byte 40 no_paren in
    let semicolon = eq_false byte 59 no_semicolon in
    let seen_so : seen Outside byte ≡ byte ∷ [] = rw (paren, semicolon) refl in
    let stays : next Outside byte ≡ Outside = rw (paren, semicolon) refl in
    let kept_so : (b : Bool) → map capital (cond b (byte ∷ []) []) ≡ cond b (capital byte ∷ []) [] = λ b. elim b as (λ v. map capital (cond v (byte ∷ []) []) ≡ cond v (capital byte ∷ []) []) [ true ↦ refl | false ↦ refl ] in
    feeds Outside before before byte answer is ne more (is ∙ sym stays) (kept ∙ sym (kept_so (is_plain byte)) ∙ ap kept_of (sym seen_so)) (taken ∙ ap (filter is_realtime) (sym seen_so))

-- in a '(' comment, where the byte does not end it
pub feeds_paren : (before : Comment) (byte : ℕ) → before ≡ Paren → byte ≢ 10 → byte ≢ 41 → Feeds before byte Nothing before
feeds_paren before byte is ne no_end = feeds Paren before before byte Nothing is ne (λ h. cc) (is ∙ rw (eq_false byte 41 no_end) refl) refl refl

-- ---- a line that is fed

-- the answers to the bytes of a text that stands behind a text of the same line
pub fed : (front line : List ℕ) (answers : List Stripped) (before later : Comment) → before ≡ comment_after front → All (λ b. b ≢ 10) line → FeedsAll before line answers later
    → (plain (front ++ line) ≡ plain front ++ flat_map kept_by answers) × (realtime (front ++ line) ≡ realtime front ++ flat_map taken_by answers) × (later ≡ comment_after (front ++ line))
fed front [] [] before later at none all =
    (ap plain (append-nil front) ∙ sym (append-nil (plain front)), ap realtime (append-nil front) ∙ sym (append-nil (realtime front)), sym all ∙ at ∙ ap comment_after (sym (append-nil front)))
fed front [] (a ∷ answers) before later at none all = absurd all
fed front (b ∷ line) [] before later at none all = absurd all
fed front (b ∷ line) (a ∷ answers) before later at none all =
    let ne = All-head (λ x. x ≢ 10) b line none in
    let one = all.1 in
    let rest = fed (front ++ b ∷ []) line answers all.0 later (one.comment front ne at) (All-tail (λ x. x ≢ 10) b line none) all.2 in
    let joined : (front ++ b ∷ []) ++ line ≡ front ++ b ∷ line = append_assoc front (b ∷ []) line in (
      ap plain (sym joined) ∙ rest.0 ∙ ap (λ l. l ++ flat_map kept_by answers) (one.kept front ne at) ∙ append_assoc (plain front) (kept_by a) (flat_map kept_by answers),
      ap realtime (sym joined) ∙ rest.1 ∙ ap (λ l. l ++ flat_map taken_by answers) (one.taken front ne at) ∙ append_assoc (realtime front) (taken_by a) (flat_map taken_by answers),
      rest.2 ∙ ap comment_after joined,
    )

pub fed_line : (line : List ℕ) (answers : List Stripped) (later : Comment) → All (λ b. b ≢ 10) line → FeedsAll Outside line answers later
    → (plain line ≡ flat_map kept_by answers) × (realtime line ≡ flat_map taken_by answers) × (later ≡ comment_after line)
unfolding cut_within
fed_line line answers later none all = fed [] line answers Outside later refl none all

-- one byte more of a line whose bytes are fed from its front
pub step : (raw : List ℕ) (i : ℕ) (before later : Comment) (answer : Stripped) → i < length raw → All (λ b. b ≢ 10) raw
    → Feeds before (get_or raw i 0) answer later → before ≡ comment_after (take i raw)
    → (later ≡ comment_after (take (i + 1) raw)) × (plain (take (i + 1) raw) ≡ plain (take i raw) ++ kept_by answer)
step raw i before later answer inside clean one at =
    let more = take_more raw i 0 inside in
    let ne = All-get_or (λ b. b ≢ 10) raw i 0 inside clean in
    (one.comment (take i raw) ne at ∙ ap comment_after (sym more), ap plain more ∙ one.kept (take i raw) ne at)

-- what is kept of the front of a line is the front of what is kept
pub plain-front : (raw : List ℕ) (i : ℕ) → (rest : List ℕ) × (plain raw ≡ plain (take i raw) ++ rest)
plain-front raw i = (kept_of (shown (comment_after (take i raw)) (drop i raw)), ap plain (sym (take-append-drop i raw)) ∙ plain-append (take i raw) (drop i raw))

-- 79 bytes are kept, and then one more
pub overflows : (raw : List ℕ) (i : ℕ) (out : List ℕ) (c : ℕ) → length out ≡ 79 → plain (take (i + 1) raw) ≡ out ++ c ∷ [] → (out ≡ take 79 (plain raw)) × (79 < length (plain raw))
overflows raw i out c full more =
    let rest = plain-front raw (i + 1) in
    let whole : plain raw ≡ out ++ (c ∷ rest.0) = rest.1 ∙ ap (λ l. l ++ rest.0) more ∙ append_assoc out (c ∷ []) rest.0 in
    (sym (ap (take 79) whole ∙ ap (λ n. take n (out ++ (c ∷ rest.0))) (sym full) ∙ take-append_seam out (c ∷ rest.0)), rw whole (simp length-append (omega arith)))

pub not_kept : (answer : Stripped) → ((c : ℕ) → answer ≡ Keep c → ⊥) → kept_by answer ≡ []
not_kept Nothing other = refl
not_kept (Keep c) other = absurd (other c refl)
not_kept (Realtime c) other = refl
not_kept LineEnd other = refl

-- all is fed, and fits
pub fits : (raw out : List ℕ) (i : ℕ) → length raw ≤ i → length out ≤ 79 → out ≡ plain (take i raw) → (out ≡ take 79 (plain raw)) × (length (plain raw) ≤ 79)
fits raw out i done few so =
    let whole : out ≡ plain raw = so ∙ ap plain (take_all i raw done) in
    (sym (take_all 79 out few) ∙ ap (take 79) whole, rw whole at few)
