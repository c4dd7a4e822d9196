-- One byte more of a line.
use Rattle.std.proofs.Common.{◌≡◌, ◌≢◌, ℕ, ◌+◌, Bool, true, false, cond, ◌||◌, List, [], ◌∷◌, ◌++◌, length, map, nat_eq, nat_le, refl, sym, ◌∙◌, ap, subst, arith, append-nil}
use Rattle.std.specs.List.{filter, list_any, count_by}
use Rattle.std.proofs.lemmas.List.{append_cancel_left, map-append}
use Rattle.std.proofs.lemmas.List.Elements.{filter-append}
use Rattle.std.proofs.lemmas.List.Sums.{sum_by-cons}
use Rattle.gcode_words.specs.Comments.{cut, cut_within, comment_after, begins_comment}
use Rattle.gcode_words.specs.Stripping.{is_plain, is_realtime, capital, plain, realtime, kept_by, taken_by, Feeds}
use Rattle.gcode_words.specs.declared.stripping.Comment.{Comment}
use Rattle.gcode_words.specs.declared.stripping.Comment.TheVariants.{Outside, Paren, Semicolon}
use Rattle.gcode_words.specs.declared.stripping.Stripped.{Stripped}
use Rattle.gcode_words.specs.declared.stripping.Stripped.TheVariants.{Nothing, Keep, Realtime}
use Rattle.gcode_words.proofs.Scanning.{seen, after, shown, scan, cut_scan, shown-append}
use Rattle.run_texts.specs.Sent.{is_reset, behind_resets, kept_of, resets_of}
use Rattle.audit_rules.specs.Scanned.{may_cut}
use Rattle.audit_readers.specs.JobLines.{SeenLine, HasCome}

cut_is : (line : List ℕ) → cut line ≡ scan Outside line
cut_is line = cut_scan (length line) line (omega arith)

-- what a byte adds to what stands outside comments
outside_push : (line : List ℕ) (byte : ℕ) → (cut (line ++ byte ∷ [])).outside ≡ (cut line).outside ++ seen (comment_after line) byte
outside_push line byte =
    ap (λ c. c.outside) (cut_is (line ++ byte ∷ []))
    ∙ shown-append Outside line (byte ∷ [])
    ∙ ap (λ (l : List ℕ). shown Outside line ++ l) (append-nil (seen (after Outside line) byte))
    ∙ ap (λ (l : List ℕ). l ++ seen (after Outside line) byte) (sym (ap (λ c. c.outside) (cut_is line)))
    ∙ ap (λ (s : Comment). (cut line).outside ++ seen s byte) (sym (ap (λ c. c.comment) (cut_is line)))

-- what an answer keeps and takes of it
kept_is : (line : List ℕ) (byte : ℕ) (before later : Comment) (answer : Stripped) → Feeds before byte answer later → byte ≢ 10 → before ≡ comment_after line
    → kept_by answer ≡ map capital (filter is_plain (seen (comment_after line) byte))
kept_is line byte before later answer f inside at =
    append_cancel_left (plain line) (kept_by answer) (map capital (filter is_plain (seen (comment_after line) byte)))
    (sym (f.kept line inside at)
    ∙ ap (λ (bytes : List ℕ). map capital (filter is_plain bytes)) (outside_push line byte)
    ∙ ap (map capital) (filter-append is_plain (cut line).outside (seen (comment_after line) byte))
    ∙ map-append capital (filter is_plain (cut line).outside) (filter is_plain (seen (comment_after line) byte)))

taken_is : (line : List ℕ) (byte : ℕ) (before later : Comment) (answer : Stripped) → Feeds before byte answer later → byte ≢ 10 → before ≡ comment_after line
    → taken_by answer ≡ filter is_realtime (seen (comment_after line) byte)
taken_is line byte before later answer f inside at =
    append_cancel_left (realtime line) (taken_by answer) (filter is_realtime (seen (comment_after line) byte))
    (sym (f.taken line inside at)
    ∙ ap (filter is_realtime) (outside_push line byte)
    ∙ filter-append is_realtime (cut line).outside (seen (comment_after line) byte))

-- ---- behind resets

any_push : (xs : List ℕ) (c : ℕ) → is_reset c ≡ false → list_any is_reset (xs ++ c ∷ []) ≡ list_any is_reset xs
any_push [] c none = ap (λ (b : Bool). b || false) none
any_push (x ∷ xs) c none = ap (λ (b : Bool). is_reset x || b) (any_push xs c none)

or_true : (a : Bool) → (a || true) ≡ true
or_true true = refl
or_true false = refl

any_reset : (xs : List ℕ) (c : ℕ) → is_reset c ≡ true → list_any is_reset (xs ++ c ∷ []) ≡ true
any_reset [] c some = ap (λ (b : Bool). b || false) some
any_reset (x ∷ xs) c some = ap (λ (b : Bool). is_reset x || b) (any_reset xs c some) ∙ or_true (is_reset x)

behind_push : (xs : List ℕ) (c : ℕ) → is_reset c ≡ false → behind_resets (xs ++ c ∷ []) ≡ behind_resets xs ++ c ∷ []
behind_push [] c none = ap (λ (t : Bool). cond t [] (c ∷ [])) none
behind_push (x ∷ xs) c none =
    ap (λ (t : Bool). cond t (behind_resets (xs ++ c ∷ [])) (cond (is_reset x) (xs ++ c ∷ []) (x ∷ (xs ++ c ∷ [])))) (any_push xs c none)
    ∙ by_any (list_any is_reset xs) (is_reset x) (behind_push xs c none) where
      by_any : (some here : Bool) → behind_resets (xs ++ c ∷ []) ≡ behind_resets xs ++ c ∷ []
          → cond some (behind_resets (xs ++ c ∷ [])) (cond here (xs ++ c ∷ []) (x ∷ (xs ++ c ∷ []))) ≡ cond some (behind_resets xs) (cond here xs (x ∷ xs)) ++ c ∷ []
      by_any true here e = e
      by_any false true e = refl
      by_any false false e = refl

behind_last : (xs : List ℕ) (c : ℕ) → is_reset c ≡ true → behind_resets (xs ++ c ∷ []) ≡ []
behind_last [] c some = ap (λ (t : Bool). cond t [] (c ∷ [])) some
behind_last (x ∷ xs) c some =
    ap (λ (t : Bool). cond t (behind_resets (xs ++ c ∷ [])) (cond (is_reset x) (xs ++ c ∷ []) (x ∷ (xs ++ c ∷ [])))) (any_reset xs c some) ∙ behind_last xs c some

-- ---- what has come

by_seen : {A : Type 0} (s : Comment) (c : ℕ) → (seen s c ≡ [] → A) → (seen s c ≡ c ∷ [] → A) → A
by_seen {A = A} Outside c none some = by_begin (begins_comment c) refl where
  by_begin : (b : Bool) → begins_comment c ≡ b → A
  by_begin true e = none (ap (λ (b : Bool). cond b [] (c ∷ [])) e)
  by_begin false e = some (ap (λ (b : Bool). cond b [] (c ∷ [])) e)
by_seen Paren c none some = none refl
by_seen Semicolon c none some = none refl

abbrev kept_behind : List ℕ → List ℕ
kept_behind outside = map capital (filter is_plain (behind_resets outside))

reset_is_realtime : (c : ℕ) → is_reset c ≡ true → is_realtime c ≡ true
reset_is_realtime c e = ap (λ (b : Bool). b || nat_eq c 63 || nat_eq c 33 || nat_eq c 126 || nat_le 128 c) e

or_false : (a : Bool) → (a || false) ≡ a
or_false true = refl
or_false false = refl

-- of a byte that is shown the realtime ones are taken, a reset among them
any_taken : (c : ℕ) → list_any is_reset (filter is_realtime (c ∷ [])) ≡ is_reset c
any_taken c = by_realtime (is_realtime c) refl where
  by_realtime : (r : Bool) → is_realtime c ≡ r → list_any is_reset (filter is_realtime (c ∷ [])) ≡ is_reset c
  by_realtime true g = ap (λ (t : Bool). list_any is_reset (cond t (c ∷ []) [])) g ∙ or_false (is_reset c)
  by_realtime false g = ap (λ (t : Bool). list_any is_reset (cond t (c ∷ []) [])) g ∙ sym (no_reset (is_reset c) refl) where
    no_reset : (b : Bool) → is_reset c ≡ b → is_reset c ≡ false
    no_reset true e = absurd (let f : true ≡ false = sym (reset_is_realtime c e) ∙ g in cc)
    no_reset false e = e

pub count_push : (p : ℕ → Bool) (xs ys : List ℕ) → count_by p (xs ++ ys) ≡ count_by p xs + count_by p ys
count_push p [] ys = omega arith
count_push p (x ∷ xs) ys =
    let f : ℕ → ℕ = λ y. cond (p y) 1 0 in
    let a = sum_by-cons f x (xs ++ ys) in
    let b = count_push p xs ys in
    let c = sum_by-cons f x xs in
    omega (arith, a, b, c)

-- a count among realtime bytes, of bytes that are all realtime bytes, is that of all
counted : (c : ℕ) → count_by is_reset (filter is_realtime (c ∷ [])) ≡ count_by is_reset (c ∷ [])
counted c = by_realtime (is_realtime c) refl where
  by_realtime : (r : Bool) → is_realtime c ≡ r → count_by is_reset (filter is_realtime (c ∷ [])) ≡ count_by is_reset (c ∷ [])
  by_realtime true g = ap (λ (t : Bool). count_by is_reset (cond t (c ∷ []) [])) g
  by_realtime false g = ap (λ (t : Bool). count_by is_reset (cond t (c ∷ []) [])) g ∙ none (is_reset c) refl where
    none : (b : Bool) → is_reset c ≡ b → 0 ≡ count_by is_reset (c ∷ [])
    none true e = absurd (let f : true ≡ false = sym (reset_is_realtime c e) ∙ g in cc)
    none false e = sym (ap (λ (t : Bool). 0 + cond t 1 0) e)

-- what is kept of a line with one byte more, by what is kept and taken of that
kept_more : (line : List ℕ) (byte : ℕ) (kept taken : List ℕ) → kept ≡ map capital (filter is_plain (seen (comment_after line) byte)) → taken ≡ filter is_realtime (seen (comment_after line) byte)
    → kept_of (line ++ byte ∷ []) ≡ cond (list_any is_reset taken) [] (kept_of line ++ kept)
kept_more line byte kept taken k t = ap kept_behind (outside_push line byte) ∙ by_seen (comment_after line) byte hidden shown_here where
  xs : List ℕ
  xs = (cut line).outside

  hidden : seen (comment_after line) byte ≡ [] → kept_behind (xs ++ seen (comment_after line) byte) ≡ cond (list_any is_reset taken) [] (kept_of line ++ kept)
  hidden e =
      let no_taken : taken ≡ [] = t ∙ ap (filter is_realtime) e in
      let no_kept : kept ≡ [] = k ∙ ap (λ (l : List ℕ). map capital (filter is_plain l)) e in
      ap (λ (l : List ℕ). kept_behind (xs ++ l)) e ∙ ap kept_behind (append-nil xs) ∙ sym (append-nil (kept_of line))
      ∙ sym (ap (λ (l : List ℕ). cond (list_any is_reset l) [] (kept_of line ++ kept)) no_taken ∙ ap (λ (l : List ℕ). kept_of line ++ l) no_kept)

  shown_here : seen (comment_after line) byte ≡ byte ∷ [] → kept_behind (xs ++ seen (comment_after line) byte) ≡ cond (list_any is_reset taken) [] (kept_of line ++ kept)
  shown_here e = by_reset (is_reset byte) refl where
    any : list_any is_reset taken ≡ is_reset byte
    any = ap (list_any is_reset) (t ∙ ap (filter is_realtime) e) ∙ any_taken byte

    by_reset : (b : Bool) → is_reset byte ≡ b → kept_behind (xs ++ seen (comment_after line) byte) ≡ cond (list_any is_reset taken) [] (kept_of line ++ kept)
    by_reset true r =
        ap (λ (l : List ℕ). kept_behind (xs ++ l)) e ∙ ap (λ (l : List ℕ). map capital (filter is_plain l)) (behind_last xs byte r)
        ∙ sym (ap (λ (b : Bool). cond b [] (kept_of line ++ kept)) (any ∙ r))
    by_reset false r =
        ap (λ (l : List ℕ). kept_behind (xs ++ l)) e ∙ ap (λ (l : List ℕ). map capital (filter is_plain l)) (behind_push xs byte r)
        ∙ ap (map capital) (filter-append is_plain (behind_resets xs) (byte ∷ [])) ∙ map-append capital (filter is_plain (behind_resets xs)) (filter is_plain (byte ∷ []))
        ∙ ap (λ (l : List ℕ). kept_of line ++ l) (sym (k ∙ ap (λ (l : List ℕ). map capital (filter is_plain l)) e))
        ∙ sym (ap (λ (b : Bool). cond b [] (kept_of line ++ kept)) (any ∙ r))

resets_more : (line : List ℕ) (byte : ℕ) (taken : List ℕ) → taken ≡ filter is_realtime (seen (comment_after line) byte) → resets_of (line ++ byte ∷ []) ≡ resets_of line + count_by is_reset taken
resets_more line byte taken t =
    ap (count_by is_reset) (outside_push line byte) ∙ count_push is_reset (cut line).outside (seen (comment_after line) byte)
    ∙ ap (λ (n : ℕ). resets_of line + n) (by_seen (comment_after line) byte hidden shown_here) where
      hidden : seen (comment_after line) byte ≡ [] → count_by is_reset (seen (comment_after line) byte) ≡ count_by is_reset taken
      hidden e = ap (count_by is_reset) e ∙ sym (ap (count_by is_reset) (t ∙ ap (filter is_realtime) e))

      shown_here : seen (comment_after line) byte ≡ byte ∷ [] → count_by is_reset (seen (comment_after line) byte) ≡ count_by is_reset taken
      shown_here e = ap (count_by is_reset) e ∙ sym (ap (count_by is_reset) (t ∙ ap (filter is_realtime) e) ∙ counted byte)

-- A byte more has come.
pub has_come : (old now : SeenLine) (byte : ℕ) (answer : Stripped) → Feeds old.comment byte answer now.comment → byte ≢ 10
    → now.kept ≡ cond (list_any is_reset (taken_by answer)) [] (old.kept ++ kept_by answer)
    → now.resets ≡ old.resets + count_by is_reset (taken_by answer) → now.cuts ≡ old.cuts + count_by may_cut (taken_by answer)
    → (line : List ℕ) → HasCome line old → HasCome (line ++ byte ∷ []) now
has_come old now byte answer f inside kept resets cuts line h =
    let k = kept_is line byte old.comment now.comment answer f inside h.comment in
    let t = taken_is line byte old.comment now.comment answer f inside h.comment in
    let more = f.taken line inside h.comment in
    record {
      comment = f.comment line inside h.comment;
      kept = kept ∙ ap (λ (l : List ℕ). cond (list_any is_reset (taken_by answer)) [] (l ++ kept_by answer)) h.kept ∙ sym (kept_more line byte (kept_by answer) (taken_by answer) k t);
      resets = resets ∙ ap (λ (n : ℕ). n + count_by is_reset (taken_by answer)) h.resets ∙ sym (resets_more line byte (taken_by answer) t);
      cuts = cuts ∙ ap (λ (n : ℕ). n + count_by may_cut (taken_by answer)) h.cuts ∙ sym (ap (count_by may_cut) more ∙ count_push may_cut (realtime line) (taken_by answer));
    }

-- ---- what a reader does with a byte

pub nothing_came : (v : SeenLine) → v.comment ≡ comment_after [] → v.kept ≡ [] → v.resets ≡ 0 → v.cuts ≡ 0 → HasCome [] v
unfolding cut_within
nothing_came v comment kept resets cuts = record { comment = comment; kept = kept; resets = resets; cuts = cuts }

pub kept_comes : (old now : SeenLine) (byte b : ℕ) (answer : Stripped) → answer ≡ Keep b → Feeds old.comment byte answer now.comment → byte ≢ 10
    → now.kept ≡ old.kept ++ b ∷ [] → now.resets ≡ old.resets → now.cuts ≡ old.cuts
    → (line : List ℕ) → HasCome line old → HasCome (line ++ byte ∷ []) now
kept_comes old now byte b answer is f inside kept resets cuts =
    has_come old now byte (Keep b) (subst (λ (a : Stripped). Feeds old.comment byte a now.comment) is f) inside kept (resets ∙ omega arith) (cuts ∙ omega arith)

pub nothing_comes : (old now : SeenLine) (byte : ℕ) (answer : Stripped) → answer ≡ Nothing → Feeds old.comment byte answer now.comment → byte ≢ 10
    → now.kept ≡ old.kept → now.resets ≡ old.resets → now.cuts ≡ old.cuts
    → (line : List ℕ) → HasCome line old → HasCome (line ++ byte ∷ []) now
nothing_comes old now byte answer is f inside kept resets cuts =
    has_come old now byte Nothing (subst (λ (a : Stripped). Feeds old.comment byte a now.comment) is f) inside (kept ∙ sym (append-nil old.kept)) (resets ∙ omega arith) (cuts ∙ omega arith)

or_not : (b : Bool) → (b || false) ≡ b
or_not true = refl
or_not false = refl

pub realtime_comes : (old now : SeenLine) (byte b : ℕ) (answer : Stripped) → answer ≡ Realtime b → Feeds old.comment byte answer now.comment → byte ≢ 10
    → now.kept ≡ cond (is_reset b) [] old.kept → now.resets ≡ old.resets + count_by is_reset (b ∷ []) → now.cuts ≡ old.cuts + count_by may_cut (b ∷ [])
    → (line : List ℕ) → HasCome line old → HasCome (line ++ byte ∷ []) now
realtime_comes old now byte b answer is f inside kept resets cuts =
    has_come old now byte (Realtime b) (subst (λ (a : Stripped). Feeds old.comment byte a now.comment) is f) inside
    (kept ∙ ap (λ (t : Bool). cond t [] old.kept) (sym (or_not (is_reset b))) ∙ ap (λ (l : List ℕ). cond (is_reset b || false) [] l) (sym (append-nil old.kept))) resets cuts
