-- What a host stores and marks is a front of its lines and resets.
use Rattle.std.proofs.Common.{◌≡◌, ◌⊎◌, nat_lt, nat_le, inl, inr, ℕ, zero, suc, ◌+◌, ◌&&◌, Bool, true, false, cond, List, [], ◌∷◌, ◌++◌, length, map, replicate, reverse, length-append, append-nil, append_assoc, refl, sym, ap, ◌∙◌, subst, arith}
use Rattle.std.specs.List.{count_by, filter, flat_map, list_any}
use Rattle.std.proofs.lemmas.Bool.Decides.{nat_tests}
use Rattle.std.proofs.lemmas.List.Sums.{sum_by-cons}
use Rattle.gcode_words.specs.Comments.{cut}
use Rattle.gcode_words.specs.Stripping.{is_plain, is_realtime, capital}
use Rattle.run_rules.specs.Lines.{HasNoLf}
use Rattle.run_texts.specs.Sent.{Sent, behind_resets, kept_of, resets_of, sent_by, sent_of}
use Rattle.run_texts.specs.Sent.Sent.{a_text, a_stop}
use Rattle.host_journal.specs.Jobs.{is_reset, behind_last, sent_text, marks_at, marks_behind}
use Rattle.host_journal.specs.Links.{on_link}
use Rattle.host_journal.specs.Steps.{Journal, stored_of, is_shut, has_limit, marks_of, resets_of as raised_resets, raw_of, cut_of, to_store, due_of, banners_of, awaits_banner}
use Rattle.stream_host.specs.Conduct.{Conducted}
use Rattle.stream_host.proofs.Bordering.{AllMarked, stored_marks, left_none}
use Rattle.stream_host.proofs.Keeping.{stored_is, shut_is}
use Rattle.stream_host.proofs.Links.{sent_no_lf}
use Rattle.stream_host.proofs.Epochs.{IsPending, whole_by}
use Rattle.stream_host.proofs.Raised.{waiting_is}
use Rattle.stream_host.proofs.Raising.{none_due_shut}
use Rattle.epoch_links.specs.Pieces.{bytes_of, stops_behind, HoldNoLf, IsFrontOf, IsAllOf}

-- ---- what is kept of a line is what is sent of it

behind_same : (bytes : List ℕ) → behind_resets bytes ≡ behind_last is_reset bytes
behind_same [] = refl
behind_same (b ∷ bs) = ap (λ (xs : List ℕ). cond (list_any is_reset bs) xs (cond (is_reset b) bs (b ∷ bs))) (behind_same bs)

pub kept_sent : (line : List ℕ) → kept_of line ≡ sent_text line
kept_sent line = ap (λ (bytes : List ℕ). map capital (filter is_plain bytes)) (behind_same (cut line).outside)

-- ---- their bytes

pub bytes_append : (s t : List Sent) → bytes_of (s ++ t) ≡ bytes_of s ++ bytes_of t
bytes_append [] t = refl
bytes_append (a_text line ∷ s) t = ap (λ (bytes : List ℕ). (line ++ 10 ∷ []) ++ bytes) (bytes_append s t) ∙ sym (append_assoc (line ++ 10 ∷ []) (bytes_of s) (bytes_of t))
bytes_append (a_stop ∷ s) t = bytes_append s t

stops_no_bytes : (n : ℕ) (s : List Sent) → bytes_of (replicate n a_stop ++ s) ≡ bytes_of s
stops_no_bytes zero s = refl
stops_no_bytes (suc n) s = stops_no_bytes n s

no_bytes : (n : ℕ) → bytes_of (replicate n a_stop) ≡ []
no_bytes zero = refl
no_bytes (suc n) = no_bytes n

-- those behind the first line
behind_line : (line : List ℕ) (lines : List (List ℕ)) (rest : List ℕ) → sent_of (line ∷ lines) rest ≡ replicate (resets_of line) a_stop ++ a_text (kept_of line) ∷ sent_of lines rest
behind_line line lines rest =
    append_assoc (sent_by line) (flat_map sent_by lines) (replicate (resets_of rest) a_stop)
    ∙ append_assoc (replicate (resets_of line) a_stop) (a_text (kept_of line) ∷ []) (sent_of lines rest)

pub bytes_sent : (lines : List (List ℕ)) (rest : List ℕ) → bytes_of (sent_of lines rest) ≡ on_link lines
bytes_sent [] rest = no_bytes (resets_of rest)
bytes_sent (line ∷ lines) rest =
    ap bytes_of (behind_line line lines rest) ∙ stops_no_bytes (resets_of line) (a_text (kept_of line) ∷ sent_of lines rest)
    ∙ ap (λ (text : List ℕ). (text ++ 10 ∷ []) ++ bytes_of (sent_of lines rest)) (kept_sent line) ∙ ap (λ (bytes : List ℕ). (sent_text line ++ 10 ∷ []) ++ bytes) (bytes_sent lines rest)

none_hold_stops : (n : ℕ) (s : List Sent) → HoldNoLf s → HoldNoLf (replicate n a_stop ++ s)
none_hold_stops zero s h = h
none_hold_stops (suc n) s h = none_hold_stops n s h

no_lf : (lines : List (List ℕ)) (rest : List ℕ) → HoldNoLf (sent_of lines rest)
no_lf [] rest = subst HoldNoLf (append-nil (replicate (resets_of rest) a_stop)) (none_hold_stops (resets_of rest) [] tt)
no_lf (line ∷ lines) rest =
    subst HoldNoLf (sym (behind_line line lines rest))
    (none_hold_stops (resets_of line) (a_text (kept_of line) ∷ sent_of lines rest) (subst HasNoLf (sym (kept_sent line)) (sent_no_lf line), no_lf lines rest))

-- ---- their marks

stops_first : (k n : ℕ) (s : List Sent) → stops_behind n (replicate k a_stop ++ s) ≡ replicate k n ++ stops_behind n s
stops_first zero n s = refl
stops_first (suc k) n s = ap (λ (ms : List ℕ). n ∷ ms) (stops_first k n s)

seen_reset : (b : ℕ) → is_reset b ≡ true → is_realtime b ≡ true
seen_reset b is = let same : b ≡ 24 = grind (arith, nat_tests) in ap is_realtime same

same_marks : (n : ℕ) (bytes : List ℕ) → map (λ (b : ℕ). n) (filter is_reset (filter is_realtime bytes)) ≡ replicate (count_by is_reset bytes) n
same_marks n [] = refl
same_marks n (b ∷ bs) =
    by_reset (is_reset b) refl (is_realtime b) refl (same_marks n bs)
    ∙ ap (λ (k : ℕ). replicate k n) (sym (sum_by-cons (λ (x : ℕ). cond {A = ℕ} (is_reset x) 1 0) b bs))
  where
    one_more : (k : ℕ) → n ∷ replicate k n ≡ replicate (1 + k) n
    one_more k = let e : suc k ≡ 1 + k = omega arith in ap (λ (j : ℕ). replicate j n) e

    none_more : (k : ℕ) → replicate k n ≡ replicate (0 + k) n
    none_more k = let e : k ≡ 0 + k = omega arith in ap (λ (j : ℕ). replicate j n) e

    by_reset : (t : Bool) → is_reset b ≡ t → (u : Bool) → is_realtime b ≡ u → map (λ (x : ℕ). n) (filter is_reset (filter is_realtime bs)) ≡ replicate (count_by is_reset bs) n
        → map (λ (x : ℕ). n) (filter is_reset (cond u (b ∷ filter is_realtime bs) (filter is_realtime bs))) ≡ replicate (cond {A = ℕ} t 1 0 + count_by is_reset bs) n
    by_reset true is true seen i = rw is (ap (λ (ms : List ℕ). n ∷ ms) i ∙ one_more (count_by is_reset bs))
    by_reset true is false seen i = absurd (let e = sym seen ∙ seen_reset b is in cc)
    by_reset false is true seen i = rw is (i ∙ none_more (count_by is_reset bs))
    by_reset false is false seen i = i ∙ none_more (count_by is_reset bs)

marks_in_line : (n : ℕ) (line : List ℕ) → replicate (resets_of line) n ≡ marks_at n line
marks_in_line n line = sym (same_marks n (cut line).outside)

pub stops_sent : (n : ℕ) (lines : List (List ℕ)) (rest : List ℕ) → stops_behind n (sent_of lines rest) ≡ marks_behind n lines ++ marks_at (n + length (on_link lines)) rest
stops_sent n [] rest =
    ap (stops_behind n) (sym (append-nil (replicate (resets_of rest) a_stop))) ∙ stops_first (resets_of rest) n [] ∙ append-nil (replicate (resets_of rest) n) ∙ marks_in_line n rest
    ∙ ap (λ (k : ℕ). marks_at k rest) (let e : n ≡ n + 0 = omega arith in e)
stops_sent n (line ∷ lines) rest =
    let text : length (kept_of line) ≡ length (sent_text line) = ap length (kept_sent line) in
    let at : n + (length (sent_text line) + 1) + length (on_link lines) ≡ n + length (on_link (line ∷ lines)) =
    (let a = length-append (sent_text line ++ 10 ∷ []) (on_link lines) in let b = length-append (sent_text line) (10 ∷ []) in omega arith) in
    ap (stops_behind n) (behind_line line lines rest) ∙ stops_first (resets_of line) n (a_text (kept_of line) ∷ sent_of lines rest)
    ∙ ap (λ (ms : List ℕ). ms ++ stops_behind (n + (length (kept_of line) + 1)) (sent_of lines rest)) (marks_in_line n line)
    ∙ ap (λ (k : ℕ). marks_at n line ++ stops_behind (n + (k + 1)) (sent_of lines rest)) text
    ∙ ap (λ (ms : List ℕ). marks_at n line ++ ms) (stops_sent (n + (length (sent_text line) + 1)) lines rest ∙ ap (λ (k : ℕ). marks_behind (n + (length (sent_text line) + 1)) lines ++ marks_at k rest) at)
    ∙ sym (append_assoc (marks_at n line) (marks_behind (n + (length (sent_text line) + 1)) lines) (marks_at (n + length (on_link (line ∷ lines))) rest))

-- ---- of a host

marks_sent : (h : Journal) (left : List ℕ) → reverse (marks_of h) ++ left ≡ marks_behind 0 (cut_of h) ++ marks_at (length (on_link (cut_of h))) (raw_of h)
    → stops_behind 0 (sent_of (cut_of h) (raw_of h)) ≡ reverse (marks_of h) ++ left
marks_sent h left are =
    stops_sent 0 (cut_of h) (raw_of h) ∙ ap (λ (k : ℕ). marks_behind 0 (cut_of h) ++ marks_at k (raw_of h)) (let e : 0 + length (on_link (cut_of h)) ≡ length (on_link (cut_of h)) = omega arith in e) ∙ sym are

pub sends_front : (room : ℕ) (h : Journal) → Conducted room h → IsFrontOf (sent_of (cut_of h) (raw_of h)) (stored_of h) (marks_of h)
sends_front room h c = let s = stored_marks room h c in record {
  lines = no_lf (cut_of h) (raw_of h);
  more = to_store h;
  bytes_are = bytes_sent (cut_of h) (raw_of h) ∙ sym (stored_is room h c);
  unmarked = s.left;
  marks_are = marks_sent h s.left s.are;
  waits = by_all s.left s.all;
}
  where
    by_all : (left : List ℕ) → AllMarked (length (marks_of h)) (raised_resets h) (length (on_link (cut_of h))) (due_of h) left → (left ≡ []) ⊎ (left ≡ length (bytes_of (sent_of (cut_of h) (raw_of h))) ∷ [])
    by_all left (inl all) = inl all.0
    by_all left (inr all) = inr (all.0 ∙ ap (λ (bytes : List ℕ). length bytes ∷ []) (sym (bytes_sent (cut_of h) (raw_of h))))

-- where all is stored, and nothing is to be raised
sends_whole : (room : ℕ) (h : Journal) → Conducted room h → to_store h ≡ [] → due_of h ≡ [] → IsAllOf (sent_of (cut_of h) (raw_of h)) (stored_of h) (marks_of h)
sends_whole room h c free calm =
    let s = stored_marks room h c in
    let none = left_none (length (marks_of h)) (raised_resets h) (length (on_link (cut_of h))) (due_of h) s.left calm s.all in
    record {
      bytes_are = bytes_sent (cut_of h) (raw_of h) ∙ sym (stored_is room h c) ∙ ap (λ (t : List ℕ). stored_of h ++ t) free ∙ append-nil (stored_of h);
      marks_are = marks_sent h s.left s.are ∙ ap (λ (t : List ℕ). reverse (marks_of h) ++ t) none ∙ append-nil (reverse (marks_of h));
    }

pub sends_all : (room : ℕ) (h : Journal) → Conducted room h → is_shut h ≡ true → has_limit h ≡ false → IsAllOf (sent_of (cut_of h) (raw_of h)) (stored_of h) (marks_of h)
sends_all room h c closed calm = sends_whole room h c (shut_is room h c closed calm).free (none_due_shut room h c closed calm)

-- where the latest mark has no Banner yet, all is stored, and nothing else is to be marked
pub pending_all : (room : ℕ) (h : Journal) → Conducted room h → IsPending (marks_of h) (banners_of h) (to_store h) (stored_of h) → IsAllOf (sent_of (cut_of h) (raw_of h)) (stored_of h) (marks_of h)
pending_all room h c p = let s = stored_marks room h c in by_all s.left s.are s.all
  where
    all : (left : List ℕ) → reverse (marks_of h) ++ left ≡ marks_behind 0 (cut_of h) ++ marks_at (length (on_link (cut_of h))) (raw_of h) → left ≡ [] → IsAllOf (sent_of (cut_of h) (raw_of h)) (stored_of h) (marks_of h)
    all left are none = record {
      bytes_are = bytes_sent (cut_of h) (raw_of h) ∙ sym (whole_by room h c p.free);
      marks_are = marks_sent h left are ∙ ap (λ (t : List ℕ). reverse (marks_of h) ++ t) none ∙ append-nil (reverse (marks_of h));
    }

    -- a Banner is awaited then, and nothing is due
    awaits : length (marks_of h) ≡ raised_resets h → awaits_banner h ≡ true
    awaits same = let s = p.some in let l = p.late in by_tests (nat_lt 0 (raised_resets h)) (nat_le (banners_of h) (raised_resets h)) refl refl
      where
        by_tests : (t u : Bool) → nat_lt 0 (raised_resets h) ≡ t → nat_le (banners_of h) (raised_resets h) ≡ u → (t && u) ≡ true
        by_tests true true e f = refl
        by_tests true false e f = absurd (let l = p.late in grind (arith, nat_tests))
        by_tests false u e f = absurd (let l = p.some in grind (arith, nat_tests))

    by_all : (left : List ℕ) → reverse (marks_of h) ++ left ≡ marks_behind 0 (cut_of h) ++ marks_at (length (on_link (cut_of h))) (raw_of h)
        → AllMarked (length (marks_of h)) (raised_resets h) (length (on_link (cut_of h))) (due_of h) left → IsAllOf (sent_of (cut_of h) (raw_of h)) (stored_of h) (marks_of h)
    by_all left are (inl none) = all left are none.0
    by_all left are (inr one) = absurd (let w = (waiting_is room h c (awaits one.2)).none_due in let e = sym w ∙ one.1 in cc)
