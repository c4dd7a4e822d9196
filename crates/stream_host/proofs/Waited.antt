-- The cancel of a jog waits for the answers to the lines before its own: none is raised behind the first line that is neither answered
-- nor forgotten.
use Rattle.std.proofs.Common.{◌≡◌, ℕ, zero, suc, ◌+◌, ◌≤◌, ◌||◌, inl, inr, Bool, true, false, cond, List, [], ◌∷◌, ◌++◌, length, take, nat_eq, nat_lt, refl, sym, ap, arith, length-append}
use Rattle.std.specs.List.{count_by, flat_map}
use Rattle.std.proofs.lemmas.List.{take_all}
use Rattle.code_table.specs.Tables.{query}
use Rattle.run_rules.specs.Lines.{CutsInto, lines_of}
use Rattle.run_rules.proofs.Cutting.{lines_are, lines_with, lines_without}
use Rattle.status_report.specs.declared.Reply.{Reply}
use Rattle.status_report.specs.Answering.{is_answer, answers_in}
use Rattle.host_journal.specs.Jobs.{cancel, is_cancel, cancels_in, served}
use Rattle.host_journal.specs.Steps.{Journal, port_log, got_of, begins, answered_of, forgotten_of, over_of, unanswered_of, scanned_of, unscanned_of, raw_of, cut_of, raises_of, more_served, is_attended}
use Rattle.host_journal.specs.Steps.PortStep.{stored, dropped, marked, raised, got, no_reply, shut}
use Rattle.host_journal.specs.Steps.Step.{at_port, read_some, read_end, read_failed, scanned, line_over, wrote, gave_up, turned, attends}
use Rattle.stream_host.specs.Conduct.{Conducted, MayScanNext, AreAnswered, waits_for_lines}
use Rattle.stream_host.proofs.Keeping.{IsCut, cut_is, cut_on, none_next}
use Rattle.stream_host.proofs.Raising.{served_on, raised_is, count_on}
use Rattle.stream_host.proofs.Epochs.{all_lines}
use Rattle.stream_host.proofs.Sending.{answers_push}
use Rattle.stream_host.proofs.Kept.{begun_more}

-- ---- the cancels in a front of some lines

-- more lines have no fewer
cancels_of_more_lines : (m n : ℕ) (lines : List (List ℕ)) → m ≤ n → cancels_in (take m lines) ≤ cancels_in (take n lines)
cancels_of_more_lines zero n lines few = omega arith
cancels_of_more_lines (suc m) zero lines few = absurd (omega arith)
cancels_of_more_lines (suc m) (suc n) [] few = omega arith
cancels_of_more_lines (suc m) (suc n) (line ∷ lines) few =
    let was = cancels_of_more_lines m n lines (omega arith) in
    let a = count_on is_cancel (served line) (flat_map served (take m lines)) in
    let b = count_on is_cancel (served line) (flat_map served (take n lines)) in omega arith

-- lines have no fewer where those behind the same ones have no fewer
cancels_behind_same : (n : ℕ) (lines xs ys : List (List ℕ)) → ((m : ℕ) → cancels_in (take m xs) ≤ cancels_in (take m ys))
    → cancels_in (take n (lines ++ xs)) ≤ cancels_in (take n (lines ++ ys))
cancels_behind_same n [] xs ys more = more n
cancels_behind_same zero (line ∷ lines) xs ys more = omega arith
cancels_behind_same (suc n) (line ∷ lines) xs ys more =
    let was = cancels_behind_same n lines xs ys more in
    let a = count_on is_cancel (served line) (flat_map served (take n (lines ++ xs))) in
    let b = count_on is_cancel (served line) (flat_map served (take n (lines ++ ys))) in omega arith

-- a line has no fewer with one byte more
cancels_of_longer_line : (raw : List ℕ) (b : ℕ) (m : ℕ) → cancels_in (take m (raw ∷ [])) ≤ cancels_in (take m ((raw ++ b ∷ []) ∷ []))
cancels_of_longer_line raw b zero = omega arith
cancels_of_longer_line raw b (suc m) =
    let same = ap (λ (t : List ℕ). count_by is_cancel t) (served_on raw b) in
    let two = count_on is_cancel (served raw) (more_served raw b) in
    let rest = flat_map served (take m []) in
    let x = count_on is_cancel (served raw) rest in
    let y = count_on is_cancel (served (raw ++ b ∷ [])) rest in omega arith

-- so it is where the line may have been missing before
cancels_of_last_line : (t : Bool) (raw more : List ℕ) → ((m : ℕ) → cancels_in (take m (raw ∷ [])) ≤ cancels_in (take m (more ∷ [])))
    → (m : ℕ) → cancels_in (take m (cond t (raw ∷ []) [])) ≤ cancels_in (take m (more ∷ []))
cancels_of_last_line true raw more longer m = longer m
cancels_of_last_line false raw more longer zero = omega arith
cancels_of_last_line false raw more longer (suc m) = omega arith

-- what is scanned with a byte more has no fewer
on_byte : (n b : ℕ) (text : List ℕ) (lines : List (List ℕ)) (raw : List ℕ) → CutsInto text lines raw
    → cancels_in (take n (lines_of text)) ≤ cancels_in (take n (lines_of (text ++ b ∷ [])))
on_byte n b text lines raw is = by_lf (nat_eq b 10) refl
  where
    last : List (List ℕ)
    last = cond (nat_lt 0 (length raw)) (raw ∷ []) []

    by_lf : (t : Bool) → nat_eq b 10 ≡ t → cancels_in (take n (lines_of text)) ≤ cancels_in (take n (lines_of (text ++ b ∷ [])))
    by_lf true e =
        let was = ap (λ (ls : List (List ℕ)). cancels_in (take n ls)) (lines_are text lines raw is) in
        let now = ap (λ (ls : List (List ℕ)). cancels_in (take n ls)) (lines_without (text ++ b ∷ []) (lines ++ raw ∷ []) [] (cut_on b text lines raw true e is) refl) in
        let more = cancels_behind_same n lines last (raw ∷ []) (cancels_of_last_line (nat_lt 0 (length raw)) raw raw (λ m. omega arith)) in
        omega arith
    by_lf false e =
        let was = ap (λ (ls : List (List ℕ)). cancels_in (take n ls)) (lines_are text lines raw is) in
        let now = ap (λ (ls : List (List ℕ)). cancels_in (take n ls)) (lines_with (text ++ b ∷ []) lines (raw ++ b ∷ []) (cut_on b text lines raw false e is) (sym (begun_more raw b))) in
        let more = cancels_behind_same n lines last ((raw ++ b ∷ []) ∷ []) (cancels_of_last_line (nat_lt 0 (length raw)) raw (raw ++ b ∷ []) (cancels_of_longer_line raw b)) in
        omega arith

-- ---- the lines that are answered or forgotten

-- a reply makes them no fewer
over_grows : (r : Reply) (h : Journal) → over_of h ≤ over_of (at_port (got r) ∷ h)
over_grows r h = let a = answers_push (got_of h) r in by_test (begins r (port_log h)) a
  where
    by_test : (t : Bool) → answers_in (got_of h ++ r ∷ []) ≡ answered_of h + cond (is_answer r) 1 0
        → answered_of h + forgotten_of h ≤ answers_in (got_of h ++ r ∷ []) + cond t (forgotten_of h + length (unanswered_of h)) (forgotten_of h)
    by_test true a = omega arith
    by_test false a = omega arith

-- what is scanned has at most one line more than those that are cut
few_lines : (h : Journal) → IsCut h → length (lines_of (scanned_of h)) ≤ length (cut_of h) + 1
few_lines h (inl is) =
    let e = ap length (lines_are (scanned_of h) (cut_of h) (raw_of h) is) in
    let a = length-append (cut_of h) (cond (nat_lt 0 (length (raw_of h))) (raw_of h ∷ []) []) in
    let o = at_most_one (nat_lt 0 (length (raw_of h))) (raw_of h) in omega arith
  where
    at_most_one : (t : Bool) (raw : List ℕ) → length (cond t (raw ∷ []) []) ≤ 1
    at_most_one true raw = omega arith
    at_most_one false raw = omega arith
few_lines h (inr over) = let e = ap length over.whole in omega arith

-- ---- a cancel that is raised

-- it is one of the bytes that wait
cancel_waits : (b : ℕ) → is_cancel b ≡ true → waits_for_lines b ≡ true
cancel_waits b e = by_query (nat_eq b query)
  where
    by_query : (t : Bool) → (t || nat_eq b cancel) ≡ true
    by_query true = refl
    by_query false = e

-- where the lines before it are answered, all of what is scanned counts
on_cancel : (room : ℕ) (b : ℕ) (down : Bool) (h : Journal) → Conducted room (at_port (raised b down) ∷ h) → AreAnswered h
    → count_by is_cancel (raises_of h ++ b ∷ []) ≤ cancels_in (take (over_of h + 1) (lines_of (scanned_of h)))
on_cancel room b down h c answered =
    let all = all_lines room h c.1 in let few = few_lines h (cut_is room h c.1) in
    let whole = ap cancels_in (take_all (over_of h + 1) (lines_of (scanned_of h)) (omega arith)) in
    let r = raised_is room (at_port (raised b down) ∷ h) c is_cancel in
    omega arith

-- what is no cancel adds none
on_raise : (room : ℕ) (b : ℕ) (down : Bool) (h : Journal) → Conducted room (at_port (raised b down) ∷ h) → is_attended h ≡ false
    → count_by is_cancel (raises_of h) ≤ cancels_in (take (over_of h + 1) (lines_of (scanned_of h)))
    → count_by is_cancel (raises_of h ++ b ∷ []) ≤ cancels_in (take (over_of h + 1) (lines_of (scanned_of h)))
on_raise room b down h c alone was = by_cancel (is_cancel b) refl
  where
    by_cancel : (t : Bool) → is_cancel b ≡ t → count_by is_cancel (raises_of h ++ b ∷ []) ≤ cancels_in (take (over_of h + 1) (lines_of (scanned_of h)))
    by_cancel true e = on_cancel room b down h c (c.0.after alone (cancel_waits b e))
    by_cancel false e = let a = count_on is_cancel (raises_of h) (b ∷ []) in let n = ap (λ t. cond {A = ℕ} t 1 0) e in omega arith

-- a byte that is scanned takes none away from the front
on_scan : (n b : ℕ) (h : Journal) → MayScanNext b h → IsCut h → cancels_in (take n (lines_of (scanned_of h))) ≤ cancels_in (take n (lines_of (scanned_of h ++ b ∷ [])))
on_scan n b h may (inl is) = on_byte n b (scanned_of h) (cut_of h) (raw_of h) is
on_scan n b h may (inr over) = absurd (none_next (unscanned_of h) b over.used may.next)

-- in a run that is not attended no cancel is raised behind the first line that is neither answered nor forgotten
pub cancels_waited : (room : ℕ) (h : Journal) → Conducted room h → is_attended h ≡ false
    → count_by is_cancel (raises_of h) ≤ cancels_in (take (over_of h + 1) (lines_of (scanned_of h)))
cancels_waited room [] c alone = omega arith
cancels_waited room (at_port (stored b) ∷ h) c alone = cancels_waited room h c.1 alone
cancels_waited room (at_port (dropped b) ∷ h) c alone = absurd c.0
cancels_waited room (at_port marked ∷ h) c alone = cancels_waited room h c.1 alone
cancels_waited room (at_port (raised b down) ∷ h) c alone = on_raise room b down h c alone (cancels_waited room h c.1 alone)
cancels_waited room (at_port (got r) ∷ h) c alone =
    let was = cancels_waited room h c.1 alone in let g = over_grows r h in
    let more = cancels_of_more_lines (over_of h + 1) (over_of (at_port (got r) ∷ h) + 1) (lines_of (scanned_of h)) (omega arith) in omega arith
cancels_waited room (at_port no_reply ∷ h) c alone = cancels_waited room h c.1 alone
cancels_waited room (at_port shut ∷ h) c alone = cancels_waited room h c.1 alone
cancels_waited room (read_some bytes ∷ h) c alone = cancels_waited room h c.1 alone
cancels_waited room (read_end ∷ h) c alone = cancels_waited room h c.1 alone
cancels_waited room (read_failed ∷ h) c alone = cancels_waited room h c.1 alone
cancels_waited room (scanned b ∷ h) c alone =
    let was = cancels_waited room h c.1 alone in let more = on_scan (over_of h + 1) b h c.0 (cut_is room h c.1) in omega arith
cancels_waited room (line_over ∷ h) c alone = cancels_waited room h c.1 alone
cancels_waited room (wrote n ∷ h) c alone = cancels_waited room h c.1 alone
cancels_waited room (gave_up ∷ h) c alone = cancels_waited room h c.1 alone
cancels_waited room (turned t ∷ h) c alone = cancels_waited room h c.1 alone
cancels_waited room (attends ∷ h) c alone = absurd cc
