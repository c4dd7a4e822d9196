-- Which marks a host stores: those of the resets that it scans.
use Rattle.std.proofs.Common.{◌≡◌, ℕ, ◌+◌, ◌≤◌, ◌⊎◌, inl, inr, ◌||◌, Bool, true, false, cond, List, [], ◌∷◌, ◌++◌, length, map, drop, reverse, nat_eq, nat_lt, refl, sym, ap, ◌∙◌, arith, subst, append-nil, append_assoc, length-append}
use Rattle.std.specs.List.{filter, list_any}
use Rattle.std.proofs.lemmas.Bool.Decides.{nat_tests}
use Rattle.std.proofs.lemmas.List.{map-append, reverse-append}
use Rattle.std.proofs.lemmas.List.Elements.{filter-append}
use Rattle.run_rules.specs.Lines.{lines_of}
use Rattle.run_rules.proofs.Cutting.{lines_are, some_bytes}
use Rattle.host_journal.specs.Links.{on_link}
use Rattle.host_journal.specs.Jobs.{is_reset, sent_text, served, marks_at, marks_behind}
use Rattle.stream_host.specs.Ran.{AreMarks}
use Rattle.host_journal.specs.Steps.{Journal, marks_of, resets_of, scanned_of, raw_of, cut_of, due_of, more_served, stored_of, resumes_next}
use Rattle.host_journal.specs.Steps.PortStep.{stored, dropped, marked, raised, got, no_reply, shut}
use Rattle.host_journal.specs.Steps.Step.{at_port, read_some, read_end, read_failed, scanned, line_over, wrote, gave_up, turned, attends}
use Rattle.stream_host.specs.Conduct.{Conducted, MayRaise}
use Rattle.stream_host.proofs.Keeping.{IsCut, cut_is}
use Rattle.stream_host.proofs.Raising.{served_nil, served_on, none_at_lf, one_more}
use Rattle.stream_host.proofs.Raised.{IsMarked, marks_are, one_due}
use Rattle.stream_host.proofs.Epochs.{whole_at_mark}

-- ---- the marks of lines

link_first : (l : List ℕ) (ls : List (List ℕ)) → length (on_link (l ∷ ls)) ≡ length (sent_text l) + 1 + length (on_link ls)
link_first l ls = let a = length-append (sent_text l ++ 10 ∷ []) (on_link ls) in let b = length-append (sent_text l) (10 ∷ []) in omega arith

-- those of one line more
behind_line : (n : ℕ) (ls : List (List ℕ)) (l : List ℕ) → marks_behind n (ls ++ l ∷ []) ≡ marks_behind n ls ++ marks_at (n + length (on_link ls)) l
behind_line n [] l = append-nil (marks_at n l) ∙ ap (λ k. marks_at k l) (let e : n ≡ n + 0 = omega arith in e)
behind_line n (x ∷ xs) l =
    ap (λ (t : List ℕ). marks_at n x ++ t) (behind_line (n + (length (sent_text x) + 1)) xs l) ∙ sym (append_assoc (marks_at n x) (marks_behind (n + (length (sent_text x) + 1)) xs) (marks_at (n + (length (sent_text x) + 1) + length (on_link xs)) l))
    ∙ ap (λ k. marks_behind n (x ∷ xs) ++ marks_at k l) (let e : n + (length (sent_text x) + 1) + length (on_link xs) ≡ n + length (on_link (x ∷ xs)) = (let f = link_first x xs in omega arith) in e)

none_at : (n : ℕ) → marks_at n [] ≡ []
none_at n = ap (λ (t : List ℕ). map (λ b. n) (filter is_reset t)) served_nil

-- those of a line with one byte more
at_more : (n : ℕ) (raw : List ℕ) (b : ℕ) → marks_at n (raw ++ b ∷ []) ≡ marks_at n raw ++ map (λ x. n) (filter is_reset (more_served raw b))
at_more n raw b =
    ap (λ (t : List ℕ). map (λ x. n) (filter is_reset t)) (sym (served_on raw b)) ∙ ap (map (λ x. n)) (filter-append is_reset (served raw) (more_served raw b))
    ∙ map-append (λ x. n) (filter is_reset (served raw)) (filter is_reset (more_served raw b))

-- ---- those that are stored

-- all that were scanned are, but for that of the reset that is due
abbrev pub AllMarked : ℕ → ℕ → ℕ → List ℕ → List ℕ → Type 0
AllMarked marks resets place due left = ((left ≡ []) × ((list_any is_reset due ≡ false) ⊎ (marks ≡ resets + 1))) ⊎ ((left ≡ place ∷ []) × (due ≡ 0x18 ∷ []) × (marks ≡ resets))

pub record IsStored (marks : List ℕ) (resets : ℕ) (lines : List (List ℕ)) (raw due : List ℕ) : Type 0 where
  pub left : List ℕ
  pub are : reverse marks ++ left ≡ marks_behind 0 lines ++ marks_at (length (on_link lines)) raw
  pub all : AllMarked (length marks) resets (length (on_link lines)) due left

has_none : (due : List ℕ) → due ≡ [] → list_any is_reset due ≡ false
has_none due e = ap (list_any is_reset) e

raised_on : (room : ℕ) (b : ℕ) (h : Journal) → Conducted room h → MayRaise b h → (t : Bool) → resumes_next h ≡ t → (u : Bool) → is_reset b ≡ u → (place : ℕ) (left : List ℕ) → AllMarked (length (marks_of h)) (resets_of h) place (due_of h) left
    → AllMarked (length (marks_of h)) (cond u (resets_of h + 1) (resets_of h)) place (cond t (due_of h) (drop 1 (due_of h))) left
raised_on room b h c may true e true f place left all = absurd (let g = sym f ∙ ap is_reset (may.resumes e) in cc)
raised_on room b h c may true e false f place left all = all
raised_on room b h c may false e u f place left (inl all) = inl (all.0, inl (has_none (drop 1 (due_of h)) (one_due room h b c (may.next e))))
raised_on room b h c may false e u f place left (inr all) =
    let next = may.next e in
    let same : b ≡ 0x18 = (let g = sym next ∙ all.1 in cc) in
    absurd (let m = may.behind_mark (ap is_reset same) in let n = all.2 in omega arith)

pub left_none : (marks resets place : ℕ) (due left : List ℕ) → due ≡ [] → AllMarked marks resets place due left → left ≡ []
left_none marks resets place due left none (inl all) = all.0
left_none marks resets place due left none (inr all) = absurd (let e = sym none ∙ all.1 in cc)

fresh : (room : ℕ) (h : Journal) → Conducted room h → due_of h ≡ [] → length (marks_of h) ≡ resets_of h
fresh room h c none = by_marks (marks_are room h c)
  where
    by_marks : IsMarked (length (marks_of h)) (resets_of h) (due_of h) → length (marks_of h) ≡ resets_of h
    by_marks (inl same) = same
    by_marks (inr more) = absurd (let e = sym none ∙ more.1 in cc)

-- what is left with one byte more
more_left : (marks resets place : ℕ) (more : List ℕ) → length more ≤ 1 → marks ≡ resets → AllMarked marks resets place more (map (λ x. place) (filter is_reset more))
more_left marks resets place [] few same = inl (refl, inl refl)
more_left marks resets place (x ∷ []) few same = by_reset (is_reset x) refl
  where
    by_reset : (u : Bool) → is_reset x ≡ u → AllMarked marks resets place (x ∷ []) (map (λ y. place) (cond u (x ∷ []) []))
    by_reset true e = inr (refl, ap (λ y. y ∷ []) (let s : x ≡ 0x18 = grind (arith, nat_tests) in s), same)
    by_reset false e = inl (refl, inl (ap (λ t. t || false) e))
more_left marks resets place (x ∷ y ∷ more) few same = absurd (omega arith)

-- all are stored where nothing is due
whole : (marks : List ℕ) (resets : ℕ) (lines : List (List ℕ)) (raw due : List ℕ) → due ≡ [] → IsStored marks resets lines raw due → reverse marks ≡ marks_behind 0 lines ++ marks_at (length (on_link lines)) raw
whole marks resets lines raw due none was =
    sym (append-nil (reverse marks)) ∙ ap (λ (t : List ℕ). reverse marks ++ t) (sym (left_none (length marks) resets (length (on_link lines)) due was.left none was.all)) ∙ was.are

-- a line is over
line_marks : (marks : List ℕ) (resets : ℕ) (lines : List (List ℕ)) (raw due next : List ℕ) → due ≡ [] → next ≡ [] → IsStored marks resets lines raw due → IsStored marks resets (lines ++ raw ∷ []) [] next
line_marks marks resets lines raw due next none none_next was = record {
  left = [];
  are =
      append-nil (reverse marks) ∙ whole marks resets lines raw due none was
      ∙ ap (λ k. marks_behind 0 lines ++ marks_at k raw) (let e : length (on_link lines) ≡ 0 + length (on_link lines) = omega arith in e) ∙ sym (behind_line 0 lines raw)
      ∙ sym (append-nil (marks_behind 0 (lines ++ raw ∷ []))) ∙ ap (λ (t : List ℕ). marks_behind 0 (lines ++ raw ∷ []) ++ t) (sym (none_at (length (on_link (lines ++ raw ∷ [])))));
  all = inl (refl, inl (has_none next none_next));
}

scan_marks : (room : ℕ) (b : ℕ) (h : Journal) → Conducted room (scanned b ∷ h) → (t : Bool) → nat_eq b 10 ≡ t → IsStored (marks_of h) (resets_of h) (cut_of h) (raw_of h) (due_of h)
    → IsStored (marks_of h) (resets_of h) (cond t (cut_of h ++ raw_of h ∷ []) (cut_of h)) (cond t [] (raw_of h ++ b ∷ [])) (due_of h ++ more_served (raw_of h) b)
scan_marks room b h c true e was =
    line_marks (marks_of h) (resets_of h) (cut_of h) (raw_of h) (due_of h) (due_of h ++ more_served (raw_of h) b) c.0.none_due
    (ap (λ (d : List ℕ). d ++ more_served (raw_of h) b) c.0.none_due ∙ none_at_lf (raw_of h) b e) was
scan_marks room b h c false e was = record {
  left = map (λ x. length (on_link (cut_of h))) (filter is_reset (more_served (raw_of h) b));
  are =
      ap (λ (t : List ℕ). t ++ map (λ x. length (on_link (cut_of h))) (filter is_reset (more_served (raw_of h) b))) (whole (marks_of h) (resets_of h) (cut_of h) (raw_of h) (due_of h) c.0.none_due was)
      ∙ append_assoc (marks_behind 0 (cut_of h)) (marks_at (length (on_link (cut_of h))) (raw_of h)) (map (λ x. length (on_link (cut_of h))) (filter is_reset (more_served (raw_of h) b)))
      ∙ ap (λ (t : List ℕ). marks_behind 0 (cut_of h) ++ t) (sym (at_more (length (on_link (cut_of h))) (raw_of h) b));
  all = subst (λ (d : List ℕ). AllMarked (length (marks_of h)) (resets_of h) (length (on_link (cut_of h))) (d ++ more_served (raw_of h) b) (map (λ x. length (on_link (cut_of h))) (filter is_reset (more_served (raw_of h) b)))) (sym c.0.none_due)
      (more_left (length (marks_of h)) (resets_of h) (length (on_link (cut_of h))) (more_served (raw_of h) b) (one_more (raw_of h) b) (fresh room h c.1 c.0.none_due));
}

mark_marks : (room : ℕ) (h : Journal) → Conducted room (at_port marked ∷ h) → IsStored (marks_of h) (resets_of h) (cut_of h) (raw_of h) (due_of h) → IsStored (marks_of (at_port marked ∷ h)) (resets_of h) (cut_of h) (raw_of h) (due_of h)
mark_marks room h c was = by_all was.all
  where
    by_all : AllMarked (length (marks_of h)) (resets_of h) (length (on_link (cut_of h))) (due_of h) was.left → IsStored (marks_of (at_port marked ∷ h)) (resets_of h) (cut_of h) (raw_of h) (due_of h)
    by_all (inl (none, inl no_reset)) = absurd (let e = sym no_reset ∙ ap (list_any is_reset) c.0.next in cc)
    by_all (inl (none, inr more)) = absurd (let f = c.0.fresh in omega arith)
    by_all (inr all) =
        let at : length (stored_of h) ≡ length (on_link (cut_of h)) = ap length (whole_at_mark room h c) in
        record {
          left = [];
          are =
              append-nil (reverse (marks_of (at_port marked ∷ h))) ∙ reverse-append (length (stored_of h) ∷ []) (marks_of h) ∙ ap (λ n. reverse (marks_of h) ++ n ∷ []) at
              ∙ ap (λ (t : List ℕ). reverse (marks_of h) ++ t) (sym all.0) ∙ was.are;
          all = inl (refl, inr (let n = all.2 in omega arith));
        }

pub stored_marks : (room : ℕ) (h : Journal) → Conducted room h → IsStored (marks_of h) (resets_of h) (cut_of h) (raw_of h) (due_of h)
stored_marks room [] c = record { left = []; are = sym (none_at 0); all = inl (refl, inl refl) }
stored_marks room (at_port (stored b) ∷ h) c = stored_marks room h c.1
stored_marks room (at_port (dropped b) ∷ h) c = absurd c.0
stored_marks room (at_port marked ∷ h) c = mark_marks room h c (stored_marks room h c.1)
stored_marks room (at_port (raised b down) ∷ h) c =
    let s = stored_marks room h c.1 in
    record { left = s.left; are = s.are; all = raised_on room b h c.1 c.0 (resumes_next h) refl (is_reset b) refl (length (on_link (cut_of h))) s.left s.all }
stored_marks room (at_port (got r) ∷ h) c = stored_marks room h c.1
stored_marks room (at_port no_reply ∷ h) c = stored_marks room h c.1
stored_marks room (at_port shut ∷ h) c = stored_marks room h c.1
stored_marks room (read_some bytes ∷ h) c = stored_marks room h c.1
stored_marks room (read_end ∷ h) c = stored_marks room h c.1
stored_marks room (read_failed ∷ h) c = stored_marks room h c.1
stored_marks room (scanned b ∷ h) c = scan_marks room b h c (nat_eq b 10) refl (stored_marks room h c.1)
stored_marks room (line_over ∷ h) c = line_marks (marks_of h) (resets_of h) (cut_of h) (raw_of h) (due_of h) (due_of h) c.0.none_due c.0.none_due (stored_marks room h c.1)
stored_marks room (wrote n ∷ h) c = stored_marks room h c.1
stored_marks room (gave_up ∷ h) c = stored_marks room h c.1
stored_marks room (turned t ∷ h) c = stored_marks room h c.1
stored_marks room (attends ∷ h) c = stored_marks room h c.1

-- ---- by what was scanned

behind_text : (room : ℕ) (h : Journal) → Conducted room h → marks_behind 0 (cut_of h) ++ marks_at (length (on_link (cut_of h))) (raw_of h) ≡ marks_behind 0 (lines_of (scanned_of h))
behind_text room h c = by_cut (cut_is room h c)
  where
    last : (raw : List ℕ) → marks_behind 0 (cut_of h) ++ marks_at (length (on_link (cut_of h))) raw ≡ marks_behind 0 (cut_of h ++ cond (nat_lt 0 (length raw)) (raw ∷ []) [])
    last [] = ap (λ (t : List ℕ). marks_behind 0 (cut_of h) ++ t) (none_at (length (on_link (cut_of h)))) ∙ append-nil (marks_behind 0 (cut_of h)) ∙ ap (marks_behind 0) (sym (append-nil (cut_of h)))
    last (x ∷ xs) =
        ap (λ k. marks_behind 0 (cut_of h) ++ marks_at k (x ∷ xs)) (let e : length (on_link (cut_of h)) ≡ 0 + length (on_link (cut_of h)) = omega arith in e) ∙ sym (behind_line 0 (cut_of h) (x ∷ xs))
        ∙ ap (λ t. marks_behind 0 (cut_of h ++ cond t ((x ∷ xs) ∷ []) [])) (sym (some_bytes x xs))

    by_cut : IsCut h → marks_behind 0 (cut_of h) ++ marks_at (length (on_link (cut_of h))) (raw_of h) ≡ marks_behind 0 (lines_of (scanned_of h))
    by_cut (inl is) = last (raw_of h) ∙ ap (marks_behind 0) (sym (lines_are (scanned_of h) (cut_of h) (raw_of h) is))
    by_cut (inr over) =
        ap (λ (t : List ℕ). marks_behind 0 (cut_of h) ++ marks_at (length (on_link (cut_of h))) t) over.none ∙ ap (λ (t : List ℕ). marks_behind 0 (cut_of h) ++ t) (none_at (length (on_link (cut_of h))))
        ∙ append-nil (marks_behind 0 (cut_of h)) ∙ ap (marks_behind 0) (sym over.whole)

pub marks_of_resets : (room : ℕ) (h : Journal) → Conducted room h → AreMarks (marks_of h) (scanned_of h)
marks_of_resets room h c =
    let s = stored_marks room h c in
    record { left = s.left; are = s.are ∙ behind_text room h c; few = by_all s.left s.all }
  where
    by_all : (left : List ℕ) → AllMarked (length (marks_of h)) (resets_of h) (length (on_link (cut_of h))) (due_of h) left → length left ≤ 1
    by_all left (inl all) = let e = ap length all.0 in omega arith
    by_all left (inr all) = let e = ap length all.0 in omega arith

-- where nothing is due, all are stored
pub all_marks : (room : ℕ) (h : Journal) → Conducted room h → due_of h ≡ [] → reverse (marks_of h) ≡ marks_behind 0 (lines_of (scanned_of h))
all_marks room h c none = whole (marks_of h) (resets_of h) (cut_of h) (raw_of h) (due_of h) none (stored_marks room h c) ∙ behind_text room h c
