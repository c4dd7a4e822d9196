-- What a host that keeps to its rules asks for: reports, each in its epoch and in the line that holds its `?`.
use Rattle.std.proofs.Common.{◌≡◌, ℕ, ◌+◌, ◌≤◌, ◌<◌, ◌⊎◌, inl, inr, Bool, true, false, cond, ◌&&◌, List, [], ◌∷◌, ◌++◌, length, drop, get_or, nat_eq, nat_lt, nat_le, refl, sym, ap, ◌∙◌, arith, append-nil, length-append, length-drop}
use Rattle.std.specs.List.{count_by}
use Rattle.std.proofs.lemmas.Bool.Decides.{nat_tests}
use Rattle.std.proofs.lemmas.List.Sums.{sum_by-cons}
use Rattle.code_table.specs.Tables.{query}
use Rattle.status_report.specs.declared.Reply.{Reply}
use Rattle.status_report.specs.Answering.{lfs_in, is_answer, answers_in, is_banner}
use Rattle.status_report.proofs.Answered.{lfs_on, answers_on, answers_first}
use Rattle.status_report.proofs.Banners.{banners_first}
use Rattle.serial_ring.specs.Lists.{has_banner, answers_behind_mark}
use Rattle.serial_ring.specs.Marks.{latest}
use Rattle.run_rules.specs.Lines.{lines_of}
use Rattle.run_rules.specs.Reports.{is_query}
use Rattle.run_rules.proofs.Cutting.{lines_are, some_bytes}
use Rattle.host_journal.specs.Jobs.{resume, is_reset, served}
use Rattle.stream_host.specs.Epochs.{lines_now, got_now}
use Rattle.host_journal.specs.Steps.{Journal, port_log, latest_got, begins, stored_of, marks_of, resets_of, banners_of, awaits_banner, scanned_of, raw_of, cut_of, live_of, to_store, due_of, more_served, is_attended, resumes_next}
use Rattle.host_journal.specs.Steps.PortStep.{dropped, marked, raised, got}
use Rattle.host_journal.specs.Steps.Step.{at_port, scanned, line_over, attends}
use Rattle.stream_host.specs.Conduct.{Conducted, MayMark, MayRaise, MayScanNext, waits_for_lines}
use Rattle.stream_host.proofs.Raising.{served_nil, served_on, none_at_lf, one_more}
use Rattle.stream_host.proofs.Keeping.{IsCut, cut_is}
use Rattle.stream_host.proofs.Links.{lfs_linked}
use Rattle.stream_host.proofs.Raised.{IsMarked, banners_low, free_by, marks_are, one_due, waiting_is}
use Rattle.stream_host.proofs.Cutting.{all_now}
use Rattle.stream_host.proofs.Epochs.{IsSteady, IsPending, Stands, begins_at, both_true, some_banner, none_banner, marks_between, earlier_in, answers_split, begins_none, epoch_is}
use Rattle.line_reports.specs.PerLine.{resets_with, lines_with, resets_behind, lines_behind, queries_at, queries_in}
use Rattle.list_ports.specs.Asked.{AsksBetween, epoch_behind, is_at, raised_behind, AwaitsNoReply}

-- ---- a `?` is raised while all that was sent has its reply

-- it is next of those that are due
query_next : (room : ℕ) (b : ℕ) (h : Journal) → Conducted room h → MayRaise b h → b ≡ query → due_of h ≡ b ∷ drop 1 (due_of h)
query_next room b h c may q = by_polls (resumes_next h) refl
  where
    by_polls : (t : Bool) → resumes_next h ≡ t → due_of h ≡ b ∷ drop 1 (due_of h)
    by_polls true e = absurd (let r = may.resumes e in omega arith)
    by_polls false e = may.next e

-- a mark without its Banner awaits it
lacks_one : (marks resets banners : ℕ) → marks ≡ resets → 0 < marks → banners ≤ marks → (nat_lt 0 resets && nat_le banners resets) ≡ true
lacks_one marks resets banners same some late = by_tests (nat_lt 0 resets) (nat_le banners resets) refl refl
  where
    by_tests : (t u : Bool) → nat_lt 0 resets ≡ t → nat_le banners resets ≡ u → (t && u) ≡ true
    by_tests true true e f = refl
    by_tests true false e f = absurd (grind (arith, nat_tests))
    by_tests false u e f = absurd (grind (arith, nat_tests))

module _ (room : ℕ) (b : ℕ) (h : Journal) (c : Conducted room h) (may : MayRaise b h) (q : b ≡ query) where
  due_next : due_of h ≡ b ∷ drop 1 (due_of h)
  due_next = query_next room b h c may q

  -- each mark is that of a reset that was raised
  raised_all : length (marks_of h) ≡ resets_of h
  raised_all = by_marks (marks_are room h c)
    where
      by_marks : IsMarked (length (marks_of h)) (resets_of h) (due_of h) → length (marks_of h) ≡ resets_of h
      by_marks (inl same) = same
      by_marks (inr more) = absurd (let e = ap (λ (bytes : List ℕ). get_or bytes 0 0) (sym due_next ∙ more.1) in omega arith)

  not_pending : IsPending (marks_of h) (banners_of h) (to_store h) (stored_of h) → ⊥
  not_pending p =
      let w = waiting_is room h c (lacks_one (length (marks_of h)) (resets_of h) (banners_of h) raised_all p.some p.late) in
      absurd (let e = sym w.none_due ∙ due_next in cc)

  -- so each mark has its Banner, and each reset has begun an epoch
  steady : IsSteady (marks_of h) (banners_of h)
  steady = by_stands (epoch_is room h c).stands
    where
      by_stands : Stands (marks_of h) (banners_of h) (to_store h) (stored_of h) (epoch_is room h c).from → IsSteady (marks_of h) (banners_of h)
      by_stands (inr p) = absurd (not_pending p.0)
      by_stands (inl s) = s.0

  resets_begun : IsSteady (marks_of h) (banners_of h) → resets_of h ≡ epoch_behind (latest_got (port_log h))
  resets_begun (inl none) = let r = raised_all in let l = banners_low room h c in omega arith
  resets_begun (inr all) = let r = raised_all in omega arith

  is_quiet : is_attended h ≡ false → AwaitsNoReply (port_log h)
  is_quiet alone = by_stands (epoch_is room h c).stands
    where
      by_stands : Stands (marks_of h) (banners_of h) (to_store h) (stored_of h) (epoch_is room h c).from → AwaitsNoReply (port_log h)
      by_stands (inr p) = absurd (not_pending p.0)
      by_stands (inl s) = record { marks = s.0; resets = (let r = resets_begun s.0 in omega arith); lines = lines s.1 }
        where
          lines : (epoch_is room h c).from ≡ latest (marks_of h) → lfs_in (drop (latest (marks_of h)) (stored_of h)) ≡ answers_behind_mark (latest_got (port_log h))
          lines at =
              let e = epoch_is room h c in
              let link = ap lfs_in e.link in
              let two = lfs_on (drop (epoch_is room h c).from (stored_of h)) (to_store h) in
              let none = ap lfs_in (free_by room h b c due_next) in
              let sent = lfs_linked (drop (earlier_in (port_log h)) (live_of h)) in
              let long = length-drop (earlier_in (port_log h)) (live_of h) in
              let low = e.low in
              let split = answers_split (port_log h) in
              let all = may.after alone (ap waits_for_lines q) in
              let here = ap (λ n. lfs_in (drop n (stored_of h))) at in omega arith

pub asks_between : (room : ℕ) (h : Journal) → Conducted room h → is_attended h ≡ false → AsksBetween (port_log h)
asks_between room [] c alone = tt
asks_between room (at_port (dropped b) ∷ h) c alone = absurd c.0
asks_between room (at_port (raised b down) ∷ h) c alone = ((λ q. is_quiet room b h c.1 c.0 q alone), asks_between room h c.1 alone)
asks_between room (at_port _ ∷ h) c alone = asks_between room h c.1 alone
asks_between room (attends ∷ h) c alone = absurd cc
asks_between room (_ ∷ h) c alone = asks_between room h c.1 alone

is_same : (m n : ℕ) → nat_eq m n ≡ true → m ≡ n
is_same m n e = grind (arith, nat_tests)

-- what is due, and what is due behind a raise; a resume of the host's own leaves it
due_by : (p : ℕ → Bool) → p resume ≡ false → (b : ℕ) (resumes : Bool) (due : List ℕ) → (resumes ≡ true → b ≡ resume) → (resumes ≡ false → due ≡ b ∷ drop 1 due)
    → count_by p due ≡ cond (p b) 1 0 + count_by p (cond resumes due (drop 1 due))
due_by p other b true due tired next = let e = ap (λ x. cond {A = ℕ} (p x) 1 0) (tired refl) in let o = ap (λ t. cond {A = ℕ} t 1 0) other in omega arith
due_by p other b false due tired next = ap (count_by p) (next refl) ∙ sum_by-cons (λ x. cond (p x) 1 0) b (drop 1 due)

-- ---- the `?` of lines

-- realtime bytes behind others
more_resets : (r : ℕ) (xs ys : List ℕ) → resets_behind r (xs ++ ys) ≡ resets_behind (resets_behind r xs) ys
more_resets r [] ys = refl
more_resets r (x ∷ xs) ys = more_resets (resets_with x r) xs ys

more_lines : (j : ℕ) (xs ys : List ℕ) → lines_behind j (xs ++ ys) ≡ lines_behind (lines_behind j xs) ys
more_lines j [] ys = refl
more_lines j (x ∷ xs) ys = more_lines (lines_with x j) xs ys

more_bytes : (e k r j : ℕ) (xs ys : List ℕ) → queries_at e k r j (xs ++ ys) ≡ queries_at e k r j xs + queries_at e k (resets_behind r xs) (lines_behind j xs) ys
more_bytes e k r j [] ys = omega arith
more_bytes e k r j (x ∷ xs) ys = let i = more_bytes e k (resets_with x r) (lines_with x j) xs ys in omega arith

query_is_none : (x : ℕ) → is_query x ≡ true → is_reset x ≡ false
query_is_none x is = grind (arith, nat_tests)

-- a byte more is no `?`, or a `?` where those before it lead to
one_byte : (e k r j : ℕ) (bytes : List ℕ) → length bytes ≤ 1 → cond (nat_eq (resets_behind r bytes) e && nat_eq (lines_behind j bytes) k) (count_by is_query bytes) 0 ≤ queries_at e k r j bytes
one_byte e k r j [] few = by_test (nat_eq r e && nat_eq j k)
  where
    by_test : (t : Bool) → cond {A = ℕ} t (count_by is_query []) 0 ≤ 0
    by_test true = omega arith
    by_test false = omega arith
one_byte e k r j (x ∷ []) few = by_query (is_query x) refl (sum_by-cons (λ b. cond (is_query b) 1 0) x [])
  where
    by_query : (t : Bool) → is_query x ≡ t → count_by is_query (x ∷ []) ≡ cond t 1 0 + count_by is_query []
        → cond (nat_eq (resets_with x r) e && nat_eq (lines_with x j) k) (count_by is_query (x ∷ [])) 0 ≤ cond (t && (nat_eq r e && nat_eq j k)) 1 0 + 0
    by_query true is c =
        let none = query_is_none x is in
        let same : cond {A = ℕ} (nat_eq (resets_with x r) e && nat_eq (lines_with x j) k) (count_by is_query (x ∷ [])) 0 ≡ cond (nat_eq r e && nat_eq j k) (count_by is_query (x ∷ [])) 0 =
        ap (λ t. cond (nat_eq (cond t (r + 1) r) e && nat_eq (cond t 0 j) k) (count_by is_query (x ∷ [])) 0) none in
        by_place (nat_eq r e && nat_eq j k) c same
      where
        by_place : (u : Bool) → count_by is_query (x ∷ []) ≡ 1 + count_by is_query [] → cond {A = ℕ} (nat_eq (resets_with x r) e && nat_eq (lines_with x j) k) (count_by is_query (x ∷ [])) 0 ≡ cond {A = ℕ} u (count_by is_query (x ∷ [])) 0
            → cond (nat_eq (resets_with x r) e && nat_eq (lines_with x j) k) (count_by is_query (x ∷ [])) 0 ≤ cond u 1 0 + 0
        by_place true c same = omega arith
        by_place false c same = omega arith
    by_query false is c = by_place (nat_eq (resets_with x r) e && nat_eq (lines_with x j) k)
      where
        by_place : (u : Bool) → cond {A = ℕ} u (count_by is_query (x ∷ [])) 0 ≤ 0 + 0
        by_place true = omega arith
        by_place false = omega arith
one_byte e k r j (x ∷ y ∷ bytes) few = absurd (omega arith)

-- behind some lines
resets_behind_all : ℕ → List (List ℕ) → ℕ
resets_behind_all r [] = r
resets_behind_all r (l ∷ ls) = resets_behind_all (resets_behind r (served l)) ls

lines_behind_all : ℕ → List (List ℕ) → ℕ
lines_behind_all j [] = j
lines_behind_all j (l ∷ ls) = lines_behind_all (lines_behind j (served l) + 1) ls

-- those of the last line
last_line : (e k r j : ℕ) (lines : List (List ℕ)) (raw : List ℕ) → queries_in e k r j (lines ++ raw ∷ []) ≡ queries_in e k r j lines + queries_at e k (resets_behind_all r lines) (lines_behind_all j lines) (served raw)
unfolding resets_behind_all lines_behind_all
last_line e k r j [] raw = omega arith
last_line e k r j (l ∷ lines) raw = let i = last_line e k (resets_behind r (served l)) (lines_behind j (served l) + 1) lines raw in omega arith

resets_last : (r : ℕ) (lines : List (List ℕ)) (raw : List ℕ) → resets_behind_all r (lines ++ raw ∷ []) ≡ resets_behind (resets_behind_all r lines) (served raw)
unfolding resets_behind_all
resets_last r [] raw = refl
resets_last r (l ∷ lines) raw = resets_last (resets_behind r (served l)) lines raw

lines_last : (j : ℕ) (lines : List (List ℕ)) (raw : List ℕ) → lines_behind_all j (lines ++ raw ∷ []) ≡ lines_behind (lines_behind_all j lines) (served raw) + 1
unfolding lines_behind_all
lines_last j [] raw = refl
lines_last j (l ∷ lines) raw = lines_last (lines_behind j (served l) + 1) lines raw

-- an empty line has none
none_in : (e k r j : ℕ) → queries_at e k r j (served []) ≡ 0
none_in e k r j = ap (queries_at e k r j) served_nil

line_more : (e k : ℕ) (lines : List (List ℕ)) → queries_in e k 0 0 (lines ++ [] ∷ []) ≡ queries_in e k 0 0 lines
line_more e k lines = let l = last_line e k 0 0 lines [] in let n = none_in e k (resets_behind_all 0 lines) (lines_behind_all 0 lines) in omega arith

-- ---- where a journal is in its text

-- how many resets were scanned, and how many lines since the one with the last of them
resets_there : List (List ℕ) → List ℕ → ℕ
resets_there lines raw = resets_behind (resets_behind_all 0 lines) (served raw)

lines_there : List (List ℕ) → List ℕ → ℕ
lines_there lines raw = lines_behind (lines_behind_all 0 lines) (served raw)

-- a byte more, and a line more
resets_byte : (lines : List (List ℕ)) (raw : List ℕ) (b : ℕ) → resets_there lines (raw ++ b ∷ []) ≡ resets_behind (resets_there lines raw) (more_served raw b)
unfolding resets_there
resets_byte lines raw b = ap (resets_behind (resets_behind_all 0 lines)) (sym (served_on raw b)) ∙ more_resets (resets_behind_all 0 lines) (served raw) (more_served raw b)

lines_byte : (lines : List (List ℕ)) (raw : List ℕ) (b : ℕ) → lines_there lines (raw ++ b ∷ []) ≡ lines_behind (lines_there lines raw) (more_served raw b)
unfolding lines_there
lines_byte lines raw b = ap (lines_behind (lines_behind_all 0 lines)) (sym (served_on raw b)) ∙ more_lines (lines_behind_all 0 lines) (served raw) (more_served raw b)

resets_line : (lines : List (List ℕ)) (raw : List ℕ) → resets_there (lines ++ raw ∷ []) [] ≡ resets_there lines raw
unfolding resets_there
resets_line lines raw = ap (resets_behind (resets_behind_all 0 (lines ++ raw ∷ []))) served_nil ∙ resets_last 0 lines raw

lines_line : (lines : List (List ℕ)) (raw : List ℕ) → lines_there (lines ++ raw ∷ []) [] ≡ lines_there lines raw + 1
unfolding lines_there
lines_line lines raw = ap (lines_behind (lines_behind_all 0 (lines ++ raw ∷ []))) served_nil ∙ lines_last 0 lines raw

-- ---- each `?` stands in its line

-- behind k lines of epoch e no more `?` were raised than stand there, with those that are due where the text has come to
AreIn : (e k raises : ℕ) → List ℕ → List (List ℕ) → List ℕ → Type 0
AreIn e k raises due lines raw = raises + cond (nat_eq (resets_there lines raw) e && nat_eq (lines_there lines raw) k) (count_by is_query due) 0 ≤ queries_in e k 0 0 (lines ++ raw ∷ [])

no_due : (v : Bool) (due : List ℕ) → due ≡ [] → cond v (count_by is_query due) 0 ≡ 0
no_due true due none = ap (count_by is_query) none
no_due false due none = refl

line_over_in : (e k n : ℕ) (due left : List ℕ) (lines : List (List ℕ)) (raw : List ℕ) → due ≡ [] → left ≡ [] → AreIn e k n due lines raw → AreIn e k n left (lines ++ raw ∷ []) []
unfolding AreIn
line_over_in e k n due left lines raw none gone was =
    let a = no_due (nat_eq (resets_there lines raw) e && nat_eq (lines_there lines raw) k) due none in
    let b = no_due (nat_eq (resets_there (lines ++ raw ∷ []) []) e && nat_eq (lines_there (lines ++ raw ∷ []) []) k) left gone in
    let m = line_more e k (lines ++ raw ∷ []) in omega arith

byte_in : (e k n b : ℕ) (due : List ℕ) (lines : List (List ℕ)) (raw : List ℕ) → due ≡ [] → AreIn e k n due lines raw → AreIn e k n (due ++ more_served raw b) lines (raw ++ b ∷ [])
unfolding AreIn resets_there lines_there
byte_in e k n b due lines raw none was =
    let a = no_due (nat_eq (resets_there lines raw) e && nat_eq (lines_there lines raw) k) due none in
    let was_there = last_line e k 0 0 lines raw in
    let is_there = last_line e k 0 0 lines (raw ++ b ∷ []) in
    let s = ap (queries_at e k (resets_behind_all 0 lines) (lines_behind_all 0 lines)) (sym (served_on raw b)) in
    let m = more_bytes e k (resets_behind_all 0 lines) (lines_behind_all 0 lines) (served raw) (more_served raw b) in
    let o = one_byte e k (resets_there lines raw) (lines_there lines raw) (more_served raw b) (one_more raw b) in
    let r = ap (λ n. cond {A = ℕ} (nat_eq n e && nat_eq (lines_there lines (raw ++ b ∷ [])) k) (count_by is_query (due ++ more_served raw b)) 0) (resets_byte lines raw b) in
    let j = ap (λ n. cond {A = ℕ} (nat_eq (resets_behind (resets_there lines raw) (more_served raw b)) e && nat_eq n k) (count_by is_query (due ++ more_served raw b)) 0) (lines_byte lines raw b) in
    let d = ap (λ (ds : List ℕ). cond {A = ℕ} (nat_eq (resets_behind (resets_there lines raw) (more_served raw b)) e && nat_eq (lines_behind (lines_there lines raw) (more_served raw b)) k) (count_by is_query (ds ++ more_served raw b)) 0) none in
    omega arith

-- ---- how many resets, and lines behind them, were scanned

one_reset : (t : Bool) (n : ℕ) → cond t (n + 1) n ≡ cond t 1 0 + n
one_reset true n = omega arith
one_reset false n = omega arith

none_there : resets_there [] [] ≡ 0 + 0
unfolding resets_there resets_behind_all
none_there = ap (resets_behind 0) served_nil

none_lines : lines_there [] [] ≡ 0
unfolding lines_there lines_behind_all
none_lines = ap (lines_behind 0) served_nil

-- a byte is a reset, behind which no line stands, or none
abbrev OneBehind : ℕ → List ℕ → Type 0
OneBehind j bytes = ((0 < count_by is_reset bytes) × (lines_behind j bytes ≡ 0)) ⊎ ((count_by is_reset bytes ≡ 0) × (lines_behind j bytes ≡ j))

one_behind : (j : ℕ) (bytes : List ℕ) → length bytes ≤ 1 → OneBehind j bytes
one_behind j [] few = inr (omega arith, refl)
one_behind j (x ∷ []) few = by_reset (is_reset x) refl (sum_by-cons (λ b. cond (is_reset b) 1 0) x [])
  where
    by_reset : (t : Bool) → is_reset x ≡ t → count_by is_reset (x ∷ []) ≡ cond t 1 0 + count_by is_reset [] → ((0 < count_by is_reset (x ∷ [])) × (cond t 0 j ≡ 0)) ⊎ ((count_by is_reset (x ∷ []) ≡ 0) × (cond t 0 j ≡ j))
    by_reset true is c = inl (omega arith, refl)
    by_reset false is c = inr (omega arith, refl)
one_behind j (x ∷ y ∷ bytes) few = absurd (omega arith)

count_resets : (r : ℕ) (bytes : List ℕ) → resets_behind r bytes ≡ r + count_by is_reset bytes
count_resets r [] = omega arith
count_resets r (x ∷ xs) = let i = count_resets (resets_with x r) xs in let c = sum_by-cons (λ b. cond (is_reset b) 1 0) x xs in let o = one_reset (is_reset x) r in omega arith

scanned_resets : (b : ℕ) (h : Journal) (t : Bool) → nat_eq b 10 ≡ t → due_of h ≡ [] → resets_there (cut_of h) (raw_of h) ≡ resets_of h + count_by is_reset (due_of h)
    → resets_there (cond t (cut_of h ++ raw_of h ∷ []) (cut_of h)) (cond t [] (raw_of h ++ b ∷ [])) ≡ resets_of h + count_by is_reset (due_of h ++ more_served (raw_of h) b)
scanned_resets b h true e none was =
    let l = resets_line (cut_of h) (raw_of h) in
    let d = ap (count_by is_reset) none in
    let g = ap (count_by is_reset) (ap (λ (d : List ℕ). d ++ more_served (raw_of h) b) none ∙ none_at_lf (raw_of h) b e) in omega arith
scanned_resets b h false e none was =
    let l = resets_byte (cut_of h) (raw_of h) b in
    let n = count_resets (resets_there (cut_of h) (raw_of h)) (more_served (raw_of h) b) in
    let d = ap (count_by is_reset) none in
    let g = ap (λ (d : List ℕ). count_by is_reset (d ++ more_served (raw_of h) b)) none in omega arith

-- those scanned are raised, or due
resets_are : (room : ℕ) (h : Journal) → Conducted room h → resets_there (cut_of h) (raw_of h) ≡ resets_of h + count_by is_reset (due_of h)
resets_are room [] c = none_there
resets_are room (at_port (dropped b) ∷ h) c = absurd c.0
resets_are room (at_port (raised b down) ∷ h) c =
    let d = due_by is_reset refl b (resumes_next h) (due_of h) (λ e. c.0.resumes e) (λ e. c.0.next e) in
    let o = one_reset (is_reset b) (resets_of h) in let i = resets_are room h c.1 in omega arith
resets_are room (at_port _ ∷ h) c = resets_are room h c.1
resets_are room (scanned b ∷ h) c = scanned_resets b h (nat_eq b 10) refl c.0.none_due (resets_are room h c.1)
resets_are room (line_over ∷ h) c = resets_line (cut_of h) (raw_of h) ∙ resets_are room h c.1
resets_are room (_ ∷ h) c = resets_are room h c.1

-- Where a journal stands, by how many marks, resets and Banners there were, how many resets are due, and how many lines of its epoch were
-- scanned: the text has so many lines since its last reset, none while that waits for its Banner.
record Placed (marks resets banners due now there : ℕ) : Type 0 where
  due_is : 0 < due → there ≡ 0
  late : 0 < marks → banners ≤ marks → there ≡ 0
  steady : (marks ≡ 0) ⊎ (banners ≡ marks + 1) → (due ≡ 0) ⊎ (marks ≡ resets + 1) → there ≡ now

abbrev PlacedIn : Journal → Type 0
PlacedIn h = Placed (length (marks_of h)) (resets_of h) (banners_of h) (count_by is_reset (due_of h)) (length (lines_now h)) (lines_there (cut_of h) (raw_of h))

placed_marked : (room : ℕ) (h : Journal) → Conducted room h → MayMark h → PlacedIn h → PlacedIn (at_port marked ∷ h)
placed_marked room h c may was = record {
  due_is = was.due_is;
  late = λ some few. was.due_is (let e = ap (count_by is_reset) may.next in let s = sum_by-cons (λ x. cond (is_reset x) 1 0) 0x18 (drop 1 (due_of h)) in omega arith);
  steady = λ s d. absurd (never s);
}
  where
    never : (length (marks_of (at_port marked ∷ h)) ≡ 0) ⊎ (banners_of (at_port marked ∷ h) ≡ length (marks_of (at_port marked ∷ h)) + 1) → ⊥
    never (inl none) = omega arith
    never (inr all) = let l = banners_low room h c in omega arith

placed_raised : (room : ℕ) (b : ℕ) (down : Bool) (h : Journal) → Conducted room h → MayRaise b h → PlacedIn h → PlacedIn (at_port (raised b down) ∷ h)
placed_raised room b down h c may was = record {
  due_is = λ some. was.due_is (let d = less in omega arith);
  late = was.late;
  steady = λ s d. by_reset (is_reset b) refl less s d;
}
  where
    less : count_by is_reset (due_of h) ≡ cond (is_reset b) 1 0 + count_by is_reset (due_of (at_port (raised b down) ∷ h))
    less = due_by is_reset refl b (resumes_next h) (due_of h) (λ e. may.resumes e) (λ e. may.next e)

    by_reset : (t : Bool) → is_reset b ≡ t → count_by is_reset (due_of h) ≡ cond t 1 0 + count_by is_reset (due_of (at_port (raised b down) ∷ h))
        → (length (marks_of h) ≡ 0) ⊎ (banners_of h ≡ length (marks_of h) + 1) → (count_by is_reset (due_of (at_port (raised b down) ∷ h)) ≡ 0) ⊎ (length (marks_of h) ≡ cond t (resets_of h + 1) (resets_of h) + 1)
        → lines_there (cut_of h) (raw_of h) ≡ length (lines_now h)
    by_reset true is e s d = was.steady s (inr (let m = may.behind_mark is in let w = (marks_between room h c).1 in omega arith))
    by_reset false is e s (inl none) = was.steady s (inl (omega arith))
    by_reset false is e s (inr one) = was.steady s (inr one)

placed_got : (room : ℕ) (r : Reply) (h : Journal) (t : Bool) → Conducted room (at_port (got r) ∷ h) → begins r (port_log h) ≡ t → PlacedIn h
    → Placed (length (marks_of h)) (resets_of h) (banners_of (at_port (got r) ∷ h)) (count_by is_reset (due_of h)) (length (cond t [] (lines_now h))) (lines_there (cut_of h) (raw_of h))
placed_got room r h true c is was = record { due_is = was.due_is; late = λ some few. none; steady = λ s d. none }
  where
    none : lines_there (cut_of h) (raw_of h) ≡ 0
    none =
        let b = (begins_at room r h _ c is (epoch_is room h c.1).stands).steady in
        let s = some_banner (latest_got (port_log h)) (both_true (is_banner r) (has_banner (latest_got (port_log h))) is).1 in was.late (omega arith) (omega arith)
placed_got room r h false c is was = record {
  due_is = was.due_is;
  late = λ some few. was.late some (let f = banners_first r (latest_got (port_log h)) in omega arith);
  steady = λ s d. was.steady (by_banner (is_banner r) refl (banners_first r (latest_got (port_log h))) s) d;
}
  where
    by_banner : (t : Bool) → is_banner r ≡ t → banners_of (at_port (got r) ∷ h) ≡ cond t 1 0 + banners_of h → (length (marks_of h) ≡ 0) ⊎ (banners_of (at_port (got r) ∷ h) ≡ length (marks_of h) + 1)
        → (length (marks_of h) ≡ 0) ⊎ (banners_of h ≡ length (marks_of h) + 1)
    by_banner t b f (inl none) = inl none
    by_banner true b f (inr all) = inl (let z = none_banner (latest_got (port_log h)) (sym (ap (λ t. t && has_banner (latest_got (port_log h))) b) ∙ is) in omega arith)
    by_banner false b f (inr all) = inr (omega arith)

module _ (room : ℕ) (h : Journal) (c : Conducted room h) (calm : awaits_banner h ≡ false) (none : due_of h ≡ []) (was : PlacedIn h) where
  same_marks : length (marks_of h) ≡ resets_of h
  same_marks = by_marks (marks_are room h c)
    where
      by_marks : IsMarked (length (marks_of h)) (resets_of h) (due_of h) → length (marks_of h) ≡ resets_of h
      by_marks (inl same) = same
      by_marks (inr more) = absurd (let e = sym none ∙ more.1 in cc)

  not_late : 0 < length (marks_of h) → banners_of h ≤ length (marks_of h) → ⊥
  not_late some few = absurd (let e = sym (lacks_one (length (marks_of h)) (resets_of h) (banners_of h) same_marks some few) ∙ calm in cc)

  none_due : count_by is_reset (due_of h) ≡ 0
  none_due = ap (count_by is_reset) none

  placed_line : (left : List ℕ) → left ≡ [] → Placed (length (marks_of h)) (resets_of h) (banners_of h) (count_by is_reset left) (length (lines_now h ++ raw_of h ∷ [])) (lines_there (cut_of h ++ raw_of h ∷ []) [])
  placed_line left gone = record {
    due_is = λ some. absurd (let g = ap (count_by is_reset) gone in omega arith);
    late = λ some few. absurd (not_late some few);
    steady = λ s d. (let w = was.steady s (inl none_due) in let l = lines_line (cut_of h) (raw_of h) in let a = length-append (lines_now h) (raw_of h ∷ []) in omega arith);
  }

  placed_byte : (b : ℕ) → Placed (length (marks_of h)) (resets_of h) (banners_of h) (count_by is_reset (due_of h ++ more_served (raw_of h) b)) (length (lines_now h)) (lines_there (cut_of h) (raw_of h ++ b ∷ []))
  placed_byte b = by_more (one_behind (lines_there (cut_of h) (raw_of h)) (more_served (raw_of h) b) (one_more (raw_of h) b)) (lines_byte (cut_of h) (raw_of h) b)
      (ap (λ (d : List ℕ). count_by is_reset (d ++ more_served (raw_of h) b)) none)
    where
      by_more : OneBehind (lines_there (cut_of h) (raw_of h)) (more_served (raw_of h) b) → lines_there (cut_of h) (raw_of h ++ b ∷ []) ≡ lines_behind (lines_there (cut_of h) (raw_of h)) (more_served (raw_of h) b)
          → count_by is_reset (due_of h ++ more_served (raw_of h) b) ≡ count_by is_reset (more_served (raw_of h) b)
          → Placed (length (marks_of h)) (resets_of h) (banners_of h) (count_by is_reset (due_of h ++ more_served (raw_of h) b)) (length (lines_now h)) (lines_there (cut_of h) (raw_of h ++ b ∷ []))
      by_more (inl reset) l d = record {
        due_is = λ some. (let z = reset.1 in omega arith);
        late = λ some few. (let z = reset.1 in omega arith);
        steady = λ s u. absurd (never u);
      }
        where
          never : (count_by is_reset (due_of h ++ more_served (raw_of h) b) ≡ 0) ⊎ (length (marks_of h) ≡ resets_of h + 1) → ⊥
          never (inl zero_due) = let o = reset.0 in omega arith
          never (inr one) = let m = same_marks in omega arith
      by_more (inr other) l d = record {
        due_is = λ some. absurd (let o = other.0 in omega arith);
        late = λ some few. absurd (not_late some few);
        steady = λ s u. (let w = was.steady s (inl none_due) in let o = other.1 in omega arith);
      }

placed_scanned : (room : ℕ) (b : ℕ) (h : Journal) (t : Bool) → Conducted room h → nat_eq b 10 ≡ t → MayScanNext b h → PlacedIn h
    → Placed (length (marks_of h)) (resets_of h) (banners_of h) (count_by is_reset (due_of h ++ more_served (raw_of h) b)) (length (cond t (lines_now h ++ raw_of h ∷ []) (lines_now h)))
    (lines_there (cond t (cut_of h ++ raw_of h ∷ []) (cut_of h)) (cond t [] (raw_of h ++ b ∷ [])))
placed_scanned room b h true c e may was =
    placed_line room h c may.epoch may.none_due was (due_of h ++ more_served (raw_of h) b) (ap (λ (d : List ℕ). d ++ more_served (raw_of h) b) may.none_due ∙ none_at_lf (raw_of h) b e)
placed_scanned room b h false c e may was = placed_byte room h c may.epoch may.none_due was b

placed_is : (room : ℕ) (h : Journal) → Conducted room h → PlacedIn h
placed_is room [] c = record { due_is = λ some. absurd (omega arith); late = λ some few. absurd (omega arith); steady = λ s d. none_lines }
placed_is room (at_port (dropped b) ∷ h) c = absurd c.0
placed_is room (at_port marked ∷ h) c = placed_marked room h c.1 c.0 (placed_is room h c.1)
placed_is room (at_port (raised b down) ∷ h) c = placed_raised room b down h c.1 c.0 (placed_is room h c.1)
placed_is room (at_port (got r) ∷ h) c = placed_got room r h (begins r (port_log h)) c refl (placed_is room h c.1)
placed_is room (at_port _ ∷ h) c = placed_is room h c.1
placed_is room (scanned b ∷ h) c = placed_scanned room b h (nat_eq b 10) c.1 refl c.0 (placed_is room h c.1)
placed_is room (line_over ∷ h) c = placed_line room h c.1 c.0.epoch c.0.none_due (placed_is room h c.1) (due_of h) c.0.none_due
placed_is room (_ ∷ h) c = placed_is room h c.1

-- behind as many answers as it got in it
pub now_answered : (h : Journal) → answers_behind_mark (latest_got (port_log h)) ≡ answers_in (got_now h)
now_answered [] = refl
now_answered (at_port (got r) ∷ h) = by_test (begins r (port_log h)) refl (now_answered h)
  where
    by_test : (t : Bool) → begins r (port_log h) ≡ t → answers_behind_mark (latest_got (port_log h)) ≡ answers_in (got_now h)
        → cond t 0 (cond (is_answer r) 1 0 + answers_behind_mark (latest_got (port_log h))) ≡ answers_in (cond t (r ∷ []) (got_now h ++ r ∷ []))
    by_test true e was = let n = ap (λ t. cond {A = ℕ} t 1 0) (begins_none r (port_log h) e) in let a = answers_first r [] in omega arith
    by_test false e was = let a = answers_on (got_now h) (r ∷ []) in let f = answers_first r [] in omega arith
now_answered (at_port _ ∷ h) = now_answered h
now_answered (_ ∷ h) = now_answered h

one_raised : (down t u v : Bool) (n due left all : ℕ) → due ≡ cond t 1 0 + left → (t ≡ true → u ≡ true → v ≡ true) → n + cond v due 0 ≤ all → (cond (down && (t && u)) 1 0 + n) + cond v left 0 ≤ all
one_raised false t u true n due left all e last le = omega arith
one_raised false t u false n due left all e last le = omega arith
one_raised true false u true n due left all e last le = omega arith
one_raised true false u false n due left all e last le = omega arith
one_raised true true false true n due left all e last le = omega arith
one_raised true true false false n due left all e last le = omega arith
one_raised true true true true n due left all e last le = omega arith
one_raised true true true false n due left all e last le = absurd (let v : false ≡ true = last refl refl in cc)

none_yet : (e k : ℕ) → AreIn e k 0 [] [] []
unfolding AreIn
none_yet e k = let n = no_due (nat_eq (resets_there [] []) e && nat_eq (lines_there [] []) k) [] refl in omega arith

-- ---- a `?` is raised where the text has come to

module _ (room : ℕ) (b : ℕ) (h : Journal) (c : Conducted room h) (may : MayRaise b h) (q : b ≡ query) where
  no_reset_due : count_by is_reset (due_of h) ≡ 0
  no_reset_due =
      let next = due_next room b h c may q in
      let e = ap (count_by is_reset) next in
      let s = sum_by-cons (λ x. cond (is_reset x) 1 0) b (drop 1 (due_of h)) in
      let n = ap (count_by is_reset) (one_due room h b c next) in
      let o = ap (λ x. cond {A = ℕ} (is_reset x) 1 0) q in omega arith

  resets_same : epoch_behind (latest_got (port_log h)) ≡ resets_there (cut_of h) (raw_of h)
  resets_same = let r = resets_begun room b h c may q (steady room b h c may q) in let a = resets_are room h c in let n = no_reset_due in omega arith

  lines_same : is_attended h ≡ false → answers_behind_mark (latest_got (port_log h)) ≡ lines_there (cut_of h) (raw_of h)
  lines_same alone =
      let p = (placed_is room h c).steady (steady room b h c may q) (inl no_reset_due) in
      let a = all_now room h c (may.after alone (ap waits_for_lines q)) in
      let n = now_answered h in omega arith

  place_is : is_attended h ≡ false → (e k : ℕ) → is_at e k (latest_got (port_log h)) ≡ (nat_eq (resets_there (cut_of h) (raw_of h)) e && nat_eq (lines_there (cut_of h) (raw_of h)) k)
  place_is alone e k = λ i. nat_eq (resets_same i) e && nat_eq (lines_same alone i) k

InLines : (e k : ℕ) → Journal → Type 0
InLines e k h = AreIn e k (raised_behind e k (port_log h)) (due_of h) (cut_of h) (raw_of h)

raised_in : (room : ℕ) (e k b : ℕ) (down : Bool) (h : Journal) → Conducted room h → is_attended h ≡ false → MayRaise b h → InLines e k h → InLines e k (at_port (raised b down) ∷ h)
unfolding InLines AreIn
raised_in room e k b down h c alone may was =
    one_raised down (nat_eq b query) (is_at e k (latest_got (port_log h))) (nat_eq (resets_there (cut_of h) (raw_of h)) e && nat_eq (lines_there (cut_of h) (raw_of h)) k)
    (raised_behind e k (port_log h)) (count_by is_query (due_of h)) _ _
    (due_by is_query refl b (resumes_next h) (due_of h) (λ x. may.resumes x) (λ x. may.next x))
    (λ t u. sym (place_is room b h c may (is_same b query t) alone e k) ∙ u) was

scanned_in : (e k b : ℕ) (h : Journal) (t : Bool) → nat_eq b 10 ≡ t → MayScanNext b h → InLines e k h
    → AreIn e k (raised_behind e k (port_log h)) (due_of h ++ more_served (raw_of h) b) (cond t (cut_of h ++ raw_of h ∷ []) (cut_of h)) (cond t [] (raw_of h ++ b ∷ []))
unfolding InLines
scanned_in e k b h true is may was =
    line_over_in e k (raised_behind e k (port_log h)) (due_of h) (due_of h ++ more_served (raw_of h) b) (cut_of h) (raw_of h) may.none_due
    (ap (λ (d : List ℕ). d ++ more_served (raw_of h) b) may.none_due ∙ none_at_lf (raw_of h) b is) was
scanned_in e k b h false is may was = byte_in e k (raised_behind e k (port_log h)) b (due_of h) (cut_of h) (raw_of h) may.none_due was

in_lines : (room : ℕ) (e k : ℕ) (h : Journal) → Conducted room h → is_attended h ≡ false → InLines e k h
unfolding InLines
in_lines room e k [] c alone = none_yet e k
in_lines room e k (at_port (dropped b) ∷ h) c alone = absurd c.0
in_lines room e k (at_port (raised b down) ∷ h) c alone = raised_in room e k b down h c.1 alone c.0 (in_lines room e k h c.1 alone)
in_lines room e k (at_port _ ∷ h) c alone = in_lines room e k h c.1 alone
in_lines room e k (scanned b ∷ h) c alone = scanned_in e k b h (nat_eq b 10) refl c.0 (in_lines room e k h c.1 alone)
in_lines room e k (line_over ∷ h) c alone = line_over_in e k (raised_behind e k (port_log h)) (due_of h) (due_of h) (cut_of h) (raw_of h) c.0.none_due c.0.none_due (in_lines room e k h c.1 alone)
in_lines room e k (attends ∷ h) c alone = absurd cc
in_lines room e k (_ ∷ h) c alone = in_lines room e k h c.1 alone

-- ---- by what was scanned

-- the lines of what was scanned, but for an empty one at the end
line_is : (e k : ℕ) (h : Journal) → IsCut h → queries_in e k 0 0 (cut_of h ++ raw_of h ∷ []) ≡ queries_in e k 0 0 (lines_of (scanned_of h))
line_is e k h (inl is) = by_raw (raw_of h) (sym (lines_are (scanned_of h) (cut_of h) (raw_of h) is))
  where
    by_raw : (raw : List ℕ) → cut_of h ++ cond (nat_lt 0 (length raw)) (raw ∷ []) [] ≡ lines_of (scanned_of h) → queries_in e k 0 0 (cut_of h ++ raw ∷ []) ≡ queries_in e k 0 0 (lines_of (scanned_of h))
    by_raw [] f = line_more e k (cut_of h) ∙ ap (queries_in e k 0 0) (sym (append-nil (cut_of h)) ∙ f)
    by_raw (x ∷ xs) f = ap (queries_in e k 0 0) (ap (λ t. cut_of h ++ cond t ((x ∷ xs) ∷ []) []) (sym (some_bytes x xs)) ∙ f)
line_is e k h (inr over) =
    ap (λ (raw : List ℕ). queries_in e k 0 0 (cut_of h ++ raw ∷ [])) over.none ∙ line_more e k (cut_of h) ∙ ap (queries_in e k 0 0) (sym over.whole)

-- in epoch e, behind k answers of it, `?` was raised no more often than it stands there
pub raised_in_lines : (room : ℕ) (h : Journal) → Conducted room h → is_attended h ≡ false → (e k : ℕ) → raised_behind e k (port_log h) ≤ queries_in e k 0 0 (lines_of (scanned_of h))
unfolding InLines AreIn
raised_in_lines room h c alone e k = let i = in_lines room e k h c alone in let l = line_is e k h (cut_is room h c) in omega arith
