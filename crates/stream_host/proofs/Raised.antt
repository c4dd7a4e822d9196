-- Resets that are raised: what waits for their Banners, and the marks before them.
use Rattle.std.proofs.Common.{◌≡◌, ℕ, ◌+◌, ◌≤◌, ◌⊎◌, ◌&&◌, inl, inr, Bool, true, false, cond, List, [], ◌∷◌, ◌++◌, length, drop, nat_lt, nat_le, refl, sym, ap, ◌∙◌, arith, length-append}
use Rattle.std.proofs.lemmas.Bool.Decides.{nat_tests}
use Rattle.std.proofs.lemmas.List.{nil_from_length, length-drop}
use Rattle.status_report.specs.declared.Reply.{Reply}
use Rattle.status_report.specs.Answering.{is_banner}
use Rattle.status_report.proofs.Banners.{banners_first}
use Rattle.serial_ring.specs.Marks.{Mark, latest, last_of, IsMark, Follows, AreRising}
use Rattle.host_journal.specs.Links.{AreGreetings}
use Rattle.host_journal.specs.Jobs.{resume, is_reset}
use Rattle.host_journal.specs.Steps.{HostLog, Journal, port_log, stored_in, latest_got, marks_in, marks_at_banners, marks_of, resets_of, banners_of, awaits_banner, scanned_of, raw_of, to_store, due_of, more_served, resumes_next, is_shut, has_limit, got_of}
use Rattle.host_journal.specs.Steps.PortStep.{stored, dropped, marked, raised, got, no_reply, shut}
use Rattle.host_journal.specs.Steps.Step.{at_port, read_some, read_end, read_failed, scanned, line_over, wrote, gave_up, turned, attends}
use Rattle.stream_host.specs.Conduct.{Conducted, MayMark, MayRaise}
use Rattle.stream_host.proofs.Keeping.{calm_before}
use Rattle.stream_host.proofs.Raising.{none_due_shut, calm_is, one_more, still_none}

-- ---- the byte that is due

few_cond : (t : Bool) (due : List ℕ) → length due ≤ 1 → length (cond t due (drop 1 due)) ≤ 1
few_cond true due few = few
few_cond false due few = let l = length-drop 1 due in omega arith

pub few_due : (room : ℕ) (h : Journal) → Conducted room h → length (due_of h) ≤ 1
few_due room [] c = omega arith
few_due room (at_port (stored b) ∷ h) c = few_due room h c.1
few_due room (at_port (dropped b) ∷ h) c = absurd c.0
few_due room (at_port marked ∷ h) c = few_due room h c.1
few_due room (at_port (raised b down) ∷ h) c = few_cond (resumes_next h) (due_of h) (few_due room h c.1)
few_due room (at_port (got r) ∷ h) c = few_due room h c.1
few_due room (at_port no_reply ∷ h) c = few_due room h c.1
few_due room (at_port shut ∷ h) c = few_due room h c.1
few_due room (read_some bytes ∷ h) c = few_due room h c.1
few_due room (read_end ∷ h) c = few_due room h c.1
few_due room (read_failed ∷ h) c = few_due room h c.1
few_due room (scanned b ∷ h) c = let o = one_more (raw_of h) b in let e = ap (λ (d : List ℕ). length (d ++ more_served (raw_of h) b)) c.0.none_due in omega arith
few_due room (line_over ∷ h) c = few_due room h c.1
few_due room (wrote n ∷ h) c = few_due room h c.1
few_due room (gave_up ∷ h) c = few_due room h c.1
few_due room (turned t ∷ h) c = few_due room h c.1
few_due room (attends ∷ h) c = few_due room h c.1

pub one_due : (room : ℕ) (h : Journal) (b : ℕ) → Conducted room h → due_of h ≡ b ∷ drop 1 (due_of h) → drop 1 (due_of h) ≡ []
one_due room h b c next = nil_from_length (drop 1 (due_of h)) (let f = few_due room h c in let l = ap length next in omega arith)

pub free_by : (room : ℕ) (h : Journal) (b : ℕ) → Conducted room h → due_of h ≡ b ∷ drop 1 (due_of h) → to_store h ≡ []
free_by room h b c next = elim (calm_is room h c) [
  | inl free ↦ free
  | inr none ↦ absurd (let e = sym none ∙ next in cc)
]

-- a reset that is raised is the byte that was due
reset_due : (room : ℕ) (b : ℕ) (h : Journal) → Conducted room h → MayRaise b h → is_reset b ≡ true → (t : Bool) → resumes_next h ≡ t
    → (due_of h ≡ b ∷ drop 1 (due_of h)) × (cond t (due_of h) (drop 1 (due_of h)) ≡ [])
reset_due room b h c may reset true e = absurd (let r = may.resumes e in let f = sym reset ∙ ap is_reset r in cc)
reset_due room b h c may reset false e = let next = may.next e in (next, one_due room h b c next)

-- ---- a Banner is awaited

pub both : (t : Bool) {A : Type 0} → t ≡ true → t ≡ false → A
both t e f = absurd (let g = sym e ∙ f in cc)

pub record IsWaiting (h : Journal) : Type 0 where
  pub free : to_store h ≡ []
  pub none_due : due_of h ≡ []

pub awaits_on : (resets was is : ℕ) → was ≤ is → (nat_lt 0 resets && nat_le is resets) ≡ true → (nat_lt 0 resets && nat_le was resets) ≡ true
awaits_on resets was is more e = by_tests (nat_lt 0 resets) (nat_le is resets) (nat_le was resets) refl refl e
  where
    by_tests : (t u v : Bool) → nat_le is resets ≡ u → nat_le was resets ≡ v → (t && u) ≡ true → (t && v) ≡ true
    by_tests true true true f g e = refl
    by_tests true true false f g e = absurd (grind (arith, nat_tests))
    by_tests true false v f g e = absurd cc
    by_tests false u v f g e = absurd cc

raised_waiting : (room : ℕ) (b : ℕ) (down : Bool) (h : Journal) → Conducted room h → MayRaise b h → (awaits_banner h ≡ true → IsWaiting h) → (t : Bool) → is_reset b ≡ t
    → awaits_banner (at_port (raised b down) ∷ h) ≡ true → IsWaiting (at_port (raised b down) ∷ h)
raised_waiting room b down h c may was true is e =
    let due = reset_due room b h c may is (resumes_next h) refl in
    record { free = free_by room h b c due.0; none_due = due.1 }
raised_waiting room b down h c may was false is e =
    let w = was (ap (λ t. nat_lt 0 (cond t (resets_of h + 1) (resets_of h)) && nat_le (banners_of h) (cond t (resets_of h + 1) (resets_of h))) (sym is) ∙ e) in
    record { free = w.free; none_due = still_none (resumes_next h) (due_of h) w.none_due }

-- where one is, nothing is to be stored, and nothing to be raised
pub waiting_is : (room : ℕ) (h : Journal) → Conducted room h → awaits_banner h ≡ true → IsWaiting h
waiting_is room [] c e = absurd cc
waiting_is room (at_port (stored b) ∷ h) c e = both (awaits_banner h) e c.0.epoch
waiting_is room (at_port (dropped b) ∷ h) c e = absurd c.0
waiting_is room (at_port marked ∷ h) c e = absurd (let w = waiting_is room h c.1 e in let f = sym w.none_due ∙ c.0.next in cc)
waiting_is room (at_port (raised b down) ∷ h) c e = raised_waiting room b down h c.1 c.0 (waiting_is room h c.1) (is_reset b) refl e
waiting_is room (at_port (got r) ∷ h) c e =
    let w = waiting_is room h c.1 (awaits_on (resets_of h) (banners_of h) (banners_of (at_port (got r) ∷ h)) (let f = banners_first r (latest_got (port_log h)) in omega arith) e) in
    record { free = w.free; none_due = w.none_due }
waiting_is room (at_port no_reply ∷ h) c e = let w = waiting_is room h c.1 e in record { free = w.free; none_due = w.none_due }
waiting_is room (at_port shut ∷ h) c e = both (awaits_banner h) e c.0.epoch
waiting_is room (read_some bytes ∷ h) c e = both (awaits_banner h) e c.0.0.epoch
waiting_is room (read_end ∷ h) c e = both (awaits_banner h) e c.0.epoch
waiting_is room (read_failed ∷ h) c e = both (awaits_banner h) e c.0.epoch
waiting_is room (scanned b ∷ h) c e = both (awaits_banner h) e c.0.epoch
waiting_is room (line_over ∷ h) c e = both (awaits_banner h) e c.0.epoch
waiting_is room (wrote n ∷ h) c e = let w = waiting_is room h c.1 e in record { free = w.free; none_due = w.none_due }
waiting_is room (gave_up ∷ h) c e = let w = waiting_is room h c.1 e in record { free = w.free; none_due = w.none_due }
waiting_is room (turned t ∷ h) c e = let w = waiting_is room h c.1 e in record { free = w.free; none_due = w.none_due }
waiting_is room (attends ∷ h) c e = let w = waiting_is room h c.1 e in record { free = w.free; none_due = w.none_due }

-- a link that is closed awaits none, where no alarm was got
raised_calm : (room : ℕ) (b : ℕ) (h : Journal) → Conducted room h → MayRaise b h → due_of h ≡ [] → awaits_banner h ≡ false → (t : Bool) → is_reset b ≡ t
    → (nat_lt 0 (cond t (resets_of h + 1) (resets_of h)) && nat_le (banners_of h) (cond t (resets_of h + 1) (resets_of h))) ≡ false
raised_calm room b h c may none calm true is = absurd (let due = reset_due room b h c may is (resumes_next h) refl in let e = sym none ∙ due.0 in cc)
raised_calm room b h c may none calm false is = calm

got_calm : (r : Reply) (h : Journal) → awaits_banner h ≡ false → (t : Bool) → awaits_banner (at_port (got r) ∷ h) ≡ t → t ≡ false
got_calm r h calm false e = refl
got_calm r h calm true e = both (awaits_banner h) (awaits_on (resets_of h) (banners_of h) (banners_of (at_port (got r) ∷ h)) (let f = banners_first r (latest_got (port_log h)) in omega arith) e) calm

pub calm_shut : (room : ℕ) (h : Journal) → Conducted room h → is_shut h ≡ true → has_limit h ≡ false → awaits_banner h ≡ false
calm_shut room [] c e calm = absurd cc
calm_shut room (at_port (stored b) ∷ h) c e calm = c.0.epoch
calm_shut room (at_port (dropped b) ∷ h) c e calm = absurd c.0
calm_shut room (at_port marked ∷ h) c e calm = calm_shut room h c.1 e calm
calm_shut room (at_port (raised b down) ∷ h) c e calm = raised_calm room b h c.1 c.0 (none_due_shut room h c.1 e calm) (calm_shut room h c.1 e calm) (is_reset b) refl
calm_shut room (at_port (got r) ∷ h) c e calm = got_calm r h (calm_shut room h c.1 e (calm_before (got_of h) r calm)) (awaits_banner (at_port (got r) ∷ h)) refl
calm_shut room (at_port no_reply ∷ h) c e calm = calm_shut room h c.1 e calm
calm_shut room (at_port shut ∷ h) c e calm = c.0.epoch
calm_shut room (read_some bytes ∷ h) c e calm = c.0.0.epoch
calm_shut room (read_end ∷ h) c e calm = c.0.epoch
calm_shut room (read_failed ∷ h) c e calm = c.0.epoch
calm_shut room (scanned b ∷ h) c e calm = c.0.epoch
calm_shut room (line_over ∷ h) c e calm = c.0.epoch
calm_shut room (wrote n ∷ h) c e calm = calm_shut room h c.1 e calm
calm_shut room (gave_up ∷ h) c e calm = calm_shut room h c.1 e calm
calm_shut room (turned t ∷ h) c e calm = calm_shut room h c.1 e calm
calm_shut room (attends ∷ h) c e calm = calm_shut room h c.1 e calm

-- ---- the marks

-- as many marks are stored as resets raised, or one more, for the reset that is due
abbrev pub IsMarked : ℕ → ℕ → List ℕ → Type 0
IsMarked marks resets due = (marks ≡ resets) ⊎ ((marks ≡ resets + 1) × (due ≡ 0x18 ∷ []))

raised_marked : (room : ℕ) (b : ℕ) (h : Journal) → Conducted room h → MayRaise b h → (t : Bool) → is_reset b ≡ t → (u : Bool) → resumes_next h ≡ u
    → IsMarked (length (marks_of h)) (resets_of h) (due_of h) → IsMarked (length (marks_of h)) (cond t (resets_of h + 1) (resets_of h)) (cond u (due_of h) (drop 1 (due_of h)))
raised_marked room b h c may true is u e (inl same) = absurd (let m = may.behind_mark is in omega arith)
raised_marked room b h c may true is u e (inr more) = inl more.0
raised_marked room b h c may false is u e (inl same) = inl same
raised_marked room b h c may false is true e (inr more) = inr more
raised_marked room b h c may false is false e (inr more) =
    let next = may.next e in
    absurd (let s : 0x18 ≡ b = (let f = sym more.1 ∙ next in cc) in let g = ap is_reset s ∙ is in cc)

scanned_marked : (h : Journal) (due : List ℕ) → due_of h ≡ [] → IsMarked (length (marks_of h)) (resets_of h) (due_of h) → IsMarked (length (marks_of h)) (resets_of h) due
scanned_marked h due none (inl same) = inl same
scanned_marked h due none (inr more) = absurd (let e = sym none ∙ more.1 in cc)

pub marks_are : (room : ℕ) (h : Journal) → Conducted room h → IsMarked (length (marks_of h)) (resets_of h) (due_of h)
marks_are room [] c = inl refl
marks_are room (at_port (stored b) ∷ h) c = marks_are room h c.1
marks_are room (at_port (dropped b) ∷ h) c = absurd c.0
marks_are room (at_port marked ∷ h) c =
    let f = c.0.fresh in
    inr ((omega arith), c.0.next ∙ ap (λ (t : List ℕ). 0x18 ∷ t) (one_due room h 0x18 c.1 c.0.next))
marks_are room (at_port (raised b down) ∷ h) c = raised_marked room b h c.1 c.0 (is_reset b) refl (resumes_next h) refl (marks_are room h c.1)
marks_are room (at_port (got r) ∷ h) c = marks_are room h c.1
marks_are room (at_port no_reply ∷ h) c = marks_are room h c.1
marks_are room (at_port shut ∷ h) c = marks_are room h c.1
marks_are room (read_some bytes ∷ h) c = marks_are room h c.1
marks_are room (read_end ∷ h) c = marks_are room h c.1
marks_are room (read_failed ∷ h) c = marks_are room h c.1
marks_are room (scanned b ∷ h) c = scanned_marked h (due_of (scanned b ∷ h)) c.0.none_due (marks_are room h c.1)
marks_are room (line_over ∷ h) c = marks_are room h c.1
marks_are room (wrote n ∷ h) c = marks_are room h c.1
marks_are room (gave_up ∷ h) c = marks_are room h c.1
marks_are room (turned t ∷ h) c = marks_are room h c.1
marks_are room (attends ∷ h) c = marks_are room h c.1

reset_by : (b n all : ℕ) (resumes t : Bool) (due : List ℕ) → is_reset b ≡ t → (resumes ≡ true → b ≡ resume) → (resumes ≡ false → due ≡ b ∷ drop 1 due) → n + length due ≤ all
    → cond t (n + 1) n + length (cond resumes due (drop 1 due)) ≤ all
reset_by b n all true true due is tired next was = absurd (let e = ap is_reset (tired refl) in let g = sym is ∙ e in cc)
reset_by b n all true false due is tired next was = was
reset_by b n all false true due is tired next was = let l = ap length (next refl) in omega arith
reset_by b n all false false due is tired next was = let l = ap length (next refl) in omega arith

-- each reset that is raised is scanned, and so is what is due
pub few_resets : (room : ℕ) (h : Journal) → Conducted room h → resets_of h + length (due_of h) ≤ length (scanned_of h)
few_resets room [] c = omega arith
few_resets room (at_port (stored b) ∷ h) c = few_resets room h c.1
few_resets room (at_port (dropped b) ∷ h) c = absurd c.0
few_resets room (at_port marked ∷ h) c = few_resets room h c.1
few_resets room (at_port (raised b down) ∷ h) c =
    reset_by b (resets_of h) (length (scanned_of h)) (resumes_next h) (is_reset b) (due_of h) refl
    (λ e. c.0.resumes e) (λ e. c.0.next e) (few_resets room h c.1)
few_resets room (at_port (got r) ∷ h) c = few_resets room h c.1
few_resets room (at_port no_reply ∷ h) c = few_resets room h c.1
few_resets room (at_port shut ∷ h) c = few_resets room h c.1
few_resets room (read_some bytes ∷ h) c = few_resets room h c.1
few_resets room (read_end ∷ h) c = few_resets room h c.1
few_resets room (read_failed ∷ h) c = few_resets room h c.1
few_resets room (scanned b ∷ h) c =
    let m = few_resets room h c.1 in let o = one_more (raw_of h) b in
    let a = length-append (due_of h) (more_served (raw_of h) b) in let s = length-append (scanned_of h) (b ∷ []) in omega arith
few_resets room (line_over ∷ h) c = few_resets room h c.1
few_resets room (wrote n ∷ h) c = few_resets room h c.1
few_resets room (gave_up ∷ h) c = few_resets room h c.1
few_resets room (turned t ∷ h) c = few_resets room h c.1
few_resets room (attends ∷ h) c = few_resets room h c.1

-- a mark is stored only where no Banner is awaited
pub fresh_calm : (room : ℕ) (h : Journal) → Conducted room h → MayMark h → awaits_banner h ≡ false
fresh_calm room h c may = by_test (awaits_banner h) refl
  where
    by_test : (t : Bool) → awaits_banner h ≡ t → t ≡ false
    by_test false e = refl
    by_test true e = absurd (let w = waiting_is room h c e in let f = sym w.none_due ∙ may.next in cc)

-- ---- the marks of the Banners got

-- marks of Banners, the latest first: the start, and then some of these marks, each behind the one before it
abbrev pub AreStored : List ℕ → List Mark → Type 0
AreStored marks [] = Unit {0}
AreStored marks (m ∷ earlier) = Follows marks earlier m × AreStored marks earlier

more_stored : (bytes : ℕ) (marks : List ℕ) (greeted : List Mark) → AreStored marks greeted → AreStored (bytes ∷ marks) greeted
more_stored bytes marks [] are = tt
more_stored bytes marks (m ∷ []) are = are
more_stored bytes marks (m ∷ before ∷ earlier) are = ((are.0.0, inr are.0.1), more_stored bytes marks (before ∷ earlier) are.1)

-- those of the Banners got are some of the marks stored so far
pub stored_so_far : (h : HostLog) (greeted : List Mark) → AreGreetings (marks_at_banners h) greeted → AreStored (marks_in h) greeted
stored_so_far [] [] are = tt
stored_so_far [] (m ∷ earlier) are = absurd are
stored_so_far (marked ∷ h) greeted are = more_stored (length (stored_in h)) (marks_in h) greeted (stored_so_far h greeted are)
stored_so_far (got r ∷ h) greeted are = by_banner (is_banner r) greeted (stored_so_far h) are
  where
    by_banner : (t : Bool) (all : List Mark) → ((some : List Mark) → AreGreetings (marks_at_banners h) some → AreStored (marks_in h) some)
        → AreGreetings (cond t (marks_in h ∷ marks_at_banners h) (marks_at_banners h)) all → AreStored (marks_in h) all
    by_banner true [] before are = absurd are
    by_banner true (m ∷ earlier) before are = (are.0, before earlier are.1)
    by_banner false all before are = before all are
stored_so_far (_ ∷ h) greeted are = stored_so_far h greeted are

numbers : (marks : List ℕ) (greeted : List Mark) → AreStored marks greeted → length greeted ≤ (last_of greeted).0 + 1
numbers marks [] are = omega arith
numbers marks (m ∷ []) are = omega arith
numbers marks (m ∷ before ∷ earlier) are = let n = numbers marks (before ∷ earlier) are.1 in let f = are.0.0 in omega arith

pub low_mark : (marks : List ℕ) (m : Mark) → IsMark marks m → m.0 ≤ length marks
low_mark [] m is = let e = ap (λ (k : Mark). k.0) is in omega arith
low_mark (b ∷ earlier) m (inl is) = let e = ap (λ (k : Mark). k.0) is in omega arith
low_mark (b ∷ earlier) m (inr is) = let l = low_mark earlier m is in omega arith

low_greeted : (marks : List ℕ) (greeted : List Mark) → AreStored marks greeted → (last_of greeted).0 ≤ length marks
low_greeted marks [] are = omega arith
low_greeted marks (m ∷ []) are = let e = ap (λ (k : Mark). k.0) are.0 in omega arith
low_greeted marks (m ∷ before ∷ earlier) are = low_mark marks m are.0.1

last_mark : (marks : List ℕ) (m : Mark) → IsMark marks m → m.0 ≡ length marks → m.1 ≡ latest marks
last_mark [] m is e = ap (λ (k : Mark). k.1) is
last_mark (b ∷ earlier) m (inl is) e = ap (λ (k : Mark). k.1) is
last_mark (b ∷ earlier) m (inr is) e = absurd (let l = low_mark earlier m is in omega arith)

-- where as many were got as there are marks, and one, the last is of the latest mark
pub last_greeted : (marks : List ℕ) (greeted : List Mark) → AreStored marks greeted → (length marks ≡ 0) ⊎ (length greeted ≡ length marks + 1) → (last_of greeted).1 ≡ latest marks
last_greeted [] [] are some = refl
last_greeted [] (m ∷ []) are some = ap (λ (k : Mark). k.1) are.0
last_greeted [] (m ∷ before ∷ earlier) are some = ap (λ (k : Mark). k.1) are.0.1
last_greeted (b ∷ marks) greeted are (inl none) = absurd (omega arith)
last_greeted (b ∷ marks) [] are (inr all) = absurd (omega arith)
last_greeted (b ∷ marks) (m ∷ []) are (inr all) = absurd (omega arith)
last_greeted (b ∷ marks) (m ∷ before ∷ earlier) are (inr all) =
    let n = numbers (b ∷ marks) (m ∷ before ∷ earlier) are in let l = low_mark (b ∷ marks) m are.0.1 in
    last_mark (b ∷ marks) m are.0.1 (omega arith)

early_mark : (marks : List ℕ) (m : Mark) → AreRising marks → IsMark marks m → length marks ≤ m.0 + 1 → latest (drop 1 marks) ≤ m.1
early_mark [] m rising is many = omega arith
early_mark (b ∷ earlier) m rising (inl is) many = let e = ap (λ (k : Mark). k.1) is in let r = rising.0 in omega arith
early_mark (b ∷ earlier) m rising (inr is) many =
    let l = low_mark earlier m is in let e = last_mark earlier m is (omega arith) in omega arith

-- where one Banner is awaited, the last that was got is of the mark before the latest, or the latest itself
pub early_greeted : (marks : List ℕ) (greeted : List Mark) → AreRising marks → AreStored marks greeted → (length marks ≤ length greeted) ⊎ (length marks ≤ 1) → latest (drop 1 marks) ≤ (last_of greeted).1
early_greeted [] greeted rising are some = omega arith
early_greeted (b ∷ []) greeted rising are some = omega arith
early_greeted (b ∷ a ∷ marks) greeted rising are (inr few) = absurd (omega arith)
early_greeted (b ∷ a ∷ marks) [] rising are (inl many) = absurd (omega arith)
early_greeted (b ∷ a ∷ marks) (m ∷ []) rising are (inl many) = absurd (omega arith)
early_greeted (b ∷ a ∷ marks) (m ∷ before ∷ earlier) rising are (inl many) =
    let n = numbers (b ∷ a ∷ marks) (m ∷ before ∷ earlier) are in
    early_mark (b ∷ a ∷ marks) m rising are.0.1 (omega arith)

pub rising_is : (h : HostLog) → AreRising (marks_in h) × (latest (marks_in h) ≤ length (stored_in h))
rising_is [] = (tt, omega arith)
rising_is (stored b ∷ h) = let r = rising_is h in (r.0, (let l = length-append (stored_in h) (b ∷ []) in let n = r.1 in omega arith))
rising_is (marked ∷ h) = let r = rising_is h in ((r.1, r.0), omega arith)
rising_is (_ ∷ h) = rising_is h

-- no more Banners are got than marks were stored, and one
pub banners_low : (room : ℕ) (h : Journal) → Conducted room h → banners_of h ≤ length (marks_of h) + 1
banners_low room [] c = omega arith
banners_low room (at_port (stored b) ∷ h) c = banners_low room h c.1
banners_low room (at_port (dropped b) ∷ h) c = absurd c.0
banners_low room (at_port marked ∷ h) c = let m = banners_low room h c.1 in omega arith
banners_low room (at_port (raised b down) ∷ h) c = banners_low room h c.1
banners_low room (at_port (got r) ∷ h) c =
    let p = c.0.lines in let are = stored_so_far (got r ∷ port_log h) p.greeted p.are.stored in
    let n = numbers (marks_of h) p.greeted are in let l = low_greeted (marks_of h) p.greeted are in let e = p.are.each in omega arith
banners_low room (at_port no_reply ∷ h) c = banners_low room h c.1
banners_low room (at_port shut ∷ h) c = banners_low room h c.1
banners_low room (read_some bytes ∷ h) c = banners_low room h c.1
banners_low room (read_end ∷ h) c = banners_low room h c.1
banners_low room (read_failed ∷ h) c = banners_low room h c.1
banners_low room (scanned b ∷ h) c = banners_low room h c.1
banners_low room (line_over ∷ h) c = banners_low room h c.1
banners_low room (wrote n ∷ h) c = banners_low room h c.1
banners_low room (gave_up ∷ h) c = banners_low room h c.1
banners_low room (turned t ∷ h) c = banners_low room h c.1
banners_low room (attends ∷ h) c = banners_low room h c.1
