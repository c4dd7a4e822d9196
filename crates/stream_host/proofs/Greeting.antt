-- The marks of the Banners that a host got, in order.
use Rattle.std.proofs.Common.{◌≡◌, ℕ, zero, suc, ◌+◌, ◌≤◌, ◌<◌, ◌⊎◌, inl, inr, Bool, true, false, cond, List, [], ◌∷◌, ◌++◌, length, refl, sym, ap, ◌∙◌, arith, subst, length-append}
use Rattle.status_report.specs.Answering.{is_banner, banners_in}
use Rattle.status_report.proofs.Banners.{banners_first}
use Rattle.serial_ring.specs.declared.view.LinkStep.{LinkStep}
use Rattle.serial_ring.specs.declared.view.LinkStep.TheVariants.{Took, Marked, Answered}
use Rattle.serial_ring.specs.Logs.{AnswersWell, marked_in, greeted_in, next_mark}
use Rattle.serial_ring.specs.Marks.{Mark, start, IsMark, AreMarks, Follows}
use Rattle.serial_ring.proofs.Logs.{next_follows}
use Rattle.host_journal.specs.Links.{AreGreetings, AreInOrder, numbered}
use Rattle.host_journal.specs.Ports.{AreGreeted, PortsAgree}
use Rattle.host_journal.specs.Steps.{HostLog, Journal, port_log, stored_of, latest_got, marks_in, marks_at_banners, marks_of, banners_of, to_store}
use Rattle.host_journal.specs.Steps.PortStep.{stored, dropped, marked, raised, got, no_reply, shut}
use Rattle.host_journal.specs.Steps.Step.{at_port, read_some, read_end, read_failed, scanned, line_over, wrote, gave_up, turned, attends}
use Rattle.stream_host.specs.Conduct.{Conducted}
use Rattle.stream_host.proofs.Raised.{AreStored, low_mark}
use Rattle.stream_host.proofs.Epochs.{Stands, epoch_is}

-- ---- the next mark

-- some marks are the first of the start and those stored
abbrev pub AreFirst : List ℕ → List Mark → Type 0
AreFirst marks greeted = (waiting : List Mark) × (numbered marks ≡ waiting ++ greeted)

count : (marks : List ℕ) → length (numbered marks) ≡ length marks + 1
count [] = refl
count (bytes ∷ earlier) = let n = count earlier in omega arith

start_first : (marks : List ℕ) → AreFirst marks (start ∷ [])
start_first [] = ([], refl)
start_first (bytes ∷ earlier) = let s = start_first earlier in ((length earlier + 1, bytes) ∷ s.0, ap (λ (ms : List Mark). (length earlier + 1, bytes) ∷ ms) s.1)

-- the latest of them has their number
latest_number : (marks : List ℕ) (m : Mark) (rest : List Mark) → numbered marks ≡ m ∷ rest → m.0 ≡ length marks
latest_number [] m rest e = let same : start ≡ m = cc in ap (λ (k : Mark). k.0) (sym same)
latest_number (bytes ∷ earlier) m rest e =
    let same : (length earlier + 1, bytes) ≡ m = cc in let n = ap (λ (k : Mark). k.0) (sym same) in omega arith

-- where one mark at most waits, a later Banner is of that one
behind_another : (marks : List ℕ) (waiting : List Mark) (before : Mark) (earlier : List Mark) (m : Mark) → numbered marks ≡ waiting ++ before ∷ earlier → length waiting ≤ 1
    → before.0 < m.0 → IsMark marks m → AreFirst marks (m ∷ before ∷ earlier)
behind_another marks [] before earlier m e few later is = absurd (let n = latest_number marks before earlier e in let l = low_mark marks m is in omega arith)
behind_another [] (x ∷ []) before earlier m e few later is = absurd (let l = ap length e in omega arith)
behind_another (bytes ∷ marks) (x ∷ []) before earlier m e few later (inl is) =
    let rest : numbered marks ≡ before ∷ earlier = cc in ([], (λ i. sym is i ∷ rest i))
behind_another (bytes ∷ marks) (x ∷ []) before earlier m e few later (inr is) =
    let rest : numbered marks ≡ before ∷ earlier = cc in
    absurd (let n = latest_number marks before earlier rest in let l = low_mark marks m is in omega arith)
behind_another marks (x ∷ y ∷ waiting) before earlier m e few later is = absurd (omega arith)

next_first : (marks : List ℕ) (earlier : List Mark) (m : Mark) → AreFirst marks earlier → (0 < length earlier → length marks ≤ length earlier) → Follows marks earlier m → AreFirst marks (m ∷ earlier)
next_first marks [] m first few is = let s = start_first marks in (s.0, s.1 ∙ ap (λ (k : Mark). s.0 ++ k ∷ []) (sym is))
next_first marks (before ∷ earlier) m first few is =
    let n = ap length first.1 ∙ length-append first.0 (before ∷ earlier) in let c = count marks in let f = few (omega arith) in
    behind_another marks first.0 before earlier m first.1 (omega arith) is.0 is.1

-- ---- the marks with which a board has answered its Banners

pub answered_stored : (marks : List ℕ) (l : List LinkStep) → AreMarks marks (marked_in l) → AnswersWell l → AreStored marks (greeted_in l)
answered_stored marks [] are well = tt
answered_stored marks (Took b ∷ l) are well = answered_stored marks l are well
answered_stored marks (Marked n bytes ∷ l) are well = answered_stored marks l are.1 well
answered_stored marks (Answered r ∷ l) are well = by_banner (is_banner r) refl (answered_stored marks l are well.1)
  where
    by_banner : (t : Bool) → is_banner r ≡ t → AreStored marks (greeted_in l) → AreStored marks (cond t (next_mark l ∷ greeted_in l) (greeted_in l))
    by_banner true is before = (next_follows marks l r are well.0 is, before)
    by_banner false is before = before

-- behind the first Banner one mark at most has none
abbrev pub LacksOne : List ℕ → ℕ → Type 0
LacksOne marks banners = (length marks ≤ banners) ⊎ ((banners ≡ 0) × (length marks ≤ 1))

-- so each later one is of the next
all_first : (marks : List ℕ) (greeted : List Mark) → LacksOne marks (length greeted) → AreFirst marks greeted → (more : List Mark) → AreStored marks (more ++ greeted) → AreFirst marks (more ++ greeted)
all_first marks greeted few first [] are = first
all_first marks greeted few first (m ∷ more) are =
    let l = length-append more greeted in
    next_first marks (more ++ greeted) m (all_first marks greeted few first more are.1) (λ some. elim few [
      | inl many ↦ omega arith
      | inr none ↦ let f = none.1 in omega arith
    ]) are.0

in_order : (marks : List ℕ) (greeted : List Mark) → LacksOne marks (length greeted) → AreFirst marks greeted → AreInOrder marks greeted
in_order marks greeted few first =
    let n = ap length first.1 ∙ length-append first.0 greeted in let k = count marks in
    record {
      waiting = first.0;
      are = first.1;
      few = elim few [
        | inl many ↦ inl (omega arith)
        | inr none ↦ inr (nothing greeted none.0, none.1)
      ];
    }
  where
    nothing : (ms : List Mark) → length ms ≡ 0 → ms ≡ []
    nothing [] none = refl
    nothing (m ∷ ms) none = absurd (omega arith)

-- ---- through a journal

few_marks : (room : ℕ) (h : Journal) → Conducted room h → LacksOne (marks_of h) (banners_of h)
few_marks room h c = by_stands (epoch_is room h c).stands
  where
    by_count : length (marks_of h) ≤ 1 → (banners : ℕ) → banners_of h ≡ banners → LacksOne (marks_of h) (banners_of h)
    by_count few zero is = inr (is, few)
    by_count few (suc n) is = inl (omega arith)

    by_stands : Stands (marks_of h) (banners_of h) (to_store h) (stored_of h) (epoch_is room h c).from → LacksOne (marks_of h) (banners_of h)
    by_stands (inl (inl none, at)) = inl (omega arith)
    by_stands (inl (inr all, at)) = inl (omega arith)
    by_stands (inr (p, at)) = elim p.one [
      | inl many ↦ inl many
      | inr few ↦ by_count few (banners_of h) refl
    ]

banners_counted : (h : HostLog) (greeted : List Mark) → AreGreetings (marks_at_banners h) greeted → length greeted ≡ banners_in (latest_got h)
banners_counted [] [] are = refl
banners_counted [] (m ∷ earlier) are = absurd are
banners_counted (got r ∷ h) greeted are = let f = banners_first r (latest_got h) in let n = by_banner (is_banner r) greeted (banners_counted h) are in omega arith
  where
    by_banner : (t : Bool) (all : List Mark) → ((some : List Mark) → AreGreetings (marks_at_banners h) some → length some ≡ banners_in (latest_got h))
        → AreGreetings (cond t (marks_in h ∷ marks_at_banners h) (marks_at_banners h)) all → length all ≡ cond t 1 0 + banners_in (latest_got h)
    by_banner true [] before are = absurd are
    by_banner true (m ∷ earlier) before are = let n = before earlier are.1 in omega arith
    by_banner false all before are = let n = before all are in omega arith
banners_counted (_ ∷ h) greeted are = banners_counted h greeted are

got_first : (room : ℕ) (h : Journal) → Conducted room h → ((some : List Mark) → AreGreetings (marks_at_banners (port_log h)) some → AreFirst (marks_of h) some) → (t : Bool) (all : List Mark)
    → AreGreetings (cond t (marks_of h ∷ marks_at_banners (port_log h)) (marks_at_banners (port_log h))) all → AreFirst (marks_of h) all
got_first room h c before true [] are = absurd are
got_first room h c before true (m ∷ earlier) are =
    let n = banners_counted (port_log h) earlier are.1 in
    next_first (marks_of h) earlier m (before earlier are.1) (λ some. elim (few_marks room h c) [
      | inl few ↦ omega arith
      | inr none ↦ absurd (let z = none.0 in omega arith)
    ]) are.0
got_first room h c before false all are = before all are

marks_first : (room : ℕ) (h : Journal) → Conducted room h → (greeted : List Mark) → AreGreetings (marks_at_banners (port_log h)) greeted → AreFirst (marks_of h) greeted
marks_first room [] c [] are = (start ∷ [], refl)
marks_first room [] c (m ∷ earlier) are = absurd are
marks_first room (at_port (stored b) ∷ h) c greeted are = marks_first room h c.1 greeted are
marks_first room (at_port (dropped b) ∷ h) c greeted are = absurd c.0
marks_first room (at_port marked ∷ h) c greeted are =
    let f = marks_first room h c.1 greeted are in let m : Mark = (length (marks_of h) + 1, length (stored_of h)) in (m ∷ f.0, ap (λ (ms : List Mark). m ∷ ms) f.1)
marks_first room (at_port (raised b down) ∷ h) c greeted are = marks_first room h c.1 greeted are
marks_first room (at_port (got r) ∷ h) c greeted are = got_first room h c.1 (marks_first room h c.1) (is_banner r) greeted are
marks_first room (at_port no_reply ∷ h) c greeted are = marks_first room h c.1 greeted are
marks_first room (at_port shut ∷ h) c greeted are = marks_first room h c.1 greeted are
marks_first room (read_some bytes ∷ h) c greeted are = marks_first room h c.1 greeted are
marks_first room (read_end ∷ h) c greeted are = marks_first room h c.1 greeted are
marks_first room (read_failed ∷ h) c greeted are = marks_first room h c.1 greeted are
marks_first room (scanned b ∷ h) c greeted are = marks_first room h c.1 greeted are
marks_first room (line_over ∷ h) c greeted are = marks_first room h c.1 greeted are
marks_first room (wrote n ∷ h) c greeted are = marks_first room h c.1 greeted are
marks_first room (gave_up ∷ h) c greeted are = marks_first room h c.1 greeted are
marks_first room (turned t ∷ h) c greeted are = marks_first room h c.1 greeted are
marks_first room (attends ∷ h) c greeted are = marks_first room h c.1 greeted are

few_greeted : (room : ℕ) (h : Journal) (greeted : List Mark) → Conducted room h → AreGreeted (port_log h) greeted → LacksOne (marks_of h) (length greeted)
few_greeted room h greeted c are = subst (LacksOne (marks_of h)) (sym are.each) (few_marks room h c)

-- the n-th Banner behind the first that is got is of the n-th mark
pub greeted_in_order : (room : ℕ) (h : Journal) (greeted : List Mark) → Conducted room h → AreGreeted (port_log h) greeted → AreInOrder (marks_of h) greeted
greeted_in_order room h greeted c are = in_order (marks_of h) greeted (few_greeted room h greeted c are) (marks_first room h c greeted are.stored)

-- and so is the n-th that is answered
pub answered_in_order : (room : ℕ) (h : Journal) (log : List LinkStep) (over : Bool) → Conducted room h → PortsAgree (port_log h) log over → AreInOrder (marks_of h) (greeted_in log)
answered_in_order room h log over c e =
    let few = few_greeted room h e.greeted c e.are in
    let are = subst (AreStored (marks_of h)) e.banners (answered_stored (marks_of h) log e.loads e.well) in
    let first = all_first (marks_of h) e.greeted few (marks_first room h c e.greeted e.are.stored) e.ungreeted are in
    subst (AreInOrder (marks_of h)) (sym e.banners) (in_order (marks_of h) (e.ungreeted ++ e.greeted) (more few) first)
  where
    more : LacksOne (marks_of h) (length e.greeted) → LacksOne (marks_of h) (length (e.ungreeted ++ e.greeted))
    more few = by_count few (length (e.ungreeted ++ e.greeted)) refl
      where
        by_count : LacksOne (marks_of h) (length e.greeted) → (n : ℕ) → length (e.ungreeted ++ e.greeted) ≡ n → LacksOne (marks_of h) (length (e.ungreeted ++ e.greeted))
        by_count (inl many) n is = inl (let l = length-append e.ungreeted e.greeted in omega arith)
        by_count (inr none) zero is = inr (is, none.1)
        by_count (inr none) (suc n) is = inl (let f = none.1 in omega arith)
