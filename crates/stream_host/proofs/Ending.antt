-- Each epoch that is over ends at its mark.
use Rattle.std.proofs.Common.{◌≡◌, ℕ, ◌+◌, ◌<◌, ◌⊎◌, inl, inr, ◌&&◌, Bool, true, false, cond, List, [], ◌∷◌, ◌++◌, length, drop, refl, sym, ap, ◌∙◌, arith, subst}
use Rattle.status_report.specs.declared.Reply.{Reply}
use Rattle.serial_ring.specs.Marks.{latest}
use Rattle.serial_ring.specs.Lists.{has_banner}
use Rattle.status_report.specs.Answering.{is_banner}
use Rattle.status_report.proofs.Banners.{banners_first}
use Rattle.host_journal.specs.Links.{on_link}
use Rattle.stream_host.specs.Epochs.{Epoch, lines_in, AreEnds, epoch_now, ended_of}
use Rattle.host_journal.specs.Steps.{Journal, port_log, latest_got, begins, stored_of, marks_of, banners_of, awaits_banner, to_store, due_of}
use Rattle.host_journal.specs.Steps.PortStep.{stored, dropped, marked, raised, got, no_reply, shut}
use Rattle.host_journal.specs.Steps.Step.{at_port, read_some, read_end, read_failed, scanned, line_over, wrote, gave_up, turned, attends}
use Rattle.stream_host.specs.Conduct.{Conducted}
use Rattle.stream_host.proofs.Keeping.{none_next}
use Rattle.stream_host.proofs.Raised.{banners_low}
use Rattle.stream_host.proofs.Epochs.{IsSteady, IsPending, Stands, epoch_is, begins_at, both_true, some_banner, none_banner, pending_busy, pending_marked, whole_by}
use Rattle.stream_host.proofs.Cutting.{epochs_are}

-- where the latest mark has no Banner yet, the others end epochs
abbrev Ends : List ℕ → ℕ → List ℕ → List ℕ → List Epoch → Type 0
Ends marks banners left bytes ended = (IsSteady marks banners × AreEnds marks ended) ⊎ (IsPending marks banners left bytes × AreEnds (drop 1 marks) ended)

first_end : (marks : List ℕ) (ended : List Epoch) (now : Epoch) → 0 < length marks → latest marks ≡ length (on_link (lines_in (now ∷ ended))) → AreEnds (drop 1 marks) ended → AreEnds marks (now ∷ ended)
first_end [] ended now some at ends = absurd (omega arith)
first_end (m ∷ marks) ended now some at ends = (at, ends)

marked_ends : (room : ℕ) (h : Journal) → Conducted room (at_port marked ∷ h) → Ends (marks_of h) (banners_of h) (to_store h) (stored_of h) (ended_of h)
    → Ends (marks_of (at_port marked ∷ h)) (banners_of h) (to_store h) (stored_of h) (ended_of h)
marked_ends room h c (inr p) = pending_marked room h c.1 c.0 p.0
marked_ends room h c (inl s) = let e = epoch_is room (at_port marked ∷ h) c in by_stands e.from e.stands
  where
    never : IsSteady (marks_of (at_port marked ∷ h)) (banners_of h) → ⊥
    never (inl none) = absurd (omega arith)
    never (inr all) = let l = banners_low room h c.1 in absurd (omega arith)

    by_stands : (from : ℕ) → Stands (marks_of (at_port marked ∷ h)) (banners_of h) (to_store h) (stored_of h) from → Ends (marks_of (at_port marked ∷ h)) (banners_of h) (to_store h) (stored_of h) (ended_of h)
    by_stands from (inl t) = absurd (never t.0)
    by_stands from (inr p) = inr (p.0, s.1)

got_begins : (room : ℕ) (r : Reply) (h : Journal) → Conducted room (at_port (got r) ∷ h) → begins r (port_log h) ≡ true → Ends (marks_of h) (banners_of h) (to_store h) (stored_of h) (ended_of h)
    → Ends (marks_of h) (banners_of (at_port (got r) ∷ h)) (to_store h) (stored_of h) (epoch_now h ∷ ended_of h)
got_begins room r h c is ends = by_ends ends
  where
    t : (is_banner r ≡ true) × (has_banner (latest_got (port_log h)) ≡ true)
    t = both_true (is_banner r) (has_banner (latest_got (port_log h))) is

    some : 0 < banners_of h
    some = some_banner (latest_got (port_log h)) t.1

    equal : banners_of h ≡ length (marks_of h)
    equal = (begins_at room r h _ c is (epoch_is room h c.1).stands).steady

    never : IsSteady (marks_of h) (banners_of h) → ⊥
    never (inl none) = let e = equal in let m = some in absurd (omega arith)
    never (inr all) = let e = equal in absurd (omega arith)

    more : banners_of (at_port (got r) ∷ h) ≡ length (marks_of h) + 1
    more = let f = banners_first r (latest_got (port_log h)) in let g = ap (λ x. cond {A = ℕ} x 1 0) t.0 in let e = equal in omega arith

    by_ends : Ends (marks_of h) (banners_of h) (to_store h) (stored_of h) (ended_of h) → Ends (marks_of h) (banners_of (at_port (got r) ∷ h)) (to_store h) (stored_of h) (epoch_now h ∷ ended_of h)
    by_ends (inl s) = absurd (never s.0)
    by_ends (inr p) =
        let at = p.0.at_end ∙ ap length (whole_by room h c.1 p.0.free) ∙ ap (λ (ls : List (List ℕ)). length (on_link ls)) (epochs_are room h c.1).lines_are in
        inl (inr more, first_end (marks_of h) (ended_of h) (epoch_now h) p.0.some at p.1)

got_stays : (room : ℕ) (r : Reply) (h : Journal) → Conducted room (at_port (got r) ∷ h) → begins r (port_log h) ≡ false → Ends (marks_of h) (banners_of h) (to_store h) (stored_of h) (ended_of h)
    → Ends (marks_of h) (banners_of (at_port (got r) ∷ h)) (to_store h) (stored_of h) (ended_of h)
got_stays room r h c none ends = by_banner (is_banner r) refl (banners_first r (latest_got (port_log h)))
  where
    first : is_banner r ≡ true → banners_of h ≡ 0
    first b = none_banner (latest_got (port_log h)) (sym (ap (λ t. t && has_banner (latest_got (port_log h))) b) ∙ none)

    by_first : banners_of h ≡ 0 → banners_of (at_port (got r) ∷ h) ≡ 1 → Ends (marks_of h) (banners_of h) (to_store h) (stored_of h) (ended_of h)
        → Ends (marks_of h) (banners_of (at_port (got r) ∷ h)) (to_store h) (stored_of h) (ended_of h)
    by_first zero_was now (inl (inl no_mark, e)) = inl (inl no_mark, e)
    by_first zero_was now (inl (inr all, e)) = absurd (omega arith)
    by_first zero_was now (inr (p, e)) = inr (
      record {
        some = p.some;
        late = (let s = p.some in omega arith);
        one = elim p.one [
          | inl many ↦ absurd (let s = p.some in omega arith)
          | inr few ↦ inr few
        ];
        free = p.free;
        at_end = p.at_end;
      },
      e,
    )

    by_banner : (t : Bool) → is_banner r ≡ t → banners_of (at_port (got r) ∷ h) ≡ cond t 1 0 + banners_of h → Ends (marks_of h) (banners_of (at_port (got r) ∷ h)) (to_store h) (stored_of h) (ended_of h)
    by_banner true b more = by_first (first b) (let f = first b in omega arith) ends
    by_banner false b more = let same : banners_of h ≡ banners_of (at_port (got r) ∷ h) = omega arith in subst (λ n. Ends (marks_of h) n (to_store h) (stored_of h) (ended_of h)) same ends

got_ends : (room : ℕ) (r : Reply) (h : Journal) (t : Bool) → Conducted room (at_port (got r) ∷ h) → begins r (port_log h) ≡ t → Ends (marks_of h) (banners_of h) (to_store h) (stored_of h) (ended_of h)
    → Ends (marks_of h) (banners_of (at_port (got r) ∷ h)) (to_store h) (stored_of h) (cond t (epoch_now h ∷ ended_of h) (ended_of h))
got_ends room r h true c is ends = got_begins room r h c is ends
got_ends room r h false c is ends = got_stays room r h c is ends

ends_steady : (room : ℕ) (h : Journal) (left : List ℕ) → Conducted room h → awaits_banner h ≡ false → due_of h ≡ [] → Ends (marks_of h) (banners_of h) (to_store h) (stored_of h) (ended_of h) → Ends (marks_of h) (banners_of h) left (stored_of h) (ended_of h)
ends_steady room h left c calm none (inl s) = inl s
ends_steady room h left c calm none (inr p) = pending_busy room h c calm none p.0

ends_stored : (b : ℕ) (h : Journal) → to_store h ≡ b ∷ drop 1 (to_store h) → Ends (marks_of h) (banners_of h) (to_store h) (stored_of h) (ended_of h) → Ends (marks_of h) (banners_of h) (drop 1 (to_store h)) (stored_of h ++ b ∷ []) (ended_of h)
ends_stored b h next (inl s) = inl s
ends_stored b h next (inr p) = absurd (none_next (to_store h) b p.0.free next)

ends_are : (room : ℕ) (h : Journal) → Conducted room h → Ends (marks_of h) (banners_of h) (to_store h) (stored_of h) (ended_of h)
ends_are room [] c = inl (inl refl, tt)
ends_are room (at_port (stored b) ∷ h) c = ends_stored b h c.0.next (ends_are room h c.1)
ends_are room (at_port (dropped b) ∷ h) c = absurd c.0
ends_are room (at_port marked ∷ h) c = marked_ends room h c (ends_are room h c.1)
ends_are room (at_port (raised b down) ∷ h) c = ends_are room h c.1
ends_are room (at_port (got r) ∷ h) c = got_ends room r h (begins r (port_log h)) c refl (ends_are room h c.1)
ends_are room (at_port no_reply ∷ h) c = ends_are room h c.1
ends_are room (at_port shut ∷ h) c = ends_are room h c.1
ends_are room (read_some bytes ∷ h) c = ends_are room h c.1
ends_are room (read_end ∷ h) c = ends_are room h c.1
ends_are room (read_failed ∷ h) c = ends_are room h c.1
ends_are room (scanned b ∷ h) c = ends_steady room h (to_store (scanned b ∷ h)) c.1 c.0.epoch c.0.none_due (ends_are room h c.1)
ends_are room (line_over ∷ h) c = ends_steady room h (to_store (line_over ∷ h)) c.1 c.0.epoch c.0.none_due (ends_are room h c.1)
ends_are room (wrote n ∷ h) c = ends_are room h c.1
ends_are room (gave_up ∷ h) c = ends_are room h c.1
ends_are room (turned t ∷ h) c = ends_are room h c.1
ends_are room (attends ∷ h) c = ends_are room h c.1

-- the marks end the epochs that are over, but for the latest where its Banner was not got yet
pub ends_by : (room : ℕ) (h : Journal) → Conducted room h → AreEnds (marks_of h) (ended_of h) ⊎ AreEnds (drop 1 (marks_of h)) (ended_of h)
ends_by room h c = elim (ends_are room h c) [
  | inl s ↦ inl s.1
  | inr p ↦ inr p.1
]

pub ends_all : (room : ℕ) (h : Journal) → Conducted room h → awaits_banner h ≡ false → due_of h ≡ [] → AreEnds (marks_of h) (ended_of h)
ends_all room h c calm none = by_ends (ends_are room h c)
  where
    by_ends : Ends (marks_of h) (banners_of h) (to_store h) (stored_of h) (ended_of h) → AreEnds (marks_of h) (ended_of h)
    by_ends (inl s) = s.1
    by_ends (inr p) = pending_busy room h c calm none p.0
