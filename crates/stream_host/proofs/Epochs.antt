-- The epochs of a host that keeps to its rules: its marks, its resets, and the Banners that it waits for.
use Rattle.std.proofs.Common.{◌≡◌, ℕ, zero, suc, ◌+◌, ◌-◌, ◌≤◌, ◌<◌, ◌⊎◌, ◌||◌, ◌&&◌, inl, inr, Bool, true, false, cond, List, [], ◌∷◌, ◌++◌, length, map, take, drop, nat_eq, nat_lt, nat_le, refl, sym, ap, ◌∙◌, arith, subst, append-nil, append_assoc, length-append}
use Rattle.std.proofs.lemmas.Bool.Decides.{nat_tests}
use Rattle.std.proofs.lemmas.List.{length-drop, length-take, drop_all, take_all, drop-append-le, drop-drop, drop-map, take-append-le}
use Rattle.std.proofs.lemmas.List.Sums.{sum_by-append, sum_by-cons}
use Rattle.run_rules.specs.Lines.{ended}
use Rattle.status_report.specs.declared.Reply.{Reply}
use Rattle.status_report.specs.Answering.{lfs_in, is_answer, answers_in, is_banner, banners_in}
use Rattle.status_report.proofs.Banners.{banners_first, no_answer}
use Rattle.serial_ring.specs.Marks.{latest, last_of}
use Rattle.serial_ring.specs.Lists.{has_banner, answers_behind_mark}
use Rattle.host_journal.specs.Links.{on_link, behind_lf, behind_mark}
use Rattle.host_journal.specs.Jobs.{is_reset, sent_text}
use Rattle.host_journal.specs.Ports.{AnswersLines, SeemsFull}
use Rattle.stream_host.specs.Ran.{AreBorders}
use Rattle.host_journal.specs.Steps.{HostLog, Journal, port_log, stored_of, got_in, latest_got, marks_of, resets_of, banners_of, awaits_banner, begins, answered_of, raw_of, cut_of, live_of, unanswered_of, forgotten_of, to_store, due_of}
use Rattle.host_journal.specs.Steps.PortStep.{stored, dropped, marked, raised, got, no_reply, shut}
use Rattle.host_journal.specs.Steps.Step.{at_port, read_some, read_end, read_failed, scanned, line_over, wrote, gave_up, turned, attends}
use Rattle.stream_host.specs.Conduct.{Conducted, MayMark, MayStore}
use Rattle.stream_host.proofs.Links.{lfs_push, lfs_linked, behind_append, behind_ended, all_no_lf}
use Rattle.stream_host.proofs.Keeping.{stored_is, none_next, linked_line}
use Rattle.stream_host.proofs.Raised.{free_by, both, IsMarked, marks_are, fresh_calm, AreStored, stored_so_far, last_greeted, early_greeted, rising_is, banners_low}

-- ---- the answers of an epoch

-- the answers got before it
abbrev pub earlier_in : HostLog → ℕ
earlier_in [] = 0
earlier_in (got r ∷ h) = cond (begins r h) (answers_in (got_in h)) (earlier_in h)
earlier_in (_ ∷ h) = earlier_in h

answers_last : (rs : List Reply) (r : Reply) → answers_in (rs ++ r ∷ []) ≡ answers_in rs + cond (is_answer r) 1 0
answers_last rs r = let e = sum_by-append (λ x. cond (is_answer x) 1 0) rs (r ∷ []) in omega arith

pub both_true : (a b : Bool) → (a && b) ≡ true → (a ≡ true) × (b ≡ true)
both_true true b e = (refl, e)
both_true false b e = absurd cc

-- a reply that begins an epoch is no answer
pub begins_none : (r : Reply) (h : HostLog) → begins r h ≡ true → is_answer r ≡ false
begins_none r h e = no_answer r (both_true (is_banner r) (has_banner (latest_got h)) e).0

pub answers_split : (h : HostLog) → answers_in (got_in h) ≡ earlier_in h + answers_behind_mark (latest_got h)
answers_split [] = refl
answers_split (got r ∷ h) = by_test (begins r h) refl (answers_split h)
  where
    by_test : (t : Bool) → begins r h ≡ t → answers_in (got_in h) ≡ earlier_in h + answers_behind_mark (latest_got h) → answers_in (got_in h ++ r ∷ []) ≡ cond t (answers_in (got_in h)) (earlier_in h) + cond t 0 (cond (is_answer r) 1 0 + answers_behind_mark (latest_got h))
    by_test true e s = let a = answers_last (got_in h) r in let n = ap (λ t. cond {A = ℕ} t 1 0) (begins_none r h e) in omega arith
    by_test false e s = let a = answers_last (got_in h) r in omega arith
answers_split (_ ∷ h) = answers_split h

-- ---- where an epoch stands on the link

-- every mark has its Banner
abbrev pub IsSteady : List ℕ → ℕ → Type 0
IsSteady marks banners = (length marks ≡ 0) ⊎ (banners ≡ length marks + 1)

-- the latest mark has none yet, and nothing was stored since
pub record IsPending (marks : List ℕ) (banners : ℕ) (left bytes : List ℕ) : Type 0 where
  pub some : 0 < length marks
  pub late : banners ≤ length marks
  pub one : (length marks ≤ banners) ⊎ (length marks ≤ 1)
  pub free : left ≡ []
  pub at_end : latest marks ≡ length bytes

-- an epoch begins on the link behind its mark
abbrev pub Stands : List ℕ → ℕ → List ℕ → List ℕ → ℕ → Type 0
Stands marks banners left bytes from = (IsSteady marks banners × (from ≡ latest marks)) ⊎ (IsPending marks banners left bytes × (from ≡ latest (drop 1 marks)))

pub record IsEpoch (marks : List ℕ) (banners : ℕ) (left bytes : List ℕ) (live : List (List ℕ)) (earlier now : ℕ) : Type 0 where
  pub from : ℕ
  pub stands : Stands marks banners left bytes from
  pub within : from ≤ length bytes
  pub link : drop from bytes ++ left ≡ on_link (drop earlier live)
  pub low : earlier ≤ length live
  pub few : now ≤ lfs_in (drop from bytes)

abbrev pub Epochal : Journal → Type 0
Epochal h = IsEpoch (marks_of h) (banners_of h) (to_store h) (stored_of h) (live_of h) (earlier_in (port_log h)) (answers_behind_mark (latest_got (port_log h)))

-- a mark that has no Banner yet has a Banner awaited, or its reset is due
pub pending_busy : (room : ℕ) (h : Journal) {A : Type 0} → Conducted room h → awaits_banner h ≡ false → due_of h ≡ [] → IsPending (marks_of h) (banners_of h) (to_store h) (stored_of h) → A
pending_busy room h c calm none p = absurd (by_marks (marks_are room h c))
  where
    awaits : (marks resets banners : ℕ) → marks ≡ resets → 0 < marks → banners ≤ marks → (nat_lt 0 resets && nat_le banners resets) ≡ true
    awaits marks resets banners same some late = by_tests (nat_lt 0 resets) (nat_le banners resets) refl refl
      where
        by_tests : (t u : Bool) → nat_lt 0 resets ≡ t → nat_le banners resets ≡ u → (t && u) ≡ true
        by_tests true true e f = refl
        by_tests true false e f = absurd (grind (arith, nat_tests))
        by_tests false u e f = absurd (grind (arith, nat_tests))

    by_marks : IsMarked (length (marks_of h)) (resets_of h) (due_of h) → ⊥
    by_marks (inl same) = both (awaits_banner h) (awaits (length (marks_of h)) (resets_of h) (banners_of h) same p.some p.late) calm
    by_marks (inr more) = absurd (let e = sym none ∙ more.1 in cc)

-- nor is one stored where a Banner is awaited
pub pending_marked : (room : ℕ) (h : Journal) {A : Type 0} → Conducted room h → MayMark h → IsPending (marks_of h) (banners_of h) (to_store h) (stored_of h) → A
pending_marked room h c may p = both (awaits_banner h) (by_tests (nat_lt 0 (resets_of h)) (nat_le (banners_of h) (resets_of h)) refl refl) (fresh_calm room h c may)
  where
    by_tests : (t u : Bool) → nat_lt 0 (resets_of h) ≡ t → nat_le (banners_of h) (resets_of h) ≡ u → (t && u) ≡ true
    by_tests true true e f = refl
    by_tests true false e f = absurd (let s = p.late in let m = may.fresh in grind (arith, nat_tests))
    by_tests false u e f = absurd (let s = p.some in let m = may.fresh in grind (arith, nat_tests))

stored_epoch : (room : ℕ) (b : ℕ) (h : Journal) → MayStore room b h → Epochal h → Epochal (at_port (stored b) ∷ h)
stored_epoch room b h may e = by_stands e.stands
  where
    by_stands : Stands (marks_of h) (banners_of h) (to_store h) (stored_of h) e.from → Epochal (at_port (stored b) ∷ h)
    by_stands (inr p) = absurd (none_next (to_store h) b p.0.free may.next)
    by_stands (inl s) =
        let split = drop-append-le e.from (stored_of h) (b ∷ []) e.within in
        record {
          from = e.from;
          stands = inl s;
          within = (let l = length-append (stored_of h) (b ∷ []) in let w = e.within in omega arith);
          link =
              ap (λ (t : List ℕ). t ++ drop 1 (to_store h)) split ∙ append_assoc (drop e.from (stored_of h)) (b ∷ []) (drop 1 (to_store h))
              ∙ ap (λ (t : List ℕ). drop e.from (stored_of h) ++ t) (sym may.next) ∙ e.link;
          low = e.low;
          few = (let m = lfs_push (drop e.from (stored_of h)) b in let s = ap lfs_in split in let f = e.few in omega arith);
        }

marked_epoch : (room : ℕ) (h : Journal) → Conducted room h → MayMark h → Epochal h → Epochal (at_port marked ∷ h)
marked_epoch room h c may e = by_stands e.stands
  where
    free : to_store h ≡ []
    free = free_by room h 0x18 c may.next

    by_stands : Stands (marks_of h) (banners_of h) (to_store h) (stored_of h) e.from → Epochal (at_port marked ∷ h)
    by_stands (inr p) = pending_marked room h c may p.0
    by_stands (inl s) = record {
      from = e.from;
      stands = inr (record { some = omega arith; late = (let l = banners_low room h c in omega arith); one = by_steady s.0; free = free; at_end = refl }, s.1);
      within = e.within;
      link = e.link;
      low = e.low;
      few = e.few;
    }
      where
        by_steady : IsSteady (marks_of h) (banners_of h) → (length (marks_of (at_port marked ∷ h)) ≤ banners_of h) ⊎ (length (marks_of (at_port marked ∷ h)) ≤ 1)
        by_steady (inl none) = inr (omega arith)
        by_steady (inr all) = inl (omega arith)

line_epoch : (room : ℕ) (h : Journal) → Conducted room h → awaits_banner h ≡ false → due_of h ≡ [] → to_store h ≡ [] → (t : Bool) → Epochal h
    → IsEpoch (marks_of h) (banners_of h) (cond t (sent_text (raw_of h) ++ 10 ∷ []) (to_store h)) (stored_of h) (cond t (live_of h ++ raw_of h ∷ []) (live_of h)) (earlier_in (port_log h)) (answers_behind_mark (latest_got (port_log h)))
line_epoch room h c calm none free t e = by_stands e.stands
  where
    by_test : (t : Bool) → drop e.from (stored_of h) ++ cond t (sent_text (raw_of h) ++ 10 ∷ []) (to_store h) ≡ on_link (drop (earlier_in (port_log h)) (cond t (live_of h ++ raw_of h ∷ []) (live_of h)))
    by_test true =
        linked_line (drop e.from (stored_of h)) (to_store h) (drop (earlier_in (port_log h)) (live_of h)) (raw_of h) free e.link
        ∙ ap on_link (sym (drop-append-le (earlier_in (port_log h)) (live_of h) (raw_of h ∷ []) e.low))
    by_test false = e.link

    lower : (t : Bool) → earlier_in (port_log h) ≤ length (cond t (live_of h ++ raw_of h ∷ []) (live_of h))
    lower true = let l = length-append (live_of h) (raw_of h ∷ []) in let w = e.low in omega arith
    lower false = e.low

    by_stands : Stands (marks_of h) (banners_of h) (to_store h) (stored_of h) e.from
        → IsEpoch (marks_of h) (banners_of h) (cond t (sent_text (raw_of h) ++ 10 ∷ []) (to_store h)) (stored_of h) (cond t (live_of h ++ raw_of h ∷ []) (live_of h)) (earlier_in (port_log h)) (answers_behind_mark (latest_got (port_log h)))
    by_stands (inr p) = pending_busy room h c calm none p.0
    by_stands (inl s) = record { from = e.from; stands = inl s; within = e.within; link = by_test t; low = lower t; few = e.few }

-- ---- a reply

pub some_banner : (rs : List Reply) → has_banner rs ≡ true → 0 < banners_in rs
some_banner [] e = absurd cc
some_banner (r ∷ rs) e = by_test (is_banner r) refl (some_banner rs) e
  where
    by_test : (t : Bool) → is_banner r ≡ t → (has_banner rs ≡ true → 0 < banners_in rs) → (t || has_banner rs) ≡ true → 0 < banners_in (r ∷ rs)
    by_test true b was e = let f = banners_first r rs in let g = ap (λ x. cond {A = ℕ} x 1 0) b in omega arith
    by_test false b was e = let s = was e in let f = banners_first r rs in omega arith

pub none_banner : (rs : List Reply) → has_banner rs ≡ false → banners_in rs ≡ 0
none_banner [] e = refl
none_banner (r ∷ rs) e = by_test (is_banner r) refl (none_banner rs) e
  where
    by_test : (t : Bool) → is_banner r ≡ t → (has_banner rs ≡ false → banners_in rs ≡ 0) → (t || has_banner rs) ≡ false → banners_in (r ∷ rs) ≡ 0
    by_test true b was e = absurd cc
    by_test false b was e = let s = was e in let f = banners_first r rs in let g = ap (λ x. cond {A = ℕ} x 1 0) b in omega arith

pub banner_test : (rs : List Reply) → nat_lt 0 (banners_in rs) ≡ has_banner rs
banner_test rs = by_test (has_banner rs) refl
  where
    by_test : (t : Bool) → has_banner rs ≡ t → nat_lt 0 (banners_in rs) ≡ t
    by_test true e = let s = some_banner rs e in grind (arith, nat_tests)
    by_test false e = let s = none_banner rs e in grind (arith, nat_tests)

-- fewer line feeds stand further back
lfs_drop : (m n : ℕ) (xs : List ℕ) → m ≤ n → lfs_in (drop n xs) ≤ lfs_in (drop m xs)
lfs_drop m n xs le =
    let e = ap lfs_in (drop-drop (n - m) m xs) in let k : m + (n - m) ≡ n = omega arith in
    let s = ap (λ j. lfs_in (drop j xs)) k in let f = fewer (n - m) (drop m xs) in omega arith
  where
    fewer : (k : ℕ) (ys : List ℕ) → lfs_in (drop k ys) ≤ lfs_in ys
    fewer zero ys = omega arith
    fewer (suc k) [] = omega arith
    fewer (suc k) (y ∷ ys) = let m = fewer k ys in let c = sum_by-cons (λ b. cond (nat_eq b 10) 1 0) y ys in omega arith

-- since that Banner no more lines are answered than stand behind its mark
few_answers : (r : Reply) (h : Journal) (from : ℕ) → AnswersLines (got r ∷ port_log h) → Stands (marks_of h) (banners_of (at_port (got r) ∷ h)) (to_store h) (stored_of h) from
    → answers_behind_mark (r ∷ latest_got (port_log h)) ≤ lfs_in (drop from (stored_of h))
few_answers r h from lines stands =
    let f = lines.few in let d = lfs_drop from (last_of lines.greeted).1 (stored_of h) (by_stands stands) in omega arith
  where
    are : AreStored (marks_of h) lines.greeted
    are = stored_so_far (got r ∷ port_log h) lines.greeted lines.are.stored

    by_stands : Stands (marks_of h) (banners_of (at_port (got r) ∷ h)) (to_store h) (stored_of h) from → from ≤ (last_of lines.greeted).1
    by_stands (inl s) =
        let each = lines.are.each in
        let e = last_greeted (marks_of h) lines.greeted are (elim s.0 [
          | inl none ↦ inl none
          | inr all ↦ inr (each ∙ all)
        ]) in let f = s.1 in omega arith
    by_stands (inr p) =
        let each = lines.are.each in
        let e = early_greeted (marks_of h) lines.greeted (rising_is (port_log h)).0 are (elim p.0.one [
          | inl many ↦ inl (omega arith)
          | inr few ↦ inr few
        ]) in let f = p.1 in omega arith

-- a Banner that is no epoch's beginning is the first
stays : (room : ℕ) (r : Reply) (h : Journal) (from : ℕ) → Conducted room (at_port (got r) ∷ h) → begins r (port_log h) ≡ false → Stands (marks_of h) (banners_of h) (to_store h) (stored_of h) from
    → Stands (marks_of h) (banners_of (at_port (got r) ∷ h)) (to_store h) (stored_of h) from
stays room r h from c none stands = by_banner (is_banner r) refl (banners_first r (latest_got (port_log h)))
  where
    first : is_banner r ≡ true → banners_of h ≡ 0
    first b = none_banner (latest_got (port_log h)) (sym (ap (λ t. t && has_banner (latest_got (port_log h))) b) ∙ none)

    by_stands : is_banner r ≡ true → banners_of (at_port (got r) ∷ h) ≡ 1 → Stands (marks_of h) (banners_of h) (to_store h) (stored_of h) from → Stands (marks_of h) (banners_of (at_port (got r) ∷ h)) (to_store h) (stored_of h) from
    by_stands b now (inl (inl no_mark, at)) = inl (inl no_mark, at)
    by_stands b now (inl (inr all, at)) = absurd (let f = first b in omega arith)
    by_stands b now (inr (p, at)) = inr (
      record {
        some = p.some;
        late = (let s = p.some in omega arith);
        one = elim p.one [
          | inl many ↦ absurd (let f = first b in let s = p.some in omega arith)
          | inr few ↦ inr few
        ];
        free = p.free;
        at_end = p.at_end;
      },
      at,
    )

    by_banner : (t : Bool) → is_banner r ≡ t → banners_of (at_port (got r) ∷ h) ≡ cond t 1 0 + banners_of h → Stands (marks_of h) (banners_of (at_port (got r) ∷ h)) (to_store h) (stored_of h) from
    by_banner true b more = by_stands b (let f = first b in omega arith) stands
    by_banner false b more = let same : banners_of h ≡ banners_of (at_port (got r) ∷ h) = omega arith in subst (λ n. Stands (marks_of h) n (to_store h) (stored_of h) from) same stands

-- where an epoch begins, the latest mark is its own, and all that was stored stands before it
pub record Begins (h : Journal) : Type 0 where
  pub steady : banners_of h ≡ length (marks_of h)
  pub free : to_store h ≡ []
  pub at_end : latest (marks_of h) ≡ length (stored_of h)

pub begins_at : (room : ℕ) (r : Reply) (h : Journal) (from : ℕ) → Conducted room (at_port (got r) ∷ h) → begins r (port_log h) ≡ true → Stands (marks_of h) (banners_of h) (to_store h) (stored_of h) from → Begins h
begins_at room r h from c is (inl s) = absurd (by_steady s.0)
  where
    by_steady : IsSteady (marks_of h) (banners_of h) → ⊥
    by_steady steady =
        let t = both_true (is_banner r) (has_banner (latest_got (port_log h))) is in
        let some = some_banner (latest_got (port_log h)) t.1 in
        let low = banners_low room (at_port (got r) ∷ h) c in
        let f = banners_first r (latest_got (port_log h)) in let g = ap (λ x. cond {A = ℕ} x 1 0) t.0 in
        by_which some low f g steady
      where
        by_which : 0 < banners_of h → banners_of (at_port (got r) ∷ h) ≤ length (marks_of h) + 1 → banners_of (at_port (got r) ∷ h) ≡ cond (is_banner r) 1 0 + banners_of h → cond {A = ℕ} (is_banner r) 1 0 ≡ 1
            → IsSteady (marks_of h) (banners_of h) → ⊥
        by_which some low f g (inl none) = absurd (omega arith)
        by_which some low f g (inr all) = absurd (omega arith)
begins_at room r h from c is (inr p) =
    let t = both_true (is_banner r) (has_banner (latest_got (port_log h))) is in
    let some = some_banner (latest_got (port_log h)) t.1 in
    let late = p.0.late in
    record {
      steady = elim p.0.one [
        | inl many ↦ omega arith
        | inr few ↦ omega arith
      ];
      free = p.0.free;
      at_end = p.0.at_end;
    }

within_live : (marks : List ℕ) (banners : ℕ) (left bytes : List ℕ) (live : List (List ℕ)) (earlier now : ℕ) → IsEpoch marks banners left bytes live earlier now → earlier + now ≤ length live
within_live marks banners left bytes live earlier now e =
    let f = e.few in let a = sum_by-append (λ b. cond (nat_eq b 10) 1 0) (drop e.from bytes) left in
    let l = ap lfs_in e.link in let n = lfs_linked (drop earlier live) in let d = length-drop earlier live in let w = e.low in omega arith

got_epoch : (room : ℕ) (r : Reply) (h : Journal) → Conducted room (at_port (got r) ∷ h) → Epochal h → (t : Bool) → begins r (port_log h) ≡ t
    → IsEpoch (marks_of h) (banners_of (at_port (got r) ∷ h)) (to_store h) (stored_of h) (cond t (take (answered_of h) (live_of h)) (live_of h)) (cond t (answered_of h) (earlier_in (port_log h))) (cond t 0 (cond (is_answer r) 1 0 + answers_behind_mark (latest_got (port_log h))))
got_epoch room r h c e true is =
    let b = begins_at room r h e.from c is e.stands in
    let t = both_true (is_banner r) (has_banner (latest_got (port_log h))) is in
    let f = banners_first r (latest_got (port_log h)) in let g = ap (λ x. cond {A = ℕ} x 1 0) t.0 in
    let split = answers_split (port_log h) in
    let many = within_live _ _ _ _ _ _ _ e in
    let l = length-take (answered_of h) (live_of h) in
    let s = b.steady in
    record {
      from = latest (marks_of h);
      stands = inl (inr (omega arith), refl);
      within = (let a = b.at_end in omega arith);
      link =
          ap (λ n. drop n (stored_of h) ++ to_store h) b.at_end ∙ ap (λ (x : List ℕ). x ++ to_store h) (drop_all (length (stored_of h)) (stored_of h) (omega arith)) ∙ b.free
          ∙ ap on_link (sym (drop_all (answered_of h) (take (answered_of h) (live_of h)) (omega arith)));
      low = omega arith;
      few = omega arith;
    }
got_epoch room r h c e false is =
    let stands = stays room r h e.from c is e.stands in
    record {
      from = e.from;
      stands = stands;
      within = e.within;
      link = e.link;
      low = e.low;
      few = subst (λ t. cond t 0 (cond (is_answer r) 1 0 + answers_behind_mark (latest_got (port_log h))) ≤ lfs_in (drop e.from (stored_of h))) is (few_answers r h e.from c.0.lines stands);
    }

pub epoch_is : (room : ℕ) (h : Journal) → Conducted room h → Epochal h
epoch_is room [] c = record { from = 0; stands = inl (inl refl, refl); within = omega arith; link = refl; low = omega arith; few = omega arith }
epoch_is room (at_port (stored b) ∷ h) c = stored_epoch room b h c.0 (epoch_is room h c.1)
epoch_is room (at_port (dropped b) ∷ h) c = absurd c.0
epoch_is room (at_port marked ∷ h) c = marked_epoch room h c.1 c.0 (epoch_is room h c.1)
epoch_is room (at_port (raised b down) ∷ h) c = epoch_is room h c.1
epoch_is room (at_port (got r) ∷ h) c = got_epoch room r h c (epoch_is room h c.1) (begins r (port_log h)) refl
epoch_is room (at_port no_reply ∷ h) c = epoch_is room h c.1
epoch_is room (at_port shut ∷ h) c = epoch_is room h c.1
epoch_is room (read_some bytes ∷ h) c = epoch_is room h c.1
epoch_is room (read_end ∷ h) c = epoch_is room h c.1
epoch_is room (read_failed ∷ h) c = epoch_is room h c.1
epoch_is room (scanned b ∷ h) c = line_epoch room h c.1 c.0.epoch c.0.none_due c.0.free (nat_eq b 10) (epoch_is room h c.1)
epoch_is room (line_over ∷ h) c = line_epoch room h c.1 c.0.epoch c.0.none_due c.0.free true (epoch_is room h c.1)
epoch_is room (wrote n ∷ h) c = epoch_is room h c.1
epoch_is room (gave_up ∷ h) c = epoch_is room h c.1
epoch_is room (turned t ∷ h) c = epoch_is room h c.1
epoch_is room (attends ∷ h) c = epoch_is room h c.1

-- ---- what follows

-- no more lines are answered than live
pub answered_live : (room : ℕ) (h : Journal) → Conducted room h → answered_of h ≤ length (live_of h)
answered_live room h c = let s = answers_split (port_log h) in let w = within_live _ _ _ _ _ _ _ (epoch_is room h c) in omega arith

-- where an epoch begins, nothing is to be stored
pub begins_free : (room : ℕ) (r : Reply) (h : Journal) → Conducted room (at_port (got r) ∷ h) → begins r (port_log h) ≡ true → to_store h ≡ []
begins_free room r h c is = let e = epoch_is room h c.1 in (begins_at room r h e.from c is e.stands).free

-- where a byte may be stored, the link is not full: no byte is dropped
pub room_is : (room : ℕ) (b : ℕ) (h : Journal) → Conducted room h → MayStore room b h → SeemsFull room (port_log h) → ⊥
room_is room b h c may full = by_stands (epoch_is room h c).stands
  where
    e : Epochal h
    e = epoch_is room h c

    now : ℕ
    now = answers_behind_mark (latest_got (port_log h))

    by_stands : Stands (marks_of h) (banners_of h) (to_store h) (stored_of h) e.from → ⊥
    by_stands (inr p) = none_next (to_store h) b p.0.free may.next
    by_stands (inl s) =
        let at = last_greeted (marks_of h) full.greeted (stored_so_far (port_log h) full.greeted full.are.stored) (elim s.0 [
          | inl none ↦ inl none
          | inr all ↦ inr (full.are.each ∙ all)
        ]) in
        let same : behind_mark full.greeted (stored_of h) ≡ drop e.from (stored_of h) = ap (λ n. drop n (stored_of h)) (at ∙ sym s.1) in
        let link : behind_lf now (drop e.from (stored_of h)) ++ to_store h ≡ on_link (unanswered_of h) =
        sym (behind_append now (drop e.from (stored_of h)) (to_store h) e.few) ∙ ap (behind_lf now) e.link
        ∙ behind_on (drop (earlier_in (port_log h)) (live_of h)) ∙ ap on_link (drop-drop now (earlier_in (port_log h)) (live_of h))
        ∙ ap (λ n. on_link (drop n (live_of h))) (sym (answers_split (port_log h))) in
        let l = ap length link in let a = length-append (behind_lf now (drop e.from (stored_of h))) (to_store h) in
        let f = full.full in let g = ap (λ (x : List ℕ). length (behind_lf now x)) same in let r = may.few in let n = ap length may.next in
        absurd (omega arith)
      where
        behind_on : (lines : List (List ℕ)) → behind_lf now (on_link lines) ≡ on_link (drop now lines)
        behind_on lines = behind_ended now (map sent_text lines) (all_no_lf lines) ∙ ap ended (drop-map sent_text now lines)

-- each line lives or is forgotten
pub all_lines : (room : ℕ) (h : Journal) → Conducted room h → length (cut_of h) ≡ length (live_of h) + forgotten_of h
all_lines room [] c = refl
all_lines room (at_port (stored b) ∷ h) c = all_lines room h c.1
all_lines room (at_port (dropped b) ∷ h) c = absurd c.0
all_lines room (at_port marked ∷ h) c = all_lines room h c.1
all_lines room (at_port (raised b down) ∷ h) c = all_lines room h c.1
all_lines room (at_port (got r) ∷ h) c = by_test (begins r (port_log h)) (all_lines room h c.1)
  where
    by_test : (t : Bool) → length (cut_of h) ≡ length (live_of h) + forgotten_of h → length (cut_of h) ≡ length (cond t (take (answered_of h) (live_of h)) (live_of h)) + cond t (forgotten_of h + length (unanswered_of h)) (forgotten_of h)
    by_test true m =
        let l = length-take (answered_of h) (live_of h) in let d = length-drop (answered_of h) (live_of h) in let f = answered_live room h c.1 in omega arith
    by_test false m = m
all_lines room (at_port no_reply ∷ h) c = all_lines room h c.1
all_lines room (at_port shut ∷ h) c = all_lines room h c.1
all_lines room (read_some bytes ∷ h) c = all_lines room h c.1
all_lines room (read_end ∷ h) c = all_lines room h c.1
all_lines room (read_failed ∷ h) c = all_lines room h c.1
all_lines room (scanned b ∷ h) c = by_test (nat_eq b 10) (all_lines room h c.1)
  where
    by_test : (t : Bool) → length (cut_of h) ≡ length (live_of h) + forgotten_of h → length (cond t (cut_of h ++ raw_of h ∷ []) (cut_of h)) ≡ length (cond t (live_of h ++ raw_of h ∷ []) (live_of h)) + forgotten_of h
    by_test true m = let a = length-append (cut_of h) (raw_of h ∷ []) in let b = length-append (live_of h) (raw_of h ∷ []) in omega arith
    by_test false m = m
all_lines room (line_over ∷ h) c = let m = all_lines room h c.1 in let a = length-append (cut_of h) (raw_of h ∷ []) in let b = length-append (live_of h) (raw_of h ∷ []) in omega arith
all_lines room (wrote n ∷ h) c = all_lines room h c.1
all_lines room (gave_up ∷ h) c = all_lines room h c.1
all_lines room (turned t ∷ h) c = all_lines room h c.1
all_lines room (attends ∷ h) c = all_lines room h c.1

-- ---- the borders

-- where nothing is to be stored, all lines are stored whole
pub whole_by : (room : ℕ) (h : Journal) → Conducted room h → to_store h ≡ [] → stored_of h ≡ on_link (cut_of h)
whole_by room h c free = sym (append-nil (stored_of h)) ∙ ap (λ (t : List ℕ). stored_of h ++ t) (sym free) ∙ stored_is room h c

borders_on : (marks : List ℕ) (lines : List (List ℕ)) (raw : List ℕ) → AreBorders marks lines → AreBorders marks (lines ++ raw ∷ [])
borders_on [] lines raw are = tt
borders_on (bytes ∷ marks) lines raw are =
    let n = are.0.0 in let low = are.0.1 in
    ((n, (let l = length-append lines (raw ∷ []) in omega arith), are.0.2 ∙ ap (λ (ls : List (List ℕ)). length (on_link ls)) (sym (take-append-le n lines (raw ∷ []) low))), borders_on marks lines raw are.1)

borders_by : (marks : List ℕ) (lines : List (List ℕ)) (raw : List ℕ) (t : Bool) → AreBorders marks lines → AreBorders marks (cond t (lines ++ raw ∷ []) lines)
borders_by marks lines raw true are = borders_on marks lines raw are
borders_by marks lines raw false are = are

pub borders_are : (room : ℕ) (h : Journal) → Conducted room h → AreBorders (marks_of h) (cut_of h)
borders_are room [] c = tt
borders_are room (at_port (stored b) ∷ h) c = borders_are room h c.1
borders_are room (at_port (dropped b) ∷ h) c = absurd c.0
borders_are room (at_port marked ∷ h) c =
    let whole = whole_by room h c.1 (free_by room h 0x18 c.1 c.0.next) in
    ((length (cut_of h), omega arith, ap length whole ∙ ap (λ (ls : List (List ℕ)). length (on_link ls)) (sym (take_all (length (cut_of h)) (cut_of h) (omega arith)))), borders_are room h c.1)
borders_are room (at_port (raised b down) ∷ h) c = borders_are room h c.1
borders_are room (at_port (got r) ∷ h) c = borders_are room h c.1
borders_are room (at_port no_reply ∷ h) c = borders_are room h c.1
borders_are room (at_port shut ∷ h) c = borders_are room h c.1
borders_are room (read_some bytes ∷ h) c = borders_are room h c.1
borders_are room (read_end ∷ h) c = borders_are room h c.1
borders_are room (read_failed ∷ h) c = borders_are room h c.1
borders_are room (scanned b ∷ h) c = borders_by (marks_of h) (cut_of h) (raw_of h) (nat_eq b 10) (borders_are room h c.1)
borders_are room (line_over ∷ h) c = borders_on (marks_of h) (cut_of h) (raw_of h) (borders_are room h c.1)
borders_are room (wrote n ∷ h) c = borders_are room h c.1
borders_are room (gave_up ∷ h) c = borders_are room h c.1
borders_are room (turned t ∷ h) c = borders_are room h c.1
borders_are room (attends ∷ h) c = borders_are room h c.1

pub whole_at_mark : (room : ℕ) (h : Journal) → Conducted room (at_port marked ∷ h) → stored_of h ≡ on_link (cut_of h)
whole_at_mark room h c = whole_by room h c.1 (free_by room h 0x18 c.1 c.0.next)

-- a reset is raised behind its own mark, the latest
pub behind_own : (room : ℕ) (b : ℕ) (down : Bool) (h : Journal) → is_reset b ≡ true → Conducted room (at_port (raised b down) ∷ h) → length (marks_of h) ≡ resets_of h + 1
behind_own room b down h reset c = by_marks (marks_are room h c.1)
  where
    by_marks : IsMarked (length (marks_of h)) (resets_of h) (due_of h) → length (marks_of h) ≡ resets_of h + 1
    by_marks (inl same) = absurd (let m = c.0.behind_mark reset in omega arith)
    by_marks (inr more) = more.0

pub marks_between : (room : ℕ) (h : Journal) → Conducted room h → (resets_of h ≤ length (marks_of h)) × (length (marks_of h) ≤ resets_of h + 1)
marks_between room h c = by_marks (marks_are room h c)
  where
    by_marks : IsMarked (length (marks_of h)) (resets_of h) (due_of h) → (resets_of h ≤ length (marks_of h)) × (length (marks_of h) ≤ resets_of h + 1)
    by_marks (inl same) = ((omega arith), (omega arith))
    by_marks (inr more) = let m = more.0 in ((omega arith), (omega arith))

pub banners_past : (h : Journal) → 0 < resets_of h → awaits_banner h ≡ false → resets_of h < banners_of h
banners_past h some calm = by_tests (nat_lt 0 (resets_of h)) (nat_le (banners_of h) (resets_of h)) refl refl calm
  where
    by_tests : (t u : Bool) → nat_lt 0 (resets_of h) ≡ t → nat_le (banners_of h) (resets_of h) ≡ u → (t && u) ≡ false → resets_of h < banners_of h
    by_tests true true e f g = absurd cc
    by_tests true false e f g = grind (arith, nat_tests)
    by_tests false u e f g = absurd (grind (arith, nat_tests))
