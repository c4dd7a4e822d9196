-- Why a host that keeps to its rules waits.
use Rattle.std.proofs.Common.{◌≡◌, ◌≢◌, ℕ, ◌+◌, ◌-◌, ◌≤◌, ◌<◌, ◌⊎◌, inl, inr, Bool, true, false, cond, List, [], ◌∷◌, ◌++◌, length, take, drop, nat_eq, nat_lt, refl, sym, ap, ◌∙◌, arith, subst, length-append}
use Rattle.std.proofs.lemmas.Bool.Decides.{nat_tests}
use Rattle.std.proofs.lemmas.List.{append_cancel_right, drop-append-le, drop_all, length-drop}
use Rattle.run_rules.specs.Readings.{largest_job}
use Rattle.host_journal.specs.declared.Reading.{Reading}
use Rattle.host_journal.specs.declared.Reading.TheVariants.{Ended, Failed, Large, Stopped}
use Rattle.host_journal.specs.declared.asking.Asking.{Asking}
use Rattle.host_journal.specs.declared.asking.Asking.TheVariants.{Nothing, Awaits, HasOne, AsksAgain}
use Rattle.host_journal.specs.Links.{on_link}
use Rattle.status_report.specs.Answering.{lfs_in}
use Rattle.host_journal.specs.Jobs.{is_reset, sent_text, ends_sending, MayHaveRead}
use Rattle.host_journal.specs.Steps.{Journal, stored_of, has_limit, is_shut, is_greeted, answered_of, port_log, begins, awaits_banner, live_of, marks_of, resets_of, read_of, reading_of, scanned_of, unscanned_of, raw_of, to_store, begun_of, due_of, asking_of, is_waiting, is_asking, awaits_report, awaits_any_report}
use Rattle.host_journal.specs.Steps.PortStep.{stored, dropped, marked, raised, got, no_reply, shut}
use Rattle.host_journal.specs.Steps.Step.{at_port, read_some, read_end, read_failed, scanned, line_over, wrote, gave_up, turned, attends}
use Rattle.stream_host.specs.Conduct.{AwaitsSome, Conducted, HasNoMore, IsSettled, Waits}
use Rattle.stream_host.proofs.Pieces.{IsSendable}
use Rattle.stream_host.proofs.Keeping.{read_is, linked_push, few_scanned, reading_fits}
use Rattle.stream_host.proofs.Sending.{sum_is, counts_are}
use Rattle.stream_host.proofs.Texts.{few_bytes}
use Rattle.stream_host.proofs.Links.{lfs_linked}
use Rattle.stream_host.proofs.Raised.{marks_are}
use Rattle.stream_host.proofs.Epochs.{Epochal, epoch_is, earlier_in, answers_split, begins_free}
use Rattle.stream_host.proofs.Raising.{early_waiting}

-- ---- which lines are begun

-- a line is to be stored, and is not begun
pub record IsFresh (lines begun : List (List ℕ)) (left : List ℕ) : Type 0 where
  pub line : List ℕ
  pub one : lines ≡ begun ++ line ∷ []
  pub all : left ≡ sent_text line ++ 10 ∷ []
  pub sends : IsSendable line

abbrev pub IsBegun : Journal → Type 0
IsBegun h = (begun_of h ≡ live_of h) ⊎ IsFresh (live_of h) (begun_of h) (to_store h)

some_behind : (xs : List ℕ) (x : ℕ) → xs ++ x ∷ [] ≡ [] → ⊥
some_behind [] x e = absurd cc
some_behind (y ∷ ys) x e = absurd cc

-- where nothing is to be stored, all lines are begun
pub all_begun : (h : Journal) → to_store h ≡ [] → IsBegun h → begun_of h ≡ live_of h
all_begun h free (inl e) = e
all_begun h free (inr f) = absurd (some_behind (sent_text f.line) 10 (sym f.all ∙ free))

begin_line : (lines begun : List (List ℕ)) (raw : List ℕ) → IsSendable raw → begun ≡ lines → IsFresh (lines ++ raw ∷ []) begun (sent_text raw ++ 10 ∷ [])
begin_line lines begun raw short e = record { line = raw; one = ap (λ (ls : List (List ℕ)). ls ++ raw ∷ []) (sym e); all = refl; sends = short }

begin_by : (lines begun : List (List ℕ)) (raw left : List ℕ) (t : Bool) → IsSendable raw → begun ≡ lines
    → (begun ≡ cond t (lines ++ raw ∷ []) lines) ⊎ IsFresh (cond t (lines ++ raw ∷ []) lines) begun (cond t (sent_text raw ++ 10 ∷ []) left)
begin_by lines begun raw left true short e = inr (begin_line lines begun raw short e)
begin_by lines begun raw left false short e = inl e

pub begun_is : (room : ℕ) (h : Journal) → Conducted room h → IsBegun h
begun_is room [] c = inl refl
begun_is room (at_port (stored b) ∷ h) c = inl refl
begun_is room (at_port (dropped b) ∷ h) c = absurd c.0
begun_is room (at_port marked ∷ h) c = begun_is room h c.1
begun_is room (at_port (raised b down) ∷ h) c = begun_is room h c.1
begun_is room (at_port (got r) ∷ h) c = by_begins (begins r (port_log h)) refl (begun_is room h c.1)
  where
    by_begins : (t : Bool) → begins r (port_log h) ≡ t → IsBegun h
        → (cond t (take (answered_of h) (begun_of h)) (begun_of h) ≡ cond t (take (answered_of h) (live_of h)) (live_of h))
        ⊎ IsFresh (cond t (take (answered_of h) (live_of h)) (live_of h)) (cond t (take (answered_of h) (begun_of h)) (begun_of h)) (to_store h)
    by_begins true is was = inl (ap (take (answered_of h)) (all_begun h (begins_free room r h c is) was))
    by_begins false is was = was
begun_is room (at_port no_reply ∷ h) c = begun_is room h c.1
begun_is room (at_port shut ∷ h) c = begun_is room h c.1
begun_is room (read_some bytes ∷ h) c = begun_is room h c.1
begun_is room (read_end ∷ h) c = begun_is room h c.1
begun_is room (read_failed ∷ h) c = begun_is room h c.1
begun_is room (scanned b ∷ h) c = begin_by (live_of h) (begun_of h) (raw_of h) (to_store h) (nat_eq b 10) c.0.sends (all_begun h c.0.free (begun_is room h c.1))
begun_is room (line_over ∷ h) c = begin_by (live_of h) (begun_of h) (raw_of h) (to_store h) true c.0.sends (all_begun h c.0.free (begun_is room h c.1))
begun_is room (wrote n ∷ h) c = begun_is room h c.1
begun_is room (gave_up ∷ h) c = begun_is room h c.1
begun_is room (turned t ∷ h) c = begun_is room h c.1
begun_is room (attends ∷ h) c = begun_is room h c.1

-- ---- a line that may not be stored yet

few_in : (line : List ℕ) → IsSendable line → length (sent_text line) ≤ 127
few_in line short = few_bytes line short

some_lines : (lines : List (List ℕ)) → 0 < length (on_link lines) → 0 < length lines
some_lines [] some = absurd (let s : 0 < 0 = some in omega arith)
some_lines (l ∷ ls) some = omega arith

-- the line that is not begun has no answer
pub few_fresh : (room : ℕ) (h : Journal) → Conducted room h → IsFresh (live_of h) (begun_of h) (to_store h) → answered_of h ≤ length (begun_of h)
few_fresh room h c f = by_place (nat_lt (length (begun_of h)) (earlier_in (port_log h))) refl
  where
    e : Epochal h
    e = epoch_is room h c

    by_place : (t : Bool) → nat_lt (length (begun_of h)) (earlier_in (port_log h)) ≡ t → answered_of h ≤ length (begun_of h)
    by_place true is =
        let l = ap length f.one in let m = length-append (begun_of h) (f.line ∷ []) in
        let none = drop_all (earlier_in (port_log h)) (live_of h) (grind (arith, nat_tests)) in
        let k = ap length (e.link ∙ ap on_link none) in let a = length-append (drop e.from (stored_of h)) (to_store h) in
        let n = ap length f.all in let p = length-append (sent_text f.line) (10 ∷ []) in
        absurd (omega arith)
    by_place false is =
        let low : earlier_in (port_log h) ≤ length (begun_of h) = grind (arith, nat_tests) in
        let split = ap (drop (earlier_in (port_log h))) f.one ∙ drop-append-le (earlier_in (port_log h)) (begun_of h) (f.line ∷ []) low in
        let kept : drop e.from (stored_of h) ≡ on_link (drop (earlier_in (port_log h)) (begun_of h)) =
        append_cancel_right (drop e.from (stored_of h)) (on_link (drop (earlier_in (port_log h)) (begun_of h))) (sent_text f.line ++ 10 ∷ [])
        (ap (λ (t : List ℕ). drop e.from (stored_of h) ++ t) (sym f.all) ∙ e.link ∙ ap on_link split ∙ linked_push (drop (earlier_in (port_log h)) (begun_of h)) f.line) in
        let few = e.few in let b = ap lfs_in kept in let l = lfs_linked (drop (earlier_in (port_log h)) (begun_of h)) in let d = length-drop (earlier_in (port_log h)) (begun_of h) in
        let s = answers_split (port_log h) in
        omega arith

too_many : (room : ℕ) (h : Journal) → 128 ≤ room → Conducted room h → room < length (on_link (drop (answered_of h) (live_of h))) → IsBegun h → 0 < length (drop (answered_of h) (begun_of h))
too_many room h large c many (inl e) = absurd (let s = sum_is room h c in let d = ap (λ (ls : List (List ℕ)). length (on_link (drop (answered_of h) ls))) e in omega arith)
too_many room h large c many (inr f) =
    let few = few_fresh room h c f in
    let d : drop (answered_of h) (live_of h) ≡ drop (answered_of h) (begun_of h) ++ f.line ∷ [] = ap (drop (answered_of h)) f.one ∙ drop-append-le (answered_of h) (begun_of h) (f.line ∷ []) few in
    let e = ap length (ap on_link d ∙ linked_push (drop (answered_of h) (begun_of h)) f.line) in
    let m = length-append (on_link (drop (answered_of h) (begun_of h))) (sent_text f.line ++ 10 ∷ []) in
    let n = length-append (sent_text f.line) (10 ∷ []) in
    let s = few_in f.line f.sends in
    some_lines (drop (answered_of h) (begun_of h)) (omega arith)

-- ---- nothing is to be stored: the job goes on

shuts : (room : ℕ) (h : Journal) → is_shut h ≡ false → awaits_banner h ≡ false → to_store h ≡ [] → due_of h ≡ [] → Waits room h → (ends_sending (raw_of h) ≡ true) ⊎ HasNoMore (reading_of h) (unscanned_of h) (raw_of h) (length (scanned_of h)) → ⊥
shuts room h going epoch free none w all = w.no_close (record { going = going; epoch = epoch; sent = inr (record { free = free; all = all }); all_raised = inr none })

-- all that was read is scanned
all_scanned : (room : ℕ) (h : Journal) → Conducted room h → is_shut h ≡ false → has_limit h ≡ false → awaits_banner h ≡ false → to_store h ≡ [] → due_of h ≡ [] → IsSettled h → ends_sending (raw_of h) ≡ false → unscanned_of h ≡ [] → Waits room h → (r : Reading) → reading_of h ≡ r → (raw : List ℕ) → raw_of h ≡ raw → ⊥
all_scanned room h c going calm epoch free none settled short used w Stopped at raw is = w.no_read (record { going = going; calm = calm; epoch = epoch; on = at; sends = short; used = used; free = free; none_due = none; settled = settled; shown = w.written })
all_scanned room h c going calm epoch free none settled short used w Failed at raw is =
    shuts room h going epoch free none w (inr (subst (λ (r : Reading). HasNoMore r (unscanned_of h) (raw_of h) (length (scanned_of h))) (sym at) used))
all_scanned room h c going calm epoch free none settled short used w Large at raw is =
    let more : largest_job < length (read_of h) = (subst (λ (r : Reading). MayHaveRead r (length (read_of h))) at (reading_fits room h c)).0 in
    let l = ap length (read_is room h c) in let m = length-append (scanned_of h) (unscanned_of h) in let n = ap length used in let s = few_scanned room h c in
    absurd (omega arith)
all_scanned room h c going calm epoch free none settled short used w Ended at [] is =
    shuts room h going epoch free none w (inr (subst (λ (r : Reading). HasNoMore r (unscanned_of h) (raw_of h) (length (scanned_of h))) (sym at) (used, is)))
all_scanned room h c going calm epoch free none settled short used w Ended at (b ∷ raw) is =
    w.no_line (record { going = going; calm = calm; epoch = epoch; at_end = at; used = used; some = (let l = ap length is in omega arith); sends = short; free = free; none_due = none })

pub over_full : (room : ℕ) (h : Journal) → Conducted room h → (b : ℕ) (bytes : List ℕ) → unscanned_of h ≡ b ∷ bytes → largest_job ≤ length (scanned_of h) → (r : Reading) → reading_of h ≡ r → HasNoMore r (unscanned_of h) (raw_of h) (length (scanned_of h))
over_full room h c b bytes next full Large at = (let s = few_scanned room h c in omega arith)
over_full room h c b bytes next full Ended at = absurd (too_long Ended at (λ f. f))
  where
    too_long : (r : Reading) → reading_of h ≡ r → (MayHaveRead r (length (read_of h)) → length (read_of h) ≤ largest_job) → ⊥
    too_long r at few =
        let f = few (subst (λ (q : Reading). MayHaveRead q (length (read_of h))) at (reading_fits room h c)) in
        let l = ap length (read_is room h c) in let m = length-append (scanned_of h) (unscanned_of h) in let n = ap length next in absurd (omega arith)
over_full room h c b bytes next full Failed at = absurd (too_long Failed at (λ f. f))
  where
    too_long : (r : Reading) → reading_of h ≡ r → (MayHaveRead r (length (read_of h)) → length (read_of h) ≤ largest_job) → ⊥
    too_long r at few =
        let f = few (subst (λ (q : Reading). MayHaveRead q (length (read_of h))) at (reading_fits room h c)) in
        let l = ap length (read_is room h c) in let m = length-append (scanned_of h) (unscanned_of h) in let n = ap length next in absurd (omega arith)
over_full room h c b bytes next full Stopped at = absurd (too_long Stopped at (λ f. f))
  where
    too_long : (r : Reading) → reading_of h ≡ r → (MayHaveRead r (length (read_of h)) → length (read_of h) ≤ largest_job) → ⊥
    too_long r at few =
        let f = few (subst (λ (q : Reading). MayHaveRead q (length (read_of h))) at (reading_fits room h c)) in
        let l = ap length (read_is room h c) in let m = length-append (scanned_of h) (unscanned_of h) in let n = ap length next in absurd (omega arith)

goes_on : (room : ℕ) (h : Journal) → Conducted room h → is_shut h ≡ false → has_limit h ≡ false → awaits_banner h ≡ false → to_store h ≡ [] → due_of h ≡ [] → IsSettled h → Waits room h → (t : Bool) → ends_sending (raw_of h) ≡ t → (left : List ℕ) → unscanned_of h ≡ left → ⊥
goes_on room h c going calm epoch free none settled w true long left is = shuts room h going epoch free none w (inl long)
goes_on room h c going calm epoch free none settled w false short [] is = all_scanned room h c going calm epoch free none settled short is w (reading_of h) refl (raw_of h) refl
goes_on room h c going calm epoch free none settled w false short (b ∷ bytes) is = by_room (nat_lt (length (scanned_of h)) largest_job) refl
  where
    next : unscanned_of h ≡ b ∷ drop 1 (unscanned_of h)
    next = is ∙ ap (λ (t : List ℕ). b ∷ drop 1 t) (sym is)

    below : (n : ℕ) → nat_lt n largest_job ≡ true → n < largest_job
    below n e = grind (arith, nat_tests)

    above : (n : ℕ) → nat_lt n largest_job ≡ false → largest_job ≤ n
    above n e = grind (arith, nat_tests)

    by_room : (t : Bool) → nat_lt (length (scanned_of h)) largest_job ≡ t → ⊥
    by_room true e = w.no_scan b (record { going = going; calm = calm; epoch = epoch; next = next; few = below (length (scanned_of h)) e; sends = short; free = free; none_due = none })
    by_room false e = shuts room h going epoch free none w (inr (over_full room h c b bytes is (above (length (scanned_of h)) e) (reading_of h) refl))

-- ---- a byte that may not be raised yet

-- a reset that is due has its mark, since a host that waits may not store it
behind_mark : (room : ℕ) (h : Journal) → Conducted room h → has_limit h ≡ false → (b : ℕ) → due_of h ≡ b ∷ drop 1 (due_of h) → Waits room h → is_reset b ≡ true → resets_of h < length (marks_of h)
behind_mark room h c calm b next w reset = by_marks (marks_are room h c)
  where
    same : b ≡ 0x18
    same = grind (arith, nat_tests)

    by_marks : (length (marks_of h) ≡ resets_of h) ⊎ ((length (marks_of h) ≡ resets_of h + 1) × (due_of h ≡ 0x18 ∷ [])) → resets_of h < length (marks_of h)
    by_marks (inl fresh) = absurd (w.no_mark (record { calm = calm; next = next ∙ ap (λ x. x ∷ drop 1 (due_of h)) same; fresh = fresh }))
    by_marks (inr more) = let m = more.0 in omega arith

early : (room : ℕ) (h : Journal) → Conducted room h → has_limit h ≡ false → to_store h ≡ [] → (b : ℕ) → due_of h ≡ b ∷ drop 1 (due_of h) → Waits room h → 0 < length (drop (answered_of h) (begun_of h))
early room h c calm free b next w =
    let begun = ap (λ (ls : List (List ℕ)). length (drop (answered_of h) ls)) (all_begun h free (begun_is room h c)) in
    let l = length-drop (answered_of h) (live_of h) in
    let few = (counts_are room h c).1 in
    let more : answered_of h ≢ length (live_of h) = (λ e. early_waiting room b h c calm w next (λ a q. e) (behind_mark room h c calm b next w)) in
    by_less (answered_of h) (length (live_of h)) (length (drop (answered_of h) (begun_of h))) more few (begun ∙ l)
  where
    by_less : (m n k : ℕ) → m ≢ n → m ≤ n → k ≡ n - m → 0 < k
    by_less m n k ne le e = grind arith

-- a line that was sent has no answer
unanswered : (room : ℕ) (h : Journal) → Conducted room h → to_store h ≡ [] → nat_lt (answered_of h) (length (live_of h)) ≡ true → 0 < length (drop (answered_of h) (begun_of h))
unanswered room h c free e =
    let begun = ap (λ (ls : List (List ℕ)). length (drop (answered_of h) ls)) (all_begun h free (begun_is room h c)) in
    let l = length-drop (answered_of h) (live_of h) in
    let more : answered_of h < length (live_of h) = grind (arith, nat_tests) in
    omega arith

waits_asking : (a : Asking) → is_waiting a ≡ true → is_asking a ≡ true
waits_asking Nothing e = absurd cc
waits_asking Awaits e = refl
waits_asking HasOne e = absurd cc
waits_asking AsksAgain e = absurd cc

calm_waits : (room : ℕ) (h : Journal) → 128 ≤ room → Conducted room h → Waits room h → is_shut h ≡ false → awaits_banner h ≡ false → has_limit h ≡ false → AwaitsSome h
calm_waits room h large c w going epoch calm = by_left (to_store h) refl
  where
    no_room : (n : ℕ) → (n ≤ room → ⊥) → room < n
    no_room n full = by_test (nat_lt room n) refl
      where
        by_test : (t : Bool) → nat_lt room n ≡ t → room < n
        by_test true e = grind (arith, nat_tests)
        by_test false e = absurd (full (grind (arith, nat_tests)))

    by_answers : to_store h ≡ [] → due_of h ≡ [] → is_greeted h ≡ true → awaits_any_report h ≡ false → (t : Bool) → nat_lt (answered_of h) (length (live_of h)) ≡ t → 0 < length (drop (answered_of h) (begun_of h))
    by_answers free none greeted no_report true e = unanswered room h c free e
    by_answers free none greeted no_report false e =
        let few = (counts_are room h c).1 in
        absurd (goes_on room h c going calm epoch free none (record { greeted = inl greeted; reported = no_report; answered = inl (grind (arith, nat_tests)) }) w (ends_sending (raw_of h)) refl (unscanned_of h) refl)

    by_awaited : to_store h ≡ [] → due_of h ≡ [] → is_greeted h ≡ true → (t : Bool) → awaits_any_report h ≡ t → AwaitsSome h
    by_awaited free none greeted true e = inr (inr (inl e))
    by_awaited free none greeted false e = inr (inl (by_answers free none greeted e (nat_lt (answered_of h) (length (live_of h))) refl))

    by_greeted : to_store h ≡ [] → due_of h ≡ [] → (t : Bool) → is_greeted h ≡ t → AwaitsSome h
    by_greeted free none true e = by_awaited free none e (awaits_any_report h) refl
    by_greeted free none false e = inl e

    by_due : to_store h ≡ [] → (due : List ℕ) → due_of h ≡ due → AwaitsSome h
    by_due free [] none = by_greeted free none (is_greeted h) refl
    by_due free (b ∷ due) is = inr (inl (early room h c calm free b (is ∙ ap (λ (t : List ℕ). b ∷ drop 1 t) (sym is)) w))

    by_report : (b : ℕ) → to_store h ≡ b ∷ drop 1 (to_store h) → (t : Bool) → awaits_report h ≡ t → AwaitsSome h
    by_report b next true e = inr (inr (inl (waits_asking (asking_of h) e)))
    by_report b next false e =
        inr (inl (too_many room h large c (no_room (length (on_link (drop (answered_of h) (live_of h)))) (λ few. w.no_store b (record { calm = calm; epoch = epoch; next = next; reported = e; few = few }))) (begun_is room h c)))

    by_left : (left : List ℕ) → to_store h ≡ left → AwaitsSome h
    by_left [] free = by_due free (due_of h) refl
    by_left (b ∷ left) is = by_report b (is ∙ ap (λ (t : List ℕ). b ∷ drop 1 t) (sym is)) (awaits_report h) refl

-- behind an alarm the link is closed
pub waits_are_for_answers : (room : ℕ) (h : Journal) → 128 ≤ room → Conducted room h → Waits room h → is_shut h ≡ false → AwaitsSome h
waits_are_for_answers room h large c w going = by_epoch (awaits_banner h) refl
  where
    by_alarm : awaits_banner h ≡ false → (t : Bool) → has_limit h ≡ t → AwaitsSome h
    by_alarm epoch true e = absurd (w.no_close (record { going = going; epoch = epoch; sent = inl e; all_raised = inl e }))
    by_alarm epoch false e = calm_waits room h large c w going epoch e

    by_epoch : (t : Bool) → awaits_banner h ≡ t → AwaitsSome h
    by_epoch true e = inr (inr (inr e))
    by_epoch false e = by_alarm e (has_limit h) refl

-- where nothing is to be stored, the lines that have no answer fit on the link
pub few_unanswered : (room : ℕ) (h : Journal) → Conducted room h → to_store h ≡ [] → length (on_link (drop (answered_of h) (live_of h))) ≤ room
few_unanswered room h c free = subst (λ (ls : List (List ℕ)). length (on_link (drop (answered_of h) ls)) ≤ room) (all_begun h free (begun_is room h c)) (sum_is room h c)
