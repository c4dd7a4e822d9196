-- What a host that keeps to its rules sends of a job, and how much is unanswered.
use Rattle.std.proofs.Common.{◌≡◌, ℕ, suc, zero, ◌+◌, ◌-◌, ◌≤◌, ◌⊎◌, inl, inr, Bool, true, false, cond, List, [], ◌∷◌, ◌++◌, length, take, drop, nat_lt, refl, sym, ap, ◌∙◌, arith, subst, append-nil, length-append}
use Rattle.std.specs.List.{list_any}
use Rattle.std.proofs.lemmas.List.{take_all, drop-drop, drop_all, length-take}
use Rattle.std.proofs.lemmas.List.Sums.{sum_by-append, sum_by-cons}
use Rattle.std.proofs.Math.Seq.{take-append-add}
use Rattle.status_report.specs.declared.Reply.{Reply}
use Rattle.status_report.specs.declared.Reply.TheVariants as replies
use Rattle.run_rules.specs.Lines.{HasNoLf, lines_of}
use Rattle.run_rules.specs.Readings.{largest_job, job_of}
use Rattle.run_rules.specs.Told.{is_error, errors_among}
use Rattle.run_rules.proofs.Cutting.{lines_with}
use Rattle.host_journal.specs.declared.Reading.{Reading}
use Rattle.host_journal.specs.declared.Reading.TheVariants.{Ended, Failed, Large, Stopped}
use Rattle.host_journal.specs.declared.Stop.TheVariants.{End, LongLine}
use Rattle.host_journal.specs.Links.{on_link}
use Rattle.status_report.specs.Answering.{is_answer, answers_in}
use Rattle.host_journal.specs.Jobs.{sent_text, is_long, ends_sending, lines_to_send, ScansFront, MayLeave, MayScan, long_line, stop_by, IsSentSoFar, IsSent}
use Rattle.host_journal.specs.Steps.{Journal, stored_of, got_of, answered_of, errors_of, begins, live_of, port_log, over_of, read_of, reading_of, scanned_of, unscanned_of, raw_of, cut_of, to_store, begun_of, has_limit, stop_at, job_stop_of, or_alarm, stop_of}
use Rattle.host_journal.specs.Steps.PortStep.{stored, dropped, marked, raised, got, no_reply, shut}
use Rattle.host_journal.specs.Steps.Step.{at_port, read_some, read_end, read_failed, scanned, line_over, wrote, gave_up, turned, attends}
use Rattle.stream_host.specs.Conduct.{Conducted, HasSentAll, HasNoMore}
use Rattle.stream_host.proofs.Pieces.{none_ends, sent_front, front_on, front_ends, sends_on, sends_none, no_whole, few_cut, few_whole}
use Rattle.stream_host.proofs.Texts.{none_long}
use Rattle.stream_host.proofs.Epochs.{answered_live}
use Rattle.stream_host.proofs.Keeping.{read_is, stored_is, IsCut, cut_is, sendable_is, ends_now, any_now, early_is, few_scanned, reading_fits, some_is}

-- ---- the job

-- of the job, what is read and not scanned
abbrev pub left_of : Journal → List ℕ
left_of h = take (largest_job - length (scanned_of h)) (unscanned_of h)

pub job_is : (room : ℕ) (h : Journal) → Conducted room h → job_of (read_of h) ≡ scanned_of h ++ left_of h
job_is room h c =
    let few = few_scanned room h c in
    let e : largest_job ≡ length (scanned_of h) + (largest_job - length (scanned_of h)) = omega arith in
    ap job_of (read_is room h c)
    ∙ ap (λ n. take n (scanned_of h ++ unscanned_of h)) e
    ∙ take-append-add (scanned_of h) (unscanned_of h) (largest_job - length (scanned_of h))

none_of : (n : ℕ) (xs : List ℕ) → xs ≡ [] → take n xs ≡ []
none_of n xs e = ap (take n) e ∙ take_all n [] (omega arith)

-- ---- the lines that are sent, so far

pub sends_are : (room : ℕ) (h : Journal) → Conducted room h → lines_to_send (reading_of h) (job_of (read_of h)) ≡ cut_of h ++ lines_to_send (reading_of h) (raw_of h ++ left_of h)
sends_are room h c = ap (lines_to_send (reading_of h)) (job_is room h c) ∙ by_cut (cut_is room h c)
  where
    by_cut : IsCut h → lines_to_send (reading_of h) (scanned_of h ++ left_of h) ≡ cut_of h ++ lines_to_send (reading_of h) (raw_of h ++ left_of h)
    by_cut (inl is) = sends_on (reading_of h) (scanned_of h) (cut_of h) (raw_of h) (left_of h) is (sendable_is room h c)
    by_cut (inr over) =
        let none : left_of h ≡ [] = none_of (largest_job - length (scanned_of h)) (unscanned_of h) over.used in
        let at : (r : Reading) → r ≡ Ended → lines_to_send r (scanned_of h) ≡ cut_of h ++ lines_to_send r [] = (λ r e.
        ap (λ q. lines_to_send q (scanned_of h)) e ∙ ap sent_front (over.whole ∙ sym (append-nil (cut_of h))) ∙ front_on (cut_of h) [] (sendable_is room h c)
        ∙ ap (λ q. cut_of h ++ lines_to_send q []) (sym e)) in
        ap (λ (t : List ℕ). lines_to_send (reading_of h) (scanned_of h ++ t)) none
        ∙ ap (lines_to_send (reading_of h)) (append-nil (scanned_of h))
        ∙ at (reading_of h) over.at_end
        ∙ ap (λ (t : List ℕ). cut_of h ++ lines_to_send (reading_of h) t) (sym (ap (λ (t : List ℕ). t ++ left_of h) over.none ∙ none))

-- ---- at the end nothing is left to send

no_more : (r : Reading) (unread raw : List ℕ) (n : ℕ) → HasNoLf raw ⊎ (raw ≡ []) → HasNoMore r unread raw n → lines_to_send r (raw ++ take (largest_job - n) unread) ≡ []
no_more Ended unread raw n none more = ap (lines_to_send Ended) (ap (λ (t : List ℕ). t ++ take (largest_job - n) unread) more.1 ∙ none_of (largest_job - n) unread more.0)
no_more Failed unread raw n none more = ap (λ (t : List ℕ). lines_to_send Failed (raw ++ t)) (none_of (largest_job - n) unread more) ∙ ap (lines_to_send Failed) (append-nil raw) ∙ no_whole_sent raw none
  where
    no_whole_sent : (raw : List ℕ) → HasNoLf raw ⊎ (raw ≡ []) → lines_to_send Failed raw ≡ []
    no_whole_sent raw (inl none) = ap sent_front (no_whole raw none)
    no_whole_sent raw (inr none) = ap (lines_to_send Failed) none
no_more Large unread raw n none more =
    let z : largest_job - n ≡ 0 = (let m : n ≡ largest_job = more in omega arith) in
    ap (λ k. lines_to_send Large (raw ++ take k unread)) z ∙ ap (lines_to_send Large) (append-nil raw) ∙ no_whole_sent raw none
  where
    no_whole_sent : (raw : List ℕ) → HasNoLf raw ⊎ (raw ≡ []) → lines_to_send Large raw ≡ []
    no_whole_sent raw (inl none) = ap sent_front (no_whole raw none)
    no_whole_sent raw (inr none) = ap (lines_to_send Large) none
no_more Stopped unread raw n none more = absurd more

raw_has_none : (h : Journal) → IsCut h → HasNoLf (raw_of h) ⊎ (raw_of h ≡ [])
raw_has_none h (inl is) = inl is.partial
raw_has_none h (inr over) = inr over.none

none_ends_in : (raw : List ℕ) → raw ≡ [] → ends_sending raw ≡ true → ⊥
none_ends_in raw e l = absurd (let f = sym none_ends ∙ ap ends_sending (sym e) ∙ l in cc)

pub none_left : (room : ℕ) (h : Journal) → Conducted room h → HasSentAll h → lines_to_send (reading_of h) (raw_of h ++ left_of h) ≡ []
none_left room h c all = by_all all.all (raw_has_none h (cut_is room h c))
  where
    by_all : (ends_sending (raw_of h) ≡ true) ⊎ HasNoMore (reading_of h) (unscanned_of h) (raw_of h) (length (scanned_of h)) → HasNoLf (raw_of h) ⊎ (raw_of h ≡ []) → lines_to_send (reading_of h) (raw_of h ++ left_of h) ≡ []
    by_all (inl l) (inl none) = sends_none (reading_of h) (raw_of h) (left_of h) none l
    by_all (inl l) (inr none) = absurd (none_ends_in (raw_of h) none l)
    by_all (inr more) none = no_more (reading_of h) (unscanned_of h) (raw_of h) (length (scanned_of h)) none more

-- all lines that are to be sent are, and all of them is stored
pub all_sent : (room : ℕ) (h : Journal) → Conducted room h → HasSentAll h → cut_of h ≡ lines_to_send (reading_of h) (job_of (read_of h))
all_sent room h c e =
    sym (append-nil (cut_of h)) ∙ ap (λ (ls : List (List ℕ)). cut_of h ++ ls) (sym (none_left room h c e)) ∙ sym (sends_are room h c)

pub all_stored : (room : ℕ) (h : Journal) → Conducted room h → HasSentAll h → stored_of h ≡ on_link (cut_of h)
all_stored room h c e =
    sym (append-nil (stored_of h)) ∙ ap (λ (t : List ℕ). stored_of h ++ t) (sym e.free) ∙ stored_is room h c

-- ---- what is scanned

pub scans_are : (room : ℕ) (h : Journal) → Conducted room h → ScansFront (job_of (read_of h)) (scanned_of h)
scans_are room h c = record { left = left_of h; front = job_is room h c; early = early_is room h c }

leaves : (r : Reading) (unread raw : List ℕ) (n : ℕ) → HasNoMore r unread raw n → MayLeave r (take (largest_job - n) unread)
leaves Ended unread raw n more = none_of (largest_job - n) unread more.0
leaves Failed unread raw n more = subst HasNoLf (sym (none_of (largest_job - n) unread more)) tt
leaves Large unread raw n more = let z : largest_job - n ≡ 0 = (let m : n ≡ largest_job = more in omega arith) in ap (λ k. take k unread) z
leaves Stopped unread raw n more = absurd more

pub scan_is : (room : ℕ) (h : Journal) → Conducted room h → HasSentAll h → MayScan (reading_of h) (job_of (read_of h)) (scanned_of h)
unfolding scans_are
scan_is room h c e = record { scans = scans_are room h c; whole = λ none. by_all e.all (sym (ends_now room h c) ∙ none) }
  where
    by_all : (ends_sending (raw_of h) ≡ true) ⊎ HasNoMore (reading_of h) (unscanned_of h) (raw_of h) (length (scanned_of h)) → ends_sending (raw_of h) ≡ false → MayLeave (reading_of h) (left_of h)
    by_all (inl l) none = absurd (let f = sym l ∙ none in cc)
    by_all (inr more) none = leaves (reading_of h) (unscanned_of h) (raw_of h) (length (scanned_of h)) more

-- ---- why it stops

some_ends : (raw : List ℕ) → ends_sending raw ≡ true → nat_lt 0 (length raw) ≡ true
some_ends [] l = absurd (none_ends_in [] refl l)
some_ends (x ∷ xs) l = some_is (x ∷ xs) (omega arith)

first_ends : (room : ℕ) (h : Journal) → Conducted room h → ends_sending (raw_of h) ≡ true → sent_front (lines_of (scanned_of h)) ≡ cut_of h
first_ends room h c l = by_cut (cut_is room h c)
  where
    by_cut : IsCut h → sent_front (lines_of (scanned_of h)) ≡ cut_of h
    by_cut (inl is) =
        ap sent_front (lines_with (scanned_of h) (cut_of h) (raw_of h) is (some_ends (raw_of h) l))
        ∙ front_on (cut_of h) (raw_of h ∷ []) (sendable_is room h c)
        ∙ ap (λ (ls : List (List ℕ)). cut_of h ++ ls) (front_ends (raw_of h) [] l) ∙ append-nil (cut_of h)
    by_cut (inr over) = absurd (none_ends_in (raw_of h) over.none l)

stop_cond : (text : List ℕ) (lines : List (List ℕ)) (long long_in : Bool) → long_in ≡ long → (long ≡ true → sent_front (lines_of text) ≡ lines)
    → cond long (LongLine (length lines + 1)) End ≡ cond long_in (long_line (lines_of text)) End
stop_cond text lines true long_in e first =
    ap (λ (ls : List (List ℕ)). LongLine (length ls + 1)) (sym (first refl)) ∙ ap (λ b. cond b (long_line (lines_of text)) End) (sym e)
stop_cond text lines false long_in e first = ap (λ b. cond b (long_line (lines_of text)) End) (sym e)

pub stop_is : (room : ℕ) (h : Journal) → Conducted room h → job_stop_of h ≡ stop_by (reading_of h) (scanned_of h)
stop_is room h c = by_reading (reading_of h)
  where
    else_by : cond (is_long (raw_of h)) (LongLine (length (cut_of h) + 1)) End ≡ stop_by Ended (scanned_of h)
    else_by = stop_cond (scanned_of h) (cut_of h) (is_long (raw_of h)) (list_any is_long (lines_of (scanned_of h))) (any_now room is_long none_long (λ l e. e) h c) (first_ends room h c)

    by_reading : (r : Reading) → stop_at r (raw_of h) (length (cut_of h)) ≡ stop_by r (scanned_of h)
    by_reading Large = refl
    by_reading Ended = else_by
    by_reading Failed = else_by
    by_reading Stopped = else_by

-- an alarm is a cause where the job gives none
pub stop_behind : (room : ℕ) (h : Journal) → Conducted room h → stop_of h ≡ or_alarm (has_limit h) (over_of h) (stop_by (reading_of h) (scanned_of h))
stop_behind room h c = ap (λ s. or_alarm (has_limit h) (over_of h) s) (stop_is room h c)

-- where no alarm was got, it is none
pub stop_calm : (h : Journal) → has_limit h ≡ false → stop_of h ≡ job_stop_of h
stop_calm h calm = ap (λ b. or_alarm b (over_of h) (job_stop_of h)) calm

-- ---- how much

pub few_lines_cut : (room : ℕ) (h : Journal) → Conducted room h → (length (cut_of h) ≤ largest_job) × (length (on_link (cut_of h)) ≤ largest_job + 1)
few_lines_cut room h c = by_cut (cut_is room h c)
  where
    by_cut : IsCut h → (length (cut_of h) ≤ largest_job) × (length (on_link (cut_of h)) ≤ largest_job + 1)
    by_cut (inl is) = let f = few_whole (scanned_of h) (cut_of h) (raw_of h) is in let s = few_scanned room h c in let a = f.0 in let b = f.1 in (omega arith, omega arith)
    by_cut (inr over) = let f = few_cut (scanned_of h) (cut_of h) over.whole in let s = few_scanned room h c in let a = f.0 in let b = f.1 in (omega arith, omega arith)

pub few_stored : (room : ℕ) (h : Journal) → Conducted room h → length (stored_of h) ≤ largest_job + 1
few_stored room h c = let l = length-append (stored_of h) (to_store h) in let e = ap length (stored_is room h c) in let f = (few_lines_cut room h c).1 in omega arith

-- ---- a whole run, and a run so far

pub sent_so_far : (room : ℕ) (h : Journal) → Conducted room h → IsSentSoFar (read_of h) (reading_of h) (scanned_of h) (cut_of h) (job_stop_of h)
sent_so_far room h c = record {
  fits = reading_fits room h c;
  scans = scans_are room h c;
  later = lines_to_send (reading_of h) (raw_of h ++ left_of h);
  sent = sends_are room h c;
  cause = stop_is room h c;
}

pub sent_all : (room : ℕ) (h : Journal) → Conducted room h → HasSentAll h → stop_of h ≡ job_stop_of h → IsSent (read_of h) (reading_of h) (scanned_of h) (cut_of h) (stop_of h)
sent_all room h c e stop = record { fits = reading_fits room h c; scans = scan_is room h c e; sent = all_sent room h c e; cause = stop ∙ stop_is room h c }

-- ---- the count

abbrev unanswered : List Reply → List (List ℕ) → ℕ
unanswered replies lines = length (on_link (drop (answers_in replies) lines))

pub answers_push : (rs : List Reply) (r : Reply) → answers_in (rs ++ r ∷ []) ≡ answers_in rs + cond (is_answer r) 1 0
answers_push rs r = let e = sum_by-append (λ x. cond (is_answer x) 1 0) rs (r ∷ []) in omega arith

link_drop : (n : ℕ) (lines : List (List ℕ)) → length (on_link (drop n lines)) ≤ length (on_link lines)
link_drop zero lines = omega arith
link_drop (suc n) [] = omega arith
link_drop (suc n) (l ∷ ls) = let m = link_drop n ls in let a = length-append (sent_text l ++ 10 ∷ []) (on_link ls) in omega arith

fewer_left : (room : ℕ) (rs : List Reply) (r : Reply) (lines : List (List ℕ)) → unanswered rs lines ≤ room → unanswered (rs ++ r ∷ []) lines ≤ room
fewer_left room rs r lines few =
    let e = ap (λ n. length (on_link (drop n lines))) (answers_push rs r) in
    let d = ap (λ (ls : List (List ℕ)). length (on_link ls)) (drop-drop (cond (is_answer r) 1 0) (answers_in rs) lines) in
    let m = link_drop (cond (is_answer r) 1 0) (drop (answers_in rs) lines) in
    omega arith

-- the lines that are sent and have no answer fit on the link
pub sum_is : (room : ℕ) (h : Journal) → Conducted room h → length (on_link (drop (answered_of h) (begun_of h))) ≤ room
sum_is room [] c = omega arith
sum_is room (at_port (stored b) ∷ h) c = c.0.few
sum_is room (at_port (dropped b) ∷ h) c = absurd c.0
sum_is room (at_port marked ∷ h) c = sum_is room h c.1
sum_is room (at_port (raised b down) ∷ h) c = sum_is room h c.1
sum_is room (at_port (got r) ∷ h) c = by_begins (begins r (port_log h)) (sum_is room h c.1)
  where
    none_left : length (on_link (drop (answers_in (got_of h ++ r ∷ [])) (take (answered_of h) (begun_of h)))) ≤ room
    none_left =
        let p = answers_push (got_of h) r in let l = length-take (answered_of h) (begun_of h) in
        let e = ap (λ (ls : List (List ℕ)). length (on_link ls)) (drop_all (answers_in (got_of h ++ r ∷ [])) (take (answered_of h) (begun_of h)) (omega arith)) in omega arith

    by_begins : (t : Bool) → unanswered (got_of h) (begun_of h) ≤ room → unanswered (got_of h ++ r ∷ []) (cond t (take (answered_of h) (begun_of h)) (begun_of h)) ≤ room
    by_begins true few = none_left
    by_begins false few = fewer_left room (got_of h) r (begun_of h) few
sum_is room (at_port no_reply ∷ h) c = sum_is room h c.1
sum_is room (at_port shut ∷ h) c = sum_is room h c.1
sum_is room (read_some bytes ∷ h) c = sum_is room h c.1
sum_is room (read_end ∷ h) c = sum_is room h c.1
sum_is room (read_failed ∷ h) c = sum_is room h c.1
sum_is room (scanned b ∷ h) c = sum_is room h c.1
sum_is room (line_over ∷ h) c = sum_is room h c.1
sum_is room (wrote n ∷ h) c = sum_is room h c.1
sum_is room (gave_up ∷ h) c = sum_is room h c.1
sum_is room (turned t ∷ h) c = sum_is room h c.1
sum_is room (attends ∷ h) c = sum_is room h c.1

errors_below : (rs : List Reply) → errors_among rs ≤ answers_in rs
errors_below [] = omega arith
errors_below (r ∷ rs) =
    let a = sum_by-cons (λ x. cond (is_error x) 1 0) r rs in
    let b = sum_by-cons (λ x. cond (is_answer x) 1 0) r rs in
    let m = errors_below rs in let o = one r in omega arith
  where
    one : (r : Reply) → cond (is_error r) 1 0 ≤ cond (is_answer r) 1 0
    one (replies.Error n) = omega arith
    one replies.Ok = omega arith
    one replies.Banner = omega arith
    one (replies.Alarm n) = omega arith
    one (replies.Message m) = omega arith
    one (replies.Report t) = omega arith
    one (replies.Setting n v) = omega arith
    one (replies.Modes m) = omega arith
    one (replies.Offset r a) = omega arith
    one replies.Bye = omega arith

pub counts_are : (room : ℕ) (h : Journal) → Conducted room h → (errors_of h ≤ answered_of h) × (answered_of h ≤ length (live_of h)) × (length (cut_of h) ≤ largest_job)
counts_are room h c = (errors_below (got_of h), answered_live room h c, (few_lines_cut room h c).0)
