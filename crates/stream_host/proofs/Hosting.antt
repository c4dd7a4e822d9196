-- What one step of a host makes of what it keeps.
use Rattle.std.proofs.Common.{◌≡◌, ◌↔◌, ℕ, not, ◌&&◌, ◌+◌, ◌-◌, ◌^◌, ◌≤◌, ◌<◌, ◌⊎◌, inl, inr, Bool, true, false, cond, List, [], ◌∷◌, ◌++◌, length, map, take, drop, nat_eq, nat_lt, nat_le, sum, option_to_list, Some, None, refl, sym, ap, ◌∙◌, arith, subst, length-append}
use Rattle.std.proofs.lemmas.Bool.Decides.{nat_tests}
use Rattle.std.proofs.lemmas.List.{map-append, drop-append-le, length-drop, length-take}
use Rattle.std.proofs.lemmas.List.Sums.{sum_by-cons}
use Rattle.run_rules.specs.Readings.{largest_job}
use Rattle.host_journal.specs.declared.Reading.{Reading}
use Rattle.host_journal.specs.declared.Reading.TheVariants.{Ended, Failed, Large, Stopped}
use Rattle.stream_host.specs.declared.line.SentLine.{SentLine}
use Rattle.stream_host.specs.declared.reader.Reader.{Reader}
use Rattle.stream_host.specs.declared.host.Host.{Host}
use Rattle.host_journal.specs.Links.{on_link}
use Rattle.host_journal.specs.Jobs.{resume, is_reset, is_long, sent_text, ends_sending, MayHaveRead}
use Rattle.host_journal.specs.Holding.{held_after, has_pause, pauses, resumed_after}
use Rattle.host_journal.specs.Steps.{Journal, port_log, got_of, has_limit, answered_of, read_of, reading_of, scanned_of, unscanned_of, raw_of, cut_of, live_of, over_of, marks_of, resets_of, banners_of, awaits_banner, to_store, begun_of, due_of, asking_of, holds_of, pause_of, resumed_at, asked_more, more_served, HostLog, is_attended, is_shut, polls_of, empty_polls, long_polls, resumes_behind, resumes_next}
use Rattle.host_journal.specs.Steps.PortStep.{marked, raised, no_reply, shut}
use Rattle.host_journal.specs.Steps.Step.{at_port, scanned}
use Rattle.code_table.specs.Tables.{query}
use Rattle.host_journal.specs.declared.asking.Asking.{Asking}
use Rattle.host_journal.specs.declared.asking.Asking.TheVariants.{Nothing}
use Rattle.stream_host.specs.Conduct.{Conducted, AreAnswered, waits_for_lines, MayScanNext, MayMark, MayRaise, MayShut, HasSentAll, HasNoMore}
use Rattle.stream_host.specs.Hosts.{HostFits, HasLine, KeepsLine, KeepsDue, KeepsPolls, KeepsJob, KeepsCounts, is_too_long, line_length, lengths, IsSummed, unread, KeepsResets, awaits_by, HasRoom, MayScanOn, MayReadOn, IsPiece}
use Rattle.stream_host.specs.declared.resets.Resets.{Resets}
use Rattle.stream_host.specs.declared.counts.Counts.{Counts}
use Rattle.status_report.specs.declared.Reply.{Reply}
use Rattle.status_report.specs.Answering.{answers_in}
use Rattle.host_journal.specs.Ports.{TakesMark, TakesRaise, IsOpen}
use Rattle.stream_host.proofs.Texts.{none_long, few_bytes}
use Rattle.stream_host.proofs.Raised.{few_resets, banners_low}
use Rattle.stream_host.proofs.Epochs.{marks_between, all_lines}
use Rattle.stream_host.proofs.Kept.{kept_whole}
use Rattle.stream_host.proofs.Keeping.{read_is, few_scanned, reading_fits}
use Rattle.stream_host.proofs.Sending as sending
use Rattle.std.specs.declared.option.Option.{Option}
use Rattle.stream_host.proofs.Raising.{none_at_lf, few_queries}
use Rattle.stream_host.proofs.Waiting.{all_begun, begun_is, over_full}

-- ---- an alarm

pub calm_now : {room : ℕ} (s : Host) (h : Journal) → HostFits room s h → s.alarm ≡ false → has_limit h ≡ false
calm_now {room} s h f calm = sym f.alarm_is ∙ calm

pub alarm_now : {room : ℕ} (s : Host) (h : Journal) → HostFits room s h → s.alarm ≡ true → has_limit h ≡ true
alarm_now {room} s h f alarm = sym f.alarm_is ∙ alarm

-- ---- the line in hand

-- a line that is being scanned ends the sending where it is long
pub ends_is : {room : ℕ} (s : Host) (h : Journal) → HostFits room s h → s.line.whole ≡ false → ends_sending (raw_of h) ≡ is_too_long s.line
ends_is {room} s h f e = sym (f.line_is.scanning e).0.long

-- whichever it is
long_by : (l : SentLine) (raw left : List ℕ) (whole : Bool) → l.whole ≡ whole → KeepsLine l raw left → l.long ≡ is_long raw
long_by l raw left false e k = (k.scanning e).0.long
long_by l raw left true e k = let i = k.storing e in i.sends ∙ sym none_long ∙ ap is_long (sym i.none)

pub is_long_now : {room : ℕ} (s : Host) (h : Journal) → HostFits room s h → s.line.long ≡ is_long (raw_of h)
is_long_now {room} s h f = long_by s.line (raw_of h) (to_store h) s.line.whole refl f.line_is

-- a line that is not too long is kept whole
short_by : (raw : List ℕ) → is_long raw ≡ false → nat_lt 127 (length (sent_text raw)) ≡ false
short_by raw short = let f = few_bytes raw short in by_test (length (sent_text raw)) f
  where
    by_test : (n : ℕ) → n ≤ 127 → nat_lt 127 n ≡ false
    by_test n few = grind (arith, nat_tests)

-- a line is over
pub finished : (l m : SentLine) (raw : List ℕ) → HasLine l raw → is_too_long l ≡ false → m.kept.items ≡ l.kept.items → is_too_long m ≡ is_too_long l → m.whole ≡ true → m.place ≡ 0
    → KeepsLine m [] (sent_text raw ++ 10 ∷ [])
finished l m raw has sends kept same whole place = record {
  scanning = λ e. absurd (let f = sym whole ∙ e in cc);
  storing = λ e. record {
    none = refl;
    sends = same ∙ sends;
    within = omega arith;
    left_is = ap (λ (k : List ℕ). k ++ 10 ∷ []) (sym (kept ∙ all_kept)) ∙ ap (λ n. drop n (m.kept.items ++ 10 ∷ [])) (sym place);
  };
}
  where
    all_kept : l.kept.items ≡ sent_text raw
    all_kept = kept_whole 127 l.kept.items (sent_text raw) has.kept (short_by raw (sym has.long ∙ sends))

pub size_is : (l : SentLine) (raw : List ℕ) (n : ℕ) → HasLine l raw → is_too_long l ≡ false → n ≡ length l.kept.items + 1 → n ≡ line_length raw
size_is l raw n has sends size = size ∙ ap (λ (k : List ℕ). length k + 1) (kept_whole 127 l.kept.items (sent_text raw) has.kept (short_by raw (sym has.long ∙ sends)))

-- what is kept of it asks for a pause or not
pub pauses_is : (l : SentLine) (raw : List ℕ) (p : Bool) → HasLine l raw → is_too_long l ≡ false → p ≡ has_pause l.kept.items → p ≡ pauses raw
pauses_is l raw p has sends is = is ∙ ap has_pause (kept_whole 127 l.kept.items (sent_text raw) has.kept (short_by raw (sym has.long ∙ sends)))

-- ---- the counts

-- a line more is counted
pub counted_line : (c d : Counts) (raw : List ℕ) (cuts : List (List ℕ)) (rs : List Reply) (n : ℕ) → KeepsCounts c cuts rs → answers_in rs ≤ length cuts
    → lengths d.unanswered ≡ lengths c.unanswered ++ n ∷ [] → IsSummed d.unanswered → d.lines ≡ c.lines + 1 → d.answered ≡ c.answered → d.errors ≡ c.errors → n ≡ line_length raw
    → KeepsCounts d (cuts ++ raw ∷ []) rs
counted_line c d raw cuts rs n k few more summed lines answered errors size = record {
  unanswered_are =
      more ∙ ap (λ (ls : List ℕ). ls ++ n ∷ []) k.unanswered_are ∙ ap (λ m. map line_length (drop (answers_in rs) cuts) ++ m ∷ []) size
      ∙ sym (map-append line_length (drop (answers_in rs) cuts) (raw ∷ []))
      ∙ ap (map line_length) (sym (drop-append-le (answers_in rs) cuts (raw ∷ []) few));
  summed = summed;
  lines_are = lines ∙ ap (λ m. m + 1) k.lines_are ∙ sym (length-append cuts (raw ∷ []));
  answered_is = answered ∙ k.answered_is;
  errors_are = errors ∙ k.errors_are;
}

-- the number of the line that asks for a pause is no count
same_counts : (c : Counts) (n : ℕ) (cuts : List (List ℕ)) (rs : List Reply) → KeepsCounts c cuts rs → KeepsCounts (record c { pause_at = n }) cuts rs
same_counts c n cuts rs k = record { unanswered_are = k.unanswered_are; summed = k.summed; lines_are = k.lines_are; answered_is = k.answered_is; errors_are = k.errors_are }

-- the line that is over may ask for one
pub pause_behind_line : (c d : Counts) (raw : List ℕ) (cuts : List (List ℕ)) (rs : List Reply) (n : ℕ) → KeepsCounts c cuts rs → c.pause_at ≡ n → d.pause_at ≡ cond (pauses raw) (c.lines + 1) c.pause_at
    → d.pause_at ≡ cond (pauses raw) (length cuts + 1) n
pause_behind_line c d raw cuts rs n k is asks = asks ∙ ap (λ m. cond (pauses raw) (m + 1) c.pause_at) k.lines_are ∙ ap (cond (pauses raw) (length cuts + 1)) is

-- the sum of the lengths is what the lines take on the link
link_sum : (lines : List (List ℕ)) → sum (map line_length lines) ≡ length (on_link lines)
link_sum [] = refl
link_sum (l ∷ ls) =
    let a = sum_by-cons (λ x. x) (line_length l) (map line_length ls) in let m = link_sum ls in
    let b = length-append (sent_text l ++ 10 ∷ []) (on_link ls) in let d = length-append (sent_text l) (10 ∷ []) in omega arith

few_lengths : (lines : List (List ℕ)) → length (map line_length lines) ≤ sum (map line_length lines)
few_lengths [] = omega arith
few_lengths (l ∷ ls) = let a = sum_by-cons (λ x. x) (line_length l) (map line_length ls) in let m = few_lengths ls in omega arith

pub total_is : {room : ℕ} (s : Host) (h : Journal) → HostFits room s h → s.counts.unanswered.total ≡ length (on_link (drop (answered_of h) (live_of h)))
total_is {room} s h f = f.counts_are.summed ∙ ap sum f.counts_are.unanswered_are ∙ link_sum (drop (answered_of h) (live_of h))

-- where nothing is to be stored, a line more may be counted
pub has_room : {room : ℕ} (s : Host) (h : Journal) → HostFits room s h → to_store h ≡ [] → HasRoom s.counts
has_room {room} s h f free =
    let begun : begun_of h ≡ live_of h = all_begun h free (begun_is room h f.conducted) in
    let small : length (on_link (drop (answered_of h) (live_of h))) ≤ room = subst (λ (ls : List (List ℕ)). length (on_link (drop (answered_of h) ls)) ≤ room) begun (sending.sum_is room h f.conducted) in
    let most_room = f.sized.1 in
    let total = total_is s h f in
    let few = few_lengths (drop (answered_of h) (live_of h)) in
    let same = ap length f.counts_are.unanswered_are in
    let link = link_sum (drop (answered_of h) (live_of h)) in
    let most = (sending.counts_are room h f.conducted).2 in
    let lines = f.counts_are.lines_are in
    let all = f.all_are in let every = all_lines room h f.conducted in
    record { few = omega arith; small = omega arith; summed = f.counts_are.summed; lines = omega arith; all = omega arith }

pub few_live : {room : ℕ} (s : Host) (h : Journal) → HostFits room s h → s.counts.lines + 1 < 2 ^ 32
few_live {room} s h f =
    let most = (sending.counts_are room h f.conducted).2 in let lines = f.counts_are.lines_are in
    let every = all_lines room h f.conducted in let all = f.all_are in omega arith

-- ---- a byte is raised

pub none_due_by : {room : ℕ} (s : Host) (h : Journal) → HostFits room s h → s.line.due ≡ None → due_of h ≡ []
none_due_by {room} s h f none = sym f.due_is ∙ ap option_to_list none

-- ---- the polls

-- so many polls are counted
abbrev counted_to : ℕ → ℕ
counted_to n = cond (nat_lt n long_polls) n long_polls

-- one more is counted, as long as their number tells more
counted_on : (count n : ℕ) → count ≡ counted_to n → cond (nat_lt count long_polls) (count + 1) count ≡ counted_to (n + 1)
counted_on count n is = grind (arith, nat_tests)

-- which is the last before a resume
counted_all : (count n : ℕ) → count ≡ counted_to n → cond (nat_lt count long_polls) (count + 1) count ≡ empty_polls → n + 1 ≡ empty_polls
counted_all count n is all = grind (arith, nat_tests)

tired_now : (attended closed : Bool) (n : ℕ) → (attended && not closed) ≡ false → n ≡ empty_polls → resumes_behind attended closed n ≡ true
tired_now true true n by e = grind (arith, nat_tests)
tired_now true false n by e = absurd cc
tired_now false closed n by e = grind (arith, nat_tests)

not_tired : (attended closed : Bool) (n : ℕ) → ((n ≡ empty_polls) → ⊥) ⊎ ((attended && not closed) ≡ true) → resumes_behind attended closed n ≡ false
not_tired true false n by = refl
not_tired true true n (inl other) = grind (arith, nat_tests)
not_tired true true n (inr by) = absurd cc
not_tired false closed n (inl other) = grind (arith, nat_tests)
not_tired false closed n (inr by) = absurd cc

pub fresh_polls : (attended closed : Bool) → resumes_behind attended closed 0 ≡ false
fresh_polls true true = refl
fresh_polls true false = refl
fresh_polls false closed = refl

pub never_raised : {room : ℕ} (s : Host) (b : ℕ) (h : Journal) → HostFits room s h → due_of h ≡ [] → MayRaise b h → ⊥
never_raised {room} s b h f none may = absurd (let e = sym none ∙ may.next f.polls_are.rested in cc)

pub due_next : {room : ℕ} (s : Host) (b : ℕ) (h : Journal) → HostFits room s h → s.line.due ≡ Some b → due_of h ≡ b ∷ []
due_next {room} s b h f is = sym f.due_is ∙ ap option_to_list is

-- no more reports are asked for than bytes were scanned
pub takes_raise : (room : ℕ) (b : ℕ) (h : Journal) → Conducted room h → TakesRaise b (port_log h)
takes_raise room b h c query_now = let q = few_queries room h c in let n = few_scanned room h c in omega arith

pub takes_resume : (l : HostLog) → TakesRaise resume l
takes_resume l query_now = absurd cc

-- a byte that waits for lines does so while fewer are answered than were scanned whole
pub early_by : {room : ℕ} (s : Host) (b : ℕ) (h : Journal) (t : Bool) → HostFits room s h → s.attended ≡ false → waits_for_lines b ≡ true → t ≡ nat_lt s.counts.answered s.counts.lines → (t ≡ false) ↔ (is_attended h ≡ false → waits_for_lines b ≡ true → AreAnswered h)
early_by {room} s b h t f alone is test = (
  λ none a q. (let few = (sending.counts_are room h f.conducted).1 in let a = f.counts_are.answered_is in let l = f.counts_are.lines_are in grind (arith, nat_tests)),
  λ after. (let all = after (sym f.attended_is ∙ alone) is in let a = f.counts_are.answered_is in let l = f.counts_are.lines_are in grind (arith, nat_tests)),
)

same_line : (l : SentLine) (raw left : List ℕ) (d : Option ℕ) → KeepsLine l raw left → KeepsLine (record l { due = d }) raw left
same_line l raw left d k = record {
  scanning = λ e. let n = k.scanning e in (record { stripper = n.0.stripper; kept = n.0.kept; long = n.0.long; begun = n.0.begun }, n.1);
  storing = λ e. let n = k.storing e in record { none = n.none; sends = n.sends; within = n.within; left_is = n.left_is };
}

-- the mark of the next reset is stored
marked_now : {room : ℕ} (s : Host) (h : Journal) → HostFits room s h → s.resets.marked ≡ true → resets_of h < length (marks_of h)
marked_now {room} s h f e = let m = f.resets_are.marked_is in by_test (sym m ∙ e)
  where
    by_test : nat_lt (resets_of h) (length (marks_of h)) ≡ true → resets_of h < length (marks_of h)
    by_test e = grind (arith, nat_tests)

-- a byte is raised
raised_resets : (r : Resets) (t : Bool) (raised banners marks : ℕ) → KeepsResets r raised banners marks → (t ≡ true → marks ≤ raised + 1)
    → KeepsResets (record r { raised = cond t (r.raised + 1) r.raised; marked = cond t false r.marked }) (cond t (raised + 1) raised) banners marks
raised_resets r true n banners marks k few = record { raised_is = ap (λ m. m + 1) k.raised_is; banners_are = k.banners_are; marked_is = sym (none_more n marks (few refl)) }
  where
    none_more : (n m : ℕ) → m ≤ n + 1 → nat_lt (n + 1) m ≡ false
    none_more n m le = grind (arith, nat_tests)
raised_resets r false n banners marks k few = record { raised_is = k.raised_is; banners_are = k.banners_are; marked_is = k.marked_is }

pub takes_mark : {room : ℕ} (s : Host) (h : Journal) → HostFits room s h → TakesMark (port_log h)
takes_mark {room} s h f = let r = few_resets room h f.conducted in let m = (marks_between room h f.conducted).1 in let n = few_scanned room h f.conducted in omega arith

pub few_raised : {room : ℕ} (s : Host) (h : Journal) → HostFits room s h → s.resets.raised + 1 < 2 ^ 32
few_raised {room} s h f = let r = few_resets room h f.conducted in let n = few_scanned room h f.conducted in let e = f.resets_are.raised_is in omega arith

pub few_banners : {room : ℕ} (s : Host) (h : Journal) → HostFits room s h → s.resets.banners + 1 < 2 ^ 32
few_banners {room} s h f =
    let r = few_resets room h f.conducted in let n = few_scanned room h f.conducted in let m = (marks_between room h f.conducted).1 in let b = banners_low room h f.conducted in
    let e = f.resets_are.banners_are in omega arith

-- a Banner is awaited
pub epoch_now : {room : ℕ} (s : Host) (h : Journal) → HostFits room s h → awaits_by s.resets ≡ awaits_banner h
epoch_now {room} s h f = ap (λ n. nat_lt 0 n && nat_le s.resets.banners n) f.resets_are.raised_is ∙ ap (λ n. nat_lt 0 (resets_of h) && nat_le n (resets_of h)) f.resets_are.banners_are

pub calm_epoch : {room : ℕ} (s : Host) (h : Journal) → HostFits room s h → awaits_by s.resets ≡ false → awaits_banner h ≡ false
calm_epoch {room} s h f calm = sym (epoch_now s h f) ∙ calm

-- the mark of a reset that is due is stored
pub may_mark : {room : ℕ} (s : Host) (h : Journal) → HostFits room s h → s.alarm ≡ false → s.line.due ≡ Some 0x18 → s.resets.marked ≡ false → MayMark h
may_mark {room} s h f calm is fresh =
    let next = due_next s 0x18 h f is in
    record {
      calm = calm_now s h f calm;
      next = next ∙ ap (λ (t : List ℕ). 0x18 ∷ drop 1 t) (sym next);
      fresh = none_more (resets_of h) (length (marks_of h)) (marks_between room h f.conducted).0 (sym f.resets_are.marked_is ∙ fresh);
    }
  where
    none_more : (n m : ℕ) → n ≤ m → nat_lt n m ≡ false → m ≡ n
    none_more n m le e = grind (arith, nat_tests)

pub marked_next : {room : ℕ} (s : Host) (h : Journal) → HostFits room s h → MayMark h → HostFits room (record s { resets = record s.resets { marked = true } }) (at_port marked ∷ h)
marked_next {room} s h f may = record {
  sized = f.sized;
  room_is = f.room_is;
  attended_is = f.attended_is;
  conducted = (may, f.conducted);
  job_is = f.job_is;
  line_is = f.line_is;
  due_is = f.due_is;
  asking_is = f.asking_is;
  counts_are = f.counts_are;
  all_are = f.all_are;
  resets_are = record { raised_is = f.resets_are.raised_is; banners_are = f.resets_are.banners_are; marked_is = one_more };
  polls_are = f.polls_are;
  held_is = f.held_is;
  resumed_is = f.resumed_is;
  greeted_is = f.greeted_is;
  alarm_is = f.alarm_is;
  pause_is = f.pause_is;
  text_is = f.text_is;
  shut_is = f.shut_is;
  bye_is = f.bye_is;
  over = f.over;
}
  where
    one_more : true ≡ nat_lt (resets_of h) (length (marks_of (at_port marked ∷ h)))
    one_more = let e = may.fresh in let l : length (marks_of (at_port marked ∷ h)) ≡ length (marks_of h) + 1 = omega arith in grind (arith, nat_tests)

-- the line whose answer shows that a hold is over is known by what the host keeps
resumed_by : {room : ℕ} (s : Host) (b : ℕ) (h : Journal) → HostFits room s h
    → resumed_after b s.held s.counts.lines s.counts.pause_at s.resumed_at ≡ resumed_after b (holds_of h) (length (live_of h)) (pause_of h) (resumed_at h)
resumed_by {room} s b h f =
    ap (λ x. resumed_after b x s.counts.lines s.counts.pause_at s.resumed_at) f.held_is
    ∙ ap (λ n. resumed_after b (holds_of h) n s.counts.pause_at s.resumed_at) f.counts_are.lines_are
    ∙ ap (λ n. resumed_after b (holds_of h) (length (live_of h)) n s.resumed_at) f.pause_is
    ∙ ap (resumed_after b (holds_of h) (length (live_of h)) (pause_of h)) f.resumed_is

pub raised_byte : {room : ℕ} (s : Host) (b : ℕ) (down : Bool) (a : Asking) (held : Bool) (again n : ℕ) (h : Journal) → HostFits room s h → s.alarm ≡ false → s.line.due ≡ Some b → (is_attended h ≡ false → waits_for_lines b ≡ true → AreAnswered h) → a ≡ cond (nat_eq b query) (asked_more s.asking) s.asking → held ≡ held_after b s.held → again ≡ resumed_after b s.held s.counts.lines s.counts.pause_at s.resumed_at → n ≡ cond (nat_eq b resume) 0 s.counts.pause_at → (is_reset b ≡ true → s.resets.marked ≡ true)
    → HostFits room (record s { line = record s.line { due = None }; resets = record s.resets { raised = cond (is_reset b) (s.resets.raised + 1) s.resets.raised; marked = cond (is_reset b) false s.resets.marked }; asking = a; held = held; resumed_at = again; counts = record s.counts { pause_at = n } }) (at_port (raised b down) ∷ h)
raised_byte {room} s b down a held again n h f calm is after asks hold more pause mark =
    let next = due_next s b h f is in
    let going = f.polls_are.rested in
    record {
      sized = f.sized;
      room_is = f.room_is;
      attended_is = f.attended_is;
      conducted = (record { resumes = λ e. absurd (let n = sym going ∙ e in cc); calm = λ fewer. calm_now s h f calm; next = λ e. next ∙ ap (λ (t : List ℕ). b ∷ drop 1 t) (sym next); after = after; behind_mark = λ reset. marked_now s h f (mark reset) }, f.conducted);
      job_is = f.job_is;
      line_is = same_line s.line (raw_of h) (to_store h) None f.line_is;
      due_is = sym (ap (λ t. cond t (due_of h) (drop 1 (due_of h))) going ∙ ap (drop 1) next);
      asking_is = asks ∙ ap (λ (x : Asking). cond (nat_eq b query) (asked_more x) x) f.asking_is;
      counts_are = same_counts s.counts n (live_of h) (got_of h) f.counts_are;
      all_are = f.all_are;
      resets_are = raised_resets s.resets (is_reset b) (resets_of h) (banners_of h) (length (marks_of h)) f.resets_are (λ reset. (marks_between room h f.conducted).1);
      polls_are = subst (λ t. KeepsPolls s.polls (cond t 0 (polls_of h)) (resumes_behind (is_attended h) (is_shut h) (cond t 0 (polls_of h)))) (sym going) f.polls_are;
      held_is = hold ∙ ap (held_after b) f.held_is;
      resumed_is = more ∙ resumed_by s b h f;
      greeted_is = f.greeted_is;
      alarm_is = f.alarm_is;
      pause_is = pause ∙ ap (λ m. cond (nat_eq b resume) 0 m) f.pause_is;
      text_is = f.text_is;
      shut_is = f.shut_is;
      bye_is = f.bye_is;
      over = f.over;
    }

-- the machine is resumed
pub resumed : {room : ℕ} (s : Host) (down : Bool) (again : ℕ) (h : Journal) → HostFits room s h → s.bye ≡ false → cond (nat_lt s.polls long_polls) (s.polls + 1) s.polls ≡ empty_polls → (s.attended && not s.shut) ≡ false → again ≡ resumed_after resume s.held s.counts.lines s.counts.pause_at s.resumed_at
    → HostFits room (record s { polls = 0; held = false; resumed_at = again; counts = record s.counts { pause_at = 0 } }) (at_port (raised resume down) ∷ at_port no_reply ∷ h)
resumed {room} s down again h f going full alone more =
    let all = counted_all s.polls (polls_of h) f.polls_are.polls_are full in
    let by = ap (λ a. a && not (is_shut h)) (sym f.attended_is) ∙ ap (λ c. s.attended && not c) (sym f.shut_is) ∙ alone in
    let tired = tired_now (is_attended h) (is_shut h) (polls_of h + 1) by all in
    record {
      sized = f.sized;
      room_is = f.room_is;
      attended_is = f.attended_is;
      conducted = (
        record { resumes = λ e. refl; calm = λ fewer. absurd (let g = sym tired ∙ fewer in cc); next = λ fewer. absurd (let g = sym tired ∙ fewer in cc); after = λ a e. absurd cc; behind_mark = λ e. absurd cc },
        (record { going = sym f.bye_is ∙ going; rested = f.polls_are.rested }, f.conducted),
      );
      job_is = f.job_is;
      line_is = f.line_is;
      due_is = subst (λ t. KeepsDue s.line.due (cond t (due_of h) (drop 1 (due_of h)))) (sym tired) f.due_is;
      asking_is = f.asking_is;
      counts_are = same_counts s.counts 0 (live_of h) (got_of h) f.counts_are;
      all_are = f.all_are;
      resets_are = f.resets_are;
      polls_are = subst (λ t. KeepsPolls 0 (cond t 0 (polls_of h + 1)) (resumes_behind (is_attended h) (is_shut h) (cond t 0 (polls_of h + 1)))) (sym tired) (record { polls_are = refl; rested = fresh_polls (is_attended h) (is_shut h) });
      held_is = refl;
      resumed_is = more ∙ resumed_by s resume h f;
      greeted_is = f.greeted_is;
      alarm_is = f.alarm_is;
      pause_is = refl;
      text_is = f.text_is;
      shut_is = f.shut_is;
      bye_is = f.bye_is;
      over = f.over;
    }

-- a poll is counted
pub polled : {room : ℕ} (s : Host) (h : Journal) → HostFits room s h → s.bye ≡ false → ((cond (nat_lt s.polls long_polls) (s.polls + 1) s.polls ≡ empty_polls) → ⊥) ⊎ ((s.attended && not s.shut) ≡ true)
    → HostFits room (record s { polls = cond (nat_lt s.polls long_polls) (s.polls + 1) s.polls }) (at_port no_reply ∷ h)
polled {room} s h f going by = record {
  sized = f.sized;
  room_is = f.room_is;
  attended_is = f.attended_is;
  conducted = (record { going = sym f.bye_is ∙ going; rested = f.polls_are.rested }, f.conducted);
  job_is = f.job_is;
  line_is = f.line_is;
  due_is = f.due_is;
  asking_is = f.asking_is;
  counts_are = f.counts_are;
  all_are = f.all_are;
  resets_are = f.resets_are;
  polls_are = record { polls_are = counted_on s.polls (polls_of h) f.polls_are.polls_are; rested = not_tired (is_attended h) (is_shut h) (polls_of h + 1) other };
  held_is = f.held_is;
  resumed_is = f.resumed_is;
  greeted_is = f.greeted_is;
  alarm_is = f.alarm_is;
  pause_is = f.pause_is;
  text_is = f.text_is;
  shut_is = f.shut_is;
  bye_is = f.bye_is;
  over = f.over;
}
  where
    counted : polls_of h + 1 ≡ empty_polls → cond (nat_lt s.polls long_polls) (s.polls + 1) s.polls ≡ empty_polls
    counted e = let is = f.polls_are.polls_are in grind (arith, nat_tests)

    other : ((polls_of h + 1 ≡ empty_polls) → ⊥) ⊎ ((is_attended h && not (is_shut h)) ≡ true)
    other = elim by [
      | inl few ↦ inl (λ e. few (counted e))
      | inr stands ↦ inr (ap (λ a. a && not (is_shut h)) (sym f.attended_is) ∙ ap (λ c. s.attended && not c) (sym f.shut_is) ∙ stands)
    ]

-- ---- a byte is scanned

pub may_scan_next : {room : ℕ} (s : Host) (r : Reader) (b : ℕ) (h : Journal) → HostFits room s h → MayScanOn s → s.shut ≡ false → s.alarm ≡ false → awaits_by s.resets ≡ false → unread s.job ≡ b ∷ unread r → MayScanNext b h
may_scan_next {room} s r b h f may going calm epoch next = record {
  calm = calm_now s h f calm;
  epoch = calm_epoch s h f epoch;
  none_due = none_due_by s h f may.none_due;
  going = sym f.shut_is ∙ going;
  next = sym f.job_is.left_is ∙ next ∙ ap (λ (t : List ℕ). b ∷ drop 1 t) (sym next ∙ f.job_is.left_is);
  few = (let n = f.job_is.scanned_is in let m = may.few in omega arith);
  sends = ends_is s h f may.scanning ∙ may.sends;
  free = (f.line_is.scanning may.scanning).1;
}

job_scanned : {room : ℕ} (s : Host) (r : Reader) (b : ℕ) (h : Journal) → HostFits room s h → unread s.job ≡ b ∷ unread r → IsPiece r → r.scanned ≡ s.job.scanned + 1 → r.reading ≡ s.job.reading
    → KeepsJob r (drop 1 (unscanned_of h)) (reading_of h) (length (scanned_of h ++ b ∷ []))
job_scanned {room} s r b h f next piece count reading = record {
  piece = piece;
  left_is = ap (drop 1) (sym next ∙ f.job_is.left_is);
  reading_is = reading ∙ f.job_is.reading_is;
  scanned_is = count ∙ ap (λ n. n + 1) f.job_is.scanned_is ∙ sym (length-append (scanned_of h) (b ∷ []));
}

pub nothing_due : (d : Option ℕ) (due : List ℕ) → d ≡ None → due ≡ [] → KeepsDue d due
nothing_due d due none is = ap option_to_list none ∙ sym is

-- a job at its end has no byte left
not_over : {room : ℕ} (s : Host) (r : Reader) (b : ℕ) (h : Journal) {A : Type 0} → HostFits room s h → unread s.job ≡ b ∷ unread r → reading_of h ≡ Ended → A
not_over {room} s r b h f next e = absurd (let g = sym (f.over e).0 ∙ sym f.job_is.left_is ∙ next in cc)

-- the first byte of a line has asked for nothing
asking_scanned : {room : ℕ} (s : Host) (a : Asking) (h : Journal) → HostFits room s h → s.line.whole ≡ false → a ≡ cond s.line.begun s.asking Nothing → a ≡ cond (nat_eq (length (raw_of h)) 0) Nothing (asking_of h)
asking_scanned {room} s a h f whole is =
    is ∙ ap (λ t. cond t s.asking Nothing) (f.line_is.scanning whole).0.begun ∙ ap (λ (x : Asking). cond (nat_lt 0 (length (raw_of h))) x Nothing) f.asking_is
    ∙ by_tests (length (raw_of h)) (nat_lt 0 (length (raw_of h))) (nat_eq (length (raw_of h)) 0) refl refl
  where
    by_tests : (n : ℕ) (t u : Bool) → nat_lt 0 n ≡ t → nat_eq n 0 ≡ u → cond t (asking_of h) Nothing ≡ cond u Nothing (asking_of h)
    by_tests n true false e g = refl
    by_tests n false true e g = refl
    by_tests n true true e g = absurd (grind (arith, nat_tests))
    by_tests n false false e g = absurd (grind (arith, nat_tests))

pub scanned_byte : {room : ℕ} (s : Host) (r : Reader) (l : SentLine) (a : Asking) (b : ℕ) (h : Journal) → HostFits room s h → MayScanOn s → s.shut ≡ false → s.alarm ≡ false → awaits_by s.resets ≡ false → unread s.job ≡ b ∷ unread r → IsPiece r → r.scanned ≡ s.job.scanned + 1 → r.reading ≡ s.job.reading
    → nat_eq b 10 ≡ false → ((raw : List ℕ) → HasLine s.line raw → HasLine l (raw ++ b ∷ [])) → ((raw : List ℕ) → HasLine s.line raw → KeepsDue l.due (more_served raw b)) → l.whole ≡ s.line.whole → a ≡ cond s.line.begun s.asking Nothing → HostFits room (record s { job = r; line = l; asking = a }) (scanned b ∷ h)
scanned_byte {room} s r l a b h f may going calm epoch next piece count reading other fed due whole asks = record {
  sized = f.sized;
  room_is = f.room_is;
  attended_is = f.attended_is;
  conducted = (may_scan_next s r b h f may going calm epoch next, f.conducted);
  job_is = job_scanned s r b h f next piece count reading;
  line_is = subst (λ t. KeepsLine l (cond t [] (raw_of h ++ b ∷ [])) (cond t (sent_text (raw_of h) ++ 10 ∷ []) (to_store h))) (sym other) (record {
    scanning = λ e. let now = f.line_is.scanning may.scanning in (fed (raw_of h) now.0, now.1);
    storing = λ e. absurd (let g = sym e ∙ whole ∙ may.scanning in cc);
  });
  due_is = subst (λ (d : List ℕ). KeepsDue l.due (d ++ more_served (raw_of h) b)) (sym (none_due_by s h f may.none_due)) (due (raw_of h) (f.line_is.scanning may.scanning).0);
  asking_is = asking_scanned s a h f may.scanning asks;
  counts_are = subst (λ t. KeepsCounts s.counts (cond t (live_of h ++ raw_of h ∷ []) (live_of h)) (got_of h)) (sym other) f.counts_are;
  all_are = subst (λ t. s.counts.all ≡ length (cond t (cut_of h ++ raw_of h ∷ []) (cut_of h))) (sym other) f.all_are;
  resets_are = f.resets_are;
  polls_are = f.polls_are;
  held_is = f.held_is;
  resumed_is = f.resumed_is;
  greeted_is = f.greeted_is;
  alarm_is = f.alarm_is;
  pause_is = f.pause_is ∙ ap (λ t. cond t (cond (pauses (raw_of h)) (length (live_of h) + 1) (pause_of h)) (pause_of h)) (sym other);
  text_is = f.text_is;
  shut_is = f.shut_is;
  bye_is = f.bye_is;
  over = λ e. not_over s r b h f next e;
}

pub scanned_lf : {room : ℕ} (s : Host) (r : Reader) (l : SentLine) (c : Counts) (a : Asking) (b : ℕ) (h : Journal) → HostFits room s h → MayScanOn s → s.shut ≡ false → s.alarm ≡ false → awaits_by s.resets ≡ false → unread s.job ≡ b ∷ unread r → IsPiece r → r.scanned ≡ s.job.scanned + 1 → r.reading ≡ s.job.reading
    → nat_eq b 10 ≡ true → KeepsLine l [] (sent_text (raw_of h) ++ 10 ∷ []) → l.due ≡ s.line.due → KeepsCounts c (live_of h ++ raw_of h ∷ []) (got_of h) → c.all ≡ s.counts.all + 1 → c.pause_at ≡ cond (pauses (raw_of h)) (s.counts.lines + 1) s.counts.pause_at → a ≡ cond s.line.begun s.asking Nothing → HostFits room (record s { job = r; line = l; counts = c; asking = a }) (scanned b ∷ h)
scanned_lf {room} s r l c a b h f may going calm epoch next piece count reading lf line due counts all pause asks = record {
  sized = f.sized;
  room_is = f.room_is;
  attended_is = f.attended_is;
  conducted = (may_scan_next s r b h f may going calm epoch next, f.conducted);
  job_is = job_scanned s r b h f next piece count reading;
  line_is = subst (λ t. KeepsLine l (cond t [] (raw_of h ++ b ∷ [])) (cond t (sent_text (raw_of h) ++ 10 ∷ []) (to_store h))) (sym lf) line;
  due_is = nothing_due l.due _ (due ∙ may.none_due) (ap (λ (d : List ℕ). d ++ more_served (raw_of h) b) (none_due_by s h f may.none_due) ∙ none_at_lf (raw_of h) b lf);
  asking_is = asking_scanned s a h f may.scanning asks;
  counts_are = subst (λ t. KeepsCounts c (cond t (live_of h ++ raw_of h ∷ []) (live_of h)) (got_of h)) (sym lf) counts;
  all_are = subst (λ t. c.all ≡ length (cond t (cut_of h ++ raw_of h ∷ []) (cut_of h))) (sym lf) (all ∙ ap (λ n. n + 1) f.all_are ∙ sym (length-append (cut_of h) (raw_of h ∷ [])));
  resets_are = f.resets_are;
  polls_are = f.polls_are;
  held_is = f.held_is;
  resumed_is = f.resumed_is;
  greeted_is = f.greeted_is;
  alarm_is = f.alarm_is;
  pause_is =
      pause_behind_line s.counts c (raw_of h) (live_of h) (got_of h) (pause_of h) f.counts_are f.pause_is pause
      ∙ ap (λ t. cond t (cond (pauses (raw_of h)) (length (live_of h) + 1) (pause_of h)) (pause_of h)) (sym lf);
  text_is = f.text_is;
  shut_is = f.shut_is;
  bye_is = f.bye_is;
  over = λ e. not_over s r b h f next e;
}

pub few_answers : {room : ℕ} (s : Host) (h : Journal) → HostFits room s h → answers_in (got_of h) ≤ length (live_of h)
few_answers {room} s h f = (sending.counts_are room h f.conducted).1

pub over_is : {room : ℕ} (s : Host) (h : Journal) → HostFits room s h → (s.counts.lines ≤ s.counts.all) × (s.counts.answered ≤ s.counts.lines) × (s.counts.answered + (s.counts.all - s.counts.lines) ≡ over_of h) × (over_of h ≤ largest_job)
over_is {room} s h f =
    let n = sending.counts_are room h f.conducted in let e = all_lines room h f.conducted in
    let a = f.counts_are.answered_is in let l = f.counts_are.lines_are in let m = f.all_are in let few = n.1 in let most = n.2 in
    ((omega arith), (omega arith), (omega arith), (omega arith))

-- ---- the link is closed

-- nothing is left of a piece that is used up
pub used_by : (r : Reader) → unread r ≡ [] → IsPiece r → r.end ≤ r.place
used_by r none piece =
    let a = ap length none in let b = length-drop r.place (take r.end r.bytes) in let d = length-take r.end r.bytes in
    let e = piece.few in let f = piece.size in omega arith

some_by : (r : Reader) (b : ℕ) (left : List ℕ) → unread r ≡ b ∷ left → r.place < r.end
some_by r b left next =
    let a = ap length next in let c = length-drop r.place (take r.end r.bytes) in let d = length-take r.end r.bytes in omega arith

pub few_lines : {room : ℕ} (s : Host) (h : Journal) → HostFits room s h → (s.counts.all ≡ length (cut_of h)) × (length (cut_of h) ≤ largest_job)
few_lines {room} s h f = (f.all_are, (sending.counts_are room h f.conducted).2)

-- a job that is too large leaves a byte
none_left_large : (room : ℕ) (h : Journal) {A : Type 0} → Conducted room h → reading_of h ≡ Large → unscanned_of h ≡ [] → A
none_left_large room h c at none =
    let more : largest_job < length (read_of h) = (subst (λ (r : Reading). MayHaveRead r (length (read_of h))) at (reading_fits room h c)).0 in
    let l = ap length (read_is room h c) in let m = length-append (scanned_of h) (unscanned_of h) in let n = ap length none in let k = few_scanned room h c in
    absurd (omega arith)

no_more_by : {room : ℕ} (s : Host) (h : Journal) → HostFits room s h → (MayScanOn s → ⊥) → (MayReadOn s → ⊥) → s.line.whole ≡ false → is_too_long s.line ≡ false → s.line.due ≡ None
    → (r : Reading) → reading_of h ≡ r → (left : List ℕ) → unscanned_of h ≡ left → HasNoMore r (unscanned_of h) (raw_of h) (length (scanned_of h))
no_more_by {room} s h f no_scan no_read whole long none Ended at left is = f.over at
no_more_by {room} s h f no_scan no_read whole long none Failed at [] is = is
no_more_by {room} s h f no_scan no_read whole long none Stopped at [] is = absurd (no_read (record { scanning = whole; sends = long; none_due = none; used = used_by s.job (f.job_is.left_is ∙ is) f.job_is.piece; on = f.job_is.reading_is ∙ at }))
no_more_by {room} s h f no_scan no_read whole long none Large at [] is = none_left_large room h f.conducted at is
no_more_by {room} s h f no_scan no_read whole long none r at (b ∷ left) is = over_full room h f.conducted b left is (full (nat_lt (length (scanned_of h)) largest_job) refl) r at
  where
    full : (t : Bool) → nat_lt (length (scanned_of h)) largest_job ≡ t → largest_job ≤ length (scanned_of h)
    full false e = grind (arith, nat_tests)
    full true e = absurd (no_scan (record {
      scanning = whole;
      sends = long;
      none_due = none;
      some = some_by s.job b left (f.job_is.left_is ∙ is);
      few = (let n = f.job_is.scanned_is in grind (arith, nat_tests));
    }))

-- all is sent where nothing may be scanned or read
pub has_sent : {room : ℕ} (s : Host) (h : Journal) → HostFits room s h → s.line.whole ≡ false → s.line.due ≡ None → (MayScanOn s → ⊥) → (MayReadOn s → ⊥) → HasSentAll h
has_sent {room} s h f whole none no_scan no_read = record { free = (f.line_is.scanning whole).1; all = by_length (is_too_long s.line) refl }
  where
    by_length : (t : Bool) → is_too_long s.line ≡ t → (ends_sending (raw_of h) ≡ true) ⊎ HasNoMore (reading_of h) (unscanned_of h) (raw_of h) (length (scanned_of h))
    by_length true e = inl (ends_is s h f whole ∙ e)
    by_length false e = inr (no_more_by s h f no_scan no_read whole e none (reading_of h) refl (unscanned_of h) refl)

pub may_shut : {room : ℕ} (s : Host) (h : Journal) → HostFits room s h → s.line.whole ≡ false → s.shut ≡ false → awaits_by s.resets ≡ false → s.line.due ≡ None → (MayScanOn s → ⊥) → (MayReadOn s → ⊥) → MayShut h
may_shut {room} s h f whole going epoch none no_scan no_read =
    record { going = sym f.shut_is ∙ going; epoch = calm_epoch s h f epoch; sent = inr (has_sent s h f whole none no_scan no_read); all_raised = inr (none_due_by s h f none) }

-- behind an alarm it may be in any case
pub may_shut_at_alarm : {room : ℕ} (s : Host) (h : Journal) → HostFits room s h → s.shut ≡ false → awaits_by s.resets ≡ false → s.alarm ≡ true → MayShut h
may_shut_at_alarm {room} s h f going epoch alarm = let e = alarm_now s h f alarm in record { going = sym f.shut_is ∙ going; epoch = calm_epoch s h f epoch; sent = inl e; all_raised = inl e }

closed_polls : (attended : Bool) (count n : ℕ) → KeepsPolls count n (resumes_behind attended false n) → KeepsPolls (cond attended 0 count) (cond attended 0 n) (resumes_behind attended true (cond attended 0 n))
closed_polls true count n k = record { polls_are = refl; rested = refl }
closed_polls false count n k = record { polls_are = k.polls_are; rested = k.rested }

pub closed : {room : ℕ} (s : Host) (n : ℕ) (h : Journal) → HostFits room s h → MayShut h → n ≡ cond s.attended 0 s.polls → HostFits room (record s { shut = true; polls = n }) (at_port shut ∷ h)
closed {room} s n h f may anew = record {
  sized = f.sized;
  room_is = f.room_is;
  attended_is = f.attended_is;
  conducted = (may, f.conducted);
  job_is = f.job_is;
  line_is = f.line_is;
  due_is = f.due_is;
  asking_is = f.asking_is;
  counts_are = f.counts_are;
  all_are = f.all_are;
  resets_are = f.resets_are;
  polls_are = subst (λ m. KeepsPolls m (polls_of (at_port shut ∷ h)) (resumes_next (at_port shut ∷ h))) (sym (anew ∙ ap (λ a. cond a 0 s.polls) f.attended_is))
      (closed_polls (is_attended h) s.polls (polls_of h) (subst (λ c. KeepsPolls s.polls (polls_of h) (resumes_behind (is_attended h) c (polls_of h))) may.going f.polls_are));
  held_is = f.held_is;
  resumed_is = f.resumed_is;
  greeted_is = f.greeted_is;
  alarm_is = f.alarm_is;
  pause_is = f.pause_is;
  text_is = f.text_is;
  shut_is = refl;
  bye_is = f.bye_is;
  over = f.over;
}

pub is_open : {room : ℕ} (s : Host) (h : Journal) → HostFits room s h → s.shut ≡ false → IsOpen (port_log h)
is_open {room} s h f going = sym f.shut_is ∙ going
