-- Where a host has a reply to all that it sent, so has the board told all, in the same epoch.
use Rattle.std.proofs.Common.{◌≡◌, ℕ, ◌+◌, ◌-◌, ◌≤◌, ◌⊎◌, inl, inr, Bool, true, false, cond, ◌&&◌, nat_eq, bit_and, List, [], ◌∷◌, ◌++◌, length, reverse, drop, refl, sym, ap, ◌∙◌, arith, Some, None}
use Rattle.std.specs.Int.{bit_at}
use Rattle.std.specs.declared.option.Option.{Option}
use Rattle.std.proofs.lemmas.Bool.Decides.{nat_tests}
use Rattle.std.proofs.lemmas.List.Sums.{sum_by-append}
use Rattle.std.proofs.lemmas.Nat.Bits.{bit_at_and, bit_at-lt}
use Rattle.code_table.specs.declared.flags.Exec.{Exec}
use Rattle.status_report.specs.declared.Reply.{Reply}
use Rattle.status_report.specs.Answering.{lfs_in, is_answer, answers_in, is_banner, banners_in}
use Rattle.status_report.proofs.Answered.{answers_first}
use Rattle.status_report.proofs.Banners.{banners_first, banners_on}
use Rattle.realtime_flags.specs.declared.words.Flag.{Flag}
use Rattle.realtime_flags.specs.declared.words.Flag.TheVariants as flags
use Rattle.realtime_flags.specs.declared.words.Raise.{Raise}
use Rattle.realtime_flags.specs.declared.words.Take.TheVariants as kinds
use Rattle.realtime_flags.specs.Bits.{is_flag, is_up, raises_of, takes_with, stood_in, IsBalanced}
use Rattle.realtime_flags.specs.Bytes.{flag_of_row, flag_of_byte}
use Rattle.realtime_flags.proofs.Bits.{down_among, at_least, one_more}
use Rattle.serial_ring.specs.Marks.{Mark, last_of}
use Rattle.serial_ring.specs.Lists.{has_banner, answers_behind_mark, since}
use Rattle.serial_ring.specs.Logs as link
use Rattle.serial_ring.specs.Logs.{greeted_in, answers_since, lfs_since}
use Rattle.serial_ring.proofs.Logs.{counts}
use Rattle.host_journal.specs.Jobs.{is_reset}
use Rattle.host_journal.specs.Raises.{raised_to, raises_in}
use Rattle.host_journal.specs.Steps.{HostLog, stored_in, got_in, latest_got, marks_in, marks_at_banners, resets_in}
use Rattle.host_journal.specs.Steps.PortStep.{raised}
use Rattle.stream_host.proofs.Epochs.{some_banner}
use Rattle.stream_host.proofs.Greeting.{answered_stored}
use Rattle.stream_host.proofs.Raised.{AreStored, low_mark, last_greeted}
use Rattle.board_journal.specs.Ports.{BoardLog, taken_in, answered_in, link_steps, asks_reset}
use Rattle.board_journal.specs.Ports.PortStep.{took_exec}
use Rattle.board_journal.specs.Takes.{takes_in}
use Rattle.board_journal.proofs.LinkSteps.{taken_back, same_taken}
use Rattle.list_ports.specs.Asked.{AwaitsNoReply, resets_taken, told_by}
use Rattle.list_ports.specs.Joining.{RepliesPass, MarksPass}
use Rattle.list_ports.proofs.Asks.{AllAnswered}
use Rattle.list_ports.proofs.Marking.{answered_is, greeted_count, same_banners, drop_on, since_drops, same_lines}

-- ---- no more resets were taken than raised

abbrev reset_flag : Flag
reset_flag = flags.Exec 3

bit_asked : (n : ℕ) → nat_eq (bit_and n 8) 8 ≡ true → nat_eq (bit_at n 3) 1 ≡ true
bit_asked n e =
    let b = bit_at_and n 8 3 in let one : bit_and n 8 ≡ 8 = grind (arith, nat_tests, e) in
    let both : bit_at (bit_and n 8) 3 ≡ 1 = ap (λ k. bit_at k 3) one in let lt = bit_at-lt n 3 in
    let is : bit_at n 3 ≡ 1 = omega arith in rw is refl

stood : (word : Exec) → asks_reset word ≡ true → stood_in reset_flag (kinds.Exec word) ≡ true
stood word e = bit_asked word.0 e

words_few : (l : BoardLog) → resets_taken l ≤ takes_with reset_flag (takes_in l)
words_few [] = omega arith
words_few (took_exec word ∷ l) = one_more (asks_reset word) (stood_in reset_flag (kinds.Exec word)) (resets_taken l) (takes_with reset_flag (takes_in l)) (stood word) (words_few l)
words_few (_ ∷ l) = words_few l

abbrev resets : Option Flag → Bool
resets None = false
resets (Some f) = is_flag reset_flag f

another_row : {Q : Type 0} (t : Bool) (v : ℕ) (rest : Option ℕ) → resets (flag_of_row (Some v)) ≡ false → (resets (flag_of_row rest) ≡ true → Q) → resets (flag_of_row (cond t (Some v) rest)) ≡ true → Q
another_row true v rest other next e = absurd cc
another_row false v rest other next e = next e

this_row : {Q : Type 0} (t : Bool) (v : ℕ) (rest : Option ℕ) → (t ≡ true → Q) → (resets (flag_of_row rest) ≡ true → Q) → resets (flag_of_row (cond t (Some v) rest)) ≡ true → Q
this_row true v rest here next e = here refl
this_row false v rest here next e = next e

-- no byte but 0x18 asks for a reset
only_reset : (b : ℕ) → resets (flag_of_byte b) ≡ true → is_reset b ≡ true
only_reset b = this_row (nat_eq b 24) 3 _ (λ e. e) (another_row (nat_eq b 33) 1 _ refl (another_row (nat_eq b 63) 0 _ refl (another_row (nat_eq b 126) 2 _ refl (another_row (nat_eq b 133) 4 _ refl
    (another_row (nat_eq b 144) 16 _ refl (another_row (nat_eq b 145) 17 _ refl (another_row (nat_eq b 146) 18 _ refl (another_row (nat_eq b 147) 19 _ refl (another_row (nat_eq b 148) 20 _ refl
    (another_row (nat_eq b 149) 21 _ refl (another_row (nat_eq b 150) 22 _ refl (another_row (nat_eq b 151) 23 _ refl
    (another_row (nat_eq b 153) 24 _ refl (another_row (nat_eq b 154) 25 _ refl (another_row (nat_eq b 155) 26 _ refl (another_row (nat_eq b 156) 27 _ refl (another_row (nat_eq b 157) 28 _ refl (λ e. absurd cc))))))))))))))))))

raised_more : (o : Option Flag) (down t : Bool) (rs : List Raise) (q : ℕ) → (resets o ≡ true → t ≡ true) → raises_of reset_flag rs ≤ q → raises_of reset_flag (raised_to o down rs) ≤ cond t (q + 1) q
raised_more None down t rs q same le = one_more false t _ q same le
raised_more (Some f) down t rs q same le = one_more (is_flag reset_flag f) t _ q same le

raises_few : (h : HostLog) → raises_of reset_flag (raises_in h) ≤ resets_in h
raises_few [] = omega arith
raises_few (raised b down ∷ h) = raised_more (flag_of_byte b) down (is_reset b) (raises_in h) (resets_in h) (only_reset b) (raises_few h)
raises_few (_ ∷ h) = raises_few h

pub resets_few : (words : List ℕ) (host : HostLog) (board : BoardLog) → IsBalanced words (raises_in host) (takes_in board) → resets_taken board ≤ resets_in host
resets_few words host board balance =
    let b = balance reset_flag in let l = at_least (is_up reset_flag words) (takes_with reset_flag (takes_in board)) in
    let d = down_among reset_flag (raises_in host) in let w = words_few board in let r = raises_few host in omega arith

-- ---- no Banner waits

numbers : (marks : List ℕ) (greeted : List Mark) → AreStored marks greeted → length greeted ≤ (last_of greeted).0 + 1
numbers marks [] are = omega arith
numbers marks (m ∷ []) are = omega arith
numbers marks (m ∷ before ∷ earlier) are = let n = numbers marks (before ∷ earlier) are.1 in let f = are.0.0 in omega arith

few_greeted : (marks : List ℕ) (greeted : List Mark) → AreStored marks greeted → length greeted ≤ length marks + 1
few_greeted marks [] are = omega arith
few_greeted marks (m ∷ []) are = omega arith
few_greeted marks (m ∷ before ∷ earlier) are = let n = numbers marks (m ∷ before ∷ earlier) are in let l = low_mark marks m are.0.1 in omega arith

-- where no reply begins an epoch, all answers are of the one that goes on
abbrev BeginsNone : List Reply → List Reply → Type 0
BeginsNone more rs = (banners_in more ≡ 0) ⊎ (banners_in (more ++ rs) ≤ 1)

none_begins : (r : Reply) (more rs : List Reply) → BeginsNone (r ∷ more) rs → (is_banner r && has_banner (more ++ rs)) ≡ false
none_begins r more rs few = by_tests (is_banner r) (has_banner (more ++ rs)) refl refl few
  where
    by_tests : (t u : Bool) → is_banner r ≡ t → has_banner (more ++ rs) ≡ u → BeginsNone (r ∷ more) rs → (t && u) ≡ false
    by_tests true true is has (inl none) = absurd (let f = banners_first r more in let g = ap (λ x. cond {A = ℕ} x 1 0) is in omega arith)
    by_tests true true is has (inr one) = absurd (let s = some_banner (more ++ rs) has in let f = banners_first r (more ++ rs) in let g = ap (λ x. cond {A = ℕ} x 1 0) is in omega arith)
    by_tests true false is has before = refl
    by_tests false u is has before = refl

begins_less : (r : Reply) (more rs : List Reply) → BeginsNone (r ∷ more) rs → BeginsNone more rs
begins_less r more rs (inl none) = inl (let f = banners_first r more in omega arith)
begins_less r more rs (inr one) = inr (let f = banners_first r (more ++ rs) in omega arith)

more_answers : (more rs : List Reply) → BeginsNone more rs → answers_behind_mark (more ++ rs) ≡ answers_in more + answers_behind_mark rs
more_answers [] rs few = omega arith
more_answers (r ∷ more) rs few =
    let i = more_answers more rs (begins_less r more rs few) in
    let a = answers_first r more in
    let n = ap (λ x. cond {A = ℕ} x 0 (cond (is_answer r) 1 0 + answers_behind_mark (more ++ rs))) (none_begins r more rs few) in omega arith

module _ (ws : List ℕ) (waiting : List Reply) (count : ℕ) (mark : Mark) (host : HostLog) (l : BoardLog) (fifo : stored_in host ≡ taken_in l ++ ws)
    (q : RepliesPass waiting (answered_in l) (got_in host) (taken_in l)) (m : MarksPass count mark waiting (stored_in host) (marks_in host) (marks_at_banners host) (link_steps l)) (quiet : AwaitsNoReply host) where
  told_is : told_by l ≡ reverse waiting ++ latest_got host
  told_is = answered_is waiting host l q

  -- how many Banners were told, and got
  told_few : banners_in (told_by l) ≤ length (marks_in host) + 1
  told_few =
      let c = greeted_count (link_steps l) in let f = few_greeted (marks_in host) (greeted_in (link_steps l)) (answered_stored (marks_in host) (link_steps l) m.loads m.well) in omega arith

  told_more : banners_in (told_by l) ≡ banners_in waiting + banners_in (latest_got host)
  told_more = ap banners_in told_is ∙ banners_on (reverse waiting) (latest_got host) ∙ ap (λ n. n + banners_in (latest_got host)) (same_banners waiting)

  record Greeted : Type 0 where
    all : (length (marks_in host) ≡ 0) ⊎ (length (greeted_in (link_steps l)) ≡ length (marks_in host) + 1)
    none : BeginsNone (reverse waiting) (latest_got host)
    same : banners_in (latest_got host) - 1 ≡ banners_in (told_by l) - 1

  greeted_by : (length (marks_in host) ≡ 0) ⊎ (banners_in (latest_got host) ≡ length (marks_in host) + 1) → Greeted
  greeted_by (inl none) = record {
    all = inl none;
    none = inr (let e = ap banners_in told_is in let f = told_few in omega arith);
    same = (let f = told_few in let n = told_more in omega arith);
  }
  greeted_by (inr all) = record {
    all = inr (let c = greeted_count (link_steps l) in let f = told_few in let n = told_more in omega arith);
    none = inl (let f = told_few in let n = told_more in let s = same_banners waiting in omega arith);
    same = (let f = told_few in let n = told_more in omega arith);
  }

  -- since the last Banner as many lines are answered as had their end taken, and the host got all those answers
  record Told : Type 0 where
    got_all : answers_behind_mark (latest_got host) ≡ answers_behind_mark (told_by l)
    all : answers_since (link_steps l) ≡ lfs_since (link_steps l)

  told_all : Greeted → Told
  told_all g =
      let c = counts (link_steps l) m.well in
      let at = last_greeted (marks_in host) (greeted_in (link_steps l)) (answered_stored (marks_in host) (link_steps l) m.loads m.well) g.all in
      let reached : (last_of (greeted_in (link_steps l))).1 ≤ length (taken_in l) = (let r = c.reached in let t = same_taken l in omega arith) in
      let behind = sym (same_lines (since (last_of (greeted_in (link_steps l))).1 (link.taken_in (link_steps l))))
      ∙ ap lfs_in (since_drops (last_of (greeted_in (link_steps l))).1 (link.taken_in (link_steps l)) ∙ ap (drop (last_of (greeted_in (link_steps l))).1) (sym (taken_back l))) in
      let whole = ap lfs_in (ap (drop (last_of (greeted_in (link_steps l))).1) fifo ∙ drop_on (last_of (greeted_in (link_steps l))).1 (taken_in l) ws reached) in
      let more = sum_by-append (λ (b : ℕ). cond (nat_eq b 10) 1 0) (drop (last_of (greeted_in (link_steps l))).1 (taken_in l)) ws in
      let here = ap (λ k. lfs_in (drop k (stored_in host))) at in
      let lines = quiet.lines in
      let told = ap answers_behind_mark told_is ∙ more_answers (reverse waiting) (latest_got host) g.none in
      let b = c.behind_is in
      let f = c.fewer in
      record { got_all = omega arith; all = omega arith }

  pub all_answered : resets_taken l ≤ resets_in host → AllAnswered (latest_got host) (told_by l) (answers_since (link_steps l)) (lfs_since (link_steps l)) (resets_taken l)
  all_answered few =
      let g = greeted_by quiet.marks in
      let t = told_all g in
      record { same = g.same; got_all = t.got_all; all = t.all; calm = (let r = quiet.resets in let s = g.same in omega arith) }
