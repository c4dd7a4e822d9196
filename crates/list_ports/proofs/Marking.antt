-- Marks and Banners through the calls, and what the host knows by the replies that it got.
use Rattle.std.proofs.Common.{◌≡◌, ℕ, zero, suc, ◌+◌, ◌<◌, ◌≤◌, Bool, true, false, cond, nat_eq, nat_le, List, [], ◌∷◌, ◌++◌, length, reverse, drop, refl, sym, ap, ◌∙◌, subst, arith, length-append}
use Rattle.std.proofs.lemmas.List.{length-drop, length-reverse, reverse-reverse, reverse-append, drop_all}
use Rattle.std.proofs.Math.Seq.{drop-append_seam}
use Rattle.std.proofs.lemmas.List.Sorted.{sum_by-IsPermutation, IsPermutation-reverse}
use Rattle.std.proofs.lemmas.List.Sums.{sum_by-append, sum_by-cons}
use Rattle.std.proofs.lemmas.Bool.Decides.{nat_tests}
use Rattle.std.proofs.lemmas.Grind.{reverse_onto}
use Rattle.shared_rings.proofs.Placed.{by_bool}
use Rattle.status_report.specs.declared.Reply.{Reply}
use Rattle.status_report.specs.declared.Reply.TheVariants as replies
use Rattle.status_report.specs.Answering.{lfs_in, is_answer, answers_in, is_banner, banners_in}
use Rattle.status_report.proofs.Banners.{banners_first, banners_on, no_answer}
use Rattle.serial_ring.specs.declared.view.LinkStep.{LinkStep}
use Rattle.serial_ring.specs.declared.view.LinkStep.TheVariants.{Took, Marked, Answered}
use Rattle.serial_ring.specs.Marks.{Mark, last_of}
use Rattle.serial_ring.specs.Lists.{since, answers_behind_mark}
use Rattle.serial_ring.specs.Logs as link
use Rattle.serial_ring.specs.Logs.{AnswersWell, MayAnswer, greeted_in, next_mark, answers_since, lfs_since}
use Rattle.serial_ring.proofs.Marking.{more_marks, past_below}
use Rattle.serial_ring.proofs.Logs.{counts, greeted_on, well_on, taken_on, answers_stored}
use Rattle.host_journal.specs.Links.{behind_lf, AreGreetings}
use Rattle.host_journal.specs.Ports.{AreGreeted, SeemsFull, AnswersLines}
use Rattle.host_journal.specs.Steps.{HostLog, stored_in, got_in, latest_got, marks_in, marks_at_banners}
use Rattle.host_journal.specs.Steps.PortStep.{got}
use Rattle.stream_host.proofs.Greeting.{answered_stored}
use Rattle.stream_host.proofs.Links.{behind_taken}
use Rattle.stream_host.proofs.Raised.{AreStored}
use Rattle.board_journal.specs.Ports as board
use Rattle.board_journal.proofs.LinkSteps.{taken_back, answered_back, same_taken}
use Rattle.list_ports.specs.Joining.{BytesPass, RepliesPass, MarksPass}

reverse_on : {X : Type 0} (x : X) (xs : List X) → reverse (x ∷ xs) ≡ reverse xs ++ x ∷ []
reverse_on x xs = reverse_onto xs x []

-- ---- a log, cut where some replies were answered

record Cut (log : List LinkStep) (replies : List Reply) : Type 0 where
  later : List LinkStep
  seen : List LinkStep
  parts : log ≡ later ++ seen
  answered : link.answered_in seen ≡ replies

behind_one : (e : LinkStep) (log : List LinkStep) (replies : List Reply) → Cut log replies → Cut (e ∷ log) replies
behind_one e log replies c = record { later = e ∷ c.later; seen = c.seen; parts = ap (λ (z : List LinkStep). e ∷ z) c.parts; answered = c.answered }

cut : (log : List LinkStep) (rest replies : List Reply) → link.answered_in log ≡ rest ++ replies → Cut log replies
cut log [] replies e = record { later = []; seen = log; parts = refl; answered = e }
cut [] (y ∷ rest) replies e = absurd (let n = ap length e in omega arith)
cut (Took b ∷ l) (y ∷ rest) replies e = behind_one (Took b) l replies (cut l (y ∷ rest) replies e)
cut (Marked n bytes ∷ l) (y ∷ rest) replies e = behind_one (Marked n bytes) l replies (cut l (y ∷ rest) replies e)
cut (Answered x ∷ l) (y ∷ rest) replies e = behind_one (Answered x) l replies (cut l rest replies (let same : link.answered_in l ≡ rest ++ replies = cc in same))

-- ---- the marks of Banners

one_greeting : (r : Reply) (m : Mark) (greeted : List Mark) → length (cond (is_banner r) (m ∷ greeted) greeted) ≡ cond (is_banner r) 1 0 + length greeted
one_greeting r m greeted = by_bool (is_banner r) (λ b. rw b (omega arith)) (λ b. rw b (omega arith))

pub greeted_count : (l : List LinkStep) → length (greeted_in l) ≡ banners_in (link.answered_in l)
greeted_count [] = refl
greeted_count (Took b ∷ l) = greeted_count l
greeted_count (Marked n bytes ∷ l) = greeted_count l
greeted_count (Answered r ∷ l) = let i = greeted_count l in let f = banners_first r (link.answered_in l) in let o = one_greeting r (next_mark l) (greeted_in l) in omega arith

pub same_banners : (rs : List Reply) → banners_in (reverse rs) ≡ banners_in rs
same_banners rs = sum_by-IsPermutation (λ (r : Reply). cond (is_banner r) 1 0) rs (reverse rs) (IsPermutation-reverse rs)

-- the next of some marks, of which the others come later
next_greeted : (k : ℕ) (marks : List ℕ) (at_banners : List (List ℕ)) (greeted : List Mark) → k < length greeted → AreStored marks greeted → AreGreetings at_banners (drop (suc k) greeted) → AreGreetings (marks ∷ at_banners) (drop k greeted)
next_greeted k marks at_banners [] few stored are = absurd (omega arith)
next_greeted zero marks at_banners (m ∷ greeted) few stored are = (stored.0, are)
next_greeted (suc k) marks at_banners (m ∷ greeted) few stored are = next_greeted k marks at_banners greeted (omega arith) stored.1 are

-- ---- bytes behind a mark, in the order in which they were stored

pub drop_on : (n : ℕ) (bytes more : List ℕ) → n ≤ length bytes → drop n (bytes ++ more) ≡ drop n bytes ++ more
drop_on zero bytes more le = refl
drop_on (suc n) [] more le = absurd (let z : suc n ≤ 0 = le in omega arith)
drop_on (suc n) (y ∷ bytes) more le = drop_on n bytes more (omega arith)

since_by : (is : Bool) (n : ℕ) (b : ℕ) (bytes : List ℕ) → nat_le n (length bytes) ≡ is → (n ≤ length bytes → reverse (since n bytes) ≡ drop n (reverse bytes)) → reverse (cond is (b ∷ since n bytes) []) ≡ drop n (reverse bytes ++ b ∷ [])
since_by true n b bytes e same =
    let le : n ≤ length bytes = grind (arith, nat_tests) in
    let r = length-reverse bytes in
    reverse_on b (since n bytes) ∙ ap (λ (z : List ℕ). z ++ b ∷ []) (same le) ∙ sym (drop_on n (reverse bytes) (b ∷ []) (omega arith))
since_by false n b bytes e same =
    let lt : length bytes < n = grind (arith, nat_tests) in
    let r = length-reverse bytes in
    let l = length-append (reverse bytes) (b ∷ []) in
    sym (drop_all n (reverse bytes ++ b ∷ []) (omega arith))

pub since_drops : (n : ℕ) (bytes : List ℕ) → reverse (since n bytes) ≡ drop n (reverse bytes)
since_drops n [] = sym (drop_all n [] (omega arith))
since_drops n (b ∷ bytes) = since_by (nat_le n (length bytes)) n b bytes refl (λ le. since_drops n bytes) ∙ ap (drop n) (sym (reverse_on b bytes))

pub same_lines : (bytes : List ℕ) → lfs_in (reverse bytes) ≡ lfs_in bytes
same_lines bytes = sum_by-IsPermutation (λ (b : ℕ). cond (nat_eq b 10) 1 0) bytes (reverse bytes) (IsPermutation-reverse bytes)

-- ---- what the host knows

pub latest_back : (h : HostLog) → latest_got h ≡ reverse (got_in h)
latest_back [] = refl
latest_back (got r ∷ h) = ap (λ (z : List Reply). r ∷ z) (latest_back h) ∙ sym (reverse-append (got_in h) (r ∷ []))
latest_back (_ ∷ h) = latest_back h

module _ (waiting : List Reply) (host : HostLog) (l : board.BoardLog) (q : RepliesPass waiting (board.answered_in l) (got_in host) (board.taken_in l)) where
  -- what was answered, the latest first, is what waits and what was got
  pub answered_is : link.answered_in (board.link_steps l) ≡ reverse waiting ++ latest_got host
  answered_is =
      sym (reverse-reverse (link.answered_in (board.link_steps l))) ∙ (ap reverse (sym (answered_back l) ∙ q.fifo)
      ∙ (reverse-append (got_in host) waiting ∙ ap (λ (z : List Reply). reverse waiting ++ z) (sym (latest_back host))))

  pub banners_are : length (greeted_in (board.link_steps l)) ≡ banners_in waiting + banners_in (latest_got host)
  banners_are =
      greeted_count (board.link_steps l) ∙ (ap banners_in answered_is ∙ (banners_on (reverse waiting) (latest_got host)
      ∙ ap (λ n. n + banners_in (latest_got host)) (same_banners waiting)))

module _ (ws : List ℕ) (closed shut_is over : Bool) (waiting : List Reply) (count : ℕ) (mark : Mark) (host : HostLog) (l : board.BoardLog)
    (p : BytesPass ws closed (stored_in host) shut_is (board.taken_in l) over) (q : RepliesPass waiting (board.answered_in l) (got_in host) (board.taken_in l)) (m : MarksPass count mark waiting (stored_in host) (marks_in host) (marks_at_banners host) (board.link_steps l)) where
  at_got : Cut (board.link_steps l) (latest_got host)
  at_got = cut (board.link_steps l) (reverse waiting) (latest_got host) (answered_is waiting host l q)

  -- the marks of the Banners got
  pub are_greeted : AreGreeted host (drop (banners_in waiting) (greeted_in (board.link_steps l)))
  are_greeted = record {
    each = (let d = length-drop (banners_in waiting) (greeted_in (board.link_steps l)) in let b = banners_are waiting host l q in omega arith);
    stored = m.greeted;
  }

  seen_greeted : drop (banners_in waiting) (greeted_in (board.link_steps l)) ≡ greeted_in at_got.seen
  seen_greeted =
      let on = greeted_on at_got.later at_got.seen in
      let all = banners_are waiting host l q in
      let seen = greeted_count at_got.seen ∙ ap banners_in at_got.answered in
      let split : greeted_in (board.link_steps l) ≡ on.0 ++ greeted_in at_got.seen = ap greeted_in at_got.parts ∙ on.1 in
      let counted = ap length split in
      let sum = length-append on.0 (greeted_in at_got.seen) in
      let new : banners_in waiting ≡ length on.0 = omega arith in
      ap (drop (banners_in waiting)) split ∙ (ap (λ n. drop n (on.0 ++ greeted_in at_got.seen)) new ∙ drop-append_seam on.0 (greeted_in at_got.seen))

  seen_well : AnswersWell at_got.seen
  seen_well = well_on at_got.later at_got.seen (subst AnswersWell at_got.parts m.well)

  seen_are : AreGreeted host (greeted_in at_got.seen)
  seen_are = subst (AreGreeted host) seen_greeted are_greeted

  abbrev mark_bytes : ℕ
  mark_bytes = (last_of (greeted_in at_got.seen)).1

  reached : mark_bytes ≤ length (board.taken_in l)
  reached =
      let c = (counts at_got.seen seen_well).reached in
      let e = same_taken l ∙ ap (λ (z : List LinkStep). length (link.taken_in z)) at_got.parts in
      let o = ap length (taken_on at_got.later at_got.seen) in
      let a = length-append (link.taken_in at_got.later) (link.taken_in at_got.seen) in omega arith

  -- since that Banner no more answers were got than lines taken behind its mark
  few_behind : answers_behind_mark (latest_got host) ≤ lfs_in (drop mark_bytes (board.taken_in l))
  few_behind =
      let a = answers_stored at_got.later at_got.seen [] seen_well in
      let k = ap answers_behind_mark at_got.answered in
      let s = ap (λ (z : List LinkStep). lfs_in (since mark_bytes (link.taken_in z))) (sym at_got.parts) in
      let r = same_lines (since mark_bytes (link.taken_in (board.link_steps l))) in
      let d = ap lfs_in (since_drops mark_bytes (link.taken_in (board.link_steps l)) ∙ ap (drop mark_bytes) (sym (taken_back l))) in omega arith

  whole : drop mark_bytes (stored_in host) ≡ drop mark_bytes (board.taken_in l) ++ ws
  whole = ap (drop mark_bytes) p.fifo ∙ drop_on mark_bytes (board.taken_in l) ws reached

  pub seems_full : (room : ℕ) → room ≤ length ws → SeemsFull room host
  seems_full room many = record {
    greeted = greeted_in at_got.seen;
    are = seen_are;
    full = (let b = behind_taken (answers_behind_mark (latest_got host)) (drop mark_bytes (board.taken_in l)) ws few_behind in let e = ap (λ z. length (behind_lf (answers_behind_mark (latest_got host)) z)) whole in omega arith);
  }

  pub answers_lines : AnswersLines host
  answers_lines = record {
    greeted = greeted_in at_got.seen;
    are = seen_are;
    few = (let b = few_behind in let e = ap lfs_in whole in let s = sum_by-append (λ (c : ℕ). cond (nat_eq c 10) 1 0) (drop mark_bytes (board.taken_in l)) ws in omega arith);
  }

  -- while fewer bytes are taken than a mark has, some wait
  pub some_wait : board.IsMarkedPast l → 0 < length ws
  some_wait past =
      let n = past_below (length (board.taken_in l)) (marks_in host) (link.marked_in (board.link_steps l)) m.rising m.loads past in
      let w = m.within in let f = ap length p.fifo in let a = length-append (board.taken_in l) ws in omega arith

-- ---- through the calls

module _ (count : ℕ) (mark : Mark) (waiting : List Reply) (bytes marks : List ℕ) (at_banners : List (List ℕ)) (steps : List LinkStep) (m : MarksPass count mark waiting bytes marks at_banners steps) where
  pub byte_stored : (b : ℕ) → MarksPass (count + 1) mark waiting (bytes ++ b ∷ []) marks at_banners steps
  byte_stored b = let l = length-append bytes (b ∷ []) in let c = m.count_is in let w = m.within in
      record { count_is = omega arith; number_is = m.number_is; bytes_is = m.bytes_is; within = omega arith; rising = m.rising; loads = m.loads; well = m.well; greeted = m.greeted }

  pub mark_stored : MarksPass count (mark.0 + 1, count) waiting bytes (length bytes ∷ marks) at_banners steps
  mark_stored = let n = m.number_is in
      record { count_is = m.count_is; number_is = omega arith; bytes_is = m.count_is; within = omega arith; rising = (m.within, m.rising); loads = more_marks (length bytes) marks (link.marked_in steps) m.loads; well = m.well; greeted = m.greeted }

  -- a Banner more waits
  pub reply_answered : (r : Reply) → MayAnswer steps r → MarksPass count mark (waiting ++ r ∷ []) bytes marks at_banners (Answered r ∷ steps)
  reply_answered r may = record { count_is = m.count_is; number_is = m.number_is; bytes_is = m.bytes_is; within = m.within; rising = m.rising; loads = m.loads; well = (may, m.well); greeted = greeted }
    where
      more : banners_in (waiting ++ r ∷ []) ≡ cond (is_banner r) 1 0 + banners_in waiting
      more = let a = banners_on waiting (r ∷ []) in let f = banners_first r [] in omega arith

      by_banner : (t : Bool) (n : ℕ) → n ≡ cond t 1 0 + banners_in waiting → AreGreetings at_banners (drop n (cond t (next_mark steps ∷ greeted_in steps) (greeted_in steps)))
      by_banner true n is = let one : n ≡ suc (banners_in waiting) = omega arith in subst (λ k. AreGreetings at_banners (drop k (next_mark steps ∷ greeted_in steps))) (sym one) m.greeted
      by_banner false n is = let same : n ≡ banners_in waiting = omega arith in subst (λ k. AreGreetings at_banners (drop k (greeted_in steps))) (sym same) m.greeted

      greeted : AreGreetings at_banners (drop (banners_in (waiting ++ r ∷ [])) (greeted_in (Answered r ∷ steps)))
      greeted = by_banner (is_banner r) (banners_in (waiting ++ r ∷ [])) more

-- a reply is got: of a Banner, the mark was stored by then
pub reply_got : (count : ℕ) (mark : Mark) (r : Reply) (waiting : List Reply) (bytes marks : List ℕ) (at_banners : List (List ℕ)) (steps : List LinkStep) → MarksPass count mark (r ∷ waiting) bytes marks at_banners steps → banners_in (r ∷ waiting) ≤ length (greeted_in steps)
    → MarksPass count mark waiting bytes marks (cond (is_banner r) (marks ∷ at_banners) at_banners) steps
reply_got count mark r waiting bytes marks at_banners steps m few = record { count_is = m.count_is; number_is = m.number_is; bytes_is = m.bytes_is; within = m.within; rising = m.rising; loads = m.loads; well = m.well; greeted = by_banner (is_banner r) (banners_first r waiting) }
  where
    by_banner : (t : Bool) → banners_in (r ∷ waiting) ≡ cond t 1 0 + banners_in waiting → AreGreetings (cond t (marks ∷ at_banners) at_banners) (drop (banners_in waiting) (greeted_in steps))
    by_banner true is =
        let one : banners_in (r ∷ waiting) ≡ suc (banners_in waiting) = omega arith in
        next_greeted (banners_in waiting) marks at_banners (greeted_in steps) (omega arith) (answered_stored marks steps m.loads m.well)
        (subst (λ k. AreGreetings at_banners (drop k (greeted_in steps))) one m.greeted)
    by_banner false is = let same : banners_in (r ∷ waiting) ≡ banners_in waiting = omega arith in subst (λ k. AreGreetings at_banners (drop k (greeted_in steps))) same m.greeted

-- in all no more lines were answered than had their end taken
answers_first : (r : Reply) (rs : List Reply) → answers_in (r ∷ rs) ≡ cond (is_answer r) 1 0 + answers_in rs
answers_first r rs = sum_by-cons (λ (s : Reply). cond (is_answer s) 1 0) r rs

lfs_first : (b : ℕ) (bytes : List ℕ) → lfs_in (b ∷ bytes) ≡ cond (nat_eq b 10) 1 0 + lfs_in bytes
lfs_first b bytes = sum_by-cons (λ (c : ℕ). cond (nat_eq c 10) 1 0) b bytes

total : (l : List LinkStep) → AnswersWell l → answers_in (link.answered_in l) + lfs_since l ≤ lfs_in (link.taken_in l) + answers_since l
total [] w = omega arith
total (Took b ∷ l) w = let t = total l w in let f = lfs_first b (link.taken_in l) in omega arith
total (Marked n bytes ∷ l) w = total l w
total (Answered r ∷ l) w =
    let t = total l w.1 in
    let f = answers_first r (link.answered_in l) in
    let c = (counts l w.1).fewer in
    by_bool (is_banner r)
    (λ b. let no = no_answer r b in let g = ap (λ (x : Bool). cond {A = ℕ} x 1 0) no in rw b (omega arith))
    (λ b. rw b (omega arith))

same_answers : (l : board.BoardLog) → answers_in (board.answered_in l) ≡ answers_in (link.answered_in (board.link_steps l))
same_answers l = ap answers_in (answered_back l) ∙ sum_by-IsPermutation (λ (r : Reply). cond (is_answer r) 1 0) (link.answered_in (board.link_steps l)) (reverse (link.answered_in (board.link_steps l))) (IsPermutation-reverse (link.answered_in (board.link_steps l)))

-- a line that may be answered is one of those whose end was taken
pub may_line : (l : board.BoardLog) (r : Reply) → AnswersWell (board.link_steps l) → board.MayAnswer l r → is_answer r ≡ true → answers_in (board.answered_in l) < lfs_in (board.taken_in l)
may_line l r well may is =
    let t = total (board.link_steps l) well in
    let n = may.line is in
    let a = same_answers l in
    let b = ap lfs_in (taken_back l) ∙ same_lines (link.taken_in (board.link_steps l)) in omega arith
