-- The reply that is next may be answered at the port, over all epochs.
use Rattle.std.proofs.Common.{◌≡◌, inl, inr, ℕ, ◌+◌, ◌^◌, ◌<◌, Bool, true, false, ◌||◌, cond, List, [], ◌∷◌, ◌++◌, drop, length, nat_eq, refl, sym, ap, ◌∙◌, subst, append-nil, arith}
use Rattle.run_rules.specs.declared.State.{State}
use Rattle.run_rules.specs.Work.{Task, tells}
use Rattle.run_rules.specs.Work.Task.{tell}
use Rattle.serial_ring.specs.Logs as link
use Rattle.serial_ring.specs.Logs.{has_greeted, next_mark, answers_since, lfs_since, IsNewMark}
use Rattle.serial_ring.specs.Marks.{Mark as LinkMark, last_of, start}
use Rattle.serial_ring.specs.declared.view.LinkStep.{LinkStep}
use Rattle.serial_ring.specs.declared.view.LinkStep.TheVariants.{Took, Marked as LoadedMark, Answered}
use Rattle.status_report.specs.Answering.{lfs_in, is_answer, is_banner, banners_in}
use Rattle.status_report.specs.Replies.{IsReply}
use Rattle.status_report.specs.declared.Reply.{Reply}
use Rattle.status_report.specs.declared.Reply.TheVariants as replies
use Rattle.status_report.specs.declared.reports.Report.{Report}
use Rattle.status_report.proofs.Banners.{banners_first}
use Rattle.step_line.specs.Logs.{NewestFirst}
use Rattle.board_rules.specs.Conduct.{Conducted, IsNextTask}
use Rattle.board_journal.specs.Openings.{Opening}
use Rattle.board_journal.specs.Ports.{BoardLog, known_in, link_steps, MayAnswer}
use Rattle.board_journal.specs.Steps.{Journal, port_log, answered_of, left_of}
use Rattle.board_rules.proofs.Greeting.{banners_are, since, may_answer}
use Rattle.board_rules.proofs.Limits.{lines_in_bytes, answered_by_lines}
use Rattle.board_journal.proofs.LinkSteps.{same_answered, same_taken}
use Rattle.board_epochs.specs.Bounds.{loaded_mark, AreMarked}
use Rattle.board_epochs.specs.Epochs.{Closed, AreClosed, closed_log, log_on, log_behind, log_of, opening_behind}
use Rattle.board_epochs.specs.Epochs.Epochs.{goes}
use Rattle.board_epochs.proofs.Bounding.{AreConducted, Marked, marked_behind, few_behind, few_epochs, taken_behind, answered_behind, more_taken}
use Rattle.board_rules.proofs.Greeted.{by_count}
use Rattle.board_epochs.proofs.Greeted.{greeted_with, ungreeted, next_there}
use Rattle.board_epochs.proofs.Onto.{steps_on, reports_on}

-- ---- a line

abbrev SinceThem : List LinkStep → List LinkStep → Type 0
SinceThem xs ys = (answers_since (xs ++ ys) ≡ answers_since xs) × (lfs_since (xs ++ ys) ≡ lfs_since xs)

one_since : (r : Reply) (xs ys : List LinkStep) (t : Bool) → is_banner r ≡ t → (t || has_greeted xs) ≡ true → (has_greeted xs ≡ true → SinceThem xs ys) → SinceThem (Answered r ∷ xs) ys
one_since r xs ys true is greeted before = (rw is refl, rw is refl)
one_since r xs ys false is greeted before = let e = before greeted in (rw is (ap (λ (n : ℕ). cond (is_answer r) 1 0 + n) e.0), rw is e.1)

-- behind a Banner nothing counts that was done before
since_same : (xs ys : List LinkStep) → has_greeted xs ≡ true → SinceThem xs ys
since_same [] ys greeted = absurd cc
since_same (Took b ∷ xs) ys greeted = let e = since_same xs ys greeted in (e.0, ap (λ (n : ℕ). cond (nat_eq b 10) 1 0 + n) e.1)
since_same (LoadedMark n bytes ∷ xs) ys greeted = since_same xs ys greeted
since_same (Answered r ∷ xs) ys greeted = one_since r xs ys (is_banner r) refl greeted (λ before. since_same xs ys before)

-- a line is answered behind the Banner
greeted_by : (first : Opening) (h : Journal) → Conducted first h → answers_since (link_steps (port_log h)) < lfs_since (link_steps (port_log h)) → has_greeted (link_steps (port_log h)) ≡ true
greeted_by first h c due =
    let all = banners_are first h c in
    let s = since first h c in
    let one : banners_in (answered_of h) ≡ 1 = by_count (banners_in (answered_of h)) (omega (arith, all)) (λ none. absurd (let e = ap lfs_in (s.0 none).0 in let d = s.2 in omega (arith, e, d, due))) in
    ap has_greeted (sym (append-nil (link_steps (port_log h)))) ∙ (greeted_with first h [] c one).1

-- ---- a Banner

next_is : (before : BoardLog) (n : ℕ) → AreMarked before n → next_mark (link_steps before) ≡ loaded_mark before
next_is before n m = ap (λ (t : Bool). cond t (loaded_mark before) start) m.greeted

new_mark : (first : Opening) (h : Journal) (before : BoardLog) (n : ℕ) → Conducted first h → banners_in (answered_of h) ≡ 0 → AreMarked before n
    → IsNewMark (link_steps (port_log h) ++ link_steps before) (next_mark (link_steps (port_log h) ++ link_steps before))
new_mark first h before n c none m =
    let is : next_mark (link_steps (port_log h) ++ link_steps before) ≡ loaded_mark before = next_there first h (link_steps before) c none ∙ next_is before n m in
    subst (IsNewMark (link_steps (port_log h) ++ link_steps before)) (sym is) (record {
      later = subst (λ (ms : List LinkMark). (last_of ms).0 < (loaded_mark before).0) (sym (ungreeted first h (link_steps before) c none).greeted) m.later;
      taken = (let b = m.bytes in
          let more = more_taken (log_on (known_in before) (port_log h)) before in
          let all = same_taken (log_behind before h) in
          let steps = ap (λ (ss : List LinkStep). length (link.taken_in ss)) (steps_on (known_in before) (port_log h) before) in
          omega (arith, b, more, all, steps));
    })

-- ---- each reply

few_replies : (blocks : ℕ) (state : State) (es : NewestFirst Closed) (h : Journal) → AreConducted blocks state es h → length (link.answered_in (link_steps (port_log h) ++ link_steps (closed_log es))) < 2 ^ 62
few_replies blocks state es h c =
    let first = opening_behind blocks state es in
    let before = closed_log es in
    let steps = ap (λ (ss : List LinkStep). length (link.answered_in ss)) (steps_on (known_in before) (port_log h) before) in
    let all = same_answered (log_behind before h) in
    let both = answered_behind before h in
    let was = (few_behind blocks state es c.0).replies in
    let now = answered_by_lines first h c.1 in
    let lines = lines_in_bytes first h c.1 in
    let taken = taken_behind before h in
    let asked = reports_on (known_in before) (port_log h) before in
    let n = few_epochs blocks state es c.0 in
    let bytes = c.2.bytes in let reports = c.2.reports in
    omega (arith, steps, all, both, was, now, lines, taken, asked, n, bytes, reports)

none_yet : (first : Opening) (h : Journal) (r : Reply) → Conducted first h → IsNextTask first (tell r) h → is_banner r ≡ true → banners_in (answered_of h) ≡ 0
none_yet first h r c next is =
    let t = ap (λ (t : Bool). cond {A = ℕ} t 1 0) is in
    let all = banners_are first h c in
    let left = ap (λ (ts : List Task). banners_in (tells ts)) next in
    let here = banners_first r (tells (drop 1 (left_of first h))) in
    omega (arith, all, left, here, t)

banner_there : (blocks : ℕ) (state : State) (es : NewestFirst Closed) (h : Journal) → AreClosed blocks state es → Conducted (opening_behind blocks state es) h → banners_in (answered_of h) ≡ 0
    → has_greeted (link_steps (port_log h) ++ link_steps (closed_log es)) ≡ true
    → IsNewMark (link_steps (port_log h) ++ link_steps (closed_log es)) (next_mark (link_steps (port_log h) ++ link_steps (closed_log es)))
banner_there blocks state es h c conducted none greeted = by_marks (marked_behind blocks state es c)
  where
    by_marks : Marked (closed_log es) (length es) → IsNewMark (link_steps (port_log h) ++ link_steps (closed_log es)) (next_mark (link_steps (port_log h) ++ link_steps (closed_log es)))
    by_marks (inl begins) =
        absurd (let e = sym (ap (λ (l : BoardLog). has_greeted (link_steps l)) begins.1) ∙ sym (ungreeted (opening_behind blocks state es) h (link_steps (closed_log es)) conducted none).has ∙ greeted in cc)
    by_marks (inr m) = new_mark (opening_behind blocks state es) h (closed_log es) (length es) conducted none m

pub answer_there : (blocks : ℕ) (state : State) (es : NewestFirst Closed) (h : Journal) (r : Reply) → AreConducted blocks state es h → IsNextTask (opening_behind blocks state es) (tell r) h → IsReply r → MayAnswer (log_of (goes es h)) r
answer_there blocks state es h r c next text =
    let first = opening_behind blocks state es in
    let own = may_answer first h r c.1 next text in
    subst (λ (ss : List LinkStep). link.MayAnswer ss r) (sym (steps_on (known_in (closed_log es)) (port_log h) (closed_log es))) (record {
      line = λ is. (let due = own.line is in
          let e = since_same (link_steps (port_log h)) (link_steps (closed_log es)) (greeted_by first h c.1 due) in let a = e.0 in let b = e.1 in omega (arith, due, a, b));
      banner = λ is greeted. banner_there blocks state es h c.0 c.1 (none_yet first h r c.1 next is) greeted;
      text = text;
      few = few_replies blocks state es h c;
    })

pub report_there : (blocks : ℕ) (state : State) (es : NewestFirst Closed) (h : Journal) (r : Report) → AreConducted blocks state es h → IsReply (replies.Report r) → MayAnswer (log_of (goes es h)) (replies.Report r)
report_there blocks state es h r c text =
    subst (λ (ss : List LinkStep). link.MayAnswer ss (replies.Report r)) (sym (steps_on (known_in (closed_log es)) (port_log h) (closed_log es))) (record {
      line = λ is. absurd cc;
      banner = λ is greeted. absurd cc;
      text = text;
      few = few_replies blocks state es h c;
    })
