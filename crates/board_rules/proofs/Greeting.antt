-- A journal is greeted by one Banner before any byte is taken, so all answers and all line feeds come behind it.
use Rattle.std.proofs.Common.{◌≡◌, ℕ, ◌+◌, Bool, true, false, cond, List, [], ◌∷◌, drop, refl, sym, ap, ◌∙◌, arith}
use Rattle.std.specs.List.{flat_map}
use Rattle.status_report.specs.Answering.{lfs_in, is_banner, banners_in, answers_in, without_reports}
use Rattle.status_report.specs.Replies.{IsReply}
use Rattle.status_report.specs.declared.Reply.{Reply}
use Rattle.status_report.specs.declared.Reply.TheVariants as replies
use Rattle.status_report.specs.declared.reports.Report.{Report}
use Rattle.status_report.proofs.Answered.{lfs_first, lfs_on, answers_first, answers_on}
use Rattle.status_report.proofs.Banners.{banners_first, banners_on, banners_without, no_answer}
use Rattle.serial_ring.specs.Logs.{has_greeted, answers_since, lfs_since}
use Rattle.run_rules.specs.Told.{replies_after}
use Rattle.run_rules.specs.Work.{Task, Outcome, tells}
use Rattle.run_rules.specs.Work.Task.{tell}
use Rattle.board_journal.specs.Openings.{Opening}
use Rattle.board_journal.specs.Ports.{BoardLog, taken_in, answered_in, link_steps, MayAnswer}
use Rattle.board_journal.specs.Ports.PortStep.{took, answered, reported}
use Rattle.board_journal.specs.Steps.{Journal, port_log, taken_of, answered_of, outcomes_of, left_of, closed_tells}
use Rattle.board_journal.specs.Steps.Step.{at_port}
use Rattle.board_rules.specs.Conduct.{Conducted, MayTake, MayTell, IsNextTask}
use Rattle.board_rules.proofs.Opening.{opened}
use Rattle.board_rules.proofs.Answering.{answers_are, answer_is_due, closing_none}
use Rattle.board_rules.proofs.Keeping.{told_is}
use Rattle.board_rules.proofs.Limits.{few_answered}
use Rattle.board_rules.proofs.Lined.{all_answer, all_greet_none}
use Rattle.board_journal.proofs.LinkSteps.{same_answered}

-- one Banner was answered, or is left to tell
pub banners_are : (first : Opening) (h : Journal) → Conducted first h → banners_in (answered_of h) + banners_in (tells (left_of first h)) ≡ 1
banners_are first h c =
    let lines = flat_map (λ (o : Outcome). tells o.work) (outcomes_of h) in
    let all = ap banners_in (told_is first h c) in
    let a = banners_on (replies_after first.tells (outcomes_of h)) (closed_tells h) in
    let b = banners_on first.tells lines in
    let d = banners_on (without_reports (answered_of h)) (tells (left_of first h)) in
    let e = banners_without (answered_of h) in
    let f = closing_none is_banner refl h in
    let g = (opened first h c).banner in
    let none = all_greet_none (outcomes_of h) (all_answer first h c) in
    omega (arith, all, a, b, d, e, f, g, none)

-- No byte is taken before the Banner is told; and since it was, as many lines were answered, and had their end taken, as in all.
abbrev pub Since : BoardLog → Type 0
Since l = (banners_in (answered_in l) ≡ 0 → (taken_in l ≡ []) × (has_greeted (link_steps l) ≡ false))
    × (answers_since (link_steps l) ≡ answers_in (answered_in l)) × (lfs_since (link_steps l) ≡ lfs_in (taken_in l))

took_since : (first : Opening) (b : ℕ) (h : Journal) → Conducted first h → MayTake first h → Since (port_log h) → Since (took b ∷ port_log h)
took_since first b h c may s =
    let one = banners_are first h c in
    let e = ap (λ (ts : List Task). banners_in (tells ts)) may.polls.all_done in
    let a = lfs_on (taken_of h) (b ∷ []) in let d = lfs_first b [] in let f = s.2 in
    ((λ none. absurd (omega (arith, one, e, none))), s.1, omega (arith, a, d, f))

told_since : (first : Opening) (r : Reply) (h : Journal) → Conducted first h → MayTell first r h → Since (port_log h) → Since (answered r ∷ port_log h)
told_since first r h c may s = by_banner (is_banner r) refl
  where
    by_banner : (t : Bool) → is_banner r ≡ t → Since (answered r ∷ port_log h)
    by_banner true is =
        let m = banners_on (answered_of h) (r ∷ []) in let n = banners_first r [] in
        let t = ap (λ (t : Bool). cond {A = ℕ} t 1 0) is in
        let all = banners_are first h c in
        let next = ap (λ (ts : List Task). banners_in (tells ts)) may.next in
        let here = banners_first r (tells (drop 1 (left_of first h))) in
        let unread = (s.0 (omega (arith, all, next, here, t))).0 in
        let none = ap lfs_in unread in
        let lines = answers_are first h c in
        let a = answers_on (answered_of h) (r ∷ []) in let b = answers_first r [] in
        let d = ap (λ (t : Bool). cond {A = ℕ} t 1 0) (no_answer r is) in
        ((λ e. absurd (omega (arith, m, n, t, e))), rw is (omega (arith, none, lines, a, b, d)), rw is (sym none))
    by_banner false is =
        let m = banners_on (answered_of h) (r ∷ []) in
        let a = answers_on (answered_of h) (r ∷ []) in let b = answers_first r [] in let d = s.1 in
        ((λ e. let before = s.0 (omega (arith, m, e)) in (before.0, rw is before.1)), rw is (omega (arith, a, b, d)), rw is s.2)

reported_since : (r : Report) (l : BoardLog) → Since l → Since (reported r ∷ l)
reported_since r l s =
    let m = banners_on (answered_in l) (replies.Report r ∷ []) in
    let a = answers_on (answered_in l) (replies.Report r ∷ []) in let b = answers_first (replies.Report r) [] in let d = s.1 in
    ((λ e. s.0 (omega (arith, m, e))), omega (arith, a, b, d), s.2)

pub since : (first : Opening) (h : Journal) → Conducted first h → Since (port_log h)
since first [] c = ((λ e. (refl, refl)), refl, refl)
since first (at_port (took b) ∷ h) c = took_since first b h c.1 c.0 (since first h c.1)
since first (at_port (answered r) ∷ h) c = told_since first r h c.1 c.0 (since first h c.1)
since first (at_port (reported r) ∷ h) c = reported_since r (port_log h) (since first h c.1)
since first (_ ∷ h) c = since first h c.1

-- so an answer is due since the Banner where it is due in all, and no Banner is behind another
pub may_answer : (first : Opening) (h : Journal) (r : Reply) → Conducted first h → IsNextTask first (tell r) h → IsReply r → MayAnswer (port_log h) r
may_answer first h r c next text = record {
  line = λ is. (let s = since first h c in let a = s.1 in let b = s.2 in let d = answer_is_due first h r c next is in omega (arith, a, b, d));
  banner = λ is greeted. absurd (greets_once is greeted);
  text = text;
  few = (let f = few_answered first h c in let m = same_answered (port_log h) in omega (arith, f, m));
}
  where
    greets_once : is_banner r ≡ true → has_greeted (link_steps (port_log h)) ≡ true → ⊥
    greets_once is greeted =
        let t = ap (λ (t : Bool). cond {A = ℕ} t 1 0) is in
        let all = banners_are first h c in
        let left = ap (λ (ts : List Task). banners_in (tells ts)) next in
        let here = banners_first r (tells (drop 1 (left_of first h))) in
        let none = ((since first h c).0 (omega (arith, all, left, here, t))).1 in
        let e = sym none ∙ greeted in cc
