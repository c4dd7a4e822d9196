-- What a board had done when it answered each Banner: all that it did in the epochs before.
use Rattle.std.proofs.Common.{◌≡◌, inl, inr, ℕ, ◌+◌, ◌≤◌, Bool, true, false, cond, List, [], ◌∷◌, ◌++◌, length, drop, refl, ap, ◌∙◌, arith}
use Rattle.std.proofs.lemmas.Bool.{cases_lt}
use Rattle.run_rules.specs.declared.State.{State}
use Rattle.serial_ring.specs.declared.view.LinkStep.{LinkStep}
use Rattle.serial_ring.specs.declared.view.LinkStep.TheVariants.{Took, Marked, Answered}
use Rattle.serial_ring.specs.Logs as link
use Rattle.status_report.specs.Answering.{is_banner, banners_in, answers_in, lfs_in}
use Rattle.status_report.specs.declared.Reply.TheVariants as replies
use Rattle.status_report.proofs.Answered.{answers_first, answers_on}
use Rattle.status_report.proofs.Banners.{banners_first, banners_on}
use Rattle.step_line.specs.Logs.{NewestFirst}
use Rattle.board_rules.specs.Conduct.{Conducted}
use Rattle.board_journal.specs.Openings.{Opening}
use Rattle.board_journal.specs.Ports.{BoardLog, answered_in, known_in, link_steps}
use Rattle.board_journal.specs.Ports.PortStep.{took, found_mark, answered, reported}
use Rattle.board_journal.specs.Steps.{Journal, port_log, answered_of}
use Rattle.board_journal.specs.Steps.Step.{at_port, turned}
use Rattle.board_rules.proofs.Answering.{answers_are}
use Rattle.board_rules.proofs.Greeting.{banners_are, since}
use Rattle.board_journal.proofs.LinkSteps.{same_taken}
use Rattle.board_epochs.specs.Epochs.{Closed, AreClosed, closed_log, log_behind, opening_behind, last_line}
use Rattle.board_epochs.specs.Work.{Work, Works, stage_of}
use Rattle.board_epochs.proofs.Greeted.{was_greeted}
use Rattle.board_epochs.proofs.Onto.{steps_on}
use Rattle.board_epochs.proofs.Working.{all_of, never}
use Rattle.serial_ring.specs.Logs.{at_banners}
use Rattle.epoch_links.proofs.Steps.{closed_steps}

-- a count of what was done: a journal that has told no Banner leaves it, and nothing was done at the start
pub record IsCalm (count : List LinkStep → ℕ) : Type 0 where
  pub starts : count [] ≡ 0
  pub stays : (first : Opening) (h : Journal) (ys : List LinkStep) → Conducted first h → banners_in (answered_of h) ≡ 0 → count (link_steps (port_log h) ++ ys) ≡ count ys

-- where no Banner was told, none has a moment
no_moments : (count : List LinkStep → ℕ) (h : Journal) (ys : List LinkStep) → banners_in (answered_of h) ≡ 0 → at_banners count (link_steps (port_log h) ++ ys) ≡ at_banners count ys
no_moments count [] ys none = refl
no_moments count (at_port (took b) ∷ h) ys none = no_moments count h ys none
no_moments count (at_port (found_mark number bytes) ∷ h) ys none = no_moments count h ys none
no_moments count (at_port (reported r) ∷ h) ys none = no_moments count h ys (let a = banners_on (answered_of h) (replies.Report r ∷ []) in omega (arith, a, none))
no_moments count (at_port (answered r) ∷ h) ys none =
    by_banner (is_banner r) refl (no_moments count h ys (let a = banners_on (answered_of h) (r ∷ []) in omega (arith, a, none)))
  where
    by_banner : (t : Bool) → is_banner r ≡ t → at_banners count (link_steps (port_log h) ++ ys) ≡ at_banners count ys
        → cond t (count (link_steps (port_log h) ++ ys) ∷ at_banners count (link_steps (port_log h) ++ ys)) (at_banners count (link_steps (port_log h) ++ ys)) ≡ at_banners count ys
    by_banner true is e = absurd (
        let a = banners_on (answered_of h) (r ∷ []) in let b = banners_first r [] in let t = ap (λ (x : Bool). cond {A = ℕ} x 1 0) is in omega (arith, a, b, t, none))
    by_banner false is e = e
no_moments count (_ ∷ h) ys none = no_moments count h ys none

-- the moment of its Banner is that of its beginning
one_moment : (count : List LinkStep → ℕ) → IsCalm count → (first : Opening) (h : Journal) (ys : List LinkStep) → Conducted first h → banners_in (answered_of h) ≡ 1
    → at_banners count (link_steps (port_log h) ++ ys) ≡ count ys ∷ at_banners count ys
one_moment count calm first [] ys c one = absurd cc
one_moment count calm first (at_port (took b) ∷ h) ys c one = one_moment count calm first h ys c.1 one
one_moment count calm first (at_port (found_mark number bytes) ∷ h) ys c one = absurd c.0
one_moment count calm first (at_port (reported r) ∷ h) ys c one =
    one_moment count calm first h ys c.1 (let a = banners_on (answered_of h) (replies.Report r ∷ []) in let b = banners_first (replies.Report r) [] in omega (arith, a, b, one))
one_moment count calm first (at_port (answered r) ∷ h) ys c one = by_banner (is_banner r) refl (one_moment count calm first h ys c.1)
  where
    by_banner : (t : Bool) → is_banner r ≡ t → (banners_in (answered_of h) ≡ 1 → at_banners count (link_steps (port_log h) ++ ys) ≡ count ys ∷ at_banners count ys)
        → cond t (count (link_steps (port_log h) ++ ys) ∷ at_banners count (link_steps (port_log h) ++ ys)) (at_banners count (link_steps (port_log h) ++ ys)) ≡ count ys ∷ at_banners count ys
    by_banner true is before =
        let a = banners_on (answered_of h) (r ∷ []) in let b = banners_first r [] in let t = ap (λ (x : Bool). cond {A = ℕ} x 1 0) is in
        let none : banners_in (answered_of h) ≡ 0 = omega (arith, a, b, t, one) in
        ap (λ (k : ℕ). k ∷ at_banners count (link_steps (port_log h) ++ ys)) (calm.stays first h ys c.1 none) ∙ ap (λ (ns : List ℕ). count ys ∷ ns) (no_moments count h ys none)
    by_banner false is before =
        let a = banners_on (answered_of h) (r ∷ []) in let b = banners_first r [] in let t = ap (λ (x : Bool). cond {A = ℕ} x 1 0) is in
        before (omega (arith, a, b, t, one))
one_moment count calm first (_ ∷ h) ys c one = one_moment count calm first h ys c.1 one

-- a reset's work answers none
pub work_moments : (count : List LinkStep → ℕ) (number : ℕ) (before : BoardLog) (w : Work) (ys : List LinkStep) → Works number before w → at_banners count (link_steps (port_log w) ++ ys) ≡ at_banners count ys
work_moments count number before [] ys c = refl
work_moments count number before (at_port (answered r) ∷ w) ys c = absurd (never number (all_of before w) (stage_of before w) (answered r) tt c.0)
work_moments count number before (at_port (reported r) ∷ w) ys c = absurd (never number (all_of before w) (stage_of before w) (reported r) tt c.0)
work_moments count number before (at_port e ∷ w) ys c = work_moments count number before w ys c.2
work_moments count number before (turned t ∷ w) ys c = work_moments count number before w ys c.2
work_moments count number before (_ ∷ w) ys c = absurd c.0

-- ---- of closed epochs

-- the count as each of them was over, the latest first
abbrev pub counts_of : (List LinkStep → ℕ) → NewestFirst Closed → List ℕ
counts_of count [] = []
counts_of count (e ∷ es) = count (link_steps (closed_log (e ∷ es))) ∷ counts_of count es

-- the moment of a Banner is the end of the epoch before it, or the start
pub first_moment : (count : List LinkStep → ℕ) (es : NewestFirst Closed) → IsCalm count → count (link_steps (closed_log es)) ∷ drop 1 (counts_of count es ++ 0 ∷ []) ≡ counts_of count es ++ 0 ∷ []
first_moment count [] calm = ap (λ (n : ℕ). n ∷ []) calm.starts
first_moment count (e ∷ es) calm = refl

closed_moments : (count : List LinkStep → ℕ) (blocks : ℕ) (state : State) (es : NewestFirst Closed) → IsCalm count → AreClosed blocks state es → at_banners count (link_steps (closed_log es)) ≡ drop 1 (counts_of count es ++ 0 ∷ [])
closed_moments count blocks state [] calm c = refl
closed_moments count blocks state (e ∷ es) calm c =
    let first = opening_behind blocks state es in
    let is = c.0 in
    ap (at_banners count) (closed_steps e es)
    ∙ work_moments count (last_line first e.journal) (log_behind (closed_log es) e.journal) e.work (link_steps (port_log e.journal) ++ link_steps (closed_log es)) is.resetting.works
    ∙ one_moment count calm first e.journal (link_steps (closed_log es)) is.resetting.epoch.conducted (was_greeted first e.journal is.resetting.epoch.conducted is.resetting.may)
    ∙ ap (λ (ns : List ℕ). count (link_steps (closed_log es)) ∷ ns) (closed_moments count blocks state es calm c.1) ∙ first_moment count es calm

-- the Banner of the epoch behind them is answered, or not
pub data Greets (count : List LinkStep → ℕ) (es : NewestFirst Closed) (h : Journal) : Type 0 where
  greeted : banners_in (answered_of h) ≡ 1 → at_banners count (link_steps (log_behind (closed_log es) h)) ≡ counts_of count es ++ 0 ∷ [] → Greets count es h
  ungreeted : banners_in (answered_of h) ≡ 0 → at_banners count (link_steps (log_behind (closed_log es) h)) ≡ drop 1 (counts_of count es ++ 0 ∷ []) → Greets count es h

pub open_moments : (count : List LinkStep → ℕ) (blocks : ℕ) (state : State) (es : NewestFirst Closed) (h : Journal) → IsCalm count → AreClosed blocks state es → Conducted (opening_behind blocks state es) h → Greets count es h
open_moments count blocks state es h calm c is = by_count (banners_in (answered_of h)) refl (let a = banners_are (opening_behind blocks state es) h is in omega arith)
  where
    steps : at_banners count (link_steps (log_behind (closed_log es) h)) ≡ at_banners count (link_steps (port_log h) ++ link_steps (closed_log es))
    steps = ap (at_banners count) (steps_on (known_in (closed_log es)) (port_log h) (closed_log es))

    by_count : (n : ℕ) → banners_in (answered_of h) ≡ n → n ≤ 1 → Greets count es h
    by_count n e few = elim (cases_lt 0 n) [
      | inl some ↦ (
          let one : banners_in (answered_of h) ≡ 1 = omega (arith, e, few, some) in
          greeted one (
          steps ∙ one_moment count calm (opening_behind blocks state es) h (link_steps (closed_log es)) is one
          ∙ ap (λ (ns : List ℕ). count (link_steps (closed_log es)) ∷ ns) (closed_moments count blocks state es calm c) ∙ first_moment count es calm
          )
          )
      | inr none ↦ (
          let no : banners_in (answered_of h) ≡ 0 = omega (arith, e, none) in
          ungreeted no (steps ∙ no_moments count h (link_steps (closed_log es)) no ∙ closed_moments count blocks state es calm c)
          )
    ]

-- ---- the bytes taken, and the answers, are such counts

abbrev pub bytes_taken : List LinkStep → ℕ
bytes_taken l = length (link.taken_in l)

abbrev pub answers_given : List LinkStep → ℕ
answers_given l = answers_in (link.answered_in l)

linked_bytes : (xs ys : List LinkStep) → bytes_taken (xs ++ ys) ≡ bytes_taken xs + bytes_taken ys
linked_bytes [] ys = omega arith
linked_bytes (Took b ∷ xs) ys = let i = linked_bytes xs ys in omega arith
linked_bytes (Marked number bytes ∷ xs) ys = linked_bytes xs ys
linked_bytes (Answered r ∷ xs) ys = linked_bytes xs ys

pub linked_answers : (xs ys : List LinkStep) → answers_given (xs ++ ys) ≡ answers_given xs + answers_given ys
linked_answers [] ys = omega arith
linked_answers (Took b ∷ xs) ys = linked_answers xs ys
linked_answers (Marked number bytes ∷ xs) ys = linked_answers xs ys
linked_answers (Answered r ∷ xs) ys =
    let i = linked_answers xs ys in let a = answers_first r (link.answered_in (xs ++ ys)) in let b = answers_first r (link.answered_in xs) in omega arith

-- in whichever order
pub same_answers : (l : BoardLog) → answers_given (link_steps l) ≡ answers_in (answered_in l)
same_answers [] = refl
same_answers (answered r ∷ l) =
    let i = same_answers l in let a = answers_first r (link.answered_in (link_steps l)) in let b = answers_on (answered_in l) (r ∷ []) in let d = answers_first r [] in omega (arith, i, a, b, d)
same_answers (reported r ∷ l) =
    let i = same_answers l in let a = answers_first (replies.Report r) (link.answered_in (link_steps l)) in let b = answers_on (answered_in l) (replies.Report r ∷ []) in
    let d = answers_first (replies.Report r) [] in omega (arith, i, a, b, d)
same_answers (_ ∷ l) = same_answers l

pub bytes_calm : IsCalm bytes_taken
bytes_calm = record {
  starts = refl;
  stays = λ first h ys c none.
      let unread = ap length ((since first h c).0 none).0 in
      let same = same_taken (port_log h) in
      let all = linked_bytes (link_steps (port_log h)) ys in omega (arith, unread, same, all);
}

pub answers_calm : IsCalm answers_given
answers_calm = record {
  starts = refl;
  stays = λ first h ys c none.
      let unread = ap lfs_in ((since first h c).0 none).0 in
      let lines = answers_are first h c in
      let same = same_answers (port_log h) in
      let all = linked_answers (link_steps (port_log h)) ys in omega (arith, unread, lines, same, all);
}
