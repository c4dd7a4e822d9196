-- What a board that keeps to its rules takes and tells, over all its epochs: each report in the epoch, and behind the answers of it, in which
-- it was asked for.
use Rattle.std.proofs.Common.{◌≡◌, ℕ, ◌+◌, ◌≤◌, ◌<◌, ◌⊎◌, inl, inr, Bool, true, false, not, cond, ◌&&◌, ◌||◌, List, [], ◌∷◌, ◌++◌, drop, nat_eq, refl, sym, ap, ◌∙◌, arith}
use Rattle.outside.specs.declared.Turn.{Turn}
use Rattle.outside.specs.declared.Turn.TheVariants.{Did, Wait, Done}
use Rattle.status_report.specs.declared.Reply.{Reply}
use Rattle.status_report.specs.Answering.{is_answer, answers_in, is_report, is_banner, banners_in}
use Rattle.status_report.proofs.Answered.{answers_first}
use Rattle.status_report.proofs.Banners.{banners_first, banners_on}
use Rattle.planner_runs.specs.declared.Action.{Action}
use Rattle.planner_runs.specs.declared.Action.TheVariants.{Add, Mark, Rest}
use Rattle.step_line.specs.Logs.{NewestFirst}
use Rattle.run_rules.specs.declared.State.{State}
use Rattle.run_rules.specs.Work.{Task, tells}
use Rattle.run_rules.specs.Work.Task.{tell}
use Rattle.board_journal.specs.Openings.{Opening}
use Rattle.board_journal.specs.Ports.{BoardLog, asks_report, asks_reset, answered_in}
use Rattle.board_journal.specs.Ports.PortStep.{took, answered, reported, took_exec}
use Rattle.board_journal.specs.Steps.{Journal, port_log, answered_of, left_of, left_by, whole_of}
use Rattle.board_journal.specs.Steps.Step.{at_port, began, did, made_end, evened, paused, cut, halted, closing, turned}
use Rattle.board_rules.specs.Turns.{is_greeted, owes_report, requests_taken, changes_taken, by_turn}
use Rattle.board_rules.specs.Conduct.{Conducted, IsNextTask, MayTell}
use Rattle.board_rules.proofs.Dropping.{tells_kept}
use Rattle.board_rules.proofs.Greeting.{banners_are}
use Rattle.board_journal.proofs.LinkSteps.{answered_back}
use Rattle.board_rules.proofs.Opening.{tells_telling, greets_unanswered}
use Rattle.board_epochs.specs.Epochs.{Closed, Epochs, AreClosed, AreEpochs, closed_log, log_behind, log_of, log_on, opening_behind}
use Rattle.board_epochs.specs.Epochs.Epochs.{goes, resets}
use Rattle.board_epochs.specs.Resets.{MayReset, has_reset, drops_resets}
use Rattle.board_epochs.specs.Work.{Work, Works, stage_of}
use Rattle.board_epochs.proofs.Greeted.{was_greeted}
use Rattle.board_epochs.proofs.Onto.{answered_on}
use Rattle.board_epochs.proofs.Working.{never}
use Rattle.list_ports.specs.Asked.{LooksFirst, MayFollow, has_looked, is_at, resets_taken, told_by, words_behind}
use Rattle.line_reports.specs.PerLine.{reports_at}
use Rattle.list_ports.proofs.Marking.{same_banners}

-- ---- a line is answered only once the word of requests was taken behind it

left_and : (x y : Bool) → (x && y) ≡ true → x ≡ true
left_and true y e = refl
left_and false y e = absurd cc

right_and : (x y : Bool) → (x && y) ≡ true → y ≡ true
right_and true y e = e
right_and false y e = absurd cc

both_and : (x y : Bool) → x ≡ true → y ≡ true → (x && y) ≡ true
both_and true true e f = refl
both_and true false e f = absurd cc
both_and false y e f = absurd cc

not_true : (x : Bool) → not x ≡ true → x ≡ false
not_true true e = absurd cc
not_true false e = refl

no_wait : (greeted : Bool) (t : Turn) (taken : Bool) → by_turn greeted t taken ≡ true → taken ≡ true
no_wait false t taken e = e
no_wait true Did taken e = e
no_wait true (Wait on) taken e = absurd cc
no_wait true Done taken e = e

abbrev AreAnswered : List Task → Type 0
AreAnswered tasks = answers_in (tells tasks) ≡ 0

fewer : (tasks : List Task) → AreAnswered tasks → AreAnswered (drop 1 tasks)
fewer [] none = none
fewer (tell r ∷ tasks) none = let e = answers_first r (tells tasks) in omega arith
fewer (_ ∷ tasks) none = none

fewer_by : (a : Action) (tasks : List Task) → AreAnswered tasks → AreAnswered (left_by a tasks)
fewer_by (Add m) tasks none = fewer tasks none
fewer_by (Mark m) tasks none = fewer tasks none
fewer_by Rest tasks none = fewer tasks none
fewer_by _ tasks none = none

-- how many Banners were told
banners_told : (l : BoardLog) → banners_in (told_by l) ≡ banners_in (answered_in l)
banners_told l = sym (ap banners_in (answered_back l) ∙ same_banners (told_by l))

one_more : (asked : Bool) (n : ℕ) → n ≤ cond asked (n + 1) n
one_more true n = omega arith
one_more false n = omega arith

-- ---- reports are told where words asked for them

other_told : (words reports : ℕ) (plain owes here there x : Bool) → plain ≡ false → owes ≡ false → reports + cond (owes && here) 1 0 ≤ words → (cond (plain && x) 1 0 + reports) + cond (owes && there) 1 0 ≤ words
other_told words reports true owes here there x p o le = absurd cc
other_told words reports false true here there x p o le = absurd cc
other_told words reports false false here there x p o le = omega arith

report_told : (words reports : ℕ) (owes here there : Bool) → owes ≡ true → reports + cond (owes && here) 1 0 ≤ words → (cond (true && here) 1 0 + reports) + cond (false && there) 1 0 ≤ words
report_told words reports true here there owed le = omega arith
report_told words reports false here there owed le = absurd cc

word_taken : (words reports : ℕ) (asks owes here : Bool) → reports + cond (owes && here) 1 0 ≤ words → reports + cond ((asks || owes) && here) 1 0 ≤ cond (asks && here) 1 0 + words
word_taken words reports true true true le = omega arith
word_taken words reports true true false le = omega arith
word_taken words reports true false true le = omega arith
word_taken words reports true false false le = omega arith
word_taken words reports false owes here le = omega arith

-- ---- one epoch, behind what was done before

-- what holds of a log where an epoch ends, and where the next begins
record Follows (l : BoardLog) : Type 0 where
  pub looks : LooksFirst l
  pub banners : banners_in (told_by l) ≤ resets_taken l
  pub few : (e k : ℕ) → reports_at e k (told_by l) ≤ words_behind e k l

module _ (base : ℕ) (before : BoardLog) (first : Opening) where
  abbrev all_of : Journal → BoardLog
  all_of h = log_on base (port_log h) ++ before

  -- the word of requests was taken behind a line that is taken whole, where it was in the journal
  taken_looked : (h : Journal) → requests_taken h ≡ true → (has_looked (all_of h) ≡ true) ⊎ (whole_of h ≡ false)
  taken_looked [] e = inr refl
  taken_looked (at_port (took b) ∷ h) e = by_looked (taken_looked h (right_and (not (nat_eq b 10)) (requests_taken h) e))
    where
      by_looked : (has_looked (all_of h) ≡ true) ⊎ (whole_of h ≡ false) → (has_looked (all_of (at_port (took b) ∷ h)) ≡ true) ⊎ (nat_eq b 10 ≡ false)
      by_looked (inl looked) = inl (both_and (not (nat_eq b 10)) (has_looked (all_of h)) (left_and (not (nat_eq b 10)) (requests_taken h) e) looked)
      by_looked (inr whole) = inr (not_true (nat_eq b 10) (left_and (not (nat_eq b 10)) (requests_taken h) e))
  taken_looked (at_port (took_exec word) ∷ h) e = inl refl
  taken_looked (began o ∷ h) e = inr refl
  taken_looked (turned t ∷ h) e = taken_looked h (no_wait (is_greeted h) t (requests_taken h) e)
  taken_looked (_ ∷ h) e = taken_looked h e

  abbrev Looks : Journal → Type 0
  Looks h = has_looked (all_of h) ≡ false → AreAnswered (left_of first h)

  looks_is : (h : Journal) → Conducted first h → Looks h
  looks_is [] c e = ap answers_in (tells_telling first.tells) ∙ greets_unanswered first.tells c.greets
  looks_is (at_port (took b) ∷ h) c e = ap (λ (tasks : List Task). answers_in (tells tasks)) c.0.polls.all_done
  looks_is (at_port (answered r) ∷ h) c e = fewer (left_of first h) (looks_is h c.1 e)
  looks_is (at_port (took_exec word) ∷ h) c e = absurd cc
  looks_is (began o ∷ h) c e = by_looked (taken_looked h (left_and (requests_taken h) (changes_taken h) c.0.flags))
    where
      by_looked : (has_looked (all_of h) ≡ true) ⊎ (whole_of h ≡ false) → AreAnswered (left_of first (began o ∷ h))
      by_looked (inl looked) = absurd (let f = sym e ∙ looked in cc)
      by_looked (inr whole) = absurd (let f = sym whole ∙ c.0.whole in cc)
  looks_is (did a ps ∷ h) c e = fewer_by a (left_of first h) (looks_is h c.1 e)
  looks_is (made_end ∷ h) c e = fewer (left_of first h) (looks_is h c.1 e)
  looks_is (evened ∷ h) c e = fewer (left_of first h) (looks_is h c.1 e)
  looks_is (paused ∷ h) c e = fewer (left_of first h) (looks_is h c.1 e)
  looks_is (cut k ∷ h) c e = ap answers_in (tells_kept (left_of first h)) ∙ looks_is h c.1 e
  looks_is (halted ∷ h) c e = fewer (left_of first h) (looks_is h c.1 e)
  looks_is (closing ∷ h) c e = refl
  looks_is (_ ∷ h) c e = looks_is h c.1 e

  on_answer : (h : Journal) (r : Reply) → IsNextTask first (tell r) h → Looks h → is_answer r ≡ true → has_looked (all_of h) ≡ true
  on_answer h r next looks is = by_test (has_looked (all_of h)) looks
    where
      by_test : (t : Bool) → (t ≡ false → AreAnswered (left_of first h)) → t ≡ true
      by_test true none = refl
      by_test false none =
          let n = none refl in
          let e = ap (λ (tasks : List Task). answers_in (tells tasks)) next in
          let f = answers_first r (tells (drop 1 (left_of first h))) in
          let one = ap (λ (t : Bool). cond {A = ℕ} t 1 0) is in
          absurd (omega arith)

  -- no fewer resets are taken than before, and one more where one was taken in this epoch
  resets_more : (h : Journal) → resets_taken before ≤ resets_taken (all_of h)
  resets_more [] = omega arith
  resets_more (at_port (took_exec word) ∷ h) = let m = resets_more h in let o = one_more (asks_reset word) (resets_taken (all_of h)) in omega arith
  resets_more (at_port _ ∷ h) = resets_more h
  resets_more (_ ∷ h) = resets_more h

  asked_more : (asked drops was : Bool) (n m : ℕ) → ((asked && not drops) || was) ≡ true → n ≤ m → (was ≡ true → n < m) → n < cond asked (m + 1) m
  asked_more true drops was n m e le lt = omega arith
  asked_more false drops was n m e le lt = lt e

  reset_more : (h : Journal) → has_reset h ≡ true → resets_taken before < resets_taken (all_of h)
  reset_more [] e = absurd cc
  reset_more (at_port (took_exec word) ∷ h) e = asked_more (asks_reset word) (drops_resets h) (has_reset h) (resets_taken before) (resets_taken (all_of h)) e (resets_more h) (reset_more h)
  reset_more (at_port _ ∷ h) e = reset_more h e
  reset_more (_ ∷ h) e = reset_more h e

  -- the Banners that are told
  banners_there : (h : Journal) → banners_in (told_by (all_of h)) ≡ banners_in (told_by before) + banners_in (answered_of h)
  banners_there h =
      let a = banners_told (all_of h) in let b = ap banners_in (answered_on base (port_log h) before) in
      let d = banners_on (answered_in before) (answered_of h) in let f = banners_told before in omega arith

  -- none was told in this epoch before its Banner
  on_banner : (h : Journal) (r : Reply) → Conducted first h → IsNextTask first (tell r) h → Follows before → is_banner r ≡ true → banners_in (told_by (all_of h)) ≤ resets_taken (all_of h)
  on_banner h r c next was is =
      let t = ap (λ (x : Bool). cond {A = ℕ} x 1 0) is in
      let all = banners_are first h c in
      let left = ap (λ (ts : List Task). banners_in (tells ts)) next in
      let here = banners_first r (tells (drop 1 (left_of first h))) in
      let there = banners_there h in let b = was.banners in let m = resets_more h in omega arith

  follows_told : (h : Journal) (r : Reply) → Conducted first h → MayTell first r h → Follows before → MayFollow r (all_of h)
  follows_told h r c may was = record { line = on_answer h r may.next (looks_is h c); banner = on_banner h r c may.next was }

  looks_first : (h : Journal) → Conducted first h → Follows before → LooksFirst (all_of h)
  looks_first [] c was = was.looks
  looks_first (at_port (answered r) ∷ h) c was = (follows_told h r c.1 c.0 was, looks_first h c.1 was)
  looks_first (at_port _ ∷ h) c was = looks_first h c.1 was
  looks_first (_ ∷ h) c was = looks_first h c.1 was

  -- no more reports are told than words that ask for one were taken
  abbrev Tells : (e k : ℕ) → Journal → Type 0
  Tells e k h = reports_at e k (told_by (all_of h)) + cond (owes_report h && is_at e k (told_by (all_of h))) 1 0 ≤ words_behind e k (all_of h)

  tells_few : (e k : ℕ) (h : Journal) → Conducted first h → Follows before → Tells e k h
  tells_few e k [] c was = let f = was.few e k in omega arith
  tells_few e k (at_port (answered r) ∷ h) c was =
      other_told (words_behind e k (all_of h)) (reports_at e k (told_by (all_of h))) (is_report r) (owes_report h) (is_at e k (told_by (all_of h)))
      (is_at e k (told_by (all_of (at_port (answered r) ∷ h)))) (is_at e k (told_by (all_of h))) c.0.plain c.0.unowed (tells_few e k h c.1 was)
  tells_few e k (at_port (reported r) ∷ h) c was =
      report_told (words_behind e k (all_of h)) (reports_at e k (told_by (all_of h))) (owes_report h) (is_at e k (told_by (all_of h)))
      (is_at e k (told_by (all_of (at_port (reported r) ∷ h)))) c.0.owed (tells_few e k h c.1 was)
  tells_few e k (at_port (took_exec word) ∷ h) c was =
      word_taken (words_behind e k (all_of h)) (reports_at e k (told_by (all_of h))) (asks_report word) (owes_report h) (is_at e k (told_by (all_of h))) (tells_few e k h c.1 was)
  tells_few e k (at_port _ ∷ h) c was = tells_few e k h c.1 was
  tells_few e k (_ ∷ h) c was = tells_few e k h c.1 was

  told_few : (e k : ℕ) (h : Journal) → Conducted first h → Follows before → reports_at e k (told_by (all_of h)) ≤ words_behind e k (all_of h)
  told_few e k h c was = let t = tells_few e k h c was in omega arith

  -- where an epoch ends, a reset was taken for the Banner of the next
  follows_end : (h : Journal) → Conducted first h → MayReset first h → Follows before → Follows (all_of h)
  follows_end h c may was = record {
    looks = looks_first h c was;
    banners = (let t = banners_there h in let g = was_greeted first h c may in let b = was.banners in let m = reset_more h may.asked in omega arith);
    few = λ e k. told_few e k h c was;
  }

-- ---- a reset's work

asked_words : (asks here : Bool) (n m : ℕ) → n ≤ m → n ≤ cond (asks && here) 1 0 + m
asked_words asks here n m le = omega arith

works_follow : (number : ℕ) (before : BoardLog) (w : Work) → Works number before w → Follows before → Follows (port_log w ++ before)
works_follow number before [] c was = was
works_follow number before (at_port (answered r) ∷ w) c was = absurd (never number (port_log w ++ before) (stage_of before w) (answered r) tt c.0)
works_follow number before (at_port (reported r) ∷ w) c was = absurd (never number (port_log w ++ before) (stage_of before w) (reported r) tt c.0)
works_follow number before (at_port (took_exec word) ∷ w) c was =
    let m = works_follow number before w c.2 was in record {
      looks = m.looks;
      banners = (let b = m.banners in let o = one_more (asks_reset word) (resets_taken (port_log w ++ before)) in omega arith);
      few = λ e k. asked_words (asks_report word) (is_at e k (told_by (port_log w ++ before))) _ _ (m.few e k);
    }
works_follow number before (at_port e ∷ w) c was = let m = works_follow number before w c.2 was in record { looks = m.looks; banners = m.banners; few = m.few }
works_follow number before (turned t ∷ w) c was = works_follow number before w c.2 was
works_follow number before (_ ∷ w) c was = absurd c.0

-- ---- all epochs

follows_none : Follows []
follows_none = record { looks = tt; banners = omega arith; few = λ e k. omega arith }

closed_follow : (blocks : ℕ) (state : State) (es : NewestFirst Closed) → AreClosed blocks state es → Follows (closed_log es)
closed_follow blocks state [] c = follows_none
closed_follow blocks state (e ∷ es) c =
    let r = c.0.resetting in
    works_follow _ (log_behind (closed_log es) e.journal) e.work r.works
    (follows_end _ (closed_log es) (opening_behind blocks state es) e.journal r.epoch.conducted r.may (closed_follow blocks state es c.1))

-- what holds of the log of a board's epochs
pub record Keeps (l : BoardLog) : Type 0 where
  pub looks : LooksFirst l
  pub few : (e k : ℕ) → reports_at e k (told_by l) ≤ words_behind e k l

pub boards_keep : (blocks : ℕ) (state : State) (r : Epochs) → AreEpochs blocks state r → Keeps (log_of r)
boards_keep blocks state (goes es h) are =
    let was = closed_follow blocks state es are.0 in
    record { looks = looks_first _ (closed_log es) (opening_behind blocks state es) h are.1.conducted was; few = λ e k. told_few _ (closed_log es) (opening_behind blocks state es) e k h are.1.conducted was }
boards_keep blocks state (resets es h w) are =
    let m = works_follow _ (log_behind (closed_log es) h) w are.1.works (follows_end _ (closed_log es) (opening_behind blocks state es) h are.1.epoch.conducted are.1.may (closed_follow blocks state es are.0)) in
    record { looks = m.looks; few = m.few }

-- ---- what was got is a front of it

pub front_fewer : (e k : ℕ) (xs ys : List Reply) → reports_at e k ys ≤ reports_at e k (xs ++ ys)
front_fewer e k [] ys = omega arith
front_fewer e k (x ∷ xs) ys = let m = front_fewer e k xs ys in omega arith
