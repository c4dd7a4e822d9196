-- What comes next of a course, by what it tells: a line or a reset, behind some cuts.
use Rattle.std.proofs.Common.{◌≡◌, ℕ, ◌+◌, ◌≤◌, ◌⊎◌, inl, inr, List, [], ◌∷◌, ◌++◌, length, true, false, Bool, cond, ◌||◌, sym, refl, ap, ◌∙◌, subst, arith}
use Rattle.std.specs.List.{list_any}
use Rattle.std.proofs.Math.Bool.{or-true}
use Rattle.status_report.specs.Answering.{is_answer}
use Rattle.status_report.specs.declared.Message.TheVariants.{Locked, ResetToContinue}
use Rattle.status_report.specs.declared.Reply.{Reply}
use Rattle.status_report.specs.declared.Reply.TheVariants.{Banner, Alarm, Message}
use Rattle.run_rules.specs.Outcomes.{Before, limited}
use Rattle.run_rules.specs.Reports.{raises_alarm}
use Rattle.run_rules.specs.Work.{Outcome, tells, is_limit, soft_limit}
use Rattle.run_rules.proofs.Answering.{AnswersOnce, AnswersOrHalts, NoAnswers, no_alarm}
use Rattle.run_texts.specs.Courses.{Passed, Reset, behind_cut, behind_the_reset}
use Rattle.run_texts.specs.Courses.Passed.{a_line, a_broken, a_cut, a_reset}
use Rattle.run_texts.specs.Points.{Point, BecomesAt, IsPassed, behind_line, behind_broken}
use Rattle.run_texts.specs.Sent.{Sent, has_reset, waiting_in, behind_reset}
use Rattle.run_texts.specs.Sent.Sent.{a_text, a_stop}
use Rattle.run_texts.specs.SoFar.{LeadsTo}
use Rattle.run_texts.specs.Told.{told_at_reset, told_in}
use Rattle.run_texts.proofs.Determined.{line_answers}
use Rattle.run_texts.proofs.Limits.{NoLimits, line_tells_calmly}
use Rattle.run_texts.proofs.Quiet.{opens}
use Rattle.audit_rules.specs.Telling.{last_answered}
use Rattle.audit_rules.proofs.BehindText.{first_of_line}
use Rattle.audit_rules.proofs.OneWay.{both}

-- ---- what is told at a reset

-- Replies begin with one that opens an epoch.
pub record TellsAnew (us : List Reply) : Type 0 where
  pub first : Reply
  pub more : List Reply
  pub is : us ≡ first ∷ more
  pub anew : opens first ≡ true

pub tells_anew : (alarm : Bool) (behind us : List Reply) → TellsAnew ((cond alarm (Alarm 3 ∷ []) [] ++ Banner ∷ behind) ++ us)
tells_anew true behind us = record { first = Alarm 3; more = Banner ∷ (behind ++ us); is = refl; anew = refl }
tells_anew false behind us = record { first = Banner; more = behind ++ us; is = refl; anew = refl }

-- no replies begin with one that opens an epoch and with one that opens none
no_anew : {A : Type 0} (us more : List Reply) (first : Reply) → TellsAnew us → us ≡ first ∷ more → opens first ≡ false → A
no_anew us more first t e quiet =
    let whole : t.first ∷ t.more ≡ first ∷ more = sym t.is ∙ e in
    let same : t.first ≡ first = cc in
    both (opens first) (sym (ap opens same) ∙ t.anew) quiet

-- Where both of two resets leave the machine locked, or neither does, what is told behind them is the same if all is.
locked_behind : (c d : Bool) (xs ys : List Reply) → c ≡ d → cond c (Message Locked ∷ []) [] ++ xs ≡ cond d (Message Locked ∷ []) [] ++ ys → xs ≡ ys
locked_behind true true xs ys same e = cc
locked_behind false false xs ys same e = e
locked_behind true false xs ys same e = absurd cc
locked_behind false true xs ys same e = absurd cc

-- Two resets that are told the same raise an alarm both or none. So both leave the machine locked or neither, if an alarm alone
-- can tell them apart.
pub same_reset : (a b c d : Bool) (xs ys : List Reply) → (a ≡ b → c ≡ d)
    → (cond a (Alarm 3 ∷ []) [] ++ Banner ∷ cond c (Message Locked ∷ []) []) ++ xs ≡ (cond b (Alarm 3 ∷ []) [] ++ Banner ∷ cond d (Message Locked ∷ []) []) ++ ys → (c ≡ d) × (xs ≡ ys)
same_reset true true c d xs ys same e =
    let behind : cond c (Message Locked ∷ []) [] ++ xs ≡ cond d (Message Locked ∷ []) [] ++ ys = cc in
    (same refl, locked_behind c d xs ys (same refl) behind)
same_reset false false c d xs ys same e =
    let behind : cond c (Message Locked ∷ []) [] ++ xs ≡ cond d (Message Locked ∷ []) [] ++ ys = cc in
    (same refl, locked_behind c d xs ys (same refl) behind)
same_reset true false c d xs ys same e = absurd cc
same_reset false true c d xs ys same e = absurd cc

-- ---- what is told of a line

-- replies up to the first answer end at one place
answered_behind : (body other : List Reply) (a b : Reply) (xs ys : List Reply) → NoAnswers body → NoAnswers other → is_answer a ≡ true → is_answer b ≡ true
    → (body ++ a ∷ []) ++ xs ≡ (other ++ b ∷ []) ++ ys → xs ≡ ys
answered_behind [] [] a b xs ys none silent a_is b_is e = cc
answered_behind [] (r ∷ rs) a b xs ys none silent a_is b_is e =
    let same : a ≡ r = cc in both (is_answer r) (sym (ap is_answer same) ∙ a_is) silent.0.0
answered_behind (r ∷ rs) [] a b xs ys none silent a_is b_is e =
    let same : r ≡ b = cc in both (is_answer r) (ap is_answer same ∙ b_is) none.0.0
answered_behind (r ∷ rs) (z ∷ zs) a b xs ys none silent a_is b_is e =
    let behind : (rs ++ a ∷ []) ++ xs ≡ (zs ++ b ∷ []) ++ ys = cc in
    answered_behind rs zs a b xs ys none.1 silent.1 a_is b_is behind

-- the alarm of a soft limit does not stand first where none is among some replies
no_limit_first : {A : Type 0} (body : List Reply) (a : Reply) (xs ys : List Reply) → NoLimits (body ++ a ∷ []) → (body ++ a ∷ []) ++ xs ≡ Alarm soft_limit ∷ ys → A
no_limit_first [] a xs ys none e = let same : a ≡ Alarm soft_limit = cc in both (is_limit a) (ap is_limit same) none.0
no_limit_first (r ∷ rs) a xs ys none e = let same : r ≡ Alarm soft_limit = cc in both (is_limit r) (ap is_limit same) none.0

-- What two lines tell first says whether they raise an alarm, and what is told behind them.
pub record SameLine (o u : Outcome) (xs ys : List Reply) : Type 0 where
  pub raises : raises_alarm o ≡ raises_alarm u
  pub told : xs ≡ ys

-- no line that is answered tells what one tells that raises an alarm
answer_or_alarm : {A : Type 0} (p q : Point) (line : List ℕ) (o u : Outcome) (xs ys : List Reply) → BecomesAt true p line o → AnswersOnce o → u ≡ limited q.before → tells o.work ++ xs ≡ tells u.work ++ ys → A
answer_or_alarm p q line o u xs ys e once is told =
    let calm : NoLimits (once.body ++ o.answer ∷ []) = subst NoLimits once.told (line_tells_calmly true p line o e (no_alarm o.answer once.one)) in
    no_limit_first once.body o.answer xs (Message ResetToContinue ∷ ys) calm (ap (λ (t : List Reply). t ++ xs) (sym once.told) ∙ told ∙ ap (λ (x : Outcome). tells x.work ++ ys) is)

pub same_line : (p q : Point) (line : List ℕ) (o u : Outcome) (xs ys : List Reply) → BecomesAt true p line o → BecomesAt true q line u → tells o.work ++ xs ≡ tells u.work ++ ys → SameLine o u xs ys
same_line p q line o u xs ys e f told = by_answers (line_answers true p line o e) (line_answers true q line u f) where
  by_answers : AnswersOrHalts p.before o → AnswersOrHalts q.before u → SameLine o u xs ys
  by_answers (inl a) (inl b) = record {
    raises = no_alarm o.answer a.one ∙ sym (no_alarm u.answer b.one);
    told = answered_behind a.body b.body o.answer u.answer xs ys a.none b.none a.one b.one (ap (λ (t : List Reply). t ++ xs) (sym a.told) ∙ told ∙ ap (λ (t : List Reply). t ++ ys) b.told);
  }
  by_answers (inl a) (inr is) = answer_or_alarm p q line o u xs ys e a is told
  by_answers (inr is) (inl b) = answer_or_alarm q p line u o ys xs f b is (sym told)
  by_answers (inr a) (inr b) =
      let whole : Alarm soft_limit ∷ Message ResetToContinue ∷ xs ≡ Alarm soft_limit ∷ Message ResetToContinue ∷ ys =
      ap (λ (x : Outcome). tells x.work ++ xs) (sym a) ∙ told ∙ ap (λ (x : Outcome). tells x.work ++ ys) b in
      record { raises = ap raises_alarm a ∙ sym (ap raises_alarm b); told = cc }

-- A line that is passed has an answer among what is told of it, unless it raises an alarm.
pub line_answered : (b : Before) (o : Outcome) (n l : ℕ) → AnswersOrHalts b o → cond (raises_alarm o) l n ≡ cond (list_any is_answer (tells o.work)) n l
line_answered b o n l (inl once) =
    let any : list_any is_answer (tells o.work) ≡ true = ap (list_any is_answer) once.told ∙ ends once.body in
    ap (λ (t : Bool). cond t l n) (no_alarm o.answer once.one) ∙ sym (ap (λ (t : Bool). cond t n l) any) where
      ends : (body : List Reply) → list_any is_answer (body ++ o.answer ∷ []) ≡ true
      ends [] = ap (λ (t : Bool). t || false) once.one
      ends (r ∷ rs) = ap (λ (t : Bool). is_answer r || t) (ends rs) ∙ or-true (is_answer r)
line_answered b o n l (inr is) = ap (λ (x : Outcome). cond (raises_alarm x) l n) is ∙ sym (ap (λ (x : Outcome). cond (list_any is_answer (tells x.work)) n l) is)

-- ---- what comes next of a course

-- Two points have one number, and the machine is locked at both or at neither.
pub record Level (p q : Point) : Type 0 where
  pub number : p.before.number ≡ q.before.number
  pub locked : p.locked ≡ q.locked

-- Behind a line that is not answered what is told begins with what a reset tells, or nothing is told and the line still waits.
pub waits : (p last : Point) (sent left : List Sent) (ps : List Passed) → LeadsTo p sent ps last left → p.unanswered ≡ true → ((last.unanswered ≡ true) × (told_in ps ≡ [])) ⊎ TellsAnew (told_in ps)
waits p last sent left [] f begun = inl (ap (λ (x : Point). x.unanswered) f.0 ∙ begun, refl)
waits p last sent left (a_cut k at ∷ ps) f begun = waits (behind_cut at p) last sent left ps f.1 begun
waits p last sent left (a_reset r ∷ ps) f begun = inr (tells_anew r.alarm _ (told_in ps))
waits p last [] left (a_line o ∷ ps) f begun = absurd f
waits p last (a_stop ∷ sent) left (a_line o ∷ ps) f begun = absurd f
waits p last (a_text line ∷ sent) left (a_line o ∷ ps) f begun = both p.unanswered begun f.0.answered
waits p last [] left (a_broken o ∷ ps) f begun = absurd f
waits p last (a_stop ∷ sent) left (a_broken o ∷ ps) f begun = absurd f
waits p last (a_text line ∷ sent) left (a_broken o ∷ ps) f begun = both p.unanswered begun f.0.answered

-- a line comes next, behind some cuts
pub record LineAhead (p last : Point) (line : List ℕ) (sent left : List Sent) (ps : List Passed) : Type 0 where
  pub from : Point
  pub level : Level p from
  pub outcome : Outcome
  pub is : IsPassed from line outcome
  pub rest : List Passed
  pub leads : LeadsTo (behind_line from line outcome) sent rest last left
  pub tells_it : told_in ps ≡ tells outcome.work ++ told_in rest
  pub last_is : (n l : ℕ) → last_answered n l ps ≡ last_answered (n + 1) (cond (raises_alarm outcome) l n) rest

pub line_ahead : (p last : Point) (line : List ℕ) (sent left : List Sent) (ps : List Passed) (first : Reply) (more : List Reply) → LeadsTo p (a_text line ∷ sent) ps last left → told_in ps ≡ first ∷ more → opens first ≡ false
    → LineAhead p last line sent left ps
line_ahead p last line sent left [] first more f e quiet = absurd cc
line_ahead p last line sent left (a_cut k at ∷ ps) first more f e quiet =
    let a = line_ahead (behind_cut at p) last line sent left ps first more f.1 e quiet in
    record { from = a.from; level = record { number = a.level.number; locked = a.level.locked }; outcome = a.outcome; is = a.is; rest = a.rest; leads = a.leads; tells_it = a.tells_it; last_is = a.last_is }
line_ahead p last line sent left (a_reset r ∷ ps) first more f e quiet = no_anew (told_at_reset r ++ told_in ps) more first (tells_anew r.alarm _ (told_in ps)) e quiet
line_ahead p last line sent left (a_line o ∷ ps) first more f e quiet =
    record { from = p; level = record { number = refl; locked = refl }; outcome = o; is = f.0; rest = ps; leads = f.1; tells_it = refl; last_is = λ n l. refl }
line_ahead p last line sent left (a_broken o ∷ ps) first more f e quiet = by_wait (waits (behind_broken p o) last sent left ps f.1 refl) where
  by_wait : ((last.unanswered ≡ true) × (told_in ps ≡ [])) ⊎ TellsAnew (told_in ps) → LineAhead p last line sent left (a_broken o ∷ ps)
  by_wait (inl none) = absurd (let g : [] ≡ first ∷ more = sym none.1 ∙ e in cc)
  by_wait (inr anew) = no_anew (told_in ps) more first anew e quiet

-- a reset comes next, behind some cuts, and maybe behind a line that it keeps from its answer
pub record ResetAhead (p last : Point) (sent left : List Sent) (ps : List Passed) : Type 0 where
  pub from : Point
  pub reset : Reset
  pub comes : has_reset sent ≡ true
  pub number : reset.number + reset.dropped + 1 ≡ p.before.number + length (waiting_in sent)
  pub locked : reset.locked ≡ (reset.alarm || p.locked)
  pub rest : List Passed
  pub fewer : length rest + 1 ≤ length ps
  pub leads : LeadsTo (behind_the_reset reset from) (behind_reset sent) rest last left
  pub tells_it : told_in ps ≡ told_at_reset reset ++ told_in rest
  pub last_is : (n l : ℕ) → last_answered n l ps ≡ last_answered (reset.number + reset.dropped + 1) l rest

pub reset_ahead : (p last : Point) (sent left : List Sent) (ps : List Passed) → LeadsTo p sent ps last left → TellsAnew (told_in ps) → ResetAhead p last sent left ps
reset_ahead p last sent left [] f t = absurd (let g : [] ≡ t.first ∷ t.more = t.is in cc)
reset_ahead p last sent left (a_cut k at ∷ ps) f t =
    let a = reset_ahead (behind_cut at p) last sent left ps f.1 t in
    let fewer = a.fewer in
    record { from = a.from; reset = a.reset; comes = a.comes; number = a.number; locked = a.locked; rest = a.rest; fewer = omega (arith, fewer); leads = a.leads; tells_it = a.tells_it; last_is = a.last_is }
reset_ahead p last sent left (a_reset r ∷ ps) f t =
    let is = f.0 in
    record { from = p; reset = r; comes = is.comes; number = omega (arith, is.number, is.dropped); locked = is.locked; rest = ps; fewer = omega arith; leads = f.1; tells_it = refl; last_is = λ n l. refl }
reset_ahead p last [] left (a_line o ∷ ps) f t = absurd f
reset_ahead p last (a_stop ∷ sent) left (a_line o ∷ ps) f t = absurd f
reset_ahead p last (a_text line ∷ sent) left (a_line o ∷ ps) f t =
    let l = first_of_line p line o (told_in ps) f.0.becomes in no_anew (tells o.work ++ told_in ps) l.more l.first t l.is l.quiet
reset_ahead p last [] left (a_broken o ∷ ps) f t = absurd f
reset_ahead p last (a_stop ∷ sent) left (a_broken o ∷ ps) f t = absurd f
reset_ahead p last (a_text line ∷ sent) left (a_broken o ∷ ps) f t =
    let a = reset_ahead (behind_broken p o) last sent left ps f.1 t in
    let fewer = a.fewer in
    let number : a.reset.number + a.reset.dropped + 1 ≡ p.before.number + 1 + length (waiting_in sent) = a.number in
    record { from = a.from; reset = a.reset; comes = a.comes; number = omega (arith, number); locked = a.locked; rest = a.rest; fewer = omega (arith, fewer); leads = a.leads; tells_it = a.tells_it; last_is = λ n l. a.last_is (n + 1) l }
