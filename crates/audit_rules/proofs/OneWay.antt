-- Of two courses of one job that have the same cuts and resets first, the one that tells more goes on behind the other. If they
-- tell the same, they lead to one point.
use Rattle.std.proofs.Common.{◌≡◌, ℕ, suc, ◌+◌, ◌≤◌, ◌⊎◌, inl, inr, List, [], ◌∷◌, ◌++◌, nat_eq, length, true, false, Bool, cond, ◌||◌, sym, refl, ap, ◌∙◌, subst, arith}
use Rattle.units.specs.declared.Steps3.{Steps3}
use Rattle.status_report.specs.Answering.{is_answer}
use Rattle.status_report.specs.declared.Message.TheVariants.{Locked}
use Rattle.status_report.specs.declared.Reply.{Reply}
use Rattle.status_report.specs.declared.Reply.TheVariants.{Banner, Ok, Error, Alarm, Message, Report, Setting, Modes, Offset, Bye}
use Rattle.run_rules.specs.declared.State.{State}
use Rattle.run_rules.specs.Outcomes.{Before, Becomes, start, refused, either, motion_error}
use Rattle.run_rules.specs.Reports.{raises_alarm}
use Rattle.run_rules.specs.Work.{Outcome, tells, soft_limit}
use Rattle.run_rules.proofs.Answering.{AnswersOrHalts, NoAnswers}
use Rattle.run_rules.proofs.Determined.{outcomes_agree}
use Rattle.run_texts.specs.Courses.{Passed, Reset, IsCut, IsReset, behind_cut, behind_the_reset, reset_state}
use Rattle.run_texts.specs.Courses.Passed.{a_line, a_broken, a_cut, a_reset}
use Rattle.run_texts.specs.Places.{position}
use Rattle.run_texts.specs.Points.{Point, BecomesAt, BecomesLocked, IsPassed, IsBroken, behind_line, behind_broken}
use Rattle.run_texts.specs.Sent.{Sent, waiting_in, behind_reset}
use Rattle.run_texts.specs.Sent.Sent.{a_text}
use Rattle.run_texts.specs.Told.{told_at_reset, told_in}
use Rattle.run_texts.proofs.Determined.{line_answers}
use Rattle.run_texts.proofs.Errors.{begun_one, line_error}
use Rattle.run_texts.proofs.Quiet.{opens, Quiet, TellsQuietly, line_quiet}
use Rattle.run_texts.proofs.Stops.{Stop}
use Rattle.run_texts.proofs.Stops.Stop.{cut_at, reset_at}
use Rattle.audit_rules.specs.Telling.{last_answered}

-- ---- what tells replies apart

-- the first byte of a reply's text; of an alarm, which one it is: that of a soft limit, that of a reset, or another
abbrev pub sign_of : Reply → ℕ
sign_of Banner = 13
sign_of Ok = 111
sign_of (Error n) = 101
sign_of (Alarm n) = cond (nat_eq n soft_limit) 1 (cond (nat_eq n 3) 2 3)
sign_of (Message m) = 91
sign_of (Report r) = 60
sign_of (Setting n v) = 36
sign_of (Modes m) = 91
sign_of (Offset row at) = 91
sign_of Bye = 4

-- the sign of the first of some replies
abbrev pub first_sign : List Reply → ℕ
first_sign [] = 0
first_sign (r ∷ rs) = sign_of r

-- The second of these replies go on where the first end: the first of both have one sign, unless the first have none, and they go on
-- so behind the same replies, or behind an error each.
pub record TellOn (R : List Reply → List Reply → Type 0) : Type 0 where
  pub first : (us vs : List Reply) → R us vs → (us ≡ []) ⊎ (first_sign us ≡ first_sign vs)
  pub behind : (zs us vs : List Reply) → R (zs ++ us) (zs ++ vs) → R us vs
  pub errors : (n m : ℕ) (us vs : List Reply) → R (Error n ∷ us) (Error m ∷ vs) → R us vs

-- what comes next, by what is told: nothing, a reset, or a line
data Way : Type 0 where
  to_end : Way
  anew : Way
  by_line : Way

abbrev sign_way : ℕ → Way
sign_way sign = cond (nat_eq sign 0) to_end (cond (nat_eq sign 13 || nat_eq sign 2) anew by_line)

abbrev way_of : List Reply → Way
way_of replies = sign_way (first_sign replies)

-- ---- a course

-- a reset is the next of these, or there is none and it leaves the position as it is
abbrev pub NextReset : Point → Reset → List Stop → List Stop → Type 0
NextReset p r stops more = (stops ≡ reset_at r.number r.at ∷ more) ⊎ ((stops ≡ []) × (more ≡ []) × (r.at ≡ position p))

-- A course leads to a point at which all lines are answered. These cuts and resets come first, and then resets that leave the
-- position as it is, without cuts.
abbrev pub Goes : Point → List Sent → List Stop → List Passed → Point → List Sent → Type 0
Goes p sent stops [] last left = (last ≡ p) × (left ≡ sent) × (stops ≡ []) × (p.unanswered ≡ false)
Goes p sent stops (a_line o ∷ ps) last left = (line : List ℕ) × (more : List Sent) × (sent ≡ a_text line ∷ more) × IsPassed p line o × Goes (behind_line p line o) more stops ps last left
Goes p sent stops (a_broken o ∷ ps) last left = (line : List ℕ) × (more : List Sent) × (sent ≡ a_text line ∷ more) × IsBroken p line o × Goes (behind_broken p o) more stops ps last left
Goes p sent stops (a_cut k at ∷ ps) last left = (more : List Stop) × (stops ≡ cut_at k at ∷ more) × IsCut p k × Goes (behind_cut at p) sent more ps last left
Goes p sent stops (a_reset r ∷ ps) last left = (more : List Stop) × NextReset p r stops more × IsReset p sent r × Goes (behind_the_reset r p) (behind_reset sent) more ps last left

-- ---- which way it goes on

-- a reply that opens no epoch is of a line
alarm_of_line : (limit reset : Bool) → reset ≡ false → sign_way (cond limit 1 (cond reset 2 3)) ≡ by_line
alarm_of_line true reset e = refl
alarm_of_line false true e = absurd cc
alarm_of_line false false e = refl

of_line : (r : Reply) → opens r ≡ false → sign_way (sign_of r) ≡ by_line
of_line Banner e = absurd cc
of_line (Alarm n) e = alarm_of_line (nat_eq n soft_limit) (nat_eq n 3) e
of_line Ok e = refl
of_line (Error n) e = refl
of_line (Message m) e = refl
of_line (Report r) e = refl
of_line (Setting n v) e = refl
of_line (Modes m) e = refl
of_line (Offset row at) e = refl
of_line Bye e = refl

line_first : (body ys : List Reply) (r : Reply) → Quiet (body ++ r ∷ []) → way_of ((body ++ r ∷ []) ++ ys) ≡ by_line
line_first [] ys r quiet = of_line r quiet.0
line_first (x ∷ body) ys r quiet = of_line x quiet.0

line_by : (b : Before) (o : Outcome) (ys : List Reply) → AnswersOrHalts b o → TellsQuietly o → way_of (tells o.work ++ ys) ≡ by_line
line_by b o ys (inl once) quiet = ap (λ (t : List Reply). way_of (t ++ ys)) once.told ∙ line_first once.body ys o.answer (subst Quiet once.told quiet)
line_by b o ys (inr is) quiet = ap (λ (x : Outcome). way_of (tells x.work ++ ys)) is

line_way : (p : Point) (kept : List ℕ) (o : Outcome) (ys : List Reply) → BecomesAt true p kept o → way_of (tells o.work ++ ys) ≡ by_line
line_way p kept o ys is = line_by p.before o ys (line_answers true p kept o is) (line_quiet true p kept o is)

reset_way : (alarm : Bool) (more ys : List Reply) → way_of ((cond alarm (Alarm 3 ∷ []) [] ++ Banner ∷ more) ++ ys) ≡ anew
reset_way true more ys = refl
reset_way false more ys = refl

-- a test has one answer
pub both : {A : Type 0} (b : Bool) → b ≡ true → b ≡ false → A
both true e f = absurd cc
both false e f = absurd cc

-- behind a line that is not answered a reset is told first
waits_way : (p last : Point) (sent left : List Sent) (stops : List Stop) (ps : List Passed) → Goes p sent stops ps last left → p.unanswered ≡ true → way_of (told_in ps) ≡ anew
waits_way p last sent left stops [] g begun = both p.unanswered begun g.3
waits_way p last sent left stops (a_line o ∷ ps) g begun = both p.unanswered begun g.3.answered
waits_way p last sent left stops (a_broken o ∷ ps) g begun = both p.unanswered begun g.3.answered
waits_way p last sent left stops (a_cut k at ∷ ps) g begun = waits_way (behind_cut at p) last sent left g.0 ps g.3 begun
waits_way p last sent left stops (a_reset r ∷ ps) g begun = reset_way r.alarm _ (told_in ps)

end_anew : {A : Type 0} → to_end ≡ anew → A
end_anew e = absurd cc

end_line : {A : Type 0} → to_end ≡ by_line → A
end_line e = absurd cc

line_anew : {A : Type 0} → by_line ≡ anew → A
line_anew e = absurd cc

-- what goes on with replies that take a way has their sign, and takes their way
same_sign : (R : List Reply → List Reply → Type 0) (on : TellOn R) (us vs : List Reply) (w : Way) → R us vs → way_of us ≡ w → (to_end ≡ w → ⊥) → first_sign us ≡ first_sign vs
same_sign R on us vs w told e some = by_first (on.first us vs told) where
  by_first : (us ≡ []) ⊎ (first_sign us ≡ first_sign vs) → first_sign us ≡ first_sign vs
  by_first (inl none) = absurd (some (sym (ap way_of none) ∙ e))
  by_first (inr same) = same

same_way : (R : List Reply → List Reply → Type 0) (on : TellOn R) (us vs : List Reply) (w : Way) → R us vs → way_of us ≡ w → (to_end ≡ w → ⊥) → way_of vs ≡ w
same_way R on us vs w told e some = ap sign_way (sym (same_sign R on us vs w told e some)) ∙ e

-- ---- cuts and resets in turn

abbrev pub stop_number : Stop → ℕ
stop_number (cut_at k at) = k
stop_number (reset_at k at) = k

same_stop : (stops more less : List Stop) (s t : Stop) → stops ≡ s ∷ more → stops ≡ t ∷ less → (s ≡ t) × (more ≡ less)
same_stop [] more less s t e f = absurd cc
same_stop (x ∷ xs) more less s t e f =
    let first : s ≡ t = cc in
    let rest : more ≡ less = cc in
    (first, rest)

pub no_stop : {A : Type 0} (stops more : List Stop) (s : Stop) → stops ≡ [] → stops ≡ s ∷ more → A
no_stop [] more s e f = absurd cc
no_stop (x ∷ xs) more s e f = absurd cc

-- the number of the first cut or reset is at least that of the line before
first_stop : (p last : Point) (sent left : List Sent) (stops : List Stop) (ps : List Passed) (s : Stop) (more : List Stop) → Goes p sent stops ps last left → stops ≡ s ∷ more → p.before.number ≤ stop_number s + 1
first_stop p last sent left stops [] s more g e = no_stop stops more s g.2 e
first_stop p last sent left stops (a_line o ∷ ps) s more g e =
    let rest : p.before.number + 1 ≤ stop_number s + 1 = first_stop (behind_line p g.0 o) last g.1 left stops ps s more g.4 e in
    omega (arith, rest)
first_stop p last sent left stops (a_broken o ∷ ps) s more g e =
    let rest : p.before.number + 1 ≤ stop_number s + 1 = first_stop (behind_broken p o) last g.1 left stops ps s more g.4 e in
    omega (arith, rest)
first_stop p last sent left stops (a_cut k at ∷ ps) s more g e =
    let same : k ≡ stop_number s = ap stop_number (same_stop stops g.0 more (cut_at k at) s g.1 e).0 in
    let number = g.2.number in
    omega (arith, same, number)
first_stop p last sent left stops (a_reset r ∷ ps) s more g e = by_next g.1 where
  by_next : NextReset p r stops g.0 → p.before.number ≤ stop_number s + 1
  by_next (inl here) =
      let same : r.number ≡ stop_number s = ap stop_number (same_stop stops g.0 more (reset_at r.number r.at) s here e).0 in
      let number = g.2.number in
      omega (arith, same, number)
  by_next (inr free) = no_stop stops more s free.0 e

-- so behind a line no cut and no reset comes that could have come before it
later : {A : Type 0} (p q last : Point) (sent left : List Sent) (stops : List Stop) (ps : List Passed) (s : Stop) (more : List Stop)
    → Goes q sent stops ps last left → q.before.number ≡ p.before.number + 1 → p.before.number ≡ stop_number s + 1 → stops ≡ s ∷ more → A
later p q last sent left stops ps s more g next number e =
    let least = first_stop q last sent left stops ps s more g e in
    absurd (omega (arith, least, next, number))

-- ---- a line

no_error : (limit reset : Bool) → ◌≡◌ {A = ℕ} (cond limit 1 (cond reset 2 3)) 101 → ⊥
no_error true reset e = omega (arith, e)
no_error false true e = omega (arith, e)
no_error false false e = omega (arith, e)

is_error : (r : Reply) → sign_of r ≡ 101 → (n : ℕ) × (r ≡ Error n)
is_error (Error n) e = (n, refl)
is_error Banner e = absurd (omega (arith, e))
is_error Ok e = absurd (omega (arith, e))
is_error (Alarm n) e = absurd (no_error (nat_eq n soft_limit) (nat_eq n 3) e)
is_error (Message m) e = absurd (omega (arith, e))
is_error (Report r) e = absurd (omega (arith, e))
is_error (Setting n v) e = absurd (omega (arith, e))
is_error (Modes m) e = absurd (omega (arith, e))
is_error (Offset row at) e = absurd (omega (arith, e))
is_error Bye e = absurd (omega (arith, e))

-- what is told of a line begins with an error only if its answer is one
error_answer : (b : Before) (o : Outcome) (ys : List Reply) → AnswersOrHalts b o → first_sign (tells o.work ++ ys) ≡ 101 → (n : ℕ) × (o.answer ≡ Error n)
error_answer b o ys (inl once) e = by_body once.body once.none (sym (ap (λ (t : List Reply). first_sign (t ++ ys)) once.told) ∙ e) where
  by_body : (body : List Reply) → NoAnswers body → first_sign ((body ++ o.answer ∷ []) ++ ys) ≡ 101 → (n : ℕ) × (o.answer ≡ Error n)
  by_body [] none f = is_error o.answer f
  by_body (r ∷ rs) none f = let x = is_error r f in both (is_answer r) (ap is_answer x.1) none.0.0
error_answer b o ys (inr is) e = absurd (let f : 1 ≡ 101 = sym (ap (λ (x : Outcome). first_sign (tells x.work ++ ys)) is) ∙ e in omega (arith, f))

record SameLine (R : List Reply → List Reply → Type 0) (p : Point) (kept : List ℕ) (x y : Outcome) (xs ys : List Reply) : Type 0 where
  pub behind : behind_line p kept x ≡ behind_line p kept y
  pub raises : raises_alarm x ≡ raises_alarm y
  pub told : R xs ys

one_outcome : (R : List Reply → List Reply → Type 0) (on : TellOn R) (p : Point) (kept : List ℕ) (x y : Outcome) (xs ys : List Reply) → x ≡ y → R (tells x.work ++ xs) (tells y.work ++ ys) → SameLine R p kept x y xs ys
one_outcome R on p kept x y xs ys e told = record {
  behind = ap (behind_line p kept) e;
  raises = ap raises_alarm e;
  told = on.behind (tells x.work) xs ys (subst (λ (o : Outcome). R (tells x.work ++ xs) (tells o.work ++ ys)) (sym e) told);
}

-- an error changes nothing, whatever its number
two_errors : (R : List Reply → List Reply → Type 0) (on : TellOn R) (p : Point) (kept : List ℕ) (n m : ℕ) (x y : Outcome) (xs ys : List Reply) → x ≡ refused p.before n → y ≡ refused p.before m
    → R (tells x.work ++ xs) (tells y.work ++ ys) → SameLine R p kept x y xs ys
two_errors R on p kept n m x y xs ys e f told = record {
  behind = ap (behind_line p kept) e ∙ sym (ap (behind_line p kept) f);
  raises = ap raises_alarm e ∙ sym (ap raises_alarm f);
  told = on.errors n m xs ys (subst (λ (o : Outcome). R (tells o.work ++ xs) (Error m ∷ ys)) e (subst (λ (o : Outcome). R (tells x.work ++ xs) (tells o.work ++ ys)) f told));
}

line_sign : (R : List Reply → List Reply → Type 0) (on : TellOn R) (p : Point) (kept : List ℕ) (x : Outcome) (xs vs : List Reply) → BecomesAt true p kept x → R (tells x.work ++ xs) vs → first_sign (tells x.work ++ xs) ≡ first_sign vs
line_sign R on p kept x xs vs is told = same_sign R on (tells x.work ++ xs) vs by_line told (line_way p kept x xs is) end_line

refused_first : (R : List Reply → List Reply → Type 0) (on : TellOn R) (p : Point) (kept : List ℕ) (n : ℕ) (x y : Outcome) (xs ys : List Reply) → BecomesAt true p kept x → BecomesAt true p kept y → x ≡ refused p.before n
    → R (tells x.work ++ xs) (tells y.work ++ ys) → SameLine R p kept x y xs ys
refused_first R on p kept n x y xs ys x_is y_is e told =
    let first : first_sign (tells y.work ++ ys) ≡ 101 = sym (line_sign R on p kept x xs (tells y.work ++ ys) x_is told) ∙ ap (λ (o : Outcome). first_sign (tells o.work ++ xs)) e in
    let answer = error_answer p.before y ys (line_answers true p kept y y_is) first in
    two_errors R on p kept n answer.0 x y xs ys e (line_error true p kept y answer.0 y_is answer.1) told

refused_second : (R : List Reply → List Reply → Type 0) (on : TellOn R) (p : Point) (kept : List ℕ) (n : ℕ) (x y : Outcome) (xs ys : List Reply) → BecomesAt true p kept x → y ≡ refused p.before n
    → R (tells x.work ++ xs) (tells y.work ++ ys) → SameLine R p kept x y xs ys
refused_second R on p kept n x y xs ys x_is e told =
    let first : first_sign (tells x.work ++ xs) ≡ 101 = line_sign R on p kept x xs (tells y.work ++ ys) x_is told ∙ ap (λ (o : Outcome). first_sign (tells o.work ++ ys)) e in
    let answer = error_answer p.before x xs (line_answers true p kept x x_is) first in
    two_errors R on p kept answer.0 n x y xs ys (line_error true p kept x answer.0 x_is answer.1) e told

pub locked_begun : (p : Point) (kept : List ℕ) (o : Outcome) → p.locked ≡ true → BecomesAt true p kept o → BecomesAt false p kept o
locked_begun p kept o locked is =
    subst (λ (c : Bool). either c (BecomesLocked p.before kept o) (Becomes false p.before kept o)) (sym locked)
    (subst (λ (c : Bool). either c (BecomesLocked p.before kept o) (Becomes true p.before kept o)) locked is)

pub free_becomes : (p : Point) (kept : List ℕ) (o : Outcome) → p.locked ≡ false → BecomesAt true p kept o → Becomes true p.before kept o
free_becomes p kept o free is = subst (λ (c : Bool). either c (BecomesLocked p.before kept o) (Becomes true p.before kept o)) free is

-- what is told of a line says what it leaves
same_line : (R : List Reply → List Reply → Type 0) (on : TellOn R) (p : Point) (kept : List ℕ) (x y : Outcome) (xs ys : List Reply) → BecomesAt true p kept x → BecomesAt true p kept y
    → R (tells x.work ++ xs) (tells y.work ++ ys) → SameLine R p kept x y xs ys
same_line R on p kept x y xs ys e f told = by_lock p.locked refl where
  by_agree : (x ≡ y) ⊎ ((x ≡ refused p.before (motion_error kept)) ⊎ (y ≡ refused p.before (motion_error kept))) → SameLine R p kept x y xs ys
  by_agree (inl same) = one_outcome R on p kept x y xs ys same told
  by_agree (inr (inl is)) = refused_first R on p kept (motion_error kept) x y xs ys e f is told
  by_agree (inr (inr is)) = refused_second R on p kept (motion_error kept) x y xs ys e is told

  by_lock : (c : Bool) → p.locked ≡ c → SameLine R p kept x y xs ys
  by_lock true locked = one_outcome R on p kept x y xs ys (begun_one p kept x y (locked_begun p kept x locked e) (locked_begun p kept y locked f)) told
  by_lock false free = by_agree (outcomes_agree true p.before kept x y (free_becomes p kept x free e) (free_becomes p kept y free f))

-- ---- resets

-- behind a reset that stands there, with this number before the next line
abbrev fresh : State → Steps3 → ℕ → Bool → Point
fresh s at number locked = record { before = record (start (reset_state at s)) { number = number }; locked = locked; has_line = false; unanswered = false }

alarm_sign : (alarm : Bool) (more ys : List Reply) → first_sign ((cond alarm (Alarm 3 ∷ []) [] ++ Banner ∷ more) ++ ys) ≡ cond alarm 2 13
alarm_sign true more ys = refl
alarm_sign false more ys = refl

same_alarm : (a b : Bool) → ◌≡◌ {A = ℕ} (cond a 2 13) (cond b 2 13) → a ≡ b
same_alarm true true e = refl
same_alarm true false e = absurd (omega (arith, e))
same_alarm false true e = absurd (omega (arith, e))
same_alarm false false e = refl

told_same : (a b c d : Bool) → a ≡ b → c ≡ d → cond a (Alarm 3 ∷ []) [] ++ Banner ∷ cond c (Message Locked ∷ []) [] ≡ cond b (Alarm 3 ∷ []) [] ++ Banner ∷ cond d (Message Locked ∷ []) []
told_same a b c d e f = ap (λ (x : Bool). cond x (Alarm 3 ∷ []) [] ++ Banner ∷ cond c (Message Locked ∷ []) []) e ∙ ap (λ (x : Bool). cond b (Alarm 3 ∷ []) [] ++ Banner ∷ cond x (Message Locked ∷ []) []) f

record SameReset (R : List Reply → List Reply → Type 0) (p q : Point) (r u : Reset) (xs ys : List Reply) : Type 0 where
  pub behind : behind_the_reset r p ≡ behind_the_reset u q
  pub told : R xs ys

same_reset : (R : List Reply → List Reply → Type 0) (on : TellOn R) (p q : Point) (sent gone : List Sent) (r u : Reset) (xs ys : List Reply) → IsReset p sent r → IsReset q gone u
    → p.locked ≡ q.locked → p.before.state ≡ q.before.state → r.at ≡ u.at → r.number + r.dropped + 1 ≡ u.number + u.dropped + 1 → R (told_at_reset r ++ xs) (told_at_reset u ++ ys) → SameReset R p q r u xs ys
same_reset R on p q sent gone r u xs ys a b locks states at number told =
    let first = same_sign R on (told_at_reset r ++ xs) (told_at_reset u ++ ys) anew told (reset_way r.alarm _ xs) end_anew in
    let alarm : r.alarm ≡ u.alarm = same_alarm r.alarm u.alarm (sym (alarm_sign r.alarm _ xs) ∙ first ∙ alarm_sign u.alarm _ ys) in
    let locked : r.locked ≡ u.locked = a.locked ∙ ap (λ (x : Bool). x || p.locked) alarm ∙ ap (λ (x : Bool). u.alarm || x) locks ∙ sym b.locked in
    record {
      behind =
          ap (λ (s : State). fresh s r.at (r.number + r.dropped + 1) r.locked) states
          ∙ ap (λ (x : Steps3). fresh q.before.state x (r.number + r.dropped + 1) r.locked) at
          ∙ ap (λ (n : ℕ). fresh q.before.state u.at n r.locked) number
          ∙ ap (fresh q.before.state u.at (u.number + u.dropped + 1)) locked;
      told = on.behind (told_at_reset r) xs ys (subst (λ (zs : List Reply). R (told_at_reset r ++ xs) (zs ++ ys)) (sym (told_same r.alarm u.alarm r.locked u.locked alarm locked)) told);
    }

same_next : (p : Point) (r u : Reset) (stops more less : List Stop) → NextReset p r stops more → NextReset p u stops less → (r.at ≡ u.at) × (more ≡ less)
same_next p r u stops more less (inl a) (inl b) = by_first (same_stop stops more less (reset_at r.number r.at) (reset_at u.number u.at) a b) where
  by_first : (◌≡◌ {A = Stop} (reset_at r.number r.at) (reset_at u.number u.at)) × (more ≡ less) → (r.at ≡ u.at) × (more ≡ less)
  by_first e = (let first = e.0 in let f : r.at ≡ u.at = cc in f, e.1)
same_next p r u stops more less (inl a) (inr b) = no_stop stops more (reset_at r.number r.at) b.0 a
same_next p r u stops more less (inr a) (inl b) = no_stop stops less (reset_at u.number u.at) a.0 b
same_next p r u stops more less (inr a) (inr b) = (a.2 ∙ sym b.2, a.1 ∙ sym b.1)

-- ---- two courses

-- From the point of the first course one that rebases nothing leads to the point of the second, and tells what the second tells
-- besides. The last line that the second answers is the last that this one answers, or else that of the first.
pub record GoesBehind (R : List Reply → List Reply → Type 0) (p : Point) (ps qs : List Passed) (s t : Point) (left gone : List Sent) : Type 0 where
  pub more : List Passed
  pub goes : Goes s left [] more t gone
  pub told : R [] (told_in more)
  pub last : (l : ℕ) → last_answered p.before.number l qs ≡ last_answered s.before.number (last_answered p.before.number l ps) more

-- from here on the second course goes on behind the first
abbrev BehindFrom : (List Reply → List Reply → Type 0) → List Passed → List Passed → Point → Point → List Sent → List Sent → Type 0
BehindFrom R ps qs s t left gone = (p : Point) (sent : List Sent) (stops : List Stop) → Goes p sent stops ps s left → Goes p sent stops qs t gone → R (told_in ps) (told_in qs) → GoesBehind R p ps qs s t left gone

at_end : (R : List Reply → List Reply → Type 0) (p s t : Point) (sent left gone : List Sent) (stops : List Stop) (qs : List Passed) → Goes p sent stops [] s left → Goes p sent stops qs t gone → R [] (told_in qs) → GoesBehind R p [] qs s t left gone
at_end R p s t sent left gone stops qs e f told = record {
  more = qs;
  goes = subst (λ (x : Point). Goes x left [] qs t gone) (sym e.0) (subst (λ (ss : List Sent). Goes p ss [] qs t gone) (sym e.1) (subst (λ (xs : List Stop). Goes p sent xs qs t gone) e.2 f));
  told = told;
  last = λ l. ap (λ (x : Point). last_answered x.before.number l qs) (sym e.0);
}

same_text : (sent more less : List Sent) (line other : List ℕ) → sent ≡ a_text line ∷ more → sent ≡ a_text other ∷ less → (line ≡ other) × (more ≡ less)
same_text [] more less line other e f = absurd cc
same_text (x ∷ xs) more less line other e f =
    let first : ◌≡◌ {A = Sent} (a_text line) (a_text other) = cc in
    let same : line ≡ other = cc in
    let rest : more ≡ less = cc in
    (same, rest)

two_lines : (R : List Reply → List Reply → Type 0) (on : TellOn R) (p s t : Point) (sent left gone : List Sent) (stops : List Stop) (o u : Outcome) (ps qs : List Passed) → Goes p sent stops (a_line o ∷ ps) s left → Goes p sent stops (a_line u ∷ qs) t gone
    → R (told_in (a_line o ∷ ps)) (told_in (a_line u ∷ qs)) → BehindFrom R ps qs s t left gone → GoesBehind R p (a_line o ∷ ps) (a_line u ∷ qs) s t left gone
two_lines R on p s t sent left gone stops o u ps qs e f told again =
    let texts = same_text sent e.1 f.1 e.0 f.0 e.2 f.2 in
    let passed : IsPassed p e.0 u = subst (λ (l : List ℕ). IsPassed p l u) (sym texts.0) f.3 in
    let same = same_line R on p e.0 o u (told_in ps) (told_in qs) e.3.becomes passed.becomes told in
    let there : Goes (behind_line p e.0 u) e.1 stops qs t gone =
    subst (λ (l : List ℕ). Goes (behind_line p l u) e.1 stops qs t gone) (sym texts.0) (subst (λ (ss : List Sent). Goes (behind_line p f.0 u) ss stops qs t gone) (sym texts.1) f.4) in
    let m = again (behind_line p e.0 o) e.1 stops e.4 (subst (λ (q : Point). Goes q e.1 stops qs t gone) (sym same.behind) there) same.told in
    record {
      more = m.more;
      goes = m.goes;
      told = m.told;
      last = λ l. ap (λ (b : Bool). last_answered (p.before.number + 1) (cond b l p.before.number) qs) (sym same.raises) ∙ m.last (cond (raises_alarm o) l p.before.number);
    }

two_broken : (R : List Reply → List Reply → Type 0) (p s t : Point) (sent left gone : List Sent) (stops : List Stop) (o u : Outcome) (ps qs : List Passed) → Goes p sent stops (a_broken o ∷ ps) s left → Goes p sent stops (a_broken u ∷ qs) t gone
    → R (told_in ps) (told_in qs) → BehindFrom R ps qs s t left gone → GoesBehind R p (a_broken o ∷ ps) (a_broken u ∷ qs) s t left gone
two_broken R p s t sent left gone stops o u ps qs e f told again =
    let texts = same_text sent e.1 f.1 e.0 f.0 e.2 f.2 in
    let broken : IsBroken p e.0 u = subst (λ (l : List ℕ). IsBroken p l u) (sym texts.0) f.3 in
    let same : o ≡ u = begun_one p e.0 o u e.3.becomes broken.becomes in
    let there : Goes (behind_broken p o) e.1 stops qs t gone =
    subst (λ (x : Outcome). Goes (behind_broken p x) e.1 stops qs t gone) (sym same) (subst (λ (ss : List Sent). Goes (behind_broken p u) ss stops qs t gone) (sym texts.1) f.4) in
    let m = again (behind_broken p o) e.1 stops e.4 there told in
    record { more = m.more; goes = m.goes; told = m.told; last = m.last }

two_cuts : (R : List Reply → List Reply → Type 0) (p s t : Point) (sent left gone : List Sent) (stops : List Stop) (k j : ℕ) (at there : Steps3) (ps qs : List Passed) → Goes p sent stops (a_cut k at ∷ ps) s left → Goes p sent stops (a_cut j there ∷ qs) t gone
    → R (told_in ps) (told_in qs) → BehindFrom R ps qs s t left gone → GoesBehind R p (a_cut k at ∷ ps) (a_cut j there ∷ qs) s t left gone
two_cuts R p s t sent left gone stops k j at there ps qs e f told again =
    let stop = same_stop stops e.0 f.0 (cut_at k at) (cut_at j there) e.1 f.1 in
    let first : ◌≡◌ {A = Stop} (cut_at k at) (cut_at j there) = stop.0 in
    let place : at ≡ there = cc in
    let g : Goes (behind_cut at p) sent e.0 qs t gone =
    subst (λ (x : Steps3). Goes (behind_cut x p) sent e.0 qs t gone) (sym place) (subst (λ (ss : List Stop). Goes (behind_cut there p) sent ss qs t gone) (sym stop.1) f.3) in
    let m = again (behind_cut at p) sent e.0 e.3 g told in
    record { more = m.more; goes = m.goes; told = m.told; last = m.last }

-- resets that come at two points of one state
resets_from : (R : List Reply → List Reply → Type 0) (on : TellOn R) (p q s t : Point) (sent other left gone : List Sent) (stops : List Stop) (r u : Reset) (ps qs : List Passed) → IsReset p sent r → IsReset q other u
    → p.locked ≡ q.locked → p.before.state ≡ q.before.state → behind_reset sent ≡ behind_reset other → r.at ≡ u.at → r.number + r.dropped + 1 ≡ u.number + u.dropped + 1
    → Goes (behind_the_reset r p) (behind_reset sent) stops ps s left → Goes (behind_the_reset u q) (behind_reset other) stops qs t gone → R (told_in (a_reset r ∷ ps)) (told_in (a_reset u ∷ qs))
    → BehindFrom R ps qs s t left gone → (x : Point) → GoesBehind R x (a_reset r ∷ ps) (a_reset u ∷ qs) s t left gone
resets_from R on p q s t sent other left gone stops r u ps qs a b locks states waiting at number e f told again x =
    let same = same_reset R on p q sent other r u (told_in ps) (told_in qs) a b locks states at number told in
    let there : Goes (behind_the_reset r p) (behind_reset sent) stops qs t gone =
    subst (λ (y : Point). Goes y (behind_reset sent) stops qs t gone) (sym same.behind) (subst (λ (ss : List Sent). Goes (behind_the_reset u q) ss stops qs t gone) (sym waiting) f) in
    let m = again (behind_the_reset r p) (behind_reset sent) stops e there same.told in
    record { more = m.more; goes = m.goes; told = m.told; last = λ l. ap (λ (n : ℕ). last_answered n l qs) (sym number) ∙ m.last l }

two_resets : (R : List Reply → List Reply → Type 0) (on : TellOn R) (p s t : Point) (sent left gone : List Sent) (stops : List Stop) (r u : Reset) (ps qs : List Passed) → Goes p sent stops (a_reset r ∷ ps) s left → Goes p sent stops (a_reset u ∷ qs) t gone
    → R (told_in (a_reset r ∷ ps)) (told_in (a_reset u ∷ qs)) → BehindFrom R ps qs s t left gone → GoesBehind R p (a_reset r ∷ ps) (a_reset u ∷ qs) s t left gone
two_resets R on p s t sent left gone stops r u ps qs e f told again =
    let next = same_next p r u stops e.0 f.0 e.1 f.1 in
    let a = e.2 in
    let b = f.2 in
    let number : r.number + r.dropped + 1 ≡ u.number + u.dropped + 1 = omega (arith, a.number, b.number, a.dropped, b.dropped) in
    let there = subst (λ (ss : List Stop). Goes (behind_the_reset u p) (behind_reset sent) ss qs t gone) (sym next.1) f.3 in
    resets_from R on p p s t sent sent left gone e.0 r u ps qs a b refl refl refl next.0 number e.3 there told again p

-- A reset may keep a line from its answer, or drop it: that is told the same, and leads to the same point.
record OneReset (w r : Reset) (sent more : List Sent) (stops others : List Stop) : Type 0 where
  pub at : w.at ≡ r.at
  pub number : w.number + w.dropped + 1 ≡ r.number + r.dropped + 1
  pub stops_are : stops ≡ others
  pub waiting : behind_reset more ≡ behind_reset sent

one_reset : (p s : Point) (sent left : List Sent) (stops others : List Stop) (o : Outcome) (w r : Reset) (ps : List Passed) (e : Goes p sent stops (a_broken o ∷ a_reset w ∷ ps) s left) → NextReset p r stops others → IsReset p sent r → OneReset w r sent e.1 e.4.0 others
one_reset p s sent left stops others o w r ps e next is = by_next next e.4.1 where
  by_next : NextReset p r stops others → NextReset (behind_broken p o) w stops e.4.0 → OneReset w r sent e.1 e.4.0 others
  by_next (inl here) g = later p (behind_broken p o) s e.1 left stops (a_reset w ∷ ps) (reset_at r.number r.at) others e.4 refl (sym is.number) here
  by_next (inr free) (inl here) = no_stop stops e.4.0 (reset_at w.number w.at) free.0 here
  by_next (inr free) (inr other) =
      let a = e.4.2 in
      let waits : length (waiting_in sent) ≡ suc (length (waiting_in e.1)) = ap (λ (ss : List Sent). length (waiting_in ss)) e.2 in
      record { at = other.2 ∙ sym free.2; number = omega (arith, a.number, is.number, a.dropped, is.dropped, waits); stops_are = other.1 ∙ sym free.1; waiting = sym (ap behind_reset e.2) }

first_keeps : (R : List Reply → List Reply → Type 0) (on : TellOn R) (p s t : Point) (sent left gone : List Sent) (stops : List Stop) (o : Outcome) (w r : Reset) (ps qs : List Passed) → Goes p sent stops (a_broken o ∷ a_reset w ∷ ps) s left → Goes p sent stops (a_reset r ∷ qs) t gone
    → R (told_in (a_reset w ∷ ps)) (told_in (a_reset r ∷ qs)) → BehindFrom R ps qs s t left gone → GoesBehind R p (a_broken o ∷ a_reset w ∷ ps) (a_reset r ∷ qs) s t left gone
first_keeps R on p s t sent left gone stops o w r ps qs e f told again =
    let one = one_reset p s sent left stops f.0 o w r ps e f.1 f.2 in
    let there = subst (λ (ss : List Stop). Goes (behind_the_reset r p) (behind_reset sent) ss qs t gone) (sym one.stops_are) f.3 in
    let m = resets_from R on (behind_broken p o) p s t e.1 sent left gone e.4.0 w r ps qs e.4.2 f.2 refl refl one.waiting one.at one.number e.4.3 there told again p in
    record { more = m.more; goes = m.goes; told = m.told; last = m.last }

second_keeps : (R : List Reply → List Reply → Type 0) (on : TellOn R) (p s t : Point) (sent left gone : List Sent) (stops : List Stop) (o : Outcome) (w r : Reset) (ps qs : List Passed) → Goes p sent stops (a_reset r ∷ ps) s left → Goes p sent stops (a_broken o ∷ a_reset w ∷ qs) t gone
    → R (told_in (a_reset r ∷ ps)) (told_in (a_reset w ∷ qs)) → BehindFrom R ps qs s t left gone → GoesBehind R p (a_reset r ∷ ps) (a_broken o ∷ a_reset w ∷ qs) s t left gone
second_keeps R on p s t sent left gone stops o w r ps qs e f told again =
    let one = one_reset p t sent gone stops e.0 o w r qs f e.1 e.2 in
    let there = subst (λ (ss : List Stop). Goes (behind_the_reset w (behind_broken p o)) (behind_reset f.1) ss qs t gone) one.stops_are f.4.3 in
    let m = resets_from R on p (behind_broken p o) s t sent f.1 left gone e.0 r w ps qs e.2 f.4.2 refl refl (sym one.waiting) (sym one.at) (sym one.number) e.3 there told again p in
    record { more = m.more; goes = m.goes; told = m.told; last = m.last }

-- a line that is not answered waits for a cut or a reset
waiting_line : {A : Type 0} (p : Point) (o : Outcome) (line : List ℕ) (x : Outcome) → IsPassed (behind_broken p o) line x → A
waiting_line p o line x is = both true refl is.answered

waiting_broken : {A : Type 0} (p : Point) (o : Outcome) (line : List ℕ) (x : Outcome) → IsBroken (behind_broken p o) line x → A
waiting_broken p o line x is = both true refl is.answered

-- a cut among these comes behind no line that a reset could drop there
cut_comes : {A : Type 0} (p : Point) (r : Reset) (k : ℕ) (at : Steps3) (stops more less : List Stop) → stops ≡ cut_at k at ∷ less → NextReset p r stops more → A
cut_comes p r k at stops more less e (inl here) = absurd (let same : ◌≡◌ {A = Stop} (cut_at k at) (reset_at r.number r.at) = (same_stop stops less more (cut_at k at) (reset_at r.number r.at) e here).0 in cc)
cut_comes p r k at stops more less e (inr free) = no_stop stops less (cut_at k at) free.0 e

-- what comes first of the first course comes first of the second
line_comes : (R : List Reply → List Reply → Type 0) (on : TellOn R) (p : Point) (line : List ℕ) (o : Outcome) (ps : List Passed) (vs : List Reply) → IsPassed p line o → R (told_in (a_line o ∷ ps)) vs → way_of vs ≡ by_line
line_comes R on p line o ps vs is told = same_way R on (told_in (a_line o ∷ ps)) vs by_line told (line_way p line o (told_in ps) is.becomes) end_line

reset_comes : (R : List Reply → List Reply → Type 0) (on : TellOn R) (r : Reset) (ps : List Passed) (vs : List Reply) → R (told_in (a_reset r ∷ ps)) vs → way_of vs ≡ anew
reset_comes R on r ps vs told = same_way R on (told_in (a_reset r ∷ ps)) vs anew told (reset_way r.alarm _ (told_in ps)) end_anew

waits_on : (R : List Reply → List Reply → Type 0) (on : TellOn R) (p s : Point) (sent left : List Sent) (stops : List Stop) (ps : List Passed) (vs : List Reply) → Goes p sent stops ps s left → p.unanswered ≡ true → R (told_in ps) vs → way_of vs ≡ anew
waits_on R on p s sent left stops ps vs g begun told = same_way R on (told_in ps) vs anew told (waits_way p s sent left stops ps g begun) end_anew

-- The second course goes on behind the first, if what it tells goes on with what that tells.
pub goes_behind : (R : List Reply → List Reply → Type 0) (on : TellOn R) (p s t : Point) (sent left gone : List Sent) (stops : List Stop) (ps qs : List Passed) → Goes p sent stops ps s left → Goes p sent stops qs t gone → R (told_in ps) (told_in qs) → GoesBehind R p ps qs s t left gone
goes_behind R on p s t sent left gone stops [] qs e f told = at_end R p s t sent left gone stops qs e f told
goes_behind R on p s t sent left gone stops (a_line o ∷ ps) [] e f told = end_line (line_comes R on p e.0 o ps _ e.3 told)
goes_behind R on p s t sent left gone stops (a_broken o ∷ ps) [] e f told = end_anew (waits_on R on (behind_broken p o) s e.1 left stops ps _ e.4 refl told)
goes_behind R on p s t sent left gone stops (a_cut k at ∷ ps) [] e f told = no_stop stops e.0 (cut_at k at) f.2 e.1
goes_behind R on p s t sent left gone stops (a_reset r ∷ ps) [] e f told = end_anew (reset_comes R on r ps _ told)
goes_behind R on p s t sent left gone stops (a_line o ∷ ps) (a_line u ∷ qs) e f told = two_lines R on p s t sent left gone stops o u ps qs e f told (λ x ss xs g h d. goes_behind R on x s t ss left gone xs ps qs g h d)
goes_behind R on p s t sent left gone stops (a_line o ∷ ps) (a_broken u ∷ qs) e f told = line_anew (sym (line_comes R on p e.0 o ps _ e.3 told) ∙ waits_way (behind_broken p u) t f.1 gone stops qs f.4 refl)
goes_behind R on p s t sent left gone stops (a_line o ∷ ps) (a_cut k at ∷ qs) e f told = later p (behind_line p e.0 o) s e.1 left stops ps (cut_at k at) f.0 e.4 refl f.2.number f.1
goes_behind R on p s t sent left gone stops (a_line o ∷ ps) (a_reset r ∷ qs) e f told = line_anew (sym (line_comes R on p e.0 o ps _ e.3 told) ∙ reset_way r.alarm _ (told_in qs))
goes_behind R on p s t sent left gone stops (a_broken o ∷ ps) (a_line u ∷ qs) e f told = line_anew (sym (line_way p f.0 u (told_in qs) f.3.becomes) ∙ waits_on R on (behind_broken p o) s e.1 left stops ps _ e.4 refl told)
goes_behind R on p s t sent left gone stops (a_cut k at ∷ ps) (a_line u ∷ qs) e f told = later p (behind_line p f.0 u) t f.1 gone stops qs (cut_at k at) e.0 f.4 refl e.2.number e.1
goes_behind R on p s t sent left gone stops (a_reset r ∷ ps) (a_line u ∷ qs) e f told = line_anew (sym (line_way p f.0 u (told_in qs) f.3.becomes) ∙ reset_comes R on r ps _ told)
goes_behind R on p s t sent left gone stops (a_broken o ∷ ps) (a_broken u ∷ qs) e f told = two_broken R p s t sent left gone stops o u ps qs e f told (λ x ss xs g h d. goes_behind R on x s t ss left gone xs ps qs g h d)
goes_behind R on p s t sent left gone stops (a_broken o ∷ ps) (a_cut k at ∷ qs) e f told = later p (behind_broken p o) s e.1 left stops ps (cut_at k at) f.0 e.4 refl f.2.number f.1
goes_behind R on p s t sent left gone stops (a_cut k at ∷ ps) (a_broken u ∷ qs) e f told = later p (behind_broken p u) t f.1 gone stops qs (cut_at k at) e.0 f.4 refl e.2.number e.1
goes_behind R on p s t sent left gone stops (a_cut k at ∷ ps) (a_cut j there ∷ qs) e f told = two_cuts R p s t sent left gone stops k j at there ps qs e f told (λ x ss xs g h d. goes_behind R on x s t ss left gone xs ps qs g h d)
goes_behind R on p s t sent left gone stops (a_cut k at ∷ ps) (a_reset r ∷ qs) e f told = cut_comes p r k at stops f.0 e.0 e.1 f.1
goes_behind R on p s t sent left gone stops (a_reset r ∷ ps) (a_cut k at ∷ qs) e f told = cut_comes p r k at stops e.0 f.0 f.1 e.1
goes_behind R on p s t sent left gone stops (a_reset r ∷ ps) (a_reset u ∷ qs) e f told = two_resets R on p s t sent left gone stops r u ps qs e f told (λ x ss xs g h d. goes_behind R on x s t ss left gone xs ps qs g h d)
goes_behind R on p s t sent left gone stops (a_broken o ∷ []) (a_reset r ∷ qs) e f told = both true refl e.4.3
goes_behind R on p s t sent left gone stops (a_broken o ∷ a_line x ∷ ps) (a_reset r ∷ qs) e f told = waiting_line p o e.4.0 x e.4.3
goes_behind R on p s t sent left gone stops (a_broken o ∷ a_broken x ∷ ps) (a_reset r ∷ qs) e f told = waiting_broken p o e.4.0 x e.4.3
goes_behind R on p s t sent left gone stops (a_broken o ∷ a_cut k at ∷ ps) (a_reset r ∷ qs) e f told = cut_comes p r k at stops f.0 e.4.0 e.4.1 f.1
goes_behind R on p s t sent left gone stops (a_broken o ∷ a_reset w ∷ ps) (a_reset r ∷ qs) e f told = first_keeps R on p s t sent left gone stops o w r ps qs e f told (λ x ss xs g h d. goes_behind R on x s t ss left gone xs ps qs g h d)
goes_behind R on p s t sent left gone stops (a_reset r ∷ ps) (a_broken o ∷ []) e f told = both true refl f.4.3
goes_behind R on p s t sent left gone stops (a_reset r ∷ ps) (a_broken o ∷ a_line x ∷ qs) e f told = waiting_line p o f.4.0 x f.4.3
goes_behind R on p s t sent left gone stops (a_reset r ∷ ps) (a_broken o ∷ a_broken x ∷ qs) e f told = waiting_broken p o f.4.0 x f.4.3
goes_behind R on p s t sent left gone stops (a_reset r ∷ ps) (a_broken o ∷ a_cut k at ∷ qs) e f told = cut_comes p r k at stops e.0 f.4.0 f.4.1 e.1
goes_behind R on p s t sent left gone stops (a_reset r ∷ ps) (a_broken o ∷ a_reset w ∷ qs) e f told = second_keeps R on p s t sent left gone stops o w r ps qs e f told (λ x ss xs g h d. goes_behind R on x s t ss left gone xs ps qs g h d)

-- ---- courses that tell the same

pub record Meets (p : Point) (ps qs : List Passed) (s t : Point) (left gone : List Sent) : Type 0 where
  pub point : s ≡ t
  pub rest : left ≡ gone
  pub last : (l : ℕ) → last_answered p.before.number l ps ≡ last_answered p.before.number l qs

-- each replies go on where the others end
abbrev BothWays : (List Reply → List Reply → Type 0) → (List Reply → List Reply → Type 0) → List Reply → List Reply → Type 0
BothWays R S us vs = R us vs × S vs us

both_ways : (R S : List Reply → List Reply → Type 0) → TellOn R → TellOn S → TellOn (BothWays R S)
both_ways R S on back = record {
  first = λ us vs told. on.first us vs told.0;
  behind = λ zs us vs told. (on.behind zs us vs told.0, back.behind zs vs us told.1);
  errors = λ n m us vs told. (on.errors n m us vs told.0, back.errors m n vs us told.1);
}

ends_there : (S : List Reply → List Reply → Type 0) (back : TellOn S) (us : List Reply) → S us [] → way_of us ≡ to_end
ends_there S back us told = by_first (back.first us [] told) where
  by_first : (us ≡ []) ⊎ (first_sign us ≡ 0) → way_of us ≡ to_end
  by_first (inl none) = ap way_of none
  by_first (inr same) = ap sign_way same

-- a course that rebases nothing tells something
nothing_passed : (s t : Point) (left gone : List Sent) (more : List Passed) → Goes s left [] more t gone → way_of (told_in more) ≡ to_end → more ≡ []
nothing_passed s t left gone [] g e = refl
nothing_passed s t left gone (a_line o ∷ ps) g e = end_line (sym e ∙ line_way s g.0 o (told_in ps) g.3.becomes)
nothing_passed s t left gone (a_broken o ∷ ps) g e = end_anew (sym e ∙ waits_way (behind_broken s o) t g.1 gone [] ps g.4 refl)
nothing_passed s t left gone (a_cut k at ∷ ps) g e = no_stop [] g.0 (cut_at k at) refl g.1
nothing_passed s t left gone (a_reset r ∷ ps) g e = end_anew (sym e ∙ reset_way r.alarm _ (told_in ps))

-- If each goes on with what the other tells, they lead to one point.
pub meet : (R S : List Reply → List Reply → Type 0) → TellOn R → TellOn S → (p s t : Point) (sent left gone : List Sent) (stops : List Stop) (ps qs : List Passed) → Goes p sent stops ps s left → Goes p sent stops qs t gone
    → R (told_in ps) (told_in qs) → S (told_in qs) (told_in ps) → Meets p ps qs s t left gone
meet R S on back p s t sent left gone stops ps qs e f told same =
    let g = goes_behind (BothWays R S) (both_ways R S on back) p s t sent left gone stops ps qs e f (told, same) in
    let none = nothing_passed s t left gone g.more g.goes (ends_there S back (told_in g.more) g.told.1) in
    let there : Goes s left [] [] t gone = subst (λ (ms : List Passed). Goes s left [] ms t gone) none g.goes in
    record {
      point = sym there.0;
      rest = sym there.1;
      last = λ l. sym (g.last l ∙ ap (λ (ms : List Passed). last_answered s.before.number (last_answered p.before.number l ps) ms) none);
    }

-- ---- a course that tells nothing

pub none_passed : (p last : Point) (sent left : List Sent) (ps : List Passed) → Goes p sent [] ps last left → told_in ps ≡ [] → ps ≡ []
none_passed p last sent left [] g none = refl
none_passed p last sent left (a_cut k at ∷ ps) g none = no_stop [] g.0 (cut_at k at) refl g.1
none_passed p last sent left (a_line o ∷ ps) g none = end_line (sym (ap way_of none) ∙ line_way p g.0 o (told_in ps) g.3.becomes)
none_passed p last sent left (a_broken o ∷ ps) g none = end_anew (sym (ap way_of none) ∙ waits_way (behind_broken p o) last g.1 left [] ps g.4 refl)
none_passed p last sent left (a_reset r ∷ ps) g none = end_anew (sym (ap way_of none) ∙ reset_way r.alarm _ (told_in ps))
