-- One line raises the alarm of a soft limit.
use Rattle.std.proofs.Common.{◌≡◌, ℕ, List, [], ◌∷◌, ◌++◌, append_assoc, nat_eq, true, false, Bool, cond, not, sym, refl, ap, ◌∙◌, subst, arith}
use Rattle.std.specs.List.{AllByRecursion}
use Rattle.std.proofs.lemmas.List.{append_cancel_left}
use Rattle.std.proofs.lemmas.List.Concat.{flat_map-append}
use Rattle.status_report.specs.Answering.{without_reports, is_report, is_plain}
use Rattle.status_report.specs.Replies.{reply_text}
use Rattle.status_report.specs.declared.Message.TheVariants.{Locked}
use Rattle.status_report.specs.declared.Reply.{Reply}
use Rattle.status_report.specs.declared.Reply.TheVariants.{Banner, Ok, Error, Alarm, Message, Report, Setting, Modes, Offset, Bye}
use Rattle.run_rules.specs.Told.{replies_text}
use Rattle.run_rules.specs.Work.{tells, is_limit, soft_limit}
use Rattle.run_texts.specs.Courses.{Passed, behind_cut, behind_the_reset}
use Rattle.run_texts.specs.Courses.Passed.{a_line, a_broken, a_cut, a_reset}
use Rattle.run_texts.specs.Points.{Point, opening, behind_line, behind_broken}
use Rattle.run_texts.specs.Sent.{Sent, behind_reset}
use Rattle.run_texts.specs.Told.{told_in, told_at_reset}
use Rattle.run_texts.proofs.Limits.{NoLimits, no_limits_on, line_tells_calmly}
use Rattle.run_texts.proofs.Stops.{Stop}
use Rattle.audit_rules.specs.Consoles.{IsOnConsole, Tells, GoesOnWith}
use Rattle.audit_rules.specs.StepTexts.{records_of}
use Rattle.audit_rules.specs.Telling.{HasAlarm}
use Rattle.audit_rules.proofs.OneLine.{one_point, goes_up_to}
use Rattle.audit_rules.proofs.OneText.{ToldOn, NoneBetween, one_sign, told_on}
use Rattle.audit_rules.proofs.OneWay.{Goes, TellOn, both, sign_of}
use Rattle.audit_rules.proofs.Places.{one_place}
use Rattle.audit_rules.proofs.Replies.{all_joined, left_out}

-- ---- before the alarm none is told

-- behind an alarm nothing is passed
alarmed_on : (p last : Point) (sent left : List Sent) (stops : List Stop) (ps : List Passed) → Goes p sent stops ps last left → p.before.alarmed ≡ true → last.before.alarmed ≡ true
alarmed_on p last sent left stops [] g alarmed = ap (λ (q : Point). q.before.alarmed) g.0 ∙ alarmed
alarmed_on p last sent left stops (a_line o ∷ ps) g alarmed = both p.before.alarmed alarmed g.3.free
alarmed_on p last sent left stops (a_broken o ∷ ps) g alarmed = both p.before.alarmed alarmed g.3.free
alarmed_on p last sent left stops (a_cut k at ∷ ps) g alarmed = both p.before.alarmed alarmed g.2.free
alarmed_on p last sent left stops (a_reset r ∷ ps) g alarmed = both p.before.alarmed alarmed g.2.free

reset_calm : (alarm locked : Bool) → NoLimits (cond alarm (Alarm 3 ∷ []) [] ++ Banner ∷ cond locked (Message Locked ∷ []) [])
reset_calm true true = (refl, (refl, (refl, tt)))
reset_calm true false = (refl, (refl, tt))
reset_calm false true = (refl, (refl, tt))
reset_calm false false = (refl, tt)

pub course_calm : (p last : Point) (sent left : List Sent) (stops : List Stop) (ps : List Passed) → Goes p sent stops ps last left → last.before.alarmed ≡ false → NoLimits (told_in ps)
course_calm p last sent left stops [] g free = tt
course_calm p last sent left stops (a_broken o ∷ ps) g free = course_calm (behind_broken p o) last g.1 left stops ps g.4 free
course_calm p last sent left stops (a_cut k at ∷ ps) g free = course_calm (behind_cut at p) last sent left g.0 ps g.3 free
course_calm p last sent left stops (a_reset r ∷ ps) g free =
    no_limits_on (told_at_reset r) (told_in ps) (reset_calm r.alarm r.locked) (course_calm (behind_the_reset r p) last (behind_reset sent) left g.0 ps g.3 free)
course_calm p last sent left stops (a_line o ∷ ps) g free =
    no_limits_on (tells o.work) (told_in ps) (line_tells_calmly true p g.0 o g.3.becomes (by_alarm (is_limit o.answer) refl)) (course_calm (behind_line p g.0 o) last g.1 left stops ps g.4 free) where
      by_alarm : (b : Bool) → is_limit o.answer ≡ b → is_limit o.answer ≡ false
      by_alarm true e = both last.before.alarmed (alarmed_on (behind_line p g.0 o) last g.1 left stops ps g.4 e) free
      by_alarm false e = e

-- ---- what is told before it

-- a reply that can stand before the alarm
abbrev IsBefore : Reply → Type 0
IsBefore r = IsOnConsole r × (is_limit r ≡ false)

no_sign : (limit reset : Bool) → limit ≡ false → ◌≡◌ {A = ℕ} 1 (cond limit 1 (cond reset 2 3)) → ⊥
no_sign true reset e f = cc
no_sign false true e f = omega (arith, f)
no_sign false false e f = omega (arith, f)

pub not_alarm : (r : Reply) → is_limit r ≡ false → 1 ≡ sign_of r → ⊥
not_alarm (Alarm n) e f = no_sign (nat_eq n soft_limit) (nat_eq n 3) e f
not_alarm Banner e f = omega (arith, f)
not_alarm Ok e f = omega (arith, f)
not_alarm (Error n) e f = omega (arith, f)
not_alarm (Message m) e f = omega (arith, f)
not_alarm (Report q) e f = omega (arith, f)
not_alarm (Setting n v) e f = omega (arith, f)
not_alarm (Modes m) e f = omega (arith, f)
not_alarm (Offset row at) e f = omega (arith, f)
not_alarm Bye e f = omega (arith, f)

alarm_ends : (x later : List ℕ) → NoneBetween IsBefore x (reply_text (Alarm soft_limit) ++ later)
alarm_ends x later r between may e = not_alarm r may.1 (one_sign (Alarm soft_limit) r later (between ++ x) tt may.0 e)

one_before : (r : Reply) (rs : List Reply) → IsOnConsole r → NoLimits (without_reports (r ∷ rs)) → (NoLimits (without_reports rs) → AllByRecursion IsBefore rs) → AllByRecursion IsBefore (r ∷ rs)
one_before (Report q) rs on calm again = ((on, refl), again calm)
one_before Bye rs on calm again = absurd on
one_before _ rs on calm again = ((on, calm.0), again calm.1)

all_before : (rs : List Reply) → AllByRecursion IsOnConsole rs → NoLimits (without_reports rs) → AllByRecursion IsBefore rs
all_before [] on calm = tt
all_before (r ∷ rs) on calm = one_before r rs on.0 calm (all_before rs on.1)

no_reports : (reports : List Reply) → AllByRecursion (λ r. is_report r ≡ true) reports → without_reports reports ≡ []
no_reports [] all = refl
no_reports (r ∷ rs) all = left_out r rs (ap not all.0) ∙ no_reports rs all.1

without_these : (rs reports : List Reply) → AllByRecursion (λ r. is_report r ≡ true) reports → without_reports (rs ++ reports) ≡ without_reports rs
without_these [] reports all = no_reports reports all
without_these (r ∷ rs) reports all = ap (λ (qs : List Reply). cond (is_plain r) (r ∷ qs) qs) (without_these rs reports all)

-- a console that goes on with the alarm tells these up to it
record UpToAlarm (console : List ℕ) (us : List Reply) : Type 0 where
  pub told : List Reply
  pub may : AllByRecursion IsBefore told
  pub are : without_reports told ≡ us
  pub later : List ℕ
  pub text : console ≡ reply_text Banner ++ (replies_text told ++ (reply_text (Alarm soft_limit) ++ later))

up_to_alarm : (console rest : List ℕ) (us : List Reply) → Tells console us rest → GoesOnWith rest (Alarm soft_limit) → NoLimits us → UpToAlarm console us
up_to_alarm console rest us t g calm =
    let told = t.behind ++ g.reports in
    let are : without_reports told ≡ us = without_these t.behind g.reports g.are ∙ t.are in
    let tail = reply_text (Alarm soft_limit) ++ g.later in
    record {
      told = told;
      may = all_before told (all_joined IsOnConsole t.behind g.reports t.each g.each) (subst NoLimits (sym are) calm);
      are = are;
      later = g.later;
      text =
          t.text
          ∙ ap (λ (bytes : List ℕ). replies_text (Banner ∷ t.behind) ++ bytes) g.text
          ∙ append_assoc (reply_text Banner) (replies_text t.behind) (replies_text g.reports ++ tail)
          ∙ ap (λ (bytes : List ℕ). reply_text Banner ++ bytes) (sym (append_assoc (replies_text t.behind) (replies_text g.reports) tail) ∙ ap (λ (bytes : List ℕ). bytes ++ tail) (sym (flat_map-append reply_text t.behind g.reports)));
    }

-- what is left there
abbrev from_alarm : (console : List ℕ) (us : List Reply) → UpToAlarm console us → List ℕ
from_alarm console us a = reply_text (Alarm soft_limit) ++ a.later

told_before : (console : List ℕ) (us vs : List Reply) (a : UpToAlarm console us) (b : UpToAlarm console vs) → ToldOn IsBefore (from_alarm console us a) (from_alarm console vs b) us vs
told_before console us vs a b = record {
  one = a.told;
  other = b.told;
  one_may = a.may;
  other_may = b.may;
  one_is = a.are;
  other_is = b.are;
  text = append_cancel_left (reply_text Banner) (replies_text a.told ++ from_alarm console us a) (replies_text b.told ++ from_alarm console vs b) (sym a.text ∙ b.text);
}

before_on : (console : List ℕ) (us vs : List Reply) (a : UpToAlarm console us) (b : UpToAlarm console vs) → TellOn (ToldOn IsBefore (from_alarm console us a) (from_alarm console vs b))
before_on console us vs a b = told_on IsBefore (λ r may. may.0) (from_alarm console us a) (from_alarm console vs b) (alarm_ends (from_alarm console us a) b.later)

-- ---- the line

stands_calmly : (sent : List Sent) (console steps : List ℕ) (k : ℕ) (x : HasAlarm sent console steps k) → UpToAlarm console (told_in (x.stands.course ++ x.stands.others))
stands_calmly sent console steps k x =
    let s = x.stands in
    let g = goes_up_to sent console _ x.point _ x.rest s x.passed.answered in
    up_to_alarm console x.rest (told_in (s.course ++ s.others)) s.told x.tells (course_calm (opening s.first) x.point sent _ _ (s.course ++ s.others) g x.passed.free)

pub one_alarm : (sent : List Sent) (console steps : List ℕ) (k l : ℕ) → HasAlarm sent console steps k → HasAlarm sent console steps l → k ≡ l
one_alarm sent console steps k l x y =
    let done = one_place sent console steps x.steps_stand y.steps_stand in
    let us = told_in (x.stands.course ++ x.stands.others) in
    let vs = told_in (y.stands.course ++ y.stands.others) in
    let a = stands_calmly sent console steps k x in
    let b = stands_calmly sent console steps l y in
    let s = one_point sent console _ _ (ap records_of done.done) x.point y.point _ _ x.rest y.rest x.stands y.stands _ _ (before_on console us vs a b) (before_on console vs us b a) (told_before console us vs a b) (told_before console vs us b a) x.passed.answered y.passed.answered in
    sym x.number ∙ ap (λ (p : Point). p.before.number) s.point ∙ y.number
