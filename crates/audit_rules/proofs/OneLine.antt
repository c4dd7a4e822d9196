-- One line has the bad reply.
use Rattle.std.proofs.Common.{◌≡◌, ◌≤◌, ℕ, List, ◌++◌, length, append_assoc, length-append, false, sym, ap, ◌∙◌, subst, arith}
use Rattle.std.proofs.lemmas.List.{append_cancel_left}
use Rattle.flight.specs.Places.{origin}
use Rattle.status_report.specs.Replies.{reply_text}
use Rattle.status_report.specs.declared.Reply.{Reply}
use Rattle.status_report.specs.declared.Reply.TheVariants.{Banner}
use Rattle.run_rules.specs.Told.{replies_text}
use Rattle.run_rules.specs.declared.State.{State}
use Rattle.run_rules.proofs.Determined.{one_opening}
use Rattle.step_line.specs.declared.Record.{Record}
use Rattle.run_texts.specs.Courses.{Passed}
use Rattle.run_texts.specs.Parts.{parts_of}
use Rattle.run_texts.specs.Points.{Point, opening}
use Rattle.run_texts.specs.Sent.{Sent}
use Rattle.run_texts.specs.SoFar.{AreMadeSoFar}
use Rattle.run_texts.specs.Told.{told_in}
use Rattle.run_texts.proofs.Stops.{Stop, stops_of}
use Rattle.audit_rules.specs.StepTexts.{records_of}
use Rattle.audit_rules.specs.Consoles.{IsOnConsole, Tells}
use Rattle.audit_rules.specs.Telling.{StandsUpTo, StandsNoFurther, IsLineAtFault, HasBadReply, last_answered}
use Rattle.audit_rules.specs.Telling.IsLineAtFault.{at_line, behind_alarm, at_none}
use Rattle.audit_rules.specs.Telling.HasBadReply.{at_once, behind}
use Rattle.audit_rules.proofs.BadReplies.{no_banner, one_rest}
use Rattle.audit_rules.proofs.OneText.{ToldOn, NoneBetween, begins_so, no_bye, told_on}
use Rattle.audit_rules.proofs.OneWay.{Goes, TellOn, both, meet}
use Rattle.audit_rules.proofs.Places.{one_place}
use Rattle.audit_rules.proofs.StopsMade.{same_stops, goes_on}

-- ---- a console that stands up to a point with its lines answered

-- what is told of a console up to one place and another
pub told_further : (console rest later : List ℕ) (us vs : List Reply) → Tells console us rest → Tells console vs later → ToldOn IsOnConsole rest later us vs
told_further console rest later us vs a b = record {
  one = a.behind;
  other = b.behind;
  one_may = a.each;
  other_may = b.each;
  one_is = a.are;
  other_is = b.are;
  text = append_cancel_left (reply_text Banner) (replies_text a.behind ++ rest) (replies_text b.behind ++ later) (sym (append_assoc (reply_text Banner) (replies_text a.behind) rest) ∙ sym a.text ∙ b.text ∙ append_assoc (reply_text Banner) (replies_text b.behind) later);
}

-- what leaves less tells no less
pub none_between : (rest later : List ℕ) → length later ≤ length rest → NoneBetween IsOnConsole rest later
none_between rest later few r between on e =
    let long : length later ≡ length (reply_text r ++ (between ++ rest)) = ap length e in
    let text = begins_so r (no_bye r on) in
    omega (arith, few, long, ap length text.1, length-append (reply_text r) (between ++ rest), length-append between rest)

pub goes_up_to : (sent : List Sent) (console : List ℕ) (records : List Record) (p : Point) (left : List Sent) (rest : List ℕ) (s : StandsUpTo sent console records p left rest) → p.unanswered ≡ false
    → Goes (opening s.first) sent (stops_of s.course) (s.course ++ s.others) p left
goes_up_to sent console records p left rest s answered = goes_on (opening s.first) s.between p sent s.waiting left s.course s.others s.leads s.goes_on s.rebases answered

-- another one goes from the same opening, with the same cuts and resets first
pub goes_beside : (sent : List Sent) (console : List ℕ) (records others : List Record) → records ≡ others → (p q : Point) (left gone : List Sent) (rest more : List ℕ) (x : StandsUpTo sent console records p left rest) (y : StandsUpTo sent console others q gone more) → q.unanswered ≡ false
    → Goes (opening x.first) sent (stops_of x.course) (y.course ++ y.others) q gone
goes_beside sent console records others same p q left gone rest more x y answered =
    let first : x.first ≡ y.first = one_opening x.first y.first x.opens y.opens in
    let stops : stops_of x.course ≡ stops_of y.course = same_stops x.course y.course origin records x.made (subst (λ (rs : List Record). AreMadeSoFar origin (parts_of y.course) rs) (sym same) y.made) in
    let there : Goes (opening y.first) sent (stops_of y.course) (y.course ++ y.others) q gone = goes_up_to sent console others q gone more y answered in
    subst (λ (s : State). Goes (opening s) sent (stops_of x.course) (y.course ++ y.others) q gone) (sym first)
    (subst (λ (ss : List Stop). Goes (opening y.first) sent ss (y.course ++ y.others) q gone) (sym stops) there)

pub record OnePoint (p q : Point) (left gone : List Sent) (course other : List Passed) : Type 0 where
  pub point : p ≡ q
  pub waiting : left ≡ gone
  pub last : last_answered 1 0 course ≡ last_answered 1 0 other

pub one_point : (sent : List Sent) (console : List ℕ) (records others : List Record) → records ≡ others → (p q : Point) (left gone : List Sent) (rest more : List ℕ) (x : StandsUpTo sent console records p left rest) (y : StandsUpTo sent console others q gone more)
    → (R S : List Reply → List Reply → Type 0) → TellOn R → TellOn S → R (told_in (x.course ++ x.others)) (told_in (y.course ++ y.others)) → S (told_in (y.course ++ y.others)) (told_in (x.course ++ x.others))
    → p.unanswered ≡ false → q.unanswered ≡ false → OnePoint p q left gone (x.course ++ x.others) (y.course ++ y.others)
one_point sent console records others same p q left gone rest more x y R S on back told turned p_answered q_answered =
    let here = goes_up_to sent console records p left rest x p_answered in
    let there = goes_beside sent console records others same p q left gone rest more x y q_answered in
    let m = meet R S on back (opening x.first) p q sent left gone (stops_of x.course) (x.course ++ x.others) (y.course ++ y.others) here there told turned in
    record { point = m.point; waiting = m.rest; last = m.last 0 }

-- ---- the line at fault

one_fault : (p : Point) (left : List Sent) (rest : List ℕ) (last k l : ℕ) → IsLineAtFault p left rest last k → IsLineAtFault p left rest last l → k ≡ l
one_fault p left rest last k l (at_line free awaited is) (at_line other_free other_awaited this) = is ∙ sym this
one_fault p left rest last k l (at_line free awaited is) (behind_alarm alarmed this) = both p.before.alarmed alarmed free
one_fault p left rest last k l (at_line free awaited is) (at_none other_free none this) = absurd (none awaited)
one_fault p left rest last k l (behind_alarm alarmed is) (at_line free awaited this) = both p.before.alarmed alarmed free
one_fault p left rest last k l (behind_alarm alarmed is) (behind_alarm other_alarmed this) = is ∙ sym this
one_fault p left rest last k l (behind_alarm alarmed is) (at_none free none this) = both p.before.alarmed alarmed free
one_fault p left rest last k l (at_none free none is) (at_line other_free awaited this) = absurd (none awaited)
one_fault p left rest last k l (at_none free none is) (behind_alarm alarmed this) = both p.before.alarmed alarmed free
one_fault p left rest last k l (at_none free none is) (at_none other_free other_none this) = is ∙ sym this

no_further : (sent : List Sent) (console steps : List ℕ) (k l : ℕ) → StandsNoFurther sent console steps k → StandsNoFurther sent console steps l → k ≡ l
no_further sent console steps k l x y =
    let done = one_place sent console steps x.steps_stand y.steps_stand in
    let rest = one_rest sent console steps k l x y in
    let a = x.stands in
    let b = y.stands in
    let records : records_of x.steps_stand.done ≡ records_of y.steps_stand.done = ap records_of done.done in
    let none = none_between x.rest x.rest (omega arith) in
    let on = told_on IsOnConsole (λ r on. on) x.rest x.rest none in
    let first : Tells console (told_in (a.course ++ a.others)) x.rest = a.told in
    let second : Tells console (told_in (b.course ++ b.others)) x.rest = subst (λ (more : List ℕ). Tells console (told_in (b.course ++ b.others)) more) (sym rest) b.told in
    let s = one_point sent console (records_of x.steps_stand.done) (records_of y.steps_stand.done) records x.point y.point x.left y.left x.rest y.rest a b (ToldOn IsOnConsole x.rest x.rest) (ToldOn IsOnConsole x.rest x.rest) on on
    (told_further console x.rest x.rest _ _ first second) (told_further console x.rest x.rest _ _ second first) x.answered y.answered in
    let n = last_answered 1 0 (a.course ++ a.others) in
    one_fault x.point x.left x.rest n k l x.is
    (subst (λ (z : Point). IsLineAtFault z x.left x.rest n l) (sym s.point)
    (subst (λ (ss : List Sent). IsLineAtFault y.point ss x.rest n l) (sym s.waiting)
    (subst (λ (more : List ℕ). IsLineAtFault y.point y.left more n l) (sym rest)
    (subst (λ (j : ℕ). IsLineAtFault y.point y.left y.rest j l) (sym s.last) y.is))))

-- of bad replies one line is said
pub one_bad_line : (sent : List Sent) (console steps : List ℕ) (k l : ℕ) → HasBadReply sent console steps k → HasBadReply sent console steps l → k ≡ l
one_bad_line sent console steps k l (at_once none is) other = is ∙ sym (no_banner sent console steps l none other)
one_bad_line sent console steps k l (behind x) (at_once none is) = no_banner sent console steps k none (behind x) ∙ sym is
one_bad_line sent console steps k l (behind x) (behind y) = no_further sent console steps k l x y
