-- Where the last line is done, told and answered: the console stands up to there by the lines of the steps that stand.
use Rattle.std.proofs.Common.{◌≡◌, ℕ, ◌+◌, Bool, true, false, List, [], ◌∷◌, ◌++◌, append-nil, length, Some, None, IfSome, refl, sym, ap, ◌∙◌, subst}
use Rattle.std.specs.declared.option.Option.{Option}
use Rattle.std.proofs.lemmas.List.Concat.{flat_map-append}
use Rattle.outside.specs.Causes.{SourceState}
use Rattle.status_report.specs.declared.Reply.{Reply}
use Rattle.step_line.specs.declared.Record.{Record}
use Rattle.step_record.specs.declared.forms.Line.{Line}
use Rattle.run_rules.specs.Outcomes.{either}
use Rattle.run_rules.specs.declared.State.{State}
use Rattle.run_texts.specs.Courses.{Passed}
use Rattle.run_texts.specs.Points.{Point, opening}
use Rattle.run_texts.specs.Sent.{Sent}
use Rattle.run_texts.specs.SoFar.{LeadsTo}
use Rattle.run_texts.specs.Told.{told_in, told_of}
use Rattle.run_texts.proofs.SoFar.{leads_on, leads_with_more}
use Rattle.audit_rules.specs.Consoles.{Tells}
use Rattle.audit_rules.specs.Faults.{ComesUpTo}
use Rattle.audit_rules.specs.Onward.{HasCome, TellsNothing}
use Rattle.audit_rules.specs.Scanned.{sent_in}
use Rattle.audit_rules.specs.Telling.{IsOver}
use Rattle.audit_rules.proofs.OneWay.{both}
use Rattle.audit_course.specs.SoFar.{left_to_tell}
use Rattle.audit_course.proofs.Ending.{point_halts}
use Rattle.audit_texts.specs.SoFar.{IsAllRead, JobSoFar, StandsAt, untold_of}
use Rattle.audit_texts.specs.declared.sending.Sending.{Sending}
use Rattle.audit_texts.proofs.JobRead.{all_sent, front_sent}
use Rattle.run_audit.specs.OnWay.{Broken, Counting, IsLater, IsLooked, IsOnWay, IsToldTo, Phase}
use Rattle.run_audit.specs.OnWay.Phase.{counting, broken}
use Rattle.run_audit.specs.declared.auditor.Auditor.{Auditor}
use Rattle.run_audit.proofs.SafeNow.{all_told, breaks_here, come_now, counted_up_to}

-- ---- what is left of the job

-- of a job that is read to its end, or up to a line that raised an alarm
pub record JobLeft (job : List ℕ) (sent : List Sent) (halts : Bool) (number lines : ℕ) : Type 0 where
  pub left : List Sent
  pub whole : sent_in job ≡ sent ++ left
  pub none : halts ≡ false → left ≡ []
  pub last : halts ≡ true → number ≡ lines + 1

pub job_left : (s : Sending) (source : SourceState) (job : List ℕ) (sent : List Sent) (halts : Bool) (number : ℕ) → JobSoFar s source job sent → IsAllRead s halts number → JobLeft job sent halts number s.lines
job_left s source job sent true number j all =
    let f = front_sent s source job sent j in
    let at : all.0 ≡ length j.lines = subst (λ (o : Option ℕ). IfSome o (λ k. k ≡ length j.lines)) all.1 j.alarm in
    record {
      left = untold_of s ++ f.later;
      whole = f.split;
      none = λ e. absurd (let f : true ≡ false = e in cc);
      last = λ e. all.2 ∙ ap (λ (n : ℕ). n + 1) (at ∙ sym j.count);
    }
job_left s source job sent false number j all = record {
  left = [];
  whole = sym (append-nil sent ∙ all_sent s source job sent all.0 all.1 all.2 all.3 j);
  none = λ e. refl;
  last = λ e. absurd (let f : false ≡ true = e in cc);
}

pub over_here : (p : Point) (left : List Sent) (halts : Bool) → p.unanswered ≡ false → p.before.alarmed ≡ halts → (halts ≡ false → left ≡ []) → IsOver p left
over_here p left true answered alarmed none = record { answered = answered; rest = subst (λ (b : Bool). either b (Unit {0}) (left ≡ [])) (sym alarmed) tt }
over_here p left false answered alarmed none = record { answered = answered; rest = subst (λ (b : Bool). either b (Unit {0}) (left ≡ [])) (sym alarmed) (none refl) }

-- ---- up to here

-- The console stands up to the point here, if nothing that may come there is told.
pub record UpToHere (a : Auditor) (first : State) (job console steps : List ℕ) (sent : List Sent) (replies : List Reply) (left : List Sent) (rest : List ℕ) : Type 0 where
  pub point : Point
  pub answered : point.unanswered ≡ false
  pub alarmed : point.before.alarmed ≡ a.course.line.halts
  pub number : point.before.number ≡ a.course.work.number
  pub course : List Passed
  pub leads : LeadsTo (opening first) sent course point []
  pub tells : told_in course ≡ replies
  pub lines : List Line
  pub records : List Record
  pub others : List Record
  pub comes : TellsNothing point left rest → ComesUpTo (sent_in job) console steps lines records others point left rest course

module _ {a : Auditor} {j c s : SourceState} {jt ct st : List ℕ} (u : IsOnWay a j c s jt ct st) (done : a.course.work.left ≡ []) (answered : a.course.unanswered ≡ false) (left : List Sent) (whole : sent_in jt ≡ u.sent ++ left) (rest : List ℕ) (stands : StandsAt ct u.replies rest) where
  -- ---- where records count
  module _ (d : Counting a u.first jt ct st u.sent u.replies u.records) where
    abbrev told_to : IsToldTo jt ct d.judged.point u.sent (u.replies ++ left_to_tell a.course) left rest
    told_to = record {
      whole = whole;
      tells = subst (λ (rs : List Reply). Tells ct rs rest) (sym (all_told a.course u.replies done)) stands.tells;
      waits = λ waits. both d.judged.point.unanswered waits (d.judged.unanswered ∙ answered);
    }

    -- a course has come so far
    abbrev pub come : HasCome (sent_in jt) ct u.records d.judged.since d.judged.begun d.judged.made
    come = come_now a.course u.first u.opens u.sent u.replies u.records d.judged jt ct left rest told_to

  -- ---- in both
  counted_here : (next : Option Record) → IsLooked a st u.records next → IsLater a.course next → Counting a u.first jt ct st u.sent u.replies u.records → UpToHere a u.first jt ct st u.sent u.replies left rest
  counted_here None looked later d = absurd (looked d.counts)
  counted_here (Some r) looked later d = record {
    point = d.judged.point;
    answered = d.judged.unanswered ∙ answered;
    alarmed = point_halts a.course d.judged.point d.judged.hand d.judged.line done answered;
    number = d.judged.number;
    course = d.judged.reached.course;
    leads = d.judged.reached.leads;
    tells = d.judged.reached.tells ∙ all_told a.course u.replies done;
    lines = looked.1.before ++ looked.1.last ∷ [];
    records = u.records;
    others = r ∷ looked.1.later;
    comes = counted_up_to d u.opens left whole rest stands (Some r) later answered r refl looked.1;
  }

  broken_here : Broken a u.first jt ct st u.sent u.replies u.records → UpToHere a u.first jt ct st u.sent u.replies left rest
  broken_here b =
      let x = breaks_here b u.opens done answered left whole rest stands in
      let to = leads_with_more (opening u.first) b.point b.front [] b.later b.reached.course b.reached.leads in
      record {
        point = b.heard.point;
        answered = b.heard.unanswered ∙ answered;
        alarmed = point_halts a.course b.heard.point b.heard.hand b.heard.line done answered;
        number = b.heard.number;
        course = b.reached.course ++ b.heard.course;
        leads = subst (λ (ss : List Sent). LeadsTo (opening u.first) ss (b.reached.course ++ b.heard.course) b.heard.point []) (sym b.sent_is)
            (leads_on (opening u.first) b.point b.heard.point (b.front ++ b.later) b.later [] b.reached.course b.heard.course to b.heard.leads);
        tells = flat_map-append told_of b.reached.course b.heard.course ∙ ap (λ (rs : List Reply). rs ++ told_in b.heard.course) b.reached.tells ∙ b.heard.tells ∙ all_told a.course u.replies done;
        lines = x.breaks.lines;
        records = u.records;
        others = x.breaks.left;
        comes = λ nothing. x.comes;
      }

  pub up_to_here : (next : Option Record) → IsLooked a st u.records next → IsLater a.course next → UpToHere a u.first jt ct st u.sent u.replies left rest
  up_to_here next looked later = by u.phase where
    by : Phase a u.first jt ct st u.sent u.replies u.records → UpToHere a u.first jt ct st u.sent u.replies left rest
    by (counting d) = counted_here next looked later d
    by (broken b) = broken_here b
