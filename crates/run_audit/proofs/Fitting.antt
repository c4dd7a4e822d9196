-- Texts that are read whole, and that the judge found to fit.
use Rattle.std.proofs.Common.{◌≡◌, ◌≤◌, ◌-◌, ℕ, Bool, true, false, List, [], ◌∷◌, ◌++◌, append-nil, length, sym, refl, ap, ◌∙◌, subst, arith}
use Rattle.std.proofs.lemmas.List.Elements.{filter-append}
use Rattle.flight.specs.Places.{origin}
use Rattle.outside.specs.Causes.{SourceState}
use Rattle.legal_heads.specs.Whole.{events_among, is_event}
use Rattle.status_report.specs.declared.Reply.{Reply}
use Rattle.status_report.specs.declared.Reply.TheVariants.{Banner}
use Rattle.step_line.specs.declared.Record.{Record}
use Rattle.step_line.specs.declared.Record.TheVariants as kinds
use Rattle.step_record.specs.declared.forms.Line.{Line}
use Rattle.run_rules.specs.declared.State.{State}
use Rattle.run_rules.specs.Outcomes.{either}
use Rattle.run_rules.specs.States.{IsOpening}
use Rattle.run_texts.specs.Fits.{FitsTexts}
use Rattle.run_texts.specs.Parts.{Part, parts_of}
use Rattle.run_texts.specs.Points.{Point}
use Rattle.run_texts.specs.Recorded.{AreRecorded}
use Rattle.run_texts.specs.Sent.{Sent}
use Rattle.run_texts.proofs.Leading.{onto_none}
use Rattle.audit_rules.specs.Findings.{TextsFit, FitsWith}
use Rattle.audit_rules.specs.Scanned.{sent_in, most_cuts}
use Rattle.audit_rules.specs.StepTexts.{IsStepText, records_of}
use Rattle.audit_course.specs.SoFar.{IsOver}
use Rattle.audit_course.specs.declared.judge.CourseJudge.{CourseJudge}
use Rattle.audit_texts.specs.Audited.{AllAudited}
use Rattle.audit_texts.specs.SoFar.{JobSoFar, IsWhole, IsAllRead, untold_of}
use Rattle.audit_texts.proofs.JobRead.{all_sent, front_sent, cuts_are}
use Rattle.audit_texts.specs.declared.sending.Sending.{Sending}

-- what is told of the job is all of it, or what comes up to the line that raises an alarm
record EndsJob (text : List ℕ) (sent : List Sent) (cuts : ℕ) (last : Point) : Type 0 where
  pub later : List Sent
  pub split : sent_in text ≡ sent ++ later
  pub over : either last.before.alarmed (Unit {0}) (later ≡ [])
  pub few : cuts ≤ most_cuts text last

few_of : (n m : ℕ) → n ≡ m → n ≤ m
few_of n m is = omega (arith, is)

ends_job : (s : Sending) (source : SourceState) (text : List ℕ) (sent : List Sent) (last : Point) (halts : Bool) (number : ℕ) → JobSoFar s source text sent
    → last.before.alarmed ≡ halts → last.before.number ≡ number → IsAllRead s halts number → EndsJob text sent s.cuts last
ends_job s source text sent last true number j alarmed is all =
    let f = front_sent s source text sent j in
    record {
      later = untold_of s ++ f.later;
      split = f.split;
      over = subst (λ (b : Bool). either b (Unit {0}) (untold_of s ++ f.later ≡ [])) (sym alarmed) tt;
      few = few_of s.cuts (most_cuts text last) (cuts_are s source text sent true number last j all alarmed is);
    }
ends_job s source text sent last false number j alarmed is all = record {
  later = [];
  split = sym (append-nil sent ∙ all_sent s source text sent all.0 all.1 all.2 all.3 j);
  over = subst (λ (b : Bool). either b (Unit {0}) (◌≡◌ {A = List Sent} [] [])) (sym alarmed) refl;
  few = few_of s.cuts (most_cuts text last) (cuts_are s source text sent false number last j all alarmed is);
}

pub no_event : (records : List Record) → events_among (records ++ kinds.End ∷ []) ≡ events_among records
no_event records = filter-append is_event records (kinds.End ∷ []) ∙ append-nil (events_among records)

-- a job, a console and records that fit, by a course that ends where the judge stands
pub record TextsFound (job console : List ℕ) (all : List Record) (sent : List Sent) : Type 0 where
  pub fit : TextsFit job console all
  pub sent_are : fit.sent ≡ sent

pub texts_found : (k : CourseJudge) (s : Sending) (source : SourceState) (job console : List ℕ) (first : State) (sent : List Sent) (replies : List Reply) (records all : List Record)
    → IsOpening first → IsOver k first sent replies records → JobSoFar s source job sent → IsAllRead s k.line.halts k.work.number → k.cuts ≤ s.cuts → IsWhole console replies → all ≡ records ++ kinds.End ∷ []
    → TextsFound job console all sent
texts_found k s source job console first sent replies records all opens over j read few_told w are =
    let e = ends_job s source job sent over.last k.line.halts k.work.number j over.alarmed over.number read in
    let n = most_cuts job over.last - k.cuts in
    let g = over.fits n in
    let few = g.few in
    let most = e.few in
    let recorded : AreRecorded origin (parts_of g.course) all =
    subst (λ (rs : List Record). AreRecorded origin (parts_of g.course) rs) (sym are) (subst (λ (ps : List Part). AreRecorded origin ps (records ++ kinds.End ∷ [])) (onto_none (parts_of g.course)) g.recorded) in
    let fits : FitsTexts sent (most_cuts job over.last) (Banner ∷ w.behind) all = record {
      first = first;
      opens = opens;
      course = g.course;
      last = over.last;
      follows = g.follows;
      told = record { behind = w.behind; begins = refl; told = w.are ∙ g.told };
      recorded = recorded;
      few = omega (arith, few, most, few_told);
    } in
    record {
      fit = record {
        behind = w.behind;
        text = w.text_is;
        each = w.each;
        sent = sent;
        later = e.later;
        split = e.split;
        cancels = most_cuts job over.last;
        fits = fits;
        counted = refl;
        over = e.over;
      };
      sent_are = refl;
    }

-- and steps with these records
pub record FitFound (job console steps : List ℕ) (events : ℕ) : Type 0 where
  pub fit : FitsWith job console steps events
  pub audited : AllAudited fit.fit.sent

pub fit_found : (k : CourseJudge) (s : Sending) (source : SourceState) (job console steps : List ℕ) (first : State) (sent : List Sent) (replies : List Reply) (records : List Record) (lines : List Line) (events : ℕ)
    → IsOpening first → IsOver k first sent replies records → JobSoFar s source job sent → IsAllRead s k.line.halts k.work.number → k.cuts ≤ s.cuts
    → IsWhole console replies → IsStepText steps lines → records_of lines ≡ records ++ kinds.End ∷ [] → events ≡ length (events_among records) → AllAudited sent → FitFound job console steps events
fit_found k s source job console steps first sent replies records lines events opens over j all few_told w steps_are are count audited =
    let f = texts_found k s source job console first sent replies records (records_of lines) opens over j all few_told w are in
    let found : FitsWith job console steps events = record {
      lines = lines;
      steps_are = steps_are;
      fit = f.fit;
      count = count ∙ ap length (sym (no_event records)) ∙ ap (λ (rs : List Record). length (events_among rs)) (sym are);
    } in
    record { fit = found; audited = subst AllAudited (sym f.sent_are) audited }
