-- Which line of a run has raised an alarm: the first behind those that are answered or forgotten.
use Rattle.std.proofs.Common.{◌≡◌, ℕ, ◌+◌, ◌≤◌, Bool, true, cond, List, [], ◌∷◌, length, refl, ap, arith}
use Rattle.std.proofs.lemmas.List.Sums.{sum_by-cons}
use Rattle.units.specs.Truths.{one_if}
use Rattle.outside.specs.Causes.{SourceState}
use Rattle.run_law.specs.Runs.{Sinks}
use Rattle.run_law.specs.declared.RunEnd.{RunEnd}
use Rattle.run_rules.specs.Told.{limits_in}
use Rattle.run_rules.specs.Work.{Outcome, is_limit}
use Rattle.run_texts.specs.Courses.{Passed, Follows, behind_cut, behind_the_reset, lines_in}
use Rattle.run_texts.specs.Courses.Passed.{a_line, a_broken, a_cut, a_reset}
use Rattle.run_texts.specs.Points.{Point, behind_line, behind_broken, opening}
use Rattle.run_texts.specs.Sent.{Sent, behind_reset, sent_of}
use Rattle.run_texts.specs.Sent.Sent.{a_text, a_stop}
use Rattle.run_texts.specs.SoFar.{LeadsTo}
use Rattle.step_record.specs.declared.forms.Form.{Form}
use Rattle.epoch_law.specs.Runs.{IsRun}
use Rattle.epoch_law.proofs.Losing.{numbers}
use Rattle.audited_runs.proofs.Numbers.{texts_among, texts_behind, texts_sent}

-- ---- a course that leads to a point

-- a course that follows leads to its last point, where this is left
record Leads (p last : Point) (sent : List Sent) (ps : List Passed) : Type 0 where
  left : List Sent
  leads : LeadsTo p sent ps last left

leads_to_last : (p last : Point) (sent : List Sent) (ps : List Passed) → Follows p sent ps last → Leads p last sent ps
leads_to_last p last sent [] f = record { left = sent; leads = (f.0, refl) }
leads_to_last p last sent (a_cut k at ∷ ps) f = let rest = leads_to_last (behind_cut at p) last sent ps f.1 in record { left = rest.left; leads = (f.0, rest.leads) }
leads_to_last p last sent (a_reset r ∷ ps) f =
    let rest = leads_to_last (behind_the_reset r p) last (behind_reset sent) ps f.1 in record { left = rest.left; leads = (f.0, rest.leads) }
leads_to_last p last [] (a_line o ∷ ps) f = absurd f
leads_to_last p last (a_stop ∷ sent) (a_line o ∷ ps) f = absurd f
leads_to_last p last (a_text line ∷ sent) (a_line o ∷ ps) f =
    let rest = leads_to_last (behind_line p line o) last sent ps f.1 in record { left = rest.left; leads = (f.0, rest.leads) }
leads_to_last p last [] (a_broken o ∷ ps) f = absurd f
leads_to_last p last (a_stop ∷ sent) (a_broken o ∷ ps) f = absurd f
leads_to_last p last (a_text line ∷ sent) (a_broken o ∷ ps) f =
    let rest = leads_to_last (behind_broken p o) last sent ps f.1 in record { left = rest.left; leads = (f.0, rest.leads) }

-- it passes and drops no more lines than come
few_numbered : (p last : Point) (sent left : List Sent) (ps : List Passed) → LeadsTo p sent ps last left → last.before.number ≤ p.before.number + texts_among sent
few_numbered p last sent left [] f = let e = ap (λ (x : Point). x.before.number) f.0 in omega (arith, e)
few_numbered p last sent left (a_cut k at ∷ ps) f = few_numbered (behind_cut at p) last sent left ps f.1
few_numbered p last sent left (a_reset r ∷ ps) f =
    let rest = few_numbered (behind_the_reset r p) last (behind_reset sent) left ps f.1 in
    let number = f.0.number in
    let dropped = f.0.dropped in
    let behind = texts_behind sent in
    omega (arith, rest, number, dropped, behind)
few_numbered p last [] left (a_line o ∷ ps) f = absurd f
few_numbered p last (a_stop ∷ sent) left (a_line o ∷ ps) f = absurd f
few_numbered p last (a_text line ∷ sent) left (a_line o ∷ ps) f = let rest = few_numbered (behind_line p line o) last sent left ps f.1 in omega (arith, rest)
few_numbered p last [] left (a_broken o ∷ ps) f = absurd f
few_numbered p last (a_stop ∷ sent) left (a_broken o ∷ ps) f = absurd f
few_numbered p last (a_text line ∷ sent) left (a_broken o ∷ ps) f = let rest = few_numbered (behind_broken p o) last sent left ps f.1 in omega (arith, rest)

-- as many lines raise an alarm as its last point tells, which is one or none
alarms_are : (p last : Point) (sent left : List Sent) (ps : List Passed) → LeadsTo p sent ps last left → limits_in (lines_in ps) + one_if p.before.alarmed ≡ one_if last.before.alarmed
alarms_are p last sent left [] f = let e : one_if last.before.alarmed ≡ one_if p.before.alarmed = ap (λ (x : Point). one_if x.before.alarmed) f.0 in omega (arith, e)
alarms_are p last sent left (a_cut k at ∷ ps) f = alarms_are (behind_cut at p) last sent left ps f.1
alarms_are p last sent left (a_reset r ∷ ps) f =
    let rest : limits_in (lines_in ps) + 0 ≡ one_if last.before.alarmed = alarms_are (behind_the_reset r p) last (behind_reset sent) left ps f.1 in
    let none : one_if p.before.alarmed ≡ 0 = ap one_if f.0.free in
    omega (arith, rest, none)
alarms_are p last [] left (a_line o ∷ ps) f = absurd f
alarms_are p last (a_stop ∷ sent) left (a_line o ∷ ps) f = absurd f
alarms_are p last (a_text line ∷ sent) left (a_line o ∷ ps) f =
    let rest : limits_in (lines_in ps) + one_if (is_limit o.answer) ≡ one_if last.before.alarmed = alarms_are (behind_line p line o) last sent left ps f.1 in
    let all : limits_in (o ∷ lines_in ps) ≡ one_if (is_limit o.answer) + limits_in (lines_in ps) = sum_by-cons (λ (x : Outcome). cond (is_limit x.answer) 1 0) o (lines_in ps) in
    let none : one_if p.before.alarmed ≡ 0 = ap one_if f.0.free in
    omega (arith, rest, all, none)
alarms_are p last [] left (a_broken o ∷ ps) f = absurd f
alarms_are p last (a_stop ∷ sent) left (a_broken o ∷ ps) f = absurd f
alarms_are p last (a_text line ∷ sent) left (a_broken o ∷ ps) f = alarms_are (behind_broken p o) last sent left ps f.1

-- ---- a run

-- with an alarm the last number is one past that of the line that raised it, and that line was sent
pub alarm_number : (attended : Bool) (room blocks : ℕ) (form : Form) (job_was job_is : SourceState) (was is : Sinks) (end : RunEnd)
    → (run : IsRun attended room blocks form job_was job_is was is end) → run.fits.last.before.alarmed ≡ true
    → (run.fits.last.before.number ≡ end.answered + run.sending.forgotten + 2) × (end.answered + run.sending.forgotten + 1 ≤ length run.lines)
alarm_number attended room blocks form job_was job_is was is end run alarmed =
    let first = opening run.fits.first in
    let last = run.fits.last in
    let sent = sent_of run.lines run.rest in
    let course = run.fits.course in
    let to = leads_to_last first last sent course run.fits.follows in
    let number = numbers first last sent to.left course to.leads in
    let few = few_numbered first last sent to.left course to.leads in
    let all = texts_sent run.lines run.rest in
    let alarms : limits_in (lines_in course) + 0 ≡ one_if last.before.alarmed = alarms_are first last sent to.left course to.leads in
    let one : one_if last.before.alarmed ≡ 1 = ap one_if alarmed in
    let each = run.telling.each in
    let lost = run.ending.lost in
    (omega (arith, number, alarms, one, each, lost), omega (arith, number, few, all, alarms, one, each, lost))
