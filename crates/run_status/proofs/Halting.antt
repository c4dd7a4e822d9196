-- A run that an alarm ended: the last line that was begun is beyond a soft limit.
use Rattle.std.proofs.Common.{◌≡◌, ℕ, ◌+◌, Bool, true, false, cond, List, [], ◌∷◌, ◌++◌, length, append-nil, length-append, refl, sym, ap, ◌∙◌, arith}
use Rattle.std.proofs.lemmas.List.Sums.{sum_by-append}
use Rattle.std.specs.Io.KnownBytes.{Appends}
use Rattle.run_status.specs.Setups.{Setup}
use Rattle.step_record.specs.Forms.{text_in}
use Rattle.outside.specs.Causes.{SourceState, SinkState}
use Rattle.outside.specs.Writing.{Took}
use Rattle.run_rules.specs.Work.{Outcome, is_limit}
use Rattle.run_rules.specs.Locking.{BecomesLocked}
use Rattle.run_rules.specs.Outcomes.{Becomes, either, limited}
use Rattle.run_rules.specs.Told.{limits_in, replies_text}
use Rattle.run_rules.proofs.Alarms.{beyond}
use Rattle.run_rules.proofs.Answering.{halts}
use Rattle.run_rules.proofs.Locking.{locked_still}
use Rattle.run_texts.specs.Courses.{Passed, Follows, behind_cut, behind_the_reset, lines_in}
use Rattle.run_texts.specs.Courses.Passed.{a_line, a_broken, a_cut, a_reset}
use Rattle.run_texts.specs.Points.{Point, IsPassed, behind_line, behind_broken, opening}
use Rattle.run_texts.specs.Sent.{Sent, behind_reset, sent_of}
use Rattle.run_texts.specs.Sent.Sent.{a_text, a_stop}
use Rattle.host_journal.specs.declared.Stop.TheVariants as stops
use Rattle.run_law.specs.declared.RunEnd.{RunEnd}
use Rattle.run_law.specs.Runs.{Sinks}
use Rattle.epoch_law.specs.Ran.{lost_in}
use Rattle.epoch_law.specs.Runs.{IsRun}
use Rattle.epoch_law.proofs.Dropping.{no_limits}
use Rattle.epoch_law.proofs.Losing.{lost_on, numbers}
use Rattle.run_status.specs.Ends.{EndsInAlarm, IsAlarmedRun}
use Rattle.run_status.proofs.Stops.{by_alarm}

-- ---- what was written

pub whole_text : (a b : SinkState) (failed : Bool) (text : List ℕ) → failed ≡ false → Took a b failed text → Appends a.held b.held text
whole_text a b failed text well was = rw (was.whole, was.all well, append-nil was.front) was.held

-- ---- the last line that was begun

both : (t : Bool) {A : Type 0} → t ≡ true → t ≡ false → A
both t e f = absurd (let g = sym e ∙ f in cc)

-- behind an alarm nothing is passed
none_passed : (p last : Point) (sent : List Sent) (ps : List Passed) → p.before.alarmed ≡ true → Follows p sent ps last → ps ≡ []
none_passed p last sent [] alarmed g = refl
none_passed p last sent (a_cut k at ∷ ps) alarmed g = both p.before.alarmed alarmed g.0.free
none_passed p last sent (a_reset r ∷ ps) alarmed g = both p.before.alarmed alarmed g.0.free
none_passed p last [] (a_line o ∷ ps) alarmed g = absurd g
none_passed p last (a_stop ∷ sent) (a_line o ∷ ps) alarmed g = absurd g
none_passed p last (a_text line ∷ sent) (a_line o ∷ ps) alarmed g = both p.before.alarmed alarmed g.0.free
none_passed p last [] (a_broken o ∷ ps) alarmed g = absurd g
none_passed p last (a_stop ∷ sent) (a_broken o ∷ ps) alarmed g = absurd g
none_passed p last (a_text line ∷ sent) (a_broken o ∷ ps) alarmed g = both p.before.alarmed alarmed g.0.free

-- a line that raises an alarm is begun where the machine is not locked
record Raises (p : Point) (line : List ℕ) (o : Outcome) : Type 0 where
  unlocked : p.locked ≡ false
  becomes : Becomes true p.before line o

raises : (p : Point) (line : List ℕ) (o : Outcome) (locked : Bool) → p.locked ≡ locked → either locked (BecomesLocked p.before line o) (Becomes true p.before line o) → is_limit o.answer ≡ true
    → Raises p line o
raises p line o false e is one = record { unlocked = e; becomes = is }
raises p line o true e is one = both (is_limit o.answer) one (locked_still p.before line o is).calm

ends_here : (p last : Point) (line : List ℕ) (sent : List Sent) (o : Outcome) (ps : List Passed) → IsPassed p line o → Follows (behind_line p line o) sent ps last → is_limit o.answer ≡ true
    → EndsInAlarm p (a_text line ∷ sent) (a_line o ∷ ps)
ends_here p last line sent o ps passed rest one =
    let r = raises p line o p.locked refl passed.becomes one in
    record {
      earlier = [];
      point = p;
      line = line;
      behind = sent;
      leads = (refl, refl);
      course_is = ap (λ (qs : List Passed). a_line o ∷ qs) (none_passed (behind_line p line o) last sent ps one rest) ∙ ap (λ (x : Outcome). a_line x ∷ []) (halts true p.before line o r.becomes one);
      calm = passed.free;
      unlocked = r.unlocked;
      answered = passed.answered;
      beyond = beyond true p.before line o r.becomes one;
    }

ends_at : (p last : Point) (sent : List Sent) (ps : List Passed) → p.before.alarmed ≡ false → last.before.alarmed ≡ true → Follows p sent ps last → EndsInAlarm p sent ps
ends_at p last sent [] free alarmed g = both last.before.alarmed alarmed (ap (λ (x : Point). x.before.alarmed) g.0 ∙ free)
ends_at p last sent (a_cut k at ∷ ps) free alarmed g =
    let rest = ends_at (behind_cut at p) last sent ps free alarmed g.1 in
    record {
      earlier = a_cut k at ∷ rest.earlier;
      point = rest.point;
      line = rest.line;
      behind = rest.behind;
      leads = (g.0, rest.leads);
      course_is = ap (λ (qs : List Passed). a_cut k at ∷ qs) rest.course_is;
      calm = rest.calm;
      unlocked = rest.unlocked;
      answered = rest.answered;
      beyond = rest.beyond;
    }
ends_at p last sent (a_reset r ∷ ps) free alarmed g =
    let rest = ends_at (behind_the_reset r p) last (behind_reset sent) ps refl alarmed g.1 in
    record {
      earlier = a_reset r ∷ rest.earlier;
      point = rest.point;
      line = rest.line;
      behind = rest.behind;
      leads = (g.0, rest.leads);
      course_is = ap (λ (qs : List Passed). a_reset r ∷ qs) rest.course_is;
      calm = rest.calm;
      unlocked = rest.unlocked;
      answered = rest.answered;
      beyond = rest.beyond;
    }
ends_at p last [] (a_line o ∷ ps) free alarmed g = absurd g
ends_at p last (a_stop ∷ sent) (a_line o ∷ ps) free alarmed g = absurd g
ends_at p last (a_text line ∷ sent) (a_line o ∷ ps) free alarmed g = by_answer (is_limit o.answer) refl (λ calm. ends_at (behind_line p line o) last sent ps calm alarmed g.1)
  where
    by_answer : (t : Bool) → is_limit o.answer ≡ t → (is_limit o.answer ≡ false → EndsInAlarm (behind_line p line o) sent ps) → EndsInAlarm p (a_text line ∷ sent) (a_line o ∷ ps)
    by_answer true one later = ends_here p last line sent o ps g.0 g.1 one
    by_answer false calm later =
        let rest = later calm in
        record {
          earlier = a_line o ∷ rest.earlier;
          point = rest.point;
          line = rest.line;
          behind = rest.behind;
          leads = (g.0, rest.leads);
          course_is = ap (λ (qs : List Passed). a_line o ∷ qs) rest.course_is;
          calm = rest.calm;
          unlocked = rest.unlocked;
          answered = rest.answered;
          beyond = rest.beyond;
        }
ends_at p last [] (a_broken o ∷ ps) free alarmed g = absurd g
ends_at p last (a_stop ∷ sent) (a_broken o ∷ ps) free alarmed g = absurd g
ends_at p last (a_text line ∷ sent) (a_broken o ∷ ps) free alarmed g =
    let rest = ends_at (behind_broken p o) last sent ps free alarmed g.1 in
    record {
      earlier = a_broken o ∷ rest.earlier;
      point = rest.point;
      line = rest.line;
      behind = rest.behind;
      leads = (g.0, rest.leads);
      course_is = ap (λ (qs : List Passed). a_broken o ∷ qs) rest.course_is;
      calm = rest.calm;
      unlocked = rest.unlocked;
      answered = rest.answered;
      beyond = rest.beyond;
    }

-- ---- its number

lines_behind : (ps : List Passed) (o : Outcome) → lines_in (ps ++ a_line o ∷ []) ≡ lines_in ps ++ o ∷ []
lines_behind [] o = refl
lines_behind (a_line x ∷ ps) o = ap (λ (os : List Outcome). x ∷ os) (lines_behind ps o)
lines_behind (a_broken x ∷ ps) o = lines_behind ps o
lines_behind (a_cut k at ∷ ps) o = lines_behind ps o
lines_behind (a_reset r ∷ ps) o = lines_behind ps o

-- it is the first that is neither answered nor lost
numbered : (first : Point) (sent : List Sent) (course : List Passed) (answered lost : ℕ) → first.before.number ≡ 1 → (alarm : EndsInAlarm first sent course) → answered + limits_in (lines_in course) ≡ length (lines_in course)
    → lost_in course ≡ lost → answered + lost + 1 ≡ alarm.point.before.number
numbered first sent course answered lost one alarm each same =
    let number = numbers first alarm.point sent (a_text alarm.line ∷ alarm.behind) alarm.earlier alarm.leads in
    let none = no_limits first alarm.point sent (a_text alarm.line ∷ alarm.behind) alarm.earlier alarm.leads alarm.calm in
    let lines = ap lines_in alarm.course_is ∙ lines_behind alarm.earlier (limited alarm.point.before) in
    let many = ap length lines ∙ length-append (lines_in alarm.earlier) (limited alarm.point.before ∷ []) in
    let limits : limits_in (lines_in course) ≡ limits_in (lines_in alarm.earlier) + 1 =
    ap limits_in lines ∙ sum_by-append (λ (x : Outcome). cond (is_limit x.answer) 1 0) (lines_in alarm.earlier) (limited alarm.point.before ∷ []) in
    let gone = ap lost_in alarm.course_is ∙ lost_on alarm.earlier (a_line (limited alarm.point.before) ∷ []) in
    omega (arith, one, number, none, many, limits, gone, each, same)

-- ---- the run

pub halted_run : (setup : Setup) (job_was job_is : SourceState) (was is : Sinks) (end : RunEnd) (run : IsRun setup.attended setup.room setup.blocks setup.form job_was job_is was is end) (k : ℕ)
    → end.steps_failed ≡ false → end.console_failed ≡ false → end.stop ≡ stops.Alarm k → IsAlarmedRun setup job_was job_is was is k
halted_run setup job_was job_is was is end run k es ec et =
    let why = by_alarm setup job_was job_is was is end run k et in
    let alarm = ends_at (opening run.fits.first) run.fits.last (sent_of run.lines run.rest) run.fits.course refl (sym run.telling.alarm ∙ why.got) run.fits.follows in
    record {
      end = end;
      run = run;
      going = sym why.end;
      alarm = alarm;
      number = why.line ∙ numbered (opening run.fits.first) (sent_of run.lines run.rest) run.fits.course end.answered run.sending.forgotten refl alarm run.telling.each run.ending.lost;
      console = whole_text was.console is.console end.console_failed (replies_text run.replies) ec run.telling.console;
      steps = whole_text was.steps is.steps end.steps_failed (text_in setup.form run.records) es run.recording.steps;
    }
