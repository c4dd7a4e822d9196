-- The generated job is accepted, and so it is carried out whole.
use Rattle.status_report.specs.Answering.{receive_room}
use Rattle.std.proofs.Common.{◌≡◌, ℕ, ◌+◌, ◌≤◌, Bool, true, false, List, [], ◌∷◌, ◌++◌, length, map, refl, sym, ap, ◌∙◌, subst, arith}
use Rattle.std.specs.List.{AllByRecursion, count_by, flat_map, list_any}
use Rattle.planner_runs.specs.Runs.{most_blocks}
use Rattle.run_status.specs.Setups.{Setup}
use Rattle.step_record.specs.declared.forms.Form.TheVariants.{One}
use Rattle.outside.specs.Causes.{SourceState}
use Rattle.gcode_words.specs.Stripping.{plain}
use Rattle.run_rules.specs.Lines.{lines_of}
use Rattle.run_rules.specs.Work.{Outcome, Kind}
use Rattle.run_rules.specs.Outcomes.{Before, start, jogged_behind}
use Rattle.run_rules.specs.Outcomes as rules
use Rattle.run_rules.specs.Outcomes.Passed.{a_line as line_passed}
use Rattle.run_rules.specs.Told.{asked_in}
use Rattle.run_texts.specs.Courses.{Passed, Follows, cuts_in, lines_in}
use Rattle.run_texts.specs.Courses.Passed.{a_line, a_broken, a_cut, a_reset}
use Rattle.run_texts.specs.Parts.{parts_of, onto_first}
use Rattle.run_texts.specs.Parts.Ending.{by_end}
use Rattle.run_texts.specs.Points.{Point, opening, behind_line, behind_broken}
use Rattle.run_texts.specs.Sent.{Sent, sent_of, has_reset}
use Rattle.run_texts.specs.Sent.Sent.{a_text}
use Rattle.host_journal.specs.Jobs.{is_reset, served}
use Rattle.host_journal.specs.declared.Stop.TheVariants as stops
use Rattle.run_law.specs.declared.RunEnd.{RunEnd}
use Rattle.run_law.specs.Flags.{is_slow, is_change}
use Rattle.run_law.specs.Runs.{Sinks, slows_in, asks_change}
use Rattle.epoch_law.specs.Runs.{IsRun}
use Rattle.demo_job.specs.Jobs.{job_lines, job_text}
use Rattle.demo_law.specs.Accepted.{IsNoSystemLine, IsCalm, IsCode}
use Rattle.demo_law.specs.Asked.{demo_asks}
use Rattle.demo_law.proofs.Cutting.{accepted, as_many}
use Rattle.run_status.specs.Complete.{AreServed, IsAcceptedJob}
use Rattle.run_status.specs.Demos.{generated}
use Rattle.run_status.proofs.Calm.{lines_calm}
use Rattle.run_status.proofs.Completing.{calm_sending, complete, no_stop, none_broken}
use Rattle.run_status.proofs.Endings.{sent_all}

-- no line stands where it may be refused for the motion
all_served : (lines : List (List ℕ)) (b : Before) (os : List Outcome) → b.jogged ≡ false → AllByRecursion IsNoSystemLine lines → AllByRecursion IsCode os → AreServed b (map plain lines) os
all_served [] b os jogged none codes = tt
all_served (l ∷ ls) b [] jogged none codes = tt
all_served (l ∷ ls) b (o ∷ os) jogged none codes =
    ((λ dollar. absurd (none.0 dollar)), jogged, all_served ls _ os (ap (λ (k : Kind). jogged_behind k b.jogged) codes.0) none.1 codes.1)

-- lines without a realtime byte have none that is raised
none_raised : (lines : List (List ℕ)) → AllByRecursion IsCalm lines → flat_map served lines ≡ []
none_raised [] calm = refl
none_raised (l ∷ ls) calm = ap (λ (bytes : List ℕ). bytes ++ flat_map served ls) calm.0 ∙ none_raised ls calm.1

abbrev NoneSlows : List (List ℕ) → Type 0
NoneSlows lines = count_by is_slow (flat_map served lines) ≡ 0

abbrev NoneResets : List (List ℕ) → Type 0
NoneResets lines = count_by is_reset (flat_map served lines) ≡ 0

none_resets : (lines : List (List ℕ)) → AllByRecursion IsCalm lines → NoneResets lines
none_resets lines calm = ap (λ (bytes : List ℕ). count_by is_reset bytes) (none_raised lines calm)

none_slows : (lines : List (List ℕ)) → AllByRecursion IsCalm lines → NoneSlows lines
none_slows lines calm = ap (λ (bytes : List ℕ). count_by is_slow bytes) (none_raised lines calm)

abbrev NoneChanges : List (List ℕ) → Type 0
NoneChanges lines = list_any is_change (flat_map served lines) ≡ false

none_changes : (lines : List (List ℕ)) → AllByRecursion IsCalm lines → NoneChanges lines
none_changes lines calm = ap (λ (bytes : List ℕ). list_any is_change bytes) (none_raised lines calm)

both : (t : Bool) {A : Type 0} → t ≡ true → t ≡ false → A
both t e f = absurd (let g = sym e ∙ f in cc)

-- a course of lines alone, of which none is cut, is one part
one_part : (p last : Point) (ls : List (List ℕ)) (ps : List Passed) → cuts_in ps ≤ 0 → Follows p (map a_text ls) ps last → parts_of ps ≡ record { lines = lines_in ps; begun = []; ending = by_end } ∷ []
one_part p last ls [] few g = refl
one_part p last ls (a_cut k at ∷ ps) few g = absurd (omega (arith, few))
one_part p last ls (a_reset r ∷ ps) few g = both (has_reset (map a_text ls)) g.0.comes (no_stop ls)
one_part p last [] (a_line o ∷ ps) few g = absurd g
one_part p last (l ∷ ls) (a_line o ∷ ps) few g = ap (onto_first o) (one_part (behind_line p l o) last ls ps few g.1)
one_part p last [] (a_broken o ∷ ps) few g = absurd g
one_part p last (l ∷ ls) (a_broken o ∷ ps) few g = none_broken (behind_broken p o) last ls ps refl g.1

-- how the demo is set up
abbrev demo_setup : Setup
demo_setup = record { attended = false; room = receive_room; blocks = most_blocks; form = One }

-- what a run of the generated job is
pub record RunsWhole (n : ℕ) (job_was job_is : SourceState) (was is : Sinks) (end : RunEnd) (run : IsRun false receive_room most_blocks One job_was job_is was is end) : Type 0 where
  pub stop : end.stop ≡ stops.End
  pub errors : end.errors ≡ 0
  pub answered : end.answered ≡ n + 3
  pub read : end.source_failed ≡ false
  pub sent : run.lines ≡ job_lines n
  pub uncut : parts_of run.fits.course ≡ record { lines = lines_in run.fits.course; begun = []; ending = by_end } ∷ []
  pub unchanged : asks_change run.scanned ≡ false
  pub asks : asked_in (lines_in run.fits.course) ≡ demo_asks run.fits.first.settings n

never_failed : (t : Bool) → (t ≡ true → 1 ≤ 0) → t ≡ false
never_failed false rose = refl
never_failed true rose = absurd (let low = rose refl in omega arith)

pub runs_whole : (n : ℕ) (left : List ℕ) (was is : Sinks) (end : RunEnd) → 1 ≤ n → n ≤ 100000 → (run : IsRun false receive_room most_blocks One (generated (job_text n)) (generated left) was is end)
    → RunsWhole n (generated (job_text n)) (generated left) was is end run
runs_whole n left was is end some most run =
    let of = accepted n run.fits.first some most run.fits.opens in
    let follows = subst (λ ls. rules.Follows false (start run.fits.first) (map plain ls) (map line_passed of.outcomes) of.last) (sym of.cut) of.follows in
    let served = subst (λ ls. AreServed (start run.fits.first) (map plain ls) of.outcomes) (sym of.cut)
    (all_served (job_lines n) (start run.fits.first) of.outcomes refl of.anywhere of.kinds) in
    let job : IsAcceptedJob (generated (job_text n)) = record {
      bytes = job_text n;
      told = refl;
      few = of.few;
      going = subst NoneResets (sym of.cut) (none_resets (job_lines n) of.calm);
      first = run.fits.first;
      outcomes = of.outcomes;
      last = of.last;
      opening = run.fits.opens;
      follows = follows;
      served = served;
      accepted = of.accepted;
      calm = of.within;
    } in
    let read : end.source_failed ≡ false = never_failed end.source_failed run.ending.source in
    let done = complete demo_setup (generated (job_text n)) (generated left) was is end run job read in
    let sent : run.lines ≡ job_lines n = done.sent ∙ of.cut in
    let all = sent_all demo_setup (generated (job_text n)) (generated left) was is end run read done.stop in
    let lines : lines_of run.scanned ≡ job_lines n = ap lines_of (sym all.all ∙ done.all) ∙ of.cut in
    let none : slows_in run.scanned ≡ 0 = subst NoneSlows (sym lines) (none_slows (job_lines n) of.calm) in
    let resets : NoneResets (lines_of run.scanned) = subst NoneResets (sym lines) (none_resets (job_lines n) of.calm) in
    let sending : sent_of run.lines run.rest ≡ map a_text (map plain run.lines) = calm_sending run.scanned run.lines run.rest (lines_calm (lines_of run.scanned) resets) run.sending.is_rest in
    record {
      stop = done.stop;
      errors = done.errors;
      answered = done.answered ∙ ap length sent ∙ as_many n;
      read = read;
      sent = sent;
      uncut = one_part (opening run.fits.first) run.fits.last (map plain run.lines) run.fits.course (let few = run.fits.few in omega (arith, few, none))
          (subst (λ (ss : List Sent). Follows (opening run.fits.first) ss run.fits.course run.fits.last) sending run.fits.follows);
      unchanged = subst NoneChanges (sym lines) (none_changes (job_lines n) of.calm);
      asks = ap asked_in done.same ∙ of.asks;
    }
