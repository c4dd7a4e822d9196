-- A reset that is refused: no texts fit that go on by it.
use Rattle.std.proofs.Common.{◌≡◌, ◌≤◌, ℕ, ◌+◌, Bool, true, false, cond, ◌||◌, List, [], ◌∷◌, ◌++◌, length, map, refl, sym, ap, ◌∙◌, subst, arith}
use Rattle.status_report.specs.declared.Reply.{Reply}
use Rattle.status_report.specs.declared.Reply.TheVariants as answers
use Rattle.step_line.specs.declared.Mark.TheVariants as marks
use Rattle.step_line.specs.declared.Record.{Record}
use Rattle.step_line.specs.declared.Record.TheVariants as kinds
use Rattle.run_rules.specs.declared.State.{State}
use Rattle.run_texts.specs.Courses.{Passed, Follows, IsReset}
use Rattle.run_texts.specs.Courses.Passed.{a_line, a_broken, a_cut, a_reset}
use Rattle.run_texts.specs.Left.{behind_lines, part_of}
use Rattle.run_texts.specs.Parts.{parts_of, ending_record}
use Rattle.run_texts.specs.Parts.Ending.{by_reset}
use Rattle.run_texts.specs.Points.{Point}
use Rattle.run_texts.specs.Recorded.{IsRecorded, AreRecorded, settled_ticks}
use Rattle.run_texts.specs.Sent.{Sent, waiting_in}
use Rattle.run_texts.specs.Sent.Sent.{a_text, a_stop}
use Rattle.run_texts.specs.Told.{told_in}
use Rattle.run_texts.proofs.Making.{finished}
use Rattle.run_texts.proofs.Stops.{same_split}
use Rattle.audit_course.specs.declared.judge.CourseJudge.{CourseJudge}
use Rattle.audit_course.specs.Here.{ResetsNot, StandsAsBefore}
use Rattle.audit_course.specs.SoFar.{HasJudged, IsClosed, MayReset, RefusesReset, begins_epoch}
use Rattle.audit_course.proofs.Ending.{calm_line, moved_closed, settled_are, waits_so}
use Rattle.audit_course.proofs.Forced.{broken_too_late, first_ending, line_too_late, reset_is}
use Rattle.audit_course.proofs.Going.{recorded_bare}
use Rattle.audit_course.proofs.FirstPart.{ending_ends, first_part}
use Rattle.audit_course.proofs.Refused.{recorded_there}
use Rattle.audit_course.proofs.Standing.{is_whole_so}

-- what is told at a reset, with or without its alarm
greets_first : (alarm : Bool) (told : List Reply) → begins_epoch (cond alarm (answers.Alarm 3 ∷ []) [] ++ answers.Banner ∷ told) ≡ true
greets_first true told = refl
greets_first false told = refl

alarm_same : (a b : Bool) (more less ys : List Reply) → cond a (answers.Alarm 3 ∷ []) [] ++ answers.Banner ∷ more ≡ (cond b (answers.Alarm 3 ∷ []) [] ++ answers.Banner ∷ less) ++ ys → a ≡ b
alarm_same true true more less ys e = refl
alarm_same false false more less ys e = refl
alarm_same true false more less ys e = absurd cc
alarm_same false true more less ys e = absurd cc

-- the part does not end so, where a reset is refused
pub resets_not : (j : CourseJudge) (k dropped : ℕ) (alarm : Bool) → IsClosed j → (MayReset j k alarm → ⊥) → ResetsNot j k dropped alarm
resets_not j k dropped alarm closed not_so first sent replies records s more r number_is dropped_is alarm_is is are =
    let moved = moved_closed j s.point s.hand s.line closed.closed in
    let whole = finished s.from (part_of s.since s.begun (by_reset r)) s.made are in
    not_so (record {
      ends = closed;
      calm = calm_line j s.point s.hand s.line closed.done is.free;
      number = ap (λ (m : ℕ). m + 1) (sym number_is) ∙ is.number ∙ s.number;
      settled = is_whole_so j.settled (settled_ticks s.since) j.part j.lost s.made (settled_are j s.since s.hand s.made s.knows (s.line.none closed.closed).none) whole.may.0;
      cause = λ has. sym (ap (λ (b : Bool). b || s.point.before.jog_moved) moved.0 ∙ ap (λ (b : Bool). j.moved || b) moved.1) ∙ is.cause (alarm_is ∙ has);
    })

-- nor where another judge stands, who is where it is
pub resets_not_there : (j there : CourseJudge) (k dropped : ℕ) (alarm : Bool) → StandsAsBefore j there → ResetsNot there k dropped alarm → ResetsNot j k dropped alarm
resets_not_there j there k dropped alarm stands not_so first sent replies records s more r number_is dropped_is alarm_is is are =
    let t = stands first sent replies records s in
    not_so first sent replies records t.there more r number_is dropped_is alarm_is (subst (λ (p : Point). IsReset p more r) (sym t.point) is) (recorded_there j there first sent replies records s t (by_reset r) are)

never_reset_by : (j : CourseJudge) (k dropped : ℕ) (alarm : Bool) (first : State) (sent : List Sent) (replies : List Reply) (records : List Record) (s : HasJudged j first sent replies records) (more : List Sent) (told : List Reply) (rest : List Record) (last : Point) (ps : List Passed)
    → j.work.number ≡ k + 1 → dropped ≡ length (waiting_in more) → ResetsNot j k dropped alarm
    → Follows s.point more ps last → cond alarm (answers.Alarm 3 ∷ []) [] ++ answers.Banner ∷ told ≡ told_in ps → AreRecorded s.from (behind_lines s.since s.begun (parts_of ps)) (s.made ++ kinds.Mark (marks.Reset k) ∷ rest) → ⊥
never_reset_by j k dropped alarm first sent replies records s more told rest last [] number count not_so f e are =
    let same = same_split s.made are.0 rest are.1 (kinds.Mark (marks.Reset k)) kinds.End s.is_made.inside are.3.inside refl refl are.2 in absurd (let g = same.ending in cc)
never_reset_by j k dropped alarm first sent replies records s more told rest last (a_cut i at ∷ ps) number count not_so f e are =
    let same = same_split s.made are.0 rest are.1 (kinds.Mark (marks.Reset k)) (kinds.Mark (marks.Cut i)) s.is_made.inside are.3.inside refl refl are.2 in absurd (let g = same.ending in cc)
never_reset_by j k dropped alarm first sent replies records s more told rest last (a_line o ∷ ps) number count not_so f e are =
    let g = first_part s.from s.since s.begun (a_line o ∷ ps) (s.made ++ kinds.Mark (marks.Reset k) ∷ rest) are in
    let same = same_split s.made g.mine rest g.behind (kinds.Mark (marks.Reset k)) (ending_record g.part.ending) s.is_made.inside g.is.inside refl (ending_ends g.part.ending) g.split in
    let is = reset_is k g.part.ending same.ending in
    line_too_late s.point last more o ps g.part.ending f (ap first_ending g.parts) is.0 (s.number ∙ number ∙ ap (λ (m : ℕ). m + 1) (sym is.1))
never_reset_by j k dropped alarm first sent replies records s more told rest last (a_broken o ∷ ps) number count not_so f e are =
    let g = first_part s.from s.since s.begun (a_broken o ∷ ps) (s.made ++ kinds.Mark (marks.Reset k) ∷ rest) are in
    let same = same_split s.made g.mine rest g.behind (kinds.Mark (marks.Reset k)) (ending_record g.part.ending) s.is_made.inside g.is.inside refl (ending_ends g.part.ending) g.split in
    let is = reset_is k g.part.ending same.ending in
    broken_too_late s.point last more o ps g.part.ending f (ap first_ending g.parts) is.0 (s.number ∙ number ∙ ap (λ (m : ℕ). m + 1) (sym is.1))
never_reset_by j k dropped alarm first sent replies records s more told rest last (a_reset r ∷ ps) number count not_so f e are =
    let same = same_split s.made are.0 rest are.1 (kinds.Mark (marks.Reset k)) (kinds.Mark (marks.Reset r.number)) s.is_made.inside are.3.inside refl refl are.2 in
    let number_is : r.number ≡ k = (let g = same.ending in cc) in
    not_so first sent replies records s more r number_is (f.0.dropped ∙ sym count) (sym (alarm_same alarm r.alarm told _ (told_in ps) e)) f.0
    (subst (IsRecorded s.from (part_of s.since s.begun (by_reset r))) (sym same.front) (recorded_bare s.from s.since s.begun (by_reset r) are.0 are.3))

pub never_reset : (j : CourseJudge) (k dropped : ℕ) (alarm : Bool) → ResetsNot j k dropped alarm → j.work.number ≡ k + 1 → RefusesReset j k dropped alarm
never_reset j k dropped alarm not_so number lines count first sent replies records s n more told rest last g =
    let all : List Sent = map a_text lines ++ a_stop ∷ more in
    let few : j.work.number ≤ k + 1 = omega (arith, number) in
    let on = s.forth n all (cond alarm (answers.Alarm 3 ∷ []) [] ++ answers.Banner ∷ told) (kinds.Mark (marks.Reset k) ∷ rest) last (record { late = few; resets = λ u. greets_first alarm told }) g in
    never_reset_by j k dropped alarm first sent replies records s all told rest last on.course number (count ∙ ap length (sym (waits_so lines more))) not_so on.follows on.told on.recorded
