-- How an audit ends.
use Rattle.std.specs.Prelude.{◌≡◌, ◌≤◌, false, []}
use Rattle.audit_course.specs.SoFar.{RefusesEnd}
use Rattle.audit_course.specs.declared.judge.CourseJudge.{CourseJudge}
use Rattle.audit_texts.specs.SoFar.{IsAllRead}
use Rattle.run_audit.specs.declared.auditor.Auditor.{Auditor}

-- what the judge says of itself at the end stays, whether or not it may come
pub record EndStays (j k : CourseJudge) : Type 0 where
  pub cuts : k.cuts ≡ j.cuts
  pub number : k.work.number ≡ j.work.number
  pub left : k.work.left ≡ j.work.left
  pub halts : k.line.halts ≡ j.line.halts
  pub answered : k.unanswered ≡ j.unanswered

-- no texts fit that end here, if the last line is done and answered, all is read, each line is audited and the cuts have their bytes
abbrev pub RefusesFit : Auditor → Type 0
RefusesFit a =
    a.course.work.left ≡ [] → a.course.unanswered ≡ false → IsAllRead a.sending a.course.line.halts a.course.work.number → a.sending.foreign ≡ 0 → a.course.cuts ≤ a.sending.cuts → RefusesEnd a.course
