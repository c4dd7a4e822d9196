-- No line raises the alarm of a soft limit where a console stands no further than to a point, and does not go on with it there.
use Rattle.std.proofs.Common.{◌≡◌, ℕ, List, [], ◌∷◌, ◌++◌, append_assoc, true, false, Bool, cond, not, sym, refl, ap, ◌∙◌, subst}
use Rattle.std.specs.List.{AllByRecursion}
use Rattle.status_report.specs.Answering.{without_reports, is_report}
use Rattle.status_report.specs.Replies.{reply_text}
use Rattle.status_report.specs.declared.Reply.{Reply}
use Rattle.status_report.specs.declared.Reply.TheVariants.{Alarm}
use Rattle.run_rules.specs.Told.{replies_text}
use Rattle.run_rules.specs.Work.{soft_limit}
use Rattle.run_texts.specs.Courses.{Passed}
use Rattle.run_texts.specs.Points.{Point, IsPassed}
use Rattle.run_texts.specs.Sent.{Sent}
use Rattle.run_texts.specs.Sent.Sent.{a_text}
use Rattle.run_texts.specs.SoFar.{LeadsTo}
use Rattle.run_texts.proofs.Limits.{NoLimits}
use Rattle.audit_rules.specs.Consoles.{IsOnConsole, GoesOnWith}
use Rattle.audit_rules.specs.Onward.{TellsNothing, TellsNoAlarm}
use Rattle.audit_rules.specs.Standing.{StandTo}
use Rattle.audit_rules.specs.StepTexts.{records_of}
use Rattle.audit_rules.specs.Telling.{StandsUpTo, HasAlarm}
use Rattle.audit_rules.proofs.GoesOn.{goes_on_to}
use Rattle.audit_rules.proofs.NoFurther.{least}
use Rattle.audit_rules.proofs.OneAlarm.{course_calm, not_alarm}
use Rattle.audit_rules.proofs.OneText.{one_sign, report_alone, same_report}
use Rattle.audit_rules.proofs.OneWay.{Goes, none_passed}
use Rattle.audit_rules.proofs.Places.{one_place}
use Rattle.audit_rules.proofs.Replies.{left_out}
use Rattle.audit_rules.proofs.StopsMade.{goes_on}

-- ---- what stands before the alarm

record GoesOnThere (xs : List Reply) (rest : List ℕ) : Type 0 where
  none : without_reports xs ≡ []
  goes_on : GoesOnWith rest (Alarm soft_limit)

abbrev AreReports : List Reply → Type 0
AreReports reports = AllByRecursion (λ r. is_report r ≡ true) reports

plain_first : (r : Reply) (rs : List Reply) → is_report r ≡ false → r ∷ without_reports rs ≡ without_reports (r ∷ rs)
plain_first r rs plain = sym (ap (λ (b : Bool). cond (not b) (r ∷ without_reports rs) (without_reports rs)) plain)

-- What is told of a text that goes on with the alarm, and is no alarm, are reports.
stands_there : (xs reports : List Reply) (rest later : List ℕ) → AllByRecursion IsOnConsole xs → NoLimits (without_reports xs) → AllByRecursion IsOnConsole reports → AreReports reports
    → replies_text xs ++ rest ≡ replies_text reports ++ (reply_text (Alarm soft_limit) ++ later) → GoesOnThere xs rest
stands_there [] reports rest later each calm on are e = record { none = refl; goes_on = record { reports = reports; later = later; text = e; each = on; are = are } }
stands_there (x ∷ xs) [] rest later each calm on are e = by_kind (is_report x) refl where
  whole : reply_text x ++ (replies_text xs ++ rest) ≡ reply_text (Alarm soft_limit) ++ later
  whole = sym (append_assoc (reply_text x) (replies_text xs) rest) ∙ e

  by_kind : (b : Bool) → is_report x ≡ b → GoesOnThere (x ∷ xs) rest
  by_kind true report = report_alone x (Alarm soft_limit) (replies_text xs ++ rest) later each.0 tt report refl whole
  by_kind false plain =
      absurd (not_alarm x (subst NoLimits (sym (plain_first x xs plain)) calm).0 (one_sign (Alarm soft_limit) x later (replies_text xs ++ rest) tt each.0 (sym whole)))
stands_there (x ∷ xs) (q ∷ reports) rest later each calm on are e = by_kind (is_report x) refl (λ a b. stands_there xs reports rest later each.1 a on.1 are.1 b) where
  tail : List ℕ
  tail = reply_text (Alarm soft_limit) ++ later

  whole : reply_text x ++ (replies_text xs ++ rest) ≡ reply_text q ++ (replies_text reports ++ tail)
  whole = sym (append_assoc (reply_text x) (replies_text xs) rest) ∙ e ∙ append_assoc (reply_text q) (replies_text reports) tail

  by_kind : (b : Bool) → is_report x ≡ b → (NoLimits (without_reports xs) → replies_text xs ++ rest ≡ replies_text reports ++ tail → GoesOnThere xs rest) → GoesOnThere (x ∷ xs) rest
  by_kind true report again =
      let same : without_reports (x ∷ xs) ≡ without_reports xs = left_out x xs (ap not report) in
      let g = again (subst NoLimits same calm) (same_report x q (replies_text xs ++ rest) (replies_text reports ++ tail) report are.0 whole) in
      record { none = same ∙ g.none; goes_on = g.goes_on }
  by_kind false plain again = report_alone q x (replies_text reports ++ tail) (replies_text xs ++ rest) on.0 each.0 are.0 plain (sym whole)

-- ---- no alarm

module _ (sent : List Sent) (console steps : List ℕ) (z : StandTo sent console steps) (p : Point) (left : List Sent) (rest : List ℕ) (s : StandsUpTo sent console (records_of z.done) p left rest) (n : TellsNothing p left rest) where
  pub no_alarm : p.before.alarmed ≡ false → TellsNoAlarm p left rest → (k : ℕ) → HasAlarm sent console steps k → ⊥
  no_alarm calm none k y =
      let same = one_place sent console steps y.steps_stand z in
      let here : StandsUpTo sent console (records_of z.done) y.point (a_text y.line ∷ y.left) y.rest = subst (λ (ls : List _). StandsUpTo sent console (records_of ls) y.point (a_text y.line ∷ y.left) y.rest) same.done y.stands in
      let g = goes_on_to sent console (records_of z.done) y.point p (a_text y.line ∷ y.left) left y.rest rest here s y.passed.answered n.answered (least sent console steps z p left rest s n y.point (a_text y.line ∷ y.left) y.rest here) in
      let goes : Goes y.point (a_text y.line ∷ y.left) [] g.course p left = goes_on y.point y.point p (a_text y.line ∷ y.left) (a_text y.line ∷ y.left) left [] g.course (refl, refl) g.leads g.rebases n.answered in
      let t = g.tells in
      let there = stands_there t.replies y.tells.reports rest y.tells.later t.each (subst NoLimits (sym t.are) (course_calm y.point p (a_text y.line ∷ y.left) left [] g.course goes calm)) y.tells.each y.tells.are (sym t.text ∙ y.tells.text) in
      let empty = none_passed y.point p (a_text y.line ∷ y.left) left g.course goes (sym t.are ∙ there.none) in
      let f : LeadsTo y.point (a_text y.line ∷ y.left) [] p left = subst (λ (ps : List Passed). LeadsTo y.point (a_text y.line ∷ y.left) ps p left) empty g.leads in
      none y.line y.left y.outcome f.1 (subst (λ (x : Point). IsPassed x y.line y.outcome) (sym f.0) y.passed) y.raises there.goes_on
