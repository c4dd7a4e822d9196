-- Each reply of a board that keeps to its rules can be told.
use Rattle.std.proofs.Common.{◌≡◌, false, [], ◌∷◌}
use Rattle.std.specs.List.{AllByRecursion}
use Rattle.status_report.specs.Answering.{is_report}
use Rattle.status_report.specs.Reports.{CanBeTold}
use Rattle.status_report.specs.declared.Reply.{Reply}
use Rattle.status_report.specs.declared.Reply.TheVariants as replies
use Rattle.board_journal.specs.Openings.{Opening}
use Rattle.board_journal.specs.Ports.PortStep.{answered, reported}
use Rattle.board_journal.specs.Steps.{Journal, answered_of}
use Rattle.board_journal.specs.Steps.Step.{at_port}
use Rattle.board_rules.specs.Conduct.{Conducted}
use Rattle.board_rules.proofs.Lined.{all_push}

-- a reply that is no report
plain_can_be_told : (r : Reply) → is_report r ≡ false → CanBeTold r
plain_can_be_told (replies.Report r) none = absurd cc
plain_can_be_told r none = tt

-- All that was answered: a report by the rule of reports, and each other reply since it is none.
pub all_can_be_told : (first : Opening) (h : Journal) → Conducted first h → AllByRecursion CanBeTold (answered_of h)
all_can_be_told first [] c = tt
all_can_be_told first (at_port (answered r) ∷ h) c = all_push CanBeTold (answered_of h) r (all_can_be_told first h c.1) (plain_can_be_told r c.0.plain)
all_can_be_told first (at_port (reported r) ∷ h) c = all_push CanBeTold (answered_of h) (replies.Report r) (all_can_be_told first h c.1) (c.0.valid, c.0.wide)
all_can_be_told first (_ ∷ h) c = all_can_be_told first h c.1
