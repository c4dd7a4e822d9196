-- What is answered in an epoch, by what greets there.
use Rattle.std.specs.Prelude.{◌⊎◌, List}
use Rattle.run_texts.specs.Fronts.{BeginsWith}
use Rattle.status_report.specs.declared.Reply.{Reply}
use Rattle.board_journal.specs.Openings.{up_to_banner}

-- It begins with what greets, up to the banner, or is a front of what greets: no report comes before the banner.
abbrev pub IsGreeted : (greeting answered : List Reply) → Type 0
IsGreeted greeting answered = BeginsWith answered (up_to_banner greeting) ⊎ BeginsWith greeting answered
