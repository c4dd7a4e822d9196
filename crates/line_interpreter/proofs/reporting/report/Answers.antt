use Rattle.std.proofs.Common.{sym, subst}
use Rattle.modal_state.specs.Modes.{IsWithin}
use Rattle.line_interpreter.proofs.Nearness.{wco_near}
use Rattle.line_interpreter.proofs.reporting.report.Goals as goal

pub in_thousandths-requires : goal.in_thousandths-requires
in_thousandths-requires c = record { near = subst (IsWithin 200000000000000) (sym c.wco.ensures) (wco_near c.args.state.now.parser c.requires.valid.parser) }
