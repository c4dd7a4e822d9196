-- What a reset leaves of a state.
use Rattle.units.specs.declared.Per3.{Per3}
use Rattle.units.specs.declared.Steps3.{Steps3}
use Rattle.modal_state.specs.Modes.{opening_parser, rebased, origin_nm}
use Rattle.modal_state.specs.declared.Parser.{Parser}
use Rattle.run_rules.specs.declared.State.{State}

-- the opening modes, feed, speed and tool, and a zero G92 offset; the other offsets stay, and the position is a place
abbrev pub reset_parser : Steps3 → Parser → Per3 → Parser
reset_parser at p per_mm = rebased (record opening_parser { offsets = record p.offsets { g92 = origin_nm } }) at per_mm

-- the settings stay, too
abbrev pub reset_state : Steps3 → State → State
reset_state at s = record { parser = reset_parser at s.parser s.settings.limits.per_mm; settings = s.settings }
