-- What the lines answered so far leave for the next.
use Rattle.std.specs.Prelude.{◌≡◌}
use Rattle.modal_state.specs.Modes.{opening_parser, IsParser}
use Rattle.settings.specs.Numbers.{values, defaults, IsSettings}
use Rattle.run_rules.specs.declared.State.{State}

-- before the first line
pub record IsOpening (s : State) : Type 0 where
  pub parser : s.parser ≡ opening_parser
  pub settings : values s.settings ≡ defaults

-- a state that lines can leave
pub record IsState (s : State) : Type 0 where
  pub parser : IsParser s.parser
  pub settings : IsSettings s.settings
