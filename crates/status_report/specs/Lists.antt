-- The replies that `$$`, `$G` and `$#` list.
use Rattle.std.specs.Prelude.{List, [], ◌∷◌, ◌++◌, map}
use Rattle.std.specs.List.{enumerate_from}
use Rattle.modal_state.specs.declared.Offsets.{Offsets}
use Rattle.modal_state.specs.declared.Parser.{Parser}
use Rattle.modal_state.specs.Modes.{origin_nm, systems}
use Rattle.settings.specs.declared.Settings.{Settings}
use Rattle.settings.specs.Numbers.{values}
use Rattle.units.specs.declared.Nm3.{Nm3}
use Rattle.status_report.specs.declared.Modes.{Modes as ParserModes}
use Rattle.status_report.specs.declared.Reply.{Reply}
use Rattle.status_report.specs.declared.Reply.TheVariants.{Setting, Modes, Offset}

-- `$$`: each setting, in the order of the numbers
unfoldable pub setting_replies : Settings → List Reply
setting_replies settings = map (λ row. Setting row.0 row.1) (values settings)

abbrev pub modes_of : Parser → ParserModes
modes_of p = record { modal = p.modal; tool = p.tool; feed = p.feed; rpm = p.rpm }

-- `$G`
abbrev pub modes_replies : Parser → List Reply
modes_replies p = Modes (modes_of p) ∷ []

-- the places of the eleven rows; the tool length and the probe have none
abbrev pub row_places : Offsets → List Nm3
row_places offsets = systems offsets ++ offsets.home28 ∷ offsets.home30 ∷ offsets.g92 ∷ origin_nm ∷ origin_nm ∷ []

-- `$#`: each row, in order
unfoldable pub offset_replies : Offsets → List Reply
offset_replies offsets = map (λ row. Offset row.0 row.1) (enumerate_from 0 (row_places offsets))
