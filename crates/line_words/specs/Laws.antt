-- What the laws of lines speak of.
use Rattle.std.specs.Prelude.{Bool, not, ◌||◌, List}
use Rattle.units.specs.declared.Nm3.{Nm3}
use Rattle.gcode_words.specs.declared.Word.{Word}
use Rattle.code_table.specs.Tables.{code}
use Rattle.modal_state.specs.declared.Parser.{Parser}
use Rattle.line_words.specs.Codes.{has_g}
use Rattle.line_words.specs.LineModes.{relative_of}

-- G53 stands, or the line is in G90
abbrev pub is_absolute : Parser → List Word → Bool
is_absolute p ws = has_g (code 53 0) ws || not (relative_of p ws)

-- the same parser at another position
abbrev pub at : Parser → Nm3 → Parser
at p point = record p { pos_nm = point }
