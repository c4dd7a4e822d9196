-- Words that passed.
use Rattle.std.specs.Prelude.{◌≡◌, List}
use Rattle.std.specs.List.{list_any}
use Rattle.gcode_words.specs.declared.Word.{Word}
use Rattle.line_words.specs.WordRefusals.{is_axis_command}
use Rattle.line_words.specs.Index.{IsIndex}
use Rattle.line_words.specs.declared.index.Index.{Index}

-- the index tells of some of all words, and whether one of them takes the axis words
pub record IsPassed (index : Index) (all ws : List Word) : Type 0 where
  pub slots : IsIndex index.slots all ws
  pub axis_command : index.axis_command ≡ list_any is_axis_command ws
