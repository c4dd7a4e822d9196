-- Lines that a soft limit stops.
use Rattle.std.specs.Prelude.{◌≡◌, ◌≢◌, ℕ, ◌≤◌, false, List, [], length, Ok}
use Rattle.gcode_check.specs.Verdicts.{verdict}
use Rattle.gcode_check.specs.declared.Verdict.TheVariants.{Limit}
use Rattle.gcode_words.specs.Words.{words_of}
use Rattle.gcode_words.specs.declared.Word.{Word}
use Rattle.run_rules.specs.Outcomes.{Before, begins_with_dollar, most_kept}

-- A line of G-code that can be read, that no error refuses, and that has a target outside the travel, with soft limits
-- on.
pub record IsBeyond (b : Before) (kept : List ℕ) : Type 0 where
  pub some : kept ≢ []
  pub few : length kept ≤ most_kept
  pub code : begins_with_dollar kept ≡ false
  pub words : List Word
  pub read : words_of kept ≡ Ok words
  pub limit : verdict b.state.parser b.state.settings words ≡ Limit
