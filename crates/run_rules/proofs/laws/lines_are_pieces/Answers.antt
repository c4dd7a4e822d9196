use Rattle.std.proofs.Common.{[], ◌∷◌, refl}
use Rattle.run_rules.proofs.Cutting.{wholes_are, lines_without, lines_with, some_bytes}
use Rattle.run_rules.proofs.laws.lines_are_pieces.Goals as goal

pub returns-clause-whole : goal.returns-clause-whole
returns-clause-whole c = wholes_are

pub returns-clause-no_rest : goal.returns-clause-no_rest
returns-clause-no_rest c = λ text lines is. lines_without text lines [] is refl

pub returns-clause-with_rest : goal.returns-clause-with_rest
returns-clause-with_rest c = λ text lines byte rest is. lines_with text lines (byte ∷ rest) is (some_bytes byte rest)
