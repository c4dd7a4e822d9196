-- The slots and the words of the ring, and how many of some pieces are unfinished.
use Rattle.std.specs.Prelude.{ℕ, [], ◌∷◌, reverse}
use Rattle.step_line.specs.declared.Piece.{Piece}
use Rattle.step_line.specs.Logs.{NewestFirst}
use Rattle.step_line.specs.Finishing.{unfinished}

-- how many slots the ring has
abbrev pub slots : ℕ
slots = 6

-- The words of the head, of the done count, of the last stop and of the last halt. What a side writes often lies 256 bytes
-- apart from all else: the head and the done count. The two others are written once a halt.
abbrev pub head_word : ℕ
head_word = 0

abbrev pub done_word : ℕ
done_word = 32

abbrev pub stop_word : ℕ
stop_word = 64

abbrev pub halted_word : ℕ
halted_word = 65

abbrev pub all_words : ℕ
all_words = 66

-- how many of these pieces are unfinished while so many of their ticks are done
abbrev pub unfinished_of : NewestFirst Piece → ℕ → ℕ
unfinished_of pieces done = unfinished (reverse pieces) done
