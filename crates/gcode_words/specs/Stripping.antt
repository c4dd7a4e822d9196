-- What is kept of a line, and what is taken off it.
use Rattle.std.specs.Prelude.{◌≡◌, ◌≢◌, ◌↔◌, ℕ, ◌-◌, Bool, cond, not, ◌&&◌, ◌||◌, List, [], ◌∷◌, ◌++◌, map, filter, nat_eq, nat_le, nat_lt}
use Rattle.std.specs.List.{flat_map}
use Rattle.gcode_words.specs.Comments.{cut, comment_after}
use Rattle.gcode_words.specs.declared.stripping.Comment.{Comment}
use Rattle.gcode_words.specs.declared.stripping.Comment.TheVariants.{Outside}
use Rattle.gcode_words.specs.declared.stripping.Stripped.{Stripped}
use Rattle.gcode_words.specs.declared.stripping.Stripped.TheVariants.{Nothing, Keep, Realtime, LineEnd}

-- 0x18, '?', '!', '~', and the bytes from 0x80
abbrev pub is_realtime : ℕ → Bool
is_realtime c = nat_eq c 24 || nat_eq c 63 || nat_eq c 33 || nat_eq c 126 || nat_le 128 c

-- above 0x20, not '/', and no realtime byte
abbrev pub is_plain : ℕ → Bool
is_plain c = nat_lt 32 c && not (nat_eq c 47) && not (is_realtime c)

-- 'a' to 'z' as 'A' to 'Z', all else as it is
abbrev pub capital : ℕ → ℕ
capital c = cond (nat_le 97 c && nat_le c 122) (c - 32) c

-- the bytes that are kept of a line: the plain ones outside its comments, as capitals
abbrev pub plain : List ℕ → List ℕ
plain line = map capital (filter is_plain (cut line).outside)

-- the realtime bytes of a line: those outside its comments
abbrev pub realtime : List ℕ → List ℕ
realtime line = filter is_realtime (cut line).outside

-- lines, each ended by LF
abbrev pub ended : List (List ℕ) → List ℕ
ended lines = flat_map (λ l. l ++ 10 ∷ []) lines

-- what an answer keeps, and what it takes off the line as a realtime byte
abbrev pub kept_by : Stripped → List ℕ
kept_by Nothing = []
kept_by (Keep c) = c ∷ []
kept_by (Realtime c) = []
kept_by LineEnd = []

abbrev pub taken_by : Stripped → List ℕ
taken_by Nothing = []
taken_by (Keep c) = []
taken_by (Realtime c) = c ∷ []
taken_by LineEnd = []

-- The answer to a byte that follows the bytes of a line, by how the line ends without it and with it (`comment_after`):
-- the answer keeps or takes exactly what the byte adds. A line feed ends the line.
pub record Feeds (before : Comment) (byte : ℕ) (answer : Stripped) (after : Comment) : Type 0 where
  pub line_end : (answer ≡ LineEnd) ↔ (byte ≡ 10)
  pub next_line : byte ≡ 10 → after ≡ Outside
  pub comment : (line : List ℕ) → byte ≢ 10 → before ≡ comment_after line → after ≡ comment_after (line ++ byte ∷ [])
  pub kept : (line : List ℕ) → byte ≢ 10 → before ≡ comment_after line → plain (line ++ byte ∷ []) ≡ plain line ++ kept_by answer
  pub taken : (line : List ℕ) → byte ≢ 10 → before ≡ comment_after line → realtime (line ++ byte ∷ []) ≡ realtime line ++ taken_by answer

-- the answers to the bytes of a text, one after the other
abbrev pub FeedsAll : Comment → List ℕ → List Stripped → Comment → Type 0
FeedsAll before [] [] after = before ≡ after
FeedsAll before [] (a ∷ answers) after = ⊥
FeedsAll before (b ∷ bytes) [] after = ⊥
FeedsAll before (b ∷ bytes) (a ∷ answers) after = (between : Comment) × Feeds before b a between × FeedsAll between bytes answers after
