-- Bytes in pieces, of which each but the last ends at a reset, and the lines and resets that they hold.
use Rattle.std.specs.Prelude.{◌≡◌, ◌⊎◌, ℕ, ◌+◌, List, [], ◌∷◌, ◌++◌, length, reverse}
use Rattle.std.specs.List.{concat}
use Rattle.run_rules.specs.Lines.{HasNoLf}
use Rattle.run_texts.specs.Sent.{Sent}
pub use Rattle.run_texts.specs.Sent.{texts_in}
use Rattle.run_texts.specs.Sent.Sent.{a_text, a_stop}

-- the pieces that end at a reset, in order, and what stands behind them
pub record Pieces : Type 0 where
  pub closed : List (List ℕ)
  pub last : List ℕ

-- all their bytes
abbrev pub joined : Pieces → List ℕ
joined p = concat p.closed ++ p.last

-- how many bytes stand before the end of each piece that ends, where so many stand before the first of them
abbrev pub ends_behind : ℕ → List (List ℕ) → List ℕ
ends_behind n [] = []
ends_behind n (p ∷ ps) = (n + length p) ∷ ends_behind (n + length p) ps

-- ---- what they hold

-- those of pieces, with a reset behind each piece
abbrev pub items_closed : List (List ℕ) → List Sent
items_closed [] = []
items_closed (p ∷ ps) = texts_in p ++ a_stop ∷ items_closed ps

abbrev pub items_in : Pieces → List Sent
items_in p = items_closed p.closed ++ texts_in p.last

-- ---- lines and resets on a link

-- the bytes of some lines and resets: each line with its LF
abbrev pub bytes_of : List Sent → List ℕ
bytes_of [] = []
bytes_of (a_text line ∷ sent) = (line ++ 10 ∷ []) ++ bytes_of sent
bytes_of (a_stop ∷ sent) = bytes_of sent

-- how many bytes stand before each reset among them, where so many stand before the first line
abbrev pub stops_behind : ℕ → List Sent → List ℕ
stops_behind n [] = []
stops_behind n (a_text line ∷ sent) = stops_behind (n + (length line + 1)) sent
stops_behind n (a_stop ∷ sent) = n ∷ stops_behind n sent

-- none of these lines holds LF
abbrev pub HoldNoLf : List Sent → Type 0
HoldNoLf [] = Unit {0}
HoldNoLf (a_text line ∷ sent) = HasNoLf line × HoldNoLf sent
HoldNoLf (a_stop ∷ sent) = HoldNoLf sent

-- These bytes and marks, the latest first, are a front of those of some lines and resets, each reset with a mark. One reset at most has
-- none yet, behind which no line comes.
pub record IsFrontOf (sent : List Sent) (bytes marks : List ℕ) : Type 0 where
  pub lines : HoldNoLf sent
  pub more : List ℕ
  pub bytes_are : bytes_of sent ≡ bytes ++ more
  pub unmarked : List ℕ
  pub marks_are : stops_behind 0 sent ≡ reverse marks ++ unmarked
  pub waits : (unmarked ≡ []) ⊎ (unmarked ≡ length (bytes_of sent) ∷ [])

-- they are all of them
pub record IsAllOf (sent : List Sent) (bytes marks : List ℕ) : Type 0 where
  pub bytes_are : bytes_of sent ≡ bytes
  pub marks_are : stops_behind 0 sent ≡ reverse marks
