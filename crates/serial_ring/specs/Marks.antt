-- Marks, and the word that one is stored in.
use Rattle.std.specs.Prelude.{◌≡◌, ℕ, ◌+◌, ◌*◌, ◌/◌, ◌%◌, ◌^◌, ◌<◌, ◌≤◌, ◌⊎◌, List, [], ◌∷◌, length}

-- The number of a mark, counted from 1, and how many bytes were stored before it. The start of the link stands for a mark
-- with the number 0.
abbrev pub Mark : Type 0
Mark = ℕ × ℕ

abbrev pub start : Mark
start = (0, 0)

-- ---- the marks that were stored, by how many bytes were stored before each, the latest first

-- how many bytes were stored before the latest
abbrev pub latest : List ℕ → ℕ
latest [] = 0
latest (bytes ∷ earlier) = bytes

-- none of them has fewer bytes than the one before it
abbrev pub AreRising : List ℕ → Type 0
AreRising [] = Unit {0}
AreRising (bytes ∷ earlier) = (latest earlier ≤ bytes) × AreRising earlier

-- one of them, or the start
abbrev pub IsMark : List ℕ → Mark → Type 0
IsMark [] m = m ≡ start
IsMark (bytes ∷ earlier) m = (m ≡ (length earlier + 1, bytes)) ⊎ IsMark earlier m

-- each is one of them, or the start
abbrev pub AreMarks : List ℕ → List Mark → Type 0
AreMarks marks [] = Unit {0}
AreMarks marks (m ∷ earlier) = IsMark marks m × AreMarks marks earlier

-- ---- some marks, the latest first

-- the last of them, or the start
abbrev pub last_of : List Mark → Mark
last_of [] = start
last_of (m ∷ earlier) = m

-- The mark of the next Banner, behind those with these marks. The first Banner has that of the start, a later one a mark that
-- was stored behind that of the Banner before it.
abbrev pub Follows : List ℕ → List Mark → Mark → Type 0
Follows marks [] m = m ≡ start
Follows marks (before ∷ earlier) m = (before.0 < m.0) × IsMark marks m

-- one of them has more bytes than so many
abbrev pub MarkedPast : ℕ → List Mark → Type 0
MarkedPast n [] = ⊥
MarkedPast n (m ∷ earlier) = (n < m.1) ⊎ MarkedPast n earlier

-- ---- a mark in one word

abbrev pub packed : ℕ → ℕ → ℕ
packed number bytes = number * 2 ^ 32 + bytes

abbrev pub number_in : ℕ → ℕ
number_in word = word / 2 ^ 32

abbrev pub bytes_in : ℕ → ℕ
bytes_in word = word % 2 ^ 32
