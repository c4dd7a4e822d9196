-- How often a side loads the count that the other side writes, and what it keeps of it.
use Rattle.std.specs.Prelude.{◌≡◌, ℕ, ◌+◌, ◌-◌, ◌<◌}

-- A call loaded the count once if that was due, and else not; then it has what was shown before.
pub record LoadsIf (due : Type 0) (loads_before shown_before loads shown : ℕ) : Type 0 where
  pub anew : due → loads ≡ loads_before + 1
  pub kept : ¬ due → (loads ≡ loads_before) × (shown ≡ shown_before)

-- a byte was taken behind so many: the head was loaded if all that it had shown were taken
pub record TookByte (taken loads_before shown_before loads shown : ℕ) : Type 0 where
  pub look : LoadsIf (taken ≡ shown_before) loads_before shown_before loads shown
  pub there : taken < shown

-- none was found behind so many: all that the head had shown were taken, and what it shows now, too
pub record FoundNoByte (taken loads_before shown_before loads shown : ℕ) : Type 0 where
  pub before : taken ≡ shown_before
  pub look : loads ≡ loads_before + 1
  pub none : taken ≡ shown

-- a byte was stored behind so many: the tail was loaded if it had shown no room
pub record StoredByte (room stored loads_before shown_before loads shown : ℕ) : Type 0 where
  pub look : LoadsIf (stored ≡ shown_before + room) loads_before shown_before loads shown
  pub there : stored < shown + room

-- one was dropped behind so many: the tail had shown no room, and shows none now
pub record FoundNoRoom (room stored loads_before shown_before loads shown : ℕ) : Type 0 where
  pub before : stored ≡ shown_before + room
  pub look : loads ≡ loads_before + 1
  pub none : stored ≡ shown + room
