-- When a machine may be held, so that a line has no answer before the machine is resumed.
use Rattle.std.specs.Prelude.{ℕ, ◌+◌, Bool, true, false, cond, ◌&&◌, ◌||◌, List, [], ◌∷◌, nat_eq, nat_abs, Ok, Err}
use Rattle.std.specs.declared.result.Result.{Result}
use Rattle.units.specs.Reading.{decimal_from}
use Rattle.units.specs.declared.Decimal.{Decimal}
use Rattle.units.specs.declared.NumFault.{NumFault}
use Rattle.gcode_words.specs.declared.Word.{Word}
use Rattle.host_journal.specs.Jobs.{resume, sent_text}

-- `!` holds the machine
abbrev pub hold : ℕ
hold = 0x21

-- whether the machine may be held behind a realtime byte: behind a `!` it may, behind a `~` not, and any other changes
-- nothing
abbrev pub held_after : ℕ → Bool → Bool
held_after b held = cond (nat_eq b hold) true (cond (nat_eq b resume) false held)

-- The number of the line whose answer shows that each hold is over which a `~` was to end, behind a realtime byte: by whether the
-- machine may be held by a `!` before it, how many lines were scanned whole, the last line among them that asks for a pause, and that number
-- before. Each `!` and `~` is taken before the first line is begun that is stored behind them, and a machine that is held
-- begins none; the line of a pause has its answer once that is over.
abbrev pub resumed_after : (b : ℕ) → (held : Bool) → (lines pause before : ℕ) → ℕ
resumed_after b held lines pause before = cond (nat_eq b resume) (cond held (lines + 1) (cond (nat_eq pause 0) before pause)) before

-- what was read is the number 0
abbrev pub is_zero : Result (Decimal × ℕ) NumFault → Bool
is_zero (Ok read) = nat_eq (nat_abs read.0.micro) 0
is_zero (Err fault) = false

-- The number 0 begins a text, as a line's numbers are read: with a sign or without one, with digits before a point or behind it, and
-- six decimals count.
abbrev pub begins_zero : List ℕ → Bool
begins_zero text = is_zero (decimal_from 0 text)

-- an `M` stands in a text with the number 0 behind it, as in `M0`, `M00`, `M0.`, `M.0` and `M-0`
abbrev pub has_pause : List ℕ → Bool
has_pause [] = false
has_pause (c ∷ cs) = (nat_eq c 77 && begins_zero cs) || has_pause cs

-- a word is `M0`
abbrev pub is_pause : Word → Bool
is_pause w = nat_eq w.letter 77 && nat_eq (nat_abs w.value.micro) 0

-- a line asks for a pause: what is sent of it has one
abbrev pub pauses : List ℕ → Bool
pauses line = has_pause (sent_text line)
