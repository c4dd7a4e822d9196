-- Reading from the front of a text, part by part: what the readers of the code answer.
use Rattle.std.specs.Prelude.{ℕ, ◌+◌, ◌^◌, Bool, true, false, cond, not, ◌&&◌, nat_eq, nat_lt, ℤ, pos, negsuc, nat_abs, List, [], ◌∷◌, length, take, drop, codes, Option, Some, None, option_map, option_and_then}
use Rattle.std.specs.Borrow.{Bor}
use Rattle.std.specs.Char.{is_ascii_digit}
use Rattle.std.specs.List.{take_while}
use Rattle.std.specs.Option.{option_or}
use Rattle.std.specs.Str.{bytes_eq}
use Rattle.std.specs.Str.Parse.{digits_value}
use Rattle.step_line.specs.declared.Bits.{Bits}
use Rattle.step_line.specs.declared.Head.{Head}
use Rattle.step_line.specs.declared.Mark.{Mark}
use Rattle.step_line.specs.declared.Mark.TheVariants.{Dwell, Spindle, Coolant, Cut, Reset}
use Rattle.step_line.specs.declared.SpindleCode.{SpindleCode}
use Rattle.step_line.specs.declared.SpindleCode.TheVariants.{M3, M4, M5}
use Rattle.step_line.specs.declared.Record.{Record}
use Rattle.step_line.specs.declared.Record.TheVariants as kinds
use Rattle.step_record.specs.declared.forms.Line.{Line}
use Rattle.step_record.specs.declared.forms.Line.TheVariants as lines

-- a value, and the text behind it
abbrev pub Read : Type 0 → Type 0
Read A = Option (A × List ℕ)

-- what a reader answers
abbrev pub seen : {A : Type 0} → Option (A × Bor (List ℕ)) → Read A
seen r = option_map (λ p. (p.0, p.1.now)) r

infixl 10 ◌>>=◌
abbrev pub ◌>>=◌ : {A B : Type 0} → Option A → (A → Option B) → Option B
o >>= f = option_and_then f o

-- what follows a name that begins a text
abbrev pub behind_name : List ℕ → List ℕ → Option (List ℕ)
behind_name name text = cond (bytes_eq (take (length name) text) name) (Some (drop (length name) text)) None

-- a number is written by some digits, with no zero in front of others
abbrev pub has_no_zero_in_front : List ℕ → Bool
has_no_zero_in_front [] = false
has_no_zero_in_front (c ∷ []) = true
has_no_zero_in_front (c ∷ d ∷ digits) = not (nat_eq c 48)

abbrev pub digits_in_front : List ℕ → List ℕ
digits_in_front text = take_while is_ascii_digit text

abbrev pub numeral_at : List ℕ → Option (List ℕ)
numeral_at text = cond (has_no_zero_in_front (digits_in_front text)) (Some (digits_in_front text)) None

-- the number that digits write, where a `u64` has room for it
abbrev pub value_of : List ℕ → Option ℕ
value_of digits = cond (nat_lt (digits_value 10 digits) (2 ^ 64)) (Some (digits_value 10 digits)) None

-- a number that a byte ends
unfoldable pub number_at : List ℕ → ℕ → Read ℕ
number_at text end = do
  digits ← numeral_at text
  value ← value_of digits
  rest ← behind_name (end ∷ []) (drop (length digits) text)
  Some (value, rest)

unfoldable pub short_number_at : List ℕ → ℕ → Read ℕ
short_number_at text end = do
  n ← number_at text end
  cond (nat_lt n.0 (2 ^ 32)) (Some n) None

unfoldable pub head_at : List ℕ → Read Head
head_at text = do
  rest ← behind_name (codes "s ") text
  line ← short_number_at rest 32
  n ← short_number_at line.1 32
  w ← number_at n.1 32
  cycles ← number_at w.1 10
  cond (nat_lt 0 line.0 && nat_lt 0 n.0) (Some (record { line = line.0; n = n.0; w = w.0; cycles = cycles.0 }, cycles.1)) None

-- the step of an axis, and what follows it
unfoldable pub axis_at : List ℕ → ℕ → ℤ × List ℕ
axis_at [] letter = (pos 0, [])
axis_at (c ∷ []) letter = (pos 0, c ∷ [])
axis_at (c ∷ d ∷ text) letter = cond (nat_eq c letter && nat_eq d 43) (pos 1, text) (cond (nat_eq c letter && nat_eq d 45) (negsuc 0, text) (pos 0, c ∷ d ∷ text))

unfoldable pub event_at : List ℕ → Read Bits
event_at text =
    let x = axis_at text 88 in
    let y = axis_at x.1 89 in
    let z = axis_at y.1 90 in
    behind_name (codes "\n") z.1 >>= λ rest.
    cond (nat_lt 0 (nat_abs x.0 + nat_abs y.0 + nat_abs z.0)) (Some (record { x = x.0; y = y.0; z = z.0 }, rest)) None

unfoldable pub dwell_at : List ℕ → Read Mark
dwell_at text = do
  rest ← behind_name (codes "D ") text
  ms ← number_at rest 10
  Some (Dwell ms.0, ms.1)

unfoldable pub turn_at : List ℕ → SpindleCode → List ℕ → Read Mark
turn_at name code text = do
  rest ← behind_name name text
  speed ← short_number_at rest 10
  Some (Spindle code speed.0, speed.1)

unfoldable pub plain_at : List ℕ → Mark → List ℕ → Read Mark
plain_at name mark text = do
  rest ← behind_name name text
  Some (mark, rest)

unfoldable pub cut_at : List ℕ → Read Mark
cut_at text = do
  rest ← behind_name (codes "X ") text
  line ← short_number_at rest 10
  Some (Cut line.0, line.1)

unfoldable pub reset_at : List ℕ → Read Mark
reset_at text = do
  rest ← behind_name (codes "Z ") text
  line ← short_number_at rest 10
  Some (Reset line.0, line.1)

infixl 9 ◌or◌
abbrev pub ◌or◌ : {A : Type 0} → Option A → Option A → Option A
o or p = option_or o p

unfoldable pub mark_at : List ℕ → Read Mark
mark_at text =
    dwell_at text
    or turn_at (codes "M3 ") M3 text
    or turn_at (codes "M4 ") M4 text
    or plain_at (codes "M5 0\n") (Spindle M5 0) text
    or plain_at (codes "M8 0\n") (Coolant true) text
    or plain_at (codes "M9 0\n") (Coolant false) text
    or cut_at text
    or reset_at text

-- what is read, as a record
abbrev pub as_record : {A : Type 0} → (A → Record) → Read A → Read Record
as_record f None = None
as_record f (Some x) = Some (f x.0, x.1)

abbrev pub end_at : List ℕ → Read Record
end_at text = do
  rest ← behind_name (codes "E\n") text
  Some (kinds.End, rest)

unfoldable pub record_at : List ℕ → Read Record
record_at text = as_record kinds.Event (event_at text) or as_record kinds.Head (head_at text) or as_record kinds.Mark (mark_at text) or end_at text

-- ---- lines

-- two equal events or more
unfoldable pub run_at : List ℕ → Read Line
run_at text = do
  rest ← behind_name (codes "R ") text
  n ← short_number_at rest 32
  event ← event_at n.1
  cond (nat_lt 1 n.0) (Some (lines.Run n.0 event.0, event.1)) None

abbrev pub version_line : List ℕ → Read Line
version_line text = do
  rest ← behind_name (codes "V 2\n") text
  Some (lines.Version, rest)

-- the version, only where a text begins
unfoldable pub version_at : List ℕ → ℕ → Read Line
version_at text at = cond (nat_eq at 0) (version_line text) None

-- what is read, as a line
abbrev pub as_line : Read Record → Read Line
as_line None = None
as_line (Some x) = Some (lines.One x.0, x.1)

unfoldable pub line_at : List ℕ → ℕ → Read Line
line_at text at = as_line (record_at text) or run_at text or version_at text at
