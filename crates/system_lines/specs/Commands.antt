-- The kinds of lines that begin with `$`, and what these lines ask for.
use Rattle.std.specs.Prelude.{ℕ, ◌+◌, ◌/◌, ◌%◌, Bool, true, false, not, ◌&&◌, ◌==◌, nat_le, if◌then◌else◌, pos, int_le, nat_abs, List, [], ◌∷◌, length, drop, slice_get, codes, is_ok, unwrap_or, Ok, Err, Some, None}
use Rattle.std.specs.List.{list_any}
use Rattle.std.specs.Map.{lookup}
use Rattle.std.specs.Option.{option_map_or}
use Rattle.std.specs.Str.{bytes_eq}
use Rattle.std.specs.declared.option.Option.{Option}
use Rattle.std.specs.declared.result.Result.{Result}
use Rattle.units.specs.Reading.{decimal_from}
use Rattle.units.specs.declared.Decimal.{Decimal}
use Rattle.units.specs.declared.NumFault.{NumFault}
use Rattle.code_table.specs.Refusals.{first_refusal}
use Rattle.code_table.specs.declared.Code.{Code}
use Rattle.system_lines.specs.declared.Kind.{Kind}
use Rattle.system_lines.specs.declared.Kind.TheVariants as kinds
use Rattle.system_lines.specs.declared.Command.{Command}
use Rattle.system_lines.specs.declared.Command.TheVariants.{ListSettings, ListModes, ListOffsets, Unlock, Set}

abbrev pub code : ℕ → Code
code n = record { 0 = n }

-- whether a byte is at a place
abbrev pub stands_at : ℕ → List ℕ → ℕ → Bool
stands_at c line at = option_map_or (λ b. b == c) (slice_get line at) false

-- ---- the kinds of lines that begin with `$`

-- the lines that are whole as they are
abbrev pub spelled_lines : List (List ℕ × Kind)
spelled_lines = (codes "$$", kinds.ListSettings) ∷ (codes "$G", kinds.ListModes) ∷ (codes "$X", kinds.Unlock) ∷ (codes "$#", kinds.ListOffsets) ∷ []

-- the second bytes that begin lines of other kinds
abbrev pub other_kinds : List ℕ
other_kinds = codes "$#CGHIJNRSX"

-- a setting line has a second byte, none of these
abbrev pub is_setting_line : List ℕ → Bool
is_setting_line line = option_map_or (λ c. not (list_any (λ kind. kind == c) other_kinds)) (slice_get line 1) false

-- `J` comes after the `$`
abbrev pub is_jog_line : List ℕ → Bool
is_jog_line line = stands_at 74 line 1

-- and `=` after that, before the words of a jog
abbrev pub has_jog : List ℕ → Bool
has_jog line = stands_at 61 line 2

unfoldable pub kind_of : List ℕ → Kind
kind_of line =
    if is_setting_line line then kinds.Setting else
    if is_jog_line line then if has_jog line then kinds.Jog else kinds.BareJog else
    unwrap_or (lookup (bytes_eq line) spelled_lines) kinds.Other

-- the kinds that are refused with error 8 while the machine runs, whether or not their lines can be read
abbrev pub refused_in_run : Kind → Bool
refused_in_run kinds.ListSettings = true
refused_in_run kinds.ListModes = false
refused_in_run kinds.Unlock = false
refused_in_run kinds.ListOffsets = true
refused_in_run kinds.Setting = true
refused_in_run kinds.Jog = true
refused_in_run kinds.BareJog = true
refused_in_run kinds.Other = false

-- and those that are refused with it in a jog
abbrev pub refused_in_jog : Kind → Bool
refused_in_jog kinds.ListSettings = false
refused_in_jog kinds.ListModes = false
refused_in_jog kinds.Unlock = false
refused_in_jog kinds.ListOffsets = true
refused_in_jog kinds.Setting = true
refused_in_jog kinds.Jog = false
refused_in_jog kinds.BareJog = false
refused_in_jog kinds.Other = false

-- a jog is none of the commands: its words say what it does
abbrev pub is_jog : Kind → Bool
is_jog kinds.Jog = true
is_jog kind = false

-- the words of a jog come after `$J=`
abbrev pub jog_words : List ℕ → List ℕ
jog_words line = drop 3 line

-- ---- setting lines, `$n=v`

-- the longest number that begins at a place of a line, and the place after it
abbrev pub number_at : List ℕ → ℕ → Result (Decimal × ℕ) NumFault
number_at line at = decimal_from at (drop at line)

-- a number that was read, and the place after it; zeros if none was read
abbrev pub zero_number : Decimal × ℕ
zero_number = (record { micro = pos 0 }, 0)

abbrev pub read_or_zero : Result (Decimal × ℕ) NumFault → Decimal × ℕ
read_or_zero (Ok x) = x
read_or_zero (Err fault) = zero_number

-- a whole number from 0 to 255
abbrev pub is_setting_number : Decimal → Bool
is_setting_number n = int_le (pos 0) n.micro && (nat_abs n.micro % 1000000 == 0) && nat_le (nat_abs n.micro) 255000000

-- the parts of a setting line: what is read after `$`, and what is read after the byte that follows it
abbrev pub n_of : List ℕ → Result (Decimal × ℕ) NumFault
n_of line = number_at line 1

abbrev pub equals_place : List ℕ → ℕ
equals_place line = (read_or_zero (n_of line)).1

abbrev pub v_of : List ℕ → Result (Decimal × ℕ) NumFault
v_of line = number_at line (equals_place line + 1)

-- the first that holds
abbrev pub setting_refusal : List ℕ → Option Code
setting_refusal line = first_refusal (
    -- no number comes after `$`
    (2, not (is_ok (n_of line)))
    -- no `=` comes after it
    ∷ (3, not (stands_at 61 line (equals_place line)))
    -- no number comes after the `=`
    ∷ (2, not (is_ok (v_of line)))
    -- the line goes on after that
    ∷ (3, not ((read_or_zero (v_of line)).1 == length line))
    -- the first number is not that of a setting
    ∷ (3, not (is_setting_number (read_or_zero (n_of line)).0))
    ∷ [])

abbrev pub asked : List ℕ → Command
asked line = Set (nat_abs (read_or_zero (n_of line)).0.micro / 1000000) (read_or_zero (v_of line)).0

-- a command, if nothing refuses it
abbrev pub unless : Option Code → Command → Result Command Code
unless (Some refusal) command = Err refusal
unless None command = Ok command

-- ---- all lines

-- what a line of a kind asks for; what is not served is refused
abbrev pub command_by_kind : Kind → List ℕ → Result Command Code
command_by_kind kinds.ListSettings line = Ok ListSettings
command_by_kind kinds.ListModes line = Ok ListModes
command_by_kind kinds.Unlock line = Ok Unlock
command_by_kind kinds.ListOffsets line = Ok ListOffsets
command_by_kind kinds.Setting line = unless (setting_refusal line) (asked line)
command_by_kind kinds.Jog line = Err (code 3)
command_by_kind kinds.BareJog line = Err (code 3)
command_by_kind kinds.Other line = Err (code 3)

-- what a line that begins with `$` asks for
unfoldable pub command_of : List ℕ → Result Command Code
command_of line = command_by_kind (kind_of line) line
