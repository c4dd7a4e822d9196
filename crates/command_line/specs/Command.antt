-- The command line of the program, in the words of clap, which reads it.
use Rattle.std.specs.Prelude.{◌≡◌, ◌≢◌, ◌≤◌, ◌⊎◌, ℕ, Bool, List, [], ◌∷◌, true, false, codes, IsSomeAnd, Option, Some, None, option_map, option_and_then, find, pos}
use Rattle.std.specs.Str.{bytes_eq}
use Rattle.std.specs.Str.Parse.{digits_value, without_leading_plus}
use Rattle.clap.specs.Simple.{App, new_app, new_rule, on_top, subcommand_of, with_rule, with_subcommand}
use Rattle.clap.specs.Walk.{Row, Rule, Text, one_of}
use Rattle.clap.specs.declared.parser.matches.ValueSource.{ValueSource}
use Rattle.clap.specs.declared.parser.matches.ValueSource.TheVariants.{CommandLine}
use Rattle.clap.specs.declared.builder.action.ArgAction.TheVariants.{SetTrue}
use Rattle.step_record.specs.declared.forms.Form.{Form}
use Rattle.step_record.specs.declared.forms.Form.TheVariants.{One, Two}
use Rattle.motion_pulse.specs.declared.pulse.Stepping.{Stepping}
use Rattle.motion_pulse.specs.declared.pulse.Stepping.TheVariants.{Events, Subticks}
use Rattle.clap.specs.declared.builder.value_parser.ValueParser.TheVariants.{Signed, Unsigned}
use Rattle.clap.specs.Faults.{fault_of}
use Rattle.clap.specs.declared.error.kind.ErrorKind.{ErrorKind}
use Rattle.clap.specs.declared.error.kind.ErrorKind.TheVariants as kind
use Rattle.command_line.specs.declared.Buffers.{Buffers}
use Rattle.command_line.specs.declared.Buffers.TheVariants.{Standard, Wide}
use Rattle.command_line.specs.declared.Order.{Order}
use Rattle.command_line.specs.declared.Order.TheVariants.{Threads, Lockstep, Paced}
use Rattle.command_line.specs.declared.StreamOptions.{StreamOptions}
use Rattle.command_line.specs.declared.Task.{Task}
use Rattle.command_line.specs.declared.Task.TheVariants.{Stream, Demo}
use Rattle.command_line.specs.declared.WordsFault.{WordsFault}
use Rattle.command_line.specs.declared.WordsFault.TheVariants.{Refused, OutOfMemory}

-- `grbl`: a subcommand is required, and the words do not hold the program's own name. All else is clap's default.
abbrev pub grbl : App
grbl = on_top (λ s. record s { no_binary_name = true; subcommand_required = true }) (new_app (codes "grbl"))

-- a flag
abbrev pub flag_rule : Text → Rule
flag_rule name = record (new_rule name) { long = Some name; action = Some SetTrue }

-- `stream` may be given `--lockstep` with a number below 2^64, and `--paced`
abbrev pub ordered_stream : App
ordered_stream = with_rule (with_rule (new_app (codes "stream")) (record (new_rule (codes "seed")) {
  long = Some (codes "lockstep");
  parser = Some (Unsigned 0 18446744073709551615);
})) (flag_rule (codes "paced"))

-- it may also be given `--wide`, `--compact`, `--smooth` and `--attended`
abbrev pub stream_command : App
stream_command = with_rule (with_rule (with_rule (with_rule ordered_stream (flag_rule (codes "wide"))) (flag_rule (codes "compact"))) (flag_rule (codes "smooth"))) (flag_rule (codes "attended"))

-- what runs the generated job
abbrev pub demo_name : Stepping → Text
demo_name Events = codes "demo"
demo_name Subticks = codes "pins"

-- it takes a whole number from 1 to 100,000
abbrev pub moves_command : Text → App
moves_command name = with_rule (new_app name) (record (new_rule (codes "moves")) {
  required = true;
  parser = Some (Signed (pos 1) (pos 100000));
})

abbrev pub command_line : App
command_line = with_subcommand (with_subcommand (with_subcommand grbl stream_command.top) (moves_command (codes "demo")).top) (moves_command (codes "pins")).top

-- the first word names one of the three
abbrev pub IsNamed : List Text → Type 0
IsNamed words = (rest : List Text) × ((words ≡ codes "stream" ∷ rest) ⊎ ((stepping : Stepping) × (words ≡ demo_name stepping ∷ rest)))

-- the number that a text of digits says, which may begin with a plus
abbrev pub number_of : Text → ℕ
number_of text = digits_value 10 (without_leading_plus text)

-- the order of the turns of `stream`, by whether it is paced, and by the seed that is given: there is none that is both
abbrev pub order_by : Bool → Option ℕ → Option Order
order_by true (Some seed) = None
order_by true None = Some Paced
order_by false (Some seed) = Some (Lockstep seed)
order_by false None = Some Threads

-- a value is of the words
abbrev pub is_of_words : Option ValueSource → Bool
is_of_words (Some CommandLine) = true
is_of_words _ = false

-- the words gave the flag
abbrev pub has_flag : Text → List Row → Bool
has_flag name found = is_of_words (option_and_then (λ r. r.source) (find (λ r. bytes_eq r.id name) found))

-- the order that was found for `stream`
abbrev pub order_in : List Row → Option Order
order_in found = order_by (has_flag (codes "paced") found) (option_map number_of (one_of (codes "seed") found))

-- the buffers, by whether they are wide
abbrev pub buffers_by : Bool → Buffers
buffers_by true = Wide
buffers_by false = Standard

-- the form of the steps, by whether they are compact
abbrev pub form_by : Bool → Form
form_by true = Two
form_by false = One

-- how the machine is stepped, by whether that is said
abbrev pub stepping_by : Bool → Stepping
stepping_by true = Subticks
stepping_by false = Events

-- what was found for `stream`, if it has an order
abbrev pub options_in : List Row → Option StreamOptions
options_in found = option_map (λ order. record { order = order; buffers = buffers_by (has_flag (codes "wide") found); form = form_by (has_flag (codes "compact") found); stepping = stepping_by (has_flag (codes "smooth") found); attended = has_flag (codes "attended") found }) (order_in found)

-- the words enter `stream`, and give it two orders of turns
abbrev pub AsksTwoOrders : List Text → Type 0
AsksTwoOrders words = IsSomeAnd (subcommand_of command_line words) (λ s. (s.0 ≡ codes "stream") × (order_in s.1 ≡ None))

-- The command line refuses the words: clap has a fault for them, or they ask for two orders of turns. A request for help is a fault.
abbrev pub Refuses : List Text → Type 0
Refuses words = (fault_of command_line words ≢ []) ⊎ AsksTwoOrders words

-- the words enter the subcommand that stands for a task, and give it the options, or the number, of the task
abbrev pub Asks : Task → List Text → Type 0
Asks (Stream options) words = IsSomeAnd (subcommand_of command_line words) (λ s. (s.0 ≡ codes "stream") × (Some options ≡ options_in s.1))
Asks (Demo moves stepping) words = IsSomeAnd (subcommand_of command_line words)
    (λ s. (s.0 ≡ demo_name stepping) × (Some moves ≡ option_map number_of (one_of (codes "moves") s.1)) × (1 ≤ moves) × (moves ≤ 100000))

-- what is said of a parse that failed
abbrev pub fault_by_kind : ErrorKind → WordsFault
fault_by_kind kind.OutOfMemory = OutOfMemory
fault_by_kind _ = Refused
