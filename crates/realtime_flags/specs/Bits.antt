-- The rule of the bits, over plain lists: what was raised and what was taken, the latest first.
use Rattle.std.specs.Prelude.{◌≡◌, ℕ, ◌+◌, ◌<◌, Bool, cond, ◌&&◌, nat_eq, List, [], ◌∷◌, slice_index}
use Rattle.std.specs.Int.{bit_at}
use Rattle.code_table.specs.Flags.{exec_bits, ovr_bits}
use Rattle.realtime_flags.specs.declared.words.Flag.{Flag}
use Rattle.realtime_flags.specs.declared.words.Flag.TheVariants as flags
use Rattle.realtime_flags.specs.declared.words.Raise.{Raise}
use Rattle.realtime_flags.specs.declared.words.Take.{Take}
use Rattle.realtime_flags.specs.declared.words.Take.TheVariants as takes

-- word 0 has the requests, word 1 the changes of overrides
abbrev pub word_of : Flag → ℕ
word_of (flags.Exec place) = 0
word_of (flags.Override place) = 1

-- the place of a flag in its word
abbrev pub place_of : Flag → ℕ
place_of (flags.Exec place) = place
place_of (flags.Override place) = place

abbrev pub is_flag : Flag → Flag → Bool
is_flag f g = nat_eq (word_of f) (word_of g) && nat_eq (place_of f) (place_of g)

-- a flag that some byte raises
abbrev pub IsNamed : Flag → Type 0
IsNamed (flags.Exec place) = place < 5
IsNamed (flags.Override place) = place < 13

-- `?` asks for a report
abbrev pub report_flag : Flag
report_flag = flags.Exec 0

-- one more, where it is counted
abbrev pub counted : Bool → ℕ → ℕ
counted is n = cond is (n + 1) n

-- whether a flag is up in the two words
abbrev pub is_up : Flag → List ℕ → Bool
is_up f words = nat_eq (bit_at (slice_index words (word_of f)) (place_of f)) 1

-- how often a flag was raised
abbrev pub raises_of : Flag → List Raise → ℕ
raises_of f [] = 0
raises_of f (r ∷ rs) = counted (is_flag f r.flag) (raises_of f rs)

-- how often a flag was raised that was found down
abbrev pub raised_down : Flag → List Raise → ℕ
raised_down f [] = 0
raised_down f (r ∷ rs) = counted (r.down && is_flag f r.flag) (raised_down f rs)

abbrev pub word_taken : Take → ℕ
word_taken (takes.Exec e) = 0
word_taken (takes.Override o) = 1

abbrev pub bits_taken : Take → ℕ
bits_taken (takes.Exec e) = exec_bits e
bits_taken (takes.Override o) = ovr_bits o

-- whether a flag stood in what was taken
abbrev pub stood_in : Flag → Take → Bool
stood_in f t = nat_eq (word_of f) (word_taken t) && nat_eq (bit_at (bits_taken t) (place_of f)) 1

-- how often a flag was taken
abbrev pub takes_with : Flag → List Take → ℕ
takes_with f [] = 0
takes_with f (t ∷ ts) = counted (stood_in f t) (takes_with f ts)

-- the rule of the bits: for each flag, the raises that found it down are as many as the takes that had it, and one more
-- where it is up
abbrev pub IsBalanced : List ℕ → List Raise → List Take → Type 0
IsBalanced words raises taken = (f : Flag) → raised_down f raises ≡ counted (is_up f words) (takes_with f taken)
