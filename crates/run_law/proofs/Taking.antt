-- What a board took of flags was raised.
use Rattle.std.proofs.Common.{◌≡◌, ◌≢◌, ℕ, suc, zero, ◌/◌, ◌%◌, ◌≤◌, ◌<◌, ◌||◌, ◌&&◌, Bool, true, false, cond, if◌then◌else◌, nat_eq, nat_lt, bit_and, ◌-◌, List, [], ◌∷◌, ◌++◌, refl, sym, ap, ◌∙◌, arith, option_map, Some, None}
use Rattle.std.specs.List.{list_any}
use Rattle.std.specs.Int.{bit_at}
use Rattle.std.specs.declared.option.Option.{Option}
use Rattle.std.proofs.lemmas.Bool.Decides.{nat_tests}
use Rattle.std.proofs.lemmas.List.Folds.{list_any-append}
use Rattle.std.proofs.lemmas.Nat.Bits.{bit_at_and, bit_at-lt, bit_at_lowest, bit_at-suc}
use Rattle.code_table.specs.declared.flags.Exec.{Exec}
use Rattle.code_table.specs.declared.flags.Ovr.{Ovr}
use Rattle.code_table.specs.Flags.{flag_at}
use Rattle.code_table.specs.Flags.Flag.{in_exec, in_ovr}
use Rattle.code_table.specs.Tables.{value_of, rows_of_bytes}
use Rattle.feed_hold.specs.Motions.{hold_byte}
use Rattle.feed_hold.specs.Motions as holds
use Rattle.realtime_flags.specs.declared.words.Flag.{Flag}
use Rattle.realtime_flags.specs.declared.words.Flag.TheVariants as flags
use Rattle.realtime_flags.specs.declared.words.Raise.{Raise}
use Rattle.realtime_flags.specs.declared.words.Take.{Take}
use Rattle.realtime_flags.specs.Bits.{is_flag, counted, raised_down, takes_with}
use Rattle.realtime_flags.specs.Bytes.{flag_of_row, flag_of_byte}
use Rattle.realtime_flags.proofs.Bits.{same_flag}
use Rattle.host_journal.specs.Steps.{HostLog}
use Rattle.host_journal.specs.Steps as hosts
use Rattle.host_journal.specs.Steps.PortStep.{raised}
use Rattle.board_journal.specs.Ports.{BoardLog, has_changes, has_held_in, has_changed_in}
use Rattle.board_journal.specs.Ports.PortStep.{took_exec, took_ovr}
use Rattle.run_law.specs.Flags.{is_hold, is_override, is_change}
use Rattle.run_law.specs.Taking.{raised_to, raises_in, takes_in}

abbrev pub hold_flag : Flag
hold_flag = flags.Exec 1

pub more_counted : (t : Bool) (n : ℕ) → 0 < n → 0 < counted t n
more_counted true n some = omega arith
more_counted false n some = some

-- a word that asks for a hold has its bit
hold_bit : (n : ℕ) → nat_eq (bit_and n 2) 2 ≡ true → nat_eq (bit_at n 1) 1 ≡ true
hold_bit n e =
    let b = bit_at_and n 2 1 in let one : bit_and n 2 ≡ 2 = grind (arith, nat_tests, e) in
    let both : bit_at (bit_and n 2) 1 ≡ 1 = ap (λ k. bit_at k 1) one in let lt = bit_at-lt n 1 in
    let is : bit_at n 1 ≡ 1 = omega arith in rw is refl

pub asks_hold_bit : (word : Exec) → holds.asks word hold_byte ≡ true → nat_eq (bit_at word.0 1) 1 ≡ true
asks_hold_bit word e = hold_bit word.0 e

pub held_by_word : (asked held bit : Bool) (n : ℕ) → (asked ≡ true → bit ≡ true) → (held ≡ true → 0 < n) → (asked || held) ≡ true → 0 < counted bit n
held_by_word true held true n same rest e = omega arith
held_by_word true held false n same rest e = absurd (let s : false ≡ true = same refl in cc)
held_by_word false held bit n same rest e = more_counted bit n (rest e)

-- where a word that asks for a hold was taken, its flag was
pub hold_taken : (l : BoardLog) → has_held_in l ≡ true → 0 < takes_with hold_flag (takes_in l)
hold_taken [] e = absurd cc
hold_taken (took_exec word ∷ l) e = held_by_word (holds.asks word hold_byte) (has_held_in l) (nat_eq (bit_at word.0 1) 1) (takes_with hold_flag (takes_in l)) (asks_hold_bit word) (hold_taken l) e
hold_taken (_ ∷ l) e = hold_taken l e

-- a number that is not 0 has a bit
abbrev HasBit : ℕ → Type 0
HasBit n = (place : ℕ) × (bit_at n place ≡ 1)

lowest_or_more : (n : ℕ) (t : Bool) → nat_eq (n % 2) 1 ≡ t → 0 < n → (0 < n / 2 → HasBit (n / 2)) → HasBit n
lowest_or_more n true e some rest = let one : n % 2 ≡ 1 = grind (arith, nat_tests, e) in (0, bit_at_lowest n ∙ one)
lowest_or_more n false e some rest =
    let other : n % 2 ≢ 1 = grind (arith, nat_tests, e) in
    let more : 0 < n / 2 = omega arith in
    let r = rest more in
    (suc r.0, bit_at-suc n r.0 ∙ r.1)

some_bit : (k n : ℕ) → n ≤ k → 0 < n → HasBit n
some_bit zero n few some = absurd (omega arith)
some_bit (suc k) n few some = lowest_or_more n (nat_eq (n % 2) 1) refl some (λ more. some_bit k (n / 2) (omega arith) more)

abbrev HasChange : List Take → Type 0
HasChange ts = (place : ℕ) × (0 < takes_with (flags.Override place) ts)

changed_by_word : (word : Ovr) (ts : List Take) (t : Bool) (changed : Bool) → has_changes word ≡ t → (changed ≡ true → HasChange ts) → (t || changed) ≡ true
    → (place : ℕ) × (0 < counted (nat_eq (bit_at word.0 place) 1) (takes_with (flags.Override place) ts))
changed_by_word word ts true changed is rest e =
    let some : 0 < word.0 = grind (arith, nat_tests, is) in
    let bit = some_bit word.0 word.0 (omega arith) some in
    (bit.0, rw bit.1 (omega arith))
changed_by_word word ts false changed is rest e = let r = rest e in (r.0, more_counted (nat_eq (bit_at word.0 r.0) 1) (takes_with (flags.Override r.0) ts) r.1)

-- where a word with a change was taken, a flag of one was
pub change_taken : (l : BoardLog) → has_changed_in l ≡ true → HasChange (takes_in l)
change_taken [] e = absurd cc
change_taken (took_ovr word ∷ l) e = changed_by_word word (takes_in l) (has_changes word) (has_changed_in l) refl (change_taken l) e
change_taken (_ ∷ l) e = change_taken l e

abbrev pub IsByteOf : Flag → (ℕ → Bool) → Type 0
IsByteOf f p = (b : ℕ) → flag_of_byte b ≡ Some f → p b ≡ true

byte_behind : (p : ℕ → Bool) (bytes : List ℕ) (b : ℕ) → p b ≡ true → list_any p (bytes ++ b ∷ []) ≡ true
byte_behind p bytes b is = list_any-append p bytes (b ∷ []) ∙ ap (λ t. list_any p bytes || (t || false)) is ∙ last (list_any p bytes)
  where
    last : (t : Bool) → (t || true) ≡ true
    last true = refl
    last false = refl

bytes_before : (p : ℕ → Bool) (bytes : List ℕ) (b : ℕ) → list_any p bytes ≡ true → list_any p (bytes ++ b ∷ []) ≡ true
bytes_before p bytes b any = list_any-append p bytes (b ∷ []) ∙ ap (λ t. t || (p b || false)) any

raised_by_byte : (f : Flag) (p : ℕ → Bool) (b : ℕ) (down : Bool) (rs : List Raise) (bytes : List ℕ) (o : Option Flag) → IsByteOf f p → flag_of_byte b ≡ o
    → (0 < raised_down f rs → list_any p bytes ≡ true) → 0 < raised_down f (raised_to o down rs) → list_any p (bytes ++ b ∷ []) ≡ true
raised_by_byte f p b down rs bytes None byte is rest some = bytes_before p bytes b (rest some)
raised_by_byte f p b down rs bytes (Some g) byte is rest some = by_flag down (is_flag f g) refl some
  where
    by_flag : (d t : Bool) → is_flag f g ≡ t → 0 < counted (d && t) (raised_down f rs) → list_any p (bytes ++ b ∷ []) ≡ true
    by_flag true true e more = byte_behind p bytes b (byte b (is ∙ ap (λ x. Some x) (sym (same_flag f g e))))
    by_flag true false e more = bytes_before p bytes b (rest more)
    by_flag false t e more = bytes_before p bytes b (rest more)

-- a flag that was raised and found down was raised by one of its bytes
pub flag_was_raised : (f : Flag) (p : ℕ → Bool) → IsByteOf f p → (h : HostLog) → 0 < raised_down f (raises_in h) → list_any p (hosts.bytes_raised_in h) ≡ true
flag_was_raised f p byte [] some = absurd (let s : 0 < 0 = some in omega arith)
flag_was_raised f p byte (raised b down ∷ h) some = raised_by_byte f p b down (raises_in h) (hosts.bytes_raised_in h) (flag_of_byte b) byte refl (flag_was_raised f p byte h) some
flag_was_raised f p byte (_ ∷ h) some = flag_was_raised f p byte h some

is_hold_flag : Option Flag → Bool
is_hold_flag None = false
is_hold_flag (Some f) = is_flag hold_flag f

another_row : {Q : Type 0} (t : Bool) (v : ℕ) (rest : Option ℕ) → is_hold_flag (flag_of_row (Some v)) ≡ false → (is_hold_flag (flag_of_row rest) ≡ true → Q) → is_hold_flag (flag_of_row (cond t (Some v) rest)) ≡ true → Q
another_row true v rest other next e = absurd cc
another_row false v rest other next e = next e

this_row : {Q : Type 0} (t : Bool) (v : ℕ) (rest : Option ℕ) → (t ≡ true → Q) → (is_hold_flag (flag_of_row rest) ≡ true → Q) → is_hold_flag (flag_of_row (cond t (Some v) rest)) ≡ true → Q
this_row true v rest here next e = here refl
this_row false v rest here next e = next e

-- no byte but `!` asks for a hold
only_hold : (b : ℕ) → is_hold_flag (flag_of_byte b) ≡ true → is_hold b ≡ true
unfolding is_hold_flag
only_hold b = another_row (nat_eq b 24) 3 _ refl (this_row (nat_eq b 33) 1 _ (λ e. e) (another_row (nat_eq b 63) 0 _ refl (another_row (nat_eq b 126) 2 _ refl (another_row (nat_eq b 133) 4 _ refl
    (another_row (nat_eq b 144) 16 _ refl (another_row (nat_eq b 145) 17 _ refl (another_row (nat_eq b 146) 18 _ refl (another_row (nat_eq b 147) 19 _ refl (another_row (nat_eq b 148) 20 _ refl
    (another_row (nat_eq b 149) 21 _ refl (another_row (nat_eq b 150) 22 _ refl (another_row (nat_eq b 151) 23 _ refl
    (another_row (nat_eq b 153) 24 _ refl (another_row (nat_eq b 154) 25 _ refl (another_row (nat_eq b 155) 26 _ refl (another_row (nat_eq b 156) 27 _ refl (another_row (nat_eq b 157) 28 _ refl (λ e. absurd cc))))))))))))))))))

pub hold_bytes : IsByteOf hold_flag is_hold
unfolding is_hold_flag
hold_bytes b is = only_hold b (ap is_hold_flag is)

-- the bytes from the 16th row on change overrides
change_row : (o : Option ℕ) (place : ℕ) → flag_of_row o ≡ Some (flags.Override place) → is_override (option_map flag_at o) ≡ true
change_row None place is = absurd cc
change_row (Some bit) place is = by_word (nat_lt bit 16) is
  where
    by_word : (t : Bool) → Some (cond t (flags.Exec (bit % 16)) (flags.Override (bit % 16))) ≡ Some (flags.Override place) → is_override (Some (if t then in_exec bit else in_ovr (bit - 16))) ≡ true
    by_word true e = absurd cc
    by_word false e = refl

pub change_bytes : (place : ℕ) → IsByteOf (flags.Override place) is_change
change_bytes place b is = change_row (value_of b rows_of_bytes) place is

pub taken_was_down : (is : Bool) (raises takes : ℕ) → raises ≡ counted is takes → 0 < takes → 0 < raises
taken_was_down is raises takes e some = let m = more_counted is takes some in omega arith
