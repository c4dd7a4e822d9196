-- A reset that a board took was raised; and so was all that it took of flags.
use Rattle.std.proofs.Common.{◌≡◌, ℕ, ◌<◌, Bool, true, false, cond, nat_eq, bit_and, List, [], ◌∷◌, refl, ap, arith, Some, None}
use Rattle.std.specs.Int.{bit_at}
use Rattle.std.specs.declared.option.Option.{Option}
use Rattle.std.proofs.lemmas.Bool.Decides.{nat_tests}
use Rattle.std.proofs.lemmas.Nat.Bits.{bit_at_and, bit_at-lt}
use Rattle.code_table.specs.declared.flags.Exec.{Exec}
use Rattle.realtime_flags.specs.declared.words.Flag.{Flag}
use Rattle.realtime_flags.specs.declared.words.Flag.TheVariants as flags
use Rattle.realtime_flags.specs.Bits.{is_flag, is_up, raised_down, takes_with, IsBalanced}
use Rattle.realtime_flags.specs.Bytes.{flag_of_row, flag_of_byte}
use Rattle.host_journal.specs.Jobs.{is_reset}
use Rattle.host_journal.specs.Steps.{HostLog}
use Rattle.host_journal.specs.Steps as hosts
use Rattle.board_journal.specs.Ports.{BoardLog, asks_reset, has_reset_in}
use Rattle.board_journal.specs.Ports.PortStep.{took_exec}
use Rattle.run_law.specs.Flags.{is_hold, is_change, AreTaken, words_taken}
use Rattle.run_law.specs.Taking.{raises_in, takes_in}
use Rattle.run_law.proofs.Querying.{asked_few}
use Rattle.run_law.proofs.Cancelling.{slow_raised}
use Rattle.run_law.proofs.Slowing.{cancels_few}
use Rattle.run_law.proofs.Taking.{IsByteOf, change_bytes, change_taken, flag_was_raised, held_by_word, hold_bytes, hold_flag, hold_taken, taken_was_down}

abbrev reset_flag : Flag
reset_flag = flags.Exec 3

-- a word that asks for a reset has its bit
reset_bit : (n : ℕ) → nat_eq (bit_and n 8) 8 ≡ true → nat_eq (bit_at n 3) 1 ≡ true
reset_bit n e =
    let b = bit_at_and n 8 3 in let one : bit_and n 8 ≡ 8 = grind (arith, nat_tests, e) in
    let both : bit_at (bit_and n 8) 3 ≡ 1 = ap (λ k. bit_at k 3) one in let lt = bit_at-lt n 3 in
    let is : bit_at n 3 ≡ 1 = omega arith in rw is refl

asks_reset_bit : (word : Exec) → asks_reset word ≡ true → nat_eq (bit_at word.0 3) 1 ≡ true
asks_reset_bit word e = reset_bit word.0 e

-- where a word that asks for a reset was taken, its flag was
reset_taken : (l : BoardLog) → has_reset_in l ≡ true → 0 < takes_with reset_flag (takes_in l)
reset_taken [] e = absurd cc
reset_taken (took_exec word ∷ l) e = held_by_word (asks_reset word) (has_reset_in l) (nat_eq (bit_at word.0 3) 1) (takes_with reset_flag (takes_in l)) (asks_reset_bit word) (reset_taken l) e
reset_taken (_ ∷ l) e = reset_taken l e

is_reset_flag : Option Flag → Bool
is_reset_flag None = false
is_reset_flag (Some f) = is_flag reset_flag f

another_row : {Q : Type 0} (t : Bool) (v : ℕ) (rest : Option ℕ) → is_reset_flag (flag_of_row (Some v)) ≡ false → (is_reset_flag (flag_of_row rest) ≡ true → Q) → is_reset_flag (flag_of_row (cond t (Some v) rest)) ≡ true → Q
another_row true v rest other next e = absurd cc
another_row false v rest other next e = next e

this_row : {Q : Type 0} (t : Bool) (v : ℕ) (rest : Option ℕ) → (t ≡ true → Q) → (is_reset_flag (flag_of_row rest) ≡ true → Q) → is_reset_flag (flag_of_row (cond t (Some v) rest)) ≡ true → Q
this_row true v rest here next e = here refl
this_row false v rest here next e = next e

-- no byte but 0x18 asks for a reset
only_reset : (b : ℕ) → is_reset_flag (flag_of_byte b) ≡ true → is_reset b ≡ true
unfolding is_reset_flag
only_reset b = this_row (nat_eq b 24) 3 _ (λ e. e) (another_row (nat_eq b 33) 1 _ refl (another_row (nat_eq b 63) 0 _ refl (another_row (nat_eq b 126) 2 _ refl (another_row (nat_eq b 133) 4 _ refl
    (another_row (nat_eq b 144) 16 _ refl (another_row (nat_eq b 145) 17 _ refl (another_row (nat_eq b 146) 18 _ refl (another_row (nat_eq b 147) 19 _ refl (another_row (nat_eq b 148) 20 _ refl
    (another_row (nat_eq b 149) 21 _ refl (another_row (nat_eq b 150) 22 _ refl (another_row (nat_eq b 151) 23 _ refl
    (another_row (nat_eq b 153) 24 _ refl (another_row (nat_eq b 154) 25 _ refl (another_row (nat_eq b 155) 26 _ refl (another_row (nat_eq b 156) 27 _ refl (another_row (nat_eq b 157) 28 _ refl (λ e. absurd cc))))))))))))))))))

reset_bytes : IsByteOf reset_flag is_reset
unfolding is_reset_flag
reset_bytes b is = only_reset b (ap is_reset_flag is)

pub taken_were_raised : (words : List ℕ) (host : HostLog) (board : BoardLog) → IsBalanced words (raises_in host) (takes_in board) → AreTaken (hosts.bytes_raised_in host) (words_taken board)
taken_were_raised words host board balance = record {
  held_by = λ held. flag_was_raised hold_flag is_hold hold_bytes host
      (taken_was_down (is_up hold_flag words) (raised_down hold_flag (raises_in host)) (takes_with hold_flag (takes_in board)) (balance hold_flag) (hold_taken board held));
  slowed_by = λ slowed. slow_raised words host board balance slowed;
  changed_by = λ changed.
      let c = change_taken board changed in
      flag_was_raised (flags.Override c.0) is_change (change_bytes c.0) host
      (taken_was_down (is_up (flags.Override c.0) words) (raised_down (flags.Override c.0) (raises_in host)) (takes_with (flags.Override c.0) (takes_in board)) (balance (flags.Override c.0)) c.1);
  reset_by = λ reset. flag_was_raised reset_flag is_reset reset_bytes host
      (taken_was_down (is_up reset_flag words) (raised_down reset_flag (raises_in host)) (takes_with reset_flag (takes_in board)) (balance reset_flag) (reset_taken board reset));
  asked_by = asked_few words host board balance;
  cancels_by = cancels_few words host board balance;
}
