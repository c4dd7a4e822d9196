-- A cancel that was taken was raised.
use Rattle.std.proofs.Common.{◌≡◌, ℕ, ◌<◌, ◌||◌, ◌∙◌, Bool, true, false, cond, nat_eq, bit_and, List, [], ◌∷◌, refl, ap, arith, Some, None}
use Rattle.std.specs.List.{list_any}
use Rattle.std.specs.Int.{bit_at}
use Rattle.std.specs.declared.option.Option.{Option}
use Rattle.std.proofs.lemmas.Bool.Decides.{nat_tests}
use Rattle.std.proofs.lemmas.Nat.Bits.{bit_at_and, bit_at-lt}
use Rattle.code_table.specs.declared.flags.Exec.{Exec}
use Rattle.realtime_flags.specs.declared.words.Flag.{Flag}
use Rattle.realtime_flags.specs.declared.words.Flag.TheVariants as flags
use Rattle.realtime_flags.specs.Bits.{is_flag, is_up, raised_down, takes_with, IsBalanced}
use Rattle.realtime_flags.specs.Bytes.{flag_of_row, flag_of_byte}
use Rattle.host_journal.specs.Steps.{HostLog}
use Rattle.host_journal.specs.Steps as hosts
use Rattle.board_journal.specs.Ports.{BoardLog, has_held_in, has_cancelled_in, has_slowed_in}
use Rattle.board_journal.specs.Ports.PortStep.{took_exec}
use Rattle.run_law.specs.Flags.{is_hold, is_cancel, is_slow}
use Rattle.run_law.specs.Taking.{raises_in, takes_in}
use Rattle.run_law.proofs.Taking.{IsByteOf, flag_was_raised, held_by_word, hold_bytes, hold_flag, hold_taken, taken_was_down}
use Rattle.feed_hold.specs.Motions.{asks, cancel_byte}

abbrev pub cancel_flag : Flag
cancel_flag = flags.Exec 4

-- a word that asks for a cancel has its bit
cancel_bit : (n : ℕ) → nat_eq (bit_and n 16) 16 ≡ true → nat_eq (bit_at n 4) 1 ≡ true
cancel_bit n e =
    let b = bit_at_and n 16 4 in let one : bit_and n 16 ≡ 16 = grind (arith, nat_tests, e) in
    let both : bit_at (bit_and n 16) 4 ≡ 1 = ap (λ k. bit_at k 4) one in let lt = bit_at-lt n 4 in
    let is : bit_at n 4 ≡ 1 = omega arith in rw is refl

abbrev asks_cancel : Exec → Bool
asks_cancel word = asks word cancel_byte

pub asks_cancel_bit : (word : Exec) → asks_cancel word ≡ true → nat_eq (bit_at word.0 4) 1 ≡ true
asks_cancel_bit word e = cancel_bit word.0 e

-- where a word that asks for a cancel was taken, its flag was
pub cancel_taken : (l : BoardLog) → has_cancelled_in l ≡ true → 0 < takes_with cancel_flag (takes_in l)
cancel_taken [] e = absurd cc
cancel_taken (took_exec word ∷ l) e = held_by_word (asks_cancel word) (has_cancelled_in l) (nat_eq (bit_at word.0 4) 1) (takes_with cancel_flag (takes_in l)) (asks_cancel_bit word) (cancel_taken l) e
cancel_taken (_ ∷ l) e = cancel_taken l e

is_cancel_flag : Option Flag → Bool
is_cancel_flag None = false
is_cancel_flag (Some f) = is_flag cancel_flag f

another_row : {Q : Type 0} (t : Bool) (v : ℕ) (rest : Option ℕ) → is_cancel_flag (flag_of_row (Some v)) ≡ false → (is_cancel_flag (flag_of_row rest) ≡ true → Q) → is_cancel_flag (flag_of_row (cond t (Some v) rest)) ≡ true → Q
another_row true v rest other next e = absurd cc
another_row false v rest other next e = next e

this_row : {Q : Type 0} (t : Bool) (v : ℕ) (rest : Option ℕ) → (t ≡ true → Q) → (is_cancel_flag (flag_of_row rest) ≡ true → Q) → is_cancel_flag (flag_of_row (cond t (Some v) rest)) ≡ true → Q
this_row true v rest here next e = here refl
this_row false v rest here next e = next e

-- no byte but 0x85 asks for a cancel
only_cancel : (b : ℕ) → is_cancel_flag (flag_of_byte b) ≡ true → is_cancel b ≡ true
unfolding is_cancel_flag
only_cancel b = another_row (nat_eq b 24) 3 _ refl (another_row (nat_eq b 33) 1 _ refl (another_row (nat_eq b 63) 0 _ refl (another_row (nat_eq b 126) 2 _ refl (this_row (nat_eq b 133) 4 _ (λ e. e)
    (another_row (nat_eq b 144) 16 _ refl (another_row (nat_eq b 145) 17 _ refl (another_row (nat_eq b 146) 18 _ refl (another_row (nat_eq b 147) 19 _ refl (another_row (nat_eq b 148) 20 _ refl
    (another_row (nat_eq b 149) 21 _ refl (another_row (nat_eq b 150) 22 _ refl (another_row (nat_eq b 151) 23 _ refl
    (another_row (nat_eq b 153) 24 _ refl (another_row (nat_eq b 154) 25 _ refl (another_row (nat_eq b 155) 26 _ refl (another_row (nat_eq b 156) 27 _ refl (another_row (nat_eq b 157) 28 _ refl (λ e. absurd cc))))))))))))))))))

pub cancel_bytes : IsByteOf cancel_flag is_cancel
unfolding is_cancel_flag
cancel_bytes b is = only_cancel b (ap is_cancel_flag is)

later : (s t : Bool) → t ≡ true → (s || t) ≡ true
later true t e = refl
later false t e = e

-- a byte that holds, or one that cancels
one_slows : (t any slow more : Bool) → (t ≡ true → slow ≡ true) → (any ≡ true → more ≡ true) → (t || any) ≡ true → (slow || more) ≡ true
one_slows true any slow more here there is = ap (λ (s : Bool). s || more) (here refl)
one_slows false any slow more here there is = later slow more (there is)

either_slows : (bytes : List ℕ) (p : ℕ → Bool) → ((b : ℕ) → p b ≡ true → is_slow b ≡ true) → list_any p bytes ≡ true → list_any is_slow bytes ≡ true
either_slows [] p slows is = is
either_slows (b ∷ bytes) p slows is = one_slows (p b) (list_any p bytes) (is_slow b) (list_any is_slow bytes) (slows b) (either_slows bytes p slows) is

holds_slow : (b : ℕ) → is_hold b ≡ true → is_slow b ≡ true
holds_slow b is = ap (λ (t : Bool). t || is_cancel b) is

cancels_slow : (b : ℕ) → is_cancel b ≡ true → is_slow b ≡ true
cancels_slow b is = later (is_hold b) (is_cancel b) is

pub slow_raised : (words : List ℕ) (host : HostLog) (board : BoardLog) → IsBalanced words (raises_in host) (takes_in board) → has_slowed_in board ≡ true → list_any is_slow (hosts.bytes_raised_in host) ≡ true
slow_raised words host board balance slowed = by_either (has_held_in board) (has_cancelled_in board) refl refl slowed
  where
    by_either : (held cancelled : Bool) → has_held_in board ≡ held → has_cancelled_in board ≡ cancelled → (held || cancelled) ≡ true → list_any is_slow (hosts.bytes_raised_in host) ≡ true
    by_either true cancelled e f some = either_slows (hosts.bytes_raised_in host) is_hold holds_slow (flag_was_raised hold_flag is_hold hold_bytes host
        (taken_was_down (is_up hold_flag words) (raised_down hold_flag (raises_in host)) (takes_with hold_flag (takes_in board)) (balance hold_flag) (hold_taken board e)))
    by_either false cancelled e f some = either_slows (hosts.bytes_raised_in host) is_cancel cancels_slow (flag_was_raised cancel_flag is_cancel cancel_bytes host
        (taken_was_down (is_up cancel_flag words) (raised_down cancel_flag (raises_in host)) (takes_with cancel_flag (takes_in board)) (balance cancel_flag) (cancel_taken board (f ∙ some))))
