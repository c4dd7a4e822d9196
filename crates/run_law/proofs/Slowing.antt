-- Words that ask for a hold or a cancel were taken no more often than `!` and 0x85 were raised.
use Rattle.std.proofs.Common.{◌≡◌, ℕ, ◌+◌, ◌≤◌, ◌&&◌, ◌||◌, Bool, true, false, cond, nat_eq, List, [], ◌∷◌, ◌++◌, refl, sym, ap, ◌∙◌, arith, Some, None}
use Rattle.std.specs.List.{count_by}
use Rattle.std.specs.Int.{bit_at}
use Rattle.std.specs.declared.option.Option.{Option}
use Rattle.std.proofs.lemmas.Bool.Decides.{nat_tests}
use Rattle.std.proofs.lemmas.List.Sums.{sum_by-cons, sum_by_push}
use Rattle.feed_hold.specs.Motions.{asks, hold_byte, cancel_byte}
use Rattle.realtime_flags.specs.declared.words.Flag.{Flag}
use Rattle.realtime_flags.specs.declared.words.Raise.{Raise}
use Rattle.realtime_flags.specs.Bits.{is_flag, is_up, counted, raised_down, takes_with, IsBalanced}
use Rattle.realtime_flags.specs.Bytes.{flag_of_byte}
use Rattle.realtime_flags.proofs.Bits.{same_flag}
use Rattle.host_journal.specs.Steps.{HostLog}
use Rattle.host_journal.specs.Steps as hosts
use Rattle.host_journal.specs.Steps.PortStep.{raised}
use Rattle.board_journal.specs.Ports.{BoardLog, cancel_words_in}
use Rattle.board_journal.specs.Ports.PortStep.{took_exec}
use Rattle.run_law.specs.Flags.{is_hold, is_cancel, is_slow}
use Rattle.run_law.specs.Taking.{raised_to, raises_in, takes_in}
use Rattle.run_law.proofs.Taking.{IsByteOf, hold_bytes, hold_flag, asks_hold_bit}
use Rattle.run_law.proofs.Cancelling.{cancel_bytes, cancel_flag, asks_cancel_bit}

push_count : (p : ℕ → Bool) (bytes : List ℕ) (b : ℕ) → count_by p (bytes ++ b ∷ []) ≡ count_by p bytes + cond (p b) 1 0
push_count p bytes b = sum_by_push (λ x. cond {A = ℕ} (p x) 1 0) bytes b

one_byte : (t is : Bool) (n m : ℕ) → (t ≡ true → is ≡ true) → n ≤ m → counted t n ≤ m + cond is 1 0
one_byte true true n m same few = omega (arith, few)
one_byte true false n m same few = absurd (let s : false ≡ true = same refl in cc)
one_byte false is n m same few = omega (arith, few)

and_right : (a b : Bool) → (a && b) ≡ true → b ≡ true
and_right true b is = is
and_right false b is = absurd cc

by_byte : (f : Flag) (p : ℕ → Bool) (b : ℕ) (down : Bool) (rs : List Raise) (m : ℕ) (o : Option Flag) → IsByteOf f p → flag_of_byte b ≡ o → raised_down f rs ≤ m
    → raised_down f (raised_to o down rs) ≤ m + cond (p b) 1 0
by_byte f p b down rs m None byte is few = omega (arith, few)
by_byte f p b down rs m (Some g) byte is few =
    one_byte (down && is_flag f g) (p b) (raised_down f rs) m (λ both. byte b (is ∙ ap (λ x. Some x) (sym (same_flag f g (and_right down (is_flag f g) both))))) few

-- a flag is raised no more often than its byte
flag_count : (f : Flag) (p : ℕ → Bool) → IsByteOf f p → (h : HostLog) → raised_down f (raises_in h) ≤ count_by p (hosts.bytes_raised_in h)
flag_count f p byte [] = omega arith
flag_count f p byte (raised b down ∷ h) =
    let few = by_byte f p b down (raises_in h) (count_by p (hosts.bytes_raised_in h)) (flag_of_byte b) byte refl (flag_count f p byte h) in
    let push = push_count p (hosts.bytes_raised_in h) b in
    omega (arith, few, push)
flag_count f p byte (_ ∷ h) = flag_count f p byte h

up_more : (t : Bool) (n : ℕ) → n ≤ counted t n
up_more true n = omega arith
up_more false n = omega arith

one_word : (hold cancel held cancelled : Bool) (n h c : ℕ) → (hold ≡ true → held ≡ true) → (cancel ≡ true → cancelled ≡ true) → n ≤ h + c → cond (hold || cancel) (n + 1) n ≤ counted held h + counted cancelled c
one_word true cancel true cancelled n h c here there few = let m = up_more cancelled c in omega (arith, few, m)
one_word true cancel false cancelled n h c here there few = absurd (let s : false ≡ true = here refl in cc)
one_word false true held true n h c here there few = let m = up_more held h in omega (arith, few, m)
one_word false true held false n h c here there few = absurd (let s : false ≡ true = there refl in cc)
one_word false false held cancelled n h c here there few = let m = up_more held h in let k = up_more cancelled c in omega (arith, few, m, k)

words_taken : (l : BoardLog) → cancel_words_in l ≤ takes_with hold_flag (takes_in l) + takes_with cancel_flag (takes_in l)
words_taken [] = omega arith
words_taken (took_exec word ∷ l) =
    one_word (asks word hold_byte) (asks word cancel_byte) (nat_eq (bit_at word.0 1) 1) (nat_eq (bit_at word.0 4) 1) (cancel_words_in l) (takes_with hold_flag (takes_in l)) (takes_with cancel_flag (takes_in l))
    (asks_hold_bit word) (asks_cancel_bit word) (words_taken l)
words_taken (_ ∷ l) = words_taken l

apart : (hold cancel : Bool) → (hold ≡ true → cancel ≡ true → ⊥) → cond {A = ℕ} hold 1 0 + cond cancel 1 0 ≤ cond (hold || cancel) 1 0
apart true true other = absurd (other refl refl)
apart true false other = omega arith
apart false true other = omega arith
apart false false other = omega arith

not_both : (b : ℕ) → is_hold b ≡ true → is_cancel b ≡ true → ⊥
not_both b hold cancel = let e : b ≡ 33 = grind (arith, nat_tests) in let f : b ≡ 133 = grind (arith, nat_tests) in omega (arith, e, f)

both_count : (bytes : List ℕ) → count_by is_hold bytes + count_by is_cancel bytes ≤ count_by is_slow bytes
both_count [] = omega arith
both_count (b ∷ bytes) =
    let rest = both_count bytes in
    let one = apart (is_hold b) (is_cancel b) (not_both b) in
    let h = sum_by-cons (λ x. cond {A = ℕ} (is_hold x) 1 0) b bytes in
    let c = sum_by-cons (λ x. cond {A = ℕ} (is_cancel x) 1 0) b bytes in
    let s = sum_by-cons (λ x. cond {A = ℕ} (is_slow x) 1 0) b bytes in
    omega (arith, rest, one, h, c, s)

pub cancels_few : (words : List ℕ) (host : HostLog) (board : BoardLog) → IsBalanced words (raises_in host) (takes_in board) → cancel_words_in board ≤ count_by is_slow (hosts.bytes_raised_in host)
cancels_few words host board balance =
    let taken = words_taken board in
    let holds = balance hold_flag in
    let cancels = balance cancel_flag in
    let h = up_more (is_up hold_flag words) (takes_with hold_flag (takes_in board)) in
    let c = up_more (is_up cancel_flag words) (takes_with cancel_flag (takes_in board)) in
    let raised_holds = flag_count hold_flag is_hold hold_bytes host in
    let raised_cancels = flag_count cancel_flag is_cancel cancel_bytes host in
    let both = both_count (hosts.bytes_raised_in host) in
    omega (arith, taken, holds, cancels, h, c, raised_holds, raised_cancels, both)
