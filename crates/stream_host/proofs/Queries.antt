-- Reports are asked for no more often than `?` was raised.
use Rattle.std.proofs.Common.{◌≡◌, ℕ, ◌+◌, ◌≤◌, Bool, true, false, cond, nat_eq, List, [], ◌∷◌, refl, arith, Some, None}
use Rattle.std.specs.declared.option.Option.{Option}
use Rattle.code_table.specs.Tables.{query}
use Rattle.realtime_flags.specs.declared.words.Flag.{Flag}
use Rattle.realtime_flags.specs.declared.words.Raise.{Raise}
use Rattle.realtime_flags.specs.Bits.{is_flag, report_flag, raises_of}
use Rattle.realtime_flags.specs.Bytes.{flag_of_row, flag_of_byte}
use Rattle.realtime_flags.proofs.Bits.{one_more}
use Rattle.host_journal.specs.Ports.{queries_in}
use Rattle.host_journal.specs.Raises.{raised_to, raises_in}
use Rattle.host_journal.specs.Steps.{HostLog}
use Rattle.host_journal.specs.Steps.PortStep.{raised}

-- whether a flag asks for a report
abbrev pub asks : Option Flag → Bool
asks None = false
asks (Some f) = is_flag report_flag f

another_row : {Q : Type 0} (t : Bool) (v : ℕ) (rest : Option ℕ) → asks (flag_of_row (Some v)) ≡ false → (asks (flag_of_row rest) ≡ true → Q) → asks (flag_of_row (cond t (Some v) rest)) ≡ true → Q
another_row true v rest other next e = absurd cc
another_row false v rest other next e = next e

this_row : {Q : Type 0} (t : Bool) (v : ℕ) (rest : Option ℕ) → (t ≡ true → Q) → (asks (flag_of_row rest) ≡ true → Q) → asks (flag_of_row (cond t (Some v) rest)) ≡ true → Q
this_row true v rest here next e = here refl
this_row false v rest here next e = next e

-- no byte but `?` asks for a report
pub only_query : (b : ℕ) → asks (flag_of_byte b) ≡ true → nat_eq b query ≡ true
only_query b = another_row (nat_eq b 24) 3 _ refl (another_row (nat_eq b 33) 1 _ refl (this_row (nat_eq b 63) 0 _ (λ e. e) (another_row (nat_eq b 126) 2 _ refl (another_row (nat_eq b 133) 4 _ refl
    (another_row (nat_eq b 144) 16 _ refl (another_row (nat_eq b 145) 17 _ refl (another_row (nat_eq b 146) 18 _ refl (another_row (nat_eq b 147) 19 _ refl (another_row (nat_eq b 148) 20 _ refl
    (another_row (nat_eq b 149) 21 _ refl (another_row (nat_eq b 150) 22 _ refl (another_row (nat_eq b 151) 23 _ refl
    (another_row (nat_eq b 153) 24 _ refl (another_row (nat_eq b 154) 25 _ refl (another_row (nat_eq b 155) 26 _ refl (another_row (nat_eq b 156) 27 _ refl (another_row (nat_eq b 157) 28 _ refl (λ e. absurd cc))))))))))))))))))

raised_more : (o : Option Flag) (down t : Bool) (rs : List Raise) (q : ℕ) → (asks o ≡ true → t ≡ true) → raises_of report_flag rs ≤ q → raises_of report_flag (raised_to o down rs) ≤ cond t (q + 1) q
raised_more None down t rs q same le = one_more false t _ q same le
raised_more (Some f) down t rs q same le = one_more (is_flag report_flag f) t _ q same le

-- reports were asked for no more often than `?` was raised
pub few_queries : (h : HostLog) → raises_of report_flag (raises_in h) ≤ queries_in h
few_queries [] = omega arith
few_queries (raised b down ∷ h) = raised_more (flag_of_byte b) down (nat_eq b query) (raises_in h) (queries_in h) (only_query b) (few_queries h)
few_queries (_ ∷ h) = few_queries h
