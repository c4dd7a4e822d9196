-- Words of flags that ask for a report.
use Rattle.std.proofs.Common.{◌≡◌, ℕ, ◌≤◌, true, nat_eq, bit_and, [], ◌∷◌, refl, ap, arith}
use Rattle.std.proofs.lemmas.Bool.Decides.{nat_tests}
use Rattle.std.proofs.lemmas.Nat.Bits.{bit_at_and, bit_at-lt}
use Rattle.std.specs.Int.{bit_at}
use Rattle.code_table.specs.declared.flags.Exec.{Exec}
use Rattle.realtime_flags.specs.declared.words.Take.TheVariants as kinds
use Rattle.realtime_flags.specs.Bits.{report_flag, takes_with, stood_in}
use Rattle.realtime_flags.proofs.Bits.{one_more}
use Rattle.board_journal.specs.Ports.{BoardLog, asks_report, reports_in}
use Rattle.board_journal.specs.Ports.PortStep.{took_exec}
use Rattle.board_journal.specs.Takes.{takes_in}

asked_bit : (n : ℕ) → nat_eq (bit_and n 1) 1 ≡ true → nat_eq (bit_at n 0) 1 ≡ true
asked_bit n e =
    let b = bit_at_and n 1 0 in let one : bit_and n 1 ≡ 1 = grind (arith, nat_tests, e) in
    let both : bit_at (bit_and n 1) 0 ≡ 1 = ap (λ k. bit_at k 0) one in let lt = bit_at-lt n 0 in
    let is : bit_at n 0 ≡ 1 = omega arith in rw is refl

-- a word that asks for a report has its bit
stood : (word : Exec) → asks_report word ≡ true → stood_in report_flag (kinds.Exec word) ≡ true
stood word e = asked_bit word.0 e

-- no more words that ask for a report were taken than such words with its bit
pub reports_are : (l : BoardLog) → reports_in l ≤ takes_with report_flag (takes_in l)
reports_are [] = omega arith
reports_are (took_exec word ∷ l) = one_more (asks_report word) (stood_in report_flag (kinds.Exec word)) (reports_in l) (takes_with report_flag (takes_in l)) (stood word) (reports_are l)
reports_are (_ ∷ l) = reports_are l
