-- Overrides change by words that the board took, and each flag of these was raised by a byte that was scanned.
use Rattle.std.proofs.Common.{◌≡◌, ℕ, ◌<◌, inl, inr, nat_eq, true, List, [], ◌∷◌, refl, sym, ap, ◌∙◌, arith}
use Rattle.std.specs.Int.{bit_at}
use Rattle.std.proofs.lemmas.Bool.Decides.{nat_tests}
use Rattle.code_table.specs.declared.flags.Ovr.{Ovr}
use Rattle.code_table.specs.Flags.{ovr_bits}
use Rattle.overrides.specs.declared.Overrides.{Overrides}
use Rattle.planner_runs.specs.declared.Action.{Action}
use Rattle.planner_runs.specs.declared.Action.TheVariants.{Override}
use Rattle.realtime_flags.specs.declared.words.Flag.TheVariants as flags
use Rattle.realtime_flags.specs.Bits.{is_up, raised_down, takes_with, IsBalanced}
use Rattle.host_journal.specs.Jobs.{served_in}
use Rattle.stream_host.specs.Ran.{AreRaised}
use Rattle.host_journal.specs.Steps.{HostLog}
use Rattle.host_journal.specs.Steps as hosts
use Rattle.board_journal.specs.Ports.{BoardLog}
use Rattle.board_journal.specs.Ports.PortStep.{took_exec, took_ovr}
use Rattle.run_law.specs.Changes.{raises_change, is_change_at, IsAskedIn, IsAmong, IsChange, AreChanges, words_in}
use Rattle.run_law.specs.Taking.{raises_in, takes_in}
use Rattle.run_law.proofs.Flagging.{scanned_where_raised}
use Rattle.run_law.proofs.Taking.{IsByteOf, flag_was_raised, taken_was_down, more_counted}

change_more : (May Also : Ovr → Type 0) (before after : Overrides) → ((word : Ovr) → May word → Also word) → IsChange May before after → IsChange Also before after
change_more May Also before after on (inl normal) = inl normal
change_more May Also before after on (inr (word, may, is)) = inr (word, on word may, is)

pub changes_more : (May Also : Ovr → Type 0) (o : Overrides) (actions : List Action) → ((word : Ovr) → May word → Also word) → AreChanges May o actions → AreChanges Also o actions
changes_more May Also o [] on are = tt
changes_more May Also o (Override next ∷ rest) on are = (change_more May Also o next on are.0, changes_more May Also next rest on are.1)
changes_more May Also o (_ ∷ rest) on are = changes_more May Also o rest on are

flag_taken : (l : BoardLog) (word : Ovr) (place : ℕ) → IsAmong (words_in l) word → bit_at (ovr_bits word) place ≡ 1 → 0 < takes_with (flags.Override place) (takes_in l)
flag_taken [] word place among bit = absurd among
flag_taken (took_exec w ∷ l) word place among bit = flag_taken l word place among bit
flag_taken (took_ovr w ∷ l) word place (inl is) bit =
    let has : bit_at (ovr_bits w) place ≡ 1 = ap (λ (x : Ovr). bit_at (ovr_bits x) place) (sym is) ∙ bit in rw has (omega arith)
flag_taken (took_ovr w ∷ l) word place (inr among) bit = more_counted (nat_eq (bit_at (ovr_bits w) place) 1) (takes_with (flags.Override place) (takes_in l)) (flag_taken l word place among bit)
flag_taken (_ ∷ l) word place among bit = flag_taken l word place among bit

same_place : (place : ℕ) → nat_eq place place ≡ true
same_place place = grind (arith, nat_tests)

its_byte : (place : ℕ) → IsByteOf (flags.Override place) (raises_change place)
its_byte place b is = ap (is_change_at place) is ∙ same_place place

pub words_were_raised : (words : List ℕ) (host : HostLog) (board : BoardLog) → IsBalanced words (raises_in host) (takes_in board) → (word : Ovr) → IsAmong (words_in board) word → IsAskedIn (hosts.bytes_raised_in host) word
words_were_raised words host board balance word among place bit =
    let f = flags.Override place in
    flag_was_raised f (raises_change place) (its_byte place) host
    (taken_was_down (is_up f words) (raised_down f (raises_in host)) (takes_with f (takes_in board)) (balance f) (flag_taken board word place among bit))

-- and scanned
pub words_were_scanned : (scanned raised due : List ℕ) (resumes : ℕ) (word : Ovr) → AreRaised scanned raised due resumes → IsAskedIn raised word → IsAskedIn (served_in scanned) word
words_were_scanned scanned raised due resumes word are asked place bit = scanned_where_raised (raises_change place) scanned raised due resumes refl are (asked place bit)
