-- What calls make of the flags.
use Rattle.std.proofs.Common.{◌≡◌, ℕ, ◌+◌, ◌<◌, ◌≤◌, ◌^◌, Bool, true, false, cond, not, bit_or, List, [], ◌∷◌, refl, arith}
use Rattle.realtime_flags.specs.declared.words.Flag.TheVariants as flags
use Rattle.realtime_flags.specs.declared.words.Raise.{Raise}
use Rattle.realtime_flags.specs.declared.words.Take.{Take}
use Rattle.realtime_flags.specs.declared.words.Take.TheVariants as kinds
use Rattle.realtime_flags.specs.Bits.{is_flag, is_up, report_flag, raises_of, takes_with}
use Rattle.realtime_flags.proofs.Bits.{raise_balances, take_balances, down_among, at_least, raised_small}
use Rattle.board_journal.specs.Ports.{asks_report, reports_in}
use Rattle.board_journal.specs.Ports.{BoardLog}
use Rattle.board_journal.specs.Ports.PortStep.{took_exec}
pub use Rattle.stream_host.proofs.Queries.{asks, only_query, few_queries}
pub use Rattle.board_journal.proofs.Asking.{reports_are}
use Rattle.list_ports.specs.Joining.{FlagsPass}

few_still : (a : Bool) (n : ℕ) → n ≤ 2 ^ 31 → (a ≡ true → n < 2 ^ 31) → cond a (n + 1) n ≤ 2 ^ 31
few_still true n few more = let m = more refl in omega arith
few_still false n few more = few

-- a request is raised
pub exec_raised : (exec override place : ℕ) (rs : List Raise) (ts : List Take) → place < 5 → FlagsPass exec override rs ts → (is_flag report_flag (flags.Exec place) ≡ true → raises_of report_flag rs < 2 ^ 31)
    → FlagsPass (bit_or exec (2 ^ place)) override (record { flag = flags.Exec place; down = not (is_up (flags.Exec place) (exec ∷ override ∷ [])) } ∷ rs) ts
exec_raised exec override place rs ts named p more = record {
  balance = raise_balances (exec ∷ override ∷ []) rs ts (flags.Exec place) refl p.balance;
  exec_small = raised_small 5 place exec named p.exec_small;
  override_small = p.override_small;
  few = few_still (is_flag report_flag (flags.Exec place)) (raises_of report_flag rs) p.few more;
}

-- a change of an override is raised
pub override_raised : (exec override place : ℕ) (rs : List Raise) (ts : List Take) → place < 13 → FlagsPass exec override rs ts
    → FlagsPass exec (bit_or override (2 ^ place)) (record { flag = flags.Override place; down = not (is_up (flags.Override place) (exec ∷ override ∷ [])) } ∷ rs) ts
override_raised exec override place rs ts named p = record {
  balance = raise_balances (exec ∷ override ∷ []) rs ts (flags.Override place) refl p.balance;
  exec_small = p.exec_small;
  override_small = raised_small 13 place override named p.override_small;
  few = p.few;
}

-- the requests are taken
pub exec_taken : (exec override : ℕ) (rs : List Raise) (ts : List Take) → FlagsPass exec override rs ts → FlagsPass 0 override rs (kinds.Exec (record { 0 = exec }) ∷ ts)
exec_taken exec override rs ts p = record {
  balance = take_balances (exec ∷ override ∷ []) rs ts (kinds.Exec (record { 0 = exec })) refl (omega arith) refl p.balance;
  exec_small = omega arith;
  override_small = p.override_small;
  few = p.few;
}

-- reports were taken no more often than asked for
pub few_reports : (exec override : ℕ) (rs : List Raise) (ts : List Take) → FlagsPass exec override rs ts → takes_with report_flag ts ≤ 2 ^ 31
few_reports exec override rs ts p =
    let b = p.balance report_flag in let l = at_least (is_up report_flag (exec ∷ override ∷ [])) (takes_with report_flag ts) in
    let d = down_among report_flag rs in let f = p.few in omega arith

pub report_more : (n : ℕ) (l : BoardLog) → asks_report (record { 0 = n }) ≡ true → reports_in (took_exec (record { 0 = n }) ∷ l) ≡ reports_in l + 1
report_more n l asked = rw asked refl
