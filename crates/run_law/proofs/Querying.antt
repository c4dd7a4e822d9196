-- Reports are asked for no more often than `?` was raised.
use Rattle.std.proofs.Common.{◌≡◌, ℕ, ◌+◌, ◌≤◌, Bool, true, false, cond, nat_eq, List, [], ◌∷◌, refl, ◌∙◌, arith}
use Rattle.std.proofs.lemmas.List.Sums.{sum_by-append}
use Rattle.std.specs.List.{count_by}
use Rattle.code_table.specs.Tables.{query}
use Rattle.realtime_flags.specs.Bits.{is_up, report_flag, takes_with, IsBalanced}
use Rattle.realtime_flags.proofs.Bits.{down_among, at_least}
use Rattle.run_rules.specs.Reports.{is_query}
use Rattle.host_journal.specs.Ports.{queries_in}
use Rattle.host_journal.specs.Steps.{HostLog}
use Rattle.host_journal.specs.Steps as hosts
use Rattle.host_journal.specs.Steps.PortStep.{raised}
use Rattle.stream_host.proofs.Queries.{few_queries}
use Rattle.board_journal.specs.Ports.{BoardLog, reports_in}
use Rattle.board_journal.proofs.Asking.{reports_are}
use Rattle.run_law.specs.Taking.{raises_in, takes_in}

one_query : (n : ℕ) (bytes : List ℕ) (t : Bool) → n ≡ count_by is_query bytes → cond t (n + 1) n ≡ count_by is_query bytes + cond t 1 0
one_query n bytes true e = omega (arith, e)
one_query n bytes false e = omega (arith, e)

-- `?` was raised as often as it is among the bytes that were
pub queries_counted : (h : HostLog) → queries_in h ≡ count_by is_query (hosts.bytes_raised_in h)
queries_counted [] = refl
queries_counted (raised b down ∷ h) =
    one_query (queries_in h) (hosts.bytes_raised_in h) (nat_eq b query) (queries_counted h)
    ∙ (let s = sum_by-append (λ x. cond {A = ℕ} (is_query x) 1 0) (hosts.bytes_raised_in h) (b ∷ []) in omega (arith, s))
queries_counted (_ ∷ h) = queries_counted h

-- words that ask for a report are no more than the `?` that were raised
pub asked_few : (words : List ℕ) (host : HostLog) (board : BoardLog) → IsBalanced words (raises_in host) (takes_in board) → reports_in board ≤ count_by is_query (hosts.bytes_raised_in host)
asked_few words host board balance =
    let a = reports_are board in
    let b = balance report_flag in
    let c = at_least (is_up report_flag words) (takes_with report_flag (takes_in board)) in
    let d = down_among report_flag (raises_in host) in
    let e = few_queries host in
    let f = queries_counted host in
    omega (arith, a, b, c, d, e, f)
