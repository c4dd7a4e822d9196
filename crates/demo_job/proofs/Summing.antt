-- The moves of the generated job, and their events.
use Rattle.std.proofs.Common.{◌≡◌, ◌∙◌, ℕ, ◌+◌, ◌*◌, ◌%◌, ◌-◌, ◌<◌, ◌≤◌, ◌^◌, refl, arith, length, decimal}
use Rattle.std.proofs.lemmas.Int.{ints}
use Rattle.std.proofs.lemmas.Fmt.{length-decimal-le}
use Rattle.units.specs.Lengths.{IsMove, IsPlace}
use Rattle.step_line.specs.Counting.{events_of}
use Rattle.std.proofs.lemmas.List.FromFn.{sum_by-map-range_with_len_more}
use Rattle.demo_job.specs.Jobs.{job_events, job_move, stop}

pub is_place : (i : ℕ) → IsPlace (stop i)
is_place i = record { x = omega arith; y = omega arith; z = omega arith }

pub is_move : (i : ℕ) → IsMove (job_move i)
is_move i = record { from = is_place (i - 1); to = is_place i }

pub few_events : (i : ℕ) → events_of (job_move i) ≤ 1225
unfolding events_of
few_events i = omega (arith, ints)

pub number_short : (n : ℕ) → n < 2 ^ 32 → length (decimal n) ≤ 10
number_short n h = length-decimal-le 10 n (omega arith) (omega arith) (omega arith)

pub long_number_short : (n : ℕ) → n < 2 ^ 64 → length (decimal n) ≤ 20
long_number_short n h = length-decimal-le 20 n (omega arith) (omega arith) (omega arith)

pub no_events : job_events 0 ≡ 0
no_events = refl

-- one move more
pub more_events : (n : ℕ) → job_events (n + 1) ≡ job_events n + events_of (job_move (n + 1))
more_events n = sum_by-map-range_with_len_more events_of job_move 1 n (n + 1) (omega arith)
