-- What is given of the generated job.
use Rattle.std.specs.Prelude.{ℕ, ◌+◌, List, length, unwrap_or, option_map, slice_get}
use Rattle.demo_job.specs.Jobs.{job_lines}

-- the length of a line with its LF, by how many come before it, and 1 after the last
abbrev pub line_length : ℕ → ℕ → ℕ
line_length n passed = unwrap_or (option_map (λ (l : List ℕ). length l + 1) (slice_get (job_lines n) passed)) 1
