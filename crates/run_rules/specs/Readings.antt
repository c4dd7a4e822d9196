-- What was read of a job.
use Rattle.std.specs.Prelude.{ℕ, List, take}

-- a job has at most so many bytes
abbrev pub largest_job : ℕ
largest_job = 16777216

-- so many bytes of a line are sent at most, without its LF: with it they fill the room of a Grbl's link
abbrev pub most_sent : ℕ
most_sent = 127

-- at most so many bytes are read at a time
abbrev pub largest_piece : ℕ
largest_piece = 4096

-- the job: of what was read, the first 16,777,216 bytes
abbrev pub job_of : List ℕ → List ℕ
job_of read = take largest_job read
