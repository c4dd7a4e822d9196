use Rattle.std.proofs.Common.{◌≡◌, ℕ, ◌<◌, take, None}
use Rattle.line_words.specs.WordRefusals.{refusal_at}
use Rattle.line_words.specs.Passing.{IsPassed}
use Rattle.line_words.proofs.line.Line.read.Given as goal

-- the words so far pass, and the index tells of them
abbrev pub invariant-loop-place : goal.invariant-loop-place
invariant-loop-place l = record {
  index : IsPassed l.index l.words (take l.place l.words);
  passed : (k : ℕ) → k < l.place → refusal_at l.words k ≡ None;
}
