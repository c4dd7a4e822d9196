use Rattle.std.proofs.Common.{◌≡◌, take, length, zip}
use Rattle.code_table.proofs.rows_of.Given as goal

-- the rows so far
abbrev pub invariant-loop-place : goal.invariant-loop-place
invariant-loop-place g l = record {
  whole : length l.rows ≡ length l.keys;
  so_far : take l.place l.rows ≡ take l.place (zip l.keys l.values);
}
