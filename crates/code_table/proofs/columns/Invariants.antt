use Rattle.std.proofs.Common.{◌≡◌, take, length}
use Rattle.std.specs.Map.{keys_of, values_of}
use Rattle.code_table.proofs.columns.Given as goal

-- the columns so far
abbrev pub invariant-loop-place : goal.invariant-loop-place
invariant-loop-place g l = record {
  all_keys : length l.keys ≡ length l.rows;
  all_values : length l.values ≡ length l.rows;
  keys_so_far : take l.place l.keys ≡ take l.place (keys_of l.rows);
  values_so_far : take l.place l.values ≡ take l.place (values_of l.rows);
}
