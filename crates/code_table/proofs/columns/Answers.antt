use Rattle.std.proofs.Common.{arith, sym}
use Rattle.std.specs.Map.{keys_of, values_of}
use Rattle.std.proofs.Math.ListN.{length-set}
use Rattle.std.proofs.lemmas.Map.Entries.{length-keys_of, length-values_of}
use Rattle.std.proofs.lemmas.List.{get_or-map}
use Rattle.code_table.specs.Tables.{Row}
use Rattle.code_table.proofs.Fill.{write_more, written}
use Rattle.code_table.proofs.columns.Goals as goal

pub loop-place-preserved : goal.loop-place-preserved
loop-place-preserved g c =
    let place = c.loop-place.place in
    let so_far = c.loop-place.invariant in
    record {
      all_keys = simp length-set so_far.all_keys;
      all_values = simp length-set so_far.all_values;
      keys_so_far = write_more c.loop-place.keys (keys_of c.args.rows) place _ 0 (omega arith) (simp length-keys_of (omega arith)) so_far.keys_so_far
          (sym (get_or-map (λ (row : Row). row.0) c.args.rows place (0, 0) 0 (omega arith)));
      values_so_far = write_more c.loop-place.values (values_of c.args.rows) place _ 0 (omega arith) (simp length-values_of (omega arith)) so_far.values_so_far
          (sym (get_or-map (λ (row : Row). row.1) c.args.rows place (0, 0) 0 (omega arith)));
    }

pub returns-clause-keys : goal.returns-clause-keys
returns-clause-keys g c = written c.loop-place.keys (keys_of c.args.rows) c.loop-place.place (omega arith) (simp length-keys_of (omega arith)) c.loop-place.invariant.keys_so_far

pub returns-clause-values : goal.returns-clause-values
returns-clause-values g c = written c.loop-place.values (values_of c.args.rows) c.loop-place.place (omega arith) (simp length-values_of (omega arith)) c.loop-place.invariant.values_so_far
