use Rattle.std.proofs.Common.{arith, zip, sym}
use Rattle.std.proofs.Math.ListN.{length-set}
use Rattle.std.proofs.lemmas.Slice.Zip.{length-zip, get_or-zip}
use Rattle.code_table.proofs.Fill.{write_more, written}
use Rattle.code_table.proofs.rows_of.Goals as goal

pub loop-place-preserved : goal.loop-place-preserved
loop-place-preserved g c =
    let place = c.loop-place.place in
    record {
      whole = simp length-set c.loop-place.invariant.whole;
      so_far = write_more c.loop-place.rows (zip c.args.keys c.args.values) place _ (0, 0) (omega arith) (simp length-zip (omega arith)) c.loop-place.invariant.so_far
          (sym (get_or-zip c.args.keys c.args.values place (0, 0) (omega arith) (omega arith)));
    }

pub returns : goal.returns
returns g c = written c.loop-place.rows (zip c.args.keys c.args.values) c.loop-place.place (omega arith) (simp length-zip (omega arith)) c.loop-place.invariant.so_far
