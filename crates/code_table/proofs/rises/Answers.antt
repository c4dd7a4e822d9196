use Rattle.std.proofs.Common.{arith}
use Rattle.code_table.proofs.Order.{falls, each_rises}
use Rattle.code_table.proofs.rises.Goals as goal

pub returns-then-keys-place : goal.returns-then-keys-place
returns-then-keys-place c = falls c.args.keys.now c.loop-place.place (omega arith) (omega arith) c.if-keys-place.true

pub returns : goal.returns
returns c = each_rises c.args.keys.now c.loop-place.place (omega arith) c.loop-place.invariant
