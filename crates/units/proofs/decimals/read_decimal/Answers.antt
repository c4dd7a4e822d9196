use Rattle.std.proofs.Common.{arith}
use Rattle.units.proofs.Fronts.{parts_within}
use Rattle.units.proofs.decimals.read_decimal.Goals as goal

pub overflow_add-front : goal.overflow_add-front
overflow_add-front c = let within = parts_within c.front_of-front.result c.args.text.now c.args.at c.requires c.front_of-front.ensures.text in omega arith

pub overflow_add-len : goal.overflow_add-len
overflow_add-len c = let within = parts_within c.front_of-front.result c.args.text.now c.args.at c.requires c.front_of-front.ensures.text in omega arith

pub overflow_add-len-2 : goal.overflow_add-len-2
overflow_add-len-2 c = let within = parts_within c.front_of-front.result c.args.text.now c.args.at c.requires c.front_of-front.ensures.text in omega arith

pub overflow_add-len-3 : goal.overflow_add-len-3
overflow_add-len-3 c = let within = parts_within c.front_of-front.result c.args.text.now c.args.at c.requires c.front_of-front.ensures.text in omega arith

pub overflow_add-result : goal.overflow_add-result
overflow_add-result c = let within = parts_within c.front_of-front.result c.args.text.now c.args.at c.requires c.front_of-front.ensures.text in omega arith

pub returns-clause-place : goal.returns-clause-place
returns-clause-place c = let within = parts_within c.front_of-front.result c.args.text.now c.args.at c.requires c.front_of-front.ensures.text in (omega arith, within)
