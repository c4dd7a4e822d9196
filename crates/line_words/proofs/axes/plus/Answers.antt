use Rattle.std.proofs.Common.{lit<}
use Rattle.modal_state.specs.Modes.{farthest}
use Rattle.line_words.specs.Targets.{longest}
use Rattle.units.proofs.Kept.{as_near, sum}
use Rattle.line_words.proofs.axes.plus.Goals as goal

pub sum-requires-clause-a : goal.sum-requires-clause-a
sum-requires-clause-a c = as_near farthest c.args.a.now.x (lit< tt) c.requires.a.x

pub sum-requires-clause-b : goal.sum-requires-clause-b
sum-requires-clause-b c = as_near farthest c.args.b.now.x (lit< tt) c.requires.b.x

pub sum-requires-2-clause-a : goal.sum-requires-2-clause-a
sum-requires-2-clause-a c = as_near farthest c.args.a.now.y (lit< tt) c.requires.a.y

pub sum-requires-2-clause-b : goal.sum-requires-2-clause-b
sum-requires-2-clause-b c = as_near farthest c.args.b.now.y (lit< tt) c.requires.b.y

pub sum-requires-3-clause-a : goal.sum-requires-3-clause-a
sum-requires-3-clause-a c = as_near farthest c.args.a.now.z (lit< tt) c.requires.a.z

pub sum-requires-3-clause-b : goal.sum-requires-3-clause-b
sum-requires-3-clause-b c = as_near farthest c.args.b.now.z (lit< tt) c.requires.b.z

pub returns-clause-sum : goal.returns-clause-sum
returns-clause-sum c =
    let x = sum farthest c.args.a.now.x c.args.b.now.x c.sum.result (lit< tt) c.requires.a.x c.requires.b.x c.sum.ensures.size c.sum.ensures.sum in
    let y = sum farthest c.args.a.now.y c.args.b.now.y c.sum-2.result (lit< tt) c.requires.a.y c.requires.b.y c.sum-2.ensures.size c.sum-2.ensures.sum in
    let z = sum farthest c.args.a.now.z c.args.b.now.z c.sum-3.result (lit< tt) c.requires.a.z c.requires.b.z c.sum-3.ensures.size c.sum-3.ensures.sum in
    λ i. record { x = x i; y = y i; z = z i }

pub returns-clause-size : goal.returns-clause-size
returns-clause-size c = record {
  x = as_near longest c.sum.result (lit< tt) c.sum.ensures.size;
  y = as_near longest c.sum-2.result (lit< tt) c.sum-2.ensures.size;
  z = as_near longest c.sum-3.result (lit< tt) c.sum-3.ensures.size;
}
