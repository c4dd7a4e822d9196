use Rattle.std.proofs.Common.{◌*◌, lit<}
use Rattle.status_report.specs.Reports.{farthest_told}
use Rattle.units.proofs.Kept.{as_near, difference}
use Rattle.status_report.proofs.reports.minus.Goals as goal

pub difference-requires-clause-at : goal.difference-requires-clause-at
difference-requires-clause-at c = as_near farthest_told c.args.at.x (lit< tt) c.requires.at.x

pub difference-requires-clause-from : goal.difference-requires-clause-from
difference-requires-clause-from c = as_near farthest_told c.args.from.x (lit< tt) c.requires.from.x

pub difference-requires-2-clause-at : goal.difference-requires-2-clause-at
difference-requires-2-clause-at c = as_near farthest_told c.args.at.y (lit< tt) c.requires.at.y

pub difference-requires-2-clause-from : goal.difference-requires-2-clause-from
difference-requires-2-clause-from c = as_near farthest_told c.args.from.y (lit< tt) c.requires.from.y

pub difference-requires-3-clause-at : goal.difference-requires-3-clause-at
difference-requires-3-clause-at c = as_near farthest_told c.args.at.z (lit< tt) c.requires.at.z

pub difference-requires-3-clause-from : goal.difference-requires-3-clause-from
difference-requires-3-clause-from c = as_near farthest_told c.args.from.z (lit< tt) c.requires.from.z

pub returns-clause-difference : goal.returns-clause-difference
returns-clause-difference c =
    let x = difference farthest_told c.args.at.x c.args.from.x c.difference.result (lit< tt) c.requires.at.x c.requires.from.x c.difference.ensures.near c.difference.ensures.difference in
    let y = difference farthest_told c.args.at.y c.args.from.y c.difference-2.result (lit< tt) c.requires.at.y c.requires.from.y c.difference-2.ensures.near c.difference-2.ensures.difference in
    let z = difference farthest_told c.args.at.z c.args.from.z c.difference-3.result (lit< tt) c.requires.at.z c.requires.from.z c.difference-3.ensures.near c.difference-3.ensures.difference in
    λ i. record { x = x i; y = y i; z = z i }

pub returns-clause-near : goal.returns-clause-near
returns-clause-near c = record {
  x = as_near (2 * farthest_told) c.difference.result (lit< tt) c.difference.ensures.near;
  y = as_near (2 * farthest_told) c.difference-2.result (lit< tt) c.difference-2.ensures.near;
  z = as_near (2 * farthest_told) c.difference-3.result (lit< tt) c.difference-3.ensures.near;
}
