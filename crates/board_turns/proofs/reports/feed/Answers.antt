use Rattle.std.proofs.Common.{rules}
use Rattle.units.proofs.Places.{one_root}
use Rattle.board_turns.proofs.reports.feed.Goals as goal

pub returns-then-known-machine : goal.returns-then-known-machine
returns-then-known-machine g c = let e = one_root _ _ c.isqrt.ensures in search (rules, e)
