use Rattle.std.proofs.Common.{◌≡◌, ◌≤◌, ◌+◌, get_or, take}
use Rattle.plan_rules.specs.Blocks.{softs_of}
use Rattle.plan_passes.specs.Tables.{nominals_of}
use Rattle.plan_passes.proofs.tables.fill_softs.Given as goal

abbrev pub invariant-loop-i : goal.invariant-loop-i
invariant-loop-i g l = record {
  nominals : take (l.i + 1) l.nominals ≡ take (l.i + 1) (nominals_of l.o l.ring);
  softs : take l.i l.softs ≡ take l.i (softs_of l.o l.ring);
  first : l.first ≡ get_or (nominals_of l.o l.ring) l.i 0;
  small : l.first ≤ 33333333;
}
