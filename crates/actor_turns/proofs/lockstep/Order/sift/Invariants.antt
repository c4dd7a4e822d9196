use Rattle.std.proofs.Common.{◌≤◌, ◌≡◌, length, take}
use Rattle.actor_turns.specs.Lockstep.{Sifts}
use Rattle.actor_turns.proofs.lockstep.Order.sift.Given as goal

abbrev pub invariant-loop : goal.invariant-loop
invariant-loop l = record {
  sifted : Sifts l.fn.self.state (take l.count l.numbers) l.self.state;
  few : l.count ≤ l.counter;
  long : length l.numbers ≡ 64;
}
