use Rattle.std.proofs.Common.{length, ◌-◌, ◌≡◌, ◌+◌, ◌≤◌, take, drop, min}
use Rattle.std.specs.List.{prefix_len}
use Rattle.units.specs.Decimals.{is_digit, digits_say}
use Rattle.units.proofs.decimals.whole_part.Given as goal

-- the digits passed, what they say, and those that follow
abbrev pub invariant-loop-count : goal.invariant-loop-count
invariant-loop-count l = record {
  within : l.count ≤ length l.text;
  end : prefix_len is_digit l.text ≡ l.count + prefix_len is_digit (drop l.count l.text);
  so_far : l.value ≡ min (digits_say (take l.count l.text)) 1000000000;
}

abbrev pub decreases-loop-count : goal.decreases-loop-count
decreases-loop-count l = length l.text - l.count
