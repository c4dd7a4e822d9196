use Rattle.std.proofs.Common.{length, ◌-◌, ◌≡◌, ◌+◌, ◌≤◌, ◌^◌, ◌/◌, ◌++◌, take, drop, replicate}
use Rattle.std.specs.List.{prefix_len}
use Rattle.units.specs.Decimals.{is_digit, digits_say}
use Rattle.units.proofs.decimals.decimal_part.Given as goal

-- the digits passed, what the first six say, what the next one weighs, and those that follow
abbrev pub invariant-loop-count : goal.invariant-loop-count
invariant-loop-count l = record {
  within : l.count ≤ length l.text;
  end : prefix_len is_digit l.text ≡ l.count + prefix_len is_digit (drop l.count l.text);
  so_far : l.value ≡ digits_say (take 6 (take l.count l.text ++ replicate 6 48));
  weight : l.weight ≡ 10 ^ (6 - l.count) / 10;
  small : l.value + 10 ^ (6 - l.count) ≤ 1000000;
}

abbrev pub decreases-loop-count : goal.decreases-loop-count
decreases-loop-count l = length l.text - l.count
