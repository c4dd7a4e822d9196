use Rattle.std.proofs.Common.{◌≡◌, ◌+◌, ◌-◌, ◌*◌, ◌/◌, ◌^◌, ◌<◌, ◌≤◌, ◌++◌, length, take, replicate, get_or, refl, arith, ap, sym, ◌∙◌, lit<, rules}
use Rattle.std.proofs.lemmas.Grind.{common_steps}
use Rattle.std.proofs.lemmas.List.{take_more, length-take-le}
use Rattle.std.proofs.Math.Nat.{one-le-pow, mul-le-mul_right}
use Rattle.units.specs.Decimals.{digits_say}
use Rattle.units.proofs.Fronts.{weighs, lighter, digit_small}
use Rattle.units.proofs.decimals.decimal_part.Goals as goal

pub loop-count-init : goal.loop-count-init
unfolding digits_say
loop-count-init c = record { within = omega arith; end = omega arith; so_far = refl; weight = refl; small = omega arith }

pub loop-count-preserved : goal.loop-count-preserved
loop-count-preserved c =
    let i = c.loop-count.count in
    let text = c.args.text.now in
    let digit = get_or text i 0 in
    let light = lighter i in
    let before : length (take i text) ≡ i = length-take-le i text (omega arith) in
    let weight : c.loop-count.weight ≡ 10 ^ (6 - length (take i text)) / 10 = c.loop-count.invariant.weight ∙ ap (λ k. 10 ^ (6 - k) / 10) (sym before) in
    let low : digit - 48 < 10 = digit_small digit (search rules) in
    record {
      within = omega arith;
      end = grind (arith, common_steps);
      so_far = ap (λ n. n + (digit - 48) * c.loop-count.weight) c.loop-count.invariant.so_far
          ∙ ap (λ w. digits_say (take 6 (take i text ++ replicate 6 48)) + (digit - 48) * w) weight
          ∙ sym (weighs (take i text) digit)
          ∙ ap (λ t. digits_say (take 6 (t ++ replicate 6 48))) (sym (take_more text i 0 c.loop-count-test.true));
      weight = ap (λ n. n / 10) c.loop-count.invariant.weight ∙ light.0;
      small = omega (arith, light.1, c.loop-count.invariant.weight, mul-le-mul_right c.loop-count.weight (let le : digit - 48 ≤ 9 = omega arith in le));
    }

pub returns-clause-small : goal.returns-clause-small
returns-clause-small c = omega (arith, one-le-pow (6 - c.loop-count.count) 10 (lit< tt))
