use Rattle.std.proofs.Common.{◌∙◌, refl, arith, ap, sym, get_or, take, ◌-◌, min}
use Rattle.std.proofs.lemmas.Grind.{common_steps}
use Rattle.units.specs.Decimals.{digits_say}
use Rattle.units.proofs.Fronts.{digits_more, capped_more}
use Rattle.units.proofs.decimals.whole_part.Goals as goal

pub loop-count-init : goal.loop-count-init
unfolding digits_say
loop-count-init c = record { within = omega arith; end = omega arith; so_far = refl }

pub loop-count-preserved : goal.loop-count-preserved
loop-count-preserved c =
    let i = c.loop-count.count in
    let text = c.args.text.now in
    record {
      within = omega arith;
      end = grind (arith, common_steps);
      so_far = c.min-value.ensures ∙ capped_more c.loop-count.value (digits_say (take i text)) (get_or text i 0 - 48) c.loop-count.invariant.so_far
          ∙ ap (λ n. min n 1000000000) (sym (digits_more text i c.loop-count-test.true));
    }
