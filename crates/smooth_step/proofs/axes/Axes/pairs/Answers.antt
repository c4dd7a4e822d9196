use Rattle.std.proofs.Common.{◌≡◌, ◌+◌, ◌-◌, ◌*◌, ◌++◌, arith, sym, subst}
use Rattle.smooth_step.specs.Subticks.{parts_after}
use Rattle.smooth_step.specs.Counters.{AreAxes}
use Rattle.smooth_step.proofs.Parts.{goes_on, ends, axes_on}
use Rattle.smooth_step.proofs.axes.Axes.pairs.Goals as goal

pub loop-made-preserved : goal.loop-made-preserved
loop-made-preserved c =
    let made = 2 * c.loop-made._made in
    let w = c.args.width in
    let n = 2 * c.args.count in
    let later : made + 1 + 1 ≡ 2 * (c.loop-made._made + 1) = omega arith in
    let so_far = c.loop-made.invariant in record {
      can = c.part-second.ensures.can;
      room = omega (arith, c.push.ensures.len, c.push-in-loop-made.ensures.len, so_far.room);
      same = λ m t e is.
          let before = so_far.axes m t e is in
          let between = axes_on c.part-first.new.self m t w made (c.part-first.ensures.next m (t + w * made) e before) in
          let one = subst (λ l. l ++ parts_after m (t + w * (made + 1)) w (n - (made + 1)) ≡ parts_after m t w n) (sym c.push.ensures.items)
          (goes_on c.loop-made.parts.items m t w made n c.part-first.result (parts_after m t w n) (omega (arith, c.loop-made-test.true))
          (c.part-first.ensures.bits m (t + w * made) e before) (so_far.same m t e is)) in
          let two = subst (λ l. l ++ parts_after m (t + w * (made + 1 + 1)) w (n - (made + 1 + 1)) ≡ parts_after m t w n) (sym c.push-in-loop-made.ensures.items)
          (goes_on c.push.new.self.items m t w (made + 1) n c.part-second.result (parts_after m t w n) (omega (arith, c.loop-made-test.true))
          (c.part-second.ensures.bits m (t + w * (made + 1)) e between) one) in
          subst (λ k. c.push-in-loop-made.new.self.items ++ parts_after m (t + w * k) w (n - k) ≡ parts_after m t w n) later two;
      axes = λ m t e is.
          let between = axes_on c.part-first.new.self m t w made (c.part-first.ensures.next m (t + w * made) e (so_far.axes m t e is)) in
          let after = axes_on c.part-second.new.self m t w (made + 1) (c.part-second.ensures.next m (t + w * (made + 1)) e between) in
          subst (λ k. AreAxes c.part-second.new.self m (t + w * k)) later after;
    }

pub returns-clause-parts : goal.returns-clause-parts
returns-clause-parts c = λ m t e is.
    ends c.loop-made.parts.items m t c.args.width (2 * c.loop-made._made) (2 * c.args.count) (parts_after m t c.args.width (2 * c.args.count))
    (omega (arith, c.loop-made-test.false)) (c.loop-made.invariant.same m t e is)

pub returns-clause-next : goal.returns-clause-next
returns-clause-next c = λ m t e is.
    let all : c.loop-made._made ≡ c.args.count = omega (arith, c.loop-made-test.false, c.loop-made.auto._made-end) in
    subst (λ k. AreAxes c.loop-made.self m (t + c.args.width * (2 * k))) all (c.loop-made.invariant.axes m t e is)
