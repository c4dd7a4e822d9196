use Rattle.std.proofs.Common.{sym, ap, ◌∙◌}
use Rattle.board_turns.specs.declared.board.Board.{Board}
use Rattle.board_turns.proofs.Settling.{slowed_now, slowed_is}
use Rattle.board_turns.proofs.Halting.{slowed_halted, did_settle, waits_for_stop}
use Rattle.board_turns.proofs.board.Board.await_stop.Goals as goal

pub returns-then-has_slowed_down-clause-goes_on : goal.returns-then-has_slowed_down-clause-goes_on
returns-then-has_slowed_down-clause-goes_on g c rest first h stands k halted none =
    let n = c.settle.ensures.goes_on rest first h stands k in
    let same = c.settle.ensures.same in (
      n.0,
      n.1,
      waits_for_stop first c.settle.new.self c.args.self.now.flags h n.0 n.2 halted n.3 (slowed_is first c.settle.new.self n.0 n.2 (c.has_slowed_down.ensures.0 c.if-has_slowed_down.true))
          (ap (λ (b : Board _). b.published) same ∙ c.requires.unpublished) (ap (λ (b : Board _). b.flags) same ∙ c.requires.flags),
    )

pub returns-clause-goes_on : goal.returns-clause-goes_on
returns-clause-goes_on g c rest first h stands k halted none =
    let n = c.settle.ensures.goes_on rest first h stands k in
    let same = c.settle.ensures.same in
    let slowed = slowed_halted first c.args.self.now h k halted none (λ held. c.requires.slows (k.machine.motion_is ∙ held)) in (
      n.0,
      n.1,
      did_settle first c.settle.new.self c.args.self.now.flags h n.0 n.2 halted n.3 slowed
          (λ s. absurd (let e = sym c.if-has_slowed_down.false ∙ c.has_slowed_down.ensures.1 (slowed_now first c.settle.new.self n.0 n.2 s) in cc))
          (ap (λ (b : Board _). b.published) same ∙ c.requires.unpublished) (ap (λ (b : Board _). b.flags) same ∙ c.requires.flags) c.requires.flags,
    )
