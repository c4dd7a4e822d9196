use Rattle.std.proofs.Common.{arith, sym, ap, ◌∙◌, subst}
use Rattle.board_journal.specs.Steps.{Journal, port_log}
use Rattle.board_turns.specs.declared.board.Board.{Board}
use Rattle.board_turns.specs.Boards.{Keeps}
use Rattle.board_turns.specs.Turning.{obeyed, flags_behind}
use Rattle.board_turns.proofs.Halting.{taken, held_awaits, no_jog_held, did_ask, did_resume, waits_for_resume}
use Rattle.board_turns.proofs.Words.{asked_owed, asked_free, asked_owes}
use Rattle.board_turns.proofs.board.Board.await_resume.Goals as goal

pub take_requests-requires : goal.take_requests-requires
take_requests-requires g c =
    let r = c.requires.stands in let first = r.1 in (
      omega arith,
      (r.0, first, r.2, r.3, r.4, held_awaits first r.2 r.4.conducted r.5, no_jog_held first r.2 (sym r.4.machine.motion_is ∙ c.requires.held)),
    )

pub returns-then-self-clause-goes_on : goal.returns-then-self-clause-goes_on
returns-then-self-clause-goes_on g c = λ rest first h stands k halted none.
    let n = c.take_requests.ensures.goes_on rest first h stands k (held_awaits first h k.conducted halted) (no_jog_held first h (sym k.machine.motion_is ∙ c.requires.held)) in
    let same = c.take_requests.ensures.same in
    let owed = sym (n.4.owes_is ∙ asked_owes first n.0 n.1) ∙ c.if-self.true in
    let is = asked_owed first n.0 n.1 owed in (
      taken n.0 n.1,
      subst (λ (x : Journal). g.P.EpochPort.stands c.take_requests.new.port rest first (port_log x)) is n.3,
      did_ask first c.take_requests.new.self c.args.self.now.flags n.0 h n.1 (subst (λ (x : Journal). Keeps first c.take_requests.new.self x) is n.4) halted n.2 owed
          (ap (λ (b : Board _). b.published) same ∙ c.requires.unpublished) (n.5 ∙ ap (λ b. flags_behind b n.0) owed) c.requires.flags,
    )

pub returns-then-is_held-clause-goes_on : goal.returns-then-is_held-clause-goes_on
returns-then-is_held-clause-goes_on g c = λ rest first h stands k halted none.
    let n = c.take_requests.ensures.goes_on rest first h stands k (held_awaits first h k.conducted halted) (no_jog_held first h (sym k.machine.motion_is ∙ c.requires.held)) in
    let same = c.take_requests.ensures.same in
    let unowed = sym (n.4.owes_is ∙ asked_owes first n.0 n.1) ∙ c.if-self.false in
    let is = asked_free first n.0 n.1 unowed in
    let keeps = subst (λ (x : Journal). Keeps first c.take_requests.new.self x) is n.4 in (
      obeyed first n.0 n.1,
      subst (λ (x : Journal). g.P.EpochPort.stands c.take_requests.new.port rest first (port_log x)) is n.3,
      waits_for_resume first c.take_requests.new.self c.args.self.now.flags n.0 h n.1 keeps halted n.2 (sym k.machine.motion_is ∙ c.requires.held)
          (sym keeps.machine.motion_is ∙ c.is_held.ensures.0 c.if-is_held.true) unowed (ap (λ (b : Board _). b.published) same ∙ c.requires.unpublished) (n.5 ∙ ap (λ b. flags_behind b n.0) unowed),
    )

pub returns-clause-goes_on : goal.returns-clause-goes_on
returns-clause-goes_on g c = λ rest first h stands k halted none.
    let n = c.take_requests.ensures.goes_on rest first h stands k (held_awaits first h k.conducted halted) (no_jog_held first h (sym k.machine.motion_is ∙ c.requires.held)) in
    let same = c.take_requests.ensures.same in
    let unowed = sym (n.4.owes_is ∙ asked_owes first n.0 n.1) ∙ c.if-self.false in
    let is = asked_free first n.0 n.1 unowed in
    let keeps = subst (λ (x : Journal). Keeps first c.take_requests.new.self x) is n.4 in (
      obeyed first n.0 n.1,
      subst (λ (x : Journal). g.P.EpochPort.stands c.take_requests.new.port rest first (port_log x)) is n.3,
      did_resume first c.take_requests.new.self c.args.self.now.flags n.0 h n.1 keeps halted n.2 (sym k.machine.motion_is ∙ c.requires.held)
          (λ held. absurd (let e = sym c.if-is_held.false ∙ c.is_held.ensures.1 (keeps.machine.motion_is ∙ held) in cc))
          unowed (ap (λ (b : Board _). b.published) same ∙ c.requires.unpublished) (n.5 ∙ ap (λ b. flags_behind b n.0) unowed) c.requires.flags,
    )
