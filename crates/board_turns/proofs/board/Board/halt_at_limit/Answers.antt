use Rattle.std.proofs.Common.{arith, rules, ◌∷◌, ap, sym, ◌∙◌, refl, subst}
use Rattle.board_journal.specs.Ports.PortStep.{loaded}
use Rattle.board_journal.specs.Steps.Step.{at_port}
use Rattle.board_turns.specs.declared.board.Board.{Board}
use Rattle.board_turns.specs.declared.board.Flags.{Flags}
use Rattle.board_turns.specs.Turning.{HasPiece, WorksOn}
use Rattle.board_turns.proofs.Stages.{halting_left}
use Rattle.board_journal.specs.Steps.{left_of}
use Rattle.board_rules.specs.Turns.{awaits_motion}
use Rattle.board_rules.proofs.Facts.{none_awaited}
use Rattle.board_turns.proofs.Ends.{may_run, works_passed}
use Rattle.board_turns.proofs.Limiting.{alarm_next, at_limit, waits_at_limit, ready_halted}
use Rattle.board_turns.proofs.Standing.{done_all}
use Rattle.board_turns.proofs.PortSteps.{looked}
use Rattle.board_rules.proofs.Tries.{passes_load, passes_on}
use Rattle.board_turns.proofs.board.Board.halt_at_limit.Goals as goal

pub run-requires : goal.run-requires
run-requires g c = (
  omega arith,
  (
    let r = c.requires.stands in let first = r.1 in
        (r.0, first, r.2, r.3, r.4, may_run first r.2 r.5 (none_awaited (left_of first r.2) (ap awaits_motion r.7)), (c.has_piece.ensures first r.2 r.4).0 c.if-has_piece.true),
    (
      search rules,
      search rules,
    ),
  ),
)

pub returns-then-has_piece-clause-goes_on : goal.returns-then-has_piece-clause-goes_on
returns-then-has_piece-clause-goes_on g c rest first h stands k ready is next =
    c.run.ensures.goes_on rest first h stands k (may_run first h ready (none_awaited (left_of first h) (ap awaits_motion next))) ((c.has_piece.ensures first h k).0 c.if-has_piece.true)

pub returns-then-done-self-clause-goes_on : goal.returns-then-done-self-clause-goes_on
returns-then-done-self-clause-goes_on g c rest first h stands k ready is next =
    let s = c.args.self.now in
    let done = c.done.result in (
      at_port (loaded done) ∷ h,
      c.done.ensures.done rest first h stands k.conducted,
      waits_at_limit first s h done k ready is next (λ piece. absurd (let e = sym c.if-has_piece.false ∙ (c.has_piece.ensures first h k).1 piece in cc)) c.requires.unpublished c.requires.flags
          (c.done.ensures.known rest first h stands k.conducted) c.if-done-self.true,
    )

pub drop_plan-requires : goal.drop_plan-requires
drop_plan-requires g c = (
  omega arith,
  let r = c.requires.stands in let first = r.1 in
      let s = c.args.self.now in
      let done = c.done.result in
      let known = c.done.ensures.known r.0 first r.2 r.3 r.4.conducted in
      let none : HasPiece first r.2 → ⊥ = λ piece. absurd (let e = sym c.if-has_piece.false ∙ (c.has_piece.ensures first r.2 r.4).1 piece in cc) in
      (first, at_port (loaded done) ∷ r.2, looked first s done r.2 r.4 known, at_limit first s r.2 done r.4 r.6 r.7 none (done_all first s r.2 done r.4 known c.if-done-self.false)),
)

pub tell-requires : goal.tell-requires
tell-requires g c =
    let r = c.requires.stands in let first = r.1 in
    let s = c.args.self.now in
    let done = c.done.result in
    let mid = at_port (loaded done) ∷ r.2 in
    let known = c.done.ensures.known r.0 first r.2 r.3 r.4.conducted in
    let none : HasPiece first r.2 → ⊥ = λ piece. absurd (let e = sym c.if-has_piece.false ∙ (c.has_piece.ensures first r.2 r.4).1 piece in cc) in
    let n = c.drop_plan.ensures.halted first mid (looked first s done r.2 r.4 known) (at_limit first s r.2 done r.4 r.6 r.7 none (done_all first s r.2 done r.4 known c.if-done-self.false)) in (
      omega arith,
      (
        (r.0, first, n.0, rw n.2.alone.port (c.done.ensures.done r.0 first r.2 r.3 r.4.conducted), n.1, ready_halted first r.2 mid n.0 r.5 r.7 (passes_load first done r.2) refl n.2),
        (
          alarm_next first c.drop_plan.new.self r.2 mid n.0 n.1 refl n.2 (halting_left first r.2 r.4.conducted r.6 r.7),
          (
            ap (λ (b : Board _). b.published) c.drop_plan.ensures.same ∙ c.requires.unpublished,
            ap (λ (b : Board _). b.flags) c.drop_plan.ensures.same ∙ c.requires.flags,
          ),
        ),
      ),
    )

pub returns-clause-goes_on : goal.returns-clause-goes_on
returns-clause-goes_on g c rest first h stands k ready is next =
    let s = c.args.self.now in
    let done = c.done.result in
    let mid = at_port (loaded done) ∷ h in
    let known = c.done.ensures.known rest first h stands k.conducted in
    let none : HasPiece first h → ⊥ = λ piece. absurd (let e = sym c.if-has_piece.false ∙ (c.has_piece.ensures first h k).1 piece in cc) in
    let n = c.drop_plan.ensures.halted first mid (looked first s done h k known) (at_limit first s h done k is next none (done_all first s h done k known c.if-done-self.false)) in
    let old = g.P.EpochPort.stands c.tell.new.port rest first in
    let same = ap (λ (b : Board _). b.flags) c.drop_plan.ensures.same in
    let told = c.tell.ensures.goes_on rest first n.0 (rw n.2.alone.port (c.done.ensures.done rest first h stands k.conducted)) n.1 (ready_halted first h mid n.0 ready next (passes_load first done h) refl n.2) in
    subst (λ (f : Flags). WorksOn first old c.tell.result f c.tell.new.self h) same
    (works_passed first old c.tell.result c.drop_plan.new.self.flags c.tell.new.self h n.0 (passes_on first h mid n.0 (passes_load first done h) n.2.alone.passes) told)
