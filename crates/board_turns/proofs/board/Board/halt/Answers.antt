use Rattle.std.proofs.Common.{arith, rules, sym, ◌∙◌}
use Rattle.board_turns.proofs.Halting.{may_run_halted}
use Rattle.board_turns.proofs.board.Board.halt.Goals as goal

pub run-requires : goal.run-requires
run-requires g c = (
  omega arith,
  (
    let r = c.requires.stands in let first = r.1 in (r.0, first, r.2, r.3, r.4, may_run_halted first r.2 r.5, (c.has_piece.ensures first r.2 r.4).0 c.if-has_piece.true),
    (
      search rules,
      search rules,
    ),
  ),
)

pub returns-then-has_piece-clause-goes_on : goal.returns-then-has_piece-clause-goes_on
returns-then-has_piece-clause-goes_on g c rest first h stands k halted = c.run.ensures.goes_on rest first h stands k (may_run_halted first h halted) ((c.has_piece.ensures first h k).0 c.if-has_piece.true)

pub await_resume-requires : goal.await_resume-requires
await_resume-requires g c = (
  omega arith,
  (
    let r = c.requires.stands in let first = r.1 in
        (r.0, first, r.2, r.3, r.4, r.5, λ piece. absurd (let e = sym c.if-has_piece.false ∙ (c.has_piece.ensures first r.2 r.4).1 piece in cc)),
    (
      c.is_held.ensures.0 c.if-is_held.true,
      (
        search rules,
        search rules,
      ),
    ),
  ),
)

pub returns-then-is_held-clause-goes_on : goal.returns-then-is_held-clause-goes_on
returns-then-is_held-clause-goes_on g c rest first h stands k halted =
    c.await_resume.ensures.goes_on rest first h stands k halted (λ piece. absurd (let e = sym c.if-has_piece.false ∙ (c.has_piece.ensures first h k).1 piece in cc))

pub await_stop-requires : goal.await_stop-requires
await_stop-requires g c = (
  omega arith,
  (
    let r = c.requires.stands in let first = r.1 in
        (r.0, first, r.2, r.3, r.4, r.5, λ piece. absurd (let e = sym c.if-has_piece.false ∙ (c.has_piece.ensures first r.2 r.4).1 piece in cc)),
    (
      λ held. absurd (let e = sym c.if-is_held.false ∙ c.is_held.ensures.1 held in cc),
      (
        search rules,
        search rules,
      ),
    ),
  ),
)

pub returns-clause-goes_on : goal.returns-clause-goes_on
returns-clause-goes_on g c rest first h stands k halted =
    c.await_stop.ensures.goes_on rest first h stands k halted (λ piece. absurd (let e = sym c.if-has_piece.false ∙ (c.has_piece.ensures first h k).1 piece in cc))
