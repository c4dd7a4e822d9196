use Rattle.std.proofs.Common.{arith, ◌≡◌, ◌↔◌, ℕ, Bool, true, false, [], refl, sym, subst, ap, ◌∙◌}
use Rattle.board_rules.specs.Turns.{tells_next}
use Rattle.board_turns.specs.declared.board.Board.{Board}
use Rattle.board_turns.specs.declared.board.Flags.{Flags}
use Rattle.board_turns.specs.Boards.{BoardIsOver, TakesFlags}
use Rattle.board_turns.specs.Turning.{WorksOn}
use Rattle.board_turns.proofs.Ends.{works_on}
use Rattle.board_turns.proofs.Over.{over_worked}
use Rattle.board_turns.proofs.Resetting.{unreset_between}
use Rattle.board_turns.proofs.board.Board.work.Goals as goal

-- a board that is not over, and has nothing left to do, has not closed its run
open_still : {N : ℕ} (s : Board N) (over : Bool) → ((over ≡ true) ↔ BoardIsOver s) → over ≡ false → s.lines.left ≡ [] → s.closing ≡ false
open_still s over is none left = by_closing s.closing refl
  where
    by_closing : (b : Bool) → s.closing ≡ b → s.closing ≡ false
    by_closing true e = absurd (let x = sym none ∙ is.1 (record { closing = e; none = left }) in cc)
    by_closing false e = e

pub returns-then-is_closed-clause-goes_on : goal.returns-then-is_closed-clause-goes_on
returns-then-is_closed-clause-goes_on g c = λ rest first h stands f between. (h, stands, over_worked first c.args.self.now h f between (c.is_closed.ensures.0 c.if-is_closed.true))

pub obey-requires : goal.obey-requires
obey-requires g c = (
  omega arith,
  (
    c.requires.stands,
    c.in_default.not-None,
  ),
)

pub returns-in_default-clause-goes_on : goal.returns-in_default-clause-goes_on
returns-in_default-clause-goes_on g c = λ rest first h stands f between. c.obey.ensures.goes_on rest first h stands f between

pub publish_first-requires : goal.publish_first-requires
publish_first-requires g c = (
  omega arith,
  (
    c.requires.stands,
    c.in-None.is,
  ),
)

pub returns-then-publish_first-clause-goes_on : goal.returns-then-publish_first-clause-goes_on
returns-then-publish_first-clause-goes_on g c = λ rest first h stands f between. c.publish_first.ensures.published rest first h stands f between c.if-publish_first.true

pub serve_lines-requires : goal.serve_lines-requires
serve_lines-requires g c =
    let r = c.requires.stands in let first = r.1 in
    let s = c.args.self.now in
    let n = c.publish_first.ensures.none r.0 first r.2 r.3 r.4 r.5 c.if-publish_first.false in
    let same = c.publish_first.ensures.same c.if-publish_first.false in
    let free = subst (λ x. TakesFlags x r.2) c.in-None.is r.4.flags in (
      omega arith,
      (
        (r.0, first, n.0, n.1, n.2, n.3.ready),
        (
          subst (λ (b : Board _). b.lines.left ≡ [] → b.closing ≡ false) (sym same) (open_still s c.is_closed.result c.is_closed.ensures c.if-is_closed.false),
          (
            c.publish_first.ensures.unpublished c.if-publish_first.false,
            (
              ap (λ (b : Board _). b.flags) same ∙ c.in-None.is,
              subst (λ (b : Board _). tells_next b.lines.left ≡ false → b.resetting ≡ false) (sym same) (unreset_between first s r.2 r.4.keeps r.5 free.unowed),
            ),
          ),
        ),
      ),
    )

pub returns-clause-goes_on : goal.returns-clause-goes_on
returns-clause-goes_on g c = λ rest first h stands f between.
    let n = c.publish_first.ensures.none rest first h stands f between c.if-publish_first.false in
    let was = c.publish_first.new.self.flags in
    let old = g.P.EpochPort.stands c.serve_lines.new.port rest first in
    subst (λ (x : Flags). WorksOn first old c.serve_lines.result x c.serve_lines.new.self h) (ap (λ (b : Board _). b.flags) (c.publish_first.ensures.same c.if-publish_first.false))
    (works_on first old c.serve_lines.result was c.serve_lines.new.self h n.0 n.3.steps n.3.are n.3.inner (n.3.number was) (c.serve_lines.ensures.goes_on rest first n.0 n.1 n.2 n.3.ready))
