use Rattle.std.proofs.Common.{arith, ◌≡◌, false, [], refl, subst, ap, ◌∙◌}
use Rattle.board_turns.specs.declared.board.Board.{Board}
use Rattle.board_journal.specs.Steps.{Journal}
use Rattle.board_turns.specs.declared.board.Flags.{Flags}
use Rattle.board_turns.specs.declared.board.Flags.TheVariants as words
use Rattle.board_turns.specs.Boards.{Rounds, IsFree, TakesFlags}
use Rattle.board_turns.specs.Turning.{HasTried}
use Rattle.board_turns.proofs.Ends.{number_tried, may_try_first, ready_tried, sent}
use Rattle.board_turns.proofs.Nexts.{ready_now}
use Rattle.board_turns.proofs.PortSteps.{reports_none}
use Rattle.board_turns.proofs.Steps.{other_published}
use Rattle.board_turns.proofs.board.Board.publish_first.Goals as goal

is_free : (f : Flags) (h : Journal) → f ≡ words.None → TakesFlags f h → IsFree h
is_free f h none takes = subst (λ x. TakesFlags x h) none takes

pub publish_next-requires : goal.publish_next-requires
publish_next-requires g c =
    let r = c.requires.stands in let first = r.1 in
    let piece = c.begins_with_piece.ensures.yes first r.2 r.4.keeps c.if-not-begins_with_piece.false in
    let free = is_free c.args.self.now.flags r.2 c.requires.flags r.4.flags in (
      omega arith,
      (r.0, first, r.2, r.3, r.4.keeps, piece.1, free.obeyed, reports_none r.2 free.unowed),
    )

pub fill-requires : goal.fill-requires
fill-requires g c = (
  omega arith,
  let r = c.requires.stands in let first = r.1 in
      let piece = c.begins_with_piece.ensures.yes first r.2 r.4.keeps c.if-not-begins_with_piece.false in
      let free = is_free c.args.self.now.flags r.2 c.requires.flags r.4.flags in
      let n = c.publish_next.ensures.goes_on r.0 first r.2 r.3 r.4.keeps piece.1 free.obeyed (reports_none r.2 free.unowed) in
      (first, n.0, n.2),
)

pub returns-then-not-begins_with_piece-clause-none : goal.returns-then-not-begins_with_piece-clause-none
returns-then-not-begins_with_piece-clause-none g c = λ rest first h stands f between is.
    let s = c.args.self.now in
    let free = is_free s.flags h c.requires.flags f.flags in (
      h,
      stands,
      other_published first s false h f.keeps,
      record {
        ready = ready_now first s.published h f.rounds between free (c.begins_with_piece.ensures.no first h f.keeps c.if-not-begins_with_piece.true);
        steps = [];
        are = refl;
        inner = refl;
        number = λ was. omega arith;
      },
    )

pub returns-then-not-publish_next-clause-none : goal.returns-then-not-publish_next-clause-none
returns-then-not-publish_next-clause-none g c = λ rest first h stands f between is.
    let s = c.args.self.now in
    let free = is_free s.flags h c.requires.flags f.flags in
    let piece = c.begins_with_piece.ensures.yes first h f.keeps c.if-not-begins_with_piece.false in
    let n = c.publish_next.ensures.goes_on rest first h stands f.keeps piece.1 free.obeyed (reports_none h free.unowed) in
    let tried = subst (λ b. (HasTried first) b h n.0) c.if-not-publish_next.true n.3 in (
      n.0,
      n.1,
      n.2,
      record {
        ready = ready_tried first h n.0 (subst (λ b. (Rounds first) b h) piece.0 f.rounds) between free tried;
        steps = tried.steps;
        are = tried.are;
        inner = tried.inner;
        number = λ was. number_tried first was false h n.0 tried;
      },
    )

pub returns-then-not-publish_next-clause-unpublished : goal.returns-then-not-publish_next-clause-unpublished
returns-then-not-publish_next-clause-unpublished g c = λ is.
    let r = c.requires.stands in
    ap (λ (b : Board _). b.published) c.publish_next.ensures.same ∙ (c.begins_with_piece.ensures.yes r.1 r.2 r.4.keeps c.if-not-begins_with_piece.false).0

pub returns-clause-published : goal.returns-clause-published
returns-clause-published g c = λ rest first h stands f between is.
    let s = c.args.self.now in
    let free = is_free s.flags h c.requires.flags f.flags in
    let piece = c.begins_with_piece.ensures.yes first h f.keeps c.if-not-begins_with_piece.false in
    let n = c.publish_next.ensures.goes_on rest first h stands f.keeps piece.1 free.obeyed (reports_none h free.unowed) in
    let m = c.fill.ensures.filled first n.0 n.2 in
    let tried = subst (λ b. (HasTried first) b h n.0) c.if-not-publish_next.false n.3 in
    let may = may_try_first first h (subst (λ b. (Rounds first) b h) piece.0 f.rounds) between free in
    let none = ap (λ (b : Board _). b.flags) c.fill.ensures.same ∙ (ap (λ (b : Board _). b.flags) c.publish_next.ensures.same ∙ c.requires.flags) in
    (m.0, rw m.2.alone.port n.1, sent first s.flags c.fill.new.self h n.0 m.0 may free tried m.2 m.1 none)
