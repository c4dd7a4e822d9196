use Rattle.std.proofs.Common.{arith, sym, ap, ◌∙◌, subst}
use Rattle.board_turns.specs.declared.board.Board.{Board}
use Rattle.board_turns.specs.declared.board.Flags.TheVariants.{Both}
use Rattle.board_turns.specs.Turning.{HasTried}
use Rattle.board_turns.proofs.Steps.{other_flags}
use Rattle.board_turns.proofs.Owed.{waits_idle, waits_handed, sent_owing}
use Rattle.board_turns.proofs.board.Board.go_on_owing.Goals as goal

-- src/reports.rt:108:13
pub returns-then-not-has_piece-clause-goes_on : goal.returns-then-not-has_piece-clause-goes_on
returns-then-not-has_piece-clause-goes_on g c rest first h was stands k l =
    let s = c.args.self.now in (
      h,
      stands,
      waits_idle first s was h k l (λ has. absurd (let e = sym c.if-not-has_piece.true ∙ (c.has_piece.ensures first h (other_flags first s Both h k)).1 has in cc)) c.requires.unpublished,
      λ e. absurd cc,
    )

pub publish_next-published-requires : goal.publish_next-published-requires
publish_next-published-requires g c =
    let r = c.requires.stands in let first = r.1 in
    let k = other_flags first c.args.self.now Both r.2 r.4 in (
      omega arith,
      (r.0, first, r.2, r.3, k, (c.has_piece.ensures first r.2 k).0 c.if-not-has_piece.false, r.5.words, λ owed. r.5.back),
    )

-- src/reports.rt:111:9
pub fill-requires : goal.fill-requires
fill-requires g c = (
  omega arith,
  let r = c.requires.stands in let first = r.1 in
      let k = other_flags first c.args.self.now Both r.2 r.4 in
      let n = c.publish_next-published.ensures.goes_on r.0 first r.2 r.3 k ((c.has_piece.ensures first r.2 k).0 c.if-not-has_piece.false) r.5.words (λ owed. r.5.back) in
      (first, n.0, n.2),
)

-- src/reports.rt:113:13
pub returns-then-not-published-clause-goes_on : goal.returns-then-not-published-clause-goes_on
returns-then-not-published-clause-goes_on g c rest first h was stands k l =
    let both = other_flags first c.args.self.now Both h k in
    let n = c.publish_next-published.ensures.goes_on rest first h stands both ((c.has_piece.ensures first h both).0 c.if-not-has_piece.false) l.words (λ owed. l.back) in
    let f = c.fill.ensures.filled first n.0 n.2 in
    let unpublished = ap (λ (b : Board _). b.published) c.fill.ensures.same ∙ (ap (λ (b : Board _). b.published) c.publish_next-published.ensures.same ∙ c.requires.unpublished) in
    let flags = ap (λ (b : Board _). b.flags) c.fill.ensures.same ∙ ap (λ (b : Board _). b.flags) c.publish_next-published.ensures.same in
    let tried = subst (λ b. (HasTried first) b h n.0) c.if-not-published.true n.3 in
    (f.0, rw f.2.alone.port n.1, waits_handed first c.fill.new.self was h n.0 f.0 f.1 l tried f.2 unpublished flags, λ e. absurd cc)

-- src/reports.rt:99:5
pub returns-clause-goes_on : goal.returns-clause-goes_on
returns-clause-goes_on g c rest first h was stands k l =
    let both = other_flags first c.args.self.now Both h k in
    let n = c.publish_next-published.ensures.goes_on rest first h stands both ((c.has_piece.ensures first h both).0 c.if-not-has_piece.false) l.words (λ owed. l.back) in
    let f = c.fill.ensures.filled first n.0 n.2 in
    let tried = subst (λ b. (HasTried first) b h n.0) c.if-not-published.false n.3 in
    let w = sent_owing first c.fill.new.self was h n.0 f.0 f.1 l tried f.2 in
    (f.0, rw f.2.alone.port n.1, w.0, λ e. w.1)
