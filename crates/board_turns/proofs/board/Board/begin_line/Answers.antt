use Rattle.std.proofs.Common.{arith, ap, ◌∙◌}
use Rattle.board_turns.specs.declared.board.Board.{Board}
use Rattle.board_turns.proofs.Begins.{looked_whole, begun_unowed, begun_untold, has_spoken, did_begin_line, port_begun}
use Rattle.board_turns.proofs.board.Board.begin_line.Goals as goal

pub look-requires : goal.look-requires
look-requires g c =
    let r = c.requires.stands in let first = r.1 in (
      omega arith,
      (r.0, first, r.2, r.3, r.4, r.6.goes),
    )

pub judge-requires : goal.judge-requires
judge-requires g c =
    let r = c.requires.stands in let first = r.1 in
    let seen = c.look.ensures.goes_on r.0 first r.2 r.3 r.4 r.6.goes in
    let mid = c.start_before_line.ensures.started first seen.0 seen.2 (looked_whole first r.2 seen.0 r.5 r.6 seen.3) in (
      omega arith,
      (
        (first, mid.0, mid.1, mid.2),
        ap (λ (b : Board _). b.resetting) c.start_before_line.ensures.same ∙ ap (λ (b : Board _). b.resetting) c.look.ensures.same ∙ c.requires.unreset,
      ),
    )

pub tell_first-requires : goal.tell_first-requires
tell_first-requires g c =
    let r = c.requires.stands in let first = r.1 in
    let seen = c.look.ensures.goes_on r.0 first r.2 r.3 r.4 r.6.goes in
    let mid = c.start_before_line.ensures.started first seen.0 seen.2 (looked_whole first r.2 seen.0 r.5 r.6 seen.3) in
    let line = c.judge.ensures.begun first mid.0 mid.1 mid.2 in
    let same = port_begun first line.0 mid.0 line.1 line.3 ∙ mid.3.port in (
      omega arith,
      (r.0, first, line.1, rw same seen.1, line.2, begun_unowed first line.0 mid.0 line.1 mid.2 line.3, begun_untold first line.0 mid.0 line.1 mid.2 line.3),
    )

pub fill-requires : goal.fill-requires
fill-requires g c = (
  omega arith,
  let r = c.requires.stands in let first = r.1 in
      let seen = c.look.ensures.goes_on r.0 first r.2 r.3 r.4 r.6.goes in
      let mid = c.start_before_line.ensures.started first seen.0 seen.2 (looked_whole first r.2 seen.0 r.5 r.6 seen.3) in
      let line = c.judge.ensures.begun first mid.0 mid.1 mid.2 in
      let same = port_begun first line.0 mid.0 line.1 line.3 ∙ mid.3.port in
      let told = c.tell_first.ensures.goes_on r.0 first line.1 (rw same seen.1) line.2 (begun_unowed first line.0 mid.0 line.1 mid.2 line.3) (begun_untold first line.0 mid.0 line.1 mid.2 line.3) in
      (first, told.0, told.2),
)

pub returns-clause-goes_on : goal.returns-clause-goes_on
returns-clause-goes_on g c = λ rest first h stands k ready whole.
    let seen = c.look.ensures.goes_on rest first h stands k whole.goes in
    let mid = c.start_before_line.ensures.started first seen.0 seen.2 (looked_whole first h seen.0 ready whole seen.3) in
    let line = c.judge.ensures.begun first mid.0 mid.1 mid.2 in
    let same = port_begun first line.0 mid.0 line.1 line.3 ∙ mid.3.port in
    let told = c.tell_first.ensures.goes_on rest first line.1 (rw same seen.1) line.2 (begun_unowed first line.0 mid.0 line.1 mid.2 line.3) (begun_untold first line.0 mid.0 line.1 mid.2 line.3) in
    let next = c.fill.ensures.filled first told.0 told.2 in
    let unpublished = ap (λ (b : Board _). b.published) c.fill.ensures.same ∙ ap (λ (b : Board _). b.published) c.tell_first.ensures.same ∙ ap (λ (b : Board _). b.published) c.judge.ensures.same
    ∙ ap (λ (b : Board _). b.published) c.start_before_line.ensures.same ∙ ap (λ (b : Board _). b.published) c.look.ensures.same ∙ c.requires.unpublished in
    let no_word = ap (λ (b : Board _). b.flags) c.fill.ensures.same ∙ ap (λ (b : Board _). b.flags) c.tell_first.ensures.same ∙ ap (λ (b : Board _). b.flags) c.judge.ensures.same
    ∙ ap (λ (b : Board _). b.flags) c.start_before_line.ensures.same ∙ ap (λ (b : Board _). b.flags) c.look.ensures.same ∙ c.requires.flags in (
      next.0,
      rw next.2.alone.port told.1,
      did_begin_line first c.args.self.now.flags c.fill.new.self h seen.0 mid.0 told.0 next.0 line.0 ready whole seen.3.passes mid.3 (has_spoken first line.0 mid.0 line.1 told.0 line.3 told.3) next.1 unpublished no_word next.2,
    )
