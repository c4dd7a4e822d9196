use Rattle.std.proofs.Common.{◌≡◌, ◌∙◌, ◌+◌, ℕ, sym, ap, subst, arith}
use Rattle.run_rules.specs.declared.State.{State}
use Rattle.board_turns.specs.declared.board.Board.{Board}
use Rattle.board_turns.specs.Boards.{EpochFits}
use Rattle.board_epochs.specs.Epochs.{next_opening}
use Rattle.std.specs.Prelude.{[]}
use Rattle.board_turns.proofs.Flying.{learned_all}
use Rattle.board_turns.proofs.Opening.{few_lines, lines_behind, opens_behind_reset}
use Rattle.board_turns.proofs.board.Board.open_behind.Goals as goal

pub open_behind-requires-clause-few : goal.open_behind-requires-clause-few
open_behind-requires-clause-few g c =
    let r = c.requires in
    let few = few_lines r.0 r.1 r.2 r.3 c.args.self.now c.args.dropped r.4.keeps r.8 r.9 in
    let one = c.from.ensures in omega (arith, few, one)

pub returns : goal.returns
returns g c = λ base first h w fits may halts done drops few.
    let at_is = c.place-at.ensures.place first.place _ c.args.halted (learned_all first c.args.self.now.flight c.learn.new.self c.args.halted h fits.keeps.conducted fits.keeps.flight done (c.learn.ensures.flies first.place)) in
    let lines_are : c.open_behind.new.self ≡ _ = c.open_behind.ensures
    ∙ ap (λ (s : State). lines_behind c.place-at.result s (c.args.self.now.lines.number + (c.args.dropped + c.from.result)) c.reset-moving.result c.is_locked.result) c.state.ensures.is
    ∙ ap (λ (n : ℕ). lines_behind c.place-at.result c.args.self.now.answered (c.args.self.now.lines.number + (c.args.dropped + n)) c.reset-moving.result c.is_locked.result) c.from.ensures in
    subst (λ (b : Board _). EpochFits (next_opening base first h w) b []) (sym c.forget.ensures.same)
    (opens_behind_reset base first h w c.args.self.now c.args.halted c.args.dropped c.place-at.result c.reset-moving.new.self c.reset-moving.result c.is_locked.result c.open_behind.new.self c.forget.new.self.input c.starting_at-self.result c.behind-self.result
    fits may halts drops few at_is c.reset-moving.ensures.moving c.reset-moving.ensures.runs c.is_locked.ensures lines_are c.forget.ensures.input c.starting_at-self.ensures c.behind-self.ensures)
