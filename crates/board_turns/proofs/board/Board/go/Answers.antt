use Rattle.std.proofs.Common.{rules, [], inl, refl, sym, ap, ◌∙◌, arith}
use Rattle.board_journal.specs.Steps.{left_of}
use Rattle.board_rules.proofs.Facts.{none_asked, uncounted}
use Rattle.step_line.specs.Asking.Asked.{a_move}
use Rattle.board_turns.specs.declared.board.Board.{Board}
use Rattle.board_turns.proofs.Ends.{did_filled, may_run, takes_none, free_of, free_passed}
use Rattle.board_turns.proofs.Nexts.{full_piece}
use Rattle.board_turns.proofs.board.Board.go.Goals as goal
use Rattle.board_turns.proofs.Starting.{full_is}

pub run-requires : goal.run-requires
run-requires g c = (
  omega arith,
  (
    let r = c.requires.stands in let first = r.1 in
        let full = sym (c.if-is_full.ensures ∙ full_is first c.args.self.now r.2 r.4) in (
          r.0,
          first,
          r.2,
          r.3,
          r.4,
          may_run first r.2 r.5 (none_asked (left_of first r.2) (a_move r.7.0) r.7.1),
          full_piece first r.2 r.4.conducted r.5.none_waits r.6 r.7 full,
        ),
    (
      search rules,
      search rules,
    ),
  ),
)

pub returns-then-is_full-clause-goes_on : goal.returns-then-is_full-clause-goes_on
returns-then-is_full-clause-goes_on g c = λ rest first h stands keeps ready goes move.
    let full = sym (c.if-is_full.ensures ∙ full_is first c.args.self.now h keeps) in
    c.run.ensures.goes_on rest first h stands keeps (may_run first h ready (none_asked (left_of first h) (a_move move.0) move.1))
    (full_piece first h keeps.conducted ready.none_waits goes move full)

pub returns-clause-goes_on : goal.returns-clause-goes_on
returns-clause-goes_on g c = λ rest first h stands keeps ready goes move.
    let n = c.fill.ensures.filled first h keeps in
    let few = ready.few (uncounted first h (none_asked (left_of first h) (a_move move.0) move.1)) in
    let quiet = ready.quiet.quiet in
    let room = sym (c.if-is_full.ensures ∙ full_is first c.args.self.now h keeps) in
    let unpublished = ap (λ (b : Board _). b.published) c.fill.ensures.same ∙ c.requires.unpublished in
    let none = ap (λ (b : Board _). b.flags) c.fill.ensures.same ∙ c.requires.flags in
    let taken = takes_none c.fill.new.self n.0 none (free_passed first h n.0 n.2.alone.passes (free_of h ready.quiet)) in
    (n.0, rw n.2.alone.port stands, did_filled first _ _ h h n.0 [] refl refl n.1 unpublished taken n.2 ready.quiet.worked (omega arith) ready.unpolled few (inl (n.2.moved move room)))
