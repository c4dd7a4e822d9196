use Rattle.std.proofs.Common.{rules, [], ◌∷◌, refl, ap, ◌∙◌, arith}
use Rattle.board_journal.specs.Steps.{port_log}
use Rattle.board_journal.specs.Steps.Step.{at_port}
use Rattle.board_journal.specs.Ports.PortStep.{took, found_empty, found_closed}
use Rattle.board_rules.proofs.Greeted.{greeted_free}
use Rattle.board_turns.specs.declared.board.Board.{Board}
use Rattle.board_turns.proofs.PortSteps.{polled_empty, polled_closed}
use Rattle.board_turns.proofs.Ends.{works_on, free_of}
use Rattle.board_turns.proofs.Nexts.{took_worked, polled_none, polled_end}
use Rattle.board_turns.proofs.board.Board.take_byte.Goals as goal

pub without_byte-requires : goal.without_byte-requires
without_byte-requires g c = (
  omega arith,
  (
    let r = c.requires.stands in let first = r.1 in
        (r.0, first, at_port found_empty ∷ r.2, c.byte.ensures.empty c.in-Empty.is r.0 first (port_log r.2) r.3, polled_empty first c.args.self.now r.2 r.4 r.6, polled_none first r.2 r.5 r.6),
    (
      search rules,
      search rules,
    ),
  ),
)

pub close-requires : goal.close-requires
close-requires g c = (
  omega arith,
  (
    let r = c.requires.stands in let first = r.1 in
        (r.0, first, at_port found_closed ∷ r.2, c.byte.ensures.closed c.in-Closed.is r.0 first (port_log r.2) r.3, polled_closed first c.args.self.now r.2 r.4 r.6, polled_end first r.2 r.5 r.6, refl),
    (
      search rules,
      (
        search rules,
        search rules,
      ),
    ),
  ),
)

pub returns-in-Byte-clause-goes_on : goal.returns-in-Byte-clause-goes_on
returns-in-Byte-clause-goes_on g c = λ rest first h stands keeps ready may.
    let b = c.in-Byte.byte in
    let few = c.byte.ensures.few b c.in-Byte.is rest first (port_log h) stands in
    let kept = c.keep.ensures.kept first h keeps (record { polls = may; few = omega (arith, few) }) few in
    let takes = c.keep.ensures.flags first h (free_of h ready.quiet) (greeted_free first h keeps.conducted may.all_done) in
    let unpublished = ap (λ (s : Board _). s.published) c.keep.ensures.same ∙ c.requires.unpublished in
    (at_port (took b) ∷ h, c.byte.ensures.byte b c.in-Byte.is rest first (port_log h) stands, took_worked first c.args.self.now.flags _ b h kept takes ready may unpublished)

pub returns-in-Empty-clause-goes_on : goal.returns-in-Empty-clause-goes_on
returns-in-Empty-clause-goes_on g c = λ rest first h stands keeps ready may.
    works_on first (g.P.EpochPort.stands c.without_byte.new.port rest first) c.without_byte.result c.args.self.now.flags _ h (at_port found_empty ∷ h) (at_port found_empty ∷ []) refl refl (omega arith)
    (c.without_byte.ensures.goes_on rest first (at_port found_empty ∷ h) (c.byte.ensures.empty c.in-Empty.is rest first (port_log h) stands) (polled_empty first c.args.self.now h keeps may) (polled_none first h ready may) refl)

pub returns-in-Closed-clause-goes_on : goal.returns-in-Closed-clause-goes_on
returns-in-Closed-clause-goes_on g c = λ rest first h stands keeps ready may.
    works_on first (g.P.EpochPort.stands c.close.new.port rest first) c.close.result c.args.self.now.flags _ h (at_port found_closed ∷ h) (at_port found_closed ∷ []) refl refl (omega arith)
    (c.close.ensures.goes_on rest first (at_port found_closed ∷ h) (c.byte.ensures.closed c.in-Closed.is rest first (port_log h) stands) (polled_closed first c.args.self.now h keeps may) (polled_end first h ready may) refl)

pub keep-requires : goal.keep-requires
keep-requires g c =
    let r = c.requires.stands in let first = r.1 in
    let few = c.byte.ensures.few c.in-Byte.byte c.in-Byte.is r.0 first (port_log r.2) r.3 in
    let taken = r.4.taken_is in (
      omega arith,
      (
        c.requires.flags,
        omega (arith, few, taken),
      ),
    )
