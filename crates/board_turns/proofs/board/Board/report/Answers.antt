use Rattle.std.proofs.Common.{arith, rules, ap, ◌∙◌, subst}
use Rattle.board_turns.specs.declared.board.Board.{Board}
use Rattle.board_turns.specs.Reporting.{IsReported, obeying}
use Rattle.board_turns.proofs.Telling.{may_obey_now}
use Rattle.board_turns.proofs.Owed.{lacks_room, stands_behind, behind_word, did_report, went_on}
use Rattle.board_turns.proofs.board.Board.report.Goals as goal

-- src/reports.rt:132:13
pub go_on_owing-requires : goal.go_on_owing-requires
go_on_owing-requires g c = (
  omega arith,
  (
    let r = c.requires.stands in let first = r.1 in
        let word = c.args.word in
        let t = c.tell_report-told.ensures.goes_on r.0 first r.2 r.3 r.4 r.5 in (
          r.0,
          first,
          obeying first word t.0,
          stands_behind first (λ l. g.P.EpochPort.stands c.tell_report-told.new.port r.0 first l) word t.0 t.1,
          c.obey_waiting.ensures.goes_on first t.0 t.2 (may_obey_now first c.tell_report-told.new.self c.tell_report-told.result word t.0 t.2 t.3),
          lacks_room first word t.0 (subst (λ b. (IsReported first) b word t.0) c.if-not-told.true t.3),
        ),
    search rules,
  ),
)

-- src/reports.rt:132:13
pub returns-then-not-told-clause-goes_on : goal.returns-then-not-told-clause-goes_on
returns-then-not-told-clause-goes_on g c rest first h was stands k to =
    let word = c.args.word in
    let t = c.tell_report-told.ensures.goes_on rest first h stands k to in
    let mid = obeying first word t.0 in
    let n = c.go_on_owing.ensures.goes_on rest first mid was (stands_behind first (λ l. g.P.EpochPort.stands c.tell_report-told.new.port rest first l) word t.0 t.1)
    (c.obey_waiting.ensures.goes_on first t.0 t.2 (may_obey_now first c.tell_report-told.new.self c.tell_report-told.result word t.0 t.2 t.3)) (lacks_room first word t.0 (subst (λ b. (IsReported first) b word t.0) c.if-not-told.true t.3)) in
    (n.0, n.1, went_on first c.go_on_owing.result c.go_on_owing.new.self was h mid n.0 (behind_word first word h t.0 t.4) n.2 n.3)

-- src/reports.rt:122:5
pub returns-clause-goes_on : goal.returns-clause-goes_on
returns-clause-goes_on g c rest first h was stands k to =
    let word = c.args.word in
    let t = c.tell_report-told.ensures.goes_on rest first h stands k to in
    let unpublished = ap (λ (b : Board _). b.published) c.obey_waiting.ensures.same ∙ (ap (λ (b : Board _). b.published) c.tell_report-told.ensures.same ∙ c.requires.unpublished) in (
      obeying first word t.0,
      stands_behind first (λ l. g.P.EpochPort.stands c.tell_report-told.new.port rest first l) word t.0 t.1,
      did_report first c.obey_waiting.new.self was word h t.0 (c.obey_waiting.ensures.goes_on first t.0 t.2 (may_obey_now first c.tell_report-told.new.self c.tell_report-told.result word t.0 t.2 t.3)) (subst (λ b. (IsReported first) b word t.0) c.if-not-told.false t.3) t.4 unpublished,
    )
