use Rattle.std.proofs.Common.{arith, rules, sym, subst}
use Rattle.board_turns.proofs.Owed.{flies_asked, room_known, may_tell, Reports, reports}
use Rattle.board_turns.proofs.board.Board.tell_report.Goals as goal

pub room-buffer-requires : goal.room-buffer-requires
room-buffer-requires g c =
    let r = c.requires.stands in
    let first = r.1 in
    let n = c.observe.ensures.goes_on r.0 first r.2 r.3 r.4 in (
      omega arith,
      (r.0, first, n.0, n.1, n.2),
    )

-- src/reports.rt:91:13
pub report_now-report-requires : goal.report_now-report-requires
report_now-report-requires g c = (
  omega arith,
  (
    let r = c.requires.stands in let first = r.1 in
        let n = c.observe.ensures.goes_on r.0 first r.2 r.3 r.4 in
        let m = c.room-buffer.ensures.goes_on r.0 first n.0 n.1 n.2 in
        (first, m.0, m.2, flies_asked first c.observe.new.self c.room-buffer.result n.0 m.0 n.4 m.3),
    search rules,
  ),
)

-- src/reports.rt:92:20
pub answer-requires : goal.answer-requires
answer-requires g c =
    let r = c.requires.stands in let first = r.1 in
    let s = c.observe.new.self in
    let buffer = c.room-buffer.result in
    let n = c.observe.ensures.goes_on r.0 first r.2 r.3 r.4 in
    let m = c.room-buffer.ensures.goes_on r.0 first n.0 n.1 n.2 in
    let told = c.report_now-report.ensures.told first m.0 m.2 (flies_asked first s buffer n.0 m.0 n.4 m.3) (room_known first buffer n.0 m.0 m.3) in
    (r.0, first, m.0, m.1, may_tell first s c.report_now-report.result m.0 m.2 told)

-- src/reports.rt:83:5
pub returns-clause-goes_on : goal.returns-clause-goes_on
returns-clause-goes_on g c rest first h stands k to =
    let s = c.observe.new.self in
    let buffer = c.room-buffer.result in
    let n = c.observe.ensures.goes_on rest first h stands k in
    let m = c.room-buffer.ensures.goes_on rest first n.0 n.1 n.2 in
    let told = c.report_now-report.ensures.told first m.0 m.2 (flies_asked first s buffer n.0 m.0 n.4 m.3) (room_known first buffer n.0 m.0 m.3) in
    let r = reports first g.P.EpochPort.Rest (λ x o l. g.P.EpochPort.stands c.room-buffer.new.port x o l) (λ x o l. g.P.EpochPort.stands c.answer.new.self x o l) rest c.answer.result s c.args.word buffer
    c.report_now-report.result h n.0 m.0 to n.3 m.3 m.2 told m.1 c.answer.ensures.ok c.answer.ensures.full in
    subst (λ b. (Reports first) (λ l. g.P.EpochPort.stands c.answer.new.self rest first l) b s c.args.word h) (sym c.is_ok-told.ensures.value) r

pub observe-requires : goal.observe-requires
observe-requires g c =
    let r = c.requires.stands in let first = r.1 in (
      omega arith,
      (r.0, first, r.2, r.3, r.4),
    )
