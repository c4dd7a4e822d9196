use Rattle.std.proofs.Common.{sym, ◌∙◌}
use Rattle.board_epochs.specs.Epochs.{closed_log, last_line, log_behind, opening_behind}
use Rattle.reset_work.proofs.tests.answers.Goals as goal

pub turn-requires : goal.turn-requires
turn-requires c =
    let r = c.requires in
    let over = c.is_worked.ensures (last_line (opening_behind r.0 r.1 r.2) r.3) (log_behind (closed_log r.2) r.3) r.4 r.5.working r.5.between in
    record { stands = (tt, r.0, r.1, r.2, r.3, r.4, r.5, λ worked. absurd (let e = sym c.if-is_worked.false ∙ over.1 worked in cc)) }

pub returns : goal.returns
returns c =
    let r = c.requires in
    let over = c.is_worked.ensures (last_line (opening_behind r.0 r.1 r.2) r.3) (log_behind (closed_log r.2) r.3) r.4 r.5.working r.5.between in
    let n = c.turn.ensures.goes_on tt r.0 r.1 r.2 r.3 r.4 r.5 (λ worked. absurd (let e = sym c.if-is_worked.false ∙ over.1 worked in cc)) in
    (r.0, r.1, r.2, r.3, n.0, n.1)
