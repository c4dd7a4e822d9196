use Rattle.std.proofs.Common.{length, rules, sym, ap, ◌∙◌}
use Rattle.serial_ring.specs.Logs.{taken_in, answered_in}
use Rattle.serial_ring.proofs.Steps.{starts, splits}
use Rattle.serial_ring.proofs.Turned.{host_begins, board_begins}
use Rattle.serial_ring.proofs.joined.link.Goals as goal

pub vacant-requires : goal.vacant-requires
vacant-requires g c = starts _ c.requires

pub split_seat-far-requires : goal.split_seat-far-requires
split_seat-far-requires g c = let made = c.in_ok-table.ensures.4 in
    (search rules, search rules, splits _ _ _ (ap (λ m. m.0.may_store) made) (ap (λ m. m.0.may_take) made))

pub invariant_of-host-clause-bare : goal.invariant_of-host-clause-bare
invariant_of-host-clause-bare g c = let host = host_begins _ _ c.in_ok-table.ensures.4 c.split_seat-far.ensures.2 in ap (λ m. m.1) host

pub invariant_of-host-clause-mine : goal.invariant_of-host-clause-mine
invariant_of-host-clause-mine g c = let host = host_begins _ _ c.in_ok-table.ensures.4 c.split_seat-far.ensures.2 in (ap (λ m. m.0.may_store) host, ap (λ m. m.0.emptying) host)

pub invariant_of-host-clause-replies : goal.invariant_of-host-clause-replies
invariant_of-host-clause-replies g c = let host = host_begins _ _ c.in_ok-table.ensures.4 c.split_seat-far.ensures.2 in sym (ap (λ m. length m.0.got) host)

pub invariant_of-host-clause-marked : goal.invariant_of-host-clause-marked
invariant_of-host-clause-marked g c = let host = host_begins _ _ c.in_ok-table.ensures.4 c.split_seat-far.ensures.2 in sym (ap (λ m. length m.0.marks) host)

pub invariant_of-board-clause-bare : goal.invariant_of-board-clause-bare
invariant_of-board-clause-bare g c = let board = board_begins _ _ c.in_ok-table.ensures.4 c.split_seat-far.ensures.4 in ap (λ m. m.1) board

pub invariant_of-board-clause-mine : goal.invariant_of-board-clause-mine
invariant_of-board-clause-mine g c = let board = board_begins _ _ c.in_ok-table.ensures.4 c.split_seat-far.ensures.4 in (ap (λ m. m.0.may_take) board, ap (λ m. m.0.filling) board)

pub invariant_of-board-clause-bytes : goal.invariant_of-board-clause-bytes
invariant_of-board-clause-bytes g c = let board = board_begins _ _ c.in_ok-table.ensures.4 c.split_seat-far.ensures.4 in sym (ap (λ m. length (taken_in m.0.log)) board)

pub invariant_of-board-clause-replies : goal.invariant_of-board-clause-replies
invariant_of-board-clause-replies g c = let board = board_begins _ _ c.in_ok-table.ensures.4 c.split_seat-far.ensures.4 in sym (ap (λ m. length (answered_in m.0.log)) board)

pub returns-clause-link : goal.returns-clause-link
returns-clause-link g c = c.split_seat-far.ensures.0 ∙ sym c.split_seat-far.ensures.3

pub returns-clause-fresh_host : goal.returns-clause-fresh_host
returns-clause-fresh_host g c = let host = host_begins _ _ c.in_ok-table.ensures.4 c.split_seat-far.ensures.2 in (ap (λ m. m.0.stored) host, ap (λ m. m.0.closed) host, ap (λ m. m.0.marks) host, ap (λ m. m.0.got) host, ap (λ m. m.0.greeted) host)

pub returns-clause-idle_host : goal.returns-clause-idle_host
returns-clause-idle_host g c = let host = host_begins _ _ c.in_ok-table.ensures.4 c.split_seat-far.ensures.2 in (ap (λ m. m.0.tail_loads) host, ap (λ m. m.0.tail) host, ap (λ m. m.0.reply_head_loads) host)

pub returns-clause-fresh_board : goal.returns-clause-fresh_board
returns-clause-fresh_board g c = let board = board_begins _ _ c.in_ok-table.ensures.4 c.split_seat-far.ensures.4 in (ap (λ m. m.0.log) board, ap (λ m. m.0.over) board)

pub returns-clause-idle_board : goal.returns-clause-idle_board
returns-clause-idle_board g c = let board = board_begins _ _ c.in_ok-table.ensures.4 c.split_seat-far.ensures.4 in (ap (λ m. m.0.head_loads) board, ap (λ m. m.0.head) board, ap (λ m. m.0.reply_tail_loads) board)
