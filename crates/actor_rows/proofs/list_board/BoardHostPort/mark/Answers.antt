use Rattle.std.proofs.Common.{◌≡◌, ◌+◌, refl, arith}
use Rattle.actor_rows.proofs.Telling.{with_mark}
use Rattle.actor_rows.proofs.list_board.BoardHostPort.mark.Goals as goal

pub returns : goal.returns
returns g c = λ rest h t few.
    let same = c.note.ensures in
    let kept : c.note.new.self.marks ≡ c.args.self.now.marks = rw same refl in
    let more : c.saturating_add-self.result ≡ c.args.self.now.marks + 1 = (let marks = t.stored in let added = c.saturating_add-self.ensures in omega arith) in
    rw (more, same) (with_mark _ _ _ _ h t)
