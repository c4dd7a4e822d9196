use Rattle.std.proofs.Common.{arith, ℕ, ◌+◌, ◌-◌, ◌∷◌, [], nat_eq, refl, ap}
use Rattle.std.proofs.lemmas.List.Sums.{count_by-le-length}
use Rattle.board_epochs.specs.Epochs.{closed_log, log_behind}
use Rattle.reset_work.proofs.Passing.{drop_byte, few_dropped}
use Rattle.reset_work.proofs.reset.ResetWork.drop_byte.Goals as goal

pub overflow_add-self-in-Byte : goal.overflow_add-self-in-Byte
overflow_add-self-in-Byte g c =
    let r = c.requires.stands in
    let i = r.6.working in
    let few = c.in-Byte.ensures.few c.in-Byte.byte refl r.0 _ r.6.port in
    let below = few_dropped c.args.self.now (log_behind (closed_log r.3) r.4) r.5 i.dropped_is i.taken_is in
    let taken = i.taken_is in
    let one = count_by-le-length (λ (b : ℕ). nat_eq b 10) (c.in-Byte.byte ∷ []) in
    let is = c.ends.ensures in
    omega (arith, few, below, taken, one, is)

pub returns-in-Byte-clause-goes_on : goal.returns-in-Byte-clause-goes_on
returns-in-Byte-clause-goes_on g c rest blocks state es h w b =
    drop_byte (g.P.BoardPort.stands c.args.port.now rest) (g.P.BoardPort.stands c.byte.new.self rest) c.args.self.now c.args.left (c.args.left - 1) c.in-Byte.byte _ _ blocks state es h w c.requires.stage (omega arith) c.requires.words
    refl (ap (λ (n : ℕ). c.args.self.now.dropped + n) c.ends.ensures) (c.in-Byte.ensures.few c.in-Byte.byte refl rest _ b.port) b (c.in-Byte.ensures.byte c.in-Byte.byte refl rest _ b.port)
