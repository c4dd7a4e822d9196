use Rattle.std.proofs.Common.{◌≡◌, ◌-◌, ℕ, List, false, length, take, drop, sym, subst, arith, length-drop}
use Rattle.std.proofs.lemmas.List.{take_all}
use Rattle.outside.specs.Writing.{Wrote}
use Rattle.outside.proofs.Written.{some_taken}
use Rattle.outside.proofs.writing.write_text.Goals as goal

pub loop-rest-preserved : goal.loop-rest-preserved
loop-rest-preserved g c =
    let rest = c.loop-rest.rest.now in
    let n = c.in_ok-count.count in
    let taken = some_taken (g.S.Sink.state c.args.sink.now) (g.S.Sink.state c.loop-rest.sink) (g.S.Sink.state c.write.new.self) rest c.args.text.now n
    c.loop-rest.invariant c.in_ok-count.ensures.bytes c.in_ok-count.ensures.faultless in
    let tail : take (length rest - n) (drop n rest) ≡ drop n rest = take_all (length rest - n) (drop n rest) (omega (arith, length-drop n rest)) in
    subst (λ (w : List ℕ). Wrote (g.S.Sink.state c.args.sink.now) (g.S.Sink.state c.write.new.self) false w c.args.text.now) (sym tail) taken
