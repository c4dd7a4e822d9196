-- Less waits behind each call of the sink.
use Rattle.std.proofs.Common.{◌≡◌, ℕ, ◌<◌, inl, inr, Bool, true, false, not, ◌&&◌, nat_lt, length, drop, length-drop, arith}
use Rattle.std.proofs.lemmas.Bool.Decides.{nat_tests}
use Rattle.outside.specs.Causes.{SinkState}
use Rattle.text_writer.specs.Writers.{Writing, Writes, WroteOnce}

some_waits : (f : Bool) (n : ℕ) (b : Bool) → (not f && (nat_lt 0 n && b)) ≡ true → 0 < n
some_waits true n b e = absurd cc
some_waits false n b e = grind (arith, nat_tests)

pub writes_some : (v : Writing) → Writes v → 0 < length v.waiting
writes_some v w = some_waits v.failed (length v.waiting) _ w

pub less_written : (v w : Writing) (s t : SinkState) → Writes v → WroteOnce v w s t → length w.waiting < length v.waiting
less_written v w s t due (inl some) =
    let few : length (drop some.count v.waiting) < length v.waiting = omega (arith, length-drop some.count v.waiting, some.some, some.within) in
    rw some.left few
less_written v w s t due (inr failure) = let some = writes_some v due in rw failure.left some
