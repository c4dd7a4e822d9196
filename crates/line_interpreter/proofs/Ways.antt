-- A move has events exactly where it ends elsewhere than it begins.
use Rattle.std.proofs.Common.{◌≡◌, Bool, true, false, not, ◌&&◌, ap, ◌∙◌, sym, refl, arith}
use Rattle.std.specs.Bool.{Decides}
use Rattle.std.specs.Ordering.{int_eq}
use Rattle.std.proofs.lemmas.Bool.Decides.{Decides-int_eq, Decides-and, Decides-like}
use Rattle.std.proofs.lemmas.Int.{ints}
use Rattle.units.specs.declared.Move.{Move}
use Rattle.units.specs.Counting.{events_of}

abbrev ends_there : Move → Bool
ends_there m = int_eq m.from.x m.to.x && (int_eq m.from.y m.to.y && int_eq m.from.z m.to.z)

none_then : (m : Move) → (m.from.x ≡ m.to.x) × ((m.from.y ≡ m.to.y) × (m.from.z ≡ m.to.z)) → events_of m ≡ 0
unfolding events_of
none_then m same = omega (arith, ints, same.0, same.1.0, same.1.1)

there_then : (m : Move) → events_of m ≡ 0 → (m.from.x ≡ m.to.x) × ((m.from.y ≡ m.to.y) × (m.from.z ≡ m.to.z))
unfolding events_of
there_then m none = (omega (arith, ints, none), (omega (arith, ints, none), omega (arith, ints, none)))

no_events : (m : Move) → Decides (ends_there m) (events_of m ≡ 0)
no_events m =
    let yz = Decides-and (int_eq m.from.y m.to.y) (int_eq m.from.z m.to.z) (Decides-int_eq m.from.y m.to.y) (Decides-int_eq m.from.z m.to.z) in
    let all = Decides-and (int_eq m.from.x m.to.x) (int_eq m.from.y m.to.y && int_eq m.from.z m.to.z) (Decides-int_eq m.from.x m.to.x) yz in
    Decides-like (ends_there m) (none_then m) (there_then m) all

pub goes_on : (m : Move) (goes : Bool) → goes ≡ not (ends_there m) → goes ≡ true → events_of m ≡ 0 → ⊥
goes_on m goes is on none = let there = (no_events m).1 none in let still = is ∙ ap not there in let e = sym on ∙ still in absurd cc

pub stays : (m : Move) (goes : Bool) → goes ≡ not (ends_there m) → goes ≡ false → events_of m ≡ 0
stays m goes is off = (no_events m).0 (by_test (ends_there m) (sym is ∙ off))
  where
    by_test : (b : Bool) → not b ≡ false → b ≡ true
    by_test true e = refl
    by_test false e = absurd cc
