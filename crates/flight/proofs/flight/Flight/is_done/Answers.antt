use Rattle.std.proofs.Common.{◌≡◌, true, false, Bool, not, sym, ◌∙◌, refl}
use Rattle.std.specs.Option.{is_some}
use Rattle.flight.proofs.Flying.{none_left, all_there}
use Rattle.flight.proofs.flight.Flight.is_done.Goals as goal

turned : (a b : Bool) → a ≡ not b → (a ≡ false → b ≡ true) × (b ≡ true → a ≡ false)
turned a true is = (λ none. refl, λ all. is)
turned a false is = (λ none. sym none ∙ is, λ all. is ∙ sym all)

pub returns : goal.returns
returns c = λ start published known is.
    let both = turned (is_some c.first.result) c.is_none.result c.is_none.ensures in (
      λ none. all_there start c.args.self.now published known is (c.first.ensures.none.0 (both.1 none)),
      λ all. both.0 (c.first.ensures.none.1 (none_left start c.args.self.now published known is all)),
    )
