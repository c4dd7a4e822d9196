use Rattle.std.proofs.Common.{◌≡◌, ◌≤◌, ◌+ℤ◌, ℤ, nat_abs, to_z, of_z, w64, ap, ◌∙◌, arith, lit<}
use Rattle.std.specs.Prelude.{option_map}
use Rattle.std.specs.declared.option.Option.{Option}
use Rattle.line_words.specs.Targets.{longest}
use Rattle.units.proofs.Kept.{kept, as_near}
use Rattle.line_words.proofs.axes.shifted.Goals as goal

further_is : (by : ℤ) (named r : Option ℤ) → nat_abs by ≤ longest → r ≡ option_map (λ v. v +ℤ to_z w64 (of_z w64 by)) named → r ≡ option_map (λ v. v +ℤ by) named
further_is by named r near e = e ∙ ap (λ (b : ℤ). option_map (λ v. v +ℤ b) named) (kept by (omega (arith, near)))

pub further-requires-clause-named : goal.further-requires-clause-named
further-requires-clause-named c = c.requires.named.x

pub further-requires-clause-by : goal.further-requires-clause-by
further-requires-clause-by c = as_near longest c.args.by.now.x (lit< tt) c.requires.by.x

pub further-requires-2-clause-named : goal.further-requires-2-clause-named
further-requires-2-clause-named c = c.requires.named.y

pub further-requires-2-clause-by : goal.further-requires-2-clause-by
further-requires-2-clause-by c = as_near longest c.args.by.now.y (lit< tt) c.requires.by.y

pub further-requires-3-clause-named : goal.further-requires-3-clause-named
further-requires-3-clause-named c = c.requires.named.z

pub further-requires-3-clause-by : goal.further-requires-3-clause-by
further-requires-3-clause-by c = as_near longest c.args.by.now.z (lit< tt) c.requires.by.z

pub returns : goal.returns
returns c =
    let x = further_is c.args.by.now.x c.args.named.now.x c.further.result c.requires.by.x c.further.ensures in
    let y = further_is c.args.by.now.y c.args.named.now.y c.further-2.result c.requires.by.y c.further-2.ensures in
    let z = further_is c.args.by.now.z c.args.named.now.z c.further-3.result c.requires.by.z c.further-3.ensures in
    λ i. record { x = x i; y = y i; z = z i }
