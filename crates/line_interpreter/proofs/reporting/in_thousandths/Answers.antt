use Rattle.std.proofs.Common.{◌≡◌, ◌≤◌, ℤ, nat_abs, sym, ◌∙◌, subst, to_z, of_z, w64, rules}
use Rattle.line_interpreter.proofs.Nearness.{near_one}
use Rattle.line_interpreter.proofs.reporting.in_thousandths.Goals as goal

told : {a b : ℤ} → a ≡ b → nat_abs b ≤ 1000000000000 → nat_abs a ≤ 1000000000000
told e near = subst (λ (r : ℤ). nat_abs r ≤ 1000000000000) (sym e) near

pub returns-clause-near : goal.returns-clause-near
returns-clause-near c = record {
  x =
      let e : to_z w64 (of_z w64 c.args.at.x) ≡ c.args.at.x = search rules in
      let r : to_z w64 (of_z w64 c.nm_to_thousandths.result) ≡ c.nm_to_thousandths.result = search rules in
      told (r ∙ c.nm_to_thousandths.ensures.thousandths) (near_one (to_z w64 (of_z w64 c.args.at.x)) (subst (λ (r : ℤ). nat_abs r ≤ 200000000000000) (sym e) c.requires.near.x));
  y =
      let e : to_z w64 (of_z w64 c.args.at.y) ≡ c.args.at.y = search rules in
      let r : to_z w64 (of_z w64 c.nm_to_thousandths-2.result) ≡ c.nm_to_thousandths-2.result = search rules in
      told (r ∙ c.nm_to_thousandths-2.ensures.thousandths) (near_one (to_z w64 (of_z w64 c.args.at.y)) (subst (λ (r : ℤ). nat_abs r ≤ 200000000000000) (sym e) c.requires.near.y));
  z =
      let e : to_z w64 (of_z w64 c.args.at.z) ≡ c.args.at.z = search rules in
      let r : to_z w64 (of_z w64 c.nm_to_thousandths-3.result) ≡ c.nm_to_thousandths-3.result = search rules in
      told (r ∙ c.nm_to_thousandths-3.ensures.thousandths) (near_one (to_z w64 (of_z w64 c.args.at.z)) (subst (λ (r : ℤ). nat_abs r ≤ 200000000000000) (sym e) c.requires.near.z));
}
