use Rattle.std.proofs.Common.{◌+ℤ◌, ◌*ℤ◌, ap, ◌∙◌, rules, to_z, of_z}
use Rattle.std.proofs.lemmas.Int.{to_z-of_z}
use mir.Syntax.{w128}
use mir.Val.{SFits}
use Rattle.junction_speed.proofs.Products.{told, fits, sum_small, read_two, read_three}
use Rattle.junction_speed.proofs.dot.Goals as goal

pub overflow_add-result : goal.overflow_add-result
overflow_add-result c =
    let x = c.product-x.result in
    let y = c.product-y.result in
    rw (read_two x y c.product-x.ensures.small c.product-y.ensures.small)
    (fits (x +ℤ y) (sum_small x y c.product-z.result c.product-x.ensures.small c.product-y.ensures.small c.product-z.ensures.small).0)

three_fit : (c : goal.After-product-z) → SFits w128 (c.product-x.result +ℤ c.product-y.result +ℤ c.product-z.result)
three_fit c = fits _ (sum_small c.product-x.result c.product-y.result c.product-z.result c.product-x.ensures.small c.product-y.ensures.small c.product-z.ensures.small).1

pub overflow_add-result-2 : goal.overflow_add-result-2
overflow_add-result-2 c =
    rw (read_three c.product-x.result c.product-y.result c.product-z.result c.product-x.ensures.small c.product-y.ensures.small c.product-z.ensures.small) (three_fit c)

pub returns : goal.returns
returns c =
    let x = c.product-x.result in
    let y = c.product-y.result in
    let z = c.product-z.result in
    let three = read_three x y z c.product-x.ensures.small c.product-y.ensures.small c.product-z.ensures.small in
    let same = ap (λ t. to_z w128 (of_z w128 t)) three ∙ to_z-of_z w128 (x +ℤ y +ℤ z) (three_fit c) in
    let ex = told x c.args.prev.now.ux c.args.next.now.ux (search rules) (search rules) c.product-x.ensures.value in
    let ey = told y c.args.prev.now.uy c.args.next.now.uy (search rules) (search rules) c.product-y.ensures.value in
    let ez = told z c.args.prev.now.uz c.args.next.now.uz (search rules) (search rules) c.product-z.ensures.value in
    record {
      value = same
          ∙ ap (λ t. t +ℤ y +ℤ z) ex
          ∙ ap (λ t. c.args.prev.now.ux *ℤ c.args.next.now.ux +ℤ t +ℤ z) ey
          ∙ ap (λ t. c.args.prev.now.ux *ℤ c.args.next.now.ux +ℤ c.args.prev.now.uy *ℤ c.args.next.now.uy +ℤ t) ez;
      small = rw same (sum_small x y z c.product-x.ensures.small c.product-y.ensures.small c.product-z.ensures.small).1;
    }
