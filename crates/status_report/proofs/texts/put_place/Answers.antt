use Rattle.std.proofs.Common.{◌≡◌, ◌≤◌, [], ◌∷◌, ◌++◌, length, ap, arith, rules, length-append}
use Rattle.units.specs.Fixed.{fixed3}
use Rattle.status_report.proofs.Pieces.{grown}
use Rattle.status_report.proofs.Short.{fixed_short}
use Rattle.status_report.proofs.texts.put_place.Goals as goal

pub returns-clause-text : goal.returns-clause-text
returns-clause-text c =
    let at = c.args.at.now in
    let x : c.put_fixed3.new.out.items ≡ c.args.out.now.items ++ fixed3 at.x = search rules in
    let y : c.put_fixed3-2.new.out.items ≡ c.append.new.out.items ++ fixed3 at.y = search rules in
    let z : c.put_fixed3-3.new.out.items ≡ c.append-2.new.out.items ++ fixed3 at.z = search rules in
    grown c.args.out.now.items (fixed3 at.x) ((44 ∷ []) ∷ fixed3 at.y ∷ (44 ∷ []) ∷ fixed3 at.z ∷ []) c.put_fixed3-3.new.out.items
    (_, x, (_, c.append.ensures.text, (_, y, (_, c.append-2.ensures.text, z))))

pub returns-clause-short : goal.returns-clause-short
returns-clause-short c = λ near.
    let at = c.args.at.now in
    let x : c.put_fixed3.new.out.items ≡ c.args.out.now.items ++ fixed3 at.x = search rules in
    let y : c.put_fixed3-2.new.out.items ≡ c.append.new.out.items ++ fixed3 at.y = search rules in
    let z : c.put_fixed3-3.new.out.items ≡ c.append-2.new.out.items ++ fixed3 at.z = search rules in
    let xs : length (fixed3 at.x) ≤ 15 = fixed_short at.x near.x in
    let ys : length (fixed3 at.y) ≤ 15 = fixed_short at.y near.y in
    let zs : length (fixed3 at.z) ≤ 15 = fixed_short at.z near.z in
    omega (arith, xs, ys, zs, c.append.ensures.room, c.append-2.ensures.room, simp length-append at (ap length x), simp length-append at (ap length y), simp length-append at (ap length z))

pub append-requires : goal.append-requires
append-requires c =
    let l1 = simp length-append at (ap length c.put_fixed3.ensures.text) in
    omega (arith, c.put_fixed3.ensures.short, l1)

pub put_fixed3-requires-2 : goal.put_fixed3-requires-2
put_fixed3-requires-2 c =
    let l1 = simp length-append at (ap length c.put_fixed3.ensures.text) in
    omega (arith, c.put_fixed3.ensures.short, l1, c.append.ensures.room)

pub append-requires-2 : goal.append-requires-2
append-requires-2 c =
    let l1 = simp length-append at (ap length c.put_fixed3.ensures.text) in
    let l2 = simp length-append at (ap length c.put_fixed3-2.ensures.text) in
    omega (arith, c.put_fixed3.ensures.short, c.put_fixed3-2.ensures.short, l1, l2, c.append.ensures.room)

pub put_fixed3-requires-3 : goal.put_fixed3-requires-3
put_fixed3-requires-3 c =
    let l1 = simp length-append at (ap length c.put_fixed3.ensures.text) in
    let l2 = simp length-append at (ap length c.put_fixed3-2.ensures.text) in
    omega (arith, c.put_fixed3.ensures.short, c.put_fixed3-2.ensures.short, l1, l2, c.append.ensures.room, c.append-2.ensures.room)

pub returns-clause-len : goal.returns-clause-len
returns-clause-len c =
    let l1 = simp length-append at (ap length c.put_fixed3.ensures.text) in
    let l2 = simp length-append at (ap length c.put_fixed3-2.ensures.text) in
    let l3 = simp length-append at (ap length c.put_fixed3-3.ensures.text) in
    omega (arith, c.put_fixed3.ensures.short, c.put_fixed3-2.ensures.short, c.put_fixed3-3.ensures.short, l1, l2, l3, c.append.ensures.room, c.append-2.ensures.room)
