use Rattle.std.proofs.Common.{◌≡◌, rules, to_z, of_z, w8}
use Rattle.step_record.proofs.Appended.{event_parts}
use Rattle.step_record.proofs.writing.push_axes.Goals as goal

pub returns-clause-text : goal.returns-clause-text
returns-clause-text g c =
    let bits = c.args.bits.now in
    let x : to_z w8 (of_z w8 bits.x) ≡ bits.x = search rules in
    let y : to_z w8 (of_z w8 bits.y) ≡ bits.y = search rules in
    let z : to_z w8 (of_z w8 bits.z) ≡ bits.z = search rules in
    event_parts bits _ _ _ _ _ _ _ _ x y z
    c.push_axis.ensures.text c.push_axis-2.ensures.text c.push_axis-3.ensures.text c.push.ensures.items
