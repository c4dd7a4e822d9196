-- Which lines settle.
use Rattle.std.proofs.Common.{◌≡◌, Bool, true, false, not, cond, ◌&&◌, ◌||◌, List, [], ◌∷◌, ◌++◌, refl, ap, ◌∙◌}
use Rattle.gcode_check.specs.declared.Item.{Item}
use Rattle.gcode_check.specs.declared.Accept.{Accept as Accepted}
use Rattle.gcode_check.specs.Items.{is_move, settling}
use Rattle.run_rules.specs.Work.{Outcome, accepted_code, accepted_jog, has_moves}
use Rattle.run_rules.specs.Outcomes.{Before, executed, after}

last_is : (items : List Item) (last : Item) → settling (items ++ last ∷ []) ≡ not (is_move last)
last_is [] last = refl
last_is (item ∷ []) last = refl
last_is (item ∷ next ∷ items) last = last_is (next ∷ items) last

pub settles_by_last : (b : Before) (a : Accepted) (items : List Item) (last : Item) → a.items.items ≡ items ++ last ∷ [] → (executed b a).settles ≡ not (is_move last)
settles_by_last b a items last e = ap settling e ∙ last_is items last

pub none_settles : (b : Before) (a : Accepted) → a.items.items ≡ [] → (executed b a).settles ≡ false
none_settles b a e = ap settling e

stands : (settles more : Bool) → settles ≡ true → cond settles false more ≡ false
stands true more e = refl
stands false more e = absurd cc

pub still_behind : (b : Before) (o : Outcome) → o.settles ≡ true → ((after b o).moved ≡ false) × ((after b o).jog_moved ≡ false)
still_behind b o e = (stands o.settles (accepted_code o.kind && has_moves o.work || b.moved) e, stands o.settles (accepted_jog o.kind && has_moves o.work || b.jog_moved) e)
