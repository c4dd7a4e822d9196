use Rattle.std.proofs.Common.{◌≡◌, Bool, true, false, ◌&&◌, ◌==◌, nat_abs, w64, refl, sym, ap, ◌∙◌}
use Rattle.std.proofs.lemmas.Int.{to_z-of_z}
use Rattle.line_words.specs.LineModes.{motion_of}
use Rattle.line_words.specs.Targets.{moves}
use Rattle.gcode_check.specs.Conditions.{is_g1}
use Rattle.gcode_check.proofs.conditions.motion_without_feed.Goals.{then-moves, else-moves}
use Rattle.gcode_check.proofs.conditions.motion_without_feed.Goals as goal

both : (a b x : Bool) → a ≡ true → b ≡ true → x ≡ (a && b && x)
both a b x e f = rw (e, f) refl

first_fails : (a b x : Bool) → a ≡ false → false ≡ (a && b && x)
first_fails a b x e = rw e refl

second_fails : (a b x : Bool) → a ≡ true → b ≡ false → false ≡ (a && b && x)
second_fails a b x e f = rw (e, f) refl

not_both : (b : Bool) → b ≡ false → b ≡ true → ⊥
not_both b e f = cc

pub feed_of-requires : goal.feed_of-requires
feed_of-requires c = c.requires.valid

pub returns-then-is_g1 : goal.returns-then-is_g1
returns-then-is_g1 c =
    let p = c.args.p.now in
    let ws = c.args.line.now in
    let fits = to_z-of_z w64 c.feed_of.result (record { sfits = c.feed_of.type_inv }) in
    let zero = ap (λ n. n == 0) (c.unsigned_abs.ensures.value ∙ ap nat_abs (fits ∙ c.feed_of.ensures.feed)) in
    elim c.if-moves.branch [
      | then-moves w ↦ zero ∙ both (moves ws) (is_g1 (motion_of p ws)) _ (sym c.moves.ensures ∙ w.if-moves.true) (ap is_g1 (sym c.requires.motion) ∙ sym w.is_g1.ensures ∙ sym w.value-is ∙ c.if-is_g1.true)
      | else-moves w ↦ absurd (not_both _ (w.value-is ∙ w.if-moves.false) c.if-is_g1.true)
    ]

pub returns-else-is_g1 : goal.returns-else-is_g1
returns-else-is_g1 c =
    let p = c.args.p.now in
    let ws = c.args.line.now in
    elim c.if-moves.branch [
      | then-moves w ↦ c.if-is_g1.false ∙ second_fails (moves ws) (is_g1 (motion_of p ws)) _ (sym c.moves.ensures ∙ w.if-moves.true) (ap is_g1 (sym c.requires.motion) ∙ sym w.is_g1.ensures ∙ sym w.value-is ∙ c.if-is_g1.false)
      | else-moves w ↦ c.if-is_g1.false ∙ first_fails (moves ws) (is_g1 (motion_of p ws)) _ (sym c.moves.ensures ∙ w.if-moves.false)
    ]
