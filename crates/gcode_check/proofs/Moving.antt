-- The state behind a line, part by part.
use Rattle.std.proofs.Common.{◌≡◌, ℕ, ◌+◌, ◌<◌, ◌≤◌, true, false, List, [], ◌∷◌, ◌++◌, length, get_or, map, take, ℤ, refl, sym, ◌∙◌, ap, arith, length-take, IfSome}
use Rattle.std.specs.List.{All}
use Rattle.std.proofs.lemmas.List.{length-map, map_more, take_all}
use Rattle.std.proofs.lemmas.List.Elements.{All-push}
use Rattle.units.specs.Lengths.{IsPlace}
use Rattle.units.specs.declared.Nm3.{Nm3}
use Rattle.units.specs.declared.Per3.{Per3}
use Rattle.units.specs.declared.Steps3.{Steps3}
use Rattle.gcode_words.specs.declared.Word.{Word}
use Rattle.code_table.specs.Tables.{code}
use Rattle.modal_state.specs.declared.Modal.{Modal}
use Rattle.modal_state.specs.declared.Offsets.{Offsets}
use Rattle.modal_state.specs.declared.Parser.{Parser}
use Rattle.modal_state.specs.Modes.{IsParser, IsOffsets, IsWithin, farthest, origin_nm}
use Rattle.line_words.specs.Codes.{has_g}
use Rattle.line_words.specs.LineModes.{feed_of, rpm_of, tool_of}
use Rattle.travel_limits.specs.Reach.{IsNear, steps3}
use Rattle.gcode_check.specs.NewOffsets.{set_system, new_system_offset, new_g92, new_offset}
use Rattle.gcode_check.specs.Effects.{modal_after, with_offset, offsets_after, last_of, parser_moved}

-- ---- the offsets

pub with_system : (p : Parser) (ws : List Word) (system : ℕ) (at : Nm3) (offsets : Offsets) → has_g (code 10 0) ws ≡ true → system ≡ set_system p ws → at ≡ new_system_offset p ws
    → offsets ≡ with_offset p.offsets system at → offsets ≡ offsets_after p ws
unfolding offsets_after
with_system p ws system at offsets sets es ea e = e ∙ rw (es, ea, sets) refl

pub with_g92 : (p : Parser) (ws : List Word) (at : Nm3) → has_g (code 10 0) ws ≡ false → has_g (code 92 0) ws ≡ true → at ≡ new_g92 p ws → record p.offsets { g92 = at } ≡ offsets_after p ws
unfolding offsets_after
with_g92 p ws at no10 sets e = rw (e, no10, sets) refl

pub with_none : (p : Parser) (ws : List Word) → has_g (code 10 0) ws ≡ false → has_g (code 92 0) ws ≡ false → has_g (code 92 1) ws ≡ true → record p.offsets { g92 = origin_nm } ≡ offsets_after p ws
unfolding offsets_after
with_none p ws no10 no92 clears = rw (no10, no92, clears) refl

pub with_home28 : (p : Parser) (ws : List Word) → has_g (code 10 0) ws ≡ false → has_g (code 92 0) ws ≡ false → has_g (code 92 1) ws ≡ false → has_g (code 28 1) ws ≡ true
    → record p.offsets { home28 = p.pos_nm } ≡ offsets_after p ws
unfolding offsets_after
with_home28 p ws no10 no92 stays sets = rw (no10, no92, stays, sets) refl

pub with_home30 : (p : Parser) (ws : List Word) → has_g (code 10 0) ws ≡ false → has_g (code 92 0) ws ≡ false → has_g (code 92 1) ws ≡ false → has_g (code 28 1) ws ≡ false → has_g (code 30 1) ws ≡ true
    → record p.offsets { home30 = p.pos_nm } ≡ offsets_after p ws
unfolding offsets_after
with_home30 p ws no10 no92 stays no28 sets = rw (no10, no92, stays, no28, sets) refl

pub with_same : (p : Parser) (ws : List Word) → has_g (code 10 0) ws ≡ false → has_g (code 92 0) ws ≡ false → has_g (code 92 1) ws ≡ false → has_g (code 28 1) ws ≡ false → has_g (code 30 1) ws ≡ false
    → p.offsets ≡ offsets_after p ws
unfolding offsets_after
with_same p ws no10 no92 stays no28 no30 = rw (no10, no92, stays, no28, no30) refl

pub set_in : (p : Parser) (offsets others : Offsets) → offsets ≡ others → record p { offsets = offsets } ≡ record p { offsets = others }
set_in p offsets others e = ap (λ (o : Offsets). record p { offsets = o }) e

within : (at : Nm3) → IsNear at → IsWithin farthest at
within at near = record { x = omega (arith, near.x); y = omega (arith, near.y); z = omega (arith, near.z) }

pub system_within : (p : Parser) (ws : List Word) (at : Nm3) → has_g (code 10 0) ws ≡ true → at ≡ new_system_offset p ws → IfSome (new_offset p ws) IsNear → IsWithin farthest at
system_within p ws at sets e near = rw e (within (new_system_offset p ws) (rw sets at near))

pub g92_within : (p : Parser) (ws : List Word) (at : Nm3) → has_g (code 10 0) ws ≡ false → has_g (code 92 0) ws ≡ true → at ≡ new_g92 p ws → IfSome (new_offset p ws) IsNear → IsWithin farthest at
g92_within p ws at no10 sets e near = rw e (within (new_g92 p ws) (rw (no10, sets) at near))

pub set_valid : (p : Parser) (offsets : Offsets) → IsParser p → IsOffsets offsets → IsParser (record p { offsets = offsets })
set_valid p offsets is valid = record { modal = is.modal; offsets = valid; pos_nm = is.pos_nm; pos_steps = is.pos_steps; feed = is.feed; rpm = is.rpm }

pub g92_valid : (o : Offsets) (at : Nm3) → IsOffsets o → IsWithin farthest at → IsOffsets (record o { g92 = at })
g92_valid o at is near = record { s1 = is.s1; s2 = is.s2; s3 = is.s3; s4 = is.s4; s5 = is.s5; s6 = is.s6; home28 = is.home28; home30 = is.home30; g92 = near }

pub home28_valid : (o : Offsets) (at : Nm3) → IsOffsets o → IsWithin farthest at → IsOffsets (record o { home28 = at })
home28_valid o at is near = record { s1 = is.s1; s2 = is.s2; s3 = is.s3; s4 = is.s4; s5 = is.s5; s6 = is.s6; home28 = near; home30 = is.home30; g92 = is.g92 }

pub home30_valid : (o : Offsets) (at : Nm3) → IsOffsets o → IsWithin farthest at → IsOffsets (record o { home30 = at })
home30_valid o at is near = record { s1 = is.s1; s2 = is.s2; s3 = is.s3; s4 = is.s4; s5 = is.s5; s6 = is.s6; home28 = is.home28; home30 = near; g92 = is.g92 }

pub origin_within : IsWithin farthest origin_nm
origin_within = record { x = omega arith; y = omega arith; z = omega arith }

-- ---- the places in steps

pub few_stops : (per_mm : Per3) (points : List Nm3) (i : ℕ) (stops : List Steps3) → stops ≡ map (steps3 per_mm) (take i points) → i < length points → length points ≤ 2 → length stops < 2
few_stops per_mm points i stops e within two =
    let many = ap length e in
    let mapped = length-map (take i points) (steps3 per_mm) in
    let taken = length-take i points in omega (arith, many, mapped, taken, within, two)

pub more_stops : (per_mm : Per3) (points : List Nm3) (i : ℕ) (d : Nm3) (was stops : List Steps3) (stop : Steps3) → i < length points → was ≡ map (steps3 per_mm) (take i points)
    → stop ≡ steps3 per_mm (get_or points i d) → stops ≡ was ++ stop ∷ [] → stops ≡ map (steps3 per_mm) (take (i + 1) points)
more_stops per_mm points i d was stops stop within e es en = en ∙ rw (e, es) (sym (map_more (steps3 per_mm) points i d within))

pub near_stops : (was stops : List Steps3) (stop : Steps3) → stops ≡ was ++ stop ∷ [] → All IsPlace was → IsPlace stop → All IsPlace stops
near_stops was stops stop e near one = rw e (All-push IsPlace was stop near one)

pub all_stops : (per_mm : Per3) (points : List Nm3) (i : ℕ) (stops : List Steps3) → stops ≡ map (steps3 per_mm) (take i points) → length points ≤ i → stops ≡ map (steps3 per_mm) points
all_stops per_mm points i stops e past = e ∙ ap (map (steps3 per_mm)) (take_all i points past)

-- ---- the whole state

pub moved : (p q : Parser) (ws : List Word) (points : List Nm3) (places : List Steps3) (modal : Modal) (nm : Nm3) (steps : Steps3) (feed : ℤ) (rpm tool : ℕ)
    → q ≡ record p { offsets = offsets_after p ws } → modal ≡ modal_after p ws → nm ≡ last_of q.pos_nm points → steps ≡ last_of q.pos_steps places → feed ≡ feed_of p ws → rpm ≡ rpm_of q ws → tool ≡ tool_of q ws
    → (let next : Parser = record { modal = modal; offsets = q.offsets; pos_nm = nm; pos_steps = steps; feed = feed; rpm = rpm; tool = tool } in next) ≡ parser_moved p ws points places
unfolding parser_moved
moved p q ws points places modal nm steps feed rpm tool same em en es ef er et = rw (em, en, es, ef, er, et, same) refl
