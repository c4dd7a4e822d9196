-- An event that is read is one that was written, and back.
use Rattle.std.proofs.Common.{◌≡◌, ◌≢◌, ℕ, zero, suc, ◌+◌, ◌≤◌, Bool, true, false, cond, ◌&&◌, List, [], ◌∷◌, ◌++◌, get_or, Some, None, refl, sym, ap, subst, ◌∙◌, append_assoc, arith, rules, nat_lt, nat_eq, ℤ, pos, negsuc, nat_abs, codes}
use Rattle.std.proofs.lemmas.Bool.{ltb-true, lt-ltb}
use Rattle.std.proofs.lemmas.Bool.Decides.{nat_tests}
use Rattle.std.proofs.lemmas.Option.{cond_some}
use Rattle.step_line.specs.declared.Bits.{Bits}
use Rattle.step_line.specs.Events.{IsEvent}
use Rattle.step_record.specs.Reading.{behind_name, axis_at, event_at}
use Rattle.step_record.specs.Texts.{axis_text, event_text}
use Rattle.step_record.proofs.Fields.{bound, after_takes}

-- the step of an axis, and what follows it, were taken from a text
record Takes (letter : ℕ) (text : List ℕ) (r : ℤ × List ℕ) : Type 0 where
  parts : text ≡ axis_text letter r.0 ++ r.1
  one : nat_abs r.0 ≤ 1

axis_cases : (forth back : Bool) (letter c d : ℕ) (text : List ℕ) → (forth ≡ true → (c ≡ letter) × (d ≡ 43)) → (back ≡ true → (c ≡ letter) × (d ≡ 45))
    → Takes letter (c ∷ d ∷ text) (cond forth (pos 1, text) (cond back (negsuc 0, text) (pos 0, c ∷ d ∷ text)))
axis_cases true back letter c d text plus minus = let p = plus refl in record { parts = rw (p.0, p.1) refl; one = omega arith }
axis_cases false true letter c d text plus minus = let m = minus refl in record { parts = rw (m.0, m.1) refl; one = omega arith }
axis_cases false false letter c d text plus minus = record { parts = refl; one = omega arith }

axis_takes : (text : List ℕ) (letter : ℕ) → Takes letter text (axis_at text letter)
unfolding axis_at
axis_takes [] letter = record { parts = refl; one = omega arith }
axis_takes (c ∷ []) letter = record { parts = refl; one = omega arith }
axis_takes (c ∷ d ∷ text) letter =
    axis_cases (nat_eq c letter && nat_eq d 43) (nat_eq c letter && nat_eq d 45) letter c d text (λ h. search (rules, nat_tests)) (λ h. search (rules, nat_tests))

-- no axis steps whose letter does not begin the text
axis_none : (text : List ℕ) (letter : ℕ) → get_or text 0 0 ≢ letter → axis_at text letter ≡ (pos 0, text)
unfolding axis_at
axis_none [] letter other = refl
axis_none (c ∷ []) letter other = refl
axis_none (c ∷ d ∷ text) letter other = let no : nat_eq c letter ≡ false = search (rules, nat_tests) in rw no refl

axis_again : (v : ℤ) (text : List ℕ) (letter : ℕ) → nat_abs v ≤ 1 → get_or text 0 0 ≢ letter → axis_at (axis_text letter v ++ text) letter ≡ (v, text)
unfolding axis_at
axis_again (pos zero) text letter one other = axis_none text letter other
axis_again (pos (suc zero)) text letter one other = let yes : nat_eq letter letter ≡ true = search (rules, nat_tests) in rw yes refl
axis_again (pos (suc (suc n))) text letter one other = absurd (omega arith)
axis_again (negsuc zero) text letter one other = let yes : nat_eq letter letter ≡ true = search (rules, nat_tests) in rw yes refl
axis_again (negsuc (suc n)) text letter one other = absurd (omega arith)

-- what begins a text with a step in front
begins_other : (v : ℤ) (text : List ℕ) (letter other : ℕ) → letter ≢ other → get_or text 0 0 ≢ other → get_or (axis_text letter v ++ text) 0 0 ≢ other
begins_other (pos zero) text letter other apart next = next
begins_other (pos (suc n)) text letter other apart next = let no : nat_eq (suc n) 0 ≡ false = search (rules, nat_tests) in rw no apart
begins_other (negsuc n) text letter other apart next = apart

event_joined : (b : Bits) (text t1 t2 t3 rest : List ℕ) → text ≡ axis_text 88 b.x ++ t1 → t1 ≡ axis_text 89 b.y ++ t2 → t2 ≡ axis_text 90 b.z ++ t3 → t3 ≡ codes "\n" ++ rest
    → text ≡ event_text b ++ rest
unfolding event_text
event_joined b text t1 t2 t3 rest first second third last = rw (first, second, third, last) (simp append_assoc)

pub event_takes : (text : List ℕ) (b : Bits) (rest : List ℕ) → event_at text ≡ Some (b, rest) → (text ≡ event_text b ++ rest) × IsEvent b
unfolding event_at
event_takes text b rest e =
    let x = axis_at text 88 in
    let y = axis_at x.1 89 in
    let z = axis_at y.1 90 in
    let x-takes = axis_takes text 88 in
    let y-takes = axis_takes x.1 89 in
    let z-takes = axis_takes y.1 90 in
    let made : Bits = record { x = x.0; y = y.0; z = z.0 } in
    let steps = nat_abs x.0 + nat_abs y.0 + nat_abs z.0 in
    let last = bound (behind_name (codes "\n") z.1) (λ r. cond (nat_lt 0 steps) (Some (made, r)) None) (b, rest) e in
    let some = cond_some (nat_lt 0 steps) (made, last.0) (b, rest) last.2 in
    let end = after_takes (codes "\n") z.1 last.0 last.1 in
    subst (λ (r : Bits × List ℕ). (text ≡ event_text r.0 ++ r.1) × IsEvent r.0) {x = (made, last.0)} some.1 (
      event_joined made text x.1 y.1 z.1 last.0 x-takes.parts y-takes.parts z-takes.parts end,
      record { x = x-takes.one; y = y-takes.one; z = z-takes.one; some = ltb-true _ _ some.0 },
    )

pub event_again : (b : Bits) (rest : List ℕ) → IsEvent b → event_at (event_text b ++ rest) ≡ Some (b, rest)
unfolding event_at
event_again b rest is =
    let t3 = 10 ∷ rest in
    let t2 = axis_text 90 b.z ++ t3 in
    let t1 = axis_text 89 b.y ++ t2 in
    let whole : event_text b ++ rest ≡ axis_text 88 b.x ++ t1 = sym (event_joined b (axis_text 88 b.x ++ t1) t1 t2 t3 rest refl refl refl refl) in
    let z-again = axis_again b.z t3 90 is.z (λ e. omega arith) in
    let y-again = axis_again b.y t2 89 is.y (begins_other b.z t3 90 89 (λ e. omega arith) (λ e. omega arith)) in
    let x-again = axis_again b.x t1 88 is.x (begins_other b.y t2 89 88 (λ e. omega arith) (begins_other b.z t3 90 88 (λ e. omega arith) (λ e. omega arith))) in
    ap event_at whole ∙ rw (x-again, y-again, z-again, lt-ltb 0 (nat_abs b.x + nat_abs b.y + nat_abs b.z) is.some) refl
