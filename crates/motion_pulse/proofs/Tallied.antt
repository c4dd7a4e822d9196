-- Pins that are counted.
use Rattle.std.proofs.Common.{◌≡◌, ◌∙◌, ℕ, ◌+◌, zero, suc, List, [], ◌∷◌, length, refl, sym, ap, arith}
use Rattle.step_line.specs.declared.Bits.{Bits}
use Rattle.step_line.specs.Logs.{NewestFirst}
use Rattle.smooth_step.specs.Pinned.{pinned}
use Rattle.motion_pulse.specs.Pulses.{capped}

-- pins that were handed some more
pinned_more : (bits : List Bits) (made : NewestFirst Bits) → length (pinned bits made) ≡ length made + length bits
pinned_more [] made = omega arith
pinned_more (b ∷ bits) made = omega (arith, pinned_more bits (b ∷ made))

still : Bits
still = record { x = Rattle.std.specs.Prelude.pos 0; y = Rattle.std.specs.Prelude.pos 0; z = Rattle.std.specs.Prelude.pos 0 }

-- so many subticks
some_made : ℕ → NewestFirst Bits
some_made zero = []
some_made (suc n) = still ∷ some_made n

so_many : (n : ℕ) → length (some_made n) ≡ n
unfolding some_made
so_many zero = refl
so_many (suc n) = omega (arith, so_many n)

-- from one count to the next
pub tallied : (was is n m : ℕ) (bits : List Bits) → was ≡ capped n → m ≡ n + length bits
    → ((made : NewestFirst Bits) → was ≡ capped (length made) → is ≡ capped (length (pinned bits made))) → is ≡ capped m
tallied was is n m bits e more pins =
    pins (some_made n) (e ∙ ap capped (sym (so_many n))) ∙ ap capped (pinned_more bits (some_made n) ∙ ap (λ (x : ℕ). x + length bits) (so_many n) ∙ sym more)
