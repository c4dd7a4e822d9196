-- What is known of a console before it is told: whether a reset tells it.
use Rattle.std.proofs.Common.{◌≡◌, ◌⊎◌, inl, inr, ℕ, Bool, true, false, cond, nat_eq, List, [], ◌∷◌, Some, None, refl, sym, ap, ◌∙◌}
use Rattle.std.specs.declared.option.Option.{Option}
use Rattle.status_report.specs.declared.Reply.{Reply}
use Rattle.status_report.specs.declared.Reply.TheVariants as replies
use Rattle.audit_course.specs.SoFar.{begins_epoch, is_of_reset}
use Rattle.audit_texts.specs.SoFar.{is_looked_for, looked_for}
use Rattle.run_audit.specs.Coming.{IsResetTold}

-- if no alarm and no banner is known, no reset is told next
pub no_reset_told : (known : Option Reply) (told : List Reply) → known ≡ looked_for told → ((n : ℕ) → known ≡ Some (replies.Alarm n) → ⊥) → (known ≡ Some replies.Banner → ⊥) → begins_epoch told ≡ false
no_reset_told known [] is alarm banner = refl
no_reset_told known (replies.Banner ∷ told) is alarm banner = absurd (banner is)
no_reset_told known (replies.Alarm n ∷ told) is alarm banner = by (nat_eq n 3) refl where
  by : (b : Bool) → nat_eq n 3 ≡ b → nat_eq n 3 ≡ false
  by true e = absurd (alarm n (is ∙ ap (λ (t : Bool). cond t (Some (replies.Alarm n)) None) e))
  by false e = e
no_reset_told known (_ ∷ told) is alarm banner = refl

pub reset_told_by : (first : Reply) (known : Option Reply) (told : List Reply) → known ≡ Some first → ((n : ℕ) × (first ≡ replies.Alarm n)) ⊎ (first ≡ replies.Banner) → known ≡ looked_for told → IsResetTold known told
reset_told_by first known [] is kind looked = absurd (let e = looked in let g = is in cc)
reset_told_by first known (r ∷ told) is kind looked = by (is_looked_for r) refl where
  of_reset : (x : Reply) → ((n : ℕ) × (x ≡ replies.Alarm n)) ⊎ (x ≡ replies.Banner) → is_looked_for x ≡ true → is_of_reset x ≡ true
  of_reset x (inl k) e = ap is_of_reset k.1 ∙ sym (ap is_looked_for k.1) ∙ e
  of_reset x (inr k) e = ap is_of_reset k

  by : (b : Bool) → is_looked_for r ≡ b → IsResetTold known (r ∷ told)
  by true e =
      let same : Some first ≡ Some r = sym is ∙ looked ∙ ap (λ (t : Bool). cond t (Some r) None) e in
      let one : first ≡ r = cc in
      record { first = first; behind = told; is = is; told_are = ap (λ (x : Reply). x ∷ told) (sym one); of_reset = of_reset first kind (ap is_looked_for one ∙ e) }
  by false e = absurd (let f : Some first ≡ None = sym is ∙ looked ∙ ap (λ (t : Bool). cond t (Some r) None) e in cc)
