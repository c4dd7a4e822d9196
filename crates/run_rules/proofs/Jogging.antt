-- Jogs, and machines that are not found in motion.
use Rattle.std.proofs.Common.{◌≡◌, ℕ, inl, inr, Bool, true, false, not, ◌&&◌, ◌||◌, List, [], ◌∷◌, ◌++◌, length, nat_eq, nat_lt, refl, sym, ap, ◌∙◌}
use Rattle.std.proofs.lemmas.Grind.{flat_map-append}
use Rattle.step_line.specs.Asking.{Asked}
use Rattle.status_report.specs.declared.Reply.TheVariants.{Ok as Done}
use Rattle.jog.specs.declared.JogMove.{JogMove}
use Rattle.system_lines.specs.Commands.{kind_of}
use Rattle.system_lines.specs.declared.Kind.{Kind as DollarKind}
use Rattle.system_lines.specs.declared.Kind.TheVariants as kinds
use Rattle.run_rules.specs.Work.{Outcome, asks, asked_by_task, asking}
use Rattle.run_rules.specs.Work.Task.{tell}
use Rattle.run_rules.specs.Asks.{planned, move_asked}
use Rattle.run_rules.specs.Outcomes.{Before, ByDollar, ByCode, ByKept, Becomes, jogging, has_cause, either, most_kept}

pub asking_asks : (asked : List Asked) → asks (asking asked) ≡ asked
asking_asks [] = refl
asking_asks (a ∷ asked) = ap (λ (xs : List Asked). a ∷ xs) (asking_asks asked)

nothing_more : (xs : List Asked) → xs ++ [] ≡ xs
nothing_more [] = refl
nothing_more (x ∷ xs) = ap (λ (ys : List Asked). x ∷ ys) (nothing_more xs)

pub jog_asks : (b : Before) (jog : JogMove) → asks (jogging b jog).work ≡ move_asked (planned b.number b.state.settings jog.mv jog.rate)
jog_asks b jog =
    let asked = move_asked (planned b.number b.state.settings jog.mv jog.rate) in
    flat_map-append asked_by_task (asking asked) (tell Done ∷ []) ∙ nothing_more (asks (asking asked)) ∙ asking_asks asked

-- ---- where nothing has moved

neither : (a b : Bool) → a ≡ false → b ≡ false → (a || b) ≡ false
neither true b e f = absurd cc
neither false b e f = f

not_both : (a b : Bool) → a ≡ false → (a && b) ≡ false
not_both true b e = absurd cc
not_both false b e = refl

no_cause : (b : Before) (kind : DollarKind) → b.moved ≡ false → b.jog_moved ≡ false → has_cause b kind ≡ false
no_cause b kinds.ListOffsets m j = neither b.moved b.jog_moved m j
no_cause b kinds.Setting m j = neither b.moved b.jog_moved m j
no_cause b kinds.ListModes m j = refl
no_cause b kinds.Unlock m j = refl
no_cause b kinds.Other m j = refl
no_cause b _ m j = not_both b.moved (not b.jogged) m

no_false : {A : Type 0} {t : Bool} → t ≡ false → t ≡ true → A
no_false e f = absurd (let g = sym e ∙ f in cc)

dollar_stands : (b : Before) (kept : List ℕ) (o : Outcome) → b.moved ≡ false → b.jog_moved ≡ false → ByDollar true b kept o → ByDollar false b kept o
dollar_stands b kept o m j (inl busy) = no_false (no_cause b (kind_of kept) m j) busy.cause
dollar_stands b kept o m j (inr by) = inr by

code_stands : (b : Before) (kept : List ℕ) (o : Outcome) → b.jogged ≡ false → ByCode true b kept o → ByCode false b kept o
code_stands b kept o e (inl locked) = no_false e locked.cause
code_stands b kept o e (inr by) = inr by

both_on : (t : Bool) (A B C D : Type 0) → (A → C) → (B → D) → either t A B → either t C D
both_on true A B C D f g x = f x
both_on false A B C D f g x = g x

kept_stands : (b : Before) (kept : List ℕ) (o : Outcome) → b.moved ≡ false → b.jog_moved ≡ false → b.jogged ≡ false → ByKept true b kept o → ByKept false b kept o
kept_stands b [] o m j e by = by
kept_stands b (c ∷ cs) o m j e by = both_on (nat_eq c 36) _ _ _ _ (dollar_stands b (c ∷ cs) o m j) (code_stands b (c ∷ cs) o e) by

pub stands : (b : Before) (kept : List ℕ) (o : Outcome) → b.moved ≡ false → b.jog_moved ≡ false → b.jogged ≡ false → Becomes true b kept o → Becomes false b kept o
stands b kept o m j e by = both_on (nat_lt most_kept (length kept)) _ _ _ _ (λ x. x) (kept_stands b kept o m j e) by
