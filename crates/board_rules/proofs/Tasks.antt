-- The first of what is left, and what an empty plan gives.
use Rattle.std.proofs.Common.{◌≡◌, ℕ, List, [], ◌∷◌, ◌++◌, drop, refl, sym, ap, ◌∙◌, subst}
use Rattle.status_report.specs.declared.Reply.{Reply}
use Rattle.status_report.specs.declared.Reply.TheVariants.{Bye}
use Rattle.step_line.specs.declared.Piece.{Piece}
use Rattle.step_line.specs.declared.Piece.TheVariants as pieces
use Rattle.line_geom.specs.declared.Block.{Block}
use Rattle.plan_rules.specs.Plans.{Planned}
use Rattle.plan_rules.specs.Taking.{IsTakenOf}
use Rattle.plan_rules.specs.declared.Mode.{Mode}
use Rattle.planner_runs.specs.declared.Action.TheVariants.{Take}
use Rattle.planner_runs.specs.Runs.{Plans}

-- nothing is next where nothing is left
pub none_next : {A : Type 0} (xs : List A) (x : A) → xs ≡ [] → xs ≡ x ∷ drop 1 xs → ⊥
none_next xs x none next = absurd (let e = sym none ∙ next in cc)

pub none_first : {A B : Type 0} (xs : List A) (x : A) → xs ≡ x ∷ drop 1 xs → xs ≡ [] → B
none_first xs x next is = absurd (none_next xs x is next)

pub head_is : {A : Type 0} (xs : List A) (x y : A) (ys : List A) → xs ≡ x ∷ drop 1 xs → xs ≡ y ∷ ys → x ≡ y
head_is xs x y ys next is = let e = sym next ∙ is in cc

pub rest_is : {A : Type 0} (xs : List A) (y : A) (ys : List A) → xs ≡ y ∷ ys → drop 1 xs ≡ ys
rest_is {A} xs y ys is = ap (λ (zs : List A). drop 1 zs) is

-- nothing is given where no action is left
pub none_given : (most : ℕ) (p last : Planned) (ps : List Piece) → Plans most p [] ps last → ps ≡ []
none_given most p last [] run = refl
none_given most p last (x ∷ ps) run = absurd run

-- no segment is taken of an empty plan
pub none_taken : (most : ℕ) (p : Planned) (mode : Mode) (ps : List Piece) (last : Planned) → p.blocks ≡ [] → Plans most p (Take mode ∷ []) ps last → ⊥
none_taken most p mode (pieces.Segment s ∷ ps) last none run = absurd (subst (λ (bs : List Block). IsTakenOf p bs mode s) none run.0)
none_taken most p mode (pieces.Mark m ∷ ps) last none run = absurd run
none_taken most p mode (pieces.End ∷ ps) last none run = absurd run
none_taken most p mode [] last none run = absurd run

-- something is told by closing a run
pub none_closed : (rs : List Reply) → rs ++ Bye ∷ [] ≡ [] → ⊥
none_closed [] e = absurd cc
none_closed (r ∷ rs) e = absurd cc
