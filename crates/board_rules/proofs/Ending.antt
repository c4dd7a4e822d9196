-- The pieces that are given come in turn: the end is given once, and nothing is given behind it.
use Rattle.std.proofs.Common.{◌≡◌, ℕ, false, List, [], ◌∷◌, ◌++◌, drop, reverse, append_assoc, refl, sym, ap, ◌∙◌, append-nil, subst}
use Rattle.std.specs.List.{AllByRecursion}
use Rattle.std.proofs.lemmas.List.{reverse-append}
use Rattle.step_line.specs.declared.Piece.{Piece}
use Rattle.step_line.specs.declared.Piece.TheVariants as pieces
use Rattle.step_line.specs.Ordering.{InTurn, ComesNext, has_ended}
use Rattle.plan_rules.specs.Plans.{Planned}
use Rattle.plan_rules.specs.Segments.{advanced}
use Rattle.planner_runs.specs.declared.Action.{Action}
use Rattle.planner_runs.specs.declared.Action.TheVariants.{Add, Take, Override, Mark, Rest, Clear, Reset}
use Rattle.planner_runs.specs.Runs.{Plans, AllFollow, fresh_plan, with_move, cleared}
use Rattle.planner_runs.proofs.Runs.{fresh_starts}
use Rattle.planner_runs.proofs.Following.{start_follows}
use Rattle.board_journal.specs.Openings.{Opening}
use Rattle.board_journal.specs.Steps.{Journal, given_of, planned_of, plan_of, hand_of, actions_of, published_of}
use Rattle.board_rules.specs.Conduct.{Conducted, IsInHand}
use Rattle.board_rules.proofs.Keeping.{run_is, hand_is}
use Rattle.board_rules.proofs.Closing.{At, going, to_finish, to_tell, over, phase_is}

abbrev pub NoEnds : List Piece → Type 0
NoEnds ps = AllByRecursion (λ (p : Piece). p ≡ pieces.End → ⊥) ps

no_ends_on : (ps qs : List Piece) → NoEnds ps → NoEnds qs → NoEnds (ps ++ qs)
no_ends_on [] qs a b = b
no_ends_on (p ∷ ps) qs a b = (a.0, no_ends_on ps qs a.1 b)

pub no_ends_back : (ps : List Piece) → NoEnds ps → NoEnds (reverse ps)
no_ends_back [] none = tt
no_ends_back (p ∷ ps) none = subst NoEnds (sym (reverse-append (p ∷ []) ps)) (no_ends_on (reverse ps) (p ∷ []) (no_ends_back ps none.1) (none.0, tt))

-- no plan gives the end
pub planned_no_end : (most : ℕ) (p last : Planned) (actions : List Action) (ps : List Piece) → Plans most p actions ps last → NoEnds ps
planned_no_end most p last [] [] run = tt
planned_no_end most p last (Add m ∷ more) ps run = planned_no_end most (with_move p m) last more ps run.1
planned_no_end most p last (Override o ∷ more) ps run = planned_no_end most (record p { overrides = o }) last more ps run.1
planned_no_end most p last (Rest ∷ more) ps run = planned_no_end most p last more ps run.1
planned_no_end most p last (Clear ∷ more) ps run = planned_no_end most (cleared p) last more ps run.1
planned_no_end most p last (Reset ∷ more) ps run = subst NoEnds (sym run.1) tt
planned_no_end most p last (Take mode ∷ more) (pieces.Segment s ∷ ps) run = ((λ e. absurd cc), planned_no_end most (advanced p s.n s.w_out) last more ps run.1)
planned_no_end most p last (Mark m ∷ more) (pieces.Mark g ∷ ps) run = ((λ e. absurd cc), planned_no_end most p last more ps run.3)
planned_no_end most p last actions ps run = absurd run

pub planned_none : (first : Opening) (h : Journal) → Conducted first h → NoEnds (planned_of h)
planned_none first h c = planned_no_end first.blocks fresh_plan (plan_of h) (actions_of h) (planned_of h) (run_is first h c)

pub not_ended : (before : List Piece) → NoEnds before → has_ended before ≡ false
not_ended [] none = refl
not_ended (pieces.Segment s ∷ ps) none = refl
not_ended (pieces.Mark m ∷ ps) none = refl
not_ended (pieces.End ∷ ps) none = absurd (none.0 refl)

turns_on : (before ps : List Piece) → InTurn before → NoEnds before → AllFollow before ps → NoEnds ps → InTurn (reverse ps ++ before)
turns_on before [] turns none follow ends = turns
turns_on before (p ∷ ps) turns none follow ends =
    subst InTurn (sym (ap (λ (xs : List Piece). xs ++ before) (reverse-append (p ∷ []) ps) ∙ append_assoc (reverse ps) (p ∷ []) before))
    (turns_on (p ∷ before) ps (record { going = not_ended before none; follows = follow.0 }, turns) (ends.0, none) follow.1 ends.1)

-- what the plan gives comes in turn
planned_turns : (ps : List Piece) → NoEnds ps → AllFollow [] ps → InTurn (reverse ps)
planned_turns ps none follow = subst InTurn (append-nil (reverse ps)) (turns_on [] ps tt tt follow none)

-- and so does the end behind it
end_turns : (ps : List Piece) → NoEnds ps → AllFollow [] ps → InTurn (reverse (ps ++ pieces.End ∷ []))
end_turns ps none follow =
    subst InTurn (sym (reverse-append ps (pieces.End ∷ [])))
    (record { going = not_ended (reverse ps) (no_ends_back ps none); follows = tt }, planned_turns ps none follow)

by_phase : (first : Opening) (h : Journal) → NoEnds (planned_of h) → AllFollow [] (planned_of h) → At first h → InTurn (reverse (given_of h))
by_phase first h none follow (going e is) = subst (λ (ps : List Piece). InTurn (reverse ps)) (sym is) (planned_turns (planned_of h) none follow)
by_phase first h none follow (to_finish e l w is) = subst (λ (ps : List Piece). InTurn (reverse ps)) (sym is) (planned_turns (planned_of h) none follow)
by_phase first h none follow (to_tell e l w p still is k) = subst (λ (ps : List Piece). InTurn (reverse ps)) (sym is) (end_turns (planned_of h) none follow)
by_phase first h none follow (over e l w p still d is k) = subst (λ (ps : List Piece). InTurn (reverse ps)) (sym is) (end_turns (planned_of h) none follow)

pub turns_are : (first : Opening) (h : Journal) → Conducted first h → InTurn (reverse (given_of h))
turns_are first h c =
    let run = run_is first h c in
    by_phase first h (planned_none first h c)
    (start_follows first.blocks [] fresh_plan (plan_of h) (actions_of h) (planned_of h) fresh_starts run) (phase_is first h c)

turns_back : (xs ys : List Piece) → InTurn (xs ++ ys) → InTurn ys
turns_back [] ys turns = turns
turns_back (x ∷ xs) ys turns = turns_back xs ys turns.1

-- the piece in hand may be published
-- those published, too
pub published_in_turn : (first : Opening) (h : Journal) → Conducted first h → InTurn (reverse (published_of h))
published_in_turn first h c =
    turns_back (reverse (hand_of h)) (reverse (published_of h)) (subst InTurn (ap reverse (hand_is first h c) ∙ reverse-append (published_of h) (hand_of h)) (turns_are first h c))

pub next_turns : (first : Opening) (h : Journal) (p : Piece) → Conducted first h → IsInHand p h → ComesNext (reverse (published_of h)) p
next_turns first h p c next =
    let qs : List Piece = drop 1 (hand_of h) in
    let e : reverse (given_of h) ≡ reverse qs ++ (p ∷ reverse (published_of h)) =
    ap reverse (hand_is first h c ∙ ap (λ (ps : List Piece). published_of h ++ ps) next) ∙ reverse-append (published_of h) (p ∷ qs)
    ∙ ap (λ (ps : List Piece). ps ++ reverse (published_of h)) (reverse-append (p ∷ []) qs) ∙ append_assoc (reverse qs) (p ∷ []) (reverse (published_of h)) in
    (turns_back (reverse qs) (p ∷ reverse (published_of h)) (subst InTurn e (turns_are first h c))).0
