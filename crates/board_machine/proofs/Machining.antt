-- What is done to the plan of a machine.
use Rattle.std.proofs.Common.{◌≡◌, ℕ, ◌+◌, ◌-◌, ◌<◌, ◌≤◌, ◌↔◌, ◌==◌, Bool, true, false, List, [], ◌∷◌, ◌++◌, length, Some, None, refl, sym, ap, ◌∙◌, subst, arith}
use Rattle.std.proofs.lemmas.Bool.Decides.{nat_tests}
use Rattle.std.specs.Option.{option_to_list}
use Rattle.feed_hold.specs.declared.Motion.{Motion}
use Rattle.feed_hold.specs.declared.Motion.TheVariants as motions
use Rattle.line_geom.specs.declared.Cap.TheVariants.{Free}
use Rattle.line_geom.specs.declared.Geom.{Geom}
use Rattle.line_geom.specs.Geometry.{IsGeom}
use Rattle.overrides.specs.declared.Overrides.{Overrides}
use Rattle.line_geom.specs.declared.Block.{Block}
use Rattle.plan_rules.specs.Plans.{Planned, added}
use Rattle.plan_rules.specs.Segments.{advanced}
use Rattle.plan_rules.specs.Taking.{IsNext}
use Rattle.plan_rules.specs.declared.Mode.{Mode}
use Rattle.planner_runs.specs.Runs.{cleared, with_move}
use Rattle.planner_runs.proofs.Runs.{block_added}
use Rattle.step_line.specs.Asking.{IsPlannedMove}
use Rattle.feed_hold.specs.Motions.{is_going}
use Rattle.planner_runs.specs.Moving.{is_full, has_blocks}
use Rattle.step_line.specs.declared.Piece.{Piece}
use Rattle.step_line.specs.declared.Piece.TheVariants as pieces
use Rattle.step_line.specs.declared.Segment.{Segment}
use Rattle.step_line.specs.declared.planned_move.PlannedMove.{PlannedMove}
use Rattle.step_line.specs.Finishing.{ticks_together}
use Rattle.step_line.proofs.Finished.{segment_ticks, together_on}
use Rattle.board_machine.specs.declared.machine.Machine.{Machine}
use Rattle.board_machine.specs.Machines.{Runs, mode_in, settled, observed}

-- whether it is full, by how many blocks stand
pub full_is : (most : ℕ) (p : Planned) (b : Bool) → (b ≡ true) ↔ (most ≤ length p.blocks) → b ≡ is_full most p
full_is most p true full = let least = full.0 refl in grind (arith, nat_tests, least)
full_is most p false full = let least = full.1 in grind (arith, nat_tests, least)

-- a plan that is not full has room
pub has_room : (most : ℕ) (p : Planned) → is_full most p ≡ false → length p.blocks < most
has_room most p e = grind (arith, nat_tests, e)

-- a move is put behind the others, as a block with its geometry
pub put : {N : ℕ} (m : Machine N) (mv : PlannedMove) (g : Geom) (after p : Planned) (now : Motion) (in_hand given : List Piece) → IsPlannedMove mv → is_full (N - 1) m.plan ≡ false → IsGeom mv.mv mv.limits g
    → m.plan.overrides ≡ m.overrides → after ≡ added m.plan (record { line = mv.line; mv = mv.mv; rate = mv.rate; geom = g; prepared = 0; entry = Free }) mv.deviation m.overrides
    → Runs m p now in_hand given → Runs (record m { plan = after }) (with_move p mv) now in_hand given
put {N} m mv g after p now in_hand given planned room is same e r = record {
  plan_is = subst (λ (o : Overrides). after ≡ added m.plan b mv.deviation o) (sym same) e
      ∙ (block_added (N - 1) m.plan mv b (record { move = planned; room = has_room (N - 1) m.plan room }) refl refl refl is refl).1
      ∙ ap (λ (x : Planned). with_move x mv) r.plan_is;
  same = r.same;
  motion_is = r.motion_is;
  hand_is = r.hand_is;
  given_is = r.given_is;
}
  where
    b : Block
    b = record { line = mv.line; mv = mv.mv; rate = mv.rate; geom = g; prepared = 0; entry = Free }

-- a segment is taken into the hand
pub taken : {N : ℕ} (m : Machine N) (s : Segment) (mode : Mode) (after p : Planned) (now : Motion) (given : List Piece) → mode ≡ mode_in m.hold.motion → IsNext m.plan mode s
    → after ≡ advanced m.plan s.n s.w_out → Runs m p now [] given
    → IsNext p (mode_in now) s × Runs (record m { plan = after; hand = Some (pieces.Segment s); given = m.given + s.n }) (advanced p s.n s.w_out) now (pieces.Segment s ∷ []) (given ++ pieces.Segment s ∷ [])
taken m s mode after p now given is next e r = (
  subst (λ (x : Planned). IsNext x (mode_in now) s) r.plan_is (subst (λ (x : Mode). IsNext m.plan x s) (is ∙ ap mode_in r.motion_is) next),
  record {
    plan_is = e ∙ ap (λ (x : Planned). advanced x s.n s.w_out) r.plan_is;
    same = r.same;
    motion_is = r.motion_is;
    hand_is = refl;
    given_is = ap (λ k. k + s.n) r.given_is ∙ ap (λ k. ticks_together given + k) (sym (segment_ticks s)) ∙ sym (together_on given (pieces.Segment s));
  },
)

-- ---- it was looked how many ticks are done

observed_is : (now : Motion) (p : Planned) (in_hand : List Piece) (all : Bool) → in_hand ≡ [] → all ≡ true → observed now p in_hand all ≡ settled now p
observed_is now p [] true e f = refl
observed_is now p [] false e f = absurd cc
observed_is now p (piece ∷ pieces) all e f = absurd cc

settled_over : (now : Motion) (p : Planned) → is_going now ≡ true → has_blocks p.blocks ≡ false → settled now p ≡ motions.Idle
settled_over motions.Idle p goes none = refl
settled_over motions.Run p goes none = rw none refl
settled_over motions.Holding p goes none = absurd cc
settled_over motions.Held p goes none = absurd cc
settled_over motions.Jog p goes none = rw none refl
settled_over motions.Cancelling p goes none = absurd cc
settled_over motions.Stopping p goes none = absurd cc
settled_over motions.Alarm p goes none = absurd cc

-- each tick that was given is done, and nothing is in hand
all_done : {N : ℕ} (m : Machine N) (p : Planned) (now : Motion) (in_hand given : List Piece) (done : ℕ) → Runs m p now in_hand given → m.hand ≡ None → done ≡ m.given
    → observed now p in_hand (done == ticks_together given) ≡ settled now p
all_done m p now in_hand given done r empty all =
    let same : done ≡ ticks_together given = all ∙ r.given_is in
    observed_is now p in_hand (done == ticks_together given) (sym r.hand_is ∙ ap (λ o. option_to_list o) empty) (grind (arith, nat_tests, same))

-- nothing is left to run, and the cycle is over, or the jogs are
pub over : {N : ℕ} (m n : Machine N) (p : Planned) (now : Motion) (in_hand given : List Piece) (done : ℕ) → Runs m p now in_hand given → m.hand ≡ None → done ≡ m.given
    → is_going m.hold.motion ≡ true → has_blocks m.plan.blocks ≡ false → Runs n p motions.Idle in_hand given → Runs n p (observed now p in_hand (done == ticks_together given)) in_hand given
over m n p now in_hand given done r empty all goes none runs =
    let goes_now : is_going now ≡ true = sym (ap is_going r.motion_is) ∙ goes in
    let no_block : has_blocks p.blocks ≡ false = sym (ap (λ (q : Planned). has_blocks q.blocks) r.plan_is) ∙ none in
    subst (λ x. Runs n p x in_hand given) (sym (all_done m p now in_hand given done r empty all ∙ settled_over now p goes_now no_block)) runs

-- ---- jogs are cut

pub cleared_runs : {N : ℕ} (m n : Machine N) (p : Planned) (now : Motion) (in_hand given : List Piece) → n ≡ record m { plan = cleared m.plan } → Runs m p now in_hand given → Runs n (cleared p) now in_hand given
cleared_runs m n p now in_hand given is r = subst (λ (x : Machine _). Runs x (cleared p) now in_hand given) (sym is) (record {
  plan_is = ap (λ (q : Planned). cleared q) r.plan_is;
  same = r.same;
  motion_is = r.motion_is;
  hand_is = r.hand_is;
  given_is = r.given_is;
})
