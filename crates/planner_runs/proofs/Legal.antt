-- The speeds that a run records are legal.
use Rattle.std.proofs.Common.{◌≡◌, ◌≤◌, ◌<◌, ◌+◌, ◌*◌, ◌⊎◌, min, ℕ, true, false, cond, nat_eq, inl, inr, List, [], ◌∷◌, ◌++◌, map, refl, sym, ap, ◌∙◌, subst, arith, append_assoc, append-nil, Some, None}
use Rattle.std.specs.declared.option.Option.{Option}
use Rattle.std.specs.List.{flat_map, AllByRecursion}
use Rattle.std.proofs.lemmas.Bool.{cases_eq}
use Rattle.std.proofs.lemmas.Bool.Decides.{nat_tests}
use Rattle.std.proofs.lemmas.Grind.{flat_map-append}
use Rattle.step_line.specs.declared.Segment.{Segment}
use Rattle.step_line.specs.declared.Piece.{Piece}
use Rattle.step_line.specs.declared.Piece.TheVariants as pieces
use Rattle.step_line.specs.declared.Record.TheVariants as kinds
use Rattle.step_line.specs.Events.{events_after}
use Rattle.step_line.specs.Pieces.{head_of}
use Rattle.line_geom.specs.declared.Geom.{Geom}
use Rattle.line_geom.specs.declared.Cap.{Cap}
use Rattle.line_geom.specs.Junctions.{junction_of}
use Rattle.line_geom.specs.declared.Block.{Block}
use Rattle.overrides.specs.declared.Overrides.{Overrides}
use Rattle.profile.specs.Profiles.{distance}
use Rattle.line_geom.specs.Caps.{squared, under}
use Rattle.plan_rules.specs.Blocks.{left_of, hard_of}
use Rattle.plan_rules.specs.Plans.{Planned, IsReached, entered}
use Rattle.plan_rules.specs.Segments.{advanced, IsLegal, IsLegalEnd}
use Rattle.plan_rules.proofs.Reached.{plan_of, reached_replanned, reached_cleared}
use Rattle.step_line.specs.declared.Mark.{Mark as AnyMark}
use Rattle.step_line.specs.declared.Mark.TheVariants as marks
use Rattle.plan_rules.specs.Taking.{IsNext}
use Rattle.plan_rules.specs.declared.Mode.{Mode}
use Rattle.step_line.specs.declared.planned_move.PlannedMove.{PlannedMove}
use Rattle.legal_heads.specs.declared.ToldHead.{ToldHead}
use Rattle.legal_heads.specs.declared.Told.{Told}
use Rattle.legal_heads.specs.declared.Told.TheVariants as told
use Rattle.planner_runs.specs.declared.Action.{Action}
use Rattle.planner_runs.specs.declared.Action.TheVariants.{Add, Take, Override, Mark, Rest, Clear, Reset}
use Rattle.legal_heads.specs.Moves.{geometry_of, fastest, fastest_joint}
use Rattle.legal_heads.specs.Speeds.{change_of, EndsMove, MayCome, MayStop, IsDone, MayMark, ComesNext, AreLegalBehind, IsToldRight, told_records, begun_by, HasLegalHeads}
use Rattle.planner_runs.specs.Halted.{HasHaltedHeads, latest_of}
use Rattle.planner_runs.specs.Runs.{Plans, with_move, block_of, cleared, moves_added, all_records, IsAtRest, IsStart, NeverClears}
use Rattle.planner_runs.proofs.Runs.{reached_with_move, reached_by_segment, at_rest, rest_is}
use Rattle.planner_runs.proofs.Standing.{IsBlockOf, ComesBehind, StandBehind, Stand, stand_added, stand_left, stand_gone}
use Rattle.planner_runs.proofs.Taking.{IsSegmentOfMove, segment_of_move, legal_of_move, moved_gone, moved_left}

-- the tail goes on with the move of the last head, or that is done, and the tail begins a later one at a speed that their
-- joint allows
abbrev pub TailGoesOn : ToldHead → ℕ → List Block → List PlannedMove → Type 0
TailGoesOn a w [] ms = EndsMove a
TailGoesOn a w (b ∷ bs) [] = ⊥
TailGoesOn a w (b ∷ bs) (m ∷ ms) =
    ((m ≡ a.planned) × (b.prepared ≡ a.first + a.head.n)) ⊎ (EndsMove a × (b.prepared ≡ 0) × (w ≤ fastest_joint a.planned m))

abbrev pub IsUnbegun : List Block → Type 0
IsUnbegun [] = Unit {0}
IsUnbegun (b ∷ bs) = b.prepared ≡ 0

-- the plan goes on behind the last head of a stretch, or begins one
abbrev pub GoesOnBehind : Option ToldHead → ℕ → List Block → List PlannedMove → Type 0
GoesOnBehind None w bs ms = (w ≡ 0) × IsUnbegun bs
GoesOnBehind (Some a) w bs ms = (distance a.head.w w ≤ change_of a) × TailGoesOn a w bs ms

pub record IsAfter (before : Option ToldHead) (p : Planned) (ms : List PlannedMove) : Type 0 where
  pub reached : IsReached p
  pub stand : Stand p.blocks ms
  pub goes_on : GoesOnBehind before p.speed p.blocks ms

-- the moves of these that no head has begun
abbrev pub waiting : List Block → List PlannedMove → List PlannedMove
waiting [] ms = []
waiting (b ∷ bs) [] = []
waiting (b ∷ bs) (m ∷ ms) = cond (nat_eq b.prepared 0) (m ∷ []) [] ++ ms

-- what is told of the pieces of a run that leaves the plan `last`
pub record Tells (before : Option ToldHead) (moves : List PlannedMove) (given : List Piece) (last : Planned) : Type 0 where
  pub list : List Told
  pub recorded : all_records given ≡ flat_map told_records list
  pub each : AllByRecursion IsToldRight list
  pub behind : Option ToldHead
  pub left : List PlannedMove
  pub in_order : moves ≡ flat_map begun_by list ++ waiting last.blocks left
  pub legal : (more : List Told) → AreLegalBehind behind more → AreLegalBehind before (list ++ more)
  pub latest : latest_of before list ≡ behind
  pub after : IsAfter behind last left

waiting_added : (bs : List Block) (ms : List PlannedMove) (m : PlannedMove) (b : Block) (rest : List PlannedMove) → Stand bs ms → b.prepared ≡ 0
    → waiting (bs ++ b ∷ []) (ms ++ m ∷ []) ++ rest ≡ waiting bs ms ++ m ∷ rest
waiting_added [] [] m b rest stand fresh =
    let test : nat_eq b.prepared 0 ≡ true = grind (arith, nat_tests) in rw test refl
waiting_added (c ∷ cs) (n ∷ ms) m b rest stand fresh =
    let begun = cond (nat_eq c.prepared 0) (n ∷ []) [] in
    append_assoc begun (ms ++ m ∷ []) rest ∙ ap (λ t. begun ++ t) (append_assoc ms (m ∷ []) rest) ∙ sym (append_assoc begun ms (m ∷ rest))
waiting_added [] (n ∷ ms) m b rest stand fresh = absurd stand
waiting_added (c ∷ cs) [] m b rest stand fresh = absurd stand

waiting_gone : (m : PlannedMove) (bs : List Block) (ms : List PlannedMove) → StandBehind m bs ms → waiting bs ms ≡ ms
waiting_gone m [] [] stand = refl
waiting_gone m (c ∷ cs) (n ∷ ms) stand =
    let fresh = stand.0.fresh in
    let test : nat_eq c.prepared 0 ≡ true = grind (arith, nat_tests) in rw test refl
waiting_gone m [] (n ∷ ms) stand = absurd stand
waiting_gone m (c ∷ cs) [] stand = absurd stand

-- the hard cap of two blocks is that of their moves
hard_joint : (b c : Block) (m n : PlannedMove) → IsBlockOf m b → ComesBehind m n c → hard_of b c ≡ fastest_joint m n
unfolding hard_of fastest_joint
hard_joint b c m n of is =
    ap (λ (e : Cap). under e (min (squared b.geom.rapid) (squared c.geom.rapid))) is.entry
    ∙ ap (λ (g : Geom). under (junction_of (geometry_of m) (geometry_of n) n.deviation) (min (squared g.rapid) (squared c.geom.rapid))) of.geom
    ∙ ap (λ (g : Geom). under (junction_of (geometry_of m) (geometry_of n) n.deviation) (min (fastest m) (squared g.rapid))) is.block.geom

ends_move : (a : ToldHead) (b : Block) (bs : List Block) (ms : List PlannedMove) (v : ℕ) → IsBlockOf a.planned b → StandBehind a.planned bs ms
    → IsLegalEnd b bs v → EndsMove a → TailGoesOn a v bs ms
ends_move a b [] ms v of stand end done = done
ends_move a b (c ∷ cs) [] v of stand end done = absurd stand
ends_move a b (c ∷ cs) (n ∷ ms) v of stand end done =
    let e = hard_joint b c a.planned n of stand.0 in
    inr (done, stand.0.fresh, omega (arith, e, end))

-- a segment, told with its move
abbrev pub told_of : PlannedMove → Segment → ToldHead
told_of m s = record { head = head_of s; planned = m; first = s.first }

may_come : (before : Option ToldHead) (w : ℕ) (b : Block) (bs : List Block) (m : PlannedMove) (ms : List PlannedMove) (s : Segment)
    → GoesOnBehind before w (b ∷ bs) (m ∷ ms) → s.w_in ≡ w → s.first ≡ b.prepared → MayCome before (told_of m s)
may_come None w b bs m ms s on w_in first = (first ∙ on.1, w_in ∙ on.0)
may_come (Some a) w b bs m ms s on w_in first = record {
  change = subst (λ v. distance a.head.w v ≤ change_of a) (sym w_in) on.0;
  move = elim on.1 [
    | inl stays ↦ inl (record { planned = stays.0; first = first ∙ stays.1 })
    | inr later ↦ inr (record { done = later.0; first = first ∙ later.1; joint = subst (λ v. v ≤ fastest_joint a.planned m) (sym w_in) later.2 })
  ];
}

-- the plan behind a segment of its tail
pub record Leaves (m : PlannedMove) (ms : List PlannedMove) (s : Segment) (p : Planned) : Type 0 where
  pub moves : List PlannedMove
  pub after : IsAfter (Some (told_of m s)) p moves
  pub waiting_is : waiting p.blocks moves ≡ ms

module _ (b : Block) (bs : List Block) (w : ℕ) (o : Overrides) (m : PlannedMove) (ms : List PlannedMove) (mode : Mode) (s : Segment)
    (is : IsReached (plan_of (b ∷ bs) w o)) (stand : Stand (b ∷ bs) (m ∷ ms)) (next : IsNext (plan_of (b ∷ bs) w o) mode s) where
  pub taken : IsSegmentOfMove m b w s
  taken = segment_of_move b bs w o m mode s is stand.0 next

  legal : IsLegal b bs w s.n s.w_out
  legal = legal_of_move b bs w o m mode s is stand.0 next

  changes : distance s.w_in s.w_out ≤ change_of (told_of m s)
  changes =
      let change = legal.change in
      subst (λ v. distance v s.w_out ≤ change_of (told_of m s)) (sym taken.w_in)
      (subst (λ (g : Geom). distance w s.w_out ≤ g.q * s.n) stand.0.geom change)

  pub leaves : Leaves m ms s (advanced (plan_of (b ∷ bs) w o) s.n s.w_out)
  leaves =
      let reached = reached_by_segment (plan_of (b ∷ bs) w o) mode s is next in
      elim (cases_eq s.n (left_of b)) [
        | inl same ↦ record {
          moves = ms;
          after = record {
            reached = reached;
            stand = subst (λ left. Stand left ms) (moved_gone b bs s.n same) (stand_gone m bs ms stand.1);
            goes_on = (
              changes,
              subst (λ left. TailGoesOn (told_of m s) s.w_out left ms) (moved_gone b bs s.n same)
                  (ends_move (told_of m s) b bs ms s.w_out stand.0 stand.1 (legal.at_end same) (taken.ends same)),
            );
          };
          waiting_is = subst (λ left. waiting left ms ≡ ms) (moved_gone b bs s.n same) (waiting_gone m bs ms stand.1);
        }
        | inr other ↦
            let left = taken.left in
            let some = taken.some in
            let first = taken.first in
            let e = moved_left b bs s.n (omega (arith, left, other)) in
            let b' : Block = record b { prepared = b.prepared + s.n } in
            let begun : nat_eq (b.prepared + s.n) 0 ≡ false = (let more : 0 < b.prepared + s.n = omega (arith, some) in grind (arith, nat_tests)) in
            record {
              moves = m ∷ ms;
              after = record {
                reached = reached;
                stand = subst (λ left. Stand left (m ∷ ms)) e (stand_left b bs m ms s.n stand);
                goes_on = (
                  changes,
                  subst (λ left. TailGoesOn (told_of m s) s.w_out left (m ∷ ms)) e
                      (inl (refl, ap (λ k. k + s.n) (sym first))),
                );
              };
              waiting_is = subst (λ left. waiting left (m ∷ ms) ≡ ms) e (let w : waiting (b' ∷ bs) (m ∷ ms) ≡ ms = rw begun refl in w);
            }
      ]

-- what is told of a segment that is taken, of these moves
pub record TellsSegment (before : Option ToldHead) (p : Planned) (ms : List PlannedMove) (s : Segment) : Type 0 where
  pub move : PlannedMove
  pub left : List PlannedMove
  pub leaves : Leaves move left s (advanced p s.n s.w_out)
  pub comes : MayCome before (told_of move s)
  pub rapid : s.w_in ≤ fastest move
  pub right : IsToldRight (told.Head (told_of move s))
  pub mv : s.mv ≡ move.mv
  pub begun : waiting p.blocks ms ≡ begun_by (told.Head (told_of move s)) ++ left

segment_told : (before : Option ToldHead) (bs : List Block) (w : ℕ) (o : Overrides) (ms : List PlannedMove) (mode : Mode) (s : Segment)
    → IsAfter before (plan_of bs w o) ms → IsNext (plan_of bs w o) mode s → TellsSegment before (plan_of bs w o) ms s
segment_told before [] w o ms mode s is next = absurd next
segment_told before (b ∷ bs) w o [] mode s is next = absurd is.stand
segment_told before (b ∷ bs) w o (m ∷ ms) mode s is next =
    let t = taken b bs w o m ms mode s is.reached is.stand next in
    record {
      move = m;
      left = ms;
      leaves = leaves b bs w o m ms mode s is.reached is.stand next;
      comes = may_come before w b bs m ms s is.goes_on t.w_in t.first;
      rapid = t.rapid;
      right = record { line = t.line; some = t.some; within = t.within };
      mv = t.mv;
      begun = ap (λ k. cond (nat_eq k 0) (m ∷ []) [] ++ ms) (sym t.first);
    }

goes_on_added : (before : Option ToldHead) (bs : List Block) (w : ℕ) (o : Overrides) (ms : List PlannedMove) (m : PlannedMove)
    → IsReached (plan_of bs w o) → Stand bs ms → GoesOnBehind before w bs ms
    → GoesOnBehind before w (bs ++ entered bs (block_of m) m.deviation ∷ []) (ms ++ m ∷ [])
goes_on_added None [] w o ms m is stand on = (on.0, refl)
goes_on_added None (b ∷ bs) w o ms m is stand on = on
goes_on_added (Some a) [] w o [] m is stand on = let none = (at_rest (plan_of [] w o) is refl).speed in (on.0, inr (on.1, refl, omega (arith, none)))
goes_on_added (Some a) [] w o (n ∷ ms) m is stand on = absurd stand
goes_on_added (Some a) (b ∷ bs) w o [] m is stand on = absurd stand
goes_on_added (Some a) (b ∷ bs) w o (n ∷ ms) m is stand on = on

may_stop : (before : Option ToldHead) (w : ℕ) (bs : List Block) (ms : List PlannedMove) → GoesOnBehind before w bs ms → w ≡ 0 → MayStop before
may_stop None w bs ms on rest = tt
may_stop (Some a) w bs ms on rest = let near = on.0 in omega (arith, near, rest)

is_done : (before : Option ToldHead) (w : ℕ) (bs : List Block) (ms : List PlannedMove) → GoesOnBehind before w bs ms → bs ≡ [] → IsDone before
is_done None w bs ms on none = tt
is_done (Some a) w bs ms on none = subst (λ (left : List Block). TailGoesOn a w left ms) none on.1

may_mark : (before : Option ToldHead) (m : AnyMark) → MayStop before → IsDone before → MayMark before m
may_mark before (marks.Dwell ms) stop done = (stop, done)
may_mark before (marks.Spindle code speed) stop done = (stop, done)
may_mark before (marks.Coolant on) stop done = (stop, done)
may_mark before (marks.Cut line) stop done = stop
may_mark before (marks.Reset line) stop done = tt

-- a mark is told
after_mark : (before : Option ToldHead) (p : Planned) (ms : List PlannedMove) → IsAfter before p ms → IsAtRest p → IsAfter None p ms
after_mark before p ms is rest = record {
  reached = is.reached;
  stand = is.stand;
  goes_on = (rest.speed, subst IsUnbegun (sym rest.blocks) tt);
}

tells_segment : (before : Option ToldHead) (p last : Planned) (ms : List PlannedMove) (s : Segment) (ps : List Piece) (moves : List PlannedMove)
    → (t : TellsSegment before p ms s)
    → Tells (Some (told_of t.move s)) (waiting (advanced p s.n s.w_out).blocks t.leaves.moves ++ moves) ps last
    → Tells before (waiting p.blocks ms ++ moves) (pieces.Segment s ∷ ps) last
tells_segment before p last ms s ps moves t rest =
    let h = told_of t.move s in
    let begun = begun_by (told.Head h) in
    let others = flat_map begun_by rest.list in
    let later = waiting last.blocks rest.left in
    record {
      list = told.Head h ∷ rest.list;
      recorded = ap (λ v. (kinds.Head (head_of s) ∷ map kinds.Event (events_after v s.first s.n)) ++ all_records ps) t.mv
          ∙ ap (λ r. told_records (told.Head h) ++ r) rest.recorded;
      each = (t.right, rest.each);
      behind = rest.behind;
      left = rest.left;
      in_order = ap (λ ws. ws ++ moves) t.begun
          ∙ append_assoc begun t.left moves
          ∙ ap (λ ws. begun ++ (ws ++ moves)) (sym t.leaves.waiting_is)
          ∙ ap (λ ws. begun ++ ws) rest.in_order
          ∙ sym (append_assoc begun others later);
      legal = λ more then. ((t.comes, t.rapid), rest.legal more then);
      latest = rest.latest;
      after = rest.after;
    }

tells_run : (most : ℕ) (before : Option ToldHead) (p last : Planned) (ms : List PlannedMove) (actions : List Action) (given : List Piece)
    → IsAfter before p ms → NeverClears actions → Plans most p actions given last → Tells before (waiting p.blocks ms ++ moves_added actions) given last
tells_run most before p last ms [] [] is never run = record {
  list = [];
  recorded = refl;
  each = tt;
  behind = before;
  left = ms;
  in_order = append-nil (waiting p.blocks ms) ∙ ap (λ (q : Planned). waiting q.blocks ms) (sym run);
  legal = λ more then. then;
  latest = refl;
  after = subst (λ (q : Planned). IsAfter before q ms) (sym run) is;
}
tells_run most before p last ms (Add m ∷ rest) ps is never run =
    let e = waiting_added p.blocks ms m (entered p.blocks (block_of m) m.deviation) (moves_added rest) is.stand refl in
    subst (λ ws. Tells before ws ps last) e (tells_run most before (with_move p m) last (ms ++ m ∷ []) rest ps (record {
      reached = reached_with_move most p m is.reached run.0;
      stand = stand_added p.blocks ms m is.stand run.0.move;
      goes_on = goes_on_added before p.blocks p.speed p.overrides ms m is.reached is.stand is.goes_on;
    }) never.1 run.1)
tells_run most before p last ms (Override o ∷ rest) ps is never run =
    tells_run most before (record p { overrides = o }) last ms rest ps (record {
      reached = reached_replanned p.blocks p.speed p.overrides o is.reached run.0;
      stand = is.stand;
      goes_on = is.goes_on;
    }) never.1 run.1
tells_run most before p last ms (Rest ∷ rest) ps is never run = tells_run most before p last ms rest ps is never.1 run.1
tells_run most before p last ms (Clear ∷ rest) ps is never run = absurd never.0
tells_run most before p last ms (Reset ∷ rest) ps is never run = absurd never.0
tells_run most before p last ms (Take mode ∷ rest) (pieces.Segment s ∷ ps) is never run =
    let t = segment_told before p.blocks p.speed p.overrides ms mode s is run.0 in
    let next = advanced p s.n s.w_out in
    tells_segment before p last ms s ps (moves_added rest) t
    (tells_run most (Some (told_of t.move s)) next last t.leaves.moves rest ps t.leaves.after never.1 run.1)
tells_run most before p last ms (Mark m ∷ rest) (pieces.Mark g ∷ ps) is never run =
    let after = tells_run most None p last ms rest ps (after_mark before p ms is run.2) never.1 run.3 in
    let stop = may_stop before p.speed p.blocks ms is.goes_on run.2.speed in
    let done = is_done before p.speed p.blocks ms is.goes_on run.2.blocks in
    record {
      list = told.Mark g ∷ after.list;
      recorded = ap (λ r. kinds.Mark g ∷ r) after.recorded;
      each = (tt, after.each);
      behind = after.behind;
      left = after.left;
      in_order = after.in_order;
      legal = λ more then. (may_mark before g stop done, after.legal more then);
      latest = after.latest;
      after = after.after;
    }
tells_run most before p last ms rest ps is never run = absurd run

-- ---- a run that begins with nothing left to run

cleared_begins : (p : Planned) → IsStart p → IsAfter None (cleared p) []
cleared_begins p is = record { reached = reached_cleared p.overrides is.overrides; stand = tt; goes_on = (refl, tt) }

starts : (p : Planned) → IsStart p → IsAfter None p []
starts p is = subst (λ (q : Planned). IsAfter None q []) (sym (rest_is p is.rest)) (cleared_begins p is)

tells_from : (most : ℕ) (p last : Planned) (actions : List Action) (given : List Piece) → IsStart p → NeverClears actions
    → Plans most p actions given last → Tells None (moves_added actions) given last
tells_from most p last actions given is never run =
    let t = tells_run most None p last [] actions given (starts p is) never run in
    subst (λ (bs : List Block). Tells None (waiting bs [] ++ moves_added actions) given last) is.rest.blocks t

pub heads_are_legal : (most : ℕ) (p last : Planned) (actions : List Action) (given : List Piece) → IsStart p → NeverClears actions
    → Plans most p actions given last → HasLegalHeads (moves_added actions) (all_records given)
heads_are_legal most p last actions given is never run =
    let t = tells_from most p last actions given is never run in
    record {
      told = t.list;
      recorded = t.recorded;
      each = t.each;
      rest = waiting last.blocks t.left;
      in_order = t.in_order;
      legal = subst (AreLegalBehind None) (append-nil t.list) (t.legal [] tt);
    }

all_right : (list more : List Told) → AllByRecursion IsToldRight list → AllByRecursion IsToldRight more → AllByRecursion IsToldRight (list ++ more)
all_right [] more each then = then
all_right (t ∷ list) more each then = (each.0, all_right list more each.1 then)

-- one thing more is told, which begins no move
told_behind : (moves : List PlannedMove) (given : List Piece) (last : Planned) (t : Tells None moves given last) (x : Told)
    → begun_by x ≡ [] → IsToldRight x → ComesNext t.behind x → HasLegalHeads moves (all_records given ++ told_records x)
told_behind moves given last t x none right comes =
    let rest = waiting last.blocks t.left in
    let begun : flat_map begun_by (t.list ++ x ∷ []) ≡ flat_map begun_by t.list =
    flat_map-append begun_by t.list (x ∷ []) ∙ ap (λ ms. flat_map begun_by t.list ++ (ms ++ [])) none ∙ append-nil (flat_map begun_by t.list) in
    let recorded : all_records given ++ told_records x ≡ flat_map told_records (t.list ++ x ∷ []) =
    ap (λ rs. rs ++ told_records x) t.recorded
    ∙ ap (λ rs. flat_map told_records t.list ++ rs) (sym (append-nil (told_records x)))
    ∙ sym (flat_map-append told_records t.list (x ∷ [])) in
    record {
      told = t.list ++ x ∷ [];
      recorded = recorded;
      each = all_right t.list (x ∷ []) t.each (right, tt);
      rest = rest;
      in_order = t.in_order ∙ ap (λ ms. ms ++ rest) (sym begun);
      legal = t.legal (x ∷ []) (comes, tt);
    }

-- the end closes the last stretch
pub closed_heads_are_legal : (most : ℕ) (p last : Planned) (actions : List Action) (given : List Piece) → IsStart p → NeverClears actions
    → Plans most p actions given last → last.blocks ≡ [] → HasLegalHeads (moves_added actions) (all_records given ++ kinds.End ∷ [])
closed_heads_are_legal most p last actions given is never run none =
    let t = tells_from most p last actions given is never run in
    let rest = at_rest last t.after.reached none in
    told_behind (moves_added actions) given last t told.End refl tt
    (may_stop t.behind last.speed last.blocks t.left t.after.goes_on rest.speed, is_done t.behind last.speed last.blocks t.left t.after.goes_on none)

-- a cut may come where the machine stands
pub cut_heads_are_legal : (most : ℕ) (p last : Planned) (actions : List Action) (given : List Piece) (line : ℕ) → IsStart p → NeverClears actions
    → Plans most p actions given last → last.speed ≡ 0 → HasLegalHeads (moves_added actions) (all_records given ++ kinds.Mark (marks.Cut line) ∷ [])
cut_heads_are_legal most p last actions given line is never run stands =
    let t = tells_from most p last actions given is never run in
    told_behind (moves_added actions) given last t (told.Mark (marks.Cut line)) refl tt (may_stop t.behind last.speed last.blocks t.left t.after.goes_on stands)

-- so may the end, where an alarm has stopped the machine
pub halted_heads_are_legal : (most : ℕ) (p last : Planned) (actions : List Action) (given : List Piece) → IsStart p → NeverClears actions
    → Plans most p actions given last → last.speed ≡ 0 → HasHaltedHeads (moves_added actions) (all_records given ++ kinds.End ∷ [])
halted_heads_are_legal most p last actions given is never run stands =
    let t = tells_from most p last actions given is never run in
    record {
      told = t.list;
      recorded = ap (λ rs. rs ++ kinds.End ∷ []) t.recorded;
      each = t.each;
      rest = waiting last.blocks t.left;
      in_order = t.in_order;
      legal = subst (AreLegalBehind None) (append-nil t.list) (t.legal [] tt);
      stops = subst MayStop (sym t.latest) (may_stop t.behind last.speed last.blocks t.left t.after.goes_on stands);
    }
