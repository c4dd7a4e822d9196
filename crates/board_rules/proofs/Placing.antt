-- Each piece that is given begins where the ticks of those before it lead.
use Rattle.std.proofs.Common.{◌≡◌, ℕ, ◌+◌, ◌≤◌, List, [], ◌∷◌, ◌++◌, drop, true, false, Bool, nat_eq, sym, refl, ap, ◌∙◌, arith, append-nil, subst}
use Rattle.std.specs.List.{flat_map, All}
use Rattle.std.proofs.lemmas.List.Elements.{All-head}
use Rattle.std.proofs.lemmas.Bool.Decides.{nat_tests}
use Rattle.units.specs.declared.Steps3.{Steps3}
use Rattle.step_line.specs.declared.Segment.{Segment}
use Rattle.step_line.specs.declared.Mark.TheVariants as marks
use Rattle.step_line.specs.declared.Piece.{Piece}
use Rattle.step_line.specs.declared.Piece.TheVariants as pieces
use Rattle.step_line.specs.declared.planned_move.PlannedMove.{PlannedMove}
use Rattle.step_line.specs.Asking.Asked.{a_move, a_mark, a_rest}
use Rattle.step_line.specs.Counting.{events_of}
use Rattle.step_line.specs.Finishing.{ticks_together}
use Rattle.step_line.specs.Pieces.{ticks_of}
use Rattle.step_line.specs.Places.{place_after}
use Rattle.step_line.proofs.Sums.{at_start, at_end}
use Rattle.line_geom.specs.declared.Block.{Block}
use Rattle.plan_rules.specs.Blocks.{IsBlock, left_of}
use Rattle.plan_rules.specs.Plans.{Planned, IsReached, entered}
use Rattle.plan_rules.specs.Segments.{moved}
use Rattle.plan_rules.specs.Taking.{IsTakenOf}
use Rattle.plan_rules.specs.declared.Mode.{Mode}
use Rattle.planner_runs.specs.declared.Action.{Action}
use Rattle.planner_runs.specs.declared.Action.TheVariants.{Add, Take, Override, Mark, Rest, Clear, Reset}
use Rattle.planner_runs.specs.Runs.{fresh_plan, block_of}
use Rattle.planner_runs.proofs.Runs.{reached_from, fresh_starts}
use Rattle.flight.specs.Places.{moved_by, machine_from, end_from}
use Rattle.flight.specs.Flights.{BeginsAt, Join}
use Rattle.flight.proofs.Places.{moved_on, end_on_from, ends_from, in_segment_from}
use Rattle.flight.proofs.Flying.{joined_on}
use Rattle.run_rules.specs.Work.{Task, asks_move, telling}
use Rattle.run_rules.specs.Work.Task.{ask, tell, pause, normal, finish}
use Rattle.board_journal.specs.Openings.{Opening, IsPlaced}
use Rattle.status_report.specs.declared.Reply.{Reply}
use Rattle.board_journal.specs.Ports.{PortStep}
use Rattle.board_journal.specs.Ports.PortStep.{answered}
use Rattle.board_journal.specs.Steps.{Step, Journal, actions_of, given_of, planned_of, published_of, hand_of, plan_of, left_of as tasks_left, without_asks, before_of, open_of}
use Rattle.board_journal.specs.Steps.Step.{at_port, began, did, made_end, evened, paused, became, cut, halted, closing, turned}
use Rattle.board_rules.specs.Cuts.{has_halted}
use Rattle.board_rules.specs.Conduct.{Conducted, MayDo, MayAtPort, Gives, IsInHand}
use Rattle.board_rules.proofs.Alarms.{stage_is, only_override}
use Rattle.board_rules.proofs.Beginning.{caused, of_begun}
use Rattle.board_rules.proofs.Keeping.{run_is, hand_is}
use Rattle.board_rules.proofs.Leading.{Leads, TasksLead, tasks_start, line_leads}

-- ---- the blocks of a plan

-- a plan's moves join, from where the first of them is to a place
abbrev pub BlocksLead : Steps3 → List Block → Steps3 → Type 0
BlocksLead from [] to = from ≡ to
BlocksLead from (b ∷ bs) to = (from ≡ place_after b.mv b.prepared) × BlocksLead b.mv.to bs to

blocks_start : (a b : Steps3) (bs : List Block) (c : Steps3) → a ≡ b → BlocksLead b bs c → BlocksLead a bs c
blocks_start a b bs c e lead = subst (λ (p : Steps3). BlocksLead p bs c) (sym e) lead

blocks_on : (from : Steps3) (bs : List Block) (b : Block) (to : Steps3) → BlocksLead from bs to → to ≡ place_after b.mv b.prepared → BlocksLead from (bs ++ b ∷ []) b.mv.to
blocks_on from [] b to lead is = (lead ∙ is, refl)
blocks_on from (c ∷ bs) b to lead is = (lead.0, blocks_on c.mv.to bs b to lead.1 is)

blocks_moved : (b : Block) (bs : List Block) (n : ℕ) (to : Steps3) → IsBlock b → BlocksLead b.mv.to bs to → (t : Bool) → nat_eq n (left_of b) ≡ t
    → BlocksLead (place_after b.mv (b.prepared + n)) (moved n (b ∷ bs)) to
blocks_moved b bs n to is lead true t =
    let events : b.geom.n ≡ events_of b.mv = is.geom.geom.n in
    let some = is.left in
    let all : b.prepared + n ≡ events_of b.mv = grind (arith, nat_tests) in
    rw t (blocks_start (place_after b.mv (b.prepared + n)) b.mv.to bs to (ap (place_after b.mv) all ∙ at_end b.mv) lead)
blocks_moved b bs n to is lead false t = rw t (refl, lead)

-- the next segment begins where the blocks do, and they go on behind it
segment_moves : (p : Planned) (bs : List Block) (mode : Mode) (s : Segment) (from to : Steps3) → p.blocks ≡ bs → IsReached p → IsTakenOf p bs mode s → BlocksLead from bs to
    → BeginsAt from (pieces.Segment s) × BlocksLead (place_after s.mv (s.first + s.n)) (moved s.n bs) to
segment_moves p [] mode s from to e is next lead = absurd next
segment_moves p (b ∷ bs) mode s from to e is next lead =
    let block : IsBlock b = All-head IsBlock b bs (subst (λ (cs : List Block). All IsBlock cs) e is.each) in
    let m = next.mv in
    let f = next.first in
    let here : place_after s.mv s.first ≡ place_after b.mv b.prepared = cc in
    let there : place_after s.mv (s.first + s.n) ≡ place_after b.mv (b.prepared + s.n) = cc in
    (lead.0 ∙ sym here, blocks_start (place_after s.mv (s.first + s.n)) (place_after b.mv (b.prepared + s.n)) (moved s.n (b ∷ bs)) to there (blocks_moved b bs s.n to block lead.1 (nat_eq s.n (left_of b)) refl))

reached : (first : Opening) (h : Journal) → Conducted first h → IsReached (plan_of h)
reached first h c = reached_from first.blocks fresh_plan (plan_of h) (actions_of h) (planned_of h) fresh_starts (run_is first h c)

-- ---- a board that keeps to its rules

-- where the moves lead that were added; behind a cut, where the pieces do that were given
abbrev pub goal_by : Action → Steps3 → Steps3
goal_by (Add m) at = m.mv.to
goal_by a at = at

abbrev pub goal_of : Opening → Journal → Steps3
goal_of first [] = first.place
goal_of first (did a ps ∷ h) = goal_by a (goal_of first h)
goal_of first (cut k ∷ h) = end_from first.place (given_of h)
goal_of first (s ∷ h) = goal_of first h

-- the position behind the lines that were begun
abbrev position_of : Opening → Journal → Steps3
position_of first h = (before_of first h).state.parser.pos_steps

-- The pieces that were given join from the opening's place on, the blocks from where these lead, and the tasks that are left from
-- where the blocks do, to the position behind the lines.
pub record JournalLeads (first : Opening) (h : Journal) : Type 0 where
  pub given : Join first.place (given_of h)
  pub blocks : BlocksLead (end_from first.place (given_of h)) (plan_of h).blocks (goal_of first h)
  pub tasks : TasksLead (goal_of first h) (tasks_left first h) (position_of first h)

-- a task less, which asks for no move
pop_leads : (from to : Steps3) (ts : List Task) (t : Task) → ts ≡ t ∷ drop 1 ts → asks_move t ≡ false → TasksLead from ts to → TasksLead from (drop 1 ts) to
pop_leads from to ts (ask (a_move m)) next none lead = absurd cc
pop_leads from to ts _ next none lead = subst (λ (ts : List Task). TasksLead from ts to) next lead

popped : (first : Opening) (h : Journal) (t : Task) → tasks_left first h ≡ t ∷ drop 1 (tasks_left first h) → asks_move t ≡ false → JournalLeads first h
    → TasksLead (goal_of first h) (drop 1 (tasks_left first h)) (position_of first h)
popped first h t next none j = pop_leads (goal_of first h) (position_of first h) (tasks_left first h) t next none j.tasks

-- where nothing is left to do, the moves lead to the position
all_done : (first : Opening) (h : Journal) → tasks_left first h ≡ [] → JournalLeads first h → goal_of first h ≡ position_of first h
all_done first h free j = subst (λ (ts : List Task). TasksLead (goal_of first h) ts (position_of first h)) free j.tasks

-- a step that gives nothing, and adds no move
keeps : (first : Opening) (h : Journal) (s : Step) → given_of (s ∷ h) ≡ given_of h → (plan_of (s ∷ h)).blocks ≡ (plan_of h).blocks → goal_of first (s ∷ h) ≡ goal_of first h
    → TasksLead (goal_of first h) (tasks_left first (s ∷ h)) (position_of first (s ∷ h)) → JournalLeads first h → JournalLeads first (s ∷ h)
keeps first h s given blocks goal tasks j = record {
  given = subst (Join first.place) (sym given) j.given;
  blocks = subst (λ (ps : List Piece). BlocksLead (end_from first.place ps) (plan_of (s ∷ h)).blocks (goal_of first (s ∷ h))) (sym given)
      (subst (λ (bs : List Block). BlocksLead (end_from first.place (given_of h)) bs (goal_of first (s ∷ h))) (sym blocks) (subst (λ (to : Steps3). BlocksLead (end_from first.place (given_of h)) (plan_of h).blocks to) (sym goal) j.blocks));
  tasks = subst (λ (from : Steps3). TasksLead from (tasks_left first (s ∷ h)) (position_of first (s ∷ h))) (sym goal) tasks;
}

-- a step that gives one piece, which begins where those before it lead
gives : (first : Opening) (h : Journal) (s : Step) (p : Piece) (bs : List Block) → given_of (s ∷ h) ≡ given_of h ++ p ∷ [] → BeginsAt (end_from first.place (given_of h)) p
    → (plan_of (s ∷ h)).blocks ≡ bs → BlocksLead (end_from first.place (given_of h ++ p ∷ [])) bs (goal_of first (s ∷ h)) → TasksLead (goal_of first (s ∷ h)) (tasks_left first (s ∷ h)) (position_of first (s ∷ h))
    → JournalLeads first h → JournalLeads first (s ∷ h)
gives first h s p bs given begins blocks lead tasks j = record {
  given = subst (Join first.place) (sym given) (joined_on first.place (given_of h) p j.given begins);
  blocks = subst (λ (ps : List Piece). BlocksLead (end_from first.place ps) (plan_of (s ∷ h)).blocks (goal_of first (s ∷ h))) (sym given)
      (subst (λ (bs : List Block). BlocksLead (end_from first.place (given_of h ++ p ∷ [])) bs (goal_of first (s ∷ h))) (sym blocks) lead);
  tasks = tasks;
}

on_add : (first : Opening) (h : Journal) (m : PlannedMove) → tasks_left first h ≡ ask (a_move m) ∷ drop 1 (tasks_left first h) → JournalLeads first h → JournalLeads first (did (Add m) [] ∷ h)
on_add first h m next j =
    let lead : TasksLead (goal_of first h) (ask (a_move m) ∷ drop 1 (tasks_left first h)) (position_of first h) =
    subst (λ (ts : List Task). TasksLead (goal_of first h) ts (position_of first h)) next j.tasks in
    let b = entered (plan_of h).blocks (block_of m) m.deviation in
    let same = sym (append-nil (given_of h)) in
    record {
      given = subst (Join first.place) same j.given;
      blocks = subst (λ (ps : List Piece). BlocksLead (end_from first.place ps) ((plan_of h).blocks ++ b ∷ []) m.mv.to) same
          (blocks_on (end_from first.place (given_of h)) (plan_of h).blocks b (goal_of first h) j.blocks (sym lead.0 ∙ sym (at_start m.mv)));
      tasks = lead.1;
    }

on_take : (first : Opening) (h : Journal) (mode : Mode) (s : Segment) → Conducted first h → IsTakenOf (plan_of h) (plan_of h).blocks mode s → JournalLeads first h
    → JournalLeads first (did (Take mode) (pieces.Segment s ∷ []) ∷ h)
on_take first h mode s c next j =
    let moves = segment_moves (plan_of h) (plan_of h).blocks mode s (end_from first.place (given_of h)) (goal_of first h) refl (reached first h c) next j.blocks in
    let there = ends_from first.place (given_of h) s moves.0 in
    gives first h (did (Take mode) (pieces.Segment s ∷ [])) (pieces.Segment s) (moved s.n (plan_of h).blocks) refl moves.0 refl
    (blocks_start (end_from first.place (given_of h ++ pieces.Segment s ∷ [])) (place_after s.mv (s.first + s.n)) (moved s.n (plan_of h).blocks) (goal_of first h) there moves.1) j.tasks j

on_did : (first : Opening) (h : Journal) (a : Action) (ps : List Piece) → Conducted first h → MayDo first a h → Gives first.blocks a ps (plan_of h) → JournalLeads first h → JournalLeads first (did a ps ∷ h)
on_did first h (Add m) [] c may run j = on_add first h m may j
on_did first h (Override o) [] c may run j = keeps first h (did (Override o) []) (append-nil (given_of h)) refl refl j.tasks j
on_did first h Rest [] c may run j = keeps first h (did Rest []) (append-nil (given_of h)) refl refl (popped first h (ask a_rest) may.next refl j) j
on_did first h (Mark m) (pieces.Mark g ∷ []) c may run j =
    gives first h (did (Mark m) (pieces.Mark g ∷ [])) (pieces.Mark g) (plan_of h).blocks refl tt refl
    (blocks_start (end_from first.place (given_of h ++ pieces.Mark g ∷ [])) (end_from first.place (given_of h)) (plan_of h).blocks (goal_of first h) (end_on_from first.place (given_of h) (pieces.Mark g)) j.blocks)
    (popped first h (ask (a_mark m)) may.next refl j) j
on_did first h (Mark m) (pieces.Mark g ∷ p ∷ ps) c may run j = absurd run.3
on_did first h (Mark m) (pieces.Segment s ∷ ps) c may run j = absurd run
on_did first h (Mark m) (pieces.End ∷ ps) c may run j = absurd run
on_did first h (Mark m) [] c may run j = absurd run
on_did first h (Take mode) (pieces.Segment s ∷ []) c may run j = on_take first h mode s c run.0 j
on_did first h (Take mode) (pieces.Segment s ∷ p ∷ ps) c may run j = absurd run.1
on_did first h (Take mode) (pieces.Mark m ∷ ps) c may run j = absurd run
on_did first h (Take mode) (pieces.End ∷ ps) c may run j = absurd run
on_did first h (Take mode) [] c may run j = absurd run
on_did first h Clear ps c may run j = absurd may
on_did first h Reset ps c may run j = absurd may
on_did first h _ (p ∷ ps) c may run j = absurd run.1

-- of what is done at the port only a reply that is answered is a task less
on_port : (first : Opening) (h : Journal) (e : PortStep) → MayAtPort first e h → JournalLeads first h → JournalLeads first (at_port e ∷ h)
on_port first h (answered r) may j = keeps first h (at_port (answered r)) refl refl refl (popped first h (tell r) may.next refl j) j
on_port first h e may j = keeps first h (at_port e) refl refl refl j.tasks j

on_end : (first : Opening) (h : Journal) → tasks_left first h ≡ finish ∷ drop 1 (tasks_left first h) → JournalLeads first h → JournalLeads first (made_end ∷ h)
on_end first h next j =
    gives first h made_end pieces.End (plan_of h).blocks refl tt refl
    (blocks_start (end_from first.place (given_of h ++ pieces.End ∷ [])) (end_from first.place (given_of h)) (plan_of h).blocks (goal_of first h) (end_on_from first.place (given_of h) pieces.End) j.blocks)
    (popped first h finish next refl j) j

dropped_lead : (at : Steps3) (ts : List Task) → TasksLead at (without_asks ts) at
dropped_lead at [] = refl
dropped_lead at (ask a ∷ ts) = dropped_lead at ts
dropped_lead at (_ ∷ ts) = dropped_lead at ts

-- behind a cut the next line begins where the pieces lead that were given
on_cut : (first : Opening) (h : Journal) (k : ℕ) → JournalLeads first h → JournalLeads first (cut k ∷ h)
on_cut first h k j =
    gives first h (cut k) (pieces.Mark (marks.Cut k)) [] refl tt refl (end_on_from first.place (given_of h) (pieces.Mark (marks.Cut k))) (dropped_lead (end_from first.place (given_of h)) (tasks_left first h)) j

-- what greets moves nothing
told_lead : (from to : Steps3) (rs : List Reply) → from ≡ to → TasksLead from (telling rs) to
told_lead from to [] same = same
told_lead from to (r ∷ rs) same = told_lead from to rs same

module _ (first : Opening) (placed : IsPlaced first) where
  -- until the machine is halted
  pub journal_leads : (h : Journal) → Conducted first h → has_halted h ≡ false → JournalLeads first h
  journal_leads [] c none = record { given = tt; blocks = refl; tasks = told_lead first.place (position_of first []) first.tells placed }
  journal_leads (at_port e ∷ h) c none = on_port first h e c.0 (journal_leads h c.1 none)
  journal_leads (began o ∷ h) c none =
      let j = journal_leads h c.1 none in
      keeps first h (began o) refl refl refl
      (tasks_start (goal_of first h) (position_of first h) o.work o.next.parser.pos_steps (all_done first h c.0.free j) (of_begun first h o (Leads (before_of first h)) c.0 refl (line_leads true (caused first h) (open_of h)))) j
  journal_leads (did a ps ∷ h) c none = on_did first h a ps c.1 c.0.0 c.0.1 (journal_leads h c.1 none)
  journal_leads (made_end ∷ h) c none = on_end first h c.0.next (journal_leads h c.1 none)
  journal_leads (evened ∷ h) c none = let j = journal_leads h c.1 none in keeps first h evened refl refl refl (popped first h normal c.0.rests.next refl j) j
  journal_leads (paused ∷ h) c none = let j = journal_leads h c.1 none in keeps first h paused refl refl refl (popped first h pause c.0.rests.next refl j) j
  journal_leads (became call m ∷ h) c none = let j = journal_leads h c.1 none in keeps first h (became call m) refl refl refl j.tasks j
  journal_leads (cut k ∷ h) c none = on_cut first h k (journal_leads h c.1 none)
  journal_leads (halted ∷ h) c none = absurd cc
  journal_leads (closing ∷ h) c none = let j = journal_leads h c.1 none in keeps first h closing refl refl refl (all_done first h c.0.free j) j
  journal_leads (turned t ∷ h) c none = let j = journal_leads h c.1 none in keeps first h (turned t) refl refl refl j.tasks j

  did_joins : (h : Journal) (a : Action) (ps : List Piece) → Conducted first (did a ps ∷ h) → (was : Bool) → has_halted h ≡ was → Join first.place (given_of h) → Join first.place (given_of (did a ps ∷ h))
  did_joins h a ps c true was joined =
      let none = (only_override first h a ps c.0.0 c.0.1 (stage_is first h c.1) was).2 in
      subst (Join first.place) (sym (append-nil (given_of h)) ∙ ap (λ (qs : List Piece). given_of h ++ qs) (sym none)) joined
  did_joins h a ps c false none joined = (journal_leads (did a ps ∷ h) c none).given

  -- behind a halt only the end is given
  pub given_joins : (h : Journal) → Conducted first h → Join first.place (given_of h)
  given_joins [] c = tt
  given_joins (did a ps ∷ h) c = did_joins h a ps c (has_halted h) refl (given_joins h c.1)
  given_joins (made_end ∷ h) c = joined_on first.place (given_of h) pieces.End (given_joins h c.1) tt
  given_joins (cut k ∷ h) c = joined_on first.place (given_of h) (pieces.Mark (marks.Cut k)) (given_joins h c.1) tt
  given_joins (_ ∷ h) c = given_joins h c.1

-- ---- the pieces that are published

-- a piece among others that join
begins_there : (from : Steps3) (early late : List Piece) (p : Piece) → Join from (early ++ p ∷ late) → BeginsAt (moved_by from (flat_map ticks_of early)) p
begins_there from [] late p joined = joined.0
begins_there from (q ∷ early) late p joined =
    subst (λ (at : Steps3). BeginsAt at p) (sym (moved_on from (ticks_of q) (flat_map ticks_of early))) (begins_there (moved_by from (ticks_of q)) early late p joined.1)

front : (from : Steps3) (early late : List Piece) → Join from (early ++ late) → Join from early
front from [] late joined = tt
front from (q ∷ early) late joined = (joined.0, front (moved_by from (ticks_of q)) early late joined.1)

module _ (first : Opening) (h : Journal) (placed : IsPlaced first) (c : Conducted first h) where
  all_join : Join first.place (published_of h ++ hand_of h)
  all_join = subst (Join first.place) (hand_is first h c) (given_joins first placed h c)

  pub next_begins : (p : Piece) → IsInHand p h → BeginsAt (end_from first.place (published_of h)) p
  next_begins p next = begins_there first.place (published_of h) (drop 1 (hand_of h)) p (subst (λ (ps : List Piece). Join first.place (published_of h ++ ps)) next all_join)

  pub within_segment : (early late : List Piece) (s : Segment) (j : ℕ) → published_of h ≡ early ++ pieces.Segment s ∷ late → j ≤ s.n
      → machine_from first.place (published_of h) (ticks_together early + j) ≡ place_after s.mv (s.first + j)
  within_segment early late s j is few =
      let joined : Join first.place (early ++ pieces.Segment s ∷ late) = subst (Join first.place) is (front first.place (published_of h) (hand_of h) all_join) in
      ap (λ (ps : List Piece). machine_from first.place ps (ticks_together early + j)) is ∙ in_segment_from first.place early late s j (begins_there first.place early late (pieces.Segment s) joined) few
