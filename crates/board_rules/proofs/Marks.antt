-- Marks come where nothing is left to run.
use Rattle.std.proofs.Common.{◌≡◌, ℕ, ◌==◌, if◌then◌else◌, ◌⊎◌, inl, inr, Bool, true, false, List, [], ◌∷◌, ◌++◌, drop, sym, refl, subst, append_assoc}
use Rattle.settings.specs.declared.Settings.{Settings}
use Rattle.modal_state.specs.declared.SpindleMode.{SpindleMode}
use Rattle.modal_state.specs.declared.SpindleMode.TheVariants.{Off, Cw, Ccw}
use Rattle.gcode_check.specs.declared.Item.{Item}
use Rattle.gcode_check.specs.declared.Item.TheVariants as items
use Rattle.status_report.specs.declared.Reply.{Reply}
use Rattle.status_report.specs.declared.Reply.TheVariants as replies
use Rattle.step_line.specs.Counting.{events_of}
use Rattle.step_line.specs.declared.Mark.{Mark as AnyMark}
use Rattle.step_line.specs.declared.Piece.{Piece}
use Rattle.step_line.specs.declared.planned_move.PlannedMove.{PlannedMove}
use Rattle.step_line.specs.Asking.Asked.{a_move, a_mark, a_rest}
use Rattle.plan_rules.specs.declared.Mode.TheVariants.{Go, Hold}
use Rattle.overrides.specs.declared.Overrides.{Overrides}
use Rattle.plan_rules.specs.Plans.{Planned}
use Rattle.planner_runs.specs.declared.Action.{Action}
use Rattle.planner_runs.specs.declared.Action.TheVariants.{Add, Take, Override, Mark, Rest, Clear, Reset}
use Rattle.planner_runs.specs.Runs.{IsAtRest, cleared, normal_overrides}
use Rattle.run_rules.specs.Asks.{spindle_after, flood_after, item_work, work_of, planned}
use Rattle.run_rules.specs.Work.{Task, Outcome, asking, telling}
use Rattle.run_rules.specs.Work.Task.{ask, tell, pause, normal, finish, halt}
use Rattle.run_rules.specs.Outcomes.{Before, Becomes}
use Rattle.board_journal.specs.Openings.{Opening}
use Rattle.board_journal.specs.Ports.PortStep.{answered}
use Rattle.board_journal.specs.Steps.{Journal, open_of, left_of, left_by, without_asks, plan_after, plan_of}
use Rattle.board_journal.specs.Steps.Step.{at_port, began, did, made_end, evened, paused, cut, halted, closing}
use Rattle.board_rules.specs.Turns.{counts_tries}
use Rattle.board_rules.proofs.Beginning.{caused, of_begun}
use Rattle.board_rules.specs.Conduct.{Conducted, Gives, MayDo, IsNextTask}
use Rattle.board_rules.proofs.Tasks.{none_taken}
use Rattle.run_rules.proofs.Each.{HoldsOfEach, holds_of_each}

-- ---- where marks stand

-- something is asked of the machine next
abbrev pub asks_next : List Task → Bool
asks_next (ask a ∷ ts) = true
asks_next _ = false

-- Each mark stands behind a rest or another mark; or first, where nothing is left to run. Behind it stands a rest or another mark, too.
abbrev pub MarksRest : Bool → List Task → Type 0
MarksRest rests [] = Unit {0}
MarksRest rests (ask a_rest ∷ ts) = MarksRest true ts
MarksRest rests (ask (a_move m) ∷ ts) = MarksRest false ts
MarksRest rests (ask (a_mark m) ∷ ts) = (rests ≡ true) × (asks_next ts ≡ true) × MarksRest rests ts
MarksRest rests (_ ∷ ts) = MarksRest rests ts

at_rest_too : (ts : List Task) → MarksRest false ts → MarksRest true ts
at_rest_too [] rest = tt
at_rest_too (ask a_rest ∷ ts) rest = rest
at_rest_too (ask (a_move m) ∷ ts) rest = rest
at_rest_too (ask (a_mark m) ∷ ts) rest = absurd (let e = rest.0 in cc)
at_rest_too (_ ∷ ts) rest = at_rest_too ts rest

abbrev answer : List Task
answer = tell replies.Ok ∷ []

item_marks : (line : ℕ) (s : Settings) (spindle : SpindleMode) (flood : Bool) (item : Item) (ts : List Task) → MarksRest false ts
    → MarksRest false (item_work line s spindle flood item ++ ts)
item_marks line s spindle flood (items.Move mv rate) ts rest = by_events (events_of mv == 0) refl
  where
    by_events : (b : Bool) → (events_of mv == 0) ≡ b → MarksRest false (item_work line s spindle flood (items.Move mv rate) ++ ts)
    by_events true is = rw is rest
    by_events false is = rw is rest
item_marks line s spindle flood items.Pause ts rest = at_rest_too ts rest
item_marks line s Off true items.ProgramEnd ts rest = (refl, refl, at_rest_too ts rest)
item_marks line s Off false items.ProgramEnd ts rest = at_rest_too ts rest
item_marks line s Cw true items.ProgramEnd ts rest = (refl, refl, (refl, refl, at_rest_too ts rest))
item_marks line s Cw false items.ProgramEnd ts rest = (refl, refl, at_rest_too ts rest)
item_marks line s Ccw true items.ProgramEnd ts rest = (refl, refl, (refl, refl, at_rest_too ts rest))
item_marks line s Ccw false items.ProgramEnd ts rest = (refl, refl, at_rest_too ts rest)
item_marks line s spindle flood _ ts rest = (refl, refl, at_rest_too ts rest)

work_marks : (line : ℕ) (s : Settings) (spindle : SpindleMode) (flood : Bool) (all : List Item) → MarksRest false (work_of line s spindle flood all ++ answer)
work_marks line s spindle flood [] = tt
work_marks line s spindle flood (item ∷ more) =
    let later = work_of line s (spindle_after spindle item) (flood_after flood item) more in
    subst (λ (ts : List Task). MarksRest false ts) (sym (append_assoc (item_work line s spindle flood item) later answer))
    (item_marks line s spindle flood item (later ++ answer) (work_marks line s (spindle_after spindle item) (flood_after flood item) more))

told_marks : (rs : List Reply) → MarksRest false (telling rs)
told_marks [] = tt
told_marks (r ∷ rs) = told_marks rs

-- a jog has no mark
jog_marks : (none : Bool) (m : PlannedMove) → MarksRest false (asking (if none then [] else a_move m ∷ []) ++ tell replies.Ok ∷ [])
jog_marks true m = tt
jog_marks false m = tt

line_marks : (runs : Bool) (b : Before) (kept : List ℕ) (o : Outcome) → Becomes runs b kept o → MarksRest false o.work
line_marks runs b kept o is =
    let modal = b.state.parser.modal in
    let each : HoldsOfEach b (λ (o : Outcome). MarksRest false o.work) = record {
      refuses = λ n. tt;
      tells = λ next body kind. told_marks (body ++ replies.Ok ∷ []);
      executes = λ a. work_marks b.number b.state.settings modal.spindle modal.flood a.items.items;
      jogs = λ jog. jog_marks (events_of jog.mv == 0) (planned b.number b.state.settings jog.mv jog.rate);
      limits = tt;
    } in
    holds_of_each runs b (λ (o : Outcome). MarksRest false o.work) each kept o is

-- ---- what a board has left to do

-- what holds where a mark is next
abbrev NextMark : Bool → List Task → Type 0
NextMark rests ts = (rests ≡ true) × (asks_next ts ≡ true) × MarksRest rests ts

abbrev Marked : List Task → Planned → Type 0
Marked left plan = MarksRest false left ⊎ (IsAtRest plan × MarksRest true left)

-- a reply or the end is next
on_told : (left : List Task) (plan : Planned) (r : Reply) → left ≡ tell r ∷ drop 1 left → Marked left plan → Marked (drop 1 left) plan
on_told left plan r next (inl rest) = inl (subst (λ (ts : List Task). MarksRest false ts) next rest)
on_told left plan r next (inr (stands, rest)) = inr (stands, subst (λ (ts : List Task). MarksRest true ts) next rest)

on_pause : (left : List Task) (plan : Planned) → left ≡ pause ∷ drop 1 left → Marked left plan → Marked (drop 1 left) plan
on_pause left plan next (inl rest) = inl (subst (λ (ts : List Task). MarksRest false ts) next rest)
on_pause left plan next (inr (stands, rest)) = inr (stands, subst (λ (ts : List Task). MarksRest true ts) next rest)

-- other overrides leave a plan at rest so
with_overrides : (left : List Task) (plan : Planned) (o : Overrides) → Marked left plan → Marked left (record plan { overrides = o })
with_overrides left plan o (inl rest) = inl rest
with_overrides left plan o (inr (stands, rest)) = inr (record { blocks = stands.blocks; speed = stands.speed }, rest)

on_normal : (left : List Task) (plan : Planned) → left ≡ normal ∷ drop 1 left → Marked left plan → Marked (drop 1 left) plan
on_normal left plan next (inl rest) = inl (subst (λ (ts : List Task). MarksRest false ts) next rest)
on_normal left plan next (inr (stands, rest)) = inr (stands, subst (λ (ts : List Task). MarksRest true ts) next rest)

on_end : (left : List Task) (plan : Planned) → left ≡ finish ∷ drop 1 left → Marked left plan → Marked (drop 1 left) plan
on_end left plan next (inl rest) = inl (subst (λ (ts : List Task). MarksRest false ts) next rest)
on_end left plan next (inr (stands, rest)) = inr (stands, subst (λ (ts : List Task). MarksRest true ts) next rest)

-- nothing is left to run of a plan that is dropped
on_halt : (left : List Task) (plan : Planned) → left ≡ halt ∷ drop 1 left → Marked left plan → Marked (drop 1 left) (cleared plan)
on_halt left plan next (inl rest) = inl (subst (λ (ts : List Task). MarksRest false ts) next rest)
on_halt left plan next (inr (stands, rest)) = inr (record { blocks = refl; speed = refl }, subst (λ (ts : List Task). MarksRest true ts) next rest)

on_did : (first : Opening) (h : Journal) (a : Action) (ps : List Piece) → MayDo first a h → Gives first.blocks a ps (plan_of h) → Marked (left_of first h) (plan_of h)
    → Marked (left_by a (left_of first h)) (plan_after a ps (plan_of h))
on_did first h (Add m) ps may gives (inl rest) = inl (subst (λ (ts : List Task). MarksRest false ts) may rest)
on_did first h (Add m) ps may gives (inr (stands, rest)) = inl (subst (λ (ts : List Task). MarksRest true ts) may rest)
on_did first h (Mark m) ps may gives (inl rest) =
    absurd (let r : NextMark false (drop 1 (left_of first h)) = subst (λ (ts : List Task). MarksRest false ts) may.next rest in let e = r.0 in cc)
on_did first h (Mark m) ps may gives (inr (stands, rest)) =
    let r : NextMark true (drop 1 (left_of first h)) = subst (λ (ts : List Task). MarksRest true ts) may.next rest in inr (stands, r.2)
on_did first h Rest ps may gives (inl rest) = inr (may.drained.plan, subst (λ (ts : List Task). MarksRest false ts) may.next rest)
on_did first h Rest ps may gives (inr (stands, rest)) = inr (may.drained.plan, subst (λ (ts : List Task). MarksRest true ts) may.next rest)
on_did first h (Take Go) ps may gives (inl rest) = inl rest
on_did first h (Take Go) ps may gives (inr (stands, rest)) = absurd (none_taken first.blocks (plan_of h) Go ps (plan_after (Take Go) ps (plan_of h)) stands.blocks gives)
on_did first h (Take Hold) ps may gives (inl rest) = inl rest
on_did first h (Take Hold) ps may gives (inr (stands, rest)) = absurd (none_taken first.blocks (plan_of h) Hold ps (plan_after (Take Hold) ps (plan_of h)) stands.blocks gives)
on_did first h (Override o) ps may gives m = with_overrides (left_of first h) (plan_of h) o m
on_did first h Clear ps may gives m = absurd may
on_did first h Reset ps may gives m = absurd may

-- a cut drops the marks
marks_dropped : (ts : List Task) → MarksRest false (without_asks ts)
marks_dropped [] = tt
marks_dropped (ask a ∷ ts) = marks_dropped ts
marks_dropped (_ ∷ ts) = marks_dropped ts

marks_told : (rs : List Reply) → MarksRest false (telling rs)
marks_told [] = tt
marks_told (r ∷ rs) = marks_told rs

marked : (first : Opening) (h : Journal) → Conducted first h → Marked (left_of first h) (plan_of h)
marked first [] c = inl (marks_told first.tells)
marked first (at_port (answered r) ∷ h) c = on_told (left_of first h) (plan_of h) r c.0.next (marked first h c.1)
marked first (began o ∷ h) c = inl (of_begun first h o (λ (x : Outcome). MarksRest false x.work) c.0 tt (line_marks true (caused first h) (open_of h)))
marked first (did a ps ∷ h) c = on_did first h a ps c.0.0 c.0.1 (marked first h c.1)
marked first (made_end ∷ h) c = on_end (left_of first h) (plan_of h) c.0.next (marked first h c.1)
marked first (evened ∷ h) c = with_overrides (drop 1 (left_of first h)) (plan_of h) normal_overrides (on_normal (left_of first h) (plan_of h) c.0.rests.next (marked first h c.1))
marked first (paused ∷ h) c = on_pause (left_of first h) (plan_of h) c.0.rests.next (marked first h c.1)
marked first (cut k ∷ h) c = inl (marks_dropped (left_of first h))
marked first (halted ∷ h) c = on_halt (left_of first h) (plan_of h) c.0.next (marked first h c.1)
marked first (closing ∷ h) c = inl tt
marked first (_ ∷ h) c = marked first h c.1

-- a mark comes only where nothing is left to run
pub mark_at_rest : (first : Opening) (h : Journal) (m : AnyMark) → Conducted first h → IsNextTask first (ask (a_mark m)) h → IsAtRest (plan_of h)
mark_at_rest first h m c next = by_marked (marked first h c)
  where
    by_marked : Marked (left_of first h) (plan_of h) → IsAtRest (plan_of h)
    by_marked (inl rest) = absurd (let r : NextMark false (drop 1 (left_of first h)) = subst (λ (ts : List Task). MarksRest false ts) next rest in let e = r.0 in cc)
    by_marked (inr (stands, rest)) = stands

-- and no reply comes at once behind it
pub none_behind_mark : (first : Opening) (h : Journal) (m : AnyMark) → Conducted first h → IsNextTask first (ask (a_mark m)) h → counts_tries (drop 1 (left_of first h)) false ≡ false
none_behind_mark first h m c next = by_marked (marked first h c)
  where
    none_of : (ts : List Task) → asks_next ts ≡ true → counts_tries ts false ≡ false
    none_of [] asks = absurd cc
    none_of (ask a ∷ ts) asks = refl
    none_of (tell r ∷ ts) asks = absurd cc
    none_of (pause ∷ ts) asks = absurd cc
    none_of (normal ∷ ts) asks = absurd cc
    none_of (finish ∷ ts) asks = absurd cc
    none_of (halt ∷ ts) asks = absurd cc

    by_marked : Marked (left_of first h) (plan_of h) → counts_tries (drop 1 (left_of first h)) false ≡ false
    by_marked (inl rest) = let r : NextMark false (drop 1 (left_of first h)) = subst (λ (ts : List Task). MarksRest false ts) next rest in none_of (drop 1 (left_of first h)) r.1
    by_marked (inr (stands, rest)) = let r : NextMark true (drop 1 (left_of first h)) = subst (λ (ts : List Task). MarksRest true ts) next rest in none_of (drop 1 (left_of first h)) r.1
