-- A judge goes on: task by task, and by a line that is begun.
use Rattle.std.proofs.Common.{◌≡◌, ℕ, ◌+◌, Bool, true, false, cond, not, ◌&&◌, ◌||◌, List, [], ◌∷◌, ◌++◌, length, drop, append-nil, append_assoc, refl, sym, ap, ◌∙◌, subst, None, Some, ◌<◌, map, suc, arith, zero}
use Rattle.std.specs.declared.option.Option.{Option}
use Rattle.std.specs.List.{AllByRecursion}
use Rattle.std.proofs.lemmas.Grind.{flat_map-append}
use Rattle.flight.specs.Places.{origin}
use Rattle.status_report.specs.declared.Reply.{Reply}
use Rattle.step_line.specs.Asking.Asked.{a_move, a_mark, a_rest}
use Rattle.step_line.specs.Asking.{ticks_of_all, ticks_of_one, moves_of, move_of}
use Rattle.step_line.specs.Counting.{events_of}
use Rattle.step_line.specs.Events.{events_after}
use Rattle.step_line.specs.declared.Record.{Record}
use Rattle.step_line.specs.declared.Record.TheVariants as kinds
use Rattle.step_line.specs.declared.planned_move.PlannedMove.{PlannedMove}
use Rattle.run_rules.specs.declared.State.{State}
use Rattle.run_rules.specs.Work.{Task, Outcome, tells, told_by, asks, asked_by_task, asks_move, has_moves, accepted_code, accepted_jog}
use Rattle.run_rules.specs.Work.Task.{ask, tell, pause, normal, finish, halt}
use Rattle.line_interpreter.specs.Desks.{kind_told}
use Rattle.line_interpreter.specs.Interpreting.{Interpreting}
use Rattle.line_interpreter.specs.Lefts.{IsNextOf, IsTodo}
use Rattle.line_interpreter.specs.declared.tasks.Todo.{Todo}
use Rattle.line_interpreter.specs.declared.tasks.Todo.TheVariants as todos
use Rattle.step_line.specs.declared.Mark.{Mark}
use Rattle.part_making.specs.declared.Item.TheVariants as items
use Rattle.part_making.specs.Judging.{Known, Traced, making, owed_of, item_ticks, item_moves, IsItem}
use Rattle.part_making.specs.declared.Item.{Item}
use Rattle.part_making.proofs.Refused.{asked as asked_next}
use Rattle.run_rules.specs.Reports.{settles}
use Rattle.run_texts.specs.Making.{Making, IsMade}
use Rattle.run_texts.specs.Recorded.{ticks_for_all}
use Rattle.run_texts.specs.Parts.{is_ending}
use Rattle.run_texts.specs.Points.{Point, opening}
use Rattle.run_texts.specs.Sent.{Sent}
use Rattle.run_texts.specs.SoFar.{Reaches}
use Rattle.audit_course.specs.declared.Progress.{Progress}
use Rattle.audit_course.specs.declared.judge.CourseJudge.{CourseJudge}
use Rattle.audit_course.specs.Progressing.{asks_ticks, has_some, has_ticks, is_code, is_whole, ticks_to, is_halt, has_halt, ends_none, Counts, IsUnseen, IsItemOf}
use Rattle.audit_course.specs.SoFar.{GoesTo, HasJudged, KnowsTicks, OfLine, IsBare, IsTouched, OwesBehind, EndsLate, left_to_tell}
use Rattle.audit_course.proofs.Saying.{or_on}
use Rattle.audit_course.proofs.Standing.{idle_whole, are_asked, are_lost}

-- ---- a task is done

-- what has moved behind a line, by what is the same of it
pub same_moved : (settles now of_kind kind moves before was : Bool) → settles ≡ now → of_kind ≡ kind → before ≡ was → (not settles && (of_kind && moves || before)) ≡ (not now && (kind && moves || was))
same_moved settles now of_kind kind moves before was s k b =
    ap (λ (x : Bool). not x && (of_kind && moves || before)) s ∙ ap (λ (x : Bool). not now && (x && moves || before)) k ∙ ap (λ (x : Bool). not now && (kind && moves || x)) b

some_on : (xs ys : List Record) → has_some (xs ++ ys) ≡ (has_some xs || has_some ys)
some_on [] ys = refl
some_on (x ∷ xs) ys = refl

ticks_first : (t : Task) (ts : List Task) → has_ticks (t ∷ ts) ≡ (has_some (ticks_of_all (asked_by_task t)) || has_ticks ts)
ticks_first t ts = ap has_some (flat_map-append ticks_of_one (asked_by_task t) (asks ts)) ∙ some_on (ticks_of_all (asked_by_task t)) (ticks_of_all (asks ts))

-- Whether a line halts the machine, by the tasks that are done or by those that are left, is the same behind each task.
pub halts_on : (before now : Progress) (t : Task) (left rest : List Task) → IsNextOf t left → rest ≡ drop 1 left → Counts before now t → (now.halts || has_halt rest) ≡ (before.halts || has_halt left)
halts_on before now t left rest next is counts = ap (λ (b : Bool). b || has_halt rest) counts.halts ∙ ap (λ (ts : List Task). (before.halts || is_halt t) || has_halt ts) is
    ∙ or_on before.halts (is_halt t) (has_halt (drop 1 left)) ∙ ap (λ (ts : List Task). before.halts || has_halt ts) (sym next)

-- it counts in the line at hand
pub counted : (j k : CourseJudge) (p : Point) (hand : List Outcome) (t : Task) → OfLine j p hand → IsNextOf t j.work.left → k.work.left ≡ drop 1 j.work.left → Counts j.line k.line t → has_some (ticks_of_all (asked_by_task t)) ≡ asks_ticks t
    → k.moved ≡ j.moved → k.jog_moved ≡ j.jog_moved → k.jogged ≡ j.jogged → k.unanswered ≡ j.unanswered → k.in_hand ≡ j.in_hand → OfLine k p hand
counted j k p hand t o next left counts some moved jog_moved jogged unanswered in_hand = record {
  work = o.work;
  limit = o.limit;
  moves = flag has_moves (asks_move t) (λ ts. refl) k.line.moves j.line.moves counts.moves o.work o.moves;
  ticks = flag has_ticks (asks_ticks t) (λ ts. ticks_first t ts ∙ ap (λ (b : Bool). b || has_ticks ts) some) k.line.asks j.line.asks counts.asks o.work o.ticks;
  halts = halts_on j.line k.line t j.work.left k.work.left next left counts ∙ o.halts;
  marks = subst (AllByRecursion (λ (x : Task). ends_none x ≡ true)) (sym left) (subst (AllByRecursion (λ (x : Task). ends_none x ≡ true)) next o.marks).1;
  moved = o.moved ∙ sym (same_moved k.line.settles j.line.settles (accepted_code (kind_told k.line.accepted)) (accepted_code (kind_told j.line.accepted)) (has_moves o.work) k.moved j.moved counts.settles kind moved);
  jog_moved = o.jog_moved ∙ sym (same_moved k.line.settles j.line.settles (accepted_jog (kind_told k.line.accepted)) (accepted_jog (kind_told j.line.accepted)) (has_moves o.work) k.jog_moved j.jog_moved counts.settles jog jog_moved);
  jogged = o.jogged ∙ sym jogged;
  alarmed = o.alarmed ∙ ap (λ (b : Bool). not b && o.limit) (sym unanswered);
  unheld = λ e. o.unheld (sym unanswered ∙ e);
  held = λ e u. o.held (sym in_hand ∙ e) (sym unanswered ∙ u);
  none = λ e. let n = o.none (sym in_hand ∙ e) in record { none = n.none; settles = counts.settles ∙ n.settles; code = kind ∙ n.code; jog = jog ∙ n.jog };
  are = are;
} where
  kind : accepted_code (kind_told k.line.accepted) ≡ accepted_code (kind_told j.line.accepted)
  kind = ap (λ a. accepted_code (kind_told a)) counts.accepted

  jog : accepted_jog (kind_told k.line.accepted) ≡ accepted_jog (kind_told j.line.accepted)
  jog = ap (λ a. accepted_jog (kind_told a)) counts.accepted

  are : AllByRecursion (λ x. (x.work ≡ o.work) × (x.settles ≡ k.line.settles) × (x.kind ≡ kind_told k.line.accepted)) hand
  are = subst (λ (b : Bool). AllByRecursion (λ (x : Outcome). (x.work ≡ o.work) × (x.settles ≡ b) × (x.kind ≡ kind_told k.line.accepted)) hand) (sym counts.settles)
      (subst (λ a. AllByRecursion (λ (x : Outcome). (x.work ≡ o.work) × (x.settles ≡ j.line.settles) × (x.kind ≡ kind_told a)) hand) (sym counts.accepted) o.are)

  flag : (f : List Task → Bool) (here : Bool) → ((ts : List Task) → f (t ∷ ts) ≡ (here || f ts)) → (now before : Bool) → now ≡ (before || here) → (all : List Task)
      → (before || f j.work.left) ≡ f all → (now || f k.work.left) ≡ f all
  flag f here on now before e all is = ap (λ (b : Bool). b || f k.work.left) e ∙ ap (λ (ts : List Task). (before || here) || f ts) left
      ∙ or_on before here (f (drop 1 j.work.left)) ∙ ap (λ (b : Bool). before || b) (sym (on (drop 1 j.work.left))) ∙ ap (λ (ts : List Task). before || f ts) (sym next) ∙ is

pub none_later : (a b : Bool) → (a || b) ≡ false → b ≡ false
none_later true b e = absurd cc
none_later false b e = e

told_on : (replies now left told : List Reply) → replies ++ ((now ++ left) ++ told) ≡ (replies ++ now) ++ (left ++ told)
told_on replies now left told = ap (λ (rs : List Reply). replies ++ rs) (append_assoc now left told) ∙ sym (append_assoc replies now (left ++ told))

-- A task is done, which tells something or nothing, and asks for what the part is to have from then on.
pub task_done : (j : CourseJudge) (t : Task) (w : Interpreting) (l : Progress) (part : Known) (lost : Bool) (first : State) (sent : List Sent) (replies now : List Reply) (records : List Record)
    (ticks : List Record) (moves : List PlannedMove) (s : HasJudged j first sent replies records)
    → IsNextOf t j.work.left → w ≡ record j.work { left = drop 1 j.work.left } → Counts j.line l t → has_some (ticks_of_all (asked_by_task t)) ≡ asks_ticks t
    → left_to_tell j ≡ now ++ cond j.unanswered [] (tells (drop 1 j.work.left))
    → (lost ≡ false → (ticks ≡ ticks_of_all (asks (drop 1 j.work.left))) × (moves ≡ moves_of (asks (drop 1 j.work.left))))
    → IsMade (s.since ++ s.begun) s.made (making part ticks moves) → part.latest ≡ j.part.latest → (lost ≡ true → ticks ≡ [] → ⊥)
    → (j.unanswered ≡ true → is_whole j.answered ≡ false → OwesBehind s.since s.made part) → KnowsTicks (record j { part = part; lost = lost }) s.since s.hand s.made
    → HasJudged (record j { work = w; line = l; part = part; lost = lost }) first sent (replies ++ now) records
task_done j t w l part lost first sent replies now records ticks moves s next is counts some tell_now asked made latest loses behind knows = record {
  point = s.point;
  number = s.number ∙ sym (ap (λ (i : Interpreting). i.number) is);
  state = s.state;
  same_state = λ e. s.same_state e ∙ sym (ap (λ (i : Interpreting). i.state) is);
  locked = s.locked;
  has_line = s.has_line;
  unanswered = s.unanswered;
  hand = s.hand;
  line = counted j (record j { work = w; line = l; part = part; lost = lost }) s.point s.hand t s.line next left counts some refl refl refl refl refl;
  since = s.since;
  begun = s.begun;
  none_begun = s.none_begun;
  from = s.from;
  made = s.made;
  stands = s.stands;
  ticks = ticks;
  moves = moves;
  asked = λ e.
      let a = asked e in
      (a.0 ∙ ap (λ (ts : List Task). ticks_of_all (asks ts)) (sym left), a.1 ∙ ap (λ (ts : List Task). moves_of (asks ts)) (sym left));
  loses_some = loses;
  is_made = made;
  untouched = λ u e. subst (λ (x : Option Traced). IsBare s.since s.made x) (sym latest) (s.untouched u e);
  owes_behind = behind;
  touched = λ u e. subst (λ (x : Option Traced). IsTouched s.since s.made x) (sym latest) (s.touched u e);
  knows = record { before = knows.before; split = knows.split; answered = knows.answered; code = knows.code; settled = knows.settled };
  alarm = s.alarm;
  calm = s.calm;
  at_hand = λ e. ap has_halt left ∙ none_later (is_halt t) (has_halt (drop 1 j.work.left)) (sym (ap has_halt next) ∙ s.at_hand e);
  events = s.events;
  counted = s.counted;
  numbered = ap (λ (i : Interpreting). i.number) is ∙ s.numbered;
  whole = s.whole;
  reached =
      subst (λ (rs : List Reply). Reaches first sent rs records s.point s.since s.begun s.from s.made)
      (ap (λ (rs : List Reply). replies ++ rs) (tell_now ∙ ap (λ (ts : List Task). now ++ cond j.unanswered [] (tells ts)) (sym left)) ∙ sym (append_assoc replies now (cond j.unanswered [] (tells w.left)))) s.reached;
  back = λ n more told rest last g.
      subst (λ (rs : List Reply). GoesTo (opening first) [] [] origin (n + j.cuts) (sent ++ more) rs (records ++ rest) last) (same told) (s.back n more told rest last g);
  forth = λ n more told rest last may g.
      s.forth n more told rest last (record { late = subst (λ (m : ℕ). EndsLate m rest) (ap (λ (i : Interpreting). i.number) is) may.late; resets = may.resets })
      (subst (λ (rs : List Reply). GoesTo (opening first) [] [] origin (n + j.cuts) (sent ++ more) rs (records ++ rest) last) (sym (same told)) g);
} where
  left : w.left ≡ drop 1 j.work.left
  left = ap (λ (i : Interpreting). i.left) is

  same : (told : List Reply) → replies ++ (left_to_tell j ++ told) ≡ (replies ++ now) ++ (cond j.unanswered [] (tells w.left) ++ told)
  same told =
      ap (λ (rs : List Reply). replies ++ (rs ++ told)) (tell_now ∙ ap (λ (ts : List Task). now ++ cond j.unanswered [] (tells ts)) (sym left))
      ∙ told_on replies now (cond j.unanswered [] (tells w.left)) told

-- ---- the tasks, one by one

pub first_told : (u : Bool) (r : Reply) (rs : List Reply) → u ≡ false → cond u [] (r ∷ rs) ≡ (r ∷ []) ++ cond u [] rs
first_told true r rs e = absurd cc
first_told false r rs e = refl

none_told : (u : Bool) (rs : List Reply) → u ≡ true → cond u [] rs ≡ []
none_told true rs e = refl
none_told false rs e = absurd cc

same_knows : (j : CourseJudge) (since hand : List Outcome) (made : List Record) → KnowsTicks j since hand made → KnowsTicks (record j { part = j.part; lost = j.lost }) since hand made
same_knows j since hand made k = record { before = k.before; split = k.split; answered = k.answered; code = k.code; settled = k.settled }

-- a reply is told
pub reply_told : (j : CourseJudge) (r : Reply) (w : Interpreting) (l : Progress) (first : State) (sent : List Sent) (replies : List Reply) (records : List Record) → HasJudged j first sent replies records
    → IsNextOf (tell r) j.work.left → j.unanswered ≡ false → w ≡ record j.work { left = drop 1 j.work.left } → Counts j.line l (tell r)
    → HasJudged (record j { work = w; line = l }) first sent (replies ++ r ∷ []) records
reply_told j r w l first sent replies records s next answered is counts =
    task_done j (tell r) w l j.part j.lost first sent replies (r ∷ []) records s.ticks s.moves s next is counts refl
    (ap (λ (ts : List Task). cond j.unanswered [] (tells ts)) next ∙ first_told j.unanswered r (tells (drop 1 j.work.left)) answered)
    (λ e. let a = s.asked e in (a.0 ∙ ap (λ (ts : List Task). ticks_of_all (asks ts)) next, a.1 ∙ ap (λ (ts : List Task). moves_of (asks ts)) next))
    s.is_made refl s.loses_some s.owes_behind (same_knows j s.since s.hand s.made s.knows)

none_cond : (u : Bool) → ◌≡◌ {A = List Reply} (cond u [] []) []
none_cond true = refl
none_cond false = refl

pub quiet_told : (u : Bool) (t : Task) (ts : List Task) → cond u [] (told_by t) ≡ [] → cond u [] (tells (t ∷ ts)) ≡ cond u [] (tells ts)
quiet_told true t ts e = refl
quiet_told false t ts e = ap (λ (rs : List Reply). rs ++ tells ts) e

quiet_ticks : (t : Task) (ts : List Task) → ticks_of_all (asked_by_task t) ≡ [] → ticks_of_all (asks (t ∷ ts)) ≡ ticks_of_all (asks ts)
quiet_ticks t ts e = flat_map-append ticks_of_one (asked_by_task t) (asks ts) ∙ ap (λ (rs : List Record). rs ++ ticks_of_all (asks ts)) e

quiet_moves : (t : Task) (ts : List Task) → moves_of (asked_by_task t) ≡ [] → moves_of (asks (t ∷ ts)) ≡ moves_of (asks ts)
quiet_moves t ts e = flat_map-append move_of (asked_by_task t) (asks ts) ∙ ap (λ (ms : List PlannedMove). ms ++ moves_of (asks ts)) e

pub quiet_done : (j : CourseJudge) (t : Task) (w : Interpreting) (l : Progress) (first : State) (sent : List Sent) (replies : List Reply) (records : List Record) → HasJudged j first sent replies records
    → IsNextOf t j.work.left → IsUnseen j.unanswered t → w ≡ record j.work { left = drop 1 j.work.left } → Counts j.line l t
    → HasJudged (record j { work = w; line = l }) first sent replies records
quiet_done j t w l first sent replies records s next quiet is counts =
    subst (λ (rs : List Reply). HasJudged (record j { work = w; line = l }) first sent rs records) (append-nil replies)
    (task_done j t w l j.part j.lost first sent replies [] records s.ticks s.moves s next is counts (ap has_some quiet.ticks ∙ sym quiet.none)
    (ap (λ (ts : List Task). cond j.unanswered [] (tells ts)) next ∙ quiet_told j.unanswered t (drop 1 j.work.left) quiet.told)
    (λ e.
    let a = s.asked e in (
      a.0 ∙ ap (λ (ts : List Task). ticks_of_all (asks ts)) next ∙ quiet_ticks t (drop 1 j.work.left) quiet.ticks,
      a.1 ∙ ap (λ (ts : List Task). moves_of (asks ts)) next ∙ quiet_moves t (drop 1 j.work.left) quiet.moves,
    ))
    s.is_made refl s.loses_some s.owes_behind (same_knows j s.since s.hand s.made s.knows))

pub ask_told : (u : Bool) (t : Task) (ts : List Task) → told_by t ≡ [] → cond u [] (tells (t ∷ ts)) ≡ cond u [] (tells ts)
ask_told u t ts e = ap (λ (rs : List Reply). cond u [] (rs ++ tells ts)) e

-- an item has ticks
some_events : (m : PlannedMove) (n : ℕ) → n ≡ events_of m.mv → 0 < n → map kinds.Event (events_after m.mv 0 n) ≡ [] → ⊥
some_events m zero is few e = absurd (omega (arith, few))
some_events m (suc n) is few e = absurd cc

pub item_asks : (t : Task) (item : Item) → IsItem item → IsItemOf t item → ticks_of_all (asked_by_task t) ≡ [] → ⊥
item_asks t (items.Move m) is of e = some_events m (events_of m.mv) refl is.moves (sym of.ticks ∙ e)
item_asks t (items.Mark m) is of e = absurd (let f = sym of.ticks ∙ e in cc)

pub item_counts : (t : Task) (item : Item) → IsItem item → IsItemOf t item → has_some (ticks_of_all (asked_by_task t)) ≡ asks_ticks t
item_counts t item valid of = some (ticks_of_all (asked_by_task t)) (item_asks t item valid of) ∙ sym of.some where
  some : (rs : List Record) → (rs ≡ [] → ⊥) → has_some rs ≡ true
  some [] f = absurd (f refl)
  some (r ∷ rs) f = refl

pub item_asked : (j : CourseJudge) (t : Task) (item : Item) (w : Interpreting) (l : Progress) (part : Known) (first : State) (sent : List Sent) (replies : List Reply) (records : List Record) → HasJudged j first sent replies records
    → IsNextOf t j.work.left → IsItemOf t item → IsItem item → j.lost ≡ false → owed_of j.part ≡ [] → j.part.next ≡ None → part ≡ record j.part { next = Some item } → w ≡ record j.work { left = drop 1 j.work.left } → Counts j.line l t
    → HasJudged (record j { work = w; line = l; part = part }) first sent replies records
item_asked j t item w l part first sent replies records s next of valid kept idle none part_is is counts =
    let rest = drop 1 j.work.left in
    let a = s.asked kept in
    let ticks : s.ticks ≡ item_ticks item ++ ticks_of_all (asks rest) =
    a.0 ∙ ap (λ (ts : List Task). ticks_of_all (asks ts)) next ∙ flat_map-append ticks_of_one (asked_by_task t) (asks rest) ∙ ap (λ (rs : List Record). rs ++ ticks_of_all (asks rest)) of.ticks in
    let moves : s.moves ≡ item_moves item ++ moves_of (asks rest) =
    a.1 ∙ ap (λ (ts : List Task). moves_of (asks ts)) next ∙ flat_map-append move_of (asked_by_task t) (asks rest) ∙ ap (λ (ms : List PlannedMove). ms ++ moves_of (asks rest)) of.moves in
    let same : making j.part s.ticks s.moves ≡ making part (ticks_of_all (asks rest)) (moves_of (asks rest)) =
    ap (λ (rs : List Record). making j.part rs s.moves) ticks ∙ ap (λ (ms : List PlannedMove). making j.part (item_ticks item ++ ticks_of_all (asks rest)) ms) moves
    ∙ asked_next j.part item (ticks_of_all (asks rest)) (moves_of (asks rest)) none ∙ ap (λ (k : Known). making k (ticks_of_all (asks rest)) (moves_of (asks rest))) (sym part_is) in
    subst (λ (rs : List Reply). HasJudged (record j { work = w; line = l; part = part }) first sent rs records) (append-nil replies)
    (task_done j t w l part j.lost first sent replies [] records (ticks_of_all (asks rest)) (moves_of (asks rest)) s next is counts (item_counts t item valid of)
    (ap (λ (ts : List Task). cond j.unanswered [] (tells ts)) next ∙ ask_told j.unanswered t rest of.told)
    (λ e. (refl, refl))
    (subst (λ (m : Making). IsMade (s.since ++ s.begun) s.made m) same s.is_made) (ap (λ (k : Known). k.latest) part_is) (λ e. absurd (let f : false ≡ true = sym kept ∙ e in cc))
    (λ u e. absurd (let f : true ≡ false = sym (ap is_whole (idle_whole j.answered (length (ticks_for_all s.knows.before)) j.part j.lost s.made s.knows.answered idle kept)) ∙ e in cc))
    (record {
      before = s.knows.before;
      split = s.knows.split;
      answered = are_asked j.answered (length (ticks_for_all s.knows.before)) j.part part j.lost s.made s.knows.answered idle kept;
      code = are_asked j.code (ticks_to is_code s.knows.before) j.part part j.lost s.made s.knows.code idle kept;
      settled = are_asked j.settled (ticks_to settles s.knows.before) j.part part j.lost s.made s.knows.settled idle kept;
    }))

none_first : (xs ys : List Record) → xs ++ ys ≡ [] → xs ≡ []
none_first [] ys e = refl
none_first (x ∷ xs) ys e = absurd cc

-- where something is lost, ticks are left that no item waits for
lost_some : (j : CourseJudge) (t : Task) (first : State) (sent : List Sent) (replies : List Reply) (records : List Record) (s : HasJudged j first sent replies records)
    → IsNextOf t j.work.left → (ticks_of_all (asked_by_task t) ≡ [] → ⊥) → (lost : Bool) → j.lost ≡ lost → s.ticks ≡ [] → ⊥
lost_some j t first sent replies records s next some true lost none = s.loses_some lost none
lost_some j t first sent replies records s next some false lost none =
    let ticks : s.ticks ≡ ticks_of_all (asked_by_task t) ++ ticks_of_all (asks (drop 1 j.work.left)) =
    (s.asked lost).0 ∙ ap (λ (ts : List Task). ticks_of_all (asks ts)) next ∙ flat_map-append ticks_of_one (asked_by_task t) (asks (drop 1 j.work.left)) in
    some (none_first (ticks_of_all (asked_by_task t)) (ticks_of_all (asks (drop 1 j.work.left))) (sym ticks ∙ none))

-- what a task asks for is not recorded before the part ends
pub task_lost : (j : CourseJudge) (t : Task) (item : Item) (w : Interpreting) (l : Progress) (first : State) (sent : List Sent) (replies : List Reply) (records : List Record) → HasJudged j first sent replies records
    → IsNextOf t j.work.left → IsItem item → IsItemOf t item → w ≡ record j.work { left = drop 1 j.work.left } → Counts j.line l t
    → HasJudged (record j { work = w; line = l; lost = true }) first sent replies records
task_lost j t item w l first sent replies records s next valid of is counts =
    subst (λ (rs : List Reply). HasJudged (record j { work = w; line = l; lost = true }) first sent rs records) (append-nil replies)
    (task_done j t w l j.part true first sent replies [] records s.ticks s.moves s next is counts (item_counts t item valid of)
    (ap (λ (ts : List Task). cond j.unanswered [] (tells ts)) next ∙ ask_told j.unanswered t (drop 1 j.work.left) of.told)
    (λ e. absurd cc)
    s.is_made refl (λ e. lost_some j t first sent replies records s next (item_asks t item valid of) j.lost refl) s.owes_behind
    (record {
      before = s.knows.before;
      split = s.knows.split;
      answered = are_lost j.answered (length (ticks_for_all s.knows.before)) j.part j.lost s.made s.knows.answered;
      code = are_lost j.code (ticks_to is_code s.knows.before) j.part j.lost s.made s.knows.code;
      settled = are_lost j.settled (ticks_to settles s.knows.before) j.part j.lost s.made s.knows.settled;
    }))

-- ---- which tasks are so

same_task : (t u : Task) (left : List Task) → IsNextOf t left → IsNextOf u left → t ≡ u
same_task t u left a b = cc (a, b)

pub quiet_by : (u : Bool) (todo : Todo) (left : List Task) → IsTodo todo left → (todo ≡ todos.Move → ⊥) → ((m : Mark) → todo ≡ todos.Mark m → ⊥) → (todo ≡ todos.Tell → u ≡ true) → (t : Task) → IsNextOf t left → IsUnseen u t
quiet_by u todos.Nothing left is move mark tells t next = absurd (cc (is, next))
quiet_by u todos.Rest left is move mark tells t next = subst (IsUnseen u) (same_task (ask a_rest) t left is next) (record { told = none_cond u; ticks = refl; moves = refl; none = refl })
quiet_by u (todos.Mark m) left is move mark tells t next = absurd (mark m refl)
quiet_by u todos.Move left is move mark tells t next = absurd (move refl)
quiet_by u todos.Tell left is move mark tells t next = subst (IsUnseen u) (same_task (tell is.0) t left is.1 next) (record { told = none_told u (is.0 ∷ []) (tells refl); ticks = refl; moves = refl; none = refl })
quiet_by u todos.Pause left is move mark tells t next = subst (IsUnseen u) (same_task pause t left is next) (record { told = none_cond u; ticks = refl; moves = refl; none = refl })
quiet_by u todos.Normal left is move mark tells t next = subst (IsUnseen u) (same_task normal t left is next) (record { told = none_cond u; ticks = refl; moves = refl; none = refl })
quiet_by u todos.Finish left is move mark tells t next = subst (IsUnseen u) (same_task finish t left is next) (record { told = none_cond u; ticks = refl; moves = refl; none = refl })
quiet_by u todos.Halt left is move mark tells t next = subst (IsUnseen u) (same_task halt t left is next) (record { told = none_cond u; ticks = refl; moves = refl; none = refl })

pub move_item : (m : PlannedMove) (t : Task) (left : List Task) → IsNextOf (ask (a_move m)) left → IsNextOf t left → IsItemOf t (items.Move m)
move_item m t left is next = subst (λ (x : Task). IsItemOf x (items.Move m)) (same_task (ask (a_move m)) t left is next) (record { ticks = append-nil (item_ticks (items.Move m)); moves = refl; told = refl; some = refl })

pub mark_item : (m : Mark) (t : Task) (left : List Task) → IsNextOf (ask (a_mark m)) left → IsNextOf t left → IsItemOf t (items.Mark m)
mark_item m t left is next = subst (λ (x : Task). IsItemOf x (items.Mark m)) (same_task (ask (a_mark m)) t left is next) (record { ticks = refl; moves = refl; told = refl; some = refl })

-- a line asks for no mark that ends a part
pub ends_no_part : {A : Type 0} (m : Mark) (left : List Task) → AllByRecursion (λ t. ends_none t ≡ true) left → IsNextOf (ask (a_mark m)) left → is_ending (kinds.Mark m) ≡ true → A
ends_no_part m left none next ending =
    let here : not (is_ending (kinds.Mark m)) ≡ true = (subst (AllByRecursion (λ (t : Task). ends_none t ≡ true)) next none).0 in
    absurd (let f : false ≡ true = sym (ap not ending) ∙ here in cc)

pub some_next : (left : List Task) → (left ≡ [] → ⊥) → (t : Task) × IsNextOf t left
some_next [] some = absurd (some refl)
some_next (t ∷ ts) some = (t, refl)

-- no task halts the machine where none is left that does
pub halts_same : (before now : Progress) (t : Task) (left : List Task) → IsNextOf t left → Counts before now t → has_halt left ≡ false → now.halts ≡ before.halts
halts_same before now t left next counts none = counts.halts ∙ by before.halts (is_halt t) (has_halt (drop 1 left)) (sym (ap has_halt next) ∙ none) where
  by : (a b c : Bool) → (b || c) ≡ false → (a || b) ≡ a
  by true b c e = refl
  by false true c e = absurd cc
  by false false c e = refl
