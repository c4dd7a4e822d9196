-- Lists of tasks of which so many are done.
use Rattle.std.proofs.Common.{◌≡◌, ℕ, zero, suc, ◌+◌, ◌<◌, ◌≤◌, ◌==◌, Bool, true, false, if◌then◌else◌, List, [], ◌∷◌, ◌++◌, length, drop, get_or, Some, sym, refl, ap, ◌∙◌, subst, arith, append-nil}
use Rattle.std.specs.List.{slice_get}
use Rattle.std.proofs.lemmas.Bool.Decides.{nat_tests}
use Rattle.std.proofs.lemmas.List.{drop_all}
use Rattle.std.proofs.lemmas.Option.{slice_get-get_or, same_Some}
use Rattle.units.specs.declared.Rate.{Rate}
use Rattle.units.specs.declared.Move.{Move as Way}
use Rattle.settings.specs.declared.Settings.{Settings}
use Rattle.modal_state.specs.declared.Offsets.{Offsets}
use Rattle.status_report.specs.Lists.{setting_replies, offset_replies}
use Rattle.status_report.specs.declared.Reply.{Reply}
use Rattle.status_report.specs.declared.Reply.TheVariants as replies
use Rattle.status_report.specs.declared.Message.TheVariants as messages
use Rattle.modal_state.specs.declared.SpindleMode.{SpindleMode}
use Rattle.modal_state.specs.declared.SpindleMode.TheVariants.{Off, Cw, Ccw}
use Rattle.gcode_check.specs.declared.Item.{Item}
use Rattle.gcode_check.specs.declared.Item.TheVariants as items
use Rattle.step_line.specs.declared.planned_move.PlannedMove.{PlannedMove}
use Rattle.step_line.specs.Counting.{events_of}
use Rattle.step_line.specs.Asking.Asked.{a_move, a_mark, a_rest}
use Rattle.run_rules.specs.declared.State.{State}
use Rattle.run_rules.specs.Work.{Task, soft_limit, halting_work, telling, asking}
use Rattle.run_rules.specs.Work.Task.{ask, tell, pause, normal, finish, halt}
use Rattle.run_rules.specs.Asks.{item_work, planned, move_asked}
use Rattle.run_rules.proofs.Items.{PassesTasks, holds_of_work}
use Rattle.line_interpreter.specs.declared.tasks.Line.{Line}
use Rattle.line_interpreter.specs.declared.tasks.Body.{Body}
use Rattle.line_interpreter.specs.declared.tasks.Body.TheVariants.{Opening, Greets, Closing, Accepted, Unlocks, Refused, Settings as TheSettings, Modes, Offsets as TheOffsets, Limited, Items}
use Rattle.line_interpreter.specs.declared.tasks.Todo.{Todo}
use Rattle.line_interpreter.specs.declared.tasks.Todo.TheVariants as todo
use Rattle.line_interpreter.specs.Lefts.{greeting, IsTodo, IsNextOf, IsSettled, part, part_of, part_left, later, work_left}

pub row_is : (rs : List Reply) (more : List Reply) (k : ℕ) (r : Reply) → slice_get rs k ≡ Some r → IsNextOf (tell r) (drop k (telling (rs ++ more)))
row_is [] more k r e = absurd cc
row_is (x ∷ rs) more zero r e = let same : x ≡ r = cc in rw same refl
row_is (x ∷ rs) more (suc k) r e = row_is rs more k r e

-- no task is left, or the replies that are left are told one by one
pub told_next : (rs : List Reply) (k : ℕ) → k < length rs → IsTodo todo.Tell (drop k (telling rs))
told_next [] k few = absurd (omega (arith, few))
told_next (r ∷ rs) zero few = (r, refl)
told_next (r ∷ rs) (suc k) few = told_next rs k (omega (arith, few))

telling_many : (rs : List Reply) → length (telling rs) ≡ length rs
telling_many [] = refl
telling_many (r ∷ rs) = ap suc (telling_many rs)

pub told_none : (rs : List Reply) (k : ℕ) → length rs ≤ k → drop k (telling rs) ≡ []
told_none rs k few = let all = telling_many rs in drop_all k (telling rs) (omega (arith, all, few))

has_move : (m : PlannedMove) (none : Bool) → 0 < events_of m.mv → (events_of m.mv == 0) ≡ none → IsTodo todo.Move (asking (if none then [] else a_move m ∷ []))
has_move m true some e = absurd (grind (arith, nat_tests, some, e))
has_move m false some e = (m, refl)

-- a move of some steps is next
pub move_next : (mv : Way) (m : PlannedMove) (stage n : ℕ) → stage ≡ 0 → m.mv ≡ mv → n ≡ events_of mv → (n ≡ 0 → ⊥) → IsTodo todo.Move (drop stage (asking (move_asked m)))
move_next mv m stage n first is e some =
    let many : events_of m.mv ≡ n = ap events_of is ∙ sym e in
    rw first (has_move m (events_of m.mv == 0) (grind (arith, many, some)) refl)

-- ---- what is told next

-- a task is one alone
same_reply : (tasks : List Task) (x r : Reply) → IsNextOf (tell x) tasks → IsNextOf (tell r) tasks → x ≡ r
same_reply tasks x r e f = let g : tell x ∷ drop 1 tasks ≡ tell r ∷ drop 1 tasks = sym e ∙ f in cc

pub row_told : (rs more : List Reply) (k : ℕ) (x r : Reply) → slice_get rs k ≡ Some x → IsNextOf (tell r) (drop k (telling (rs ++ more))) → x ≡ r
row_told rs more k x r e f = same_reply (drop k (telling (rs ++ more))) x r (row_is rs more k x e) f

-- nothing else than this is told
abbrev pub TellsOnly : Reply → List Task → Type 0
TellsOnly x [] = Unit {0}
TellsOnly x (tell r ∷ ts) = (x ≡ r) × TellsOnly x ts
TellsOnly x (_ ∷ ts) = TellsOnly x ts

first_told : (x r : Reply) (t : Task) (ts : List Task) → TellsOnly x (t ∷ ts) → IsNextOf (tell r) (t ∷ ts) → x ≡ r
first_told x r (tell y) ts only e = let f : y ≡ r = cc in only.0 ∙ f
first_told x r (ask a) ts only e = absurd cc
first_told x r pause ts only e = absurd cc
first_told x r normal ts only e = absurd cc
first_told x r finish ts only e = absurd cc
first_told x r halt ts only e = absurd cc

none_first : (t : Task) → IsNextOf t [] → ⊥
none_first t e = cc

pub only_told : (x r : Reply) (w : List Task) (k : ℕ) → TellsOnly x w → IsNextOf (tell r) (drop k w) → x ≡ r
only_told x r [] zero only e = absurd (none_first (tell r) e)
only_told x r [] (suc k) only e = absurd (none_first (tell r) e)
only_told x r (t ∷ ts) zero only e = first_told x r t ts only e
only_told x r (tell y ∷ ts) (suc k) only e = only_told x r ts k only.1 e
only_told x r (ask a ∷ ts) (suc k) only e = only_told x r ts k only e
only_told x r (pause ∷ ts) (suc k) only e = only_told x r ts k only e
only_told x r (normal ∷ ts) (suc k) only e = only_told x r ts k only e
only_told x r (finish ∷ ts) (suc k) only e = only_told x r ts k only e
only_told x r (halt ∷ ts) (suc k) only e = only_told x r ts k only e

pub ok_told : (rs : List Reply) (k : ℕ) (r : Reply) → length rs ≤ k → IsNextOf (tell r) (drop k (telling (rs ++ replies.Ok ∷ []))) → replies.Ok ≡ r
ok_told [] k r few e = only_told replies.Ok r (tell replies.Ok ∷ []) k (refl, tt) e
ok_told (x ∷ rs) zero r few e = absurd (omega (arith, few))
ok_told (x ∷ rs) (suc k) r few e = ok_told rs k r (omega (arith, few)) e

-- a halt is told by the alarm, and then by its message
pub alarm_told : (k : ℕ) (r : Reply) → k ≡ 1 → IsNextOf (tell r) (drop k halting_work) → replies.Alarm soft_limit ≡ r
alarm_told k r is e =
    let f : IsNextOf (tell r) (drop 1 halting_work) = subst (λ (n : ℕ). IsNextOf (tell r) (drop n halting_work)) is e in
    same_reply (drop 1 halting_work) (replies.Alarm soft_limit) r refl f

behind_alarm : (k : ℕ) (r : Reply) → (k ≡ 0 → ⊥) → IsNextOf (tell r) (drop k (tell (replies.Alarm soft_limit) ∷ tell (replies.Message messages.ResetToContinue) ∷ []))
    → replies.Message messages.ResetToContinue ≡ r
behind_alarm zero r other e = absurd (other refl)
behind_alarm (suc k) r other e = only_told (replies.Message messages.ResetToContinue) r (tell (replies.Message messages.ResetToContinue) ∷ []) k (refl, tt) e

pub message_told : (k : ℕ) (r : Reply) → (k ≡ 1 → ⊥) → IsNextOf (tell r) (drop k halting_work) → replies.Message messages.ResetToContinue ≡ r
message_told zero r other e = absurd cc
message_told (suc k) r other e = behind_alarm k r (λ first. other (omega (arith, first))) e

-- of the items none but a program's end tells something
item_only : (line : ℕ) (s : Settings) (spindle : SpindleMode) (flood : Bool) (item : Item) → TellsOnly (replies.Message messages.ProgramEnd) (item_work line s spindle flood item)
item_only line s spindle flood item =
    let work = item_work line s spindle flood item in
    let each : PassesTasks (TellsOnly (replies.Message messages.ProgramEnd)) = record { asks = λ a ts is only. only; pauses = λ ts only. only; normals = λ ts only. only; ends = λ ts only. (refl, only) } in
    subst (TellsOnly (replies.Message messages.ProgramEnd)) (append-nil (work ++ []) ∙ append-nil work) (holds_of_work (TellsOnly (replies.Message messages.ProgramEnd)) each line s spindle flood (item ∷ []) [] tt)

pub item_told : (line : ℕ) (s : State) (spindle : SpindleMode) (flood : Bool) (all : List Item) (place k : ℕ) (r : Reply) → place < length all
    → IsNextOf (tell r) (drop k (part Items line s spindle flood (drop place all))) → replies.Message messages.ProgramEnd ≡ r
item_told line s spindle flood [] place k r within e = absurd (omega (arith, within))
item_told line s spindle flood (item ∷ all) zero k r within e = only_told (replies.Message messages.ProgramEnd) r (item_work line s.settings spindle flood item) k (item_only line s.settings spindle flood item) e
item_told line s spindle flood (item ∷ all) (suc place) k r within e = item_told line s spindle flood all place k r (omega (arith, within)) e

-- behind the items the line is answered
pub items_told : (line : ℕ) (s : State) (spindle : SpindleMode) (flood : Bool) (all : List Item) (place k : ℕ) (r : Reply) → length all ≤ place
    → IsNextOf (tell r) (drop k (part Items line s spindle flood (drop place all))) → replies.Ok ≡ r
items_told line s spindle flood all place k r past e =
    let none = drop_all place all past in
    let f : IsNextOf (tell r) (drop k (part Items line s spindle flood [])) = subst (λ (left : List Item). IsNextOf (tell r) (drop k (part Items line s spindle flood left))) none e in
    only_told replies.Ok r (tell replies.Ok ∷ []) k (refl, tt) f

-- ---- which move is next

abbrev NoMoves : List Task → Type 0
NoMoves [] = Unit {0}
NoMoves (ask (a_move m) ∷ ts) = ⊥
NoMoves (_ ∷ ts) = NoMoves ts

no_move : (m : PlannedMove) (w : List Task) (k : ℕ) → NoMoves w → IsNextOf (ask (a_move m)) (drop k w) → ⊥
no_move m [] zero none e = none_first (ask (a_move m)) e
no_move m [] (suc k) none e = none_first (ask (a_move m)) e
no_move m (ask (a_move x) ∷ ts) k none e = none
no_move m (ask (a_mark x) ∷ ts) zero none e = cc
no_move m (ask a_rest ∷ ts) zero none e = cc
no_move m (tell r ∷ ts) zero none e = cc
no_move m (pause ∷ ts) zero none e = cc
no_move m (normal ∷ ts) zero none e = cc
no_move m (finish ∷ ts) zero none e = cc
no_move m (halt ∷ ts) zero none e = cc
no_move m (ask (a_mark x) ∷ ts) (suc k) none e = no_move m ts k none e
no_move m (ask a_rest ∷ ts) (suc k) none e = no_move m ts k none e
no_move m (tell r ∷ ts) (suc k) none e = no_move m ts k none e
no_move m (pause ∷ ts) (suc k) none e = no_move m ts k none e
no_move m (normal ∷ ts) (suc k) none e = no_move m ts k none e
no_move m (finish ∷ ts) (suc k) none e = no_move m ts k none e
no_move m (halt ∷ ts) (suc k) none e = no_move m ts k none e

told_no_moves : (rs : List Reply) → NoMoves (telling rs)
told_no_moves [] = tt
told_no_moves (r ∷ rs) = told_no_moves rs

-- the move of an item
record IsMoveOf (line : ℕ) (s : Settings) (item : Item) (m : PlannedMove) : Type 0 where
  pub item_is : item ≡ items.Move m.mv m.rate
  pub move_is : m ≡ planned line s m.mv m.rate
  pub moves : 0 < events_of m.mv

one_move : (line : ℕ) (s : Settings) (mv : Way) (rate : Rate) (k : ℕ) (m : PlannedMove) (none : Bool) → (events_of mv == 0) ≡ none
    → IsNextOf (ask (a_move m)) (drop k (asking (if none then [] else a_move (planned line s mv rate) ∷ []))) → IsMoveOf line s (items.Move mv rate) m
one_move line s mv rate k m true is e = absurd (no_move m [] k tt e)
one_move line s mv rate (suc k) m false is e = absurd (no_move m [] k tt e)
one_move line s mv rate zero m false is e =
    let same : planned line s mv rate ≡ m = cc in
    let some : 0 < events_of mv = grind (arith, nat_tests, is) in
    subst (λ (x : PlannedMove). IsMoveOf line s (items.Move mv rate) x) same (record { item_is = refl; move_is = refl; moves = some })

item_moves : (line : ℕ) (s : Settings) (spindle : SpindleMode) (flood : Bool) (item : Item) (k : ℕ) (m : PlannedMove)
    → IsNextOf (ask (a_move m)) (drop k (item_work line s spindle flood item)) → IsMoveOf line s item m
item_moves line s spindle flood (items.Spindle mode speed) k m e = absurd (no_move m _ k tt e)
item_moves line s spindle flood (items.Coolant on) k m e = absurd (no_move m _ k tt e)
item_moves line s spindle flood (items.Dwell ms) k m e = absurd (no_move m _ k tt e)
item_moves line s spindle flood (items.Move mv rate) k m e = one_move line s mv rate k m (events_of mv == 0) refl e
item_moves line s spindle flood items.Pause k m e = absurd (no_move m _ k tt e)
item_moves line s Off true items.ProgramEnd k m e = absurd (no_move m _ k tt e)
item_moves line s Off false items.ProgramEnd k m e = absurd (no_move m _ k tt e)
item_moves line s Cw true items.ProgramEnd k m e = absurd (no_move m _ k tt e)
item_moves line s Cw false items.ProgramEnd k m e = absurd (no_move m _ k tt e)
item_moves line s Ccw true items.ProgramEnd k m e = absurd (no_move m _ k tt e)
item_moves line s Ccw false items.ProgramEnd k m e = absurd (no_move m _ k tt e)

-- the move that is next is that of the present item
pub record IsMoveAt (line : ℕ) (s : Settings) (all : List Item) (place : ℕ) (m : PlannedMove) : Type 0 where
  pub item_is : slice_get all place ≡ Some (items.Move m.mv m.rate)
  pub move_is : m ≡ planned line s m.mv m.rate
  pub moves : 0 < events_of m.mv

items_move : (line : ℕ) (s : State) (spindle : SpindleMode) (flood : Bool) (all : List Item) (place k : ℕ) (m : PlannedMove)
    → IsNextOf (ask (a_move m)) (drop k (part Items line s spindle flood (drop place all))) → IsMoveAt line s.settings all place m
items_move line s spindle flood [] zero k m e = absurd (no_move m _ k tt e)
items_move line s spindle flood [] (suc place) k m e = absurd (no_move m _ k tt e)
items_move line s spindle flood (item ∷ all) zero k m e =
    let is = item_moves line s.settings spindle flood item k m e in
    record { item_is = ap Some is.item_is; move_is = is.move_is; moves = is.moves }
items_move line s spindle flood (item ∷ all) (suc place) k m e =
    let is = items_move line s spindle flood all place k m e in
    record { item_is = is.item_is; move_is = is.move_is; moves = is.moves }

part_moves : (body : Body) (line : ℕ) (s : State) (spindle : SpindleMode) (flood : Bool) (all : List Item) (place k : ℕ) (m : PlannedMove)
    → IsNextOf (ask (a_move m)) (drop k (part body line s spindle flood (drop place all))) → IsMoveAt line s.settings all place m
part_moves Opening line s spindle flood all place k m e = absurd (no_move m _ k tt e)
part_moves (Greets alarm locked) line s spindle flood all place k m e = absurd (no_move m _ k (told_no_moves (greeting alarm locked)) e)
part_moves Closing line s spindle flood all place k m e = absurd (no_move m _ k tt e)
part_moves Accepted line s spindle flood all place k m e = absurd (no_move m _ k tt e)
part_moves Unlocks line s spindle flood all place k m e = absurd (no_move m _ k tt e)
part_moves (Refused n) line s spindle flood all place k m e = absurd (no_move m _ k tt e)
part_moves TheSettings line s spindle flood all place k m e = absurd (no_move m _ k (told_no_moves (setting_replies s.settings ++ replies.Ok ∷ [])) e)
part_moves Modes line s spindle flood all place k m e = absurd (no_move m _ k tt e)
part_moves TheOffsets line s spindle flood all place k m e = absurd (no_move m _ k (told_no_moves (offset_replies s.parser.offsets ++ replies.Ok ∷ [])) e)
part_moves Limited line s spindle flood all place k m e = absurd (no_move m _ k tt e)
part_moves Items line s spindle flood all place k m e = items_move line s spindle flood all place k m e

pub next_move : (l : Line) (s : State) (m : PlannedMove) → IsNextOf (ask (a_move m)) (part_left l s) → IsMoveAt l.number s.settings l.items.items l.place m
next_move l s m e = part_moves l.body l.number s l.running.spindle l.running.flood l.items.items l.place l.stage m e

-- an element, by its place
pub at_place : (all xs : List Item) (place : ℕ) (item : Item) → xs ≡ all → place < length xs → item ≡ get_or xs place item → slice_get all place ≡ Some item
at_place all xs place item same within is =
    let at : slice_get xs place ≡ Some item = slice_get-get_or xs place item within ∙ ap Some (sym is) in
    subst (λ (ys : List Item). slice_get ys place ≡ Some item) same at

-- the present item is the move that is next
pub present_move : (l : Line) (s : State) (m : PlannedMove) (item : Item) → IsNextOf (ask (a_move m)) (part_left l s) → slice_get l.items.items l.place ≡ Some item
    → (item ≡ items.Move m.mv m.rate) × (0 < events_of m.mv) × (m ≡ planned l.number s.settings m.mv m.rate)
present_move l s m item e at =
    let found = next_move l s m e in
    (same_Some item (items.Move m.mv m.rate) (sym at ∙ found.item_is), found.moves, found.move_is)

-- what is next of the part, by what the line asks for
pub part_by : (l : Line) (s : State) (body : Body) (t : Task) → l.body ≡ body → IsNextOf t (part_left l s)
    → IsNextOf t (drop l.stage (part body l.number s l.running.spindle l.running.flood (drop l.place l.items.items)))
part_by l s body t is e = subst (λ (b : Body). IsNextOf t (drop l.stage (part b l.number s l.running.spindle l.running.flood (drop l.place l.items.items)))) is e

pub todo_by_body : (t : Todo) (l : Line) (s : State) (body : Body) → l.body ≡ body
    → IsTodo t (drop l.stage (part body l.number s l.running.spindle l.running.flood (drop l.place l.items.items))) → IsTodo t (part_left l s)
todo_by_body t l s body is e = subst (λ (b : Body). IsTodo t (drop l.stage (part b l.number s l.running.spindle l.running.flood (drop l.place l.items.items)))) (sym is) e

pub todo_past : (t : Todo) (l : Line) (s : State) → l.body ≡ Items → length l.items.items ≤ l.place → IsTodo t (drop l.stage (telling (replies.Ok ∷ []))) → IsTodo t (part_left l s)
todo_past t l s is past e =
    let none = drop_all l.place l.items.items past in
    todo_by_body t l s Items is (subst (λ (left : List Item). IsTodo t (drop l.stage (part Items l.number s l.running.spindle l.running.flood left))) (sym none) e)

-- ---- what is next of the part is next of the whole

next_on : (t : Task) (w later : List Task) → IsNextOf t w → IsNextOf t (w ++ later)
next_on t [] later e = absurd (none_first t e)
next_on t (x ∷ w) later e = let same : x ≡ t = cc in ap (λ (y : Task). y ∷ (w ++ later)) same

pub next_in : (t : Task) (w later : List Task) → (w ≡ [] → later ≡ []) → IsNextOf t (w ++ later) → IsNextOf t w
next_in t [] later settled e = let none = settled refl in absurd cc
next_in t (x ∷ w) later settled e = let same : x ≡ t = cc in ap (λ (y : Task). y ∷ w) same

pub line_next : (l : Line) (s : State) (t : Task) → IsNextOf t (part_left l s) → IsNextOf t (work_left l s)
line_next l s t e = next_on t (part_left l s) (later l s) e

pub part_next : (l : Line) (s : State) (t : Task) → IsSettled l s → IsNextOf t (work_left l s) → IsNextOf t (part_left l s)
part_next l s t settled e = next_in t (part_left l s) (later l s) settled e

-- ---- a part is done

no_tasks : (n : ℕ) (w : List Task) → drop n w ≡ [] → length w ≤ n
no_tasks n [] e = omega arith
no_tasks zero (t ∷ w) e = absurd cc
no_tasks (suc n) (t ∷ w) e = let i = no_tasks n w e in omega (arith, i)

-- an item one of whose tasks is left
item_open : (line : ℕ) (s : State) (spindle : SpindleMode) (flood : Bool) (all : List Item) (place k count : ℕ) (item : Item) → slice_get all place ≡ Some item
    → length (item_work line s.settings spindle flood item) ≡ count → k < count → drop k (part Items line s spindle flood (drop place all)) ≡ [] → ⊥
item_open line s spindle flood [] place k count item e many open_task none = absurd cc
item_open line s spindle flood (x ∷ all) zero k count item e many open_task none =
    let same : x ≡ item = cc in
    let gone : drop k (item_work line s.settings spindle flood item) ≡ [] = ap (λ (y : Item). drop k (item_work line s.settings spindle flood y)) (sym same) ∙ none in
    let few = no_tasks k (item_work line s.settings spindle flood item) gone in omega (arith, few, many, open_task)
item_open line s spindle flood (x ∷ all) (suc place) k count item e many open_task none = item_open line s spindle flood all place k count item e many open_task none

-- of the present item something is left
pub open_left : (l : Line) (s : State) (count : ℕ) (item : Item) → l.body ≡ Items → slice_get l.items.items l.place ≡ Some item
    → length (item_work l.number s.settings l.running.spindle l.running.flood item) ≡ count → l.stage < count → part_left l s ≡ [] → ⊥
open_left l s count item body at many open_task none =
    let gone = subst (λ (b : Body). drop l.stage (part b l.number s l.running.spindle l.running.flood (drop l.place l.items.items)) ≡ []) body none in
    item_open l.number s l.running.spindle l.running.flood l.items.items l.place l.stage count item at many open_task gone

-- one task more is done
drop_suc : (n : ℕ) (w : List Task) → drop (suc n) w ≡ drop 1 (drop n w)
drop_suc zero w = refl
drop_suc (suc n) [] = refl
drop_suc (suc n) (t ∷ w) = drop_suc n w

pub drop_on : (n : ℕ) (w : List Task) → drop (n + 1) w ≡ drop 1 (drop n w)
drop_on n w = let e : n + 1 ≡ suc n = omega arith in ap (λ k. drop k w) e ∙ drop_suc n w

pub settings_are : (s : Settings) → length (setting_replies s) ≡ 15
unfolding setting_replies
settings_are s = refl

pub offsets_are : (o : Offsets) → length (offset_replies o) ≡ 11
unfolding offset_replies
offsets_are o = refl

pub settings_many : (s : Settings) → length (setting_replies s ++ replies.Ok ∷ []) ≡ 16
unfolding setting_replies
settings_many s = refl

pub offsets_many : (o : Offsets) → length (offset_replies o ++ replies.Ok ∷ []) ≡ 12
unfolding offset_replies
offsets_many o = refl

-- ---- how many tasks a part has

next_left : (n : ℕ) (w : List Task) → (drop n w ≡ [] → ⊥) → n < length w
next_left zero [] some = absurd (some refl)
next_left zero (t ∷ w) some = omega arith
next_left (suc n) [] some = absurd (some refl)
next_left (suc n) (t ∷ w) some = let i = next_left n w some in omega (arith, i)

asked_few : (none : Bool) (m : PlannedMove) → length (asking (if none then [] else a_move m ∷ [])) ≤ 1
asked_few true m = omega arith
asked_few false m = omega arith

item_few : (line : ℕ) (s : Settings) (spindle : SpindleMode) (flood : Bool) (item : Item) → length (item_work line s spindle flood item) ≤ 20
item_few line s spindle flood (items.Spindle mode speed) = omega arith
item_few line s spindle flood (items.Coolant on) = omega arith
item_few line s spindle flood (items.Dwell ms) = omega arith
item_few line s spindle flood (items.Move mv rate) = let few = asked_few (events_of mv == 0) (planned line s mv rate) in omega (arith, few)
item_few line s spindle flood items.Pause = omega arith
item_few line s Off true items.ProgramEnd = omega arith
item_few line s Off false items.ProgramEnd = omega arith
item_few line s Cw true items.ProgramEnd = omega arith
item_few line s Cw false items.ProgramEnd = omega arith
item_few line s Ccw true items.ProgramEnd = omega arith
item_few line s Ccw false items.ProgramEnd = omega arith

settings_few : (s : Settings) → length (telling (setting_replies s ++ replies.Ok ∷ [])) ≡ 16
unfolding setting_replies
settings_few s = refl

offsets_few : (o : Offsets) → length (telling (offset_replies o ++ replies.Ok ∷ [])) ≡ 12
unfolding offset_replies
offsets_few o = refl

greeting_few : (alarm locked : Bool) → length (telling (greeting alarm locked)) ≤ 20
greeting_few true true = omega arith
greeting_few true false = omega arith
greeting_few false true = omega arith
greeting_few false false = omega arith

part_few : (body : Body) (line : ℕ) (s : State) (spindle : SpindleMode) (flood : Bool) (all : List Item) → length (part body line s spindle flood all) ≤ 20
part_few Opening line s spindle flood all = omega arith
part_few (Greets alarm locked) line s spindle flood all = greeting_few alarm locked
part_few Closing line s spindle flood all = omega arith
part_few Accepted line s spindle flood all = omega arith
part_few Unlocks line s spindle flood all = omega arith
part_few (Refused n) line s spindle flood all = omega arith
part_few TheSettings line s spindle flood all = let few = settings_few s.settings in omega (arith, few)
part_few Modes line s spindle flood all = omega arith
part_few TheOffsets line s spindle flood all = let few = offsets_few s.parser.offsets in omega (arith, few)
part_few Limited line s spindle flood all = omega arith
part_few Items line s spindle flood [] = omega arith
part_few Items line s spindle flood (item ∷ all) = item_few line s.settings spindle flood item

nothing_behind : (w later : List Task) → (w ≡ [] → later ≡ []) → (w ++ later ≡ [] → ⊥) → w ≡ [] → ⊥
nothing_behind [] later settled some e = some (settled refl)
nothing_behind (t ∷ w) later settled some e = absurd cc

-- of a line of which something is left, something of its part is
pub part_is_left : (l : Line) (s : State) → IsSettled l s → (work_left l s ≡ [] → ⊥) → part_left l s ≡ [] → ⊥
part_is_left l s settled some = nothing_behind (part_left l s) (later l s) settled some

pub few_stages : (l : Line) (s : State) → (part_left l s ≡ [] → ⊥) → l.stage < 20
few_stages l s some =
    let few = part_few l.body l.number s l.running.spindle l.running.flood (drop l.place l.items.items) in
    let within = next_left l.stage (part_of l s) some in omega (arith, few, within)

one_less : (w later : List Task) → (w ≡ [] → ⊥) → drop 1 w ++ later ≡ drop 1 (w ++ later)
one_less [] later some = absurd (some refl)
one_less (t ∷ w) later some = refl

-- one task more of the part is done
pub one_done : (l : Line) (s : State) → (part_left l s ≡ [] → ⊥) → work_left (record l { stage = l.stage + 1 }) s ≡ drop 1 (work_left l s)
one_done l s some = ap (λ (v : List Task). v ++ later l s) (drop_on l.stage (part_of l s)) ∙ one_less (part_left l s) (later l s) some
