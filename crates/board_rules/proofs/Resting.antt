-- What there is to do of a line comes to rest where the line settles, and where it moves nothing it comes to rest or gives
-- the machine nothing to do.
use Rattle.std.proofs.Common.{◌≡◌, ℕ, ◌==◌, ◌⊎◌, inl, inr, List, [], ◌∷◌, ◌++◌, true, false, Bool, cond, sym, refl, ap, ◌∙◌, append_assoc, append-nil, subst}
use Rattle.settings.specs.declared.Settings.{Settings}
use Rattle.modal_state.specs.declared.SpindleMode.{SpindleMode}
use Rattle.modal_state.specs.declared.SpindleMode.TheVariants.{Off, Cw, Ccw}
use Rattle.gcode_check.specs.Items.{settling}
use Rattle.gcode_check.specs.declared.Item.{Item}
use Rattle.gcode_check.specs.declared.Item.TheVariants as items
use Rattle.step_line.specs.Counting.{events_of}
use Rattle.step_line.specs.declared.Mark.TheVariants as marks
use Rattle.step_line.specs.Asking.{Asked}
use Rattle.step_line.specs.Asking.Asked.{a_mark, a_rest}
use Rattle.status_report.specs.declared.Message.TheVariants as messages
use Rattle.status_report.specs.declared.Reply.TheVariants as replies
use Rattle.run_rules.specs.Asks.{spindle_mark, spindle_after, flood_after, spindle_off, coolant_off, item_work, work_of}
use Rattle.run_rules.specs.Work.{Task, asking, has_moves, asks_move}
use Rattle.run_rules.specs.Work.Task.{ask, tell, normal}
use Rattle.board_rules.specs.Whole.{has_work, comes_to_rest}
use Rattle.board_rules.proofs.Truths.{neither_right}

abbrev answer : List Task
answer = tell replies.Ok ∷ []

both : (b : Bool) (c : Bool) → c ≡ true → cond b c true ≡ true
both true c is = is
both false c is = refl

-- what comes to rest does so behind anything
before_rest : (xs ys : List Task) → comes_to_rest ys ≡ true → comes_to_rest (xs ++ ys) ≡ true
before_rest [] ys is = is
before_rest (ask a_rest ∷ xs) ys is = both (has_work (xs ++ ys)) (comes_to_rest (xs ++ ys)) (before_rest xs ys is)
before_rest (_ ∷ xs) ys is = before_rest xs ys is

abbrev Rests : List Task → Type 0
Rests ts = (comes_to_rest ts ≡ true) ⊎ (has_work ts ≡ false)

-- a rest before something that comes to rest or is no work
rest_then : (ts : List Task) → Rests ts → comes_to_rest (ask a_rest ∷ ts) ≡ true
rest_then ts (inl is) = both (has_work ts) (comes_to_rest ts) is
rest_then ts (inr none) = ap (λ (b : Bool). cond b (comes_to_rest ts) true) none

-- the last item settles
last_settles : (line : ℕ) (s : Settings) (spindle : SpindleMode) (flood : Bool) (item : Item) → settling (item ∷ []) ≡ true
    → comes_to_rest (item_work line s spindle flood item ++ answer) ≡ true
last_settles line s spindle flood (items.Move mv rate) is = absurd cc
last_settles line s Off true items.ProgramEnd is = refl
last_settles line s Off false items.ProgramEnd is = refl
last_settles line s Cw true items.ProgramEnd is = refl
last_settles line s Cw false items.ProgramEnd is = refl
last_settles line s Ccw true items.ProgramEnd is = refl
last_settles line s Ccw false items.ProgramEnd is = refl
last_settles line s spindle flood _ is = refl

pub settles : (line : ℕ) (s : Settings) (spindle : SpindleMode) (flood : Bool) (all : List Item) → settling all ≡ true
    → comes_to_rest (work_of line s spindle flood all ++ answer) ≡ true
settles line s spindle flood [] is = absurd cc
settles line s spindle flood (item ∷ []) is =
    ap (λ (ts : List Task). comes_to_rest (ts ++ answer)) (append-nil (item_work line s spindle flood item)) ∙ last_settles line s spindle flood item is
settles line s spindle flood (item ∷ next ∷ more) is =
    let behind = work_of line s (spindle_after spindle item) (flood_after flood item) (next ∷ more) in
    ap comes_to_rest (append_assoc (item_work line s spindle flood item) behind answer)
    ∙ before_rest (item_work line s spindle flood item) (behind ++ answer)
    (settles line s (spindle_after spindle item) (flood_after flood item) (next ∷ more) is)

-- marks at rest, before work that comes to rest or is none
marked : (asked : List Asked) (ts : List Task) → Rests ts → Rests ((ask a_rest ∷ asking asked ++ ask a_rest ∷ []) ++ ts)
marked asked ts r =
    inl (ap (λ (xs : List Task). comes_to_rest (ask a_rest ∷ xs)) (append_assoc (asking asked) (ask a_rest ∷ []) ts)
    ∙ before_rest (ask a_rest ∷ asking asked) (ask a_rest ∷ ts) (rest_then ts r))

-- an item that moves nothing, before work that comes to rest or is none
item_still : (line : ℕ) (s : Settings) (spindle : SpindleMode) (flood : Bool) (item : Item) (ts : List Task) → has_moves (item_work line s spindle flood item ++ ts) ≡ false
    → Rests ts → Rests (item_work line s spindle flood item ++ ts)
item_still line s spindle flood (items.Spindle mode speed) ts none r = marked (a_mark (spindle_mark mode speed) ∷ []) ts r
item_still line s spindle flood (items.Coolant on) ts none r = marked (a_mark (marks.Coolant on) ∷ []) ts r
item_still line s spindle flood (items.Dwell ms) ts none r = marked (a_mark (marks.Dwell ms) ∷ []) ts r
item_still line s spindle flood (items.Move mv rate) ts none r = by_events (events_of mv == 0) refl none
  where
    by_events : (b : Bool) → (events_of mv == 0) ≡ b → has_moves (item_work line s spindle flood (items.Move mv rate) ++ ts) ≡ false
        → Rests (item_work line s spindle flood (items.Move mv rate) ++ ts)
    by_events true is none = rw is r
    by_events false is none = absurd (let n = rw is at none in cc)
item_still line s spindle flood items.Pause ts none r = inl (both (has_work ts) (comes_to_rest (ask a_rest ∷ ts)) (rest_then ts r))
item_still line s spindle flood items.ProgramEnd ts none r =
    let end : List Task = normal ∷ tell (replies.Message messages.ProgramEnd) ∷ [] in
    subst Rests (sym (append_assoc (ask a_rest ∷ asking (spindle_off spindle ++ coolant_off flood) ++ ask a_rest ∷ []) end ts))
    (marked (spindle_off spindle ++ coolant_off flood) (end ++ ts) (told_then r))
  where
    told_then : Rests ts → Rests (normal ∷ tell (replies.Message messages.ProgramEnd) ∷ ts)
    told_then (inl is) = inl is
    told_then (inr none) = inr none

-- the moves of work behind other work
moves_behind : (xs ys : List Task) → has_moves (xs ++ ys) ≡ false → has_moves ys ≡ false
moves_behind [] ys none = none
moves_behind (x ∷ xs) ys none = moves_behind xs ys (neither_right (asks_move x) (has_moves (xs ++ ys)) none)

pub still : (line : ℕ) (s : Settings) (spindle : SpindleMode) (flood : Bool) (all : List Item) → has_moves (work_of line s spindle flood all ++ answer) ≡ false
    → Rests (work_of line s spindle flood all ++ answer)
still line s spindle flood [] none = inr refl
still line s spindle flood (item ∷ more) none =
    let behind = work_of line s (spindle_after spindle item) (flood_after flood item) more in
    let e = append_assoc (item_work line s spindle flood item) behind answer in
    let n = sym (ap has_moves e) ∙ none in
    subst Rests (sym e)
    (item_still line s spindle flood item (behind ++ answer) n
    (still line s (spindle_after spindle item) (flood_after flood item) more (moves_behind (item_work line s spindle flood item) (behind ++ answer) n)))
