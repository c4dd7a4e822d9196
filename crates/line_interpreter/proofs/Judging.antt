-- How a line is judged.
use Rattle.std.proofs.Common.{◌≡◌, ℕ, zero, suc, drop, ◌∙◌, Bool, true, false, List, [], ◌∷◌, ◌++◌, length, nat_eq, nat_lt, Some, None, refl, sym, ap, subst, arith, append-nil, append_assoc}
use Rattle.std.specs.List.{slice_get}
use Rattle.std.specs.declared.option.Option.{Option}
use Rattle.std.specs.declared.result.Result.{Result}
use Rattle.std.proofs.lemmas.Bool.Decides.{nat_tests}
use Rattle.units.specs.declared.Decimal.{Decimal}
use Rattle.gcode_words.specs.declared.Word.{Word}
use Rattle.gcode_words.specs.declared.WordFault.{WordFault}
use Rattle.gcode_words.specs.Words.{words_of}
use Rattle.code_table.specs.declared.Code.{Code}
use Rattle.modal_state.specs.declared.SpindleMode.{SpindleMode}
use Rattle.gcode_check.specs.declared.Item.{Item}
use Rattle.gcode_check.specs.declared.Verdict.{Verdict}
use Rattle.jog.specs.declared.JogMove.{JogMove}
use Rattle.system_lines.specs.Commands.{command_of, kind_of, jog_words, is_jog}
use Rattle.system_lines.specs.declared.Command.{Command}
use Rattle.status_report.specs.declared.Reply.TheVariants as replies
use Rattle.run_rules.specs.Work.{Outcome}
use Rattle.run_rules.specs.Work.Task.{tell}
use Rattle.run_rules.specs.declared.State.{State}
use Rattle.run_rules.specs.Asks.{item_work, work_of, spindle_after, flood_after}
use Rattle.run_rules.specs.Outcomes.{Before, refused, told, BySetting, ByCommand, ByVerdict, ByWords, ByJogMove, ByJog, ByServed, either, most_kept}
use Rattle.run_rules.specs.declared.machine.Machine.{Machine}
use Rattle.run_rules.specs.Locking.{unlocked}
use Rattle.run_rules.specs.Finding.{refuses, locks, is_unlocked_by, ByDollarFound, ByCodeFound, ByKeptFound, Found}
use Rattle.status_report.specs.Lists.{setting_replies, modes_replies, offset_replies}
use Rattle.line_interpreter.specs.declared.tasks.Body.{Body}
use Rattle.line_interpreter.specs.declared.tasks.Body.TheVariants.{Items, Accepted, Unlocks, Settings, Modes, Offsets}
use Rattle.line_interpreter.specs.declared.desk.Desk.{Desk}
use Rattle.line_interpreter.specs.declared.desk.Accepted.TheVariants.{Neither}
use Rattle.line_interpreter.specs.Desks.{IsReady, Begun}
use Rattle.line_interpreter.specs.Lefts.{part, behind_part}

pub by_setting : (b : Before) (n : ℕ) (value : Decimal) (r q : Option Code) (o : Outcome) → q ≡ r → BySetting b n value q o → BySetting b n value r o
by_setting b n value r q o e by = let P : Option Code → Type 0 = λ x. BySetting b n value x o in subst P e by

pub by_command : (b : Before) (r q : Result Command Code) (o : Outcome) → q ≡ r → ByCommand b q o → ByCommand b r o
by_command b r q o e by = let P : Result Command Code → Type 0 = λ x. ByCommand b x o in subst P e by

pub by_verdict : (b : Before) (v w : Verdict) (o : Outcome) → w ≡ v → ByVerdict b w o → ByVerdict b v o
by_verdict b v w o e by = let P : Verdict → Type 0 = λ x. ByVerdict b x o in subst P e by

pub by_words : (b : Before) (r q : Result (List Word) WordFault) (o : Outcome) → q ≡ r → ByWords b q o → ByWords b r o
by_words b r q o e by = let P : Result (List Word) WordFault → Type 0 = λ x. ByWords b x o in subst P e by

pub by_jog_move : (b : Before) (r q : Result JogMove Code) (o : Outcome) → q ≡ r → ByJogMove b q o → ByJogMove b r o
by_jog_move b r q o e by = let P : Result JogMove Code → Type 0 = λ x. ByJogMove b x o in subst P e by

pub by_jog : (b : Before) (r q : Result (List Word) WordFault) (o : Outcome) → q ≡ r → ByJog b q o → ByJog b r o
by_jog b r q o e by = let P : Result (List Word) WordFault → Type 0 = λ x. ByJog b x o in subst P e by

either_first : (t : Bool) (A B : Type 0) → t ≡ true → A → either t A B
either_first t A B e a = let P : Bool → Type 0 = λ x. either x A B in subst P (sym e) a

either_second : (t : Bool) (A B : Type 0) → t ≡ false → B → either t A B
either_second t A B e b = let P : Bool → Type 0 = λ x. either x A B in subst P (sym e) b

pub found_too_long : (m : Machine) (b : Before) (kept : List ℕ) → nat_lt most_kept (length kept) ≡ true → Found m b kept (refused b 11)
found_too_long m b kept long = either_first (nat_lt most_kept (length kept)) _ _ long refl

pub found_kept : (m : Machine) (b : Before) (kept : List ℕ) (o : Outcome) → nat_lt most_kept (length kept) ≡ false → ByKeptFound m b kept o → Found m b kept o
found_kept m b kept o short by = either_second (nat_lt most_kept (length kept)) _ _ short by

pub kept_empty : (m : Machine) (b : Before) (kept : List ℕ) (o : Outcome) → slice_get kept 0 ≡ None → o ≡ told b.state [] → ByKeptFound m b kept o
kept_empty m b [] o none is = is
kept_empty m b (c ∷ cs) o none is = absurd cc

pub kept_dollar : (m : Machine) (b : Before) (kept : List ℕ) (o : Outcome) → slice_get kept 0 ≡ Some 36 → ByDollarFound m b kept o → ByKeptFound m b kept o
kept_dollar m b [] o first by = absurd cc
kept_dollar m b (c ∷ cs) o first by =
    let is : c ≡ 36 = cc in
    either_first (nat_eq c 36) _ _ (rw is refl) by

pub kept_code : (m : Machine) (b : Before) (kept : List ℕ) (byte : ℕ) (o : Outcome) → slice_get kept 0 ≡ Some byte → (byte ≡ 36 → ⊥) → ByCodeFound m b kept o → ByKeptFound m b kept o
kept_code m b [] byte o first other by = absurd cc
kept_code m b (c ∷ cs) byte o first other by =
    let is : byte ≡ c = cc in
    either_second (nat_eq c 36) _ _ (grind (arith, nat_tests, is, other)) by

pub dollar_refused : (m : Machine) (b : Before) (kept : List ℕ) → refuses m (kind_of kept) ≡ true → ByDollarFound m b kept (refused b 8)
dollar_refused m b kept busy = either_first (refuses m (kind_of kept)) _ _ busy refl

pub dollar_unlocks : (m : Machine) (b : Before) (kept : List ℕ) → refuses m (kind_of kept) ≡ false → is_unlocked_by m (kind_of kept) ≡ true → ByDollarFound m b kept (unlocked b)
dollar_unlocks m b kept served unlocks = either_second (refuses m (kind_of kept)) _ _ served (either_first (is_unlocked_by m (kind_of kept)) _ _ unlocks refl)

dollar_served : (m : Machine) (b : Before) (kept : List ℕ) (o : Outcome) → refuses m (kind_of kept) ≡ false → is_unlocked_by m (kind_of kept) ≡ false → ByServed b kept o → ByDollarFound m b kept o
dollar_served m b kept o served other by = either_second (refuses m (kind_of kept)) _ _ served (either_second (is_unlocked_by m (kind_of kept)) _ _ other by)

pub jog_served : (m : Machine) (b : Before) (kept : List ℕ) (o : Outcome) → refuses m (kind_of kept) ≡ false → is_unlocked_by m (kind_of kept) ≡ false → is_jog (kind_of kept) ≡ true
    → ByJog b (words_of (jog_words kept)) o → ByDollarFound m b kept o
jog_served m b kept o served none jogs by = dollar_served m b kept o served none (either_first (is_jog (kind_of kept)) _ _ jogs by)

pub command_served : (m : Machine) (b : Before) (kept : List ℕ) (o : Outcome) → refuses m (kind_of kept) ≡ false → is_unlocked_by m (kind_of kept) ≡ false → is_jog (kind_of kept) ≡ false
    → ByCommand b (command_of kept) o → ByDollarFound m b kept o
command_served m b kept o served none other by = dollar_served m b kept o served none (either_second (is_jog (kind_of kept)) _ _ other by)

pub code_refused : (m : Machine) (b : Before) (kept : List ℕ) → locks m ≡ true → ByCodeFound m b kept (refused b 9)
code_refused m b kept locked = either_first (locks m) _ _ locked refl

pub code_served : (m : Machine) (b : Before) (kept : List ℕ) (o : Outcome) → locks m ≡ false → ByWords b (words_of kept) o → ByCodeFound m b kept o
code_served m b kept o served by = either_second (locks m) _ _ served by

-- what is left of the items of a line is the work of all of them, and `ok`
pub work_is : (line : ℕ) (s : State) (spindle : SpindleMode) (flood : Bool) (items : List Item)
    → part Items line s spindle flood items ++ behind_part Items line s spindle flood items
    ≡ work_of line s.settings spindle flood items ++ tell replies.Ok ∷ []
work_is line s spindle flood [] = refl
work_is line s spindle flood (item ∷ items) =
    sym (append_assoc (item_work line s.settings spindle flood item) (work_of line s.settings (spindle_after spindle item) (flood_after flood item) items) (tell replies.Ok ∷ []))

-- ---- what is left of a line that is begun

-- a desk whose line has this body, of which nothing is done
abbrev pub with_body : Desk → Body → Desk
with_body d body = record d { line = record d.line { body = body; stage = 0 } }

-- a line that changes the settings alone, or nothing
pub accepted_begun : (old new : Desk) (s : State) → new ≡ with_body (record old { state = s }) Accepted → Begun new (told s []) Neither
accepted_begun old new s same = rw same (record { state = refl; left = refl; answer = refl; settles = refl })

pub settings_begun : (old new : Desk) → new ≡ with_body old Settings → Begun new (told old.state (setting_replies old.state.settings)) Neither
settings_begun old new same = rw same (record { state = refl; left = append-nil _; answer = refl; settles = refl })

pub modes_begun : (old new : Desk) → new ≡ with_body old Modes → Begun new (told old.state (modes_replies old.state.parser)) Neither
modes_begun old new same = rw same (record { state = refl; left = append-nil _; answer = refl; settles = refl })

-- and a line that unlocks the machine
pub unlock_begun : (old new : Desk) (b : Before) → b.state ≡ old.state → new ≡ with_body old Unlocks → Begun new (unlocked b) Neither
unlock_begun old new b is same = rw same (record { state = sym is; left = refl; answer = refl; settles = refl })

pub offsets_begun : (old new : Desk) → new ≡ with_body old Offsets → Begun new (told old.state (offset_replies old.state.parser.offsets)) Neither
offsets_begun old new same = rw same (record { state = refl; left = append-nil _; answer = refl; settles = refl })

pub begun_number : (old new : Desk) (body : Body) → new ≡ with_body old body → new.number ≡ old.number
begun_number old new body same = ap (λ (d : Desk). d.number) same

pub begun_ready : (old new : Desk) (body : Body) → new ≡ with_body old body → IsReady old → IsReady new
begun_ready old new body same ready = rw same (record { state = ready.state; number = ready.number; line = record { line = ready.line.line; items = ready.line.items } })

pub accepted_alone : Accepted ≡ Items → ⊥
accepted_alone e = cc

pub unlocks_alone : Unlocks ≡ Items → ⊥
unlocks_alone e = cc

pub settings_alone : Settings ≡ Items → ⊥
settings_alone e = cc

pub modes_alone : Modes ≡ Items → ⊥
modes_alone e = cc

pub offsets_alone : Offsets ≡ Items → ⊥
offsets_alone e = cc

-- ---- the next item is gone on to

gone_on : (line : ℕ) (s : State) (spindle : SpindleMode) (flood : Bool) (all : List Item) (place : ℕ) (item : Item) → slice_get all place ≡ Some item
    → behind_part Items line s spindle flood (drop place all) ≡ work_of line s.settings (spindle_after spindle item) (flood_after flood item) (drop (suc place) all) ++ tell replies.Ok ∷ []
gone_on line s spindle flood [] place item at = absurd cc
gone_on line s spindle flood (x ∷ all) zero item at = let same : x ≡ item = cc in rw same refl
gone_on line s spindle flood (x ∷ all) (suc place) item at = gone_on line s spindle flood all place item at

pub passed_on : (body : Body) (line : ℕ) (s : State) (spindle next_spindle : SpindleMode) (flood next_flood : Bool) (all : List Item) (place next_place k : ℕ) (item : Item) → body ≡ Items
    → next_place ≡ suc place → slice_get all place ≡ Some item → next_spindle ≡ spindle_after spindle item → next_flood ≡ flood_after flood item → drop k (part body line s spindle flood (drop place all)) ≡ []
    → part body line s next_spindle next_flood (drop next_place all) ++ behind_part body line s next_spindle next_flood (drop next_place all)
    ≡ drop k (part body line s spindle flood (drop place all)) ++ behind_part body line s spindle flood (drop place all)
passed_on body line s spindle next_spindle flood next_flood all place next_place k item is ep at es ef none =
    rw (none, is, ep, es, ef) (work_is line s (spindle_after spindle item) (flood_after flood item) (drop (suc place) all) ∙ sym (gone_on line s spindle flood all place item at))
