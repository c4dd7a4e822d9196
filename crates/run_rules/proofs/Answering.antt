-- Each line is answered once: what is told of it ends with its answer, and holds no other.
use Rattle.std.proofs.Common.{◌≡◌, ℕ, ◌+◌, ◌⊎◌, inl, inr, List, [], ◌∷◌, ◌++◌, length, map, true, false, Bool, cond, sym, refl, ap, ◌∙◌, subst, arith, append-nil}
use Rattle.std.specs.List.{AllByRecursion, flat_map, enumerate_from, count_by}
use Rattle.std.proofs.lemmas.Grind.{flat_map-append}
use Rattle.std.proofs.lemmas.List.Sums.{sum_by-append, sum_by-cons}
use Rattle.std.specs.declared.result.Result.{Result}
use Rattle.units.specs.declared.Nm3.{Nm3}
use Rattle.code_table.specs.declared.Code.{Code}
use Rattle.gcode_check.specs.declared.Accept.{Accept as Accepted}
use Rattle.gcode_check.specs.declared.Item.{Item}
use Rattle.modal_state.specs.declared.SpindleMode.{SpindleMode}
use Rattle.modal_state.specs.declared.Offsets.{Offsets}
use Rattle.settings.specs.declared.Settings.{Settings}
use Rattle.settings.specs.Numbers.{values}
use Rattle.jog.specs.declared.JogMove.{JogMove}
use Rattle.system_lines.specs.declared.Command.{Command}
use Rattle.status_report.specs.Answering.{is_answer, is_bye, is_banner, answers_in}
use Rattle.status_report.proofs.Answered.{answers_first}
use Rattle.status_report.specs.Lists.{setting_replies, offset_replies, row_places}
use Rattle.status_report.specs.declared.Reply.{Reply}
use Rattle.status_report.specs.declared.Reply.TheVariants as replies
use Rattle.status_report.specs.declared.Message.TheVariants as messages
use Rattle.step_line.specs.Asking.{Asked}
use Rattle.run_rules.specs.declared.State.{State}
use Rattle.run_rules.specs.Outcomes.{Before, Becomes, ByCommand, Passed, Follows, after, at_place, became_of, executed, jogging, told, limited, refused}
use Rattle.run_rules.specs.Outcomes.Passed.{a_line, a_cut}
use Rattle.run_rules.specs.Asks.{work_of, move_asked, planned}
use Rattle.run_rules.specs.Told.{replies_in, limits_in}
use Rattle.run_rules.specs.Work.{Task, Outcome, is_limit, soft_limit, tells, told_by, telling, asking}
use Rattle.run_rules.specs.Work.Kind.{of_none}
use Rattle.run_rules.specs.Work.Task.{tell}
use Rattle.run_rules.proofs.Each.{IsListing, HoldsOfEach, holds_of_bodies, holds_of_commands, holds_of_each}
use Rattle.run_rules.proofs.Items.{PassesTasks, holds_of_work}

-- told before the answer of a line: no answer, not Bye and no Banner
abbrev pub IsBody : Reply → Type 0
IsBody r = (is_answer r ≡ false) × (is_bye r ≡ false) × (is_banner r ≡ false)

abbrev pub NoAnswers : List Reply → Type 0
NoAnswers [] = Unit {0}
NoAnswers (r ∷ rs) = IsBody r × NoAnswers rs

tells_on : (xs ys : List Task) → tells (xs ++ ys) ≡ tells xs ++ tells ys
tells_on xs ys = flat_map-append told_by xs ys

-- what only asks tells nothing
pub asking_tells : (asked : List Asked) → tells (asking asked) ≡ []
asking_tells [] = refl
asking_tells (a ∷ asked) = asking_tells asked

abbrev Silent : List Task → Type 0
Silent ts = NoAnswers (tells ts)

silent_work : (line : ℕ) (s : Settings) (spindle : SpindleMode) (flood : Bool) (all : List Item) → Silent (work_of line s spindle flood all)
silent_work line s spindle flood all =
    let each : PassesTasks Silent = record { asks = λ a ts is none. none; pauses = λ ts none. none; normals = λ ts none. none; ends = λ ts none. ((refl, refl, refl), none) } in
    subst Silent (append-nil (work_of line s spindle flood all)) (holds_of_work Silent each line s spindle flood all [] tt)

-- ---- lines that only tell something

-- what only tells, tells that
pub telling_tells : (rs : List Reply) → tells (telling rs) ≡ rs
telling_tells [] = refl
telling_tells (r ∷ rs) = ap (λ (xs : List Reply). r ∷ xs) (telling_tells rs)

settings_told : (rows : List (ℕ × ℕ)) → NoAnswers (map (λ row. replies.Setting row.0 row.1) rows)
settings_told [] = tt
settings_told (row ∷ rows) = ((refl, refl, refl), settings_told rows)

offsets_told : (rows : List (ℕ × Nm3)) → NoAnswers (map (λ row. replies.Offset row.0 row.1) rows)
offsets_told [] = tt
offsets_told (row ∷ rows) = ((refl, refl, refl), offsets_told rows)

settings_silent : (s : Settings) → NoAnswers (setting_replies s)
unfolding setting_replies
settings_silent s = settings_told (values s)

offsets_silent : (at : Offsets) → NoAnswers (offset_replies at)
unfolding offset_replies
offsets_silent at = offsets_told (enumerate_from 0 (row_places at))

silent_listing : (body : List Reply) → IsListing body → NoAnswers body
silent_listing body is = holds_of_bodies NoAnswers tt settings_silent (λ p. ((refl, refl, refl), tt)) offsets_silent body is

-- ---- outcomes

-- what is told of a line is told before its one answer
pub record AnswersOnce (o : Outcome) : Type 0 where
  pub body : List Reply
  pub told : tells o.work ≡ body ++ o.answer ∷ []
  pub none : NoAnswers body
  pub one : is_answer o.answer ≡ true

telling_once : (body : List Reply) (r : Reply) (next : State) → NoAnswers body → is_answer r ≡ true → AnswersOnce (record { work = telling (body ++ r ∷ []); answer = r; settles = false; kind = of_none; next = next })
telling_once body r next none one = record { body = body; told = telling_tells (body ++ r ∷ []); none = none; one = one }

pub refused_once : (b : Before) (n : ℕ) (o : Outcome) → o ≡ refused b n → AnswersOnce o
refused_once b n o is = subst AnswersOnce (sym is) (telling_once [] (replies.Error n) b.state tt refl)

pub told_once : (next : State) (body : List Reply) (o : Outcome) → NoAnswers body → o ≡ told next body → AnswersOnce o
told_once next body o none is = subst AnswersOnce (sym is) (telling_once body replies.Ok next none refl)

executed_once : (b : Before) (a : Accepted) → AnswersOnce (executed b a)
executed_once b a =
    let spindle = b.state.parser.modal.spindle in
    let flood = b.state.parser.modal.flood in
    record {
      body = tells (work_of b.number b.state.settings spindle flood a.items.items);
      told = tells_on (work_of b.number b.state.settings spindle flood a.items.items) (tell replies.Ok ∷ []);
      none = silent_work b.number b.state.settings spindle flood a.items.items;
      one = refl;
    }

-- or the line raises an alarm
abbrev pub AnswersOrHalts : Before → Outcome → Type 0
AnswersOrHalts b o = AnswersOnce o ⊎ (o ≡ limited b)

jogging_once : (b : Before) (jog : JogMove) → AnswersOnce (jogging b jog)
jogging_once b jog =
    let asked = move_asked (planned b.number b.state.settings jog.mv jog.rate) in
    record { body = tells (asking asked); told = tells_on (asking asked) (tell replies.Ok ∷ []); none = rw (asking_tells asked) tt; one = refl }

pub answers_or_halts : (runs : Bool) (b : Before) (kept : List ℕ) (o : Outcome) → Becomes runs b kept o → AnswersOrHalts b o
answers_or_halts runs b kept o is =
    let each : HoldsOfEach b (AnswersOrHalts b) = record {
      refuses = λ n. inl (refused_once b n (refused b n) refl);
      tells = λ next body kind. inl (told_once next body (told next body) (silent_listing body kind) refl);
      executes = λ a. inl (executed_once b a);
      jogs = λ jog. inl (jogging_once b jog);
      limits = inr refl;
    } in
    holds_of_each runs b (AnswersOrHalts b) each kept o is

-- a line that begins with `$`, and is no jog, has one answer
pub by_command : (b : Before) (r : Result Command Code) (o : Outcome) → ByCommand b r o → AnswersOnce o
by_command b r o is = holds_of_commands b AnswersOnce r o (λ code e. refused_once b code.0 (refused b code.0) refl) (λ n value code e. refused_once b code.0 (refused b code.0) refl)
    (λ next body same kind. told_once next body (told next body) (silent_listing body kind) refl) is

-- an alarm is no answer
pub no_alarm : (r : Reply) → is_answer r ≡ true → is_limit r ≡ false
no_alarm (replies.Alarm n) e = absurd cc
no_alarm _ e = refl

halted_alarm : (b : Before) (o : Outcome) → o ≡ limited b → is_limit o.answer ≡ true
halted_alarm b o is = ap (λ (x : Outcome). is_limit x.answer) is

if_no_alarm : (b : Before) (o : Outcome) → AnswersOrHalts b o → is_limit o.answer ≡ false → AnswersOnce o
if_no_alarm b o (inl once) none = once
if_no_alarm b o (inr is) none = absurd (let e = sym (halted_alarm b o is) ∙ none in cc)

if_alarm : (b : Before) (o : Outcome) → AnswersOrHalts b o → is_limit o.answer ≡ true → o ≡ limited b
if_alarm b o (inl once) one = absurd (let e = sym (no_alarm o.answer once.one) ∙ one in cc)
if_alarm b o (inr is) one = is

-- a line that raises no alarm has one answer
pub answers_once : (runs : Bool) (b : Before) (kept : List ℕ) (o : Outcome) → Becomes runs b kept o → is_limit o.answer ≡ false → AnswersOnce o
answers_once runs b kept o is none = if_no_alarm b o (answers_or_halts runs b kept o is) none

-- and one that raises an alarm is stopped by a soft limit
pub halts : (runs : Bool) (b : Before) (kept : List ℕ) (o : Outcome) → Becomes runs b kept o → is_limit o.answer ≡ true → o ≡ limited b
halts runs b kept o is one = if_alarm b o (answers_or_halts runs b kept o is) one

-- ---- counts

-- only answers are counted
abbrev pub CountsAnswers : (Reply → Bool) → Type 0
CountsAnswers p = (r : Reply) → is_answer r ≡ false → p r ≡ false

one_none : (b : Bool) → b ≡ false → ◌≡◌ {A = ℕ} (cond b 1 0) 0
one_none true e = absurd cc
one_none false e = refl

none_counted : (p : Reply → Bool) → CountsAnswers p → (rs : List Reply) → NoAnswers rs → count_by p rs ≡ 0
none_counted p only [] none = refl
none_counted p only (r ∷ rs) none =
    let a = sum_by-cons (λ x. cond (p x) 1 0) r rs in let m = none_counted p only rs none.1 in let z = one_none (p r) (only r none.0.0) in omega arith

pub one_answer : (runs : Bool) (b : Before) (kept : List ℕ) (o : Outcome) → Becomes runs b kept o → is_limit o.answer ≡ false
    → (body : List Reply) × (tells o.work ≡ body ++ o.answer ∷ []) × (answers_in body ≡ 0) × (is_answer o.answer ≡ true)
one_answer runs b kept o is none = let once = answers_once runs b kept o is none in (once.body, once.told, none_counted is_answer (λ r e. e) once.body once.none, once.one)

once_counted : (p : Reply → Bool) → CountsAnswers p → (o : Outcome) → AnswersOnce o → count_by p (tells o.work) ≡ cond (p o.answer) 1 0
once_counted p only o once =
    ap (count_by p) once.told ∙ (let a = sum_by-append (λ x. cond (p x) 1 0) once.body (o.answer ∷ []) in let m = none_counted p only once.body once.none in omega arith)

halted_counted : (p : Reply → Bool) → CountsAnswers p → (b : Before) → count_by p (tells (limited b).work) ≡ cond (p (limited b).answer) 1 0
halted_counted p only b =
    none_counted p only (replies.Alarm soft_limit ∷ replies.Message messages.ResetToContinue ∷ []) ((refl, refl, refl), ((refl, refl, refl), tt))
    ∙ sym (one_none (p (replies.Alarm soft_limit)) (only (replies.Alarm soft_limit) refl))

pub one_counted : (p : Reply → Bool) → CountsAnswers p → (b : Before) (o : Outcome) → AnswersOrHalts b o → count_by p (tells o.work) ≡ cond (p o.answer) 1 0
one_counted p only b o (inl once) = once_counted p only o once
one_counted p only b o (inr is) = subst (λ (x : Outcome). count_by p (tells x.work) ≡ cond (p x.answer) 1 0) (sym is) (halted_counted p only b)

pub all_counted : (p : Reply → Bool) → CountsAnswers p → (runs : Bool) (b : Before) (lines : List (List ℕ)) (ps : List Passed) (last : Before) → Follows runs b lines ps last
    → count_by p (flat_map (λ (o : Outcome). tells o.work) (became_of ps)) ≡ count_by (λ (o : Outcome). p o.answer) (became_of ps)
all_counted p only runs b [] [] last f = refl
all_counted p only runs b (l ∷ ls) [] last f = refl
all_counted p only runs b [] (a_line o ∷ ps) last f = absurd f
all_counted p only runs b ls (a_cut k at ∷ ps) last f = all_counted p only runs (at_place at b) ls ps last f.1
all_counted p only runs b (l ∷ ls) (a_line o ∷ ps) last f =
    let os = became_of ps in
    let a = sum_by-append (λ x. cond (p x) 1 0) (tells o.work) (flat_map (λ (o : Outcome). tells o.work) os) in
    let c = sum_by-cons (λ (o : Outcome). cond (p o.answer) 1 0) o os in
    let m = all_counted p only runs (after b o) ls ps last f.1 in
    let n = one_counted p only b o (answers_or_halts runs b l o f.0.becomes) in
    omega arith

one_of_two : (x y : Bool) → x ≡ true → y ≡ false → cond x 1 0 + cond y 1 0 ≡ 1
one_of_two true false e f = refl
one_of_two true true e f = absurd cc
one_of_two false y e f = absurd cc

-- a line is answered, or raises an alarm
pub one_each : (b : Before) (o : Outcome) → AnswersOrHalts b o → cond (is_answer o.answer) 1 0 + cond (is_limit o.answer) 1 0 ≡ 1
one_each b o (inl once) = one_of_two (is_answer o.answer) (is_limit o.answer) once.one (no_alarm o.answer once.one)
one_each b o (inr is) = subst (λ (x : Outcome). cond (is_answer x.answer) 1 0 + cond (is_limit x.answer) 1 0 ≡ 1) (sym is) refl

each_answered : (runs : Bool) (b : Before) (lines : List (List ℕ)) (ps : List Passed) (last : Before) → Follows runs b lines ps last
    → count_by (λ (o : Outcome). is_answer o.answer) (became_of ps) + limits_in (became_of ps) ≡ length lines
each_answered runs b [] [] last f = refl
each_answered runs b (l ∷ ls) [] last f = absurd f
each_answered runs b [] (a_line o ∷ ps) last f = absurd f
each_answered runs b ls (a_cut k at ∷ ps) last f = each_answered runs (at_place at b) ls ps last f.1
each_answered runs b (l ∷ ls) (a_line o ∷ ps) last f =
    let os = became_of ps in
    let c = sum_by-cons (λ (o : Outcome). cond (is_answer o.answer) 1 0) o os in
    let a = sum_by-cons (λ (o : Outcome). cond (is_limit o.answer) 1 0) o os in
    let m = each_answered runs (after b o) ls ps last f.1 in
    let r = one_each b o (answers_or_halts runs b l o f.0.becomes) in
    omega (arith, c, a, m, r)

-- each line has one answer but for one that raises an alarm, and the banner is none
pub lines_answered : (runs : Bool) (b : Before) (lines : List (List ℕ)) (ps : List Passed) (last : Before) → Follows runs b lines ps last
    → answers_in (replies_in (became_of ps)) + limits_in (became_of ps) ≡ length lines
lines_answered runs b lines ps last f =
    let first = answers_first replies.Banner (flat_map (λ (o : Outcome). tells o.work) (became_of ps)) in
    let counted = all_counted is_answer (λ r e. e) runs b lines ps last f in
    let each = each_answered runs b lines ps last f in
    omega (arith, first, counted, each)

-- ---- Bye

abbrev pub NoByes : List Reply → Type 0
NoByes rs = AllByRecursion (λ (r : Reply). r ≡ replies.Bye → ⊥) rs

pub no_byes_on : (xs ys : List Reply) → NoByes xs → NoByes ys → NoByes (xs ++ ys)
no_byes_on [] ys a b = b
no_byes_on (x ∷ xs) ys a b = (a.0, no_byes_on xs ys a.1 b)

not_bye : (r : Reply) → is_bye r ≡ false → r ≡ replies.Bye → ⊥
not_bye r none e = absurd (let f = sym none ∙ ap is_bye e in cc)

no_answer : (r : Reply) → is_answer r ≡ true → r ≡ replies.Bye → ⊥
no_answer r one e = absurd (let f = sym one ∙ ap is_answer e in cc)

body_no_bye : (rs : List Reply) → NoAnswers rs → NoByes rs
body_no_bye [] none = tt
body_no_bye (r ∷ rs) none = (not_bye r none.0.1, body_no_bye rs none.1)

line_no_bye : (o : Outcome) → AnswersOnce o → NoByes (tells o.work)
line_no_bye o once = subst NoByes (sym once.told) (no_byes_on once.body (o.answer ∷ []) (body_no_bye once.body once.none) (no_answer o.answer once.one, tt))

pub begun_no_bye : (b : Before) (o : Outcome) → AnswersOrHalts b o → NoByes (tells o.work)
begun_no_bye b o (inl once) = line_no_bye o once
begun_no_bye b o (inr is) = subst (λ (x : Outcome). NoByes (tells x.work)) (sym is) ((λ e. absurd cc), ((λ e. absurd cc), tt))

-- ---- the Banner

no_answer_greets : (r : Reply) → is_answer r ≡ true → is_banner r ≡ false
no_answer_greets replies.Banner e = absurd cc
no_answer_greets r e = refl

body_greets_none : (rs : List Reply) → NoAnswers rs → count_by is_banner rs ≡ 0
body_greets_none [] none = refl
body_greets_none (r ∷ rs) none =
    let a = sum_by-cons (λ x. cond (is_banner x) 1 0) r rs in let m = body_greets_none rs none.1 in let z = one_none (is_banner r) none.0.2 in omega arith

pub begun_greets_none : (b : Before) (o : Outcome) → AnswersOrHalts b o → count_by is_banner (tells o.work) ≡ 0
begun_greets_none b o (inl once) =
    let e = ap (count_by is_banner) once.told in
    let a = sum_by-append (λ x. cond (is_banner x) 1 0) once.body (o.answer ∷ []) in
    let m = body_greets_none once.body once.none in let z = one_none (is_banner o.answer) (no_answer_greets o.answer once.one) in omega arith
begun_greets_none b o (inr is) = subst (λ (x : Outcome). count_by is_banner (tells x.work) ≡ 0) (sym is) refl
