-- What is found of a line is what becomes of it.
use Rattle.std.proofs.Common.{◌≡◌, ℕ, Bool, true, false, ◌||◌, List, [], ◌∷◌, length, nat_eq, nat_lt, not, ◌⊎◌, inl, inr, refl, sym, ap, ◌∙◌, subst, Ok, Err, Some, None}
use Rattle.std.specs.declared.option.Option.{Option}
use Rattle.std.specs.declared.result.Result.{Result}
use Rattle.units.specs.declared.Decimal.{Decimal}
use Rattle.code_table.specs.declared.Code.{Code}
use Rattle.gcode_check.specs.Verdicts.{verdict}
use Rattle.gcode_check.specs.declared.Verdict.{Verdict}
use Rattle.gcode_check.specs.declared.Verdict.TheVariants.{Accept}
use Rattle.gcode_words.specs.declared.Word.{Word}
use Rattle.gcode_words.specs.declared.WordFault.{WordFault}
use Rattle.jog.specs.declared.JogMove.{JogMove}
use Rattle.jog.specs.Jogs.{jog_of}
use Rattle.settings.specs.Numbers.{set_refusal}
use Rattle.system_lines.specs.declared.Command.{Command}
use Rattle.system_lines.specs.declared.Command.TheVariants.{Set}
use Rattle.gcode_words.specs.Words.{words_of}
use Rattle.system_lines.specs.Commands.{command_of, kind_of, jog_words, is_jog}
use Rattle.system_lines.specs.declared.Kind.{Kind}
use Rattle.system_lines.specs.declared.Kind.TheVariants as kinds
use Rattle.run_rules.specs.declared.machine.Machine.{Machine}
use Rattle.run_rules.specs.declared.machine.Machine.TheVariants.{Stands, Runs, Jogs, Locked}
use Rattle.run_rules.specs.Work.{Outcome}
use Rattle.run_rules.specs.Finding.{refuses, locks, begins_jog, is_unlocked_by, is_locked, ByKeptFound, Found}
use Rattle.run_rules.specs.Locking.{is_unlock, unlocked, ByLockedDollar, ByLockedKept, BecomesLocked, BecomesIn}
use Rattle.run_rules.specs.Outcomes.{Before, refused, has_cause, begins_with_dollar, ByVerdict, ByWords, BySetting, ByCommand, ByJogMove, ByJog, ByServed, ByDollar, ByCode, ByKept, Becomes, either, most_kept}

-- a line that is refused where the machine is found so has a cause
abbrev RefusesWithCause : Machine → Before → Type 0
RefusesWithCause m b = (kind : Kind) → refuses m kind ≡ true → has_cause b kind ≡ true

runs_cause : (b : Before) → b.moved ≡ true → b.jogged ≡ false → RefusesWithCause Runs b
runs_cause b moved other kinds.ListOffsets e = rw moved refl
runs_cause b moved other kinds.Setting e = rw moved refl
runs_cause b moved other kinds.ListModes e = absurd cc
runs_cause b moved other kinds.Unlock e = absurd cc
runs_cause b moved other kinds.Other e = absurd cc
runs_cause b moved other _ e = rw moved (rw other refl)

jogs_cause : (b : Before) → (b.moved || b.jog_moved) ≡ true → RefusesWithCause Jogs b
jogs_cause b moved kinds.ListOffsets e = moved
jogs_cause b moved kinds.Setting e = moved
jogs_cause b moved _ e = absurd cc

both_on : (t : Bool) (A B C D : Type 0) → (A → C) → (B → D) → either t A B → either t C D
both_on true A B C D f g x = f x
both_on false A B C D f g x = g x

-- a line that does not unlock the machine
served_by : (u : Bool) (A B : Type 0) → u ≡ false → either u A B → B
served_by true A B none by = absurd cc
served_by false A B none by = by

dollar_on : (t u : Bool) (b : Before) (kept : List ℕ) (o : Outcome) → u ≡ false → (t ≡ true → has_cause b (kind_of kept) ≡ true) → either t (o ≡ refused b 8) (either u (o ≡ unlocked b) (ByServed b kept o)) → ByDollar true b kept o
dollar_on true u b kept o none causes by = inl (record { cause = causes refl; found = refl; outcome = by })
dollar_on false u b kept o none causes by = inr (served_by u _ _ none by)

code_on : (t : Bool) (b : Before) (kept : List ℕ) (o : Outcome) → (t ≡ true → b.jogged ≡ true) → either t (o ≡ refused b 9) (ByWords b (words_of kept) o) → ByCode true b kept o
code_on true b kept o jogged by = inl (record { cause = jogged refl; found = refl; outcome = by })
code_on false b kept o jogged by = inr by

kept_still : (b : Before) (kept : List ℕ) (o : Outcome) → ByKeptFound Stands b kept o → ByKept false b kept o
kept_still b [] o by = by
kept_still b (c ∷ cs) o by = both_on (nat_eq c 36) _ _ _ _ (λ x. inr x) (λ x. inr x) by

-- no line unlocks it
abbrev IsFree : Machine → Type 0
IsFree m = (kind : Kind) → is_unlocked_by m kind ≡ false

kept_on : (m : Machine) (b : Before) (kept : List ℕ) (o : Outcome) → IsFree m → RefusesWithCause m b → (locks m ≡ true → b.jogged ≡ true) → ByKeptFound m b kept o → ByKept true b kept o
kept_on m b [] o free causes jogged by = by
kept_on m b (c ∷ cs) o free causes jogged by =
    both_on (nat_eq c 36) _ _ _ _ (dollar_on (refuses m (kind_of (c ∷ cs))) (is_unlocked_by m (kind_of (c ∷ cs))) b (c ∷ cs) o (free (kind_of (c ∷ cs))) (causes (kind_of (c ∷ cs)))) (code_on (locks m) b (c ∷ cs) o jogged) by

found_on : (m : Machine) (b : Before) (kept : List ℕ) (o : Outcome) → IsFree m → RefusesWithCause m b → (locks m ≡ true → b.jogged ≡ true) → Found m b kept o → Becomes true b kept o
found_on m b kept o free causes jogged by = both_on (nat_lt most_kept (length kept)) _ _ _ _ (λ x. x) (kept_on m b kept o free causes jogged) by

pub becomes_still : (b : Before) (kept : List ℕ) (o : Outcome) → Found Stands b kept o → Becomes false b kept o
becomes_still b kept o by = both_on (nat_lt most_kept (length kept)) _ _ _ _ (λ x. x) (kept_still b kept o) by

pub becomes_running : (b : Before) (kept : List ℕ) (o : Outcome) → b.moved ≡ true → b.jogged ≡ false → Found Runs b kept o → Becomes true b kept o
becomes_running b kept o moved other by = found_on Runs b kept o (λ kind. refl) (runs_cause b moved other) (λ e. absurd cc) by

pub becomes_jogging : (b : Before) (kept : List ℕ) (o : Outcome) → (b.moved || b.jog_moved) ≡ true → b.jogged ≡ true → Found Jogs b kept o → Becomes true b kept o
becomes_jogging b kept o moved jogged by = found_on Jogs b kept o (λ kind. refl) (jogs_cause b moved) (λ e. jogged) by

-- ---- a machine that is locked

-- what begins with `$J` is refused, and `$X` unlocks
dollar_locked : (b : Before) (kept : List ℕ) (kind : Kind) (o : Outcome) → either (begins_jog kind) (o ≡ refused b 8) (either (is_unlock kind) (o ≡ unlocked b) (either (is_jog kind) (ByJog b (words_of (jog_words kept)) o) (ByCommand b (command_of kept) o)))
    → ByLockedDollar b kept kind o
dollar_locked b kept kinds.ListSettings o by = by
dollar_locked b kept kinds.ListModes o by = by
dollar_locked b kept kinds.Unlock o by = by
dollar_locked b kept kinds.ListOffsets o by = by
dollar_locked b kept kinds.Setting o by = by
dollar_locked b kept kinds.Jog o by = by
dollar_locked b kept kinds.BareJog o by = by
dollar_locked b kept kinds.Other o by = by

kept_locked : (b : Before) (kept : List ℕ) (o : Outcome) → ByKeptFound Locked b kept o → ByLockedKept b kept o
kept_locked b [] o by = by
kept_locked b (c ∷ cs) o by = both_on (nat_eq c 36) _ _ _ _ (dollar_locked b (c ∷ cs) (kind_of (c ∷ cs)) o) (λ x. x) by

pub becomes_locked : (b : Before) (kept : List ℕ) (o : Outcome) → Found Locked b kept o → BecomesLocked b kept o
becomes_locked b kept o by = both_on (nat_lt most_kept (length kept)) _ _ _ _ (λ x. x) (kept_locked b kept o) by

-- ---- what becomes of a line by a cause of the machine

-- a line that begins with `$` and is served while the machine is locked
dollar_serves : (b : Before) (kept : List ℕ) (kind : Kind) (o : Outcome) → b.moved ≡ true → b.jogged ≡ false → kind_of kept ≡ kind → ByLockedDollar b kept kind o → (o ≡ unlocked b) ⊎ ByDollar true b kept o
dollar_serves b kept kinds.Unlock o moved other is by = inl by
dollar_serves b kept kinds.Jog o moved other is by = inr (inl (record { cause = ap (has_cause b) is ∙ rw moved (rw other refl); found = refl; outcome = by }))
dollar_serves b kept kinds.BareJog o moved other is by = inr (inl (record { cause = ap (has_cause b) is ∙ rw moved (rw other refl); found = refl; outcome = by }))
dollar_serves b kept kinds.ListSettings o moved other is by = inr (inr (subst (λ (k : Kind). either (is_jog k) (ByJog b (words_of (jog_words kept)) o) (ByCommand b (command_of kept) o)) (sym is) by))
dollar_serves b kept kinds.ListModes o moved other is by = inr (inr (subst (λ (k : Kind). either (is_jog k) (ByJog b (words_of (jog_words kept)) o) (ByCommand b (command_of kept) o)) (sym is) by))
dollar_serves b kept kinds.ListOffsets o moved other is by = inr (inr (subst (λ (k : Kind). either (is_jog k) (ByJog b (words_of (jog_words kept)) o) (ByCommand b (command_of kept) o)) (sym is) by))
dollar_serves b kept kinds.Setting o moved other is by = inr (inr (subst (λ (k : Kind). either (is_jog k) (ByJog b (words_of (jog_words kept)) o) (ByCommand b (command_of kept) o)) (sym is) by))
dollar_serves b kept kinds.Other o moved other is by = inr (inr (subst (λ (k : Kind). either (is_jog k) (ByJog b (words_of (jog_words kept)) o) (ByCommand b (command_of kept) o)) (sym is) by))

-- ---- the outcome goes by the number and the state before it alone

-- A machine that is found so refuses a line of G-code as if it were in a jog, also if it is locked; but not a line that begins with `$`
-- while it is.
abbrev pub jogs_for : Machine → List ℕ → Bool
jogs_for Locked kept = not (begins_with_dollar kept)
jogs_for m kept = locks m

-- the lines before have a cause for a machine that is found so with a line
abbrev pub with_cause : Machine → List ℕ → Before → Before
with_cause m kept b = record b { moved = true; jog_moved = true; jogged = jogs_for m kept }

verdict_too : (m : Machine) (line : List ℕ) (b : Before) (v : Verdict) (o : Outcome) → ByVerdict b v o → ByVerdict (with_cause m line b) v o
verdict_too m line b (Accept a) o by = by
verdict_too m line b _ o by = by

words_too : (m : Machine) (line : List ℕ) (b : Before) (r : Result (List Word) WordFault) (o : Outcome) → ByWords b r o → ByWords (with_cause m line b) r o
words_too m line b (Err fault) o by = by
words_too m line b (Ok ws) o by = verdict_too m line b (verdict b.state.parser b.state.settings ws) o by

setting_too : (m : Machine) (line : List ℕ) (b : Before) (n : ℕ) (value : Decimal) (r : Option Code) (o : Outcome) → BySetting b n value r o → BySetting (with_cause m line b) n value r o
setting_too m line b n value (Some code) o by = by
setting_too m line b n value None o by = by

command_too : (m : Machine) (line : List ℕ) (b : Before) (r : Result Command Code) (o : Outcome) → ByCommand b r o → ByCommand (with_cause m line b) r o
command_too m line b (Ok (Set n value)) o by = setting_too m line b n value (set_refusal n value) o by
command_too m line b _ o by = by

jog_move_too : (m : Machine) (line : List ℕ) (b : Before) (r : Result JogMove Code) (o : Outcome) → ByJogMove b r o → ByJogMove (with_cause m line b) r o
jog_move_too m line b (Err code) o by = by
jog_move_too m line b (Ok jog) o by = by

jog_too : (m : Machine) (line : List ℕ) (b : Before) (r : Result (List Word) WordFault) (o : Outcome) → ByJog b r o → ByJog (with_cause m line b) r o
jog_too m line b (Err fault) o by = by
jog_too m line b (Ok ws) o by = jog_move_too m line b (jog_of b.state.parser b.state.settings ws) o by

served_too : (m : Machine) (line : List ℕ) (b : Before) (kept : List ℕ) (o : Outcome) → ByServed b kept o → ByServed (with_cause m line b) kept o
served_too m line b kept o by = both_on (is_jog (kind_of kept)) _ _ _ _ (jog_too m line b (words_of (jog_words kept)) o) (command_too m line b (command_of kept) o) by

kept_too : (m : Machine) (line : List ℕ) (b : Before) (kept : List ℕ) (o : Outcome) → ByKeptFound m b kept o → ByKeptFound m (with_cause m line b) kept o
kept_too m line b [] o by = by
kept_too m line b (c ∷ cs) o by = both_on (nat_eq c 36) _ _ _ _
    (both_on (refuses m (kind_of (c ∷ cs))) _ _ _ _ (λ x. x) (both_on (is_unlocked_by m (kind_of (c ∷ cs))) _ _ _ _ (λ x. x) (served_too m line b (c ∷ cs) o)))
    (both_on (locks m) _ _ _ _ (λ x. x) (words_too m line b (words_of (c ∷ cs)) o)) by

found_too : (m : Machine) (line : List ℕ) (b : Before) (kept : List ℕ) (o : Outcome) → Found m b kept o → Found m (with_cause m line b) kept o
found_too m line b kept o by = both_on (nat_lt most_kept (length kept)) _ _ _ _ (λ x. x) (kept_too m line b kept o) by

either_or : (t : Bool) (A B C U : Type 0) → (B → U ⊎ C) → either t A B → U ⊎ either t A C
either_or true A B C U f by = inr by
either_or false A B C U f by = f by

dollar_or_code : (t : Bool) (b : Before) (kept : List ℕ) (o : Outcome) → b.moved ≡ true → b.jogged ≡ not t → either t (ByLockedDollar b kept (kind_of kept) o) (o ≡ refused b 9)
    → (o ≡ unlocked b) ⊎ either t (ByDollar true b kept o) (ByCode true b kept o)
dollar_or_code true b kept o moved jogged by = dollar_serves b kept (kind_of kept) o moved jogged refl by
dollar_or_code false b kept o moved jogged by = inr (inl (record { cause = jogged; found = refl; outcome = by }))

kept_serves : (b : Before) (kept : List ℕ) (o : Outcome) → b.moved ≡ true → b.jogged ≡ not (begins_with_dollar kept) → ByLockedKept b kept o → (o ≡ unlocked b) ⊎ ByKept true b kept o
kept_serves b [] o moved jogged by = inr by
kept_serves b (c ∷ cs) o moved jogged by = dollar_or_code (nat_eq c 36) b (c ∷ cs) o moved jogged by

locked_serves : (b : Before) (kept : List ℕ) (o : Outcome) → b.moved ≡ true → b.jogged ≡ not (begins_with_dollar kept) → BecomesLocked b kept o → (o ≡ unlocked b) ⊎ Becomes true b kept o
locked_serves b kept o moved jogged by = either_or (nat_lt most_kept (length kept)) _ _ _ _ (kept_serves b kept o moved jogged) by

-- so what is found of a line becomes of it, if the lines before have a cause; or it unlocks the machine
pub found_caused : (m : Machine) (b : Before) (kept : List ℕ) (o : Outcome) → Found m b kept o → (o ≡ unlocked b) ⊎ Becomes true (with_cause m kept b) kept o
found_caused Stands b kept o by = inr (found_on Stands (with_cause Stands kept b) kept o (λ kind. refl) (λ kind e. absurd cc) (λ e. absurd cc) (found_too Stands kept b kept o by))
found_caused Runs b kept o by = inr (found_on Runs (with_cause Runs kept b) kept o (λ kind. refl) (runs_cause (with_cause Runs kept b) refl refl) (λ e. absurd cc) (found_too Runs kept b kept o by))
found_caused Jogs b kept o by = inr (found_on Jogs (with_cause Jogs kept b) kept o (λ kind. refl) (jogs_cause (with_cause Jogs kept b) refl) (λ e. refl) (found_too Jogs kept b kept o by))
found_caused Locked b kept o by = locked_serves (with_cause Locked kept b) kept o refl refl (becomes_locked (with_cause Locked kept b) kept o (found_too Locked kept b kept o by))

-- of a machine that is not locked
pub free_caused : (m : Machine) (b : Before) (kept : List ℕ) (o : Outcome) → (m ≡ Locked → ⊥) → Found m b kept o → Becomes true (with_cause m kept b) kept o
free_caused Stands b kept o free by = found_on Stands (with_cause Stands kept b) kept o (λ kind. refl) (λ kind e. absurd cc) (λ e. absurd cc) (found_too Stands kept b kept o by)
free_caused Runs b kept o free by = found_on Runs (with_cause Runs kept b) kept o (λ kind. refl) (runs_cause (with_cause Runs kept b) refl refl) (λ e. absurd cc) (found_too Runs kept b kept o by)
free_caused Jogs b kept o free by = found_on Jogs (with_cause Jogs kept b) kept o (λ kind. refl) (jogs_cause (with_cause Jogs kept b) refl) (λ e. refl) (found_too Jogs kept b kept o by)
free_caused Locked b kept o free by = absurd (free refl)

-- the cause is one of the machine
pub record IsCaused (m : Machine) (b : Before) : Type 0 where
  pub moved : m ≡ Runs → b.moved ≡ true
  pub unjogged : m ≡ Runs → b.jogged ≡ false
  pub jogged : m ≡ Jogs → b.jogged ≡ true
  pub some : m ≡ Jogs → (b.moved || b.jog_moved) ≡ true

pub found_becomes : (m : Machine) (b : Before) (kept : List ℕ) (o : Outcome) → IsCaused m b → Found m b kept o → BecomesIn (is_locked m) true b kept o
found_becomes Stands b kept o caused by = found_on Stands b kept o (λ kind. refl) (λ kind e. absurd cc) (λ e. absurd cc) by
found_becomes Runs b kept o caused by = becomes_running b kept o (caused.moved refl) (caused.unjogged refl) by
found_becomes Jogs b kept o caused by = becomes_jogging b kept o (caused.some refl) (caused.jogged refl) by
found_becomes Locked b kept o caused by = becomes_locked b kept o by
