-- What becomes of a line by how the machine is found: standing, running, in a jog or locked.
use Rattle.std.specs.Prelude.{◌≡◌, ℕ, ◌⊎◌, Bool, true, false, List, [], ◌∷◌, length, nat_eq, nat_lt}
use Rattle.gcode_words.specs.Words.{words_of}
use Rattle.system_lines.specs.Commands.{kind_of, refused_in_run, refused_in_jog}
use Rattle.system_lines.specs.declared.Kind.{Kind}
use Rattle.system_lines.specs.declared.Kind.TheVariants as kinds
use Rattle.step_line.specs.Asking.Asked.{a_move}
use Rattle.step_line.specs.declared.planned_move.PlannedMove.{PlannedMove}
use Rattle.status_report.specs.declared.Reply.TheVariants.{Ok as Done}
use Rattle.run_rules.specs.Work.{Task, Outcome, halting_work, asks}
use Rattle.run_rules.specs.Work.Kind.{of_code, of_jog, of_none}
use Rattle.run_rules.specs.Work.Task.{ask, tell}
use Rattle.run_rules.specs.Outcomes.{Before, refused, told, either, ByServed, ByWords, most_kept, begins_with_dollar}
use Rattle.run_rules.specs.Locking.{is_unlock, unlocked}
use Rattle.run_rules.specs.declared.machine.Machine.{Machine}
use Rattle.run_rules.specs.declared.machine.Machine.TheVariants.{Stands, Runs, Jogs, Locked}

-- lines that begin with `$J`
abbrev pub begins_jog : Kind → Bool
begins_jog kinds.Jog = true
begins_jog kinds.BareJog = true
begins_jog _ = false

-- the kinds of lines that begin with `$` and are refused with 8
abbrev pub refuses : Machine → Kind → Bool
refuses Stands kind = false
refuses Runs kind = refused_in_run kind
refuses Jogs kind = refused_in_jog kind
refuses Locked kind = begins_jog kind

-- lines of G-code are refused with 9
abbrev pub locks : Machine → Bool
locks Stands = false
locks Runs = false
locks Jogs = true
locks Locked = true

abbrev pub is_locked : Machine → Bool
is_locked Locked = true
is_locked _ = false

-- `$X` unlocks a machine that is locked
abbrev pub is_unlocked_by : Machine → Kind → Bool
is_unlocked_by Locked kind = is_unlock kind
is_unlocked_by _ kind = false

abbrev pub ByDollarFound : Machine → Before → List ℕ → Outcome → Type 0
ByDollarFound m b kept o = either (refuses m (kind_of kept)) (o ≡ refused b 8) (either (is_unlocked_by m (kind_of kept)) (o ≡ unlocked b) (ByServed b kept o))

abbrev pub ByCodeFound : Machine → Before → List ℕ → Outcome → Type 0
ByCodeFound m b kept o = either (locks m) (o ≡ refused b 9) (ByWords b (words_of kept) o)

abbrev pub ByKeptFound : Machine → Before → List ℕ → Outcome → Type 0
ByKeptFound m b [] o = o ≡ told b.state []
ByKeptFound m b (c ∷ cs) o = either (nat_eq c 36) (ByDollarFound m b (c ∷ cs) o) (ByCodeFound m b (c ∷ cs) o)

-- What becomes of a line of which this is kept. If the machine stands it is what `Becomes` says of a machine that is
-- never found in motion; if it runs or jogs, what `Becomes` says of one that may be, if the lines before have a cause
-- for it; and if it is locked, what `BecomesLocked` says.
abbrev pub Found : Machine → Before → List ℕ → Outcome → Type 0
Found m b kept o = either (nat_lt most_kept (length kept)) (o ≡ refused b 11) (ByKeptFound m b kept o)

-- ---- of which kind a line is

-- one move and `ok`, or nothing is asked of the machine
abbrev pub IsJogWork : List Task → Type 0
IsJogWork work = (asks work ≡ []) ⊎ ((m : PlannedMove) × (work ≡ ask (a_move m) ∷ tell Done ∷ []))

-- What becomes of a line if the machine is found so, by its kind. It is an accepted line of G-code, never in a jog; an
-- accepted jog, never while the machine runs, which begins with `$`, asks for one move at most, and does not settle; a
-- line that a soft limit stops, never in a jog; or none of these, which asks nothing of the machine and does not
-- settle. Of a locked machine it is none of these.
pub data Fate (m : Machine) (kept : List ℕ) (o : Outcome) : Type 0 where
  coded : o.kind ≡ of_code → (m ≡ Jogs → ⊥) × (m ≡ Locked → ⊥) → Fate m kept o
  a_jog : o.kind ≡ of_jog → (m ≡ Runs → ⊥) × (m ≡ Locked → ⊥) → begins_with_dollar kept ≡ true → o.settles ≡ false → IsJogWork o.work → Fate m kept o
  halted : o.kind ≡ of_none → (m ≡ Jogs → ⊥) × (m ≡ Locked → ⊥) → o.settles ≡ false → o.work ≡ halting_work → Fate m kept o
  neither : o.kind ≡ of_none → o.settles ≡ false → asks o.work ≡ [] → Fate m kept o
