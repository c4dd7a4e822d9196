-- What a line that is begun is, by how it finds the machine.
use Rattle.std.proofs.Common.{◌≡◌, ◌⊎◌, inl, inr, ℕ, Bool, true, false, cond, ◌&&◌, ◌||◌, List, [], ◌∷◌, refl, sym, ap, ◌∙◌, subst}
use Rattle.run_rules.specs.Locking.{unlocked}
use Rattle.run_rules.specs.declared.machine.Machine.{Machine}
use Rattle.run_rules.specs.Work.{Outcome, Kind, accepted_code, accepted_jog, is_limit, has_moves}
use Rattle.run_rules.proofs.Answering.{halts}
use Rattle.run_rules.specs.Work.Kind.{of_code, of_jog, of_none}
use Rattle.run_rules.specs.Outcomes.{Before, Becomes, limited, after, jogged_behind}
use Rattle.run_rules.specs.Finding.{Fate}
use Rattle.run_rules.specs.Finding.{Fate as fates}
use Rattle.run_rules.proofs.Finding.{with_cause, found_caused}
use Rattle.run_rules.proofs.Fates.{fate}
use Rattle.board_journal.specs.Openings.{Opening}
use Rattle.board_journal.specs.Steps.{Journal, before_of, open_of, motion_of}
use Rattle.board_journal.specs.Steps.Step.{began}
use Rattle.board_rules.specs.Turns.{has_jogged, machine_in}
use Rattle.board_rules.specs.Conduct.{MayBegin}
use Rattle.board_rules.specs.Whole.{has_any_moved}
use Rattle.board_rules.proofs.Dropping.{none_moves as nothing_moves}

pub fate_now : (first : Opening) (h : Journal) (o : Outcome) → MayBegin first o h → Fate (machine_in (motion_of first h)) (open_of h) o
fate_now first h o may = fate (machine_in (motion_of first h)) (before_of first h) (open_of h) o may.becomes

-- the same number and state, with a cause for the machine as it is found: the outcome goes by the number and the state alone
abbrev pub caused : Opening → Journal → Before
caused first h = with_cause (machine_in (motion_of first h)) (open_of h) (before_of first h)

-- or it unlocks the machine
pub becomes_caused : (first : Opening) (h : Journal) (o : Outcome) → MayBegin first o h → (o ≡ unlocked (before_of first h)) ⊎ Becomes true (caused first h) (open_of h) o
becomes_caused first h o may = found_caused (machine_in (motion_of first h)) (before_of first h) (open_of h) o may.becomes

by_cause : (b was : Before) (kept : List ℕ) (o : Outcome) (P : Outcome → Type 0) → P (unlocked b) → ((x : Outcome) → Becomes true was kept x → P x) → (o ≡ unlocked b) ⊎ Becomes true was kept o → P o
by_cause b was kept o P unlocks becomes (inl is) = subst P (sym is) unlocks
by_cause b was kept o P unlocks becomes (inr is) = becomes o is

-- what holds of an unlock, and of what becomes of a line by its cause, holds of a line that is begun
pub of_begun : (first : Opening) (h : Journal) (o : Outcome) (P : Outcome → Type 0) → MayBegin first o h → P (unlocked (before_of first h)) → ((x : Outcome) → Becomes true (caused first h) (open_of h) x → P x) → P o
of_begun first h o P may unlocks becomes = by_cause (before_of first h) (caused first h) (open_of h) o P unlocks becomes (becomes_caused first h o may)

-- one that raises an alarm is stopped by a soft limit
pub begun_halts : (first : Opening) (h : Journal) (o : Outcome) → MayBegin first o h → is_limit o.answer ≡ true → o ≡ limited (caused first h)
begun_halts first h o may one = of_begun first h o (λ (x : Outcome). is_limit x.answer ≡ true → x ≡ limited (caused first h)) may (λ e. absurd cc) (halts true (caused first h) (open_of h)) one

-- the journal tells whether the last is a jog
pub jogged_is : (first : Opening) (h : Journal) → (before_of first h).jogged ≡ has_jogged h
jogged_is first [] = refl
jogged_is first (began o ∷ h) = ap (jogged_behind o.kind) (jogged_is first h)
jogged_is first (_ ∷ h) = jogged_is first h

-- what is neither G-code nor a jog moves nothing
none_moves : (m : Machine) (kept : List ℕ) (o : Outcome) → Fate m kept o → o.kind ≡ of_none → has_moves o.work ≡ false
none_moves m kept o (fates.coded kind other) is = absurd (let e = sym (ap accepted_code kind) ∙ ap accepted_code is in cc)
none_moves m kept o (fates.a_jog kind other dollar still work) is = absurd (let e = sym (ap accepted_jog kind) ∙ ap accepted_jog is in cc)
none_moves m kept o (fates.halted kind other still work) is = ap has_moves work
none_moves m kept o (fates.neither kind still none) is = nothing_moves o.work none

counted : (k : Kind) (s m moved jog : Bool) → (k ≡ of_none → m ≡ false)
    → (cond s false (accepted_code k && m || moved) || cond s false (accepted_jog k && m || jog)) ≡ false → cond s false (m || (moved || jog)) ≡ false
counted k true m moved jog none e = refl
counted of_code false true moved jog none e = absurd cc
counted of_code false false moved jog none e = e
counted of_jog false true true jog none e = absurd cc
counted of_jog false true false jog none e = absurd cc
counted of_jog false false moved jog none e = e
counted of_none false true moved jog none e = absurd (let f = none refl in cc)
counted of_none false false moved jog none e = e

-- where nothing has moved behind a line, it has not, and nothing had before it, unless it settles
pub all_counted : (first : Opening) (h : Journal) (o : Outcome) → MayBegin first o h → has_any_moved (after (before_of first h) o) ≡ false
    → cond o.settles false (has_moves o.work || has_any_moved (before_of first h)) ≡ false
all_counted first h o may e =
    counted o.kind o.settles (has_moves o.work) (before_of first h).moved (before_of first h).jog_moved (none_moves (machine_in (motion_of first h)) (open_of h) o (fate_now first h o may)) e
