-- What there is to do of a line halts the machine only where the line raises an alarm.
use Rattle.std.proofs.Common.{◌≡◌, ◌≢◌, ℕ, ◌⊎◌, inl, inr, Bool, true, false, List, [], ◌∷◌, ◌++◌, length, drop, nat_eq, nat_lt, sym, refl, ap, ◌∙◌}
use Rattle.status_report.specs.declared.Reply.{Reply}
use Rattle.status_report.specs.declared.Reply.TheVariants as replies
use Rattle.run_rules.specs.declared.machine.Machine.TheVariants.{Jogs}
use Rattle.run_rules.specs.Asks.{planned}
use Rattle.run_rules.specs.Work.{Task, Outcome, is_limit, halting_work, telling}
use Rattle.run_rules.specs.Work.Task.{tell, halt}
use Rattle.run_rules.specs.Outcomes.{Before, Becomes, most_kept, begins_with_dollar}
use Rattle.run_rules.specs.Finding.{Found, ByKeptFound}
use Rattle.run_rules.proofs.Alarms.{beyond}
use Rattle.run_rules.proofs.Each.{by_either, HoldsOfEach, holds_of_each}
use Rattle.run_rules.proofs.Finding.{with_cause, free_caused}
use Rattle.run_rules.proofs.Items.{PassesTasks, holds_of_move, holds_of_work}
use Rattle.board_journal.specs.Steps.{without_asks}
use Rattle.board_rules.specs.Turns.{halts_next}

-- ---- tasks

-- none of them halts the machine
abbrev pub no_halts : List Task → Bool
no_halts [] = true
no_halts (halt ∷ ts) = false
no_halts (_ ∷ ts) = no_halts ts

pub no_halts_behind : (ts : List Task) → no_halts ts ≡ true → no_halts (drop 1 ts) ≡ true
no_halts_behind [] none = refl
no_halts_behind (halt ∷ ts) none = absurd cc
no_halts_behind (_ ∷ ts) none = none

pub none_halts_next : (ts : List Task) → no_halts ts ≡ true → halts_next ts ≡ false
none_halts_next [] none = refl
none_halts_next (halt ∷ ts) none = absurd cc
none_halts_next (_ ∷ ts) none = refl

pub no_halts_kept : (ts : List Task) → no_halts ts ≡ true → no_halts (without_asks ts) ≡ true
no_halts_kept [] none = refl
no_halts_kept (halt ∷ ts) none = absurd cc
no_halts_kept (_ ∷ ts) none = no_halts_kept ts none

-- ---- what becomes of a line

told_calm : (rs : List Reply) → no_halts (telling rs) ≡ true
told_calm [] = refl
told_calm (r ∷ rs) = told_calm rs

abbrev NoHalts : List Task → Type 0
NoHalts ts = no_halts ts ≡ true

each_calm : PassesTasks NoHalts
each_calm = record { asks = λ a ts is none. none; pauses = λ ts none. none; normals = λ ts none. none; ends = λ ts none. none }

-- it raises an alarm, and halts the machine; or neither
abbrev pub HaltsOrNot : Outcome → Type 0
HaltsOrNot o = ((is_limit o.answer ≡ true) × (o.work ≡ halting_work)) ⊎ ((is_limit o.answer ≡ false) × (no_halts o.work ≡ true))

pub line_halts : (runs : Bool) (b : Before) (kept : List ℕ) (o : Outcome) → Becomes runs b kept o → HaltsOrNot o
line_halts runs b kept o is =
    let modal = b.state.parser.modal in
    let each : HoldsOfEach b HaltsOrNot = record {
      refuses = λ n. inr (refl, refl);
      tells = λ next body kind. inr (refl, told_calm (body ++ replies.Ok ∷ []));
      executes = λ a. inr (refl, holds_of_work NoHalts each_calm b.number b.state.settings modal.spindle modal.flood a.items.items (tell replies.Ok ∷ []) refl);
      jogs = λ jog. inr (refl, holds_of_move NoHalts each_calm (planned b.number b.state.settings jog.mv jog.rate) (tell replies.Ok ∷ []) refl);
      limits = inl (refl, refl);
    } in
    holds_of_each runs b HaltsOrNot each kept o is

-- ---- in a jog no line raises an alarm

calm_answer : (x o : Outcome) → is_limit x.answer ≡ false → o ≡ x → is_limit o.answer ≡ false
calm_answer x o none is = ap (λ (y : Outcome). is_limit y.answer) is ∙ none

kept_in_jog : (b : Before) (kept : List ℕ) (o : Outcome) → kept ≢ [] → begins_with_dollar kept ≡ false → ByKeptFound Jogs b kept o → is_limit o.answer ≡ false
kept_in_jog b [] o some code is = absurd (some refl)
kept_in_jog b (c ∷ cs) o some code is = by_either (nat_eq c 36) _ _ _ (λ dollar here. absurd (let e = sym dollar ∙ code in cc)) (λ other here. calm_answer _ o refl here) is

pub calm_in_jog : (b : Before) (kept : List ℕ) (o : Outcome) → Found Jogs b kept o → is_limit o.answer ≡ false
calm_in_jog b kept o is = by_limit (is_limit o.answer) refl
  where
    by_limit : (t : Bool) → is_limit o.answer ≡ t → is_limit o.answer ≡ false
    by_limit false e = e
    by_limit true e =
        let cause = beyond true (with_cause Jogs kept b) kept o (free_caused Jogs b kept o (λ locked. absurd cc) is) e in
        by_either (nat_lt most_kept (length kept)) _ _ _ (λ long here. calm_answer _ o refl here) (λ short here. kept_in_jog b kept o cause.some cause.code here) is
