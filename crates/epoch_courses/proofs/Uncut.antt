-- No cut comes behind a line that a reset keeps from its answer: behind a cut nothing but replies is left.
use Rattle.std.proofs.Common.{◌≡◌, ◌⊎◌, inl, inr, ℕ, Bool, true, false, List, [], ◌∷◌, ◌++◌, drop, refl, sym, ap, ◌∙◌, subst}
use Rattle.planner_runs.specs.declared.Action.{Action}
use Rattle.planner_runs.specs.declared.Action.TheVariants.{Add, Mark, Rest}
use Rattle.run_rules.specs.Asks.{move_asked, planned}
use Rattle.run_rules.specs.Outcomes.{Before, Becomes, jogged_behind}
use Rattle.run_rules.specs.Work.{Task, Outcome, Kind, is_limit, asking, telling}
use Rattle.run_rules.specs.Work.Kind.{of_code}
use Rattle.run_rules.specs.Work.Task.{ask, tell}
use Rattle.run_rules.proofs.Each.{HoldsOfEach, holds_of_each}
use Rattle.status_report.specs.declared.Reply.{Reply}
use Rattle.status_report.specs.declared.Reply.TheVariants as replies
use Rattle.step_line.specs.Asking.{Asked}
use Rattle.board_rules.specs.Conduct.{Conducted, MayBegin}
use Rattle.board_journal.specs.Openings.{Opening}
use Rattle.board_journal.specs.Ports.PortStep.{answered}
use Rattle.board_journal.specs.Steps.{Step, Journal, open_of, left_of, left_by, without_asks, has_limited, closed_tells}
use Rattle.board_journal.specs.Steps.Step.{at_port, began, did, became, cut, closing, turned}
use Rattle.board_rules.specs.Turns.{has_jogged}
use Rattle.board_rules.proofs.Alarms.{opposite}
use Rattle.board_rules.proofs.Beginning.{caused, of_begun}
use Rattle.board_rules.proofs.Jogging.{cancel_is_jog}
use Rattle.board_rules.proofs.Tasks.{none_closed}
use Rattle.board_rules.proofs.Phases.{Ends}
use Rattle.board_epochs.specs.Epochs.{IsEpoch}
use Rattle.board_epochs.specs.Resets.{MayReset}
use Rattle.board_epochs.proofs.Prompting.{calm, going}
use Rattle.epoch_courses.specs.Course.{is_unanswered}
use Rattle.epoch_courses.proofs.Answered.{BeginsNone, alone_on, ends_there}
use Rattle.epoch_courses.proofs.Broken.{IsUncut, was_unanswered}
use Rattle.epoch_courses.proofs.Tells.{tells_alone, alone_told, alone_kept, none_left}

-- ---- what is left of a jog

-- but for what is asked only replies are left
abbrev tells_besides : List Task → Bool
tells_besides ts = tells_alone (without_asks ts)

besides_tail : (ts : List Task) → tells_besides ts ≡ true → tells_besides (drop 1 ts) ≡ true
besides_tail [] is = refl
besides_tail (ask a ∷ ts) is = is
besides_tail (tell r ∷ ts) is = is
besides_tail (_ ∷ ts) is = absurd cc

besides_asking : (asked : List Asked) (ts : List Task) → tells_besides (asking asked ++ ts) ≡ tells_besides ts
besides_asking [] ts = refl
besides_asking (a ∷ asked) ts = besides_asking asked ts

besides_told : (rs : List Reply) → tells_besides (telling rs) ≡ true
besides_told rs = alone_kept (telling rs) (alone_told rs)

besides_kept : (ts : List Task) → tells_besides ts ≡ true → tells_besides (without_asks ts) ≡ true
besides_kept ts is = alone_kept (without_asks ts) is

-- a line is an accepted one of G-code, raises an alarm, or tells besides what it asks
abbrev Besides : Outcome → Type 0
Besides o = (o.kind ≡ of_code) ⊎ ((is_limit o.answer ≡ true) ⊎ (tells_besides o.work ≡ true))

line_besides : (runs : Bool) (b : Before) (kept : List ℕ) (o : Outcome) → Becomes runs b kept o → Besides o
line_besides runs b kept o is =
    let each : HoldsOfEach b Besides = record {
      refuses = λ n. inr (inr refl);
      tells = λ next body kind. inr (inr (besides_told (body ++ replies.Ok ∷ [])));
      executes = λ a. inl refl;
      jogs = λ jog. inr (inr (besides_asking (move_asked (planned b.number b.state.settings jog.mv jog.rate)) (tell replies.Ok ∷ [])));
      limits = inr (inl refl);
    } in
    holds_of_each runs b Besides each kept o is

begun_besides : (first : Opening) (h : Journal) (o : Outcome) → MayBegin first o h → Besides o
begun_besides first h o may = of_begun first h o Besides may (inr (inr refl)) (line_besides true (caused first h) (open_of h))

begun_left : (o : Outcome) (was : Bool) → is_limit o.answer ≡ false → jogged_behind o.kind was ≡ true → Besides o → tells_besides o.work ≡ true
begun_left o was calm jogs (inl code) = absurd (let e = sym (ap (λ (k : Kind). jogged_behind k was) code) ∙ jogs in cc)
begun_left o was calm jogs (inr (inl one)) = opposite (is_limit o.answer) one calm
begun_left o was calm jogs (inr (inr told)) = told

besides_did : (a : Action) (ts : List Task) → tells_besides ts ≡ true → tells_besides (left_by a ts) ≡ true
besides_did (Add m) ts is = besides_tail ts is
besides_did (Mark m) ts is = besides_tail ts is
besides_did Rest ts is = besides_tail ts is
besides_did _ ts is = is

jog_left : (first : Opening) (h : Journal) → Conducted first h → has_limited h ≡ false → closed_tells h ≡ [] → has_jogged h ≡ true → tells_besides (left_of first h) ≡ true
jog_left first [] c calm going jogs = absurd cc
jog_left first (at_port (answered r) ∷ h) c calm going jogs = besides_tail (left_of first h) (jog_left first h c.1 calm going jogs)
jog_left first (at_port e ∷ h) c calm going jogs = jog_left first h c.1 calm going jogs
jog_left first (began o ∷ h) c calm going jogs = begun_left o (has_jogged h) calm jogs (begun_besides first h o c.0)
jog_left first (did a ps ∷ h) c calm going jogs = besides_did a (left_of first h) (jog_left first h c.1 calm going jogs)
jog_left first (became call m ∷ h) c calm going jogs = jog_left first h c.1 calm going jogs
jog_left first (cut k ∷ h) c calm going jogs = besides_kept (left_of first h) (jog_left first h c.1 calm going jogs)
jog_left first (closing ∷ h) c calm going jogs = absurd (none_closed (closed_tells h) going)
jog_left first (turned t ∷ h) c calm going jogs = jog_left first h c.1 calm going jogs
jog_left first (_ ∷ h) c calm going jogs = besides_tail (left_of first h) (jog_left first h c.1 calm going jogs)

cut_alone : (first : Opening) (h : Journal) (k : ℕ) → Conducted first (cut k ∷ h) → closed_tells h ≡ [] → tells_alone (without_asks (left_of first h)) ≡ true
cut_alone first h k c going = jog_left first h c.1 c.0.calm going (cancel_is_jog first h c.1 c.0.cancelled)

-- ---- behind the line begun last

uncut_on : (first : Opening) (s : Step) (h : Journal) → BeginsNone s → closed_tells (s ∷ h) ≡ [] → (IsUncut h → IsUncut (s ∷ h)) → IsUncut h ⊎ (tells_alone (left_of first h) ≡ true) → IsUncut (s ∷ h) ⊎ (tells_alone (left_of first (s ∷ h)) ≡ true)
uncut_on first s h none going keeps (inl uncut) = inl (keeps uncut)
uncut_on first s h none going keeps (inr alone) = inr (alone_on first s h none going alone)

uncut_or_told : (first : Opening) (h : Journal) → Conducted first h → closed_tells h ≡ [] → is_unanswered h ≡ true → IsUncut h ⊎ (tells_alone (left_of first h) ≡ true)
uncut_or_told first [] c going one = absurd cc
uncut_or_told first (began o ∷ h) c going one = inl tt
uncut_or_told first (cut k ∷ h) c going one = inr (cut_alone first h k c going)
uncut_or_told first (closing ∷ h) c going one = absurd (none_closed (closed_tells h) going)
uncut_or_told first (at_port e ∷ h) c going one = uncut_on first (at_port e) h tt going (λ u. u) (uncut_or_told first h c.1 going (was_unanswered e (is_unanswered h) one))
uncut_or_told first (s ∷ h) c going one = uncut_on first s h tt going (λ u. u) (uncut_or_told first h c.1 going one)

-- at a reset a last line that is not answered comes behind the last cut
pub uncut_there : (first : Opening) (h : Journal) → IsEpoch first h → MayReset first h → is_unanswered h ≡ true → IsUncut h
uncut_there first h is may one = by_left (uncut_or_told first h is.conducted (going first h is may) one)
  where
    by_left : IsUncut h ⊎ (tells_alone (left_of first h) ≡ true) → IsUncut h
    by_left (inl uncut) = uncut
    by_left (inr told) = absurd (subst Ends (none_left (left_of first h) told may.told) (ends_there first h is.conducted (calm first h is may) one))
