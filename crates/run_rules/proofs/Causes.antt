-- What causes errors 8 and 9: the motion alone.
use Rattle.std.proofs.Common.{◌≡◌, ℕ, Bool, true, false, List, refl, sym, ap, ◌∙◌}
use Rattle.status_report.specs.declared.Reply.TheVariants as replies
use Rattle.run_rules.specs.Work.{Outcome}
use Rattle.run_rules.specs.Outcomes.{Before, Becomes}
use Rattle.run_rules.proofs.Codes.{is_for_motion}
use Rattle.run_rules.proofs.Each.{EightIsCaused, NineIsCaused, HoldsByCause, holds_by_cause}

-- a line that is refused by itself has another number
other_number : {A : Type 0} (m n : ℕ) → is_for_motion m ≡ false → is_for_motion n ≡ true → replies.Error m ≡ replies.Error n → A
other_number m n other motion e = absurd (let same : m ≡ n = cc in let f = sym other ∙ ap is_for_motion same ∙ motion in cc)

pub eight : (runs : Bool) (b : Before) (kept : List ℕ) (o : Outcome) → Becomes runs b kept o → o.answer ≡ replies.Error 8 → EightIsCaused b kept
eight runs b kept o is =
    let each : HoldsByCause runs b kept (λ (o : Outcome). o.answer ≡ replies.Error 8 → EightIsCaused b kept) = record {
      refuses = λ n other e. other_number n 8 other refl e;
      busy = λ cause e. cause;
      locked = λ cause e. absurd cc;
      tells = λ next body same kind e. absurd cc;
      executes = λ ws a found e. absurd cc;
      jogs = λ ws jog found e. absurd cc;
      limits = λ beyond e. absurd cc;
    } in
    holds_by_cause runs b kept (λ (o : Outcome). o.answer ≡ replies.Error 8 → EightIsCaused b kept) each o is

pub nine : (runs : Bool) (b : Before) (kept : List ℕ) (o : Outcome) → Becomes runs b kept o → o.answer ≡ replies.Error 9 → NineIsCaused b kept
nine runs b kept o is =
    let each : HoldsByCause runs b kept (λ (o : Outcome). o.answer ≡ replies.Error 9 → NineIsCaused b kept) = record {
      refuses = λ n other e. other_number n 9 other refl e;
      busy = λ cause e. absurd cc;
      locked = λ cause e. cause;
      tells = λ next body same kind e. absurd cc;
      executes = λ ws a found e. absurd cc;
      jogs = λ ws jog found e. absurd cc;
      limits = λ beyond e. absurd cc;
    } in
    holds_by_cause runs b kept (λ (o : Outcome). o.answer ≡ replies.Error 9 → NineIsCaused b kept) each o is
