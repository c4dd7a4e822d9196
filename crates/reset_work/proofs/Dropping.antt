-- Words of flags are dropped behind a wait.
use Rattle.std.proofs.Common.{◌≡◌, ◌≤◌, ◌<◌, ◌+◌, ◌^◌, inr, ℕ, Bool, true, false, cond, ◌∷◌, refl, sym, ap, subst, ◌∙◌, arith}
use Rattle.code_table.specs.declared.flags.Exec.{Exec}
use Rattle.code_table.specs.declared.flags.Ovr.{Ovr}
use Rattle.outside.specs.declared.Turn.TheVariants.{Did}
use Rattle.run_rules.specs.declared.State.{State}
use Rattle.step_line.specs.Logs.{NewestFirst}
use Rattle.board_journal.specs.Ports.{PortStep, BoardLog, HasFewReports, asks_report, reports_in}
use Rattle.board_journal.specs.Ports.PortStep.{took_exec, took_ovr}
use Rattle.board_journal.specs.Steps.{Journal}
use Rattle.board_epochs.specs.Epochs.{Closed, closed_log, last_line, log_behind, log_of, opening_behind}
use Rattle.board_epochs.specs.Epochs.Epochs.{resets}
use Rattle.board_epochs.specs.Work.{Work, MayWorkAt, stage_at}
use Rattle.board_epochs.specs.Work.Stage.{over}
use Rattle.reset_work.specs.declared.reset.ResetWork.{ResetWork}
use Rattle.reset_work.specs.declared.reset.Stage.{Stage}
use Rattle.reset_work.specs.declared.reset.Stage.TheVariants.{DropsChanges, AwaitsMark, Stops, AwaitsHalt, Drops, AwaitsDone, Over}
use Rattle.reset_work.specs.declared.reset.Words.{Words}
use Rattle.reset_work.specs.declared.reset.Words.TheVariants.{Both, Requests, None}
use Rattle.reset_work.specs.Working.{IsBetween, WorksOn, HasWaited, AreLeft, AreMade, AreDropped, mark_known, stage_in, words_left}
use Rattle.reset_work.proofs.Going.{one_out, stepped, turned_by}

-- the stage allows a step that changes nothing of it
pub record IsLike (number : ℕ) (l : BoardLog) (e : PortStep) (s : Stage) : Type 0 where
  pub going : stage_in s ≡ over → ⊥
  pub may : MayWorkAt number l e (stage_in s)
  pub stays : stage_at l e (stage_in s) ≡ stage_in s
  pub waited : (words : Words) → HasWaited s words
  pub mark : mark_known (e ∷ l) s ≡ mark_known l s
  pub left : AreLeft l s → AreLeft (e ∷ l) s
  pub made : (ticks : ℕ) → AreMade l s ticks → AreMade (e ∷ l) s ticks

changes : (number : ℕ) (l : BoardLog) (word : Ovr) (s : Stage) (words : Words) → HasWaited s words → (words ≡ None → ⊥) → IsLike number l (took_ovr word) s
changes number l word AwaitsMark words waited some = record { going = λ e. absurd cc; may = tt; stays = refl; waited = λ ws. tt; mark = refl; left = λ k. k; made = λ ticks m. m }
changes number l word (AwaitsHalt left) words waited some = record { going = λ e. absurd cc; may = tt; stays = refl; waited = λ ws. tt; mark = refl; left = λ k. k; made = λ ticks m. m }
changes number l word AwaitsDone words waited some = record { going = λ e. absurd cc; may = tt; stays = refl; waited = λ ws. tt; mark = refl; left = λ k. k; made = λ ticks m. m }
changes number l word DropsChanges words waited some = absurd (some waited)
changes number l word (Stops left) words waited some = absurd (some waited)
changes number l word (Drops left) words waited some = absurd (some waited)
changes number l word Over words waited some = absurd (some waited)

requests : (number : ℕ) (l : BoardLog) (word : Exec) (s : Stage) (words : Words) → HasWaited s words → (words ≡ None → ⊥) → (asks_report word ≡ true → HasFewReports l) → IsLike number l (took_exec word) s
requests number l word AwaitsMark words waited some few = record { going = λ e. absurd cc; may = few; stays = refl; waited = λ ws. tt; mark = refl; left = λ k. k; made = λ ticks m. m }
requests number l word (AwaitsHalt left) words waited some few = record { going = λ e. absurd cc; may = few; stays = refl; waited = λ ws. tt; mark = refl; left = λ k. k; made = λ ticks m. m }
requests number l word AwaitsDone words waited some few = record { going = λ e. absurd cc; may = few; stays = refl; waited = λ ws. tt; mark = refl; left = λ k. k; made = λ ticks m. m }
requests number l word DropsChanges words waited some few = absurd (some waited)
requests number l word (Stops left) words waited some few = absurd (some waited)
requests number l word (Drops left) words waited some few = absurd (some waited)
requests number l word Over words waited some few = absurd (some waited)

-- one more word is taken that may ask for a report
one_more : (asks : Bool) (n : ℕ) → n ≤ 2 ^ 31 → (asks ≡ true → n < 2 ^ 31) → cond asks (n + 1) n ≤ 2 ^ 31
one_more true n was few = let f = few refl in omega (arith, f)
one_more false n was few = was

pub drop_changes_again : (was is : BoardLog → Type 0) (it : ResetWork) (word : Ovr) (blocks : ℕ) (state : State) (es : NewestFirst Closed) (h : Journal) (w : Work) → it.words ≡ Both
    → IsBetween was it blocks state es h w → is (took_ovr word ∷ log_of (resets es h w)) → WorksOn is Did it (record it { words = Requests }) blocks state es h w
drop_changes_again was is it word blocks state es h w both b port =
    let l = log_of (resets es h w) in
    let e = took_ovr word in
    let number = last_line (opening_behind blocks state es) h in
    let before = log_behind (closed_log es) h in
    let i = b.working in
    let k = changes number l word it.stage it.words i.waited (λ none. absurd (let f = sym both ∙ none in cc)) in
    turned_by is Did it (record it { words = Requests }) blocks state es h w e port
    (stepped blocks state es h w e Did b.epochs (λ ends. k.going (sym i.stage_is ∙ ends)) (subst (MayWorkAt number l e) (sym i.stage_is) k.may) (one_out e w b.between) (record { bytes = b.epochs.2.bytes; reports = b.epochs.2.reports }))
    (record {
      stage_is = ap (stage_at l e) i.stage_is ∙ k.stays;
      words_are = refl;
      waited = k.waited Requests;
      number_is = i.number_is;
      mark_is = i.mark_is ∙ sym k.mark;
      left_are = k.left i.left_are;
      taken_is = i.taken_is;
      dropped_is = i.dropped_is;
      halted_is = i.halted_is;
      made_are = k.made it.ticks i.made_are;
    })
    (λ did. inr (let f = ap words_left both in omega (arith, f)))
    (λ ends. absurd (k.going (ap stage_in ends)))

pub drop_requests : (was is : BoardLog → Type 0) (it : ResetWork) (word : Exec) (blocks : ℕ) (state : State) (es : NewestFirst Closed) (h : Journal) (w : Work) → it.words ≡ Requests
    → IsBetween was it blocks state es h w → (asks_report word ≡ true → HasFewReports (log_of (resets es h w))) → is (took_exec word ∷ log_of (resets es h w)) → WorksOn is Did it (record it { words = None }) blocks state es h w
drop_requests was is it word blocks state es h w one b few port =
    let l = log_of (resets es h w) in
    let e = took_exec word in
    let number = last_line (opening_behind blocks state es) h in
    let before = log_behind (closed_log es) h in
    let i = b.working in
    let k = requests number l word it.stage it.words i.waited (λ none. absurd (let f = sym one ∙ none in cc)) few in
    turned_by is Did it (record it { words = None }) blocks state es h w e port
    (stepped blocks state es h w e Did b.epochs (λ ends. k.going (sym i.stage_is ∙ ends)) (subst (MayWorkAt number l e) (sym i.stage_is) k.may) (one_out e w b.between)
    (record { bytes = b.epochs.2.bytes; reports = one_more (asks_report word) (reports_in l) b.epochs.2.reports few }))
    (record {
      stage_is = ap (stage_at l e) i.stage_is ∙ k.stays;
      words_are = (subst (λ (ws : Words). AreDropped ws w) one i.words_are, refl);
      waited = k.waited None;
      number_is = i.number_is;
      mark_is = i.mark_is ∙ sym k.mark;
      left_are = k.left i.left_are;
      taken_is = i.taken_is;
      dropped_is = i.dropped_is;
      halted_is = i.halted_is;
      made_are = k.made it.ticks i.made_are;
    })
    (λ did. inr (let f = ap words_left one in omega (arith, f)))
    (λ ends. absurd (k.going (ap stage_in ends)))
