-- The machine is held for a pause where it has stopped.
use Rattle.std.proofs.Common.{ℕ, false, ◌≡◌, inr, ◌<◌, List, [], ◌∷◌, ◌++◌, length, nat_eq, refl, sym, ap, ◌∙◌, subst, arith, append_assoc}
use Rattle.outside.specs.declared.Turn.TheVariants.{Did}
use Rattle.run_rules.specs.Work as work
use Rattle.run_rules.specs.Work.Task.{pause}
use Rattle.status_report.specs.declared.Reply.{Reply}
use Rattle.board_journal.specs.Openings.{Opening}
use Rattle.board_journal.specs.Steps.{Journal, left_of, whole_of}
use Rattle.board_journal.specs.Steps.Step.{paused}
use Rattle.board_rules.specs.Turns.{this_turn, awaits_motion, is_reply_back}
use Rattle.board_rules.specs.Conduct.{IsNextTask}
use Rattle.units.specs.Truths.{one_if}
use Rattle.board_turns.specs.declared.board.Board.{Board}
use Rattle.board_turns.specs.declared.board.Flags.TheVariants as flags
use Rattle.board_turns.specs.Boards.{Keeps, Rounds, number_of}
use Rattle.board_turns.specs.Turning.{IsReady, PassesNothing, HasFilled, BoardWorked}
use Rattle.board_rules.proofs.Facts.{none_awaited, uncounted}
use Rattle.board_turns.proofs.Steps.{halts_by}
use Rattle.board_rules.proofs.Ahead.{ahead_behind}
use Rattle.board_rules.proofs.Tries.{none_ends, publishes_none, worked_behind}
use Rattle.board_turns.proofs.Ends.{none_called, rounds_still, free_of, free_passed, takes_none, no_word_left}

-- a pause less is left
falls : (first : Opening) (h next : Journal) → IsNextTask first pause h → PassesNothing first (paused ∷ h) next → number_of first flags.None next < number_of first flags.None h
falls first h next task passes =
    let fewer = passes.pauses in
    let slower = passes.changes in
    let one = ap work.pauses task in
    let same = ap (λ (rs : List Reply). one_if (nat_eq (length rs) 0)) passes.closed in
    omega (arith, fewer, slower, one, same)

-- it is held, and what comes next is added
pub paused_filled : {N : ℕ} (first : Opening) (board was : Board N) (h next : Journal) → Keeps first was h → IsReady first h → IsNextTask first pause h → HasFilled first (paused ∷ h) next → Keeps first board next → board.published ≡ false → board.flags ≡ flags.None
    → BoardWorked first Did flags.None board h next
paused_filled first board was h next k ready task filled keeps unpublished no_word =
    let a = filled.alone.passes in
    let few = ready.few (uncounted first h (none_awaited (left_of first h) (ap awaits_motion task))) in
    let behind = ahead_behind (left_of first h) (whole_of h) (is_reply_back h) in
    let free = free_of h ready.quiet in
    let t = a.tries in
    let w = a.ahead in
    let worked = a.worked (worked_behind paused h (paused ∷ h) refl (record { no_changes = refl; none_planned = refl }) refl refl ready.quiet.worked) in
    record {
      keeps = keeps;
      rounds = subst (λ b. (Rounds first) b next) (sym unpublished) (rounds_still first next filled.none_waits (omega (arith, few, t, w, behind)));
      flags = takes_none board next no_word (free_passed first (paused ∷ h) next a (record { flags = free.flags; obeyed = free.obeyed; unowed = free.unowed }));
      unpublished = λ o e. unpublished;
      still = λ e. no_word_left board.flags no_word;
      steps = a.steps ++ paused ∷ [];
      are = a.are ∙ sym (append_assoc a.steps (paused ∷ []) h);
      inner = none_ends a.steps (paused ∷ []) a.inner refl;
      may = record {
        once = (let q = a.quiet in let p = publishes_none paused (this_turn h) refl in let r = ready.quiet.quiet in omega (arith, q, p, r));
        adds = filled.adds;
        starts = none_called first next (a.polled ∙ ready.unpolled) filled.none_waits;
        tries = omega (arith, few, t, w, behind);
        obeyed = worked.obeyed;
        changed = worked.changed;
        halts = halts_by first board next keeps;
      };
      moves = λ e. inr (subst (λ f. (number_of first) f next < number_of first flags.None h) (sym no_word) (falls first h next task a));
    }
