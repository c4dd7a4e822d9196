-- What is counted of closed epochs is what a reset's work begins with, and ends with.
use Rattle.std.proofs.Common.{◌≡◌, ◌≤◌, ◌<◌, ◌+◌, ◌-◌, ◌^◌, ℕ, [], length, sym, subst, ◌∙◌, arith}
use Rattle.run_rules.specs.declared.State.{State}
use Rattle.step_line.specs.Logs.{NewestFirst}
use Rattle.board_journal.specs.Ports.{MayBeDone, taken_in}
use Rattle.board_journal.specs.Steps.{Journal, port_log, taken_of}
use Rattle.board_epochs.specs.Epochs.{Closed, AreEpochs, closed_log, last_line, log_behind, opening_behind, ticks_made}
use Rattle.board_epochs.specs.Epochs.Epochs.{goes, resets}
use Rattle.board_epochs.specs.Resets.{MayReset}
use Rattle.board_epochs.specs.Work.{Work, IsWorked, halted_in, worked_in}
use Rattle.board_epochs.proofs.Bounding.{taken_behind}
use Rattle.reset_work.specs.declared.counts.Counts.{Counts}
use Rattle.reset_work.specs.declared.reset.ResetWork.{ResetWork}
use Rattle.reset_work.specs.Counting.{IsCounted}
use Rattle.reset_work.specs.Working.{IsWorking}
use Rattle.reset_work.proofs.Parting.{resets_begin, worked_known, halted_there}

pub taken_fits : (it : Counts) (taken : ℕ) (blocks : ℕ) (state : State) (es : NewestFirst Closed) (h : Journal) → AreEpochs blocks state (goes es h) → IsCounted it es → taken ≡ length (taken_of h) → it.bytes + taken < 2 ^ 32
taken_fits it taken blocks state es h c counted is =
    let all = taken_behind (closed_log es) h in let bytes = c.2.bytes in let was = counted.bytes_are in omega (arith, all, bytes, was, is)

pub begins : (it : Counts) (work : ResetWork) (line taken : ℕ) (blocks : ℕ) (state : State) (es : NewestFirst Closed) (h : Journal) → AreEpochs blocks state (goes es h) → MayReset (opening_behind blocks state es) h → IsCounted it es
    → line ≡ last_line (opening_behind blocks state es) h → taken ≡ length (taken_of h)
    → (it.mark ≡ worked_in (log_behind (closed_log es) h) → it.bytes + taken ≡ length (taken_in (log_behind (closed_log es) h)) → IsWorking work line (log_behind (closed_log es) h) [])
    → AreEpochs blocks state (resets es h []) × IsWorking work (last_line (opening_behind blocks state es) h) (log_behind (closed_log es) h) []
begins it work line taken blocks state es h c may counted number is working =
    let all = taken_behind (closed_log es) h in let was = counted.bytes_are in (
      (resets_begin blocks state es h c may).0,
      subst (λ (n : ℕ). IsWorking work n (log_behind (closed_log es) h) []) number (working (counted.mark_is ∙ sym (worked_known blocks state es h c may)) (omega (arith, all, was, is))),
    )

pub halted_behind : (it : Counts) (halted : ℕ) (blocks : ℕ) (state : State) (es : NewestFirst Closed) (h : Journal) (w : Work) → AreEpochs blocks state (resets es h w) → IsWorked (log_behind (closed_log es) h) w → IsCounted it es → halted ≡ halted_in w → it.ticks ≤ halted
halted_behind it halted blocks state es h w c worked counted is =
    let x = halted_there blocks state es h w c worked in let at = x.1 in let was = counted.ticks_are in omega (arith, at, was, is)

pub halted_within : (it : Counts) (halted : ℕ) (blocks : ℕ) (state : State) (es : NewestFirst Closed) (h : Journal) (w : Work) → AreEpochs blocks state (resets es h w) → IsWorked (log_behind (closed_log es) h) w → IsCounted it es → halted ≡ halted_in w
    → (halted_in w ≡ ticks_made es + (halted - it.ticks)) × MayBeDone (halted - it.ticks) (port_log h)
halted_within it halted blocks state es h w c worked counted is =
    let x = halted_there blocks state es h w c worked in let at = x.1 in let was = counted.ticks_are in
    let same : x.0 ≡ halted - it.ticks = omega (arith, at, was, is) in
    (omega (arith, at, same), subst (λ (n : ℕ). MayBeDone n (port_log h)) same x.2)
