-- A pulse that halts has made all ticks that were known to be done.
use Rattle.std.proofs.Common.{◌≡◌, ℕ, ◌-◌, ◌≤◌, Bool, true, false, [], ◌∷◌, ◌++◌, nat_lt, length, refl, sym, ap, ◌∙◌, arith}
use Rattle.run_rules.specs.declared.State.{State}
use Rattle.motion_ring.specs.Sides as ring
use Rattle.motion_ring.specs.declared.lists.Sent.{Sent}
use Rattle.step_line.specs.Logs.{NewestFirst}
use Rattle.board_journal.specs.Ports.{PortStep, BoardLog, taken_in, known_in, sent_in, MayBeDone}
use Rattle.board_journal.specs.Ports.PortStep.{found_mark, took_ovr, loaded, stored_stop, found_halt}
use Rattle.board_journal.specs.Steps.{Journal, port_log, known_of}
use Rattle.board_journal.specs.Steps.Step.{at_port, turned}
use Rattle.board_rules.proofs.Unstopped.{done_within}
use Rattle.board_epochs.specs.Epochs.{Closed, AreClosed, IsResetting, closed_log, ticks_made, log_behind, opening_behind, last_line}
use Rattle.board_epochs.specs.Work.{Work, Stage, Works, MayWorkAt, stage_of, stage_at, worked_in, by_mark, halted_in}
use Rattle.board_epochs.specs.Work.Stage.{awaits_mark, drops_changes, stops, awaits_halt, drops, publishes, awaits_done, over}
use Rattle.board_epochs.proofs.Chaining.{done_there}
use Rattle.board_epochs.proofs.Working.{Holds, holds}
use Rattle.epoch_courses.specs.Course.{IsMadeAtHalt, is_marked, made_at_halt}

-- the pulse was not found halted
abbrev unhalted : Work → Bool
unhalted [] = true
unhalted (at_port (found_halt done) ∷ w) = false
unhalted (_ ∷ w) = unhalted w

abbrev before_halt : Stage → Bool
before_halt drops_changes = true
before_halt awaits_mark = true
before_halt (stops n) = true
before_halt (awaits_halt n) = true
before_halt _ = false

abbrev IsNoHalt : PortStep → Type 0
IsNoHalt (found_halt done) = ⊥
IsNoHalt e = Unit {0}

marked : (t : Bool) (n : ℕ) → before_halt (by_mark t n) ≡ true
marked true n = refl
marked false n = refl

stays_before : (l : BoardLog) (e : PortStep) (stage : Stage) → IsNoHalt e → before_halt stage ≡ true → before_halt (stage_at l e stage) ≡ true
stays_before l (took_ovr word) drops_changes none is = refl
stays_before l (found_mark number bytes) awaits_mark none is = marked (nat_lt (worked_in l) number) (bytes - length (taken_in l))
stays_before l stored_stop (stops n) none is = refl
stays_before l (found_halt done) (awaits_halt n) none is = absurd none
stays_before l e drops_changes none is = refl
stays_before l e awaits_mark none is = refl
stays_before l e (stops n) none is = refl
stays_before l e (awaits_halt n) none is = refl
stays_before l e (drops n) none is = absurd cc
stays_before l e publishes none is = absurd cc
stays_before l e awaits_done none is = absurd cc
stays_before l e over none is = absurd cc

before_end : (before : BoardLog) (w : Work) → unhalted w ≡ true → before_halt (stage_of before w) ≡ true
before_end before [] none = refl
before_end before (at_port (found_halt done) ∷ w) none = absurd cc
before_end before (at_port e ∷ w) none = stays_before (port_log w ++ before) e (stage_of before w) tt (before_end before w none)
before_end before (_ ∷ w) none = before_end before w none

-- what is found done never falls
may_halt : (number : ℕ) (l : BoardLog) (done : ℕ) (stage : Stage) → MayWorkAt number l (found_halt done) stage → known_in l ≤ done
may_halt number l done (awaits_halt n) may = may.later
may_halt number l done over may = absurd may
may_halt number l done _ may = absurd may

may_load : (number : ℕ) (l : BoardLog) (done : ℕ) (stage : Stage) → MayWorkAt number l (loaded done) stage → known_in l ≤ done
may_load number l done awaits_done may = may.later
may_load number l done over may = absurd may
may_load number l done _ may = absurd may

known_later : (number : ℕ) (before : BoardLog) (w : Work) → Works number before w → known_in before ≤ known_in (port_log w ++ before)
known_later number before [] c = omega arith
known_later number before (at_port (found_halt done) ∷ w) c =
    let was = known_later number before w c.2 in let more = may_halt number (port_log w ++ before) done (stage_of before w) c.0 in omega (arith, was, more)
known_later number before (at_port (loaded done) ∷ w) c =
    let was = known_later number before w c.2 in let more = may_load number (port_log w ++ before) done (stage_of before w) c.0 in omega (arith, was, more)
known_later number before (at_port e ∷ w) c = known_later number before w c.2
known_later number before (turned t ∷ w) c = known_later number before w c.2
known_later number before (_ ∷ w) c = absurd c.0

-- a halt is looked for behind all that was published before, which may be done
halt_before : (number : ℕ) (before l : BoardLog) (halted done : ℕ) (stage : Stage) → MayWorkAt number l (found_halt done) stage → Holds number before l halted stage → known_in before ≤ known_in l → MayBeDone done before
halt_before number before l halted done (awaits_halt n) may holds low = record {
  later = (let more = may.later in omega (arith, low, more));
  below = (let same : ring.ticks_published (sent_in l) ≡ ring.ticks_published (sent_in before) = ap ring.ticks_published holds in let below = may.below in omega (arith, same, below));
  few = (let same : ring.unfinished_in (sent_in l) done ≡ ring.unfinished_in (sent_in before) done = ap (λ (s : Sent). ring.unfinished_in s done) holds in let few = may.few in omega (arith, same, few));
}
halt_before number before l halted done over may holds low = absurd may
halt_before number before l halted done _ may holds low = absurd may

halt_done : (number : ℕ) (before : BoardLog) (w : Work) → Works number before w → unhalted w ≡ false → MayBeDone (halted_in w) before
halt_done number before [] c was = absurd cc
halt_done number before (at_port (found_halt done) ∷ w) c was = halt_before number before (port_log w ++ before) (halted_in w) done (stage_of before w) c.0 (holds number before w c.2) (known_later number before w c.2)
halt_done number before (at_port e ∷ w) c was = halt_done number before w c.2 was
halt_done number before (turned t ∷ w) c was = halt_done number before w c.2 was
halt_done number before (_ ∷ w) c was = absurd c.0

was_halted : (before : BoardLog) (w : Work) → before_halt (stage_of before w) ≡ false → unhalted w ≡ false
was_halted before w is = by_one (unhalted w) refl
  where
    by_one : (t : Bool) → unhalted w ≡ t → unhalted w ≡ false
    by_one false e = e
    by_one true e = absurd (let f = sym (before_end before w e) ∙ is in cc)

behind_halt : (stage : Stage) → is_marked stage ≡ true → before_halt stage ≡ false
behind_halt awaits_done is = refl
behind_halt over is = refl
behind_halt stage is = absurd cc

-- so of an epoch at least those were made that its journal knows, and no more than were published; and those made before it are
-- made at its halt
pub record HaltedThere (h : Journal) (base : ℕ) (w : Work) : Type 0 where
  pub made : IsMadeAtHalt h (made_at_halt base w)
  pub base_is : base ≤ halted_in w

pub marked_there : (blocks : ℕ) (state : State) (es : NewestFirst Closed) (h : Journal) (w : Work) → AreClosed blocks state es → IsResetting (opening_behind blocks state es) (closed_log es) h w → is_marked (stage_of (log_behind (closed_log es) h) w) ≡ true
    → HaltedThere h (ticks_made es) w
marked_there blocks state es h w c is marked =
    let first = opening_behind blocks state es in
    let before = log_behind (closed_log es) h in
    let may = halt_done (last_line first h) before w is.works (was_halted before w (behind_halt (stage_of before w) marked)) in
    let there = done_there blocks state es h (halted_in w) c is.epoch may in
    let later = there.2.later in
    let below = done_within first h there.0 is.epoch.conducted there.2 in
    let n = there.1 in
    record { made = record { known = omega (arith, later, n); published = omega (arith, below, n) }; base_is = omega (arith, n) }

closed_there : (blocks : ℕ) (state : State) (e : Closed) (es : NewestFirst Closed) → AreClosed blocks state (e ∷ es) → HaltedThere e.journal (ticks_made es) e.work
closed_there blocks state e es c = marked_there blocks state es e.journal e.work c.1 c.0.resetting (ap is_marked c.0.worked.done)

pub made_there : (blocks : ℕ) (state : State) (e : Closed) (es : NewestFirst Closed) → AreClosed blocks state (e ∷ es) → IsMadeAtHalt e.journal (made_at_halt (ticks_made es) e.work)
made_there blocks state e es c = (closed_there blocks state e es c).made

pub known_made : (blocks : ℕ) (state : State) (e : Closed) (es : NewestFirst Closed) → AreClosed blocks state (e ∷ es) → known_of e.journal ≤ made_at_halt (ticks_made es) e.work
known_made blocks state e es c = (made_there blocks state e es c).known

pub halted_behind : (blocks : ℕ) (state : State) (e : Closed) (es : NewestFirst Closed) → AreClosed blocks state (e ∷ es) → ticks_made es ≤ halted_in e.work
halted_behind blocks state e es c = (closed_there blocks state e es c).base_is
