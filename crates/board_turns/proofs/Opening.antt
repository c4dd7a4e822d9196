-- How a board opens an epoch, in which it has done nothing.
use Rattle.std.proofs.Common.{◌≡◌, ◌↔◌, ℕ, ◌+◌, ◌-◌, ◌^◌, ◌≤◌, Bool, true, false, not, ◌&&◌, ◌||◌, cond, [], refl, sym, ap, ◌∙◌, subst, arith}
use Rattle.board_rules.proofs.Ahead.{three_most}
use Rattle.feed_hold.specs.Motions.{is_moving, behind_reset}
use Rattle.feed_hold.specs.declared.Motion.{Motion as AnyMotion}
use Rattle.feed_hold.specs.declared.Motion.TheVariants as motions
use Rattle.flight.specs.Flights.{Flying, Flies}
use Rattle.flight.specs.Places.{machine_from}
use Rattle.line_interpreter.specs.Interpreting.{Interpreting}
use Rattle.line_interpreter.specs.Lefts.{greeting}
use Rattle.run_rules.specs.Resets.{reset_state}
use Rattle.std.specs.Int.{from_bool}
use Rattle.planner_runs.specs.Runs.{fresh_plan}
use Rattle.run_rules.specs.declared.State.{State}
use Rattle.run_rules.specs.Work.{telling}
use Rattle.status_report.specs.Answering.{lfs_in}
use Rattle.units.specs.declared.Steps3.{Steps3}
use Rattle.board_machine.specs.Machines.{Runs}
use Rattle.board_machine.specs.declared.machine.Machine.{Machine}
use Rattle.board_rules.specs.Conduct.{MayOpen}
use Rattle.board_journal.specs.Openings.{Opening, IsPlaced, before_first}
use Rattle.board_journal.specs.Ports.{taken_in}
use Rattle.board_journal.specs.Steps.{Journal, port_log, published_of, motion_of, whole_of}
use Rattle.board_rules.specs.Turns.{is_alarm, is_limited}
use Rattle.board_rules.proofs.Facts.{number_is}
use Rattle.board_epochs.specs.Epochs.{next_opening, reset_of, answered_state}
use Rattle.board_epochs.specs.Resets.{MayReset}
use Rattle.board_epochs.specs.Work.{Work, halted_in}
use Rattle.board_epochs.proofs.Opening.{opens_next, locks}
use Rattle.board_epochs.proofs.Prompting.{unstopping}
use Rattle.board_turns.specs.declared.board.Board.{Board}
use Rattle.board_turns.specs.declared.board.Flags.TheVariants as words
use Rattle.board_lines.specs.declared.input.Input.{Input}
use Rattle.board_lines.specs.Inputs.{Reads}
use Rattle.board_turns.specs.Boards.{EpochFits, KeepsBetween, Works}
use Rattle.board_rules.proofs.Opening.{opened}

-- ---- any epoch

-- a board of these that has taken nothing, and owes nothing
abbrev pub anew : {N : ℕ} → Machine N → Flying → Interpreting → Input → State → Board N
anew m f l i s = record {
  machine = m;
  flight = f;
  lines = l;
  input = i;
  flags = words.None;
  owes = false;
  resetting = false;
  taken = 0;
  answered = s;
  greeted = false;
  published = false;
  closing = false;
  jogged = false;
  alarmed = false;
  cut = false;
}

none_unlocked : (m : AnyMotion) → (is_alarm m && (not (is_limited m && true) && true)) ≡ false
none_unlocked motions.Alarm = refl
none_unlocked _ = refl

pub opens_epoch : {N : ℕ} (first : Opening) (m : Machine N) (f : Flying) (l : Interpreting) (i : Input) (s : State) → IsPlaced first → first.blocks ≡ N - 1 → MayOpen first → first.lines ≤ 2 ^ 31
    → Runs m fresh_plan first.motion [] [] → Works l (telling first.tells) (before_first first) → Reads i [] false → Flies first.place f [] 0 → s ≡ first.state
    → EpochFits first (anew m f l i s) []
opens_epoch first m f l i s placed sized opens few runs works reads flies answered = record {
  keeps = record {
    placed = placed;
    sized = sized;
    short = omega (arith, few);
    conducted = opens;
    machine = runs;
    lines = works;
    input = reads;
    flight = record { known = 0; found = omega arith; flies = flies };
    owes_is = refl;
    resetting_is = refl;
    taken_is = refl;
    answered_is = answered;
    greeted_is = refl;
    prompt = tt;
    jogged_is = refl;
    cut_is = refl;
    going = λ e. refl;
    closed = λ e. absurd cc;
    limited = refl;
    alarmed_is = refl;
    unlocked = none_unlocked first.motion;
    tries = λ e. absurd cc;
  };
  rounds = record {
    waits = λ e. refl;
    tried = λ e. refl;
    sent = λ e. refl;
    none_waits = λ w. absurd (let e = w.blocks in cc);
    tries = (let few = three_most (telling first.tells) false in omega (arith, few));
    few = λ none. (let few = three_most (telling first.tells) false in omega (arith, few));
    owed = λ e. absurd cc;
  };
  flags = record { flags = refl; obeyed = refl; unowed = refl };
  still = λ e. absurd cc;
}

-- ---- the one behind a reset

-- the machine is in alarm exactly where the reset leaves it locked
locked_is : (m : AnyMotion) (b : Bool) → (m ≡ motions.Stopping → ⊥) → (b ≡ true) ↔ (behind_reset m ≡ motions.Alarm) → b ≡ (is_moving m || is_alarm m)
locked_is motions.Stopping b other is = absurd (other refl)
locked_is motions.Idle true other is = absurd (let e = is.0 refl in cc)
locked_is motions.Held true other is = absurd (let e = is.0 refl in cc)
locked_is motions.Idle false other is = refl
locked_is motions.Held false other is = refl
locked_is motions.Run false other is = is.1 refl
locked_is motions.Holding false other is = is.1 refl
locked_is motions.Jog false other is = is.1 refl
locked_is motions.Cancelling false other is = is.1 refl
locked_is motions.Alarm false other is = is.1 refl
locked_is motions.Run true other is = refl
locked_is motions.Holding true other is = refl
locked_is motions.Jog true other is = refl
locked_is motions.Cancelling true other is = refl
locked_is motions.Alarm true other is = refl

-- the place where the pulse has halted
halted_at : (base : ℕ) (first : Opening) (h : Journal) (w : Work) (halted : ℕ) → halted_in w ≡ base + halted → machine_from first.place (published_of h) halted ≡ (reset_of base first h w).at
halted_at base first h w halted is = let e : halted ≡ halted_in w - base = omega (arith, is) in ap (machine_from first.place (published_of h)) e

-- the machine that was halted, as the reset leaves it
runs_next : {N : ℕ} (base : ℕ) (first : Opening) (h : Journal) (w : Work) (m : Machine N) → (motion_of first h ≡ motions.Stopping → ⊥) → Runs m fresh_plan (behind_reset (motion_of first h)) [] []
    → Runs m fresh_plan (next_opening base first h w).motion [] []
runs_next base first h w m other runs = record {
  plan_is = runs.plan_is;
  same = runs.same;
  motion_is = runs.motion_is ∙ sym (locks (motion_of first h) other);
  hand_is = runs.hand_is;
  given_is = runs.given_is;
}

counted : (b whole : Bool) → b ≡ whole → from_bool b ≡ cond whole 1 0
counted true true is = refl
counted false false is = refl
counted true false is = absurd cc
counted false true is = absurd cc

-- the number of its first line
number_next : {N : ℕ} (base : ℕ) (first : Opening) (h : Journal) (w : Work) (b : Board N) (dropped : ℕ) → KeepsBetween first b h → dropped ≡ lfs_in (taken_in (port_log w))
    → b.lines.number + (dropped + from_bool b.input.whole) ≡ (next_opening base first h w).lines + 1
number_next base first h w b dropped k drops =
    let was = k.lines.number_is in
    let last = number_is first h k.conducted in
    let whole = counted b.input.whole (whole_of h) k.input.whole_is in omega (arith, was, last, whole, drops)

-- it can be counted
pub few_lines : {N : ℕ} (base : ℕ) (first : Opening) (h : Journal) (w : Work) (b : Board N) (dropped : ℕ) → KeepsBetween first b h → dropped ≡ lfs_in (taken_in (port_log w)) → (next_opening base first h w).lines ≤ 2 ^ 31
    → b.lines.number + (dropped + from_bool b.input.whole) ≤ 2 ^ 31 + 1
few_lines base first h w b dropped k drops few = let n = number_next base first h w b dropped k drops in omega (arith, n, few)

-- lines that are judged from what a reset at this place leaves of a state, and greet
abbrev pub lines_behind : Steps3 → State → (number : ℕ) → (moving locked : Bool) → Interpreting
lines_behind at s number moving locked = record { state = reset_state at s; number = number; left = telling (greeting moving locked) }

-- its lines: what greets, the state that the answered ones leave, and the number of the next
works_next : {N : ℕ} (base : ℕ) (first : Opening) (h : Journal) (w : Work) (b : Board N) (dropped : ℕ) (at : Steps3) (moving locked : Bool) (l : Interpreting) → KeepsBetween first b h
    → dropped ≡ lfs_in (taken_in (port_log w)) → at ≡ (next_opening base first h w).place → moving ≡ is_moving (motion_of first h) → locked ≡ (is_moving (motion_of first h) || is_alarm (motion_of first h))
    → l ≡ lines_behind at b.answered (b.lines.number + (dropped + from_bool b.input.whole)) moving locked
    → Works l (telling (next_opening base first h w).tells) (before_first (next_opening base first h w))
works_next base first h w b dropped at moving locked l k drops place moves locks is =
    record {
      left_is = ap (λ (j : Interpreting). j.left) is ∙ (λ x. telling (greeting (moves x) (locks x)));
      state_is = ap (λ (j : Interpreting). j.state) is ∙ (λ x. reset_state (place x) (k.answered_is x));
      number_is = ap (λ (j : Interpreting). j.number) is ∙ number_next base first h w b dropped k drops;
    }

pub opens_behind_reset : {N : ℕ} (base : ℕ) (first : Opening) (h : Journal) (w : Work) (b : Board N) (halted dropped : ℕ) (at : Steps3) (m : Machine N) (moving locked : Bool) (l : Interpreting) (i : Input) (f : Flying) (s : State)
    → EpochFits first b h → MayReset first h → halted_in w ≡ base + halted → dropped ≡ lfs_in (taken_in (port_log w)) → (next_opening base first h w).lines ≤ 2 ^ 31
    → at ≡ machine_from first.place (published_of h) halted → moving ≡ is_moving b.machine.hold.motion → Runs m fresh_plan (behind_reset b.machine.hold.motion) [] []
    → (locked ≡ true) ↔ (m.hold.motion ≡ motions.Alarm)
    → l ≡ lines_behind at b.answered (b.lines.number + (dropped + from_bool b.input.whole)) moving locked
    → Reads i [] false → Flies at f [] 0 → s ≡ l.state → EpochFits (next_opening base first h w) (anew m f l i s) []
opens_behind_reset base first h w b halted dropped at m moving locked l i f s fits may halts drops few at_is moves runs locks is reads flies answered =
    let k = fits.keeps in
    let motion = k.machine.motion_is in
    let other = unstopping first h (record { conducted = k.conducted; prompt = k.prompt }) may in
    let place = at_is ∙ halted_at base first h w halted halts in
    let now = subst (λ (n : AnyMotion). Runs m fresh_plan (behind_reset n) [] []) motion runs in
    let locked_now = locked_is (motion_of first h) locked other (λ e. sym now.motion_is ∙ locks.0 e, λ e. locks.1 (now.motion_is ∙ e)) in
    let works = works_next base first h w b dropped at moving locked l k drops place (moves ∙ ap is_moving motion) locked_now is in
    opens_epoch (next_opening base first h w) m f l i s refl k.sized (opens_next first.blocks (reset_of base first h w) (answered_state first h) (opened first h k.conducted).sized) few (runs_next base first h w m other now) works reads
    (subst (λ (p : Steps3). Flies p f [] 0) place flies) (answered ∙ works.state_is)
