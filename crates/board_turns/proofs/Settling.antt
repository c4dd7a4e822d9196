-- What comes of a machine that slowed down, once it has stopped; the words of flags are taken.
use Rattle.std.proofs.Common.{◌≡◌, ℕ, ◌⊎◌, inl, inr, Bool, true, false, ◌&&◌, ◌||◌, List, [], ◌∷◌, ◌++◌, drop, max, min, Some, None, sym, refl, ap, ◌∙◌, subst, arith}
use Rattle.std.specs.declared.option.Option.{Option}
use Rattle.std.specs.List.{list_any}
use Rattle.std.specs.Option.{option_to_list}
use Rattle.code_table.specs.declared.flags.Ovr.{Ovr}
use Rattle.feed_hold.specs.declared.Motion.TheVariants as motions
use Rattle.feed_hold.specs.Motions.{is_stopping}
use Rattle.feed_hold.specs.Motions.Call.{on_stopped}
use Rattle.flight.specs.Flights.{Flying, Flies}
use Rattle.overrides.specs.Percents.{taken}
use Rattle.line_geom.specs.declared.Block.{Block}
use Rattle.plan_rules.specs.Plans.{Planned}
use Rattle.planner_runs.specs.declared.Action.TheVariants.{Override}
use Rattle.board_journal.specs.Openings.{Opening}
use Rattle.run_rules.specs.Work.{Task, has_moves}
use Rattle.run_rules.specs.Work.Task.{ask}
use Rattle.step_line.specs.Asking.Asked.{a_move}
use Rattle.step_line.specs.Finishing.{ticks_together}
use Rattle.step_line.specs.declared.Mark.TheVariants as marks
use Rattle.step_line.specs.declared.Piece.{Piece}
use Rattle.step_line.specs.declared.Piece.TheVariants as pieces
use Rattle.board_journal.specs.Ports.{MayBeDone, has_changes}
use Rattle.board_journal.specs.Ports.PortStep.{took_ovr, loaded}
use Rattle.board_journal.specs.Steps.{Journal, port_log, published_of, known_of, left_of, without_asks, hand_of, plan_of, motion_of}
use Rattle.board_journal.specs.Steps.Step.{at_port, did, became, cut}
use Rattle.board_rules.specs.Cuts.{has_cut}
use Rattle.board_rules.specs.Turns.{this_turn, loads, has_blocks, has_jogged, waits_to_jog, is_full, is_going, is_halting, is_slowing, is_due, awaits_motion}
use Rattle.board_rules.specs.Conduct.{Conducted, HasSlowedDown, AreWaiting}
use Rattle.board_rules.proofs.Dropping.{asks_dropped, none_moves}
use Rattle.board_turns.specs.declared.board.Board.{Board}
use Rattle.board_machine.specs.declared.machine.Machine.{Machine}
use Rattle.board_turns.specs.Boards.{Keeps, NoneWaits, changes_left}
use Rattle.board_turns.specs.Turning.{NoneFits, StaysSo, IsCutNow, IsUncut, IsFoundStopped, ComesOf, HasSettled, replanned}
use Rattle.board_turns.specs.Turning.ComesOf.{is_held, is_cut, is_locked, is_idle}
use Rattle.board_rules.proofs.Uncut.{none_asked, cut_off}
use Rattle.board_turns.proofs.Steps.{hand_empty, other_flight}
use Rattle.board_turns.proofs.PortSteps.{looked}
use Rattle.board_turns.proofs.Flying.{learned, learned_all}
use Rattle.board_rules.proofs.Tries.{passes_none, passes_load, passes_motion, passes_cut, passes_on}
use Rattle.board_turns.proofs.Ends.{same_calls}

-- ---- a machine that slowed down

none_in : (o : Option Piece) → option_to_list o ≡ [] → o ≡ None
none_in None is = refl
none_in (Some p) is = absurd cc

-- what the fields of a machine say of it
abbrev pub SlowedDown : {N : ℕ} → Machine N → Type 0
SlowedDown m = (is_stopping m.hold.motion ≡ true) × (m.plan.speed ≡ 0) × (m.hand ≡ None)

pub slowed_now : {N : ℕ} (first : Opening) (b : Board N) (h : Journal) → Keeps first b h → HasSlowedDown first h → SlowedDown b.machine
slowed_now first b h k s = (
  ap is_stopping k.machine.motion_is ∙ s.slows,
  ap (λ (p : Planned). p.speed) k.machine.plan_is ∙ s.speed,
  none_in b.machine.hand (k.machine.hand_is ∙ s.empty),
)

pub slowed_is : {N : ℕ} (first : Opening) (b : Board N) (h : Journal) → Keeps first b h → SlowedDown b.machine → HasSlowedDown first h
slowed_is first b h k s = record {
  slows = sym (ap is_stopping k.machine.motion_is) ∙ s.0;
  speed = sym (ap (λ (p : Planned). p.speed) k.machine.plan_is) ∙ s.1;
  empty = hand_empty first b h k s.2;
}

-- a load finds it as it is
slowed_looked : (first : Opening) (done : ℕ) (h : Journal) → HasSlowedDown first h → HasSlowedDown first (at_port (loaded done) ∷ h)
slowed_looked first done h s = record { slows = s.slows; speed = s.speed; empty = s.empty }

-- each tick is found done
pub found_stopped : {N : ℕ} (first : Opening) (b : Board N) (f : Flying) (done : ℕ) (h : Journal) → Keeps first b h → HasSlowedDown first h → MayBeDone done (port_log h) → done ≡ b.machine.given
    → ((published : List Piece) (known : ℕ) → Flies first.place b.flight published known → Flies first.place f published (max known (min done (ticks_together published)))) → IsFoundStopped first f (at_port (loaded done) ∷ h)
found_stopped first b f done h k slowed may all learns = record {
  stopped = record { slowed = slowed_looked first done h slowed; done = all ∙ k.machine.given_is };
  load = refl;
  flies = learned_all first b.flight f done h k.conducted k.flight may learns;
}

-- a board whose flight has learned that
pub looked_learned : {N : ℕ} (first : Opening) (b : Board N) (f : Flying) (done : ℕ) (h : Journal) → Keeps first b h → MayBeDone done (port_log h)
    → ((published : List Piece) (known : ℕ) → Flies first.place b.flight published known → Flies first.place f published (max known (min done (ticks_together published)))) → Keeps first (record b { flight = f }) (at_port (loaded done) ∷ h)
looked_learned first b f done h k may learns = other_flight first b f (at_port (loaded done) ∷ h) (looked first b done h k may) (learned first b f h done k may learns)

-- ---- what is as it was

-- no move that is next has room, where that was so
pub none_fits_so : (first : Opening) (h next : Journal) → StaysSo first h next ⊎ IsCutNow first h next → NoneFits first h → NoneFits first next
none_fits_so first h next (inl stays) fits m is = ap (is_full first.blocks) stays.plan ∙ fits m (subst (λ (ts : List Task). ts ≡ ask (a_move m) ∷ drop 1 ts) stays.left is)
none_fits_so first h next (inr cuts) fits m is = absurd (none_asked (left_of first next) (a_move m) cuts.none is)

-- nor does a queued block wait for a start
pub none_waits_so : (first : Opening) (h next : Journal) → has_jogged next ≡ has_jogged h → StaysSo first h next ⊎ IsCutNow first h next → NoneWaits first h → AreWaiting first h → AreWaiting first next
    → (is_full first.blocks (plan_of next) || (awaits_motion (left_of first next) || has_jogged next)) ≡ false
none_waits_so first h next jogged (inl stays) none before waiting =
    same_calls (is_full first.blocks (plan_of next)) (is_full first.blocks (plan_of h)) (left_of first next) (left_of first h) (has_jogged next) (has_jogged h) (ap (is_full first.blocks) stays.plan) stays.left jogged ∙ none before
none_waits_so first h next jogged (inr cuts) none before waiting = absurd (let e = sym waiting.stands ∙ cuts.cancelled in cc)

-- ---- it was settled

-- it did not slow down
pub settled_none : (first : Opening) (h : Journal) → (HasSlowedDown first h → ⊥) → HasSettled first h h
settled_none first h moves = record {
  passes = passes_none first h;
  stays = inl (record { left = refl; hand = refl; plan = refl });
  changes = refl;
  looked = λ s. absurd (moves s);
  stopped = λ s. moves s.slowed;
  waiting = λ w. w;
  jogs = λ e. e;
  held = λ e. e;
  falls = λ halts s other. absurd (moves s);
}

-- ticks are found not to be done
pub settled_later : {N : ℕ} (first : Opening) (b : Board N) (h : Journal) (done : ℕ) → Keeps first b h → (done ≡ b.machine.given → ⊥) → HasSettled first h (at_port (loaded done) ∷ h)
settled_later first b h done k fewer = record {
  passes = passes_load first done h;
  stays = inl (record { left = refl; hand = refl; plan = refl });
  changes = refl;
  looked = λ s. refl;
  stopped = λ s. fewer (s.done ∙ sym k.machine.given_is);
  waiting = λ w. record { stands = w.stands; blocks = w.blocks };
  jogs = λ e. e;
  held = λ e. e;
  falls = λ halts s other. absurd (other (slowed_looked first done h s));
}

-- what came of it in a turn that looked, and is to be known for a report too
pub record CameOf (first : Opening) (h next : Journal) : Type 0 where
  pub settled : HasSettled first h next
  pub load : list_any loads (this_turn next) ≡ true
  pub idle : is_going (motion_of first next) ≡ false
  pub undue : is_due first next ≡ false

and_false : (a : Bool) → (a && false) ≡ false
and_false true = refl
and_false false = refl

-- it is held
came_held : (first : Opening) (h : Journal) (done : ℕ) → motion_of first h ≡ motions.Holding → CameOf first h (became on_stopped motions.Held ∷ (at_port (loaded done) ∷ h))
came_held first h done slows =
    let mid : Journal = at_port (loaded done) ∷ h in
    let two = ap (λ m. changes_left m (has_cut h)) slows in
    record {
      settled = record {
        passes = passes_on first h mid (became on_stopped motions.Held ∷ mid) (passes_load first done h) (passes_motion first on_stopped motions.Held mid refl (omega (arith, two)));
        stays = inl (record { left = refl; hand = refl; plan = refl });
        changes = refl;
        looked = λ s. refl;
        stopped = λ s. absurd (let e = s.slowed.slows in cc);
        waiting = λ w. absurd (let e = w.stands in cc);
        jogs = λ e. refl;
        held = λ e. refl;
        falls = λ halts s other. omega (arith, two);
      };
      load = refl;
      idle = refl;
      undue = refl;
    }

-- it is in alarm at a soft limit
came_locked : (first : Opening) (h : Journal) (done : ℕ) → motion_of first h ≡ motions.Stopping → CameOf first h (became on_stopped motions.Alarm ∷ (at_port (loaded done) ∷ h))
came_locked first h done slows =
    let mid : Journal = at_port (loaded done) ∷ h in
    record {
      settled = record {
        passes = passes_on first h mid (became on_stopped motions.Alarm ∷ mid) (passes_load first done h) (passes_motion first on_stopped motions.Alarm mid refl (omega arith));
        stays = inl (record { left = refl; hand = refl; plan = refl });
        changes = refl;
        looked = λ s. refl;
        stopped = λ s. absurd (let e = s.slowed.slows in cc);
        waiting = λ w. absurd (let e = w.stands in cc);
        jogs = λ e. refl;
        held = λ e. absurd (let f = sym slows ∙ e in cc);
        falls = λ halts s other. absurd (let e = sym halts ∙ ap is_halting slows in cc);
      };
      load = refl;
      idle = refl;
      undue = refl;
    }

-- its jogs are cut
came_cut : (first : Opening) (h : Journal) (done k : ℕ) → IsUncut first h → hand_of h ≡ [] → CameOf first h (cut k ∷ (at_port (loaded done) ∷ h))
came_cut first h done k uncut empty =
    let mid : Journal = at_port (loaded done) ∷ h in
    let one = ap (λ m. changes_left m true) uncut.cancelled in
    let two = ap (λ m. changes_left m (has_cut h)) uncut.cancelled ∙ ap (changes_left motions.Cancelling) uncut.uncut in
    let some : hand_of (cut k ∷ mid) ≡ [] → ⊥ = (λ e. let f = sym (ap (λ (ps : List Piece). ps ++ pieces.Mark (marks.Cut k) ∷ []) empty) ∙ e in absurd cc) in
    record {
      settled = record {
        passes = passes_on first h mid (cut k ∷ mid) (passes_load first done h) (passes_cut first k mid);
        stays = inr (record { uncut = uncut; cancelled = uncut.cancelled; none = asks_dropped (left_of first h); some = some });
        changes = refl;
        looked = λ s. refl;
        stopped = λ s. some s.slowed.empty;
        waiting = λ w. absurd (let e = sym uncut.cancelled ∙ w.stands in cc);
        jogs = λ e. ap (λ m. waits_to_jog m (has_jogged h) (has_moves (without_asks (left_of first h)))) uncut.cancelled;
        held = λ e. absurd (let f = sym uncut.cancelled ∙ e in cc);
        falls = λ halts s other. omega (arith, one, two);
      };
      load = refl;
      idle = ap is_going uncut.cancelled;
      undue = and_false (is_going (motion_of first h) || is_slowing (motion_of first h) 0);
    }

-- they were cut, and it stands
came_over : (first : Opening) (h : Journal) (done : ℕ) → Conducted first h → motion_of first h ≡ motions.Cancelling → has_cut h ≡ true → CameOf first h (became on_stopped motions.Idle ∷ (at_port (loaded done) ∷ h))
came_over first h done c cancelled was =
    let mid : Journal = at_port (loaded done) ∷ h in
    let off = cut_off first h c was in
    let one = ap (λ m. changes_left m (has_cut h)) cancelled ∙ ap (changes_left motions.Cancelling) was in
    record {
      settled = record {
        passes = passes_on first h mid (became on_stopped motions.Idle ∷ mid) (passes_load first done h) (passes_motion first on_stopped motions.Idle mid refl (omega arith));
        stays = inl (record { left = refl; hand = refl; plan = refl });
        changes = refl;
        looked = λ s. refl;
        stopped = λ s. absurd (let e = s.slowed.slows in cc);
        waiting = λ w. absurd (let e = sym (ap has_blocks off.blocks) ∙ w.blocks in cc);
        jogs = λ e. ap (λ (bs : List Block). has_jogged h && (has_blocks bs || has_moves (left_of first h))) off.blocks ∙ ap (λ b. has_jogged h && b) (none_moves (left_of first h) off.none) ∙ and_false (has_jogged h);
        held = λ e. absurd (let f = sym cancelled ∙ e in cc);
        falls = λ halts s other. omega (arith, one);
      };
      load = refl;
      idle = refl;
      undue = refl;
    }

pub came_of : (first : Opening) (h next : Journal) (done : ℕ) → Conducted first h → HasSlowedDown first h → ComesOf first (at_port (loaded done) ∷ h) next → CameOf first h next
came_of first h next done c slowed (is_held slows is) = subst (CameOf first h) (sym is) (came_held first h done slows)
came_of first h next done c slowed (is_locked slows is) = subst (CameOf first h) (sym is) (came_locked first h done slows)
came_of first h next done c slowed (is_cut uncut k is) = subst (CameOf first h) (sym is) (came_cut first h done k (record { cancelled = uncut.cancelled; uncut = uncut.uncut }) slowed.empty)
came_of first h next done c slowed (is_idle cancelled was is) = subst (CameOf first h) (sym is) (came_over first h done c cancelled was)

-- the port has seen the look alone
pub port_came : (first : Opening) (h next : Journal) → ComesOf first h next → port_log next ≡ port_log h
port_came first h next (is_held slows is) = ap port_log is
port_came first h next (is_locked slows is) = ap port_log is
port_came first h next (is_cut uncut k is) = ap port_log is
port_came first h next (is_idle cancelled was is) = ap port_log is

-- and nothing was published, nor found done since
pub published_came : (first : Opening) (h next : Journal) → ComesOf first h next → published_of next ≡ published_of h
published_came first h next (is_held slows is) = ap published_of is
published_came first h next (is_locked slows is) = ap published_of is
published_came first h next (is_cut uncut k is) = ap published_of is
published_came first h next (is_idle cancelled was is) = ap published_of is

pub known_came : (first : Opening) (h next : Journal) → ComesOf first h next → known_of next ≡ known_of h
known_came first h next (is_held slows is) = ap known_of is
known_came first h next (is_locked slows is) = ap known_of is
known_came first h next (is_cut uncut k is) = ap known_of is
known_came first h next (is_idle cancelled was is) = ap known_of is

-- ---- a word of changes of overrides

pub replanned_some : (word : Ovr) (h : Journal) → has_changes word ≡ true → replanned word h ≡ did (Override (taken (plan_of h).overrides word)) [] ∷ (at_port (took_ovr word) ∷ h)
replanned_some word h some = rw some refl

pub replanned_none : (word : Ovr) (h : Journal) → has_changes word ≡ false → replanned word h ≡ at_port (took_ovr word) ∷ h
replanned_none word h none = rw none refl
