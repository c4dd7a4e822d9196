-- It is looked how many ticks are done before a report is told, and the room is asked for.
use Rattle.std.proofs.Common.{◌-◌, ◌≡◌, ℕ, ◌+◌, inl, inr, Bool, true, false, ◌||◌, cond, not, nat_eq, List, [], ◌∷◌, length, Some, None, sym, refl, ap, ◌∙◌, subst, arith}
use Rattle.std.specs.declared.option.Option.{Option}
use Rattle.std.proofs.lemmas.Bool.Decides.{nat_tests}
use Rattle.std.specs.List.{list_any}
use Rattle.code_table.specs.declared.flags.Exec.{Exec}
use Rattle.feed_hold.specs.declared.Motion.{Motion as AnyMotion}
use Rattle.feed_hold.specs.declared.Motion.TheVariants as motions
use Rattle.feed_hold.specs.Motions.{after_word}
use Rattle.feed_hold.specs.Motions.Call.{on_drained}
use Rattle.flight.specs.Flights.{Flying, Flies}
use Rattle.plan_rules.specs.Plans.{Planned}
use Rattle.line_geom.specs.declared.Block.{Block}
use Rattle.step_line.specs.declared.Piece.{Piece}
use Rattle.board_journal.specs.Openings.{Opening}
use Rattle.board_journal.specs.Ports.{MayBeDone}
use Rattle.board_journal.specs.Ports.PortStep.{found_free, loaded}
use Rattle.board_journal.specs.Steps.{Journal, port_log, published_of, known_of, given_of, hand_of, plan_of, motion_of}
use Rattle.board_journal.specs.Steps.Step.{at_port, became}
use Rattle.board_rules.specs.Turns.{this_turn, has_blocks, is_going, finds_free}
use Rattle.board_rules.specs.Conduct.{IsDrained, HasSlowedDown, IsStopped, ticks_given, MayObey}
use Rattle.board_rules.proofs.Taking.{no_jog_to_start}
use Rattle.board_turns.specs.declared.board.Board.{Board}
use Rattle.board_machine.specs.declared.machine.Machine.{Machine}
use Rattle.board_machine.specs.Machines.{Runs, StandsOrGoes, observed, settled}
use Rattle.board_turns.specs.Boards.{Keeps}
use Rattle.board_turns.specs.Reporting.{HasObserved, HasAskedRoom, IsReported, MayObeyNow, obeying}
use Rattle.board_turns.specs.Turning.{ComesOf}
use Rattle.board_turns.proofs.Steps.{drained, other_flight, at_rest, halts_by}
use Rattle.board_turns.proofs.PortSteps.{looked}
use Rattle.board_turns.proofs.Requests.{obeys}
use Rattle.board_turns.proofs.Settling.{CameOf, came_of, port_came, published_came, known_came}
use Rattle.board_rules.proofs.Tries.{passes_load, passes_motion, passes_on}
use Rattle.board_turns.proofs.Ends.{none_called}

-- ---- what is observed

observed_kept : (m : AnyMotion) (p : Planned) (hand : List Piece) (all : Bool) → (hand ≡ [] → ⊥) → observed m p hand all ≡ m
observed_kept m p [] all some = absurd (some refl)
observed_kept m p (x ∷ xs) all some = refl

observed_later : (m : AnyMotion) (p : Planned) (hand : List Piece) (all : Bool) → all ≡ false → observed m p hand all ≡ m
observed_later m p [] false e = refl
observed_later m p [] true e = absurd cc
observed_later m p (x ∷ xs) all e = refl

observed_now : (m now : AnyMotion) (p : Planned) (hand : List Piece) (all : Bool) → hand ≡ [] → all ≡ true → m ≡ now → observed m p hand all ≡ settled now p
observed_now m now p [] true none e is = ap (λ x. settled x p) is
observed_now m now p [] false none e is = absurd cc
observed_now m now p (x ∷ xs) all none e is = absurd cc

-- a machine that keeps its plan, its motion and its hand
pub other_machine : {N : ℕ} (first : Opening) (c : Board N) (m : Machine N) (h : Journal) → Keeps first c h → Runs m (plan_of h) (motion_of first h) (hand_of h) (given_of h) → Keeps first (record c { machine = m }) h
other_machine first c m h k runs = record {
  placed = k.placed;
  sized = k.sized;
  short = k.short;
  conducted = k.conducted;
  machine = runs;
  lines = k.lines;
  input = k.input;
  flight = record { known = k.flight.known; found = k.flight.found; flies = k.flight.flies };
  owes_is = k.owes_is;
  resetting_is = k.resetting_is;
  taken_is = k.taken_is;
  answered_is = k.answered_is;
  greeted_is = k.greeted_is;
  prompt = k.prompt;
  unready = k.unready;
  jogged_is = k.jogged_is;
  cut_is = k.cut_is;
  going = k.going;
  closed = k.closed;
  limited = k.limited;
  alarmed_is = k.alarmed_is;
  unlocked = k.unlocked;
  tries = k.tries;
}

-- ---- the steps behind a look

-- the machine goes on as it did
observed_stays : (first : Opening) (h : Journal) (done : ℕ) → (IsDrained (at_port (loaded done) ∷ h) → is_going (motion_of first h) ≡ false) → (IsStopped first (at_port (loaded done) ∷ h) → ⊥)
    → HasObserved first h (at_port (loaded done) ∷ h)
observed_stays first h done idle stopped = record {
  passes = passes_load first done h;
  load = refl;
  stays = inl (record { left = refl; hand = refl; plan = refl });
  idle = idle;
  stopped = stopped;
  waiting = λ w. record { stands = w.stands; blocks = w.blocks };
  due = λ e. e;
}

-- the cycle is over, or the jogs are
observed_over : (first : Opening) (h : Journal) (done : ℕ) → has_blocks (plan_of h).blocks ≡ false → HasObserved first h (became on_drained motions.Idle ∷ at_port (loaded done) ∷ h)
observed_over first h done none =
    let mid : Journal = at_port (loaded done) ∷ h in
    record {
      passes = passes_on first h mid (became on_drained motions.Idle ∷ mid) (passes_load first done h) (passes_motion first on_drained motions.Idle mid refl (omega arith));
      load = refl;
      stays = inl (record { left = refl; hand = refl; plan = refl });
      idle = λ d. refl;
      stopped = λ s. absurd (let e = s.slowed.slows in cc);
      waiting = λ w. absurd (let e = sym none ∙ w.blocks in cc);
      due = λ e. absurd cc;
    }

-- something came of a machine that has stopped
observed_came : (first : Opening) (h next : Journal) → CameOf first h next → HasObserved first h next
observed_came first h next came = record {
  passes = came.settled.passes;
  load = came.load;
  stays = came.settled.stays;
  idle = λ d. came.idle;
  stopped = came.settled.stopped;
  waiting = came.settled.waiting;
  due = λ e. absurd (let f = sym came.undue ∙ e in cc);
}

-- ---- a look

-- what a board with another machine and another flight has observed
abbrev pub Observes : {N : ℕ} → Opening → Board N → Machine N → Flying → ℕ → Journal → Type 0
Observes first c m f done h =
    (next : Journal) × (port_log next ≡ loaded done ∷ port_log h) × Keeps first (record c { machine = m; flight = f }) next × HasObserved first h next × Flies first.place f (published_of next) (known_of next)

no_blocks : (bs : List Block) → has_blocks bs ≡ false → bs ≡ []
no_blocks [] is = refl
no_blocks (b ∷ bs) is = absurd cc

true_is : (a b : ℕ) → nat_eq a b ≡ true → a ≡ b
true_is a b e = grind (arith, nat_tests, e)

equal_tests : (a b : ℕ) → a ≡ b → nat_eq a b ≡ true
equal_tests a b e = grind (arith, nat_tests, e)

-- a machine that has not stopped
pub looks : {N : ℕ} (first : Opening) (c : Board N) (m : Machine N) (f : Flying) (done : ℕ) (h : Journal) → Keeps first c h → MayBeDone done (port_log h) → Flies first.place f (published_of h) done → (IsStopped first (at_port (loaded done) ∷ h) → ⊥)
    → Runs m (plan_of h) (observed (motion_of first h) (plan_of h) (hand_of h) (nat_eq done (ticks_given h))) (hand_of h) (given_of h) → Observes first c m f done h
looks first c m f done h k may flies moves runs = by_hand (hand_of h) refl
  where
    found : Keeps first c (at_port (loaded done) ∷ h)
    found = looked first c done h k may

    runs_as : (now : AnyMotion) → observed (motion_of first h) (plan_of h) (hand_of h) (nat_eq done (ticks_given h)) ≡ now → Runs m (plan_of h) now (hand_of h) (given_of h)
    runs_as now is = subst (λ x. Runs m (plan_of h) x (hand_of h) (given_of h)) is runs

    stays : observed (motion_of first h) (plan_of h) (hand_of h) (nat_eq done (ticks_given h)) ≡ motion_of first h → (IsDrained (at_port (loaded done) ∷ h) → is_going (motion_of first h) ≡ false) → Observes first c m f done h
    stays is idle = (
      at_port (loaded done) ∷ h,
      refl,
      other_flight first (record c { machine = m }) f (at_port (loaded done) ∷ h) (other_machine first c m (at_port (loaded done) ∷ h) found (runs_as (motion_of first h) is))
          (record { known = done; found = omega arith; flies = flies }),
      observed_stays first h done idle moves,
      flies,
    )

    -- the machine does not go
    stands : (now : AnyMotion) → hand_of h ≡ [] → nat_eq done (ticks_given h) ≡ true → settled now (plan_of h) ≡ now → is_going now ≡ false → motion_of first h ≡ now → Observes first c m f done h
    stands now none all rests idle e =
        stays (observed_now (motion_of first h) now (plan_of h) (hand_of h) (nat_eq done (ticks_given h)) none all e ∙ rests ∙ sym e) (λ d. ap is_going e ∙ idle)

    -- it goes: where no block is left, that is over
    going : (now : AnyMotion) → StandsOrGoes (motion_of first h) → settled now (plan_of h) ≡ cond (has_blocks (plan_of h).blocks) now motions.Idle
        → hand_of h ≡ [] → nat_eq done (ticks_given h) ≡ true → motion_of first h ≡ now → (some : Bool) → has_blocks (plan_of h).blocks ≡ some → Observes first c m f done h
    going now goes rests none all is false e =
        let runs_idle = runs_as motions.Idle (observed_now (motion_of first h) now (plan_of h) (hand_of h) (nat_eq done (ticks_given h)) none all is ∙ rests ∙ ap (λ t. cond t now motions.Idle) e) in
        let over : IsDrained (at_port (loaded done) ∷ h) = record { plan = at_rest first c h k (no_blocks (plan_of h).blocks e); hand = none; done = true_is done (ticks_given h) all } in (
          became on_drained motions.Idle ∷ at_port (loaded done) ∷ h,
          refl,
          other_flight first (record c { machine = m }) f (became on_drained motions.Idle ∷ at_port (loaded done) ∷ h) (drained first c m (at_port (loaded done) ∷ h) found goes over runs_idle)
              (record { known = done; found = omega arith; flies = flies }),
          observed_over first h done e,
          flies,
        )
    going now goes rests none all is true e =
        stays (observed_now (motion_of first h) now (plan_of h) (hand_of h) (nat_eq done (ticks_given h)) none all is ∙ rests ∙ ap (λ t. cond t now motions.Idle) e ∙ sym is)
        (λ d. absurd (let t = sym e ∙ ap has_blocks d.plan.blocks in cc))

    by_motion : hand_of h ≡ [] → nat_eq done (ticks_given h) ≡ true → (now : AnyMotion) → motion_of first h ≡ now → Observes first c m f done h
    by_motion none all motions.Idle e = stands motions.Idle none all refl refl e
    by_motion none all motions.Run e = going motions.Run (inr (inl e)) refl none all e (has_blocks (plan_of h).blocks) refl
    by_motion none all motions.Holding e = stands motions.Holding none all refl refl e
    by_motion none all motions.Held e = stands motions.Held none all refl refl e
    by_motion none all motions.Jog e = going motions.Jog (inr (inr e)) refl none all e (has_blocks (plan_of h).blocks) refl
    by_motion none all motions.Cancelling e = stands motions.Cancelling none all refl refl e
    by_motion none all motions.Stopping e = stands motions.Stopping none all refl refl e
    by_motion none all motions.Alarm e = stands motions.Alarm none all refl refl e

    by_done : hand_of h ≡ [] → (all : Bool) → nat_eq done (ticks_given h) ≡ all → Observes first c m f done h
    by_done none true e = by_motion none e (motion_of first h) refl
    by_done none false e =
        stays (observed_later (motion_of first h) (plan_of h) (hand_of h) (nat_eq done (ticks_given h)) e)
        (λ d. absurd (let t = sym e ∙ equal_tests done (ticks_given h) d.done in cc))

    by_hand : (ps : List Piece) → hand_of h ≡ ps → Observes first c m f done h
    by_hand [] e = by_done e (nat_eq done (ticks_given h)) refl
    by_hand (p ∷ ps) e =
        let some : hand_of h ≡ [] → ⊥ = (λ none. let t = sym e ∙ none in absurd cc) in
        stays (observed_kept (motion_of first h) (plan_of h) (hand_of h) (nat_eq done (ticks_given h)) some) (λ d. absurd (some d.hand))

-- a machine that has stopped
pub looks_stopped : {N : ℕ} (first : Opening) (b : Board N) (f : Flying) (d : Board N) (done : ℕ) (h next : Journal) → Keeps first b h → HasSlowedDown first h → d.flight ≡ f → Flies first.place f (published_of h) done → ComesOf first (at_port (loaded done) ∷ h) next → Keeps first d next
    → (port_log next ≡ loaded done ∷ port_log h) × HasObserved first h next × Flies first.place d.flight (published_of next) (known_of next)
looks_stopped first b f d done h next k slowed same flies comes keeps =
    let mid : Journal = at_port (loaded done) ∷ h in (
      port_came first mid next comes,
      observed_came first h next (came_of first h next done k.conducted slowed comes),
      rw (same, published_came first mid next comes, known_came first mid next comes) flies,
    )

-- ---- the room

same_number : (n : ℕ) → nat_eq n n ≡ true
same_number n = equal_tests n n refl

either : (a b : Bool) → a ≡ true → (a || b) ≡ true
either true b e = refl
either false b e = absurd cc

pub asked_room : {N : ℕ} (first : Opening) (c : Board N) (free bytes : ℕ) (h : Journal) → Keeps first c h → free + length c.machine.plan.blocks ≡ N - 1 → HasAskedRoom first (Some (free, bytes)) h (at_port (found_free bytes) ∷ h)
asked_room {N} first c free bytes h k room = record {
  are = inr (bytes, refl);
  room = (
    subst (λ (p : Planned). free + length p.blocks ≡ N - 1) k.machine.plan_is room ∙ sym k.sized,
    either (nat_eq bytes bytes) (list_any (finds_free bytes) (this_turn h)) (same_number bytes),
  );
}

-- ---- a word that waits for a report

told_or_lacks : (told : Bool) (A : Type 0) → (told ≡ false → A) → not told ≡ true → A
told_or_lacks true A f e = absurd cc
told_or_lacks false A f e = f refl

pub may_obey : {N : ℕ} (first : Opening) (c : Board N) (told : Bool) (word : Exec) (h : Journal) → Keeps first c h → IsReported first told (Some word) h → MayObey first word (has_blocks (plan_of h).blocks) h
may_obey first c told word h k r = record {
  next = r.words;
  reported = λ owed. told_or_lacks told _ r.lacks (sym r.owed ∙ owed);
  blocks = refl;
  looked = λ s. r.load;
  stopped = r.stopped;
  jog = no_jog_to_start first h k.conducted (none_called first h r.unpolled r.none_waits) r.adds;
  halts = halts_by first c h k;
}

pub may_obey_now : {N : ℕ} (first : Opening) (c : Board N) (told : Bool) (waiting : Option Exec) (h : Journal) → Keeps first c h → IsReported first told waiting h → MayObeyNow first waiting h
may_obey_now first c told None h k r = tt
may_obey_now first c told (Some word) h k r = may_obey first c told word h k r

pub obeys_waiting : {N : ℕ} (first : Opening) (c : Board N) (m : Machine N) (waiting : Option Exec) (word : Exec) (h : Journal) → waiting ≡ Some word → Keeps first c h → MayObeyNow first waiting h
    → Runs m (plan_of h) (after_word word (has_blocks (plan_of h).blocks) (motion_of first h)) (hand_of h) (given_of h) → Keeps first (record c { machine = m }) (obeying first waiting h)
obeys_waiting first c m waiting word h is k may runs =
    subst (λ (w : Option Exec). Keeps first (record c { machine = m }) (obeying first w h)) (sym is) (obeys first c m word h k (subst (λ (w : Option Exec). MayObeyNow first w h) is may) runs)
