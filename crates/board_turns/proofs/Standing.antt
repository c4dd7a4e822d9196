-- It is looked how many ticks are done; and where nothing is left to run, and each is done, the machine stands.
use Rattle.std.proofs.Common.{◌≡◌, ℕ, ◌≤◌, ◌<◌, ◌⊎◌, inl, inr, Bool, true, false, ◌&&◌, ◌||◌, List, [], ◌∷◌, ◌++◌, drop, Some, None, sym, refl, ap, ◌∙◌, subst, arith, append-nil, length, nat_le}
use Rattle.std.specs.declared.option.Option.{Option}
use Rattle.std.specs.Option.{is_some, option_to_list}
use Rattle.feed_hold.specs.declared.Motion.{Motion}
use Rattle.feed_hold.specs.declared.Motion.TheVariants as motions
use Rattle.feed_hold.specs.Motions.{is_stopping}
use Rattle.feed_hold.specs.Motions.Call.{on_drained}
use Rattle.outside.specs.declared.On.TheVariants as on
use Rattle.outside.specs.declared.Turn.TheVariants.{Wait}
use Rattle.line_geom.specs.declared.Block.{Block}
use Rattle.step_line.specs.declared.Piece.{Piece}
use Rattle.step_line.specs.declared.planned_move.PlannedMove.{PlannedMove}
use Rattle.step_line.specs.Asking.Asked.{a_move}
use Rattle.step_line.specs.Finishing.{ticks_together}
use Rattle.run_rules.specs.Work.{Task}
use Rattle.run_rules.specs.Work.Task.{ask}
use Rattle.board_journal.specs.Openings.{Opening}
use Rattle.board_journal.specs.Ports.{MayBeDone}
use Rattle.board_journal.specs.Ports.PortStep.{loaded}
use Rattle.board_journal.specs.Steps.{Journal, port_log, left_of, given_of, published_of, hand_of, plan_of, motion_of}
use Rattle.board_journal.specs.Steps.Step.{at_port, became}
use Rattle.board_rules.specs.Turns.{has_blocks, has_segment, is_full, is_due, is_going, is_slowing, is_held_up, begins_in, is_locked, has_jogged, awaits_motion}
use Rattle.board_rules.specs.Conduct.{IsDrained, AreWaiting, ticks_given, ticks_published}
use Rattle.board_rules.proofs.Given.{published_within}
use Rattle.board_rules.proofs.Keeping.{hand_is}
use Rattle.board_rules.proofs.Unstopped.{done_within}
use Rattle.board_turns.specs.declared.board.Board.{Board}
use Rattle.board_turns.specs.declared.board.Flags.TheVariants as flags
use Rattle.board_machine.specs.declared.machine.Machine.{Machine}
use Rattle.board_machine.specs.Machines.{Runs, StandsOrGoes}
use Rattle.board_turns.specs.Boards.{Keeps, Rounds}
use Rattle.board_turns.specs.Turning.{HasPiece, HasLooked, MayAwait, PassesNothing, BoardWorked}
use Rattle.board_rules.proofs.Facts.{uncounted, and_false, none_awaited}
use Rattle.board_turns.proofs.Steps.{at_rest, hand_empty, none_by_test, drained, halts_by}
use Rattle.board_turns.proofs.PortSteps.{looked}
use Rattle.board_rules.proofs.Tries.{passes_load, passes_motion, passes_on}
use Rattle.board_turns.proofs.Ends.{rounds_still, free_of, free_passed, takes_none, no_word_left}
use Rattle.std.proofs.lemmas.Bool.Decides.{nat_tests}

-- ---- hands and blocks

one_in_hand : (o : Option Piece) → is_some o ≡ true → option_to_list o ≡ [] → ⊥
one_in_hand None is none = absurd cc
one_in_hand (Some p) is none = absurd cc

no_blocks : (blocks : List Block) → has_blocks blocks ≡ false → blocks ≡ []
no_blocks [] is = refl
no_blocks (b ∷ blocks) is = absurd cc

-- a full plan has blocks
pub full_is_queued : (most : ℕ) (blocks : List Block) → 1 ≤ most → nat_le most (length blocks) ≡ true → has_blocks blocks ≡ true
full_is_queued most [] some e = grind (arith, nat_tests, some, e)
full_is_queued most (b ∷ blocks) some e = refl

-- what the fields say of the hand and of the plan
pub hand_none : {N : ℕ} (first : Opening) (b : Board N) (h : Journal) → Keeps first b h → is_some b.machine.hand ≡ false → hand_of h ≡ []
hand_none first b h k is = hand_empty first b h k (none_by_test b.machine.hand is)

pub hand_some : {N : ℕ} (first : Opening) (b : Board N) (h : Journal) → Keeps first b h → is_some b.machine.hand ≡ true → hand_of h ≡ [] → ⊥
hand_some first b h k is none = one_in_hand b.machine.hand is (k.machine.hand_is ∙ none)

pub blocks_are : {N : ℕ} (first : Opening) (b : Board N) (h : Journal) (some : Bool) → Keeps first b h → some ≡ has_blocks b.machine.plan.blocks → has_blocks (plan_of h).blocks ≡ some
blocks_are first b h some k is = ap (λ p. has_blocks p.blocks) (sym k.machine.plan_is) ∙ sym is

-- a machine that lets a line be begun stands, runs or jogs
pub goes_or_stands : (m : Motion) → begins_in m ≡ true → StandsOrGoes m
goes_or_stands motions.Idle going = inl refl
goes_or_stands motions.Run going = inr (inl refl)
goes_or_stands motions.Jog going = inr (inr refl)
goes_or_stands m going = absurd cc

-- so its cycle may be over
pub may_drain : {N : ℕ} (first : Opening) (b : Board N) (h : Journal) → Keeps first b h → begins_in (motion_of first h) ≡ true → (b.machine.hold.motion ≡ motions.Idle) ⊎ (is_going b.machine.hold.motion ≡ true)
may_drain first b h k going = by_motion (goes_or_stands (motion_of first h) going)
  where
    by_motion : StandsOrGoes (motion_of first h) → (b.machine.hold.motion ≡ motions.Idle) ⊎ (is_going b.machine.hold.motion ≡ true)
    by_motion (inl idle) = inl (k.machine.motion_is ∙ idle)
    by_motion (inr (inl run)) = inr (ap is_going (k.machine.motion_is ∙ run))
    by_motion (inr (inr jog)) = inr (ap is_going (k.machine.motion_is ∙ jog))

-- a machine that goes lets one be begun
pub going_begins : (m : Motion) → is_going m ≡ true → begins_in m ≡ true
going_begins motions.Run goes = refl
going_begins motions.Jog goes = refl
going_begins m goes = absurd cc

-- ---- where nothing is left to run

-- nothing is left to run, and each tick is found done
pub all_done : {N : ℕ} (first : Opening) (b : Board N) (h : Journal) (done : ℕ) → Keeps first b h → hand_of h ≡ [] → has_blocks (plan_of h).blocks ≡ false → done ≡ b.machine.given
    → IsDrained (at_port (loaded done) ∷ h)
all_done first b h done k hand none all = record {
  plan = at_rest first b h k (no_blocks (plan_of h).blocks none);
  hand = hand;
  done = all ∙ k.machine.given_is;
}

-- the cycle is over
pub over : {N : ℕ} (first : Opening) (b : Board N) (m : Machine N) (h : Journal) (done : ℕ) → Keeps first b h → begins_in (motion_of first h) ≡ true → MayBeDone done (port_log h) → hand_of h ≡ [] → has_blocks (plan_of h).blocks ≡ false → done ≡ b.machine.given
    → Runs m (plan_of h) motions.Idle (hand_of h) (given_of h)
    → Keeps first (record b { machine = m }) (became on_drained motions.Idle ∷ at_port (loaded done) ∷ h)
over first b m h done k going may hand none all runs =
    let l = looked first b done h k may in
    drained first b m (at_port (loaded done) ∷ h) l (goes_or_stands (motion_of first h) going) (all_done first b h done k hand none all) runs

-- a look, and the end of the cycle, pass nothing
pub over_passes : (first : Opening) (h : Journal) (done : ℕ) → PassesNothing first h (became on_drained motions.Idle ∷ at_port (loaded done) ∷ h)
over_passes first h done =
    let mid = at_port (loaded done) ∷ h in
    passes_on first h mid (became on_drained motions.Idle ∷ mid) (passes_load first done h) (passes_motion first on_drained motions.Idle mid refl (omega arith))

pub looked_over : (first : Opening) (h : Journal) (done : ℕ) → has_blocks (plan_of h).blocks ≡ false → HasLooked first h (became on_drained motions.Idle ∷ at_port (loaded done) ∷ h)
looked_over first h done none = record {
  passes = over_passes first h done;
  load = refl;
  idle = λ d. refl;
  begins = refl;
  left = refl;
  none_waits = λ w a. absurd (let e = sym none ∙ a.blocks in cc);
}

-- a look where the machine does not stand
pub looked_only : (first : Opening) (h : Journal) (done : ℕ) → (begins_in (motion_of first h) || is_locked first h) ≡ true → (IsDrained (at_port (loaded done) ∷ h) → is_going (motion_of first h) ≡ false) → HasLooked first h (at_port (loaded done) ∷ h)
looked_only first h done going idle = record {
  passes = passes_load first done h;
  load = refl;
  idle = idle;
  begins = going;
  left = refl;
  none_waits = λ w a. w (record { stands = a.stands; blocks = a.blocks });
}

-- a plan that has blocks is not drained
pub blocks_undrained : (h : Journal) → has_blocks (plan_of h).blocks ≡ true → IsDrained h → ⊥
blocks_undrained h some d = absurd (let e = sym some ∙ ap has_blocks d.plan.blocks in cc)

-- ---- a wait for the motion

-- what waits for the motion is no move
pub awaits_no_move : (left : List Task) (m : PlannedMove) → awaits_motion left ≡ true → left ≡ ask (a_move m) ∷ drop 1 left → ⊥
awaits_no_move left m is next = absurd (let e = sym is ∙ ap awaits_motion next in cc)

or_true : (a b : Bool) → b ≡ true → (a || b) ≡ false → ⊥
or_true true b is none = absurd cc
or_true false true is none = absurd cc
or_true false false is none = absurd cc

-- no queued block waits where the motion is waited for
pub none_waits : (first : Opening) (h : Journal) → MayAwait first h → AreWaiting first h → ⊥
none_waits first h may waiting = or_true (is_full first.blocks (plan_of h)) (awaits_motion (left_of first h) || has_jogged h) (ap (λ b. b || has_jogged h) may.awaits) (may.none_waits waiting)

-- so a block there is due
pub due_where_awaited : (first : Opening) (h : Journal) → StandsOrGoes (motion_of first h) → MayAwait first h → has_blocks (plan_of h).blocks ≡ true → is_due first h ≡ true
due_where_awaited first h (inl idle) may some = absurd (none_waits first h may (record { stands = idle; blocks = some }))
due_where_awaited first h (inr (inl run)) may some = ap (λ m. has_segment m (plan_of h)) run ∙ some
due_where_awaited first h (inr (inr jog)) may some = ap (λ m. has_segment m (plan_of h)) jog ∙ some

pub has_piece_by_hand : {N : ℕ} (first : Opening) (b : Board N) (h : Journal) → Keeps first b h → is_some b.machine.hand ≡ true → HasPiece first h
has_piece_by_hand first b h k is = inl (hand_some first b h k is)

pub has_piece_by_blocks : {N : ℕ} (first : Opening) (b : Board N) (h : Journal) → Keeps first b h → MayAwait first h → has_blocks (plan_of h).blocks ≡ true → HasPiece first h
has_piece_by_blocks first b h k may some = inr (due_where_awaited first h (goes_or_stands (motion_of first h) may.going) may some)

-- the ticks that are found done are all, where they aren't fewer than were given
pub done_all : {N : ℕ} (first : Opening) (b : Board N) (h : Journal) (done : ℕ) → Keeps first b h → MayBeDone done (port_log h) → b.machine.given ≤ done → done ≡ b.machine.given
done_all first b h done k may least =
    let high : done ≤ ticks_published h = done_within first h done k.conducted may in
    let within = published_within first h k.conducted in
    let given : b.machine.given ≡ ticks_given h = k.machine.given_is in
    omega (arith, least, high, within, given)

-- with nothing in hand, all that was given is published
pub all_published : {N : ℕ} (first : Opening) (b : Board N) (h : Journal) → Keeps first b h → hand_of h ≡ [] → ticks_published h ≡ ticks_given h
all_published first b h k none =
    ap ticks_together (sym (hand_is first h k.conducted ∙ ap (λ (ps : List Piece). published_of h ++ ps) none ∙ append-nil (published_of h)))

-- the motion is waited for: ticks are found not to be done
pub waits_for_motion : {N : ℕ} (first : Opening) (b : Board N) (h : Journal) (done : ℕ) → Keeps first b h → MayAwait first h → b.published ≡ false → b.flags ≡ flags.None → MayBeDone done (port_log h) → hand_of h ≡ []
    → has_blocks (plan_of h).blocks ≡ false → done < b.machine.given → BoardWorked first (Wait on.Motion) b.flags b h (at_port (loaded done) ∷ h)
waits_for_motion first b h done k may unpublished no_word found hand none fewer =
    let few = may.run.few (uncounted first h (none_awaited (left_of first h) may.awaits)) in
    let next : Journal = at_port (loaded done) ∷ h in
    let waits_none : AreWaiting first next → ⊥ = λ a. (none_waits first) h may (record { stands = a.stands; blocks = a.blocks }) in
    let quiet = may.run.quiet in
    let worked = (passes_load first done h).worked quiet.worked in
    let free = free_passed first h next (passes_load first done h) (free_of h quiet) in
    let same = all_published first b h k hand in
    let given : b.machine.given ≡ ticks_given h = k.machine.given_is in
    record {
      keeps = looked first b done h k found;
      rounds = subst (λ x. (Rounds first) x next) (sym unpublished) (rounds_still first next (λ a. absurd (waits_none a)) few);
      flags = takes_none b next no_word free;
      still = λ e. no_word_left b.flags no_word;
      unpublished = λ other e. unpublished;
      steps = at_port (loaded done) ∷ [];
      are = refl;
      inner = refl;
      may = record {
        ends = record {
          once = let q = quiet.quiet in omega (arith, q);
          adds = λ m is. absurd (awaits_no_move (left_of first h) m may.awaits is);
          starts = λ a. absurd (waits_none a);
          tries = omega (arith, few);
          obeyed = worked.obeyed;
          changed = worked.changed;
          halts = halts_by first b h k;
        };
        cause = record { load = refl; undone = omega (arith, fewer, same, given); awaits = ap (λ b. b || (is_stopping (motion_of first h) && is_held_up first h)) may.awaits };
        still = quiet.still;
        flags = quiet.flags;
        obeyed = free.obeyed;
        unowed = λ e. absurd (let f = sym e ∙ free.unowed in cc);
        round = λ due already. absurd (let e = sym (and_false (is_going (motion_of first h) || is_slowing (motion_of first h) (plan_of h).speed) (has_blocks (plan_of h).blocks) none) ∙ due in cc);
      };
      moves = λ e. absurd cc;
    }
