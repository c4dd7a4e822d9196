-- Paced turns, one after the other, and what is known where the motion goes on.
use Rattle.std.proofs.Common.{◌≡◌, ◌≢◌, ◌↔◌, ◌⊎◌, ◌++◌, ◌∙◌, suc, Bool, true, false, cond, nat_lt, List, [], ◌∷◌, inl, inr, refl, sym, ap, subst, ℕ}
use Rattle.outside.specs.declared.Actor.{Actor}
use Rattle.outside.specs.declared.Actor.TheVariants as actors
use Rattle.outside.specs.declared.Turn.{Turn}
use Rattle.outside.specs.declared.Turn.TheVariants.{Did, Wait, Done}
use Rattle.outside.specs.declared.On.TheVariants as on
use Rattle.board_journal.specs.Steps.{Step}
use Rattle.board_epochs.specs.Epochs.{Epochs}
use Rattle.board_epochs.specs.Epochs.Epochs.{goes, resets}
use Rattle.controller.specs.declared.controller.Controller.{Controller}
use Rattle.controller.specs.Boards.{BoardTurned, added, parted}
use Rattle.pulse_engine.specs.Steps.{AwaitsPiece}
use Rattle.motion_pulse.specs.Pulses.{seen_of}
use Rattle.actor_turns.specs.Worlds.{Seen, History, Devices, Holds, Adds, Turns, TurnsOn, HasRunOn}
use Rattle.actor_turns.specs.declared.pacing.Pace.{Pace}
use Rattle.actor_turns.specs.Pacing.{first_pace, to_motion, to_host, after_turn, pace_after, PacedTurns, IsPaced, RunsPaced, BoardSaid, BoardIdles, FoundNothing}

-- ---- one turn more

paced_one_more : {N : ℕ} (schedule : List Actor) (actor : Actor) (t : Turn) (between : Bool) (p q : Pace) (w mid w' : Seen N) (hist done next : History) → PacedTurns schedule p q w mid hist done
    → actor ≡ q.next → Adds actor t mid w' done next → Holds w' next → ((between ≡ true) ↔ AwaitsPiece (seen_of w'.pulse))
    → PacedTurns (schedule ++ actor ∷ []) p (pace_after t between q) w w' hist next
paced_one_more {N} [] actor t between p q w mid w' hist done next same is adds holds awaits = (
  t,
  between,
  w',
  next,
  is ∙ ap (λ (r : Pace). r.next) same.0,
  subst (λ (v : Seen N). Adds actor t v w' hist next) same.1 (subst (λ (h : History). Adds actor t mid w' h next) same.2 adds),
  holds,
  awaits,
  (ap (pace_after t between) same.0, refl, refl),
)
paced_one_more {N} (a ∷ schedule) actor t between p q w mid w' hist done next turns is adds holds awaits = (
  turns.0,
  turns.1,
  turns.2,
  turns.3,
  turns.4,
  turns.5,
  turns.6,
  turns.7,
  paced_one_more schedule actor t between (pace_after turns.0 turns.1 p) q turns.2 mid w' turns.3 done next turns.8 is adds holds awaits,
)

-- no turn
pub paced_nothing : {N : ℕ} (now : Devices) (w : Seen N) → IsPaced first_pace now now w w
paced_nothing now w = record { schedule = []; on = λ form was hist st. (hist, st, (refl, refl, refl)) }

-- the turn of the actor that is next
pub paced_more : {N : ℕ} (p next_pace : Pace) (t : Turn) (between : Bool) (before now after : Devices) (w mid w' : Seen N) → IsPaced p before now w mid → TurnsOn p.next t now after mid w'
    → ((between ≡ true) ↔ AwaitsPiece (seen_of w'.pulse)) → next_pace ≡ pace_after t between p → IsPaced next_pace before after w w'
paced_more p next_pace t between before now after w mid w' so turns awaits is = record {
  schedule = so.schedule ++ p.next ∷ [];
  on = λ form was hist st.
      let a = so.on form was hist st in
      let n = turns.on form was a.0 a.1 in
      let taken = paced_one_more so.schedule p.next t between first_pace p w mid w' hist a.0 n.0 a.2 refl n.2 n.1.holds awaits in
      (n.0, n.1, subst (λ (q : Pace). PacedTurns (so.schedule ++ p.next ∷ []) first_pace q w w' hist n.0) (sym is) taken);
}

-- ---- they are turns as any others

are_turns : {N : ℕ} (schedule : List Actor) (p q : Pace) (w w' : Seen N) (hist next : History) → PacedTurns schedule p q w w' hist next → Turns schedule w w' hist next
are_turns [] p q w w' hist next same = (same.1, same.2)
are_turns (actor ∷ schedule) p q w w' hist next turns =
    (turns.0, turns.2, turns.3, turns.5, are_turns schedule (pace_after turns.0 turns.1 p) q turns.2 w' turns.3 next turns.8)

pub paced_has_run : {N : ℕ} (before after : Devices) (w w' : Seen N) → RunsPaced before after w w' → HasRunOn before after w w'
paced_has_run before after w w' runs =
    let paced = runs.paced in
    record {
      schedule = paced.schedule;
      runs = record { on = λ form was hist st. let n = paced.on form was hist st in (n.0, n.1, are_turns paced.schedule first_pace runs.pace w w' hist n.0 n.2) };
    }

-- ---- what is known where it is an actor's turn

abbrev Knows : Actor → History → Type 0
Knows actors.Host hist = BoardIdles hist.board
Knows actors.Board hist = Unit {0}
Knows actors.Pulse hist = FoundNothing hist
Knows actors.Record hist = FoundNothing hist

waits_on : (o : _) → Wait o ≢ Did
waits_on o e = cc

is_done : Done ≢ Did
is_done e = cc

-- a board's turn is the last that it took, also where a reset is to be worked behind it, or an epoch has begun
said_added : (t : Turn) (steps : List Step) (e : Epochs) → BoardSaid t (added t steps e)
said_added t steps (goes es h) = (steps ++ h, refl)
said_added t steps (resets es h w) = (steps ++ w, refl)

said_parted : (t : Turn) (steps : List Step) (e : Epochs) → BoardSaid t (parted (added t steps e))
said_parted t steps (goes es h) = (steps ++ h, refl)
said_parted t steps (resets es h w) = (steps ++ w, refl)

board_said : {N : ℕ} (t : Turn) (was is : Controller N) (e next : Epochs) → BoardTurned t was is e next → BoardSaid t next
board_said t was is e next turned = by_end turned.are
  where
    by_end : (next ≡ added t turned.steps e) ⊎ (next ≡ parted (added t turned.steps e)) → BoardSaid t next
    by_end (inl are) = subst (BoardSaid t) (sym are) (said_added t turned.steps e)
    by_end (inr are) = subst (BoardSaid t) (sym are) (said_parted t turned.steps e)

-- what is known of host and board stays so where another takes its turn
still_found : (hist done : History) → done.host ≡ hist.host → done.board ≡ hist.board → FoundNothing hist → FoundNothing done
still_found hist done host board found = record { board = rw board found.board; host = rw (host, board) found.host }

module _ {N : ℕ} (p : Pace) (between : Bool) (w mid : Seen N) (hist done : History) where
  -- the host's turn
  host_idles : (t : Turn) → t ≢ Did → actors.Host ≡ p.next → BoardIdles hist.board → Adds actors.Host t w mid hist done
      → Knows (cond p.worked (record p { next = actors.Board }) (to_motion p)).next done
  host_idles t idle is board adds = go p.worked
    where
      same : done.board ≡ hist.board
      same = ap (λ (h : History). h.board) adds.0

      go : (b : Bool) → Knows (cond b (record p { next = actors.Board }) (to_motion p)).next done
      go true = tt
      go false = record { board = rw same board; host = inl (t, idle, (adds.1.steps ++ hist.host, adds.1.are)) }

  by_host : (t : Turn) → actors.Host ≡ p.next → BoardIdles hist.board → Adds actors.Host t w mid hist done → Knows (after_turn actors.Host t between p).next done
  by_host Did is board adds =
      let same : done.board ≡ hist.board = ap (λ (h : History). h.board) adds.0 in
      subst (λ (a : Actor). Knows a done) is (rw same board)
  by_host (Wait o) is board adds = host_idles (Wait o) (waits_on o) is board adds
  by_host Done is board adds = host_idles Done is_done is board adds

  -- the board's
  board_idles : (t : Turn) → t ≢ Did → Adds actors.Board t w mid hist done → BoardIdles done.board
  board_idles t idle adds = (t, idle, board_said t w.board mid.board hist.board done.board adds.1)

  finds_no_byte : Adds actors.Board (Wait on.Byte) w mid hist done → Knows (after_turn actors.Board (Wait on.Byte) between p).next done
  finds_no_byte adds = go (nat_lt p.polls 3)
    where
      go : (b : Bool) → Knows (cond b (to_host (record p { polls = suc p.polls })) (to_motion p)).next done
      go true = board_idles (Wait on.Byte) (waits_on on.Byte) adds
      go false = record {
        board = board_idles (Wait on.Byte) (waits_on on.Byte) adds;
        host = inr (board_said (Wait on.Byte) w.board mid.board hist.board done.board adds.1);
      }

  by_board : (t : Turn) → actors.Board ≡ p.next → Adds actors.Board t w mid hist done → Knows (after_turn actors.Board t between p).next done
  by_board Did is adds = subst (λ (a : Actor). Knows a done) is tt
  by_board (Wait on.Byte) is adds = finds_no_byte adds
  by_board (Wait o) is adds = board_idles (Wait o) (waits_on o) adds
  by_board Done is adds = board_idles Done is_done adds

  -- the pulse's
  by_pulse : (t : Turn) → actors.Pulse ≡ p.next → FoundNothing done → Knows (after_turn actors.Pulse t between p).next done
  by_pulse Did is found = go between
    where
      go : (b : Bool) → Knows (cond b (record p { next = actors.Board }) p).next done
      go true = tt
      go false = subst (λ (a : Actor). Knows a done) is found
  by_pulse (Wait on.RecordRoom) is found = found
  by_pulse (Wait _) is found = found
  by_pulse Done is found = found

  -- the recorder's
  by_recorder : (t : Turn) → actors.Record ≡ p.next → FoundNothing done → Knows (after_turn actors.Record t between p).next done
  by_recorder Did is found = subst (λ (a : Actor). Knows a done) is found
  by_recorder (Wait o) is found = go p.full
    where
      go : (b : Bool) → Knows (cond b actors.Pulse actors.Board) done
      go true = found
      go false = tt
  by_recorder Done is found = go p.full
    where
      go : (b : Bool) → Knows (cond b actors.Pulse actors.Board) done
      go true = found
      go false = tt

  knows_next : (t : Turn) (actor : Actor) → actor ≡ p.next → Knows actor hist → Adds actor t w mid hist done → Knows (after_turn actor t between p).next done
  knows_next t actors.Host is known adds = by_host t is known adds
  knows_next t actors.Board is known adds = by_board t is adds
  knows_next t actors.Pulse is known adds =
      by_pulse t is (still_found hist done (ap (λ (h : History). h.host) adds.0) (ap (λ (h : History). h.board) adds.0) known)
  knows_next t actors.Record is known adds =
      by_recorder t is (still_found hist done (ap (λ (h : History). h.host) adds.0) (ap (λ (h : History). h.board) adds.0) known)

  pub knows_after : (t : Turn) → Knows p.next hist → Adds p.next t w mid hist done → Knows (pace_after t between p).next done
  knows_after t known adds = knows_next t p.next refl known adds

knows_on : {N : ℕ} (schedule : List Actor) (p q : Pace) (w w' : Seen N) (hist next : History) → Knows p.next hist → PacedTurns schedule p q w w' hist next → Knows q.next next
knows_on [] p q w w' hist next known same =
    subst (λ (r : Pace). Knows r.next next) (sym same.0) (subst (λ (h : History). Knows p.next h) (sym same.2) known)
knows_on (actor ∷ schedule) p q w w' hist next known turns =
    let adds = subst (λ (a : Actor). Adds a turns.0 w turns.2 hist turns.3) turns.4 turns.5 in
    knows_on schedule (pace_after turns.0 turns.1 p) q turns.2 w' turns.3 next (knows_after p turns.1 w turns.2 hist turns.3 turns.0 known adds) turns.8

pub motion_waits : {N : ℕ} (schedule : List Actor) (pace : Pace) (w w' : Seen N) (hist next : History) → PacedTurns schedule first_pace pace w w' hist next → pace.next ≡ actors.Pulse → FoundNothing next
motion_waits schedule pace w w' hist next turns is = subst (λ (a : Actor). Knows a next) is (knows_on schedule first_pace pace w w' hist next tt turns)
