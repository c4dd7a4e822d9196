-- The order of turns in a paced run.
use Rattle.std.specs.Prelude.{◌≡◌, ◌≢◌, ◌↔◌, ◌⊎◌, suc, Bool, true, false, cond, nat_lt, List, [], ◌∷◌, ℕ}
use Rattle.outside.specs.declared.Actor.{Actor}
use Rattle.outside.specs.declared.Actor.TheVariants as actors
use Rattle.outside.specs.declared.Turn.{Turn}
use Rattle.outside.specs.declared.Turn.TheVariants.{Did, Wait, Done}
use Rattle.outside.specs.declared.On.TheVariants as on
use Rattle.host_journal.specs.Steps.{Journal as HostJournal}
use Rattle.host_journal.specs.Steps.Step.{turned as host_turned}
use Rattle.board_journal.specs.Steps.{Journal}
use Rattle.board_journal.specs.Steps.Step.{turned as board_turned}
use Rattle.board_epochs.specs.Epochs.{Epochs}
use Rattle.board_epochs.specs.Epochs.Epochs.{goes, resets}
use Rattle.pulse_engine.specs.Steps.{AwaitsPiece}
use Rattle.motion_pulse.specs.Pulses.{seen_of}
use Rattle.step_record.specs.declared.forms.Form.{Form}
use Rattle.actor_turns.specs.Worlds.{Seen, History, Devices, Holds, Stands, Adds}
use Rattle.actor_turns.specs.declared.pacing.Pace.{Pace}

-- The first turn is the board's: it tells the banner.
abbrev pub first_pace : Pace
first_pace = record { next = actors.Board; worked = false; full = false; polls = 0 }

-- the motion is next
abbrev pub to_motion : Pace → Pace
to_motion p = record p { next = actors.Pulse; polls = 0 }

-- The host goes on while it does something. Then the board is next, or, where the host did nothing since the board's last turn,
-- the motion: both have found that they can only wait.
abbrev pub after_host : Turn → Pace → Pace
after_host Did p = record p { worked = true }
after_host (Wait o) p = cond p.worked (record p { next = actors.Board }) (to_motion p)
after_host Done p = cond p.worked (record p { next = actors.Board }) (to_motion p)

-- the host is next
abbrev pub to_host : Pace → Pace
to_host p = record p { next = actors.Host; worked = false }

-- The board goes on while it does something. Then the host is next. Where the board finds no byte for the fourth time since the
-- motion went on, that is next: so a sender that waits for it is served, though it keeps the host at work.
abbrev pub after_board : Turn → Pace → Pace
after_board Did p = p
after_board (Wait on.Byte) p = cond (nat_lt p.polls 3) (to_host (record p { polls = suc p.polls })) (to_motion p)
after_board (Wait _) p = to_host p
after_board Done p = to_host p

-- the recorder is next; behind it the pulse goes on where it waits for room
abbrev pub to_recorder : Bool → Pace → Pace
to_recorder full p = record p { next = actors.Record; full = full }

-- The pulse goes on until it is between two pieces; then the board is next. Where it waits, or is done, the recorder is.
abbrev pub after_pulse : Turn → Bool → Pace → Pace
after_pulse Did between p = cond between (record p { next = actors.Board }) p
after_pulse (Wait on.RecordRoom) between p = to_recorder true p
after_pulse (Wait _) between p = to_recorder false p
after_pulse Done between p = to_recorder false p

-- the recorder goes on while it does something
abbrev pub after_recorder : Turn → Pace → Pace
after_recorder Did p = p
after_recorder (Wait o) p = record p { next = cond p.full actors.Pulse actors.Board }
after_recorder Done p = record p { next = cond p.full actors.Pulse actors.Board }

-- what an actor's answer makes of the pace
abbrev pub after_turn : Actor → Turn → Bool → Pace → Pace
after_turn actors.Host t between p = after_host t p
after_turn actors.Board t between p = after_board t p
after_turn actors.Pulse t between p = after_pulse t between p
after_turn actors.Record t between p = after_recorder t p

-- whose turn is next, by what the actor answered whose turn it was, and whether the pulse is between two pieces
abbrev pub pace_after : Turn → Bool → Pace → Pace
pace_after t between p = after_turn p.next t between p

-- ---- paced turns, one after the other

-- Each turn is that of the actor whose turn is next by all that was answered before. Between two turns the world stands for what
-- was done.
abbrev pub PacedTurns : {N : ℕ} → List Actor → Pace → Pace → Seen N → Seen N → History → History → Type 0
PacedTurns [] p p' w w' hist next = (p' ≡ p) × (w' ≡ w) × (next ≡ hist)
PacedTurns {N} (actor ∷ schedule) p p' w w' hist next =
    (t : Turn) × (between : Bool) × (mid : Seen N) × (done : History) × (actor ≡ p.next) × Adds actor t w mid hist done × Holds mid done
    × ((between ≡ true) ↔ AwaitsPiece (seen_of mid.pulse)) × PacedTurns schedule (pace_after t between p) p' mid w' done next

-- so far, up to this pace: whatever was done before, and since whatever moment, there is what was done after the turns
pub record IsPaced {N : ℕ} (pace : Pace) (before after : Devices) (w w' : Seen N) : Type 0 where
  pub schedule : List Actor
  pub on : (form : Form) (was : Devices) (hist : History) → Stands form was before w hist → (next : History) × Stands form was after w' next × PacedTurns schedule first_pace pace w w' hist next

-- paced turns, as many as there were
pub record RunsPaced {N : ℕ} (before after : Devices) (w w' : Seen N) : Type 0 where
  pub pace : Pace
  pub paced : IsPaced pace before after w w'

-- ---- what is known where the motion goes on

-- the last turn of a host answered so
abbrev pub HostSaid : Turn → HostJournal → Type 0
HostSaid t h = (rest : HostJournal) × (h ≡ host_turned t ∷ rest)

-- what the last turn of a board was added to: the journal of an epoch, or of the work of a reset, also where this ended with it, so
-- that a reset is to be worked now, or the next epoch has begun
abbrev pub turned_last : Epochs → Journal
turned_last (goes [] []) = []
turned_last (goes (e ∷ es) []) = e.work
turned_last (goes es (s ∷ h)) = s ∷ h
turned_last (resets es h []) = h
turned_last (resets es h (s ∷ w)) = s ∷ w

-- the last turn of a board answered so
abbrev pub BoardSaid : Turn → Epochs → Type 0
BoardSaid t e = (rest : Journal) × (turned_last e ≡ board_turned t ∷ rest)

-- a board waits, or is done
abbrev pub BoardIdles : Epochs → Type 0
BoardIdles e = (t : Turn) × (t ≢ Did) × BoardSaid t e

abbrev pub HostIdles : HostJournal → Type 0
HostIdles h = (t : Turn) × (t ≢ Did) × HostSaid t h

-- The board found nothing to do in its last turn, and neither did the host, or the board found no byte.
pub record FoundNothing (hist : History) : Type 0 where
  pub board : BoardIdles hist.board
  pub host : HostIdles hist.host ⊎ BoardSaid (Wait on.Byte) hist.board
