-- The states of the motion, and what changes them.
use Rattle.std.specs.Prelude.{◌≡◌, ◌⊎◌, ℕ, ◌==◌, Bool, true, false, ◌&&◌, not, if◌then◌else◌, Some, None}
use Rattle.std.specs.declared.option.Option.{Option}
use Rattle.code_table.specs.declared.flags.Exec.{Exec}
use Rattle.code_table.specs.Flags.{exec_bits, has_flag}
use Rattle.feed_hold.specs.declared.Motion.{Motion}
use Rattle.feed_hold.specs.declared.Motion.TheVariants.{Idle, Run, Holding, Held, Jog, Cancelling, Stopping, Alarm}

-- What becomes of one state: by `!`, by 0x85, by `~` with blocks queued and with none; when a move starts, and when a
-- jog does; at a limit; at a pause; once the motion has stopped; and once it has run out
pub record Row : Type 0 where
  pub held : Motion
  pub cancelled : Motion
  pub resumed : Motion
  pub resumed_empty : Motion
  pub moved : Option Motion
  pub jogged : Option Motion
  pub limited : Option Motion
  pub paused : Option Motion
  pub stopped : Option Motion
  pub drained : Option Motion

abbrev pub row : (held cancelled resumed resumed_empty : Motion) (moved jogged limited paused stopped drained : Option Motion) → Row
row held cancelled resumed resumed_empty moved jogged limited paused stopped drained = record {
  held = held;
  cancelled = cancelled;
  resumed = resumed;
  resumed_empty = resumed_empty;
  moved = moved;
  jogged = jogged;
  limited = limited;
  paused = paused;
  stopped = stopped;
  drained = drained;
}

-- a state that a call leads to, and a place of the table that is empty: its call never comes in that state
abbrev pub to : Motion → Option Motion
to motion = Some motion

abbrev pub never : Option Motion
never = None

-- The table, a row for each state. Its columns are
-- !  0x85  ~ with blocks  ~ without  a move starts  a jog starts  limit  pause  stopped  drained
abbrev pub becomes : Motion → Row
becomes Idle = row Held Idle Run Idle (to Run) (to Jog) (to Alarm) (to Held) never (to Idle)
becomes Run = row Holding Run Run Run (to Run) (to Run) (to Stopping) never never (to Idle)
becomes Holding = row Holding Holding Holding Holding never never never never (to Held) never
becomes Held = row Held Held Run Idle never never never never never never
becomes Jog = row Cancelling Cancelling Jog Jog (to Jog) (to Jog) never never never (to Idle)
becomes Cancelling = row Cancelling Cancelling Cancelling Cancelling never never never never (to Idle) never
becomes Stopping = row Stopping Stopping Stopping Stopping never never never never (to Alarm) never
becomes Alarm = row Alarm Alarm Alarm Alarm never never never never never never

-- the realtime bytes that a word of requests is read for
abbrev pub hold_byte : ℕ
hold_byte = 0x21

abbrev pub start_byte : ℕ
start_byte = 0x7e

abbrev pub cancel_byte : ℕ
cancel_byte = 0x85

-- whether a word holds the request that a byte raises
abbrev pub asks : Exec → ℕ → Bool
asks word byte = has_flag (exec_bits word) byte

-- each request is applied to the state that the one before left
abbrev pub after_hold : Bool → Motion → Motion
after_hold asked motion = if asked then (becomes motion).held else motion

abbrev pub after_cancel : Bool → Motion → Motion
after_cancel asked motion = if asked then (becomes motion).cancelled else motion

abbrev pub after_start : Bool → Bool → Motion → Motion
after_start asked queued motion = if asked then (if queued then (becomes motion).resumed else (becomes motion).resumed_empty) else motion

-- hold, then cancel, then start; a start has no effect in a word with a hold
abbrev pub after_requests : (hold cancel start queued : Bool) → Motion → Motion
after_requests hold cancel start queued motion = after_start (start && not hold) queued (after_cancel cancel (after_hold hold motion))

-- what a word of requests makes of a state, with blocks queued or none
abbrev pub after_word : Exec → Bool → Motion → Motion
after_word word queued motion = after_requests (asks word hold_byte) (asks word cancel_byte) (asks word start_byte) queued motion

-- what happens to the motion
pub data Call : Type 0 where
  on_exec : Exec → Bool → Call
  on_start : Bool → Call
  on_limit : Call
  on_pause : Call
  on_stopped : Call
  on_drained : Call
  on_unlock : Call

-- a line unlocks a machine that is in alarm
abbrev pub unlocked : Motion → Option Motion
unlocked Alarm = to Idle
unlocked _ = never

-- the state after a call, if the table has one
abbrev pub after : Call → Motion → Option Motion
after (on_exec word queued) motion = Some (after_word word queued motion)
after (on_start jog) motion = if jog then (becomes motion).jogged else (becomes motion).moved
after on_limit motion = (becomes motion).limited
after on_pause motion = (becomes motion).paused
after on_stopped motion = (becomes motion).stopped
after on_drained motion = (becomes motion).drained
after on_unlock motion = unlocked motion

-- of hold, cancel and start, a word asks for what one byte asks for
pub record AsksOnly (byte : ℕ) (word : Exec) : Type 0 where
  pub hold : asks word hold_byte ≡ (byte == hold_byte)
  pub cancel : asks word cancel_byte ≡ (byte == cancel_byte)
  pub start : asks word start_byte ≡ (byte == start_byte)

-- the motion is slowing down to a stop
abbrev pub is_stopping : Motion → Bool
is_stopping Holding = true
is_stopping Cancelling = true
is_stopping Stopping = true
is_stopping _ = false

-- The machine moves by lines or jogs, or slows down for a hold or a cancel: where it is halted at once, its place is not sure.
abbrev pub is_moving : Motion → Bool
is_moving Run = true
is_moving Holding = true
is_moving Jog = true
is_moving Cancelling = true
is_moving _ = false

-- what a reset makes of a state: a machine that moved is locked, and one in alarm stays so
abbrev pub behind_reset : Motion → Motion
behind_reset Idle = Idle
behind_reset Held = Idle
behind_reset _ = Alarm

-- moves or jogs are carried out
abbrev pub is_going : Motion → Bool
is_going Run = true
is_going Jog = true
is_going _ = false

-- the motion is held, or slows down for that, or its jogs were cancelled
abbrev pub is_halting : Motion → Bool
is_halting Holding = true
is_halting Held = true
is_halting Cancelling = true
is_halting _ = false

-- a soft limit stops it, or has stopped it
abbrev pub is_limited : Motion → Bool
is_limited Stopping = true
is_limited Alarm = true
is_limited _ = false

-- a word with this request came
abbrev pub IsBy : ℕ → Call → Type 0
IsBy byte call = (word : Exec) × (queued : Bool) × (call ≡ on_exec word queued) × (asks word byte ≡ true)

-- a word with a start and without a hold came, while blocks were queued or none was
abbrev pub IsByStart : Bool → Call → Type 0
IsByStart queued call = (word : Exec) × (call ≡ on_exec word queued) × (asks word start_byte ≡ true) × (asks word hold_byte ≡ false)

-- how each state is reached from another
abbrev pub Reached : Motion → Call → Motion → Type 0
Reached Idle call was = ((was ≡ Held) × IsByStart false call) ⊎ (((was ≡ Run) ⊎ (was ≡ Jog)) × (call ≡ on_drained)) ⊎ ((was ≡ Cancelling) × (call ≡ on_stopped)) ⊎ ((was ≡ Alarm) × (call ≡ on_unlock))
Reached Run call was = (((was ≡ Idle) ⊎ (was ≡ Held)) × IsByStart true call) ⊎ ((was ≡ Idle) × (call ≡ on_start false))
Reached Holding call was = (was ≡ Run) × IsBy hold_byte call
Reached Held call was = ((was ≡ Idle) × (IsBy hold_byte call ⊎ (call ≡ on_pause))) ⊎ ((was ≡ Holding) × (call ≡ on_stopped))
Reached Jog call was = (was ≡ Idle) × (call ≡ on_start true)
Reached Cancelling call was = (was ≡ Jog) × (IsBy hold_byte call ⊎ IsBy cancel_byte call)
Reached Stopping call was = (was ≡ Run) × (call ≡ on_limit)
Reached Alarm call was = ((was ≡ Idle) × (call ≡ on_limit)) ⊎ ((was ≡ Stopping) × (call ≡ on_stopped))
