-- The subticks of the events that were put are those of their heads.
use Rattle.std.proofs.Common.{◌≡◌, ◌∙◌, ℕ, ◌+◌, ◌*◌, ◌^◌, false, cond, List, [], ◌∷◌, ◌++◌, length, map, Option, None, Some, refl, sym, ap, arith}
use Rattle.step_line.specs.declared.Bits.{Bits}
use Rattle.step_line.specs.declared.Piece.{Piece}
use Rattle.step_line.specs.declared.Piece.TheVariants as pieces
use Rattle.step_line.specs.declared.Record.{Record}
use Rattle.step_line.specs.declared.Record.TheVariants as kinds
use Rattle.step_line.specs.Events.{events_after}
use Rattle.step_line.specs.Logs.{NewestFirst}
use Rattle.step_line.specs.Ordering.{recorded}
use Rattle.step_line.specs.Pieces.{records_of}
use Rattle.step_line.proofs.Order.{length_after}
use Rattle.pulse_engine.specs.Logs.{PieceLog, RecordLog, pieces_of, halts_of, records_put}
use Rattle.pulse_engine.specs.Logs.RecordEvent.{put, full}
use Rattle.pulse_engine.proofs.Moves.{hand_is_empty}
use Rattle.pulse_engine.proofs.Whole.{whole_put, never_halted}
use Rattle.smooth_step.specs.Subticks.{level_of}
use Rattle.smooth_step.specs.Counts.{level_after, level_in, is_event, subticks_in, subticks_put, subticks_of_heads, LosesNone}
use Rattle.smooth_step.specs.Pulses.{SmoothPulsing, SmoothFits, pulse_of}
use Rattle.smooth_step.proofs.Pulsed.{held_is}

-- the subticks of the events among some records, where the level before them is this one; and the level behind them
abbrev by_events : ℕ → List Record → ℕ
by_events level [] = 0
by_events level (r ∷ rs) = cond (is_event r) (2 ^ level) 0 + by_events (level_after r level) rs

abbrev level_behind : ℕ → List Record → ℕ
level_behind level [] = level
level_behind level (r ∷ rs) = level_behind (level_after r level) rs

both_levels : (level : ℕ) (rs ss : List Record) → level_behind level (rs ++ ss) ≡ level_behind (level_behind level rs) ss
both_levels level [] ss = refl
both_levels level (r ∷ rs) ss = both_levels (level_after r level) rs ss

both_counts : (level : ℕ) (rs ss : List Record) → by_events level (rs ++ ss) ≡ by_events level rs + by_events (level_behind level rs) ss
both_counts level [] ss = omega arith
both_counts level (r ∷ rs) ss = omega (arith, both_counts (level_after r level) rs ss)

pub both_heads : (rs ss : List Record) → subticks_of_heads (rs ++ ss) ≡ subticks_of_heads rs + subticks_of_heads ss
both_heads [] ss = omega arith
both_heads (kinds.Head h ∷ rs) ss = omega (arith, both_heads rs ss)
both_heads (kinds.Event b ∷ rs) ss = both_heads rs ss
both_heads (kinds.Mark m ∷ rs) ss = both_heads rs ss
both_heads (kinds.End ∷ rs) ss = both_heads rs ss

-- by the log, or by the list of the records that were put
level_put : (k : RecordLog) → level_in k ≡ level_behind 0 (records_put k)
level_put [] = refl
level_put (put r ∷ k) = ap (level_after r) (level_put k) ∙ sym (both_levels 0 (records_put k) (r ∷ []))
level_put (full r ∷ k) = level_put k

events_put : (k : RecordLog) → subticks_put k ≡ by_events 0 (records_put k)
events_put [] = refl
events_put (put r ∷ k) =
    let both = both_counts 0 (records_put k) (r ∷ []) in
    let before = events_put k in
    let one = ap (λ (level : ℕ). cond (is_event r) (2 ^ level) 0) (level_put k) in
    omega (arith, both, before, one)
events_put (full r ∷ k) = events_put k

-- ---- pieces: a head has its events behind it

events_alone : (level : ℕ) (bits : List Bits) → by_events level (map kinds.Event bits) ≡ length bits * 2 ^ level
events_alone level [] = omega arith
events_alone level (b ∷ bits) = grind (arith, events_alone level bits)

pub no_heads : (bits : List Bits) → subticks_of_heads (map kinds.Event bits) ≡ 0
no_heads [] = refl
no_heads (b ∷ bits) = no_heads bits

piece_heads : (level : ℕ) (p : Piece) → by_events level (records_of p) ≡ subticks_of_heads (records_of p)
piece_heads level (pieces.Segment s) =
    let bits = events_after s.mv s.first s.n in
    let events = events_alone (level_of s.cycles) bits ∙ ap (λ (n : ℕ). n * 2 ^ level_of s.cycles) (length_after s.mv s.first s.n) in
    let none = no_heads bits in
    omega (arith, events, none)
piece_heads level (pieces.Mark m) = refl
piece_heads level pieces.End = refl

pieces_heads : (level : ℕ) (ps : NewestFirst Piece) → by_events level (recorded ps) ≡ subticks_of_heads (recorded ps)
pieces_heads level [] = refl
pieces_heads level (p ∷ before) =
    let events = both_counts level (recorded before) (records_of p) in
    let heads = both_heads (recorded before) (records_of p) in
    let early = pieces_heads level before in
    let last = piece_heads (level_behind level (recorded before)) p in
    omega (arith, events, heads, early, last)

-- ---- a pulse that was not halted, and has nothing to put

no_hand : (hand : Option Record) (k : RecordLog) → hand ≡ None → LosesNone hand k → subticks_in k ≡ subticks_put k
no_hand None k none w = let held = held_is false k w.held in omega (arith, w.sum, held)
no_hand (Some r) k none w = absurd cc

pub of_heads : (p : SmoothPulsing) (h : PieceLog) (k : RecordLog) → SmoothFits p h k → halts_of h ≡ [] → (pulse_of p).waiting ≡ [] → subticks_in k ≡ subticks_of_heads (records_put k)
of_heads p h k fits unhalted nothing =
    let all : records_put k ≡ recorded (pieces_of h) = never_halted h (records_put k) unhalted (whole_put (pulse_of p) h k fits.pulse nothing) in
    no_hand p.hand k (hand_is_empty p.hand p.traced p.left nothing).0 (fits.whole unhalted)
    ∙ events_put k ∙ ap (by_events 0) all ∙ pieces_heads 0 (pieces_of h) ∙ sym (ap subticks_of_heads all)
