-- What a turn makes of a pulse that hands out subticks.
use Rattle.std.proofs.Common.{◌≡◌, ◌∙◌, ℕ, ◌+◌, ◌^◌, Bool, true, false, cond, ◌==◌, List, [], ◌∷◌, ◌++◌, length, Option, Some, None, refl, sym, ap, subst, arith}
use Rattle.step_line.specs.declared.Piece.{Piece}
use Rattle.step_line.specs.declared.Piece.TheVariants as pieces
use Rattle.step_line.specs.declared.Record.{Record}
use Rattle.step_line.specs.declared.Record.TheVariants as kinds
use Rattle.step_line.specs.declared.Bits.{Bits}
use Rattle.step_line.specs.Logs.{NewestFirst}
use Rattle.pulse_engine.specs.Logs.{PieceLog, RecordLog}
use Rattle.pulse_engine.specs.Logs.PieceEvent.{asked}
use Rattle.pulse_engine.specs.Logs.RecordEvent.{put, full}
use Rattle.step_line.specs.Tracing.{Trace}
use Rattle.std.specs.Option.{option_to_list}
use Rattle.pulse_engine.specs.Steps.{Pulsing, IsFirst, pulsing, coming, gone}
use Rattle.pulse_engine.specs.Turns.{PulseFits}
use Rattle.pulse_engine.proofs.Moves.{fits_asked}
use Rattle.std.proofs.lemmas.Bool.Decides.{nat_tests}
use Rattle.smooth_step.specs.Subticks.{subticks_of}
use Rattle.smooth_step.proofs.Parting.{subtick_count}
use Rattle.smooth_step.specs.Counts.{level_in, is_event, is_held, fresh_in, subticks_in, subticks_held, IsHeldAt, AreLeftAt, LosesNone}
use Rattle.smooth_step.specs.Pulses.{SmoothPulsing, pulse_of, SmoothFits, HasLevel, level_behind, made_between}

pub smooth_asked : (p : SmoothPulsing) (b : Bool) (h : PieceLog) (k : RecordLog) → SmoothFits p h k → SmoothFits p (asked b ∷ h) k
smooth_asked p b h k f = record { pulse = fits_asked (pulse_of p) b h k f.pulse; level = f.level; left = f.left; whole = f.whole }

pub level_got : (x : Piece) (ps : NewestFirst Piece) (was now : ℕ) → now ≡ level_behind was x → HasLevel (x ∷ ps) now
level_got (pieces.Segment s) ps was now e = e
level_got (pieces.Mark m) ps was now e = tt
level_got pieces.End ps was now e = tt

-- ---- the count of subticks

-- the same of a pulse that is seen so
pub left_seen : (q p : SmoothPulsing) (k : RecordLog) → q ≡ p → AreLeftAt p.hand p.left p.level k → AreLeftAt q.hand q.left q.level k
left_seen q p k e left = subst (λ (s : SmoothPulsing). AreLeftAt s.hand s.left s.level k) (sym e) left

-- a record in hand is no event that is new
pub held_again : (r : Record) (level : ℕ) (k : RecordLog) → IsHeldAt r level k → fresh_in r k ≡ 0
held_again (kinds.Head h) level k held = refl
held_again (kinds.Event b) level k held = ap (λ (tried : Bool). cond tried 0 (2 ^ level_in k)) held.0
held_again (kinds.Mark m) level k held = refl
held_again kinds.End level k held = refl

-- it was put
pub left_behind : (r : Record) (left level : ℕ) (k : RecordLog) → IsFirst r left → IsHeldAt r level k → AreLeftAt None left level (put r ∷ k)
left_behind (kinds.Head h) left level k first held = λ some. (refl, held)
left_behind (kinds.Event b) left level k first held = λ some. (refl, held.1)
left_behind (kinds.Mark m) left level k first held = λ some. absurd (let none = first.1 in omega (arith, some, none))
left_behind kinds.End left level k first held = λ some. absurd (omega (arith, some, first))

-- it was handed back
pub held_back : (r : Record) (level : ℕ) (k : RecordLog) → IsHeldAt r level k → IsHeldAt r level (full r ∷ k)
held_back (kinds.Head h) level k held = held
held_back (kinds.Event b) level k held = (refl, held.1)
held_back (kinds.Mark m) level k held = tt
held_back kinds.End level k held = tt

is_next : (n m : ℕ) → n ≡ m → (n == m) ≡ true
is_next n m e = grind (arith, nat_tests)

is_not_next : (n m : ℕ) → n ≡ m → (n == m + 1) ≡ false
is_not_next n m e = grind (arith, nat_tests)

-- no event is made
pub none_made : (level : ℕ) (t u : Trace) (k k' : RecordLog) → u.done ≡ t.done → subticks_in k' ≡ subticks_in k → subticks_in k' ≡ subticks_in k + length (made_between level t u)
none_made level t u k k' e same =
    let zero : length (made_between level t u) ≡ 0 = ap (λ (b : Bool). length (cond b (subticks_of t.mv level (t.done + 1)) [])) (is_not_next u.done t.done e) in
    omega (arith, same, zero)

pub none_handed : (k : RecordLog) (bits : List Bits) → bits ≡ [] → subticks_in k ≡ subticks_in k + length bits
none_handed k bits none = let zero : length bits ≡ 0 = ap length none in omega (arith, zero)

-- a record in hand is tried
pub tried_again : (r : Record) (level : ℕ) (k : RecordLog) → IsHeldAt r level k → subticks_in k + fresh_in r k ≡ subticks_in k
tried_again r level k held = let zero = held_again r level k held in omega (arith, zero)

-- an event is made, and tried for the first time
pub one_made : (level : ℕ) (t u : Trace) (k : RecordLog) (b : Bits) → u.done ≡ t.done + 1 → (is_held k ≡ false) × (level_in k ≡ level)
    → subticks_in k + fresh_in (kinds.Event b) k ≡ subticks_in k + length (made_between level t u)
one_made level t u k b e new =
    ap (λ (tried : Bool). subticks_in k + cond tried 0 (2 ^ level_in k)) new.0
    ∙ ap (λ (l : ℕ). subticks_in k + 2 ^ l) new.1
    ∙ ap (λ (n : ℕ). subticks_in k + n) (sym (subtick_count t.mv level t.done))
    ∙ ap (λ (b : Bool). subticks_in k + length (cond b (subticks_of t.mv level (t.done + 1)) [])) (sym (is_next u.done (t.done + 1) e))

-- ---- no event is lost

-- so many subticks has the event in hand
pub held_is : (tried : Bool) (k : RecordLog) → is_held k ≡ tried → subticks_held k ≡ cond tried (2 ^ level_in k) 0
held_is tried k e = ap (λ (b : Bool). cond b (2 ^ level_in k) 0) e

-- the record in hand is put
pub none_lost : (r : Record) (level : ℕ) (k : RecordLog) → IsHeldAt r level k → LosesNone (Some r) k → LosesNone None (put r ∷ k)
none_lost r level k held w =
    let again = held_again r level k held in
    let one = held_is (is_event r) k w.held in
    record { held = refl; sum = omega (arith, w.sum, again, one) }

-- it is handed back again
pub none_lost_again : (r : Record) (level : ℕ) (k : RecordLog) → IsHeldAt r level k → LosesNone (Some r) k → LosesNone (Some r) (full r ∷ k)
none_lost_again r level k held w =
    let again = held_again r level k held in
    let one = held_is (is_event r) k w.held in
    record { held = refl; sum = omega (arith, w.sum, again, one) }

fresh_is : (b : Bits) (k : RecordLog) → is_held k ≡ false → fresh_in (kinds.Event b) k ≡ 2 ^ level_in k
fresh_is b k new = ap (λ (tried : Bool). cond tried 0 (2 ^ level_in k)) new

-- an event that is made is put
pub made_put : (b : Bits) (k : RecordLog) → LosesNone None k → LosesNone None (put (kinds.Event b) ∷ k)
made_put b k w =
    let fresh = fresh_is b k w.held in
    let none = held_is false k w.held in
    record { held = refl; sum = omega (arith, w.sum, fresh, none) }

-- it is handed back
pub made_held : (b : Bits) (k : RecordLog) → LosesNone None k → LosesNone (Some (kinds.Event b)) (full (kinds.Event b) ∷ k)
made_held b k w =
    let fresh = fresh_is b k w.held in
    let none = held_is false k w.held in
    record { held = refl; sum = omega (arith, w.sum, fresh, none) }

-- a piece is begun, whose first record is no event
pub none_lost_between : (r : Record) (k : RecordLog) → is_event r ≡ false → LosesNone None k → LosesNone (Some r) k
none_lost_between r k kind w = record { held = w.held ∙ sym kind; sum = w.sum }

-- the same of a pulse that is seen so, with this in hand
pub none_lost_seen : (q p : SmoothPulsing) (hand : Option Record) (k : RecordLog) → q ≡ p → q.hand ≡ hand → LosesNone p.hand k → LosesNone hand k
none_lost_seen q p hand k e is w = subst (λ (o : Option Record). LosesNone o k) (sym (ap (λ (s : SmoothPulsing). s.hand) e) ∙ is) w

-- ---- there is no room

-- what callers see is as before
pub same_pulse : (hand hand' : Option Record) (t t' : Trace) (n n' : ℕ) (owes over : Bool) → option_to_list hand' ++ coming t' n' ≡ option_to_list hand ++ coming t n → gone t' n' ≡ gone t n
    → pulsing hand' t' n' owes over ≡ pulsing hand t n owes over
same_pulse hand hand' t t' n n' owes over waiting reached = λ i. record { waiting = waiting i; owes = owes; over = over; reached = reached i }

pub fits_full : (p q : Pulsing) (h : PieceLog) (k : RecordLog) (r : Record) → q ≡ p → PulseFits p h k → PulseFits q h (full r ∷ k)
fits_full p q h k r same f =
    subst (λ (x : Pulsing). PulseFits x h (full r ∷ k)) (sym same)
    (record { turns = f.turns; records = f.records; waits = f.waits; ticks = f.ticks; left = f.left; reach = f.reach; end = f.end; last = f.last })
