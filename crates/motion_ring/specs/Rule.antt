-- The rule of the ring, and what each step tells.
-- One word counts the pieces published, another the ticks that are done, a third the pieces published at the last stop, the
-- fourth those passed at the last halt. Piece k has the slot k % 6.
use Rattle.std.specs.Prelude.{◌≡◌, ℕ, suc, zero, ◌+◌, ◌-◌, ◌%◌, ◌^◌, ◌<◌, ◌≤◌, ◌⊎◌, Bool, true, false, List, [], ◌∷◌, ◌++◌, length, map, drop, slice_index, Some, None}
use Rattle.std.specs.declared.option.Option.{Option}
use Rattle.units.specs.Truths.{one_if}
use mathlib.Core.Option as maybe
use Rattle.atomic_table.specs.Table.{State, Me, Step}
use Rattle.atomic_table.specs.Seated.{TableId}
use Rattle.shared_rings.specs.Rights.{Sole}
use Rattle.shared_rings.specs.Shelf.{Shelf}
use Rattle.step_line.specs.declared.Piece.{Piece}
use Rattle.step_line.specs.Logs.{NewestFirst}
use Rattle.step_line.specs.Ordering.{ComesNext, InTurn, has_ended}
use Rattle.step_line.specs.Finishing.{tick_count, ticks_together, most_unfinished}
use Rattle.motion_ring.specs.declared.lists.Halt.{Halt}
use Rattle.motion_ring.specs.declared.lists.Sent.{Sent}
use Rattle.motion_ring.specs.declared.lists.Taken.{Taken}
use Rattle.motion_ring.specs.declared.view.MotionSight.{MotionSight}
use Rattle.motion_ring.specs.Ticks.{slots, head_word, done_word, stop_word, halted_word, all_words, unfinished_of}
use Rattle.motion_ring.specs.Sides.{published_in, ticks_at, last_stop, ticks_published, room_from, with_piece, with_stop, with_halt, halt_of, piece_of, all_passed, AreFates, passed_in, with_got, with_tick, halted_with, HaltsAt, some_stops, some_halts, pieces_at}

-- what the seat that publishes knows
pub record Publishes (sent : Sent) (filling : Bool) (done : ℕ) (v : MotionSight) : Type 0 where
  pub sent_is : v.sent ≡ sent
  pub filling_is : v.filling ≡ filling
  pub known_is : v.known ≤ done

-- what the seat that gets knows; a stop that it saw is the last one until it has halted
pub record Gets (taken : Taken) (dropping : NewestFirst Piece) (busy : Bool) (stop : ℕ) (v : MotionSight) : Type 0 where
  pub taken_is : v.taken ≡ taken
  pub dropping_is : v.dropping ≡ dropping
  pub busy_is : v.busy ≡ busy
  pub asked_is : (v.asked ≤ length taken.past) ⊎ (v.asked ≡ stop)

pub record AreWords (words : List ℕ) (sent : Sent) (taken : Taken) : Type 0 where
  pub wide : length words ≡ all_words
  pub head : slice_index words head_word ≡ length (published_in sent)
  pub done : slice_index words done_word ≡ taken.counted
  pub stop : slice_index words stop_word ≡ last_stop sent.stops
  pub halted : slice_index words halted_word ≡ length taken.past

-- no halt is stored that was not seen: both sides agree on what was passed up to the last one
pub record IsGoing (sent : Sent) (taken : Taken) (dropping rest : NewestFirst Piece) : Type 0 where
  pub older_is : sent.older ≡ map piece_of taken.past
  pub since_is : sent.since ≡ rest ++ (dropping ++ taken.fresh)
  pub base : ticks_at sent.halts ≡ all_passed taken.past
  pub loads : some_halts sent.halts ≡ taken.halts

pub record IsRunning (sent : Sent) (taken : Taken) (dropping rest : NewestFirst Piece) : Type 0 where
  pub going : IsGoing sent taken dropping rest
  pub none_waits : sent.waits ≡ false
  pub even : last_stop sent.stops ≡ length taken.past
  pub none_dropped : dropping ≡ []
  pub asks : some_stops sent.stops ≡ map pieces_at taken.halts

-- a stop is stored, and its halt is not
pub record IsStopping (sent : Sent) (taken : Taken) (dropping rest : NewestFirst Piece) : Type 0 where
  pub going : IsGoing sent taken dropping rest
  pub one_waits : sent.waits ≡ true
  pub above : length taken.past < last_stop sent.stops
  pub at_head : last_stop sent.stops ≡ length (published_in sent)
  pub asks : some_stops sent.stops ≡ last_stop sent.stops ∷ map pieces_at taken.halts

-- a halt is stored that was not seen: every piece is finished
pub record IsHalted (sent : Sent) (taken : Taken) (dropping : NewestFirst Piece) : Type 0 where
  pub one_waits : sent.waits ≡ true
  pub even : last_stop sent.stops ≡ length taken.past
  pub at_head : last_stop sent.stops ≡ length (published_in sent)
  pub none_fresh : taken.fresh ≡ []
  pub none_dropped : dropping ≡ []
  pub within : taken.counted ≤ ticks_published sent
  pub late : ticks_at sent.halts + ticks_together (drop 5 sent.since) ≤ taken.counted
  pub loads : some_halts (halt_of sent taken.counted ∷ sent.halts) ≡ taken.halts
  pub asks : some_stops sent.stops ≡ map pieces_at taken.halts

abbrev pub Phase : Sent → Taken → (dropping rest : NewestFirst Piece) → Type 0
Phase sent taken dropping rest = IsRunning sent taken dropping rest ⊎ (IsStopping sent taken dropping rest ⊎ IsHalted sent taken dropping)

-- The pieces, the ticks and the slots.
pub record Flows (homes : List (maybe.Option (Option Piece))) (sent : Sent) (taken : Taken) (dropping : NewestFirst Piece) (finished : ℕ) (filling busy : Bool) : Type 0 where
  -- the pieces got or dropped are the first of those published
  pub rest : NewestFirst Piece
  pub fifo : published_in sent ≡ rest ++ (dropping ++ passed_in taken)
  pub turns : InTurn sent.since
  pub ended : has_ended sent.older ≡ true → sent.since ≡ []
  -- a piece that a halt cut is cut after some of its ticks
  pub cuts : AreFates taken.past
  pub marks : HaltsAt taken.halts taken.past
  -- every piece published and not taken is in its slot
  pub shelf : Shelf slots homes (published_in sent) (dropping ++ passed_in taken) finished filling
  -- the piece that was got last is unfinished while its slot is out
  pub held : length (passed_in taken) ≡ finished + one_if busy
  -- at most five pieces are unfinished
  pub few : length (published_in sent) ≤ finished + most_unfinished
  pub room : filling ≡ true → length (published_in sent) < finished + most_unfinished
  pub short : ticks_published sent < 2 ^ 62
  pub count : length (published_in sent) ≤ 2 ^ 62
  -- the done count is that of the ticks of the pieces got, but for those that a halt cut off, and those of the last that are left
  pub done : taken.counted + taken.left ≡ all_passed taken.past + ticks_together taken.fresh
  pub past : all_passed taken.past + ticks_together (drop (one_if busy) taken.fresh) ≤ taken.counted
  pub idle : busy ≡ false → taken.left ≡ 0
  pub at_work : busy ≡ true → (0 < taken.left) ⊎ (has_ended taken.fresh ≡ true)
  pub phase : Phase sent taken dropping rest

pub record Kept (s : State (Option Piece) MotionSight) : Type 0 where
  pub sent : Sent
  pub taken : Taken
  pub dropping : NewestFirst Piece
  pub finished_of : ℕ
  pub filling : Bool
  pub busy : Bool
  pub publisher : ℕ
  pub getter : ℕ
  pub words_are : AreWords s.words sent taken
  pub flows : Flows s.homes sent taken dropping finished_of filling busy
  pub publishing : Sole s.views (λ v. v.may_publish) publisher (Publishes sent filling taken.counted)
  pub getting : Sole s.views (λ v. v.may_get) getter (Gets taken dropping busy (last_stop sent.stops))

abbrev pub none_sent : Sent
none_sent = record { older = []; since = []; stops = []; halts = []; waits = false }

abbrev pub none_taken : Taken
none_taken = record { past = []; fresh = []; counted = 0; left = 0; halts = [] }

abbrev pub beginning : MotionSight
beginning = record { may_publish = true; may_get = true; sent = none_sent; known = 0; done_loads = 0; heard = 0; halt_loads = 0; taken = none_taken; shown = 0; head_loads = 0; asked = 0; stop_loads = 0; dropping = []; filling = false; busy = false }

abbrev pub without_publishing : MotionSight → MotionSight
without_publishing v = record v { may_publish = false }

abbrev pub without_getting : MotionSight → MotionSight
without_getting v = record v { may_get = false }

-- the first is the one that gets
abbrev pub both_of : MotionSight → MotionSight → MotionSight
both_of v w = record {
  may_publish = w.may_publish;
  may_get = v.may_get;
  sent = w.sent;
  known = w.known;
  done_loads = w.done_loads;
  heard = w.heard;
  halt_loads = w.halt_loads;
  taken = v.taken;
  shown = v.shown;
  head_loads = v.head_loads;
  asked = v.asked;
  stop_loads = v.stop_loads;
  dropping = v.dropping;
  filling = w.filling;
  busy = v.busy;
}

abbrev pub spent : MotionSight
spent = record beginning { may_publish = false; may_get = false }

-- the view after each step
abbrev pub saw_slot : MotionSight → ℕ → MotionSight
saw_slot v n = record v { filling = true; known = n; done_loads = v.done_loads + 1 }

abbrev pub saw_done : MotionSight → ℕ → MotionSight
saw_done v n = record v { known = n; done_loads = v.done_loads + 1 }

abbrev pub gave_piece : MotionSight → Piece → MotionSight
gave_piece v p = record v { sent = with_piece v.sent p; filling = false }

abbrev pub gave_stop : MotionSight → MotionSight
gave_stop v = record v { sent = with_stop v.sent }

abbrev pub saw_no_halt : MotionSight → ℕ → MotionSight
saw_no_halt v n = record v { heard = n; halt_loads = v.halt_loads + 1 }

abbrev pub saw_halt : MotionSight → ℕ → ℕ → MotionSight
saw_halt v n done = record v { heard = n; halt_loads = v.halt_loads + 1; sent = with_halt v.sent done }

abbrev pub saw_head : MotionSight → ℕ → MotionSight
saw_head v n = record v { shown = n; head_loads = v.head_loads + 1 }

abbrev pub got_piece : MotionSight → ℕ → Piece → MotionSight
got_piece v n p = record v { shown = n; head_loads = v.head_loads + 1; taken = with_got v.taken p; busy = true }

abbrev pub counted_tick : MotionSight → MotionSight
counted_tick v = record v { taken = with_tick v.taken }

abbrev pub counted_last : MotionSight → MotionSight
counted_last v = record v { taken = with_tick v.taken; busy = false }

abbrev pub saw_stop : MotionSight → ℕ → MotionSight
saw_stop v n = record v { asked = n; stop_loads = v.stop_loads + 1 }

abbrev pub skipped_piece : MotionSight → Piece → MotionSight
skipped_piece v p = record v { dropping = p ∷ v.dropping }

abbrev pub gave_halt : MotionSight → MotionSight
gave_halt v = record v { taken = halted_with v.taken v.dropping; dropping = []; busy = false }

-- these many slots, empty, from one on
abbrev pub empty_slots : ℕ → ℕ → List (ℕ × Option Piece)
empty_slots k zero = []
empty_slots k (suc n) = (k % slots, None) ∷ empty_slots (k + 1) n

abbrev pub with_dropped : MotionSight → NewestFirst Piece → MotionSight
with_dropped v ps = record v { dropping = ps }

-- a seat is of this ring
pub record IsOfRing (seat ring : TableId) : Type 0 where
  pub same : seat ≡ ring
  pub words : ring.words ≡ all_words
  pub slots_are : ring.slots ≡ slots

-- the slot of the next piece may be taken untraced: a stop was seen that is behind it
pub record MayDrop (v : MotionSight) (slot : ℕ) : Type 0 where
  pub mine : v.may_get ≡ true
  pub above : length v.taken.past < v.asked
  pub below : length (v.dropping ++ passed_in v.taken) < v.asked
  pub place : slot ≡ length (v.dropping ++ passed_in v.taken) % slots

-- a seat may halt at a stop that it saw: the next piece has this slot and this number, and the slot of the piece before it is out
-- where that is unfinished
pub record MayHalt (m : Me (Option Piece) MotionSight) (slot from stop : ℕ) : Type 0 where
  pub mine : m.0.may_get ≡ true
  pub above : length m.0.taken.past < m.0.asked
  pub stop_is : stop ≡ m.0.asked
  pub none_dropped : m.0.dropping ≡ []
  pub from_is : from ≡ length (passed_in m.0.taken)
  pub within : from ≤ stop
  pub held : one_if m.0.busy ≤ from
  pub hand : m.1 ≡ empty_slots (from - one_if m.0.busy) (one_if m.0.busy)
  pub place : slot ≡ from % slots

abbrev Sat : Type 0
Sat = Me (Option Piece) MotionSight

abbrev At : Type 0
At = Step (Option Piece)

-- what a load of the done count tells
pub record IsKnown (v : MotionSight) (n : ℕ) : Type 0 where
  pub no_fewer : v.known ≤ n
  pub no_more : n ≤ ticks_published v.sent
  pub late : ticks_at v.sent.halts + ticks_together (drop 5 v.sent.since) ≤ n
  pub turns : InTurn v.sent.since

-- where there is room, the next slot is taken
abbrev pub reached : At → Sat → ℕ → Sat → Type 0
reached st m n m' = IsKnown m.0 n
    × (room_from m.0.sent ≤ n → m' ≡ (saw_slot m.0 n, (length (published_in m.0.sent) % slots, None) ∷ m.1))
    × (n < room_from m.0.sent → m' ≡ (saw_done m.0 n, m.1))

abbrev pub seen : At → Sat → ℕ → Sat → Type 0
seen st m n m' = IsKnown m.0 n × (m' ≡ (saw_done m.0 n, m.1))

abbrev pub published : At → Sat → ℕ → Sat → Type 0
published st m n m' = (k : ℕ) (p : Piece) → m.1 ≡ (k, Some p) ∷ [] → m' ≡ (gave_piece m.0 p, [])

abbrev pub stopped : At → Sat → ℕ → Sat → Type 0
stopped st m n m' = m' ≡ (gave_stop m.0, m.1)

-- where the halt is there, every piece published is finished, and all slots are free
abbrev pub heeded : At → Sat → ℕ → Sat → Type 0
heeded st m n m' =
    (n < length (published_in m.0.sent) → m' ≡ (saw_no_halt m.0 n, m.1))
    × (length (published_in m.0.sent) ≤ n → (done : ℕ) × (m' ≡ (saw_halt m.0 n done, m.1)) × IsKnown m.0 done)

-- where a piece is there, its slot is taken
abbrev pub grasped : At → Sat → ℕ → Sat → Type 0
grasped st m n m' = (length (passed_in m.0.taken) ≤ n) × (n < 2 ^ 63)
    × (length (passed_in m.0.taken) < n → (p : Piece) × (m' ≡ (got_piece m.0 n p, (length (passed_in m.0.taken) % slots, Some p) ∷ m.1)) × ComesNext m.0.taken.fresh p × (has_ended (passed_in m.0.taken) ≡ false) × (m.0.busy ≡ false) × (m.0.taken.counted + tick_count p < 2 ^ 62))
    × (n ≤ length (passed_in m.0.taken) → m' ≡ (saw_head m.0 n, m.1))

abbrev pub ticked : At → Sat → ℕ → Sat → Type 0
ticked st m n m' = m' ≡ (counted_tick m.0, m.1)

abbrev pub finished : At → Sat → ℕ → Sat → Type 0
finished st m n m' = m' ≡ (counted_last m.0, [])

abbrev pub asked : At → Sat → ℕ → Sat → Type 0
asked st m n m' = (m' ≡ (saw_stop m.0 n, m.1)) × (length m.0.taken.past ≤ n)

-- a stop that was seen stands until it is halted
abbrev pub recalled : At → Sat → ℕ → Sat → Type 0
recalled st m n m' = (m' ≡ m) × (n ≡ m.0.asked) × (length (passed_in m.0.taken) ≤ n) × (n < 2 ^ 63)

-- the slot of the next piece is taken, untraced
abbrev pub skipped : At → Sat → ℕ → Sat → Type 0
skipped st m n m' = (p : Piece) × (m' ≡ (skipped_piece m.0 p, (length (m.0.dropping ++ passed_in m.0.taken) % slots, Some p) ∷ m.1))

-- every slot is given back
abbrev pub halted : At → Sat → ℕ → Sat → Type 0
halted st m n m' = m' ≡ (gave_halt m.0, [])

-- what the two ends of one ring have to do with each other
pub record PiecesAreTied (sent : Sent) (known : ℕ) (taken : Taken) : Type 0 where
  -- the pieces got or dropped are the first of those published
  pub rest : NewestFirst Piece
  pub pieces : published_in sent ≡ rest ++ passed_in taken
  -- each is whole, or a halt cut it after some of its ticks, or dropped it; and the halts tell where
  pub cuts : AreFates taken.past
  pub marks : HaltsAt taken.halts taken.past
  -- the done count is that of the ticks counted: those of the whole pieces and those before the cuts, but for those of the piece
  -- that was got last that are left
  pub done : ℕ
  pub done_is : done ≡ taken.counted
  pub ticks : done + taken.left ≡ all_passed taken.past + ticks_together taken.fresh
  -- no load showed more
  pub known_is : known ≤ done
  -- the pieces up to the last halt are finished, and of those behind it at most five are not
  pub few : unfinished_of (rest ++ taken.fresh) (done - all_passed taken.past) ≤ most_unfinished
  -- the halts seen, apart from one at no pieces, are the first of those stored
  pub unseen : NewestFirst Halt
  pub halts : taken.halts ≡ unseen ++ some_halts sent.halts
  -- the stops, apart from one at no pieces, begin with the pieces of the halts stored
  pub waiting : NewestFirst ℕ
  pub stops : some_stops sent.stops ≡ waiting ++ map pieces_at taken.halts

-- the seat that publishes and gets learns how both sides' lists hang together; what it loads is the done count
abbrev pub tied : At → Sat → ℕ → Sat → Type 0
tied st m n m' = (m' ≡ m) × (m.0.dropping ≡ [] → (t : PiecesAreTied m.0.sent m.0.known m.0.taken) × (t.done ≡ n))
