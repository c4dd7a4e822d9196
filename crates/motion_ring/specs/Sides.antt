-- What the two sides of a ring have done, with stops and halts.
use Rattle.std.specs.Prelude.{◌≡◌, ℕ, zero, suc, ◌+◌, ◌-◌, ◌^◌, ◌<◌, ◌⊎◌, true, false, List, [], ◌∷◌, ◌++◌, length, map, drop}
use Rattle.step_line.specs.declared.Piece.{Piece}
use Rattle.step_line.specs.Logs.{NewestFirst}
use Rattle.step_line.specs.Pieces.{ComesBehind}
use Rattle.step_line.specs.Ordering.{has_ended}
use Rattle.step_line.specs.Finishing.{tick_count, ticks_together}
use Rattle.motion_ring.specs.declared.lists.Halt.{Halt}
use Rattle.motion_ring.specs.declared.lists.Sent.{Sent}
use Rattle.motion_ring.specs.declared.lists.Taken.{Taken}
use Rattle.motion_ring.specs.declared.lists.Passed.{Passed}
use Rattle.motion_ring.specs.declared.lists.Passed.TheVariants.{Whole, Cut, Dropped}
use Rattle.motion_ring.specs.Ticks.{unfinished_of}

-- all pieces published
abbrev pub published_in : Sent → NewestFirst Piece
published_in s = s.since ++ s.older

-- how many ticks were done at the last of some halts
abbrev pub ticks_at : NewestFirst Halt → ℕ
ticks_at [] = 0
ticks_at (h ∷ hs) = h.done

-- how many pieces were published at the last of some stops
abbrev pub last_stop : NewestFirst ℕ → ℕ
last_stop [] = 0
last_stop (n ∷ ns) = n

-- the ticks published: those done at the last halt that was seen, and those of the pieces published since
abbrev pub ticks_published : Sent → ℕ
ticks_published s = ticks_at s.halts + ticks_together s.since

-- how many of the published pieces are unfinished while so many ticks are done; those up to a halt that was seen are finished
abbrev pub unfinished_in : Sent → ℕ → ℕ
unfinished_in s done = unfinished_of s.since (done - ticks_at s.halts)

-- how many ticks have to be done before a piece may be published: those of all published pieces but the last four
abbrev pub room_from : Sent → ℕ
room_from s = ticks_at s.halts + ticks_together (drop 4 s.since)

-- the ticks of all pieces but the last, but the last two, and so on
abbrev pub earlier_ticks : Sent → List ℕ
earlier_ticks s = (ticks_at s.halts + ticks_together (drop 1 s.since)) ∷ (ticks_at s.halts + ticks_together (drop 2 s.since)) ∷ (ticks_at s.halts + ticks_together (drop 3 s.since)) ∷ (ticks_at s.halts + ticks_together (drop 4 s.since)) ∷ []

-- A piece may be published: no stop waits for its halt, and no end was published. It may come behind the pieces published since
-- the last halt, so that the first segment after a stop begins its move.
pub record MayPublish (s : Sent) (p : Piece) : Type 0 where
  pub running : s.waits ≡ false
  pub going : has_ended (published_in s) ≡ false
  pub follows : ComesBehind s.since p
  pub few : ticks_published s + tick_count p < 2 ^ 62
  -- a piece that a halt cuts short or drops makes no tick, so the number of pieces is bounded apart
  pub room : length (published_in s) < 2 ^ 62

-- a stop may be stored: none waits, and where there was one before, a piece was published since
pub record MayStop (s : Sent) : Type 0 where
  pub running : s.waits ≡ false
  pub since_last : (s.stops ≡ []) ⊎ (0 < length s.since)

-- a piece is published; a stop is stored; its halt is seen
abbrev pub with_piece : Sent → Piece → Sent
with_piece s p = record s { since = p ∷ s.since }

abbrev pub with_stop : Sent → Sent
with_stop s = record s { stops = length (published_in s) ∷ s.stops; waits = true }

abbrev pub halt_of : Sent → ℕ → Halt
halt_of s done = record { pieces = length (published_in s); done = done }

abbrev pub with_halt : Sent → ℕ → Sent
with_halt s done = record s { older = published_in s; since = []; halts = halt_of s done ∷ s.halts; waits = false }

-- the piece that became this
abbrev pub piece_of : Passed → Piece
piece_of (Whole p) = p
piece_of (Cut p m) = p
piece_of (Dropped p) = p

-- how many of its ticks are counted: all, those before the cut, or none
abbrev pub ticks_passed : Passed → ℕ
ticks_passed (Whole p) = tick_count p
ticks_passed (Cut p m) = m
ticks_passed (Dropped p) = 0

abbrev pub all_passed : NewestFirst Passed → ℕ
all_passed [] = 0
all_passed (q ∷ qs) = ticks_passed q + all_passed qs

-- who is cut has a tick that is not counted
abbrev pub AreFates : NewestFirst Passed → Type 0
AreFates [] = Unit {0}
AreFates (Whole p ∷ qs) = AreFates qs
AreFates (Cut p m ∷ qs) = (m < tick_count p) × AreFates qs
AreFates (Dropped p ∷ qs) = AreFates qs

-- the pieces got or dropped
abbrev pub passed_in : Taken → NewestFirst Piece
passed_in t = t.fresh ++ map piece_of t.past

-- what becomes of the pieces got at a halt, while so many ticks of the last of them are left: that one is cut
abbrev pub fate : Piece → ℕ → Passed
fate p zero = Whole p
fate p (suc left) = Cut p (tick_count p - suc left)

abbrev pub fates : NewestFirst Piece → ℕ → NewestFirst Passed
fates [] left = []
fates (p ∷ ps) left = fate p left ∷ map Whole ps

-- a piece is got; a tick is counted; a halt is stored, which drops some pieces
abbrev pub with_got : Taken → Piece → Taken
with_got t p = record t { fresh = p ∷ t.fresh; left = tick_count p }

abbrev pub with_tick : Taken → Taken
with_tick t = record t { counted = t.counted + 1; left = t.left - 1 }

abbrev pub halted_with : Taken → NewestFirst Piece → Taken
halted_with t dropped = record t {
  past = map Dropped dropped ++ (fates t.fresh t.left ++ t.past);
  fresh = [];
  left = 0;
  halts = record { pieces = length dropped + length (passed_in t); done = t.counted } ∷ t.halts;
}

-- what was passed up to each halt: so many pieces, and of their ticks as many as were done then
abbrev pub HaltsAt : NewestFirst Halt → NewestFirst Passed → Type 0
HaltsAt [] past = past ≡ []
HaltsAt (h ∷ hs) past = (newer : NewestFirst Passed) × (earlier : NewestFirst Passed) × (past ≡ newer ++ earlier) × (length past ≡ h.pieces) × (all_passed past ≡ h.done) × HaltsAt hs earlier

-- an item that tells of some pieces, where they are some
abbrev pub unless_none : {A : Type 0} → ℕ → A → List A → List A
unless_none zero a l = l
unless_none (suc n) a l = a ∷ l

-- the stops, and the halts, but for one at no pieces
abbrev pub some_stops : NewestFirst ℕ → NewestFirst ℕ
some_stops [] = []
some_stops (n ∷ ns) = unless_none n n (some_stops ns)

abbrev pub some_halts : NewestFirst Halt → NewestFirst Halt
some_halts [] = []
some_halts (h ∷ hs) = unless_none h.pieces h (some_halts hs)

abbrev pub pieces_at : Halt → ℕ
pieces_at h = h.pieces
