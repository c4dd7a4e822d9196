-- The rule of the link, and what each step says. A link has room for so many bytes. The top bit of the head of the
-- bytes closes it. Byte k has the cell k % room, reply k the slot k % 16.
use Rattle.std.specs.Prelude.{◌≡◌, ◌≢◌, ℕ, ◌+◌, ◌%◌, ◌^◌, ◌<◌, ◌≤◌, Bool, true, false, cond, List, [], ◌∷◌, ◌++◌, length, slice_index, Some, None}
use Rattle.std.specs.declared.option.Option.{Option}
use Rattle.units.specs.Truths.{one_if}
use mathlib.Core.Option.{some}
use mathlib.Core.Option as maybe
use Rattle.atomic_table.specs.Table.{State, Me, Step}
use Rattle.shared_rings.specs.Rights.{Sole}
use Rattle.shared_rings.specs.Placed.{placed}
use Rattle.shared_rings.specs.Shelf.{Shelf}
use Rattle.status_report.specs.declared.Reply.{Reply}
use Rattle.status_report.specs.Replies.{IsReply}
use Rattle.serial_ring.specs.declared.view.LinkSight.{LinkSight}
use Rattle.serial_ring.specs.declared.view.LinkStep.{LinkStep}
use Rattle.serial_ring.specs.declared.view.LinkStep.TheVariants.{Took, Marked, Answered}
use Rattle.serial_ring.specs.Marks.{Mark, Follows, MarkedPast, AreMarks, AreRising, latest, last_of, packed, number_in, bytes_in}
use Rattle.serial_ring.specs.Lists.{IsRoom, AreReplies, AnswersStored, AreAtMost, maybe_unread, with_greeting, with_moment}
use Rattle.serial_ring.specs.Logs.{AnswersWell, taken_in, marked_in, answered_in, greeted_in, taken_at_banners, answers_since, lfs_since}
use Rattle.status_report.specs.Answering.{reply_room, is_banner}

-- the words that the host writes, and 256 bytes after them those that the board writes; each 128 bytes from the next
abbrev pub head_word : ℕ
head_word = 0

abbrev pub reply_tail_word : ℕ
reply_tail_word = 16

abbrev pub mark_word : ℕ
mark_word = 32

abbrev pub tail_word : ℕ
tail_word = 64

abbrev pub reply_head_word : ℕ
reply_head_word = 80

-- 256 bytes after them the cells, which the host writes, as many as the greatest link has
abbrev pub first_cell : ℕ
first_cell = 112

abbrev pub all_words : ℕ
all_words = 368

abbrev pub cell_of : ℕ → ℕ → ℕ
cell_of room k = first_cell + k % room

-- what the top bit of the head adds
abbrev pub top_if : Bool → ℕ
top_if closed = cond closed (2 ^ 63) 0

-- the bytes, in their cells
pub record Bytes (room : ℕ) (words : List ℕ) (stored taken : List ℕ) (closed : Bool) : Type 0 where
  pub rest : List ℕ
  pub fifo : stored ≡ rest ++ taken
  pub few : length rest ≤ room
  pub short : length stored ≤ 2 ^ 31
  pub head : slice_index words head_word ≡ length stored + top_if closed
  pub tail : slice_index words tail_word ≡ length taken
  pub small : (k x : ℕ) → placed stored k ≡ some x → x < 256
  pub cells : (k x : ℕ) → placed stored k ≡ some x → length taken ≤ k → slice_index words (cell_of room k) ≡ x

-- the marks, of which the latest is in its word
pub record Marks (words : List ℕ) (stored marks : List ℕ) : Type 0 where
  pub within : latest marks ≤ length stored
  pub rising : AreRising marks
  pub few : length marks < 2 ^ 32
  pub word : slice_index words mark_word ≡ packed (length marks) (latest marks)

-- the replies, in their slots
pub record Replies (words : List ℕ) (homes : List (maybe.Option (Option Reply))) (answered got : List Reply) (given : ℕ) (filling emptying : Bool) : Type 0 where
  pub rest : List Reply
  pub fifo : answered ≡ rest ++ got
  pub texts : AreReplies answered
  pub shelf : Shelf reply_room homes answered got given filling
  pub held : length got ≡ given + one_if emptying
  pub short : length answered ≤ 2 ^ 62
  pub head : slice_index words reply_head_word ≡ length answered
  pub tail : slice_index words reply_tail_word ≡ given

-- what the seat of the host knows, by what the board had done when it answered the reply that was got last
pub record Hosts (room : ℕ) (words : List ℕ) (stored marks taken : List ℕ) (closed : Bool) (seen : List LinkStep) (emptying : Bool) (v : LinkSight) : Type 0 where
  pub stored_are : v.stored ≡ stored
  pub marks_are : v.marks ≡ marks
  pub closed_is : v.closed ≡ closed
  pub tail_is : v.tail ≤ length taken
  pub cell_is : (b : ℕ) → v.cell ≡ Some b → (slice_index words (cell_of room (length stored)) ≡ b) × (b < 256)
  pub got_are : v.got ≡ answered_in seen
  pub greeted_are : v.greeted ≡ greeted_in seen
  -- no byte is taken before it is stored: no more were taken as a Banner was answered than were stored as it was got
  pub in_time : AreAtMost (taken_at_banners seen) v.moments
  pub emptying_is : v.emptying ≡ emptying

-- what the seat of the board knows
pub record Boards (stored : List ℕ) (closed : Bool) (log : List LinkStep) (filling : Bool) (v : LinkSight) : Type 0 where
  pub log_is : v.log ≡ log
  pub head_is : v.head ≤ length stored
  pub read_is : (b : ℕ) → v.read ≡ Some b → placed stored (length (taken_in log)) ≡ some b
  pub over_is : v.over ≡ true → (closed ≡ true) × (stored ≡ taken_in log)
  pub filling_is : v.filling ≡ filling

-- Of what the board has done, `seen` is what it had when it answered the reply that was got last.
pub record Kept (room : ℕ) (s : State (Option Reply) LinkSight) : Type 0 where
  pub stored : List ℕ
  pub marks : List ℕ
  pub closed : Bool
  pub log : List LinkStep
  pub later : List LinkStep
  pub seen : List LinkStep
  pub given : ℕ
  pub filling : Bool
  pub emptying : Bool
  pub host : ℕ
  pub board : ℕ
  pub sized : IsRoom room
  pub wide : length s.words ≡ all_words
  pub bytes : Bytes room s.words stored (taken_in log) closed
  pub marked : Marks s.words stored marks
  pub replies : Replies s.words s.homes (answered_in log) (answered_in seen) given filling emptying
  pub parts : log ≡ later ++ seen
  -- each mark that was loaded was stored, and each reply was answered where it might be
  pub loads : AreMarks marks (marked_in log)
  pub well : AnswersWell log
  pub hosting : Sole s.views (λ v. v.may_store) host (Hosts room s.words stored marks (taken_in log) closed seen emptying)
  pub boarding : Sole s.views (λ v. v.may_take) board (Boards stored closed log filling)

abbrev pub beginning : LinkSight
beginning = record {
  may_store = true;
  may_take = true;
  stored = [];
  closed = false;
  marks = [];
  tail = 0;
  tail_loads = 0;
  cell = None;
  got = [];
  greeted = [];
  moments = [];
  reply_head = 0;
  reply_head_loads = 0;
  emptying = false;
  log = [];
  head = 0;
  head_loads = 0;
  read = None;
  over = false;
  reply_tail = 0;
  reply_tail_loads = 0;
  filling = false;
}

abbrev pub without_taking : LinkSight → LinkSight
without_taking v = record v { may_take = false }

abbrev pub without_storing : LinkSight → LinkSight
without_storing v = record v { may_store = false }

-- the first is the host's
abbrev pub both_of : LinkSight → LinkSight → LinkSight
both_of v w = record {
  may_store = v.may_store;
  may_take = w.may_take;
  stored = v.stored;
  closed = v.closed;
  marks = v.marks;
  tail = v.tail;
  tail_loads = v.tail_loads;
  cell = v.cell;
  got = v.got;
  greeted = v.greeted;
  moments = v.moments;
  reply_head = v.reply_head;
  reply_head_loads = v.reply_head_loads;
  emptying = v.emptying;
  log = w.log;
  head = w.head;
  head_loads = w.head_loads;
  read = w.read;
  over = w.over;
  reply_tail = w.reply_tail;
  reply_tail_loads = w.reply_tail_loads;
  filling = w.filling;
}

abbrev pub spent : LinkSight
spent = record beginning { may_store = false; may_take = false }

-- the view after each step
abbrev pub with_tail : LinkSight → ℕ → LinkSight
with_tail v n = record v { tail = n; tail_loads = v.tail_loads + 1 }

abbrev pub with_cell : LinkSight → ℕ → LinkSight
with_cell v b = record v { cell = Some b }

abbrev pub with_stored : LinkSight → ℕ → LinkSight
with_stored v b = record v { stored = b ∷ v.stored; cell = None }

abbrev pub with_closed : LinkSight → LinkSight
with_closed v = record v { closed = true }

abbrev pub with_mark : LinkSight → LinkSight
with_mark v = record v { marks = length v.stored ∷ v.marks }

abbrev pub with_reply_head : LinkSight → ℕ → LinkSight
with_reply_head v n = record v { reply_head = n; reply_head_loads = v.reply_head_loads + 1 }

-- a reply is got; if it is a Banner, it has this mark
abbrev pub with_got : LinkSight → ℕ → Reply → Mark → LinkSight
with_got v n r m = record v { reply_head = n; reply_head_loads = v.reply_head_loads + 1; got = r ∷ v.got; greeted = with_greeting r m v.greeted; moments = with_moment r (length v.stored) v.moments; emptying = true }

abbrev pub with_back : LinkSight → LinkSight
with_back v = record v { emptying = false }

abbrev pub with_head : LinkSight → ℕ → LinkSight
with_head v n = record v { head = n; head_loads = v.head_loads + 1 }

abbrev pub with_over : LinkSight → ℕ → LinkSight
with_over v n = record v { head = n; head_loads = v.head_loads + 1; over = true }

abbrev pub with_read : LinkSight → ℕ → LinkSight
with_read v b = record v { read = Some b }

abbrev pub with_taken : LinkSight → ℕ → LinkSight
with_taken v b = record v { log = Took b ∷ v.log; read = None }

abbrev pub with_marked : LinkSight → ℕ → ℕ → LinkSight
with_marked v number bytes = record v { log = Marked number bytes ∷ v.log }

abbrev pub with_reply_tail : LinkSight → ℕ → LinkSight
with_reply_tail v n = record v { reply_tail = n; reply_tail_loads = v.reply_tail_loads + 1 }

abbrev pub with_slot : LinkSight → ℕ → LinkSight
with_slot v n = record v { reply_tail = n; reply_tail_loads = v.reply_tail_loads + 1; filling = true }

abbrev pub with_answered : LinkSight → Reply → LinkSight
with_answered v r = record v { log = Answered r ∷ v.log; filling = false }

abbrev Sat : Type 0
Sat = Me (Option Reply) LinkSight

abbrev At : Type 0
At = Step (Option Reply)

-- the bytes unread, as the load shows, are at most those that may be by the replies
abbrev pub saw_tail : ℕ → At → Sat → ℕ → Sat → Type 0
saw_tail room st m n m' = (m' ≡ (with_tail m.0 n, m.1)) × (n ≤ length m.0.stored) × (length m.0.stored ≤ n + room) × (length m.0.stored ≤ n + length (maybe_unread m.0.stored m.0.got m.0.greeted))

abbrev pub wrote : At → Sat → ℕ → Sat → Type 0
wrote st m n m' = m' ≡ (with_cell m.0 n, m.1)

abbrev pub stored_byte : At → Sat → ℕ → Sat → Type 0
stored_byte st m n m' = (b : ℕ) → m.0.cell ≡ Some b → m' ≡ (with_stored m.0 b, m.1)

abbrev pub shut : At → Sat → ℕ → Sat → Type 0
shut st m n m' = m' ≡ (with_closed m.0, m.1)

abbrev pub set_mark : At → Sat → ℕ → Sat → Type 0
set_mark st m n m' = m' ≡ (with_mark m.0, m.1)

-- if a reply is there, its slot is taken; a Banner has the mark that it was answered for
abbrev pub grasped : At → Sat → ℕ → Sat → Type 0
grasped st m n m' = (length m.0.got ≤ n) × (n ≤ 2 ^ 62)
    × (length m.0.got < n → (r : Reply) × (k : Mark) × (m' ≡ (with_got m.0 n r k, (length m.0.got % reply_room, Some r) ∷ m.1)) × IsReply r
    × AnswersStored m.0.stored (r ∷ m.0.got) (with_greeting r k m.0.greeted) × (is_banner r ≡ true → Follows m.0.marks m.0.greeted k))
    × (n ≤ length m.0.got → m' ≡ (with_reply_head m.0 n, m.1))

abbrev pub gave_back : At → Sat → ℕ → Sat → Type 0
gave_back st m n m' = m' ≡ (with_back m.0, [])

-- If all bytes are taken and the link is closed, no more will come; once it was seen so it is seen so again. No fewer bytes are
-- stored than were before any mark that was loaded.
abbrev pub saw_head : ℕ → At → Sat → ℕ → Sat → Type 0
saw_head room st m n m' = (length (taken_in m.0.log) ≤ n % 2 ^ 63) × (n % 2 ^ 63 ≤ length (taken_in m.0.log) + room) × (n % 2 ^ 63 ≤ 2 ^ 31) × (n < 2 ^ 64)
    × (n ≡ length (taken_in m.0.log) + 2 ^ 63 → m' ≡ (with_over m.0 (n % 2 ^ 63), m.1))
    × (n ≢ length (taken_in m.0.log) + 2 ^ 63 → (m' ≡ (with_head m.0 (n % 2 ^ 63), m.1)) × (m.0.over ≡ false))
    × ((k : ℕ) → MarkedPast k (marked_in m.0.log) → k < n % 2 ^ 63)

-- before the first mark is stored, the mark is that of the start
abbrev pub saw_mark : At → Sat → ℕ → Sat → Type 0
saw_mark st m n m' = (m' ≡ (with_marked m.0 (number_in n) (bytes_in n), m.1)) × ((last_of (marked_in m.0.log)).0 ≤ number_in n) × (number_in n ≡ 0 → bytes_in n ≡ 0)

abbrev pub looked : At → Sat → ℕ → Sat → Type 0
looked st m n m' = (m' ≡ (with_read m.0 n, m.1)) × (n < 256)

abbrev pub took : At → Sat → ℕ → Sat → Type 0
took st m n m' = (b : ℕ) → m.0.read ≡ Some b → m' ≡ (with_taken m.0 b, m.1)

-- if there is room, the next slot is taken
abbrev pub reached : At → Sat → ℕ → Sat → Type 0
reached st m n m' = (n ≤ length (answered_in m.0.log)) × (length (answered_in m.0.log) ≤ n + reply_room)
    × (length (answered_in m.0.log) < n + reply_room → m' ≡ (with_slot m.0 n, (length (answered_in m.0.log) % reply_room, None) ∷ m.1))
    × (n + reply_room ≤ length (answered_in m.0.log) → m' ≡ (with_reply_tail m.0 n, m.1))

abbrev pub gave : At → Sat → ℕ → Sat → Type 0
gave st m n m' = (k : ℕ) (r : Reply) → m.1 ≡ (k, Some r) ∷ [] → m' ≡ (with_answered m.0 r, [])

-- How the lists of the two ends agree: the bytes and marks stored, what the board has done, and the replies got with the marks of
-- their Banners.
pub record AreTied (room : ℕ) (stored marks : List ℕ) (closed : Bool) (log : List LinkStep) (over : Bool) (got : List Reply) (greeted : List Mark) (moments : List ℕ) : Type 0 where
  -- the bytes taken are the first of those stored, and at most so many fewer
  pub unread : List ℕ
  pub bytes : stored ≡ unread ++ taken_in log
  pub few_bytes : length unread ≤ room
  -- if the board found the link closed, it is closed, and they are all of them
  pub closes : over ≡ true → closed ≡ true
  pub all_bytes : over ≡ true → stored ≡ taken_in log
  -- the replies got are the first of those answered
  pub untaken : List Reply
  pub replies : answered_in log ≡ untaken ++ got
  pub few_replies : length untaken ≤ reply_room
  -- the bytes of a mark are at most those stored, and no fewer than those of the mark before it
  pub within : latest marks ≤ length stored
  pub rising : AreRising marks
  -- each mark that was loaded is one that was stored, but for the number 0
  pub loads : AreMarks marks (marked_in log)
  -- the marks of the Banners got are those of the first Banners
  pub ungreeted : List Mark
  pub banners : greeted_in log ≡ ungreeted ++ greeted
  -- and no more bytes were taken as they were answered than were stored as they were got
  pub later : List ℕ
  pub of_got : List ℕ
  pub taken_then : taken_at_banners log ≡ later ++ of_got
  pub in_time : AreAtMost of_got moments
  -- each reply was answered where it might be: a Banner behind another for a new mark
  pub well : AnswersWell log
  -- since the last Banner no more lines were answered than had their end taken
  pub fewer : answers_since log ≤ lfs_since log

abbrev pub tied : ℕ → At → Sat → ℕ → Sat → Type 0
tied room st m n m' = (m' ≡ m) × AreTied room m.0.stored m.0.marks m.0.closed m.0.log m.0.over m.0.got m.0.greeted m.0.moments
