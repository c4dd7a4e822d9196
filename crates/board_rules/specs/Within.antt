-- What is done within a turn of a board, part by part.
use Rattle.std.specs.Prelude.{◌≡◌, ◌⊎◌, ℕ, ◌+◌, ◌-◌, ◌≤◌, Bool, true, false, not, cond, List, [], ◌∷◌, ◌++◌}
use Rattle.std.specs.List.{list_any, count_by}
use Rattle.feed_hold.specs.declared.Motion.{Motion}
use Rattle.feed_hold.specs.declared.Motion.TheVariants.{Holding, Cancelling, Held}
use Rattle.run_rules.specs.Work.{Task, pauses}
use Rattle.step_line.specs.declared.Piece.{Piece}
use Rattle.units.specs.Truths.{one_if}
use Rattle.board_journal.specs.Openings.{Opening}
use Rattle.board_journal.specs.Ports.PortStep.{published, no_piece_room, loaded}
use Rattle.board_journal.specs.Steps.{Step, Journal, port_log, open_of, whole_of, left_of, closed_tells, hand_of, plan_of, motion_of}
use Rattle.board_journal.specs.Steps.Step.{at_port}
use Rattle.board_rules.specs.Cuts.{has_cut}
use Rattle.board_rules.specs.Turns.{
  this_turn,
  publishing,
  passing,
  moving,
  ends_turn,
  found_none,
  loads,
  lacks_reply_room,
  lacks_piece_room,
  has_jogged,
  is_full,
  stands_still,
  is_counted,
  is_reply_back,
  only_replies,
  flags_taken,
  unobeyed_of,
  owes_report,
  takes_changes,
  replans,
  tries_of,
  missed_of,
  waits_of,
}
use Rattle.board_rules.specs.Conduct.{IsDrained, AreWaiting}

-- a machine that slows down is to be held, one that is held to be resumed; and jogs that were cancelled are to be cut, and then
-- the machine stands
abbrev pub changes_left : Motion → (has_cut : Bool) → ℕ
changes_left Holding has_cut = 2
changes_left Cancelling has_cut = cond has_cut 1 2
changes_left Held has_cut = 1
changes_left _ has_cut = 0

-- the word of requests that was taken is obeyed, unless a report is owed; and the plan was made anew for each change of
-- this turn
pub record AreWorked (h : Journal) : Type 0 where
  pub obeyed : owes_report h ≡ false → unobeyed_of h ≡ []
  pub changed : count_by replans (this_turn h) ≡ count_by takes_changes (this_turn h)

-- nothing is left to run, each tick is done, and the machine stands, also in alarm
pub record MayFinish (first : Opening) (h : Journal) : Type 0 where
  pub drained : IsDrained h
  pub stands : stands_still (motion_of first h) ≡ true

-- no reply of a line is next: nothing is left, or what is left are not replies alone
abbrev pub tells_none : List Task → Bool
tells_none [] = true
tells_none tasks = not (only_replies tasks)

-- of so many replies, three at most
abbrev pub last_three : List Task → ℕ
last_three [] = 0
last_three (t ∷ []) = 1
last_three (t ∷ u ∷ []) = 2
last_three _ = 3

abbrev pub work_ahead : List Task → (back : Bool) → ℕ
work_ahead tasks back = cond (only_replies tasks) (last_three tasks - one_if back) 3

abbrev pub ahead : List Task → (whole back : Bool) → ℕ
ahead tasks whole back = cond whole 4 (work_ahead tasks back)

-- What comes before the next poll, and before each of which one try to publish is counted at most: a line that was taken whole is
-- begun, and each of its last three replies is told, or handed back.
abbrev pub tries_ahead : Opening → Journal → ℕ
tries_ahead first h = ahead (left_of first h) (whole_of h) (is_reply_back h)

-- Steps of one turn with which nothing passes, no byte is polled for, and no piece is tried to be published.
pub record PassesNothing (first : Opening) (h next : Journal) : Type 0 where
  pub steps : List Step
  pub are : next ≡ steps ++ h
  pub inner : list_any ends_turn steps ≡ false
  pub still : list_any passing (this_turn next) ≡ list_any passing (this_turn h)
  pub quiet : count_by publishing (this_turn next) ≡ count_by publishing (this_turn h)
  pub polled : list_any found_none (this_turn next) ≡ list_any found_none (this_turn h)
  pub room : list_any lacks_piece_room (this_turn next) ≡ list_any lacks_piece_room (this_turn h)
  pub moves : list_any moving (this_turn h) ≡ true → list_any moving (this_turn next) ≡ true
  pub loaded : list_any loads (this_turn h) ≡ true → list_any loads (this_turn next) ≡ true
  pub waits : waits_of next ≡ waits_of h
  pub tries : tries_of first next ≡ tries_of first h
  pub missed : missed_of first next ≡ missed_of first h
  pub jogged : has_jogged next ≡ has_jogged h
  pub raw : open_of next ≡ open_of h
  pub whole : whole_of next ≡ whole_of h
  pub closed : closed_tells next ≡ closed_tells h
  pub flags : flags_taken next ≡ flags_taken h
  pub replies : list_any lacks_reply_room (this_turn next) ≡ list_any lacks_reply_room (this_turn h)
  pub owed : owes_report next ≡ owes_report h
  pub words : unobeyed_of next ≡ unobeyed_of h
  pub worked : AreWorked h → AreWorked next
  pub pauses : pauses (left_of first next) ≤ pauses (left_of first h)
  pub changes : changes_left (motion_of first next) (has_cut next) ≤ changes_left (motion_of first h) (has_cut h)
  pub less : (left_of first next ≡ [] → ⊥) → left_of first h ≡ [] → ⊥
  pub ahead : tries_ahead first next ≤ tries_ahead first h
  pub counted : is_counted first next ≡ false → is_counted first h ≡ false

-- what a board did by itself: its port knows nothing of it
pub record DidAlone (first : Opening) (h next : Journal) : Type 0 where
  pub passes : PassesNothing first h next
  pub port : port_log next ≡ port_log h

-- nothing was done, or it was looked how many ticks are done
abbrev pub MayHaveLooked : Journal → Journal → Type 0
MayHaveLooked h next = (next ≡ h) ⊎ ((done : ℕ) × (next ≡ at_port (loaded done) ∷ h))

-- a piece was tried to be published: it was, or it was handed back
abbrev pub Tried : Bool → Journal → Journal → Type 0
Tried true h next = (p : Piece) × (mid : Journal) × MayHaveLooked h mid × (next ≡ at_port (published p) ∷ mid)
Tried false h next = (done : ℕ) × (mid : Journal) × MayHaveLooked h mid × (next ≡ at_port (no_piece_room done) ∷ mid)

-- The piece in hand was tried to be published, or a segment, which came into the hand before.
pub record HasTried (first : Opening) (published : Bool) (h next : Journal) : Type 0 where
  pub steps : List Step
  pub are : next ≡ steps ++ h
  pub inner : list_any ends_turn steps ≡ false
  pub still : published ≡ false → list_any passing (this_turn next) ≡ list_any passing (this_turn h)
  pub quiet : count_by publishing (this_turn next) ≡ count_by publishing (this_turn h) + one_if published
  pub polled : list_any found_none (this_turn next) ≡ list_any found_none (this_turn h)
  pub room : published ≡ false → list_any lacks_piece_room (this_turn next) ≡ true
  pub moves : published ≡ true → list_any moving (this_turn next) ≡ true
  pub sent : published ≡ true → hand_of next ≡ []
  pub waits : waits_of next ≡ []
  pub missed : missed_of first next ≡ false
  pub jogged : has_jogged next ≡ has_jogged h
  pub once : tries_of first next ≤ tries_of first h + 1
  pub later : is_counted first h ≡ false → tries_of first next ≡ tries_of first h
  pub sum : tries_of first next + tries_ahead first next ≤ tries_of first h + tries_ahead first h + 1
  pub behind : is_counted first next ≡ false → tries_of first next + tries_ahead first next ≤ tries_of first h + tries_ahead first h
  pub owing : owes_report h ≡ true → tries_ahead first next ≡ tries_ahead first h
  pub unspoken : tells_none (left_of first h) ≡ true → tries_ahead first next ≡ tries_ahead first h
  pub left : left_of first next ≡ left_of first h
  pub whole : whole_of next ≡ whole_of h
  pub motion : motion_of first next ≡ motion_of first h
  pub cuts : has_cut next ≡ has_cut h
  pub closed : closed_tells next ≡ closed_tells h
  pub flags : flags_taken next ≡ flags_taken h
  pub replies : list_any lacks_reply_room (this_turn next) ≡ list_any lacks_reply_room (this_turn h)
  pub owed : owes_report next ≡ owes_report h
  pub words : unobeyed_of next ≡ unobeyed_of h
  pub worked : AreWorked h → AreWorked next
  pub waiting : AreWaiting first next → AreWaiting first h
  pub full : is_full first.blocks (plan_of next) ≡ true → is_full first.blocks (plan_of h) ≡ true
