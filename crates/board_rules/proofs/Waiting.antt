-- What a board waits for, and what it has done before it waits.
use Rattle.std.proofs.Common.{◌≡◌, ℕ, ◌+◌, ◌≤◌, suc, ◌⊎◌, inl, inr, List, [], ◌∷◌, Bool, true, false, cond, length, ◌&&◌, ◌||◌, sym, refl, ap, ◌∙◌, subst, arith}
use Rattle.std.specs.List.{list_any, Contains}
use Rattle.feed_hold.specs.declared.Motion.{Motion}
use Rattle.outside.specs.declared.On.{On}
use Rattle.outside.specs.declared.On.TheVariants as on
use Rattle.outside.specs.declared.Turn.{Turn}
use Rattle.outside.specs.declared.Turn.TheVariants.{Did, Wait, Done}
use Rattle.line_geom.specs.declared.Block.{Block}
use Rattle.planner_runs.specs.declared.Action.TheVariants.{Add, Mark, Rest, Clear, Reset}
use Rattle.board_journal.specs.Openings.{Opening}
use Rattle.run_rules.specs.Work.{Task}
use Rattle.run_rules.specs.Work.Task.{ask, pause, normal, finish, halt}
use Rattle.step_line.specs.Asking.Asked.{a_move, a_mark, a_rest}
use Rattle.step_line.specs.Finishing.{unfinished, most_unfinished}
use Rattle.step_line.specs.declared.planned_move.PlannedMove.{PlannedMove}
use Rattle.board_journal.specs.Ports.{PortStep, asks_report}
use Rattle.board_journal.specs.Ports.PortStep.{took, answered, reported, no_reply_room, took_exec, published, no_piece_room}
use Rattle.board_journal.specs.Steps.{Journal, published_of, left_of, plan_of, motion_of}
use Rattle.board_journal.specs.Steps.Step.{at_port, began, did, made_end, evened, paused, cut, halted, closing, turned}
use Rattle.board_rules.specs.Turns.{this_turn, passing, found_none, lacks_piece_room, lacks_reply_room, owes_report, tells_next, halts_next, is_limited, has_blocks, is_full, has_segment, is_due, starts_cycle, missed_of, begun_while_due, waits_at, waits_by, waits_of, waits_while_due}
use Rattle.board_rules.specs.Conduct.{Conducted, MayTurn, Needs, IsNextTask, AreWaiting}
use Rattle.board_rules.proofs.Opening.{none_asked_told, no_halt_told}
use Rattle.board_rules.proofs.Dropping.{tell_kept}
use Rattle.board_rules.proofs.Closing.{spent}
use Rattle.board_rules.proofs.Unstopped.{unfinished_there}
use Rattle.board_rules.proofs.Truths.{neither_right}

-- ---- why it waits

pub one_cause : (first : Opening) (o : On) (h : Journal) → Needs first o h → (o ≡ on.Byte) ⊎ ((o ≡ on.ReplyRoom) ⊎ ((o ≡ on.SegmentRoom) ⊎ ((o ≡ on.Motion) ⊎ (o ≡ on.Resume))))
one_cause first on.Byte h needs = inl refl
one_cause first on.ReplyRoom h needs = inr (inl refl)
one_cause first on.SegmentRoom h needs = inr (inr (inl refl))
one_cause first on.Motion h needs = inr (inr (inr (inl refl)))
one_cause first on.Resume h needs = inr (inr (inr (inr refl)))
one_cause first o h needs = absurd needs

-- where room for a piece lacked in a turn in which nothing went on its way, five of the published pieces are unfinished
pub pieces_lack_room : (first : Opening) (h : Journal) → Conducted first h → list_any lacks_piece_room (this_turn h) ≡ true → list_any passing (this_turn h) ≡ false
    → (done : ℕ) × (unfinished (published_of h) done ≡ most_unfinished)
pieces_lack_room first [] c lacks still = absurd cc
pieces_lack_room first (at_port (took b) ∷ h) c lacks still = absurd cc
pieces_lack_room first (at_port (answered r) ∷ h) c lacks still = absurd cc
pieces_lack_room first (at_port (reported r) ∷ h) c lacks still = absurd cc
pieces_lack_room first (at_port (published p) ∷ h) c lacks still = absurd cc
pieces_lack_room first (at_port (no_piece_room done) ∷ h) c lacks still = (done, unfinished_there first h done c.1 c.0.full.full)
pieces_lack_room first (began o ∷ h) c lacks still = absurd cc
pieces_lack_room first (turned t ∷ h) c lacks still = absurd cc
pieces_lack_room first (_ ∷ h) c lacks still = pieces_lack_room first h c.1 lacks still

-- no reply is next where another task is
no_tell : {A : Type 0} (tasks : List Task) (t : Task) (others : List Task) → tells_next (t ∷ others) ≡ false → tasks ≡ t ∷ others → tells_next tasks ≡ true → A
no_tell tasks t others none next tells = absurd (let e = sym tells ∙ ap tells_next next ∙ none in cc)

none_told : {A : Type 0} (tasks : List Task) → tasks ≡ [] → tells_next tasks ≡ true → A
none_told tasks none tells = absurd (let e = sym tells ∙ ap tells_next none in cc)

-- a report that is owed stays so
kept : (tells owes now : Bool) → (tells ≡ true → now ≡ true) → (tells || owes) ≡ true → (now || owes) ≡ true
kept true owes now stays is = by_now now (stays refl)
  where
    by_now : (b : Bool) → b ≡ true → (b || owes) ≡ true
    by_now true is = refl
    by_now false is = absurd cc
kept false true true stays is = refl
kept false true false stays is = refl
kept false false now stays is = absurd cc

owed_more : (tells owes asks : Bool) → (tells || owes) ≡ true → (tells || (asks || owes)) ≡ true
owed_more true owes asks is = refl
owed_more false owes true is = refl
owed_more false owes false is = is

-- where room for a reply lacked in such a turn, a reply is next, or a report is owed
pub reply_is_next : (first : Opening) (h : Journal) → Conducted first h → list_any lacks_reply_room (this_turn h) ≡ true → list_any passing (this_turn h) ≡ false
    → (tells_next (left_of first h) || owes_report h) ≡ true
reply_is_next first [] c lacks still = absurd cc
reply_is_next first (at_port (took b) ∷ h) c lacks still = absurd cc
reply_is_next first (at_port (answered r) ∷ h) c lacks still = absurd cc
reply_is_next first (at_port (reported r) ∷ h) c lacks still = absurd cc
reply_is_next first (at_port no_reply_room ∷ h) c lacks still = c.0.0
reply_is_next first (at_port (took_exec word) ∷ h) c lacks still = owed_more (tells_next (left_of first h)) (owes_report h) (asks_report word) (reply_is_next first h c.1 lacks still)
reply_is_next first (at_port (published p) ∷ h) c lacks still = absurd cc
reply_is_next first (began o ∷ h) c lacks still = absurd cc
reply_is_next first (did (Add m) ps ∷ h) c lacks still = kept (tells_next (left_of first h)) (owes_report h) (tells_next (left_of first (did (Add m) ps ∷ h))) (no_tell (left_of first h) (ask (a_move m)) _ refl c.0.0) (reply_is_next first h c.1 lacks still)
reply_is_next first (did (Mark m) ps ∷ h) c lacks still = kept (tells_next (left_of first h)) (owes_report h) (tells_next (left_of first (did (Mark m) ps ∷ h))) (no_tell (left_of first h) (ask (a_mark m)) _ refl c.0.0.next) (reply_is_next first h c.1 lacks still)
reply_is_next first (did Rest ps ∷ h) c lacks still = kept (tells_next (left_of first h)) (owes_report h) (tells_next (left_of first (did Rest ps ∷ h))) (no_tell (left_of first h) (ask a_rest) _ refl c.0.0.next) (reply_is_next first h c.1 lacks still)
reply_is_next first (did Clear ps ∷ h) c lacks still = absurd c.0.0
reply_is_next first (did Reset ps ∷ h) c lacks still = absurd c.0.0
reply_is_next first (made_end ∷ h) c lacks still = kept (tells_next (left_of first h)) (owes_report h) (tells_next (left_of first (made_end ∷ h))) (no_tell (left_of first h) finish _ refl c.0.next) (reply_is_next first h c.1 lacks still)
reply_is_next first (evened ∷ h) c lacks still = kept (tells_next (left_of first h)) (owes_report h) (tells_next (left_of first (evened ∷ h))) (no_tell (left_of first h) normal _ refl c.0.rests.next) (reply_is_next first h c.1 lacks still)
reply_is_next first (paused ∷ h) c lacks still = kept (tells_next (left_of first h)) (owes_report h) (tells_next (left_of first (paused ∷ h))) (no_tell (left_of first h) pause _ refl c.0.rests.next) (reply_is_next first h c.1 lacks still)
reply_is_next first (cut k ∷ h) c lacks still = kept (tells_next (left_of first h)) (owes_report h) (tells_next (left_of first (cut k ∷ h))) (tell_kept (left_of first h)) (reply_is_next first h c.1 lacks still)
reply_is_next first (halted ∷ h) c lacks still = kept (tells_next (left_of first h)) (owes_report h) (tells_next (left_of first (halted ∷ h))) (no_tell (left_of first h) halt _ refl c.0.next) (reply_is_next first h c.1 lacks still)
reply_is_next first (closing ∷ h) c lacks still = kept (tells_next (left_of first h)) (owes_report h) (tells_next (left_of first (closing ∷ h))) (none_told (left_of first h) c.0.free) (reply_is_next first h c.1 lacks still)
reply_is_next first (turned t ∷ h) c lacks still = absurd cc
reply_is_next first (_ ∷ h) c lacks still = reply_is_next first h c.1 lacks still

-- ---- what is done between two turns

-- a move that is next is added, unless the plan is full
pub adds : (first : Opening) (h : Journal) (m : PlannedMove) → Conducted first h → this_turn h ≡ [] → IsNextTask first (ask (a_move m)) h → is_full first.blocks (plan_of h) ≡ true
adds first [] m c between next = none_asked_told first.tells (a_move m) _ next
adds first (turned Did ∷ h) m c between next = c.0.adds m next
adds first (turned (Wait o) ∷ h) m c between next = c.0.ends.adds m next
adds first (turned Done ∷ h) m c between next = absurd (let e = sym c.0.finished.left ∙ next in cc)
adds first (_ ∷ h) m c between next = absurd cc

no_blocks : {A : Type 0} (blocks : List Block) → blocks ≡ [] → has_blocks blocks ≡ true → A
no_blocks blocks none some = absurd (let e = sym some ∙ ap has_blocks none in cc)

-- no queued block waits for a start that is called for
pub starts : (first : Opening) (h : Journal) → Conducted first h → this_turn h ≡ [] → AreWaiting first h → starts_cycle first h ≡ false
starts first [] c between w = no_blocks [] refl w.blocks
starts first (turned Did ∷ h) c between w = neither_right (list_any found_none (this_turn h)) _ (c.0.starts (record { stands = w.stands; blocks = w.blocks }))
starts first (turned (Wait o) ∷ h) c between w = neither_right (list_any found_none (this_turn h)) _ (c.0.ends.starts (record { stands = w.stands; blocks = w.blocks }))
starts first (turned Done ∷ h) c between w = no_blocks (plan_of h).blocks (spent first h c.1 c.0.finished).plan.blocks w.blocks
starts first (_ ∷ h) c between w = absurd cc

-- a machine that is to be halted slows down for that, or stands in alarm
pub halts_between : (first : Opening) (h : Journal) → Conducted first h → this_turn h ≡ [] → halts_next (left_of first h) ≡ true → is_limited (motion_of first h) ≡ true
halts_between first [] c between next = absurd (let e = sym next ∙ no_halt_told first.tells in cc)
halts_between first (turned Did ∷ h) c between next = c.0.halts next
halts_between first (turned (Wait o) ∷ h) c between next = c.0.ends.halts next
halts_between first (turned Done ∷ h) c between next = absurd (let e = sym (ap halts_next c.0.finished.left) ∙ next in cc)
halts_between first (_ ∷ h) c between next = absurd cc

-- ---- from try to try

-- where a line was begun since the last try, while a segment was due, a try is missed
abbrev Missed : Opening → Journal → Type 0
Missed first h = (begun_while_due first h ≡ 0) ⊎ ((begun_while_due first h ≡ 1) × (missed_of first h ≡ true))

missed_at_port : (first : Opening) (e : PortStep) (h : Journal) → Missed first h → Missed first (at_port e ∷ h)
missed_at_port first (published p) h m = inl refl
missed_at_port first (no_piece_room done) h m = inl refl
missed_at_port first _ h m = m

missed_by : (due : Bool) (n : ℕ) (missed : Bool) → (n ≡ 0) ⊎ ((n ≡ 1) × (missed ≡ true)) → (cond due n 0 ≡ 0) ⊎ ((cond due n 0 ≡ 1) × ((missed && due) ≡ true))
missed_by true n missed (inl none) = inl none
missed_by true n missed (inr one) = inr (one.0, rw one.1 refl)
missed_by false n missed m = inl refl

first_since : (due : Bool) (n : ℕ) (missed : Bool) → (n ≡ 0) ⊎ ((n ≡ 1) × (missed ≡ true)) → (missed && due) ≡ false → cond due n 0 + 1 ≡ 1
first_since true n missed (inl none) tried = rw none refl
first_since true n missed (inr one) tried = absurd (let e : (true && true) ≡ false = subst (λ (b : Bool). (b && true) ≡ false) one.1 tried in cc)
first_since false n missed m tried = refl

missed_is : (first : Opening) (h : Journal) → Conducted first h → Missed first h
missed_is first [] c = inl refl
missed_is first (at_port e ∷ h) c = missed_at_port first e h (missed_is first h c.1)
missed_is first (began o ∷ h) c = inr (first_since (is_due first h) (begun_while_due first h) (missed_of first h) (missed_is first h c.1) c.0.tried, refl)
missed_is first (turned t ∷ h) c = missed_by (is_due first h) (begun_while_due first h) (missed_of first h) (missed_is first h c.1)
missed_is first (_ ∷ h) c = missed_is first h c.1

pub one_line : (first : Opening) (h : Journal) → Conducted first h → begun_while_due first h ≤ 1
one_line first h c = by_case (missed_is first h c)
  where
    by_case : Missed first h → begun_while_due first h ≤ 1
    by_case (inl none) = omega (arith, none)
    by_case (inr one) = let e = one.0 in omega (arith, e)

-- ---- waits, each for something else

abbrev IsCause : On → Type 0
IsCause on.Byte = Unit {0}
IsCause on.ReplyRoom = Unit {0}
IsCause on.SegmentRoom = Unit {0}
IsCause on.Motion = Unit {0}
IsCause o = ⊥

abbrev NoneOf : On → List On → Type 0
NoneOf o [] = Unit {0}
NoneOf o (x ∷ xs) = (x ≡ o → ⊥) × NoneOf o xs

abbrev AreApart : List On → Type 0
AreApart [] = Unit {0}
AreApart (x ∷ xs) = IsCause x × NoneOf x xs × AreApart xs

tally : On → On → ℕ
tally on.Byte on.Byte = 1
tally on.ReplyRoom on.ReplyRoom = 1
tally on.SegmentRoom on.SegmentRoom = 1
tally on.Motion on.Motion = 1
tally o x = 0

tallies : On → List On → ℕ
tallies o [] = 0
tallies o (x ∷ xs) = tally o x + tallies o xs

other : (o x : On) → (x ≡ o → ⊥) → tally o x ≡ 0
unfolding tally
other on.Byte on.Byte apart = absurd (apart refl)
other on.ReplyRoom on.ReplyRoom apart = absurd (apart refl)
other on.SegmentRoom on.SegmentRoom apart = absurd (apart refl)
other on.Motion on.Motion apart = absurd (apart refl)
other o x apart = refl

same_or_none : (o x : On) → (tally o x ≡ 0) ⊎ ((tally o x ≡ 1) × (x ≡ o))
unfolding tally
same_or_none on.Byte on.Byte = inr (refl, refl)
same_or_none on.ReplyRoom on.ReplyRoom = inr (refl, refl)
same_or_none on.SegmentRoom on.SegmentRoom = inr (refl, refl)
same_or_none on.Motion on.Motion = inr (refl, refl)
same_or_none o x = inl refl

none_tallied : (o : On) (xs : List On) → NoneOf o xs → tallies o xs ≡ 0
unfolding tallies
none_tallied o [] none = refl
none_tallied o (x ∷ xs) none = let a = other o x none.0 in let b = none_tallied o xs none.1 in omega (arith, a, b)

tallied_once : (o : On) (xs : List On) → AreApart xs → tallies o xs ≤ 1
unfolding tallies
tallied_once o [] apart = omega arith
tallied_once o (x ∷ xs) apart = by_case (same_or_none o x) (tallied_once o xs apart.2)
  where
    by_case : (tally o x ≡ 0) ⊎ ((tally o x ≡ 1) × (x ≡ o)) → tallies o xs ≤ 1 → tallies o (x ∷ xs) ≤ 1
    by_case (inl none) b = omega (arith, none, b)
    by_case (inr one) b =
        let e = one.0 in
        let none = none_tallied o xs (subst (λ (y : On). NoneOf y xs) one.1 apart.1) in
        omega (arith, e, none)

one_of_four : (x : On) → IsCause x → tally on.Byte x + tally on.ReplyRoom x + tally on.SegmentRoom x + tally on.Motion x ≡ 1
unfolding tally
one_of_four on.Byte is = refl
one_of_four on.ReplyRoom is = refl
one_of_four on.SegmentRoom is = refl
one_of_four on.Motion is = refl
one_of_four x is = absurd is

all_tallied : (xs : List On) → AreApart xs → tallies on.Byte xs + tallies on.ReplyRoom xs + tallies on.SegmentRoom xs + tallies on.Motion xs ≡ length xs
unfolding tallies
all_tallied [] apart = refl
all_tallied (x ∷ xs) apart = let a = one_of_four x apart.0 in let b = all_tallied xs apart.2 in omega (arith, a, b)

four_at_most : (xs : List On) → AreApart xs → length xs ≤ 4
four_at_most xs apart =
    let all = all_tallied xs apart in
    let a = tallied_once on.Byte xs apart in let b = tallied_once on.ReplyRoom xs apart in
    let d = tallied_once on.SegmentRoom xs apart in let e = tallied_once on.Motion xs apart in
    omega (arith, all, a, b, d, e)

-- what is not contained is none of it
none_contained : (o : On) (xs : List On) → (Contains xs o → ⊥) → NoneOf o xs
none_contained o [] none = tt
none_contained o (x ∷ xs) none = ((λ e. none (0, omega arith, e)), none_contained o xs (λ some. none (suc some.0, (let lt = some.1 in omega (arith, lt)), some.2)))

-- what was waited for while a segment was due is among what was waited for
none_at : (o : On) (e : PortStep) (all due : List On) → (NoneOf o all → NoneOf o due) → NoneOf o (waits_at e all) → NoneOf o (waits_at e due)
none_at o (published p) all due few n = tt
none_at o (no_piece_room done) all due few n = tt
none_at o _ all due few n = few n

none_by : (o : On) (is : Bool) (t : Turn) (all due : List On) → (NoneOf o all → NoneOf o due) → NoneOf o (waits_by t all) → NoneOf o (cond is (waits_by t due) [])
none_by o false t all due few n = tt
none_by o true Did all due few n = few n
none_by o true (Wait x) all due few n = (n.0, few n.1)
none_by o true Done all due few n = few n

none_while_due : (first : Opening) (o : On) (h : Journal) → NoneOf o (waits_of h) → NoneOf o (waits_while_due first h)
none_while_due first o [] none = tt
none_while_due first o (at_port e ∷ h) none = none_at o e (waits_of h) (waits_while_due first h) (none_while_due first o h) none
none_while_due first o (turned t ∷ h) none = none_by o (is_due first h) t (waits_of h) (waits_while_due first h) (none_while_due first o h) none
none_while_due first o (_ ∷ h) none = none_while_due first o h none

-- where a segment is due, the machine is not held, so that it waits for no resume
a_cause : (first : Opening) (o : On) (h : Journal) → is_due first h ≡ true → Needs first o h → IsCause o
a_cause first on.Byte h due needs = tt
a_cause first on.ReplyRoom h due needs = tt
a_cause first on.SegmentRoom h due needs = tt
a_cause first on.Motion h due needs = tt
a_cause first on.Resume h due needs = absurd (let e = sym due ∙ ap (λ (m : Motion). has_segment m (plan_of h)) needs.held in cc)
a_cause first o h due needs = absurd needs

apart_at : (e : PortStep) (due : List On) → AreApart due → AreApart (waits_at e due)
apart_at (published p) due apart = tt
apart_at (no_piece_room done) due apart = tt
apart_at _ due apart = apart

apart_by : (first : Opening) (is : Bool) (t : Turn) (h : Journal) → is_due first h ≡ is → MayTurn first t h → AreApart (waits_while_due first h) → AreApart (cond is (waits_by t (waits_while_due first h)) [])
apart_by first false t h due may apart = tt
apart_by first true Did h due may apart = apart
apart_by first true (Wait o) h due may apart = (a_cause first o h due may.cause, none_while_due first o h (none_contained o (waits_of h) (may.round due)), apart)
apart_by first true Done h due may apart = apart

waits_apart : (first : Opening) (h : Journal) → Conducted first h → AreApart (waits_while_due first h)
waits_apart first [] c = tt
waits_apart first (at_port e ∷ h) c = apart_at e (waits_while_due first h) (waits_apart first h c.1)
waits_apart first (turned t ∷ h) c = apart_by first (is_due first h) t h refl c.0 (waits_apart first h c.1)
waits_apart first (_ ∷ h) c = waits_apart first h c.1

pub few_waits : (first : Opening) (h : Journal) → Conducted first h → length (waits_while_due first h) ≤ 4
few_waits first h c = four_at_most (waits_while_due first h) (waits_apart first h c)
