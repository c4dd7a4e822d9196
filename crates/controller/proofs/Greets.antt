-- The first turn of a controller tells the banner, or its port hands that back for want of room: before it is told nothing else may be done.
use Rattle.std.proofs.Common.{◌-◌, ◌≡◌, ◌⊎◌, inl, inr, ℕ, ◌≤◌, ◌<◌, Bool, true, false, ◌||◌, ◌&&◌, nat_eq, List, [], ◌∷◌, ◌++◌, length, Some, refl, sym, ap, ◌∙◌, subst, append-nil, arith}
use Rattle.std.specs.List.{list_any}
use Rattle.feed_hold.specs.declared.Motion.{Motion}
use Rattle.feed_hold.specs.declared.Motion.TheVariants as motions
use Rattle.feed_hold.specs.Motions.{Call, after, is_stopping}
use Rattle.feed_hold.specs.Motions.Call.{on_exec, on_start, on_limit, on_pause, on_stopped, on_drained, on_unlock}
use Rattle.outside.specs.declared.On.TheVariants as on
use Rattle.outside.specs.declared.Turn.{Turn}
use Rattle.outside.specs.declared.Turn.TheVariants.{Did, Wait, Done}
use Rattle.plan_rules.specs.declared.Mode.TheVariants.{Go, Hold}
use Rattle.planner_runs.specs.declared.Action.{Action}
use Rattle.planner_runs.specs.declared.Action.TheVariants.{Add, Take, Override, Mark, Rest, Clear, Reset}
use Rattle.run_rules.specs.declared.State.{State}
use Rattle.run_rules.specs.Work.{Task, tells}
use Rattle.run_rules.specs.Work.Task.{tell}
use Rattle.status_report.specs.declared.Reply.{Reply}
use Rattle.status_report.specs.declared.Reply.TheVariants.{Banner}
use Rattle.status_report.specs.Answering.{is_banner}
use Rattle.step_line.specs.declared.Piece.{Piece}
use Rattle.board_rules.specs.Conduct.{Conducted, MayAtPort, MayDo, Gives, MayHappen}
use Rattle.board_journal.specs.Openings.{Opening, first_opening}
use Rattle.board_journal.specs.Ports.{PortStep}
use Rattle.board_journal.specs.Ports.PortStep.{took, answered, reported, no_reply_room, took_exec, published, no_piece_room}
use Rattle.board_journal.specs.Steps.{Journal, answered_of, left_of, closed_tells, hand_of, plan_of, motion_of}
use Rattle.board_journal.specs.Steps.Step.{at_port, began, did, made_end, evened, paused, became, cut, halted, closing, turned}
use Rattle.board_rules.specs.Turns.{this_turn, moving, is_greeted, unobeyed_of, owes_report, tells_next, awaits_motion, lacks_reply_room, lacks_piece_room, has_blocks, is_going, is_held_up}
use Rattle.board_rules.proofs.Greeted.{greeted_where, owed_greeted, reported_greeted, greets_still, greets_first}
use Rattle.board_epochs.specs.Epochs.{Epochs}
use Rattle.board_epochs.specs.Epochs.Epochs.{goes, resets}
use Rattle.board_turns.specs.declared.board.Flags.{Flags}
use Rattle.board_turns.specs.declared.board.Flags.TheVariants as words
use Rattle.board_turns.specs.Boards.{TakesFlags, words_left, number_of}
use Rattle.units.specs.Truths.{one_if}
use Rattle.controller.specs.declared.controller.Controller.{Controller}
use Rattle.controller.specs.Boards.{BoardFits, BoardTurned, added, parted, number_in, epoch_of, GreetsFirst}

-- ---- before the banner

apart : {A : Type 0} (b : Bool) → b ≡ true → b ≡ false → A
apart b holds fails = absurd (let e = sym holds ∙ fails in cc)

-- where no reply is next the banner is told
unasked : {A : Type 0} (first : Opening) (h : Journal) (ts : List Task) → Conducted first h → is_greeted h ≡ false → left_of first h ≡ ts → tells_next ts ≡ false → A
unasked first h ts c none is mute = apart (is_greeted h) (greeted_where first h c (ap tells_next is ∙ mute)) none

right_none : (a b : Bool) → (a || b) ≡ false → b ≡ false
right_none true b e = absurd cc
right_none false b e = e

left_none : {A : Type 0} (a b : Bool) → a ≡ true → (a || b) ≡ false → A
left_none true b holds e = absurd cc
left_none false b holds e = absurd cc

before : (e : PortStep) (h : Journal) → is_greeted (at_port e ∷ h) ≡ false → is_greeted h ≡ false
before (answered r) h none = right_none (is_banner r) (is_greeted h) none
before _ h none = none

-- the machine stands idle, nothing is planned or in hand, and no word waits
record StandsBy (first : Opening) (h : Journal) : Type 0 where
  motion : motion_of first h ≡ motions.Idle
  blocks : (plan_of h).blocks ≡ []
  hand : hand_of h ≡ []
  words : unobeyed_of h ≡ []

port_stays : (first : Opening) (e : PortStep) (h : Journal) → MayAtPort first e h → is_greeted h ≡ false → StandsBy first h → StandsBy first (at_port e ∷ h)
port_stays first (took_exec word) h may none s = apart (is_greeted h) may.greeted none
port_stays first (published p) h may none s = absurd (let e = sym may.0 ∙ s.hand in cc)
port_stays first e h may none s = record { motion = s.motion; blocks = s.blocks; hand = s.hand; words = s.words }

did_stays : (first : Opening) (a : Action) (ps : List Piece) (h : Journal) → MayDo first a h → Gives first.blocks a ps (plan_of h) → Conducted first h → is_greeted h ≡ false → StandsBy first h → StandsBy first (did a ps ∷ h)
did_stays first (Add m) ps h may gives c none s = unasked first h _ c none may refl
did_stays first (Mark m) ps h may gives c none s = unasked first h _ c none may.next refl
did_stays first Rest ps h may gives c none s = unasked first h _ c none may.next refl
did_stays first (Take Go) ps h may gives c none s = absurd (let e = sym (ap is_going s.motion) ∙ may.goes in cc)
did_stays first (Take Hold) ps h may gives c none s = absurd (let e = sym (ap is_stopping s.motion) ∙ may.slows in cc)
did_stays first (Override o) [] h may gives c none s = record { motion = s.motion; blocks = s.blocks; hand = append-nil (hand_of h) ∙ s.hand; words = s.words }
did_stays first (Override o) (p ∷ ps) h may gives c none s = absurd gives.1
did_stays first Clear ps h may gives c none s = absurd may
did_stays first Reset ps h may gives c none s = absurd may

call_stays : (first : Opening) (call : Call) (m : Motion) (h : Journal) → after call (motion_of first h) ≡ Some m → MayHappen first call h → Conducted first h → is_greeted h ≡ false → StandsBy first h → StandsBy first (became call m ∷ h)
call_stays first (on_exec word queued) m h is may c none s = absurd (let e = sym may.next ∙ s.words in cc)
call_stays first (on_start jog) m h is may c none s = absurd (let e = sym (ap has_blocks s.blocks) ∙ may.blocks in cc)
call_stays first on_limit m h is may c none s = unasked first h _ c none may.next refl
call_stays first on_pause m h is may c none s = absurd may
call_stays first on_stopped m h is may c none s = absurd (let e = sym (ap (after on_stopped) s.motion) ∙ is in cc)
call_stays first on_drained m h is may c none s =
    record { motion = (let e : Some motions.Idle ≡ Some m = sym (ap (after on_drained) s.motion) ∙ is in cc); blocks = s.blocks; hand = s.hand; words = s.words }
call_stays first on_unlock m h is may c none s = absurd (let e = sym (ap (after on_unlock) s.motion) ∙ is in cc)

stands_by : (first : Opening) (h : Journal) → first.motion ≡ motions.Idle → Conducted first h → is_greeted h ≡ false → StandsBy first h
stands_by first [] idle c none = record { motion = idle; blocks = refl; hand = refl; words = refl }
stands_by first (at_port e ∷ h) idle c none = let was = before e h none in port_stays first e h c.0 was (stands_by first h idle c.1 was)
stands_by first (began o ∷ h) idle c none = unasked first h _ c.1 none c.0.free refl
stands_by first (did a ps ∷ h) idle c none = did_stays first a ps h c.0.0 c.0.1 c.1 none (stands_by first h idle c.1 none)
stands_by first (made_end ∷ h) idle c none = unasked first h _ c.1 none c.0.next refl
stands_by first (evened ∷ h) idle c none = unasked first h _ c.1 none c.0.rests.next refl
stands_by first (paused ∷ h) idle c none = unasked first h _ c.1 none c.0.rests.next refl
stands_by first (became call m ∷ h) idle c none = call_stays first call m h c.0.0 c.0.1 c.1 none (stands_by first h idle c.1 none)
stands_by first (cut k ∷ h) idle c none = let s = stands_by first h idle c.1 none in absurd (let e = sym s.motion ∙ c.0.cancelled in cc)
stands_by first (halted ∷ h) idle c none = unasked first h _ c.1 none c.0.next refl
stands_by first (closing ∷ h) idle c none = unasked first h _ c.1 none c.0.free refl
stands_by first (turned t ∷ h) idle c none = let s = stands_by first h idle c.1 none in record { motion = s.motion; blocks = s.blocks; hand = s.hand; words = s.words }

unclosed : (first : Opening) (h : Journal) → Conducted first h → is_greeted h ≡ false → closed_tells h ≡ []
unclosed first [] c none = refl
unclosed first (at_port (answered r) ∷ h) c none = unclosed first h c.1 (right_none (is_banner r) (is_greeted h) none)
unclosed first (closing ∷ h) c none = unasked first h _ c.1 none c.0.free refl
unclosed first (_ ∷ h) c none = unclosed first h c.1 none

unowed : (first : Opening) (h : Journal) → Conducted first h → is_greeted h ≡ false → owes_report h ≡ false
unowed first h c none = by_test (owes_report h) refl
  where
    by_test : (t : Bool) → owes_report h ≡ t → owes_report h ≡ false
    by_test true e = apart (is_greeted h) (owed_greeted first h c e) none
    by_test false e = e

-- ---- nothing moves

one_reply : (rs : List Reply) (r : Reply) (more : List Reply) → rs ++ r ∷ more ≡ Banner ∷ [] → r ≡ Banner
one_reply [] r more e = cc
one_reply (a ∷ []) r more e = absurd cc
one_reply (a ∷ b ∷ rs) r more e = absurd cc

-- the reply that is next is the banner
next_greets : (first : Opening) (r : Reply) (h : Journal) → first.tells ≡ Banner ∷ [] → Conducted first (at_port (answered r) ∷ h) → is_greeted h ≡ false → is_banner r ≡ true
next_greets first r h greets c none =
    ap is_banner (one_reply (answered_of h) r _ (ap (λ (ts : List Task). answered_of h ++ tells ts) (sym c.0.next) ∙ greets_still first h c.1 none ∙ greets))

none_moves : (first : Opening) (h : Journal) → first.motion ≡ motions.Idle → first.tells ≡ Banner ∷ [] → Conducted first h → is_greeted h ≡ false → list_any moving (this_turn h) ≡ false
none_moves first [] idle greets c none = refl
none_moves first (at_port (took b) ∷ h) idle greets c none = unasked first h _ c.1 none c.0.polls.all_done refl
none_moves first (at_port (answered r) ∷ h) idle greets c none =
    left_none (is_banner r) (is_greeted h) (next_greets first r h greets c (right_none (is_banner r) (is_greeted h) none)) none
none_moves first (at_port (reported r) ∷ h) idle greets c none = apart (is_greeted h) (reported_greeted first r h c) none
none_moves first (at_port (published p) ∷ h) idle greets c none = let s = stands_by first h idle c.1 none in absurd (let e = sym c.0.0 ∙ s.hand in cc)
none_moves first (began o ∷ h) idle greets c none = unasked first h _ c.1 none c.0.free refl
none_moves first (did (Add m) ps ∷ h) idle greets c none = unasked first h _ c.1 none c.0.0 refl
none_moves first (turned t ∷ h) idle greets c none = refl
none_moves first (_ ∷ h) idle greets c none = none_moves first h idle greets c.1 none

none_kept : (first : Opening) (h : Journal) → first.motion ≡ motions.Idle → Conducted first h → is_greeted h ≡ false → list_any lacks_piece_room (this_turn h) ≡ false
none_kept first [] idle c none = refl
none_kept first (at_port (answered r) ∷ h) idle c none = none_kept first h idle c.1 (right_none (is_banner r) (is_greeted h) none)
none_kept first (at_port (no_piece_room done) ∷ h) idle c none = let s = stands_by first h idle c.1 none in absurd (c.0.some s.hand)
none_kept first (turned t ∷ h) idle c none = refl
none_kept first (_ ∷ h) idle c none = none_kept first h idle c.1 none

-- ---- so a turn that is over has a cause

handed : (h : Journal) → list_any lacks_reply_room (this_turn h) ≡ true → list_any lacks_reply_room h ≡ true
handed [] has = absurd cc
handed (at_port no_reply_room ∷ h) has = refl
handed (turned t ∷ h) has = absurd cc
handed (_ ∷ h) has = handed h has

awaits_no_tell : (ts : List Task) → awaits_motion ts ≡ true → tells_next ts ≡ false
awaits_no_tell [] e = refl
awaits_no_tell (tell r ∷ ts) e = absurd cc
awaits_no_tell (_ ∷ ts) e = refl

either : {A : Type 0} (a b : Bool) → (a || b) ≡ true → b ≡ false → (a ≡ true → A) → A
either true b e none by = by refl
either false b e none by = absurd (let f = sym e ∙ none in cc)

both_none : (a b : Bool) → a ≡ false → (a && b) ≡ false
both_none false b e = refl
both_none true b e = absurd cc

words_some : (f : Flags) (h : Journal) → TakesFlags f h → owes_report h ≡ false → 1 ≤ words_left f
words_some words.Both h takes none = omega arith
words_some words.Requests h takes none = omega arith
words_some words.None h takes none = omega arith
words_some (words.Report word) h takes none = apart (owes_report h) takes.owed none

words_first : (f : Flags) → TakesFlags f [] → words_left f ≡ 1
words_first words.Both takes = absurd (let e = takes.greeted in cc)
words_first words.Requests takes = absurd (let e = takes.greeted in cc)
words_first words.None takes = refl
words_first (words.Report word) takes = absurd (let e = takes.owed in cc)

-- the board's number is as great as before its first turn
never_less : {A : Type 0} (blocks : ℕ) (state : State) (f was : Flags) (h : Journal) → TakesFlags f (turned Did ∷ h) → TakesFlags was [] → Conducted (first_opening blocks state) (turned Did ∷ h) → is_greeted h ≡ false
    → number_of (first_opening blocks state) f (turned Did ∷ h) < number_of (first_opening blocks state) was [] → A
never_less blocks state f was h takes takes_first c none falls =
    let some = words_some f (turned Did ∷ h) takes (unowed (first_opening blocks state) (turned Did ∷ h) c none) in
    let one = words_first was takes_first in
    let closed = ap (λ (rs : List Reply). one_if (nat_eq (length rs) 0)) (unclosed (first_opening blocks state) h c.1 none) in
    absurd (omega (arith, some, one, closed, falls))

-- a turn that does nothing, and does not tell the banner, was handed it back
ungreeted : (t : Turn) (first : Opening) (h : Journal) → first.motion ≡ motions.Idle → Conducted first (turned t ∷ h) → is_greeted h ≡ false → (t ≡ Did → ⊥) → list_any lacks_reply_room h ≡ true
ungreeted Did first h idle c none other = absurd (other refl)
ungreeted (Wait on.Byte) first h idle c none other = unasked first h _ c.1 none c.0.cause.free refl
ungreeted (Wait on.ReplyRoom) first h idle c none other = handed h c.0.cause
ungreeted (Wait on.SegmentRoom) first h idle c none other = apart (list_any lacks_piece_room (this_turn h)) c.0.cause (none_kept first h idle c.1 none)
ungreeted (Wait on.Motion) first h idle c none other =
    let s = stands_by first h idle c.1 none in
    either (awaits_motion (left_of first h)) (is_stopping (motion_of first h) && is_held_up first h) c.0.cause.awaits (both_none (is_stopping (motion_of first h)) (is_held_up first h) (ap is_stopping s.motion))
    (λ e. unasked first h _ c.1 none refl (awaits_no_tell (left_of first h) e))
ungreeted (Wait on.Resume) first h idle c none other = let s = stands_by first h idle c.1 none in absurd (let e = sym s.motion ∙ c.0.cause.held in cc)
ungreeted (Wait o) first h idle c none other = absurd c.0.cause
ungreeted Done first h idle c none other = absurd (let e = sym (unclosed first h c.1 none) ∙ c.0.finished.closed in cc)

-- ---- the first turn

told_first : (blocks : ℕ) (state : State) (h : Journal) → Conducted (first_opening blocks state) h → is_greeted h ≡ true → GreetsFirst h
told_first blocks state h c greeted = let b = greets_first (first_opening blocks state) h c greeted in inl (b.0, b.1)

-- a turn that answers Did, and has not told the banner, would move something, or lower the number: it does neither
did_none : {N : ℕ} (was is : Controller N) (state : State) (h : Journal) → TakesFlags is.board.flags (turned Did ∷ h) → TakesFlags was.board.flags [] → Conducted (first_opening (N - 1) state) (turned Did ∷ h) → is_greeted h ≡ false
    → (list_any moving (this_turn h) ≡ true) ⊎ ((s : State) → number_in s is (goes [] (turned Did ∷ h)) < number_in s was (goes [] [])) → ⊥
did_none {N} was is state h takes takes_first c none (inl moved) = apart (list_any moving (this_turn h)) moved (none_moves (first_opening (N - 1) state) h refl refl c.1 none)
did_none {N} was is state h takes takes_first c none (inr falls) =
    let now : number_in state is (goes [] (turned Did ∷ h)) < number_in state was (goes [] []) = falls state in
    never_less (N - 1) state is.board.flags was.board.flags h takes takes_first c none (omega (arith, now))

not_did : {N : ℕ} (t : Turn) (was is : Controller N) (state : State) (h : Journal) → TakesFlags is.board.flags (turned t ∷ h) → TakesFlags was.board.flags [] → Conducted (first_opening (N - 1) state) (turned t ∷ h) → is_greeted h ≡ false
    → (t ≡ Did → (list_any moving (this_turn h) ≡ true) ⊎ ((s : State) → number_in s is (goes [] (turned t ∷ h)) < number_in s was (goes [] []))) → t ≡ Did → ⊥
not_did Did was is state h takes takes_first c none moves same = did_none was is state h takes takes_first c none (moves refl)
not_did (Wait o) was is state h takes takes_first c none moves same = absurd cc
not_did Done was is state h takes takes_first c none moves same = absurd cc

greets_or_not : {N : ℕ} (t : Turn) (was is : Controller N) (state : State) (h : Journal) → TakesFlags is.board.flags (turned t ∷ h) → TakesFlags was.board.flags [] → Conducted (first_opening (N - 1) state) (turned t ∷ h)
    → (t ≡ Did → (list_any moving (this_turn h) ≡ true) ⊎ ((s : State) → number_in s is (goes [] (turned t ∷ h)) < number_in s was (goes [] []))) → (b : Bool) → is_greeted h ≡ b → GreetsFirst (turned t ∷ h)
greets_or_not {N} t was is state h takes takes_first c moves true greeted = told_first (N - 1) state (turned t ∷ h) c greeted
greets_or_not {N} t was is state h takes takes_first c moves false none = inr (ungreeted t (first_opening (N - 1) state) h refl c none (not_did t was is state h takes takes_first c none moves))

-- the epoch goes on behind it
went_on : {N : ℕ} (t : Turn) (was is : Controller N) (h : Journal) → BoardFits was (goes [] []) → BoardFits is (goes [] (turned t ∷ h))
    → (t ≡ Did → (list_any moving (this_turn h) ≡ true) ⊎ ((s : State) → number_in s is (goes [] (turned t ∷ h)) < number_in s was (goes [] []))) → GreetsFirst (turned t ∷ h)
went_on t was is h f g moves = greets_or_not t was is g.0 h g.2.board.flags f.2.board.flags g.2.epochs.1.conducted moves (is_greeted h) refl

-- a reset is worked behind it
parted_on : {N : ℕ} (t : Turn) (is : Controller N) (h : Journal) → BoardFits is (resets [] (turned t ∷ h) []) → GreetsFirst (turned t ∷ h)
parted_on {N} t is h g =
    let resetting = g.2.epochs.1 in
    told_first (N - 1) g.0 (turned t ∷ h) resetting.epoch.conducted (greeted_where (first_opening (N - 1) g.0) (turned t ∷ h) resetting.epoch.conducted resetting.may.told)

pub greets_at_once : {N : ℕ} (t : Turn) (was is : Controller N) (next : Epochs) → BoardFits was (goes [] []) → BoardFits is next → BoardTurned t was is (goes [] []) next → GreetsFirst (epoch_of next)
greets_at_once t was is next f g w = by_are w.are
  where
    by_are : (next ≡ added t w.steps (goes [] [])) ⊎ (next ≡ parted (added t w.steps (goes [] []))) → GreetsFirst (epoch_of next)
    by_are (inl e) =
        subst (λ (n : Epochs). GreetsFirst (epoch_of n)) (sym e)
        (went_on t was is (w.steps ++ []) f (subst (λ (n : Epochs). BoardFits is n) e g)
        (λ same. subst (λ (n : Epochs). (list_any moving (this_turn (w.steps ++ [])) ≡ true) ⊎ ((s : State) → number_in s is n < number_in s was (goes [] []))) e (w.moves same)))
    by_are (inr e) = subst (λ (n : Epochs). GreetsFirst (epoch_of n)) (sym e) (parted_on t is (w.steps ++ []) (subst (λ (n : Epochs). BoardFits is n) e g))
