-- What a step adds to a turn: what nothing passes with, and what was tried to be published.
use Rattle.std.proofs.Common.{◌≡◌, ℕ, ◌+◌, ◌≤◌, inl, inr, Bool, List, [], ◌∷◌, ◌++◌, ◌-◌, ◌&&◌, ◌||◌, cond, nat_lt, drop, true, false, not, refl, sym, ap, ◌∙◌, subst, arith, append_assoc}
use Rattle.std.specs.List.{list_any, count_by}
use Rattle.std.proofs.lemmas.List.Folds.{list_any-append}
use Rattle.std.proofs.lemmas.List.Sums.{sum_by-cons}
use Rattle.std.proofs.lemmas.Bool.Decides.{nat_tests}
use Rattle.feed_hold.specs.declared.Motion.{Motion}
use Rattle.feed_hold.specs.declared.Motion.TheVariants as motions
use Rattle.feed_hold.specs.Motions.{Call}
use Rattle.feed_hold.specs.Motions.Call.{on_exec}
use Rattle.code_table.specs.declared.flags.Exec.{Exec}
use Rattle.run_rules.specs.Work.{Task, pauses}
use Rattle.step_line.specs.declared.Piece.{Piece}
use Rattle.step_line.specs.declared.Piece.TheVariants as pieces
use Rattle.step_line.specs.declared.Segment.{Segment}
use Rattle.plan_rules.specs.Plans.{Planned}
use Rattle.plan_rules.specs.Segments.{advanced}
use Rattle.plan_rules.specs.declared.Mode.{Mode}
use Rattle.planner_runs.specs.declared.Action.{Action}
use Rattle.planner_runs.specs.declared.Action.TheVariants.{Take}
use Rattle.board_journal.specs.Openings.{Opening}
use Rattle.board_journal.specs.Ports.PortStep.{published, no_piece_room, loaded}
use Rattle.board_journal.specs.Steps.{Step, Journal, left_of, whole_of, left_by, without_asks, hand_of, plan_of, motion_of}
use Rattle.board_journal.specs.Steps.Step.{at_port, began, did, made_end, evened, became, cut, halted, closing, turned}
use Rattle.board_rules.specs.Cuts.{has_cut, is_cancelling}
use Rattle.board_rules.proofs.Dropping.{pauses_kept}
use Rattle.board_rules.specs.Turns.{this_turn, publishing, moving, ends_turn, obeys, unobeyed_by, unobeyed_of, owes_report, takes_changes, replans, is_full, has_segment, is_due, is_halting, is_counted, counts_tries, is_reply_back, is_report_back, tries_of}
use Rattle.board_rules.specs.Conduct.{AreWaiting}
use Rattle.units.specs.Truths.{one_if}
use Rattle.board_rules.specs.Within.{changes_left, tells_none, ahead, tries_ahead, AreWorked, PassesNothing, DidAlone, MayHaveLooked, Tried, HasTried}
use Rattle.board_rules.proofs.Truths.{either_right}
use Rattle.plan_rules.proofs.Reached.{length-moved}
use Rattle.board_rules.proofs.Ahead.{none_left, no_more, fewer_pauses, pauses_by, Shrinks, shrinks_same, shrinks_first, shrinks_cut, shrinks_by, shrinks_ahead, less_ahead, none_ahead, ahead_unspoken}

-- ---- one step of a turn

-- a step that is not counted
pub counts_none : (f : Step → Bool) (s : Step) (ss : List Step) → f s ≡ false → count_by f (s ∷ ss) ≡ count_by f ss
counts_none f s ss none = sum_by-cons (λ x. cond (f x) 1 0) s ss ∙ ap (λ t. cond {A = ℕ} t 1 0 + count_by f ss) none ∙ omega arith

-- and one that is
pub counts_one : (f : Step → Bool) (s : Step) (ss : List Step) → f s ≡ true → count_by f (s ∷ ss) ≡ count_by f ss + 1
counts_one f s ss one = sum_by-cons (λ x. cond (f x) 1 0) s ss ∙ ap (λ t. cond {A = ℕ} t 1 0 + count_by f ss) one ∙ omega arith

pub publishes_none : (s : Step) (ss : List Step) → publishing s ≡ false → count_by publishing (s ∷ ss) ≡ count_by publishing ss
publishes_none s ss none = counts_none publishing s ss none

pub publishes_one : (s : Step) (ss : List Step) → publishing s ≡ true → count_by publishing (s ∷ ss) ≡ count_by publishing ss + 1
publishes_one s ss one = counts_one publishing s ss one

-- a step that has nothing to do with words of flags
pub record IsNoWord (s : Step) : Type 0 where
  pub no_changes : takes_changes s ≡ false
  pub none_planned : replans s ≡ false

pub worked_behind : (s : Step) (h next : Journal) → this_turn next ≡ s ∷ this_turn h → IsNoWord s → owes_report next ≡ owes_report h → unobeyed_of next ≡ unobeyed_of h → AreWorked h → AreWorked next
worked_behind s h next is plain owed words w = record {
  obeyed = λ none. words ∙ w.obeyed (sym owed ∙ none);
  changed = ap (λ (ss : List Step). count_by replans ss) is ∙ counts_none replans s (this_turn h) plain.none_planned ∙ w.changed ∙ sym (counts_none takes_changes s (this_turn h) plain.no_changes)
      ∙ sym (ap (λ (ss : List Step). count_by takes_changes ss) is);
}

-- a machine that is not held, nor slows down to a stop, still is not
changes_some : (m : Motion) (has : Bool) → is_halting m ≡ true → 1 ≤ changes_left m has
changes_some motions.Holding has halts = omega arith
changes_some motions.Held has halts = omega arith
changes_some motions.Cancelling true halts = omega arith
changes_some motions.Cancelling false halts = omega arith
changes_some m has halts = absurd cc

some_changes : (m : Motion) (has : Bool) → 1 ≤ changes_left m has → is_halting m ≡ true
some_changes motions.Holding has some = refl
some_changes motions.Held has some = refl
some_changes motions.Cancelling has some = refl
some_changes m has some = absurd (omega (arith, some))

halted_before : (was now : Motion) (had has : Bool) → changes_left now has ≤ changes_left was had → is_halting now ≡ true → is_halting was ≡ true
halted_before was now had has fewer halts = let some = changes_some now has halts in some_changes was had (omega (arith, some, fewer))

-- so where no try is counted, none was
unless : (x y : Bool) → (x ≡ true → y ≡ true) → y ≡ false → x ≡ false
unless true y more none = absurd (let e = sym (more refl) ∙ none in cc)
unless false y more none = refl

still_counted : (owing now was whole : Bool) (ts us : List Task) (back : Bool) → Shrinks ts us → (now ≡ true → was ≡ true) → (not owing && (not (now && whole) && counts_tries us back)) ≡ false
    → (not owing && (not (was && whole) && counts_tries ts back)) ≡ false
still_counted true now was whole ts us back s before none = refl
still_counted false now true true ts us back s before none = refl
still_counted false true false true ts us back s before none = absurd (let e = before refl in cc)
still_counted false false false true ts us back s before none = unless (counts_tries ts back) (counts_tries us back) (s.counts back) none
still_counted false true true false ts us back s before none = unless (counts_tries ts back) (counts_tries us back) (s.counts back) none
still_counted false true false false ts us back s before none = unless (counts_tries ts back) (counts_tries us back) (s.counts back) none
still_counted false false true false ts us back s before none = unless (counts_tries ts back) (counts_tries us back) (s.counts back) none
still_counted false false false false ts us back s before none = unless (counts_tries ts back) (counts_tries us back) (s.counts back) none

-- a step by itself that no line begins with, and no turn ends with
abbrev is_quiet : Step → Bool
is_quiet (at_port e) = false
is_quiet (began o) = false
is_quiet closing = false
is_quiet (turned t) = false
is_quiet _ = true

-- nothing passes with it if it leaves the words, and the plan is not made anew
passes_step : (first : Opening) (s : Step) (h : Journal) → is_quiet s ≡ true → unobeyed_of (s ∷ h) ≡ unobeyed_of h → replans s ≡ false → pauses (left_of first (s ∷ h)) ≤ pauses (left_of first h)
    → changes_left (motion_of first (s ∷ h)) (has_cut (s ∷ h)) ≤ changes_left (motion_of first h) (has_cut h) → ((left_of first (s ∷ h) ≡ [] → ⊥) → left_of first h ≡ [] → ⊥) → Shrinks (left_of first h) (left_of first (s ∷ h))
    → PassesNothing first h (s ∷ h)
passes_step first (at_port e) h quiet words same pauses changes less shrinks = absurd cc
passes_step first (began o) h quiet words same pauses changes less shrinks = absurd cc
passes_step first closing h quiet words same pauses changes less shrinks = absurd cc
passes_step first (turned t) h quiet words same pauses changes less shrinks = absurd cc
passes_step first s h quiet words same pauses changes less shrinks = record {
  steps = s ∷ [];
  are = refl;
  inner = refl;
  still = refl;
  quiet = publishes_none s (this_turn h) refl;
  polled = refl;
  room = refl;
  moves = λ e. either_right (moving s) (list_any moving (this_turn h)) e;
  loaded = λ e. e;
  waits = refl;
  tries = refl;
  missed = refl;
  jogged = refl;
  raw = refl;
  whole = refl;
  closed = refl;
  flags = refl;
  replies = refl;
  owed = refl;
  words = words;
  worked = worked_behind s h (s ∷ h) refl (record { no_changes = refl; none_planned = same }) refl words;
  pauses = pauses;
  changes = changes;
  less = less;
  ahead = shrinks_ahead (left_of first h) (left_of first (s ∷ h)) (whole_of h) (is_reply_back h) shrinks;
  counted =
      still_counted (owes_report h && is_report_back h) (is_halting (motion_of first (s ∷ h))) (is_halting (motion_of first h)) (whole_of h) (left_of first h) (left_of first (s ∷ h)) (not (owes_report h) && is_reply_back h) shrinks
      (halted_before (motion_of first h) (motion_of first (s ∷ h)) (has_cut h) (has_cut (s ∷ h)) changes);
}

-- something is done to the plan that is not made anew
pub passes_did : (first : Opening) (a : Action) (ps : List Piece) (h : Journal) → replans (did a ps) ≡ false → PassesNothing first h (did a ps ∷ h)
passes_did first a ps h same = passes_step first (did a ps) h refl refl same (pauses_by a (left_of first h)) (no_more (changes_left (motion_of first h) (has_cut h))) (λ some none. some (ap (left_by a) none ∙ none_left a)) (shrinks_by a (left_of first h))

-- what is planned is dropped where a machine is halted
pub passes_halted : (first : Opening) (h : Journal) → PassesNothing first h (halted ∷ h)
passes_halted first h = passes_step first halted h refl refl refl (fewer_pauses (left_of first h)) (no_more (changes_left (motion_of first h) (has_cut h))) (λ some none. some (ap (λ (ts : List Task). drop 1 ts) none)) (shrinks_first (left_of first h))

-- the end is made
pub passes_end : (first : Opening) (h : Journal) → PassesNothing first h (made_end ∷ h)
passes_end first h = passes_step first made_end h refl refl refl (fewer_pauses (left_of first h)) (no_more (changes_left (motion_of first h) (has_cut h))) (λ some none. some (ap (λ (ts : List Task). drop 1 ts) none)) (shrinks_first (left_of first h))

-- each override is set to 100 percent
pub passes_even : (first : Opening) (h : Journal) → PassesNothing first h (evened ∷ h)
passes_even first h = passes_step first evened h refl refl refl (fewer_pauses (left_of first h)) (no_more (changes_left (motion_of first h) (has_cut h))) (λ some none. some (ap (λ (ts : List Task). drop 1 ts) none)) (shrinks_first (left_of first h))

-- a call that is no word leaves the words
words_stay : (call : Call) (now : Motion) (words : List Exec) → obeys (became call now) ≡ false → unobeyed_by call words ≡ words
words_stay (on_exec word queued) now words by_itself = absurd cc
words_stay _ now words by_itself = refl

-- the motion starts, or is over
pub passes_motion : (first : Opening) (call : Call) (now : Motion) (h : Journal) → obeys (became call now) ≡ false → changes_left now (is_cancelling now && has_cut h) ≤ changes_left (motion_of first h) (has_cut h) → PassesNothing first h (became call now ∷ h)
passes_motion first call now h by_itself fewer = passes_step first (became call now) h refl (words_stay call now (unobeyed_of h) by_itself) refl (no_more (pauses (left_of first h))) fewer (λ some. some) (shrinks_same (left_of first h))

-- a cut is a change less
cut_lowers : (m : Motion) (was : Bool) → changes_left m true ≤ changes_left m was
cut_lowers motions.Cancelling true = omega arith
cut_lowers motions.Cancelling false = omega arith
cut_lowers _ was = omega arith

-- jogs are cut
pub passes_cut : (first : Opening) (k : ℕ) (h : Journal) → PassesNothing first h (cut k ∷ h)
passes_cut first k h = passes_step first (cut k) h refl refl refl (let e = pauses_kept (left_of first h) in omega (arith, e)) (cut_lowers (motion_of first h) (has_cut h)) (λ some none. some (ap without_asks none)) (shrinks_cut (left_of first h))

-- it is looked how many ticks are done
pub passes_load : (first : Opening) (done : ℕ) (h : Journal) → PassesNothing first h (at_port (loaded done) ∷ h)
passes_load first done h = record {
  steps = at_port (loaded done) ∷ [];
  are = refl;
  inner = refl;
  still = refl;
  quiet = publishes_none (at_port (loaded done)) (this_turn h) refl;
  polled = refl;
  room = refl;
  moves = λ e. e;
  loaded = λ e. refl;
  waits = refl;
  tries = refl;
  missed = refl;
  jogged = refl;
  raw = refl;
  whole = refl;
  closed = refl;
  flags = refl;
  replies = refl;
  owed = refl;
  words = refl;
  worked = worked_behind (at_port (loaded done)) h (at_port (loaded done) ∷ h) refl (record { no_changes = refl; none_planned = refl }) refl refl;
  pauses = no_more (pauses (left_of first h));
  changes = no_more (changes_left (motion_of first h) (has_cut h));
  less = λ some. some;
  ahead = no_more (tries_ahead first h);
  counted = λ e. e;
}

-- ---- no step, and some after others

-- steps of one turn come behind others of it
pub none_ends : (late early : List Step) → list_any ends_turn late ≡ false → list_any ends_turn early ≡ false → list_any ends_turn (late ++ early) ≡ false
none_ends late early none_late none_early = list_any-append ends_turn late early ∙ ap (λ x. x || list_any ends_turn early) none_late ∙ none_early

pub passes_none : (first : Opening) (h : Journal) → PassesNothing first h h
passes_none first h = record {
  steps = [];
  are = refl;
  inner = refl;
  still = refl;
  quiet = refl;
  polled = refl;
  room = refl;
  moves = λ e. e;
  loaded = λ e. e;
  waits = refl;
  tries = refl;
  missed = refl;
  jogged = refl;
  raw = refl;
  whole = refl;
  closed = refl;
  flags = refl;
  replies = refl;
  owed = refl;
  words = refl;
  worked = λ w. w;
  pauses = no_more (pauses (left_of first h));
  changes = no_more (changes_left (motion_of first h) (has_cut h));
  less = λ some. some;
  ahead = no_more (tries_ahead first h);
  counted = λ e. e;
}

pub are_both : (h mid next : Journal) (some more : List Step) → mid ≡ some ++ h → next ≡ more ++ mid → next ≡ (more ++ some) ++ h
are_both h mid next some more e f = f ∙ ap (λ (j : Journal). more ++ j) e ∙ sym (append_assoc more some h)

at_most : (a b d : ℕ) → a ≤ b → d ≤ a → d ≤ b
at_most a b d e f = omega (arith, e, f)

pub passes_on : (first : Opening) (h mid next : Journal) → PassesNothing first h mid → PassesNothing first mid next → PassesNothing first h next
passes_on first h mid next a b = record {
  steps = b.steps ++ a.steps;
  are = are_both h mid next a.steps b.steps a.are b.are;
  inner = none_ends b.steps a.steps b.inner a.inner;
  still = b.still ∙ a.still;
  quiet = b.quiet ∙ a.quiet;
  polled = b.polled ∙ a.polled;
  room = b.room ∙ a.room;
  moves = λ e. b.moves (a.moves e);
  loaded = λ e. b.loaded (a.loaded e);
  waits = b.waits ∙ a.waits;
  tries = b.tries ∙ a.tries;
  missed = b.missed ∙ a.missed;
  jogged = b.jogged ∙ a.jogged;
  raw = b.raw ∙ a.raw;
  whole = b.whole ∙ a.whole;
  closed = b.closed ∙ a.closed;
  flags = b.flags ∙ a.flags;
  replies = b.replies ∙ a.replies;
  owed = b.owed ∙ a.owed;
  words = b.words ∙ a.words;
  worked = λ w. b.worked (a.worked w);
  pauses = at_most _ _ _ a.pauses b.pauses;
  changes = at_most _ _ _ a.changes b.changes;
  less = λ some. a.less (b.less some);
  ahead = at_most _ _ _ a.ahead b.ahead;
  counted = λ e. a.counted (b.counted e);
}

pub alone_on : (first : Opening) (h mid next : Journal) → DidAlone first h mid → DidAlone first mid next → DidAlone first h next
alone_on first h mid next a b = record { passes = passes_on first h mid next a.passes b.passes; port = b.port ∙ a.port }

pub alone_did : (first : Opening) (a : Action) (ps : List Piece) (h : Journal) → replans (did a ps) ≡ false → DidAlone first h (did a ps ∷ h)
alone_did first a ps h same = record { passes = passes_did first a ps h same; port = refl }

pub alone_even : (first : Opening) (h : Journal) → DidAlone first h (evened ∷ h)
alone_even first h = record { passes = passes_even first h; port = refl }

pub alone_motion : (first : Opening) (call : Call) (now : Motion) (h : Journal) → obeys (became call now) ≡ false → changes_left now (is_cancelling now && has_cut h) ≤ changes_left (motion_of first h) (has_cut h) → DidAlone first h (became call now ∷ h)
alone_motion first call now h by_itself fewer = record { passes = passes_motion first call now h by_itself fewer; port = refl }

-- ---- a piece is tried to be published

-- one try more is counted, or none
counts_more : (counted : Bool) (n : ℕ) → cond counted (n + 1) n ≤ n + 1
counts_more true n = no_more (n + 1)
counts_more false n = omega arith

counts_same : (counted : Bool) (n : ℕ) → counted ≡ false → cond counted (n + 1) n ≡ n
counts_same true n e = absurd cc
counts_same false n e = refl

-- a reply that is told takes one try back at most, and where more than one was counted it does, if it is none of the last three
pub takes_back : (taken : Bool) (n : ℕ) → cond taken (n - 1) n ≤ n
takes_back true n = omega arith
takes_back false n = omega arith

pub takes_one : (n : ℕ) → n ≤ 2 → cond (nat_lt 1 n) (n - 1) n ≤ 1
takes_one n few = grind (arith, nat_tests, few)

-- where no try is counted by what is left to do, no reply of a line is next, and none is counted if one was handed back
pub none_spoken : (ts : List Task) → counts_tries ts false ≡ false → tells_none ts ≡ true
none_spoken [] none = absurd cc
none_spoken (t ∷ ts) none = ap not none

pub none_counts : (ts : List Task) (back : Bool) → counts_tries ts false ≡ false → counts_tries ts back ≡ false
none_counts [] back none = absurd cc
none_counts (t ∷ ts) true none = refl
none_counts (t ∷ ts) false none = none

-- a try that is counted leaves as much to come, and one behind a reply that was handed back is not, and leaves one more
sum_tried : (owes reported held whole back : Bool) (ts : List Task) (n : ℕ)
    → cond (not (owes && reported) && (not held && counts_tries ts (not owes && back))) (n + 1) n + ahead ts whole (owes && back) ≤ n + ahead ts whole back + 1
sum_tried true reported held whole back ts n = let m = counts_more (not reported && (not held && counts_tries ts false)) n in omega (arith, m)
sum_tried false reported held whole false ts n = let m = counts_more (not held && counts_tries ts false) n in omega (arith, m)
sum_tried false reported held true true ts n = let m = counts_more (not held && counts_tries ts true) n in omega (arith, m)
sum_tried false reported held false true [] n = let m = counts_more (not held && true) n in omega (arith, m)
sum_tried false reported true false true (t ∷ ts) n = let m = less_ahead (t ∷ ts) true in omega (arith, m)
sum_tried false reported false false true (t ∷ ts) n = let m = less_ahead (t ∷ ts) true in omega (arith, m)

-- where none would be counted behind it, as much comes as before
behind_tried : (owes reported halts whole back : Bool) (ts : List Task) (n : ℕ) → (not (owes && false) && (not (halts && whole) && counts_tries ts (not owes && (owes && back)))) ≡ false
    → cond (not (owes && reported) && (not (halts && whole) && counts_tries ts (not owes && back))) (n + 1) n + ahead ts whole (owes && back) ≤ n + ahead ts whole back
behind_tried true true halts whole back ts n none = omega arith
behind_tried true false halts whole back ts n none = let same = counts_same (not (halts && whole) && counts_tries ts false) n none in omega (arith, same)
behind_tried false reported true true back ts n none = omega arith
behind_tried false reported false true back ts n none = let same = counts_same (counts_tries ts back) n (none_counts ts back none) in omega (arith, same)
behind_tried false reported true false back ts n none = let same = counts_same (counts_tries ts back) n (none_counts ts back none) in let as_much = none_ahead ts false back (none_spoken ts none) in omega (arith, same, as_much)
behind_tried false reported false false back ts n none = let same = counts_same (counts_tries ts back) n (none_counts ts back none) in let as_much = none_ahead ts false back (none_spoken ts none) in omega (arith, same, as_much)

-- the piece in hand is published
pub tried_sent : (first : Opening) (p : Piece) (h : Journal) → drop 1 (hand_of h) ≡ [] → HasTried first true h (at_port (published p) ∷ h)
tried_sent first p h one = record {
  steps = at_port (published p) ∷ [];
  are = refl;
  inner = refl;
  still = λ e. absurd cc;
  quiet = publishes_one (at_port (published p)) (this_turn h) refl;
  polled = refl;
  room = λ e. absurd cc;
  moves = λ e. refl;
  sent = λ e. one;
  waits = refl;
  missed = refl;
  jogged = refl;
  once = counts_more (is_counted first h) (tries_of first h);
  later = λ none. counts_same (is_counted first h) (tries_of first h) none;
  sum = sum_tried (owes_report h) (is_report_back h) (is_halting (motion_of first h) && whole_of h) (whole_of h) (is_reply_back h) (left_of first h) (tries_of first h);
  behind = behind_tried (owes_report h) (is_report_back h) (is_halting (motion_of first h)) (whole_of h) (is_reply_back h) (left_of first h) (tries_of first h);
  owing = λ owed. ap (λ o. ahead (left_of first h) (whole_of h) (o && is_reply_back h)) owed;
  unspoken = ahead_unspoken (left_of first h) (whole_of h) (owes_report h && is_reply_back h) (is_reply_back h);
  left = refl;
  whole = refl;
  motion = refl;
  cuts = refl;
  closed = refl;
  flags = refl;
  replies = refl;
  owed = refl;
  words = refl;
  worked = worked_behind (at_port (published p)) h (at_port (published p) ∷ h) refl (record { no_changes = refl; none_planned = refl }) refl refl;
  waiting = λ w. record { stands = w.stands; blocks = w.blocks };
  full = λ e. e;
}

-- it is handed back
pub tried_kept : (first : Opening) (done : ℕ) (h : Journal) → HasTried first false h (at_port (no_piece_room done) ∷ h)
tried_kept first done h = record {
  steps = at_port (no_piece_room done) ∷ [];
  are = refl;
  inner = refl;
  still = λ e. refl;
  quiet = publishes_none (at_port (no_piece_room done)) (this_turn h) refl ∙ omega arith;
  polled = refl;
  room = λ e. refl;
  moves = λ e. absurd cc;
  sent = λ e. absurd cc;
  waits = refl;
  missed = refl;
  jogged = refl;
  once = counts_more (is_counted first h) (tries_of first h);
  later = λ none. counts_same (is_counted first h) (tries_of first h) none;
  sum = sum_tried (owes_report h) (is_report_back h) (is_halting (motion_of first h) && whole_of h) (whole_of h) (is_reply_back h) (left_of first h) (tries_of first h);
  behind = behind_tried (owes_report h) (is_report_back h) (is_halting (motion_of first h)) (whole_of h) (is_reply_back h) (left_of first h) (tries_of first h);
  owing = λ owed. ap (λ o. ahead (left_of first h) (whole_of h) (o && is_reply_back h)) owed;
  unspoken = ahead_unspoken (left_of first h) (whole_of h) (owes_report h && is_reply_back h) (is_reply_back h);
  left = refl;
  whole = refl;
  motion = refl;
  cuts = refl;
  closed = refl;
  flags = refl;
  replies = refl;
  owed = refl;
  words = refl;
  worked = worked_behind (at_port (no_piece_room done)) h (at_port (no_piece_room done) ∷ h) refl (record { no_changes = refl; none_planned = refl }) refl refl;
  waiting = λ w. record { stands = w.stands; blocks = w.blocks };
  full = λ e. e;
}

-- steps with which nothing passes come before a try
tried_on : (first : Opening) (sent : Bool) (h mid next : Journal) → PassesNothing first h mid → is_counted first mid ≡ is_counted first h → tries_ahead first mid ≡ tries_ahead first h → left_of first mid ≡ left_of first h → motion_of first mid ≡ motion_of first h
    → has_cut mid ≡ has_cut h → (AreWaiting first mid → AreWaiting first h) → (is_full first.blocks (plan_of mid) ≡ true → is_full first.blocks (plan_of h) ≡ true) → HasTried first sent mid next → HasTried first sent h next
tried_on first sent h mid next p counted ahead left motion cuts waiting full t = record {
  steps = t.steps ++ p.steps;
  are = are_both h mid next p.steps t.steps p.are t.are;
  inner = none_ends t.steps p.steps t.inner p.inner;
  still = λ e. t.still e ∙ p.still;
  quiet = t.quiet ∙ ap (λ n. n + one_if sent) p.quiet;
  polled = t.polled ∙ p.polled;
  room = t.room;
  moves = t.moves;
  sent = t.sent;
  waits = t.waits;
  missed = t.missed;
  jogged = t.jogged ∙ p.jogged;
  once = (let same = p.tries in let one = t.once in omega (arith, same, one));
  later = λ none. t.later (counted ∙ none) ∙ p.tries;
  sum = (let same = p.tries in let more = t.sum in omega (arith, same, ahead, more));
  behind = λ none. (let same = p.tries in let more = t.behind none in omega (arith, same, ahead, more));
  owing = λ owed. t.owing (p.owed ∙ owed) ∙ ahead;
  unspoken = λ none. t.unspoken (ap tells_none left ∙ none) ∙ ahead;
  left = t.left ∙ left;
  whole = t.whole ∙ p.whole;
  motion = t.motion ∙ motion;
  cuts = t.cuts ∙ cuts;
  closed = t.closed ∙ p.closed;
  flags = t.flags ∙ p.flags;
  replies = t.replies ∙ p.replies;
  owed = t.owed ∙ p.owed;
  words = t.words ∙ p.words;
  worked = λ w. t.worked (p.worked w);
  waiting = λ w. waiting (t.waiting w);
  full = λ e. full (t.full e);
}

-- it was looked how many ticks are done before
looked_before : (first : Opening) (sent : Bool) (done : ℕ) (h next : Journal) → HasTried first sent (at_port (loaded done) ∷ h) next → HasTried first sent h next
looked_before first sent done h next t =
    tried_on first sent h (at_port (loaded done) ∷ h) next (passes_load first done h) refl refl refl refl refl (λ w. record { stands = w.stands; blocks = w.blocks }) (λ e. e) t

tried_now : (first : Opening) (sent : Bool) (h mid next : Journal) → MayHaveLooked h mid → HasTried first sent mid next → HasTried first sent h next
tried_now first sent h mid next (inl same) t = subst (λ (j : Journal). HasTried first sent j next) same t
tried_now first sent h mid next (inr looked) t = looked_before first sent looked.0 h next (subst (λ (j : Journal). HasTried first sent j next) looked.1 t)

-- the hand is as before
hand_looked : (h mid : Journal) → MayHaveLooked h mid → hand_of mid ≡ hand_of h
hand_looked h mid (inl same) = ap hand_of same
hand_looked h mid (inr looked) = ap hand_of looked.1

pub tried : (first : Opening) (sent : Bool) (h next : Journal) → drop 1 (hand_of h) ≡ [] → Tried sent h next → HasTried first sent h next
tried first true h next one t =
    tried_now first true h t.1 next t.2 (subst (HasTried first true t.1) (sym t.3) (tried_sent first t.0 t.1 (ap (λ (ps : List Piece). drop 1 ps) (hand_looked h t.1 t.2) ∙ one)))
tried first false h next one t = tried_now first false h t.1 next t.2 (subst (HasTried first false t.1) (sym t.3) (tried_kept first t.0 t.1))

-- a plan that is full behind a segment was so before
full_before : (most : ℕ) (p : Planned) (n v : ℕ) → is_full most (advanced p n v) ≡ true → is_full most p ≡ true
full_before most p n v full = let few = length-moved n p.blocks in grind (arith, nat_tests, few, full)

-- a machine that stands has no segment due
not_due : (p : Planned) (now : Motion) → has_segment now p ≡ true → now ≡ motions.Idle → ⊥
not_due p now due stands = let d = subst (λ m. has_segment m p ≡ true) stands due in cc

-- a segment comes into the hand before
pub tried_behind : (first : Opening) (mode : Mode) (s : Segment) (sent : Bool) (h next : Journal) → is_due first h ≡ true → HasTried first sent (did (Take mode) (pieces.Segment s ∷ []) ∷ h) next → HasTried first sent h next
tried_behind first mode s sent h next due t =
    let taken = did (Take mode) (pieces.Segment s ∷ []) in
    let p = passes_did first (Take mode) (pieces.Segment s ∷ []) h refl in
    tried_on first sent h (taken ∷ h) next p refl refl refl refl refl (λ w. absurd (not_due (plan_of h) (motion_of first h) due w.stands)) (full_before first.blocks (plan_of h) s.n s.w_out) t
