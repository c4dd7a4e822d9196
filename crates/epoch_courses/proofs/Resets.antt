-- Where a reset finds a course, and what it leaves.
use Rattle.std.proofs.Common.{◌≡◌, ◌⊎◌, inl, inr, ℕ, ◌+◌, ◌≤◌, Bool, true, false, ◌||◌, cond, List, [], ◌∷◌, ◌++◌, map, length, refl, sym, ap, ◌∙◌, subst}
use Rattle.feed_hold.specs.declared.Motion.{Motion}
use Rattle.feed_hold.specs.declared.Motion.TheVariants as motions
use Rattle.feed_hold.specs.Motions.{is_moving}
use Rattle.modal_state.specs.Modes.{opening_parser}
use Rattle.modal_state.specs.declared.Offsets.{Offsets}
use Rattle.settings.specs.declared.Settings.{Settings}
use Rattle.run_rules.specs.declared.State.{State}
use Rattle.run_rules.specs.Lines.{whole_lines}
use Rattle.run_rules.specs.Outcomes.{start}
use Rattle.run_texts.specs.Courses.{Passed, Reset, IsReset, behind_the_reset, reset_state}
use Rattle.run_texts.specs.Points.{Point}
use Rattle.run_texts.specs.Sent.{Sent}
use Rattle.run_texts.specs.Sent.Sent.{a_text, a_stop}
use Rattle.run_texts.specs.SoFar.{LeadsTo}
use Rattle.units.specs.declared.Steps3.{Steps3}
use Rattle.board_journal.specs.Openings.{Opening}
use Rattle.board_journal.specs.Ports.{taken_in}
use Rattle.board_journal.specs.Steps.{known_of, Journal, port_log, lines_of, before_of, left_of, motion_of}
use Rattle.board_rules.specs.Turns.{is_locked}
use Rattle.board_rules.specs.Whole.{has_any_moved}
use Rattle.board_rules.proofs.Alarms.{alarmed_is}
use Rattle.board_rules.proofs.Phases.{Ends}
use Rattle.board_rules.proofs.Standing.{stands}
use Rattle.board_epochs.specs.Epochs.{answered_state, reset_of, next_opening, point_of, IsEpoch}
use Rattle.board_epochs.specs.Resets.{MayReset}
use Rattle.board_epochs.specs.Work.{Work}
use Rattle.board_epochs.proofs.Prompting.{calm, going}
use Rattle.board_epochs.proofs.Texts.{point_there, number_is_last}
use Rattle.epoch_courses.specs.Course.{before_by, is_unanswered, passed_by, passed_at_reset, point_behind, point_broken, point_at_reset}
use Rattle.epoch_courses.specs.Taken.{bytes_behind}
use Rattle.epoch_courses.proofs.Answered.{only_told, ends_there}
use Rattle.epoch_courses.proofs.Broken.{IsBreakable, breakable_or_told, broken_free, broken_number, broken_leads, broken_calm, answered_calm, kept_answered, kept_broken}
use Rattle.epoch_courses.proofs.Epoch.{SameKept, same_but, epoch_leads}
use Rattle.epoch_courses.proofs.Uncut.{uncut_there}
use Rattle.epoch_courses.proofs.Locked.{alarm_is}
use Rattle.epoch_courses.proofs.Tells.{tells_alone, none_left}
use Rattle.epoch_courses.proofs.Texts.{dropped_counted, waiting_are, reset_comes}

-- ---- where a reset finds it

-- No line has raised an alarm; the number and the lock are those of the epoch; what the answered lines leave is there; and something
-- has moved if the machine moves.
pub record IsFound (first : Opening) (h : Journal) (p : Point) : Type 0 where
  pub free : p.before.alarmed ≡ false
  pub number : p.before.number ≡ (before_of first h).number
  pub locked : p.locked ≡ is_locked first h
  pub kept : SameKept p.before.state (answered_state first h)
  pub moved : is_moving (motion_of first h) ≡ true → (p.before.moved || p.before.jog_moved) ≡ true

-- the course comes there, and it is found so
pub record ComesThere (first : Opening) (h : Journal) (tail : List Sent) (ps : List Passed) (p : Point) : Type 0 where
  pub leads : LeadsTo (point_of first) (map a_text (lines_of h) ++ tail) ps p tail
  pub found : IsFound first h p

stands_or_moves : (m : Motion) → stands m ≡ true → is_moving m ≡ true → ⊥
stands_or_moves motions.Idle still moves = absurd cc
stands_or_moves motions.Held still moves = absurd cc
stands_or_moves motions.Alarm still moves = absurd cc
stands_or_moves m still moves = absurd cc

by_calm : (m : Motion) (moved : Bool) → (moved ≡ false → stands m ≡ true) → is_moving m ≡ true → moved ≡ true
by_calm m true still moves = refl
by_calm m false still moves = absurd (stands_or_moves m (still refl) moves)

-- all lines are answered, and nothing is left to do
answered_there : (made : ℕ) (first : Opening) (h : Journal) (tail : List Sent) → IsEpoch first h → MayReset first h → known_of h ≤ made → is_unanswered h ≡ false → ComesThere first h tail (passed_by false made first h) (point_behind made first h)
answered_there made first h tail is may known all =
    let c = is.conducted in
    let same = same_but made first h in
    let free : left_of first h ≡ [] = none_left (left_of first h) (only_told first h c (going first h is may) all) may.told in
    record {
      leads = epoch_leads made first h tail c known;
      found = record {
        free = same.alarmed ∙ alarmed_is first h ∙ calm first h is may;
        number = same.number;
        locked = refl;
        kept = kept_answered made first h c all;
        moved = by_calm (motion_of first h) (has_any_moved (before_by made first h))
            (λ (still : has_any_moved (before_by made first h) ≡ false). (answered_calm made first h c (going first h is may) free still).still);
      };
    }

-- the last line has told nothing
broken_there : (made : ℕ) (first : Opening) (h : Journal) (tail : List Sent) → IsEpoch first h → MayReset first h → known_of h ≤ made → is_unanswered h ≡ true → ComesThere first h tail (passed_by true made first h) (point_broken made first h)
broken_there made first h tail is may known one = by_line (breakable_or_told first h is.conducted (going first h is may) one)
  where
    by_line : IsBreakable first h ⊎ (tells_alone (left_of first h) ≡ true) → ComesThere first h tail (passed_by true made first h) (point_broken made first h)
    by_line (inr told) = absurd (subst Ends (none_left (left_of first h) told may.told) (ends_there first h is.conducted (calm first h is may) one))
    by_line (inl breaks) = let c = is.conducted in record {
      leads = broken_leads made first h tail c known one (uncut_there first h is may one) breaks.becomes;
      found = record {
        free = broken_free made first h c one;
        number = broken_number made first h c one;
        locked = breaks.locked made;
        kept = kept_broken made first h c one;
        moved = by_calm (motion_of first h) (has_any_moved (point_broken made first h).before)
            (λ (still : has_any_moved (point_broken made first h).before ≡ false). (broken_calm made first h c one still).still);
      };
    }

pub comes_there : (made : ℕ) (first : Opening) (h : Journal) (tail : List Sent) → IsEpoch first h → MayReset first h → known_of h ≤ made → ComesThere first h tail (passed_at_reset made first h) (point_at_reset made first h)
comes_there made first h tail is may known = by_one (is_unanswered h) refl
  where
    by_one : (t : Bool) → is_unanswered h ≡ t → ComesThere first h tail (passed_by (is_unanswered h) made first h) (cond (is_unanswered h) (point_broken made first h) (point_behind made first h))
    by_one true one =
        subst (λ (t : Bool). ComesThere first h tail (passed_by t made first h) (cond t (point_broken made first h) (point_behind made first h))) (sym one) (broken_there made first h tail is may known one)
    by_one false all =
        subst (λ (t : Bool). ComesThere first h tail (passed_by t made first h) (cond t (point_broken made first h) (point_behind made first h))) (sym all) (answered_there made first h tail is may known all)

-- ---- what it leaves

abbrev reset_with : Steps3 → Settings → Offsets → State
reset_with at settings offsets = reset_state at (record { parser = record opening_parser { offsets = offsets }; settings = settings })

same_reset : (at : Steps3) (s t : State) → SameKept s t → reset_state at s ≡ reset_state at t
same_reset at s t same = ap (λ (x : Settings). reset_with at x s.parser.offsets) same.settings ∙ ap (reset_with at t.settings) same.offsets

abbrev point_from : Reset → State → Point
point_from r s = record { before = record (start s) { number = r.number + r.dropped + 1 }; locked = r.locked; has_line = false; unanswered = false }

-- the next epoch opens behind it
pub next_there : (base : ℕ) (first : Opening) (h : Journal) (w : Work) (p : Point) → IsFound first h p → behind_the_reset (reset_of base first h w) p ≡ point_of (next_opening base first h w)
next_there base first h w p found =
    let r = reset_of base first h w in
    let q : Point = record p { before = record p.before { state = answered_state first h } } in
    ap (point_from r) (same_reset r.at p.before.state (answered_state first h) found.kept) ∙ point_there base first h w q refl

-- it is a reset of the texts, which drops the lines that are not begun
pub is_reset : (base : ℕ) (first : Opening) (h : Journal) (w : Work) (p : Point) (more : List Sent) → IsEpoch first h → MayReset first h → IsFound first h p
    → IsReset p (map a_text (whole_lines (bytes_behind h ++ taken_in (port_log w))) ++ a_stop ∷ more) (reset_of base first h w)
is_reset base first h w p more is may found =
    let lines = whole_lines (bytes_behind h ++ taken_in (port_log w)) in
    record {
      free = found.free;
      comes = reset_comes lines more;
      number = number_is_last base first h w is.conducted ∙ sym found.number;
      dropped = dropped_counted first h w is.conducted ∙ ap length (sym (waiting_are lines more));
      cause = found.moved;
      locked = ap (λ (t : Bool). is_moving (motion_of first h) || t) (alarm_is first h is.conducted (calm first h is may) may.told ∙ sym found.locked);
    }
