-- A reset of a board is one of the texts.
use Rattle.std.proofs.Common.{◌≡◌, ℕ, ◌+◌, Bool, true, false, cond, refl, sym, ap, ◌∙◌}
use Rattle.feed_hold.specs.declared.Motion.TheVariants as motions
use Rattle.run_rules.specs.declared.State.{State}
use Rattle.run_rules.specs.Outcomes.{start}
use Rattle.run_texts.specs.Courses.{Reset, behind_the_reset, reset_state}
use Rattle.run_texts.specs.Points.{Point}
use Rattle.board_rules.specs.Conduct.{Conducted}
use Rattle.board_journal.specs.Openings.{Opening}
use Rattle.board_journal.specs.Steps.{Journal, before_of}
use Rattle.board_rules.specs.Turns.{is_limited}
use Rattle.board_rules.proofs.Lines.{number_is}
use Rattle.board_epochs.specs.Work.{Work}
use Rattle.board_epochs.specs.Epochs.{answered_state, reset_of, next_opening, opens_behind, point_of}

-- where a point is behind a reset
abbrev point_with : Reset → State → Bool → Point
point_with r s locked = record { before = record (start (reset_state r.at s)) { number = r.number + r.dropped + 1 }; locked = locked; has_line = false; unanswered = false }

locked_so : (locked : Bool) → locked ≡ is_limited (cond locked motions.Alarm motions.Idle)
locked_so true = refl
locked_so false = refl

behind : (blocks : ℕ) (r : Reset) (p : Point) (s : State) → p.before.state ≡ s → behind_the_reset r p ≡ point_of (opens_behind blocks r s)
behind blocks r p s same = ap (λ (x : State). point_with r x r.locked) same ∙ ap (point_with r s) (locked_so r.locked)

pub point_there : (base : ℕ) (first : Opening) (h : Journal) (w : Work) (p : Point) → p.before.state ≡ answered_state first h → behind_the_reset (reset_of base first h w) p ≡ point_of (next_opening base first h w)
point_there base first h w p same = behind first.blocks (reset_of base first h w) p (answered_state first h) same

pub number_is_last : (base : ℕ) (first : Opening) (h : Journal) (w : Work) → Conducted first h → (reset_of base first h w).number + 1 ≡ (before_of first h).number
number_is_last base first h w c = sym (number_is first h c)
