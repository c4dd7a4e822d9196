-- How epochs open.
use Rattle.std.proofs.Common.{◌≡◌, ℕ, ◌≤◌, ◌||◌, Bool, true, false, cond, [], ◌∷◌, length, refl, sym, ap, arith}
use Rattle.std.specs.List.{AllByRecursion, count_by}
use Rattle.feed_hold.specs.declared.Motion.{Motion}
use Rattle.feed_hold.specs.declared.Motion.TheVariants as motions
use Rattle.feed_hold.specs.Motions.{is_moving, behind_reset}
use Rattle.modal_state.specs.declared.Parser.{Parser}
use Rattle.run_rules.specs.declared.State.{State}
use Rattle.run_rules.specs.States.{IsOpening}
use Rattle.run_texts.specs.Courses.{Reset}
use Rattle.run_texts.specs.Told.{told_at_reset}
use Rattle.status_report.specs.Answering.{is_banner}
use Rattle.step_line.specs.Logs.{NewestFirst}
use Rattle.board_rules.specs.Conduct.{Conducted, MayOpen}
use Rattle.board_journal.specs.Openings.{Opening, IsGreeting, IsPlaced, IsPlanSize, most_greetings}
use Rattle.board_journal.specs.Steps.{Journal}
use Rattle.board_rules.specs.Turns.{is_alarm, stands_still}
use Rattle.board_rules.proofs.Opening.{opened}
use Rattle.board_epochs.specs.Epochs.{Closed, opens_behind, opening_behind, next_opening, answered_state, reset_of, ticks_made}
use Rattle.board_epochs.specs.Work.{Work}

abbrev Greets : Reset → Type 0
Greets r = AllByRecursion IsGreeting (told_at_reset r) × (count_by is_banner (told_at_reset r) ≡ 1) × (length (told_at_reset r) ≤ most_greetings)

greets : (number dropped : ℕ) (alarm locked : Bool) (r : Reset) → r.alarm ≡ alarm → r.locked ≡ locked → Greets r
greets number dropped true true r a l = rw (a, l) ((record { answers = refl; reports = refl; parts = refl }, (record { answers = refl; reports = refl; parts = refl }, (record { answers = refl; reports = refl; parts = refl }, tt))), refl, omega arith)
greets number dropped true false r a l = rw (a, l) ((record { answers = refl; reports = refl; parts = refl }, (record { answers = refl; reports = refl; parts = refl }, tt)), refl, omega arith)
greets number dropped false true r a l = rw (a, l) ((record { answers = refl; reports = refl; parts = refl }, (record { answers = refl; reports = refl; parts = refl }, tt)), refl, omega arith)
greets number dropped false false r a l = rw (a, l) ((record { answers = refl; reports = refl; parts = refl }, tt), refl, omega arith)

stands : (locked : Bool) → stands_still (cond locked motions.Alarm motions.Idle) ≡ true
stands true = refl
stands false = refl

pub opens_next : (blocks : ℕ) (r : Reset) (s : State) → IsPlanSize blocks → MayOpen (opens_behind blocks r s)
opens_next blocks r s sized = let g = greets r.number r.dropped r.alarm r.locked r refl refl in record { stands = stands r.locked; greets = g.0; banner = g.1; few = g.2; sized = sized }

pub opens_on : (base : ℕ) (first : Opening) (h : Journal) (w : Work) → Conducted first h → MayOpen (next_opening base first h w)
opens_on base first h w c = opens_next first.blocks (reset_of base first h w) (answered_state first h) (opened first h c).sized

pub blocks_behind : (blocks : ℕ) (state : State) (es : NewestFirst Closed) → (opening_behind blocks state es).blocks ≡ blocks
blocks_behind blocks state [] = refl
blocks_behind blocks state (e ∷ es) = blocks_behind blocks state es

pub opens : (blocks : ℕ) (state : State) (es : NewestFirst Closed) → IsPlanSize blocks → MayOpen (opening_behind blocks state es)
opens blocks state [] sized = record { stands = refl; greets = (record { answers = refl; reports = refl; parts = refl }, tt); banner = refl; few = omega arith; sized = sized }
opens blocks state (e ∷ es) sized =
    let first = opening_behind blocks state es in
    opens_next first.blocks (reset_of (ticks_made es) first e.journal e.work) (answered_state first e.journal) (opens blocks state es sized).sized

pub placed : (blocks : ℕ) (state : State) (es : NewestFirst Closed) → IsOpening state → IsPlaced (opening_behind blocks state es)
placed blocks state [] opening = sym (ap (λ (p : Parser). p.pos_steps) opening.parser)
placed blocks state (e ∷ es) opening = refl

pub locks : (m : Motion) → (m ≡ motions.Stopping → ⊥) → cond (is_moving m || is_alarm m) motions.Alarm motions.Idle ≡ behind_reset m
locks motions.Stopping other = absurd (other refl)
locks m other = refl
