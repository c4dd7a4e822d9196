-- A reset is worked in a calm epoch, promptly.
use Rattle.std.proofs.Common.{◌≡◌, ◌⊎◌, inl, inr, Bool, true, false, not, ◌&&◌, ◌||◌, List, [], ◌∷◌, ◌++◌, refl, sym, ap, ◌∙◌}
use Rattle.feed_hold.specs.declared.Motion.TheVariants as motions
use Rattle.step_line.specs.declared.Mark.TheVariants as marks
use Rattle.step_line.specs.declared.Piece.{Piece}
use Rattle.step_line.specs.declared.Piece.TheVariants as pieces
use Rattle.status_report.specs.declared.Reply.{Reply}
use Rattle.status_report.specs.declared.Reply.TheVariants.{Bye}
use Rattle.board_rules.specs.Conduct.{Conducted, IsLocked}
use Rattle.board_journal.specs.Openings.{Opening}
use Rattle.board_journal.specs.Ports.{asks_reset}
use Rattle.board_journal.specs.Ports.PortStep.{took_exec}
use Rattle.board_journal.specs.Steps.{Journal, has_limited, given_of, planned_of, closed_tells, motion_of}
use Rattle.board_journal.specs.Steps.Step.{at_port, began, did, made_end, cut, closing}
use Rattle.board_rules.specs.Turns.{is_limited}
use Rattle.board_rules.proofs.Alarms.{limited_alarmed}
use Rattle.board_epochs.specs.Resets.{IsPrompt, MayReset, has_reset, drops_resets, is_closing}
use Rattle.board_epochs.specs.Epochs.{IsEpoch}

-- a word asks for a reset, and it is not dropped; or one before was
taken_so : (asks drops was : Bool) → (asks && not drops || was) ≡ true → (was ≡ true → drops ≡ false) → drops ≡ false
taken_so asks false was is before = refl
taken_so true true true is before = before refl
taken_so false true true is before = before refl
taken_so true true false is before = absurd cc
taken_so false true false is before = absurd cc

opposite : {A : Type 0} → true ≡ false → A
opposite e = absurd cc

-- once one is asked for, nothing comes that would drop it
pub undropped : (first : Opening) (h : Journal) → IsPrompt first h → has_reset h ≡ true → drops_resets h ≡ false
undropped first [] p is = absurd cc
undropped first (at_port (took_exec word) ∷ h) p is = taken_so (asks_reset word) (drops_resets h) (has_reset h) is (λ was. undropped first h p.1 was)
undropped first (began o ∷ h) p is = opposite (p.0.further is)
undropped first (closing ∷ h) p is = opposite (p.0.further is)
undropped first (_ ∷ h) p is = undropped first h p.1 is

or_left : (a b : Bool) → (a || b) ≡ false → a ≡ false
or_left true b none = absurd cc
or_left false b none = refl

or_right : (a b : Bool) → (a || b) ≡ false → b ≡ false
or_right true b none = absurd cc
or_right false b none = none

pub calm : (first : Opening) (h : Journal) → IsEpoch first h → MayReset first h → has_limited h ≡ false
calm first h is may = or_left (has_limited h) (is_closing h) (undropped first h is.prompt may.asked)

pub none_told : (h : Journal) → is_closing h ≡ false → closed_tells h ≡ []
none_told [] is = refl
none_told (closing ∷ h) is = absurd cc
none_told (_ ∷ h) is = none_told h is

pub going : (first : Opening) (h : Journal) → IsEpoch first h → MayReset first h → closed_tells h ≡ []
going first h is may = none_told h (or_right (has_limited h) (is_closing h) (undropped first h is.prompt may.asked))

none_closed : {A : Type 0} (rs : List Reply) → rs ++ Bye ∷ [] ≡ [] → A
none_closed [] e = absurd cc
none_closed (r ∷ rs) e = absurd cc

no_end : (first : Opening) (h : Journal) → Conducted first h → closed_tells h ≡ [] → given_of h ≡ planned_of h
no_end first [] c none = refl
no_end first (did a ps ∷ h) c none = ap (λ (qs : List Piece). qs ++ ps) (no_end first h c.1 none)
no_end first (made_end ∷ h) c none = absurd (c.0.closes none)
no_end first (cut k ∷ h) c none = ap (λ (qs : List Piece). qs ++ pieces.Mark (marks.Cut k) ∷ []) (no_end first h c.1 none)
no_end first (closing ∷ h) c none = none_closed (closed_tells h) none
no_end first (_ ∷ h) c none = no_end first h c.1 none

pub unended : (first : Opening) (h : Journal) → IsEpoch first h → MayReset first h → given_of h ≡ planned_of h
unended first h is may = no_end first h is.conducted (going first h is may)

not_stopping : (first : Opening) (h : Journal) → has_limited h ≡ false → motion_of first h ≡ motions.Stopping → (has_limited h ≡ true) ⊎ IsLocked first h → ⊥
not_stopping first h none stops (inl one) = absurd (let e = sym one ∙ none in cc)
not_stopping first h none stops (inr locked) = absurd (let e = sym stops ∙ locked.1 in cc)

pub unstopping : (first : Opening) (h : Journal) → IsEpoch first h → MayReset first h → motion_of first h ≡ motions.Stopping → ⊥
unstopping first h is may stops = not_stopping first h (calm first h is may) stops (limited_alarmed first h is.conducted (ap is_limited stops))
