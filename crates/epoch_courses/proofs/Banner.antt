-- What a board has answered over its epochs, but for Bye, begins with the banner.
use Rattle.std.proofs.Common.{◌≡◌, ◌⊎◌, inl, inr, ℕ, List, [], ◌∷◌, ◌++◌, refl, sym, ap, ◌∙◌, subst}
use Rattle.run_rules.specs.declared.State.{State}
use Rattle.run_texts.specs.Told.{IsTold}
use Rattle.status_report.specs.Answering.{without_reports}
use Rattle.status_report.specs.declared.Reply.{Reply}
use Rattle.status_report.specs.declared.Reply.TheVariants.{Banner}
use Rattle.step_line.specs.Logs.{NewestFirst}
use Rattle.board_rules.specs.Conduct.{IsFinished}
use Rattle.board_journal.specs.Steps.{Journal}
use Rattle.board_epochs.specs.Epochs.{Closed, Epochs, AreEpochs, opening_behind}
use Rattle.board_epochs.specs.Epochs.Epochs.{goes}
use Rattle.board_epochs.specs.Greetings.{IsGreeted}
use Rattle.board_epochs.proofs.Greetings.{banner_first}
use Rattle.epoch_courses.specs.Course.{course_of}
use Rattle.epoch_courses.specs.Told.{answered_by, without_byes}
use Rattle.epoch_courses.proofs.Told.{console_tells, finished_tell}

-- it is nothing, or the banner stands first
abbrev BeginsSo : List Reply → Type 0
BeginsSo replies = (replies ≡ []) ⊎ ((behind : List Reply) × (replies ≡ Banner ∷ behind))

front_begins : (replies rest : List Reply) → Banner ∷ [] ≡ replies ++ rest → BeginsSo replies
front_begins [] rest is = inl refl
front_begins (r ∷ replies) rest is = inr (replies, (let first : r ≡ Banner = cc in ap (λ (x : Reply). x ∷ replies) first))

begins_so : (replies : List Reply) → IsGreeted (Banner ∷ []) replies → BeginsSo replies
begins_so replies (inl b) = inr (b.rest, b.is)
begins_so replies (inr b) = front_begins replies b.rest b.is

plain_begins : (replies : List Reply) → BeginsSo replies → BeginsSo (without_byes replies)
plain_begins replies (inl none) = inl (ap without_byes none)
plain_begins replies (inr some) = inr (without_byes some.0, ap without_byes some.1)

pub banner_begins : (blocks : ℕ) (state : State) (es : Epochs) → AreEpochs blocks state es → (without_byes (answered_by es) ≡ []) ⊎ ((behind : List Reply) × (without_byes (answered_by es) ≡ Banner ∷ behind))
banner_begins blocks state es c = plain_begins (answered_by es) (begins_so (answered_by es) (banner_first blocks state es c))

some_begins : (replies told : List Reply) → without_reports replies ≡ Banner ∷ told → BeginsSo replies → (behind : List Reply) × (without_byes replies ≡ Banner ∷ behind)
some_begins replies told is (inl none) = absurd (let e = sym (ap without_reports none) ∙ is in cc)
some_begins replies told is (inr some) = (without_byes some.0, ap without_byes some.1)

-- of one that is done it is not nothing
pub finished_begins : (blocks : ℕ) (state : State) (made : ℕ) (es : NewestFirst Closed) (h : Journal) → AreEpochs blocks state (goes es h) → IsFinished (opening_behind blocks state es) h → (behind : List Reply) × (without_byes (answered_by (goes es h)) ≡ Banner ∷ behind)
finished_begins blocks state made es h c over =
    some_begins (answered_by (goes es h)) _ (finished_tell blocks state made es h c over) (begins_so (answered_by (goes es h)) (banner_first blocks state (goes es h) c))

-- so what was answered, but for Bye, is a console that tells the course
pub console_told : (blocks : ℕ) (state : State) (made : ℕ) (es : NewestFirst Closed) (h : Journal) → AreEpochs blocks state (goes es h) → IsFinished (opening_behind blocks state es) h → IsTold (course_of blocks state made (goes es h)) (without_byes (answered_by (goes es h)))
console_told blocks state made es h c over =
    let b = finished_begins blocks state made es h c over in
    subst (λ (rs : List Reply). IsTold (course_of blocks state made (goes es h)) rs) (sym b.1) (console_tells blocks state made es h b.0 c over b.1)
