-- What an opening leaves to do: it is told, and nothing is asked of the machine, which stands.
use Rattle.std.proofs.Common.{◌≡◌, ℕ, List, [], ◌∷◌, false, Bool, cond, sym, refl, ap, ◌∙◌, arith}
use Rattle.std.specs.List.{AllByRecursion, flat_map}
use Rattle.std.proofs.lemmas.List.Sums.{sum_by-cons}
use Rattle.feed_hold.specs.declared.Motion.{Motion}
use Rattle.run_rules.specs.Work.{Task, Outcome, tells, asks, telling, has_moves, pauses}
use Rattle.run_rules.specs.Told.{replies_after, replies_in}
use Rattle.run_rules.specs.Work.Task.{ask}
use Rattle.status_report.specs.declared.Reply.{Reply}
use Rattle.status_report.specs.Answering.{is_answer, answers_in}
use Rattle.status_report.specs.declared.Reply.TheVariants.{Banner}
use Rattle.status_report.proofs.Answered.{answers_first, answers_on}
use Rattle.step_line.specs.Asking.{Asked}
use Rattle.board_journal.specs.Openings.{Opening, IsGreeting}
use Rattle.board_journal.specs.Steps.{Journal}
use Rattle.board_rules.specs.Turns.{stands_still, halts_next}
use Rattle.board_rules.specs.Conduct.{Conducted, MayOpen}
use Rattle.board_rules.specs.Whole.{has_work}

-- ---- tasks that tell

pub tells_telling : (rs : List Reply) → tells (telling rs) ≡ rs
tells_telling [] = refl
tells_telling (r ∷ rs) = ap (λ (xs : List Reply). r ∷ xs) (tells_telling rs)

pub asks_telling : (rs : List Reply) → asks (telling rs) ≡ []
asks_telling [] = refl
asks_telling (r ∷ rs) = asks_telling rs

pub no_moves_told : (rs : List Reply) → has_moves (telling rs) ≡ false
no_moves_told [] = refl
no_moves_told (r ∷ rs) = no_moves_told rs

pub no_halt_told : (rs : List Reply) → halts_next (telling rs) ≡ false
no_halt_told [] = refl
no_halt_told (r ∷ rs) = refl

pub no_work_told : (rs : List Reply) → has_work (telling rs) ≡ false
no_work_told [] = refl
no_work_told (r ∷ rs) = no_work_told rs

pub no_pauses_told : (rs : List Reply) → pauses (telling rs) ≡ 0
no_pauses_told [] = refl
no_pauses_told (r ∷ rs) = no_pauses_told rs

pub none_asked_told : {A : Type 0} (rs : List Reply) (a : Asked) (ts : List Task) → telling rs ≡ ask a ∷ ts → A
none_asked_told rs a ts next = absurd (let e = sym (ap asks next) ∙ asks_telling rs in cc)

-- ---- what greets

pub greets_unanswered : (rs : List Reply) → AllByRecursion IsGreeting rs → answers_in rs ≡ 0
greets_unanswered [] all = refl
greets_unanswered (r ∷ rs) all =
    let a = sum_by-cons (λ x. cond (is_answer x) 1 0) r rs in
    let e = ap (λ (t : Bool). cond {A = ℕ} t 1 0) all.0.answers in
    let b = greets_unanswered rs all.1 in
    omega (arith, a, e, b)

-- so the answers are those of the lines
pub greeted_answers : (rs : List Reply) (os : List Outcome) → AllByRecursion IsGreeting rs → answers_in (replies_after rs os) ≡ answers_in (replies_in os)
greeted_answers rs os all =
    let a = answers_on rs (flat_map (λ (o : Outcome). tells o.work) os) in
    let b = answers_first Banner (flat_map (λ (o : Outcome). tells o.work) os) in
    let none = greets_unanswered rs all in
    omega (arith, a, b, none)

-- ---- the machine

-- it is in no state in which it does not stand
pub opens_still : {A : Type 0} (first : Opening) (m : Motion) → MayOpen first → first.motion ≡ m → stands_still m ≡ false → A
opens_still first m opens is moves = absurd (let e = sym opens.stands ∙ ap stands_still is ∙ moves in cc)

-- a journal that the rules allow begins from an opening
pub opened : (first : Opening) (h : Journal) → Conducted first h → MayOpen first
opened first [] c = c
opened first (s ∷ h) c = opened first h c.1
