-- What a board has done at a link: the bytes that it took, the marks that it loaded and the replies that it answered, in one log,
-- the latest first.
use Rattle.std.specs.Prelude.{◌≡◌, ℕ, ◌+◌, ◌^◌, ◌<◌, ◌≤◌, Bool, true, cond, nat_eq, List, [], ◌∷◌, length}
use Rattle.status_report.specs.declared.Reply.{Reply}
use Rattle.status_report.specs.Answering.{is_answer, is_banner}
use Rattle.status_report.specs.Replies.{IsReply}
use Rattle.serial_ring.specs.declared.view.LinkStep.{LinkStep}
use Rattle.serial_ring.specs.declared.view.LinkStep.TheVariants.{Took, Marked, Answered}
use Rattle.serial_ring.specs.Lists.{has_banner}
use Rattle.serial_ring.specs.Marks.{Mark, start, last_of}

-- the bytes taken
abbrev pub taken_in : List LinkStep → List ℕ
taken_in [] = []
taken_in (Took b ∷ l) = b ∷ taken_in l
taken_in (Marked n bytes ∷ l) = taken_in l
taken_in (Answered r ∷ l) = taken_in l

-- the marks loaded
abbrev pub marked_in : List LinkStep → List Mark
marked_in [] = []
marked_in (Took b ∷ l) = marked_in l
marked_in (Marked n bytes ∷ l) = (n, bytes) ∷ marked_in l
marked_in (Answered r ∷ l) = marked_in l

-- the replies answered
abbrev pub answered_in : List LinkStep → List Reply
answered_in [] = []
answered_in (Took b ∷ l) = answered_in l
answered_in (Marked n bytes ∷ l) = answered_in l
answered_in (Answered r ∷ l) = r ∷ answered_in l

-- a Banner was answered
abbrev pub has_greeted : List LinkStep → Bool
has_greeted l = has_banner (answered_in l)

-- the mark that a Banner has, if it is answered next: behind another the one that was loaded last; the first has that of the start
abbrev pub next_mark : List LinkStep → Mark
next_mark l = cond (has_greeted l) (last_of (marked_in l)) start

-- the marks of the Banners answered
abbrev pub greeted_in : List LinkStep → List Mark
greeted_in [] = []
greeted_in (Took b ∷ l) = greeted_in l
greeted_in (Marked n bytes ∷ l) = greeted_in l
greeted_in (Answered r ∷ l) = cond (is_banner r) (next_mark l ∷ greeted_in l) (greeted_in l)

-- a count of what was done, as it was when each Banner was answered
abbrev pub at_banners : (List LinkStep → ℕ) → List LinkStep → List ℕ
at_banners count [] = []
at_banners count (Took b ∷ l) = at_banners count l
at_banners count (Marked n bytes ∷ l) = at_banners count l
at_banners count (Answered r ∷ l) = cond (is_banner r) (count l ∷ at_banners count l) (at_banners count l)

-- how many bytes were taken then
abbrev pub taken_at_banners : List LinkStep → List ℕ
taken_at_banners l = at_banners (λ before. length (taken_in before)) l

-- how many lines were answered since the last Banner, or the start; and how many had their end taken since
abbrev pub answers_since : List LinkStep → ℕ
answers_since [] = 0
answers_since (Took b ∷ l) = answers_since l
answers_since (Marked n bytes ∷ l) = answers_since l
answers_since (Answered r ∷ l) = cond (is_banner r) 0 (cond (is_answer r) 1 0 + answers_since l)

abbrev pub lfs_since : List LinkStep → ℕ
lfs_since [] = 0
lfs_since (Took b ∷ l) = cond (nat_eq b 10) 1 0 + lfs_since l
lfs_since (Marked n bytes ∷ l) = lfs_since l
lfs_since (Answered r ∷ l) = cond (is_banner r) 0 (lfs_since l)

-- A mark is new: it is behind that of the last Banner, and as many bytes are taken as were stored before it.
pub record IsNewMark (l : List LinkStep) (m : Mark) : Type 0 where
  pub later : (last_of (greeted_in l)).0 < m.0
  pub taken : m.1 ≤ length (taken_in l)

-- A reply may be answered. A line is only if fewer were answered since the last Banner than had their end taken since; a Banner
-- behind another only if the mark loaded last is new.
pub record MayAnswer (l : List LinkStep) (r : Reply) : Type 0 where
  pub line : is_answer r ≡ true → answers_since l < lfs_since l
  pub banner : is_banner r ≡ true → has_greeted l ≡ true → IsNewMark l (next_mark l)
  pub text : IsReply r
  pub few : length (answered_in l) < 2 ^ 62

-- each reply was answered where it might be
abbrev pub AnswersWell : List LinkStep → Type 0
AnswersWell [] = Unit {0}
AnswersWell (Took b ∷ l) = AnswersWell l
AnswersWell (Marked n bytes ∷ l) = AnswersWell l
AnswersWell (Answered r ∷ l) = MayAnswer l r × AnswersWell l
