-- Bytes and replies of a link, as plain lists, the latest first.
use Rattle.std.specs.Prelude.{ℕ, ◌+◌, ◌≤◌, Bool, false, ◌||◌, ◌&&◌, cond, nat_le, List, [], ◌∷◌, length}
use Rattle.std.specs.List.{AllZip}
use Rattle.status_report.specs.declared.Reply.{Reply}
use Rattle.status_report.specs.Answering.{lfs_in, is_answer, is_banner}
use Rattle.status_report.specs.Replies.{IsReply}
use Rattle.serial_ring.specs.Marks.{Mark, last_of}

-- how many bytes may be unread on a link
abbrev pub IsRoom : ℕ → Type 0
IsRoom room = (128 ≤ room) × (room ≤ 255)

-- the bytes after the k-th line feed; after the 0th, all
abbrev pub since_lf : ℕ → List ℕ → List ℕ
since_lf k [] = []
since_lf k (b ∷ earlier) = cond (nat_le k (lfs_in earlier)) (b ∷ since_lf k earlier) []

-- the bytes after the first n
abbrev pub since : ℕ → List ℕ → List ℕ
since n [] = []
since n (b ∷ earlier) = cond (nat_le n (length earlier)) (b ∷ since n earlier) []

-- each has a text
abbrev pub AreReplies : List Reply → Type 0
AreReplies [] = Unit {0}
AreReplies (r ∷ earlier) = IsReply r × AreReplies earlier

abbrev pub has_banner : List Reply → Bool
has_banner [] = false
has_banner (r ∷ earlier) = is_banner r || has_banner earlier

-- How many lines are answered since the last Banner of a mark. The first Banner is of none: if there is no other, they are all.
abbrev pub answers_behind_mark : List Reply → ℕ
answers_behind_mark [] = 0
answers_behind_mark (r ∷ earlier) = cond (is_banner r && has_banner earlier) 0 (cond (is_answer r) 1 0 + answers_behind_mark earlier)

-- The bytes stored behind the last mark whose Banner was got; if none was, all. The marks are those of the Banners got.
abbrev pub behind_mark : List Mark → List ℕ → List ℕ
behind_mark greeted stored = since (last_of greeted).1 stored

-- Those of them that may be unread, by the replies got: what stands after the last line that was answered since that Banner.
abbrev pub maybe_unread : List ℕ → List Reply → List Mark → List ℕ
maybe_unread stored got greeted = since_lf (answers_behind_mark got) (behind_mark greeted stored)

-- no more lines have an answer since that Banner than end among the bytes stored behind its mark
abbrev pub AnswersStored : List ℕ → List Reply → List Mark → Type 0
AnswersStored stored got greeted = answers_behind_mark got ≤ lfs_in (behind_mark greeted stored)

-- the marks of the Banners, with a reply behind them: of a Banner it is this one
abbrev pub with_greeting : Reply → Mark → List Mark → List Mark
with_greeting r m greeted = cond (is_banner r) (m ∷ greeted) greeted

-- the moments at which they were got, by how many bytes were stored then, with a reply behind them
abbrev pub with_moment : Reply → ℕ → List ℕ → List ℕ
with_moment r bytes moments = cond (is_banner r) (bytes ∷ moments) moments

-- each number is at most its one of as many others
abbrev pub AreAtMost : List ℕ → List ℕ → Type 0
AreAtMost ns ms = AllZip (λ n m. n ≤ m) ns ms
