-- What the two ends of a link know of its marks, and how their lists go together.
use Rattle.std.specs.Prelude.{◌≡◌, ◌⊎◌, ℕ, ◌+◌, ◌-◌, ◌≤◌, ◌<◌, Bool, true, List, [], ◌∷◌, ◌++◌, length, drop, reverse}
use Rattle.serial_ring.specs.declared.view.LinkStep.{LinkStep}
use Rattle.serial_ring.specs.Lists.{AreAtMost}
use Rattle.status_report.specs.declared.Reply.{Reply}
use Rattle.serial_ring.specs.Logs.{marked_in, taken_at_banners}
use Rattle.serial_ring.specs.Marks.{Mark, AreMarks, AreRising, last_of}
use Rattle.host_journal.specs.Steps.{stored_at_banners}
use Rattle.host_journal.specs.Steps as hosts
use Rattle.board_journal.specs.Ports as ports
use Rattle.board_epochs.specs.Epochs.{Epochs, log_of}
use Rattle.epoch_links.specs.Pieces.{Pieces, joined, ends_behind}

-- ---- the link

-- How the lists of the two ends go together. The bytes taken are a front of those stored, and all of them where the link was found
-- closed, as it then is. Each mark that was loaded is one that was stored, or the start. And no byte is taken before it is stored: of
-- each Banner that was got, no more bytes were taken when it was answered than were stored when it was got.
pub record AreLinked (stored marks at_got : List ℕ) (shut : Bool) (taken : List ℕ) (loaded : List Mark) (at_answers : List ℕ) (closed : Bool) : Type 0 where
  pub rest : List ℕ
  pub front : stored ≡ taken ++ rest
  pub closes : closed ≡ true → shut ≡ true
  pub all : closed ≡ true → rest ≡ []
  pub loads : AreMarks marks loaded
  pub ungot : List ℕ
  pub of_got : List ℕ
  pub banners : at_answers ≡ ungot ++ of_got
  pub in_time : AreAtMost of_got at_got

-- it is so of what a host has done, by its journal, and a board, over its epochs
abbrev pub AreLinkedOver : hosts.Journal → Epochs → Type 0
AreLinkedOver host r =
    AreLinked (hosts.stored_of host) (hosts.marks_of host) (stored_at_banners (hosts.port_log host)) (hosts.is_shut host)
    (ports.taken_in (log_of r)) (marked_in (ports.link_steps (log_of r))) (taken_at_banners (ports.link_steps (log_of r))) (ports.has_closed_in (log_of r))

-- what the two ends of a link have done, each with the latest first, is what a host's journal and a board's epochs say
pub record EndsHave (stored marks : List ℕ) (closed : Bool) (log : List LinkStep) (over : Bool) (got : List Reply) (moments : List ℕ) (host : hosts.Journal) (r : Epochs) : Type 0 where
  pub stored_are : hosts.stored_of host ≡ reverse stored
  pub marks_are : hosts.marks_of host ≡ marks
  pub shut_is : hosts.is_shut host ≡ closed
  pub got_are : hosts.got_of host ≡ reverse got
  pub moments_are : stored_at_banners (hosts.port_log host) ≡ moments
  pub steps_are : ports.link_steps (log_of r) ≡ log
  pub over_is : ports.has_closed_in (log_of r) ≡ true → over ≡ true

-- each of some numbers is at most its one of others, which may be more: these are the last of them
abbrev pub AreLastAtMost : (more few : List ℕ) → Type 0
AreLastAtMost more few = AreAtMost (drop (length more - length few) more) few

-- ---- the host

-- A host has marked its bytes and awaited a Banner of each mark. Behind the first Banner, each later one is got when as many bytes are
-- stored as before its mark. One mark at most has no Banner yet, the latest, and then nothing is stored behind it.
pub record AwaitsBanners (stored marks at_got : List ℕ) : Type 0 where
  pub rising : AreRising marks
  pub greeted : List ℕ
  pub are : (marks ≡ greeted) ⊎ (marks ≡ length stored ∷ greeted)
  pub got : ((at_got ≡ []) × (greeted ≡ [])) ⊎ ((first : ℕ) × (at_got ≡ greeted ++ first ∷ []))

-- a Banner of each mark was got, if there is one: one more than marks
abbrev pub HasBanners : (marks at_got : List ℕ) → Type 0
HasBanners marks at_got = 0 < length marks → length marks < length at_got

-- ---- the board

-- it is one of those that were loaded
abbrev pub IsLoaded : List Mark → Mark → Type 0
IsLoaded [] m = ⊥
IsLoaded (x ∷ earlier) m = (m ≡ x) ⊎ IsLoaded earlier m

-- Epochs were ended behind so many bytes, the latest first, each for a mark that was loaded, with a higher number than that of the one
-- before, and behind no fewer bytes than the mark has.
abbrev pub AreEnded : List Mark → List Mark → List ℕ → Type 0
AreEnded loaded [] [] = Unit {0}
AreEnded loaded [] (end ∷ ends) = ⊥
AreEnded loaded (m ∷ ms) [] = ⊥
AreEnded loaded (m ∷ ms) (end ∷ ends) = IsLoaded loaded m × ((last_of ms).0 < m.0) × (m.1 ≤ end) × AreEnded loaded ms ends

-- A board took bytes in epochs: each but the last was ended so, and the Banner of each is answered before a byte is taken in it. That of
-- the last may not be answered yet.
pub record EndsEpochs (p : Pieces) (taken : List ℕ) (loaded : List Mark) (at_answers : List ℕ) : Type 0 where
  pub whole : taken ≡ joined p
  pub ends : List ℕ
  pub are : reverse ends ≡ ends_behind 0 p.closed
  pub marks : List Mark
  pub ended : AreEnded loaded marks ends
  pub greeted : (at_answers ≡ ends ++ 0 ∷ []) ⊎ (at_answers ≡ drop 1 (ends ++ 0 ∷ []))

-- ---- both

-- Pieces of what was taken end at the marks of what was stored, in order, each at its own. One mark at most ends none yet; then
-- all that is stored stands before it.
pub record EndAtMarks (stored marks : List ℕ) (p : Pieces) : Type 0 where
  pub left : List ℕ
  pub are : reverse marks ≡ ends_behind 0 p.closed ++ left
  pub few : (left ≡ []) ⊎ (left ≡ length stored ∷ [])
