-- The epochs of a host's run. Each Banner but the first begins one; the lines that have no answer then are dropped.
use Rattle.std.specs.Prelude.{◌≡◌, ℕ, ◌+◌, ◌-◌, ◌≤◌, cond, List, [], ◌∷◌, ◌++◌, length, take, drop, nat_eq}
use Rattle.std.specs.List.{AllByRecursion}
use Rattle.status_report.specs.declared.Reply.{Reply}
use Rattle.status_report.specs.Answering.{answers_in, banners_in}
use Rattle.host_journal.specs.Links.{on_link}
use Rattle.host_journal.specs.Steps.{Journal, port_log, begins, raw_of}
use Rattle.host_journal.specs.Steps.PortStep.{got}
use Rattle.host_journal.specs.Steps.Step.{at_port, scanned, line_over}

-- an epoch: its lines, and the replies got in it, both in order
pub record Epoch : Type 0 where
  pub lines : List (List ℕ)
  pub got : List Reply

-- the lines of an epoch that are answered, its first ones, and those that its end drops
abbrev pub told_lines : Epoch → List (List ℕ)
told_lines e = take (answers_in e.got) e.lines

abbrev pub dropped_lines : Epoch → List (List ℕ)
dropped_lines e = drop (answers_in e.got) e.lines

-- ---- some epochs that are over, the latest first

abbrev pub lines_in : List Epoch → List (List ℕ)
lines_in [] = []
lines_in (e ∷ earlier) = lines_in earlier ++ e.lines

-- those of their lines that are answered
abbrev pub told_in : List Epoch → List (List ℕ)
told_in [] = []
told_in (e ∷ earlier) = told_in earlier ++ told_lines e

abbrev pub replies_in : List Epoch → List Reply
replies_in [] = []
replies_in (e ∷ earlier) = replies_in earlier ++ e.got

-- an epoch is over: the lines that its end drops take no more bytes on the link than it has room for, each with its LF
pub record IsOver (room : ℕ) (e : Epoch) : Type 0 where
  pub few : answers_in e.got ≤ length e.lines
  pub small : length (on_link (dropped_lines e)) ≤ room

-- each of these marks, by how many bytes were stored before it, ends one of these epochs, both the latest first
abbrev pub AreEnds : List ℕ → List Epoch → Type 0
AreEnds [] [] = Unit {0}
AreEnds [] (e ∷ earlier) = ⊥
AreEnds (bytes ∷ marks) [] = ⊥
AreEnds (bytes ∷ marks) (e ∷ earlier) = (bytes ≡ length (on_link (lines_in (e ∷ earlier)))) × AreEnds marks earlier

-- Lines, those of them that live, and replies are those of some epochs that are over and one that goes on. Each Banner but the first
-- begins one.
pub record AreEpochs (room : ℕ) (lines live : List (List ℕ)) (replies : List Reply) (ended : List Epoch) (now : Epoch) : Type 0 where
  pub lines_are : lines ≡ lines_in ended ++ now.lines
  pub live_are : live ≡ told_in ended ++ now.lines
  pub replies_are : replies ≡ replies_in ended ++ now.got
  pub count : answers_in replies ≡ length (told_in ended) + answers_in now.got
  pub over : AllByRecursion (IsOver room) ended
  pub begun : length ended ≡ banners_in replies - 1

-- ---- the epochs of a journal

abbrev pub lines_now : Journal → List (List ℕ)
lines_now [] = []
lines_now (at_port (got r) ∷ h) = cond (begins r (port_log h)) [] (lines_now h)
lines_now (scanned b ∷ h) = cond (nat_eq b 10) (lines_now h ++ raw_of h ∷ []) (lines_now h)
lines_now (line_over ∷ h) = lines_now h ++ raw_of h ∷ []
lines_now (_ ∷ h) = lines_now h

abbrev pub got_now : Journal → List Reply
got_now [] = []
got_now (at_port (got r) ∷ h) = cond (begins r (port_log h)) (r ∷ []) (got_now h ++ r ∷ [])
got_now (_ ∷ h) = got_now h

-- the epoch that it is in
abbrev pub epoch_now : Journal → Epoch
epoch_now h = record { lines = lines_now h; got = got_now h }

-- those that are over, the latest first
abbrev pub ended_of : Journal → List Epoch
ended_of [] = []
ended_of (at_port (got r) ∷ h) = cond (begins r (port_log h)) (epoch_now h ∷ ended_of h) (ended_of h)
ended_of (_ ∷ h) = ended_of h
