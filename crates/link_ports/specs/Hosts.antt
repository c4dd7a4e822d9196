-- What a host's log says of its ends of a link and of the flags.
use Rattle.std.specs.Prelude.{◌≡◌, ℕ, ◌+◌, Bool, List, [], ◌∷◌, length, reverse}
use Rattle.status_report.specs.declared.Reply.{Reply}
use Rattle.realtime_flags.specs.declared.words.Raise.{Raise}
use Rattle.serial_ring.specs.declared.ends.HostEnd.{HostEnd}
use Rattle.serial_ring.specs.Ends.{tail_shown, tail_loads_of, got_by, replies_shown, reply_loads_of}
use Rattle.link_ports.specs.Loads.{StoredByte, FoundNoRoom}
use Rattle.host_journal.specs.Steps.{HostLog, stored_in, stored_at_banners, got_in, latest_got, marks_in, is_shut_in}
use Rattle.host_journal.specs.Ports.{AreGreeted}
use Rattle.host_journal.specs.Raises.{raises_in}
use Rattle.serial_ring.specs.Marks.{Mark}
use Rattle.host_journal.specs.Steps.PortStep.{stored, dropped, marked, raised, got, no_reply, shut}

-- what the ends stored, marked, got and raised, the latest first, is what the log says, and these are marks of the Banners got
pub record HostDid (bytes marks : List ℕ) (closed : Bool) (replies : List Reply) (greeted : List Mark) (raises : List Raise) (moments : List ℕ) (h : HostLog) : Type 0 where
  pub bytes_are : stored_in h ≡ reverse bytes
  pub marks_are : marks_in h ≡ marks
  pub shut_is : is_shut_in h ≡ closed
  pub replies_are : got_in h ≡ reverse replies
  pub latest_are : latest_got h ≡ replies
  pub greeted_are : AreGreeted h greeted
  pub raises_are : raises_in h ≡ raises
  -- how many bytes were stored as each of these Banners was got
  pub moments_are : stored_at_banners h ≡ moments

-- How often the tail of the bytes was loaded, and how many bytes it showed taken at last: a call that stores a byte, or drops it,
-- loads it if it had shown no room for one.
abbrev pub LooksForRoom : (room : ℕ) → HostLog → (loads shown : ℕ) → Type 0
LooksForRoom room [] loads shown = (loads ≡ 0) × (shown ≡ 0)
LooksForRoom room (stored b ∷ h) loads shown = (k s : ℕ) × LooksForRoom room h k s × StoredByte room (length (stored_in h)) k s loads shown
LooksForRoom room (dropped b ∷ h) loads shown = (k s : ℕ) × LooksForRoom room h k s × FoundNoRoom room (length (stored_in h)) k s loads shown
LooksForRoom room (_ ∷ h) loads shown = LooksForRoom room h loads shown

-- how often it was looked for a reply
abbrev pub reply_looks_in : HostLog → ℕ
reply_looks_in [] = 0
reply_looks_in (got r ∷ h) = reply_looks_in h + 1
reply_looks_in (no_reply ∷ h) = reply_looks_in h + 1
reply_looks_in (_ ∷ h) = reply_looks_in h

-- What was loaded last showed: no reply is found only where the head of the replies showed that all are obtained.
abbrev pub HostSaw : HostLog → (replies obtained : ℕ) → Type 0
HostSaw [] replies obtained = Unit {0}
HostSaw (stored b ∷ h) replies obtained = Unit {0}
HostSaw (dropped b ∷ h) replies obtained = Unit {0}
HostSaw (marked ∷ h) replies obtained = Unit {0}
HostSaw (raised b down ∷ h) replies obtained = Unit {0}
HostSaw (got r ∷ h) replies obtained = Unit {0}
HostSaw (no_reply ∷ h) replies obtained = replies ≡ obtained
HostSaw (shut ∷ h) replies obtained = Unit {0}

-- The end has loaded the tail of the bytes as often as it had to, and the head of the replies once each time that it looked for a
-- reply. So what is not found is what a load of that call showed.
pub record HostLooked {room : ℕ} (end : HostEnd room) (h : HostLog) : Type 0 where
  pub room_looks : LooksForRoom room h (tail_loads_of end) (tail_shown end)
  pub reply_looks : reply_loads_of end ≡ reply_looks_in h
  pub saw : HostSaw h (replies_shown end) (length (got_by end))
