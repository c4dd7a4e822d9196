-- What the thread of a host has done at its ends.
use Rattle.std.specs.Prelude.{◌≡◌, ℕ, []}
use Rattle.outside.specs.Causes.{SourceState, SinkState}
use Rattle.serial_ring.specs.Ends.{link_of_host}
use Rattle.realtime_flags.specs.Ends.{raised_in}
use Rattle.host_journal.specs.Steps.{Journal as HostJournal, port_log as host_log, beginning}
use Rattle.stream_host.specs.Hosts.{HostFits, HostRests, TellsJob, TellsText}
use Rattle.stream_host.specs.Hosts.{IsBetween as IsBetweenOfHost}
use Rattle.link_ports.specs.Standing.{HostLogs, HostSees}
use Rattle.thread_rig.specs.declared.host.HostSide.{HostSide}

-- no turn was made
pub record HostIsNew {room : ℕ} (side : HostSide room) : Type 0 where
  pub did : HostLogs side.link []
  pub sees : HostSees side.link []
  pub fits : HostFits room side.host (beginning side.host.attended)

-- The host has done this by its rules, at ends that are of the tables that they were of: what its ends stored, raised and got
-- is what its journal says, the job gave what it read, and the console took what it wrote.
pub record HostRunsAt {room : ℕ} (job_was job_is : SourceState) (console_was console_is : SinkState) (was is : HostSide room) : Type 0 where
  pub journal : HostJournal
  pub attended : is.host.attended ≡ was.host.attended
  pub link : link_of_host is.link.end ≡ link_of_host was.link.end
  pub flags : raised_in is.link.flags ≡ raised_in was.link.flags
  pub did : HostLogs is.link (host_log journal)
  pub sees : HostSees is.link (host_log journal)
  pub fits : HostFits room is.host journal
  pub between : IsBetweenOfHost journal
  pub job : TellsJob journal job_was job_is
  pub console : TellsText is.host.text journal console_was console_is

-- it has, and the host is done
pub record HostRanAt {room : ℕ} (job_was job_is : SourceState) (console_was console_is : SinkState) (was is : HostSide room) : Type 0 where
  pub runs : HostRunsAt job_was job_is console_was console_is was is
  pub done : HostRests is.host
