use Rattle.std.proofs.Common.{◌≡◌, ℕ, ◌<◌, ◌++◌, false, List, length, map}
use Rattle.host_journal.specs.Steps.{Journal}
use Rattle.host_journal.specs.Steps.Step.{scanned}
use Rattle.stream_host.specs.Hosts.{HostFits, awaits_by, unread}
use Rattle.stream_host.proofs.host.Host.scan.Given as goal

abbrev pub invariant-loop-self : goal.invariant-loop-self
invariant-loop-self l = record {
  shut : l.self.shut ≡ false;
  calm : l.self.alarm ≡ false;
  epoch : awaits_by l.self.resets ≡ false;
  text : l.self.text ≡ l.fn.self.text;
  scans : (room : ℕ) (h : Journal) → HostFits room l.fn.self h → (bytes : List ℕ) × (0 < length bytes) × HostFits room l.self (map scanned bytes ++ h);
}

abbrev pub decreases-loop-self : goal.decreases-loop-self
decreases-loop-self l = length (unread l.self.job)
