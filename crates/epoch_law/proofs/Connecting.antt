-- Two ends of a link are connected.
use Rattle.std.proofs.Common.{ℕ, ◌≤◌, List, [], ◌∷◌, length, map, subst, arith}
use Rattle.std.specs.List.{AllByRecursion}
use Rattle.std.proofs.lemmas.List.{length-map}
use Rattle.realtime_flags.specs.Bits.{IsBalanced}
use Rattle.run_law.proofs.Changing.{words_were_raised}
use Rattle.run_law.proofs.Resetting.{taken_were_raised}
use Rattle.run_rules.specs.declared.State.{State}
use Rattle.run_rules.specs.Lines.{ended}
use Rattle.step_line.specs.Logs.{NewestFirst}
use Rattle.stream_host.specs.Conduct.{Conducted}
use Rattle.host_journal.specs.Raises.{raises_in}
use Rattle.stream_host.proofs.Cutting.{epochs_are}
use Rattle.host_journal.specs.Steps as hosts
use Rattle.board_journal.specs.Ports as ports
use Rattle.board_journal.specs.Takes.{takes_in}
use Rattle.board_epochs.specs.Epochs.{Closed, Epochs, AreEpochs, log_of}
use Rattle.epoch_effects.specs.Words.{words_taken}
use Rattle.epoch_links.specs.Drops.{AreAnsweredOver, DropFew, closed_of, dropped_by}
use Rattle.epoch_links.specs.Links.{AreLinked, AreLinkedOver}
use Rattle.epoch_links.proofs.Ending.{ends_epochs}
use Rattle.epoch_links.proofs.Meeting.{drops_few, forgets_dropped}
use Rattle.epoch_law.specs.Joined.{AreConnected, AreRaisedFor}
use Rattle.epoch_law.specs.Journals.{host_did, board_did}

each_few : (room : ℕ) (es : NewestFirst Closed) → DropFew room es → AllByRecursion (λ ls. length (ended ls) ≤ room) (map dropped_by es)
each_few room [] few = tt
each_few room (e ∷ es) few = (few.0, each_few room es few.1)

pub connected : (room : ℕ) (host : hosts.Journal) (blocks : ℕ) (state : State) (r : Epochs) → Conducted room host → AreEpochs blocks state r → AreLinkedOver host r → AreAnsweredOver host r → AreRaisedFor (hosts.raises_of host) (words_taken (log_of r)) → AreConnected room (host_did host) (board_did r)
connected room host blocks state r c are linked answered raised = record {
  link = subst (λ (bytes : List ℕ). AreLinked (host_did host).stored (host_did host).marks (host_did host).at_got (host_did host).shut bytes (board_did r).loaded (board_did r).at_answers (board_did r).closed) (ends_epochs blocks state r are).whole linked;
  flags = raised;
  few = each_few room (closed_of r) (drops_few room host blocks state r c are linked answered);
  lost = λ many. forgets_dropped room host blocks state r c are linked answered (let begun = (epochs_are room host c).begun in let all = length-map (closed_of r) dropped_by in omega (arith, many, begun, all));
}

-- ---- words of flags

pub words_raised : (words : List ℕ) (host : hosts.HostLog) (board : ports.BoardLog) → IsBalanced words (raises_in host) (takes_in board) → AreRaisedFor (hosts.bytes_raised_in host) (words_taken board)
words_raised words host board balanced = record {
  taken = taken_were_raised words host board balanced;
  changes = words_were_raised words host board balanced;
}
