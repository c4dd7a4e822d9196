-- What actors have done, by their journals.
use Rattle.std.specs.Prelude.{map, reverse}
use Rattle.serial_ring.specs.Logs.{marked_in, taken_at_banners}
use Rattle.host_journal.specs.Steps as hosts
use Rattle.board_journal.specs.Ports.{has_closed_in, link_steps, sent_in}
use Rattle.board_epochs.specs.Epochs.{Epochs, log_of}
use Rattle.epoch_courses.specs.Told.{answered_by}
use Rattle.epoch_effects.specs.Words.{words_taken}
use Rattle.epoch_links.specs.Drops.{closed_of, dropped_by}
use Rattle.epoch_links.specs.Taken.{taken_by}
use Rattle.epoch_runs.specs.Epochs.{halts_seen, phase_of, pieces_sent}
use Rattle.pulse_engine.specs.Logs.{PieceLog, RecordLog, pieces_of, halts_of, records_put}
use Rattle.epoch_law.specs.Ran.{HostDid, BoardDid, PulseDid}

abbrev pub host_did : hosts.Journal → HostDid
host_did h = record {
  stored = hosts.stored_of h;
  marks = hosts.marks_of h;
  at_got = hosts.stored_at_banners (hosts.port_log h);
  shut = hosts.is_shut h;
  raised = hosts.raises_of h;
  got = hosts.got_of h;
  forgotten = hosts.forgotten_of h;
}

abbrev pub board_did : Epochs → BoardDid
board_did es = record {
  taken = taken_by es;
  loaded = marked_in (link_steps (log_of es));
  at_answers = taken_at_banners (link_steps (log_of es));
  closed = has_closed_in (log_of es);
  words = words_taken (log_of es);
  answered = answered_by es;
  published = pieces_sent (sent_in (log_of es));
  halts = halts_seen (sent_in (log_of es));
  phase = phase_of es;
  dropped = map dropped_by (closed_of es);
}

abbrev pub pulse_did : PieceLog → RecordLog → PulseDid
pulse_did h k = record {
  got = reverse (pieces_of h);
  halts = halts_of h;
  put = records_put k;
}
