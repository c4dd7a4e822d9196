use Rattle.host_journal.specs.Steps.{read_of, reading_of, scanned_of, cut_of, job_stop_of, got_of}
use Rattle.actor_turns.proofs.Reports.{world_reports}
use Rattle.actor_turns.proofs.laws.worlds_count_reports.Goals as goal

pub returns-clause-each : goal.returns-clause-each
returns-clause-each c N w hist h alone = world_reports w hist h alone

pub returns-clause-told : goal.returns-clause-told
returns-clause-told c N form was now w hist st = record {
  read = read_of hist.host;
  reading = reading_of hist.host;
  scanned = scanned_of hist.host;
  lines = cut_of hist.host;
  stop = job_stop_of hist.host;
  taken = st.job.taken;
  sent = c.hosts_send_their_lines.ensures.so_far w.room hist.host st.holds.host.conducted;
  replies = got_of hist.host;
  failed = w.host.text.failed;
  waiting = w.host.text.waiting;
  console = st.console;
  reports = λ alone. world_reports w hist st.holds alone;
}
