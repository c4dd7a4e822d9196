use Rattle.std.proofs.Common.{sym}
use Rattle.host_journal.specs.Steps.{reading_of}
use Rattle.actor_turns.proofs.Running.{failed_is}
use Rattle.actor_turns.proofs.world.World.end.Goals as goal

pub returns-clause-whole : goal.returns-clause-whole
returns-clause-whole g c = rw (sym c.self.view_is) (λ form was now hist st done.
    let f = st.holds.host in
    rw (
      c.stop.ensures _ hist.host f,
      c.answered.ensures _ hist.host f,
      c.errors.ensures _ hist.host f,
      failed_is c.source_failed.result (reading_of hist.host) (c.source_failed.ensures _ hist.host f),
      c.console_failed.ensures _ hist.host f,
      c.failed.ensures,
    ) (c.worlds_run.ensures.whole _ form was now _ hist st done))

pub returns-clause-alone : goal.returns-clause-alone
returns-clause-alone g c = rw (sym c.self.view_is) (λ form was now hist st done.
    let f = st.holds.host in
    rw (
      c.stop.ensures _ hist.host f,
      c.answered.ensures _ hist.host f,
      c.errors.ensures _ hist.host f,
      failed_is c.source_failed.result (reading_of hist.host) (c.source_failed.ensures _ hist.host f),
      c.console_failed.ensures _ hist.host f,
      c.failed.ensures,
    ) (c.worlds_run.ensures.alone _ form was now _ hist st done))

pub returns-clause-counted : goal.returns-clause-counted
returns-clause-counted g c = rw (sym c.self.view_is) (λ form was now hist st done.
    let f = st.holds.host in
    rw (
      c.stop.ensures _ hist.host f,
      c.answered.ensures _ hist.host f,
      c.errors.ensures _ hist.host f,
      failed_is c.source_failed.result (reading_of hist.host) (c.source_failed.ensures _ hist.host f),
      c.console_failed.ensures _ hist.host f,
      c.failed.ensures,
    ) (c.worlds_run.ensures.counted _ form was now _ hist st done))
