use Rattle.thread_rig.proofs.rig.Rig.join.Goals as goal

pub returns : goal.returns
returns g c = record {
  link = c.join_link.ensures;
  words = c.join_flags.ensures.0;
  flags = c.join_flags.ensures.1;
  pieces = c.join_motion.ensures;
  untaken = c.join_records.ensures.0;
  records = c.join_records.ensures.1;
}
