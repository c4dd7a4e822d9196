use Rattle.std.proofs.Common.{◌^◌, ◌<◌, arith, rules}
use Rattle.step_record.proofs.Appended.{short32, run_behind}
use Rattle.step_record.proofs.writing.push_run.Goals as goal

pub push_count-requires : goal.push_count-requires
push_count-requires g c = let n : c.args.n < 2 ^ 32 = c.ranges.n.fits in let short = short32 c.args.n n in (search rules, omega arith)

pub push_event-requires : goal.push_event-requires
push_event-requires g c = let n : c.args.n < 2 ^ 32 = c.ranges.n.fits in let short = short32 c.args.n n in (search rules, omega arith)

pub returns-clause-text : goal.returns-clause-text
returns-clause-text g c = run_behind _ _ _ _ c.args.n c.args.bits.now c.append.ensures.text c.push_count.ensures.text c.push_event.ensures.text

pub returns-clause-room : goal.returns-clause-room
returns-clause-room g c = let n : c.args.n < 2 ^ 32 = c.ranges.n.fits in let short = short32 c.args.n n in omega arith
