use Rattle.std.proofs.Common.{arith, rules}
use Rattle.step_record.proofs.Appended.{short64, named_behind}
use Rattle.step_record.proofs.writing.push_named.Goals as goal

pub append-requires : goal.append-requires
append-requires g c = (search rules, omega arith)

pub push_number-requires : goal.push_number-requires
push_number-requires g c = omega (arith, short64 c.args.n c.ranges.n.fits)

pub returns-clause-text : goal.returns-clause-text
returns-clause-text g c = named_behind _ _ _ _ _ 10 c.append.ensures.text c.push_number.ensures.text

pub returns-clause-room : goal.returns-clause-room
returns-clause-room g c = omega (arith, short64 c.args.n c.ranges.n.fits)
