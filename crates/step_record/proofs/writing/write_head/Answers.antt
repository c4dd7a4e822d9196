use Rattle.std.proofs.Common.{arith}
use Rattle.step_record.proofs.Appended.{short32, short64, head_behind, head_line}
use Rattle.step_record.proofs.writing.write_head.Goals as goal

pub returns-clause-text : goal.returns-clause-text
returns-clause-text c =
    let h = c.args.head.now in
    head_line h c.write_number-number.new.line c.write_number-number.result
    (omega (arith, short32 h.line c.requires.line.1, short32 h.n c.requires.n.1, short64 h.w c.requires.w, short64 h.cycles c.requires.cycles))
    (omega arith)
    (head_behind h c.args.line.now c.write_number-cycles.new.line c.write_number-w.new.line c.write_number-n.new.line c.write_number-number.new.line
    c.write_number-cycles.result c.write_number-w.result c.write_number-n.result c.write_number-number.result
    (omega arith) c.write_number-cycles.ensures.text c.write_number-w.ensures.text c.write_number-n.ensures.text c.write_number-number.ensures.text)

pub write_number-cycles-requires : goal.write_number-cycles-requires
write_number-cycles-requires c = let h = c.args.head.now in (omega (arith, short64 h.cycles c.requires.cycles), omega arith)

pub write_number-w-requires : goal.write_number-w-requires
write_number-w-requires c = let h = c.args.head.now in (omega (arith, short64 h.cycles c.requires.cycles, short64 h.w c.requires.w), omega arith)

pub write_number-n-requires : goal.write_number-n-requires
write_number-n-requires c = let h = c.args.head.now in (omega (arith, short64 h.cycles c.requires.cycles, short64 h.w c.requires.w, short32 h.n c.requires.n.1), omega arith)

pub write_number-number-requires : goal.write_number-number-requires
write_number-number-requires c = let h = c.args.head.now in (omega (arith, short64 h.cycles c.requires.cycles, short64 h.w c.requires.w, short32 h.n c.requires.n.1, short32 h.line c.requires.line.1), omega arith)

pub overflow_sub-line : goal.overflow_sub-line
overflow_sub-line c = let h = c.args.head.now in omega (arith, short64 h.cycles c.requires.cycles, short64 h.w c.requires.w, short32 h.n c.requires.n.1, short32 h.line c.requires.line.1)

pub overflow_sub-result : goal.overflow_sub-result
overflow_sub-result c = let h = c.args.head.now in omega (arith, short64 h.cycles c.requires.cycles, short64 h.w c.requires.w, short32 h.n c.requires.n.1, short32 h.line c.requires.line.1)

pub bounds-line-number : goal.bounds-line-number
bounds-line-number c = omega arith

pub bounds-line-number-2 : goal.bounds-line-number-2
bounds-line-number-2 c = omega arith

pub returns-clause-within : goal.returns-clause-within
returns-clause-within c = omega arith

pub overflow_sub-line-2 : goal.overflow_sub-line-2
overflow_sub-line-2 c =
    let h = c.args.head.now in
    omega (arith, short64 h.cycles c.requires.cycles, short64 h.w c.requires.w, short32 h.n c.requires.n.1, short32 h.line c.requires.line.1)
