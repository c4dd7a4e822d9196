use Rattle.std.proofs.Common.{length, ap, arith, rules, ◌∙◌}
use Rattle.step_record.proofs.Appended.{number_behind}
use Rattle.step_record.proofs.writing.push_number.Goals as goal

pub append-requires : goal.append-requires
append-requires g c = let many = ap length (c.as_bytes.ensures.value ∙ c.format.ensures.text) in (search rules, omega (arith, many))

pub push-requires : goal.push-requires
push-requires g c = let many = ap length (c.as_bytes.ensures.value ∙ c.format.ensures.text) in (search rules, omega (arith, many))

pub returns-clause-text : goal.returns-clause-text
returns-clause-text g c = number_behind _ _ _ _ _ c.args.end c.append.ensures.text (c.as_bytes.ensures.value ∙ c.format.ensures.text) c.push.ensures.items

pub returns-clause-room : goal.returns-clause-room
returns-clause-room g c = let many = ap length (c.as_bytes.ensures.value ∙ c.format.ensures.text) in omega (arith, many, c.push.ensures.len)
