use Rattle.step_record.proofs.Digits.{digits_only}
use Rattle.step_record.proofs.numbers.split_digits.Goals as goal

pub returns-clause-only : goal.returns-clause-only
returns-clause-only c = rw (c.split_at.ensures.front, c.digits_len.ensures.len) (digits_only c.args.text.now)
