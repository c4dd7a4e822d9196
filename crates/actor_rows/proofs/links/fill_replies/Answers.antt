use Rattle.std.proofs.Common.{rules, arith}
use Rattle.actor_rows.proofs.links.fill_replies.Goals as goal

pub answer-requires : goal.answer-requires
answer-requires g c = (search rules, record { line = λ e. absurd cc; banner = λ e. absurd cc; text = tt; few = omega arith })
