use Rattle.std.proofs.Common.{refl, arith, inl, inr}
use Rattle.clap.proofs.OnLiterals.{clap_on_literals}
use Rattle.command_line.proofs.CommandLine.{begins}
use Rattle.command_line.proofs.Numbers.{one_task, some_asked}
use Rattle.command_line.proofs.accepted_words.Goals as goal

pub returns-clause-begins : goal.returns-clause-begins
returns-clause-begins c = begins

pub returns-clause-one : goal.returns-clause-one
returns-clause-one c = one_task

pub returns-clause-some : goal.returns-clause-some
returns-clause-some c = some_asked

pub returns-clause-paced : goal.returns-clause-paced
unfolding clap_on_literals
returns-clause-paced c = ((refl, refl), λ refused. elim refused [ inl fault ↦ fault refl | inr two ↦ cc ])

pub returns-clause-compact : goal.returns-clause-compact
unfolding clap_on_literals
returns-clause-compact c = ((refl, refl), λ refused. elim refused [ inl fault ↦ fault refl | inr two ↦ cc ])

pub returns-clause-compact_by_seed : goal.returns-clause-compact_by_seed
unfolding clap_on_literals
returns-clause-compact_by_seed c = ((refl, refl), λ refused. elim refused [ inl fault ↦ fault refl | inr two ↦ cc ])

pub returns-clause-seed_and_compact : goal.returns-clause-seed_and_compact
unfolding clap_on_literals
returns-clause-seed_and_compact c = ((refl, refl), λ refused. elim refused [ inl fault ↦ fault refl | inr two ↦ cc ])

pub returns-clause-compact_and_paced : goal.returns-clause-compact_and_paced
unfolding clap_on_literals
returns-clause-compact_and_paced c = ((refl, refl), λ refused. elim refused [ inl fault ↦ fault refl | inr two ↦ cc ])

pub returns-clause-wide : goal.returns-clause-wide
unfolding clap_on_literals
returns-clause-wide c = ((refl, refl), λ refused. elim refused [ inl fault ↦ fault refl | inr two ↦ cc ])

pub returns-clause-wide_by_seed : goal.returns-clause-wide_by_seed
unfolding clap_on_literals
returns-clause-wide_by_seed c = ((refl, refl), λ refused. elim refused [ inl fault ↦ fault refl | inr two ↦ cc ])

pub returns-clause-twice_wide : goal.returns-clause-twice_wide
unfolding clap_on_literals
returns-clause-twice_wide c = refl

pub returns-clause-wide_has_no_value : goal.returns-clause-wide_has_no_value
unfolding clap_on_literals
returns-clause-wide_has_no_value c = refl

pub returns-clause-wide_demo : goal.returns-clause-wide_demo
unfolding clap_on_literals
returns-clause-wide_demo c = refl

pub returns-clause-paced_by_seed : goal.returns-clause-paced_by_seed
unfolding clap_on_literals
returns-clause-paced_by_seed c = inr (refl, refl)

pub returns-clause-seed_and_paced : goal.returns-clause-seed_and_paced
unfolding clap_on_literals
returns-clause-seed_and_paced c = inr (refl, refl)

pub returns-clause-two_paces : goal.returns-clause-two_paces
unfolding clap_on_literals
returns-clause-two_paces c = refl

pub returns-clause-twice_compact : goal.returns-clause-twice_compact
unfolding clap_on_literals
returns-clause-twice_compact c = refl

pub returns-clause-compact_is_no_seed : goal.returns-clause-compact_is_no_seed
unfolding clap_on_literals
returns-clause-compact_is_no_seed c = refl

pub returns-clause-compact_has_no_value : goal.returns-clause-compact_has_no_value
unfolding clap_on_literals
returns-clause-compact_has_no_value c = refl

pub returns-clause-compact_demo : goal.returns-clause-compact_demo
unfolding clap_on_literals
returns-clause-compact_demo c = refl

pub returns-clause-stream : goal.returns-clause-stream
unfolding clap_on_literals
returns-clause-stream c = ((refl, refl), λ refused. elim refused [ inl fault ↦ fault refl | inr two ↦ cc ])

pub returns-clause-no_more : goal.returns-clause-no_more
unfolding clap_on_literals
returns-clause-no_more c = refl

pub returns-clause-seed : goal.returns-clause-seed
unfolding clap_on_literals
returns-clause-seed c = ((refl, refl), λ refused. elim refused [ inl fault ↦ fault refl | inr two ↦ cc ])

pub returns-clause-largest_seed : goal.returns-clause-largest_seed
unfolding clap_on_literals
returns-clause-largest_seed c = ((refl, refl), λ refused. elim refused [ inl fault ↦ fault refl | inr two ↦ cc ])

pub returns-clause-seed_too_large : goal.returns-clause-seed_too_large
unfolding clap_on_literals
returns-clause-seed_too_large c = refl

pub returns-clause-no_seed : goal.returns-clause-no_seed
unfolding clap_on_literals
returns-clause-no_seed c = refl

pub returns-clause-two_seeds : goal.returns-clause-two_seeds
unfolding clap_on_literals
returns-clause-two_seeds c = refl

pub returns-clause-moves : goal.returns-clause-moves
unfolding clap_on_literals
returns-clause-moves c = ((refl, refl, omega arith, omega arith), refl)

pub returns-clause-most_moves : goal.returns-clause-most_moves
unfolding clap_on_literals
returns-clause-most_moves c = ((refl, refl, omega arith, omega arith), refl)

pub returns-clause-too_many : goal.returns-clause-too_many
unfolding clap_on_literals
returns-clause-too_many c = refl

pub returns-clause-too_few : goal.returns-clause-too_few
unfolding clap_on_literals
returns-clause-too_few c = refl

pub returns-clause-no_moves : goal.returns-clause-no_moves
unfolding clap_on_literals
returns-clause-no_moves c = refl

pub returns-clause-empty : goal.returns-clause-empty
unfolding clap_on_literals
returns-clause-empty c = refl

pub returns-clause-more : goal.returns-clause-more
unfolding clap_on_literals
returns-clause-more c = refl

pub returns-clause-help : goal.returns-clause-help
unfolding clap_on_literals
returns-clause-help c = refl

pub returns-clause-version : goal.returns-clause-version
unfolding clap_on_literals
returns-clause-version c = refl

pub returns-clause-other : goal.returns-clause-other
unfolding clap_on_literals
returns-clause-other c = refl

pub returns-clause-smooth : goal.returns-clause-smooth
unfolding clap_on_literals
returns-clause-smooth c = ((refl, refl), λ refused. elim refused [ inl fault ↦ fault refl | inr two ↦ cc ])

pub returns-clause-smooth_by_seed : goal.returns-clause-smooth_by_seed
unfolding clap_on_literals
returns-clause-smooth_by_seed c = ((refl, refl), λ refused. elim refused [ inl fault ↦ fault refl | inr two ↦ cc ])

pub returns-clause-pins : goal.returns-clause-pins
unfolding clap_on_literals
returns-clause-pins c = ((refl, refl, omega arith, omega arith), refl)

pub returns-clause-no_pins : goal.returns-clause-no_pins
unfolding clap_on_literals
returns-clause-no_pins c = refl

pub returns-clause-smooth_demo : goal.returns-clause-smooth_demo
unfolding clap_on_literals
returns-clause-smooth_demo c = refl

pub returns-clause-attended : goal.returns-clause-attended
unfolding clap_on_literals
returns-clause-attended c = ((refl, refl), λ refused. elim refused [ inl fault ↦ fault refl | inr two ↦ cc ])

pub returns-clause-attended_by_seed : goal.returns-clause-attended_by_seed
unfolding clap_on_literals
returns-clause-attended_by_seed c = ((refl, refl), λ refused. elim refused [ inl fault ↦ fault refl | inr two ↦ cc ])

pub returns-clause-twice_attended : goal.returns-clause-twice_attended
unfolding clap_on_literals
returns-clause-twice_attended c = refl

pub returns-clause-attended_has_no_value : goal.returns-clause-attended_has_no_value
unfolding clap_on_literals
returns-clause-attended_has_no_value c = refl

pub returns-clause-attended_demo : goal.returns-clause-attended_demo
unfolding clap_on_literals
returns-clause-attended_demo c = refl
