use Rattle.std.proofs.Common.{refl, length}
use Rattle.step_line.specs.Asking.{ticks_among}
use Rattle.epoch_records.proofs.PutSoFar.{put_so_far, put_unseen}
use Rattle.epoch_records.proofs.laws.pulses_put_epochs_so_far.Goals as goal

pub returns-clause-seen : goal.returns-clause-seen
returns-clause-seen c = λ number phase closed now published halts stored stretches last records are b same ends since.
    put_so_far number phase closed now (length (ticks_among records)) published halts stored stretches last records are b same ends since refl

pub returns-clause-unseen : goal.returns-clause-unseen
returns-clause-unseen c = λ number phase closed now published halts stored stretches last records are unseen ends since.
    put_unseen number phase closed now (length (ticks_among records)) published halts stored stretches last records are unseen ends since refl
