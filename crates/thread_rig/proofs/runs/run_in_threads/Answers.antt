use Rattle.std.proofs.Common.{◌≡◌, ℕ, Bool, subst}
use Rattle.step_record.specs.declared.forms.Form.{Form}
use Rattle.run_law.specs.declared.RunEnd.{RunEnd}
use Rattle.run_law.specs.Devices.{Devices}
use Rattle.epoch_law.specs.Devices.{HasRun}
use Rattle.thread_rig.proofs.runs.run_in_threads.Goals as goal

as_begun : (attended its : Bool) (room blocks : ℕ) (was now : Devices) (end : RunEnd) (form made : Form) → its ≡ attended → made ≡ form → HasRun its room blocks made was now end → HasRun attended room blocks form was now end
as_begun attended its room blocks was now end form made same_sender same_form run =
    subst (λ (a : Bool). HasRun a room blocks form was now end) same_sender (subst (λ (f : Form). HasRun its room blocks f was now end) same_form run)

pub returns-clause-run : goal.returns-clause-run
returns-clause-run g c = as_begun _ _ _ _ _ _ _ _ _ c.in_ok-rig.ensures.attended c.in_ok-rig.ensures.form (c.rigs_run.ensures _ _ _ _ _ _ _ c.run_threads-end.ensures.ran c.join.ensures)
