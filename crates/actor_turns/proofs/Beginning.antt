-- Before anything is done.
use Rattle.std.proofs.Common.{◌≡◌, [], Bool, refl, sym, subst, ℕ}
use Rattle.host_journal.specs.Steps.{HostLog, beginning}
use Rattle.stream_host.specs.Hosts.{HostFits}
use Rattle.stream_host.proofs.Running.{tells_nothing, new_shows_nothing, logs_nothing, between_nothing}
use Rattle.board_epochs.specs.Epochs.Epochs.{goes}
use Rattle.controller.specs.Boards.{BoardFits}
use Rattle.motion_pulse.specs.declared.pulse.Stepping.{Stepping}
use Rattle.motion_pulse.specs.Pulses.{MotionFits, stepping_of}
use Rattle.list_ports.specs.Joining.{Joined}
use Rattle.actor_turns.specs.Worlds.{Seen, Devices, Holds, Stands, no_history}
use Rattle.step_record.specs.declared.forms.Form.{Form}
use Rattle.step_record.specs.Recording.{RecorderFits}

pub holds_nothing : {N : ℕ} (attended : Bool) (w : Seen N) → Joined w.lists [] [] [] → w.waiting ≡ [] → HostFits w.room w.host (beginning attended) → BoardFits w.board (goes [] []) → MotionFits w.pulse [] [] → (stepping : Stepping) → stepping_of w.pulse ≡ stepping → Holds w (no_history attended stepping)
holds_nothing attended w joined none host board pulse stepping kind = record {
  joined = subst (λ (log : HostLog). Joined w.lists log [] []) (sym (logs_nothing attended)) joined;
  passed = sym none;
  host = host;
  host_between = between_nothing attended;
  board = board;
  board_between = refl;
  pulse = pulse;
  stepping = kind;
}

pub begins : {N : ℕ} (form : Form) (attended : Bool) (stepping : Stepping) (w : Seen N) (now : Devices) → Holds w (no_history attended stepping) → RecorderFits form w.recorder [] now.steps now.steps → Stands form now now w (no_history attended stepping)
begins form attended stepping w now h r = record { holds = h; job = tells_nothing attended now.job; console = new_shows_nothing attended w.host now.console h.host; wrote = r }
