-- How much a stream keeps on its way to the motion, and how a run is set up.
use Rattle.std.specs.Prelude.{ℕ, ◌+◌, ◌-◌}
use Rattle.status_report.specs.Answering.{receive_room}
use Rattle.planner_runs.specs.Runs.{most_blocks}
use Rattle.command_line.specs.declared.Buffers.{Buffers}
use Rattle.command_line.specs.declared.Buffers.TheVariants.{Standard, Wide}
use Rattle.command_line.specs.declared.StreamOptions.{StreamOptions}
use Rattle.run_status.specs.Setups.{Setup}

-- for how many bytes the link has room
abbrev pub room_of : Buffers → ℕ
room_of Standard = receive_room
room_of Wide = 255

-- how many slots the plan has, of which one stays free
abbrev pub slots_of : Buffers → ℕ
slots_of Standard = most_blocks + 1
slots_of Wide = 36

-- how the options of a stream set up its run
abbrev pub setup_of : StreamOptions → Setup
setup_of options = record { attended = options.attended; room = room_of options.buffers; blocks = slots_of options.buffers - 1; form = options.form }
