-- Records on their way from a pulse to a recorder.
use Rattle.std.specs.Prelude.{◌≡◌, ℕ, ◌≤◌, List, ◌++◌, length}
use Rattle.std.specs.List.{All}
use Rattle.step_line.specs.declared.Record.{Record}
use Rattle.step_line.specs.Records.{IsRecord}
use Rattle.pulse_engine.specs.Logs.{RecordLog, records_put}
use Rattle.step_record.specs.Taking.{Log, records}

-- so many records may wait
abbrev pub record_room : ℕ
record_room = 1024

-- the records that were put are those that were taken, and those that wait
abbrev pub HandsOn : List Record → RecordLog → Log → Type 0
HandsOn waiting put taken = records_put put ≡ records taken ++ waiting

-- records that wait have a line each, and there is room for 1,024
pub record AreHeld (waiting : List Record) (capacity : ℕ) : Type 0 where
  pub lines : All IsRecord waiting
  pub room : capacity ≡ record_room
  pub few : length waiting ≤ record_room
