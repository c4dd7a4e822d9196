-- What the program ends with, and what it says where a run did not go well.
use Rattle.std.specs.Prelude.{ℕ, List, [], ◌++◌, codes, decimal}
use Rattle.run_status.specs.declared.Status.{Status}
use Rattle.run_status.specs.declared.Status.TheVariants.{Done, LineErrors, Usage, SourceFault, ConsoleFault, StepsFault, LongLine, Alarm, TooLarge, OutOfMemory}

abbrev pub fault_text : Status → List ℕ
fault_text Done = []
fault_text (LineErrors n) = decimal n ++ codes " lines refused\n"
fault_text Usage = codes "usage: grbl stream [--lockstep SEED] [--wide] [--compact] | grbl demo N\n"
fault_text SourceFault = codes "fault: the job could not be read\n"
fault_text ConsoleFault = codes "fault: the console could not be written\n"
fault_text StepsFault = codes "fault: the steps could not be written\n"
fault_text (LongLine k) = codes "fault: line " ++ decimal k ++ codes " is longer than 127 bytes\n"
fault_text (Alarm k) = codes "stopped: soft limit at line " ++ decimal k ++ codes "\n"
fault_text TooLarge = codes "fault: the job is larger than 16777216 bytes\n"
fault_text OutOfMemory = codes "fault: out of memory\n"

-- the number that the program ends with
abbrev pub exit_number_of : Status → ℕ
exit_number_of Done = 0
exit_number_of (LineErrors n) = 1
exit_number_of Usage = 2
exit_number_of SourceFault = 3
exit_number_of ConsoleFault = 4
exit_number_of StepsFault = 5
exit_number_of (LongLine k) = 6
exit_number_of (Alarm k) = 8
exit_number_of TooLarge = 9
exit_number_of OutOfMemory = 10
