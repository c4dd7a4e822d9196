-- The generated job: its lines, and what it makes.
use Rattle.std.specs.Prelude.{ℕ, ◌+◌, ◌-◌, ◌*◌, ◌/◌, ◌%◌, List, [], ◌∷◌, ◌++◌, map, codes, decimal, ℤ, pos}
use Rattle.std.specs.List.{range_with_len, sum_by}
use Rattle.units.specs.declared.Steps3.{Steps3}
use Rattle.units.specs.declared.Move.{Move}
use Rattle.units.specs.Fixed.{fixed3}
pub use Rattle.gcode_words.specs.Stripping.{ended}
use Rattle.units.specs.Lengths.{thousandths_of}
use Rattle.step_line.specs.Counting.{events_of}

-- where move i goes, from 1, in tenths of a millimetre; before the first the machine is at 0
abbrev pub x_tenths : ℕ → ℕ
x_tenths i = 7 * i % 50

abbrev pub y_tenths : ℕ → ℕ
y_tenths i = 11 * i % 30

-- tenths below a hundred as millimetres: a digit, a point, a digit
abbrev pub tenths_text : ℕ → List ℕ
tenths_text t = (48 + t / 10) ∷ 46 ∷ (48 + t % 10) ∷ []

abbrev pub move_line : ℕ → List ℕ
move_line i = codes "G1X" ++ tenths_text (x_tenths i) ++ codes "Y" ++ tenths_text (y_tenths i)

-- the lines of the job of n moves: modes, feed, the moves from 1 to n, the end
abbrev pub job_lines : ℕ → List (List ℕ)
job_lines n = codes "G21G90G94" ∷ codes "F600" ∷ map move_line (range_with_len 1 n) ++ codes "M2" ∷ []

abbrev pub job_text : ℕ → List ℕ
job_text n = ended (job_lines n)

-- the place that move i goes to, in steps, at 250 steps a millimetre
abbrev pub stop : ℕ → Steps3
stop i = record { x = pos (25 * x_tenths i); y = pos (25 * y_tenths i); z = pos 0 }

-- move i, from 1
abbrev pub job_move : ℕ → Move
job_move i = record { from = stop (i - 1); to = stop i }

abbrev pub job_moves : ℕ → List Move
job_moves n = map job_move (range_with_len 1 n)

-- the events of all moves
abbrev pub job_events : ℕ → ℕ
job_events n = sum_by events_of (job_moves n)

-- 250 steps a millimetre, in thousandths of a step
abbrev pub scale : ℕ
scale = 250000

-- a text, and after it a way in millimetres with three decimals
unfoldable pub axis_text : List ℕ → ℤ → List ℕ
axis_text before steps = before ++ fixed3 (thousandths_of steps scale)

-- a text that says where a move goes
abbrev pub stop_text : Steps3 → List ℕ
stop_text at = axis_text (codes " at ") at.x ++ axis_text (codes ",") at.y ++ axis_text (codes ",") at.z

-- a text, and after it a number
unfoldable pub count_text : List ℕ → ℕ → List ℕ
count_text before n = before ++ decimal n

abbrev pub lines_text : ℕ → ℕ → List ℕ
lines_text n lines = count_text (codes "demo ") n ++ count_text (codes " lines ") lines

abbrev pub answers_text : ℕ → ℕ → List ℕ
answers_text ok error = count_text (codes " ok ") ok ++ count_text (codes " error ") error

-- The line on a run of n moves: its lines, those answered `ok`, those refused, the events, and the last place.
abbrev pub summary_of : ℕ → ℕ → ℕ → ℕ → ℕ → Steps3 → List ℕ
summary_of n lines ok error events at =
    lines_text n lines ++ answers_text ok error ++ count_text (codes " events ") events ++ stop_text at ++ codes "\n"

-- the line on a run of n moves of which the subticks are counted: how many there were, and the last place
abbrev pub pins_text : ℕ → ℕ → List ℕ
pins_text n subticks = count_text (codes "pins ") n ++ count_text (codes " words ") subticks ++ stop_text (stop n) ++ codes "\n"

-- the line on the whole job of n moves: all its n + 3 lines are answered `ok`, and its moves are made
abbrev pub summary : ℕ → List ℕ
summary n = summary_of n (n + 3) (n + 3) 0 (job_events n) (stop n)
