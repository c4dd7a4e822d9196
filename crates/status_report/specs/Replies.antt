-- The texts of replies.
use Rattle.std.specs.Prelude.{ℕ, ◌+◌, ◌/◌, ◌<◌, ◌≤◌, ◌^◌, ◌==◌, if◌then◌else◌, ℤ, pos, nat_abs, List, [], ◌∷◌, ◌++◌, get_or, codes, decimal}
use Rattle.std.specs.List.{join_with_byte}
use Rattle.units.specs.declared.Nm3.{Nm3}
use Rattle.units.specs.Fixed.{fixed3}
use Rattle.units.specs.Limits.{IsFeed}
use Rattle.modal_state.specs.Modes.{IsModal}
use Rattle.settings.specs.Numbers.{is_whole}
use Rattle.modal_state.specs.declared.MotionMode.{MotionMode}
use Rattle.modal_state.specs.declared.MotionMode.TheVariants.{G0, G1, G80}
use Rattle.modal_state.specs.declared.SpindleMode.{SpindleMode}
use Rattle.modal_state.specs.declared.SpindleMode.TheVariants.{Off, Cw, Ccw}
use Rattle.modal_state.specs.declared.Modal.{Modal}
use Rattle.status_report.specs.Places.{place_text, in_thousandths}
use Rattle.status_report.specs.Reports.{report_text, IsReport}
use Rattle.status_report.specs.declared.Message.{Message}
use Rattle.status_report.specs.declared.Message.TheVariants.{Unlocked, ProgramEnd, ResetToContinue, Locked}
use Rattle.status_report.specs.declared.Modes.{Modes as ParserModes}
use Rattle.status_report.specs.declared.Reply.{Reply}
use Rattle.status_report.specs.declared.Reply.TheVariants.{Banner, Ok as Accepted, Error, Alarm, Message as Telling, Report as Reporting, Setting, Modes, Offset, Bye}

abbrev pub message_text : Message → List ℕ
message_text Unlocked = codes "[MSG:Caution: Unlocked]"
message_text ProgramEnd = codes "[MSG:Pgm End]"
message_text ResetToContinue = codes "[MSG:Reset to continue]"
message_text Locked = codes "[MSG:'$H'|'$X' to unlock]"

-- the value of a setting, as a whole number or with three decimals
abbrev pub setting_value : ℕ → ℕ → List ℕ
setting_value n value = if is_whole n then decimal value else fixed3 (pos value)

abbrev pub setting_text : ℕ → ℕ → List ℕ
setting_text n value = codes "$" ++ decimal n ++ codes "=" ++ setting_value n value

abbrev pub motion_word : MotionMode → List ℕ
motion_word G0 = codes "G0"
motion_word G1 = codes "G1"
motion_word G80 = codes "G80"

abbrev pub spindle_word : SpindleMode → List ℕ
spindle_word Off = codes "M5"
spindle_word Cw = codes "M3"
spindle_word Ccw = codes "M4"

-- nm per minute in mm per minute, to the nearest whole number, a half upward
abbrev pub feed_in_mm : ℤ → ℕ
feed_in_mm feed = (nat_abs feed + 500000) / 1000000

-- motion, system, plane, units, distance, feed mode, spindle and coolant
abbrev pub modal_words : Modal → List (List ℕ)
modal_words m =
    motion_word m.motion
    ∷ (codes "G" ++ decimal (53 + m.system))
    ∷ (codes "G" ++ decimal m.plane)
    ∷ (if m.inch then codes "G20" else codes "G21")
    ∷ (if m.relative then codes "G91" else codes "G90")
    ∷ codes "G94"
    ∷ spindle_word m.spindle
    ∷ (if m.flood then codes "M8" else codes "M9")
    ∷ []

-- tool, feed and spindle speed
abbrev pub number_words : ParserModes → List (List ℕ)
number_words m =
    (codes "T" ++ decimal m.tool)
    ∷ (codes "F" ++ decimal (feed_in_mm m.feed))
    ∷ (codes "S" ++ decimal m.rpm)
    ∷ []

abbrev pub mode_words : ParserModes → List (List ℕ)
mode_words m = modal_words m.modal ++ number_words m

-- the words, with blanks between them
abbrev pub modes_text : ParserModes → List ℕ
modes_text m = codes "[GC:" ++ join_with_byte 32 (mode_words m) ++ codes "]"

-- the rows of offsets that have a place: the systems, the points of G28 and G30, and the offset of G92
abbrev pub row_names : List (List ℕ)
row_names =
    codes "G54" ∷ codes "G55" ∷ codes "G56" ∷ codes "G57" ∷ codes "G58" ∷ codes "G59"
    ∷ codes "G28" ∷ codes "G30" ∷ codes "G92" ∷ []

abbrev pub row_name : ℕ → List ℕ
row_name row = get_or row_names row []

-- the tool length and the probe, rows 9 and 10, are not served, and always the same
abbrev pub offset_text : ℕ → Nm3 → List ℕ
offset_text row at =
    if row == 9 then codes "[TLO:0.000]" else
    if row == 10 then codes "[PRB:0.000,0.000,0.000:0]" else
    codes "[" ++ row_name row ++ codes ":" ++ place_text (in_thousandths at) ++ codes "]"

-- what a reply says
abbrev pub said_by : Reply → List ℕ
said_by Banner = codes "\r\nGrbl 1.1h ['$' for help]"
said_by Accepted = codes "ok"
said_by (Error n) = codes "error:" ++ decimal n
said_by (Alarm n) = codes "ALARM:" ++ decimal n
said_by (Telling message) = message_text message
said_by (Reporting r) = report_text r
said_by (Setting n value) = setting_text n value
said_by (Modes m) = modes_text m
said_by (Offset row at) = offset_text row at
said_by Bye = []

-- each text ends with CR LF, except that of Bye, which has none
abbrev pub end_of : Reply → List ℕ
end_of Bye = []
end_of _ = codes "\r\n"

-- the text of a reply
unfoldable pub reply_text : Reply → List ℕ
reply_text reply = said_by reply ++ end_of reply

-- modes that a parser can have
pub record IsModes (m : ParserModes) : Type 0 where
  pub modal : IsModal m.modal
  pub feed : IsFeed m.feed
  pub rpm : m.rpm < 1000000000

-- a reply that the board can give
abbrev pub IsReply : Reply → Type 0
IsReply (Reporting r) = IsReport r
IsReply (Setting n value) = value < 2 ^ 63
IsReply (Modes m) = IsModes m
IsReply (Offset row at) = row ≤ 10
IsReply _ = Unit {0}
