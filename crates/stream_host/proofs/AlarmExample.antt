-- A run of a host whose first line raises an alarm while its second is being stored: the rules allow it. A byte of the second
-- is left.
use Rattle.status_report.specs.Answering.{receive_room}
use Rattle.std.proofs.Common.{inl, inr, ◌-◌, [], ◌∷◌, length, refl, arith}
use Rattle.gcode_words.specs.Comments.{cut_within}
use Rattle.outside.specs.declared.Turn.TheVariants.{Did, Done}
use Rattle.serial_ring.specs.Marks.{start}
use Rattle.status_report.specs.declared.Reply.TheVariants.{Banner, Alarm, Bye}
use Rattle.status_report.specs.Replies.{reply_text}
use Rattle.host_journal.specs.Steps.{Journal, text_of}
use Rattle.host_journal.specs.Steps.PortStep.{stored, got, no_reply, shut}
use Rattle.host_journal.specs.Steps.Step.{at_port, read_some, scanned, wrote, turned}
use Rattle.stream_host.specs.Conduct.{Conducted}

abbrev j0 : Journal
j0 = []

c0 : Conducted receive_room j0
c0 = tt

abbrev j1 : Journal
j1 = turned Did ∷ at_port (got Banner) ∷ j0

c1 : Conducted receive_room j1
unfolding cut_within reply_text
c1 = (record { once = omega arith; polls = omega arith }, (record { poll = record { going = refl; rested = refl }; lines = record { greeted = start ∷ []; are = record { each = refl; stored = (refl, tt) }; few = omega arith } }, c0))

abbrev j2 : Journal
j2 = turned Did ∷ wrote (length (text_of j1)) ∷ j1

c2 : Conducted receive_room j2
unfolding cut_within reply_text
c2 = (record { once = omega arith; polls = omega arith }, (record { going = refl; some = omega arith; front = omega arith }, c1))

abbrev j3 : Journal
j3 = turned Did ∷ read_some (10 ∷ 88 ∷ 10 ∷ []) ∷ j2

c3 : Conducted receive_room j3
unfolding cut_within reply_text
c3 = (record { once = omega arith; polls = omega arith }, ((record { going = refl; calm = refl; epoch = refl; on = refl; sends = refl; used = refl; free = refl; none_due = refl; settled = record { greeted = inl refl; reported = refl; answered = inl refl }; shown = inr (omega arith) }, (omega arith), (omega arith)), c2))

abbrev j4 : Journal
j4 = turned Did ∷ scanned 10 ∷ j3

c4 : Conducted receive_room j4
unfolding cut_within reply_text
c4 = (record { once = omega arith; polls = omega arith }, (record { going = refl; calm = refl; epoch = refl; next = refl; few = omega arith; sends = refl; free = refl; none_due = refl }, c3))

abbrev j5 : Journal
j5 = turned Did ∷ at_port (stored 10) ∷ j4

c5 : Conducted receive_room j5
unfolding cut_within reply_text
c5 = (record { once = omega arith; polls = omega arith }, (record { calm = refl; epoch = refl; next = refl; reported = refl; few = omega arith }, c4))

abbrev j6 : Journal
j6 = scanned 88 ∷ j5

c6 : Conducted receive_room j6
unfolding cut_within reply_text
c6 = (record { going = refl; calm = refl; epoch = refl; next = refl; few = omega arith; sends = refl; free = refl; none_due = refl }, c5)

abbrev j7 : Journal
j7 = turned Did ∷ scanned 10 ∷ j6

c7 : Conducted receive_room j7
unfolding cut_within reply_text
c7 = (record { once = omega arith; polls = omega arith }, (record { going = refl; calm = refl; epoch = refl; next = refl; few = omega arith; sends = refl; free = refl; none_due = refl }, c6))

abbrev j8 : Journal
j8 = turned Did ∷ at_port (stored 88) ∷ j7

c8 : Conducted receive_room j8
unfolding cut_within reply_text
c8 = (record { once = omega arith; polls = omega arith }, (record { calm = refl; epoch = refl; next = refl; reported = refl; few = omega arith }, c7))

abbrev j9 : Journal
j9 = turned Did ∷ at_port (got (Alarm 2)) ∷ j8

c9 : Conducted receive_room j9
unfolding cut_within reply_text
c9 = (record { once = omega arith; polls = omega arith }, (record { poll = record { going = refl; rested = refl }; lines = record { greeted = start ∷ []; are = record { each = refl; stored = (refl, tt) }; few = omega arith } }, c8))

abbrev j10 : Journal
j10 = turned Did ∷ wrote (length (text_of j9) - length (text_of j1)) ∷ j9

c10 : Conducted receive_room j10
unfolding cut_within reply_text
c10 = (record { once = omega arith; polls = omega arith }, (record { going = refl; some = omega arith; front = omega arith }, c9))

abbrev j11 : Journal
j11 = at_port no_reply ∷ j10

c11 : Conducted receive_room j11
unfolding cut_within reply_text
c11 = (record { going = refl; rested = refl }, c10)

abbrev j12 : Journal
j12 = turned Did ∷ at_port shut ∷ j11

c12 : Conducted receive_room j12
unfolding cut_within reply_text
c12 = (record { once = omega arith; polls = omega arith }, (record { going = refl; epoch = refl; sent = inl refl; all_raised = inl refl }, c11))

abbrev j13 : Journal
j13 = turned Did ∷ at_port (got Bye) ∷ j12

c13 : Conducted receive_room j13
unfolding cut_within reply_text
c13 = (record { once = omega arith; polls = omega arith }, (record { poll = record { going = refl; rested = refl }; lines = record { greeted = start ∷ []; are = record { each = refl; stored = (refl, tt) }; few = omega arith } }, c12))

abbrev j14 : Journal
j14 = turned Done ∷ j13

c14 : Conducted receive_room j14
unfolding cut_within reply_text
c14 = (record { bye = refl; written = inr (omega arith); still = refl }, c13)
