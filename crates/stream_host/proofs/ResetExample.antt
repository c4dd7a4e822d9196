-- A run of a host so far, over a job whose second line begins with a reset: the first line has no answer when the reset is raised,
-- and is forgotten at the Banner that the host waits for. The rules allow it.
use Rattle.status_report.specs.Answering.{receive_room}
use Rattle.std.proofs.Common.{◌≡◌, inl, inr, ◌-◌, true, [], ◌∷◌, length, refl, arith}
use Rattle.gcode_words.specs.Comments.{cut_within}
use Rattle.outside.specs.declared.On.TheVariants.{Answer}
use Rattle.outside.specs.declared.Turn.TheVariants.{Did, Wait}
use Rattle.serial_ring.specs.Marks.{start}
use Rattle.status_report.specs.declared.Reply.TheVariants.{Banner, Ok}
use Rattle.status_report.specs.Replies.{reply_text}
use Rattle.host_journal.specs.Steps.{Journal, cut_of, live_of, forgotten_of, text_of}
use Rattle.host_journal.specs.Steps.PortStep.{stored, marked, raised, got, no_reply}
use Rattle.host_journal.specs.Steps.Step.{at_port, read_some, scanned, wrote, turned}
use Rattle.stream_host.specs.Conduct.{Conducted}

abbrev j0 : Journal
j0 = []

c0 : Conducted receive_room j0
c0 = tt

abbrev j1 : Journal
j1 = turned Did ∷ at_port (got Banner) ∷ j0

c1 : Conducted receive_room j1
unfolding cut_within reply_text
c1 = (record { once = omega arith; polls = omega arith }, (record { poll = record { going = refl; rested = refl }; lines = record { greeted = start ∷ []; are = record { each = refl; stored = (refl, tt) }; few = omega arith } }, c0))

abbrev j2 : Journal
j2 = turned Did ∷ wrote (length (text_of j1)) ∷ j1

c2 : Conducted receive_room j2
unfolding cut_within reply_text
c2 = (record { once = omega arith; polls = omega arith }, (record { going = refl; some = omega arith; front = omega arith }, c1))

abbrev j3 : Journal
j3 = turned Did ∷ read_some (65 ∷ 10 ∷ 24 ∷ 66 ∷ 10 ∷ []) ∷ j2

c3 : Conducted receive_room j3
unfolding cut_within reply_text
c3 = (record { once = omega arith; polls = omega arith }, ((record { going = refl; calm = refl; epoch = refl; on = refl; sends = refl; used = refl; free = refl; none_due = refl; settled = record { greeted = inl refl; reported = refl; answered = inl refl }; shown = inr (omega arith) }, (omega arith), (omega arith)), c2))

abbrev j4 : Journal
j4 = scanned 65 ∷ j3

c4 : Conducted receive_room j4
unfolding cut_within reply_text
c4 = (record { going = refl; calm = refl; epoch = refl; next = refl; few = omega arith; sends = refl; free = refl; none_due = refl }, c3)

abbrev j5 : Journal
j5 = turned Did ∷ scanned 10 ∷ j4

c5 : Conducted receive_room j5
unfolding cut_within reply_text
c5 = (record { once = omega arith; polls = omega arith }, (record { going = refl; calm = refl; epoch = refl; next = refl; few = omega arith; sends = refl; free = refl; none_due = refl }, c4))

abbrev j6 : Journal
j6 = turned Did ∷ at_port (stored 65) ∷ j5

c6 : Conducted receive_room j6
unfolding cut_within reply_text
c6 = (record { once = omega arith; polls = omega arith }, (record { calm = refl; epoch = refl; next = refl; reported = refl; few = omega arith }, c5))

abbrev j7 : Journal
j7 = turned Did ∷ at_port (stored 10) ∷ j6

c7 : Conducted receive_room j7
unfolding cut_within reply_text
c7 = (record { once = omega arith; polls = omega arith }, (record { calm = refl; epoch = refl; next = refl; reported = refl; few = omega arith }, c6))

abbrev j8 : Journal
j8 = turned Did ∷ scanned 24 ∷ j7

c8 : Conducted receive_room j8
unfolding cut_within reply_text
c8 = (record { once = omega arith; polls = omega arith }, (record { going = refl; calm = refl; epoch = refl; next = refl; few = omega arith; sends = refl; free = refl; none_due = refl }, c7))

abbrev j9 : Journal
j9 = turned Did ∷ at_port marked ∷ j8

c9 : Conducted receive_room j9
unfolding cut_within reply_text
c9 = (record { once = omega arith; polls = omega arith }, (record { calm = refl; next = refl; fresh = refl }, c8))

abbrev j10 : Journal
j10 = turned Did ∷ at_port (raised 24 true) ∷ j9

c10 : Conducted receive_room j10
unfolding cut_within reply_text
c10 = (record { once = omega arith; polls = omega arith }, (record { resumes = λ e. absurd cc; calm = λ few. refl; next = λ few. refl; after = λ a e. absurd cc; behind_mark = λ e. omega arith }, c9))

abbrev j11 : Journal
j11 = turned (Wait Answer) ∷ at_port no_reply ∷ j10

c11 : Conducted receive_room j11
unfolding cut_within reply_text
c11 = ((record { once = omega arith; polls = omega arith }, record { poll = refl; no_read = λ m. absurd (let e = m.epoch in cc); no_scan = λ b m. absurd (let e = m.epoch in cc); no_line = λ m. absurd (let e = m.epoch in cc); no_mark = λ m. absurd (let e = m.next in cc); no_raise = λ b m. absurd (let e = m.next refl in cc); no_store = λ b m. absurd (let e = m.epoch in cc); no_close = λ m. absurd (let e = m.epoch in cc); written = inr (omega arith) }), (record { going = refl; rested = refl }, c10))

abbrev j12 : Journal
j12 = turned Did ∷ at_port (got Banner) ∷ j11

c12 : Conducted receive_room j12
unfolding cut_within reply_text
c12 = (record { once = omega arith; polls = omega arith }, (record { poll = record { going = refl; rested = refl }; lines = record { greeted = (1, 2) ∷ start ∷ []; are = record { each = refl; stored = ((omega arith, inl refl), (refl, tt)) }; few = omega arith } }, c11))

abbrev j13 : Journal
j13 = turned Did ∷ wrote (length (text_of j12) - length (text_of j1)) ∷ j12

c13 : Conducted receive_room j13
unfolding cut_within reply_text
c13 = (record { once = omega arith; polls = omega arith }, (record { going = refl; some = omega arith; front = omega arith }, c12))

abbrev j14 : Journal
j14 = scanned 66 ∷ j13

c14 : Conducted receive_room j14
unfolding cut_within reply_text
c14 = (record { going = refl; calm = refl; epoch = refl; next = refl; few = omega arith; sends = refl; free = refl; none_due = refl }, c13)

abbrev j15 : Journal
j15 = turned Did ∷ scanned 10 ∷ j14

c15 : Conducted receive_room j15
unfolding cut_within reply_text
c15 = (record { once = omega arith; polls = omega arith }, (record { going = refl; calm = refl; epoch = refl; next = refl; few = omega arith; sends = refl; free = refl; none_due = refl }, c14))

abbrev j16 : Journal
j16 = turned Did ∷ at_port (stored 66) ∷ j15

c16 : Conducted receive_room j16
unfolding cut_within reply_text
c16 = (record { once = omega arith; polls = omega arith }, (record { calm = refl; epoch = refl; next = refl; reported = refl; few = omega arith }, c15))

abbrev j17 : Journal
j17 = turned Did ∷ at_port (stored 10) ∷ j16

c17 : Conducted receive_room j17
unfolding cut_within reply_text
c17 = (record { once = omega arith; polls = omega arith }, (record { calm = refl; epoch = refl; next = refl; reported = refl; few = omega arith }, c16))

abbrev j18 : Journal
j18 = turned Did ∷ at_port (got Ok) ∷ j17

c18 : Conducted receive_room j18
unfolding cut_within reply_text
c18 = (record { once = omega arith; polls = omega arith }, (record { poll = record { going = refl; rested = refl }; lines = record { greeted = (1, 2) ∷ start ∷ []; are = record { each = refl; stored = ((omega arith, inl refl), (refl, tt)) }; few = omega arith } }, c17))

both_cut : cut_of j18 ≡ (65 ∷ []) ∷ (24 ∷ 66 ∷ []) ∷ []
both_cut = refl

second_lives : live_of j18 ≡ (24 ∷ 66 ∷ []) ∷ []
second_lives = refl

first_forgotten : forgotten_of j18 ≡ 1
first_forgotten = refl
