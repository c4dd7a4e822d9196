-- Worked epochs, computed.
use Rattle.std.proofs.Common.{◌≡◌, ℕ, List, [], ◌∷◌, ◌++◌, length, map, refl, ap, ◌∙◌, arith}
use Rattle.planner_runs.specs.Runs.{all_records}
use Rattle.run_texts.specs.Fronts.{BeginsWith}
use Rattle.run_texts.specs.Rows.{first_two}
use Rattle.step_line.specs.Asking.{ticks_among}
use Rattle.step_line.specs.Counting.{events_of, count}
use Rattle.step_line.specs.Events.{event_of, events_after, steps_at}
use Rattle.step_line.specs.declared.Mark.TheVariants.{Reset}
use Rattle.step_line.specs.declared.Piece.TheVariants as pieces
use Rattle.step_line.specs.declared.Record.{Record}
use Rattle.step_line.specs.declared.Record.TheVariants as kinds
use Rattle.units.specs.declared.Move.{Move}
use Rattle.epoch_records.specs.Epochs.{ArePut}
use Rattle.epoch_records.specs.Rows.{on_axis, five_from, StoppedBehindTwo, StoppedBeforeAll, OneTooMany, NoMark}

-- behind the reset nothing is put but the end
only_end : ArePut (record { pieces = []; done = 0; closing = pieces.End } ∷ []) (kinds.End ∷ [])
only_end = ([], [], refl, record { first = record { rest = []; is = refl }; ticks = refl; whole = λ e. refl }, refl)

abbrev hundred : Move
hundred = record { «from» = on_axis 0; to = on_axis 25000 }

-- what is missing
abbrev missing : List Record
missing = map kinds.Event (events_after hundred 2 3) ++ all_records (five_from 5 ∷ [])

two_first : BeginsWith (all_records (five_from 0 ∷ five_from 5 ∷ [])) first_two
unfolding events_of event_of steps_at count
two_first = record { rest = missing; is = refl }

pub stopped_behind_two : StoppedBehindTwo
stopped_behind_two = (first_two, kinds.End ∷ [], refl, record { first = two_first; ticks = refl; whole = λ e. absurd cc }, only_end)

pub stopped_before_all : StoppedBeforeAll
stopped_before_all = ([], kinds.End ∷ [], refl, record { first = record { rest = all_records (five_from 0 ∷ five_from 5 ∷ []); is = refl }; ticks = refl; whole = λ e. absurd cc }, only_end)

-- ---- what is not put

none_left : {A : Type 0} (r : Record) (ms rest : List Record) → ◌≡◌ {A = List Record} [] (ms ++ r ∷ rest) → A
none_left r [] rest e = absurd cc
none_left r (m ∷ ms) rest e = absurd cc

two_is_not_one : ◌≡◌ {A = ℕ} 2 1 → ⊥
two_is_not_one e = omega arith

mark_among : {A : Type 0} (mine rest : List Record) → first_two ++ kinds.Mark (Reset 1) ∷ kinds.End ∷ [] ≡ mine ++ kinds.Mark (Reset 1) ∷ rest → length (ticks_among mine) ≡ 1 → A
mark_among [] rest e one = absurd cc
mark_among (a ∷ []) rest e one = absurd cc
mark_among (a ∷ (b ∷ [])) rest e one = absurd cc
mark_among (a ∷ (b ∷ (c ∷ []))) rest e one =
    let same : first_two ≡ a ∷ (b ∷ (c ∷ [])) = cc in
    let two : ◌≡◌ {A = ℕ} 2 1 = ap (λ (rs : List Record). length (ticks_among rs)) same ∙ one in
    absurd (two_is_not_one two)
mark_among (a ∷ (b ∷ (c ∷ (d ∷ [])))) rest e one = absurd cc
mark_among (a ∷ (b ∷ (c ∷ (d ∷ (x ∷ ms))))) rest e one = none_left (kinds.Mark (Reset 1)) ms rest (let more : [] ≡ ms ++ kinds.Mark (Reset 1) ∷ rest = cc in more)

pub one_too_many : OneTooMany → ⊥
one_too_many are = mark_among are.0 are.1 are.2 are.3.ticks

no_mark_among : {A : Type 0} (mine rest : List Record) → first_two ++ kinds.End ∷ [] ≡ mine ++ kinds.Mark (Reset 1) ∷ rest → A
no_mark_among [] rest e = absurd cc
no_mark_among (a ∷ []) rest e = absurd cc
no_mark_among (a ∷ (b ∷ [])) rest e = absurd cc
no_mark_among (a ∷ (b ∷ (c ∷ []))) rest e = absurd cc
no_mark_among (a ∷ (b ∷ (c ∷ (d ∷ ms)))) rest e = none_left (kinds.Mark (Reset 1)) ms rest (let more : [] ≡ ms ++ kinds.Mark (Reset 1) ∷ rest = cc in more)

pub no_mark : NoMark → ⊥
no_mark are = no_mark_among are.0 are.1 are.2
