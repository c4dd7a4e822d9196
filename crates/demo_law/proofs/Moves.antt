-- The lines of the generated job, read and judged. A move's line follows from where it goes, and so 150 lines are all that
-- there are: what holds of these is computed.
use Rattle.std.proofs.Common.{◌≡◌, ℕ, zero, suc, ◌+◌, ◌*◌, ◌%◌, ◌<◌, false, nat_eq, List, [], ◌∷◌, ◌++◌, map, refl, subst, ap, ◌∙◌, codes, Ok, pos, arith}
use Rattle.std.specs.List.{range_with_len}
use Rattle.gcode_words.specs.Comments.{cut_within}
use Rattle.gcode_words.specs.Stripping.{plain, realtime}
use Rattle.gcode_words.specs.Words.{words_of, first_word, words_within}
use Rattle.gcode_words.specs.declared.Word.{Word}
use Rattle.units.specs.Reading.{decimal_from}
use Rattle.units.specs.Decimals.{front_number, digits_say}
use Rattle.units.specs.Rounding.{rounded_quotient}
use Rattle.units.specs.declared.Move.{Move as Way}
use Rattle.units.specs.declared.Rate.TheVariants.{Feed}
use Rattle.units.specs.declared.Steps3.{Steps3}
use Rattle.modal_state.specs.Modes.{opening_parser, program_ended}
use Rattle.modal_state.specs.declared.MotionMode.TheVariants.{G1}
use Rattle.modal_state.specs.declared.Parser.{Parser}
use Rattle.settings.specs.declared.Settings.{Settings}
use Rattle.line_words.specs.Codes.{group_of, code_in}
use Rattle.line_words.specs.Targets.{target, targets}
use Rattle.line_words.specs.WordRefusals.{word_refusal, refusal_at, words_refusal}
use Rattle.gcode_check.specs.Conditions.{line_refusal}
use Rattle.gcode_check.specs.NewOffsets.{new_system_offset, new_g92}
use Rattle.gcode_check.specs.Effects.{offsets_after, parser_moved, parser_after}
use Rattle.gcode_check.specs.Items.{items_of}
use Rattle.gcode_check.specs.Verdicts.{verdict}
use Rattle.gcode_check.specs.declared.Accept.{Accept as Accepted}
use Rattle.gcode_check.specs.declared.Item.TheVariants.{Move, ProgramEnd}
use Rattle.gcode_check.specs.declared.Verdict.TheVariants.{Accept}
use Rattle.step_line.specs.Counting.{events_of}
use Rattle.demo_job.specs.Jobs.{tenths_text, x_tenths, y_tenths}

-- a place, in tenths of a millimetre
pub record Place : Type 0 where
  pub x : ℕ
  pub y : ℕ

-- where move i goes
abbrev pub place : ℕ → Place
place i = record { x = x_tenths i; y = y_tenths i }

-- the line of a move there, and its words
abbrev pub line_to : Place → List ℕ
line_to at = codes "G1X" ++ tenths_text at.x ++ codes "Y" ++ tenths_text at.y

abbrev pub word : ℕ → ℕ → Word
word letter micro = record { letter = letter; value = record { micro = pos micro } }

abbrev pub words_to : Place → List Word
words_to at = word 71 1000000 ∷ word 88 (at.x * 100000) ∷ word 89 (at.y * 100000) ∷ []

-- the settings of every opening state
abbrev pub machine : Settings
machine = record {
  report = 1;
  deviation = 10;
  soft = false;
  limits = record { per_mm = record { x = 250000; y = 250000; z = 250000 }; rate = record { x = 500000; y = 500000; z = 500000 }; accel = record { x = 10000; y = 10000; z = 10000 } };
  travel = record { x = 200000; y = 200000; z = 200000 };
}

-- the state in which the feed is set, and that of a machine that has moved there
abbrev pub fed : Parser
fed = record opening_parser { feed = pos 600000000 }

abbrev pub steps : Place → Steps3
steps at = record { x = pos (25 * at.x); y = pos (25 * at.y); z = pos 0 }

abbrev pub way_to : Place → Place → Way
way_to from to = record { from = steps from; to = steps to }

abbrev pub moved_to : Place → Parser
moved_to at = record fed {
  modal = record opening_parser.modal { motion = G1 };
  pos_nm = record { x = pos (at.x * 100000); y = pos (at.y * 100000); z = pos 0 };
  pos_steps = steps at;
}

-- what the lines give
abbrev pub by_modes : Accepted
by_modes = record { next = opening_parser; items = record { items = [] } }

abbrev pub by_feed : Accepted
by_feed = record { next = fed; items = record { items = [] } }

abbrev pub by_move : Place → Place → Accepted
by_move from to = record { next = moved_to to; items = record { items = Move (way_to from to) (Feed (pos 600000000)) ∷ [] } }

abbrev pub by_end : Place → Accepted
by_end from = record { next = program_ended (moved_to from); items = record { items = ProgramEnd ∷ [] } }

-- ---- what is computed

-- what a table of equations says at a place
at_place : {A : Type 0} (f g : ℕ → A) (a n k : ℕ) → map f (range_with_len a n) ≡ map g (range_with_len a n) → k < n → f (a + k) ≡ g (a + k)
at_place f g a zero k e lt = absurd (omega arith)
at_place f g a (suc n) zero e lt = let here : a ≡ a + 0 = omega arith in let first : f a ≡ g a = cc in subst (λ i. f i ≡ g i) here first
at_place f g a (suc n) (suc k) e lt =
    let on : a + 1 + k ≡ a + suc k = omega arith in
    let rest : map f (range_with_len (a + 1) n) ≡ map g (range_with_len (a + 1) n) = cc in
    subst (λ i. f i ≡ g i) on (at_place f g (a + 1) n k rest (omega arith))

in_table : {A : Type 0} (f g : ℕ → A) (n k : ℕ) → map f (range_with_len 0 n) ≡ map g (range_with_len 0 n) → k < n → f k ≡ g k
in_table f g n k e lt = let same : 0 + k ≡ k = omega arith in subst (λ i. f i ≡ g i) same (at_place f g 0 n k e lt)

kept_rows : map (λ k. plain (line_to (place (k + 1)))) (range_with_len 0 150) ≡ map (λ k. line_to (place (k + 1))) (range_with_len 0 150)
unfolding cut_within
kept_rows = refl

calm_rows : map (λ k. realtime (line_to (place (k + 1)))) (range_with_len 0 150) ≡ map (λ k. []) (range_with_len 0 150)
unfolding cut_within
calm_rows = refl

word_rows : map (λ k. words_of (line_to (place (k + 1)))) (range_with_len 0 150) ≡ map (λ k. Ok (words_to (place (k + 1)))) (range_with_len 0 150)
unfolding words_within first_word decimal_from front_number digits_say
word_rows = refl

verdict_rows : map (λ k. verdict (moved_to (place k)) machine (words_to (place (k + 1)))) (range_with_len 0 150)
    ≡ map (λ k. Accept (by_move (place k) (place (k + 1)))) (range_with_len 0 150)
unfolding verdict words_refusal refusal_at word_refusal group_of code_in target targets line_refusal new_system_offset new_g92 offsets_after parser_moved parser_after items_of rounded_quotient
verdict_rows = refl

event_rows : map (λ k. nat_eq (events_of (way_to (place k) (place (k + 1)))) 0) (range_with_len 0 150) ≡ map (λ k. false) (range_with_len 0 150)
unfolding events_of
event_rows = refl

-- a move's line is kept, read and accepted, and has events
pub record IsMoved (from to : Place) : Type 0 where
  pub kept : plain (line_to to) ≡ line_to to
  pub calm : realtime (line_to to) ≡ []
  pub words : words_of (line_to to) ≡ Ok (words_to to)
  pub accepted : verdict (moved_to from) machine (words_to to) ≡ Accept (by_move from to)
  pub events : nat_eq (events_of (way_to from to)) 0 ≡ false

moved_early : (k : ℕ) → k < 150 → IsMoved (place k) (place (k + 1))
moved_early k lt = record {
  kept = in_table (λ k. plain (line_to (place (k + 1)))) (λ k. line_to (place (k + 1))) 150 k kept_rows lt;
  calm = in_table (λ k. realtime (line_to (place (k + 1)))) (λ k. []) 150 k calm_rows lt;
  words = in_table (λ k. words_of (line_to (place (k + 1)))) (λ k. Ok (words_to (place (k + 1)))) 150 k word_rows lt;
  accepted = in_table (λ k. verdict (moved_to (place k)) machine (words_to (place (k + 1)))) (λ k. Accept (by_move (place k) (place (k + 1)))) 150 k verdict_rows lt;
  events = in_table (λ k. nat_eq (events_of (way_to (place k) (place (k + 1)))) 0) (λ k. false) 150 k event_rows lt;
}

same_place : (a b : Place) → a.x ≡ b.x → a.y ≡ b.y → a ≡ b
same_place a b x y = ap (λ n. record a { x = n }) x ∙ ap (λ n. record b { y = n }) y

-- the places come again every 150 moves
pub moved : (k : ℕ) → IsMoved (place k) (place (k + 1))
moved k =
    let from : place (k % 150) ≡ place k = same_place (place (k % 150)) (place k) (omega arith) (omega arith) in
    let to : place (k % 150 + 1) ≡ place (k + 1) = same_place (place (k % 150 + 1)) (place (k + 1)) (omega arith) (omega arith) in
    subst (λ p. IsMoved p (place (k + 1))) from (subst (λ q. IsMoved (place (k % 150)) q) to (moved_early (k % 150) (omega arith)))
