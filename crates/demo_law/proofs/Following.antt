-- The lines of the generated job, one after the other.
use Rattle.std.proofs.Common.{◌≡◌, ◌≤◌, ℕ, zero, suc, ◌+◌, ◌-◌, false, cond, List, [], ◌∷◌, ◌++◌, map, inr, refl, sym, subst, ap, ◌∙◌, codes, Ok, pos, arith}
use Rattle.std.specs.List.{range_with_len, AllByRecursion}
use Rattle.std.specs.declared.result.Result.{Result}
use Rattle.std.proofs.lemmas.List.Sums.{sum_by-cons}
use Rattle.gcode_words.specs.Comments.{cut_within}
use Rattle.gcode_words.specs.Stripping.{plain}
use Rattle.gcode_words.specs.Words.{words_of, first_word, words_within}
use Rattle.gcode_words.specs.declared.Word.{Word}
use Rattle.gcode_words.specs.declared.WordFault.{WordFault}
use Rattle.units.specs.Reading.{decimal_from}
use Rattle.units.specs.Decimals.{front_number, digits_say}
use Rattle.units.specs.Rounding.{rounded_quotient}
use Rattle.units.specs.declared.Rate.TheVariants.{Feed}
use Rattle.modal_state.specs.Modes.{opening_parser}
use Rattle.modal_state.specs.declared.Parser.{Parser}
use Rattle.line_words.specs.Codes.{group_of, code_in}
use Rattle.line_words.specs.Targets.{target, targets}
use Rattle.line_words.specs.WordRefusals.{word_refusal, refusal_at, words_refusal}
use Rattle.gcode_check.specs.Conditions.{line_refusal}
use Rattle.gcode_check.specs.NewOffsets.{new_system_offset, new_g92}
use Rattle.gcode_check.specs.Effects.{offsets_after, parser_moved, parser_after}
use Rattle.gcode_check.specs.Items.{items_of}
use Rattle.gcode_check.specs.Verdicts.{verdict}
use Rattle.gcode_check.specs.declared.Accept.{Accept as Accepted}
use Rattle.gcode_check.specs.declared.Verdict.TheVariants.{Accept}
use Rattle.run_rules.specs.declared.State.{State}
use Rattle.run_rules.specs.Work.{Outcome, is_limit, asks}
use Rattle.run_rules.specs.Work.Task.{tell}
use Rattle.run_rules.specs.Asks.{planned, work_of}
use Rattle.status_report.specs.declared.Reply.TheVariants.{Ok as Done}
use Rattle.step_line.specs.Asking.{Asked}
use Rattle.step_line.specs.Asking.Asked.{a_move, a_rest}
use Rattle.step_line.specs.Counting.{events_of}
use Rattle.run_rules.specs.Outcomes.{Before, Becomes, ByWords, ByVerdict, Follows, start, after, executed}
use Rattle.run_rules.specs.Outcomes.Passed.{a_line}
use Rattle.run_rules.specs.Told.{is_error, errors_in, limits_in, asked_in}
use Rattle.demo_job.specs.Jobs.{job_lines, move_line}
use Rattle.demo_law.specs.Accepted.{IsCode}
use Rattle.demo_law.specs.Asked.{demo_move, demo_asks}
use Rattle.demo_law.proofs.Moves.{Place, place, line_to, way_to, word, words_to, machine, fed, moved_to, by_modes, by_feed, by_move, by_end, IsMoved, moved}

-- lines that are accepted one after the other, and what they ask
pub record AreAccepted (b : Before) (lines : List (List ℕ)) (asked : List Asked) : Type 0 where
  pub outcomes : List Outcome
  pub last : Before
  pub follows : Follows false b (map plain lines) (map a_line outcomes) last
  pub none : errors_in outcomes ≡ 0
  pub within : limits_in outcomes ≡ 0
  pub asks : asked_in outcomes ≡ asked
  pub kinds : AllByRecursion IsCode outcomes

none_more : (a : Accepted) (b : Before) (os : List Outcome) → errors_in os ≡ 0 → errors_in (executed b a ∷ os) ≡ 0
none_more a b os none =
    let more : errors_in (executed b a ∷ os) ≡ 0 + errors_in os = sum_by-cons (λ (o : Outcome). cond (is_error o.answer) 1 0) (executed b a) os in
    more ∙ omega (arith, none)

within_more : (a : Accepted) (b : Before) (os : List Outcome) → limits_in os ≡ 0 → limits_in (executed b a ∷ os) ≡ 0
within_more a b os none =
    let more : limits_in (executed b a ∷ os) ≡ 0 + limits_in os = sum_by-cons (λ (o : Outcome). cond (is_limit o.answer) 1 0) (executed b a) os in
    more ∙ omega (arith, none)

one_more : (b : Before) (a : Accepted) (line : List ℕ) (lines : List (List ℕ)) (here more : List Asked) → b.alarmed ≡ false → Becomes false b (plain line) (executed b a)
    → asks (executed b a).work ≡ here → AreAccepted (after b (executed b a)) lines more → AreAccepted b (line ∷ lines) (here ++ more)
one_more b a line lines here more free becomes asks_this rest = record {
  outcomes = executed b a ∷ rest.outcomes;
  last = rest.last;
  follows = (record { free = free; becomes = becomes }, rest.follows);
  none = none_more a b rest.outcomes rest.none;
  within = within_more a b rest.outcomes rest.within;
  asks = ap (λ xs. xs ++ asked_in rest.outcomes) asks_this ∙ ap (λ ys. here ++ ys) rest.asks;
  kinds = (refl, rest.kinds);
}

no_more : (b : Before) → AreAccepted b [] []
no_more b = record { outcomes = []; last = b; follows = refl; none = refl; within = refl; asks = refl; kinds = tt }

-- what an accepted line asks in a state
abbrev asked_in_state : ℕ → Accepted → State → List Asked
asked_in_state number a s = asks (work_of number s.settings s.parser.modal.spindle s.parser.modal.flood a.items.items ++ tell Done ∷ [])

move_asks : (b : Before) (k : ℕ) → b.number ≡ k + 3 → b.state ≡ record { parser = moved_to (place k); settings = machine } → IsMoved (place k) (place (k + 1))
    → asks (executed b (by_move (place k) (place (k + 1)))).work ≡ a_move (demo_move machine (k + 1)) ∷ []
move_asks b k number at is =
    let a = by_move (place k) (place (k + 1)) in
    let line : b.number ≡ k + 1 + 2 = omega arith in
    let from : k ≡ k + 1 - 1 = omega arith in
    ap (asked_in_state b.number a) at ∙ rw is.events refl
    ∙ ap (λ n. a_move (planned n machine (way_to (place k) (place (k + 1))) (Feed (pos 600000000))) ∷ []) line
    ∙ ap (λ j. a_move (planned (k + 1 + 2) machine (way_to (place j) (place (k + 1))) (Feed (pos 600000000))) ∷ []) from

end_asks : (b : Before) (from : Place) → b.state ≡ record { parser = moved_to from; settings = machine } → asks (executed b (by_end from)).work ≡ a_rest ∷ a_rest ∷ []
end_asks b from at = ap (asked_in_state b.number (by_end from)) at

-- a line whose words are accepted
by_words : (b : Before) (parser : Parser) (ws : List Word) (a : Accepted) (read : Result (List Word) WordFault) → b.state ≡ record { parser = parser; settings = machine }
    → read ≡ Ok ws → verdict parser machine ws ≡ Accept a → ByWords b read (executed b a)
by_words b parser ws a read at reads is =
    let judged : verdict b.state.parser b.state.settings ws ≡ Accept a = ap (λ (s : State). verdict s.parser s.settings ws) at ∙ is in
    subst (λ r. ByWords b r (executed b a)) (sym reads) (subst (λ v. ByVerdict b v (executed b a)) (sym judged) refl)

move_becomes : (b : Before) (from to : Place) → b.state ≡ record { parser = moved_to from; settings = machine } → IsMoved from to
    → Becomes false b (plain (line_to to)) (executed b (by_move from to))
move_becomes b from to at is =
    subst (λ l. Becomes false b l (executed b (by_move from to))) (sym is.kept) (inr (by_words b (moved_to from) (words_to to) (by_move from to) (words_of (line_to to)) at is.words is.accepted))

modes_becomes : (b : Before) → b.state ≡ record { parser = opening_parser; settings = machine } → Becomes false b (plain (codes "G21G90G94")) (executed b by_modes)
unfolding cut_within words_within first_word decimal_from front_number digits_say verdict words_refusal refusal_at word_refusal group_of code_in target targets line_refusal new_system_offset new_g92 offsets_after parser_moved parser_after items_of rounded_quotient
modes_becomes b at = inr (by_words b opening_parser (word 71 21000000 ∷ word 71 90000000 ∷ word 71 94000000 ∷ []) by_modes (words_of (codes "G21G90G94")) at refl refl)

feed_becomes : (b : Before) → b.state ≡ record { parser = opening_parser; settings = machine } → Becomes false b (plain (codes "F600")) (executed b by_feed)
unfolding cut_within words_within first_word decimal_from front_number digits_say verdict words_refusal refusal_at word_refusal group_of code_in target targets line_refusal new_system_offset new_g92 offsets_after parser_moved parser_after items_of rounded_quotient
feed_becomes b at = inr (by_words b opening_parser (word 70 600000000 ∷ []) by_feed (words_of (codes "F600")) at refl refl)

first_becomes : (b : Before) → b.state ≡ record { parser = fed; settings = machine } → Becomes false b (plain (move_line 1)) (executed b (by_move (place 0) (place 1)))
unfolding cut_within words_within first_word decimal_from front_number digits_say verdict words_refusal refusal_at word_refusal group_of code_in target targets line_refusal new_system_offset new_g92 offsets_after parser_moved parser_after items_of rounded_quotient
first_becomes b at = inr (by_words b fed (words_to (place 1)) (by_move (place 0) (place 1)) (words_of (move_line 1)) at refl refl)

end_becomes : (b : Before) (from : Place) → b.state ≡ record { parser = moved_to from; settings = machine } → Becomes false b (plain (codes "M2")) (executed b (by_end from))
unfolding cut_within words_within first_word decimal_from front_number digits_say verdict words_refusal refusal_at word_refusal group_of code_in target targets line_refusal new_system_offset new_g92 offsets_after parser_moved parser_after items_of rounded_quotient
end_becomes b from at = inr (by_words b (moved_to from) (word 77 2000000 ∷ []) (by_end from) (words_of (codes "M2")) at refl refl)

-- what stands behind an accepted line
left_by : (b : Before) (a : Accepted) (parser : Parser) → b.state ≡ record { parser = parser; settings = machine }
    → (after b (executed b a)).state ≡ record { parser = a.next; settings = machine }
left_by b a parser at = ap (λ (s : State). let t : State = record { parser = a.next; settings = s.settings } in t) at

-- the moves behind the first k, and the end
moves : (m k : ℕ) (b : Before) → b.alarmed ≡ false → b.number ≡ k + 3 → b.state ≡ record { parser = moved_to (place k); settings = machine }
    → AreAccepted b (map move_line (range_with_len (k + 1) m) ++ codes "M2" ∷ []) (map (λ i. a_move (demo_move machine i)) (range_with_len (k + 1) m) ++ a_rest ∷ a_rest ∷ [])
moves zero k b free number at =
    one_more b (by_end (place k)) (codes "M2") [] (a_rest ∷ a_rest ∷ []) [] free (end_becomes b (place k) at) (end_asks b (place k) at) (no_more (after b (executed b (by_end (place k)))))
moves (suc m) k b free number at =
    let a = by_move (place k) (place (k + 1)) in
    one_more b a (move_line (k + 1)) (map move_line (range_with_len (k + 1 + 1) m) ++ codes "M2" ∷ [])
    (a_move (demo_move machine (k + 1)) ∷ []) (map (λ i. a_move (demo_move machine i)) (range_with_len (k + 1 + 1) m) ++ a_rest ∷ a_rest ∷ [])
    free (move_becomes b (place k) (place (k + 1)) at (moved k)) (move_asks b k number at (moved k))
    (moves m (k + 1) (after b (executed b a)) refl (omega arith) (left_by b a (moved_to (place k)) at))

abbrev pub opening : State
opening = record { parser = opening_parser; settings = machine }

-- what stands before the second line, and before the third, which is that of the first move
abbrev second : Before
second = after (start opening) (executed (start opening) by_modes)

abbrev third : Before
third = after second (executed second by_feed)

first_asks : asks (executed third (by_move (place 0) (place 1))).work ≡ a_move (demo_move machine 1) ∷ []
unfolding events_of
first_asks = refl

pub all_accepted : (n : ℕ) → 1 ≤ n → AreAccepted (start opening) (job_lines n) (demo_asks machine n)
all_accepted zero some = absurd (omega arith)
all_accepted (suc m) some =
    let a = by_move (place 0) (place 1) in
    one_more (start opening) by_modes (codes "G21G90G94") (codes "F600" ∷ map move_line (range_with_len 1 (suc m)) ++ codes "M2" ∷ []) [] (demo_asks machine (suc m))
    refl (modes_becomes (start opening) refl) refl
    (one_more second by_feed (codes "F600") (map move_line (range_with_len 1 (suc m)) ++ codes "M2" ∷ []) [] (demo_asks machine (suc m)) refl (feed_becomes second refl) refl
    (one_more third a (move_line 1) (map move_line (range_with_len 2 m) ++ codes "M2" ∷ [])
    (a_move (demo_move machine 1) ∷ []) (map (λ i. a_move (demo_move machine i)) (range_with_len 2 m) ++ a_rest ∷ a_rest ∷ [])
    refl (first_becomes third refl) first_asks
    (moves m 1 (after third (executed third a)) refl refl refl)))
