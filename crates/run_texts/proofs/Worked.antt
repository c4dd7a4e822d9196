-- Worked texts that fit.
use Rattle.std.proofs.Common.{◌≡◌, ℕ, zero, suc, inl, inr, List, [], ◌∷◌, ◌++◌, map, replicate, drop, true, false, refl, sym, ap, codes, pos, arith, Ok, Err}
use Rattle.std.specs.declared.result.Result.{Result}
use Rattle.units.specs.declared.Per3.{Per3}
use Rattle.units.specs.declared.Steps3.{Steps3}
use Rattle.units.specs.declared.Rate.{Rate}
use Rattle.units.specs.declared.Rate.TheVariants.{Rapid, Feed, Jog}
use Rattle.units.specs.Counting.{count, events_of}
use Rattle.units.specs.Reading.{decimal_from}
use Rattle.units.specs.Decimals.{front_number, digits_say}
use Rattle.units.specs.Rounding.{rounded_quotient}
use Rattle.gcode_words.specs.Comments.{cut_within}
use Rattle.gcode_words.specs.Words.{words_of, first_word, words_within}
use Rattle.gcode_words.specs.declared.Word.{Word}
use Rattle.gcode_words.specs.declared.WordFault.{WordFault}
use Rattle.line_words.specs.Codes.{group_of, code_in}
use Rattle.line_words.specs.Targets.{target, targets}
use Rattle.line_words.specs.WordRefusals.{word_refusal, refusal_at, words_refusal}
use Rattle.gcode_check.specs.Conditions.{line_refusal}
use Rattle.gcode_check.specs.NewOffsets.{new_system_offset, new_g92}
use Rattle.gcode_check.specs.Effects.{offsets_after, parser_moved, parser_after}
use Rattle.gcode_check.specs.Items.{items_of}
use Rattle.gcode_check.specs.Verdicts.{verdict, accepted}
use Rattle.jog.specs.Jogs.{jog_of, jog_error, jog_move}
use Rattle.modal_state.specs.Modes.{opening_parser}
use Rattle.settings.specs.declared.Settings.{Settings}
use Rattle.status_report.specs.declared.Message.TheVariants as messages
use Rattle.system_lines.specs.Commands.{kind_of, command_of, jog_words}
use Rattle.status_report.specs.declared.Reply.TheVariants as replies
use Rattle.flight.specs.Places.{origin}
use Rattle.step_line.specs.Asking.{moves_of}
use Rattle.step_line.specs.declared.Bits.{Bits}
use Rattle.step_line.specs.declared.Mark.TheVariants as marks
use Rattle.step_line.specs.declared.Record.TheVariants as kinds
use Rattle.step_line.specs.declared.planned_move.PlannedMove.{PlannedMove}
use Rattle.step_line.specs.Events.{event_of, steps_at}
use Rattle.legal_heads.specs.declared.Told.{Told}
use Rattle.legal_heads.specs.declared.Told.TheVariants as told_as
use Rattle.run_rules.specs.declared.State.{State}
use Rattle.run_rules.specs.States.{IsOpening}
use Rattle.run_rules.specs.Outcomes.{Before, start, executed, jogging, limited, told}
use Rattle.run_rules.specs.Told.{asked_in}
use Rattle.run_rules.specs.Work.{Outcome}
use Rattle.run_texts.specs.Courses.{Reset, IsReset, behind_cut, behind_the_reset}
use Rattle.run_texts.specs.Courses.Passed.{a_line, a_cut, a_reset}
use Rattle.run_texts.specs.Points.{Point, opening, behind_line}
use Rattle.run_texts.specs.Heads.{MayEnd}
use Rattle.run_texts.specs.Parts.{Ending, Part, lines_counted}
use Rattle.run_texts.specs.Parts.Ending.{by_cut, by_reset}
use Rattle.run_texts.specs.Recorded.{HasTicks, IsWhere, IsRecorded, ticks_for_all}
use Rattle.run_texts.specs.Rows.{right, left, head_of, steps_of, one_step, one_mm, limits_on, jog_right, OneStepFits, HoldFits, TwoResetsFit, SoftLimitFits, CutFits}
use Rattle.run_texts.specs.Sent.{Sent, kept_of}
use Rattle.run_texts.specs.Sent.Sent.{a_stop}
use Rattle.run_texts.proofs.Stops.{Inside}

-- ---- the opening state

abbrev pub each : ℕ → Per3
each n = record { x = n; y = n; z = n }

abbrev pub generic : Settings
generic = record { report = 1; deviation = 10; soft = false; limits = record { per_mm = each 250000; rate = each 500000; accel = each 10000 }; travel = each 200000 }

abbrev pub first : State
first = record { parser = opening_parser; settings = generic }

pub opens : IsOpening first
opens = record { parser = refl; settings = refl }

-- ---- lines

abbrev pub words_in : Result (List Word) WordFault → List Word
words_in (Ok ws) = ws
words_in (Err fault) = []

-- what becomes of a line of G-code that is accepted
abbrev pub coded : Before → List ℕ → Outcome
coded b line = executed b (accepted b.state.parser b.state.settings (words_in (words_of (kept_of line))))

abbrev pub at_x : ℕ → Steps3
at_x x = record { x = pos x; y = pos 0; z = pos 0 }

-- a move along X, as the opening settings plan it
abbrev pub along : ℕ → Rate → ℕ → ℕ → PlannedMove
along line rate from to = record { line = line; mv = record { from = at_x from; to = at_x to }; rate = rate; limits = generic.limits; deviation = 10 }

-- the head of all events of a move, or of the first n
abbrev pub told_head : PlannedMove → ℕ → Told
told_head m n = told_as.Head (record { head = head_of m.line n; planned = m; first = 0 })

pub inside_events : (n : ℕ) (b : Bits) → Inside (map kinds.Event (replicate n b))
inside_events zero b = tt
inside_events (suc n) b = (refl, inside_events n b)

-- ---- one step

unfoldable pub one_step_fits : OneStepFits
unfolding cut_within words_within first_word decimal_from front_number digits_say verdict words_refusal refusal_at word_refusal group_of code_in target targets line_refusal new_system_offset new_g92 offsets_after parser_moved parser_after items_of rounded_quotient events_of event_of steps_at count
one_step_fits = record {
  first = first;
  opens = opens;
  course = a_line (coded (start first) one_step) ∷ [];
  last = behind_line (opening first) (kept_of one_step) (coded (start first) one_step);
  follows = (record { free = refl; answered = refl; becomes = inr refl }, (refl, record { answered = refl; rest = refl }));
  told = record { behind = replies.Ok ∷ []; begins = refl; told = refl };
  recorded = (
    steps_of 1 1 right,
    [],
    refl,
    record {
      inside = (refl, inside_events 1 right);
      ticks = refl;
      heads = record {
        told = told_head (along 1 Rapid 0 1) 1 ∷ [];
        missing = [];
        recorded = refl;
        each = (record { line = refl; some = omega arith; within = omega arith }, tt);
        rest = [];
        in_order = refl;
        legal = (((refl, refl), omega arith), tt);
        ends = (omega arith, refl);
        due = record { rest = []; is = refl };
      };
      stands = tt;
    },
    refl,
  );
  few = omega arith;
}

-- ---- a hold and a resume, which are no part of the texts

abbrev pub fed : Outcome
fed = coded (start first) one_mm

abbrev pub behind_fed : Point
behind_fed = behind_line (opening first) (kept_of one_mm) fed

-- an empty line
abbrev pub empty_at : Point → Outcome
empty_at p = told p.before.state []

abbrev pub behind_empty : Point → Point
behind_empty p = behind_line p [] (empty_at p)

pub hold_fits : HoldFits
unfolding cut_within words_within first_word decimal_from front_number digits_say verdict words_refusal refusal_at word_refusal group_of code_in target targets line_refusal new_system_offset new_g92 offsets_after parser_moved parser_after items_of rounded_quotient events_of event_of steps_at count
hold_fits = record {
  first = first;
  opens = opens;
  course = a_line fed ∷ a_line (empty_at behind_fed) ∷ a_line (empty_at (behind_empty behind_fed)) ∷ [];
  last = behind_empty (behind_empty behind_fed);
  follows = (record { free = refl; answered = refl; becomes = inr refl }, (record { free = refl; answered = refl; becomes = refl }, (record { free = refl; answered = refl; becomes = refl }, (refl, record { answered = refl; rest = refl }))));
  told = record { behind = replies.Ok ∷ replies.Ok ∷ replies.Ok ∷ []; begins = refl; told = refl };
  recorded = (
    steps_of 1 250 right,
    [],
    refl,
    record {
      inside = (refl, inside_events 250 right);
      ticks = refl;
      heads = record {
        told = told_head (along 1 (Feed (pos 100000000)) 0 250) 250 ∷ [];
        missing = [];
        recorded = refl;
        each = (record { line = refl; some = omega arith; within = omega arith }, tt);
        rest = [];
        in_order = refl;
        legal = (((refl, refl), omega arith), tt);
        ends = (omega arith, refl);
        due = record { rest = []; is = refl };
      };
      stands = tt;
    },
    refl,
  );
  few = omega arith;
}

-- ---- two resets in a line

abbrev pub calm_reset : Reset
calm_reset = record { number = 0; dropped = 0; alarm = false; locked = false; at = origin }

abbrev pub behind_one : Point
behind_one = behind_the_reset calm_reset (opening first)

abbrev pub behind_two : Point
behind_two = behind_the_reset calm_reset behind_one

pub resets_here : (p : Point) (sent : List Sent) → p.before.alarmed ≡ false → p.before.number ≡ 1 → p.locked ≡ false → IsReset p (a_stop ∷ sent) calm_reset
resets_here p sent free number calm = record { free = free; comes = refl; number = sym number; dropped = refl; cause = λ e. absurd cc; locked = sym calm }

pub nothing_made : (place at : Steps3) (ending : Ending) → HasTicks (record { lines = []; begun = []; ending = ending }) ending [] → IsWhere ending place → MayEnd ending [] []
    → lines_counted (record { lines = []; begun = []; ending = ending }) ≡ [] → IsRecorded place (record { lines = []; begun = []; ending = ending }) []
nothing_made place at ending ticks stands ends none = record {
  inside = tt;
  ticks = ticks;
  heads = record { told = []; missing = []; recorded = refl; each = tt; rest = []; in_order = ap (λ (os : List Outcome). moves_of (asked_in os)) none; legal = tt; ends = ends; due = record { rest = []; is = ap ticks_for_all none } };
  stands = stands;
}

pub two_resets_fit : TwoResetsFit
unfolding cut_within words_within first_word decimal_from front_number digits_say verdict words_refusal refusal_at word_refusal group_of code_in target targets line_refusal new_system_offset new_g92 offsets_after parser_moved parser_after items_of rounded_quotient events_of event_of steps_at count
two_resets_fit = record {
  first = first;
  opens = opens;
  course = a_reset calm_reset ∷ a_reset calm_reset ∷ a_line (empty_at behind_two) ∷ [];
  last = behind_empty behind_two;
  follows = (resets_here (opening first) _ refl refl refl, (resets_here behind_one _ refl refl refl, (record { free = refl; answered = refl; becomes = refl }, (refl, record { answered = refl; rest = refl }))));
  told = record { behind = replies.Banner ∷ replies.Banner ∷ replies.Ok ∷ []; begins = refl; told = refl };
  recorded = (
    [],
    kinds.Mark (marks.Reset 0) ∷ kinds.End ∷ [],
    refl,
    nothing_made origin origin (by_reset calm_reset) (record { first = record { rest = []; is = refl }; settled = omega arith }) refl tt refl,
    (
      [],
      kinds.End ∷ [],
      refl,
      nothing_made origin origin (by_reset calm_reset) (record { first = record { rest = []; is = refl }; settled = omega arith }) refl tt refl,
      (
        [],
        [],
        refl,
        record {
          inside = tt;
          ticks = refl;
          heads = record { told = []; missing = []; recorded = refl; each = tt; rest = []; in_order = refl; legal = tt; ends = (tt, refl); due = record { rest = []; is = refl } };
          stands = tt;
        },
        refl,
      ),
    ),
  );
  few = omega arith;
}

-- ---- a soft limit

-- the settings, with soft limits on
abbrev pub limiting : State
limiting = record first { settings = record generic { soft = true } }

abbrev pub behind_limits : Point
behind_limits = behind_line (opening first) (kept_of limits_on) (told limiting [])

pub soft_limit_fits : SoftLimitFits
unfolding cut_within words_within first_word decimal_from front_number digits_say verdict words_refusal refusal_at word_refusal group_of code_in target targets line_refusal new_system_offset new_g92 offsets_after parser_moved parser_after items_of rounded_quotient events_of event_of steps_at count kind_of command_of jog_of jog_error
soft_limit_fits = record {
  first = first;
  opens = opens;
  course = a_line (told limiting []) ∷ a_line (limited behind_limits.before) ∷ [];
  last = behind_line behind_limits (kept_of (codes "G0X1")) (limited behind_limits.before);
  follows = (record { free = refl; answered = refl; becomes = inr (record { outcome = refl; settings = refl }) }, (record { free = refl; answered = refl; becomes = inr refl }, (refl, record { answered = refl; rest = refl })));
  told = record { behind = replies.Ok ∷ replies.Alarm 2 ∷ replies.Message messages.ResetToContinue ∷ []; begins = refl; told = refl };
  recorded = (
    [],
    [],
    refl,
    record {
      inside = tt;
      ticks = record { first = record { rest = []; is = refl }; settled = omega arith };
      heads = record { told = []; missing = []; recorded = refl; each = tt; rest = []; in_order = refl; legal = tt; ends = (tt, refl); due = record { rest = []; is = refl } };
      stands = tt;
    },
    refl,
  );
  few = omega arith;
}

-- ---- jogs that are cut

-- what becomes of a jog that is accepted
abbrev pub jogging_at : Point → List ℕ → Outcome
jogging_at p line = jogging p.before (jog_move p.before.state.parser p.before.state.settings (words_in (words_of (jog_words (kept_of line)))))

abbrev pub coded_at : Point → List ℕ → Outcome
coded_at p line = coded p.before line

abbrev pub jog_1 : Outcome
jog_1 = jogging_at (opening first) jog_right

abbrev pub behind_jog_1 : Point
behind_jog_1 = behind_line (opening first) (kept_of jog_right) jog_1

abbrev pub jog_2 : Outcome
jog_2 = jogging_at behind_jog_1 jog_right

abbrev pub behind_jog_2 : Point
behind_jog_2 = behind_line behind_jog_1 (kept_of jog_right) jog_2

abbrev pub behind_the_cut : Point
behind_the_cut = behind_cut (at_x 3) behind_jog_2

abbrev pub behind_cancel : Point
behind_cancel = behind_empty behind_the_cut

abbrev pub behind_g90 : Point
behind_g90 = behind_line behind_cancel (kept_of (codes "G90")) (coded_at behind_cancel (codes "G90"))

abbrev pub back : Outcome
back = coded_at behind_g90 (codes "G0X0")

abbrev pub jogs_cut : Part
jogs_cut = record { lines = jog_1 ∷ jog_2 ∷ []; begun = []; ending = by_cut 2 (at_x 3) }

abbrev pub jog_along : ℕ → ℕ → ℕ → PlannedMove
jog_along line from to = along line (Jog (pos 500000000)) from to

pub cut_part : IsRecorded origin jogs_cut (steps_of 1 3 right)
unfolding cut_within words_within first_word decimal_from front_number digits_say verdict words_refusal refusal_at word_refusal group_of code_in target targets line_refusal new_system_offset new_g92 offsets_after parser_moved parser_after items_of rounded_quotient events_of event_of steps_at count kind_of command_of jog_of jog_error
cut_part = record {
  inside = (refl, inside_events 3 right);
  ticks = record { first = record { rest = drop 3 (ticks_for_all (lines_counted jogs_cut)); is = refl }; jogs = (inl refl, (inl refl, tt)) };
  heads = record {
    told = told_head (jog_along 1 0 2500) 3 ∷ [];
    missing = [];
    recorded = refl;
    each = (record { line = refl; some = omega arith; within = omega arith }, tt);
    rest = jog_along 2 2500 5000 ∷ [];
    in_order = refl;
    legal = (((refl, refl), omega arith), tt);
    ends = (omega arith, refl);
    due = record { rest = drop 3 (ticks_for_all (lines_counted jogs_cut)); is = refl };
  };
  stands = refl;
}

pub cut_fits : CutFits
unfolding cut_within words_within first_word decimal_from front_number digits_say verdict words_refusal refusal_at word_refusal group_of code_in target targets line_refusal new_system_offset new_g92 offsets_after parser_moved parser_after items_of rounded_quotient events_of event_of steps_at count kind_of command_of jog_of jog_error
cut_fits = record {
  first = first;
  opens = opens;
  course = a_line jog_1 ∷ a_line jog_2 ∷ a_cut 2 (at_x 3) ∷ a_line (empty_at behind_the_cut) ∷ a_line (coded_at behind_cancel (codes "G90")) ∷ a_line back ∷ [];
  last = behind_line behind_g90 (kept_of (codes "G0X0")) back;
  follows = (
    record { free = refl; answered = refl; becomes = inr refl },
    (
      record { free = refl; answered = refl; becomes = inr refl },
      (
        record { free = refl; number = refl; has_line = refl },
        (
          record { free = refl; answered = refl; becomes = refl },
          (
            record { free = refl; answered = refl; becomes = inr refl },
            (record { free = refl; answered = refl; becomes = inr refl }, (refl, record { answered = refl; rest = refl })),
          ),
        ),
      ),
    ),
  );
  told = record { behind = replies.Ok ∷ replies.Ok ∷ replies.Ok ∷ replies.Ok ∷ replies.Ok ∷ []; begins = refl; told = refl };
  recorded = (
    steps_of 1 3 right,
    steps_of 5 3 left ++ kinds.End ∷ [],
    refl,
    cut_part,
    (
      steps_of 5 3 left,
      [],
      refl,
      record {
        inside = (refl, inside_events 3 left);
        ticks = refl;
        heads = record {
          told = told_head (along 5 Rapid 3 0) 3 ∷ [];
          missing = [];
          recorded = refl;
          each = (record { line = refl; some = omega arith; within = omega arith }, tt);
          rest = [];
          in_order = refl;
          legal = (((refl, refl), omega arith), tt);
          ends = (omega arith, refl);
          due = record { rest = []; is = refl };
        };
        stands = tt;
      },
      refl,
    ),
  );
  few = omega arith;
}
