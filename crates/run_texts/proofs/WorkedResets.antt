-- Worked texts with resets that fit.
use Rattle.std.proofs.Common.{inl, inr, List, [], ◌∷◌, ◌++◌, drop, true, false, refl, codes, arith}
use Rattle.units.specs.declared.Steps3.{Steps3}
use Rattle.units.specs.declared.Rate.TheVariants.{Rapid}
use Rattle.units.specs.Counting.{count, events_of}
use Rattle.units.specs.Reading.{decimal_from}
use Rattle.units.specs.Decimals.{front_number, digits_say}
use Rattle.units.specs.Rounding.{rounded_quotient}
use Rattle.gcode_words.specs.Comments.{cut_within}
use Rattle.gcode_words.specs.Words.{first_word, words_within}
use Rattle.line_words.specs.Codes.{group_of, code_in}
use Rattle.line_words.specs.Targets.{target, targets}
use Rattle.line_words.specs.WordRefusals.{word_refusal, refusal_at, words_refusal}
use Rattle.gcode_check.specs.Conditions.{line_refusal}
use Rattle.gcode_check.specs.NewOffsets.{new_system_offset, new_g92}
use Rattle.gcode_check.specs.Effects.{offsets_after, parser_moved, parser_after}
use Rattle.gcode_check.specs.Items.{items_of}
use Rattle.gcode_check.specs.Verdicts.{verdict}
use Rattle.jog.specs.Jogs.{jog_of, jog_error}
use Rattle.status_report.specs.declared.Message.TheVariants as messages
use Rattle.system_lines.specs.Commands.{kind_of, command_of}
use Rattle.status_report.specs.declared.Reply.TheVariants as replies
use Rattle.step_line.specs.declared.SpindleCode.TheVariants.{M3}
use Rattle.flight.specs.Places.{origin}
use Rattle.step_line.specs.declared.Mark.TheVariants as marks
use Rattle.step_line.specs.declared.Record.TheVariants as kinds
use Rattle.step_line.specs.Events.{event_of, steps_at}
use Rattle.legal_heads.specs.declared.Told.TheVariants as told_as
use Rattle.run_rules.specs.Outcomes.{start, limited, told, refused}
use Rattle.run_rules.specs.Work.{Outcome}
use Rattle.run_texts.specs.Courses.{Reset, behind_cut, behind_the_reset}
use Rattle.run_texts.specs.Courses.Passed.{a_line, a_broken, a_cut, a_reset}
use Rattle.run_texts.specs.Points.{Point, opening, behind_line, behind_broken, unlocked}
use Rattle.run_texts.specs.Parts.{Part, lines_counted}
use Rattle.run_texts.specs.Parts.Ending.{by_cut, by_reset, by_end}
use Rattle.run_texts.specs.Recorded.{IsRecorded, ticks_for_all}
use Rattle.run_texts.specs.Rows.{right, left, steps_of, jog_right, far, first_two, DroppedFits, BrokenFits, UnlockedFits, WaitingFits, over, LongFits, LockedFits, LimitWaitsFits, LongBehindFits}
use Rattle.run_texts.specs.Sent.{kept_of}
use Rattle.run_texts.proofs.Worked.{first, opens, coded, at_x, along, told_head, inside_events, empty_at, behind_empty, nothing_made, limiting, behind_limits, jogging_at, coded_at, jog_1, behind_jog_1, jog_2, jog_along}

-- ---- a reset in a move

abbrev going : Outcome
going = coded (start first) far

-- the line is dropped before it is begun
abbrev dropping : Reset
dropping = record { number = 0; dropped = 1; alarm = false; locked = false; at = origin }

abbrev behind_dropping : Point
behind_dropping = behind_the_reset dropping (opening first)

abbrev ended_there : (p : Point) → Part
ended_there p = record { lines = empty_at p ∷ []; begun = []; ending = by_end }

rests : (p : Point) (place : Steps3) → IsRecorded place (ended_there p) []
rests p place = record {
  inside = tt;
  ticks = refl;
  heads = record { told = []; missing = []; recorded = refl; each = tt; rest = []; in_order = refl; legal = tt; ends = (tt, refl); due = record { rest = []; is = refl } };
  stands = tt;
}

pub dropped_fits : DroppedFits
unfolding cut_within words_within first_word decimal_from front_number digits_say verdict words_refusal refusal_at word_refusal group_of code_in target targets line_refusal new_system_offset new_g92 offsets_after parser_moved parser_after items_of rounded_quotient events_of event_of steps_at count kind_of command_of jog_of jog_error
dropped_fits = record {
  first = first;
  opens = opens;
  course = a_reset dropping ∷ a_line (empty_at behind_dropping) ∷ [];
  last = behind_empty behind_dropping;
  follows = (
    record { free = refl; comes = refl; number = refl; dropped = refl; cause = λ e. absurd cc; locked = refl },
    (record { free = refl; answered = refl; becomes = refl }, (refl, record { answered = refl; rest = refl })),
  );
  told = record { behind = replies.Banner ∷ replies.Ok ∷ []; begins = refl; told = refl };
  recorded = (
    [],
    kinds.End ∷ [],
    refl,
    nothing_made origin origin (by_reset dropping) (record { first = record { rest = []; is = refl }; settled = omega arith }) refl tt refl,
    ([], [], refl, rests behind_dropping origin, refl),
  );
  few = omega arith;
}

-- it is begun, and stops behind two events of the five of its first head
abbrev breaking : Reset
breaking = record { number = 1; dropped = 0; alarm = true; locked = true; at = at_x 2 }

abbrev behind_breaking : Point
behind_breaking = behind_the_reset breaking (behind_broken (opening first) going)

abbrev broken : Part
broken = record { lines = []; begun = going ∷ []; ending = by_reset breaking }

broken_off : IsRecorded origin broken first_two
unfolding cut_within words_within first_word decimal_from front_number digits_say verdict words_refusal refusal_at word_refusal group_of code_in target targets line_refusal new_system_offset new_g92 offsets_after parser_moved parser_after items_of rounded_quotient events_of event_of steps_at count kind_of command_of jog_of jog_error
broken_off = record {
  inside = (refl, (refl, (refl, tt)));
  ticks = record { first = record { rest = drop 2 (ticks_for_all (lines_counted broken)); is = refl }; settled = omega arith };
  heads = record {
    told = told_head (along 1 Rapid 0 25000) 5 ∷ [];
    missing = right ∷ right ∷ right ∷ [];
    recorded = refl;
    each = (record { line = refl; some = omega arith; within = omega arith }, tt);
    rest = [];
    in_order = refl;
    legal = (((refl, refl), omega arith), tt);
    ends = tt;
    due = record { rest = drop 5 (ticks_for_all (lines_counted broken)); is = refl };
  };
  stands = refl;
}

pub broken_fits : BrokenFits
unfolding cut_within words_within first_word decimal_from front_number digits_say verdict words_refusal refusal_at word_refusal group_of code_in target targets line_refusal new_system_offset new_g92 offsets_after parser_moved parser_after items_of rounded_quotient events_of event_of steps_at count kind_of command_of jog_of jog_error
broken_fits = record {
  first = first;
  opens = opens;
  course = a_broken going ∷ a_reset breaking ∷ a_line (empty_at behind_breaking) ∷ [];
  last = behind_empty behind_breaking;
  follows = (
    record { free = refl; answered = refl; becomes = inr refl },
    (
      record { free = refl; comes = refl; number = refl; dropped = refl; cause = λ e. refl; locked = refl },
      (record { free = refl; answered = refl; becomes = refl }, (refl, record { answered = refl; rest = refl })),
    ),
  );
  told = record { behind = replies.Alarm 3 ∷ replies.Banner ∷ replies.Message messages.Locked ∷ replies.Ok ∷ []; begins = refl; told = refl };
  recorded = (
    first_two,
    kinds.End ∷ [],
    refl,
    broken_off,
    ([], [], refl, rests behind_breaking (at_x 2), refl),
  );
  few = omega arith;
}

-- ---- a reset, the machine is unlocked, and goes back

-- the line was answered before the reset
abbrev behind_far : Point
behind_far = behind_line (opening first) (kept_of far) going

abbrev locking : Reset
locking = record { number = 1; dropped = 0; alarm = true; locked = true; at = at_x 2 }

abbrev behind_locking : Point
behind_locking = behind_the_reset locking behind_far

abbrev behind_locked_empty : Point
behind_locked_empty = behind_empty behind_locking

abbrev unlocking : Outcome
unlocking = unlocked behind_locked_empty.before

abbrev behind_unlock : Point
behind_unlock = behind_line behind_locked_empty (kept_of (codes "$X")) unlocking

abbrev home : Outcome
home = coded_at behind_unlock (codes "G0X0")

abbrev two_of_two : Part
two_of_two = record { lines = going ∷ []; begun = []; ending = by_reset locking }

answered_and_broken : IsRecorded origin two_of_two (steps_of 1 2 right)
unfolding cut_within words_within first_word decimal_from front_number digits_say verdict words_refusal refusal_at word_refusal group_of code_in target targets line_refusal new_system_offset new_g92 offsets_after parser_moved parser_after items_of rounded_quotient events_of event_of steps_at count kind_of command_of jog_of jog_error
answered_and_broken = record {
  inside = (refl, inside_events 2 right);
  ticks = record { first = record { rest = drop 2 (ticks_for_all (lines_counted two_of_two)); is = refl }; settled = omega arith };
  heads = record {
    told = told_head (along 1 Rapid 0 25000) 2 ∷ [];
    missing = [];
    recorded = refl;
    each = (record { line = refl; some = omega arith; within = omega arith }, tt);
    rest = [];
    in_order = refl;
    legal = (((refl, refl), omega arith), tt);
    ends = tt;
    due = record { rest = drop 2 (ticks_for_all (lines_counted two_of_two)); is = refl };
  };
  stands = refl;
}

pub unlocked_fits : UnlockedFits
unfolding cut_within words_within first_word decimal_from front_number digits_say verdict words_refusal refusal_at word_refusal group_of code_in target targets line_refusal new_system_offset new_g92 offsets_after parser_moved parser_after items_of rounded_quotient events_of event_of steps_at count kind_of command_of jog_of jog_error
unlocked_fits = record {
  first = first;
  opens = opens;
  course = a_line going ∷ a_reset locking ∷ a_line (empty_at behind_locking) ∷ a_line unlocking ∷ a_line home ∷ [];
  last = behind_line behind_unlock (kept_of (codes "G0X0")) home;
  follows = (
    record { free = refl; answered = refl; becomes = inr refl },
    (
      record { free = refl; comes = refl; number = refl; dropped = refl; cause = λ e. refl; locked = refl },
      (
        record { free = refl; answered = refl; becomes = refl },
        (
          record { free = refl; answered = refl; becomes = refl },
          (record { free = refl; answered = refl; becomes = inr refl }, (refl, record { answered = refl; rest = refl })),
        ),
      ),
    ),
  );
  told = record {
    behind = replies.Ok ∷ replies.Alarm 3 ∷ replies.Banner ∷ replies.Message messages.Locked ∷ replies.Ok ∷ replies.Message messages.Unlocked ∷ replies.Ok ∷ replies.Ok ∷ [];
    begins = refl;
    told = refl;
  };
  recorded = (
    steps_of 1 2 right,
    steps_of 4 2 left ++ kinds.End ∷ [],
    refl,
    answered_and_broken,
    (
      steps_of 4 2 left,
      [],
      refl,
      record {
        inside = (refl, inside_events 2 left);
        ticks = refl;
        heads = record {
          told = told_head (along 4 Rapid 2 0) 2 ∷ [];
          missing = [];
          recorded = refl;
          each = (record { line = refl; some = omega arith; within = omega arith }, tt);
          rest = [];
          in_order = refl;
          legal = (((refl, refl), omega arith), tt);
          ends = (omega arith, refl);
          due = record { rest = []; is = refl };
        };
        stands = tt;
      },
      refl,
    ),
  );
  few = omega arith;
}

-- ---- a cut of a jog that waits, and a reset before its answer

abbrev cut_and_reset : Reset
cut_and_reset = record { number = 2; dropped = 0; alarm = true; locked = true; at = at_x 3 }

abbrev behind_waiting : Point
behind_waiting = behind_cut (at_x 3) (behind_broken behind_jog_1 jog_2)

abbrev behind_both : Point
behind_both = behind_the_reset cut_and_reset behind_waiting

abbrev waiting_cut : Part
waiting_cut = record { lines = jog_1 ∷ []; begun = jog_2 ∷ []; ending = by_cut 2 (at_x 3) }

waiting_part : IsRecorded origin waiting_cut (steps_of 1 3 right)
unfolding cut_within words_within first_word decimal_from front_number digits_say verdict words_refusal refusal_at word_refusal group_of code_in target targets line_refusal new_system_offset new_g92 offsets_after parser_moved parser_after items_of rounded_quotient events_of event_of steps_at count kind_of command_of jog_of jog_error
waiting_part = record {
  inside = (refl, inside_events 3 right);
  ticks = record { first = record { rest = drop 3 (ticks_for_all (lines_counted waiting_cut)); is = refl }; jogs = (inl refl, tt) };
  heads = record {
    told = told_head (jog_along 1 0 2500) 3 ∷ [];
    missing = [];
    recorded = refl;
    each = (record { line = refl; some = omega arith; within = omega arith }, tt);
    rest = [];
    in_order = refl;
    legal = (((refl, refl), omega arith), tt);
    ends = (omega arith, refl);
    due = record { rest = drop 3 (ticks_for_all (lines_counted waiting_cut)); is = refl };
  };
  stands = refl;
}

pub waiting_fits : WaitingFits
unfolding cut_within words_within first_word decimal_from front_number digits_say verdict words_refusal refusal_at word_refusal group_of code_in target targets line_refusal new_system_offset new_g92 offsets_after parser_moved parser_after items_of rounded_quotient events_of event_of steps_at count kind_of command_of jog_of jog_error
waiting_fits = record {
  first = first;
  opens = opens;
  course = a_line jog_1 ∷ a_broken jog_2 ∷ a_cut 2 (at_x 3) ∷ a_reset cut_and_reset ∷ a_line (empty_at behind_both) ∷ [];
  last = behind_empty behind_both;
  follows = (
    record { free = refl; answered = refl; becomes = inr refl },
    (
      record { free = refl; answered = refl; becomes = inr refl },
      (
        record { free = refl; number = refl; has_line = refl },
        (
          record { free = refl; comes = refl; number = refl; dropped = refl; cause = λ e. refl; locked = refl },
          (record { free = refl; answered = refl; becomes = refl }, (refl, record { answered = refl; rest = refl })),
        ),
      ),
    ),
  );
  told = record { behind = replies.Ok ∷ replies.Alarm 3 ∷ replies.Banner ∷ replies.Message messages.Locked ∷ replies.Ok ∷ []; begins = refl; told = refl };
  recorded = (
    steps_of 1 3 right,
    kinds.Mark (marks.Reset 2) ∷ kinds.End ∷ [],
    refl,
    waiting_part,
    (
      [],
      kinds.End ∷ [],
      refl,
      nothing_made (at_x 3) (at_x 3) (by_reset cut_and_reset) (record { first = record { rest = []; is = refl }; settled = omega arith }) refl tt refl,
      ([], [], refl, rests behind_both (at_x 3), refl),
    ),
  );
  few = omega arith;
}

-- ---- a line of the locked machine, and what comes behind a limit

-- line 3 to 7 of a locked machine, and a reset in Alarm
abbrev l3 : Point
l3 = behind_locked_empty

abbrev l4 : Point
l4 = behind_line l3 (codes "$H") (refused l3.before 3)

abbrev l5 : Point
l5 = behind_line l4 (codes "$J=G91X1F100") (refused l4.before 8)

abbrev l6 : Point
l6 = behind_line l5 over (refused l5.before 11)

abbrev l7 : Point
l7 = behind_empty l6

abbrev l8 : Point
l8 = behind_line l7 (codes "G0X0") (refused l7.before 9)

abbrev alarm_reset : Reset
alarm_reset = record { number = 7; dropped = 0; alarm = false; locked = true; at = at_x 2 }

abbrev l9 : Point
l9 = behind_the_reset alarm_reset l8

abbrev unlock_9 : Outcome
unlock_9 = unlocked l9.before

abbrev locked_lines : List Outcome
locked_lines = empty_at behind_locking ∷ refused l3.before 3 ∷ refused l4.before 8 ∷ refused l5.before 11 ∷ empty_at l6 ∷ refused l7.before 9 ∷ []

locked_part : IsRecorded (at_x 2) (record { lines = locked_lines; begun = []; ending = by_reset alarm_reset }) []
locked_part = record {
  inside = tt;
  ticks = record { first = record { rest = []; is = refl }; settled = omega arith };
  heads = record { told = []; missing = []; recorded = refl; each = tt; rest = []; in_order = refl; legal = tt; ends = tt; due = record { rest = []; is = refl } };
  stands = refl;
}

unlocked_part : IsRecorded (at_x 2) (record { lines = unlock_9 ∷ []; begun = []; ending = by_end }) []
unlocked_part = record {
  inside = tt;
  ticks = refl;
  heads = record { told = []; missing = []; recorded = refl; each = tt; rest = []; in_order = refl; legal = tt; ends = (tt, refl); due = record { rest = []; is = refl } };
  stands = tt;
}

pub locked_fits : LockedFits
unfolding cut_within words_within first_word decimal_from front_number digits_say verdict words_refusal refusal_at word_refusal group_of code_in target targets line_refusal new_system_offset new_g92 offsets_after parser_moved parser_after items_of rounded_quotient events_of event_of steps_at count kind_of command_of jog_of jog_error
locked_fits = record {
  first = first;
  opens = opens;
  course = a_line going ∷ a_reset locking ∷ a_line (empty_at behind_locking) ∷ a_line (refused l3.before 3) ∷ a_line (refused l4.before 8) ∷ a_line (refused l5.before 11) ∷ a_line (empty_at l6) ∷ a_line (refused l7.before 9) ∷ a_reset alarm_reset ∷ a_line unlock_9 ∷ [];
  last = behind_line l9 (codes "$X") unlock_9;
  follows = (record { free = refl; answered = refl; becomes = inr refl }, (record { free = refl; comes = refl; number = refl; dropped = refl; cause = λ e. refl; locked = refl }, (record { free = refl; answered = refl; becomes = refl }, (record { free = refl; answered = refl; becomes = refl }, (record { free = refl; answered = refl; becomes = refl }, (record { free = refl; answered = refl; becomes = refl }, (record { free = refl; answered = refl; becomes = refl }, (record { free = refl; answered = refl; becomes = refl }, (record { free = refl; comes = refl; number = refl; dropped = refl; cause = λ e. absurd cc; locked = refl }, (record { free = refl; answered = refl; becomes = refl }, (refl, record { answered = refl; rest = refl })))))))))));
  told = record {
    behind = replies.Ok ∷ replies.Alarm 3 ∷ replies.Banner ∷ replies.Message messages.Locked ∷ replies.Ok ∷ replies.Error 3 ∷ replies.Error 8 ∷ replies.Error 11 ∷ replies.Ok ∷ replies.Error 9 ∷ replies.Banner ∷ replies.Message messages.Locked ∷ replies.Message messages.Unlocked ∷ replies.Ok ∷ [];
    begins = refl;
    told = refl;
  };
  recorded = (
    steps_of 1 2 right,
    kinds.Mark (marks.Reset 7) ∷ kinds.End ∷ [],
    refl,
    answered_and_broken,
    ([], kinds.End ∷ [], refl, locked_part, ([], [], refl, unlocked_part, refl)),
  );
  few = omega arith;
}

pub limit_waits_fits : LimitWaitsFits
unfolding cut_within words_within first_word decimal_from front_number digits_say verdict words_refusal refusal_at word_refusal group_of code_in target targets line_refusal new_system_offset new_g92 offsets_after parser_moved parser_after items_of rounded_quotient events_of event_of steps_at count kind_of command_of jog_of jog_error
limit_waits_fits = record {
  first = first;
  opens = opens;
  course = a_line (told limiting []) ∷ a_line (limited behind_limits.before) ∷ [];
  last = behind_line behind_limits (kept_of (codes "G0X1")) (limited behind_limits.before);
  follows = (record { free = refl; answered = refl; becomes = inr (record { outcome = refl; settings = refl }) }, (record { free = refl; answered = refl; becomes = inr refl }, (refl, record { answered = refl; rest = refl })));
  told = record { behind = replies.Ok ∷ replies.Alarm 2 ∷ replies.Message messages.ResetToContinue ∷ []; begins = refl; told = refl };
  recorded = (
    [],
    [],
    refl,
    record {
      inside = tt;
      ticks = record { first = record { rest = []; is = refl }; settled = omega arith };
      heads = record { told = []; missing = []; recorded = refl; each = tt; rest = []; in_order = refl; legal = tt; ends = (tt, refl); due = record { rest = []; is = refl } };
      stands = tt;
    },
    refl,
  );
  few = omega arith;
}

pub long_behind_fits : LongBehindFits
unfolding cut_within words_within first_word decimal_from front_number digits_say verdict words_refusal refusal_at word_refusal group_of code_in target targets line_refusal new_system_offset new_g92 offsets_after parser_moved parser_after items_of rounded_quotient events_of event_of steps_at count kind_of command_of jog_of jog_error
long_behind_fits = record {
  first = first;
  opens = opens;
  course = a_reset dropping ∷ [];
  last = behind_dropping;
  follows = (record { free = refl; comes = refl; number = refl; dropped = refl; cause = λ e. absurd cc; locked = refl }, (refl, record { answered = refl; rest = refl }));
  told = record { behind = replies.Banner ∷ []; begins = refl; told = refl };
  recorded = (
    [],
    kinds.End ∷ [],
    refl,
    nothing_made origin origin (by_reset dropping) (record { first = record { rest = []; is = refl }; settled = omega arith }) refl tt refl,
    (
      [],
      [],
      refl,
      record {
        inside = tt;
        ticks = refl;
        heads = record { told = []; missing = []; recorded = refl; each = tt; rest = []; in_order = refl; legal = tt; ends = (tt, refl); due = record { rest = []; is = refl } };
        stands = tt;
      },
      refl,
    ),
  );
  few = omega arith;
}

abbrev q1 : Point
q1 = opening first

abbrev e1 : Outcome
e1 = refused q1.before 2

abbrev q2 : Point
q2 = behind_line q1 (codes "G0Y") e1

abbrev e2 : Outcome
e2 = coded_at q2 (codes "G4P0")

abbrev q3 : Point
q3 = behind_line q2 (codes "G4P0") e2

abbrev r3 : Reset
r3 = record { number = 2; dropped = 1; alarm = false; locked = false; at = origin }

abbrev q4 : Point
q4 = behind_the_reset r3 q3

abbrev r4 : Reset
r4 = record { number = 3; dropped = 0; alarm = false; locked = false; at = origin }

abbrev q5 : Point
q5 = behind_the_reset r4 q4

abbrev e4 : Outcome
e4 = jogging_at q5 jog_right

abbrev q6 : Point
q6 = behind_cut (at_x 3) (behind_line q5 (kept_of jog_right) e4)

abbrev e5 : Outcome
e5 = coded_at q6 (codes "M3S100")

abbrev q7 : Point
q7 = behind_broken q6 e5

abbrev r5 : Reset
r5 = record { number = 5; dropped = 0; alarm = false; locked = false; at = at_x 3 }

abbrev q8 : Point
q8 = behind_the_reset r5 q7

abbrev part_1 : Part
part_1 = record { lines = e1 ∷ e2 ∷ []; begun = []; ending = by_reset r3 }

abbrev part_3 : Part
part_3 = record { lines = e4 ∷ []; begun = []; ending = by_cut 4 (at_x 3) }

abbrev part_4 : Part
part_4 = record { lines = []; begun = e5 ∷ []; ending = by_reset r5 }

made_1 : IsRecorded origin part_1 (kinds.Mark (marks.Dwell 0) ∷ [])
unfolding cut_within words_within first_word decimal_from front_number digits_say verdict words_refusal refusal_at word_refusal group_of code_in target targets line_refusal new_system_offset new_g92 offsets_after parser_moved parser_after items_of rounded_quotient events_of event_of steps_at count kind_of command_of jog_of jog_error
made_1 = record {
  inside = (refl, tt);
  ticks = record { first = record { rest = []; is = refl }; settled = omega arith };
  heads = record { told = told_as.Mark (marks.Dwell 0) ∷ []; missing = []; recorded = refl; each = (tt, tt); rest = []; in_order = refl; legal = ((tt, tt), tt); ends = tt; due = record { rest = []; is = refl } };
  stands = refl;
}

made_3 : IsRecorded origin part_3 (steps_of 4 3 right)
unfolding cut_within words_within first_word decimal_from front_number digits_say verdict words_refusal refusal_at word_refusal group_of code_in target targets line_refusal new_system_offset new_g92 offsets_after parser_moved parser_after items_of rounded_quotient events_of event_of steps_at count kind_of command_of jog_of jog_error
made_3 = record {
  inside = (refl, inside_events 3 right);
  ticks = record { first = record { rest = drop 3 (ticks_for_all (lines_counted part_3)); is = refl }; jogs = (inl refl, tt) };
  heads = record {
    told = told_head (jog_along 4 0 2500) 3 ∷ [];
    missing = [];
    recorded = refl;
    each = (record { line = refl; some = omega arith; within = omega arith }, tt);
    rest = [];
    in_order = refl;
    legal = (((refl, refl), omega arith), tt);
    ends = (omega arith, refl);
    due = record { rest = drop 3 (ticks_for_all (lines_counted part_3)); is = refl };
  };
  stands = refl;
}

made_4 : IsRecorded (at_x 3) part_4 (kinds.Mark (marks.Spindle M3 100) ∷ [])
unfolding cut_within words_within first_word decimal_from front_number digits_say verdict words_refusal refusal_at word_refusal group_of code_in target targets line_refusal new_system_offset new_g92 offsets_after parser_moved parser_after items_of rounded_quotient events_of event_of steps_at count kind_of command_of jog_of jog_error
made_4 = record {
  inside = (refl, tt);
  ticks = record { first = record { rest = []; is = refl }; settled = omega arith };
  heads = record { told = told_as.Mark (marks.Spindle M3 100) ∷ []; missing = []; recorded = refl; each = (tt, tt); rest = []; in_order = refl; legal = ((tt, tt), tt); ends = tt; due = record { rest = []; is = refl } };
  stands = refl;
}

pub long_fits : LongFits
unfolding cut_within words_within first_word decimal_from front_number digits_say verdict words_refusal refusal_at word_refusal group_of code_in target targets line_refusal new_system_offset new_g92 offsets_after parser_moved parser_after items_of rounded_quotient events_of event_of steps_at count kind_of command_of jog_of jog_error
long_fits = record {
  first = first;
  opens = opens;
  course = a_line e1 ∷ a_line e2 ∷ a_reset r3 ∷ a_reset r4 ∷ a_line e4 ∷ a_cut 4 (at_x 3) ∷ a_broken e5 ∷ a_reset r5 ∷ a_line (empty_at q8) ∷ [];
  last = behind_empty q8;
  follows = (record { free = refl; answered = refl; becomes = inr refl }, (record { free = refl; answered = refl; becomes = inr refl }, (record { free = refl; comes = refl; number = refl; dropped = refl; cause = λ e. absurd cc; locked = refl }, (record { free = refl; comes = refl; number = refl; dropped = refl; cause = λ e. absurd cc; locked = refl }, (record { free = refl; answered = refl; becomes = inr refl }, (record { free = refl; number = refl; has_line = refl }, (record { free = refl; answered = refl; becomes = inr refl }, (record { free = refl; comes = refl; number = refl; dropped = refl; cause = λ e. absurd cc; locked = refl }, (record { free = refl; answered = refl; becomes = refl }, (refl, record { answered = refl; rest = refl }))))))))));
  told = record { behind = replies.Error 2 ∷ replies.Ok ∷ replies.Banner ∷ replies.Banner ∷ replies.Ok ∷ replies.Banner ∷ replies.Ok ∷ []; begins = refl; told = refl };
  recorded = (
    kinds.Mark (marks.Dwell 0) ∷ [],
    kinds.Mark (marks.Reset 3) ∷ steps_of 4 3 right ++ kinds.Mark (marks.Cut 4) ∷ kinds.Mark (marks.Spindle M3 100) ∷ kinds.Mark (marks.Reset 5) ∷ kinds.End ∷ [],
    refl,
    made_1,
    (
      [],
      steps_of 4 3 right ++ kinds.Mark (marks.Cut 4) ∷ kinds.Mark (marks.Spindle M3 100) ∷ kinds.Mark (marks.Reset 5) ∷ kinds.End ∷ [],
      refl,
      nothing_made origin origin (by_reset r4) (record { first = record { rest = []; is = refl }; settled = omega arith }) refl tt refl,
      (
        steps_of 4 3 right,
        kinds.Mark (marks.Spindle M3 100) ∷ kinds.Mark (marks.Reset 5) ∷ kinds.End ∷ [],
        refl,
        made_3,
        (
          kinds.Mark (marks.Spindle M3 100) ∷ [],
          kinds.End ∷ [],
          refl,
          made_4,
          ([], [], refl, rests q8 (at_x 3), refl),
        ),
      ),
    ),
  );
  few = omega arith;
}
