-- How the last part of an epoch ends: by a reset, or by the end.
use Rattle.std.proofs.Common.{◌≡◌, ℕ, ◌+◌, ◌-◌, ◌≤◌, false, nat_lt, List, [], ◌∷◌, ◌++◌, sym, ap, ◌∙◌, append_assoc, append-nil, arith}
use Rattle.std.proofs.lemmas.Bool.Decides.{nat_tests}
use Rattle.flight.specs.Places.{machine_from}
use Rattle.flight.proofs.Places.{some_behind_from}
use Rattle.run_texts.specs.Parts.{Part, lines_counted}
use Rattle.run_texts.specs.Recorded.{settled_ticks}
use Rattle.step_line.specs.Finishing.{ticks_together}
use Rattle.step_line.specs.declared.Mark.TheVariants as marks
use Rattle.step_line.specs.declared.Piece.{Piece}
use Rattle.step_line.specs.declared.Piece.TheVariants as pieces
use Rattle.units.specs.declared.Steps3.{Steps3}
use Rattle.board_rules.specs.Conduct.{Conducted, ticks_given}
use Rattle.board_rules.specs.Cuts.{part_outcomes, part_given, part_of}
use Rattle.board_rules.specs.Cuts.{parts_of as board_parts}
use Rattle.board_journal.specs.Openings.{Opening}
use Rattle.board_rules.specs.Parts.{Part as CutPart, pieces_in}
use Rattle.board_journal.specs.Steps.{Journal, published_of, hand_of}
use Rattle.board_rules.proofs.Counting.{given_sum}
use Rattle.board_rules.proofs.Keeping.{hand_is}
use Rattle.board_rules.proofs.Numbers.{pieces_are}
use Rattle.board_epochs.specs.Epochs.{IsEpoch}
use Rattle.board_epochs.specs.Resets.{MayReset}
use Rattle.board_epochs.proofs.Prompting.{unended}
use Rattle.epoch_courses.specs.Course.{IsMadeAtHalt, is_made}
use Rattle.epoch_courses.specs.Drives.{driven_by_cut, driven_since}
use Rattle.epoch_courses.proofs.Drives.{Pends, part_place, runs_since, runs_cut}
use Rattle.epoch_courses.proofs.Made.{AllMade}
use Rattle.epoch_records.specs.Runs.{IsBrokenOff}
use Rattle.epoch_runs.proofs.Parts.{cut_place, parts_made, run_for}
use Rattle.epoch_runs.proofs.Pieces.{IsBehind}

-- what was published, and in hand, of an epoch that a reset ends
pub out_there : (first : Opening) (h : Journal) → IsEpoch first h → MayReset first h → published_of h ++ hand_of h ≡ pieces_in (board_parts first h) ++ part_given h
out_there first h is may = sym (hand_is first h is.conducted) ∙ unended first h is may ∙ pieces_are first h is.conducted

-- so many ticks of the part are made
pub ticks_behind : (qs : List CutPart) (made : ℕ) → ticks_together (pieces_in qs) ≤ made → made ≡ ticks_together (pieces_in qs) + (made - ticks_together (pieces_in qs))
ticks_behind qs made few = omega (arith, few)

-- the machine stands where the ticks of the part lead
pub stands_behind : (first : Opening) (h b : Journal) (made : ℕ) (since : List Piece) → Conducted first b → published_of h ≡ pieces_in (board_parts first b) ++ since → ticks_together (pieces_in (board_parts first b)) ≤ made
    → machine_from first.place (published_of h) made ≡ machine_from (part_place first b) since (made - ticks_together (pieces_in (board_parts first b)))
stands_behind first h b made since c is few =
    let qs = board_parts first b in
    let n : ℕ = made - ticks_together (pieces_in qs) in
    ap (λ (ps : List Piece). machine_from first.place ps made) is
    ∙ ap (machine_from first.place (pieces_in qs ++ since)) (ticks_behind qs made few)
    ∙ some_behind_from first.place (pieces_in qs) since n
    ∙ ap (λ (at : Steps3). machine_from at since n) (cut_place first b c)

-- ---- by a reset

-- all cuts are made: what was given since the last is of the part
pub since_broken : (made : ℕ) (first : Opening) (h : Journal) (p : Part) (at : Steps3) → IsEpoch first h → MayReset first h → IsMadeAtHalt h made → AllMade made h → lines_counted p ≡ part_outcomes h
    → at ≡ machine_from first.place (published_of h) made → settled_ticks p.lines ≤ made - ticks_together (pieces_in (board_parts first h))
    → (behind : IsBehind (board_parts first h) (published_of h) (hand_of h) (part_given h)) → IsBrokenOff (part_place first h) p at behind.since (made - ticks_together (pieces_in (board_parts first h)))
since_broken made first h p at is may there all counted stands settled behind = record {
  hand = hand_of h;
  given = part_given h;
  behind = [];
  both = behind.both ∙ sym (append-nil (part_given h));
  undone = tt;
  last = (driven_since first h).plan;
  run = run_for first h (driven_since first h) (lines_counted p) is.conducted (runs_since first h is.conducted) counted;
  settled = settled;
  stands = stands ∙ stands_behind first h h made behind.since is.conducted behind.is (parts_made made first h is.conducted all);
}

not_made : (n m : ℕ) → nat_lt n m ≡ false → m ≤ n
not_made n m none = grind (arith, nat_tests)

-- the last cut is not made: what was given before it is of the part
pub pending_broken : (made : ℕ) (first : Opening) (h : Journal) (x : Pends made first h) (p : Part) (at : Steps3) → is_made made x.before ≡ false → lines_counted p ≡ part_outcomes x.before
    → at ≡ machine_from first.place (published_of h) made → settled_ticks p.lines ≤ made - ticks_together (pieces_in (board_parts first x.before))
    → (behind : IsBehind (board_parts first x.before) (published_of h) (hand_of h) (part_given x.before ++ pieces.Mark (marks.Cut x.k) ∷ part_given h))
    → IsBrokenOff (part_place first x.before) p at behind.since (made - ticks_together (pieces_in (board_parts first x.before)))
pending_broken made first h x p at none counted stands settled behind = record {
  hand = hand_of h;
  given = part_given x.before;
  behind = pieces.Mark (marks.Cut x.k) ∷ part_given h;
  both = behind.both;
  undone = (let given = given_sum first x.before x.conducted.1 in let few = not_made (ticks_given x.before) made none in omega (arith, given, few));
  last = (driven_by_cut (part_of first x.k x.before)).plan;
  run = run_for first x.before (driven_by_cut (part_of first x.k x.before)) (lines_counted p) x.conducted.1 (runs_cut first x.before x.k x.conducted) counted;
  settled = settled;
  stands = stands ∙ stands_behind first h x.before made behind.since x.conducted.1 behind.is (parts_made made first x.before x.conducted.1 x.all);
}

-- what was published then
pub out_pending : (made : ℕ) (first : Opening) (h : Journal) (x : Pends made first h) → IsEpoch first h → MayReset first h
    → published_of h ++ hand_of h ≡ pieces_in (board_parts first x.before) ++ (part_given x.before ++ pieces.Mark (marks.Cut x.k) ∷ part_given h)
out_pending made first h x is may =
    let qs = board_parts first x.before in
    let mark = pieces.Mark (marks.Cut x.k) in
    out_there first h is may ∙ ap (λ (ps : List CutPart). pieces_in ps ++ part_given h) x.parts
    ∙ append_assoc (pieces_in qs) (part_given x.before ++ mark ∷ []) (part_given h) ∙ ap (λ (ps : List Piece). pieces_in qs ++ ps) (append_assoc (part_given x.before) (mark ∷ []) (part_given h))
