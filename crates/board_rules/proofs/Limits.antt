-- A board gives fewer than 2 ^ 62 ticks, and answers fewer than 2 ^ 62 replies.
use Rattle.std.proofs.Common.{◌≡◌, ℕ, ◌+◌, ◌*◌, ◌^◌, ◌≤◌, ◌<◌, List, [], ◌∷◌, ◌++◌, true, length, drop, nat_eq, ℤ, pos, negsuc, nat_abs, ◌-ℤ◌, sym, ap, ◌∙◌, subst, arith}
use Rattle.std.specs.List.{flat_map, AllByRecursion}
use Rattle.std.proofs.lemmas.Grind.{flat_map-append}
use Rattle.step_line.specs.declared.Mark.TheVariants as marks
use Rattle.std.proofs.lemmas.Int.{ints}
use Rattle.std.proofs.lemmas.List.{length-append, length-map}
use Rattle.std.proofs.lemmas.List.Sums.{count_by-le-length}
use Rattle.units.specs.declared.Move.{Move as Way}
use Rattle.units.specs.Lengths.{IsCoordinate, IsMove}
use Rattle.status_report.specs.Answering.{without_reports}
use Rattle.status_report.specs.declared.Reply.{Reply}
use Rattle.step_line.specs.declared.Piece.{Piece}
use Rattle.step_line.specs.declared.Piece.TheVariants as pieces
use Rattle.step_line.specs.declared.Record.{Record}
use Rattle.step_line.specs.declared.Record.TheVariants as kinds
use Rattle.step_line.specs.Counting.{events_of}
use Rattle.step_line.specs.Events.{line_events}
use Rattle.step_line.specs.Pieces.{ticks_of}
use Rattle.step_line.specs.Finishing.{tick_count, ticks_together}
use Rattle.step_line.specs.Asking.{Asked, IsPlannedMove, ticks_of_one, ticks_of_all}
use Rattle.step_line.specs.Asking.Asked.{a_move, a_mark, a_rest}
use Rattle.step_line.proofs.Order.{length_after}
use Rattle.plan_rules.specs.Plans.{Planned}
use Rattle.plan_rules.specs.Segments.{advanced}
use Rattle.planner_runs.specs.declared.Action.{Action}
use Rattle.planner_runs.specs.declared.Action.TheVariants.{Add, Take, Override, Mark, Rest, Clear, Reset}
use Rattle.planner_runs.specs.Runs.{Plans, with_move, cleared, all_asked, ticks_left}
use Rattle.planner_runs.proofs.Ticks.{ticks_from_start}
use Rattle.run_rules.specs.Work.{Outcome, asks, tells}
use Rattle.run_rules.specs.Told.{asked_in, replies_after}
use Rattle.board_journal.specs.Openings.{Opening}
use Rattle.board_journal.specs.Ports.{reports_in, MayPublish}
use Rattle.board_journal.specs.Ports.PortStep.{took}
use Rattle.board_journal.specs.Steps.{Journal, port_log, taken_of, answered_of, published_of, lines_of, outcomes_of, left_of, closed_tells, hand_of, open_of, whole_of}
use Rattle.board_journal.specs.Steps.Step.{at_port}
use Rattle.board_rules.specs.Conduct.{Conducted, IsInHand, ticks_given, ticks_published}
use Rattle.board_rules.proofs.Opening.{opened}
use Rattle.board_rules.proofs.Plain.{length_apart}
use Rattle.board_rules.proofs.Owing.{owes_few, few_asked}
use Rattle.board_rules.specs.Parts.{Part, IsCutPart, lines_in, pieces_in, last_number, AreNumbered}
use Rattle.board_rules.specs.Cuts.{part_outcomes, part_actions, part_given, part_start, part_plan, parts_of}
use Rattle.board_rules.proofs.Keeping.{never_clears, told_is, hand_is}
use Rattle.board_rules.proofs.Parting.{open_part, asked_is}
use Rattle.board_rules.proofs.Numbers.{lines_are, count_is, numbers_are, parts_are}
use Rattle.board_rules.proofs.Counting.{given_sum}
use Rattle.board_rules.proofs.Ending.{published_in_turn, next_turns}
use Rattle.board_rules.proofs.Unstopped.{journals_never_stop, may_publish_alone}
use Rattle.board_rules.proofs.Lines.{bytes_are}
use Rattle.board_rules.proofs.Lined.{as_many, all_begun}
use Rattle.step_line.proofs.Finished.{together_both}
use Rattle.board_rules.proofs.Answering.{lfs_of_lines}
use Rattle.board_rules.proofs.Closing.{At, going, to_finish, to_tell, over, phase_is}
use Rattle.board_rules.proofs.Bounding.{most_events, weight, weight_on, line_ticks, line_replies, IsModest, modest, unlock_modest}

-- ---- lines

-- as many bytes as a port may give
few_taken : (first : Opening) (h : Journal) → Conducted first h → length (taken_of h) ≤ 2 ^ 31
few_taken first [] c = omega arith
few_taken first (at_port (took b) ∷ h) c =
    let few : length (taken_of h) < 2 ^ 31 = c.0.few in
    let e = length-append (taken_of h) (b ∷ []) in omega arith
few_taken first (_ ∷ h) c = few_taken first h c.1

pub lines_in_bytes : (first : Opening) (h : Journal) → Conducted first h → length (outcomes_of h) ≤ length (taken_of h)
lines_in_bytes first h c =
    let many = as_many h in
    let lfs = lfs_of_lines (taken_of h) (lines_of h) (open_of h) (whole_of h) (bytes_are first h c) in
    let below = count_by-le-length (λ (b : ℕ). nat_eq b 10) (taken_of h) in
    omega arith

pub few_lines : (first : Opening) (h : Journal) → Conducted first h → length (outcomes_of h) ≤ 2 ^ 31
few_lines first h c = let few = few_taken first h c in let lines = lines_in_bytes first h c in omega (arith, few, lines)

-- what all lines ask for, and tell
all_modest : (os : List Outcome) → AllByRecursion IsModest os
    → (weight (asked_in os) ≤ line_ticks * length os) × (length (flat_map (λ (o : Outcome). tells o.work) os) ≤ line_replies * length os)
all_modest [] all = (omega arith, omega arith)
all_modest (o ∷ os) all =
    let rest = all_modest os all.1 in
    let t = all.0.ticks in let r = all.0.told in
    let u = rest.0 in let v = rest.1 in
    let e = weight_on (asks o.work) (asked_in os) in
    let d = length-append (tells o.work) (flat_map (λ (x : Outcome). tells x.work) os) in
    (omega arith, omega arith)

-- of the lines that were begun
begun_modest : (first : Opening) (h : Journal) → Conducted first h
    → (weight (asked_in (outcomes_of h)) ≤ line_ticks * length (outcomes_of h)) × (length (flat_map (λ (o : Outcome). tells o.work) (outcomes_of h)) ≤ line_replies * length (outcomes_of h))
begun_modest first h c = all_modest (outcomes_of h) (all_begun IsModest unlock_modest (λ b kept x. modest true b kept x) first h c)

-- ---- ticks

apart : (f t : ℤ) → IsCoordinate f → IsCoordinate t → nat_abs (t -ℤ f) ≤ most_events
apart (pos a) (pos b) from to = omega (arith, ints)
apart (pos a) (negsuc b) from to = omega (arith, ints)
apart (negsuc a) (pos b) from to = omega (arith, ints)
apart (negsuc a) (negsuc b) from to = omega (arith, ints)

few_events : (m : Way) → IsMove m → events_of m ≤ most_events
unfolding events_of
few_events m is =
    let x = apart m.from.x m.to.x is.from.x is.to.x in
    let y = apart m.from.y m.to.y is.from.y is.to.y in
    let z = apart m.from.z m.to.z is.from.z is.to.z in
    omega arith

abbrev IsPlannedAsk : Asked → Type 0
IsPlannedAsk (a_move m) = IsPlannedMove m
IsPlannedAsk (a_mark m) = Unit {0}
IsPlannedAsk a_rest = Unit {0}

few_ticks : (asked : List Asked) → AllByRecursion IsPlannedAsk asked → length (ticks_of_all asked) ≤ weight asked
few_ticks [] all = omega arith
few_ticks (a_move m ∷ asked) all =
    let rest = few_ticks asked all.1 in
    let own = few_events m.mv all.0.places in
    let e = length-append (ticks_of_one (a_move m)) (ticks_of_all asked) in
    let d : length (ticks_of_one (a_move m)) ≡ events_of m.mv = length-map (line_events m.mv) kinds.Event ∙ length_after m.mv 0 (events_of m.mv) in
    omega arith
few_ticks (a_mark m ∷ asked) all = let rest = few_ticks asked all.1 in omega arith
few_ticks (a_rest ∷ asked) all = few_ticks asked all.1

-- the moves of a run may be planned
moves_planned : (most : ℕ) (p last : Planned) (actions : List Action) (ps : List Piece) → Plans most p actions ps last → AllByRecursion IsPlannedAsk (all_asked actions)
moves_planned most p last [] ps run = tt
moves_planned most p last (Add m ∷ more) ps run = (run.0.move, moves_planned most (with_move p m) last more ps run.1)
moves_planned most p last (Override o ∷ more) ps run = moves_planned most (record p { overrides = o }) last more ps run.1
moves_planned most p last (Rest ∷ more) ps run = (tt, moves_planned most p last more ps run.1)
moves_planned most p last (Clear ∷ more) ps run = moves_planned most (cleared p) last more ps run.1
moves_planned most p last (Reset ∷ more) ps run = subst (λ (xs : List Action). AllByRecursion IsPlannedAsk (all_asked xs)) (sym run.0) tt
moves_planned most p last (Take mode ∷ more) (pieces.Segment s ∷ ps) run = moves_planned most (advanced p s.n s.w_out) last more ps run.1
moves_planned most p last (Mark m ∷ more) (pieces.Mark g ∷ ps) run = (tt, moves_planned most p last more ps run.3)
moves_planned most p last (Take mode ∷ more) [] run = absurd run
moves_planned most p last (Take mode ∷ more) (pieces.Mark g ∷ ps) run = absurd run
moves_planned most p last (Take mode ∷ more) (pieces.End ∷ ps) run = absurd run
moves_planned most p last (Mark m ∷ more) [] run = absurd run
moves_planned most p last (Mark m ∷ more) (pieces.Segment s ∷ ps) run = absurd run
moves_planned most p last (Mark m ∷ more) (pieces.End ∷ ps) run = absurd run

weight_in : (xs ys : List Outcome) → weight (asked_in (xs ++ ys)) ≡ weight (asked_in xs) + weight (asked_in ys)
weight_in xs ys = ap weight (flat_map-append (λ (o : Outcome). asks o.work) xs ys) ∙ weight_on (asked_in xs) (asked_in ys)

-- what a part gives is of what was done in it, which is of what its lines ask for
part_given_few : (most : ℕ) (p : Part) → IsCutPart most p → ticks_together p.given ≤ weight (asked_in p.outcomes)
part_given_few most p is =
    let few = few_ticks (all_asked p.actions) (moves_planned most p.start p.plan p.actions p.given is.run) in
    let ticks = ap (λ (rs : List Record). length rs) is.ticks ∙ length-append (flat_map ticks_of p.given) (ticks_left p.plan ++ ticks_of_all p.dropped) in
    let more = length-append (ticks_left p.plan) (ticks_of_all p.dropped) in
    let split = ap (λ (a : List Asked). length (ticks_of_all a)) is.asks ∙ ap (λ (rs : List Record). length rs) (flat_map-append ticks_of_one (all_asked p.actions) p.dropped) ∙ length-append (ticks_of_all (all_asked p.actions)) (ticks_of_all p.dropped) in
    let asked = ap weight is.asks ∙ weight_on (all_asked p.actions) p.dropped in
    omega (arith, few, ticks, more, split, asked)

parts_given_few : (most : ℕ) (ps : List Part) → AllByRecursion (λ p. IsCutPart most p) ps → ticks_together (pieces_in ps) ≤ weight (asked_in (lines_in ps)) + length ps
parts_given_few most [] all = omega arith
parts_given_few most (p ∷ ps) all =
    let rest = parts_given_few most ps all.1 in
    let one = part_given_few most p all.0 in
    let lines = weight_in (lines_in ps) p.outcomes in
    let a = together_both (pieces_in ps) (p.given ++ pieces.Mark (marks.Cut p.number) ∷ []) in
    let b = together_both p.given (pieces.Mark (marks.Cut p.number) ∷ []) in
    omega (arith, rest, one, lines, a, b)

parts_few : (before : ℕ) (ps : List Part) → AreNumbered before ps → before + length ps ≤ last_number before ps
parts_few before [] n = omega arith
parts_few before (p ∷ ps) n = let e = parts_few before ps n.2 in let f = n.1 in omega (arith, e, f)

pub given_by_lines : (first : Opening) (h : Journal) → Conducted first h → ticks_given h ≤ 400000006 * length (outcomes_of h)
given_by_lines first h c =
    let part = open_part first h c in
    let few = few_ticks (all_asked (part_actions h)) (moves_planned first.blocks (part_start h) (part_plan h) (part_actions h) (part_given h) part.run) in
    let ticks = ap (λ (rs : List Record). length rs) (ticks_from_start first.blocks (part_start h) (part_plan h) (part_actions h) (part_given h) part.starts (never_clears first h c) part.run) in
    let split = length-append (flat_map ticks_of (part_given h)) (ticks_left (part_plan h)) in
    let asked = ap weight (asked_is first h c) in
    let parts = weight_on (all_asked (part_actions h)) (asks (left_of first h)) in
    let closed = parts_given_few first.blocks (parts_of first h) (parts_are first h c) in
    let cuts = parts_few first.lines (parts_of first h) (numbers_are first h c) in
    let count = count_is first h c in
    let given = given_sum first h c in
    let all = (begun_modest first h c).0 in
    let both = ap (λ (os : List Outcome). weight (asked_in os)) (lines_are first h c) ∙ weight_in (lines_in (parts_of first h)) (part_outcomes h) in
    omega arith

pub few_given : (first : Opening) (h : Journal) → Conducted first h → ticks_given h < 2 ^ 62
few_given first h c = let few = given_by_lines first h c in let lines = few_lines first h c in omega (arith, few, lines)

pub few_next : (first : Opening) (h : Journal) (p : Piece) → Conducted first h → IsInHand p h → ticks_published h + tick_count p < 2 ^ 62
few_next first h p c next =
    let few = few_given first h c in
    let e = ap ticks_together (hand_is first h c) ∙ together_both (published_of h) (hand_of h) in
    let d = ap ticks_together next in
    let f = together_both (p ∷ []) (drop 1 (hand_of h)) in
    let g = length-append (ticks_of p) [] in
    omega arith

-- so the piece in hand may be published
pub may_publish_next : (first : Opening) (h : Journal) (p : Piece) → Conducted first h → IsInHand p h → MayPublish (port_log h) p
may_publish_next first h p c next =
    may_publish_alone (port_log h) p (journals_never_stop first h c) (published_in_turn first h c) (next_turns first h p c next) (few_next first h p c next)

-- ---- replies

closing_few : (first : Opening) (h : Journal) → At first h → length (closed_tells h) ≤ 1
closing_few first h (going e is) = let n = ap (λ (rs : List Reply). length rs) e in omega arith
closing_few first h (to_finish e l w is) = let n = ap (λ (rs : List Reply). length rs) e in omega arith
closing_few first h (to_tell e l w p still is k) = let n = ap (λ (rs : List Reply). length rs) e in omega arith
closing_few first h (over e l w p still d is k) = let n = ap (λ (rs : List Reply). length rs) e in omega arith

pub answered_by_lines : (first : Opening) (h : Journal) → Conducted first h → length (answered_of h) ≤ 64 * length (outcomes_of h) + 4 + reports_in (port_log h)
answered_by_lines first h c =
    let all = (begun_modest first h c).1 in
    let closed = closing_few first h (phase_is first h c) in
    let same = ap (λ (rs : List Reply). length rs) (told_is first h c) in
    let left = length-append (replies_after first.tells (outcomes_of h)) (closed_tells h) in
    let front = length-append first.tells (flat_map (λ (o : Outcome). tells o.work) (outcomes_of h)) in
    let greeted = (opened first h c).few in
    let right = length-append (without_reports (answered_of h)) (tells (left_of first h)) in
    let apart = length_apart (answered_of h) in
    let reports = owes_few first h c in
    omega arith

pub few_answered : (first : Opening) (h : Journal) → Conducted first h → length (answered_of h) < 2 ^ 62
few_answered first h c =
    let all = answered_by_lines first h c in
    let lines = few_lines first h c in
    let reports = few_asked first h c in
    omega (arith, all, lines, reports)
