-- What is always small of a course and its records: the tasks of a line, where records lead, and how many there are.
use Rattle.std.proofs.Common.{◌≡◌, ℕ, zero, suc, ◌+◌, ◌-◌, ◌*◌, ◌^◌, ◌≤◌, ◌<◌, ◌⊎◌, inl, inr, List, [], ◌∷◌, ◌++◌, length, map, take, true, false, Bool, cond, sym, refl, ap, ◌∙◌, subst, arith, append-nil, append_assoc, length-append}
use Rattle.std.specs.List.{flat_map, AllByRecursion}
use Rattle.std.proofs.Math.Seq.{take-append-add, take-append_seam}
use Rattle.std.proofs.lemmas.Bool.{cases_lt}
use Rattle.std.proofs.lemmas.Grind.{flat_map-append}
use Rattle.std.proofs.lemmas.List.{length-map}
use Rattle.std.proofs.lemmas.List.Elements.{filter-append}
use Rattle.units.specs.declared.Steps3.{Steps3}
use Rattle.units.specs.Lengths.{IsPlace, IsMove}
use Rattle.flight.specs.Places.{moved_by, origin}
use Rattle.flight.proofs.Places.{moved_on, goes_by, fewer_events, few_events}
use Rattle.legal_heads.specs.Speeds.{IsToldRight, told_records}
use Rattle.legal_heads.specs.declared.Told.{Told}
use Rattle.legal_heads.specs.declared.Told.TheVariants as told_as
use Rattle.step_line.specs.Asking.{Asked, moves_of, ticks_of_all, ticks_among}
use Rattle.step_line.specs.Asking.Asked.{a_move, a_mark, a_rest}
use Rattle.step_line.specs.Counting.{events_of}
use Rattle.step_line.specs.Events.{events_after, line_events}
use Rattle.step_line.specs.Places.{place_after}
use Rattle.step_line.specs.Records.{is_tick}
use Rattle.step_line.specs.declared.Bits.{Bits}
use Rattle.step_line.specs.declared.Record.{Record}
use Rattle.step_line.specs.declared.Record.TheVariants as kinds
use Rattle.step_line.specs.declared.planned_move.PlannedMove.{PlannedMove}
use Rattle.step_line.proofs.Order.{length_after, length_line}
use Rattle.step_line.proofs.Sums.{at_start, at_end, is_place}
use Rattle.run_rules.specs.Cuts.{ticks_for}
use Rattle.run_rules.specs.States.{IsOpening}
use Rattle.run_rules.specs.Told.{asked_in}
use Rattle.run_rules.specs.Work.{Task, Outcome, asks, asked_by_task}
use Rattle.run_rules.specs.Work.Task.{ask, tell, pause, normal, finish, halt}
use Rattle.run_rules.specs.declared.State.{State}
use Rattle.modal_state.specs.declared.Parser.{Parser}
use Rattle.run_texts.specs.Courses.{Passed, Follows, behind_cut, behind_the_reset}
use Rattle.run_texts.specs.Courses.Passed.{a_line, a_broken, a_cut, a_reset}
use Rattle.run_texts.specs.Left.{behind_lines}
use Rattle.run_texts.specs.Parts.{Ending, Part, parts_of, is_ending, lines_counted, ending_record}
use Rattle.run_texts.specs.Parts.Ending.{by_cut, by_reset, by_end}
use Rattle.run_texts.specs.Places.{MovesJoin, moves_for, position}
use Rattle.run_texts.specs.Points.{Point, BecomesAt, behind_line, behind_broken, opening}
use Rattle.run_texts.specs.Recorded.{IsRecorded, AreRecorded, ticks_for_all}
use Rattle.run_texts.specs.Sent.{Sent, has_reset, behind_reset}
use Rattle.run_texts.specs.Sent.Sent.{a_text, a_stop}
use Rattle.run_texts.proofs.Events.{first_of, ticks_on}
use Rattle.run_texts.proofs.Joining.{join_on, line_leads}
use Rattle.run_texts.proofs.Leading.{heads_stay, moves_on, one_line, onto_none, onto_more, onto_begun}
use Rattle.run_texts.proofs.Reach.{AllInReach, IsInReachAsked, IsSteady, all_on, line_reaches, steady_behind, opening_steady}
pub use Rattle.run_texts.proofs.Tasks.{short_work}

-- ---- the ticks of what is asked

taken_none : {A : Type 0} (j : ℕ) → Path (List A) (take j []) []
taken_none zero = refl
taken_none (suc j) = refl

all_events : (m : PlannedMove) → length (map kinds.Event (line_events m.mv)) ≡ events_of m.mv
all_events m = length-map (line_events m.mv) kinds.Event ∙ length_line m.mv

within : (m : PlannedMove) (from : Steps3) (j : ℕ) (more : List Record) → m.mv.from ≡ from → IsMove m.mv → j ≤ events_of m.mv → IsPlace (moved_by from (take j (map kinds.Event (line_events m.mv) ++ more)))
within m from j more begins is few =
    let there : moved_by from (map kinds.Event (events_after m.mv 0 j)) ≡ place_after m.mv (0 + j) = goes_by from m.mv 0 j (sym begins ∙ sym (at_start m.mv)) in
    subst IsPlace (sym (ap (moved_by from) (fewer_events m.mv 0 (events_of m.mv) j more few) ∙ there)) (is_place m.mv (0 + j) is (omega (arith, few)))

beyond : (m : PlannedMove) (from : Steps3) (j : ℕ) (more : List Record) → m.mv.from ≡ from → events_of m.mv ≤ j
    → moved_by from (take j (map kinds.Event (line_events m.mv) ++ more)) ≡ moved_by m.mv.to (take (j - events_of m.mv) more)
beyond m from j more begins few =
    let own = map kinds.Event (line_events m.mv) in
    let rest = take (j - events_of m.mv) more in
    let parted : j ≡ length own + (j - events_of m.mv) = let all = all_events m in omega (arith, all, few) in
    let all : 0 + events_of m.mv ≡ events_of m.mv = omega arith in
    let there : moved_by from own ≡ m.mv.to = goes_by from m.mv 0 (events_of m.mv) (sym begins ∙ sym (at_start m.mv)) ∙ ap (place_after m.mv) all ∙ at_end m.mv in
    ap (λ (k : ℕ). moved_by from (take k (own ++ more))) parted ∙ ap (moved_by from) (take-append-add own more (j - events_of m.mv)) ∙ moved_on from own rest ∙ ap (λ (p : Steps3). moved_by p rest) there

-- the first of these ticks lead to a place
pub front_reaches : (asked : List Asked) (from to : Steps3) (j : ℕ) → MovesJoin from (moves_of asked) to → AllInReach asked → IsPlace from → IsPlace (moved_by from (take j (ticks_of_all asked)))
front_reaches [] from to j joins all here = subst (λ (rs : List Record). IsPlace (moved_by from rs)) (sym (taken_none j)) here
front_reaches (a_rest ∷ asked) from to j joins all here = front_reaches asked from to j joins all.1 here
front_reaches (a_mark m ∷ asked) from to zero joins all here = here
front_reaches (a_mark m ∷ asked) from to (suc j) joins all here = front_reaches asked from to j joins all.1 here
front_reaches (a_move m ∷ asked) from to j joins all here = elim (cases_lt j (events_of m.mv)) [
  | inl few ↦ within m from j (ticks_of_all asked) joins.0 all.0 (omega (arith, few))
  | inr many ↦ subst IsPlace (sym (beyond m from j (ticks_of_all asked) joins.0 many)) (front_reaches asked m.mv.to to (j - events_of m.mv) joins.1 all.1 all.0.to)
]

few_ticks : (asked : List Asked) → AllInReach asked → length (ticks_of_all asked) ≤ length asked * 200000000
few_ticks [] all = omega arith
few_ticks (a_rest ∷ asked) all = let more = few_ticks asked all.1 in omega (arith, more)
few_ticks (a_mark m ∷ asked) all = let more = few_ticks asked all.1 in omega (arith, more)
few_ticks (a_move m ∷ asked) all =
    let more = few_ticks asked all.1 in
    let one = few_events m.mv all.0 in
    let own = all_events m in
    let both = length-append (map kinds.Event (line_events m.mv)) (ticks_of_all asked) in
    omega (arith, more, one, own, both)

one_asked : (t : Task) → length (asked_by_task t) ≤ 1
one_asked (ask a) = omega arith
one_asked (tell r) = omega arith
one_asked pause = omega arith
one_asked normal = omega arith
one_asked finish = omega arith
one_asked halt = omega arith

few_asks : (work : List Task) → length (asks work) ≤ length work
few_asks [] = omega arith
few_asks (t ∷ ts) =
    let one = one_asked t in
    let more = few_asks ts in
    let both = length-append (asked_by_task t) (asks ts) in
    omega (arith, one, more, both)

-- so many ticks has a line at most: 64 tasks, each of a move from one end of what can be reached to the other
abbrev pub most_ticks : ℕ
most_ticks = 12800000000

line_ticks : (runs : Bool) (p : Point) (kept : List ℕ) (o : Outcome) → IsSteady p.before.state → BecomesAt runs p kept o → length (ticks_for o) ≤ most_ticks
line_ticks runs p kept o steady is =
    let ticks = few_ticks (asks o.work) (line_reaches runs p kept o steady is).asked in
    let tasks = short_work runs p kept o is in
    let asked = few_asks o.work in
    omega (arith, ticks, tasks, asked)

-- ---- the records of a part

abbrev pub IsInside : Record → Type 0
IsInside r = is_ending r ≡ false

pub event_ticks : (bits : List Bits) → ticks_among (map kinds.Event bits) ≡ map kinds.Event bits
event_ticks [] = refl
event_ticks (b ∷ bits) = ap (λ (rs : List Record). kinds.Event b ∷ rs) (event_ticks bits)

pub events_inside : (bits : List Bits) → AllByRecursion IsInside (map kinds.Event bits)
events_inside [] = tt
events_inside (b ∷ bits) = (refl, events_inside bits)

all_behind : (xs ys : List Record) → AllByRecursion IsInside (xs ++ ys) → AllByRecursion IsInside ys
all_behind [] ys all = all
all_behind (x ∷ xs) ys all = all_behind xs ys all.1

-- a head has an event at least, so records are at most twice as many as their ticks
pub twice : (told : List Told) → AllByRecursion IsToldRight told → AllByRecursion IsInside (flat_map told_records told) → length (flat_map told_records told) ≤ 2 * length (ticks_among (flat_map told_records told))
twice [] right inside = omega arith
twice (told_as.End ∷ told) right inside = absurd cc
twice (told_as.Mark m ∷ told) right inside = let more = twice told right.1 inside.1 in omega (arith, more)
twice (told_as.Head h ∷ told) right inside =
    let events = events_after h.planned.mv h.first h.head.n in
    let rest = flat_map told_records told in
    let more = twice told right.1 (all_behind (map kinds.Event events) rest inside.1) in
    let some = right.0.some in
    let own : length (map kinds.Event events) ≡ h.head.n = length-map events kinds.Event ∙ length_after h.planned.mv h.first h.head.n in
    let both = length-append (map kinds.Event events) rest in
    let ticks : length (ticks_among (map kinds.Event events ++ rest)) ≡ length (map kinds.Event events) + length (ticks_among rest) =
    ap length (filter-append is_tick (map kinds.Event events) rest ∙ ap (λ (rs : List Record). rs ++ ticks_among rest) (event_ticks events)) ∙ length-append (map kinds.Event events) (ticks_among rest) in
    omega (arith, more, some, own, both, ticks)

part_few : (place : Steps3) (p : Part) (mine : List Record) → IsRecorded place p mine → length mine ≤ 2 * length (ticks_for_all (lines_counted p))
part_few place p mine is =
    let missing = map kinds.Event is.heads.missing in
    let all = mine ++ missing in
    let told = is.heads.told in
    let inside = subst (AllByRecursion IsInside) (sym is.heads.recorded) (all_on IsInside mine missing is.inside (events_inside is.heads.missing)) in
    let few : length all ≤ 2 * length (ticks_among all) = subst (λ (rs : List Record). length rs ≤ 2 * length (ticks_among rs)) is.heads.recorded (twice told is.heads.each inside) in
    let ticks : length (ticks_among all) ≡ length (ticks_among mine ++ missing) = ap length (filter-append is_tick mine missing ∙ ap (λ (rs : List Record). ticks_among mine ++ rs) (event_ticks is.heads.missing)) in
    let due : length (ticks_for_all (lines_counted p)) ≡ length (ticks_among mine ++ missing) + length is.heads.due.rest = ap length is.heads.due.is ∙ length-append (ticks_among mine ++ missing) is.heads.due.rest in
    let both = length-append mine missing in
    omega (arith, few, ticks, due, both)

part_places : (place to : Steps3) (p : Part) (mine front behind : List Record) → IsRecorded place p mine → MovesJoin place (moves_for (lines_counted p)) to → AllInReach (asked_in (lines_counted p)) → IsPlace place
    → mine ≡ front ++ behind → IsPlace (moved_by place front)
part_places place to p mine front behind is joins reach here e =
    let begins = first_of p p.ending (ticks_among mine) refl is.ticks in
    let rest = ticks_among behind ++ begins.rest in
    let all : ticks_for_all (lines_counted p) ≡ ticks_among front ++ rest =
    begins.is ∙ ap (λ (rs : List Record). rs ++ begins.rest) (ap ticks_among e ∙ filter-append is_tick front behind) ∙ append_assoc (ticks_among front) (ticks_among behind) begins.rest in
    let first : take (length (ticks_among front)) (ticks_for_all (lines_counted p)) ≡ ticks_among front = ap (take (length (ticks_among front))) all ∙ take-append_seam (ticks_among front) rest in
    subst IsPlace (ap (moved_by place) first ∙ heads_stay front place) (front_reaches (asked_in (lines_counted p)) place to (length (ticks_among front)) joins reach here)

-- ---- the records of parts

-- wherever the first of these records lead is a place, and there are so many at most
pub record IsBounded (place : Steps3) (records : List Record) (most : ℕ) : Type 0 where
  pub places : (front behind : List Record) → records ≡ front ++ behind → IsPlace (moved_by place front)
  pub few : length records ≤ most

-- where a list is cut in two, it is cut before an element or behind it
data Cuts (front behind before after : List Record) (r : Record) : Type 0 where
  early : (rest : List Record) → before ≡ front ++ rest → Cuts front behind before after r
  late : (rest : List Record) → front ≡ before ++ r ∷ rest → after ≡ rest ++ behind → Cuts front behind before after r

cuts_on : (x y : Record) (front behind before after : List Record) (r : Record) → x ≡ y → Cuts front behind before after r → Cuts (y ∷ front) behind (x ∷ before) after r
cuts_on x y front behind before after r same (early rest e) = early rest (ap (λ (z : Record). z ∷ before) same ∙ ap (λ (rs : List Record). y ∷ rs) e)
cuts_on x y front behind before after r same (late rest e f) = late rest (ap (λ (z : Record). z ∷ front) (sym same) ∙ ap (λ (rs : List Record). x ∷ rs) e) f

cuts : (front behind before after : List Record) (r : Record) → before ++ r ∷ after ≡ front ++ behind → Cuts front behind before after r
cuts [] behind before after r e = early before refl
cuts (x ∷ front) behind [] after r e = late front (let same : r ≡ x = cc in ap (λ (z : Record). z ∷ front) (sym same)) (let rest : after ≡ front ++ behind = cc in rest)
cuts (y ∷ front) behind (x ∷ before) after r e =
    cuts_on x y front behind before after r (let same : x ≡ y = cc in same) (cuts front behind before after r (let rest : before ++ r ∷ after ≡ front ++ behind = cc in rest))

no_step : (e : Ending) (place : Steps3) (rs : List Record) → moved_by place (ending_record e ∷ rs) ≡ moved_by place rs
no_step (by_cut k at) place rs = refl
no_step (by_reset r) place rs = refl
no_step by_end place rs = refl

none_before : (front behind : List Record) → Path (List Record) [] (front ++ behind) → front ≡ []
none_before [] behind e = refl
none_before (x ∷ front) behind e = absurd cc

-- a part, and what comes behind it
module _ (place to : Steps3) (p : Part) (mine : List Record) (lines : List Outcome) (counted : lines_counted p ≡ lines) (is : IsRecorded place p mine) (joins : MovesJoin place (moves_for lines) to)
    (reach : AllInReach (asked_in lines)) (here : IsPlace place) where
  in_part : (front behind : List Record) → mine ≡ front ++ behind → IsPlace (moved_by place front)
  in_part front behind e =
      part_places place to p mine front behind is (subst (λ (os : List Outcome). MovesJoin place (moves_for os) to) (sym counted) joins) (subst (λ (os : List Outcome). AllInReach (asked_in os)) (sym counted) reach) here e

  pub part_ends : IsPlace (moved_by place mine)
  part_ends = in_part mine [] (sym (append-nil mine))

  pub part_bounded : (rest : List Record) (most : ℕ) → IsBounded (moved_by place mine) rest most → IsBounded place (mine ++ ending_record p.ending ∷ rest) (2 * length (ticks_for_all lines) + 1 + most)
  part_bounded rest most behind_it = record {
    places = λ front behind e. by_cuts front behind (cuts front behind mine rest (ending_record p.ending) e);
    few =
        let own : length mine ≤ 2 * length (ticks_for_all lines) = subst (λ (os : List Outcome). length mine ≤ 2 * length (ticks_for_all os)) counted (part_few place p mine is) in
        let both = length-append mine (ending_record p.ending ∷ rest) in
        omega (arith, own, both, behind_it.few);
  } where
    by_cuts : (front behind : List Record) → Cuts front behind mine rest (ending_record p.ending) → IsPlace (moved_by place front)
    by_cuts front behind (early others e) = in_part front others e
    by_cuts front behind (late others e f) =
        subst IsPlace (sym (ap (moved_by place) e ∙ moved_on place mine (ending_record p.ending ∷ others) ∙ no_step p.ending (moved_by place mine) others)) (behind_it.places others behind f)

none_bounded : (place : Steps3) → IsPlace place → IsBounded place [] 0
none_bounded place here = record { places = λ front behind e. subst (λ (rs : List Record). IsPlace (moved_by place rs)) (sym (none_before front behind e)) here; few = omega arith }

-- ---- courses

-- On the way of a course, of the part that is open: it began at a place, the moves of its answered lines lead to the position, and with
-- those of the line that is begun to somewhere; all of them lead between places. Only of a line without its answer more is begun.
pub record IsOnWay (p : Point) (since begun : List Outcome) (place : Steps3) : Type 0 where
  pub steady : IsSteady p.before.state
  pub here : IsPlace place
  pub joins : MovesJoin place (moves_for since) (position p)
  pub to : Steps3
  pub all_join : MovesJoin place (moves_for (since ++ begun)) to
  pub reach : AllInReach (asked_in since)
  pub all_reach : AllInReach (asked_in (since ++ begun))
  pub waits : (begun ≡ []) ⊎ (p.unanswered ≡ true)

none_begun : (p : Point) (begun : List Outcome) → (begun ≡ []) ⊎ (p.unanswered ≡ true) → p.unanswered ≡ false → begun ≡ []
none_begun p begun (inl e) answered = e
none_begun p begun (inr e) answered = absurd (let f = sym answered ∙ e in cc)

asked_both : (xs ys : List Outcome) → asked_in (xs ++ ys) ≡ asked_in xs ++ asked_in ys
asked_both xs ys = flat_map-append (λ (o : Outcome). asks o.work) xs ys

one_asks : (o : Outcome) → asked_in (o ∷ []) ≡ asks o.work
one_asks o = append-nil (asks o.work)

joins_more : (runs : Bool) (p : Point) (kept : List ℕ) (o : Outcome) (since : List Outcome) (place : Steps3) → BecomesAt runs p kept o → MovesJoin place (moves_for since) (position p)
    → MovesJoin place (moves_for (since ++ o ∷ [])) o.next.parser.pos_steps
joins_more runs p kept o since place is joins =
    subst (λ (ms : List PlannedMove). MovesJoin place ms o.next.parser.pos_steps) (sym (moves_on since (o ∷ []) ∙ ap (λ (ms : List PlannedMove). moves_for since ++ ms) (one_line o)))
    (join_on place (position p) o.next.parser.pos_steps (moves_for since) (moves_of (asks o.work)) joins (line_leads runs p kept o is))

reach_more : (runs : Bool) (p : Point) (kept : List ℕ) (o : Outcome) (since : List Outcome) → IsSteady p.before.state → BecomesAt runs p kept o → AllInReach (asked_in since) → AllInReach (asked_in (since ++ o ∷ []))
reach_more runs p kept o since steady is all =
    subst AllInReach (sym (asked_both since (o ∷ []) ∙ ap (λ (xs : List Asked). asked_in since ++ xs) (one_asks o)))
    (all_on IsInReachAsked (asked_in since) (asks o.work) all (line_reaches runs p kept o steady is).asked)

-- a line more is answered
pub line_on_way : (p : Point) (kept : List ℕ) (o : Outcome) (since begun : List Outcome) (place : Steps3) → p.unanswered ≡ false → BecomesAt true p kept o → IsOnWay p since begun place
    → IsOnWay (behind_line p kept o) (since ++ o ∷ []) begun place
line_on_way p kept o since begun place answered is way =
    let none = none_begun p begun way.waits answered in
    let lines : since ++ o ∷ [] ≡ (since ++ o ∷ []) ++ begun = sym (ap (λ (os : List Outcome). (since ++ o ∷ []) ++ os) none ∙ append-nil (since ++ o ∷ [])) in
    let joins = joins_more true p kept o since place is way.joins in
    let reach = reach_more true p kept o since way.steady is way.reach in
    record {
      steady = steady_behind true p kept o way.steady is;
      here = way.here;
      joins = joins;
      to = o.next.parser.pos_steps;
      all_join = subst (λ (os : List Outcome). MovesJoin place (moves_for os) o.next.parser.pos_steps) lines joins;
      reach = reach;
      all_reach = subst (λ (os : List Outcome). AllInReach (asked_in os)) lines reach;
      waits = inl none;
    }

-- a line more is begun
pub broken_on_way : (p : Point) (kept : List ℕ) (o : Outcome) (since begun : List Outcome) (place : Steps3) → p.unanswered ≡ false → BecomesAt false p kept o → IsOnWay p since begun place
    → IsOnWay (behind_broken p o) since (begun ++ o ∷ []) place
broken_on_way p kept o since begun place answered is way =
    let none = none_begun p begun way.waits answered in
    let lines : since ++ o ∷ [] ≡ since ++ (begun ++ o ∷ []) = ap (λ (os : List Outcome). since ++ (os ++ o ∷ [])) (sym none) in
    record {
      steady = way.steady;
      here = way.here;
      joins = way.joins;
      to = o.next.parser.pos_steps;
      all_join = subst (λ (os : List Outcome). MovesJoin place (moves_for os) o.next.parser.pos_steps) lines (joins_more false p kept o since place is way.joins);
      reach = way.reach;
      all_reach = subst (λ (os : List Outcome). AllInReach (asked_in os)) lines (reach_more false p kept o since way.steady is way.reach);
      waits = inr refl;
    }

-- a part begins where the one before it has ended
pub part_on_way : (p : Point) (at place : Steps3) → IsSteady p.before.state → at ≡ place → position p ≡ at → IsPlace place → IsOnWay p [] [] place
part_on_way p at place steady stands same here = record {
  steady = steady;
  here = here;
  joins = sym stands ∙ sym same;
  to = place;
  all_join = refl;
  reach = tt;
  all_reach = tt;
  waits = inl refl;
}

-- how many ticks some lines ask for
abbrev pub ticks_in : List Outcome → ℕ
ticks_in lines = length (ticks_for_all lines)

pub ticks_more : (runs : Bool) (p : Point) (kept : List ℕ) (o : Outcome) (lines : List Outcome) → IsSteady p.before.state → BecomesAt runs p kept o → ticks_in (lines ++ o ∷ []) ≤ ticks_in lines + most_ticks
ticks_more runs p kept o lines steady is =
    let both : ticks_in (lines ++ o ∷ []) ≡ ticks_in lines + ticks_in (o ∷ []) = ap length (ticks_on lines (o ∷ [])) ∙ length-append (ticks_for_all lines) (ticks_for_all (o ∷ [])) in
    let one : ticks_in (o ∷ []) ≡ length (ticks_for o) = ap (λ (xs : List Asked). length (ticks_of_all xs)) (one_asks o) in
    let few = line_ticks runs p kept o steady is in
    omega (arith, both, one, few)

pub ticks_whole : (since begun : List Outcome) → ticks_in (since ++ begun) ≡ ticks_in since + ticks_in begun
ticks_whole since begun = ap length (ticks_on since begun) ∙ length-append (ticks_for_all since) (ticks_for_all begun)

-- a reset takes something of what was sent
pub fewer_sent : (sent : List Sent) → has_reset sent ≡ true → length (behind_reset sent) + 1 ≤ length sent
fewer_sent [] some = absurd cc
fewer_sent (a_stop ∷ sent) some = omega arith
fewer_sent (a_text line ∷ sent) some = let more = fewer_sent sent some in omega (arith, more)

-- So many records come at most of lines with these ticks, and of so much that is sent: each tick may have a head, each line a cut
-- behind it, and each reset a mark.
abbrev pub most_records : Bool → ℕ → ℕ → ℕ
most_records has_line ticks sent = 2 * ticks + cond has_line 1 0 + sent * (2 * most_ticks + 1) + 1

pub bounded_by : (place : Steps3) (records : List Record) (few many : ℕ) → few ≤ many → IsBounded place records few → IsBounded place records many
bounded_by place records few many le is = record { places = is.places; few = omega (arith, le, is.few) }

pub counts_one : (b : Bool) → b ≡ true → 1 ≤ cond b 1 0
counts_one true e = omega arith
counts_one false e = absurd cc

course_bounded : (p last : Point) (sent : List Sent) (ps : List Passed) (since begun : List Outcome) (place : Steps3) (records : List Record) → Follows p sent ps last → IsOnWay p since begun place
    → AreRecorded place (behind_lines since begun (parts_of ps)) records → IsBounded place records (most_records p.has_line (ticks_in since + ticks_in begun) (length sent))
course_bounded p last sent [] since begun place records f way all =
    let part : Part = record { lines = since ++ []; begun = begun ++ []; ending = by_end } in
    let counted : lines_counted part ≡ since ++ begun = ap (λ (os : List Outcome). os ++ (begun ++ [])) (append-nil since) ∙ ap (λ (os : List Outcome). since ++ os) (append-nil begun) in
    let none : IsBounded (moved_by place all.0) all.1 0 =
    subst (λ (rs : List Record). IsBounded (moved_by place all.0) rs 0) (sym all.4) (none_bounded (moved_by place all.0) (part_ends place way.to part all.0 (since ++ begun) counted all.3 way.all_join way.all_reach way.here)) in
    let whole = ticks_whole since begun in
    let most = most_records p.has_line (ticks_in since + ticks_in begun) (length sent) in
    subst (λ (rs : List Record). IsBounded place rs most) (sym all.2)
    (bounded_by place _ (2 * ticks_in (since ++ begun) + 1 + 0) most (omega (arith, whole)) (part_bounded place way.to part all.0 (since ++ begun) counted all.3 way.all_join way.all_reach way.here all.1 0 none))
course_bounded p last sent (a_cut k at ∷ ps) since begun place records f way all =
    let part : Part = record { lines = since ++ []; begun = begun ++ []; ending = by_cut k at } in
    let counted : lines_counted part ≡ since = append-nil (since ++ []) ∙ append-nil since in
    let there = moved_by place all.0 in
    let here = part_ends place (position p) part all.0 since counted all.3 way.joins way.reach way.here in
    let q = behind_cut at p in
    let steady : IsSteady q.before.state = record { place = subst IsPlace (sym all.3.stands) here; scales = way.steady.scales } in
    let rest = course_bounded q last sent ps [] [] there all.1 f.1 (part_on_way q at there steady all.3.stands refl here) (subst (λ (qs : List Part). AreRecorded there qs all.1) (sym (onto_none (parts_of ps))) all.4) in
    let line = counts_one p.has_line f.0.has_line in
    let most = most_records p.has_line (ticks_in since + ticks_in begun) (length sent) in
    subst (λ (rs : List Record). IsBounded place rs most) (sym all.2)
    (bounded_by place _ (2 * ticks_in since + 1 + most_records false 0 (length sent)) most (omega (arith, line)) (part_bounded place (position p) part all.0 since counted all.3 way.joins way.reach way.here all.1 _ rest))
course_bounded p last sent (a_reset r ∷ ps) since begun place records f way all =
    let part : Part = record { lines = since ++ []; begun = begun ++ []; ending = by_reset r } in
    let counted : lines_counted part ≡ since ++ begun = ap (λ (os : List Outcome). os ++ (begun ++ [])) (append-nil since) ∙ ap (λ (os : List Outcome). since ++ os) (append-nil begun) in
    let there = moved_by place all.0 in
    let here = part_ends place way.to part all.0 (since ++ begun) counted all.3 way.all_join way.all_reach way.here in
    let q = behind_the_reset r p in
    let steady : IsSteady q.before.state = record { place = subst IsPlace (sym all.3.stands) here; scales = way.steady.scales } in
    let rest = course_bounded q last (behind_reset sent) ps [] [] there all.1 f.1 (part_on_way q r.at there steady all.3.stands refl here) (subst (λ (qs : List Part). AreRecorded there qs all.1) (sym (onto_none (parts_of ps))) all.4) in
    let whole = ticks_whole since begun in
    let fewer = fewer_sent sent f.0.comes in
    let most = most_records p.has_line (ticks_in since + ticks_in begun) (length sent) in
    subst (λ (rs : List Record). IsBounded place rs most) (sym all.2)
    (bounded_by place _ (2 * ticks_in (since ++ begun) + 1 + most_records false 0 (length (behind_reset sent))) most (omega (arith, whole, fewer))
    (part_bounded place way.to part all.0 (since ++ begun) counted all.3 way.all_join way.all_reach way.here all.1 _ rest))
course_bounded p last [] (a_line o ∷ ps) since begun place records f way all = absurd f
course_bounded p last (a_stop ∷ sent) (a_line o ∷ ps) since begun place records f way all = absurd f
course_bounded p last (a_text line ∷ sent) (a_line o ∷ ps) since begun place records f way all =
    let more = ticks_more true p line o since way.steady f.0.becomes in
    bounded_by place records (most_records true (ticks_in (since ++ o ∷ []) + ticks_in begun) (length sent)) (most_records p.has_line (ticks_in since + ticks_in begun) (length (a_text line ∷ sent))) (omega (arith, more))
    (course_bounded (behind_line p line o) last sent ps (since ++ o ∷ []) begun place records f.1 (line_on_way p line o since begun place f.0.answered f.0.becomes way)
    (subst (λ (qs : List Part). AreRecorded place qs records) (onto_more since begun o (parts_of ps)) all))
course_bounded p last [] (a_broken o ∷ ps) since begun place records f way all = absurd f
course_bounded p last (a_stop ∷ sent) (a_broken o ∷ ps) since begun place records f way all = absurd f
course_bounded p last (a_text line ∷ sent) (a_broken o ∷ ps) since begun place records f way all =
    let more = ticks_more false p line o begun way.steady f.0.becomes in
    bounded_by place records (most_records true (ticks_in since + ticks_in (begun ++ o ∷ [])) (length sent)) (most_records p.has_line (ticks_in since + ticks_in begun) (length (a_text line ∷ sent))) (omega (arith, more))
    (course_bounded (behind_broken p o) last sent ps since (begun ++ o ∷ []) place records f.1 (broken_on_way p line o since begun place f.0.answered f.0.becomes way)
    (subst (λ (qs : List Part). AreRecorded place qs records) (onto_begun since begun o (parts_of ps)) all))

-- ---- of all records

all_bounded : (first : State) (sent : List Sent) (course : List Passed) (last : Point) (records : List Record) → IsOpening first → Follows (opening first) sent course last
    → AreRecorded origin (parts_of course) records → IsBounded origin records (most_records false 0 (length sent))
all_bounded first sent course last records opens f all =
    let steady = opening_steady first opens in
    let begins : position (opening first) ≡ origin = ap (λ (x : Parser). x.pos_steps) opens.parser in
    course_bounded (opening first) last sent course [] [] origin records f (part_on_way (opening first) origin origin steady refl begins (subst IsPlace begins steady.place))
    (subst (λ (qs : List Part). AreRecorded origin qs records) (sym (onto_none (parts_of course))) all)

-- wherever records of a course have led is a place
pub in_range : (first : State) (sent : List Sent) (course : List Passed) (last : Point) (records rest : List Record) → IsOpening first → Follows (opening first) sent course last
    → AreRecorded origin (parts_of course) (records ++ rest) → IsPlace (moved_by origin records)
in_range first sent course last records rest opens f all = (all_bounded first sent course last (records ++ rest) opens f all).places records rest refl

-- a job of a size that is read has few records: each line and each reset that is sent has a byte of its own
pub few_records : (first : State) (sent : List Sent) (course : List Passed) (last : Point) (records : List Record) → IsOpening first → Follows (opening first) sent course last
    → AreRecorded origin (parts_of course) records → length sent ≤ 2 ^ 25 → length records < 2 ^ 60
few_records first sent course last records opens f all few = let most = (all_bounded first sent course last records opens f all).few in omega (arith, most, few)
