-- The same of a course that has not come to its end: where its records lead, how many there are, and how many cuts it has.
use Rattle.std.proofs.Common.{◌≡◌, ◌+◌, ◌*◌, ◌^◌, ◌≤◌, ◌<◌, List, [], ◌∷◌, ◌++◌, length, map, take, true, false, cond, sym, refl, ap, ◌∙◌, subst, arith, append-nil, append_assoc, length-append}
use Rattle.std.specs.List.{AllByRecursion}
use Rattle.std.proofs.Math.Seq.{take-append_seam}
use Rattle.std.proofs.lemmas.List.Elements.{filter-append}
use Rattle.units.specs.declared.Steps3.{Steps3}
use Rattle.units.specs.Lengths.{IsPlace}
use Rattle.flight.specs.Places.{moved_by, origin}
use Rattle.step_line.specs.Asking.{ticks_among}
use Rattle.step_line.specs.Records.{is_tick}
use Rattle.step_line.specs.declared.Record.{Record}
use Rattle.step_line.specs.declared.Record.TheVariants as kinds
use Rattle.run_rules.specs.States.{IsOpening}
use Rattle.run_rules.specs.Told.{asked_in}
use Rattle.run_rules.specs.Work.{Outcome}
use Rattle.run_rules.specs.declared.State.{State}
use Rattle.modal_state.specs.declared.Parser.{Parser}
use Rattle.run_texts.specs.Courses.{Passed, behind_cut, behind_the_reset, cuts_in}
use Rattle.run_texts.specs.Courses.Passed.{a_line, a_broken, a_cut, a_reset}
use Rattle.run_texts.specs.Left.{behind_lines}
use Rattle.run_texts.specs.Making.{Making, IsMade}
use Rattle.run_texts.specs.Parts.{Part, parts_of, lines_counted, ending_record}
use Rattle.run_texts.specs.Parts.Ending.{by_cut, by_reset}
use Rattle.run_texts.specs.Places.{MovesJoin, moves_for, position}
use Rattle.run_texts.specs.Points.{Point, behind_line, behind_broken, opening}
use Rattle.run_texts.specs.Recorded.{IsRecorded, ticks_for_all}
use Rattle.run_texts.specs.Sent.{Sent, behind_reset}
use Rattle.run_texts.specs.Sent.Sent.{a_text, a_stop}
use Rattle.run_texts.specs.SoFar.{LeadsTo, AreMadeSoFar}
use Rattle.run_texts.proofs.Bounds.{IsBounded, IsInside, IsOnWay, bounded_by, broken_on_way, counts_one, event_ticks, events_inside, fewer_sent, front_reaches, line_on_way, most_records, part_bounded, part_ends, part_on_way, ticks_in, ticks_more, ticks_whole, twice}
use Rattle.run_texts.proofs.Leading.{heads_stay, onto_none, onto_more, onto_begun}
use Rattle.run_texts.proofs.Reach.{AllInReach, IsSteady, all_on, opening_steady}
use Rattle.run_texts.proofs.SoFar.{EndAtEnd, parts_end}

-- ---- a part that is not ended

module _ (place to : Steps3) (lines : List Outcome) (made : List Record) (m : Making) (is : IsMade lines made m) (joins : MovesJoin place (moves_for lines) to) (reach : AllInReach (asked_in lines)) (here : IsPlace place) where
  made_places : (front behind : List Record) → made ≡ front ++ behind → IsPlace (moved_by place front)
  made_places front behind e =
      let rest = ticks_among behind ++ m.owed in
      let all : ticks_for_all lines ≡ ticks_among front ++ rest =
      is.ticks ∙ ap (λ (rs : List Record). rs ++ m.owed) (ap ticks_among e ∙ filter-append is_tick front behind) ∙ append_assoc (ticks_among front) (ticks_among behind) m.owed in
      let first : take (length (ticks_among front)) (ticks_for_all lines) ≡ ticks_among front = ap (take (length (ticks_among front))) all ∙ take-append_seam (ticks_among front) rest in
      subst IsPlace (ap (moved_by place) first ∙ heads_stay front place) (front_reaches (asked_in lines) place to (length (ticks_among front)) joins reach here)

  made_few : length made ≤ 2 * length (ticks_for_all lines)
  made_few =
      let missing = map kinds.Event m.coming in
      let all = made ++ missing in
      let inside = subst (AllByRecursion IsInside) (sym is.recorded) (all_on IsInside made missing is.inside (events_inside m.coming)) in
      let few : length all ≤ 2 * length (ticks_among all) = subst (λ (rs : List Record). length rs ≤ 2 * length (ticks_among rs)) is.recorded (twice is.told is.each inside) in
      let ticks : length (ticks_among all) ≡ length (ticks_among made ++ missing) = ap length (filter-append is_tick made missing ∙ ap (λ (rs : List Record). ticks_among made ++ rs) (event_ticks m.coming)) in
      let owed : length m.owed ≡ length missing + length is.due.rest = ap length is.due.is ∙ length-append missing is.due.rest in
      let due : length (ticks_for_all lines) ≡ length (ticks_among made) + length m.owed = ap length is.ticks ∙ length-append (ticks_among made) m.owed in
      let split = length-append (ticks_among made) missing in
      let both = length-append made missing in
      omega (arith, few, ticks, owed, due, split, both)

  made_bounded : IsBounded place made (2 * length (ticks_for_all lines))
  made_bounded = record { places = made_places; few = made_few }

-- ---- a part that is ended, with what comes behind it

pub record EndedFirst (place : Steps3) (p : Part) (ps : List Part) (records : List Record) : Type 0 where
  pub mine : List Record
  pub rest : List Record
  pub split : records ≡ mine ++ ending_record p.ending ∷ rest
  pub is : IsRecorded place p mine
  pub on : AreMadeSoFar (moved_by place mine) ps rest

ended_first : (place : Steps3) (p : Part) (ps : List Part) (records : List Record) → EndAtEnd ps → AreMadeSoFar place (p ∷ ps) records → EndedFirst place p ps records
ended_first place p [] records ends all = absurd ends
ended_first place p (q ∷ ps) records ends all = record { mine = all.0; rest = all.1; split = all.2; is = all.3; on = all.4 }

-- ---- courses

course_so_far : (p last : Point) (sent left : List Sent) (ps : List Passed) (since begun : List Outcome) (place : Steps3) (records : List Record) → LeadsTo p sent ps last left → IsOnWay p since begun place
    → AreMadeSoFar place (behind_lines since begun (parts_of ps)) records → IsBounded place records (most_records p.has_line (ticks_in since + ticks_in begun) (length sent))
course_so_far p last sent left [] since begun place records f way all =
    let counted : (since ++ []) ++ (begun ++ []) ≡ since ++ begun = ap (λ (os : List Outcome). os ++ (begun ++ [])) (append-nil since) ∙ ap (λ (os : List Outcome). since ++ os) (append-nil begun) in
    let whole = ticks_whole since begun in
    bounded_by place records (2 * ticks_in (since ++ begun)) (most_records p.has_line (ticks_in since + ticks_in begun) (length sent)) (omega (arith, whole))
    (made_bounded place way.to (since ++ begun) records all.0 (subst (λ (os : List Outcome). IsMade os records all.0) counted all.1) way.all_join way.all_reach way.here)
course_so_far p last sent left (a_cut k at ∷ ps) since begun place records f way all =
    let part : Part = record { lines = since ++ []; begun = begun ++ []; ending = by_cut k at } in
    let first = ended_first place part (parts_of ps) records (parts_end ps) all in
    let counted : lines_counted part ≡ since = append-nil (since ++ []) ∙ append-nil since in
    let there = moved_by place first.mine in
    let here = part_ends place (position p) part first.mine since counted first.is way.joins way.reach way.here in
    let q = behind_cut at p in
    let steady : IsSteady q.before.state = record { place = subst IsPlace (sym first.is.stands) here; scales = way.steady.scales } in
    let rest = course_so_far q last sent left ps [] [] there first.rest f.1 (part_on_way q at there steady first.is.stands refl here) (subst (λ (qs : List Part). AreMadeSoFar there qs first.rest) (sym (onto_none (parts_of ps))) first.on) in
    let line = counts_one p.has_line f.0.has_line in
    let most = most_records p.has_line (ticks_in since + ticks_in begun) (length sent) in
    subst (λ (rs : List Record). IsBounded place rs most) (sym first.split)
    (bounded_by place _ (2 * ticks_in since + 1 + most_records false 0 (length sent)) most (omega (arith, line)) (part_bounded place (position p) part first.mine since counted first.is way.joins way.reach way.here first.rest _ rest))
course_so_far p last sent left (a_reset r ∷ ps) since begun place records f way all =
    let part : Part = record { lines = since ++ []; begun = begun ++ []; ending = by_reset r } in
    let first = ended_first place part (parts_of ps) records (parts_end ps) all in
    let counted : lines_counted part ≡ since ++ begun = ap (λ (os : List Outcome). os ++ (begun ++ [])) (append-nil since) ∙ ap (λ (os : List Outcome). since ++ os) (append-nil begun) in
    let there = moved_by place first.mine in
    let here = part_ends place way.to part first.mine (since ++ begun) counted first.is way.all_join way.all_reach way.here in
    let q = behind_the_reset r p in
    let steady : IsSteady q.before.state = record { place = subst IsPlace (sym first.is.stands) here; scales = way.steady.scales } in
    let rest = course_so_far q last (behind_reset sent) left ps [] [] there first.rest f.1 (part_on_way q r.at there steady first.is.stands refl here) (subst (λ (qs : List Part). AreMadeSoFar there qs first.rest) (sym (onto_none (parts_of ps))) first.on) in
    let whole = ticks_whole since begun in
    let fewer = fewer_sent sent f.0.comes in
    let most = most_records p.has_line (ticks_in since + ticks_in begun) (length sent) in
    subst (λ (rs : List Record). IsBounded place rs most) (sym first.split)
    (bounded_by place _ (2 * ticks_in (since ++ begun) + 1 + most_records false 0 (length (behind_reset sent))) most (omega (arith, whole, fewer))
    (part_bounded place way.to part first.mine (since ++ begun) counted first.is way.all_join way.all_reach way.here first.rest _ rest))
course_so_far p last [] left (a_line o ∷ ps) since begun place records f way all = absurd f
course_so_far p last (a_stop ∷ sent) left (a_line o ∷ ps) since begun place records f way all = absurd f
course_so_far p last (a_text line ∷ sent) left (a_line o ∷ ps) since begun place records f way all =
    let more = ticks_more true p line o since way.steady f.0.becomes in
    bounded_by place records (most_records true (ticks_in (since ++ o ∷ []) + ticks_in begun) (length sent)) (most_records p.has_line (ticks_in since + ticks_in begun) (length (a_text line ∷ sent))) (omega (arith, more))
    (course_so_far (behind_line p line o) last sent left ps (since ++ o ∷ []) begun place records f.1 (line_on_way p line o since begun place f.0.answered f.0.becomes way)
    (subst (λ (qs : List Part). AreMadeSoFar place qs records) (onto_more since begun o (parts_of ps)) all))
course_so_far p last [] left (a_broken o ∷ ps) since begun place records f way all = absurd f
course_so_far p last (a_stop ∷ sent) left (a_broken o ∷ ps) since begun place records f way all = absurd f
course_so_far p last (a_text line ∷ sent) left (a_broken o ∷ ps) since begun place records f way all =
    let more = ticks_more false p line o begun way.steady f.0.becomes in
    bounded_by place records (most_records true (ticks_in since + ticks_in (begun ++ o ∷ [])) (length sent)) (most_records p.has_line (ticks_in since + ticks_in begun) (length (a_text line ∷ sent))) (omega (arith, more))
    (course_so_far (behind_broken p o) last sent left ps since (begun ++ o ∷ []) place records f.1 (broken_on_way p line o since begun place f.0.answered f.0.becomes way)
    (subst (λ (qs : List Part). AreMadeSoFar place qs records) (onto_begun since begun o (parts_of ps)) all))

bounded_so_far : (first : State) (sent left : List Sent) (course : List Passed) (last : Point) (records : List Record) → IsOpening first → LeadsTo (opening first) sent course last left
    → AreMadeSoFar origin (parts_of course) records → IsBounded origin records (most_records false 0 (length sent))
bounded_so_far first sent left course last records opens f all =
    let steady = opening_steady first opens in
    let begins : position (opening first) ≡ origin = ap (λ (x : Parser). x.pos_steps) opens.parser in
    course_so_far (opening first) last sent left course [] [] origin records f (part_on_way (opening first) origin origin steady refl begins (subst IsPlace begins steady.place))
    (subst (λ (qs : List Part). AreMadeSoFar origin qs records) (sym (onto_none (parts_of course))) all)

-- ---- how many cuts

-- each cut has a line of its part, and so one of its own
cuts_few : (p last : Point) (sent left : List Sent) (ps : List Passed) → LeadsTo p sent ps last left → cuts_in ps ≤ cond p.has_line 1 0 + length sent
cuts_few p last sent left [] f = omega arith
cuts_few p last sent left (a_cut k at ∷ ps) f = (let more = cuts_few (behind_cut at p) last sent left ps f.1 in let line = counts_one p.has_line f.0.has_line in omega (arith, more, line))
cuts_few p last sent left (a_reset r ∷ ps) f =
    (let more = cuts_few (behind_the_reset r p) last (behind_reset sent) left ps f.1 in let fewer = fewer_sent sent f.0.comes in omega (arith, more, fewer))
cuts_few p last [] left (a_line o ∷ ps) f = absurd f
cuts_few p last (a_stop ∷ sent) left (a_line o ∷ ps) f = absurd f
cuts_few p last (a_text line ∷ sent) left (a_line o ∷ ps) f = (let more = cuts_few (behind_line p line o) last sent left ps f.1 in omega (arith, more))
cuts_few p last [] left (a_broken o ∷ ps) f = absurd f
cuts_few p last (a_stop ∷ sent) left (a_broken o ∷ ps) f = absurd f
cuts_few p last (a_text line ∷ sent) left (a_broken o ∷ ps) f = (let more = cuts_few (behind_broken p o) last sent left ps f.1 in omega (arith, more))

-- ---- of all so far

-- Where a course has come to, its records have led to a place, and are few if it was sent few lines and resets; its cuts are no more.
pub record FewSoFar (sent : List Sent) (course : List Passed) (records : List Record) : Type 0 where
  pub place : IsPlace (moved_by origin records)
  pub few : length sent ≤ 2 ^ 25 → length records < 2 ^ 60
  pub cuts : cuts_in course ≤ length sent

pub few_so_far : (first : State) (sent left : List Sent) (course : List Passed) (last : Point) (records : List Record) → IsOpening first → LeadsTo (opening first) sent course last left
    → AreMadeSoFar origin (parts_of course) records → FewSoFar sent course records
few_so_far first sent left course last records opens f all =
    let b = bounded_so_far first sent left course last records opens f all in
    record {
      place = b.places records [] (sym (append-nil records));
      few = λ little. (let most = b.few in omega (arith, most, little));
      cuts = (let c = cuts_few (opening first) last sent left course f in omega (arith, c));
    }
