-- What is refused: no texts fit that go on by it.
use Rattle.std.proofs.Common.{◌≡◌, ℕ, ◌+◌, Bool, true, false, List, [], ◌∷◌, ◌++◌, length, length-append, append-nil, append_assoc, refl, sym, ap, ◌∙◌, subst, ◌≤◌, arith}
use Rattle.std.specs.List.{list_any}
use Rattle.units.specs.declared.Steps3.{Steps3}
use Rattle.legal_heads.specs.Speeds.{MayStop}
use Rattle.flight.specs.Places.{origin}
use Rattle.status_report.specs.declared.Reply.{Reply}
use Rattle.step_line.specs.Asking.{ticks_among}
use Rattle.step_line.specs.declared.Record.{Record}
use Rattle.step_line.specs.declared.Record.TheVariants as kinds
use Rattle.step_line.specs.declared.Mark.TheVariants as marks
use Rattle.run_rules.specs.declared.State.{State}
use Rattle.part_making.specs.Judging.{Refuses, making, rest_of, all_ticks, coming_of}
use Rattle.part_making.proofs.Ending.{entered, settled_made}
use Rattle.part_making.proofs.Refused.{never_made}
use Rattle.run_rules.specs.Outcomes.{either}
use Rattle.run_rules.specs.Reports.{raises_alarm}
use Rattle.run_rules.specs.Work.{Outcome}
use Rattle.run_rules.specs.Cuts.{LosesJogsAlone}
use Rattle.run_texts.specs.Courses.{Passed, Follows, IsCut}
use Rattle.run_texts.specs.Courses.Passed.{a_line, a_broken, a_cut, a_reset}
use Rattle.run_texts.specs.Left.{behind_lines, part_of}
use Rattle.run_texts.specs.Making.{Making, IsMade, with_line}
use Rattle.run_texts.specs.Recorded.{IsRecorded, AreRecorded, ticks_for_all, settled_ticks}
use Rattle.run_texts.specs.Parts.{Ending, parts_of, ending_record, is_ending, lines_counted}
use Rattle.run_texts.specs.Parts.Ending.{by_cut, by_end}
use Rattle.run_texts.specs.Points.{Point, IsPassed, IsBroken, opening}
use Rattle.run_texts.specs.Sent.{Sent}
use Rattle.run_texts.proofs.Making.{finished, line_made}
use Rattle.run_texts.proofs.OneMaking.{one_making}
use Rattle.run_texts.proofs.Stops.{same_split}
use Rattle.audit_course.specs.declared.judge.CourseJudge.{CourseJudge}
use Rattle.audit_course.specs.Progressing.{is_code, ticks_to}
use Rattle.audit_course.specs.Here.{CutsNot, MakesNot, StandsAlike, StandsAsBefore}
use Rattle.audit_course.specs.SoFar.{GoesTo, HasJudged, OfLine, IsClosed, IsIdle, MayCut, MayEnd, RefusesEnd, RefusesLine, RefusesRecord, left_to_tell}
use Rattle.audit_course.proofs.Ending.{calm_line, code_is, point_halts, settled_are, to_tell}
use Rattle.audit_course.proofs.Parting.{none_of}
use Rattle.audit_course.proofs.Standing.{is_whole_so, jogs_to}
use Rattle.audit_course.proofs.Forced.{broken_too_late, cut_is, first_ending, line_too_late}
use Rattle.audit_course.proofs.Going.{recorded_bare}
use Rattle.audit_course.proofs.FirstPart.{IsMadeOf, ending_ends, first_part, front_made, holds_front, made_behind}

-- what is recorded of the part at hand is so where another judge stands, who is where this one is
pub recorded_there : (j there : CourseJudge) (first : State) (sent : List Sent) (replies : List Reply) (records : List Record) (s : HasJudged j first sent replies records) (t : StandsAlike j there first sent replies records s) (e : Ending)
    → IsRecorded s.from (part_of s.since s.begun e) s.made → IsRecorded t.there.from (part_of t.there.since t.there.begun e) t.there.made
recorded_there j there first sent replies records s t e are =
    subst (λ (x : Steps3). IsRecorded x (part_of t.there.since t.there.begun e) t.there.made) (sym t.from)
    (subst (λ (os : List Outcome). IsRecorded s.from (part_of os t.there.begun e) t.there.made) (sym t.since)
    (subst (λ (os : List Outcome). IsRecorded s.from (part_of s.since os e) t.there.made) (sym t.begun) (subst (IsRecorded s.from (part_of s.since s.begun e)) (sym t.made) are)))

-- a record that the part does not take, whatever lines come
pub makes_not : (j : CourseJudge) (r : Record) → Refuses j.part r → MakesNot j r
makes_not j r refuses first sent replies records s more m is = never_made (s.since ++ s.begun) more s.made j.part s.ticks s.moves r m s.is_made refuses is

-- nor from where it stands
never_goes : (j : CourseJudge) (r : Record) (first : State) (sent : List Sent) (replies : List Reply) (records : List Record) (s : HasJudged j first sent replies records)
    → MakesNot j r → is_ending r ≡ false → (n : ℕ) (more : List Sent) (told : List Reply) (rest : List Record) (last : Point)
    → GoesTo s.point s.since s.begun s.from n more told (s.made ++ r ∷ rest) last → ⊥
never_goes j r first sent replies records s not_made inside n more told rest last g =
    let f = first_part s.from s.since s.begun g.course (s.made ++ r ∷ rest) g.recorded in
    let h = holds_front s.made f.mine rest f.behind r (ending_record f.part.ending) s.is_made.inside inside (ending_ends f.part.ending) f.split in
    let whole = finished s.from (record { lines = s.since ++ f.part.lines; begun = s.begun ++ f.part.begun; ending = f.part.ending }) f.mine f.is in
    let all : IsMadeOf (lines_counted (record { lines = s.since ++ f.part.lines; begun = s.begun ++ f.part.begun; ending = f.part.ending })) ((s.made ++ r ∷ []) ++ h.more) =
    subst (IsMadeOf (lines_counted (record { lines = s.since ++ f.part.lines; begun = s.begun ++ f.part.begun; ending = f.part.ending }))) (h.are ∙ sym (append_assoc s.made (r ∷ []) h.more)) (whole.making, whole.is) in
    let front = front_made (lines_counted (record { lines = s.since ++ f.part.lines; begun = s.begun ++ f.part.begun; ending = f.part.ending })) (s.made ++ r ∷ []) h.more all in
    let b = made_behind s.point last more g.course s.since s.begun f.part f.later (s.made ++ r ∷ []) j.unanswered g.follows f.parts s.unanswered s.none_begun front in
    not_made first sent replies records s b.more b.is.0 b.is.1

pub never_follows : (j : CourseJudge) (r : Record) → MakesNot j r → is_ending r ≡ false → RefusesRecord j r
never_follows j r not_made inside first sent replies records s n more told rest last may g = never_goes j r first sent replies records s not_made inside n more told rest last (s.forth n more told (r ∷ rest) last may g)

-- ---- the end

second : (t : Bool) (A B : Type 0) → t ≡ false → either t A B → B
second true A B e x = absurd cc
second false A B e x = x

both_ways : (t : Bool) (A B C : Type 0) → either t A B → (A → C) → (B → C) → C
both_ways true A B C is f g = f is
both_ways false A B C is f g = g is

-- where nothing is owed and lost, all is
idle_by : (j : CourseJudge) (first : State) (sent : List Sent) (replies : List Reply) (records : List Record) (s : HasJudged j first sent replies records) → j.work.left ≡ [] → j.unanswered ≡ false → (making j.part s.ticks s.moves).owed ≡ [] → IsIdle j
idle_by j first sent replies records s done answered none =
    let rest = none_of (rest_of j.part.latest) (all_ticks j.part.next ++ s.ticks) none in
    let next = none_of (all_ticks j.part.next) s.ticks rest.1 in
    record { done = done; none = ap (λ (rs : List Record). rs ++ all_ticks j.part.next) rest.0 ∙ next.0; kept = kept s.ticks next.1 s.loses_some j.lost refl; answered = answered } where
      kept : (ticks : List Record) → ticks ≡ [] → (j.lost ≡ true → ticks ≡ [] → ⊥) → (lost : Bool) → j.lost ≡ lost → lost ≡ false
      kept ticks none some true is = absurd (some is none)
      kept ticks none some false is = refl

never_ends : (j : CourseJudge) (first : State) (sent : List Sent) (replies : List Reply) (records : List Record) (s : HasJudged j first sent replies records) (last : Point) (ps : List Passed)
    → IsClosed j → j.unanswered ≡ false → (MayEnd j → ⊥)
    → Follows s.point [] ps last → AreRecorded s.from (behind_lines s.since s.begun (parts_of ps)) (s.made ++ kinds.End ∷ []) → ⊥
never_ends j first sent replies records s last (a_line o ∷ ps) closed answered not_so f are = f
never_ends j first sent replies records s last (a_broken o ∷ ps) closed answered not_so f are = f
never_ends j first sent replies records s last (a_cut k at ∷ ps) closed answered not_so f are =
    let same = same_split s.made are.0 [] are.1 kinds.End (kinds.Mark (marks.Cut k)) s.is_made.inside are.3.inside refl refl are.2 in absurd (let g = same.ending in cc)
never_ends j first sent replies records s last (a_reset r ∷ ps) closed answered not_so f are =
    let same = same_split s.made are.0 [] are.1 kinds.End (kinds.Mark (marks.Reset r.number)) s.is_made.inside are.3.inside refl refl are.2 in absurd (let g = same.ending in cc)
never_ends j first sent replies records s last [] closed answered not_so f are =
    let same = same_split s.made are.0 [] are.1 kinds.End kinds.End s.is_made.inside are.3.inside refl refl are.2 in
    let whole = finished s.from (record { lines = s.since ++ []; begun = s.begun ++ []; ending = by_end }) are.0 are.3 in
    let lines : (s.since ++ []) ++ (s.begun ++ []) ≡ s.since ++ s.begun = ap (λ (os : List Outcome). os ++ (s.begun ++ [])) (append-nil s.since) ∙ ap (λ (os : List Outcome). s.since ++ os) (append-nil s.begun) in
    let is : IsMade (s.since ++ s.begun) s.made whole.making =
    subst (λ (rs : List Record). IsMade (s.since ++ s.begun) rs whole.making) (sym same.front) (subst (λ (os : List Outcome). IsMade os are.0 whole.making) lines whole.is) in
    let m : whole.making ≡ making j.part s.ticks s.moves = one_making (s.since ++ s.begun) s.made whole.making (making j.part s.ticks s.moves) is s.is_made in
    let bare : IsMade s.since s.made (making j.part s.ticks s.moves) = subst (λ (os : List Outcome). IsMade os s.made (making j.part s.ticks s.moves)) (ap (λ (os : List Outcome). s.since ++ os) (s.none_begun answered) ∙ append-nil s.since) s.is_made in
    let few : settled_ticks s.since ≤ length (ticks_among s.made) =
    both_ways (list_any raises_alarm (s.since ++ [])) _ _ (settled_ticks s.since ≤ length (ticks_among s.made)) whole.may.2
    (λ settled. subst (λ (rs : List Record). settled_ticks s.since ≤ length (ticks_among rs)) (sym same.front) (subst (λ (os : List Outcome). settled_ticks os ≤ length (ticks_among are.0)) (append-nil s.since) settled))
    (λ none. settled_made s.since s.made (entered s.since s.made (making j.part s.ticks s.moves) bare (sym (ap (λ (x : Making). x.owed) m) ∙ none))) in
    let settled = is_whole_so j.settled (settled_ticks s.since) j.part j.lost s.made (settled_are j s.since s.hand s.made s.knows (s.line.none closed.closed).none) few in
    not_so (record {
      ends = closed;
      answered = answered;
      out = sym (ap (λ (x : Making). x.coming) m) ∙ whole.may.0;
      may = subst MayStop (ap (λ (x : Making). x.latest) m) whole.may.1;
      settled = settled;
      none = λ halts.
          let calm : list_any raises_alarm (s.since ++ []) ≡ false = ap (list_any raises_alarm) (append-nil s.since) ∙ s.calm (point_halts j s.point s.hand s.line closed.done answered ∙ halts) in
          idle_by j first sent replies records s closed.done answered (sym (ap (λ (x : Making). x.owed) m) ∙ second (list_any raises_alarm (s.since ++ [])) _ _ calm whole.may.2);
    })

pub never_over : (old mid : CourseJudge)
    → ((first : State) (sent : List Sent) (replies : List Reply) (records : List Record) → HasJudged old first sent replies records → HasJudged mid first sent replies records)
    → mid.work ≡ old.work → mid.cuts ≡ old.cuts → IsClosed mid → mid.unanswered ≡ false → (MayEnd mid → ⊥) → RefusesEnd old
never_over old mid stays work cuts closed answered not_so first sent replies records s n last g =
    let here = stays first sent replies records s in
    let told : replies ≡ replies ++ (left_to_tell mid ++ []) = sym (ap (λ (rs : List Reply). replies ++ (rs ++ [])) (to_tell mid closed.done) ∙ append-nil replies) in
    let on = here.forth n [] [] (kinds.End ∷ []) last (record { late = tt; resets = λ u. absurd (let f : false ≡ true = sym answered ∙ u in cc) })
    (subst (λ (c : ℕ). GoesTo (opening first) [] [] origin (n + c) (sent ++ []) (replies ++ (left_to_tell mid ++ [])) (records ++ kinds.End ∷ []) last) (sym cuts)
    (subst (λ (ss : List Sent). GoesTo (opening first) [] [] origin (n + old.cuts) ss (replies ++ (left_to_tell mid ++ [])) (records ++ kinds.End ∷ []) last) (sym (append-nil sent))
    (subst (λ (rs : List Reply). GoesTo (opening first) [] [] origin (n + old.cuts) sent rs (records ++ kinds.End ∷ []) last) told g))) in
    never_ends mid first sent replies records here last on.course closed answered not_so on.follows on.recorded

-- ---- a line

pub none_begins_at : (j : CourseJudge) (p : Point) (hand : List Outcome) → OfLine j p hand → p.unanswered ≡ j.unanswered → j.work.left ≡ [] → (j.unanswered ≡ false → j.line.halts ≡ true) → (kept : List ℕ) (o : Outcome) → (IsPassed p kept o → ⊥) × (IsBroken p kept o → ⊥)
none_begins_at j p hand line unanswered done halts kept o = by j.unanswered refl where
  by : (u : Bool) → j.unanswered ≡ u → (IsPassed p kept o → ⊥) × (IsBroken p kept o → ⊥)
  by true u = ((λ is. absurd (let f : false ≡ true = sym is.answered ∙ unanswered ∙ u in cc)), (λ is. absurd (let f : false ≡ true = sym is.answered ∙ unanswered ∙ u in cc)))
  by false u =
      let alarmed : p.before.alarmed ≡ true = point_halts j p hand line done u ∙ halts u in
      ((λ is. absurd (let f : false ≡ true = sym is.free ∙ alarmed in cc)), (λ is. absurd (let f : false ≡ true = sym is.free ∙ alarmed in cc)))

pub none_begins : (j : CourseJudge) → j.work.left ≡ [] → (j.unanswered ≡ false → j.line.halts ≡ true) → RefusesLine j
none_begins j done halts first sent replies records s kept o = none_begins_at j s.point s.hand s.line s.unanswered done halts kept o

-- ---- a cut

-- lines more leave what is made, but for what is owed
pub record MadeWith (lines : List Outcome) (made : List Record) (m : Making) : Type 0 where
  pub making : Making
  pub is : IsMade lines made making
  pub coming : making.coming ≡ m.coming
  pub latest : making.latest ≡ m.latest

made_with : (lines more : List Outcome) (made : List Record) (m : Making) → IsMade lines made m → MadeWith (lines ++ more) made m
made_with lines [] made m is = record { making = m; is = subst (λ (os : List Outcome). IsMade os made m) (sym (append-nil lines)) is; coming = refl; latest = refl }
made_with lines (o ∷ more) made m is =
    let on = made_with (lines ++ o ∷ []) more made (with_line o m) (line_made lines made m o is) in
    record { making = on.making; is = subst (λ (os : List Outcome). IsMade os made on.making) (append_assoc lines (o ∷ []) more) on.is; coming = on.coming; latest = on.latest }

-- what is made of the answered lines has no tick of another one
untouched_by : (j : CourseJudge) (first : State) (sent : List Sent) (replies : List Reply) (records : List Record) (s : HasJudged j first sent replies records) (m : Making) → IsMade s.since s.made m → coming_of j.part.latest ≡ []
    → j.unanswered ≡ true → j.touched ≡ false
untouched_by j first sent replies records s m is out u = by j.touched refl where
  by : (b : Bool) → j.touched ≡ b → j.touched ≡ false
  by false e = e
  by true e =
      let less = (s.touched u e).behind out in
      let all : length (ticks_for_all s.since) ≡ length (ticks_among s.made) + length m.owed = ap length is.ticks ∙ length-append (ticks_among s.made) m.owed in
      absurd (omega (arith, less, all))

-- the part does not end so, where a cut is refused
pub cuts_not : (j : CourseJudge) (k : ℕ) → IsClosed j → (MayCut j k → ⊥) → CutsNot j k
cuts_not j k closed not_so first sent replies records s at is are =
    let whole = finished s.from (part_of s.since s.begun (by_cut k at)) s.made are in
    let bare : IsMade s.since s.made whole.making = subst (λ (os : List Outcome). IsMade os s.made whole.making) (append-nil s.since) whole.is in
    let with_begun = made_with s.since s.begun s.made whole.making bare in
    let m : with_begun.making ≡ making j.part s.ticks s.moves = one_making (s.since ++ s.begun) s.made with_begun.making (making j.part s.ticks s.moves) with_begun.is s.is_made in
    let out : coming_of j.part.latest ≡ [] = sym (ap (λ (x : Making). x.coming) m) ∙ with_begun.coming ∙ whole.may.0 in
    let loses : LosesJogsAlone (length (ticks_among s.made)) s.since = subst (LosesJogsAlone (length (ticks_among s.made))) (append-nil s.since) whole.may.2 in
    let code = is_whole_so j.code (ticks_to is_code s.since) j.part j.lost s.made (code_is j s.since s.hand s.made s.knows (s.line.none closed.closed).none) (jogs_to s.since (length (ticks_among s.made)) loses) in
    not_so (record {
      ends = closed;
      untouched = untouched_by j first sent replies records s whole.making bare out;
      calm = calm_line j s.point s.hand s.line closed.done is.free;
      has_line = sym s.has_line ∙ is.has_line;
      number = sym s.number ∙ is.number;
      out = out;
      may = subst MayStop (sym with_begun.latest ∙ ap (λ (x : Making). x.latest) m) whole.may.1;
      code = code;
    })

-- nor where another judge stands, who is where it is
pub cuts_not_there : (j there : CourseJudge) (k : ℕ) → StandsAsBefore j there → CutsNot there k → CutsNot j k
cuts_not_there j there k stands not_so first sent replies records s at is are =
    let t = stands first sent replies records s in
    not_so first sent replies records t.there at (subst (λ (p : Point). IsCut p k) (sym t.point) is) (recorded_there j there first sent replies records s t (by_cut k at) are)

never_cut_by : (j : CourseJudge) (k : ℕ) (first : State) (sent : List Sent) (replies : List Reply) (records : List Record) (s : HasJudged j first sent replies records) (more : List Sent) (rest : List Record) (last : Point) (ps : List Passed)
    → j.work.number ≡ k + 1 → CutsNot j k
    → Follows s.point more ps last → AreRecorded s.from (behind_lines s.since s.begun (parts_of ps)) (s.made ++ kinds.Mark (marks.Cut k) ∷ rest) → ⊥
never_cut_by j k first sent replies records s more rest last [] number not_so f are =
    let same = same_split s.made are.0 rest are.1 (kinds.Mark (marks.Cut k)) kinds.End s.is_made.inside are.3.inside refl refl are.2 in absurd (let g = same.ending in cc)
never_cut_by j k first sent replies records s more rest last (a_reset r ∷ ps) number not_so f are =
    let same = same_split s.made are.0 rest are.1 (kinds.Mark (marks.Cut k)) (kinds.Mark (marks.Reset r.number)) s.is_made.inside are.3.inside refl refl are.2 in absurd (let g = same.ending in cc)
never_cut_by j k first sent replies records s more rest last (a_line o ∷ ps) number not_so f are =
    let g = first_part s.from s.since s.begun (a_line o ∷ ps) (s.made ++ kinds.Mark (marks.Cut k) ∷ rest) are in
    let same = same_split s.made g.mine rest g.behind (kinds.Mark (marks.Cut k)) (ending_record g.part.ending) s.is_made.inside g.is.inside refl (ending_ends g.part.ending) g.split in
    let is = cut_is k g.part.ending same.ending in
    line_too_late s.point last more o ps g.part.ending f (ap first_ending g.parts) is.0 (s.number ∙ number ∙ ap (λ (m : ℕ). m + 1) (sym is.1))
never_cut_by j k first sent replies records s more rest last (a_broken o ∷ ps) number not_so f are =
    let g = first_part s.from s.since s.begun (a_broken o ∷ ps) (s.made ++ kinds.Mark (marks.Cut k) ∷ rest) are in
    let same = same_split s.made g.mine rest g.behind (kinds.Mark (marks.Cut k)) (ending_record g.part.ending) s.is_made.inside g.is.inside refl (ending_ends g.part.ending) g.split in
    let is = cut_is k g.part.ending same.ending in
    broken_too_late s.point last more o ps g.part.ending f (ap first_ending g.parts) is.0 (s.number ∙ number ∙ ap (λ (m : ℕ). m + 1) (sym is.1))
never_cut_by j k first sent replies records s more rest last (a_cut i at ∷ ps) number not_so f are =
    let same = same_split s.made are.0 rest are.1 (kinds.Mark (marks.Cut k)) (kinds.Mark (marks.Cut i)) s.is_made.inside are.3.inside refl refl are.2 in
    let number_is : i ≡ k = (let g = same.ending in cc) in
    let bare : IsRecorded s.from (part_of s.since s.begun (by_cut i at)) s.made = subst (IsRecorded s.from (part_of s.since s.begun (by_cut i at))) (sym same.front) (recorded_bare s.from s.since s.begun (by_cut i at) are.0 are.3) in
    not_so first sent replies records s at (subst (IsCut s.point) number_is f.0) (subst (λ (n : ℕ). IsRecorded s.from (part_of s.since s.begun (by_cut n at)) s.made) number_is bare)

pub never_cut : (j : CourseJudge) (k : ℕ) → CutsNot j k → k + 1 ≤ j.work.number → RefusesRecord j (kinds.Mark (marks.Cut k))
never_cut j k not_so late first sent replies records s n more told rest last may g =
    let soon : j.work.number ≤ k + 1 = may.late in
    let on = s.forth n more told (kinds.Mark (marks.Cut k) ∷ rest) last may g in
    never_cut_by j k first sent replies records s more rest last on.course (omega (arith, late, soon)) not_so on.follows on.recorded
