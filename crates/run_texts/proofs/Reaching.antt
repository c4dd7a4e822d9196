-- By which course a point is reached: it goes on item by item.
use Rattle.std.proofs.Common.{◌≡◌, ℕ, List, [], ◌∷◌, ◌++◌, append-nil, append_assoc, refl, sym, ap, ◌∙◌, subst}
use Rattle.std.proofs.lemmas.Grind.{flat_map-append}
use Rattle.units.specs.declared.Steps3.{Steps3}
use Rattle.flight.specs.Places.{moved_by, origin}
use Rattle.status_report.specs.declared.Reply.{Reply}
use Rattle.step_line.specs.declared.Record.{Record}
use Rattle.run_rules.specs.declared.State.{State}
use Rattle.run_rules.specs.Work.{Outcome, tells}
use Rattle.run_texts.specs.Courses.{Passed, Reset, IsCut, IsReset, behind_cut, behind_the_reset}
use Rattle.run_texts.specs.Courses.Passed.{a_line, a_broken, a_cut, a_reset}
use Rattle.run_texts.specs.Left.{behind_lines, part_of}
use Rattle.run_texts.specs.Parts.{Ending, Part, parts_of, ends_here, ending_record}
use Rattle.run_texts.specs.Parts.Ending.{by_cut, by_reset}
use Rattle.run_texts.specs.Points.{Point, IsPassed, IsBroken, behind_line, behind_broken, opening}
use Rattle.run_texts.specs.Recorded.{IsRecorded}
use Rattle.run_texts.specs.Sent.{Sent, behind_reset}
use Rattle.run_texts.specs.Sent.Sent.{a_text}
use Rattle.run_texts.specs.SoFar.{LeadsTo, AreMadeSoFar, Reaches}
use Rattle.run_texts.specs.Told.{told_of, told_in, told_at_reset}
use Rattle.run_texts.proofs.Leading.{onto_none, onto_more, onto_begun}
use Rattle.run_texts.proofs.Left.{recorded_again}
use Rattle.run_texts.proofs.SoFar.{EndAtEnd, leads_on, leads_with_more, parts_end}
use Rattle.run_texts.proofs.Stops.{Inside, is_an_ending, same_split}

-- ---- a part that is ended

-- the parts behind it make what its own record is followed by
before_others : (place : Steps3) (p : Part) (ps : List Part) (mine rest : List Record) → EndAtEnd ps → IsRecorded place p mine → AreMadeSoFar (moved_by place mine) ps rest
    → AreMadeSoFar place (p ∷ ps) (mine ++ ending_record p.ending ∷ rest)
before_others place p [] mine rest ends is on = absurd ends
before_others place p (q ∷ ps) mine rest ends is on = (mine, rest, refl, is, on)

others_behind : (place : Steps3) (p : Part) (ps : List Part) (mine rest : List Record) → EndAtEnd ps → Inside mine → AreMadeSoFar place (p ∷ ps) (mine ++ ending_record p.ending ∷ rest)
    → AreMadeSoFar (moved_by place mine) ps rest
others_behind place p [] mine rest ends inside all = absurd ends
others_behind place p (q ∷ ps) mine rest ends inside all =
    let same = same_split mine all.0 rest all.1 (ending_record p.ending) (ending_record p.ending) inside all.3.inside (is_an_ending p.ending) (is_an_ending p.ending) all.2 in
    subst (λ (rs : List Record). AreMadeSoFar (moved_by place rs) (q ∷ ps) rest) (sym same.front)
    (subst (λ (rs : List Record). AreMadeSoFar (moved_by place all.0) (q ∷ ps) rs) (sym same.back) all.4)

ended_makes : (place at : Steps3) (since begun : List Outcome) (e : Ending) (made : List Record) → IsRecorded place (part_of since begun e) made → at ≡ moved_by place made
    → (qs : List Passed) (rest : List Record) → AreMadeSoFar at (behind_lines [] [] (parts_of qs)) rest → AreMadeSoFar place (behind_lines since begun (ends_here e ∷ parts_of qs)) (made ++ ending_record e ∷ rest)
ended_makes place at since begun e made is there qs rest on =
    before_others place (part_of (since ++ []) (begun ++ []) e) (parts_of qs) made rest (parts_end qs) (recorded_again place since begun e made is)
    (subst (λ (x : Steps3). AreMadeSoFar x (parts_of qs) rest) there (subst (λ (ps : List Part). AreMadeSoFar at ps rest) (onto_none (parts_of qs)) on))

ended_only : (place at : Steps3) (since begun : List Outcome) (e : Ending) (made : List Record) → IsRecorded place (part_of since begun e) made → at ≡ moved_by place made
    → (qs : List Passed) (rest : List Record) → AreMadeSoFar place (behind_lines since begun (ends_here e ∷ parts_of qs)) (made ++ ending_record e ∷ rest) → AreMadeSoFar at (behind_lines [] [] (parts_of qs)) rest
ended_only place at since begun e made is there qs rest all =
    subst (λ (ps : List Part). AreMadeSoFar at ps rest) (sym (onto_none (parts_of qs)))
    (subst (λ (x : Steps3). AreMadeSoFar x (parts_of qs) rest) (sym there)
    (others_behind place (part_of (since ++ []) (begun ++ []) e) (parts_of qs) made rest (parts_end qs) is.inside all))

-- ---- item by item

pub reaches_opening : (first : State) → Reaches first [] [] [] (opening first) [] [] origin []
reaches_opening first = record {
  course = [];
  leads = (refl, refl);
  tells = refl;
  makes = λ qs rest on. subst (λ (ps : List Part). AreMadeSoFar origin ps rest) (onto_none (parts_of qs)) on;
  only = λ qs rest all. subst (λ (ps : List Part). AreMadeSoFar origin ps rest) (sym (onto_none (parts_of qs))) all;
}

-- An item more: the part makes with it and others what is made from then on.
reaches_by : (first : State) (sent more : List Sent) (told : List Reply) (records others : List Record) (p q : Point) (since begun lines hand : List Outcome) (place there : Steps3) (made here : List Record) (item : Passed)
    → Reaches first sent told records p since begun place made → LeadsTo p more (item ∷ []) q []
    → ((qs : List Passed) (rest : List Record) → AreMadeSoFar there (behind_lines lines hand (parts_of qs)) (here ++ rest) → AreMadeSoFar place (behind_lines since begun (parts_of (item ∷ qs))) (made ++ (others ++ rest)))
    → ((qs : List Passed) (rest : List Record) → AreMadeSoFar place (behind_lines since begun (parts_of (item ∷ qs))) (made ++ (others ++ rest)) → AreMadeSoFar there (behind_lines lines hand (parts_of qs)) (here ++ rest))
    → Reaches first (sent ++ more) (told ++ told_of item) (records ++ others) q lines hand there here
reaches_by first sent more told records others p q since begun lines hand place there made here item r leads makes only = record {
  course = r.course ++ item ∷ [];
  leads = leads_on (opening first) p q (sent ++ more) more [] r.course (item ∷ []) (leads_with_more (opening first) p sent [] more r.course r.leads) leads;
  tells = flat_map-append told_of r.course (item ∷ []) ∙ ap (λ (rs : List Reply). rs ++ told_in (item ∷ [])) r.tells ∙ ap (λ (rs : List Reply). told ++ rs) (append-nil (told_of item));
  makes = λ qs rest on.
      subst (λ (ps : List Passed). AreMadeSoFar origin (parts_of ps) ((records ++ others) ++ rest)) (sym (append_assoc r.course (item ∷ []) qs))
      (subst (λ (rs : List Record). AreMadeSoFar origin (parts_of (r.course ++ item ∷ qs)) rs) (sym (append_assoc records others rest)) (r.makes (item ∷ qs) (others ++ rest) (makes qs rest on)));
  only = λ qs rest all.
      only qs rest (r.only (item ∷ qs) (others ++ rest)
      (subst (λ (rs : List Record). AreMadeSoFar origin (parts_of (r.course ++ item ∷ qs)) rs) (append_assoc records others rest)
      (subst (λ (ps : List Passed). AreMadeSoFar origin (parts_of ps) ((records ++ others) ++ rest)) (append_assoc r.course (item ∷ []) qs) all)));
}

-- a line, which is answered
pub reaches_line : (first : State) (sent : List Sent) (told : List Reply) (records : List Record) (p : Point) (since begun : List Outcome) (place : Steps3) (made : List Record) (kept : List ℕ) (o : Outcome)
    → Reaches first sent told records p since begun place made → IsPassed p kept o
    → Reaches first (sent ++ a_text kept ∷ []) (told ++ tells o.work) records (behind_line p kept o) (since ++ o ∷ []) begun place made
reaches_line first sent told records p since begun place made kept o r is =
    subst (λ (rs : List Record). Reaches first (sent ++ a_text kept ∷ []) (told ++ tells o.work) rs (behind_line p kept o) (since ++ o ∷ []) begun place made) (append-nil records)
    (reaches_by first sent (a_text kept ∷ []) told records [] p (behind_line p kept o) since begun (since ++ o ∷ []) begun place place made made (a_line o) r (is, (refl, refl))
    (λ qs rest. subst (λ (ps : List Part). AreMadeSoFar place ps (made ++ rest)) (sym (onto_more since begun o (parts_of qs))))
    (λ qs rest. subst (λ (ps : List Part). AreMadeSoFar place ps (made ++ rest)) (onto_more since begun o (parts_of qs))))

-- a line that is begun, and not answered
pub reaches_broken : (first : State) (sent : List Sent) (told : List Reply) (records : List Record) (p : Point) (since begun : List Outcome) (place : Steps3) (made : List Record) (kept : List ℕ) (o : Outcome)
    → Reaches first sent told records p since begun place made → IsBroken p kept o
    → Reaches first (sent ++ a_text kept ∷ []) told records (behind_broken p o) since (begun ++ o ∷ []) place made
reaches_broken first sent told records p since begun place made kept o r is =
    subst (λ (rs : List Record). Reaches first (sent ++ a_text kept ∷ []) told rs (behind_broken p o) since (begun ++ o ∷ []) place made) (append-nil records)
    (subst (λ (rs : List Reply). Reaches first (sent ++ a_text kept ∷ []) rs (records ++ []) (behind_broken p o) since (begun ++ o ∷ []) place made) (append-nil told)
    (reaches_by first sent (a_text kept ∷ []) told records [] p (behind_broken p o) since begun since (begun ++ o ∷ []) place place made made (a_broken o) r (is, (refl, refl))
    (λ qs rest. subst (λ (ps : List Part). AreMadeSoFar place ps (made ++ rest)) (sym (onto_begun since begun o (parts_of qs))))
    (λ qs rest. subst (λ (ps : List Part). AreMadeSoFar place ps (made ++ rest)) (onto_begun since begun o (parts_of qs)))))

-- a record of the part
pub reaches_record : (first : State) (sent : List Sent) (told : List Reply) (records : List Record) (p : Point) (since begun : List Outcome) (place : Steps3) (made : List Record) (next : Record)
    → Reaches first sent told records p since begun place made → Reaches first sent told (records ++ next ∷ []) p since begun place (made ++ next ∷ [])
reaches_record first sent told records p since begun place made next r = record {
  course = r.course;
  leads = r.leads;
  tells = r.tells;
  makes = λ qs rest on.
      subst (λ (rs : List Record). AreMadeSoFar origin (parts_of (r.course ++ qs)) rs) (sym (append_assoc records (next ∷ []) rest))
      (r.makes qs (next ∷ rest) (subst (λ (rs : List Record). AreMadeSoFar place (behind_lines since begun (parts_of qs)) rs) (append_assoc made (next ∷ []) rest) on));
  only = λ qs rest all.
      subst (λ (rs : List Record). AreMadeSoFar place (behind_lines since begun (parts_of qs)) rs) (sym (append_assoc made (next ∷ []) rest))
      (r.only qs (next ∷ rest) (subst (λ (rs : List Record). AreMadeSoFar origin (parts_of (r.course ++ qs)) rs) (append_assoc records (next ∷ []) rest) all));
}

-- a cut, and its mark
pub reaches_cut : (first : State) (sent : List Sent) (told : List Reply) (records : List Record) (p : Point) (since begun : List Outcome) (place : Steps3) (made : List Record) (k : ℕ) (at : Steps3)
    → Reaches first sent told records p since begun place made → IsCut p k → IsRecorded place (part_of since begun (by_cut k at)) made
    → Reaches first sent told (records ++ ending_record (by_cut k at) ∷ []) (behind_cut at p) [] [] at []
reaches_cut first sent told records p since begun place made k at r is are =
    subst (λ (ss : List Sent). Reaches first ss told (records ++ ending_record (by_cut k at) ∷ []) (behind_cut at p) [] [] at []) (append-nil sent)
    (subst (λ (rs : List Reply). Reaches first (sent ++ []) rs (records ++ ending_record (by_cut k at) ∷ []) (behind_cut at p) [] [] at []) (append-nil told)
    (reaches_by first sent [] told records (ending_record (by_cut k at) ∷ []) p (behind_cut at p) since begun [] [] place at made [] (a_cut k at) r (is, (refl, refl))
    (ended_makes place at since begun (by_cut k at) made are are.stands) (ended_only place at since begun (by_cut k at) made are are.stands)))

-- a reset, behind which nothing more is sent, and its mark
pub reaches_reset : (first : State) (sent more : List Sent) (told : List Reply) (records : List Record) (p : Point) (since begun : List Outcome) (place : Steps3) (made : List Record) (u : Reset)
    → Reaches first sent told records p since begun place made → IsReset p more u → behind_reset more ≡ [] → IsRecorded place (part_of since begun (by_reset u)) made
    → Reaches first (sent ++ more) (told ++ told_at_reset u) (records ++ ending_record (by_reset u) ∷ []) (behind_the_reset u p) [] [] u.at []
reaches_reset first sent more told records p since begun place made u r is none are =
    reaches_by first sent more told records (ending_record (by_reset u) ∷ []) p (behind_the_reset u p) since begun [] [] place u.at made [] (a_reset u) r (is, (refl, sym none))
    (ended_makes place u.at since begun (by_reset u) made are are.stands) (ended_only place u.at since begun (by_reset u) made are are.stands)
