-- Fronts of the records that a course makes.
use Rattle.std.proofs.Common.{◌≡◌, ℕ, List, [], ◌∷◌, ◌++◌, append-nil, append_assoc, sym, refl, ap, ◌∙◌, subst, arith}
use Rattle.std.proofs.lemmas.List.{same_from_push}
use Rattle.units.specs.declared.Steps3.{Steps3}
use Rattle.flight.specs.Places.{moved_by}
use Rattle.step_line.specs.declared.Record.{Record}
use Rattle.run_rules.specs.Work.{Outcome}
use Rattle.run_texts.specs.Courses.{Passed, Reset}
use Rattle.run_texts.specs.Courses.Passed.{a_line, a_broken, a_cut, a_reset}
use Rattle.run_texts.specs.Left.{behind_lines}
use Rattle.run_texts.specs.Making.{Making, IsMade, with_line}
use Rattle.run_texts.specs.Parts.{Ending, Part, parts_of, onto_first, begun_first, ends_here, ending_record, lines_counted}
use Rattle.run_texts.specs.Parts.Ending.{by_cut, by_reset, by_end}
use Rattle.run_texts.specs.Recorded.{IsRecorded}
use Rattle.run_texts.specs.SoFar.{AreMadeSoFar}
use Rattle.run_texts.proofs.Leading.{onto_none, onto_more, onto_begun}
use Rattle.run_texts.proofs.Making.{line_made, before_record, finished}
use Rattle.run_texts.proofs.OneMaking.{split_last}

-- ---- a course has a part

pub record SomePart (ps : List Part) : Type 0 where
  pub first : Part
  pub rest : List Part
  pub is : ps ≡ first ∷ rest

pub some_part : (course : List Passed) → SomePart (parts_of course)
some_part [] = record { first = ends_here by_end; rest = []; is = refl }
some_part (a_line o ∷ ps) =
    let s = some_part ps in
    record { first = record s.first { lines = o ∷ s.first.lines }; rest = s.rest; is = ap (onto_first o) s.is }
some_part (a_broken o ∷ ps) =
    let s = some_part ps in
    record { first = record s.first { begun = o ∷ s.first.begun }; rest = s.rest; is = ap (begun_first o) s.is }
some_part (a_cut k at ∷ ps) = record { first = ends_here (by_cut k at); rest = parts_of ps; is = refl }
some_part (a_reset r ∷ ps) = record { first = ends_here (by_reset r); rest = parts_of ps; is = refl }

-- ---- a part that is ended

pub record Closed (place : Steps3) (p : Part) (ps : List Part) (records : List Record) : Type 0 where
  pub mine : List Record
  pub rest : List Record
  pub split : records ≡ mine ++ ending_record p.ending ∷ rest
  pub are : IsRecorded place p mine
  pub on : AreMadeSoFar (moved_by place mine) ps rest

pub closed : (place : Steps3) (p : Part) (ps : List Part) (records : List Record) → SomePart ps → AreMadeSoFar place (p ∷ ps) records → Closed place p ps records
closed place p ps records s all =
    let c = subst (λ (qs : List Part). AreMadeSoFar place (p ∷ qs) records) s.is all in
    record { mine = c.0; rest = c.1; split = c.2; are = c.3; on = subst (λ (qs : List Part). AreMadeSoFar (moved_by place c.0) qs c.1) (sym s.is) c.4 }

pub close : (place : Steps3) (p : Part) (ps : List Part) (records : List Record) → SomePart ps → Closed place p ps records → AreMadeSoFar place (p ∷ ps) records
close place p ps records s c =
    subst (λ (qs : List Part). AreMadeSoFar place (p ∷ qs) records) (sym s.is)
    (c.mine, c.rest, c.split, c.are, subst (λ (qs : List Part). AreMadeSoFar (moved_by place c.mine) qs c.rest) s.is c.on)

-- ---- a front

-- what is made of some lines is made of more
pub more_made : (since begun : List Outcome) (mine : List Record) (m : Making) → IsMade since mine m → (n : Making) × IsMade (since ++ begun) mine n
more_made since [] mine m is = (m, subst (λ (lines : List Outcome). IsMade lines mine m) (sym (append-nil since)) is)
more_made since (o ∷ begun) mine m is =
    let more = more_made (since ++ o ∷ []) begun mine (with_line o m) (line_made since mine m o is) in
    (more.0, subst (λ (lines : List Outcome). IsMade lines mine more.0) (append_assoc since (o ∷ []) begun) more.1)

pub record HasFront (course : List Passed) (since begun : List Outcome) (place : Steps3) (records : List Record) : Type 0 where
  pub front : List Passed
  pub later : List Passed
  pub split : course ≡ front ++ later
  pub made : AreMadeSoFar place (behind_lines since begun (parts_of front)) records

abbrev part_with : List Outcome → List Outcome → Ending → Part
part_with since begun ending = record { lines = since ++ []; begun = begun ++ []; ending = ending }

-- what is recorded of a part is made of it while it is open
opened : (since begun : List Outcome) (place : Steps3) (k : ℕ) (at : Steps3) (mine : List Record) → IsRecorded place (part_with since begun (by_cut k at)) mine
    → AreMadeSoFar place (part_with since begun by_end ∷ []) mine
opened since begun place k at mine are =
    let f = finished place (part_with since begun (by_cut k at)) mine are in
    more_made (since ++ []) (begun ++ []) mine f.making (subst (λ (lines : List Outcome). IsMade lines mine f.making) (append-nil (since ++ [])) f.is)

opened_by_reset : (since begun : List Outcome) (place : Steps3) (r : Reset) (mine : List Record) → IsRecorded place (part_with since begun (by_reset r)) mine
    → AreMadeSoFar place (part_with since begun by_end ∷ []) mine
opened_by_reset since begun place r mine are =
    let f = finished place (part_with since begun (by_reset r)) mine are in
    (f.making, f.is)

-- a cut or a reset, with what comes behind it
by_rest : (item : Passed) (ending : Ending) (ps : List Passed) (since begun : List Outcome) (place : Steps3) (records mine rest : List Record) (r : Record)
    → ((qs : List Passed) → parts_of (item ∷ qs) ≡ ends_here ending ∷ parts_of qs)
    → AreMadeSoFar place (part_with since begun by_end ∷ []) mine
    → IsRecorded place (part_with since begun ending) mine
    → records ++ r ∷ [] ≡ mine ++ ending_record ending ∷ rest
    → ((front : List Record) (last : Record) → rest ≡ front ++ last ∷ [] → HasFront ps [] [] (moved_by place mine) front)
    → HasFront (item ∷ ps) since begun place records
by_rest item ending ps since begun place records mine [] r parts unended are split again =
    let same = same_from_push records mine r (ending_record ending) split in
    record { front = []; later = item ∷ ps; split = refl; made = subst (λ (rs : List Record). AreMadeSoFar place (part_with since begun by_end ∷ []) rs) (sym same.0) unended }
by_rest item ending ps since begun place records mine (x ∷ xs) r parts unended are split again =
    let l = split_last (x ∷ xs) (omega arith) in
    let f = again l.front l.last l.is in
    let whole : records ++ r ∷ [] ≡ (mine ++ ending_record ending ∷ l.front) ++ l.last ∷ [] =
    split ∙ ap (λ (rest : List Record). mine ++ ending_record ending ∷ rest) l.is ∙ sym (append_assoc mine (ending_record ending ∷ l.front) (l.last ∷ [])) in
    let same = same_from_push records (mine ++ ending_record ending ∷ l.front) r l.last whole in
    let on : AreMadeSoFar (moved_by place mine) (parts_of f.front) l.front = subst (λ (qs : List Part). AreMadeSoFar (moved_by place mine) qs l.front) (onto_none (parts_of f.front)) f.made in
    let made : AreMadeSoFar place (part_with since begun ending ∷ parts_of f.front) records =
    close place (part_with since begun ending) (parts_of f.front) records (some_part f.front) (record { mine = mine; rest = l.front; split = same.0; are = are; on = on }) in
    record {
      front = item ∷ f.front;
      later = f.later;
      split = ap (λ (qs : List Passed). item ∷ qs) f.split;
      made = subst (λ (qs : List Part). AreMadeSoFar place (behind_lines since begun qs) records) (sym (parts f.front)) made;
    }

-- The records of a course but the last are made by a front of it.
pub front_made : (course : List Passed) (since begun : List Outcome) (place : Steps3) (records : List Record) (r : Record)
    → AreMadeSoFar place (behind_lines since begun (parts_of course)) (records ++ r ∷ []) → HasFront course since begun place records
front_made [] since begun place records r all =
    let b = before_record (lines_counted (part_with since begun by_end)) records r all.0 all.1 in
    record { front = []; later = []; split = refl; made = (b.before, b.is) }
front_made (a_line o ∷ ps) since begun place records r all =
    let f = front_made ps (since ++ o ∷ []) begun place records r (subst (λ (qs : List Part). AreMadeSoFar place qs (records ++ r ∷ [])) (onto_more since begun o (parts_of ps)) all) in
    record {
      front = a_line o ∷ f.front;
      later = f.later;
      split = ap (λ (qs : List Passed). a_line o ∷ qs) f.split;
      made = subst (λ (qs : List Part). AreMadeSoFar place qs records) (sym (onto_more since begun o (parts_of f.front))) f.made;
    }
front_made (a_broken o ∷ ps) since begun place records r all =
    let f = front_made ps since (begun ++ o ∷ []) place records r (subst (λ (qs : List Part). AreMadeSoFar place qs (records ++ r ∷ [])) (onto_begun since begun o (parts_of ps)) all) in
    record {
      front = a_broken o ∷ f.front;
      later = f.later;
      split = ap (λ (qs : List Passed). a_broken o ∷ qs) f.split;
      made = subst (λ (qs : List Part). AreMadeSoFar place qs records) (sym (onto_begun since begun o (parts_of f.front))) f.made;
    }
front_made (a_cut k at ∷ ps) since begun place records r all =
    let c = closed place (part_with since begun (by_cut k at)) (parts_of ps) (records ++ r ∷ []) (some_part ps) all in
    by_rest (a_cut k at) (by_cut k at) ps since begun place records c.mine c.rest r (λ qs. refl) (opened since begun place k at c.mine c.are) c.are c.split
    (λ front last is. front_made ps [] [] (moved_by place c.mine) front last
    (subst (λ (rs : List Record). AreMadeSoFar (moved_by place c.mine) (behind_lines [] [] (parts_of ps)) rs) is
    (subst (λ (qs : List Part). AreMadeSoFar (moved_by place c.mine) qs c.rest) (sym (onto_none (parts_of ps))) c.on)))
front_made (a_reset x ∷ ps) since begun place records r all =
    let c = closed place (part_with since begun (by_reset x)) (parts_of ps) (records ++ r ∷ []) (some_part ps) all in
    by_rest (a_reset x) (by_reset x) ps since begun place records c.mine c.rest r (λ qs. refl) (opened_by_reset since begun place x c.mine c.are) c.are c.split
    (λ front last is. front_made ps [] [] (moved_by place c.mine) front last
    (subst (λ (rs : List Record). AreMadeSoFar (moved_by place c.mine) (behind_lines [] [] (parts_of ps)) rs) is
    (subst (λ (qs : List Part). AreMadeSoFar (moved_by place c.mine) qs c.rest) (sym (onto_none (parts_of ps))) c.on)))
