-- The records of a course end with the end, which comes once.
use Rattle.std.proofs.Common.{◌≡◌, true, false, List, [], ◌∷◌, ◌++◌, refl, sym, ap, ◌∙◌, append_assoc}
use Rattle.std.specs.List.{AllByRecursion}
use Rattle.std.proofs.lemmas.List.Elements.{All-from_recursion, recursion_from_All}
use Rattle.units.specs.declared.Steps3.{Steps3}
use Rattle.flight.specs.Places.{moved_by}
use Rattle.run_rules.specs.Work.{Outcome}
use Rattle.run_texts.specs.Courses.{Passed}
use Rattle.run_texts.specs.Courses.Passed.{a_line, a_broken, a_cut, a_reset}
use Rattle.run_texts.specs.Parts.{Ending, Part, parts_of, ends_here, onto_first, begun_first, ending_record, is_ending}
use Rattle.run_texts.specs.Parts.Ending.{by_cut, by_reset, by_end}
use Rattle.run_texts.specs.Recorded.{AreRecorded}
use Rattle.step_line.specs.Ending.{IsEnded}
use Rattle.step_line.specs.declared.Record.{Record}
use Rattle.step_line.specs.declared.Record.TheVariants as kinds

abbrev NotEnd : Record → Type 0
NotEnd r = r ≡ kinds.End → ⊥

-- a part that goes on is ended by a mark
abbrev ByMark : Ending → Type 0
ByMark (by_cut k at) = Unit {0}
ByMark (by_reset r) = Unit {0}
ByMark by_end = ⊥

-- the last part, and no other, is ended by the end
abbrev pub OneEnd : List Part → Type 0
OneEnd [] = ⊥
OneEnd (p ∷ []) = p.ending ≡ by_end
OneEnd (p ∷ q ∷ ps) = ByMark p.ending × OneEnd (q ∷ ps)

onto_ends : (o : Outcome) (ps : List Part) → OneEnd ps → OneEnd (onto_first o ps)
onto_ends o [] e = e
onto_ends o (p ∷ []) e = e
onto_ends o (p ∷ q ∷ ps) e = e

begun_ends : (o : Outcome) (ps : List Part) → OneEnd ps → OneEnd (begun_first o ps)
begun_ends o [] e = e
begun_ends o (p ∷ []) e = e
begun_ends o (p ∷ q ∷ ps) e = e

mark_ends : (p : Part) (ps : List Part) → ByMark p.ending → OneEnd ps → OneEnd (p ∷ ps)
mark_ends p [] m e = absurd e
mark_ends p (q ∷ ps) m e = (m, e)

pub one_end : (ps : List Passed) → OneEnd (parts_of ps)
one_end [] = refl
one_end (a_line o ∷ ps) = onto_ends o (parts_of ps) (one_end ps)
one_end (a_broken o ∷ ps) = begun_ends o (parts_of ps) (one_end ps)
one_end (a_cut k at ∷ ps) = mark_ends (ends_here (by_cut k at)) (parts_of ps) tt (one_end ps)
one_end (a_reset r ∷ ps) = mark_ends (ends_here (by_reset r)) (parts_of ps) tt (one_end ps)

-- ---- records

no_end_of : (r : Record) → is_ending r ≡ false → NotEnd r
no_end_of r inside e = absurd (let f : true ≡ false = sym (ap is_ending e) ∙ inside in cc)

inside_none : (rs : List Record) → AllByRecursion (λ r. is_ending r ≡ false) rs → AllByRecursion NotEnd rs
inside_none [] all = tt
inside_none (r ∷ rs) all = (no_end_of r all.0, inside_none rs all.1)

none_on : (rs ss : List Record) → AllByRecursion NotEnd rs → AllByRecursion NotEnd ss → AllByRecursion NotEnd (rs ++ ss)
none_on [] ss a b = b
none_on (r ∷ rs) ss a b = (a.0, none_on rs ss a.1 b)

mark_none : (ending : Ending) → ByMark ending → NotEnd (ending_record ending)
mark_none (by_cut k at) m = λ e. absurd cc
mark_none (by_reset r) m = λ e. absurd cc
mark_none by_end m = absurd m

pub all_ended : (ps : List Part) (place : Steps3) (records : List Record) → OneEnd ps → AreRecorded place ps records → IsEnded records
all_ended [] place records one are = absurd one
all_ended (p ∷ []) place records one are = record {
  front = are.0;
  last = are.2 ∙ ap (λ (x : Ending). are.0 ++ ending_record x ∷ are.1) one ∙ ap (λ (rs : List Record). are.0 ++ kinds.End ∷ rs) are.4;
  once = All-from_recursion NotEnd are.0 (inside_none are.0 are.3.inside);
}
all_ended (p ∷ q ∷ ps) place records one are =
    let rest = all_ended (q ∷ ps) (moved_by place are.0) are.1 one.1 are.4 in
    record {
      front = are.0 ++ ending_record p.ending ∷ rest.front;
      last = are.2 ∙ ap (λ (rs : List Record). are.0 ++ ending_record p.ending ∷ rs) rest.last ∙ sym (append_assoc are.0 (ending_record p.ending ∷ rest.front) (kinds.End ∷ []));
      once = All-from_recursion NotEnd (are.0 ++ ending_record p.ending ∷ rest.front)
          (none_on are.0 (ending_record p.ending ∷ rest.front) (inside_none are.0 are.3.inside) (mark_none p.ending one.0, recursion_from_All NotEnd rest.front rest.once));
    }
