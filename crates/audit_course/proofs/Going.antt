-- What goes on from a point, goes on from the one before it.
use Rattle.std.proofs.Common.{ℕ, ◌+◌, List, [], ◌∷◌, ◌++◌, sym, refl, ap, subst, append-nil, arith}
use Rattle.units.specs.declared.Steps3.{Steps3}
use Rattle.status_report.specs.declared.Reply.{Reply}
use Rattle.step_line.specs.declared.Record.{Record}
use Rattle.step_line.specs.declared.Record.TheVariants as kinds
use Rattle.run_rules.specs.Work.{Outcome, tells}
use Rattle.run_texts.specs.Courses.{Reset, IsCut, IsReset, IsLeft, behind_cut, behind_the_reset}
use Rattle.run_texts.specs.Courses.Passed.{a_line, a_broken, a_cut, a_reset}
use Rattle.run_texts.specs.Left.{part_of}
use Rattle.run_texts.specs.Parts.{Ending, Part, parts_of, ending_record}
use Rattle.run_texts.specs.Parts.Ending.{by_cut, by_reset, by_end}
use Rattle.run_texts.specs.Points.{Point, IsPassed, IsBroken, behind_line, behind_broken}
use Rattle.run_texts.specs.Recorded.{IsRecorded, AreRecorded}
use Rattle.run_texts.specs.Sent.{Sent, behind_reset}
use Rattle.run_texts.specs.Sent.Sent.{a_text}
use Rattle.run_texts.specs.Told.{told_at_reset}
use Rattle.run_texts.proofs.Leading.{onto_none, onto_more, onto_begun}
use Rattle.run_texts.proofs.Left.{recorded_again}
use Rattle.audit_course.specs.SoFar.{GoesTo}

-- a part that no line was added to
pub recorded_bare : (place : Steps3) (since begun : List Outcome) (ending : Ending) (mine : List Record) → IsRecorded place (part_of (since ++ []) (begun ++ []) ending) mine → IsRecorded place (part_of since begun ending) mine
recorded_bare place since begun ending mine are =
    subst (λ (lines : List Outcome). IsRecorded place (part_of since lines ending) mine) (append-nil begun)
    (subst (λ (lines : List Outcome). IsRecorded place (part_of lines (begun ++ []) ending) mine) (append-nil since) are)

pub by_line : (p last : Point) (since begun : List Outcome) (place : Steps3) (cuts : ℕ) (kept : List ℕ) (o : Outcome) (more : List Sent) (told : List Reply) (records : List Record)
    → IsPassed p kept o → GoesTo (behind_line p kept o) (since ++ o ∷ []) begun place cuts more told records last → GoesTo p since begun place cuts (a_text kept ∷ more) (tells o.work ++ told) records last
by_line p last since begun place cuts kept o more told records is on = record {
  course = a_line o ∷ on.course;
  follows = (is, on.follows);
  told = ap (λ (rs : List Reply). tells o.work ++ rs) on.told;
  recorded = subst (λ (qs : List Part). AreRecorded place qs records) (sym (onto_more since begun o (parts_of on.course))) on.recorded;
  few = on.few;
}

pub by_broken : (p last : Point) (since begun : List Outcome) (place : Steps3) (cuts : ℕ) (kept : List ℕ) (o : Outcome) (more : List Sent) (told : List Reply) (records : List Record)
    → IsBroken p kept o → GoesTo (behind_broken p o) since (begun ++ o ∷ []) place cuts more told records last → GoesTo p since begun place cuts (a_text kept ∷ more) told records last
by_broken p last since begun place cuts kept o more told records is on = record {
  course = a_broken o ∷ on.course;
  follows = (is, on.follows);
  told = on.told;
  recorded = subst (λ (qs : List Part). AreRecorded place qs records) (sym (onto_begun since begun o (parts_of on.course))) on.recorded;
  few = on.few;
}

pub by_a_cut : (p last : Point) (since begun : List Outcome) (place : Steps3) (cuts k : ℕ) (at : Steps3) (more : List Sent) (told : List Reply) (mine rest : List Record)
    → IsCut p k → IsRecorded place (part_of since begun (by_cut k at)) mine → GoesTo (behind_cut at p) [] [] at cuts more told rest last
    → GoesTo p since begun place (cuts + 1) more told (mine ++ ending_record (by_cut k at) ∷ rest) last
by_a_cut p last since begun place cuts k at more told mine rest is are on = record {
  course = a_cut k at ∷ on.course;
  follows = (is, on.follows);
  told = on.told;
  recorded = (
    mine,
    rest,
    refl,
    recorded_again place since begun (by_cut k at) mine are,
    subst (λ (x : Steps3). AreRecorded x (parts_of on.course) rest) are.stands (subst (λ (qs : List Part). AreRecorded at qs rest) (onto_none (parts_of on.course)) on.recorded),
  );
  few = (let some = on.few in omega (arith, some));
}

pub by_a_reset : (p last : Point) (since begun : List Outcome) (place : Steps3) (cuts : ℕ) (r : Reset) (sent : List Sent) (told : List Reply) (mine rest : List Record)
    → IsReset p sent r → IsRecorded place (part_of since begun (by_reset r)) mine → GoesTo (behind_the_reset r p) [] [] r.at cuts (behind_reset sent) told rest last
    → GoesTo p since begun place cuts sent (told_at_reset r ++ told) (mine ++ ending_record (by_reset r) ∷ rest) last
by_a_reset p last since begun place cuts r sent told mine rest is are on = record {
  course = a_reset r ∷ on.course;
  follows = (is, on.follows);
  told = ap (λ (rs : List Reply). told_at_reset r ++ rs) on.told;
  recorded = (
    mine,
    rest,
    refl,
    recorded_again place since begun (by_reset r) mine are,
    subst (λ (x : Steps3). AreRecorded x (parts_of on.course) rest) are.stands (subst (λ (qs : List Part). AreRecorded r.at qs rest) (onto_none (parts_of on.course)) on.recorded),
  );
  few = on.few;
}

pub at_end : (p : Point) (since begun : List Outcome) (place : Steps3) (cuts : ℕ) (mine : List Record)
    → IsLeft p [] → IsRecorded place (part_of since begun by_end) mine → GoesTo p since begun place cuts [] [] (mine ++ kinds.End ∷ []) p
at_end p since begun place cuts mine left are = record {
  course = [];
  follows = (refl, left);
  told = refl;
  recorded = (mine, [], refl, recorded_again place since begun by_end mine are, refl);
  few = omega arith;
}
