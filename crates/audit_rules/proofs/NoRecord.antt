-- No record stands behind those of a course where a console tells nothing that may come.
use Rattle.std.proofs.Common.{◌≡◌, ◌≤◌, ℕ, ◌+◌, List, [], ◌∷◌, ◌++◌, true, false, Bool, nat_le, leb-true, leb-false, refl, sym, ap, ◌∙◌, subst, arith}
use Rattle.step_line.specs.declared.Mark.TheVariants as marks
use Rattle.step_line.specs.declared.Record.{Record}
use Rattle.step_line.specs.declared.Record.TheVariants as kinds
use Rattle.run_rules.specs.Work.{Outcome, tells}
use Rattle.run_texts.specs.Courses.{Passed, Reset, IsReset, behind_cut}
use Rattle.run_texts.specs.Courses.Passed.{a_line, a_broken, a_cut, a_reset}
use Rattle.run_texts.specs.Parts.{is_ending}
use Rattle.run_texts.specs.Points.{Point, IsBroken, behind_broken}
use Rattle.run_texts.specs.Sent.{Sent}
use Rattle.run_texts.specs.Sent.Sent.{a_text, a_stop}
use Rattle.run_texts.specs.SoFar.{LeadsTo}
use Rattle.run_texts.specs.Told.{told_in, told_at_reset}
use Rattle.audit_rules.specs.Consoles.{TellsNext}
use Rattle.audit_rules.specs.Onward.{HasCome, StandsBehind, TellsNothing, IsOfLater, begins_with_line}
use Rattle.audit_rules.specs.Standing.{MayWait, Stand}
use Rattle.audit_rules.proofs.Behind.{line_comes}
use Rattle.audit_rules.proofs.BehindStops.{cut_later, reset_here, reset_later}
use Rattle.audit_rules.proofs.Fitting.{no_end}
use Rattle.audit_rules.proofs.NoFurther.{first_half, no_reports}
use Rattle.audit_rules.proofs.OneWay.{both}

-- ---- a line that waits for a reset

-- A line was begun and is not answered, and cuts may have come since: what a reset may be there it may be behind the line.
abbrev WaitsLike : Point → Point → Type 0
WaitsLike w q = (w.unanswered ≡ true) × ((left : List Sent) (r : Reset) → IsReset w left r → IsReset q left r)

-- a reset comes then, and is told
none_waits : (p : Point) (left : List Sent) (rest : List ℕ) (n : TellsNothing p left rest) (kept : List ℕ) (more : List Sent) (o : Outcome) → left ≡ a_text kept ∷ more → IsBroken p kept o
    → (w q : Point) (gone : List Sent) (later : List ℕ) (ps : List Passed) → WaitsLike w (behind_broken p o) → LeadsTo w more ps q gone → TellsNext rest (told_in ps) later → MayWait q gone later → ⊥
none_waits p left rest n kept more o is broken w q gone later [] like f told waits =
    let r = waits (ap (λ (x : Point). x.unanswered) f.0 ∙ like.0) in
    let same = no_reports p left rest later told.replies n told.text told.each told.are in
    let at : IsReset w more r.reset = subst (λ (ss : List Sent). IsReset w ss r.reset) f.1 (subst (λ (x : Point). IsReset x gone r.reset) f.0 r.is) in
    n.reset.behind kept more o r.reset r.later is broken (like.1 more r.reset at) (subst (λ (text : List ℕ). TellsNext text (told_at_reset r.reset) r.later) (sym same) r.tells)
none_waits p left rest n kept more o is broken w q gone later (a_cut k at ∷ ps) like f told waits =
    none_waits p left rest n kept more o is broken (behind_cut at w) q gone later ps
    (like.0, λ ss r at. like.1 ss r (record { free = at.free; comes = at.comes; number = at.number; dropped = at.dropped; cause = at.cause; locked = at.locked })) f.1 told waits
none_waits p left rest n kept more o is broken w q gone later (a_reset r ∷ ps) like f told waits =
    let t = first_half rest (told_at_reset r) (told_in ps) later told in n.reset.behind kept more o r t.0 is broken (like.1 more r f.0) t.1
none_waits p left rest n kept [] o is broken w q gone later (a_line u ∷ ps) like f told waits = f
none_waits p left rest n kept (a_stop ∷ more) o is broken w q gone later (a_line u ∷ ps) like f told waits = f
none_waits p left rest n kept (a_text line ∷ more) o is broken w q gone later (a_line u ∷ ps) like f told waits = both w.unanswered like.0 f.0.answered
none_waits p left rest n kept [] o is broken w q gone later (a_broken u ∷ ps) like f told waits = f
none_waits p left rest n kept (a_stop ∷ more) o is broken w q gone later (a_broken u ∷ ps) like f told waits = f
none_waits p left rest n kept (a_text line ∷ more) o is broken w q gone later (a_broken u ∷ ps) like f told waits = both w.unanswered like.0 f.0.answered

-- ---- a line

no_line : (p : Point) (left : List Sent) (rest : List ℕ) (n : TellsNothing p left rest) (q : Point) (gone : List Sent) (later : List ℕ) (ps : List Passed)
    → begins_with_line ps ≡ true → LeadsTo p left ps q gone → TellsNext rest (told_in ps) later → MayWait q gone later → ⊥
no_line p left rest n q gone later [] begins f told waits = cc
no_line p left rest n q gone later (a_cut k at ∷ ps) begins f told waits = cc
no_line p left rest n q gone later (a_reset r ∷ ps) begins f told waits = cc
no_line p [] rest n q gone later (a_line o ∷ ps) begins f told waits = f
no_line p (a_stop ∷ left) rest n q gone later (a_line o ∷ ps) begins f told waits = f
no_line p (a_text kept ∷ left) rest n q gone later (a_line o ∷ ps) begins f told waits =
    let t = first_half rest (tells o.work) (told_in ps) later told in n.line kept left o t.0 refl f.0 t.1
no_line p [] rest n q gone later (a_broken o ∷ ps) begins f told waits = f
no_line p (a_stop ∷ left) rest n q gone later (a_broken o ∷ ps) begins f told waits = f
no_line p (a_text kept ∷ left) rest n q gone later (a_broken o ∷ ps) begins f told waits =
    none_waits p (a_text kept ∷ left) rest n kept left o refl f.0 (behind_broken p o) q gone later ps (refl, λ ss r at. at) f.1 told waits

stands_not : (p : Point) (left : List Sent) (rest : List ℕ) (n : TellsNothing p left rest) (course : List Passed) (records : List Record) (b : StandsBehind course p left rest records) → begins_with_line b.more ≡ true → ⊥
stands_not p left rest n course records b begins = no_line p left rest n b.point b.waiting b.later b.more begins b.leads b.tells b.waits

-- ---- no record

module _ (sent : List Sent) (console : List ℕ) (records made : List Record) (since begun : List Outcome) (c : HasCome sent console records since begun made) (n : TellsNothing c.point c.left c.rest) where
  of_line : (r : Record) → is_ending r ≡ false → c.making.owed ≡ [] → Stand sent console (records ++ r ∷ []) → ⊥
  of_line r inside none s = let b = line_comes sent console records [] made since begun r c none inside s in stands_not c.point c.left c.rest n c.reached.course (records ++ r ∷ []) b.0 b.1

  of_reset : (k : ℕ) → c.point.before.number ≤ k + 1 → Stand sent console (records ++ kinds.Mark (marks.Reset k) ∷ []) → ⊥
  of_reset k few s = by (nat_le c.point.before.number k) refl where
    by : (b : Bool) → nat_le c.point.before.number k ≡ b → ⊥
    by true e = let b = reset_later sent console records [] made since begun k c (leb-true c.point.before.number k e) s in stands_not c.point c.left c.rest n c.reached.course (records ++ kinds.Mark (marks.Reset k) ∷ []) b.0 b.1
    by false e =
        let more = leb-false c.point.before.number k e in
        let r = reset_here sent console records [] made since begun k c (omega (arith, few, more)) s in
        let t = first_half c.rest (told_at_reset r.0) r.4 r.5 r.6 in
        n.reset.here r.0 t.0 r.2 t.1

  pub no_record : (r : Record) → IsOfLater c.point.before.number c.making.owed r → Stand sent console (records ++ r ∷ []) → ⊥
  no_record (kinds.Head h) later s = of_line (kinds.Head h) refl later s
  no_record (kinds.Event b) later s = of_line (kinds.Event b) refl later s
  no_record (kinds.Mark (marks.Dwell ms)) later s = of_line (kinds.Mark (marks.Dwell ms)) refl later s
  no_record (kinds.Mark (marks.Spindle code speed)) later s = of_line (kinds.Mark (marks.Spindle code speed)) refl later s
  no_record (kinds.Mark (marks.Coolant on)) later s = of_line (kinds.Mark (marks.Coolant on)) refl later s
  no_record (kinds.Mark (marks.Cut k)) later s =
      let b = cut_later sent console records [] made since begun k c later s in stands_not c.point c.left c.rest n c.reached.course (records ++ kinds.Mark (marks.Cut k) ∷ []) b.0 b.1
  no_record (kinds.Mark (marks.Reset k)) later s = of_reset k later s
  no_record kinds.End later s = no_end sent console records s
