-- Why a record does not stand next where a course has come to a point.
use Rattle.std.proofs.Common.{◌≡◌, ◌≤◌, ◌<◌, ℕ, ◌+◌, List, [], ◌∷◌, ◌++◌, true, false, not, refl, arith}
use Rattle.std.specs.List.{AllByRecursion}
use Rattle.status_report.specs.Answering.{is_banner}
use Rattle.status_report.specs.declared.Reply.{Reply}
use Rattle.step_line.specs.declared.Mark.TheVariants.{Cut, Reset as ResetMark}
use Rattle.step_line.specs.declared.Record.{Record}
use Rattle.step_line.specs.declared.Record.TheVariants as kinds
use Rattle.run_rules.specs.Work.{Outcome, tells}
use Rattle.run_texts.specs.Courses.{Passed}
use Rattle.run_texts.specs.Courses.Passed.{a_line, a_broken, a_cut, a_reset}
use Rattle.run_texts.specs.Parts.{is_ending}
use Rattle.run_texts.specs.Points.{Point}
use Rattle.run_texts.specs.Sent.{Sent}
use Rattle.run_texts.specs.Sent.Sent.{a_text, a_stop}
use Rattle.run_texts.specs.SoFar.{LeadsTo}
use Rattle.run_texts.specs.Told.{told_at_reset, told_in}
use Rattle.audit_rules.specs.Consoles.{GoesOnAnew, GoesOnWith, TellsNext, is_of_reset}
use Rattle.audit_rules.specs.Faults.{BreaksNoLine, PartCutsNot, PartMakesNot, PartResetsNot}
use Rattle.audit_rules.specs.Onward.{HasCome, TellsNoLine, begins_with_line}
use Rattle.audit_rules.specs.Standing.{Stand}
use Rattle.audit_rules.proofs.Behind.{part_makes}
use Rattle.audit_rules.proofs.BehindStops.{cut_here, cut_later, reset_here, reset_later}
use Rattle.audit_rules.proofs.BehindText.{alarm_told}
use Rattle.audit_rules.proofs.Late.{late_cut, late_reset}
use Rattle.audit_rules.proofs.NoFurther.{first_half}
use Rattle.audit_rules.proofs.Stands.{goes_on_anew}

-- no course goes on with a line that is not told, and that no reset keeps from its answer
no_line : (p q : Point) (left gone : List Sent) (rest later : List ℕ) (ps : List Passed) → TellsNoLine p left rest → BreaksNoLine p left → begins_with_line ps ≡ true → LeadsTo p left ps q gone → TellsNext rest (told_in ps) later → ⊥
no_line p q left gone rest later [] none unbroken begins f told = cc
no_line p q left gone rest later (a_cut k at ∷ ps) none unbroken begins f told = cc
no_line p q left gone rest later (a_reset r ∷ ps) none unbroken begins f told = cc
no_line p q [] gone rest later (a_line o ∷ ps) none unbroken begins f told = f
no_line p q (a_stop ∷ left) gone rest later (a_line o ∷ ps) none unbroken begins f told = f
no_line p q (a_text kept ∷ left) gone rest later (a_line o ∷ ps) none unbroken begins f told =
    let t = first_half rest (tells o.work) (told_in ps) later told in none kept left o t.0 refl f.0 t.1
no_line p q [] gone rest later (a_broken o ∷ ps) none unbroken begins f told = f
no_line p q (a_stop ∷ left) gone rest later (a_broken o ∷ ps) none unbroken begins f told = f
no_line p q (a_text kept ∷ left) gone rest later (a_broken o ∷ ps) none unbroken begins f told = unbroken kept left o refl f.0

module _ (sent : List Sent) (console : List ℕ) (records made : List Record) (since begun : List Outcome) (c : HasCome sent console records since begun made) where
  pub makes_not : (r : Record) → is_ending r ≡ false → PartMakesNot since begun made r → Stand sent console (records ++ r ∷ []) → ⊥
  makes_not r inside none s = let m = part_makes sent console records [] made since begun r c inside s in none m.0 m.1 m.2

  pub cuts_not : (k : ℕ) → c.point.before.number ≡ k + 1 → PartCutsNot c.point c.place since begun made k → Stand sent console (records ++ kinds.Mark (Cut k) ∷ []) → ⊥
  cuts_not k number none s = let h = cut_here sent console records [] made since begun k c number s in none h.0 h.1 h.2

  pub resets_not : (k : ℕ) (first : Reply) → c.point.before.number ≡ k + 1 → GoesOnWith c.rest first → is_of_reset first ≡ true → PartResetsNot c.point c.left c.place since begun made k (not (is_banner first))
      → Stand sent console (records ++ kinds.Mark (ResetMark k) ∷ []) → ⊥
  resets_not k first number g is none s =
      let h = reset_here sent console records [] made since begun k c number s in
      none h.0 h.1 (alarm_told c.rest h.5 h.4 h.0 first h.6 g is) h.2 h.3

  pub not_anew : (k : ℕ) → c.point.before.number ≡ k + 1 → (GoesOnAnew c.rest → ⊥) → Stand sent console (records ++ kinds.Mark (ResetMark k) ∷ []) → ⊥
  not_anew k number none s =
      let h = reset_here sent console records [] made since begun k c number s in
      let t = first_half c.rest (told_at_reset h.0) h.4 h.5 h.6 in
      none (goes_on_anew c.point c.left c.rest (record { reset = h.0; is = h.2; later = t.0; tells = t.1 }))

  pub no_later_cut : (k : ℕ) → c.point.before.number ≤ k → TellsNoLine c.point c.left c.rest → BreaksNoLine c.point c.left → Stand sent console (records ++ kinds.Mark (Cut k) ∷ []) → ⊥
  no_later_cut k number none unbroken s =
      let b = cut_later sent console records [] made since begun k c number s in
      no_line c.point b.0.point c.left b.0.waiting c.rest b.0.later b.0.more none unbroken b.1 b.0.leads b.0.tells

  pub no_later_reset : (k : ℕ) → c.point.before.number ≤ k → TellsNoLine c.point c.left c.rest → BreaksNoLine c.point c.left → Stand sent console (records ++ kinds.Mark (ResetMark k) ∷ []) → ⊥
  no_later_reset k number none unbroken s =
      let b = reset_later sent console records [] made since begun k c number s in
      no_line c.point b.0.point c.left b.0.waiting c.rest b.0.later b.0.more none unbroken b.1 b.0.leads b.0.tells

  -- ---- behind a record of a line that begins there

  pub no_early_cut : c.making.owed ≡ [] → (x : Record) → is_ending x ≡ false → (xs : List Record) → AllByRecursion (λ r. is_ending r ≡ false) xs → (k : ℕ) → k < c.point.before.number → Stand sent console (records ++ x ∷ (xs ++ kinds.Mark (Cut k) ∷ [])) → ⊥
  no_early_cut none x plain xs inside k early s = let late = late_cut sent console records made since begun c none x plain xs inside k s in omega (arith, early, late)

  pub no_early_reset : c.making.owed ≡ [] → (x : Record) → is_ending x ≡ false → (xs : List Record) → AllByRecursion (λ r. is_ending r ≡ false) xs → (k : ℕ) → k < c.point.before.number → Stand sent console (records ++ x ∷ (xs ++ kinds.Mark (ResetMark k) ∷ [])) → ⊥
  no_early_reset none x plain xs inside k early s = let late = late_reset sent console records made since begun c none x plain xs inside k s in omega (arith, early, late)
