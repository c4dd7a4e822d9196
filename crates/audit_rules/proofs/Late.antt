-- Behind a line that has made a record no cut or reset of an earlier line comes.
use Rattle.std.proofs.Common.{◌≡◌, ◌≤◌, ℕ, ◌+◌, List, [], ◌∷◌, ◌++◌, append_assoc, true, false, Bool, nat_le, leb-true, leb-false, refl, sym, subst, arith}
use Rattle.flight.specs.Places.{moved_by}
use Rattle.step_line.specs.declared.Mark.TheVariants.{Cut, Reset as ResetMark}
use Rattle.step_line.specs.declared.Record.{Record}
use Rattle.step_line.specs.declared.Record.TheVariants as kinds
use Rattle.run_rules.specs.Work.{Outcome}
use Rattle.run_texts.specs.Courses.{Passed}
use Rattle.run_texts.specs.Courses.Passed.{a_line, a_broken, a_cut, a_reset}
use Rattle.run_texts.specs.Left.{behind_lines}
use Rattle.run_texts.specs.Parts.{parts_of, is_ending}
use Rattle.run_texts.specs.Points.{Point, behind_line, behind_broken}
use Rattle.run_texts.specs.Sent.{Sent}
use Rattle.run_texts.specs.Sent.Sent.{a_text, a_stop}
use Rattle.run_texts.specs.SoFar.{LeadsTo, AreMadeSoFar}
use Rattle.run_texts.proofs.Stops.{Inside, Stop, stops_of}
use Rattle.run_texts.proofs.Stops.Stop.{cut_at, reset_at}
use Rattle.audit_rules.specs.Onward.{HasCome, begins_with_line}
use Rattle.audit_rules.specs.Standing.{Stand}
use Rattle.audit_rules.proofs.Behind.{line_comes}
use Rattle.audit_rules.proofs.BehindCourses.{ahead, nothing_passed, with_none}
use Rattle.audit_rules.proofs.BehindStops.{next_stop}
use Rattle.audit_rules.proofs.OneWay.{stop_number}
use Rattle.audit_rules.proofs.Replies.{all_joined}
use Rattle.audit_rules.proofs.StopsMade.{stops_by}

-- the first cut or reset of a course that begins with a line is of that line or a later one
stops_late : (p last : Point) (sent left : List Sent) (ps : List Passed) (s : Stop) → begins_with_line ps ≡ true → LeadsTo p sent ps last left → stops_of ps ≡ s ∷ [] → p.before.number ≤ stop_number s
stops_late p last sent left ps s begins f e = by (nat_le p.before.number (stop_number s)) refl where
  early : nat_le p.before.number (stop_number s) ≡ false → stop_number s + 2 ≤ p.before.number + 1
  early t = let less = leb-false p.before.number (stop_number s) t in omega (arith, less)

  passed : nat_le p.before.number (stop_number s) ≡ false → (sent : List Sent) (ps : List Passed) → begins_with_line ps ≡ true → LeadsTo p sent ps last left → stops_of ps ≡ s ∷ [] → p.before.number ≤ stop_number s
  passed t ss [] begins f e = absurd cc
  passed t ss (a_cut k at ∷ qs) begins f e = absurd cc
  passed t ss (a_reset r ∷ qs) begins f e = absurd cc
  passed t [] (a_line o ∷ qs) begins f e = absurd f
  passed t (a_stop ∷ ss) (a_line o ∷ qs) begins f e = absurd f
  passed t (a_text line ∷ ss) (a_line o ∷ qs) begins f e = nothing_passed s [] last (ahead (behind_line p line o) last ss left qs s [] [] f.1 (with_none s [] (stops_of qs) e) (early t))
  passed t [] (a_broken o ∷ qs) begins f e = absurd f
  passed t (a_stop ∷ ss) (a_broken o ∷ qs) begins f e = absurd f
  passed t (a_text line ∷ ss) (a_broken o ∷ qs) begins f e = nothing_passed s [] last (ahead (behind_broken p o) last ss left qs s [] [] f.1 (with_none s [] (stops_of qs) e) (early t))

  by : (t : Bool) → nat_le p.before.number (stop_number s) ≡ t → p.before.number ≤ stop_number s
  by true t = leb-true p.before.number (stop_number s) t
  by false t = passed t sent ps begins f e

module _ (sent : List Sent) (console : List ℕ) (records made : List Record) (since begun : List Outcome) (c : HasCome sent console records since begun made) (none : c.making.owed ≡ []) (x : Record) (plain : is_ending x ≡ false) (xs : List Record) (inside : Inside xs) where
  of_stop : (r : Record) (s : Stop) → is_ending r ≡ true → stops_by (moved_by c.place (made ++ x ∷ xs)) (r ∷ []) ≡ s ∷ [] → Stand sent console (records ++ x ∷ (xs ++ r ∷ [])) → c.point.before.number ≤ stop_number s
  of_stop r s ends comes stand =
      let b = line_comes sent console records (xs ++ r ∷ []) made since begun x c none plain stand in
      let all : AreMadeSoFar c.place (behind_lines since begun (parts_of b.0.more)) ((made ++ x ∷ xs) ++ r ∷ []) =
      subst (λ (rs : List Record). AreMadeSoFar c.place (behind_lines since begun (parts_of b.0.more)) rs) (sym (append_assoc made (x ∷ xs) (r ∷ []))) (c.reached.only b.0.more (x ∷ (xs ++ r ∷ [])) b.0.made) in
      let within : Inside (made ++ x ∷ xs) = all_joined (λ q. is_ending q ≡ false) made (x ∷ xs) c.is_made.inside (plain, inside) in
      stops_late c.point b.0.point c.left b.0.waiting b.0.more s b.1 b.0.leads (next_stop b.0.more since begun c.place (made ++ x ∷ xs) [] s r [] within comes all)

  pub late_cut : (k : ℕ) → Stand sent console (records ++ x ∷ (xs ++ kinds.Mark (Cut k) ∷ [])) → c.point.before.number ≤ k
  late_cut k stand = of_stop (kinds.Mark (Cut k)) (cut_at k (moved_by c.place (made ++ x ∷ xs))) refl refl stand

  pub late_reset : (k : ℕ) → Stand sent console (records ++ x ∷ (xs ++ kinds.Mark (ResetMark k) ∷ [])) → c.point.before.number ≤ k
  late_reset k stand = of_stop (kinds.Mark (ResetMark k)) (reset_at k (moved_by c.place (made ++ x ∷ xs))) refl refl stand
