-- Marks of other lines do not stand where a course has come to.
use Rattle.std.proofs.Common.{◌≡◌, ◌≤◌, ◌<◌, ◌⊎◌, inl, inr, ℕ, suc, ◌+◌, List, [], ◌∷◌, ◌++◌, length, drop, append-nil, true, false, refl, sym, ap, ◌∙◌, subst, arith}
use Rattle.flight.specs.Places.{origin, moved_by}
use Rattle.units.specs.declared.Steps3.{Steps3}
use Rattle.step_line.specs.declared.Mark.TheVariants as marks
use Rattle.step_line.specs.declared.Record.{Record}
use Rattle.step_line.specs.declared.Record.TheVariants as kinds
use Rattle.run_rules.specs.Work.{Outcome, tells}
use Rattle.run_texts.specs.Courses.{Passed, behind_cut, behind_the_reset}
use Rattle.run_texts.specs.Courses.Passed.{a_line, a_broken, a_cut, a_reset}
use Rattle.run_texts.specs.Parts.{Part, parts_of, is_ending}
use Rattle.run_texts.specs.Points.{Point, IsPassed, IsBroken, behind_broken, behind_line, opening}
use Rattle.run_texts.specs.Sent.{Sent, behind_reset, waiting_in}
use Rattle.run_texts.specs.Sent.Sent.{a_text, a_stop}
use Rattle.run_texts.specs.SoFar.{LeadsTo, AreMadeSoFar}
use Rattle.run_texts.specs.Told.{told_in}
use Rattle.run_texts.proofs.Leading.{onto_none}
use Rattle.run_texts.proofs.Stops.{Inside, Stop, stops_of}
use Rattle.run_texts.proofs.Stops.Stop.{cut_at, reset_at}
use Rattle.audit_rules.specs.Consoles.{GoesOnAnew, TellsNext}
use Rattle.audit_rules.specs.Faults.{BreaksNoLine}
use Rattle.audit_rules.specs.Onward.{HasCome, IsMarkOf, StandsBehind, TellsNoLine, begins_with_line}
use Rattle.audit_rules.specs.Standing.{Stand}
use Rattle.audit_rules.proofs.Behind.{leads as come_leads, line_comes, makes as come_makes}
use Rattle.audit_rules.proofs.BehindStops.{cut_later, next_stop, reset_later}
use Rattle.audit_rules.proofs.BehindText.{anew_alone}
use Rattle.audit_rules.proofs.NoFurther.{first_half}
use Rattle.audit_rules.proofs.OneWay.{both, stop_number}
use Rattle.audit_rules.proofs.StopsMade.{none_inside, stops_both, stops_by, stops_made}

-- ---- a course that begins with a line

-- The line is answered, and told next; or a reset keeps it from its answer, and the course goes on behind it.
data BeginsSo (p q : Point) (left gone : List Sent) (rest : List ℕ) (ps : List Passed) : Type 0 where
  answered : (kept : List ℕ) (more : List Sent) (o : Outcome) (later : List ℕ) → left ≡ a_text kept ∷ more → IsPassed p kept o → TellsNext rest (tells o.work) later → BeginsSo p q left gone rest ps
  broken : (kept : List ℕ) (more : List Sent) (o : Outcome) (qs : List Passed) → left ≡ a_text kept ∷ more → IsBroken p kept o → LeadsTo (behind_broken p o) more qs q gone → stops_of qs ≡ stops_of ps → BeginsSo p q left gone rest ps

begins_so : (p q : Point) (left gone : List Sent) (rest later : List ℕ) (ps : List Passed) → begins_with_line ps ≡ true → LeadsTo p left ps q gone → TellsNext rest (told_in ps) later → BeginsSo p q left gone rest ps
begins_so p q left gone rest later [] begins f told = absurd cc
begins_so p q left gone rest later (a_cut k at ∷ ps) begins f told = absurd cc
begins_so p q left gone rest later (a_reset r ∷ ps) begins f told = absurd cc
begins_so p q [] gone rest later (a_line o ∷ ps) begins f told = absurd f
begins_so p q (a_stop ∷ left) gone rest later (a_line o ∷ ps) begins f told = absurd f
begins_so p q (a_text kept ∷ left) gone rest later (a_line o ∷ ps) begins f told =
    let t = first_half rest (tells o.work) (told_in ps) later told in answered kept left o t.0 refl f.0 t.1
begins_so p q [] gone rest later (a_broken o ∷ ps) begins f told = absurd f
begins_so p q (a_stop ∷ left) gone rest later (a_broken o ∷ ps) begins f told = absurd f
begins_so p q (a_text kept ∷ left) gone rest later (a_broken o ∷ ps) begins f told = broken kept left o ps refl f.0 f.1 refl

-- behind a line that is not answered no line is passed before the next cut or reset
stops_at_once : (p last : Point) (sent left : List Sent) (ps : List Passed) (s : Stop) (more : List Stop) → p.unanswered ≡ true → LeadsTo p sent ps last left → stops_of ps ≡ s ∷ more → p.before.number ≡ stop_number s + 1
stops_at_once p last sent left [] s more waits f e = absurd cc
stops_at_once p last sent left (a_cut k at ∷ ps) s more waits f e =
    let same : cut_at k at ≡ s = cc in
    f.0.number ∙ ap (λ (t : Stop). stop_number t + 1) same
stops_at_once p last sent left (a_reset r ∷ ps) s more waits f e =
    let same : reset_at r.number r.at ≡ s = cc in
    sym f.0.number ∙ ap (λ (t : Stop). stop_number t + 1) same
stops_at_once p last [] left (a_line o ∷ ps) s more waits f e = absurd f
stops_at_once p last (a_stop ∷ sent) left (a_line o ∷ ps) s more waits f e = absurd f
stops_at_once p last (a_text line ∷ sent) left (a_line o ∷ ps) s more waits f e = both p.unanswered waits f.0.answered
stops_at_once p last [] left (a_broken o ∷ ps) s more waits f e = absurd f
stops_at_once p last (a_stop ∷ sent) left (a_broken o ∷ ps) s more waits f e = absurd f
stops_at_once p last (a_text line ∷ sent) left (a_broken o ∷ ps) s more waits f e = both p.unanswered waits f.0.answered

-- ---- a course up to its next cut or reset

-- Where this is left of a job before a cut or a reset: the number of the first line behind it, and what is left there.
abbrev number_behind : Stop → List Sent → ℕ
number_behind (cut_at k at) sent = k + 1
number_behind (reset_at k at) sent = k + length (waiting_in sent) + 1

abbrev left_behind : Stop → List Sent → List Sent
left_behind (cut_at k at) sent = sent
left_behind (reset_at k at) sent = behind_reset sent

-- A course passes so many lines, then comes to its next cut or reset, and goes on behind it with others.
record ComesTo (p last : Point) (sent left : List Sent) (s : Stop) (more : List Stop) : Type 0 where
  pub passed : ℕ
  pub number : p.before.number + passed ≡ stop_number s + 1
  pub behind : Point
  pub course : List Passed
  pub is : behind.before.number ≡ number_behind s (drop passed sent)
  pub leads : LeadsTo behind (left_behind s (drop passed sent)) course last left
  pub stops : stops_of course ≡ more

line_more : (p q last : Point) (item : Sent) (sent left : List Sent) (s : Stop) (more : List Stop) → q.before.number ≡ p.before.number + 1 → ComesTo q last sent left s more → ComesTo p last (item ∷ sent) left s more
line_more p q last item sent left s more next c =
    let number = c.number in
    record {
      passed = suc c.passed;
      number = omega (arith, number, next);
      behind = c.behind;
      course = c.course;
      is = c.is;
      leads = c.leads;
      stops = c.stops;
    }

comes_to : (p last : Point) (sent left : List Sent) (ps : List Passed) (s : Stop) (more : List Stop) → LeadsTo p sent ps last left → stops_of ps ≡ s ∷ more → ComesTo p last sent left s more
comes_to p last sent left [] s more f e = absurd cc
comes_to p last sent left (a_cut k at ∷ ps) s more f e =
    let same : cut_at k at ≡ s = cc in
    let rest : stops_of ps ≡ more = cc in
    let number = f.0.number in
    subst (λ (t : Stop). ComesTo p last sent left t more) same (record {
      passed = 0;
      number = omega (arith, number);
      behind = behind_cut at p;
      course = ps;
      is = f.0.number;
      leads = f.1;
      stops = rest;
    })
comes_to p last sent left (a_reset r ∷ ps) s more f e =
    let same : reset_at r.number r.at ≡ s = cc in
    let rest : stops_of ps ≡ more = cc in
    let number = f.0.number in
    subst (λ (t : Stop). ComesTo p last sent left t more) same (record {
      passed = 0;
      number = omega (arith, number);
      behind = behind_the_reset r p;
      course = ps;
      is = ap (λ (n : ℕ). r.number + n + 1) f.0.dropped;
      leads = f.1;
      stops = rest;
    })
comes_to p last [] left (a_line o ∷ ps) s more f e = absurd f
comes_to p last (a_stop ∷ sent) left (a_line o ∷ ps) s more f e = absurd f
comes_to p last (a_text line ∷ sent) left (a_line o ∷ ps) s more f e =
    line_more p (behind_line p line o) last (a_text line) sent left s more refl (comes_to (behind_line p line o) last sent left ps s more f.1 e)
comes_to p last [] left (a_broken o ∷ ps) s more f e = absurd f
comes_to p last (a_stop ∷ sent) left (a_broken o ∷ ps) s more f e = absurd f
comes_to p last (a_text line ∷ sent) left (a_broken o ∷ ps) s more f e =
    line_more p (behind_broken p o) last (a_text line) sent left s more refl (comes_to (behind_broken p o) last sent left ps s more f.1 e)

keeps_line : (p last : Point) → p.has_line ≡ true → (last ≡ p) ⊎ (last.has_line ≡ true) → last.has_line ≡ true
keeps_line p last line (inl e) = ap (λ (x : Point). x.has_line) e ∙ line
keeps_line p last line (inr e) = e

-- without one it passes lines, or nothing
lines_alone : (p last : Point) (sent left : List Sent) (ps : List Passed) → LeadsTo p sent ps last left → stops_of ps ≡ [] → (last ≡ p) ⊎ (last.has_line ≡ true)
lines_alone p last sent left [] f none = inl f.0
lines_alone p last sent left (a_cut k at ∷ ps) f none = absurd cc
lines_alone p last sent left (a_reset r ∷ ps) f none = absurd cc
lines_alone p last [] left (a_line o ∷ ps) f none = absurd f
lines_alone p last (a_stop ∷ sent) left (a_line o ∷ ps) f none = absurd f
lines_alone p last (a_text line ∷ sent) left (a_line o ∷ ps) f none = inr (keeps_line (behind_line p line o) last refl (lines_alone (behind_line p line o) last sent left ps f.1 none))
lines_alone p last [] left (a_broken o ∷ ps) f none = absurd f
lines_alone p last (a_stop ∷ sent) left (a_broken o ∷ ps) f none = absurd f
lines_alone p last (a_text line ∷ sent) left (a_broken o ∷ ps) f none = inr (keeps_line (behind_broken p o) last refl (lines_alone (behind_broken p o) last sent left ps f.1 none))

-- ---- marks in order

-- behind a cut none of an earlier line comes
behind_the_cut : (stops : List Stop) (p last : Point) (sent left : List Sent) (ps : List Passed) (k : ℕ) (at : Steps3) (s : Stop) → LeadsTo p sent ps last left → stops_of ps ≡ stops ++ cut_at k at ∷ s ∷ [] → k ≤ stop_number s
behind_the_cut [] p last sent left ps k at s f e =
    let c = comes_to p last sent left ps (cut_at k at) (s ∷ []) f e in
    let d = comes_to c.behind last (drop c.passed sent) left c.course s [] c.leads c.stops in
    let is = c.is in
    let number = d.number in
    omega (arith, is, number)
behind_the_cut (t ∷ stops) p last sent left ps k at s f e =
    let c = comes_to p last sent left ps t (stops ++ cut_at k at ∷ s ∷ []) f e in
    behind_the_cut stops c.behind last (left_behind t (drop c.passed sent)) left c.course k at s c.leads c.stops

-- Of two courses of one job one has a cut or a reset more. The other, which has passed no line behind its last one, has come no
-- further than to that.
behind_the_last : (stops : List Stop) (p q last end : Point) (sent left gone : List Sent) (ps qs : List Passed) (s : Stop) → LeadsTo p sent ps last left → LeadsTo q sent qs end gone → p.before.number ≡ q.before.number
    → stops_of ps ≡ stops → stops_of qs ≡ stops ++ s ∷ [] → last.has_line ≡ false → last.before.number ≤ stop_number s + 1
behind_the_last [] p q last end sent left gone ps qs s f g same e d none = by_lines (lines_alone p last sent left ps f e) where
  by_lines : (last ≡ p) ⊎ (last.has_line ≡ true) → last.before.number ≤ stop_number s + 1
  by_lines (inl here) =
      let c = comes_to q end sent gone qs s [] g d in
      let number = c.number in
      let at : last.before.number ≡ p.before.number = ap (λ (x : Point). x.before.number) here in
      omega (arith, number, same, at)
  by_lines (inr line) = both last.has_line line none
behind_the_last (t ∷ stops) p q last end sent left gone ps qs s f g same e d none =
    let a = comes_to p last sent left ps t stops f e in
    let b = comes_to q end sent gone qs t (stops ++ s ∷ []) g d in
    let a_number = a.number in
    let b_number = b.number in
    let passed : b.passed ≡ a.passed = omega (arith, a_number, b_number, same) in
    let waiting : drop b.passed sent ≡ drop a.passed sent = ap (λ (n : ℕ). drop n sent) passed in
    behind_the_last stops a.behind b.behind last end (left_behind t (drop a.passed sent)) left gone a.course b.course s a.leads
    (subst (λ (ss : List Sent). LeadsTo b.behind (left_behind t ss) b.course end gone) waiting b.leads)
    (a.is ∙ ap (number_behind t) (sym waiting) ∙ sym b.is) a.stops b.stops none

-- ---- the cut or the reset of a mark

is_mark : (l : ℕ) (m : Record) → IsMarkOf l m → (m ≡ kinds.Mark (marks.Cut l)) ⊎ (m ≡ kinds.Mark (marks.Reset l))
is_mark l (kinds.Mark (marks.Cut k)) is = inl (ap (λ (n : ℕ). kinds.Mark (marks.Cut n)) (sym is))
is_mark l (kinds.Mark (marks.Reset k)) is = inr (ap (λ (n : ℕ). kinds.Mark (marks.Reset n)) (sym is))
is_mark l (kinds.Mark (marks.Dwell ms)) is = absurd is
is_mark l (kinds.Mark (marks.Spindle code speed)) is = absurd is
is_mark l (kinds.Mark (marks.Coolant on)) is = absurd is
is_mark l (kinds.Head h) is = absurd is
is_mark l (kinds.Event b) is = absurd is
is_mark l kinds.End is = absurd is

record StopBy (l : ℕ) (place : Steps3) (records : List Record) : Type 0 where
  pub stop : Stop
  pub is : stops_by place records ≡ stop ∷ []
  pub number : stop_number stop ≡ l

stop_by : (l : ℕ) (m : Record) (place : Steps3) → IsMarkOf l m → StopBy l place (m ∷ [])
stop_by l m place is = by_kind (is_mark l m is) where
  by_kind : (m ≡ kinds.Mark (marks.Cut l)) ⊎ (m ≡ kinds.Mark (marks.Reset l)) → StopBy l place (m ∷ [])
  by_kind (inl cut) = record { stop = cut_at l place; is = ap (λ (r : Record). stops_by place (r ∷ [])) cut; number = refl }
  by_kind (inr reset) = record { stop = reset_at l place; is = ap (λ (r : Record). stops_by place (r ∷ [])) reset; number = refl }

-- it comes behind records that end no part
stop_behind : (l : ℕ) (xs : List Record) (m : Record) (place : Steps3) → Inside xs → IsMarkOf l m → StopBy l place (xs ++ m ∷ [])
stop_behind l xs m place inside is =
    let s = stop_by l m (moved_by place xs) is in
    record { stop = s.stop; is = none_inside xs (m ∷ []) place inside ∙ s.is; number = s.number }

stops_recorded : (course : List Passed) (records : List Record) → AreMadeSoFar origin (parts_of course) records → stops_of course ≡ stops_by origin records
stops_recorded course records all = stops_made course [] [] origin records (subst (λ (qs : List Part). AreMadeSoFar origin qs records) (sym (onto_none (parts_of course))) all)

-- ---- marks of earlier lines

-- behind a cut no mark of an earlier line stands
pub marks_in_order : (sent : List Sent) (console : List ℕ) (records : List Record) (k l : ℕ) (xs : List Record) → Inside xs → (m : Record) → IsMarkOf l m → Stand sent console (records ++ kinds.Mark (marks.Cut k) ∷ (xs ++ m ∷ [])) → k ≤ l
marks_in_order sent console records k l xs inside m is stand =
    let place = moved_by origin records in
    let s = stop_behind l xs m place inside is in
    let stops : stops_of stand.course ≡ stops_by origin records ++ cut_at k place ∷ s.stop ∷ [] =
    stops_recorded stand.course (records ++ kinds.Mark (marks.Cut k) ∷ (xs ++ m ∷ [])) stand.made
    ∙ stops_both records (kinds.Mark (marks.Cut k) ∷ (xs ++ m ∷ [])) origin
    ∙ ap (λ (ss : List Stop). stops_by origin records ++ cut_at k place ∷ ss) s.is in
    subst (λ (n : ℕ). k ≤ n) s.number (behind_the_cut (stops_by origin records) (opening stand.first) stand.point sent stand.left stand.course k place s.stop stand.leads stops)

-- ---- where a course has come to

module _ (sent : List Sent) (console : List ℕ) (records made : List Record) (since begun : List Outcome) (c : HasCome sent console records since begun made) where
  -- nor where a part begins that has no line yet
  pub no_earlier_mark : c.point.has_line ≡ false → (xs : List Record) → Inside xs → (m : Record) (k : ℕ) → IsMarkOf k m → Stand sent console (records ++ (xs ++ m ∷ [])) → c.point.before.number ≤ k + 1
  no_earlier_mark none xs inside m k is stand =
      let s = stop_behind k xs m (moved_by origin records) inside is in
      let here = stops_recorded c.reached.course records (come_makes sent console records since begun made c) in
      let there : stops_of stand.course ≡ stops_by origin records ++ s.stop ∷ [] =
      stops_recorded stand.course (records ++ (xs ++ m ∷ [])) stand.made ∙ stops_both records (xs ++ m ∷ []) origin ∙ ap (λ (ss : List Stop). stops_by origin records ++ ss) s.is in
      subst (λ (n : ℕ). c.point.before.number ≤ n + 1) s.number
      (behind_the_last (stops_by origin records) (opening c.first) (opening stand.first) c.point stand.point sent c.left stand.left c.reached.course stand.course s.stop
      (come_leads sent console records since begun made c) stand.leads refl here there none)

  -- ---- where the console goes on anew

  line_first : (k : ℕ) (m : Record) → c.point.before.number ≤ k → (m ≡ kinds.Mark (marks.Cut k)) ⊎ (m ≡ kinds.Mark (marks.Reset k)) → Stand sent console (records ++ m ∷ [])
      → (b : StandsBehind c.reached.course c.point c.left c.rest (records ++ m ∷ [])) × (begins_with_line b.more ≡ true)
  line_first k m early (inl cut) stand =
      subst (λ (r : Record). (b : StandsBehind c.reached.course c.point c.left c.rest (records ++ r ∷ [])) × (begins_with_line b.more ≡ true)) (sym cut)
      (cut_later sent console records [] made since begun k c early (subst (λ (r : Record). Stand sent console (records ++ r ∷ [])) cut stand))
  line_first k m early (inr reset) stand =
      subst (λ (r : Record). (b : StandsBehind c.reached.course c.point c.left c.rest (records ++ r ∷ [])) × (begins_with_line b.more ≡ true)) (sym reset)
      (reset_later sent console records [] made since begun k c early (subst (λ (r : Record). Stand sent console (records ++ r ∷ [])) reset stand))

  -- The next line can only be one that a reset keeps from its answer: no mark of a later line stands.
  pub no_later_mark_anew : GoesOnAnew c.rest → (m : Record) (k : ℕ) → IsMarkOf k m → c.point.before.number < k → Stand sent console (records ++ m ∷ []) → ⊥
  no_later_mark_anew anew m k is late stand =
      let b = line_first k m (omega (arith, late)) (is_mark k m is) stand in
      let s = stop_by k m (moved_by c.place made) is in
      let stops = next_stop b.0.more since begun c.place made [] s.stop m [] c.is_made.inside s.is (c.reached.only b.0.more (m ∷ []) b.0.made) in
      by_line s b.0.point b.0.waiting b.0.more stops (begins_so c.point b.0.point c.left b.0.waiting c.rest b.0.later b.0.more b.1 b.0.leads b.0.tells) where
        by_line : (s : StopBy k (moved_by c.place made) (m ∷ [])) (q : Point) (gone : List Sent) (more : List Passed) → stops_of more ≡ s.stop ∷ [] → BeginsSo c.point q c.left gone c.rest more → ⊥
        by_line s q gone more stops (answered kept others o later e passed t) =
            anew_alone c.point kept o [] t.replies later passed.becomes (t.are ∙ sym (append-nil (tells o.work))) t.each (subst GoesOnAnew t.text anew)
        by_line s q gone more stops (broken kept others o qs e is_broken f same) =
            let number : c.point.before.number + 1 ≡ stop_number s.stop + 1 = stops_at_once (behind_broken c.point o) q others gone qs s.stop [] refl f (same ∙ stops) in
            let is_last = s.number in
            omega (arith, number, is_last, late)

  -- ---- where the console tells no line

  pub no_line_stands : c.making.owed ≡ [] → TellsNoLine c.point c.left c.rest → BreaksNoLine c.point c.left → (r : Record) → is_ending r ≡ false → Stand sent console (records ++ r ∷ []) → ⊥
  no_line_stands owed none unbroken r inside stand =
      let b = line_comes sent console records [] made since begun r c owed inside stand in
      by_line b.0.point b.0.waiting b.0.more (begins_so c.point b.0.point c.left b.0.waiting c.rest b.0.later b.0.more b.1 b.0.leads b.0.tells) where
        by_line : (q : Point) (gone : List Sent) (more : List Passed) → BeginsSo c.point q c.left gone c.rest more → ⊥
        by_line q gone more (answered kept others o later e passed t) = none kept others o later e passed t
        by_line q gone more (broken kept others o qs e is_broken f same) = unbroken kept others o e is_broken
