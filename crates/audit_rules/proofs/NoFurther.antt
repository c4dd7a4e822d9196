-- A console stands no further than to a point where what is left of it tells nothing that may come.
use Rattle.std.proofs.Common.{◌≡◌, ◌≤◌, ℕ, List, [], ◌∷◌, ◌++◌, append_assoc, append-nil, length, length-append, nat_lt, ltb-true, ltb-false, true, false, Bool, cond, not, refl, sym, ap, ◌∙◌, subst, arith}
use Rattle.std.specs.List.{AllByRecursion}
use Rattle.std.proofs.lemmas.List.Concat.{flat_map-append}
use Rattle.std.proofs.lemmas.List.Elements.{filter-append}
use Rattle.status_report.specs.Answering.{without_reports, is_plain, is_report}
use Rattle.status_report.specs.Replies.{reply_text}
use Rattle.status_report.specs.declared.Reply.{Reply}
use Rattle.status_report.specs.declared.Reply.TheVariants.{Banner}
use Rattle.step_line.specs.declared.Record.{Record}
use Rattle.run_rules.specs.Told.{replies_text}
use Rattle.run_rules.specs.Work.{tells}
use Rattle.run_texts.specs.Courses.{Passed, Reset, IsReset, behind_the_reset}
use Rattle.run_texts.specs.Courses.Passed.{a_line, a_broken, a_cut, a_reset}
use Rattle.run_texts.specs.Points.{Point, behind_line, behind_broken}
use Rattle.run_texts.specs.Sent.{Sent, behind_reset}
use Rattle.run_texts.specs.Sent.Sent.{a_text, a_stop}
use Rattle.run_texts.specs.SoFar.{LeadsTo, RebasesNothing}
use Rattle.run_texts.specs.Told.{told_in, told_of, told_at_reset}
use Rattle.run_texts.specs.Places.{position}
use Rattle.run_texts.proofs.SoFar.{leads_on}
use Rattle.audit_rules.specs.Consoles.{IsOnConsole, Tells, TellsNext}
use Rattle.audit_rules.specs.Onward.{GoesOnTo, TellsNothing}
use Rattle.audit_rules.specs.Standing.{StandTo}
use Rattle.audit_rules.specs.StepTexts.{records_of}
use Rattle.step_record.specs.declared.forms.Line.{Line}
use Rattle.audit_rules.specs.Telling.{StandsUpTo, ConsoleStands, HasBadReply, IsLineAtFault, IsOver, last_answered}
use Rattle.audit_rules.specs.Telling.HasBadReply.{behind}
use Rattle.audit_rules.proofs.GoesOn.{goes_on_to}
use Rattle.audit_rules.proofs.OneWay.{both}
use Rattle.audit_rules.proofs.Places.{one_place}
use Rattle.audit_rules.proofs.Replies.{all_joined, tells_first}

-- ---- what may come

-- what is told first of two
pub first_half : (rest : List ℕ) (first second : List Reply) (later : List ℕ) → TellsNext rest (first ++ second) later → (more : List ℕ) × TellsNext rest first more
first_half rest first second later t =
    let f = tells_first t.replies first second later t.are t.each in (f.0, subst (λ (text : List ℕ). TellsNext text first f.0) (sym t.text) f.1)

-- nothing that may come is told
none_comes : (p q : Point) (left gone : List Sent) (rest later : List ℕ) (ps : List Passed) → TellsNothing p left rest → LeadsTo p left ps q gone → RebasesNothing p left ps → TellsNext rest (told_in ps) later → q.unanswered ≡ false → ps ≡ []
none_comes p q left gone rest later [] n f rebases told answered = refl
none_comes p q left gone rest later (a_cut k at ∷ ps) n f rebases told answered = absurd rebases
none_comes p q left gone rest later (a_reset r ∷ ps) n f rebases told answered =
    let t = first_half rest (told_at_reset r) (told_in ps) later told in absurd (n.reset.here r t.0 f.0 t.1)
none_comes p q [] gone rest later (a_line o ∷ ps) n f rebases told answered = absurd f
none_comes p q (a_stop ∷ left) gone rest later (a_line o ∷ ps) n f rebases told answered = absurd f
none_comes p q (a_text kept ∷ left) gone rest later (a_line o ∷ ps) n f rebases told answered =
    let t = first_half rest (tells o.work) (told_in ps) later told in absurd (n.line kept left o t.0 refl f.0 t.1)
none_comes p q [] gone rest later (a_broken o ∷ ps) n f rebases told answered = absurd f
none_comes p q (a_stop ∷ left) gone rest later (a_broken o ∷ ps) n f rebases told answered = absurd f
none_comes p q (a_text kept ∷ left) gone rest later (a_broken o ∷ []) n f rebases told answered = both true refl (sym (ap (λ (x : Point). x.unanswered) f.1.0) ∙ answered)
none_comes p q (a_text kept ∷ left) gone rest later (a_broken o ∷ a_cut k at ∷ ps) n f rebases told answered = absurd rebases
none_comes p q (a_text kept ∷ left) gone rest later (a_broken o ∷ a_reset r ∷ ps) n f rebases told answered =
    let t = first_half rest (told_at_reset r) (told_in ps) later told in absurd (n.reset.behind kept left o r t.0 refl f.0 f.1.0 t.1)
none_comes p q (a_text kept ∷ []) gone rest later (a_broken o ∷ a_line u ∷ ps) n f rebases told answered = absurd f.1
none_comes p q (a_text kept ∷ a_stop ∷ left) gone rest later (a_broken o ∷ a_line u ∷ ps) n f rebases told answered = absurd f.1
none_comes p q (a_text kept ∷ a_text line ∷ left) gone rest later (a_broken o ∷ a_line u ∷ ps) n f rebases told answered = both true refl f.1.0.answered
none_comes p q (a_text kept ∷ []) gone rest later (a_broken o ∷ a_broken u ∷ ps) n f rebases told answered = absurd f.1
none_comes p q (a_text kept ∷ a_stop ∷ left) gone rest later (a_broken o ∷ a_broken u ∷ ps) n f rebases told answered = absurd f.1
none_comes p q (a_text kept ∷ a_text line ∷ left) gone rest later (a_broken o ∷ a_broken u ∷ ps) n f rebases told answered = both true refl f.1.0.answered

-- and no report
pub no_reports : (p : Point) (left : List Sent) (rest later : List ℕ) (replies : List Reply) → TellsNothing p left rest → rest ≡ replies_text replies ++ later → AllByRecursion IsOnConsole replies → without_reports replies ≡ [] → rest ≡ later
no_reports p left rest later [] n text each none = text
no_reports p left rest later (r ∷ rs) n text each none = by_kind (is_report r) refl where
  by_kind : (b : Bool) → is_report r ≡ b → rest ≡ later
  by_kind true report = absurd (n.no_report r (replies_text rs ++ later) report each.0 (text ∙ append_assoc (reply_text r) (replies_text rs) later))
  by_kind false plain =
      absurd (let f : r ∷ without_reports rs ≡ [] = sym (ap (λ (b : Bool). cond (not b) (r ∷ without_reports rs) (without_reports rs)) plain) ∙ none in cc)

-- ---- no further

-- it is told on, or not
pub on_to : (p q : Point) (left gone : List Sent) (rest later : List ℕ) → TellsNothing p left rest → q.unanswered ≡ false → (g : GoesOnTo p left rest q gone later) → (g.course ≡ []) × (rest ≡ later)
on_to p q left gone rest later n answered g =
    let none = none_comes p q left gone rest later g.course n g.leads g.rebases g.tells answered in
    (none, no_reports p left rest later g.tells.replies n g.tells.text g.tells.each (g.tells.are ∙ ap told_in none))

-- Whatever stands up to a line that waits stands up to the reset that comes.
record Answered (sent : List Sent) (console : List ℕ) (records : List Record) (later : List ℕ) : Type 0 where
  point : Point
  left : List Sent
  rest : List ℕ
  stands : StandsUpTo sent console records point left rest
  answered : point.unanswered ≡ false
  short : length rest ≤ length later

rebases_on : (p between last : Point) (sent waiting left : List Sent) (ps qs : List Passed) → LeadsTo p sent ps between waiting → RebasesNothing p sent ps → RebasesNothing between waiting qs → RebasesNothing p sent (ps ++ qs)
rebases_on p between last sent waiting left [] qs f a b = subst (λ (ss : List Sent). RebasesNothing p ss qs) f.1 (subst (λ (x : Point). RebasesNothing x waiting qs) f.0 b)
rebases_on p between last sent waiting left (a_cut k at ∷ ps) qs f a b = absurd a
rebases_on p between last sent waiting left (a_reset r ∷ ps) qs f a b = (a.0, rebases_on (behind_the_reset r p) between last (behind_reset sent) waiting left ps qs f.1 a.1 b)
rebases_on p between last [] waiting left (a_line o ∷ ps) qs f a b = absurd f
rebases_on p between last (a_stop ∷ sent) waiting left (a_line o ∷ ps) qs f a b = absurd f
rebases_on p between last (a_text line ∷ sent) waiting left (a_line o ∷ ps) qs f a b = rebases_on (behind_line p line o) between last sent waiting left ps qs f.1 a b
rebases_on p between last [] waiting left (a_broken o ∷ ps) qs f a b = absurd f
rebases_on p between last (a_stop ∷ sent) waiting left (a_broken o ∷ ps) qs f a b = absurd f
rebases_on p between last (a_text line ∷ sent) waiting left (a_broken o ∷ ps) qs f a b = rebases_on (behind_broken p o) between last sent waiting left ps qs f.1 a b

-- behind what a console tells it tells what comes next
pub told_on : (console : List ℕ) (told more : List Reply) (rest later : List ℕ) → Tells console told rest → TellsNext rest more later → Tells console (told ++ more) later
told_on console told more rest later t n = record {
  behind = t.behind ++ n.replies;
  text =
      t.text
      ∙ ap (λ (text : List ℕ). replies_text (Banner ∷ t.behind) ++ text) n.text
      ∙ sym (append_assoc (replies_text (Banner ∷ t.behind)) (replies_text n.replies) later)
      ∙ ap (λ (text : List ℕ). text ++ later) (sym (flat_map-append reply_text (Banner ∷ t.behind) n.replies));
  each = all_joined IsOnConsole t.behind n.replies t.each n.each;
  are = filter-append is_plain t.behind n.replies ∙ ap (λ (rs : List Reply). rs ++ without_reports n.replies) t.are ∙ ap (λ (rs : List Reply). told ++ rs) n.are;
}

-- what is left behind what is told is no longer
shorter : (rest : List ℕ) (told : List Reply) (later : List ℕ) → TellsNext rest told later → length later ≤ length rest
shorter rest told later t = let e = ap length t.text ∙ length-append (replies_text t.replies) later in omega (arith, e)

behind_waiting : (sent : List Sent) (console : List ℕ) (records : List Record) (q : Point) (gone : List Sent) (later : List ℕ) → (s : StandsUpTo sent console records q gone later) → q.unanswered ≡ true → Answered sent console records later
behind_waiting sent console records q gone later s waits =
    let w = s.waits waits in
    let r : Reset = record w.reset { at = position q } in
    let is : IsReset q gone r = record { free = w.is.free; comes = w.is.comes; number = w.is.number; dropped = w.is.dropped; cause = w.is.cause; locked = w.is.locked } in
    let to : LeadsTo q gone (a_reset r ∷ []) (behind_the_reset r q) (behind_reset gone) = (is, (refl, refl)) in
    record {
      point = behind_the_reset r q;
      left = behind_reset gone;
      rest = w.later;
      stands = record {
        first = s.first;
        opens = s.opens;
        course = s.course;
        between = s.between;
        waiting = s.waiting;
        leads = s.leads;
        made = s.made;
        others = s.others ++ a_reset r ∷ [];
        goes_on = leads_on s.between q (behind_the_reset r q) s.waiting gone (behind_reset gone) s.others (a_reset r ∷ []) s.goes_on to;
        rebases = rebases_on s.between q (behind_the_reset r q) s.waiting gone (behind_reset gone) s.others (a_reset r ∷ []) s.goes_on s.rebases (refl, tt);
        told = subst (λ (rs : List Reply). Tells console rs w.later) (sym (ap told_in (sym (append_assoc s.course s.others (a_reset r ∷ []))) ∙ flat_map-append told_of (s.course ++ s.others) (a_reset r ∷ [])))
            (told_on console (told_in (s.course ++ s.others)) (told_in (a_reset r ∷ [])) later w.later s.told (subst (λ (rs : List Reply). TellsNext later rs w.later) (sym (append-nil (told_at_reset w.reset))) w.tells));
        waits = λ u. both false u refl;
      };
      answered = refl;
      short = shorter later (told_at_reset w.reset) w.later w.tells;
    }

to_answered : (sent : List Sent) (console : List ℕ) (records : List Record) (q : Point) (gone : List Sent) (later : List ℕ) → StandsUpTo sent console records q gone later → Answered sent console records later
to_answered sent console records q gone later s = by q.unanswered refl where
  by : (b : Bool) → q.unanswered ≡ b → Answered sent console records later
  by true waits = behind_waiting sent console records q gone later s waits
  by false answered = record { point = q; left = gone; rest = later; stands = s; answered = answered; short = omega arith }

-- ---- the bad reply

module _ (sent : List Sent) (console steps : List ℕ) (z : StandTo sent console steps) (p : Point) (left : List Sent) (rest : List ℕ) (s : StandsUpTo sent console (records_of z.done) p left rest) (n : TellsNothing p left rest) where
  -- whatever stands leaves as much
  pub least : (q : Point) (gone : List Sent) (later : List ℕ) → StandsUpTo sent console (records_of z.done) q gone later → length rest ≤ length later
  least q gone later y = by (nat_lt (length later) (length rest)) refl where
    a : Answered sent console (records_of z.done) later
    a = to_answered sent console (records_of z.done) q gone later y

    by : (b : Bool) → nat_lt (length later) (length rest) ≡ b → length rest ≤ length later
    by false e = ltb-false (length later) (length rest) e
    by true e =
        let less = ltb-true (length later) (length rest) e in
        let short = a.short in
        let g = goes_on_to sent console (records_of z.done) p a.point left a.left rest a.rest s a.stands n.answered a.answered (omega (arith, less, short)) in
        let same : length rest ≡ length a.rest = ap length (on_to p a.point left a.left rest a.rest n a.answered g).1 in
        absurd (omega (arith, less, short, same))

  -- no course stands whole, unless this is all that is told of the job
  not_whole : (rest ≡ [] → IsOver p left → ⊥) → ConsoleStands sent console steps → ⊥
  not_whole some w =
      let same = one_place sent console steps w.steps_stand z in
      let y : StandsUpTo sent console (records_of z.done) w.point w.left [] = subst (λ (ls : List Line). StandsUpTo sent console (records_of ls) w.point w.left []) same.done w.stands in
      let g = goes_on_to sent console (records_of z.done) p w.point left w.left rest [] s y n.answered w.over.answered (omega arith) in
      let on = on_to p w.point left w.left rest [] n w.over.answered g in
      let f : LeadsTo p left [] w.point w.left = subst (λ (ps : List Passed). LeadsTo p left ps w.point w.left) on.0 g.leads in
      some on.1 (subst (λ (ss : List Sent). IsOver p ss) f.1 (subst (λ (x : Point). IsOver x w.left) f.0 w.over))

  pub bad_reply : (rest ≡ [] → IsOver p left → ⊥) → (line : ℕ) → IsLineAtFault p left rest (last_answered 1 0 (s.course ++ s.others)) line → HasBadReply sent console steps line
  bad_reply some line at = behind (record { bad = not_whole some; steps_stand = z; point = p; left = left; rest = rest; stands = s; answered = n.answered; furthest = least; is = at })
