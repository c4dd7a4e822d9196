-- No end may stand where a console goes on anew.
use Rattle.std.proofs.Common.{◌≡◌, ℕ, List, [], ◌∷◌, ◌++◌, append_assoc, append-nil, length, length-append, true, false, Bool, cond, not, refl, sym, ap, ◌∙◌, subst, arith}
use Rattle.std.specs.List.{AllByRecursion}
use Rattle.std.proofs.lemmas.List.Concat.{flat_map-append}
use Rattle.flight.specs.Places.{origin}
use Rattle.status_report.specs.Answering.{is_report, is_bye}
use Rattle.status_report.specs.Replies.{reply_text}
use Rattle.status_report.specs.declared.Reply.{Reply}
use Rattle.step_line.specs.declared.Record.{Record}
use Rattle.step_line.specs.declared.Record.TheVariants as kinds
use Rattle.step_record.specs.declared.forms.Line.{Line}
use Rattle.run_rules.specs.declared.State.{State}
use Rattle.run_rules.specs.Told.{replies_text}
use Rattle.run_rules.specs.Work.{Outcome}
use Rattle.run_rules.proofs.Determined.{one_opening}
use Rattle.run_texts.specs.Courses.{Passed}
use Rattle.run_texts.specs.Courses.Passed.{a_line, a_broken, a_cut, a_reset}
use Rattle.run_texts.specs.Parts.{parts_of}
use Rattle.run_texts.specs.Points.{Point, opening, behind_broken}
use Rattle.run_texts.specs.Sent.{Sent}
use Rattle.run_texts.specs.Sent.Sent.{a_text, a_stop}
use Rattle.run_texts.specs.SoFar.{LeadsTo, AreMadeSoFar}
use Rattle.run_texts.specs.Told.{told_in, told_of}
use Rattle.run_texts.proofs.SoFar.{parts_end, made_so_far}
use Rattle.run_texts.proofs.Stops.{stops_of}
use Rattle.audit_rules.specs.Consoles.{IsOnConsole, GoesOnAnew, Tells, TellsNext}
use Rattle.audit_rules.specs.Findings.{MayEnd}
use Rattle.audit_rules.specs.Onward.{HasCome}
use Rattle.audit_rules.specs.Scanned.{sent_in}
use Rattle.audit_rules.specs.StepTexts.{records_of}
use Rattle.audit_rules.proofs.Behind.{leads as come_leads, tells as come_tells, makes as come_makes}
use Rattle.audit_rules.proofs.BehindCourses.{Compared, compare}
use Rattle.audit_rules.proofs.BehindCourses.Compared.{further, behind, passed_by}
use Rattle.audit_rules.proofs.BehindText.{BothTold, onward, anew_alone, of_reset_plain}
use Rattle.audit_rules.proofs.Fitted.{Whole, whole}
use Rattle.audit_rules.proofs.NoFurther.{told_on}
use Rattle.audit_rules.proofs.OneLine.{told_further}
use Rattle.audit_rules.proofs.OneText.{begins_so, first_byte, no_bye}
use Rattle.audit_rules.proofs.OneWay.{both}
use Rattle.audit_rules.proofs.Replies.{left_out}
use Rattle.audit_rules.proofs.Stands.{between}
use Rattle.audit_rules.proofs.StopsMade.{same_stops, stops_by, stops_made, no_stops}
use Rattle.audit_rules.proofs.ToldApart.{not_told}

-- ---- what a text tells to its end

nothing : (r : Reply) (later : List ℕ) → is_bye r ≡ false → ◌≡◌ {A = List ℕ} [] (reply_text r ++ later) → ⊥
nothing r later some e =
    let b = begins_so r some in
    absurd (let f : ◌≡◌ {A = List ℕ} [] (first_byte r ∷ (b.0 ++ later)) = e ∙ ap (λ (bytes : List ℕ). bytes ++ later) b.1 in cc)

-- Behind what a text tells to its end it tells no more.
all_told : (heard more : List Reply) (x : List ℕ) → BothTold (heard ++ more) heard x [] → more ≡ []
all_told heard [] x b = refl
all_told heard (r ∷ rs) x b =
    absurd (not_told (replies_text b.other ++ []) x heard rs r
    (record {
      rest = [];
      tells = record { replies = b.other; text = refl; each = b.other_may; are = b.other_is };
      goes_on = record { no_report = λ report later is on e. nothing report later (no_bye report on) e; other = λ some later e. nothing r later some e };
    })
    (record { replies = b.one; text = sym b.text; each = b.one_may; are = b.one_is }))

-- a reply that comes next is told
told_next : (reports : List Reply) (reply : Reply) (later : List ℕ) → is_report reply ≡ false → IsOnConsole reply → AllByRecursion IsOnConsole reports → AllByRecursion (λ r. is_report r ≡ true) reports
    → TellsNext (replies_text reports ++ (reply_text reply ++ later)) (reply ∷ []) later
told_next [] reply later plain on each are = record {
  replies = reply ∷ [];
  text = ap (λ (bytes : List ℕ). bytes ++ later) (sym (append-nil (reply_text reply)));
  each = (on, tt);
  are = ap (λ (b : Bool). cond (not b) (reply ∷ []) []) plain;
}
told_next (r ∷ rs) reply later plain on each are =
    let t = told_next rs reply later plain on each.1 are.1 in
    record {
      replies = r ∷ t.replies;
      text =
          append_assoc (reply_text r) (replies_text rs) (reply_text reply ++ later)
          ∙ ap (λ (bytes : List ℕ). reply_text r ++ bytes) t.text
          ∙ sym (append_assoc (reply_text r) (replies_text t.replies) later);
      each = (each.0, t.each);
      are = left_out r t.replies (ap not are.0) ∙ t.are;
    }

-- ---- a course without cuts and resets

-- A line that waits for its answer waits for a cut or a reset.
waits_on : {A : Type 0} (p last : Point) (left gone : List Sent) (os : List Passed) → LeadsTo p left os last gone → stops_of os ≡ [] → p.unanswered ≡ true → last.unanswered ≡ false → A
waits_on p last left gone [] f none begun answered = both last.unanswered (ap (λ (x : Point). x.unanswered) f.0 ∙ begun) answered
waits_on p last left gone (a_cut k at ∷ os) f none begun answered = absurd cc
waits_on p last left gone (a_reset r ∷ os) f none begun answered = absurd cc
waits_on p last [] gone (a_line o ∷ os) f none begun answered = absurd f
waits_on p last (a_stop ∷ left) gone (a_line o ∷ os) f none begun answered = absurd f
waits_on p last (a_text line ∷ left) gone (a_line o ∷ os) f none begun answered = both p.unanswered begun f.0.answered
waits_on p last [] gone (a_broken o ∷ os) f none begun answered = absurd f
waits_on p last (a_stop ∷ left) gone (a_broken o ∷ os) f none begun answered = absurd f
waits_on p last (a_text line ∷ left) gone (a_broken o ∷ os) f none begun answered = both p.unanswered begun f.0.answered

-- So a course without them, behind which all lines are answered, passes nothing where the console goes on anew.
none_anew : (p last : Point) (left gone : List Sent) (os : List Passed) (rest later : List ℕ) → LeadsTo p left os last gone → stops_of os ≡ [] → last.unanswered ≡ false → TellsNext rest (told_in os) later → GoesOnAnew rest → os ≡ []
none_anew p last left gone [] rest later f none answered told anew = refl
none_anew p last left gone (a_cut k at ∷ os) rest later f none answered told anew = absurd cc
none_anew p last left gone (a_reset r ∷ os) rest later f none answered told anew = absurd cc
none_anew p last [] gone (a_line o ∷ os) rest later f none answered told anew = absurd f
none_anew p last (a_stop ∷ left) gone (a_line o ∷ os) rest later f none answered told anew = absurd f
none_anew p last (a_text line ∷ left) gone (a_line o ∷ os) rest later f none answered told anew =
    anew_alone p line o (told_in os) told.replies later f.0.becomes told.are told.each (subst GoesOnAnew told.text anew)
none_anew p last [] gone (a_broken o ∷ os) rest later f none answered told anew = absurd f
none_anew p last (a_stop ∷ left) gone (a_broken o ∷ os) rest later f none answered told anew = absurd f
none_anew p last (a_text line ∷ left) gone (a_broken o ∷ os) rest later f none answered told anew = waits_on (behind_broken p o) last left gone os f.1 none refl answered

-- ---- the end

-- One course has come so far, and another one tells all of the console, with the same records.
module _ (job console : List ℕ) (done : List Line) (since begun : List Outcome) (made : List Record) (c : HasCome (sent_in job) console (records_of done) since begun made) (anew : GoesOnAnew c.rest) (may : MayEnd job console done) where
  abbrev here : List Passed
  here = c.reached.course

  abbrev there : List Passed
  there = may.fits.course

  ended : Whole job console (records_of done ++ kinds.End ∷ []) may
  ended = whole job console (records_of done ++ kinds.End ∷ []) may

  tells : Tells console (told_in here) c.rest
  tells = come_tells (sent_in job) console (records_of done) since begun made c

  leads : LeadsTo (opening c.first) (sent_in job) there may.fits.last ended.left
  leads = subst (λ (s : State). LeadsTo (opening s) (sent_in job) there may.fits.last ended.left) (one_opening may.fits.first c.first may.fits.opens c.opens) ended.leads

  makes : AreMadeSoFar origin (parts_of there) (records_of done)
  makes = made_so_far (parts_of there) origin (records_of done) (parts_end there) may.fits.recorded

  compared : Compared here there c.point []
  compared =
      compare (opening c.first) c.point may.fits.last (sent_in job) c.left ended.left here there [] c.rest [] (come_leads (sent_in job) console (records_of done) since begun made c) leads
      (same_stops there here origin (records_of done) makes (come_makes (sent_in job) console (records_of done) since begun made c) ∙ sym (append-nil (stops_of here)))
      (told_further console c.rest [] (told_in here) (told_in there) tells ended.told) c.waits (λ unanswered. both may.fits.last.unanswered unanswered ended.over.answered)

  -- the reply that comes next is told besides
  told_more : Tells console (told_in here ++ anew.0 ∷ []) anew.2.later
  told_more =
      let g = anew.2 in
      let plain = of_reset_plain anew.0 anew.1 in
      told_on console (told_in here) (anew.0 ∷ []) c.rest g.later tells
      (subst (λ (text : List ℕ). TellsNext text (anew.0 ∷ []) g.later) (sym g.text) (told_next g.reports anew.0 g.later plain.0 plain.1 g.each g.are))

  -- so the course that tells all of the console is no front of this one
  not_behind : (os : List Passed) → here ≡ there ++ os → ⊥
  not_behind os split =
      let next = anew.0 ∷ [] in
      let replies : told_in here ++ next ≡ told_in there ++ (told_in os ++ next) =
      ap (λ (rs : List Reply). rs ++ next) (ap told_in split ∙ flat_map-append told_of there os) ∙ append_assoc (told_in there) (told_in os) next in
      let told = subst (λ (rs : List Reply). BothTold rs (told_in there) anew.2.later []) replies (told_further console anew.2.later [] (told_in here ++ next) (told_in there) told_more ended.told) in
      let none : length (told_in os ++ next) ≡ 0 = ap length (all_told (told_in there) (told_in os ++ next) anew.2.later told) in
      omega (arith, none, length-append (told_in os) next)

  -- what that course has behind this one is no cut and no reset
  no_stops_more : (os : List Passed) → there ≡ here ++ os → stops_of os ≡ []
  no_stops_more os split =
      let all = c.reached.only os []
      (subst (λ (rs : List Record). AreMadeSoFar origin (parts_of (here ++ os)) rs) (sym (append-nil (records_of done)))
      (subst (λ (ps : List Passed). AreMadeSoFar origin (parts_of ps) (records_of done)) split makes)) in
      stops_made os since begun c.place (made ++ []) all ∙ ap (stops_by c.place) (append-nil made) ∙ no_stops made c.place c.is_made.inside

  by_comparing : Compared here there c.point [] → ⊥
  by_comparing (further os split) =
      let b = between (opening c.first) may.fits.last (sent_in job) ended.left here os (subst (λ (ps : List Passed). LeadsTo (opening c.first) (sent_in job) ps may.fits.last ended.left) split leads) in
      let on = onward (told_in here) (told_in os) c.rest []
      (subst (λ (rs : List Reply). BothTold (told_in here) rs c.rest []) (ap told_in split ∙ flat_map-append told_of here os) (told_further console c.rest [] (told_in here) (told_in there) tells ended.told)) in
      let none = none_anew b.point may.fits.last b.left ended.left os c.rest on.later b.on (no_stops_more os split) ended.over.answered on.tells anew in
      not_behind [] (sym (split ∙ ap (λ (ps : List Passed). here ++ ps) none ∙ append-nil here) ∙ sym (append-nil there))
  by_comparing (behind os none split) = not_behind os split
  by_comparing (passed_by s others e late) = cc

-- Where a course has come to a point, the end may not stand if the console goes on there with what is told at a reset: that reset has no record.
pub no_end_anew : (job console : List ℕ) (done : List Line) (since begun : List Outcome) (made : List Record) (c : HasCome (sent_in job) console (records_of done) since begun made) → GoesOnAnew c.rest → MayEnd job console done → ⊥
no_end_anew job console done since begun made c anew may = by_comparing job console done since begun made c anew may (compared job console done since begun made c anew may)
