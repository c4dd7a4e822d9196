-- Texts that fit, and of which each line that is sent is audited, have no line that counts as one that is not.
use Rattle.std.proofs.Common.{◌≡◌, ◌≤◌, ◌+◌, ℕ, zero, suc, Bool, true, false, List, [], ◌∷◌, ◌++◌, append_assoc, append-nil, length, replicate, sym, refl, ap, ◌∙◌, subst, arith}
use Rattle.std.specs.List.{flat_map}
use Rattle.std.proofs.lemmas.List.Concat.{flat_map-append}
use Rattle.run_rules.specs.Outcomes.{either}
use Rattle.run_texts.specs.Points.{Point, opening}
use Rattle.run_texts.specs.Sent.{Sent, kept_of, resets_of, sent_by, sent_of}
use Rattle.run_texts.specs.Sent.Sent.{a_text, a_stop}
use Rattle.run_texts.specs.Courses.{Passed, Follows}
use Rattle.run_texts.specs.SoFar.{ComesBy}
use Rattle.run_texts.proofs.SoFar.{comes_by}
use Rattle.audit_rules.specs.Findings.{FitsWith, HasForeign, is_foreign}
use Rattle.audit_rules.specs.Scanned.{scanned}
use Rattle.audit_rules.proofs.Alarmed.{alarm_of}
use Rattle.audit_course.specs.SoFar.{texts_among}
use Rattle.audit_course.proofs.Counting.{texts_on}
use Rattle.audit_texts.specs.Audited.{AllAudited}
use Rattle.audit_texts.proofs.JobTold.{differ}
use Rattle.run_audit.proofs.Bounded.{answered_before, lines_counted}
use Rattle.run_audit.proofs.LinesTold.{no_text, texts_of}

-- Lines that are audited, of which another list goes on with one that is not, end before that.
ends_before : (xs more ys zs : List Sent) (kept : List ℕ) → xs ++ more ≡ ys ++ a_text kept ∷ zs → AllAudited xs → is_foreign kept ≡ true → texts_among xs ≤ texts_among ys
ends_before [] more ys zs kept same audited is = omega arith
ends_before (a_text x ∷ xs) more [] zs kept same audited is = (let e : x ≡ kept = cc in differ (is_foreign kept) is (ap is_foreign (sym e) ∙ audited.0))
ends_before (a_stop ∷ xs) more [] zs kept same audited is = absurd cc
ends_before (a_text x ∷ xs) more (a_text y ∷ ys) zs kept same audited is = (let e : xs ++ more ≡ ys ++ a_text kept ∷ zs = cc in let rest = ends_before xs more ys zs kept e audited.1 is in omega (arith, rest))
ends_before (a_stop ∷ xs) more (a_stop ∷ ys) zs kept same audited is = (let e : xs ++ more ≡ ys ++ a_text kept ∷ zs = cc in ends_before xs more ys zs kept e audited is)
ends_before (a_text x ∷ xs) more (a_stop ∷ ys) zs kept same audited is = absurd cc
ends_before (a_stop ∷ xs) more (a_text y ∷ ys) zs kept same audited is = absurd cc

-- a job whose lines have this one among them sends it behind those before it
sent_at : (before : List (List ℕ)) (here : List ℕ) (behind : List (List ℕ)) (rest : List ℕ)
    → sent_of (before ++ here ∷ behind) rest ≡ (flat_map sent_by before ++ replicate (resets_of here) a_stop) ++ a_text (kept_of here) ∷ (flat_map sent_by behind ++ replicate (resets_of rest) a_stop)
sent_at before here behind rest =
    let stops = replicate (resets_of rest) a_stop in
    let own = replicate (resets_of here) a_stop in
    let text = a_text (kept_of here) ∷ [] in
    ap (λ (ss : List Sent). ss ++ stops) (flat_map-append sent_by before (here ∷ behind)) ∙ append_assoc (flat_map sent_by before) (flat_map sent_by (here ∷ behind)) stops
    ∙ ap (λ (ss : List Sent). flat_map sent_by before ++ ss) (append_assoc (own ++ text) (flat_map sent_by behind) stops ∙ append_assoc own text (flat_map sent_by behind ++ stops))
    ∙ sym (append_assoc (flat_map sent_by before) own (a_text (kept_of here) ∷ (flat_map sent_by behind ++ stops)))

pub none_foreign_of : {A : Type 0} (job console steps : List ℕ) (events : ℕ) (f : FitsWith job console steps events) → AllAudited f.fit.sent → HasForeign job console steps → A
none_foreign_of {A} job console steps events f audited h = by f.fit.fits.last.before.alarmed refl f.fit.over where
  rest : List ℕ
  rest = (scanned job).rest

  front : List Sent
  front = flat_map sent_by h.1.before ++ replicate (resets_of h.1.here) a_stop

  zs : List Sent
  zs = flat_map sent_by h.1.behind ++ replicate (resets_of rest) a_stop

  whole : f.fit.sent ++ f.fit.later ≡ front ++ a_text (kept_of h.1.here) ∷ zs
  whole = sym f.fit.split ∙ ap (λ (ls : List (List ℕ)). sent_of ls rest) h.1.split ∙ sent_at h.1.before h.1.here h.1.behind rest

  few : texts_among f.fit.sent ≤ texts_among front
  few = ends_before f.fit.sent f.fit.later front zs (kept_of h.1.here) whole audited h.1.is

  count : texts_among front ≡ length h.1.before
  count =
      let all = texts_of h.1.before (replicate (resets_of h.1.here) a_stop) in
      let none : texts_among (replicate (resets_of h.1.here) a_stop) ≡ 0 = ap texts_among (sym (append-nil (replicate (resets_of h.1.here) a_stop))) ∙ no_text (resets_of h.1.here) [] in
      omega (arith, all, none)

  comes : ComesBy (opening f.fit.fits.first) f.fit.fits.last f.fit.sent f.fit.fits.course []
  comes = comes_by (opening f.fit.fits.first) f.fit.fits.last f.fit.sent f.fit.fits.course [] (subst (λ (ps : List Passed). Follows (opening f.fit.fits.first) f.fit.sent ps f.fit.fits.last) (sym (append-nil f.fit.fits.course)) f.fit.fits.follows)

  same_number : f.fit.fits.last.before.number ≡ comes.between.before.number
  same_number = ap (λ (p : Point). p.before.number) comes.follows.0

  -- the last line that the texts have is none behind those that are sent
  last_few : f.fit.fits.last.before.number ≤ texts_among f.fit.sent + 1
  last_few =
      let lines = lines_counted (opening f.fit.fits.first) comes.between f.fit.sent comes.rest f.fit.fits.course comes.leads in
      let same = same_number in
      omega (arith, lines, same)

  some : 1 ≤ f.fit.fits.last.before.number
  some =
      let before = answered_before (opening f.fit.fits.first) comes.between f.fit.sent comes.rest f.fit.fits.course 0 comes.leads (omega arith) in
      let same = same_number in
      omega (arith, before, same)

  by : (alarmed : Bool) → f.fit.fits.last.before.alarmed ≡ alarmed → either f.fit.fits.last.before.alarmed (Unit {0}) (f.fit.later ≡ []) → A
  by false e over =
      let none : f.fit.later ≡ [] = subst (λ (b : Bool). either b (Unit {0}) (f.fit.later ≡ [])) e over in
      let all : texts_among f.fit.sent ≡ texts_among (front ++ a_text (kept_of h.1.here) ∷ zs) = ap texts_among (sym (append-nil f.fit.sent) ∙ ap (λ (ss : List Sent). f.fit.sent ++ ss) (sym none) ∙ whole) in
      let both = texts_on front (a_text (kept_of h.1.here) ∷ zs) in
      absurd (omega (arith, few, all, both))
  by true e over = by_number f.fit.fits.last.before.number refl where
    by_number : (n : ℕ) → f.fit.fits.last.before.number ≡ n → A
    by_number zero is = (let least = some in absurd (omega (arith, least, is)))
    by_number (suc k) is =
        let number = h.1.number in
        let most = last_few in
        absurd (h.1.sent k (omega (arith, number, few, count, most, is)) (alarm_of job console steps events f e k (is ∙ (let same : suc k ≡ k + 1 = omega arith in same))))
