-- Records that stand, from the left.
use Rattle.std.proofs.Common.{◌≡◌, ℕ, List, [], ◌∷◌, ◌++◌, append-nil, append_assoc, Bool, cond, true, false, sym, refl, ap, ◌∙◌, subst}
use Rattle.std.specs.List.{AllByRecursion}
use Rattle.std.proofs.lemmas.List.Concat.{flat_map-append}
use Rattle.flight.specs.Places.{origin}
use Rattle.status_report.specs.Answering.{without_reports}
use Rattle.status_report.specs.declared.Reply.{Reply}
use Rattle.status_report.specs.declared.Reply.TheVariants.{Banner, Alarm}
use Rattle.step_line.specs.declared.Record.{Record}
use Rattle.run_rules.specs.Told.{replies_text}
use Rattle.run_texts.specs.Courses.{Passed, IsReset, behind_cut, behind_the_reset}
use Rattle.run_texts.specs.Courses.Passed.{a_line, a_broken, a_cut, a_reset}
use Rattle.run_texts.specs.Parts.{Part, parts_of}
use Rattle.run_texts.specs.Points.{Point, opening, behind_line, behind_broken}
use Rattle.run_texts.specs.Sent.{Sent, behind_reset}
use Rattle.run_texts.specs.Sent.Sent.{a_text, a_stop}
use Rattle.run_texts.specs.SoFar.{LeadsTo, AreMadeSoFar}
use Rattle.run_texts.specs.Told.{told_in, told_of, told_at_reset}
use Rattle.run_texts.proofs.Leading.{onto_none}
use Rattle.audit_rules.specs.Consoles.{IsOnConsole, Tells, GoesOnAnew}
use Rattle.audit_rules.specs.Standing.{MayWait, GoesOnWithReset, Stand}
use Rattle.audit_rules.proofs.Fronts.{front_made}
use Rattle.audit_rules.proofs.Replies.{in_turn, comes_next, tells_behind, tells_first}

-- ---- a point between

pub record Between (p last : Point) (sent rest : List Sent) (ps qs : List Passed) : Type 0 where
  pub point : Point
  pub left : List Sent
  pub to : LeadsTo p sent ps point left
  pub on : LeadsTo point left qs last rest

pub between : (p last : Point) (sent rest : List Sent) (ps qs : List Passed) → LeadsTo p sent (ps ++ qs) last rest → Between p last sent rest ps qs
between p last sent rest [] qs f = record { point = p; left = sent; to = (refl, refl); on = f }
between p last sent rest (a_cut k at ∷ ps) qs f =
    let b = between (behind_cut at p) last sent rest ps qs f.1 in record { point = b.point; left = b.left; to = (f.0, b.to); on = b.on }
between p last sent rest (a_reset r ∷ ps) qs f =
    let b = between (behind_the_reset r p) last (behind_reset sent) rest ps qs f.1 in record { point = b.point; left = b.left; to = (f.0, b.to); on = b.on }
between p last [] rest (a_line o ∷ ps) qs f = absurd f
between p last (a_stop ∷ sent) rest (a_line o ∷ ps) qs f = absurd f
between p last (a_text line ∷ sent) rest (a_line o ∷ ps) qs f =
    let b = between (behind_line p line o) last sent rest ps qs f.1 in record { point = b.point; left = b.left; to = (f.0, b.to); on = b.on }
between p last [] rest (a_broken o ∷ ps) qs f = absurd f
between p last (a_stop ∷ sent) rest (a_broken o ∷ ps) qs f = absurd f
between p last (a_text line ∷ sent) rest (a_broken o ∷ ps) qs f =
    let b = between (behind_broken p o) last sent rest ps qs f.1 in record { point = b.point; left = b.left; to = (f.0, b.to); on = b.on }

-- ---- a line that waits

both : {A : Type 0} → true ≡ false → A
both e = absurd cc

-- what is told at a reset begins with `ALARM:3` or the banner
tells_anew : (alarm : Bool) (more : List Reply) (replies : List Reply) (later : List ℕ) → without_reports replies ≡ cond alarm (Alarm 3 ∷ []) [] ++ Banner ∷ more → AllByRecursion IsOnConsole replies → GoesOnAnew (replies_text replies ++ later)
tells_anew true more replies later e each = (Alarm 3, refl, comes_next replies (Alarm 3) (Banner ∷ more) later e each)
tells_anew false more replies later e each = (Banner, refl, comes_next replies Banner more later e each)

pub goes_on_anew : (p : Point) (left : List Sent) (rest : List ℕ) → GoesOnWithReset p left rest → GoesOnAnew rest
goes_on_anew p left rest w = let t = w.tells in subst GoesOnAnew (sym t.text) (tells_anew w.reset.alarm _ t.replies w.later t.are t.each)

pub waits_before : (p point : Point) (sent left : List Sent) (later : List Passed) (back : List Reply) (rest : List ℕ)
    → LeadsTo p sent later point left → without_reports back ≡ told_in later → AllByRecursion IsOnConsole back → MayWait point left rest → MayWait p sent (replies_text back ++ rest)
waits_before p point sent left [] back rest f e each waits unanswered =
    let w = waits (ap (λ (x : Point). x.unanswered) f.0 ∙ unanswered) in
    let comes : IsReset p left w.reset = subst (λ (x : Point). IsReset x left w.reset) f.0 w.is in
    record { reset = w.reset; is = subst (λ (ss : List Sent). IsReset p ss w.reset) f.1 comes; later = w.later; tells = tells_behind back rest (told_at_reset w.reset) w.later e each w.tells }
waits_before p point sent left (a_cut k at ∷ ps) back rest f e each waits unanswered =
    let w = waits_before (behind_cut at p) point sent left ps back rest f.1 e each waits unanswered in
    record { reset = w.reset; is = record { free = w.is.free; comes = w.is.comes; number = w.is.number; dropped = w.is.dropped; cause = w.is.cause; locked = w.is.locked }; later = w.later; tells = w.tells }
waits_before p point sent left (a_reset r ∷ ps) back rest f e each waits unanswered =
    let t = tells_first back (told_at_reset r) (told_in ps) rest e each in
    record { reset = r; is = f.0; later = t.0; tells = t.1 }
waits_before p point [] left (a_line o ∷ ps) back rest f e each waits unanswered = absurd f
waits_before p point (a_stop ∷ sent) left (a_line o ∷ ps) back rest f e each waits unanswered = absurd f
waits_before p point (a_text line ∷ sent) left (a_line o ∷ ps) back rest f e each waits unanswered = both (sym unanswered ∙ f.0.answered)
waits_before p point [] left (a_broken o ∷ ps) back rest f e each waits unanswered = absurd f
waits_before p point (a_stop ∷ sent) left (a_broken o ∷ ps) back rest f e each waits unanswered = absurd f
waits_before p point (a_text line ∷ sent) left (a_broken o ∷ ps) back rest f e each waits unanswered = both (sym unanswered ∙ f.0.answered)

-- ---- records that stand, but the last

pub stand_before : (sent : List Sent) (console : List ℕ) (records : List Record) (r : Record) → Stand sent console (records ++ r ∷ []) → Stand sent console records
stand_before sent console records r s =
    let f = front_made s.course [] [] origin records r (subst (λ (qs : List Part). AreMadeSoFar origin qs (records ++ r ∷ [])) (sym (onto_none (parts_of s.course))) s.made) in
    let b = between (opening s.first) s.point sent s.left f.front f.later (subst (λ (ps : List Passed). LeadsTo (opening s.first) sent ps s.point s.left) f.split s.leads) in
    let told : Tells console (told_in f.front ++ told_in f.later) s.rest =
    subst (λ (rs : List Reply). Tells console rs s.rest) (ap told_in f.split ∙ flat_map-append told_of f.front f.later) s.told in
    let t = in_turn console (told_in f.front) (told_in f.later) s.rest told in
    record {
      first = s.first;
      opens = s.opens;
      course = f.front;
      point = b.point;
      left = b.left;
      leads = b.to;
      rest = replies_text t.back ++ s.rest;
      told = t.tells;
      waits = waits_before b.point s.point b.left s.left f.later t.back s.rest b.on t.is t.each s.waits;
      made = subst (λ (qs : List Part). AreMadeSoFar origin qs records) (onto_none (parts_of f.front)) f.made;
    }

-- and without more of the last
pub stand_front : (sent : List Sent) (console : List ℕ) (records more : List Record) → Stand sent console (records ++ more) → Stand sent console records
stand_front sent console records [] s = subst (λ (rs : List Record). Stand sent console rs) (append-nil records) s
stand_front sent console records (r ∷ more) s =
    stand_before sent console records r
    (stand_front sent console (records ++ r ∷ []) more (subst (λ (rs : List Record). Stand sent console rs) (sym (append_assoc records (r ∷ []) more)) s))
