-- What a text tells next, and what it does not.
use Rattle.std.proofs.Common.{◌≡◌, ℕ, List, [], ◌∷◌, ◌++◌, append_assoc, append-nil, true, false, Bool, cond, not, sym, refl, ap, ◌∙◌, subst}
use Rattle.std.specs.List.{AllByRecursion}
use Rattle.status_report.specs.Answering.{without_reports, is_report}
use Rattle.status_report.specs.Replies.{reply_text}
use Rattle.status_report.specs.declared.Reply.{Reply}
use Rattle.run_rules.specs.Told.{replies_text}
use Rattle.audit_rules.specs.Consoles.{IsOnConsole, GoesOnAnew, GoesOnWith, Tells, TellsNext, is_of_reset}
use Rattle.audit_rules.specs.Faults.{BeginsWithNoReport, TellsShort, StandsBetween}
use Rattle.audit_rules.proofs.BehindText.{BothTold, onward}
use Rattle.audit_rules.proofs.NoFurther.{told_on}
use Rattle.audit_rules.proofs.OneText.{no_bye, report_alone}
use Rattle.audit_rules.proofs.Replies.{in_turn, left_out}

-- a text that tells a reply next, and begins with no report, begins with it
pub record BeginsWithReply (text : List ℕ) (reply : Reply) : Type 0 where
  pub on : IsOnConsole reply
  pub later : List ℕ
  pub is : text ≡ reply_text reply ++ later

first_of : (replies : List Reply) (text rest : List ℕ) (reply : Reply) (more : List Reply) → BeginsWithNoReport text → text ≡ replies_text replies ++ rest → AllByRecursion IsOnConsole replies → without_reports replies ≡ reply ∷ more
    → BeginsWithReply text reply
first_of [] text rest reply more none is each told = absurd cc
first_of (r ∷ rs) text rest reply more none is each told = by_kind (is_report r) refl where
  whole : text ≡ reply_text r ++ (replies_text rs ++ rest)
  whole = is ∙ append_assoc (reply_text r) (replies_text rs) rest

  by_kind : (b : Bool) → is_report r ≡ b → BeginsWithReply text reply
  by_kind true report = absurd (none r (replies_text rs ++ rest) report each.0 whole)
  by_kind false plain =
      let f : r ∷ without_reports rs ≡ reply ∷ more = sym (ap (λ (b : Bool). cond (not b) (r ∷ without_reports rs) (without_reports rs)) plain) ∙ told in
      let same : r ≡ reply = cc in
      record { on = subst IsOnConsole same each.0; later = replies_text rs ++ rest; is = whole ∙ ap (λ (q : Reply). reply_text q ++ (replies_text rs ++ rest)) same }

pub begins_with : (text later : List ℕ) (reply : Reply) (more : List Reply) → BeginsWithNoReport text → TellsNext text (reply ∷ more) later → BeginsWithReply text reply
begins_with text later reply more none t = first_of t.replies text later reply more none t.text t.each t.are

-- What is told short is not told.
pub not_told : (text later : List ℕ) (heard more : List Reply) (reply : Reply) → TellsShort text heard reply → TellsNext text (heard ++ reply ∷ more) later → ⊥
not_told text later heard more reply s t =
    let both : BothTold heard (heard ++ reply ∷ more) s.rest later = record { one = s.tells.replies; other = t.replies; one_may = s.tells.each; other_may = t.each; one_is = s.tells.are; other_is = t.are; text = sym s.tells.text ∙ t.text } in
    let on = onward heard (reply ∷ more) s.rest later both in
    let b = begins_with s.rest on.later reply more s.goes_on.no_report on.tells in
    s.goes_on.other (no_bye reply b.on) b.later b.is

-- ---- between two halves

report_told : (r : Reply) (rs : List Reply) (rest : List ℕ) → IsOnConsole r → is_report r ≡ true → TellsNext (replies_text (r ∷ rs) ++ rest) [] (replies_text rs ++ rest)
report_told r rs rest on report = record {
  replies = r ∷ [];
  text = append_assoc (reply_text r) (replies_text rs) rest ∙ ap (λ (bytes : List ℕ). bytes ++ (replies_text rs ++ rest)) (sym (append-nil (reply_text r)));
  each = (on, tt);
  are = left_out r [] (ap not report);
}

behind_reports : (back : List Reply) (console rest : List ℕ) (first : List Reply) → Tells console first (replies_text back ++ rest) → AllByRecursion IsOnConsole back → BeginsWithNoReport rest → StandsBetween console first (without_reports back) rest
behind_reports [] console rest first t each none = record { text = rest; tells = t; no_report = none; on = record { replies = []; text = refl; each = tt; are = refl } }
behind_reports (r ∷ rs) console rest first t each none = by_kind (is_report r) refl (λ u. behind_reports rs console rest first u each.1 none) where
  by_kind : (b : Bool) → is_report r ≡ b → (Tells console first (replies_text rs ++ rest) → StandsBetween console first (without_reports rs) rest) → StandsBetween console first (without_reports (r ∷ rs)) rest
  by_kind true report again =
      let told = told_on console first [] (replies_text (r ∷ rs) ++ rest) (replies_text rs ++ rest) t (report_told r rs rest each.0 report) in
      let fewer = again (subst (λ (qs : List Reply). Tells console qs (replies_text rs ++ rest)) (append-nil first) told) in
      subst (λ (qs : List Reply). StandsBetween console first qs rest) (sym (left_out r rs (ap not report))) fewer
  by_kind false plain again = record {
    text = replies_text (r ∷ rs) ++ rest;
    tells = t;
    no_report = λ report later is on e. report_alone report r later (replies_text rs ++ rest) on each.0 is plain (sym e ∙ append_assoc (reply_text r) (replies_text rs) rest);
    on = record { replies = r ∷ rs; text = refl; each = each; are = refl };
  }

pub in_two : (console : List ℕ) (first second : List Reply) (rest : List ℕ) → Tells console (first ++ second) rest → BeginsWithNoReport rest → StandsBetween console first second rest
in_two console first second rest t none =
    let h = in_turn console first second rest t in
    subst (λ (qs : List Reply). StandsBetween console first qs rest) h.is (behind_reports h.back console rest first h.tells h.each none)

-- ---- the next reply

-- behind some reports, of which there are none
pub next_reply : (text : List ℕ) (reply : Reply) → BeginsWithNoReport text → GoesOnWith text reply → (later : List ℕ) × (text ≡ reply_text reply ++ later)
next_reply text reply none g = by_reports g.reports g.text g.each g.are where
  by_reports : (reports : List Reply) → text ≡ replies_text reports ++ (reply_text reply ++ g.later) → AllByRecursion IsOnConsole reports → AllByRecursion (λ r. is_report r ≡ true) reports
      → (later : List ℕ) × (text ≡ reply_text reply ++ later)
  by_reports [] is each are = (g.later, is)
  by_reports (r ∷ rs) is each are =
      absurd (none r (replies_text rs ++ (reply_text reply ++ g.later)) are.0 each.0 (is ∙ append_assoc (reply_text r) (replies_text rs) (reply_text reply ++ g.later)))

pub no_anew : (text : List ℕ) → BeginsWithNoReport text → ((reply : Reply) (later : List ℕ) → is_of_reset reply ≡ true → text ≡ reply_text reply ++ later → ⊥) → GoesOnAnew text → ⊥
no_anew text none other g = let n = next_reply text g.0 none g.2 in other g.0 n.0 g.1 n.1
