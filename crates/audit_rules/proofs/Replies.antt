-- Replies among reports, in two halves.
use Rattle.std.proofs.Common.{◌≡◌, ℕ, List, [], ◌∷◌, ◌++◌, append_assoc, true, false, Bool, cond, not, sym, refl, ap, ◌∙◌, subst}
use Rattle.std.specs.List.{AllByRecursion}
use Rattle.std.proofs.lemmas.List.Concat.{flat_map-append}
use Rattle.status_report.specs.Answering.{without_reports, is_plain, is_report}
use Rattle.status_report.specs.Replies.{reply_text}
use Rattle.status_report.specs.declared.Reply.{Reply}
use Rattle.status_report.specs.declared.Reply.TheVariants.{Banner}
use Rattle.run_rules.specs.Told.{replies_text}
use Rattle.audit_rules.specs.Consoles.{IsOnConsole, Tells, TellsNext, GoesOnWith}

-- ---- lists

pub all_joined : {X : Type 0} (P : X → Type 0) (xs ys : List X) → AllByRecursion P xs → AllByRecursion P ys → AllByRecursion P (xs ++ ys)
all_joined P [] ys a b = b
all_joined P (x ∷ xs) ys a b = (a.0, all_joined P xs ys a.1 b)

pub all_first : {X : Type 0} (P : X → Type 0) (xs ys : List X) → AllByRecursion P (xs ++ ys) → AllByRecursion P xs
all_first P [] ys a = tt
all_first P (x ∷ xs) ys a = (a.0, all_first P xs ys a.1)

pub all_second : {X : Type 0} (P : X → Type 0) (xs ys : List X) → AllByRecursion P (xs ++ ys) → AllByRecursion P ys
all_second P [] ys a = a
all_second P (x ∷ xs) ys a = all_second P xs ys a.1

-- ---- two halves

pub record InHalves (replies first second : List Reply) : Type 0 where
  pub front : List Reply
  pub back : List Reply
  pub is : replies ≡ front ++ back
  pub first_is : without_reports front ≡ first
  pub second_is : without_reports back ≡ second

kept : (r : Reply) (rs : List Reply) → is_plain r ≡ true → without_reports (r ∷ rs) ≡ r ∷ without_reports rs
kept r rs e = ap (λ (b : Bool). cond b (r ∷ without_reports rs) (without_reports rs)) e

pub left_out : (r : Reply) (rs : List Reply) → is_plain r ≡ false → without_reports (r ∷ rs) ≡ without_reports rs
left_out r rs e = ap (λ (b : Bool). cond b (r ∷ without_reports rs) (without_reports rs)) e

pub in_halves : (replies first second : List Reply) → without_reports replies ≡ first ++ second → InHalves replies first second
in_halves replies [] second e = record { front = []; back = replies; is = refl; first_is = refl; second_is = e }
in_halves [] (x ∷ first) second e = absurd cc
in_halves (r ∷ rs) (x ∷ first) second e = by_kind (is_plain r) refl (λ f. in_halves rs first second f) (λ f. in_halves rs (x ∷ first) second f) where
  by_kind : (b : Bool) → is_plain r ≡ b → (without_reports rs ≡ first ++ second → InHalves rs first second) → (without_reports rs ≡ x ∷ (first ++ second) → InHalves rs (x ∷ first) second) → InHalves (r ∷ rs) (x ∷ first) second
  by_kind true plain one same_first =
      let whole : r ∷ without_reports rs ≡ x ∷ (first ++ second) = sym (kept r rs plain) ∙ e in
      let same : r ≡ x = cc in
      let more : without_reports rs ≡ first ++ second = cc in
      let h = one more in
      record {
        front = r ∷ h.front;
        back = h.back;
        is = ap (λ (qs : List Reply). r ∷ qs) h.is;
        first_is = kept r h.front plain ∙ ap (λ q. q ∷ without_reports h.front) same ∙ ap (λ (qs : List Reply). x ∷ qs) h.first_is;
        second_is = h.second_is;
      }
  by_kind false report one same_first =
      let h = same_first (sym (left_out r rs report) ∙ e) in
      record {
        front = r ∷ h.front;
        back = h.back;
        is = ap (λ (qs : List Reply). r ∷ qs) h.is;
        first_is = left_out r h.front report ∙ h.first_is;
        second_is = h.second_is;
      }

-- what a console tells first, and then
pub record TellsInTurn (console : List ℕ) (first second : List Reply) (rest : List ℕ) : Type 0 where
  pub back : List Reply
  pub is : without_reports back ≡ second
  pub each : AllByRecursion IsOnConsole back
  pub tells : Tells console first (replies_text back ++ rest)

pub in_turn : (console : List ℕ) (first second : List Reply) (rest : List ℕ) → Tells console (first ++ second) rest → TellsInTurn console first second rest
in_turn console first second rest t =
    let h = in_halves t.behind first second t.are in
    let each : AllByRecursion IsOnConsole (h.front ++ h.back) = subst (λ (rs : List Reply). AllByRecursion IsOnConsole rs) h.is t.each in
    let text : console ≡ replies_text (Banner ∷ h.front) ++ (replies_text h.back ++ rest) =
    t.text
    ∙ ap (λ (rs : List Reply). replies_text (Banner ∷ rs) ++ rest) h.is
    ∙ ap (λ (bytes : List ℕ). bytes ++ rest) (flat_map-append reply_text (Banner ∷ h.front) h.back)
    ∙ append_assoc (replies_text (Banner ∷ h.front)) (replies_text h.back) rest in
    record { back = h.back; is = h.second_is; each = all_second IsOnConsole h.front h.back each; tells = record { behind = h.front; text = text; each = all_first IsOnConsole h.front h.back each; are = h.first_is } }

-- ---- what comes next

pub all_reports : (reports : List Reply) → without_reports reports ≡ [] → AllByRecursion (λ r. is_report r ≡ true) reports
all_reports [] e = tt
all_reports (r ∷ rs) e = by_kind (is_report r) refl (λ f. all_reports rs f) where
  by_kind : (b : Bool) → is_report r ≡ b → (without_reports rs ≡ [] → AllByRecursion (λ r. is_report r ≡ true) rs) → AllByRecursion (λ r. is_report r ≡ true) (r ∷ rs)
  by_kind true report again = (report, again (sym (left_out r rs (ap not report)) ∙ e))
  by_kind false plain again = absurd (let f : r ∷ without_reports rs ≡ [] = sym (kept r rs (ap not plain)) ∙ e in cc)

-- reports before replies are left out
pub behind_none : (reports rs : List Reply) → without_reports reports ≡ [] → without_reports (reports ++ rs) ≡ without_reports rs
behind_none [] rs none = refl
behind_none (r ∷ reports) rs none = by_kind (is_plain r) refl (λ f. behind_none reports rs f) where
  by_kind : (b : Bool) → is_plain r ≡ b → (without_reports reports ≡ [] → without_reports (reports ++ rs) ≡ without_reports rs) → without_reports (r ∷ (reports ++ rs)) ≡ without_reports rs
  by_kind true plain again = absurd (let f : r ∷ without_reports reports ≡ [] = sym (kept r reports plain) ∙ none in cc)
  by_kind false report again = left_out r (reports ++ rs) report ∙ again (sym (left_out r reports report) ∙ none)

-- so a text that tells replies tells the same behind them
pub tells_behind : (reports : List Reply) (rest : List ℕ) (told : List Reply) (later : List ℕ) → without_reports reports ≡ [] → AllByRecursion IsOnConsole reports → TellsNext rest told later → TellsNext (replies_text reports ++ rest) told later
tells_behind reports rest told later none each t = record {
  replies = reports ++ t.replies;
  text =
      ap (λ (bytes : List ℕ). replies_text reports ++ bytes) t.text
      ∙ sym (append_assoc (replies_text reports) (replies_text t.replies) later)
      ∙ ap (λ (bytes : List ℕ). bytes ++ later) (sym (flat_map-append reply_text reports t.replies));
  each = all_joined IsOnConsole reports t.replies each t.each;
  are = behind_none reports t.replies none ∙ t.are;
}

-- of what a text tells it tells the first half next, and is left to tell the second
pub tells_first : (replies first second : List Reply) (rest : List ℕ) → without_reports replies ≡ first ++ second → AllByRecursion IsOnConsole replies → (later : List ℕ) × TellsNext (replies_text replies ++ rest) first later
tells_first replies first second rest e each =
    let h = in_halves replies first second e in (
      replies_text h.back ++ rest,
      record {
        replies = h.front;
        text =
            ap (λ (rs : List Reply). replies_text rs ++ rest) h.is
            ∙ ap (λ (bytes : List ℕ). bytes ++ rest) (flat_map-append reply_text h.front h.back)
            ∙ append_assoc (replies_text h.front) (replies_text h.back) rest;
        each = all_first IsOnConsole h.front h.back (subst (λ (rs : List Reply). AllByRecursion IsOnConsole rs) h.is each);
        are = h.first_is;
      },
    )

-- the first reply that is no report comes next
pub comes_next : (replies : List Reply) (reply : Reply) (more : List Reply) (rest : List ℕ) → without_reports replies ≡ reply ∷ more → AllByRecursion IsOnConsole replies → GoesOnWith (replies_text replies ++ rest) reply
comes_next [] reply more rest e each = absurd cc
comes_next (r ∷ rs) reply more rest e each = by_kind (is_report r) refl (λ f. comes_next rs reply more rest f each.1) where
  by_kind : (b : Bool) → is_report r ≡ b → (without_reports rs ≡ reply ∷ more → GoesOnWith (replies_text rs ++ rest) reply) → GoesOnWith (replies_text (r ∷ rs) ++ rest) reply
  by_kind true report again =
      let g = again (sym (left_out r rs (ap not report)) ∙ e) in
      record {
        reports = r ∷ g.reports;
        later = g.later;
        text = append_assoc (reply_text r) (replies_text rs) rest ∙ ap (λ (bytes : List ℕ). reply_text r ++ bytes) g.text ∙ sym (append_assoc (reply_text r) (replies_text g.reports) (reply_text reply ++ g.later));
        each = (each.0, g.each);
        are = (report, g.are);
      }
  by_kind false plain again =
      let f : r ∷ without_reports rs ≡ reply ∷ more = sym (kept r rs (ap not plain)) ∙ e in
      let same : r ≡ reply = cc in
      record {
        reports = [];
        later = replies_text rs ++ rest;
        text = append_assoc (reply_text r) (replies_text rs) rest ∙ ap (λ (q : Reply). reply_text q ++ (replies_text rs ++ rest)) same;
        each = tt;
        are = tt;
      }
