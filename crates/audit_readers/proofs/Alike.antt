-- Replies with one text, of which the first that are told are the same.
use Rattle.std.proofs.Common.{◌≡◌, ℕ, Bool, true, false, cond, not, List, [], ◌∷◌, ◌++◌, append_assoc, refl, sym, ap, ◌∙◌, subst}
use Rattle.std.specs.List.{AllByRecursion}
use Rattle.std.proofs.lemmas.List.{append_cancel_left}
use Rattle.status_report.specs.Answering.{without_reports, is_report, is_bye}
use Rattle.status_report.specs.Replies.{reply_text}
use Rattle.status_report.specs.declared.Reply.{Reply}
use Rattle.run_rules.specs.Told.{replies_text}
use Rattle.audit_rules.specs.Consoles.{IsOnConsole}
use Rattle.audit_readers.proofs.Going.{NoReport, no_report, only_reports, one_report}
use Rattle.audit_rules.proofs.OneText.{no_bye}

-- a text begins with the first of these replies, or is this, if there is none
abbrev pub BeginsWith : List Reply → List ℕ → List ℕ → Type 0
BeginsWith [] rest text = text ≡ rest
BeginsWith (reply ∷ more) rest text = (is_report reply ≡ false) × (is_bye reply ≡ false) × (later : List ℕ) × (text ≡ reply_text reply ++ later)

-- two lists of replies go on so, with one text
pub record GoOnAlike (first second : List Reply) (x y : List ℕ) : Type 0 where
  pub text : List ℕ
  pub one : BeginsWith first x text
  pub other : BeginsWith second y text

-- ---- one reply of each list

-- a text that begins with no report does not begin with this one
begins_not : {A : Type 0} (r : Reply) (text rest : List ℕ) → NoReport text → is_report r ≡ true → IsOnConsole r → text ≡ reply_text r ++ rest → A
begins_not r text rest none report on e =
    only_reports r report on (λ x same is widths. absurd (none x rest is widths (e ∙ ap (λ (p : Reply). reply_text p ++ rest) same)))

-- one list goes on with a report, and the other with none
differ : {A : Type 0} (r q : Reply) (s t : List ℕ) → is_report r ≡ true → IsOnConsole r → is_report q ≡ false → IsOnConsole q → reply_text q ++ t ≡ reply_text r ++ s → A
differ r q s t report on plain other e = begins_not r (reply_text q ++ t) s (no_report q t plain (no_bye q other)) report on e

same_report : (r q : Reply) (s t : List ℕ) → is_report r ≡ true → IsOnConsole r → is_report q ≡ true → IsOnConsole q → reply_text r ++ s ≡ reply_text q ++ t → s ≡ t
same_report r q s t r_report r_on q_report q_on e =
    only_reports r r_report r_on (λ x same_x is_x w_x. only_reports q q_report q_on (λ z same_z is_z w_z.
    one_report x z s t is_x w_x is_z w_z (ap (λ (p : Reply). reply_text p ++ s) (sym same_x) ∙ e ∙ ap (λ (p : Reply). reply_text p ++ t) same_z)))

same_plain : (r q t : Reply) (s u : List ℕ) → r ≡ t → q ≡ t → reply_text r ++ s ≡ reply_text q ++ u → s ≡ u
same_plain r q t s u first second e = append_cancel_left (reply_text r) s u (e ∙ ap (λ (p : Reply). reply_text p ++ u) (second ∙ sym first))

-- ---- behind what both tell

begins_end : (first : List Reply) (x text : List ℕ) → [] ≡ first → text ≡ x → BeginsWith first x text
begins_end first x text e is = subst (λ (rs : List Reply). BeginsWith rs x text) e is

begins_plain : (r : Reply) (rs first : List Reply) (x text rest : List ℕ) → is_report r ≡ false → IsOnConsole r → r ∷ rs ≡ first → text ≡ reply_text r ++ rest → BeginsWith first x text
begins_plain r rs first x text rest plain on e is = subst (λ (qs : List Reply). BeginsWith qs x text) e (plain, no_bye r on, rest, is)

alone : (first second one other : List Reply) (x y : List ℕ) → AllByRecursion IsOnConsole one → AllByRecursion IsOnConsole other → without_reports one ≡ first → without_reports other ≡ second
    → (first ≡ [] → NoReport x) → (second ≡ [] → NoReport y) → replies_text one ++ x ≡ replies_text other ++ y → GoOnAlike first second x y
alone first second [] [] x y one_each other_each one_is other_is none_x none_y text =
    record { text = x; one = begins_end first x x one_is refl; other = begins_end second y x other_is text }
alone first second [] (q ∷ other) x y one_each other_each one_is other_is none_x none_y text = by_kind (is_report q) refl other_is where
  whole : x ≡ reply_text q ++ (replies_text other ++ y)
  whole = text ∙ append_assoc (reply_text q) (replies_text other) y

  by_kind : (b : Bool) → is_report q ≡ b → cond (not b) (q ∷ without_reports other) (without_reports other) ≡ second → GoOnAlike first second x y
  by_kind true report is = begins_not q x (replies_text other ++ y) (none_x (sym one_is)) report other_each.0 whole
  by_kind false plain is =
      record { text = x; one = begins_end first x x one_is refl; other = begins_plain q (without_reports other) second y x (replies_text other ++ y) plain other_each.0 is whole }
alone first second (r ∷ one) [] x y one_each other_each one_is other_is none_x none_y text = by_kind (is_report r) refl one_is where
  whole : y ≡ reply_text r ++ (replies_text one ++ x)
  whole = sym text ∙ append_assoc (reply_text r) (replies_text one) x

  by_kind : (b : Bool) → is_report r ≡ b → cond (not b) (r ∷ without_reports one) (without_reports one) ≡ first → GoOnAlike first second x y
  by_kind true report is = begins_not r y (replies_text one ++ x) (none_y (sym other_is)) report one_each.0 whole
  by_kind false plain is =
      record { text = y; one = begins_plain r (without_reports one) first x y (replies_text one ++ x) plain one_each.0 is whole; other = begins_end second y y other_is refl }
alone first second (r ∷ one) (q ∷ other) x y one_each other_each one_is other_is none_x none_y text =
    by_kinds (is_report r) (is_report q) refl refl one_is other_is (λ a b e. alone first second one other x y one_each.1 other_each.1 a b none_x none_y e) where
      whole : reply_text r ++ (replies_text one ++ x) ≡ reply_text q ++ (replies_text other ++ y)
      whole = sym (append_assoc (reply_text r) (replies_text one) x) ∙ text ∙ append_assoc (reply_text q) (replies_text other) y

      by_kinds : (a b : Bool) → is_report r ≡ a → is_report q ≡ b
          → cond (not a) (r ∷ without_reports one) (without_reports one) ≡ first → cond (not b) (q ∷ without_reports other) (without_reports other) ≡ second
          → (without_reports one ≡ first → without_reports other ≡ second → replies_text one ++ x ≡ replies_text other ++ y → GoOnAlike first second x y)
          → GoOnAlike first second x y
      by_kinds true true r_is q_is one_here other_here again =
          again one_here other_here (same_report r q (replies_text one ++ x) (replies_text other ++ y) r_is one_each.0 q_is other_each.0 whole)
      by_kinds true false r_is q_is one_here other_here again = differ r q (replies_text one ++ x) (replies_text other ++ y) r_is one_each.0 q_is other_each.0 (sym whole)
      by_kinds false true r_is q_is one_here other_here again = differ q r (replies_text other ++ y) (replies_text one ++ x) q_is other_each.0 r_is one_each.0 whole
      by_kinds false false r_is q_is one_here other_here again = record {
        text = reply_text r ++ (replies_text one ++ x);
        one = begins_plain r (without_reports one) first x (reply_text r ++ (replies_text one ++ x)) (replies_text one ++ x) r_is one_each.0 one_here refl;
        other = begins_plain q (without_reports other) second y (reply_text r ++ (replies_text one ++ x)) (replies_text other ++ y) q_is other_each.0 other_here whole;
      }

-- Behind what both tell, and behind reports, two lists with one text begin with one text too.
pub alike : (told first second one other : List Reply) (x y : List ℕ) → AllByRecursion IsOnConsole one → AllByRecursion IsOnConsole other → without_reports one ≡ told ++ first → without_reports other ≡ told ++ second
    → (first ≡ [] → NoReport x) → (second ≡ [] → NoReport y) → replies_text one ++ x ≡ replies_text other ++ y → GoOnAlike first second x y
alike [] first second one other x y one_each other_each one_is other_is none_x none_y text = alone first second one other x y one_each other_each one_is other_is none_x none_y text
alike (t ∷ told) first second [] other x y one_each other_each one_is other_is none_x none_y text = absurd cc
alike (t ∷ told) first second (r ∷ one) [] x y one_each other_each one_is other_is none_x none_y text = absurd cc
alike (t ∷ told) first second (r ∷ one) (q ∷ other) x y one_each other_each one_is other_is none_x none_y text =
    by_kinds (is_report r) (is_report q) refl refl one_is other_is
    (λ a b e. alike (t ∷ told) first second one other x y one_each.1 other_each.1 a b none_x none_y e)
    (λ a b e. alike told first second one other x y one_each.1 other_each.1 a b none_x none_y e) where
      whole : reply_text r ++ (replies_text one ++ x) ≡ reply_text q ++ (replies_text other ++ y)
      whole = sym (append_assoc (reply_text r) (replies_text one) x) ∙ text ∙ append_assoc (reply_text q) (replies_text other) y

      by_kinds : (a b : Bool) → is_report r ≡ a → is_report q ≡ b
          → cond (not a) (r ∷ without_reports one) (without_reports one) ≡ t ∷ (told ++ first) → cond (not b) (q ∷ without_reports other) (without_reports other) ≡ t ∷ (told ++ second)
          → (without_reports one ≡ t ∷ (told ++ first) → without_reports other ≡ t ∷ (told ++ second) → replies_text one ++ x ≡ replies_text other ++ y → GoOnAlike first second x y)
          → (without_reports one ≡ told ++ first → without_reports other ≡ told ++ second → replies_text one ++ x ≡ replies_text other ++ y → GoOnAlike first second x y)
          → GoOnAlike first second x y
      by_kinds true true r_is q_is one_here other_here again on =
          again one_here other_here (same_report r q (replies_text one ++ x) (replies_text other ++ y) r_is one_each.0 q_is other_each.0 whole)
      by_kinds true false r_is q_is one_here other_here again on = differ r q (replies_text one ++ x) (replies_text other ++ y) r_is one_each.0 q_is other_each.0 (sym whole)
      by_kinds false true r_is q_is one_here other_here again on = differ q r (replies_text other ++ y) (replies_text one ++ x) q_is other_each.0 r_is one_each.0 whole
      by_kinds false false r_is q_is one_here other_here again on =
          let r_same : r ≡ t = cc in
          let q_same : q ≡ t = cc in
          let one_more : without_reports one ≡ told ++ first = cc in
          let other_more : without_reports other ≡ told ++ second = cc in
          on one_more other_more (same_plain r q t (replies_text one ++ x) (replies_text other ++ y) r_same q_same whole)
