-- Two lists of replies with which one text of a console begins.
use Rattle.std.specs.Prelude.{if◌then◌else◌, ◌==◌, decimal, ◌/◌, ◌%◌}
use Rattle.std.proofs.Common.{◌≡◌, ℕ, zero, suc, ◌+◌, ◌≤◌, ◌<◌, ◌⊎◌, inl, inr, List, [], ◌∷◌, ◌++◌, length, drop, nat_eq, nat_lt, true, false, Bool, cond, not, ◌||◌, append_assoc, sym, refl, ap, ◌∙◌, subst, arith}
use Rattle.std.specs.Fmt.{digits, digits_onto, digit_glyph}
use Rattle.std.specs.List.{AllByRecursion}
use Rattle.std.proofs.lemmas.Bool.{ltb-true, ltb-false, ne_eqb}
use Rattle.std.proofs.lemmas.Bool.Decides.{nat_tests}
use Rattle.std.proofs.lemmas.Fmt.{decimal_digit}
use Rattle.std.proofs.lemmas.List.{append_cancel_left}
use Rattle.status_report.specs.Answering.{without_reports, is_report, is_banner}
use Rattle.status_report.specs.Replies.{reply_text}
use Rattle.status_report.specs.declared.Message.TheVariants.{Locked}
use Rattle.status_report.specs.declared.Reply.{Reply}
use Rattle.status_report.specs.declared.Reply.TheVariants.{Banner, Ok, Error, Alarm, Message, Report, Setting, Modes, Offset, Bye}
use Rattle.run_rules.specs.Outcomes.{refused, limited, motion_error, begins_with_dollar}
use Rattle.run_rules.specs.Told.{replies_text}
use Rattle.run_rules.specs.Work.{Outcome, tells, soft_limit}
use Rattle.run_rules.proofs.Answering.{AnswersOrHalts}
use Rattle.run_rules.proofs.Determined.{outcomes_agree}
use Rattle.run_texts.specs.Courses.{Reset}
use Rattle.run_texts.specs.Points.{Point, BecomesAt}
use Rattle.run_texts.specs.Sent.{Sent}
use Rattle.run_texts.specs.Told.{told_at_reset}
use Rattle.run_texts.proofs.Determined.{line_answers}
use Rattle.run_texts.proofs.Errors.{begun_one, told_one}
use Rattle.run_texts.proofs.Quiet.{opens, Quiet, line_quiet}
use Rattle.audit_rules.specs.Consoles.{IsOnConsole, TellsNext, GoesOnWith, GoesOnAnew, is_of_reset}
use Rattle.audit_rules.specs.Standing.{MayWait}
use Rattle.audit_rules.proofs.OneText.{ToldOn, first_byte, one_first, no_bye, one_sign, same_report, report_alone, same_ended, decimal_inside}
use Rattle.audit_rules.proofs.OneWay.{sign_of, locked_begun, free_becomes}
use Rattle.audit_rules.proofs.Replies.{all_reports}

-- One text begins with both of these, reports aside, and goes on so behind each.
abbrev pub BothTold : List Reply → List Reply → List ℕ → List ℕ → Type 0
BothTold us vs x y = ToldOn IsOnConsole x y us vs

pub turned : (us vs : List Reply) (x y : List ℕ) → BothTold us vs x y → BothTold vs us y x
turned us vs x y b = record { one = b.other; other = b.one; one_may = b.other_may; other_may = b.one_may; one_is = b.other_is; other_is = b.one_is; text = sym b.text }

-- ---- the first reply of each

pub record FirstTold (z w : Reply) (us vs : List Reply) (x y : List ℕ) : Type 0 where
  pub z_on : IsOnConsole z
  pub w_on : IsOnConsole w
  pub s : List ℕ
  pub t : List ℕ
  pub text : reply_text z ++ s ≡ reply_text w ++ t
  pub on : s ≡ t → BothTold us vs x y

first_of : (z w : Reply) (us vs one other : List Reply) (x y : List ℕ) → AllByRecursion IsOnConsole one → AllByRecursion IsOnConsole other → without_reports one ≡ z ∷ us → without_reports other ≡ w ∷ vs
    → replies_text one ++ x ≡ replies_text other ++ y → FirstTold z w us vs x y
first_of z w us vs [] other x y one_each other_each one_is other_is text = absurd cc
first_of z w us vs (r ∷ one) [] x y one_each other_each one_is other_is text = absurd cc
first_of z w us vs (r ∷ one) (q ∷ other) x y one_each other_each one_is other_is text =
    by_kinds (is_report r) (is_report q) refl refl one_is other_is (λ a b e. first_of z w us vs one other x y one_each.1 other_each.1 a b e) where
      whole : reply_text r ++ (replies_text one ++ x) ≡ reply_text q ++ (replies_text other ++ y)
      whole = sym (append_assoc (reply_text r) (replies_text one) x) ∙ text ∙ append_assoc (reply_text q) (replies_text other) y

      by_kinds : (a b : Bool) → is_report r ≡ a → is_report q ≡ b → cond (not a) (r ∷ without_reports one) (without_reports one) ≡ z ∷ us → cond (not b) (q ∷ without_reports other) (without_reports other) ≡ w ∷ vs
          → (without_reports one ≡ z ∷ us → without_reports other ≡ w ∷ vs → replies_text one ++ x ≡ replies_text other ++ y → FirstTold z w us vs x y) → FirstTold z w us vs x y
      by_kinds true true r_is q_is one_here other_here again = again one_here other_here (same_report r q (replies_text one ++ x) (replies_text other ++ y) r_is q_is whole)
      by_kinds true false r_is q_is one_here other_here again = report_alone r q (replies_text one ++ x) (replies_text other ++ y) one_each.0 other_each.0 r_is q_is whole
      by_kinds false true r_is q_is one_here other_here again = report_alone q r (replies_text other ++ y) (replies_text one ++ x) other_each.0 one_each.0 q_is r_is (sym whole)
      by_kinds false false r_is q_is one_here other_here again =
          let r_same : r ≡ z = cc in
          let q_same : q ≡ w = cc in
          let one_more : without_reports one ≡ us = cc in
          let other_more : without_reports other ≡ vs = cc in
          record {
            z_on = subst IsOnConsole r_same one_each.0;
            w_on = subst IsOnConsole q_same other_each.0;
            s = replies_text one ++ x;
            t = replies_text other ++ y;
            text = ap (λ (p : Reply). reply_text p ++ (replies_text one ++ x)) (sym r_same) ∙ whole ∙ ap (λ (p : Reply). reply_text p ++ (replies_text other ++ y)) q_same;
            on = λ same. record { one = one; other = other; one_may = one_each.1; other_may = other_each.1; one_is = one_more; other_is = other_more; text = same };
          }

pub first_told : (z w : Reply) (us vs : List Reply) (x y : List ℕ) → BothTold (z ∷ us) (w ∷ vs) x y → FirstTold z w us vs x y
first_told z w us vs x y b = first_of z w us vs b.one b.other x y b.one_may b.other_may b.one_is b.other_is b.text

-- behind what both tell
pub behind_all : (zs us vs : List Reply) (x y : List ℕ) → BothTold (zs ++ us) (zs ++ vs) x y → BothTold us vs x y
behind_all [] us vs x y b = b
behind_all (z ∷ zs) us vs x y b =
    let f = first_told z z (zs ++ us) (zs ++ vs) x y b in
    behind_all zs us vs x y (f.on (append_cancel_left (reply_text z) f.s f.t f.text))

-- ---- one list goes on behind the other

-- The text behind the shorter list goes on with the others, or did before some reports that came first.
pub record Onward (vs : List Reply) (x y : List ℕ) : Type 0 where
  pub later : List ℕ
  pub tells : TellsNext x vs later
  pub reports : List Reply
  pub between : y ≡ replies_text reports ++ later
  pub each : AllByRecursion IsOnConsole reports
  pub are : AllByRecursion (λ r. is_report r ≡ true) reports

none_of_both : (us vs : List Reply) → [] ≡ us ++ vs → (us ≡ []) × (vs ≡ [])
none_of_both [] vs e = (refl, sym e)
none_of_both (u ∷ us) vs e = absurd cc

onward_of : (us vs one other : List Reply) (x y : List ℕ) → AllByRecursion IsOnConsole one → AllByRecursion IsOnConsole other → without_reports one ≡ us → without_reports other ≡ us ++ vs
    → replies_text one ++ x ≡ replies_text other ++ y → Onward vs x y
onward_of us vs [] other x y one_each other_each one_is other_is text = record {
  later = y;
  tells = record { replies = other; text = text; each = other_each; are = other_is ∙ ap (λ (ts : List Reply). ts ++ vs) (sym one_is) };
  reports = [];
  between = refl;
  each = tt;
  are = tt;
}
onward_of us vs (r ∷ one) [] x y one_each other_each one_is other_is text =
    let none = none_of_both us vs other_is in
    record {
      later = x;
      tells = record { replies = []; text = refl; each = tt; are = sym none.1 };
      reports = r ∷ one;
      between = sym text;
      each = one_each;
      are = all_reports (r ∷ one) (one_is ∙ none.0);
    }
onward_of us vs (r ∷ one) (q ∷ other) x y one_each other_each one_is other_is text =
    by_kinds (is_report r) (is_report q) refl refl one_is other_is
    (λ a b e. onward_of us vs one other x y one_each.1 other_each.1 a b e)
    (λ b e. onward_of (without_reports one) vs one other x y one_each.1 other_each.1 refl b e) where
      whole : reply_text r ++ (replies_text one ++ x) ≡ reply_text q ++ (replies_text other ++ y)
      whole = sym (append_assoc (reply_text r) (replies_text one) x) ∙ text ∙ append_assoc (reply_text q) (replies_text other) y

      by_kinds : (a b : Bool) → is_report r ≡ a → is_report q ≡ b → cond (not a) (r ∷ without_reports one) (without_reports one) ≡ us → cond (not b) (q ∷ without_reports other) (without_reports other) ≡ us ++ vs
          → (without_reports one ≡ us → without_reports other ≡ us ++ vs → replies_text one ++ x ≡ replies_text other ++ y → Onward vs x y)
          → (without_reports other ≡ without_reports one ++ vs → replies_text one ++ x ≡ replies_text other ++ y → Onward vs x y) → Onward vs x y
      by_kinds true true r_is q_is one_here other_here again on = again one_here other_here (same_report r q (replies_text one ++ x) (replies_text other ++ y) r_is q_is whole)
      by_kinds true false r_is q_is one_here other_here again on = report_alone r q (replies_text one ++ x) (replies_text other ++ y) one_each.0 other_each.0 r_is q_is whole
      by_kinds false true r_is q_is one_here other_here again on = report_alone q r (replies_text other ++ y) (replies_text one ++ x) other_each.0 one_each.0 q_is r_is (sym whole)
      by_kinds false false r_is q_is one_here other_here again on =
          let both : q ∷ without_reports other ≡ r ∷ (without_reports one ++ vs) = other_here ∙ ap (λ (ts : List Reply). ts ++ vs) (sym one_here) in
          let same : q ≡ r = cc in
          let more : without_reports other ≡ without_reports one ++ vs = cc in
          on more (append_cancel_left (reply_text r) (replies_text one ++ x) (replies_text other ++ y) (whole ∙ ap (λ (p : Reply). reply_text p ++ (replies_text other ++ y)) same))

pub onward : (us vs : List Reply) (x y : List ℕ) → BothTold us (us ++ vs) x y → Onward vs x y
onward us vs x y b = onward_of us vs b.one b.other x y b.one_may b.other_may b.one_is b.other_is b.text

-- what a text tells behind reports it tells also where some of these are left out
less : (reports replies : List Reply) (rest later : List ℕ) (first : Reply) (more : List Reply) → AllByRecursion IsOnConsole reports → AllByRecursion (λ r. is_report r ≡ true) reports → AllByRecursion IsOnConsole replies
    → without_reports replies ≡ first ∷ more → replies_text reports ++ rest ≡ replies_text replies ++ later → TellsNext rest (first ∷ more) later
less [] replies rest later first more each are told is text = record { replies = replies; text = text; each = told; are = is }
less (r ∷ rs) [] rest later first more each are told is text = absurd cc
less (r ∷ rs) (q ∷ qs) rest later first more each are told is text = by_kind (is_report q) refl is (λ b e. less rs qs rest later first more each.1 are.1 told.1 b e) where
  whole : reply_text r ++ (replies_text rs ++ rest) ≡ reply_text q ++ (replies_text qs ++ later)
  whole = sym (append_assoc (reply_text r) (replies_text rs) rest) ∙ text ∙ append_assoc (reply_text q) (replies_text qs) later

  by_kind : (b : Bool) → is_report q ≡ b → cond (not b) (q ∷ without_reports qs) (without_reports qs) ≡ first ∷ more
      → (without_reports qs ≡ first ∷ more → replies_text rs ++ rest ≡ replies_text qs ++ later → TellsNext rest (first ∷ more) later) → TellsNext rest (first ∷ more) later
  by_kind true report here again = again here (same_report r q (replies_text rs ++ rest) (replies_text qs ++ later) are.0 report whole)
  by_kind false plain here again = report_alone r q (replies_text rs ++ rest) (replies_text qs ++ later) each.0 told.0 are.0 plain whole

pub of_reset_plain : (r : Reply) → is_of_reset r ≡ true → (is_report r ≡ false) × IsOnConsole r
of_reset_plain Banner e = (refl, tt)
of_reset_plain (Alarm n) e = (refl, tt)
of_reset_plain Ok e = absurd cc
of_reset_plain (Error n) e = absurd cc
of_reset_plain (Message m) e = absurd cc
of_reset_plain (Report r) e = absurd cc
of_reset_plain (Setting n v) e = absurd cc
of_reset_plain (Modes m) e = absurd cc
of_reset_plain (Offset row at) e = absurd cc
of_reset_plain Bye e = absurd cc

-- something is told at a reset
greets : (alarm : Bool) (more : List Reply) → (first : Reply) × (behind : List Reply) × (cond alarm (Alarm 3 ∷ []) [] ++ Banner ∷ more ≡ first ∷ behind)
greets true more = (Alarm 3, Banner ∷ more, refl)
greets false more = (Banner, more, refl)

pub waits_later : (p : Point) (left : List Sent) (vs : List Reply) (x y : List ℕ) (o : Onward vs x y) → MayWait p left y → MayWait p left o.later
waits_later p left vs x y o waits unanswered =
    let w = waits unanswered in
    let t = w.tells in
    let g = greets w.reset.alarm (cond w.reset.locked (Message Locked ∷ []) []) in
    record {
      reset = w.reset;
      is = w.is;
      later = w.later;
      tells = subst (λ (rs : List Reply). TellsNext o.later rs w.later) (sym g.2) (less o.reports t.replies o.later w.later g.0 g.1 o.each o.are t.each (t.are ∙ g.2) (sym o.between ∙ t.text));
    }

-- ---- a line and a reset are told apart

next_sign : (one gone : List Reply) (x later : List ℕ) (r q : Reply) (more : List Reply) → AllByRecursion IsOnConsole one → AllByRecursion IsOnConsole gone → AllByRecursion (λ r. is_report r ≡ true) gone → is_report q ≡ false → IsOnConsole q
    → without_reports one ≡ r ∷ more → replies_text one ++ x ≡ replies_text gone ++ (reply_text q ++ later) → sign_of r ≡ sign_of q
next_sign [] gone x later r q more each gone_each gone_are plain on is text = absurd cc
next_sign (z ∷ one) [] x later r q more each gone_each gone_are plain on is text = by_kind (is_report z) refl is where
  whole : reply_text z ++ (replies_text one ++ x) ≡ reply_text q ++ later
  whole = sym (append_assoc (reply_text z) (replies_text one) x) ∙ text

  by_kind : (b : Bool) → is_report z ≡ b → cond (not b) (z ∷ without_reports one) (without_reports one) ≡ r ∷ more → sign_of r ≡ sign_of q
  by_kind true report here = report_alone z q (replies_text one ++ x) later each.0 on report plain whole
  by_kind false other here =
      let same : z ≡ r = cc in
      ap sign_of (sym same) ∙ one_sign z q (replies_text one ++ x) later each.0 on whole
next_sign (z ∷ one) (g ∷ gone) x later r q more each gone_each gone_are plain on is text =
    by_kind (is_report z) refl is (λ a e. next_sign one gone x later r q more each.1 gone_each.1 gone_are.1 plain on a e) where
      whole : reply_text z ++ (replies_text one ++ x) ≡ reply_text g ++ (replies_text gone ++ (reply_text q ++ later))
      whole = sym (append_assoc (reply_text z) (replies_text one) x) ∙ text ∙ append_assoc (reply_text g) (replies_text gone) (reply_text q ++ later)

      by_kind : (b : Bool) → is_report z ≡ b → cond (not b) (z ∷ without_reports one) (without_reports one) ≡ r ∷ more
          → (without_reports one ≡ r ∷ more → replies_text one ++ x ≡ replies_text gone ++ (reply_text q ++ later) → sign_of r ≡ sign_of q) → sign_of r ≡ sign_of q
      by_kind true report here again = again here (same_report z g (replies_text one ++ x) (replies_text gone ++ (reply_text q ++ later)) report gone_are.0 whole)
      by_kind false other here again = report_alone g z (replies_text gone ++ (reply_text q ++ later)) (replies_text one ++ x) gone_each.0 each.0 gone_are.0 other (sym whole)

-- the sign of a reply says whether a reset tells it
abbrev reset_sign : ℕ → Bool
reset_sign sign = nat_eq sign 13 || nat_eq sign 2

of_no_reset : (limit reset : Bool) → reset ≡ false → reset_sign (cond limit 1 (cond reset 2 3)) ≡ false
of_no_reset true reset e = refl
of_no_reset false true e = absurd cc
of_no_reset false false e = refl

line_sign : (r : Reply) → opens r ≡ false → reset_sign (sign_of r) ≡ false
line_sign Banner e = absurd cc
line_sign (Alarm n) e = of_no_reset (nat_eq n soft_limit) (nat_eq n 3) e
line_sign Ok e = refl
line_sign (Error n) e = refl
line_sign (Message m) e = refl
line_sign (Report r) e = refl
line_sign (Setting n v) e = refl
line_sign (Modes m) e = refl
line_sign (Offset row at) e = refl
line_sign Bye e = refl

three : (n : ℕ) → nat_eq n 3 ≡ true → n ≡ 3
three n e = grind (arith, nat_tests)

anew_sign : (r : Reply) → is_of_reset r ≡ true → reset_sign (sign_of r) ≡ true
anew_sign Banner e = refl
anew_sign (Alarm n) e = ap (λ (k : ℕ). reset_sign (sign_of (Alarm k))) (three n e)
anew_sign Ok e = absurd cc
anew_sign (Error n) e = absurd cc
anew_sign (Message m) e = absurd cc
anew_sign (Report r) e = absurd cc
anew_sign (Setting n v) e = absurd cc
anew_sign (Modes m) e = absurd cc
anew_sign (Offset row at) e = absurd cc
anew_sign Bye e = absurd cc

-- what is told of a line begins so
pub record FirstOfLine (o : Outcome) (us : List Reply) : Type 0 where
  pub first : Reply
  pub more : List Reply
  pub is : tells o.work ++ us ≡ first ∷ more
  pub quiet : opens first ≡ false

by_list : (o : Outcome) (us xs : List Reply) → tells o.work ≡ xs → Quiet xs → (xs ≡ [] → ⊥) → FirstOfLine o us
by_list o us [] e quiet some = absurd (some refl)
by_list o us (x ∷ xs) e quiet some = record { first = x; more = xs ++ us; is = ap (λ (ts : List Reply). ts ++ us) e; quiet = quiet.0 }

some_push : (xs : List Reply) (x : Reply) → xs ++ x ∷ [] ≡ [] → ⊥
some_push [] x e = cc
some_push (y ∷ xs) x e = cc

some_first : (x : Reply) (xs : List Reply) → ◌≡◌ {A = List Reply} (x ∷ xs) [] → ⊥
some_first x xs e = cc

pub first_of_line : (p : Point) (kept : List ℕ) (o : Outcome) (us : List Reply) → BecomesAt true p kept o → FirstOfLine o us
first_of_line p kept o us is = by_answer (line_answers true p kept o is) where
  quiet : Quiet (tells o.work)
  quiet = line_quiet true p kept o is

  by_answer : AnswersOrHalts p.before o → FirstOfLine o us
  by_answer (inl once) = by_list o us (once.body ++ o.answer ∷ []) once.told (subst Quiet once.told quiet) (some_push once.body o.answer)
  by_answer (inr same) =
      let told : tells o.work ≡ tells (limited p.before).work = ap (λ (x : Outcome). tells x.work) same in
      by_list o us (tells (limited p.before).work) told (subst Quiet told quiet) (some_first (Alarm soft_limit) _)

-- no text goes on with what is told of a line and with what is told at a reset
pub anew_alone : {A : Type 0} (p : Point) (kept : List ℕ) (o : Outcome) (us one : List Reply) (x : List ℕ) → BecomesAt true p kept o → without_reports one ≡ tells o.work ++ us → AllByRecursion IsOnConsole one
    → GoesOnAnew (replies_text one ++ x) → A
anew_alone p kept o us one x becomes is each anew =
    let f = first_of_line p kept o us becomes in
    let g = anew.2 in
    let plain = of_reset_plain anew.0 anew.1 in
    let signs = next_sign one g.reports x g.later f.first anew.0 f.more each g.each g.are plain.0 plain.1 (is ∙ f.is) g.text in
    absurd (let e : false ≡ true = sym (line_sign f.first f.quiet) ∙ ap reset_sign signs ∙ anew_sign anew.0 anew.1 in cc)

-- ---- the number of an error

either_long : (b : Bool) (n : ℕ) (xs ys : List ℕ) → n ≤ length xs → n ≤ length ys → n ≤ length (if b then xs else ys)
either_long true n xs ys e f = e
either_long false n xs ys e f = f

onto_long : (k n : ℕ) (acc : List ℕ) → length acc ≤ length (digits_onto k 10 false n acc)
onto_long zero n acc = omega arith
onto_long (suc k) n acc =
    let glyph = digit_glyph false (n % 10) in
    let more = onto_long k (n / 10) (glyph ∷ acc) in
    either_long (n / 10 == 0) (length acc) (glyph ∷ acc) (digits_onto k 10 false (n / 10) (glyph ∷ acc)) (omega arith) (omega (arith, more))

one_more : (k n c : ℕ) → 2 ≤ length (digits_onto (suc k) 10 false n (c ∷ []))
one_more k n c =
    let glyph = digit_glyph false (n % 10) in
    either_long (n / 10 == 0) 2 (glyph ∷ c ∷ []) (digits_onto k 10 false (n / 10) (glyph ∷ c ∷ [])) (omega arith) (onto_long k (n / 10) (glyph ∷ c ∷ []))

many_digits : (n : ℕ) → 10 ≤ n → 2 ≤ length (decimal n)
unfolding digits
many_digits n large =
    let glyph = digit_glyph false (n % 10) in
    let tenth : (n / 10 == 0) ≡ false = ne_eqb (n / 10) 0 (λ e. omega (arith, e, large)) in
    subst (λ (b : Bool). 2 ≤ length (if b then glyph ∷ [] else digits_onto 63 10 false (n / 10) (glyph ∷ []))) (sym tenth) (one_more 62 (n / 10) glyph)

-- a number of one digit is told by it
small_number : (n m : ℕ) → n < 10 → decimal n ≡ decimal m → n ≡ m
small_number n m small e = by_test (nat_lt m 10) refl where
  by_test : (b : Bool) → nat_lt m 10 ≡ b → n ≡ m
  by_test true few =
      let digits : (48 + n) ∷ [] ≡ (48 + m) ∷ [] = sym (decimal_digit n small) ∙ e ∙ decimal_digit m (ltb-true m 10 few) in
      let same : 48 + n ≡ 48 + m = cc in
      omega (arith, same)
  by_test false many =
      let long = many_digits m (ltb-false m 10 many) in
      let short : 1 ≡ length (decimal m) = ap length (sym (decimal_digit n small) ∙ e) in
      absurd (omega (arith, long, short))

by_first : (n : ℕ) (r : Reply) (s t : List ℕ) → n < 10 → ◌≡◌ {A = ℕ} 101 (first_byte r) → reply_text (Error n) ++ s ≡ reply_text r ++ t → Error n ≡ r
unfolding reply_text
by_first n (Error m) s t small first e = ap Error (small_number n m small (same_ended (decimal n) (decimal m) s t (decimal_inside n) (decimal_inside m) (ap (drop 6) e)).0)
by_first n Banner s t small first e = absurd (omega (arith, first))
by_first n Ok s t small first e = absurd (omega (arith, first))
by_first n (Alarm m) s t small first e = absurd (omega (arith, first))
by_first n (Message m) s t small first e = absurd (omega (arith, first))
by_first n (Report r) s t small first e = absurd (omega (arith, first))
by_first n (Setting m v) s t small first e = absurd (omega (arith, first))
by_first n (Modes m) s t small first e = absurd (omega (arith, first))
by_first n (Offset row at) s t small first e = absurd (omega (arith, first))
by_first n Bye s t small first e = absurd (omega (arith, first))

one_error : (n : ℕ) (r : Reply) (s t : List ℕ) → n < 10 → IsOnConsole r → reply_text (Error n) ++ s ≡ reply_text r ++ t → Error n ≡ r
one_error n r s t small on e = by_first n r s t small (one_first (Error n) r s t refl (no_bye r on) e) e

-- ---- one outcome of a line

few_errors : (dollar : Bool) → cond dollar 8 9 < 10
few_errors true = omega arith
few_errors false = omega arith

-- An error has one number.
refused_too : (p : Point) (kept : List ℕ) (o u : Outcome) (us vs : List Reply) (x y : List ℕ) → BecomesAt true p kept o → BecomesAt true p kept u → o ≡ refused p.before (motion_error kept)
    → BothTold (tells o.work ++ us) (tells u.work ++ vs) x y → o ≡ u
refused_too p kept o u us vs x y e f is told =
    let n = motion_error kept in
    let l = first_of_line p kept u vs f in
    let begins : BothTold (Error n ∷ us) (l.first ∷ l.more) x y =
    subst (λ (ts : List Reply). BothTold (Error n ∷ us) ts x y) l.is (subst (λ (a : Outcome). BothTold (tells a.work ++ us) (tells u.work ++ vs) x y) is told) in
    let both = first_told (Error n) l.first us l.more x y begins in
    let same : Error n ≡ l.first = one_error n l.first both.s both.t (few_errors (begins_with_dollar kept)) both.w_on both.text in
    told_one p kept o u l.more vs e f (ap (λ (a : Outcome). tells a.work ++ l.more) is ∙ ap (λ (r : Reply). r ∷ l.more) same ∙ sym l.is)

-- what a console tells of a line says what became of it
pub same_outcome : (p : Point) (kept : List ℕ) (o u : Outcome) (us vs : List Reply) (x y : List ℕ) → BecomesAt true p kept o → BecomesAt true p kept u → BothTold (tells o.work ++ us) (tells u.work ++ vs) x y → o ≡ u
same_outcome p kept o u us vs x y e f told = by_lock p.locked refl where
  by_agree : (o ≡ u) ⊎ ((o ≡ refused p.before (motion_error kept)) ⊎ (u ≡ refused p.before (motion_error kept))) → o ≡ u
  by_agree (inl same) = same
  by_agree (inr (inl is)) = refused_too p kept o u us vs x y e f is told
  by_agree (inr (inr is)) = sym (refused_too p kept u o vs us y x f e is (turned (tells o.work ++ us) (tells u.work ++ vs) x y told))

  by_lock : (c : Bool) → p.locked ≡ c → o ≡ u
  by_lock true locked = begun_one p kept o u (locked_begun p kept o locked e) (locked_begun p kept u locked f)
  by_lock false free = by_agree (outcomes_agree true p.before kept o u (free_becomes p kept o free e) (free_becomes p kept u free f))

-- ---- one alarm of a reset

-- a reset tells its alarm first, or the banner
alarm_first : (reply : Reply) → is_of_reset reply ≡ true → 2 ≡ sign_of reply → true ≡ not (is_banner reply)
alarm_first Banner e sign = absurd (omega (arith, sign))
alarm_first (Alarm n) e sign = refl
alarm_first Ok e sign = absurd cc
alarm_first (Error n) e sign = absurd cc
alarm_first (Message m) e sign = absurd cc
alarm_first (Report r) e sign = absurd cc
alarm_first (Setting n v) e sign = absurd cc
alarm_first (Modes m) e sign = absurd cc
alarm_first (Offset row at) e sign = absurd cc
alarm_first Bye e sign = absurd cc

no_banner_sign : {A : Type 0} (limit reset : Bool) → ◌≡◌ {A = ℕ} 13 (cond limit 1 (cond reset 2 3)) → A
no_banner_sign true reset e = absurd (omega (arith, e))
no_banner_sign false true e = absurd (omega (arith, e))
no_banner_sign false false e = absurd (omega (arith, e))

banner_first : (reply : Reply) → is_of_reset reply ≡ true → 13 ≡ sign_of reply → false ≡ not (is_banner reply)
banner_first Banner e sign = refl
banner_first (Alarm n) e sign = no_banner_sign (nat_eq n soft_limit) (nat_eq n 3) sign
banner_first Ok e sign = absurd cc
banner_first (Error n) e sign = absurd cc
banner_first (Message m) e sign = absurd cc
banner_first (Report r) e sign = absurd cc
banner_first (Setting n v) e sign = absurd cc
banner_first (Modes m) e sign = absurd cc
banner_first (Offset row at) e sign = absurd cc
banner_first Bye e sign = absurd cc

pub alarm_told : (rest later : List ℕ) (told : List Reply) (r : Reset) (reply : Reply) → TellsNext rest (told_at_reset r ++ told) later → GoesOnWith rest reply → is_of_reset reply ≡ true → r.alarm ≡ not (is_banner reply)
alarm_told rest later told r reply t g is = by_alarm r.alarm refl where
  behind : List Reply
  behind = cond r.locked (Message Locked ∷ []) []

  all : Bool → List Reply
  all alarm = (cond alarm (Alarm 3 ∷ []) [] ++ Banner ∷ behind) ++ told

  sign : (first : Reply) (more : List Reply) → told_at_reset r ++ told ≡ first ∷ more → sign_of first ≡ sign_of reply
  sign first more e =
      let plain = of_reset_plain reply is in
      next_sign t.replies g.reports later g.later first reply more t.each g.each g.are plain.0 plain.1 (t.are ∙ e) (sym t.text ∙ g.text)

  by_alarm : (alarm : Bool) → r.alarm ≡ alarm → r.alarm ≡ not (is_banner reply)
  by_alarm true e = e ∙ alarm_first reply is (sign (Alarm 3) (Banner ∷ (behind ++ told)) (ap all e))
  by_alarm false e = e ∙ banner_first reply is (sign Banner (behind ++ told) (ap all e))

pub same_alarm : (a b : Bool) (more less us vs : List Reply) (x y : List ℕ) → BothTold ((cond a (Alarm 3 ∷ []) [] ++ Banner ∷ more) ++ us) ((cond b (Alarm 3 ∷ []) [] ++ Banner ∷ less) ++ vs) x y → a ≡ b
same_alarm true true more less us vs x y told = refl
same_alarm false false more less us vs x y told = refl
same_alarm true false more less us vs x y told =
    let f = first_told (Alarm 3) Banner (Banner ∷ (more ++ us)) (less ++ vs) x y told in
    absurd (let e : ◌≡◌ {A = ℕ} 2 13 = one_sign (Alarm 3) Banner f.s f.t f.z_on f.w_on f.text in omega (arith, e))
same_alarm false true more less us vs x y told =
    let f = first_told Banner (Alarm 3) (more ++ us) (Banner ∷ (less ++ vs)) x y told in
    absurd (let e : ◌≡◌ {A = ℕ} 13 2 = one_sign Banner (Alarm 3) f.s f.t f.z_on f.w_on f.text in omega (arith, e))
