-- A console goes on with the reply that is taken behind its reports.
use Rattle.std.proofs.Common.{◌≡◌, ◌<◌, ◌≤◌, ◌⊎◌, ◌↔◌, inl, inr, ℕ, true, false, List, [], ◌∷◌, ◌++◌, length, drop, append_assoc, Some, None, refl, sym, ap, ◌∙◌, subst, arith}
use Rattle.std.specs.List.{AllByRecursion}
use Rattle.std.specs.declared.option.Option.{Option}
use Rattle.std.specs.Io.KnownBytes.{Consumes, IsAtEnd}
use Rattle.std.proofs.lemmas.Option.{some_pair_parts}
use Rattle.outside.specs.Causes.{SourceState}
use Rattle.status_report.specs.Answering.{is_report, is_bye}
use Rattle.status_report.specs.Replies.{reply_text}
use Rattle.status_report.specs.Reports.{IsReport, HasWidths}
use Rattle.status_report.specs.declared.Reply.{Reply}
use Rattle.status_report.specs.declared.Reply.TheVariants.{Banner, Ok as Accepted, Error, Alarm, Message as Telling, Report as Reporting, Setting, Modes, Offset, Bye}
use Rattle.status_report.specs.declared.reports.Report.{Report}
use Rattle.run_rules.specs.Told.{replies_text}
use Rattle.audit_rules.specs.Consoles.{IsOnConsole, GoesOnWith}
use Rattle.audit_readers.specs.Windows.{ahead, look_ahead}
use Rattle.audit_readers.specs.Console.{ConsoleRead, LooksAhead, Skips}
use Rattle.audit_readers.specs.Windows.{too_long}
use Rattle.audit_readers.specs.Reports.{report_at}
use Rattle.audit_rules.proofs.OneText.{first_byte, one_first}
use Rattle.audit_readers.proofs.Reporting.{report_again, report_short}
use Rattle.audit_readers.proofs.Stepping.{Seen, seen_by, front_waits}

-- ---- a report begins with `<`, and no other reply does

-- no report begins a text
abbrev pub NoReport : List ℕ → Type 0
NoReport text = (r : Report) (rest : List ℕ) → IsReport r → HasWidths r → text ≡ reply_text (Reporting r) ++ rest → ⊥

not_report : (reply : Reply) → is_report reply ≡ false → is_bye reply ≡ false → first_byte reply ≡ 60 → ⊥
not_report Banner plain some e = omega (arith, e)
not_report Accepted plain some e = omega (arith, e)
not_report (Error n) plain some e = omega (arith, e)
not_report (Alarm n) plain some e = omega (arith, e)
not_report (Telling m) plain some e = omega (arith, e)
not_report (Reporting r) plain some e = absurd cc
not_report (Setting n value) plain some e = omega (arith, e)
not_report (Modes m) plain some e = omega (arith, e)
not_report (Offset row at) plain some e = omega (arith, e)
not_report Bye plain some e = absurd cc

pub no_report : (reply : Reply) (later : List ℕ) → is_report reply ≡ false → is_bye reply ≡ false → NoReport (reply_text reply ++ later)
no_report reply later plain some r rest is widths e = not_report reply plain some (one_first reply (Reporting r) later rest some refl e)

-- ---- the reports that stand next are those of one list

pub only_reports : {A : Type 0} (reply : Reply) → is_report reply ≡ true → IsOnConsole reply → ((r : Report) → reply ≡ Reporting r → IsReport r → HasWidths r → A) → A
only_reports (Reporting r) is on f = f r refl on.0 on.1
only_reports Banner is on f = absurd cc
only_reports Accepted is on f = absurd cc
only_reports (Error n) is on f = absurd cc
only_reports (Alarm n) is on f = absurd cc
only_reports (Telling m) is on f = absurd cc
only_reports (Setting n v) is on f = absurd cc
only_reports (Modes m) is on f = absurd cc
only_reports (Offset row at) is on f = absurd cc
only_reports Bye is on f = absurd cc

pub one_report : (r q : Report) (xs ys : List ℕ) → IsReport r → HasWidths r → IsReport q → HasWidths q → reply_text (Reporting r) ++ xs ≡ reply_text (Reporting q) ++ ys → xs ≡ ys
one_report r q xs ys is_r w_r is_q w_q e =
    let both : Some (r, 13 ∷ 10 ∷ xs) ≡ Some (q, 13 ∷ 10 ∷ ys) = sym (report_again r xs is_r w_r) ∙ ap report_at e ∙ report_again q ys is_q w_q in
    let rests : 13 ∷ 10 ∷ xs ≡ 13 ∷ 10 ∷ ys = (some_pair_parts r q (13 ∷ 10 ∷ xs) (13 ∷ 10 ∷ ys) both).1 in
    ap (drop 2) rests

same_rest : (gs ss : List Reply) (x y : List ℕ) → AllByRecursion IsOnConsole gs → AllByRecursion (λ r. is_report r ≡ true) gs → AllByRecursion IsOnConsole ss → AllByRecursion (λ r. is_report r ≡ true) ss
    → NoReport x → NoReport y → replies_text gs ++ x ≡ replies_text ss ++ y → x ≡ y
same_rest [] [] x y each_g are_g each_s are_s none_x none_y e = e
same_rest [] (s ∷ ss) x y each_g are_g each_s are_s none_x none_y e =
    only_reports s are_s.0 each_s.0 (λ r same is widths. absurd (none_x r (replies_text ss ++ y) is widths
    (e ∙ append_assoc (reply_text s) (replies_text ss) y ∙ ap (λ (q : Reply). reply_text q ++ (replies_text ss ++ y)) same)))
same_rest (g ∷ gs) [] x y each_g are_g each_s are_s none_x none_y e =
    only_reports g are_g.0 each_g.0 (λ r same is widths. absurd (none_y r (replies_text gs ++ x) is widths
    (sym e ∙ append_assoc (reply_text g) (replies_text gs) x ∙ ap (λ (q : Reply). reply_text q ++ (replies_text gs ++ x)) same)))
same_rest (g ∷ gs) (s ∷ ss) x y each_g are_g each_s are_s none_x none_y e =
    let again = same_rest gs ss x y each_g.1 are_g.1 each_s.1 are_s.1 none_x none_y in
    only_reports g are_g.0 each_g.0 (λ r same_r is_r w_r. only_reports s are_s.0 each_s.0 (λ q same_q is_q w_q.
    again (one_report r q (replies_text gs ++ x) (replies_text ss ++ y) is_r w_r is_q w_q
    (ap (λ (t : Reply). reply_text t ++ (replies_text gs ++ x)) (sym same_r) ∙ sym (append_assoc (reply_text g) (replies_text gs) x) ∙ e ∙ append_assoc (reply_text s) (replies_text ss) y
    ∙ ap (λ (t : Reply). reply_text t ++ (replies_text ss ++ y)) same_q))))

-- ---- what follows the reports that were taken

record Follows (text : List ℕ) (reports : List Reply) (now : Option (List ℕ)) : Type 0 where
  pub rest : List ℕ
  pub text_is : text ≡ replies_text reports ++ rest
  pub is : now ≡ Some rest

follows_by : (text : List ℕ) (reports : List Reply) (now : Option (List ℕ)) → Consumes (Some text) now (replies_text reports) → Follows text reports now
follows_by text reports None c = absurd c
follows_by text reports (Some rest) c = record { rest = rest; text_is = c; is = refl }

-- what waits behind reports that were skipped shows what follows
pub shown_next : (old now : ConsoleRead) (s t : SourceState) (rest : List ℕ) → Skips old now s t → ahead now.window t ≡ Some rest → Seen now.window rest
shown_next old now s t rest z e = seen_by now.window t.left rest (by z.looks) e where
  by : LooksAhead now.window → (look_ahead ≤ length now.window.waiting) ⊎ IsAtEnd t.left
  by (inl many) = inl many
  by (inr over) = inr (z.some.known over)

-- and no report follows them
pub no_report_next : (old now : ConsoleRead) (s t : SourceState) (rest : List ℕ) → Skips old now s t → now.place < too_long → ahead now.window t ≡ Some rest → NoReport rest
no_report_next old now s t rest z short e r later is widths g =
    z.none short r (drop (length (reply_text (Reporting r))) now.window.waiting) is widths
    (front_waits now.window rest (reply_text (Reporting r)) later (shown_next old now s t rest z e) (report_short r is widths) g)

pub goes_on : (old now : ConsoleRead) (s t : SourceState) (text : List ℕ) (reply : Reply) → Skips old now s t → now.place < too_long → ahead old.window s ≡ Some text
    → is_report reply ≡ false → is_bye reply ≡ false → length (reply_text reply) ≤ look_ahead
    → GoesOnWith text reply ↔ (now.window.waiting ≡ reply_text reply ++ drop (length (reply_text reply)) now.window.waiting)
goes_on old now s t text reply z short e plain some fits = (to, from) where
  f : Follows text z.some.reports (ahead now.window t)
  f = follows_by text z.some.reports (ahead now.window t) (subst (λ (o : Option (List ℕ)). Consumes o (ahead now.window t) (replies_text z.some.reports)) e z.some.text)

  shown : Seen now.window f.rest
  shown = shown_next old now s t f.rest z f.is

  to : GoesOnWith text reply → now.window.waiting ≡ reply_text reply ++ drop (length (reply_text reply)) now.window.waiting
  to g =
      let same = same_rest g.reports z.some.reports (reply_text reply ++ g.later) f.rest g.each g.are z.some.each z.some.are (no_report reply g.later plain some) (no_report_next old now s t f.rest z short f.is) (sym g.text ∙ f.text_is) in
      front_waits now.window f.rest (reply_text reply) g.later shown fits (sym same)

  from : now.window.waiting ≡ reply_text reply ++ drop (length (reply_text reply)) now.window.waiting → GoesOnWith text reply
  from g = record {
    reports = z.some.reports;
    later = drop (length (reply_text reply)) now.window.waiting ++ shown.behind;
    text =
        f.text_is ∙ ap (λ (bytes : List ℕ). replies_text z.some.reports ++ bytes)
        (shown.is ∙ ap (λ (bytes : List ℕ). bytes ++ shown.behind) g ∙ append_assoc (reply_text reply) (drop (length (reply_text reply)) now.window.waiting) shown.behind);
    each = z.some.each;
    are = z.some.are;
  }
