-- Reports that are skipped.
use Rattle.std.proofs.Common.{◌≡◌, ◌<◌, ◌+◌, ◌-◌, ℕ, true, List, [], ◌∷◌, ◌++◌, length, drop, append_assoc, append-nil, length-append, Some, None, refl, sym, ap, ◌∙◌, subst, arith}
use Rattle.std.specs.declared.option.Option.{Option}
use Rattle.std.specs.Io.KnownBytes.{Consumes, Keeps, prepend_known}
use Rattle.std.proofs.lemmas.Grind.{flat_map-append}
use Rattle.std.proofs.lemmas.List.{drop_at}
use Rattle.outside.specs.Causes.{Rose, SourceState}
use Rattle.status_report.specs.Answering.{is_report}
use Rattle.status_report.specs.Replies.{reply_text}
use Rattle.status_report.specs.Reports.{IsReport, HasWidths, report_text}
use Rattle.status_report.specs.declared.Reply.TheVariants.{Report as Reporting}
use Rattle.status_report.specs.declared.reports.Report.{Report}
use Rattle.run_rules.specs.Told.{replies_text}
use Rattle.audit_rules.specs.Consoles.{IsOnConsole}
use Rattle.audit_rules.proofs.Replies.{all_joined}
use Rattle.audit_readers.specs.Windows.{ahead, KnowsEnd, FillsUp, FailsToFill, Stays}
use Rattle.audit_readers.specs.Console.{ConsoleRead, LooksAhead, TakesReport, SkipsSome, Skips, FailsToSkip}
use Rattle.audit_readers.specs.Windows.{too_long}

pub rest_is : (name text rest : List ℕ) → text ≡ name ++ rest → text ≡ name ++ drop (length name) text
rest_is name text rest e = e ∙ ap (λ (t : List ℕ). name ++ t) (sym (ap (drop (length name)) e ∙ drop_at name rest (length name) refl))

-- ---- known bytes

pub none_consumed : (o p : Option (List ℕ)) → Keeps o p → Consumes o p []
none_consumed None p k = tt
none_consumed (Some xs) None k = absurd k
none_consumed (Some xs) (Some ys) k = sym k

pub consumed_on : (o p q : Option (List ℕ)) (xs ys : List ℕ) → Consumes o p xs → Consumes p q ys → Consumes o q (xs ++ ys)
consumed_on None p q xs ys a b = tt
consumed_on (Some us) None q xs ys a b = absurd a
consumed_on (Some us) (Some vs) None xs ys a b = absurd b
consumed_on (Some us) (Some vs) (Some ws) xs ys a b = a ∙ ap (λ (t : List ℕ). xs ++ t) b ∙ sym (append_assoc xs ys ws)

pub taken_ahead : (name waiting rest : List ℕ) (left : Option (List ℕ)) → waiting ≡ name ++ rest → Consumes (prepend_known waiting left) (prepend_known rest left) name
taken_ahead name waiting rest None e = tt
taken_ahead name waiting rest (Some ys) e = ap (λ (t : List ℕ). t ++ ys) e ∙ append_assoc name rest ys

-- a report's text is not empty
report_some : (r : Report) → 0 < length (reply_text (Reporting r))
unfolding reply_text report_text
report_some r = simp length-append (omega arith)

-- ---- the loop

pub record HasSkipped (old now : ConsoleRead) (before after : SourceState) : Type 0 where
  pub some : SkipsSome old now before after
  pub looks : LooksAhead now.window
  pub same : after.faults ≡ before.faults

some_stays : (old now : ConsoleRead) (s t : SourceState) → Stays old.window now.window s t → now.place ≡ old.place → SkipsSome old now s t
some_stays old now s t stays place = record {
  reports = [];
  each = tt;
  are = tt;
  text = none_consumed (ahead old.window s) (ahead now.window t) stays.kept;
  place = omega (arith, place);
  known = stays.known;
}

pub nothing_skipped : (old now : ConsoleRead) (s t : SourceState) → FillsUp old.window now.window s t → now.place ≡ old.place → HasSkipped old now s t
nothing_skipped old now s t f place = record { some = some_stays old now s t f.stays place; looks = f.enough; same = f.same }

pub nothing_read : (old now : ConsoleRead) (s t : SourceState) → FailsToFill old.window now.window s t → now.place ≡ old.place → FailsToSkip old now s t
nothing_read old now s t f place = record { some = some_stays old now s t f.stays place; rose = f.rose }

-- one report more is taken
report_more : (a b c d : ConsoleRead) (s t u : SourceState) → SkipsSome a b s t → TakesReport b c → Stays c.window d.window t u → d.place ≡ c.place → SkipsSome a d s u
report_more a b c d s t u h one stays place =
    let more : replies_text (h.reports ++ Reporting one.report ∷ []) ≡ replies_text h.reports ++ reply_text (Reporting one.report) =
    flat_map-append reply_text h.reports (Reporting one.report ∷ []) ∙ ap (λ (bytes : List ℕ). replies_text h.reports ++ bytes) (append-nil (reply_text (Reporting one.report))) in
    let taken = taken_ahead (reply_text (Reporting one.report)) b.window.waiting c.window.waiting t.left one.text in
    let all = consumed_on (ahead a.window s) (ahead b.window t) (ahead c.window t) (replies_text h.reports) (reply_text (Reporting one.report)) h.text taken in
    let on = consumed_on (ahead a.window s) (ahead c.window t) (ahead d.window u) (replies_text h.reports ++ reply_text (Reporting one.report)) [] all (none_consumed (ahead c.window t) (ahead d.window u) stays.kept) in
    let long : length (replies_text h.reports ++ reply_text (Reporting one.report)) ≡ length (replies_text h.reports) + length (reply_text (Reporting one.report)) = length-append (replies_text h.reports) (reply_text (Reporting one.report)) in
    let all_long : length (replies_text (h.reports ++ Reporting one.report ∷ [])) ≡ length (replies_text h.reports ++ reply_text (Reporting one.report)) = ap length more in
    let before = h.place in
    let here = one.place in
    record {
      reports = h.reports ++ Reporting one.report ∷ [];
      each = all_joined IsOnConsole h.reports (Reporting one.report ∷ []) h.each ((one.is, one.widths), tt);
      are = all_joined (λ r. is_report r ≡ true) h.reports (Reporting one.report ∷ []) h.are (refl, tt);
      text = subst (λ (bytes : List ℕ). Consumes (ahead a.window s) (ahead d.window u) bytes) (append-nil (replies_text h.reports ++ reply_text (Reporting one.report)) ∙ sym more) on;
      place = omega (arith, place, before, here, long, all_long);
      known = stays.known;
    }

pub one_skipped : (a b c d : ConsoleRead) (s t u : SourceState) → HasSkipped a b s t → TakesReport b c → FillsUp c.window d.window t u → d.place ≡ c.place → HasSkipped a d s u
one_skipped a b c d s t u h one f place = record { some = report_more a b c d s t u h.some one f.stays place; looks = f.enough; same = f.same ∙ h.same }

pub rose_from : (a b c : ℕ) → b ≡ a → Rose b c → Rose a c
rose_from a b c e r = subst (λ (k : ℕ). Rose k c) e r

pub skipping_failed : (a b c d : ConsoleRead) (s t u : SourceState) → HasSkipped a b s t → TakesReport b c → FailsToFill c.window d.window t u → d.place ≡ c.place → FailsToSkip a d s u
skipping_failed a b c d s t u h one f place = record { some = report_more a b c d s t u h.some one f.stays place; rose = rose_from s.faults t.faults u.faults h.same f.rose }

-- the end that is known stays known
pub known_on : (a b c : ConsoleRead) (s t : SourceState) → HasSkipped a b s t → TakesReport b c → KnowsEnd c.window t
known_on a b c s t h one e = h.some.known (sym one.ended ∙ e)

pub all_skipped : (a b : ConsoleRead) (s t : SourceState) → HasSkipped a b s t
    → (b.place < too_long → (report : Report) (rest : List ℕ) → IsReport report → HasWidths report → b.window.waiting ≡ reply_text (Reporting report) ++ rest → ⊥) → Skips a b s t
all_skipped a b s t h none = record { some = h.some; looks = h.looks; none = none; same = h.same }

pub less_left : (b c d : ConsoleRead) → b.place < too_long → TakesReport b c → d.place ≡ c.place → too_long - d.place < too_long - b.place
less_left b c d short one same =
    let some = report_some one.report in
    let here = one.place in
    omega (arith, short, some, here, same)

pub taken_front : (name seen waiting rest : List ℕ) (count : ℕ) → seen ≡ waiting → seen ≡ name ++ drop (length name) seen → count ≡ length name → rest ≡ drop count waiting → waiting ≡ name ++ rest
taken_front name seen waiting rest count same begins long taken =
    let left : drop (length name) seen ≡ rest = ap (drop (length name)) same ∙ ap (λ (n : ℕ). drop n waiting) (sym long) ∙ sym taken in
    sym same ∙ begins ∙ ap (λ (t : List ℕ). name ++ t) left
