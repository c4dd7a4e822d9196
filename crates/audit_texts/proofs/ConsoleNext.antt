-- What stands next on a console, whatever follows.
use Rattle.std.proofs.Common.{◌≡◌, ◌≤◌, ◌<◌, ℕ, Bool, true, false, cond, nat_lt, List, [], ◌∷◌, ◌++◌, append_assoc, append-nil, length, Some, None, IfSome, sym, refl, ap, ◌∙◌, subst, arith}
use Rattle.std.specs.declared.option.Option.{Option}
use Rattle.std.specs.Io.KnownBytes.{Consumes}
use Rattle.std.specs.List.{AllByRecursion}
use Rattle.std.proofs.lemmas.Bool.{ltb-true, ltb-false}
use Rattle.std.proofs.lemmas.List.{append_cancel_left}
use Rattle.std.proofs.lemmas.List.Concat.{flat_map-append}
use Rattle.std.proofs.lemmas.List.Elements.{filter-append}
use Rattle.outside.specs.Causes.{SourceState}
use Rattle.status_report.specs.Answering.{without_reports, is_plain, is_report, is_bye}
use Rattle.status_report.specs.Replies.{reply_text}
use Rattle.status_report.specs.declared.Reply.{Reply}
use Rattle.status_report.specs.declared.Reply.TheVariants as replies
use Rattle.run_rules.specs.Told.{replies_text}
use Rattle.audit_rules.specs.Consoles.{IsOnConsole, Tells}
use Rattle.audit_rules.proofs.Replies.{all_joined, in_turn, comes_next}
use Rattle.audit_readers.specs.Console.{ConsoleRead, Skips}
use Rattle.audit_readers.specs.Windows.{ahead, too_long, TakesRest}
use Rattle.audit_readers.proofs.Alike.{BeginsWith, alike}
use Rattle.audit_readers.proofs.Going.{NoReport, no_report, only_reports, shown_next, no_report_next}
use Rattle.audit_texts.specs.SoFar.{ConsoleSoFar, IsWhole, TakesReply, IsNotNext, StandsNext, StandsAt, StandsSo, IsNextOn, IsHeardOn, IsMoreOn, FindsReply, HearsNot, EndsNot, known_of, is_looked_for, looked_for}
use Rattle.audit_texts.specs.declared.listening.Listening.{Listening}
use Rattle.audit_texts.proofs.ConsoleRead.{is_long, read_front, reports_skipped, no_reports, looked_apart, looked_some, some_text, not_next}

-- ---- where a console stands

begins_no_report : (rest : List ℕ) → NoReport rest → (report : Reply) (later : List ℕ) → is_report report ≡ true → IsOnConsole report → rest ≡ reply_text report ++ later → ⊥
begins_no_report rest none report later is on e = only_reports report is on (λ r same is_r widths. none r later is_r widths (e ∙ ap (λ (q : Reply). reply_text q ++ later) same))

-- reports that come next are told too
behind_more : (text : List ℕ) (told reports : List Reply) (rest : List ℕ) → AllByRecursion IsOnConsole reports → AllByRecursion (λ r. is_report r ≡ true) reports → Tells text told (replies_text reports ++ rest) → Tells text told rest
behind_more text told reports rest each are t = record {
  behind = t.behind ++ reports;
  text =
      t.text
      ∙ sym (append_assoc (replies_text (replies.Banner ∷ t.behind)) (replies_text reports) rest)
      ∙ ap (λ (bytes : List ℕ). bytes ++ rest) (sym (flat_map-append reply_text (replies.Banner ∷ t.behind) reports));
  each = all_joined IsOnConsole t.behind reports t.each each;
  are = filter-append is_plain t.behind reports ∙ ap (λ (rs : List Reply). without_reports t.behind ++ rs) (no_reports reports are) ∙ append-nil (without_reports t.behind) ∙ t.are;
}

-- no reply is known, and no report follows
at_place : (l : Listening) (s : SourceState) (text : List ℕ) (told : List Reply) → l.known ≡ None → (c : ConsoleSoFar l s text told) → NoReport c.read.rest → StandsAt text told c.read.rest
at_place l s text told unknown c none = record {
  tells = record { behind = c.behind; text = c.read.whole; each = c.each; are = c.are ∙ ap (λ (o : Option Reply). told ++ known_of o) unknown ∙ append-nil told };
  no_report = begins_no_report c.read.rest none;
}

looked_plain : (k : Reply) → is_looked_for k ≡ true → is_report k ≡ false
looked_plain (replies.Report x) early = absurd cc
looked_plain replies.Banner early = refl
looked_plain (replies.Error n) early = refl
looked_plain (replies.Alarm n) early = refl
looked_plain replies.Ok early = refl
looked_plain (replies.Message m) early = refl
looked_plain (replies.Setting n v) early = refl
looked_plain (replies.Modes m) early = refl
looked_plain (replies.Offset n at) early = refl
looked_plain replies.Bye early = refl

is_early : (l : Listening) (s : SourceState) (text : List ℕ) (told : List Reply) (k : Reply) → l.known ≡ Some k → ConsoleSoFar l s text told → is_looked_for k ≡ true
is_early l s text told k known c = subst (λ (o : Option Reply). IfSome o (λ r. is_looked_for r ≡ true)) known c.early

-- a reply is known: it comes next
pub at_known : (So : List ℕ → Type 0) (l : Listening) (s : SourceState) (k : Reply) → l.known ≡ Some k → (is_looked_for k ≡ true → (later : List ℕ) → So (reply_text k ++ later)) → StandsSo So l s
at_known So l s k known so = λ text told c short.
    let early = is_early l s text told k known c in
    let all : Tells text (told ++ k ∷ []) c.read.rest = record { behind = c.behind; text = c.read.whole; each = c.each; are = c.are ∙ ap (λ (o : Option Reply). told ++ known_of o) known } in
    let t = in_turn text told (k ∷ []) c.read.rest all in
    let g = comes_next t.back k [] c.read.rest t.is t.each in
    let rest = reply_text k ++ g.later in (
      rest,
      record {
        tells = behind_more text told g.reports rest g.each g.are (subst (λ (bytes : List ℕ). Tells text told bytes) g.text t.tells);
        no_report = begins_no_report rest (no_report k g.later (looked_plain k early) (looked_some k early));
      },
      so early g.later,
    )

short_place : (place : ℕ) (text : List ℕ) → place ≤ length text → (too_long ≤ length text → ⊥) → place < too_long
short_place place text within short = by_test (nat_lt place too_long) refl where
  by_test : (b : Bool) → nat_lt place too_long ≡ b → place < too_long
  by_test true e = ltb-true place too_long e
  by_test false e = absurd (short (let many = ltb-false place too_long e in omega (arith, many, within)))

-- no reply is known, and all reports were skipped
pub behind_skipped : (So : List ℕ → Type 0) (old mid : Listening) (s t : SourceState) → old.known ≡ None → mid.known ≡ None → Skips old.reader mid.reader s t
    → (mid.reader.place < too_long → (rest : List ℕ) → ahead mid.reader.window t ≡ Some rest → So rest) → StandsSo So old s
behind_skipped So old mid s t unknown still z so = λ text told c short.
    let d = reports_skipped old mid s t text told (still ∙ sym unknown) z c in
    let fits = short_place mid.reader.place text (is_long mid.reader.window t mid.reader.place text (read_front mid t text told d)) short in
    (d.read.rest, at_place mid t text told still d (no_report_next old.reader mid.reader s t d.read.rest z fits d.read.follows), so fits d.read.rest d.read.follows)

-- ---- what is looked for

-- a reply that is found is looked for
abbrev pub IsFoundOn : Option Reply → List ℕ → Type 0
IsFoundOn found rest = IfSome found (λ k. is_looked_for k ≡ true) × IsNextOn found rest

pub known_stands : (l : Listening) (s : SourceState) → (l.known ≡ None → ⊥) → StandsSo (IsFoundOn l.known) l s
known_stands l s some = by_known l.known refl where
  by_known : (o : Option Reply) → l.known ≡ o → StandsSo (IsFoundOn l.known) l s
  by_known None e = absurd (some e)
  by_known (Some k) e = at_known (IsFoundOn l.known) l s k e (λ early later. subst (λ (o : Option Reply). IsFoundOn o (reply_text k ++ later)) (sym e) (early, (later, refl)))

found_on : (old mid : ConsoleRead) (s t : SourceState) (rest : List ℕ) (found : Option Reply) → Skips old mid s t → ahead mid.window t ≡ Some rest → StandsNext mid found → IsFoundOn found rest
found_on old mid s t rest None z follows stands = (tt, λ reply early later e. not_next old mid s t rest later reply z follows e (stands reply early))
found_on old mid s t rest (Some k) z follows stands =
    let seen = shown_next old mid s t rest z follows in
    (stands.0, (stands.1 ++ seen.behind, seen.is ∙ ap (λ (bytes : List ℕ). bytes ++ seen.behind) stands.2 ∙ append_assoc (reply_text k) stands.1 seen.behind))

pub next_stands : (old mid : Listening) (s t : SourceState) (found : Option Reply) → old.known ≡ None → mid.known ≡ None → Skips old.reader mid.reader s t → (mid.reader.place < too_long → StandsNext mid.reader found)
    → StandsSo (IsFoundOn found) old s
next_stands old mid s t found unknown still z stands =
    behind_skipped (IsFoundOn found) old mid s t unknown still z (λ short rest follows. found_on old.reader mid.reader s t rest found z follows (stands short))

pub is_next : (found : Option Reply) (l : Listening) (s : SourceState) → StandsSo (IsFoundOn found) l s → StandsSo (IsNextOn found) l s
is_next found l s stands = λ text told c short. let x = stands text told c short in (x.0, x.1, x.2.1)

-- ---- what is heard

heard_known : (heard : Bool) (k reply : Reply) (later : List ℕ) → (heard ≡ true → k ≡ reply) → (heard ≡ false → is_looked_for k ≡ true → k ≡ reply → ⊥) → is_looked_for k ≡ true → IsHeardOn heard reply (reply_text k ++ later)
heard_known true k reply later same other early = (later, ap (λ (q : Reply). reply_text q ++ later) (same refl))
heard_known false k reply later same other early = λ some behind e. other refl early (looked_apart k reply later behind early some e)

pub known_heard_on : (l : Listening) (s : SourceState) (k reply : Reply) (heard : Bool) → l.known ≡ Some k → (heard ≡ true → k ≡ reply) → (heard ≡ false → is_looked_for k ≡ true → k ≡ reply → ⊥)
    → StandsSo (IsHeardOn heard reply) l s
known_heard_on l s k reply heard known same other = at_known (IsHeardOn heard reply) l s k known (λ early later. heard_known heard k reply later same other early)

heard_next : (old mid now : ConsoleRead) (s t : SourceState) (rest : List ℕ) (reply : Reply) (heard : Bool) → Skips old mid s t → ahead mid.window t ≡ Some rest → (heard ≡ true → TakesReply mid now reply)
    → (heard ≡ false → is_bye reply ≡ false → IsNotNext mid reply) → IsHeardOn heard reply rest
heard_next old mid now s t rest reply true z follows taken other =
    let seen = shown_next old mid s t rest z follows in
    let bytes = now.window.waiting in
    (bytes ++ seen.behind, seen.is ∙ ap (λ (b : List ℕ). b ++ seen.behind) (taken refl).waiting ∙ append_assoc (reply_text reply) bytes seen.behind)
heard_next old mid now s t rest reply false z follows taken other = λ some later e. not_next old mid s t rest later reply z follows e (other refl some)

pub reply_heard_on : (old mid now : Listening) (s t : SourceState) (reply : Reply) (heard : Bool) → old.known ≡ None → mid.known ≡ None → Skips old.reader mid.reader s t → (heard ≡ true → TakesReply mid.reader now.reader reply)
    → (heard ≡ false → mid.reader.place < too_long → is_bye reply ≡ false → IsNotNext mid.reader reply) → StandsSo (IsHeardOn heard reply) old s
reply_heard_on old mid now s t reply heard unknown still z taken other =
    behind_skipped (IsHeardOn heard reply) old mid s t unknown still z
    (λ short rest follows. heard_next old.reader mid.reader now.reader s t rest reply heard z follows taken (λ no some. other no short some))

-- ---- what follows the end

-- a reply is known
pub known_more : (none : Bool) (l : Listening) (s : SourceState) → (l.known ≡ None → ⊥) → StandsSo (IsMoreOn none) l s
known_more none l s some = by_known l.known refl where
  by_known : (o : Option Reply) → l.known ≡ o → StandsSo (IsMoreOn none) l s
  by_known None e = absurd (some e)
  by_known (Some k) e = at_known (IsMoreOn none) l s k e (λ early later no over. some_text k later (looked_some k early) over)

-- the text is too long
pub long_more : (none : Bool) (old mid : Listening) (s t : SourceState) → mid.known ≡ old.known → Skips old.reader mid.reader s t → too_long ≤ mid.reader.place → StandsSo (IsMoreOn none) old s
long_more none old mid s t known z long = λ text told c short.
    let d = reports_skipped old mid s t text told known z c in
    let within = is_long mid.reader.window t mid.reader.place text (read_front mid t text told d) in
    absurd (short (omega (arith, long, within)))

no_bytes : (o : Option (List ℕ)) (bytes : List ℕ) → Consumes (Some []) o bytes → bytes ≡ []
no_bytes None bytes e = absurd e
no_bytes (Some ys) [] e = refl
no_bytes (Some ys) (b ∷ bs) e = absurd cc

-- bytes follow, or it is at its end
pub rest_more : (none : Bool) (old mid now : Listening) (s t u : SourceState) → old.known ≡ None → mid.known ≡ None → Skips old.reader mid.reader s t
    → TakesRest mid.reader.window now.reader.window t u mid.reader.place now.reader.place → (none ≡ false → now.reader.place ≡ mid.reader.place → ⊥) → StandsSo (IsMoreOn none) old s
rest_more none old mid now s t u unknown still z taken more =
    behind_skipped (IsMoreOn none) old mid s t unknown still z
    (λ short rest follows no over.
    let nothing = no_bytes (ahead now.reader.window u) taken.some.bytes (subst (λ (o : Option (List ℕ)). Consumes o (ahead now.reader.window u) taken.some.bytes) (follows ∙ ap Some over) taken.some.text) in
    let count = taken.some.count in
    let long : length taken.some.bytes ≡ 0 = ap length nothing in
    more no (omega (arith, count, long)))

-- ---- of a console that is told whole

none_empty : NoReport []
none_empty r rest is widths e = some_text (replies.Report r) rest refl (sym e)

-- it goes on with the next reply, or ends
next_of_whole : (text : List ℕ) (told more : List Reply) (rest : List ℕ) → StandsAt text told rest → IsWhole text (told ++ more) → BeginsWith more [] rest
next_of_whole text told more rest x w =
    let g = alike told [] more x.tells.behind w.behind rest [] x.tells.each w.each (x.tells.are ∙ sym (append-nil told)) w.are
    (λ e r later is widths. x.no_report (replies.Report r) later refl (is, widths)) (λ e. none_empty)
    (append_cancel_left (reply_text replies.Banner) (replies_text x.tells.behind ++ rest) (replies_text w.behind ++ [])
    (sym (append_assoc (reply_text replies.Banner) (replies_text x.tells.behind) rest) ∙ sym x.tells.text ∙ w.text_is ∙ ap (λ (t : List ℕ). reply_text replies.Banner ++ t) (sym (append-nil (replies_text w.behind)))))
    in
    subst (λ (t : List ℕ). BeginsWith more [] t) g.one g.other

found_of : (found : Option Reply) (more : List Reply) (rest : List ℕ) → IsFoundOn found rest → BeginsWith more [] rest → found ≡ looked_for more
found_of None [] rest x next = refl
found_of None (r ∷ more) rest x next = by_test (is_looked_for r) refl where
  by_test : (b : Bool) → is_looked_for r ≡ b → None ≡ cond (is_looked_for r) (Some r) None
  by_test true early = absurd (x.1 r early next.2 next.3)
  by_test false other = sym (ap (λ (b : Bool). cond b (Some r) None) other)
found_of (Some k) [] rest x next = some_text k x.1.0 (looked_some k x.0) (sym x.1.1 ∙ next)
found_of (Some k) (r ∷ more) rest x next =
    let same : k ≡ r = looked_apart k r x.1.0 next.2 x.0 next.1 (sym x.1.1 ∙ next.3) in
    sym (ap (λ (b : Bool). cond b (Some k) None) x.0) ∙ ap (λ (q : Reply). cond (is_looked_for q) (Some q) None) same

pub finds : (found : Option Reply) (l : Listening) (s : SourceState) → StandsSo (IsFoundOn found) l s → FindsReply found l s
finds found l s stands = λ text told more c all.
    let x = stands text told c all.short in
    found_of found more x.0 x.2 (next_of_whole text told more x.0 x.1 all.whole)

pub hears_not : (heard : Bool) (l : Listening) (s : SourceState) (reply : Reply) → StandsSo (IsHeardOn heard reply) l s → HearsNot heard l s reply
hears_not true l s reply stands = λ no text told more c all. absurd cc
hears_not false l s reply stands = λ no text told more c all.
    let x = stands text told c all.short in
    let next = next_of_whole text told (reply ∷ more) x.0 x.1 all.whole in
    x.2 next.1 next.2 next.3

pub ends_not : (none : Bool) (l : Listening) (s : SourceState) → StandsSo (IsMoreOn none) l s → EndsNot none l s
ends_not none l s stands = λ no text told c all.
    let x = stands text told c all.short in
    x.2 no (next_of_whole text told [] x.0 x.1 (subst (IsWhole text) (sym (append-nil told)) all.whole))
