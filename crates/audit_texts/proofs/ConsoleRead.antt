-- The console, as far as it was read.
use Rattle.std.proofs.Common.{◌≡◌, ◌≤◌, ◌<◌, ◌+◌, ◌⊎◌, inl, inr, ℕ, Bool, true, false, cond, not, List, [], ◌∷◌, ◌++◌, append_assoc, append-nil, length, length-append, drop, Some, None, IfSome, sym, refl, ap, ◌∙◌, subst, arith}
use Rattle.std.specs.declared.option.Option.{Option}
use Rattle.std.specs.Io.KnownBytes.{Consumes, IsAtEnd, prepend_known}
use Rattle.std.specs.List.{AllByRecursion}
use Rattle.std.proofs.lemmas.Bool.Decides.{nat_tests}
use Rattle.std.proofs.lemmas.List.{nil_from_length}
use Rattle.std.proofs.lemmas.List.Concat.{flat_map-append}
use Rattle.std.proofs.lemmas.List.Elements.{filter-append}
use Rattle.outside.specs.Causes.{SourceState}
use Rattle.status_report.specs.Answering.{without_reports, is_plain, is_report, is_bye}
use Rattle.status_report.specs.Replies.{reply_text}
use Rattle.status_report.specs.declared.Reply.{Reply}
use Rattle.status_report.specs.declared.Reply.TheVariants as replies
use Rattle.run_rules.specs.Told.{replies_text}
use Rattle.audit_rules.specs.Consoles.{IsOnConsole}
use Rattle.audit_rules.specs.Telling.{HasNoBanner}
use Rattle.audit_rules.proofs.Replies.{all_joined}
use Rattle.audit_readers.specs.Console.{ConsoleRead, Skips}
use Rattle.audit_readers.specs.Windows.{Window, ahead, too_long, KnowsEnd, TakesRest}
use Rattle.audit_readers.proofs.Skipping.{taken_ahead}
use Rattle.audit_rules.proofs.OneText.{begins_so, one_first}
use Rattle.audit_readers.proofs.Apart.{banner_apart, error_apart, alarm_apart}
use Rattle.audit_readers.proofs.Going.{no_report, only_reports, shown_next}
use Rattle.audit_readers.proofs.Stepping.{front_waits}
use Rattle.audit_texts.specs.SoFar.{ConsoleSoFar, Opens, Hears, HasRead, IsRead, IsReadTo, IsReadOn, IsWhole, TakesReply, IsNotNext, BecomesKnown, known_of, is_looked_for}
use Rattle.audit_texts.specs.declared.listening.Listening.{Listening}

-- ---- bytes

-- bytes more were taken of a text
pub read_more : (w v : Window) (s t : SourceState) (place now : ℕ) (text front bytes : List ℕ) → HasRead w s place text front → Consumes (ahead w s) (ahead v t) bytes → now ≡ place + length bytes → HasRead v t now text (front ++ bytes)
read_more w v s t place now text front bytes h taken is = by_ahead (ahead v t) refl (subst (λ (o : Option (List ℕ)). Consumes o (ahead v t) bytes) h.follows taken) where
  by_ahead : (o : Option (List ℕ)) → ahead v t ≡ o → Consumes (Some h.rest) o bytes → HasRead v t now text (front ++ bytes)
  by_ahead None e c = absurd c
  by_ahead (Some rest) e c =
      let count = h.count in
      let long = length-append front bytes in
      record {
        rest = rest;
        whole = h.whole ∙ ap (λ (r : List ℕ). front ++ r) c ∙ sym (append_assoc front bytes rest);
        follows = e;
        count = omega (arith, is, count, long);
      }

pub read_to_more : (w v : Window) (s t : SourceState) (place now : ℕ) (text bytes : List ℕ) → IsReadTo w s place text → Consumes (ahead w s) (ahead v t) bytes → now ≡ place + length bytes → IsReadTo v t now text
read_to_more w v s t place now text bytes h taken is = (h.0 ++ bytes, read_more w v s t place now text h.0 bytes h.1 taken is)

-- a text that was read up to a place is no shorter
pub is_long : (w : Window) (s : SourceState) (place : ℕ) (text : List ℕ) → IsReadTo w s place text → place ≤ length text
is_long w s place text h =
    let count = h.1.count in
    let long : length text ≡ length h.0 + length h.1.rest = ap length h.1.whole ∙ length-append h.0 h.1.rest in
    omega (arith, count, long)

-- nothing follows
at_end : (w : Window) (s : SourceState) (rest : List ℕ) → ahead w s ≡ Some rest → w.waiting ≡ [] → IsAtEnd s.left → rest ≡ []
at_end w s rest e none over = by_left s.left refl over where
  by_left : (o : Option (List ℕ)) → s.left ≡ o → IsAtEnd o → rest ≡ []
  by_left None f over = absurd (let g : None ≡ Some rest = sym (ap (prepend_known w.waiting) f) ∙ e in cc)
  by_left (Some xs) f over =
      let g : Some (w.waiting ++ xs) ≡ Some rest = sym (ap (prepend_known w.waiting) f) ∙ e in
      let same : w.waiting ++ xs ≡ rest = cc in
      sym same ∙ ap (λ (b : List ℕ). b ++ xs) none ∙ over

-- a text that was read to its end is not too long, if its place is not
pub short_text : {A : Type 0} (w : Window) (s : SourceState) (place : ℕ) (text : List ℕ) → IsReadTo w s place text → KnowsEnd w s → IsRead w place → (too_long ≤ place → ⊥) → too_long ≤ length text → A
short_text w s place text h known (inl many) short long = absurd (short many)
short_text w s place text h known (inr over) short long =
    let none : h.1.rest ≡ [] = at_end w s h.1.rest h.1.follows over.0 (known over.1) in
    let count = h.1.count in
    let whole : length text ≡ length h.0 = ap length (h.1.whole ∙ ap (λ (r : List ℕ). h.0 ++ r) none ∙ append-nil h.0) in
    absurd (short (omega (arith, long, whole, count)))

-- ---- replies

pub no_reports : (rs : List Reply) → AllByRecursion (λ r. is_report r ≡ true) rs → without_reports rs ≡ []
no_reports [] all = refl
no_reports (r ∷ rs) all = ap (λ (b : Bool). cond (not b) (r ∷ without_reports rs) (without_reports rs)) all.0 ∙ no_reports rs all.1

pub reports_skipped : (old now : Listening) (s t : SourceState) (text : List ℕ) (told : List Reply) → now.known ≡ old.known → Skips old.reader now.reader s t → ConsoleSoFar old s text told → ConsoleSoFar now t text told
reports_skipped old now s t text told known z c = record {
  behind = c.behind ++ z.some.reports;
  read = subst (HasRead now.reader.window t now.reader.place text) (sym (flat_map-append reply_text (replies.Banner ∷ c.behind) z.some.reports))
      (read_more old.reader.window now.reader.window s t old.reader.place now.reader.place text (replies_text (replies.Banner ∷ c.behind)) (replies_text z.some.reports) c.read z.some.text z.some.place);
  each = all_joined IsOnConsole c.behind z.some.reports c.each z.some.each;
  are =
      filter-append is_plain c.behind z.some.reports
      ∙ ap (λ (rs : List Reply). without_reports c.behind ++ rs) (no_reports z.some.reports z.some.are)
      ∙ append-nil (without_reports c.behind)
      ∙ c.are
      ∙ ap (λ (o : Option Reply). told ++ known_of o) (sym known);
  early = subst (λ (o : Option Reply). IfSome o (λ reply. is_looked_for reply ≡ true)) (sym known) c.early;
}

-- a reply of the board that is no report, and has a text
stands_plain : (r : Reply) → is_report r ≡ false → is_bye r ≡ false → IsOnConsole r × (without_reports (r ∷ []) ≡ r ∷ [])
stands_plain (replies.Report x) a b = absurd cc
stands_plain replies.Bye a b = absurd cc
stands_plain replies.Banner a b = (tt, refl)
stands_plain replies.Ok a b = (tt, refl)
stands_plain (replies.Error n) a b = (tt, refl)
stands_plain (replies.Alarm n) a b = (tt, refl)
stands_plain (replies.Message m) a b = (tt, refl)
stands_plain (replies.Setting n v) a b = (tt, refl)
stands_plain (replies.Modes m) a b = (tt, refl)
stands_plain (replies.Offset n at) a b = (tt, refl)

-- a reply was taken off the text, and is told, or is known before it is
pub reply_taken : (old now : Listening) (s : SourceState) (text : List ℕ) (told then : List Reply) (reply : Reply) → old.known ≡ None → is_report reply ≡ false → TakesReply old.reader now.reader reply
    → told ++ reply ∷ [] ≡ then ++ known_of now.known → IfSome now.known (λ r. is_looked_for r ≡ true) → ConsoleSoFar old s text told → ConsoleSoFar now s text then
reply_taken old now s text told then reply known plain taken are early c = record {
  behind = c.behind ++ reply ∷ [];
  read = subst (HasRead now.reader.window s now.reader.place text) (sym (flat_map-append reply_text (replies.Banner ∷ c.behind) (reply ∷ []) ∙ ap (λ (bytes : List ℕ). replies_text (replies.Banner ∷ c.behind) ++ bytes) (append-nil (reply_text reply))))
      (read_more old.reader.window now.reader.window s s old.reader.place now.reader.place text (replies_text (replies.Banner ∷ c.behind)) (reply_text reply) c.read
      (taken_ahead (reply_text reply) old.reader.window.waiting now.reader.window.waiting s.left taken.waiting) taken.place);
  each = all_joined IsOnConsole c.behind (reply ∷ []) c.each ((stands_plain reply plain taken.some).0, tt);
  are =
      filter-append is_plain c.behind (reply ∷ [])
      ∙ ap (λ (rs : List Reply). without_reports c.behind ++ rs) (stands_plain reply plain taken.some).1
      ∙ ap (λ (rs : List Reply). rs ++ reply ∷ []) (c.are ∙ ap (λ (o : Option Reply). told ++ known_of o) known ∙ append-nil told)
      ∙ are;
  early = early;
}

-- the reply that is known is told
pub known_told : (l : Listening) (s : SourceState) (text : List ℕ) (told : List Reply) (reply : Reply) → l.known ≡ Some reply → ConsoleSoFar l s text told → ConsoleSoFar (record l { known = None }) s text (told ++ reply ∷ [])
known_told l s text told reply known c = record {
  behind = c.behind;
  read = c.read;
  each = c.each;
  are = c.are ∙ ap (λ (o : Option Reply). told ++ known_of o) known ∙ sym (append-nil (told ++ reply ∷ []));
  early = tt;
}

-- the banner was taken, and no report before it
pub begun : (old mid now : Listening) (s t : SourceState) (text : List ℕ) → old.reader.place ≡ 0 → ahead old.reader.window s ≡ Some text → Skips old.reader mid.reader s t → mid.reader.place ≡ 0
    → TakesReply mid.reader now.reader replies.Banner → now.known ≡ None → ConsoleSoFar now t text []
begun old mid now s t text first known z none taken unknown =
    let h : HasRead old.reader.window s old.reader.place text [] = record { rest = text; whole = refl; follows = known; count = first } in
    let skipped = read_more old.reader.window mid.reader.window s t old.reader.place mid.reader.place text [] (replies_text z.some.reports) h z.some.text z.some.place in
    let count = skipped.count in
    let nothing : replies_text z.some.reports ≡ [] = nil_from_length (replies_text z.some.reports) (omega (arith, count, none)) in
    let there : HasRead mid.reader.window t mid.reader.place text [] = subst (HasRead mid.reader.window t mid.reader.place text) nothing skipped in
    record {
      behind = [];
      read = subst (HasRead now.reader.window t now.reader.place text) (sym (append-nil (reply_text replies.Banner)))
          (read_more mid.reader.window now.reader.window t t mid.reader.place now.reader.place text [] (reply_text replies.Banner) there
          (taken_ahead (reply_text replies.Banner) mid.reader.window.waiting now.reader.window.waiting t.left taken.waiting) taken.place);
      each = tt;
      are = ap known_of (sym unknown);
      early = subst (λ (o : Option Reply). IfSome o (λ reply. is_looked_for reply ≡ true)) (sym unknown) tt;
    }

-- ---- the end

pub ended : (old mid now : Listening) (s t u : SourceState) (text : List ℕ) (told : List Reply) → old.known ≡ None → mid.known ≡ None → Skips old.reader mid.reader s t → mid.reader.place < too_long
    → TakesRest mid.reader.window now.reader.window t u mid.reader.place now.reader.place → now.reader.place ≡ mid.reader.place → ConsoleSoFar old s text told → IsWhole text told
ended old mid now s t u text told known still z short taken same c =
    let d = reports_skipped old mid s t text told (still ∙ sym known) z c in
    let count = taken.some.count in
    let none : taken.some.bytes ≡ [] = nil_from_length taken.some.bytes (omega (arith, count, same)) in
    let h = read_more mid.reader.window now.reader.window t u mid.reader.place now.reader.place text (replies_text (replies.Banner ∷ d.behind)) taken.some.bytes d.read taken.some.text count in
    let over = by_over taken.over in
    let rest : h.rest ≡ [] = at_end now.reader.window u h.rest h.follows over.0 (taken.some.known over.1) in
    record {
      behind = d.behind;
      text_is =
          h.whole ∙ ap (λ (r : List ℕ). (replies_text (replies.Banner ∷ d.behind) ++ taken.some.bytes) ++ r) rest
          ∙ append-nil (replies_text (replies.Banner ∷ d.behind) ++ taken.some.bytes)
          ∙ ap (λ (bytes : List ℕ). replies_text (replies.Banner ∷ d.behind) ++ bytes) none
          ∙ append-nil (replies_text (replies.Banner ∷ d.behind));
      each = d.each;
      are = d.are ∙ ap (λ (o : Option Reply). told ++ known_of o) still ∙ append-nil told;
    } where
      by_over : (too_long ≤ now.reader.place) ⊎ ((now.reader.window.waiting ≡ []) × (now.reader.window.ended ≡ true)) → (now.reader.window.waiting ≡ []) × (now.reader.window.ended ≡ true)
      by_over (inl many) = absurd (omega (arith, many, same, short))
      by_over (inr over) = over

-- ---- what the reader does

pub unknown_by : (o : Option Reply) → ((r : Reply) → o ≡ Some r → ⊥) → o ≡ None
unknown_by None none = refl
unknown_by (Some r) none = absurd (none r refl)

pub read_front : (l : Listening) (s : SourceState) (text : List ℕ) (told : List Reply) → ConsoleSoFar l s text told → IsReadTo l.reader.window s l.reader.place text
read_front l s text told c = (replies_text (replies.Banner ∷ c.behind), c.read)

pub becomes_known : (old now : Listening) (reply : Reply) → old.known ≡ None → is_report reply ≡ false → is_looked_for reply ≡ true → TakesReply old.reader now.reader reply → BecomesKnown old now (Some reply)
becomes_known old now reply known plain early taken = λ s text told c. reply_taken old (record now { known = Some reply }) s text told told reply known plain taken refl early c

-- the reply that is known is this one, or another
pub known_heard : (l : Listening) (s : SourceState) (text : List ℕ) (told : List Reply) (k reply : Reply) (b : Bool) → l.known ≡ Some k → (b ≡ true → k ≡ reply) → ConsoleSoFar l s text told
    → Hears b (record l { known = None }) s text (told ++ reply ∷ [])
known_heard l s text told k reply true known same c = known_told l s text told reply (known ∙ ap Some (same refl)) c
known_heard l s text told k reply false known same c = read_front l s text told c

pub reply_heard : (old mid now : Listening) (s t : SourceState) (text : List ℕ) (told : List Reply) (reply : Reply) (b : Bool) → old.known ≡ None → mid.known ≡ None → now.known ≡ None → is_report reply ≡ false
    → Skips old.reader mid.reader s t → (b ≡ true → TakesReply mid.reader now.reader reply) → (b ≡ false → now.reader ≡ mid.reader) → ConsoleSoFar old s text told → Hears b now t text (told ++ reply ∷ [])
reply_heard old mid now s t text told reply true unknown still none plain z taken same c =
    let d = reports_skipped old mid s t text told (still ∙ sym unknown) z c in
    reply_taken mid now t text told (told ++ reply ∷ []) reply still plain (taken refl) (sym (append-nil (told ++ reply ∷ [])) ∙ ap (λ (o : Option Reply). (told ++ reply ∷ []) ++ known_of o) (sym none))
    (subst (λ (o : Option Reply). IfSome o (λ r. is_looked_for r ≡ true)) (sym none) tt) d
reply_heard old mid now s t text told reply false unknown still none plain z taken same c =
    let d = reports_skipped old mid s t text told (still ∙ sym unknown) z c in
    subst (λ (r : ConsoleRead). IsReadTo r.window t r.place text) (sym (same refl)) (read_front mid t text told d)

pub skips_on : (old now : ConsoleRead) (s t : SourceState) → Skips old now s t → IsReadOn old.window now.window s t old.place now.place
skips_on old now s t z = λ text h. read_to_more old.window now.window s t old.place now.place text (replies_text z.some.reports) h z.some.text z.some.place

pub rest_on : (w v : Window) (s t : SourceState) (place now : ℕ) → TakesRest w v s t place now → IsReadOn w v s t place now
rest_on w v s t place now r = λ text h. read_to_more w v s t place now text r.some.bytes h r.some.text r.some.count

nothing_read : (l : Listening) (s : SourceState) (text : List ℕ) → Opens l s text → IsReadTo l.reader.window s l.reader.place text
nothing_read l s text o = ([], record { rest = text; whole = refl; follows = o.follows; count = o.first })

pub not_begun : (old now : Listening) (s t : SourceState) (text : List ℕ) → Opens old s text → Skips old.reader now.reader s t → Hears false now t text []
not_begun old now s t text o z = skips_on old.reader now.reader s t z text (nothing_read old s text o)

pub begins_by : (b : Bool) (old mid now : Listening) (s t : SourceState) (text : List ℕ) → Opens old s text → Skips old.reader mid.reader s t → mid.reader.place ≡ 0 → mid.known ≡ old.known → now.known ≡ mid.known
    → (b ≡ true → TakesReply mid.reader now.reader replies.Banner) → (b ≡ false → now.reader ≡ mid.reader) → Hears b now t text []
begins_by true old mid now s t text o z none still same taken other = begun old mid now s t text o.first o.follows z none (taken refl) (same ∙ still ∙ o.unknown)
begins_by false old mid now s t text o z none still same taken other =
    subst (λ (r : ConsoleRead). IsReadTo r.window t r.place text) (sym (other refl)) (not_begun old mid s t text o z)

-- ---- replies told apart

-- a reply that is looked for is told apart from any other by its text
pub looked_apart : (k r : Reply) (s t : List ℕ) → is_looked_for k ≡ true → is_bye r ≡ false → reply_text k ++ s ≡ reply_text r ++ t → k ≡ r
looked_apart replies.Banner r s t early some e = banner_apart r some (one_first replies.Banner r s t refl some e)
looked_apart (replies.Error n) r s t early some e = error_apart n r s t (grind (arith, nat_tests, early)) some (one_first (replies.Error n) r s t refl some e) e
looked_apart (replies.Alarm n) r s t early some e = alarm_apart n r s t (grind (arith, nat_tests, early)) some (one_first (replies.Alarm n) r s t refl some e) e
looked_apart replies.Ok r s t early some e = absurd cc
looked_apart (replies.Message m) r s t early some e = absurd cc
looked_apart (replies.Report x) r s t early some e = absurd cc
looked_apart (replies.Setting n v) r s t early some e = absurd cc
looked_apart (replies.Modes m) r s t early some e = absurd cc
looked_apart (replies.Offset n at) r s t early some e = absurd cc
looked_apart replies.Bye r s t early some e = absurd cc

pub looked_some : (k : Reply) → is_looked_for k ≡ true → is_bye k ≡ false
looked_some replies.Bye early = absurd cc
looked_some replies.Banner early = refl
looked_some (replies.Error n) early = refl
looked_some (replies.Alarm n) early = refl
looked_some replies.Ok early = refl
looked_some (replies.Message m) early = refl
looked_some (replies.Report x) early = refl
looked_some (replies.Setting n v) early = refl
looked_some (replies.Modes m) early = refl
looked_some (replies.Offset n at) early = refl

pub some_text : {A : Type 0} (r : Reply) (later : List ℕ) → is_bye r ≡ false → reply_text r ++ later ≡ [] → A
some_text r later some e =
    let b = begins_so r some in
    absurd (let f : _ ∷ (b.0 ++ later) ≡ [] = sym (ap (λ (t : List ℕ). t ++ later) b.1) ∙ e in cc)

-- the reply that comes next waits, if it is short enough
pub not_next : {A : Type 0} (old mid : ConsoleRead) (s t : SourceState) (rest later : List ℕ) (reply : Reply) → Skips old mid s t → ahead mid.window t ≡ Some rest → rest ≡ reply_text reply ++ later → IsNotNext mid reply → A
not_next old mid s t rest later reply z follows is none =
    absurd (none.none (drop (length (reply_text reply)) mid.window.waiting) (front_waits mid.window rest (reply_text reply) later (shown_next old mid s t rest z follows) none.short is))

-- ---- no banner

-- reports stand in front of all
pub report_first : (old mid : Listening) (s t : SourceState) (text : List ℕ) → Opens old s text → Skips old.reader mid.reader s t → (mid.reader.place ≡ 0 → ⊥) → HasNoBanner text
report_first old mid s t text o z some =
    let h : HasRead old.reader.window s old.reader.place text [] = record { rest = text; whole = refl; follows = o.follows; count = o.first } in
    let r = read_more old.reader.window mid.reader.window s t old.reader.place mid.reader.place text [] (replies_text z.some.reports) h z.some.text z.some.place in
    by_reports z.some.reports z.some.each z.some.are r where
      by_reports : (rs : List Reply) → AllByRecursion IsOnConsole rs → AllByRecursion (λ r. is_report r ≡ true) rs → HasRead mid.reader.window t mid.reader.place text (replies_text rs) → HasNoBanner text
      by_reports [] each are r = absurd (some r.count)
      by_reports (x ∷ rs) each are r = λ rest e.
          only_reports x are.0 each.0 (λ y same is widths.
          no_report replies.Banner rest refl refl y (replies_text rs ++ r.rest) is widths
          (sym e ∙ r.whole ∙ append_assoc (reply_text x) (replies_text rs) r.rest ∙ ap (λ (q : Reply). reply_text q ++ (replies_text rs ++ r.rest)) same))

pub no_banner : (old mid : Listening) (s t : SourceState) (text : List ℕ) → Opens old s text → Skips old.reader mid.reader s t → mid.reader.place ≡ 0 → IsNotNext mid.reader replies.Banner → HasNoBanner text
no_banner old mid s t text o z none other = λ later e.
    let h : HasRead old.reader.window s old.reader.place text [] = record { rest = text; whole = refl; follows = o.follows; count = o.first } in
    let r = read_more old.reader.window mid.reader.window s t old.reader.place mid.reader.place text [] (replies_text z.some.reports) h z.some.text z.some.place in
    let count = r.count in
    let nothing : replies_text z.some.reports ≡ [] = nil_from_length (replies_text z.some.reports) (omega (arith, count, none)) in
    let same : text ≡ r.rest = r.whole ∙ ap (λ (b : List ℕ). b ++ r.rest) nothing in
    not_next old.reader mid.reader s t r.rest later replies.Banner z r.follows (sym same ∙ e) other
