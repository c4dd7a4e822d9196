-- What is told of a job goes on, where texts fit.
use Rattle.std.proofs.Common.{◌≡◌, ◌<◌, ℕ, zero, suc, Bool, true, false, cond, nat_eq, ◌||◌, List, [], ◌∷◌, ◌++◌, append_assoc, append-nil, replicate, None, Some, sym, refl, ap, ◌∙◌, subst, arith}
use Rattle.std.specs.declared.option.Option.{Option}
use Rattle.std.specs.List.{flat_map}
use Rattle.std.proofs.lemmas.Bool.Decides.{nat_tests}
use Rattle.std.proofs.lemmas.List.{append_cancel_left}
use Rattle.outside.specs.Causes.{SourceState}
use Rattle.run_texts.specs.Sent.{Sent, kept_of, resets_of, sent_by}
use Rattle.run_texts.specs.Sent.Sent.{a_text, a_stop}
use Rattle.audit_rules.specs.Findings.{is_foreign, foreign_in}
use Rattle.audit_rules.specs.Scanned.{sent_in}
use Rattle.audit_texts.specs.Audited.{AllAudited}
use Rattle.audit_texts.specs.SoFar.{JobSoFar, IsItem, stops_of, untold_of}
use Rattle.audit_texts.specs.declared.sending.Item.{Item}
use Rattle.audit_texts.specs.declared.sending.Item.TheVariants.{Line, Stop, Nothing}
use Rattle.audit_texts.specs.declared.sending.Sending.{Sending}
use Rattle.audit_texts.proofs.JobRead.{IsFront, front_sent}

-- ---- what comes next

-- of what is sent and not told
abbrev pub ComesNext : Item → Sending → List Sent → Type 0
ComesNext Line s more = (behind : List Sent) × (more ≡ a_text s.reader.line.kept ∷ behind)
ComesNext Stop s more = (behind : List Sent) × (more ≡ a_stop ∷ behind)
ComesNext Nothing s more = more ≡ []

one_stop : (n : ℕ) (more : List Sent) → 0 < n → (behind : List Sent) × (replicate n a_stop ++ more ≡ a_stop ∷ behind)
one_stop zero more some = absurd (omega (arith, some))
one_stop (suc n) more some = (replicate n a_stop ++ more, refl)

pub next_sent : (s : Sending) (item : Item) (source : SourceState) (text : List ℕ) (told more : List Sent) → s.last ≡ None → JobSoFar s source text told → sent_in text ≡ told ++ more → IsItem item s → (item ≡ Nothing → s.over ≡ true)
    → ComesNext item s more
next_sent s item source text told more calm j split is over = by_item item is over where
  f : IsFront s text told
  f = front_sent s source text told j

  next : more ≡ untold_of s ++ f.later
  next = append_cancel_left told more (untold_of s ++ f.later) (sym split ∙ f.split)

  by_item : (i : Item) → IsItem i s → (i ≡ Nothing → s.over ≡ true) → ComesNext i s more
  by_item Line e o = (f.later, next ∙ ap (λ (n : ℕ). (replicate n a_stop ++ cond s.waits (a_text s.reader.line.kept ∷ []) []) ++ f.later) e.0 ∙ ap (λ (b : Bool). cond b (a_text s.reader.line.kept ∷ []) [] ++ f.later) e.1)
  by_item Stop e o =
      let one = one_stop s.stops (cond s.waits (a_text s.reader.line.kept ∷ []) [] ++ f.later) e in
      (one.0, next ∙ append_assoc (replicate s.stops a_stop) (cond s.waits (a_text s.reader.line.kept ∷ []) []) f.later ∙ one.1)
  by_item Nothing e o =
      next ∙ ap (λ (n : ℕ). (replicate n a_stop ++ cond s.waits (a_text s.reader.line.kept ∷ []) []) ++ f.later) e.0 ∙ ap (λ (b : Bool). cond b (a_text s.reader.line.kept ∷ []) [] ++ f.later) e.1
      ∙ f.none calm (o refl)

-- ---- each line that is told is audited

pub differ : {A : Type 0} (b : Bool) → b ≡ true → b ≡ false → A
differ true e f = absurd cc
differ false e f = absurd cc

pub or_first : (a b : Bool) → (a || b) ≡ false → a ≡ false
or_first true b e = absurd cc
or_first false b e = refl

pub or_second : (a b : Bool) → (a || b) ≡ false → b ≡ false
or_second true b e = absurd cc
or_second false b e = e

pub not_among : {A : Type 0} (xs : List (List ℕ)) (y : List ℕ) (zs : List (List ℕ)) → foreign_in (xs ++ y ∷ zs) ≡ false → is_foreign (kept_of y) ≡ true → A
not_among [] y zs none is = differ (is_foreign (kept_of y)) is (or_first (is_foreign (kept_of y)) (foreign_in zs) none)
not_among (x ∷ xs) y zs none is = not_among xs y zs (or_second (is_foreign (kept_of x)) (foreign_in (xs ++ y ∷ zs)) none) is

no_line : (n : ℕ) (more : List Sent) → AllAudited (replicate n a_stop ++ more) → AllAudited more
no_line zero more all = all
no_line (suc n) more all = no_line n more all

none_of : (lines : List (List ℕ)) (more : List Sent) → AllAudited (flat_map sent_by lines ++ more) → foreign_in lines ≡ false
none_of [] more all = refl
none_of (l ∷ ls) more all =
    let first = no_line (resets_of l) (a_text (kept_of l) ∷ (flat_map sent_by ls ++ more)) (subst AllAudited
    (append_assoc (sent_by l) (flat_map sent_by ls) more ∙ append_assoc (replicate (resets_of l) a_stop) (a_text (kept_of l) ∷ []) (flat_map sent_by ls ++ more)) all) in
    let rest = none_of ls more first.1 in
    ap (λ (b : Bool). b || foreign_in ls) first.0 ∙ rest

pub none_foreign_told : (s : Sending) (source : SourceState) (text : List ℕ) (told : List Sent) → JobSoFar s source text told → untold_of s ≡ [] → AllAudited told → s.foreign ≡ 0
none_foreign_told s source text told j none all = by_number (nat_eq s.foreign 0) refl where
  clean : foreign_in j.lines ≡ false
  clean = none_of j.lines (stops_of s.last s.over j.left.rest) (subst AllAudited (sym (append-nil told) ∙ ap (λ (ss : List Sent). told ++ ss) (sym none) ∙ j.told_are) all)

  by_number : (b : Bool) → nat_eq s.foreign 0 ≡ b → s.foreign ≡ 0
  by_number true e = grind (arith, nat_tests, e)
  by_number false e =
      let f = j.foreign.some (grind (arith, nat_tests, e)) in
      not_among f.before f.here f.behind (ap foreign_in (sym f.split) ∙ clean) f.is

more_stops : (n : ℕ) (more : List Sent) → AllAudited more → AllAudited (replicate n a_stop ++ more)
more_stops zero more all = all
more_stops (suc n) more all = more_stops n more all

stops_audited : (last : Option ℕ) (over : Bool) (rest : List ℕ) → AllAudited (stops_of last over rest)
stops_audited None false rest = tt
stops_audited None true rest = subst AllAudited (append-nil (replicate (resets_of rest) a_stop)) (more_stops (resets_of rest) [] tt)
stops_audited (Some k) over rest = tt

lines_audited : (lines : List (List ℕ)) (more : List Sent) → foreign_in lines ≡ false → AllAudited more → AllAudited (flat_map sent_by lines ++ more)
lines_audited [] more clean all = all
lines_audited (l ∷ ls) more clean all =
    subst AllAudited (sym (append_assoc (sent_by l) (flat_map sent_by ls) more ∙ append_assoc (replicate (resets_of l) a_stop) (a_text (kept_of l) ∷ []) (flat_map sent_by ls ++ more)))
    (more_stops (resets_of l) (a_text (kept_of l) ∷ (flat_map sent_by ls ++ more)) (
      or_first (is_foreign (kept_of l)) (foreign_in ls) clean,
      lines_audited ls more (or_second (is_foreign (kept_of l)) (foreign_in ls) clean) all,
    ))

pub first_audited : (xs ys : List Sent) → AllAudited (xs ++ ys) → AllAudited xs
first_audited [] ys all = tt
first_audited (a_text kept ∷ xs) ys all = (all.0, first_audited xs ys all.1)
first_audited (a_stop ∷ xs) ys all = first_audited xs ys all

-- if none was read that is not
pub told_audited : (s : Sending) (source : SourceState) (text : List ℕ) (told : List Sent) → JobSoFar s source text told → s.foreign ≡ 0 → AllAudited told
told_audited s source text told j clean =
    first_audited told (untold_of s) (subst AllAudited (sym j.told_are) (lines_audited j.lines (stops_of s.last s.over j.left.rest) (j.foreign.none clean) (stops_audited s.last s.over j.left.rest)))
