-- One thing is found.
use Rattle.std.specs.Prelude.{if◌then◌else◌, ◌==◌}
use Rattle.std.proofs.Common.{◌≡◌, ◌↔◌, ℕ, suc, ◌+◌, List, [], ◌∷◌, ◌++◌, append-nil, length, true, false, Bool, ◌||◌, sym, refl, ap, ◌∙◌, subst, arith}
use Rattle.std.proofs.lemmas.List.{append_cancel_left}
use Rattle.legal_heads.specs.Whole.{events_among}
use Rattle.run_rules.specs.Told.{replies_text}
use Rattle.run_texts.specs.Sent.{kept_of}
use Rattle.status_report.specs.declared.Reply.TheVariants.{Banner}
use Rattle.step_line.specs.declared.Record.TheVariants as kinds
use Rattle.step_record.specs.Texts.{record_text}
use Rattle.audit_rules.specs.declared.Audit.{Audit}
use Rattle.audit_rules.specs.declared.Audit.TheVariants.{Fits, Misfit, Usage, JobFault, ConsoleFault, StepsFault, OutFault, BadReplies, Foreign, TooLong}
use Rattle.audit_rules.specs.Findings.{Finds, FitsWith, BreaksAt, MayEnd, IsForeign, HasForeign, IsTooLong, is_foreign, foreign_in, exit_of}
use Rattle.audit_rules.specs.Findings.BreaksAt.{at_line, behind_end}
use Rattle.audit_rules.specs.Scanned.{sent_in}
use Rattle.audit_rules.specs.Standing.{StandTo, place_behind}
use Rattle.audit_rules.specs.StepTexts.{records_of}
use Rattle.step_record.specs.declared.forms.Line.{Line}
use Rattle.step_record.specs.declared.forms.Line.TheVariants as line_kinds
use Rattle.audit_rules.specs.Telling.{ConsoleStands, HasBadReply}
use Rattle.audit_rules.specs.Telling.HasBadReply.{at_once, behind}
use Rattle.audit_rules.proofs.Fitted.{fitted}
use Rattle.audit_rules.proofs.OneLine.{one_bad_line}
use Rattle.audit_rules.proofs.Places.{one_place}

-- ---- a console that stands has no bad reply

pub no_bad_reply : {A : Type 0} (job console steps : List ℕ) (line : ℕ) → ConsoleStands (sent_in job) console steps → HasBadReply (sent_in job) console steps line → A
no_bad_reply job console steps line c (at_once none is) =
    absurd (none (replies_text c.stands.told.behind) (c.stands.told.text ∙ append-nil (replies_text (Banner ∷ c.stands.told.behind))))
no_bad_reply job console steps line c (behind b) = absurd (b.bad c)

-- ---- steps that fit break nowhere

same_end : (job console steps : List ℕ) (x y : StandTo (sent_in job) console steps) → MayEnd job console x.done → MayEnd job console y.done
same_end job console steps x y may = subst (λ (ls : List Line). MayEnd job console ls) (one_place (sent_in job) console steps x y).done may

pub no_break : {A : Type 0} (job console steps : List ℕ) (events at : ℕ) → FitsWith job console steps events → BreaksAt job console steps at → A
no_break job console steps events at f (at_line z bad is) =
    let g = fitted job console steps events f in
    let same = one_place (sent_in job) console steps g.steps_stand z in
    absurd (bad [] (sym same.rest ∙ g.rest) (same_end job console steps g.steps_stand z g.may_end))
no_break job console steps events at f (behind_end z more text may some is) =
    let g = fitted job console steps events f in
    let same = one_place (sent_in job) console steps g.steps_stand z in
    let e : record_text kinds.End ++ [] ≡ record_text kinds.End ++ more = sym g.rest ∙ same.rest ∙ text in
    absurd (some (sym (append_cancel_left (record_text kinds.End) [] more e)))

pub one_break : (job console steps : List ℕ) (at other : ℕ) → BreaksAt job console steps at → BreaksAt job console steps other → at ≡ other
one_break job console steps at other (at_line x bad is) (at_line y worse this) =
    is ∙ ap (place_behind steps) (one_place (sent_in job) console steps x y).done ∙ sym this
one_break job console steps at other (at_line x bad is) (behind_end y more text may some this) =
    absurd (bad more ((one_place (sent_in job) console steps x y).rest ∙ text) (same_end job console steps y x may))
one_break job console steps at other (behind_end x more text may some is) (at_line y bad this) =
    absurd (bad more ((one_place (sent_in job) console steps y x).rest ∙ text) (same_end job console steps x y may))
one_break job console steps at other (behind_end x more text may some is) (behind_end y more_too text_too may_too some_too this) =
    is ∙ ap (λ (ls : List Line). place_behind steps ls + length (record_text kinds.End)) (one_place (sent_in job) console steps x y).done ∙ sym this

-- ---- the events of texts that fit

pub one_count : (job console steps : List ℕ) (n m : ℕ) → FitsWith job console steps n → FitsWith job console steps m → n ≡ m
one_count job console steps n m f g =
    let x = fitted job console steps n f in
    let y = fitted job console steps m g in
    let same = one_place (sent_in job) console steps x.steps_stand y.steps_stand in
    let lines : f.lines ≡ g.lines = x.lines_are ∙ ap (λ (ls : List Line). ls ++ line_kinds.One kinds.End ∷ []) same.done ∙ sym y.lines_are in
    f.count ∙ ap (λ (ls : List Line). length (events_among (records_of ls))) lines ∙ sym g.count

-- ---- the first line that is not audited

or_first : (a b : Bool) → (a || b) ≡ false → a ≡ false
or_first true b e = absurd cc
or_first false b e = refl

or_second : (a b : Bool) → (a || b) ≡ false → b ≡ false
or_second true b e = absurd cc
or_second false b e = e

differ : {A : Type 0} (b : Bool) → b ≡ true → b ≡ false → A
differ true e f = absurd cc
differ false e f = absurd cc

one_first : (xs us : List (List ℕ)) (y v : List ℕ) (zs ws : List (List ℕ)) → foreign_in xs ≡ false → foreign_in us ≡ false → is_foreign (kept_of y) ≡ true → is_foreign (kept_of v) ≡ true
    → xs ++ y ∷ zs ≡ us ++ v ∷ ws → length xs ≡ length us
one_first [] [] y v zs ws a b c d e = refl
one_first [] (u ∷ us) y v zs ws a b c d e =
    let same : y ≡ u = cc in
    differ (is_foreign (kept_of u)) (ap (λ (l : List ℕ). is_foreign (kept_of l)) (sym same) ∙ c) (or_first (is_foreign (kept_of u)) (foreign_in us) b)
one_first (x ∷ xs) [] y v zs ws a b c d e =
    let same : x ≡ v = cc in
    differ (is_foreign (kept_of x)) (ap (λ (l : List ℕ). is_foreign (kept_of l)) same ∙ d) (or_first (is_foreign (kept_of x)) (foreign_in xs) a)
one_first (x ∷ xs) (u ∷ us) y v zs ws a b c d e =
    let more : xs ++ y ∷ zs ≡ us ++ v ∷ ws = cc in
    ap suc (one_first xs us y v zs ws (or_second (is_foreign (kept_of x)) (foreign_in xs) a) (or_second (is_foreign (kept_of u)) (foreign_in us) b) c d more)

pub one_foreign : (job console steps : List ℕ) (n m : ℕ) → IsForeign job console steps n → IsForeign job console steps m → n ≡ m
one_foreign job console steps n m f g =
    f.number ∙ ap (λ (k : ℕ). k + 1) (one_first f.before g.before f.here g.here f.behind g.behind f.first g.first f.is g.is (sym f.split ∙ g.split)) ∙ sym g.number

-- ---- one answer

with_fits : (job console steps : List ℕ) (n : ℕ) (b : Audit) → Finds job console steps (Fits n) → Finds job console steps b → exit_of (Fits n) ≡ exit_of b
with_fits job console steps n (Fits m) x y = refl
with_fits job console steps n (Misfit at) x y = no_break job console steps n at x.2 y.3
with_fits job console steps n Usage x y = absurd y
with_fits job console steps n JobFault x y = absurd y
with_fits job console steps n ConsoleFault x y = absurd y
with_fits job console steps n StepsFault x y = absurd y
with_fits job console steps n OutFault x y = absurd y
with_fits job console steps n (BadReplies line) x y = no_bad_reply job console steps line (fitted job console steps n x.2).console_stands y.2
with_fits job console steps n (Foreign line) x y = absurd (x.1 (line, y.1))
with_fits job console steps n TooLong x y = absurd (x.0 y)

with_misfit : (job console steps : List ℕ) (at : ℕ) (b : Audit) → Finds job console steps (Misfit at) → Finds job console steps b → exit_of (Misfit at) ≡ exit_of b
with_misfit job console steps at (Fits m) x y = sym (with_fits job console steps m (Misfit at) y x)
with_misfit job console steps at (Misfit other) x y = refl
with_misfit job console steps at Usage x y = absurd y
with_misfit job console steps at JobFault x y = absurd y
with_misfit job console steps at ConsoleFault x y = absurd y
with_misfit job console steps at StepsFault x y = absurd y
with_misfit job console steps at OutFault x y = absurd y
with_misfit job console steps at (BadReplies line) x y = no_bad_reply job console steps line x.2 y.2
with_misfit job console steps at (Foreign line) x y = absurd (x.1 (line, y.1))
with_misfit job console steps at TooLong x y = absurd (x.0 y)

with_replies : (job console steps : List ℕ) (n : ℕ) (b : Audit) → Finds job console steps (BadReplies n) → Finds job console steps b → exit_of (BadReplies n) ≡ exit_of b
with_replies job console steps n (Fits m) x y = sym (with_fits job console steps m (BadReplies n) y x)
with_replies job console steps n (Misfit at) x y = sym (with_misfit job console steps at (BadReplies n) y x)
with_replies job console steps n Usage x y = absurd y
with_replies job console steps n JobFault x y = absurd y
with_replies job console steps n ConsoleFault x y = absurd y
with_replies job console steps n StepsFault x y = absurd y
with_replies job console steps n OutFault x y = absurd y
with_replies job console steps n (BadReplies line) x y = refl
with_replies job console steps n (Foreign line) x y = absurd (x.1 (line, y.1))
with_replies job console steps n TooLong x y = absurd (x.0 y)

with_foreign : (job console steps : List ℕ) (n : ℕ) (b : Audit) → Finds job console steps (Foreign n) → Finds job console steps b → exit_of (Foreign n) ≡ exit_of b
with_foreign job console steps n (Fits m) x y = sym (with_fits job console steps m (Foreign n) y x)
with_foreign job console steps n (Misfit at) x y = sym (with_misfit job console steps at (Foreign n) y x)
with_foreign job console steps n Usage x y = absurd y
with_foreign job console steps n JobFault x y = absurd y
with_foreign job console steps n ConsoleFault x y = absurd y
with_foreign job console steps n StepsFault x y = absurd y
with_foreign job console steps n OutFault x y = absurd y
with_foreign job console steps n (BadReplies line) x y = sym (with_replies job console steps line (Foreign n) y x)
with_foreign job console steps n (Foreign line) x y = refl
with_foreign job console steps n TooLong x y = absurd (x.0 y)

pub one_status : (job console steps : List ℕ) (a b : Audit) → Finds job console steps a → Finds job console steps b → exit_of a ≡ exit_of b
one_status job console steps (Fits n) b x y = with_fits job console steps n b x y
one_status job console steps (Misfit n) b x y = with_misfit job console steps n b x y
one_status job console steps Usage b x y = absurd x
one_status job console steps JobFault b x y = absurd x
one_status job console steps ConsoleFault b x y = absurd x
one_status job console steps StepsFault b x y = absurd x
one_status job console steps OutFault b x y = absurd x
one_status job console steps (BadReplies n) b x y = with_replies job console steps n b x y
one_status job console steps (Foreign n) b x y = with_foreign job console steps n b x y
one_status job console steps TooLong (Fits m) x y = absurd (y.0 x)
one_status job console steps TooLong (Misfit m) x y = absurd (y.0 x)
one_status job console steps TooLong Usage x y = absurd y
one_status job console steps TooLong JobFault x y = absurd y
one_status job console steps TooLong ConsoleFault x y = absurd y
one_status job console steps TooLong StepsFault x y = absurd y
one_status job console steps TooLong OutFault x y = absurd y
one_status job console steps TooLong (BadReplies m) x y = absurd (y.0 x)
one_status job console steps TooLong (Foreign m) x y = absurd (y.0 x)
one_status job console steps TooLong TooLong x y = refl

-- ---- one thing

-- the number that is found
abbrev number_in : Audit → ℕ
number_in (Fits n) = n
number_in (Misfit at) = at
number_in (BadReplies line) = line
number_in (Foreign line) = line
number_in _ = 0

-- what is found, by its status and its number
abbrev found_by : ℕ → ℕ → Audit
found_by status n =
    if status == 0 then Fits n else
    if status == 1 then Misfit n else
    if status == 2 then Usage else
    if status == 3 then JobFault else
    if status == 4 then ConsoleFault else
    if status == 5 then StepsFault else
    if status == 6 then OutFault else
    if status == 7 then BadReplies n else
    if status == 8 then Foreign n else TooLong

found_again : (a : Audit) → a ≡ found_by (exit_of a) (number_in a)
found_again (Fits n) = refl
found_again (Misfit at) = refl
found_again Usage = refl
found_again JobFault = refl
found_again ConsoleFault = refl
found_again StepsFault = refl
found_again OutFault = refl
found_again (BadReplies line) = refl
found_again (Foreign line) = refl
found_again TooLong = refl

fits_number : (job console steps : List ℕ) (n : ℕ) (b : Audit) → FitsWith job console steps n → Finds job console steps b → 0 ≡ exit_of b → n ≡ number_in b
fits_number job console steps n (Fits m) x y e = one_count job console steps n m x y.2
fits_number job console steps n _ x y e = absurd (omega (arith, e))

misfit_number : (job console steps : List ℕ) (at : ℕ) (b : Audit) → BreaksAt job console steps at → Finds job console steps b → 1 ≡ exit_of b → at ≡ number_in b
misfit_number job console steps at (Misfit other) x y e = one_break job console steps at other x y.3
misfit_number job console steps at _ x y e = absurd (omega (arith, e))

replies_number : (job console steps : List ℕ) (line : ℕ) (b : Audit) → HasBadReply (sent_in job) console steps line → Finds job console steps b → 7 ≡ exit_of b → line ≡ number_in b
replies_number job console steps line (BadReplies other) x y e = one_bad_line (sent_in job) console steps line other x y.2
replies_number job console steps line _ x y e = absurd (omega (arith, e))

foreign_number : (job console steps : List ℕ) (line : ℕ) (b : Audit) → IsForeign job console steps line → Finds job console steps b → 8 ≡ exit_of b → line ≡ number_in b
foreign_number job console steps line (Foreign other) x y e = one_foreign job console steps line other x y.1
foreign_number job console steps line _ x y e = absurd (omega (arith, e))

long_number : (b : Audit) → 9 ≡ exit_of b → 0 ≡ number_in b
long_number TooLong e = refl
long_number _ e = absurd (omega (arith, e))

one_number : (job console steps : List ℕ) (a b : Audit) → Finds job console steps a → Finds job console steps b → exit_of a ≡ exit_of b → number_in a ≡ number_in b
one_number job console steps (Fits n) b x y e = fits_number job console steps n b x.2 y e
one_number job console steps (Misfit at) b x y e = misfit_number job console steps at b x.3 y e
one_number job console steps (BadReplies line) b x y e = replies_number job console steps line b x.2 y e
one_number job console steps (Foreign line) b x y e = foreign_number job console steps line b x.1 y e
one_number job console steps TooLong b x y e = long_number b e
one_number job console steps Usage b x y e = absurd x
one_number job console steps JobFault b x y e = absurd x
one_number job console steps ConsoleFault b x y e = absurd x
one_number job console steps StepsFault b x y e = absurd x
one_number job console steps OutFault b x y e = absurd x

pub one_audit : (job console steps : List ℕ) (a b : Audit) → Finds job console steps a → Finds job console steps b → a ≡ b
one_audit job console steps a b x y =
    let status = one_status job console steps a b x y in
    found_again a ∙ ap (λ (s : ℕ). found_by s (number_in a)) status ∙ ap (found_by (exit_of b)) (one_number job console steps a b x y status) ∙ sym (found_again b)

-- ---- exactly if they fit

zero_fits : (job console steps : List ℕ) (a : Audit) → Finds job console steps a → exit_of a ≡ 0 → (events : ℕ) × FitsWith job console steps events
zero_fits job console steps (Fits n) x e = (n, x.2)
zero_fits job console steps (Misfit at) x e = absurd cc
zero_fits job console steps Usage x e = absurd x
zero_fits job console steps JobFault x e = absurd x
zero_fits job console steps ConsoleFault x e = absurd x
zero_fits job console steps StepsFault x e = absurd x
zero_fits job console steps OutFault x e = absurd x
zero_fits job console steps (BadReplies line) x e = absurd cc
zero_fits job console steps (Foreign line) x e = absurd cc
zero_fits job console steps TooLong x e = absurd cc

pub fits_exactly : (job console steps : List ℕ) (a : Audit) → Finds job console steps a → (IsTooLong console steps → ⊥) → (HasForeign job console steps → ⊥)
    → (exit_of a ≡ 0) ↔ ((events : ℕ) × FitsWith job console steps events)
fits_exactly job console steps a x short audited = (
  zero_fits job console steps a x,
  λ f. one_status job console steps a (Fits f.0) x (short, audited, f.1),
)
