-- Of replies that one text tells, those up to a later place go on where the others end.
use Rattle.std.specs.Prelude.{if◌then◌else◌, ◌==◌, codes, decimal, ◌/◌, ◌%◌}
use Rattle.std.proofs.Common.{◌≡◌, ℕ, zero, suc, ◌+◌, ◌≤◌, ◌⊎◌, inl, inr, ℤ, pos, negsuc, nat_abs, nat_eq, nat_lt, List, [], ◌∷◌, ◌++◌, drop, append_assoc, true, false, Bool, cond, not, Some, None, sym, refl, ap, ◌∙◌, subst, arith}
use Rattle.std.specs.declared.option.Option.{Option}
use Rattle.std.specs.Fmt.{digits, digits_onto, digit_glyph}
use Rattle.std.specs.List.{AllByRecursion, list_all, join_with_byte}
use Rattle.std.proofs.lemmas.Bool.{ltb-true, ltb-false, ne_eqb}
use Rattle.std.proofs.lemmas.Bool.Decides.{nat_tests}
use Rattle.std.proofs.lemmas.Fmt.{decimal_digit}
use Rattle.std.proofs.lemmas.List.{append_cancel_left}
use Rattle.std.proofs.lemmas.List.Folds.{list_all-append}
use Rattle.units.specs.Fixed.{fixed3, minus_sign, three_digits}
use Rattle.units.specs.declared.Nm3.{Nm3}
use Rattle.status_report.proofs.Apart.{parted, both as both_true}
use Rattle.status_report.specs.Answering.{without_reports, is_report, is_bye}
use Rattle.status_report.specs.Places.{listed, place_text, in_thousandths}
use Rattle.status_report.specs.Replies.{reply_text, row_name}
use Rattle.status_report.specs.Reports.{report_text, report_fields, state_name, position_name, buffer_fields, barred}
use Rattle.status_report.specs.declared.Message.TheVariants.{Unlocked, ProgramEnd, ResetToContinue, Locked}
use Rattle.status_report.specs.declared.Reply.{Reply}
use Rattle.status_report.specs.declared.Reply.TheVariants.{Banner, Ok, Error, Alarm, Message, Report, Setting, Modes, Offset, Bye}
use Rattle.status_report.specs.declared.reports.Report.{Report as AnyReport}
use Rattle.status_report.specs.declared.reports.State.{State}
use Rattle.status_report.specs.declared.reports.State.TheVariants as states
use Rattle.run_rules.specs.Told.{replies_text}
use Rattle.audit_rules.specs.Consoles.{IsOnConsole}
use Rattle.audit_rules.proofs.OneWay.{TellOn, sign_of, first_sign}
use Rattle.audit_rules.proofs.Replies.{all_joined}

-- ---- numbers and reports have no CR

-- no CR
abbrev is_inside : ℕ → Bool
is_inside b = not (nat_eq b 13)

abbrev IsInside : List ℕ → Type 0
IsInside text = list_all is_inside text ≡ true

abbrev AreInside : List (List ℕ) → Type 0
AreInside texts = AllByRecursion IsInside texts

joined : (xs ys : List ℕ) → IsInside xs → IsInside ys → IsInside (xs ++ ys)
joined xs ys a b = list_all-append is_inside xs ys ∙ both_true (list_all is_inside xs) (list_all is_inside ys) a b

by_choice : (c : Bool) (xs ys : List ℕ) → IsInside xs → IsInside ys → IsInside (if c then xs else ys)
by_choice true xs ys a b = a
by_choice false xs ys a b = b

high : (c : ℕ) → 14 ≤ c → is_inside c ≡ true
high c e = grind (arith, nat_tests)

glyph_high : (below : Bool) (d : ℕ) → 14 ≤ (if below then 48 + d else (if false then 55 + d else 87 + d))
glyph_high true d = omega arith
glyph_high false d = omega arith

onto_inside : (k n : ℕ) (acc : List ℕ) → IsInside acc → IsInside (digits_onto k 10 false n acc)
onto_inside zero n acc inside = inside
onto_inside (suc k) n acc inside =
    let glyph = digit_glyph false (n % 10) in
    let more : IsInside (glyph ∷ acc) = both_true (is_inside glyph) (list_all is_inside acc) (high glyph (glyph_high (nat_lt (n % 10) 10) (n % 10))) inside in
    by_choice (n / 10 == 0) (glyph ∷ acc) (digits_onto k 10 false (n / 10) (glyph ∷ acc)) more (onto_inside k (n / 10) (glyph ∷ acc) more)

pub decimal_inside : (n : ℕ) → IsInside (decimal n)
unfolding digits
decimal_inside n = onto_inside 64 n [] refl

digits_inside : (n : ℕ) → IsInside (46 ∷ three_digits n)
digits_inside n =
    both_true _ _ (high (48 + n / 100 % 10) (omega arith)) (both_true _ _ (high (48 + n / 10 % 10) (omega arith)) (both_true _ _ (high (48 + n % 10) (omega arith)) refl))

sign_inside : (v : ℤ) → IsInside (minus_sign v)
sign_inside (pos n) = refl
sign_inside (negsuc n) = refl

fixed_inside : (v : ℤ) → IsInside (fixed3 v)
unfolding fixed3
fixed_inside v =
    joined (minus_sign v ++ decimal (nat_abs v / 1000)) (46 ∷ three_digits (nat_abs v))
    (joined (minus_sign v) (decimal (nat_abs v / 1000)) (sign_inside v) (decimal_inside (nat_abs v / 1000))) (digits_inside (nat_abs v))

with_byte : (c : ℕ) → is_inside c ≡ true → (texts : List (List ℕ)) → AreInside texts → IsInside (join_with_byte c texts)
with_byte c inside [] each = refl
with_byte c inside (x ∷ []) each = each.0
with_byte c inside (x ∷ y ∷ xs) each = joined x (c ∷ join_with_byte c (y ∷ xs)) each.0 (both_true (is_inside c) (list_all is_inside (join_with_byte c (y ∷ xs))) inside (with_byte c inside (y ∷ xs) each.1))

place_inside : (at : Nm3) → IsInside (place_text at)
place_inside at = with_byte 44 refl (fixed3 at.x ∷ fixed3 at.y ∷ fixed3 at.z ∷ []) (fixed_inside at.x, (fixed_inside at.y, (fixed_inside at.z, tt)))

-- ---- reports

state_inside : (s : State) → IsInside (state_name s)
state_inside states.Idle = refl
state_inside states.Run = refl
state_inside states.Hold0 = refl
state_inside states.Hold1 = refl
state_inside states.Jog = refl
state_inside states.Alarm = refl

barred_inside : (fields : List (List ℕ)) → AreInside fields → IsInside (barred fields)
barred_inside [] each = refl
barred_inside (x ∷ xs) each = joined (124 ∷ x) (barred xs) each.0 (barred_inside xs each.1)

buffer_inside : (free : Option (ℕ × ℕ)) → AreInside (buffer_fields free)
buffer_inside None = tt
buffer_inside (Some free) =
    (joined (codes "Bf:") (listed (decimal free.0 ∷ decimal free.1 ∷ [])) refl (with_byte 44 refl (decimal free.0 ∷ decimal free.1 ∷ []) (decimal_inside free.0, (decimal_inside free.1, tt))), tt)

fields_inside : (r : AnyReport) → AreInside (report_fields r)
fields_inside r =
    let position : IsInside (position_name r.machine ++ place_text _) = joined (position_name r.machine) (place_text _) (by_choice r.machine (codes "MPos:") (codes "WPos:") refl refl) (place_inside _) in
    let speeds = joined (codes "FS:") (listed (decimal r.f ∷ decimal r.s ∷ [])) refl (with_byte 44 refl (decimal r.f ∷ decimal r.s ∷ []) (decimal_inside r.f, (decimal_inside r.s, tt))) in
    let offset = joined (codes "WCO:") (place_text r.wco) refl (place_inside r.wco) in
    let three = decimal r.ov.feed ∷ decimal r.ov.rapid ∷ decimal r.ov.spindle ∷ [] in
    let overrides = joined (codes "Ov:") (listed three) refl (with_byte 44 refl three (decimal_inside r.ov.feed, (decimal_inside r.ov.rapid, (decimal_inside r.ov.spindle, tt)))) in
    (position, all_joined IsInside (buffer_fields r.buffer) _ (buffer_inside r.buffer) (speeds, (offset, (overrides, tt))))

report_inside : (r : AnyReport) → IsInside (report_text r)
unfolding report_text
report_inside r =
    joined (codes "<") (state_name r.state ++ barred (report_fields r) ++ codes ">") refl
    (joined (state_name r.state ++ barred (report_fields r)) (codes ">") (joined (state_name r.state) (barred (report_fields r)) (state_inside r.state) (barred_inside (report_fields r) (fields_inside r))) refl)

-- ---- the first byte of a reply

-- the byte with which a reply begins; Bye has no text
abbrev pub first_byte : Reply → ℕ
first_byte Banner = 13
first_byte Ok = 111
first_byte (Error n) = 101
first_byte (Alarm n) = 65
first_byte (Message m) = 91
first_byte (Report r) = 60
first_byte (Setting n v) = 36
first_byte (Modes m) = 91
first_byte (Offset row at) = 91
first_byte Bye = 0

offset_first : (a b : Bool) (x y z tail : List ℕ) → (more : List ℕ) × ((if a then 91 ∷ x else (if b then 91 ∷ y else 91 ∷ z)) ++ tail ≡ 91 ∷ more)
offset_first true b x y z tail = (x ++ tail, refl)
offset_first false true x y z tail = (y ++ tail, refl)
offset_first false false x y z tail = (z ++ tail, refl)

pub begins_so : (r : Reply) → is_bye r ≡ false → (more : List ℕ) × (reply_text r ≡ first_byte r ∷ more)
unfolding reply_text report_text
begins_so Banner some = (_, refl)
begins_so Ok some = (_, refl)
begins_so (Error n) some = (_, refl)
begins_so (Alarm n) some = (_, refl)
begins_so (Message Unlocked) some = (_, refl)
begins_so (Message ProgramEnd) some = (_, refl)
begins_so (Message ResetToContinue) some = (_, refl)
begins_so (Message Locked) some = (_, refl)
begins_so (Report r) some = (_, refl)
begins_so (Setting n v) some = (_, refl)
begins_so (Modes m) some = (_, refl)
begins_so (Offset row at) some =
    offset_first (row == 9) (row == 10) (drop 1 (codes "[TLO:0.000]")) (drop 1 (codes "[PRB:0.000,0.000,0.000:0]")) (row_name row ++ codes ":" ++ place_text (in_thousandths at) ++ codes "]") (codes "\r\n")
begins_so Bye some = absurd cc

-- replies whose texts begin one text have one first byte
pub one_first : (r q : Reply) (s t : List ℕ) → is_bye r ≡ false → is_bye q ≡ false → reply_text r ++ s ≡ reply_text q ++ t → first_byte r ≡ first_byte q
one_first r q s t r_some q_some e =
    let a = begins_so r r_some in
    let b = begins_so q q_some in
    let both : first_byte r ∷ (a.0 ++ s) ≡ first_byte q ∷ (b.0 ++ t) = sym (ap (λ (x : List ℕ). x ++ s) a.1) ∙ e ∙ ap (λ (x : List ℕ). x ++ t) b.1 in
    let same : first_byte r ≡ first_byte q = cc in
    same

pub no_bye : (r : Reply) → IsOnConsole r → is_bye r ≡ false
no_bye Bye on = absurd on
no_bye _ on = refl

-- a report, or not; an alarm, or not
report_byte : (r : Reply) → is_report r ≡ true → (first_byte r ≡ 60) × ((q : AnyReport) × (r ≡ Report q))
report_byte (Report q) e = (refl, (q, refl))
report_byte Banner e = absurd cc
report_byte Ok e = absurd cc
report_byte (Error n) e = absurd cc
report_byte (Alarm n) e = absurd cc
report_byte (Message m) e = absurd cc
report_byte (Setting n v) e = absurd cc
report_byte (Modes m) e = absurd cc
report_byte (Offset row at) e = absurd cc
report_byte Bye e = absurd cc

no_report_byte : (r : Reply) → is_report r ≡ false → first_byte r ≡ 60 → ⊥
no_report_byte (Report q) e f = cc
no_report_byte Banner e f = omega (arith, f)
no_report_byte Ok e f = omega (arith, f)
no_report_byte (Error n) e f = omega (arith, f)
no_report_byte (Alarm n) e f = omega (arith, f)
no_report_byte (Message m) e f = omega (arith, f)
no_report_byte (Setting n v) e f = omega (arith, f)
no_report_byte (Modes m) e f = omega (arith, f)
no_report_byte (Offset row at) e f = omega (arith, f)
no_report_byte Bye e f = omega (arith, f)

data Signed (r : Reply) : Type 0 where
  an_alarm : (n : ℕ) → r ≡ Alarm n → Signed r
  by_byte : IsOnConsole r → sign_of r ≡ first_byte r → (first_byte r ≡ 65 → ⊥) → Signed r

signed : (r : Reply) → IsOnConsole r → Signed r
signed (Alarm n) on = an_alarm n refl
signed Banner on = by_byte on refl (λ e. omega (arith, e))
signed Ok on = by_byte on refl (λ e. omega (arith, e))
signed (Error n) on = by_byte on refl (λ e. omega (arith, e))
signed (Message m) on = by_byte on refl (λ e. omega (arith, e))
signed (Report q) on = by_byte on refl (λ e. omega (arith, e))
signed (Setting n v) on = by_byte on refl (λ e. omega (arith, e))
signed (Modes m) on = by_byte on refl (λ e. omega (arith, e))
signed (Offset row at) on = by_byte on refl (λ e. omega (arith, e))
signed Bye on = absurd on

-- ---- numbers before CR

ends_with : (text rest : List ℕ) → (text ++ codes "\r\n") ++ rest ≡ text ++ 13 ∷ 10 ∷ rest
ends_with text rest = append_assoc text (codes "\r\n") rest

-- texts without CR, and what stands behind them
pub same_ended : (xs ys x y : List ℕ) → IsInside xs → IsInside ys → (xs ++ codes "\r\n") ++ x ≡ (ys ++ codes "\r\n") ++ y → (xs ≡ ys) × (x ≡ y)
same_ended xs ys x y xs_in ys_in e =
    let parts = parted is_inside xs ys 13 13 (10 ∷ x) (10 ∷ y) xs_in ys_in refl refl (sym (ends_with xs x) ∙ e ∙ ends_with ys y) in
    (parts.0, ap (drop 2) parts.1)

two_reports : (r q : AnyReport) (x y : List ℕ) → reply_text (Report r) ++ x ≡ reply_text (Report q) ++ y → x ≡ y
unfolding reply_text
two_reports r q x y e = (same_ended (report_text r) (report_text q) x y (report_inside r) (report_inside q) e).1

two_errors : (n m : ℕ) (x y : List ℕ) → reply_text (Error n) ++ x ≡ reply_text (Error m) ++ y → x ≡ y
unfolding reply_text
two_errors n m x y e = (same_ended (decimal n) (decimal m) x y (decimal_inside n) (decimal_inside m) (ap (drop 6) e)).1

two_alarms : (n m : ℕ) (x y : List ℕ) → reply_text (Alarm n) ++ x ≡ reply_text (Alarm m) ++ y → decimal n ≡ decimal m
unfolding reply_text
two_alarms n m x y e = (same_ended (decimal n) (decimal m) x y (decimal_inside n) (decimal_inside m) (ap (drop 6) e)).0

-- the sign of an alarm, by its digits
abbrev digits_sign : List ℕ → ℕ
digits_sign [] = 3
digits_sign (c ∷ []) = cond (nat_eq c 50) 1 (cond (nat_eq c 51) 2 3)
digits_sign (c ∷ d ∷ ds) = 3

either_sign : (b : Bool) (xs ys : List ℕ) → digits_sign xs ≡ 3 → digits_sign ys ≡ 3 → digits_sign (if b then xs else ys) ≡ 3
either_sign true xs ys e f = e
either_sign false xs ys e f = f

many_sign : (k n c d : ℕ) (ds : List ℕ) → digits_sign (digits_onto k 10 false n (c ∷ d ∷ ds)) ≡ 3
many_sign zero n c d ds = refl
many_sign (suc k) n c d ds =
    let glyph = digit_glyph false (n % 10) in
    either_sign (n / 10 == 0) (glyph ∷ c ∷ d ∷ ds) (digits_onto k 10 false (n / 10) (glyph ∷ c ∷ d ∷ ds)) refl (many_sign k (n / 10) glyph c (d ∷ ds))

one_more_sign : (k n c : ℕ) → digits_sign (digits_onto (suc k) 10 false n (c ∷ [])) ≡ 3
one_more_sign k n c =
    let glyph = digit_glyph false (n % 10) in
    either_sign (n / 10 == 0) (glyph ∷ c ∷ []) (digits_onto k 10 false (n / 10) (glyph ∷ c ∷ [])) refl (many_sign k (n / 10) glyph c [])

shifted : (n d : ℕ) → nat_eq n d ≡ nat_eq (48 + n) (48 + d)
shifted n d = grind (arith, nat_tests)

alarm_digits : (n : ℕ) → sign_of (Alarm n) ≡ digits_sign (decimal n)
unfolding digits
alarm_digits n = by_test (nat_lt n 10) refl where
  by_test : (b : Bool) → nat_lt n 10 ≡ b → sign_of (Alarm n) ≡ digits_sign (decimal n)
  by_test true few =
      ap (λ (b : Bool). cond b 1 (cond (nat_eq n 3) 2 3)) (shifted n 2)
      ∙ ap (λ (b : Bool). cond (nat_eq (48 + n) 50) 1 (cond b 2 3)) (shifted n 3)
      ∙ sym (ap digits_sign (decimal_digit n (ltb-true n 10 few)))
  by_test false many =
      let large : 10 ≤ n = ltb-false n 10 many in
      let tenth : (n / 10 == 0) ≡ false = ne_eqb (n / 10) 0 (λ e. omega (arith, e, large)) in
      let two : nat_eq n 2 ≡ false = ne_eqb n 2 (λ e. omega (arith, e, large)) in
      let three : nat_eq n 3 ≡ false = ne_eqb n 3 (λ e. omega (arith, e, large)) in
      ap (λ (b : Bool). cond b 1 (cond (nat_eq n 3) 2 3)) two ∙ ap (λ (b : Bool). cond false 1 (cond b 2 3)) three
      ∙ sym (ap (λ (b : Bool). digits_sign (if b then digit_glyph false (n % 10) ∷ [] else digits_onto 63 10 false (n / 10) (digit_glyph false (n % 10) ∷ []))) tenth ∙ one_more_sign 62 (n / 10) (digit_glyph false (n % 10)))

-- ---- the sign of a reply, by its text

pub one_sign : (r s : Reply) (x y : List ℕ) → IsOnConsole r → IsOnConsole s → reply_text r ++ x ≡ reply_text s ++ y → sign_of r ≡ sign_of s
one_sign r s x y r_on s_on e = by_kinds (signed r r_on) (signed s s_on) where
  byte : first_byte r ≡ first_byte s
  byte = one_first r s x y (no_bye r r_on) (no_bye s s_on) e

  by_kinds : Signed r → Signed s → sign_of r ≡ sign_of s
  by_kinds (an_alarm n r_is) (an_alarm m s_is) =
      let numbers = two_alarms n m x y (sym (ap (λ (q : Reply). reply_text q ++ x) r_is) ∙ e ∙ ap (λ (q : Reply). reply_text q ++ y) s_is) in
      ap sign_of r_is ∙ alarm_digits n ∙ ap digits_sign numbers ∙ sym (alarm_digits m) ∙ sym (ap sign_of s_is)
  by_kinds (an_alarm n r_is) (by_byte on sign none) = absurd (none (sym byte ∙ ap first_byte r_is))
  by_kinds (by_byte on sign none) (an_alarm m s_is) = absurd (none (byte ∙ ap first_byte s_is))
  by_kinds (by_byte r_some r_sign r_none) (by_byte s_some s_sign s_none) = r_sign ∙ byte ∙ sym s_sign

-- ---- told on

-- What leaves x of a text tells no reply of these beyond what leaves y.
abbrev pub NoneBetween : (Reply → Type 0) → List ℕ → List ℕ → Type 0
NoneBetween May x y = (r : Reply) (between : List ℕ) → May r → y ≡ reply_text r ++ (between ++ x) → ⊥

-- A text tells these replies, reports aside, up to x, and those up to y.
pub record ToldOn (May : Reply → Type 0) (x y : List ℕ) (us vs : List Reply) : Type 0 where
  pub one : List Reply
  pub other : List Reply
  pub one_may : AllByRecursion May one
  pub other_may : AllByRecursion May other
  pub one_is : without_reports one ≡ us
  pub other_is : without_reports other ≡ vs
  pub text : replies_text one ++ x ≡ replies_text other ++ y

-- From x on these replies are told, reports aside, up to y.
pub record ToldThen (May : Reply → Type 0) (x y : List ℕ) (vs : List Reply) : Type 0 where
  pub replies : List Reply
  pub may : AllByRecursion May replies
  pub are : without_reports replies ≡ vs
  pub text : x ≡ replies_text replies ++ y

-- these can stand on a console
abbrev pub CanStand : (Reply → Type 0) → Type 0
CanStand May = (r : Reply) → May r → IsOnConsole r

pub same_report : (r s : Reply) (x y : List ℕ) → is_report r ≡ true → is_report s ≡ true → reply_text r ++ x ≡ reply_text s ++ y → x ≡ y
same_report r s x y r_is s_is e =
    let a = report_byte r r_is in
    let b = report_byte s s_is in
    two_reports a.1.0 b.1.0 x y (sym (ap (λ (q : Reply). reply_text q ++ x) a.1.1) ∙ e ∙ ap (λ (q : Reply). reply_text q ++ y) b.1.1)

pub report_alone : {A : Type 0} (r s : Reply) (x y : List ℕ) → IsOnConsole r → IsOnConsole s → is_report r ≡ true → is_report s ≡ false → reply_text r ++ x ≡ reply_text s ++ y → A
report_alone r s x y r_on s_on r_is s_is e = absurd (no_report_byte s s_is (sym (one_first r s x y (no_bye r r_on) (no_bye s s_on) e) ∙ (report_byte r r_is).0))

module _ (May : Reply → Type 0) (can : CanStand May) (x y : List ℕ) (none : NoneBetween May x y) where
  -- what stands behind the reports that come first
  data Front (us vs : List Reply) : Type 0 where
    no_more : us ≡ [] → ToldThen May x y vs → Front us vs
    some_more : (r s : Reply) (more less : List Reply) → May r → May s → us ≡ r ∷ more → vs ≡ s ∷ less → (t u : List ℕ) → reply_text r ++ t ≡ reply_text s ++ u
        → ((t ≡ u) → ToldOn May x y more less) → Front us vs

  front_of : (us vs one other : List Reply) → AllByRecursion May one → AllByRecursion May other → without_reports one ≡ us → without_reports other ≡ vs → replies_text one ++ x ≡ replies_text other ++ y → Front us vs
  front_of us vs [] other one_may other_may one_is other_is text = no_more (sym one_is) (record { replies = other; may = other_may; are = other_is; text = text })
  front_of us vs (r ∷ one) [] one_may other_may one_is other_is text =
      absurd (none r (replies_text one) one_may.0 (sym text ∙ append_assoc (reply_text r) (replies_text one) x))
  front_of us vs (r ∷ one) (s ∷ other) one_may other_may one_is other_is text =
      by_kinds (is_report r) (is_report s) refl refl one_is other_is (λ a b e. front_of us vs one other one_may.1 other_may.1 a b e) where
        whole : reply_text r ++ (replies_text one ++ x) ≡ reply_text s ++ (replies_text other ++ y)
        whole = sym (append_assoc (reply_text r) (replies_text one) x) ∙ text ∙ append_assoc (reply_text s) (replies_text other) y

        by_kinds : (a b : Bool) → is_report r ≡ a → is_report s ≡ b → cond (not a) (r ∷ without_reports one) (without_reports one) ≡ us → cond (not b) (s ∷ without_reports other) (without_reports other) ≡ vs
            → (without_reports one ≡ us → without_reports other ≡ vs → replies_text one ++ x ≡ replies_text other ++ y → Front us vs) → Front us vs
        by_kinds true true r_is s_is one_here other_here again = again one_here other_here (same_report r s (replies_text one ++ x) (replies_text other ++ y) r_is s_is whole)
        by_kinds true false r_is s_is one_here other_here again =
            report_alone r s (replies_text one ++ x) (replies_text other ++ y) (can r one_may.0) (can s other_may.0) r_is s_is whole
        by_kinds false true r_is s_is one_here other_here again =
            report_alone s r (replies_text other ++ y) (replies_text one ++ x) (can s other_may.0) (can r one_may.0) s_is r_is (sym whole)
        by_kinds false false r_is s_is one_here other_here again =
            some_more r s (without_reports one) (without_reports other) one_may.0 other_may.0 (sym one_here) (sym other_here) (replies_text one ++ x) (replies_text other ++ y) whole
            (λ e. record { one = one; other = other; one_may = one_may.1; other_may = other_may.1; one_is = refl; other_is = refl; text = e })

  front : (us vs : List Reply) → ToldOn May x y us vs → Front us vs
  front us vs t = front_of us vs t.one t.other t.one_may t.other_may t.one_is t.other_is t.text

  -- behind the first of each, if their texts leave the same
  behind_first : (z w : Reply) (us vs : List Reply) → ((t u : List ℕ) → reply_text z ++ t ≡ reply_text w ++ u → t ≡ u) → Front (z ∷ us) (w ∷ vs) → ToldOn May x y us vs
  behind_first z w us vs leave (no_more a after) = absurd cc
  behind_first z w us vs leave (some_more r s more less r_may s_may one_is other_is t u text on) =
      let first : z ≡ r = cc in
      let second : w ≡ s = cc in
      let us_is : us ≡ more = cc in
      let vs_is : vs ≡ less = cc in
      subst (λ (rs : List Reply). ToldOn May x y rs vs) (sym us_is)
      (subst (λ (rs : List Reply). ToldOn May x y more rs) (sym vs_is) (on (leave t u (ap (λ (q : Reply). reply_text q ++ t) first ∙ text ∙ sym (ap (λ (q : Reply). reply_text q ++ u) second)))))

  behind_all : (zs us vs : List Reply) → ToldOn May x y (zs ++ us) (zs ++ vs) → ToldOn May x y us vs
  behind_all [] us vs t = t
  behind_all (z ∷ zs) us vs t = behind_all zs us vs (behind_first z z (zs ++ us) (zs ++ vs) (λ a b e. append_cancel_left (reply_text z) a b e) (front (z ∷ (zs ++ us)) (z ∷ (zs ++ vs)) t))

  first_signs : (us vs : List Reply) → Front us vs → (us ≡ []) ⊎ (first_sign us ≡ first_sign vs)
  first_signs us vs (no_more a after) = inl a
  first_signs us vs (some_more r s more less r_may s_may one_is other_is t u text on) =
      inr (ap first_sign one_is ∙ one_sign r s t u (can r r_may) (can s s_may) text ∙ sym (ap first_sign other_is))

  pub told_on : TellOn (ToldOn May x y)
  told_on = record {
    first = λ us vs t. first_signs us vs (front us vs t);
    behind = behind_all;
    errors = λ n m us vs t. behind_first (Error n) (Error m) us vs (two_errors n m) (front (Error n ∷ us) (Error m ∷ vs) t);
  }

  -- what is told besides
  pub told_then : (vs : List Reply) → ToldOn May x y [] vs → ToldThen May x y vs
  told_then vs t = by_front (front [] vs t) where
    by_front : Front [] vs → ToldThen May x y vs
    by_front (no_more a after) = after
    by_front (some_more r s more less r_may s_may one_is other_is u v text on) = absurd cc
