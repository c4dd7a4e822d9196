-- The fields of a report can be read back from its text.
use Rattle.std.proofs.Common.{◌≡◌, ℕ, ◌^◌, ◌≤◌, ◌<◌, ℤ, ◌-ℤ◌, nat_abs, Bool, true, false, if◌then◌else◌, ◌&&◌, not, nat_eq, List, [], ◌∷◌, ◌++◌, length, drop, sum, decimal, Option, Some, None, refl, sym, ap, ◌∙◌, append_assoc, arith}
use Rattle.std.specs.List.{list_all}
use Rattle.std.proofs.lemmas.Bool.Decides.{nat_tests}
use Rattle.std.proofs.lemmas.Int.{ints}
use Rattle.std.proofs.lemmas.List.Folds.{list_all-append}
use Rattle.units.specs.Lengths.{minus}
use Rattle.units.specs.declared.Nm3.{Nm3}
use Rattle.units.specs.Fixed.{fixed3}
use Rattle.modal_state.specs.Modes.{IsWithin}
use Rattle.overrides.specs.declared.Overrides.{Overrides}
use Rattle.status_report.specs.declared.reports.State.{State}
use Rattle.status_report.specs.declared.reports.State.TheVariants.{Idle, Run, Hold0, Hold1, Jog, Alarm}
use Rattle.status_report.specs.declared.reports.Report.{Report}
use Rattle.status_report.specs.declared.Reply.TheVariants.{Report as Reporting}
use Rattle.status_report.specs.Places.{listed, place_text}
use Rattle.status_report.specs.Replies.{reply_text}
use Rattle.status_report.specs.Reports.{state_name, position_name, position_shown, position_field, buffer_fields, speeds_field, offset_field, overrides_field, report_fields, barred, report_text, farthest_told, IsReport, HasBytes, HasWidths}
use Rattle.status_report.proofs.Apart.{both, first_of_both, second_of_both, parted, PassesDigits, decimal_passes, decimal_same, fixed_passes, fixed_same}

-- a byte that ends no number in a list
is_listed : ℕ → Bool
is_listed b = not (nat_eq b 44)

-- a byte that ends no field
is_inner : ℕ → Bool
is_inner b = not (nat_eq b 124) && not (nat_eq b 62)

digits_listed : PassesDigits is_listed
unfolding is_listed
digits_listed c low high = grind (arith, nat_tests)

digits_inner : PassesDigits is_inner
unfolding is_inner
digits_inner c low high = grind (arith, nat_tests)

fixed_listed : (v : ℤ) → nat_abs v ≤ 2000000000000 → list_all is_listed (fixed3 v) ≡ true
unfolding is_listed
fixed_listed v near = fixed_passes is_listed digits_listed refl refl v near

fixed_inner : (v : ℤ) → nat_abs v ≤ 2000000000000 → list_all is_inner (fixed3 v) ≡ true
unfolding is_inner
fixed_inner v near = fixed_passes is_inner digits_inner refl refl v near

-- two texts of a list
pair_same : (x y v w : List ℕ) → list_all is_listed x ≡ true → list_all is_listed v ≡ true → listed (x ∷ y ∷ []) ≡ listed (v ∷ w ∷ []) → (x ≡ v) × (y ≡ w)
unfolding is_listed
pair_same x y v w x-all v-all e =
    let parts = parted is_listed x v 44 44 y w x-all v-all refl refl e in
    let rest : 44 ∷ y ≡ 44 ∷ w = parts.1 in
    (parts.0, (cc))

-- three
three_same : (x y z u v w : List ℕ) → list_all is_listed x ≡ true → list_all is_listed y ≡ true → list_all is_listed u ≡ true → list_all is_listed v ≡ true
    → listed (x ∷ y ∷ z ∷ []) ≡ listed (u ∷ v ∷ w ∷ []) → (x ≡ u) × (y ≡ v) × (z ≡ w)
unfolding is_listed
three_same x y z u v w x-all y-all u-all v-all e =
    let parts = parted is_listed x u 44 44 (y ++ 44 ∷ z) (v ++ 44 ∷ w) x-all u-all refl refl e in
    let rest : 44 ∷ (y ++ 44 ∷ z) ≡ 44 ∷ (v ++ 44 ∷ w) = parts.1 in
    let others = pair_same y z v w y-all v-all (cc) in
    (parts.0, others.0, others.1)

abbrev pub IsNear : Nm3 → Type 0
IsNear at = IsWithin 2000000000000 at

abbrev place_of : ℤ → ℤ → ℤ → Nm3
place_of x y z = record { x = x; y = y; z = z }

place_from : (a b : Nm3) → a.x ≡ b.x → a.y ≡ b.y → a.z ≡ b.z → a ≡ b
place_from a b x y z = ap (λ (t : ℤ). place_of t a.y a.z) x ∙ ap (λ (t : ℤ). place_of b.x t a.z) y ∙ ap (λ (t : ℤ). place_of b.x b.y t) z

place_same : (a b : Nm3) → IsNear a → IsNear b → place_text a ≡ place_text b → a ≡ b
place_same a b a-near b-near e =
    let texts = three_same (fixed3 a.x) (fixed3 a.y) (fixed3 a.z) (fixed3 b.x) (fixed3 b.y) (fixed3 b.z)
    (fixed_listed a.x a-near.x) (fixed_listed a.y a-near.y) (fixed_listed b.x b-near.x) (fixed_listed b.y b-near.y) e in
    let x : a.x ≡ b.x = fixed_same a.x b.x a-near.x b-near.x texts.0 in
    let y : a.y ≡ b.y = fixed_same a.y b.y a-near.y b-near.y texts.1 in
    let z : a.z ≡ b.z = fixed_same a.z b.z a-near.z b-near.z texts.2 in
    place_from a b x y z

abbrev overrides_of : ℕ → ℕ → ℕ → Overrides
overrides_of feed rapid spindle = record { feed = feed; rapid = rapid; spindle = spindle }

overrides_same : (a b : Overrides) → a.feed < 2 ^ 8 → a.rapid < 2 ^ 8 → a.spindle < 2 ^ 8 → b.feed < 2 ^ 8 → b.rapid < 2 ^ 8 → b.spindle < 2 ^ 8
    → overrides_field a ≡ overrides_field b → a ≡ b
overrides_same a b a1 a2 a3 b1 b2 b3 e =
    let lists : listed (decimal a.feed ∷ decimal a.rapid ∷ decimal a.spindle ∷ []) ≡ listed (decimal b.feed ∷ decimal b.rapid ∷ decimal b.spindle ∷ []) = cc in
    let texts = three_same (decimal a.feed) (decimal a.rapid) (decimal a.spindle) (decimal b.feed) (decimal b.rapid) (decimal b.spindle)
    (decimal_passes is_listed digits_listed a.feed (omega arith)) (decimal_passes is_listed digits_listed a.rapid (omega arith))
    (decimal_passes is_listed digits_listed b.feed (omega arith)) (decimal_passes is_listed digits_listed b.rapid (omega arith)) lists in
    let feed : a.feed ≡ b.feed = decimal_same a.feed b.feed (omega arith) (omega arith) texts.0 in
    let rapid : a.rapid ≡ b.rapid = decimal_same a.rapid b.rapid (omega arith) (omega arith) texts.1 in
    let spindle : a.spindle ≡ b.spindle = decimal_same a.spindle b.spindle (omega arith) (omega arith) texts.2 in
    let same : overrides_of a.feed a.rapid a.spindle ≡ overrides_of b.feed b.rapid b.spindle = cc in
    same

numbers_same : (f s g t : ℕ) → f < 2 ^ 64 → s < 2 ^ 64 → g < 2 ^ 64 → t < 2 ^ 64 → listed (decimal f ∷ decimal s ∷ []) ≡ listed (decimal g ∷ decimal t ∷ []) → (f ≡ g) × (s ≡ t)
numbers_same f s g t f-fits s-fits g-fits t-fits e =
    let texts = pair_same (decimal f) (decimal s) (decimal g) (decimal t) (decimal_passes is_listed digits_listed f f-fits) (decimal_passes is_listed digits_listed g g-fits) e in
    (decimal_same f g f-fits g-fits texts.0, decimal_same s t s-fits t-fits texts.1)

state_same : (a b : State) → state_name a ≡ state_name b → a ≡ b
state_same Idle Idle e = refl
state_same Run Run e = refl
state_same Hold0 Hold0 e = refl
state_same Hold1 Hold1 e = refl
state_same Jog Jog e = refl
state_same Alarm Alarm e = refl
state_same a b e = absurd (omega (arith, ap sum e))

-- the name of the position tells the machine's from the work's
position_same : (machine other : Bool) (a b : Nm3) → IsNear a → IsNear b → position_name machine ++ place_text a ≡ position_name other ++ place_text b → (machine ≡ other) × (a ≡ b)
position_same true true a b a-near b-near e = (refl, place_same a b a-near b-near (cc))
position_same false false a b a-near b-near e = (refl, place_same a b a-near b-near (cc))
position_same true false a b a-near b-near e = let i : ◌≡◌ {A = ℕ} 77 87 = cc in absurd (omega arith)
position_same false true a b a-near b-near e = let i : ◌≡◌ {A = ℕ} 87 77 = cc in absurd (omega arith)

-- a text of fields, and its end: the first byte ends what stands before it
behind : (fields : List (List ℕ)) (r : List ℕ) → (c : ℕ) × (rest : List ℕ) × (barred fields ++ 62 ∷ r ≡ c ∷ rest) × (is_inner c ≡ false)
unfolding is_inner
behind [] r = (62, r, refl, refl)
behind (field ∷ fields) r = (124, (field ++ barred fields) ++ 62 ∷ r, refl, refl)

are_inner : List (List ℕ) → Bool
are_inner fields = list_all (λ field. list_all is_inner field) fields

fields_same : (firsts seconds : List (List ℕ)) (r : List ℕ) → are_inner firsts ≡ true → are_inner seconds ≡ true → barred firsts ++ 62 ∷ r ≡ barred seconds ++ 62 ∷ r → firsts ≡ seconds
unfolding are_inner
fields_same [] [] r first-inner second-inner e = refl
fields_same [] (b ∷ seconds) r first-inner second-inner e = let i : ◌≡◌ {A = ℕ} 62 124 = cc in absurd (omega arith)
fields_same (a ∷ firsts) [] r first-inner second-inner e = let i : ◌≡◌ {A = ℕ} 124 62 = cc in absurd (omega arith)
fields_same (a ∷ firsts) (b ∷ seconds) r first-inner second-inner e =
    let first = behind firsts r in
    let second = behind seconds r in
    let tails : (a ++ barred firsts) ++ 62 ∷ r ≡ (b ++ barred seconds) ++ 62 ∷ r = cc in
    let cut : a ++ first.0 ∷ first.1 ≡ b ++ second.0 ∷ second.1 =
    ap (λ t. a ++ t) (sym first.2) ∙ sym (append_assoc a (barred firsts) (62 ∷ r)) ∙ tails ∙ append_assoc b (barred seconds) (62 ∷ r) ∙ ap (λ t. b ++ t) second.2 in
    let parts = parted is_inner a b first.0 second.0 first.1 second.1 (first_of_both _ (are_inner firsts) first-inner) (first_of_both _ (are_inner seconds) second-inner) first.3 second.3 cut in
    let others : firsts ≡ seconds = fields_same firsts seconds r (second_of_both (list_all is_inner a) _ first-inner) (second_of_both (list_all is_inner b) _ second-inner) (first.2 ∙ parts.1 ∙ sym second.2) in
    let one : a ≡ b = parts.0 in
    cc

-- what the parts of a report's text pass
joined_inner : (x y : List ℕ) → list_all is_inner x ≡ true → list_all is_inner y ≡ true → list_all is_inner (x ++ 44 ∷ y) ≡ true
unfolding is_inner
joined_inner x y first second = list_all-append is_inner x (44 ∷ y) ∙ both (list_all is_inner x) (list_all is_inner y) first second

place_inner : (at : Nm3) → IsNear at → list_all is_inner (place_text at) ≡ true
place_inner at near =
    joined_inner (fixed3 at.x) (fixed3 at.y ++ 44 ∷ fixed3 at.z) (fixed_inner at.x near.x)
    (joined_inner (fixed3 at.y) (fixed3 at.z) (fixed_inner at.y near.y) (fixed_inner at.z near.z))

pair_inner : (a b : ℕ) → a < 2 ^ 64 → b < 2 ^ 64 → list_all is_inner (listed (decimal a ∷ decimal b ∷ [])) ≡ true
pair_inner a b a-fits b-fits = joined_inner (decimal a) (decimal b) (decimal_passes is_inner digits_inner a a-fits) (decimal_passes is_inner digits_inner b b-fits)

name_inner : (s : State) → list_all is_inner (state_name s) ≡ true
unfolding is_inner
name_inner Idle = refl
name_inner Run = refl
name_inner Hold0 = refl
name_inner Hold1 = refl
name_inner Jog = refl
name_inner Alarm = refl

position_inner : (machine : Bool) (at : Nm3) → IsNear at → list_all is_inner (position_name machine ++ place_text at) ≡ true
unfolding is_inner
position_inner true at near = place_inner at near
position_inner false at near = place_inner at near

speeds_inner : (f s : ℕ) → f < 2 ^ 64 → s < 2 ^ 64 → list_all is_inner (speeds_field f s) ≡ true
unfolding is_inner
speeds_inner f s f-fits s-fits = pair_inner f s f-fits s-fits

offset_inner : (wco : Nm3) → IsNear wco → list_all is_inner (offset_field wco) ≡ true
unfolding is_inner
offset_inner wco near = place_inner wco near

overrides_inner : (ov : Overrides) → ov.feed < 2 ^ 8 → ov.rapid < 2 ^ 8 → ov.spindle < 2 ^ 8 → list_all is_inner (overrides_field ov) ≡ true
unfolding is_inner
overrides_inner ov feed rapid spindle =
    joined_inner (decimal ov.feed) (decimal ov.rapid ++ 44 ∷ decimal ov.spindle) (decimal_passes is_inner digits_inner ov.feed (omega arith))
    (pair_inner ov.rapid ov.spindle (omega arith) (omega arith))

with_buffer : (buffer : Option (ℕ × ℕ)) (others : List (List ℕ)) → HasBytes buffer → are_inner others ≡ true → are_inner (buffer_fields buffer ++ others) ≡ true
unfolding is_inner are_inner
with_buffer None others bytes inner = inner
with_buffer (Some free) others bytes inner = both (list_all is_inner (listed (decimal free.0 ∷ decimal free.1 ∷ []))) (are_inner others) (pair_inner free.0 free.1 (omega (arith, bytes.0)) (omega (arith, bytes.1))) inner

difference_near : (a b : ℤ) → nat_abs a ≤ farthest_told → nat_abs b ≤ farthest_told → nat_abs (a -ℤ b) ≤ 2000000000000
difference_near a b a-near b-near = omega (arith, ints)

near_enough : (at : Nm3) → IsWithin farthest_told at → IsNear at
near_enough at near = record { x = omega (arith, near.x); y = omega (arith, near.y); z = omega (arith, near.z) }

shown_near : (machine : Bool) (at wco : Nm3) → IsWithin farthest_told at → IsWithin farthest_told wco → IsNear (if machine then at else minus at wco)
shown_near true at wco at-near wco-near = near_enough at at-near
shown_near false at wco at-near wco-near = record {
  x = difference_near at.x wco.x at-near.x wco-near.x;
  y = difference_near at.y wco.y at-near.y wco-near.y;
  z = difference_near at.z wco.z at-near.z wco-near.z;
}

fields_inner : (r : Report) → IsReport r → HasWidths r → are_inner (state_name r.state ∷ report_fields r) ≡ true
unfolding are_inner
fields_inner r is widths =
    let ends = speeds_field r.f r.s ∷ offset_field r.wco ∷ overrides_field r.ov ∷ [] in
    both (list_all is_inner (state_name r.state)) (are_inner (report_fields r)) (name_inner r.state)
    (both (list_all is_inner (position_field r)) (are_inner (buffer_fields r.buffer ++ ends)) (position_inner r.machine (position_shown r) (shown_near r.machine r.at r.wco is.at is.wco))
    (with_buffer r.buffer ends widths.buffer
    (both (list_all is_inner (speeds_field r.f r.s)) (are_inner (offset_field r.wco ∷ overrides_field r.ov ∷ [])) (speeds_inner r.f r.s widths.f widths.s)
    (both (list_all is_inner (offset_field r.wco)) (are_inner (overrides_field r.ov ∷ [])) (offset_inner r.wco (near_enough r.wco is.wco))
    (both (list_all is_inner (overrides_field r.ov)) true (overrides_inner r.ov widths.feed widths.rapid widths.spindle) refl)))))

-- the text, with the state as the first of the fields
regroup : (name fields : List ℕ) → (((60 ∷ []) ++ name ++ fields) ++ 62 ∷ []) ++ 13 ∷ 10 ∷ [] ≡ 60 ∷ ((name ++ fields) ++ 62 ∷ 13 ∷ 10 ∷ [])
regroup name fields = simp append_assoc

text_is : (r : Report) → reply_text (Reporting r) ≡ 60 ∷ ((state_name r.state ++ barred (report_fields r)) ++ 62 ∷ 13 ∷ 10 ∷ [])
unfolding reply_text report_text
text_is r = regroup (state_name r.state) (barred (report_fields r))

all_fields_same : (r other : Report) → IsReport r → HasWidths r → IsReport other → HasWidths other → reply_text (Reporting r) ≡ reply_text (Reporting other)
    → state_name r.state ∷ report_fields r ≡ state_name other.state ∷ report_fields other
all_fields_same r other is widths other-is other-widths e =
    let whole : 60 ∷ ((state_name r.state ++ barred (report_fields r)) ++ 62 ∷ 13 ∷ 10 ∷ []) ≡ 60 ∷ ((state_name other.state ++ barred (report_fields other)) ++ 62 ∷ 13 ∷ 10 ∷ []) =
    sym (text_is r) ∙ e ∙ text_is other in
    fields_same (state_name r.state ∷ report_fields r) (state_name other.state ∷ report_fields other) (13 ∷ 10 ∷ []) (fields_inner r is widths) (fields_inner other other-is other-widths)
    (ap (λ t. 124 ∷ drop 1 t) whole)

some_from : (a b : ℕ × ℕ) → a.0 ≡ b.0 → a.1 ≡ b.1 → Some a ≡ Some b
some_from a b first second = ap (λ (t : ℕ). Some (t, a.1)) first ∙ ap (λ (t : ℕ). Some (b.0, t)) second

buffer_same : (a b : Option (ℕ × ℕ)) (firsts seconds : List (List ℕ)) → HasBytes a → HasBytes b → length firsts ≡ length seconds
    → buffer_fields a ++ firsts ≡ buffer_fields b ++ seconds → (a ≡ b) × (firsts ≡ seconds)
buffer_same None None firsts seconds a-bytes b-bytes long e = (refl, e)
buffer_same None (Some b) firsts seconds a-bytes b-bytes long e = absurd (omega (arith, ap length e))
buffer_same (Some a) None firsts seconds a-bytes b-bytes long e = absurd (omega (arith, ap length e))
buffer_same (Some a) (Some b) firsts seconds a-bytes b-bytes long e =
    let others : firsts ≡ seconds = cc in
    let lists : listed (decimal a.0 ∷ decimal a.1 ∷ []) ≡ listed (decimal b.0 ∷ decimal b.1 ∷ []) = cc in
    let numbers = numbers_same a.0 a.1 b.0 b.1 (omega (arith, a-bytes.0)) (omega (arith, a-bytes.1)) (omega (arith, b-bytes.0)) (omega (arith, b-bytes.1)) lists in
    (some_from a b numbers.0 numbers.1, others)

minus_same : (a b v w : ℤ) → v ≡ w → a -ℤ v ≡ b -ℤ w → a ≡ b
minus_same a b v w same e = omega (arith, ints)

at_same : (machine : Bool) (a b v w : Nm3) → v ≡ w → (if machine then a else minus a v) ≡ (if machine then b else minus b w) → a ≡ b
at_same true a b v w same e = e
at_same false a b v w same e =
    place_from a b (minus_same a.x b.x v.x w.x (ap (λ p. p.x) same) (ap (λ p. p.x) e)) (minus_same a.y b.y v.y w.y (ap (λ p. p.y) same) (ap (λ p. p.y) e))
    (minus_same a.z b.z v.z w.z (ap (λ p. p.z) same) (ap (λ p. p.z) e))

abbrev report_of : State → Bool → Nm3 → Option (ℕ × ℕ) → ℕ → ℕ → Nm3 → Overrides → Report
report_of state machine at buffer f s wco ov = record { state = state; machine = machine; at = at; buffer = buffer; f = f; s = s; wco = wco; ov = ov }

report_from : (a b : Report) → a.state ≡ b.state → a.machine ≡ b.machine → a.at ≡ b.at → a.buffer ≡ b.buffer → a.f ≡ b.f → a.s ≡ b.s → a.wco ≡ b.wco → a.ov ≡ b.ov → a ≡ b
report_from a b state machine at buffer f s wco ov =
    ap (λ (t : State). report_of t a.machine a.at a.buffer a.f a.s a.wco a.ov) state
    ∙ ap (λ (t : Bool). report_of b.state t a.at a.buffer a.f a.s a.wco a.ov) machine
    ∙ ap (λ (t : Nm3). report_of b.state b.machine t a.buffer a.f a.s a.wco a.ov) at
    ∙ ap (λ (t : Option (ℕ × ℕ)). report_of b.state b.machine b.at t a.f a.s a.wco a.ov) buffer
    ∙ ap (λ (t : ℕ). report_of b.state b.machine b.at b.buffer t a.s a.wco a.ov) f
    ∙ ap (λ (t : ℕ). report_of b.state b.machine b.at b.buffer b.f t a.wco a.ov) s
    ∙ ap (λ (t : Nm3). report_of b.state b.machine b.at b.buffer b.f b.s t a.ov) wco
    ∙ ap (λ (t : Overrides). report_of b.state b.machine b.at b.buffer b.f b.s b.wco t) ov

pub report_same : (r other : Report) → IsReport r → HasWidths r → IsReport other → HasWidths other → reply_text (Reporting r) ≡ reply_text (Reporting other) → r ≡ other
report_same r other is widths other-is other-widths e =
    let fields = all_fields_same r other is widths other-is other-widths e in
    let names : state_name r.state ≡ state_name other.state = cc in
    let positions : position_field r ≡ position_field other = cc in
    let ends = speeds_field r.f r.s ∷ offset_field r.wco ∷ overrides_field r.ov ∷ [] in
    let other-ends = speeds_field other.f other.s ∷ offset_field other.wco ∷ overrides_field other.ov ∷ [] in
    let rests : buffer_fields r.buffer ++ ends ≡ buffer_fields other.buffer ++ other-ends = cc in
    let buffers = buffer_same r.buffer other.buffer ends other-ends widths.buffer other-widths.buffer refl rests in
    let ends-same : ends ≡ other-ends = buffers.1 in
    let speeds : listed (decimal r.f ∷ decimal r.s ∷ []) ≡ listed (decimal other.f ∷ decimal other.s ∷ []) = cc in
    let offsets : place_text r.wco ≡ place_text other.wco = cc in
    let percents : overrides_field r.ov ≡ overrides_field other.ov = cc in
    let numbers = numbers_same r.f r.s other.f other.s widths.f widths.s other-widths.f other-widths.s speeds in
    let wco = place_same r.wco other.wco (near_enough r.wco is.wco) (near_enough other.wco other-is.wco) offsets in
    let shown = position_same r.machine other.machine (position_shown r) (position_shown other) (shown_near r.machine r.at r.wco is.at is.wco) (shown_near other.machine other.at other.wco other-is.at other-is.wco) positions in
    let at = at_same r.machine r.at other.at r.wco other.wco wco
    (shown.1 ∙ ap (λ (t : Bool). if t then other.at else minus other.at other.wco) (sym shown.0)) in
    report_from r other (state_same r.state other.state names) shown.0 at buffers.0 numbers.0 numbers.1 wco
    (overrides_same r.ov other.ov widths.feed widths.rapid widths.spindle other-widths.feed other-widths.rapid other-widths.spindle percents)
