-- What a recorder writes is a step text, and a step text is what it writes of its records.
use Rattle.std.specs.Prelude.{codes}
use Rattle.std.proofs.Common.{◌≡◌, ℕ, zero, suc, ◌+◌, ◌≤◌, Bool, true, false, cond, nat_eq, List, [], ◌∷◌, ◌++◌, All, length, take, drop, replicate, Some, None, refl, sym, ap, subst, ◌∙◌, arith}
use Rattle.std.specs.List.{flat_map, AllByRecursion}
use Rattle.std.specs.Str.{bytes_eq}
use Rattle.std.specs.declared.option.Option.{Option}
use Rattle.std.proofs.lemmas.Bool.Decides.{nat_tests}
use Rattle.std.proofs.lemmas.List.Elements.{recursion_from_All}
use Rattle.std.proofs.lemmas.List.Concat.{flat_map-cons}
use Rattle.std.proofs.lemmas.Option.{none-some}
use Rattle.step_line.specs.Events.{IsEvent}
use Rattle.step_line.specs.Records.{IsRecord}
use Rattle.step_line.specs.declared.Bits.{Bits}
use Rattle.step_line.specs.declared.Record.{Record}
use Rattle.step_line.specs.declared.Record.TheVariants as kinds
use Rattle.step_record.specs.Forms.{full_run, line_text, run_text, records_of as records_by, same_bits, is_event_of, runs, lines_of, text_in}
use Rattle.step_record.specs.Recording.{events_text, is_event}
use Rattle.step_record.specs.Reading.{record_at, event_at, axis_at, head_at, mark_at, dwell_at, turn_at, plain_at, cut_at, reset_at}
use Rattle.step_record.specs.Texts.{record_text, event_text}
use Rattle.step_record.specs.declared.forms.Form.{Form}
use Rattle.step_record.specs.declared.forms.Form.TheVariants.{One, Two}
use Rattle.step_record.specs.declared.forms.Line.{Line}
use Rattle.step_record.specs.declared.forms.Line.TheVariants as line_kinds
use Rattle.step_record.proofs.Fields.{after_takes}
use Rattle.step_record.proofs.Lines.{record_again}
use Rattle.step_record.proofs.Runs.{same_tells, turned, IsApart, apart_at_end, apart_from, lines_text as written_text, passed, passed_full, line_alone}
use Rattle.audit_rules.specs.StepTexts.{IsLineOf, MayFollow, AreApart, AreLinesOf, IsStepText, event_in, is_full, lines_text, records_of, heading, form_of}

-- ---- the event of a line

has_event : Option Bits → Bits → Bool
has_event None b = false
has_event (Some c) b = same_bits b c

event_is : (o : Option Bits) (b : Bits) → has_event o b ≡ true → o ≡ Some b
unfolding has_event
event_is None b e = absurd cc
event_is (Some c) b e = ap (λ (d : Bits). Some d) (sym ((same_tells b c).0 e))

has_its_event : (o : Option Bits) (b : Bits) → o ≡ Some b → has_event o b ≡ true
unfolding has_event
has_its_event o b e = ap (λ (p : Option Bits). has_event p b) e ∙ (same_tells b b).1 refl

count_of : Line → ℕ
count_of (line_kinds.One r) = 1
count_of (line_kinds.Run n b) = n
count_of line_kinds.Version = 0

same_event : (b c : Bits) → Some b ≡ Some c → b ≡ c
same_event b c e = cc

records_are : (l : Line) (b : Bits) → event_in l ≡ Some b → records_by l ≡ replicate (count_of l) (kinds.Event b)
unfolding count_of
records_are (line_kinds.One (kinds.Event c)) b e = ap (λ (d : Bits). kinds.Event d ∷ []) (same_event c b e)
records_are (line_kinds.One (kinds.Head h)) b e = absurd cc
records_are (line_kinds.One (kinds.Mark m)) b e = absurd cc
records_are (line_kinds.One kinds.End) b e = absurd cc
records_are (line_kinds.Run n c) b e = ap (λ (d : Bits). replicate n (kinds.Event d)) (same_event c b e)
records_are line_kinds.Version b e = absurd cc

-- ---- lines that are apart

pub apart_cons : (form : Form) (l : Line) (ls : List Line) → ((m : Line) (ms : List Line) → ls ≡ m ∷ ms → MayFollow form l m) → AreApart form ls → AreApart form (l ∷ ls)
apart_cons form l [] may apart = tt
apart_cons form l (m ∷ ms) may apart = (may m ms refl, apart)

apart_rest : (form : Form) (l : Line) (ls : List Line) → AreApart form (l ∷ ls) → AreApart form ls
apart_rest form l [] apart = tt
apart_rest form l (m ∷ ms) apart = apart.1

apart_next : (form : Form) (l : Line) (ls : List Line) → AreApart form (l ∷ ls) → (m : Line) (ms : List Line) → ls ≡ m ∷ ms → MayFollow form l m
apart_next form l [] apart m ms e = absurd cc
apart_next form l (n ∷ ns) apart m ms e = let same : n ≡ m = cc in subst (λ (k : Line). MayFollow form l k) same apart.0

lines_rest : (form : Form) (l : Line) (ls : List Line) → AreLinesOf form (l ∷ ls) → AreLinesOf form ls
lines_rest form l ls are = record { each = are.each.1; apart = apart_rest form l ls are.apart }

-- ---- one event in front

record Joined (b : Bits) (ls : List Line) : Type 0 where
  pub all : List Line
  pub are : AreLinesOf Two all
  pub records : records_of all ≡ kinds.Event b ∷ records_of ls

one_more : Bits → Line → Line
one_more b l = line_kinds.Run (count_of l + 1) b

not_full : (n : ℕ) → n ≤ full_run → nat_eq n full_run ≡ false → n + 1 ≤ full_run
not_full n room less = let other : n ≡ full_run → ⊥ = λ e. absurd (let t : nat_eq n full_run ≡ true = ap (λ (k : ℕ). nat_eq k full_run) e in let f : true ≡ false = sym t ∙ less in cc) in grind (arith, other)

more_is : (b : Bits) (l : Line) → IsEvent b → IsLineOf Two l → event_in l ≡ Some b → is_full l ≡ false → IsLineOf Two (one_more b l)
unfolding one_more count_of
more_is b (line_kinds.One r) event is e less = (omega arith, omega arith, event)
more_is b (line_kinds.Run n c) event is e less = (omega (arith, is.0), not_full n is.1 less, event)
more_is b line_kinds.Version event is e less = absurd is

move_in_front : (l : Line) (b : Bits) (rs : List Record) → event_in l ≡ Some b → records_by l ++ kinds.Event b ∷ rs ≡ kinds.Event b ∷ (records_by l ++ rs)
move_in_front l b rs e =
    let is = records_are l b e in
    let one : count_of l + 1 ≡ suc (count_of l) = omega arith in
    ap (λ (xs : List Record). xs ++ kinds.Event b ∷ rs) is ∙ turned (count_of l) (kinds.Event b) rs ∙ ap (λ (n : ℕ). replicate n (kinds.Event b) ++ rs) one
    ∙ ap (λ (xs : List Record). kinds.Event b ∷ (xs ++ rs)) (sym is)

grown : (l : Line) (b : Bits) (rs : List Record) → event_in l ≡ Some b → records_by (one_more b l) ++ rs ≡ kinds.Event b ∷ (records_by l ++ rs)
unfolding one_more
grown l b rs e =
    let is = records_are l b e in
    let one : count_of l + 1 ≡ suc (count_of l) = omega arith in
    ap (λ (n : ℕ). replicate n (kinds.Event b) ++ rs) one ∙ ap (λ (xs : List Record). kinds.Event b ∷ (xs ++ rs)) (sym is)

more_event : (b : Bits) (l : Line) → event_in (one_more b l) ≡ Some b
unfolding one_more
more_event b l = refl

no_such : {A : Type 0} (a : Bool) → a ≡ true → a ≡ false → A
no_such a e f = absurd (let g : true ≡ false = sym e ∙ f in cc)

joined_by : (b : Bits) (l : Line) (ls : List Line) → IsEvent b → AreLinesOf Two (l ∷ ls) → Joined b ls → (has full : Bool) → has_event (event_in l) b ≡ has → is_full l ≡ full → Joined b (l ∷ ls)
joined_by b l ls event are again false full h f = record {
  all = line_kinds.One (kinds.Event b) ∷ l ∷ ls;
  are = record {
    each = (event, are.each);
    apart = (λ c e g. no_such (has_event (event_in l) b) (has_its_event (event_in l) b (g ∙ sym e)) h, are.apart);
  };
  records = refl;
}
joined_by b l ls event are again true true h f = record {
  all = l ∷ again.all;
  are = record { each = (are.each.0, again.are.each); apart = apart_cons Two l again.all (λ m ms e c d g. f) again.are.apart };
  records = ap (λ (rs : List Record). records_by l ++ rs) again.records ∙ move_in_front l b (records_of ls) (event_is (event_in l) b h);
}
joined_by b l ls event are again true false h f =
    let e = event_is (event_in l) b h in
    record {
      all = one_more b l ∷ ls;
      are = record {
        each = (more_is b l event are.each.0 e f, are.each.1);
        apart = apart_cons Two (one_more b l) ls (λ m ms is c d g. no_such (is_full l) (apart_next Two l ls are.apart m ms is c (e ∙ sym (more_event b l) ∙ d) g) f) (apart_rest Two l ls are.apart);
      };
      records = grown l b (records_of ls) e;
    }

join : (b : Bits) (ls : List Line) → IsEvent b → AreLinesOf Two ls → Joined b ls
join b [] event are = record { all = line_kinds.One (kinds.Event b) ∷ []; are = record { each = (event, tt); apart = tt }; records = refl }
join b (l ∷ ls) event are =
    let again = join b ls event (lines_rest Two l ls are) in
    joined_by b l ls event are again (has_event (event_in l) b) (is_full l) refl refl

-- ---- records in form 2

record Written (form : Form) (rs : List Record) : Type 0 where
  pub all : List Line
  pub are : AreLinesOf form all
  pub records : records_of all ≡ rs

no_event : (r : Record) → is_event r ≡ false → event_in (line_kinds.One r) ≡ None
no_event (kinds.Head h) e = refl
no_event (kinds.Event b) e = absurd cc
no_event (kinds.Mark m) e = refl
no_event kinds.End e = refl

none_such : {A : Type 0} (o : Option Bits) (b : Bits) → o ≡ None → o ≡ Some b → A
none_such o b e f = absurd (let g : ◌≡◌ {A = Option Bits} None (Some b) = sym e ∙ f in cc)

alone : (r : Record) (rs : List Record) → IsRecord r → is_event r ≡ false → Written Two rs → Written Two (r ∷ rs)
alone r rs is other w = record {
  all = line_kinds.One r ∷ w.all;
  are = record { each = (is, w.are.each); apart = apart_cons Two (line_kinds.One r) w.all (λ m ms e b f g. none_such (event_in (line_kinds.One r)) b (no_event r other) f) w.are.apart };
  records = ap (λ (more : List Record). r ∷ more) w.records;
}

one_in_front : (r : Record) (rs : List Record) → IsRecord r → Written Two rs → Written Two (r ∷ rs)
one_in_front (kinds.Event b) rs is w =
    let j = join b w.all is w.are in
    record { all = j.all; are = j.are; records = j.records ∙ ap (λ (more : List Record). kinds.Event b ∷ more) w.records }
one_in_front (kinds.Head h) rs is w = alone (kinds.Head h) rs is refl w
one_in_front (kinds.Mark m) rs is w = alone (kinds.Mark m) rs is refl w
one_in_front kinds.End rs is w = alone kinds.End rs is refl w

written_two : (rs : List Record) → AllByRecursion IsRecord rs → Written Two rs
written_two [] each = record { all = []; are = record { each = tt; apart = tt }; records = refl }
written_two (r ∷ rs) each = one_in_front r rs each.0 (written_two rs each.1)

apart_one : (ls : List Line) → AreApart One ls
apart_one [] = tt
apart_one (l ∷ []) = tt
apart_one (l ∷ m ∷ ms) = (tt, apart_one (m ∷ ms))

written_one : (rs : List Record) → AllByRecursion IsRecord rs → Written One rs
written_one [] each = record { all = []; are = record { each = tt; apart = tt }; records = refl }
written_one (r ∷ rs) each =
    let w = written_one rs each.1 in
    record { all = line_kinds.One r ∷ w.all; are = record { each = (each.0, w.are.each); apart = apart_one (line_kinds.One r ∷ w.all) }; records = ap (λ (more : List Record). r ∷ more) w.records }

-- ---- the text of lines is that of their records

text_one : (ls : List Line) → AllByRecursion (IsLineOf One) ls → lines_text ls ≡ flat_map record_text (records_of ls)
text_one [] each = refl
text_one (line_kinds.One r ∷ ls) each = ap (λ (t : List ℕ). record_text r ++ t) (text_one ls each.1)
text_one (line_kinds.Run n b ∷ ls) each = absurd each.0
text_one (line_kinds.Version ∷ ls) each = absurd each.0

many_text : (n : ℕ) (b : Bits) → 2 ≤ n → events_text n b ≡ run_text n b
many_text zero b many = absurd (omega (arith, many))
many_text (suc zero) b many = absurd (omega (arith, many))
many_text (suc (suc n)) b many = refl

event_text_is : (l : Line) (b : Bits) → IsLineOf Two l → event_in l ≡ Some b → events_text (count_of l) b ≡ line_text l
unfolding count_of
event_text_is (line_kinds.One (kinds.Event c)) b is e = ap event_text (sym (same_event c b e))
event_text_is (line_kinds.One (kinds.Head h)) b is e = absurd cc
event_text_is (line_kinds.One (kinds.Mark m)) b is e = absurd cc
event_text_is (line_kinds.One kinds.End) b is e = absurd cc
event_text_is (line_kinds.Run n c) b is e = many_text n b is.0 ∙ ap (run_text n) (sym (same_event c b e))
event_text_is line_kinds.Version b is e = absurd is

count_room : (l : Line) → IsLineOf Two l → count_of l ≤ full_run
unfolding count_of
count_room (line_kinds.One r) is = omega arith
count_room (line_kinds.Run n b) is = is.1
count_room line_kinds.Version is = absurd is

full_count : (l : Line) → is_full l ≡ true → count_of l ≡ full_run
unfolding count_of
full_count (line_kinds.One r) e = absurd cc
full_count (line_kinds.Run n b) e = grind (arith, nat_tests)
full_count line_kinds.Version e = absurd cc

-- the first record of a line, which has the line's event if it has one
record First (m : Line) : Type 0 where
  pub of : Record
  pub more : List Record
  pub is : records_by m ≡ of ∷ more
  pub apart : (b : Bits) → has_event (event_in m) b ≡ false → is_event_of b of ≡ false
  pub same : (b : Bits) → event_in m ≡ Some b → of ≡ kinds.Event b

first_alone : (r : Record) → First (line_kinds.One r)
unfolding has_event
first_alone (kinds.Head h) = record { of = kinds.Head h; more = []; is = refl; apart = λ b e. refl; same = λ b e. absurd cc }
first_alone (kinds.Event c) = record { of = kinds.Event c; more = []; is = refl; apart = λ b e. e; same = λ b e. ap kinds.Event (same_event c b e) }
first_alone (kinds.Mark m) = record { of = kinds.Mark m; more = []; is = refl; apart = λ b e. refl; same = λ b e. absurd cc }
first_alone kinds.End = record { of = kinds.End; more = []; is = refl; apart = λ b e. refl; same = λ b e. absurd cc }

first_of : (m : Line) → IsLineOf Two m → First m
unfolding has_event
first_of (line_kinds.One r) is = first_alone r
first_of (line_kinds.Run zero c) is = absurd (omega (arith, is.0))
first_of (line_kinds.Run (suc n) c) is = record { of = kinds.Event c; more = replicate n (kinds.Event c); is = refl; apart = λ b e. e; same = λ b e. ap kinds.Event (same_event c b e) }
first_of line_kinds.Version is = absurd is

-- events are written, and what follows
events_written : (l : Line) (ls : List Line) (b : Bits) → AreLinesOf Two (l ∷ ls) → event_in l ≡ Some b
    → written_text (replicate (count_of l) (kinds.Event b) ++ records_of ls) ≡ events_text (count_of l) b ++ written_text (records_of ls)
events_written l [] b are e = passed (count_of l) b [] (count_room l are.each.0) (apart_at_end b)
events_written l (m ∷ ms) b are e = by_has (has_event (event_in m) b) refl where
  first : First m
  first = first_of m are.each.1.0

  rest : records_of (m ∷ ms) ≡ first.of ∷ (first.more ++ records_of ms)
  rest = ap (λ (rs : List Record). rs ++ records_of ms) first.is

  by_has : (has : Bool) → has_event (event_in m) b ≡ has → written_text (replicate (count_of l) (kinds.Event b) ++ records_of (m ∷ ms)) ≡ events_text (count_of l) b ++ written_text (records_of (m ∷ ms))
  by_has false h =
      passed (count_of l) b (records_of (m ∷ ms)) (count_room l are.each.0)
      (subst (λ (rs : List Record). IsApart b rs) (sym rest) (apart_from b first.of (first.more ++ records_of ms) (first.apart b h)))
  by_has true h =
      let there = event_is (event_in m) b h in
      let whole : records_of (m ∷ ms) ≡ kinds.Event b ∷ (first.more ++ records_of ms) = rest ∙ ap (λ (r : Record). r ∷ (first.more ++ records_of ms)) (first.same b there) in
      let full = full_count l (are.apart.0 b e there) in
      ap (λ (rs : List Record). written_text (replicate (count_of l) (kinds.Event b) ++ rs)) whole
      ∙ passed_full (count_of l) b (first.more ++ records_of ms) full
      ∙ ap (λ (rs : List Record). events_text (count_of l) b ++ written_text rs) (sym whole)

with_event : (l : Line) (ls : List Line) (b : Bits) → AreLinesOf Two (l ∷ ls) → event_in l ≡ Some b → written_text (records_by l ++ records_of ls) ≡ line_text l ++ written_text (records_of ls)
with_event l ls b are e =
    ap (λ (rs : List Record). written_text (rs ++ records_of ls)) (records_are l b e) ∙ events_written l ls b are e
    ∙ ap (λ (t : List ℕ). t ++ written_text (records_of ls)) (event_text_is l b are.each.0 e)

alone_written : (r : Record) (rs : List Record) → is_event r ≡ false → written_text (r ∷ rs) ≡ line_text (line_kinds.One r) ++ written_text rs
alone_written r rs other = line_alone r rs other

line_written : (l : Line) (ls : List Line) → AreLinesOf Two (l ∷ ls) → written_text (records_by l ++ records_of ls) ≡ line_text l ++ written_text (records_of ls)
line_written (line_kinds.One (kinds.Head h)) ls are = alone_written (kinds.Head h) (records_of ls) refl
line_written (line_kinds.One (kinds.Mark m)) ls are = alone_written (kinds.Mark m) (records_of ls) refl
line_written (line_kinds.One kinds.End) ls are = alone_written kinds.End (records_of ls) refl
line_written (line_kinds.One (kinds.Event b)) ls are = with_event (line_kinds.One (kinds.Event b)) ls b are refl
line_written (line_kinds.Run n b) ls are = with_event (line_kinds.Run n b) ls b are refl
line_written line_kinds.Version ls are = absurd are.each.0

text_two : (ls : List Line) → AreLinesOf Two ls → written_text (records_of ls) ≡ lines_text ls
unfolding lines_of runs
text_two [] are = refl
text_two (l ∷ ls) are = line_written l ls are ∙ ap (λ (t : List ℕ). line_text l ++ t) (text_two ls (lines_rest Two l ls are))

-- ---- whole texts

no_version_line : (t : List ℕ) → record_at (codes "V 2\n" ++ t) ≡ None
unfolding record_at event_at axis_at head_at mark_at dwell_at turn_at plain_at cut_at reset_at
no_version_line t = refl

form_two : (t : List ℕ) → form_of (codes "V 2\n" ++ t) ≡ Two
form_two t = refl

-- a text that begins with the version is of form 2
pub begins_version : (text : List ℕ) → bytes_eq (take 4 text) (codes "V 2\n") ≡ true → text ≡ codes "V 2\n" ++ drop 4 text
begins_version text e = after_takes (codes "V 2\n") text (drop 4 text) (ap (λ (t : Bool). cond t (Some (drop 4 text)) None) e)

form_one : (rs : List Record) → AllByRecursion IsRecord rs → form_of (text_in One rs) ≡ One
form_one [] each = refl
form_one (r ∷ rs) each = by_test (bytes_eq (take 4 (text_in One (r ∷ rs))) (codes "V 2\n")) refl where
  by_test : (t : Bool) → bytes_eq (take 4 (text_in One (r ∷ rs))) (codes "V 2\n") ≡ t → cond t Two One ≡ One
  by_test false e = refl
  by_test true e =
      let begins = begins_version (text_in One (r ∷ rs)) e in
      absurd (none-some (r, flat_map record_text rs)
      (sym (no_version_line (drop 4 (text_in One (r ∷ rs)))) ∙ ap record_at (sym begins ∙ flat_map-cons record_text r rs) ∙ record_again r (flat_map record_text rs) each.0))

as_form_one : (text : List ℕ) (all : List Line) → form_of text ≡ One → AreLinesOf One all → text ≡ lines_text all → IsStepText text all
as_form_one text all form are body =
    record { are = subst (λ (f : Form). AreLinesOf f all) (sym form) are; body = ap (λ (f : Form). drop (length (heading f)) text) form ∙ body }

pub lines_written : (form : Form) (rs : List Record) → All IsRecord rs → (all : List Line) × IsStepText (text_in form rs) all × (records_of all ≡ rs)
lines_written One rs each =
    let by = recursion_from_All IsRecord rs each in
    let w = written_one rs by in
    (w.all, as_form_one (text_in One rs) w.all (form_one rs by) w.are (ap (flat_map record_text) (sym w.records) ∙ sym (text_one w.all w.are.each)), w.records)
lines_written Two rs each =
    let w = written_two rs (recursion_from_All IsRecord rs each) in
    (w.all, record { are = w.are; body = ap written_text (sym w.records) ∙ text_two w.all w.are }, w.records)

-- the text is its heading and its body
whole_text : (text : List ℕ) (form : Form) → form_of text ≡ form → text ≡ heading form ++ drop (length (heading form)) text
whole_text text One e = refl
whole_text text Two e = begins_version text (is_two (bytes_eq (take 4 text) (codes "V 2\n")) e) where
  is_two : (t : Bool) → cond t Two One ≡ Two → t ≡ true
  is_two true e = refl
  is_two false e = absurd cc

pub written_again : (text : List ℕ) (all : List Line) → IsStepText text all → text ≡ text_in (form_of text) (records_of all)
written_again text all is = by_form (form_of text) refl is.are is.body where
  by_form : (form : Form) → form_of text ≡ form → AreLinesOf form all → drop (length (heading form)) text ≡ lines_text all → text ≡ text_in form (records_of all)
  by_form One e are body = body ∙ text_one all are.each
  by_form Two e are body = whole_text text Two e ∙ ap (λ (t : List ℕ). codes "V 2\n" ++ t) (body ∙ sym (text_two all are))
