-- The lines of form 2 of records that follow one another.
use Rattle.std.specs.Prelude.{codes}
use Rattle.std.proofs.Common.{◌≡◌, ℕ, zero, suc, ◌+◌, ◌*◌, ◌/◌, ◌%◌, ◌<◌, ◌≤◌, Bool, true, false, cond, ◌&&◌, ◌⊎◌, inl, inr, List, [], ◌∷◌, ◌++◌, replicate, ℤ, append-nil, append_assoc, refl, sym, ap, ◌∙◌, arith}
use Rattle.std.specs.List.{flat_map}
use Rattle.std.specs.Bool.{Decides}
use Rattle.std.specs.Ordering.{int_eq}
use Rattle.std.proofs.Math.Nat.{add-div_right, add-mod_right, div-eq_of_lt, mod-eq_of_lt}
use Rattle.std.proofs.lemmas.Bool.{cases_lt}
use Rattle.std.proofs.lemmas.Nat.{div-add-mod'}
use Rattle.std.proofs.lemmas.Bool.Decides.{Decides-int_eq, Decides-and, Decides-like}
use Rattle.std.proofs.lemmas.Grind.{flat_map-append}
use Rattle.std.proofs.lemmas.List.{replicate_more, replicate-append-replicate}
use Rattle.std.proofs.lemmas.List.Concat.{flat_map-cons}
use Rattle.step_line.specs.declared.Bits.{Bits}
use Rattle.step_line.specs.declared.Record.{Record}
use Rattle.step_line.specs.declared.Record.TheVariants as kinds
use Rattle.step_record.specs.declared.forms.Line.{Line}
use Rattle.step_record.specs.declared.forms.Line.TheVariants as lines
use Rattle.step_record.specs.Texts.{event_text, record_text}
use Rattle.step_record.specs.Forms.{Run, full_run, run_text, line_text, records_of, same_bits, is_event_of, stand_together, in_front, runs, lines_of_few, lines_of_events, lines_by, lines_of_run, lines_of}
use Rattle.step_record.specs.Recording.{events_text, is_event}

-- ---- equal events

whole_bits : (a b : Bits) → ((a.x ≡ b.x) × (a.y ≡ b.y)) × (a.z ≡ b.z) → a ≡ b
whole_bits a b e =
    let x : a ≡ record a { x = b.x } = ap (λ (v : ℤ). record a { x = v }) e.0.0 in
    let y : record a { x = b.x } ≡ record a { x = b.x; y = b.y } = ap (λ (v : ℤ). record a { x = b.x; y = v }) e.0.1 in
    let z : record a { x = b.x; y = b.y } ≡ b = ap (λ (v : ℤ). record a { x = b.x; y = b.y; z = v }) e.1 in
    x ∙ y ∙ z

parts_of : (a b : Bits) → a ≡ b → ((a.x ≡ b.x) × (a.y ≡ b.y)) × (a.z ≡ b.z)
parts_of a b e = ((ap (λ (v : Bits). v.x) e, ap (λ (v : Bits). v.y) e), ap (λ (v : Bits). v.z) e)

pub same_tells : (a b : Bits) → Decides (same_bits a b) (a ≡ b)
same_tells a b =
    let xy = Decides-and (int_eq a.x b.x) (int_eq a.y b.y) (Decides-int_eq a.x b.x) (Decides-int_eq a.y b.y) in
    let all = Decides-and (int_eq a.x b.x && int_eq a.y b.y) (int_eq a.z b.z) xy (Decides-int_eq a.z b.z) in
    Decides-like (same_bits a b) (whole_bits a b) (parts_of a b) all

together : (b : Bits) → stand_together (kinds.Event b) (kinds.Event b) ≡ true
together b = (same_tells b b).1 refl

-- ---- runs

pub in_front_begins : (r : Record) (rest : List Run) → (k : ℕ) × (later : List Run) × (in_front r rest ≡ record { count = k; of = r } ∷ later)
in_front_begins r [] = (1, [], refl)
in_front_begins r (first ∷ later) = by_test (stand_together r first.of)
  where
    by_test : (t : Bool) → (k : ℕ) × (others : List Run) × (cond t (record { count = first.count + 1; of = r } ∷ later) (record { count = 1; of = r } ∷ first ∷ later) ≡ record { count = k; of = r } ∷ others)
    by_test true = (first.count + 1, later, refl)
    by_test false = (1, first ∷ later, refl)

-- equal events in front of a run of them
many_in_front : (n k : ℕ) (b : Bits) (rest : List Record) (later : List Run) → runs rest ≡ record { count = k; of = kinds.Event b } ∷ later
    → runs (replicate n (kinds.Event b) ++ rest) ≡ record { count = k + n; of = kinds.Event b } ∷ later
unfolding runs
many_in_front zero k b rest later first = let sum : k ≡ k + 0 = omega arith in first ∙ ap (λ (m : ℕ). record { count = m; of = kinds.Event b } ∷ later) sum
many_in_front (suc n) k b rest later first =
    let before = many_in_front n k b rest later first in
    let more : k + n + 1 ≡ k + suc n = omega arith in
    ap (in_front (kinds.Event b)) before ∙ rw (together b) (ap (λ (m : ℕ). record { count = m; of = kinds.Event b } ∷ later) more)

-- an event does not stand together with what follows
abbrev pub IsApart : Bits → List Record → Type 0
IsApart b rest = in_front (kinds.Event b) (runs rest) ≡ record { count = 1; of = kinds.Event b } ∷ runs rest

pub apart_at_end : (b : Bits) → IsApart b []
unfolding runs
apart_at_end b = refl

pub apart_from : (b : Bits) (r : Record) (more : List Record) → is_event_of b r ≡ false → IsApart b (r ∷ more)
unfolding runs
apart_from b r more other =
    let begins = in_front_begins r (runs more) in
    rw (begins.2, other) refl

-- one more of the same in front
pub turned : (n : ℕ) (r : Record) (rest : List Record) → replicate n r ++ r ∷ rest ≡ replicate (n + 1) r ++ rest
turned n r rest = sym (append_assoc (replicate n r) (r ∷ []) rest) ∙ ap (λ (rs : List Record). rs ++ rest) (replicate_more n r)

begins_apart : (b : Bits) (rest : List Record) → IsApart b rest → runs (kinds.Event b ∷ rest) ≡ record { count = 1; of = kinds.Event b } ∷ runs rest
unfolding runs
begins_apart b rest apart = apart

begins_with : (r : Record) (rest : List Record) → runs (r ∷ rest) ≡ in_front r (runs rest)
unfolding runs
begins_with r rest = refl

-- ---- lines

lines_apart : (n : ℕ) (b : Bits) (rest : List Record) → IsApart b rest → lines_of (replicate n (kinds.Event b) ++ rest) ≡ lines_of_events n b ++ lines_of rest
unfolding lines_of
lines_apart zero b rest apart = refl
lines_apart (suc n) b rest apart =
    let one : suc n ≡ n + 1 = omega arith in
    let sum : 1 + n ≡ suc n = omega arith in
    let all : replicate (suc n) (kinds.Event b) ++ rest ≡ replicate n (kinds.Event b) ++ kinds.Event b ∷ rest =
    ap (λ (m : ℕ). replicate m (kinds.Event b) ++ rest) one ∙ sym (turned n (kinds.Event b) rest) in
    let first = many_in_front n 1 b (kinds.Event b ∷ rest) (runs rest) (begins_apart b rest apart) in
    ap (λ (rs : List Record). flat_map lines_of_run (runs rs)) all ∙ ap (flat_map lines_of_run) first ∙ flat_map-cons lines_of_run (record { count = 1 + n; of = kinds.Event b }) (runs rest)
    ∙ ap (λ (m : ℕ). lines_of_events m b ++ flat_map lines_of_run (runs rest)) sum

next : (q : ℕ) → q + 1 ≡ suc q
next q = omega arith

-- a run that is full
few_full : (k : ℕ) (b : Bits) → lines_of_events (k + full_run) b ≡ lines.Run full_run b ∷ lines_of_events k b
few_full k b =
    let quotient : (k + full_run) / full_run ≡ suc (k / full_run) = add-div_right k {k = full_run} (omega arith) ∙ next (k / full_run) in
    let rest : (k + full_run) % full_run ≡ k % full_run = add-mod_right k full_run in
    rw (quotient, rest) refl

lines_full : (n : ℕ) (b : Bits) (more : List Record) → n ≡ full_run
    → lines_of (replicate n (kinds.Event b) ++ kinds.Event b ∷ more) ≡ lines.Run full_run b ∷ lines_of (kinds.Event b ∷ more)
unfolding lines_of
lines_full n b more full =
    let begins = in_front_begins (kinds.Event b) (runs more) in
    let first : runs (kinds.Event b ∷ more) ≡ record { count = begins.0; of = kinds.Event b } ∷ begins.1 = begins_with (kinds.Event b) more ∙ begins.2 in
    let all = many_in_front n begins.0 b (kinds.Event b ∷ more) begins.1 first in
    ap (flat_map lines_of_run) all ∙ flat_map-cons lines_of_run (record { count = begins.0 + n; of = kinds.Event b }) begins.1
    ∙ ap (λ (m : ℕ). lines_of_events (begins.0 + m) b ++ flat_map lines_of_run begins.1) full
    ∙ ap (λ (ls : List Line). ls ++ flat_map lines_of_run begins.1) (few_full begins.0 b)
    ∙ ap (λ (ls : List Line). lines.Run full_run b ∷ ls) (sym (ap (flat_map lines_of_run) first ∙ flat_map-cons lines_of_run (record { count = begins.0; of = kinds.Event b }) begins.1))

-- ---- texts

abbrev pub lines_text : List Record → List ℕ
lines_text rs = flat_map line_text (lines_of rs)

few_text : (n : ℕ) (b : Bits) → flat_map line_text (lines_of_few n b) ≡ events_text n b
few_text zero b = refl
few_text (suc zero) b = flat_map-cons line_text (lines.One (kinds.Event b)) [] ∙ append-nil (event_text b)
few_text (suc (suc n)) b = flat_map-cons line_text (lines.Run (suc (suc n)) b) [] ∙ append-nil (run_text (suc (suc n)) b)

run_of_many : (n : ℕ) (b : Bits) → 2 ≤ n → events_text n b ≡ run_text n b
run_of_many zero b many = absurd (omega arith)
run_of_many (suc zero) b many = absurd (omega arith)
run_of_many (suc (suc n)) b many = refl

-- the events of one line
pub one_line_text : (n : ℕ) (b : Bits) → n ≤ full_run → flat_map line_text (lines_of_events n b) ≡ events_text n b
one_line_text n b room = elim (cases_lt n full_run) [
  | inl less ↦ few n less
  | inr most ↦ full n (omega arith)
]
  where
    few : (m : ℕ) → m < full_run → flat_map line_text (lines_of_events m b) ≡ events_text m b
    few m less =
        let none : m / full_run ≡ zero = div-eq_of_lt less in
        let rest : m % full_run ≡ m = mod-eq_of_lt less in
        rw (none, rest) (few_text m b)

    full : (m : ℕ) → m ≡ full_run → flat_map line_text (lines_of_events m b) ≡ events_text m b
    full m e =
        ap (λ (k : ℕ). flat_map line_text (lines_of_events k b)) e ∙ ap (flat_map line_text) (few_full zero b) ∙ flat_map-cons line_text (lines.Run full_run b) []
        ∙ append-nil (run_text full_run b) ∙ ap (λ (k : ℕ). run_text k b) (sym e) ∙ sym (run_of_many m b (omega arith))

-- those in hand get their line before a record that does not go on with them
pub passed : (n : ℕ) (b : Bits) (rest : List Record) → n ≤ full_run → IsApart b rest → lines_text (replicate n (kinds.Event b) ++ rest) ≡ events_text n b ++ lines_text rest
passed n b rest room apart =
    ap (flat_map line_text) (lines_apart n b rest apart) ∙ flat_map-append line_text (lines_of_events n b) (lines_of rest)
    ∙ ap (λ (t : List ℕ). t ++ lines_text rest) (one_line_text n b room)

pub passed_full : (n : ℕ) (b : Bits) (more : List Record) → n ≡ full_run
    → lines_text (replicate n (kinds.Event b) ++ kinds.Event b ∷ more) ≡ events_text n b ++ lines_text (kinds.Event b ∷ more)
passed_full n b more full =
    ap (flat_map line_text) (lines_full n b more full) ∙ flat_map-cons line_text (lines.Run full_run b) (lines_of (kinds.Event b ∷ more))
    ∙ ap (λ (t : List ℕ). t ++ lines_text (kinds.Event b ∷ more)) (ap (λ (k : ℕ). run_text k b) (sym full) ∙ sym (run_of_many n b (omega arith)))

-- the line of a record that is no event
alone : (r : Record) (rest : List Run) → is_event r ≡ false → in_front r rest ≡ record { count = 1; of = r } ∷ rest
alone r [] other = refl
alone (kinds.Head h) (first ∷ later) other = refl
alone (kinds.Event b) (first ∷ later) other = absurd cc
alone (kinds.Mark m) (first ∷ later) other = refl
alone kinds.End (first ∷ later) other = refl

own_line : (n : ℕ) (r : Record) → is_event r ≡ false → lines_by n r ≡ lines.One r ∷ []
own_line n (kinds.Head h) other = refl
own_line n (kinds.Event b) other = absurd cc
own_line n (kinds.Mark m) other = refl
own_line n kinds.End other = refl

pub line_alone : (r : Record) (more : List Record) → is_event r ≡ false → lines_text (r ∷ more) ≡ record_text r ++ lines_text more
unfolding lines_of
line_alone r more other =
    ap (λ (all : List Run). flat_map line_text (flat_map lines_of_run all)) (begins_with r more ∙ alone r (runs more) other)
    ∙ ap (flat_map line_text) (flat_map-cons lines_of_run (record { count = 1; of = r }) (runs more) ∙ ap (λ (ls : List Line). ls ++ flat_map lines_of_run (runs more)) (own_line 1 r other))
    ∙ flat_map-cons line_text (lines.One r) (flat_map lines_of_run (runs more))

pub no_event_of : (b : Bits) (r : Record) → is_event r ≡ false → is_event_of b r ≡ false
no_event_of b (kinds.Head h) other = refl
no_event_of b (kinds.Event c) other = absurd cc
no_event_of b (kinds.Mark m) other = refl
no_event_of b kinds.End other = refl

-- ---- the records that lines stand for

records_of_few : (n : ℕ) (b : Bits) → flat_map records_of (lines_of_few n b) ≡ replicate n (kinds.Event b)
records_of_few zero b = refl
records_of_few (suc zero) b = refl
records_of_few (suc (suc n)) b = flat_map-cons records_of (lines.Run (suc (suc n)) b) [] ∙ append-nil (replicate (suc (suc n)) (kinds.Event b))

records_of_full : (q k : ℕ) (b : Bits) → flat_map records_of (replicate q (lines.Run k b)) ≡ replicate (q * k) (kinds.Event b)
records_of_full zero k b = let none : 0 ≡ 0 * k = omega arith in ap (λ (m : ℕ). replicate m (kinds.Event b)) none
records_of_full (suc q) k b =
    let sum : k + q * k ≡ suc q * k = omega arith in
    flat_map-cons records_of (lines.Run k b) (replicate q (lines.Run k b)) ∙ ap (λ (rs : List Record). replicate k (kinds.Event b) ++ rs) (records_of_full q k b)
    ∙ replicate-append-replicate k (q * k) (kinds.Event b) ∙ ap (λ (m : ℕ). replicate m (kinds.Event b)) sum

records_of_events : (n : ℕ) (b : Bits) → flat_map records_of (lines_of_events n b) ≡ replicate n (kinds.Event b)
records_of_events n b =
    let sum : n / full_run * full_run + n % full_run ≡ n = div-add-mod' n full_run in
    flat_map-append records_of (replicate (n / full_run) (lines.Run full_run b)) (lines_of_few (n % full_run) b)
    ∙ rw (records_of_full (n / full_run) full_run b, records_of_few (n % full_run) b) (replicate-append-replicate (n / full_run * full_run) (n % full_run) (kinds.Event b))
    ∙ ap (λ (m : ℕ). replicate m (kinds.Event b)) sum

abbrev records_in : List Run → List Record
records_in all = flat_map records_of (flat_map lines_of_run all)

records_in_more : (run : Run) (later : List Run) → records_in (run ∷ later) ≡ flat_map records_of (lines_of_run run) ++ records_in later
records_in_more run later = ap (flat_map records_of) (flat_map-cons lines_of_run run later) ∙ flat_map-append records_of (lines_of_run run) (flat_map lines_of_run later)

is_event_of_same : (b : Bits) (r : Record) → is_event_of b r ≡ true → r ≡ kinds.Event b
is_event_of_same b (kinds.Head h) e = absurd cc
is_event_of_same b (kinds.Event c) e = ap kinds.Event (sym ((same_tells b c).0 e))
is_event_of_same b (kinds.Mark m) e = absurd cc
is_event_of_same b kinds.End e = absurd cc

-- one record
records_one : (r : Record) (all : List Run) → records_in (record { count = 1; of = r } ∷ all) ≡ r ∷ records_in all
records_one (kinds.Head h) all = records_in_more (record { count = 1; of = kinds.Head h }) all
records_one (kinds.Event b) all = records_in_more (record { count = 1; of = kinds.Event b }) all ∙ ap (λ (rs : List Record). rs ++ records_in all) (records_of_events 1 b)
records_one (kinds.Mark m) all = records_in_more (record { count = 1; of = kinds.Mark m }) all
records_one kinds.End all = records_in_more (record { count = 1; of = kinds.End }) all

one_more : (b : Bits) (first : Run) (later : List Run) (same : Bool) → is_event_of b first.of ≡ same
    → records_in (cond same (record { count = first.count + 1; of = kinds.Event b } ∷ later) (record { count = 1; of = kinds.Event b } ∷ first ∷ later)) ≡ kinds.Event b ∷ records_in (first ∷ later)
one_more b first later true e =
    let n = first.count in
    let of : lines_by n first.of ≡ lines_of_events n b = ap (lines_by n) (is_event_of_same b first.of e) in
    let sum : n + 1 ≡ suc n = omega arith in
    records_in_more (record { count = n + 1; of = kinds.Event b }) later
    ∙ ap (λ (rs : List Record). rs ++ records_in later) (records_of_events (n + 1) b ∙ ap (λ (m : ℕ). replicate m (kinds.Event b)) sum)
    ∙ ap (λ (rs : List Record). kinds.Event b ∷ (rs ++ records_in later)) (sym (records_of_events n b) ∙ ap (flat_map records_of) (sym of))
    ∙ ap (λ (rs : List Record). kinds.Event b ∷ rs) (sym (records_in_more first later))
one_more b first later false e = records_one (kinds.Event b) (first ∷ later)

records_in_front : (r : Record) (all : List Run) → records_in (in_front r all) ≡ r ∷ records_in all
records_in_front r [] = records_one r []
records_in_front (kinds.Head h) (first ∷ later) = records_one (kinds.Head h) (first ∷ later)
records_in_front (kinds.Event b) (first ∷ later) = one_more b first later (is_event_of b first.of) refl
records_in_front (kinds.Mark m) (first ∷ later) = records_one (kinds.Mark m) (first ∷ later)
records_in_front kinds.End (first ∷ later) = records_one kinds.End (first ∷ later)

-- the lines of form 2 stand for their records
pub stand_for : (rs : List Record) → flat_map records_of (lines_of rs) ≡ rs
unfolding lines_of runs
stand_for [] = refl
stand_for (r ∷ rs) = records_in_front r (runs rs) ∙ ap (λ (more : List Record). r ∷ more) (stand_for rs)

-- ---- the end

-- a front of runs that one record more in front leaves
in_front_front : (r : Record) (all last : List Run) → ((front : List Run) × (in_front r (all ++ last) ≡ front ++ last)) ⊎ (all ≡ [])
in_front_front r [] last = inr refl
in_front_front r (first ∷ later) last = inl (by_test (stand_together r first.of))
  where
    by_test : (t : Bool) → (front : List Run) × (cond t (record { count = first.count + 1; of = r } ∷ (later ++ last)) (record { count = 1; of = r } ∷ first ∷ (later ++ last)) ≡ front ++ last)
    by_test true = (record { count = first.count + 1; of = r } ∷ later, refl)
    by_test false = (record { count = 1; of = r } ∷ first ∷ later, refl)

abbrev the_end : List Run
the_end = record { count = 1; of = kinds.End } ∷ []

before_end : (r : Record) → in_front r the_end ≡ (record { count = 1; of = r } ∷ []) ++ the_end
before_end (kinds.Head h) = refl
before_end (kinds.Event b) = refl
before_end (kinds.Mark m) = refl
before_end kinds.End = refl

-- the end is a run of its own, the last
end_alone : (rs : List Record) → (front : List Run) × (runs (rs ++ kinds.End ∷ []) ≡ front ++ the_end)
unfolding runs
end_alone [] = ([], refl)
end_alone (r ∷ rs) =
    let others = end_alone rs in
    elim (in_front_front r others.0 the_end) [
      | inl more ↦ (more.0, ap (in_front r) others.1 ∙ more.1)
      | inr none ↦ (record { count = 1; of = r } ∷ [], ap (in_front r) (others.1 ∙ ap (λ (all : List Run). all ++ the_end) none) ∙ before_end r)
    ]

-- and its line the last line
pub last_text : (rs : List Record) → (front : List ℕ) × (lines_text (rs ++ kinds.End ∷ []) ≡ front ++ codes "E\n")
unfolding lines_of
last_text rs =
    let all = end_alone rs in (
      flat_map line_text (flat_map lines_of_run all.0),
      ap (λ (x : List Run). flat_map line_text (flat_map lines_of_run x)) all.1
          ∙ ap (flat_map line_text) (flat_map-append lines_of_run all.0 the_end)
          ∙ flat_map-append line_text (flat_map lines_of_run all.0) (flat_map lines_of_run the_end),
    )
