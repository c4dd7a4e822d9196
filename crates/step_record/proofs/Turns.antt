-- What a recorder's state says stays true from turn to turn.
use Rattle.std.specs.Prelude.{codes}
use Rattle.std.proofs.Common.{◌≡◌, ◌≢◌, ℕ, ◌+◌, ◌<◌, ◌≤◌, Bool, true, false, not, cond, ◌&&◌, ◌||◌, ◌⊎◌, nat_lt, nat_eq, length, replicate, arith, List, [], ◌∷◌, ◌++◌, refl, sym, ap, subst, ◌∙◌, append-nil, append_assoc, inl, inr}
use Rattle.std.specs.List.{flat_map}
use Rattle.std.proofs.lemmas.Bool.{ltb-true}
use Rattle.std.proofs.lemmas.Bool.Decides.{nat_tests}
use Rattle.std.proofs.lemmas.Grind.{flat_map-append}
use Rattle.std.proofs.lemmas.List.Concat.{flat_map-cons}
use Rattle.std.proofs.lemmas.List.Elements.{All-append, All-cons, All-nil}
use Rattle.outside.specs.Causes.{SinkState}
use Rattle.outside.specs.declared.On.TheVariants as polls
use Rattle.outside.specs.declared.Turn.TheVariants.{Did, Wait, Done}
use Rattle.outside.specs.Writing.{Wrote}
use Rattle.outside.proofs.Written.{wrote_nothing, more_waits}
use Rattle.text_writer.specs.Writers.{Writing, Writes, WroteOnce, is_due, with_text}
use Rattle.text_writer.proofs.Arriving.{once_more, done_waits}
use Rattle.step_line.specs.declared.Bits.{Bits}
use Rattle.step_line.specs.declared.Record.{Record}
use Rattle.step_line.specs.declared.Record.TheVariants as kinds
use Rattle.step_line.specs.Records.{IsRecord, is_end}
use Rattle.step_line.specs.Ending.{HasNoEnd}
use Rattle.step_record.specs.Taking.Event.{took, none}
use Rattle.step_record.specs.Taking.{Log, records}
use Rattle.step_record.specs.declared.forms.Form.{Form}
use Rattle.step_record.specs.declared.forms.Form.TheVariants.{One, Two}
use Rattle.step_record.specs.declared.held_lines.Hand.{Hand}
use Rattle.step_record.specs.Texts.{record_text}
use Rattle.step_record.specs.Forms.{full_run, same_bits, runs, lines_of, text_in}
use Rattle.step_record.specs.Recording.{Recording, Takes, Rests, RecorderFits, RecorderFitsOn, HasPut, HasFront, HasAll, HasFailed, events_text, hand_text, hand_records, goes_on, is_event, with_line, with_event, in_form_two, in_form, with_record, fresh_in, waits}
use Rattle.step_record.proofs.Runs.{same_tells, turned, apart_at_end, apart_from, lines_text, passed, passed_full, line_alone, no_event_of, last_text}

-- ---- the steps of a recorder

asked_as_before : (v w : Writing) (now later : SinkState) → WroteOnce v w now later → w.asked ≡ v.asked
asked_as_before v w now later (inl done) = ap (λ (x : Writing). x.asked) done.left
asked_as_before v w now later (inr failure) = ap (λ (x : Writing). x.asked) failure.left

-- only the writer has changed
pub record OnlyWriter (v w : Recording) : Type 0 where
  pub form : w.form ≡ v.form
  pub hand : w.hand ≡ v.hand

pub fits_written : (v w : Recording) (log : Log) (now later : SinkState) → OnlyWriter v w → Writes v.writer → WroteOnce v.writer w.writer now later → RecorderFitsOn v w log log now later
fits_written v w log now later only due once = let same = asked_as_before v.writer w.writer now later once in record {
  on = λ form before fits. record {
    form_is = only.form ∙ fits.form_is;
    each = fits.each;
    going = λ e. fits.going (sym same ∙ e);
    over = λ e. fits.over (sym same ∙ e);
    left = λ e. ap (λ (h : Hand). h.count) only.hand ∙ fits.left (sym same ∙ e);
    room = subst (λ (h : Hand). h.count ≤ full_run) (sym only.hand) fits.room;
    put = fits.put;
    has_put = subst (λ (h : Hand). HasPut form h (records log) fits.put) (sym only.hand) fits.has_put;
    wrote = once_more v.writer w.writer fits.put before now later due once fits.wrote;
  };
}

one_more_text : (rs : List Record) (r : Record) → flat_map record_text (rs ++ r ∷ []) ≡ flat_map record_text rs ++ record_text r
one_more_text rs r =
    flat_map-append record_text rs (r ∷ []) ∙ ap (λ x. flat_map record_text rs ++ x) (flat_map-cons record_text r [] ∙ append-nil (record_text r))

going_on : (rs : List Record) (r : Record) → HasNoEnd rs → is_end r ≡ false → HasNoEnd (rs ++ r ∷ [])
going_on rs r before other =
    let P : Record → Type 0 = λ s. s ≢ kinds.End in
    let apart : r ≢ kinds.End = λ (e : r ≡ kinds.End). let f : true ≡ false = sym (ap is_end e) ∙ other in absurd cc in
    All-append P rs (r ∷ []) before (All-cons P r [] apart (All-nil P))

is_the_end : (r : Record) → is_end r ≡ true → r ≡ kinds.End
is_the_end (kinds.Head h) e = absurd cc
is_the_end (kinds.Event b) e = absurd cc
is_the_end (kinds.Mark m) e = absurd cc
is_the_end kinds.End e = refl

-- a record taken, and what was put for it
record Took (form : Form) (v w : Recording) (rs : List Record) (r : Record) (put : List ℕ) : Type 0 where
  form_is : w.form ≡ v.form
  asked : w.writer.asked ≡ is_end r
  left : is_end r ≡ true → w.hand.count ≡ 0
  room : w.hand.count ≤ full_run
  more : List ℕ
  has_put : HasPut form w.hand (rs ++ r ∷ []) (put ++ more)
  failed : w.writer.failed ≡ v.writer.failed
  waiting : w.writer.waiting ≡ cond v.writer.failed v.writer.waiting (v.writer.waiting ++ more)

fits_by : (form : Form) (v w : Recording) (log : Log) (before now : SinkState) (r : Record) → v.writer.asked ≡ false → IsRecord r → (fits : RecorderFits form v log before now)
    → Took form v w (records log) r fits.put → RecorderFits form w (took r ∷ log) before now
fits_by form v w log before now r idle line fits t = let none_before = fits.going idle in record {
  form_is = t.form_is ∙ fits.form_is;
  each = All-append IsRecord (records log) (r ∷ []) fits.each (All-cons IsRecord r [] line (All-nil IsRecord));
  going = λ other. going_on (records log) r none_before (sym t.asked ∙ other);
  over = λ e. record { front = records log; last = ap (λ x. records log ++ x ∷ []) (is_the_end r (sym t.asked ∙ e)); once = none_before };
  left = λ e. t.left (sym t.asked ∙ e);
  room = t.room;
  put = fits.put ++ t.more;
  has_put = t.has_put;
  wrote = rw (t.failed, t.waiting) (more_waits before now v.writer.failed v.writer.waiting fits.put t.more fits.wrote);
}

-- ---- form 1

took_one : (v : Recording) (rs : List Record) (r : Record) (put : List ℕ) → v.hand.count ≤ full_run → HasPut One v.hand rs put → Took One v (with_line One v r) rs r put
took_one v rs r put room before = record {
  form_is = refl;
  asked = refl;
  left = λ e. before.0;
  room = room;
  more = record_text r;
  has_put = (before.0, one_more_text rs r ∙ ap (λ (t : List ℕ). t ++ record_text r) before.1);
  failed = refl;
  waiting = refl;
}

-- ---- form 2

-- what follows one more record
behind : (rs : List Record) (r : Record) (more : List Record) → text_in Two ((rs ++ r ∷ []) ++ more) ≡ text_in Two (rs ++ r ∷ more)
behind rs r more = ap (text_in Two) (append_assoc rs (r ∷ []) more)

nothing_more : (failed : Bool) (waiting : List ℕ) → waiting ≡ cond failed waiting (waiting ++ [])
nothing_more true waiting = refl
nothing_more false waiting = sym (append-nil waiting)

regrouped : (put text : List ℕ) (rs ss : List Record) (middle : List Record) → lines_text middle ≡ text ++ lines_text ss → lines_text ss ≡ lines_text rs → put ++ lines_text middle ≡ (put ++ text) ++ lines_text rs
regrouped put text rs ss middle passes same = ap (λ (t : List ℕ). put ++ t) (passes ∙ ap (λ (t : List ℕ). text ++ t) same) ∙ sym (append_assoc put text (lines_text rs))

-- another event comes into the hand beside those that are in it
beside : (v : Recording) (rs : List Record) (b : Bits) (put : List ℕ) → v.writer.asked ≡ false → HasPut Two v.hand rs put → v.hand.bits ≡ b → v.hand.count < full_run
    → Took Two v (record v { hand = record v.hand { count = v.hand.count + 1 } }) rs (kinds.Event b) put
beside v rs b put idle before same room =
    let n = v.hand.count in
    let e = v.hand.bits in record {
      form_is = refl;
      asked = idle;
      left = λ f. absurd cc;
      room = omega arith;
      more = [];
      has_put = λ more.
          behind rs (kinds.Event b) more ∙ before (kinds.Event b ∷ more)
          ∙ ap (λ (c : Bits). put ++ lines_text (replicate n (kinds.Event e) ++ kinds.Event c ∷ more)) (sym same)
          ∙ ap (λ (all : List Record). put ++ lines_text all) (turned n (kinds.Event e) more)
          ∙ ap (λ (t : List ℕ). t ++ lines_text (replicate (n + 1) (kinds.Event e) ++ more)) (sym (append-nil put));
      failed = refl;
      waiting = nothing_more v.writer.failed v.writer.waiting;
    }

-- another event takes the place of those in hand, which get their line
in_place : (v : Recording) (rs : List Record) (b : Bits) (put : List ℕ) → v.hand.count ≤ full_run → HasPut Two v.hand rs put
    → ((more : List Record) → lines_text (hand_records v.hand ++ kinds.Event b ∷ more) ≡ hand_text v.hand ++ lines_text (kinds.Event b ∷ more))
    → Took Two v (record v { hand = record { count = 1; bits = b }; writer = with_text v.writer (hand_text v.hand) }) rs (kinds.Event b) put
in_place v rs b put room before passes = record {
  form_is = refl;
  asked = refl;
  left = λ f. absurd cc;
  room = omega arith;
  more = hand_text v.hand;
  has_put = λ more. behind rs (kinds.Event b) more ∙ before (kinds.Event b ∷ more)
      ∙ regrouped put (hand_text v.hand) (kinds.Event b ∷ more) (kinds.Event b ∷ more) (hand_records v.hand ++ kinds.Event b ∷ more) (passes more) refl;
  failed = refl;
  waiting = refl;
}

goes_on_tells : (same less : Bool) → (same && less) ≡ true → (same ≡ true) × (less ≡ true)
goes_on_tells true true e = (refl, refl)
goes_on_tells true false e = absurd cc
goes_on_tells false less e = absurd cc

stops : (same less : Bool) → (same && less) ≡ false → (same ≡ false) ⊎ ((same ≡ true) × (less ≡ false))
stops true true e = absurd cc
stops true false e = inr (refl, refl)
stops false less e = inl refl

stops_at : (h : Hand) (b : Bits) (more : List Record) → h.count ≤ full_run → goes_on h b ≡ false → lines_text (hand_records h ++ kinds.Event b ∷ more) ≡ hand_text h ++ lines_text (kinds.Event b ∷ more)
stops_at h b more room stopped =
    elim (stops (same_bits h.bits b) (nat_lt h.count full_run) stopped) [
      | inl other ↦ passed h.count h.bits (kinds.Event b ∷ more) room (apart_from h.bits (kinds.Event b) more other)
      | inr full ↦
          let same : h.bits ≡ b = (same_tells h.bits b).0 full.0 in
          let most : full_run ≤ h.count = not_less h.count full.1 in
          let all : h.count ≡ full_run = omega arith in
          subst (λ (c : Bits). lines_text (hand_records h ++ kinds.Event c ∷ more) ≡ hand_text h ++ lines_text (kinds.Event c ∷ more)) same (passed_full h.count h.bits more all)
    ]
  where
    not_less : (n : ℕ) → nat_lt n full_run ≡ false → full_run ≤ n
    not_less n e = grind (arith, nat_tests)

took_event : (v : Recording) (rs : List Record) (b : Bits) (put : List ℕ) → v.writer.asked ≡ false → v.hand.count ≤ full_run → HasPut Two v.hand rs put → Took Two v (with_event v b) rs (kinds.Event b) put
took_event v rs b put idle room before = by_test (goes_on v.hand b) refl
  where
    by_test : (t : Bool) → goes_on v.hand b ≡ t
        → Took Two v (cond t (record v { hand = record v.hand { count = v.hand.count + 1 } }) (record v { hand = record { count = 1; bits = b }; writer = with_text v.writer (hand_text v.hand) })) rs (kinds.Event b) put
    by_test true e =
        let tests = goes_on_tells (same_bits v.hand.bits b) (nat_lt v.hand.count full_run) e in
        beside v rs b put idle before ((same_tells v.hand.bits b).0 tests.0) (ltb-true _ _ tests.1)
    by_test false e = in_place v rs b put room before (λ more. stops_at v.hand b more room e)

took_other : (v : Recording) (rs : List Record) (r : Record) (put : List ℕ) → v.hand.count ≤ full_run → HasPut Two v.hand rs put → is_event r ≡ false → Took Two v (with_line Two v r) rs r put
took_other v rs r put room before other = record {
  form_is = refl;
  asked = refl;
  left = λ e. refl;
  room = omega arith;
  more = hand_text v.hand ++ record_text r;
  has_put = λ more. behind rs r more ∙ before (r ∷ more)
      ∙ regrouped put (hand_text v.hand ++ record_text r) more more (hand_records v.hand ++ r ∷ more)
      (passed v.hand.count v.hand.bits (r ∷ more) room (apart_from v.hand.bits r more (no_event_of v.hand.bits r other))
      ∙ ap (λ (t : List ℕ). hand_text v.hand ++ t) (line_alone r more other) ∙ sym (append_assoc (hand_text v.hand) (record_text r) (lines_text more)))
      refl;
  failed = refl;
  waiting = refl;
}

took_two : (v : Recording) (rs : List Record) (r : Record) (put : List ℕ) → v.writer.asked ≡ false → v.hand.count ≤ full_run → HasPut Two v.hand rs put → Took Two v (in_form_two v r) rs r put
took_two v rs (kinds.Head h) put idle room before = took_other v rs (kinds.Head h) put room before refl
took_two v rs (kinds.Event b) put idle room before = took_event v rs b put idle room before
took_two v rs (kinds.Mark m) put idle room before = took_other v rs (kinds.Mark m) put room before refl
took_two v rs kinds.End put idle room before = took_other v rs kinds.End put room before refl

took_in : (form : Form) (v : Recording) (rs : List Record) (r : Record) (put : List ℕ) → v.writer.asked ≡ false → v.hand.count ≤ full_run → HasPut form v.hand rs put → Took form v (in_form form v r) rs r put
took_in One v rs r put idle room before = took_one v rs r put room before
took_in Two v rs r put idle room before = took_two v rs r put idle room before

pub fits_taken : (v : Recording) (log : Log) (now : SinkState) (r : Record) → Takes v → IsRecord r → RecorderFitsOn v (with_record v r) log (took r ∷ log) now now
fits_taken v log now r takes line = record {
  on = λ form before fits. fits_by form v (with_record v r) log before now r takes.1 line fits
      (subst (λ (f : Form). Took form v (in_form f v r) (records log) r fits.put) (sym fits.form_is) (took_in form v (records log) r fits.put takes.1 fits.room fits.has_put));
}

-- a recorder that has taken nothing
pub fits_fresh : (form : Form) (sink : SinkState) → RecorderFits form (fresh_in form) [] sink sink
fits_fresh One sink = record {
  form_is = refl;
  each = All-nil IsRecord;
  going = λ e. All-nil (λ (r : Record). r ≢ kinds.End);
  over = λ e. absurd cc;
  left = λ e. refl;
  room = omega arith;
  put = [];
  has_put = (refl, refl);
  wrote = wrote_nothing sink;
}
fits_fresh Two sink = record {
  form_is = refl;
  each = All-nil IsRecord;
  going = λ e. All-nil (λ (r : Record). r ≢ kinds.End);
  over = λ e. absurd cc;
  left = λ e. refl;
  room = omega arith;
  put = codes "V 2\n";
  has_put = λ more. refl;
  wrote = more_waits sink sink false [] [] (codes "V 2\n") (wrote_nothing sink);
}

-- ---- what a turn answers

pub did_on : Did ≡ Done → ⊥
did_on e = cc

pub waits_on : Wait polls.Records ≡ Done → ⊥
waits_on e = cc

pub not_both : (b : Bool) → b ≡ false → b ≡ true → ⊥
not_both b e f = cc

-- a recorder that writes does not rest
due_is_on : (failed asked due : Bool) (n : ℕ) → (not failed && (nat_lt 0 n && due)) ≡ true → (asked && (failed || nat_eq n 0)) ≡ true → ⊥
due_is_on true asked due n e f = cc
due_is_on false false due n e f = cc
due_is_on false true due n e f = grind (arith, nat_tests)

pub due_not_rests : (v : Recording) → Writes v.writer → Rests v → ⊥
due_not_rests v due rests = due_is_on v.writer.failed v.writer.asked (v.writer.begun || v.writer.asked || nat_lt 4096 (length v.writer.waiting + 192)) (length v.writer.waiting) due rests

-- nor one that takes
pub takes_not_rests : (v : Recording) → Takes v → Rests v → ⊥
takes_not_rests v takes rests = not_both v.writer.asked takes.1 (first v.writer.asked (v.writer.failed || nat_eq (length v.writer.waiting) 0) rests)
  where
    first : (a b : Bool) → (a && b) ≡ true → a ≡ true
    first true b e = refl
    first false b e = e

-- one that has nothing due and was asked for all does
asked_rests : (failed begun asked full : Bool) (n : ℕ) → (not failed && (nat_lt 0 n && (begun || asked || full))) ≡ false → asked ≡ true → (asked && (failed || nat_eq n 0)) ≡ true
asked_rests failed begun false full n e f = absurd cc
asked_rests true begun true full n e f = refl
asked_rests false true true full n e f = grind (arith, nat_tests)
asked_rests false false true full n e f = grind (arith, nat_tests)

pub rests_now : (v : Recording) → is_due v.writer ≡ false → v.writer.asked ≡ true → Rests v
rests_now v idle asked = asked_rests v.writer.failed v.writer.begun v.writer.asked (nat_lt 4096 (length v.writer.waiting + 192)) (length v.writer.waiting) idle asked

pub fits_none : (v : Recording) (log : Log) (now : SinkState) → RecorderFitsOn v v log (none ∷ log) now now
fits_none v log now = record {
  on = λ form before fits. record {
    form_is = fits.form_is;
    each = fits.each;
    going = fits.going;
    over = fits.over;
    left = fits.left;
    room = fits.room;
    put = fits.put;
    has_put = fits.has_put;
    wrote = fits.wrote;
  };
}

pub fits_same : (v : Recording) (log : Log) (now : SinkState) → RecorderFitsOn v v log log now now
fits_same v log now = record { on = λ form before fits. fits }

-- ---- what it says of the sink

nothing : lines_text [] ≡ []
unfolding lines_of runs
nothing = refl

-- the text, as what was put and what has no line yet
all_text : (form : Form) (hand : Hand) (rs : List Record) (put : List ℕ) → hand.count ≤ full_run → HasPut form hand rs put → text_in form rs ≡ put ++ hand_text hand
all_text One hand rs put room has = has.1 ∙ sym (append-nil put) ∙ ap (λ (n : ℕ). put ++ events_text n hand.bits) (sym has.0)
all_text Two hand rs put room has =
    let none = append-nil rs in
    let only = append-nil (hand_records hand) in
    ap (text_in Two) (sym none) ∙ has []
    ∙ ap (λ (t : List ℕ). put ++ t) (passed hand.count hand.bits [] room (apart_at_end hand.bits) ∙ ap (λ (t : List ℕ). hand_text hand ++ t) nothing ∙ append-nil (hand_text hand))

-- the sink was given a front of the text of the records, and the rest waits
pub has_wrote : (form : Form) (v : Recording) (log : Log) (before now : SinkState) → RecorderFits form v log before now → Wrote before now v.writer.failed (waits v) (text_in form (records log))
has_wrote form v log before now fits =
    rw (all_text form v.hand (records log) fits.put fits.room fits.has_put) (more_waits before now v.writer.failed v.writer.waiting fits.put (hand_text v.hand) fits.wrote)

none_waits : (v : Recording) → Rests v → v.writer.failed ≡ false → v.hand.count ≡ 0 → waits v ≡ []
none_waits v rests well empty =
    let none = (done_waits v.writer rests well).1 in
    rw (well, empty, none) refl

-- and all of it once the recorder is done
pub has_took : (form : Form) (v : Recording) (log : Log) (before now : SinkState) → RecorderFits form v log before now → Rests v → Wrote before now v.writer.failed [] (text_in form (records log))
has_took form v log before now fits rests =
    let wrote = has_wrote form v log before now fits in record {
      front = wrote.front;
      back = wrote.back;
      whole = wrote.whole;
      held = wrote.held;
      all = λ well. wrote.all well ∙ none_waits v rests well (fits.left (done_waits v.writer rests well).0);
      same = wrote.same;
      later = wrote.later;
      cause = wrote.cause;
    }

pub has_front : (form : Form) (v : Recording) (log : Log) (before now : SinkState) → RecorderFits form v log before now → v.writer.failed ≡ false → HasFront form log (waits v) before now
has_front form v log before now fits well = let wrote = has_wrote form v log before now fits in record {
  front = wrote.front;
  whole = wrote.whole ∙ ap (λ x. wrote.front ++ x) (wrote.all well);
  held = wrote.held;
  same = wrote.same well;
}

-- the last line of a text is that of the end
last_line : (form : Form) (rs : List Record) → (front : List ℕ) × (text_in form (rs ++ kinds.End ∷ []) ≡ front ++ codes "E\n")
last_line One rs = (flat_map record_text rs, one_more_text rs kinds.End)
last_line Two rs = let last = last_text rs in (codes "V 2\n" ++ last.0, ap (λ (t : List ℕ). codes "V 2\n" ++ t) last.1)

pub has_all : (form : Form) (v : Recording) (log : Log) (before now : SinkState) → RecorderFits form v log before now → Rests v → v.writer.failed ≡ false → HasAll form log before now
has_all form v log before now fits rests well =
    let wrote = has_took form v log before now fits rests in
    let all : text_in form (records log) ≡ wrote.front = wrote.whole ∙ ap (λ x. wrote.front ++ x) (wrote.all well) ∙ append-nil wrote.front in
    let ended = fits.over (done_waits v.writer rests well).0 in
    let last = last_line form ended.front in
    record {
      ended = ended;
      last = (last.0, ap (text_in form) ended.last ∙ last.1);
      held = rw all wrote.held;
      same = wrote.same well;
    }

pub has_failed : (form : Form) (v : Recording) (log : Log) (before now : SinkState) → RecorderFits form v log before now → v.writer.failed ≡ true → HasFailed form log before now
has_failed form v log before now fits failure = let wrote = has_wrote form v log before now fits in record {
  front = wrote.front;
  back = wrote.back;
  whole = wrote.whole;
  held = wrote.held;
  rose = wrote.cause failure;
}
