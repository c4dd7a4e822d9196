-- The holds of a text that is read byte by byte.
use Rattle.std.proofs.Common.{◌≡◌, ◌≢◌, ◌≤◌, ◌⊎◌, inl, inr, ◌+◌, ◌-◌, ℕ, Bool, true, false, List, [], ◌∷◌, ◌++◌, length, take, nat_eq, append-nil, append_assoc, length-append, Some, refl, sym, ap, ◌∙◌, subst, arith}
use Rattle.std.specs.Io.KnownBytes.{Consumes, Keeps}
use Rattle.std.specs.List.{AllByRecursion, count_by, sum_by}
use Rattle.std.proofs.lemmas.Bool.Decides.{nat_tests}
use Rattle.std.proofs.lemmas.List.{take_all}
use Rattle.std.proofs.lemmas.List.Concat.{flat_map-append}
use Rattle.std.proofs.lemmas.List.Sums.{sum_by-cons, sum_by_push}
use Rattle.std.proofs.Math.Seq.{take-append_seam}
use Rattle.outside.specs.Causes.{SourceState}
use Rattle.gcode_words.specs.Comments.{cut_within, comment_after}
use Rattle.gcode_words.specs.Stripping.{Feeds, realtime, taken_by}
use Rattle.gcode_words.specs.declared.stripping.Comment.{Comment}
use Rattle.gcode_words.specs.declared.stripping.Stripped.{Stripped}
use Rattle.run_rules.specs.Lines.{HasNoLf, ended, lines_of}
use Rattle.run_rules.specs.Readings.{largest_job}
use Rattle.audit_rules.specs.Scanned.{holds_by, is_hold}
use Rattle.audit_readers.specs.Jobs.{JobRead, HaveCome, CountsHolds, TakesByte, IsOver, IsTooLarge, GoesOnBy, lines_behind}
use Rattle.audit_readers.specs.Windows.{ahead, KnowsEnd}
use Rattle.audit_readers.specs.declared.holds.Holds.{Holds}
use Rattle.audit_readers.specs.declared.jobs.Next.{Next}
use Rattle.audit_readers.specs.declared.jobs.Next.TheVariants.{End, TooLarge}
use Rattle.audit_readers.proofs.Bytes.{count_push}
use Rattle.audit_readers.proofs.Filling.{keeps_same}
use Rattle.audit_readers.proofs.Reading.{all_push, no_lf, known_split}
use Rattle.audit_readers.proofs.Scanning.{line_first, one_line}
use Rattle.audit_readers.proofs.Skipping.{none_consumed, consumed_on}

-- ---- of bytes that have come

no_holds : holds_by [] ≡ 0
unfolding cut_within
no_holds = refl

outside : comment_after [] ≡ Comment.Outside
unfolding cut_within
outside = refl

pub none_come : (h : Holds) → h.stripper ≡ comment_after [] → h.count ≡ 0 → HaveCome [] h
none_come h comment count = record {
  lines = [];
  line = [];
  cut = record { whole = refl; each = tt; partial = tt };
  comment = comment;
  count = (let none = no_holds in omega (arith, count, none));
}

each_push : (lines : List (List ℕ)) (line : List ℕ) → AllByRecursion HasNoLf lines → HasNoLf line → AllByRecursion HasNoLf (lines ++ line ∷ [])
each_push [] line each one = (one, tt)
each_push (l ∷ ls) line each one = (each.0, each_push ls line each.1 one)

-- a line ends
lf_comes : (old now : Holds) (answer : Stripped) → Feeds old.stripper 10 answer now.stripper → now.count ≡ old.count → (bytes : List ℕ) → HaveCome bytes old → HaveCome (bytes ++ 10 ∷ []) now
lf_comes old now answer f count bytes h = record {
  lines = h.lines ++ h.line ∷ [];
  line = [];
  cut = record { whole = whole; each = each_push h.lines h.line h.cut.each h.cut.partial; partial = tt };
  comment = f.next_line refl ∙ sym outside;
  count = (let was = h.count in let sum = sum_by_push holds_by h.lines h.line in let none = no_holds in omega (arith, count, was, sum, none));
} where
  whole : bytes ++ 10 ∷ [] ≡ ended (h.lines ++ h.line ∷ []) ++ []
  whole =
      ap (λ (bs : List ℕ). bs ++ 10 ∷ []) h.cut.whole ∙ append_assoc (ended h.lines) h.line (10 ∷ [])
      ∙ ap (λ (bs : List ℕ). ended h.lines ++ bs) (sym (append-nil (h.line ++ 10 ∷ [])))
      ∙ sym (flat_map-append (λ (l : List ℕ). l ++ 10 ∷ []) h.lines (h.line ∷ []))
      ∙ sym (append-nil (ended (h.lines ++ h.line ∷ [])))

-- a byte of a line comes
byte_comes : (old now : Holds) (byte : ℕ) (answer : Stripped) → byte ≢ 10 → Feeds old.stripper byte answer now.stripper → now.count ≡ old.count + count_by is_hold (taken_by answer)
    → (bytes : List ℕ) → HaveCome bytes old → HaveCome (bytes ++ byte ∷ []) now
byte_comes old now byte answer other f count bytes h =
    let more : holds_by (h.line ++ byte ∷ []) ≡ holds_by h.line + count_by is_hold (taken_by answer) =
    ap (count_by is_hold) (f.taken h.line other h.comment) ∙ count_push is_hold (realtime h.line) (taken_by answer) in
    let was = h.count in
    record {
      lines = h.lines;
      line = h.line ++ byte ∷ [];
      cut = record {
        whole = ap (λ (bs : List ℕ). bs ++ byte ∷ []) h.cut.whole ∙ append_assoc (ended h.lines) h.line (byte ∷ []);
        each = h.cut.each;
        partial = all_push h.line byte h.cut.partial (no_lf byte other);
      };
      comment = f.comment h.line other h.comment;
      count = omega (arith, count, was, more);
    }

none_taken : (answer : Stripped) → answer ≡ Stripped.LineEnd → count_by is_hold (taken_by answer) ≡ 0
none_taken answer is = ap (λ (a : Stripped). count_by is_hold (taken_by a)) is

pub one_comes : (old now : Holds) (byte : ℕ) (answer : Stripped) → Feeds old.stripper byte answer now.stripper → now.count ≡ old.count + count_by is_hold (taken_by answer)
    → (bytes : List ℕ) → HaveCome bytes old → HaveCome (bytes ++ byte ∷ []) now
one_comes old now byte answer f count = by_lf (nat_eq byte 10) refl where
  by_lf : (b : Bool) → nat_eq byte 10 ≡ b → (bytes : List ℕ) → HaveCome bytes old → HaveCome (bytes ++ byte ∷ []) now
  by_lf true e bytes h =
      let is : byte ≡ 10 = grind (arith, nat_tests, e) in
      let none = none_taken answer (f.line_end.1 is) in
      subst (λ (b : ℕ). HaveCome (bytes ++ b ∷ []) now) (sym is) (lf_comes old now answer (subst (λ (b : ℕ). Feeds old.stripper b answer now.stripper) is f) (omega (arith, count, none)) bytes h)
  by_lf false e bytes h = byte_comes old now byte answer (grind (arith, nat_tests, e)) f count bytes h

-- ---- of a text

last_holds : (line : List ℕ) → HasNoLf line → sum_by holds_by (lines_of line) ≡ holds_by line
last_holds [] inside = sym no_holds
last_holds (c ∷ cs) inside = ap (λ (ls : List (List ℕ)). sum_by holds_by ls) (one_line c cs inside) ∙ omega arith

-- the holds of lines, and of the line behind them
holds_cut : (lines : List (List ℕ)) (line : List ℕ) → AllByRecursion HasNoLf lines → HasNoLf line → sum_by holds_by (lines_of (ended lines ++ line)) ≡ sum_by holds_by lines + holds_by line
holds_cut [] line each inside = last_holds line inside ∙ omega arith
holds_cut (l ∷ ls) line each inside =
    let first : lines_of (ended (l ∷ ls) ++ line) ≡ l ∷ lines_of (ended ls ++ line) =
    ap (λ (bs : List ℕ). lines_of bs) (append_assoc (l ++ 10 ∷ []) (ended ls) line ∙ append_assoc l (10 ∷ []) (ended ls ++ line)) ∙ line_first l (ended ls ++ line) each.0 in
    let rest = holds_cut ls line each.1 inside in
    let all = sum_by-cons holds_by l (lines_of (ended ls ++ line)) in
    let here = sum_by-cons holds_by l ls in
    ap (λ (ms : List (List ℕ)). sum_by holds_by ms) first ∙ omega (arith, rest, all, here)

holds_are : (bytes : List ℕ) (h : Holds) → HaveCome bytes h → h.count ≡ sum_by holds_by (lines_of bytes)
holds_are bytes h c =
    c.count ∙ sym (holds_cut c.lines c.line c.cut.each c.cut.partial) ∙ ap (λ (bs : List ℕ). sum_by holds_by (lines_of bs)) (sym c.cut.whole)

-- ---- of what follows in a job

pub record HasCounted (old now : JobRead) (before after : SourceState) (h : Holds) : Type 0 where
  pub bytes : List ℕ
  pub come : HaveCome bytes h
  pub text : Consumes (ahead old.window before) (ahead now.window after) bytes
  pub place : now.place ≡ old.place + length bytes
  pub count : h.count ≤ length bytes
  pub line : now.line ≡ old.line
  pub known : KnowsEnd now.window after
  pub room : now.place ≤ largest_job
  pub same : after.faults ≡ before.faults

pub none_counted : (r : JobRead) (s : SourceState) (h : Holds) → HaveCome [] h → h.count ≡ 0 → KnowsEnd r.window s → r.place ≤ largest_job → HasCounted r r s s h
none_counted r s h come none known room = record {
  bytes = [];
  come = come;
  text = none_consumed (ahead r.window s) (ahead r.window s) (keeps_same (ahead r.window s));
  place = omega arith;
  count = omega (arith, none);
  line = refl;
  known = known;
  room = room;
  same = refl;
}

pub one_counted : (a b c : JobRead) (s t u : SourceState) (byte : ℕ) (h k : Holds) → HasCounted a b s t h → TakesByte b c t u byte → ((bytes : List ℕ) → HaveCome bytes h → HaveCome (bytes ++ byte ∷ []) k) → k.count ≤ h.count + 1 → HasCounted a c s u k
one_counted a b c s t u byte h k r one come few =
    let long : length (r.bytes ++ byte ∷ []) ≡ length r.bytes + 1 = length-append r.bytes (byte ∷ []) in
    let place = r.place in
    let step = one.place in
    let space = one.room in
    let most = r.count in
    record {
      bytes = r.bytes ++ byte ∷ [];
      come = come r.bytes r.come;
      text = consumed_on (ahead a.window s) (ahead b.window t) (ahead c.window u) r.bytes (byte ∷ []) r.text one.text;
      place = omega (arith, long, place, step);
      count = omega (arith, long, most, few);
      line = one.line ∙ r.line;
      known = one.known;
      room = omega (arith, step, space);
      same = one.same ∙ r.same;
    }

-- what was read and what follows
whole_text : (a b c : JobRead) (s t u : SourceState) (h : Holds) (r : HasCounted a b s t h) → Keeps (ahead b.window t) (ahead c.window u) → (text : List ℕ) → ahead a.window s ≡ Some text → (more : List ℕ) × (ahead c.window u ≡ Some more) × (text ≡ r.bytes ++ more)
whole_text a b c s t u h r kept text e =
    known_split (ahead a.window s) (ahead c.window u) r.bytes
    (subst (λ (bs : List ℕ). Consumes (ahead a.window s) (ahead c.window u) bs) (append-nil r.bytes)
    (consumed_on (ahead a.window s) (ahead b.window t) (ahead c.window u) r.bytes [] r.text (none_consumed (ahead b.window t) (ahead c.window u) kept))) text e

counted_by : (bytes text : List ℕ) (place : ℕ) (h : Holds) → HaveCome bytes h → take (largest_job - place) text ≡ bytes → h.count ≡ sum_by holds_by (lines_behind place text)
counted_by bytes text place h come is = holds_are bytes h come ∙ ap (λ (bs : List ℕ). sum_by holds_by (lines_of bs)) (sym is)

end_counted : (a b c : JobRead) (s t u : SourceState) (h : Holds) → HasCounted a b s t h → IsOver b c t u → CountsHolds a c s u h.count
end_counted a b c s t u h r over =
    let place = r.place in
    let room = r.room in
    let same = over.waits.place in
    record {
      counted = λ text e.
          let m = whole_text a b c s t u h r over.waits.kept text e in
          let none : m.0 ≡ [] = over.none m.0 m.1 in
          let text_is : text ≡ r.bytes = m.2 ∙ ap (λ (bs : List ℕ). r.bytes ++ bs) none ∙ append-nil r.bytes in
          counted_by r.bytes text a.place h r.come (ap (take (largest_job - a.place)) text_is ∙ take_all (largest_job - a.place) r.bytes (omega (arith, place, room)));
      line = over.waits.line ∙ r.line;
      known = over.waits.known;
      room = omega (arith, room, same);
      same = over.same ∙ r.same;
    }

large_counted : (a b c : JobRead) (s t u : SourceState) (h : Holds) → HasCounted a b s t h → IsTooLarge b c t u → CountsHolds a c s u h.count
large_counted a b c s t u h r large =
    let place = r.place in
    let same = large.waits.place in
    let full = large.full in
    let rooms : largest_job - a.place ≡ length r.bytes = omega (arith, place, same, full) in
    record {
      counted = λ text e.
          let m = whole_text a b c s t u h r large.waits.kept text e in
          counted_by r.bytes text a.place h r.come (ap (λ (n : ℕ). take n text) rooms ∙ ap (take (length r.bytes)) m.2 ∙ take-append_seam r.bytes m.0);
      line = large.waits.line ∙ r.line;
      known = large.waits.known;
      room = omega (arith, full);
      same = large.same ∙ r.same;
    }

-- nothing follows that may be read
pub rest_counted : (a b c : JobRead) (s t u : SourceState) (h : Holds) (next : Next) → HasCounted a b s t h → (next ≡ End) ⊎ (next ≡ TooLarge) → GoesOnBy b c t u next → CountsHolds a c s u h.count
rest_counted a b c s t u h next r (inl is) goes = end_counted a b c s t u h r (subst (GoesOnBy b c t u) is goes)
rest_counted a b c s t u h next r (inr is) goes = large_counted a b c s t u h r (subst (GoesOnBy b c t u) is goes)
