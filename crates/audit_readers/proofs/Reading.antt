-- A job that is read line by line.
use Rattle.std.proofs.Common.{◌≡◌, ◌≢◌, ◌<◌, ◌≤◌, ◌+◌, ◌-◌, ℕ, Bool, true, false, List, [], ◌∷◌, ◌++◌, length, take, nat_eq, nat_lt, ◌⊎◌, inl, inr, append-nil, length-append, Some, None, refl, sym, ap, ◌∙◌, subst, arith}
use Rattle.std.specs.declared.option.Option.{Option}
use Rattle.std.specs.Io.KnownBytes.{Consumes, Keeps, IsAtEnd, prepend_known}
use Rattle.std.proofs.lemmas.Bool.Decides.{nat_tests}
use Rattle.std.proofs.lemmas.List.{take_all, nil_from_length}
use Rattle.outside.specs.Causes.{SourceState}
use Rattle.run_rules.specs.Lines.{HasNoLf, lines_of}
use Rattle.run_rules.specs.Readings.{largest_job}
use Rattle.audit_rules.specs.Scanned.{onto_lines, most_sent}
use Rattle.audit_readers.specs.JobLines.{SeenLine, HasCome}
use Rattle.audit_readers.specs.Windows.{Window, ahead, KnowsEnd, FillsUp, FillsSome}
use Rattle.audit_readers.specs.Jobs.{JobRead, TakesByte, IsOver, IsTooLarge, Splits, ReadsSentLine, ReadsLast, ReadsLine}
use Rattle.audit_readers.proofs.Filling.{keeps_same}
use Rattle.audit_readers.proofs.Skipping.{none_consumed, consumed_on, taken_ahead}
use Rattle.audit_readers.proofs.Scanning.{IsShort, nothing_short, more_short, with_lf, scan_to, scanned_with, raw_with, scanned_last, raw_last, scanned_none, scanned_large, scanned_long}

-- ---- something waits

pub nothing_to_fill : (w : Window) (s : SourceState) → KnowsEnd w s → (w.waiting ≡ [] → ⊥) → FillsSome w w s s
nothing_to_fill w s known some = record { stays = record { kept = keeps_same (ahead w s); known = known }; some = λ e. absurd (some e); same = refl }

pub some_filled : (a b : Window) (s t : SourceState) → FillsUp a b s t → FillsSome a b s t
some_filled a b s t f = record { stays = f.stays; some = λ e. by f.enough e; same = f.same } where
  by : (192 ≤ length b.waiting) ⊎ (b.ended ≡ true) → b.waiting ≡ [] → b.ended ≡ true
  by (inl many) e = absurd (let none = ap length e in omega (arith, many, none))
  by (inr over) e = over

-- ---- the next byte

known_empty : (o : Option (List ℕ)) → IsAtEnd o → (text : List ℕ) → prepend_known [] o ≡ Some text → text ≡ []
known_empty None none text e = cc
known_empty (Some xs) none text e = let f : xs ≡ text = cc in sym f ∙ none

pub over_here : (a b : JobRead) (s t : SourceState) → FillsSome a.window b.window s t → b.place ≡ a.place → b.line ≡ a.line → b.window.waiting ≡ [] → IsOver a b s t
over_here a b s t f place line none = record {
  waits = record { kept = f.stays.kept; known = f.stays.known; place = place; line = line };
  none = λ text e. known_empty t.left (f.stays.known (f.some none)) text (ap (λ (w : List ℕ). prepend_known w t.left) (sym none) ∙ e);
  same = f.same;
}

known_some : (o : Option (List ℕ)) (byte : ℕ) (more text : List ℕ) → prepend_known (byte ∷ more) o ≡ Some text → (b : ℕ) × (rest : List ℕ) × (text ≡ b ∷ rest)
known_some None byte more text e = cc
known_some (Some xs) byte more text e = (byte, more ++ xs, (let f : byte ∷ (more ++ xs) ≡ text = cc in sym f))

pub too_large_here : (a b : JobRead) (s t : SourceState) (byte : ℕ) (more : List ℕ) → FillsSome a.window b.window s t → b.place ≡ a.place → b.line ≡ a.line → b.window.waiting ≡ byte ∷ more → b.place ≡ largest_job → IsTooLarge a b s t
too_large_here a b s t byte more f place line some full = record {
  waits = record { kept = f.stays.kept; known = f.stays.known; place = place; line = line };
  full = full;
  some = λ text e. known_some t.left byte more text (ap (λ (w : List ℕ). prepend_known w t.left) (sym some) ∙ e);
  same = f.same;
}

pub byte_taken : (a c : JobRead) (w : Window) (s t : SourceState) (byte : ℕ) (more : List ℕ) → FillsSome a.window w s t → w.waiting ≡ byte ∷ more → c.window.waiting ≡ more → c.window.ended ≡ w.ended
    → c.place ≡ a.place + 1 → a.place < largest_job → c.line ≡ a.line → TakesByte a c s t byte
byte_taken a c w s t byte more f some rest ended place room line = record {
  text = consumed_on (ahead a.window s) (ahead w t) (ahead c.window t) [] (byte ∷ []) (none_consumed (ahead a.window s) (ahead w t) f.stays.kept)
      (taken_ahead (byte ∷ []) w.waiting c.window.waiting t.left (some ∙ ap (λ (m : List ℕ). byte ∷ m) (sym rest)));
  known = λ e. f.stays.known (sym ended ∙ e);
  place = place;
  room = room;
  line = line;
  same = f.same;
}

-- ---- a line so far

pub record HasReadLine (old now : JobRead) (before after : SourceState) : Type 0 where
  pub front : List ℕ
  pub come : HasCome front now.line
  pub inside : HasNoLf front
  pub short : IsShort front
  pub text : Consumes (ahead old.window before) (ahead now.window after) front
  pub place : now.place ≡ old.place + length front
  pub kept : length now.line.kept < 128
  pub resets : now.line.resets ≤ length front
  pub cuts : now.line.cuts ≤ length front
  pub known : KnowsEnd now.window after
  pub room : now.place ≤ largest_job
  pub same : after.faults ≡ before.faults

pub nothing_read : (old now : JobRead) (s : SourceState) → now.window ≡ old.window → now.place ≡ old.place → HasCome [] now.line → now.line.kept ≡ [] → now.line.resets ≡ 0 → now.line.cuts ≡ 0
    → KnowsEnd old.window s → old.place ≤ largest_job → HasReadLine old now s s
nothing_read old now s window place come kept resets cuts known room = record {
  front = [];
  come = come;
  inside = tt;
  short = nothing_short;
  text = none_consumed (ahead old.window s) (ahead now.window s) (subst (λ (w : Window). Keeps (ahead old.window s) (ahead w s)) (sym window) (keeps_same (ahead old.window s)));
  place = omega (arith, place);
  kept = (let e = ap length kept in omega (arith, e));
  resets = omega (arith, resets);
  cuts = omega (arith, cuts);
  known = subst (λ (w : Window). KnowsEnd w s) (sym window) known;
  room = omega (arith, place, room);
  same = refl;
}

pub all_push : (xs : List ℕ) (x : ℕ) → HasNoLf xs → nat_eq x 10 ≡ false → HasNoLf (xs ++ x ∷ [])
all_push [] x h p = (p, tt)
all_push (y ∷ ys) x h p = (h.0, all_push ys x h.1 p)

pub no_lf : (byte : ℕ) → byte ≢ 10 → nat_eq byte 10 ≡ false
no_lf byte other = grind (arith, nat_tests)

-- the bytes so far and this one
text_more : (a b c : JobRead) (s t u : SourceState) (byte : ℕ) (h : HasReadLine a b s t) → TakesByte b c t u byte → Consumes (ahead a.window s) (ahead c.window u) (h.front ++ byte ∷ [])
text_more a b c s t u byte h one = consumed_on (ahead a.window s) (ahead b.window t) (ahead c.window u) h.front (byte ∷ []) h.text one.text

pub byte_read : (a b c d : JobRead) (s t u : SourceState) (byte : ℕ) → HasReadLine a b s t → TakesByte b c t u byte → byte ≢ 10
    → d.window ≡ c.window → d.place ≡ c.place → ((line : List ℕ) → HasCome line c.line → HasCome (line ++ byte ∷ []) d.line)
    → d.line.resets ≤ c.line.resets + 1 → d.line.cuts ≤ c.line.cuts + 1 → nat_lt 127 (length d.line.kept) ≡ false
    → HasReadLine a d s u
byte_read a b c d s t u byte h one other window place come resets cuts few =
    let long : length (h.front ++ byte ∷ []) ≡ length h.front + 1 = length-append h.front (byte ∷ []) in
    let here : HasCome (h.front ++ byte ∷ []) d.line = come h.front (subst (λ (v : SeenLine). HasCome h.front v) (sym one.line) h.come) in
    let before = h.place in
    let step = one.place in
    let space = one.room in
    let r = ap (λ (v : SeenLine). v.resets) one.line in
    let q = ap (λ (v : SeenLine). v.cuts) one.line in
    let hr = h.resets in
    let hq = h.cuts in
    record {
      front = h.front ++ byte ∷ [];
      come = here;
      inside = all_push h.front byte h.inside (no_lf byte other);
      short = more_short h.front byte h.short (ap (λ (k : List ℕ). nat_lt most_sent (length k)) (sym here.kept) ∙ few);
      text = subst (λ (w : Window). Consumes (ahead a.window s) (ahead w u) (h.front ++ byte ∷ [])) (sym window) (text_more a b c s t u byte h one);
      place = omega (arith, long, before, step, place);
      kept = grind (arith, nat_tests, few);
      resets = omega (arith, long, resets, r, hr);
      cuts = omega (arith, long, cuts, q, hq);
      known = subst (λ (w : Window). KnowsEnd w u) (sym window) one.known;
      room = omega (arith, step, space, place);
      same = one.same ∙ h.same;
    }

-- ---- its end

pub known_split : (o p : Option (List ℕ)) (bytes : List ℕ) → Consumes o p bytes → (text : List ℕ) → o ≡ Some text → (more : List ℕ) × (p ≡ Some more) × (text ≡ bytes ++ more)
known_split None p bytes c text e = cc
known_split (Some xs) None bytes c text e = absurd c
known_split (Some xs) (Some ys) bytes c text e = (ys, refl, (let f : xs ≡ text = cc in sym f ∙ c))

-- by LF
pub lf_read : (a b c : JobRead) (s t u : SourceState) → HasReadLine a b s t → TakesByte b c t u 10 → ReadsSentLine a c s u
lf_read a b c s t u h one =
    let long : length (with_lf h.front) ≡ length h.front + 1 = length-append h.front (10 ∷ []) in
    let before = h.place in
    let step = one.place in
    let space = one.room in
    let rooms : largest_job - a.place ≡ length (with_lf h.front) + (largest_job - c.place) = omega (arith, long, before, step, space) in
    record {
      line = h.front;
      come = subst (λ (v : SeenLine). HasCome h.front v) (sym one.line) h.come;
      next = λ text e.
          let m = known_split (ahead a.window s) (ahead c.window u) (with_lf h.front) (text_more a b c s t u 10 h one) text e in
          record {
            more = m.0;
            left = m.1;
            scanned = ap (scan_to (largest_job - a.place)) m.2 ∙ ap (λ (n : ℕ). scan_to n (with_lf h.front ++ m.0)) rooms ∙ scanned_with h.front m.0 (largest_job - c.place) h.inside h.short;
            lines = ap (λ (n : ℕ). lines_of (take n text)) rooms ∙ ap (λ (x : List ℕ). lines_of (take (length (with_lf h.front) + (largest_job - c.place)) x)) m.2
                ∙ raw_with h.front m.0 (largest_job - c.place) h.inside;
          };
      known = one.known;
      room = omega (arith, step, space);
      same = one.same ∙ h.same;
    }

no_lines : (room : ℕ) → lines_of (take room []) ≡ []
no_lines room = ap lines_of (take_all room [] (omega arith))

empty_text : (o p q : Option (List ℕ)) (front : List ℕ) → Consumes o p front → Keeps p q → front ≡ [] → ((text : List ℕ) → q ≡ Some text → text ≡ []) → (text : List ℕ) → o ≡ Some text → text ≡ []
empty_text o p q front c k none over text e =
    let m = known_split o p front c text e in
    let later = over m.0 (kept_known p q k m.0 m.1) in
    m.2 ∙ ap (λ (l : List ℕ). l ++ m.0) none ∙ later where
      kept_known : (p q : Option (List ℕ)) → Keeps p q → (xs : List ℕ) → p ≡ Some xs → q ≡ Some xs
      kept_known None q k xs e = cc
      kept_known (Some ys) None k xs e = absurd k
      kept_known (Some ys) (Some zs) k xs e = let f : ys ≡ xs = cc in ap Some (k ∙ f)

-- by the job's end
pub end_read : (a b c : JobRead) (s t u : SourceState) → HasReadLine a b s t → IsOver b c t u → a.place < c.place → ReadsSentLine a c s u
end_read a b c s t u h over some = by_front h.front refl where
  before : b.place ≡ a.place + length h.front
  before = h.place

  place : c.place ≡ a.place + length h.front
  place = over.waits.place ∙ h.place

  room : b.place ≤ largest_job
  room = h.room

  whole : Consumes (ahead a.window s) (ahead c.window u) h.front
  whole = subst (λ (bs : List ℕ). Consumes (ahead a.window s) (ahead c.window u) bs) (append-nil h.front)
      (consumed_on (ahead a.window s) (ahead b.window t) (ahead c.window u) h.front [] h.text (none_consumed (ahead b.window t) (ahead c.window u) over.waits.kept))

  few : length h.front ≤ largest_job - a.place
  few = omega (arith, before, room)

  split : (x : ℕ) (xs text : List ℕ) → h.front ≡ x ∷ xs → ahead a.window s ≡ Some text → Splits a c u h.front text
  split x xs text e is =
      let m = known_split (ahead a.window s) (ahead c.window u) h.front whole text is in
      let none : m.0 ≡ [] = over.none m.0 m.1 in
      let text_is : text ≡ x ∷ xs = m.2 ∙ ap (λ (l : List ℕ). h.front ++ l) none ∙ append-nil h.front ∙ e in
      let inside : HasNoLf (x ∷ xs) = subst HasNoLf e h.inside in
      let short : IsShort (x ∷ xs) = subst IsShort e h.short in
      let less : length (x ∷ xs) ≤ largest_job - a.place = subst (λ (l : List ℕ). length l ≤ largest_job - a.place) e few in
      record {
        more = m.0;
        left = m.1;
        scanned = ap (scan_to (largest_job - a.place)) text_is ∙ scanned_last x xs (largest_job - a.place) inside short less
            ∙ ap (λ (l : List ℕ). onto_lines l (record { lines = []; rest = [] })) (sym e)
            ∙ ap (onto_lines h.front) (sym (scanned_none (largest_job - c.place))) ∙ ap (λ (l : List ℕ). onto_lines h.front (scan_to (largest_job - c.place) l)) (sym none);
        lines = ap (λ (l : List ℕ). lines_of (take (largest_job - a.place) l)) text_is ∙ raw_last x xs (largest_job - a.place) inside less
            ∙ ap (λ (l : List ℕ). l ∷ []) (sym e) ∙ ap (λ (l : List (List ℕ)). h.front ∷ l) (sym (no_lines (largest_job - c.place))) ∙ ap (λ (l : List ℕ). h.front ∷ lines_of (take (largest_job - c.place) l)) (sym none);
      }

  by_front : (f : List ℕ) → h.front ≡ f → ReadsSentLine a c s u
  by_front [] e = absurd (let n = ap length e in omega (arith, n, place, some))
  by_front (x ∷ xs) e = record {
    line = h.front;
    come = subst (λ (v : SeenLine). HasCome h.front v) (sym over.waits.line) h.come;
    next = λ text is. split x xs text e is;
    known = over.waits.known;
    room = (let p = over.waits.place in omega (arith, p, room));
    same = over.same ∙ h.same;
  }

-- ---- none that is sent

pub none_read : (a b c : JobRead) (s t u : SourceState) → HasReadLine a b s t → IsOver b c t u → c.place ≤ a.place → ReadsLast a c s u
none_read a b c s t u h over few =
    let p : c.place ≡ a.place + length h.front = over.waits.place ∙ h.place in
    let none : h.front ≡ [] = nil_from_length h.front (omega (arith, p, few)) in
    let room = h.room in
    let same_place = over.waits.place in
    record {
      rest = [];
      come = subst (λ (l : List ℕ). HasCome l c.line) none (subst (λ (v : SeenLine). HasCome h.front v) (sym over.waits.line) h.come);
      last = λ text e.
          let text_none : text ≡ [] = empty_text (ahead a.window s) (ahead b.window t) (ahead c.window u) h.front h.text over.waits.kept none over.none text e in
          ap (scan_to (largest_job - a.place)) text_none ∙ scanned_none (largest_job - a.place);
      known = over.waits.known;
      room = omega (arith, room, same_place);
      same = over.same ∙ h.same;
    }

pub large_read : (a b c : JobRead) (s t u : SourceState) → HasReadLine a b s t → IsTooLarge b c t u → ReadsLast a c s u
large_read a b c s t u h large =
    let p : c.place ≡ a.place + length h.front = large.waits.place ∙ h.place in
    let full = large.full in
    let rooms : largest_job - a.place ≡ length h.front = omega (arith, p, full) in
    record {
      rest = h.front;
      come = subst (λ (v : SeenLine). HasCome h.front v) (sym large.waits.line) h.come;
      last = λ text e.
          let m = known_split (ahead a.window s) (ahead c.window u) h.front
          (subst (λ (bs : List ℕ). Consumes (ahead a.window s) (ahead c.window u) bs) (append-nil h.front)
          (consumed_on (ahead a.window s) (ahead b.window t) (ahead c.window u) h.front [] h.text (none_consumed (ahead b.window t) (ahead c.window u) large.waits.kept))) text e in
          let b = large.some m.0 m.1 in
          ap (scan_to (largest_job - a.place)) (m.2 ∙ ap (λ (l : List ℕ). h.front ++ l) b.2) ∙ ap (λ (n : ℕ). scan_to n (h.front ++ b.0 ∷ b.1)) rooms ∙ scanned_large h.front b.0 b.1 h.inside h.short;
      known = large.waits.known;
      room = omega (arith, full);
      same = large.same ∙ h.same;
    }

pub long_read : (a b c d : JobRead) (s t u : SourceState) (byte : ℕ) → HasReadLine a b s t → TakesByte b c t u byte → byte ≢ 10
    → d.window ≡ c.window → d.place ≡ c.place → ((line : List ℕ) → HasCome line c.line → HasCome (line ++ byte ∷ []) d.line) → nat_lt 127 (length d.line.kept) ≡ true
    → ReadsLast a d s u
long_read a b c d s t u byte h one other window place come many =
    let long : length (h.front ++ byte ∷ []) ≡ length h.front + 1 = length-append h.front (byte ∷ []) in
    let here : HasCome (h.front ++ byte ∷ []) d.line = come h.front (subst (λ (v : SeenLine). HasCome h.front v) (sym one.line) h.come) in
    let before = h.place in
    let step = one.place in
    let space = one.room in
    let rooms : largest_job - a.place ≡ length (h.front ++ byte ∷ []) + (largest_job - c.place) = omega (arith, long, before, step, space) in
    record {
      rest = h.front ++ byte ∷ [];
      come = here;
      last = λ text e.
          let m = known_split (ahead a.window s) (ahead c.window u) (h.front ++ byte ∷ []) (text_more a b c s t u byte h one) text e in
          ap (scan_to (largest_job - a.place)) m.2 ∙ ap (λ (n : ℕ). scan_to n ((h.front ++ byte ∷ []) ++ m.0)) rooms
          ∙ scanned_long h.front byte m.0 (largest_job - c.place) (all_push h.front byte h.inside (no_lf byte other)) h.short (ap (λ (k : List ℕ). nat_lt most_sent (length k)) (sym here.kept) ∙ many);
      known = subst (λ (w : Window). KnowsEnd w u) (sym window) one.known;
      room = omega (arith, step, space, place);
      same = one.same ∙ h.same;
    }

pub over_read : (a b c : JobRead) (s t u : SourceState) → HasReadLine a b s t → IsOver b c t u → ReadsLine a c s u (nat_lt a.place c.place)
over_read a b c s t u h over = by_test (nat_lt a.place c.place) refl where
  by_test : (t : Bool) → nat_lt a.place c.place ≡ t → ReadsLine a c s u t
  by_test true e = end_read a b c s t u h over (grind (arith, nat_tests, e))
  by_test false e = none_read a b c s t u h over (grind (arith, nat_tests, e))

-- a byte was taken and fed to the line
pub record IsFed (c d : JobRead) (byte : ℕ) : Type 0 where
  pub window : d.window ≡ c.window
  pub place : d.place ≡ c.place
  pub come : (line : List ℕ) → HasCome line c.line → HasCome (line ++ byte ∷ []) d.line
  pub resets : d.line.resets ≤ c.line.resets + 1
  pub cuts : d.line.cuts ≤ c.line.cuts + 1

pub fed_read : (a b c d : JobRead) (s t u : SourceState) (byte : ℕ) → HasReadLine a b s t → TakesByte b c t u byte → byte ≢ 10 → IsFed c d byte → nat_lt 127 (length d.line.kept) ≡ false → HasReadLine a d s u
fed_read a b c d s t u byte h one other f few = byte_read a b c d s t u byte h one other f.window f.place f.come f.resets f.cuts few

pub fed_long : (a b c d : JobRead) (s t u : SourceState) (byte : ℕ) → HasReadLine a b s t → TakesByte b c t u byte → byte ≢ 10 → IsFed c d byte → nat_lt 127 (length d.line.kept) ≡ true → ReadsLast a d s u
fed_long a b c d s t u byte h one other f many = long_read a b c d s t u byte h one other f.window f.place f.come many
