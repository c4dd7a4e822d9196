-- All that follows is taken.
use Rattle.std.proofs.Common.{◌≡◌, ◌≤◌, ◌+◌, ◌⊎◌, inl, inr, ℕ, true, List, [], ◌++◌, length, drop, append-nil, length-append, length-drop, refl, sym, ap, ◌∙◌, subst, arith}
use Rattle.std.specs.Io.KnownBytes.{Consumes, Keeps}
use Rattle.std.proofs.lemmas.List.{nil_from_length}
use Rattle.outside.specs.Causes.{SourceState}
use Rattle.audit_readers.specs.Windows.{Window, ahead, look_ahead, too_long, KnowsEnd, FillsUp, FailsToFill, TakesSome, TakesRest, FailsToTake}
use Rattle.audit_readers.proofs.Filling.{keeps_same}
use Rattle.audit_readers.proofs.Skipping.{none_consumed, consumed_on, taken_ahead, rose_from}

-- so far, with no fault
pub record HasTaken (old now : Window) (before after : SourceState) (place place_now : ℕ) : Type 0 where
  pub some : TakesSome old now before after place place_now
  pub same : after.faults ≡ before.faults

pub nothing_taken : (w : Window) (s : SourceState) (place : ℕ) → KnowsEnd w s → HasTaken w w s s place place
nothing_taken w s place known = record {
  some = record { bytes = []; text = none_consumed (ahead w s) (ahead w s) (keeps_same (ahead w s)); count = (let e : place ≡ place + 0 = omega arith in e); known = known };
  same = refl;
}

filled_text : (a b c : Window) (s t u : SourceState) (bytes : List ℕ) → Consumes (ahead a s) (ahead b t) bytes → Keeps (ahead b t) (ahead c u) → Consumes (ahead a s) (ahead c u) bytes
filled_text a b c s t u bytes text kept =
    subst (λ (bs : List ℕ). Consumes (ahead a s) (ahead c u) bs) (append-nil bytes)
    (consumed_on (ahead a s) (ahead b t) (ahead c u) bytes [] text (none_consumed (ahead b t) (ahead c u) kept))

-- all that waits is taken
pub more_taken : (a b c d : Window) (s t u : SourceState) (place q n : ℕ) → HasTaken a b s t place q → FillsUp b c t u → n ≡ length c.waiting → d.waiting ≡ drop n c.waiting → d.ended ≡ c.ended
    → HasTaken a d s u place (q + n)
more_taken a b c d s t u place q n h f long taken ended =
    let left : drop n c.waiting ≡ [] = nil_from_length (drop n c.waiting) (omega (arith, length-drop n c.waiting, long)) in
    let none : d.waiting ≡ [] = taken ∙ left in
    let whole : c.waiting ≡ c.waiting ++ d.waiting = sym (append-nil c.waiting) ∙ ap (λ (t : List ℕ). c.waiting ++ t) (sym none) in
    let before = h.some.count in
    let sum = length-append h.some.bytes c.waiting in
    record {
      some = record {
        bytes = h.some.bytes ++ c.waiting;
        text = consumed_on (ahead a s) (ahead c u) (ahead d u) h.some.bytes c.waiting (filled_text a b c s t u h.some.bytes h.some.text f.stays.kept) (taken_ahead c.waiting c.waiting d.waiting u.left whole);
        count = omega (arith, before, sum, long);
        known = λ e. f.stays.known (sym ended ∙ e);
      };
      same = f.same ∙ h.same;
    }

pub rest_taken : (a b c : Window) (s t u : SourceState) (place q : ℕ) → HasTaken a b s t place q → FillsUp b c t u → length c.waiting ≡ 0 → TakesRest a c s u place q
rest_taken a b c s t u place q h f none = record {
  some = record { bytes = h.some.bytes; text = filled_text a b c s t u h.some.bytes h.some.text f.stays.kept; count = h.some.count; known = f.stays.known };
  over = inr (nil_from_length c.waiting none, by f.enough);
  same = f.same ∙ h.same;
} where
  by : (look_ahead ≤ length c.waiting) ⊎ (c.ended ≡ true) → c.ended ≡ true
  by (inl many) = absurd (omega (arith, many, none))
  by (inr over) = over

pub too_many_taken : (a b : Window) (s t : SourceState) (place q : ℕ) → HasTaken a b s t place q → too_long ≤ q → TakesRest a b s t place q
too_many_taken a b s t place q h many = record { some = h.some; over = inl many; same = h.same }

pub taking_failed : (a b c : Window) (s t u : SourceState) (place q : ℕ) → HasTaken a b s t place q → FailsToFill b c t u → FailsToTake a c s u
taking_failed a b c s t u place q h f = record {
  bytes = h.some.bytes;
  text = filled_text a b c s t u h.some.bytes h.some.text f.stays.kept;
  known = f.stays.known;
  rose = rose_from s.faults t.faults u.faults h.same f.rose;
}
