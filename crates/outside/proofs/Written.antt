-- A text on its way to a sink.
use Rattle.std.proofs.Common.{◌≡◌, ℕ, ◌≤◌, Bool, true, false, cond, List, [], ◌++◌, drop, take, refl, sym, ap, ◌∙◌, append_assoc, arith}
use Rattle.std.specs.Io.KnownBytes.{Appends, Keeps}
use Rattle.std.proofs.KnownBytes.{Appends-nil, Appends-trans, Appends-kept}
use Rattle.std.proofs.lemmas.List.{take-append-drop}
use Rattle.outside.specs.Causes.{Rose, SinkState}
use Rattle.outside.specs.Writing.{Wrote, Took}

pub wrote_nothing : (s : SinkState) → Wrote s s false [] []
wrote_nothing s = record { front = []; back = []; whole = refl; held = Appends-nil s.held; all = λ h. refl; same = λ h. refl; later = omega arith; cause = λ h. absurd cc }

-- a text waits, unless the sink has failed
pub more_waits : (a b : SinkState) (failed : Bool) (waiting text more : List ℕ) → Wrote a b failed waiting text → Wrote a b failed (cond failed waiting (waiting ++ more)) (text ++ more)
more_waits a b false waiting text more was = record {
  front = was.front;
  back = was.back ++ more;
  whole = ap (λ x. x ++ more) was.whole ∙ append_assoc was.front was.back more;
  held = was.held;
  all = λ h. ap (λ x. x ++ more) (was.all refl);
  same = was.same;
  later = was.later;
  cause = was.cause;
}
more_waits a b true waiting text more was = record {
  front = was.front;
  back = was.back ++ more;
  whole = ap (λ x. x ++ more) was.whole ∙ append_assoc was.front was.back more;
  held = was.held;
  all = λ h. absurd cc;
  same = was.same;
  later = was.later;
  cause = was.cause;
}

-- the sink took n bytes more
pub some_taken : (a b c : SinkState) (waiting text : List ℕ) (n : ℕ) → Wrote a b false waiting text → Appends b.held c.held (take n waiting) → c.faults ≡ b.faults
    → Wrote a c false (drop n waiting) text
some_taken a b c waiting text n was more same = record {
  front = was.front ++ take n waiting;
  back = drop n waiting;
  whole = was.whole ∙ ap (λ x. was.front ++ x) (was.all refl ∙ sym (take-append-drop n waiting)) ∙ sym (append_assoc was.front (take n waiting) (drop n waiting));
  held = Appends-trans a.held b.held c.held was.front (take n waiting) was.held more;
  all = λ h. refl;
  same = λ h. same ∙ was.same refl;
  later = omega (arith, was.later, same);
  cause = λ h. absurd cc;
}

-- the sink failed
pub none_taken : (a b c : SinkState) (waiting text : List ℕ) → Wrote a b false waiting text → Keeps b.held c.held → Rose b.faults c.faults → b.faults ≤ c.faults → Wrote a c true [] text
none_taken a b c waiting text was kept rose later = record {
  front = was.front;
  back = was.back;
  whole = was.whole;
  held = Appends-kept a.held b.held c.held was.front was.held kept;
  all = λ h. absurd cc;
  same = λ h. absurd cc;
  later = omega (arith, was.later);
  cause = λ h. omega (arith, was.later, rose);
}

-- of a text of which nothing waits, the sink took all where no call failed
pub taken : (a b : SinkState) (failed : Bool) (waiting text : List ℕ) → waiting ≡ [] → Wrote a b failed waiting text → Took a b failed text
taken a b failed waiting text none was = record {
  front = was.front;
  back = was.back;
  whole = was.whole;
  held = was.held;
  all = λ h. was.all h ∙ none;
  same = was.same;
  later = was.later;
  cause = was.cause;
}
