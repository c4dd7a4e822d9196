-- What a sink has of the texts that were put.
use Rattle.std.proofs.Common.{◌≡◌, ℕ, Bool, true, false, not, ◌&&◌, ◌||◌, nat_eq, List, [], ◌∷◌, length, refl, sym, ◌∙◌, subst, inl, inr, arith}
use Rattle.std.proofs.lemmas.Bool.Decides.{nat_tests}
use Rattle.outside.specs.Causes.{SinkState}
use Rattle.outside.specs.Writing.{Wrote, Took}
use Rattle.outside.proofs.Written.{some_taken, none_taken}
use Rattle.text_writer.specs.Writers.{Writing, Writes, WroteOnce, is_done}

well_by : (f b : Bool) → (not f && b) ≡ true → f ≡ false
well_by true b e = absurd cc
well_by false b e = refl

-- only a sink that has not failed is written to
pub well : (v : Writing) → Writes v → v.failed ≡ false
well v w = well_by v.failed _ w

wrote_at : {a b : SinkState} {f g : Bool} {waiting text : List ℕ} → f ≡ g → Wrote a b f waiting text → Wrote a b g waiting text
wrote_at {a = a} {b = b} {waiting = waiting} {text = text} e was = subst (λ (x : Bool). Wrote a b x waiting text) e was

pub once_more : (v w : Writing) (text : List ℕ) (before now later : SinkState) → Writes v → WroteOnce v w now later → Wrote before now v.failed v.waiting text → Wrote before later w.failed w.waiting text
once_more v w text before now later due (inl done) was = rw done.left (
    wrote_at (sym (well v due)) (some_taken before now later v.waiting text done.count (wrote_at (well v due) was) done.held done.same))
once_more v w text before now later due (inr failure) was = rw failure.left (
    none_taken before now later v.waiting text (wrote_at (well v due) was) failure.held failure.rose failure.later)

rests_by : (asked failed : Bool) (waiting : List ℕ) → (asked && (failed || nat_eq (length waiting) 0)) ≡ true → failed ≡ false → (asked ≡ true) × (waiting ≡ [])
rests_by false failed waiting e going = absurd cc
rests_by true true waiting e going = absurd cc
rests_by true false [] e going = (refl, refl)
rests_by true false (c ∷ cs) e going = absurd (grind (arith, nat_tests))

-- where all was asked for and the sink has not failed, nothing waits
pub done_waits : (v : Writing) → is_done v ≡ true → v.failed ≡ false → (v.asked ≡ true) × (v.waiting ≡ [])
done_waits v done going = rests_by v.asked v.failed v.waiting done going

pub all_arrived : (v : Writing) (text : List ℕ) (before now : SinkState) → is_done v ≡ true → Wrote before now v.failed v.waiting text → Took before now v.failed text
all_arrived v text before now done was = record {
  front = was.front;
  back = was.back;
  whole = was.whole;
  held = was.held;
  all = λ well. was.all well ∙ (done_waits v done well).1;
  same = was.same;
  later = was.later;
  cause = was.cause;
}
