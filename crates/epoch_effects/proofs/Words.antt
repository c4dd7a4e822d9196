-- What was taken in an epoch was taken in the run.
use Rattle.std.proofs.Common.{◌≡◌, ℕ, ◌+◌, ◌≤◌, ◌||◌, Bool, true, false, cond, List, [], ◌∷◌, ◌++◌, inl, inr, map, refl, ap, arith}
use Rattle.std.proofs.lemmas.List.{map-append}
use Rattle.std.specs.List.{AllByRecursion, sum}
use Rattle.code_table.specs.declared.flags.Ovr.{Ovr}
use Rattle.feed_hold.specs.Motions.{asks, hold_byte, cancel_byte}
use Rattle.board_journal.specs.Ports.{BoardLog, asks_cancel, cancel_words_in, asks_report, has_changes, has_held_in, has_cancelled_in, has_slowed_in, has_changed_in, reports_in}
use Rattle.board_journal.specs.Ports.PortStep.{took_exec, took_ovr}
use Rattle.board_journal.specs.Steps.{Journal, port_log}
use Rattle.board_rules.proofs.Counting.{sum_on}
use Rattle.board_rules.proofs.Keeping.{held_before, slowed_before, changed_before}
use Rattle.board_epochs.specs.Epochs.{log_on}
use Rattle.board_epochs.proofs.Onto.{reports_on}
use Rattle.run_law.specs.Changes.{IsAmong, words_in}
use Rattle.epoch_effects.specs.Words.{WordsTaken, IsTakenIn, AreTakenIn, words_taken}

-- ---- what was taken before

held_there : (l m : BoardLog) → has_held_in m ≡ true → has_held_in (l ++ m) ≡ true
held_there [] m is = is
held_there (e ∷ l) m is = held_before e (has_held_in (l ++ m)) (held_there l m is)

slowed_there : (l m : BoardLog) → has_slowed_in m ≡ true → has_slowed_in (l ++ m) ≡ true
slowed_there [] m is = is
slowed_there (e ∷ l) m is = slowed_before e (l ++ m) (slowed_there l m is)

changed_there : (l m : BoardLog) → has_changed_in m ≡ true → has_changed_in (l ++ m) ≡ true
changed_there [] m is = is
changed_there (e ∷ l) m is = changed_before e (has_changed_in (l ++ m)) (changed_there l m is)

among_there : (l m : BoardLog) (word : Ovr) → IsAmong (words_in m) word → IsAmong (words_in (l ++ m)) word
among_there [] m word is = is
among_there (took_ovr w ∷ l) m word is = inr (among_there l m word is)
among_there (_ ∷ l) m word is = among_there l m word is

more_if : (t : Bool) (n : ℕ) → n ≤ cond t (n + 1) n
more_if true n = omega arith
more_if false n = omega arith

cancels_there : (l m : BoardLog) → cancel_words_in m ≤ cancel_words_in (l ++ m)
cancels_there [] m = omega arith
cancels_there (took_exec word ∷ l) m = let was = cancels_there l m in let more = more_if (asks_cancel word) (cancel_words_in (l ++ m)) in omega (arith, was, more)
cancels_there (_ ∷ l) m = cancels_there l m

reports_there : (l m : BoardLog) → reports_in m ≤ reports_in (l ++ m)
reports_there [] m = omega arith
reports_there (took_exec word ∷ l) m = let was = reports_there l m in let more = more_if (asks_report word) (reports_in (l ++ m)) in omega (arith, was, more)
reports_there (_ ∷ l) m = reports_there l m

-- ---- what was taken in an epoch, whose ticks are counted on

either_more : (t a b : Bool) → (a ≡ true → b ≡ true) → (t || a) ≡ true → (t || b) ≡ true
either_more true a b more is = refl
either_more false a b more is = more is

held_now : (base : ℕ) (l m : BoardLog) → has_held_in l ≡ true → has_held_in (log_on base l ++ m) ≡ true
held_now base [] m is = absurd cc
held_now base (took_exec word ∷ l) m is = either_more (asks word hold_byte) (has_held_in l) (has_held_in (log_on base l ++ m)) (held_now base l m) is
held_now base (_ ∷ l) m is = held_now base l m is

cancelled_now : (base : ℕ) (l m : BoardLog) → has_cancelled_in l ≡ true → has_cancelled_in (log_on base l ++ m) ≡ true
cancelled_now base [] m is = absurd cc
cancelled_now base (took_exec word ∷ l) m is = either_more (asks word cancel_byte) (has_cancelled_in l) (has_cancelled_in (log_on base l ++ m)) (cancelled_now base l m) is
cancelled_now base (_ ∷ l) m is = cancelled_now base l m is

both_more : (a b c d : Bool) → (a ≡ true → c ≡ true) → (b ≡ true → d ≡ true) → (a || b) ≡ true → (c || d) ≡ true
both_more true b c d f g is = ap (λ (t : Bool). t || d) (f refl)
both_more false b true d f g is = refl
both_more false b false d f g is = g is

slowed_now : (base : ℕ) (l m : BoardLog) → has_slowed_in l ≡ true → has_slowed_in (log_on base l ++ m) ≡ true
slowed_now base l m is =
    both_more (has_held_in l) (has_cancelled_in l) (has_held_in (log_on base l ++ m)) (has_cancelled_in (log_on base l ++ m)) (held_now base l m) (cancelled_now base l m) is

changed_now : (base : ℕ) (l m : BoardLog) → has_changed_in l ≡ true → has_changed_in (log_on base l ++ m) ≡ true
changed_now base [] m is = absurd cc
changed_now base (took_ovr word ∷ l) m is = either_more (has_changes word) (has_changed_in l) (has_changed_in (log_on base l ++ m)) (changed_now base l m) is
changed_now base (_ ∷ l) m is = changed_now base l m is

among_now : (base : ℕ) (l m : BoardLog) (word : Ovr) → IsAmong (words_in l) word → IsAmong (words_in (log_on base l ++ m)) word
among_now base [] m word is = absurd is
among_now base (took_ovr w ∷ l) m word (inl is) = inl is
among_now base (took_ovr w ∷ l) m word (inr is) = inr (among_now base l m word is)
among_now base (_ ∷ l) m word is = among_now base l m word is

sum_if : (t : Bool) (n a b : ℕ) → n ≡ a + b → cond t (n + 1) n ≡ cond t (a + 1) a + b
sum_if true n a b is = omega (arith, is)
sum_if false n a b is = is

cancels_on : (base : ℕ) (l m : BoardLog) → cancel_words_in (log_on base l ++ m) ≡ cancel_words_in l + cancel_words_in m
cancels_on base [] m = omega arith
cancels_on base (took_exec word ∷ l) m = sum_if (asks_cancel word) (cancel_words_in (log_on base l ++ m)) (cancel_words_in l) (cancel_words_in m) (cancels_on base l m)
cancels_on base (_ ∷ l) m = cancels_on base l m

-- ---- of all epochs

-- what was done at the port behind some of it
taken_there : (l m : BoardLog) → IsTakenIn (words_taken (l ++ m)) (words_taken m)
taken_there l m = record { held = held_there l m; slowed = slowed_there l m; changed = changed_there l m; changes = among_there l m }

taken_now : (base : ℕ) (l m : BoardLog) → IsTakenIn (words_taken (log_on base l ++ m)) (words_taken l)
taken_now base l m = record { held = held_now base l m; slowed = slowed_now base l m; changed = changed_now base l m; changes = among_now base l m }

still_taken : (all was one : WordsTaken) → IsTakenIn all was → IsTakenIn was one → IsTakenIn all one
still_taken all was one f g = record {
  held = λ is. f.held (g.held is);
  slowed = λ is. f.slowed (g.slowed is);
  changed = λ is. f.changed (g.changed is);
  changes = λ word is. f.changes word (g.changes word is);
}

all_taken : (all was one : WordsTaken) (ws : List WordsTaken) → IsTakenIn all was → IsTakenIn all one → AllByRecursion (IsTakenIn was) ws → AllByRecursion (IsTakenIn all) (ws ++ one ∷ [])
all_taken all was one [] f g each = (g, tt)
all_taken all was one (w ∷ ws) f g each = (still_taken all was w f each.0, all_taken all was one ws f g each.1)

sum_push : (f : WordsTaken → ℕ) (ws : List WordsTaken) (w : WordsTaken) → sum (map f (ws ++ w ∷ [])) ≡ sum (map f ws) + f w
sum_push f ws w = let e = ap sum (map-append f ws (w ∷ [])) in let s = sum_on (map f ws) (f w ∷ []) in let one : sum (f w ∷ []) ≡ f w = sum_one (f w) in omega (arith, e, s, one)
  where
    sum_one : (n : ℕ) → sum (n ∷ []) ≡ n
    sum_one n = omega arith

-- one more epoch, and what was done for its reset
pub one_more : (work : BoardLog) (base : ℕ) (h : Journal) (before : BoardLog) (ws : List WordsTaken) → AreTakenIn (words_taken before) ws
    → AreTakenIn (words_taken (work ++ (log_on base (port_log h) ++ before))) (ws ++ words_taken (port_log h) ∷ [])
one_more work base h before ws was =
    let l = port_log h in
    let mid = log_on base l ++ before in
    record {
      each = all_taken (words_taken (work ++ mid)) (words_taken before) (words_taken l) ws
          (still_taken (words_taken (work ++ mid)) (words_taken mid) (words_taken before) (taken_there work mid) (taken_there (log_on base l) before))
          (still_taken (words_taken (work ++ mid)) (words_taken mid) (words_taken l) (taken_there work mid) (taken_now base l before)) was.each;
      cancels = (let e = sum_push (λ (w : WordsTaken). w.cancels) ws (words_taken l) in let few = was.cancels in let on = cancels_on base l before in let more = cancels_there work mid in omega (arith, e, few, on, more));
      asked = (let e = sum_push (λ (w : WordsTaken). w.asked) ws (words_taken l) in let few = was.asked in let on = reports_on base l before in let more = reports_there work mid in omega (arith, e, few, on, more));
    }
