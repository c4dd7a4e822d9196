-- The text of the generated job, cut into its lines.
use Rattle.std.proofs.Common.{◌≡◌, ◌≢◌, ℕ, zero, suc, ◌+◌, ◌*◌, ◌/◌, ◌%◌, ◌≤◌, false, List, [], ◌∷◌, ◌++◌, length, map, nat_eq, refl, sym, subst, ap, ◌∙◌, codes, Some, append-nil, length-append, arith}
use Rattle.std.specs.List.{AllByRecursion, range_with_len}
use Rattle.std.specs.Prelude.{slice_get}
use Rattle.std.proofs.lemmas.Bool.Decides.{nat_tests}
use Rattle.std.proofs.lemmas.List.{length-map}
use Rattle.std.proofs.lemmas.List.FromFn.{length-range_with_len}
use Rattle.gcode_words.specs.Comments.{cut_within}
use Rattle.gcode_words.specs.Stripping.{plain}
use Rattle.run_rules.specs.declared.State.{State}
use Rattle.run_rules.specs.States.{IsOpening}
use Rattle.run_rules.specs.Lines.{HasNoLf, ended, lines_of}
use Rattle.run_rules.proofs.Cutting.{lines_without}
use Rattle.run_rules.proofs.Determined.{one_opening}
use Rattle.demo_job.specs.Jobs.{job_lines, job_text, move_line, tenths_text, x_tenths, y_tenths}
use Rattle.demo_law.specs.Accepted.{IsNoSystemLine, IsCalm, IsAccepted}
use Rattle.demo_law.specs.Asked.{demo_asks}
use Rattle.demo_law.proofs.Moves.{moved}
use Rattle.demo_law.proofs.Following.{opening, all_accepted}

-- what holds of the four kinds of lines holds of all
each_move : (P : List ℕ → Type 0) (m k : ℕ) → ((i : ℕ) → P (move_line (i + 1))) → P (codes "M2") → AllByRecursion P (map move_line (range_with_len (k + 1) m) ++ codes "M2" ∷ [])
each_move P zero k moves end = (end, tt)
each_move P (suc m) k moves end = (moves k, each_move P m (k + 1) moves end)

each_line : (P : List ℕ → Type 0) (n : ℕ) → P (codes "G21G90G94") → P (codes "F600") → ((i : ℕ) → P (move_line (i + 1))) → P (codes "M2") → AllByRecursion P (job_lines n)
each_line P n modes feed moves end = (modes, (feed, each_move P n 0 moves end))

-- a digit is no line feed
digit_no_lf : (d : ℕ) → nat_eq (48 + d) 10 ≡ false
digit_no_lf d = grind (arith, nat_tests)

tenths_no_lf : (t : ℕ) (rest : List ℕ) → HasNoLf rest → HasNoLf (tenths_text t ++ rest)
tenths_no_lf t rest none = (digit_no_lf (t / 10), (refl, (digit_no_lf (t % 10), none)))

move_no_lf : (i : ℕ) → HasNoLf (move_line i)
move_no_lf i =
    (refl, (refl, (refl, tenths_no_lf (x_tenths i) (codes "Y" ++ tenths_text (y_tenths i)) (refl, tenths_no_lf (y_tenths i) [] tt))))

no_lf : (n : ℕ) → AllByRecursion HasNoLf (job_lines n)
no_lf n =
    each_line HasNoLf n (refl, (refl, (refl, (refl, (refl, (refl, (refl, (refl, (refl, tt))))))))) (refl, (refl, (refl, (refl, tt)))) (λ i. move_no_lf (i + 1)) (refl, (refl, tt))

pub cut_so : (n : ℕ) → lines_of (job_text n) ≡ job_lines n
cut_so n = lines_without (job_text n) (job_lines n) [] (record { whole = sym (append-nil (job_text n)); each = no_lf n; partial = tt }) refl

pub as_many : (n : ℕ) → length (job_lines n) ≡ n + 3
as_many n = simp (length-append, length-map, length-range_with_len 1 n) (omega arith)

-- lines of ten bytes at most
ended_few : (lines : List (List ℕ)) → AllByRecursion (λ l. length l ≤ 10) lines → length (ended lines) ≤ 11 * length lines
ended_few [] short = omega arith
ended_few (l ∷ ls) short = let one = short.0 in let more = ended_few ls short.1 in simp length-append (omega arith)

few : (n : ℕ) → n ≤ 100000 → length (job_text n) ≤ 16777216
few n most =
    let short = each_line (λ l. length l ≤ 10) n (omega arith) (omega arith) (λ i. omega arith) (omega arith) in
    omega (arith, ended_few (job_lines n) short, as_many n)

-- no line begins with `$`
no_dollar : (line : List ℕ) → slice_get line 0 ≡ Some 71 → slice_get line 0 ≢ Some 36
no_dollar line is same = absurd (let e = sym is ∙ same in cc)

no_system : (n : ℕ) → AllByRecursion IsNoSystemLine (job_lines n)
unfolding cut_within
no_system n = each_line IsNoSystemLine n (λ e. absurd cc) (λ e. absurd cc)
    (λ i. let m = moved i in no_dollar (plain (move_line (i + 1))) (ap (λ l. slice_get l 0) m.kept)) (λ e. absurd cc)

calm : (n : ℕ) → AllByRecursion IsCalm (job_lines n)
unfolding cut_within
calm n = each_line IsCalm n refl refl (λ i. let m = moved i in m.calm) refl

of_opening : (n : ℕ) → 1 ≤ n → n ≤ 100000 → IsAccepted (job_text n) (job_lines n) (demo_asks opening.settings n) opening
of_opening n some most =
    let all = all_accepted n some in
    record { few = few n most; cut = cut_so n; outcomes = all.outcomes; last = all.last; follows = all.follows; accepted = all.none; within = all.within; asks = all.asks; kinds = all.kinds; anywhere = no_system n; calm = calm n }

pub accepted : (n : ℕ) (first : State) → 1 ≤ n → n ≤ 100000 → IsOpening first → IsAccepted (job_text n) (job_lines n) (demo_asks first.settings n) first
accepted n first some most is =
    subst (λ (s : State). IsAccepted (job_text n) (job_lines n) (demo_asks s.settings n) s) (one_opening opening first (record { parser = refl; settings = refl }) is) (of_opening n some most)
