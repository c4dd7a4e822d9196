use Rattle.std.proofs.Common.{◌≡◌, ◌∙◌, ◌+◌, ◌-◌, ◌≤◌, ◌<◌, ℕ, List, [], ◌∷◌, ◌++◌, length, take, drop, min, Some, sym, ap, subst, arith, length-append, length-drop}
use Rattle.std.proofs.lemmas.List.{take_all}
use Rattle.std.specs.Prelude.{slice_get}
use Rattle.demo_job.specs.Jobs.{job_lines, ended}
use Rattle.demo_job.proofs.Giving.{gives_some, its_length, line_given, read_part}
use Rattle.demo_job.proofs.source.DemoJobSource.read.Goals as goal

pub returns-else-self-len-clause-bytes : goal.returns-else-self-len-clause-bytes
returns-else-self-len-clause-bytes c =
    let s = c.self.inside in
    let line = c.demo_line.new.out.items in
    let count = c.min-count.result in
    let place : s.passed + 1 - 1 ≡ s.passed = omega arith in
    let at : slice_get (job_lines s.moves) s.passed ≡ Some line = subst (λ (k : ℕ). slice_get (job_lines s.moves) k ≡ Some line) place c.demo_line.ensures.line in
    let text : c.as_slice.result.now ≡ line ++ 10 ∷ [] = c.as_slice.ensures.value ∙ c.push.ensures.items in
    let size : length c.as_slice.result.now ≡ length line + 1 = ap length text ∙ length-append line (10 ∷ []) in
    let tail : take (length c.as_slice.result.now - s.given) (drop s.given c.as_slice.result.now) ≡ drop s.given c.as_slice.result.now =
    take_all (length c.as_slice.result.now - s.given) (drop s.given c.as_slice.result.now) (omega (arith, length-drop s.given c.as_slice.result.now)) in
    let early : s.given < length line + 1 = subst (λ (m : ℕ). s.given < m) (its_length s.moves s.passed line at) c.self.invariant.3 in
    let counted : count ≡ min (length line + 1 - s.given) (length c.args.buf.now) =
    c.min-count.ensures ∙ ap (λ (m : ℕ). min m (length c.args.buf.now)) (ap length tail ∙ length-drop s.given c.as_slice.result.now ∙ ap (λ (m : ℕ). m - s.given) size) in
    let copied : c.copy_from_slice.new.self ≡ take count (drop s.given (line ++ 10 ∷ [])) =
    c.copy_from_slice.ensures.after ∙ ap (take count) tail ∙ ap (λ (t : List ℕ). take count (drop s.given t)) text in
    let whole = read_part s.moves s.passed s.given count line c.args.self.now c.copy_from_slice.new.self (drop count c.args.buf.now)
    (sym c.self.view_is) at (omega arith) copied (omega (arith, counted)) in
    (whole, λ none room. absurd (gives_some s.given count line c.copy_from_slice.new.self c.args.buf.now early counted copied none room))

pub returns-then-self-len-clause-bytes : goal.returns-then-self-len-clause-bytes
returns-then-self-len-clause-bytes c =
    let s = c.self.inside in
    let line = c.demo_line.new.out.items in
    let count = c.min-count.result in
    let place : s.passed + 1 - 1 ≡ s.passed = omega arith in
    let at : slice_get (job_lines s.moves) s.passed ≡ Some line = subst (λ (k : ℕ). slice_get (job_lines s.moves) k ≡ Some line) place c.demo_line.ensures.line in
    let text : c.as_slice.result.now ≡ line ++ 10 ∷ [] = c.as_slice.ensures.value ∙ c.push.ensures.items in
    let size : length c.as_slice.result.now ≡ length line + 1 = ap length text ∙ length-append line (10 ∷ []) in
    let tail : take (length c.as_slice.result.now - s.given) (drop s.given c.as_slice.result.now) ≡ drop s.given c.as_slice.result.now =
    take_all (length c.as_slice.result.now - s.given) (drop s.given c.as_slice.result.now) (omega (arith, length-drop s.given c.as_slice.result.now)) in
    let early : s.given < length line + 1 = subst (λ (m : ℕ). s.given < m) (its_length s.moves s.passed line at) c.self.invariant.3 in
    let counted : count ≡ min (length line + 1 - s.given) (length c.args.buf.now) =
    c.min-count.ensures ∙ ap (λ (m : ℕ). min m (length c.args.buf.now)) (ap length tail ∙ length-drop s.given c.as_slice.result.now ∙ ap (λ (m : ℕ). m - s.given) size) in
    let copied : c.copy_from_slice.new.self ≡ take count (drop s.given (line ++ 10 ∷ [])) =
    c.copy_from_slice.ensures.after ∙ ap (take count) tail ∙ ap (λ (t : List ℕ). take count (drop s.given t)) text in
    let whole = read_part s.moves s.passed s.given count line c.args.self.now c.copy_from_slice.new.self (drop count c.args.buf.now)
    (sym c.self.view_is) at (omega arith) copied (omega (arith, counted)) in
    let full : s.given + count ≡ length line + 1 = c.if-self-len.true ∙ c.len.ensures.value ∙ ap length c.push.ensures.items ∙ length-append line (10 ∷ []) in
    let next : drop (s.given + count) (ended (drop s.passed (job_lines s.moves))) ≡ ended (drop (s.passed + 1) (job_lines s.moves)) =
    ap (λ (m : ℕ). drop m (ended (drop s.passed (job_lines s.moves)))) full ∙ line_given s.moves s.passed line at in (
      whole ∙ ap (λ (t : List ℕ). take count (c.copy_from_slice.new.self ++ drop count c.args.buf.now) ++ t) next,
      λ none room. absurd (gives_some s.given count line c.copy_from_slice.new.self c.args.buf.now early counted copied none room),
    )
