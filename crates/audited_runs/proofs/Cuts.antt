-- The bytes that a run has scanned and that may cut jogs, as an audit counts them.
use Rattle.std.proofs.Common.{◌≡◌, ℕ, ◌+◌, inl, inr, Bool, cond, List, [], ◌∷◌, ◌++◌, length, nat_lt, refl, sym, ap, ◌∙◌, arith}
use Rattle.std.specs.List.{count_by, flat_map, sum_by}
use Rattle.std.proofs.lemmas.List.Sums.{sum_by-append, sum_by-cons}
use Rattle.gcode_words.specs.Stripping.{realtime}
use Rattle.run_law.specs.Flags.{is_slow}
use Rattle.run_law.specs.Runs.{slows_in}
use Rattle.run_rules.proofs.Cutting.{lines_are, some_bytes}
use Rattle.stream_host.proofs.Links.{realtime_nil}
use Rattle.epoch_law.specs.Ran.{IsRest}
use Rattle.audit_rules.specs.Scanned.{cuts_by, may_cut}

-- the bytes of some lines that pass a test, line by line
pub counted : (p : ℕ → Bool) (ls : List (List ℕ)) → count_by p (flat_map realtime ls) ≡ sum_by (λ l. count_by p (realtime l)) ls
counted p [] = refl
counted p (l ∷ ls) =
    let both = sum_by-append (λ x. cond (p x) 1 0) (realtime l) (flat_map realtime ls) in
    let more = counted p ls in
    let here = sum_by-cons (λ l. count_by p (realtime l)) l ls in
    omega (arith, both, more, here)

no_more : (n : ℕ) → n + 0 ≡ n
no_more n = omega arith

-- a rest of no bytes has none
last_counted : (rest : List ℕ) → sum_by cuts_by (cond (nat_lt 0 (length rest)) (rest ∷ []) []) ≡ cuts_by rest
last_counted [] = sym (ap (count_by may_cut) realtime_nil)
last_counted (c ∷ cs) = ap (λ (b : Bool). sum_by cuts_by (cond b ((c ∷ cs) ∷ []) [])) (some_bytes c cs) ∙ sum_by-cons cuts_by (c ∷ cs) [] ∙ no_more (cuts_by (c ∷ cs))

pub slows_counted : (text : List ℕ) (lines : List (List ℕ)) (rest : List ℕ) → IsRest text lines rest → slows_in text ≡ sum_by cuts_by lines + cuts_by rest
slows_counted text lines rest is = elim is [
  | inl cut ↦
      let tail = cond (nat_lt 0 (length rest)) (rest ∷ []) [] in
      ap (λ (ls : List (List ℕ)). count_by is_slow (flat_map realtime ls)) (lines_are text lines rest cut) ∙ counted is_slow (lines ++ tail) ∙ sum_by-append cuts_by lines tail
      ∙ ap (λ (n : ℕ). sum_by cuts_by lines + n) (last_counted rest)
  | inr over ↦
      let none : cuts_by rest ≡ 0 = ap cuts_by over.1 ∙ ap (count_by may_cut) realtime_nil in
      let all = ap (λ (ls : List (List ℕ)). count_by is_slow (flat_map realtime ls)) over.0 ∙ counted is_slow lines in
      omega (arith, none, all)
]
