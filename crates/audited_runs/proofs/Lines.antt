-- The lines that an audit scans are those that a host sends.
use Rattle.std.proofs.Common.{◌≡◌, ℕ, Bool, true, false, cond, ◌||◌, List, [], ◌∷◌, ◌++◌, length, map, nat_lt, refl, sym, ap, ◌∙◌, append-nil, append_assoc, Some}
use Rattle.std.specs.declared.option.Option.{Option}
use Rattle.std.specs.List.{list_any, take_while}
use Rattle.std.specs.Option.{is_some}
use Rattle.run_rules.specs.Lines.{lines_of, whole_lines}
use Rattle.run_rules.specs.Readings.{job_of, largest_job, most_sent}
use Rattle.run_texts.specs.Sent.{kept_of}
use Rattle.host_journal.specs.Jobs.{fronts, has_too_many, ends_sending, is_sent, lines_to_send}
use Rattle.host_journal.specs.declared.Reading.TheVariants.{Ended, Large}
use Rattle.stream_host.proofs.Pieces.{front_first, front_ends, none_ends}
use Rattle.epoch_links.proofs.Sending.{kept_sent}
use Rattle.audit_rules.specs.Scanned as audits

-- ---- a line that is too long

moved : (before : List ℕ) (c : ℕ) (fs : List (List ℕ)) → list_any has_too_many (map (λ f. before ++ f) (map (λ f. c ∷ f) fs)) ≡ list_any has_too_many (map (λ f. (before ++ c ∷ []) ++ f) fs)
moved before c [] = refl
moved before c (f ∷ fs) =
    ap (λ (x : List ℕ). has_too_many x || list_any has_too_many (map (λ g. before ++ g) (map (λ g. c ∷ g) fs))) (sym (append_assoc before (c ∷ []) f))
    ∙ ap (λ (b : Bool). has_too_many ((before ++ c ∷ []) ++ f) || b) (moved before c fs)

either_some : {A : Type 0} (t : Bool) (x : A) (o : Option A) → is_some (cond t (Some x) o) ≡ t || is_some o
either_some true x o = refl
either_some false x o = refl

too_many_by : (before : List ℕ) (c : ℕ) (cs : List ℕ) → is_some (audits.long_front before (c ∷ cs)) ≡ has_too_many (before ++ c ∷ []) || is_some (audits.long_front (before ++ c ∷ []) cs)
too_many_by before c cs =
    either_some (nat_lt most_sent (length (kept_of (before ++ c ∷ [])))) (before ++ c ∷ []) (audits.long_front (before ++ c ∷ []) cs)
    ∙ ap (λ (text : List ℕ). nat_lt most_sent (length text) || is_some (audits.long_front (before ++ c ∷ []) cs)) (kept_sent (before ++ c ∷ []))

or_none : (a : Bool) → (a || false) ≡ a
or_none true = refl
or_none false = refl

any_front : (before cs : List ℕ) → list_any has_too_many (map (λ f. before ++ f) (fronts cs)) ≡ has_too_many before || is_some (audits.long_front before cs)
any_front before [] = ap (λ (x : List ℕ). has_too_many x || false) (append-nil before)
any_front before (c ∷ cs) =
    ap (λ (x : List ℕ). has_too_many x || list_any has_too_many (map (λ f. before ++ f) (map (λ f. c ∷ f) (fronts cs)))) (append-nil before)
    ∙ ap (λ (b : Bool). has_too_many before || b) (moved before c (fronts cs) ∙ any_front (before ++ c ∷ []) cs ∙ sym (too_many_by before c cs))

any_same : (fs : List (List ℕ)) → list_any has_too_many (map (λ f. [] ++ f) fs) ≡ list_any has_too_many fs
any_same [] = refl
any_same (f ∷ fs) = ap (λ (b : Bool). has_too_many f || b) (any_same fs)

pub long_same : (line : List ℕ) → audits.is_long line ≡ ends_sending line
long_same line =
    let none : has_too_many [] ≡ false = sym (or_none (has_too_many [])) ∙ none_ends in
    let behind = audits.is_long line in
    ap (λ (b : Bool). b || behind) (sym none) ∙ sym (any_front [] line) ∙ any_same (fronts line)

-- ---- the lines before it

up_lines : (ls : List (List ℕ)) (rest : List ℕ) → (audits.up_to_long ls rest).lines ≡ take_while is_sent ls
up_lines [] rest = refl
up_lines (l ∷ ls) rest = by_long (audits.is_long l) (sym (long_same l)) (up_lines ls rest) where
  by_long : (t : Bool) → ends_sending l ≡ t → (audits.up_to_long ls rest).lines ≡ take_while is_sent ls → (cond t (record { lines = []; rest = audits.scanned_of l }) (audits.onto_lines l (audits.up_to_long ls rest))).lines ≡ take_while is_sent (l ∷ ls)
  by_long true long more = sym (front_ends l ls long)
  by_long false short more = ap (λ (xs : List (List ℕ)). l ∷ xs) more ∙ sym (front_first l ls short)

pub lines_of_large : (job : List ℕ) → nat_lt largest_job (length job) ≡ true → (audits.scanned job).lines ≡ lines_to_send Large (job_of job)
lines_of_large job large =
    ap (λ (t : Bool). (cond t (audits.up_to_long (whole_lines (job_of job)) (audits.open_line (job_of job))) (audits.up_to_long (lines_of job) [])).lines) large
    ∙ up_lines (whole_lines (job_of job)) (audits.open_line (job_of job))

pub lines_of_small : (job : List ℕ) → nat_lt largest_job (length job) ≡ false → (audits.scanned job).lines ≡ lines_to_send Ended job
lines_of_small job small =
    ap (λ (t : Bool). (cond t (audits.up_to_long (whole_lines (job_of job)) (audits.open_line (job_of job))) (audits.up_to_long (lines_of job) [])).lines) small
    ∙ up_lines (lines_of job) []
