-- What a board does turn by turn.
use Rattle.std.proofs.Common.{◌≡◌, ℕ, ◌+◌, ◌≤◌, List, [], ◌∷◌, ◌++◌, Bool, true, false, not, cond, length, drop, refl, ap, arith}
use Rattle.std.specs.List.{count_by}
use Rattle.std.proofs.lemmas.List.{length-append}
use Rattle.std.proofs.lemmas.List.Sums.{sum_by-cons}
use Rattle.code_table.specs.declared.flags.Exec.{Exec}
use Rattle.feed_hold.specs.declared.Motion.{Motion}
use Rattle.feed_hold.specs.Motions.Call.{on_exec}
use Rattle.outside.specs.declared.Turn.{Turn}
use Rattle.outside.specs.declared.Turn.TheVariants.{Did, Wait, Done}
use Rattle.board_journal.specs.Openings.{Opening}
use Rattle.board_journal.specs.Ports.PortStep.{took_exec}
use Rattle.board_journal.specs.Ports.{asks_reset}
use Rattle.board_journal.specs.Steps.{Step, Journal}
use Rattle.board_journal.specs.Steps.Step.{at_port, became, turned}
use Rattle.board_rules.specs.Turns.{this_turn, publishing, ends_turn, takes_requests, obeys, unobeyed_of, owes_report, takes_changes, replans, tries_of, most_tries}
use Rattle.board_rules.specs.Conduct.{Conducted, MayTurn}

-- published so far, beside the turns that ended
abbrev Fits : Journal → Type 0
Fits h = count_by publishing h ≤ count_by ends_turn h + count_by publishing (this_turn h)

-- a step within a turn
within : (s : Step) (h : Journal) → ends_turn s ≡ false → Fits h → count_by publishing (s ∷ h) ≤ count_by ends_turn (s ∷ h) + count_by publishing (s ∷ this_turn h)
within s h still fits =
    let a = sum_by-cons (λ x. cond (publishing x) 1 0) s h in
    let b = sum_by-cons (λ x. cond (ends_turn x) 1 0) s h in
    let d = sum_by-cons (λ x. cond (publishing x) 1 0) s (this_turn h) in
    let e = ap (λ (t : Bool). cond {A = ℕ} t 1 0) still in
    omega arith

-- no more than one thing in a turn that ends
pub once : (first : Opening) (t : Turn) (h : Journal) → MayTurn first t h → count_by publishing (this_turn h) ≤ 1
once first Did h may = may.once
once first (Wait o) h may = may.ends.once
once first Done h may = let e = ap (λ (ss : List Step). count_by publishing ss) may.still in omega arith

on_turned : (first : Opening) (t : Turn) (h : Journal) → MayTurn first t h → Fits h → count_by publishing (turned t ∷ h) ≤ count_by ends_turn (turned t ∷ h)
on_turned first t h may fits =
    let a = sum_by-cons (λ x. cond (publishing x) 1 0) (turned t) h in
    let b = sum_by-cons (λ x. cond (ends_turn x) 1 0) (turned t) h in
    let o = once first t h may in
    omega arith

fits_is : (first : Opening) (h : Journal) → Conducted first h → Fits h
fits_is first [] c = omega arith
fits_is first (turned t ∷ h) c = let m = on_turned first t h c.0 (fits_is first h c.1) in omega arith
fits_is first (s ∷ h) c = within s h refl (fits_is first h c.1)

pub one_a_turn : (first : Opening) (h : Journal) → Conducted first h → this_turn h ≡ [] → count_by publishing h ≤ count_by ends_turn h
one_a_turn first h c between =
    let m = fits_is first h c in
    let e = ap (λ (ss : List Step). count_by publishing ss) between in
    omega arith

pub few_tries : (first : Opening) (h : Journal) → Conducted first h → this_turn h ≡ [] → tries_of first h ≤ most_tries
few_tries first [] c between = omega arith
few_tries first (turned Did ∷ h) c between = c.0.tries
few_tries first (turned (Wait o) ∷ h) c between = c.0.ends.tries
few_tries first (turned Done ∷ h) c between = few_tries first h c.1 c.0.still
few_tries first (_ ∷ h) c between = absurd cc

-- ---- what is asked for and what is done, as often

-- steps of one kind are as many as those of another, beside those of this turn
abbrev Balances : (Step → Bool) → (Step → Bool) → Journal → Type 0
Balances f g h = count_by f h + count_by g (this_turn h) ≡ count_by g h + count_by f (this_turn h)

-- so they are as many where no end of a turn is of either kind, and in each turn that ends they are
record Balance (first : Opening) (f g : Step → Bool) : Type 0 where
  left : (t : Turn) → f (turned t) ≡ false
  right : (t : Turn) → g (turned t) ≡ false
  each : (t : Turn) (h : Journal) → MayTurn first t h → count_by f (this_turn h) ≡ count_by g (this_turn h)

balance_within : (f g : Step → Bool) (s : Step) (h : Journal) → Balances f g h → count_by f (s ∷ h) + count_by g (s ∷ this_turn h) ≡ count_by g (s ∷ h) + count_by f (s ∷ this_turn h)
balance_within f g s h balances =
    let a = sum_by-cons (λ x. cond (f x) 1 0) s h in
    let b = sum_by-cons (λ x. cond (g x) 1 0) s h in
    let d = sum_by-cons (λ x. cond (f x) 1 0) s (this_turn h) in
    let e = sum_by-cons (λ x. cond (g x) 1 0) s (this_turn h) in
    omega arith

balance_turned : (first : Opening) (f g : Step → Bool) (t : Turn) (h : Journal) → Balance first f g → MayTurn first t h → Balances f g h → count_by f (turned t ∷ h) ≡ count_by g (turned t ∷ h)
balance_turned first f g t h b may balances =
    let a = sum_by-cons (λ x. cond (f x) 1 0) (turned t) h in
    let d = sum_by-cons (λ x. cond (g x) 1 0) (turned t) h in
    let left = ap (λ (is : Bool). cond {A = ℕ} is 1 0) (b.left t) in
    let right = ap (λ (is : Bool). cond {A = ℕ} is 1 0) (b.right t) in
    let each = b.each t h may in
    omega arith

balances_is : (f g : Step → Bool) (first : Opening) → Balance first f g → (h : Journal) → Conducted first h → Balances f g h
balances_is f g first b [] c = refl
balances_is f g first b (turned t ∷ h) c = let e = balance_turned first f g t h b c.0 (balances_is f g first b h c.1) in omega arith
balances_is f g first b (s ∷ h) c = balance_within f g s h (balances_is f g first b h c.1)

as_often : (f g : Step → Bool) (first : Opening) → Balance first f g → (h : Journal) → Conducted first h → this_turn h ≡ [] → count_by f h ≡ count_by g h
as_often f g first b h c between =
    let e = balances_is f g first b h c in
    let left = ap (λ (ss : List Step). count_by f ss) between in
    let right = ap (λ (ss : List Step). count_by g ss) between in
    omega arith

-- a word is taken, obeyed, or neither
abbrev Obeys : Journal → List Exec → Type 0
Obeys h words = count_by obeys h + length words ≡ count_by takes_requests h

on_neither : (s : Step) (h : Journal) (words : List Exec) → obeys s ≡ false → takes_requests s ≡ false → Obeys h words → Obeys (s ∷ h) words
on_neither s h words no_one none obeyed =
    let a = sum_by-cons (λ x. cond (obeys x) 1 0) s h in
    let b = sum_by-cons (λ x. cond (takes_requests x) 1 0) s h in
    let left = ap (λ (is : Bool). cond {A = ℕ} is 1 0) no_one in
    let right = ap (λ (is : Bool). cond {A = ℕ} is 1 0) none in
    omega arith

-- one that asks for a reset is none that is obeyed
on_taken : (word : Exec) (h : Journal) (words : List Exec) (r : Bool) → asks_reset word ≡ r → Obeys h words → Obeys (at_port (took_exec word) ∷ h) (cond (asks_reset word) words (words ++ word ∷ []))
on_taken word h words true is obeyed =
    let a = sum_by-cons (λ x. cond (obeys x) 1 0) (at_port (took_exec word)) h in
    let b = sum_by-cons (λ x. cond (takes_requests x) 1 0) (at_port (took_exec word)) h in
    let t = ap (λ (r : Bool). cond {A = ℕ} (not r) 1 0) is in
    let e = ap (λ (r : Bool). length (cond r words (words ++ word ∷ []))) is in
    omega arith
on_taken word h words false is obeyed =
    let a = sum_by-cons (λ x. cond (obeys x) 1 0) (at_port (took_exec word)) h in
    let b = sum_by-cons (λ x. cond (takes_requests x) 1 0) (at_port (took_exec word)) h in
    let t = ap (λ (r : Bool). cond {A = ℕ} (not r) 1 0) is in
    let e = ap (λ (r : Bool). length (cond r words (words ++ word ∷ []))) is in
    let d = length-append words (word ∷ []) in
    omega arith

on_obeyed : (word : Exec) (queued : Bool) (m : Motion) (h : Journal) (words : List Exec) → words ≡ word ∷ [] → Obeys h words
    → Obeys (became (on_exec word queued) m ∷ h) (drop 1 words)
on_obeyed word queued m h words next obeyed =
    let a = sum_by-cons (λ x. cond (obeys x) 1 0) (became (on_exec word queued) m) h in
    let b = sum_by-cons (λ x. cond (takes_requests x) 1 0) (became (on_exec word queued) m) h in
    let e = ap (λ (ws : List Exec). length ws) next in
    let d = ap (λ (ws : List Exec). length (drop 1 ws)) next in
    omega arith

-- each word of requests that was taken is obeyed once, or not yet
pub obeyed_each : (first : Opening) (h : Journal) → Conducted first h → count_by obeys h + length (unobeyed_of h) ≡ count_by takes_requests h
obeyed_each first [] c = refl
obeyed_each first (at_port (took_exec word) ∷ h) c = on_taken word h (unobeyed_of h) (asks_reset word) refl (obeyed_each first h c.1)
obeyed_each first (became (on_exec word queued) m ∷ h) c = on_obeyed word queued m h (unobeyed_of h) c.0.1.next (obeyed_each first h c.1)
obeyed_each first (s ∷ h) c = on_neither s h (unobeyed_of h) refl refl (obeyed_each first h c.1)

few_words : (word : Exec) (words : List Exec) (r : Bool) → words ≡ [] → length (cond r words (words ++ word ∷ [])) ≤ 1
few_words word words true none = let e = ap (λ (ws : List Exec). length ws) none in omega arith
few_words word words false none = let e = ap (λ (ws : List Exec). length (ws ++ word ∷ [])) none in omega arith

-- one at most is not obeyed
pub one_unobeyed : (first : Opening) (h : Journal) → Conducted first h → length (unobeyed_of h) ≤ 1
one_unobeyed first [] c = omega arith
one_unobeyed first (at_port (took_exec word) ∷ h) c = few_words word (unobeyed_of h) (asks_reset word) c.0.obeyed
one_unobeyed first (became (on_exec word queued) m ∷ h) c = let e = ap (λ (ws : List Exec). length (drop 1 ws)) c.0.1.next in omega arith
one_unobeyed first (_ ∷ h) c = one_unobeyed first h c.1

-- and between two turns only where a report is owed
pub obeyed_between : (first : Opening) (h : Journal) → Conducted first h → this_turn h ≡ [] → owes_report h ≡ false → unobeyed_of h ≡ []
obeyed_between first [] c between unowed = refl
obeyed_between first (turned Did ∷ h) c between unowed = c.0.obeyed unowed
obeyed_between first (turned (Wait o) ∷ h) c between unowed = c.0.obeyed
obeyed_between first (turned Done ∷ h) c between unowed = obeyed_between first h c.1 c.0.still unowed
obeyed_between first (_ ∷ h) c between unowed = absurd cc

changed_in : (first : Opening) (t : Turn) (h : Journal) → MayTurn first t h → count_by replans (this_turn h) ≡ count_by takes_changes (this_turn h)
changed_in first Did h may = may.changed
changed_in first (Wait o) h may = may.ends.changed
changed_in first Done h may = rw may.still refl

-- for each word that changes overrides the plan is made anew
pub changed_each : (first : Opening) (h : Journal) → Conducted first h → this_turn h ≡ [] → count_by replans h ≡ count_by takes_changes h
changed_each first = as_often replans takes_changes first (record { left = λ t. refl; right = λ t. refl; each = changed_in first })
