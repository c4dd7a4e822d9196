-- How many lines of a job are told.
use Rattle.std.proofs.Common.{◌≡◌, ◌≤◌, ◌+◌, ℕ, zero, suc, Bool, true, false, List, [], ◌∷◌, ◌++◌, append_assoc, append-nil, length, replicate, None, Some, sym, refl, ap, ◌∙◌, arith}
use Rattle.std.specs.declared.option.Option.{Option}
use Rattle.std.specs.List.{flat_map}
use Rattle.outside.specs.Causes.{SourceState}
use Rattle.run_rules.specs.Readings.{largest_job}
use Rattle.run_texts.specs.Sent.{Sent, kept_of, resets_of, sent_by}
use Rattle.run_texts.specs.Sent.Sent.{a_text, a_stop}
use Rattle.audit_rules.specs.Scanned.{scanned, sent_in}
use Rattle.audit_course.specs.SoFar.{texts_among}
use Rattle.audit_texts.specs.SoFar.{JobSoFar, stops_of, untold_of}
use Rattle.audit_texts.specs.declared.sending.Sending.{Sending}
use Rattle.audit_readers.proofs.Sizes.{scanned_few}

pub no_text : (n : ℕ) (more : List Sent) → texts_among (replicate n a_stop ++ more) ≡ texts_among more
no_text zero more = refl
no_text (suc n) more = no_text n more

pub texts_of : (lines : List (List ℕ)) (more : List Sent) → texts_among (flat_map sent_by lines ++ more) ≡ length lines + texts_among more
texts_of [] more = omega arith
texts_of (l ∷ ls) more =
    let first : texts_among (flat_map sent_by (l ∷ ls) ++ more) ≡ texts_among (flat_map sent_by ls ++ more) + 1 =
    ap texts_among (append_assoc (sent_by l) (flat_map sent_by ls) more ∙ append_assoc (replicate (resets_of l) a_stop) (a_text (kept_of l) ∷ []) (flat_map sent_by ls ++ more))
    ∙ no_text (resets_of l) (a_text (kept_of l) ∷ (flat_map sent_by ls ++ more)) in
    let rest = texts_of ls more in
    omega (arith, first, rest)

-- resets alone
stops_alone : (n : ℕ) → texts_among (replicate n a_stop) ≡ 0
stops_alone n = ap texts_among (sym (append-nil (replicate n a_stop))) ∙ no_text n []

no_texts : (last : Option ℕ) (over : Bool) (rest : List ℕ) → texts_among (stops_of last over rest) ≡ 0
no_texts None false rest = refl
no_texts None true rest = stops_alone (resets_of rest)
no_texts (Some k) over rest = refl

-- the lines that were read are those that are told, and the one that waits
pub lines_are : (s : Sending) (source : SourceState) (text : List ℕ) (told : List Sent) → JobSoFar s source text told → texts_among (told ++ untold_of s) ≡ s.lines
lines_are s source text told j =
    let all : texts_among (told ++ untold_of s) ≡ length j.lines + texts_among (stops_of s.last s.over j.left.rest) = ap texts_among j.told_are ∙ texts_of j.lines (stops_of s.last s.over j.left.rest) in
    let none = no_texts s.last s.over j.left.rest in
    let count = j.count in
    omega (arith, all, none, count)

-- each line that is sent has a byte
pub sent_few_texts : (text : List ℕ) → texts_among (sent_in text) ≤ largest_job
sent_few_texts text =
    let all = texts_of (scanned text).lines (replicate (resets_of (scanned text).rest) a_stop) in
    let none = stops_alone (resets_of (scanned text).rest) in
    let few = scanned_few text in
    omega (arith, all, none, few)
