-- The rest that an audit scans behind the lines that are sent, where a line is too long.
use Rattle.std.proofs.Common.{◌≡◌, ℕ, Bool, true, false, cond, List, [], ◌∷◌, ◌++◌, length, nat_lt, refl, sym, ap, ◌∙◌, append-nil, append_assoc, None, Some}
use Rattle.std.specs.declared.option.Option.{Option}
use Rattle.std.specs.List.{AllByRecursion}
use Rattle.std.specs.Option.{is_some, unwrap_or}
use Rattle.run_rules.specs.Readings.{most_sent}
use Rattle.run_texts.specs.Sent.{kept_of}
use Rattle.host_journal.specs.Jobs.{ends_sending}
use Rattle.stream_host.proofs.Pieces.{IsSendable}
use Rattle.audit_rules.specs.Scanned as audits
use Rattle.audited_runs.proofs.Lines.{long_same}

-- behind a front that is not too long
short_on : (before cs more : List ℕ) → is_some (audits.long_front before cs) ≡ false → audits.long_front before (cs ++ more) ≡ audits.long_front (before ++ cs) more
short_on before [] more none = ap (λ (b : List ℕ). audits.long_front b more) (sym (append-nil before))
short_on before (c ∷ cs) more none = by_many (nat_lt most_sent (length (kept_of (before ++ c ∷ [])))) none (short_on (before ++ c ∷ []) cs more) where
  by_many : (t : Bool) → is_some (cond t (Some (before ++ c ∷ [])) (audits.long_front (before ++ c ∷ []) cs)) ≡ false
      → (is_some (audits.long_front (before ++ c ∷ []) cs) ≡ false → audits.long_front (before ++ c ∷ []) (cs ++ more) ≡ audits.long_front ((before ++ c ∷ []) ++ cs) more)
      → cond t (Some (before ++ c ∷ [])) (audits.long_front (before ++ c ∷ []) (cs ++ more)) ≡ audits.long_front (before ++ c ∷ cs) more
  by_many true some on = absurd cc
  by_many false short on = on short ∙ ap (λ (b : List ℕ). audits.long_front b more) (append_assoc before (c ∷ []) cs)

some_of : (t : Bool) (xs : List ℕ) → is_some (cond t (Some xs) None) ≡ t
some_of true xs = refl
some_of false xs = refl

-- no byte is scanned behind the one with which a line is too long
pub long_at : (front : List ℕ) (byte : ℕ) (more : List ℕ) → ends_sending front ≡ false → ends_sending (front ++ byte ∷ []) ≡ true → audits.scanned_of ((front ++ byte ∷ []) ++ more) ≡ front ++ byte ∷ []
long_at front byte more short long =
    let whole = front ++ byte ∷ [] in
    let many = nat_lt most_sent (length (kept_of whole)) in
    let first = short_on [] front (byte ∷ []) (long_same front ∙ short) in
    let is_many : many ≡ true = sym (ap is_some first ∙ some_of many whole) ∙ long_same whole ∙ long in
    let found : audits.long_front [] (whole ++ more) ≡ Some whole =
    ap (audits.long_front []) (append_assoc front (byte ∷ []) more) ∙ short_on [] front (byte ∷ more) (long_same front ∙ short)
    ∙ ap (λ (t : Bool). cond t (Some whole) (audits.long_front whole more)) is_many in
    ap (λ (o : Option (List ℕ)). unwrap_or o (whole ++ more)) found

-- of lines of which one is too long
pub up_rest : (lines : List (List ℕ)) (line : List ℕ) (later : List (List ℕ)) (rest : List ℕ) → AllByRecursion IsSendable lines → ends_sending line ≡ true
    → (audits.up_to_long (lines ++ line ∷ later) rest).rest ≡ audits.scanned_of line
up_rest [] line later rest short long =
    ap (λ (t : Bool). (cond t (record { lines = []; rest = audits.scanned_of line }) (audits.onto_lines line (audits.up_to_long later rest))).rest) (long_same line ∙ long)
up_rest (l ∷ ls) line later rest short long =
    ap (λ (t : Bool). (cond t (record { lines = []; rest = audits.scanned_of l }) (audits.onto_lines l (audits.up_to_long (ls ++ line ∷ later) rest))).rest) (long_same l ∙ short.0)
    ∙ up_rest ls line later rest short.1 long

-- of lines of which none is
pub up_open : (lines : List (List ℕ)) (rest : List ℕ) → AllByRecursion IsSendable lines → (audits.up_to_long lines rest).rest ≡ audits.scanned_of rest
up_open [] rest short = refl
up_open (l ∷ ls) rest short =
    ap (λ (t : Bool). (cond t (record { lines = []; rest = audits.scanned_of l }) (audits.onto_lines l (audits.up_to_long ls rest))).rest) (long_same l ∙ short.0) ∙ up_open ls rest short.1
