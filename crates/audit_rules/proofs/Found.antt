-- What is found of texts that are not too long.
use Rattle.std.proofs.Common.{◌≡◌, ◌≤◌, ◌<◌, ℕ, ◌+◌, List, ◌∷◌, ◌++◌, length, true, false, arith}
use Rattle.run_texts.specs.Sent.{Sent, kept_of}
use Rattle.audit_rules.specs.declared.Audit.TheVariants as audits
use Rattle.audit_rules.specs.Findings.{Finds, BreaksAt, HasForeign, IsTooLong, is_foreign, foreign_in}
use Rattle.audit_rules.specs.Scanned.{scanned, sent_in}
use Rattle.audit_rules.specs.Telling.{ConsoleStands, HasAlarm, HasBadReply}
use Rattle.audit_rules.proofs.OneAlarm.{one_alarm}

-- no line before the one that raises the alarm does
pub none_earlier : (sent : List Sent) (console steps : List ℕ) (line n : ℕ) → HasAlarm sent console steps n → line ≤ n → (k : ℕ) → k < line → HasAlarm sent console steps k → ⊥
none_earlier sent console steps line n here late k early there = let same = one_alarm sent console steps n k here there in omega (arith, late, early, same)

pub foreign_found : (job console steps : List ℕ) (line : ℕ) (before : List (List ℕ)) (here : List ℕ) (behind : List (List ℕ)) → (IsTooLong console steps → ⊥) → (scanned job).lines ≡ before ++ here ∷ behind → line ≡ length before + 1
    → foreign_in before ≡ false → is_foreign (kept_of here) ≡ true → ((k : ℕ) → k < line → HasAlarm (sent_in job) console steps k → ⊥) → Finds job console steps (audits.Foreign line)
foreign_found job console steps line before here behind short split number first is sent =
    (short, record { before = before; here = here; behind = behind; split = split; number = number; first = first; is = is; sent = sent })

pub bad_found : (job console steps : List ℕ) (line : ℕ) → (IsTooLong console steps → ⊥) → (HasForeign job console steps → ⊥) → HasBadReply (sent_in job) console steps line → Finds job console steps (audits.BadReplies line)
bad_found job console steps line short audited bad = (short, audited, bad)

pub misfit_found : (job console steps : List ℕ) (at : ℕ) → (IsTooLong console steps → ⊥) → (HasForeign job console steps → ⊥) → ConsoleStands (sent_in job) console steps → BreaksAt job console steps at → Finds job console steps (audits.Misfit at)
misfit_found job console steps at short audited stands breaks = (short, audited, stands, breaks)
