-- Words of flags that were taken, and those with which a machine that is held stays so.
use Rattle.std.proofs.Common.{◌≡◌, ◌⊎◌, inl, inr, Bool, true, false, ◌&&◌, ◌||◌, not, ◌↔◌, refl}
use Rattle.std.specs.Prelude.{Some}
use Rattle.code_table.specs.declared.flags.Exec.{Exec}
use Rattle.feed_hold.specs.declared.Motion.TheVariants.{Held}
use Rattle.feed_hold.specs.Motions.{asks, hold_byte, cancel_byte, start_byte, after, after_requests}
use Rattle.feed_hold.specs.Motions.Call.{on_exec}
use Rattle.board_journal.specs.Ports.{asks_reset}
use Rattle.board_journal.specs.Ports.PortStep.{took_exec}
use Rattle.board_journal.specs.Steps.{Journal}
use Rattle.board_journal.specs.Steps.Step.{at_port}
use Rattle.board_rules.specs.Turns.{flags_taken, requests_taken, changes_taken, asks_no_start}

both : (a b : Bool) → (a && b) ≡ true → (a ≡ true) × (b ≡ true)
both true b are = (refl, are)
both false b are = absurd cc

pub both_taken : (h : Journal) → flags_taken h ≡ true → (requests_taken h ≡ true) × (changes_taken h ≡ true)
both_taken h taken = both (requests_taken h) (changes_taken h) taken

stays_by : (hold cancel start queued : Bool) → ((not start || hold) ≡ true) ↔ (Some (after_requests hold cancel start queued Held) ≡ Some Held)
stays_by true true true queued = (λ e. refl, λ e. refl)
stays_by true true false queued = (λ e. refl, λ e. refl)
stays_by true false true queued = (λ e. refl, λ e. refl)
stays_by true false false queued = (λ e. refl, λ e. refl)
stays_by false true true true = (λ e. absurd cc, λ e. absurd cc)
stays_by false true true false = (λ e. absurd cc, λ e. absurd cc)
stays_by false true false queued = (λ e. refl, λ e. refl)
stays_by false false true true = (λ e. absurd cc, λ e. absurd cc)
stays_by false false true false = (λ e. absurd cc, λ e. absurd cc)
stays_by false false false queued = (λ e. refl, λ e. refl)

-- a word that is obeyed lets it stay held if it asks for no start, or for a hold
pub obeyed_stays : (word : Exec) (queued : Bool) → ((not (asks word start_byte) || asks word hold_byte) ≡ true) ↔ (after (on_exec word queued) Held ≡ Some Held)
obeyed_stays word queued = stays_by (asks word hold_byte) (asks word cancel_byte) (asks word start_byte) queued

or_more : (reset stays : Bool) (A : Type 0) → (stays ≡ true) ↔ A → ((reset || stays) ≡ true) ↔ ((reset ≡ true) ⊎ A)
or_more true stays A is = (λ e. inl refl, λ e. refl)
or_more false stays A is = (λ e. inr (is.0 e), from)
  where
    from : (false ≡ true) ⊎ A → stays ≡ true
    from (inl e) = absurd cc
    from (inr a) = is.1 a

-- it stays held where the word asks for a reset, or for no start, or for a hold
pub stays_held : (word : Exec) (queued : Bool) → (asks_no_start (at_port (took_exec word)) ≡ true) ↔ ((asks_reset word ≡ true) ⊎ (after (on_exec word queued) Held ≡ Some Held))
stays_held word queued = or_more (asks_reset word) (not (asks word start_byte) || asks word hold_byte) (after (on_exec word queued) Held ≡ Some Held) (obeyed_stays word queued)
