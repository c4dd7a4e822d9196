-- Actors that have answered Done.
use Rattle.std.proofs.Common.{◌≡◌, ◌≢◌, ◌↔◌, false, refl, sym, subst, ℕ}
use Rattle.outside.specs.declared.Turn.{Turn}
use Rattle.outside.specs.declared.Turn.TheVariants.{Did, Done, Wait}
use Rattle.outside.specs.declared.Actor.{Actor}
use Rattle.outside.specs.declared.Actor.TheVariants as actors
use Rattle.actor_turns.specs.declared.lockstep.Ended.{Ended}
use Rattle.actor_turns.specs.Worlds.{Seen, ActsAlone, IsDone}
use Rattle.actor_turns.specs.Lockstep.{with_end, AreEnded}

-- an actor that is done stays so, whoever takes a turn
stays_done : {N : ℕ} (actor other : Actor) (w w' : Seen N) → ActsAlone actor w w' → (IsDone actor w → w' ≡ w) → IsDone other w → IsDone other w'
stays_done actors.Host actors.Host w w' alone still d = subst (IsDone actors.Host) (sym (still d)) d
stays_done actors.Host actors.Board w w' alone still d = subst (IsDone actors.Board) (sym alone) d
stays_done actors.Host actors.Pulse w w' alone still d = subst (IsDone actors.Pulse) (sym alone) d
stays_done actors.Host actors.Record w w' alone still d = subst (IsDone actors.Record) (sym alone) d
stays_done actors.Board actors.Host w w' alone still d = subst (IsDone actors.Host) (sym alone) d
stays_done actors.Board actors.Board w w' alone still d = subst (IsDone actors.Board) (sym (still d)) d
stays_done actors.Board actors.Pulse w w' alone still d = subst (IsDone actors.Pulse) (sym alone) d
stays_done actors.Board actors.Record w w' alone still d = subst (IsDone actors.Record) (sym alone) d
stays_done actors.Pulse actors.Host w w' alone still d = subst (IsDone actors.Host) (sym alone) d
stays_done actors.Pulse actors.Board w w' alone still d = subst (IsDone actors.Board) (sym alone) d
stays_done actors.Pulse actors.Pulse w w' alone still d = subst (IsDone actors.Pulse) (sym (still d)) d
stays_done actors.Pulse actors.Record w w' alone still d = subst (IsDone actors.Record) (sym alone) d
stays_done actors.Record actors.Host w w' alone still d = subst (IsDone actors.Host) (sym alone) d
stays_done actors.Record actors.Board w w' alone still d = subst (IsDone actors.Board) (sym alone) d
stays_done actors.Record actors.Pulse w w' alone still d = subst (IsDone actors.Pulse) (sym alone) d
stays_done actors.Record actors.Record w w' alone still d = subst (IsDone actors.Record) (sym (still d)) d

pub stay_ended : {N : ℕ} (actor : Actor) (e : Ended) (w w' : Seen N) → ActsAlone actor w w' → (IsDone actor w → w' ≡ w) → AreEnded e w → AreEnded e w'
stay_ended actor e w w' alone still ended = record {
  host = λ yes. stays_done actor actors.Host w w' alone still (ended.host yes);
  board = λ yes. stays_done actor actors.Board w w' alone still (ended.board yes);
  pulse = λ yes. stays_done actor actors.Pulse w w' alone still (ended.pulse yes);
  recorder = λ yes. stays_done actor actors.Record w w' alone still (ended.recorder yes);
}

-- no actor has answered Done
pub none_ended : {N : ℕ} (w : Seen N) → AreEnded (record { host = false; board = false; pulse = false; recorder = false }) w
none_ended w = record { host = λ yes. absurd cc; board = λ yes. absurd cc; pulse = λ yes. absurd cc; recorder = λ yes. absurd cc }

-- one more has
pub ends_too : {N : ℕ} (actor : Actor) (e next : Ended) (w w' : Seen N) → next ≡ with_end actor e → IsDone actor w → ActsAlone actor w w' → (IsDone actor w → w' ≡ w) → AreEnded e w → AreEnded next w'
ends_too actor e next w w' is done alone still ended =
    subst (λ (n : Ended). AreEnded n w') (sym is) (added actor (stays_done actor actor w w' alone still done) (stay_ended actor e w w' alone still ended))
  where
    added : (a : Actor) → IsDone a w' → AreEnded e w' → AreEnded (with_end a e) w'
    added actors.Host done all = record { host = λ yes. done; board = all.board; pulse = all.pulse; recorder = all.recorder }
    added actors.Board done all = record { host = all.host; board = λ yes. done; pulse = all.pulse; recorder = all.recorder }
    added actors.Pulse done all = record { host = all.host; board = all.board; pulse = λ yes. done; recorder = all.recorder }
    added actors.Record done all = record { host = all.host; board = all.board; pulse = all.pulse; recorder = λ yes. done }

-- an actor has answered, Done where it is done
pub learned : {N : ℕ} (actor : Actor) (t : Turn) (e next : Ended) (w w' : Seen N) → (t ≡ Done → next ≡ with_end actor e) → (t ≢ Done → next ≡ e) → ((t ≡ Done) ↔ IsDone actor w) → ActsAlone actor w w' → (IsDone actor w → w' ≡ w)
    → AreEnded e w → AreEnded next w'
learned actor Done e next w w' ends same done alone still was = ends_too actor e next w w' (ends refl) (done.0 refl) alone still was
learned actor Did e next w w' ends same done alone still was = subst (λ (n : Ended). AreEnded n w') (sym (same (λ is. cc))) (stay_ended actor e w w' alone still was)
learned actor (Wait on) e next w w' ends same done alone still was = subst (λ (n : Ended). AreEnded n w') (sym (same (λ is. cc))) (stay_ended actor e w w' alone still was)
