-- Turns one after the other.
use Rattle.std.proofs.Common.{◌≡◌, ℕ, ◌+◌, ◌/◌, ◌^◌, ◌<◌, List, [], ◌∷◌, ◌++◌, length, take, get_or, suc, add-one, refl, ap, ◌∙◌, subst}
use Rattle.std.proofs.Math.Seq.{take-suc}
use Rattle.outside.specs.declared.Actor.{Actor}
use Rattle.outside.specs.declared.Actor.TheVariants as actors
use Rattle.outside.specs.declared.Turn.{Turn}
use Rattle.actor_turns.specs.Worlds.{Seen, History, Devices, Adds, Turns, TurnsOn, RunsOn}
use Rattle.actor_turns.specs.Lockstep.{state_after, number_of, actor_of, state_at, order_from, IsInOrder}

-- one turn more
one_more : {N : ℕ} (schedule : List Actor) (actor : Actor) (t : Turn) (w mid w' : Seen N) (hist between next : History) → Turns schedule w mid hist between → Adds actor t mid w' between next
    → Turns (schedule ++ actor ∷ []) w w' hist next
one_more {N} [] actor t w mid w' hist between next same adds =
    (t, w', next, subst (λ (v : Seen N). Adds actor t v w' hist next) same.0 (subst (λ (h : History). Adds actor t mid w' h next) same.1 adds), (refl, refl))
one_more {N} (a ∷ schedule) actor t w mid w' hist between next turns adds =
    (turns.0, turns.1, turns.2, turns.3, one_more schedule actor t turns.1 mid w' turns.2 between next turns.4 adds)

-- no turn
pub runs_nothing : {N : ℕ} (now : Devices) (w : Seen N) → RunsOn [] now now w w
runs_nothing now w = record { on = λ form was hist st. (hist, st, (refl, refl)) }

-- the turns of a schedule, and one more
pub runs_more : {N : ℕ} (schedule : List Actor) (actor : Actor) (t : Turn) (before now after : Devices) (w mid w' : Seen N) → RunsOn schedule before now w mid → TurnsOn actor t now after mid w'
    → RunsOn (schedule ++ actor ∷ []) before after w w'
runs_more schedule actor t before now after w mid w' runs turns = record {
  on = λ form was hist st.
      let a = runs.on form was hist st in
      let n = turns.on form was a.0 a.1 in
      (n.0, n.1, one_more schedule actor t w mid w' hist a.0 n.0 a.2 n.2);
}

-- of a schedule, the turns taken so far
pub next_taken : {N : ℕ} (schedule : List Actor) (i : ℕ) (other : Actor) (before after : Devices) (w w' : Seen N) → i < length schedule
    → RunsOn (take i schedule ++ get_or schedule i other ∷ []) before after w w' → RunsOn (take (i + 1) schedule) before after w w'
next_taken schedule i other before after w w' within runs =
    let e : take (suc i) schedule ≡ take i schedule ++ get_or schedule i other ∷ [] = take-suc schedule i other within in rw (add-one, e) runs

-- ---- in the order that a seed gives

actor_is : (a : Actor) (n : ℕ) → number_of a ≡ n → a ≡ actor_of n
actor_is actors.Host n is = ap actor_of is
actor_is actors.Board n is = ap actor_of is
actor_is actors.Pulse n is = ap actor_of is
actor_is actors.Record n is = ap actor_of is

pub order_nothing : {N : ℕ} (seed : ℕ) (now : Devices) (w : Seen N) → IsInOrder seed seed now now w w
order_nothing seed now w = record { order = record { count = 0; runs = runs_nothing now w }; state_is = refl }

pub order_more : {N : ℕ} (seed state next : ℕ) (actor : Actor) (t : Turn) (before now after : Devices) (w mid w' : Seen N) → IsInOrder seed state before now w mid
    → next ≡ state_after state → number_of actor ≡ next / 2 ^ 62 → TurnsOn actor t now after mid w' → IsInOrder seed next before after w w'
order_more seed state next actor t before now after w mid w' so steps chosen turns =
    let n = so.order.count in
    let is : next ≡ state_at seed (suc n) = steps ∙ ap state_after so.state_is in
    let same : actor ≡ actor_of (state_at seed (suc n) / 2 ^ 62) = actor_is actor (next / 2 ^ 62) chosen ∙ ap (λ x. actor_of (x / 2 ^ 62)) is in
    record {
      order = record {
        count = suc n;
        runs = subst (λ a. RunsOn (order_from seed n ++ a ∷ []) before after w w') same (runs_more (order_from seed n) actor t before now after w mid w' so.order.runs turns);
      };
      state_is = is;
    }
