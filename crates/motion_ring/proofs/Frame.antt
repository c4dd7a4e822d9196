-- What a step of one seat leaves to the other.
use Rattle.std.proofs.Common.{◌≡◌, ℕ, ◌+◌, ◌≤◌, ◌⊎◌, Bool, true, List, ◌∷◌, length, get_or, set, refl, sym, ◌∙◌, subst, arith}
use Rattle.std.proofs.lemmas.List.{set-get_or}
use Rattle.std.specs.declared.option.Option.{Option}
use mathlib.Core.Option.{some}
use lib.ListN.{get_elem?}
use Rattle.atomic_table.specs.Table.{State, Me, Act, Valid, stepped, carried_after}
use Rattle.shared_rings.proofs.Rights as rights
use Rattle.step_line.specs.declared.Piece.{Piece}
use Rattle.motion_ring.specs.declared.view.MotionSight.{MotionSight}
use Rattle.motion_ring.specs.declared.lists.Sent.{Sent}
use Rattle.motion_ring.specs.declared.lists.Taken.{Taken}
use Rattle.motion_ring.specs.Sides.{last_stop}
use Rattle.motion_ring.specs.Rule.{Kept, Flows, Publishes, Gets, AreWords}
use Rattle.motion_ring.proofs.Flows.{Homes}

abbrev pub Hand : Type 0
Hand = List (ℕ × Option Piece)

abbrev pub may_publish : MotionSight → Bool
may_publish v = v.may_publish

abbrev pub may_get : MotionSight → Bool
may_get v = v.may_get

abbrev pub after : List ℕ → Homes → List MotionSight → ℕ → MotionSight → State (Option Piece) MotionSight
after words homes views id w = record { words = words; homes = homes; views = set views id w }

abbrev pub Way : State (Option Piece) MotionSight → ℕ → Hand → ℕ → ℕ → (ℕ → Me (Option Piece) MotionSight → Type 0) → Type 0
Way s id c i n then = (w : MotionSight) × (a : Act (Option Piece)) × Valid s.homes c a × Kept (stepped s i n id c w a) × then n (w, carried_after c a)

pub loads : (s : State (Option Piece) MotionSight) (i : ℕ) (homes : Homes) (id : ℕ) (w : MotionSight) → Kept (after s.words homes s.views id w) → Kept (after (set s.words i (get_or s.words i 0)) homes s.views id w)
loads s i homes id w k = let Q : List ℕ → Type 0 = λ ws. Kept (after ws homes s.views id w) in subst Q (sym (set-get_or s.words i 0)) k

module _ (s : State (Option Piece) MotionSight) (k : Kept s) (id : ℕ) (v : MotionSight) (at : get_elem? s.views id ≡ some v) where
  -- what the seat that publishes knows is so
  pub own_publishing : v.may_publish ≡ true → (id ≡ k.publisher) × Publishes k.sent k.filling k.taken.counted v
  own_publishing mine = k.publishing id v at mine

  pub sent_flows : v.may_publish ≡ true → Flows s.homes v.sent k.taken k.dropping k.finished_of v.filling k.busy
  sent_flows mine = let p = own_publishing mine in
      subst (λ b. Flows s.homes v.sent k.taken k.dropping k.finished_of b k.busy) (sym p.1.filling_is)
      (subst (λ (x : Sent). Flows s.homes x k.taken k.dropping k.finished_of k.filling k.busy) (sym p.1.sent_is) k.flows)

  pub sent_words : v.may_publish ≡ true → AreWords s.words v.sent k.taken
  sent_words mine = let p = own_publishing mine in subst (λ (x : Sent). AreWords s.words x k.taken) (sym p.1.sent_is) k.words_are

  -- what the seat that gets knows is so
  pub own_getting : v.may_get ≡ true → (id ≡ k.getter) × Gets k.taken k.dropping k.busy (last_stop k.sent.stops) v
  own_getting mine = k.getting id v at mine

  pub taken_flows : v.may_get ≡ true → Flows s.homes k.sent v.taken v.dropping k.finished_of k.filling v.busy
  taken_flows mine = let g = own_getting mine in
      subst (λ b. Flows s.homes k.sent v.taken v.dropping k.finished_of k.filling b) (sym g.1.busy_is)
      (subst (λ (d : List Piece). Flows s.homes k.sent v.taken d k.finished_of k.filling k.busy) (sym g.1.dropping_is)
      (subst (λ (x : Taken). Flows s.homes k.sent x k.dropping k.finished_of k.filling k.busy) (sym g.1.taken_is) k.flows))

  pub taken_words : v.may_get ≡ true → AreWords s.words k.sent v.taken
  taken_words mine = let g = own_getting mine in subst (λ (x : Taken). AreWords s.words k.sent x) (sym g.1.taken_is) k.words_are

  pub taken_asked : v.may_get ≡ true → (v.asked ≤ length v.taken.past) ⊎ (v.asked ≡ last_stop k.sent.stops)
  taken_asked mine = let g = own_getting mine in subst (λ (x : Taken). (v.asked ≤ length x.past) ⊎ (v.asked ≡ last_stop k.sent.stops)) (sym g.1.taken_is) g.1.asked_is

  -- a step of the seat that publishes
  pub published_by : (w : MotionSight) (words : List ℕ) (homes : Homes) (filling : Bool) → v.may_publish ≡ true → w.may_get ≡ v.may_get
      → w.taken ≡ v.taken → w.dropping ≡ v.dropping → w.busy ≡ v.busy → w.asked ≡ v.asked
      → ((a : ℕ) → (a ≤ length k.taken.past) ⊎ (a ≡ last_stop k.sent.stops) → (a ≤ length k.taken.past) ⊎ (a ≡ last_stop w.sent.stops))
      → AreWords words w.sent k.taken → Flows homes w.sent k.taken k.dropping k.finished_of filling k.busy → Publishes w.sent filling k.taken.counted w
      → Kept (after words homes s.views id w)
  published_by w words homes filling mine gets taken dropping busy asked asks are flows knows =
      let p = own_publishing mine in record {
        sent = w.sent;
        taken = k.taken;
        dropping = k.dropping;
        finished_of = k.finished_of;
        filling = filling;
        busy = k.busy;
        publisher = k.publisher;
        getter = k.getter;
        words_are = are;
        flows = flows;
        publishing = rights.steps_own may_publish s.views k.publisher _ _ id w k.publishing p.0 (λ m. knows);
        getting = rights.steps may_get s.views k.getter _ _ id w k.getting
            (λ m. let g = k.getting id v at (sym gets ∙ m) in
            (g.0, record { taken_is = taken ∙ g.1.taken_is; dropping_is = dropping ∙ g.1.dropping_is; busy_is = busy ∙ g.1.busy_is; asked_is = asks w.asked (subst (λ a. (a ≤ length k.taken.past) ⊎ (a ≡ last_stop k.sent.stops)) (sym asked) g.1.asked_is) }))
            (λ j u apart is g. record { taken_is = g.taken_is; dropping_is = g.dropping_is; busy_is = g.busy_is; asked_is = asks u.asked g.asked_is });
      }

  -- a step of the seat that gets
  pub gotten_by : (w : MotionSight) (words : List ℕ) (homes : Homes) (finished_of : ℕ) → v.may_get ≡ true → w.may_publish ≡ v.may_publish
      → w.sent ≡ v.sent → w.filling ≡ v.filling → w.known ≡ v.known → k.taken.counted ≤ w.taken.counted
      → (w.asked ≤ length w.taken.past) ⊎ (w.asked ≡ last_stop k.sent.stops)
      → AreWords words k.sent w.taken → Flows homes k.sent w.taken w.dropping finished_of k.filling w.busy
      → Kept (after words homes s.views id w)
  gotten_by w words homes finished_of mine publishes sent filling known later asked are flows =
      let g = own_getting mine in record {
        sent = k.sent;
        taken = w.taken;
        dropping = w.dropping;
        finished_of = finished_of;
        filling = k.filling;
        busy = w.busy;
        publisher = k.publisher;
        getter = k.getter;
        words_are = are;
        flows = flows;
        publishing = rights.steps may_publish s.views k.publisher _ _ id w k.publishing
            (λ m. let p = k.publishing id v at (sym publishes ∙ m) in
            (p.0, record { sent_is = sent ∙ p.1.sent_is; filling_is = filling ∙ p.1.filling_is; known_is = (let o = p.1.known_is in omega arith) }))
            (λ j u apart is p. record { sent_is = p.sent_is; filling_is = p.filling_is; known_is = (let o = p.known_is in omega arith) });
        getting = rights.steps_own may_get s.views k.getter _ _ id w k.getting g.0 (λ m. record { taken_is = refl; dropping_is = refl; busy_is = refl; asked_is = asked });
      }
