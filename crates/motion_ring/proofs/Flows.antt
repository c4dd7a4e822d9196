-- The pieces, the ticks and the slots through each step.
use Rattle.std.proofs.Common.{◌≡◌, ◌≢◌, ℕ, zero, suc, ◌+◌, ◌-◌, ◌%◌, ◌^◌, ◌<◌, ◌≤◌, ◌⊎◌, Bool, true, false, List, [], ◌∷◌, ◌++◌, length, drop, map, replicate, set, cond, nat_eq, Some, None, sym, refl, ap, ◌∙◌, subst, inl, inr, ⊎_elim, arith, append_assoc, length-append, lt_of_not-le}
use Rattle.std.proofs.lemmas.List.{length-map}
use Rattle.std.specs.declared.option.Option.{Option}
use Rattle.units.specs.Truths.{one_if}
use mathlib.Core.Option.{none, some}
use mathlib.Core.Option as maybe
use native.Mathlib.Decide.{dec_le}
use Rattle.shared_rings.specs.Placed.{placed}
use Rattle.shared_rings.specs.Shelf.{Shelf}
use Rattle.shared_rings.proofs.Placed.{placed_here, by_bool, same_number}
use Rattle.shared_rings.proofs.Shelf as shelves
use Rattle.step_line.specs.declared.Piece.{Piece}
use Rattle.step_line.specs.declared.Piece.TheVariants as pieces
use Rattle.step_line.specs.Ordering.{ComesNext, InTurn, has_ended}
use Rattle.step_line.specs.Finishing.{tick_count, ticks_together}
use Rattle.step_line.proofs.Finished.{together}
use Rattle.motion_ring.specs.declared.lists.Halt.{Halt}
use Rattle.motion_ring.specs.declared.lists.Sent.{Sent}
use Rattle.motion_ring.specs.declared.lists.Taken.{Taken}
use Rattle.motion_ring.specs.declared.lists.Passed.TheVariants.{Dropped}
use Rattle.motion_ring.specs.Sides.{published_in, ticks_at, last_stop, ticks_published, room_from, MayPublish, MayStop, with_piece, with_stop, with_halt, halt_of, piece_of, all_passed, passed_in, fates, with_got, with_tick, halted_with, some_stops, some_halts, pieces_at}
use Rattle.motion_ring.specs.Rule.{Flows, Phase, IsGoing, IsRunning, IsStopping, IsHalted, none_sent, none_taken}
use Rattle.motion_ring.proofs.Ticks.{of_suffix, going_before, fewer_further, got_among, got_below, has_tick}
use Rattle.motion_ring.proofs.Sides.{some_kept, none_kept, HasLeft, halted_pieces, halted_count, halted_ticks, halted_cuts, last_of, moved_over, going_since, none_of}

abbrev pub Homes : Type 0
Homes = List (maybe.Option (Option Piece))

left_within : (fresh : List Piece) (all counted left : ℕ) (busy : Bool) → counted + left ≡ all + ticks_together fresh → all + ticks_together (drop (one_if busy) fresh) ≤ counted → (busy ≡ false → left ≡ 0) → HasLeft fresh left
left_within fresh all counted left false d past idle = none_left fresh (idle refl)
  where
    none_left : (fresh : List Piece) → left ≡ 0 → HasLeft fresh left
    none_left [] e = e
    none_left (p ∷ ps) e = omega arith
left_within [] all counted left true d past idle = omega arith
left_within (p ∷ ps) all counted left true d past idle = let t = together p ps in omega arith

placed_in : (rest got : List Piece) (p : Piece) → placed (rest ++ p ∷ got) (length got) ≡ some p
placed_in [] got p = placed_here got p
placed_in (q ∷ rest) got p =
    let l = length-append rest (p ∷ got) in
    by_bool (nat_eq (length got) (length (rest ++ p ∷ got)))
    (λ t. absurd (let e = same_number (length got) (length (rest ++ p ∷ got)) t in omega arith))
    (λ f. ap (λ b. cond b (some q) (placed (rest ++ p ∷ got) (length got))) f ∙ placed_in rest got p)

dropped : (n : ℕ) (sent rest got : List Piece) → sent ≡ rest ++ got → length rest ≤ n → drop n sent ≡ drop (n - length rest) got
dropped n sent [] got e le = ap (drop n) e ∙ ap (λ m. drop m got) (let z : n ≡ n - 0 = omega arith in z)
dropped zero sent (p ∷ rest) got e le = absurd (omega arith)
dropped (suc n) sent (p ∷ rest) got e le = ap (drop (suc n)) e ∙ (dropped n (rest ++ got) rest got refl (omega arith) ∙ ap (λ m. drop m got) (let z : n - length rest ≡ suc n - length (p ∷ rest) = omega arith in z))

ended_before : (fresh behind : List Piece) → 0 < length fresh → has_ended fresh ≡ false → has_ended (fresh ++ behind) ≡ false
ended_before [] behind lt e = absurd (omega arith)
ended_before (pieces.Segment s ∷ fresh) behind lt e = refl
ended_before (pieces.Mark m ∷ fresh) behind lt e = refl
ended_before (pieces.End ∷ fresh) behind lt e = e

module _ (homes : Homes) (sent : Sent) (taken : Taken) (dropping : List Piece) (finished : ℕ) (filling busy : Bool) (f : Flows homes sent taken dropping finished filling busy) where
  pub long : length (published_in sent) ≡ length f.rest + (length dropping + length (passed_in taken))
  long = ap length f.fifo ∙ (let a = length-append f.rest (dropping ++ passed_in taken) in let b = length-append dropping (passed_in taken) in omega arith)

  pub passed_long : length (passed_in taken) ≡ length taken.fresh + length taken.past
  passed_long = let a = length-append taken.fresh (map piece_of taken.past) in let b = length-map taken.past piece_of in omega arith

  pub has_left : HasLeft taken.fresh taken.left
  has_left = left_within taken.fresh (all_passed taken.past) taken.counted taken.left busy f.done f.past f.idle

  pub none_left : taken.fresh ≡ [] → taken.left ≡ 0
  none_left e = subst (λ (l : List Piece). HasLeft l taken.left) e has_left

  -- no halt is unseen
  module _ (g : IsGoing sent taken dropping f.rest) where
    pub unseen : sent.since ≡ (f.rest ++ dropping) ++ taken.fresh
    unseen = g.since_is ∙ sym (append_assoc f.rest dropping taken.fresh)

    pub going_within : taken.counted ≤ ticks_published sent
    going_within = let d = f.done in let a = got_among 0 (f.rest ++ dropping) taken.fresh (omega arith) in let e = ap ticks_together unseen in let b = g.base in omega arith

    pub going_late : ticks_at sent.halts + ticks_together (drop 5 sent.since) ≤ taken.counted
    going_late =
        let l = long in let h = f.held in let few = f.few in let n = length-append f.rest dropping in
        let le : one_if busy ≤ 5 - length (f.rest ++ dropping) = omega arith in
        let e = ap ticks_together (dropped 5 sent.since (f.rest ++ dropping) taken.fresh unseen (omega arith)) in
        let far = fewer_further (5 - length (f.rest ++ dropping)) (one_if busy) taken.fresh le in
        let p = f.past in let b = g.base in omega arith

  -- the done count is at most the ticks published, and at least those of all but the last five pieces
  pub done_within : taken.counted ≤ ticks_published sent
  done_within = ⊎_elim (λ r. going_within r.going) (λ o. ⊎_elim (λ s. going_within s.going) (λ h. h.within) o) f.phase

  pub done_late : ticks_at sent.halts + ticks_together (drop 5 sent.since) ≤ taken.counted
  done_late = ⊎_elim (λ r. going_late r.going) (λ o. ⊎_elim (λ s. going_late s.going) (λ h. h.late) o) f.phase

  -- where all ticks but those of the last four pieces are done, there is room
  pub has_room : IsRunning sent taken dropping f.rest → has_ended (published_in sent) ≡ false → room_from sent ≤ taken.counted → length (published_in sent) < finished + 5
  has_room r going enough = go (dec_le (finished + 5) (length (published_in sent)))
    where
      whole : sent.since ≡ f.rest ++ taken.fresh
      whole = r.going.since_is ∙ ap (λ (l : List Piece). f.rest ++ (l ++ taken.fresh)) r.none_dropped

      turns : InTurn (f.rest ++ taken.fresh)
      turns = subst InTurn whole f.turns

      still : has_ended (f.rest ++ taken.fresh) ≡ false
      still = ap has_ended (sym whole) ∙ going_since sent.since sent.older going

      four : ticks_at sent.halts + ticks_together (drop 4 (f.rest ++ taken.fresh)) ≤ taken.counted
      four = subst (λ (l : List Piece). ticks_at sent.halts + ticks_together (drop 4 l) ≤ taken.counted) whole enough

      full : finished + 5 ≤ length (published_in sent) → (b : Bool) → busy ≡ b → length (published_in sent) < finished + 5
      full d true e = absurd (
          let h : length (passed_in taken) ≡ finished + 1 = f.held ∙ ap (λ (c : Bool). finished + one_if c) e in
          let l = long in
          let z = ap length r.none_dropped in
          let a = got_among 4 f.rest taken.fresh (omega arith) in
          let done = f.done in
          let b = r.going.base in
          let four = four in
          ⊎_elim (λ some_left. omega arith) (λ ended. let g : has_ended taken.fresh ≡ false = going_before f.rest taken.fresh turns (omega arith) in let x : true ≡ false = sym ended ∙ g in cc) (f.at_work e))
      full d false e = absurd (
          let h : length (passed_in taken) ≡ finished + 0 = f.held ∙ ap (λ (c : Bool). finished + one_if c) e in
          let l = long in
          let z = ap length r.none_dropped in
          let a = got_below 4 f.rest taken.fresh (omega arith) turns still in
          let done = f.done in
          let b = r.going.base in
          let nothing = f.idle e in
          let four = four in omega arith)

      go : Dec (finished + 5 ≤ length (published_in sent)) → length (published_in sent) < finished + 5
      go (yes d) = full d busy refl
      go (no d) = lt_of_not-le d

  -- the next slot goes out to be filled
  pub reached_flows : filling ≡ false → length (published_in sent) < finished + 5 → Flows (set homes (length (published_in sent) % 6) none) sent taken dropping finished true busy
  reached_flows empty room = record {
    rest = f.rest;
    fifo = f.fifo;
    turns = f.turns;
    ended = f.ended;
    cuts = f.cuts;
    marks = f.marks;
    shelf = shelves.reach 6 homes (published_in sent) (dropping ++ passed_in taken) finished (subst (λ b. Shelf 6 homes (published_in sent) (dropping ++ passed_in taken) finished b) empty f.shelf) (omega arith);
    held = f.held;
    few = f.few;
    room = λ e. room;
    short = f.short;
    count = f.count;
    done = f.done;
    past = f.past;
    idle = f.idle;
    at_work = f.at_work;
    phase = f.phase;
  }

  pub published_flows : filling ≡ true → IsRunning sent taken dropping f.rest → (p : Piece) → MayPublish sent p
      → Flows (set homes (length (published_in sent) % 6) (some (Some p))) (with_piece sent p) taken dropping finished false busy
  published_flows out r p may =
      let room = f.room out in
      let g = r.going in record {
        rest = p ∷ f.rest;
        fifo = ap (λ (l : List Piece). p ∷ l) f.fifo;
        turns = (record { going = going_since sent.since sent.older may.going; follows = may.follows }, f.turns);
        ended = λ e. absurd (let z = ap (λ (l : List Piece). has_ended (l ++ sent.older)) (f.ended e) in let x : true ≡ false = sym e ∙ (sym z ∙ may.going) in cc);
        cuts = f.cuts;
        marks = f.marks;
        shelf = shelves.fill 6 homes (published_in sent) (dropping ++ passed_in taken) finished p (subst (λ b. Shelf 6 homes (published_in sent) (dropping ++ passed_in taken) finished b) out f.shelf);
        held = f.held;
        few = omega arith;
        room = λ e. absurd cc;
        short = (let t = together p sent.since in let few = may.few in omega arith);
        count = (let c = may.room in omega arith);
        done = f.done;
        past = f.past;
        idle = f.idle;
        at_work = f.at_work;
        phase = inl (record { going = record { older_is = g.older_is; since_is = ap (λ (l : List Piece). p ∷ l) g.since_is; base = g.base; loads = g.loads }; none_waits = r.none_waits; even = r.even; none_dropped = r.none_dropped; asks = r.asks });
      }

  -- a stop is stored
  pub stopped_phase : IsRunning sent taken dropping f.rest → MayStop sent → Phase (with_stop sent) taken dropping f.rest
  stopped_phase r may = go (dec_le (length (published_in sent)) (length taken.past))
    where
      older_long : length sent.older ≡ length taken.past
      older_long = ap length r.going.older_is ∙ length-map taken.past piece_of

      both : length (published_in sent) ≡ length sent.since + length sent.older
      both = length-append sent.since sent.older

      going : IsGoing (with_stop sent) taken dropping f.rest
      going = record { older_is = r.going.older_is; since_is = r.going.since_is; base = r.going.base; loads = r.going.loads }

      none_before : length (published_in sent) ≤ length taken.past → length (published_in sent) ≡ 0
      none_before le = let o = older_long in let b = both in ⊎_elim
          (λ e. let z = ap last_stop e in let even = r.even in omega arith)
          (λ lt. absurd (omega arith)) may.since_last

      go : Dec (length (published_in sent) ≤ length taken.past) → Phase (with_stop sent) taken dropping f.rest
      go (no d) =
          let lt : length taken.past < length (published_in sent) = lt_of_not-le d in
          inr (inl (record {
            going = going;
            one_waits = refl;
            above = lt;
            at_head = refl;
            asks = some_kept (length (published_in sent)) (length (published_in sent)) (some_stops sent.stops) (omega arith) ∙ ap (λ (l : List ℕ). length (published_in sent) ∷ l) r.asks;
          }))
      go (yes d) =
          let z = none_before d in
          let l = long in
          let pl = passed_long in
          inr (inr (record {
            one_waits = refl;
            even = (let o = older_long in let b = both in omega arith);
            at_head = refl;
            none_fresh = none_of taken.fresh (omega arith);
            none_dropped = r.none_dropped;
            within = going_within r.going;
            late = going_late r.going;
            loads = none_kept (length (published_in sent)) (halt_of sent taken.counted) (some_halts sent.halts) z ∙ r.going.loads;
            asks = none_kept (length (published_in sent)) (length (published_in sent)) (some_stops sent.stops) z ∙ r.asks;
          }))

  pub stopped_flows : IsRunning sent taken dropping f.rest → MayStop sent → Flows homes (with_stop sent) taken dropping finished filling busy
  stopped_flows r may = record {
    rest = f.rest;
    fifo = f.fifo;
    turns = f.turns;
    ended = f.ended;
    cuts = f.cuts;
    marks = f.marks;
    shelf = f.shelf;
    held = f.held;
    few = f.few;
    room = f.room;
    short = f.short;
    count = f.count;
    done = f.done;
    past = f.past;
    idle = f.idle;
    at_work = f.at_work;
    phase = stopped_phase r may;
  }

  -- the halt is seen
  pub heeded_flows : IsHalted sent taken dropping → Flows homes (with_halt sent taken.counted) taken dropping finished filling busy
  heeded_flows h =
      let l = long in
      let pl = passed_long in
      let even = h.even in
      let at_head = h.at_head in
      let none_more : f.rest ≡ [] = none_of f.rest (omega arith) in
      let left = none_left h.none_fresh in
      let t = ap ticks_together h.none_fresh in
      let d = f.done in
      let all : taken.counted ≡ all_passed taken.past = omega arith in record {
        rest = [];
        fifo = f.fifo ∙ ap (λ (l : List Piece). l ++ (dropping ++ passed_in taken)) none_more;
        turns = tt;
        ended = λ e. refl;
        cuts = f.cuts;
        marks = f.marks;
        shelf = f.shelf;
        held = f.held;
        few = f.few;
        room = f.room;
        short = (let w = h.within in let s = f.short in omega arith);
        count = f.count;
        done = f.done;
        past = f.past;
        idle = f.idle;
        at_work = f.at_work;
        phase = inl (record {
          going = record {
            older_is = f.fifo ∙ (λ i. none_more i ++ (h.none_dropped i ++ (h.none_fresh i ++ map piece_of taken.past)));
            since_is = sym (λ i. h.none_dropped i ++ h.none_fresh i);
            base = all;
            loads = h.loads;
          };
          none_waits = refl;
          even = h.even;
          none_dropped = h.none_dropped;
          asks = h.asks;
        });
      }

  -- a tick
  ticked_phase : (t : Taken) → 0 < taken.left → t.past ≡ taken.past → t.fresh ≡ taken.fresh → t.halts ≡ taken.halts → Phase sent t dropping f.rest
  ticked_phase t some_left past fresh halts = ⊎_elim
      (λ r. inl (record { going = again r.going; none_waits = r.none_waits; even = r.even ∙ sym (ap length past); none_dropped = r.none_dropped; asks = r.asks ∙ sym (ap (map pieces_at) halts) }))
      (λ o. ⊎_elim
      (λ s. inr (inl (record { going = again s.going; one_waits = s.one_waits; above = (let a = s.above in let e = ap length past in omega arith); at_head = s.at_head; asks = s.asks ∙ sym (ap (λ (l : List Halt). last_stop sent.stops ∷ map pieces_at l) halts) })))
      (λ h. absurd (let z = none_left h.none_fresh in omega arith)) o) f.phase
    where
      again : IsGoing sent taken dropping f.rest → IsGoing sent t dropping f.rest
      again g = record {
        older_is = g.older_is ∙ sym (ap (map piece_of) past);
        since_is = g.since_is ∙ sym (ap (λ (l : List Piece). f.rest ++ (dropping ++ l)) fresh);
        base = g.base ∙ sym (ap all_passed past);
        loads = g.loads ∙ sym halts;
      }

  -- one that is not the last
  pub ticked_flows : 1 < taken.left → Flows homes sent (with_tick taken) dropping finished filling busy
  ticked_flows more = let d = f.done in record {
    rest = f.rest;
    fifo = f.fifo;
    turns = f.turns;
    ended = f.ended;
    cuts = f.cuts;
    marks = f.marks;
    shelf = f.shelf;
    held = f.held;
    few = f.few;
    room = f.room;
    short = f.short;
    count = f.count;
    done = omega arith;
    past = (let p = f.past in omega arith);
    idle = λ e. absurd (let i = f.idle e in omega arith);
    at_work = λ e. inl (omega arith);
    phase = ticked_phase (with_tick taken) (omega arith) refl refl refl;
  }

  -- the last tick of a piece
  pub finished_flows : busy ≡ true → taken.left ≡ 1 → Flows homes sent taken dropping finished filling true → Flows (set homes (finished % 6) (some None)) sent (with_tick taken) dropping (finished + 1) filling false
  finished_flows out last b =
      let d = f.done in
      let held : length (passed_in taken) ≡ finished + 1 = b.held in
      let l = long in
      let n = length-append dropping (passed_in taken) in record {
        rest = f.rest;
        fifo = f.fifo;
        turns = f.turns;
        ended = f.ended;
        cuts = f.cuts;
        marks = f.marks;
        shelf = shelves.give 6 homes (published_in sent) (dropping ++ passed_in taken) finished filling f.shelf (omega arith);
        held = omega arith;
        few = (let e = f.few in omega arith);
        room = λ e. (let r = f.room e in omega arith);
        short = f.short;
        count = f.count;
        done = omega arith;
        past = omega arith;
        idle = λ e. omega arith;
        at_work = λ e. absurd cc;
        phase = ticked_phase (with_tick taken) (omega arith) refl refl refl;
      }

  -- no halt is unseen where a piece is there that was not passed
  pub goes_on : length dropping + length (passed_in taken) < length (published_in sent) → IsGoing sent taken dropping f.rest
  goes_on more = ⊎_elim (λ r. r.going) (λ o. ⊎_elim (λ s. s.going) (λ h. absurd (let l = passed_long in let e = h.even in let a = h.at_head in let z = ap length h.none_dropped in omega arith)) o) f.phase

-- the next piece is got
module _ (homes : Homes) (sent : Sent) (taken : Taken) (finished : ℕ) (filling busy : Bool) (f : Flows homes sent taken [] finished filling busy) (none_left : taken.left ≡ 0) (more : length (passed_in taken) < length (published_in sent)) where
  abbrev last : (front : List Piece) × (p : Piece) × (f.rest ≡ front ++ p ∷ [])
  last = last_of f.rest (let l = long homes sent taken [] finished filling busy f in omega arith)

  abbrev pub next : Piece
  next = last.1

  on : IsGoing sent taken [] f.rest
  on = goes_on homes sent taken [] finished filling busy f (omega arith)

  since_next : sent.since ≡ last.0 ++ next ∷ taken.fresh
  since_next = on.since_is ∙ moved_over f.rest last.0 next taken.fresh last.2

  all_next : published_in sent ≡ last.0 ++ next ∷ passed_in taken
  all_next = f.fifo ∙ moved_over f.rest last.0 next (passed_in taken) last.2

  pub there : placed (published_in sent) (length (passed_in taken)) ≡ some next
  there = ap (λ (l : List Piece). placed l (length (passed_in taken))) all_next ∙ placed_in last.0 (passed_in taken) next

  pub comes : ComesNext taken.fresh next
  comes = (of_suffix last.0 (next ∷ taken.fresh) (subst InTurn since_next f.turns)).0

  pub none_ended : has_ended (passed_in taken) ≡ false
  none_ended = go (dec_le (length taken.fresh) 0)
    where
      older : has_ended sent.older ≡ false
      older = by_bool (has_ended sent.older) (λ t. absurd (let e = ap length (sym since_next ∙ f.ended t) in let l = length-append last.0 (next ∷ taken.fresh) in omega arith)) (λ e. e)

      go : Dec (length taken.fresh ≤ 0) → has_ended (passed_in taken) ≡ false
      go (yes d) = ap (λ (l : List Piece). has_ended (l ++ map piece_of taken.past)) (none_of taken.fresh (omega arith)) ∙ (ap has_ended (sym on.older_is) ∙ older)
      go (no d) = ended_before taken.fresh (map piece_of taken.past) (lt_of_not-le d) comes.going

  -- with every tick counted, and a piece to come, no slot is out
  pub next_idle : busy ≡ false
  next_idle = by_bool busy
      (λ t. absurd (⊎_elim (λ some_left. omega arith) (λ ended. let x : true ≡ false = sym ended ∙ comes.going in cc) (f.at_work t)))
      (λ e. e)

  pub next_short : taken.counted + tick_count next < 2 ^ 62
  next_short = let a = got_among 0 last.0 (next ∷ taken.fresh) (omega arith) in let t = together next taken.fresh in let s = f.short in let x = ap ticks_together since_next in let d = f.done in let b = on.base in omega arith

  again : IsGoing sent (with_got taken next) [] last.0
  again = record { older_is = on.older_is; since_is = since_next; base = on.base; loads = on.loads }

  phase_next : Phase sent (with_got taken next) [] last.0
  phase_next = ⊎_elim
      (λ r. inl (record { going = again; none_waits = r.none_waits; even = r.even; none_dropped = refl; asks = r.asks }))
      (λ o. ⊎_elim
      (λ s. inr (inl (record { going = again; one_waits = s.one_waits; above = s.above; at_head = s.at_head; asks = s.asks })))
      (λ h. absurd (let l = passed_long homes sent taken [] finished filling busy f in let e = h.even in let a = h.at_head in omega arith)) o) f.phase

  some_or_end : (h : List Piece) (p : Piece) → ComesNext h p → (0 < tick_count p) ⊎ (has_ended (p ∷ h) ≡ true)
  some_or_end h p next = by_bool (has_ended (p ∷ h)) (λ ended. inr ended) (λ going. inl (has_tick h p next going))

  pub grasped_flows : Flows (set homes (length (passed_in taken) % 6) none) sent (with_got taken next) [] finished filling true
  grasped_flows =
      let t = together next taken.fresh in
      let d = f.done in
      let held : length (passed_in taken) ≡ finished + 0 = f.held ∙ ap (λ (b : Bool). finished + one_if b) next_idle in record {
        rest = last.0;
        fifo = all_next;
        turns = f.turns;
        ended = f.ended;
        cuts = f.cuts;
        marks = f.marks;
        shelf = shelves.grasp 6 homes (published_in sent) (passed_in taken) finished filling next f.shelf there;
        held = omega arith;
        few = f.few;
        room = f.room;
        short = f.short;
        count = f.count;
        done = omega arith;
        past = omega arith;
        idle = λ x. absurd cc;
        at_work = λ x. some_or_end taken.fresh next comes;
        phase = phase_next;
      }

-- the slots from one on come back empty
abbrev pub given : Homes → ℕ → ℕ → Homes
given homes k zero = homes
given homes k (suc n) = given (set homes (k % 6) (some None)) (k + 1) n

given_shelf : (n : ℕ) (homes : Homes) (sent got : List Piece) (k : ℕ) (filling : Bool) → Shelf 6 homes sent got k filling → k + n ≤ length got → Shelf 6 (given homes k n) sent got (k + n) filling
given_shelf zero homes sent got k filling s le = subst (λ m. Shelf 6 homes sent got m filling) (let e : k ≡ k + 0 = omega arith in e) s
given_shelf (suc n) homes sent got k filling s le = subst (λ m. Shelf 6 (given homes k (suc n)) sent got m filling) (let e : k + 1 + n ≡ k + suc n = omega arith in e)
    (given_shelf n (set homes (k % 6) (some None)) sent got (k + 1) filling (shelves.give 6 homes sent got k filling s (omega arith)) (omega arith))

-- a stop was stored, and no halt for it
module _ (homes : Homes) (sent : Sent) (taken : Taken) (dropping : List Piece) (finished : ℕ) (filling busy : Bool) (f : Flows homes sent taken dropping finished filling busy) (s : IsStopping sent taken dropping f.rest) where
  -- the next piece is taken untraced
  module _ (more : length (dropping ++ passed_in taken) < length (published_in sent)) where
    abbrev last_left : (front : List Piece) × (p : Piece) × (f.rest ≡ front ++ p ∷ [])
    last_left = last_of f.rest (let l = long homes sent taken dropping finished filling busy f in let n = length-append dropping (passed_in taken) in omega arith)

    abbrev pub skipped : Piece
    skipped = last_left.1

    all_left : published_in sent ≡ last_left.0 ++ skipped ∷ (dropping ++ passed_in taken)
    all_left = f.fifo ∙ moved_over f.rest last_left.0 skipped (dropping ++ passed_in taken) last_left.2

    pub skipped_there : placed (published_in sent) (length (dropping ++ passed_in taken)) ≡ some skipped
    skipped_there = ap (λ (l : List Piece). placed l (length (dropping ++ passed_in taken))) all_left ∙ placed_in last_left.0 (dropping ++ passed_in taken) skipped

    pub skipped_flows : Flows (set homes (length (dropping ++ passed_in taken) % 6) none) sent taken (skipped ∷ dropping) finished filling busy
    skipped_flows = record {
      rest = last_left.0;
      fifo = all_left;
      turns = f.turns;
      ended = f.ended;
      cuts = f.cuts;
      marks = f.marks;
      shelf = shelves.grasp 6 homes (published_in sent) (dropping ++ passed_in taken) finished filling skipped f.shelf skipped_there;
      held = f.held;
      few = f.few;
      room = f.room;
      short = f.short;
      count = f.count;
      done = f.done;
      past = f.past;
      idle = f.idle;
      at_work = f.at_work;
      phase = inr (inl (record {
        going = record { older_is = s.going.older_is; since_is = s.going.since_is ∙ moved_over f.rest last_left.0 skipped (dropping ++ taken.fresh) last_left.2; base = s.going.base; loads = s.going.loads };
        one_waits = s.one_waits;
        above = s.above;
        at_head = s.at_head;
        asks = s.asks;
      }));
    }

  -- the halt is stored
  module _ (all : length (dropping ++ passed_in taken) ≡ length (published_in sent)) where
    none_more : f.rest ≡ []
    none_more = none_of f.rest (let l = long homes sent taken dropping finished filling busy f in let n = length-append dropping (passed_in taken) in omega arith)

    same : dropping ++ passed_in taken ≡ passed_in (halted_with taken dropping)
    same = sym (halted_pieces dropping taken.fresh taken.left taken.past)

    count_is : length (halted_with taken dropping).past ≡ length dropping + length (passed_in taken)
    count_is = let c = halted_count dropping taken.fresh taken.left taken.past in let p = passed_long homes sent taken dropping finished filling busy f in omega arith

    ticks_are : all_passed (halted_with taken dropping).past ≡ taken.counted
    ticks_are = let t = halted_ticks dropping taken.fresh taken.left taken.past (has_left homes sent taken dropping finished filling busy f) in let d = f.done in omega arith

    long_is : length (published_in sent) ≡ length dropping + length (passed_in taken)
    long_is = let n = length-append dropping (passed_in taken) in omega arith

    pub past_is : length (halted_with taken dropping).past ≡ length (published_in sent)
    past_is = count_is ∙ sym long_is

    halted_phase : IsHalted sent (halted_with taken dropping) []
    halted_phase = record {
      one_waits = s.one_waits;
      even = s.at_head ∙ sym past_is;
      at_head = s.at_head;
      none_fresh = refl;
      none_dropped = refl;
      within = going_within homes sent taken dropping finished filling busy f s.going;
      late = going_late homes sent taken dropping finished filling busy f s.going;
      loads = some_kept (length (published_in sent)) (halt_of sent taken.counted) (some_halts sent.halts) (let a = s.above in let h = s.at_head in omega arith)
          ∙ (λ i. record { pieces = long_is i; done = taken.counted } ∷ s.going.loads i);
      asks = s.asks ∙ (λ i. (s.at_head ∙ long_is) i ∷ map pieces_at taken.halts);
    }

    pub halted_flows : Flows (given homes finished (one_if busy + length dropping)) sent (halted_with taken dropping) [] (finished + (one_if busy + length dropping)) filling false
    halted_flows =
        let h = f.held in
        let c = count_is in
        let l = length-map (halted_with taken dropping).past piece_of in
        let t = ticks_are in
        let n = length-append dropping (passed_in taken) in record {
          rest = [];
          fifo = f.fifo ∙ (ap (λ (l : List Piece). l ++ (dropping ++ passed_in taken)) none_more ∙ same);
          turns = f.turns;
          ended = f.ended;
          cuts = halted_cuts dropping taken.fresh taken.left taken.past (has_left homes sent taken dropping finished filling busy f) f.cuts;
          marks = (map Dropped dropping ++ fates taken.fresh taken.left, taken.past, sym (append_assoc (map Dropped dropping) (fates taken.fresh taken.left) taken.past), count_is, ticks_are, f.marks);
          shelf = subst (λ (l : List Piece). Shelf 6 (given homes finished (one_if busy + length dropping)) (published_in sent) l (finished + (one_if busy + length dropping)) filling) same
              (given_shelf (one_if busy + length dropping) homes (published_in sent) (dropping ++ passed_in taken) finished filling f.shelf (omega arith));
          held = omega arith;
          few = (let e = f.few in omega arith);
          room = λ e. (let r = f.room e in omega arith);
          short = f.short;
          count = f.count;
          done = omega arith;
          past = omega arith;
          idle = λ e. refl;
          at_work = λ e. absurd cc;
          phase = inr (inr halted_phase);
        }

abbrev no_piece : Option Piece
no_piece = None

pub empty_flows : Flows (map maybe.some (replicate 6 no_piece)) none_sent none_taken [] 0 false false
empty_flows = record {
  rest = [];
  fifo = refl;
  turns = tt;
  ended = λ e. absurd cc;
  cuts = tt;
  marks = refl;
  shelf = shelves.empty 6 (omega arith);
  held = refl;
  few = omega arith;
  room = λ e. absurd cc;
  short = omega arith;
  count = omega arith;
  done = refl;
  past = omega arith;
  idle = λ e. refl;
  at_work = λ e. absurd cc;
  phase = inl (record { going = record { older_is = refl; since_is = refl; base = refl; loads = refl }; none_waits = refl; even = refl; none_dropped = refl; asks = refl });
}
