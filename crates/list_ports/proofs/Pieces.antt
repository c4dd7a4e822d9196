-- What each call makes of the pieces, the stops and the halts, and how many pieces are unfinished.
use Rattle.std.proofs.Common.{◌≡◌, ℕ, suc, ◌+◌, ◌-◌, ◌<◌, ◌≤◌, ◌⊎◌, inl, inr, Bool, true, false, cond, nat_lt, List, [], ◌∷◌, ◌++◌, length, drop, reverse, refl, sym, ap, ◌∙◌, subst, arith, append_assoc}
use Rattle.std.proofs.lemmas.Bool.Decides.{nat_tests}
use Rattle.std.proofs.lemmas.List.{reverse-append, reverse-reverse, length-reverse}
use Rattle.std.proofs.lemmas.Grind.{reverse_onto}
use Rattle.step_line.specs.declared.Piece.{Piece}
use Rattle.step_line.specs.declared.Piece.TheVariants as kinds
use Rattle.step_line.specs.Pieces.{ComesBehind}
use Rattle.step_line.specs.Logs.{NewestFirst}
use Rattle.step_line.specs.Ordering.{InTurn, ComesNext, has_ended}
use Rattle.step_line.specs.Finishing.{tick_count, ticks_together, unfinished, most_unfinished}
use Rattle.step_line.proofs.Finished.{together, together_both, together_on, all_done, fewer_later}
use Rattle.motion_ring.specs.declared.lists.Sent.{Sent}
use Rattle.motion_ring.specs.Sides.{MayPublish, with_piece, with_stop, ticks_at, ticks_published, unfinished_in}
use Rattle.motion_ring.specs.Sides.{published_in as pieces_sent}
use Rattle.motion_ring.proofs.Ticks.{has_tick, of_suffix, together_reversed}
use Rattle.list_ports.specs.Joining.{PiecesPass, IsGoing, HasHalted, one_if_some}

reversed : (p : Piece) (ps : List Piece) → reverse (p ∷ ps) ≡ reverse ps ++ p ∷ []
reversed p ps = reverse_onto ps p []

added : (b : Bool) (n m k : ℕ) → n ≡ m + k → cond b (suc n) n ≡ cond b (suc m) m + k
added true n m k e = omega arith
added false n m k e = e

-- the pieces of two lists that are unfinished
unfinished_both : (ps qs : List Piece) (done : ℕ) → unfinished (ps ++ qs) done ≡ unfinished ps done + unfinished qs (done - ticks_together ps)
unfinished_both [] qs done = let e : done - 0 ≡ done = omega arith in let a : unfinished qs (done - 0) ≡ unfinished qs done = ap (unfinished qs) e in omega arith
unfinished_both (p ∷ ps) qs done =
    let t = together p ps in
    let e : done - tick_count p - ticks_together ps ≡ done - ticks_together (p ∷ ps) = omega arith in
    added (nat_lt done (tick_count p)) _ _ _ (unfinished_both ps qs (done - tick_count p) ∙ ap (λ d. unfinished ps (done - tick_count p) + unfinished qs d) e)

at_most_one : (b : Bool) (n m : ℕ) → n ≤ m → cond b (suc n) n ≤ suc m
at_most_one true n m le = omega arith
at_most_one false n m le = omega arith

unfinished_few : (ps : List Piece) (done : ℕ) → unfinished ps done ≤ length ps
unfinished_few [] done = omega arith
unfinished_few (p ∷ ps) done = at_most_one (nat_lt done (tick_count p)) _ _ (unfinished_few ps (done - tick_count p))

last_by : (before one done left : ℕ) → before ≤ done → done + left ≡ one + before → cond (nat_lt (done - before) one) 1 0 ≡ one_if_some left
last_by before one done left past e = grind (arith, nat_tests)

-- of the pieces got, the last is unfinished where ticks of it are left
got_unfinished : (got : NewestFirst Piece) (left done : ℕ) → done + left ≡ ticks_together got → ticks_together (drop 1 got) ≤ done → unfinished (reverse got) done ≡ one_if_some left
got_unfinished [] left done e past = let z : left ≡ 0 = (let f : done + left ≡ 0 = e in omega arith) in rw z refl
got_unfinished (p ∷ before) left done e past =
    let t = together p before in let r = together_reversed before in
    let none : unfinished (reverse before) done ≡ 0 = all_done (reverse before) done (omega arith) in
    let here : unfinished (p ∷ []) (done - ticks_together (reverse before)) ≡ one_if_some left = rw r (last_by (ticks_together before) (tick_count p) done left past (e ∙ t)) in
    ap (λ (l : List Piece). unfinished l done) (reversed p before) ∙ unfinished_both (reverse before) (p ∷ []) done ∙ (let n = none in let h = here in omega arith)

tick_is_left : (t d n : ℕ) → 0 < t → d ≡ 0 → n + cond (nat_lt d t) 1 0 ≡ n + 1
tick_is_left t d n more zero = grind (arith, nat_tests)

-- before any tick of them is done, pieces that do not end with the end are all unfinished
all_wait : (later before : NewestFirst Piece) → InTurn (later ++ before) → has_ended (later ++ before) ≡ false → unfinished (reverse later) 0 ≡ length later
all_wait [] before turns going = refl
all_wait (p ∷ later) before turns going =
    let t = has_tick (later ++ before) p turns.0 going in
    let i = all_wait later before turns.1 turns.0.going in
    let z : 0 - ticks_together (reverse later) ≡ 0 = omega arith in
    let e = ap (λ (l : List Piece). unfinished l 0) (reversed p later) ∙ unfinished_both (reverse later) (p ∷ []) 0 ∙ tick_is_left (tick_count p) (0 - ticks_together (reverse later)) (unfinished (reverse later) 0) t z in
    omega arith

-- who has not ended with more pieces before, has not without them
ended_front : (later before : NewestFirst Piece) → has_ended (later ++ before) ≡ false → has_ended later ≡ false
ended_front [] before e = refl
ended_front (kinds.Segment s ∷ later) before e = refl
ended_front (kinds.Mark m ∷ later) before e = refl
ended_front (kinds.End ∷ later) before e = e

-- what waits, the latest first, with one more piece
one_more : (p : Piece) (ws : List Piece) (later : NewestFirst Piece) → reverse (ws ++ p ∷ []) ++ later ≡ p ∷ (reverse ws ++ later)
one_more p ws later = ap (λ (l : List Piece). l ++ later) (reverse-append ws (p ∷ []))

-- the piece that has waited longest stands behind those that were got
one_got : (p : Piece) (ws : List Piece) (before : NewestFirst Piece) → reverse (p ∷ ws) ++ before ≡ reverse ws ++ p ∷ before
one_got p ws before = ap (λ (l : List Piece). l ++ before) (reversed p ws) ∙ append_assoc (reverse ws) (p ∷ []) before

-- ---- where no halt is to be found

module _ (ws : List Piece) (left done : ℕ) (stop : Bool) (s : Sent) (since : NewestFirst Piece) (halts : NewestFirst (ℕ × ℕ)) where
  pub runs_on : s.waits ≡ false → IsGoing ws left done stop s since halts ⊎ HasHalted ws left done stop s since halts → IsGoing ws left done stop s since halts
  runs_on none (inl g) = g
  runs_on none (inr h) = absurd (let e = sym h.waits_is ∙ none in cc)

  pub still_stops : stop ≡ true → IsGoing ws left done stop s since halts ⊎ HasHalted ws left done stop s since halts → IsGoing ws left done stop s since halts
  still_stops is (inl g) = g
  still_stops is (inr h) = absurd (let e = sym is ∙ h.stop_is in cc)

  pub works_on : 0 < left → IsGoing ws left done stop s since halts ⊎ HasHalted ws left done stop s since halts → IsGoing ws left done stop s since halts
  works_on more (inl g) = g
  works_on more (inr h) = absurd (let e = h.none_left in omega arith)

  pub many_wait : most_unfinished ≤ length ws + one_if_some left → IsGoing ws left done stop s since halts ⊎ HasHalted ws left done stop s since halts → IsGoing ws left done stop s since halts
  many_wait many (inl g) = g
  many_wait many (inr h) = absurd (let w = ap length h.none_waits in let l = ap one_if_some h.none_left in omega arith)

  module _ (g : IsGoing ws left done stop s since halts) where
    in_order : reverse s.since ≡ reverse since ++ ws
    in_order = ap reverse g.since_is ∙ reverse-append (reverse ws) since ∙ ap (λ (l : List Piece). reverse since ++ l) (reverse-reverse ws)

    -- the unfinished pieces are the one that was got last, where ticks of it are left, and those of the others
    unfinished_is : unfinished_in s done ≡ one_if_some left + unfinished ws (done - ticks_at s.halts - ticks_together (reverse since))
    unfinished_is =
        let t = g.ticks in let q = g.past in
        ap (λ (l : List Piece). unfinished l (done - ticks_at s.halts)) in_order ∙ unfinished_both (reverse since) ws (done - ticks_at s.halts)
        ∙ ap (λ n. n + unfinished ws (done - ticks_at s.halts - ticks_together (reverse since))) (got_unfinished since left (done - ticks_at s.halts) (omega arith) (omega arith))

    pub unfinished_below : unfinished_in s done ≤ length ws + one_if_some left
    unfinished_below = let e = unfinished_is in let b = unfinished_few ws (done - ticks_at s.halts - ticks_together (reverse since)) in omega arith

    pub all_ticks : ticks_published s ≡ done + left + ticks_together ws
    all_ticks = let e = ap ticks_together g.since_is in let b = together_both (reverse ws) since in let r = together_reversed ws in let t = g.ticks in omega arith

    -- while the pieces have not ended, all that wait are unfinished
    pub waiting_unfinished : InTurn (reverse ws ++ since) → has_ended (pieces_sent s) ≡ false → unfinished ws 0 ≡ length ws
    waiting_unfinished turns going =
        let e = all_wait (reverse ws) since turns (ap has_ended (sym g.since_is) ∙ ended_front s.since s.older going) in
        ap (λ (l : List Piece). unfinished l 0) (sym (reverse-reverse ws)) ∙ e ∙ length-reverse ws

    -- where five wait, or four and ticks are left, five are unfinished
    pub five_unfinished : unfinished_in s done ≤ most_unfinished → unfinished ws 0 ≡ length ws → most_unfinished ≤ length ws + one_if_some left → unfinished_in s done ≡ most_unfinished
    five_unfinished few all many =
        let z : done - ticks_at s.halts - ticks_together (reverse since) ≡ 0 = (let r = together_reversed since in let t = g.ticks in omega arith) in
        let e : unfinished_in s done ≡ one_if_some left + unfinished ws 0 = unfinished_is ∙ ap (λ d. one_if_some left + unfinished ws d) z in
        omega arith

-- ---- the calls

module _ (ws : List Piece) (left done : ℕ) (stop : Bool) (s : Sent) (known : ℕ) (passed since : NewestFirst Piece) (c u : ℕ) (halts : NewestFirst (ℕ × ℕ)) (f : PiecesPass ws left done stop s known passed since c u halts) where
  pub piece_published : (p : Piece) → MayPublish s p → length ws + one_if_some left < most_unfinished → PiecesPass (ws ++ p ∷ []) left done stop (with_piece s p) known passed since c u halts
  piece_published p may room =
      let g = runs_on ws left done stop s since halts may.running f.phase in
      record {
        fifo = ap (λ (l : List Piece). p ∷ l) f.fifo ∙ sym (one_more p ws passed);
        turns = subst InTurn (sym (one_more p ws since)) (record { going = ap has_ended (sym g.since_is) ∙ ended_front s.since s.older may.going; follows = subst (λ (l : List Piece). ComesBehind l p) g.since_is may.follows }, f.turns);
        short = (let o = together_on ws p in let a = all_ticks ws left done stop s since halts g in let q = may.few in omega arith);
        within = (let w = f.within in let t = together p s.since in omega arith);
        few = (let e = ap (λ (l : List Piece). unfinished l (done - ticks_at s.halts)) (reversed p s.since) in let b = unfinished_both (reverse s.since) (p ∷ []) (done - ticks_at s.halts) in
            let o = unfinished_few (p ∷ []) (done - ticks_at s.halts - ticks_together (reverse s.since)) in let n = unfinished_below ws left done stop s since halts g in omega arith);
        done_is = f.done_is;
        left_is = f.left_is;
        known_is = f.known_is;
        phase = inl (record { waits_is = g.waits_is; since_is = ap (λ (l : List Piece). p ∷ l) g.since_is ∙ sym (one_more p ws since); ticks = g.ticks; past = g.past; halts_are = g.halts_are });
      }

  -- a tick is counted of which one is left
  pub tick_counted : 0 < u → PiecesPass ws (left - 1) (done + 1) stop s known passed since (c + 1) (u - 1) halts
  tick_counted more =
      let l = f.left_is in
      let g = works_on ws left done stop s since halts (omega arith) f.phase in
      let t = g.ticks in let q = g.past in
      record {
        fifo = f.fifo;
        turns = f.turns;
        short = (let q = f.short in omega arith);
        within = (let a = all_ticks ws left done stop s since halts g in omega arith);
        few = (let n = fewer_later (reverse s.since) (done - ticks_at s.halts) (done + 1 - ticks_at s.halts) (omega arith) in let w = f.few in omega arith);
        done_is = ap (λ n. n + 1) f.done_is;
        left_is = ap (λ n. n - 1) f.left_is;
        known_is = (let k = f.known_is in omega arith);
        phase = inl (record { waits_is = g.waits_is; since_is = g.since_is; ticks = omega arith; past = omega arith; halts_are = g.halts_are });
      }

  -- the done count is loaded
  pub done_loaded : PiecesPass ws left done stop s done passed since c u halts
  done_loaded = record { fifo = f.fifo; turns = f.turns; short = f.short; within = f.within; few = f.few; done_is = f.done_is; left_is = f.left_is; known_is = omega arith; phase = f.phase }

  -- a stop is stored behind the pieces so far, where none waits
  pub stop_stored : s.waits ≡ false → PiecesPass ws left done true (with_stop s) known passed since c u halts
  stop_stored none =
      let g = runs_on ws left done stop s since halts none f.phase in
      record {
        fifo = f.fifo;
        turns = f.turns;
        short = f.short;
        within = f.within;
        few = f.few;
        done_is = f.done_is;
        left_is = f.left_is;
        known_is = f.known_is;
        phase = inl (record { waits_is = refl; since_is = g.since_is; ticks = g.ticks; past = g.past; halts_are = g.halts_are });
      }

  -- it has halted at the stop that waits: all pieces that waited are dropped, the latest first
  pub pieces_dropped : stop ≡ true → PiecesPass [] 0 done false s known (reverse ws ++ passed) [] c 0 ((length (reverse ws ++ passed), c) ∷ halts)
  pieces_dropped is =
      let g = still_stops ws left done stop s since halts is f.phase in
      record {
        fifo = f.fifo;
        turns = tt;
        short = (let q = f.short in omega arith);
        within = f.within;
        few = f.few;
        done_is = f.done_is;
        left_is = refl;
        known_is = f.known_is;
        phase = inr (record { waits_is = g.waits_is ∙ is; stop_is = refl; none_waits = refl; none_left = refl; none_since = refl; halts_are = λ i. (length (f.fifo i), f.done_is i) ∷ g.halts_are i });
      }

module _ (p : Piece) (ws : List Piece) (left done : ℕ) (stop : Bool) (s : Sent) (known : ℕ) (passed since : NewestFirst Piece) (c u : ℕ) (halts : NewestFirst (ℕ × ℕ)) (f : PiecesPass (p ∷ ws) left done stop s known passed since c u halts) where
  some_waits : IsGoing (p ∷ ws) left done stop s since halts ⊎ HasHalted (p ∷ ws) left done stop s since halts → IsGoing (p ∷ ws) left done stop s since halts
  some_waits (inl g) = g
  some_waits (inr h) = absurd (let n = ap length h.none_waits in omega arith)

  -- the piece that has waited longest is got, where no tick is left of the one before
  pub piece_got : u ≡ 0 → PiecesPass ws (tick_count p) done stop s known (p ∷ passed) (p ∷ since) c (tick_count p) halts
  piece_got none_left =
      let g = some_waits f.phase in
      let l = f.left_is in let e = g.ticks in
      record {
        fifo = f.fifo ∙ one_got p ws passed;
        turns = subst InTurn (one_got p ws since) f.turns;
        short = (let t = together p ws in let q = f.short in omega arith);
        within = f.within;
        few = f.few;
        done_is = f.done_is;
        left_is = refl;
        known_is = f.known_is;
        phase = inl (record { waits_is = g.waits_is; since_is = g.since_is ∙ one_got p ws since; ticks = (let t = together p since in omega arith); past = omega arith; halts_are = g.halts_are });
      }

  pub piece_comes : ComesNext since p
  piece_comes = (of_suffix (reverse ws) (p ∷ since) (subst InTurn (one_got p ws since) f.turns)).0
