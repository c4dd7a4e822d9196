-- Tasks, less those that ask something of the machine: what is left of them where jogs are cut.
use Rattle.std.proofs.Common.{◌≡◌, ◌+◌, true, false, List, [], ◌∷◌, drop, refl, ap}
use Rattle.status_report.specs.declared.Reply.{Reply}
use Rattle.run_rules.specs.Work.{Task, asks, tells, has_moves, pauses}
use Rattle.run_rules.specs.Work.Task.{ask, tell, pause}
use Rattle.board_journal.specs.Steps.{without_asks}
use Rattle.board_rules.specs.Turns.{tells_next}
use Rattle.board_rules.specs.Whole.{comes_to_rest}

pub asks_dropped : (ts : List Task) → asks (without_asks ts) ≡ []
asks_dropped [] = refl
asks_dropped (ask a ∷ ts) = asks_dropped ts
asks_dropped (_ ∷ ts) = asks_dropped ts

pub tells_kept : (ts : List Task) → tells (without_asks ts) ≡ tells ts
tells_kept [] = refl
tells_kept (tell r ∷ ts) = ap (λ (rs : List Reply). r ∷ rs) (tells_kept ts)
tells_kept (_ ∷ ts) = tells_kept ts

pub pauses_kept : (ts : List Task) → pauses (without_asks ts) ≡ pauses ts
pauses_kept [] = refl
pauses_kept (pause ∷ ts) = ap (λ n. n + 1) (pauses_kept ts)
pauses_kept (_ ∷ ts) = pauses_kept ts

-- what is left where nothing was asked
pub asks_behind : (ts : List Task) → asks ts ≡ [] → asks (drop 1 ts) ≡ []
asks_behind [] none = refl
asks_behind (ask a ∷ ts) none = absurd cc
asks_behind (_ ∷ ts) none = none

-- a reply that is next stays next
pub tell_kept : (ts : List Task) → tells_next ts ≡ true → tells_next (without_asks ts) ≡ true
tell_kept (tell r ∷ ts) is = refl
tell_kept [] is = absurd cc
tell_kept (_ ∷ ts) is = absurd cc

-- ---- where nothing is asked for

pub none_moves : (ts : List Task) → asks ts ≡ [] → has_moves ts ≡ false
none_moves [] none = refl
none_moves (ask a ∷ ts) none = absurd cc
none_moves (_ ∷ ts) none = none_moves ts none

pub none_rests : (ts : List Task) → asks ts ≡ [] → comes_to_rest ts ≡ false
none_rests [] none = refl
none_rests (ask a ∷ ts) none = absurd cc
none_rests (_ ∷ ts) none = none_rests ts none

pub moves_dropped : (ts : List Task) → has_moves (without_asks ts) ≡ false
moves_dropped ts = none_moves (without_asks ts) (asks_dropped ts)
