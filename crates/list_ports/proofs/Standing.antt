-- What calls of a board and of a pulse leave of lists that are said in few words.
use Rattle.std.proofs.Common.{ℕ, ◌+◌, ◌^◌, ◌<◌, [], ◌∷◌, Some, None, IfSome, IfNone, OnSome, inr, refl, arith}
use Rattle.std.specs.declared.option.Option.{Option}
use Rattle.step_line.specs.declared.Piece.{Piece}
use Rattle.step_line.specs.declared.Piece.TheVariants as pieces
use Rattle.step_line.specs.declared.Mark.TheVariants.{Dwell}
use Rattle.step_line.proofs.Finished.{together}
use Rattle.board_journal.specs.Ports.{MayPublish, MayStop, MayBeDone, sent_in}
use Rattle.board_journal.specs.Ports.PortStep.{published, stored_stop, found_halt}
use Rattle.list_ports.specs.Joining.{Listed, Joined}
use Rattle.list_ports.specs.Standing.{HasPublished, AwaitsHalt}

-- what follows from an answer, where there is one, and where there is none
pub some_then : {A Q : Type 0} {P : A → Type 0} (o : Option A) → IfSome o P → ((a : A) → P a → Q) → OnSome o Q
some_then None p there = tt
some_then (Some a) p there = there a p

pub none_then : {A R Q : Type 0} (o : Option A) → IfNone o R → (R → Q) → IfNone o Q
none_then None r there = there r
none_then (Some a) r there = tt

abbrev pub mark : Piece
mark = pieces.Mark (Dwell 1)

pub begins : (l : Listed) → Joined l [] [] [] → HasPublished 0 l
begins l j = record { host = []; board = []; pulse = []; joined = j; running = refl; going = refl; few = omega arith; many = omega arith; counted = refl }

pub may_publish : (n : ℕ) (l : Listed) (q : HasPublished n l) → n < 2 ^ 32 → MayPublish q.board mark
may_publish n l q small = record { running = q.running; going = q.going; follows = omega arith; few = (let f = q.few in omega arith); room = (let m = q.many in omega arith) }

pub published_one : (n : ℕ) (l l' : Listed) (q : HasPublished n l) → Joined l' q.host (published mark ∷ q.board) q.pulse → HasPublished (n + 1) l'
published_one n l l' q j = record {
  host = q.host;
  board = published mark ∷ q.board;
  pulse = q.pulse;
  joined = j;
  running = q.running;
  going = refl;
  few = (let f = q.few in let e = together mark (sent_in q.board).since in omega arith);
  many = (let m = q.many in omega arith);
  counted = q.counted;
}

-- a stop may follow the piece
pub may_stop : (n : ℕ) (l : Listed) (q : HasPublished n l) → MayStop (published mark ∷ q.board)
may_stop n l q = record { running = q.running; since_last = inr (omega arith) }

pub stopped_then : (n : ℕ) (l l' : Listed) (q : HasPublished n l) → Joined l' q.host (stored_stop ∷ (published mark ∷ q.board)) q.pulse → AwaitsHalt (n + 1) l'
stopped_then n l l' q j = record {
  host = q.host;
  board = stored_stop ∷ (published mark ∷ q.board);
  pulse = q.pulse;
  joined = j;
  waits = refl;
  going = refl;
  few = (let f = q.few in let e = together mark (sent_in q.board).since in omega arith);
  many = (let m = q.many in omega arith);
  counted = q.counted;
}

pub found_then : (n : ℕ) (l l' : Listed) (q : AwaitsHalt n l) (done : ℕ) → Joined l' q.host (found_halt done ∷ q.board) q.pulse → MayBeDone done q.board → HasPublished n l'
found_then n l l' q done j may = record {
  host = q.host;
  board = found_halt done ∷ q.board;
  pulse = q.pulse;
  joined = j;
  running = refl;
  going = q.going;
  few = (let f = q.few in let b = may.below in omega arith);
  many = q.many;
  counted = q.counted;
}
