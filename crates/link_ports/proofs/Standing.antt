-- What a call leaves of a port that stands for a log.
use Rattle.std.proofs.Common.{◌≡◌, ℕ, ◌+◌, ◌≤◌, List, [], ◌∷◌, ◌++◌, false, length, Some, None, IfSome, IfNone, OnSome, refl, sym, ap, ◌∙◌, subst, arith, length-append}
use Rattle.std.specs.declared.option.Option.{Option}
use Rattle.serial_ring.specs.declared.view.ByteIn.{ByteIn}
use Rattle.serial_ring.specs.declared.view.ByteIn.TheVariants as found
use Rattle.status_report.specs.declared.Reply.{Reply}
use Rattle.status_report.specs.Answering.{is_answer, is_banner}
use Rattle.serial_ring.specs.declared.view.LinkStep.{LinkStep}
use Rattle.serial_ring.specs.declared.view.LinkStep.TheVariants.{Answered}
use Rattle.serial_ring.specs.Logs.{answers_since, lfs_since}
use Rattle.board_journal.specs.Ports.{BoardLog, said, link_steps, answered_in}
use Rattle.board_journal.specs.Ports.PortStep.{took}
use Rattle.link_ports.proofs.Lists.{by_said}

pub by_option : {A R Q : Type 0} {P : A → Type 0} (o : Option A) → IfSome o P → IfNone o R → ((a : A) → P a → Q) → (R → Q) → Q
by_option None p r there none = none r
by_option (Some a) p r there none = there a p

-- what follows from an answer, where there is one, and where there is none
pub some_then : {A Q : Type 0} {P : A → Type 0} (o : Option A) → IfSome o P → ((a : A) → P a → Q) → OnSome o Q
some_then None p there = tt
some_then (Some a) p there = there a p

pub none_then : {A R Q : Type 0} (o : Option A) → IfNone o R → (R → Q) → IfNone o Q
none_then None r there = there r
none_then (Some a) r there = tt

pub by_byte : {Q : Type 0} (r : ByteIn) → ((b : ℕ) → r ≡ found.Byte b → Q) → (r ≡ found.Empty → Q) → (r ≡ found.Closed → Q) → Q
by_byte (found.Byte b) byte empty closed = byte b refl
by_byte found.Empty byte empty closed = empty refl
by_byte found.Closed byte empty closed = closed refl

-- a line feed more
pub line_more : (l : BoardLog) (n : ℕ) → n + 0 ≤ lfs_since (link_steps l) → n + 1 ≤ lfs_since (link_steps (took 10 ∷ l))
line_more l n le = omega arith

pub byte_more : (b : ℕ) (l : BoardLog) (n : ℕ) → n ≤ lfs_since (link_steps l) → n ≤ lfs_since (link_steps (took b ∷ l))
byte_more b l n le = omega arith

-- a reply adds itself to what was answered
adds_reply : (l : BoardLog) (r : Reply) → (answered_in (said r ∷ l) ≡ answered_in l ++ r ∷ []) × (link_steps (said r ∷ l) ≡ Answered r ∷ link_steps l)
adds_reply l = by_said (λ r e. (answered_in (e ∷ l) ≡ answered_in l ++ r ∷ []) × (link_steps (e ∷ l) ≡ Answered r ∷ link_steps l)) (λ r. (refl, refl)) (λ p. (refl, refl))

other_on : (r : Reply) (l : List LinkStep) (k : ℕ) → is_answer r ≡ false → is_banner r ≡ false → answers_since l + k ≤ lfs_since l → answers_since (Answered r ∷ l) + k ≤ lfs_since (Answered r ∷ l)
other_on r l k is other le = rw other (rw is (omega arith))

pub other_more : (r : Reply) (l : BoardLog) (k : ℕ) → is_answer r ≡ false → is_banner r ≡ false → answers_since (link_steps l) + k ≤ lfs_since (link_steps l) → answers_since (link_steps (said r ∷ l)) + k ≤ lfs_since (link_steps (said r ∷ l))
other_more r l k is other le = subst (λ (z : List LinkStep). answers_since z + k ≤ lfs_since z) (sym (adds_reply l r).1) (other_on r (link_steps l) k is other le)

pub reply_more : (r : Reply) (l : BoardLog) (n : ℕ) → length (answered_in l) ≤ n → length (answered_in (said r ∷ l)) ≤ n + 1
reply_more r l n le = let e = ap length (adds_reply l r).0 ∙ length-append (answered_in l) (r ∷ []) in omega arith
