-- What is next of the replies that greet behind a reset.
use Rattle.std.proofs.Common.{◌≡◌, ℕ, zero, suc, Bool, true, false, cond, List, [], ◌∷◌, drop, refl, ap}
use Rattle.run_rules.specs.Work.{Task, telling}
use Rattle.run_rules.specs.Work.Task.{tell}
use Rattle.status_report.specs.declared.Message.TheVariants.{Locked}
use Rattle.status_report.specs.declared.Reply.{Reply}
use Rattle.status_report.specs.declared.Reply.TheVariants as replies
use Rattle.line_interpreter.specs.Lefts.{IsNextOf, greeting}

abbrev reply_of : List Task → Reply
reply_of (tell r ∷ tasks) = r
reply_of tasks = replies.Banner

locked_told : (locked : Bool) (k : ℕ) (reply : Reply) → IsNextOf (tell reply) (drop k (telling (cond locked (replies.Message Locked ∷ []) []))) → replies.Message Locked ≡ reply
locked_told true zero reply e = ap reply_of e
locked_told true (suc zero) reply e = absurd cc
locked_told true (suc (suc k)) reply e = absurd cc
locked_told false zero reply e = absurd cc
locked_told false (suc k) reply e = absurd cc

pub behind_banner : (locked : Bool) (stage : ℕ) (reply : Reply) → (stage ≡ 0 → ⊥) → IsNextOf (tell reply) (drop stage (telling (greeting false locked))) → replies.Message Locked ≡ reply
behind_banner locked zero reply past e = absurd (past refl)
behind_banner locked (suc k) reply past e = locked_told locked k reply e

pub behind_alarm : (locked : Bool) (stage : ℕ) (reply : Reply) → (stage ≡ 0 → ⊥) → (stage ≡ 1 → ⊥) → IsNextOf (tell reply) (drop stage (telling (greeting true locked))) → replies.Message Locked ≡ reply
behind_alarm locked zero reply past other e = absurd (past refl)
behind_alarm locked (suc zero) reply past other e = absurd (other refl)
behind_alarm locked (suc (suc k)) reply past other e = locked_told locked k reply e
