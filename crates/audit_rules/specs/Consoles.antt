-- A console as a text.
use Rattle.std.specs.Prelude.{◌≡◌, ℕ, Bool, true, false, nat_eq, List, ◌∷◌, ◌++◌}
use Rattle.std.specs.List.{AllByRecursion}
use Rattle.status_report.specs.Answering.{without_reports, is_report}
use Rattle.status_report.specs.Replies.{reply_text}
use Rattle.status_report.specs.Reports.{CanBeTold}
use Rattle.status_report.specs.declared.Reply.{Reply}
use Rattle.status_report.specs.declared.Reply.TheVariants.{Banner, Alarm, Bye}
use Rattle.run_rules.specs.Told.{replies_text}

-- A reply stands on a console: a board can tell it, and it is not Bye, which has no text.
abbrev pub IsOnConsole : Reply → Type 0
IsOnConsole Bye = ⊥
IsOnConsole reply = CanBeTold reply

-- A console begins with the banner and then tells this, status reports aside, which may stand anywhere behind the banner.
-- This is left of it.
pub record Tells (console : List ℕ) (told : List Reply) (rest : List ℕ) : Type 0 where
  pub behind : List Reply
  pub text : console ≡ replies_text (Banner ∷ behind) ++ rest
  pub each : AllByRecursion IsOnConsole behind
  pub are : without_reports behind ≡ told

-- a text goes on with a reply, behind some reports
pub record GoesOnWith (rest : List ℕ) (reply : Reply) : Type 0 where
  pub reports : List Reply
  pub later : List ℕ
  pub text : rest ≡ replies_text reports ++ (reply_text reply ++ later)
  pub each : AllByRecursion IsOnConsole reports
  pub are : AllByRecursion (λ r. is_report r ≡ true) reports

-- `ALARM:3` and the banner: what is told at a reset begins with one of them, and no answer of a line does
abbrev pub is_of_reset : Reply → Bool
is_of_reset Banner = true
is_of_reset (Alarm n) = nat_eq n 3
is_of_reset _ = false

-- what is left of a console goes on with what is told at a reset
abbrev pub GoesOnAnew : List ℕ → Type 0
GoesOnAnew rest = (reply : Reply) × (is_of_reset reply ≡ true) × GoesOnWith rest reply

-- it tells this next, reports aside, and then this is left of it
pub record TellsNext (rest : List ℕ) (told : List Reply) (later : List ℕ) : Type 0 where
  pub replies : List Reply
  pub text : rest ≡ replies_text replies ++ later
  pub each : AllByRecursion IsOnConsole replies
  pub are : without_reports replies ≡ told
