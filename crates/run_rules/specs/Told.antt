-- What a run tells, and what it asks of the machine.
use Rattle.std.specs.Prelude.{ℕ, Bool, true, false, List, [], ◌∷◌, ◌++◌}
use Rattle.std.specs.List.{flat_map, count_by}
use Rattle.step_line.specs.Asking.{Asked}
use Rattle.status_report.specs.Replies.{reply_text}
use Rattle.status_report.specs.declared.Reply.{Reply}
use Rattle.status_report.specs.declared.Reply.TheVariants.{Banner, Error}
use Rattle.run_rules.specs.Work.{Outcome, is_limit, tells, asks}

-- all that is told: what greets, and then line by line
abbrev pub replies_after : List Reply → List Outcome → List Reply
replies_after greeting outcomes = greeting ++ flat_map (λ o. tells o.work) outcomes

-- a run is greeted by the banner
abbrev pub replies_in : List Outcome → List Reply
replies_in outcomes = replies_after (Banner ∷ []) outcomes

-- what the lines ask of the machine, in order: their moves and marks, and where it comes to rest
abbrev pub asked_in : List Outcome → List Asked
asked_in outcomes = flat_map (λ o. asks o.work) outcomes

abbrev pub replies_text : List Reply → List ℕ
replies_text replies = flat_map reply_text replies

abbrev pub is_error : Reply → Bool
is_error (Error n) = true
is_error _ = false

-- how many replies are errors
abbrev pub errors_among : List Reply → ℕ
errors_among replies = count_by is_error replies

-- how many lines are refused
abbrev pub errors_in : List Outcome → ℕ
errors_in outcomes = count_by (λ o. is_error o.answer) outcomes

-- how many lines end the run with the alarm of a soft limit
abbrev pub limits_in : List Outcome → ℕ
limits_in outcomes = count_by (λ o. is_limit o.answer) outcomes
