-- The link between a host and a board: what may be on it at once, and which lines its replies answer.
use Rattle.std.specs.Prelude.{ℕ, Bool, true, false, not, List, nat_eq}
use Rattle.std.specs.List.{count_by, filter}
use Rattle.status_report.specs.declared.Reply.{Reply}
use Rattle.status_report.specs.declared.Reply.TheVariants.{Banner, Ok, Error, Report, Bye}

-- so many bytes may be on the link at once
abbrev pub receive_room : ℕ
receive_room = 128

-- so many replies may be on the link at once
abbrev pub reply_room : ℕ
reply_room = 16

-- how many lines have their end among some bytes
abbrev pub lfs_in : List ℕ → ℕ
lfs_in bytes = count_by (λ b. nat_eq b 10) bytes

-- a reply answers a line
abbrev pub is_answer : Reply → Bool
is_answer Ok = true
is_answer (Error n) = true
is_answer _ = false

-- a reply is a Banner
abbrev pub is_banner : Reply → Bool
is_banner Banner = true
is_banner _ = false

-- how many replies are Banners
abbrev pub banners_in : List Reply → ℕ
banners_in replies = count_by is_banner replies

-- a reply is Bye
abbrev pub is_bye : Reply → Bool
is_bye Bye = true
is_bye _ = false

-- how many lines some replies answer
abbrev pub answers_in : List Reply → ℕ
answers_in replies = count_by is_answer replies

-- a reply is a status report
abbrev pub is_report : Reply → Bool
is_report (Report r) = true
is_report _ = false

-- how many replies are reports
abbrev pub reports_among : List Reply → ℕ
reports_among replies = count_by is_report replies

abbrev pub is_plain : Reply → Bool
is_plain r = not (is_report r)

-- the others, in order
abbrev pub without_reports : List Reply → List Reply
without_reports replies = filter is_plain replies
