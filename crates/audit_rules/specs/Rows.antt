-- Worked texts, and what an audit finds of them.
use Rattle.std.specs.Prelude.{ℕ, ◌<◌, ◌^◌, List, [], ◌++◌, length, codes}
use Rattle.audit_rules.specs.Findings.{Finds}
use Rattle.audit_rules.specs.declared.Audit.TheVariants.{Fits, Misfit, BadReplies, Foreign}

-- the banner, and the answer to one line
abbrev pub banner : List ℕ
banner = codes "\r\nGrbl 1.1h ['$' for help]\r\n"

abbrev pub accepted : List ℕ
accepted = banner ++ codes "ok\r\n"

abbrev pub refused : List ℕ
refused = banner ++ codes "error:20\r\n"

-- ---- an empty job

abbrev pub NothingFits : Type 0
NothingFits = Finds [] banner (codes "E\n") (Fits 0)

-- ---- one step

abbrev pub one_step : List ℕ
one_step = codes "G0X0.004"

abbrev pub head : List ℕ
head = codes "s 1 1 0 320000\n"

abbrev pub OneStepFits : Type 0
OneStepFits = Finds one_step accepted (head ++ codes "X+\nE\n") (Fits 1)

-- the same steps in form 2
abbrev pub CompactFits : Type 0
CompactFits = Finds one_step accepted (codes "V 2\n" ++ head ++ codes "X+\nE\n") (Fits 1)

-- the step goes the other way
abbrev pub OtherStep : Type 0
OtherStep = Finds one_step accepted (head ++ codes "X-\nE\n") (Misfit 15)

-- the end is missing
abbrev pub NoEnd : Type 0
NoEnd = Finds one_step accepted (head ++ codes "X+\n") (Misfit 18)

-- something follows the end
abbrev pub MoreBehindEnd : Type 0
MoreBehindEnd = Finds one_step accepted (head ++ codes "X+\nE\nE\n") (Misfit 20)

-- an error in place of the answer
abbrev pub OtherAnswer : Type 0
OtherAnswer = Finds one_step refused (head ++ codes "X+\nE\n") (BadReplies 1)

-- ---- homing

abbrev pub HomingIsForeign : Type 0
HomingIsForeign = (console steps : List ℕ) → length console < 2 ^ 63 → length steps < 2 ^ 63 → Finds (codes "$H") console steps (Foreign 1)
