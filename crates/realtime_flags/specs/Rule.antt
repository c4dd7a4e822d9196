-- The rule of the table of flags, and what each step tells.
use Rattle.std.specs.Prelude.{◌≡◌, ℕ, ◌^◌, ◌<◌, ◌≤◌, Bool, true, false, not, nat_eq, List, [], ◌∷◌, length, slice_index}
use Rattle.std.specs.Int.{bit_at}
use Rattle.atomic_table.specs.Table.{State, Me, Step}
use Rattle.shared_rings.specs.Rights.{Sole}
use Rattle.realtime_flags.specs.declared.words.Flag.{Flag}
use Rattle.realtime_flags.specs.declared.words.Raise.{Raise}
use Rattle.realtime_flags.specs.declared.words.Take.{Take}
use Rattle.realtime_flags.specs.declared.words.Take.TheVariants as takes
use Rattle.realtime_flags.specs.declared.words.FlagSight.{FlagSight}
use Rattle.realtime_flags.specs.Bits.{word_of, place_of, report_flag, raises_of, takes_with, IsBalanced}

pub record Kept (s : State ℕ FlagSight) : Type 0 where
  pub raises : List Raise
  pub taken : List Take
  pub raiser : ℕ
  pub taker : ℕ
  pub wide : length s.words ≡ 2
  pub exec : slice_index s.words 0 < 2 ^ 5
  pub override : slice_index s.words 1 < 2 ^ 13
  pub balance : IsBalanced s.words raises taken
  pub few : raises_of report_flag raises ≤ 2 ^ 31
  -- one seat raises, and knows each raise; one takes, and knows each take
  pub raising : Sole s.views (λ v. v.may_raise) raiser (λ v. v.raises ≡ raises)
  pub taking : Sole s.views (λ v. v.may_take) taker (λ v. v.takes ≡ taken)

abbrev pub beginning : FlagSight
beginning = record { may_raise = true; may_take = true; raises = []; takes = [] }

abbrev pub without_taking : FlagSight → FlagSight
without_taking v = record v { may_take = false }

abbrev pub without_raising : FlagSight → FlagSight
without_raising v = record v { may_raise = false }

abbrev pub both_of : FlagSight → FlagSight → FlagSight
both_of v w = record { may_raise = v.may_raise; may_take = w.may_take; raises = v.raises; takes = w.takes }

abbrev pub spent : FlagSight
spent = record { may_raise = false; may_take = false; raises = []; takes = [] }

-- the view after each step
abbrev pub with_raise : FlagSight → Flag → Bool → FlagSight
with_raise v f found_down = record v { raises = record { flag = f; down = found_down } ∷ v.raises }

abbrev pub with_take : FlagSight → Take → FlagSight
with_take v t = record v { takes = t ∷ v.takes }

abbrev Sat : Type 0
Sat = Me ℕ FlagSight

abbrev At : Type 0
At = Step ℕ

abbrev pub exec_taken : ℕ → Take
exec_taken n = takes.Exec (record { 0 = n })

abbrev pub override_taken : ℕ → Take
override_taken n = takes.Override (record { 0 = n })

-- the flag is told by the word and the bit that the step was given
abbrev pub raised : At → Sat → ℕ → Sat → Type 0
raised st m n m' = (f : Flag) → st.word ≡ word_of f → st.first ≡ 2 ^ place_of f → m' ≡ (with_raise m.0 f (not (nat_eq (bit_at n (place_of f)) 1)), m.1)

abbrev pub took_exec : At → Sat → ℕ → Sat → Type 0
took_exec st m n m' = (m' ≡ (with_take m.0 (exec_taken n), m.1)) × (n < 2 ^ 5) × (takes_with report_flag (exec_taken n ∷ m.0.takes) ≤ 2 ^ 31)

abbrev pub took_override : At → Sat → ℕ → Sat → Type 0
took_override st m n m' = (m' ≡ (with_take m.0 (override_taken n), m.1)) × (n < 2 ^ 13)

-- the seat that raises and takes learns the rule of the bits
abbrev pub balanced : At → Sat → ℕ → Sat → Type 0
balanced st m n m' = (m' ≡ m) × ((words : List ℕ) × IsBalanced words m.0.raises m.0.takes)
