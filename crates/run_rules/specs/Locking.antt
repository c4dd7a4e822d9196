-- What becomes of a line while the machine is locked, and which line unlocks it.
use Rattle.std.specs.Prelude.{◌≡◌, ℕ, Bool, true, false, not, ◌&&◌, List, [], ◌∷◌, length, nat_eq, nat_lt}
use Rattle.std.specs.List.{list_any}
use Rattle.system_lines.specs.Commands.{kind_of, command_of}
use Rattle.system_lines.specs.declared.Kind.{Kind as DollarKind}
use Rattle.system_lines.specs.declared.Kind.TheVariants as kinds
use Rattle.status_report.specs.declared.Message.TheVariants.{Unlocked}
use Rattle.status_report.specs.declared.Reply.TheVariants.{Message}
use Rattle.run_rules.specs.Work.{Outcome}
use Rattle.run_rules.specs.Outcomes.{Before, Becomes, Passed, IsCut, ByCommand, after, at_place, told, refused, either, most_kept}
use Rattle.run_rules.specs.Outcomes.Passed.{a_line, a_cut}

-- `$X` unlocks the machine, and says so
abbrev pub is_unlock : DollarKind → Bool
is_unlock kinds.Unlock = true
is_unlock _ = false

abbrev pub unlocked : Before → Outcome
unlocked b = told b.state (Message Unlocked ∷ [])

-- A line that begins with `$` is served as ever, but one that begins with `$J` is refused with 8.
abbrev pub ByLockedDollar : Before → List ℕ → DollarKind → Outcome → Type 0
ByLockedDollar b kept kinds.Unlock o = o ≡ unlocked b
ByLockedDollar b kept kinds.Jog o = o ≡ refused b 8
ByLockedDollar b kept kinds.BareJog o = o ≡ refused b 8
ByLockedDollar b kept kinds.ListSettings o = ByCommand b (command_of kept) o
ByLockedDollar b kept kinds.ListModes o = ByCommand b (command_of kept) o
ByLockedDollar b kept kinds.ListOffsets o = ByCommand b (command_of kept) o
ByLockedDollar b kept kinds.Setting o = ByCommand b (command_of kept) o
ByLockedDollar b kept kinds.Other o = ByCommand b (command_of kept) o

-- an empty line is accepted, and a line of G-code refused with 9
abbrev pub ByLockedKept : Before → List ℕ → Outcome → Type 0
ByLockedKept b [] o = o ≡ told b.state []
ByLockedKept b (c ∷ cs) o = either (nat_eq c 36) (ByLockedDollar b (c ∷ cs) (kind_of (c ∷ cs)) o) (o ≡ refused b 9)

abbrev pub BecomesLocked : Before → List ℕ → Outcome → Type 0
BecomesLocked b kept o = either (nat_lt most_kept (length kept)) (o ≡ refused b 11) (ByLockedKept b kept o)

-- what becomes of a line where the machine is locked, or is not and may be found running, or in a jog
abbrev pub BecomesIn : (locked runs : Bool) → Before → List ℕ → Outcome → Type 0
BecomesIn locked runs b kept o = either locked (BecomesLocked b kept o) (Becomes runs b kept o)

-- ---- lines, and cuts between them

abbrev pub unlocks : List ℕ → Bool
unlocks kept = is_unlock (kind_of kept)

-- the machine is locked still behind these lines
abbrev pub locked_behind : Bool → List (List ℕ) → Bool
locked_behind locked lines = locked && not (list_any unlocks lines)

pub record IsBegunIn (locked runs : Bool) (b : Before) (kept : List ℕ) (o : Outcome) : Type 0 where
  pub free : b.alarmed ≡ false
  pub becomes : BecomesIn locked runs b kept o

-- Lines are passed as `Follows` says, where the machine may be locked before the first: then it is until a line unlocks it.
abbrev pub FollowsFrom : (locked runs : Bool) → Before → List (List ℕ) → List Passed → Before → Type 0
FollowsFrom locked runs b ls (a_cut k at ∷ ps) last = IsCut runs b k × FollowsFrom locked runs (at_place at b) ls ps last
FollowsFrom locked runs b [] [] last = last ≡ b
FollowsFrom locked runs b (l ∷ ls) (a_line o ∷ ps) last = IsBegunIn locked runs b l o × FollowsFrom (locked && not (unlocks l)) runs (after b o) ls ps last
FollowsFrom locked runs b [] (a_line o ∷ ps) last = ⊥
FollowsFrom locked runs b (l ∷ ls) [] last = ⊥
