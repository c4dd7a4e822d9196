-- Percentages that the operator changes, and the speeds that follow.
use Rattle.std.specs.Prelude.{ℕ, ◌+◌, ◌-◌, ◌*◌, ◌/◌, ◌≤◌, min, max, Bool, if◌then◌else◌, nat_abs}
use Rattle.units.specs.declared.Rate.{Rate}
use Rattle.units.specs.declared.Rate.TheVariants.{Rapid, Feed, Jog}
use Rattle.code_table.specs.declared.flags.Ovr.{Ovr}
use Rattle.code_table.specs.Flags.{ovr_bits, has_flag}
use Rattle.overrides.specs.declared.Overrides.{Overrides}

-- the percentages that there are
pub record IsOverrides (o : Overrides) : Type 0 where
  pub feed_low : 10 ≤ o.feed
  pub feed_high : o.feed ≤ 200
  pub rapid_low : 25 ≤ o.rapid
  pub rapid_high : o.rapid ≤ 100
  pub spindle_low : 10 ≤ o.spindle
  pub spindle_high : o.spindle ≤ 200

-- each override at 100 percent
abbrev pub normal_overrides : Overrides
normal_overrides = record { feed = 100; rapid = 100; spindle = 100 }

-- a percentage after those of five flags that are set: 100, ten more, ten less, one more, one less, in that order, and
-- then at most 200 and at least 10. A difference stops at 0, which is below 10 too
abbrev pub percent_after : ℕ → Bool → Bool → Bool → Bool → Bool → ℕ
percent_after present whole up_ten down_ten up_one down_one =
    let a : ℕ = if whole then 100 else present in
    let b : ℕ = if up_ten then a + 10 else a in
    let c : ℕ = if down_ten then b - 10 else b in
    let d : ℕ = if up_one then c + 1 else c in
    let e : ℕ = if down_one then d - 1 else d in
    max (min e 200) 10

-- a rapid percentage after those of three flags that are set: 100, then 50, then 25
abbrev pub rapid_after : ℕ → Bool → Bool → Bool → ℕ
rapid_after present whole half quarter =
    let a : ℕ = if whole then 100 else present in
    let b : ℕ = if half then 50 else a in
    if quarter then 25 else b

-- whether the flag that a realtime byte raises is set
abbrev pub raised : Ovr → ℕ → Bool
raised flags byte = has_flag (ovr_bits flags) byte

-- overrides after a word of flags
unfoldable pub taken : Overrides → Ovr → Overrides
taken o flags = record {
  feed = percent_after o.feed (raised flags 0x90) (raised flags 0x91) (raised flags 0x92) (raised flags 0x93) (raised flags 0x94);
  rapid = rapid_after o.rapid (raised flags 0x95) (raised flags 0x96) (raised flags 0x97);
  spindle = percent_after o.spindle (raised flags 0x99) (raised flags 0x9a) (raised flags 0x9b) (raised flags 0x9c) (raised flags 0x9d);
}

-- how fast a move is to go, in µm/s, if its axes allow the rapid speed; feeds are in nm per minute
abbrev pub nominal_of : Overrides → Rate → ℕ → ℕ
nominal_of o Rapid rapid = max (rapid * o.rapid / 100) 16
nominal_of o (Feed feed) rapid = min rapid (max (nat_abs feed * o.feed / 6000000) 16)
nominal_of o (Jog feed) rapid = min rapid (max (nat_abs feed * 100 / 6000000) 16)
