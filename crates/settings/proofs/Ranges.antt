-- What it says that each setting can have its value.
use Rattle.std.proofs.Common.{◌≡◌, ℕ, ◌≤◌, Bool, true, false, ◌&&◌, ◌==◌, nat_le, refl, arith}
use Rattle.std.specs.List.{AllByRecursion}
use Rattle.std.proofs.lemmas.Bool.Decides.{nat_tests}
use Rattle.units.specs.Truths.{one_if}
use Rattle.units.specs.declared.Per3.{Per3}
use Rattle.units.specs.Limits.{OnEachAxis}
use Rattle.settings.specs.declared.Settings.{Settings}
use Rattle.settings.specs.Numbers.{Setting, setting, rows, can_have, IsSettings}
use Rattle.settings.specs.declared.Keeping.TheVariants.{Switch}

abbrev can_be : ℕ → ℕ → ℕ → Bool
can_be low high x = nat_le low x && nat_le x high && (x == x)

-- each setting can have its value
abbrev pub EachCan : Settings → Type 0
EachCan s = AllByRecursion (λ (row : Setting). can_have row (row.value s) ≡ true) rows

in_range : (low high x : ℕ) → can_be low high x ≡ true → (low ≤ x) × (x ≤ high)
in_range low high x can = (grind (arith, nat_tests), grind (arith, nat_tests))

can : (low high x : ℕ) → (low ≤ x) × (x ≤ high) → can_be low high x ≡ true
can low high x within = grind (arith, nat_tests)

can_switch : (b : Bool) → can_have (setting 20 Switch 0 0 255 (λ s. one_if s.soft)) (one_if b) ≡ true
can_switch true = refl
can_switch false = refl

on_axes : (low high : ℕ) (p : Per3) → can_be low high p.x ≡ true → can_be low high p.y ≡ true → can_be low high p.z ≡ true
    → OnEachAxis (λ n. (low ≤ n) × (n ≤ high)) p
on_axes low high p x y z = record { x = in_range low high p.x x; y = in_range low high p.y y; z = in_range low high p.z z }

pub settings_from_rows : (s : Settings) → EachCan s → IsSettings s
settings_from_rows s (report, (deviation, (soft, (px, (py, (pz, (rx, (ry, (rz, (ax, (ay, (az, (tx, (ty, (tz, rest))))))))))))))) = record {
  deviation = (in_range 0 10000 s.deviation deviation).1;
  limits = record {
    per_mm = on_axes 1000 10000000 s.limits.per_mm px py pz;
    rate = on_axes 1000 1000000000 s.limits.rate rx ry rz;
    accel = on_axes 1000 1000000000 s.limits.accel ax ay az;
  };
  travel = on_axes 1000 10000000 s.travel tx ty tz;
}

pub rows_from_settings : (s : Settings) → s.report ≤ 255 → IsSettings s → EachCan s
rows_from_settings s small h = (
  can 0 255 s.report (omega arith, small),
  (
    can 0 10000 s.deviation (omega arith, h.deviation),
    (
      can_switch s.soft,
      (
        can 1000 10000000 _ h.limits.per_mm.x,
        (
          can 1000 10000000 _ h.limits.per_mm.y,
          (
            can 1000 10000000 _ h.limits.per_mm.z,
            (
              can 1000 1000000000 _ h.limits.rate.x,
              (
                can 1000 1000000000 _ h.limits.rate.y,
                (
                  can 1000 1000000000 _ h.limits.rate.z,
                  (
                    can 1000 1000000000 _ h.limits.accel.x,
                    (
                      can 1000 1000000000 _ h.limits.accel.y,
                      (
                        can 1000 1000000000 _ h.limits.accel.z,
                        (can 1000 10000000 _ h.travel.x, (can 1000 10000000 _ h.travel.y, (can 1000 10000000 _ h.travel.z, tt))),
                      ),
                    ),
                  ),
                ),
              ),
            ),
          ),
        ),
      ),
    ),
  ),
)
