-- Where a line goes that nothing refuses.
use Rattle.std.proofs.Common.{◌≡◌, ℕ, zero, suc, ◌<◌, Bool, false, List, [], ◌∷◌, length, get_or, refl, arith, Option, Some, None, IfNone, IfSome}
use Rattle.std.specs.List.{list_any, All}
use Rattle.gcode_words.specs.declared.Word.{Word}
use Rattle.units.specs.declared.Nm3.{Nm3}
use Rattle.code_table.specs.declared.Code.{Code}
use Rattle.modal_state.specs.declared.Parser.{Parser}
use Rattle.line_words.specs.Targets.{targets}
use Rattle.line_words.proofs.Tests.{or_false, row_passes}
use Rattle.travel_limits.specs.Reach.{IsNear, is_far}
use Rattle.travel_limits.proofs.Nearness.{near_is}
use Rattle.gcode_check.specs.NewOffsets.{new_offset}
use Rattle.gcode_check.specs.Conditions.{line_refusal, line_rows, target_out_of_range, sets_far}

none_at : {A : Type 0} (test : A → Bool) (xs : List A) (i : ℕ) (d : A) → list_any test xs ≡ false → i < length xs → test (get_or xs i d) ≡ false
none_at test [] i d e h = absurd (omega arith)
none_at test (x ∷ xs) zero d e h = (or_false (test x) (list_any test xs) e).0
none_at test (x ∷ xs) (suc i) d e h = none_at test xs i d (or_false (test x) (list_any test xs) e).1 (omega arith)

all_near : (points : List Nm3) → list_any is_far points ≡ false → All (IsNear) points
all_near points e = λ i d h. near_is (get_or points i d) (none_at is_far points i d e h)

set_near : (offset : Option Nm3) → sets_far offset ≡ false → IfSome offset (IsNear)
set_near None e = tt
set_near (Some offset) e = near_is offset e

goes_near : (p : Parser) (ws : List Word) → line_refusal p ws ≡ None → target_out_of_range p ws ≡ false
unfolding line_refusal
goes_near p ws e = row_passes (line_rows p ws) 11 (0, false) e (omega arith)

if_none : (r : Option Code) (P : Type 0) → (r ≡ None → P) → IfNone r P
if_none None P h = h refl
if_none (Some code) P h = tt

pub targets_near : (p : Parser) (ws : List Word) (r : Option Code) → r ≡ line_refusal p ws → IfNone r (All (IsNear) (targets p ws))
targets_near p ws r e = rw e (if_none (line_refusal p ws) (All (IsNear) (targets p ws))
    (λ none. all_near (targets p ws) (or_false (list_any is_far (targets p ws)) (sets_far (new_offset p ws)) (goes_near p ws none)).0))

pub offset_near : (p : Parser) (ws : List Word) (r : Option Code) → r ≡ line_refusal p ws → IfNone r (IfSome (new_offset p ws) (IsNear))
offset_near p ws r e = rw e (if_none (line_refusal p ws) (IfSome (new_offset p ws) (IsNear))
    (λ none. set_near (new_offset p ws) (or_false (list_any is_far (targets p ws)) (sets_far (new_offset p ws)) (goes_near p ws none)).1))
