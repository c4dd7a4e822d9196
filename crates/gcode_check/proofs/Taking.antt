-- What becomes of a line, by what its parts say.
use Rattle.std.proofs.Common.{◌≡◌, ℕ, ◌≤◌, true, false, List, [], length, map, sym, ◌∙◌, ap, arith, Option, Some, None}
use Rattle.std.specs.List.{All}
use Rattle.std.proofs.lemmas.List.{length-map}
use Rattle.units.specs.declared.Nm3.{Nm3}
use Rattle.units.specs.declared.Steps3.{Steps3}
use Rattle.gcode_words.specs.declared.Word.{Word}
use Rattle.code_table.specs.Refusals.{or_else}
use Rattle.code_table.specs.declared.Code.{Code}
use Rattle.modal_state.specs.declared.Parser.{Parser}
use Rattle.settings.specs.declared.Settings.{Settings}
use Rattle.line_words.specs.WordRefusals.{words_refusal}
use Rattle.line_words.specs.Targets.{targets}
use Rattle.travel_limits.specs.Reach.{leave_travel, steps3}
use Rattle.gcode_check.specs.Conditions.{line_refusal}
use Rattle.gcode_check.specs.Effects.{parser_after, stops}
use Rattle.gcode_check.specs.Items.{items_of, IsItem}
use Rattle.gcode_check.specs.Verdicts.{verdict, refusal_of, accepted}
use Rattle.gcode_check.specs.declared.Accept.{Accept as Accepted}
use Rattle.gcode_check.specs.declared.Item.{Item}
use Rattle.gcode_check.specs.declared.Verdict.TheVariants.{Accept, Refuse, Limit}
use Rattle.gcode_check.proofs.Causes.{refuses, limits, accepts}

pub word_refuses : (p : Parser) (s : Settings) (ws : List Word) (code : Code) → words_refusal ws ≡ Some code → verdict p s ws ≡ Refuse code
word_refuses p s ws code e = refuses p s ws code (ap (λ (o : Option Code). or_else o (line_refusal p ws)) e)

by_line : (p : Parser) (ws : List Word) (r : Option Code) → words_refusal ws ≡ None → r ≡ line_refusal p ws → refusal_of p ws ≡ r
by_line p ws r pass e = ap (λ (o : Option Code). or_else o (line_refusal p ws)) pass ∙ sym e

pub line_refuses : (p : Parser) (s : Settings) (ws : List Word) (code : Code) → words_refusal ws ≡ None → Some code ≡ line_refusal p ws → verdict p s ws ≡ Refuse code
line_refuses p s ws code pass e = refuses p s ws code (by_line p ws (Some code) pass e)

pub travel_limits_it : (p : Parser) (s : Settings) (ws : List Word) (points : List Nm3) → words_refusal ws ≡ None → None ≡ line_refusal p ws → points ≡ targets p ws → true ≡ leave_travel s points
    → verdict p s ws ≡ Limit
travel_limits_it p s ws points pass none e leaves = limits p s ws (by_line p ws None pass none, ap (leave_travel s) (sym e) ∙ sym leaves)

same_accept : (a b : Accepted) → a.next ≡ b.next → a.items.items ≡ b.items.items → a ≡ b
same_accept a b en ei = ap (λ (n : Parser). record a { next = n }) en ∙ ap (λ (xs : List Item). record b { items = record { items = xs } }) ei

pub accepts_it : (p : Parser) (s : Settings) (ws : List Word) (points : List Nm3) (places : List Steps3) (a : Accepted) → words_refusal ws ≡ None → None ≡ line_refusal p ws → points ≡ targets p ws
    → false ≡ leave_travel s points → places ≡ map (steps3 s.limits.per_mm) points → a.next ≡ parser_after p ws points places → a.items.items ≡ items_of p ws places → verdict p s ws ≡ Accept a
accepts_it p s ws points places a pass none ep stays es en ei =
    let stops_are : places ≡ stops p s ws = es ∙ ap (map (steps3 s.limits.per_mm)) ep in
    let next_is : a.next ≡ parser_after p ws (targets p ws) (stops p s ws) = en ∙ ap (λ (xs : List Nm3). parser_after p ws xs places) ep ∙ ap (parser_after p ws (targets p ws)) stops_are in
    accepts p s ws a (by_line p ws None pass none, ap (leave_travel s) (sym ep) ∙ sym stays, same_accept (accepted p s ws) a (sym next_is) (sym (ei ∙ ap (items_of p ws) stops_are)))

pub as_many : (f : Nm3 → Steps3) (points all : List Nm3) (places : List Steps3) (n : ℕ) → places ≡ map f points → points ≡ all → length all ≤ n → length places ≤ n
as_many f points all places n e same few = rw (ap length e ∙ length-map points f ∙ ap length same) few

pub none_sound : (items : List Item) → items ≡ [] → All IsItem items
none_sound items e = rw e (λ k d few. absurd (omega arith))
