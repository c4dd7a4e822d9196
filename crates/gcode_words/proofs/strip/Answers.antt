use Rattle.std.proofs.Common.{◌≡◌, ◌∙◌, sym, ap, arith, length, refl, append-nil, ◌++◌, ◌∷◌, [], take}
use Rattle.std.proofs.lemmas.Bool.Decides.{nat_tests}
use Rattle.std.proofs.lemmas.Grind.{common_steps}
use Rattle.gcode_words.specs.Comments.{cut_within}
use Rattle.gcode_words.specs.Stripping.{plain, kept_by}
use Rattle.gcode_words.proofs.Fed.{step, overflows, fits, not_kept}
use Rattle.gcode_words.proofs.strip.Goals as goal
use Rattle.gcode_words.proofs.strip.Goals.{in-Keep+else-is_full, in_default}

pub loop-byte-init : goal.loop-byte-init
unfolding cut_within
loop-byte-init c = record { comment = c.new-stripper.ensures; kept = c.clear.ensures; few = grind (arith, common_steps, c.clear.ensures) }

pub loop-byte-preserved : goal.loop-byte-preserved
loop-byte-preserved c =
    let l = c.loop-byte in
    let one = step c.args.raw.now l.byte-index l.stripper c.feed.new.self c.feed.result c.loop-byte-test.true c.requires c.feed.ensures l.invariant.comment in
    record {
      comment = one.0;
      kept = elim c.match-feed.branch [
        | in-Keep+else-is_full w ↦ ap (λ o. o.items) w.out-is ∙ w.push.ensures.items ∙ ap (λ k. l.out.items ++ k) (sym (ap kept_by w.in-Keep.is)) ∙ ap (λ k. k ++ kept_by c.feed.result) l.invariant.kept ∙ sym one.1
        | in_default w ↦ ap (λ o. o.items) w.out-is ∙ l.invariant.kept ∙ sym (append-nil (plain (take l.byte-index c.args.raw.now))) ∙ ap (λ k. plain (take l.byte-index c.args.raw.now) ++ k) (sym (not_kept c.feed.result w.in_default.not-Keep)) ∙ sym one.1
      ];
      few = elim c.match-feed.branch [
        | in-Keep+else-is_full w ↦ grind (arith, common_steps, nat_tests, w.is_full.ensures, w.if-is_full.false, w.push.ensures.len, w.out-is)
        | in_default w ↦ rw w.out-is l.invariant.few
      ];
    }

pub returns-then-is_full : goal.returns-then-is_full
returns-then-is_full c =
    let l = c.loop-byte in
    let one = step c.args.raw.now l.byte-index l.stripper c.feed.new.self c.feed.result c.loop-byte-test.true c.requires c.feed.ensures l.invariant.comment in
    let full : length l.out.items ≡ 79 = grind (arith, nat_tests, c.is_full.ensures.value, c.if-is_full.true) in
    let more = one.1 ∙ ap (λ k. plain (take l.byte-index c.args.raw.now) ++ k) (ap kept_by c.in-Keep.is) ∙ ap (λ k. k ++ c.in-Keep.kept ∷ []) (sym l.invariant.kept) in
    let over = overflows c.args.raw.now l.byte-index l.out.items c.in-Keep.kept full more in
    record { kept = over.0; overflow = (λ h. over.1, λ h. refl); line = (λ h. absurd cc, λ h. absurd (omega (arith, over.1))) }

pub returns : goal.returns
returns c =
    let all = fits c.args.raw.now c.loop-byte.out.items c.loop-byte.byte-index c.loop-byte-test.false c.loop-byte.invariant.few c.loop-byte.invariant.kept in
    record { kept = all.0; overflow = (λ h. absurd cc, λ h. absurd (omega (arith, all.1))); line = (λ h. all.1, λ h. refl) }
