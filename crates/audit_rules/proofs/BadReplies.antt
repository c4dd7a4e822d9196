-- A bad reply stands at one place of a console.
use Rattle.std.proofs.Common.{◌≡◌, ◌≤◌, ℕ, List, ◌∷◌, ◌++◌, length, drop, append_assoc, length-append, refl, sym, ap, ◌∙◌, subst, arith}
use Rattle.std.proofs.lemmas.List.{drop_at}
use Rattle.status_report.specs.Replies.{reply_text}
use Rattle.status_report.specs.declared.Reply.TheVariants.{Banner}
use Rattle.run_rules.specs.Told.{replies_text}
use Rattle.step_record.specs.declared.forms.Line.{Line}
use Rattle.run_texts.specs.Sent.{Sent}
use Rattle.audit_rules.specs.StepTexts.{records_of}
use Rattle.audit_rules.specs.Telling.{StandsUpTo, StandsNoFurther, HasNoBanner, HasBadReply}
use Rattle.audit_rules.specs.Telling.HasBadReply.{at_once, behind}
use Rattle.audit_rules.proofs.Places.{one_place}

-- a console that stands up to a point begins with the banner
begins : {A : Type 0} (sent : List Sent) (console steps : List ℕ) (line : ℕ) → HasNoBanner console → StandsNoFurther sent console steps line → A
begins sent console steps line none x =
    let t = x.stands.told in
    absurd (none (replies_text t.behind ++ x.rest) (t.text ∙ append_assoc (reply_text Banner) (replies_text t.behind) x.rest))

pub no_banner : (sent : List Sent) (console steps : List ℕ) (line : ℕ) → HasNoBanner console → HasBadReply sent console steps line → line ≡ 1
no_banner sent console steps line none (at_once n e) = e
no_banner sent console steps line none (behind x) = begins sent console steps line none x

-- what two fronts leave, if it is as long
same_left : (xs ys r s : List ℕ) → xs ++ r ≡ ys ++ s → length r ≡ length s → r ≡ s
same_left xs ys r s e long =
    let whole : length (xs ++ r) ≡ length (ys ++ s) = ap length e in
    let fronts : length xs ≡ length ys = omega (arith, whole, long, length-append xs r, length-append ys s) in
    sym (drop_at xs r (length xs) refl) ∙ ap (drop (length xs)) e ∙ ap (λ (n : ℕ). drop n (ys ++ s)) fronts ∙ drop_at ys s (length ys) refl

no_longer : (sent : List Sent) (console steps : List ℕ) (line other : ℕ) (x : StandsNoFurther sent console steps line) (y : StandsNoFurther sent console steps other) → length x.rest ≤ length y.rest
no_longer sent console steps line other x y =
    let same = one_place sent console steps x.steps_stand y.steps_stand in
    x.furthest y.point y.left y.rest (subst (λ (ls : List Line). StandsUpTo sent console (records_of ls) y.point y.left y.rest) (sym same.done) y.stands)

pub one_rest : (sent : List Sent) (console steps : List ℕ) (line other : ℕ) (x : StandsNoFurther sent console steps line) (y : StandsNoFurther sent console steps other) → x.rest ≡ y.rest
one_rest sent console steps line other x y =
    let few = no_longer sent console steps line other x y in
    let many = no_longer sent console steps other line y x in
    let t = x.stands.told in
    let u = y.stands.told in
    same_left (replies_text (Banner ∷ t.behind)) (replies_text (Banner ∷ u.behind)) x.rest y.rest (sym t.text ∙ u.text) (omega (arith, few, many))
