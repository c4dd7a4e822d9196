-- Where each actor has ended, what one got is all that the other gave: its end is the last.
use Rattle.std.proofs.Common.{◌≡◌, true, List, [], ◌∷◌, ◌++◌, append-nil, append_assoc, refl, sym, ap, ◌∙◌}
use Rattle.std.specs.List.{AllByRecursion, list_any}
use Rattle.std.proofs.lemmas.List.Elements.{recursion_from_All}
use Rattle.status_report.specs.declared.Reply.{Reply}
use Rattle.status_report.specs.declared.Reply.TheVariants as replies
use Rattle.step_line.specs.declared.Record.{Record}
use Rattle.step_line.specs.declared.Record.TheVariants as kinds
use Rattle.step_line.specs.Ending.{IsEnded}
use Rattle.status_report.specs.Answering.{is_bye}
use Rattle.run_law.specs.Fronts.{BeginsWith}
use Rattle.run_rules.proofs.Answering.{NoByes}

abbrev pub Others : {X : Type 0} → X → List X → Type 0
Others {X} x ys = AllByRecursion (λ (y : X). y ≡ x → ⊥) ys

-- nothing stands behind the last of its kind
none_behind : {X : Type 0} (x : X) (xs rest ys : List X) → Others x ys → (xs ++ x ∷ []) ++ rest ≡ ys ++ x ∷ [] → rest ≡ []
none_behind x [] rest [] others e = cc
none_behind x [] rest (y ∷ ys) others e = absurd (others.0 (let f : x ≡ y = cc in sym f))
none_behind x (z ∷ []) rest [] others e = absurd cc
none_behind x (z ∷ (w ∷ ws)) rest [] others e = absurd cc
none_behind x (z ∷ zs) rest (y ∷ ys) others e = let f : (zs ++ x ∷ []) ++ rest ≡ ys ++ x ∷ [] = cc in none_behind x zs rest ys others.1 f

-- a front that ends so is the whole
pub whole_front : {X : Type 0} (x : X) (whole front all some : List X) → Others x all → whole ≡ all ++ x ∷ [] → front ≡ some ++ x ∷ [] → BeginsWith whole front → front ≡ whole
whole_front x whole front all some others last first more =
    let e : (some ++ x ∷ []) ++ more.rest ≡ all ++ x ∷ [] = ap (λ ys. ys ++ more.rest) (sym first) ∙ sym more.is ∙ last in
    sym (more.is ∙ ap (λ ys. front ++ ys) (none_behind x some more.rest all others e) ∙ append-nil front)

pub records_whole : (put got : List Record) → IsEnded put → IsEnded got → BeginsWith put got → got ≡ put
records_whole put got all some more =
    whole_front kinds.End put got all.front some.front (recursion_from_All (λ (r : Record). r ≡ kinds.End → ⊥) all.front all.once) all.last some.last more

-- the first Bye
record HasBye (rs : List Reply) : Type 0 where
  before : List Reply
  behind : List Reply
  is : rs ≡ (before ++ replies.Bye ∷ []) ++ behind

bye_behind : (r : Reply) (rs : List Reply) → HasBye rs → HasBye (r ∷ rs)
bye_behind r rs b = record { before = r ∷ b.before; behind = b.behind; is = ap (λ (xs : List Reply). r ∷ xs) b.is }

bye_at : (rs : List Reply) → list_any is_bye rs ≡ true → HasBye rs
bye_at [] some = absurd cc
bye_at (replies.Bye ∷ rs) some = record { before = []; behind = rs; is = refl }
bye_at (replies.Ok ∷ rs) some = bye_behind replies.Ok rs (bye_at rs some)
bye_at (replies.Error n ∷ rs) some = bye_behind (replies.Error n) rs (bye_at rs some)
bye_at (replies.Banner ∷ rs) some = bye_behind replies.Banner rs (bye_at rs some)
bye_at (replies.Alarm n ∷ rs) some = bye_behind (replies.Alarm n) rs (bye_at rs some)
bye_at (replies.Message m ∷ rs) some = bye_behind (replies.Message m) rs (bye_at rs some)
bye_at (replies.Report t ∷ rs) some = bye_behind (replies.Report t) rs (bye_at rs some)
bye_at (replies.Setting n v ∷ rs) some = bye_behind (replies.Setting n v) rs (bye_at rs some)
bye_at (replies.Modes m ∷ rs) some = bye_behind (replies.Modes m) rs (bye_at rs some)
bye_at (replies.Offset r a ∷ rs) some = bye_behind (replies.Offset r a) rs (bye_at rs some)

last_part : (xs ys : List Reply) → xs ++ ys ≡ [] → ys ≡ []
last_part [] ys e = e
last_part (x ∷ xs) ys e = absurd cc

pub replies_whole : (answered got front : List Reply) → answered ≡ front ++ replies.Bye ∷ [] → NoByes front → list_any is_bye got ≡ true → BeginsWith answered got → got ≡ answered
replies_whole answered got front is none some more =
    let b = bye_at got some in
    let e : (b.before ++ replies.Bye ∷ []) ++ (b.behind ++ more.rest) ≡ front ++ replies.Bye ∷ [] =
    sym (append_assoc (b.before ++ replies.Bye ∷ []) b.behind more.rest) ∙ ap (λ (rs : List Reply). rs ++ more.rest) (sym b.is) ∙ sym more.is ∙ is in
    let nothing = last_part b.behind more.rest (none_behind replies.Bye b.before (b.behind ++ more.rest) front none e) in
    sym (more.is ∙ ap (λ (rs : List Reply). got ++ rs) nothing ∙ append-nil got)
