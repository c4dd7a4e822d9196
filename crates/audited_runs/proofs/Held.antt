-- What a sink holds behind a text that was written whole.
use Rattle.std.proofs.Common.{◌≡◌, ℕ, false, List, [], ◌++◌, refl, ap, sym, ◌∙◌, append-nil, Some, None}
use Rattle.std.specs.declared.option.Option.{Option}
use Rattle.std.specs.Io.KnownBytes.{Appends}
use Rattle.outside.specs.Causes.{SinkState}
use Rattle.outside.specs.Writing.{Took}

appended : (was is : Option (List ℕ)) (front : List ℕ) → was ≡ Some [] → Appends was is front → is ≡ Some front
appended None is front none grows = absurd cc
appended (Some xs) None front none grows = absurd grows
appended (Some xs) (Some ys) front none grows =
    let nothing : xs ≡ [] = cc in
    ap Some (grows ∙ ap (λ (zs : List ℕ). zs ++ front) nothing)

pub took_all : (was is : SinkState) (text : List ℕ) → was.held ≡ Some [] → Took was is false text → is.held ≡ Some text
took_all was is text none took =
    let whole : text ≡ took.front = took.whole ∙ ap (λ (zs : List ℕ). took.front ++ zs) (took.all refl) ∙ append-nil took.front in
    appended was.held is.held took.front none took.held ∙ ap Some (sym whole)
