use Rattle.std.proofs.Common.{◌∙◌, inl, inr, sym}
use Rattle.command_line.proofs.CommandLine.{first_is, first_demo, names_some_demo}
use Rattle.command_line.proofs.is_named.Goals as goal

pub returns-then-eq : goal.returns-then-eq
returns-then-eq c =
    let first = first_is c.args.words.now _ _ c.in-len1-up.len_at_least (sym c.eq.ensures ∙ c.if-eq.true) in (λ is. (first.0, inl first.1), λ named. c.if-eq.true)

pub returns-else-eq : goal.returns-else-eq
returns-else-eq c = (
  λ is. (
      let demo = c.names_demo.ensures.0 is in
      let first = first_demo c.args.words.now _ _ c.in-len1-up.len_at_least demo.1 in (first.0, inr (demo.0, first.1))
      ),
  λ named. c.names_demo.ensures.1 (names_some_demo c.args.words.now _ c.in-len1-up.len_at_least (sym c.eq.ensures ∙ c.if-eq.false) named),
)
