use Rattle.std.proofs.Common.{◌∙◌, map, sym}
use Rattle.command_line.proofs.CommandLine.{refused_words}
use Rattle.command_line.proofs.read_words.Goals as goal

pub returns-then-not-is_named-clause-refused : goal.returns-then-not-is_named-clause-refused
returns-then-not-is_named-clause-refused c = λ e.
    refused_words (map (λ w. w.now) c.args.words.now) (λ named. let is = c.is_named.ensures.1 named in let both = sym c.if-not-is_named.true ∙ is in cc)
