use Rattle.std.proofs.Common.{◌≡◌, sym, ◌∙◌, arith}
use Rattle.std.proofs.lemmas.Int.{ints}
use Rattle.jog.specs.Jogs.{feed_said}
use Rattle.jog.proofs.Feeds.{said, unsaid}
use Rattle.jog.proofs.feed_said.Goals as goal

pub returns-then-not-stands-clause-feed : goal.returns-then-not-stands-clause-feed
returns-then-not-stands-clause-feed c = sym (unsaid c.args.p.now c.args.line.now (sym c.if-not-stands.ensures))

pub returns-clause-feed : goal.returns-clause-feed
returns-clause-feed c =
    let same : c.feed_of.result ≡ feed_said c.args.p.now c.args.line.now = c.feed_of.ensures.feed ∙ said c.args.p.now c.args.line.now (sym c.if-not-stands.ensures) in
    let range = c.feed_of.ensures.range in
    omega (arith, ints)
