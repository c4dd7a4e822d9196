use Rattle.std.proofs.Common.{subst}
use Rattle.std.specs.Prelude.{MatchOption}
use Rattle.system_io.specs.Limits.{HasNoWord, IsFirstWord}
use Rattle.system_io.proofs.Told.{first_word_of}
use Rattle.system_io.proofs.limits.first_word.Goals as goal

pub returns : goal.returns
returns c = subst (λ text. MatchOption c.next.result (HasNoWord text) (λ word. IsFirstWord text word.now)) c.split_whitespace.ensures.rest
    (first_word_of c.split_whitespace.result c.next.new.self c.next.result c.next.ensures.steps)
