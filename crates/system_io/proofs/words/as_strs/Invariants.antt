use Rattle.std.proofs.Common.{◌≡◌, map, take}
use Rattle.std.specs.String.{string_bytes}
use Rattle.system_io.proofs.words.as_strs.Given as goal

-- the words so far are the first of those that are owned
abbrev pub invariant-loop-word : goal.invariant-loop-word
invariant-loop-word l = map (λ w. w.now) l.words.items ≡ map (λ w. string_bytes w) (take l.word-index l.owned)
