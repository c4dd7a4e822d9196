use Rattle.std.proofs.Common.{◌≡◌, ◌≤◌, take}
use Rattle.arrayvec.specs.ArrayVec.{array_vec_len}
use Rattle.gcode_words.specs.Comments.{comment_after}
use Rattle.gcode_words.specs.Stripping.{plain}
use Rattle.gcode_words.proofs.strip.Given as goal

-- the bytes so far are stripped
abbrev pub invariant-loop-byte : goal.invariant-loop-byte
invariant-loop-byte l = record {
  comment : l.stripper ≡ comment_after (take l.byte-index l.raw);
  kept : l.out.items ≡ plain (take l.byte-index l.raw);
  few : array_vec_len l.out ≤ 79;
}
