use Rattle.std.proofs.Common.{take}
use Rattle.line_interpreter.specs.Keeping.{IsKept}
use Rattle.audit_texts.proofs.sending.Sending.kept.Given as goal

abbrev pub invariant-loop-byte : goal.invariant-loop-byte
invariant-loop-byte l = IsKept l.kept (take l.byte-index l.bytes)
