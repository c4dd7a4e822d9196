use Rattle.std.proofs.Common.{arith}
use Rattle.std.proofs.lemmas.Bool.Decides.{nat_tests}
use Rattle.host_journal.specs.Steps.{raw_of, live_of, got_of}
use Rattle.stream_host.proofs.Hosting.{has_room, scanned_byte, scanned_lf, few_answers}
use Rattle.stream_host.proofs.host.Host.scan_byte.Goals as goal

pub finish_line-requires-clause-room : goal.finish_line-requires-clause-room
finish_line-requires-clause-room c = let r = c.requires.fits in has_room c.args.self.now r.1 r.2 (r.2.line_is.scanning c.requires.may.scanning).1

pub returns-then-byte-eq10-clause-fits : goal.returns-then-byte-eq10-clause-fits
returns-then-byte-eq10-clause-fits c = λ room h f.
    let n = c.next_byte-byte.ensures in
    let s = c.args.self.now in
    let has = (f.line_is.scanning c.requires.may.scanning).0 in (
      c.next_byte-byte.result,
      scanned_lf s _ _ _ _ c.next_byte-byte.result h f c.requires.may c.requires.going c.requires.calm c.requires.epoch n.byte n.piece n.scanned n.reading (grind (arith, nat_tests, c.if-byte-eq10.true))
          (c.finish_line.ensures.line (raw_of h) has) c.finish_line.ensures.due (c.finish_line.ensures.counts (raw_of h) (live_of h) (got_of h) has f.counts_are (few_answers s h f)) c.finish_line.ensures.all (c.finish_line.ensures.pause (raw_of h) has) c.scan.ensures,
    )

pub returns-else-byte-eq10-clause-fits : goal.returns-else-byte-eq10-clause-fits
returns-else-byte-eq10-clause-fits c = λ room h f.
    let n = c.next_byte-byte.ensures in (
      c.next_byte-byte.result,
      scanned_byte c.args.self.now _ _ _ c.next_byte-byte.result h f c.requires.may c.requires.going c.requires.calm c.requires.epoch n.byte n.piece n.scanned n.reading (grind (arith, nat_tests, c.if-byte-eq10.false))
          c.feed.ensures.fed c.feed.ensures.due c.feed.ensures.whole c.scan.ensures,
    )
