use Rattle.std.proofs.Common.{arith}
use Rattle.host_journal.specs.Steps.{raw_of, live_of, got_of}
use Rattle.stream_host.proofs.Keeping.{few_scanned}
use Rattle.stream_host.proofs.Hosting.{has_room, few_answers}
use Rattle.stream_host.proofs.JobSteps.{did_read, did_fail, did_end, did_end_line}
use Rattle.stream_host.proofs.Turns.{has_written}
use Rattle.stream_host.proofs.host.Host.read.Goals as goal

pub read-requires : goal.read-requires
read-requires g c = let r = c.requires.fits in let n = few_scanned r.0 r.1 r.2.conducted in let e = r.2.job_is.scanned_is in record { few = omega arith }

pub returns-in-Bytes : goal.returns-in-Bytes
returns-in-Bytes g c = λ room h f. did_read c.args.self.now _ h _ _ f c.requires.may c.requires.going c.requires.calm c.requires.epoch (c.requires.settled room h f) (has_written c.args.self.now h f c.requires.shown) (c.read.ensures.bytes c.in-Bytes.is)

pub returns-in-Fault : goal.returns-in-Fault
returns-in-Fault g c = λ room h f. did_fail c.args.self.now _ h _ _ f c.requires.may c.requires.going c.requires.calm c.requires.epoch (c.requires.settled room h f) (has_written c.args.self.now h f c.requires.shown) (c.read.ensures.fault c.in-Fault.is)

pub finish_line-requires-clause-room : goal.finish_line-requires-clause-room
finish_line-requires-clause-room g c = let r = c.requires.fits in has_room c.args.self.now r.1 r.2 (r.2.line_is.scanning c.requires.may.scanning).1

pub returns-then-self : goal.returns-then-self
returns-then-self g c = λ room h f.
    let has = (f.line_is.scanning c.requires.may.scanning).0 in
    did_end_line c.args.self.now _ _ _ h _ _ f c.requires.may c.requires.going c.requires.calm c.requires.epoch (c.requires.settled room h f) (has_written c.args.self.now h f c.requires.shown) c.if-self.true (c.read.ensures.end c.in-End.is)
    (c.finish_line.ensures.line (raw_of h) has) c.finish_line.ensures.due (c.finish_line.ensures.counts (raw_of h) (live_of h) (got_of h) has f.counts_are (few_answers c.args.self.now h f)) c.finish_line.ensures.all (c.finish_line.ensures.pause (raw_of h) has)

pub returns-else-self : goal.returns-else-self
returns-else-self g c = λ room h f. did_end c.args.self.now _ h _ _ f c.requires.may c.requires.going c.requires.calm c.requires.epoch (c.requires.settled room h f) (has_written c.args.self.now h f c.requires.shown) c.if-self.false (c.read.ensures.end c.in-End.is)
