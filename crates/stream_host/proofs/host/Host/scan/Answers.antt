use Rattle.std.proofs.Common.{◌∷◌, [], ◌++◌, ◌∙◌, ap, map, arith}
use Rattle.stream_host.specs.Hosts.{awaits_by}
use Rattle.host_journal.specs.Steps.Step.{scanned}
use Rattle.stream_host.proofs.JobSteps.{did_scan}
use Rattle.stream_host.proofs.host.Host.scan.Goals as goal

pub loop-self-init : goal.loop-self-init
loop-self-init c = record {
  shut = c.scan_byte.ensures.shut ∙ c.requires.going;
  calm = c.scan_byte.ensures.alarm ∙ c.requires.calm;
  epoch = ap awaits_by c.scan_byte.ensures.resets ∙ c.requires.epoch;
  text = c.scan_byte.ensures.text;
  scans = λ room h f. let n = c.scan_byte.ensures.fits room h f in (n.0 ∷ [], omega arith, n.1);
}

pub loop-self-preserved : goal.loop-self-preserved
loop-self-preserved c =
    let n = c.scan_byte-in-loop-self.ensures in
    let i = c.loop-self.invariant in
    record {
      shut = n.shut ∙ i.shut;
      calm = n.alarm ∙ i.calm;
      epoch = ap awaits_by n.resets ∙ i.epoch;
      text = n.text ∙ i.text;
      scans = λ room h f. let was = i.scans room h f in let next = n.fits room (map scanned was.0 ++ h) was.2 in (next.0 ∷ was.0, omega arith, next.1);
    }

pub returns : goal.returns
returns c = λ room h f. did_scan c.args.self.now _ h c.loop-self.invariant.text (c.loop-self.invariant.scans room h f)

pub scan_byte-requires : goal.scan_byte-requires
scan_byte-requires c = record { may = c.requires.may; going = c.requires.going; calm = c.requires.calm; epoch = c.requires.epoch; fits = c.requires.fits }

pub scan_byte-requires-in-loop-self : goal.scan_byte-requires-in-loop-self
scan_byte-requires-in-loop-self c =
    let i = c.loop-self.invariant in
    let r = c.requires.fits in
    let was = i.scans r.0 r.1 r.2 in
    record { may = c.may_scan.ensures.may c.loop-self-test.true; going = i.shut; calm = i.calm; epoch = i.epoch; fits = (r.0, map scanned was.0 ++ r.1, was.2) }
