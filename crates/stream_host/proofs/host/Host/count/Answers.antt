use Rattle.std.proofs.Common.{refl, ap}
use Rattle.status_report.specs.declared.Reply.TheVariants.{Ok, Error}
use Rattle.host_journal.specs.Steps.{live_of, got_of}
use Rattle.stream_host.proofs.Replying.{counted_answer, counted_other, few_counted, is_no_answer}
use Rattle.stream_host.proofs.host.Host.count.Goals as goal

pub add_answer-requires-clause-answered : goal.add_answer-requires-clause-answered
add_answer-requires-clause-answered c = let r = c.requires in (few_counted c.args.self.now r.1 r.2).0

pub add_error-requires-clause-answered : goal.add_error-requires-clause-answered
add_error-requires-clause-answered c = let r = c.requires in (few_counted c.args.self.now r.1 r.2).0

pub add_error-requires-clause-errors : goal.add_error-requires-clause-errors
add_error-requires-clause-errors c = let r = c.requires in (few_counted c.args.self.now r.1 r.2).1

pub returns-in-Ok-clause-counts : goal.returns-in-Ok-clause-counts
returns-in-Ok-clause-counts c = λ room h f lines.
    let a = c.add_answer.ensures in
    rw c.in-Ok.is (counted_answer c.args.self.now.counts _ Ok (live_of h) (got_of h) f.counts_are refl a.fewer a.summed (ap (λ d. d.lines) a.same) (ap (λ d. d.answered) a.same) (ap (λ d. d.errors) a.same))

pub returns-in-Error-clause-counts : goal.returns-in-Error-clause-counts
returns-in-Error-clause-counts c = λ room h f lines.
    let a = c.add_error.ensures in
    rw c.in-Error.is (counted_answer c.args.self.now.counts _ (Error _) (live_of h) (got_of h) f.counts_are refl a.fewer a.summed (ap (λ d. d.lines) a.same) (ap (λ d. d.answered) a.same) (ap (λ d. d.errors) a.same))

pub returns-in_default : goal.returns-in_default
returns-in_default c = record {
  counts = λ room h f lines.
      let n = is_no_answer c.args.reply.now c.in_default.not-Ok c.in_default.not-Error in
      counted_other c.args.self.now.counts c.args.reply.now (live_of h) (got_of h) f.counts_are n.0 n.1;
  pause = refl;
  all = refl;
  same = refl;
}

pub returns-in-Ok-clause-pause : goal.returns-in-Ok-clause-pause
returns-in-Ok-clause-pause c = ap (λ d. d.pause_at) c.add_answer.ensures.same

pub returns-in-Error-clause-pause : goal.returns-in-Error-clause-pause
returns-in-Error-clause-pause c = ap (λ d. d.pause_at) c.add_error.ensures.same

pub returns-in-Ok-clause-all : goal.returns-in-Ok-clause-all
returns-in-Ok-clause-all c = ap (λ d. d.all) c.add_answer.ensures.same

pub returns-in-Error-clause-all : goal.returns-in-Error-clause-all
returns-in-Error-clause-all c = ap (λ d. d.all) c.add_error.ensures.same
