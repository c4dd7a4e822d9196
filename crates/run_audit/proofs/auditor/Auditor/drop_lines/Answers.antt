use Rattle.std.proofs.Common.{◌≡◌, ◌+◌, ◌∙◌, ◌∷◌, ◌++◌, [], append-nil, map, Some, ap, refl, sym, subst, arith}
use Rattle.std.proofs.lemmas.List.{length_push}
use Rattle.audit_readers.specs.Jobs.{JobRead}
use Rattle.run_texts.specs.Sent.Sent.{a_text, a_stop}
use Rattle.run_audit.specs.Coming.{is_alarm}
use Rattle.audit_texts.specs.Reading.{KnowsJob}
use Rattle.audit_texts.specs.SoFar.{IsItem, JobSoFar}
use Rattle.run_audit.specs.UnderWay.{mark_of}
use Rattle.audit_texts.specs.declared.sending.Item.{Item}
use Rattle.run_audit.specs.declared.auditor.Auditor.{Auditor}
use Rattle.run_audit.proofs.Under.{drops_none, drops_on, drops_more, line_dropped, dropping_read, bad_found, next_stays, on_or_bad}
use Rattle.run_audit.specs.Finding.{LeadsOnIf, LooksAndHears}
use Rattle.run_audit.proofs.ResetSteps.{FindsWaiting, MakesReset, line_more, lines_looked, none_found, not_so_many_lines, same_but_sending, stop_made, stop_more}
use Rattle.run_audit.proofs.auditor.Auditor.drop_lines.Goals as goal

pub lines-init : goal.lines-init
lines-init g c = record {
  known = c.requires.known;
  same = refl;
  others = record { course = refl; listening = refl; recorded = refl; broken = refl; last = refl };
  answered = refl;
  few = omega arith;
  reads = λ jt sent h. ([], refl, subst (JobSoFar c.args.self.now.sending (g.J.Source.state c.args.job.now) jt) (sym (append-nil sent)) h);
  dropping = λ console steps jt ct st u. ([], refl, drops_none c.args.self.now (g.J.Source.state c.args.job.now) console steps jt ct st u);
}

pub lines-preserved : goal.lines-preserved
lines-preserved g c =
    let i = c.lines.invariant in
    let a = c.lines.self in
    let b : Auditor = record a { sending = c.look.new.self } in
    let e : Auditor = record a { sending = c.take_line.new.self } in
    let before = g.J.Source.state c.lines.job in
    let after = g.J.Source.state c.look.new.source in
    let kept = c.look.new.self.reader.line.kept in
    let look = c.in-Ok-Line.ensures in
    let item = subst (λ (x : Item). IsItem x c.look.new.self) c.in-Ok-Line.field-0-is look.item in
    let less = c.saturating_add-dropped.ensures in
    let test = c.lines-test.true in
    let few = i.few in
    let one : c.saturating_add-dropped.result ≡ c.lines.dropped + 1 = grind (arith, less, few, test) in
    record {
      known = subst (λ (r : JobRead). KnowsJob r after) (sym c.take_line.ensures.reader) look.known.0;
      same = look.known.1 ∙ i.same;
      others = record { course = i.others.course; listening = i.others.listening; recorded = i.others.recorded; broken = i.others.broken; last = c.take_line.ensures.last ∙ look.last ∙ i.others.last };
      answered = i.answered;
      few = omega (arith, one, few);
      reads = line_more c.args.self.now.sending a.sending c.look.new.self c.take_line.new.self (g.J.Source.state c.args.job.now) before after c.lines.dropped c.saturating_add-dropped.result kept one i.reads look.so_far (c.take_line.ensures.told item.0 item.1 after);
      dropping = λ console steps jt ct st u.
          let d = i.dropping console steps jt ct st u in
          let count = d.1 in
          let push = length_push d.0 kept in (
            d.0 ++ kept ∷ [],
            omega (arith, one, count, push),
            line_dropped a b e before after console steps kept jt ct st d.0 look.so_far (λ t told h. h) (λ t told h. h) refl refl (λ t told h. c.take_line.ensures.told item.0 item.1 after t told h) refl refl refl refl d.2,
          );
    }

pub make_reset-requires : goal.make_reset-requires
make_reset-requires g c = record { next = next_stays c.args.self.now (record c.lines.self { sending = c.take_stop.new.self }) (mark_of c.args.mark) c.lines.invariant.others.recorded c.lines.invariant.others.broken c.requires.next }

pub returns-in-Ok-Stop-clause-goes_on : goal.returns-in-Ok-Stop-clause-goes_on
returns-in-Ok-Stop-clause-goes_on g c = λ console steps.
    let i = c.lines.invariant in
    let a = c.lines.self in
    let b : Auditor = record a { sending = c.look.new.self } in
    let e : Auditor = record a { sending = c.take_stop.new.self } in
    let before = g.J.Source.state c.lines.job in
    let after = g.J.Source.state c.look.new.source in
    let look = c.in-Ok-Stop.ensures in
    let item = subst (λ (x : Item). IsItem x c.look.new.self) c.in-Ok-Stop.field-0-is look.item in
    on_or_bad c.args.self.now c.make_reset.new.self (g.J.Source.state c.args.job.now) console steps after console steps c.make_reset.result c.make_reset.ensures.bad (λ jt ct st u.
    let d = i.dropping console steps jt ct st u in
    let read = drops_on a b before console steps after (map a_text d.0) jt ct st look.so_far (λ t told h. h) (λ t told h. h) (λ none. (none, λ f ss rs xs h. h)) d.2 in
    let more = drops_more b e after console steps (map a_text d.0) a_stop jt ct st (λ t told h. h) (λ t told h. h) (λ t told h. c.take_stop.ensures.told item after t told h) (λ none. (none, λ f ss rs xs h. h)) read in
    c.make_reset.ensures.so_far d.0 d.1 after console steps jt ct st more)

pub returns-in-Ok-Nothing-clause-goes_on : goal.returns-in-Ok-Nothing-clause-goes_on
returns-in-Ok-Nothing-clause-goes_on g c = λ console steps.
    let i = c.lines.invariant in
    let a = c.lines.self in
    let b : Auditor = record a { sending = c.look.new.self } in
    let before = g.J.Source.state c.lines.job in
    let after = g.J.Source.state c.look.new.source in
    bad_found c.args.self.now b (g.J.Source.state c.args.job.now) console steps after console steps c.none_comes.result c.none_comes.ensures.bad
    (λ jt ct st u.
    let d = i.dropping console steps jt ct st u in
    dropping_read b after console steps jt ct st (map a_text d.0) (drops_on a b before console steps after (map a_text d.0) jt ct st c.in-Ok-Nothing.ensures.so_far (λ t told h. h) (λ t told h. h) (λ none. (none, λ f ss rs xs h. h)) d.2))

pub returns-clause-goes_on : goal.returns-clause-goes_on
returns-clause-goes_on g c = λ console steps.
    let i = c.lines.invariant in
    let after = g.J.Source.state c.lines.job in
    bad_found c.args.self.now c.lines.self (g.J.Source.state c.args.job.now) console steps after console steps c.bad_behind.result c.bad_behind.ensures.bad
    (λ jt ct st u. let d = i.dropping console steps jt ct st u in dropping_read c.lines.self after console steps jt ct st (map a_text d.0) d.2)

pub returns-in-Ok-Stop-clause-stands : goal.returns-in-Ok-Stop-clause-stands
returns-in-Ok-Stop-clause-stands g c = λ later behind cause calm resets.
    let i = c.lines.invariant in
    let a = c.args.self.now in
    let now = c.take_stop.new.self in
    let look = c.in-Ok-Stop.ensures in
    let item = subst (λ (x : Item). IsItem x c.look.new.self) c.in-Ok-Stop.field-0-is look.item in
    let after = g.J.Source.state c.look.new.source in
    stop_made a c.make_reset.new.self c.args.mark c.lines.dropped c.is_alarm-alarm.result c.make_reset.result now (g.J.Source.state c.args.job.now) after
    (subst (λ (x : Auditor). MakesReset (record x { sending = now }) c.make_reset.new.self c.args.mark c.lines.dropped c.is_alarm-alarm.result c.make_reset.result) (same_but_sending a c.lines.self i.others i.answered) c.make_reset.ensures.stands)
    later behind cause calm resets (c.is_alarm-alarm.ensures ∙ ap is_alarm c.known.ensures) (c.take_stop.ensures.last ∙ look.last ∙ i.others.last)
    (stop_more a.sending c.lines.self.sending c.look.new.self now (g.J.Source.state c.args.job.now) (g.J.Source.state c.lines.job) after c.lines.dropped i.reads look.so_far (c.take_stop.ensures.told item after))

pub returns-in-Ok-Nothing-clause-stands : goal.returns-in-Ok-Nothing-clause-stands
returns-in-Ok-Nothing-clause-stands g c = λ later behind cause calm resets console steps.
    let i = c.lines.invariant in
    let a = c.args.self.now in
    let now = c.look.new.self in
    let look = c.in-Ok-Nothing.ensures in
    let item = subst (λ (x : Item). IsItem x c.look.new.self) c.in-Ok-Nothing.field-0-is look.item in
    let before = g.J.Source.state c.args.job.now in
    let after = g.J.Source.state c.look.new.source in
    let same = same_but_sending a c.lines.self i.others i.answered in
    subst (λ (x : Auditor). LeadsOnIf (LooksAndHears a (mark_of c.args.mark) a.listening.known) a (record x { sending = now }) before console steps after console steps (Some c.none_comes.result)) (sym same)
    (none_found a (mark_of c.args.mark) c.lines.dropped c.none_comes.result now before after later calm resets (look.last ∙ i.others.last) (look.over c.in-Ok-Nothing.field-0-is) item
    (subst (λ (x : Auditor). FindsWaiting x c.lines.dropped c.none_comes.result) same c.none_comes.ensures.line)
    (lines_looked a.sending c.lines.self.sending now before (g.J.Source.state c.lines.job) after c.lines.dropped i.reads look.so_far) console steps)

pub returns-clause-stands : goal.returns-clause-stands
returns-clause-stands g c = λ later behind cause calm resets console steps.
    let few = c.lines.invariant.few in
    let over = c.lines-test.false in
    let end = c.lines.auto.counter-end in
    not_so_many_lines c.args.self.now c.lines.self (mark_of c.args.mark) c.lines.dropped c.bad_behind.result c.lines.self.sending (g.J.Source.state c.args.job.now) (g.J.Source.state c.lines.job) (grind (arith, few, over, end)) c.lines.invariant.reads console steps
