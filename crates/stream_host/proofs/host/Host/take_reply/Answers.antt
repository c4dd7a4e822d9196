use Rattle.std.proofs.Common.{ap, ◌∙◌, cond, ◌||◌, arith}
use Rattle.stream_host.specs.Hosts.{shown}
use Rattle.status_report.specs.Answering.{is_bye, is_report}
use Rattle.run_rules.specs.Work.{is_limit}
use Rattle.host_journal.specs.Steps.{got_one}
use Rattle.stream_host.proofs.Hosting.{few_banners}
use Rattle.stream_host.proofs.Replying.{turned_epoch, got_reply, tells_reply}
use Rattle.stream_host.proofs.host.Host.take_reply.Goals as goal

pub begin_epoch-requires : goal.begin_epoch-requires
begin_epoch-requires c = let r = c.requires.fits in let e = ap (λ x. x.resets.banners) c.count.ensures.same in let b = few_banners c.args.self.now r.1 r.2 in record { few = omega arith }

pub returns-clause-tells : goal.returns-clause-tells
returns-clause-tells c = λ h job console.
    let r = c.args.reply.now in
    tells_reply c.args.self.now _ r h job console (c.show.ensures.text ∙ ap (λ t. shown t r) (c.begin_epoch.ensures.text ∙ ap (λ s. s.text) c.count.ensures.same))

pub returns-clause-fits : goal.returns-clause-fits
returns-clause-fits c = λ room h f lines.
    let s = c.args.self.now in let r = c.args.reply.now in let w = c.show.ensures in let n = c.count.ensures in let e = c.begin_epoch.ensures in
    let turned = turned_epoch s _ _ r h f n.same (n.counts room h f lines) n.pause n.all (record { resets = e.resets; begun = e.begun; none = e.none }) in
    rw (w.same, turned.same) (got_reply s _ _ _ _ _ r h f c.requires.going lines turned (w.text ∙ ap (λ t. shown t.text r) turned.same) (w.bye ∙ ap (λ t. t.bye || is_bye r) turned.same)
    (c.is_alarmed_after-self.ensures ∙ ap (λ b. b || is_limit r) (ap (λ t. t.alarm) w.same ∙ ap (λ t. t.alarm) turned.same))
    (c.told-self.ensures ∙ ap (λ x. cond (is_report r) (got_one x) x) (ap (λ t. t.asking) w.same ∙ ap (λ t. t.asking) turned.same)))
