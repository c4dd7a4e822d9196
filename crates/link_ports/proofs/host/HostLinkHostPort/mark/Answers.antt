use Rattle.std.proofs.Common.{ℕ, ◌∙◌, refl, sym, subst}
use Rattle.link_ports.specs.Hosts.{LooksForRoom}
use Rattle.link_ports.proofs.Hosting.{mark_stored}
use Rattle.link_ports.proofs.host.HostLinkHostPort.mark.Goals as goal

pub returns : goal.returns
returns g c = λ rest h s t.
    let e = c.mark.ensures in (
      e.link ∙ s.0,
      s.1,
      mark_stored _ _ _ _ _ _ _ _ _ _ _ _ _ _ h s.2 e.stored.0 e.mark e.stored.1 e.got refl e.moments,
      record {
        room_looks = subst (λ (z : ℕ × ℕ). LooksForRoom g.row.RX h z.0 z.1) (λ i. (sym e.loads.0 i, sym e.loads.1 i)) s.3.room_looks;
        reply_looks = e.loads.2 ∙ s.3.reply_looks;
        saw = tt;
      },
    )
