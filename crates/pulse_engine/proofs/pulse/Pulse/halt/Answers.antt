use Rattle.std.proofs.Common.{◌∷◌, ◌∙◌, refl, sym}
use Rattle.pulse_engine.proofs.Moves.{seen, fits_halted}
use Rattle.pulse_engine.proofs.pulse.Pulse.halt.Goals as goal

pub halt-requires : goal.halt-requires
halt-requires g c = let r = c.requires.stands in (r.0, r.1, r.3, r.5)

pub returns-clause-logs : goal.returns-clause-logs
returns-clause-logs g c rest h k stands fits saw =
    let i = c.self.inside in
    let p = c.args.self.now in
    let was = seen i.hand i.tracer i.left i.owes i.over p c.self.view_is in
    let owes = c.requires.between.0 in
    let over = c.requires.between.1 in
    let t = c.halt.ensures rest h stands saw in
    (t.0, t.1, fits_halted p _ h k t.0 owes over refl (sym was.1 ∙ owes) (sym was.2 ∙ over) fits)
