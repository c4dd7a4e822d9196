use Rattle.std.proofs.Common.{ℕ, ◌-◌, sym, subst}
use Rattle.actor_turns.specs.Worlds.{HasRunCounted}
use Rattle.actor_turns.proofs.runs.end_of.Goals as goal

pub returns-clause-counted : goal.returns-clause-counted
returns-clause-counted g c = λ form was now hist st done.
    subst (λ (pins : ℕ). HasRunCounted c.args.world.host.attended g.row.RX (g.row.N - 1) form was now c.end.result hist.stepping pins) (sym (c.pins.ensures hist st.holds)) (c.end.ensures.counted form was now hist st done)
