use Rattle.std.proofs.Common.{w64, sym, ◌∙◌, subst}
use Rattle.std.proofs.lemmas.Int.{to_z-of_z}
use Rattle.units.specs.Limits.{IsFeed}
use Rattle.gcode_check.proofs.Moving.{moved}
use Rattle.gcode_check.proofs.effects.move_parser.Goals as goal

pub set_offsets-requires : goal.set_offsets-requires
set_offsets-requires c = record { valid = c.requires.valid; near = c.requires.offset }

pub go_to_last-requires : goal.go_to_last-requires
go_to_last-requires c = record { here = c.set_offsets.ensures.valid.pos_nm; near = c.requires.near }

pub step_to_last-requires : goal.step_to_last-requires
step_to_last-requires c = record { here = c.set_offsets.ensures.valid.pos_steps; near = c.requires.near_steps }

pub returns-clause-state : goal.returns-clause-state
returns-clause-state c =
    let feed = to_z-of_z w64 c.feed_of-feed.result (record { sfits = c.feed_of-feed.type_inv }) in
    moved c.args.p.now c.set_offsets.new.p c.args.line.now c.args.points.now c.args.stops.now _ _ _ _ _ _ c.set_offsets.ensures.offsets c.requires.modes c.go_to_last.ensures.last c.step_to_last.ensures.last
    (feed ∙ c.feed_of-feed.ensures.feed) c.rpm_of-p.ensures.rpm c.tool_of-p.ensures

pub returns-clause-valid : goal.returns-clause-valid
returns-clause-valid c =
    let feed = to_z-of_z w64 c.feed_of-feed.result (record { sfits = c.feed_of-feed.type_inv }) in
    record {
      modal = c.requires.modal;
      offsets = c.set_offsets.ensures.valid.offsets;
      pos_nm = c.go_to_last.ensures.near;
      pos_steps = c.step_to_last.ensures.near;
      feed = subst IsFeed (sym feed) c.feed_of-feed.ensures.range;
      rpm = c.rpm_of-p.ensures.small;
    }

pub feed_of-feed-requires : goal.feed_of-feed-requires
feed_of-feed-requires c = c.requires.valid

pub rpm_of-p-requires : goal.rpm_of-p-requires
rpm_of-p-requires c =
    let feed = to_z-of_z w64 c.feed_of-feed.result (record { sfits = c.feed_of-feed.type_inv }) in
    record {
      modal = c.requires.modal;
      offsets = c.set_offsets.ensures.valid.offsets;
      pos_nm = c.go_to_last.ensures.near;
      pos_steps = c.step_to_last.ensures.near;
      feed = subst IsFeed (sym feed) c.feed_of-feed.ensures.range;
      rpm = c.set_offsets.ensures.valid.rpm;
    }
