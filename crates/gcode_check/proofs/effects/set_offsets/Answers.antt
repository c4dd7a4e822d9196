use Rattle.std.proofs.Common.{sym}
use Rattle.modal_state.specs.Modes.{origin_nm}
use Rattle.gcode_check.proofs.Moving.{with_system, with_g92, with_none, with_home28, with_home30, with_same, set_in, system_within, g92_within, set_valid, g92_valid, home28_valid, home30_valid, origin_within}
use Rattle.gcode_check.proofs.effects.set_offsets.Goals as goal

pub set_offset-requires : goal.set_offset-requires
set_offset-requires c = record {
  offsets = c.requires.valid.offsets;
  at = system_within c.args.p.now c.args.line.now c.new_system_offset-at.result (sym c.if-has.ensures.value) c.new_system_offset-at.ensures c.requires.near;
}

pub returns-then-has : goal.returns-then-has
returns-then-has c =
    let p = c.args.p.now in
    record {
      offsets = set_in p _ _ (with_system p c.args.line.now _ _ _ (sym c.if-has.ensures.value) c.set_system-system.ensures.system c.new_system_offset-at.ensures c.set_offset.ensures.offsets);
      valid = set_valid p c.set_offset.new.offsets c.requires.valid c.set_offset.ensures.valid;
    }

pub returns-then-has-2 : goal.returns-then-has-2
returns-then-has-2 c =
    let p = c.args.p.now in
    let ws = c.args.line.now in
    let at = c.new_g92-p.result in
    let no10 = sym c.if-has.ensures.value in
    let sets = sym c.if-has-2.ensures.value in
    record {
      offsets = set_in p (record p.offsets { g92 = at }) _ (with_g92 p ws at no10 sets c.new_g92-p.ensures);
      valid = set_valid p (record p.offsets { g92 = at }) c.requires.valid (g92_valid p.offsets at c.requires.valid.offsets (g92_within p ws at no10 sets c.new_g92-p.ensures c.requires.near));
    }

pub returns-then-has-3 : goal.returns-then-has-3
returns-then-has-3 c =
    let p = c.args.p.now in
    record {
      offsets = set_in p (record p.offsets { g92 = origin_nm }) _ (with_none p c.args.line.now (sym c.if-has.ensures.value) (sym c.if-has-2.ensures.value) (sym c.if-has-3.ensures.value));
      valid = set_valid p (record p.offsets { g92 = origin_nm }) c.requires.valid (g92_valid p.offsets origin_nm c.requires.valid.offsets origin_within);
    }

pub returns-then-has-4 : goal.returns-then-has-4
returns-then-has-4 c =
    let p = c.args.p.now in
    record {
      offsets = set_in p (record p.offsets { home28 = p.pos_nm }) _ (with_home28 p c.args.line.now (sym c.if-has.ensures.value) (sym c.if-has-2.ensures.value) (sym c.if-has-3.ensures.value) (sym c.if-has-4.ensures.value));
      valid = set_valid p (record p.offsets { home28 = p.pos_nm }) c.requires.valid (home28_valid p.offsets p.pos_nm c.requires.valid.offsets c.requires.valid.pos_nm);
    }

pub returns-then-has-5 : goal.returns-then-has-5
returns-then-has-5 c =
    let p = c.args.p.now in
    record {
      offsets = set_in p (record p.offsets { home30 = p.pos_nm }) _ (with_home30 p c.args.line.now (sym c.if-has.ensures.value) (sym c.if-has-2.ensures.value) (sym c.if-has-3.ensures.value) (sym c.if-has-4.ensures.value) (sym c.if-has-5.ensures.value));
      valid = set_valid p (record p.offsets { home30 = p.pos_nm }) c.requires.valid (home30_valid p.offsets p.pos_nm c.requires.valid.offsets c.requires.valid.pos_nm);
    }

pub returns-else-has-5 : goal.returns-else-has-5
returns-else-has-5 c =
    let p = c.args.p.now in
    record {
      offsets = set_in p p.offsets _ (with_same p c.args.line.now (sym c.if-has.ensures.value) (sym c.if-has-2.ensures.value) (sym c.if-has-3.ensures.value) (sym c.if-has-4.ensures.value) (sym c.if-has-5.ensures.value));
      valid = c.requires.valid;
    }
