use Rattle.std.proofs.Common.{refl, sym, ap, ◌∙◌, subst}
use Rattle.std.specs.List.{All}
use Rattle.units.specs.Lengths.{IsPlace}
use Rattle.modal_state.specs.declared.Modal.{Modal}
use Rattle.line_words.specs.WordRefusals.{words_refusal}
use Rattle.line_words.specs.Targets.{targets}
use Rattle.travel_limits.specs.Reach.{IsNear, steps3}
use Rattle.gcode_check.specs.Conditions.{line_refusal}
use Rattle.gcode_check.specs.declared.Accept.{Accept as Accepted}
use Rattle.gcode_check.proofs.Taking.{word_refuses, line_refuses, travel_limits_it, accepts_it, as_many, none_sound}
use Rattle.gcode_check.proofs.take_line.Goals as goal

pub returns-in-Err : goal.returns-in-Err
returns-in-Err c = record {
  accepted = tt;
  refused = word_refuses c.args.p.now c.args.s.now c.args.w.now.items c.in-Err.code (ap words_refusal (sym c.as_slice.ensures.value) ∙ c.in-Err.ensures.refusal);
  same = refl;
  none = c.clear.ensures;
  valid = c.requires.parser;
  sound = none_sound c.clear.new.self.items c.clear.ensures;
}

pub line_refusal-requires : goal.line_refusal-requires
line_refusal-requires c = record { valid = c.requires.parser; motion = ap (λ (m : Modal). m.motion) c.modal_after-modal.ensures.modes; points = c.as_slice-points.ensures.value ∙ c.targets-points.ensures.targets }

pub returns-in-Some : goal.returns-in-Some
returns-in-Some c =
    let p = c.args.p.now in
    let same = c.in-Ok.ensures.line ∙ c.as_slice.ensures.value in
    record {
      accepted = tt;
      refused = line_refuses p c.args.s.now c.args.w.now.items c.in-Some.code (ap words_refusal (sym c.as_slice.ensures.value) ∙ c.in-Ok.ensures.none) (c.in-Some.ensures.refusal ∙ ap (line_refusal p) same);
      same = refl;
      none = c.clear.ensures;
      valid = c.requires.parser;
      sound = none_sound c.clear.new.self.items c.clear.ensures;
    }

pub returns-then-leave_travel : goal.returns-then-leave_travel
returns-then-leave_travel c =
    let p = c.args.p.now in
    let same = c.in-Ok.ensures.line ∙ c.as_slice.ensures.value in
    record {
      accepted = tt;
      refused =
          travel_limits_it p c.args.s.now c.args.w.now.items c.as_slice-points.result.now (ap words_refusal (sym c.as_slice.ensures.value) ∙ c.in-Ok.ensures.none) (sym c.in_default.is ∙ c.line_refusal.ensures.refusal ∙ ap (line_refusal p) same)
          (c.as_slice-points.ensures.value ∙ c.targets-points.ensures.targets ∙ ap (targets p) same) c.if-leave_travel.ensures;
      same = refl;
      none = c.clear.ensures;
      valid = c.requires.parser;
      sound = none_sound c.clear.new.self.items c.clear.ensures;
    }

pub stops-stops-requires-clause-two : goal.stops-stops-requires-clause-two
stops-stops-requires-clause-two c = rw c.as_slice-points.ensures.value c.targets-points.ensures.two

pub stops-stops-requires-clause-near : goal.stops-stops-requires-clause-near
stops-stops-requires-clause-near c = subst (All IsNear) (sym (c.as_slice-points.ensures.value ∙ c.targets-points.ensures.targets)) c.in_default.ensures.near

pub push_items-requires : goal.push_items-requires
push_items-requires c =
    let points = c.as_slice-points.result.now in
    let f = steps3 c.args.s.now.limits.per_mm in
    let stops = c.as_slice-stops.ensures.value ∙ c.stops-stops.ensures.stops in
    let modes = c.modal_after-modal.ensures.modes in
    record {
      valid = c.requires.parser;
      motion = ap (λ (m : Modal). m.motion) modes;
      spindle = ap (λ (m : Modal). m.spindle) modes;
      flood = ap (λ (m : Modal). m.flood) modes;
      near = subst (All IsPlace) (sym c.as_slice-stops.ensures.value) c.stops-stops.ensures.near;
      few = as_many f points _ _ 2 stops c.as_slice-points.ensures.value c.targets-points.ensures.two;
      one = λ dwells. as_many f points _ _ 1 stops c.as_slice-points.ensures.value (c.targets-points.ensures.one dwells);
      none = c.clear.ensures;
    }

pub take_effects-requires : goal.take_effects-requires
take_effects-requires c = record {
  valid = c.requires.parser;
  modes = c.modal_after-modal.ensures.modes;
  modal = c.modal_after-modal.ensures.valid;
  near = subst (All IsNear) (sym (c.as_slice-points.ensures.value ∙ c.targets-points.ensures.targets)) c.in_default.ensures.near;
  near_steps = subst (All IsPlace) (sym c.as_slice-stops.ensures.value) c.stops-stops.ensures.near;
  offset = c.in_default.ensures.offset;
}

pub returns : goal.returns
returns c =
    let p = c.args.p.now in
    let s = c.args.s.now in
    let ws = c.args.w.now.items in
    let points = c.as_slice-points.result.now in
    let places = c.as_slice-stops.result.now in
    let a : Accepted = record { next = c.take_effects.new.p; items = c.push_items.new.items } in
    let same = c.in-Ok.ensures.line ∙ c.as_slice.ensures.value in
    record {
      accepted =
          accepts_it p s ws points places a (ap words_refusal (sym c.as_slice.ensures.value) ∙ c.in-Ok.ensures.none) (sym c.in_default.is ∙ c.line_refusal.ensures.refusal ∙ ap (line_refusal p) same)
          (c.as_slice-points.ensures.value ∙ c.targets-points.ensures.targets ∙ ap (targets p) same) c.if-leave_travel.ensures (c.as_slice-stops.ensures.value ∙ c.stops-stops.ensures.stops) (rw (← same) c.take_effects.ensures.state)
          (rw (← same) c.push_items.ensures.items);
      refused = tt;
      same = tt;
      none = tt;
      valid = c.take_effects.ensures.valid;
      sound = c.push_items.ensures.sound;
    }
