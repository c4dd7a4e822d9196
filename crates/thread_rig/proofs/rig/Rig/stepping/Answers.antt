use Rattle.std.proofs.Common.{[], reverse, refl, sym, ap, ◌∙◌, subst, arith}
use Rattle.rtrb.specs.Ring.{IsPair}
use Rattle.serial_ring.specs.Ends.{link_of_host, link_of_board}
use Rattle.realtime_flags.specs.Ends.{raised_in, taken_in}
use Rattle.motion_ring.specs.Ends.{ring_of_out, ring_of_in}
use Rattle.thread_rig.specs.declared.host.HostSide.{HostSide}
use Rattle.thread_rig.specs.declared.board.BoardSide.{BoardSide}
use Rattle.thread_rig.specs.declared.motion.PulseSide.{PulseSide}
use Rattle.thread_rig.specs.declared.motion.RecorderSide.{RecorderSide}
use Rattle.thread_rig.specs.HostSides.{HostIsNew}
use Rattle.thread_rig.specs.MotionSides.{PulseIsNew, RecorderIsNew}
use Rattle.step_record.specs.Recording.{Recording, RecorderFits}
use Rattle.motion_ports.proofs.Fresh.{nothing_got}
use Rattle.motion_pulse.specs.Pulses.{stepping_of}
use Rattle.host_journal.specs.Ports.{AreGreeted}
use Rattle.stream_host.proofs.Running.{fits_own}
use Rattle.thread_rig.specs.BoardSides.{BoardIsNew}
use Rattle.thread_rig.proofs.rig.Rig.stepping.Goals as goal

pub returns-clause-fresh : goal.returns-clause-fresh
returns-clause-fresh g c =
    let host = c.new-2.ensures in
    let board = c.new-4.ensures in
    let pulse = c.new-6.ensures in
    let recorder = c.new-8.ensures in
    let link = c.in_ok-host_end.ensures in
    let flags = c.in_ok-raiser.ensures in
    let pieces = c.in_ok-out.ensures in
    let records = c.in_ok-records_out.ensures in record {
      meets = record {
        link = ap (λ (s : HostSide g.row.RX). link_of_host s.link.end) host ∙ (link.link ∙ sym (ap (λ (s : BoardSide g.row.RX g.row.N). link_of_board s.link.end) board));
        flags = ap (λ (s : HostSide g.row.RX). raised_in s.link.flags) host ∙ (flags.table ∙ sym (ap (λ (s : BoardSide g.row.RX g.row.N). taken_in s.link.flags) board));
        pieces = ap (λ (s : BoardSide g.row.RX g.row.N). ring_of_out s.link.pieces) board ∙ (pieces.ring ∙ sym (ap (λ (s : PulseSide). ring_of_in s.pieces.end) pulse));
        records = subst (λ (s : PulseSide). IsPair s.records.end c.new-8.result.side.records.end) (sym pulse)
            (subst (λ (s : RecorderSide). IsPair c.in_ok-records_out.records_out.end s.records.end) (sym recorder) records.pair);
      };
      host = subst HostIsNew (sym host) (record {
        did = record {
          bytes_are = sym (ap reverse link.fresh_host.0);
          marks_are = sym link.fresh_host.2;
          shut_is = sym link.fresh_host.1;
          replies_are = sym (ap reverse link.fresh_host.3);
          latest_are = sym link.fresh_host.3;
          greeted_are = subst (λ g. AreGreeted [] g) (sym link.fresh_host.4) (record { each = refl; stored = tt });
          raises_are = sym flags.fresh.0;
          moments_are = sym link.fresh_moments;
        };
        sees = record { room_looks = (link.idle_host.0, link.idle_host.1); reply_looks = link.idle_host.2; saw = tt };
        fits = (fits_own c.args.attended c.new.result c.new.ensures).1;
      });
      board = subst BoardIsNew (sym board) (record {
        did = record {
          steps_are = sym link.fresh_board.0;
          over_is = λ e. absurd cc;
          takes_are = sym flags.fresh.1;
          pieces_are = pieces.fresh.0;
          known_is = omega arith;
        };
        sees = record { byte_looks = (link.idle_board.0, link.idle_board.1); room_looks = link.idle_board.2; done_looks = pieces.fresh.2; halt_looks = pieces.fresh.3; saw = tt };
        fits = c.new-3.ensures;
      });
      pulse = subst PulseIsNew (sym pulse) (record { got = nothing_got _ pieces.idle.0 pieces.idle.1 pieces.idle.2 pieces.idle.3; put = records.fresh.0; fits = c.new-5.ensures.fresh });
      recorder = subst RecorderIsNew (sym recorder) (record { taken = records.fresh.1; fits = λ now. subst (λ f. RecorderFits f c.new-7.result [] now now) (sym (ap (λ (v : Recording). v.form) c.new-7.ensures.fresh)) (c.new-7.ensures.fits now) });
    }

pub returns-clause-form : goal.returns-clause-form
returns-clause-form g c = ap (λ (s : RecorderSide). s.recorder.form) c.new-8.ensures ∙ ap (λ (v : Recording). v.form) c.new-7.ensures.fresh

pub returns-clause-stepping : goal.returns-clause-stepping
returns-clause-stepping g c = ap (λ (s : PulseSide). stepping_of s.pulse) c.new-6.ensures ∙ c.new-5.ensures.stepping

pub returns-clause-attended : goal.returns-clause-attended
returns-clause-attended g c = ap (λ (s : HostSide g.row.RX). s.host.attended) c.new-2.ensures ∙ (fits_own c.args.attended c.new.result c.new.ensures).0
