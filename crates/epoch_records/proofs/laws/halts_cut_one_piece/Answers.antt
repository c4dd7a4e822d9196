use Rattle.epoch_records.proofs.Cutting.{cut_among, cut_front, cut_count, runs_have}
use Rattle.epoch_records.proofs.laws.halts_cut_one_piece.Goals as goal

pub returns-clause-cut : goal.returns-clause-cut
returns-clause-cut c = λ e mine have put. cut_among e.pieces e.done mine have put.first put.ticks

pub returns-clause-first : goal.returns-clause-first
returns-clause-first c = cut_front

pub returns-clause-ticks : goal.returns-clause-ticks
returns-clause-ticks c = cut_count

pub returns-clause-runs : goal.returns-clause-runs
returns-clause-runs c = runs_have
