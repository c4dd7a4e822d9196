use Rattle.stream_host.proofs.Raised.{waiting_is, banners_low}
use Rattle.stream_host.proofs.Epochs.{borders_are, whole_at_mark, whole_by, marks_between, behind_own, banners_past, all_lines}
use Rattle.stream_host.proofs.Bordering.{marks_of_resets, all_marks}
use Rattle.stream_host.proofs.Ending.{ends_by, ends_all}
use Rattle.stream_host.proofs.Awaiting.{awaited_is}
use Rattle.stream_host.proofs.Cutting.{epochs_are, low_now}
use Rattle.stream_host.proofs.Waiting.{few_unanswered}
use Rattle.stream_host.proofs.laws.hosts_begin_epochs.Goals as goal

pub returns-clause-borders : goal.returns-clause-borders
returns-clause-borders c = borders_are

pub returns-clause-now : goal.returns-clause-now
returns-clause-now c = whole_at_mark

pub returns-clause-marks : goal.returns-clause-marks
returns-clause-marks c = marks_between

pub returns-clause-behind : goal.returns-clause-behind
returns-clause-behind c = behind_own

pub returns-clause-awaits : goal.returns-clause-awaits
returns-clause-awaits c = λ room h conducted awaits. let w = waiting_is room h conducted awaits in (whole_by room h conducted w.free, w.none_due, few_unanswered room h conducted w.free)

pub returns-clause-banners : goal.returns-clause-banners
returns-clause-banners c = λ room h conducted. (banners_low room h conducted, banners_past h)

pub returns-clause-lines : goal.returns-clause-lines
returns-clause-lines c = all_lines

pub returns-clause-epochs : goal.returns-clause-epochs
returns-clause-epochs c = λ room h conducted. (epochs_are room h conducted, low_now room h conducted)

pub returns-clause-places : goal.returns-clause-places
returns-clause-places c = λ room h conducted. (marks_of_resets room h conducted, all_marks room h conducted)

pub returns-clause-awaited : goal.returns-clause-awaited
returns-clause-awaited c = awaited_is

pub returns-clause-ends : goal.returns-clause-ends
returns-clause-ends c = λ room h conducted. (ends_by room h conducted, ends_all room h conducted)
