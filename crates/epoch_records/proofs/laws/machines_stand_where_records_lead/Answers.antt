use Rattle.epoch_records.proofs.Driving.{put_stands, behind_mark}
use Rattle.epoch_records.proofs.laws.machines_stand_where_records_lead.Goals as goal

pub returns-clause-put : goal.returns-clause-put
returns-clause-put c = put_stands

pub returns-clause-behind : goal.returns-clause-behind
returns-clause-behind c = behind_mark
