use Rattle.line_words.proofs.Alone.{alone, code_is}
use Rattle.line_words.proofs.laws.groups_have_one_code.Goals as goal

pub returns-clause-alone : goal.returns-clause-alone
returns-clause-alone c = λ ws letter key other_letter other_key group pass row other_row differ.
    alone ws letter key other_letter other_key group (record { row = row; other_row = other_row; differ = differ }) pass

pub returns-clause-code : goal.returns-clause-code
returns-clause-code c = λ ws letter key group pass row. code_is ws letter key group row pass
