use Rattle.status_report.proofs.texts.put_words.Goals as goal

pub returns-in-Banner-clause-text : goal.returns-in-Banner-clause-text
returns-in-Banner-clause-text c = rw c.in-Banner.is c.append.ensures.text
