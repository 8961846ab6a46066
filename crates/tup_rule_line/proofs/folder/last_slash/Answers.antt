use Rattle.tup_rule_line.proofs.Folders.{last_slash_name, last_slash_at}
use Rattle.tup_rule_line.proofs.folder.last_slash.Goals as goal

pub returns-clause-name : goal.returns-clause-name
returns-clause-name c = last_slash_name c.args.word.now c.rfind_byte.result c.rfind_byte.ensures

pub returns-clause-slash : goal.returns-clause-slash
returns-clause-slash c = last_slash_at c.args.word.now c.rfind_byte.result c.rfind_byte.ensures
