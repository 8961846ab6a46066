use Rattle.tup_lex.proofs.Names.{last_name-after, last_name-whole}
use Rattle.tup_lex.proofs.word.last_name.Goals as goal

pub returns-in-Some : goal.returns-in-Some
returns-in-Some c = last_name-after c.args.text.now c.in-Some.slash c.in-Some.ensures

pub returns-in-None : goal.returns-in-None
returns-in-None c = last_name-whole c.args.text.now c.in-None.ensures
