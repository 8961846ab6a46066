use Rattle.std.proofs.Common.{rules}
use Rattle.std.proofs.lemmas.Iterator.Splits.{YieldsList-from_lines}
use Rattle.std.proofs.lemmas.Iterator.Search.{position_from_yields_List}
use borrow.Author.Tests.{tests}
use Rattle.tup_lex.specs.Line.{is_long}
use Rattle.tup_vars.proofs.config.first_long.Goals as goal

pub returns : goal.returns
returns c = position_from_yields_List is_long _ _ c.position.result c.position.ensures.ran (YieldsList-from_lines c.args.text.now cc) (λ x b q k. search (rules, tests))
