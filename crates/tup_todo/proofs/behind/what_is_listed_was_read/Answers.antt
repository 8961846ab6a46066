use Rattle.tup_todo.proofs.Foretold.{listed_read}
use Rattle.tup_todo.proofs.behind.what_is_listed_was_read.Goals as goal

pub returns : goal.returns
returns c = λ next known old left todo read lists kept apart knows reads. listed_read old left todo lists next known kept apart knows read reads
