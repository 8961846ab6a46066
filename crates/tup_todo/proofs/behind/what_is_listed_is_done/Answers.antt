use Rattle.tup_todo.proofs.Foretold.{listed_done}
use Rattle.tup_todo.proofs.behind.what_is_listed_is_done.Goals as goal

pub returns : goal.returns
returns c = λ old left todo next keep_going jobs log stopped lists needed did. listed_done old left todo lists next keep_going jobs log stopped needed did
