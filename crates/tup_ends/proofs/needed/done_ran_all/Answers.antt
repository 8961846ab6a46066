use Rattle.tup_ends.proofs.Due.{names_all}
use Rattle.tup_ends.proofs.needed.done_ran_all.Goals as goal

pub returns : goal.returns
returns g c = λ board first since ran sound prepared same over.
    names_all g.S.Site g.R.Runner board sound ran same g.R.Runner.next first since prepared over
