use Rattle.tup_ends.proofs.Due.{stands_last}
use Rattle.tup_ends.proofs.needed.bad_stands_last.Goals as goal

pub returns : goal.returns
returns g c = λ board seat at verdict name ran sound same own off bad named.
    stands_last g.S.Site g.R.Runner board sound ran same c.bad_is_last.ensures seat at verdict name own off bad named
