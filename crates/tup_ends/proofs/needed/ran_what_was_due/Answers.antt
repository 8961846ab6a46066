use Rattle.tup_ends.proofs.Due.{only_needed}
use Rattle.tup_ends.proofs.needed.ran_what_was_due.Goals as goal

pub returns : goal.returns
returns g c = λ board first since keep_going jobs ran stopped tells told sound prepared same all.
    only_needed g.S.Site g.R.Runner board sound ran same g.R.Runner.next first since prepared c.claims_in_order.ensures.order tells keep_going jobs stopped all
