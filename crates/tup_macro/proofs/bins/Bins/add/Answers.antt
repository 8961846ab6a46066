use Rattle.std.proofs.Common.{rules}
use Rattle.std.proofs.lemmas.Cmp.{nat_list_eq_equiv}
use Rattle.tup_macro.proofs.Giving.{one_more-given}
use Rattle.tup_macro.proofs.bins.Bins.add.Goals as goal

pub returns-clause-given : goal.returns-clause-given
returns-clause-given c = search rules

pub returns-clause-one_more : goal.returns-clause-one_more
returns-clause-one_more c = one_more-given nat_list_eq_equiv _ _ _ _ _ (returns-clause-given c)
