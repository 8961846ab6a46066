use Rattle.std.proofs.Common.{◌≡◌, true, false}
use Rattle.tup_refresh.proofs.idle.is_idle.Goals as goal

pub returns-then-not-none_created : goal.returns-then-not-none_created
returns-then-not-none_created c = λ is. let wrong : false ≡ true = is in cc

pub returns-then-not-sets_well : goal.returns-then-not-sets_well
returns-then-not-sets_well c = λ is. let wrong : false ≡ true = is in cc

pub returns : goal.returns
returns c = λ is. record {
  created = c.none_created.ensures c.if-not-none_created.false;
  settings = c.sets_well.ensures c.if-not-sets_well.false;
  back = c.all_ask_back.ensures is;
}
