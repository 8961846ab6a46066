use Rattle.tup_core.specs.Step.{opening}
use Rattle.tup_core.proofs.InOrder as lemma
use Rattle.tup_core.proofs.laws.claims_in_order.Goals as goal

pub returns : goal.returns
returns c = record {
  order = λ plan files events run. lemma.in_order plan events (opening plan files) run;
  claimed = λ plan files events run. lemma.producers_claimed plan files events run;
}
