use Rattle.tup_core.specs.Step.{opening}
use Rattle.tup_core.proofs.ClaimedOnce as lemma
use Rattle.tup_core.proofs.laws.claimed_once.Goals as goal

pub returns : goal.returns
returns c = record {
  once = λ plan files events run. lemma.claimed_once plan events (opening plan files) run;
  reached = λ plan files events run. lemma.claimed_reached plan files events run;
}
