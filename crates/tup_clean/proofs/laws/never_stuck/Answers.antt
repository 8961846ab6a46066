use Rattle.tup_clean.proofs.Turns.{some_is_ready, all_are_taken}
use Rattle.tup_clean.proofs.laws.never_stuck.Goals as goal

pub returns : goal.returns
returns c = record {
  ready = λ rules taken at acyclic are good left. some_is_ready rules taken at acyclic are good left;
  all = λ rules taken acyclic are good none. all_are_taken rules taken acyclic are good none;
}
