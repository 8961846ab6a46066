use Rattle.tup_strace.proofs.Accounts as lemma
use Rattle.tup_strace.proofs.laws.accounts_tell.Goals as goal

pub returns : goal.returns
returns c = record {
  asks = lemma.asks_are_first;
  asked_once = lemma.asks_are_distinct;
  found = lemma.found_are_first;
  missed = lemma.missed_are_first;
  answered = lemma.answers_are_asks;
  touched = lemma.all_is_touched;
  touched_once = lemma.touched_are_distinct;
  own = lemma.written_is_own;
}
