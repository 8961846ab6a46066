use Rattle.tup_core.proofs.CleanRuns as lemma
use Rattle.tup_core.proofs.Example as example
use Rattle.tup_core.proofs.laws.ends_in_clean.Goals as goal

pub returns : goal.returns
returns c = record {
  end = λ next known kept tree plan files events planned run honest done.
      (lemma.succeeds_clean next known kept tree plan files planned events run honest done, λ path. lemma.files_clean next known kept tree plan files planned events run honest done path);
  contents = λ next known kept tree plan files events planned run honest done path content there. lemma.contents_clean next known kept tree plan files planned events run honest done path content there;
  some = example.some_honest_run;
}
