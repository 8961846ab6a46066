use Rattle.tup_clean.proofs.OneBuild as lemma
use Rattle.tup_clean.proofs.laws.any_order.Goals as goal

pub returns : goal.returns
returns c = record {
  same = λ next rules sources order end apart built over. lemma.any_order next rules sources order end apart built over;
  one_of_them = λ next rules sources. let on = lemma.clean_taken next rules sources in (on.order, on.built, on.over);
}
