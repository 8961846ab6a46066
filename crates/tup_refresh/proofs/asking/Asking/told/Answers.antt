use Rattle.std.proofs.Common.{IsTrue, ⊎_elim, sym, subst}
use Rattle.std.specs.Result.{IfOk}
use Rattle.tup_rule.specs.declared.question.Question.{Question}
use Rattle.tup_query.specs.Log.{fits}
use Rattle.tup_refresh.proofs.Outlined.{IsOfPaths}
use Rattle.tup_refresh.proofs.Told.{told_by_paths}
use Rattle.tup_refresh.proofs.asking.Asking.told.Goals as goal

pub returns-in-Config-clause-told : goal.returns-in-Config-clause-told
returns-in-Config-clause-told c =
    let self = c.args.self.now in
    told_by_paths self.asked.sources.now self.asked.settings.now self.asked.readings.now self.asked.reader.now self.fetched.now c.args.question.now c.other.result (⊎_elim (λ one. subst IsOfPaths (sym one.1) tt) (⊎_elim (λ one. subst IsOfPaths (sym one.1) tt) (λ one. subst IsOfPaths (sym one.1) tt)) c.in-Config.is) c.other.ensures.told

pub returns-in-Content-clause-fits : goal.returns-in-Content-clause-fits
returns-in-Content-clause-fits c =
    subst (λ (q : Question). IfOk c.content.result (λ told. IsTrue (fits q told))) (sym c.in-Content.is) c.content.ensures.fits
