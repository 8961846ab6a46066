use Rattle.std.proofs.Common.{◌≡◌, ℕ, List, ◌++◌, Result, Ok, Err, IfErr, codes, inr, subst, ◌∙◌}
use Rattle.tup_disk.specs.Told.{HasNoStages, HasNoStagesAt}
use Rattle.tup_disk.specs.declared.failure.Refused.{Refused}
use Rattle.tup_disk.proofs.handles.stages.Goals as goal

-- what isn't held open at the place of the stages in a top folder isn't in that folder
in_top : {T : Type 0} (result : Result T Refused) (root place : List ℕ) → place ≡ root ++ codes "/.tup/stage" → IfErr result (HasNoStagesAt place)
    → IfErr result (HasNoStages root)
in_top (Ok value) root place is why = tt
in_top (Err refused) root place is why = inr (subst (λ p. HasNoStagesAt p refused) is why)

pub returns : goal.returns
returns g c = record { cause = in_top c.stages_at.result c.args.root.now c.as_str.result.now (c.as_str.ensures.value ∙ c.in_ok-place.ensures.ok) c.stages_at.ensures.cause }
