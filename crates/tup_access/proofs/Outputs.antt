-- What a judged command leaves: all outputs of its rule in their order where it is Good, and else nothing.
use Rattle.std.specs.Prelude.{◌≡◌, ◌≢◌, ℕ, ◌==◌, Bool, true, false, not, if◌then◌else◌, List, [], ◌∷◌, ◌++◌, map, unwrap_or, Option, None, Some}
use Rattle.std.proofs.Common.{refl, ap}
use Rattle.tup_path.specs.Name.{Names, Content}
use Rattle.tup_rule.specs.declared.rule.Rule.{Rule}
use Rattle.tup_runner.specs.declared.step.Ended.{Ended}
use Rattle.tup_access.specs.declared.verdict.Verdict.{Verdict}
use Rattle.tup_access.specs.declared.verdict.Verdict.TheVariants.{Good, Failed, IllegalWrite, Unwritten}
use Rattle.tup_access.specs.Judge.{Judged, bad, good, judge, foreign_write, unwritten, last_written, files_of}
use Rattle.tup_access.specs.Verdict.{verdict}

-- a Good command leaves the outputs of its rule in their order, any other nothing
pub record LeavesOutputs (rule : Rule) (judged : Judged) : Type 0 where
  pub good : judged.verdict ≡ Good → map (λ file. file.0) judged.files ≡ rule.outputs
  pub other : judged.verdict ≢ Good → judged.files ≡ []

bad-LeavesOutputs : (rule : Rule) (refusal : Verdict) → refusal ≢ Good → LeavesOutputs rule (bad refusal)
bad-LeavesOutputs rule refusal apart = record { good = λ e. absurd (apart e); other = λ _. refl }

paths-kept : (content : Names → Content) (paths : List Names) → map (λ (file : Names × Content). file.0) (map (λ (path : Names). (path, content path)) paths) ≡ paths
paths-kept content [] = refl
paths-kept content (path ∷ paths) = ap (λ (more : List Names). path ∷ more) (paths-kept content paths)

pub judge-LeavesOutputs : (rule : Rule) (ended : Ended) → LeavesOutputs rule (judge rule ended)
judge-LeavesOutputs rule ended = by_status (ended.status == 0)
  where
    by_unwritten : (o : Option Names) → LeavesOutputs rule (elim o [ Some path ↦ bad (Unwritten path) | None ↦ good (files_of rule ended.writes) ])
    by_unwritten (Some path) = bad-LeavesOutputs rule (Unwritten path) (λ e. cc)
    by_unwritten None = record { good = λ _. paths-kept (λ path. unwrap_or (last_written rule path ended.writes) []) rule.outputs; other = λ apart. absurd (apart refl) }

    by_foreign : (o : Option (List ℕ × Content)) → LeavesOutputs rule (elim o [ Some w ↦ bad (IllegalWrite w.0) | None ↦ elim (unwritten rule ended.writes) [ Some path ↦ bad (Unwritten path) | None ↦ good (files_of rule ended.writes) ] ])
    by_foreign (Some w) = bad-LeavesOutputs rule (IllegalWrite w.0) (λ e. cc)
    by_foreign None = by_unwritten (unwritten rule ended.writes)

    by_status : (b : Bool) → LeavesOutputs rule (if not b then bad (Failed ended.status) else elim (foreign_write rule ended.writes) [ Some w ↦ bad (IllegalWrite w.0) | None ↦ elim (unwritten rule ended.writes) [ Some path ↦ bad (Unwritten path) | None ↦ good (files_of rule ended.writes) ] ])
    by_status true = by_foreign (foreign_write rule ended.writes)
    by_status false = bad-LeavesOutputs rule (Failed ended.status) (λ e. cc)
