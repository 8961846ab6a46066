use Rattle.std.proofs.Common.{◌≡◌, inl, inr, Some, None, Option}
use Rattle.std.specs.Result.{result_ok}
use Rattle.tup_path.specs.Name.{Names}
use Rattle.tup_path.specs.Resolve.{above}
use Rattle.tup_scan_diff.proofs.Paths.{folder_is, no_folder}
use Rattle.tup_scan_diff.proofs.index.with_parent.Goals as goal

pub returns-in-Ok-Some-clause-parted : goal.returns-in-Ok-Some-clause-parted
returns-in-Ok-Some-clause-parted c =
    let said = rw c.in-Ok-Some.field-0-is at c.in-Ok-Some.ensures in
    elim said [
      | inl e ↦ absurd (cc)
      | inr e ↦ folder_is c.args.path.now c.in-Ok-Some.dir c.args.name c.requires.0 c.requires.1 (let same : Some c.in-Ok-Some.dir ≡ result_ok (above c.args.path.now) = cc in same)
    ]

pub returns-in-Ok-None-clause-parted : goal.returns-in-Ok-None-clause-parted
returns-in-Ok-None-clause-parted c =
    let said = rw c.in-Ok-None.field-0-is at c.in-Ok-None.ensures in
    elim said [
      | inl e ↦ absurd (cc)
      | inr e ↦ absurd (no_folder c.args.path.now c.args.name c.requires.0 c.requires.1 (let same : ◌≡◌ {A = Option Names} None (result_ok (above c.args.path.now)) = cc in same))
    ]
