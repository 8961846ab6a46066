use Rattle.std.proofs.Common.{◌≡◌, Some, take}
use Rattle.std.specs.FinMap as finite
use Rattle.tup_path.specs.Name.{Names}
use Rattle.tup_stamp.specs.declared.Stamp.{Stamp}
use Rattle.tup_why.proofs.Finding.{EachIn}
use Rattle.tup_why.proofs.checking.is_other_write.Given as goal

abbrev pub invariant-loop-wrote : goal.invariant-loop-wrote
invariant-loop-wrote l = EachIn (λ (file : Names × Stamp). file.0 ≡ l.path → finite.get l.nodes.seen l.path ≡ Some file.1) (take l.wrote-index l.files)
