use Rattle.std.proofs.Common.{◌∙◌, ap, sym}
use Rattle.std.specs.Result.{result_ok}
use Rattle.tup_path.specs.Name.{Names}
use Rattle.tup_path.specs.Resolve.{above}
use Rattle.tup_readings.proofs.Below.{above_named}
use Rattle.tup_refresh.proofs.idle.folder_above.Goals as goal

pub returns-in-Some : goal.returns-in-Some
returns-in-Some c = ap (λ (p : Names). result_ok (above p)) (sym c.names.ensures.names ∙ c.in-Some.ensures.cases.0) ∙ above_named c.in-Some.dir.now _
