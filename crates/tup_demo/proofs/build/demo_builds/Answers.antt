use Rattle.tup_demo.proofs.Building.{builds}
use Rattle.tup_demo.proofs.build.demo_builds.Goals as goal

pub returns : goal.returns
returns c = builds
