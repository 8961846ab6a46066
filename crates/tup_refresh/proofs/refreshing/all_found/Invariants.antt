use Rattle.std.proofs.Common.{◌≡◌, IsTrue}
use Rattle.tup_path.specs.Tree.{Tree}
use Rattle.tup_site.specs.Crash.{GoesOn, NoStep}
use Rattle.tup_refresh.specs.Part.{AreFilesOf, IsOutlined}
use Rattle.tup_refresh.specs.Refresh.{AreTrue}
use Rattle.tup_refresh.specs.Walk.{IsWalk, steps_left}
use Rattle.tup_refresh.proofs.refreshing.all_found.Given as goal

abbrev pub invariant-loop-walk : goal.invariant-loop-walk
invariant-loop-walk g l = record {
  walk : IsTrue g.S.Site.tells → (sources : Tree) → IsOutlined sources l.outline l.nodes → AreFilesOf (g.S.Site.world l.initial.site).tree sources → AreTrue sources l.nodes
      → IsWalk l.nodes sources l.settings l.initial.walk → IsWalk l.nodes sources l.settings l.walk;
  counted : g.S.Site.faults l.site ≡ g.S.Site.faults l.initial.site;
  same : IsTrue g.S.Site.tells → g.S.Site.world l.site ≡ g.S.Site.world l.initial.site;
  crash : IsTrue g.S.Site.tells → GoesOn g.S.Site.moment g.S.Site.left_since l.initial.site l.site NoStep;
  known : IsTrue g.S.Site.tells → g.S.Site.known l.site ≡ g.S.Site.known l.initial.site;
}

abbrev pub decreases-loop-walk : goal.decreases-loop-walk
decreases-loop-walk g l = steps_left l.walk
