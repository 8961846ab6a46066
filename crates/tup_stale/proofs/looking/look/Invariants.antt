use Rattle.std.proofs.Common.{◌≡◌, take, All, IsTrue}
use Rattle.tup_site.specs.Crash.{GoesOn, NoStep}
use Rattle.tup_stale.specs.Unmade.{HasNoUsers, standing}
use Rattle.tup_stale.proofs.looking.look.Given as goal

abbrev pub invariant-loop-path : goal.invariant-loop-path
invariant-loop-path g l = record {
  files : IsTrue g.S.Site.tells → l.files ≡ standing (g.S.Site.world l.initial.site).tree (take l.path-index l.paths);
  none : IsTrue g.S.Site.tells → All (HasNoUsers l.nodes (g.S.Site.world l.initial.site).tree) (take l.path-index l.paths);
  counted : g.S.Site.faults l.site ≡ g.S.Site.faults l.initial.site;
  same : IsTrue g.S.Site.tells → g.S.Site.world l.site ≡ g.S.Site.world l.initial.site;
  crash : IsTrue g.S.Site.tells → GoesOn g.S.Site.moment g.S.Site.left_since l.initial.site l.site NoStep;
  known : IsTrue g.S.Site.tells → g.S.Site.known l.site ≡ g.S.Site.known l.initial.site;
}
