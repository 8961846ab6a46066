use Rattle.std.proofs.Common.{◌≡◌, take, IsTrue}
use Rattle.tup_site.specs.Crash.{GoesOn}
use Rattle.tup_site.specs.Known.{Keeps}
use Rattle.tup_site.specs.World.{StoreStays}
use Rattle.tup_stale.specs.Files.{without, FilesStep}
use Rattle.tup_stale.proofs.removing.remove_all.Given as goal

abbrev pub invariant-loop-path : goal.invariant-loop-path
invariant-loop-path g l = record {
  removed : IsTrue g.S.Site.tells → (g.S.Site.world l.site).tree ≡ without (g.S.Site.world l.initial.site).tree (take l.path-index l.files);
  store : IsTrue g.S.Site.tells → StoreStays (g.S.Site.world l.initial.site) (g.S.Site.world l.site);
  crash : IsTrue g.S.Site.tells → GoesOn g.S.Site.moment g.S.Site.left_since l.initial.site l.site (FilesStep l.files);
  known : IsTrue g.S.Site.tells → Keeps (g.S.Site.known l.initial.site) (g.S.Site.known l.site);
  counted : g.S.Site.faults l.site ≡ g.S.Site.faults l.initial.site;
}
