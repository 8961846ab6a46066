use Rattle.std.proofs.Common.{◌≡◌, take, IsTrue}
use Rattle.tup_site.specs.Crash.{GoesOn}
use Rattle.tup_site.specs.Known.{Keeps}
use Rattle.tup_site.specs.World.{StoreStays}
use Rattle.tup_stale.specs.Files.{SameBeside, FilesStep}
use Rattle.tup_rule_outputs.specs.Ground.{paths_of}
use Rattle.tup_rule_outputs.proofs.Puts.{Stand}
use Rattle.tup_rule_outputs.proofs.putting.put_all.Given as goal

abbrev pub invariant-loop-file : goal.invariant-loop-file
invariant-loop-file g l = record {
  stand : IsTrue g.S.Site.tells → Stand l.files (take l.file-index l.files) (g.S.Site.world l.site).tree;
  beside : IsTrue g.S.Site.tells → SameBeside (paths_of l.files) (g.S.Site.world l.initial.site).tree (g.S.Site.world l.site).tree;
  store : IsTrue g.S.Site.tells → StoreStays (g.S.Site.world l.initial.site) (g.S.Site.world l.site);
  crash : IsTrue g.S.Site.tells → GoesOn g.S.Site.moment g.S.Site.left_since l.initial.site l.site (FilesStep (paths_of l.files));
  known : IsTrue g.S.Site.tells → Keeps (g.S.Site.known l.initial.site) (g.S.Site.known l.site);
  counted : g.S.Site.faults l.site ≡ g.S.Site.faults l.initial.site;
}
