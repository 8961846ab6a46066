use Rattle.std.proofs.Common.{◌≡◌, take, IsTrue}
use Rattle.tup_site.specs.Crash.{GoesOn, NoStep}
use Rattle.tup_compare.proofs.Reading.{HasFilesAt}
use Rattle.tup_compare.proofs.found.contents.Given as goal

abbrev pub invariant-loop-path : goal.invariant-loop-path
invariant-loop-path g l = record {
  files : IsTrue g.S.Site.tells → HasFilesAt (g.S.Site.world l.initial.site).tree (take l.path-index l.paths) l.files;
  same : IsTrue g.S.Site.tells → g.S.Site.world l.site ≡ g.S.Site.world l.initial.site;
  known : IsTrue g.S.Site.tells → g.S.Site.known l.site ≡ g.S.Site.known l.initial.site;
  crash : IsTrue g.S.Site.tells → GoesOn g.S.Site.moment g.S.Site.left_since l.initial.site l.site NoStep;
  counted : g.S.Site.faults l.site ≡ g.S.Site.faults l.initial.site;
}
