use Rattle.std.proofs.Common.{◌≡◌, ◌+◌, ◌++◌, ◌≤◌, map, length, All, IsTrue}
use Rattle.std.specs.Vec.Iter.{into_iter_items}
use Rattle.tup_site.specs.Crash.{GoesOn, NoStep}
use Rattle.tup_scan.specs.Cause.{IsSmallAt}
use Rattle.tup_scan.specs.Seen.{AreFiles, AreStamped}
use Rattle.tup_scan_crew.specs.Batch.{stamps_so_far}
use Rattle.tup_scan_crew.proofs.scanning.stamps_of.Given as goal

abbrev pub invariant-loop-path : goal.invariant-loop-path
invariant-loop-path g l = record {
  paths : IsTrue g.S.Site.tells → map (λ file. file.0) (stamps_so_far l.batch) ++ into_iter_items l.path-iterator ≡ l.fn.paths.items;
  files : IsTrue g.S.Site.tells → AreFiles (g.S.Site.world l.initial.site).tree (into_iter_items l.path-iterator);
  stamps : IsTrue g.S.Site.tells → AreStamped (g.S.Site.world l.initial.site).tree (stamps_so_far l.batch);
  count : l.place + length (into_iter_items l.path-iterator) ≡ length l.fn.paths.items;
  few : length (stamps_so_far l.batch) ≤ l.place;
  small : IsTrue g.S.Site.tells → All (IsSmallAt (g.S.Site.world l.initial.site).tree) (into_iter_items l.path-iterator)
      → All (IsSmallAt (g.S.Site.world l.initial.site).tree) l.fn.paths.items;
  counted : g.S.Site.faults l.site ≡ g.S.Site.faults l.initial.site;
  same : IsTrue g.S.Site.tells → g.S.Site.world l.site ≡ g.S.Site.world l.initial.site;
  crash : IsTrue g.S.Site.tells → GoesOn g.S.Site.moment g.S.Site.left_since l.initial.site l.site NoStep;
  known : IsTrue g.S.Site.tells → g.S.Site.known l.site ≡ g.S.Site.known l.initial.site;
}
