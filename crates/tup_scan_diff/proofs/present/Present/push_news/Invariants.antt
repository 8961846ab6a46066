use Rattle.std.proofs.Common.{◌≡◌, ◌++◌, map}
use Rattle.std.specs.Map.Iter.{deref_pair}
use Rattle.tup_scan_diff.specs.Edits.{news_edits}
use Rattle.tup_scan_diff.proofs.present.Present.push_news.Given as goal

abbrev pub invariant-loop-path : goal.invariant-loop-path
invariant-loop-path l = l.edits ≡ l.fn.edits ++ news_edits l.self.nodes.now (map deref_pair l.yielded)
