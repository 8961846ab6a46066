use Rattle.std.proofs.Common.{◌≡◌, take}
use Rattle.tup_site.specs.History.{contents_of}
use Rattle.tup_demo.proofs.steady.copies.Given as goal

abbrev pub invariant-loop-content : goal.invariant-loop-content
invariant-loop-content l = l.contents.items ≡ contents_of (take l.content-index l.files)
