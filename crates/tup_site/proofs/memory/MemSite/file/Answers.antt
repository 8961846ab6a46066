use Rattle.tup_site.proofs.Changes.{found_in_tree}
use Rattle.tup_site.proofs.memory.MemSite.file.Goals as goal

pub returns : goal.returns
returns c = found_in_tree c.args.self.now.files c.args.path.now _ c.get.ensures.value
