use Rattle.tup_demo.proofs.Standing.{only_memory}
use Rattle.tup_demo.proofs.project.demo_project.Goals as goal

pub returns-clause-memory : goal.returns-clause-memory
returns-clause-memory c = only_memory c.in-Some.files.items c.new.result c.in-Some.ensures c.new.ensures.not_a_tree c.new.ensures.same_stamp c.new.ensures.no_image
