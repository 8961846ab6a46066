use Rattle.tup_path.proofs.Shown.{some_bytes}
use Rattle.tup_path.proofs.path.Path.show.Goals as goal

pub written-requires : goal.written-requires
written-requires c = some_bytes c.names.result.now (rw c.names.ensures.names c.names.ensures.path)
