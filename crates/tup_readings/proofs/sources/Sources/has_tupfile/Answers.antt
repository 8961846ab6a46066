use Rattle.std.proofs.Common.{◌∙◌}
use Rattle.tup_readings.proofs.Indexed.{tupfile_has}
use Rattle.tup_readings.proofs.sources.Sources.has_tupfile.Goals as goal

pub returns : goal.returns
returns c =
    let inside = c.self.inside in
    c.contains.ensures ∙ tupfile_has inside.files.now c.args.self.now c.self.invariant.0 c.self.view_is inside.tupfiles c.self.invariant.2 c.args.dir.now
