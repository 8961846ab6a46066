use Rattle.std.proofs.Common.{◌∙◌}
use Rattle.tup_readings.proofs.Indexed.{index_has}
use Rattle.tup_readings.proofs.sources.Sources.is_folder.Goals as goal

pub returns : goal.returns
returns c =
    let inside = c.self.inside in
    c.contains_key.ensures ∙ index_has inside.files.now c.args.self.now c.self.invariant.0 c.self.view_is inside.folders c.self.invariant.1 c.args.dir.now
