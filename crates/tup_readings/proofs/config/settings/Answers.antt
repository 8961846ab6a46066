use Rattle.std.proofs.Common.{refl, Some, None, ◌∙◌}
use Rattle.tup_readings.proofs.Told.{settings_given}
use Rattle.tup_readings.proofs.config.settings.Goals as goal

pub returns-in-Some : goal.returns-in-Some
returns-in-Some c = settings_given c.args.sources.now c.in_ok-path.path (Some c.in-Some.content.now) c.in-Some.content.now c.read.result c.in_ok-path.ensures.path c.in-Some.ensures refl c.read.ensures

pub returns-in-None : goal.returns-in-None
returns-in-None c =
    settings_given c.args.sources.now c.in_ok-path.path None c.new-nothing.result c.read-in-None.result c.in_ok-path.ensures.path c.in-None.ensures (c.new-nothing.ensures ∙ c.new.ensures.items) c.read-in-None.ensures
