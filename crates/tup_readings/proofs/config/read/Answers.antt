use Rattle.tup_readings.proofs.Told.{config_told}
use Rattle.tup_vars.specs.Config.{config_of}
use Rattle.tup_readings.proofs.config.read.Goals as goal

pub returns-in-Err-At : goal.returns-in-Err-At
returns-in-Err-At c =
    config_told c.args.path c.top.result c.in-Err-At.field-0 (config_of c.args.content.now) c.in-Err-At.line c.in-Err-At.kind c.requires c.top.ensures c.in-Err-At.field-0-is c.in-Err-At.ensures.config
