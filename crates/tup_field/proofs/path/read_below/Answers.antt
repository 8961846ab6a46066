use Rattle.tup_field.proofs.Names.{name_joined}
use Rattle.tup_field.proofs.path.read_below.Goals as goal

pub returns-in-Ok : goal.returns-in-Ok
returns-in-Ok c =
    let part = c.in_ok-name.ensures in
    let there = name_joined c.args.path c.in-Ok.below c.in_ok-name.name c.args.reader.now c.read_part.new.reader c.requires part.0 part.1 part.2 c.in-Ok.ensures in
    (c.in_ok-name.name, there.0, there.1)
