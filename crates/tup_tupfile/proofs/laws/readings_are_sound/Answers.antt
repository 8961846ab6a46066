use Rattle.tup_tupfile.proofs.Soundness.{reading-sound}
use Rattle.tup_tupfile.proofs.laws.readings_are_sound.Goals as goal

pub returns : goal.returns
returns c = λ answers drafts files e. reading-sound answers c.args.dir.now files drafts e
