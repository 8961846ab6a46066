use Rattle.tup_path.proofs.Written.{resolve-show, resolve-show_from}
use Rattle.tup_path.proofs.show.shown_reads_back.Goals as goal

pub returns : goal.returns
returns c = record { from = resolve-show_from c.args.dir.now c.args.path.now c.depth-2.ensures.path; top = resolve-show c.args.path.now c.depth-2.ensures.path }
