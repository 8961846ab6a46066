use Rattle.std.proofs.Common.{◌∙◌, ap}
use Rattle.tup_graph.specs.Graph.{source}
use Rattle.tup_scan_diff.specs.Present.{seeing, stamps_from}
use Rattle.tup_scan_diff.proofs.Founding.{config_path_is}
use Rattle.tup_scan_diff.proofs.present.config_stamp.Goals as goal

pub returns-in-Ok-clause-stamp : goal.returns-in-Ok-clause-stamp
returns-in-Ok-clause-stamp c =
    c.source_at.ensures ∙ ap (source (seeing c.args.nodes.now (stamps_from c.args.nodes.now c.args.stamps.now))) (config_path_is c.in-Ok.path c.in-Ok.ensures)
