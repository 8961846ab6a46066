use Rattle.tup_link.proofs.walk.Walk.go.Goals as goal

pub walk-init : goal.walk-init
walk-init c =
    let begun = c.in_ok-begin.ensures c.args.graph.now c.requires.walk in
    record { on = begun.0; met = begun.1 }
