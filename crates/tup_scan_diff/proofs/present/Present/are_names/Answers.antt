use Rattle.std.proofs.Common.{Bool, sym, subst}
use Rattle.std.specs.Prelude.{Decides}
use Rattle.tup_scan_diff.specs.Told.{AreNames}
use Rattle.tup_scan_diff.proofs.Named.{names_decide}
use Rattle.tup_scan_diff.proofs.present.Present.are_names.Goals as goal

pub returns-clause-names : goal.returns-clause-names
returns-clause-names c =
    subst (λ (b : Bool). Decides b (AreNames c.args.self.now c.args.reader.now c.args.dir.now c.args.names.now)) (sym c.eq.ensures)
    (names_decide c.args.self.now c.args.reader.now c.args.dir.now c.in_ok-found.found c.args.names.now c.in_ok-found.ensures.names)
