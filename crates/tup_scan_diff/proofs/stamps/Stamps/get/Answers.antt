use Rattle.std.proofs.Common.{◌∙◌, Option, sym, ap}
use Rattle.std.specs.FinMap as finite
use Rattle.tup_stamp.specs.declared.Stamp.{Stamp}
use Rattle.tup_scan_diff.specs.Present.{or_else, stamps_from}
use Rattle.tup_scan_diff.specs.declared.stamps.Stamps.{Stamps}
use Rattle.tup_scan_diff.proofs.Overlaid.{get_over}
use Rattle.tup_scan_diff.proofs.stamps.Stamps.get.Goals as goal

pub returns-in-Some : goal.returns-in-Some
returns-in-Some c =
    let path = c.args.path.now in
    ap (λ (o : Option Stamp). or_else o (finite.get c.args.nodes.now.seen path)) c.in-Some.ensures ∙ sym (get_over c.args.nodes.now.seen c.in-Edited.stamps path)
    ∙ ap (λ (s : Stamps). finite.get (stamps_from c.args.nodes.now s) path) (sym c.in-Edited.is)

pub returns-in-None : goal.returns-in-None
returns-in-None c =
    let path = c.args.path.now in
    c.seen.ensures
    ∙ ap (λ (o : Option Stamp). or_else o (finite.get c.args.nodes.now.seen path)) c.in-None.ensures ∙ sym (get_over c.args.nodes.now.seen c.in-Edited.stamps path)
    ∙ ap (λ (s : Stamps). finite.get (stamps_from c.args.nodes.now s) path) (sym c.in-Edited.is)
