use Rattle.std.proofs.Common.{◌≡◌, ◌∙◌, List, ap, sym}
use Rattle.std.specs.FinMap as finite
use Rattle.std.proofs.lemmas.Result.{IfOk-weaker}
use Rattle.tup_graph.specs.declared.edit.Edit.{Edit}
use Rattle.tup_scan_diff.specs.Edits.{news_edits, seen_edits}
use Rattle.tup_scan_diff.specs.Present.{stamps_from, stamps_in}
use Rattle.tup_scan_diff.specs.declared.stamps.Stamps.{Stamps}
use Rattle.tup_scan_diff.proofs.Overlaid.{edits_over}
use Rattle.tup_scan_diff.proofs.present.Present.seen_edits.Goals as goal

pub returns-in-Edited-clause-ok : goal.returns-in-Edited-clause-ok
returns-in-Edited-clause-ok c =
    let g = c.args.self.now.nodes.now in
    let stamps = c.in-Edited.stamps in
    IfOk-weaker c.edited.result (λ (edits : List Edit). edits ≡ news_edits g (finite.entries stamps)) (λ (edits : List Edit). edits ≡ seen_edits g (stamps_in c.args.self.now))
    (λ edits e. e ∙ sym (edits_over g stamps) ∙ ap (λ (s : Stamps). seen_edits g (stamps_from g s)) (sym c.in-Edited.is))
    c.edited.ensures.ok
