use Rattle.std.proofs.Common.{◌∙◌, sym, refl, false}
use Rattle.std.proofs.lemmas.Option.{unwrap_or-slice_get}
use Rattle.std.proofs.lemmas.List.{get_or_read}
use Rattle.std.specs.Vec.{with_item}
use Rattle.tup_core.proofs.StepLaws.{completed_new}
use Rattle.tup_core.proofs.machine.Core.complete.Goals as goal

pub returns : goal.returns
returns c =
    completed_new c.args.at c.args.self.now (record c.args.self.now { pending = with_item c.args.self.now.pending c.args.at false; waiting = c.release.new.self })
    (unwrap_or-slice_get c.args.self.now.pending.items c.args.at false ∙ sym (get_or_read c.args.self.now.pending.items c.args.at c.index.result.now c.requires.here c.index.ensures false) ∙ c.if-not-index.false) refl c.release.ensures
