use Rattle.std.proofs.Common.{Bool, refl, sym, subst, ◌∙◌}
use Rattle.std.specs.Prelude.{OnOk}
use Rattle.tup_scan_diff.specs.Index.{IsAddedIf}
use Rattle.tup_scan_diff.proofs.index.Index.add_source.Goals as goal

pub returns-then-owns-clause-added : goal.returns-then-owns-clause-added
returns-then-owns-clause-added c = subst (λ (b : Bool). IsAddedIf b c.args.path.now c.args.self.now c.args.self.now) (sym c.if-owns.true ∙ c.owns.ensures.owned) refl

pub returns-clause-added : goal.returns-clause-added
returns-clause-added c =
    subst (λ (b : Bool). OnOk c.add.result (IsAddedIf b c.args.path.now c.args.self.now c.add.new.self)) (sym c.if-owns.false ∙ c.owns.ensures.owned) c.add.ensures.added
