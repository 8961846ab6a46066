use Rattle.std.proofs.Common.{◌≡◌, ◌∙◌, List, Option, Some, true, sym, subst}
use Rattle.std.specs.Prelude.{◌↔◌, All}
use Rattle.std.specs.FinMap as finite
use Rattle.std.proofs.lemmas.Bool.{false≢true}
use Rattle.tup_path.specs.Name.{Names}
use Rattle.tup_stamp.specs.declared.Stamp.{Stamp}
use Rattle.tup_why.specs.Cause.{SeesAsks}
use Rattle.tup_why.proofs.checking.is_same.Goals as goal

pub returns-then-sees_asks : goal.returns-then-sees_asks
returns-then-sees_asks c =
    let g = c.args.nodes.now in
    let rule = c.args.rule.now in
    let asks = subst (λ (asks : List (Names × Option Stamp)). (c.sees_asks.result ≡ true) ↔ SeesAsks g rule asks) c.as_slice.ensures c.sees_asks.ensures in
    let files = subst (λ (files : List (Names × Stamp)). (c.sees_files.result ≡ true) ↔ All (λ (file : Names × Stamp). finite.get g.seen file.0 ≡ Some file.1) files) c.as_slice-then-sees_asks.ensures c.sees_files.ensures in (
      λ t. record { asked = λ path given asked. asks.0 c.if-sees_asks.true path given asked.0 asked.1; wrote = files.0 t },
      λ same. files.1 same.wrote,
    )

pub returns-else-sees_asks : goal.returns-else-sees_asks
returns-else-sees_asks c =
    let asks = subst (λ (asks : List (Names × Option Stamp)). (c.sees_asks.result ≡ true) ↔ SeesAsks c.args.nodes.now c.args.rule.now asks) c.as_slice.ensures c.sees_asks.ensures in (
      λ t. absurd (false≢true (sym c.if-sees_asks.false ∙ t)),
      λ same. asks.1 (λ path given h unwritten. same.asked path given (h, unwritten)),
    )
