use Rattle.std.proofs.Common.{◌≡◌, List, Option, Some, inl, subst}
use Rattle.std.specs.Prelude.{All, MatchOption}
use Rattle.std.specs.FinMap as finite
use Rattle.std.specs.Result.{IfOk}
use Rattle.std.proofs.lemmas.Option.{MatchOption-at_none, MatchOption-at_some}
use Rattle.std.proofs.lemmas.Result.{IfOk-weaker}
use Rattle.tup_path.specs.Name.{Names}
use Rattle.tup_stamp.specs.declared.Stamp.{Stamp}
use Rattle.tup_graph.specs.Kept.{HasSeenStamps}
use Rattle.tup_why.specs.Cause.{SeesAsks}
use Rattle.tup_why.specs.Reason.{HasOther, IsOtherAsk, IsOtherWrite}
use Rattle.tup_why.proofs.Causes.{other_told}
use Rattle.tup_why.proofs.cause.other.Goals as goal

pub returns-in-Some-clause-other : goal.returns-in-Some-clause-other
returns-in-Some-clause-other c =
    let g = c.args.nodes.now in
    let rule = c.args.rule.now in
    let asks = c.as_slice.result.now in
    inl (subst (λ (l : List (Names × Option Stamp)). IsOtherAsk g rule l c.in-Some.path) c.as_slice.ensures
    (MatchOption-at_some (SeesAsks g rule asks) (IsOtherAsk g rule asks) c.in-Some.path c.in-Some.is c.in_ok-path.ensures.other))

pub returns-in-None-clause-other : goal.returns-in-None-clause-other
returns-in-None-clause-other c =
    let g = c.args.nodes.now in
    let rule = c.args.rule.now in
    let run = c.args.run.now in
    let asks = c.as_slice.result.now in
    let sees = subst (SeesAsks g rule) c.as_slice.ensures (MatchOption-at_none (SeesAsks g rule asks) (IsOtherAsk g rule asks) c.in-None.is c.in_ok-path.ensures.other) in
    IfOk-weaker c.other_write.result
    (λ (found : Option Names). MatchOption found (All (λ (file : Names × Stamp). finite.get g.seen file.0 ≡ Some file.1) run.writes) (IsOtherWrite g run.writes))
    (λ (found : Option Names). MatchOption found (HasSeenStamps g rule run) (HasOther g rule run)) (other_told g rule run sees)
    (subst (λ (files : List (Names × Stamp)). IfOk c.other_write.result (λ (found : Option Names). MatchOption found (All (λ (file : Names × Stamp). finite.get g.seen file.0 ≡ Some file.1) files) (IsOtherWrite g files)))
    c.as_slice-in-None.ensures c.other_write.ensures.other)
