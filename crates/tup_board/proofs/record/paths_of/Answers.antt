use Rattle.std.proofs.Common.{ℕ, ◌+◌, List, [], ◌∷◌, ◌++◌, take, Option, refl, sym, ap, ◌∙◌, subst}
use Rattle.std.proofs.lemmas.List.{take_more}
use Rattle.tup_path.specs.Name.{Names}
use Rattle.tup_stamp.specs.declared.Stamp.{Stamp}
use Rattle.tup_board.specs.Ends.{IsNamed, AreRecorded}
use Rattle.tup_board.proofs.Records.{recorded_more}
use Rattle.tup_board.proofs.record.paths_of.Goals as goal

pub named-requires : goal.named-requires
named-requires c =
    subst (λ (one : List ℕ × Option Stamp). IsNamed c.args.dir.now one.0) (sym c.ask-item.is) (c.requires c.loop-ask.ask-index c.ask-item.result c.loop-ask-test.true)

pub loop-ask-preserved : goal.loop-ask-preserved
loop-ask-preserved c =
    let dir = c.args.dir.now in
    let asks = c.args.asks.now in
    let i = c.loop-ask.ask-index in
    let more = take_more asks i c.ask-item.result c.loop-ask-test.true ∙ ap (λ (one : List ℕ × Option Stamp). take i asks ++ one ∷ []) (sym c.ask-item.is) in
    subst (λ (paths : List (Names × Option Stamp)). AreRecorded dir (take (i + 1) asks) paths) (sym c.in_ok-push.ensures.ok)
    (subst (λ (some : List (List ℕ × Option Stamp)). AreRecorded dir some (c.loop-ask.paths ++ (c.in_ok-named.field-0, c.ask-item.result.1) ∷ [])) (sym more)
    (recorded_more dir (take i asks) c.loop-ask.paths c.ask-item.result (c.in_ok-named.field-0, c.ask-item.result.1) c.loop-ask.invariant c.in_ok-named.ensures refl))
