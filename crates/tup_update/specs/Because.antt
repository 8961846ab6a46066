-- Why the rules were run that an update brought to a verdict (own).
use Rattle.std.specs.Prelude.{◌≡◌, ◌⊎◌, ℕ, Bool, true, false, List, [], ◌++◌, length, Option, None, Some}
use Rattle.std.specs.List.{AllZip}
use Rattle.tup_site.specs.declared.site.Site.{Ghosts as Site}
use Rattle.tup_rule.specs.Rule.{name_of}
use Rattle.tup_rule.specs.declared.rule.Rule.{Rule}
use Rattle.tup_rule.specs.declared.rule.RuleName.{RuleName}
use Rattle.tup_runner.specs.Next.{Next}
use Rattle.tup_graph.specs.Graph.{GraphState}
use Rattle.tup_stored_graph.specs.Held.{Held}
use Rattle.tup_core.specs.declared.plan.Plan.{Plan}
use Rattle.tup_apart.specs.Run.{MayRun}
use Rattle.tup_promise.specs.Kept.{OfGraph}
use Rattle.tup_phases.specs.Kept.{KeepsRuns}
use Rattle.tup_phases.specs.Logged.{ended_rules}
use Rattle.tup_promise.specs.declared.log.Log.{Log}
use Rattle.tup_why.specs.Reason.{IsPlanned, IsReasonOf}
use Rattle.tup_why.specs.Shown.{chain_text}
use Rattle.tup_why.specs.Waiting.{HasCircle}
use Rattle.tup_why.specs.declared.reason.Reason.{Reason}
use Rattle.tup_update.specs.Names.{IsReadyFor, value_at}
use Rattle.tup_update.specs.Promised.{WasPrepared}
use Rattle.tup_update.specs.declared.by_rule.ByRule.{ByRule}

-- a text is the chain of a reason of the rule of a number, as it is printed
abbrev pub IsChain : GraphState → Plan → ℕ → List ℕ → Type 0
IsChain g plan number text = (reason : Reason) × IsReasonOf g plan number reason × (text ≡ chain_text plan.rules reason)

-- the chain of a planned rule, or none, where some rule waits for itself
abbrev pub IsChainOrNone : GraphState → Plan → ℕ → Option (List ℕ) → Type 0
IsChainOrNone g plan number (Some text) = IsChain g plan number text
IsChainOrNone g plan number None = HasCircle g plan

-- the chains of the rules that a plan has to run, of which none is begun
pub record AreChainsOf (g : GraphState) (plan : Plan) (chains : ByRule (Option (List ℕ))) : Type 0 where
  pub ready : IsReadyFor plan.reach chains
  pub are : (number : ℕ) (rule : Rule) (chain : Option (List ℕ)) → IsPlanned plan number rule → value_at chains number ≡ Some chain → IsChainOrNone g plan number chain

-- ---- of rules by their names

-- a planned rule of this name has this chain, or none, where some rule waits for itself
abbrev pub SaysWhy : GraphState → Plan → RuleName → Option (List ℕ) → Type 0
SaysWhy g plan name chain = (number : ℕ) × (rule : Rule) × IsPlanned plan number rule × (name_of rule ≡ name) × IsChainOrNone g plan number chain

-- a planned rule of this name has this chain
abbrev pub HasChain : GraphState → Plan → RuleName → Option (List ℕ) → Type 0
HasChain g plan name chain = (number : ℕ) × (rule : Rule) × IsPlanned plan number rule × (name_of rule ≡ name) × (text : List ℕ) × (chain ≡ Some text) × IsChain g plan number text

-- a property of the rules whose command came to a verdict, those included that a log leaves out for want of memory
abbrev pub OfEnded : Log → (List RuleName → Type 0) → Type 0
OfEnded log Property = (rest : List RuleName) × Property (ended_rules log ++ rest)

-- no rule ended, or each that did has this property of a plan that may be run over a graph
abbrev pub OfRules : GraphState → List RuleName → List (Option (List ℕ)) → (Plan → RuleName → Option (List ℕ) → Type 0) → Type 0
OfRules g names chains Property = ((names ≡ []) × (chains ≡ [])) ⊎ ((plan : Plan) × MayRun g plan × AllZip (Property plan) names chains)

-- where reasons are asked for there is a chain for each rule that ended, in the order of the ends, or none, where some rule
-- waits for itself; where they aren't there is no chain
pub record AreSaid (explain : Bool) (g : GraphState) (names : List RuleName) (chains : List (Option (List ℕ))) : Type 0 where
  pub asked : explain ≡ true → OfRules g names chains (SaysWhy g)
  pub unasked : explain ≡ false → chains ≡ []

-- ---- of an update

-- no rule ended, or each that did has a chain, over the graph that was up to date with the site that the update began with; the
-- records of its rules are those of the store of that site
abbrev pub AreExplained : {S : Type 0} → Site S → S → List RuleName → List (Option (List ℕ)) → Type 0
AreExplained {S} site old names chains = ((names ≡ []) × (chains ≡ [])) ⊎ ((next : Next) × (graph : Held) × (at : S) × WasPrepared site next old graph at
    × OfGraph (site.world old) (λ was. KeepsRuns was graph.nodes)
    × ((plan : Plan) × MayRun graph.nodes plan × AllZip (HasChain graph.nodes plan) names chains))

-- there is one for each rule that ended where they are asked for, and else none, whatever the site is
abbrev pub CountsChains : Bool → List RuleName → List (Option (List ℕ)) → Type 0
CountsChains true names chains = length chains ≡ length names
CountsChains false names chains = chains ≡ []
