-- Rules that wait for each other, from a circle in their graph.
use Rattle.std.proofs.Common.{◌≡◌, ℕ, ◌+◌, ◌<◌, List, [], ◌∷◌, ◌++◌, length, take, get_or, Option, None, option_map, subst, sym, ap, ◌∙◌}
use Rattle.std.specs.List.{slice_get, cons_option}
use Rattle.std.proofs.lemmas.List.{take_more, append-nil}
use Rattle.std.proofs.lemmas.List.Elements.{filter_map-append}
use Rattle.tup_rule.specs.declared.rule.Rule.{Rule}
use Rattle.tup_rule.specs.declared.rule.RuleName.{RuleName}
use Rattle.tup_rule.specs.Rule.{name_of}
use Rattle.tup_link.specs.Circle.{IsRound, IsCircle, NoneWaitsForItself, names_at}
use Rattle.tup_link.specs.Graph.{Leads, IsWithin, HasNoCircle}
use Rattle.tup_link.specs.Makers.{all_producers}
use Rattle.tup_link.specs.Walk.{IsTurned}
use Rattle.tup_link.proofs.Turning.{turned_round, least}
use Rattle.tup_link.proofs.Waiting.{within, none_waits, round_from}

pub circle_of : (rules : List Rule) (graph : List (List ℕ)) (round places : List ℕ) → graph ≡ all_producers rules → IsRound (Leads graph) round → IsTurned round places → IsCircle rules places
circle_of rules graph round places is stands turned =
    let here = subst (λ (g : List (List ℕ)). IsRound (Leads g) round) is stands in
    let waits = round_from rules places (turned_round (Leads (all_producers rules)) round places here turned) in
    record { round = waits; least = least round places waits.first waits.more turned waits.are }

pub within_graph : (rules : List Rule) (graph : List (List ℕ)) → graph ≡ all_producers rules → IsWithin graph
within_graph rules graph is = subst (λ (g : List (List ℕ)). IsWithin g) (sym is) (within rules)

pub none_of_graph : (rules : List Rule) (graph : List (List ℕ)) → graph ≡ all_producers rules → HasNoCircle graph → NoneWaitsForItself rules
none_of_graph rules graph is none = none_waits rules (subst (λ (g : List (List ℕ)). HasNoCircle g) is none)

-- the names of one more rule
pub names_more : (rules : List Rule) (places : List ℕ) (i : ℕ) → i < length places → names_at rules (take (i + 1) places) ≡ names_at rules (take i places) ++ names_at rules (get_or places i 0 ∷ [])
names_more rules places i less =
    ap (names_at rules) (take_more places i 0 less)
    ∙ filter_map-append (λ place. option_map name_of (slice_get rules place)) (take i places) (get_or places i 0 ∷ [])

-- where there is no rule there is no name
pub names_none : (rules : List Rule) (at : ℕ) (names : List RuleName) → slice_get rules at ≡ None → names ≡ names ++ names_at rules (at ∷ [])
names_none rules at names none = sym (ap (λ (o : Option Rule). names ++ cons_option (option_map name_of o) []) none ∙ append-nil names)
