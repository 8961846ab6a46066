-- How paths are owned while rules are gone through, one after another (own).
use Rattle.std.specs.Prelude.{◌≡◌, ℕ, List, Option, None, Some, unwrap_or}
use Rattle.std.specs.FinMap as finite
use Rattle.tup_path.specs.Name.{Names}
use Rattle.tup_path.specs.Order.{by_names}
use Rattle.tup_rule.specs.declared.rule.Rule.{Rule}
use Rattle.tup_record.specs.declared.owned.OwnedState.TheVariants.{Never}
use Rattle.tup_graph.specs.declared.owned.Owned.{Owned}
use Rattle.tup_graph.specs.Swap.{owned_now}

-- paths are owned as these rules make them, and as they were owned before
abbrev pub AreOwned : List Rule → finite.FinMap by_names Owned → finite.FinMap by_names Owned → Type 0
AreOwned rules before owned = (path : Names) → finite.get owned path ≡ owned_now rules path (finite.get before path)

-- how a path is owned that was owned so, where a rule has it as an output: by the rule before, if one had it
abbrev pub made_here : ℕ → Option Owned → Owned
made_here number None = record { maker = Some number; state = Never }
made_here number (Some one) = record { maker = Some (unwrap_or one.maker number); state = one.state }

-- a rule has an output
abbrev pub with_output : ℕ → finite.FinMap by_names Owned → Names → finite.FinMap by_names Owned
with_output number owned path = finite.insert owned path (made_here number (finite.get owned path))
