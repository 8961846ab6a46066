-- What new readings and new rules do to the graph (own): a rule that is the same keeps its record and its flag, and what
-- read an output of a new rule is flagged, with all that recorded reads lead to from there.
use Rattle.std.specs.Prelude.{◌≡◌, ◌<◌, ◌⊎◌, ◌↔◌, ℕ, true, false, List, Option, None, Some, slice_get, count_by, take, unwrap_or, option_map}
use Rattle.std.specs.FinMap as finite
use Rattle.tup_path.specs.Name.{Names}
use Rattle.tup_path.specs.Order.{same_path, by_names}
use Rattle.tup_rule.specs.Rule.{among, maker}
use Rattle.tup_rule.specs.declared.question.Reading.{Reading}
use Rattle.tup_rule.specs.declared.rule.Rule.{Rule}
use Rattle.tup_record.specs.declared.owned.OwnedState.TheVariants.{Never}
use Rattle.tup_graph.specs.declared.owned.Owned.{Owned}
use Rattle.tup_graph.specs.Above.{IsAbove, HasReadOf}
use Rattle.tup_graph.specs.Graph.{GraphState, is_flagged}
use Rattle.tup_graph.specs.Kept.{IsRuleAt}

-- a rule that is the same stood under this number before, and under none that is smaller
abbrev pub WasAt : GraphState → Rule → ℕ → Type 0
WasAt old rule before = IsRuleAt old before rule × ((earlier : ℕ) → earlier < before → IsRuleAt old earlier rule → ⊥)

-- a rule is new
abbrev pub IsNew : GraphState → Rule → Type 0
IsNew old rule = (before : ℕ) → IsRuleAt old before rule → ⊥

-- the readings of folders: the fresh ones, and the others that weren't lost
abbrev pub reading_now : GraphState → List (Names × Reading) → List Names → Names → Option Reading
reading_now old fresh gone dir = elim (finite.get (finite.from_entries {R = by_names} fresh) dir) [
  | Some reading ↦ Some reading
  | None ↦ elim (among dir gone) [ true ↦ None | false ↦ finite.get old.readings dir ]
]

-- the place of each rule among those of its folder
abbrev pub IsPlaced : List Rule → ℕ → ℕ → Type 0
IsPlaced rules number place =
    (rule : Rule) × (slice_get rules number ≡ Some rule) × (place ≡ count_by (λ (other : Rule). same_path other.dir rule.dir) (take number rules))

-- how a path is owned that was owned so: by the rule that makes it now; its state stays, and is Never where it is new
abbrev pub owned_now : List Rule → Names → Option Owned → Option Owned
owned_now rules path before = elim (maker path rules) [
  | Some number ↦ Some (record { maker = Some number; state = unwrap_or (option_map (λ (owned : Owned). owned.state) before) Never })
  | None ↦ option_map (λ (owned : Owned). record { maker = None; state = owned.state }) before
]

-- a rule that is to be run whatever was read: it is new, or it was flagged
abbrev pub IsFlaggedYet : GraphState → GraphState → ℕ → Type 0
IsFlaggedYet old new number =
    (rule : Rule) × IsRuleAt new number rule × (IsNew old rule ⊎ ((before : ℕ) × WasAt old rule before × (is_flagged old before ≡ true)))

-- the record of a rule asks an output of a new rule
abbrev pub ReadsNew : GraphState → GraphState → ℕ → Type 0
ReadsNew old new number = (other : ℕ) × (maker : Rule) × IsRuleAt new other maker × IsNew old maker × HasReadOf new number maker

-- the graph after a swap
pub record IsSwapped (old : GraphState) (fresh : List (Names × Reading)) (gone : List Names) (rules : List Rule) (new : GraphState) : Type 0 where
  pub seen : new.seen ≡ old.seen
  pub readings : (dir : Names) → finite.get new.readings dir ≡ reading_now old fresh gone dir
  pub rules_are : new.rules ≡ rules
  pub places : (number place : ℕ) → (slice_get new.places number ≡ Some place) ↔ IsPlaced rules number place
  pub kept_runs : (number before : ℕ) (rule : Rule) → IsRuleAt new number rule → WasAt old rule before → finite.get new.runs number ≡ finite.get old.runs before
  pub no_runs : (number : ℕ) (rule : Rule) → IsRuleAt new number rule → IsNew old rule → finite.get new.runs number ≡ None
  pub no_others : (number : ℕ) → slice_get rules number ≡ None → finite.get new.runs number ≡ None
  pub owned : (path : Names) → finite.get new.owned path ≡ owned_now rules path (finite.get old.owned path)
  pub created : new.created ≡ finite.empty
  pub flags : (number : ℕ) → (is_flagged new number ≡ true) ↔ (IsFlaggedYet old new number ⊎ IsAbove new (ReadsNew old new) number)
