-- Openings that were planned over what a site keeps and what its tree holds (own).
use Rattle.std.specs.Prelude.{◌≡◌, ◌≢◌, ℕ, List, None, Some, Contains, is_none}
use Rattle.std.specs.FinMap as finite
use Rattle.std.specs.Option.{option_map}
use Rattle.tup_path.specs.Name.{Names, Content}
use Rattle.tup_path.specs.Tree.{Tree}
use Rattle.tup_stamp.specs.declared.Stamp.{Stamp}
use Rattle.tup_stamp.specs.Stamp.{stamp}
use Rattle.tup_runner.specs.Next.{Next}
use Rattle.tup_clean.specs.Clean.{Build, clean}
use Rattle.tup_core.specs.declared.plan.Plan.{Plan}
use Rattle.tup_core.specs.Step.{is_reached, opening}
use Rattle.tup_core.specs.Honest.{IsKnown}
use Rattle.tup_core.specs.Kept.{Kept, Owner, IsKept}

-- the sources of a tree: the files that aren't owned
abbrev pub sources_of : Kept → Tree → Tree
sources_of kept tree = finite.retain_keys tree (λ path. is_none (kept.owner path))

-- the clean build of a plan's rules over the sources of a tree
abbrev pub clean_of : Next → Kept → Tree → Plan → Build
clean_of next kept tree plan = clean next plan.rules (sources_of kept tree)

-- an opening that was planned: what was seen is the tree, no owned path has lost its rule, the rules that are flagged
-- are to be run, and the files are those that were seen
pub record IsPlanned (next : Next) (known : List Content) (kept : Kept) (tree : Tree) (plan : Plan) (files : List (Names × Stamp)) : Type 0 where
  pub is_kept : IsKept next known kept
  pub seen : (path : Names) → kept.seen path ≡ option_map stamp (finite.get tree path)
  pub made : (path : Names) (owner : Owner) → kept.owner path ≡ Some owner → owner.maker ≢ None
  pub rules : kept.rules ≡ plan.rules
  pub reach : (at : ℕ) → is_reached plan at ≡ kept.flagged at
  pub stamps : (path : Names) → (opening plan files).files path ≡ kept.seen path
  -- the tree's contents are known, and no two known ones have one stamp
  pub is_known : IsKnown known
  pub contents : (path : Names) (content : Content) → finite.get tree path ≡ Some content → Contains known content
