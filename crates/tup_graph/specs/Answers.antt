-- What sources and readings answer to a question of a reading (own): sources, and the outputs of the reading of the home of the
-- folder that is asked about, where that is another folder than the one that is read. Sources are known by their stamps.
use Rattle.std.specs.Prelude.{◌≡◌, ◌≢◌, ◌⊎◌, ◌↔◌, ℕ, List, [], ◌∷◌, ◌++◌, Option, None, Some, Ok, Contains, IsSome, codes}
use Rattle.std.specs.List.Sorted.{IsStrictlySortedBy}
use Rattle.std.specs.FinMap as finite
use Rattle.tup_path.specs.Name.{Names, Content}
use Rattle.tup_path.specs.Order.{by_bytes, by_names}
use Rattle.tup_path.specs.Tree.{IsBelow}
use Rattle.tup_stamp.specs.declared.Stamp.{Stamp}
use Rattle.tup_stamp.specs.Stamp.{stamp}
use Rattle.tup_rule.specs.declared.draft.Draft.{Draft}
use Rattle.tup_rule.specs.declared.question.Kind.{Kind}
use Rattle.tup_rule.specs.declared.question.Kind.TheVariants.{Nothing, File, Dir}
use Rattle.tup_rule.specs.declared.question.Noted.{Noted}
use Rattle.tup_rule.specs.declared.question.Noted.TheVariants as kept
use Rattle.tup_rule.specs.declared.question.Question.{Question}
use Rattle.tup_rule.specs.declared.question.Question.TheVariants as asks
use Rattle.tup_rule.specs.declared.question.Reading.{Reading}
use Rattle.tup_vars.specs.Config.{config_of}
use Rattle.tup_vars.specs.Table.{Entries, look}

-- the Tupfile of a folder
abbrev pub tupfile : Names → Names
tupfile dir = dir ++ codes "Tupfile" ∷ []

-- the tup.config of the top
abbrev pub tup_config : Names
tup_config = codes "tup.config" ∷ []

-- the stamp of the source at each path
abbrev pub Sources : Type 0
Sources = Names → Option Stamp

-- what the readings of folders left
abbrev pub Readings : Type 0
Readings = finite.FinMap by_names Reading

-- a source stands there
abbrev pub IsSource : Sources → Names → Type 0
IsSource sources path = IsSome (sources path)

-- a path is an output of one of these drafts
abbrev pub IsDrafted : List Draft → Names → Type 0
IsDrafted drafts path = (draft : Draft) × Contains drafts draft × Contains draft.outputs path

-- the reading of this folder, which has a Tupfile, has this output
pub record IsOutputOf (sources : Sources) (readings : Readings) (dir path : Names) : Type 0 where
  pub reading : Reading
  pub kept : finite.get readings dir ≡ Some reading
  pub has_tupfile : IsSource sources (tupfile dir)
  pub drafted : IsDrafted reading.drafts path

-- a folder is at or above another
abbrev pub IsAtOrAbove : Names → Names → Type 0
IsAtOrAbove folder dir = (rest : Names) × (dir ≡ folder ++ rest)

-- the home of a folder: the nearest folder at or above it that has a Tupfile
pub record IsHome (sources : Sources) (dir home : Names) : Type 0 where
  pub above : IsAtOrAbove home dir
  pub has_tupfile : IsSource sources (tupfile home)
  pub nearest : (folder : Names) → IsBelow home folder → IsAtOrAbove folder dir → IsSource sources (tupfile folder) → ⊥

-- an output that the reading of a folder (reader) is told of in a folder (dir): one of the reading of its home, where that is
-- another folder than the one that is read
abbrev pub IsOutputFor : Sources → Readings → Names → Names → Names → Type 0
IsOutputFor sources readings reader dir path = (home : Names) × IsHome sources dir home × (home ≢ reader) × IsOutputOf sources readings home path

-- a file in a folder that the reading of a folder is told of: a source, or such an output
abbrev pub IsFileFor : Sources → Readings → Names → Names → List ℕ → Type 0
IsFileFor sources readings reader dir name = IsSource sources (dir ++ name ∷ []) ⊎ IsOutputFor sources readings reader dir (dir ++ name ∷ [])

-- a source lies below a path
abbrev pub HasSourceBelow : Sources → Names → Type 0
HasSourceBelow sources path = (file : Names) × IsBelow path file × IsSource sources file

-- a path in some folder is such an output
abbrev pub IsMadeElsewhere : Sources → Readings → Names → Names → Type 0
IsMadeElsewhere sources readings reader path = (dir : Names) × (name : List ℕ) × (path ≡ dir ++ name ∷ []) × IsOutputFor sources readings reader dir path

-- what stands at a path: a source, then a folder of sources, then an output of another reading
abbrev pub IsKind : Sources → Readings → Names → Names → Kind → Type 0
IsKind sources readings reader path File = IsSource sources path ⊎ ((HasSourceBelow sources path → ⊥) × IsMadeElsewhere sources readings reader path)
IsKind sources readings reader path Dir = (IsSource sources path → ⊥) × HasSourceBelow sources path
IsKind sources readings reader path Nothing = (IsSource sources path → ⊥) × (HasSourceBelow sources path → ⊥) × (IsMadeElsewhere sources readings reader path → ⊥)

-- what tup.config, a source, sets a name to: a known content with its stamp is read
abbrev pub IsSetTo : List Content → Option Stamp → List ℕ → Option (List ℕ) → Type 0
IsSetTo known None name value = value ≡ None
IsSetTo known (Some seen) name value =
    (content : Content) × (entries : Entries) × Contains known content × (stamp content ≡ seen) × (config_of content ≡ Ok entries) × (value ≡ look entries name)

-- an answer to the reading of a folder is the one that sources and readings give
abbrev pub IsAnswer : List Content → Sources → Readings → Names → Question → Noted → Type 0
IsAnswer known sources readings reader (asks.Content path) (kept.Content seen) = seen ≡ sources path
IsAnswer known sources readings reader (asks.Config name) (kept.Config value) = IsSetTo known (sources tup_config) name value
IsAnswer known sources readings reader (asks.Names dir) (kept.Names names) =
    IsStrictlySortedBy by_bytes names × ((name : List ℕ) → Contains names name ↔ IsFileFor sources readings reader dir name)
IsAnswer known sources readings reader (asks.Kind path) (kept.Kind kind) = IsKind sources readings reader path kind
IsAnswer known sources readings reader question noted = ⊥
