-- The outputs of readings (own).
use Rattle.std.specs.Prelude.{◌≡◌, ◌↔◌, Bool, List, Some}
use Rattle.std.specs.BTreeSet.{BTreeSet}
use Rattle.std.specs.FinMap as finite
use Rattle.std.specs.List.{list_any}
use Rattle.tup_path.specs.Name.{Names}
use Rattle.tup_path.specs.Order.{by_names}
use Rattle.tup_rule.specs.Rule.{among}
use Rattle.tup_rule.specs.declared.draft.Draft.{Draft}
use Rattle.tup_rule.specs.declared.question.Reading.{Reading}
use Rattle.tup_graph.specs.Answers.{IsDrafted, Readings}
use Rattle.tup_scan_diff.specs.Sets.{Has}
use Rattle.tup_scan_diff.specs.declared.made.Made.{Made}

-- whether a path is an output of one of some drafts
abbrev pub makes : Names → List Draft → Bool
makes path drafts = list_any (λ (draft : Draft). among path draft.outputs) drafts

-- the reading of a folder has this output
abbrev pub HasOutput : Readings → Names → Names → Type 0
HasOutput readings dir path = (reading : Reading) × (finite.get readings dir ≡ Some reading) × IsDrafted reading.drafts path

-- a set of the outputs of some drafts
abbrev pub AreOutputs : List Draft → BTreeSet Names → Type 0
AreOutputs drafts set = (path : Names) → Has by_names set path ↔ IsDrafted drafts path

-- the set that is kept of a folder has the outputs of its reading
abbrev pub AreMade : Readings → Made → Type 0
AreMade readings made = (dir : Names) (set : BTreeSet Names) → finite.get made.outputs dir ≡ Some set → (reading : Reading) × (finite.get readings dir ≡ Some reading) × AreOutputs reading.drafts set

-- the outputs of these drafts are kept of a folder from now on
abbrev pub IsGiven : Names → List Draft → Made → Made → Type 0
IsGiven dir drafts old new = (set : BTreeSet Names) × AreOutputs drafts set × (new.outputs ≡ finite.insert old.outputs dir set)
