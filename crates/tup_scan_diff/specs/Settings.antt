-- What tup.config answers (own).
use Rattle.std.specs.Prelude.{◌≡◌, ◌↔◌, List, ℕ, Option, None, option_to_list}
use Rattle.tup_path.specs.Name.{Content}
use Rattle.tup_stamp.specs.declared.Stamp.{Stamp}
use Rattle.tup_vars.specs.Table.{look}
use Rattle.tup_graph.specs.Answers.{IsSetTo}
use Rattle.tup_scan_diff.specs.declared.settings.Settings.{Settings}
use Rattle.tup_scan_diff.specs.declared.settings.Settings.TheVariants.{Absent, Set, Faulty}

-- a name is set to a value
abbrev pub SetsTo : Settings → List ℕ → Option (List ℕ) → Type 0
SetsTo Absent name value = value ≡ None
SetsTo (Set entries) name value = value ≡ look entries name
SetsTo Faulty name value = ⊥

-- these are the settings of a content, where the source tup.config has this stamp
abbrev pub AreSettings : Option Content → Option Stamp → Settings → Type 0
AreSettings config seen settings = (name : List ℕ) (value : Option (List ℕ)) → SetsTo settings name value ↔ IsSetTo (option_to_list config) seen name value
