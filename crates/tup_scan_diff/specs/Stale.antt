-- Folders that are to be read again (own).
use Rattle.std.specs.Prelude.{◌≡◌, ◌⊎◌, List, Option, None, Contains}
use Rattle.std.specs.FinMap as finite
use Rattle.tup_path.specs.Name.{Names, Content}
use Rattle.tup_rule.specs.declared.question.Reading.{Reading}
use Rattle.tup_scan_diff.specs.Index.{HasTupfile}
use Rattle.tup_scan_diff.specs.Told.{IsToldOtherwise}
use Rattle.tup_scan_diff.specs.declared.present.Present.{Present}

-- the reading of a folder doesn't stand any more: the folder has no Tupfile, or something that was told is otherwise
abbrev pub IsOutdated : Option Content → Present → Names → Reading → Type 0
IsOutdated config present dir reading = (HasTupfile present.index dir → ⊥) ⊎ IsToldOtherwise config present dir reading.asked

-- one of some readings, that of this folder, doesn't
abbrev pub IsOutdatedIn : Option Content → Present → List (Names × Reading) → Names → Type 0
IsOutdatedIn config present readings dir = (reading : Reading) × Contains readings (dir, reading) × IsOutdated config present dir reading

-- one of some folders has no reading
abbrev pub IsUnreadIn : Present → List Names → Names → Type 0
IsUnreadIn present dirs dir = Contains dirs dir × (finite.get present.nodes.now.readings dir ≡ None)
