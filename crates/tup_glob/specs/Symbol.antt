-- The symbols of a glob: which characters each may stand for (from the manual).
use Rattle.std.specs.Prelude.{ℕ, nat_le, Bool, true, false, not, ◌&&◌, ◌==◌, if◌then◌else◌}
use Rattle.std.specs.List.{list_any}
use Rattle.tup_glob.specs.declared.symbol.Symbol.{Symbol}
use Rattle.tup_glob.specs.declared.symbol.Symbol.TheVariants.{Char, Run, One, Set}
use Rattle.tup_glob.specs.declared.symbol.Range.{Range}

-- whether a character lies in a range, whose ends are members
abbrev pub holds : Range → ℕ → Bool
holds range char = nat_le range.first char && nat_le char range.last

-- whether a symbol stands for itself; the others are operators
abbrev pub is_literal : Symbol → Bool
is_literal (Char _) = true
is_literal _ = false

-- whether a symbol may stand for a character, or a run for several of which this is one
abbrev pub accepts : Symbol → ℕ → Bool
accepts (Char own) char = own == char
accepts Run char = true
accepts One char = true
accepts (Set negated members) char =
    let held = list_any (λ range. holds range char) members in if negated then not held else held
