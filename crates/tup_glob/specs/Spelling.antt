-- How a pattern is written: the texts of its symbols, one after another (from the manual; the places of `]` and `^` in a set are own).
use Rattle.std.specs.Prelude.{◌≡◌, ◌≢◌, ℕ, Bool, true, false, List, [], ◌∷◌, ◌++◌, All}
use Rattle.tup_glob.specs.declared.symbol.Symbol.{Symbol}
use Rattle.tup_glob.specs.declared.symbol.Symbol.TheVariants.{Char, Run, One, Set}
use Rattle.tup_glob.specs.Read.{members}

-- what a set may have between its brackets: something, in which no `]` stands but at the front, and there a `^` only behind that of a negation
abbrev pub IsInner : Bool → List ℕ → Type 0
IsInner negated [] = ⊥
IsInner negated (first ∷ more) = (negated ≡ false → first ≢ 94) × All (λ char. char ≢ 93) more

-- the sign of a negation
abbrev pub caret : Bool → List ℕ
caret true = 94 ∷ []
caret false = []

-- a text writes a symbol
abbrev pub Writes : Symbol → List ℕ → Type 0
Writes (Char own) text = (text ≡ own ∷ []) × (own ≢ 42) × (own ≢ 63) × (own ≢ 91)
Writes Run text = text ≡ 42 ∷ []
Writes One text = text ≡ 63 ∷ []
Writes (Set negated held) text = (inner : List ℕ) × (text ≡ 91 ∷ (caret negated ++ (inner ++ 93 ∷ []))) × IsInner negated inner × (held ≡ members inner)

-- a text writes symbols, one after another
abbrev pub Spells : List Symbol → List ℕ → Type 0
Spells [] text = text ≡ []
Spells (symbol ∷ more) text = (own : List ℕ) × (rest : List ℕ) × (text ≡ own ++ rest) × Writes symbol own × Spells more rest
