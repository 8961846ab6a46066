-- Globs in other words: a name is cut into parts, one for each symbol (from the manual; the shortest part is own).
use Rattle.std.specs.Prelude.{◌≡◌, ℕ, ◌+◌, ◌≤◌, List, [], ◌∷◌, ◌++◌, length, IsTrue, ⊤}
use Rattle.std.specs.Str.{encode_utf8_all}
use Rattle.tup_lex.specs.declared.span.Span.{Span}
use Rattle.tup_glob.specs.declared.symbol.Symbol.{Symbol}
use Rattle.tup_glob.specs.declared.symbol.Symbol.TheVariants.{Char, Run}
use Rattle.tup_glob.specs.Symbol.{accepts}

-- a symbol may stand for a text: a run for any, another symbol for one character
abbrev pub StandsFor : Symbol → List ℕ → Type 0
StandsFor Run text = ⊤
StandsFor symbol text = (char : ℕ) × (text ≡ char ∷ []) × IsTrue (accepts symbol char)

-- a text can be cut into parts, of which the symbols stand for one each, in order
abbrev pub CanBeCut : List Symbol → List ℕ → Type 0
CanBeCut [] text = text ≡ []
CanBeCut (symbol ∷ more) text = (part : List ℕ) × (rest : List ℕ) × (text ≡ part ++ rest) × StandsFor symbol part × CanBeCut more rest

-- three texts, for which symbols stand: the characters before their first operator, this operator, and the symbols behind it
abbrev pub AreParts : List Symbol → List ℕ → List ℕ → List ℕ → Type 0
AreParts [] before part rest = ⊥
AreParts (Char own ∷ more) before part rest = (others : List ℕ) × (before ≡ own ∷ others) × AreParts more others part rest
AreParts (operator ∷ more) before part rest = (before ≡ []) × StandsFor operator part × CanBeCut more rest

-- what the first operator takes of a name, which is no more than it has to: where the name is cut so too, that part isn't shorter
pub record IsCutAt (symbols : List Symbol) (name before part rest : List ℕ) : Type 0 where
  pub whole : name ≡ before ++ (part ++ rest)
  pub parts : AreParts symbols before part rest
  pub shortest : (before' part' rest' : List ℕ) → name ≡ before' ++ (part' ++ rest') → AreParts symbols before' part' rest' → length part ≤ length part'

-- the bytes from one place up to another of a name are that part
pub record IsMatchedPart (symbols : List Symbol) (name : List ℕ) (span : Span) : Type 0 where
  pub before : List ℕ
  pub part : List ℕ
  pub rest : List ℕ
  pub cut : IsCutAt symbols name before part rest
  pub from : span.from ≡ length (encode_utf8_all before)
  pub to : span.to ≡ span.from + length (encode_utf8_all part)
