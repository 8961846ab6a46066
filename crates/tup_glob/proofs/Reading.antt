-- The symbols of a pattern, one after another.
use Rattle.std.proofs.Common.{◌≡◌, ◌≢◌, ℕ, zero, suc, ◌+◌, Bool, true, false, List, [], ◌∷◌, ◌++◌, take, drop, Some, None, Ok, Err, Result, if◌then◌else◌, eqb, refl, sym, ap, ◌∙◌, append_assoc, arith}
use Rattle.std.proofs.lemmas.List.{drop-drop}
use Rattle.std.proofs.lemmas.Bool.{ne_eqb}
use Rattle.std.specs.List.{position_from}
use Rattle.std.specs.Option.{option_map}
use Rattle.tup_lex.specs.Word.{begins_with}
use Rattle.tup_glob.specs.declared.fault.GlobFault.{GlobFault}
use Rattle.tup_glob.specs.declared.fault.GlobFault.TheVariants.{OpenBracket}
use Rattle.tup_glob.specs.declared.symbol.Symbol.{Symbol}
use Rattle.tup_glob.specs.declared.symbol.Symbol.TheVariants.{Set}
use Rattle.tup_glob.specs.declared.symbol.Range.{Range}
use Rattle.tup_glob.specs.Read.{members, inner_len, set_of, longer, set_behind, symbol_of, onto, symbols_behind, Leaves}

-- ---- a set
set_from : (negated : Bool) (text : List ℕ) (n : ℕ) → inner_len text ≡ Some n → set_of negated text ≡ Some (Set negated (members (take n text)), n + 1)
set_from negated text n found = ap (option_map (λ k. (Set negated (members (take k text)), k + 1))) found

set_read : (negated : Bool) (inner body : List ℕ) (n : ℕ) (all : List Range) → inner_len inner ≡ Some n → body ≡ take n inner → all ≡ members body →
    set_of negated inner ≡ Some (Set negated all, n + 1)
set_read negated inner body n all found is_body is_all = set_from negated inner n found ∙ ap (λ m. Some (Set negated m, n + 1)) (sym (is_all ∙ ap members is_body))

pub set_found : (negated : Bool) (text inner body behind : List ℕ) (n : ℕ) (all : List Range) → negated ≡ begins_with 94 text → inner ≡ (if negated then drop 1 text else text) →
    inner_len inner ≡ Some n → body ≡ take n inner → behind ≡ drop (n + 1) inner → all ≡ members body → Leaves (set_behind text) text (Set negated all) behind
set_found false text inner body behind n all begins is_inner found is_body is_behind is_all = (
  n + 1,
  ap (λ b. if b then longer (set_of true (drop 1 text)) else set_of false text) (sym begins) ∙ ap (set_of false) (sym is_inner) ∙ set_read false inner body n all found is_body is_all,
  is_behind ∙ ap (drop (n + 1)) is_inner,
)
set_found true text inner body behind n all begins is_inner found is_body is_behind is_all =
    let further : 1 + (n + 1) ≡ n + 1 + 1 = omega arith in (
      n + 1 + 1,
      ap (λ b. if b then longer (set_of true (drop 1 text)) else set_of false text) (sym begins) ∙ ap (λ t. longer (set_of true t)) (sym is_inner)
          ∙ ap longer (set_read true inner body n all found is_body is_all),
      is_behind ∙ ap (drop (n + 1)) is_inner ∙ drop-drop (n + 1) 1 text ∙ ap (λ k. drop k text) further,
    )

-- ---- the bracket that closes it
pub bracket_here : (rest behind : List ℕ) (n char : ℕ) → rest ≡ char ∷ behind → char ≡ 93 → position_from (λ c. eqb c 93) n rest ≡ Some n
bracket_here rest behind n char next same =
    ap (position_from (λ c. eqb c 93) n) next ∙ ap (λ c. if eqb c 93 then Some n else position_from (λ c. eqb c 93) (n + 1) behind) same

pub bracket_later : (rest behind : List ℕ) (n char : ℕ) → rest ≡ char ∷ behind → char ≢ 93 → position_from (λ c. eqb c 93) n rest ≡ position_from (λ c. eqb c 93) (n + 1) behind
bracket_later rest behind n char next other =
    ap (position_from (λ c. eqb c 93) n) next ∙ ap (λ b. if b then Some n else position_from (λ c. eqb c 93) (n + 1) behind) (ne_eqb char 93 other)

-- ---- the symbols
pub symbols_skip : (n : ℕ) (text : List ℕ) → symbols_behind n text ≡ symbols_behind 0 (drop n text)
symbols_skip zero text = refl
symbols_skip (suc n) [] = refl
symbols_skip (suc n) (char ∷ more) = symbols_skip n more

onto-onto : (front more : List Symbol) (symbols : Result (List Symbol) GlobFault) → onto front (onto more symbols) ≡ onto (front ++ more) symbols
onto-onto front more (Ok symbols) = ap (λ p. Ok p) (sym (append_assoc front more symbols))
onto-onto front more (Err fault) = refl

-- one symbol more
pub symbols_step : (rest more behind : List ℕ) (char : ℕ) (symbol : Symbol) → rest ≡ char ∷ more → Leaves (symbol_of char more) more symbol behind →
    symbols_behind 0 rest ≡ onto (symbol ∷ []) (symbols_behind 0 behind)
symbols_step rest more behind char symbol next (n, found, is_behind) =
    ap (symbols_behind 0) next
    ∙ ap (λ o. elim o [ Some (symbol, k) ↦ onto (symbol ∷ []) (symbols_behind k more) | None ↦ Err OpenBracket ]) found
    ∙ ap (onto (symbol ∷ [])) (symbols_skip n more ∙ ap (symbols_behind 0) (sym is_behind))

pub symbols_next : (all : List Symbol) (rest more behind : List ℕ) (char : ℕ) (symbol : Symbol) → rest ≡ char ∷ more → Leaves (symbol_of char more) more symbol behind →
    onto all (symbols_behind 0 rest) ≡ onto (all ++ symbol ∷ []) (symbols_behind 0 behind)
symbols_next all rest more behind char symbol next leaves = ap (onto all) (symbols_step rest more behind char symbol next leaves) ∙ onto-onto all (symbol ∷ []) (symbols_behind 0 behind)
