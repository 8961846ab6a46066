-- texts expanded part by part
use Rattle.std.proofs.Common.{◌≡◌, ◌≢◌, ◌⊎◌, inl, inr, ℕ, ◌<◌, eqb, List, [], ◌∷◌, ◌++◌, length, get_or, Option, Result, Ok, Err, refl, sym, ap, ◌∙◌, arith}
use Rattle.std.specs.List.{slice_split}
use Rattle.std.proofs.lemmas.Bool.{ne_eqb}
use Rattle.std.proofs.lemmas.Grind.{get_or_default_zero}
use Rattle.std.proofs.lemmas.List.Splits.{slice_split_none, slice_split_at, length-slice_split}
use Rattle.tup_vars.specs.Table.{Entries}
use Rattle.tup_vars.specs.Segments.{Segment, HasNoBracket, closed, last, segments, segments_of}
use Rattle.tup_vars.specs.Expand.{Scope, scope, with_segment, with_segments, HasNoAnswer}
use Rattle.tup_vars.specs.declared.fault.VarFault.{VarFault}
use Rattle.tup_vars.specs.declared.fault.VarFault.TheVariants.{Memory, Stopped}

-- ---- segments one after another
abbrev pub and_then : Result (List ℕ) VarFault → (List ℕ → Result (List ℕ) VarFault) → Result (List ℕ) VarFault
and_then (Ok text) next = next text
and_then (Err fault) next = Err fault

pub with_segments-append : (names : Scope) (text : List ℕ) (front back : List Segment) → with_segments names text (front ++ back) ≡ and_then (with_segments names text front) (λ longer. with_segments names longer back)
with_segments-append names text [] back = refl
with_segments-append names text (segment ∷ front) back = by_first (with_segment names text segment) (λ longer. with_segments-append names longer front back)
  where
    by_first : (r : Result (List ℕ) VarFault) → ((longer : List ℕ) → with_segments names longer (front ++ back) ≡ and_then (with_segments names longer front) (λ longer. with_segments names longer back))
        → (elim r as (λ _. Result (List ℕ) VarFault) [ Ok longer ↦ with_segments names longer (front ++ back) | Err fault ↦ Err fault ])
        ≡ and_then (elim r as (λ _. Result (List ℕ) VarFault) [ Ok longer ↦ with_segments names longer front | Err fault ↦ Err fault ]) (λ longer. with_segments names longer back)
    by_first (Ok longer) more = more longer
    by_first (Err fault) more = refl

-- ---- a text cut at its closing brackets
pub no_bracket : (part : List ℕ) → ((i : ℕ) → i < length part → get_or part i 0 ≢ 41) → HasNoBracket part
no_bracket part h = λ k d l. ne_eqb _ 41 (λ e. h k l (sym (get_or_default_zero part k d l) ∙ e))

pub segments-last : (text : List ℕ) → HasNoBracket text → segments text ≡ last text
segments-last text none = ap segments_of (slice_split_none (λ byte. eqb byte 41) text none)

pub segments-closed : (part more : List ℕ) → HasNoBracket part → segments (part ++ 41 ∷ more) ≡ closed part ++ segments more
segments-closed part more none =
    ap segments_of (slice_split_at (λ byte. eqb byte 41) part 41 more none refl)
    ∙ some (slice_split (λ byte. eqb byte 41) more) (omega (arith, length-slice_split (λ byte. eqb byte 41) more))
  where
    some : (parts : List (List ℕ)) → 0 < length parts → segments_of (part ∷ parts) ≡ closed part ++ segments_of parts
    some [] h = absurd (omega arith)
    some (next ∷ parts) h = refl

-- ---- one turn
-- a text whose rest is a part, a closing bracket, and more
pub record IsCut (rest part more : List ℕ) : Type 0 where
  pub whole : rest ≡ part ++ 41 ∷ more
  pub none : HasNoBracket part

no_answer-ok : {T : Type 0} {A : Type 0} (text : T) → HasNoAnswer (Ok text) → A
no_answer-ok text (inl e) = absurd (cc)
no_answer-ok text (inr e) = absurd (cc)

module _ (variables : Entries) (cwd : List ℕ) (here there : List ℕ → Option (List ℕ)) (same : here ≡ there) (meant : Result (List ℕ) VarFault) (text rest : List ℕ)
    (so_far : meant ≡ with_segments (scope variables cwd there) text (segments rest)) where
  turn : (part more : List ℕ) → IsCut rest part more → meant ≡ and_then (with_segments (scope variables cwd there) text (closed part)) (λ longer. with_segments (scope variables cwd there) longer (segments more))
  turn part more cut =
      so_far ∙ ap (λ r. with_segments (scope variables cwd there) text (segments r)) cut.whole ∙ ap (with_segments (scope variables cwd there) text) (segments-closed part more cut.none)
      ∙ with_segments-append (scope variables cwd there) text (closed part) (segments more)

  pub turn-ok : (part more : List ℕ) → IsCut rest part more → {T : Type 0} (done : T) (longer : List ℕ) → HasNoAnswer (Ok done) ⊎ (with_segments (scope variables cwd here) text (closed part) ≡ Ok longer) → meant ≡ with_segments (scope variables cwd there) longer (segments more)
  turn-ok part more cut done longer (inl none) = no_answer-ok done none
  turn-ok part more cut done longer (inr e) =
      turn part more cut ∙ ap (λ r. and_then r (λ longer. with_segments (scope variables cwd there) longer (segments more))) (ap (λ answers. with_segments (scope variables cwd answers) text (closed part)) (sym same) ∙ e)

  pub turn-err : (part more : List ℕ) → IsCut rest part more → {T : Type 0} (failed : Result T VarFault) (fault : VarFault) (result : Result (List ℕ) VarFault) → failed ≡ Err fault → result ≡ Err fault → HasNoAnswer failed ⊎ (with_segments (scope variables cwd here) text (closed part) ≡ Err fault) → HasNoAnswer result ⊎ (result ≡ meant)
  turn-err part more cut failed fault result was is (inl (inl memory)) = inl (inl (let same : fault ≡ Memory = cc in is ∙ ap Err same))
  turn-err part more cut failed fault result was is (inl (inr stop)) = inl (inr (let same : fault ≡ Stopped = cc in is ∙ ap Err same))
  turn-err part more cut failed fault result was is (inr e) =
      inr (is ∙ sym (turn part more cut ∙ ap (λ r. and_then r (λ longer. with_segments (scope variables cwd there) longer (segments more))) (ap (λ answers. with_segments (scope variables cwd answers) text (closed part)) (sym same) ∙ e)))

  end : HasNoBracket rest → meant ≡ with_segments (scope variables cwd there) text (last rest)
  end none = so_far ∙ ap (with_segments (scope variables cwd there) text) (segments-last rest none)

  pub end-ok : HasNoBracket rest → {T : Type 0} {done : Result T VarFault} (value : T) (longer : List ℕ) → done ≡ Ok value → (done ≡ Err Memory) ⊎ (with_segments (scope variables cwd there) text (last rest) ≡ Ok longer) → Ok longer ≡ meant
  end-ok none value longer was (inl memory) = absurd (cc)
  end-ok none value longer was (inr e) = sym (end none ∙ e)

  pub end-err : HasNoBracket rest → {T : Type 0} (failed : Result T VarFault) (fault : VarFault) (result : Result (List ℕ) VarFault) → failed ≡ Err fault → result ≡ Err fault → (failed ≡ Err Memory) ⊎ (with_segments (scope variables cwd there) text (last rest) ≡ Err fault) → HasNoAnswer result ⊎ (result ≡ meant)
  end-err none failed fault result was is (inl memory) = inl (inl (let same : fault ≡ Memory = cc in is ∙ ap Err same))
  end-err none failed fault result was is (inr e) = inr (is ∙ sym (end none ∙ e))
