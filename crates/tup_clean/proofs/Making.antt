-- The makers of a rule's paths are places of rules.
use Rattle.std.proofs.Common.{◌≡◌, ℕ, ◌<◌, List, [], ◌∷◌, ◌++◌, length, Option, None, Some, refl, inl, inr, arith}
use Rattle.std.proofs.lemmas.Bool.{cases_eq}
use Rattle.std.proofs.lemmas.Option.{slice_get_within}
use Rattle.std.specs.List.{filter_map, cons_option}
use Rattle.tup_path.specs.Name.{Names}
use Rattle.tup_rule.specs.declared.rule.Rule.{Rule}
use Rattle.tup_rule.specs.Rule.{writes, maker}
use Rattle.tup_rule.specs.Makers.{producers}
use Rattle.tup_clean.specs.Queue.{count_of}
use Rattle.tup_clean.proofs.Counting.{one_if, one_if-other}
use Rattle.tup_clean.proofs.Places.{position_found}

-- a maker is the place of a rule
counted : (rules : List Rule) (paths : List Names) (at : ℕ) → 0 < count_of at (filter_map (λ path. maker path rules) paths) → at < length rules
counted rules [] at some = absurd (omega arith)
counted rules (path ∷ paths) at some = by (maker path rules) refl (counted rules paths at) some
  where
    by : (m : Option ℕ) → maker path rules ≡ m → (0 < count_of at (filter_map (λ p. maker p rules) paths) → at < length rules) → 0 < count_of at (cons_option m (filter_map (λ p. maker p rules) paths)) → at < length rules
    by None e rest some = rest some
    by (Some other) e rest some = elim (cases_eq other at) [
      | inl same ↦ let found = position_found (λ (r : Rule). writes r path) rules other e in rw (← same) (slice_get_within rules other found.0 found.1)
      | inr apart ↦ rest (let less : one_if other at ≡ 0 = one_if-other other at apart in omega (arith, less, some))
    ]

pub producers-below : (rules : List Rule) (rule : Rule) (at : ℕ) → 0 < count_of at (producers rules rule) → at < length rules
producers-below rules rule at some = counted rules (rule.inputs ++ rule.order) at some
