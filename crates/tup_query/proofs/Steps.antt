-- Loops of calls that may ask: one turn, and the end.
use Rattle.std.proofs.Common.{◌≡◌, ℕ, ◌+◌, ◌<◌, ◌≤◌, List, [], ◌∷◌, ◌++◌, length, get_or, drop, sym, ap, ◌∙◌}
use Rattle.std.proofs.lemmas.List.{at_drop_more, at_drop_all}
use Rattle.tup_query.specs.declared.fault.ParseFault.{ParseFault}
use Rattle.tup_query.specs.Reads.{gives, and_then}
use Rattle.tup_query.specs.Ask.{Settings, setting_of, settings_of}

-- what is left of the names that are asked
pub settings_more : (known : Settings) (names : List (List ℕ)) (at : ℕ) (name : List ℕ) → at < length names → name ≡ get_or names at name
    → settings_of {F = ParseFault} known (drop at names) ≡ and_then (setting_of name) (λ value. settings_of (known ++ (name, value) ∷ []) (drop (at + 1) names))
unfolding settings_of
settings_more known names at name within is =
    at_drop_more (settings_of known) names at name within
    ∙ ap (λ (n : List ℕ). and_then (setting_of n) (λ value. settings_of (known ++ (n, value) ∷ []) (drop (at + 1) names))) (sym is)

pub settings_end : (known : Settings) (names : List (List ℕ)) (at : ℕ) → length names ≤ at → settings_of {F = ParseFault} known (drop at names) ≡ gives known
unfolding settings_of
settings_end known names at past = at_drop_all (settings_of known) names at past
