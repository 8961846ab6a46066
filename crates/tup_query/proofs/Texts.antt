-- What a text stands for, case by case.
use Rattle.std.proofs.Common.{◌≡◌, ◌⊎◌, inl, inr, ℕ, List, [], Result, Ok, Err, sym, ap}
use Rattle.tup_path.specs.Gives.{GivesUnless}
use Rattle.tup_lex.specs.declared.kind.ParseKind.{ParseKind}
use Rattle.tup_vars.specs.Asked.{setting_names}
use Rattle.tup_vars.specs.Table.{Entries}
use Rattle.tup_vars.specs.Expand.{scope, expansion, HasNoAnswer}
use Rattle.tup_vars.specs.declared.fault.VarFault.{VarFault}
use Rattle.tup_vars.specs.declared.fault.VarFault.TheVariants as kept
use Rattle.tup_query.specs.declared.fault.ParseFault.{ParseFault}
use Rattle.tup_query.specs.declared.fault.ReadEnd.{ReadEnd}
use Rattle.tup_query.specs.declared.fault.ReadEnd.TheVariants.{Memory}
use Rattle.tup_query.specs.Reads.{Reads, gives, and_then}
use Rattle.tup_query.specs.Ask.{Settings, settings_of}
use Rattle.tup_query.specs.Spot.{Spot, cwd}
use Rattle.tup_query.specs.Text.{var_kind, value_among, taken, expanded}
use Rattle.tup_query.specs.Went.{Gives, IsRefusal}
use Rattle.tup_query.proofs.Went.{refusal_of}

-- ---- what a call gave, or its refusal
pub taken_ok : {A E : Type 0} (at : Spot) (called : E → ParseKind) (memory : E) (value : A) (answer : Result A E) → GivesUnless (Ok value) memory answer → Gives (taken at called answer) (Ok value)
unfolding taken
taken_ok at called memory value answer (inl e) = absurd (cc)
taken_ok at called memory value answer (inr e) = ap (taken at called) (sym e)

pub taken_err : {A E : Type 0} (at : Spot) (called : E → ParseKind) (memory fault : E) (answer : Result A E) (end : ReadEnd) → GivesUnless (Err fault) memory answer
    → IsRefusal at (called fault) end → (fault ≡ memory → end ≡ Memory) → Gives (taken at called answer) (Err end)
unfolding taken
taken_err at called memory fault answer end (inl e) is none = refusal_of (taken at called answer) at (called fault) end is (inl (none (cc)))
taken_err at called memory fault answer end (inr e) is none = refusal_of (taken at called answer) at (called fault) end is (inr (ap (taken at called) (sym e)))

-- ---- variables and settings
-- what comes of a text once its settings are told
abbrev pub told : Spot → Entries → List ℕ → Settings → Reads ParseFault (List ℕ)
told at variables text values = taken at var_kind (expansion (scope variables (cwd at) (value_among values)) text)

pub expanded_by : (at : Spot) (variables : Entries) (text : List ℕ) (names : List (List ℕ)) → names ≡ setting_names text → expanded at variables text ≡ and_then (settings_of [] names) (told at variables text)
unfolding expanded
expanded_by at variables text names e = ap (λ (ns : List (List ℕ)). and_then (settings_of [] ns) (told at variables text)) (sym e)

pub expansion_ok : (at : Spot) (text : List ℕ) (answer : Result (List ℕ) VarFault) → HasNoAnswer (Ok text) ⊎ (Ok text ≡ answer) → taken at var_kind answer ≡ gives text
unfolding taken
expansion_ok at text answer (inl (inl e)) = absurd (cc)
expansion_ok at text answer (inl (inr e)) = absurd (cc)
expansion_ok at text answer (inr e) = ap (taken at var_kind) (sym e)

pub expansion_err : (at : Spot) (fault : VarFault) (answer : Result (List ℕ) VarFault) (end : ReadEnd) → HasNoAnswer {T = List ℕ} (Err fault) ⊎ (Err fault ≡ answer)
    → IsRefusal at (var_kind fault) end → (fault ≡ kept.Memory → end ≡ Memory) → (fault ≡ kept.Stopped → end ≡ Memory) → Gives (taken at var_kind answer) (Err end)
unfolding taken
expansion_err at fault answer end (inl (inl e)) is none stop = refusal_of (taken at var_kind answer) at (var_kind fault) end is (inl (none (cc)))
expansion_err at fault answer end (inl (inr e)) is none stop = refusal_of (taken at var_kind answer) at (var_kind fault) end is (inl (stop (cc)))
expansion_err at fault answer end (inr e) is none stop = refusal_of (taken at var_kind answer) at (var_kind fault) end is (inr (ap (taken at var_kind) (sym e)))
