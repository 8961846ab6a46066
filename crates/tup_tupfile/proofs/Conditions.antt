-- What conditionals and assignments come to, case by case.
use Rattle.std.proofs.Common.{◌≡◌, ◌⊎◌, inl, inr, Bool, true, false, if◌then◌else◌, ℕ, List, Option, Some, None, Result, Ok, Err, refl, ap, is_some}
use Rattle.tup_lex.specs.Blank.{trim}
use Rattle.tup_lex.specs.declared.kind.ParseKind.TheVariants.{BadName, Unclosed}
use Rattle.tup_vars.specs.Name.{is_name, is_free}
use Rattle.tup_vars.specs.Table.{Entries}
use Rattle.tup_vars.specs.declared.fault.VarFault.{VarFault}
use Rattle.tup_vars.specs.declared.fault.VarFault.TheVariants as kept
use Rattle.tup_query.specs.declared.fault.ParseFault.{ParseFault}
use Rattle.tup_query.specs.declared.fault.ReadEnd.{ReadEnd}
use Rattle.tup_query.specs.declared.fault.ReadEnd.TheVariants.{Memory}
use Rattle.tup_rule_line.specs.declared.state.State.{State}
use Rattle.tup_query.specs.Reads.{Reads, gives, and_then}
use Rattle.tup_query.specs.Ask.{setting_of}
use Rattle.tup_query.specs.Spot.{Spot, refused}
use Rattle.tup_query.specs.Text.{var_kind, taken, expanded}
use Rattle.tup_tupfile.specs.Conditional.{agrees, looked_up, sides, compared, compares}
use Rattle.tup_tupfile.specs.Setting.{put_value, set_name, goes_on, with_value, value_of, assigned}
use Rattle.tup_query.specs.Went.{Gives, IsRefusal}
use Rattle.tup_query.proofs.Went.{refusal_of}

pub looked_up-bad : (at : Spot) (wanted : Bool) (name : List ℕ) → is_name name ≡ false → looked_up at wanted name ≡ refused at BadName
unfolding looked_up
looked_up-bad at wanted name e = ap (λ b. if b then and_then (setting_of name) (λ value. gives (agrees wanted (is_some value))) else refused at BadName) e

pub looked_up-name : (at : Spot) (wanted : Bool) (name : List ℕ) → is_name name ≡ true → looked_up at wanted name ≡ and_then (setting_of name) (λ value. gives (agrees wanted (is_some value)))
unfolding looked_up
looked_up-name at wanted name e = ap (λ b. if b then and_then (setting_of name) (λ value. gives (agrees wanted (is_some value))) else refused at BadName) e

pub compares-some : (at : Spot) (variables : Entries) (alike : Bool) (text left right : List ℕ) → sides text ≡ Some (left, right) → compares at variables alike text ≡ compared at variables alike left right
unfolding compares
compares-some at variables alike text left right e =
    ap (λ (found : Option (List ℕ × List ℕ)). elim found as (λ _. Reads ParseFault Bool) [ Some (left, right) ↦ compared at variables alike left right | None ↦ refused at Unclosed ]) e

pub compares-none : (at : Spot) (variables : Entries) (alike : Bool) (text : List ℕ) → sides text ≡ None → compares at variables alike text ≡ refused at Unclosed
unfolding compares
compares-none at variables alike text e =
    ap (λ (found : Option (List ℕ × List ℕ)). elim found as (λ _. Reads ParseFault Bool) [ Some (left, right) ↦ compared at variables alike left right | None ↦ refused at Unclosed ]) e

-- a value that was taken, and one that was refused
pub with_value-ok : (at : Spot) (state : State) (name : List ℕ) (more : Bool) (value : List ℕ) (variables : Entries) → put_value state.variables name more value ≡ Ok variables → with_value at state name more value ≡ gives (record state { variables = variables })
unfolding with_value taken and_then
with_value-ok at state name more value variables e = ap (λ (r : Result Entries VarFault). and_then (taken at var_kind r) (λ variables. gives (record state { variables = variables }))) e

with_value-err : (at : Spot) (state : State) (name : List ℕ) (more : Bool) (value : List ℕ) (fault : VarFault) → put_value state.variables name more value ≡ Err fault → with_value at state name more value ≡ refused at (var_kind fault)
unfolding with_value taken and_then
with_value-err at state name more value fault e = ap (λ (r : Result Entries VarFault). and_then (taken at var_kind r) (λ variables. gives (record state { variables = variables }))) e

pub with_value-refused : (at : Spot) (state : State) (name : List ℕ) (more : Bool) (value : List ℕ) (fault : VarFault) (end : ReadEnd) → IsRefusal at (var_kind fault) end → (fault ≡ kept.Memory → end ≡ Memory)
    → (fault ≡ kept.Memory) ⊎ (put_value state.variables name more value ≡ Err fault) → Gives (with_value at state name more value) (Err end)
with_value-refused at state name more value fault end is memory (inl e) = refusal_of (with_value at state name more value) at (var_kind fault) end is (inl (memory e))
with_value-refused at state name more value fault end is memory (inr e) = refusal_of (with_value at state name more value) at (var_kind fault) end is (inr (with_value-err at state name more value fault e))

-- ---- assignments
pub value-bad : (at : Spot) (variables : Entries) (name text : List ℕ) → is_free name ≡ false → value_of at variables name text ≡ refused at BadName
unfolding value_of
value-bad at variables name text e = ap (λ b. if b then expanded at variables text else refused at BadName) e

pub value-free : (at : Spot) (variables : Entries) (name text : List ℕ) → is_free name ≡ true → value_of at variables name text ≡ expanded at variables text
unfolding value_of
value-free at variables name text e = ap (λ b. if b then expanded at variables text else refused at BadName) e

-- what comes of a value
abbrev pub behind_value : Spot → State → List ℕ → List ℕ → Reads ParseFault State
behind_value at state left value = with_value at state (set_name left) (goes_on left) value

pub assigned_by : (at : Spot) (state : State) (left right : List ℕ) → assigned at state left right ≡ and_then (value_of at state.variables (set_name left) (trim right)) (behind_value at state left)
unfolding assigned
assigned_by at state left right = refl
