-- Conditional lines, case by case.
use Rattle.std.proofs.Common.{◌≡◌, ◌⊎◌, inl, inr, Bool, true, false, if◌then◌else◌, List, Result, Ok, Err, ap}
use Rattle.tup_vars.specs.declared.branches.Level.{Level}
use Rattle.tup_vars.specs.declared.fault.VarFault.{VarFault}
use Rattle.tup_vars.specs.declared.fault.VarFault.TheVariants as kept
use Rattle.tup_vars.specs.Branches.{entered, all_on}
use Rattle.tup_query.specs.declared.fault.ParseFault.{ParseFault}
use Rattle.tup_query.specs.declared.fault.ReadEnd.{ReadEnd}
use Rattle.tup_query.specs.declared.fault.ReadEnd.TheVariants.{Memory}
use Rattle.tup_tupfile.specs.declared.opening.Along.{Along}
use Rattle.tup_rule_line.specs.declared.state.State.{State}
use Rattle.tup_query.specs.Reads.{Reads, gives, and_then}
use Rattle.tup_query.specs.Spot.{Spot, refused}
use Rattle.tup_query.specs.Text.{var_kind, taken}
use Rattle.tup_tupfile.specs.Opening.{along, at_levels, opening}
use Rattle.tup_query.specs.Went.{Gives, IsRefusal}
use Rattle.tup_query.proofs.Went.{refusal_of}

pub levels-ok : (at : Spot) (state : State) (levels : Result (List Level) VarFault) (next : List Level) → levels ≡ Ok next → at_levels at state levels ≡ gives (along next state)
unfolding at_levels taken and_then
levels-ok at state levels next e = ap (at_levels at state) e

pub levels-err : (at : Spot) (state : State) (levels : Result (List Level) VarFault) (fault : VarFault) → levels ≡ Err fault → at_levels at state levels ≡ refused at (var_kind fault)
unfolding at_levels taken and_then
levels-err at state levels fault e = ap (at_levels at state) e

-- what comes of a test
abbrev pub tested : Spot → Along → Bool → Reads ParseFault Along
tested at before on = at_levels at before.state (entered before.levels at.line on)

pub opening-on : (at : Spot) (before : Along) (test : Reads ParseFault Bool) → all_on before.levels ≡ true → opening at before test ≡ and_then test (tested at before)
unfolding opening
opening-on at before test e = ap (λ b. and_then (if b then test else gives false) (tested at before)) e

pub opening-off : (at : Spot) (before : Along) (test : Reads ParseFault Bool) → all_on before.levels ≡ false → opening at before test ≡ tested at before false
unfolding opening and_then
opening-off at before test e = ap (λ b. and_then (if b then test else gives false) (tested at before)) e

-- levels that were refused
pub levels-refused : (at : Spot) (state : State) (levels : Result (List Level) VarFault) (fault : VarFault) (end : ReadEnd) → IsRefusal at (var_kind fault) end → (end ≡ Memory) ⊎ (levels ≡ Err fault) → Gives (at_levels at state levels) (Err end)
levels-refused at state levels fault end is (inl e) = refusal_of (at_levels at state levels) at (var_kind fault) end is (inl e)
levels-refused at state levels fault end is (inr e) = refusal_of (at_levels at state levels) at (var_kind fault) end is (inr (levels-err at state levels fault e))

-- those of a call that may be without memory
pub levels-failed : (at : Spot) (state : State) (levels : Result (List Level) VarFault) (fault : VarFault) (end : ReadEnd) → IsRefusal at (var_kind fault) end → (fault ≡ kept.Memory → end ≡ Memory)
    → (fault ≡ kept.Memory) ⊎ (levels ≡ Err fault) → Gives (at_levels at state levels) (Err end)
levels-failed at state levels fault end is memory (inl e) = levels-refused at state levels fault end is (inl (memory e))
levels-failed at state levels fault end is memory (inr e) = levels-refused at state levels fault end is (inr e)
