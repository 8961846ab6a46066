-- A loop over the entries of a table: the graph so far, and what refuses an entry.
use Rattle.std.proofs.Common.{◌≡◌, ◌⊎◌, ℕ, true, false, List, [], ◌∷◌, ◌++◌, Result, Ok, Err, OnOk, IfErr, MatchResult, refl, sym, ap, subst, ◌∙◌, inl, inr, append_assoc, append-nil}
use Rattle.std.proofs.lemmas.Bool.{false≢true}
use Rattle.tup_record.specs.declared.record.Record.{Record}
use Rattle.tup_field.specs.declared.fault.RecordFault.{RecordFault}
use Rattle.tup_field.specs.declared.fault.RecordFault.TheVariants.{Short, BadKind, BadField, Trailing, Memory}
use Rattle.tup_record.specs.Reading.{Gives}
use Rattle.tup_record.specs.Spelling.{IsSpelled}
use Rattle.tup_table.specs.declared.entry.Entry.{Entry}
use Rattle.tup_table.specs.Entries.{Standing}
use Rattle.tup_graph.specs.Graph.{GraphState, empty_graph}
use Rattle.tup_graph.specs.Opening.{fits, put, refusal, Takes, IsGraphOf, IsBroken}
use Rattle.tup_graph.specs.declared.fault.GraphFault.{GraphFault}
use Rattle.tup_graph.specs.declared.fault.GraphFault.TheVariants.{BadStore, Memory as GraphMemory}
use Rattle.tup_graph.proofs.Leading.{leads_more}

abbrev ok_of : Record → Result Record RecordFault
ok_of r = Ok r

abbrev err_of : RecordFault → Result Record RecordFault
err_of fault = Err fault

-- what is no record isn't taken
pub no_record : (g : GraphState) (entry : List ℕ × Entry) (fault : RecordFault) → (fault ≡ Memory → ⊥) → ((r : Record) → IsSpelled entry.0 entry.1.value r → Gives (Err fault) (Ok r))
    → (r : Record) → Takes g entry r → ⊥
no_record g entry fault other only r takes =
    elim (only r takes.0) [
      | inl memory ↦ other (fault_of memory)
      | inr read ↦ let no : err_of fault ≡ ok_of r = read in cc
    ]
  where
    fault_of : err_of fault ≡ err_of Memory → fault ≡ Memory
    fault_of e = cc

same_found : (found r : Record) → ok_of found ≡ ok_of r → found ≡ r
same_found found r e = cc

-- a record that doesn't fit isn't taken
no_fit : (g : GraphState) (entry : List ℕ × Entry) (found : Record) → fits g found ≡ false → ((r : Record) → IsSpelled entry.0 entry.1.value r → Gives (Ok found) (Ok r))
    → (r : Record) → Takes g entry r → ⊥
no_fit g entry found unfit only r takes =
    elim (only r takes.0) [
      | inl memory ↦ let no : ok_of found ≡ err_of Memory = memory in cc
      | inr read ↦ false≢true (sym unfit ∙ ap (fits g) (same_found found r read) ∙ takes.1)
    ]

-- ---- the loop: the entries so far, and those that are left
pub record IsSoFar (entries left : Standing) (g : GraphState) : Type 0 where
  pub front : Standing
  pub whole : front ++ left ≡ entries
  pub graph : IsGraphOf front g

pub none_yet : (entries : Standing) (g : GraphState) → g ≡ empty_graph → IsSoFar entries entries g
none_yet entries g none = record { front = []; whole = refl; graph = none }

pub one_more : (entries left rest : Standing) (x : List ℕ × Entry) (g next : GraphState) (r : Record) → IsSoFar entries left g → left ≡ x ∷ rest → Takes g x r → next ≡ put g r → IsSoFar entries rest next
one_more entries left rest x g next r so_far first takes is = record {
  front = so_far.front ++ x ∷ [];
  whole = append_assoc so_far.front (x ∷ []) rest ∙ ap (λ (t : Standing). so_far.front ++ t) (sym first) ∙ so_far.whole;
  graph = subst (IsGraphOf (so_far.front ++ x ∷ [])) (sym is) (leads_more empty_graph g so_far.front x r so_far.graph takes);
}

pub all_read : (entries left : Standing) (g : GraphState) → IsSoFar entries left g → left ≡ [] → IsGraphOf entries g
all_read entries left g so_far none =
    subst (λ (t : Standing). IsGraphOf t g) (sym (append-nil so_far.front) ∙ ap (λ (t : Standing). so_far.front ++ t) (sym none) ∙ so_far.whole) so_far.graph

pub broken_at : (entries left rest : Standing) (x : List ℕ × Entry) (g : GraphState) → IsSoFar entries left g → left ≡ x ∷ rest → ((r : Record) → Takes g x r → ⊥) → IsBroken entries x.1.origin
broken_at entries left rest x g so_far first refused = record {
  front = so_far.front;
  entry = x;
  rest = rest;
  graph = g;
  whole = sym so_far.whole ∙ ap (λ (t : Standing). so_far.front ++ t) first;
  before = so_far.graph;
  refused = refused;
  origin = refl;
}

-- ---- one entry
pub took : {T : Type 0} (Held : Record → Type 0) (g : GraphState) (entry : List ℕ × Entry) (found : Record) (result : Result T GraphFault) → IsSpelled entry.0 entry.1.value found → fits g found ≡ true
    → OnOk result (Held found) → IfErr result (λ fault. fault ≡ GraphMemory)
    → MatchResult result (λ _. (r : Record) × Takes g entry r × Held r) (λ fault. (fault ≡ GraphMemory) ⊎ ((fault ≡ BadStore entry.1.origin) × ((r : Record) → Takes g entry r → ⊥)))
took Held g entry found (Ok x) spelled fit held memory = (found, (spelled, fit), held)
took Held g entry found (Err fault) spelled fit held memory = inl memory

pub refused_by : (g : GraphState) (entry : List ℕ × Entry) (fault : RecordFault) → ((r : Record) → IsSpelled entry.0 entry.1.value r → Gives (Err fault) (Ok r))
    → (refusal fault entry.1.origin ≡ GraphMemory) ⊎ ((refusal fault entry.1.origin ≡ BadStore entry.1.origin) × ((r : Record) → Takes g entry r → ⊥))
refused_by g entry Memory only = inl refl
refused_by g entry Short only = inr (refl, no_record g entry Short (λ e. cc) only)
refused_by g entry BadKind only = inr (refl, no_record g entry BadKind (λ e. cc) only)
refused_by g entry BadField only = inr (refl, no_record g entry BadField (λ e. cc) only)
refused_by g entry Trailing only = inr (refl, no_record g entry Trailing (λ e. cc) only)

pub refused_unfit : (g : GraphState) (entry : List ℕ × Entry) (found : Record) → fits g found ≡ false → ((r : Record) → IsSpelled entry.0 entry.1.value r → Gives (Ok found) (Ok r))
    → (BadStore entry.1.origin ≡ GraphMemory) ⊎ ((BadStore entry.1.origin ≡ BadStore entry.1.origin) × ((r : Record) → Takes g entry r → ⊥))
refused_unfit g entry found unfit only = inr (refl, no_fit g entry found unfit only)

pub read_refused : (entries left rest : Standing) (x : List ℕ × Entry) (g : GraphState) → IsSoFar entries left g → left ≡ x ∷ rest → (fault : GraphFault)
    → (fault ≡ GraphMemory) ⊎ ((fault ≡ BadStore x.1.origin) × ((r : Record) → Takes g x r → ⊥)) → (fault ≡ GraphMemory) ⊎ ((offset : ℕ) × (fault ≡ BadStore offset) × IsBroken entries offset)
read_refused entries left rest x g so_far first fault (inl memory) = inl memory
read_refused entries left rest x g so_far first fault (inr bad) = inr (x.1.origin, bad.0, broken_at entries left rest x g so_far first bad.1)
