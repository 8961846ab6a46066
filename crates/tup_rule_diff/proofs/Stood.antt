-- What stands in a graph stands among the entries of its table, as it is spelled.
use Rattle.std.specs.Prelude.{◌≡◌, ◌⊎◌, ℕ, Bool, true, false, cond, not, List, [], ◌∷◌, Option, None, Some, bytes_eq}
use Rattle.std.proofs.Common.{refl, sym, ap, subst, ◌∙◌, inl, inr}
use Rattle.std.specs.declared.cmp.Ordering.{Ordering}
use Rattle.std.specs.declared.cmp.Ordering.TheVariants.{Less}
use Rattle.std.specs.Ordering.{eq_by_cmp, is_eq, nat_cmp}
use Rattle.std.specs.Cmp.{nat_cmp_total}
use Rattle.std.specs.Cmp.Lexicographic.{bytes_decides}
use Rattle.std.specs.FinMap as finite
use Rattle.std.specs.List.{AllByRecursion}
use Rattle.std.specs.Option.{option_map, option_eq}
use Rattle.tup_path.specs.Name.{Names}
use Rattle.tup_path.specs.Order.{by_bytes, by_names, by_names-total}
use Rattle.tup_path.proofs.Same.{by_names-decides}
use Rattle.tup_record.specs.declared.record.Record.{Record}
use Rattle.tup_record.specs.declared.record.Record.TheVariants.{Seen, Reading, Rule, Run, Owned, Create, Modify}
use Rattle.tup_record.specs.declared.run.RunRecord.{RunRecord}
use Rattle.tup_record.specs.Spelling.{Fits, key_of, value_of}
use Rattle.tup_table.specs.declared.change.Change.TheVariants.{Put}
use Rattle.tup_table.specs.declared.entry.Entry.{Entry}
use Rattle.tup_table.specs.Entries.{Standing, IsAscending, entry_at}
use Rattle.tup_graph.specs.declared.owned.Owned.{Owned as OwnedValue}
use Rattle.tup_graph.specs.Changes.{changes_it, value_at}
use Rattle.tup_graph.specs.Graph.{GraphState, empty_graph}
use Rattle.tup_graph.specs.Opening.{put, IsGraphOf, Leads, Takes}
use Rattle.tup_closure.proofs.Members.{number-decides}
use Rattle.tup_scan_diff.proofs.Named.{name-decides}

-- ---- entries in the order of their keys
none_below : (k : List ℕ) (es : Standing) → AllByRecursion (λ (later : List ℕ × Entry). by_bytes k later.0 ≡ Less) es → value_at es k ≡ None
none_below k [] all = refl
none_below k (e ∷ es) all = ap (λ (o : Ordering). option_map (λ (x : Entry). x.value) (cond (is_eq o) (Some e.1) (entry_at es k))) all.0 ∙ none_below k es all.1

at_first : (e : List ℕ × Entry) (es : Standing) → value_at (e ∷ es) e.0 ≡ Some e.1.value
at_first e es = ap (λ (b : Bool). option_map (λ (x : Entry). x.value) (cond b (Some e.1) (entry_at es e.0))) ((name-decides e.0 e.0).1 refl)

at_later : (e : List ℕ × Entry) (es : Standing) (k value : List ℕ) → IsAscending (e ∷ es) → value_at es k ≡ Some value → value_at (e ∷ es) k ≡ Some value
at_later e es k value up is = by (eq_by_cmp by_bytes k e.0) refl
  where
    by : (b : Bool) → eq_by_cmp by_bytes k e.0 ≡ b → option_map (λ (x : Entry). x.value) (cond b (Some e.1) (entry_at es k)) ≡ Some value
    by true same = absurd (let wrong : None ≡ Some value = sym (ap (value_at es) ((name-decides k e.0).0 same) ∙ none_below e.0 es up.0) ∙ is in cc)
    by false apart = is

-- a record is spelled, and stands among entries
abbrev pub IsThere : Standing → Record → Type 0
IsThere es r = Fits r × (value_at es (key_of r) ≡ Some (value_of r))

taken_there : (h : GraphState) (e : List ℕ × Entry) (es : Standing) (r : Record) → Takes h e r → IsThere (e ∷ es) r
taken_there h e es r takes = (takes.0.0, ap (value_at (e ∷ es)) (sym takes.0.1) ∙ at_first e es ∙ ap Some takes.0.2)

-- ---- records of runs
runs_lead : (es : Standing) (h end : GraphState) → IsAscending es → Leads h es end → (n : ℕ) (run : RunRecord) → finite.get end.runs n ≡ Some run → (finite.get h.runs n ≡ Some run) ⊎ IsThere es (Run n run)
runs_lead [] h end up leads n run is = inl (sym (ap (λ (g : GraphState). finite.get g.runs n) leads) ∙ is)
runs_lead (e ∷ es) h end up (r, takes, leads) n run is = by (runs_lead es (put h r) end up.1 leads n run is)
  where
    came : (r : Record) → Takes h e r → finite.get (put h r).runs n ≡ Some run → (finite.get h.runs n ≡ Some run) ⊎ IsThere (e ∷ es) (Run n run)
    came (Seen p s) takes before = inl before
    came (Reading dir one) takes before = inl before
    came (Rule m place rule) takes before = inl before
    came (Owned p maker state) takes before = inl before
    came (Create dir) takes before = inl before
    came (Modify m) takes before = inl before
    came (Run m other) takes before = here (eq_by_cmp nat_cmp n m) refl (sym (finite.get-insert nat_cmp_total h.runs m other n) ∙ before)
      where
        here : (b : Bool) → eq_by_cmp nat_cmp n m ≡ b → cond b (Some other) (finite.get h.runs n) ≡ Some run → (finite.get h.runs n ≡ Some run) ⊎ IsThere (e ∷ es) (Run n run)
        here true same e_run =
            let value : other ≡ run = cc in
            inr (subst (λ (x : ℕ × RunRecord). IsThere (e ∷ es) (Run x.0 x.1)) (λ i. (sym ((number-decides n m).0 same) i, value i)) (taken_there h e es (Run m other) takes))
        here false apart e_run = inl e_run

    by : (finite.get (put h r).runs n ≡ Some run) ⊎ IsThere es (Run n run) → (finite.get h.runs n ≡ Some run) ⊎ IsThere (e ∷ es) (Run n run)
    by (inl before) = came r takes before
    by (inr later) = inr (later.0, at_later e es (key_of (Run n run)) (value_of (Run n run)) up later.1)

-- ---- owned paths
abbrev pub owned_record : Names → OwnedValue → Record
owned_record path one = Owned path one.maker one.state

owned_lead : (es : Standing) (h end : GraphState) → IsAscending es → Leads h es end → (path : Names) (one : OwnedValue) → finite.get end.owned path ≡ Some one → (finite.get h.owned path ≡ Some one) ⊎ IsThere es (owned_record path one)
owned_lead [] h end up leads path one is = inl (sym (ap (λ (g : GraphState). finite.get g.owned path) leads) ∙ is)
owned_lead (e ∷ es) h end up (r, takes, leads) path one is = by (owned_lead es (put h r) end up.1 leads path one is)
  where
    came : (r : Record) → Takes h e r → finite.get (put h r).owned path ≡ Some one → (finite.get h.owned path ≡ Some one) ⊎ IsThere (e ∷ es) (owned_record path one)
    came (Seen p s) takes before = inl before
    came (Reading dir two) takes before = inl before
    came (Rule m place rule) takes before = inl before
    came (Run m run) takes before = inl before
    came (Create dir) takes before = inl before
    came (Modify m) takes before = inl before
    came (Owned p maker state) takes before = here (eq_by_cmp by_names path p) refl (sym (finite.get-insert by_names-total h.owned p (record { maker = maker; state = state }) path) ∙ before)
      where
        here : (b : Bool) → eq_by_cmp by_names path p ≡ b → cond b (Some (record { maker = maker; state = state })) (finite.get h.owned path) ≡ Some one → (finite.get h.owned path ≡ Some one) ⊎ IsThere (e ∷ es) (owned_record path one)
        here true same e_one =
            let two : OwnedValue = record { maker = maker; state = state } in
            let value : two ≡ one = cc in
            inr (subst (λ (x : Names × OwnedValue). IsThere (e ∷ es) (owned_record x.0 x.1)) (λ i. (sym ((by_names-decides path p).0 same) i, value i)) (taken_there h e es (Owned p maker state) takes))
        here false apart e_one = inl e_one

    by : (finite.get (put h r).owned path ≡ Some one) ⊎ IsThere es (owned_record path one) → (finite.get h.owned path ≡ Some one) ⊎ IsThere (e ∷ es) (owned_record path one)
    by (inl before) = came r takes before
    by (inr later) = inr (later.0, at_later e es (key_of (owned_record path one)) (value_of (owned_record path one)) up later.1)

module _ (es : Standing) (g : GraphState) (up : IsAscending es) (is : IsGraphOf es g) where
  pub run_stands : (n : ℕ) (run : RunRecord) → finite.get g.runs n ≡ Some run → IsThere es (Run n run)
  run_stands n run there = elim (runs_lead es empty_graph g up is n run there) [
    | inl none ↦ absurd (let wrong : None ≡ Some run = sym (finite.get-empty nat_cmp n) ∙ none in cc)
    | inr stands ↦ stands
  ]

  pub owner_stands : (path : Names) (one : OwnedValue) → finite.get g.owned path ≡ Some one → IsThere es (owned_record path one)
  owner_stands path one there = elim (owned_lead es empty_graph g up is path one there) [
    | inl none ↦ absurd (let wrong : None ≡ Some one = sym (finite.get-empty by_names path) ∙ none in cc)
    | inr stands ↦ stands
  ]

-- to put it changes nothing
pub changes_nothing : (es : Standing) (r : Record) → IsThere es r → changes_it es (Put (key_of r) (value_of r)) ≡ false
changes_nothing es r there = ap (λ (found : Option (List ℕ)). not (option_eq bytes_eq found (Some (value_of r)))) there.1 ∙ ap not ((bytes_decides (value_of r) (value_of r)).1 refl)
