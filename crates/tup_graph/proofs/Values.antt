-- A graph is of keys and values alone, wherever these were put.
use Rattle.std.proofs.Common.{◌≡◌, ℕ, List, [], ◌∷◌, subst, map}
use Rattle.tup_record.specs.Spelling.{IsSpelled}
use Rattle.tup_record.specs.declared.record.Record.{Record}
use Rattle.tup_table.specs.Compact.{HasSameValues, values_of}
use Rattle.tup_table.specs.Entries.{Standing}
use Rattle.tup_graph.specs.Graph.{GraphState, empty_graph}
use Rattle.tup_graph.specs.Opening.{put, Leads, IsGraphOf}

abbrev Pair : Type 0
Pair = List ℕ × List ℕ

heads : (a b : Pair) (x y : List Pair) → a ∷ x ≡ b ∷ y → a ≡ b
heads a b x y e = cc

tails : (a b : Pair) (x y : List Pair) → a ∷ x ≡ b ∷ y → x ≡ y
tails a b x y e = cc

leads_by_values : (g end : GraphState) (one other : Standing) → HasSameValues one other → Leads g one end → Leads g other end
leads_by_values g end [] [] same leads = leads
leads_by_values g end [] (f ∷ other) same leads = absurd (cc)
leads_by_values g end (e ∷ one) [] same leads = absurd (cc)
leads_by_values g end (e ∷ one) (f ∷ other) same leads =
    let first = heads (e.0, e.1.value) (f.0, f.1.value) (values_of one) (values_of other) same in
    let more = tails (e.0, e.1.value) (f.0, f.1.value) (values_of one) (values_of other) same in
    (leads.0, (subst (λ (p : Pair). IsSpelled p.0 p.1 leads.0) first leads.1.0, leads.1.1), leads_by_values (put g leads.0) end one other more leads.2)

pub graph_by_values : (g : GraphState) (one other : Standing) → HasSameValues one other → IsGraphOf one g → IsGraphOf other g
graph_by_values g one other same leads = leads_by_values empty_graph g one other same leads
