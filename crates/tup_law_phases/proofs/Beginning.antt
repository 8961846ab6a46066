-- The graph of a new store is kept, and so is the site of a project that has just begun.
use Rattle.std.proofs.Common.{◌≡◌, ℕ, Bool, true, false, cond, List, [], ◌∷◌, ◌++◌, Option, None, Some, IsSome, inl, refl, sym, ap, subst, ◌∙◌}
use Rattle.std.specs.FinMap as finite
use Rattle.std.proofs.lemmas.Bool.{false≢true}
use Rattle.std.proofs.lemmas.Option.{none-some}
use Rattle.std.proofs.lemmas.List.{nil_from_length}
use Rattle.tup_path.specs.Name.{Names, Content}
use Rattle.tup_path.specs.Order.{by_names}
use Rattle.tup_stamp.specs.declared.Stamp.{Stamp}
use Rattle.tup_rule.specs.declared.question.Reading.{Reading}
use Rattle.tup_rule.specs.declared.rule.Rule.{Rule}
use Rattle.tup_runner.specs.Next.{Next}
use Rattle.tup_site.specs.World.{World}
use Rattle.tup_table.specs.Store.{header}
use Rattle.tup_link.specs.Faults.{early_fault}
use Rattle.tup_link.specs.Linked.{rules_of}
use Rattle.tup_project.specs.Project.{AreLinked}
use Rattle.tup_graph.specs.Answers.{IsSource, tupfile}
use Rattle.tup_graph.specs.Graph.{GraphState, empty_graph, source}
use Rattle.tup_graph.specs.Kept.{IsGraphIn, IsKept, IsKeptSite, IsRuleAt, file_beside}
use Rattle.tup_graph.specs.declared.owned.Owned.{Owned}
use Rattle.tup_law_site.proofs.Stores.{one_in_bytes}
use Rattle.tup_law_phases.specs.Language.{tupfiles}
use Rattle.tup_law_phases.proofs.Tupfiles.{is_language}

-- ---- nothing is in it

no_rule : (number : ℕ) (rule : Rule) → IsRuleAt empty_graph number rule → ⊥
no_rule number rule here = absurd (none-some rule here)

no_reading : (dir : Names) (reading : Reading) → finite.get empty_graph.readings dir ≡ Some reading → ⊥
no_reading dir reading here = let none : None ≡ Some reading = sym (finite.get-empty {X = Reading} by_names dir) ∙ here in absurd (cc none)

none_owned : (path : Names) (owned : Owned) → finite.get empty_graph.owned path ≡ Some owned → ⊥
none_owned path owned here = let none : None ≡ Some owned = sym (finite.get-empty {X = Owned} by_names path) ∙ here in absurd (cc none)

no_readings : finite.entries empty_graph.readings ≡ []
no_readings = nil_from_length (finite.entries empty_graph.readings) (sym (finite.len-entries empty_graph.readings) ∙ finite.len-empty by_names Reading)

-- nothing is seen
none_seen : (path : Names) → source empty_graph path ≡ None
none_seen path = by (finite.contains_key empty_graph.owned path)
  where
    by : (owned : Bool) → cond owned None (finite.get empty_graph.seen path) ≡ None
    by true = refl
    by false = finite.get-empty {X = Stamp} by_names path

no_source : (path : Names) → IsSource (source empty_graph) path → ⊥
no_source path there = absurd (false≢true (subst (λ (found : Option Stamp). IsSome found) (none_seen path) there))

-- ---- no rules are linked of no readings

nothing_linked : AreLinked [] []
unfolding rules_of early_fault
nothing_linked = record { are = refl; early = refl; order = λ at rule here producer. none-some rule here }

links_nothing : tupfiles.linked (finite.entries empty_graph.readings) ≡ Some []
links_nothing = ap (λ (readings : List (Names × Reading)). tupfiles.linked readings) no_readings ∙ (is_language.1 [] []).1 nothing_linked

-- ---- it is kept

empty_kept : (next : Next) (known : List Content) → IsKept next tupfiles known empty_graph
empty_kept next known = record {
  records = record {
    runs = λ number rule run here ran. absurd (no_rule number rule here);
    readings = λ dir reading here. absurd (no_reading dir reading here);
  };
  recorded = λ number rule unflagged. absurd (no_rule number rule unflagged.here);
  agrees = record {
    stamps = λ number rule run unflagged ran. absurd (no_rule number rule unflagged.here);
    read = λ dir there unread. absurd (no_source (tupfile dir) there);
    told = λ dir reading here unread. absurd (no_reading dir reading here);
    upward = λ number other rule reader run path given here flagged there ran asked writes. absurd (no_rule number rule here);
  };
  declared = λ number rule run path given unflagged ran asked owned. absurd (no_rule number rule unflagged.here);
  owners = record {
    made = λ number rule path here writes. absurd (no_rule number rule here);
    makers = λ path owned number there maker. absurd (none_owned path owned there);
  };
  linked = links_nothing;
  written = λ number rule run unflagged ran. absurd (no_rule number rule unflagged.here);
}

-- it stands in the first store, and no other graph does
first_reads : IsGraphIn (header ++ 0 ∷ []) empty_graph
first_reads = record {
  commits = [];
  reads = inl (record {
    head = header;
    low = 0 ∷ [];
    parts = record { is_head = record { long = refl; first = refl }; whole = refl };
    closed = λ e. cc e;
    area = (0 ∷ [], record { fits = tt; whole = refl }, inl (λ e. cc e));
  });
  graph = refl;
}

module _ (next : Next) (known : List Content) (present : World) (Left : World → Type 0) (first : present.store ≡ header ++ 0 ∷ []) (durable : (w : World) → Left w → w ≡ present) where
  reads_empty : IsGraphIn present.store empty_graph
  reads_empty = subst (λ (bytes : List ℕ). IsGraphIn bytes empty_graph) (sym first) first_reads

  left_is : (w : World) (g : GraphState) → Left w → IsGraphIn w.store g → g ≡ empty_graph
  left_is w g left reads = one_in_bytes present.store g empty_graph (subst (λ (v : World). IsGraphIn v.store g) (durable w left) reads) reads_empty

  pub begun_kept : IsKeptSite next tupfiles known present Left
  begun_kept = record {
    now = record { graph = empty_graph; reads = reads_empty; kept = empty_kept next known };
    later = λ w left. record { graph = empty_graph; reads = subst (λ (v : World). IsGraphIn v.store empty_graph) (sym (durable w left)) reads_empty; kept = empty_kept next known };
    sources = λ w g left reads path. (λ i. file_beside (durable w left i) (left_is w g left reads i) path);
    own = λ w g path owned left reads there. absurd (none_owned path owned (subst (λ (h : GraphState). finite.get h.owned path ≡ Some owned) (left_is w g left reads) there));
  }
