-- What an update leaves that has no rule to run, at once or at the end of its board.
use Rattle.std.proofs.Common.{◌≡◌, ◌≢◌, ℕ, ◌≤◌, Bool, true, false, List, [], Option, None, Some, Ok, IsTrue, refl, sym, ap, subst, ◌∙◌, arith}
use Rattle.std.specs.FinMap as finite
use Rattle.std.specs.List.{IsDistinct}
use Rattle.std.specs.Prelude.{is_none, slice_get}
use Rattle.std.proofs.lemmas.Bool.{true≢false}
use Rattle.std.proofs.lemmas.Option.{none-some, same_Some}
use Rattle.tup_path.specs.Name.{Names}
use Rattle.tup_path.specs.Order.{by_names, by_names-total, by_names-antisymmetric, same_path}
use Rattle.tup_path.specs.Tree.{Tree}
use Rattle.tup_site.specs.Known.{IsKnown, Joins, KnowsTree}
use Rattle.tup_site.specs.World.{World}
use Rattle.tup_site.specs.declared.site.Site.{Ghosts as Site}
use Rattle.tup_rule.specs.Rule.{is_generated}
use Rattle.tup_rule.specs.declared.question.Reading.{Reading}
use Rattle.tup_rule.specs.declared.rule.Rule.{Rule}
use Rattle.tup_rule.proofs.Laws.{maker-Some}
use Rattle.tup_readings.specs.Sources.{has_tupfile}
use Rattle.tup_runner.specs.Next.{Next}
use Rattle.tup_runner.specs.declared.runner.Runner.{Ghosts as Runner}
use Rattle.tup_clean.proofs.Among.{is_generated-maker}
use Rattle.tup_project.specs.Project.{ComeTo}
use Rattle.tup_table.specs.Table.{entries_in}
use Rattle.tup_graph.specs.Graph.{GraphState, is_flagged}
use Rattle.tup_graph.specs.Kept.{IsGraphIn, IsKept, IsKeptSite, file_beside}
use Rattle.tup_graph.specs.Opening.{IsGraphOf}
use Rattle.tup_graph.specs.Reach.{stamp_in}
use Rattle.tup_graph.specs.declared.owned.Owned.{Owned}
use Rattle.tup_stored_graph.specs.Held.{is_fresh, Held}
use Rattle.tup_ledger.specs.Sources.{sources_of}
use Rattle.tup_core.specs.Sound.{IsAcyclic}
use Rattle.tup_rule_outputs.specs.Lost.{Lost}
use Rattle.tup_board.specs.Board.{BoardState, first_graph, plan_of, state}
use Rattle.tup_board.specs.Come.{IsPresent}
use Rattle.tup_board.specs.Sound.{Before, IsSound}
use Rattle.tup_law_site.specs.Over.{IsKeptNow, LeftNow, StandsOver}
use Rattle.tup_law_site.proofs.Remaining.{has_graph, is_kept, sources_before}
use Rattle.tup_law_site.proofs.Stores.{one_in_bytes}
use Rattle.tup_law_board.specs.Kept.{HoldsTogether}
use Rattle.tup_law_board.proofs.Sites.{kept_now, seen_now, site_kept}
use Rattle.tup_law_phases.specs.Language.{tupfiles}
use Rattle.tup_law_phases.proofs.Seen.{is_beside}
use Rattle.tup_promise.specs.Finished.{IsSettled, ExactlyTheFiles, IsFinished}
use Rattle.tup_promise.specs.Kept.{HaveTupfiles, OfGraph}
use Rattle.tup_promise.specs.Needed.{FlagsWhatWasDue, IsDue, NamesAllDue}
use Rattle.tup_promise.specs.Prepared.{IsPrepared}
use Rattle.tup_ends.proofs.Completed.{finished}
use Rattle.tup_promise.proofs.Asked.{one_asked}
use Rattle.tup_ends.proofs.Settled.{settled}

-- two worlds that have the same files beside what their graphs own have the same sources
pub same_sources : (w v : World) (g h : GraphState) → ((path : Names) → file_beside w g path ≡ file_beside v h path) → sources_of g w.tree ≡ sources_of h v.tree
same_sources w v g h same =
    finite.same_map by_names-total by_names-antisymmetric (sources_of g w.tree) (sources_of h v.tree) (λ path. sym (is_beside w g path) ∙ same path ∙ is_beside v h path)

-- a graph in the store of a world that has the sources of another, whose rules these are, and that has run all of them
ended_so : (next : Next) (first w : World) (g h : GraphState) → IsGraphIn first.store g → IsGraphIn w.store h → sources_of h w.tree ≡ sources_of g first.tree
    → IsFinished next (sources_of h w.tree) h w.tree → ExactlyTheFiles next first w None
ended_so next first w g h begun stands same done = (g, begun, (h, stands, subst (λ (sources : Tree). IsFinished next sources h w.tree) same done))

-- where the readings are those of a graph that was up to date, and the sources those of the world that it was up to date with, each folder
-- of which a reading is kept has a Tupfile
read_there : (first w : World) (g h begun : GraphState) → IsGraphIn first.store begun → OfGraph first (λ was. HaveTupfiles (sources_of was first.tree) g) → h.readings ≡ g.readings → sources_of h w.tree ≡ sources_of begun first.tree
    → HaveTupfiles (sources_of h w.tree) h
read_there first w g h begun stored (was, mine, read) same sources dir left here =
    subst (λ (tree : Tree). IsTrue (has_tupfile tree dir)) (ap (λ (k : GraphState). sources_of k first.tree) (one_in_bytes first.store was begun mine stored) ∙ sym sources)
    (read dir left (sym (ap (λ (m : finite.FinMap by_names Reading). finite.get m dir) same) ∙ here))

-- ---- at once
module _ {S : Type 0} (site : Site S) (next : Next) (first : World) (since : ℕ) (graph : Held) (at : S) (prepared : IsPrepared site next first since graph at)
    (earlier : (t u : ℕ) (w : World) → t ≤ u → site.left_since at u w → site.left_since at t w) (present : LeftNow site at (site.world at)) where
  abbrev begun : GraphState
  begun = prepared.rules.0

  abbrev now : World
  now = site.world at

  in_store : IsGraphIn now.store graph.nodes
  in_store = has_graph site next tupfiles (site.known at) first since graph at prepared.over earlier now present

  first_is : prepared.over.kept.now.graph ≡ begun
  first_is = one_in_bytes first.store prepared.over.kept.now.graph begun prepared.over.kept.now.reads prepared.rules.1

  pub sources_are : sources_of graph.nodes now.tree ≡ sources_of begun first.tree
  sources_are =
      same_sources now first graph.nodes begun
      (λ path. sources_before site next tupfiles (site.known at) first since graph at prepared.over earlier now present path ∙ ap (λ (g : GraphState). file_beside first g path) first_is)

  is_finished : IsKnown (site.known at) → KnowsTree (site.known at) now.tree → ((number : ℕ) → is_flagged graph.nodes number ≡ false) → IsFinished next (sources_of graph.nodes now.tree) graph.nodes now.tree
  is_finished apart knows none =
      finished next (site.known at) graph.nodes now.tree (is_kept site next tupfiles (site.known at) first since graph at prepared.over earlier now present) none prepared.seen prepared.made apart knows
      prepared.created (read_there first now graph.nodes graph.nodes begun prepared.rules.1 prepared.read refl sources_are) (subst (λ (sources : Tree). ComeTo sources (Ok graph.nodes.rules)) (sym sources_are) prepared.rules.2)

  pub at_once : IsKnown (site.known at) → KnowsTree (site.known at) now.tree → ((number : ℕ) → is_flagged graph.nodes number ≡ false) → ExactlyTheFiles next first now None
  at_once apart knows none = ended_so next first now begun graph.nodes prepared.rules.1 in_store sources_are (is_finished apart knows none)

  over_now : StandsOver site next tupfiles (site.known at) now (site.moment at) graph at
  over_now = record { began = omega arith; stands = prepared.over.stands; is_graph = prepared.over.is_graph; kept = prepared.kept }

  -- and a crash leaves them
  pub settled_at_once : IsKnown (site.known at) → KnowsTree (site.known at) now.tree → ((w : World) → LeftNow site at w → Joins (site.known at) w.tree)
      → ((number : ℕ) → is_flagged graph.nodes number ≡ false) → IsSettled site at
  settled_at_once apart knows joins none = settled site next graph at over_now earlier present knows joins (sources_of graph.nodes now.tree) (is_finished apart knows none)

  -- its flagged rules were due
  pub flags_due : FlagsWhatWasDue first now
  flags_due = (graph.nodes, in_store, λ number flagged. (prepared.due number).0 flagged)

-- where none is flagged none was due
pub none_due : {S : Type 0} (site : Site S) (next : Next) (first : World) (since : ℕ) (graph : Held) (at : S) → IsPrepared site next first since graph at → ((number : ℕ) → is_flagged graph.nodes number ≡ false)
    → NamesAllDue first []
none_due site next first since graph at prepared none rules number name asks due named =
    absurd (true≢false (sym ((prepared.due number).1 (subst (λ (list : List Rule). IsDue first list number) (one_asked first rules graph.nodes.rules asks prepared.rules) due)) ∙ none number))

-- ---- at the end of a board
module _ {S R : Type 0} (site : Site S) (runner : Runner R) (b : BoardState S) (sound : IsSound site runner b) (tells : IsTrue site.tells) (told : IsTrue runner.tells) (first : World) (since : ℕ)
    (prepared : IsPrepared site runner.next first since b.opening.graph b.opening.site) (once : (number : ℕ) (rule : Rule) → slice_get (plan_of b).rules number ≡ Some rule → IsDistinct same_path rule.outputs)
    (over : IsAcyclic (plan_of b).rules → (number : ℕ) → (state b).pending number ≡ false) (fresh_graph : IsTrue (is_fresh b.graph) → IsGraphOf (entries_in b.graph.table) b.graph.nodes)
    (earlier : (t u : ℕ) (w : World) → t ≤ u → site.left_since b.opening.site u w → site.left_since b.opening.site t w) (present : Before site b (site.world b.opening.site))
    (earlier_now : (t u : ℕ) (w : World) → t ≤ u → site.left_since b.site u w → site.left_since b.site t w) (present_now : LeftNow site b.site (site.world b.site))
    (apart : IsKnown (site.known b.site)) (knows : KnowsTree (site.known b.site) (site.world b.site).tree) where
  abbrev fg : GraphState
  fg = first_graph b

  abbrev h : GraphState
  h = b.graph.nodes

  abbrev end : World
  end = site.world b.site

  held : HoldsTogether b
  held = record { made = prepared.made; once = once }

  -- no rule waits for itself, so none is pending
  none_pending : (number : ℕ) → (state b).pending number ≡ false
  none_pending = over (subst IsAcyclic (sym sound.opening.plan.rules) prepared.rules.2.2.order)

  none_lost : b.lost ≡ None
  none_lost = by b.lost refl
    where
      by : (lost : Option Lost) → b.lost ≡ lost → b.lost ≡ None
      by None is = is
      by (Some commit) is = absurd (true≢false (sym (sound.lost commit is).pending ∙ none_pending commit.rule))

  graph_now : IsGraphOf (entries_in b.graph.table) b.graph.nodes
  graph_now = fresh_graph (sound.fresh ∙ ap is_none none_lost)

  is_present : IsPresent b h
  is_present = sound.present none_lost

  -- the site as it is at the end
  still : IsKeptNow site runner.next tupfiles (site.known b.site) b.site
  still = kept_now site runner b sound tells told tupfiles prepared.kept prepared.over.is_graph held earlier present earlier_now present_now none_lost graph_now

  over_end : StandsOver site runner.next tupfiles (site.known b.site) end (site.moment b.site) b.graph b.site
  over_end = record { began = omega arith; stands = sound.stands tells none_lost; is_graph = graph_now; kept = still }

  in_end : IsGraphIn end.store h
  in_end = has_graph site runner.next tupfiles (site.known b.site) end (site.moment b.site) b.graph b.site over_end earlier_now end present_now

  kept_end : IsKept runner.next tupfiles (site.known b.site) h
  kept_end = is_kept site runner.next tupfiles (site.known b.site) end (site.moment b.site) b.graph b.site over_end earlier_now end present_now

  seen_end : (path : Names) → finite.get h.seen path ≡ stamp_in end.tree path
  seen_end path =
      seen_now site runner b sound tells told tupfiles first since prepared.over held earlier present none_lost path
      (λ pending. true≢false (sym pending.1 ∙ none_pending pending.0))

  made_end : (path : Names) (owned : Owned) → finite.get h.owned path ≡ Some owned → owned.maker ≢ None
  made_end path owned here no_maker = by (is_generated (plan_of b).rules path) refl
    where
      rules_are : (plan_of b).rules ≡ h.rules
      rules_are = sound.opening.plan.rules ∙ sym is_present.come.beside.rules

      by : (generated : Bool) → is_generated (plan_of b).rules path ≡ generated → ⊥
      by false unmade = prepared.made path owned (sym (is_present.come.beside.owned path unmade) ∙ here) no_maker
      by true made =
          let it = is_generated-maker h.rules path (ap (λ (rules : List Rule). is_generated rules path) (sym rules_are) ∙ made) in
          let maker = maker-Some h.rules path it.0 it.1 in
          let owner = kept_end.owners.made it.0 maker.rule path maker.here maker.writes_it in
          let same : owner.0 ≡ owned = same_Some owner.0 owned (sym owner.1 ∙ here) in
          none-some it.0 (sym no_maker ∙ ap (λ (o : Owned). o.maker) (sym same) ∙ owner.2)

  -- whatever a crash since the beginning may leave is kept
  all_kept : IsKeptSite runner.next tupfiles (site.known b.site) first (site.left_since b.site since)
  all_kept = site_kept site runner b sound tells told tupfiles first since prepared.over held earlier present

  left_end : site.left_since b.site since end
  left_end = earlier_now since (site.moment b.site) end (omega (arith, prepared.over.began, sound.later tells)) present_now

  sources_end : sources_of h end.tree ≡ sources_of prepared.rules.0 first.tree
  sources_end =
      same_sources end first h prepared.rules.0
      (λ path. all_kept.sources end h left_end in_end path
      ∙ ap (λ (g : GraphState). file_beside first g path) (one_in_bytes first.store all_kept.now.graph prepared.rules.0 all_kept.now.reads prepared.rules.1))

  come : ComeTo (sources_of h end.tree) (Ok h.rules)
  come =
      subst (λ (rules : List Rule). ComeTo (sources_of h end.tree) (Ok rules)) (sym is_present.come.beside.rules)
      (subst (λ (sources : Tree). ComeTo sources (Ok fg.rules)) (sym sources_end) prepared.rules.2)

  is_done : IsFinished runner.next (sources_of h end.tree) h end.tree
  is_done =
      finished runner.next (site.known b.site) h end.tree kept_end (λ number. is_present.flags number ∙ none_pending number) seen_end made_end apart knows
      (is_present.come.beside.created ∙ prepared.created) (read_there first end fg h prepared.rules.0 prepared.rules.1 prepared.read is_present.come.beside.readings sources_end) come

  pub at_end : ExactlyTheFiles runner.next first end None
  at_end = ended_so runner.next first end prepared.rules.0 h prepared.rules.1 in_end sources_end is_done

  pub settled_at_end : ((w : World) → LeftNow site b.site w → Joins (site.known b.site) w.tree) → IsSettled site b.site
  settled_at_end joins = settled site runner.next b.graph b.site over_end earlier_now present_now knows joins (sources_of h end.tree) is_done
