-- What stands in the way of no update that a demo shows: its project has begun, its one rule is good, and its site and its runner never
-- fail.
use Rattle.std.proofs.Common.{◌≡◌, inl, ℕ, Bool, true, false, cond, not, List, [], ◌∷◌, length, map, Option, None, Some, is_some, Ok, refl, sym, ap, subst, ◌∙◌, arith}
use Rattle.std.specs.FinMap as finite
use Rattle.std.proofs.lemmas.List.{nil_from_length}
use Rattle.std.proofs.lemmas.Option.{none-some}
use Rattle.tup_path.specs.Name.{Names}
use Rattle.tup_path.specs.Order.{by_names}
use Rattle.tup_path.specs.Tree.{Tree}
use Rattle.tup_path.proofs.Same.{same_tree}
use Rattle.tup_stamp.specs.declared.Stamp.{Stamp}
use Rattle.tup_site.specs.World.{World}
use Rattle.tup_rule.specs.declared.rule.Rule.{Rule}
use Rattle.tup_rule.specs.declared.rule.RuleName.{RuleName}
use Rattle.tup_mini.specs.Means.{mini_next}
use Rattle.tup_access.specs.declared.verdict.Verdict.TheVariants.{Failed, IllegalRead as ReadsIllegally, IllegalWrite as WritesIllegally, Unwritten as LeavesUnwritten, TooManyReads as ReadsTooOften}
use Rattle.tup_clean.specs.Clean.{clean, succeeds}
use Rattle.tup_project.specs.Project.{ComeTo}
use Rattle.tup_demo.specs.Build.{demo_build, demo_rules}
use Rattle.tup_demo.specs.Project.{demo_tree}
use Rattle.tup_table.specs.Store.{header, IsLow}
use Rattle.tup_graph.specs.Graph.{GraphState, empty_graph, is_owned}
use Rattle.tup_graph.specs.Kept.{IsGraphIn}
use Rattle.tup_graph.specs.declared.owned.Owned.{Owned}
use Rattle.tup_ledger.specs.Listing.{Lists}
use Rattle.tup_ledger.specs.Sources.{sources_of}
use Rattle.tup_ledger.proofs.Trees.{get_source}
use Rattle.tup_law_site.proofs.Stores.{one_in_bytes}
use Rattle.tup_promise.specs.Blamed.{IsToBlame}
use Rattle.tup_promise.specs.Kept.{AsksFor, OfGraph}
use Rattle.tup_promise.specs.Users.{IsFirstUsersFile}
use Rattle.tup_promise.specs.declared.fault.SourcesFault.TheVariants as sources
use Rattle.tup_promise.proofs.Asked.{one_asked}
use Rattle.tup_compare.proofs.Held.{there, undamaged}
use Rattle.tup_top.specs.Demo.{demo_world}
use Rattle.tup_top.specs.Promise.{HasAloneCause, HasCrewCause, HasDemoCause, OpensStore}
use Rattle.tup_top.specs.Status.{IfCame}
use Rattle.tup_top.specs.declared.status.Status.{Status}
use Rattle.tup_top.specs.declared.status.Status.TheVariants.{Done, Command, IllegalRead, IllegalWrite, Unwritten, TooManyReads, Usage, NotInit, AlreadyInit, BadStore, Parse, CircularDirs, CircularCommands, NoSuchGroup, UserFile, SiteFault, RunFault, SinkFault, TellFault, Limit, Memory, Differs}
use Rattle.tup_top.proofs.Causes.{never_rose, of_one}
use Rattle.tup_top.proofs.Succeeds.{no_bad, no_fault}
use Rattle.tup_top.proofs.Success.{not_rose}

-- ---- what its store lists

owns_nothing : finite.keys empty_graph.owned ≡ []
owns_nothing = ap (map (λ (entry : Names × Owned). entry.0)) (nil_from_length (finite.entries empty_graph.owned) (sym (finite.len-entries empty_graph.owned) ∙ finite.len-empty by_names Owned))

-- the switch of its store is closed, and nothing stands in the low area
begun_low : IsLow demo_world.store []
begun_low = record {
  head = header;
  low = 0 ∷ [];
  parts = record { is_head = record { long = refl; first = refl }; whole = refl };
  closed = λ e. (let no : 0 ≡ 1 = e in omega (arith, no));
  area = (0 ∷ [], record { fits = tt; whole = refl }, inl (λ e. omega (arith, e)));
}

lists_nothing : Lists demo_world.store []
lists_nothing = record {
  graph = empty_graph;
  store = record { entries = []; leaves = ([], inl begun_low, refl); stands = refl };
  owned = sym owns_nothing;
}

-- ---- what its sources come to

stored : IsGraphIn demo_world.store empty_graph
stored = record { commits = []; reads = inl begun_low; graph = refl }

none_owned : (path : Names) → is_owned empty_graph path ≡ false
none_owned path = ap is_some (finite.get-empty {X = Owned} by_names path)

-- all its files are sources
sources_are : sources_of empty_graph demo_tree ≡ demo_tree
sources_are =
    same_tree (sources_of empty_graph demo_tree) demo_tree
    (λ path. get_source empty_graph demo_tree path ∙ ap (λ (owned : Bool). cond (not owned) (finite.get demo_tree path) None) (none_owned path))

-- none of them is at an owned path
no_user : (path : Names) (written : Option Stamp) (found : Stamp) → IsFirstUsersFile demo_world path written found → ⊥
no_user path written found it =
    let users = it.users.users in
    none-some users.owned
    (sym (finite.get-empty {X = Owned} by_names path) ∙ subst (λ (g : GraphState). finite.get g.owned path ≡ Some users.owned) (one_in_bytes demo_world.store it.users.graph empty_graph it.users.stored stored) users.owns)

module _ (come : ComeTo demo_tree (Ok demo_rules)) (builds : clean mini_next demo_rules demo_tree ≡ demo_build) where
  asks : AsksFor demo_world demo_rules
  asks = (empty_graph, stored, subst (λ (tree : Tree). ComeTo tree (Ok demo_rules)) (sym sources_are) come)

  good : succeeds demo_build ≡ true
  good = refl

  all_good : (rules : List Rule) → AsksFor demo_world rules → OfGraph demo_world (λ g. succeeds (clean mini_next rules (sources_of g demo_tree)) ≡ true)
  all_good rules asked = (
    empty_graph,
    stored,
    subst (λ (list : List Rule). succeeds (clean mini_next list (sources_of empty_graph demo_tree)) ≡ true) (one_asked demo_world demo_rules rules asks asked)
        (ap (λ (tree : Tree). succeeds (clean mini_next demo_rules tree)) sources_are ∙ ap succeeds builds ∙ good),
  )

  -- ---- why it ends

  pub demo_cause : (left : World) (ran : List RuleName) (before now : ℕ) (status : Status) → IfCame status (OpensStore demo_world left ran) → IfCame status (IsToBlame mini_next demo_world left ran) → HasAloneCause (of_one 0 0 before) (of_one 0 0 now) status → (status ≡ TellFault → ⊥)
      → HasDemoCause before now status
  demo_cause left ran before now (Done read done removed) opens blamed counts told = counts.1
  demo_cause left ran before now (Command rule status) opens blamed counts told = no_bad mini_next demo_world all_good ran rule (Failed status) refl blamed
  demo_cause left ran before now (IllegalRead rule text) opens blamed counts told = no_bad mini_next demo_world all_good ran rule (ReadsIllegally text) refl blamed
  demo_cause left ran before now (IllegalWrite rule text) opens blamed counts told = no_bad mini_next demo_world all_good ran rule (WritesIllegally text) refl blamed
  demo_cause left ran before now (Unwritten rule path) opens blamed counts told = no_bad mini_next demo_world all_good ran rule (LeavesUnwritten path) refl blamed
  demo_cause left ran before now (TooManyReads rule) opens blamed counts told = no_bad mini_next demo_world all_good ran rule ReadsTooOften refl blamed
  demo_cause left ran before now (Usage place) opens blamed counts told = counts
  demo_cause left ran before now NotInit (log, begun, (none, idle)) blamed counts told = there demo_world.store [] lists_nothing none
  demo_cause left ran before now AlreadyInit opens blamed counts told = counts
  demo_cause left ran before now (BadStore offset) (log, begun, (damaged, idle)) blamed counts told = undamaged demo_world.store [] offset lists_nothing damaged
  demo_cause left ran before now (Parse fault) opens blamed counts told = no_fault demo_world (demo_rules, asks) (sources.Parse fault) blamed
  demo_cause left ran before now (CircularDirs cycle) opens blamed counts told = no_fault demo_world (demo_rules, asks) (sources.CircularDirs cycle) blamed
  demo_cause left ran before now (CircularCommands cycle) opens blamed counts told = no_fault demo_world (demo_rules, asks) (sources.CircularCommands cycle) blamed
  demo_cause left ran before now (NoSuchGroup group) opens blamed counts told = no_fault demo_world (demo_rules, asks) (sources.NoSuchGroup group) blamed
  demo_cause left ran before now (UserFile path) opens (written, found, blamed) counts told = no_user path written found blamed
  demo_cause left ran before now SiteFault opens blamed counts told = not_rose 0 0 refl (omega arith) counts.0
  demo_cause left ran before now RunFault opens blamed counts told = never_rose counts.1
  demo_cause left ran before now SinkFault opens blamed counts told = counts.1
  demo_cause left ran before now TellFault opens blamed counts told = told refl
  demo_cause left ran before now (Limit what number) opens blamed counts told = counts.1
  demo_cause left ran before now Memory opens blamed counts told = tt
  demo_cause left ran before now (Differs path) opens blamed counts told = counts

-- a crew of one that counts no failures
pub demo_counts : {R : Type 0} (before now : List R) (sink_before sink_now : ℕ) (status : Status) → length before ≡ 1 → length now ≡ length before →
    HasCrewCause (length before) (record { site = 0; runners = map (λ (r : R). 0) before; sink = sink_before }) (record { site = 0; runners = map (λ (r : R). 0) now; sink = sink_now }) status →
    HasAloneCause (of_one 0 0 sink_before) (of_one 0 0 sink_now) status
demo_counts (one ∷ []) (same ∷ []) sink_before sink_now status alone many cause = cause.alone refl
demo_counts (one ∷ []) [] sink_before sink_now status alone many cause = absurd (omega (arith, many))
demo_counts (one ∷ []) (same ∷ other ∷ others) sink_before sink_now status alone many cause = absurd (omega (arith, many))
demo_counts [] now sink_before sink_now status alone many cause = absurd (omega (arith, alone))
demo_counts (one ∷ other ∷ others) now sink_before sink_now status alone many cause = absurd (omega (arith, alone))
