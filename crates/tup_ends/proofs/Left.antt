-- What is due in what a board leaves: it is pending there, and was due when the update began.
use Rattle.std.proofs.Common.{◌≡◌, ℕ, ◌≤◌, Bool, true, false, List, Option, None, Some, Ok, IsTrue, refl, sym, ap, subst, ◌∙◌, arith}
use Rattle.std.specs.FinMap as finite
use Rattle.std.specs.List.{IsDistinct}
use Rattle.std.specs.Prelude.{is_none, slice_get}
use Rattle.std.proofs.lemmas.Bool.{false_from_ne_true, true≢false}
use Rattle.std.proofs.lemmas.Option.{same_Some}
use Rattle.tup_path.specs.Name.{Names, Content}
use Rattle.tup_path.specs.Order.{same_path}
use Rattle.tup_path.specs.Tree.{Tree}
use Rattle.tup_site.specs.World.{World}
use Rattle.tup_site.specs.declared.site.Site.{Ghosts as Site}
use Rattle.tup_rule.specs.Rule.{is_generated, writes}
use Rattle.tup_rule.specs.declared.rule.Rule.{Rule}
use Rattle.tup_rule.proofs.Laws.{maker-Some, writes-at}
use Rattle.tup_runner.specs.declared.runner.Runner.{Ghosts as Runner}
use Rattle.tup_clean.proofs.Among.{is_generated-maker}
use Rattle.tup_project.specs.Project.{ComeTo}
use Rattle.tup_table.specs.Table.{entries_in}
use Rattle.tup_graph.specs.declared.owned.Owned.{Owned}
use Rattle.tup_graph.specs.Graph.{GraphState, is_flagged}
use Rattle.tup_graph.specs.Kept.{IsGraphIn, IsKept, IsKeptSite, IsRuleAt, file_beside}
use Rattle.tup_graph.specs.Opening.{IsGraphOf}
use Rattle.tup_graph.specs.Reach.{stamp_in}
use Rattle.tup_stored_graph.specs.Held.{is_fresh}
use Rattle.tup_ledger.specs.Sources.{sources_of}
use Rattle.tup_rule_outputs.specs.Lost.{Lost}
use Rattle.tup_board.specs.Board.{BoardState, course_of, first_graph, plan_of, state}
use Rattle.tup_board.specs.Images.{IsImageOver}
use Rattle.tup_board.specs.Outputs.{IsPending}
use Rattle.tup_board.specs.Sound.{Before, FlagsPending, IsSound}
use Rattle.tup_board.proofs.Seated.{orderly}
use Rattle.tup_law_site.specs.Over.{IsKeptNow, LeftNow}
use Rattle.tup_law_site.proofs.Stores.{in_bytes, one_in_bytes}
use Rattle.tup_law_board.specs.Kept.{HoldsTogether}
use Rattle.tup_law_board.proofs.Sites.{image_now, seen_come, site_kept}
use Rattle.tup_law_phases.specs.Language.{tupfiles}
use Rattle.tup_promise.specs.Kept.{AsksFor}
use Rattle.tup_promise.specs.Needed.{IsDue}
use Rattle.tup_promise.specs.Prepared.{IsPrepared}
use Rattle.tup_ends.proofs.Again.{due_flagged, one_maker, seen_written}
use Rattle.tup_ends.proofs.Done.{same_sources}
use Rattle.tup_ends.proofs.Lasting.{kept_always}
use Rattle.tup_ends.proofs.Settled.{written_one}

module _ {S R : Type 0} (site : Site S) (runner : Runner R) (b : BoardState S) (sound : IsSound site runner b) (tells : IsTrue site.tells) (told : IsTrue runner.tells) (first : World) (since : ℕ)
    (prepared : IsPrepared site runner.next first since b.opening.graph b.opening.site) (once : (number : ℕ) (rule : Rule) → slice_get (plan_of b).rules number ≡ Some rule → IsDistinct same_path rule.outputs)
    (earlier : (t u : ℕ) (w : World) → t ≤ u → site.left_since b.opening.site u w → site.left_since b.opening.site t w) (present : Before site b (site.world b.opening.site))
    (fresh_graph : IsTrue (is_fresh b.graph) → IsGraphOf (entries_in b.graph.table) b.graph.nodes)
    (earlier_now : (t u : ℕ) (w : World) → t ≤ u → site.left_since b.site u w → site.left_since b.site t w) (present_now : LeftNow site b.site (site.world b.site)) where
  abbrev end : World
  end = site.world b.site

  abbrev known : List Content
  known = site.known b.site

  held : HoldsTogether b
  held = record { made = prepared.made; once = once }

  still : IsKeptNow site runner.next tupfiles known b.site
  still = kept_always site runner b sound tells told first since prepared once earlier present fresh_graph earlier_now present_now

  -- the graph of the store: an image, and no rule is flagged in it that isn't pending
  at_end : (v : World) × (h : GraphState) × IsImageOver b v end h × FlagsPending b h
  at_end = by b.lost refl
    where
      by : (lost : Option Lost) → b.lost ≡ lost → (v : World) × (h : GraphState) × IsImageOver b v end h × FlagsPending b h
      by None none = (
        site.world b.opening.site,
        b.graph.nodes,
        image_now site runner b sound tells told tupfiles prepared.kept prepared.over.is_graph held earlier present earlier_now present_now none (fresh_graph (sound.fresh ∙ ap is_none none)) b.graph.nodes refl,
        λ number on. sym ((sound.present none).flags number) ∙ on,
      )
      by (Some commit) lost = (let image = (sound.lost commit lost).torn tells end present_now in (image.0, image.2, image.3, image.5))

  abbrev h : GraphState
  h = at_end.1

  image : IsImageOver b at_end.0 end h
  image = at_end.2

  in_end : IsGraphIn end.store h
  in_end = in_bytes h end.store image.store

  kept_end : IsKept runner.next tupfiles known h
  kept_end = subst (IsKept runner.next tupfiles known) (one_in_bytes end.store still.now.graph h still.now.reads in_end) still.now.kept

  rules_are : h.rules ≡ (plan_of b).rules
  rules_are = image.come.beside.rules ∙ sym sound.opening.plan.rules

  in_graph : (number : ℕ) (rule : Rule) → slice_get (plan_of b).rules number ≡ Some rule → IsRuleAt h number rule
  in_graph number rule here = ap (λ (rules : List Rule). slice_get rules number) rules_are ∙ here

  in_plan : (number : ℕ) (rule : Rule) → IsRuleAt h number rule → slice_get (plan_of b).rules number ≡ Some rule
  in_plan number rule here = ap (λ (rules : List Rule). slice_get rules number) (sym rules_are) ∙ here

  off_then : (number : ℕ) → (state b).pending number ≡ false → is_flagged h number ≡ false
  off_then number off = false_from_ne_true (is_flagged h number) (λ on. true≢false (sym (at_end.3 number on) ∙ off))

  -- a pending rule was reached
  pending_reached : (number : ℕ) → (state b).pending number ≡ true → is_flagged (first_graph b) number ≡ true
  pending_reached number on = sym (sound.opening.plan.reach number) ∙ (orderly (plan_of b) (course_of b).files b.history sound.run).reached number on

  -- ---- what the graph has seen of a path that no flagged rule makes
  module _ (path : Names) where
    -- where no pending rule makes it
    seen_beside : (IsPending (plan_of b) (state b) path → ⊥) → finite.get h.seen path ≡ stamp_in end.tree path
    seen_beside free = seen_come site runner b sound tells told tupfiles first since prepared.over held earlier present h image.come off_then path free

    module _ (number : ℕ) (rule : Rule) (here : IsRuleAt h number rule) (output : writes rule path ≡ true) where
      -- where its maker isn't pending
      seen_done : (state b).pending number ≡ false → finite.get h.seen path ≡ stamp_in end.tree path
      seen_done off =
          seen_beside (λ it. true≢false (sym it.1
          ∙ ap (state b).pending (one_maker runner.next known h kept_end it.0 number it.2.rule rule path (in_graph it.0 it.2.rule it.2.here) it.2.output here output) ∙ off))

      -- where its maker is pending, and isn't flagged: its last commit was lost, and is there
      seen_lost : (state b).pending number ≡ true → is_flagged h number ≡ false → finite.get h.seen path ≡ stamp_in end.tree path
      seen_lost on off =
          let holds = image.made number path (record { rule = rule; here = in_plan number rule here; output = output }) (sound.opening.plan.reach number ∙ pending_reached number on) off in
          let written = seen_written runner.next known h kept_end number rule path (record { here = here; unflagged = off }) output in
          let one : written.0 ≡ holds.written.owned = same_Some written.0 holds.written.owned (sym written.1 ∙ holds.written.here) in
          written.4
          ∙ ap Some (written_one written.0.state written.2 holds.seen written.3 (ap (λ (o : Owned). o.state) one ∙ holds.written.state))
          ∙ sym holds.holds

      seen_made : is_flagged h number ≡ false → finite.get h.seen path ≡ stamp_in end.tree path
      seen_made off = by ((state b).pending number) refl
        where
          by : (pending : Bool) → (state b).pending number ≡ pending → finite.get h.seen path ≡ stamp_in end.tree path
          by true on = seen_lost on off
          by false gone = seen_done gone

    as_seen : ((number : ℕ) (maker : Rule) → IsRuleAt h number maker → writes maker path ≡ true → is_flagged h number ≡ false) → finite.get h.seen path ≡ stamp_in end.tree path
    as_seen unflagged = by (is_generated h.rules path) refl
      where
        by : (generated : Bool) → is_generated h.rules path ≡ generated → finite.get h.seen path ≡ stamp_in end.tree path
        by false unmade = seen_beside (λ it. true≢false (sym it.2.output ∙ writes-at h.rules path it.0 it.2.rule unmade (in_graph it.0 it.2.rule it.2.here)))
        by true is =
            let found = is_generated-maker h.rules path is in
            let maker = maker-Some h.rules path found.0 found.1 in
            seen_made found.0 maker.rule maker.here maker.writes_it (unflagged found.0 maker.rule maker.here maker.writes_it)

  -- ---- so what is due then is pending
  pub due_pending : (number : ℕ) → IsDue end (plan_of b).rules number → (state b).pending number ≡ true
  due_pending number due =
      at_end.3 number (due_flagged runner.next known end h kept_end as_seen in_end number (subst (λ (rules : List Rule). IsDue end rules number) (sym rules_are) due))

  -- and was due before
  pub due_before : (number : ℕ) → IsDue end (plan_of b).rules number → IsDue first (plan_of b).rules number
  due_before number due =
      subst (λ (rules : List Rule). IsDue first rules number) (sym sound.opening.plan.rules) ((prepared.due number).0 (pending_reached number (due_pending number due)))

  -- ---- the rules that the sources ask for are those of the plan
  all_kept : IsKeptSite runner.next tupfiles known first (site.left_since b.site since)
  all_kept = site_kept site runner b sound tells told tupfiles first since prepared.over held earlier present

  left_end : site.left_since b.site since end
  left_end = earlier_now since (site.moment b.site) end (omega (arith, prepared.over.began, sound.later tells)) present_now

  sources_end : sources_of h end.tree ≡ sources_of prepared.rules.0 first.tree
  sources_end =
      same_sources end first h prepared.rules.0
      (λ path. all_kept.sources end h left_end in_end path
      ∙ ap (λ (g : GraphState). file_beside first g path) (one_in_bytes first.store all_kept.now.graph prepared.rules.0 all_kept.now.reads prepared.rules.1))

  pub asked_end : AsksFor end (plan_of b).rules
  asked_end = (
    h,
    in_end,
    subst (λ (rules : List Rule). ComeTo (sources_of h end.tree) (Ok rules)) (sym sound.opening.plan.rules)
        (subst (λ (sources : Tree). ComeTo sources (Ok (first_graph b).rules)) (sym sources_end) prepared.rules.2),
  )
