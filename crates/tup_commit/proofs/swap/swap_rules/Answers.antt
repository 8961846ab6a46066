use Rattle.std.proofs.Common.{subst}
use Rattle.tup_graph.specs.Edits.{edited_by}
use Rattle.tup_graph.specs.Graph.{GraphState}
use Rattle.tup_graph.specs.Opening.{IsGraphOf}
use Rattle.tup_table.specs.Table.{entries_in}
use Rattle.tup_graph.specs.Swap.{IsSwapped, ReadsNew}
use Rattle.tup_closure.specs.Steps.{HasStepped}
use Rattle.tup_closure.proofs.Stepping.{if_err}
use Rattle.tup_rule_diff.specs.Edits.{AreSwapEdits, SwapStepped, SwapSteppedAtMost}
use Rattle.tup_rule_diff.proofs.Led.{steps_of, swap_no_more}
use Rattle.tup_stored_graph.proofs.Fresh.{ok_is_fresh}
use Rattle.tup_commit.proofs.Noting.{notes, stands_so}
use Rattle.tup_commit.proofs.Crashes.{by_commit, by_nothing}
use Rattle.tup_commit.proofs.swap.swap_rules.Goals as goal

pub commit_edits-requires-clause-read : goal.commit_edits-requires-clause-read
commit_edits-requires-clause-read g c = λ origin up is spelled.
    let old = c.args.graph.now in
    let edits = c.in_ok-edits.edits in
    let are = subst (λ (nodes : GraphState). AreSwapEdits nodes c.args.fresh.now.readings c.args.fresh.now.gone c.args.rules.now edits) c.nodes.ensures.value c.in_ok-edits.ensures.edits in
    c.swap_edits_are_read.ensures (entries_in old.table) old.nodes c.args.fresh.now.readings c.args.fresh.now.gone c.args.rules.now edits origin up is are c.requires.order spelled

pub returns-clause-swaps : goal.returns-clause-swaps
returns-clause-swaps g c =
    let old = c.args.graph.now in
    let edits = c.in_ok-edits.edits in
    let are = subst (λ (nodes : GraphState). AreSwapEdits nodes c.args.fresh.now.readings c.args.fresh.now.gone c.args.rules.now edits) c.nodes.ensures.value c.in_ok-edits.ensures.edits in
    notes (AreSwapEdits old.nodes c.args.fresh.now.readings c.args.fresh.now.gone c.args.rules.now) (IsSwapped old.nodes c.args.fresh.now.readings c.args.fresh.now.gone c.args.rules.now) old edits are c.commit_edits.new.self c.args.site.now c.commit_edits.new.site c.commit_edits.result c.commit_edits.ensures.leaves c.commit_edits.ensures.full

pub returns-clause-swapped : goal.returns-clause-swapped
returns-clause-swapped g c =
    let old = c.args.graph.now in
    let edits = c.in_ok-edits.edits in
    let are = subst (λ (nodes : GraphState). AreSwapEdits nodes c.args.fresh.now.readings c.args.fresh.now.gone c.args.rules.now edits) c.nodes.ensures.value c.in_ok-edits.ensures.edits in
    stands_so (AreSwapEdits old.nodes c.args.fresh.now.readings c.args.fresh.now.gone c.args.rules.now) (IsSwapped old.nodes c.args.fresh.now.readings c.args.fresh.now.gone c.args.rules.now) old edits are c.commit_edits.new.self c.args.site.now c.commit_edits.new.site
    (c.swap_edits_leave.ensures (entries_in old.table) old.nodes c.args.fresh.now.readings c.args.fresh.now.gone c.args.rules.now edits (subst (λ (nodes : GraphState). IsGraphOf (entries_in old.table) nodes) c.nodes.ensures.value (c.nodes.ensures.graph c.requires.fresh)) are c.requires.once) c.commit_edits.result c.commit_edits.ensures.leaves

pub returns-clause-fresh : goal.returns-clause-fresh
returns-clause-fresh g c =
    let old = c.args.graph.now in
    let edits = c.in_ok-edits.edits in
    ok_is_fresh edits (edited_by old.nodes edits) old c.commit_edits.new.self c.args.site.now c.commit_edits.new.site c.commit_edits.result c.requires.fresh c.commit_edits.ensures.leaves

pub returns-clause-crash : goal.returns-clause-crash
returns-clause-crash g c = λ tells.
    let old = c.args.graph.now in
    let edits = c.in_ok-edits.edits in
    let are = subst (λ (nodes : GraphState). AreSwapEdits nodes c.args.fresh.now.readings c.args.fresh.now.gone c.args.rules.now edits) c.nodes.ensures.value c.in_ok-edits.ensures.edits in
    by_commit g.S.Site.world g.S.Site.moment g.S.Site.left_since old.table old.nodes (IsSwapped old.nodes c.args.fresh.now.readings c.args.fresh.now.gone c.args.rules.now) (edited_by old.nodes edits)
    (c.swap_edits_leave.ensures (entries_in old.table) old.nodes c.args.fresh.now.readings c.args.fresh.now.gone c.args.rules.now edits (subst (λ (nodes : GraphState). IsGraphOf (entries_in old.table) nodes) c.nodes.ensures.value (c.nodes.ensures.graph c.requires.fresh)) are c.requires.once) c.args.site.now c.commit_edits.new.site (c.commit_edits.ensures.crash tells)

pub returns-in_err-edits-clause-crash : goal.returns-in_err-edits-clause-crash
returns-in_err-edits-clause-crash g c = λ tells.
    let old = c.args.graph.now in
    by_nothing g.S.Site.world g.S.Site.moment g.S.Site.left_since old.table old.nodes (IsSwapped old.nodes c.args.fresh.now.readings c.args.fresh.now.gone c.args.rules.now) c.args.site.now (c.requires.stands tells)
    (subst (λ (nodes : GraphState). IsGraphOf (entries_in old.table) nodes) c.nodes.ensures.value (c.nodes.ensures.graph c.requires.fresh))

pub returns-in_err-edits-clause-fewer : goal.returns-in_err-edits-clause-fewer
returns-in_err-edits-clause-fewer g c =
    if_err c.from_residual.result (subst (λ (nodes : GraphState). SwapSteppedAtMost nodes c.args.rules.now c.args.steps.now c.swap_rules.new.steps) c.nodes.ensures.value c.in_err-edits.ensures.fewer)

pub returns-clause-steps : goal.returns-clause-steps
returns-clause-steps g c =
    let old = c.args.graph.now in
    let edits = c.in_ok-edits.edits in
    let are = subst (λ (nodes : GraphState). AreSwapEdits nodes c.args.fresh.now.readings c.args.fresh.now.gone c.args.rules.now edits) c.nodes.ensures.value c.in_ok-edits.ensures.edits in
    let led = c.swap_edits_lead.ensures (entries_in old.table) old.nodes c.args.fresh.now.readings c.args.fresh.now.gone c.args.rules.now edits (subst (λ (nodes : GraphState). IsGraphOf (entries_in old.table) nodes) c.nodes.ensures.value (c.nodes.ensures.graph c.requires.fresh)) are in
    let stepped = subst (λ (nodes : GraphState). SwapStepped nodes c.args.rules.now c.args.steps.now c.swap_rules.new.steps) c.nodes.ensures.value c.in_ok-edits.ensures.steps in
    stands_so (AreSwapEdits old.nodes c.args.fresh.now.readings c.args.fresh.now.gone c.args.rules.now) (λ (h : GraphState). HasStepped h (ReadsNew old.nodes h) c.args.steps.now c.swap_rules.new.steps) old edits are c.commit_edits.new.self c.args.site.now c.commit_edits.new.site
    (steps_of old.nodes c.args.rules.now (edited_by old.nodes edits) led c.args.steps.now c.swap_rules.new.steps stepped) c.commit_edits.result c.commit_edits.ensures.leaves

pub returns-clause-fewer : goal.returns-clause-fewer
returns-clause-fewer g c =
    if_err c.commit_edits.result
    (swap_no_more c.args.graph.now.nodes c.args.rules.now c.args.steps.now c.swap_rules.new.steps
    (subst (λ (nodes : GraphState). SwapStepped nodes c.args.rules.now c.args.steps.now c.swap_rules.new.steps) c.nodes.ensures.value c.in_ok-edits.ensures.steps))
