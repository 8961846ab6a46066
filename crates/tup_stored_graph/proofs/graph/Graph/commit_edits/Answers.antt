use Rattle.std.proofs.Common.{◌≡◌, List, [], ◌∷◌, length, All, Result, Err, refl, sym, subst, ◌∙◌, arith}
use Rattle.tup_path.specs.Gives.{GivesUnless}
use Rattle.tup_graph.specs.Edits.{edited_by}
use Rattle.tup_graph.specs.Fault.{fault_of}
use Rattle.tup_graph.specs.declared.fault.GraphFault.{GraphFault}
use Rattle.tup_graph.specs.declared.fault.GraphFault.TheVariants.{Full, Memory}
use Rattle.std.proofs.lemmas.Bool.{eqb-true}
use Rattle.tup_table.specs.Appending.{HasShortKey}
use Rattle.tup_table.specs.Table.{entries_in}
use Rattle.tup_table.specs.declared.change.Change.{Change}
use Rattle.tup_stored_graph.specs.Held.{Held}
use Rattle.tup_stored_graph.proofs.Committing.{sound_now, ascending_now, written_now, unchanged, full_refused, nothing_not_full, committed_not_full}
use Rattle.tup_stored_graph.proofs.Crashes.{as_it_was, crash_now, sound_after}
use Rattle.tup_stored_graph.proofs.Short.{needed_short}
use Rattle.tup_stored_graph.proofs.graph.Graph.commit_edits.Goals as goal

no_items : (cs : List Change) → length cs ≡ 0 → cs ≡ []
no_items [] none = refl
no_items (c ∷ cs) none = absurd (omega arith)

pub returns-then-is_empty-clause-leaves : goal.returns-then-is_empty-clause-leaves
returns-then-is_empty-clause-leaves g c =
    let old = c.args.self.now in
    let inside : Held = record { table = c.self.inside.table; nodes = c.self.inside.nodes; whole = c.self.inside.whole } in
    let is = sound_now old inside c.self.view_is c.self.invariant c.requires.fresh in
    let up = ascending_now old inside c.self.view_is c.entries.result.now c.entries.ensures c.keys_ascend.ensures in
    let written = written_now old inside c.self.view_is c.args.edits c.entries-2.result.now c.in_ok-changes.changes.items c.entries-2.ensures c.in_ok-changes.ensures.0 in
    let none = no_items c.in_ok-changes.changes.items (omega (arith, eqb-true _ 0 (sym c.is_empty.ensures ∙ c.if-is_empty.true), c.in_ok-changes.changes.ok.0)) in
    (unchanged old c.args.edits c.requires.fresh (λ origin. c.requires.read origin up is c.in_ok-changes.ensures.1) is (sym written ∙ none), λ no. refl)

pub commit-requires-clause-keys : goal.commit-requires-clause-keys
commit-requires-clause-keys g c =
    let old = c.args.self.now in
    let inside : Held = record { table = c.self.inside.table; nodes = c.self.inside.nodes; whole = c.self.inside.whole } in
    let written = written_now old inside c.self.view_is c.args.edits c.entries-2.result.now c.in_ok-changes.changes.items c.entries-2.ensures c.in_ok-changes.ensures.0 in
    subst (λ (cs : List Change). All HasShortKey cs) (sym (c.deref.ensures.value ∙ written)) (needed_short (entries_in old.table) c.args.edits c.in_ok-changes.ensures.1)

pub returns-in_err-changes-clause-crash : goal.returns-in_err-changes-clause-crash
returns-in_err-changes-clause-crash g c = λ tells.
    let old = c.args.self.now in
    let inside : Held = record { table = c.self.inside.table; nodes = c.self.inside.nodes; whole = c.self.inside.whole } in
    let is = sound_now old inside c.self.view_is c.self.invariant c.requires.fresh in
    as_it_was g.S.Site.world g.S.Site.moment g.S.Site.left_since old.table old.nodes c.args.site.now (c.requires.stands tells) is (edited_by old.nodes c.args.edits)

pub returns-then-is_empty-clause-crash : goal.returns-then-is_empty-clause-crash
returns-then-is_empty-clause-crash g c = λ tells.
    let old = c.args.self.now in
    let inside : Held = record { table = c.self.inside.table; nodes = c.self.inside.nodes; whole = c.self.inside.whole } in
    let is = sound_now old inside c.self.view_is c.self.invariant c.requires.fresh in
    as_it_was g.S.Site.world g.S.Site.moment g.S.Site.left_since old.table old.nodes c.args.site.now (c.requires.stands tells) is (edited_by old.nodes c.args.edits)

pub returns-in_err-commit-clause-full : goal.returns-in_err-commit-clause-full
returns-in_err-commit-clause-full g c = λ full.
    let old = c.args.self.now in
    let inside : Held = record { table = c.self.inside.table; nodes = c.self.inside.nodes; whole = c.self.inside.whole } in
    let fault = c.in_err-commit.field-0.0 in
    let written = written_now old inside c.self.view_is c.args.edits c.entries-2.result.now c.in_ok-changes.changes.items c.entries-2.ensures c.in_ok-changes.ensures.0 in
    let is : c.from_residual-in_err-commit.result ≡ Err (fault_of fault) = grind arith in
    subst (λ (r : Result (Unit {0}) GraphFault). GivesUnless r Memory (Err Full)) (sym is)
    (full_refused old inside c.self.view_is c.args.edits c.deref.result.now (c.deref.ensures.value ∙ written) c.in_ok-changes.ensures.1 c.commit.result fault c.in_err-commit.was c.commit.ensures.fits full)

pub returns-in_err-commit-clause-crash : goal.returns-in_err-commit-clause-crash
returns-in_err-commit-clause-crash g c = λ tells.
    let old = c.args.self.now in
    let inside : Held = record { table = c.self.inside.table; nodes = c.self.inside.nodes; whole = c.self.inside.whole } in
    let is = sound_now old inside c.self.view_is c.self.invariant c.requires.fresh in
    let up = ascending_now old inside c.self.view_is c.entries.result.now c.entries.ensures c.keys_ascend.ensures in
    let written = written_now old inside c.self.view_is c.args.edits c.entries-2.result.now c.in_ok-changes.changes.items c.entries-2.ensures c.in_ok-changes.ensures.0 in
    crash_now g.S.Site.world g.S.Site.moment g.S.Site.left_since old inside c.self.view_is c.args.edits c.args.site.now (c.requires.stands tells) up is (λ origin. c.requires.read origin up is c.in_ok-changes.ensures.1)
    c.commit.new.site c.deref.result.now (c.deref.ensures.value ∙ written) (c.commit.ensures.crash tells)

pub returns-in_err-edit_all-clause-crash : goal.returns-in_err-edit_all-clause-crash
returns-in_err-edit_all-clause-crash g c = λ tells.
    let old = c.args.self.now in
    let inside : Held = record { table = c.self.inside.table; nodes = c.self.inside.nodes; whole = c.self.inside.whole } in
    let is = sound_now old inside c.self.view_is c.self.invariant c.requires.fresh in
    let up = ascending_now old inside c.self.view_is c.entries.result.now c.entries.ensures c.keys_ascend.ensures in
    let written = written_now old inside c.self.view_is c.args.edits c.entries-2.result.now c.in_ok-changes.changes.items c.entries-2.ensures c.in_ok-changes.ensures.0 in
    crash_now g.S.Site.world g.S.Site.moment g.S.Site.left_since old inside c.self.view_is c.args.edits c.args.site.now (c.requires.stands tells) up is (λ origin. c.requires.read origin up is c.in_ok-changes.ensures.1)
    c.commit.new.site c.deref.result.now (c.deref.ensures.value ∙ written) (c.commit.ensures.crash tells)

pub returns-clause-crash : goal.returns-clause-crash
returns-clause-crash g c = λ tells.
    let old = c.args.self.now in
    let inside : Held = record { table = c.self.inside.table; nodes = c.self.inside.nodes; whole = c.self.inside.whole } in
    let is = sound_now old inside c.self.view_is c.self.invariant c.requires.fresh in
    let up = ascending_now old inside c.self.view_is c.entries.result.now c.entries.ensures c.keys_ascend.ensures in
    let written = written_now old inside c.self.view_is c.args.edits c.entries-2.result.now c.in_ok-changes.changes.items c.entries-2.ensures c.in_ok-changes.ensures.0 in
    crash_now g.S.Site.world g.S.Site.moment g.S.Site.left_since old inside c.self.view_is c.args.edits c.args.site.now (c.requires.stands tells) up is (λ origin. c.requires.read origin up is c.in_ok-changes.ensures.1)
    c.commit.new.site c.deref.result.now (c.deref.ensures.value ∙ written) (c.commit.ensures.crash tells)

pub invariant_of-self-2 : goal.invariant_of-self-2
invariant_of-self-2 g c = λ whole.
    let old = c.args.self.now in
    let inside : Held = record { table = c.self.inside.table; nodes = c.self.inside.nodes; whole = c.self.inside.whole } in
    let is = sound_now old inside c.self.view_is c.self.invariant c.requires.fresh in
    let up = ascending_now old inside c.self.view_is c.entries.result.now c.entries.ensures c.keys_ascend.ensures in
    let written = written_now old inside c.self.view_is c.args.edits c.entries-2.result.now c.in_ok-changes.changes.items c.entries-2.ensures c.in_ok-changes.ensures.0 in
    sound_after g.S.Site.world g.S.Site.moment g.S.Site.left_since old inside c.self.view_is c.args.edits c.args.site.now up (λ origin. c.requires.read origin up is c.in_ok-changes.ensures.1) c.deref.result.now (c.deref.ensures.value ∙ written)
    c.commit.new.self c.edit_all.new.self c.in_ok-commit.ensures.leaves c.in_ok-edit_all.ensures.ok

pub returns-then-is_empty-clause-full : goal.returns-then-is_empty-clause-full
returns-then-is_empty-clause-full g c = λ full.
    let old = c.args.self.now in
    let inside : Held = record { table = c.self.inside.table; nodes = c.self.inside.nodes; whole = c.self.inside.whole } in
    let written = written_now old inside c.self.view_is c.args.edits c.entries-2.result.now c.in_ok-changes.changes.items c.entries-2.ensures c.in_ok-changes.ensures.0 in
    let none = no_items c.in_ok-changes.changes.items (omega (arith, eqb-true _ 0 (sym c.is_empty.ensures ∙ c.if-is_empty.true), c.in_ok-changes.changes.ok.0)) in
    absurd (nothing_not_full old inside c.self.view_is c.args.edits (sym written ∙ none) c.in_ok-changes.ensures.1 full)

pub returns-clause-full : goal.returns-clause-full
returns-clause-full g c = λ full.
    let old = c.args.self.now in
    let inside : Held = record { table = c.self.inside.table; nodes = c.self.inside.nodes; whole = c.self.inside.whole } in
    let written = written_now old inside c.self.view_is c.args.edits c.entries-2.result.now c.in_ok-changes.changes.items c.entries-2.ensures c.in_ok-changes.ensures.0 in
    absurd (committed_not_full old inside c.self.view_is c.args.edits c.deref.result.now (c.deref.ensures.value ∙ written) c.in_ok-changes.ensures.1 c.commit.result c.in_ok-commit.field-0 c.in_ok-commit.was c.commit.ensures.fits full)
