use Rattle.std.proofs.Common.{rules, true, ◌≡◌, sym, subst, ap, ◌∙◌, arith}
use Rattle.std.proofs.lemmas.Bool.{not-false}
use Rattle.tup_path.specs.Tree.{Tree}
use Rattle.tup_site.specs.Choice.{Changed, chosen, known_after, chosen_world}
use Rattle.tup_site.specs.Known.{IsKnown, Joins}
use Rattle.tup_site.specs.History.{at_first}
use Rattle.tup_site.specs.Laws.{knows_tree_law, left_now}
use Rattle.tup_site.specs.Memory.{tree_in, first_of, changes_of, known_in, moment_of}
use Rattle.tup_site.proofs.Crashing.{joins_chosen}
use Rattle.tup_site.proofs.memory.MemSite.allow.Goals as goal

pub may_leave-requires-clause-joins : goal.may_leave-requires-clause-joins
may_leave-requires-clause-joins c =
    let site = c.args.self.now in
    let known = subst (λ (l : Changed). IsKnown (known_after (known_in site) l)) c.as_slice-2.ensures c.in_ok-chosen_known.ensures.known in
    let files = c.in_ok-files.ensures.files ∙ ap (chosen (tree_in site)) c.as_slice.ensures in
    subst (λ (t : Tree). Joins (known_in site) t) (sym files) (joins_chosen (known_in site) (tree_in site) c.args.choice.now.tree (knows_tree_law site) known)

pub returns-clause-leaves : goal.returns-clause-leaves
returns-clause-leaves c =
    let site = c.args.self.now in
    let may : c.may_leave.result ≡ true = search (rules, not-false) in
    left_now (at_first (first_of site)) (changes_of site) (moment_of site) (chosen_world (tree_in site) c.args.choice.now) (omega arith) (c.may_leave.ensures.0 may)
