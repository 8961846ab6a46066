use Rattle.std.proofs.Common.{sym, subst}
use Rattle.tup_path.specs.Tree.{IsTree}
use Rattle.tup_site.specs.Edit.{edited}
use Rattle.tup_site.specs.Known.{IsKnown}
use Rattle.tup_site.specs.State.{with_edit}
use Rattle.tup_site.specs.Memory.{tree_in, state_of, known_in}
use Rattle.tup_site.proofs.Among.{knows_newest, knows_more}
use Rattle.tup_site.proofs.Trees.{place_from_put, put_tree}
use Rattle.tup_site.proofs.memory.MemSite.edit.Goals as goal

pub returns-in-Some-clause-not_a_tree : goal.returns-in-Some-clause-not_a_tree
returns-in-Some-clause-not_a_tree c refused is =
    c.edit_in.ensures.not_a_tree refused (place_from_put (tree_in c.args.self.now) c.args.path c.in-Some.content (subst (λ o. IsTree (edited (tree_in c.args.self.now) c.args.path o)) c.in-Some.is is))

pub returns-in-Some-clause-same_stamp : goal.returns-in-Some-clause-same_stamp
returns-in-Some-clause-same_stamp c refused =
    let site = c.args.self.now in
    let why = c.edit_in.ensures.same_stamp refused in (
      subst (λ o. IsTree (edited (tree_in site) c.args.path o)) (sym c.in-Some.is) (put_tree (tree_in site) c.args.path c.in-Some.content site.is_tree c.edit_in.ensures.path why.0),
      λ known.
          let known_so = subst (λ o. IsKnown (with_edit (state_of site) c.args.path o).known) c.in-Some.is known in
          why.1 (λ other k e. known_so other c.in-Some.content (knows_more c.in-Some.content (known_in site) other k) (knows_newest c.in-Some.content (known_in site)) e),
    )
