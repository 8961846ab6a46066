-- The choice of what is there leaves the world as it is, and a crash now may leave it.
use Rattle.std.proofs.Common.{◌≡◌, List, [], refl, sym, ap, subst}
use Rattle.tup_site.specs.Choice.{Changed, IsChoice, chosen, chosen_world}
use Rattle.tup_site.specs.Laws.{present_law}
use Rattle.tup_site.specs.Memory.{tree_in, store_in, world_in, moment_of, left_since, MayLeave}
use Rattle.tup_site.specs.declared.choice.Choice.{Choice}
use Rattle.tup_site.specs.declared.memory.MemSite.{MemSite}

pub kept_world : (site : MemSite) (choice : Choice) → choice.tree ≡ [] → choice.db ≡ store_in site → chosen_world (tree_in site) choice ≡ world_in site
kept_world site choice none store = λ i. record { tree = chosen (tree_in site) (none i); store = store i }

pub kept_leaves : (site : MemSite) (choice : Choice) → choice.tree ≡ [] → choice.db ≡ store_in site → MayLeave site choice
kept_leaves site choice none store = subst (left_since site (moment_of site)) (sym (kept_world site choice none store)) (present_law site)

pub kept_is_choice : (site : MemSite) (choice : Choice) → choice.tree ≡ [] → IsChoice (tree_in site) choice.tree
kept_is_choice site choice none = subst (λ (l : Changed). IsChoice (tree_in site) l) (sym none) (record { once = refl; leaves = site.is_tree })
