use Rattle.std.proofs.Common.{◌≡◌, [], ◌∷◌, ◌++◌, true, false, rules, inl, sym, ap, ◌∙◌}
use Rattle.std.proofs.lemmas.Bool.{not-true, not-false}
use Rattle.std.proofs.lemmas.List.{append-nil}
use Rattle.tup_site.specs.Memory.{tree_in, changes_of}
use Rattle.tup_site.specs.declared.change.Change.{Change}
use Rattle.tup_site.specs.declared.change.Change.TheVariants.{Removed}
use Rattle.tup_site.proofs.Changes.{removed_none, there_in_tree, no_removal, one_removal}
use Rattle.tup_site.proofs.memory.MemSite.remove_noted.Goals as goal

pub returns-then-not-contains_key-clause-removed : goal.returns-then-not-contains_key-clause-removed
returns-then-not-contains_key-clause-removed c =
    let is : c.contains_key.result ≡ false = search (rules, not-true) in
    sym (removed_none c.args.self.now.files c.args.path.now (sym c.contains_key.ensures ∙ is))

pub returns-then-not-contains_key-clause-noted : goal.returns-then-not-contains_key-clause-noted
returns-then-not-contains_key-clause-noted c =
    let site = c.args.self.now in
    let is : c.contains_key.result ≡ false = search (rules, not-true) in
    sym (ap (λ l. changes_of site ++ l) (no_removal (tree_in site) c.args.path.now (there_in_tree site.files c.args.path.now false (sym c.contains_key.ensures ∙ is))) ∙ append-nil (changes_of site))

pub erase-requires-clause-change : goal.erase-requires-clause-change
erase-requires-clause-change c =
    let is : c.contains_key.result ≡ true = search (rules, not-false) in
    inl (ap Removed c.in_ok-clone.ensures.cases, there_in_tree c.args.self.now.files c.args.path.now true (sym c.contains_key.ensures ∙ is))

pub returns-clause-noted : goal.returns-clause-noted
returns-clause-noted c =
    let site = c.args.self.now in
    let is : c.contains_key.result ≡ true = search (rules, not-false) in
    c.erase.ensures.noted ∙ ap (λ (change : Change). changes_of site ++ change ∷ []) (ap Removed c.in_ok-clone.ensures.cases)
    ∙ sym (ap (λ l. changes_of site ++ l) (one_removal (tree_in site) c.args.path.now (there_in_tree site.files c.args.path.now true (sym c.contains_key.ensures ∙ is))))
