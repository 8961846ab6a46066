use Rattle.std.proofs.Common.{rules, true, ◌≡◌, ◌≤◌, ◌<◌, ◌^◌, ℕ, List, length, get_or, sym, subst, ap, ◌∙◌, arith}
use Rattle.std.proofs.lemmas.Bool.{not-false}
use Rattle.tup_path.specs.Tree.{tree_of_files}
use Rattle.tup_site.specs.Bounds.{IsBounds}
use Rattle.tup_site.specs.History.{at_first, after_all}
use Rattle.tup_site.specs.Memory.{store_in, first_of, state_of}
use Rattle.tup_site.specs.declared.change.Change.{Change}
use Rattle.tup_site.proofs.Crashing.{image_from, settled_of, floor_is, KeepsSynced}
use Rattle.tup_site.proofs.memory.MemSite.may_leave.Goals as goal

pub returns : goal.returns
returns c =
    let site = c.args.self.now in
    let choice = c.args.choice.now in
    let files = tree_of_files c.args.files.now.entries in
    let synced : c.keeps_synced.result ≡ true = search (rules, not-false) in
    let settled = c.keeps_settled.ensures in
    let bounds = c.of-bounds.result in
    let is = subst (λ (cs : List Change). IsBounds (after_all (at_first (first_of site)) cs) bounds) c.deref.ensures.value (c.of-bounds.ensures (first_of site)) in
    let small : length (store_in site) < 2 ^ 63 = omega arith in
    let floor = floor_is site choice bounds.floor is.lowest small in
    let len : length c.as_slice-left.result.now ≡ length choice.db = ap length c.as_slice-left.ensures in
    let low : (state_of site).floor ≤ length choice.db = omega (arith, floor, len) in
    let high : length choice.db ≤ (state_of site).height = let highest = is.highest in omega (arith, highest, len) in
    let bytes : KeepsSynced site choice (state_of site).floor =
    λ place d below none. ap (λ (l : List ℕ). get_or l place d) (sym c.as_slice-left.ensures) ∙ c.keeps_synced.ensures.0 synced place d (omega (arith, below, floor)) none in (
      λ so. image_from site choice files c.requires.files c.requires.tree c.requires.joins low high bytes (settled.0 so),
      λ image. settled.1 (settled_of site choice files c.requires.files image),
    )
