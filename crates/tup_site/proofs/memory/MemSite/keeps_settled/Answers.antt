use Rattle.std.proofs.Common.{◌≡◌, true, false, rules, ⊎_elim, refl, sym, ap, subst, ◌∙◌, arith, take}
use Rattle.std.proofs.lemmas.Bool.{not-false}
use Rattle.std.proofs.lemmas.List.{take_all}
use Rattle.std.specs.FinMap as finite
use Rattle.tup_path.specs.Name.{Names}
use Rattle.tup_path.specs.Tree.{tree_of_files}
use Rattle.tup_site.specs.State.{is_among}
use Rattle.tup_site.specs.Choice.{Changed, names}
use Rattle.tup_site.specs.Memory.{state_of, tree_in}
use Rattle.tup_site.proofs.Crashing.{named_next, kept_all}
use Rattle.tup_site.proofs.memory.MemSite.keeps_settled.Goals as goal

pub loop-path-preserved : goal.loop-path-preserved
loop-path-preserved c path named firm =
    let file = c.loop-path-item.result in
    let keeps : c.keeps_file.result ≡ true = search (rules, not-false) in
    ⊎_elim (λ old. c.loop-path.invariant path old firm)
    (λ new. subst (λ (p : Names). is_among (state_of c.args.self.now).loose p ≡ false → finite.get (tree_of_files c.args.files.now.entries) p ≡ finite.get (tree_in c.args.self.now) p) (sym new) (c.keeps_file.ensures.0 keeps) firm)
    (named_next c.args.choice.now c.loop-path.path-index file (omega arith) c.loop-path-item.is path named)

pub returns : goal.returns
returns c =
    let choice = c.args.choice.now in
    let all : take c.loop-path.path-index choice ≡ choice = take_all c.loop-path.path-index choice (omega arith) in (
      λ so. kept_all (tree_in c.args.self.now) (tree_of_files c.args.files.now.entries) choice (state_of c.args.self.now).loose c.requires (λ path named. c.loop-path.invariant path (ap (λ (l : Changed). names l path) all ∙ named)),
      λ kept. refl,
    )
