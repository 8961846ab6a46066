-- A life of the project, from its site before the first turn.
use Rattle.std.proofs.Common.{◌≡◌, ℕ, true, List, [], ◌∷◌, length, map, Option, Some, refl, sym, ap, subst, ◌∙◌, arith}
use Rattle.tup_path.specs.Name.{Names, Content}
use Rattle.tup_path.specs.Tree.{tree_of_files}
use Rattle.tup_site.specs.declared.memory.MemSite.{MemSite}
use Rattle.tup_site.specs.declared.refused.MemRefused.{MemRefused}
use Rattle.tup_mini.specs.Means.{mini_next}
use Rattle.tup_mini.specs.declared.mini.Mini.{Mini}
use Rattle.tup_history.specs.History.{Standing, AreLived}
use Rattle.tup_history.specs.Kept.{IsUnbegun, Stage, Unbegun, Stands}
use Rattle.tup_history.specs.Stays.{AreKept}
use Rattle.tup_history.specs.declared.turn.End.{End}
use Rattle.tup_history.specs.declared.turn.Turn.{Turn}
use Rattle.tup_history.proofs.Starting.{new_unbegun}
use Rattle.tup_large.specs.Project.{IsNew, large_files}
use Rattle.tup_large.specs.Shown.{IsIdle, IsLife, at_first}
use Rattle.tup_large.specs.Turns.{turns}

-- one runner has counted no failure
pub none_counted : (crew : List Mini) → IsIdle crew → map {B = ℕ} (λ (mini : Mini). 0) crew ≡ 0 ∷ []
none_counted [] idle = absurd (let count = ap length idle in omega (arith, count))
none_counted (mini ∷ []) idle = refl
none_counted (mini ∷ other ∷ crew) idle = absurd (let count = ap length idle in omega (arith, count))

-- nothing has begun in the project's site
unbegun : (files : List (Names × Content)) (site : MemSite) → IsNew files site → IsUnbegun site
unbegun files site new = new_unbegun site (new.tree ∙ ap tree_of_files (sym new.first)) new.store new.changes

module _ (site : MemSite) (runners : List ℕ) (commands : List (List (Names × List ℕ))) (sink : ℕ) (held : List ℕ) (ends : List End) (refused : Option (ℕ × MemRefused)) (taken : List Turn) (to : Standing) where
  -- how it stands before its first turn
  abbrev pub from : Standing
  from = record { site = site; runners = runners; commands = Some commands; sink = sink; held = Some held }

  pub is_life : (folders : ℕ) → IsNew (large_files folders) site → runners ≡ 0 ∷ [] → commands ≡ [] ∷ [] → sink ≡ 0 → held ≡ [] → taken ≡ turns → AreLived true mini_next taken ends refused from to →
      ((stage : Stage) → Stands mini_next stage site → AreKept true mini_next taken ends from to stage) → IsLife folders ends refused
  is_life folders new none idle unheard empty these lived kept =
      let first : from ≡ at_first site = λ i. record { site = site; runners = none i; commands = Some (idle i); sink = unheard i; held = Some (empty i) } in
      record {
        site = site;
        made = new;
        to = to;
        lived = subst (λ (s : Standing). AreLived true mini_next turns ends refused s to) first (subst (λ (l : List Turn). AreLived true mini_next l ends refused from to) these lived);
        kept =
            subst (λ (s : Standing). AreKept true mini_next turns ends s to Unbegun) first
            (subst (λ (l : List Turn). AreKept true mini_next l ends from to Unbegun) these (kept Unbegun (unbegun (large_files folders) site new)));
      }
