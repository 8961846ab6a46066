-- What the edits of a transaction leave.
use Rattle.std.proofs.Common.{◌≡◌, ℕ, cond, List, [], ◌∷◌, ◌++◌, Option, None, Some, map, fold, refl, sym, ap, ◌∙◌}
use Rattle.std.specs.List.{filter_map, cons_option}
use Rattle.std.specs.Option.{option_map}
use Rattle.std.specs.FinMap as finite
use Rattle.std.specs.Ordering.{eq_by_cmp}
use Rattle.std.proofs.lemmas.List.Sums.{fold-append}
use Rattle.tup_path.specs.Name.{Names}
use Rattle.tup_path.specs.Order.{by_names, by_names-total, by_names-antisymmetric}
use Rattle.tup_stamp.specs.declared.Stamp.{Stamp}
use Rattle.tup_record.specs.declared.owned.OwnedState.{OwnedState}
use Rattle.tup_record.specs.declared.owned.OwnedState.TheVariants.{Unsure, Written}
use Rattle.tup_record.specs.declared.record.Record.TheVariants as records
use Rattle.tup_record.specs.declared.run.RunRecord.{RunRecord}
use Rattle.tup_graph.specs.declared.edit.Edit.TheVariants.{Put, Remove}
use Rattle.tup_graph.specs.declared.owned.Owned.{Owned}
use Rattle.tup_graph.specs.Graph.{GraphState, outputs_of}
use Rattle.tup_graph.specs.Edits.{edited, edited_by}
use Rattle.tup_graph.specs.Transactions.{own, begin_edits, written, seen_so, finish_edits, doomed, doom_edits, disowned, unseen, forget_edits, flag_edits, with_state, begun, finished, unsure_as, with_doomed, with_forgotten, with_flagged}
use Rattle.tup_graph.proofs.Maps.{remove-absent, nothing_either}

module _ (g : GraphState) (number : ℕ) where
  states : (state : OwnedState) (h : GraphState) (paths : List Names) → edited_by h (map (own g number state) paths) ≡ record h { owned = fold (with_state g number state) h.owned paths }
  states state h [] = refl
  states state h (path ∷ paths) = states state (edited h (own g number state path)) paths

  writes : (h : GraphState) (files : List (Names × Stamp)) → edited_by h (map (written g number) files)
      ≡ record h { owned = fold (λ owned (file : Names × Stamp). with_state g number (Written file.1) owned file.0) h.owned files }
  writes h [] = refl
  writes h (file ∷ files) = writes (edited h (written g number file)) files

sees : (h : GraphState) (files : List (Names × Stamp)) → edited_by h (map seen_so files) ≡ record h { seen = fold (λ seen (file : Names × Stamp). finite.insert seen file.0 file.1) h.seen files }
sees h [] = refl
sees h (file ∷ files) = sees (edited h (seen_so file)) files

pub begin_leaves : (g : GraphState) (rule : ℕ) → edited_by g (begin_edits g rule) ≡ begun g rule
begin_leaves g rule = states g rule Unsure g (outputs_of g rule)

pub finish_leaves : (g : GraphState) (rule : ℕ) (run : RunRecord) → edited_by g (finish_edits g rule run) ≡ finished g rule run
finish_leaves g rule run =
    let last = Put (records.Run rule run) ∷ Remove (records.Modify rule) ∷ [] in
    fold-append edited g (map (written g rule) run.writes ++ map seen_so run.writes) last
    ∙ ap (λ (h : GraphState). edited_by h last) (fold-append edited g (map (written g rule) run.writes) (map seen_so run.writes)
    ∙ ap (λ (h : GraphState). edited_by h (map seen_so run.writes)) (writes g rule g run.writes)
    ∙ sees (record g { owned = fold (λ owned (file : Names × Stamp). with_state g rule (Written file.1) owned file.0) g.owned run.writes }) run.writes)

pub doom_leaves : (g : GraphState) (paths : List Names) → edited_by g (doom_edits g paths) ≡ with_doomed g paths
doom_leaves g paths = more g paths
  where
    more : (h : GraphState) (paths : List Names) → edited_by h (filter_map (doomed g) paths) ≡ record h { owned = fold (λ owned path. unsure_as path (finite.get g.owned path) owned) h.owned paths }
    more h [] = refl
    more h (path ∷ paths) =
        elim (finite.get g.owned path) as (λ (o : Option Owned).
        edited_by h (cons_option (option_map (λ (owned : Owned). Put (records.Owned path owned.maker Unsure)) o) (filter_map (doomed g) paths))
        ≡ record h { owned = fold (λ owned path. unsure_as path (finite.get g.owned path) owned) (unsure_as path o h.owned) paths }) [
          | Some one ↦ more (edited h (Put (records.Owned path one.maker Unsure))) paths
          | None ↦ more h paths
        ]

-- ---- a path that isn't there may be taken away as well
module _ {X : Type 0} where
  -- what a map lacks another one lacks
  abbrev pub Lacks : finite.FinMap by_names X → finite.FinMap by_names X → Type 0
  Lacks m n = (q : Names) → finite.get m q ≡ None → finite.get n q ≡ None

  pub lacks_more : (m n : finite.FinMap by_names X) (path : Names) → Lacks m n → Lacks m (finite.remove n path)
  lacks_more m n path lacks q none = finite.get-remove by_names-total n path q ∙ ap (cond (eq_by_cmp by_names q path) None) (lacks q none) ∙ nothing_either (eq_by_cmp by_names q path)

module _ (g : GraphState) where
  disowns : (h : GraphState) → Lacks g.owned h.owned → (paths : List Names) → edited_by h (filter_map (disowned g) paths) ≡ record h { owned = fold finite.remove h.owned paths }
  disowns h lacks [] = refl
  disowns h lacks (path ∷ paths) =
      (elim (finite.get g.owned path) as (λ (o : Option Owned). finite.get g.owned path ≡ o →
      edited_by h (cons_option (option_map (λ (owned : Owned). Remove (records.Owned path owned.maker owned.state)) o) (filter_map (disowned g) paths))
      ≡ record h { owned = fold finite.remove (finite.remove h.owned path) paths }) [
        | Some one ↦ λ is. disowns (edited h (Remove (records.Owned path one.maker one.state))) (lacks_more g.owned h.owned path lacks) paths
        | None ↦ λ is. disowns h lacks paths
            ∙ ap (λ (m : finite.FinMap by_names Owned). record h { owned = fold finite.remove m paths }) (sym (remove-absent by_names-total by_names-antisymmetric h.owned path (lacks path is)))
      ]) refl

  unsees : (h : GraphState) → Lacks g.seen h.seen → (paths : List Names) → edited_by h (filter_map (unseen g) paths) ≡ record h { seen = fold finite.remove h.seen paths }
  unsees h lacks [] = refl
  unsees h lacks (path ∷ paths) =
      (elim (finite.get g.seen path) as (λ (o : Option Stamp). finite.get g.seen path ≡ o →
      edited_by h (cons_option (option_map (λ (stamp : Stamp). Remove (records.Seen path stamp)) o) (filter_map (unseen g) paths))
      ≡ record h { seen = fold finite.remove (finite.remove h.seen path) paths }) [
        | Some one ↦ λ is. unsees (edited h (Remove (records.Seen path one))) (lacks_more g.seen h.seen path lacks) paths
        | None ↦ λ is. unsees h lacks paths
            ∙ ap (λ (m : finite.FinMap by_names Stamp). record h { seen = fold finite.remove m paths }) (sym (remove-absent by_names-total by_names-antisymmetric h.seen path (lacks path is)))
      ]) refl

pub forget_leaves : (g : GraphState) (paths : List Names) → edited_by g (forget_edits g paths) ≡ with_forgotten g paths
forget_leaves g paths =
    fold-append edited g (filter_map (disowned g) paths) (filter_map (unseen g) paths)
    ∙ ap (λ (h : GraphState). edited_by h (filter_map (unseen g) paths)) (disowns g g (λ q none. none) paths)
    ∙ unsees g (record g { owned = fold finite.remove g.owned paths }) (λ q none. none) paths

pub flag_leaves : (g : GraphState) (rules : List ℕ) → edited_by g (flag_edits rules) ≡ with_flagged g rules
flag_leaves g rules = more g rules
  where
    more : (h : GraphState) (rules : List ℕ) → edited_by h (map (λ number. Put (records.Modify number)) rules) ≡ record h { flags = fold (λ flags number. finite.insert flags number tt) h.flags rules }
    more h [] = refl
    more h (rule ∷ rules) = more (edited h (Put (records.Modify rule))) rules
