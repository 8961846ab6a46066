-- What a commit leaves of a ground, by what it leaves of the graph.
use Rattle.std.proofs.Common.{◌≡◌, ℕ, Bool, true, false, List, Option, None, Some, Result, Ok, Err, ⊎_elim, refl, sym, ap, ◌∙◌}
use Rattle.std.specs.Prelude.{if◌then◌else◌, IsTrue, is_none}
use Rattle.std.proofs.lemmas.Bool.{false≢true}
use Rattle.std.proofs.lemmas.Option.{same_Some}
use Rattle.tup_path.specs.Gives.{GivesUnless}
use Rattle.tup_site.specs.World.{TreeStays}
use Rattle.tup_site.specs.declared.site.Site.{Ghosts as Site}
use Rattle.tup_record.specs.declared.run.RunRecord.{RunRecord}
use Rattle.tup_graph.specs.Graph.{GraphState}
use Rattle.tup_graph.specs.declared.edit.Edit.{Edit}
use Rattle.tup_graph.specs.declared.fault.GraphFault.{GraphFault}
use Rattle.tup_graph.specs.declared.fault.GraphFault.TheVariants as graph
use Rattle.tup_stored_graph.specs.Crash.{LeavesEither}
use Rattle.tup_stored_graph.specs.Held.{Held, is_fresh, StandsFor}
use Rattle.tup_stored_graph.specs.Transaction.{IsFull, Leaves}
use Rattle.tup_stored_graph.proofs.Fresh.{after_is_fresh, lost_is_unfresh, stale_is_unfresh}
use Rattle.tup_rule_outputs.specs.declared.fault.BoardFault.{BoardFault}
use Rattle.tup_rule_outputs.specs.declared.fault.BoardFault.TheVariants as board
use Rattle.tup_rule_outputs.specs.declared.ground.Ground.{Ground}
use Rattle.tup_rule_outputs.specs.Fault.{of_graph, told, by_site, lost_now, lost_fault}
use Rattle.tup_rule_outputs.specs.Ground.{Commits}
use Rattle.tup_rule_outputs.specs.Lost.{Lost}

pub some_none : (commit : Lost) → Some commit ≡ None → ⊥
some_none commit e = cc

abbrev pub refusal : BoardFault → Result (Unit {0}) BoardFault
refusal fault = Err fault

pub same_fault : (one other : BoardFault) → refusal one ≡ refusal other → one ≡ other
same_fault one other e = cc

module _ {S : Type 0} (site : Site S) (number : ℕ) (run : Option RunRecord) (edits : List Edit) (nodes : GraphState) (old : Ground S) (graph_now : Held) (now : S)
    (none : old.lost ≡ None) (fresh : is_fresh old.graph ≡ true)
    (stands : IsTrue site.tells → IsTrue (is_fresh graph_now) → StandsFor site.world site.moment site.left_since graph_now now)
    (tree : IsTrue site.tells → TreeStays (site.world old.site) (site.world now))
    (crash : IsTrue site.tells → LeavesEither site.moment site.left_since old.site now old.graph.nodes nodes)
    (known : IsTrue site.tells → site.known now ≡ site.known old.site) where
  abbrev new : Result (Unit {0}) GraphFault → Ground S
  new answer = record { site = now; graph = graph_now; lost = lost_now (is_fresh graph_now) old.lost number run answer }

  -- the commit that is lost
  abbrev commit_of : GraphFault → Lost
  commit_of fault = record { by_site = by_site fault; rule = number; run = run }

  -- it was refused, and the graph stands as it was
  refused : (fault : GraphFault) → graph_now ≡ old.graph → now ≡ old.site → (of_graph fault ≡ board.Full → IsFull old.graph edits) → ((bytes : ℕ) → of_graph fault ≡ board.TooLarge bytes → ⊥)
      → Commits site number run edits nodes old (Err (of_graph fault)) (new (Err fault))
  refused fault same stays is_full small = record {
    is_ground = record { fresh = fresh_now ∙ sym (ap is_none none_now); stands = λ tells _. stands tells fresh_now };
    ok = λ done e. absurd (cc);
    err = λ _ _ _.
        ap (λ (s : S). record { site = s; graph = graph_now; lost = (new (Err fault)).lost }) stays ∙ ap (λ (h : Held). record { site = old.site; graph = h; lost = (new (Err fault)).lost }) same
        ∙ ap (λ (l : Option Lost). record { site = old.site; graph = old.graph; lost = l }) (none_now ∙ sym none);
    lost = λ commit e. absurd (some_none commit (sym e ∙ none_now));
    still = λ commit e by. absurd (some_none commit (sym e ∙ none_now));
    full = λ e. is_full (same_fault (of_graph fault) _ e);
    room = λ done e _. cc;
    small = λ bytes e. small bytes (same_fault (of_graph fault) _ e);
    tree = tree;
    crash = crash;
    known = known;
  }
    where
      fresh_now : is_fresh graph_now ≡ true
      fresh_now = ap is_fresh same ∙ fresh

      none_now : (new (Err fault)).lost ≡ None
      none_now = ap (λ (b : Bool). if b then old.lost else Some (record { by_site = by_site fault; rule = number; run = run })) fresh_now ∙ none

  -- it was refused, and may stand in the store or not
  lost : (fault : GraphFault) → is_fresh graph_now ≡ false → (IsTrue (by_site fault) → graph_now.nodes ≡ old.graph.nodes) → of_graph fault ≡ lost_fault (record { by_site = by_site fault; rule = number; run = run })
      → (of_graph fault ≡ board.Full → ⊥) → ((bytes : ℕ) → of_graph fault ≡ board.TooLarge bytes → ⊥)
      → Commits site number run edits nodes old (Err (of_graph fault)) (new (Err fault))
  lost fault unfresh stays is not_full small = record {
    is_ground = record { fresh = unfresh ∙ sym (ap is_none lost_is); stands = λ tells none_now. absurd (some_none (commit_of fault) (sym lost_is ∙ none_now)) };
    ok = λ done e. absurd (cc);
    err = λ _ _ none_now. absurd (some_none (commit_of fault) (sym lost_is ∙ none_now));
    lost = λ commit e.
        let same = same_Some _ _ (sym lost_is ∙ e) in
        (ap (λ (l : Lost). l.rule) (sym same), ap (λ (l : Lost). l.run) (sym same), ap refusal is ∙ ap (λ (l : Lost). refusal (lost_fault l)) same);
    still = λ commit e by. stays (ap (λ (l : Lost). l.by_site) (same_Some _ _ (sym lost_is ∙ e)) ∙ by);
    full = λ e. absurd (not_full (same_fault (of_graph fault) _ e));
    room = λ done e _. cc;
    small = λ bytes e. small bytes (same_fault (of_graph fault) _ e);
    tree = tree;
    crash = crash;
    known = known;
  }
    where
      lost_is : (new (Err fault)).lost ≡ Some (commit_of fault)
      lost_is = ap (λ (b : Bool). if b then old.lost else Some (commit_of fault)) unfresh

  -- whatever a commit answered
  pub committed : (answer : Result (Unit {0}) GraphFault) → Leaves edits nodes old.graph graph_now old.site now answer
      → (IsFull old.graph edits → GivesUnless answer graph.Memory (Err graph.Full)) → Commits site number run edits nodes old (told answer) (new answer)
  committed (Ok done) leaves room = record {
    is_ground = record { fresh = fresh_now ∙ sym (ap is_none none); stands = λ tells _. stands tells fresh_now };
    ok = λ _ _. (none, leaves.0);
    err = λ fault e. absurd (cc);
    lost = λ commit e. absurd (some_none commit (sym e ∙ none));
    still = λ commit e by. absurd (some_none commit (sym e ∙ none));
    full = λ e. absurd (cc);
    room = λ _ _ full. ⊎_elim (λ memory. absurd (cc)) (λ same. absurd (cc)) (room full);
    small = λ bytes e. cc;
    tree = tree;
    crash = crash;
    known = known;
  }
    where
      fresh_now : is_fresh graph_now ≡ true
      fresh_now = ap is_fresh leaves.0 ∙ after_is_fresh old.graph edits nodes fresh
  committed (Err graph.NotThere) leaves room = absurd leaves
  committed (Err (graph.BadStore offset)) leaves room = absurd leaves
  committed (Err graph.Site) leaves room = lost graph.Site (ap is_fresh leaves ∙ stale_is_unfresh old.graph) (λ by. ap (λ (h : Held). h.nodes) leaves) refl (λ e. cc) (λ bytes e. cc)
  committed (Err graph.Full) leaves room = refused graph.Full leaves.1 leaves.2 (λ _. leaves.0) (λ bytes e. cc)
  committed (Err graph.Memory) leaves room = ⊎_elim (λ same. refused graph.Memory same.0 same.1 (λ e. absurd (cc)) (λ bytes e. cc)) (λ is. lost graph.Memory (lost_is_unfresh edits old.graph graph_now is) (λ by. absurd (false≢true by)) refl (λ e. cc) (λ bytes e. cc)) leaves
