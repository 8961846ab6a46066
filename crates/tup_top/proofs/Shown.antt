-- What a demo answers whose small project couldn't begin: there was no memory.
use Rattle.std.proofs.Common.{◌≡◌, refl, inl, inr, ℕ, true, false, List, [], Err, sym, ap, subst, ◌∙◌}
use Rattle.tup_mini.specs.Means.{mini_next}
use Rattle.tup_graph.specs.declared.fault.GraphFault.{GraphFault}
use Rattle.tup_graph.specs.declared.fault.GraphFault.TheVariants as graph
use Rattle.tup_top.specs.Lines.{last_line}
use Rattle.tup_top.specs.Demo.{demo_world}
use Rattle.tup_top.specs.Printed.{Ends, Prints, PrintsDemo}
use Rattle.tup_top.specs.Promise.{HasDemoCause}
use Rattle.tup_top.specs.Status.{status_of_begun}
use Rattle.tup_top.specs.Truth.{IsTrueOver}
use Rattle.tup_top.specs.declared.status.Status.{Status}
use Rattle.tup_top.specs.declared.status.Status.TheVariants.{Memory}
use Rattle.tup_top.proofs.Causes.{told_nothing}
use Rattle.tup_top.proofs.True.{nothing_over}

module _ (before now : ℕ) (fault : GraphFault) (status answer : Status) (memory : fault ≡ graph.Memory) (is : status ≡ status_of_begun (Err fault)) (ends : Ends before now status answer) where
  it_is : status ≡ Memory
  it_is = is ∙ ap (λ (f : GraphFault). status_of_begun (Err f)) memory

  ends_so : Ends before now Memory answer
  ends_so = subst (λ (s : Status). Ends before now s answer) it_is ends

  answer_is : Ends before now Memory answer → answer ≡ Memory
  answer_is (inl e) = e
  answer_is (inr (inl e)) = e
  answer_is (inr (inr (e, done, rose))) = absurd done

  pub unshown_cause : HasDemoCause before now answer
  unshown_cause = subst (HasDemoCause before now) (sym (answer_is ends_so)) tt

  -- its line is that of an update for which there was no memory
  pub unshown_prints : (held grown : List ℕ) → Prints status (last_line status) before now held grown answer → PrintsDemo before now held grown answer
  unshown_prints held grown prints = (
    [],
    demo_world,
    λ other. absurd (other (answer_is ends_so)),
    record {
      told = told_nothing 1 true false (λ log chains. chains ≡ []) refl (IsTrueOver mini_next demo_world demo_world) (nothing_over mini_next demo_world demo_world) demo_world;
      status = Memory;
      heard = inl refl;
      ends = ends_so;
      prints = subst (λ (s : Status). Prints s (last_line s) before now held grown answer) it_is prints;
    },
  )
