-- A call that began goes on, and is counted as a whole.
use Rattle.std.proofs.Common.{◌≡◌, ◌≢◌, ◌⊎◌, inl, inr, ⊎_elim, Result, Ok, Err, OnErr, sym, subst, ◌∙◌, arith}
use Rattle.tup_path.specs.Count.{Rose}
use Rattle.tup_path.specs.Name.{Content}
use Rattle.tup_site.specs.Known.{MayJoin}
use Rattle.tup_site.specs.Memory.{faults_of, known_in, IsCounted, FailsOnly, IsSameBeside}
use Rattle.tup_site.specs.declared.fault.SiteFailed.{SiteFailed}
use Rattle.tup_site.specs.declared.fault.SiteFailed.TheVariants.{Fault, Memory}
use Rattle.tup_site.specs.declared.memory.MemSite.{MemSite}

-- the answer of a call that has nothing to tell
abbrev pub done : Result (Unit {0}) SiteFailed
done = Ok tt

abbrev answered : {U : Type 0} → U → Result U SiteFailed
answered value = Ok value

passed : {U : Type 0} (value : U) → (answered value ≡ Err Fault) ⊎ (answered value ≡ Err Memory) → ⊥
passed value (inl e) = cc
passed value (inr e) = cc

is_no_fault : {U : Type 0} (value : U) → answered value ≢ Err Fault
is_no_fault value e = cc

only_memory : {T : Type 0} (result : Result T SiteFailed) → OnErr result (result ≡ Err Memory) → result ≡ Err Fault → ⊥
only_memory (Ok value) memory e = cc
only_memory (Err failed) memory e = cc (memory, e)

module _ {T U : Type 0} (old mid new : MemSite) (fails : Type 0) (value : U) (result : Result T SiteFailed) (begun : IsCounted old mid fails (Ok value)) where
  stands : faults_of mid ≡ faults_of old
  stands = begun.cause.steady (is_no_fault value)

  -- a call that fails for no other reason than memory
  pub counted_quiet : IsSameBeside mid new → OnErr result (result ≡ Err Memory) → IsCounted old new fails result
  counted_quiet beside memory = record {
    calls = beside.calls ∙ begun.calls;
    left = beside.left ∙ begun.left;
    fails = beside.fails ∙ begun.fails;
    first = beside.first ∙ begun.first;
    fault = λ e. absurd (only_memory result memory e);
    passes = λ f. absurd (passed value (begun.passes f));
    cause = record {
      later = let same = beside.faults ∙ stands in omega arith;
      fault = λ e. absurd (only_memory result memory e);
      steady = λ apart. beside.faults ∙ stands;
    };
  }

  -- a call that may fail for one reason more
  pub counted_more : (content : Content) → known_in mid ≡ known_in old → FailsOnly (¬ MayJoin (known_in mid) content) mid new result → IsCounted old new (fails ⊎ (¬ MayJoin (known_in old) content)) result
  counted_more content same call = record {
    calls = call.calls ∙ begun.calls;
    left = call.left ∙ begun.left;
    fails = call.fails ∙ begun.fails;
    first = call.first ∙ begun.first;
    fault = λ e. inr (λ may. call.fault e (subst (λ known. MayJoin known content) (sym same) may));
    passes = λ f. ⊎_elim (λ fails_so. absurd (passed value (begun.passes fails_so))) (λ other. call.passes (λ may. other (subst (λ known. MayJoin known content) same may))) f;
    cause = record {
      later = let same_count = stands in omega (arith, call.cause.later);
      fault = λ e. subst (λ n. Rose n (faults_of new)) stands (call.cause.fault e);
      steady = λ apart. call.cause.steady apart ∙ stands;
    };
  }
