-- Places that were made durable in several threads.
use Rattle.std.proofs.Common.{◌≡◌, ◌⊎◌, inr, ℕ, ◌<◌, List, ◌++◌, length, take, All, Any, Result, Ok, Err, IfErr, String, Global, string_bytes, slice_index_or, subst, sym, ap, ◌∙◌, arith}
use Rattle.std.specs.BTreeSet.{BTreeSet}
use Rattle.std.proofs.Math.Seq.{take-append_seam}
use Rattle.tup_disk.specs.Jobs.{IsOneOf, IsTried}
use Rattle.tup_disk.specs.Told.{IsUnsynced, IsUnsyncedAmong}
use Rattle.tup_disk.specs.declared.failure.Refused.{Refused}
use Rattle.tup_disk.specs.declared.failure.Refused.TheVariants.{Memory}
use Rattle.tup_disk.specs.declared.syncing.Job.{Job}

-- a job whose place is one of these wasn't made durable
among : (places : BTreeSet (String Global)) (job : Job) (refused : Refused) → IsUnsynced (string_bytes job.place) refused → IsOneOf places job → IsUnsyncedAmong places refused
among places job refused unsynced (at, place, room, is, same) = (at, place, room, is, subst (λ (p : List ℕ). IsUnsynced p refused) (sym same) unsynced)

-- what a job that was tried was refused for is that one of these places wasn't made durable
pub refused_place : (places : BTreeSet (String Global)) (old new : List Job) (refused : Refused) → length new ≡ length old → All (IsOneOf places) old
    → ((i : ℕ) (d : Job) → i < length old → IsTried (slice_index_or old i d) (slice_index_or new i d))
    → Any (λ (job : Job). job.done ≡ Err refused) new → IsUnsyncedAmong places refused
refused_place places old new refused long of tried (at, job, room, is, said) =
    let inside : at < length old = omega (arith, long, room) in
    let was = slice_index_or old at job in
    among places was refused
    (subst (λ r. IfErr r (IsUnsynced (string_bytes was.place))) said
    (subst (λ (j : Job). IfErr j.done (IsUnsynced (string_bytes was.place))) is (tried at job inside)))
    (of at job inside)

-- the same of what the first refused is told as
pub told_of : (places : BTreeSet (String Global)) (old new : List Job) (result : Result (Unit {0}) Refused) → length new ≡ length old → All (IsOneOf places) old
    → ((i : ℕ) (d : Job) → i < length old → IsTried (slice_index_or old i d) (slice_index_or new i d))
    → IfErr result (λ refused. Any (λ (job : Job). job.done ≡ Err refused) new) → IfErr result (λ refused. (refused ≡ Memory) ⊎ IsUnsyncedAmong places refused)
told_of places old new (Ok done) long of tried first = tt
told_of places old new (Err refused) long of tried first = inr (refused_place places old new refused long of tried first)

-- so many as there are in front of others are these
pub front : (n : ℕ) (jobs rest : List Job) → length jobs ≡ n → take n (jobs ++ rest) ≡ jobs
front n jobs rest is = ap (λ (k : ℕ). take k (jobs ++ rest)) (sym is) ∙ take-append_seam jobs rest
