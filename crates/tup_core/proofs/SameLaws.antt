-- The tests of two verdicts and of two answers say whether they are equal.
use Rattle.std.proofs.Common.{◌≡◌, Bool, refl, ap}
use Rattle.std.specs.Bool.{Decides}
use Rattle.std.specs.Cmp.Lexicographic.{bytes_decides}
use Rattle.std.proofs.lemmas.Bool.{eqb-true, eq-eqb}
use Rattle.std.proofs.lemmas.Bool.Decides.{Decides-at}
use Rattle.tup_path.proofs.Same.{same_path-decides}
use Rattle.tup_access.specs.declared.verdict.Verdict.{Verdict}
use Rattle.tup_access.specs.declared.verdict.Verdict.TheVariants.{Good, Failed, IllegalRead, IllegalWrite, Unwritten, TooManyReads}
use Rattle.tup_access.specs.contracts.verdict.VerdictPartialEq.TheImpl as test

abbrev pub same : Verdict → Verdict → Bool
same one other = test.eq-value.it one other

verdict-decides : (one other : Verdict) → Decides (same one other) (one ≡ other)
verdict-decides Good Good = (λ e. refl, λ e. refl)
verdict-decides Good (Failed status') = (λ e. cc, λ e. cc)
verdict-decides Good (IllegalRead text') = (λ e. cc, λ e. cc)
verdict-decides Good (IllegalWrite text') = (λ e. cc, λ e. cc)
verdict-decides Good (Unwritten path') = (λ e. cc, λ e. cc)
verdict-decides Good TooManyReads = (λ e. cc, λ e. cc)
verdict-decides (Failed status) Good = (λ e. cc, λ e. cc)
verdict-decides (Failed status) (Failed status') = (λ e. ap Failed (eqb-true status status' e), λ e. eq-eqb status status' (let h : status ≡ status' = cc in h))
verdict-decides (Failed status) (IllegalRead text') = (λ e. cc, λ e. cc)
verdict-decides (Failed status) (IllegalWrite text') = (λ e. cc, λ e. cc)
verdict-decides (Failed status) (Unwritten path') = (λ e. cc, λ e. cc)
verdict-decides (Failed status) TooManyReads = (λ e. cc, λ e. cc)
verdict-decides (IllegalRead text) Good = (λ e. cc, λ e. cc)
verdict-decides (IllegalRead text) (Failed status') = (λ e. cc, λ e. cc)
verdict-decides (IllegalRead text) (IllegalRead text') = (λ e. ap IllegalRead ((bytes_decides text text').0 e), λ e. (bytes_decides text text').1 (let h : text ≡ text' = cc in h))
verdict-decides (IllegalRead text) (IllegalWrite text') = (λ e. cc, λ e. cc)
verdict-decides (IllegalRead text) (Unwritten path') = (λ e. cc, λ e. cc)
verdict-decides (IllegalRead text) TooManyReads = (λ e. cc, λ e. cc)
verdict-decides (IllegalWrite text) Good = (λ e. cc, λ e. cc)
verdict-decides (IllegalWrite text) (Failed status') = (λ e. cc, λ e. cc)
verdict-decides (IllegalWrite text) (IllegalRead text') = (λ e. cc, λ e. cc)
verdict-decides (IllegalWrite text) (IllegalWrite text') = (λ e. ap IllegalWrite ((bytes_decides text text').0 e), λ e. (bytes_decides text text').1 (let h : text ≡ text' = cc in h))
verdict-decides (IllegalWrite text) (Unwritten path') = (λ e. cc, λ e. cc)
verdict-decides (IllegalWrite text) TooManyReads = (λ e. cc, λ e. cc)
verdict-decides (Unwritten path) Good = (λ e. cc, λ e. cc)
verdict-decides (Unwritten path) (Failed status') = (λ e. cc, λ e. cc)
verdict-decides (Unwritten path) (IllegalRead text') = (λ e. cc, λ e. cc)
verdict-decides (Unwritten path) (IllegalWrite text') = (λ e. cc, λ e. cc)
verdict-decides (Unwritten path) (Unwritten path') = (λ e. ap Unwritten ((same_path-decides path path').0 e), λ e. (same_path-decides path path').1 (let h : path ≡ path' = cc in h))
verdict-decides (Unwritten path) TooManyReads = (λ e. cc, λ e. cc)
verdict-decides TooManyReads Good = (λ e. cc, λ e. cc)
verdict-decides TooManyReads (Failed status') = (λ e. cc, λ e. cc)
verdict-decides TooManyReads (IllegalRead text') = (λ e. cc, λ e. cc)
verdict-decides TooManyReads (IllegalWrite text') = (λ e. cc, λ e. cc)
verdict-decides TooManyReads (Unwritten path') = (λ e. cc, λ e. cc)
verdict-decides TooManyReads TooManyReads = (λ e. refl, λ e. refl)

pub verdict-tells : (one other : Verdict) (r : Bool) → r ≡ same one other → Decides r (one ≡ other)
verdict-tells one other r e = Decides-at r (same one other) e (verdict-decides one other)
