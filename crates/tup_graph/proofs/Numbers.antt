-- Numbers as they are spelled: in byte order a later number stands behind.
use Rattle.std.proofs.Common.{◌≡◌, ◌<◌, ◌+◌, ◌*◌, ◌/◌, ◌%◌, ◌^◌, ℕ, refl, arith}
use Rattle.std.specs.declared.cmp.Ordering.{Ordering}
use Rattle.std.specs.declared.cmp.Ordering.TheVariants.{Less, Equal, Greater}
use Rattle.std.specs.Ordering.{nat_cmp, ordering_then, MatchOrdering}
use Rattle.std.specs.Cmp.{ranks}
use Rattle.std.proofs.lemmas.Nat.{from_be_bytes-to_be_bytes_4}
use Rattle.tup_path.specs.Order.{by_bytes}
use Rattle.tup_field.specs.Parts.{number}

-- one byte and what comes behind it
behind : (a p : ℕ) (rest : Ordering) → (a < p → ⊥) → (a ≡ p → rest ≡ Greater) → ordering_then (nat_cmp a p) rest ≡ Greater
behind a p rest never tied = by (nat_cmp a p) (ranks a p)
  where
    by : (o : Ordering) → MatchOrdering o (a < p) (a ≡ p) (p < a) → ordering_then o rest ≡ Greater
    by Less less = absurd (never less)
    by Equal same = tied same
    by Greater more = refl

-- four bytes
abbrev worth : ℕ → ℕ → ℕ → ℕ → ℕ
worth a b c d = a * 16777216 + b * 65536 + c * 256 + d

four_behind : (a b c d p q r s : ℕ) → a < 256 → b < 256 → c < 256 → d < 256 → p < 256 → q < 256 → r < 256 → s < 256 → worth p q r s < worth a b c d
    → ordering_then (nat_cmp a p) (ordering_then (nat_cmp b q) (ordering_then (nat_cmp c r) (ordering_then (nat_cmp d s) Equal))) ≡ Greater
four_behind a b c d p q r s la lb lc ld lp lq lr ls more =
    behind a p _ (λ less. omega arith) (λ one. behind b q _ (λ less. omega arith) (λ two. behind c r _ (λ less. omega arith)
    (λ three. behind d s Equal (λ less. omega arith) (λ four. absurd (omega arith)))))

pub number_behind : (m n : ℕ) → m < n → n < 2 ^ 32 → by_bytes (number.spelling n) (number.spelling m) ≡ Greater
number_behind m n less fits =
    let m_is = from_be_bytes-to_be_bytes_4 m (omega arith) in
    let n_is = from_be_bytes-to_be_bytes_4 n fits in
    four_behind (n / 16777216 % 256) (n / 65536 % 256) (n / 256 % 256) (n % 256) (m / 16777216 % 256) (m / 65536 % 256) (m / 256 % 256) (m % 256)
    (omega arith) (omega arith) (omega arith) (omega arith) (omega arith) (omega arith) (omega arith) (omega arith) (omega (arith, m_is, n_is))
