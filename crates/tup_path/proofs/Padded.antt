-- Bytes with zeros behind them are in the order of the bytes, and bytes in the order of the numbers that they are.
use Rattle.std.proofs.Common.{◌≡◌, ◌≢◌, ◌++◌, ◌∷◌, [], ◌+◌, ◌*◌, ◌-◌, ◌<◌, ◌≤◌, ℕ, zero, suc, List, length, take, drop, replicate, get_or, refl, sym, ap, subst, ◌∙◌, arith}
use Rattle.std.specs.declared.cmp.Ordering.{Ordering}
use Rattle.std.specs.declared.cmp.Ordering.TheVariants.{Less, Equal, Greater}
use Rattle.std.specs.Ordering.{nat_cmp, ordering_then, MatchOrdering}
use Rattle.std.specs.Cmp.{nat_cmp_is, ranks}
use Rattle.std.proofs.lemmas.List.{drop-replicate, length-replicate, length-append, take-append-drop}
use Rattle.tup_path.specs.Body.{high_first}
use Rattle.tup_path.specs.Order.{by_bytes}

-- ---- numbers in order
less_of : (x y : ℕ) → x < y → nat_cmp x y ≡ Less
less_of x y l = sym (nat_cmp_is x y Less l)

equal_of : (x y : ℕ) → x ≡ y → nat_cmp x y ≡ Equal
equal_of x y e = sym (nat_cmp_is x y Equal e)

more_of : (x y : ℕ) → y < x → nat_cmp x y ≡ Greater
more_of x y l = sym (nat_cmp_is x y Greater l)

next_cmp : (x y : ℕ) → nat_cmp (suc x) (suc y) ≡ nat_cmp x y
next_cmp x y = by (nat_cmp x y) (ranks x y)
  where
    by : (r : Ordering) → MatchOrdering r (x < y) (x ≡ y) (y < x) → nat_cmp (suc x) (suc y) ≡ r
    by Less l = less_of (suc x) (suc y) (omega (arith, l))
    by Equal e = equal_of (suc x) (suc y) (ap suc e)
    by Greater l = more_of (suc x) (suc y) (omega (arith, l))

-- where two differ, what comes then doesn't matter
pub decided : (x y : ℕ) (o : Ordering) → x ≢ y → ordering_then (nat_cmp x y) o ≡ nat_cmp x y
decided x y o differ = by (nat_cmp x y) (ranks x y)
  where
    by : (r : Ordering) → MatchOrdering r (x < y) (x ≡ y) (y < x) → ordering_then r o ≡ r
    by Less l = refl
    by Equal e = absurd (differ e)
    by Greater l = refl

then_then : (a b c : Ordering) → ordering_then (ordering_then a b) c ≡ ordering_then a (ordering_then b c)
then_then Less b c = refl
then_then Equal b c = refl
then_then Greater b c = refl

-- ---- zeros behind
zeros_tie : (k : ℕ) → by_bytes (replicate k 0) (replicate k 0) ≡ Equal
zeros_tie zero = refl
zeros_tie (suc k) = zeros_tie k

-- nothing with zeros behind comes before all that is as long, or is tied with it
none_first : (ys : List ℕ) (k l : ℕ) → k ≡ length ys + l → ordering_then (by_bytes (replicate k 0) (ys ++ replicate l 0)) (nat_cmp 0 (length ys)) ≡ by_bytes [] ys
none_first [] k l long = subst (λ (n : ℕ). ordering_then (by_bytes (replicate n 0) (replicate l 0)) (nat_cmp 0 0) ≡ Equal) (sym (long ∙ omega arith)) (ap (λ (r : Ordering). ordering_then r (nat_cmp 0 0)) (zeros_tie l))
none_first (y ∷ ys) zero l long = absurd (omega (arith, long))
none_first (y ∷ ys) (suc k) l long = by y (none_first ys k l (omega (arith, long)))
  where
    after : (c : Ordering) → ordering_then c (nat_cmp 0 (length ys)) ≡ by_bytes [] ys → ordering_then c Less ≡ Less
    after Less is = refl
    after Equal is = refl
    after Greater is = absurd (never ys is)
      where
        never : (zs : List ℕ) → Greater ≡ by_bytes [] zs → ⊥
        never [] e = cc
        never (z ∷ zs) e = cc

    by : (b : ℕ) → ordering_then (by_bytes (replicate k 0) (ys ++ replicate l 0)) (nat_cmp 0 (length ys)) ≡ by_bytes [] ys
        → ordering_then (ordering_then (nat_cmp 0 b) (by_bytes (replicate k 0) (ys ++ replicate l 0))) (nat_cmp 0 (suc (length ys))) ≡ Less
    by zero is =
        ap (λ (r : Ordering). ordering_then (by_bytes (replicate k 0) (ys ++ replicate l 0)) r) (less_of 0 (suc (length ys)) (omega arith))
        ∙ after (by_bytes (replicate k 0) (ys ++ replicate l 0)) is
    by (suc b) is =
        ap (λ (r : Ordering). ordering_then (ordering_then r (by_bytes (replicate k 0) (ys ++ replicate l 0))) (nat_cmp 0 (suc (length ys)))) (less_of 0 (suc b) (omega arith))

none_last : (xs : List ℕ) (k l : ℕ) → length xs + k ≡ l → ordering_then (by_bytes (xs ++ replicate k 0) (replicate l 0)) (nat_cmp (length xs) 0) ≡ by_bytes xs []
none_last [] k l long = subst (λ (n : ℕ). ordering_then (by_bytes (replicate k 0) (replicate n 0)) (nat_cmp 0 0) ≡ Equal) (omega (arith, long)) (ap (λ (r : Ordering). ordering_then r (nat_cmp 0 0)) (zeros_tie k))
none_last (x ∷ xs) k zero long = absurd (omega (arith, long))
none_last (x ∷ xs) k (suc l) long = by x (none_last xs k l (omega (arith, long)))
  where
    after : (c : Ordering) → ordering_then c (nat_cmp (length xs) 0) ≡ by_bytes xs [] → ordering_then c Greater ≡ Greater
    after Less is = absurd (never xs is)
      where
        never : (zs : List ℕ) → Less ≡ by_bytes zs [] → ⊥
        never [] e = cc
        never (z ∷ zs) e = cc
    after Equal is = refl
    after Greater is = refl

    by : (b : ℕ) → ordering_then (by_bytes (xs ++ replicate k 0) (replicate l 0)) (nat_cmp (length xs) 0) ≡ by_bytes xs []
        → ordering_then (ordering_then (nat_cmp b 0) (by_bytes (xs ++ replicate k 0) (replicate l 0))) (nat_cmp (suc (length xs)) 0) ≡ Greater
    by zero is =
        ap (λ (r : Ordering). ordering_then (by_bytes (xs ++ replicate k 0) (replicate l 0)) r) (more_of (suc (length xs)) 0 (omega arith))
        ∙ after (by_bytes (xs ++ replicate k 0) (replicate l 0)) is
    by (suc b) is =
        ap (λ (r : Ordering). ordering_then (ordering_then r (by_bytes (xs ++ replicate k 0) (replicate l 0))) (nat_cmp (suc (length xs)) 0)) (more_of (suc b) 0 (omega arith))

pub padded : (xs ys : List ℕ) (k l : ℕ) → length xs + k ≡ length ys + l
    → ordering_then (by_bytes (xs ++ replicate k 0) (ys ++ replicate l 0)) (nat_cmp (length xs) (length ys)) ≡ by_bytes xs ys
padded [] ys k l long = none_first ys k l (omega (arith, long))
padded (x ∷ xs) [] k l long = none_last (x ∷ xs) k l (omega (arith, long))
padded (x ∷ xs) (y ∷ ys) k l long =
    ap (λ (r : Ordering). ordering_then (ordering_then (nat_cmp x y) (by_bytes (xs ++ replicate k 0) (ys ++ replicate l 0))) r) (next_cmp (length xs) (length ys))
    ∙ then_then (nat_cmp x y) (by_bytes (xs ++ replicate k 0) (ys ++ replicate l 0)) (nat_cmp (length xs) (length ys))
    ∙ ap (λ (r : Ordering). ordering_then (nat_cmp x y) r) (padded xs ys k l (omega (arith, long)))

-- ---- bytes as a number
abbrev pub AreBytes : List ℕ → Type 0
AreBytes xs = (k : ℕ) → get_or xs k 0 < 256

rises : (n a b : ℕ) (us vs : List ℕ) → n ≤ length us → n ≤ length vs → AreBytes us → a < b → high_first a (take n us) < high_first b (take n vs)
rises zero a b us vs p q h l = l
rises (suc n) a b [] vs p q h l = absurd (omega (arith, p))
rises (suc n) a b (u ∷ us) [] p q h l = absurd (omega (arith, q))
rises (suc n) a b (u ∷ us) (v ∷ vs) p q h l =
    rises n (a * 256 + u) (b * 256 + v) us vs (omega (arith, p)) (omega (arith, q)) (λ k. h (suc k)) (omega (arith, l, h 0))

pub by_front : (n a : ℕ) (us vs : List ℕ) → n ≤ length us → n ≤ length vs → AreBytes us → AreBytes vs
    → by_bytes us vs ≡ ordering_then (nat_cmp (high_first a (take n us)) (high_first a (take n vs))) (by_bytes (drop n us) (drop n vs))
by_front zero a us vs p q g h = sym (ap (λ (r : Ordering). ordering_then r (by_bytes us vs)) (equal_of a a refl))
by_front (suc n) a [] vs p q g h = absurd (omega (arith, p))
by_front (suc n) a (u ∷ us) [] p q g h = absurd (omega (arith, q))
by_front (suc n) a (u ∷ us) (v ∷ vs) p q g h =
    by (by_front n (a * 256 + u) us vs (omega (arith, p)) (omega (arith, q)) (λ k. g (suc k)) (λ k. h (suc k))) (nat_cmp u v) refl (ranks u v)
  where
    rest : Ordering
    rest = by_bytes (drop n us) (drop n vs)

    by : by_bytes us vs ≡ ordering_then (nat_cmp (high_first (a * 256 + u) (take n us)) (high_first (a * 256 + u) (take n vs))) rest
        → (r : Ordering) → nat_cmp u v ≡ r → MatchOrdering r (u < v) (u ≡ v) (v < u)
        → ordering_then (nat_cmp u v) (by_bytes us vs) ≡ ordering_then (nat_cmp (high_first (a * 256 + u) (take n us)) (high_first (a * 256 + v) (take n vs))) rest
    by later Less e l =
        ap (λ (r : Ordering). ordering_then r (by_bytes us vs)) e
        ∙ sym (ap (λ (r : Ordering). ordering_then r rest) (less_of _ _ (rises n (a * 256 + u) (a * 256 + v) us vs (omega (arith, p)) (omega (arith, q)) (λ k. g (suc k)) (omega (arith, l)))))
    by later Equal e l =
        ap (λ (r : Ordering). ordering_then r (by_bytes us vs)) e
        ∙ later
        ∙ ap (λ (w : ℕ). ordering_then (nat_cmp (high_first (a * 256 + u) (take n us)) (high_first (a * 256 + w) (take n vs))) rest) l
    by later Greater e l =
        ap (λ (r : Ordering). ordering_then r (by_bytes us vs)) e
        ∙ sym (ap (λ (r : Ordering). ordering_then r rest) (more_of _ _ (rises n (a * 256 + v) (a * 256 + u) vs us (omega (arith, q)) (omega (arith, p)) (λ k. h (suc k)) (omega (arith, l)))))

-- the number that the first eight bytes are
pub eight : (xs : List ℕ) → 8 ≤ length xs
    → get_or xs 0 0 * 72057594037927936 + get_or xs 1 0 * 281474976710656 + get_or xs 2 0 * 1099511627776 + get_or xs 3 0 * 4294967296
    + get_or xs 4 0 * 16777216 + get_or xs 5 0 * 65536 + get_or xs 6 0 * 256 + get_or xs 7 0 ≡ high_first 0 (take 8 xs)
eight (a ∷ b ∷ c ∷ d ∷ e ∷ f ∷ g ∷ h ∷ xs) long = omega arith
eight [] long = absurd (omega (arith, long))
eight (a ∷ []) long = absurd (omega (arith, long))
eight (a ∷ b ∷ []) long = absurd (omega (arith, long))
eight (a ∷ b ∷ c ∷ []) long = absurd (omega (arith, long))
eight (a ∷ b ∷ c ∷ d ∷ []) long = absurd (omega (arith, long))
eight (a ∷ b ∷ c ∷ d ∷ e ∷ []) long = absurd (omega (arith, long))
eight (a ∷ b ∷ c ∷ d ∷ e ∷ f ∷ []) long = absurd (omega (arith, long))
eight (a ∷ b ∷ c ∷ d ∷ e ∷ f ∷ g ∷ []) long = absurd (omega (arith, long))

-- ---- texts that lie in the value
abbrev pub IsShort : List ℕ → ℕ → Type 0
IsShort bytes len = (len ≤ 24) × (drop len bytes ≡ replicate (24 - len) 0)

whole : (bytes : List ℕ) (len : ℕ) → length bytes ≡ 24 → IsShort bytes len → bytes ≡ take len bytes ++ replicate (24 - len) 0
whole bytes len long short = sym (take-append-drop len bytes) ∙ ap (λ (t : List ℕ). take len bytes ++ t) short.1

taken : (bytes : List ℕ) (len : ℕ) → length bytes ≡ 24 → IsShort bytes len → length (take len bytes) ≡ len
taken bytes len long short =
    omega (arith, long, short.0, ap length (sym (take-append-drop len bytes)), length-append (take len bytes) (drop len bytes), ap length short.1, length-replicate {A = ℕ} (24 - len) 0)

by_padded : (xs ys : List ℕ) (n m : ℕ) → length xs ≡ 24 → length ys ≡ 24 → IsShort xs n → IsShort ys m
    → ordering_then (by_bytes xs ys) (nat_cmp n m) ≡ by_bytes (take n xs) (take m ys)
by_padded xs ys n m long wide first second =
    let one = taken xs n long first in
    let two = taken ys m wide second in
    (λ i. ordering_then (by_bytes (whole xs n long first i) (whole ys m wide second i)) (nat_cmp (sym one i) (sym two i)))
    ∙ padded (take n xs) (take m ys) (24 - n) (24 - m) (omega (arith, one, two, first.0, second.0))

-- the first eight bytes differ, and decide
pub decided_by_front : (xs ys : List ℕ) (n m x y : ℕ) → length xs ≡ 24 → length ys ≡ 24 → AreBytes xs → AreBytes ys → IsShort xs n → IsShort ys m
    → x ≡ high_first 0 (take 8 xs) → y ≡ high_first 0 (take 8 ys) → x ≢ y → nat_cmp x y ≡ by_bytes (take n xs) (take m ys)
decided_by_front xs ys n m x y long wide g h first second is its differ =
    let o = by_bytes (drop 8 xs) (drop 8 ys) in
    let front : by_bytes xs ys ≡ nat_cmp x y =
    by_front 8 0 xs ys (omega (arith, long)) (omega (arith, wide)) g h ∙ (λ i. ordering_then (nat_cmp (sym is i) (sym its i)) o) ∙ decided x y o differ in
    sym (decided x y (nat_cmp n m) differ) ∙ ap (λ (r : Ordering). ordering_then r (nat_cmp n m)) (sym front) ∙ by_padded xs ys n m long wide first second

behind_eight : (xs : List ℕ) (n : ℕ) → n ≤ 8 → IsShort xs n → drop 8 xs ≡ replicate 16 0
behind_eight xs n few short =
    let split : 8 ≡ n + (8 - n) = omega (arith, few) in
    let left : 24 - n - (8 - n) ≡ 16 = omega (arith, few) in
    ap (λ (k : ℕ). drop k xs) split ∙ drop_twice n (8 - n) xs ∙ ap (drop (8 - n)) short.1 ∙ drop-replicate (8 - n) (24 - n) 0 ∙ ap (λ (k : ℕ). replicate k 0) left
  where
    drop_twice : (i j : ℕ) (l : List ℕ) → drop (i + j) l ≡ drop j (drop i l)
    drop_twice zero j l = let same : 0 + j ≡ j = omega arith in ap (λ (k : ℕ). drop k l) same
    drop_twice (suc i) j [] = none (suc i + j) ∙ sym (none j)
      where
        none : (k : ℕ) → drop {A = ℕ} k [] ≡ []
        none zero = refl
        none (suc k) = refl
    drop_twice (suc i) j (x ∷ l) = let next : suc i + j ≡ suc (i + j) = omega arith in ap (λ (k : ℕ). drop k (x ∷ l)) next ∙ drop_twice i j l

-- they are the same, and there are no others
pub decided_by_length : (xs ys : List ℕ) (n m x y : ℕ) → length xs ≡ 24 → length ys ≡ 24 → AreBytes xs → AreBytes ys → IsShort xs n → IsShort ys m
    → x ≡ high_first 0 (take 8 xs) → y ≡ high_first 0 (take 8 ys) → x ≡ y → n ≤ 8 → m ≤ 8 → nat_cmp n m ≡ by_bytes (take n xs) (take m ys)
decided_by_length xs ys n m x y long wide g h first second is its same few many =
    let o = by_bytes (drop 8 xs) (drop 8 ys) in
    let none : o ≡ Equal = (λ i. by_bytes (behind_eight xs n few first i) (behind_eight ys m many second i)) ∙ zeros_tie 16 in
    let tied : by_bytes xs ys ≡ Equal =
    by_front 8 0 xs ys (omega (arith, long)) (omega (arith, wide)) g h ∙ (λ i. ordering_then (nat_cmp (sym is i) (sym its i)) o) ∙ ap (λ (r : Ordering). ordering_then r o) (equal_of x y same) ∙ none in
    ap (λ (r : Ordering). ordering_then r (nat_cmp n m)) (sym tied) ∙ by_padded xs ys n m long wide first second
