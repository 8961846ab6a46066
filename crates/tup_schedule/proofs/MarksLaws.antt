-- Marks in a tree of truths: one is set from its place up, and the first is found from the root down.
use Rattle.std.proofs.Common.{◌≡◌, ℕ, zero, suc, ◌+◌, ◌-◌, ◌*◌, ◌/◌, ◌^◌, ◌<◌, ◌≤◌, ◌⊎◌, ◌==◌, Bool, true, false, ◌||◌, List, [], ◌∷◌, length, replicate, get_or, refl, sym, ap, ap₂, ◌∙◌, inl, inr, arith}
use Rattle.std.specs.Prelude.{if◌then◌else◌}
use Rattle.std.specs.Vec.{with_item}
use Rattle.std.proofs.Math.Nat.{mul-le-mul_left, mul_comm, mul_assoc, pow-succ'}
use Rattle.std.proofs.lemmas.Bool.{true≢false, cases_eq, cases_lt}
use Rattle.std.proofs.lemmas.Nat.{pow_pos}
use Rattle.std.proofs.lemmas.List.{length-replicate, get_or_read}
use Rattle.std.proofs.lemmas.Option.{unwrap_or-slice_get}
use Rattle.tup_schedule.specs.declared.marks.Marks.{Marks}
use Rattle.tup_schedule.specs.Marks.{IsMarks, IsPower, IsJoint, IsFirstMark, is_marked}
use Rattle.tup_core.specs.Waiting.{flag}
use Rattle.tup_core.proofs.ItemLaws.{set_same, set_other, flag_none}

-- a flag past the end is down
pub flag_past : (flags : List Bool) (at : ℕ) → length flags ≤ at → flag flags at ≡ false
flag_past [] at past = refl
flag_past (one ∷ flags) zero past = absurd (omega arith)
flag_past (one ∷ flags) (suc at) past = flag_past flags at (omega arith)

-- a node, with one written
abbrev pub with_node : Marks → ℕ → Bool → Marks
with_node marks node up = record marks { nodes = with_item marks.nodes node up }

here : (marks : Marks) (node : ℕ) (up : Bool) → node < length marks.nodes.items → flag (with_node marks node up).nodes.items node ≡ up
here marks node up within = set_same marks.nodes.items node up false within

there : (marks : Marks) (node other : ℕ) (up : Bool) → (other ≡ node → ⊥) → flag (with_node marks node up).nodes.items other ≡ flag marks.nodes.items other
there marks node other up apart = set_other marks.nodes.items node other up false apart

-- ---- a mark is set: from its place on each node above is written anew

-- the mark of a place has this value, those of all others stay, and each node is up where one below it is but for the one
-- above this
pub record IsRaised (old new : Marks) (place : ℕ) (up : Bool) (node : ℕ) : Type 0 where
  pub places : new.places ≡ old.places
  pub many : length new.nodes.items ≡ 2 * new.places
  pub some : 0 < node
  pub below : node < 2 * new.places
  pub joints : (m : ℕ) → 0 < m → m < new.places → (node ≡ 2 * m → ⊥) → (node ≡ 2 * m + 1 → ⊥) → IsJoint new m
  pub leaves : (at : ℕ) → is_marked new at ≡ (if at == place then up else is_marked old at)

-- ---- the first mark is found: from the root on the left node below is taken where it is up

-- a node that is up, left of which in its row all are down
pub record IsLeftmost (marks : Marks) (node : ℕ) : Type 0 where
  pub start : ℕ
  pub times : ℕ
  pub whole : start * 2 ^ times ≡ marks.places
  pub some : 0 < start
  pub from : start ≤ node
  pub below : node < 2 * start
  pub up : flag marks.nodes.items node ≡ true
  pub left : (m : ℕ) → start ≤ m → m < node → flag marks.nodes.items m ≡ false

pub leftmost_first : (marks : Marks) → IsMarks marks → flag marks.nodes.items 1 ≡ true → IsLeftmost marks 1
leftmost_first marks is up = record {
  start = 1;
  times = is.power.0;
  whole = omega (arith, is.power.1);
  some = omega arith;
  from = omega arith;
  below = omega arith;
  up = up;
  left = λ m least less. absurd (omega (arith, least, less));
}

either_down : (a b : Bool) → false ≡ (a || b) → (a ≡ false) × (b ≡ false)
either_down false false e = (refl, refl)
either_down true b e = absurd (true≢false (sym e))
either_down false true e = absurd (true≢false (sym e))

either_up : (a b : Bool) → true ≡ (a || b) → a ≡ false → b ≡ true
either_up true b e down = absurd (true≢false down)
either_up false b e down = sym e

-- both nodes below one that is down are down
both_down : (marks : Marks) (node : ℕ) → IsMarks marks → 0 < node → node < marks.places → flag marks.nodes.items node ≡ false
    → (flag marks.nodes.items (2 * node) ≡ false) × (flag marks.nodes.items (2 * node + 1) ≡ false)
both_down marks node is some less down = either_down _ _ (sym down ∙ is.joints node some less)

-- a row above the last has one below it
row_below : (marks : Marks) (start times node : ℕ) → start * 2 ^ times ≡ marks.places → start ≤ node → node < marks.places → (before : ℕ) × ((2 * start) * 2 ^ before ≡ marks.places)
row_below marks start zero node whole from less = absurd (omega (arith, whole, from, less))
row_below marks start (suc times) node whole from less = (times, doubled start (2 ^ times) ∙ ap (λ (n : ℕ). start * n) (sym (pow-succ' 2 times)) ∙ whole)
  where
    doubled : (a b : ℕ) → (2 * a) * b ≡ a * (2 * b)
    doubled a b = ap (λ (n : ℕ). n * b) (mul_comm 2 a) ∙ mul_assoc a 2 b

-- a node is twice the one above it, or one more
halved : (m : ℕ) → (m ≡ 2 * (m / 2)) ⊎ (m ≡ 2 * (m / 2) + 1)
halved m = elim (cases_eq m (2 * (m / 2))) [ inl even ↦ inl even | inr apart ↦ inr (omega (arith, apart)) ]

-- a node is down if the one above it is
down_below : (marks : Marks) (m : ℕ) → IsMarks marks → 0 < m / 2 → m / 2 < marks.places → flag marks.nodes.items (m / 2) ≡ false → flag marks.nodes.items m ≡ false
down_below marks m is some less down = go (halved m)
  where
    both : (flag marks.nodes.items (2 * (m / 2)) ≡ false) × (flag marks.nodes.items (2 * (m / 2) + 1) ≡ false)
    both = both_down marks (m / 2) is some less down

    go : (m ≡ 2 * (m / 2)) ⊎ (m ≡ 2 * (m / 2) + 1) → flag marks.nodes.items m ≡ false
    go (inl even) = ap (flag marks.nodes.items) even ∙ both.0
    go (inr odd) = ap (flag marks.nodes.items) odd ∙ both.1

-- in the row below, all that hang below those left of a node are down
row_down : (marks : Marks) (node m : ℕ) → IsMarks marks → (at : IsLeftmost marks node) → node < marks.places → 2 * at.start ≤ m → m < 2 * node → flag marks.nodes.items m ≡ false
row_down marks node m is at less least lower =
    let some_start = at.some in
    let half_least : at.start ≤ m / 2 = omega (arith, least) in
    let half_lower : m / 2 < node = omega (arith, lower) in
    down_below marks m is (omega (arith, some_start, half_least)) (omega (arith, half_lower, less)) (at.left (m / 2) half_least half_lower)

-- the next node: the left one below, or else the right one
pub leftmost_left : (marks : Marks) (node : ℕ) → IsMarks marks → IsLeftmost marks node → node < marks.places → flag marks.nodes.items (2 * node) ≡ true → IsLeftmost marks (2 * node)
leftmost_left marks node is at less up =
    let row = row_below marks at.start at.times node at.whole at.from less in
    let some_start = at.some in
    let from = at.from in
    let below = at.below in
    record {
      start = 2 * at.start;
      times = row.0;
      whole = row.1;
      some = omega (arith, some_start);
      from = omega (arith, from);
      below = omega (arith, below);
      up = up;
      left = λ m least lower. row_down marks node m is at less least lower;
    }

pub leftmost_right : (marks : Marks) (node : ℕ) → IsMarks marks → IsLeftmost marks node → node < marks.places → flag marks.nodes.items (2 * node) ≡ false → IsLeftmost marks (2 * node + 1)
leftmost_right marks node is at less down =
    let row = row_below marks at.start at.times node at.whole at.from less in
    let some_start = at.some in
    let from = at.from in
    let below = at.below in
    record {
      start = 2 * at.start;
      times = row.0;
      whole = row.1;
      some = omega (arith, some_start);
      from = omega (arith, from);
      below = omega (arith, below);
      up = either_up _ _ (sym at.up ∙ is.joints node (omega (arith, some_start, from)) less) down;
      left = λ m least lower. beside m least (halved_or m lower);
    }
  where
    halved_or : (m : ℕ) → m < 2 * node + 1 → (m < 2 * node) ⊎ (m ≡ 2 * node)
    halved_or m lower = elim (cases_eq m (2 * node)) [ inl same ↦ inr same | inr apart ↦ inl (omega (arith, apart, lower)) ]

    beside : (m : ℕ) → 2 * at.start ≤ m → (m < 2 * node) ⊎ (m ≡ 2 * node) → flag marks.nodes.items m ≡ false
    beside m least (inl lower) = row_down marks node m is at less least lower
    beside m least (inr same) = ap (flag marks.nodes.items) same ∙ down

-- a row whose nodes are places is the last
last_row : (start times places node : ℕ) → start * 2 ^ times ≡ places → 0 < start → node < 2 * start → places ≤ node → start ≡ places
last_row start zero places node whole some below past = omega (arith, whole)
last_row start (suc times) places node whole some below past = absurd (omega (arith, more, below, past))
  where
    doubled : start * 2 ^ suc times ≡ 2 * (start * 2 ^ times)
    doubled = ap (λ (n : ℕ). start * n) (pow-succ' 2 times) ∙ sym (mul_assoc start 2 (2 ^ times)) ∙ ap (λ (n : ℕ). n * 2 ^ times) (mul_comm start 2) ∙ mul_assoc 2 start (2 ^ times)

    at_least : start * 1 ≤ start * 2 ^ times
    at_least = mul-le-mul_left start (pow_pos times)

    more : 2 * start ≤ places
    more = omega (arith, doubled, whole, at_least)

-- the node that is left at the end is that of the first place with a mark
pub leftmost_last : (marks : Marks) (node : ℕ) → IsLeftmost marks node → marks.places ≤ node → IsFirstMark marks (node - marks.places)
leftmost_last marks node at past =
    let below = at.below in
    let row = last_row at.start at.times marks.places node at.whole at.some at.below past in
    let is : marks.places + (node - marks.places) ≡ node = omega (arith, past) in
    record {
      within = omega (arith, row, below, past);
      marked = ap (flag marks.nodes.items) is ∙ at.up;
      first = λ before less. at.left (marks.places + before) (omega (arith, row)) (omega (arith, less, past));
    }

-- ---- if the root is down, so are all nodes
pub all_down : (marks : Marks) (fuel m : ℕ) → IsMarks marks → flag marks.nodes.items 1 ≡ false → m ≤ fuel → 0 < m → m < 2 * marks.places → flag marks.nodes.items m ≡ false
all_down marks zero m is root small some less = absurd (omega (arith, small, some))
all_down marks (suc fuel) m is root small some less =
    elim (cases_eq m 1) [
      | inl one ↦ ap (flag marks.nodes.items) one ∙ root
      | inr apart ↦
          let half_some : 0 < m / 2 = omega (arith, some, apart) in
          let half_less : m / 2 < marks.places = omega (arith, less) in
          down_below marks m is half_some half_less (all_down marks fuel (m / 2) is root (omega (arith, small, some, apart)) half_some (omega (arith, half_less)))
    ]

pub none_marked : (marks : Marks) (at : ℕ) → IsMarks marks → flag marks.nodes.items 1 ≡ false → is_marked marks at ≡ false
none_marked marks at is root =
    let many = is.many in
    elim (cases_lt at marks.places) [
      | inl less ↦ all_down marks (marks.places + at) (marks.places + at) is root (omega arith) (omega (arith, less)) (omega (arith, less))
      | inr past ↦ flag_past marks.nodes.items (marks.places + at) (omega (arith, many, past))
    ]

-- ---- no marks
pub no_marks : (marks : Marks) → IsPower marks.places → marks.places ≤ 2 ^ 33 → marks.nodes.items ≡ replicate (2 * marks.places) false → IsMarks marks × ((at : ℕ) → is_marked marks at ≡ false)
no_marks marks power few is = (
  record {
    power = power;
    few = few;
    many = ap length is ∙ length-replicate (2 * marks.places) false;
    joints = λ node some less. down node ∙ sym (ap₂ ◌||◌ (down (2 * node)) (down (2 * node + 1)));
  },
  λ at. down (marks.places + at),
)
  where
    down : (node : ℕ) → flag marks.nodes.items node ≡ false
    down node = ap (λ (flags : List Bool). flag flags node) is ∙ flag_none (2 * marks.places) node

-- a flag that was read is the one there
pub read_flag : (flags : List Bool) (at : ℕ) (found : Bool) → at < length flags → found ≡ get_or flags at found → flag flags at ≡ found
read_flag flags at found within is = unwrap_or-slice_get flags at false ∙ sym (get_or_read flags at found within is false)

-- there is a place
pub some_place_marked : (marks : Marks) → IsMarks marks → 0 < marks.places
some_place_marked marks is = let some = pow_pos is.power.0 in let whole = is.power.1 in omega (arith, some, whole)
