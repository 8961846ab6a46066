-- A store reads in one way, and how far its commits were read.
use Rattle.std.proofs.Common.{◌≡◌, ◌≢◌, ℕ, ◌+◌, ◌-◌, ◌<◌, ◌≤◌, List, [], ◌∷◌, ◌++◌, length, take, drop, Result, Ok, Err, refl, sym, ap, subst, ◌∙◌, length-append, arith, ◌⊎◌, ⊎_elim, inl, inr}
use Rattle.std.specs.List.{AllByRecursion}
use Rattle.std.proofs.lemmas.Bool.Decides.{leb_tells}
use Rattle.std.proofs.lemmas.List.{take_at, drop_at}
use Rattle.std.proofs.lemmas.List.Concat.{flat_map-cons}
use Rattle.tup_path.specs.Gives.{GivesUnless}
use Rattle.tup_table.specs.Front.{Front, NoFront}
use Rattle.tup_table.specs.Spelling.{change_spelling, ChangeFits, payload, ChangesFit, commit, CommitFits, blocks}
use Rattle.tup_table.specs.Store.{first_bytes, header, switch_of, start_of, high_area, most_live, IsHead, HasHead, HasStart, HasRoomBelow, IsArea, BreaksBehind, IsLow, IsHigh, IsBrokenLow, IsBrokenHigh, IsBadHigh, IsEnd, IsBroken, Follows, IsStore, IsDamaged}
use Rattle.tup_table.specs.Compact.{compacted, compact_area, live_size}
use Rattle.tup_table.specs.Entries.{Standing, changed, committed, left_from, entries_of}
use Rattle.tup_table.specs.Reading.{opened_of, ReadsAs, AreaReadsAs, FindsAs, WasFound, opened_by}
use Rattle.tup_table.specs.declared.compacting.Snapshot.{Snapshot}
use Rattle.tup_table.specs.declared.found.Found.{Found}
use Rattle.tup_table.specs.declared.found.Found.TheVariants.{Low, High}
use Rattle.tup_table.specs.declared.opened.Opened.{Opened}
use Rattle.tup_table.specs.declared.change.Change.{Change}
use Rattle.tup_table.specs.declared.fault.TableFault.{TableFault}
use Rattle.tup_table.specs.declared.fault.TableFault.TheVariants.{NotThere, BadStore, Site, Full, Memory}
use Rattle.tup_table.proofs.Apart.{all_more, last_out, many_one}
use Rattle.tup_table.proofs.Fronts.{payload_not, blocks_apart, block, end_no_block, broken_no_block, end_not_broken}

-- ---- an area is read in one way
follow_one : (area : List ℕ) (cs ds : List (List Change)) (r s : List ℕ) → Follows area cs r → Follows area ds s → NoFront CommitFits block r → NoFront CommitFits block s → (cs ≡ ds) × (r ≡ s)
follow_one area cs ds r s f g nr ns = many_one block CommitFits blocks_apart cs ds r s f.fits g.fits nr ns (sym f.whole ∙ g.whole)

pub area_one : (area : List ℕ) (cs ds : List (List Change)) → IsArea area cs → IsArea area ds → cs ≡ ds
area_one area cs ds x y = (follow_one area cs ds x.0 y.0 x.1 y.1 (end_no_block x.0 x.2) (end_no_block y.0 y.2)).0

pub area_not_broken : (area : List ℕ) (cs ds : List (List Change)) → IsArea area cs → BreaksBehind area ds → ⊥
area_not_broken area cs ds x y =
    let same = follow_one area cs ds x.0 y.0 x.1 y.1 (end_no_block x.0 x.2) (broken_no_block y.0 y.2) in
    end_not_broken y.0 (subst IsEnd same.1 x.2) y.2

breaks_one : (area : List ℕ) (cs ds : List (List Change)) → BreaksBehind area cs → BreaksBehind area ds → cs ≡ ds
breaks_one area cs ds x y = (follow_one area cs ds x.0 y.0 x.1 y.1 (broken_no_block x.0 x.2) (broken_no_block y.0 y.2)).0

-- ---- a store has one head
pub parts_one : (bytes head low other behind : List ℕ) → HasHead bytes head low → HasHead bytes other behind → (head ≡ other) × (low ≡ behind)
parts_one bytes head low other behind x y =
    let e : head ++ low ≡ other ++ behind = sym x.whole ∙ y.whole in (
      sym (take_at head low 17 x.is_head.long) ∙ ap (take 17) e ∙ take_at other behind 17 y.is_head.long,
      sym (drop_at head low 17 x.is_head.long) ∙ ap (drop 17) e ∙ drop_at other behind 17 y.is_head.long,
    )

-- bytes that have none
pub too_short : (bytes : List ℕ) → length bytes < 17 → (head low : List ℕ) → HasHead bytes head low → ⊥
too_short bytes short head low parts =
    let long = ap length parts.whole ∙ length-append head low in
    omega (arith, short, long, parts.is_head.long)

pub other_first : (bytes front : List ℕ) → front ≡ take 17 bytes → (take 8 front ≢ first_bytes) → (head low : List ℕ) → HasHead bytes head low → ⊥
other_first bytes front cut differs head low parts =
    let same : front ≡ head = cut ∙ ap (take 17) parts.whole ∙ take_at head low 17 parts.is_head.long in
    differs (ap (take 8) same ∙ parts.is_head.first)

-- what is said of a store, by any head that it has
abbrev LowAs : List ℕ → List ℕ → List (List Change) → Type 0
LowAs head low cs = (switch_of head ≢ 1) × IsArea low cs

abbrev HighAs : List ℕ → List ℕ → List (List Change) → Type 0
HighAs head low cs = (switch_of head ≡ 1) × HasStart head low × IsArea (high_area head low) cs × HasRoomBelow (start_of head) cs

abbrev BrokenLowAs : List ℕ → List ℕ → ℕ → Type 0
BrokenLowAs head low offset = (closed : switch_of head ≢ 1) × (cs : List (List Change)) × BreaksBehind low cs × (offset ≡ 17 + length (blocks cs))

abbrev BrokenHighAs : List ℕ → List ℕ → ℕ → Type 0
BrokenHighAs head low offset = (switch_of head ≡ 1) × IsBadHigh head low offset

module _ (bytes head low : List ℕ) (parts : HasHead bytes head low) where
  carried : (P : List ℕ → List ℕ → Type 0) (other behind : List ℕ) → HasHead bytes other behind → P other behind → P head low
  carried P other behind there holds =
      let same = parts_one bytes other behind head low there parts in
      subst (λ (h : List ℕ). P h low) same.0 (subst (λ (l : List ℕ). P other l) same.1 holds)

  pub low_as : (cs : List (List Change)) → IsLow bytes cs → LowAs head low cs
  low_as cs store = carried (λ h l. LowAs h l cs) store.head store.low store.parts (store.closed, store.area)

  pub high_as : (cs : List (List Change)) → IsHigh bytes cs → HighAs head low cs
  high_as cs store = carried (λ h l. HighAs h l cs) store.head store.low store.parts (store.switched, store.start, store.area, store.room)

  broken_low_as : (offset : ℕ) → IsBrokenLow bytes offset → BrokenLowAs head low offset
  broken_low_as offset bad = carried (λ h l. BrokenLowAs h l offset) bad.head bad.low bad.parts (bad.closed, bad.commits, bad.breaks, bad.place)

  broken_high_as : (offset : ℕ) → IsBrokenHigh bytes offset → BrokenHighAs head low offset
  broken_high_as offset bad = carried (λ h l. BrokenHighAs h l offset) bad.head bad.low bad.parts (bad.switched, bad.bad)

-- ---- one reading of a store
pub store_one : (bytes : List ℕ) (cs ds : List (List Change)) → IsStore bytes cs → IsStore bytes ds → cs ≡ ds
store_one bytes cs ds (inl x) (inl y) = area_one x.low cs ds x.area (low_as bytes x.head x.low x.parts ds y).1
store_one bytes cs ds (inl x) (inr y) = absurd (x.closed (high_as bytes x.head x.low x.parts y.0 y.1).0)
store_one bytes cs ds (inr x) (inl y) = absurd (y.closed (high_as bytes y.head y.low y.parts x.0 x.1).0)
store_one bytes cs ds (inr x) (inr y) =
    let same = area_one (high_area x.1.head x.1.low) x.0 y.0 x.1.area (high_as bytes x.1.head x.1.low x.1.parts y.0 y.1).2 in
    x.2 ∙ ap (λ (high : List (List Change)). compacted (entries_of high)) same ∙ sym y.2

no_parts : (head low : List ℕ) → ¬ HasHead [] head low
no_parts head low parts =
    let long = ap length parts.whole ∙ length-append head low in
    omega (arith, long, parts.is_head.long)

pub not_empty : (commits : List (List Change)) → ¬ IsStore [] commits
not_empty commits (inl x) = no_parts x.head x.low x.parts
not_empty commits (inr x) = no_parts x.1.head x.1.low x.1.parts

high_not_bad : (head low : List ℕ) (cs : List (List Change)) (offset : ℕ) → HighAs head low cs → ¬ IsBadHigh head low offset
high_not_bad head low cs offset high (inl x) = x.0 high.1
high_not_bad head low cs offset high (inr (inl x)) = area_not_broken (high_area head low) cs x.1 high.2 x.2
high_not_bad head low cs offset high (inr (inr x)) =
    x.3 (subst (HasRoomBelow (start_of head)) (area_one (high_area head low) cs x.1 high.2 x.2) high.3)

store_not_damaged : (bytes : List ℕ) (cs : List (List Change)) (offset : ℕ) → IsStore bytes cs → IsDamaged bytes offset → ⊥
store_not_damaged bytes cs offset (inl x) (inl bare) = bare.0.1 x.head x.low x.parts
store_not_damaged bytes cs offset (inl x) (inr (inl bad)) = let told = broken_low_as bytes x.head x.low x.parts offset bad in area_not_broken x.low cs told.1 x.area told.2
store_not_damaged bytes cs offset (inl x) (inr (inr bad)) = x.closed (broken_high_as bytes x.head x.low x.parts offset bad).0
store_not_damaged bytes cs offset (inr x) (inl bare) = bare.0.1 x.1.head x.1.low x.1.parts
store_not_damaged bytes cs offset (inr x) (inr (inl bad)) = (broken_low_as bytes x.1.head x.1.low x.1.parts offset bad).0 x.1.switched
store_not_damaged bytes cs offset (inr x) (inr (inr bad)) =
    let h = x.1 in
    high_not_bad h.head h.low x.0 offset (h.switched, h.start, h.area, h.room) (broken_high_as bytes h.head h.low h.parts offset bad).1

damaged_some : (offset : ℕ) → ¬ IsDamaged [] offset
damaged_some offset (inl bare) = bare.0.0 refl
damaged_some offset (inr (inl bad)) = no_parts bad.head bad.low bad.parts
damaged_some offset (inr (inr bad)) = no_parts bad.head bad.low bad.parts

bad_one : (head low : List ℕ) (o p : ℕ) → IsBadHigh head low o → IsBadHigh head low p → o ≡ p
bad_one head low o p (inl x) (inl y) = x.1 ∙ sym y.1
bad_one head low o p (inl x) (inr (inl y)) = absurd (x.0 y.0)
bad_one head low o p (inl x) (inr (inr y)) = absurd (x.0 y.0)
bad_one head low o p (inr (inl x)) (inl y) = absurd (y.0 x.0)
bad_one head low o p (inr (inl x)) (inr (inl y)) =
    x.3 ∙ ap (λ (cs : List (List Change)). start_of head + length (blocks cs)) (breaks_one (high_area head low) x.1 y.1 x.2 y.2) ∙ sym y.3
bad_one head low o p (inr (inl x)) (inr (inr y)) = absurd (area_not_broken (high_area head low) y.1 x.1 y.2 x.2)
bad_one head low o p (inr (inr x)) (inl y) = absurd (y.0 x.0)
bad_one head low o p (inr (inr x)) (inr (inl y)) = absurd (area_not_broken (high_area head low) x.1 y.1 x.2 y.2)
bad_one head low o p (inr (inr x)) (inr (inr y)) = x.4 ∙ sym y.4

damaged_one : (bytes : List ℕ) (o p : ℕ) → IsDamaged bytes o → IsDamaged bytes p → o ≡ p
damaged_one bytes o p (inl x) (inl y) = x.1 ∙ sym y.1
damaged_one bytes o p (inl x) (inr (inl y)) = absurd (x.0.1 y.head y.low y.parts)
damaged_one bytes o p (inl x) (inr (inr y)) = absurd (x.0.1 y.head y.low y.parts)
damaged_one bytes o p (inr (inl x)) (inl y) = absurd (y.0.1 x.head x.low x.parts)
damaged_one bytes o p (inr (inl x)) (inr (inl y)) =
    let told = broken_low_as bytes x.head x.low x.parts p y in
    x.place ∙ ap (λ (cs : List (List Change)). 17 + length (blocks cs)) (breaks_one x.low x.commits told.1 x.breaks told.2) ∙ sym told.3
damaged_one bytes o p (inr (inl x)) (inr (inr y)) = absurd (x.closed (broken_high_as bytes x.head x.low x.parts p y).0)
damaged_one bytes o p (inr (inr x)) (inl y) = absurd (y.0.1 x.head x.low x.parts)
damaged_one bytes o p (inr (inr x)) (inr (inl y)) = absurd (y.closed (broken_high_as bytes y.head y.low y.parts o x).0)
damaged_one bytes o p (inr (inr x)) (inr (inr y)) = bad_one x.head x.low o p x.bad (broken_high_as bytes x.head x.low x.parts p y).1

-- bytes read as one thing alone
pub reads_one : (bytes : List ℕ) (x y : Result Opened TableFault) → ReadsAs bytes x → ReadsAs bytes y → x ≡ y
reads_one bytes (Ok a) (Ok b) x y =
    ap (λ (o : Opened). Ok o) (x.2 ∙ ap opened_of (store_one bytes x.0 y.0 x.1 y.1) ∙ sym y.2)
reads_one bytes (Ok a) (Err NotThere) x y = absurd (not_empty x.0 (subst (λ (t : List ℕ). IsStore t x.0) y x.1))
reads_one bytes (Ok a) (Err (BadStore offset)) x y = absurd (store_not_damaged bytes x.0 offset x.1 y)
reads_one bytes (Ok a) (Err Site) x y = absurd y
reads_one bytes (Ok a) (Err Full) x y = absurd y
reads_one bytes (Ok a) (Err Memory) x y = absurd y
reads_one bytes (Err NotThere) (Ok b) x y = absurd (not_empty y.0 (subst (λ (t : List ℕ). IsStore t y.0) x y.1))
reads_one bytes (Err NotThere) (Err NotThere) x y = refl
reads_one bytes (Err NotThere) (Err (BadStore offset)) x y = absurd (damaged_some offset (subst (λ (t : List ℕ). IsDamaged t offset) x y))
reads_one bytes (Err NotThere) (Err Site) x y = absurd y
reads_one bytes (Err NotThere) (Err Full) x y = absurd y
reads_one bytes (Err NotThere) (Err Memory) x y = absurd y
reads_one bytes (Err (BadStore offset)) (Ok b) x y = absurd (store_not_damaged bytes y.0 offset y.1 x)
reads_one bytes (Err (BadStore offset)) (Err NotThere) x y = absurd (damaged_some offset (subst (λ (t : List ℕ). IsDamaged t offset) y x))
reads_one bytes (Err (BadStore o)) (Err (BadStore p)) x y = ap (λ (offset : ℕ). Err (BadStore offset)) (damaged_one bytes o p x y)
reads_one bytes (Err (BadStore offset)) (Err Site) x y = absurd y
reads_one bytes (Err (BadStore offset)) (Err Full) x y = absurd y
reads_one bytes (Err (BadStore offset)) (Err Memory) x y = absurd y
reads_one bytes (Err Site) y x z = absurd x
reads_one bytes (Err Full) y x z = absurd x
reads_one bytes (Err Memory) y x z = absurd x

-- ---- the entries that one more change, or one more commit, leaves
pub committed-push : (origin : ℕ) (entries : Standing) (cs : List Change) (c : Change) → committed origin entries (cs ++ c ∷ []) ≡ changed origin (committed origin entries cs) c
committed-push origin entries [] c = refl
committed-push origin entries (d ∷ cs) c = committed-push origin (changed origin entries d) cs c

pub length-blocks : (d : List Change) (ds : List (List Change)) → length (blocks (d ∷ ds)) ≡ (1 + length (commit d)) + length (blocks ds)
length-blocks d ds = let long = ap length (flat_map-cons block d ds) ∙ length-append (block d) (blocks ds) in omega (arith, long)

left_from-push : (gate at : ℕ) (entries : Standing) (cs : List (List Change)) (c : List Change) → at ≡ gate + length (blocks cs) → left_from gate entries (cs ++ c ∷ []) ≡ committed at (left_from gate entries cs) c
left_from-push gate at entries [] c e = let same : gate ≡ at = omega arith in ap (λ (g : ℕ). committed g entries c) same
left_from-push gate at entries (d ∷ cs) c e =
    left_from-push (gate + (1 + length (commit d))) at (committed gate entries d) cs c (omega (arith, length-blocks d cs))

pub entries_push : (commits : List (List Change)) (changes : List Change) → entries_of (commits ++ changes ∷ []) ≡ committed (length (header ++ blocks commits)) (entries_of commits) changes
entries_push commits changes = left_from-push 17 (length (header ++ blocks commits)) [] commits changes (omega arith)

-- ---- how far the changes of a commit were read
pub record ReadTo (origin : ℕ) (before : Standing) (bytes rest : List ℕ) (now : Standing) : Type 0 where
  pub done : List Change
  pub fits : ChangesFit done
  pub front : bytes ≡ payload done ++ rest
  pub left : now ≡ committed origin before done

module _ (origin : ℕ) (before : Standing) (bytes rest : List ℕ) (now : Standing) (so_far : ReadTo origin before bytes rest now) where
  pub read_more : (c : Change) (more : List ℕ) (new : Standing) → Front ChangeFits change_spelling rest c more → new ≡ changed origin now c → ReadTo origin before bytes more new
  read_more c more new front e = record {
    done = so_far.done ++ c ∷ [];
    fits = all_more ChangeFits so_far.done c so_far.fits front.0;
    front = so_far.front ∙ ap (λ (t : List ℕ). payload so_far.done ++ t) front.1 ∙ sym (last_out change_spelling so_far.done c more);
    left = e ∙ ap (λ (s : Standing). changed origin s c) so_far.left ∙ sym (committed-push origin before so_far.done c);
  }

  pub read_not : rest ≢ [] → NoFront ChangeFits change_spelling rest → (changes : List Change) → ChangesFit changes → bytes ≢ payload changes
  read_not some none changes fits e = payload_not so_far.done changes rest so_far.fits fits some none (sym so_far.front ∙ e)

-- ---- how far the commits of an area were read, were it the low one
pub record AreaTo (area rest : List ℕ) (now : Standing) : Type 0 where
  pub done : List (List Change)
  pub fits : AllByRecursion CommitFits done
  pub front : area ≡ blocks done ++ rest
  pub left : now ≡ entries_of done

module _ (start : ℕ) (area rest : List ℕ) (now : Standing) (so_far : AreaTo area rest now) where
  abbrev refused : TableFault → Result Opened TableFault
  refused fault = Err fault

  follows : Follows area so_far.done rest
  follows = record { fits = so_far.fits; whole = so_far.front }

  passed : (from gate : ℕ) → gate ≡ from + (length area - length rest) → gate ≡ from + length (blocks so_far.done)
  passed from gate at =
      let long : length area ≡ length (blocks so_far.done) + length rest = ap length so_far.front ∙ length-append (blocks so_far.done) rest in
      omega arith

  -- all of them
  pub area_read : (gate : ℕ) → gate ≡ start + (length area - length rest) → IsEnd rest → AreaReadsAs start area (Ok (record { entries = now; gate = gate }))
  area_read gate at ends = (so_far.done, (rest, follows, ends), λ i. record { entries = so_far.left i; gate = passed start gate at i })

  module _ (origin gate : ℕ) (low : origin ≡ 17 + (length area - length rest)) (at : gate ≡ start + (length area - length rest)) (inner : List ℕ) (opened : rest ≡ 1 ∷ inner) where
    pub area_more : (changes : List Change) (more : List ℕ) (new : Standing) → Front CommitFits commit inner changes more → new ≡ committed origin now changes → AreaTo area more new
    area_more changes more new front e = record {
      done = so_far.done ++ changes ∷ [];
      fits = all_more CommitFits so_far.done changes so_far.fits front.0;
      front = so_far.front ∙ ap (λ (t : List ℕ). blocks so_far.done ++ t) (opened ∙ ap (λ (t : List ℕ). 1 ∷ t) front.1) ∙ sym (last_out block so_far.done changes more);
      left = e ∙ ap (λ (s : Standing). committed origin s changes) so_far.left ∙ sym (left_from-push 17 origin [] so_far.done changes (passed 17 origin low));
    }

    area_broken : inner ≢ [] → NoFront CommitFits commit inner → AreaReadsAs start area (Err (BadStore gate))
    area_broken some none = (so_far.done, (rest, follows, subst IsBroken (sym opened) (refl, some, none)), passed start gate at)

    pub area_refused : inner ≢ [] → (fault : TableFault) → (fault ≡ Memory) ⊎ ((fault ≡ BadStore gate) × NoFront CommitFits commit inner) → (refused fault ≡ Err Memory) ⊎ AreaReadsAs start area (Err fault)
    area_refused some fault (inl memory) = inl (ap (λ (f : TableFault). Err f) memory)
    area_refused some fault (inr bad) = inr (subst (λ (f : TableFault). AreaReadsAs start area (Err f)) (sym bad.0) (area_broken some bad.1))

-- ---- the head, and the area behind it
low_place : (commits : List (List Change)) → 17 + length (blocks commits) ≡ length (header ++ blocks commits)
low_place commits = omega (arith, length-append header (blocks commits))

-- what the low area was read as
pub opened_low : (opened : Opened) (commits : List (List Change)) → opened ≡ record { entries = entries_of commits; gate = 17 + length (blocks commits) } → opened ≡ opened_of commits
opened_low opened commits is = is ∙ (λ i. record { entries = entries_of commits; gate = low_place commits i })

-- the switch is closed
pub low_finds : (head low : List ℕ) → IsHead head → switch_of head ≢ 1 → (opened : Opened) → AreaReadsAs 17 low (Ok opened) → FindsAs (head ++ low) (Ok (Low opened))
low_finds head low is closed opened reads = (reads.0, record { head = head; low = low; parts = record { is_head = is; whole = refl }; closed = closed; area = reads.1 }, opened_low opened reads.0 reads.2)

pub low_refuses : (head low : List ℕ) → IsHead head → switch_of head ≢ 1 → (fault : TableFault) → AreaReadsAs 17 low (Err fault) → FindsAs (head ++ low) (Err fault)
low_refuses head low is closed NotThere reads = absurd reads
low_refuses head low is closed (BadStore offset) reads =
    inr (inl (record { head = head; low = low; parts = record { is_head = is; whole = refl }; closed = closed; commits = reads.0; breaks = reads.1; place = reads.2 }))
low_refuses head low is closed Site reads = absurd reads
low_refuses head low is closed Full reads = absurd reads
low_refuses head low is closed Memory reads = absurd reads

-- it is open
module _ (head low : List ℕ) (is : IsHead head) (switched : switch_of head ≡ 1) where
  abbrev store_parts : HasHead (head ++ low) head low
  store_parts = record { is_head = is; whole = refl }

  bad_finds : (offset : ℕ) → IsBadHigh head low offset → FindsAs (head ++ low) (Err (BadStore offset))
  bad_finds offset bad = inr (inr (record { head = head; low = low; parts = store_parts; switched = switched; bad = bad }))

  pub start_refused : (start_of head < 18) ⊎ (17 + length low < start_of head) → FindsAs (head ++ low) (Err (BadStore 9))
  start_refused wrong = bad_finds 9 (inl (λ has. ⊎_elim (λ few. omega (arith, few, has.behind)) (λ many. omega (arith, many, has.inside)) wrong, refl))

  module _ (start : HasStart head low) (area : List ℕ) (there : area ≡ high_area head low) where
    pub high_refuses : (fault : TableFault) → AreaReadsAs (start_of head) area (Err fault) → FindsAs (head ++ low) (Err fault)
    high_refuses NotThere reads = absurd reads
    high_refuses (BadStore offset) reads = bad_finds offset (inr (inl (start, reads.0, subst (λ (a : List ℕ). BreaksBehind a reads.0) there reads.1, reads.2)))
    high_refuses Site reads = absurd reads
    high_refuses Full reads = absurd reads
    high_refuses Memory reads = absurd reads

    module _ (opened : Opened) (reads : AreaReadsAs (start_of head) area (Ok opened)) where
      entries_are : opened.entries ≡ entries_of reads.0
      entries_are = ap (λ (o : Opened). o.entries) reads.2

      pub room_refused : (start_of head < live_size opened.entries) ⊎ (most_live < live_size opened.entries) → FindsAs (head ++ low) (Err (BadStore 9))
      room_refused short =
          bad_finds 9
          (inr
          (inr (
            start,
            reads.0,
            subst (λ (a : List ℕ). IsArea a reads.0) there reads.1,
            λ room. ⊎_elim (λ few. omega (arith, few, ap live_size entries_are, room.below)) (λ many. omega (arith, many, ap live_size entries_are, room.small)) short,
            refl,
          )))

      pub high_finds : live_size opened.entries ≤ start_of head → live_size opened.entries ≤ most_live → (snapshot : Snapshot) → snapshot.area ≡ compact_area opened.entries → snapshot.opened ≡ opened_of (compacted opened.entries)
          → FindsAs (head ++ low) (Ok (High snapshot opened.gate))
      high_finds below small snapshot area_is opened_is = (
        reads.0,
        record {
          head = head;
          low = low;
          parts = store_parts;
          switched = switched;
          start = start;
          area = subst (λ (a : List ℕ). IsArea a reads.0) there reads.1;
          room = record { below = omega (arith, below, ap live_size entries_are); small = omega (arith, small, ap live_size entries_are) };
        },
        opened_is ∙ ap (λ (es : Standing). opened_of (compacted es)) entries_are,
        area_is ∙ ap compact_area entries_are,
        ap (λ (o : Opened). o.gate) reads.2,
      )

-- ---- what the calls answer
abbrev pub Finds : List ℕ → Result Found TableFault → Type 0
Finds bytes result = (result ≡ Err Memory) ⊎ FindsAs bytes result

abbrev pub read_so : TableFault → Result Opened TableFault
read_so fault = Err fault

abbrev found_so : TableFault → Result Found TableFault
found_so fault = Err fault

-- for want of memory in a reading
same_memory : (fault : TableFault) → read_so fault ≡ read_so Memory → found_so fault ≡ found_so Memory
same_memory fault memory = let is : fault ≡ Memory = cc in ap found_so is

-- by the head, and by what stands behind it
pub of_head : (bytes head low : List ℕ) → HasHead bytes head low → (result : Result Found TableFault) → Finds (head ++ low) result → Finds bytes result
of_head bytes head low parts result finds = subst (λ (b : List ℕ). Finds b result) (sym parts.whole) finds

pub low_answer : (bytes head low : List ℕ) → HasHead bytes head low → switch_of head ≢ 1 → (opened : Opened) → (Ok opened ≡ Err Memory) ⊎ AreaReadsAs 17 low (Ok opened) → Finds bytes (Ok (Low opened))
low_answer bytes head low parts closed opened (inl memory) = absurd (cc)
low_answer bytes head low parts closed opened (inr reads) = of_head bytes head low parts (Ok (Low opened)) (inr (low_finds head low parts.is_head closed opened reads))

pub low_refusal : (bytes head low : List ℕ) → HasHead bytes head low → switch_of head ≢ 1 → (fault : TableFault) → (read_so fault ≡ Err Memory) ⊎ AreaReadsAs 17 low (Err fault) → Finds bytes (Err fault)
low_refusal bytes head low parts closed fault (inl memory) = inl (same_memory fault memory)
low_refusal bytes head low parts closed fault (inr reads) = of_head bytes head low parts (Err fault) (inr (low_refuses head low parts.is_head closed fault reads))

module _ (head low : List ℕ) (is : IsHead head) (switched : switch_of head ≡ 1) (place : ℕ) (at : place ≡ start_of head) where
  pub start_refusal : (place < 18) ⊎ (17 + length low < place) → Finds (head ++ low) (Err (BadStore 9))
  start_refusal wrong = inr (start_refused head low is switched (subst (λ (n : ℕ). (n < 18) ⊎ (17 + length low < n)) at wrong))

  module _ (behind : 18 ≤ place) (inside : place ≤ 17 + length low) (area : List ℕ) (there : area ≡ drop (place - 17) low) where
    has_start : HasStart head low
    has_start = record { behind = subst (λ (n : ℕ). 18 ≤ n) at behind; inside = subst (λ (n : ℕ). n ≤ 17 + length low) at inside }

    is_area : area ≡ high_area head low
    is_area = there ∙ ap (λ (n : ℕ). drop (n - 17) low) at

    pub high_refusal : (fault : TableFault) → (read_so fault ≡ Err Memory) ⊎ AreaReadsAs place area (Err fault) → Finds (head ++ low) (Err fault)
    high_refusal fault (inl memory) = inl (same_memory fault memory)
    high_refusal fault (inr reads) = inr (high_refuses head low is switched has_start area is_area fault (subst (λ (n : ℕ). AreaReadsAs n area (Err fault)) at reads))

    pub room_refusal : (opened : Opened) → (Ok opened ≡ Err Memory) ⊎ AreaReadsAs place area (Ok opened) → (place < live_size opened.entries) ⊎ (most_live < live_size opened.entries) → Finds (head ++ low) (Err (BadStore 9))
    room_refusal opened (inl memory) short = absurd (cc)
    room_refusal opened (inr reads) short =
        inr
        (room_refused head low is switched has_start area is_area opened (subst (λ (n : ℕ). AreaReadsAs n area (Ok opened)) at reads)
        (subst (λ (n : ℕ). (n < live_size opened.entries) ⊎ (most_live < live_size opened.entries)) at short))

    pub no_room : (live : ℕ) → ¬ ((live ≤ place) × (live ≤ most_live)) → (place < live) ⊎ (most_live < live)
    no_room live none = ⊎_elim (λ below. ⊎_elim (λ small. absurd (none (below.1, small.1))) (λ many. inr many.1) (leb_tells live most_live)) (λ few. inl few.1) (leb_tells live place)

    pub high_answer : (opened : Opened) → (Ok opened ≡ Err Memory) ⊎ AreaReadsAs place area (Ok opened) → live_size opened.entries ≤ place → live_size opened.entries ≤ most_live → (snapshot : Snapshot) → snapshot.area ≡ compact_area opened.entries
        → snapshot.opened ≡ opened_of (compacted opened.entries) → Finds (head ++ low) (Ok (High snapshot opened.gate))
    high_answer opened (inl memory) below small snapshot area_is opened_is = absurd (cc)
    high_answer opened (inr reads) below small snapshot area_is opened_is =
        inr
        (high_finds head low is switched has_start area is_area opened (subst (λ (n : ℕ). AreaReadsAs n area (Ok opened)) at reads)
        (subst (λ (n : ℕ). live_size opened.entries ≤ n) at below) small snapshot area_is opened_is)

-- ---- where a store was read
pub found_reads : (bytes : List ℕ) (found : Found) → WasFound bytes found → ReadsAs bytes (Ok (opened_by found))
found_reads bytes (Low opened) was = (was.0, inl was.1, was.2)
found_reads bytes (High snapshot end) was = (compacted (entries_of was.0), inr (was.0, was.1, refl), was.2)

pub finds_reads : (bytes : List ℕ) (found : Found) → (Ok found ≡ Err Memory) ⊎ FindsAs bytes (Ok found) → ReadsAs bytes (Ok (opened_by found))
finds_reads bytes found (inl memory) = absurd (cc)
finds_reads bytes found (inr was) = found_reads bytes found was

-- why it isn't one
pub refused_reads : (bytes : List ℕ) (fault : TableFault) → (found_so fault ≡ Err Memory) ⊎ FindsAs bytes (Err fault) → (read_so fault ≡ Err Memory) ⊎ ReadsAs bytes (Err fault)
refused_reads bytes fault (inl memory) = let is : fault ≡ Memory = cc in inl (ap read_so is)
refused_reads bytes fault (inr reads) = inr reads

-- what the call answers, and what else the bytes might read as
pub only_reading : (bytes : List ℕ) (result answer : Result Opened TableFault) → (result ≡ Err Memory) ⊎ ReadsAs bytes result → ReadsAs bytes answer → GivesUnless result Memory answer
only_reading bytes result answer (inl memory) other = inl memory
only_reading bytes result answer (inr reads) other = inr (reads_one bytes result answer reads other)
