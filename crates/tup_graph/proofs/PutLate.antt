-- Records that a graph takes last: they may come in either order.
use Rattle.std.proofs.Common.{◌≡◌, ◌≢◌, ◌⊎◌, ℕ, true, List, [], ◌∷◌, ◌++◌, refl, sym, ap, subst, ◌∙◌, inl, inr}
use Rattle.std.specs.List.{AllByRecursion}
use Rattle.tup_record.specs.declared.record.Record.{Record}
use Rattle.tup_record.specs.Spelling.{key_of}
use Rattle.tup_table.specs.declared.entry.Entry.{Entry}
use Rattle.tup_table.specs.Entries.{Standing, IsAscending}
use Rattle.tup_graph.specs.declared.edit.Edit.TheVariants.{Put}
use Rattle.tup_graph.specs.declared.fault.GraphFault.{GraphFault}
use Rattle.tup_graph.specs.declared.fault.GraphFault.TheVariants.{BadStore, Memory as GraphMemory}
use Rattle.tup_graph.specs.declared.late.Late.{Late}
use Rattle.tup_graph.specs.declared.late.Late.TheVariants.{Seen, Owned}
use Rattle.tup_graph.specs.Edits.{IsBesideRules}
use Rattle.tup_graph.specs.Graph.{GraphState, empty_graph}
use Rattle.tup_graph.specs.Late.{late_record, with_late, IsHeld, AreApart}
use Rattle.tup_graph.specs.Opening.{fits, put, Takes, IsGraphOf, IsBroken}
use Rattle.tup_graph.proofs.Leading.{ComeAfter, less_differs}
use Rattle.tup_graph.proofs.Marks.{fits_by}
use Rattle.tup_graph.proofs.Opened.{IsSoFar, none_yet, one_more, all_read, read_refused}
use Rattle.tup_graph.proofs.Slots.{away}

abbrev late_key : Late → List ℕ
late_key late = key_of (late_record late)

-- all have other keys than this one
abbrev AreElsewhere : List ℕ → List Late → Type 0
AreElsewhere key late = AllByRecursion (λ (one : Late). late_key one ≢ key) late

late_beside : (one : Late) → IsBesideRules (late_record one)
late_beside (Seen path stamp) = tt
late_beside (Owned path owned) = tt

-- a record under another key may be put in before them or after them
late_after : (g : GraphState) (r : Record) (late : List Late) → AreElsewhere (key_of r) late → with_late (put g r) late ≡ put (with_late g late) r
late_after g r [] others = refl
late_after g r (one ∷ late) others =
    ap (λ (h : GraphState). with_late h late) (away g (Put (late_record one)) r (late_beside one) others.0) ∙ late_after (put g (late_record one)) r late others.1

one_behind : (g : GraphState) (late : List Late) (one : Late) → with_late g (late ++ one ∷ []) ≡ put (with_late g late) (late_record one)
one_behind g [] one = refl
one_behind g (first ∷ late) one = one_behind (put g (late_record first)) late one

-- ---- one more at the end, or one less
all_more : (P : Late → Type 0) (late : List Late) (one : Late) → AllByRecursion P late → P one → AllByRecursion P (late ++ one ∷ [])
all_more P [] one all last = (last, tt)
all_more P (first ∷ late) one all last = (all.0, all_more P late one all.1 last)

all_less : (P : Late → Type 0) (late : List Late) (one : Late) → AllByRecursion P (late ++ one ∷ []) → AllByRecursion P late × P one
all_less P [] one all = (tt, all.0)
all_less P (first ∷ late) one all = let rest = all_less P late one all.1 in ((all.0, rest.0), rest.1)

apart_more : (late : List Late) (one : Late) → AreApart late → AreElsewhere (late_key one) late → AreApart (late ++ one ∷ [])
apart_more [] one apart others = (tt, tt)
apart_more (first ∷ late) one apart others =
    (all_more (λ (other : Late). late_key first ≢ late_key other) late one apart.0 others.0, apart_more late one apart.1 others.1)

apart_less : (late : List Late) (one : Late) → AreApart (late ++ one ∷ []) → AreApart late × AreElsewhere (late_key one) late
apart_less [] one apart = (tt, tt)
apart_less (first ∷ late) one apart =
    let rest = apart_less late one apart.1 in
    let these = all_less (λ (other : Late). late_key first ≢ late_key other) late one apart.0 in
    ((these.0, rest.0), (these.1, rest.1))

-- the last one is put in, and the others are left
pub last_put : (g now next : GraphState) (all late front : List Late) (one : Late) (r : Record)
    → late ≡ front ++ one ∷ [] → r ≡ late_record one → next ≡ put now r → AreApart late → with_late now late ≡ with_late g all
    → AreApart front × (with_late next front ≡ with_late g all)
last_put g now next all late front one r last is made apart same =
    let both = apart_less front one (subst AreApart last apart) in (
      both.0,
      ap (λ (h : GraphState). with_late h front) (made ∙ ap (put now) is) ∙ late_after now (late_record one) front both.1
          ∙ sym (one_behind now front one) ∙ ap (with_late now) (sym last) ∙ same,
    )

-- ---- fitting doesn't look at them
late_rules : (g : GraphState) (late : List Late) → ((with_late g late).rules ≡ g.rules) × ((with_late g late).places ≡ g.places)
late_rules g [] = (refl, refl)
late_rules g ((Seen path stamp) ∷ late) = late_rules (put g (late_record (Seen path stamp))) late
late_rules g ((Owned path owned) ∷ late) = late_rules (put g (late_record (Owned path owned))) late

late_fits : (g : GraphState) (late : List Late) (r : Record) → fits (with_late g late) r ≡ fits g r
late_fits g late r = let same = late_rules g late in fits_by (with_late g late) g same.0 same.1 r

-- ---- the loop: the entries that are left come after all that are held
abbrev pub ComeBefore : List Late → Standing → Type 0
ComeBefore late left = AllByRecursion (λ (one : Late). ComeAfter (late_key one) left) late

pub record IsLoading (entries left : Standing) (g : GraphState) (late : List Late) : Type 0 where
  pub so_far : IsSoFar entries left (with_late g late)
  pub ascending : IsAscending left
  pub apart : AreApart late
  pub before : ComeBefore late left

pub none_loaded : (entries : Standing) (g : GraphState) (late : List Late) → g ≡ empty_graph → late ≡ [] → IsAscending entries → IsLoading entries entries g late
none_loaded entries g late none no_late up = record {
  so_far = none_yet entries (with_late g late) (ap (with_late g) no_late ∙ none);
  ascending = up;
  apart = subst AreApart (sym no_late) tt;
  before = subst (λ (l : List Late). ComeBefore l entries) (sym no_late) tt;
}

others_before : (x : List ℕ × Entry) (rest : Standing) (r : Record) (late : List Late) → x.0 ≡ key_of r → ComeBefore late (x ∷ rest) → AreElsewhere (key_of r) late
others_before x rest r [] key before = tt
others_before x rest r (one ∷ late) key before =
    (subst (λ (t : List ℕ). late_key one ≢ t) key (less_differs (late_key one) x.0 before.0.0), others_before x rest r late key before.1)

further : (x : List ℕ × Entry) (rest : Standing) (late : List Late) → ComeBefore late (x ∷ rest) → ComeBefore late rest
further x rest [] before = tt
further x rest (one ∷ late) before = (before.0.1, further x rest late before.1)

pub one_loaded : (entries left rest : Standing) (x : List ℕ × Entry) (g next : GraphState) (late later : List Late) (r : Record)
    → IsLoading entries left g late → left ≡ x ∷ rest → Takes g x r → IsHeld r g late next later → IsLoading entries rest next later
one_loaded entries left rest x g next late later r loading first takes held =
    loaded (subst IsAscending first loading.ascending) (subst (ComeBefore late) first loading.before) held
  where
    still : Takes (with_late g late) x r
    still = (takes.0, late_fits g late r ∙ takes.1)

    loaded : IsAscending (x ∷ rest) → ComeBefore late (x ∷ rest) → IsHeld r g late next later → IsLoading entries rest next later
    loaded up before (inl at_once) =
        let others = others_before x rest r late takes.0.1 before in
        let is = ap (λ (h : GraphState). with_late h later) at_once.0 ∙ ap (with_late (put g r)) at_once.1 ∙ late_after g r late others in
        record {
          so_far = one_more entries left rest x (with_late g late) (with_late next later) r loading.so_far first still is;
          ascending = up.1;
          apart = subst AreApart (sym at_once.1) loading.apart;
          before = subst (λ (l : List Late). ComeBefore l rest) (sym at_once.1) (further x rest late before);
        }
    loaded up before (inr behind) =
        let others = others_before x rest r late takes.0.1 before in
        let is =
        ap (λ (h : GraphState). with_late h later) behind.1 ∙ ap (with_late g) behind.3 ∙ one_behind g late behind.0 ∙ ap (put (with_late g late)) (sym behind.2) in
        record {
          so_far = one_more entries left rest x (with_late g late) (with_late next later) r loading.so_far first still is;
          ascending = up.1;
          apart = subst AreApart (sym behind.3) (apart_more late behind.0 loading.apart (subst (λ (t : Record). AreElsewhere (key_of t) late) behind.2 others));
          before =
              subst (λ (l : List Late). ComeBefore l rest) (sym behind.3)
              (all_more (λ (one : Late). ComeAfter (late_key one) rest) late behind.0 (further x rest late before)
              (subst (λ (t : List ℕ). ComeAfter t rest) (takes.0.1 ∙ ap key_of behind.2) up.0));
        }

pub all_loaded : (entries left : Standing) (g end : GraphState) (late : List Late) → IsLoading entries left g late → left ≡ [] → end ≡ with_late g late → IsGraphOf entries end
all_loaded entries left g end late loading none is = subst (IsGraphOf entries) (sym is) (all_read entries left (with_late g late) loading.so_far none)

pub load_refused : (entries left rest : Standing) (x : List ℕ × Entry) (g : GraphState) (late : List Late) → IsLoading entries left g late → left ≡ x ∷ rest → (fault : GraphFault)
    → (fault ≡ GraphMemory) ⊎ ((fault ≡ BadStore x.1.origin) × ((r : Record) → Takes g x r → ⊥)) → (fault ≡ GraphMemory) ⊎ ((offset : ℕ) × (fault ≡ BadStore offset) × IsBroken entries offset)
load_refused entries left rest x g late loading first fault (inl memory) = inl memory
load_refused entries left rest x g late loading first fault (inr bad) =
    read_refused entries left rest x (with_late g late) loading.so_far first fault
    (inr (bad.0, λ r takes. bad.1 r (takes.0, sym (late_fits g late r) ∙ takes.1)))
