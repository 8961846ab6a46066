-- The outputs of readings, reading after reading.
use Rattle.std.specs.Prelude.{◌≡◌, ◌≢◌, ◌⊎◌, ℕ, Bool, true, false, Decides, List, [], ◌∷◌, ◌++◌, cond, Option, None, Some, Contains}
use Rattle.std.proofs.Common.{refl, sym, ap, subst, ◌∙◌, inl, inr}
use Rattle.std.specs.BTreeSet.{BTreeSet, contains}
use Rattle.std.specs.FinMap as finite
use Rattle.std.specs.Ordering.{eq_by_cmp}
use Rattle.std.proofs.lemmas.Bool.{true≢false}
use Rattle.std.proofs.lemmas.List.Elements.{Contains-append_left, Contains-push}
use Rattle.std.proofs.lemmas.List.Folds.{Any-from_list_any, list_any-from_Any}
use Rattle.std.proofs.lemmas.Option.{none-some, same_Some}
use Rattle.tup_path.specs.Name.{Names}
use Rattle.tup_path.specs.Order.{by_bytes, by_names, by_names-total}
use Rattle.tup_path.proofs.Same.{by_names-decides}
use Rattle.tup_rule.specs.Rule.{among}
use Rattle.tup_rule.specs.declared.draft.Draft.{Draft}
use Rattle.tup_rule.specs.declared.question.Reading.{Reading}
use Rattle.tup_rule.proofs.Laws.{among-decides}
use Rattle.tup_graph.specs.Answers.{IsDrafted, IsHome, Readings}
use Rattle.tup_graph.specs.Graph.{source}
use Rattle.tup_graph.proofs.Homes.{one_home}
use Rattle.tup_closure.proofs.Members.{in_empty}
use Rattle.tup_scan_diff.specs.Made.{AreMade, AreOutputs, HasOutput, IsGiven, makes}
use Rattle.tup_scan_diff.specs.Names.{IsDraftedIn, IsOutputIn}
use Rattle.tup_scan_diff.specs.Present.{graph_of}
use Rattle.tup_scan_diff.specs.Sets.{GrowsBy}
use Rattle.tup_scan_diff.specs.declared.made.Made.{Made}
use Rattle.tup_scan_diff.specs.declared.present.Present.{Present}
use Rattle.tup_scan_diff.proofs.Editing.{found_entry}
use Rattle.tup_scan_diff.proofs.Sets.{set_as, set_stays}

-- ---- of some readings

-- the set that is kept of a folder has the outputs of one of some readings, which is the folder's
abbrev pub AreMadeOf : List (Names × Reading) → Made → Type 0
AreMadeOf entries made = (dir : Names) (set : BTreeSet Names) → finite.get made.outputs dir ≡ Some set → (reading : Reading) × Contains entries (dir, reading) × AreOutputs reading.drafts set

pub none_made : (made : Made) → made.outputs ≡ finite.empty → AreMadeOf [] made
none_made made empty dir set there = absurd (none-some set (sym (finite.get-empty by_names dir) ∙ sym (ap (λ (m : finite.FinMap by_names (BTreeSet Names)). finite.get m dir) empty) ∙ there))

pub all_made : (readings : Readings) (made : Made) → AreMadeOf (finite.entries readings) made → AreMade readings made
all_made readings made all dir set there = let (reading, h, outputs) = all dir set there in (reading, found_entry readings dir reading h, outputs)

-- one reading more
module _ (entries : List (Names × Reading)) (dir : Names) (reading : Reading) (old new : Made) (before : AreMadeOf entries old) where
  abbrev more : List (Names × Reading)
  more = entries ++ (dir, reading) ∷ []

  kept : (d : Names) (set : BTreeSet Names) → finite.get old.outputs d ≡ Some set → (r : Reading) × Contains more (d, r) × AreOutputs r.drafts set
  kept d set there = let (r, h, outputs) = before d set there in (r, Contains-append_left entries ((dir, reading) ∷ []) (d, r) h, outputs)

  given_more : IsGiven dir reading.drafts old new → AreMadeOf more new
  given_more given d set there = either (eq_by_cmp by_names d dir) refl
    where
      found : (b : Bool) → eq_by_cmp by_names d dir ≡ b → finite.get new.outputs d ≡ cond b (Some given.0) (finite.get old.outputs d)
      found b is =
          ap (λ (m : finite.FinMap by_names (BTreeSet Names)). finite.get m d) given.2 ∙ finite.get-insert by_names-total old.outputs dir given.0 d
          ∙ ap (λ (c : Bool). cond c (Some given.0) (finite.get old.outputs d)) is

      either : (b : Bool) → eq_by_cmp by_names d dir ≡ b → (r : Reading) × Contains more (d, r) × AreOutputs r.drafts set
      either true is =
          let here : d ≡ dir = (by_names-decides d dir).0 is in
          let same : given.0 ≡ set = same_Some given.0 set (sym (found true is) ∙ there) in (
            reading,
            subst (λ (q : Names). Contains more (q, reading)) (sym here) (Contains-push entries (dir, reading)),
            subst (AreOutputs reading.drafts) same given.1,
          )
      either false is = kept d set (sym (found false is) ∙ there)

  pub made_more : (new ≡ old) ⊎ IsGiven dir reading.drafts old new → AreMadeOf more new
  made_more (inl same) = λ d set there. kept d set (subst (λ (m : Made). finite.get m.outputs d ≡ Some set) same there)
  made_more (inr given) = given_more given

-- a set that was empty before
pub outputs_set : (drafts : List Draft) (empty all : BTreeSet Names) → empty.keys ≡ [] → GrowsBy by_names (IsDrafted drafts) empty all → AreOutputs drafts all
outputs_set drafts empty all none grows path = (
  λ h. elim (grows.keys.only path h) [ inl before ↦ absurd (true≢false (sym before ∙ in_empty by_names by_names-decides empty path none)) | inr is ↦ is ],
  λ is. grows.keys.all path is,
)

-- ---- what is looked up

-- a path is an output of some drafts where one of them makes it
pub makes-decides : (path : Names) (drafts : List Draft) → Decides (makes path drafts) (IsDrafted drafts path)
makes-decides path drafts = (
  λ e.
      let found = Any-from_list_any (λ (draft : Draft). among path draft.outputs) drafts e in
      (found.1, (found.0, found.2, found.3), (among-decides path found.1.outputs).0 found.4),
  λ (draft, h, has). list_any-from_Any (λ (draft : Draft). among path draft.outputs) drafts (h.0, draft, h.1, h.2, (among-decides path draft.outputs).1 has),
)

-- a path that is looked for in the set that is kept of a folder
pub kept_decides : (readings : Readings) (made : Made) → AreMade readings made → (dir path : Names) (set : BTreeSet Names) (b : Bool) → Some set ≡ finite.get made.outputs dir → b ≡ contains by_names set path
    → Decides b (HasOutput readings dir path)
kept_decides readings made are dir path set b here is =
    let (reading, kept, outputs) = are dir set (sym here) in (
      λ e. (reading, kept, (outputs path).0 (sym is ∙ e)),
      λ (r, there, has).
          let same : r ≡ reading = same_Some r reading (sym there ∙ kept) in
          is ∙ (outputs path).1 (subst (λ (x : Reading). IsDrafted x.drafts path) same has),
    )

module _ (readings : Readings) (dir path : Names) where
  -- one that is looked for in the reading of its folder
  pub read_decides : (reading : Reading) (drafts : List Draft) (b : Bool) → Some reading ≡ finite.get readings dir → drafts ≡ reading.drafts → b ≡ makes path drafts → Decides b (HasOutput readings dir path)
  read_decides reading drafts b here same is =
      let decides : Decides (makes path reading.drafts) (IsDrafted reading.drafts path) = makes-decides path reading.drafts in
      let said : b ≡ makes path reading.drafts = is ∙ ap (makes path) same in (
        λ e. (reading, sym here, decides.0 (sym said ∙ e)),
        λ (r, there, has). said ∙ decides.1 (subst (λ (x : Reading). IsDrafted x.drafts path) (same_Some r reading (sym there ∙ sym here)) has),
      )

  pub unread_decides : None ≡ finite.get readings dir → Decides false (HasOutput readings dir path)
  unread_decides none = (λ e. absurd (true≢false (sym e)), λ (r, there, has). absurd (none-some r (none ∙ there)))

-- ---- the outputs that a reading is told of in a folder

module _ (present : Present) (reader dir : Names) where
  -- none where the home of the folder isn't another folder
  pub no_outputs : (a : BTreeSet (List ℕ)) → ((home : Names) → IsHome (source (graph_of present)) dir home → home ≢ reader → ⊥) → GrowsBy by_bytes (IsOutputIn present reader dir) a a
  no_outputs a none = set_stays a (λ name (home, at, apart, out). none home at apart)

  module _ (home : Names) (at : IsHome (source (graph_of present)) dir home) (apart : home ≢ reader) where
    kept_at : (other : Names) (reading : Reading) → IsHome (source (graph_of present)) dir other → finite.get present.nodes.now.readings other ≡ Some reading → finite.get present.nodes.now.readings home ≡ Some reading
    kept_at other reading other_at = subst (λ (h : Names). finite.get present.nodes.now.readings h ≡ Some reading) (one_home (source (graph_of present)) dir other home other_at at)

    pub outputs_there : (reading : Reading) (drafts : List Draft) (a b : BTreeSet (List ℕ)) → Some reading ≡ finite.get present.nodes.now.readings home → drafts ≡ reading.drafts
        → GrowsBy by_bytes (IsDraftedIn drafts dir) a b → GrowsBy by_bytes (IsOutputIn present reader dir) a b
    outputs_there reading drafts a b here same = set_as to from
      where
        to : (name : List ℕ) → IsDraftedIn drafts dir name → IsOutputIn present reader dir name
        to name drafted = (
          home,
          at,
          apart,
          record { reading = reading; kept = sym here; has_tupfile = at.has_tupfile; drafted = subst (λ (l : List Draft). IsDraftedIn l dir name) same drafted },
        )

        from : (name : List ℕ) → IsOutputIn present reader dir name → IsDraftedIn drafts dir name
        from name (other, other_at, other_apart, out) =
            let its : out.reading ≡ reading = same_Some out.reading reading (sym (kept_at other out.reading other_at out.kept) ∙ sym here) in
            subst (λ (l : List Draft). IsDraftedIn l dir name) (sym same) (subst (λ (x : Reading). IsDraftedIn x.drafts dir name) its out.drafted)

    pub outputs_nowhere : (a : BTreeSet (List ℕ)) → None ≡ finite.get present.nodes.now.readings home → GrowsBy by_bytes (IsOutputIn present reader dir) a a
    outputs_nowhere a none = set_stays a (λ name (other, other_at, other_apart, out). none-some out.reading (none ∙ kept_at other out.reading other_at out.kept))
