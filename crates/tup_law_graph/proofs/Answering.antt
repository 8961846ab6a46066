-- Answers to a reading can't be other than refuted or right; and more known contents change none of them.
use Rattle.std.specs.Prelude.{◌≡◌, ◌⊎◌, Bool, true, false, List, ℕ, [], ◌∷◌, ◌++◌, Option, None, Some, Ok, Err, Result, Contains, cond, is_some, option_to_list}
use Rattle.std.proofs.Common.{refl, sym, ap, ap₂, subst, ◌∙◌, inl, inr, append_assoc}
use Rattle.std.specs.FinMap as finite
use Rattle.std.proofs.lemmas.Bool.{false≢true}
use Rattle.std.proofs.lemmas.List.{append-nil}
use Rattle.std.proofs.lemmas.Option.{same_Some}
use Rattle.tup_path.specs.Name.{Names, Content}
use Rattle.tup_path.specs.Order.{by_names}
use Rattle.tup_path.specs.Tree.{IsBelow}
use Rattle.tup_path.proofs.Same.{by_names-decides}
use Rattle.tup_stamp.specs.declared.Stamp.{Stamp}
use Rattle.tup_stamp.specs.Stamp.{stamp}
use Rattle.tup_rule.specs.declared.draft.Draft.{Draft}
use Rattle.tup_rule.specs.declared.question.Kind.{Kind}
use Rattle.tup_rule.specs.declared.question.Kind.TheVariants.{Nothing, File, Dir}
use Rattle.tup_rule.specs.declared.question.Noted.{Noted}
use Rattle.tup_rule.specs.declared.question.Noted.TheVariants as kept
use Rattle.tup_rule.specs.declared.question.Question.{Question}
use Rattle.tup_rule.specs.declared.question.Question.TheVariants as asks
use Rattle.tup_rule.specs.declared.question.Reading.{Reading}
use Rattle.tup_vars.specs.Config.{config_of}
use Rattle.tup_vars.specs.Table.{Entries, look}
use Rattle.tup_vars.specs.declared.fault.ConfigFault.{ConfigFault}
use Rattle.tup_graph.specs.Answers.{tupfile, tup_config, Sources, Readings, HasSourceBelow, IsAnswer, IsDrafted, IsFileFor, IsHome, IsKind, IsMadeElsewhere, IsOutputFor, IsOutputOf, IsSetTo, IsSource}
use Rattle.tup_graph.specs.Graph.{GraphState, is_owned, source}
use Rattle.tup_graph.proofs.Homes.{above_of_home, home_of_above, no_home_above, one_home, own_home}
use Rattle.tup_readers.proofs.Entries.{in_front, front_or_behind, none_in}
use Rattle.tup_closure.proofs.Members.{listed}
use Rattle.tup_scan_diff.proofs.Answered.{nothing_elsewhere}
use Rattle.tup_scan_diff.proofs.Paths.{last_item, one_folder}
use Rattle.tup_law_graph.proofs.Stable.{Settled, Stable, found, held, is_true, same_options, same_paths, same_seen, same_stamps, same_texts, settled_both, stable_both, stable_either, stable_never, stable_not, stable_of, stable_sorted}

-- ---- what lies below a folder

under : (dir path : Names) → Settled (IsBelow dir path)
under [] [] = inr (λ (rest, more, is). more (sym is))
under [] (name ∷ path) = inl (name ∷ path, λ e. cc, refl)
under (first ∷ dir) [] = inr (λ (rest, more, is). cc)
under (first ∷ dir) (name ∷ path) = by (same_texts name first) (under dir path)
  where
    by : Settled (name ≡ first) → Settled (IsBelow dir path) → Settled (IsBelow (first ∷ dir) (name ∷ path))
    by (inl same) (inl (rest, more, is)) = inl (rest, more, ap₂ (λ (n : List ℕ) (p : Names). n ∷ p) same is)
    by (inl same) (inr none) = inr (λ (rest, more, is). none (rest, more, (let tails : path ≡ dir ++ rest = cc in tails)))
    by (inr apart) further = inr (λ (rest, more, is). apart (let heads : name ≡ first = cc in heads))

module _ (g : GraphState) where
  source_seen : (file : Names) → IsSource (source g) file → Contains (finite.keys g.seen) file
  source_seen file there = listed by_names by_names-decides (finite.keys g.seen) file (sym (finite.contains_key-keys g.seen file) ∙ has (is_owned g file) there)
    where
      has : (b : Bool) → is_some (cond b None (finite.get g.seen file)) ≡ true → finite.contains_key g.seen file ≡ true
      has true none = absurd (false≢true none)
      has false some = some

  below : (dir : Names) → Settled (HasSourceBelow (source g) dir)
  below dir = by (found (λ (file : Names). IsBelow dir file × IsSource (source g) file) (λ file. settled_both (under dir file) (is_true (is_some (source g file)))) (finite.keys g.seen))
    where
      by : Settled ((file : Names) × Contains (finite.keys g.seen) file × (IsBelow dir file × IsSource (source g) file)) → Settled (HasSourceBelow (source g) dir)
      by (inl (file, h, (it_is, there))) = inl (file, it_is, there)
      by (inr none) = inr (λ (file, it_is, there). none (file, source_seen file there, (it_is, there)))

-- ---- outputs of readings

drafted : (drafts : List Draft) (path : Names) → Settled (IsDrafted drafts path)
drafted drafts path = found (λ (draft : Draft). Contains draft.outputs path) (λ draft. held same_paths draft.outputs path) drafts

module _ (sources : Sources) (readings : Readings) where
  output_stable : (dir path : Names) → Stable (IsOutputOf sources readings dir path)
  output_stable dir path = by (finite.get readings dir) refl
    where
      by : (found : Option Reading) → finite.get readings dir ≡ found → Stable (IsOutputOf sources readings dir path)
      by None none unrefuted = absurd (unrefuted (λ out. (let e : None ≡ Some out.reading = sym none ∙ out.kept in cc)))
      by (Some reading) here unrefuted = record {
        reading = reading;
        kept = here;
        has_tupfile = stable_of (is_true (is_some (sources (tupfile dir)))) (λ no. unrefuted (λ out. no out.has_tupfile));
        drafted = stable_of (drafted reading.drafts path)
            (λ no. unrefuted (λ out. no (subst (λ (r : Reading). IsDrafted r.drafts path) (same_Some out.reading reading (sym out.kept ∙ here)) out.drafted)));
      }

  -- ---- outputs that a reading is told of

  abbrev HasHome : Names → Type 0
  HasHome dir = (home : Names) × IsHome sources dir home

  tupfile_settled : (dir : Names) → Settled (IsSource sources (tupfile dir))
  tupfile_settled dir = is_true (is_some (sources (tupfile dir)))

  top_home_settled : Settled (HasHome [])
  top_home_settled = by (tupfile_settled [])
    where
      by : Settled (IsSource sources (tupfile [])) → Settled (HasHome [])
      by (inl there) = inl ([], own_home sources [] there)
      by (inr none) = inr (λ (home, is). no_home_above sources home none is)

  home_further : (dir : Names) (name : List ℕ) → Settled (HasHome dir) → Settled (HasHome (dir ++ name ∷ []))
  home_further dir name = by (tupfile_settled (dir ++ name ∷ []))
    where
      by : Settled (IsSource sources (tupfile (dir ++ name ∷ []))) → Settled (HasHome dir) → Settled (HasHome (dir ++ name ∷ []))
      by (inl there) found = inl (dir ++ name ∷ [], own_home sources (dir ++ name ∷ []) there)
      by (inr none) (inl (home, is)) = inl (home, home_of_above sources dir name none home is)
      by (inr none) (inr no_home) = inr (λ (home, is). no_home (home, above_of_home sources dir name none home is))

  home_down : (dir names : Names) → Settled (HasHome dir) → Settled (HasHome (dir ++ names))
  home_down dir [] found = subst (λ (d : Names). Settled (HasHome d)) (sym (append-nil dir)) found
  home_down dir (name ∷ names) found = subst (λ (d : Names). Settled (HasHome d)) (append_assoc dir (name ∷ []) names) (home_down (dir ++ name ∷ []) names (home_further dir name found))

  -- a folder has a home, or it has none
  home_settled : (dir : Names) → Settled (HasHome dir)
  home_settled dir = home_down [] dir top_home_settled

  output_for_stable : (reader dir path : Names) → Stable (IsOutputFor sources readings reader dir path)
  output_for_stable reader dir path = by (home_settled dir)
    where
      by : Settled (HasHome dir) → Stable (IsOutputFor sources readings reader dir path)
      by (inr none) unrefuted = absurd (unrefuted (λ (other, is, apart, out). none (other, is)))
      by (inl (home, is)) unrefuted = (
        home,
        is,
        λ same. unrefuted (λ (other, also, apart, out). apart (one_home sources dir other home also is ∙ same)),
        output_stable home path (λ no. unrefuted (λ (other, also, apart, out). no (subst (λ (d : Names). IsOutputOf sources readings d path) (one_home sources dir other home also is) out))),
      )

  elsewhere_stable : (reader path : Names) → Stable (IsMadeElsewhere sources readings reader path)
  elsewhere_stable reader path = by (last_item path)
    where
      by : (path ≡ []) ⊎ ((front : Names) × (last : List ℕ) × (path ≡ front ++ last ∷ [])) → Stable (IsMadeElsewhere sources readings reader path)
      by (inl top) unrefuted = absurd (unrefuted (nothing_elsewhere sources readings reader path top))
      by (inr (front, last, is)) unrefuted = (
        front,
        last,
        is,
        output_for_stable reader front path (λ no. unrefuted (λ (other, name, other_is, out). no (subst (λ (d : Names). IsOutputFor sources readings reader d path) (one_folder other front name last (sym other_is ∙ is)) out))),
      )

  file_stable : (reader dir : Names) (name : List ℕ) → Stable (IsFileFor sources readings reader dir name)
  file_stable reader dir name = stable_either (is_true (is_some (sources (dir ++ name ∷ [])))) (output_for_stable reader dir (dir ++ name ∷ []))

kind_stable : (g : GraphState) (readings : Readings) (reader path : Names) (kind : Kind) → Stable (IsKind (source g) readings reader path kind)
kind_stable g readings reader path File = stable_either (is_true (is_some (source g path))) (stable_both stable_not (elsewhere_stable (source g) readings reader path))
kind_stable g readings reader path Dir = stable_both stable_not (stable_of (below g path))
kind_stable g readings reader path Nothing = λ unrefuted. (
  stable_not (λ no. unrefuted (λ is. no is.0)),
  stable_not (λ no. unrefuted (λ is. no is.1)),
  stable_not (λ no. unrefuted (λ is. no is.2)),
)

-- ---- what tup.config sets

only_one : (c content : Content) → Contains (c ∷ []) content → c ≡ content
only_one c content h = by (front_or_behind c content [] h)
  where
    by : (c ≡ content) ⊎ Contains [] content → c ≡ content
    by (inl same) = same
    by (inr none) = absurd (none_in content none)

set_stable : (config : Option Content) (seen : Option Stamp) (name : List ℕ) (value : Option (List ℕ)) → Stable (IsSetTo (option_to_list config) seen name value)
set_stable config None name value = stable_of (same_options same_texts value None)
set_stable None (Some seen) name value = λ unrefuted. absurd (unrefuted (λ (content, entries, h, same, read, is). none_in content h))
set_stable (Some c) (Some seen) name value = by (same_stamps (stamp c) seen) (config_of c) refl
  where
    other_than : (content : Content) (entries : Entries) (read : Result Entries ConfigFault) → c ≡ content → config_of c ≡ read → config_of content ≡ Ok entries → read ≡ Ok entries
    other_than content entries read same here there = sym here ∙ ap config_of same ∙ there

    by : Settled (stamp c ≡ seen) → (read : Result Entries ConfigFault) → config_of c ≡ read → Stable (IsSetTo (c ∷ []) (Some seen) name value)
    by (inr apart) read here unrefuted = absurd (unrefuted (λ (content, entries, h, same, there, is). apart (ap stamp (only_one c content h) ∙ same)))
    by (inl right) (Err fault) here unrefuted =
        absurd (unrefuted (λ (content, entries, h, same, there, is). (let e : Err fault ≡ Ok entries = other_than content entries (Err fault) (only_one c content h) here there in cc)))
    by (inl right) (Ok set) here unrefuted = (
      c,
      set,
      in_front c [],
      right,
      here,
      stable_of (same_options same_texts value (look set name))
          (λ apart. unrefuted (λ (content, entries, h, same, there, is).
          (let e : ◌≡◌ {A = Result Entries ConfigFault} (Ok set) (Ok entries) = other_than content entries (Ok set) (only_one c content h) here there in
          let sets : entries ≡ set = cc in
          apart (is ∙ ap (λ (t : Entries). look t name) sets)))),
    )

-- ---- all of it

pub answer_stable : (config : Option Content) (g : GraphState) (readings : Readings) (reader : Names) (question : Question) (noted : Noted) → Stable (IsAnswer (option_to_list config) (source g) readings reader question noted)
answer_stable config g readings reader (asks.Content path) (kept.Content seen) = stable_of (same_seen seen (source g path))
answer_stable config g readings reader (asks.Content path) (kept.Config value) = stable_never
answer_stable config g readings reader (asks.Content path) (kept.Names names) = stable_never
answer_stable config g readings reader (asks.Content path) (kept.Kind kind) = stable_never
answer_stable config g readings reader (asks.Config name) (kept.Content seen) = stable_never
answer_stable config g readings reader (asks.Config name) (kept.Config value) = set_stable config (source g tup_config) name value
answer_stable config g readings reader (asks.Config name) (kept.Names names) = stable_never
answer_stable config g readings reader (asks.Config name) (kept.Kind kind) = stable_never
answer_stable config g readings reader (asks.Names dir) (kept.Content seen) = stable_never
answer_stable config g readings reader (asks.Names dir) (kept.Config value) = stable_never
answer_stable config g readings reader (asks.Names dir) (kept.Names names) =
    stable_both (stable_sorted names) (λ unrefuted name. (
      λ h. file_stable (source g) readings reader dir name (λ no. unrefuted (λ are. no ((are name).0 h))),
      λ is. stable_of (held same_texts names name) (λ no. unrefuted (λ are. no ((are name).1 is))),
    ))
answer_stable config g readings reader (asks.Names dir) (kept.Kind kind) = stable_never
answer_stable config g readings reader (asks.Kind path) (kept.Content seen) = stable_never
answer_stable config g readings reader (asks.Kind path) (kept.Config value) = stable_never
answer_stable config g readings reader (asks.Kind path) (kept.Names names) = stable_never
answer_stable config g readings reader (asks.Kind path) (kept.Kind kind) = kind_stable g readings reader path kind

-- ---- more contents are known

module _ (known more : List Content) (also : (content : Content) → Contains known content → Contains more content) (sources : Sources) (readings : Readings) (reader : Names) where
  set_more : (seen : Option Stamp) (name : List ℕ) (value : Option (List ℕ)) → IsSetTo known seen name value → IsSetTo more seen name value
  set_more None name value is = is
  set_more (Some seen) name value (content, entries, h, same, read, is) = (content, entries, also content h, same, read, is)

  pub answer_more : (question : Question) (noted : Noted) → IsAnswer known sources readings reader question noted → IsAnswer more sources readings reader question noted
  answer_more (asks.Content path) (kept.Content seen) is = is
  answer_more (asks.Content path) (kept.Config value) is = absurd is
  answer_more (asks.Content path) (kept.Names names) is = absurd is
  answer_more (asks.Content path) (kept.Kind kind) is = absurd is
  answer_more (asks.Config name) (kept.Content seen) is = absurd is
  answer_more (asks.Config name) (kept.Config value) is = set_more (sources tup_config) name value is
  answer_more (asks.Config name) (kept.Names names) is = absurd is
  answer_more (asks.Config name) (kept.Kind kind) is = absurd is
  answer_more (asks.Names dir) (kept.Content seen) is = absurd is
  answer_more (asks.Names dir) (kept.Config value) is = absurd is
  answer_more (asks.Names dir) (kept.Names names) is = is
  answer_more (asks.Names dir) (kept.Kind kind) is = absurd is
  answer_more (asks.Kind path) (kept.Content seen) is = absurd is
  answer_more (asks.Kind path) (kept.Config value) is = absurd is
  answer_more (asks.Kind path) (kept.Names names) is = absurd is
  answer_more (asks.Kind path) (kept.Kind kind) is = is
