-- The contents that a board keeps: one more of them, and what they are worth once the site has changed.
use Rattle.std.proofs.Common.{◌≡◌, ℕ, ◌+◌, ◌≤◌, cond, List, [], ◌∷◌, length, Option, None, Some, Result, Ok, Err, true, refl, sym, ap, ◌∙◌, subst, ⊎_elim, inl, inr, arith}
use Rattle.std.specs.Prelude.{IsTrue, OnOk, option_map}
use Rattle.std.specs.Result.{is_ok}
use Rattle.std.specs.BTreeMap.{insert_entry, is_at}
use Rattle.std.specs.FinMap as finite
use Rattle.std.specs.Ordering.{match_ordering}
use Rattle.std.specs.declared.cmp.Ordering.{Ordering}
use Rattle.std.specs.declared.cmp.Ordering.TheVariants.{Less, Equal, Greater}
use Rattle.std.proofs.lemmas.Bool.{cases_Bool, false≢true}
use Rattle.std.proofs.lemmas.Option.{same_Some, none-some}
use Rattle.tup_path.specs.Name.{Names, Content}
use Rattle.tup_stamp.specs.Stamp.{stamp}
use Rattle.tup_stamp.specs.declared.Stamp.{Stamp}
use Rattle.tup_site.specs.Held.{by_stamp, under}
use Rattle.tup_site.specs.Known.{knows, IsKnown, Keeps, KnowsTree}
use Rattle.tup_site.specs.declared.site.Site.{Ghosts as Site}
use Rattle.tup_site.proofs.Held.{at_tie}
use Rattle.tup_runner.specs.declared.runner.Runner.{Ghosts as Runner}
use Rattle.tup_record.specs.declared.run.RunRecord.{RunRecord}
use Rattle.tup_rule_outputs.specs.declared.fault.BoardFault.{BoardFault}
use Rattle.tup_rule_outputs.specs.declared.ground.Ground.{Ground}
use Rattle.tup_rule_outputs.specs.Ground.{Makes}
use Rattle.tup_rule_outputs.specs.Lost.{Lost}
use Rattle.tup_board.specs.declared.contents.Contents.{Contents}
use Rattle.tup_board.specs.Board.{BoardState, state}
use Rattle.tup_board.specs.Calls.{AsksFor}
use Rattle.tup_board.specs.Contents.{AddsAtMost, AreKept, FitsRoom, bytes_in, kept, kept_as}
use Rattle.tup_board.specs.Sound.{IsSound}
use Rattle.tup_board.proofs.Visiting.{stands_there}

-- what is said of an answer that is there
pub when_ok : {T E P : Type 0} (result : Result T E) → is_ok result ≡ true → OnOk result P → P
when_ok (Ok done) is holds = holds
when_ok (Err fault) is holds = absurd (false≢true is)

-- ---- a content is put under a stamp
module _ (given : Stamp) (found : Content) where
  pub adds_taken : (old new : Contents) → ((key : Stamp) → kept new key ≡ cond (is_at (by_stamp given) key) (Some found) (kept old key)) → AddsAtMost (Some given) (Some found) old new
  adds_taken old new taken key content here = elim (cases_Bool (is_at (by_stamp given) key)) [
    | inl so ↦ inr (ap Some (at_tie given key so), sym (taken key ∙ ap (λ b. cond b (Some found) (kept old key)) so) ∙ here)
    | inr nay ↦ inl (sym (taken key ∙ ap (λ b. cond b (Some found) (kept old key)) nay) ∙ here)
  ]

  bytes_taken : (entries : List (Stamp × Content)) → bytes_in (insert_entry by_stamp entries given found) ≤ length found + bytes_in entries
  bytes_taken [] = omega arith
  bytes_taken (entry ∷ entries) = by (by_stamp given entry.0) (bytes_taken entries)
    where
      by : (order : Ordering) → bytes_in (insert_entry by_stamp entries given found) ≤ length found + bytes_in entries
          → bytes_in (match_ordering order ((given, found) ∷ entry ∷ entries) ((entry.0, found) ∷ entries) (entry ∷ insert_entry by_stamp entries given found)) ≤ length found + bytes_in (entry ∷ entries)
      by Less more = omega arith
      by Equal more = omega arith
      by Greater more = omega (arith, more)

  pub room_taken : (old new : Contents) → new.by_stamp.entries ≡ insert_entry by_stamp old.by_stamp.entries given found → new.room + length found ≡ old.room → FitsRoom old → FitsRoom new
  room_taken old new entries room fits =
      let more = subst (λ (l : List (Stamp × Content)). bytes_in l ≤ length found + bytes_in old.by_stamp.entries) (sym entries) (bytes_taken old.by_stamp.entries) in
      omega (arith, more, room, fits)

module _ {S : Type 0} (site : Site S) where
  -- ---- at first nothing is kept
  pub none_kept : (s : S) (contents : Contents) → contents.by_stamp.entries ≡ [] → contents.room ≡ 67108864 → AreKept site s contents
  none_kept s contents none room = record {
    stamped = λ key content here. absurd (nothing key content here);
    known = λ tells key content here. absurd (nothing key content here);
    room = let empty : bytes_in contents.by_stamp.entries ≡ 0 = ap (λ (l : List (Stamp × Content)). bytes_in l) none in omega (arith, empty, room);
  }
    where
      nothing : (key : Stamp) (content : Content) → kept contents key ≡ Some content → ⊥
      nothing key content here = none-some content (sym (ap (λ (l : List (Stamp × Content)). under l key) none) ∙ here)

  -- ---- a site that knows more keeps them
  module _ (s t : S) (contents : Contents) where
    pub kept_on : (IsTrue site.tells → Keeps (site.known s) (site.known t)) → AreKept site s contents → AreKept site t contents
    kept_on keeps are = record {
      stamped = are.stamped;
      known = λ tells key content here. keeps tells content (are.known tells key content here);
      room = are.room;
    }

    pub kept_same : (IsTrue site.tells → site.known t ≡ site.known s) → AreKept site s contents → AreKept site t contents
    kept_same same = kept_on (λ tells content had. subst (λ (l : List Content). IsTrue (knows l content)) (sym (same tells)) had)

  pub makes_known : (number : ℕ) (run : RunRecord) (files : List (Names × Content)) (old new : Ground S) (result : Result (Unit {0}) BoardFault) → Makes site number run files old result new
      → IsTrue site.tells → Keeps (site.known old.site) (site.known new.site)
  makes_known number run files old new result makes tells = by old.lost refl
    where
      by : (lost : Option Lost) → old.lost ≡ lost → Keeps (site.known old.site) (site.known new.site)
      by None none = (makes.makes none).known tells
      by (Some commit) some = subst (λ (it : Ground S). Keeps (site.known old.site) (site.known it.site)) (sym (makes.idle commit some).0) (λ content had. had)

  -- ---- one more of them
  module _ (s : S) (old new : Contents) (given : Option Stamp) (found : Option Content) (adds : AddsAtMost given found old new) (room : FitsRoom old → FitsRoom new)
      (is : given ≡ option_map stamp found) (known : IsTrue site.tells → (content : Content) → found ≡ Some content → IsTrue (knows (site.known s) content)) where
    pub kept_more : AreKept site s old → AreKept site s new
    kept_more are = record {
      stamped = λ key content here. ⊎_elim (are.stamped key content) (λ added. same_Some _ _ (sym added.0 ∙ is ∙ ap (option_map stamp) added.1)) (adds key content here);
      known = λ tells key content here. ⊎_elim (are.known tells key content) (λ added. known tells content added.1) (adds key content here);
      room = room are.room;
    }

  -- ---- what is kept under a stamp that may be absent has it, and is known
  module _ (s : S) (contents : Contents) (are : AreKept site s contents) (content : Content) where
    pub stamped_as : (given : Option Stamp) → kept_as contents given ≡ Some content → given ≡ Some (stamp content)
    stamped_as None here = absurd (none-some content here)
    stamped_as (Some key) here = ap Some (are.stamped key content here)

    pub known_as : (given : Option Stamp) → kept_as contents given ≡ Some content → IsTrue site.tells → IsTrue (knows (site.known s) content)
    known_as None here tells = absurd (none-some content here)
    known_as (Some key) here tells = are.known tells key content here

-- ---- where the core's files have its stamp, a content that the site knows stands
module _ {S R : Type 0} (site : Site S) (runner : Runner R) (b : BoardState S) (sound : IsSound site runner b) (seat : ℕ) (text : List ℕ) (path : Names) (for_it : AsksFor b seat text path)
    (is_known : (s : S) → IsTrue site.tells → IsKnown (site.known s)) (knows_tree : (s : S) → IsTrue site.tells → KnowsTree (site.known s) (site.world s).tree)
    (content : Content) (stamped : (state b).files path ≡ Some (stamp content)) (known : IsTrue site.tells → IsTrue (knows (site.known b.site) content)) where
  pub stands_as : IsTrue site.tells → Some content ≡ finite.get (site.world b.site).tree path
  stands_as tells = by (finite.get (site.world b.site).tree path) refl
    where
      seen : option_map stamp (finite.get (site.world b.site).tree path) ≡ Some (stamp content)
      seen = sound.files tells path (stands_there site runner b sound seat text path for_it) ∙ stamped

      by : (found : Option Content) → finite.get (site.world b.site).tree path ≡ found → Some content ≡ finite.get (site.world b.site).tree path
      by None is = absurd (none-some (stamp content) (sym (ap (option_map stamp) is) ∙ seen))
      by (Some other) is =
          let same = same_Some _ _ (sym (ap (option_map stamp) is) ∙ seen) in
          ap Some (is_known b.site tells content other (known tells) (knows_tree b.site tells path other is) (sym same)) ∙ sym is

-- ---- the same of a board by its parts, as its callers see it
module _ {S R : Type 0} (site : Site S) (runner : Runner R) (inside given : BoardState S) (sound : IsSound site runner inside) (view : inside ≡ given) (contents : Contents) (are : AreKept site inside.site contents)
    (seat : ℕ) (text : List ℕ) (path : Names) (for_it : AsksFor given seat text path) (at : Option Stamp) (content : Content) (copy : kept_as contents at ≡ Some content) (is : at ≡ (state given).files path) where
  are_seen : AreKept site given.site contents
  are_seen = subst (λ (b : BoardState S). AreKept site b.site contents) view are

  pub stands_seen : ((s : S) → IsTrue site.tells → IsKnown (site.known s)) → ((s : S) → IsTrue site.tells → KnowsTree (site.known s) (site.world s).tree)
      → IsTrue site.tells → Some content ≡ finite.get (site.world given.site).tree path
  stands_seen is_known knows_tree =
      stands_as site runner given (subst (IsSound site runner) view sound) seat text path for_it is_known knows_tree content (sym is ∙ stamped_as site given.site contents are_seen content at copy)
      (known_as site given.site contents are_seen content at copy)

-- ---- what was found at a path, as the callers of a board see its tree, its site knows
module _ {S : Type 0} (site : Site S) (inside given : BoardState S) (view : inside ≡ given) (path : Names) (found : Option Content)
    (here : IsTrue site.tells → found ≡ finite.get (site.world given.site).tree path) (knows_tree : (s : S) → IsTrue site.tells → KnowsTree (site.known s) (site.world s).tree) where
  pub knows_found : IsTrue site.tells → (content : Content) → found ≡ Some content → IsTrue (knows (site.known inside.site) content)
  knows_found tells content is =
      subst (λ (b : BoardState S). IsTrue (knows (site.known b.site) content)) (sym view) (knows_tree given.site tells path content (sym (here tells) ∙ is))
