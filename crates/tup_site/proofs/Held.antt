-- The known contents in a map by their stamps: one more, and one given up again.
use Rattle.std.proofs.Common.{◌≡◌, ◌≢◌, inl, inr, Bool, true, false, cond, not, ◌||◌, List, [], ◌∷◌, ◌++◌, Option, None, Some, is_some, IsTrue, ◌↔◌, bytes_eq, refl, sym, ap, subst, ◌∙◌}
use Rattle.std.specs.declared.cmp.Ordering.{Ordering}
use Rattle.std.specs.declared.cmp.Ordering.TheVariants.{Less, Equal, Greater}
use Rattle.std.specs.Ordering.{is_eq}
use Rattle.std.specs.Cmp.{tied_itself}
use Rattle.std.specs.Cmp.Lexicographic.{nat_list_cmp_total}
use Rattle.std.specs.FinMap.{slice_cmp-IsAntisymmetric, nat_cmp-IsAntisymmetric}
use Rattle.std.specs.BTreeMap.{is_at}
use Rattle.std.proofs.lemmas.Bool.{cases_Bool, both_ways}
use Rattle.std.proofs.lemmas.List.Folds.{list_any-append}
use Rattle.tup_path.specs.Name.{Content}
use Rattle.tup_path.proofs.Same.{same_bytes-decides}
use Rattle.tup_stamp.specs.Stamp.{stamp}
use Rattle.tup_stamp.specs.declared.Stamp.{Stamp}
use Rattle.tup_site.specs.Known.{knows, MayJoin}
use Rattle.tup_site.specs.Held.{by_stamp, under, may_take, IsHeld}
use Rattle.tup_site.proofs.Among.{knows_newest, knows_more, known_or_newest}

-- ---- stamps

is_eq-equal : (r : Ordering) → is_eq r ≡ true → r ≡ Equal
is_eq-equal Less e = cc
is_eq-equal Equal e = refl
is_eq-equal Greater e = cc

tie : (a b : Stamp) → by_stamp a b ≡ Equal → a ≡ b
tie a b e =
    let bytes : a.0 ≡ b.0 = slice_cmp-IsAntisymmetric nat_cmp-IsAntisymmetric a.0 b.0 e in
    λ i. record { 0 = bytes i }

pub at_tie : (a b : Stamp) → is_at (by_stamp a) b ≡ true → a ≡ b
at_tie a b e = tie a b (is_eq-equal (by_stamp a b) e)

pub at_itself : (a b : Stamp) → a ≡ b → is_at (by_stamp a) b ≡ true
at_itself a b e = subst (λ (c : Stamp). is_at (by_stamp a) c ≡ true) e (ap is_eq (tied_itself nat_list_cmp_total a.0))

-- ---- what is held

-- the same found, and the same known
pub held_same : (entries entries' : List (Stamp × Content)) (contents contents' : List Content) → ((key : Stamp) → under entries' key ≡ under entries key) → ((content : Content) → knows contents' content ≡ knows contents content) → IsHeld entries contents → IsHeld entries' contents'
held_same entries entries' contents contents' same known is = record {
  held = λ content k. same (stamp content) ∙ is.held content (sym (known content) ∙ k);
  only = λ key content found. known content ∙ is.only key content (sym (same key) ∙ found);
  tied = λ key content found. is.tied key content (sym (same key) ∙ found);
}

takes : (found : Option Content) (content other : Content) → may_take found content ≡ true → found ≡ Some other → other ≡ content
takes None content other may e = cc
takes (Some x) content other may e = let is : x ≡ other = cc e in sym is ∙ (same_bytes-decides x content).0 may

pub may_join : (entries : List (Stamp × Content)) (contents : List Content) (content : Content) → IsHeld entries contents → may_take (under entries (stamp content)) content ≡ true → MayJoin contents content
may_join entries contents content is may other k e = takes (under entries (stamp content)) content other may (ap (under entries) (sym e) ∙ is.held other k)

refuses : (found : Option Content) (content : Content) → may_take found content ≡ false → (other : Content) × (found ≡ Some other) × (other ≢ content)
refuses None content nay = cc
refuses (Some x) content nay = (x, refl, λ e. both_ways _ nay ((same_bytes-decides x content).1 e))

pub may_not_join : (entries : List (Stamp × Content)) (contents : List Content) (content : Content) → IsHeld entries contents → may_take (under entries (stamp content)) content ≡ false → MayJoin contents content → ⊥
may_not_join entries contents content is nay may =
    let found = refuses (under entries (stamp content)) content nay in
    found.2 (may found.0 (is.only (stamp content) found.0 found.1) (sym (tie (stamp content) (stamp found.0) (is.tied (stamp content) found.0 found.1))))

pub joins_just : (entries : List (Stamp × Content)) (contents : List Content) (content : Content) (answer : Bool) → IsHeld entries contents → answer ≡ may_take (under entries (stamp content)) content → IsTrue answer ↔ MayJoin contents content
joins_just entries contents content answer is e = (
  λ so. may_join entries contents content is (sym e ∙ so),
  λ may. elim (cases_Bool answer) [
    | inl so ↦ so
    | inr nay ↦ absurd (may_not_join entries contents content is (sym e ∙ nay) may)
  ],
)

-- one content more
module _ (entries entries' : List (Stamp × Content)) (contents : List Content) (content : Content) (is : IsHeld entries contents) (may : MayJoin contents content) (taken : (key : Stamp) → under entries' key ≡ cond (is_at (by_stamp (stamp content)) key) (Some content) (under entries key)) where
  at_key : (key : Stamp) → is_at (by_stamp (stamp content)) key ≡ true → under entries' key ≡ Some content
  at_key key so = taken key ∙ ap (λ b. cond b (Some content) (under entries key)) so

  at_other : (key : Stamp) → is_at (by_stamp (stamp content)) key ≡ false → under entries' key ≡ under entries key
  at_other key nay = taken key ∙ ap (λ b. cond b (Some content) (under entries key)) nay

  held : (other : Content) → knows (content ∷ contents) other ≡ true → under entries' (stamp other) ≡ Some other
  held other k = elim (known_or_newest content contents other k) [
    | inl e ↦ at_key (stamp other) (at_itself (stamp content) (stamp other) (ap stamp (sym e))) ∙ ap Some (sym e)
    | inr old ↦ elim (cases_Bool (is_at (by_stamp (stamp content)) (stamp other))) [
      | inl so ↦ at_key (stamp other) so ∙ ap Some (sym (may other old (sym (at_tie (stamp content) (stamp other) so))))
      | inr nay ↦ at_other (stamp other) nay ∙ is.held other old
    ]
  ]

  only : (key : Stamp) (other : Content) → under entries' key ≡ Some other → knows (content ∷ contents) other ≡ true
  only key other found = elim (cases_Bool (is_at (by_stamp (stamp content)) key)) [
    | inl so ↦ let e : content ≡ other = cc (at_key key so, found) in subst (λ (c : Content). knows (content ∷ contents) c ≡ true) e (knows_newest content contents)
    | inr nay ↦ knows_more content contents other (is.only key other (sym (at_other key nay) ∙ found))
  ]

  tied : (key : Stamp) (other : Content) → under entries' key ≡ Some other → by_stamp key (stamp other) ≡ Equal
  tied key other found = elim (cases_Bool (is_at (by_stamp (stamp content)) key)) [
    | inl so ↦
        let e : content ≡ other = cc (at_key key so, found) in
        subst (λ (s : Stamp). by_stamp key s ≡ Equal) (sym (at_tie (stamp content) key so) ∙ ap stamp e) (tied_itself nat_list_cmp_total key.0)
    | inr nay ↦ is.tied key other (sym (at_other key nay) ∙ found)
  ]

  pub held_more : IsHeld entries' (content ∷ contents)
  held_more = record { held = held; only = only; tied = tied }

-- a content that stood under no stamp is given up again
pub given_up : (entries entries' entries'' : List (Stamp × Content)) (key : Stamp) (content : Content) → not (is_some (under entries key)) ≡ true → ((q : Stamp) → under entries' q ≡ cond (is_at (by_stamp key) q) (Some content) (under entries q)) → ((q : Stamp) → under entries'' q ≡ cond (is_at (by_stamp key) q) None (under entries' q)) → (q : Stamp) → under entries'' q ≡ under entries q
given_up entries entries' entries'' key content none taken gone q = elim (cases_Bool (is_at (by_stamp key) q)) [
  | inl so ↦ gone q ∙ ap (λ b. cond b None (under entries' q)) so ∙ sym (ap (under entries) (sym (at_tie key q so)) ∙ nothing (under entries key) none)
  | inr nay ↦ gone q ∙ ap (λ b. cond b None (under entries' q)) nay ∙ taken q ∙ ap (λ b. cond b (Some content) (under entries q)) nay
]
  where
    nothing : (found : Option Content) → not (is_some found) ≡ true → found ≡ None
    nothing None e = refl
    nothing (Some x) e = cc

-- a content that stood there already is taken up again: nothing changes
pub taken_again : (entries entries' : List (Stamp × Content)) (contents : List Content) (content : Content) → IsHeld entries contents → MayJoin contents content → not (is_some (under entries (stamp content))) ≡ false → ((q : Stamp) → under entries' q ≡ cond (is_at (by_stamp (stamp content)) q) (Some content) (under entries q)) → (q : Stamp) → under entries' q ≡ under entries q
taken_again entries entries' contents content is may some taken q = elim (cases_Bool (is_at (by_stamp (stamp content)) q)) [
  | inl so ↦ taken q ∙ ap (λ b. cond b (Some content) (under entries q)) so ∙ sym (ap (under entries) (sym (at_tie (stamp content) q so)) ∙ there (under entries (stamp content)) refl some)
  | inr nay ↦ taken q ∙ ap (λ b. cond b (Some content) (under entries q)) nay
]
  where
    there : (found : Option Content) → under entries (stamp content) ≡ found → not (is_some found) ≡ false → found ≡ Some content
    there None e nay = cc
    there (Some x) e nay =
        let k = is.only (stamp content) x e in
        ap Some (may x k (sym (tie (stamp content) (stamp x) (is.tied (stamp content) x e))))

-- ---- the contents of a list, one by one

pub knows_push : (contents : List Content) (newest content : Content) → knows (contents ++ newest ∷ []) content ≡ knows (newest ∷ contents) content
knows_push contents newest content = list_any-append (bytes_eq content) contents (newest ∷ []) ∙ swapped (knows contents content) (bytes_eq content newest)
  where
    swapped : (a b : Bool) → (a || (b || false)) ≡ (b || a)
    swapped true true = refl
    swapped true false = refl
    swapped false true = refl
    swapped false false = refl
