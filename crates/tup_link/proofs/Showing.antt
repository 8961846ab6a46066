-- Texts that go on by one more file, and by one more piece.
use Rattle.std.proofs.Common.{◌≡◌, ℕ, ◌+◌, ◌<◌, List, [], ◌∷◌, ◌++◌, length, map, take, get_or, refl, sym, ap, ◌∙◌, append_assoc}
use Rattle.std.specs.List.{join_with_byte}
use Rattle.std.proofs.lemmas.List.{map_push, append-nil, take_more}
use Rattle.std.proofs.lemmas.List.Concat.{flat_map-append}
use Rattle.tup_path.specs.Name.{Names}
use Rattle.tup_path.specs.Show.{show_from}
use Rattle.tup_rule.specs.declared.draft.GroupRef.{GroupRef}
use Rattle.tup_rule.specs.declared.draft.Piece.{Piece}
use Rattle.tup_link.specs.Linked.{Members, shown, piece_text, text_of}

-- the gap before one more part
abbrev pub gap : {X : Type 0} → List X → List ℕ
gap [] = []
gap (part ∷ front) = 32 ∷ []

join_push : (parts : List (List ℕ)) (part : List ℕ) → join_with_byte 32 (parts ++ part ∷ []) ≡ (join_with_byte 32 parts ++ gap parts) ++ part
join_push [] part = refl
join_push (one ∷ []) part = sym (append_assoc one (32 ∷ []) part)
join_push (one ∷ two ∷ parts) part =
    ap (λ (l : List ℕ). one ++ (32 ∷ l)) (join_push (two ∷ parts) part)
    ∙ sym (append_assoc one (32 ∷ (join_with_byte 32 (two ∷ parts) ++ (32 ∷ []))) part)
    ∙ ap (λ (l : List ℕ). l ++ part) (sym (append_assoc one (32 ∷ join_with_byte 32 (two ∷ parts)) (32 ∷ [])))

gap_map : (dir : Names) (front : List Names) → gap (map (show_from dir) front) ≡ gap front
gap_map dir [] = refl
gap_map dir (path ∷ front) = refl

pub shown_push : (dir : Names) (front : List Names) (path : Names) → shown dir (front ++ path ∷ []) ≡ (shown dir front ++ gap front) ++ show_from dir path
shown_push dir front path =
    ap (join_with_byte 32) (map_push (show_from dir) front path)
    ∙ join_push (map (show_from dir) front) (show_from dir path)
    ∙ ap (λ (g : List ℕ). (shown dir front ++ g) ++ show_from dir path) (gap_map dir front)

-- a text that went on by the gap and the way to a file
pub shown_more : (dir : Names) (front : List Names) (path : Names) (old mid now new gap_text : List ℕ) → mid ≡ old ++ shown dir front → gap_text ≡ gap front → now ≡ mid ++ gap_text → new ≡ now ++ show_from dir path →
    new ≡ old ++ shown dir (front ++ path ∷ [])
shown_more dir front path old mid now new gap_text had is one two =
    two
    ∙ ap (λ (l : List ℕ). l ++ show_from dir path) (one ∙ ap (λ (l : List ℕ). l ++ gap_text) had ∙ ap (λ (g : List ℕ). (old ++ shown dir front) ++ g) is ∙ append_assoc old (shown dir front) (gap front))
    ∙ append_assoc old (shown dir front ++ gap front) (show_from dir path)
    ∙ ap (λ (l : List ℕ). old ++ l) (sym (shown_push dir front path))

-- a text that went on by one more piece
pub text_more : (group_has : Members) (dir : Names) (groups : List GroupRef) (pieces : List Piece) (i : ℕ) (piece : Piece) → i < length pieces → piece ≡ get_or pieces i piece →
    text_of group_has dir groups (take (i + 1) pieces) ≡ text_of group_has dir groups (take i pieces) ++ piece_text group_has dir groups piece
text_more group_has dir groups pieces i piece less here =
    ap (text_of group_has dir groups) (take_more pieces i piece less ∙ ap (λ (p : Piece). take i pieces ++ p ∷ []) (sym here))
    ∙ flat_map-append (piece_text group_has dir groups) (take i pieces) (piece ∷ [])
    ∙ ap (λ (l : List ℕ). text_of group_has dir groups (take i pieces) ++ l) (append-nil (piece_text group_has dir groups piece))

-- the same of files behind references
gap_of : {R : Type 0} (now : R → Names) (front : List R) → gap (map now front) ≡ gap front
gap_of now [] = refl
gap_of now (path ∷ front) = refl

pub gap_push : {R : Type 0} (front : List R) (path : R) → gap (front ++ path ∷ []) ≡ 32 ∷ []
gap_push [] path = refl
gap_push (first ∷ front) path = refl

pub shown_next : {R : Type 0} (now : R → Names) (dir : Names) (front : List R) (path : R) (old mid next new gap_text : List ℕ) → mid ≡ old ++ shown dir (map now front) → gap_text ≡ gap front → next ≡ mid ++ gap_text →
    new ≡ next ++ show_from dir (now path) → new ≡ old ++ shown dir (map now (front ++ path ∷ []))
shown_next now dir front path old mid next new gap_text had is one two =
    shown_more dir (map now front) (now path) old mid next new gap_text had (is ∙ sym (gap_of now front)) one two
    ∙ ap (λ (l : List Names). old ++ shown dir l) (sym (map_push now front path))
