-- What a text names, read from a folder. The dots and slashes are the manual's, the limits and the order of refusals own.
-- A name that is joined is one part: `.`, `..`, the empty name and a name with a slash are hidden names. A name that
-- is too long is refused for that before anything else.
use Rattle.std.specs.Prelude.{ℕ, Bool, false, not, ◌&&◌, ◌==◌, nat_lt, nat_le, if◌then◌else◌, List, [], ◌∷◌, ◌++◌, length, Result, Ok, Err, bytes_eq}
use Rattle.std.specs.List.{list_all, slice_split}
use Rattle.tup_path.specs.Name.{Names}
use Rattle.tup_path.specs.declared.fault.PathFault.{PathFault}
use Rattle.tup_path.specs.declared.fault.PathFault.TheVariants.{Empty, Outside, Hidden, TooLong}

-- a byte of a visible name: no control character, blank, DEL or slash
abbrev pub is_name_byte : ℕ → Bool
is_name_byte b = nat_le 0x21 b && not (b == 0x7F) && not (b == 47)

-- whether a part of a text is a visible name, its length aside
abbrev pub is_visible : List ℕ → Bool
is_visible [] = false
is_visible (b ∷ bs) = not (b == 46) && list_all is_name_byte (b ∷ bs)

-- a name below a folder, with the refusals of a single part
abbrev pub below : Names → List ℕ → Result Names PathFault
below dir name =
    if nat_lt 255 (length name) then Err TooLong
    else if not (is_visible name) then Err Hidden
    else if nat_le 32 (length dir) then Err TooLong
    else Ok (dir ++ name ∷ [])

-- all names but the last
abbrev pub above : Names → Result Names PathFault
above [] = Err Outside
above (name ∷ []) = Ok []
above (name ∷ next ∷ names) = prepend name (above (next ∷ names))
  where
    prepend : List ℕ → Result Names PathFault → Result Names PathFault
    prepend name (Ok names) = Ok (name ∷ names)
    prepend name (Err fault) = Err fault

-- where one part leads from a folder: an empty part and a dot stay, two dots go up, a name goes down
abbrev pub step : Names → List ℕ → Result Names PathFault
step dir part =
    if bytes_eq part [] then Ok dir
    else if bytes_eq part (46 ∷ []) then Ok dir
    else if bytes_eq part (46 ∷ 46 ∷ []) then above dir
    else below dir part

-- where parts lead one after another; the first refusal stands
abbrev pub walk : Names → List (List ℕ) → Result Names PathFault
walk dir [] = Ok dir
walk dir (part ∷ parts) = elim (step dir part) [ Ok next ↦ walk next parts | Err fault ↦ Err fault ]

-- the parts of a text, cut at its slashes
abbrev pub parts : List ℕ → List (List ℕ)
parts text = slice_split (λ b. b == 47) text

-- the path that a text names from a folder
abbrev pub resolve : Names → List ℕ → Result Names PathFault
resolve dir [] = Err Empty
resolve dir (b ∷ bs) = if b == 47 then Err Outside else walk dir (parts (b ∷ bs))
