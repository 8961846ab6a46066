-- Which contents are programs, by their first bytes, and the modes of their files. Own.
use Rattle.std.specs.Prelude.{ℕ, Bool, not, ◌&&◌, ◌||◌, ◌==◌, nat_eq, nat_lt, List, [], ◌∷◌, length, if◌then◌else◌, codes, slice_index}
use Rattle.std.specs.List.{starts_with}

-- whether the kind of an ELF file with these two bytes is a program or a shared object
abbrev pub is_run : ℕ → ℕ → Bool
is_run low high = high == 0 && (low == 2 || low == 3)

-- whether this is an ELF file of such a kind, whose bytes stand in the order that byte 5 says
abbrev pub is_elf_program : List ℕ → Bool
is_elf_program content = not (nat_lt (length content) 18)
    && starts_with nat_eq content (127 ∷ 69 ∷ 76 ∷ 70 ∷ [])
    && (let order = slice_index content 5 in let one = slice_index content 16 in let other = slice_index content 17 in
    (order == 1 && is_run one other) || (order == 2 && is_run other one))

-- whether this is a script, which names its interpreter behind `#!`, or such an ELF file
abbrev pub is_program : List ℕ → Bool
is_program content = starts_with nat_eq content (codes "#!") || is_elf_program content

-- the mode of a new file with this content, before the mask of the user: everybody may run a program, 0777, and no
-- other file, 0666
abbrev pub mode_for : List ℕ → ℕ
mode_for content = if is_program content then 511 else 438
