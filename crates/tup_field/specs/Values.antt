-- The formats of truths, texts, paths and stamps (own).
-- The bytes of a name have to be whole before it is looked at: one that is cut off is short, whatever it holds.
use Rattle.std.specs.Prelude.{ℕ, Bool, true, false, ◌&&◌, nat_le, List, [], ◌∷◌}
use Rattle.std.specs.Str.{is_utf8}
use Rattle.tup_path.specs.Name.{Names, IsPath}
use Rattle.tup_path.specs.Resolve.{is_visible}
use Rattle.tup_stamp.specs.declared.Stamp.{Stamp}
use Rattle.tup_field.specs.Format.{Format}
use Rattle.tup_field.specs.Parts.{fixed, byte, number, empty, as_if, checked, fitting, sized, counted, no_mark, arm, marked_at}

-- a truth: one byte, 0 where it is false and 1 where it is true
abbrev pub truth_spelling : Bool → List ℕ
truth_spelling false = 0 ∷ []
truth_spelling true = 1 ∷ []

-- its format
abbrev pub truth : Format Bool
truth = record {
  Fits = λ _. Unit {0};
  Writable = λ _. Unit {0};
  spelling = truth_spelling;
  reading = marked_at (arm 0 empty (λ _. false) (arm 1 empty (λ _. true) no_mark));
}

-- a text: UTF-8 behind its length, which is a number
abbrev pub text : Format (List ℕ)
text = checked is_utf8 (sized number)

-- a name of a path: a visible name behind its length, which is one byte
abbrev pub name : Format (List ℕ)
name = checked (λ name. is_utf8 name && is_visible name) (sized byte)

-- how many names a path has: one byte, at most 32
abbrev pub depth : Format ℕ
depth = checked (λ depth. nat_le depth 32) byte

-- a path: its names from the top down behind their count
abbrev pub path : Format Names
path = fitting IsPath (counted depth name)

-- a stamp: the 32 bytes of the digest
abbrev pub stamp : Format Stamp
stamp = as_if (λ bytes. record { 0 = bytes }) (λ stamp. stamp.0) (fixed 32)
