-- The one spelling of each record: a key, which begins with the byte of its kind, and a value (own).
-- A record with a text or a list of 2^32 or more, or with an answer of another kind than its question, has no
-- spelling.
use Rattle.std.specs.Prelude.{◌≡◌, ℕ, ◌^◌, ◌≤◌, List, [], ◌∷◌, length}
use Rattle.tup_field.specs.Parts.{number, ◌&◌, option}
use Rattle.tup_field.specs.Values.{path, stamp}
use Rattle.tup_field.specs.Rules.{rule, reading}
use Rattle.tup_record.specs.Fields.{run, state}
use Rattle.tup_record.specs.declared.record.Record.{Record}
use Rattle.tup_record.specs.declared.record.Record.TheVariants.{Seen, Reading, Rule, Run, Owned, Create, Modify}

-- the key: the byte of the kind, then what tells the record from others of its kind
abbrev pub key_of : Record → List ℕ
key_of (Seen p s) = 1 ∷ path.spelling p
key_of (Reading dir r) = 2 ∷ path.spelling dir
key_of (Rule n place r) = 3 ∷ number.spelling n
key_of (Run n r) = 4 ∷ number.spelling n
key_of (Owned p maker s) = 5 ∷ path.spelling p
key_of (Create dir) = 6 ∷ path.spelling dir
key_of (Modify n) = 7 ∷ number.spelling n

-- the value: all that isn't in the key
abbrev pub value_of : Record → List ℕ
value_of (Seen p s) = stamp.spelling s
value_of (Reading dir r) = reading.spelling r
value_of (Rule n place r) = (number & rule).spelling (place, r)
value_of (Run n r) = run.spelling r
value_of (Owned p maker s) = (option number & state).spelling (maker, s)
value_of (Create dir) = []
value_of (Modify n) = []

-- the key has a spelling
abbrev pub KeyFits : Record → Type 0
KeyFits (Seen p s) = path.Fits p
KeyFits (Reading dir r) = path.Fits dir
KeyFits (Rule n place r) = number.Fits n
KeyFits (Run n r) = number.Fits n
KeyFits (Owned p maker s) = path.Fits p
KeyFits (Create dir) = path.Fits dir
KeyFits (Modify n) = number.Fits n

-- the value has a spelling
abbrev pub ValueFits : Record → Type 0
ValueFits (Seen p s) = stamp.Fits s
ValueFits (Reading dir r) = reading.Fits r
ValueFits (Rule n place r) = (number & rule).Fits (place, r)
ValueFits (Run n r) = run.Fits r
ValueFits (Owned p maker s) = (option number & state).Fits (maker, s)
ValueFits (Create dir) = Unit {0}
ValueFits (Modify n) = Unit {0}

-- the record has a spelling
abbrev pub Fits : Record → Type 0
Fits r = KeyFits r × ValueFits r

-- the key isn't refused
abbrev pub KeyWritable : Record → Type 0
KeyWritable (Seen p s) = path.Writable p
KeyWritable (Reading dir r) = path.Writable dir
KeyWritable (Rule n place r) = number.Writable n
KeyWritable (Run n r) = number.Writable n
KeyWritable (Owned p maker s) = path.Writable p
KeyWritable (Create dir) = path.Writable dir
KeyWritable (Modify n) = number.Writable n

-- the value isn't refused
abbrev pub ValueWritable : Record → Type 0
ValueWritable (Seen p s) = stamp.Writable s
ValueWritable (Reading dir r) = reading.Writable r
ValueWritable (Rule n place r) = (number & rule).Writable (place, r)
ValueWritable (Run n r) = run.Writable r
ValueWritable (Owned p maker s) = (option number & state).Writable (maker, s)
ValueWritable (Create dir) = Unit {0}
ValueWritable (Modify n) = Unit {0}

-- the record isn't refused: no text of it has 2^32 bytes or more, and no list of it 2^32 members or more
abbrev pub IsWritable : Record → Type 0
IsWritable r = KeyWritable r × ValueWritable r

-- its value has 2^32 bytes or more
abbrev pub IsLong : Record → Type 0
IsLong r = 2 ^ 32 ≤ length (value_of r)

-- a key and a value are the spelling of a record
abbrev pub IsSpelled : List ℕ → List ℕ → Record → Type 0
IsSpelled key value r = Fits r × (key ≡ key_of r) × (value ≡ value_of r)
