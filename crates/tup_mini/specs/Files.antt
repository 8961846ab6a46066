-- How a command reads and writes files (own).
use Rattle.std.specs.Prelude.{ℕ, ◌+◌, nat_lt, if◌then◌else◌, List, [], ◌∷◌, ◌++◌, length, Option, None, Some}
use Rattle.tup_path.specs.Name.{Content}
use Rattle.tup_mini.specs.Kept.{own_content, with_write}
use Rattle.tup_mini.specs.Part.{Part, ◌>>=◌, gives, stops, ask_for}

-- one more read of an own write; the 4,096th gives status 4
abbrev pub reads_own : Content → Part (Option Content)
reads_own content = λ kept asks.
    if nat_lt kept.own_reads 4095 then gives (Some content) (record kept { own_reads = kept.own_reads + 1 }) asks
    else stops 4 kept asks

-- a file is read: what the command wrote there, without an ask, or else what stands there, each time anew
abbrev pub reads : List ℕ → Part (Option Content)
reads text = λ kept asks.
    elim (own_content kept.dir kept.writes text) [ Some content ↦ reads_own content kept asks | None ↦ ask_for text kept asks ]

-- what was found, or else status 1
abbrev pub there : Option Content → Part Content
there (Some content) = gives content
there None = stops 1

-- a file is read that has to be there
abbrev pub needs : List ℕ → Part Content
needs text = reads text >>= there

-- files are read in order, and their contents stand behind one another
abbrev pub gathers : Content → List (List ℕ) → Part Content
gathers front [] = gives front
gathers front (text ∷ texts) = needs text >>= λ content. gathers (front ++ content) texts

-- a file is written; more than 16,777,216 bytes give status 5
abbrev pub writes_to : List ℕ → Content → Part (Unit {0})
writes_to text content = λ kept asks.
    if nat_lt 16777216 (length content) then stops 5 kept asks
    else gives tt (record kept { writes = with_write kept.dir kept.writes text content }) asks
