-- The large project: N folders of ten sources each, ten headers, and a library of each folder (own). Each source includes the
-- header of its number. The top joins all libraries.
use Rattle.std.specs.Prelude.{◌≡◌, ℕ, zero, suc, ◌/◌, ◌%◌, List, [], ◌∷◌, ◌++◌, None, codes, decimal, ⊤}
use Rattle.tup_path.specs.Name.{Names, Content}
use Rattle.tup_path.specs.Tree.{tree_of_files}
use Rattle.tup_site.specs.History.{contents_of}
use Rattle.tup_site.specs.Known.{IsKnown}
use Rattle.tup_site.specs.Memory.{tree_in, store_in, first_of, changes_of, faults_of, fails_of, left_of}
use Rattle.tup_site.specs.declared.memory.MemSite.{MemSite}
use Rattle.tup_site.specs.declared.refused.MemRefused.{MemRefused}
use Rattle.tup_site.specs.declared.refused.MemRefused.TheVariants.{SameStamp, Memory}

-- what comes of the numbers below one, from 0 on, one after another
abbrev pub each : {A : Type 0} → (ℕ → List A) → ℕ → List A
each gives zero = []
each gives (suc n) = each gives n ++ gives n

-- a file in a folder at the top
abbrev pub file_in : List ℕ → List ℕ → Content → Names × Content
file_in folder name content = (folder ∷ name ∷ [], content)

-- ---- the headers

-- the header of a number
abbrev pub header : ℕ → Names × Content
header number = file_in (codes "inc") (codes "h" ++ (decimal number ++ codes ".h")) (codes "#define H" ++ (decimal number ++ codes " 0\n"))

-- the ten headers
abbrev pub headers : List (Names × Content)
headers = each (λ number. header number ∷ []) 10

-- ---- the folders

-- the name of the folder of a number below 10,000, which has four digits there
abbrev pub folder_name : ℕ → List ℕ
folder_name number = codes "d" ++ (decimal (number / 1000) ++ (decimal (number / 100 % 10) ++ (decimal (number / 10 % 10) ++ decimal (number % 10))))

-- the Tupfile of a folder: an object of each source, and of all objects a library, which joins the group of libraries
abbrev pub folder_tupfile : List ℕ → Names × Content
folder_tupfile folder = file_in folder (codes "Tupfile") (codes ": foreach *.c |> incl %f %o |> %B.o\n: *.o |> cat %f > %o |> lib ../<libs>\n")

-- the source of a number in a folder: it includes a header, and declares a name of its own
abbrev pub source : List ℕ → ℕ → Names × Content
source folder number =
    file_in folder (codes "s" ++ (decimal number ++ codes ".c"))
    (codes "#include \"../inc/h" ++ (decimal number ++ (codes ".h\"\nint " ++ (folder ++ (codes "_s" ++ (decimal number ++ codes ";\n"))))))

-- the ten sources of a folder
abbrev pub sources : List ℕ → List (Names × Content)
sources folder = each (λ number. source folder number ∷ []) 10

-- the files of a folder
abbrev pub files_in : List ℕ → List (Names × Content)
files_in folder = folder_tupfile folder ∷ sources folder

-- those of so many folders
abbrev pub all_folders : ℕ → List (Names × Content)
all_folders folders = each (λ number. files_in (folder_name number)) folders

-- ---- the project

-- the Tupfile of the top: what joins the group of libraries is joined to one file
abbrev pub top_tupfile : Names × Content
top_tupfile = (codes "Tupfile" ∷ [], codes ": <libs> |> cat %<libs> > %o |> all\n")

-- the files of a project of so many folders
abbrev pub large_files : ℕ → List (Names × Content)
large_files folders = top_tupfile ∷ headers ++ all_folders folders

-- A site in memory that was just made of these files: its store is empty, nothing happened to it, and none of its calls is to fail.
pub record IsNew (files : List (Names × Content)) (site : MemSite) : Type 0 where
  pub tree : tree_in site ≡ tree_of_files files
  pub store : store_in site ≡ []
  pub first : first_of site ≡ files
  pub changes : changes_of site ≡ []
  pub faults : faults_of site ≡ 0
  pub fails : fails_of site ≡ []
  pub left : left_of site ≡ None

-- why no site is made of these files: two of their contents have one stamp, or there was no memory
abbrev pub RefusesFiles : List (Names × Content) → MemRefused → Type 0
RefusesFiles files SameStamp = ¬ IsKnown (contents_of files)
RefusesFiles files Memory = ⊤
RefusesFiles files other = ⊥
