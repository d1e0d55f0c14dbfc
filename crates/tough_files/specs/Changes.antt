-- What each call answers, and what it leaves (the calls of POSIX, section "System Interfaces", over nodes at paths).
use Rattle.std.specs.Prelude.{◌≡◌, ◌≢◌, ◌⊎◌, ⊤, ℕ, Bool, false, IsSome, Contains, List, [], ◌++◌, Option, Some, None, if◌then◌else◌, take, drop, bytes_eq, codes, decimal}
use Rattle.std.specs.List.{IsDistinct}
use Rattle.std.specs.Map.{update}
use Rattle.std.specs.Path.{path_join, path_parent, path_file_name}
use Rattle.tough_files.specs.declared.files.FileKind.TheVariants.{File, Folder, Link}
use Rattle.tough_files.specs.declared.files.FilesError.TheVariants.{NotFound, Failed, Memory}
use Rattle.tough_files.specs.Calls.{Answered, done, found, got, named, listed, refused}
use Rattle.tough_files.specs.Contents.{Node, file, folder, link, Contents, Same, followed, seen, is_base, node_at, is_folder, has_folder}

-- what a call answers where there is memory, and what is there after it
pub record Outcome : Type 0 where
  pub answered : Answered
  pub after : Contents

-- the call answered this, and left that; or it found no memory, and changed nothing
abbrev pub Gives : Outcome → Contents → Answered → Contents → Type 0
Gives outcome before (refused Memory) after = Same before after
Gives outcome before answered after = (answered ≡ outcome.answered) × Same outcome.after after

abbrev pub answer_only : Answered → Contents → Outcome
answer_only answered contents = record { answered = answered; after = contents }

abbrev pub put : Contents → List ℕ → Option Node → Contents
put contents path node = update bytes_eq contents path node

abbrev pub does : Contents → List ℕ → Option Node → Outcome
does contents path node = record { answered = done; after = put contents path node }

abbrev pub kind_answer : Option Node → Answered
kind_answer None = refused NotFound
kind_answer (Some (file bytes)) = found File
kind_answer (Some folder) = found Folder
kind_answer (Some (link target)) = found Link

abbrev pub kind_outcome : List ℕ → Bool → Contents → Outcome
kind_outcome path follows contents = answer_only (kind_answer (node_at contents (seen follows contents path))) contents

abbrev pub read_answer : ℕ → ℕ → Option Node → Answered
read_answer start len None = refused NotFound
read_answer start len (Some (file bytes)) = got (take len (drop start bytes))
read_answer start len (Some node) = refused Failed

abbrev pub read_outcome : List ℕ → ℕ → ℕ → Contents → Outcome
read_outcome path start len contents = answer_only (read_answer start len (node_at contents (followed contents path))) contents

-- a new file where the folder is there
abbrev pub new_outcome : Contents → List ℕ → Node → Outcome
new_outcome contents path node = if has_folder contents path then does contents path (Some node) else answer_only (refused NotFound) contents

-- a file with these bytes at a path where this stands
abbrev pub write_over : List ℕ → Contents → List ℕ → Option Node → Outcome
write_over bytes contents path None = new_outcome contents path (file bytes)
write_over bytes contents path (Some (file old)) = does contents path (Some (file bytes))
write_over bytes contents path (Some other) = answer_only (refused Failed) contents

abbrev pub write_outcome : List ℕ → List ℕ → Contents → Outcome
write_outcome bytes path contents = write_over bytes contents (followed contents path) (node_at contents (followed contents path))

abbrev pub create_outcome : List ℕ → Contents → Outcome
create_outcome path contents = write_outcome [] path contents

abbrev pub append_over : List ℕ → Contents → List ℕ → Option Node → Outcome
append_over bytes contents path None = answer_only (refused NotFound) contents
append_over bytes contents path (Some (file old)) = does contents path (Some (file (old ++ bytes)))
append_over bytes contents path (Some other) = answer_only (refused Failed) contents

abbrev pub append_outcome : List ℕ → List ℕ → Contents → Outcome
append_outcome path bytes contents = append_over bytes contents (followed contents path) (node_at contents (followed contents path))

abbrev pub copy_over : List ℕ → Contents → Option Node → Outcome
copy_over path contents None = answer_only (refused NotFound) contents
copy_over path contents (Some (file bytes)) = write_outcome bytes path contents
copy_over path contents (Some other) = answer_only (refused Failed) contents

-- the first path is the original's
abbrev pub copy_outcome : List ℕ → List ℕ → Contents → Outcome
copy_outcome original path contents = copy_over path contents (node_at contents (followed contents original))

-- the node stands at the new path, and no longer at the old one
abbrev pub moved : List ℕ → List ℕ → Node → Contents → Contents
moved old new node contents = if bytes_eq old new then contents else put (put contents new (Some node)) old None

abbrev pub move_over : List ℕ → List ℕ → Node → Contents → Option Node → Outcome
move_over old new node contents (Some folder) = answer_only (refused Failed) contents
move_over old new node contents there = if has_folder contents new then record { answered = done; after = moved old new node contents } else answer_only (refused NotFound) contents

abbrev pub rename_over : List ℕ → List ℕ → Contents → Option Node → Outcome
rename_over old new contents None = answer_only (refused NotFound) contents
rename_over old new contents (Some folder) = answer_only (refused Failed) contents
rename_over old new contents (Some node) = move_over old new node contents (node_at contents new)

-- folders aren't moved; links are, as they stand
abbrev pub rename_outcome : List ℕ → List ℕ → Contents → Outcome
rename_outcome old new contents = rename_over old new contents (node_at contents old)

abbrev pub place_over : Node → List ℕ → Contents → Option Node → Outcome
place_over node path contents None = new_outcome contents path node
place_over node path contents (Some there) = answer_only (refused Failed) contents

-- a link to the original, which need not be there
abbrev pub link_outcome : List ℕ → List ℕ → Contents → Outcome
link_outcome original path contents = place_over (link original) path contents (node_at contents path)

-- the path of a temporary file in a folder
abbrev pub temp_path : List ℕ → ℕ → List ℕ
temp_path dir number = path_join dir (codes ".tmp" ++ decimal number)

abbrev pub temp_over : List ℕ → Contents → Option Node → Outcome
temp_over path contents None = record { answered = named path; after = put contents path (Some (file [])) }
temp_over path contents (Some there) = answer_only (refused Failed) contents

abbrev pub temp_in : List ℕ → Contents → Option Node → Outcome
temp_in path contents None = answer_only (refused NotFound) contents
temp_in path contents (Some folder) = temp_over path contents (node_at contents path)
temp_in path contents (Some other) = answer_only (refused Failed) contents

-- an empty file at this path in the folder
abbrev pub temp_outcome : List ℕ → List ℕ → Contents → Outcome
temp_outcome dir path contents = temp_in path contents (node_at contents dir)

-- nothing stood at the path of this number; where there was no memory, none was looked for
abbrev pub IsFresh : List ℕ → ℕ → Contents → Answered → Type 0
IsFresh dir number before (refused Memory) = ⊤
IsFresh dir number before answered = node_at before (temp_path dir number) ≡ None

-- an empty file in the folder, at the path of some number where nothing stood
abbrev pub CreatesTemp : List ℕ → Contents → Answered → Contents → Type 0
CreatesTemp dir before answered after = (number : ℕ) × Gives (temp_outcome dir (temp_path dir number) before) before answered after × IsFresh dir number before answered

abbrev pub remove_over : List ℕ → Contents → Option Node → Outcome
remove_over path contents None = answer_only (refused NotFound) contents
remove_over path contents (Some folder) = answer_only (refused Failed) contents
remove_over path contents (Some node) = does contents path None

-- a file or a link itself
abbrev pub remove_outcome : List ℕ → Contents → Outcome
remove_outcome path contents = remove_over path contents (node_at contents path)

abbrev pub canonical_answer : List ℕ → Option Node → Answered
canonical_answer path None = refused NotFound
canonical_answer path (Some (link target)) = refused Failed
canonical_answer path (Some node) = named path

abbrev pub canonical_outcome : List ℕ → Contents → Outcome
canonical_outcome path contents = answer_only (canonical_answer (followed contents path) (node_at contents (followed contents path))) contents

-- p is the path, or stands above it
pub data IsAbove (p : List ℕ) : List ℕ → Type 0 where
  itself : IsAbove p p
  under : {path dir : List ℕ} → path_parent path ≡ Some dir → IsAbove p dir → IsAbove p path

-- what is at p after the folders of the path were made: what was there, or a new folder
abbrev pub Grows : List ℕ → List ℕ → Option Node → Option Node → Type 0
Grows path p before after = (after ≡ before) ⊎ ((before ≡ None) × (after ≡ Some folder) × IsAbove p path)

-- a call that makes each folder of the path, and the path itself a folder; on the way it may have made some of them
pub record MakesFolders (path : List ℕ) (before : Contents) (answered : Answered) (after : Contents) : Type 0 where
  pub grows : (p : List ℕ) → Grows path p (before p) (after p)
  pub made : answered ≡ done → (p : List ℕ) → IsAbove p path → is_base p ≡ false → after p ≡ Some folder
  pub stopped : answered ≡ refused Failed → (p : List ℕ) × IsAbove p path × IsSome (before p) × (is_folder (before p) ≡ false)
  pub found : answered ≢ refused NotFound

abbrev pub folder_over : List ℕ → Contents → Option Node → Outcome
folder_over path contents None = does contents path (Some folder)
folder_over path contents (Some folder) = answer_only done contents
folder_over path contents (Some other) = answer_only (refused Failed) contents

abbrev pub is_child_of : List ℕ → Option (List ℕ) → Bool
is_child_of dir None = false
is_child_of dir (Some parent) = bytes_eq parent dir

-- the name of this path in the folder, if it stands in it
abbrev pub name_in : List ℕ → List ℕ → Option (List ℕ)
name_in dir path = if is_child_of dir (path_parent path) then path_file_name path else None

-- the names of what stands in the folder, each once, in some order
pub record IsListing (dir : List ℕ) (contents : Contents) (names : List (List ℕ)) : Type 0 where
  pub there : (name : List ℕ) → Contains names name → (path : List ℕ) × IsSome (contents path) × (name_in dir path ≡ Some name)
  pub all : (path name : List ℕ) → IsSome (contents path) → name_in dir path ≡ Some name → Contains names name
  pub once : IsDistinct bytes_eq names

abbrev pub list_answer : List (List ℕ) → Option Node → Answered
list_answer names None = refused NotFound
list_answer names (Some folder) = listed names
list_answer names (Some other) = refused Failed

-- such names of what stands in the folder
abbrev pub list_outcome : List ℕ → List (List ℕ) → Contents → Outcome
list_outcome dir names contents = answer_only (list_answer names (node_at contents dir)) contents

abbrev pub Lists : List ℕ → Contents → Answered → Contents → Type 0
Lists dir before answered after = (names : List (List ℕ)) × (answered ≡ listed names → IsListing dir before names) × Gives (list_outcome dir names before) before answered after
