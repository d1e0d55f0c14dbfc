-- Files of a folder that are replaced one after another, each by one rename of a whole file (POSIX 1003.1, rename: "the link named new shall remain visible to other threads throughout").
use Rattle.std.specs.Prelude.{◌≡◌, ◌⊎◌, ⊤, ℕ, Bool, false, List, [], ◌∷◌, Option, Some, None, if◌then◌else◌, string_bytes}
use Rattle.std.specs.List.{AllByRecursion}
use Rattle.std.specs.Path.{path_join}
use Rattle.std.specs.Str.{bytes_eq}
use Rattle.tough_files.specs.Changes.{put, temp_path}
use Rattle.tough_files.specs.Contents.{Contents, Node, file, Same, is_base, node_at}
use Rattle.tough_write.specs.declared.replace.NewFile.{NewFile}
use Rattle.tough_write.specs.declared.replace.ReplaceError.{ReplaceError}
use Rattle.tough_write.specs.declared.replace.ReplaceError.TheVariants as errors

-- a file's name in the folder, and its bytes
abbrev pub FileDoc : Type 0
FileDoc = List ℕ × List ℕ

abbrev pub file_doc : NewFile → FileDoc
file_doc f = (f.name.now, f.bytes.now)

-- A file with these bytes stands where nothing stood, and nothing else was changed.
pub record IsNew (path bytes : List ℕ) (before after : Contents) : Type 0 where
  pub fresh : node_at before path ≡ None
  pub holds : Same (put before path (Some (file bytes))) after

-- A file with these bytes stands at the path, which isn't the root or the current folder, and nothing else was changed.
pub record IsPut (path bytes : List ℕ) (before after : Contents) : Type 0 where
  pub inside : is_base path ≡ false
  pub holds : Same (put before path (Some (file bytes))) after

-- Nothing was changed, but that a new file may be left at the path.
abbrev pub IsLeftAt : List ℕ → Contents → Contents → Type 0
IsLeftAt path before after = Same before after ⊎ ((bytes : List ℕ) × IsNew path bytes before after)

-- Nothing was changed, but that a temporary file may be left in the folder.
abbrev pub IsLeft : List ℕ → Contents → Contents → Type 0
IsLeft folder before after = Same before after ⊎ ((number : ℕ) × (bytes : List ℕ) × IsNew (temp_path folder number) bytes before after)

-- The file stands in the folder under its name, and nothing else was changed.
abbrev pub IsReplaced : List ℕ → FileDoc → Contents → Contents → Type 0
IsReplaced folder f before after = IsPut (path_join folder f.0) f.1 before after

-- all of them, in their order
abbrev pub AreReplaced : List ℕ → List FileDoc → Contents → Contents → Type 0
AreReplaced folder [] before after = Same before after
AreReplaced folder (f ∷ fs) before after = (mid : Contents) × IsReplaced folder f before mid × AreReplaced folder fs mid after

-- The refusal tells this file's name.
abbrev pub TellsFile : FileDoc → ReplaceError → Type 0
TellsFile f (errors.Refused name source) = string_bytes name ≡ f.0
TellsFile f errors.Memory = ⊤

-- Those before one of them were replaced, in their order, that one, which the refusal tells, and those behind it weren't.
abbrev pub StopsAmong : List ℕ → List FileDoc → ReplaceError → Contents → Contents → Type 0
StopsAmong folder [] e before after = ⊥
StopsAmong folder (f ∷ fs) e before after = (TellsFile f e × IsLeft folder before after) ⊎ ((mid : Contents) × IsReplaced folder f before mid × StopsAmong folder fs e mid after)

-- of the files at this path the last one, else what was there
abbrev pub last_in : List ℕ → List ℕ → List FileDoc → Option Node → Option Node
last_in folder path [] there = there
last_in folder path (f ∷ fs) there = last_in folder path fs (if bytes_eq (path_join folder f.0) path then Some (file f.1) else there)

-- The path is none of the files' in the folder.
abbrev pub IsNoneOf : List ℕ → List FileDoc → List ℕ → Type 0
IsNoneOf folder files path = AllByRecursion (λ f. bytes_eq (path_join folder f.0) path ≡ false) files

-- The path is no temporary file's of the folder.
abbrev pub IsNoTemporary : List ℕ → List ℕ → Type 0
IsNoTemporary folder path = (number : ℕ) → bytes_eq (temp_path folder number) path ≡ false
