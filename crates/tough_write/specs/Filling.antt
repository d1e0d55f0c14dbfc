-- What files hold after others were written into a folder.
use Rattle.std.specs.Prelude.{◌≡◌, ℕ, Bool, true, false, List, [], ◌∷◌, Option, Some, None, bytes_eq, if◌then◌else◌}
use Rattle.std.specs.Path.{path_join}
use Rattle.tough_files.specs.Changes.{Grows, put}
use Rattle.tough_files.specs.Contents.{Node, file, link, Contents, Same, followed, is_base, node_at}
use Rattle.tough_write.specs.Writing.{FileDoc}

abbrev pub file_path : List ℕ → FileDoc → List ℕ
file_path outdir f = path_join outdir f.0

-- ---- what writing leaves

-- The file at the path, links followed, holds these bytes and no others, and nothing else was changed.
pub record IsPut (path bytes : List ℕ) (before after : Contents) : Type 0 where
  pub place : is_base (followed before path) ≡ false
  pub holds : Same (put before (followed before path) (Some (file bytes))) after

-- The folder was made, and those above it; then the file was put there.
pub record IsPutIn (outdir : List ℕ) (f : FileDoc) (before after : Contents) : Type 0 where
  pub made : Contents
  pub folders : (path : List ℕ) → Grows outdir path (before path) (made path)
  pub puts : IsPut (file_path outdir f) f.1 made after

-- the files were put there, one after another
abbrev pub Fills : List ℕ → List FileDoc → Contents → Contents → Type 0
Fills outdir [] before after = Same before after
Fills outdir (f ∷ fs) before after = (mid : Contents) × IsPutIn outdir f before mid × Fills outdir fs mid after

-- ---- what is read then

-- the bytes of a file
abbrev pub file_bytes : Option Node → Option (List ℕ)
file_bytes (Some (file bytes)) = Some bytes
file_bytes there = None

-- what a file at the path holds, links followed
abbrev pub content_at : Contents → List ℕ → Option (List ℕ)
content_at contents path = file_bytes (node_at contents (followed contents path))

abbrev pub is_link : Option Node → Bool
is_link (Some (link target)) = true
is_link there = false

abbrev pub HasNoLink : Contents → List ℕ → Type 0
HasNoLink contents path = is_link (contents path) ≡ false

-- of the files at this path the last one's bytes, else what was there
abbrev pub last_at : List ℕ → List ℕ → List FileDoc → Option (List ℕ) → Option (List ℕ)
last_at outdir path [] there = there
last_at outdir path (f ∷ fs) there = last_at outdir path fs (if bytes_eq (file_path outdir f) path then Some f.1 else there)

-- At a path where no link stood a file holds the bytes of the last file written there; where none was, what it held.
abbrev pub ReadsBack : List ℕ → List FileDoc → Contents → Contents → Type 0
ReadsBack outdir files before after = (path : List ℕ) → HasNoLink before path
    → content_at after path ≡ last_at outdir path files (content_at before path)
