-- Where a file is to stand.
use Rattle.std.specs.Prelude.{◌≡◌, ℕ, List, Some, None, string_bytes, ⊤}
use Rattle.std.specs.Path.{path_join, path_parent, PathStartsWith}
use Rattle.tough_save.specs.declared.error.SaveError.{SaveError}
use Rattle.tough_save.specs.declared.error.SaveError.TheVariants.{NoParent, Outside, Memory}
use Rattle.tough_save.specs.declared.place.Place.{Place}

-- the path of the file, and of the folder that it stands in
abbrev pub path_of : Place → List ℕ
path_of p = string_bytes p.path

abbrev pub parent_of : Place → List ℕ
parent_of p = string_bytes p.parent

-- the name is joined to the folder, and stands in it or below it
pub record IsPlace (dir name : List ℕ) (p : Place) : Type 0 where
  pub joined : path_of p ≡ path_join dir name
  pub above : path_parent (path_of p) ≡ Some (parent_of p)
  pub within : PathStartsWith (parent_of p) dir

-- why the name has no place in the folder
abbrev pub IsMisplaced : List ℕ → List ℕ → SaveError → Type 0
IsMisplaced dir name (NoParent path) = (string_bytes path ≡ path_join dir name) × (path_parent (string_bytes path) ≡ None)
IsMisplaced dir name (Outside path f) = (string_bytes path ≡ path_join dir name) × (string_bytes f ≡ dir)
    × ((parent : List ℕ) × (path_parent (string_bytes path) ≡ Some parent) × (¬ PathStartsWith parent dir))
IsMisplaced dir name Memory = ⊤
IsMisplaced dir name _ = ⊥
