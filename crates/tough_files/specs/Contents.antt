-- What files hold: a node at each path that is there. Paths are taken as they stand; a link's target is a path (POSIX 1003.1, "Pathname Resolution", with paths that are already resolved).
use Rattle.std.specs.Prelude.{◌≡◌, ℕ, zero, suc, Bool, true, false, List, Option, Some, None, if◌then◌else◌, is_none}
use Rattle.std.specs.Path.{path_parent}

pub data Node : Type 0 where
  file : List ℕ → Node
  folder : Node
  link : List ℕ → Node

abbrev pub Contents : Type 0
Contents = List ℕ → Option Node

abbrev pub Same : Contents → Contents → Type 0
Same before after = (path : List ℕ) → after path ≡ before path

-- the root, and the current folder (the empty path): the paths without a parent
abbrev pub is_base : List ℕ → Bool
is_base path = is_none (path_parent path)

-- what stands at a path: the root and the current folder are always there
abbrev pub node_at : Contents → List ℕ → Option Node
node_at contents path = if is_base path then Some folder else contents path

abbrev pub past_link : Option Node → (List ℕ → List ℕ) → List ℕ → List ℕ
past_link (Some (link target)) go path = go target
past_link there go path = path

-- the path behind at most so many links
unfoldable pub follow : ℕ → Contents → List ℕ → List ℕ
follow zero contents path = path
follow (suc n) contents path = past_link (node_at contents path) (follow n contents) path

-- links in a row that are followed
abbrev pub max_links : ℕ
max_links = 40

abbrev pub followed : Contents → List ℕ → List ℕ
followed contents path = follow max_links contents path

abbrev pub seen : Bool → Contents → List ℕ → List ℕ
seen follows contents path = if follows then followed contents path else path

abbrev pub is_folder : Option Node → Bool
is_folder (Some folder) = true
is_folder there = false

abbrev pub folder_is_there : Contents → Option (List ℕ) → Bool
folder_is_there contents None = false
folder_is_there contents (Some dir) = is_folder (node_at contents dir)

-- the path has a parent, and that folder is there
abbrev pub has_folder : Contents → List ℕ → Bool
has_folder contents path = folder_is_there contents (path_parent path)
