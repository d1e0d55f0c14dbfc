-- The nodes that files in memory keep, as contents.
use Rattle.std.specs.Prelude.{List, [], ◌∷◌, ◌++◌, ℕ, Option, Some, None, if◌then◌else◌, option_map, String, string_bytes, bytes_eq}
use Rattle.std.specs.List.{list_any}
use Rattle.std.specs.BTreeMap.{get_by_text}
use Rattle.tough_files.specs.declared.tree.Stored.{Stored}
use Rattle.tough_files.specs.declared.tree.Stored.TheVariants.{File, Folder, Link}
use Rattle.tough_files.specs.declared.tree.Seen.{Seen}
use Rattle.tough_files.specs.declared.tree.Seen.TheVariants as sight
use Rattle.tough_files.specs.declared.tree.Tree.{Tree}
use Rattle.tough_files.specs.Contents.{Node, file, folder, link, Contents}
use Rattle.tough_files.specs.Changes.{name_in}

abbrev pub node_of : Stored → Node
node_of (File bytes) = file bytes.items
node_of Folder = folder
node_of (Link target) = link (string_bytes target)

abbrev pub seen_node : Seen → Node
seen_node (sight.File bytes) = file bytes.now.items
seen_node sight.Folder = folder
seen_node (sight.Link target) = link (string_bytes target.now)

abbrev pub contents_of : Tree → Contents
contents_of tree path = option_map node_of (get_by_text tree.nodes path)

-- the names, with one more unless it is among them
abbrev pub and_name : List (List ℕ) → Option (List ℕ) → List (List ℕ)
and_name names None = names
and_name names (Some name) = if list_any (bytes_eq name) names then names else names ++ name ∷ []

-- these names and those in the folder, each once, in the order of the entries' paths
abbrev pub entry_names : {A : Type 0} → List ℕ → List (List ℕ) → List (String A × Stored) → List (List ℕ)
entry_names dir names [] = names
entry_names dir names (entry ∷ entries) = entry_names dir (and_name names (name_in dir (string_bytes entry.0))) entries
