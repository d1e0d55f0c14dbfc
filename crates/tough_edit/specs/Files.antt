-- The target that an editor makes of a file (TUF specification 1.0, section 4.5, TARGETS).
use Rattle.std.specs.Prelude.{◌≡◌, ◌≢◌, ⊤, ℕ, List, [], ◌∷◌, ◌++◌, Option, Some, None, Ok, Err, string_bytes}
use Rattle.std.specs.Path.{path_file_name}
use Rattle.tough_files.specs.Contents.{Node, Contents}
use Rattle.tough_names.specs.Named.{Named, clean}
use Rattle.tough_schema.specs.FileDigest.{there}
use Rattle.tough_schema.specs.FromPath.{IsTargetOf}
use Rattle.tough_schema.specs.declared.file_digest.FileError.TheVariants as why
use Rattle.tough_schema.specs.declared.target.Target.{Target}
use Rattle.std.specs.Borrow.{Bor}
use Rattle.tough_schema.specs.Target.{TargetDoc, target_doc}
use Rattle.tough_edit.specs.Edits.{EditsDoc, with_target}
use Rattle.tough_signed.specs.declared.error.EditError.{EditError}
use Rattle.tough_signed.specs.declared.error.EditError.TheVariants as errors

-- the name is the path's last component, as it stands
abbrev pub IsNamed : List ℕ → Named → Type 0
IsNamed path name = (path_file_name path ≡ Some name.raw) × (clean name.raw ≡ Ok name.resolved)

-- Why the file at the path is no target: the path has no last component; that is no name; what stands there is no file, or can't be read. Want of
-- memory says nothing.
abbrev pub IsNoTarget : List ℕ → Option Node → EditError → Type 0
IsNoTarget path n (errors.NoFileName p) = (string_bytes p ≡ path) × (path_file_name path ≡ None)
IsNoTarget path n (errors.Name e) = (raw : List ℕ) × (path_file_name path ≡ Some raw) × (clean raw ≡ Err e)
IsNoTarget path n (errors.TargetFromPath p e) = (e ≢ why.Memory) × (string_bytes p ≡ path) × (name : Named) × IsNamed path name × IsTargetOf n (Err e)
IsNoTarget path n errors.Memory = ⊤
IsNoTarget path n _ = ⊥

-- the path's target is added under its name
abbrev pub IsAdded : List ℕ → EditsDoc → EditsDoc → Type 0
IsAdded path e after = (name : Named) × (t : TargetDoc) × IsNamed path name × (after ≡ with_target name t e)

-- the same, of what stands there
abbrev pub IsAddedOf : List ℕ → Option Node → EditsDoc → EditsDoc → Type 0
IsAddedOf path n e after = (name : Named) × (t : Target) × IsNamed path name × IsTargetOf n (Ok t) × (after ≡ with_target name (target_doc t) e)

-- each path's target is added, one after another
abbrev pub AreAdded : List (Bor (List ℕ)) → EditsDoc → EditsDoc → Type 0
AreAdded [] e after = after ≡ e
AreAdded (p ∷ ps) e after = (next : EditsDoc) × IsAdded p.now e next × AreAdded ps next after

-- the first of the paths are added so
abbrev pub SomeAdded : List (Bor (List ℕ)) → EditsDoc → EditsDoc → Type 0
SomeAdded ps e after = (done rest : List (Bor (List ℕ))) × (ps ≡ done ++ rest) × AreAdded done e after

-- each path's target is added, one after another, of what stands there
abbrev pub AreAddedOf : Contents → List (Bor (List ℕ)) → EditsDoc → EditsDoc → Type 0
AreAddedOf contents [] e after = after ≡ e
AreAddedOf contents (p ∷ ps) e after = (next : EditsDoc) × IsAddedOf p.now (there p.now contents) e next × AreAddedOf contents ps next after

-- the paths before one are added so, and the file at that one is no target
abbrev pub IsStopped : Contents → List (Bor (List ℕ)) → EditsDoc → EditsDoc → EditError → Type 0
IsStopped contents ps e after error = (done : List (Bor (List ℕ))) × (p : Bor (List ℕ)) × (rest : List (Bor (List ℕ))) × (ps ≡ done ++ p ∷ rest) × AreAddedOf contents done e after × IsNoTarget p.now (there p.now contents) error

-- the same, whatever they added
abbrev pub AreRefused : Contents → List (Bor (List ℕ)) → EditsDoc → EditError → Type 0
AreRefused contents ps e error = (after : EditsDoc) × IsStopped contents ps e after error
