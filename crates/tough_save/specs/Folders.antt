-- The calls before the first byte is written: which folder it is, and where in it the file is to stand.
use Rattle.std.specs.Prelude.{◌≡◌, ◌⊎◌, ℕ, true, List, Result, Ok, Err, String, string_bytes}
use Rattle.std.specs.declared.alloc.Global.{Global}
use Rattle.std.specs.Path.{PathStartsWith}
use Rattle.tough_files.specs.declared.files.FileKind.TheVariants.{Folder}
use Rattle.tough_files.specs.declared.files.FilesError.{FilesError}
use Rattle.tough_files.specs.declared.files.FilesError.TheVariants as files
use Rattle.tough_files.specs.Calls.{Answered, done, found, named, refused, kind_of, create_in, make_folders_to, canonical_of}
use Rattle.tough_save.specs.declared.error.Step.TheVariants as step
use Rattle.tough_save.specs.declared.error.Step.{Step}
use Rattle.tough_save.specs.declared.error.SaveError.{SaveError}
use Rattle.tough_save.specs.declared.error.SaveError.TheVariants.{Memory}
use Rattle.tough_save.specs.Errors.{IsRefusal, TellsNoFolder, TellsOutside}
use Rattle.tough_save.specs.Scripts.{Script, Asks, Stops}

-- a path, or why there is none
abbrev pub Found : Type 0
Found = Result (String Global) SaveError

-- it is this path; memory to tell it may be wanting
abbrev pub Gives : List ℕ → Found → Type 0
Gives path (Ok p) = string_bytes p ≡ path
Gives path (Err e) = ⊥

abbrev pub Fails : (SaveError → Type 0) → Found → Type 0
Fails tells (Ok p) = ⊥
Fails tells (Err e) = tells e

-- a call at this step on this path was refused, and nothing more is asked
abbrev pub Refuses : Step → List ℕ → FilesError → Found → Script
Refuses step path e result = Stops (Fails (IsRefusal step path e) result)

-- ---- the output folder

-- the path must be that of a folder
abbrev pub is_folder : List ℕ → Found → Answered → Script
is_folder path result (found Folder) = Stops (Gives path result)
is_folder path result (refused files.Memory) = Stops (Fails (λ e. e ≡ Memory) result)
is_folder path result answered = Stops (Fails (TellsNoFolder path) result)

abbrev pub looked_up : List ℕ → Found → Answered → Script
looked_up outdir result (named path) = Asks (kind_of path true) (is_folder path result)
looked_up outdir result (refused e) = Refuses step.FindFolder outdir e result
looked_up outdir result _ = Stops ⊥

-- the path of the output folder is looked up, and what stands there must be a folder
abbrev pub Opens : List ℕ → Found → Script
Opens outdir result = Asks (canonical_of outdir) (looked_up outdir result)

-- ---- the folder of the file

-- an empty temporary file is made there; a refusal is told of the folder as it was asked for
abbrev pub made_temp : List ℕ → Found → Answered → Script
made_temp parent result (named temp) = Stops (Gives temp result)
made_temp parent result (refused e) = Refuses step.CreateTemp parent e result
made_temp parent result _ = Stops ⊥

-- a file at the path is made only if its folder, as it was looked up, lies in the output folder, as that was looked up
abbrev pub Makes : List ℕ → List ℕ → List ℕ → List ℕ → List ℕ → Found → Script
Makes dir parent path real base result old new =
    (PathStartsWith real base × Asks (create_in real) (made_temp parent result) old new)
    ⊎ ((¬ PathStartsWith real base) × Stops (Fails (TellsOutside path dir) result) old new)

abbrev pub looked_up_base : List ℕ → List ℕ → List ℕ → List ℕ → Found → Answered → Script
looked_up_base dir parent path real result (named base) = Makes dir parent path real base result
looked_up_base dir parent path real result (refused e) = Refuses step.ResolveFolder dir e result
looked_up_base dir parent path real result _ = Stops ⊥

abbrev pub looked_up_parent : List ℕ → List ℕ → List ℕ → Found → Answered → Script
looked_up_parent dir parent path result (named real) = Asks (canonical_of dir) (looked_up_base dir parent path real result)
looked_up_parent dir parent path result (refused e) = Refuses step.ResolveFolder parent e result
looked_up_parent dir parent path result _ = Stops ⊥

abbrev pub made_folders : List ℕ → List ℕ → List ℕ → Found → Answered → Script
made_folders dir parent path result done = Asks (canonical_of parent) (looked_up_parent dir parent path result)
made_folders dir parent path result (refused e) = Refuses step.MakeFolders parent e result
made_folders dir parent path result _ = Stops ⊥

-- the folder of the file is made, its path and that of the output folder are looked up, and a temporary file is made there
abbrev pub MakesTemp : List ℕ → List ℕ → List ℕ → Found → Script
MakesTemp dir parent path result = Asks (make_folders_to parent) (made_folders dir parent path result)
