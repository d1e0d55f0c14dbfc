-- The calls by which the files of a folder, and of those below it, are copied or linked.
use Rattle.std.specs.Prelude.{◌≡◌, ℕ, zero, suc, true, false, List, map, None, Ok, Err, String, Vec, string_bytes, IsPermutation}
use Rattle.std.specs.declared.alloc.Global.{Global}
use Rattle.std.specs.List.Sorted.{IsSorted}
use Rattle.std.specs.Cmp.Lexicographic.{slice_cmp}
use Rattle.std.specs.Ordering.{nat_cmp, on}
use Rattle.std.specs.Path.{path_join}
use Rattle.tough_files.specs.declared.files.FileKind.TheVariants as kind
use Rattle.tough_files.specs.declared.files.FilesError.TheVariants as files
use Rattle.tough_files.specs.Calls.{Answered, found, listed, refused, kind_of, list_of}
use Rattle.tough_save.specs.Scripts.{Script, Asks, Stops}
use Rattle.tough_write.specs.declared.error.OutputError.TheVariants as error
use Rattle.tough_write.specs.declared.walk.Entry.{Entry}
use Rattle.tough_write.specs.declared.walk.Entry.TheVariants as entry
use Rattle.tough_write.specs.Errors.{TellsRefusal}
use Rattle.tough_write.specs.Putting.{Manner, Puts}
use Rattle.tough_write.specs.Steps.{Done, EachOf, Fails, IfMemory, IsDone, MakesFolders, Outcome, Resolves, Then}

-- most folders below one that is walked
abbrev pub max_depth : ℕ
max_depth = 128

-- ---- what a folder has

-- the names that were answered, in the order of their bytes
abbrev pub is_listed : List ℕ → Outcome (Vec (String Global) Global) → Answered → Type 0
is_listed root (Ok names) (listed texts) = (given : List (String Global)) × (map string_bytes given ≡ texts) × IsPermutation given names.items
    × IsSorted (on string_bytes (slice_cmp nat_cmp)) names.items
is_listed root (Err e) (listed texts) = e ≡ error.Memory
is_listed root (Err e) (refused why) = TellsRefusal error.WalkDir root why e
is_listed root _ _ = ⊥

abbrev pub Lists : List ℕ → List ℕ → Outcome (Vec (String Global) Global) → Script
Lists root dir result = Asks (list_of dir) (λ answered. Stops (is_listed root result answered))

-- a folder, and not a link to one, is walked
abbrev pub is_inner : List ℕ → Outcome Entry → Answered → Type 0
is_inner root result (found kind.Folder) = result ≡ Ok entry.Folder
is_inner root result (found k) = result ≡ Ok entry.Passed
is_inner root result (refused why) = Fails (TellsRefusal error.WalkDir root why) result
is_inner root result _ = ⊥

abbrev pub LooksInner : List ℕ → List ℕ → Outcome Entry → Script
LooksInner root path result = Asks (kind_of path false) (λ answered. Stops (is_inner root result answered))

-- a file, or a link to one, is put
abbrev pub looked : List ℕ → List ℕ → Outcome Entry → Answered → Script
looked root path result (found kind.File) = Stops (result ≡ Ok entry.File)
looked root path result (found kind.Folder) = LooksInner root path result
looked root path result (found k) = Stops (result ≡ Ok entry.Passed)
looked root path result (refused why) = Stops (Fails (TellsRefusal error.WalkDir root why) result)
looked root path result _ = Stops ⊥

abbrev pub Looks : List ℕ → List ℕ → Outcome Entry → Script
Looks root path result = Asks (kind_of path true) (looked root path result)

-- ---- what is done with it

-- what is no target is passed over
abbrev pub Passes : Done → Done → Type 0
Passes (Ok u) result = IsDone result
Passes (Err (error.PathIsNotTarget p)) result = IsDone result
Passes (Err e) result = result ≡ Err e

abbrev pub Takes : Manner → List ℕ → Done → Script
Takes m path result old new = (r : Done) × Puts m path None r old new × Passes r result

-- the folder is one too deep
abbrev pub IsTooDeep : List ℕ → Done → Script
IsTooDeep root result = Stops (Fails (TellsRefusal error.WalkDir root files.Failed) result)

module _ (m : Manner) (root : List ℕ) (enters : List ℕ → Done → Script) where
  abbrev pub Visits : List ℕ → Entry → Done → Script
  Visits path entry.File = Takes m path
  Visits path entry.Folder = enters path
  Visits path entry.Passed = λ result. Stops (IsDone result)

  -- what stands at this name in the folder
  abbrev pub VisitsName : List ℕ → String Global → Done → Script
  VisitsName dir name = IfMemory (Then (Looks root (path_join dir (string_bytes name))) (Visits (path_join dir (string_bytes name))))

  -- all that the folder has, in the order of the names' bytes
  abbrev pub WalksFolder : List ℕ → Done → Script
  WalksFolder dir = Then (Lists root dir) (λ names. EachOf (VisitsName dir) names.items)

-- a folder is entered, with so many folders from it on at most
unfoldable pub Enters : Manner → List ℕ → ℕ → List ℕ → Done → Script
Enters m root zero path = IsTooDeep root
Enters m root (suc n) path = WalksFolder m root (Enters m root n) path

-- a folder is walked, with so many folders below it at most
abbrev pub Walks : Manner → List ℕ → ℕ → List ℕ → Done → Script
Walks m root left dir = WalksFolder m root (Enters m root left) dir

-- what stands at the path is looked at, and is put, entered or passed over
abbrev pub VisitsPath : Manner → List ℕ → ℕ → List ℕ → Done → Script
VisitsPath m root left path = Then (Looks root path) (Visits m root (Enters m root left) path)

-- The output folder is made, and the path of the input folder is looked up; that is walked.
abbrev pub PutsAll : Manner → List ℕ → Done → Script
PutsAll m indir = Then (MakesFolders m.outdir) (λ u. Then (Resolves indir) (λ root. Walks m (string_bytes root) max_depth (string_bytes root)))
