-- What a store over a folder tells: how often the device failed, and which names its files may have (the TUF specification 1.0, section 5, leaves how a client keeps its files open).
use Rattle.std.specs.Prelude.{◌≡◌, ◌≢◌, ◌<◌, ◌≤◌, ℕ, List, length, Option, None, IsSome, Result, IsErrOf, codes, string_bytes, Contains, false, nat_eq}
use Rattle.std.specs.List.{starts_with}
use Rattle.std.specs.declared.io.Error.{Error}
use Rattle.tough_vault.specs.declared.folder.DirStore.{DirStore}
use Rattle.tough_vault.specs.Replacing.{HasFailed}
use Rattle.tough_vault.specs.Stored.{Files}
use Rattle.tough_vault.specs.declared.store.Replaced.{Replaced}
use Rattle.tough_vault.specs.declared.store.StoreError.{StoreError}
use Rattle.tough_vault.specs.declared.store.StoreError.TheVariants.{Failed}

abbrev pub store_failures : {R : Type 0} → DirStore R → ℕ
store_failures store = store.failures

abbrev pub removals_of : {R : Type 0} → DirStore R → ℕ
removals_of store = store.removals

abbrev pub changes_of : {R : Type 0} → DirStore R → ℕ
changes_of store = store.changes

-- what is told of the files, which is nothing
abbrev pub no_files : {R : Type 0} → DirStore R → Files
no_files store name = None

-- what the operating system said when a call last failed
abbrev pub last_fault : {R : Type 0} → DirStore R → Option Error
last_fault store = store.fault

-- a call that failed keeps what was said of it; others change nothing of that
pub record KeepsFault {T : Type 0} (before now : Option Error) (result : Result T StoreError) : Type 0 where
  pub failed : IsErrOf result Failed → IsSome now
  pub quiet : (IsErrOf result Failed → ⊥) → now ≡ before

-- the same of a call that writes a file and removes two others
pub record KeepsFaultOf (before now : Option Error) (result : Replaced) : Type 0 where
  pub failed : HasFailed result → IsSome now
  pub quiet : (HasFailed result → ⊥) → now ≡ before

-- the folder's path
abbrev pub folder_of : {R : Type 0} → DirStore R → List ℕ
folder_of store = string_bytes store.folder

-- what the folder is reached by
abbrev pub runtime_of : {R : Type 0} → DirStore R → R
runtime_of store = store.rt

-- a name that a file of the folder can have, and that is none of the store's own
pub record IsFileName (name : List ℕ) : Type 0 where
  pub not_empty : 0 < length name
  pub not_here : name ≢ codes "."
  pub not_above : name ≢ codes ".."
  pub not_own : starts_with nat_eq name (codes "+") ≡ false
  pub no_slash : Contains name 47 → ⊥
  pub fits : length name ≤ 255
