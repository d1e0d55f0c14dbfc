-- A file that is read whole.
use Rattle.std.specs.Prelude.{◌≡◌, ◌⊎◌, ⊤, ℕ, List, ◌++◌, length, take, drop, Option, Some, None, Result, Ok, Err, Vec}
use Rattle.std.specs.declared.alloc.Global.{Global}
use Rattle.tough_files.specs.Contents.{Node, file}
use Rattle.tough_files.specs.declared.files.FilesError.{FilesError}
use Rattle.tough_files.specs.declared.files.FilesError.TheVariants as fault
use Rattle.tough_schema.specs.FileDigest.{IsOther, IsEndless}

-- why what stands there can't be read: nothing does, or no file, or one without an end
abbrev pub IsUnread : Option Node → FilesError → Type 0
IsUnread n fault.NotFound = n ≡ None
IsUnread n fault.Failed = IsOther n ⊎ IsEndless n
IsUnread n fault.Memory = ⊥

-- the bytes of the file that stands there; or why it can't be read, or memory was wanting
abbrev pub IsContent : Option Node → Result (Vec ℕ Global) FilesError → Type 0
IsContent n (Ok v) = n ≡ Some (file v.items)
IsContent n (Err e) = (e ≡ fault.Memory) ⊎ IsUnread n e

-- ---- words of private clauses

-- the bytes of the file that a read takes behind those that are there
abbrev pub next_piece : List ℕ → List ℕ → List ℕ
next_piece old bytes = take 4096 (drop (length old) bytes)

-- what reading on comes to
abbrev pub ReadsOn : Option Node → List ℕ → Result ℕ FilesError → List ℕ → Type 0
ReadsOn n old (Ok count) new = (bytes : List ℕ) × (n ≡ Some (file bytes)) × (new ≡ old ++ next_piece old bytes) × (count ≡ length (next_piece old bytes))
ReadsOn n old (Err fault.NotFound) new = n ≡ None
ReadsOn n old (Err fault.Failed) new = IsOther n
ReadsOn n old (Err fault.Memory) new = ⊤
