-- The calls by which the file of a target is copied or linked into a folder.
use Rattle.std.specs.Prelude.{◌≡◌, ◌≢◌, ◌⊎◌, ℕ, Bool, true, false, List, [], Option, Some, None, IfSome, IsSomeAnd, option_map, Result, Ok, Err, codes, String, string_bytes}
use Rattle.std.specs.Borrow.{Bor}
use Rattle.std.specs.declared.alloc.Global.{Global}
use Rattle.std.specs.Path.{path_file_name, path_join, path_parent, PathStartsWith}
use Rattle.tough_files.specs.declared.files.FileKind.TheVariants.{File, Link}
use Rattle.tough_files.specs.declared.files.FilesError.{FilesError}
use Rattle.tough_files.specs.declared.files.FilesError.TheVariants as files
use Rattle.tough_files.specs.Calls.{Answered, found, refused, kind_of, copy_to, link_to, remove_at}
use Rattle.tough_names.specs.declared.name.NameError.{NameError}
use Rattle.tough_names.specs.Named.{Named, clean}
use Rattle.tough_roles.specs.Timestamp.{HashesDoc}
use Rattle.tough_save.specs.Places.{path_of, parent_of, IsPlace}
use Rattle.tough_save.specs.declared.place.Place.{Place}
use Rattle.tough_save.specs.Scripts.{Script, Asks, Stops}
use Rattle.tough_save.specs.Targets.{file_name}
use Rattle.tough_schema.specs.declared.file_digest.Digests.{Digests}
use Rattle.tough_schema.specs.declared.file_digest.Digests.TheVariants as asked
use Rattle.tough_schema.specs.declared.file_digest.FileError.{FileError}
use Rattle.tough_schema.specs.declared.file_digest.FileError.TheVariants as why
use Rattle.tough_schema.specs.declared.file_digest.Measured.{Measured}
use Rattle.tough_schema.specs.Measuring.{MeasuresBy, ReadsAll}
use Rattle.tough_schema.specs.Tree.{Listing}
use Rattle.tough_write.specs.declared.error.OutputError.{OutputError}
use Rattle.tough_write.specs.declared.error.OutputError.TheVariants as error
use Rattle.tough_write.specs.declared.path_exists.PathExists.{PathExists}
use Rattle.tough_write.specs.declared.path_exists.PathExists.TheVariants.{Skip, Replace, Fail}
use Rattle.tough_write.specs.declared.put.Chosen.{Chosen}
use Rattle.tough_write.specs.declared.put.Making.{Making}
use Rattle.tough_write.specs.declared.put.Making.TheVariants as make
use Rattle.tough_write.specs.declared.put.Putting.{Putting}
use Rattle.tough_write.specs.declared.target_files.TargetFiles.{TargetFiles}
use Rattle.tough_write.specs.Errors.{Tells, TellsKind, TellsMismatch, TellsRefusal, TellsUnsafe}
use Rattle.tough_write.specs.Listed.{is_consistent, listed_hashes, listing_in}
use Rattle.tough_write.specs.Steps.{Done, Does, Fails, IsDone, MakesFolders, Outcome, Resolves, Then}

-- how files are put into a folder
pub record Manner : Type 0 where
  pub making : Making
  pub outdir : List ℕ
  pub exists : PathExists
  pub listing : Listing
  pub consistent : Bool

abbrev pub manner : TargetFiles → Making → List ℕ → PathExists → Manner
manner t making outdir exists = record { making = making; outdir = outdir; exists = exists; listing = listing_in t; consistent = is_consistent t }

abbrev pub copying : TargetFiles → List ℕ → PathExists → Manner
copying t outdir exists = manner t make.Copy outdir exists

abbrev pub linking : TargetFiles → List ℕ → PathExists → Manner
linking t outdir exists = manner t make.Link outdir exists

abbrev pub manner_of : Putting → Manner
manner_of p = manner p.targets.now p.making p.outdir.now p.exists

-- the name that is given, if one is
abbrev pub given : Option (Bor Named) → Option Named
given name = option_map (λ n. n.now) name

-- ---- which target the input is

abbrev pub is_file : List ℕ → Done → Answered → Type 0
is_file input result (found File) = IsDone result
is_file input result (refused files.Memory) = Fails (λ e. e ≡ error.Memory) result
is_file input result (found kind) = Fails (Tells error.PathIsNotFile input) result
is_file input result (refused e) = Fails (Tells error.PathIsNotFile input) result
is_file input result _ = ⊥

-- a file must stand at the path, links followed
abbrev pub FindsFile : List ℕ → Done → Script
FindsFile input result = Asks (kind_of input true) (λ answered. Stops (is_file input result answered))

-- why the last component of the path is no name
abbrev pub IsUnnamed : List ℕ → OutputError → Type 0
IsUnnamed input e = (e ≡ error.Memory) ⊎ (((path_file_name input ≡ None) × Tells error.NoFileName input e)
    ⊎ ((raw : List ℕ) × (fault : NameError) × (path_file_name input ≡ Some raw) × (clean raw ≡ Err fault) × (e ≡ error.Name fault)))

-- the name that is given, else the last component of the path
abbrev pub IsNamed : List ℕ → Option Named → Outcome Named → Type 0
IsNamed input (Some name) (Ok n) = n ≡ name
IsNamed input (Some name) (Err e) = e ≡ error.Memory
IsNamed input None (Ok n) = (path_file_name input ≡ Some n.raw) × (clean n.raw ≡ Ok n.resolved)
IsNamed input None (Err e) = IsUnnamed input e

abbrev pub Names : List ℕ → Option Named → Outcome Named → Script
Names input name result = Stops (IsNamed input name result)

-- why the input wasn't measured
abbrev pub TellsUnmeasured : List ℕ → FileError → OutputError → Type 0
TellsUnmeasured input why.Memory e = e ≡ error.Memory
TellsUnmeasured input fault e = Tells (λ p. error.TargetFromPath p fault) input e

abbrev pub is_measured : List ℕ → Outcome Measured → Result Measured FileError → Type 0
is_measured input (Ok m) r = r ≡ Ok m
is_measured input (Err e) r = (fault : FileError) × (r ≡ Err fault) × TellsUnmeasured input fault e

abbrev pub if_second : {X : Type 0} → Option X → Digests
if_second None = asked.Sha256
if_second (Some x) = asked.Both

-- SHA-512 is computed where one is listed
abbrev pub listed_digests : Option HashesDoc → Digests
listed_digests None = asked.Sha256
listed_digests (Some h) = if_second h.sha512

-- the input is read to its end
abbrev pub Measures : Digests → List ℕ → Outcome Measured → Script
Measures digests input result old new = (r : Result Measured FileError) × MeasuresBy digests input r old new × is_measured input result r

abbrev pub bytes_in : Option (List ℕ) → List ℕ
bytes_in None = []
bytes_in (Some bytes) = bytes

-- the SHA-512 that was computed; of no bytes where none was
abbrev pub second_of : Measured → List ℕ
second_of m = bytes_in m.sha512

-- what was measured has the digests that are listed
abbrev pub HasHashes : Measured → HashesDoc → Type 0
HasHashes m h = (h.sha256.bytes ≡ m.sha256) × IfSome h.sha512 (λ s. s.bytes ≡ second_of m)

-- it hasn't, and the error says so of the first
abbrev pub LacksHashes : Measured → HashesDoc → OutputError → Type 0
LacksHashes m h e = ((h.sha256.bytes ≢ m.sha256) × TellsMismatch (codes "target") m.sha256 h.sha256.bytes e)
    ⊎ ((h.sha256.bytes ≡ m.sha256) × IsSomeAnd h.sha512 (λ s. (s.bytes ≢ second_of m) × TellsMismatch (codes "target") (second_of m) s.bytes e))

-- the digests must be those that are listed
abbrev pub AreListed : Measured → HashesDoc → Done → Type 0
AreListed m h (Ok u) = HasHashes m h
AreListed m h (Err e) = LacksHashes m h e

-- the same, where some are listed
abbrev pub IsListed : List ℕ → Measured → Option HashesDoc → Done → Type 0
IsListed input m (Some h) result = AreListed m h result
IsListed input m None (Ok u) = ⊥
IsListed input m None (Err e) = Tells error.PathIsNotTarget input e

abbrev pub IsTarget : Manner → List ℕ → Named → Measured → Done → Script
IsTarget m input name measured result = Stops (IsListed input measured (listed_hashes m.listing name) result)

abbrev pub IsChosen : Named → Measured → Outcome Chosen → Script
IsChosen name measured result = Stops (result ≡ Ok (record { name = name; sha256 = measured.sha256; sha512 = measured.sha512 }))

-- The input is a file with the digests that are listed under its name.
abbrev pub Chooses : Manner → List ℕ → Option Named → Outcome Chosen → Script
Chooses m input name = Then (FindsFile input) (λ u. Then (Names input name) (λ n. Then (Measures (listed_digests (listed_hashes m.listing n)) input) (λ measured.
    Then (IsTarget m input n measured) (λ v. IsChosen n measured))))

-- ---- where its file is to stand

-- the file of the target lies in the folder, or below it
abbrev pub HasPlace : List ℕ → List ℕ → Type 0
HasPlace dir path = (parent : List ℕ) × (path_parent path ≡ Some parent) × PathStartsWith parent dir

-- the path of a target's file in the folder
abbrev pub target_path : Bool → List ℕ → Chosen → List ℕ
target_path consistent dir c = path_join dir (file_name c.name.resolved c.sha256 consistent)

-- it must lie there
abbrev pub IsPlaced : Bool → List ℕ → Chosen → Outcome Place → Type 0
IsPlaced consistent dir c (Ok p) = IsPlace dir (file_name c.name.resolved c.sha256 consistent) p
IsPlaced consistent dir c (Err e) = (e ≡ error.Memory) ⊎ ((¬ HasPlace dir (target_path consistent dir c)) × TellsUnsafe c.name dir (target_path consistent dir c) e)

abbrev pub Places : Bool → List ℕ → Chosen → Outcome Place → Script
Places consistent dir c result = Stops (IsPlaced consistent dir c result)

-- a folder, as it was looked up, lies in another
abbrev pub IsWithin : Named → List ℕ → List ℕ → List ℕ → List ℕ → Done → Type 0
IsWithin name dir path real base (Ok u) = PathStartsWith real base
IsWithin name dir path real base (Err e) = (¬ PathStartsWith real base) × TellsUnsafe name dir path e

abbrev pub Settled : Named → List ℕ → List ℕ → String Global → String Global → Done → Script
Settled name dir path real base result = Stops (IsWithin name dir path (string_bytes real) (string_bytes base) result)

-- the folder of the file is made, and lies in the output folder, links followed
abbrev pub Settles : Named → List ℕ → List ℕ → List ℕ → Done → Script
Settles name dir parent path = Then (MakesFolders parent) (λ u. Then (Resolves parent) (λ real. Then (Resolves dir) (λ base. Settled name dir path real base)))

-- ---- what stands there

abbrev pub is_there : Outcome Bool → Answered → Type 0
is_there result (found kind) = result ≡ Ok true
is_there result (refused files.Memory) = result ≡ Err error.Memory
is_there result (refused e) = result ≡ Ok false
is_there result _ = ⊥

-- whether something stands there, links followed; a fault counts as nothing
abbrev pub LooksFor : List ℕ → Outcome Bool → Script
LooksFor path result = Asks (kind_of path true) (λ answered. Stops (is_there result answered))

abbrev pub has_digests : List ℕ → Chosen → Done → Result Measured FilesError → Type 0
has_digests path c (Ok u) (Ok m) = (m.sha256 ≡ c.sha256) × IfSome c.sha512 (λ x. second_of m ≡ x)
has_digests path c (Err e) (Ok m) = ((m.sha256 ≢ c.sha256) × TellsMismatch path m.sha256 c.sha256 e)
    ⊎ ((m.sha256 ≡ c.sha256) × IsSomeAnd c.sha512 (λ x. (second_of m ≢ x) × TellsMismatch path (second_of m) x e))
has_digests path c (Err e) (Err why) = TellsRefusal error.FileRead path why e
has_digests path c _ _ = ⊥

-- the digests that the target has
abbrev pub chosen_digests : Chosen → Digests
chosen_digests c = if_second c.sha512

-- what stands there is read to its end, and must have the digests
abbrev pub HasContent : List ℕ → Chosen → Done → Script
HasContent path c result old new = (r : Result Measured FilesError) × ReadsAll (chosen_digests c) path r old new × has_digests path c result r

-- the name of a file has its digest under consistent snapshots; else what stands there is read
abbrev pub Agrees : Bool → List ℕ → Chosen → Done → Script
Agrees true path c result = Stops (IsDone result)
Agrees false path c result = HasContent path c result

abbrev pub is_kind : Making → List ℕ → Done → Answered → Type 0
is_kind make.Copy path result (found File) = IsDone result
is_kind make.Copy path result (found Link) = Fails (TellsKind (codes "regular file") (codes "symlink") path) result
is_kind make.Link path result (found Link) = IsDone result
is_kind make.Link path result (found File) = Fails (TellsKind (codes "symlink") (codes "regular file") path) result
is_kind making path result (found k) = Fails (Tells error.InvalidFileType path) result
is_kind making path result (refused why) = Fails (TellsRefusal error.FileMetadata path why) result
is_kind making path result _ = ⊥

-- what stands there, links not followed, must be of the kind that is made
abbrev pub IsKind : Making → List ℕ → Done → Script
IsKind making path result = Asks (kind_of path false) (λ answered. Stops (is_kind making path result answered))

-- ---- what is made

-- the copy or the link is made
abbrev pub Makes : Making → List ℕ → List ℕ → Done → Script
Makes make.Copy input path result = Does (copy_to input path) error.FileWrite path result
Makes make.Link input path result = Does (link_to input path) error.LinkCreate path result

-- where something stands: nothing is done, or it is removed first, or that is an error
abbrev pub Replaces : PathExists → Making → List ℕ → List ℕ → Done → Script
Replaces Skip making input path result = Stops (IsDone result)
Replaces Fail making input path result = Stops (Fails (Tells error.PathExistsFail path) result)
Replaces Replace making input path result = Then (Does (remove_at path) error.RemoveTarget path) (λ u. Makes making input path) result

abbrev pub MakesOver : Manner → List ℕ → List ℕ → Chosen → Done → Script
MakesOver m input path c = Then (Agrees m.consistent path c) (λ u. Then (IsKind m.making path) (λ v. Replaces m.exists m.making input path))

abbrev pub MakesAt : Manner → List ℕ → List ℕ → Chosen → Bool → Done → Script
MakesAt m input path c true result = MakesOver m input path c result
MakesAt m input path c false result = Makes m.making input path result

abbrev pub Lays : Manner → List ℕ → List ℕ → Chosen → Done → Script
Lays m input path c = Then (LooksFor path) (MakesAt m input path c)

-- ---- the whole

-- the file is put at its place in this folder
abbrev pub PutsIn : Manner → List ℕ → Chosen → List ℕ → Done → Script
PutsIn m input c dir = Then (Places m.consistent dir c) (λ p. Then (Settles c.name dir (parent_of p) (path_of p)) (λ u. Lays m input (path_of p) c))

-- the path of the output folder is looked up
abbrev pub PutsChosen : Manner → List ℕ → Chosen → Done → Script
PutsChosen m input c = Then (Resolves m.outdir) (λ dir. PutsIn m input c (string_bytes dir))

-- A file is copied or linked into a folder, as the target of that name.
abbrev pub Puts : Manner → List ℕ → Option Named → Done → Script
Puts m input name = Then (Chooses m input name) (PutsChosen m input)
