-- What the errors of a saving tell.
use Rattle.std.specs.Prelude.{◌≡◌, ℕ, List, string_bytes, ⊤}
use Rattle.tough_files.specs.declared.files.FilesError.{FilesError}
use Rattle.tough_files.specs.declared.files.FilesError.TheVariants as files
use Rattle.tough_net.specs.declared.error.TransportError.{TransportError}
use Rattle.tough_save.specs.declared.error.Step.{Step}
use Rattle.tough_save.specs.declared.error.SaveError.{SaveError}
use Rattle.tough_save.specs.declared.error.SaveError.TheVariants.{Refused, NoFolder, NoParent, Outside, Transport, Memory}

-- the step, the path and why, if there was memory to tell them
abbrev pub TellsRefusal : Step → List ℕ → FilesError → SaveError → Type 0
TellsRefusal step path source (Refused s p e) = (s ≡ step) × (string_bytes p ≡ path) × (e ≡ source)
TellsRefusal step path source Memory = ⊤
TellsRefusal step path source _ = ⊥

-- the files refused a call at this step and path
abbrev pub IsRefusal : Step → List ℕ → FilesError → SaveError → Type 0
IsRefusal step path files.Memory error = error ≡ Memory
IsRefusal step path source error = TellsRefusal step path source error

-- what stands at the path is no folder
abbrev pub TellsNoFolder : List ℕ → SaveError → Type 0
TellsNoFolder path (NoFolder p) = string_bytes p ≡ path
TellsNoFolder path Memory = ⊤
TellsNoFolder path _ = ⊥

abbrev pub TellsNoParent : List ℕ → SaveError → Type 0
TellsNoParent path (NoParent p) = string_bytes p ≡ path
TellsNoParent path Memory = ⊤
TellsNoParent path _ = ⊥

-- the path isn't in the folder
abbrev pub TellsOutside : List ℕ → List ℕ → SaveError → Type 0
TellsOutside path dir (Outside p f) = (string_bytes p ≡ path) × (string_bytes f ≡ dir)
TellsOutside path dir Memory = ⊤
TellsOutside path dir _ = ⊥

-- the stream gave this error
abbrev pub TellsFault : TransportError → SaveError → Type 0
TellsFault fault error = error ≡ Transport fault

-- an error that files, and not a stream, led to
abbrev pub IsOfFiles : SaveError → Type 0
IsOfFiles (Refused s p e) = ⊤
IsOfFiles Memory = ⊤
IsOfFiles _ = ⊥
