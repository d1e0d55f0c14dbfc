-- What a file system answers to URLs. What its files hold isn't known.
use Rattle.std.specs.Prelude.{◌≡◌, ℕ, List, codes, All, IfErr, IfSome, ◌⊎◌, string_bytes}
use Rattle.futures.specs.Runs.{Runs}
use Rattle.tough_net.specs.declared.error.TransportError.{TransportError}
use Rattle.tough_net.specs.declared.error.TransportErrorKind.TheVariants.{UnsupportedUrlScheme, FileNotFound, Other}
use Rattle.tough_net.specs.Errors.{IsMemory, error_kind, error_url}
use Rattle.tough_net.specs.Items.{Item}
use Rattle.tough_net.specs.declared.filesystem.FileStream.{FileStream}
use Rattle.tough_net.specs.declared.filesystem.FilesystemTransport.{FilesystemTransport}

-- what the files are read by
abbrev pub runtime_of : {R : Type 0} → FilesystemTransport R → R
runtime_of transport = transport.rt

-- the scheme of URLs of files, RFC 8089
abbrev pub IsFileScheme : List ℕ → Type 0
IsFileScheme scheme = scheme ≡ codes "file"

-- the file is missing, or there is another fault at the URL of this text
abbrev pub IsFileFault : List ℕ → TransportError → Type 0
IsFileFault url e = IsMemory e
    ⊎ ((error_url e ≡ url) × ((error_kind e ≡ FileNotFound) ⊎ (error_kind e ≡ Other)))

-- no file is opened: the scheme is another, or the file can't be opened
abbrev pub RefusesUrl : List ℕ → List ℕ → TransportError → Type 0
RefusesUrl scheme url e = IsMemory e
    ⊎ ((¬ (IsFileScheme scheme) × (error_url e ≡ url) × (error_kind e ≡ UnsupportedUrlScheme))
    ⊎ (IsFileScheme scheme × IsFileFault url e))

-- any pieces, and faults of the file
abbrev pub Reads : List ℕ → Runs Item
Reads url xs last = All (λ x. IfErr x (IsFileFault url)) xs × IfSome last (λ x. IfErr x (IsFileFault url))

-- the text of the URL of the file
abbrev pub read_url : {F : Type 0} → FileStream F → List ℕ
read_url s = string_bytes s.url
