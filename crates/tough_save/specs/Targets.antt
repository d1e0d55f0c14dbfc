-- The file of a target, as it is served (TUF specification 1.0, sections 5.7.2 and 5.7.3).
use Rattle.std.specs.Prelude.{◌≡◌, ◌≢◌, ◌⊎◌, ℕ, Bool, true, false, List, [], ◌++◌, length, None, Some, IfSome, IsSomeAnd, Ok, codes, nat_eq, string_bytes, if◌then◌else◌, ⊤}
use Rattle.std.specs.List.{starts_with}
use Rattle.hex.specs.Hex.{encode_lower}
use Rattle.url.specs.Parts.{Parts, serialize}
use Rattle.url.specs.Parser.{parse_url}
use Rattle.futures.specs.Runs.{Runs, Within}
use Rattle.tough_net.specs.declared.error.TransportError.{TransportError}
use Rattle.tough_net.specs.declared.digest_check.DigestCheck.{DigestCheck}
use Rattle.tough_net.specs.declared.max_size.MaxSize.{MaxSize}
use Rattle.tough_net.specs.Checking.{checked, url_of, expected_of, failure_of, HasTaken}
use Rattle.tough_net.specs.Digests.{Digests}
use Rattle.tough_net.specs.Errors.{IsMemory, IsMismatch}
use Rattle.tough_net.specs.Items.{Item}
use Rattle.tough_net.specs.Limiting.{limit_of, limited}
use Rattle.tough_net.specs.Urls.{CannotJoin}
use Rattle.tough_save.specs.declared.target.FetchError.{FetchError}
use Rattle.tough_save.specs.declared.target.FetchError.TheVariants.{JoinUrl, Escapes, Transport, Memory}

-- the name that a target resolves to, after its digest and a dot where that is asked for
abbrev pub file_name : List ℕ → List ℕ → Bool → List ℕ
file_name resolved digest prefixed = if prefixed then encode_lower digest ++ codes "." ++ resolved else resolved

-- the name, joined to the base URL as it stands, is this URL below it
abbrev pub IsBelow : Parts → List ℕ → Parts → Type 0
IsBelow base name url = (parse_url (Some base) name ≡ Ok url) × (starts_with nat_eq (serialize url) (serialize base) ≡ true)

module _ {T S : Type 0} (serves : T → Parts → Runs Item) (yields : S → Runs Item) where
  -- the file is being fetched: of at most so many bytes, with each of those digests, from what the transport serves below the base URL
  pub record HasBegun (t : T) (base : Parts) (name : List ℕ) (size : ℕ) (digests : Digests) (s : DigestCheck (MaxSize S)) : Type 0 where
    pub url : Parts
    pub below : IsBelow base name url
    pub limit : limit_of (checked s) ≡ record { url = serialize url; max = size; specifier = codes "targets.json"; size = 0 }
    pub url_is : url_of s ≡ serialize url
    pub expected : expected_of s ≡ digests
    pub fresh : HasTaken s []
    pub unfailed : failure_of s ≡ None
    pub served : Within (serves t url) (yields (limited (checked s)))

-- no file has a SHA-256 of that length, and the error says so
abbrev pub IsUnmatched : List ℕ → Digests → TransportError → Type 0
IsUnmatched url digests e = IsSomeAnd digests.sha256 (λ d. (length d ≢ 32) × IsMismatch url d [] e)

module _ {T : Type 0} (refuses : T → Parts → TransportError → Type 0) where
  -- why the file isn't fetched
  abbrev pub IsUnbegun : T → Parts → List ℕ → Digests → FetchError → Type 0
  IsUnbegun t base name digests (JoinUrl e) = CannotJoin base name e
  IsUnbegun t base name digests (Escapes text) = (url : Parts) × (parse_url (Some base) name ≡ Ok url) × (string_bytes text ≡ serialize url)
      × (starts_with nat_eq (serialize url) (serialize base) ≡ false)
  IsUnbegun t base name digests (Transport e) = (url : Parts) × IsBelow base name url
      × (IsUnmatched (serialize url) digests e ⊎ (IfSome digests.sha256 (λ d. length d ≡ 32) × (refuses t url e ⊎ IsMemory e)))
  IsUnbegun t base name digests Memory = ⊤
