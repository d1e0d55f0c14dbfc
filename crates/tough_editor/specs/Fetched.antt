-- A role's file, fetched below a URL (TUF specification 1.0, sections 4.5 and 5.6.2).
use Rattle.std.specs.Prelude.{◌≡◌, ◌≢◌, ◌≤◌, ◌⊎◌, ◌++◌, ⊤, ℕ, List, [], length, None, Some, Ok, Err, Result, Vec, codes, string_bytes}
use Rattle.std.specs.declared.alloc.Global.{Global}
use Rattle.futures.specs.Runs.{Runs, Within}
use Rattle.url.specs.Parts.{Parts, serialize}
use Rattle.url.specs.Parser.{parse_url}
use Rattle.url.specs.declared.error.ParseError.{ParseError}
use Rattle.serde_json.specs.Data.{Data}
use Rattle.tough_json.specs.declared.error.ReadError.{ReadError}
use Rattle.tough_json.specs.declared.error.ReadError.TheVariants as reading
use Rattle.tough_json.specs.Results.{json_of}
use Rattle.tough_names.specs.Filename.{filename_of}
use Rattle.tough_net.specs.declared.collect.Collect.{Collect}
use Rattle.tough_net.specs.declared.error.TransportError.{TransportError}
use Rattle.tough_net.specs.declared.error.TransportErrorKind.TheVariants as kind
use Rattle.tough_net.specs.declared.limits.Limits.{Limits}
use Rattle.tough_net.specs.Digests.{no_digests}
use Rattle.tough_net.specs.Collecting.{Bounds, Collects, collected, bounds_of, held_by}
use Rattle.tough_net.specs.Errors.{IsMemory, error_kind}
use Rattle.tough_net.specs.Items.{Item}
use Rattle.tough_net.specs.Urls.{Refuses, CannotEnd, CannotJoin, with_slash}
use Rattle.tough_roles.specs.Document.{IsSigned, IsNotSigned, RefusesText}
use Rattle.tough_roles.specs.Signature.{signatures_doc}
use Rattle.tough_roles.specs.declared.role_type.RoleType.TheVariants as types
use Rattle.tough_roles.specs.declared.signed.Signed.{Signed}
use Rattle.tough_schema.specs.Fresh.{IsFresh}
use Rattle.tough_schema.specs.Targets.{targets_at, targets_doc}
use Rattle.tough_schema.specs.Whole.{HeldDoc, tree_doc}
use Rattle.tough_schema.specs.declared.targets.Targets.{Targets}
use Rattle.tough_error.specs.declared.error.Error.{Error}
use Rattle.tough_error.specs.declared.error.Error.TheVariants as wide

-- ---- where the file is

-- the text as a URL below which files lie: one that ends with a slash
abbrev pub IsBase : List ℕ → Parts → Type 0
IsBase text base = (first : Parts) × (parse_url None text ≡ Ok first) × (with_slash first ≡ Ok base)

-- the name of the role's file: the escaped name and `.json`
abbrev pub role_file : List ℕ → List ℕ
role_file name = filename_of name ++ codes ".json"

-- the URL of the role's file
abbrev pub IsRoleUrl : List ℕ → List ℕ → Parts → Type 0
IsRoleUrl text name url = (base : Parts) × IsBase text base × (parse_url (Some base) (role_file name) ≡ Ok url)

-- why the text is no URL; or memory was wanting
abbrev pub IsUnparsed : List ℕ → Error → Type 0
IsUnparsed text (wide.ParseUrl url e) = (string_bytes url ≡ text) × Refuses (parse_url None text) (length text) e
IsUnparsed text wide.Memory = ⊤
IsUnparsed text _ = ⊥

-- why the text is no such URL; or memory was wanting
abbrev pub IsBaseless : List ℕ → Error → Type 0
IsBaseless text (wide.ParseUrl url e) =
    ((string_bytes url ≡ text) × Refuses (parse_url None text) (length text) e)
    ⊎ ((first : Parts) × (parse_url None text ≡ Ok first) × CannotEnd first e)
IsBaseless text wide.Memory = ⊤
IsBaseless text _ = ⊥

-- the error names the role and its file
abbrev pub IsNamed : List ℕ → ParseError → Error → Type 0
IsNamed name e (wide.JoinUrlEncoded original encoded file source) =
    (string_bytes original ≡ name) × (string_bytes encoded ≡ filename_of name) × (string_bytes file ≡ role_file name) × (source ≡ e)
IsNamed name e _ = ⊥

-- the file's name can't be joined to the base; or memory was wanting
abbrev pub IsUnjoinedTo : Parts → List ℕ → Error → Type 0
IsUnjoinedTo base name w = (w ≡ wide.Memory) ⊎ ((e : ParseError) × CannotJoin base (role_file name) e × IsNamed name e w)

-- why the file's name can't be joined to that URL; or memory was wanting
abbrev pub IsUnjoined : List ℕ → List ℕ → Error → Type 0
IsUnjoined text name w = (base : Parts) × IsBase text base × IsUnjoinedTo base name w

-- ---- how it is fetched

-- the fault of a transport, told as it is
abbrev pub IsFault : TransportError → Error → Type 0
IsFault e (wide.Transport source) = (source ≡ e) × (error_kind e ≢ kind.Memory)
IsFault e wide.Memory = error_kind e ≡ kind.Memory
IsFault e _ = ⊥

-- the stream can be polled, and holds no more than its limit
abbrev pub CanPoll : {S : Type 0} → (S → Type 0) → Collect S → Type 0
CanPoll can_poll f = can_poll (collected f) × (length (held_by f) ≤ (bounds_of f).max)

-- the bounds of its bytes
abbrev pub bounds_at : Limits → Parts → Bounds
bounds_at limits url = record { url = serialize url; max = limits.max_targets_size; specifier = codes "max targets limit"; digests = no_digests }

module _ {T S : Type 0} (refuses : T → Parts → TransportError → Type 0) (serves : T → Parts → Runs Item) (yields : S → Runs Item) where
  -- its fetch has begun
  pub record IsBegun (t : T) (limits : Limits) (text name : List ℕ) (f : Collect S) : Type 0 where
    pub url : Parts
    pub at : IsRoleUrl text name url
    pub bounds : bounds_of f ≡ bounds_at limits url
    pub fresh : held_by f ≡ []
    pub served : Within (serves t url) (yields (collected f))

  -- why it hasn't
  abbrev pub IsUnbegun : T → List ℕ → List ℕ → Error → Type 0
  IsUnbegun t text name w =
      IsBaseless text w
      ⊎ (IsUnjoined text name w
      ⊎ ((url : Parts) × (e : TransportError) × IsRoleUrl text name url × (refuses t url e ⊎ IsMemory e) × IsFault e w))

-- ---- what it is

-- the bytes are this signed document, below which no other stands
abbrev pub IsDocument : List ℕ → Signed Targets → Type 0
IsDocument bytes s = IsFresh s.signed × (d : Data) × (json_of bytes ≡ Some d) × IsSigned (λ x t. targets_at x ≡ Some (targets_doc t)) d s

-- the document of the role of the name
abbrev pub held_as : List ℕ → Signed Targets → HeldDoc
held_as name s = record { name = name; signatures = signatures_doc s.signatures.items; below = tree_doc s.signed }

-- the bytes are no document; or memory was wanting
abbrev pub IsNoDocument : List ℕ → Error → Type 0
IsNoDocument bytes (wide.ParseMetadata role source) = (source ≢ reading.Memory) × (role ≡ types.Targets) × RefusesText (IsNotSigned (λ d. targets_at d ≡ None)) source bytes
IsNoDocument bytes wide.Memory = ⊤
IsNoDocument bytes _ = ⊥
