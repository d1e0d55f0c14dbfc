-- Why an update failed, apart from the member that makes bytes no document.
use Rattle.std.specs.Prelude.{◌≡◌, ℕ, List, Option, Some, None, Bool, true, false, Result, Ok, Err, string_bytes, ⊤}
use Rattle.url.specs.declared.error.ParseError.{ParseError}
use Rattle.tough_json.specs.declared.error.ReadError.{ReadError}
use Rattle.tough_names.specs.Named.{Named}
use Rattle.tough_json.specs.declared.error.ReadError.TheVariants.{Shape}
use Rattle.tough_net.specs.declared.error.TransportError.{TransportError}
use Rattle.tough_roles.specs.declared.role_type.RoleType.{RoleType}
use Rattle.tough_roles.specs.Verdict.{Refused, refused}
use Rattle.tough_roles.specs.declared.error.Error as schema
use Rattle.tough_roles.specs.declared.error.Error.TheVariants as schemas
use Rattle.tough_checks.specs.Checks.{Reason, reason_of}
use Rattle.tough_checks.specs.declared.checks.StepError.{StepError}
use Rattle.tough_checks.specs.declared.checks.StepError.TheVariants as steps
use Rattle.tough_trust.specs.declared.error.UpdateError.{UpdateError}
use Rattle.tough_trust.specs.declared.error.UpdateError.TheVariants as error

pub data Failure : Type 0 where
  -- the bytes that were handed in are no signed root; whether they are JSON
  ParseTrustedMetadata : Bool → Failure
  -- the root that was handed in doesn't reach its own threshold
  VerifyTrustedMetadata : Option Refused → Failure
  -- the bytes are no signed document of the role; whether they are JSON
  ParseMetadata : RoleType → Bool → Failure
  -- so many new roots were met
  MaxUpdatesExceeded : ℕ → Failure
  -- the base URL of this text can't be parsed
  ParseUrl : List ℕ → ParseError → Failure
  -- the file's name can't be joined to the base URL
  JoinUrl : List ℕ → ParseError → Failure
  -- the file couldn't be fetched, and what the transport told
  Transport : TransportError → Failure
  -- this name, which a document of the tree lists, isn't found
  InvalidPath : Option Named → Failure
  -- a check refused
  Checked : Reason → Failure
  -- the store couldn't read, write or remove the file of this name
  DatastoreOpen : List ℕ → Failure
  DatastoreCreate : List ℕ → Failure
  DatastoreRemove : List ℕ → Failure
  Memory : Failure

-- whether what was refused is JSON
abbrev pub is_json : ReadError → Bool
is_json (Shape name) = true
is_json _ = false

-- the name that isn't found
abbrev pub name_missing : schema.Error → Option Named
name_missing (schemas.TargetNotFound name) = Some name
name_missing _ = None

-- why a step failed
abbrev pub step_failure : StepError → Failure
step_failure (steps.Refused refusal) = Checked (reason_of refusal)
step_failure (steps.DatastoreOpen path) = DatastoreOpen (string_bytes path)
step_failure (steps.DatastoreCreate path) = DatastoreCreate (string_bytes path)
step_failure (steps.DatastoreRemove path) = DatastoreRemove (string_bytes path)
step_failure steps.Memory = Memory

abbrev pub failure_of : UpdateError → Failure
failure_of (error.ParseTrustedMetadata source) = ParseTrustedMetadata (is_json source)
failure_of (error.VerifyTrustedMetadata source) = VerifyTrustedMetadata (refused source)
failure_of (error.ParseMetadata role source) = ParseMetadata role (is_json source)
failure_of (error.MaxUpdatesExceeded n) = MaxUpdatesExceeded n
failure_of (error.ParseUrl url source) = ParseUrl (string_bytes url) source
failure_of (error.JoinUrl path source) = JoinUrl (string_bytes path) source
failure_of (error.Transport source) = Transport source
failure_of (error.InvalidPath source) = InvalidPath (name_missing source)
failure_of (error.Step e) = step_failure e
failure_of error.Memory = Memory

-- a refusal is this failure; want of memory may come in its place
abbrev pub IsRefused : {A : Type 0} → Failure → Result A Failure → Type 0
IsRefused Memory answer = ⊤
IsRefused failure answer = answer ≡ Err failure

-- what a call gives, seen by view, is the answer
abbrev pub Gives : {X A : Type 0} → (X → A) → Result A Failure → Result X UpdateError → Type 0
Gives view answer (Ok x) = answer ≡ Ok (view x)
Gives view answer (Err e) = IsRefused (failure_of e) answer
