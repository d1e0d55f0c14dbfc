-- Why a signer failed.
use Rattle.std.specs.Prelude.{◌≡◌, ℕ, List, Option, Some, None, string_bytes}
use Rattle.tough_keys.specs.declared.sign.SignError.{SignError}
use Rattle.tough_keys.specs.declared.sign.SignError.TheVariants as errors

-- the reason that the signer gave; none where memory was wanted
abbrev pub reason_of : SignError → Option (List ℕ)
reason_of (errors.Failed t) = Some (string_bytes t)
reason_of errors.Memory = None

-- where it gave a reason, that is one of these
abbrev pub IsReasoned : (List ℕ → Type 0) → SignError → Type 0
IsReasoned fails e = (t : List ℕ) → reason_of e ≡ Some t → fails t
