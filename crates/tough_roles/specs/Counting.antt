-- How the signatures over a text are counted: words of private clauses. What they count is `signer_count`.
use Rattle.std.specs.Prelude.{ℕ, List, map, Bool, false, ◌&&◌, Option, Some, None}
use Rattle.std.specs.Ordering.{nat_cmp}
use Rattle.std.specs.List.{list_any}
use Rattle.std.specs.Str.{bytes_eq}
use Rattle.std.specs.BTreeMap.{is_at}
use Rattle.std.specs.Cmp.Lexicographic.{slice_cmp}
use Rattle.std.specs.Map.{lookup}
use Rattle.tough_decoded.specs.Spelled.{Spelled}
use Rattle.tough_keys.specs.Key.{KeyDoc}
use Rattle.tough_keys.specs.Same.{Verifies, data_of}
use Rattle.tough_roles.specs.Signature.{SignatureDoc}

abbrev pub bytes_of : List Spelled → List (List ℕ)
bytes_of ids = map (λ d. d.bytes) ids

-- the key of an identifier's bytes
abbrev pub key_of : List (Spelled × KeyDoc) → List ℕ → Option KeyDoc
key_of keys id = lookup (is_at (λ k. slice_cmp nat_cmp id k.bytes)) keys

-- the signature verifies by the key, if there is one
abbrev pub under : Verifies → List ℕ → List ℕ → Option KeyDoc → Bool
under verifies text sig None = false
under verifies text sig (Some k) = verifies (data_of k) text sig

-- a signature that is counted: its identifier is listed and known, and it verifies
abbrev pub is_valid : Verifies → List (Spelled × KeyDoc) → List (List ℕ) → List ℕ → SignatureDoc → Bool
is_valid verifies keys ids text s = list_any (λ id. bytes_eq id s.keyid.bytes) ids && under verifies text s.sig.bytes (key_of keys s.keyid.bytes)

-- the identifier stands beside a signature that verifies by its key
abbrev pub is_signed : Verifies → List (Spelled × KeyDoc) → List ℕ → List SignatureDoc → List ℕ → Bool
is_signed verifies keys text signatures id = list_any (λ s. bytes_eq s.keyid.bytes id && under verifies text s.sig.bytes (key_of keys id)) signatures
