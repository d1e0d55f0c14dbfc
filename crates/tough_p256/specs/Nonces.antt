-- The candidates for the nonce of a signature (RFC 6979, 3.2), with HMAC over SHA-256.
use Rattle.std.specs.Prelude.{ℕ, List, ◌∷◌, ◌++◌, replicate}
use Rattle.tough_modular.specs.Octets.{octets_number}
use Rattle.tough_p256.specs.Hmac.{hmac}

-- K and V
pub record Generator : Type 0 where
  pub key : List ℕ
  pub value : List ℕ

-- V = HMAC_K(V) (e, g, h.2)
abbrev pub next : Generator → Generator
next g = record { key = g.key; value = hmac g.key g.value }

-- K = HMAC_K(V || more), and then V (d and e, f and g, h.3)
abbrev pub reseeded : Generator → List ℕ → Generator
reseeded g more = next (record { key = hmac g.key (g.value ++ more); value = g.value })

-- b and c
abbrev pub blank : Generator
blank = record { key = replicate 32 0; value = replicate 32 1 }

-- b to g, of int2octets(x) and bits2octets(h1)
abbrev pub generator : List ℕ → List ℕ → Generator
generator x h = reseeded (reseeded blank (0 ∷ x ++ h)) (1 ∷ x ++ h)

-- bits2int(V) (h.3)
abbrev pub candidate : Generator → ℕ
candidate g = octets_number g.value
