-- Lists of keys, side by side.
use Rattle.std.proofs.Common.{◌≡◌, ℕ, zero, suc, ◌+◌, ◌<◌, List, [], ◌∷◌, length, drop, get_or, Some, Bool, true, false, not, ◌&&◌, refl, sym, ap, ◌∙◌, add-one, arith}
use Rattle.std.proofs.Math.Seq.{drop-nil}
use Rattle.tough_decoded.specs.Spelled.{Spelled}
use Rattle.tough_keys.specs.Key.{KeyDoc}
use Rattle.tough_roles.specs.Root.{key_under}
use Rattle.tough_keys.specs.Equal.{same_doc}
use Rattle.tough_roles.specs.Keyring.{ahead_of, keys_along}
use Rattle.tough_checks.specs.Rotation.{key_in, same_keys}

pub key_in-at : (keys : List (Spelled × KeyDoc)) (ids : List Spelled) (place : ℕ) (id : Spelled) → place < length ids → id ≡ get_or ids place id → key_in keys (drop place ids) ≡ key_under keys id
key_in-at keys [] place id h e = absurd (omega (arith, h))
key_in-at keys (x ∷ ids) zero id h e = ap (key_under keys) (sym e)
key_in-at keys (x ∷ ids) (suc n) id h e = key_in-at keys ids n id (omega (arith, h)) e

drop-next : (ids : List Spelled) (n : ℕ) → drop 1 (drop n ids) ≡ drop (suc n) ids
drop-next [] n = ap (drop 1) (drop-nil n)
drop-next (id ∷ ids) zero = refl
drop-next (id ∷ ids) (suc n) = drop-next ids n

keys-step : (keys : List (Spelled × KeyDoc)) (ids : List Spelled) → keys_along keys ids ≡ ahead_of (key_in keys ids) (keys_along keys (drop 1 ids))
keys-step keys [] = refl
keys-step keys (id ∷ ids) = refl

-- the keys from a place on: that of the place, and those from the next place on
pub keys-from : (keys : List (Spelled × KeyDoc)) (ids : List Spelled) (place : ℕ) → keys_along keys (drop place ids) ≡ ahead_of (key_in keys (drop place ids)) (keys_along keys (drop (suc place) ids))
keys-from keys ids place = keys-step keys (drop place ids) ∙ ap (λ r. ahead_of (key_in keys (drop place ids)) (keys_along keys r)) (drop-next ids place)

-- both have the same key at a place: from there on the lists are the same where they are from the next place on
pub next-place : (ks : List (Spelled × KeyDoc)) (ids : List Spelled) (js : List (Spelled × KeyDoc)) (jds : List Spelled) (place : ℕ) (k j : KeyDoc)
    → key_in ks (drop place ids) ≡ Some k → key_in js (drop place jds) ≡ Some j → same_doc k j ≡ true
    → same_keys (keys_along ks (drop place ids)) (keys_along js (drop place jds)) ≡ same_keys (keys_along ks (drop (place + 1) ids)) (keys_along js (drop (place + 1) jds))
next-place ks ids js jds place k j h i t =
    let one : keys_along ks (drop place ids) ≡ k ∷ keys_along ks (drop (place + 1) ids) =
    keys-from ks ids place ∙ (ap (λ o. ahead_of o (keys_along ks (drop (suc place) ids))) h ∙ ap (λ n. k ∷ keys_along ks (drop n ids)) (sym (add-one place))) in
    let two : keys_along js (drop place jds) ≡ j ∷ keys_along js (drop (place + 1) jds) =
    keys-from js jds place ∙ (ap (λ o. ahead_of o (keys_along js (drop (suc place) jds))) i ∙ ap (λ n. j ∷ keys_along js (drop n jds)) (sym (add-one place))) in
    ap (λ xs. same_keys xs (keys_along js (drop place jds))) one
    ∙ (ap (λ ys. same_keys (k ∷ keys_along ks (drop (place + 1) ids)) ys) two
    ∙ ap (λ b. b && same_keys (keys_along ks (drop (place + 1) ids)) (keys_along js (drop (place + 1) jds))) t)

-- the keys at a place differ: so do the lists from there on
pub other-place : (ks : List (Spelled × KeyDoc)) (ids : List Spelled) (js : List (Spelled × KeyDoc)) (jds : List Spelled) (place : ℕ) (k j : KeyDoc)
    → key_in ks (drop place ids) ≡ Some k → key_in js (drop place jds) ≡ Some j → same_doc k j ≡ false
    → same_keys (keys_along ks (drop place ids)) (keys_along js (drop place jds)) ≡ false
other-place ks ids js jds place k j h i t =
    let one : keys_along ks (drop place ids) ≡ k ∷ keys_along ks (drop (suc place) ids) =
    keys-from ks ids place ∙ ap (λ o. ahead_of o (keys_along ks (drop (suc place) ids))) h in
    let two : keys_along js (drop place jds) ≡ j ∷ keys_along js (drop (suc place) jds) =
    keys-from js jds place ∙ ap (λ o. ahead_of o (keys_along js (drop (suc place) jds))) i in
    ap (λ xs. same_keys xs (keys_along js (drop place jds))) one
    ∙ (ap (λ ys. same_keys (k ∷ keys_along ks (drop (suc place) ids)) ys) two
    ∙ ap (λ b. b && same_keys (keys_along ks (drop (suc place) ids)) (keys_along js (drop (suc place) jds))) t)

-- an answer that is turned
pub turned : (b c : Bool) → c ≡ not b → b ≡ not c
turned true c h = ap not (sym h)
turned false c h = ap not (sym h)

-- of the lists from a place on: where one has no key there, both end or they differ
pub last-place : (ks : List (Spelled × KeyDoc)) (ids : List Spelled) (js : List (Spelled × KeyDoc)) (jds : List Spelled) (place : ℕ)
    → same_keys (keys_along ks (drop place ids)) (keys_along js (drop place jds))
    ≡ same_keys (ahead_of (key_in ks (drop place ids)) (keys_along ks (drop (suc place) ids))) (ahead_of (key_in js (drop place jds)) (keys_along js (drop (suc place) jds)))
last-place ks ids js jds place =
    ap (λ xs. same_keys xs (keys_along js (drop place jds))) (keys-from ks ids place)
    ∙ ap (λ ys. same_keys (ahead_of (key_in ks (drop place ids)) (keys_along ks (drop (suc place) ids))) ys) (keys-from js jds place)
