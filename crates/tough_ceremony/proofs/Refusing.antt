-- Refusals in their order.
use Rattle.std.specs.Prelude.{◌≡◌, ℕ, List, [], ◌∷◌, Bool, true, Option, Some, ◌||◌}
use Rattle.std.proofs.Common.{refl, sym, ap, ◌∙◌, subst}
use Rattle.std.proofs.lemmas.Slice.Eq.{bytes_eq-Decides}
use Rattle.std.specs.Str.{bytes_eq}
use Rattle.tough_decoded.specs.Spelled.{Spelled}
use Rattle.tough_keys.specs.Key.{KeyDoc, key_id_of}
use Rattle.tough_roles.specs.Root.{RootDoc}
use Rattle.tough_roles.specs.declared.role_type.RoleType.{RoleType}
use Rattle.tough_sign.specs.Listing.{in_digits}
use Rattle.tough_sign.specs.Making.{is_listed}
use Rattle.tough_ceremony.specs.Listing.{Lists}
use Rattle.tough_ceremony.specs.Refusals.{IsTaken, IsNotListed, IsTextless, IsUnsigned}
use Rattle.tough_ceremony.specs.Signing.{lists_in, AreIds}
use Rattle.tough_ceremony.specs.declared.error.CeremonyError.{CeremonyError}
use Rattle.tough_ceremony.specs.declared.error.CeremonyError.TheVariants as errors

-- the role is looked for once the key has its identifier
pub taken : (type : RoleType) (key : KeyDoc) (r : RootDoc) (own : List ℕ) (id : Spelled) (e : CeremonyError) → key_id_of key ≡ Some own → id ≡ in_digits own → IsTaken type id r e → IsNotListed type key r e
taken type key r own id (errors.NoRole role) h is t = (t.0, t.1, (own, h))
taken type key r own id errors.AlreadyListed h is t = record { id = own; own = h; listed = subst (λ (i : Spelled). Lists type i true r) is t }
taken type key r own id errors.Memory h is t = tt
taken type key r own id _ h is t = absurd t

or_true : (b c : Bool) → b ≡ true → (b || c) ≡ true
or_true b c h = ap (λ x. x || c) h

-- the first of them is listed
one_listed : (key : KeyDoc) (r : RootDoc) (old : Option RootDoc) (ids : List Spelled) → AreIds key r old ids → (id : Spelled) × (lists_in key r old id ≡ true)
one_listed key r old [] a = absurd (a.some refl)
one_listed key r old (id ∷ ids) a = (id, sym (a.exactly id) ∙ or_true (bytes_eq id.bytes id.bytes) (is_listed ids id) ((bytes_eq-Decides id.bytes id.bytes).1 refl))

-- the text is made once a root lists the key
pub textless : (fails : List ℕ → Type 0) (key : KeyDoc) (r : RootDoc) (old : Option RootDoc) (ids : List Spelled) (e : CeremonyError) → AreIds key r old ids → IsTextless r e → IsUnsigned fails key r old e
textless fails key r old ids errors.Unwritable a t = (one_listed key r old ids a, t)
textless fails key r old ids errors.Memory a t = tt
textless fails key r old ids _ a t = absurd t
