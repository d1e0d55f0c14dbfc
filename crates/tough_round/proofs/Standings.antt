-- The documents of delegated roles by themselves, each with its file.
use Rattle.std.proofs.Common.{◌≡◌, ◌≢◌, ℕ, List, [], ◌∷◌, map, false, Some, None, inl, inr, refl, sym, ap, ap₂, subst, ◌∙◌}
use Rattle.std.specs.List.{AllByRecursion}
use Rattle.std.specs.Str.{bytes_eq}
use Rattle.serde_json.specs.Read.{max_depth}
use Rattle.tough_json.proofs.lemmas.Write.{some-inj}
use Rattle.tough_roles.specs.Readable.{NestsWithin}
use Rattle.tough_roles.specs.Reaches.{IsAmong}
use Rattle.tough_roles.specs.Signature.{SignatureDoc, SignedDoc, signed_doc, signed_json}
use Rattle.tough_schema.specs.Targets.{TargetsDoc, targets_at, targets_json, delegated_doc, KeysAreOwn}
use Rattle.tough_schema.specs.Tree.{Entry}
use Rattle.tough_schema.specs.Whole.{HeldDoc, RoleTree}
use Rattle.tough_schema.specs.declared.targets.DelegatedTargets.{DelegatedTargets}
use Rattle.tough_trust.specs.Listed.{targets_in, targets_text}
use Rattle.tough_update.specs.growth.Once.{is_among, Distinct}
use Rattle.tough_update.specs.growth.Under.{page_of}
use Rattle.tough_sign.specs.Pretty.{pretty_text}
use Rattle.tough_signed.specs.Roles.{signed_of, buffer_of}
use Rattle.tough_signed.specs.Standing.{IsStanding, AreStanding}
use Rattle.tough_signed.specs.declared.signed_role.SignedRole.{SignedRole}
use Rattle.tough_plain.proofs.Plain.{reads, storable}
use Rattle.tough_round.specs.Roles.{role_name, role_version}
use Rattle.tough_round.proofs.Names.{unequal}
use Rattle.tough_round.proofs.Placing.{or-false}
use Rattle.tough_round.proofs.Serving.{AreDistinct}
use Rattle.tough_round.proofs.Trees.{OfDocument, named_in}

pub standing-names : (rs : List RoleTree) (ds : List (SignedRole DelegatedTargets)) → AreStanding rs ds → map role_name ds ≡ named_in rs
standing-names [] [] h = refl
standing-names [] (d ∷ ds) h = absurd h
standing-names ((e, None) ∷ rs) ds h = standing-names rs ds h
standing-names ((e, Some x) ∷ rs) [] h = absurd h
standing-names ((e, Some x) ∷ rs) (d ∷ ds) h = ap₂ (λ n l. n ∷ l) h.0.alone.name (standing-names rs ds h.1)

same-entry : (a b : Entry) (x y : HeldDoc) → (let p : RoleTree = (a, Some x) in p) ≡ (b, Some y) → (a ≡ b) × (x ≡ y)
same-entry a b x y h = (ap (λ (r : RoleTree). r.0) h, some-inj (ap (λ (r : RoleTree). r.1) h))

no-document : (a e : Entry) (x : HeldDoc) → (let p : RoleTree = (a, None) in p) ≡ (e, Some x) → ⊥
no-document a e x h = none-some x (ap (λ (r : RoleTree). r.1) h) where
  none-some : (y : HeldDoc) → None ≡ Some y → ⊥
  none-some y k = cc

standing-same : (a e : Entry) (y x : HeldDoc) (d : SignedRole DelegatedTargets) → (let p : RoleTree = (a, Some y) in p) ≡ (e, Some x) → IsStanding a y d → IsStanding e x d
standing-same a e y x d h s =
    let same = same-entry a e y x h in
    subst (λ (b : Entry). IsStanding b x d) same.0 (subst (λ (z : HeldDoc). IsStanding a z d) same.1 s)

-- a file of the role's document is among these
pub record IsKept (e : Entry) (x : HeldDoc) (ds : List (SignedRole DelegatedTargets)) : Type 0 where
  pub role : SignedRole DelegatedTargets
  pub among : IsAmong role ds
  pub standing : IsStanding e x role

kept-later : (e : Entry) (x : HeldDoc) (d : SignedRole DelegatedTargets) (ds : List (SignedRole DelegatedTargets)) → IsKept e x ds → IsKept e x (d ∷ ds)
kept-later e x d ds k = record { role = k.role; among = inr k.among; standing = k.standing }

-- each role's document has its file
pub standing-among : (rs : List RoleTree) (ds : List (SignedRole DelegatedTargets)) → AreStanding rs ds → (e : Entry) (x : HeldDoc) → IsAmong (e, Some x) rs → IsKept e x ds
standing-among [] ds h e x i = absurd i
standing-among ((a, None) ∷ rs) ds h e x (inl i) = absurd (no-document a e x i)
standing-among ((a, None) ∷ rs) ds h e x (inr i) = standing-among rs ds h e x i
standing-among ((a, Some y) ∷ rs) [] h e x i = absurd h
standing-among ((a, Some y) ∷ rs) (d ∷ ds) h e x (inl i) = record { role = d; among = inl refl; standing = standing-same a e y x d i h.0 }
standing-among ((a, Some y) ∷ rs) (d ∷ ds) h e x (inr i) = kept-later e x d ds (standing-among rs ds h.1 e x i)

-- what holds of each role's document, with the file that has it
pub standing-all : (Q : List ℕ → HeldDoc → Type 0) (rs : List RoleTree) (ds : List (SignedRole DelegatedTargets)) → AreStanding rs ds → AllByRecursion (OfDocument Q) rs
    → AllByRecursion (λ d. (e : Entry) × (x : HeldDoc) × IsStanding e x d × Q e.name x) ds
standing-all Q [] [] h q = tt
standing-all Q [] (d ∷ ds) h q = absurd h
standing-all Q ((e, None) ∷ rs) ds h q = standing-all Q rs ds h q.1
standing-all Q ((e, Some x) ∷ rs) [] h q = absurd h
standing-all Q ((e, Some x) ∷ rs) (d ∷ ds) h q = ((e, x, h.0, q.0), standing-all Q rs ds h.1 q.1)

-- ---- names that differ

others : (n : List ℕ) (ds : List (SignedRole DelegatedTargets)) → is_among n (map role_name ds) ≡ false → AllByRecursion (λ d. role_name d ≡ n → ⊥) ds
others n [] h = tt
others n (d ∷ ds) h = let p = or-false (bytes_eq (role_name d) n) (is_among n (map role_name ds)) h in (unequal (role_name d) n p.0, others n ds p.1)

pub distinct-roles : (ds : List (SignedRole DelegatedTargets)) → Distinct (map role_name ds) → AreDistinct role_name ds
distinct-roles [] h = tt
distinct-roles (d ∷ ds) h = (others (role_name d) ds h.0, distinct-roles ds h.1)

-- ---- the file of one role's document

module _ (e : Entry) (x : HeldDoc) (d : SignedRole DelegatedTargets) (h : IsStanding e x d) where
  pub page-is : signed_doc delegated_doc (signed_of d) ≡ page_of x
  page-is = ap₂ (λ (t : TargetsDoc) (ss : List SignatureDoc). let p : SignedDoc TargetsDoc = record { role = t; signatures = ss } in p) h.alone.document h.alone.signatures

  pub page-read : KeysAreOwn (page_of x).role.delegations → NestsWithin max_depth (signed_json targets_json (page_of x)) → targets_in (buffer_of d) ≡ Some (page_of x)
  page-read own shallow =
      reads targets_at delegated_doc (signed_of d) (buffer_of d)
      (h.back (subst (λ (p : SignedDoc TargetsDoc). KeysAreOwn p.role.delegations) (sym page-is) own) (subst (λ (p : SignedDoc TargetsDoc). NestsWithin max_depth (signed_json targets_json p)) (sym page-is) shallow))
      ∙ ap (λ (p : SignedDoc TargetsDoc). Some p) page-is

  pub page-stored : targets_text (page_of x) ≢ None
  page-stored = subst (λ (p : SignedDoc TargetsDoc). targets_text p ≢ None) page-is (storable pretty_text (signed_json targets_json (signed_doc delegated_doc (signed_of d))) (buffer_of d) h.file)

  pub page-version : (page_of x).role.head.version ≡ role_version d
  page-version = sym (ap (λ (p : SignedDoc TargetsDoc). p.role.head.version) page-is)
