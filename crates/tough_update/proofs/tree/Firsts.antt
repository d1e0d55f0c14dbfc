-- The first role of a name, by its place in the list.
use Rattle.std.proofs.Common.{◌≡◌, ℕ, suc, ◌+◌, List, [], ◌∷◌, map, drop, length, get_or, ◌<◌, string_bytes, Bor, Bool, true, false, cond, if◌then◌else◌, Option, Some, None, option_map, refl, ap, sym, ◌∙◌, arith}
use Rattle.std.proofs.lemmas.List.{drop_more, drop_all, drop-map}
use Rattle.std.specs.Prelude.{option_and_then}
use Rattle.std.specs.List.{position_from}
use Rattle.std.specs.Slice.{IsItemAt}
use Rattle.std.specs.Str.{bytes_eq}
use Rattle.tough_roles.specs.declared.signed.Signed.{Signed}
use Rattle.tough_schema.specs.Delegations.{DelegatedRoleDoc, DelegationsDoc, delegated_role_doc, delegations_doc}
use Rattle.tough_schema.specs.Tree.{Entry}
use Rattle.tough_schema.specs.Below.{roles_at}
use Rattle.tough_schema.specs.Verify.{role_named}
use Rattle.tough_schema.specs.Whole.{role_tree, held_doc, top_doc}
use Rattle.tough_schema.specs.declared.delegations.DelegatedRole.{DelegatedRole, out-DelegatedRole}
use Rattle.tough_schema.specs.declared.delegations.Delegations.{Delegations}
use Rattle.tough_schema.specs.declared.targets.DelegatedTargets.{DelegatedTargets, out-DelegatedTargets}
use Rattle.tough_schema.specs.declared.targets.Targets.{out-Targets}
use Rattle.tough_trust.specs.delegations.Dressed.{entries_of, listed_in}
use Rattle.tough_update.proofs.tree.Listing.{role-name, delegations-held}

-- ---- the role at a place

abbrev head_doc : List DelegatedRole → Option DelegatedRoleDoc
head_doc [] = None
head_doc (r ∷ rs) = Some (delegated_role_doc r)

doc-at : (rs : List DelegatedRole) (i : ℕ) (r : Option (Bor DelegatedRole)) → IsItemAt rs i r → option_map (λ x. delegated_role_doc x.now) r ≡ head_doc (drop i rs)
doc-at rs i None h = sym (ap head_doc (drop_all i rs h.3))
doc-at rs i (Some r) h = sym (ap head_doc (drop_more rs i r.now h.3.0 ∙ ap (λ y. y ∷ drop (i + 1) rs) (sym h.1)))

-- whether a role has the name
abbrev has : List ℕ → Entry → Bool
has name e = bytes_eq e.name name

-- one role more, before those that were seen
pub seen-from : (rs : List DelegatedRole) (at next : ℕ) (r : DelegatedRole) (key name : List ℕ) (o : Option ℕ) → at < length rs → r ≡ get_or rs at r → key ≡ string_bytes (out-DelegatedRole r).name → next ≡ at + 1
    → o ≡ position_from (has name) next (drop next (entries_of rs)) → cond (bytes_eq key name) (Some at) o ≡ position_from (has name) at (drop at (entries_of rs))
seen-from rs at next r key name o h is same after seen =
    let there : drop at (entries_of rs) ≡ (role_tree r).0 ∷ drop (at + 1) (entries_of rs) =
    drop-map (λ x. (role_tree x).0) at rs ∙ ap entries_of (drop_more rs at r h ∙ ap (λ y. y ∷ drop (at + 1) rs) (sym is)) ∙ ap (λ l. (role_tree r).0 ∷ l) (sym (drop-map (λ x. (role_tree x).0) (at + 1) rs)) in
    let rest : o ≡ position_from (has name) (at + 1) (drop (at + 1) (entries_of rs)) = seen ∙ ap (λ i. position_from (has name) i (drop i (entries_of rs))) after in
    ap (λ k. cond (bytes_eq k name) (Some at) o) (same ∙ sym (role-name r)) ∙ ap (cond (has name (role_tree r).0) (Some at)) rest ∙ ap (position_from (has name) at) (sym there)

-- ---- the first of a name

module _ (name : List ℕ) where
  abbrev named : List DelegatedRole → Option DelegatedRoleDoc
  named rs = role_named name (map delegated_role_doc rs)

  named-by : (b : Bool) (r : DelegatedRole) (rs : List DelegatedRole) → bytes_eq (role_tree r).0.name name ≡ b → named (r ∷ rs) ≡ (if b then Some (delegated_role_doc r) else named rs)
  named-by b r rs h = ap (λ x. if x then Some (delegated_role_doc r) else named rs) (ap (λ n. bytes_eq n name) (sym (role-name r)) ∙ h)

  none-by : (b : Bool) (r : DelegatedRole) (rs : List DelegatedRole) (at : ℕ) (o : Option ℕ) → bytes_eq (role_tree r).0.name name ≡ b → (o ≡ None → named rs ≡ None) → cond b (Some at) o ≡ None → named (r ∷ rs) ≡ None
  none-by true r rs at o e f h = absurd (cc (h))
  none-by false r rs at o e f h = named-by false r rs e ∙ f h

  none-named : (rs : List DelegatedRole) (at : ℕ) → position_from (has name) at (entries_of rs) ≡ None → named rs ≡ None
  none-named [] at h = refl
  none-named (r ∷ rs) at h = none-by (bytes_eq (role_tree r).0.name name) r rs at (position_from (has name) (at + 1) (entries_of rs)) refl (none-named rs (at + 1)) h

  abbrev Stands : List DelegatedRole → ℕ → ℕ → Type 0
  Stands rs at place = (k : ℕ) × (place ≡ at + k) × (head_doc (drop k rs) ≡ named rs)

  some-by : (b : Bool) (r : DelegatedRole) (rs : List DelegatedRole) (at place : ℕ) (o : Option ℕ) → bytes_eq (role_tree r).0.name name ≡ b → (o ≡ Some place → Stands rs (at + 1) place) → cond b (Some at) o ≡ Some place → Stands (r ∷ rs) at place
  some-by true r rs at place o e f h = let same : at ≡ place = cc in let is : place ≡ at + 0 = omega arith in (0, is, sym (named-by true r rs e))
  some-by false r rs at place o e f h = let s = f h in let k = s.0 in let later : place ≡ at + 1 + k = s.1 in let is : place ≡ at + suc k = omega arith in (suc k, is, s.2 ∙ sym (named-by false r rs e))

  some-named : (rs : List DelegatedRole) (at place : ℕ) → position_from (has name) at (entries_of rs) ≡ Some place → Stands rs at place
  some-named [] at place h = absurd (cc (h))
  some-named (r ∷ rs) at place h = some-by (bytes_eq (role_tree r).0.name name) r rs at place (position_from (has name) (at + 1) (entries_of rs)) refl (some-named rs (at + 1) place) h

  -- ---- in the delegations of a document

  named-under : (o : Option Delegations) → named (roles_at o) ≡ option_and_then (λ g. role_named name g.roles) (option_map delegations_doc o)
  named-under None = refl
  named-under (Some g) = refl

  named-held : (s : Signed DelegatedTargets) → named (listed_in s) ≡ option_and_then (λ g. role_named name g.roles) (top_doc (held_doc s).below).delegations
  named-held s = named-under (out-Targets (out-DelegatedTargets s.signed).targets).delegations ∙ ap (option_and_then (λ (g : DelegationsDoc). role_named name g.roles)) (delegations-held s)

  pub none-in : (s : Signed DelegatedTargets) → position_from (has name) 0 (entries_of (listed_in s)) ≡ None → None ≡ option_and_then (λ g. role_named name g.roles) (top_doc (held_doc s).below).delegations
  none-in s h = sym (none-named (listed_in s) 0 h) ∙ named-held s

  pub some-in : (s : Signed DelegatedTargets) (place : ℕ) (r : Option (Bor DelegatedRole)) → position_from (has name) 0 (entries_of (listed_in s)) ≡ Some place → IsItemAt (listed_in s) place r
      → option_map (λ x. delegated_role_doc x.now) r ≡ option_and_then (λ g. role_named name g.roles) (top_doc (held_doc s).below).delegations
  some-in s place r h there =
      let n = some-named (listed_in s) 0 place h in
      let k = n.0 in
      let from : place ≡ 0 + k = n.1 in
      let is : place ≡ k = omega arith in
      doc-at (listed_in s) place r there ∙ ap (λ i. head_doc (drop i (listed_in s))) is ∙ n.2 ∙ named-held s
