-- The roles of a document, and what a snapshot lists for them.
use Rattle.std.proofs.Common.{◌≡◌, ℕ, ◌+◌, List, [], ◌∷◌, map, drop, Bor, Bool, true, false, cond, if◌then◌else◌, Option, Some, None, option_map, String, string_bytes, nat_cmp, refl, ap, sym, ◌∙◌}
use Rattle.std.proofs.lemmas.List.{drop_more, drop_all, drop-map}
use Rattle.std.proofs.lemmas.Map.Text.{is_eq-slice_cmp}
use Rattle.std.specs.declared.alloc.Global.{Global}
use Rattle.std.specs.Option.{option_copied}
use Rattle.std.specs.Cmp.Lexicographic.{slice_cmp}
use Rattle.std.specs.Ordering.{is_eq}
use Rattle.std.specs.Slice.{IsItemAt}
use Rattle.std.specs.Str.{bytes_eq}
use Rattle.std.specs.Map.{lookup, remove_entry}
use Rattle.tough_roles.specs.Timestamp.{MetafileDoc, metafile_doc, metafiles_doc}
use Rattle.tough_roles.specs.declared.signed.Signed.{Signed}
use Rattle.tough_roles.specs.declared.timestamp.Metafile.{Metafile}
use Rattle.tough_schema.specs.Delegations.{delegations_doc}
use Rattle.tough_schema.specs.Targets.{TargetsDoc}
use Rattle.tough_schema.specs.declared.delegations.DelegatedRole.{DelegatedRole, out-DelegatedRole}
use Rattle.tough_schema.specs.declared.delegations.Delegations.{Delegations}
use Rattle.tough_schema.specs.declared.targets.DelegatedTargets.{DelegatedTargets, out-DelegatedTargets}
use Rattle.tough_schema.specs.declared.targets.Targets.{Targets, out-Targets}
use Rattle.tough_schema.specs.Tree.{Entry}
use Rattle.tough_schema.specs.Below.{roles_at, roles_within}
use Rattle.tough_schema.specs.Update.{listed_roles}
use Rattle.tough_schema.specs.Search.{Names}
use Rattle.tough_schema.specs.Whole.{RoleTree, NamedTree, DelegationsTree, branches_from, branches_of, tree_doc, delegations_tree, role_tree, held_doc, entries_in, top_doc}
use Rattle.tough_schema.proofs.lemmas.Wholes.{tree-out, delegations-out, role-out, named-out, top-tells}
use Rattle.tough_update.specs.delegations.Growing.{Metas, unlisted, wanted, look, looked, listed_as, at_name, first_of}
use Rattle.tough_trust.specs.delegations.Dressed.{entries_of, listed_in}
use Rattle.tough_update.specs.delegations.View.{fetched_doc}
use Rattle.tough_trust.proofs.lemmas.Dressing.{entries-from}

-- ---- the roles of a document

branches-within : (o : Option Delegations) → branches_of (option_map delegations_tree o) ≡ branches_from (map role_tree (roles_at o))
branches-within None = refl
branches-within (Some g) = ap (λ (d : DelegationsTree). d.1) (delegations-out g)

listed-within : (t : Targets) → listed_roles (tree_doc t) ≡ entries_of (roles_within t)
listed-within t = ap listed_roles (tree-out t) ∙ ap entries_in (branches-within (out-Targets t).delegations) ∙ entries-from (roles_within t)

pub listed-held : (s : Signed DelegatedTargets) → entries_of (listed_in s) ≡ listed_roles (held_doc s).below
listed-held s = sym (ap (λ (x : NamedTree). listed_roles x.1) (named-out s.signed) ∙ listed-within (out-DelegatedTargets s.signed).targets)

pub delegations-held : (s : Signed DelegatedTargets) → option_map delegations_doc (out-Targets (out-DelegatedTargets s.signed).targets).delegations ≡ (top_doc (held_doc s).below).delegations
delegations-held s =
    ap (λ (d : TargetsDoc). d.delegations) (top-tells (out-DelegatedTargets s.signed).targets)
    ∙ sym (ap (λ (x : NamedTree). (top_doc x.1).delegations) (named-out s.signed))

-- ---- the role at a place

abbrev entry : DelegatedRole → Entry
entry r = (role_tree r).0

pub drop-role : (rs : List DelegatedRole) (i : ℕ) (r : Bor DelegatedRole) → IsItemAt rs i (Some r) → drop i (entries_of rs) ≡ (role_tree r.now).0 ∷ drop (i + 1) (entries_of rs)
drop-role rs i r h =
    drop-map entry i rs
    ∙ ap entries_of (drop_more rs i r.now h.3.0 ∙ ap (λ y. y ∷ drop (i + 1) rs) (sym h.1))
    ∙ ap (λ l. (role_tree r.now).0 ∷ l) (sym (drop-map entry (i + 1) rs))

pub drop-past : (rs : List DelegatedRole) (i : ℕ) → IsItemAt rs i None → drop i (entries_of rs) ≡ []
drop-past rs i h = drop-map entry i rs ∙ ap entries_of (drop_all i rs h.3)

pub first-at : (rs : List DelegatedRole) (i : ℕ) (r : Option (Bor DelegatedRole)) → IsItemAt rs i r → option_map (λ x. (role_tree x.now).0) r ≡ first_of (drop i (entries_of rs))
first-at rs i None h = sym (ap first_of (drop-past rs i h))
first-at rs i (Some r) h = sym (ap first_of (drop-role rs i r h))

-- ---- what a snapshot lists

step : (b c : Bool) (m : Metafile) (r : Option MetafileDoc) (l : Option Metafile) → b ≡ c → r ≡ option_map metafile_doc l
    → cond b (Some (metafile_doc m)) r ≡ option_map metafile_doc (cond c (Some m) l)
step true true m r l e h = refl
step true false m r l e h = absurd (cc (e))
step false true m r l e h = absurd (cc (e))
step false false m r l e h = h

pub copied-map : {A B : Type 0} (f : A → B) (r : Option (Bor A)) → option_map (λ m. f m.now) r ≡ option_map f (option_copied r)
copied-map f None = refl
copied-map f (Some r) = refl

pub listed-in : (es : List (String Global × Metafile)) (name : List ℕ)
    → lookup (bytes_eq name) (metafiles_doc es) ≡ option_map metafile_doc (lookup (λ k. is_eq (slice_cmp nat_cmp name (string_bytes k))) es)
listed-in [] name = refl
listed-in (e ∷ es) name = step (bytes_eq name (string_bytes e.0)) (is_eq (slice_cmp nat_cmp name (string_bytes e.0))) e.1
    (lookup (bytes_eq name) (metafiles_doc es)) (lookup (λ k. is_eq (slice_cmp nat_cmp name (string_bytes k))) es) (sym (is_eq-slice_cmp name (string_bytes e.0))) (listed-in es name)

-- ---- looking at a list

pub role-name : (r : DelegatedRole) → (role_tree r).0.name ≡ string_bytes (out-DelegatedRole r).name
role-name r = ap (λ (x : RoleTree). x.0.name) (role-out r)

module _ (metas : Metas) (loaded : Names) (rs : List DelegatedRole) (i : ℕ) (r : Bor DelegatedRole) (there : IsItemAt rs i (Some r)) where
  abbrev named : List ℕ
  named = string_bytes (out-DelegatedRole r.now).name

  abbrev rest : List Entry
  rest = drop (i + 1) (entries_of rs)

  seen : (b : Bool) → loaded named ≡ b → look metas loaded (drop i (entries_of rs)) ≡ (if b then look metas loaded rest else looked (role_tree r.now).0 rest (listed_as metas (role_tree r.now).0.name))
  seen b h =
      let e = (role_tree r.now).0 in
      ap (look metas loaded) (drop-role rs i r there) ∙ ap (λ x. if x then look metas loaded rest else looked e rest (listed_as metas e.name)) (ap loaded (role-name r.now) ∙ h)

  -- a name that was loaded is passed over
  pub look-past : loaded named ≡ true → look metas loaded (drop i (entries_of rs)) ≡ look metas loaded rest
  look-past h = seen true h

  looked-as : (o : Option MetafileDoc) → o ≡ listed_as metas named → looked (role_tree r.now).0 rest o ≡ looked (role_tree r.now).0 rest (listed_as metas (role_tree r.now).0.name)
  looked-as o m = ap (looked (role_tree r.now).0 rest) (m ∙ ap (listed_as metas) (sym (role-name r.now)))

  -- another one is wanted where it is listed
  pub look-wanted : (m : MetafileDoc) → loaded named ≡ false → Some m ≡ listed_as metas named → wanted (drop i (entries_of rs)) m ≡ look metas loaded (drop i (entries_of rs))
  look-wanted m h k = ap (λ l. wanted l m) (drop-role rs i r there) ∙ looked-as (Some m) k ∙ sym (seen false h)

  pub look-unlisted : (name : List ℕ) → loaded named ≡ false → None ≡ listed_as metas named → name ≡ named → unlisted name ≡ look metas loaded (drop i (entries_of rs))
  look-unlisted name h k same = ap unlisted (same ∙ sym (role-name r.now)) ∙ looked-as None k ∙ sym (seen false h)

-- ---- what was fetched

pick : {A B : Type 0} (f : A → B) (b : Bool) (x : A) (o : Option A) (p : Option B) → p ≡ option_map f o → cond b (Some (f x)) p ≡ option_map f (cond b (Some x) o)
pick f true x o p h = refl
pick f false x o p h = h

skip : {A B : Type 0} (f : A → B) (b : Bool) (x : A) (xs ys : List A) (zs : List B) → zs ≡ map f ys → cond b (map f xs) (f x ∷ zs) ≡ map f (cond b xs (x ∷ ys))
skip f true x xs ys zs h = refl
skip f false x xs ys zs h = ap (λ l. f x ∷ l) h

abbrev pub Held : Type 0
Held = String Global × Signed DelegatedTargets

abbrev pub query : List ℕ → String Global → Bool
query name k = is_eq (slice_cmp nat_cmp name (string_bytes k))

pub fetched-lookup : (name : List ℕ) (es : List Held) → lookup (at_name name) (fetched_doc es) ≡ option_map held_doc (lookup (query name) es)
fetched-lookup name [] = refl
fetched-lookup name (e ∷ es) = pick held_doc (query name e.0) e.1 (lookup (query name) es) (lookup (at_name name) (fetched_doc es)) (fetched-lookup name es)

pub fetched-removed : (name : List ℕ) (es : List Held) → remove_entry (at_name name) (fetched_doc es) ≡ fetched_doc (remove_entry (query name) es)
fetched-removed name [] = refl
fetched-removed name (e ∷ es) =
    skip (λ (x : Held). (string_bytes x.0, held_doc x.1)) (query name e.0) e es (remove_entry (query name) es) (remove_entry (at_name name) (fetched_doc es)) (fetched-removed name es)
