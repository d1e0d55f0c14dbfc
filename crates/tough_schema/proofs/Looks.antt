-- Looking at a document, and at a role.
use Rattle.std.proofs.Common.{◌≡◌, ℕ, suc, ◌-◌, ◌<◌, ◌≤◌, arith, List, length, get_or, slice_get, Bool, true, false, Option, Some, None, is_some, is_none, option_map, option_and_then, Bor, String, Global, string_bytes, refl, sym, ap, ◌∙◌}
use Rattle.std.proofs.lemmas.Option.{slice_get-map, slice_get_read, slice_get_past}
use Rattle.std.specs.BTreeMap.{is_at}
use Rattle.std.specs.BTreeSet.{BTreeSet, contains_text}
use Rattle.std.specs.Map.{lookup}
use Rattle.std.specs.Option.{option_copied}
use Rattle.tough_names.specs.Named.{Named, by_raw_then_resolved}
use Rattle.tough_roles.specs.declared.error.Error.{Error}
use Rattle.tough_roles.specs.declared.error.Error.TheVariants as errors
use Rattle.tough_roles.specs.declared.signed.Signed.{Signed}
use Rattle.tough_schema.specs.declared.delegations.DelegatedRole.{DelegatedRole, out-DelegatedRole}
use Rattle.tough_schema.specs.declared.nodes.Node.{Node}
use Rattle.tough_schema.specs.declared.target.Target.{Target}
use Rattle.tough_schema.specs.declared.targets.DelegatedTargets.{DelegatedTargets, out-DelegatedTargets}
use Rattle.tough_schema.specs.declared.targets.Targets.{Targets, out-Targets}
use Rattle.tough_schema.specs.Target.{TargetDoc, target_doc}
use Rattle.tough_schema.specs.Whole.{TreeDoc, HeldDoc, listing_of, tree_doc, role_tree, held_doc}
use Rattle.tough_schema.specs.Search.{listed, IsNotFound}
use Rattle.tough_schema.specs.Entries.{first_missing, IsInvalid}
use Rattle.tough_schema.specs.Visited.{names_in}
use Rattle.tough_schema.specs.Found.{lists, lists_in, document_of, document_in, listed_in}
use Rattle.tough_schema.specs.Numbered.{Span, node_spans}
use Rattle.tough_schema.proofs.lemmas.Walks.{listed-get}
use Rattle.tough_schema.proofs.Listings.{listing-tree}
use Rattle.tough_schema.proofs.lemmas.Wholes.{role-held, role-named, held-below}

is_some-map : (f : Target → TargetDoc) (o : Option Target) → is_some o ≡ is_some (option_map f o)
is_some-map f None = refl
is_some-map f (Some x) = refl

-- ---- a document

pub listed-tree : (name : Named) (t : Targets) → listed name (listing_of (tree_doc t)) ≡ option_map target_doc (lookup (is_at (by_raw_then_resolved name)) (out-Targets t).targets.entries)
listed-tree name t = ap (listed name) (listing-tree t) ∙ listed-get name (out-Targets t).targets.entries

pub is-listed : (name : Named) (t : Targets) → is_some (lookup (is_at (by_raw_then_resolved name)) (out-Targets t).targets.entries) ≡ is_some (listed name (listing_of (tree_doc t)))
is-listed name t = is_some-map target_doc (lookup (is_at (by_raw_then_resolved name)) (out-Targets t).targets.entries) ∙ sym (ap is_some (listed-tree name t))

-- ---- a role

pub lists-some : (name : Named) (r : DelegatedRole) (s : Signed DelegatedTargets) → (out-DelegatedRole r).targets ≡ Some s → lists name (role_tree r) ≡ is_some (listed name (listing_of (tree_doc (out-DelegatedTargets s.signed).targets)))
lists-some name r s h = ap (λ (o : Option HeldDoc). lists_in name (option_map (λ d. listing_of d.below) o)) (role-held r ∙ ap (option_map held_doc) h) ∙ ap (λ (t : TreeDoc). is_some (listed name (listing_of t))) (held-below s)

pub lists-none : (name : Named) (r : DelegatedRole) → (out-DelegatedRole r).targets ≡ None → lists name (role_tree r) ≡ false
lists-none name r h = ap (λ (o : Option HeldDoc). lists_in name (option_map (λ d. listing_of d.below) o)) (role-held r ∙ ap (option_map held_doc) h)

pub seen-name : (set : BTreeSet (String Global)) (r : DelegatedRole) (b : Bool) → contains_text set (string_bytes (out-DelegatedRole r).name) ≡ b → names_in set (role_tree r).0.name ≡ b
seen-name set r b h = ap (names_in set) (role-named r) ∙ h

-- ---- the document of a number

document-node : (ns : List Node) (t : TreeDoc) (m : ℕ) (x : Option Node) → (m ≡ 0 → ⊥) → slice_get ns (m - 1) ≡ x → document_in m (t, node_spans ns) ≡ option_and_then (λ (s : Span). document_of s.0) (option_map (λ (n : Node). (role_tree n.role.now, n.end)) x)
document-node ns t m x positive is =
    let shown : Node → Span = λ n. (role_tree n.role.now, n.end) in
    let k = m - 1 in
    let number : m ≡ suc k = omega (arith, positive) in
    ap (λ (i : ℕ). document_in i (t, node_spans ns)) number
    ∙ ap (option_and_then (λ (s : Span). document_of s.0)) (slice_get-map shown ns k ∙ ap (option_map shown) is)

pub document-there : (ns xs : List Node) (t : TreeDoc) (m : ℕ) (n : Node) → (m ≡ 0 → ⊥) → xs ≡ ns → m - 1 < length xs → n ≡ get_or xs (m - 1) n → document_of (role_tree n.role.now) ≡ document_in m (t, node_spans ns)
document-there ns xs t m n positive is lt there =
    sym (document-node ns t m (Some n) positive (ap (λ (l : List Node). slice_get l (m - 1)) (sym is) ∙ slice_get_read xs (length xs) (m - 1) n refl lt there))

pub document-past : (ns xs : List Node) (t : TreeDoc) (m : ℕ) → (m ≡ 0 → ⊥) → xs ≡ ns → length xs ≤ m - 1 → None ≡ document_in m (t, node_spans ns)
document-past ns xs t m positive is past =
    sym (document-node ns t m None positive (ap (λ (l : List Node). slice_get l (m - 1)) (sym is) ∙ slice_get_past xs (m - 1) past))

pub document-some : (r : DelegatedRole) (s : Signed DelegatedTargets) → (out-DelegatedRole r).targets ≡ Some s → Some (tree_doc (out-DelegatedTargets s.signed).targets) ≡ document_of (role_tree r)
document-some r s e = sym (ap (option_map (λ (d : HeldDoc). d.below)) (role-held r ∙ ap (option_map held_doc) e) ∙ ap Some (held-below s))

pub document-none : (r : DelegatedRole) → (out-DelegatedRole r).targets ≡ None → None ≡ document_of (role_tree r)
document-none r e = sym (ap (option_map (λ (d : HeldDoc). d.below)) (role-held r ∙ ap (option_map held_doc) e))

-- what it lists
pub target-none : (name : Named) (d : TreeDoc × List Span) (m : ℕ) → document_in m d ≡ None → listed_in m name d ≡ None
target-none name d m h = ap (option_and_then (λ (x : TreeDoc). listed name (listing_of x))) h

pub target-some : (name : Named) (d : TreeDoc × List Span) (m : ℕ) (t : Targets) → document_in m d ≡ Some (tree_doc t) → listed_in m name d ≡ option_map target_doc (lookup (is_at (by_raw_then_resolved name)) (out-Targets t).targets.entries)
target-some name d m t h = ap (option_and_then (λ (x : TreeDoc). listed name (listing_of x))) h ∙ listed-tree name t

-- a target that was looked up
pub copied-target : (o : Option (Bor Target)) (x : Option Target) → option_copied o ≡ x → option_map (λ t. target_doc t.now) o ≡ option_map target_doc x
copied-target None x h = ap (option_map target_doc) h
copied-target (Some t) x h = ap (option_map target_doc) h

-- ---- want of memory

pub memory-not_found : (name : Named) (o : Option TargetDoc) (e : Error) → e ≡ errors.Memory → IsNotFound name o e
memory-not_found name o e h = rw h tt

pub memory-invalid : (t : TreeDoc) (e : Error) → e ≡ errors.Memory → IsInvalid t e
memory-invalid t e h = rw h tt

pub invalid-missing : (t : TreeDoc) (name : Named) (e : Error) → e ≡ errors.TargetNotFound name → first_missing t ≡ Some name → IsInvalid t e
invalid-missing t name e h m = rw h m

-- ---- whether a target was found

pub shown-some : (o : Option (Bor Target)) (x : Option TargetDoc) → option_map (λ t. target_doc t.now) o ≡ x → is_none o ≡ false → is_some x ≡ true
shown-some None x h n = cc
shown-some (Some t) x h n = sym (ap is_some h)

pub shown-none : (o : Option (Bor Target)) (x : Option TargetDoc) → option_map (λ t. target_doc t.now) o ≡ x → is_none o ≡ true → x ≡ None
shown-none None x h n = sym h
shown-none (Some t) x h n = cc
