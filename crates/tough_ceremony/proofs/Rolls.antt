-- Roles and keys of a root that are changed.
use Rattle.std.proofs.Common.{◌≡◌, List, [], ◌∷◌, Bool, true, false, cond, Ordering, Less, Equal, Greater, Option, Some, None, option_map, refl, sym, ap, ◌∙◌}
use Rattle.std.specs.BTreeMap.{insert_entry, is_at}
use Rattle.std.specs.Map.{lookup, set_value, remove_entry}
use Rattle.std.specs.Ordering.{match_ordering}
use Rattle.tough_decoded.specs.Spelled.{Spelled}
use Rattle.tough_keys.specs.Key.{KeyDoc, key_doc}
use Rattle.tough_keys.specs.declared.key.Key.{Key}
use Rattle.tough_roles.specs.Roles.{role_cmp}
use Rattle.tough_roles.specs.Root.{RoleKeysDoc, role_keys_doc, roles_doc, keys_doc, root_doc}
use Rattle.tough_roles.specs.declared.role_type.RoleType.{RoleType}
use Rattle.tough_roles.specs.declared.root.RoleKeys.{RoleKeys}
use Rattle.tough_roles.specs.declared.root.Root.{Root}
use Rattle.tough_roles.proofs.lemmas.Verdicts.{get-roles_doc}
use Rattle.tough_sign.specs.Making.{is_listed}
use Rattle.tough_ceremony.specs.Listing.{Roles, Lists, role_in, changed}

same_some : {X : Type 0} (x y : X) → Some x ≡ Some y → x ≡ y
same_some x y e = cc

-- ---- roles

abbrev Entries : Type 0
Entries = List (RoleType × RoleKeys)

set_at : (type : RoleType) (b : Bool) (e : RoleType × RoleKeys) (es : Entries) (k w : RoleKeys) (f : RoleKeysDoc → RoleKeysDoc) → cond b (Some e.1) (lookup (is_at (role_cmp type)) es) ≡ Some k → role_keys_doc w ≡ f (role_keys_doc k)
    → (lookup (is_at (role_cmp type)) es ≡ Some k → roles_doc (set_value (is_at (role_cmp type)) es w) ≡ changed type f (roles_doc es))
    → roles_doc (cond b ((e.0, w) ∷ es) (e ∷ set_value (is_at (role_cmp type)) es w)) ≡ cond b ((e.0, f (role_keys_doc e.1)) ∷ roles_doc es) ((e.0, role_keys_doc e.1) ∷ changed type f (roles_doc es))
set_at type true e es k w f h same later = ap (λ d. (e.0, d) ∷ roles_doc es) (same ∙ ap (λ x. f (role_keys_doc x)) (sym (same_some e.1 k h)))
set_at type false e es k w f h same later = ap (λ l. (e.0, role_keys_doc e.1) ∷ l) (later h)

-- what is written through a loan of the role's keys
pub set_roles : (type : RoleType) (es : Entries) (k w : RoleKeys) (f : RoleKeysDoc → RoleKeysDoc) → lookup (is_at (role_cmp type)) es ≡ Some k → role_keys_doc w ≡ f (role_keys_doc k)
    → roles_doc (set_value (is_at (role_cmp type)) es w) ≡ changed type f (roles_doc es)
set_roles type [] k w f h same = cc
set_roles type (e ∷ es) k w f h same = set_at type (is_at (role_cmp type) e.0) e es k w f h same (λ later. set_roles type es k w f later same)

none_at : (type : RoleType) (b : Bool) (e : RoleType × RoleKeys) (es : Entries) (f : RoleKeysDoc → RoleKeysDoc) → cond b (Some e.1) (lookup (is_at (role_cmp type)) es) ≡ None
    → (lookup (is_at (role_cmp type)) es ≡ None → changed type f (roles_doc es) ≡ roles_doc es)
    → cond b ((e.0, f (role_keys_doc e.1)) ∷ roles_doc es) ((e.0, role_keys_doc e.1) ∷ changed type f (roles_doc es)) ≡ (e.0, role_keys_doc e.1) ∷ roles_doc es
none_at type true e es f h later = cc
none_at type false e es f h later = ap (λ l. (e.0, role_keys_doc e.1) ∷ l) (later h)

-- where the role isn't there, nothing changes
pub no_roles : (type : RoleType) (es : Entries) (f : RoleKeysDoc → RoleKeysDoc) → lookup (is_at (role_cmp type)) es ≡ None → changed type f (roles_doc es) ≡ roles_doc es
no_roles type [] f h = refl
no_roles type (e ∷ es) f h = none_at type (is_at (role_cmp type) e.0) e es f h (no_roles type es f)

same_at : (type : RoleType) (b : Bool) (e : RoleType × RoleKeysDoc) (es : Roles) (k : RoleKeysDoc) (f h : RoleKeysDoc → RoleKeysDoc) → cond b (Some e.1) (lookup (is_at (role_cmp type)) es) ≡ Some k → f k ≡ h k
    → (lookup (is_at (role_cmp type)) es ≡ Some k → changed type f es ≡ changed type h es) → cond b ((e.0, f e.1) ∷ es) (e ∷ changed type f es) ≡ cond b ((e.0, h e.1) ∷ es) (e ∷ changed type h es)
same_at type true e es k f h there same later = let is : e.1 ≡ k = same_some e.1 k there in ap (λ d. (e.0, d) ∷ es) (ap f is ∙ (same ∙ ap h (sym is)))
same_at type false e es k f h there same later = ap (λ l. e ∷ l) (later there)

-- two changes that agree on what the role was
pub same_change : (type : RoleType) (es : Roles) (k : RoleKeysDoc) (f h : RoleKeysDoc → RoleKeysDoc) → lookup (is_at (role_cmp type)) es ≡ Some k → f k ≡ h k → changed type f es ≡ changed type h es
same_change type [] k f h there same = refl
same_change type (e ∷ es) k f h there same = same_at type (is_at (role_cmp type) e.0) e es k f h there same (λ later. same_change type es k f h later same)

insert_at : (o : Ordering) (e : RoleType × RoleKeys) (es rest : Entries) (type : RoleType) (k : RoleKeys) (docs : Roles) → roles_doc rest ≡ docs
    → roles_doc (match_ordering o ((type, k) ∷ e ∷ es) ((e.0, k) ∷ es) (e ∷ rest)) ≡ match_ordering o ((type, role_keys_doc k) ∷ roles_doc (e ∷ es)) ((e.0, role_keys_doc k) ∷ roles_doc es) ((e.0, role_keys_doc e.1) ∷ docs)
insert_at Less e es rest type k docs h = refl
insert_at Equal e es rest type k docs h = refl
insert_at Greater e es rest type k docs h = ap (λ l. (e.0, role_keys_doc e.1) ∷ l) h

pub insert_roles : (es : Entries) (type : RoleType) (k : RoleKeys) → roles_doc (insert_entry role_cmp es type k) ≡ insert_entry role_cmp (roles_doc es) type (role_keys_doc k)
insert_roles [] type k = refl
insert_roles (e ∷ es) type k = insert_at (role_cmp type e.0) e es (insert_entry role_cmp es type k) type k (insert_entry role_cmp (roles_doc es) type (role_keys_doc k)) (insert_roles es type k)

-- ---- keys

remove_at : (b : Bool) (e : Spelled × Key) (es rest : List (Spelled × Key)) (docs : List (Spelled × KeyDoc)) → keys_doc rest ≡ docs → keys_doc (cond b es (e ∷ rest)) ≡ cond b (keys_doc es) ((e.0, key_doc e.1) ∷ docs)
remove_at true e es rest docs h = refl
remove_at false e es rest docs h = ap (λ l. (e.0, key_doc e.1) ∷ l) h

pub remove_keys : (test : Spelled → Bool) (es : List (Spelled × Key)) → keys_doc (remove_entry test es) ≡ remove_entry test (keys_doc es)
remove_keys test [] = refl
remove_keys test (e ∷ es) = remove_at (test e.0) e es (remove_entry test es) (remove_entry test (keys_doc es)) (remove_keys test es)

-- ---- what a role of the program's root says

pub role_is : (r : Root) (type : RoleType) (o : Option RoleKeys) → o ≡ lookup (is_at (role_cmp type)) r.roles.entries → role_in type (root_doc r) ≡ option_map role_keys_doc o
role_is r type o e = get-roles_doc r.roles.entries type ∙ ap (option_map role_keys_doc) (sym e)

abbrev pub lists_at : (r : Root) (type : RoleType) (id : Spelled) (k : RoleKeys) (listed : Bool) → Some k ≡ lookup (is_at (role_cmp type)) r.roles.entries → is_listed k.keyids.items id ≡ listed → Lists type id listed (root_doc r)
lists_at r type id k listed there is = record { keys = role_keys_doc k; there = role_is r type (Some k) there; is = is }
