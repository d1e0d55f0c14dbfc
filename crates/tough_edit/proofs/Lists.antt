-- Keys, targets and roles in lists.
use Rattle.std.proofs.Common.{◌≡◌, ℕ, List, [], ◌∷◌, length, map, Ordering, Less, Equal, Greater, Bool, true, false, cond, Some, None, refl, ap, sym, ◌∙◌}
use Rattle.std.proofs.lemmas.List.{length-map, with_items_is}
use Rattle.std.specs.Global.{Vec}
use Rattle.std.specs.Vec.{with_items}
use Rattle.std.specs.BTreeMap.{insert_entry}
use Rattle.std.specs.Map.{remove_entry}
use Rattle.std.specs.Ordering.{match_ordering}
use Rattle.tough_decoded.specs.Spelled.{Spelled}
use Rattle.tough_keys.specs.declared.key.Key.{Key}
use Rattle.tough_keys.specs.Key.{KeyDoc, key_doc}
use Rattle.tough_roles.specs.Root.{keys_doc, by_bytes}
use Rattle.tough_schema.specs.declared.delegations.DelegatedRole.{DelegatedRole}
use Rattle.tough_schema.specs.Whole.{Branches, RoleTree, role_tree, branches_from, put_branch}
use Rattle.tough_edit.specs.Edits.{roles_in}
use Rattle.tough_edit.specs.Keys.{more_keyids, with_more, all_given}

-- ---- keys

insert_at : (o : Ordering) (e : Spelled × Key) (es rest : List (Spelled × Key)) (id : Spelled) (k : Key) (docs : List (Spelled × KeyDoc)) → keys_doc rest ≡ docs
    → keys_doc (match_ordering o ((id, k) ∷ e ∷ es) ((e.0, k) ∷ es) (e ∷ rest)) ≡ match_ordering o ((id, key_doc k) ∷ keys_doc (e ∷ es)) ((e.0, key_doc k) ∷ keys_doc es) ((e.0, key_doc e.1) ∷ docs)
insert_at Less e es rest id k docs h = refl
insert_at Equal e es rest id k docs h = refl
insert_at Greater e es rest id k docs h = ap (λ l. (e.0, key_doc e.1) ∷ l) h

pub insert_keys : (es : List (Spelled × Key)) (id : Spelled) (k : Key) → keys_doc (insert_entry by_bytes es id k) ≡ insert_entry by_bytes (keys_doc es) id (key_doc k)
insert_keys [] id k = refl
insert_keys (e ∷ es) id k = insert_at (by_bytes id e.0) e es (insert_entry by_bytes es id k) id k (insert_entry by_bytes (keys_doc es) id (key_doc k)) (insert_keys es id k)

remove_at : (b : Bool) (e : Spelled × Key) (es rest : List (Spelled × Key)) (docs : List (Spelled × KeyDoc)) → keys_doc rest ≡ docs → keys_doc (cond b es (e ∷ rest)) ≡ cond b (keys_doc es) ((e.0, key_doc e.1) ∷ docs)
remove_at true e es rest docs h = refl
remove_at false e es rest docs h = ap (λ l. (e.0, key_doc e.1) ∷ l) h

pub remove_keys : (test : Spelled → Bool) (es : List (Spelled × Key)) → keys_doc (remove_entry test es) ≡ remove_entry test (keys_doc es)
remove_keys test [] = refl
remove_keys test (e ∷ es) = remove_at (test e.0) e es (remove_entry test es) (remove_entry test (keys_doc es)) (remove_keys test es)

-- ---- roles

in_put : (r : RoleTree) (bs : Branches) → roles_in (put_branch r bs) ≡ r ∷ roles_in bs
in_put (e, None) bs = refl
in_put (e, Some h) bs = refl

pub in_from : (rs : List RoleTree) → roles_in (branches_from rs) ≡ rs
in_from [] = refl
in_from (r ∷ rs) = in_put r (branches_from rs) ∙ ap (λ l. r ∷ l) (in_from rs)

-- the identifiers at its place are the role's own and more
pub given_more : (name : List ℕ) (ids : List Spelled) (rs : List RoleTree) → all_given rs (map (more_keyids name ids) rs) ≡ map (with_more name ids) rs
given_more name ids [] = refl
given_more name ids (r ∷ rs) = ap (λ l. with_more name ids r ∷ l) (given_more name ids rs)

-- as many roles, each of them changed
pub changed : (f : RoleTree → RoleTree) (v : Vec DelegatedRole) (new : List DelegatedRole) → map role_tree new ≡ map f (map role_tree v.items) → map role_tree (with_items v new).items ≡ map f (map role_tree v.items)
changed f v new e =
    let long : length new ≡ length v.items = sym (length-map new role_tree) ∙ ap length e ∙ length-map (map role_tree v.items) f ∙ length-map v.items role_tree in
    ap (map role_tree) (with_items_is v new (long ∙ sym v.ok.0)) ∙ e

pub given_roles : (name : List ℕ) (ids : List Spelled) (v : Vec DelegatedRole) (new : List DelegatedRole) (lists : List (List Spelled)) → map role_tree new ≡ all_given (map role_tree v.items) lists → lists ≡ map (more_keyids name ids) (map role_tree v.items)
    → map role_tree (with_items v new).items ≡ map (with_more name ids) (map role_tree v.items)
given_roles name ids v new lists h k = changed (with_more name ids) v new (h ∙ ap (all_given (map role_tree v.items)) k ∙ given_more name ids (map role_tree v.items))
