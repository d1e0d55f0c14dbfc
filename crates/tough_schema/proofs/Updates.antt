-- The documents that are taken over, a step at a time.
use Rattle.std.proofs.Common.{◌≡◌, ℕ, ◌+◌, ◌<◌, List, [], ◌∷◌, ◌++◌, map, take, length, get_or, Option, Some, None, option_map, refl, ap, sym, suc, ◌∙◌, append_assoc, append-nil}
use Rattle.std.proofs.lemmas.List.{take_more, map-append, length-map, with_items_is}
use Rattle.std.specs.Vec.{with_items}
use Rattle.tough_roles.specs.Root.{keys_doc}
use Rattle.tough_roles.specs.declared.signed.Signed.{Signed}
use Rattle.tough_schema.specs.declared.delegations.DelegatedRole.{DelegatedRole, out-DelegatedRole}
use Rattle.tough_schema.specs.declared.delegations.Delegations.{Delegations, out-Delegations, roll-Delegations}
use Rattle.tough_schema.specs.declared.targets.DelegatedTargets.{DelegatedTargets}
use Rattle.tough_schema.specs.declared.targets.Targets.{Targets, out-Targets, roll-Targets}
use Rattle.tough_schema.specs.Tree.{Entry}
use Rattle.tough_schema.specs.Whole.{TreeDoc, tree, Branches, no_branches, HeldDoc, RoleTree, DelegationsTree, put_branch, branches_from, branches_of, tree_doc, delegations_tree, role_tree, held_doc, entries_in}
use Rattle.tough_schema.specs.Seek.{found, seek_in, document_of}
use Rattle.tough_schema.specs.Update.{document_sought, given, updated_in, updated, listed_roles, needed, needed_at, documents_for, all_given, all_with, with_documents}
use Rattle.tough_schema.specs.Below.{roles_at, roles_within}
use Rattle.tough_schema.proofs.lemmas.Wholes.{own, tree-roll, tree-out, tree-under, delegations-roll, delegations-out, role-held, entries-put}

-- ---- the document of the role of a name

pub document-some : (name : List ℕ) (t : Targets) (r : DelegatedRole) (s : Signed DelegatedTargets) → found (role_tree r) ≡ seek_in name (tree_doc t) → (out-DelegatedRole r).targets ≡ Some s → Some (held_doc s) ≡ document_sought name (tree_doc t)
document-some name t r s h e = sym (role-held r ∙ ap (option_map held_doc) e) ∙ ap document_of h

pub document-none : (name : List ℕ) (t : Targets) (r : DelegatedRole) → found (role_tree r) ≡ seek_in name (tree_doc t) → (out-DelegatedRole r).targets ≡ None → None ≡ document_sought name (tree_doc t)
document-none name t r h e = sym (role-held r ∙ ap (option_map held_doc) e) ∙ ap document_of h

-- ---- the documents are given

given-length : (rs : List RoleTree) (hs : List (Option HeldDoc)) → length (all_given rs hs) ≡ length rs
given-length [] hs = refl
given-length (r ∷ rs) [] = ap suc (given-length rs [])
given-length (r ∷ rs) (h ∷ hs) = ap suc (given-length rs hs)

updated-from : (old : TreeDoc) (rs : List RoleTree) → branches_from (all_given rs (documents_for old rs)) ≡ updated_in old (branches_from rs)
updated-from old [] = refl
updated-from old ((e, None) ∷ rs) = ap (put_branch (given (e, None) (document_sought e.name old))) (updated-from old rs)
updated-from old ((e, Some h) ∷ rs) = ap (put_branch (given (e, Some h) (document_sought e.name old))) (updated-from old rs)

given-none : (rs : List RoleTree) → all_given rs [] ≡ rs
given-none [] = refl
given-none (r ∷ rs) = ap (λ l. r ∷ l) (given-none rs)

with-from : (hs : List (Option HeldDoc)) (rs : List RoleTree) → branches_from (all_given rs hs) ≡ all_with hs (branches_from rs)
with-from [] rs = ap branches_from (given-none rs)
with-from (h ∷ hs) [] = refl
with-from (h ∷ hs) ((e, None) ∷ rs) = ap (put_branch (given (e, None) h)) (with-from hs rs)
with-from (h ∷ hs) ((e, Some x) ∷ rs) = ap (put_branch (given (e, Some x) h)) (with-from hs rs)

with-leaf : (hs : List (Option HeldDoc)) → no_branches ≡ all_with hs no_branches
with-leaf [] = refl
with-leaf (h ∷ hs) = refl

-- the delegations with the documents given
given-in : (hs : List (Option HeldDoc)) (g : Delegations) (new : List DelegatedRole) → map role_tree new ≡ all_given (map role_tree (out-Delegations g).roles.items) hs
    → delegations_tree (roll-Delegations (record (out-Delegations g) { roles = with_items (out-Delegations g).roles new })) ≡ ((delegations_tree g).0, all_with hs (delegations_tree g).1)
given-in hs g new h =
    let v = (out-Delegations g).roles in
    let rs = map role_tree v.items in
    let shown : Branches → DelegationsTree = λ bs. (keys_doc (out-Delegations g).keys.entries, bs) in
    let long : length new ≡ length v.items = sym (length-map new role_tree) ∙ ap length h ∙ given-length rs hs ∙ length-map v.items role_tree in
    let items : (with_items v new).items ≡ new = with_items_is v new (long ∙ sym v.ok.0) in
    delegations-roll (record (out-Delegations g) { roles = with_items v new }) ∙ ap (λ l. shown (branches_from (map role_tree l))) items ∙ ap (λ l. shown (branches_from l)) h
    ∙ ap shown (with-from hs rs) ∙ ap (λ (d : DelegationsTree). let e : DelegationsTree = (d.0, all_with hs d.1) in e) (sym (delegations-out g))

pub given-under : (hs : List (Option HeldDoc)) (t : Targets) (g : Delegations) (new : List DelegatedRole) → (out-Targets t).delegations ≡ Some g
    → map role_tree new ≡ all_given (map role_tree (out-Delegations g).roles.items) hs
    → tree_doc (roll-Targets (record (out-Targets t) { delegations = Some (roll-Delegations (record (out-Delegations g) { roles = with_items (out-Delegations g).roles new })) })) ≡ with_documents hs (tree_doc t)
given-under hs t g new under h =
    let after = roll-Delegations (record (out-Delegations g) { roles = with_items (out-Delegations g).roles new }) in
    let shown : DelegationsTree → TreeDoc = λ d. tree (own (out-Targets t) (Some d)) d.1 in
    tree-roll (record (out-Targets t) { delegations = Some after }) ∙ ap shown (given-in hs g new h) ∙ sym (ap (with_documents hs) (tree-under t (Some g) under))

-- without delegations there is no list
pub given-leaf : (hs : List (Option HeldDoc)) (t : Targets) → (out-Targets t).delegations ≡ None → tree_doc (roll-Targets (out-Targets t)) ≡ with_documents hs (tree_doc t)
given-leaf hs t h =
    let leaf = tree-under t None h in
    tree-roll (out-Targets t) ∙ sym (tree-out t) ∙ leaf ∙ ap (tree (own (out-Targets t) None)) (with-leaf hs) ∙ sym (ap (with_documents hs) leaf)

branches-within : (o : Option Delegations) → branches_of (option_map delegations_tree o) ≡ branches_from (map role_tree (roles_at o))
branches-within None = refl
branches-within (Some g) = ap (λ (d : DelegationsTree). d.1) (delegations-out g)

-- a document by its roles
within : (t : Targets) → tree_doc t ≡ tree (own (out-Targets t) (option_map delegations_tree (out-Targets t).delegations)) (branches_from (map role_tree (roles_within t)))
within t = tree-out t ∙ ap (tree (own (out-Targets t) (option_map delegations_tree (out-Targets t).delegations))) (branches-within (out-Targets t).delegations)

pub updated-with : (old : TreeDoc) (t : Targets) (hs : List (Option HeldDoc)) → hs ≡ documents_for old (map role_tree (roles_within t)) → with_documents hs (tree_doc t) ≡ updated old (tree_doc t)
updated-with old t hs h =
    let rs = map role_tree (roles_within t) in
    let o = own (out-Targets t) (option_map delegations_tree (out-Targets t).delegations) in
    ap (λ x. with_documents x (tree_doc t)) h ∙ ap (with_documents (documents_for old rs)) (within t) ∙ ap (tree o) (sym (with-from (documents_for old rs) rs) ∙ updated-from old rs) ∙ sym (ap (updated old) (within t))

pub none-from : (o : Option Delegations) → ((g : Delegations) → o ≡ Some g → ⊥) → o ≡ None
none-from None h = refl
none-from (Some g) h = absurd (h g refl)

-- ---- the names

entries-of : (rs : List DelegatedRole) → entries_in (branches_from (map role_tree rs)) ≡ map (λ r. (role_tree r).0) rs
entries-of [] = refl
entries-of (r ∷ rs) = entries-put (role_tree r) (branches_from (map role_tree rs)) ∙ ap (λ l. (role_tree r).0 ∷ l) (entries-of rs)

pub needed-within : (old : TreeDoc) (t : Targets) → needed old (map (λ r. (role_tree r).0) (roles_within t)) ≡ needed old (listed_roles (tree_doc t))
needed-within old t = ap (needed old) (sym (entries-of (roles_within t))) ∙ ap (λ x. needed old (listed_roles x)) (sym (within t))

needed-append : (old : TreeDoc) (xs ys : List Entry) → needed old (xs ++ ys) ≡ needed old xs ++ needed old ys
needed-append old [] ys = refl
needed-append old (x ∷ xs) ys = ap (λ l. needed_at old x ++ l) (needed-append old xs ys) ∙ sym (append_assoc (needed_at old x) (needed old xs) (needed old ys))

pub needed-more : (old : TreeDoc) (xs : List DelegatedRole) (i : ℕ) (x : DelegatedRole) → i < length xs → x ≡ get_or xs i x
    → needed old (map (λ r. (role_tree r).0) (take (i + 1) xs)) ≡ needed old (map (λ r. (role_tree r).0) (take i xs)) ++ needed_at old (role_tree x).0
needed-more old xs i x h is =
    let entry : DelegatedRole → Entry = λ r. (role_tree r).0 in
    let here : take (i + 1) xs ≡ take i xs ++ x ∷ [] = take_more xs i x h ∙ ap (λ y. take i xs ++ y ∷ []) (sym is) in
    ap (λ l. needed old (map entry l)) here ∙ ap (needed old) (map-append entry (take i xs) (x ∷ [])) ∙ needed-append old (map entry (take i xs)) (entry x ∷ [])
    ∙ ap (λ l. needed old (map entry (take i xs)) ++ l) (append-nil (needed_at old (entry x)))
