-- Delegated roles by name, a step at a time.
use Rattle.std.proofs.Common.{◌≡◌, ℕ, ◌+◌, ◌<◌, arith, List, [], ◌∷◌, ◌++◌, length, Bor, Bool, true, false, Option, Some, None, option_map, cond, if◌then◌else◌, string_bytes, refl, sym, ap, subst, ◌∙◌, append-nil, append_assoc}
use Rattle.std.specs.Option.{option_or}
use Rattle.std.specs.Str.{bytes_eq}
use Rattle.tough_json.proofs.lemmas.Write.{some-inj}
use Rattle.tough_roles.specs.declared.error.Error.{Error}
use Rattle.tough_roles.specs.declared.error.Error.TheVariants as errors
use Rattle.tough_roles.specs.declared.signed.Signed.{Signed}
use Rattle.tough_schema.specs.declared.delegations.DelegatedRole.{DelegatedRole, out-DelegatedRole}
use Rattle.tough_schema.specs.declared.delegations.Delegations.{Delegations, out-Delegations}
use Rattle.tough_schema.specs.declared.seek.Level.{Level}
use Rattle.tough_schema.specs.declared.seek.Seen.{Seen}
use Rattle.tough_schema.specs.declared.targets.DelegatedTargets.{DelegatedTargets, out-DelegatedTargets}
use Rattle.tough_schema.specs.declared.targets.Targets.{Targets, out-Targets}
use Rattle.tough_schema.specs.Below.{branches_in, branches_under, count, work}
use Rattle.tough_schema.specs.Whole.{TreeDoc, tree, Branches, HeldDoc, RoleTree, DelegationsTree, put_branch, tree_doc, delegations_tree, role_tree, role_branches, held_doc}
use Rattle.tough_schema.specs.Seek.{Sought, found, missing, undocumented, undelegated, if_found, or_next, if_delegated, seek, seek_in, sought, role_of, document_of, HasNone, IsUnheld, IsUnsought, standing, standing_in, first_named}
use Rattle.tough_schema.specs.Seeking.{below_at, step_at, standing_below, standing_at, seen_or, sought_through, list_work, level_standing, all_standing, level_work}
use Rattle.tough_schema.proofs.Belows.{under-some, count-put}
use Rattle.tough_schema.proofs.lemmas.Wholes.{tree-leaf, tree-inner, delegations-out, role-named, role-held, held-below}

-- ---- the role of a name

next_bare : (b : Bool) (x y t : Sought) → (if b then x else y) ≡ or_next (if b then Some x else Some y) t
next_bare true x y t = refl
next_bare false x y t = refl

next_below : (b : Bool) (x : Sought) (o : Option Sought) (t : Sought) → (if b then x else or_next o t) ≡ or_next (if b then Some x else o) t
next_below true x o t = refl
next_below false x o t = refl

seek-put : (name : List ℕ) (r : RoleTree) (bs : Branches) → seek name (put_branch r bs) ≡ or_next (step_at name r) (seek name bs)
seek-put name (e, None) bs = next_bare (bytes_eq e.name name) (found (e, None)) undocumented (seek name bs)
seek-put name (e, Some h) bs = next_below (bytes_eq e.name name) (found (e, Some h)) (if_found (seek_in name h.below)) (seek name bs)

pub step-here : (name : List ℕ) (r : DelegatedRole) → bytes_eq (string_bytes (out-DelegatedRole r).name) name ≡ true → step_at name (role_tree r) ≡ Some (found (role_tree r))
step-here name r h = ap (λ b. if b then Some (found (role_tree r)) else below_at name (role_tree r).1) (ap (λ n. bytes_eq n name) (role-named r) ∙ h)

step-other : (name : List ℕ) (r : DelegatedRole) → bytes_eq (string_bytes (out-DelegatedRole r).name) name ≡ false → step_at name (role_tree r) ≡ below_at name (option_map held_doc (out-DelegatedRole r).targets)
step-other name r h = ap (λ b. if b then Some (found (role_tree r)) else below_at name (role_tree r).1) (ap (λ n. bytes_eq n name) (role-named r) ∙ h) ∙ ap (below_at name) (role-held r)

pub step-bare : (name : List ℕ) (r : DelegatedRole) → bytes_eq (string_bytes (out-DelegatedRole r).name) name ≡ false → (out-DelegatedRole r).targets ≡ None → step_at name (role_tree r) ≡ Some undocumented
step-bare name r h t = step-other name r h ∙ ap (λ o. below_at name (option_map held_doc o)) t

pub step-below : (name : List ℕ) (r : DelegatedRole) (s : Signed DelegatedTargets) → bytes_eq (string_bytes (out-DelegatedRole r).name) name ≡ false → (out-DelegatedRole r).targets ≡ Some s
    → step_at name (role_tree r) ≡ if_found (seek_in name (tree_doc (out-DelegatedTargets s.signed).targets))
step-below name r s h t = step-other name r h ∙ ap (λ o. below_at name (option_map held_doc o)) t ∙ ap (λ (t : TreeDoc). if_found (seek_in name t)) (held-below s)

pub sought-none : (name : List ℕ) (t : Targets) → (out-Targets t).delegations ≡ None → sought name (tree_doc t) ≡ undelegated
sought-none name t h = ap (sought name) (tree-leaf t h)

pub sought-some : (name : List ℕ) (t : Targets) (g : Delegations) → (out-Targets t).delegations ≡ Some g → sought name (tree_doc t) ≡ seek name (role_branches (out-Delegations g).roles.items)
sought-some name t g h = ap (sought name) (tree-inner t g h)

pub has-document : (s : Sought) (r : DelegatedRole) (x : Signed DelegatedTargets) → s ≡ found (role_tree r) → (out-DelegatedRole r).targets ≡ Some x → document_of s ≡ Some (held_doc x)
has-document s r x e h = ap document_of e ∙ role-held r ∙ ap (option_map held_doc) h

pub has-none : (s : Sought) (r : DelegatedRole) → s ≡ found (role_tree r) → (out-DelegatedRole r).targets ≡ None → HasNone s
has-none s r e h = subst HasNone (sym e) (role-held r ∙ ap (option_map held_doc) h)

pub unheld-from : (name : List ℕ) (s : Sought) (e : Error) → IsUnsought name s e → IsUnheld name s e
unheld-from name s (errors.RoleNotFound role) h = h
unheld-from name s errors.NoTargets h = subst HasNone (sym h) tt
unheld-from name s errors.NoDelegations h = h
unheld-from name s errors.Memory h = h
unheld-from name s _ h = absurd h

seek_from_at : {A : Type 0} (o : Option A) (s : Sought) (r : RoleTree) → if_delegated o s ≡ found r → s ≡ found r
seek_from_at None s r h = cc
seek_from_at (Some a) s r h = h

seek_from : (name : List ℕ) (t : TreeDoc) (r : RoleTree) → sought name t ≡ found r → seek_in name t ≡ found r
seek_from name (tree o bs) r h = seek_from_at o.keys (seek name bs) r h

pub sought-role : (name : List ℕ) (t : TreeDoc) (r x : RoleTree) → sought name t ≡ found r → Some x ≡ role_of (seek_in name t) → sought name t ≡ found x
sought-role name t r x h e = let same : r ≡ x = some-inj (sym (e ∙ ap role_of (seek_from name t r h))) in h ∙ ap found same

pub sought-nowhere : (name : List ℕ) (t : TreeDoc) (r : RoleTree) → sought name t ≡ found r → None ≡ role_of (seek_in name t) → ⊥
sought-nowhere name t r h e = let same : None ≡ Some r = e ∙ ap role_of (seek_from name t r h) in cc

pub no-document : (s : Sought) (r : DelegatedRole) (h : HeldDoc) → document_of s ≡ Some h → s ≡ found (role_tree r) → (out-DelegatedRole r).targets ≡ None → ⊥
no-document s r h has is none = let same : None ≡ Some h = sym (ap document_of is ∙ role-held r ∙ ap (option_map held_doc) none) ∙ has in cc

-- ---- where an entry stands

or_at : (b : Bool) (x : DelegationsTree) (p q : Option DelegationsTree) → cond b (Some x) (option_or p q) ≡ option_or (cond b (Some x) p) q
or_at true x p q = refl
or_at false x p q = refl

named-append : (name : List ℕ) (xs ys : List (List ℕ × DelegationsTree)) → first_named name (xs ++ ys) ≡ option_or (first_named name xs) (first_named name ys)
named-append name [] ys = refl
named-append name (x ∷ xs) ys = ap (λ o. cond (bytes_eq x.0 name) (Some x.1) o) (named-append name xs ys) ∙ or_at (bytes_eq x.0 name) x.1 (first_named name xs) (first_named name ys)

standing-put : (all : DelegationsTree) (r : RoleTree) (bs : Branches) → standing all (put_branch r bs) ≡ standing_at all r ++ standing all bs
standing-put all (e, None) bs = refl
standing-put all (e, Some h) bs = refl

pub standing-here : (name : List ℕ) (all : DelegationsTree) (r : DelegatedRole) → bytes_eq (string_bytes (out-DelegatedRole r).name) name ≡ true → first_named name (standing_at all (role_tree r)) ≡ Some all
standing-here name all r h = ap (λ b. cond b (Some all) (first_named name (standing_below (role_tree r).1))) (ap (λ n. bytes_eq n name) (role-named r) ∙ h)

standing-other : (name : List ℕ) (all : DelegationsTree) (r : DelegatedRole) → bytes_eq (string_bytes (out-DelegatedRole r).name) name ≡ false → first_named name (standing_at all (role_tree r)) ≡ first_named name (standing_below (option_map held_doc (out-DelegatedRole r).targets))
standing-other name all r h = ap (λ b. cond b (Some all) (first_named name (standing_below (role_tree r).1))) (ap (λ n. bytes_eq n name) (role-named r) ∙ h) ∙ ap (λ o. first_named name (standing_below o)) (role-held r)

pub standing-bare : (name : List ℕ) (all : DelegationsTree) (r : DelegatedRole) → bytes_eq (string_bytes (out-DelegatedRole r).name) name ≡ false → (out-DelegatedRole r).targets ≡ None → first_named name (standing_at all (role_tree r)) ≡ None
standing-bare name all r h t = standing-other name all r h ∙ ap (λ o. first_named name (standing_below (option_map held_doc o))) t

pub standing-below : (name : List ℕ) (all : DelegationsTree) (r : DelegatedRole) (s : Signed DelegatedTargets) → bytes_eq (string_bytes (out-DelegatedRole r).name) name ≡ false → (out-DelegatedRole r).targets ≡ Some s
    → first_named name (standing_at all (role_tree r)) ≡ first_named name (standing_in (tree_doc (out-DelegatedTargets s.signed).targets))
standing-below name all r s h t = standing-other name all r h ∙ ap (λ o. first_named name (standing_below (option_map held_doc o))) t ∙ ap (λ (t : TreeDoc). first_named name (standing_in t)) (held-below s)

pub standing-leaf : (name : List ℕ) (t : Targets) → (out-Targets t).delegations ≡ None → first_named name (standing_in (tree_doc t)) ≡ None
standing-leaf name t h = ap (λ x. first_named name (standing_in x)) (tree-leaf t h)

pub standing-inner : (name : List ℕ) (t : Targets) (g : Delegations) → (out-Targets t).delegations ≡ Some g → first_named name (standing_in (tree_doc t)) ≡ first_named name (standing (delegations_tree g) (role_branches (out-Delegations g).roles.items))
standing-inner name t g h = ap (λ x. first_named name (standing_in x)) (tree-inner t g h) ∙ ap (λ (d : DelegationsTree). first_named name (standing d (role_branches (out-Delegations g).roles.items))) (sym (delegations-out g))

-- ---- without recursion

pub seek-in : (name : List ℕ) (t : TreeDoc) → seek_in name t ≡ seek name (branches_in t)
seek-in name (tree o bs) = refl

through-push : (name : List ℕ) (ls : List (Bor (List DelegatedRole))) (l : Bor (List DelegatedRole)) (s : Sought)
    → sought_through name (ls ++ l ∷ []) s ≡ sought_through name ls (or_next (if_found s) (seek name (role_branches l.now)))
through-push name [] l s = refl
through-push name (x ∷ ls) l s = ap (λ (y : Sought). or_next (if_found y) (seek name (role_branches x.now))) (through-push name ls l s)

-- the last list is searched next
pub through-last : (name : List ℕ) (ls all : List (Bor (List DelegatedRole))) (l : Bor (List DelegatedRole)) → all ≡ ls ++ l ∷ [] → sought_through name all missing ≡ sought_through name ls (seek name (role_branches l.now))
through-last name ls all l h = ap (λ (x : List (Bor (List DelegatedRole))). sought_through name x missing) h ∙ through-push name ls l missing

through-found : (name : List ℕ) (ls : List (Bor (List DelegatedRole))) (r : RoleTree) → sought_through name ls (found r) ≡ found r
through-found name [] r = refl
through-found name (x ∷ ls) r = ap (λ (y : Sought). or_next (if_found y) (seek name (role_branches x.now))) (through-found name ls r)

through-bare : (name : List ℕ) (ls : List (Bor (List DelegatedRole))) → 0 < length ls → sought_through name ls undocumented ≡ sought_through name ls missing
through-bare name [] h = absurd (omega (arith, h))
through-bare name (x ∷ []) h = refl
through-bare name (x ∷ y ∷ ls) h = ap (λ (z : Sought). or_next (if_found z) (seek name (role_branches x.now))) (through-bare name (y ∷ ls) (omega arith))

-- the first role of a list has the name
pub first-found : (name : List ℕ) (ls : List (Bor (List DelegatedRole))) (roles others : List DelegatedRole) (r : DelegatedRole) → roles ≡ r ∷ others → bytes_eq (string_bytes (out-DelegatedRole r).name) name ≡ true
    → found (role_tree r) ≡ sought_through name ls (seek name (role_branches roles))
first-found name ls roles others r h e =
    let first : seek name (role_branches roles) ≡ found (role_tree r) =
    ap (λ (l : List DelegatedRole). seek name (role_branches l)) h ∙ seek-put name (role_tree r) (role_branches others) ∙ ap (λ (x : Option Sought). or_next x (seek name (role_branches others))) (step-here name r e) in
    sym (ap (sought_through name ls) first ∙ through-found name ls (role_tree r))

-- it has another, and no document
first-bare : (name : List ℕ) (roles others : List DelegatedRole) (r : DelegatedRole) → roles ≡ r ∷ others → bytes_eq (string_bytes (out-DelegatedRole r).name) name ≡ false → (out-DelegatedRole r).targets ≡ None
    → seek name (role_branches roles) ≡ undocumented
first-bare name roles others r h e t =
    ap (λ (l : List DelegatedRole). seek name (role_branches l)) h ∙ seek-put name (role_tree r) (role_branches others) ∙ ap (λ (x : Option Sought). or_next x (seek name (role_branches others))) (step-bare name r e t)

pub bare-last : (name : List ℕ) (ls : List (Bor (List DelegatedRole))) (roles others : List DelegatedRole) (r : DelegatedRole) → roles ≡ r ∷ others → bytes_eq (string_bytes (out-DelegatedRole r).name) name ≡ false → (out-DelegatedRole r).targets ≡ None
    → ls ≡ [] → undocumented ≡ sought_through name ls (seek name (role_branches roles))
bare-last name ls roles others r h e t none =
    sym (ap (λ (l : List (Bor (List DelegatedRole))). sought_through name l (seek name (role_branches roles))) none ∙ first-bare name roles others r h e t)

pub bare-inner : (name : List ℕ) (ls : List (Bor (List DelegatedRole))) (roles others : List DelegatedRole) (r : DelegatedRole) → roles ≡ r ∷ others → bytes_eq (string_bytes (out-DelegatedRole r).name) name ≡ false → (out-DelegatedRole r).targets ≡ None
    → 0 < length ls → sought_through name ls missing ≡ sought_through name ls (seek name (role_branches roles))
bare-inner name ls roles others r h e t some = sym (ap (sought_through name ls) (first-bare name roles others r h e t) ∙ through-bare name ls some)

-- it has another, and a document
pub first-below : (name : List ℕ) (ls one two : List (Bor (List DelegatedRole))) (others below : Bor (List DelegatedRole)) (roles : List DelegatedRole) (r : DelegatedRole) (s : Signed DelegatedTargets)
    → one ≡ ls ++ others ∷ [] → two ≡ one ++ below ∷ [] → roles ≡ r ∷ others.now → bytes_eq (string_bytes (out-DelegatedRole r).name) name ≡ false → (out-DelegatedRole r).targets ≡ Some s
    → role_branches below.now ≡ branches_in (tree_doc (out-DelegatedTargets s.signed).targets)
    → sought_through name two missing ≡ sought_through name ls (seek name (role_branches roles))
first-below name ls one two others below roles r s f g h e t b =
    let rest = seek name (role_branches others.now) in
    let doc = tree_doc (out-DelegatedTargets s.signed).targets in
    through-last name one two below g
    ∙ ap (λ (l : List (Bor (List DelegatedRole))). sought_through name l (seek name (role_branches below.now))) f ∙ through-push name ls others (seek name (role_branches below.now))
    ∙ ap (λ (bs : Branches). sought_through name ls (or_next (if_found (seek name bs)) rest)) b
    ∙ ap (λ (x : Option Sought). sought_through name ls (or_next x rest)) (sym (step-below name r s e t ∙ ap if_found (seek-in name doc)))
    ∙ ap (sought_through name ls) (sym (seek-put name (role_tree r) (role_branches others.now)))
    ∙ ap (λ (l : List DelegatedRole). sought_through name ls (seek name (role_branches l))) (sym h)

pub list_work-push : (ls : List (Bor (List DelegatedRole))) (l : Bor (List DelegatedRole)) → list_work (ls ++ l ∷ []) ≡ list_work ls + work l.now
list_work-push [] l = omega arith
list_work-push (x ∷ ls) l = omega (arith, list_work-push ls l)

-- how many roles there are below the first of a list, and behind it
pub count-first : (roles others : List DelegatedRole) (r : DelegatedRole) (s : Signed DelegatedTargets) → roles ≡ r ∷ others → (out-DelegatedRole r).targets ≡ Some s
    → count (role_branches roles) ≡ 1 + (count (branches_in (tree_doc (out-DelegatedTargets s.signed).targets)) + count (role_branches others))
count-first roles others r s h t =
    ap (λ (l : List DelegatedRole). count (role_branches l)) h ∙ count-put (role_tree r) (role_branches others) ∙ ap (λ (bs : Branches). 1 + (count bs + count (role_branches others))) (under-some r s t)

pub below-fewer : (ls one two : List (Bor (List DelegatedRole))) (others below : Bor (List DelegatedRole)) (roles : List DelegatedRole) (r : DelegatedRole) (s : Signed DelegatedTargets)
    → one ≡ ls ++ others ∷ [] → two ≡ one ++ below ∷ [] → roles ≡ r ∷ others.now → (out-DelegatedRole r).targets ≡ Some s
    → role_branches below.now ≡ branches_in (tree_doc (out-DelegatedTargets s.signed).targets)
    → list_work two < list_work ls + work roles
below-fewer ls one two others below roles r s f g h t b =
    let all = count-first roles others.now r s h t in
    let last : list_work two ≡ list_work one + work below.now = ap list_work g ∙ list_work-push one below in
    let first : list_work one ≡ list_work ls + work others.now = ap list_work f ∙ list_work-push ls others in
    omega (arith, all, last, first, ap count b)

-- ---- levels

pub branches-inner : (t : Targets) (g : Delegations) → (out-Targets t).delegations ≡ Some g → branches_in (tree_doc t) ≡ role_branches (out-Delegations g).roles.items
branches-inner t g h = ap branches_in (tree-inner t g h)

-- how many there are from the first of a list on
pub count-roles : (roles others : List DelegatedRole) (r : DelegatedRole) → roles ≡ r ∷ others → count (role_branches roles) ≡ 1 + (count (branches_under (role_tree r).1) + count (role_branches others))
count-roles roles others r h = ap (λ (l : List DelegatedRole). count (role_branches l)) h ∙ count-put (role_tree r) (role_branches others)

pub seen-none : (o : Option Seen) (s : Sought) → ((x : Seen) → o ≡ Some x → ⊥) → seen_or o s ≡ s
seen-none None s h = refl
seen-none (Some x) s h = absurd (h x refl)

pub parent-none : (o : Option (Bor Delegations)) (p : Option DelegationsTree) → ((g : Bor Delegations) → o ≡ Some g → ⊥) → option_or (option_map (λ g. delegations_tree g.now) o) p ≡ p
parent-none None p h = refl
parent-none (Some g) p h = absurd (h g refl)

or-assoc : (x y z : Option DelegationsTree) → option_or (option_or x y) z ≡ option_or x (option_or y z)
or-assoc None y z = refl
or-assoc (Some x) y z = refl

standing-push : (ls : List Level) (l : Level) → all_standing (ls ++ l ∷ []) ≡ level_standing l ++ all_standing ls
standing-push [] l = sym (append-nil (level_standing l))
standing-push (x ∷ ls) l = ap (λ (ps : List (List ℕ × DelegationsTree)). ps ++ level_standing x) (standing-push ls l) ∙ append_assoc (level_standing l) (all_standing ls) (level_standing x)

-- the last level is searched next
pub standing-last : (name : List ℕ) (ls all : List Level) (l : Level) → all ≡ ls ++ l ∷ [] → first_named name (all_standing all) ≡ option_or (first_named name (level_standing l)) (first_named name (all_standing ls))
standing-last name ls all l h = ap (λ (x : List Level). first_named name (all_standing x)) h ∙ ap (first_named name) (standing-push ls l) ∙ named-append name (level_standing l) (all_standing ls)

level_work-last : (ls : List Level) (l : Level) → level_work (ls ++ l ∷ []) ≡ level_work ls + work l.roles.now
level_work-last [] l = omega arith
level_work-last (x ∷ ls) l = omega (arith, level_work-last ls l)

pub level_work-push : (ls all : List Level) (l : Level) → all ≡ ls ++ l ∷ [] → level_work all ≡ level_work ls + work l.roles.now
level_work-push ls all l h = ap level_work h ∙ level_work-last ls l

-- what stands at the first role of a level, and behind it
level-first : (name : List ℕ) (l : Level) (others : List DelegatedRole) (r : DelegatedRole) → l.roles.now ≡ r ∷ others
    → first_named name (level_standing l) ≡ option_or (first_named name (standing_at (delegations_tree l.all.now) (role_tree r))) (first_named name (standing (delegations_tree l.all.now) (role_branches others)))
level-first name l others r h =
    let all = delegations_tree l.all.now in
    ap (λ (rs : List DelegatedRole). first_named name (standing all (role_branches rs))) h ∙ ap (first_named name) (standing-put all (role_tree r) (role_branches others))
    ∙ named-append name (standing_at all (role_tree r)) (standing all (role_branches others))

pub level-none : (name : List ℕ) (l : Level) → l.roles.now ≡ [] → first_named name (level_standing l) ≡ None
level-none name l h = ap (λ (rs : List DelegatedRole). first_named name (standing (delegations_tree l.all.now) (role_branches rs))) h

pub level-here : (name : List ℕ) (l : Level) (others : List DelegatedRole) (r : DelegatedRole) → l.roles.now ≡ r ∷ others → bytes_eq (string_bytes (out-DelegatedRole r).name) name ≡ true
    → first_named name (level_standing l) ≡ Some (delegations_tree l.all.now)
level-here name l others r h e =
    let all = delegations_tree l.all.now in
    level-first name l others r h ∙ ap (λ (o : Option DelegationsTree). option_or o (first_named name (standing all (role_branches others)))) (standing-here name all r e)

pub level-bare : (name : List ℕ) (l other : Level) (ls all : List Level) (r : DelegatedRole) → l.roles.now ≡ r ∷ other.roles.now → other.all ≡ l.all → all ≡ ls ++ other ∷ []
    → bytes_eq (string_bytes (out-DelegatedRole r).name) name ≡ false → (out-DelegatedRole r).targets ≡ None
    → first_named name (all_standing all) ≡ option_or (first_named name (level_standing l)) (first_named name (all_standing ls))
level-bare name l other ls all r h a p e t =
    let g = delegations_tree l.all.now in
    let rest = role_branches other.roles.now in
    standing-last name ls all other p
    ∙ ap (λ (x : Bor Delegations). option_or (first_named name (standing (delegations_tree x.now) rest)) (first_named name (all_standing ls))) a
    ∙ ap (λ (o : Option DelegationsTree). option_or (option_or o (first_named name (standing g rest))) (first_named name (all_standing ls))) (sym (standing-bare name g r e t))
    ∙ ap (λ (o : Option DelegationsTree). option_or o (first_named name (all_standing ls))) (sym (level-first name l other.roles.now r h))

pub level-below : (name : List ℕ) (l other : Level) (ls one two : List Level) (r : DelegatedRole) (s : Signed DelegatedTargets) → l.roles.now ≡ r ∷ other.roles.now → other.all ≡ l.all → one ≡ ls ++ other ∷ []
    → bytes_eq (string_bytes (out-DelegatedRole r).name) name ≡ false → (out-DelegatedRole r).targets ≡ Some s
    → first_named name (all_standing two) ≡ option_or (first_named name (standing_in (tree_doc (out-DelegatedTargets s.signed).targets))) (first_named name (all_standing one))
    → first_named name (all_standing two) ≡ option_or (first_named name (level_standing l)) (first_named name (all_standing ls))
level-below name l other ls one two r s h a p e t b =
    let g = delegations_tree l.all.now in
    let rest = first_named name (standing g (role_branches other.roles.now)) in
    let below = first_named name (standing_in (tree_doc (out-DelegatedTargets s.signed).targets)) in
    let more = first_named name (all_standing ls) in
    b ∙ ap (option_or below) (standing-last name ls one other p ∙ ap (λ (x : Bor Delegations). option_or (first_named name (standing (delegations_tree x.now) (role_branches other.roles.now))) more) a)
    ∙ sym (or-assoc below rest more)
    ∙ ap (λ (o : Option DelegationsTree). option_or (option_or o rest) more) (sym (standing-below name g r s e t))
    ∙ ap (λ (o : Option DelegationsTree). option_or o more) (sym (level-first name l other.roles.now r h))
