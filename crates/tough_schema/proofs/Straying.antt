-- The strays of a document, of roles one after another, and of a role.
use Rattle.std.proofs.Common.{◌≡◌, ◌+◌, ◌-◌, ◌<◌, arith, List, [], ◌∷◌, ◌++◌, length, get_or, Bool, true, false, ◌&&◌, not, Bor, Some, None, option_map, String, Global, string_bytes, refl, sym, ap, ◌∙◌, append-nil, append_assoc, length-append}
use Rattle.std.proofs.lemmas.List.{take_at}
use Rattle.std.proofs.lemmas.List.Folds.{list_all_at}
use Rattle.std.specs.List.{list_all}
use Rattle.std.specs.BTreeSet.{BTreeSet, Updates}
use Rattle.std.specs.String.{string_cmp}
use Rattle.tough_names.specs.Named.{Named}
use Rattle.tough_roles.specs.declared.signed.Signed.{Signed}
use Rattle.tough_schema.specs.declared.delegations.DelegatedRole.{DelegatedRole, out-DelegatedRole}
use Rattle.tough_schema.specs.declared.strays.Step.{Step}
use Rattle.tough_schema.specs.declared.targets.DelegatedTargets.{DelegatedTargets, out-DelegatedTargets}
use Rattle.tough_schema.specs.declared.targets.Targets.{out-Targets}
use Rattle.tough_schema.specs.Targets.{listing_doc}
use Rattle.tough_schema.specs.Tree.{Listing}
use Rattle.tough_schema.specs.Paths.{paths_doc}
use Rattle.tough_schema.specs.Passing.{Pass, pass, passed, passed_at, but_last, stepped, all_stepped, weight, weights}
use Rattle.tough_schema.specs.Matching.{paths_match}
use Rattle.tough_schema.specs.Below.{branches_in}
use Rattle.tough_schema.specs.Whole.{TreeDoc, tree, Branches, RoleTree, HeldDoc, put_branch, listing_of, tree_doc, role_tree, role_branches, held_doc}
use Rattle.tough_schema.specs.Search.{Names, add, matches}
use Rattle.tough_schema.specs.Visited.{names_in}
use Rattle.tough_schema.specs.Strays.{Test, narrowed, strays_of, names_past, names_below, strays, strays_below, names_at, strays_at, all_match, way, names_of}
use Rattle.tough_schema.proofs.Listings.{listing-tree}
use Rattle.tough_schema.proofs.lemmas.Walks.{names_in-insert}
use Rattle.tough_schema.proofs.lemmas.Wholes.{role-named, role-out, role-held, held-below}

-- ---- roles one after another

past-put : (seen : Names) (r : RoleTree) (bs : Branches) → names_past seen (put_branch r bs) ≡ names_past (names_at seen r) bs
past-put seen (e, None) bs = refl
past-put seen (e, Some h) bs = refl

strays-put : (seen : Names) (test : Test) (r : RoleTree) (bs : Branches) → strays seen test (put_branch r bs) ≡ strays_at seen test r ++ strays (names_at seen r) test bs
strays-put seen test (e, None) bs = refl
strays-put seen test (e, Some h) bs =
    ap (λ l. l ++ strays (names_below (add e.name seen) h.below) test bs) (sym (append-nil (strays_below (add e.name seen) (narrowed seen e test) h.below)))

-- ---- a document

below-in : (seen : Names) (t : TreeDoc) → names_below seen t ≡ names_past seen (branches_in t)
below-in seen (tree o bs) = refl

strays-in : (seen : Names) (test : Test) (t : TreeDoc) → strays_below seen test t ≡ strays_of test (listing_of t) ++ strays seen test (branches_in t)
strays-in seen test (tree o bs) = refl

-- ---- a role

at-none : (seen : Names) (r : RoleTree) → r.1 ≡ None → names_at seen r ≡ add r.0.name seen
at-none seen (e, None) h = refl
at-none seen (e, Some x) h = cc

at-some : (seen : Names) (r : RoleTree) (x : HeldDoc) → r.1 ≡ Some x → names_at seen r ≡ names_below (add r.0.name seen) x.below
at-some seen (e, None) x h = cc
at-some seen (e, Some y) x h = let same : y ≡ x = cc in ap (λ (z : HeldDoc). names_below (add e.name seen) z.below) same

strays-none : (seen : Names) (test : Test) (r : RoleTree) → r.1 ≡ None → strays_at seen test r ≡ []
strays-none seen test (e, None) h = refl
strays-none seen test (e, Some x) h = cc

strays-some : (seen : Names) (test : Test) (r : RoleTree) (x : HeldDoc) → r.1 ≡ Some x → strays_at seen test r ≡ strays_below (add r.0.name seen) (narrowed seen r.0 test) x.below
strays-some seen test (e, None) x h = cc
strays-some seen test (e, Some y) x h =
    let same : y ≡ x = cc in append-nil (strays_below (add e.name seen) (narrowed seen e test) y.below) ∙ ap (λ (z : HeldDoc). strays_below (add e.name seen) (narrowed seen e test) z.below) same

-- the names with that of the role
pub added : (set new : BTreeSet (String Global)) (r : DelegatedRole) (k : String Global) → string_bytes k ≡ string_bytes (out-DelegatedRole r).name → Updates string_cmp set new k true
    → add (role_tree r).0.name (names_in set) ≡ names_in new
added set new r k same u = ap (λ n. add n (names_in set)) (role-named r ∙ sym same) ∙ sym (names_in-insert set new k u)

pub at-leaf : (set new : BTreeSet (String Global)) (r : DelegatedRole) → add (role_tree r).0.name (names_in set) ≡ names_in new → (out-DelegatedRole r).targets ≡ None → names_in new ≡ names_at (names_in set) (role_tree r)
at-leaf set new r e h = sym (at-none (names_in set) (role_tree r) (role-held r ∙ ap (option_map held_doc) h) ∙ e)

pub at-inner : (set new : BTreeSet (String Global)) (r : DelegatedRole) (s : Signed DelegatedTargets) → add (role_tree r).0.name (names_in set) ≡ names_in new → (out-DelegatedRole r).targets ≡ Some s
    → names_at (names_in set) (role_tree r) ≡ names_below (names_in new) (tree_doc (out-DelegatedTargets s.signed).targets)
at-inner set new r s e h =
    at-some (names_in set) (role_tree r) (held_doc s) (role-held r ∙ ap (option_map held_doc) h) ∙ ap (λ (n : Names). names_below n (held_doc s).below) e ∙ ap (names_below (names_in new)) (held-below s)

pub strays_at-leaf : (seen : Names) (test : Test) (r : DelegatedRole) → (out-DelegatedRole r).targets ≡ None → strays_at seen test (role_tree r) ≡ []
strays_at-leaf seen test r h = strays-none seen test (role_tree r) (role-held r ∙ ap (option_map held_doc) h)

pub strays_at-inner : (set new : BTreeSet (String Global)) (test inner : Test) (r : DelegatedRole) (s : Signed DelegatedTargets) → add (role_tree r).0.name (names_in set) ≡ names_in new → (out-DelegatedRole r).targets ≡ Some s
    → narrowed (names_in set) (role_tree r).0 test ≡ inner → strays_at (names_in set) test (role_tree r) ≡ strays_below (names_in new) inner (tree_doc (out-DelegatedTargets s.signed).targets)
strays_at-inner set new test inner r s e h i =
    strays-some (names_in set) test (role_tree r) (held_doc s) (role-held r ∙ ap (option_map held_doc) h)
    ∙ ap (λ (n : Names). strays_below n (narrowed (names_in set) (role_tree r).0 test) (held_doc s).below) e
    ∙ ap (λ (x : Test). strays_below (names_in new) x (held_doc s).below) i ∙ ap (strays_below (names_in new) inner) (held-below s)

-- ---- the way to its document

pub left-last : (r : Bor DelegatedRole) (above with_it : List (Bor DelegatedRole)) → with_it ≡ above ++ r ∷ [] → but_last with_it ≡ above
left-last r above with_it w =
    let size : length above ≡ length (above ++ r ∷ []) - 1 = omega (arith, length-append above (r ∷ [])) in
    ap but_last w ∙ take_at above (r ∷ []) (length (above ++ r ∷ []) - 1) size

first-one : (f m o l : Bool) → (f && (m && (o && l))) ≡ (m && ((o && f) && l))
first-one true true true l = refl
first-one true true false l = refl
first-one true false o l = refl
first-one false true true l = refl
first-one false true false l = refl
first-one false false o l = refl

way-narrowed : (seen : Names) (r : RoleTree) (is_open first : Bool) (above with_it : List (Bor DelegatedRole)) → first ≡ not (seen r.0.name)
    → ((name : Named) (wide : Bool) → way wide with_it name ≡ (matches name r.0 && way wide above name)) → narrowed seen r.0 (way is_open above) ≡ way (is_open && first) with_it
way-narrowed seen r is_open first above with_it f h =
    let at : (name : Named) → narrowed seen r.0 (way is_open above) name ≡ way (is_open && first) with_it name = λ name.
    ap (λ (b : Bool). b && (matches name r.0 && (is_open && all_match above name))) (sym f)
    ∙ first-one first (matches name r.0) is_open (all_match above name) ∙ sym (h name (is_open && first)) in
    λ i name. at name i

-- ---- steps

pub step-push : (steps : List Step) (s : Step) (p : Pass) → all_stepped (steps ++ s ∷ []) p ≡ all_stepped steps (stepped s p)
step-push [] s p = refl
step-push (x ∷ steps) s p = ap (stepped x) (step-push steps s p)

-- the step that is taken next
pub step-taken : (steps all : List Step) (s : Step) (p : Pass) → all ≡ steps ++ s ∷ [] → all_stepped steps (stepped s p) ≡ all_stepped all p
step-taken steps all s p h = sym (ap (λ (l : List Step). all_stepped l p) h ∙ step-push steps s p)

pub weights-push : (steps : List Step) (s : Step) → weights (steps ++ s ∷ []) ≡ weights steps + weight s
weights-push [] s = omega arith
weights-push (x ∷ steps) s = omega (arith, weights-push steps s)

same-pass : (above : List (Bor DelegatedRole)) (seen past : Names) (found more : List Named) → seen ≡ past → found ≡ more
    → (let x : Pass = record { above = above; seen = seen; found = found } in x) ≡ record { above = above; seen = past; found = more }
same-pass above seen past found more s f =
    ap (λ (n : Names). let x : Pass = record { above = above; seen = n; found = found } in x) s ∙ ap (λ (l : List Named). let x : Pass = record { above = above; seen = past; found = l } in x) f

pub passed-none : (is_open : Bool) (p : Pass) → passed [] is_open p ≡ p
passed-none is_open p = same-pass p.above p.seen p.seen (p.found ++ []) p.found refl (append-nil p.found)

pub passed-next : (r : DelegatedRole) (rs : List DelegatedRole) (is_open : Bool) (p : Pass) → passed rs is_open (passed_at (role_tree r) is_open p) ≡ passed (r ∷ rs) is_open p
passed-next r rs is_open p =
    let test = way is_open p.above in
    let bs = role_branches rs in
    same-pass p.above (names_past (names_at p.seen (role_tree r)) bs) (names_past p.seen (role_branches (r ∷ rs)))
    ((p.found ++ strays_at p.seen test (role_tree r)) ++ strays (names_at p.seen (role_tree r)) test bs) (p.found ++ strays p.seen test (role_branches (r ∷ rs)))
    (sym (past-put p.seen (role_tree r) bs))
    (append_assoc p.found (strays_at p.seen test (role_tree r)) (strays (names_at p.seen (role_tree r)) test bs) ∙ ap (λ (l : List Named). p.found ++ l) (sym (strays-put p.seen test (role_tree r) bs)))

-- past a role without a document
pub bare-passed : (above : List (Bor DelegatedRole)) (set new : BTreeSet (String Global)) (found : List (Bor Named)) (r : DelegatedRole) (is_open : Bool) → add (role_tree r).0.name (names_in set) ≡ names_in new → (out-DelegatedRole r).targets ≡ None
    → pass above new found ≡ passed_at (role_tree r) is_open (pass above set found)
bare-passed above set new found r is_open e h =
    let test = way is_open above in
    same-pass above (names_in new) (names_at (names_in set) (role_tree r)) (names_of found) (names_of found ++ strays_at (names_in set) test (role_tree r))
    (at-leaf set new r e h) (sym (ap (λ (l : List Named). names_of found ++ l) (strays_at-leaf (names_in set) test r h) ∙ append-nil (names_of found)))

-- past a role with one
pub document-passed : (above with_it : List (Bor DelegatedRole)) (set new : BTreeSet (String Global)) (found more : List (Bor Named)) (r : DelegatedRole) (s : Signed DelegatedTargets) (is_open first : Bool) (below : List DelegatedRole)
    → add (role_tree r).0.name (names_in set) ≡ names_in new → (out-DelegatedRole r).targets ≡ Some s → first ≡ not (names_in set (role_tree r).0.name)
    → ((name : Named) (wide : Bool) → way wide with_it name ≡ (matches name (role_tree r).0 && way wide above name))
    → role_branches below ≡ branches_in (tree_doc (out-DelegatedTargets s.signed).targets)
    → names_of more ≡ names_of found ++ strays_of (way (is_open && first) with_it) (listing_doc (out-Targets (out-DelegatedTargets s.signed).targets).targets.entries)
    → (let x : Pass = record { above = above; seen = names_past (names_in new) (role_branches below); found = names_of more ++ strays (names_in new) (way (is_open && first) with_it) (role_branches below) } in x)
    ≡ passed_at (role_tree r) is_open (pass above set found)
document-passed above with_it set new found more r s is_open first below e h f w b m =
    let doc = (out-DelegatedTargets s.signed).targets in
    let t = tree_doc doc in
    let n = names_in new in
    let inner = way (is_open && first) with_it in
    let own = strays_of inner (listing_doc (out-Targets doc).targets.entries) in
    let rest = strays n inner (branches_in t) in
    let narrow = way-narrowed (names_in set) (role_tree r) is_open first above with_it f w in
    same-pass above (names_past n (role_branches below)) (names_at (names_in set) (role_tree r)) (names_of more ++ strays n inner (role_branches below)) (names_of found ++ strays_at (names_in set) (way is_open above) (role_tree r))
    (ap (names_past n) b ∙ sym (below-in n t) ∙ sym (at-inner set new r s e h))
    (ap (λ (bs : Branches). names_of more ++ strays n inner bs) b ∙ ap (λ (l : List Named). l ++ rest) m ∙ append_assoc (names_of found) own rest
    ∙ ap (λ (l : Listing). names_of found ++ (strays_of inner l ++ rest)) (sym (listing-tree doc)) ∙ ap (λ (l : List Named). names_of found ++ l) (sym (strays-in n inner t))
    ∙ ap (λ (l : List Named). names_of found ++ l) (sym (strays_at-inner set new (way is_open above) inner r s e h narrow)))

-- ---- one path set

not-false : (b : Bool) → not b ≡ false → b ≡ true
not-false true h = refl
not-false false h = cc

by-bool : (b : Bool) → (b ≡ false → b ≡ true) → b ≡ true
by-bool true h = refl
by-bool false h = h refl

matches-same : (name : Named) (r q : DelegatedRole) → paths_doc (out-DelegatedRole r).paths ≡ paths_doc (out-DelegatedRole q).paths → matches name (role_tree r).0 ≡ matches name (role_tree q).0
matches-same name r q h =
    ap (λ (x : RoleTree). matches name x.0) (role-out r) ∙ ap (paths_match name.resolved) h ∙ sym (ap (λ (x : RoleTree). matches name x.0) (role-out q))

all-last : (p : Bor DelegatedRole → Bool) (xs : List (Bor DelegatedRole)) (d : Bor DelegatedRole) → 0 < length xs → list_all p xs ≡ true → p (get_or xs (length xs - 1) d) ≡ true
all-last p xs d h all = by-bool (p (get_or xs (length xs - 1) d)) (λ e. cc (all, list_all_at p xs (length xs - 1) d (omega arith) e))

pub same-match : (above : List (Bor DelegatedRole)) (last : Bor DelegatedRole) (role : DelegatedRole) (same : Bool) → (same ≡ true → paths_doc (out-DelegatedRole last.now).paths ≡ paths_doc (out-DelegatedRole role).paths)
    → 0 < length above → last ≡ get_or above (length above - 1) last
    → not same ≡ false → (name : Named) → all_match above name ≡ true → matches name (role_tree role).0 ≡ true
same-match above last role same h some is differ name all =
    let p : Bor DelegatedRole → Bool = λ r. matches name (role_tree r.now).0 in
    sym (matches-same name last.now role (h (not-false same differ))) ∙ ap p is ∙ all-last p above last some all
