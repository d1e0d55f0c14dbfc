-- A copy of a document with those of its roles, level by level.
use Rattle.std.proofs.Common.{◌≡◌, ℕ, ◌+◌, ◌<◌, ◌≤◌, arith, List, [], ◌∷◌, ◌++◌, map, take, drop, length, reverse, Bor, Option, Some, None, option_map, refl, ap, sym, ◌∙◌, append_assoc, append-nil, length-append}
use Rattle.std.proofs.lemmas.List.{map-append, length-map, reverse-append, take_at, drop_at, take_all, drop_all}
use Rattle.tough_roles.specs.Root.{keys_doc}
use Rattle.tough_roles.specs.Signature.{signatures_doc}
use Rattle.tough_roles.specs.declared.signed.Signed.{Signed}
use Rattle.tough_schema.specs.Whole.{TreeDoc, Branches, HeldDoc, RoleTree, DelegationsTree, branches_from, delegations_tree, tree_doc, named_tree, role_tree, role_branches, held_doc}
use Rattle.tough_schema.specs.Below.{branches_under, count, roles_at, roles_within, roles_held, roles_beneath, work}
use Rattle.tough_schema.specs.Copying.{regrown, delegations_over, document_over, held_over, rebuilt, stack, made, stepped, all_stepped, weight, weights}
use Rattle.tough_schema.specs.declared.copy.Step.{Step}
use Rattle.tough_schema.specs.declared.copy.Step.TheVariants.{Copy, Make}
use Rattle.tough_schema.specs.declared.delegations.DelegatedRole.{DelegatedRole, out-DelegatedRole}
use Rattle.tough_schema.specs.declared.delegations.Delegations.{Delegations, out-Delegations, roll-Delegations}
use Rattle.tough_schema.specs.declared.targets.DelegatedTargets.{DelegatedTargets, out-DelegatedTargets}
use Rattle.tough_schema.specs.declared.targets.Targets.{Targets, out-Targets}
use Rattle.tough_schema.proofs.Belows.{put-last}
use Rattle.tough_schema.proofs.lemmas.Wholes.{DelegationsFields, delegations-roll, delegations-out, tree-leaf, tree-inner, role-held, held-below}

-- delegations of the same keys and roles
pub delegations-copied : (g : Delegations) (x : DelegationsFields) → keys_doc x.keys.entries ≡ keys_doc (out-Delegations g).keys.entries → map role_tree x.roles.items ≡ map role_tree (out-Delegations g).roles.items
    → delegations_tree (roll-Delegations x) ≡ delegations_tree g
delegations-copied g x a b =
    delegations-roll x ∙ ap (λ ks. let e : DelegationsTree = (ks, branches_from (map role_tree x.roles.items)) in e) a ∙ ap (λ rs. let e : DelegationsTree = (keys_doc (out-Delegations g).keys.entries, branches_from rs) in e) b ∙ sym (delegations-out g)

-- delegations of the same keys and other roles
pub delegations-other : (g : Delegations) (x : DelegationsFields) → keys_doc x.keys.entries ≡ keys_doc (out-Delegations g).keys.entries → delegations_tree (roll-Delegations x) ≡ delegations_over (map role_tree x.roles.items) g
delegations-other g x a = delegations-roll x ∙ ap (λ ks. let e : DelegationsTree = (ks, branches_from (map role_tree x.roles.items)) in e) a

-- ---- over the roles that it had

document-at : (t : Targets) (o : Option Delegations) → (out-Targets t).delegations ≡ o → regrown (option_map (delegations_over (map role_tree (roles_at o))) o) (tree_doc t) ≡ tree_doc t
document-at t None h = ap (regrown None) (tree-leaf t h) ∙ sym (tree-leaf t h)
document-at t (Some g) h = ap (regrown (Some (delegations_over (map role_tree (out-Delegations g).roles.items) g))) (tree-inner t g h) ∙ sym (tree-inner t g h)

document-same : (t : Targets) → document_over (map role_tree (roles_within t)) t ≡ tree_doc t
document-same t = document-at t (out-Targets t).delegations refl

held-same : (s : Signed DelegatedTargets) → held_over (map role_tree (roles_within (out-DelegatedTargets s.signed).targets)) s ≡ held_doc s
held-same s =
    ap (λ (t : TreeDoc). let x : HeldDoc = record { name = (named_tree s.signed).0; signatures = signatures_doc s.signatures.items; below = t } in x)
    (document-same (out-DelegatedTargets s.signed).targets ∙ sym (held-below s))

helds-same : (o : Option (Signed DelegatedTargets)) → option_map (held_over (map role_tree (roles_held o))) o ≡ option_map held_doc o
helds-same None = refl
helds-same (Some s) = ap Some (held-same s)

rebuilt-same : (r : DelegatedRole) → rebuilt r (map role_tree (roles_beneath r)) ≡ role_tree r
rebuilt-same r = ap (λ (o : Option HeldDoc). let x : RoleTree = ((role_tree r).0, o) in x) (helds-same (out-DelegatedRole r).targets ∙ sym (role-held r))

-- ---- the copies

pub stack-push : (rs : List DelegatedRole) (r : DelegatedRole) → stack (rs ++ r ∷ []) ≡ role_tree r ∷ stack rs
stack-push rs r = ap reverse (map-append role_tree rs (r ∷ [])) ∙ reverse-append (map role_tree rs) (role_tree r ∷ [])

-- what was taken, and what is left
pub record Takes (count : ℕ) (all taken left : List RoleTree) : Type 0 where
  pub whole : taken ++ left ≡ all
  pub few : length taken ≤ count

pub took-more : (count : ℕ) (all : List RoleTree) (old new taken more : List DelegatedRole) (r : DelegatedRole) → Takes count all (map role_tree taken) (stack old) → length taken < count → old ≡ new ++ r ∷ [] → more ≡ taken ++ r ∷ []
    → Takes count all (map role_tree more) (stack new)
took-more count all old new taken more r t h o m =
    let shown : map role_tree more ≡ map role_tree taken ++ role_tree r ∷ [] = ap (map role_tree) m ∙ map-append role_tree taken (r ∷ []) in
    record {
      whole = ap (λ (l : List RoleTree). l ++ stack new) shown ∙ append_assoc (map role_tree taken) (role_tree r ∷ []) (stack new) ∙ ap (λ (l : List RoleTree). map role_tree taken ++ l) (sym (ap stack o ∙ stack-push new r)) ∙ t.whole;
      few = omega (arith, ap length shown, length-append (map role_tree taken) (role_tree r ∷ []), length-map taken role_tree, h);
    }

pub took-all : (count : ℕ) (all taken left : List RoleTree) → Takes count all taken left → count ≤ length taken → (taken ≡ take count all) × (left ≡ drop count all)
took-all count all taken left t h =
    let size : length taken ≡ count = omega (arith, t.few, h) in
    (sym (ap (take count) (sym t.whole) ∙ take_at taken left count size), sym (ap (drop count) (sym t.whole) ∙ drop_at taken left count size))

pub took-rest : (count : ℕ) (all taken left : List RoleTree) → Takes count all taken left → left ≡ [] → (taken ≡ take count all) × (left ≡ drop count all)
took-rest count all taken left t none =
    let same : taken ≡ all = sym (append-nil taken) ∙ ap (λ (l : List RoleTree). taken ++ l) (sym none) ∙ t.whole in
    let few : length all ≤ count = omega (arith, ap length same, t.few) in
    (same ∙ sym (take_all count all few), none ∙ sym (drop_all count all few))

-- ---- steps

pub step-push : (steps : List Step) (s : Step) (copies : List RoleTree) → all_stepped (steps ++ s ∷ []) copies ≡ all_stepped steps (stepped s copies)
step-push [] s copies = refl
step-push (x ∷ steps) s copies = ap (stepped x) (step-push steps s copies)

-- the step that is taken next
pub step-taken : (steps all : List Step) (s : Step) (copies : List RoleTree) → all ≡ steps ++ s ∷ [] → all_stepped steps (stepped s copies) ≡ all_stepped all copies
step-taken steps all s copies h = sym (ap (λ (l : List Step). all_stepped l copies) h ∙ step-push steps s copies)

pub weights-push : (steps : List Step) (s : Step) → weights (steps ++ s ∷ []) ≡ weights steps + weight s
weights-push [] s = omega arith
weights-push (x ∷ steps) s = omega (arith, weights-push steps s)

-- a role is made of the copies of those below it
made-same : (r : DelegatedRole) (copies : List RoleTree) → made r (map role_tree (roles_beneath r) ++ copies) ≡ role_tree r ∷ copies
made-same r copies =
    let below = map role_tree (roles_beneath r) in
    let n = length (roles_beneath r) in
    let size : length below ≡ n = length-map (roles_beneath r) role_tree in
    ap (λ (l : List RoleTree). rebuilt r l ∷ drop n (below ++ copies)) (take_at below copies n size) ∙ ap (λ (l : List RoleTree). rebuilt r below ∷ l) (drop_at below copies n size)
    ∙ ap (λ (x : RoleTree). x ∷ copies) (rebuilt-same r)

pub last-stepped : (steps one two three : List Step) (r : Bor DelegatedRole) (others below : Bor (List DelegatedRole)) (roles : List DelegatedRole)
    → one ≡ steps ++ Copy others ∷ [] → two ≡ one ++ Make r ∷ [] → three ≡ two ++ Copy below ∷ [] → roles ≡ others.now ++ r.now ∷ [] → below.now ≡ roles_beneath r.now
    → (copies : List RoleTree) → all_stepped three copies ≡ all_stepped steps (map role_tree roles ++ copies)
last-stepped steps one two three r others below roles e f g h b copies =
    let first = map role_tree others.now in
    ap (λ (l : List Step). all_stepped l copies) g ∙ step-push two (Copy below) copies
    ∙ ap (λ (l : List DelegatedRole). all_stepped two (map role_tree l ++ copies)) b
    ∙ ap (λ (l : List Step). all_stepped l (map role_tree (roles_beneath r.now) ++ copies)) f ∙ step-push one (Make r) (map role_tree (roles_beneath r.now) ++ copies)
    ∙ ap (all_stepped one) (made-same r.now copies)
    ∙ ap (λ (l : List Step). all_stepped l (role_tree r.now ∷ copies)) e ∙ step-push steps (Copy others) (role_tree r.now ∷ copies)
    ∙ ap (all_stepped steps) (sym (append_assoc first (role_tree r.now ∷ []) copies) ∙ ap (λ (l : List RoleTree). l ++ copies) (sym (ap (map role_tree) h ∙ map-append role_tree others.now (r.now ∷ []))))

pub last-fewer : (steps one two three : List Step) (r : Bor DelegatedRole) (others below : Bor (List DelegatedRole)) (roles : List DelegatedRole)
    → one ≡ steps ++ Copy others ∷ [] → two ≡ one ++ Make r ∷ [] → three ≡ two ++ Copy below ∷ [] → roles ≡ others.now ++ r.now ∷ [] → role_branches below.now ≡ branches_under (role_tree r.now).1
    → weights three < weights steps + work roles
last-fewer steps one two three r others below roles e f g h b =
    let all : count (role_branches roles) ≡ 1 + (count (role_branches below.now) + count (role_branches others.now)) =
    ap (λ (l : List DelegatedRole). count (role_branches l)) h ∙ put-last others.now r.now ∙ ap (λ (bs : Branches). 1 + (count bs + count (role_branches others.now))) (sym b) in
    let last : weights three ≡ weights two + work below.now = ap weights g ∙ weights-push two (Copy below) in
    let middle : weights two ≡ weights one + 1 = ap weights f ∙ weights-push one (Make r) in
    let first : weights one ≡ weights steps + work others.now = ap weights e ∙ weights-push steps (Copy others) in
    omega (arith, all, last, middle, first)

-- all roles are copied
pub all-copied : (rs : List DelegatedRole) (copies : List DelegatedRole) (taken : List RoleTree) (n : ℕ) → stack copies ≡ map role_tree rs → n ≡ length rs → taken ≡ take n (stack copies) → taken ≡ map role_tree rs
all-copied rs copies taken n all size t = t ∙ ap (take n) all ∙ take_all n (map role_tree rs) (omega (arith, size, length-map rs role_tree))
