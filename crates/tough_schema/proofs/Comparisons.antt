-- What is left of a comparison.
use Rattle.std.proofs.Common.{◌≡◌, ◌==◌, ◌+◌, Bool, true, false, ◌&&◌, List, [], ◌∷◌, ◌++◌, length, refl, sym, ap, ◌∙◌, arith}
use borrow.Author.Tests.{eqb-true}
use Rattle.tough_schema.specs.declared.delegations.DelegatedRole.{DelegatedRole}
use Rattle.tough_schema.specs.declared.equal.Pair.{Pair}
use Rattle.tough_schema.specs.Below.{branches_under, count, roles_beneath, work}
use Rattle.tough_schema.specs.Whole.{role_tree, role_branches}
use Rattle.tough_schema.specs.Equal.{same_but_below, same_roles}
use Rattle.tough_schema.proofs.Seeks.{count-roles}
use Rattle.tough_schema.specs.Equals.{same-cons}
use Rattle.tough_schema.specs.Comparing.{same_pair, all_same, works}

swap : (a b c : Bool) → (a && (b && c)) ≡ (b && (a && c))
swap true b c = refl
swap false true c = refl
swap false false c = refl

assoc : (a b c : Bool) → ((a && b) && c) ≡ (a && (b && c))
assoc true b c = refl
assoc false b c = refl

-- with another pair behind the others
pub all-last : (ps : List Pair) (p : Pair) → all_same (ps ++ p ∷ []) ≡ (same_pair p && all_same ps)
all-last [] p = refl
all-last (q ∷ ps) p = ap (λ b. same_pair q && b) (all-last ps p) ∙ swap (same_pair q) (same_pair p) (all_same ps)

pub works-last : (ps : List Pair) (p : Pair) → works (ps ++ p ∷ []) ≡ work p.one.now + works ps
works-last [] p = omega arith
works-last (q ∷ ps) p = omega (arith, works-last ps p)

-- the roles below the first one, and the others, take fewer steps
pub work-cons : (rs others below : List DelegatedRole) (r : DelegatedRole) → rs ≡ r ∷ others → role_branches below ≡ branches_under (role_tree r).1 → work rs ≡ work others + work below + 2
work-cons rs others below r e is = omega (arith, count-roles rs others r e, ap count is)

-- ---- a step

-- they are the same, so that those below them and the others decide
pub descends : (rs us xs ys : List DelegatedRole) (r s : DelegatedRole) (w : Bool) (left : List Pair) → rs ≡ r ∷ xs → us ≡ s ∷ ys → same_but_below r s ≡ true → w ≡ (same_roles rs us && all_same left)
    → w ≡ (same_roles (roles_beneath r) (roles_beneath s) && (same_roles xs ys && all_same left))
descends rs us xs ys r s w left e f agrees h = h ∙ ap (λ l. same_roles l us && all_same left) e ∙ ap (λ l. same_roles (r ∷ xs) l && all_same left) f ∙ ap (λ b. b && all_same left) (same-cons r s xs ys ∙ ap (λ b. (b && same_roles (roles_beneath r) (roles_beneath s)) && same_roles xs ys) agrees)
    ∙ assoc (same_roles (roles_beneath r) (roles_beneath s)) (same_roles xs ys) (all_same left)

-- the others were compared at once
pub at-once : (left old : List Pair) (xs ys : List DelegatedRole) → left ≡ old → true ≡ same_roles xs ys → all_same left ≡ (same_roles xs ys && all_same old)
at-once left old xs ys e h = ap all_same e ∙ ap (λ b. b && all_same old) h

-- the others, compared at once, differ
pub others-differ : (below others rest : Bool) (w : Bool) → w ≡ (below && (others && rest)) → false ≡ others → false ≡ w
others-differ true true rest w h e = e ∙ absurd (cc (e))
others-differ true false rest w h e = sym h
others-differ false others rest w h e = sym h

-- both lists end, so that the last pair is next
pub next-pair : (rs us : List DelegatedRole) (left before : List Pair) (p : Pair) (w : Bool) → true ≡ (length rs == 0) → true ≡ (length us == 0) → left ≡ before ++ p ∷ [] → w ≡ (same_roles rs us && all_same left)
    → w ≡ (same_roles p.one.now p.other.now && all_same before)
next-pair [] [] left before p w a b e h = h ∙ ap all_same e ∙ all-last before p
next-pair [] (u ∷ us) left before p w a b e h = absurd (omega (arith, eqb-true (length (u ∷ us)) 0 (sym b)))
next-pair (r ∷ rs) us left before p w a b e h = absurd (omega (arith, eqb-true (length (r ∷ rs)) 0 (sym a)))
