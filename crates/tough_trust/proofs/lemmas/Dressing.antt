-- Documents with what their roles have.
use Rattle.std.proofs.Common.{◌≡◌, ℕ, zero, suc, ◌+◌, ◌<◌, ◌≤◌, List, [], ◌∷◌, map, length, get_or, set, Bool, true, false, if◌then◌else◌, Option, Some, None, is_some, refl, ap, ◌∙◌, arith}
use Rattle.std.proofs.lemmas.Bool.{eq-eqb, ne_eqb, cond-true, cond-false}
use Rattle.std.proofs.Math.Dec.{eqb}
use Rattle.tough_schema.specs.declared.delegations.DelegatedRole.{DelegatedRole}
use Rattle.tough_schema.specs.Update.{given}
use Rattle.tough_schema.specs.Whole.{OwnDoc, TreeDoc, tree, Branches, no_branches, unloaded, loaded, HeldDoc, RoleTree, put_branch, branches_from, entries_in, role_tree}
use Rattle.tough_trust.specs.delegations.Dressed.{entries_of, dressed_from, dressed_tree, dressed, only}

-- what a role has by its place
abbrev pub Has : Type 0
Has = ℕ → Option HeldDoc

abbrev pub or_else : Option HeldDoc → Option HeldDoc → Option HeldDoc
or_else None o = o
or_else (Some h) o = Some h

abbrev pub both : Has → Has → Has
both f g place = or_else (f place) (g place)

pub or-none : (o : Option HeldDoc) → or_else o None ≡ o
or-none None = refl
or-none (Some h) = refl

-- ---- twice

given-twice : (r : RoleTree) (x y : Option HeldDoc) → given (given r y) x ≡ given r (or_else x y)
given-twice r None y = refl
given-twice r (Some h) None = refl
given-twice r (Some h) (Some k) = refl

pub dress-put : (has : Has) (place : ℕ) (r : RoleTree) (bs : Branches) → dressed_from has place (put_branch r bs) ≡ put_branch (given r (has place)) (dressed_from has (suc place) bs)
dress-put has place (e, None) bs = refl
dress-put has place (e, Some h) bs = refl

twice-put : (f g : Has) (place : ℕ) (r : RoleTree) (bs rest : Branches) → dressed_from f (suc place) bs ≡ rest
    → dressed_from f place (put_branch (given r (g place)) bs) ≡ put_branch (given r (both f g place)) rest
twice-put f g place r bs rest h =
    dress-put f place (given r (g place)) bs ∙ ap (put_branch (given (given r (g place)) (f place))) h ∙ ap (λ (x : RoleTree). put_branch x rest) (given-twice r (f place) (g place))

twice-from : (f g : Has) (place : ℕ) (bs : Branches) → dressed_from f place (dressed_from g place bs) ≡ dressed_from (both f g) place bs
twice-from f g place no_branches = refl
twice-from f g place (unloaded e bs) = twice-put f g place (e, None) (dressed_from g (suc place) bs) (dressed_from (both f g) (suc place) bs) (twice-from f g (suc place) bs)
twice-from f g place (loaded e name signatures t bs) =
    twice-put f g place (e, Some (record { name = name; signatures = signatures; below = t })) (dressed_from g (suc place) bs) (dressed_from (both f g) (suc place) bs) (twice-from f g (suc place) bs)

twice-if : (b : Bool) (f g : Has) (o : OwnDoc) (bs : Branches)
    → tree o (if b then dressed_from f 0 (if b then dressed_from g 0 bs else bs) else (if b then dressed_from g 0 bs else bs)) ≡ tree o (if b then dressed_from (both f g) 0 bs else bs)
twice-if true f g o bs = ap (tree o) (twice-from f g 0 bs)
twice-if false f g o bs = refl

twice-tree : (f g : Has) (t : TreeDoc) → dressed_tree f (dressed_tree g t) ≡ dressed_tree (both f g) t
twice-tree f g (tree o bs) = twice-if (is_some o.keys) f g o bs

pub dressed-twice : (f g : Has) (h : HeldDoc) → dressed f (dressed g h) ≡ dressed (both f g) h
dressed-twice f g h = ap (λ (t : TreeDoc). let x : HeldDoc = record h { below = t } in x) (twice-tree f g h.below)

-- ---- nothing

pub dress-none : (has : Has) (place : ℕ) (bs : Branches) → ((j : ℕ) → place ≤ j → j < place + length (entries_in bs) → has j ≡ None) → dressed_from has place bs ≡ bs
dress-none has place no_branches h = refl
dress-none has place (unloaded e bs) h =
    ap (λ (o : Option HeldDoc). put_branch (given (e, None) o) (dressed_from has (suc place) bs)) (h place (omega arith) (omega arith))
    ∙ ap (unloaded e) (dress-none has (suc place) bs (λ j a b. h j (omega arith) (omega arith)))
dress-none has place (loaded e name signatures t bs) h =
    ap (λ (o : Option HeldDoc). put_branch (given (e, Some (record { name = name; signatures = signatures; below = t })) o) (dressed_from has (suc place) bs)) (h place (omega arith) (omega arith))
    ∙ ap (loaded e name signatures t) (dress-none has (suc place) bs (λ j a b. h j (omega arith) (omega arith)))

none-if : (b : Bool) (has : Has) (o : OwnDoc) (bs : Branches) → ((j : ℕ) → has j ≡ None) → tree o (if b then dressed_from has 0 bs else bs) ≡ tree o bs
none-if true has o bs h = ap (tree o) (dress-none has 0 bs (λ j a b. h j))
none-if false has o bs h = refl

none-tree : (has : Has) (t : TreeDoc) → ((j : ℕ) → has j ≡ None) → dressed_tree has t ≡ t
none-tree has (tree o bs) h = none-if (is_some o.keys) has o bs h

pub dressed-none : (has : Has) (d : HeldDoc) → ((j : ℕ) → has j ≡ None) → dressed has d ≡ d
dressed-none has d h = ap (λ (t : TreeDoc). let x : HeldDoc = record d { below = t } in x) (none-tree has d.below h)

-- ---- one role

pub only-same : (at : ℕ) (h : HeldDoc) (place : ℕ) → place ≡ at → only at h place ≡ Some h
only-same at h place e = cond-true (eqb place at) (Some h) None (eq-eqb place at e)

pub only-other : (at : ℕ) (h : HeldDoc) (place : ℕ) → (place ≡ at → ⊥) → only at h place ≡ None
only-other at h place e = cond-false (eqb place at) (Some h) None (ne_eqb place at e)

pub dress-at : (rs : List RoleTree) (start k at : ℕ) (h : HeldDoc) (d : RoleTree) → k < length rs → at ≡ start + k
    → dressed_from (only at h) start (branches_from rs) ≡ branches_from (set rs k ((get_or rs k d).0, Some h))
dress-at [] start k at h d lt e = absurd (omega arith)
dress-at (r ∷ rs) start zero at h d lt e =
    let here : start ≡ at = omega arith in
    dress-put (only at h) start r (branches_from rs)
    ∙ ap (λ (o : Option HeldDoc). put_branch (given r o) (dressed_from (only at h) (suc start) (branches_from rs))) (only-same at h start here)
    ∙ ap (put_branch (r.0, Some h)) (dress-none (only at h) (suc start) (branches_from rs) (λ j a b. only-other at h j (λ same. omega arith)))
dress-at (r ∷ rs) start (suc k) at h d lt e =
    dress-put (only at h) start r (branches_from rs)
    ∙ ap (λ (o : Option HeldDoc). put_branch (given r o) (dressed_from (only at h) (suc start) (branches_from rs))) (only-other at h start (λ same. omega arith))
    ∙ ap (put_branch r) (dress-at rs (suc start) k at h d (omega arith) (omega arith))

-- ---- the roles of a document

entries-put : (r : RoleTree) (bs : Branches) → entries_in (put_branch r bs) ≡ r.0 ∷ entries_in bs
entries-put (e, None) bs = refl
entries-put (e, Some h) bs = refl

pub entries-from : (rs : List DelegatedRole) → entries_in (branches_from (map role_tree rs)) ≡ entries_of rs
entries-from [] = refl
entries-from (r ∷ rs) = entries-put (role_tree r) (branches_from (map role_tree rs)) ∙ ap (λ l. (role_tree r).0 ∷ l) (entries-from rs)
