-- A role at a place of its list, and another document for it.
use Rattle.std.proofs.Common.{◌≡◌, ℕ, zero, suc, ◌+◌, ◌<◌, ◌≤◌, List, [], ◌∷◌, length, get_or, slice_set, Bool, true, false, cond, Option, Some, None, option_map, string_bytes, refl, sym, ap, ◌∙◌, arith, eq-eqb}
use Rattle.std.proofs.lemmas.Bool.{eqb-true, ne_eqb}
use Rattle.std.specs.Prelude.{eqb}
use Rattle.std.specs.Vec.{with_item}
use Rattle.tough_roles.specs.Root.{keys_doc}
use Rattle.tough_roles.specs.Signature.{signatures_doc}
use Rattle.tough_roles.specs.declared.signed.Signed.{Signed}
use Rattle.tough_schema.specs.declared.delegations.DelegatedRole.{DelegatedRole, out-DelegatedRole, roll-DelegatedRole, fold-roll-DelegatedRole}
use Rattle.tough_schema.specs.declared.delegations.Delegations.{Delegations, out-Delegations, roll-Delegations}
use Rattle.tough_schema.specs.declared.targets.DelegatedTargets.{DelegatedTargets, out-DelegatedTargets, roll-DelegatedTargets}
use Rattle.tough_schema.specs.declared.targets.Targets.{Targets, out-Targets, roll-Targets}
use Rattle.tough_schema.specs.Whole.{TreeDoc, tree, Branches, no_branches, unloaded, loaded, HeldDoc, RoleTree, NamedTree, DelegationsTree, put_branch, role_level, delegations_level, delegated_level, targets_level, tree_doc, role_tree, role_branches, delegations_tree, held_doc}
use Rattle.tough_schema.proofs.lemmas.Wholes.{own, DelegationsFields, delegations_shown, tree-roll, tree-leaf, tree-inner, delegations-roll, delegations-out, role-out, role-held, held-below, named-out, named-roll}
use Rattle.tough_schema.specs.Below.{branches_in}
use Rattle.tough_schema.specs.Putting.{wide, has, slot, role_on, filled, slot_in, filled_in, held_filled, role_along, role_below}

pub wide-put : (r : RoleTree) (bs : Branches) → wide (put_branch r bs) ≡ suc (wide bs)
wide-put (e, None) bs = refl
wide-put (e, Some h) bs = refl

pub wide-roles : (rs : List DelegatedRole) → wide (role_branches rs) ≡ length rs
wide-roles [] = refl
wide-roles (r ∷ rs) = wide-put (role_tree r) (role_branches rs) ∙ ap suc (wide-roles rs)

-- ---- the first role, and those behind it

has-put : (p : ℕ) (r : RoleTree) (bs : Branches) → has p (put_branch r bs) ≡ cond (eqb p (suc (wide bs))) true (has p bs)
has-put p (e, None) bs = refl
has-put p (e, Some h) bs = refl

slot-put : (p : ℕ) (r : RoleTree) (bs : Branches) → slot p (put_branch r bs) ≡ cond (eqb p (suc (wide bs))) r.1 (slot p bs)
slot-put p (e, None) bs = refl
slot-put p (e, Some h) bs = refl

filled-put : (p : ℕ) (o : Option HeldDoc) (r : RoleTree) (bs : Branches) → filled p o (put_branch r bs) ≡ cond (eqb p (suc (wide bs))) (put_branch (r.0, o) bs) (put_branch r (filled p o bs))
filled-put p o (e, None) bs = refl
filled-put p o (e, Some h) bs = refl

on-put : (p : ℕ) (r : RoleTree) (bs : Branches) → role_on p (put_branch r bs) ≡ cond (eqb p (suc (wide bs))) (Some r) (role_on p bs)
on-put p (e, None) bs = refl
on-put p (e, Some h) bs = refl

pub on-here : (r : RoleTree) (bs : Branches) → role_on (suc (wide bs)) (put_branch r bs) ≡ Some r
on-here r bs = on-put (suc (wide bs)) r bs ∙ ap (λ b. cond b (Some r) (role_on (suc (wide bs)) bs)) (eq-eqb (suc (wide bs)) (suc (wide bs)) refl)

pub has-here : (r : RoleTree) (bs : Branches) → has (suc (wide bs)) (put_branch r bs) ≡ true
has-here r bs = has-put (suc (wide bs)) r bs ∙ ap (λ b. cond b true (has (suc (wide bs)) bs)) (eq-eqb (suc (wide bs)) (suc (wide bs)) refl)

pub slot-here : (r : RoleTree) (bs : Branches) → slot (suc (wide bs)) (put_branch r bs) ≡ r.1
slot-here r bs = slot-put (suc (wide bs)) r bs ∙ ap (λ b. cond b r.1 (slot (suc (wide bs)) bs)) (eq-eqb (suc (wide bs)) (suc (wide bs)) refl)

pub filled-here : (o : Option HeldDoc) (r : RoleTree) (bs : Branches) → filled (suc (wide bs)) o (put_branch r bs) ≡ put_branch (r.0, o) bs
filled-here o r bs = filled-put (suc (wide bs)) o r bs ∙ ap (λ b. cond b (put_branch (r.0, o) bs) (put_branch r (filled (suc (wide bs)) o bs))) (eq-eqb (suc (wide bs)) (suc (wide bs)) refl)

has_most : (p : ℕ) (bs : Branches) (r : RoleTree) (b : Bool) → b ≡ eqb p (suc (wide bs)) → cond b true (has p bs) ≡ true → (has p bs ≡ true → p ≤ wide bs) → p ≤ suc (wide bs)
has_most p bs r true is h rest = let same : p ≡ suc (wide bs) = eqb-true p (suc (wide bs)) (sym is) in omega (arith, same)
has_most p bs r false is h rest = omega (arith, rest h)

pub has-most : (p : ℕ) (bs : Branches) → has p bs ≡ true → p ≤ wide bs
has-most p no_branches h = cc
has-most p (unloaded e bs) h = has_most p bs (e, None) (eqb p (suc (wide bs))) refl h (has-most p bs)
has-most p (loaded e n ss t bs) h = has_most p bs (e, None) (eqb p (suc (wide bs))) refl h (has-most p bs)

apart : (p : ℕ) (bs : Branches) → p ≤ wide bs → eqb p (suc (wide bs)) ≡ false
apart p bs h = ne_eqb p (suc (wide bs)) (λ same. absurd (omega (arith, h, same)))

pub has-behind : (p : ℕ) (r : RoleTree) (bs : Branches) → p ≤ wide bs → has p (put_branch r bs) ≡ has p bs
has-behind p r bs h = has-put p r bs ∙ ap (λ b. cond b true (has p bs)) (apart p bs h)

pub slot-behind : (p : ℕ) (r : RoleTree) (bs : Branches) → p ≤ wide bs → slot p (put_branch r bs) ≡ slot p bs
slot-behind p r bs h = slot-put p r bs ∙ ap (λ b. cond b r.1 (slot p bs)) (apart p bs h)

pub on-behind : (p : ℕ) (r : RoleTree) (bs : Branches) → p ≤ wide bs → role_on p (put_branch r bs) ≡ role_on p bs
on-behind p r bs h = on-put p r bs ∙ ap (λ b. cond b (Some r) (role_on p bs)) (apart p bs h)

pub filled-behind : (p : ℕ) (o : Option HeldDoc) (r : RoleTree) (bs : Branches) → p ≤ wide bs → filled p o (put_branch r bs) ≡ put_branch r (filled p o bs)
filled-behind p o r bs h = filled-put p o r bs ∙ ap (λ b. cond b (put_branch (r.0, o) bs) (put_branch r (filled p o bs))) (apart p bs h)

-- ---- what was put is there, and what is put again is there alone

wide_at : (b : Bool) (x y : Branches) (n : ℕ) → wide x ≡ n → wide y ≡ n → wide (cond b x y) ≡ n
wide_at true x y n h k = h
wide_at false x y n h k = k

wide-filled : (p : ℕ) (o : Option HeldDoc) (bs : Branches) → wide (filled p o bs) ≡ wide bs
wide-filled p o no_branches = refl
wide-filled p o (unloaded e bs) = wide_at (eqb p (suc (wide bs))) (put_branch (e, o) bs) (unloaded e (filled p o bs)) (suc (wide bs)) (wide-put (e, o) bs) (ap suc (wide-filled p o bs))
wide-filled p o (loaded e n ss t bs) = wide_at (eqb p (suc (wide bs))) (put_branch (e, o) bs) (loaded e n ss t (filled p o bs)) (suc (wide bs)) (wide-put (e, o) bs) (ap suc (wide-filled p o bs))

module _ (p : ℕ) (o q : Option HeldDoc) (r : RoleTree) (bs : Branches) where
  slot_at : (b : Bool) → b ≡ eqb p (suc (wide bs)) → cond b true (has p bs) ≡ true → (has p bs ≡ true → slot p (filled p o bs) ≡ o) → slot p (cond b (put_branch (r.0, o) bs) (put_branch r (filled p o bs))) ≡ o
  slot_at true is h rest = slot-put p (r.0, o) bs ∙ ap (λ b. cond b o (slot p bs)) (sym is)
  slot_at false is h rest =
      slot-put p r (filled p o bs) ∙ ap (λ n. cond (eqb p (suc n)) r.1 (slot p (filled p o bs))) (wide-filled p o bs) ∙ ap (λ b. cond b r.1 (slot p (filled p o bs))) (sym is) ∙ rest h

  filled_at : (b : Bool) → b ≡ eqb p (suc (wide bs)) → filled p o (filled p q bs) ≡ filled p o bs
      → filled p o (cond b (put_branch (r.0, q) bs) (put_branch r (filled p q bs))) ≡ cond b (put_branch (r.0, o) bs) (put_branch r (filled p o bs))
  filled_at true is rest = filled-put p o (r.0, q) bs ∙ ap (λ b. cond b (put_branch (r.0, o) bs) (put_branch (r.0, q) (filled p o bs))) (sym is)
  filled_at false is rest =
      let both = filled p q bs in
      filled-put p o r both ∙ ap (λ n. cond (eqb p (suc n)) (put_branch (r.0, o) both) (put_branch r (filled p o both))) (wide-filled p q bs)
      ∙ ap (λ b. cond b (put_branch (r.0, o) both) (put_branch r (filled p o both))) (sym is) ∙ ap (put_branch r) rest

slot-filled : (p : ℕ) (o : Option HeldDoc) (bs : Branches) → has p bs ≡ true → slot p (filled p o bs) ≡ o
slot-filled p o no_branches h = cc
slot-filled p o (unloaded e bs) h = slot_at p o None (e, None) bs (eqb p (suc (wide bs))) refl h (slot-filled p o bs)
slot-filled p o (loaded e n ss t bs) h = slot_at p o None (e, Some (record { name = n; signatures = ss; below = t })) bs (eqb p (suc (wide bs))) refl h (slot-filled p o bs)

filled-filled : (p : ℕ) (o q : Option HeldDoc) (bs : Branches) → filled p o (filled p q bs) ≡ filled p o bs
filled-filled p o q no_branches = refl
filled-filled p o q (unloaded e bs) = filled_at p o q (e, None) bs (eqb p (suc (wide bs))) refl (filled-filled p o q bs)
filled-filled p o q (loaded e n ss t bs) = filled_at p o q (e, Some (record { name = n; signatures = ss; below = t })) bs (eqb p (suc (wide bs))) refl (filled-filled p o q bs)

pub slot-filled-in : (p : ℕ) (o : Option HeldDoc) (t : TreeDoc) → has p (branches_in t) ≡ true → slot_in p (filled_in p o t) ≡ o
slot-filled-in p o (tree d bs) h = slot-filled p o bs h

pub filled-filled-in : (p : ℕ) (o q : Option HeldDoc) (t : TreeDoc) → filled_in p o (filled_in p q t) ≡ filled_in p o t
filled-filled-in p o q (tree d bs) = ap (tree d) (filled-filled p o q bs)

-- ---- in a list

exchange_first : (p : ℕ) (o : Option HeldDoc) (q r : RoleTree) (bs : Branches) → p ≡ suc (wide bs) → q ≡ (r.0, o) → put_branch q bs ≡ filled p o (put_branch r bs)
exchange_first p o q r bs h k = ap (λ (x : RoleTree). put_branch x bs) k ∙ sym (filled-here o r bs) ∙ ap (λ n. filled n o (put_branch r bs)) (sym h)

-- the role at an index is the one at its place from the end
pub exchange-set : (rs : List DelegatedRole) (at p : ℕ) (o : Option HeldDoc) (q r : DelegatedRole) → at + p ≡ length rs → at < length rs → r ≡ get_or rs at r → role_tree q ≡ ((role_tree r).0, o)
    → role_branches (slice_set rs at q) ≡ filled p o (role_branches rs)
exchange-set [] at p o q r h k is same = absurd (omega (arith, k))
exchange-set (x ∷ rs) zero p o q r h k is same =
    exchange_first p o (role_tree q) (role_tree x) (role_branches rs) (omega (arith, h, wide-roles rs)) (same ∙ ap (λ (y : DelegatedRole). let z : RoleTree = ((role_tree y).0, o) in z) is)
exchange-set (x ∷ rs) (suc at) p o q r h k is same =
    ap (put_branch (role_tree x)) (exchange-set rs at p o q r (omega (arith, h)) (omega (arith, k)) is same) ∙ sym (filled-behind p o (role_tree x) (role_branches rs) (omega (arith, h, k, wide-roles rs)))

pub exchange-old : (rs : List DelegatedRole) (at p : ℕ) (r : DelegatedRole) → at + p ≡ length rs → at < length rs → r ≡ get_or rs at r → (role_tree r).1 ≡ slot p (role_branches rs)
exchange-old [] at p r h k is = absurd (omega (arith, k))
exchange-old (x ∷ rs) zero p r h k is =
    ap (λ (y : DelegatedRole). (role_tree y).1) is ∙ sym (slot-here (role_tree x) (role_branches rs)) ∙ ap (λ n. slot n (role_branches (x ∷ rs))) (omega (arith, h, wide-roles rs))
exchange-old (x ∷ rs) (suc at) p r h k is = exchange-old rs at p r (omega (arith, h)) (omega (arith, k)) is ∙ sym (slot-behind p (role_tree x) (role_branches rs) (omega (arith, h, k, wide-roles rs)))

-- there is no such place
other : (p n : ℕ) → (p ≤ suc n → p ≡ 0) → eqb p (suc n) ≡ false
other p n h = ne_eqb p (suc n) (λ same. absurd (omega (arith, same, h (omega (arith, same)))))

fewer : (p n : ℕ) → (p ≤ suc n → p ≡ 0) → p ≤ n → p ≡ 0
fewer p n h k = h (omega (arith, k))

filled_none : (p : ℕ) (o : Option HeldDoc) (r : RoleTree) (bs : Branches) → (p ≤ suc (wide bs) → p ≡ 0) → filled p o bs ≡ bs → filled p o (put_branch r bs) ≡ put_branch r bs
filled_none p o r bs h rest = filled-put p o r bs ∙ ap (λ b. cond b (put_branch (r.0, o) bs) (put_branch r (filled p o bs))) (other p (wide bs) h) ∙ ap (put_branch r) rest

pub filled-none : (p : ℕ) (o : Option HeldDoc) (bs : Branches) → (p ≤ wide bs → p ≡ 0) → filled p o bs ≡ bs
filled-none p o no_branches h = refl
filled-none p o (unloaded e bs) h = filled_none p o (e, None) bs h (filled-none p o bs (fewer p (wide bs) h))
filled-none p o (loaded e n ss t bs) h = filled_none p o (e, Some (record { name = n; signatures = ss; below = t })) bs h (filled-none p o bs (fewer p (wide bs) h))

slot_none : (p : ℕ) (r : RoleTree) (bs : Branches) → (p ≤ suc (wide bs) → p ≡ 0) → slot p bs ≡ None → slot p (put_branch r bs) ≡ None
slot_none p r bs h rest = slot-put p r bs ∙ ap (λ b. cond b r.1 (slot p bs)) (other p (wide bs) h) ∙ rest

pub slot-none : (p : ℕ) (bs : Branches) → (p ≤ wide bs → p ≡ 0) → slot p bs ≡ None
slot-none p no_branches h = refl
slot-none p (unloaded e bs) h = slot_none p (e, None) bs h (slot-none p bs (fewer p (wide bs) h))
slot-none p (loaded e n ss t bs) h = slot_none p (e, Some (record { name = n; signatures = ss; below = t })) bs h (slot-none p bs (fewer p (wide bs) h))

-- ---- a role at a place of a list

pub on-list : (rs : List DelegatedRole) (at p : ℕ) (r : DelegatedRole) → at + p ≡ length rs → at < length rs → r ≡ get_or rs at r → Some (role_tree r) ≡ role_on p (role_branches rs)
on-list [] at p r h k is = absurd (omega (arith, k))
on-list (x ∷ rs) zero p r h k is =
    ap (λ (y : DelegatedRole). Some (role_tree y)) is ∙ sym (on-here (role_tree x) (role_branches rs)) ∙ ap (λ n. role_on n (role_branches (x ∷ rs))) (omega (arith, h, wide-roles rs))
on-list (x ∷ rs) (suc at) p r h k is = on-list rs at p r (omega (arith, h)) (omega (arith, k)) is ∙ sym (on-behind p (role_tree x) (role_branches rs) (omega (arith, h, k, wide-roles rs)))

on_none : (p : ℕ) (r : RoleTree) (bs : Branches) → (p ≤ suc (wide bs) → p ≡ 0) → role_on p bs ≡ None → role_on p (put_branch r bs) ≡ None
on_none p r bs h rest = on-put p r bs ∙ ap (λ b. cond b (Some r) (role_on p bs)) (other p (wide bs) h) ∙ rest

on-none : (p : ℕ) (bs : Branches) → (p ≤ wide bs → p ≡ 0) → role_on p bs ≡ None
on-none p no_branches h = refl
on-none p (unloaded e bs) h = on_none p (e, None) bs h (on-none p bs (fewer p (wide bs) h))
on-none p (loaded e n ss t bs) h = on_none p (e, Some (record { name = n; signatures = ss; below = t })) bs h (on-none p bs (fewer p (wide bs) h))

below-none : (ps : List ℕ) → role_below ps None ≡ None
below-none [] = refl
below-none (q ∷ ps) = refl

pub along-leaf : (way ps : List ℕ) (p : ℕ) (t : Targets) → way ≡ p ∷ ps → (out-Targets t).delegations ≡ None → None ≡ role_along way (tree_doc t)
along-leaf way ps p t w h = sym (ap (λ (x : List ℕ). role_along x (tree_doc t)) w ∙ ap (λ (x : TreeDoc). role_along (p ∷ ps) x) (tree-leaf t h) ∙ below-none ps)

pub along-inner : (way ps : List ℕ) (p at : ℕ) (t : Targets) (g : Delegations) (r : DelegatedRole) → way ≡ p ∷ ps → (out-Targets t).delegations ≡ Some g → at + p ≡ length (out-Delegations g).roles.items → at < length (out-Delegations g).roles.items
    → r ≡ get_or (out-Delegations g).roles.items at r → role_below ps (Some (role_tree r)) ≡ role_along way (tree_doc t)
along-inner way ps p at t g r w h sum lt is =
    ap (role_below ps) (on-list (out-Delegations g).roles.items at p r sum lt is) ∙ sym (ap (λ (x : List ℕ). role_along x (tree_doc t)) w ∙ ap (λ (x : TreeDoc). role_along (p ∷ ps) x) (tree-inner t g h))

pub along-past : (way ps : List ℕ) (p : ℕ) (t : Targets) (g : Delegations) → way ≡ p ∷ ps → (out-Targets t).delegations ≡ Some g → (p ≤ length (out-Delegations g).roles.items → p ≡ 0) → None ≡ role_along way (tree_doc t)
along-past way ps p t g w h none =
    let rs = (out-Delegations g).roles.items in
    sym (ap (λ (x : List ℕ). role_along x (tree_doc t)) w ∙ ap (λ (x : TreeDoc). role_along (p ∷ ps) x) (tree-inner t g h)
    ∙ ap (role_below ps) (on-none p (role_branches rs) (λ k. none (omega (arith, k, wide-roles rs)))) ∙ below-none ps)

abbrev from_held : ℕ → List ℕ → Option HeldDoc → Option RoleTree
from_held q ps None = None
from_held q ps (Some d) = role_along (q ∷ ps) d.below

below_from : (q : ℕ) (ps : List ℕ) (x : RoleTree) → role_below (q ∷ ps) (Some x) ≡ from_held q ps x.1
below_from q ps (e, None) = refl
below_from q ps (e, Some d) = refl

pub below-bare : (way : List ℕ) (r : DelegatedRole) → 0 < length way → (out-DelegatedRole r).targets ≡ None → None ≡ role_below way (Some (role_tree r))
below-bare [] r lt h = absurd (omega (arith, lt))
below-bare (q ∷ ps) r lt h = sym (below_from q ps (role_tree r) ∙ ap (from_held q ps) (role-held r ∙ ap (option_map held_doc) h))

pub below-held : (way : List ℕ) (r : DelegatedRole) (s : Signed DelegatedTargets) → 0 < length way → (out-DelegatedRole r).targets ≡ Some s
    → role_along way (tree_doc (out-DelegatedTargets s.signed).targets) ≡ role_below way (Some (role_tree r))
below-held [] r s lt h = absurd (omega (arith, lt))
below-held (q ∷ ps) r s lt h = sym (below_from q ps (role_tree r) ∙ ap (from_held q ps) (role-held r ∙ ap (option_map held_doc) h) ∙ ap (role_along (q ∷ ps)) (held-below s))

-- ---- in documents

pub role-given : (r : DelegatedRole) (o : Option (Signed DelegatedTargets)) → role_tree (roll-DelegatedRole (record (out-DelegatedRole r) { targets = o })) ≡ ((role_tree r).0, option_map held_doc o)
role-given r None =
    fold-roll-DelegatedRole RoleTree DelegationsTree NamedTree TreeDoc role_level delegations_level delegated_level targets_level (record (out-DelegatedRole r) { targets = None })
    ∙ sym (ap (λ (x : RoleTree). let y : RoleTree = (x.0, None) in y) (role-out r))
role-given r (Some s) =
    fold-roll-DelegatedRole RoleTree DelegationsTree NamedTree TreeDoc role_level delegations_level delegated_level targets_level (record (out-DelegatedRole r) { targets = Some s })
    ∙ sym (ap (λ (x : RoleTree). let y : RoleTree = (x.0, Some (held_doc s)) in y) (role-out r))

module _ (t : Targets) (g : Delegations) (p : ℕ) (o : Option HeldDoc) (under : (out-Targets t).delegations ≡ Some g) where
  abbrev roles : List DelegatedRole
  roles = (out-Delegations g).roles.items

  with_branches : (after : Delegations) → delegations_tree after ≡ (keys_doc (out-Delegations g).keys.entries, filled p o (role_branches roles))
      → tree_doc (roll-Targets (record (out-Targets t) { delegations = Some after })) ≡ filled_in p o (tree_doc t)
  with_branches after h =
      let shown : DelegationsTree → TreeDoc = λ d. tree (own (out-Targets t) (Some d)) d.1 in
      tree-roll (record (out-Targets t) { delegations = Some after }) ∙ ap shown h ∙ sym (ap (filled_in p o) (tree-inner t g under))

  kept : (p ≤ length roles → p ≡ 0) → delegations_shown (out-Delegations g) ≡ (keys_doc (out-Delegations g).keys.entries, filled p o (role_branches roles))
  kept none = ap (λ (bs : Branches). let d : DelegationsTree = (keys_doc (out-Delegations g).keys.entries, bs) in d) (sym (filled-none p o (role_branches roles) (λ h. none (omega (arith, h, wide-roles roles)))))

  pub tree-set : (at : ℕ) (r w : DelegatedRole) → at + p ≡ length roles → at < length roles → r ≡ get_or roles at r → role_tree w ≡ ((role_tree r).0, o)
      → tree_doc (roll-Targets (record (out-Targets t) { delegations = Some (roll-Delegations (record (out-Delegations g) { roles = with_item (out-Delegations g).roles at w })) })) ≡ filled_in p o (tree_doc t)
  tree-set at r w sum lt is new =
      let x : DelegationsFields = record (out-Delegations g) { roles = with_item (out-Delegations g).roles at w } in
      with_branches (roll-Delegations x) (delegations-roll x ∙ ap (λ (bs : Branches). let d : DelegationsTree = (keys_doc (out-Delegations g).keys.entries, bs) in d) (exchange-set roles at p o w r sum lt is new))

  -- there is no such place
  pub tree-kept : (p ≤ length roles → p ≡ 0) → tree_doc (roll-Targets (record (out-Targets t) { delegations = Some (roll-Delegations (out-Delegations g)) })) ≡ filled_in p o (tree_doc t)
  tree-kept none = with_branches (roll-Delegations (out-Delegations g)) (delegations-roll (out-Delegations g) ∙ kept none)

  pub tree-same : (p ≤ length roles → p ≡ 0) → tree_doc (roll-Targets (record (out-Targets t) { delegations = Some g })) ≡ filled_in p o (tree_doc t)
  tree-same none = with_branches g (delegations-out g ∙ kept none)

  pub slot-set : (at : ℕ) (r : DelegatedRole) → at + p ≡ length roles → at < length roles → r ≡ get_or roles at r → (role_tree r).1 ≡ slot_in p (tree_doc t)
  slot-set at r sum lt is = exchange-old roles at p r sum lt is ∙ sym (ap (slot_in p) (tree-inner t g under))

  pub slot-kept : (p ≤ length roles → p ≡ 0) → None ≡ slot_in p (tree_doc t)
  slot-kept none = sym (ap (slot_in p) (tree-inner t g under) ∙ slot-none p (role_branches roles) (λ h. none (omega (arith, h, wide-roles roles))))

pub held-filled : (s : Signed DelegatedTargets) (u : Targets) (p : ℕ) (o : Option HeldDoc) → tree_doc u ≡ filled_in p o (tree_doc (out-DelegatedTargets s.signed).targets)
    → held_doc (record s { signed = roll-DelegatedTargets (record (out-DelegatedTargets s.signed) { targets = u }) }) ≡ held_filled p o (held_doc s)
held-filled s u p o e =
    let shown : NamedTree → HeldDoc = λ x. record { name = x.0; signatures = signatures_doc s.signatures.items; below = x.1 } in
    let name = string_bytes (out-DelegatedTargets s.signed).name in
    ap shown (named-roll (record (out-DelegatedTargets s.signed) { targets = u }) ∙ ap (λ (x : TreeDoc). let y : NamedTree = (name, x) in y) e)
    ∙ sym (ap (λ (x : NamedTree). held_filled p o (shown x)) (named-out s.signed))
