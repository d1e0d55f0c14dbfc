-- The tree that numbered documents make: what hangs on the roles of one document, and that it looks no further than its last number.
use Rattle.std.specs.Prelude.{◌==◌, ◌&&◌}
use Rattle.std.proofs.Common.{◌≡◌, ◌<◌, ◌≤◌, ◌+◌, ℕ, suc, List, [], ◌∷◌, ◌++◌, length, map, Bool, true, false, if◌then◌else◌, Option, Some, None, is_some, refl, ap, sym, ◌∙◌, arith}
use Rattle.std.proofs.lemmas.Bool.{ne_eqb}
use Rattle.std.proofs.lemmas.Bool.Decides.{Decides-eqb}
use Rattle.tough_schema.specs.Fresh.{carriers, carriers_below}
use Rattle.tough_schema.specs.Tree.{Entry}
use Rattle.tough_schema.specs.Update.{listed_roles, given}
use Rattle.tough_schema.specs.Whole.{TreeDoc, tree, Branches, no_branches, unloaded, loaded, put_branch, branches_from, entries_in, HeldDoc, RoleTree}
use Rattle.tough_update.specs.delegations.Numbered.{NodeDoc, Nodes, targets, also, last_number, Hanging, nothing_hangs, hang, tree_with}
use Rattle.tough_trust.specs.delegations.Dressed.{dressed_from, dressed_tree, dressed}
use Rattle.tough_update.specs.growth.Once.{IsBare}
use Rattle.tough_update.proofs.growth.Levels.{refilled, with_roles}

abbrev pub roles_in : List RoleTree → List Entry
roles_in rs = map (λ r. r.0) rs

-- ---- numbers

pub same-number : (n : ℕ) → (n == n) ≡ true
same-number n = (Decides-eqb n n).1 refl

pub below-number : (m n : ℕ) → m < n → (m == n) ≡ false
below-number m n lt = ne_eqb m n (λ e. omega (arith, e, lt))

pub above-number : (m n : ℕ) → n < m → (m == n) ≡ false
above-number m n lt = ne_eqb m n (λ e. omega (arith, e, lt))

-- ---- what hangs on one role

abbrev pub node_at : ℕ → ℕ → HeldDoc → NodeDoc
node_at p k h = record { parent = p; at = k; document = h }

pub hang-here : (p k : ℕ) (h : HeldDoc) (below : Hanging) → hang (node_at p k h) h below p k ≡ Some h
hang-here p k h below = ap (λ b. if b && (k == k) then Some h else below p k) (same-number p) ∙ ap (λ b. if b then Some h else below p k) (same-number k)

hang-place : (p k : ℕ) (h : HeldDoc) (below : Hanging) (j : ℕ) → (j == k) ≡ false → hang (node_at p k h) h below p j ≡ below p j
hang-place p k h below j off = ap (λ b. if b && (j == k) then Some h else below p j) (same-number p) ∙ ap (λ b. if b then Some h else below p j) off

pub hang-number : (n : NodeDoc) (h : HeldDoc) (below : Hanging) (q j : ℕ) → (q == n.parent) ≡ false → hang n h below q j ≡ below q j
hang-number n h below q j off = ap (λ b. if b && (j == n.at) then Some h else below q j) off

-- ---- what hangs on the roles of one document

-- nothing hangs on a later one
abbrev pub Free : ℕ → Hanging → Type 0
Free p below = (q j : ℕ) → p < q → below q j ≡ None

pub none-free : (p : ℕ) → Free p nothing_hangs
none-free p q j lt = refl

pub hang-free : (p : ℕ) (n : NodeDoc) (h : HeldDoc) (below : Hanging) → n.parent ≤ p → Free p below → Free p (hang n h below)
hang-free p n h below le free q j lt = hang-number n h below q j (above-number q n.parent (omega (arith, le, lt))) ∙ free q j lt

-- these roles' documents, from this place on
abbrev pub hang_all : ℕ → ℕ → List RoleTree → Hanging → Hanging
hang_all p k [] below = below
hang_all p k ((e, None) ∷ rs) below = hang_all p (suc k) rs below
hang_all p k ((e, Some h) ∷ rs) below = hang (node_at p k h) h (hang_all p (suc k) rs below)

pub all-before : (p k : ℕ) (rs : List RoleTree) (below : Hanging) (j : ℕ) → j < k → hang_all p k rs below p j ≡ below p j
all-before p k [] below j lt = refl
all-before p k ((e, None) ∷ rs) below j lt = all-before p (suc k) rs below j (omega (arith, lt))
all-before p k ((e, Some h) ∷ rs) below j lt = hang-place p k h (hang_all p (suc k) rs below) j (below-number j k lt) ∙ all-before p (suc k) rs below j (omega (arith, lt))

pub all-number : (p k : ℕ) (rs : List RoleTree) (below : Hanging) (q j : ℕ) → (q == p) ≡ false → hang_all p k rs below q j ≡ below q j
all-number p k [] below q j off = refl
all-number p k ((e, None) ∷ rs) below q j off = all-number p (suc k) rs below q j off
all-number p k ((e, Some h) ∷ rs) below q j off = hang-number (node_at p k h) h (hang_all p (suc k) rs below) q j off ∙ all-number p (suc k) rs below q j off

pub all-last-none : (p k : ℕ) (rs : List RoleTree) (e : Entry) (below : Hanging) → hang_all p k (rs ++ (e, None) ∷ []) below ≡ hang_all p k rs below
all-last-none p k [] e below = refl
all-last-none p k ((x, None) ∷ rs) e below = all-last-none p (suc k) rs e below
all-last-none p k ((x, Some h) ∷ rs) e below = ap (hang (node_at p k h) h) (all-last-none p (suc k) rs e below)

pub all-last-some : (p k m : ℕ) (rs : List RoleTree) (e : Entry) (h : HeldDoc) (below : Hanging) → m ≡ k + length rs
    → hang_all p k (rs ++ (e, Some h) ∷ []) below ≡ hang_all p k rs (hang (node_at p m h) h below)
all-last-some p k m [] e h below is = let same : k ≡ m = omega (arith, is) in ap (λ x. hang (node_at p x h) h below) same
all-last-some p k m ((x, None) ∷ rs) e h below is = all-last-some p (suc k) m rs e h below (omega (arith, is))
all-last-some p k m ((x, Some d) ∷ rs) e h below is = ap (hang (node_at p k d) d) (all-last-some p (suc k) m rs e h below (omega (arith, is)))

-- ---- a document with what hangs on its roles

pub dress-same : (f g : ℕ → Option HeldDoc) (k : ℕ) (bs : Branches) → ((j : ℕ) → k ≤ j → f j ≡ g j) → dressed_from f k bs ≡ dressed_from g k bs
dress-same f g k no_branches same = refl
dress-same f g k (unloaded e bs) same =
    ap (λ o. put_branch (given (e, None) o) (dressed_from f (suc k) bs)) (same k (omega arith))
    ∙ ap (put_branch (given (e, None) (g k))) (dress-same f g (suc k) bs (λ j le. same j (omega (arith, le))))
dress-same f g k (loaded e name signatures t bs) same =
    let r : RoleTree = (e, Some (record { name = name; signatures = signatures; below = t })) in
    ap (λ o. put_branch (given r o) (dressed_from f (suc k) bs)) (same k (omega arith))
    ∙ ap (put_branch (given r (g k))) (dress-same f g (suc k) bs (λ j le. same j (omega (arith, le))))

-- all of its roles' documents
dress-all : (p k : ℕ) (rs : List RoleTree) (bs : Branches) (below : Hanging) → ((j : ℕ) → below p j ≡ None) → carriers bs ≡ [] → roles_in rs ≡ entries_in bs
    → dressed_from (hang_all p k rs below p) k bs ≡ branches_from rs
dress-all p k [] no_branches below free bare is = refl
dress-all p k [] (unloaded e bs) below free bare is = absurd (cc is)
dress-all p k (r ∷ rs) no_branches below free bare is = absurd (cc is)
dress-all p k rs (loaded e name signatures t bs) below free bare is = absurd (cc bare)
dress-all p k ((x, None) ∷ rs) (unloaded e bs) below free bare is =
    let first : x ≡ e = cc is in
    let rest : roles_in rs ≡ entries_in bs = cc is in
    let f = hang_all p (suc k) rs below p in
    ap (λ o. put_branch (given (e, None) o) (dressed_from f (suc k) bs)) (all-before p (suc k) rs below k (omega arith) ∙ free k)
    ∙ ap (unloaded e) (dress-all p (suc k) rs bs below free bare rest)
    ∙ ap (λ y. unloaded y (branches_from rs)) (sym first)
dress-all p k ((x, Some h) ∷ rs) (unloaded e bs) below free bare is =
    let first : x ≡ e = cc is in
    let rest : roles_in rs ≡ entries_in bs = cc is in
    let more = hang_all p (suc k) rs below in
    let f = hang (node_at p k h) h more p in
    ap (λ o. put_branch (given (e, None) o) (dressed_from f (suc k) bs)) (hang-here p k h more)
    ∙ ap (loaded e h.name h.signatures h.below) (dress-same f (more p) (suc k) bs (λ j le. hang-place p k h more j (above-number j k (omega (arith, le)))) ∙ dress-all p (suc k) rs bs below free bare rest)
    ∙ ap (λ y. loaded y h.name h.signatures h.below (branches_from rs)) (sym first)

chosen-all : (b : Bool) (xs ys zs bs : Branches) → xs ≡ ys → (if b then xs else bs) ≡ (if b then ys else (if b then zs else bs))
chosen-all true xs ys zs bs is = is
chosen-all false xs ys zs bs is = refl

all-tree : (p : ℕ) (rs : List RoleTree) (t : TreeDoc) (below : Hanging) → ((j : ℕ) → below p j ≡ None) → carriers_below t ≡ [] → roles_in rs ≡ listed_roles t
    → dressed_tree (hang_all p 0 rs below p) t ≡ refilled rs (refilled [] t)
all-tree p rs (tree o bs) below free bare is =
    ap (tree o) (chosen-all (is_some o.keys) (dressed_from (hang_all p 0 rs below p) 0 bs) (branches_from rs) no_branches bs (dress-all p 0 rs bs below free bare is))

pub dressed-all : (p : ℕ) (rs : List RoleTree) (h : HeldDoc) (below : Hanging) → ((j : ℕ) → below p j ≡ None) → IsBare h → roles_in rs ≡ listed_roles h.below
    → dressed (hang_all p 0 rs below p) h ≡ with_roles rs (with_roles [] h)
dressed-all p rs h below free bare is = ap (λ t. let x : HeldDoc = record h { below = t } in x) (all-tree p rs h.below below free bare is)

-- ---- the tree looks no further than its last number

pub tree-only : (ns : Nodes) (A B : Hanging) → ((q j : ℕ) → q ≤ last_number ns → A q j ≡ B q j) → tree_with ns A ≡ tree_with ns B
tree-only (targets h) A B same = ap (λ f. dressed f h) (λ i j. same 0 j (omega arith) i)
tree-only (also ns n) A B same =
    let k = suc (last_number ns) in
    let f : dressed (A k) n.document ≡ dressed (B k) n.document = ap (λ f. dressed f n.document) (λ i j. same k j (omega arith) i) in
    tree-only ns (hang n (dressed (A k) n.document) A) (hang n (dressed (B k) n.document) B)
    (λ q j le. ap (λ d. if (q == n.parent) && (j == n.at) then Some d else A q j) f ∙ ap (λ o. if (q == n.parent) && (j == n.at) then Some (dressed (B k) n.document) else o) (same q j (omega (arith, le))))
