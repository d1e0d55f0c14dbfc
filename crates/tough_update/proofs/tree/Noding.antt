-- Documents by numbers, a step at a time.
use Rattle.std.proofs.Common.{◌≡◌, ℕ, zero, suc, ◌==◌, ◌+◌, ◌<◌, ◌≤◌, List, [], ◌∷◌, ◌++◌, length, get_or, set, Bool, true, false, ◌&&◌, if◌then◌else◌, Option, Some, None, refl, ap, sym, ◌∙◌, arith}
use Rattle.std.proofs.lemmas.Bool.{eq-eqb, ne_eqb, eqb-true, eqb-false, cond-true, cond-false}
use Rattle.std.proofs.Math.Dec.{eqb}
use Rattle.tough_schema.specs.Update.{listed_roles}
use Rattle.tough_schema.specs.Whole.{HeldDoc}
use Rattle.tough_update.specs.delegations.Numbered.{NodeDoc, Nodes, targets, also, last_number, last_document, roles_at, Hanging, nothing_hangs, hang, tree_with, tree_of, put_at}
use Rattle.tough_trust.specs.delegations.Dressed.{dressed, only}
use Rattle.tough_update.specs.delegations.Documents.{all_also}
use Rattle.tough_trust.proofs.lemmas.Dressing.{Has, or_else, or-none, both, dressed-twice, dressed-none}

-- ---- one more

pub all-more : (ns : Nodes) (xs : List NodeDoc) (y : NodeDoc) → all_also ns (xs ++ y ∷ []) ≡ also (all_also ns xs) y
all-more ns [] y = refl
all-more ns (x ∷ xs) y = all-more (also ns x) xs y

pub number-all : (ns : Nodes) (xs : List NodeDoc) → last_number (all_also ns xs) ≡ last_number ns + length xs
number-all ns [] = omega arith
number-all ns (x ∷ xs) = let e : last_number (all_also (also ns x) xs) ≡ last_number (also ns x) + length xs = number-all (also ns x) xs in omega arith

pub document-all : (ns : Nodes) (xs : List NodeDoc) (i : ℕ) (d : NodeDoc) → suc i ≡ length xs → last_document (all_also ns xs) ≡ (get_or xs i d).document
document-all ns [] i d e = absurd (omega arith)
document-all ns (x ∷ []) zero d e = refl
document-all ns (x ∷ y ∷ xs) zero d e = absurd (omega arith)
document-all ns (x ∷ xs) (suc i) d e = document-all (also ns x) xs i d (omega arith)

-- ---- the roles of a number

roles-before : (ns : Nodes) (n : NodeDoc) (number : ℕ) → number ≤ last_number ns → roles_at number (also ns n) ≡ roles_at number ns
roles-before ns n number h = cond-false (eqb number (suc (last_number ns))) (listed_roles n.document.below) (roles_at number ns) (ne_eqb number (suc (last_number ns)) (λ e. omega arith))

pub roles-early : (ns : Nodes) (xs : List NodeDoc) (number : ℕ) → number ≤ last_number ns → roles_at number (all_also ns xs) ≡ roles_at number ns
roles-early ns [] number h = refl
roles-early ns (x ∷ xs) number h = roles-early (also ns x) xs number (omega arith) ∙ roles-before ns x number h

pub roles-there : (ns : Nodes) (xs : List NodeDoc) (number i : ℕ) (d : NodeDoc) → i < length xs → number ≡ suc (last_number ns + i) → roles_at number (all_also ns xs) ≡ listed_roles (get_or xs i d).document.below
roles-there ns [] number i d h e = absurd (omega arith)
roles-there ns (x ∷ xs) number zero d h e =
    let here : number ≡ suc (last_number ns) = omega arith in
    roles-early (also ns x) xs number (omega arith) ∙ cond-true (eqb number (suc (last_number ns))) (listed_roles x.document.below) (roles_at number ns) (eq-eqb number (suc (last_number ns)) here)
roles-there ns (x ∷ xs) number (suc i) d h e = roles-there (also ns x) xs number i d (omega arith) (omega arith)

pub roles-past : (ns : Nodes) (number : ℕ) → last_number ns < number → roles_at number ns ≡ []
roles-past (targets h) number lt = cond-false (eqb number 0) (listed_roles h.below) [] (ne_eqb number 0 (λ e. omega arith))
roles-past (also ns n) number lt =
    cond-false (eqb number (suc (last_number ns))) (listed_roles n.document.below) (roles_at number ns) (ne_eqb number (suc (last_number ns)) (λ e. omega arith)) ∙ roles-past ns number (omega arith)

-- where there is a role, one more document changes nothing
pub roles-kept : (ns : Nodes) (n : NodeDoc) (number : ℕ) → (roles_at number ns ≡ [] → ⊥) → roles_at number (also ns n) ≡ roles_at number ns
roles-kept ns n number some =
    cond-false (eqb number (suc (last_number ns))) (listed_roles n.document.below) (roles_at number ns) (ne_eqb number (suc (last_number ns)) (λ e. some (roles-past ns number (omega arith))))

-- ---- the role at a place gets a document

abbrev pub put : ℕ → HeldDoc → NodeDoc → NodeDoc
put k h n = record n { document = dressed (only k h) n.document }

put-before : (p k : ℕ) (h : HeldDoc) (ns : Nodes) (n : NodeDoc) → p ≤ last_number ns → put_at p k h (also ns n) ≡ also (put_at p k h ns) n
put-before p k h ns n le = cond-false (eqb p (suc (last_number ns))) (also ns (put k h n)) (also (put_at p k h ns) n) (ne_eqb p (suc (last_number ns)) (λ e. omega arith))

pub put-early : (p k : ℕ) (h : HeldDoc) (ns : Nodes) (xs : List NodeDoc) → p ≤ last_number ns → put_at p k h (all_also ns xs) ≡ all_also (put_at p k h ns) xs
put-early p k h ns [] le = refl
put-early p k h ns (x ∷ xs) le = put-early p k h (also ns x) xs (omega arith) ∙ ap (λ m. all_also m xs) (put-before p k h ns x le)

pub put-there : (p k : ℕ) (h : HeldDoc) (ns : Nodes) (xs : List NodeDoc) (i : ℕ) (d : NodeDoc) → i < length xs → p ≡ suc (last_number ns + i)
    → put_at p k h (all_also ns xs) ≡ all_also ns (set xs i (put k h (get_or xs i d)))
put-there p k h ns [] i d lt e = absurd (omega arith)
put-there p k h ns (x ∷ xs) zero d lt e =
    let here : p ≡ suc (last_number ns) = omega arith in
    put-early p k h (also ns x) xs (omega arith)
    ∙ ap (λ m. all_also m xs) (cond-true (eqb p (suc (last_number ns))) (also ns (put k h x)) (also (put_at p k h ns) x) (eq-eqb p (suc (last_number ns)) here))
put-there p k h ns (x ∷ xs) (suc i) d lt e = put-there p k h (also ns x) xs i d (omega arith) (omega arith)

pub put-past : (p k : ℕ) (h : HeldDoc) (ns : Nodes) → last_number ns < p → put_at p k h ns ≡ ns
put-past p k h (targets d) lt = ap targets (cond-false (eqb p 0) (dressed (only k h) d) d (ne_eqb p 0 (λ e. omega arith)))
put-past p k h (also ns n) lt =
    cond-false (eqb p (suc (last_number ns))) (also ns (put k h n)) (also (put_at p k h ns) n) (ne_eqb p (suc (last_number ns)) (λ e. omega arith))
    ∙ ap (λ m. also m n) (put-past p k h ns (omega arith))

number-if : (b : Bool) (ns ms : Nodes) (x n : NodeDoc) → last_number ms ≡ last_number ns → last_number (if b then also ns x else also ms n) ≡ suc (last_number ns)
number-if true ns ms x n h = refl
number-if false ns ms x n h = ap suc h

pub put-number : (p k : ℕ) (h : HeldDoc) (ns : Nodes) → last_number (put_at p k h ns) ≡ last_number ns
put-number p k h (targets d) = refl
put-number p k h (also ns n) = number-if (eqb p (suc (last_number ns))) ns (put_at p k h ns) (put k h n) n (put-number p k h ns)

-- ---- the tree

-- what hangs, or else this document at this place
abbrev over : ℕ → ℕ → HeldDoc → Hanging → Hanging
over p k h below number place = or_else (below number place) (if number == p && place == k then Some h else None)

over-other : (p k : ℕ) (h : HeldDoc) (below : Hanging) (q j : ℕ) → (q ≡ p → ⊥) → over p k h below q j ≡ below q j
over-other p k h below q j ne = ap (λ b. or_else (below q j) (if b && eqb j k then Some h else None)) (ne_eqb q p ne) ∙ or-none (below q j)

over-here : (p k : ℕ) (h : HeldDoc) (below : Hanging) (q j : ℕ) → q ≡ p → over p k h below q j ≡ both (below q) (only k h) j
over-here p k h below q j e = ap (λ b. or_else (below q j) (if b && eqb j k then Some h else None)) (eq-eqb q p e)

over-if : (b : Bool) (x : HeldDoc) (o y : Option HeldDoc) → or_else (if b then Some x else o) y ≡ (if b then Some x else or_else o y)
over-if true x o y = refl
over-if false x o y = refl

tree-same : (ns : Nodes) (f g : Hanging) → ((q j : ℕ) → q ≤ last_number ns → f q j ≡ g q j) → tree_with ns f ≡ tree_with ns g
tree-same (targets d) f g h =
    let same : f 0 ≡ g 0 = λ i j. h 0 j (omega arith) i in
    ap (λ (has : Has). dressed has d) same
tree-same (also ns n) f g h =
    let m = suc (last_number ns) in
    let same : f m ≡ g m = λ i j. h m j (omega arith) i in
    ap (λ (has : Has). tree_with ns (hang n (dressed has n.document) f)) same
    ∙ tree-same ns (hang n (dressed (g m) n.document) f) (hang n (dressed (g m) n.document) g)
    (λ q j le. ap (λ (o : Option HeldDoc). if eqb q n.parent && eqb j n.at then Some (dressed (g m) n.document) else o) (h q j (omega arith)))

module _ (p k : ℕ) (h : HeldDoc) where
  put-first : (d : HeldDoc) (below : Hanging) (b : Bool) → eqb p 0 ≡ b → dressed (below 0) (if b then dressed (only k h) d else d) ≡ dressed (over p k h below 0) d
  put-first d below true e =
      let same : both (below 0) (only k h) ≡ over p k h below 0 = λ i j. sym (over-here p k h below 0 j (sym (eqb-true p 0 e))) i in
      dressed-twice (below 0) (only k h) d ∙ ap (λ (has : Has). dressed has d) same
  put-first d below false e =
      let same : below 0 ≡ over p k h below 0 = λ i j. sym (over-other p k h below 0 j (λ z. eqb-false p 0 e (sym z))) i in
      ap (λ (has : Has). dressed has d) same

  put-last : (ns : Nodes) (n : NodeDoc) (below : Hanging) → p ≡ suc (last_number ns) → tree_with (also ns (put k h n)) below ≡ tree_with (also ns n) (over p k h below)
  put-last ns n below e =
      let m = suc (last_number ns) in
      let above = over p k h below in
      let same : both (below m) (only k h) ≡ above m = λ i j. sym (over-here p k h below m j (sym e)) i in
      let x = dressed (above m) n.document in
      ap (λ (y : HeldDoc). tree_with ns (hang n y below)) (dressed-twice (below m) (only k h) n.document ∙ ap (λ (has : Has). dressed has n.document) same)
      ∙ tree-same ns (hang n x below) (hang n x above)
      (λ q j le. ap (λ (o : Option HeldDoc). if eqb q n.parent && eqb j n.at then Some x else o) (sym (over-other p k h below q j (λ z. omega arith))))

  put-lower : (ns : Nodes) (n : NodeDoc) (below : Hanging) → (p ≡ suc (last_number ns) → ⊥) → ((f : Hanging) → tree_with (put_at p k h ns) f ≡ tree_with ns (over p k h f))
      → tree_with (also (put_at p k h ns) n) below ≡ tree_with (also ns n) (over p k h below)
  put-lower ns n below ne rest =
      let m = suc (last_number ns) in
      let above = over p k h below in
      let x = dressed (below m) n.document in
      let moved : over p k h (hang n x below) ≡ hang n x above = λ i q j. over-if (eqb q n.parent && eqb j n.at) x (below q j) (if eqb q p && eqb j k then Some h else None) i in
      let same : below m ≡ above m = λ i j. sym (over-other p k h below m j (λ z. ne (sym z))) i in
      ap (λ (l : ℕ). tree_with (put_at p k h ns) (hang n (dressed (below (suc l)) n.document) below)) (put-number p k h ns)
      ∙ rest (hang n x below) ∙ ap (tree_with ns) moved ∙ ap (λ (has : Has). tree_with ns (hang n (dressed has n.document) above)) same

  put-if : (ns : Nodes) (n : NodeDoc) (below : Hanging) (b : Bool) → eqb p (suc (last_number ns)) ≡ b → ((f : Hanging) → tree_with (put_at p k h ns) f ≡ tree_with ns (over p k h f))
      → tree_with (if b then also ns (put k h n) else also (put_at p k h ns) n) below ≡ tree_with (also ns n) (over p k h below)
  put-if ns n below true e rest = put-last ns n below (eqb-true p (suc (last_number ns)) e)
  put-if ns n below false e rest = put-lower ns n below (eqb-false p (suc (last_number ns)) e) rest

  tree-put : (ns : Nodes) (below : Hanging) → tree_with (put_at p k h ns) below ≡ tree_with ns (over p k h below)
  tree-put (targets d) below = put-first d below (eqb p 0) refl
  tree-put (also ns n) below = put-if ns n below (eqb p (suc (last_number ns))) refl (λ f. tree-put ns f)

-- the last document takes its place
pub tree-step : (ns : Nodes) (n : NodeDoc) → tree_of (put_at n.parent n.at n.document ns) ≡ tree_of (also ns n)
tree-step ns n =
    tree-put n.parent n.at n.document ns nothing_hangs
    ∙ ap (λ (x : HeldDoc). tree_with ns (hang n x nothing_hangs)) (sym (dressed-none (nothing_hangs (suc (last_number ns))) n.document (λ j. refl)))
