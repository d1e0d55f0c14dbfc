-- The documents that have their place, as the program holds them.
use Rattle.std.proofs.Common.{◌≡◌, ℕ, suc, ◌+◌, ◌-◌, ◌<◌, ◌≤◌, List, [], ◌∷◌, ◌++◌, map, length, get_or, set, vec_len, refl, ap, sym, ◌∙◌, arith}
use Rattle.std.proofs.lemmas.Bool.{eq-eqb, cond-true}
use Rattle.std.proofs.lemmas.List.{length-map, get_or-map, map-set, map-append}
use Rattle.std.proofs.Math.Dec.{eqb}
use Rattle.std.specs.Vec.{with_item}
use Rattle.tough_roles.specs.declared.signed.Signed.{Signed}
use Rattle.tough_schema.specs.declared.delegations.DelegatedRole.{DelegatedRole}
use Rattle.tough_schema.specs.declared.targets.DelegatedTargets.{DelegatedTargets}
use Rattle.tough_schema.specs.Update.{listed_roles}
use Rattle.tough_schema.specs.Whole.{HeldDoc, held_doc}
use Rattle.tough_update.specs.declared.delegations.nodes.Node.{Node}
use Rattle.tough_update.specs.declared.delegations.nodes.Nodes.{Nodes}
use Rattle.tough_update.specs.delegations.Numbered.{NodeDoc, targets, also, last_number, last_document, roles_at, nothing_hangs, tree_of, put_at}
use Rattle.tough_trust.specs.delegations.Dressed.{dressed, only, entries_of, listed_in}
use Rattle.tough_update.specs.delegations.Documents.{node_doc, all_also, nodes_doc}
use Rattle.tough_trust.proofs.lemmas.Dressing.{dressed-none}
use Rattle.tough_update.proofs.tree.Listing.{listed-held}
use Rattle.tough_update.proofs.tree.Noding.{all-more, number-all, document-all, roles-early, roles-there, roles-past, put, put-early, put-there, put-past}

module _ (ns : Nodes) where
  abbrev pub top : HeldDoc
  top = held_doc ns.top

  abbrev pub others : List NodeDoc
  others = map node_doc ns.others.items

  pub number-is : vec_len ns.others ≡ last_number (nodes_doc ns)
  number-is =
      let all : last_number (nodes_doc ns) ≡ 0 + length others = number-all (targets top) others in
      let same : length others ≡ length ns.others.items = length-map ns.others.items node_doc in
      let counted : ns.others.len ≡ length ns.others.items = ns.others.ok.0 in
      omega arith

  -- the document at a place
  at-place : (xs : List Node) (n : Node) (i : ℕ) → xs ≡ ns.others.items → i < length xs → n ≡ get_or xs i n → get_or others i (node_doc n) ≡ node_doc n
  at-place xs n i is lt there =
      ap (λ ys. get_or (map node_doc ys) i (node_doc n)) (sym is) ∙ get_or-map node_doc xs i n (node_doc n) lt ∙ ap node_doc (sym there)

  length-others : (xs : List Node) → xs ≡ ns.others.items → length others ≡ length xs
  length-others xs is = length-map ns.others.items node_doc ∙ ap length (sym is)

  pub last-there : (xs : List Node) (n : Node) → xs ≡ ns.others.items → 0 < length xs → n ≡ get_or xs (length xs - 1) n → held_doc n.document ≡ last_document (nodes_doc ns)
  last-there xs n is some there =
      let i = length xs - 1 in
      let long : length others ≡ length xs = length-others xs is in
      let end : suc i ≡ length others = omega arith in
      sym (document-all (targets top) others i (node_doc n) end ∙ ap (λ (x : NodeDoc). x.document) (at-place xs n i is (omega arith) there))

  -- the roles of a number

  pub roles-top : (number : ℕ) (rs : List DelegatedRole) → number ≡ 0 → rs ≡ listed_in ns.top → entries_of rs ≡ roles_at number (nodes_doc ns)
  roles-top number rs zero own =
      ap entries_of own ∙ listed-held ns.top
      ∙ sym (roles-early (targets top) others number (omega arith) ∙ cond-true (eqb number 0) (listed_roles top.below) [] (eq-eqb number 0 zero))

  pub roles-other : (number : ℕ) (xs : List Node) (n : Node) (rs : List DelegatedRole) → (number ≡ 0 → ⊥) → xs ≡ ns.others.items → number - 1 < length xs → n ≡ get_or xs (number - 1) n → rs ≡ listed_in n.document
      → entries_of rs ≡ roles_at number (nodes_doc ns)
  roles-other number xs n rs positive is lt there own =
      let i = number - 1 in
      let long : length others ≡ length xs = length-others xs is in
      let from : number ≡ suc (0 + i) = omega arith in
      ap entries_of own ∙ listed-held n.document
      ∙ sym (roles-there (targets top) others number i (node_doc n) (omega arith) from ∙ ap (λ (x : NodeDoc). listed_roles x.document.below) (at-place xs n i is lt there))

  pub roles-none : (number : ℕ) (xs : List Node) → (number ≡ 0 → ⊥) → xs ≡ ns.others.items → length xs ≤ number - 1 → [] ≡ roles_at number (nodes_doc ns)
  roles-none number xs positive is past =
      let long : length others ≡ length xs = length-others xs is in
      let all : last_number (nodes_doc ns) ≡ 0 + length others = number-all (targets top) others in
      sym (roles-past (nodes_doc ns) number (omega arith))

  -- a role gets a document

  pub put-top : (p k : ℕ) (h : HeldDoc) (d : Signed DelegatedTargets) → p ≡ 0 → held_doc d ≡ dressed (only k h) top → all_also (targets (held_doc d)) others ≡ put_at p k h (nodes_doc ns)
  put-top p k h d zero is =
      ap (λ (x : HeldDoc). all_also (targets x) others) is
      ∙ sym (put-early p k h (targets top) others (omega arith) ∙ ap (λ (x : HeldDoc). all_also (targets x) others) (cond-true (eqb p 0) (dressed (only k h) top) top (eq-eqb p 0 zero)))

  pub put-other : (p k : ℕ) (h : HeldDoc) (n : Node) (d : Signed DelegatedTargets) → (p ≡ 0 → ⊥) → p - 1 < length ns.others.items → n ≡ get_or ns.others.items (p - 1) n → held_doc d ≡ dressed (only k h) (held_doc n.document)
      → nodes_doc (record { top = ns.top; others = with_item ns.others (p - 1) (record { parent = n.parent; at = n.at; document = d }) }) ≡ put_at p k h (nodes_doc ns)
  put-other p k h n d positive lt there is =
      let i = p - 1 in
      let w : Node = record { parent = n.parent; at = n.at; document = d } in
      let long : length others ≡ length ns.others.items = length-map ns.others.items node_doc in
      let from : p ≡ suc (0 + i) = omega arith in
      let new : node_doc w ≡ put k h (get_or others i (node_doc n)) =
      ap (λ (x : HeldDoc). let y : NodeDoc = record { parent = n.parent; at = n.at; document = x } in y) is ∙ ap (put k h) (sym (at-place ns.others.items n i refl lt there)) in
      ap (all_also (targets top)) (map-set node_doc ns.others.items i w ∙ ap (set others i) new) ∙ sym (put-there p k h (targets top) others i (node_doc n) (omega arith) from)

  pub put-none : (p k : ℕ) (h : HeldDoc) → (p ≡ 0 → ⊥) → length ns.others.items ≤ p - 1 → nodes_doc ns ≡ put_at p k h (nodes_doc ns)
  put-none p k h positive past =
      let long : length others ≡ length ns.others.items = length-map ns.others.items node_doc in
      let all : last_number (nodes_doc ns) ≡ 0 + length others = number-all (targets top) others in
      sym (put-past p k h (nodes_doc ns) (omega arith))

  -- the tree

  pub tree-top : ns.others.items ≡ [] → held_doc ns.top ≡ tree_of (nodes_doc ns)
  tree-top none = sym (dressed-none (nothing_hangs 0) top (λ j. refl)) ∙ ap (λ xs. tree_of (all_also (targets top) (map node_doc xs))) (sym none)

-- one more
pub nodes-more : (t : Signed DelegatedTargets) (xs ys : List Node) (n : Node) → ys ≡ xs ++ n ∷ [] → all_also (targets (held_doc t)) (map node_doc ys) ≡ also (all_also (targets (held_doc t)) (map node_doc xs)) (node_doc n)
nodes-more t xs ys n is = ap (all_also (targets (held_doc t))) (ap (map node_doc) is ∙ map-append node_doc xs (n ∷ [])) ∙ all-more (targets (held_doc t)) (map node_doc xs) (node_doc n)
