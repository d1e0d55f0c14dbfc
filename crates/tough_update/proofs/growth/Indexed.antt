-- The index tells where the documents of the roles stand.
use Rattle.std.specs.Bool.{⊤}
use Rattle.std.specs.Prelude.{◌==◌}
use Rattle.std.specs.Str.{bytes_eq}
use Rattle.std.proofs.Common.{◌≡◌, ◌<◌, ℕ, zero, suc, drop, List, [], ◌∷◌, Bool, true, false, cond, if◌then◌else◌, Option, Some, None, is_some, option_map, refl, ap, sym, ◌∙◌, true-eqb, arith}
use Rattle.std.proofs.Math.Seq.{drop-nil}
use Rattle.std.proofs.lemmas.Slice.Eq.{bytes_eq-Decides}
use Rattle.tough_roles.specs.Timestamp.{MetafileDoc}
use Rattle.tough_schema.specs.Search.{Names}
use Rattle.tough_schema.specs.Tree.{Entry}
use Rattle.tough_schema.specs.Update.{listed_roles}
use Rattle.tough_schema.specs.Whole.{HeldDoc}
use Rattle.tough_update.specs.delegations.Numbered.{NodeDoc, Nodes, targets, also, last_number, roles_at}
use Rattle.tough_update.specs.delegations.Growing.{Metas, Look, through, unlisted, wanted, look, looked, listed_as, Fetched, fetched_for, fetched_after, offer_for, TaskDoc, Turn, past, stopped, turn_by_look, turn, Turns, all_past, stopped_at, by_turn, turns, resumed, WorkDoc, Progress, wants, grown, by_turns, settle, by_look, go_on, first_work, begun, first_of, with_taken, taken}
use Rattle.tough_trust.specs.delegations.Indexed.{Index, no_index, put, names_of}
use Rattle.tough_update.specs.growth.Indexed.{name_of, name_at, IsIndexOf, WantsIndexed}
use Rattle.tough_update.specs.growth.Once.{runs}
use Rattle.tough_update.proofs.tree.Noding.{roles-kept}
use Rattle.tough_update.proofs.growth.Trees.{same-number, above-number, node_at}

-- ---- names by numbers

-- no number after the last one has a name
late-name : (ns : Nodes) (k : ℕ) → last_number ns < k → name_at k ns ≡ None
late-name (targets h) k lt = refl
late-name (also ns n) k lt = ap (λ b. if b then name_of n ns else name_at k ns) (above-number k (suc (last_number ns)) lt) ∙ late-name ns k (omega (arith, lt))

last-name : (ns : Nodes) (n : NodeDoc) (k : ℕ) → (k == suc (last_number ns)) ≡ true → name_at k (also ns n) ≡ name_of n ns
last-name ns n k is = ap (λ b. if b then name_of n ns else name_at k ns) is

other-name : (ns : Nodes) (n : NodeDoc) (k : ℕ) → (k == suc (last_number ns)) ≡ false → name_at k (also ns n) ≡ name_at k ns
other-name ns n k is = ap (λ b. if b then name_of n ns else name_at k ns) is

-- ---- what the index has

put-same : (name q : List ℕ) (number : Option ℕ) (x : Index) → bytes_eq name q ≡ true → put name number x q ≡ Some number
put-same name q number x is = ap (λ b. cond b (Some number) (x q)) is

put-other : (name q : List ℕ) (number : Option ℕ) (x : Index) → bytes_eq name q ≡ false → put name number x q ≡ x q
put-other name q number x is = ap (λ b. cond b (Some number) (x q)) is

same-name : (name q : List ℕ) → bytes_eq name q ≡ true → name ≡ q
same-name name q is = (bytes_eq-Decides name q).0 is

-- a name that has a number isn't new
not-new : (x : Index) (name q : List ℕ) (k : ℕ) → names_of x name ≡ false → x q ≡ Some (Some k) → name ≡ q → ⊥
not-new x name q k new has is = let there : true ≡ false = sym (ap is_some has) ∙ ap (names_of x) (sym is) ∙ new in absurd (cc there)

module _ (ns : Nodes) (x : Index) (h : IsIndexOf ns x) (name : List ℕ) (new : names_of x name ≡ false) where
  passed-there : (q : List ℕ) (k : ℕ) (b : Bool) → bytes_eq name q ≡ b → put name None x q ≡ Some (Some k) → name_at k ns ≡ Some q
  passed-there q k true is has = let none : Some None ≡ Some (Some k) = sym (put-same name q None x is) ∙ has in absurd (cc none)
  passed-there q k false is has = (h q k).0 (sym (put-other name q None x is) ∙ has)

  kept-there : (q : List ℕ) (k : ℕ) (number : Option ℕ) (b : Bool) → bytes_eq name q ≡ b → x q ≡ Some (Some k) → put name number x q ≡ Some (Some k)
  kept-there q k number true is has = absurd (not-new x name q k new has (same-name name q is))
  kept-there q k number false is has = put-other name q number x is ∙ has

  -- a name that the snapshot doesn't list
  pub passed-indexed : IsIndexOf ns (put name None x)
  passed-indexed = λ q k. (passed-there q k (bytes_eq name q) refl, λ is. kept-there q k None (bytes_eq name q) refl ((h q k).1 is))

  module _ (n : NodeDoc) (named : name_of n ns ≡ Some name) where
    abbrev top : ℕ
    top = suc (last_number ns)

    number-same : (k : ℕ) → Some (Some top) ≡ Some (Some k) → (k == top) ≡ true
    number-same k is = let same : top ≡ k = cc is in ap (λ m. m == top) (sym same) ∙ same-number top

    earlier : (q : List ℕ) (k : ℕ) (c : Bool) → (k == top) ≡ c → name_at k ns ≡ Some q → name_at k (also ns n) ≡ Some q
    earlier q k true is has =
        let same : k ≡ top = true-eqb k top (sym is) in
        let none : None ≡ Some q = sym (late-name ns k (omega (arith, same))) ∙ has in absurd (cc none)
    earlier q k false is has = other-name ns n k is ∙ has

    place_node-there : (q : List ℕ) (k : ℕ) (b : Bool) → bytes_eq name q ≡ b → put name (Some top) x q ≡ Some (Some k) → name_at k (also ns n) ≡ Some q
    place_node-there q k true is has = last-name ns n k (number-same k (sym (put-same name q (Some top) x is) ∙ has)) ∙ named ∙ ap Some (same-name name q is)
    place_node-there q k false is has = earlier q k (k == top) refl ((h q k).0 (sym (put-other name q (Some top) x is) ∙ has))

    place_node-back : (q : List ℕ) (k : ℕ) (c : Bool) → (k == top) ≡ c → name_at k (also ns n) ≡ Some q → put name (Some top) x q ≡ Some (Some k)
    place_node-back q k true is has =
        let named-so : Some name ≡ Some q = sym named ∙ sym (last-name ns n k is) ∙ has in
        let same : name ≡ q = cc named-so in
        put-same name q (Some top) x ((bytes_eq-Decides name q).1 same) ∙ ap (λ m. Some (Some m)) (sym (true-eqb k top (sym is)))
    place_node-back q k false is has = kept-there q k (Some top) (bytes_eq name q) refl ((h q k).1 (sym (other-name ns n k is) ∙ has))

    -- a document that gets its place under a role of the name
    pub place_node-indexed : IsIndexOf (also ns n) (put name (Some top) x)
    place_node-indexed = λ q k. (place_node-there q k (bytes_eq name q) refl, place_node-back q k (k == top) refl)

-- ---- the turns

rest-left : (all : List Entry) (k : ℕ) (e : Entry) (rest : List Entry) → drop k all ≡ e ∷ rest → drop (suc k) all ≡ rest
rest-left [] k e rest is = let none : [] ≡ e ∷ rest = sym (drop-nil k) ∙ is in absurd (cc none)
rest-left (y ∷ ys) zero e rest is = cc is
rest-left (y ∷ ys) (suc k) e rest is = rest-left ys k e rest is

module _ (metas : Metas) where
  -- a name that isn't listed is new
  abbrev LookNew : Names → Look → Type 0
  LookNew l through = ⊤
  LookNew l (unlisted name) = l name ≡ false
  LookNew l (wanted waiting m) = ⊤

  looked-new : (l : Names) (e : Entry) (rest : List Entry) (o : Option MetafileDoc) → l e.name ≡ false → LookNew l (looked e rest o)
  looked-new l e rest None new = new
  looked-new l e rest (Some m) new = tt

  look-on : (l : Names) (e : Entry) (rest : List Entry) (b : Bool) → l e.name ≡ b → LookNew l (look metas l rest) → LookNew l (if b then look metas l rest else looked e rest (listed_as metas e.name))
  look-on l e rest true is h = h
  look-on l e rest false is h = looked-new l e rest (listed_as metas e.name) is

  look-new : (l : Names) (es : List Entry) → LookNew l (look metas l es)
  look-new l [] = tt
  look-new l (e ∷ es) = look-on l e es (l e.name) refl (look-new l es)

  module _ (p : ℕ) (all : List Entry) where
    -- the index is right, and the roles of the list are the same
    abbrev TurnIndexed : Turn → Type 0
    TurnIndexed (past ns x) = IsIndexOf ns x × (roles_at p ns ≡ all)
    TurnIndexed (stopped ns waiting m x) = IsIndexOf ns x

    turn_by_look-indexed : (ns : Nodes) (x : Index) (k : Look) → IsIndexOf ns x → roles_at p ns ≡ all → LookNew (names_of x) k → TurnIndexed (turn_by_look ns x k)
    turn_by_look-indexed ns x through h kept new = (h, kept)
    turn_by_look-indexed ns x (unlisted name) h kept new = (passed-indexed ns x h name new, kept)
    turn_by_look-indexed ns x (wanted waiting m) h kept new = h

    module _ (ns : Nodes) (x : Index) (h : IsIndexOf ns x) (here : roles_at p ns ≡ all) (k : ℕ) (e : Entry) (rest : List Entry) (now : drop k all ≡ e ∷ rest) where
      abbrev found : HeldDoc → NodeDoc
      found d = node_at p k d

      named : (d : HeldDoc) → name_of (found d) ns ≡ Some e.name
      named d = ap (λ es. option_map (λ y. y.name) (first_of (drop k es))) here ∙ ap (λ es. option_map (λ y. y.name) (first_of es)) now

      there : roles_at p ns ≡ [] → ⊥
      there none = let nil : [] ≡ e ∷ rest = sym (drop-nil k) ∙ ap (drop k) (sym none ∙ here) ∙ now in absurd (cc nil)

      by-name : (b : Bool) (d : HeldDoc) → names_of x e.name ≡ b → TurnIndexed (turn metas x ns e (if b then None else Some (found d)))
      by-name true d is = (h, here)
      by-name false d is =
          let more = put e.name (Some (suc (last_number ns))) x in
          let es = listed_roles d.below in
          turn_by_look-indexed (also ns (found d)) more (look metas (names_of more) es) (place_node-indexed ns x h e.name is (found d) (named d)) (roles-kept ns (found d) p there ∙ here) (look-new (names_of more) es)

      turn-indexed : (o : Option HeldDoc) → TurnIndexed (turn metas x ns e (offer_for (names_of x) p k e o))
      turn-indexed None = (h, here)
      turn-indexed (Some d) = by-name (names_of x e.name) d refl

  abbrev TurnsIndexed : Turns → Type 0
  TurnsIndexed (all_past ns x) = IsIndexOf ns x
  TurnsIndexed (stopped_at ns t waiting m x) = IsIndexOf ns x

  by_turn-indexed : (p : ℕ) (all : List Entry) (left : TaskDoc) (t : Turn) (next : Nodes → Index → Turns) → TurnIndexed p all t → ((ns : Nodes) (x : Index) → IsIndexOf ns x → roles_at p ns ≡ all → TurnsIndexed (next ns x))
      → TurnsIndexed (by_turn left t next)
  by_turn-indexed p all left (past ns x) next h go = go ns x h.0 h.1
  by_turn-indexed p all left (stopped ns waiting m x) next h go = h

  turns-indexed : (p : ℕ) (all : List Entry) (es : List Entry) (ns : Nodes) (x : Index) (k : ℕ) (f : Fetched) → IsIndexOf ns x → roles_at p ns ≡ all → drop k all ≡ es → TurnsIndexed (turns metas x ns p k f es)
  turns-indexed p all [] ns x k f h here now = h
  turns-indexed p all (e ∷ es) ns x k f h here now =
      let more = fetched_after e f in
      by_turn-indexed p all (record { node = p; at = suc k; fetched = more }) (turn metas x ns e (offer_for (names_of x) p k e (fetched_for e f))) (λ ms y. turns metas y ms p (suc k) more es)
      (turn-indexed p all ns x h here k e es now (fetched_for e f)) (λ ms y g same. turns-indexed p all es ms y (suc k) more g same (rest-left all k e es now))

  -- ---- outwards

  by_turns-indexed : (outer : List TaskDoc) (t : Turns) (next : Nodes → Index → Progress) → TurnsIndexed t → ((ns : Nodes) (x : Index) → IsIndexOf ns x → WantsIndexed (next ns x)) → WantsIndexed (by_turns outer t next)
  by_turns-indexed outer (all_past ns x) next h go = go ns x h
  by_turns-indexed outer (stopped_at ns t waiting m x) next h go = h

  settle-indexed : (outer : List TaskDoc) (ns : Nodes) (x : Index) → IsIndexOf ns x → WantsIndexed (settle metas x ns outer)
  settle-indexed [] ns x h = tt
  settle-indexed (t ∷ outer) ns x h =
      let all = roles_at t.node ns in
      by_turns-indexed outer (resumed metas x ns t) (λ ms y. settle metas y ms outer) (turns-indexed t.node all (drop t.at all) ns x t.at t.fetched h refl refl) (λ ms y g. settle-indexed outer ms y g)

  by_look-indexed : (w : WorkDoc) (k : Look) → IsIndexOf w.nodes w.index → LookNew (names_of w.index) k → WantsIndexed (by_look metas w k)
  by_look-indexed w through h new = settle-indexed (record { node = last_number w.nodes; at = 0; fetched = w.fetched } ∷ w.outer) w.nodes w.index h
  by_look-indexed w (unlisted name) h new = settle-indexed w.outer w.nodes (put name None w.index) (passed-indexed w.nodes w.index h name new)
  by_look-indexed w (wanted waiting m) h new = h

  go_on-indexed : (w : WorkDoc) → IsIndexOf w.nodes w.index → WantsIndexed (go_on metas w)
  go_on-indexed w h = by_look-indexed w (look metas (names_of w.index) w.waiting) h (look-new (names_of w.index) w.waiting)

  taken-indexed : (w : WorkDoc) (waiting : List Entry) (h : HeldDoc) → IsIndexOf w.nodes w.index → WantsIndexed (go_on metas (with_taken w waiting h))
  taken-indexed w [] h x = go_on-indexed w x
  taken-indexed w (e ∷ rest) h x = go_on-indexed (with_taken w (e ∷ rest) h) x

  nothing-indexed : (top : HeldDoc) → IsIndexOf (targets top) no_index
  nothing-indexed top = λ q k. ((λ has. absurd (cc has)), λ has. absurd (cc has))

  runs-indexed : (hs : List HeldDoc) (p : Progress) → WantsIndexed p → WantsIndexed (runs metas p hs)
  runs-indexed [] p x = x
  runs-indexed (h ∷ hs) (wants w m) x = runs-indexed hs (taken metas w h) (taken-indexed w w.waiting h x)
  runs-indexed (h ∷ hs) (grown t) x = tt

pub grows-indexed : (metas : Metas) (top : HeldDoc) (hs : List HeldDoc) → WantsIndexed (runs metas (begun metas top) hs)
grows-indexed metas top hs = runs-indexed metas hs (begun metas top) (go_on-indexed metas (first_work top) (nothing-indexed metas top))
