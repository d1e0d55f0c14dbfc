-- What stands under what, while a tree grows.
use Rattle.std.proofs.Common.{◌≡◌, ℕ, List, [], ◌∷◌, ◌++◌, map, Bool, true, false, if◌then◌else◌, cond, Option, Some, None, is_some, option_map, nat_cmp, Ordering, Less, Equal, Greater, refl, ap, sym, ◌∙◌, subst, append_assoc, append-nil}
use Rattle.std.specs.Bool.{⊤}
use Rattle.std.specs.Prelude.{IfSome}
use Rattle.std.specs.Cmp.Lexicographic.{slice_cmp}
use Rattle.std.specs.Map.{lookup, remove_entry}
use Rattle.std.specs.BTreeMap.{insert_entry}
use Rattle.std.specs.Ordering.{match_ordering, is_eq}
use Rattle.std.proofs.lemmas.List.{map-append}
use Rattle.std.proofs.lemmas.Map.Text.{is_eq-slice_cmp}
use Rattle.std.proofs.lemmas.Slice.Eq.{bytes_eq-Decides}
use Rattle.tough_roles.specs.Signature.{SignedDoc}
use Rattle.tough_schema.specs.Delegations.{DelegationsDoc}
use Rattle.tough_schema.specs.Targets.{TargetsDoc}
use Rattle.tough_schema.specs.Tree.{Entry}
use Rattle.tough_schema.specs.Update.{listed_roles}
use Rattle.tough_schema.specs.Search.{Names, no_names, add}
use Rattle.tough_schema.specs.Whole.{OwnDoc, TreeDoc, tree, Branches, no_branches, unloaded, loaded, put_branch, branches_from, entries_in, HeldDoc, RoleTree, top_doc}
use Rattle.tough_update.specs.delegations.Growing.{Metas, Look, through, unlisted, wanted, look, Fetched, at_name, first_of}
use Rattle.tough_update.proofs.growth.Levels.{with_fetched, refilled, with_roles, OpenDoc, Turn, past, stopped, turn_by_look, turn, Turns, all_past, stopped_at, by_turn, turns, WorkDoc, Progress, wants, grown, by_turns, taken_up, settle, give, by_look, first_work, begun, with_taken, taken, holder_of, runs, AllTaken}
use Rattle.tough_schema.specs.Fresh.{carriers, carriers_below}
use Rattle.tough_update.specs.growth.Once.{IsBare, AreBare}
use Rattle.tough_trust.specs.delegations.Bare.{top_page}
use Rattle.tough_update.specs.growth.Under.{page_of, Relation, Under, Below}

abbrev entries : List RoleTree → List Entry
entries rs = map (λ r. r.0) rs

entries-put : (r : RoleTree) (bs : Branches) → entries_in (put_branch r bs) ≡ r.0 ∷ entries_in bs
entries-put (e, None) bs = refl
entries-put (e, Some h) bs = refl

entries-from : (rs : List RoleTree) → entries_in (branches_from rs) ≡ entries rs
entries-from [] = refl
entries-from (r ∷ rs) = entries-put r (branches_from rs) ∙ ap (λ l. r.0 ∷ l) (entries-from rs)

-- the document with roles of these entries, without their documents
abbrev shown : OwnDoc → List Entry → TargetsDoc
shown o es = record { head = o.head; targets = o.targets; delegations = option_map (λ ks. record { keys = ks; roles = es }) o.keys; extra = o.extra }

-- by whether it has delegations
abbrev shown_in : TreeDoc → List Entry → TargetsDoc
shown_in (tree o bs) es = if is_some o.keys then shown o es else top_doc (tree o bs)

top-chosen : (o : OwnDoc) (b : Bool) (rs : List RoleTree) (bs : Branches) → top_doc (tree o (if b then branches_from rs else bs)) ≡ (if b then shown o (entries rs) else top_doc (tree o bs))
top-chosen o true rs bs = ap (shown o) (entries-from rs)
top-chosen o false rs bs = refl

top-refilled : (t : TreeDoc) (rs : List RoleTree) → top_doc (refilled rs t) ≡ shown_in t (entries rs)
top-refilled (tree o bs) rs = top-chosen o (is_some o.keys) rs bs

module _ (U : Relation) (whole : SignedDoc TargetsDoc) where
  -- bare documents have nothing below them
  bare-under : (g : Option DelegationsDoc) (bs : Branches) → carriers bs ≡ [] → Under U g bs
  bare-under g no_branches h = tt
  bare-under g (unloaded e bs) h = bare-under g bs h
  bare-under g (loaded e n s t bs) h = absurd (cc)

  bare-below : (t : TreeDoc) → carriers_below t ≡ [] → Below U t
  bare-below (tree o bs) h = bare-under (top_doc (tree o bs)).delegations bs h

  abbrev RoleUnder : Option DelegationsDoc → RoleTree → Type 0
  RoleUnder g (e, None) = ⊤
  RoleUnder g (e, Some h) = U g e.name (page_of h) × Below U h.below

  abbrev RolesUnder : Option DelegationsDoc → List RoleTree → Type 0
  RolesUnder g [] = ⊤
  RolesUnder g (r ∷ rs) = RoleUnder g r × RolesUnder g rs

  put-under : (g : Option DelegationsDoc) (r : RoleTree) (bs : Branches) → RoleUnder g r → Under U g bs → Under U g (put_branch r bs)
  put-under g (e, None) bs h k = k
  put-under g (e, Some d) bs h k = (h.0, h.1, k)

  from-under : (g : Option DelegationsDoc) (rs : List RoleTree) → RolesUnder g rs → Under U g (branches_from rs)
  from-under g [] h = tt
  from-under g (r ∷ rs) h = put-under g r (branches_from rs) h.0 (from-under g rs h.1)

  last-under : (g : Option DelegationsDoc) (rs : List RoleTree) (r : RoleTree) → RolesUnder g rs → RoleUnder g r → RolesUnder g (rs ++ r ∷ [])
  last-under g [] r h k = (k, tt)
  last-under g (x ∷ rs) r h k = (h.0, last-under g rs r h.1 k)

  chosen-below : (o : OwnDoc) (b : Bool) (rs : List RoleTree) (bs : Branches) → RolesUnder (if b then shown o (entries rs) else top_doc (tree o bs)).delegations rs → Below U (tree o bs)
      → Below U (tree o (if b then branches_from rs else bs))
  chosen-below o true rs bs h k = from-under (top_doc (tree o (branches_from rs))).delegations rs (subst (λ (d : TargetsDoc). RolesUnder d.delegations rs) (sym (ap (shown o) (entries-from rs))) h)
  chosen-below o false rs bs h k = k

  refilled-below : (t : TreeDoc) (rs : List RoleTree) → RolesUnder (shown_in t (entries rs)).delegations rs → Below U t → Below U (refilled rs t)
  refilled-below (tree o bs) rs h k = chosen-below o (is_some o.keys) rs bs h k

  -- ---- what was fetched

  abbrev FetchedUnder : Option DelegationsDoc → Fetched → Type 0
  FetchedUnder g [] = ⊤
  FetchedUnder g (f ∷ fs) = U g f.0 (page_of f.1) × Below U f.1.below × FetchedUnder g fs

  same-name : (m n : List ℕ) → at_name m n ≡ true → m ≡ n
  same-name m n h = (bytes_eq-Decides m n).0 (sym (is_eq-slice_cmp m n) ∙ h)

  found-under : (g : Option DelegationsDoc) (e : Entry) (b : Bool) (n : List ℕ) (h : HeldDoc) (o : Option HeldDoc) → at_name e.name n ≡ b → U g n (page_of h) → Below U h.below → RoleUnder g (e, o)
      → RoleUnder g (e, cond b (Some h) o)
  found-under g e true n h o is u k x = (subst (λ m. U g m (page_of h)) (sym (same-name e.name n is)) u, k)
  found-under g e false n h o is u k x = x

  lookup-under : (g : Option DelegationsDoc) (e : Entry) (fs : Fetched) → FetchedUnder g fs → RoleUnder g (e, lookup (at_name e.name) fs)
  lookup-under g e [] h = tt
  lookup-under g e (f ∷ fs) h = found-under g e (at_name e.name f.0) f.0 f.1 (lookup (at_name e.name) fs) refl h.0 h.1 (lookup-under g e fs h.2)

  left-under : (g : Option DelegationsDoc) (b : Bool) (f : List ℕ × HeldDoc) (fs gs : Fetched) → U g f.0 (page_of f.1) → Below U f.1.below → FetchedUnder g fs → FetchedUnder g gs → FetchedUnder g (cond b fs (f ∷ gs))
  left-under g true f fs gs x k y z = y
  left-under g false f fs gs x k y z = (x, k, z)

  removed-under : (g : Option DelegationsDoc) (n : List ℕ) (fs : Fetched) → FetchedUnder g fs → FetchedUnder g (remove_entry (at_name n) fs)
  removed-under g n [] h = tt
  removed-under g n (f ∷ fs) h = left-under g (at_name n f.0) f fs (remove_entry (at_name n) fs) h.0 h.1 h.2 (removed-under g n fs h.2)

  fetched-under : (g : Option DelegationsDoc) (es : List Entry) (fs : Fetched) → FetchedUnder g fs → RolesUnder g (with_fetched fs es)
  fetched-under g [] fs h = tt
  fetched-under g (e ∷ es) fs h = (lookup-under g e fs h, fetched-under g es (remove_entry (at_name e.name) fs) (removed-under g e.name fs h))

  put-in : (g : Option DelegationsDoc) (o : Ordering) (f : List ℕ × HeldDoc) (n : List ℕ) (h : HeldDoc) (fs gs : Fetched) → slice_cmp nat_cmp n f.0 ≡ o → U g f.0 (page_of f.1) → Below U f.1.below
      → U g n (page_of h) → Below U h.below → FetchedUnder g fs → FetchedUnder g gs → FetchedUnder g (match_ordering o ((n, h) ∷ f ∷ fs) ((f.0, h) ∷ fs) (f ∷ gs))
  put-in g Less f n h fs gs is x k y l z w = (y, l, (x, k, z))
  put-in g Equal f n h fs gs is x k y l z w = (subst (λ m. U g m (page_of h)) (same-name n f.0 (ap is_eq is)) y, l, z)
  put-in g Greater f n h fs gs is x k y l z w = (x, k, w)

  inserted-under : (g : Option DelegationsDoc) (n : List ℕ) (h : HeldDoc) (fs : Fetched) → U g n (page_of h) → Below U h.below → FetchedUnder g fs → FetchedUnder g (insert_entry (slice_cmp nat_cmp) fs n h)
  inserted-under g n h [] x k y = (x, k, tt)
  inserted-under g n h (f ∷ fs) x k y =
      put-in g (slice_cmp nat_cmp n f.0) f n h fs (insert_entry (slice_cmp nat_cmp) fs n h) refl y.0 y.1 x k y.2 (inserted-under g n h fs x k y.2)

  -- ---- the turns

  -- the document that has these entries
  abbrev page_with : HeldDoc → List Entry → SignedDoc TargetsDoc
  page_with d es = record { role = shown_in d.below es; signatures = d.signatures }

  abbrev all_of : OpenDoc → List Entry
  all_of o = entries o.done ++ o.role ∷ entries o.left

  abbrev page_open : OpenDoc → SignedDoc TargetsDoc
  page_open o = page_with o.document (all_of o)

  -- the document on the way under the open ones
  abbrev OpenFine : OpenDoc → SignedDoc TargetsDoc → SignedDoc TargetsDoc → Type 0
  OpenFine o whole page = U whole.role.delegations o.role.name page × RolesUnder whole.role.delegations o.done × RolesUnder whole.role.delegations o.left × Below U o.document.below

  abbrev ChildFine : SignedDoc TargetsDoc → List OpenDoc → Type 0
  ChildFine page [] = page ≡ whole
  ChildFine page (o ∷ os) = OpenFine o (page_open o) page × ChildFine (page_open o) os

  abbrev TurnFine : Option DelegationsDoc → Entry → Turn → Type 0
  TurnFine g e (past r l) = (r.0 ≡ e) × RoleUnder g r
  TurnFine g e (stopped f h waiting m l) = (f ≡ e) × U g f.name (page_of h) × Below U h.below

  abbrev TurnsFine : SignedDoc TargetsDoc → Turns → Type 0
  TurnsFine page (all_past h l) = (page_of h ≡ page) × Below U h.below
  TurnsFine page (stopped_at o here waiting m l) = (page_open o ≡ page) × OpenFine o page (page_of here) × Below U here.below

  abbrev ProgressFine : Progress → Type 0
  ProgressFine (wants w m) = ChildFine (page_of w.here) w.outer × Below U w.here.below × FetchedUnder (holder_of w) w.fetched
  ProgressFine (grown t) = Below U t.role × (top_page t ≡ whole)

  turn_by_look-fine : (g : Option DelegationsDoc) (e : Entry) (h : HeldDoc) (l : Names) (look : Look) → U g e.name (page_of h) → Below U h.below → TurnFine g e (turn_by_look e h l look)
  turn_by_look-fine g e h l through u k = (refl, (u, k))
  turn_by_look-fine g e h l (unlisted n) u k = (refl, (u, k))
  turn_by_look-fine g e h l (wanted waiting m) u k = (refl, u, k)

  turn-on : (g : Option DelegationsDoc) (e : Entry) (b : Bool) (s t : Turn) → TurnFine g e s → TurnFine g e t → TurnFine g e (if b then s else t)
  turn-on g e true s t x y = x
  turn-on g e false s t x y = y

  turn-fine : (metas : Metas) (g : Option DelegationsDoc) (l : Names) (r : RoleTree) → RoleUnder g r → TurnFine g r.0 (turn metas l r)
  turn-fine metas g l (e, None) h = (refl, tt)
  turn-fine metas g l (e, Some d) h =
      turn-on g e (l e.name) (past (e, None) l) (turn_by_look e d (add e.name l) (look metas (add e.name l) (listed_roles d.below))) (refl, tt)
      (turn_by_look-fine g e d (add e.name l) (look metas (add e.name l) (listed_roles d.below)) h.0 h.1)

  -- the entries stay, as their roles get their turns
  moved : (done left : List RoleTree) (r s : RoleTree) (all : List Entry) → entries done ++ r.0 ∷ entries left ≡ all → s.0 ≡ r.0 → entries (done ++ s ∷ []) ++ entries left ≡ all
  moved done left r s all h k =
      ap (λ l. l ++ entries left) (map-append (λ (x : RoleTree). x.0) done (s ∷ [])) ∙ append_assoc (entries done) (s.0 ∷ []) (entries left)
      ∙ ap (λ e. entries done ++ e ∷ entries left) k ∙ h

  by_turn-fine : (d : HeldDoc) (done left : List RoleTree) (r : RoleTree) (all : List Entry) (t : Turn) (next : RoleTree → Names → Turns) → entries done ++ r.0 ∷ entries left ≡ all
      → RolesUnder (page_with d all).role.delegations done → RolesUnder (page_with d all).role.delegations left → Below U d.below → TurnFine (page_with d all).role.delegations r.0 t
      → ((s : RoleTree) (l : Names) → s.0 ≡ r.0 → RoleUnder (page_with d all).role.delegations s → TurnsFine (page_with d all) (next s l)) → TurnsFine (page_with d all) (by_turn d done left t next)
  by_turn-fine d done left r all (past s l) next is x y z h k = k s l h.0 h.1
  by_turn-fine d done left r all (stopped e here waiting m l) next is x y z h k =
      (ap (page_with d) (ap (λ f. entries done ++ f ∷ entries left) h.0 ∙ is), (h.1, x, y, z), h.2)

  turns-fine : (metas : Metas) (d : HeldDoc) (left done : List RoleTree) (all : List Entry) (l : Names) → entries done ++ entries left ≡ all
      → RolesUnder (page_with d all).role.delegations done → RolesUnder (page_with d all).role.delegations left → Below U d.below → TurnsFine (page_with d all) (turns metas l d done left)
  turns-fine metas d [] done all l is x y z =
      let whole : entries done ≡ all = sym (append-nil (entries done)) ∙ is in (
        ap (λ (r : TargetsDoc). let p : SignedDoc TargetsDoc = record { role = r; signatures = d.signatures } in p) (top-refilled d.below done ∙ ap (shown_in d.below) whole),
        refilled-below d.below done (subst (λ es. RolesUnder (shown_in d.below es).delegations done) (sym whole) x) z,
      )
  turns-fine metas d (r ∷ left) done all l is x y z =
      by_turn-fine d done left r all (turn metas l r) (λ s k. turns metas k d (done ++ s ∷ []) left) is x y.1 z (turn-fine metas (page_with d all).role.delegations l r y.0)
      (λ s k same u. turns-fine metas d left (done ++ s ∷ []) all k (moved done left r s all is same) (last-under (page_with d all).role.delegations done s x u) y.1 z)

  -- ---- outwards

  by_turns-fine : (outer : List OpenDoc) (page : SignedDoc TargetsDoc) (t : Turns) (next : HeldDoc → Names → Progress) → ChildFine page outer → TurnsFine page t
      → ((d : HeldDoc) (l : Names) → ChildFine (page_of d) outer → Below U d.below → ProgressFine (next d l)) → ProgressFine (by_turns outer t next)
  by_turns-fine outer page (all_past d l) next c h k = k d l (subst (λ p. ChildFine p outer) (sym h.0) c) h.1
  by_turns-fine outer page (stopped_at o here waiting m l) next c h k =
      ((subst (λ p. OpenFine o p (page_of here)) (sym h.0) h.1, subst (λ p. ChildFine p outer) (sym h.0) c), h.2, tt)

  settle-fine : (metas : Metas) (outer : List OpenDoc) (h : HeldDoc) (l : Names) → ChildFine (page_of h) outer → Below U h.below → ProgressFine (settle metas l h outer)
  settle-fine metas [] h l c k = (k, c)
  settle-fine metas (o ∷ outer) h l c k =
      let g = (page_open o).role.delegations in
      let r : RoleTree = (o.role, Some h) in
      by_turns-fine outer (page_open o) (taken_up metas l h o) (λ d n. settle metas n d outer) c.1
      (turns-fine metas o.document o.left (o.done ++ r ∷ []) (all_of o) l (moved o.done o.left r r (all_of o) refl refl)
      (last-under g o.done r c.0.1 (c.0.0, k)) c.0.2 c.0.3)
      (λ d n x y. settle-fine metas outer d n x y)

  -- ---- a list

  entries-fetched : (es : List Entry) (fs : Fetched) → entries (with_fetched fs es) ≡ es
  entries-fetched [] fs = refl
  entries-fetched (e ∷ es) fs = ap (λ l. e ∷ l) (entries-fetched es (remove_entry (at_name e.name) fs))

  shown-chosen : (o : OwnDoc) (b : Bool) (bs : Branches) → is_some o.keys ≡ b → shown_in (tree o (if b then branches_from [] else bs)) (entries_in bs) ≡ top_doc (tree o bs)
  shown-chosen o true bs is = ap (λ b. if b then shown o (entries_in bs) else top_doc (tree o no_branches)) is
  shown-chosen o false bs is = ap (λ b. if b then shown o (entries_in bs) else top_doc (tree o bs)) is

  shown-again : (t : TreeDoc) → shown_in (refilled [] t) (listed_roles t) ≡ top_doc t
  shown-again (tree o bs) = shown-chosen o (is_some o.keys) bs refl

  emptied-chosen : (o : OwnDoc) (b : Bool) (bs : Branches) → Below U (tree o bs) → Below U (tree o (if b then branches_from [] else bs))
  emptied-chosen o true bs h = tt
  emptied-chosen o false bs h = h

  emptied-below : (t : TreeDoc) → Below U t → Below U (refilled [] t)
  emptied-below (tree o bs) h = emptied-chosen o (is_some o.keys) bs h

  abbrev WorkFine : WorkDoc → Type 0
  WorkFine w = ChildFine (page_of w.here) w.outer × Below U w.here.below × FetchedUnder (holder_of w) w.fetched

  give-fine : (metas : Metas) (w : WorkDoc) → WorkFine w → ProgressFine (give metas w)
  give-fine metas w h =
      let d = with_roles [] w.here in
      let es = listed_roles w.here.below in
      let given = with_fetched w.fetched es in
      let same : page_with d es ≡ page_of w.here = ap (λ (r : TargetsDoc). let p : SignedDoc TargetsDoc = record { role = r; signatures = w.here.signatures } in p) (shown-again w.here.below) in
      by_turns-fine w.outer (page_with d es) (turns metas w.loaded d [] given) (λ x l. settle metas l x w.outer) (subst (λ p. ChildFine p w.outer) (sym same) h.0)
      (turns-fine metas d given [] es w.loaded (entries-fetched es w.fetched) tt
      (fetched-under (page_with d es).role.delegations es w.fetched (subst (λ (p : SignedDoc TargetsDoc). FetchedUnder p.role.delegations w.fetched) (sym same) h.2)) (emptied-below w.here.below h.1))
      (λ x l c k. settle-fine metas w.outer x l c k)

  by_look-fine : (metas : Metas) (w : WorkDoc) (l : Look) → WorkFine w → ProgressFine (by_look metas w l)
  by_look-fine metas w through h = give-fine metas w h
  by_look-fine metas w (unlisted n) h = settle-fine metas w.outer w.here (add n w.loaded) h.0 h.1
  by_look-fine metas w (wanted waiting m) h = h

  kept-fine : (w : WorkDoc) (waiting : List Entry) (h : HeldDoc) → IsBare h → IfSome (first_of waiting) (λ e. U (holder_of w) e.name (page_of h)) → WorkFine w → WorkFine (with_taken w waiting h)
  kept-fine w [] h bare u k = k
  kept-fine w (e ∷ rest) h bare u k = (k.0, k.1, inserted-under (holder_of w) e.name h w.fetched u (bare-below h.below bare) k.2)

  taken-fine : (metas : Metas) (w : WorkDoc) (h : HeldDoc) → IsBare h → IfSome (first_of w.waiting) (λ e. U (holder_of w) e.name (page_of h)) → WorkFine w → ProgressFine (taken metas w h)
  taken-fine metas w h bare u k = let v = with_taken w w.waiting h in by_look-fine metas v (look metas v.loaded v.waiting) (kept-fine w w.waiting h bare u k)

  begun-fine : (metas : Metas) (top : HeldDoc) → page_of top ≡ whole → IsBare top → ProgressFine (begun metas top)
  begun-fine metas top is bare = by_look-fine metas (first_work top) (look metas no_names (listed_roles top.below)) (is, bare-below top.below bare, tt)

  runs-fine : (metas : Metas) (hs : List HeldDoc) (p : Progress) → AllTaken U metas p hs → ProgressFine p → ProgressFine (runs metas p hs)
  runs-fine metas [] p all h = h
  runs-fine metas (x ∷ hs) (wants w m) all h = runs-fine metas hs (taken metas w x) all.2 (taken-fine metas w x all.0 all.1 h)
  runs-fine metas (x ∷ hs) (grown t) all h = h

-- Of a tree that grew: its documents stand so under one another, and it says for itself what the first document did.
pub stands-under : (U : Relation) (metas : Metas) (top : HeldDoc) (hs : List HeldDoc) (t : SignedDoc TreeDoc) → IsBare top → AllTaken U metas (begun metas top) hs → runs metas (begun metas top) hs ≡ grown t
    → Below U t.role × (top_page t ≡ page_of top)
stands-under U metas top hs t bare all is = subst (ProgressFine U (page_of top)) is (runs-fine U (page_of top) metas hs (begun metas top) all (begun-fine U (page_of top) metas top refl bare))

-- ---- one document more

-- documents that were read
pub bare-more : (hs : List HeldDoc) (h : HeldDoc) → AreBare hs → IsBare h → AreBare (hs ++ h ∷ [])
bare-more [] h bare b = (b, tt)
bare-more (x ∷ hs) h bare b = (bare.0, bare-more hs h bare.1 b)

-- ---- what holds throughout a tree, by what follows from it

mutual
  under-to : (U V : Relation) → ((g : Option DelegationsDoc) (name : List ℕ) (d : SignedDoc TargetsDoc) → U g name d → V g name d) → (g : Option DelegationsDoc) (bs : Branches) → Under U g bs → Under V g bs
  under-to U V f g no_branches h = tt
  under-to U V f g (unloaded e bs) h = under-to U V f g bs h
  under-to U V f g (loaded e n s t bs) h = (f g e.name (record { role = top_doc t; signatures = s }) h.0, below-to U V f t h.1, under-to U V f g bs h.2)

  pub below-to : (U V : Relation) → ((g : Option DelegationsDoc) (name : List ℕ) (d : SignedDoc TargetsDoc) → U g name d → V g name d) → (t : TreeDoc) → Below U t → Below V t
  below-to U V f (tree o bs) h = under-to U V f (top_doc (tree o bs)).delegations bs h
