-- That the names that carry a document, as a tree grows, are different ones that the snapshot lists: so there are at most as many documents
-- as it lists names.
use Rattle.std.specs.Bool.{⊤}
use Rattle.std.proofs.Common.{◌≡◌, ◌≤◌, ◌+◌, ℕ, suc, List, [], ◌∷◌, ◌++◌, length, map, codes, Bool, true, false, ◌||◌, if◌then◌else◌, cond, Option, Some, None, is_some, nat_cmp, Ordering, Less, Equal, Greater, refl, ap, sym, ◌∙◌, subst, arith}
use Rattle.std.proofs.lemmas.List.{append_cancel_right, length-append, map-append}
use Rattle.std.proofs.lemmas.List.Elements.{filter_map-append}
use Rattle.std.proofs.lemmas.Slice.Eq.{bytes_eq-Decides}
use Rattle.std.proofs.lemmas.Map.Text.{is_eq-slice_cmp}
use Rattle.std.specs.Str.{bytes_eq}
use Rattle.std.specs.Cmp.Lexicographic.{slice_cmp}
use Rattle.std.specs.Map.{lookup, remove_entry}
use Rattle.std.specs.BTreeMap.{insert_entry}
use Rattle.std.specs.Ordering.{match_ordering}
use Rattle.tough_roles.specs.Timestamp.{MetafileDoc}
use Rattle.tough_schema.specs.Tree.{Entry}
use Rattle.tough_schema.specs.Update.{listed_roles}
use Rattle.tough_schema.specs.Search.{Names, add}
use Rattle.tough_schema.specs.Whole.{TreeDoc, tree, Branches, no_branches, unloaded, loaded, branches_from, HeldDoc, RoleTree}
use Rattle.tough_schema.specs.Entries.{documents_of, documents_below}
use Rattle.tough_schema.specs.Fresh.{carriers, carriers_below}
use Rattle.tough_schema.specs.Preorder.{Occurrence, preorder, preorder_below}
use Rattle.tough_update.specs.delegations.Growing.{Metas, listed_as, Look, through, unlisted, wanted, look, looked, Fetched, at_name}
use Rattle.tough_update.proofs.growth.Levels.{with_fetched, refilled, with_roles, OpenDoc, Turn, past, stopped, turn_by_look, turn, Turns, all_past, stopped_at, by_turn, turns, WorkDoc, Progress, wants, grown, by_turns, taken_up, settle, give, by_look, go_on, first_work, begun, with_taken, taken}
use Rattle.tough_update.specs.growth.Once.{is_among, Distinct, IsBare}
use Rattle.tough_update.proofs.growth.Once.{at_role, in_roles, roles-last, WorkFine, ProgressFine, taken-fine, begun-fine}

-- ---- each document has a name that carries it

abbrev kept : List Occurrence → List HeldDoc
kept os = documents_of (map (λ o. o.role) os)

kept-append : (xs ys : List Occurrence) → length (kept (xs ++ ys)) ≡ length (kept xs) + length (kept ys)
kept-append xs ys =
    let roles : List Occurrence → List RoleTree = λ os. map (λ o. o.role) os in
    ap (λ rs. length (documents_of rs)) (map-append (λ (o : Occurrence). o.role) xs ys)
    ∙ (ap (λ hs. length hs) (filter_map-append (λ (r : RoleTree). r.1) (roles xs) (roles ys)) ∙ length-append (kept xs) (kept ys))

mutual
  kept-carriers : (k : ℕ) (bs : Branches) → length (kept (preorder k bs)) ≡ length (carriers bs)
  kept-carriers k no_branches = refl
  kept-carriers k (unloaded e bs) = kept-carriers (k + 1) bs
  kept-carriers k (loaded e name signatures t bs) =
      let inside = preorder_below (k + 1) t in
      let rest = preorder (k + 1 + length inside) bs in
      let sum : length (kept (inside ++ rest)) ≡ length (carriers_below t ++ carriers bs) = omega (arith, kept-append inside rest, kept-below (k + 1) t, kept-carriers (k + 1 + length inside) bs, length-append (carriers_below t) (carriers bs)) in
      ap suc sum

  kept-below : (k : ℕ) (t : TreeDoc) → length (kept (preorder_below k t)) ≡ length (carriers_below t)
  kept-below k (tree o bs) = kept-carriers k bs

pub documents-carriers : (t : TreeDoc) → length (documents_below t) ≡ length (carriers_below t)
documents-carriers t = kept-below 0 t

-- ---- different names that are listed

-- one entry's name isn't found under two names
differs : (end n p key : List ℕ) (b : Bool) → bytes_eq p n ≡ false → bytes_eq (n ++ end) key ≡ true → bytes_eq (p ++ end) key ≡ b → b ≡ false
differs end n p key false h k e = refl
differs end n p key true h k e =
    let same : p ≡ n = append_cancel_right p n end ((bytes_eq-Decides (p ++ end) key).0 e ∙ sym ((bytes_eq-Decides (n ++ end) key).0 k)) in
    absurd (cc ((bytes_eq-Decides p n).1 same, h))

halves : (a b : Bool) → (a || b) ≡ false → (a ≡ false) × (b ≡ false)
halves true b h = absurd (cc h)
halves false b h = (refl, h)

module _ {X : Type 0} (end : List ℕ) where
  abbrev pub Finds : List (List ℕ × X) → List ℕ → Type 0
  Finds es name = (x : X) × (lookup (bytes_eq (name ++ end)) es ≡ Some x)

  abbrev pub AllFind : List (List ℕ × X) → List (List ℕ) → Type 0
  AllFind es [] = ⊤
  AllFind es (n ∷ ns) = Finds es n × AllFind es ns

  size-at : (b : Bool) (e : List ℕ × X) (es less : List (List ℕ × X)) → (b ≡ false → length es ≡ suc (length less)) → length (e ∷ es) ≡ suc (length (cond b es (e ∷ less)))
  size-at true e es less f = refl
  size-at false e es less f = ap suc (f refl)

  removed-size : (test : List ℕ → Bool) (es : List (List ℕ × X)) (x : X) → lookup test es ≡ Some x → length es ≡ suc (length (remove_entry test es))
  removed-size test [] x h = absurd (cc h)
  removed-size test (e ∷ es) x h = size-at (test e.0) e es (remove_entry test es) (λ k. removed-size test es x (sym (ap (λ b. cond b (Some e.1) (lookup test es)) k) ∙ h))

  other-at : (test : List ℕ → Bool) (b : Bool) (e : List ℕ × X) (es less : List (List ℕ × X)) → (b ≡ true → test e.0 ≡ false) → lookup test less ≡ lookup test es
      → lookup test (cond b es (e ∷ less)) ≡ lookup test (e ∷ es)
  other-at test true e es less off same = sym (ap (λ c. cond c (Some e.1) (lookup test es)) (off refl))
  other-at test false e es less off same = ap (λ o. cond (test e.0) (Some e.1) o) same

  found-other : (n p : List ℕ) (es : List (List ℕ × X)) → bytes_eq p n ≡ false → lookup (bytes_eq (p ++ end)) (remove_entry (bytes_eq (n ++ end)) es) ≡ lookup (bytes_eq (p ++ end)) es
  found-other n p [] h = refl
  found-other n p (e ∷ es) h =
      other-at (bytes_eq (p ++ end)) (bytes_eq (n ++ end) e.0) e es (remove_entry (bytes_eq (n ++ end)) es) (λ k. differs end n p e.0 (bytes_eq (p ++ end) e.0) h k refl) (found-other n p es h)

  find-others : (n : List ℕ) (ns : List (List ℕ)) (es : List (List ℕ × X)) → is_among n ns ≡ false → AllFind es ns → AllFind (remove_entry (bytes_eq (n ++ end)) es) ns
  find-others n [] es d h = tt
  find-others n (p ∷ ns) es d h =
      let both = halves (bytes_eq p n) (is_among n ns) d in
      ((h.0.0, found-other n p es both.0 ∙ h.0.1), find-others n ns es both.1 h.1)

  pub few : (ns : List (List ℕ)) (es : List (List ℕ × X)) → Distinct ns → AllFind es ns → length ns ≤ length es
  few [] es d h = omega arith
  few (n ∷ ns) es d h =
      let less = remove_entry (bytes_eq (n ++ end)) es in
      omega (arith, removed-size (bytes_eq (n ++ end)) es h.0.0 h.0.1, few ns less d.1 (find-others n ns es d.0 h.1))

  find-both : (xs ys : List (List ℕ)) (es : List (List ℕ × X)) → AllFind es xs → AllFind es ys → AllFind es (xs ++ ys)
  find-both [] ys es h k = k
  find-both (x ∷ xs) ys es h k = (h.0, find-both xs ys es h.1 k)

-- ---- as a tree grows

module _ (metas : Metas) where
  -- the snapshot lists each of these names
  abbrev pub Listed : List (List ℕ) → Type 0
  Listed ns = AllFind (codes ".json") metas ns

  abbrev pub IsListed : List ℕ → Type 0
  IsListed name = Finds (codes ".json") metas name

  pub both : (xs ys : List (List ℕ)) → Listed xs → Listed ys → Listed (xs ++ ys)
  both xs ys h k = find-both (codes ".json") xs ys metas h k

  abbrev RolesListed : List RoleTree → Type 0
  RolesListed [] = ⊤
  RolesListed (r ∷ rs) = Listed (at_role r) × RolesListed rs

  abbrev FetchedListed : Fetched → Type 0
  FetchedListed [] = ⊤
  FetchedListed (f ∷ fs) = Listed (f.0 ∷ carriers_below f.1.below) × FetchedListed fs

  found-listed : (e : Entry) (f : List ℕ × HeldDoc) (b : Bool) (o : Option HeldDoc) → at_name e.name f.0 ≡ b → Listed (f.0 ∷ carriers_below f.1.below) → Listed (at_role (e, o)) → Listed (at_role (e, cond b (Some f.1) o))
  found-listed e f true o is x y =
      let same : e.name ≡ f.0 = (bytes_eq-Decides e.name f.0).0 (sym (is_eq-slice_cmp e.name f.0) ∙ is) in
      subst (λ n. Listed (n ∷ carriers_below f.1.below)) (sym same) x
  found-listed e f false o is x y = y

  lookup-listed : (e : Entry) (fs : Fetched) → FetchedListed fs → Listed (at_role (e, lookup (at_name e.name) fs))
  lookup-listed e [] h = tt
  lookup-listed e (f ∷ fs) h = found-listed e f (at_name e.name f.0) (lookup (at_name e.name) fs) refl h.0 (lookup-listed e fs h.1)

  left-listed : (b : Bool) (f : List ℕ × HeldDoc) (fs gs : Fetched) → Listed (f.0 ∷ carriers_below f.1.below) → FetchedListed fs → FetchedListed gs → FetchedListed (cond b fs (f ∷ gs))
  left-listed true f fs gs x y z = y
  left-listed false f fs gs x y z = (x, z)

  removed-listed : (n : List ℕ) (fs : Fetched) → FetchedListed fs → FetchedListed (remove_entry (at_name n) fs)
  removed-listed n [] h = tt
  removed-listed n (f ∷ fs) h = left-listed (at_name n f.0) f fs (remove_entry (at_name n) fs) h.0 h.1 (removed-listed n fs h.1)

  fetched-listed : (es : List Entry) (fs : Fetched) → FetchedListed fs → RolesListed (with_fetched fs es)
  fetched-listed [] fs h = tt
  fetched-listed (e ∷ es) fs h = (lookup-listed e fs h, fetched-listed es (remove_entry (at_name e.name) fs) (removed-listed e.name fs h))

  put-listed : (o : Ordering) (f : List ℕ × HeldDoc) (n : List ℕ) (h : HeldDoc) (fs gs : Fetched) → Listed (f.0 ∷ carriers_below f.1.below) → Listed (n ∷ carriers_below h.below) → FetchedListed fs → FetchedListed gs
      → FetchedListed (match_ordering o ((n, h) ∷ f ∷ fs) ((f.0, h) ∷ fs) (f ∷ gs))
  put-listed Less f n h fs gs x y z w = (y, (x, z))
  put-listed Equal f n h fs gs x y z w = ((x.0, y.1), z)
  put-listed Greater f n h fs gs x y z w = (x, w)

  inserted-listed : (n : List ℕ) (h : HeldDoc) (fs : Fetched) → Listed (n ∷ carriers_below h.below) → FetchedListed fs → FetchedListed (insert_entry (slice_cmp nat_cmp) fs n h)
  inserted-listed n h [] x y = (x, tt)
  inserted-listed n h (f ∷ fs) x y = put-listed (slice_cmp nat_cmp n f.0) f n h fs (insert_entry (slice_cmp nat_cmp) fs n h) y.0 x y.1 (inserted-listed n h fs x y.1)

  abbrev OpenListed : OpenDoc → Type 0
  OpenListed o = Listed (in_roles o.done) × IsListed o.role.name × RolesListed o.left × Listed (carriers_below o.document.below)

  abbrev AllListed : List OpenDoc → Type 0
  AllListed [] = ⊤
  AllListed (o ∷ os) = OpenListed o × AllListed os

  chosen-listed : (b : Bool) (rs : List RoleTree) (bs : Branches) → Listed (in_roles rs) → Listed (carriers bs) → Listed (carriers (if b then branches_from rs else bs))
  chosen-listed true rs bs x y = x
  chosen-listed false rs bs x y = y

  refilled-listed : (rs : List RoleTree) (t : TreeDoc) → Listed (in_roles rs) → Listed (carriers_below t) → Listed (carriers_below (refilled rs t))
  refilled-listed rs (tree o bs) x y = chosen-listed (is_some o.keys) rs bs x y

  more-listed : (rs : List RoleTree) (r : RoleTree) → Listed (in_roles rs) → Listed (at_role r) → Listed (in_roles (rs ++ r ∷ []))
  more-listed rs r x y = subst Listed (sym (roles-last rs r)) (both (in_roles rs) (at_role r) x y)

  -- ---- the turns

  -- the first role that waits is listed
  abbrev pub FirstListed : List Entry → Type 0
  FirstListed [] = ⊤
  FirstListed (e ∷ rest) = IsListed e.name

  abbrev pub LookListed : Look → Type 0
  LookListed through = ⊤
  LookListed (unlisted n) = ⊤
  LookListed (wanted waiting m) = FirstListed waiting

  looked-listed : (e : Entry) (rest : List Entry) (o : Option MetafileDoc) → listed_as metas e.name ≡ o → LookListed (looked e rest o)
  looked-listed e rest None is = tt
  looked-listed e rest (Some m) is = (m, is)

  look-on : (b : Bool) (s t : Look) → LookListed s → LookListed t → LookListed (if b then s else t)
  look-on true s t x y = x
  look-on false s t x y = y

  pub look-listed : (l : Names) (waiting : List Entry) → LookListed (look metas l waiting)
  look-listed l [] = tt
  look-listed l (e ∷ rest) = look-on (l e.name) (look metas l rest) (looked e rest (listed_as metas e.name)) (look-listed l rest) (looked-listed e rest (listed_as metas e.name) refl)

  abbrev TurnListed : Turn → Type 0
  TurnListed (past r l) = Listed (at_role r)
  TurnListed (stopped e h waiting m l) = FirstListed waiting × Listed (e.name ∷ carriers_below h.below)

  turn_by_look-listed : (e : Entry) (h : HeldDoc) (l : Names) (k : Look) → Listed (e.name ∷ carriers_below h.below) → LookListed k → TurnListed (turn_by_look e h l k)
  turn_by_look-listed e h l through x y = x
  turn_by_look-listed e h l (unlisted n) x y = x
  turn_by_look-listed e h l (wanted waiting m) x y = (y, x)

  turn-on : (b : Bool) (s t : Turn) → TurnListed s → TurnListed t → TurnListed (if b then s else t)
  turn-on true s t x y = x
  turn-on false s t x y = y

  turn-listed : (l : Names) (r : RoleTree) → Listed (at_role r) → TurnListed (turn metas l r)
  turn-listed l (e, None) x = tt
  turn-listed l (e, Some h) x =
      let k = look metas (add e.name l) (listed_roles h.below) in
      turn-on (l e.name) (past (e, None) l) (turn_by_look e h (add e.name l) k) tt (turn_by_look-listed e h (add e.name l) k x (look-listed (add e.name l) (listed_roles h.below)))

  abbrev TurnsListed : Turns → Type 0
  TurnsListed (all_past h l) = Listed (carriers_below h.below)
  TurnsListed (stopped_at o here waiting m l) = OpenListed o × FirstListed waiting × Listed (carriers_below here.below)

  by_turn-listed : (d : HeldDoc) (done left : List RoleTree) (t : Turn) (next : RoleTree → Names → Turns) → Listed (in_roles done) → RolesListed left → Listed (carriers_below d.below) → TurnListed t
      → ((s : RoleTree) (l : Names) → Listed (at_role s) → TurnsListed (next s l)) → TurnsListed (by_turn d done left t next)
  by_turn-listed d done left (past s l) next x y z h f = f s l h
  by_turn-listed d done left (stopped e here waiting m l) next x y z h f = ((x, h.1.0, y, z), h.0, h.1.1)

  turns-listed : (d : HeldDoc) (left done : List RoleTree) (l : Names) → RolesListed left → Listed (in_roles done) → Listed (carriers_below d.below) → TurnsListed (turns metas l d done left)
  turns-listed d [] done l x y z = refilled-listed done d.below y z
  turns-listed d (r ∷ left) done l x y z =
      by_turn-listed d done left (turn metas l r) (λ s k. turns metas k d (done ++ s ∷ []) left) y x.1 z (turn-listed l r x.0)
      (λ s k h. turns-listed d left (done ++ s ∷ []) k x.1 (more-listed done s y h) z)

  -- ---- the work

  abbrev WorkListed : WorkDoc → Type 0
  WorkListed w = AllListed w.outer × Listed (carriers_below w.here.below) × FetchedListed w.fetched × FirstListed w.waiting

  abbrev ProgressListed : Progress → Type 0
  ProgressListed (wants w m) = WorkListed w
  ProgressListed (grown t) = Listed (carriers_below t.role)

  by_turns-listed : (outer : List OpenDoc) (t : Turns) (next : HeldDoc → Names → Progress) → AllListed outer → TurnsListed t
      → ((d : HeldDoc) (l : Names) → Listed (carriers_below d.below) → ProgressListed (next d l)) → ProgressListed (by_turns outer t next)
  by_turns-listed outer (all_past d l) next x h f = f d l h
  by_turns-listed outer (stopped_at o here waiting m l) next x h f = ((h.0, x), h.2, tt, h.1)

  settle-listed : (outer : List OpenDoc) (h : HeldDoc) (l : Names) → AllListed outer → Listed (carriers_below h.below) → ProgressListed (settle metas l h outer)
  settle-listed [] h l x y = y
  settle-listed (o ∷ outer) h l x y =
      let all = o.done ++ (o.role, Some h) ∷ [] in
      by_turns-listed outer (taken_up metas l h o) (λ d s. settle metas s d outer) x.1 (turns-listed o.document o.left all l x.0.2 (more-listed o.done (o.role, Some h) x.0.0 (x.0.1, y)) x.0.3)
      (λ d s z. settle-listed outer d s x.1 z)

  -- the list's roles are still to be fetched, or all were
  abbrev LeftListed : WorkDoc → Type 0
  LeftListed w = AllListed w.outer × Listed (carriers_below w.here.below) × FetchedListed w.fetched

  give-listed : (w : WorkDoc) → LeftListed w → ProgressListed (give metas w)
  give-listed w x =
      let all = with_fetched w.fetched (listed_roles w.here.below) in
      by_turns-listed w.outer (turns metas w.loaded (with_roles [] w.here) [] all) (λ d l. settle metas l d w.outer) x.0
      (turns-listed (with_roles [] w.here) all [] w.loaded (fetched-listed (listed_roles w.here.below) w.fetched x.2) tt (refilled-listed [] w.here.below tt x.1))
      (λ d l z. settle-listed w.outer d l x.0 z)

  by_look-listed : (w : WorkDoc) (k : Look) → LeftListed w → LookListed k → ProgressListed (by_look metas w k)
  by_look-listed w through x y = give-listed w x
  by_look-listed w (unlisted n) x y = settle-listed w.outer w.here (add n w.loaded) x.0 x.1
  by_look-listed w (wanted waiting m) x y = (x.0, x.1, x.2, y)

  go_on-listed : (w : WorkDoc) → LeftListed w → ProgressListed (go_on metas w)
  go_on-listed w x = by_look-listed w (look metas w.loaded w.waiting) x (look-listed w.loaded w.waiting)

  bare-listed : (t : TreeDoc) → carriers_below t ≡ [] → Listed (carriers_below t)
  bare-listed t e = subst Listed (sym e) tt

  with_taken-listed : (w : WorkDoc) (waiting : List Entry) (h : HeldDoc) → LeftListed w → FirstListed waiting → Listed (carriers_below h.below) → LeftListed (with_taken w waiting h)
  with_taken-listed w [] h x y z = x
  with_taken-listed w (e ∷ rest) h x y z = (x.0, x.1, inserted-listed e.name h w.fetched (y, z) x.2)

-- different names that the snapshot lists carry the documents of the tree
abbrev pub WorkKeeps : Metas → WorkDoc → Type 0
WorkKeeps metas w = WorkFine w × WorkListed metas w

abbrev pub ProgressKeeps : Metas → Progress → Type 0
ProgressKeeps metas (wants w m) = WorkKeeps metas w
ProgressKeeps metas (grown t) = Distinct (carriers_below t.role) × Listed metas (carriers_below t.role)

together : (metas : Metas) (p : Progress) → ProgressFine p → ProgressListed metas p → ProgressKeeps metas p
together metas (wants w m) x y = (x, y)
together metas (grown t) x y = (x, y)

pub begun-keeps : (metas : Metas) (top : HeldDoc) → IsBare top → ProgressKeeps metas (begun metas top)
begun-keeps metas top bare =
    together metas (begun metas top) (begun-fine metas top bare) (go_on-listed metas (first_work top) (tt, bare-listed metas top.below bare, tt))

pub taken-keeps : (metas : Metas) (w : WorkDoc) (h : HeldDoc) → IsBare h → WorkKeeps metas w → ProgressKeeps metas (taken metas w h)
taken-keeps metas w h bare x =
    let y = x.1 in
    together metas (taken metas w h) (taken-fine metas w h bare x.0)
    (go_on-listed metas (with_taken w w.waiting h) (with_taken-listed metas w w.waiting h (y.0, y.1, y.2) y.3 (bare-listed metas h.below bare)))

-- so there are at most as many documents as the snapshot lists names
pub tree-few : (metas : Metas) (t : TreeDoc) → Distinct (carriers_below t) → Listed metas (carriers_below t) → length (documents_below t) ≤ length metas
tree-few metas t x y = omega (arith, documents-carriers t, few (codes ".json") (carriers_below t) metas x y)
