-- That the documents that have their place have different names that the snapshot lists: so there are at most as many as it lists names, as
-- far as the tree has grown.
use Rattle.std.specs.Bool.{⊤}
use Rattle.std.proofs.Common.{◌≡◌, ◌≤◌, ◌+◌, ℕ, suc, List, [], ◌∷◌, ◌++◌, length, drop, codes, Bool, true, false, if◌then◌else◌, cond, Option, Some, None, nat_cmp, Ordering, Less, Equal, Greater, refl, sym, ◌∙◌, subst, arith}
use Rattle.std.proofs.lemmas.List.{length-append}
use Rattle.std.proofs.lemmas.Slice.Eq.{bytes_eq-Decides}
use Rattle.std.proofs.lemmas.Map.Text.{is_eq-slice_cmp}
use Rattle.std.specs.Cmp.Lexicographic.{slice_cmp}
use Rattle.std.specs.Map.{lookup, remove_entry}
use Rattle.std.specs.BTreeMap.{insert_entry}
use Rattle.std.specs.Ordering.{match_ordering}
use Rattle.tough_schema.specs.Tree.{Entry}
use Rattle.tough_schema.specs.Update.{listed_roles}
use Rattle.tough_schema.specs.Search.{Names}
use Rattle.tough_schema.specs.Whole.{HeldDoc}
use Rattle.tough_trust.specs.delegations.Indexed.{Index, put, names_of}
use Rattle.tough_update.specs.delegations.Numbered.{NodeDoc, Nodes, also, last_number, roles_at}
use Rattle.tough_update.specs.delegations.Growing.{Metas, Look, through, unlisted, wanted, look, Fetched, at_name, fetched_for, fetched_after, offer_for, TaskDoc, turn_by_look, turn, by_turn, Turns, all_past, stopped_at, turns, WorkDoc, Progress, wants, grown, by_turns, resumed, settle, by_look, go_on, first_work, begun, with_taken, taken}
use Rattle.tough_update.proofs.growth.Once.{Once, once-more, once-last}
use Rattle.tough_update.proofs.growth.Kept as kept
use Rattle.tough_update.proofs.growth.Standing.{names-put}

module _ (metas : Metas) where
  abbrev IsListed : List ℕ → Type 0
  IsListed name = kept.IsListed metas name

  -- as many names as documents have their place: different ones that had their turn, and that the snapshot lists
  pub record Carries (ns : Nodes) (loaded : Names) : Type 0 where
    pub names : List (List ℕ)
    pub as_many : length names ≡ last_number ns
    pub once : Once names loaded
    pub listed : kept.Listed metas names

  carries-more : (ns : Nodes) (name : List ℕ) (number : Option ℕ) (x : Index) → Carries ns (names_of x) → Carries ns (names_of (put name number x))
  carries-more ns name number x c = record {
    names = c.names;
    as_many = c.as_many;
    once = subst (Once c.names) (sym (names-put name number x)) (once-more c.names name (names_of x) c.once);
    listed = c.listed;
  }

  -- a document gets its place, under a name that is listed and had no turn
  carries-placed : (ns : Nodes) (n : NodeDoc) (name : List ℕ) (number : Option ℕ) (x : Index) → names_of x name ≡ false → IsListed name → Carries ns (names_of x) → Carries (also ns n) (names_of (put name number x))
  carries-placed ns n name number x new is c =
      let more = c.names ++ name ∷ [] in
      let size : length more ≡ suc (last_number ns) = omega (arith, c.as_many, length-append c.names (name ∷ [])) in
      record {
        names = more;
        as_many = size;
        once = subst (Once more) (sym (names-put name number x)) (once-last c.names name (names_of x) c.once new);
        listed = kept.both metas c.names (name ∷ []) c.listed (is, tt);
      }

  -- ---- what was fetched

  abbrev FetchedListed : Fetched → Type 0
  FetchedListed [] = ⊤
  FetchedListed (f ∷ fs) = IsListed f.0 × FetchedListed fs

  abbrev Offers : List ℕ → Option HeldDoc → Type 0
  Offers name None = ⊤
  Offers name (Some h) = IsListed name

  found-listed : (name : List ℕ) (f : List ℕ × HeldDoc) (b : Bool) (o : Option HeldDoc) → at_name name f.0 ≡ b → IsListed f.0 → Offers name o → Offers name (cond b (Some f.1) o)
  found-listed name f true o is x y =
      let same : name ≡ f.0 = (bytes_eq-Decides name f.0).0 (sym (is_eq-slice_cmp name f.0) ∙ is) in
      subst IsListed (sym same) x
  found-listed name f false o is x y = y

  lookup-listed : (name : List ℕ) (fs : Fetched) → FetchedListed fs → Offers name (lookup (at_name name) fs)
  lookup-listed name [] h = tt
  lookup-listed name (f ∷ fs) h = found-listed name f (at_name name f.0) (lookup (at_name name) fs) refl h.0 (lookup-listed name fs h.1)

  left-listed : (b : Bool) (f : List ℕ × HeldDoc) (fs gs : Fetched) → IsListed f.0 → FetchedListed fs → FetchedListed gs → FetchedListed (cond b fs (f ∷ gs))
  left-listed true f fs gs x y z = y
  left-listed false f fs gs x y z = (x, z)

  removed-listed : (name : List ℕ) (fs : Fetched) → FetchedListed fs → FetchedListed (remove_entry (at_name name) fs)
  removed-listed name [] h = tt
  removed-listed name (f ∷ fs) h = left-listed (at_name name f.0) f fs (remove_entry (at_name name) fs) h.0 h.1 (removed-listed name fs h.1)

  put-listed : (o : Ordering) (f : List ℕ × HeldDoc) (name : List ℕ) (h : HeldDoc) (fs gs : Fetched) → IsListed f.0 → IsListed name → FetchedListed fs → FetchedListed gs
      → FetchedListed (match_ordering o ((name, h) ∷ f ∷ fs) ((f.0, h) ∷ fs) (f ∷ gs))
  put-listed Less f name h fs gs x y z w = (y, (x, z))
  put-listed Equal f name h fs gs x y z w = (x, z)
  put-listed Greater f name h fs gs x y z w = (x, w)

  inserted-listed : (name : List ℕ) (h : HeldDoc) (fs : Fetched) → IsListed name → FetchedListed fs → FetchedListed (insert_entry (slice_cmp nat_cmp) fs name h)
  inserted-listed name h [] x y = (x, tt)
  inserted-listed name h (f ∷ fs) x y = put-listed (slice_cmp nat_cmp name f.0) f name h fs (insert_entry (slice_cmp nat_cmp) fs name h) y.0 x y.1 (inserted-listed name h fs x y.1)

  abbrev TasksListed : List TaskDoc → Type 0
  TasksListed [] = ⊤
  TasksListed (t ∷ ts) = FetchedListed t.fetched × TasksListed ts

  -- ---- the turns

  abbrev TurnsCarry : Turns → Type 0
  TurnsCarry (all_past ns x) = Carries ns (names_of x)
  TurnsCarry (stopped_at ns t waiting m x) = Carries ns (names_of x) × FetchedListed t.fetched × kept.FirstListed metas waiting

  abbrev Goes : (Nodes → Index → Turns) → Type 0
  Goes next = (ns : Nodes) (x : Index) → Carries ns (names_of x) → TurnsCarry (next ns x)

  looked-carries : (left : TaskDoc) (ns : Nodes) (x : Index) (k : Look) (next : Nodes → Index → Turns) → Carries ns (names_of x) → FetchedListed left.fetched → kept.LookListed metas k → Goes next
      → TurnsCarry (by_turn left (turn_by_look ns x k) next)
  looked-carries left ns x through next c f k go = go ns x c
  looked-carries left ns x (unlisted name) next c f k go = go ns (put name None x) (carries-more ns name None x c)
  looked-carries left ns x (wanted waiting m) next c f k go = (c, f, k)

  named-carries : (b : Bool) (left : TaskDoc) (ns : Nodes) (x : Index) (e : Entry) (n : NodeDoc) (next : Nodes → Index → Turns) → names_of x e.name ≡ b → Carries ns (names_of x) → FetchedListed left.fetched → IsListed e.name → Goes next
      → TurnsCarry (by_turn left (turn metas x ns e (if b then None else Some n)) next)
  named-carries true left ns x e n next is c f listed go = go ns x c
  named-carries false left ns x e n next is c f listed go =
      let number : Option ℕ = Some (last_number (also ns n)) in
      let y = put e.name number x in
      looked-carries left (also ns n) y (look metas (names_of y) (listed_roles n.document.below)) next (carries-placed ns n e.name number x is listed c) f (kept.look-listed metas (names_of y) (listed_roles n.document.below)) go

  offered-carries : (o : Option HeldDoc) (left : TaskDoc) (ns : Nodes) (x : Index) (number place : ℕ) (e : Entry) (next : Nodes → Index → Turns) → Carries ns (names_of x) → FetchedListed left.fetched → Offers e.name o → Goes next
      → TurnsCarry (by_turn left (turn metas x ns e (offer_for (names_of x) number place e o)) next)
  offered-carries None left ns x number place e next c f listed go = go ns x c
  offered-carries (Some h) left ns x number place e next c f listed go =
      named-carries (names_of x e.name) left ns x e (record { parent = number; at = place; document = h }) next refl c f listed go

  turns-carry : (es : List Entry) (ns : Nodes) (x : Index) (number place : ℕ) (f : Fetched) → Carries ns (names_of x) → FetchedListed f → TurnsCarry (turns metas x ns number place f es)
  turns-carry [] ns x number place f c listed = c
  turns-carry (e ∷ es) ns x number place f c listed =
      let more = fetched_after e f in
      let left : FetchedListed more = removed-listed e.name f listed in
      offered-carries (fetched_for e f) (record { node = number; at = suc place; fetched = more }) ns x number place e (λ ms y. turns metas y ms number (suc place) more es) c left (lookup-listed e.name f listed)
      (λ ms y d. turns-carry es ms y number (suc place) more d left)

  -- ---- the work

  abbrev pub WorkCarries : WorkDoc → Type 0
  WorkCarries w = Carries w.nodes (names_of w.index) × TasksListed w.outer × FetchedListed w.fetched × kept.FirstListed metas w.waiting

  abbrev pub ProgressCarries : Progress → Type 0
  ProgressCarries (wants w m) = WorkCarries w
  ProgressCarries (grown t) = ⊤

  by_turns-carry : (ts : List TaskDoc) (u : Turns) (next : Nodes → Index → Progress) → TasksListed ts → TurnsCarry u
      → ((ns : Nodes) (x : Index) → Carries ns (names_of x) → ProgressCarries (next ns x)) → ProgressCarries (by_turns ts u next)
  by_turns-carry ts (all_past ns x) next listed c go = go ns x c
  by_turns-carry ts (stopped_at ns t waiting m x) next listed c go = (c.0, (c.1, listed), tt, c.2)

  settle-carries : (ts : List TaskDoc) (ns : Nodes) (x : Index) → Carries ns (names_of x) → TasksListed ts → ProgressCarries (settle metas x ns ts)
  settle-carries [] ns x c listed = tt
  settle-carries (t ∷ ts) ns x c listed =
      by_turns-carry ts (resumed metas x ns t) (λ ms y. settle metas y ms ts) listed.1 (turns-carry (drop t.at (roles_at t.node ns)) ns x t.node t.at t.fetched c listed.0)
      (λ ms y d. settle-carries ts ms y d listed.1)

  -- the list's roles are still to be fetched, or all were
  abbrev LeftCarries : WorkDoc → Type 0
  LeftCarries w = Carries w.nodes (names_of w.index) × TasksListed w.outer × FetchedListed w.fetched

  by_look-carries : (w : WorkDoc) (k : Look) → LeftCarries w → kept.LookListed metas k → ProgressCarries (by_look metas w k)
  by_look-carries w through c k = settle-carries (record { node = last_number w.nodes; at = 0; fetched = w.fetched } ∷ w.outer) w.nodes w.index c.0 (c.2, c.1)
  by_look-carries w (unlisted name) c k = settle-carries w.outer w.nodes (put name None w.index) (carries-more w.nodes name None w.index c.0) c.1
  by_look-carries w (wanted waiting m) c k = (c.0, c.1, c.2, k)

  go_on-carries : (w : WorkDoc) → LeftCarries w → ProgressCarries (go_on metas w)
  go_on-carries w c = by_look-carries w (look metas (names_of w.index) w.waiting) c (kept.look-listed metas (names_of w.index) w.waiting)

  pub begun-carries : (top : HeldDoc) → ProgressCarries (begun metas top)
  begun-carries top = go_on-carries (first_work top) (record { names = []; as_many = refl; once = (tt, tt); listed = tt }, tt, tt)

  kept-carries : (w : WorkDoc) (waiting : List Entry) (h : HeldDoc) → LeftCarries w → kept.FirstListed metas waiting → ProgressCarries (go_on metas (with_taken w waiting h))
  kept-carries w [] h c k = go_on-carries w c
  kept-carries w (e ∷ rest) h c k = go_on-carries (with_taken w (e ∷ rest) h) (c.0, c.1, inserted-listed e.name h w.fetched k c.2)

  pub taken-carries : (w : WorkDoc) (h : HeldDoc) → WorkCarries w → ProgressCarries (taken metas w h)
  taken-carries w h c = kept-carries w w.waiting h (c.0, c.1, c.2) c.3

  -- so there are at most as many as the snapshot lists names
  pub placed-few : (w : WorkDoc) → WorkCarries w → last_number w.nodes ≤ length metas
  placed-few w c = omega (arith, c.0.as_many, kept.few (codes ".json") c.0.names metas c.0.once.0 c.0.listed)
