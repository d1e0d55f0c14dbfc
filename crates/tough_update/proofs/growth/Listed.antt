-- What is wanted is listed.
use Rattle.std.proofs.Common.{◌≡◌, ℕ, suc, drop, List, [], ◌∷◌, ◌++◌, Bool, true, false, if◌then◌else◌, Option, Some, None, refl, sym, ◌∙◌, subst, append_assoc}
use Rattle.std.specs.Bool.{⊤}
use Rattle.tough_roles.specs.Timestamp.{MetafileDoc}
use Rattle.tough_schema.specs.Tree.{Entry}
use Rattle.tough_schema.specs.Update.{listed_roles}
use Rattle.tough_schema.specs.Search.{Names}
use Rattle.tough_schema.specs.Whole.{HeldDoc}
use Rattle.tough_update.specs.delegations.Numbered.{NodeDoc, Nodes, also, last_number, last_document, roles_at}
use Rattle.tough_update.specs.delegations.Growing.{Metas, Look, through, unlisted, wanted, look, looked, listed_as, offer_for, fetched_for, fetched_after, Fetched, TaskDoc, Turn, past, stopped, turn_by_look, turn, Turns, all_past, stopped_at, by_turn, turns, resumed, WorkDoc, here, Progress, wants, grown, by_turns, settle, by_look, go_on, first_work, begun, with_taken, taken}
use Rattle.tough_trust.specs.delegations.Indexed.{Index, put, names_of}
use Rattle.tough_update.specs.growth.Listed.{IsListed, WantsListed}
use Rattle.tough_update.specs.growth.Once.{runs}

module _ (metas : Metas) where
  -- a list, behind some of its roles
  abbrev Ends : List Entry → List Entry → Type 0
  Ends roles waiting = (before : List Entry) × (roles ≡ before ++ waiting)

  next-ends : (roles : List Entry) (e : Entry) (rest : List Entry) → Ends roles (e ∷ rest) → Ends roles rest
  next-ends roles e rest h = (h.0 ++ e ∷ [], h.1 ∙ sym (append_assoc h.0 (e ∷ []) rest))

  abbrev LookListed : List Entry → Look → Type 0
  LookListed roles through = ⊤
  LookListed roles (unlisted n) = ⊤
  LookListed roles (wanted waiting m) = IsListed metas roles waiting m

  looked-listed : (roles : List Entry) (e : Entry) (rest : List Entry) (o : Option MetafileDoc) → listed_as metas e.name ≡ o → Ends roles (e ∷ rest) → LookListed roles (looked e rest o)
  looked-listed roles e rest None is h = tt
  looked-listed roles e rest (Some m) is h = record { role = e; before = h.0; after = rest; first = refl; among = h.1; listed = is }

  look-on : (roles : List Entry) (b : Bool) (s t : Look) → LookListed roles s → LookListed roles t → LookListed roles (if b then s else t)
  look-on roles true s t x y = x
  look-on roles false s t x y = y

  look-listed : (roles waiting : List Entry) (l : Names) → Ends roles waiting → LookListed roles (look metas l waiting)
  look-listed roles [] l h = tt
  look-listed roles (e ∷ rest) l h =
      look-on roles (l e.name) (look metas l rest) (looked e rest (listed_as metas e.name)) (look-listed roles rest l (next-ends roles e rest h))
      (looked-listed roles e rest (listed_as metas e.name) refl h)

  -- ---- the turns

  abbrev TurnListed : Turn → Type 0
  TurnListed (past ns l) = ⊤
  TurnListed (stopped ns waiting m l) = IsListed metas (listed_roles (last_document ns).below) waiting m

  abbrev TurnsListed : Turns → Type 0
  TurnsListed (all_past ns l) = ⊤
  TurnsListed (stopped_at ns t waiting m l) = IsListed metas (listed_roles (last_document ns).below) waiting m

  turn_by_look-listed : (ns : Nodes) (l : Index) (k : Look) → LookListed (listed_roles (last_document ns).below) k → TurnListed (turn_by_look ns l k)
  turn_by_look-listed ns l through x = tt
  turn_by_look-listed ns l (unlisted n) x = tt
  turn_by_look-listed ns l (wanted waiting m) x = x

  turn-listed : (l : Index) (ns : Nodes) (e : Entry) (o : Option NodeDoc) → TurnListed (turn metas l ns e o)
  turn-listed l ns e None = tt
  turn-listed l ns e (Some n) =
      let all = listed_roles n.document.below in
      let more = put e.name (Some (last_number (also ns n))) l in
      turn_by_look-listed (also ns n) more (look metas (names_of more) all) (look-listed all all (names_of more) ([], refl))

  by_turn-listed : (left : TaskDoc) (t : Turn) (next : Nodes → Index → Turns) → TurnListed t → ((ns : Nodes) (l : Index) → TurnsListed (next ns l)) → TurnsListed (by_turn left t next)
  by_turn-listed left (past ns l) next h k = k ns l
  by_turn-listed left (stopped ns waiting m l) next h k = h

  turns-listed : (ns : Nodes) (p k : ℕ) (f : Fetched) (es : List Entry) (l : Index) → TurnsListed (turns metas l ns p k f es)
  turns-listed ns p k f [] l = tt
  turns-listed ns p k f (e ∷ es) l =
      by_turn-listed (record { node = p; at = suc k; fetched = fetched_after e f }) (turn metas l ns e (offer_for (names_of l) p k e (fetched_for e f)))
      (λ ms j. turns metas j ms p (suc k) (fetched_after e f) es) (turn-listed l ns e (offer_for (names_of l) p k e (fetched_for e f)))
      (λ ms j. turns-listed ms p (suc k) (fetched_after e f) es j)

  -- ---- outwards

  by_turns-listed : (outer : List TaskDoc) (t : Turns) (next : Nodes → Index → Progress) → TurnsListed t → ((ns : Nodes) (l : Index) → WantsListed metas (next ns l)) → WantsListed metas (by_turns outer t next)
  by_turns-listed outer (all_past ns l) next h k = k ns l
  by_turns-listed outer (stopped_at ns t waiting m l) next h k = h

  settle-listed : (outer : List TaskDoc) (ns : Nodes) (l : Index) → WantsListed metas (settle metas l ns outer)
  settle-listed [] ns l = tt
  settle-listed (t ∷ outer) ns l =
      by_turns-listed outer (resumed metas l ns t) (λ ms j. settle metas j ms outer) (turns-listed ns t.node t.at t.fetched (drop t.at (roles_at t.node ns)) l) (λ ms j. settle-listed outer ms j)

  by_look-listed : (w : WorkDoc) (k : Look) → LookListed (listed_roles (here w).below) k → WantsListed metas (by_look metas w k)
  by_look-listed w through h = settle-listed (record { node = last_number w.nodes; at = 0; fetched = w.fetched } ∷ w.outer) w.nodes w.index
  by_look-listed w (unlisted n) h = settle-listed w.outer w.nodes (put n None w.index)
  by_look-listed w (wanted waiting m) h = h

  go_on-listed : (w : WorkDoc) → Ends (listed_roles (here w).below) w.waiting → WantsListed metas (go_on metas w)
  go_on-listed w h = by_look-listed w (look metas (names_of w.index) w.waiting) (look-listed (listed_roles (here w).below) w.waiting (names_of w.index) h)

  with_taken-ends : (w : WorkDoc) (waiting : List Entry) (h : HeldDoc) → waiting ≡ w.waiting → Ends (listed_roles (here w).below) waiting → Ends (listed_roles (here (with_taken w waiting h)).below) (with_taken w waiting h).waiting
  with_taken-ends w [] h is x = subst (Ends (listed_roles (here w).below)) is x
  with_taken-ends w (e ∷ rest) h is x = next-ends (listed_roles (here w).below) e rest x

  begun-listed : (top : HeldDoc) → WantsListed metas (begun metas top)
  begun-listed top = go_on-listed (first_work top) ([], refl)

  runs-listed : (hs : List HeldDoc) (p : Progress) → WantsListed metas p → WantsListed metas (runs metas p hs)
  runs-listed [] p x = x
  runs-listed (h ∷ hs) (wants w m) x =
      runs-listed hs (taken metas w h) (go_on-listed (with_taken w w.waiting h) (with_taken-ends w w.waiting h refl (x.before, x.among)))
  runs-listed (h ∷ hs) (grown t) x = tt

pub wanted-listed : (metas : Metas) (top : HeldDoc) (hs : List HeldDoc) → WantsListed metas (runs metas (begun metas top) hs)
wanted-listed metas top hs = runs-listed metas hs (begun metas top) (begun-listed metas top)
