-- What numbered documents stand for, by levels: each list whose roles get their documents is a level, and the documents after it that have
-- their place hang on its roles that had their turn. So the laws of the levels hold of the numbers.
use Rattle.std.specs.Bool.{⊤}
use Rattle.std.specs.Prelude.{◌==◌, ◌&&◌, ◌||◌, cond}
use Rattle.std.specs.Str.{bytes_eq}
use Rattle.std.proofs.Common.{◌≡◌, ◌≤◌, ◌+◌, ℕ, suc, List, [], ◌∷◌, ◌++◌, length, drop, Bool, true, false, if◌then◌else◌, Option, Some, None, is_some, refl, ap, sym, ◌∙◌, subst, append_assoc, append-nil, arith}
use Rattle.std.proofs.lemmas.List.{map-append, length-append, length-map}
use Rattle.std.proofs.Math.Seq.{drop-append_seam}
use Rattle.tough_roles.specs.Signature.{SignedDoc}
use Rattle.tough_schema.specs.Fresh.{carriers, carriers_below}
use Rattle.tough_schema.specs.Search.{Names, add}
use Rattle.tough_schema.specs.Tree.{Entry}
use Rattle.tough_schema.specs.Update.{listed_roles}
use Rattle.tough_schema.specs.Whole.{TreeDoc, tree, Branches, no_branches, unloaded, loaded, branches_from, entries_in, HeldDoc, RoleTree}
use Rattle.tough_update.specs.delegations.Numbered.{NodeDoc, Nodes, targets, also, last_number, last_document, roles_at, Hanging, nothing_hangs, hang, tree_with, tree_of}
use Rattle.tough_trust.specs.delegations.Dressed.{dressed}
use Rattle.tough_update.specs.delegations.Growing as numbers
use Rattle.tough_update.specs.delegations.Growing.{Metas, Look, through, unlisted, wanted, look, Fetched, fetched_for, fetched_after, offer_for, TaskDoc, WorkDoc, Progress}
use Rattle.tough_trust.specs.delegations.Indexed.{Index, put, names_of}
use Rattle.tough_update.specs.growth.Once.{IsBare, AreBare, runs}
use Rattle.tough_update.specs.growth.Under.{Relation, AllTaken}
use Rattle.tough_update.specs.growth.Tallies.{tally}
use Rattle.tough_update.proofs.growth.Levels as levels
use Rattle.tough_update.proofs.growth.Levels.{with_fetched, refilled, with_roles, OpenDoc}
use Rattle.tough_update.proofs.growth.Once.{BareAt, BareFetched, lookup-bare, removed-bare, inserted-bare}
use Rattle.tough_update.proofs.growth.Tallied.{size, size_below, roles-size, entries-size}
use Rattle.tough_trust.proofs.lemmas.Dressing.{dressed-none}
use Rattle.tough_update.proofs.growth.Trees.{roles_in, same-number, below-number, node_at, Free, none-free, hang-free, hang_all, all-number, all-last-none, all-last-some, dressed-all, tree-only}

-- ---- the roles of the documents

last-roles : (ns : Nodes) → roles_at (last_number ns) ns ≡ listed_roles (last_document ns).below
last-roles (targets h) = refl
last-roles (also ns n) = ap (λ b. if b then listed_roles n.document.below else roles_at (suc (last_number ns)) ns) (same-number (suc (last_number ns)))

earlier-roles : (ns : Nodes) (n : NodeDoc) (q : ℕ) → q ≤ last_number ns → roles_at q (also ns n) ≡ roles_at q ns
earlier-roles ns n q le = ap (λ b. if b then listed_roles n.document.below else roles_at q ns) (below-number q (suc (last_number ns)) (omega (arith, le)))

-- ---- what hangs on a document

-- how many roles the documents of these roles list
abbrev pub hung_size : List RoleTree → ℕ
hung_size [] = 0
hung_size ((e, None) ∷ rs) = hung_size rs
hung_size ((e, Some h) ∷ rs) = size_below h.below + hung_size rs

-- The documents of `ns` after the last one of `base` hang on that one's roles that had their turn, and so these have their documents.
pub record Holds (ns base : Nodes) (done : List RoleTree) : Type 0 where
  pub reach : last_number base ≤ last_number ns
  pub same : (q : ℕ) → q ≤ last_number base → roles_at q ns ≡ roles_at q base
  pub hangs : (below : Hanging) → Free (last_number base) below → tree_with ns below ≡ tree_with base (hang_all (last_number base) 0 done below)
  pub counts : tally base + hung_size done ≤ tally ns

abbrev pub IsUnhung : List RoleTree → Type 0
IsUnhung [] = ⊤
IsUnhung ((e, None) ∷ rs) = IsUnhung rs
IsUnhung ((e, Some h) ∷ rs) = ⊥

unhung-all : (p k : ℕ) (rs : List RoleTree) (below : Hanging) → IsUnhung rs → hang_all p k rs below ≡ below
unhung-all p k [] below u = refl
unhung-all p k ((e, None) ∷ rs) below u = unhung-all p (suc k) rs below u
unhung-all p k ((e, Some h) ∷ rs) below u = absurd u

unhung-size : (rs : List RoleTree) → IsUnhung rs → hung_size rs ≡ 0
unhung-size [] u = refl
unhung-size ((e, None) ∷ rs) u = unhung-size rs u
unhung-size ((e, Some h) ∷ rs) u = absurd u

-- the last document, as long as none of its roles has a document
pub holds-itself : (ns : Nodes) (rs : List RoleTree) → IsUnhung rs → Holds ns ns rs
holds-itself ns rs u = record {
  reach = omega arith;
  same = λ q le. refl;
  hangs = λ below free. ap (tree_with ns) (sym (unhung-all (last_number ns) 0 rs below u));
  counts = omega (arith, unhung-size rs u);
}

size-last-none : (rs : List RoleTree) (e : Entry) → hung_size (rs ++ (e, None) ∷ []) ≡ hung_size rs
size-last-none [] e = refl
size-last-none ((x, None) ∷ rs) e = size-last-none rs e
size-last-none ((x, Some h) ∷ rs) e = ap (λ n. size_below h.below + n) (size-last-none rs e)

size-last-some : (rs : List RoleTree) (e : Entry) (h : HeldDoc) → hung_size (rs ++ (e, Some h) ∷ []) ≡ size_below h.below + hung_size rs
size-last-some [] e h = refl
size-last-some ((x, None) ∷ rs) e h = size-last-some rs e h
size-last-some ((x, Some d) ∷ rs) e h = omega (arith, size-last-some rs e h)

-- a role that gets no document
pub holds-none : (ns base : Nodes) (done : List RoleTree) (e : Entry) → Holds ns base done → Holds ns base (done ++ (e, None) ∷ [])
holds-none ns base done e h = record {
  reach = h.reach;
  same = h.same;
  hangs = λ below free. h.hangs below free ∙ ap (tree_with base) (sym (all-last-none (last_number base) 0 done e below));
  counts = omega (arith, h.counts, size-last-none done e);
}

bare-size-in : (bs : Branches) → carriers bs ≡ [] → size bs ≡ length (entries_in bs)
bare-size-in no_branches b = refl
bare-size-in (unloaded e bs) b = ap suc (bare-size-in bs b)
bare-size-in (loaded e name signatures t bs) b = absurd (cc b)

bare-size : (t : TreeDoc) → carriers_below t ≡ [] → size_below t ≡ length (listed_roles t)
bare-size (tree o bs) b = bare-size-in bs b

-- a role that gets a document on whose roles nothing hangs
pub holds-some : (ns base : Nodes) (done : List RoleTree) (e : Entry) (k : ℕ) (h : HeldDoc) → k ≡ length done → IsBare h → Holds ns base done
    → Holds (also ns (node_at (last_number base) k h)) base (done ++ (e, Some h) ∷ [])
holds-some ns base done e k h is bare x =
    let p = last_number base in
    let n = node_at p k h in
    record {
      reach = omega (arith, x.reach);
      same = λ q le. earlier-roles ns n q (omega (arith, le, x.reach)) ∙ x.same q le;
      hangs = λ below free.
          ap (λ d. tree_with ns (hang n d below)) (dressed-none (below (suc (last_number ns))) h (λ j. free (suc (last_number ns)) j (omega (arith, x.reach))))
          ∙ x.hangs (hang n h below) (hang-free p n h below (omega arith) free)
          ∙ ap (tree_with base) (sym (all-last-some p 0 k done e h below (omega (arith, is))));
      counts = omega (arith, x.counts, size-last-some done e h, bare-size h.below bare);
    }

-- ---- a document that is complete

pub tally-length : (rs : List RoleTree) → levels.tally_roles rs ≡ length rs + hung_size rs
tally-length [] = refl
tally-length ((e, None) ∷ rs) = omega (arith, tally-length rs)
tally-length ((e, Some h) ∷ rs) = omega (arith, tally-length rs, entries-size h.below)

chosen-size : (b : Bool) (rs : List RoleTree) (bs xs : Branches) → size bs ≤ length rs → size (if b then branches_from rs else (if b then xs else bs)) ≤ length rs + hung_size rs
chosen-size true rs bs xs le = omega (arith, roles-size rs, tally-length rs)
chosen-size false rs bs xs le = omega (arith, le)

closed-tree : (rs : List RoleTree) (t : TreeDoc) → carriers_below t ≡ [] → length rs ≡ length (listed_roles t) → size_below (refilled rs (refilled [] t)) ≤ length (listed_roles t) + hung_size rs
closed-tree rs (tree o bs) bare is =
    let le : size bs ≤ length rs = omega (arith, bare-size-in bs bare, is) in
    omega (arith, chosen-size (is_some o.keys) rs bs (branches_from []) le, is)

closed-size : (rs : List RoleTree) (h : HeldDoc) → IsBare h → roles_in rs ≡ listed_roles h.below → size_below (with_roles rs (with_roles [] h)).below ≤ length (listed_roles h.below) + hung_size rs
closed-size rs h bare is = closed-tree rs h.below bare (sym (length-map rs (λ r. r.0)) ∙ ap (λ es. length es) is)

-- its roles had their turn, and so it is complete
pub record Closed (ns base : Nodes) (whole : HeldDoc) : Type 0 where
  pub done : List RoleTree
  pub holds : Holds ns base done
  pub all : roles_in done ≡ listed_roles (last_document base).below
  pub is : whole ≡ with_roles done (with_roles [] (last_document base))

-- it is what its role has then
pub holds-closed : (ns xs base : Nodes) (n : NodeDoc) (done : List RoleTree) (e : Entry) (whole : HeldDoc) → n.parent ≡ last_number base → n.at ≡ length done → IsBare n.document → Holds xs base done
    → Closed ns (also xs n) whole → Holds ns base (done ++ (e, Some whole) ∷ [])
holds-closed ns xs base n done e whole parent place bare x c =
    let p = last_number base in
    let q = suc (last_number xs) in
    let inside = c.done in
    let place_node : n ≡ node_at p n.at n.document = ap (λ m. node_at m n.at n.document) parent in
    record {
      reach = omega (arith, x.reach, c.holds.reach);
      same = λ m le. c.holds.same m (omega (arith, le, x.reach)) ∙ earlier-roles xs n m (omega (arith, le, x.reach)) ∙ x.same m le;
      hangs = λ below free.
          let more = hang_all q 0 inside below in
          let off : (j : ℕ) → below q j ≡ None = λ j. free q j (omega (arith, x.reach)) in
          let filled : dressed (more q) n.document ≡ whole = dressed-all q inside n.document below off bare c.all ∙ sym c.is in
          c.holds.hangs below (λ m j lt. free m j (omega (arith, lt, x.reach)))
          ∙ ap (λ d. tree_with xs (hang n d more)) filled
          ∙ tree-only xs (hang n whole more) (hang n whole below)
          (λ m j le. ap (λ o. if (m == n.parent) && (j == n.at) then Some whole else o) (all-number q 0 inside below m j (below-number m q (omega (arith, le)))))
          ∙ ap (λ m. tree_with xs (hang (node_at m n.at n.document) whole below)) parent
          ∙ x.hangs (hang (node_at p n.at n.document) whole below) (hang-free p (node_at p n.at n.document) whole below (omega arith) free)
          ∙ ap (tree_with base) (sym (all-last-some p 0 n.at done e whole below (omega (arith, place))));
      counts =
          let whole-size : size_below whole.below ≡ size_below (with_roles inside (with_roles [] n.document)).below = ap (λ (d : HeldDoc). size_below d.below) c.is in
          omega (arith, x.counts, c.holds.counts, size-last-some done e whole, whole-size, closed-size inside n.document bare c.all);
    }

-- a document whose list isn't given to its roles is complete as it is
abbrev unhung : List Entry → List RoleTree
unhung [] = []
unhung (e ∷ es) = (e, None) ∷ unhung es

unhung-is : (es : List Entry) → IsUnhung (unhung es)
unhung-is [] = tt
unhung-is (e ∷ es) = unhung-is es

unhung-roles : (es : List Entry) → roles_in (unhung es) ≡ es
unhung-roles [] = refl
unhung-roles (e ∷ es) = ap (λ l. e ∷ l) (unhung-roles es)

unhung-branches : (bs : Branches) → carriers bs ≡ [] → branches_from (unhung (entries_in bs)) ≡ bs
unhung-branches no_branches b = refl
unhung-branches (unloaded e bs) b = ap (unloaded e) (unhung-branches bs b)
unhung-branches (loaded e name signatures t bs) b = absurd (cc b)

chosen-again : (b : Bool) (xs ys bs : Branches) → xs ≡ bs → (if b then xs else (if b then ys else bs)) ≡ bs
chosen-again true xs ys bs is = is
chosen-again false xs ys bs is = refl

refilled-again : (t : TreeDoc) → carriers_below t ≡ [] → refilled (unhung (listed_roles t)) (refilled [] t) ≡ t
refilled-again (tree o bs) bare = ap (tree o) (chosen-again (is_some o.keys) (branches_from (unhung (entries_in bs))) (branches_from []) bs (unhung-branches bs bare))

pub closed-itself : (ns : Nodes) → IsBare (last_document ns) → Closed ns ns (last_document ns)
closed-itself ns bare =
    let h = last_document ns in
    let es = listed_roles h.below in
    record {
      done = unhung es;
      holds = holds-itself ns (unhung es) (unhung-is es);
      all = unhung-roles es;
      is = sym (ap (λ t. let x : HeldDoc = record h { below = t } in x) (refilled-again h.below bare));
    }

-- ---- the lists that wait for others

-- the last document is that of a role of an earlier one, at whose list this task and this level are
pub record Step (xs : Nodes) (n : NodeDoc) (t : TaskDoc) (o : OpenDoc) (base : Nodes) : Type 0 where
  pub holds : Holds xs base o.done
  pub parent : n.parent ≡ last_number base
  pub place : n.at ≡ length o.done
  pub node : t.node ≡ last_number base
  pub next : t.at ≡ suc (length o.done)
  pub document : o.document ≡ with_roles [] (last_document base)
  pub roles : listed_roles (last_document base).below ≡ roles_in o.done ++ o.role ∷ drop t.at (listed_roles (last_document base).below)
  pub left : o.left ≡ with_fetched t.fetched (drop t.at (listed_roles (last_document base).below))
  pub fetched : BareFetched t.fetched

abbrev pub StepOf : Nodes → TaskDoc → OpenDoc → Nodes → Type 0
StepOf (targets h) t o base = ⊥
StepOf (also xs n) t o base = Step xs n t o base

abbrev pub IsTop : Nodes → Type 0
IsTop (targets h) = ⊤
IsTop (also xs n) = ⊥

abbrev pub Stands : Nodes → List TaskDoc → List OpenDoc → Type 0
Stands ns [] [] = IsBare (last_document ns) × IsTop ns
Stands ns [] (o ∷ os) = ⊥
Stands ns (t ∷ ts) [] = ⊥
Stands ns (t ∷ ts) (o ∷ os) = IsBare (last_document ns) × ((base : Nodes) × StepOf ns t o base × Stands base ts os)

pub stands-bare : (ns : Nodes) (ts : List TaskDoc) (os : List OpenDoc) → Stands ns ts os → IsBare (last_document ns)
stands-bare ns [] [] s = s.0
stands-bare ns [] (o ∷ os) s = absurd s
stands-bare ns (t ∷ ts) [] s = absurd s
stands-bare ns (t ∷ ts) (o ∷ os) s = s.0

-- ---- the names that had their turn

put-some : (b : Bool) (number : Option ℕ) (o : Option (Option ℕ)) → is_some (cond b (Some number) o) ≡ (b || is_some o)
put-some true number o = refl
put-some false number o = refl

-- with its number or with none, a name is one of those that had their turn
pub names-put : (name : List ℕ) (number : Option ℕ) (x : Index) → names_of (put name number x) ≡ add name (names_of x)
names-put name number x = λ i q. put-some (bytes_eq name q) number (x q) i

-- ---- what a turn comes to, by numbers and by levels

-- the level of a document whose list is being fetched
abbrev pub level_of : WorkDoc → List OpenDoc → levels.WorkDoc
level_of w os = record { outer = os; loaded = names_of w.index; here = last_document w.nodes; fetched = w.fetched; waiting = w.waiting }

abbrev pub Alike : Progress → levels.Progress → Type 0
Alike (numbers.wants w m) q = (os : List OpenDoc) × (q ≡ levels.wants (level_of w os) m) × Stands w.nodes w.outer os × BareFetched w.fetched
Alike (numbers.grown t) q = q ≡ levels.grown t

-- the turns of the last document's list of `base`
abbrev TurnsAlike : Nodes → numbers.Turns → levels.Turns → Type 0
TurnsAlike base (numbers.all_past ns x) q = (whole : HeldDoc) × (q ≡ levels.all_past whole (names_of x)) × Closed ns base whole
TurnsAlike base (numbers.stopped_at ns t waiting m x) q = (o : OpenDoc) × (q ≡ levels.stopped_at o (last_document ns) waiting m (names_of x)) × IsBare (last_document ns) × StepOf ns t o base

pub fetched-length : (es : List Entry) (f : Fetched) → length (with_fetched f es) ≡ length es
fetched-length [] f = refl
fetched-length (e ∷ es) f = ap suc (fetched-length es (fetched_after e f))

left-after : (all : List Entry) (done : List RoleTree) (e : Entry) (rest : List Entry) (k : ℕ) → k ≡ length done → all ≡ roles_in done ++ e ∷ rest → drop (suc k) all ≡ rest
left-after all done e rest k is roles =
    let front = roles_in done ++ e ∷ [] in
    let size : suc k ≡ length front = omega (arith, is, length-append (roles_in done) (e ∷ []), length-map done (λ (r : RoleTree). r.0)) in
    ap (drop (suc k)) (roles ∙ sym (append_assoc (roles_in done) (e ∷ []) rest)) ∙ ap (λ m. drop m (front ++ rest)) size ∙ drop-append_seam front rest

more-roles : (all : List Entry) (done : List RoleTree) (r : RoleTree) (e : Entry) (rest : List Entry) → r.0 ≡ e → all ≡ roles_in done ++ e ∷ rest → all ≡ roles_in (done ++ r ∷ []) ++ rest
more-roles all done r e rest named roles =
    roles ∙ sym (append_assoc (roles_in done) (e ∷ []) rest) ∙ ap (λ x. (roles_in done ++ x ∷ []) ++ rest) (sym named)
    ∙ ap (λ x. x ++ rest) (sym (map-append (λ (r : RoleTree). r.0) done (r ∷ [])))

module _ (metas : Metas) (base : Nodes) (bare : IsBare (last_document base)) where
  abbrev d : HeldDoc
  d = with_roles [] (last_document base)

  abbrev p : ℕ
  p = last_number base

  abbrev listed_here : List Entry
  listed_here = listed_roles (last_document base).below

  -- a document enters
  turn_by_look-alike : (ns : Nodes) (done : List RoleTree) (k : ℕ) (e : Entry) (h : HeldDoc) (rest : List Entry) (f : Fetched) (x : Index) (seen : Look) (next : Nodes → Index → numbers.Turns) (nexts : RoleTree → Names → levels.Turns)
      → k ≡ length done → IsBare h → BareFetched f → listed_here ≡ roles_in done ++ e ∷ rest → Holds ns base done
      → ((ms : Nodes) (r : RoleTree) (y : Index) → r.0 ≡ e → Holds ms base (done ++ r ∷ []) → TurnsAlike base (next ms y) (nexts r (names_of y)))
      → TurnsAlike base (numbers.by_turn (record { node = p; at = suc k; fetched = f }) (numbers.turn_by_look (also ns (node_at p k h)) x seen) next)
      (levels.by_turn d done (with_fetched f rest) (levels.turn_by_look e h (names_of x) seen) nexts)
  turn_by_look-alike ns done k e h rest f x through next nexts is bh bf roles holds go =
      go (also ns (node_at p k h)) (e, Some h) x refl (holds-some ns base done e k h is bh holds)
  turn_by_look-alike ns done k e h rest f x (unlisted name) next nexts is bh bf roles holds go =
      let ms = also ns (node_at p k h) in
      let y = put name None x in
      subst (λ l. TurnsAlike base (next ms y) (nexts (e, Some h) l)) (names-put name None x) (go ms (e, Some h) y refl (holds-some ns base done e k h is bh holds))
  turn_by_look-alike ns done k e h rest f x (wanted waiting m) next nexts is bh bf roles holds go =
      let left : drop (suc k) listed_here ≡ rest = left-after listed_here done e rest k is roles in (
        record { document = d; done = done; role = e; left = with_fetched f rest },
        refl,
        bh,
        record {
          holds = holds;
          parent = refl;
          place = is;
          node = refl;
          next = ap suc is;
          document = refl;
          roles = roles ∙ ap (λ es. roles_in done ++ e ∷ es) (sym left);
          left = ap (with_fetched f) (sym left);
          fetched = bf;
        },
      )

  by-name : (b : Bool) (ns : Nodes) (done : List RoleTree) (k : ℕ) (e : Entry) (h : HeldDoc) (rest : List Entry) (f : Fetched) (x : Index) (next : Nodes → Index → numbers.Turns) (nexts : RoleTree → Names → levels.Turns)
      → k ≡ length done → IsBare h → BareFetched f → listed_here ≡ roles_in done ++ e ∷ rest → Holds ns base done
      → ((ms : Nodes) (r : RoleTree) (y : Index) → r.0 ≡ e → Holds ms base (done ++ r ∷ []) → TurnsAlike base (next ms y) (nexts r (names_of y)))
      → TurnsAlike base (numbers.by_turn (record { node = p; at = suc k; fetched = f }) (numbers.turn metas x ns e (if b then None else Some (node_at p k h))) next)
      (levels.by_turn d done (with_fetched f rest)
      (if b then levels.past (e, None) (names_of x) else levels.turn_by_look e h (add e.name (names_of x)) (look metas (add e.name (names_of x)) (listed_roles h.below))) nexts)
  by-name true ns done k e h rest f x next nexts is bh bf roles holds go = go ns (e, None) x refl (holds-none ns base done e holds)
  by-name false ns done k e h rest f x next nexts is bh bf roles holds go =
      let number : Option ℕ = Some (suc (last_number ns)) in
      let y = put e.name number x in
      let turned = numbers.by_turn (record { node = p; at = suc k; fetched = f }) (numbers.turn metas x ns e (Some (node_at p k h))) next in
      subst (λ l. TurnsAlike base turned (levels.by_turn d done (with_fetched f rest) (levels.turn_by_look e h l (look metas l (listed_roles h.below))) nexts)) (names-put e.name number x)
      (turn_by_look-alike ns done k e h rest f y (look metas (names_of y) (listed_roles h.below)) next nexts is bh bf roles holds go)

  by-offer : (o : Option HeldDoc) (ns : Nodes) (done : List RoleTree) (k : ℕ) (e : Entry) (rest : List Entry) (f : Fetched) (x : Index) (next : Nodes → Index → numbers.Turns) (nexts : RoleTree → Names → levels.Turns)
      → k ≡ length done → BareAt (e, o) → BareFetched f → listed_here ≡ roles_in done ++ e ∷ rest → Holds ns base done
      → ((ms : Nodes) (r : RoleTree) (y : Index) → r.0 ≡ e → Holds ms base (done ++ r ∷ []) → TurnsAlike base (next ms y) (nexts r (names_of y)))
      → TurnsAlike base (numbers.by_turn (record { node = p; at = suc k; fetched = f }) (numbers.turn metas x ns e (offer_for (names_of x) p k e o)) next)
      (levels.by_turn d done (with_fetched f rest) (levels.turn metas (names_of x) (e, o)) nexts)
  by-offer None ns done k e rest f x next nexts is bo bf roles holds go = go ns (e, None) x refl (holds-none ns base done e holds)
  by-offer (Some h) ns done k e rest f x next nexts is bo bf roles holds go = by-name (names_of x e.name) ns done k e h rest f x next nexts is bo bf roles holds go

  pub turns-alike : (es : List Entry) (ns : Nodes) (done : List RoleTree) (k : ℕ) (f : Fetched) (x : Index) → k ≡ length done → BareFetched f → listed_here ≡ roles_in done ++ es → Holds ns base done
      → TurnsAlike base (numbers.turns metas x ns p k f es) (levels.turns metas (names_of x) d done (with_fetched f es))
  turns-alike [] ns done k f x is bf roles holds = (with_roles done d, refl, record { done = done; holds = holds; all = sym (roles ∙ append-nil (roles_in done)); is = refl })
  turns-alike (e ∷ es) ns done k f x is bf roles holds =
      let more = fetched_after e f in
      by-offer (fetched_for e f) ns done k e es more x (λ ms y. numbers.turns metas y ms p (suc k) more es) (λ r j. levels.turns metas j d (done ++ r ∷ []) (with_fetched more es))
      is (lookup-bare e e.name f bf) (removed-bare e.name f bf) roles holds
      (λ ms r y named h. turns-alike es ms (done ++ r ∷ []) (suc k) more y (omega (arith, is, length-append done (r ∷ []))) (removed-bare e.name f bf) (more-roles listed_here done r e es named roles) h)

-- ---- outwards

by_turns-alike : (base : Nodes) (ts : List TaskDoc) (os : List OpenDoc) (x : numbers.Turns) (y : levels.Turns) (next : Nodes → Index → Progress) (nexts : HeldDoc → Names → levels.Progress)
    → Stands base ts os → TurnsAlike base x y → ((ns : Nodes) (z : Index) (whole : HeldDoc) → Closed ns base whole → Alike (next ns z) (nexts whole (names_of z)))
    → Alike (numbers.by_turns ts x next) (levels.by_turns os y nexts)
by_turns-alike base ts os (numbers.all_past ns z) y next nexts s a go = subst (λ q. Alike (next ns z) (levels.by_turns os q nexts)) (sym a.1) (go ns z a.0 a.2)
by_turns-alike base ts os (numbers.stopped_at ns t waiting m z) y next nexts s a go =
    let w : WorkDoc = record { nodes = ns; outer = t ∷ ts; index = z; fetched = []; waiting = waiting } in
    subst (λ q. Alike (numbers.wants w m) (levels.by_turns os q nexts)) (sym a.1) (a.0 ∷ os, refl, (a.2, (base, a.3, s)), tt)

whole-tree : (h : HeldDoc) (ns : Nodes) (whole : HeldDoc) → IsBare h → Closed ns (targets h) whole → tree_of ns ≡ whole
whole-tree h ns whole bare c =
    c.holds.hangs nothing_hangs (none-free 0) ∙ dressed-all 0 c.done h nothing_hangs (λ j. refl) bare c.all ∙ sym c.is

pub settle-alike : (metas : Metas) (ts : List TaskDoc) (os : List OpenDoc) (base ns : Nodes) (whole : HeldDoc) (x : Index) → Stands base ts os → Closed ns base whole
    → Alike (numbers.settle metas x ns ts) (levels.settle metas (names_of x) whole os)
settle-alike metas [] [] (targets h) ns whole x s c =
    ap (λ (h : HeldDoc). let t : SignedDoc TreeDoc = record { role = h.below; signatures = h.signatures } in levels.grown t) (sym (whole-tree h ns whole s.0 c))
settle-alike metas [] [] (also xs n) ns whole x s c = absurd s.1
settle-alike metas [] (o ∷ os) base ns whole x s c = absurd s
settle-alike metas (t ∷ ts) [] base ns whole x s c = absurd s
settle-alike metas (t ∷ ts) (o ∷ os) (targets h) ns whole x s c = absurd s.1.1
settle-alike metas (t ∷ ts) (o ∷ os) (also xs n) ns whole x s c =
    let base = s.1.0 in
    let step : Step xs n t o base = s.1.1 in
    let rest : Stands base ts os = s.1.2 in
    let all = listed_roles (last_document base).below in
    let es = drop t.at all in
    let r : RoleTree = (o.role, Some whole) in
    let done = o.done ++ r ∷ [] in
    let holds : Holds ns base done = holds-closed ns xs base n o.done o.role whole step.parent step.place s.0 step.holds c in
    let core : TurnsAlike base (numbers.turns metas x ns (last_number base) t.at t.fetched es) (levels.turns metas (names_of x) (with_roles [] (last_document base)) done (with_fetched t.fetched es)) =
    turns-alike metas base (stands-bare base ts os rest) es ns done t.at t.fetched x (omega (arith, step.next, length-append o.done (r ∷ []))) step.fetched (more-roles all o.done r o.role es refl step.roles) holds in
    let left : numbers.resumed metas x ns t ≡ numbers.turns metas x ns (last_number base) t.at t.fetched es =
    ap (λ m. numbers.turns metas x ns m t.at t.fetched (drop t.at (roles_at m ns))) step.node
    ∙ ap (λ rs. numbers.turns metas x ns (last_number base) t.at t.fetched (drop t.at rs)) (holds.same (last_number base) (omega arith) ∙ last-roles base) in
    let right : levels.taken_up metas (names_of x) whole o ≡ levels.turns metas (names_of x) (with_roles [] (last_document base)) done (with_fetched t.fetched es) =
    ap (λ y. levels.turns metas (names_of x) y done o.left) step.document ∙ ap (levels.turns metas (names_of x) (with_roles [] (last_document base)) done) step.left in
    let both : TurnsAlike base (numbers.resumed metas x ns t) (levels.taken_up metas (names_of x) whole o) =
    subst (λ y. TurnsAlike base y (levels.taken_up metas (names_of x) whole o)) (sym left)
    (subst (TurnsAlike base (numbers.turns metas x ns (last_number base) t.at t.fetched es)) (sym right) core) in
    by_turns-alike base ts os (numbers.resumed metas x ns t) (levels.taken_up metas (names_of x) whole o) (λ ms y. numbers.settle metas y ms ts) (λ h j. levels.settle metas j h os) rest both
    (λ ms y h z. settle-alike metas ts os base ms h y rest z)

-- ---- the work

module _ (metas : Metas) where
  by_look-alike : (w : WorkDoc) (os : List OpenDoc) (x : Look) → Stands w.nodes w.outer os → BareFetched w.fetched → Alike (numbers.by_look metas w x) (levels.by_look metas (level_of w os) x)
  by_look-alike w os through s bf =
      let ns = w.nodes in
      let h = last_document ns in
      let es = listed_roles h.below in
      let first : TaskDoc = record { node = last_number ns; at = 0; fetched = w.fetched } in
      let given : levels.Turns = levels.turns metas (names_of w.index) (with_roles [] h) [] (with_fetched w.fetched es) in
      let core : TurnsAlike ns (numbers.turns metas w.index ns (last_number ns) 0 w.fetched es) given =
      turns-alike metas ns (stands-bare ns w.outer os s) es ns [] 0 w.fetched w.index refl bf refl (holds-itself ns [] tt) in
      let left : numbers.resumed metas w.index ns first ≡ numbers.turns metas w.index ns (last_number ns) 0 w.fetched es =
      ap (numbers.turns metas w.index ns (last_number ns) 0 w.fetched) (last-roles ns) in
      by_turns-alike ns w.outer os (numbers.resumed metas w.index ns first) given (λ ms j. numbers.settle metas j ms w.outer) (λ x j. levels.settle metas j x os) s
      (subst (λ x. TurnsAlike ns x given) (sym left) core) (λ ms j x z. settle-alike metas w.outer os ns ms x j s z)
  by_look-alike w os (unlisted name) s bf =
      let y = put name None w.index in
      subst (λ l. Alike (numbers.settle metas y w.nodes w.outer) (levels.settle metas l (last_document w.nodes) os)) (names-put name None w.index)
      (settle-alike metas w.outer os w.nodes w.nodes (last_document w.nodes) y s (closed-itself w.nodes (stands-bare w.nodes w.outer os s)))
  by_look-alike w os (wanted waiting m) s bf = (os, refl, s, bf)

  pub go_on-alike : (w : WorkDoc) (os : List OpenDoc) → Stands w.nodes w.outer os → BareFetched w.fetched → Alike (numbers.go_on metas w) (levels.go_on metas (level_of w os))
  go_on-alike w os s bf = by_look-alike w os (look metas (names_of w.index) w.waiting) s bf

  kept-alike : (w : WorkDoc) (os : List OpenDoc) (waiting : List Entry) (h : HeldDoc) → IsBare h → Stands w.nodes w.outer os → BareFetched w.fetched
      → Alike (numbers.go_on metas (numbers.with_taken w waiting h)) (levels.go_on metas (levels.with_taken (level_of w os) waiting h))
  kept-alike w os [] h bare s bf = go_on-alike w os s bf
  kept-alike w os (e ∷ rest) h bare s bf = go_on-alike (numbers.with_taken w (e ∷ rest) h) os s (inserted-bare e.name h w.fetched bare bf)

  pub taken-alike : (w : WorkDoc) (os : List OpenDoc) (h : HeldDoc) → IsBare h → Stands w.nodes w.outer os → BareFetched w.fetched
      → Alike (numbers.taken metas w h) (levels.taken metas (level_of w os) h)
  taken-alike w os h bare s bf = kept-alike w os w.waiting h bare s bf

  pub begun-alike : (top : HeldDoc) → IsBare top → Alike (numbers.begun metas top) (levels.begun metas top)
  begun-alike top bare = go_on-alike (numbers.first_work top) [] (bare, tt) tt

  pub runs-alike : (hs : List HeldDoc) (x : Progress) (y : levels.Progress) → AreBare hs → Alike x y → Alike (runs metas x hs) (levels.runs metas y hs)
  runs-alike [] x y bare a = a
  runs-alike (h ∷ hs) (numbers.wants w m) y bare a =
      subst (λ q. Alike (runs metas (numbers.taken metas w h) hs) (levels.runs metas q (h ∷ hs))) (sym a.1)
      (runs-alike hs (numbers.taken metas w h) (levels.taken metas (level_of w a.0) h) bare.1 (taken-alike w a.0 h bare.0 a.2 a.3))
  runs-alike (h ∷ hs) (numbers.grown t) y bare a = ap (λ q. levels.runs metas q (h ∷ hs)) a

  pub all-alike : (U : Relation) (hs : List HeldDoc) (x : Progress) (y : levels.Progress) → AllTaken U metas x hs → Alike x y → Alike (runs metas x hs) (levels.runs metas y hs) × levels.AllTaken U metas y hs
  all-alike U [] x y all a = (a, tt)
  all-alike U (h ∷ hs) (numbers.wants w m) y all a =
      let v = level_of w a.0 in
      let rest = all-alike U hs (numbers.taken metas w h) (levels.taken metas v h) all.2 (taken-alike w a.0 h all.0 a.2 a.3) in
      subst (λ q. Alike (runs metas (numbers.taken metas w h) hs) (levels.runs metas q (h ∷ hs)) × levels.AllTaken U metas q (h ∷ hs)) (sym a.1) (rest.0, (all.0, all.1, rest.1))
  all-alike U (h ∷ hs) (numbers.grown t) y all a =
      subst (λ q. (levels.runs metas q (h ∷ hs) ≡ levels.grown t) × levels.AllTaken U metas q (h ∷ hs)) (sym a) (refl, tt)
