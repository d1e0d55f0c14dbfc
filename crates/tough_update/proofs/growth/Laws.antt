-- The laws of trees that grow, by what their numbers stand for.
use Rattle.std.specs.Prelude.{IfSome}
use Rattle.std.proofs.Common.{◌≡◌, ◌≤◌, ◌+◌, ℕ, List, [], ◌∷◌, ◌++◌, length, drop, Option, Some, None, nat_cmp, refl, ap, sym, ◌∙◌, subst, arith}
use Rattle.std.proofs.lemmas.List.{length-append, length-map}
use Rattle.std.specs.Cmp.Lexicographic.{slice_cmp}
use Rattle.std.specs.BTreeMap.{insert_entry}
use Rattle.tough_roles.specs.Signature.{SignedDoc}
use Rattle.tough_roles.specs.Timestamp.{MetafileDoc}
use Rattle.tough_schema.specs.Delegations.{DelegationsDoc}
use Rattle.tough_schema.specs.Entries.{entries}
use Rattle.tough_schema.specs.Fresh.{carriers_below}
use Rattle.tough_schema.specs.Search.{Names}
use Rattle.tough_schema.specs.Targets.{TargetsDoc}
use Rattle.tough_schema.specs.Tree.{Entry}
use Rattle.tough_schema.specs.Update.{listed_roles}
use Rattle.tough_schema.specs.Whole.{TreeDoc, HeldDoc, top_doc}
use Rattle.tough_trust.specs.delegations.Bare.{bare, top_page, held_as}
use Rattle.tough_update.specs.growth.Full.{IsFull, fetch_order}
use Rattle.tough_update.specs.delegations.Numbered.{NodeDoc, Nodes, targets, also, last_document}
use Rattle.tough_update.specs.delegations.Growing.{Metas, listed_as, Fetched, TaskDoc, WorkDoc, Progress, wants, grown, first_of, holder_of, go_on, begun, taken}
use Rattle.tough_trust.specs.delegations.Indexed.{Index}
use Rattle.tough_update.specs.growth.Once.{IsBare, AreBare, Distinct, runs}
use Rattle.tough_update.specs.growth.Tallies.{tally, tally_work}
use Rattle.tough_update.specs.growth.Under.{page_of, Relation, Below, AllTaken}
use Rattle.tough_trust.proofs.lemmas.Bare.{bare-none}
use Rattle.tough_update.proofs.growth.Levels as levels
use Rattle.tough_update.proofs.growth.Levels.{OpenDoc}
use Rattle.tough_update.proofs.growth.Once as once
use Rattle.tough_update.proofs.growth.Once.{BareFetched, inserted-bare}
use Rattle.tough_update.proofs.growth.Under as under
use Rattle.tough_update.proofs.growth.Kept as kept
use Rattle.tough_update.proofs.growth.Full as full
use Rattle.tough_update.proofs.growth.Tallied as tallied
use Rattle.tough_update.proofs.growth.Tallied.{IsKeyed}
use Rattle.tough_update.proofs.growth.Trees.{roles_in}
use Rattle.tough_update.proofs.growth.Standing.{hung_size, tally-length, fetched-length, Step, Stands, level_of, Alike, taken-alike, begun-alike, runs-alike, all-alike}

-- ---- no name twice, and what stands under what

pub grows-once : (metas : Metas) (top : HeldDoc) (hs : List HeldDoc) (t : SignedDoc TreeDoc) → IsBare top → AreBare hs → runs metas (begun metas top) hs ≡ grown t → Distinct (carriers_below t.role)
grows-once metas top hs t bare all is =
    let a = runs-alike metas hs (begun metas top) (levels.begun metas top) all (begun-alike metas top bare) in
    once.grows-once metas top hs t bare all (subst (λ x. Alike x (levels.runs metas (levels.begun metas top) hs)) is a)

pub stands-under : (U : Relation) (metas : Metas) (top : HeldDoc) (hs : List HeldDoc) (t : SignedDoc TreeDoc) → IsBare top → AllTaken U metas (begun metas top) hs → runs metas (begun metas top) hs ≡ grown t
    → Below U t.role × (top_page t ≡ page_of top)
stands-under U metas top hs t bare all is =
    let a = all-alike metas U hs (begun metas top) (levels.begun metas top) all (begun-alike metas top bare) in
    under.stands-under U metas top hs t bare a.1 (subst (λ x. Alike x (levels.runs metas (levels.begun metas top) hs)) is a.0)

-- ---- one document more

pub runs-more : (metas : Metas) (hs : List HeldDoc) (p : Progress) (w : WorkDoc) (m : MetafileDoc) (h : HeldDoc) → runs metas p hs ≡ wants w m → runs metas p (hs ++ h ∷ []) ≡ taken metas w h
runs-more metas [] p w m h is = ap (λ q. runs metas q (h ∷ [])) is
runs-more metas (x ∷ hs) (wants v n) w m h is = runs-more metas hs (taken metas v x) w m h is
runs-more metas (x ∷ hs) (grown t) w m h is = cc

pub all-more : (U : Relation) (metas : Metas) (hs : List HeldDoc) (p : Progress) (w : WorkDoc) (m : MetafileDoc) (h : HeldDoc) → runs metas p hs ≡ wants w m → AllTaken U metas p hs
    → IsBare h → IfSome (first_of w.waiting) (λ e. U (holder_of w) e.name (page_of h)) → AllTaken U metas p (hs ++ h ∷ [])
all-more U metas [] p w m h is all b u = subst (λ q. AllTaken U metas q (h ∷ [])) (sym is) (b, u, tt)
all-more U metas (x ∷ hs) (wants v n) w m h is all b u = (all.0, all.1, all-more U metas hs (taken metas v x) w m h is all.2 b u)
all-more U metas (x ∷ hs) (grown t) w m h is all b u = cc

-- ---- what is kept

-- different names that the snapshot lists carry the documents of the tree
abbrev pub WorkKeeps : Metas → WorkDoc → Type 0
WorkKeeps metas w = (os : List OpenDoc) × Stands w.nodes w.outer os × BareFetched w.fetched × kept.WorkKeeps metas (level_of w os)

abbrev pub ProgressKeeps : Metas → Progress → Type 0
ProgressKeeps metas (wants w m) = WorkKeeps metas w
ProgressKeeps metas (grown t) = kept.ProgressKeeps metas (levels.grown t)

keeps-by : (metas : Metas) (p : Progress) (q : levels.Progress) → Alike p q → kept.ProgressKeeps metas q → ProgressKeeps metas p
keeps-by metas (wants w m) q a k = (a.0, a.2, a.3, subst (kept.ProgressKeeps metas) a.1 k)
keeps-by metas (grown t) q a k = subst (kept.ProgressKeeps metas) a k

pub begun-keeps : (metas : Metas) (top : HeldDoc) → IsBare top → ProgressKeeps metas (begun metas top)
begun-keeps metas top bare = keeps-by metas (begun metas top) (levels.begun metas top) (begun-alike metas top bare) (kept.begun-keeps metas top bare)

pub taken-keeps : (metas : Metas) (w : WorkDoc) (h : HeldDoc) → IsBare h → WorkKeeps metas w → ProgressKeeps metas (taken metas w h)
taken-keeps metas w h bare k =
    let v = level_of w k.0 in
    keeps-by metas (taken metas w h) (levels.taken metas v h) (taken-alike metas w k.0 h bare k.1 k.2) (kept.taken-keeps metas v h bare k.3)

-- ---- how many roles are listed

open-size : (xs : Nodes) (n : NodeDoc) (t : TaskDoc) (o : OpenDoc) (base : Nodes) → Step xs n t o base → levels.tally_open o ≡ length (listed_roles (last_document base).below) + hung_size o.done
open-size xs n t o base step =
    let es = drop t.at (listed_roles (last_document base).below) in
    let left : length o.left ≡ length es = ap (λ rs. length rs) step.left ∙ fetched-length es t.fetched in
    let all : length (listed_roles (last_document base).below) ≡ length o.done + length (o.role ∷ es) =
    ap (λ rs. length rs) step.roles ∙ (length-append (roles_in o.done) (o.role ∷ es) ∙ ap (λ k. k + length (o.role ∷ es)) (length-map o.done (λ r. r.0))) in
    omega (arith, left, all, tally-length o.done)

-- the lists that wait for others list no more than all that have their place
opens-size : (ns : Nodes) (ts : List TaskDoc) (os : List OpenDoc) → Stands ns ts os → length (listed_roles (last_document ns).below) + levels.tally_opens os ≤ tally ns
opens-size (targets h) [] [] s = omega arith
opens-size (also xs n) [] [] s = absurd s.1
opens-size ns [] (o ∷ os) s = absurd s
opens-size ns (t ∷ ts) [] s = absurd s
opens-size (targets h) (t ∷ ts) (o ∷ os) s = absurd s.1.1
opens-size (also xs n) (t ∷ ts) (o ∷ os) s =
    let base = s.1.0 in
    let step : Step xs n t o base = s.1.1 in
    let rest = opens-size base ts os s.1.2 in
    let own : levels.tally_open o ≡ length (listed_roles (last_document base).below) + hung_size o.done = open-size xs n t o base step in
    omega (arith, rest, own, step.holds.counts)

-- so many were fetched, and so many more roles wait, or one more
abbrev pub WorkGrows : ℕ → ℕ → WorkDoc → Type 0
WorkGrows n more w =
    (os : List OpenDoc) × Stands w.nodes w.outer os × BareFetched w.fetched × tallied.WorkKeyed (level_of w os) × (1 ≤ length w.waiting)
    × (n + length w.waiting ≤ levels.tally_work (level_of w os) + more)

abbrev pub ProgressGrows : ℕ → Progress → Type 0
ProgressGrows n (wants w m) = WorkGrows n 0 w
ProgressGrows n (grown t) = n ≤ length (entries t.role)

pub grows-listed : (n : ℕ) (w : WorkDoc) → WorkGrows n 0 w → n + 1 ≤ tally_work w
grows-listed n w g = omega (arith, g.4, g.5, opens-size w.nodes w.outer g.0 g.1)

pub grows-more : (n m : ℕ) (w : WorkDoc) → m ≤ n + 1 → WorkGrows n 0 w → WorkGrows m 1 w
grows-more n m w le g =
    let sum : m + length w.waiting ≤ levels.tally_work (level_of w g.0) + 1 = omega (arith, le, g.5) in (g.0, g.1, g.2, g.3, g.4, sum)

grows-by : (n : ℕ) (p : Progress) (q : levels.Progress) → Alike p q → tallied.ProgressGrows n q → ProgressGrows n p
grows-by n (wants w m) q a g =
    let k = subst (tallied.ProgressGrows n) a.1 g in
    let sum : n + length w.waiting ≤ levels.tally_work (level_of w a.0) + 0 = omega (arith, k.0) in
    (a.0, a.2, a.3, k.2, k.1, sum)
grows-by n (grown t) q a g = subst (tallied.ProgressGrows n) a g

pub begun-grows : (metas : Metas) (top : HeldDoc) → IsBare top → IsKeyed top.below → ProgressGrows 0 (begun metas top)
begun-grows metas top bare keyed = grows-by 0 (begun metas top) (levels.begun metas top) (begun-alike metas top bare) (tallied.begun-grows metas top keyed)

-- one more was fetched, and it is given
pub taken-grows : (metas : Metas) (n : ℕ) (w : WorkDoc) (h : HeldDoc) → IsBare h → IsKeyed h.below → WorkGrows n 1 w → ProgressGrows n (taken metas w h)
taken-grows metas n w h bare keyed g =
    let v = level_of w g.0 in
    grows-by n (taken metas w h) (levels.taken metas v h) (taken-alike metas w g.0 h bare g.1 g.2) (tallied.taken-grows metas n v h g.3 keyed g.4 g.5)

-- ---- a whole tree grows

abbrev pub work : Nodes → List TaskDoc → Index → Fetched → List Entry → WorkDoc
work ns outer seen f waiting = record { nodes = ns; outer = outer; index = seen; fetched = f; waiting = waiting }

abbrev holder_in : levels.WorkDoc → Option DelegationsDoc
holder_in v = (top_doc v.here.below).delegations

-- the level and the entry of what is wanted
abbrev wanted-level : levels.Progress → levels.WorkDoc → levels.WorkDoc
wanted-level (levels.wants w m) other = w
wanted-level (levels.grown t) other = other

abbrev wanted-entry : levels.Progress → MetafileDoc → MetafileDoc
wanted-entry (levels.wants w m) other = m
wanted-entry (levels.grown t) other = other

abbrev grown-tree : levels.Progress → SignedDoc TreeDoc → SignedDoc TreeDoc
grown-tree (levels.wants w m) other = other
grown-tree (levels.grown t) other = t

-- `Goes names p q`: from p the documents of these roles lead to q. Each that is wanted may be taken, where U holds of it.
module _ (metas : Metas) (U : Relation) (Goes : List (List ℕ) → Progress → Progress → Type 0)
    (nothing : (p : Progress) → Goes [] p p)
    (chained : (xs ys : List (List ℕ)) (p q r : Progress) → Goes xs p q → Goes ys q r → Goes (xs ++ ys) p r)
    (lists : (g : Option DelegationsDoc) (n : List ℕ) (page : SignedDoc TargetsDoc) → U g n page → (m : MetafileDoc) × (listed_as metas n ≡ Some m))
    (keyed : (n : List ℕ) (page : SignedDoc TargetsDoc) → U None n page → ⊥)
    (takes : (ns : Nodes) (outer : List TaskDoc) (seen : Index) (f : Fetched) (e : Entry) (rest : List Entry) (page : SignedDoc TargetsDoc) (u : U (top_doc (last_document ns).below).delegations e.name page)
    → Goes (e.name ∷ []) (wants (work ns outer seen f (e ∷ rest)) (lists (top_doc (last_document ns).below).delegations e.name page u).0) (go_on metas (work ns outer seen (insert_entry (slice_cmp nat_cmp) f e.name (held_as e.name (bare page))) rest))) where
  -- the same by levels
  abbrev Leads : List (List ℕ) → levels.Progress → levels.Progress → Type 0
  Leads names p q = (x : Progress) → Alike x p → (y : Progress) × Alike y q × Goes names x y

  leads-nowhere : (p : levels.Progress) → Leads [] p p
  leads-nowhere p x a = (x, a, nothing x)

  leads-on : (xs ys : List (List ℕ)) (p q r : levels.Progress) → Leads xs p q → Leads ys q r → Leads (xs ++ ys) p r
  leads-on xs ys p q r f g x a =
      let first = f x a in
      let second = g first.0 first.1 in
      (second.0, second.1, chained xs ys x first.0 second.0 first.2 second.2)

  -- where the first role that waits is this one
  takes-at : (w : WorkDoc) (os : List OpenDoc) (s : Stands w.nodes w.outer os) (bf : BareFetched w.fetched) (e : Entry) (rest : List Entry) (page : SignedDoc TargetsDoc) (u : U (holder_of w) e.name page)
      → (ws : List Entry) → ws ≡ e ∷ rest
      → (y : Progress) × Alike y (levels.go_on metas (levels.with_taken (level_of (work w.nodes w.outer w.index w.fetched ws) os) ws (held_as e.name (bare page))))
      × Goes (e.name ∷ []) (wants (work w.nodes w.outer w.index w.fetched ws) (lists (holder_of w) e.name page u).0) y
  takes-at w os s bf e rest page u ws is =
      let held = held_as e.name (bare page) in
      let v = work w.nodes w.outer w.index w.fetched (e ∷ rest) in
      subst (λ xs. (y : Progress) × Alike y (levels.go_on metas (levels.with_taken (level_of (work w.nodes w.outer w.index w.fetched xs) os) xs held))
      × Goes (e.name ∷ []) (wants (work w.nodes w.outer w.index w.fetched xs) (lists (holder_of w) e.name page u).0) y) (sym is)
      (taken metas v held, taken-alike metas v os held (bare-none page) s bf, takes w.nodes w.outer w.index w.fetched e rest page u)

  -- the level of the work, and what is wanted
  takes-by : (w : WorkDoc) (os : List OpenDoc) (m : MetafileDoc) → Stands w.nodes w.outer os → BareFetched w.fetched → (e : Entry) (rest : List Entry) (page : SignedDoc TargetsDoc)
      → (v : levels.WorkDoc) → level_of w os ≡ v → v.waiting ≡ e ∷ rest → (u : U (holder_in v) e.name page) → m ≡ (lists (holder_in v) e.name page u).0
      → (y : Progress) × Alike y (levels.go_on metas (levels.with_taken v v.waiting (held_as e.name (bare page)))) × Goes (e.name ∷ []) (wants w m) y
  takes-by w os m s bf e rest page v is =
      let held = held_as e.name (bare page) in
      subst (λ x. x.waiting ≡ e ∷ rest → (u : U (holder_in x) e.name page) → m ≡ (lists (holder_in x) e.name page u).0
      → (y : Progress) × Alike y (levels.go_on metas (levels.with_taken x x.waiting held)) × Goes (e.name ∷ []) (wants w m) y) is
      (λ first u named.
      let t = takes-at w os s bf e rest page u w.waiting first in
      (t.0, t.1, subst (λ k. Goes (e.name ∷ []) (wants w k) t.0) (sym named) t.2))

  takes-level : (outer : List OpenDoc) (seen : Names) (here : HeldDoc) (f : Fetched) (e : Entry) (rest : List Entry) (page : SignedDoc TargetsDoc) (u : U (top_doc here.below).delegations e.name page)
      → Leads (e.name ∷ []) (levels.wants (full.work outer seen here f (e ∷ rest)) (lists (top_doc here.below).delegations e.name page u).0)
      (levels.go_on metas (full.work outer seen here (insert_entry (slice_cmp nat_cmp) f e.name (held_as e.name (bare page))) rest))
  takes-level outer seen here f e rest page u (grown t) a = absurd (cc a)
  takes-level outer seen here f e rest page u (wants w m) a =
      let v = full.work outer seen here f (e ∷ rest) in
      let k = (lists (top_doc here.below).delegations e.name page u).0 in
      takes-by w a.0 m a.2 a.3 e rest page v (sym (ap (λ q. wanted-level q v) a.1)) refl u (sym (ap (λ q. wanted-entry q m) a.1))

  grown-at : (y : Progress) (t : SignedDoc TreeDoc) → Alike y (levels.grown t) → (p : Progress) (names : List (List ℕ)) → Goes names p y → Goes names p (grown t)
  grown-at (wants w m) t a p names go = absurd (cc a.1)
  grown-at (grown x) t a p names go =
      let same : x ≡ t = sym (ap (λ q. grown-tree q x) a) in subst (λ z. Goes names p (grown z)) same go

  -- the whole tree
  pub grows-whole : (t : SignedDoc TreeDoc) → IsFull t.role → Below U t.role → Distinct (carriers_below t.role)
      → Goes (fetch_order t.role) (begun metas (held_as [] (bare (record { role = top_doc t.role; signatures = t.signatures })))) (grown t)
  grows-whole t f u d =
      let top = held_as [] (bare (record { role = top_doc t.role; signatures = t.signatures })) in
      let go = full.grows-whole metas U Leads leads-nowhere leads-on lists keyed takes-level t f u d (begun metas top) (begun-alike metas top (bare-none (record { role = top_doc t.role; signatures = t.signatures }))) in
      grown-at go.0 t go.1 (begun metas top) (fetch_order t.role) go.2
