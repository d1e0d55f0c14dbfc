-- No name carries a document twice: the names that do are, in preorder, those that were marked as loaded.
use Rattle.std.proofs.Common.{◌≡◌, ℕ, List, [], ◌∷◌, ◌++◌, Bool, true, false, ◌||◌, if◌then◌else◌, cond, Option, Some, None, is_some, nat_cmp, Ordering, Less, Equal, Greater, refl, ap, sym, ◌∙◌, subst, append_assoc, append-nil}
use Rattle.std.specs.Bool.{⊤}
use Rattle.std.specs.Str.{bytes_eq}
use Rattle.std.specs.Cmp.Lexicographic.{slice_cmp}
use Rattle.std.specs.Map.{lookup, remove_entry}
use Rattle.std.specs.BTreeMap.{insert_entry}
use Rattle.std.specs.Ordering.{match_ordering}
use Rattle.std.proofs.lemmas.Slice.Eq.{bytes_eq-Decides}
use Rattle.tough_roles.specs.Signature.{SignedDoc}
use Rattle.tough_schema.specs.Tree.{Entry}
use Rattle.tough_schema.specs.Update.{listed_roles}
use Rattle.tough_schema.specs.Search.{Names, no_names, add}
use Rattle.tough_schema.specs.Whole.{TreeDoc, tree, Branches, put_branch, branches_from, HeldDoc, RoleTree}
use Rattle.tough_update.specs.delegations.Growing.{Metas, Look, through, unlisted, wanted, look, Fetched, at_name}
use Rattle.tough_update.proofs.growth.Levels.{with_fetched, refilled, with_roles, OpenDoc, Turn, past, stopped, turn_by_look, turn, Turns, all_past, stopped_at, by_turn, turns, WorkDoc, Progress, wants, grown, by_turns, taken_up, settle, give, by_look, first_work, begun, with_taken, taken, runs}
use Rattle.tough_schema.specs.Fresh.{carriers, carriers_below}
use Rattle.tough_update.specs.growth.Once.{is_among, Distinct, IsBare, AreBare}

-- ---- marked names

abbrev pub Marked : List (List ℕ) → Names → Type 0
Marked [] loaded = ⊤
Marked (x ∷ xs) loaded = (loaded x ≡ true) × Marked xs loaded

-- these names are marked, and no one twice
abbrev pub Once : List (List ℕ) → Names → Type 0
Once xs loaded = Distinct xs × Marked xs loaded

or-true : (x y : Bool) → y ≡ true → (x || y) ≡ true
or-true true y h = refl
or-true false y h = h

or-from : (x y : Bool) → x ≡ false → y ≡ false → (x || y) ≡ false
or-from x y h k = ap (λ b. b || y) h ∙ k

or-parts : (x y : Bool) → (x || y) ≡ false → (x ≡ false) × (y ≡ false)
or-parts true y h = let e : true ≡ false = h in absurd (cc)
or-parts false y h = (refl, h)

marked-more : (xs : List (List ℕ)) (n : List ℕ) (loaded : Names) → Marked xs loaded → Marked xs (add n loaded)
marked-more [] n loaded h = tt
marked-more (x ∷ xs) n loaded h = (or-true (bytes_eq n x) (loaded x) h.0, marked-more xs n loaded h.1)

pub once-more : (xs : List (List ℕ)) (n : List ℕ) (loaded : Names) → Once xs loaded → Once xs (add n loaded)
once-more xs n loaded h = (h.0, marked-more xs n loaded h.1)

apart : (x n : List ℕ) (loaded : Names) (b : Bool) → loaded x ≡ true → loaded n ≡ false → bytes_eq n x ≡ b → bytes_eq n x ≡ false
apart x n loaded true h k e = let same : n ≡ x = (bytes_eq-Decides n x).0 e in let f : true ≡ false = sym h ∙ (ap loaded (sym same) ∙ k) in absurd (cc)
apart x n loaded false h k e = e

among-last : (x n : List ℕ) (xs : List (List ℕ)) → is_among x xs ≡ false → bytes_eq n x ≡ false → is_among x (xs ++ n ∷ []) ≡ false
among-last x n [] h k = or-from (bytes_eq n x) false k refl
among-last x n (y ∷ ys) h k = let both = or-parts (bytes_eq y x) (is_among x ys) h in or-from (bytes_eq y x) (is_among x (ys ++ n ∷ [])) both.0 (among-last x n ys both.1 k)

distinct-last : (xs : List (List ℕ)) (n : List ℕ) (loaded : Names) → Distinct xs → Marked xs loaded → loaded n ≡ false → Distinct (xs ++ n ∷ [])
distinct-last [] n loaded d m h = (refl, tt)
distinct-last (x ∷ xs) n loaded d m h =
    (among-last x n xs d.0 (apart x n loaded (bytes_eq n x) m.0 h refl), distinct-last xs n loaded d.1 m.1 h)

marked-last : (xs : List (List ℕ)) (n : List ℕ) (loaded : Names) → Marked xs loaded → loaded n ≡ true → Marked (xs ++ n ∷ []) loaded
marked-last [] n loaded h k = (k, tt)
marked-last (x ∷ xs) n loaded h k = (h.0, marked-last xs n loaded h.1 k)

itself : (n : List ℕ) (loaded : Names) → add n loaded n ≡ true
itself n loaded = ap (λ b. b || loaded n) ((bytes_eq-Decides n n).1 refl)

pub once-last : (xs : List (List ℕ)) (n : List ℕ) (loaded : Names) → Once xs loaded → loaded n ≡ false → Once (xs ++ n ∷ []) (add n loaded)
once-last xs n loaded h new =
    (distinct-last xs n loaded h.0 h.1 new, marked-last xs n (add n loaded) (marked-more xs n loaded h.1) (itself n loaded))

among-first : (x : List ℕ) (xs ys : List (List ℕ)) → is_among x (xs ++ ys) ≡ false → is_among x xs ≡ false
among-first x [] ys h = refl
among-first x (y ∷ xs) ys h = let both = or-parts (bytes_eq y x) (is_among x (xs ++ ys)) h in or-from (bytes_eq y x) (is_among x xs) both.0 (among-first x xs ys both.1)

once-first : (xs ys : List (List ℕ)) (loaded : Names) → Once (xs ++ ys) loaded → Once xs loaded
once-first [] ys loaded h = (tt, tt)
once-first (x ∷ xs) ys loaded h =
    let rest = once-first xs ys loaded (h.0.1, h.1.1) in ((among-first x xs ys h.0.0, rest.0), (h.1.0, rest.1))

-- ---- the names that carry a document

abbrev pub at_role : RoleTree → List (List ℕ)
at_role (e, None) = []
at_role (e, Some h) = e.name ∷ carriers_below h.below

abbrev pub in_roles : List RoleTree → List (List ℕ)
in_roles rs = carriers (branches_from rs)

pub put-carriers : (r : RoleTree) (bs : Branches) → carriers (put_branch r bs) ≡ at_role r ++ carriers bs
put-carriers (e, None) bs = refl
put-carriers (e, Some h) bs = refl

pub roles-last : (rs : List RoleTree) (r : RoleTree) → in_roles (rs ++ r ∷ []) ≡ in_roles rs ++ at_role r
roles-last [] r = put-carriers r (branches_from []) ∙ append-nil (at_role r)
roles-last (x ∷ rs) r =
    put-carriers x (branches_from (rs ++ r ∷ [])) ∙ ap (λ l. at_role x ++ l) (roles-last rs r) ∙ sym (append_assoc (at_role x) (in_roles rs) (at_role r))
    ∙ ap (λ l. l ++ at_role r) (sym (put-carriers x (branches_from rs)))

-- of a document with these roles in its place, by whether it has delegations
chosen : (b : Bool) (xs : List (List ℕ)) (rs : List RoleTree) (bs : Branches) (loaded : Names) → carriers bs ≡ [] → Once (xs ++ in_roles rs) loaded
    → Once (xs ++ carriers (if b then branches_from rs else bs)) loaded
chosen true xs rs bs loaded bare h = h
chosen false xs rs bs loaded bare h = subst (λ l. Once l loaded) (sym (ap (λ l. xs ++ l) bare ∙ append-nil xs)) (once-first xs (in_roles rs) loaded h)

refilled-once : (xs : List (List ℕ)) (rs : List RoleTree) (t : TreeDoc) (loaded : Names) → carriers_below t ≡ [] → Once (xs ++ in_roles rs) loaded → Once (xs ++ carriers_below (refilled rs t)) loaded
refilled-once xs rs (tree o bs) loaded bare h = chosen (is_some o.keys) xs rs bs loaded bare h

emptied : (b : Bool) (bs : Branches) → carriers bs ≡ [] → carriers (if b then branches_from [] else bs) ≡ []
emptied true bs h = refl
emptied false bs h = h

emptied-bare : (t : TreeDoc) → carriers_below t ≡ [] → carriers_below (refilled [] t) ≡ []
emptied-bare (tree o bs) h = emptied (is_some o.keys) bs h

-- ---- roles whose documents are bare

abbrev pub BareAt : RoleTree → Type 0
BareAt (e, None) = ⊤
BareAt (e, Some h) = IsBare h

abbrev BareRoles : List RoleTree → Type 0
BareRoles [] = ⊤
BareRoles (r ∷ rs) = BareAt r × BareRoles rs

abbrev pub BareFetched : Fetched → Type 0
BareFetched [] = ⊤
BareFetched (f ∷ fs) = IsBare f.1 × BareFetched fs

found-bare : (e : Entry) (b : Bool) (h : HeldDoc) (o : Option HeldDoc) → IsBare h → BareAt (e, o) → BareAt (e, cond b (Some h) o)
found-bare e true h o x y = x
found-bare e false h o x y = y

pub lookup-bare : (e : Entry) (n : List ℕ) (fs : Fetched) → BareFetched fs → BareAt (e, lookup (at_name n) fs)
lookup-bare e n [] h = tt
lookup-bare e n (f ∷ fs) h = found-bare e (at_name n f.0) f.1 (lookup (at_name n) fs) h.0 (lookup-bare e n fs h.1)

left-bare : (b : Bool) (f : List ℕ × HeldDoc) (fs gs : Fetched) → IsBare f.1 → BareFetched fs → BareFetched gs → BareFetched (cond b fs (f ∷ gs))
left-bare true f fs gs x y z = y
left-bare false f fs gs x y z = (x, z)

pub removed-bare : (n : List ℕ) (fs : Fetched) → BareFetched fs → BareFetched (remove_entry (at_name n) fs)
removed-bare n [] h = tt
removed-bare n (f ∷ fs) h = left-bare (at_name n f.0) f fs (remove_entry (at_name n) fs) h.0 h.1 (removed-bare n fs h.1)

fetched-bare : (es : List Entry) (fs : Fetched) → BareFetched fs → BareRoles (with_fetched fs es)
fetched-bare [] fs h = tt
fetched-bare (e ∷ es) fs h = (lookup-bare e e.name fs h, fetched-bare es (remove_entry (at_name e.name) fs) (removed-bare e.name fs h))

put-bare : (o : Ordering) (f : List ℕ × HeldDoc) (n : List ℕ) (h : HeldDoc) (fs gs : Fetched) → IsBare f.1 → IsBare h → BareFetched fs → BareFetched gs
    → BareFetched (match_ordering o ((n, h) ∷ f ∷ fs) ((f.0, h) ∷ fs) (f ∷ gs))
put-bare Less f n h fs gs x y z w = (y, (x, z))
put-bare Equal f n h fs gs x y z w = (y, z)
put-bare Greater f n h fs gs x y z w = (x, w)

pub inserted-bare : (n : List ℕ) (h : HeldDoc) (fs : Fetched) → IsBare h → BareFetched fs → BareFetched (insert_entry (slice_cmp nat_cmp) fs n h)
inserted-bare n h [] x y = (x, tt)
inserted-bare n h (f ∷ fs) x y = put-bare (slice_cmp nat_cmp n f.0) f n h fs (insert_entry (slice_cmp nat_cmp) fs n h) y.0 x y.1 (inserted-bare n h fs x y.1)

-- ---- the work

-- the names that carry a document, in the open documents
abbrev pub in_open : List OpenDoc → List (List ℕ)
in_open [] = []
in_open (o ∷ os) = (in_open os ++ in_roles o.done) ++ o.role.name ∷ []

abbrev BareOpen : List OpenDoc → Type 0
BareOpen [] = ⊤
BareOpen (o ∷ os) = BareRoles o.left × IsBare o.document × BareOpen os

abbrev TurnFine : List (List ℕ) → List RoleTree → Turn → Type 0
TurnFine xs done (past r loaded) = Once (xs ++ in_roles (done ++ r ∷ [])) loaded
TurnFine xs done (stopped e h waiting m loaded) = Once ((xs ++ in_roles done) ++ e.name ∷ []) loaded × IsBare h

abbrev TurnsFine : List (List ℕ) → Turns → Type 0
TurnsFine xs (all_past h loaded) = Once (xs ++ carriers_below h.below) loaded
TurnsFine xs (stopped_at o here waiting m loaded) = Once ((xs ++ in_roles o.done) ++ o.role.name ∷ []) loaded × BareRoles o.left × IsBare o.document × IsBare here

abbrev pub ProgressFine : Progress → Type 0
ProgressFine (wants w m) = Once (in_open w.outer) w.loaded × BareOpen w.outer × IsBare w.here × BareFetched w.fetched
ProgressFine (grown t) = Distinct (carriers_below t.role)

-- one more role that carries no document
flat : (xs : List (List ℕ)) (done : List RoleTree) (e : Entry) (loaded : Names) → Once (xs ++ in_roles done) loaded → Once (xs ++ in_roles (done ++ (e, None) ∷ [])) loaded
flat xs done e loaded h = subst (λ l. Once l loaded) (ap (λ l. xs ++ l) (sym (roles-last done (e, None) ∙ append-nil (in_roles done)))) h

-- one more that carries a bare one
raised : (xs : List (List ℕ)) (done : List RoleTree) (e : Entry) (h : HeldDoc) (loaded : Names) → IsBare h → Once ((xs ++ in_roles done) ++ e.name ∷ []) loaded
    → Once (xs ++ in_roles (done ++ (e, Some h) ∷ [])) loaded
raised xs done e h loaded bare k = subst (λ l. Once l loaded)
    (append_assoc xs (in_roles done) (e.name ∷ []) ∙ ap (λ l. xs ++ l) (sym (roles-last done (e, Some h) ∙ ap (λ l. in_roles done ++ e.name ∷ l) bare))) k

turn_by_look-fine : (xs : List (List ℕ)) (done : List RoleTree) (e : Entry) (h : HeldDoc) (loaded : Names) (l : Look) → IsBare h → Once ((xs ++ in_roles done) ++ e.name ∷ []) loaded
    → TurnFine xs done (turn_by_look e h loaded l)
turn_by_look-fine xs done e h loaded through bare k = raised xs done e h loaded bare k
turn_by_look-fine xs done e h loaded (unlisted n) bare k = once-more (xs ++ in_roles (done ++ (e, Some h) ∷ [])) n loaded (raised xs done e h loaded bare k)
turn_by_look-fine xs done e h loaded (wanted waiting m) bare k = (k, bare)

turn-on : (xs : List (List ℕ)) (done : List RoleTree) (s t : Turn) (b : Bool) → TurnFine xs done s → (b ≡ false → TurnFine xs done t) → TurnFine xs done (if b then s else t)
turn-on xs done s t true x y = x
turn-on xs done s t false x y = y refl

turn-fine : (metas : Metas) (xs : List (List ℕ)) (done : List RoleTree) (loaded : Names) (r : RoleTree) → BareAt r → Once (xs ++ in_roles done) loaded → TurnFine xs done (turn metas loaded r)
turn-fine metas xs done loaded (e, None) bare k = flat xs done e loaded k
turn-fine metas xs done loaded (e, Some h) bare k =
    turn-on xs done (past (e, None) loaded) (turn_by_look e h (add e.name loaded) (look metas (add e.name loaded) (listed_roles h.below))) (loaded e.name)
    (flat xs done e loaded k)
    (λ new. turn_by_look-fine xs done e h (add e.name loaded) (look metas (add e.name loaded) (listed_roles h.below)) bare (once-last (xs ++ in_roles done) e.name loaded k new))

by_turn-fine : (xs : List (List ℕ)) (d : HeldDoc) (done left : List RoleTree) (t : Turn) (next : RoleTree → Names → Turns) → BareRoles left → IsBare d → TurnFine xs done t
    → ((s : RoleTree) (l : Names) → Once (xs ++ in_roles (done ++ s ∷ [])) l → TurnsFine xs (next s l)) → TurnsFine xs (by_turn d done left t next)
by_turn-fine xs d done left (past s l) next bl bd h k = k s l h
by_turn-fine xs d done left (stopped e here waiting m l) next bl bd h k = (h.0, bl, bd, h.1)

turns-fine : (metas : Metas) (xs : List (List ℕ)) (d : HeldDoc) (left done : List RoleTree) (loaded : Names) → BareRoles left → IsBare d → Once (xs ++ in_roles done) loaded
    → TurnsFine xs (turns metas loaded d done left)
turns-fine metas xs d [] done loaded bl bd h = refilled-once xs done d.below loaded bd h
turns-fine metas xs d (r ∷ left) done loaded bl bd h =
    by_turn-fine xs d done left (turn metas loaded r) (λ s l. turns metas l d (done ++ s ∷ []) left) bl.1 bd (turn-fine metas xs done loaded r bl.0 h)
    (λ s l k. turns-fine metas xs d left (done ++ s ∷ []) l bl.1 bd k)

by_turns-fine : (outer : List OpenDoc) (t : Turns) (next : HeldDoc → Names → Progress) → BareOpen outer → TurnsFine (in_open outer) t
    → ((d : HeldDoc) (l : Names) → Once (in_open outer ++ carriers_below d.below) l → ProgressFine (next d l)) → ProgressFine (by_turns outer t next)
by_turns-fine outer (all_past d l) next bo h k = k d l h
by_turns-fine outer (stopped_at o here waiting m l) next bo h k = (h.0, (h.1, h.2, bo), h.3, tt)

settle-fine : (metas : Metas) (outer : List OpenDoc) (h : HeldDoc) (loaded : Names) → BareOpen outer → Once (in_open outer ++ carriers_below h.below) loaded → ProgressFine (settle metas loaded h outer)
settle-fine metas [] h loaded bo k = k.0
settle-fine metas (o ∷ outer) h loaded bo k =
    let xs = in_open outer in
    let names = carriers_below h.below in
    let whole : ((xs ++ in_roles o.done) ++ o.role.name ∷ []) ++ names ≡ xs ++ in_roles (o.done ++ (o.role, Some h) ∷ []) =
    append_assoc (xs ++ in_roles o.done) (o.role.name ∷ []) names ∙ append_assoc xs (in_roles o.done) (o.role.name ∷ names)
    ∙ ap (λ l. xs ++ l) (sym (roles-last o.done (o.role, Some h))) in
    by_turns-fine outer (taken_up metas loaded h o) (λ d l. settle metas l d outer) bo.2
    (turns-fine metas xs o.document o.left (o.done ++ (o.role, Some h) ∷ []) loaded bo.0 bo.1 (subst (λ l. Once l loaded) whole k))
    (λ d l n. settle-fine metas outer d l bo.2 n)

-- the work on a list
abbrev pub WorkFine : WorkDoc → Type 0
WorkFine w = Once (in_open w.outer) w.loaded × BareOpen w.outer × IsBare w.here × BareFetched w.fetched

unfilled : (xs : List (List ℕ)) (ys : List (List ℕ)) (loaded : Names) → ys ≡ [] → Once xs loaded → Once (xs ++ ys) loaded
unfilled xs ys loaded e h = subst (λ l. Once l loaded) (sym (ap (λ l. xs ++ l) e ∙ append-nil xs)) h

give-fine : (metas : Metas) (w : WorkDoc) → WorkFine w → ProgressFine (give metas w)
give-fine metas w h =
    by_turns-fine w.outer (turns metas w.loaded (with_roles [] w.here) [] (with_fetched w.fetched (listed_roles w.here.below))) (λ d l. settle metas l d w.outer) h.1
    (turns-fine metas (in_open w.outer) (with_roles [] w.here) (with_fetched w.fetched (listed_roles w.here.below)) [] w.loaded
    (fetched-bare (listed_roles w.here.below) w.fetched h.3) (emptied-bare w.here.below h.2) (unfilled (in_open w.outer) [] w.loaded refl h.0))
    (λ d l n. settle-fine metas w.outer d l h.1 n)

by_look-fine : (metas : Metas) (w : WorkDoc) (l : Look) → WorkFine w → ProgressFine (by_look metas w l)
by_look-fine metas w through h = give-fine metas w h
by_look-fine metas w (unlisted n) h = settle-fine metas w.outer w.here (add n w.loaded) h.1
    (unfilled (in_open w.outer) (carriers_below w.here.below) (add n w.loaded) h.2 (once-more (in_open w.outer) n w.loaded h.0))
by_look-fine metas w (wanted waiting m) h = h

kept-fine : (w : WorkDoc) (waiting : List Entry) (h : HeldDoc) → IsBare h → WorkFine w → WorkFine (with_taken w waiting h)
kept-fine w [] h bare k = k
kept-fine w (e ∷ rest) h bare k = (k.0, k.1, k.2, inserted-bare e.name h w.fetched bare k.3)

pub taken-fine : (metas : Metas) (w : WorkDoc) (h : HeldDoc) → IsBare h → WorkFine w → ProgressFine (taken metas w h)
taken-fine metas w h bare k = let v = with_taken w w.waiting h in by_look-fine metas v (look metas v.loaded v.waiting) (kept-fine w w.waiting h bare k)

pub begun-fine : (metas : Metas) (top : HeldDoc) → IsBare top → ProgressFine (begun metas top)
begun-fine metas top bare = by_look-fine metas (first_work top) (look metas no_names (listed_roles top.below))
    ((tt, tt), tt, bare, tt)

runs-fine : (metas : Metas) (hs : List HeldDoc) (p : Progress) → AreBare hs → ProgressFine p → ProgressFine (runs metas p hs)
runs-fine metas [] p bare h = h
runs-fine metas (x ∷ hs) (wants w m) bare h = runs-fine metas hs (taken metas w x) bare.1 (taken-fine metas w x bare.0 h)
runs-fine metas (x ∷ hs) (grown t) bare h = h

pub grows-once : (metas : Metas) (top : HeldDoc) (hs : List HeldDoc) (t : SignedDoc TreeDoc) → IsBare top → AreBare hs → runs metas (begun metas top) hs ≡ grown t → Distinct (carriers_below t.role)
grows-once metas top hs t bare all is = subst ProgressFine is (runs-fine metas hs (begun metas top) all (begun-fine metas top bare))
