-- That a tree, as far as it has grown, lists at least as many roles as documents were fetched for it and are still to be fetched for the
-- list at hand.
use Rattle.std.specs.Bool.{⊤}
use Rattle.std.proofs.Common.{◌≡◌, ◌⊎◌, ◌≤◌, ◌+◌, ℕ, suc, List, [], ◌∷◌, ◌++◌, length, Bool, true, false, if◌then◌else◌, cond, Option, Some, None, is_some, nat_cmp, Ordering, Less, Equal, Greater, refl, inl, inr, ap, ◌∙◌, arith}
use Rattle.std.proofs.lemmas.List.{length-append, length-map}
use Rattle.std.specs.Cmp.Lexicographic.{slice_cmp}
use Rattle.std.specs.Map.{lookup, remove_entry}
use Rattle.std.specs.BTreeMap.{insert_entry}
use Rattle.std.specs.Ordering.{match_ordering}
use Rattle.tough_roles.specs.Timestamp.{MetafileDoc}
use Rattle.tough_schema.specs.Delegations.{DelegationsDoc}
use Rattle.tough_schema.specs.Targets.{TargetsDoc}
use Rattle.tough_schema.specs.Tree.{Entry}
use Rattle.tough_schema.specs.Update.{listed_roles}
use Rattle.tough_schema.specs.Search.{Names, add}
use Rattle.tough_schema.specs.Entries.{entries}
use Rattle.tough_schema.specs.Preorder.{preorder, preorder_below}
use Rattle.tough_schema.specs.Whole.{TreeDoc, tree, Branches, no_branches, unloaded, loaded, branches_from, HeldDoc, RoleTree, entries_in}
use Rattle.tough_trust.specs.delegations.Bare.{bare_tree}
use Rattle.tough_update.specs.delegations.Growing.{Metas, listed_as, Look, through, unlisted, wanted, look, looked, Fetched, at_name}
use Rattle.tough_update.proofs.growth.Levels.{with_fetched, refilled, with_roles, OpenDoc, Turn, past, stopped, turn_by_look, turn, Turns, all_past, stopped_at, by_turn, turns, WorkDoc, Progress, wants, grown, by_turns, taken_up, settle, give, by_look, go_on, first_work, begun, with_taken, tally_role, tally_roles, tally_open, tally_opens, tally_work}

-- ---- how many roles a tree has

abbrev mutual
  pub size : Branches → ℕ
  size no_branches = 0
  size (unloaded e bs) = suc (size bs)
  size (loaded e name signatures t bs) = suc (size_below t + size bs)

  pub size_below : TreeDoc → ℕ
  size_below (tree o bs) = size bs

mutual
  preorder-size : (k : ℕ) (bs : Branches) → length (preorder k bs) ≡ size bs
  preorder-size k no_branches = refl
  preorder-size k (unloaded e bs) = ap suc (preorder-size (k + 1) bs)
  preorder-size k (loaded e name signatures t bs) =
      let inside = preorder_below (k + 1) t in
      let rest = preorder (k + 1 + length inside) bs in
      let sum : length (inside ++ rest) ≡ size_below t + size bs = omega (arith, length-append inside rest, below-size (k + 1) t, preorder-size (k + 1 + length inside) bs) in
      ap suc sum

  below-size : (k : ℕ) (t : TreeDoc) → length (preorder_below k t) ≡ size_below t
  below-size k (tree o bs) = preorder-size k bs

pub entries-size : (t : TreeDoc) → length (entries t) ≡ size_below t
entries-size t = length-map (preorder_below 0 t) (λ o. o.role) ∙ below-size 0 t

listed-in : (bs : Branches) → length (entries_in bs) ≤ size bs
listed-in no_branches = omega arith
listed-in (unloaded e bs) = omega (arith, listed-in bs)
listed-in (loaded e name signatures t bs) = omega (arith, listed-in bs)

-- no fewer than its own list has
listed-size : (t : TreeDoc) → length (listed_roles t) ≤ size_below t
listed-size (tree o bs) = listed-in bs

roles-last : (rs : List RoleTree) (r : RoleTree) → tally_roles (rs ++ r ∷ []) ≡ tally_roles rs + tally_role r
roles-last [] r = omega arith
roles-last (x ∷ rs) r = omega (arith, roles-last rs r)

pub roles-size : (rs : List RoleTree) → size (branches_from rs) ≡ tally_roles rs
roles-size [] = refl
roles-size ((e, None) ∷ rs) = omega (arith, roles-size rs)
roles-size ((e, Some h) ∷ rs) = omega (arith, roles-size rs, entries-size h.below)

fetched-size : (fetched : Fetched) (es : List Entry) → length (with_fetched fetched es) ≡ length es
fetched-size fetched [] = refl
fetched-size fetched (e ∷ es) = ap suc (fetched-size (remove_entry (at_name e.name) fetched) es)

-- ---- documents that list roles only where they have delegations, as those do that were read

abbrev has_keys : TreeDoc → Bool
has_keys (tree o bs) = is_some o.keys

abbrev pub IsKeyed : TreeDoc → Type 0
IsKeyed t = (has_keys t ≡ true) ⊎ (listed_roles t ≡ [])

bare-at : (o : Option DelegationsDoc) (d : TargetsDoc) → o ≡ d.delegations → IsKeyed (bare_tree d)
bare-at None d e = inr (cc e)
bare-at (Some g) d e = inl (cc e)

pub bare-keyed : (d : TargetsDoc) → IsKeyed (bare_tree d)
bare-keyed d = bare-at d.delegations d refl

abbrev RoleKeyed : RoleTree → Type 0
RoleKeyed (e, None) = ⊤
RoleKeyed (e, Some h) = IsKeyed h.below

abbrev RolesKeyed : List RoleTree → Type 0
RolesKeyed [] = ⊤
RolesKeyed (r ∷ rs) = RoleKeyed r × RolesKeyed rs

abbrev FetchedKeyed : Fetched → Type 0
FetchedKeyed [] = ⊤
FetchedKeyed (f ∷ fs) = IsKeyed f.1.below × FetchedKeyed fs

found-keyed : (e : Entry) (b : Bool) (h : HeldDoc) (o : Option HeldDoc) → IsKeyed h.below → RoleKeyed (e, o) → RoleKeyed (e, cond b (Some h) o)
found-keyed e true h o x y = x
found-keyed e false h o x y = y

lookup-keyed : (e : Entry) (n : List ℕ) (fs : Fetched) → FetchedKeyed fs → RoleKeyed (e, lookup (at_name n) fs)
lookup-keyed e n [] h = tt
lookup-keyed e n (f ∷ fs) h = found-keyed e (at_name n f.0) f.1 (lookup (at_name n) fs) h.0 (lookup-keyed e n fs h.1)

left-keyed : (b : Bool) (f : List ℕ × HeldDoc) (fs gs : Fetched) → IsKeyed f.1.below → FetchedKeyed fs → FetchedKeyed gs → FetchedKeyed (cond b fs (f ∷ gs))
left-keyed true f fs gs x y z = y
left-keyed false f fs gs x y z = (x, z)

removed-keyed : (n : List ℕ) (fs : Fetched) → FetchedKeyed fs → FetchedKeyed (remove_entry (at_name n) fs)
removed-keyed n [] h = tt
removed-keyed n (f ∷ fs) h = left-keyed (at_name n f.0) f fs (remove_entry (at_name n) fs) h.0 h.1 (removed-keyed n fs h.1)

fetched-keyed : (es : List Entry) (fs : Fetched) → FetchedKeyed fs → RolesKeyed (with_fetched fs es)
fetched-keyed [] fs h = tt
fetched-keyed (e ∷ es) fs h = (lookup-keyed e e.name fs h, fetched-keyed es (remove_entry (at_name e.name) fs) (removed-keyed e.name fs h))

put-keyed : (o : Ordering) (f : List ℕ × HeldDoc) (n : List ℕ) (h : HeldDoc) (fs gs : Fetched) → IsKeyed f.1.below → IsKeyed h.below → FetchedKeyed fs → FetchedKeyed gs
    → FetchedKeyed (match_ordering o ((n, h) ∷ f ∷ fs) ((f.0, h) ∷ fs) (f ∷ gs))
put-keyed Less f n h fs gs x y z w = (y, (x, z))
put-keyed Equal f n h fs gs x y z w = (y, z)
put-keyed Greater f n h fs gs x y z w = (x, w)

inserted-keyed : (n : List ℕ) (h : HeldDoc) (fs : Fetched) → IsKeyed h.below → FetchedKeyed fs → FetchedKeyed (insert_entry (slice_cmp nat_cmp) fs n h)
inserted-keyed n h [] x y = (x, tt)
inserted-keyed n h (f ∷ fs) x y = put-keyed (slice_cmp nat_cmp n f.0) f n h fs (insert_entry (slice_cmp nat_cmp) fs n h) y.0 x y.1 (inserted-keyed n h fs x y.1)

-- an open document has delegations
abbrev OpenKeyed : OpenDoc → Type 0
OpenKeyed o = (has_keys o.document.below ≡ true) × RolesKeyed o.left

abbrev AllKeyed : List OpenDoc → Type 0
AllKeyed [] = ⊤
AllKeyed (o ∷ os) = OpenKeyed o × AllKeyed os

abbrev pub WorkKeyed : WorkDoc → Type 0
WorkKeyed w = AllKeyed w.outer × IsKeyed w.here.below × FetchedKeyed w.fetched

-- ---- a document's roles in its place

refilled-keys : (rs : List RoleTree) (t : TreeDoc) → has_keys (refilled rs t) ≡ has_keys t
refilled-keys rs (tree o bs) = refl

chosen-size : (b : Bool) (rs : List RoleTree) (bs : Branches) → b ≡ true → tally_roles rs ≤ size (if b then branches_from rs else bs)
chosen-size true rs bs e = omega (arith, roles-size rs)
chosen-size false rs bs e = cc e

refilled-size : (rs : List RoleTree) (t : TreeDoc) → has_keys t ≡ true → tally_roles rs ≤ size_below (refilled rs t)
refilled-size rs (tree o bs) e = chosen-size (is_some o.keys) rs bs e

-- ---- the turns

-- the roles that wait are some of those, and one waits
abbrev Fits : ℕ → List Entry → Type 0
Fits n waiting = (length waiting ≤ n) × (1 ≤ length waiting)

abbrev LookFits : ℕ → Look → Type 0
LookFits n through = ⊤
LookFits n (unlisted name) = ⊤
LookFits n (wanted waiting m) = Fits n waiting

looked-fits : (n : ℕ) (e : Entry) (rest : List Entry) (o : Option MetafileDoc) → length (e ∷ rest) ≤ n → LookFits n (looked e rest o)
looked-fits n e rest None le = tt
looked-fits n e rest (Some m) le = (le, omega arith)

look-on : (n : ℕ) (b : Bool) (s t : Look) → LookFits n s → LookFits n t → LookFits n (if b then s else t)
look-on n true s t x y = x
look-on n false s t x y = y

look-fits : (metas : Metas) (l : Names) (n : ℕ) (waiting : List Entry) → length waiting ≤ n → LookFits n (look metas l waiting)
look-fits metas l n [] le = tt
look-fits metas l n (e ∷ rest) le =
    let less : length rest ≤ n = omega (arith, le) in
    look-on n (l e.name) (look metas l rest) (looked e rest (listed_as metas e.name)) (look-fits metas l n rest less) (looked-fits n e rest (listed_as metas e.name) le)

abbrev TurnGrows : Turn → Type 0
TurnGrows (past r l) = 1 ≤ tally_role r
TurnGrows (stopped e h waiting m l) = Fits (length (listed_roles h.below)) waiting × IsKeyed h.below

turn_by_look-grows : (e : Entry) (h : HeldDoc) (l : Names) (k : Look) → IsKeyed h.below → LookFits (length (listed_roles h.below)) k → TurnGrows (turn_by_look e h l k)
turn_by_look-grows e h l through keyed x = omega arith
turn_by_look-grows e h l (unlisted n) keyed x = omega arith
turn_by_look-grows e h l (wanted waiting m) keyed x = (x, keyed)

turn-on : (b : Bool) (s t : Turn) → TurnGrows s → TurnGrows t → TurnGrows (if b then s else t)
turn-on true s t x y = x
turn-on false s t x y = y

turn-grows : (metas : Metas) (l : Names) (r : RoleTree) → RoleKeyed r → TurnGrows (turn metas l r)
turn-grows metas l (e, None) keyed = omega arith
turn-grows metas l (e, Some h) keyed =
    let all = listed_roles h.below in
    let seen = add e.name l in
    turn-on (l e.name) (past (e, None) l) (turn_by_look e h seen (look metas seen all)) (omega arith)
    (turn_by_look-grows e h seen (look metas seen all) keyed (look-fits metas seen (length all) all (omega arith)))

abbrev TurnsGrow : ℕ → Turns → Type 0
TurnsGrow n (all_past h l) = n ≤ size_below h.below
TurnsGrow n (stopped_at o here waiting m l) = (n ≤ tally_open o) × Fits (length (listed_roles here.below)) waiting × IsKeyed here.below × OpenKeyed o

by_turn-grows : (n : ℕ) (d : HeldDoc) (done left : List RoleTree) (t : Turn) (next : RoleTree → Names → Turns) → has_keys d.below ≡ true → RolesKeyed left → n ≤ tally_roles done + (1 + length left) → TurnGrows t
    → ((s : RoleTree) (l : Names) → 1 ≤ tally_role s → TurnsGrow n (next s l)) → TurnsGrow n (by_turn d done left t next)
by_turn-grows n d done left (past s l) next keyed kl le h k = k s l h
by_turn-grows n d done left (stopped e here waiting m l) next keyed kl le h k = let more : n ≤ length left + 1 + tally_roles done = omega (arith, le) in (more, h.0, h.1, (keyed, kl))

-- where there are no delegations there is nothing to do
abbrev Suits : ℕ → HeldDoc → List RoleTree → Type 0
Suits n d left = (has_keys d.below ≡ true) ⊎ ((n ≡ 0) × (left ≡ []))

turns-grow : (metas : Metas) (n : ℕ) (d : HeldDoc) (left done : List RoleTree) (l : Names) → Suits n d left → RolesKeyed left → n ≤ tally_roles done + length left → TurnsGrow n (turns metas l d done left)
turns-grow metas n d [] done l (inl keyed) kl le = omega (arith, le, refilled-size done d.below keyed)
turns-grow metas n d [] done l (inr none) kl le = omega (arith, none.0)
turns-grow metas n d (r ∷ left) done l (inr none) kl le = absurd (cc (none.1))
turns-grow metas n d (r ∷ left) done l (inl keyed) kl le =
    by_turn-grows n d done left (turn metas l r) (λ s k. turns metas k d (done ++ s ∷ []) left) keyed kl.1 (omega (arith, le)) (turn-grows metas l r kl.0)
    (λ s k one. turns-grow metas n d left (done ++ s ∷ []) k (inl keyed) kl.1 (omega (arith, le, one, roles-last done s)))

-- ---- the work

-- so many were fetched
abbrev pub ProgressGrows : ℕ → Progress → Type 0
ProgressGrows n (wants w m) = (n + length w.waiting ≤ tally_work w) × (1 ≤ length w.waiting) × WorkKeyed w
ProgressGrows n (grown t) = n ≤ length (entries t.role)

by_turns-grow : (n k : ℕ) (outer : List OpenDoc) (t : Turns) (next : HeldDoc → Names → Progress) → AllKeyed outer → n ≤ k + tally_opens outer → TurnsGrow k t
    → ((d : HeldDoc) (l : Names) → k ≤ size_below d.below → ProgressGrows n (next d l)) → ProgressGrows n (by_turns outer t next)
by_turns-grow n k outer (all_past d l) next ko le h f = f d l h
by_turns-grow n k outer (stopped_at o here waiting m l) next ko le h f =
    let more : n + length waiting ≤ length (listed_roles here.below) + (tally_open o + tally_opens outer) = omega (arith, le, h.0, h.1.0) in
    (more, h.1.1, ((h.3, ko), h.2, tt))

settle-grows : (metas : Metas) (n : ℕ) (outer : List OpenDoc) (h : HeldDoc) (l : Names) → AllKeyed outer → n ≤ size_below h.below + tally_opens outer → ProgressGrows n (settle metas l h outer)
settle-grows metas n [] h l ko le = omega (arith, le, entries-size h.below)
settle-grows metas n (o ∷ outer) h l ko le =
    let k = size_below h.below + tally_open o in
    let all = o.done ++ (o.role, Some h) ∷ [] in
    let sum : k ≤ tally_roles all + length o.left = omega (arith, roles-last o.done (o.role, Some h), entries-size h.below) in
    by_turns-grow n k outer (taken_up metas l h o) (λ d s. settle metas s d outer) ko.1 (omega (arith, le)) (turns-grow metas k o.document o.left all l (inl ko.0.0) ko.0.1 sum)
    (λ d s more. settle-grows metas n outer d s ko.1 (omega (arith, le, more)))

suited : (w : WorkDoc) → IsKeyed w.here.below → Suits (length (listed_roles w.here.below)) (with_roles [] w.here) (with_fetched w.fetched (listed_roles w.here.below))
suited w (inl keyed) = inl (refilled-keys [] w.here.below ∙ keyed)
suited w (inr none) = inr (ap (λ es. length es) none, ap (λ es. with_fetched w.fetched es) none)

give-grows : (metas : Metas) (n : ℕ) (w : WorkDoc) → WorkKeyed w → n ≤ tally_work w → ProgressGrows n (give metas w)
give-grows metas n w keyed le =
    let all = listed_roles w.here.below in
    by_turns-grow n (length all) w.outer (turns metas w.loaded (with_roles [] w.here) [] (with_fetched w.fetched all)) (λ d l. settle metas l d w.outer) keyed.0 le
    (turns-grow metas (length all) (with_roles [] w.here) (with_fetched w.fetched all) [] w.loaded (suited w keyed.1) (fetched-keyed all w.fetched keyed.2) (omega (arith, fetched-size w.fetched all)))
    (λ d l more. settle-grows metas n w.outer d l keyed.0 (omega (arith, le, more)))

by_look-grows : (metas : Metas) (n : ℕ) (w : WorkDoc) (l : Look) → WorkKeyed w → n + length w.waiting ≤ tally_work w → LookFits (length w.waiting) l → ProgressGrows n (by_look metas w l)
by_look-grows metas n w through keyed le x = give-grows metas n w keyed (omega (arith, le))
by_look-grows metas n w (unlisted name) keyed le x = settle-grows metas n w.outer w.here (add name w.loaded) keyed.0 (omega (arith, le, listed-size w.here.below))
by_look-grows metas n w (wanted waiting m) keyed le x = let less : n + length waiting ≤ tally_work w = omega (arith, le, x.0) in (less, x.1, keyed)

pub go_on-grows : (metas : Metas) (n : ℕ) (w : WorkDoc) → WorkKeyed w → n + length w.waiting ≤ tally_work w → ProgressGrows n (go_on metas w)
go_on-grows metas n w keyed le = by_look-grows metas n w (look metas w.loaded w.waiting) keyed le (look-fits metas w.loaded (length w.waiting) w.waiting (omega arith))

pub begun-grows : (metas : Metas) (top : HeldDoc) → IsKeyed top.below → ProgressGrows 0 (begun metas top)
begun-grows metas top keyed = go_on-grows metas 0 (first_work top) (tt, keyed, tt) (omega arith)

kept-grows : (metas : Metas) (n : ℕ) (w : WorkDoc) (h : HeldDoc) (waiting : List Entry) → WorkKeyed w → IsKeyed h.below → 1 ≤ length waiting → n + length waiting ≤ tally_work w + 1
    → ProgressGrows n (go_on metas (with_taken w waiting h))
kept-grows metas n w h [] keyed kh one le = absurd (omega (arith, one))
kept-grows metas n w h (e ∷ rest) keyed kh one le =
    go_on-grows metas n (with_taken w (e ∷ rest) h) (keyed.0, keyed.1, inserted-keyed e.name h w.fetched kh keyed.2) (omega (arith, le))

-- one more was fetched, and it is given
pub taken-grows : (metas : Metas) (n : ℕ) (w : WorkDoc) (h : HeldDoc) → WorkKeyed w → IsKeyed h.below → 1 ≤ length w.waiting → n + length w.waiting ≤ tally_work w + 1
    → ProgressGrows n (go_on metas (with_taken w w.waiting h))
taken-grows metas n w h keyed kh one le = kept-grows metas n w h w.waiting keyed kh one le
