-- A tree all of whose roles have documents grows from these, each taken where it is wanted.
use Rattle.std.specs.Bool.{⊤}
use Rattle.std.proofs.Common.{◌≡◌, ℕ, List, [], ◌∷◌, ◌++◌, Bool, true, false, ◌||◌, if◌then◌else◌, cond, Option, Some, None, is_some, option_map, nat_cmp, is_eq, Ordering, Less, Equal, Greater, refl, inl, inr, ap, sym, ◌∙◌, subst, ◌⊎◌, append_assoc, append-nil}
use Rattle.std.specs.Str.{bytes_eq}
use Rattle.std.specs.List.{AllByRecursion}
use Rattle.std.specs.Cmp.Lexicographic.{slice_cmp}
use Rattle.std.specs.Map.{lookup, remove_entry}
use Rattle.std.specs.BTreeMap.{insert_entry}
use Rattle.std.specs.Ordering.{match_ordering}
use Rattle.std.proofs.lemmas.Slice.Eq.{bytes_eq-Decides}
use Rattle.std.proofs.lemmas.Map.Text.{is_eq-slice_cmp}
use Rattle.tough_decoded.specs.Spelled.{Spelled}
use Rattle.tough_keys.specs.Key.{KeyDoc}
use Rattle.serde_json.specs.Data.{Members}
use Rattle.tough_roles.specs.Head.{Head}
use Rattle.tough_roles.specs.Signature.{SignatureDoc, SignedDoc}
use Rattle.tough_roles.specs.Timestamp.{MetafileDoc}
use Rattle.tough_schema.specs.Delegations.{DelegationsDoc}
use Rattle.tough_schema.specs.Targets.{TargetsDoc}
use Rattle.tough_schema.specs.Tree.{Listing, Entry}
use Rattle.tough_schema.specs.Update.{listed_roles}
use Rattle.tough_schema.specs.Search.{Names, no_names, add}
use Rattle.tough_schema.specs.Fresh.{carriers, carriers_below}
use Rattle.tough_schema.specs.Whole.{OwnDoc, TreeDoc, tree, Branches, no_branches, unloaded, loaded, branches_from, HeldDoc, RoleTree, entries_in, top_doc}
use Rattle.tough_trust.specs.delegations.Bare.{all_unloaded, bare_tree, bare, held_as}
use Rattle.tough_update.specs.delegations.Growing.{Metas, listed_as, Look, wanted, look, Fetched, at_name}
use Rattle.tough_update.proofs.growth.Levels.{with_fetched, refilled, with_roles, OpenDoc, past, turn_by_look, by_turn, turns, WorkDoc, Progress, wants, grown, by_turns, settle, give, by_look, go_on, begun}
use Rattle.tough_update.specs.growth.Once.{is_among, Distinct}
use Rattle.tough_update.specs.growth.Under.{Relation, Under, Below}
use Rattle.tough_update.specs.growth.Full.{AreFull, IsFull, names_of, fetch_order, inner_order}
use Rattle.tough_trust.proofs.lemmas.Bare.{entries-unloaded, top-bare}

-- ---- names

or-off : (a b : Bool) → a ≡ false → b ≡ false → (a || b) ≡ false
or-off a b h k = ap (λ x. x || b) h ∙ k

or-halves : (a b : Bool) → (a || b) ≡ false → (a ≡ false) × (b ≡ false)
or-halves true b h = absurd (cc)
or-halves false b h = (refl, h)

turned : (x y : List ℕ) (b : Bool) → bytes_eq y x ≡ b → bytes_eq x y ≡ false → bytes_eq y x ≡ false
turned x y true e h = let same : x ≡ y = sym ((bytes_eq-Decides y x).0 e) in cc ((bytes_eq-Decides x y).1 same)
turned x y false e h = e

other-way : (x y : List ℕ) → bytes_eq x y ≡ false → bytes_eq y x ≡ false
other-way x y h = turned x y (bytes_eq y x) refl h

-- none of the names was loaded
abbrev Apart : Names → List (List ℕ) → Type 0
Apart seen xs = AllByRecursion (λ x. seen x ≡ false) xs

-- none of them stands among those
abbrev Beside : List (List ℕ) → List (List ℕ) → Type 0
Beside ys xs = AllByRecursion (λ x. is_among x ys ≡ false) xs

apart-add : (n : List ℕ) (seen : Names) (xs : List (List ℕ)) → Apart seen xs → is_among n xs ≡ false → Apart (add n seen) xs
apart-add n seen [] a h = tt
apart-add n seen (x ∷ xs) a h =
    let both = or-halves (bytes_eq x n) (is_among n xs) h in
    (or-off (bytes_eq n x) (seen x) (other-way x n both.0) a.0, apart-add n seen xs a.1 both.1)

apart-front : (seen : Names) (xs ys : List (List ℕ)) → Apart seen (xs ++ ys) → Apart seen xs
apart-front seen [] ys h = tt
apart-front seen (x ∷ xs) ys h = (h.0, apart-front seen xs ys h.1)

apart-back : (seen : Names) (xs ys : List (List ℕ)) → Apart seen (xs ++ ys) → Apart seen ys
apart-back seen [] ys h = h
apart-back seen (x ∷ xs) ys h = apart-back seen xs ys h.1

among-front : (n : List ℕ) (xs ys : List (List ℕ)) → is_among n (xs ++ ys) ≡ false → is_among n xs ≡ false
among-front n [] ys h = refl
among-front n (x ∷ xs) ys h = let both = or-halves (bytes_eq x n) (is_among n (xs ++ ys)) h in or-off (bytes_eq x n) (is_among n xs) both.0 (among-front n xs ys both.1)

among-back : (n : List ℕ) (xs ys : List (List ℕ)) → is_among n (xs ++ ys) ≡ false → is_among n ys ≡ false
among-back n [] ys h = h
among-back n (x ∷ xs) ys h = among-back n xs ys (or-halves (bytes_eq x n) (is_among n (xs ++ ys)) h).1

distinct-front : (xs ys : List (List ℕ)) → Distinct (xs ++ ys) → Distinct xs
distinct-front [] ys h = tt
distinct-front (x ∷ xs) ys h = (among-front x xs ys h.0, distinct-front xs ys h.1)

distinct-back : (xs ys : List (List ℕ)) → Distinct (xs ++ ys) → Distinct ys
distinct-back [] ys h = h
distinct-back (x ∷ xs) ys h = distinct-back xs ys h.1

beside-more : (x : List ℕ) (xs ys : List (List ℕ)) → is_among x ys ≡ false → Beside xs ys → Beside (x ∷ xs) ys
beside-more x xs [] h b = tt
beside-more x xs (y ∷ ys) h b =
    let both = or-halves (bytes_eq y x) (is_among x ys) h in
    (or-off (bytes_eq x y) (is_among y xs) (other-way y x both.0) b.0, beside-more x xs ys both.1 b.1)

beside-none : (ys : List (List ℕ)) → Beside [] ys
beside-none [] = tt
beside-none (y ∷ ys) = (refl, beside-none ys)

distinct-beside : (xs ys : List (List ℕ)) → Distinct (xs ++ ys) → Beside xs ys
distinct-beside [] ys h = beside-none ys
distinct-beside (x ∷ xs) ys h = beside-more x xs ys (among-back x xs ys h.0) (distinct-beside xs ys h.1)

-- the names that are loaded once all roles have had their turns
abbrev mutual
  pub after : Names → Branches → Names
  after seen no_branches = seen
  after seen (unloaded e bs) = after seen bs
  after seen (loaded e name signatures t bs) = after (after_below (add e.name seen) t) bs

  pub after_below : Names → TreeDoc → Names
  after_below seen (tree o bs) = after seen bs

mutual
  after-is : (x : List ℕ) (seen : Names) (bs : Branches) → seen x ≡ false → is_among x (carriers bs) ≡ false → after seen bs x ≡ false
  after-is x seen no_branches h k = h
  after-is x seen (unloaded e bs) h k = after-is x seen bs h k
  after-is x seen (loaded e name signatures t bs) h k =
      let both = or-halves (bytes_eq e.name x) (is_among x (carriers_below t ++ carriers bs)) k in
      let now : add e.name seen x ≡ false = or-off (bytes_eq e.name x) (seen x) both.0 h in
      after-is x (after_below (add e.name seen) t) bs (after_below-is x (add e.name seen) t now (among-front x (carriers_below t) (carriers bs) both.1)) (among-back x (carriers_below t) (carriers bs) both.1)

  after_below-is : (x : List ℕ) (seen : Names) (t : TreeDoc) → seen x ≡ false → is_among x (carriers_below t) ≡ false → after_below seen t x ≡ false
  after_below-is x seen (tree o bs) h k = after-is x seen bs h k

mutual
  before-is : (x : List ℕ) (seen : Names) (bs : Branches) → after seen bs x ≡ false → seen x ≡ false
  before-is x seen no_branches h = h
  before-is x seen (unloaded e bs) h = before-is x seen bs h
  before-is x seen (loaded e name signatures t bs) h =
      (or-halves (bytes_eq e.name x) (seen x) (before_below-is x (add e.name seen) t (before-is x (after_below (add e.name seen) t) bs h))).1

  before_below-is : (x : List ℕ) (seen : Names) (t : TreeDoc) → after_below seen t x ≡ false → seen x ≡ false
  before_below-is x seen (tree o bs) h = before-is x seen bs h

-- each name is new where its role has its turn
abbrev mutual
  New : Names → Branches → Type 0
  New seen no_branches = ⊤
  New seen (unloaded e bs) = ⊥
  New seen (loaded e name signatures t bs) = (seen e.name ≡ false) × NewBelow (add e.name seen) t × New (after_below (add e.name seen) t) bs

  NewBelow : Names → TreeDoc → Type 0
  NewBelow seen (tree o bs) = New seen bs

apart-after : (seen : Names) (t : TreeDoc) (xs : List (List ℕ)) → Apart seen xs → Beside (carriers_below t) xs → Apart (after_below seen t) xs
apart-after seen t [] h k = tt
apart-after seen t (x ∷ xs) h k = (after_below-is x seen t h.0 k.0, apart-after seen t xs h.1 k.1)

mutual
  new-from : (seen : Names) (bs : Branches) → AreFull bs → Distinct (carriers bs) → Apart seen (carriers bs) → New seen bs
  new-from seen no_branches f d a = tt
  new-from seen (unloaded e bs) f d a = absurd f
  new-from seen (loaded e name signatures t bs) f d a =
      let now = add e.name seen in
      let rest : Apart now (carriers_below t ++ carriers bs) = apart-add e.name seen (carriers_below t ++ carriers bs) a.1 d.0 in (
        a.0,
        new_below-from now t f.1 (distinct-front (carriers_below t) (carriers bs) d.1) (apart-front now (carriers_below t) (carriers bs) rest),
        new-from (after_below now t) bs f.2 (distinct-back (carriers_below t) (carriers bs) d.1)
            (apart-after now t (carriers bs) (apart-back now (carriers_below t) (carriers bs) rest) (distinct-beside (carriers_below t) (carriers bs) d.1)),
      )

  new_below-from : (seen : Names) (t : TreeDoc) → IsFull t → Distinct (carriers_below t) → Apart seen (carriers_below t) → NewBelow seen t
  new_below-from seen (tree o bs) f d a = new-from seen bs f d a

apart-none : (xs : List (List ℕ)) → Apart no_names xs
apart-none [] = tt
apart-none (x ∷ xs) = (refl, apart-none xs)

apart-before : (seen : Names) (t : TreeDoc) (n : List ℕ) (xs : List (List ℕ)) → Apart (after_below (add n seen) t) xs → Apart seen xs
apart-before seen t n [] h = tt
apart-before seen t n (x ∷ xs) h = ((or-halves (bytes_eq n x) (seen x) (before_below-is x (add n seen) t h.0)).1, apart-before seen t n xs h.1)

apart-among : (seen : Names) (t : TreeDoc) (n : List ℕ) (xs : List (List ℕ)) → Apart (after_below (add n seen) t) xs → is_among n xs ≡ false
apart-among seen t n [] h = refl
apart-among seen t n (x ∷ xs) h =
    or-off (bytes_eq x n) (is_among n xs) (other-way n x (or-halves (bytes_eq n x) (seen x) (before_below-is x (add n seen) t h.0)).0) (apart-among seen t n xs h.1)

-- the names of a document's own roles are new before the first of them has its turn, and no two are one
own-new : (seen : Names) (bs : Branches) → New seen bs → Apart seen (names_of bs)
own-new seen no_branches h = tt
own-new seen (unloaded e bs) h = absurd h
own-new seen (loaded e name signatures t bs) h = (h.0, apart-before seen t e.name (names_of bs) (own-new (after_below (add e.name seen) t) bs h.2))

own-distinct : (seen : Names) (bs : Branches) → New seen bs → Distinct (names_of bs)
own-distinct seen no_branches h = tt
own-distinct seen (unloaded e bs) h = absurd h
own-distinct seen (loaded e name signatures t bs) h =
    (apart-among seen t e.name (names_of bs) (own-new (after_below (add e.name seen) t) bs h.2), own-distinct (after_below (add e.name seen) t) bs h.2)

-- ---- what was fetched, by name

abbrev found_by : List ℕ → Fetched → Option HeldDoc
found_by n f = lookup (at_name n) f

put-other : (o : Ordering) (q k : List ℕ) (v : HeldDoc) (f : List ℕ × HeldDoc) (fs gs : Fetched) → slice_cmp nat_cmp k f.0 ≡ o → bytes_eq q k ≡ false → found_by q gs ≡ found_by q fs
    → found_by q (match_ordering o ((k, v) ∷ f ∷ fs) ((f.0, v) ∷ fs) (f ∷ gs)) ≡ found_by q (f ∷ fs)
put-other Less q k v f fs gs e h r = ap (λ b. cond b (Some v) (found_by q (f ∷ fs))) (is_eq-slice_cmp q k ∙ h)
put-other Equal q k v f fs gs e h r =
    let same : k ≡ f.0 = (bytes_eq-Decides k f.0).0 (sym (is_eq-slice_cmp k f.0) ∙ ap is_eq e) in
    let off : is_eq (slice_cmp nat_cmp q f.0) ≡ false = is_eq-slice_cmp q f.0 ∙ ap (bytes_eq q) (sym same) ∙ h in
    ap (λ b. cond b (Some v) (found_by q fs)) off ∙ sym (ap (λ b. cond b (Some f.1) (found_by q fs)) off)
put-other Greater q k v f fs gs e h r = ap (λ (o : Option HeldDoc). cond (at_name q f.0) (Some f.1) o) r

found-other : (q k : List ℕ) (v : HeldDoc) (fs : Fetched) → bytes_eq q k ≡ false → found_by q (insert_entry (slice_cmp nat_cmp) fs k v) ≡ found_by q fs
found-other q k v [] h = ap (λ b. cond b (Some v) None) (is_eq-slice_cmp q k ∙ h)
found-other q k v (f ∷ fs) h = put-other (slice_cmp nat_cmp k f.0) q k v f fs (insert_entry (slice_cmp nat_cmp) fs k v) refl h (found-other q k v fs h)

same-key : (k : List ℕ) → at_name k k ≡ true
same-key k = is_eq-slice_cmp k k ∙ (bytes_eq-Decides k k).1 refl

put-same : (o : Ordering) (k : List ℕ) (v : HeldDoc) (f : List ℕ × HeldDoc) (fs gs : Fetched) → slice_cmp nat_cmp k f.0 ≡ o → found_by k gs ≡ Some v
    → found_by k (match_ordering o ((k, v) ∷ f ∷ fs) ((f.0, v) ∷ fs) (f ∷ gs)) ≡ Some v
put-same Less k v f fs gs e r = ap (λ b. cond b (Some v) (found_by k (f ∷ fs))) (same-key k)
put-same Equal k v f fs gs e r = ap (λ b. cond b (Some v) (found_by k fs)) (ap is_eq e)
put-same Greater k v f fs gs e r = ap (λ b. cond b (Some f.1) (found_by k gs)) (ap is_eq e) ∙ r

found-same : (k : List ℕ) (v : HeldDoc) (fs : Fetched) → found_by k (insert_entry (slice_cmp nat_cmp) fs k v) ≡ Some v
found-same k v [] = ap (λ b. cond b (Some v) None) (same-key k)
found-same k v (f ∷ fs) = put-same (slice_cmp nat_cmp k f.0) k v f fs (insert_entry (slice_cmp nat_cmp) fs k v) refl (found-same k v fs)

left-other : (b : Bool) (q k : List ℕ) (f : List ℕ × HeldDoc) (fs gs : Fetched) → at_name k f.0 ≡ b → bytes_eq q k ≡ false → found_by q gs ≡ found_by q fs → found_by q (cond b fs (f ∷ gs)) ≡ found_by q (f ∷ fs)
left-other true q k f fs gs e h r =
    let same : k ≡ f.0 = (bytes_eq-Decides k f.0).0 (sym (is_eq-slice_cmp k f.0) ∙ e) in
    let off : is_eq (slice_cmp nat_cmp q f.0) ≡ false = is_eq-slice_cmp q f.0 ∙ ap (bytes_eq q) (sym same) ∙ h in
    sym (ap (λ b. cond b (Some f.1) (found_by q fs)) off)
left-other false q k f fs gs e h r = ap (λ (o : Option HeldDoc). cond (at_name q f.0) (Some f.1) o) r

found-left : (q k : List ℕ) (fs : Fetched) → bytes_eq q k ≡ false → found_by q (remove_entry (at_name k) fs) ≡ found_by q fs
found-left q k [] h = refl
found-left q k (f ∷ fs) h = left-other (at_name k f.0) q k f fs (remove_entry (at_name k) fs) refl h (found-left q k fs h)

-- ---- the documents of a list

-- the document of a role as it was read, and with all that is below it
abbrev bare_held : List ℕ → List SignatureDoc → TreeDoc → HeldDoc
bare_held name signatures t = held_as name (bare (record { role = top_doc t; signatures = signatures }))

abbrev full_held : List ℕ → List SignatureDoc → TreeDoc → HeldDoc
full_held name signatures t = record { name = name; signatures = signatures; below = t }

abbrev offers : Branches → List RoleTree
offers no_branches = []
offers (unloaded e bs) = (e, None) ∷ offers bs
offers (loaded e name signatures t bs) = (e, Some (bare_held e.name signatures t)) ∷ offers bs

abbrev fulls : Branches → List RoleTree
fulls no_branches = []
fulls (unloaded e bs) = (e, None) ∷ fulls bs
fulls (loaded e name signatures t bs) = (e, Some (full_held e.name signatures t)) ∷ fulls bs

fulls-are : (bs : Branches) → AreFull bs → branches_from (fulls bs) ≡ bs
fulls-are no_branches f = refl
fulls-are (unloaded e bs) f = absurd f
fulls-are (loaded e name signatures t bs) f = ap (λ n. loaded e n signatures t (branches_from (fulls bs))) (sym f.0) ∙ ap (loaded e name signatures t) (fulls-are bs f.2)

abbrev filled : Fetched → Branches → Fetched
filled f no_branches = f
filled f (unloaded e bs) = filled f bs
filled f (loaded e name signatures t bs) = filled (insert_entry (slice_cmp nat_cmp) f e.name (bare_held e.name signatures t)) bs

-- each role's document was fetched
abbrev HasAll : Fetched → Branches → Type 0
HasAll f no_branches = ⊤
HasAll f (unloaded e bs) = ⊥
HasAll f (loaded e name signatures t bs) = (found_by e.name f ≡ Some (bare_held e.name signatures t)) × HasAll f bs

filled-other : (q : List ℕ) (f : Fetched) (bs : Branches) → is_among q (names_of bs) ≡ false → found_by q (filled f bs) ≡ found_by q f
filled-other q f no_branches h = refl
filled-other q f (unloaded e bs) h = filled-other q f bs (or-halves (bytes_eq e.name q) (is_among q (names_of bs)) h).1
filled-other q f (loaded e name signatures t bs) h =
    let both = or-halves (bytes_eq e.name q) (is_among q (names_of bs)) h in
    filled-other q (insert_entry (slice_cmp nat_cmp) f e.name (bare_held e.name signatures t)) bs both.1 ∙ found-other q e.name (bare_held e.name signatures t) f (other-way e.name q both.0)

filled-all : (f : Fetched) (bs : Branches) → AreFull bs → Distinct (names_of bs) → HasAll (filled f bs) bs
filled-all f no_branches g d = tt
filled-all f (unloaded e bs) g d = absurd g
filled-all f (loaded e name signatures t bs) g d =
    let v = bare_held e.name signatures t in
    let more = insert_entry (slice_cmp nat_cmp) f e.name v in
    (filled-other e.name more bs d.0 ∙ found-same e.name v f, filled-all more bs g.2 d.1)

has-left : (k : List ℕ) (f : Fetched) (bs : Branches) → is_among k (names_of bs) ≡ false → HasAll f bs → HasAll (remove_entry (at_name k) f) bs
has-left k f no_branches h a = tt
has-left k f (unloaded e bs) h a = absurd a
has-left k f (loaded e name signatures t bs) h a =
    let both = or-halves (bytes_eq e.name k) (is_among k (names_of bs)) h in (found-left e.name k f both.0 ∙ a.0, has-left k f bs both.1 a.1)

offer_for : (f : Fetched) (bs : Branches) → Distinct (names_of bs) → HasAll f bs → with_fetched f (entries_in bs) ≡ offers bs
offer_for f no_branches d a = refl
offer_for f (unloaded e bs) d a = absurd a
offer_for f (loaded e name signatures t bs) d a =
    ap (λ (o : Option HeldDoc). (e, o) ∷ with_fetched (remove_entry (at_name e.name) f) (entries_in bs)) a.0
    ∙ ap (λ (rs : List RoleTree). (e, Some (bare_held e.name signatures t)) ∷ rs) (offer_for (remove_entry (at_name e.name) f) bs d.1 (has-left e.name f bs d.0 a.1))

-- ---- a document whose roles were taken out, and put in

bare-at : (h : Head) (l : Listing) (k : Option (List (Spelled × KeyDoc))) (x : Members) (bs : Branches) → (is_some k ≡ true) ⊎ (bs ≡ no_branches)
    → bare_tree (top_doc (tree (record { head = h; targets = l; keys = k; extra = x }) bs)) ≡ tree (record { head = h; targets = l; keys = k; extra = x }) (all_unloaded (entries_in bs))
bare-at h l (Some ks) x bs c = refl
bare-at h l None x bs (inl e) = cc
bare-at h l None x bs (inr e) = ap (λ (cs : Branches). tree (record { head = h; targets = l; keys = None; extra = x }) (all_unloaded (entries_in cs))) (sym e)

refilled-at : (b : Bool) (o : OwnDoc) (bs : Branches) → AreFull bs → (b ≡ true) ⊎ (bs ≡ no_branches)
    → tree o (if b then branches_from (fulls bs) else (if b then branches_from [] else all_unloaded (entries_in bs))) ≡ tree o bs
refilled-at true o bs f c = ap (tree o) (fulls-are bs f)
refilled-at false o bs f (inl e) = cc
refilled-at false o bs f (inr e) = ap (λ (cs : Branches). tree o (all_unloaded (entries_in cs))) e ∙ sym (ap (tree o) e)

look-new : (metas : Metas) (seen : Names) (e : Entry) (rest : List Entry) (m : MetafileDoc) → seen e.name ≡ false → listed_as metas e.name ≡ Some m → look metas seen (e ∷ rest) ≡ wanted (e ∷ rest) m
look-new metas seen e rest m h k = rw (h, k) refl

abbrev pub work : List OpenDoc → Names → HeldDoc → Fetched → List Entry → WorkDoc
work outer seen here f waiting = record { outer = outer; loaded = seen; here = here; fetched = f; waiting = waiting }

-- `Goes names p q`: from p the documents of these roles lead to q. Each that is wanted may be taken, where U holds of it.
module _ (metas : Metas) (U : Relation) (Goes : List (List ℕ) → Progress → Progress → Type 0)
    (nothing : (p : Progress) → Goes [] p p)
    (chained : (xs ys : List (List ℕ)) (p q r : Progress) → Goes xs p q → Goes ys q r → Goes (xs ++ ys) p r)
    (lists : (g : Option DelegationsDoc) (n : List ℕ) (page : SignedDoc TargetsDoc) → U g n page → (m : MetafileDoc) × (listed_as metas n ≡ Some m))
    (keyed : (n : List ℕ) (page : SignedDoc TargetsDoc) → U None n page → ⊥)
    (takes : (outer : List OpenDoc) (seen : Names) (here : HeldDoc) (f : Fetched) (e : Entry) (rest : List Entry) (page : SignedDoc TargetsDoc) (u : U (top_doc here.below).delegations e.name page)
    → Goes (e.name ∷ []) (wants (work outer seen here f (e ∷ rest)) (lists (top_doc here.below).delegations e.name page u).0) (go_on metas (work outer seen here (insert_entry (slice_cmp nat_cmp) f e.name (held_as e.name (bare page))) rest))) where
  -- ---- the documents of a list are fetched

  keys-at : (k : Option (List (Spelled × KeyDoc))) (es : List Entry) (n : List ℕ) (page : SignedDoc TargetsDoc) → U (option_map (λ ks. record { keys = ks; roles = es }) k) n page → {A : Type 0} → (is_some k ≡ true) ⊎ A
  keys-at None es n page u = absurd (keyed n page u)
  keys-at (Some ks) es n page u = inl refl

  has-keys : (o : OwnDoc) (bs : Branches) → Under U (top_doc (tree o bs)).delegations bs → AreFull bs → (is_some o.keys ≡ true) ⊎ (bs ≡ no_branches)
  has-keys o no_branches u f = inr refl
  has-keys o (unloaded e bs) u f = absurd f
  has-keys o (loaded e name signatures t bs) u f = keys-at o.keys (entries_in (loaded e name signatures t bs)) e.name (record { role = top_doc t; signatures = signatures }) u.0

  fetches : (outer : List OpenDoc) (seen : Names) (here : HeldDoc) (f : Fetched) (bs : Branches) → AreFull bs → Under U (top_doc here.below).delegations bs → Apart seen (names_of bs)
      → Goes (names_of bs) (go_on metas (work outer seen here f (entries_in bs))) (give metas (work outer seen here (filled f bs) []))
  fetches outer seen here f no_branches g u a = nothing (give metas (work outer seen here f []))
  fetches outer seen here f (unloaded e bs) g u a = absurd g
  fetches outer seen here f (loaded e name signatures t bs) g u a =
      let page : SignedDoc TargetsDoc = record { role = top_doc t; signatures = signatures } in
      let listed = lists (top_doc here.below).delegations e.name page u.0 in
      let w = work outer seen here f (e ∷ entries_in bs) in
      let more = insert_entry (slice_cmp nat_cmp) f e.name (bare_held e.name signatures t) in
      let first : Goes (e.name ∷ []) (go_on metas w) (go_on metas (work outer seen here more (entries_in bs))) =
      subst (λ (l : Look). Goes (e.name ∷ []) (by_look metas w l) (go_on metas (work outer seen here more (entries_in bs)))) (sym (look-new metas seen e (entries_in bs) listed.0 a.0 listed.1))
      (takes outer seen here f e (entries_in bs) page u.0) in
      chained (e.name ∷ []) (names_of bs) (go_on metas w) (go_on metas (work outer seen here more (entries_in bs))) (give metas (work outer seen here (filled more bs) [])) first (fetches outer seen here more bs g.2 u.2 a.1)

  -- ---- the roles have their turns

  abbrev next : List OpenDoc → HeldDoc → Names → Progress
  next outer h seen = settle metas seen h outer

  -- the roles that are left have theirs, where these had them
  abbrev turning : List OpenDoc → Names → HeldDoc → List RoleTree → List RoleTree → Progress
  turning outer seen d done left = by_turns outer (turns metas seen d done left) (next outer)

  abbrev start : List OpenDoc → Names → HeldDoc → Progress
  start outer seen h = go_on metas (work outer seen h [] (listed_roles h.below))

  -- the turn of a role whose name is new
  abbrev entering : List OpenDoc → Names → HeldDoc → List RoleTree → Entry → HeldDoc → List RoleTree → Progress
  entering outer seen d done e h left =
      by_turns outer (by_turn d done left (turn_by_look e h seen (look metas seen (listed_roles h.below))) (λ s l. turns metas l d (done ++ s ∷ []) left)) (next outer)

  abbrev opened : HeldDoc → List RoleTree → Entry → List RoleTree → OpenDoc
  opened d done e left = record { document = d; done = done; role = e; left = left }

  -- a document without roles is complete; the list of another one is begun
  enters : (outer : List OpenDoc) (seen : Names) (d : HeldDoc) (done left : List RoleTree) (e : Entry) (signatures : List SignatureDoc) (t : TreeDoc) → IsFull t → Below U t → NewBelow seen t
      → Goes (fetch_order t) (start (opened d done e left ∷ outer) seen (bare_held e.name signatures t)) (settle metas (after_below seen t) (full_held e.name signatures t) (opened d done e left ∷ outer))
      → Goes (fetch_order t) (entering outer seen d done e (bare_held e.name signatures t) left) (turning outer (after_below seen t) d (done ++ (e, Some (full_held e.name signatures t)) ∷ []) left)
  enters outer seen d done left e signatures (tree o no_branches) f u n go =
      subst (λ (t : TreeDoc). Goes [] (entering outer seen d done e (full_held e.name signatures t) left) (turning outer seen d (done ++ (e, Some (full_held e.name signatures (tree o no_branches))) ∷ []) left))
      (sym (bare-at o.head o.targets o.keys o.extra no_branches (inr refl))) (nothing (turning outer seen d (done ++ (e, Some (full_held e.name signatures (tree o no_branches))) ∷ []) left))
  enters outer seen d done left e signatures (tree o (unloaded x bs)) f u n go = absurd f
  enters outer seen d done left e signatures (tree o (loaded x name ss t bs)) f u n go =
      let whole = tree o (loaded x name ss t bs) in
      let h = bare_held e.name signatures whole in
      let left_over = turning outer (after_below seen whole) d (done ++ (e, Some (full_held e.name signatures whole)) ∷ []) left in
      let listed = lists (top_doc whole).delegations x.name (record { role = top_doc t; signatures = ss }) u.0 in
      let waits : listed_roles h.below ≡ x ∷ entries_in bs = ap listed_roles (bare-at o.head o.targets o.keys o.extra (loaded x name ss t bs) (has-keys o (loaded x name ss t bs) u f)) ∙ entries-unloaded (x ∷ entries_in bs) in
      let looks : look metas seen (listed_roles h.below) ≡ wanted (x ∷ entries_in bs) listed.0 = ap (look metas seen) waits ∙ look-new metas seen x (entries_in bs) listed.0 n.0 listed.1 in
      let w = work (opened d done e left ∷ outer) seen h [] (x ∷ entries_in bs) in
      let same : entering outer seen d done e h left ≡ start (opened d done e left ∷ outer) seen h =
      ap (λ (l : Look). by_turns outer (by_turn d done left (turn_by_look e h seen l) (λ s v. turns metas v d (done ++ s ∷ []) left)) (next outer)) looks
      ∙ sym (ap (λ (es : List Entry). go_on metas (work (opened d done e left ∷ outer) seen h [] es)) waits ∙ ap (by_look metas w) (look-new metas seen x (entries_in bs) listed.0 n.0 listed.1)) in
      subst (λ (p : Progress). Goes (fetch_order whole) p left_over) (sym same) go

  mutual
    takes_turns : (outer : List OpenDoc) (seen : Names) (d : HeldDoc) (done : List RoleTree) (g : Option DelegationsDoc) (bs : Branches) → AreFull bs → Under U g bs → New seen bs
        → Goes (inner_order bs) (turning outer seen d done (offers bs)) (settle metas (after seen bs) (with_roles (done ++ fulls bs) d) outer)
    takes_turns outer seen d done g no_branches f u n =
        subst (λ (rs : List RoleTree). Goes [] (settle metas seen (with_roles done d) outer) (settle metas seen (with_roles rs d) outer)) (sym (append-nil done)) (nothing (settle metas seen (with_roles done d) outer))
    takes_turns outer seen d done g (unloaded e bs) f u n = absurd f
    takes_turns outer seen d done g (loaded e name signatures t bs) f u n =
        let now = add e.name seen in
        let later = after_below now t in
        let full : RoleTree = (e, Some (full_held e.name signatures t)) in
        let hb = bare_held e.name signatures t in
        let left = offers bs in
        let inside = grows (opened d done e left ∷ outer) now e.name signatures t f.1 u.1 n.1 in
        let first = enters outer now d done left e signatures t f.1 u.1 n.1 inside in
        let end = settle metas (after later bs) (with_roles ((done ++ full ∷ []) ++ fulls bs) d) outer in
        let rest : Goes (inner_order bs) (turning outer later d (done ++ full ∷ []) left) end = takes_turns outer later d (done ++ full ∷ []) g bs f.2 u.2 n.2 in
        let both : Goes (fetch_order t ++ inner_order bs) (entering outer now d done e hb left) end = chained (fetch_order t) (inner_order bs) (entering outer now d done e hb left) (turning outer later d (done ++ full ∷ []) left) end first rest in
        let turned_up : turning outer seen d done ((e, Some hb) ∷ left) ≡ entering outer now d done e hb left =
        ap (λ (b : Bool). by_turns outer (by_turn d done left (if b then past (e, None) seen else turn_by_look e hb now (look metas now (listed_roles hb.below))) (λ s l. turns metas l d (done ++ s ∷ []) left)) (next outer)) n.0 in
        subst (λ (p : Progress). Goes (fetch_order t ++ inner_order bs) p (settle metas (after later bs) (with_roles (done ++ full ∷ fulls bs) d) outer)) (sym turned_up)
        (subst (λ (rs : List RoleTree). Goes (fetch_order t ++ inner_order bs) (entering outer now d done e hb left) (settle metas (after later bs) (with_roles rs d) outer)) (append_assoc done (full ∷ []) (fulls bs)) both)

    grows : (outer : List OpenDoc) (seen : Names) (name : List ℕ) (signatures : List SignatureDoc) (t : TreeDoc) → IsFull t → Below U t → NewBelow seen t
        → Goes (fetch_order t) (start outer seen (bare_held name signatures t)) (settle metas (after_below seen t) (full_held name signatures t) outer)
    grows outer seen name signatures (tree o bs) f u n =
        let t = tree o bs in
        let h = bare_held name signatures t in
        let keys = has-keys o bs u f in
        let below : h.below ≡ tree o (all_unloaded (entries_in bs)) = bare-at o.head o.targets o.keys o.extra bs keys in
        let waits : listed_roles h.below ≡ entries_in bs = ap listed_roles below ∙ entries-unloaded (entries_in bs) in
        let held : top_doc h.below ≡ top_doc t = ap (λ (x : SignedDoc TargetsDoc). x.role) (top-bare (record { role = top_doc t; signatures = signatures })) in
        let under : Under U (top_doc h.below).delegations bs = subst (λ (x : TargetsDoc). Under U x.delegations bs) (sym held) u in
        let all = filled [] bs in
        let got = work outer seen h all [] in
        let end = settle metas (after seen bs) (full_held name signatures t) outer in
        let first : Goes (names_of bs) (start outer seen h) (give metas got) =
        subst (λ (es : List Entry). Goes (names_of bs) (go_on metas (work outer seen h [] es)) (give metas got)) (sym waits) (fetches outer seen h [] bs f under (own-new seen bs n)) in
        let given_all : with_fetched all (listed_roles h.below) ≡ offers bs = ap (with_fetched all) waits ∙ offer_for all bs (own-distinct seen bs n) (filled-all [] bs f (own-distinct seen bs n)) in
        let whole : with_roles ([] ++ fulls bs) (with_roles [] h) ≡ full_held name signatures t =
        ap (λ (x : TreeDoc). full_held name signatures (refilled (fulls bs) (refilled [] x))) below ∙ ap (full_held name signatures) (refilled-at (is_some o.keys) o bs f keys) in
        let turns_all : Goes (inner_order bs) (turning outer seen (with_roles [] h) [] (offers bs)) (settle metas (after seen bs) (with_roles (fulls bs) (with_roles [] h)) outer) = takes_turns outer seen (with_roles [] h) [] (top_doc t).delegations bs f u n in
        let second : Goes (inner_order bs) (give metas got) end =
        subst (λ (rs : List RoleTree). Goes (inner_order bs) (turning outer seen (with_roles [] h) [] rs) end) (sym given_all)
        (subst (λ (x : HeldDoc). Goes (inner_order bs) (turning outer seen (with_roles [] h) [] (offers bs)) (settle metas (after seen bs) x outer)) whole turns_all) in
        chained (names_of bs) (inner_order bs) (start outer seen h) (give metas got) end first second

  -- the whole tree
  pub grows-whole : (t : SignedDoc TreeDoc) → IsFull t.role → Below U t.role → Distinct (carriers_below t.role)
      → Goes (fetch_order t.role) (begun metas (held_as [] (bare (record { role = top_doc t.role; signatures = t.signatures })))) (grown t)
  grows-whole t f u d = grows [] no_names [] t.signatures t.role f u (new_below-from no_names t.role f d (apart-none (carriers_below t.role)))
