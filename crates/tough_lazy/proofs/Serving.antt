-- A document that is added from the files of a whole load is the one that this load has in its place.
use Rattle.std.proofs.Common.{◌≡◌, ℕ, List, [], ◌∷◌, Bool, true, false, cond, Option, Some, None, refl, sym, ap, subst, ◌∙◌}
use Rattle.tough_keys.specs.Same.{Verifies}
use Rattle.tough_names.specs.Named.{Named}
use Rattle.tough_roles.specs.Signature.{SignedDoc}
use Rattle.tough_roles.specs.Timestamp.{MetafileDoc}
use Rattle.tough_schema.specs.Below.{branches_in}
use Rattle.tough_schema.specs.Delegations.{DelegationsDoc}
use Rattle.tough_schema.specs.Putting.{role_on, role_along, role_below}
use Rattle.tough_schema.specs.Targets.{TargetsDoc}
use Rattle.tough_schema.specs.Tree.{Entry}
use Rattle.tough_schema.specs.Whole.{TreeDoc, tree, Branches, no_branches, unloaded, loaded, HeldDoc, RoleTree, top_doc}
use Rattle.tough_trust.specs.Listed.{targets_in}
use Rattle.tough_trust.specs.Requests.{role_request}
use Rattle.tough_trust.specs.delegations.Bare.{bare, held_as}
use Rattle.tough_update.specs.Delegated.{metas_in}
use Rattle.tough_update.specs.Loadable.{Files, IsServedUnder, Loadable}
use Rattle.tough_update.specs.Stages.{KnownDoc, LoadedDoc, SettingDoc}
use Rattle.tough_update.specs.delegations.Growing.{listed_as}
use Rattle.tough_update.specs.growth.Full.{AreFull, IsFull}
use Rattle.tough_update.specs.growth.Under.{Relation, Under, Below, page_of}
use Rattle.tough_lazy.specs.Course.{needed}
use Rattle.tough_lazy.specs.Documents.{AddedDoc, IsDocument, file_for, sought_in, with_document}
use Rattle.tough_lazy.specs.Extending.{Extends, ExtendsIn, ExtendsHeld}
use Rattle.tough_lazy.proofs.Beginning.{bare-extends, full-keys, served-never}
use Rattle.tough_lazy.proofs.Extended.{ExtendsAt, is_at_end, same_end, along-under}
use Rattle.tough_lazy.proofs.Needed.{needed-bare}
use Rattle.tough_lazy.proofs.Vouching.{passed}

-- ---- the role at a place, in a tree that has more

abbrev MoreAt : Option RoleTree → Option RoleTree → Type 0
MoreAt None o = Unit {0}
MoreAt (Some r) None = ⊥
MoreAt (Some r) (Some x) = (r.0 ≡ x.0) × ExtendsAt r.1 x.1

more_choice : (b : Bool) (r x o q : Option RoleTree) → MoreAt r x → MoreAt o q → MoreAt (cond b r o) (cond b x q)
more_choice true r x o q h k = h
more_choice false r x o q h k = k

more_role : (p : ℕ) (r x : RoleTree) (bs cs : Branches) → ExtendsIn bs cs → (r.0 ≡ x.0) × ExtendsAt r.1 x.1 → MoreAt (role_on p bs) (role_on p cs)
    → MoreAt (cond (is_at_end p bs) (Some r) (role_on p bs)) (cond (is_at_end p cs) (Some x) (role_on p cs))
more_role p r x bs cs more here behind =
    subst (λ (b : Bool). MoreAt (cond (is_at_end p bs) (Some r) (role_on p bs)) (cond b (Some x) (role_on p cs))) (same_end p bs cs more)
    (more_choice (is_at_end p bs) (Some r) (Some x) (role_on p bs) (role_on p cs) here behind)

on-more : (p : ℕ) (bs cs : Branches) → ExtendsIn bs cs → MoreAt (role_on p bs) (role_on p cs)
on-more p no_branches no_branches x = tt
on-more p no_branches (unloaded f cs) x = absurd x
on-more p no_branches (loaded f m rs u cs) x = absurd x
on-more p (unloaded e bs) no_branches x = absurd x
on-more p (unloaded e bs) (unloaded f cs) x = more_role p (e, None) (f, None) bs cs x.1 (x.0, tt) (on-more p bs cs x.1)
on-more p (unloaded e bs) (loaded f m rs u cs) x = more_role p (e, None) (f, Some (record { name = m; signatures = rs; below = u })) bs cs x.1 (x.0, tt) (on-more p bs cs x.1)
on-more p (loaded e n ss t bs) no_branches x = absurd x
on-more p (loaded e n ss t bs) (unloaded f cs) x = absurd x
on-more p (loaded e n ss t bs) (loaded f m rs u cs) x =
    more_role p (e, Some (record { name = n; signatures = ss; below = t })) (f, Some (record { name = m; signatures = rs; below = u })) bs cs x.4
    (x.0, record { name = x.1; signatures = x.2; below = x.3 }) (on-more p bs cs x.4)

on-more-in : (p : ℕ) (t u : TreeDoc) → Extends t u → MoreAt (role_on p (branches_in t)) (role_on p (branches_in u))
on-more-in p (tree o bs) (tree q cs) x = on-more p bs cs x.1

-- ---- the role at a place, where each role has its document

module _ (U : Relation) where
  -- it has its document, which stands so under these delegations, and so on below it
  abbrev HasOne : Option DelegationsDoc → RoleTree → Type 0
  HasOne g (e, None) = ⊥
  HasOne g (e, Some d) = (d.name ≡ e.name) × IsFull d.below × U g e.name (page_of d) × Below U d.below

  abbrev HasOneAt : Option DelegationsDoc → Option RoleTree → Type 0
  HasOneAt g None = Unit {0}
  HasOneAt g (Some r) = HasOne g r

  one_choice : (g : Option DelegationsDoc) (b : Bool) (o q : Option RoleTree) → HasOneAt g o → HasOneAt g q → HasOneAt g (cond b o q)
  one_choice g true o q h k = h
  one_choice g false o q h k = k

  on-full : (p : ℕ) (g : Option DelegationsDoc) (bs : Branches) → AreFull bs → Under U g bs → HasOneAt g (role_on p bs)
  on-full p g no_branches full under = tt
  on-full p g (unloaded e bs) full under = absurd full
  on-full p g (loaded e n ss t bs) full under =
      one_choice g (is_at_end p bs) (Some (e, Some (record { name = n; signatures = ss; below = t }))) (role_on p bs) (full.0, full.1, under.0, under.1) (on-full p g bs full.2 under.2)

  on-full-in : (p : ℕ) (t : TreeDoc) → IsFull t → Below U t → HasOneAt (top_doc t).delegations (role_on p (branches_in t))
  on-full-in p (tree o bs) full under = on-full p (top_doc (tree o bs)).delegations bs full under

  -- this role of the entry has its document
  pub record Ends (o : Option RoleTree) (e : Entry) : Type 0 where
    pub holder : Option DelegationsDoc
    pub held : HeldDoc
    pub there : o ≡ Some (e, Some held)
    pub name : held.name ≡ e.name
    pub full : IsFull held.below
    pub page : U holder e.name (page_of held)
    pub below : Below U held.below

  ends_here : (g : Option DelegationsDoc) (e f : Entry) (d : HeldDoc) → f ≡ e → HasOne g (f, Some d) → Ends (Some (f, Some d)) e
  ends_here g e f d same one = subst (λ (x : Entry). Ends (Some (f, Some d)) x) same (record { holder = g; held = d; there = refl; name = one.0; full = one.1; page = one.2; below = one.3 })

  ends_on : (ps : List ℕ) (e : Entry) (g : Option DelegationsDoc) (o q : Option RoleTree) → MoreAt o q → HasOneAt g q
      → ((t u : TreeDoc) → Extends t u → IsFull u → Below U u → role_along ps t ≡ Some (e, None) → Ends (role_along ps u) e)
      → role_below ps o ≡ Some (e, None) → Ends (role_below ps q) e
  ends_on [] e g None q more one rest is = cc
  ends_on (p ∷ ps) e g None q more one rest is = cc
  ends_on [] e g (Some r) None more one rest is = absurd more
  ends_on [] e g (Some r) (Some (f, None)) more one rest is = absurd one
  ends_on [] e g (Some r) (Some (f, Some d)) more one rest is = let same : r.0 ≡ e = cc in ends_here g e f d (sym more.0 ∙ same) one
  ends_on (p ∷ ps) e g (Some (f, None)) q more one rest is = cc
  ends_on (p ∷ ps) e g (Some (f, Some h)) None more one rest is = absurd more
  ends_on (p ∷ ps) e g (Some (f, Some h)) (Some (k, None)) more one rest is = absurd one
  ends_on (p ∷ ps) e g (Some (f, Some h)) (Some (k, Some d)) more one rest is = rest h.below d.below more.1.below one.1 one.3 is

  pub ends-along : (ps : List ℕ) (e : Entry) (t u : TreeDoc) → Extends t u → IsFull u → Below U u → role_along ps t ≡ Some (e, None) → Ends (role_along ps u) e
  ends-along [] e t u more full under is = cc
  ends-along (p ∷ ps) e t u more full under is =
      ends_on ps e (top_doc u).delegations (role_on p (branches_in t)) (role_on p (branches_in u)) (on-more-in p t u more) (on-full-in p u full under) (ends-along ps e) is

-- ---- the same file

some-same : {A : Type 0} (x y : A) (o : Option A) → o ≡ Some x → o ≡ Some y → x ≡ y
some-same x y o h k = cc

-- the page that is served for a role is the one that bytes of the same file are
served_page : (verifies : Verifies) (files : Files) (s : SettingDoc) (k : KnownDoc) (g : Option DelegationsDoc) (name : List ℕ) (page read : SignedDoc TargetsDoc) (m : MetafileDoc) (bytes : List ℕ)
    → IsServedUnder verifies files s k g name page → listed_as (metas_in k) name ≡ Some m → files (role_request s.limits k.root.role.consistent_snapshot name m).name ≡ Some bytes → targets_in bytes ≡ Some read → page ≡ read
served_page verifies files s k None name page read m bytes served listed file is = absurd served
served_page verifies files s k (Some g) name page read m bytes served listed file is =
    let entry : served.entry ≡ m = some-same served.entry m (listed_as (metas_in k) name) served.listed listed in
    let there : files (role_request s.limits k.root.role.consistent_snapshot name m).name ≡ Some served.document.bytes =
    subst (λ (x : MetafileDoc). files (role_request s.limits k.root.role.consistent_snapshot name x).name ≡ Some served.document.bytes) entry served.document.served in
    let same : served.document.bytes ≡ bytes = some-same served.document.bytes bytes (files (role_request s.limits k.root.role.consistent_snapshot name m).name) there file in
    some-same page read (targets_in bytes) (subst (λ (x : List ℕ). targets_in x ≡ Some page) same served.document.reading) is

-- a bare document of that page is extended by the document
held-extends : (name : List ℕ) (document : SignedDoc TreeDoc) (page : SignedDoc TargetsDoc) (d : HeldDoc) → document ≡ bare page → page_of d ≡ page → d.name ≡ name → Extends (bare (page_of d)).role d.below
    → ExtendsHeld (held_as name document) d
held-extends name document page d is same named more =
    subst (λ (x : SignedDoc TreeDoc). ExtendsHeld (held_as name x) d) (ap bare same ∙ sym is) (record { name = sym named; signatures = refl; below = more })

-- ---- with the document

module _ (verifies : Verifies) (files : Files) (s : SettingDoc) (name : Named) (w l : LoadedDoc) (a : AddedDoc) (load : Loadable verifies files s w) (known : l.known ≡ w.known) (is : IsDocument verifies s.limits s.enforced l a)
    (file : files (file_for s.limits l a.need a.entry).name ≡ Some a.bytes) where
  abbrev Served : Relation
  Served = IsServedUnder verifies files s w.known

  there_held : Ends Served (role_along a.need.way w.targets.role) a.need.entry → Extends l.targets.role w.targets.role → Extends (with_document a l).targets.role w.targets.role
  there_held e more =
      let p = passed verifies s.limits s.enforced l a is in
      let listed : listed_as (metas_in w.known) a.need.entry.name ≡ Some a.entry = subst (λ (k : KnownDoc). listed_as (metas_in k) a.need.entry.name ≡ Some a.entry) known is.listed in
      let there : files (role_request s.limits w.known.root.role.consistent_snapshot a.need.entry.name a.entry).name ≡ Some a.bytes =
      subst (λ (k : KnownDoc). files (role_request s.limits k.root.role.consistent_snapshot a.need.entry.name a.entry).name ≡ Some a.bytes) known file in
      let same = served_page verifies files s w.known e.holder a.need.entry.name (page_of e.held) p.page a.entry a.bytes e.page listed there p.reading in
      let held = held-extends a.need.entry.name a.document p.page e.held p.is same e.name (bare-extends e.held.below (full-keys Served e.held.below (served-never verifies files s w.known) e.full e.below)) in
      along-under a.need.way (held_as a.need.entry.name a.document) e.held a.need.entry l.targets.role w.targets.role held more e.there

  pub grows-below : Extends l.targets.role w.targets.role → sought_in name l ≡ needed a.need → Extends (with_document a l).targets.role w.targets.role
  grows-below more needs =
      there_held (ends-along Served a.need.way a.need.entry l.targets.role w.targets.role more load.full load.delegated (needed-bare name l.targets.role a.need needs)) more
