-- What a legal journal says of any two of its entries.
use Rattle.std.proofs.Common.{◌≡◌, ℕ, ℤ, ◌≤◌, ◌≤ℤ◌, List, [], ◌∷◌, ◌++◌, Option, None, Some, Bool, true, false, nat_le, refl, ap, ◌∙◌, subst, arith}
use Rattle.std.proofs.lemmas.Bool.Decides.{nat_tests}
use Rattle.std.specs.Int.Signed.{≤ℤ_refl}
use Rattle.tough_vault.proofs.Instants.{no_later}
use Rattle.tough_checks.specs.Versions.{Pair, Item, version_in, Roles}
use Rattle.tough_vault.specs.Journal.{Note, Noted, Root, Timestamp, Snapshot, Cleared, Document, Broken, Last, no_tip, applied, replay, Follows, Rises, Legal, NothingGoesBack, RootsRise, KeepsNames, PairAtMost, RolesAtMost, has_at_least, has_cleared}

rises-behind : (tip : Last) (xs ys : List Note) → Rises tip (xs ++ ys) → Rises (replay tip xs) ys
rises-behind tip [] ys h = h
rises-behind tip (x ∷ xs) ys h = rises-behind (applied tip x) xs ys h.1

pub legal : (notes : List Note) (tip : Last) → replay no_tip notes ≡ tip → Rises no_tip notes → Legal notes tip
legal notes tip r h = record {
  replays = r;
  rises = λ before n after is. (rises-behind no_tip before (n ∷ after) (subst (λ (ns : List Note). Rises no_tip ns) is h)).0;
}

-- the same, but for roots
abbrev pub DocumentFollows : Last → Note → Type 0
DocumentFollows tip (Root v c) = Unit {0}
DocumentFollows tip (Noted t) = Follows tip (Noted t)
DocumentFollows tip (Timestamp p had) = Follows tip (Timestamp p had)
DocumentFollows tip (Snapshot r had) = Follows tip (Snapshot r had)
DocumentFollows tip Cleared = Unit {0}
DocumentFollows tip (Document name) = Unit {0}
DocumentFollows tip Broken = Unit {0}

abbrev pub DocumentsRise : Last → List Note → Type 0
DocumentsRise tip [] = Unit {0}
DocumentsRise tip (n ∷ ns) = DocumentFollows tip n × DocumentsRise (applied tip n) ns

document-follows : (tip : Last) (n : Note) → Follows tip n → DocumentFollows tip n
document-follows tip (Root v c) h = tt
document-follows tip (Noted t) h = h
document-follows tip (Timestamp p had) h = h
document-follows tip (Snapshot r had) h = h
document-follows tip Cleared h = tt
document-follows tip (Document name) h = tt
document-follows tip Broken h = tt

documents-rise : (tip : Last) (ns : List Note) → Rises tip ns → DocumentsRise tip ns
documents-rise tip [] h = tt
documents-rise tip (n ∷ ns) h = (document-follows tip n h.0, documents-rise (applied tip n) ns h.1)

documents-behind : (tip : Last) (xs ys : List Note) → DocumentsRise tip (xs ++ ys) → DocumentsRise (replay tip xs) ys
documents-behind tip [] ys h = h
documents-behind tip (x ∷ xs) ys h = documents-behind (applied tip x) xs ys h.1

pub documents-append : (tip : Last) (ns : List Note) (n : Note) → DocumentsRise tip ns → DocumentFollows (replay tip ns) n → DocumentsRise tip (ns ++ n ∷ [])
documents-append tip [] n h f = (f, tt)
documents-append tip (x ∷ ns) n h f = (h.0, documents-append (applied tip x) ns n h.1 f)

pair_trans : (p q r : Pair) → PairAtMost p q → PairAtMost q r → PairAtMost p r
pair_trans p q r a b = (omega (arith, a.0, b.0), omega (arith, a.1, b.1))

more : (v w : ℕ) (o : Option ℕ) → nat_le v w ≡ true → has_at_least w o ≡ true → has_at_least v o ≡ true
more v w None h k = absurd (cc)
more v w (Some u) h k = grind (arith, nat_tests)

keeps_from : (v : ℕ) (name : List ℕ) (b c : List Item) (o : Option ℕ) → version_in b name ≡ o → has_at_least v o ≡ true → KeepsNames b c → has_at_least v (version_in c name) ≡ true
keeps_from v name b c None e h k = absurd (cc)
keeps_from v name b c (Some w) e h k = more v w (version_in c name) h (k name w e)

names_trans : (a b c : List Item) → KeepsNames a b → KeepsNames b c → KeepsNames a c
names_trans a b c h k name v e = keeps_from v name b c (version_in b name) refl (h name v e) k

roles_trans : (p q r : Roles) → RolesAtMost p q → RolesAtMost q r → RolesAtMost p r
roles_trans p q r a b = (omega (arith, a.0, b.0), names_trans p.items q.items r.items a.1 b.1)

pair_refl : (p : Pair) → PairAtMost p p
pair_refl p = (omega arith, omega arith)

le_self : (v : ℕ) → nat_le v v ≡ true
le_self v = grind (arith, nat_tests)

at_least_self : (v : ℕ) (o : Option ℕ) → o ≡ Some v → has_at_least v o ≡ true
at_least_self v o e = ap (has_at_least v) e ∙ le_self v

roles_refl : (r : Roles) → RolesAtMost r r
roles_refl r = (omega arith, λ name v e. at_least_self v (version_in r.items name) e)

-- what the tip isn't below stays so up to the next clearing
pair_stays : (p q : Pair) (tip : Last) (ys zs : List Note) (r : Pair) (b : Bool) → tip.timestamp ≡ Some q → PairAtMost p q → DocumentsRise tip (ys ++ Timestamp r b ∷ zs) → has_cleared ys ≡ false → PairAtMost p r
pair_stays p q tip [] zs r b t a l n = pair_trans p q r a (l.0 q t)
pair_stays p q tip (Noted u ∷ ys) zs r b t a l n = pair_stays p q (applied tip (Noted u)) ys zs r b t a l.1 n
pair_stays p q tip (Root u true ∷ ys) zs r b t a l n = absurd (cc (n))
pair_stays p q tip (Root u false ∷ ys) zs r b t a l n = pair_stays p q (applied tip (Root u false)) ys zs r b t a l.1 n
pair_stays p q tip (Timestamp w o ∷ ys) zs r b t a l n = pair_stays p w (applied tip (Timestamp w o)) ys zs r b refl (pair_trans p q w a (l.0 q t)) l.1 n
pair_stays p q tip (Snapshot w o ∷ ys) zs r b t a l n = pair_stays p q (applied tip (Snapshot w o)) ys zs r b t a l.1 n
pair_stays p q tip (Cleared ∷ ys) zs r b t a l n = absurd (cc (n))
pair_stays p q tip (Document d ∷ ys) zs r b t a l n = pair_stays p q tip ys zs r b t a l.1 n
pair_stays p q tip (Broken ∷ ys) zs r b t a l n = pair_stays p q tip ys zs r b t a l.1 n

roles_stay : (p q : Roles) (tip : Last) (ys zs : List Note) (r : Roles) (b : Bool) → tip.snapshot ≡ Some q → RolesAtMost p q → DocumentsRise tip (ys ++ Snapshot r b ∷ zs) → has_cleared ys ≡ false → RolesAtMost p r
roles_stay p q tip [] zs r b t a l n = roles_trans p q r a (l.0 q t)
roles_stay p q tip (Noted u ∷ ys) zs r b t a l n = roles_stay p q (applied tip (Noted u)) ys zs r b t a l.1 n
roles_stay p q tip (Root u true ∷ ys) zs r b t a l n = absurd (cc (n))
roles_stay p q tip (Root u false ∷ ys) zs r b t a l n = roles_stay p q (applied tip (Root u false)) ys zs r b t a l.1 n
roles_stay p q tip (Timestamp w o ∷ ys) zs r b t a l n = roles_stay p q (applied tip (Timestamp w o)) ys zs r b t a l.1 n
roles_stay p q tip (Snapshot w o ∷ ys) zs r b t a l n = roles_stay p w (applied tip (Snapshot w o)) ys zs r b refl (roles_trans p q w a (l.0 q t)) l.1 n
roles_stay p q tip (Cleared ∷ ys) zs r b t a l n = absurd (cc (n))
roles_stay p q tip (Document d ∷ ys) zs r b t a l n = roles_stay p q tip ys zs r b t a l.1 n
roles_stay p q tip (Broken ∷ ys) zs r b t a l n = roles_stay p q tip ys zs r b t a l.1 n

-- the same for roots alone
abbrev pub RootFollows : Last → Note → Type 0
RootFollows tip (Root v c) = Follows tip (Root v c)
RootFollows tip (Noted t) = Unit {0}
RootFollows tip (Timestamp p had) = Unit {0}
RootFollows tip (Snapshot r had) = Unit {0}
RootFollows tip Cleared = Unit {0}
RootFollows tip (Document name) = Unit {0}
RootFollows tip Broken = Unit {0}

abbrev pub RootsFollow : Last → List Note → Type 0
RootsFollow tip [] = Unit {0}
RootsFollow tip (n ∷ ns) = RootFollows tip n × RootsFollow (applied tip n) ns

root-follows : (tip : Last) (n : Note) → Follows tip n → RootFollows tip n
root-follows tip (Root v c) h = h
root-follows tip (Noted t) h = tt
root-follows tip (Timestamp p had) h = tt
root-follows tip (Snapshot r had) h = tt
root-follows tip Cleared h = tt
root-follows tip (Document name) h = tt
root-follows tip Broken h = tt

roots-follow : (tip : Last) (ns : List Note) → Rises tip ns → RootsFollow tip ns
roots-follow tip [] h = tt
roots-follow tip (n ∷ ns) h = (root-follows tip n h.0, roots-follow (applied tip n) ns h.1)

roots-behind : (tip : Last) (xs ys : List Note) → RootsFollow tip (xs ++ ys) → RootsFollow (replay tip xs) ys
roots-behind tip [] ys h = h
roots-behind tip (x ∷ xs) ys h = roots-behind (applied tip x) xs ys h.1

pub roots-append : (tip : Last) (ns : List Note) (n : Note) → RootsFollow tip ns → RootFollows (replay tip ns) n → RootsFollow tip (ns ++ n ∷ [])
roots-append tip [] n h f = (f, tt)
roots-append tip (x ∷ ns) n h f = (h.0, roots-append (applied tip x) ns n h.1 f)

-- no root after the tip's is older
root_stays : (p q : ℕ) (tip : Last) (ys zs : List Note) (r : ℕ) (b : Bool) → tip.root ≡ Some q → p ≤ q → RootsFollow tip (ys ++ Root r b ∷ zs) → p ≤ r
root_stays p q tip [] zs r b t a l = let h = l.0 q t in omega (arith, a, h)
root_stays p q tip (Noted u ∷ ys) zs r b t a l = root_stays p q (applied tip (Noted u)) ys zs r b t a l.1
root_stays p q tip (Root u c ∷ ys) zs r b t a l = let h = l.0 q t in root_stays p u (applied tip (Root u c)) ys zs r b refl (omega (arith, a, h)) l.1
root_stays p q tip (Timestamp w o ∷ ys) zs r b t a l = root_stays p q (applied tip (Timestamp w o)) ys zs r b t a l.1
root_stays p q tip (Snapshot w o ∷ ys) zs r b t a l = root_stays p q (applied tip (Snapshot w o)) ys zs r b t a l.1
root_stays p q tip (Cleared ∷ ys) zs r b t a l = root_stays p q (applied tip Cleared) ys zs r b t a l.1
root_stays p q tip (Document d ∷ ys) zs r b t a l = root_stays p q tip ys zs r b t a l.1
root_stays p q tip (Broken ∷ ys) zs r b t a l = root_stays p q tip ys zs r b t a l.1

time_stays : (p q : ℤ) (tip : Last) (ys zs : List Note) (r : ℤ) → tip.time ≡ Some q → p ≤ℤ q → DocumentsRise tip (ys ++ Noted r ∷ zs) → p ≤ℤ r
time_stays p q tip [] zs r t a l = no_later p q r a (l.0 q t)
time_stays p q tip (Noted u ∷ ys) zs r t a l = time_stays p u (applied tip (Noted u)) ys zs r refl (no_later p q u a (l.0 q t)) l.1
time_stays p q tip (Root u c ∷ ys) zs r t a l = time_stays p q (applied tip (Root u c)) ys zs r t a l.1
time_stays p q tip (Timestamp w o ∷ ys) zs r t a l = time_stays p q (applied tip (Timestamp w o)) ys zs r t a l.1
time_stays p q tip (Snapshot w o ∷ ys) zs r t a l = time_stays p q (applied tip (Snapshot w o)) ys zs r t a l.1
time_stays p q tip (Cleared ∷ ys) zs r t a l = time_stays p q (applied tip Cleared) ys zs r t a l.1
time_stays p q tip (Document d ∷ ys) zs r t a l = time_stays p q tip ys zs r t a l.1
time_stays p q tip (Broken ∷ ys) zs r t a l = time_stays p q tip ys zs r t a l.1

pub documents_go_on : (notes : List Note) → DocumentsRise no_tip notes → NothingGoesBack notes
documents_go_on notes h = record {
  timestamps = λ xs ys zs p q a b is n.
      let here = documents-behind no_tip xs (Timestamp p a ∷ (ys ++ Timestamp q b ∷ zs)) (subst (λ (ns : List Note). DocumentsRise no_tip ns) is h) in
      pair_stays p p (applied (replay no_tip xs) (Timestamp p a)) ys zs q b refl (pair_refl p) here.1 n;
  snapshots = λ xs ys zs p q a b is n.
      let here = documents-behind no_tip xs (Snapshot p a ∷ (ys ++ Snapshot q b ∷ zs)) (subst (λ (ns : List Note). DocumentsRise no_tip ns) is h) in
      roles_stay p p (applied (replay no_tip xs) (Snapshot p a)) ys zs q b refl (roles_refl p) here.1 n;
  times = λ xs ys zs p q is.
      let here = documents-behind no_tip xs (Noted p ∷ (ys ++ Noted q ∷ zs)) (subst (λ (ns : List Note). DocumentsRise no_tip ns) is h) in
      time_stays p p (applied (replay no_tip xs) (Noted p)) ys zs q refl (≤ℤ_refl p) here.1;
}

pub nothing_goes_back : (notes : List Note) → Rises no_tip notes → NothingGoesBack notes
nothing_goes_back notes h = documents_go_on notes (documents-rise no_tip notes h)

le_refl : (v : ℕ) → v ≤ v
le_refl v = omega arith

pub roots_go_on : (notes : List Note) → RootsFollow no_tip notes → RootsRise notes
roots_go_on notes h = record {
  roots = λ xs ys zs v w a b is.
      let here = roots-behind no_tip xs (Root v a ∷ (ys ++ Root w b ∷ zs)) (subst (λ (ns : List Note). RootsFollow no_tip ns) is h) in
      root_stays v v (applied (replay no_tip xs) (Root v a)) ys zs w b refl (le_refl v) here.1;
}

pub roots_rise : (notes : List Note) → Rises no_tip notes → RootsRise notes
roots_rise notes h = roots_go_on notes (roots-follow no_tip notes h)
