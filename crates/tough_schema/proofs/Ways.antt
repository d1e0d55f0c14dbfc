-- The way to a role, and another document at its end.
use Rattle.std.proofs.Common.{◌≡◌, ℕ, suc, ◌+◌, ◌<◌, ◌≤◌, List, [], ◌∷◌, ◌++◌, length, take, drop, get_or, reverse, Bool, true, false, cond, Bor, Option, Some, None, is_some, option_map, refl, sym, ap, subst, ◌∙◌, arith}
use Rattle.std.proofs.lemmas.List.{reverse-append, take_more, drop_more}
use Rattle.std.specs.Option.{option_or}
use Rattle.std.specs.Str.{bytes_eq}
use Rattle.tough_json.proofs.lemmas.Write.{some-inj}
use Rattle.tough_schema.specs.Tree.{Entry}
use Rattle.tough_roles.specs.declared.signed.Signed.{Signed}
use Rattle.tough_schema.specs.declared.delegations.DelegatedRole.{DelegatedRole, out-DelegatedRole}
use Rattle.tough_schema.specs.declared.targets.DelegatedTargets.{DelegatedTargets}
use Rattle.tough_schema.specs.Below.{branches_in, branches_under, count, work}
use Rattle.tough_schema.specs.Seek.{Sought, found, missing, undocumented, undelegated, if_found, or_next, if_delegated, sought, seek, seek_in, role_of}
use Rattle.tough_schema.specs.Whole.{TreeDoc, tree, Branches, no_branches, unloaded, loaded, HeldDoc, RoleTree, put_branch, role_tree, role_branches, held_doc}
use Rattle.tough_schema.specs.Put.{is_role, with_document, with_document_in}
use Rattle.tough_schema.specs.Putting.{wide, has, slot, role_on, role_along, role_below, filled, slot_in, filled_in, held_filled, way, way_in, way_through, rest_of, rest_work, is_first, places, held_along, along, IsOpen, IsOpenIn, turned_back}
use Rattle.tough_schema.proofs.lemmas.Wholes.{role-held}
use Rattle.tough_schema.proofs.Seeks.{count-roles}
use Rattle.tough_schema.proofs.Exchanges.{wide-put, wide-roles, on-here, on-behind, has-here, slot-here, filled-here, has-most, has-behind, slot-behind, filled-behind, slot-filled-in, filled-filled-in}

-- ---- there is a way where there is a role

found_below : (s next : Sought) → is_role s ≡ true → is_role (or_next (if_found s) next) ≡ true
found_below (found r) next h = refl
found_below missing next h = cc
found_below undocumented next h = cc
found_below undelegated next h = cc

gone_by : (s next : Sought) → is_role s ≡ false → or_next (if_found s) next ≡ next
gone_by (found r) next h = cc
gone_by missing next h = refl
gone_by undocumented next h = refl
gone_by undelegated next h = refl

bare_way : (b : Bool) (ps : List ℕ) (r : RoleTree) → is_some (cond b (Some ps) None) ≡ is_role (cond b (found r) undocumented)
bare_way true ps r = refl
bare_way false ps r = refl

below_way : (b : Bool) (ps : List ℕ) (r : RoleTree) (p : ℕ) (w v : Option (List ℕ)) (s next : Sought) → is_some w ≡ is_role s → is_some v ≡ is_role next
    → is_some (cond b (Some ps) (option_or (option_map (λ qs. p ∷ qs) w) v)) ≡ is_role (cond b (found r) (or_next (if_found s) next))
below_way true ps r p w v s next h k = refl
below_way false ps r p None v s next h k = k ∙ sym (ap is_role (gone_by s next (sym h)))
below_way false ps r p (Some qs) v s next h k = sym (found_below s next (sym h))

mutual
  way-role : (name : List ℕ) (bs : Branches) → is_some (way name bs) ≡ is_role (seek name bs)
  way-role name no_branches = refl
  way-role name (unloaded e bs) = bare_way (bytes_eq e.name name) (suc (wide bs) ∷ []) (e, None)
  way-role name (loaded e n ss t bs) =
      below_way (bytes_eq e.name name) (suc (wide bs) ∷ []) (e, Some (record { name = n; signatures = ss; below = t })) (suc (wide bs)) (way_in name t) (way name bs) (seek_in name t) (seek name bs) (way-role-in name t) (way-role name bs)

  way-role-in : (name : List ℕ) (t : TreeDoc) → is_some (way_in name t) ≡ is_role (seek_in name t)
  way-role-in name (tree o bs) = way-role name bs

-- ---- the document at its end is the one that is replaced

abbrev Leads : List ℕ → HeldDoc → Branches → Branches → Type 0
Leads [] h bs new = ⊥
Leads (p ∷ ps) h bs new = (has p bs ≡ true) × IsOpen ps (slot p bs) × (new ≡ filled p (held_along ps h (slot p bs)) bs)

abbrev LeadsIn : List ℕ → HeldDoc → TreeDoc → TreeDoc → Type 0
LeadsIn [] h t new = ⊥
LeadsIn (p ∷ ps) h t new = (has p (branches_in t) ≡ true) × IsOpen ps (slot_in p t) × (new ≡ filled_in p (held_along ps h (slot_in p t)) t)

leads_here : (ps : List ℕ) (h : HeldDoc) (r : RoleTree) (bs new : Branches) → IsOpen ps r.1 → new ≡ put_branch (r.0, held_along ps h r.1) bs → Leads (suc (wide bs) ∷ ps) h (put_branch r bs) new
leads_here ps h r bs new each same = (
  has-here r bs,
  subst (IsOpen ps) (sym (slot-here r bs)) each,
  same ∙ sym (filled-here (held_along ps h r.1) r bs) ∙ ap (λ (o : Option HeldDoc). filled (suc (wide bs)) (held_along ps h o) (put_branch r bs)) (sym (slot-here r bs)),
)

leads_behind : (ps : List ℕ) (h : HeldDoc) (r : RoleTree) (bs new : Branches) → Leads ps h bs new → Leads ps h (put_branch r bs) (put_branch r new)
leads_behind [] h r bs new l = absurd l
leads_behind (p ∷ ps) h r bs new l =
    let most = has-most p bs l.0 in (
      has-behind p r bs most ∙ l.0,
      subst (IsOpen ps) (sym (slot-behind p r bs most)) l.1,
      ap (put_branch r) l.2 ∙ sym (filled-behind p (held_along ps h (slot p bs)) r bs most) ∙ ap (λ (o : Option HeldDoc). filled p (held_along ps h o) (put_branch r bs)) (sym (slot-behind p r bs most)),
    )

open_below : (ps : List ℕ) (h d : HeldDoc) (new : TreeDoc) → LeadsIn ps h d.below new → IsOpen ps (Some d)
open_below [] h d new l = absurd l
open_below (p ∷ ps) h d new l = (l.0, l.1)

along_below : (ps : List ℕ) (h d : HeldDoc) (new : TreeDoc) → LeadsIn ps h d.below new → Some (record d { below = new }) ≡ held_along ps h (Some d)
along_below [] h d new l = absurd l
along_below (p ∷ ps) h d new l = ap (λ (t : TreeDoc). Some (record d { below = t })) l.2

leads_tree : (ps : List ℕ) (h : HeldDoc) (t new : TreeDoc) (bs after : Branches) → branches_in t ≡ bs → Leads ps h bs after → (filled_at : (p : ℕ) (o : Option HeldDoc) → after ≡ filled p o bs → new ≡ filled_in p o t) → LeadsIn ps h t new
leads_tree [] h t new bs after b l whole = absurd l
leads_tree (p ∷ ps) h t new bs after b l whole = (
  ap (has p) b ∙ l.0,
  subst (λ (x : Branches). IsOpen ps (slot p x)) (sym b) l.1,
  whole p (held_along ps h (slot_in p t)) (l.2 ∙ ap (λ (x : Branches). filled p (held_along ps h (slot p x)) bs) (sym b)),
)

module _ (name : List ℕ) (h : HeldDoc) (bs : Branches) where
  bare_leads : (b : Bool) (e : Entry) (ps : List ℕ) → cond b (Some (suc (wide bs) ∷ [])) None ≡ Some ps → Leads ps h (put_branch (e, None) bs) (cond b (put_branch (e, Some h) bs) (unloaded e bs))
  bare_leads true e ps w = subst (λ qs. Leads qs h (put_branch (e, None) bs) (put_branch (e, Some h) bs)) (some-inj w) (leads_here [] h (e, None) bs (put_branch (e, Some h) bs) tt refl)
  bare_leads false e ps w = cc

  module _ (e : Entry) (d : HeldDoc) (rest : (ps : List ℕ) → way name bs ≡ Some ps → Leads ps h bs (with_document_in name h bs)) where
    abbrev own : RoleTree
    own = (e, Some d)

    other_leads : (w : Option (List ℕ)) (c : Bool) (ps : List ℕ) → is_some w ≡ c → ((qs : List ℕ) → w ≡ Some qs → LeadsIn qs h d.below (with_document name h d.below))
        → option_or (option_map (λ qs. suc (wide bs) ∷ qs) w) (way name bs) ≡ Some ps
        → Leads ps h (put_branch own bs) (cond c (put_branch (e, Some (record d { below = with_document name h d.below })) bs) (put_branch own (with_document_in name h bs)))
    other_leads (Some qs) true ps is below w =
        let l = below qs refl in
        let after = put_branch (e, Some (record d { below = with_document name h d.below })) bs in
        subst (λ (x : List ℕ). Leads x h (put_branch own bs) after) (some-inj w) (leads_here qs h own bs after (open_below qs h d (with_document name h d.below) l) (ap (λ (o : Option HeldDoc). put_branch (e, o) bs) (along_below qs h d (with_document name h d.below) l)))
    other_leads (Some qs) false ps is below w = cc
    other_leads None true ps is below w = cc
    other_leads None false ps is below w = leads_behind ps h own bs (with_document_in name h bs) (rest ps w)

    loaded_leads : (b : Bool) (ps : List ℕ) → ((qs : List ℕ) → way_in name d.below ≡ Some qs → LeadsIn qs h d.below (with_document name h d.below))
        → cond b (Some (suc (wide bs) ∷ [])) (option_or (option_map (λ qs. suc (wide bs) ∷ qs) (way_in name d.below)) (way name bs)) ≡ Some ps
        → Leads ps h (put_branch own bs) (cond b (put_branch (e, Some h) bs) (cond (is_role (seek_in name d.below)) (put_branch (e, Some (record d { below = with_document name h d.below })) bs) (put_branch own (with_document_in name h bs))))
    loaded_leads true ps below w = subst (λ qs. Leads qs h (put_branch own bs) (put_branch (e, Some h) bs)) (some-inj w) (leads_here [] h own bs (put_branch (e, Some h) bs) tt refl)
    loaded_leads false ps below w = other_leads (way_in name d.below) (is_role (seek_in name d.below)) ps (way-role-in name d.below) below w

mutual
  leads : (name : List ℕ) (h : HeldDoc) (bs : Branches) (ps : List ℕ) → way name bs ≡ Some ps → Leads ps h bs (with_document_in name h bs)
  leads name h no_branches ps w = cc
  leads name h (unloaded e bs) ps w = bare_leads name h bs (bytes_eq e.name name) e ps w
  leads name h (loaded e n ss t bs) ps w =
      loaded_leads name h bs e (record { name = n; signatures = ss; below = t }) (leads name h bs) (bytes_eq e.name name) ps (leads-in name h t) w

  leads-in : (name : List ℕ) (h : HeldDoc) (t : TreeDoc) (ps : List ℕ) → way_in name t ≡ Some ps → LeadsIn ps h t (with_document name h t)
  leads-in name h (tree o bs) ps w = leads_tree ps h (tree o bs) (tree o (with_document_in name h bs)) bs (with_document_in name h bs) refl (leads name h bs ps w) (λ p x same. ap (tree o) same)

open_at : (ps : List ℕ) (h : HeldDoc) (t new : TreeDoc) → LeadsIn ps h t new → IsOpenIn ps t
open_at [] h t new l = absurd l
open_at (p ∷ ps) h t new l = (l.0, l.1)

along_at : (ps : List ℕ) (h : HeldDoc) (t new : TreeDoc) → LeadsIn ps h t new → along ps h t ≡ new
along_at [] h t new l = absurd l
along_at (p ∷ ps) h t new l = sym l.2

pub way-open : (name : List ℕ) (h : HeldDoc) (t : TreeDoc) (ps : List ℕ) → way_in name t ≡ Some ps → IsOpenIn ps t
way-open name h t ps w = open_at ps h t (with_document name h t) (leads-in name h t ps w)

pub way-along : (name : List ℕ) (h : HeldDoc) (t : TreeDoc) (ps : List ℕ) → way_in name t ≡ Some ps → along ps h t ≡ with_document name h t
way-along name h t ps w = along_at ps h t (with_document name h t) (leads-in name h t ps w)

found-in : {A : Type 0} (ks : Option A) (s : Sought) (r : RoleTree) → if_delegated ks s ≡ found r → is_role s ≡ true
found-in None s r h = cc
found-in (Some k) s r h = ap is_role h

sought-in : (name : List ℕ) (t : TreeDoc) (r : RoleTree) → sought name t ≡ found r → is_role (seek_in name t) ≡ true
sought-in name (tree o bs) r h = found-in o.keys (seek name bs) r h

-- where a role was found there is a way
pub some-way : (name : List ℕ) (t : TreeDoc) (r : RoleTree) → sought name t ≡ found r → way_in name t ≡ None → ⊥
some-way name t r h w = let none : false ≡ true = sym (ap is_some w) ∙ way-role-in name t ∙ sought-in name t r h in cc

-- ---- the role at its end is the one that is sought

abbrev Shows : List ℕ → Branches → Option RoleTree → Type 0
Shows [] bs o = ⊥
Shows (p ∷ ps) bs o = (p ≤ wide bs) × (role_below ps (role_on p bs) ≡ o)

shows_here : (ps : List ℕ) (r : RoleTree) (bs : Branches) (o : Option RoleTree) → role_below ps (Some r) ≡ o → Shows (suc (wide bs) ∷ ps) (put_branch r bs) o
shows_here ps r bs o h = (omega (arith, wide-put r bs), ap (role_below ps) (on-here r bs) ∙ h)

shows_behind : (ps : List ℕ) (r : RoleTree) (bs : Branches) (o : Option RoleTree) → Shows ps bs o → Shows ps (put_branch r bs) o
shows_behind [] r bs o s = absurd s
shows_behind (p ∷ ps) r bs o s = (omega (arith, s.0, wide-put r bs), ap (role_below ps) (on-behind p r bs s.0) ∙ s.1)

shows_below : (ps : List ℕ) (e : Entry) (d : HeldDoc) (o : Option RoleTree) → Shows ps (branches_in d.below) o → role_below ps (Some (e, Some d)) ≡ o
shows_below [] e d o s = absurd s
shows_below (p ∷ ps) e d o s = s.1

shows_along : (ps : List ℕ) (t : TreeDoc) (o : Option RoleTree) → Shows ps (branches_in t) o → role_along ps t ≡ o
shows_along [] t o s = absurd s
shows_along (p ∷ ps) t o s = s.1

found_of : (s next : Sought) → is_role s ≡ true → role_of (or_next (if_found s) next) ≡ role_of s
found_of (found r) next h = refl
found_of missing next h = cc
found_of undocumented next h = cc
found_of undelegated next h = cc

none_of : (s : Sought) → is_role s ≡ false → role_of s ≡ None
none_of (found r) h = cc
none_of missing h = refl
none_of undocumented h = refl
none_of undelegated h = refl

bare_shows : (b : Bool) (e : Entry) (bs : Branches) (ps : List ℕ) → cond b (Some (suc (wide bs) ∷ [])) None ≡ Some ps → Shows ps (put_branch (e, None) bs) (role_of (cond b (found (e, None)) undocumented))
bare_shows true e bs ps w = subst (λ (qs : List ℕ). Shows qs (put_branch (e, None) bs) (Some (e, None))) (some-inj w) (shows_here [] (e, None) bs (Some (e, None)) refl)
bare_shows false e bs ps w = cc

loaded_shows : (b : Bool) (e : Entry) (d : HeldDoc) (bs : Branches) (w v : Option (List ℕ)) (s next : Sought) (ps : List ℕ) → is_some w ≡ is_role s
    → ((qs : List ℕ) → w ≡ Some qs → Shows qs (branches_in d.below) (role_of s)) → ((qs : List ℕ) → v ≡ Some qs → Shows qs bs (role_of next))
    → cond b (Some (suc (wide bs) ∷ [])) (option_or (option_map (λ qs. suc (wide bs) ∷ qs) w) v) ≡ Some ps
    → Shows ps (put_branch (e, Some d) bs) (role_of (cond b (found (e, Some d)) (or_next (if_found s) next)))
loaded_shows true e d bs w v s next ps is below rest h = subst (λ (qs : List ℕ). Shows qs (put_branch (e, Some d) bs) (Some (e, Some d))) (some-inj h) (shows_here [] (e, Some d) bs (Some (e, Some d)) refl)
loaded_shows false e d bs (Some qs) v s next ps is below rest h =
    let o = role_of (or_next (if_found s) next) in
    subst (λ (x : List ℕ). Shows x (put_branch (e, Some d) bs) o) (some-inj h) (shows_here qs (e, Some d) bs o (shows_below qs e d (role_of s) (below qs refl) ∙ sym (found_of s next (sym is))))
loaded_shows false e d bs None v s next ps is below rest h =
    subst (λ (x : Sought). Shows ps (put_branch (e, Some d) bs) (role_of x)) (sym (gone_by s next (sym is))) (shows_behind ps (e, Some d) bs (role_of next) (rest ps h))

mutual
  shows : (name : List ℕ) (bs : Branches) (ps : List ℕ) → way name bs ≡ Some ps → Shows ps bs (role_of (seek name bs))
  shows name no_branches ps w = cc
  shows name (unloaded e bs) ps w = bare_shows (bytes_eq e.name name) e bs ps w
  shows name (loaded e n ss t bs) ps w =
      loaded_shows (bytes_eq e.name name) e (record { name = n; signatures = ss; below = t }) bs (way_in name t) (way name bs) (seek_in name t) (seek name bs) ps (way-role-in name t) (shows-in name t) (shows name bs) w

  shows-in : (name : List ℕ) (t : TreeDoc) (ps : List ℕ) → way_in name t ≡ Some ps → Shows ps (branches_in t) (role_of (seek_in name t))
  shows-in name (tree o bs) ps w = shows name bs ps w

pub way-lends : (name : List ℕ) (t : TreeDoc) (ps : List ℕ) → way_in name t ≡ Some ps → role_along ps t ≡ role_of (seek_in name t)
way-lends name t ps w = shows_along ps t (role_of (seek_in name t)) (shows-in name t ps w)

pub no-way : (name : List ℕ) (t : TreeDoc) → way_in name t ≡ None → role_of (seek_in name t) ≡ None
no-way name t w = none_of (seek_in name t) (sym (way-role-in name t) ∙ ap is_some w)

-- ---- documents are turned around, one by one

pub turned-more : (p : ℕ) (ps : List ℕ) (above : Option HeldDoc) (d x : HeldDoc) (here : Option HeldDoc) → has p (branches_in d.below) ≡ true → x ≡ held_filled p above d
    → turned_back (p ∷ ps) (Some x) here ≡ turned_back ps above (Some (held_filled p here d))
turned-more p ps above d x here h same =
    ap (λ (y : HeldDoc). turned_back ps (slot_in p y.below) (Some (held_filled p here y))) same
    ∙ ap (λ (o : Option HeldDoc). turned_back ps o (Some (held_filled p here (held_filled p above d)))) (slot-filled-in p above d.below h)
    ∙ ap (λ (t : TreeDoc). turned_back ps above (Some (record d { below = t }))) (filled-filled-in p here above d.below)

pub reverse-last : (ps : List ℕ) (p : ℕ) → reverse (ps ++ p ∷ []) ≡ p ∷ reverse ps
reverse-last ps p = reverse-append ps (p ∷ [])

-- ---- a search, list by list

abbrev way_from : List ℕ → Option HeldDoc → Branches → Option (List ℕ)
way_from name None bs = None
way_from name (Some d) bs = option_or (option_map (λ ps. suc (wide bs) ∷ ps) (way_in name d.below)) (way name bs)

is-some : (o : Option (Signed DelegatedTargets)) → is_some (option_map held_doc o) ≡ is_some o
is-some None = refl
is-some (Some s) = refl

from-none : (name : List ℕ) (o : Option HeldDoc) (bs : Branches) → is_some o ≡ false → way_from name o bs ≡ None
from-none name None bs h = refl
from-none name (Some d) bs h = cc

named-way : (name : List ℕ) (r : RoleTree) (bs : Branches) → bytes_eq r.0.name name ≡ true → way name (put_branch r bs) ≡ Some (suc (wide bs) ∷ [])
named-way name (e, None) bs h = ap (λ b. cond b (Some (suc (wide bs) ∷ [])) None) h
named-way name (e, Some d) bs h = ap (λ b. cond b (Some (suc (wide bs) ∷ [])) (option_or (option_map (λ ps. suc (wide bs) ∷ ps) (way_in name d.below)) (way name bs))) h

way-put : (name : List ℕ) (r : RoleTree) (bs : Branches) → bytes_eq r.0.name name ≡ false → way name (put_branch r bs) ≡ way_from name r.1 bs
way-put name (e, None) bs h = ap (λ b. cond b (Some (suc (wide bs) ∷ [])) None) h
way-put name (e, Some d) bs h = ap (λ b. cond b (Some (suc (wide bs) ∷ [])) (option_or (option_map (λ ps. suc (wide bs) ∷ ps) (way_in name d.below)) (way name bs))) h

way-in : (name : List ℕ) (t : TreeDoc) → way_in name t ≡ way name (branches_in t)
way-in name (tree o bs) = refl

through-push : (name : List ℕ) (ls : List (Bor (List DelegatedRole))) (l : Bor (List DelegatedRole)) (o : Option (List ℕ))
    → way_through name (ls ++ l ∷ []) o ≡ way_through name ls (option_or (option_map (λ ps. length l.now ∷ ps) o) (way name (role_branches (rest_of l.now))))
through-push name [] l o = refl
through-push name (x ∷ ls) l o = ap (λ (w : Option (List ℕ)). option_or (option_map (λ ps. length x.now ∷ ps) w) (way name (role_branches (rest_of x.now)))) (through-push name ls l o)

-- behind the first role of the last list
pub behind-way : (name : List ℕ) (ls all : List (Bor (List DelegatedRole))) (l : Bor (List DelegatedRole)) (others : List DelegatedRole) → all ≡ ls ++ l ∷ [] → rest_of l.now ≡ others
    → way_through name all None ≡ way_through name ls (way name (role_branches others))
behind-way name ls all l others h e =
    ap (λ (x : List (Bor (List DelegatedRole))). way_through name x None) h ∙ through-push name ls l None ∙ ap (λ (rs : List DelegatedRole). way_through name ls (way name (role_branches rs))) e

rest_work-last : (ls : List (Bor (List DelegatedRole))) (l : Bor (List DelegatedRole)) → rest_work (ls ++ l ∷ []) ≡ rest_work ls + work (rest_of l.now)
rest_work-last [] l = omega arith
rest_work-last (x ∷ ls) l = omega (arith, rest_work-last ls l)

pub rest_work-push : (ls all : List (Bor (List DelegatedRole))) (l : Bor (List DelegatedRole)) → all ≡ ls ++ l ∷ [] → rest_work all ≡ rest_work ls + work (rest_of l.now)
rest_work-push ls all l h = ap rest_work h ∙ rest_work-last ls l

pub behind-work : (ls all : List (Bor (List DelegatedRole))) (l : Bor (List DelegatedRole)) (others : List DelegatedRole) → all ≡ ls ++ l ∷ [] → rest_of l.now ≡ others → rest_work ls + work others ≡ rest_work all
behind-work ls all l others h e = sym (rest_work-push ls all l h ∙ ap (λ (rs : List DelegatedRole). rest_work ls + work rs) e)

-- below the first role of a list
under_way : (name : List ℕ) (o : Option HeldDoc) (bs rest : Branches) (n : ℕ) → is_some o ≡ true → rest ≡ branches_under o → n ≡ suc (wide bs)
    → way_from name o bs ≡ option_or (option_map (λ ps. n ∷ ps) (way name rest)) (way name bs)
under_way name None bs rest n some is same = cc
under_way name (Some d) bs rest n some is same =
    ap (λ (w : Option (List ℕ)). option_or (option_map (λ ps. suc (wide bs) ∷ ps) w) (way name bs)) (way-in name d.below ∙ ap (way name) (sym is))
    ∙ ap (λ (m : ℕ). option_or (option_map (λ ps. m ∷ ps) (way name rest)) (way name bs)) (sym same)

pub below-way : (name : List ℕ) (ls all : List (Bor (List DelegatedRole))) (here under : Bor (List DelegatedRole)) (others : List DelegatedRole) (r : DelegatedRole)
    → all ≡ ls ++ here ∷ [] → here.now ≡ r ∷ others → is_some (out-DelegatedRole r).targets ≡ true → role_branches under.now ≡ branches_under (role_tree r).1 → is_first name here.now ≡ false
    → way_through name ls (way name (role_branches here.now)) ≡ way_through name all (way name (role_branches under.now))
below-way name ls all here under others r h e some u n =
    let bs = role_branches others in
    let other : bytes_eq (role_tree r).0.name name ≡ false = sym (ap (is_first name) e) ∙ n in
    let has : is_some (role_tree r).1 ≡ true = ap is_some (role-held r) ∙ is-some (out-DelegatedRole r).targets ∙ some in
    let first : way name (role_branches here.now) ≡ option_or (option_map (λ ps. length here.now ∷ ps) (way name (role_branches under.now))) (way name (role_branches (rest_of here.now))) =
    ap (λ (rs : List DelegatedRole). way name (role_branches rs)) e ∙ way-put name (role_tree r) bs other
    ∙ under_way name (role_tree r).1 bs (role_branches under.now) (length here.now) has u (ap length e ∙ ap suc (sym (wide-roles others)))
    ∙ ap (λ (rs : List DelegatedRole). option_or (option_map (λ ps. length here.now ∷ ps) (way name (role_branches under.now))) (way name (role_branches (rest_of rs)))) (sym e) in
    ap (way_through name ls) first ∙ sym (through-push name ls here (way name (role_branches under.now))) ∙ ap (λ (x : List (Bor (List DelegatedRole))). way_through name x (way name (role_branches under.now))) (sym h)

pub below-work : (ls all : List (Bor (List DelegatedRole))) (here under : Bor (List DelegatedRole)) (others : List DelegatedRole) (r : DelegatedRole)
    → all ≡ ls ++ here ∷ [] → here.now ≡ r ∷ others → role_branches under.now ≡ branches_under (role_tree r).1
    → rest_work all + work under.now < rest_work ls + work here.now
below-work ls all here under others r h e u =
    omega (arith, rest_work-push ls all here h, ap (λ (rs : List DelegatedRole). count (role_branches (rest_of rs))) e, ap count u, count-roles here.now others r e)

-- a list of which no role leads on
pub none-way : (name : List ℕ) (ls : List (Bor (List DelegatedRole))) (rs : List DelegatedRole) → (way name (role_branches rs) ≡ None) → way_through name ls (way name (role_branches rs)) ≡ way_through name ls None
none-way name ls rs h = ap (way_through name ls) h

pub bare-way : (name : List ℕ) (rs others : List DelegatedRole) (r : DelegatedRole) → rs ≡ r ∷ others → is_some (out-DelegatedRole r).targets ≡ false → is_first name rs ≡ false → way name (role_branches rs) ≡ None
bare-way name rs others r e none n =
    let other : bytes_eq (role_tree r).0.name name ≡ false = sym (ap (is_first name) e) ∙ n in
    let has : is_some (role_tree r).1 ≡ false = ap is_some (role-held r) ∙ is-some (out-DelegatedRole r).targets ∙ none in
    ap (λ (x : List DelegatedRole). way name (role_branches x)) e ∙ way-put name (role_tree r) (role_branches others) other ∙ from-none name (role_tree r).1 (role_branches others) has

-- the way that is found
pub through-some : (name : List ℕ) (ls : List (Bor (List DelegatedRole))) (ps : List ℕ) → way_through name ls (Some ps) ≡ Some (places ls ++ ps)
through-some name [] ps = refl
through-some name (l ∷ ls) ps = ap (λ (w : Option (List ℕ)). option_or (option_map (λ qs. length l.now ∷ qs) w) (way name (role_branches (rest_of l.now)))) (through-some name ls ps)

pub first-way : (name : List ℕ) (rs : List DelegatedRole) → is_first name rs ≡ true → way name (role_branches rs) ≡ Some (length rs ∷ [])
first-way name [] h = cc
first-way name (r ∷ rs) h = named-way name (role_tree r) (role_branches rs) h ∙ ap (λ (n : ℕ). Some (suc n ∷ [])) (wide-roles rs)

-- the whole with another document at the end of the way
pub put-whole : (way ps : List ℕ) (p : ℕ) (h : HeldDoc) (t one two : TreeDoc) (old last whole : Option HeldDoc) → way ≡ p ∷ ps → one ≡ filled_in p None t → old ≡ slot_in p t
    → (IsOpen ps old → (x : HeldDoc) → turned_back (reverse ps) last (Some x) ≡ held_along ps x old) → whole ≡ turned_back (reverse ps) last (Some h) → two ≡ filled_in p whole one
    → IsOpenIn way t → two ≡ along way h t
put-whole way ps p h t one two old last whole w first was turned back then each =
    let at = subst (λ (x : List ℕ). IsOpenIn x t) w each in
    let all : whole ≡ held_along ps h (slot_in p t) = back ∙ turned (subst (IsOpen ps) (sym was) at.1) h ∙ ap (held_along ps h) was in
    then ∙ ap (filled_in p whole) first ∙ filled-filled-in p whole None t ∙ ap (λ (o : Option HeldDoc). filled_in p o t) all ∙ ap (λ (x : List ℕ). along x h t) (sym w)

-- the way has a next place, so there is a document
pub closed : (way : List ℕ) (k : ℕ) (o : Option (Signed DelegatedTargets)) → k < length way → ((s : Signed DelegatedTargets) → o ≡ Some s → ⊥) → IsOpen (drop k way) (option_map held_doc o) → ⊥
closed way k None lt none each = subst (λ (x : List ℕ). IsOpen x None) (drop_more way k 0 lt) each
closed way k (Some s) lt none each = none s refl

-- a step down
pub turned-step : (way : List ℕ) (k d : ℕ) (h x : HeldDoc) (above here next : Option HeldDoc) (whole : HeldDoc → Option HeldDoc) → k < length way
    → x ≡ held_filled (get_or way k d) above h → next ≡ slot_in (get_or way k d) h.below → here ≡ Some h
    → IsOpen (drop k way) here × ((y : HeldDoc) → turned_back (reverse (take k way)) above (held_along (drop k way) y here) ≡ whole y)
    → IsOpen (drop (k + 1) way) next × ((y : HeldDoc) → turned_back (reverse (take (k + 1) way)) (Some x) (held_along (drop (k + 1) way) y next) ≡ whole y)
turned-step way k d h x above here next whole lt filled then is before =
    let p = get_or way k d in
    let ps = drop (k + 1) way in
    let rest : drop k way ≡ p ∷ ps = drop_more way k d lt in
    let front : reverse (take (k + 1) way) ≡ p ∷ reverse (take k way) = ap reverse (take_more way k d lt) ∙ reverse-last (take k way) p in
    let each = subst (λ (y : List ℕ). IsOpen y (Some h)) rest (subst (IsOpen (drop k way)) is before.0) in (
      subst (IsOpen ps) (sym then) each.1,
      λ y.
          ap (λ (q : List ℕ). turned_back q (Some x) (held_along ps y next)) front
          ∙ turned-more p (reverse (take k way)) above h x (held_along ps y next) each.0 filled
          ∙ ap (λ (o : Option HeldDoc). turned_back (reverse (take k way)) above (Some (held_filled p (held_along ps y o) h))) then
          ∙ sym (ap (λ (q : List ℕ). turned_back (reverse (take k way)) above (held_along q y (Some h))) rest)
          ∙ sym (ap (λ (o : Option HeldDoc). turned_back (reverse (take k way)) above (held_along (drop k way) y o)) is)
          ∙ before.1 y,
    )

pub none-mapped : {A B : Type 0} (f : A → B) (o : Option A) → ((x : A) → o ≡ Some x → ⊥) → option_map f o ≡ None
none-mapped f None h = refl
none-mapped f (Some x) h = absurd (h x refl)
