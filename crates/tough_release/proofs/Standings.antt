-- The documents of roles by themselves, one after another.
use Rattle.std.proofs.Common.{◌≡◌, ℕ, ◌+◌, ◌<◌, ◌≤◌, List, [], ◌∷◌, ◌++◌, take, length, get_or, Bor, Some, None, ◌⊎◌, inl, inr, ap, sym, subst, ◌∙◌}
use Rattle.std.proofs.lemmas.List.{take_more, take_all, map-append, length-map, get_or-map}
use Rattle.std.specs.List.{Any}
use Rattle.tough_schema.specs.Gather.{shown}
use Rattle.tough_schema.specs.Tree.{Entry}
use Rattle.tough_schema.specs.Whole.{RoleTree, HeldDoc, role_tree}
use Rattle.tough_schema.specs.declared.delegations.DelegatedRole.{DelegatedRole}
use Rattle.tough_schema.specs.declared.targets.DelegatedTargets.{DelegatedTargets}
use Rattle.tough_signed.specs.Standing.{IsStanding, AreStanding}
use Rattle.tough_signed.specs.declared.signed_role.SignedRole.{SignedRole}
use Rattle.tough_signed.specs.declared.error.EditError.{EditError}
use Rattle.tough_signed.specs.declared.error.EditError.TheVariants as errors
use Rattle.tough_release.specs.Files.{IsPutAfter, IsUnfiledOf, SomeUnfiled}

abbrev Standings : Type 0
Standings = List (SignedRole DelegatedTargets)

none_more : (rs : List RoleTree) (ss : Standings) (e : Entry) → AreStanding rs ss → AreStanding (rs ++ (e, None) ∷ []) ss
none_more [] [] e h = tt
none_more [] (s ∷ ss) e h = absurd h
none_more ((d, None) ∷ rs) ss e h = none_more rs ss e h
none_more ((d, Some x) ∷ rs) [] e h = absurd h
none_more ((d, Some x) ∷ rs) (s ∷ ss) e h = (h.0, none_more rs ss e h.1)

some_more : (rs : List RoleTree) (ss : Standings) (e : Entry) (x : HeldDoc) (s : SignedRole DelegatedTargets) → AreStanding rs ss → IsStanding e x s → AreStanding (rs ++ (e, Some x) ∷ []) (ss ++ s ∷ [])
some_more [] [] e x s h k = (k, tt)
some_more [] (y ∷ ss) e x s h k = absurd h
some_more ((d, None) ∷ rs) ss e x s h k = some_more rs ss e x s h k
some_more ((d, Some y) ∷ rs) [] e x s h k = absurd h
some_more ((d, Some y) ∷ rs) (z ∷ ss) e x s h k = (h.0, some_more rs ss e x s h.1 k)

put_more : (rs : List RoleTree) (ss new : Standings) (r : RoleTree) → AreStanding rs ss → IsPutAfter r ss new → AreStanding (rs ++ r ∷ []) new
put_more rs ss new (e, None) h k = subst (λ l. AreStanding (rs ++ (e, None) ∷ []) l) (sym k) (none_more rs ss e h)
put_more rs ss new (e, Some x) h k = subst (λ l. AreStanding (rs ++ (e, Some x) ∷ []) l) (sym k.2) (some_more rs ss e x k.0 h k.1)

pub put_step : (ps : List (Bor DelegatedRole)) (i : ℕ) (r : Bor DelegatedRole) (ss new : Standings) → i < length ps → r ≡ get_or ps i r → AreStanding (shown (take i ps)) ss → IsPutAfter (role_tree r.now) ss new → AreStanding (shown (take (i + 1) ps)) new
put_step ps i r ss new lt is h k =
    let more : shown (take (i + 1) ps) ≡ shown (take i ps) ++ role_tree r.now ∷ [] =
    ap shown (take_more ps i r lt ∙ ap (λ (y : Bor DelegatedRole). take i ps ++ y ∷ []) (sym is)) ∙ map-append (λ (x : Bor DelegatedRole). role_tree x.now) (take i ps) (r ∷ []) in
    subst (λ l. AreStanding l new) (sym more) (put_more (shown (take i ps)) ss new (role_tree r.now) h k)

pub all_put : (ps : List (Bor DelegatedRole)) (i : ℕ) (rs : List RoleTree) (ss : Standings) → length ps ≤ i → shown ps ≡ rs → AreStanding (shown (take i ps)) ss → AreStanding rs ss
all_put ps i rs ss end same h = subst (λ (l : List RoleTree). AreStanding l ss) same (subst (λ (l : List (Bor DelegatedRole)). AreStanding (shown l) ss) (take_all i ps end) h)

pub unfiled_at : (ps : List (Bor DelegatedRole)) (i : ℕ) (r : Bor DelegatedRole) (rs : List RoleTree) (e : EditError) → i < length ps → r ≡ get_or ps i r → shown ps ≡ rs → (e ≡ errors.Memory) ⊎ IsUnfiledOf (role_tree r.now) e → SomeUnfiled rs e
unfiled_at ps i r rs e lt is same (inl m) = inl m
unfiled_at ps i r rs e lt is same (inr h) =
    let f : Bor DelegatedRole → RoleTree = λ x. role_tree x.now in
    inr (subst (λ (l : List RoleTree). Any (λ x. IsUnfiledOf x e) l) same (
      i,
      role_tree r.now,
      subst (λ (n : ℕ). i < n) (sym (length-map ps f)) lt,
      get_or-map f ps i r (role_tree r.now) lt ∙ ap f (sym is),
      h,
    ))
