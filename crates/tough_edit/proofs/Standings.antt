-- The documents of roles as they stand, one after another.
use Rattle.std.proofs.Common.{◌≡◌, ℕ, ◌+◌, ◌<◌, List, [], ◌∷◌, ◌++◌, map, take, length, get_or, Some, None, ap, sym, subst, ◌∙◌}
use Rattle.std.proofs.lemmas.List.{take_more, map-append}
use Rattle.tough_schema.specs.declared.delegations.DelegatedRole.{DelegatedRole}
use Rattle.tough_schema.specs.declared.targets.DelegatedTargets.{DelegatedTargets}
use Rattle.tough_schema.specs.Whole.{RoleTree, role_tree}
use Rattle.tough_signed.specs.Standing.{AllStanding}
use Rattle.tough_signed.specs.declared.signed_role.SignedRole.{SignedRole}
use Rattle.tough_edit.specs.Signed.{IsStandingOf}

all_more : (rs : List RoleTree) (ss : List (SignedRole DelegatedTargets)) (r : RoleTree) (s : SignedRole DelegatedTargets) → AllStanding rs ss → IsStandingOf r s → AllStanding (rs ++ r ∷ []) (ss ++ s ∷ [])
all_more [] [] (e, None) s h k = absurd k
all_more [] [] (e, Some d) s h k = (k, tt)
all_more [] (x ∷ ss) r s h k = absurd h
all_more ((e, None) ∷ rs) ss r s h k = absurd h
all_more ((e, Some d) ∷ rs) [] r s h k = absurd h
all_more ((e, Some d) ∷ rs) (x ∷ ss) r s h k = (h.0, all_more rs ss r s h.1 k)

pub all_step : (ps : List DelegatedRole) (i : ℕ) (r : DelegatedRole) (ss : List (SignedRole DelegatedTargets)) (s : SignedRole DelegatedTargets) → i < length ps → r ≡ get_or ps i r → AllStanding (map role_tree (take i ps)) ss → IsStandingOf (role_tree r) s
    → AllStanding (map role_tree (take (i + 1) ps)) (ss ++ s ∷ [])
all_step ps i r ss s lt is h k =
    let more : map role_tree (take (i + 1) ps) ≡ map role_tree (take i ps) ++ role_tree r ∷ [] =
    ap (map role_tree) (take_more ps i r lt ∙ ap (λ (y : DelegatedRole). take i ps ++ y ∷ []) (sym is)) ∙ map-append role_tree (take i ps) (r ∷ []) in
    subst (λ l. AllStanding l (ss ++ s ∷ [])) (sym more) (all_more (map role_tree (take i ps)) ss (role_tree r) s h k)
