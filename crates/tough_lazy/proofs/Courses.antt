-- How a search goes from one role to the next.
use Rattle.std.proofs.Common.{◌≡◌, ℕ, suc, ◌+◌, ◌<◌, List, [], ◌∷◌, ◌++◌, length, Bool, true, false, not, Bor, Option, Some, None, option_map, if◌then◌else◌, refl, sym, ap, ◌∙◌, subst, arith}
use Rattle.std.specs.BTreeMap.{is_at}
use Rattle.std.specs.Map.{lookup}
use Rattle.std.specs.Option.{option_copied}
use Rattle.tough_names.specs.Named.{Named, by_raw_then_resolved}
use Rattle.tough_schema.specs.declared.delegations.DelegatedRole.{DelegatedRole, out-DelegatedRole}
use Rattle.tough_schema.specs.declared.delegations.Delegations.{Delegations}
use Rattle.tough_schema.specs.declared.target.Target.{Target}
use Rattle.tough_schema.specs.declared.targets.Targets.{Targets, out-Targets}
use Rattle.tough_schema.specs.Below.{branches_in, branches_under, count, work}
use Rattle.tough_schema.specs.Delegations.{DelegationsDoc, delegations_doc}
use Rattle.tough_schema.specs.Putting.{wide}
use Rattle.tough_schema.specs.Search.{Names, add, is_new, listed}
use Rattle.tough_schema.specs.Target.{TargetDoc, target_doc}
use Rattle.tough_schema.specs.Targets.{TargetsDoc}
use Rattle.tough_schema.specs.Tree.{Entry}
use Rattle.tough_schema.specs.Whole.{TreeDoc, tree, Branches, HeldDoc, RoleTree, listing_of, top_doc, tree_doc, put_branch, role_tree, role_branches}
use Rattle.tough_schema.proofs.Exchanges.{wide-roles}
use Rattle.tough_schema.proofs.Looks.{listed-tree, copied-target}
use Rattle.tough_schema.proofs.Seeks.{count-roles}
use Rattle.tough_schema.proofs.lemmas.Wholes.{role-out, top-tells}
use Rattle.tough_lazy.specs.Course.{Need, Course, found, needs, ended, past, onward, or_below, course, course_in, Sought, listed_so, needed, sought_by}
use Rattle.tough_lazy.specs.Walking.{branches_in_list, delegations_of, course_on, through, places, steps_behind, course_inside, at_sight, HasRoles, ShowsRoles}
use Rattle.tough_lazy.specs.declared.walk.Entered.{Entered}
use Rattle.tough_lazy.specs.declared.walk.Inside.{Inside}
use Rattle.tough_lazy.specs.declared.walk.Inside.TheVariants as inside
use Rattle.tough_lazy.specs.declared.walk.RoleList.{RoleList}
use Rattle.tough_lazy.specs.declared.walk.Sight.{Sight}
use Rattle.tough_lazy.specs.declared.walk.Sight.TheVariants as sight

course-in : (name : Named) (seen : Names) (t : TreeDoc) → course_in name seen t ≡ or_below (listed name (listing_of t)) (course name seen (top_doc t).delegations (branches_in t))
course-in name seen (tree o bs) = refl

-- the document of a role that is reached is there
course-into : (name : Named) (seen : Names) (g : Option DelegationsDoc) (e : Entry) (d : HeldDoc) (bs : Branches) → is_new name seen e ≡ true
    → course name seen g (put_branch (e, Some d) bs) ≡ onward (suc (wide bs)) e (course_in name (add e.name seen) d.below) (λ more. course name more g bs)
course-into name seen g e d bs h = rw h refl

-- ---- through the roles that were entered

through-push : (name : Named) (es : List Entered) (e : Entered) (c : Course) → through name (es ++ e ∷ []) c ≡ through name es (onward (suc (length e.rest.roles.now)) (role_tree e.role.now).0 c (λ more. course_on name more e.rest))
through-push name [] e c = refl
through-push name (x ∷ es) e c = ap (λ k. onward (suc (length x.rest.roles.now)) (role_tree x.role.now).0 k (λ more. course_on name more x.rest)) (through-push name es e c)

through-found : (name : Named) (es : List Entered) (t : TargetDoc) → through name es (found t) ≡ found t
through-found name [] t = refl
through-found name (x ∷ es) t = ap (λ k. onward (suc (length x.rest.roles.now)) (role_tree x.role.now).0 k (λ more. course_on name more x.rest)) (through-found name es t)

through-ended : (name : Named) (es : List Entered) → through name es ended ≡ ended
through-ended name [] = refl
through-ended name (x ∷ es) = ap (λ k. onward (suc (length x.rest.roles.now)) (role_tree x.role.now).0 k (λ more. course_on name more x.rest)) (through-ended name es)

through-needs : (name : Named) (es : List Entered) (n : Need) → through name es (needs n) ≡ needs (record n { way = places es ++ n.way })
through-needs name [] n = refl
through-needs name (x ∷ es) n = ap (λ k. onward (suc (length x.rest.roles.now)) (role_tree x.role.now).0 k (λ more. course_on name more x.rest)) (through-needs name es n)

steps-last : (es : List Entered) (e : Entered) → steps_behind (es ++ e ∷ []) ≡ steps_behind es + work e.rest.roles.now
steps-last [] e = omega arith
steps-last (x ∷ es) e = omega (arith, steps-last es e)

pub steps-push : (es all : List Entered) (e : Entered) → all ≡ es ++ e ∷ [] → steps_behind all ≡ steps_behind es + work e.rest.roles.now
steps-push es all e h = ap steps_behind h ∙ steps-last es e

-- ---- a document

pub delegations-held : (t : Targets) (g : Delegations) → (out-Targets t).delegations ≡ Some g → Some (delegations_doc g) ≡ (top_doc (tree_doc t)).delegations
delegations-held t g h = sym (ap (option_map delegations_doc) h) ∙ ap (λ (d : TargetsDoc). d.delegations) (top-tells t)

-- what a document lists under a name that was looked up
pub listed-is : (name : Named) (t : Targets) (o : Option (Bor Target)) → option_copied o ≡ lookup (is_at (by_raw_then_resolved name)) (out-Targets t).targets.entries → listed name (listing_of (tree_doc t)) ≡ option_map (λ x. target_doc x.now) o
listed-is name t o h = listed-tree name t ∙ sym (copied-target o (lookup (is_at (by_raw_then_resolved name)) (out-Targets t).targets.entries) h)

pub inside-lists : (name : Named) (seen : Names) (t : TreeDoc) (x : TargetDoc) → listed name (listing_of t) ≡ Some x → found x ≡ course_in name seen t
inside-lists name seen t x h = sym (course-in name seen t ∙ ap (λ o. or_below o (course name seen (top_doc t).delegations (branches_in t))) h)

pub inside-roles : (name : Named) (seen : Names) (t : TreeDoc) (l : RoleList) → listed name (listing_of t) ≡ None → delegations_of l ≡ (top_doc t).delegations → branches_in_list l ≡ branches_in t → course_on name seen l ≡ course_in name seen t
inside-roles name seen t l h d b =
    ap (λ g. course name seen g (branches_in_list l)) d ∙ ap (course name seen (top_doc t).delegations) b
    ∙ sym (course-in name seen t ∙ ap (λ o. or_below o (course name seen (top_doc t).delegations (branches_in t))) h)

-- ---- a role

not-false : (b : Bool) → not b ≡ false → b ≡ true
not-false true h = refl
not-false false h = cc

pub sees-into : (name : Named) (seen new : Names) (g : Option DelegationsDoc) (r : RoleTree) (d : HeldDoc) (i : Inside) (bs : Branches) → not (is_new name seen r.0) ≡ false → r.1 ≡ Some d → add r.0.name seen ≡ new
    → course_inside name new i ≡ course_in name new d.below
    → onward (suc (wide bs)) r.0 (course_inside name new i) (λ more. course name more g bs) ≡ course name seen g (put_branch r bs)
sees-into name seen new g (e, None) d i bs h held names inner = cc
sees-into name seen new g (e, Some k) d i bs h held names inner =
    let same : k ≡ d = cc in
    ap (λ c. onward (suc (wide bs)) e c (λ more. course name more g bs)) (inner ∙ ap (λ (x : HeldDoc). course_in name new x.below) (sym same) ∙ ap (λ s. course_in name s k.below) (sym names))
    ∙ sym (course-into name seen g e k bs (not-false (is_new name seen e) h))

-- ---- behind the last role that was entered

pub behind-ended : (name : Named) (es none all : List Entered) (e : Entered) (seen : Names) → none ≡ [] → all ≡ es ++ e ∷ [] → (role_tree e.role.now).0.terminating ≡ true
    → sought_by (through name none (past seen)) ≡ sought_by (through name all (past seen))
behind-ended name es none all e seen empty h t =
    ap (λ x. sought_by (through name x (past seen))) empty
    ∙ sym (ap sought_by (ap (λ x. through name x (past seen)) h ∙ through-push name es e (past seen) ∙ ap (λ b. through name es (if b then ended else course_on name seen e.rest)) t ∙ through-ended name es))

pub behind-on : (name : Named) (es all : List Entered) (e : Entered) (seen : Names) → all ≡ es ++ e ∷ [] → (role_tree e.role.now).0.terminating ≡ false → through name es (course_on name seen e.rest) ≡ through name all (past seen)
behind-on name es all e seen h t =
    sym (ap (λ x. through name x (past seen)) h ∙ through-push name es e (past seen) ∙ ap (λ b. through name es (if b then ended else course_on name seen e.rest)) t)

pub terminating-is : (r : DelegatedRole) → (role_tree r).0.terminating ≡ (out-DelegatedRole r).terminating
terminating-is r = ap (λ (x : RoleTree). x.0.terminating) (role-out r)

-- ---- on

-- the first role of a list, and those behind it
list-first : (name : Named) (seen : Names) (l rest : RoleList) (r : DelegatedRole) (others : List DelegatedRole) → l.roles.now ≡ r ∷ others → rest.roles.now ≡ others → delegations_of rest ≡ delegations_of l
    → course_on name seen l ≡ course name seen (delegations_of l) (put_branch (role_tree r) (branches_in_list rest))
list-first name seen l rest r others h k d = ap (λ (x : List DelegatedRole). course name seen (delegations_of l) (role_branches x)) h ∙ ap (λ (x : List DelegatedRole). course name seen (delegations_of l) (put_branch (role_tree r) (role_branches x))) (sym k)

-- ---- a step of a search

module _ (name : Named) (es : List Entered) (seen : Names) (l : RoleList) (whole : Sought) (so : sought_by (through name es (course_on name seen l)) ≡ whole) where
  pub step-found : (x : TargetDoc) → found x ≡ course_on name seen l → listed_so x ≡ whole
  step-found x h = ap sought_by (sym (through-found name es x) ∙ ap (through name es) h) ∙ so

  pub step-needs : (n : Need) → needs n ≡ course_on name seen l → needed (record n { way = places es ++ n.way }) ≡ whole
  step-needs n h = ap sought_by (sym (through-needs name es n) ∙ ap (through name es) h) ∙ so

  pub step-passed : (new : Names) (rest : RoleList) → course_on name new rest ≡ course_on name seen l → sought_by (through name es (course_on name new rest)) ≡ whole
  step-passed new rest h = ap (λ c. sought_by (through name es c)) h ∙ so

  pub step-into : (all : List Entered) (e : Entered) (new : Names) (below : RoleList) → all ≡ es ++ e ∷ []
      → onward (suc (wide (branches_in_list e.rest))) (role_tree e.role.now).0 (course_on name new below) (λ more. course_on name more e.rest) ≡ course_on name seen l
      → sought_by (through name all (course_on name new below)) ≡ whole
  step-into all e new below h into =
      ap (λ (x : List Entered). sought_by (through name x (course_on name new below))) h ∙ ap sought_by (through-push name es e (course_on name new below))
      ∙ ap (λ n. sought_by (through name es (onward (suc n) (role_tree e.role.now).0 (course_on name new below) (λ more. course_on name more e.rest)))) (sym (wide-roles e.rest.roles.now))
      ∙ ap (λ c. sought_by (through name es c)) into ∙ so

-- ---- how many steps there may be

pub into-steps : (es all : List Entered) (e : Entered) (l below : RoleList) (r : DelegatedRole) (others : List DelegatedRole) → all ≡ es ++ e ∷ [] → l.roles.now ≡ r ∷ others → e.rest.roles.now ≡ others
    → branches_in_list below ≡ branches_under (role_tree r).1 → steps_behind all + work below.roles.now < steps_behind es + work l.roles.now
into-steps es all e l below r others h k rest b =
    omega (arith, steps-push es all e h, ap work rest, count-roles l.roles.now others r k, ap count b)

-- what a search comes to at the first role of a list, as it was looked at
pub sighted : (name n : Named) (seen new : Names) (l rest : RoleList) (r : DelegatedRole) (others : List DelegatedRole) (s t : Sight) → n ≡ name → s ≡ t → l.roles.now ≡ r ∷ others → rest.roles.now ≡ others → delegations_of rest ≡ delegations_of l
    → ((g : Option DelegationsDoc) (bs : Branches) → at_sight n new g (role_tree r) s bs ≡ course n seen g (put_branch (role_tree r) bs))
    → at_sight name new (delegations_of l) (role_tree r) t (branches_in_list rest) ≡ course_on name seen l
sighted name n seen new l rest r others s t same is h k d looked =
    let g = delegations_of l in
    let bs = branches_in_list rest in
    let at : at_sight name new g (role_tree r) s bs ≡ course name seen g (put_branch (role_tree r) bs) =
    subst (λ (x : Named). at_sight x new g (role_tree r) s bs ≡ course x seen g (put_branch (role_tree r) bs)) same (looked g bs) in
    ap (λ (x : Sight). at_sight name new g (role_tree r) x bs) (sym is) ∙ at ∙ sym (list-first name seen l rest r others h k d)

-- the roles below a role that was looked at
pub shown : (bs : Branches) (s : Sight) (l : RoleList) (i : Inside) → s ≡ sight.Into i → i ≡ inside.Roles l → ShowsRoles bs s → branches_in_list l ≡ bs
shown bs s l i h k x = subst (HasRoles bs) k (subst (ShowsRoles bs) h x)

pub way-is : (es above : List Entered) (l : RoleList) (r : DelegatedRole) (others : List DelegatedRole) (way : List ℕ) → way ≡ places above ++ length l.roles.now ∷ [] → above ≡ es → l.roles.now ≡ r ∷ others
    → way ≡ places es ++ suc (wide (role_branches others)) ∷ []
way-is es above l r others way h same k =
    h ∙ ap (λ (x : List Entered). places x ++ length l.roles.now ∷ []) same ∙ ap (λ (n : ℕ). places es ++ n ∷ []) (ap length k ∙ ap suc (sym (wide-roles others)))
