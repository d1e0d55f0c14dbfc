-- What is written for targets is read as them.
use Rattle.std.proofs.Common.{◌≡◌, ℕ, List, [], ◌∷◌, Bool, true, false, codes, Option, Some, None, Result, Ok, Err, if◌then◌else◌, refl, sym, ap, subst, ◌∙◌, rules}
use Rattle.std.specs.Cmp.{IsTotalOrder}
use Rattle.std.specs.Cmp.Rules.{comparing}
use Rattle.std.proofs.lemmas.Slice.Eq.{bytes_eq-Decides}
use Rattle.jiff_core.specs.Timestamp.{IsTimestampNanos}
use Rattle.serde_json.specs.Data.{Data, object, Members, no_members}
use Rattle.serde_json.specs.Find.{as_object}
use Rattle.tough_names.specs.declared.name.NameError.{NameError}
use Rattle.tough_names.specs.Named.{Named, clean, by_raw_then_resolved}
use Rattle.tough_json.specs.Reading.{◌>>=◌, required, optional, present, if_present, without}
use Rattle.tough_json.specs.Writing.{with, with_optional, optional_json}
use Rattle.tough_json.proofs.lemmas.Write.{bind_ok, some-inj, required-with, optional-with_some, optional-with_none}
use Rattle.tough_roles.specs.Head.{head_at, head_json}
use Rattle.tough_roles.proofs.lemmas.Entry.{map_ok}
use Rattle.tough_roles.proofs.lemmas.Head.{head-back}
use Rattle.tough_roles.proofs.lemmas.Tables.{AreBack, table-back}
use Rattle.tough_schema.specs.Target.{TargetDoc, target_json}
use Rattle.tough_schema.specs.Delegations.{DelegationsDoc, delegations_at, delegations_json}
use Rattle.tough_schema.specs.Targets.{TargetsDoc, if_clean, name_at, entry_at, listing_at, listing_json, resolves_to, raw_name, targets_at, parts_json, around_json, targets_json, KeysAreOwn, KeysRise, AreSorted}
use Rattle.tough_schema.proofs.TargetLemmas.{target-back}
use Rattle.tough_schema.proofs.DelegationsLemmas.{delegations-back, delegations-present, delegations-kept}

pub names_total : IsTotalOrder by_raw_then_resolved
names_total = search (comparing, rules)

-- ---- the listing

name_if : (n : Named) (o : Result (List ℕ) NameError) (raw : List ℕ) (t : Bool) → resolves_to o n.resolved ≡ t → (if t then Some n.raw else None) ≡ Some raw → (raw ≡ n.raw) × (o ≡ Ok n.resolved)
name_if n (Ok found) raw true s h = (sym (some-inj h), ap Ok ((bytes_eq-Decides found n.resolved).0 s))
name_if n (Err e) raw true s h = cc
name_if n o raw false s h = cc

name-back : (n : Named) (raw : List ℕ) → raw_name n ≡ Some raw → name_at raw ≡ Some n
name-back n raw h =
    let is = name_if n (clean n.raw) raw (resolves_to (clean n.raw) n.resolved) refl h in
    ap name_at is.0 ∙ ap (if_clean n.raw) is.1

entry-back : (e : Named × TargetDoc) (raw : List ℕ) (d : Data) → raw_name e.0 ≡ Some raw → target_json e.1 ≡ Some d → entry_at raw d ≡ Some e
unfolding entry_at
entry-back e raw d name w = rw (name-back e.0 raw name, target-back e.1 d w) refl

entries_back : (es : List (Named × TargetDoc)) → AreBack entry_at raw_name target_json es
entries_back [] = tt
entries_back (e ∷ es) = (entry-back e, entries_back es)

-- ---- the document

delegated-back : (o : Option DelegationsDoc) (inner : Option Data) (ms new : Members) → KeysAreOwn o → KeysRise o → optional_json delegations_json o ≡ Some inner → with_optional (codes "delegations") inner ms ≡ Some new
    → optional (codes "delegations") delegations_at new ≡ Some (o, ms)
delegated-back None None ms new kept rise w h = optional-with_none (codes "delegations") delegations_at ms new h
delegated-back None (Some d) ms new kept rise w h = cc
delegated-back (Some g) inner ms new kept rise w h =
    let a = bind_ok (delegations_json g) (λ d. Some (Some d)) inner w in
    optional-with_some (codes "delegations") delegations_at a.0 ms new g (subst (λ z. with_optional (codes "delegations") z ms ≡ Some new) (sym (some-inj a.2)) h) (delegations-present g a.0 a.1) (delegations-back g a.0 kept rise a.1)

pub targets-back : (t : TargetsDoc) (d : Data) → IsTimestampNanos t.head.expires → KeysAreOwn t.delegations → AreSorted t → targets_json t ≡ Some d → targets_at d ≡ Some t
unfolding targets_json around_json parts_json targets_at
targets-back t d range kept sorted w =
    let f = bind_ok (listing_json t.targets no_members) (λ listed. around_json (object listed) t >>= λ ms. Some (object ms)) d w in
    let b = bind_ok (around_json (object f.0) t) (λ ms. Some (object ms)) d f.2 in
    let a = bind_ok (parts_json (object f.0) t t.extra) (λ parts. head_json (codes "targets") t.head parts) b.0 b.1 in
    let c = bind_ok (optional_json delegations_json t.delegations) (λ inner. with_optional (codes "delegations") inner t.extra >>= λ delegations. with (codes "targets") (object f.0) delegations) a.0 a.1 in
    let e = bind_ok (with_optional (codes "delegations") c.0 t.extra) (λ delegations. with (codes "targets") (object f.0) delegations) a.0 c.2 in
    rw (
      ← some-inj b.2,
      head-back (codes "targets") t.head a.0 b.0 range a.2,
      required-with (codes "targets") listing_at (object f.0) e.0 a.0 t.targets e.2 (table-back names_total (λ there. true) entry_at raw_name target_json t.targets f.0 refl (entries_back t.targets) sorted.names_rise f.1),
      delegated-back t.delegations c.0 t.extra e.0 kept sorted.keys_rise c.1 e.1,
    ) refl

present-kept : (o : Option Data) (g : Option DelegationsDoc) → if_present delegations_at o ≡ Some g → KeysAreOwn g
present-kept None g h = subst KeysAreOwn (some-inj h) tt
present-kept (Some d) g h =
    let a = map_ok Some (delegations_at d) g h in
    subst KeysAreOwn a.2 (delegations-kept d a.0 a.1)

pub targets-kept : (d : Data) (t : TargetsDoc) → targets_at d ≡ Some t → KeysAreOwn t.delegations
unfolding targets_at
targets-kept d t h =
    let a = bind_ok (as_object d) _ t h in
    let b = bind_ok (head_at a.0) _ t a.2 in
    let c = bind_ok (required (codes "targets") listing_at b.0.1) _ t b.2 in
    let e = bind_ok (optional (codes "delegations") delegations_at c.0.1) _ t c.2 in
    let o = map_ok (λ x. (x, without (codes "delegations") c.0.1)) (if_present delegations_at (present (codes "delegations") c.0.1)) e.0 e.1 in
    subst KeysAreOwn (ap (λ z. z.0) o.2 ∙ ap (λ z. z.delegations) (some-inj e.2)) (present-kept (present (codes "delegations") c.0.1) o.0 o.1)
