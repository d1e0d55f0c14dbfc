use Rattle.std.proofs.Common.{List, ◌∷◌, sym, ap, subst, ◌∙◌}
use Rattle.std.proofs.lemmas.Result.{err_from_is_err_and}
use Rattle.serde_json.specs.View.{view, members_view}
use Rattle.tough_json.specs.Writing.{with}
use Rattle.tough_json.proofs.lemmas.Named.{refuses-write}
use Rattle.tough_names.specs.Named.{Named, clean, by_raw_then_resolved}
use Rattle.tough_schema.specs.declared.target.Target.{Target}
use Rattle.tough_schema.specs.Target.{TargetDoc, target_doc, target_json}
use Rattle.tough_schema.specs.Targets.{listing_doc, listing_json}
use Rattle.std.specs.List.Sorted.{IsStrictlySortedBy}
use Rattle.tough_roles.proofs.lemmas.Table.{keys_of-docs}
use Rattle.tough_schema.proofs.ListingLemmas.{listing_json-refused, listing_json-taken, listing_json-more, listing_json-done}
use Rattle.tough_schema.proofs.write_targets.listing_value.Goals as goal

pub returns-in_err-value-clause-written : goal.returns-in_err-value-clause-written
returns-in_err-value-clause-written c =
    let e : Named × TargetDoc = (c.in-Some.name.now, target_doc c.in-Some.target.now) in
    let found = members_view c.loop-name.members.entries in
    let left = listing_doc c.next.new.self in
    let all = c.loop-name.invariant ∙ ap (λ (es : List (Named × Target)). listing_json (listing_doc es) found) c.in-Some.ensures.steps in
    let failed = err_from_is_err_and c.from_residual.result c.from_residual.ensures.1 in
    rw (failed.1, failed.2, all) (refuses-write (target_json e.1) (listing_json (e ∷ left) found) c.in_err-value.field-0.0 (listing_json-refused e left found) c.in_err-value.ensures)

pub returns-in_err-members-clause-written : goal.returns-in_err-members-clause-written
returns-in_err-members-clause-written c =
    let e : Named × TargetDoc = (c.in-Some.name.now, target_doc c.in-Some.target.now) in
    let found = members_view c.loop-name.members.entries in
    let left = listing_doc c.next.new.self in
    let all = c.loop-name.invariant ∙ ap (λ (es : List (Named × Target)). listing_json (listing_doc es) found) c.in-Some.ensures.steps in
    let failed = err_from_is_err_and c.from_residual-in_err-members.result c.from_residual-in_err-members.ensures.1 in
    let d = view c.in_ok-value.value in
    rw (failed.1, failed.2, all) (refuses-write (with c.raw.result.now d found) (listing_json (e ∷ left) found) c.in_err-members.field-0.0 (λ none. listing_json-taken e left found d c.in_ok-value.ensures (ap (λ n. clean n) (sym c.raw.ensures.text) ∙ c.raw.ensures.clean) (ap (λ n. with n d found) (sym c.raw.ensures.text) ∙ none)) c.in_err-members.ensures)

pub loop-name-preserved : goal.loop-name-preserved
loop-name-preserved c =
    let e : Named × TargetDoc = (c.in-Some.name.now, target_doc c.in-Some.target.now) in
    let found = members_view c.loop-name.members.entries in
    let left = listing_doc c.next.new.self in
    let all = c.loop-name.invariant ∙ ap (λ (es : List (Named × Target)). listing_json (listing_doc es) found) c.in-Some.ensures.steps in
    let d = view c.in_ok-value.value in
    all ∙ listing_json-more e left found (members_view c.in_ok-members.members.entries) d c.in_ok-value.ensures (ap (λ n. clean n) (sym c.raw.ensures.text) ∙ c.raw.ensures.clean) (ap (λ n. with n d found) (sym c.raw.ensures.text) ∙ c.in_ok-members.ensures)

pub returns-clause-written : goal.returns-clause-written
returns-clause-written c =
    let found = members_view c.loop-name.members.entries in
    c.loop-name.invariant ∙ ap (λ (es : List (Named × Target)). listing_json (listing_doc es) found) c.in-None.ensures.steps.0 ∙ listing_json-done found

pub returns-clause-ordered : goal.returns-clause-ordered
returns-clause-ordered c = subst (IsStrictlySortedBy by_raw_then_resolved) (sym (keys_of-docs target_doc c.args.targets.now.entries)) c.iter-name-items.ensures.ordered
