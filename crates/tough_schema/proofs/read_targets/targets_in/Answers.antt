use Rattle.std.proofs.Common.{codes, sym, ap, subst, ◌∙◌}
use Rattle.tough_json.specs.Results.{Reads, Refuses}
use Rattle.tough_json.proofs.lemmas.Told.{refuses-under}
use Rattle.tough_schema.specs.Targets.{targets_doc, listing_doc, targets_at, targets_around}
use Rattle.tough_schema.proofs.Firsts.{object-members, refused-member, refused-listing, listed-first}
use Rattle.tough_schema.proofs.read_targets.targets_in.Goals as goal

pub returns-in-Err-clause-read : goal.returns-in-Err-clause-read
returns-in-Err-clause-read c = λ d h.
    let ms = object-members c.args.value c.in-Object.members d c.in-Object.is h in
    subst (λ x. Refuses c.in-Err.error (targets_at x)) ms.2 (refused-member c.in-Err.error ms.0 (c.in-Err.ensures ms.0 ms.1))

pub returns-in-Ok-listing_in-clause-read : goal.returns-in-Ok-listing_in-clause-read
returns-in-Ok-listing_in-clause-read c = λ d h.
    let ms = object-members c.args.value c.in-Object.members d c.in-Object.is h in
    let part = c.in-Ok.ensures ms.0 ms.1 in
    let found = c.in-Ok-listing_in.ensures part.0 part.1 in
    let is = ap targets_at (sym ms.2) ∙ listed-first ms.0 part.0 (listing_doc c.in-Ok-listing_in.targets.entries) part.2 found ∙ ap (targets_around (listing_doc c.in-Ok-listing_in.targets.entries)) (sym part.3) in
    subst (λ o. Reads targets_doc c.targets_around.result o) (sym is) c.targets_around.ensures.read

pub returns-in-Err-listing_in-clause-read : goal.returns-in-Err-listing_in-clause-read
returns-in-Err-listing_in-clause-read c = λ d h.
    let ms = object-members c.args.value c.in-Object.members d c.in-Object.is h in
    let part = c.in-Ok.ensures ms.0 ms.1 in
    subst (λ x. Refuses c.within.result (targets_at x)) ms.2 (refused-listing c.within.result ms.0 part.0 part.2 (refuses-under (codes "targets") c.in-Err-listing_in.error c.within.result _ c.within.ensures (c.in-Err-listing_in.ensures part.0 part.1)))
