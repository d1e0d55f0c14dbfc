use Rattle.std.proofs.Common.{◌≡◌, List, sym, ap, ◌∙◌, rules}
use Rattle.serde_json.specs.Data.{no_members}
use Rattle.tough_json.specs.Pieces.{text_in, and_last}
use Rattle.tough_json.specs.Writing.{with}
use Rattle.tough_json.proofs.lemmas.Computed.{then_some}
use Rattle.tough_json.proofs.lemmas.Piece.{with-last}
use Rattle.tough_names.specs.Named.{Named, clean}
use Rattle.tough_schema.specs.declared.target.Target.{Target}
use Rattle.tough_schema.specs.Target.{TargetDoc, target_doc, target_json}
use Rattle.tough_schema.specs.Targets.{listing_doc, listing_json}
use Rattle.tough_schema.proofs.ListingLemmas.{listing_json-more, listing_json-done}
use Rattle.tough_schema.proofs.write_targets.append_listing.Goals as goal

pub loop-name-init : goal.loop-name-init
loop-name-init c =
    let start : c.into_iter-name-iterator.result ≡ c.args.targets.now.entries = search rules in
    (no_members, c.in_ok-object.ensures, ap (λ (es : List (Named × Target)). listing_json (listing_doc es) no_members) (sym start))

pub loop-name-preserved : goal.loop-name-preserved
loop-name-preserved c =
    let e : Named × TargetDoc = (c.in-Some.name.now, target_doc c.in-Some.target.now) in
    let base = c.args.out.items in
    let form = c.args.form in
    let ms = c.loop-name.invariant.0 in
    let left = listing_doc c.next.new.self in
    let raw = c.raw.result.now in
    let opened = c.in_ok-listing.ensures base form ms c.loop-name.invariant.1 in
    let told = c.in_ok-entry.ensures in
    let d = then_some (text_in form) (target_json e.1) told.0 told.1 in
    let all = c.loop-name.invariant.2 ∙ ap (λ (es : List (Named × Target)). listing_json (listing_doc es) ms) c.in-Some.ensures.steps in (
      and_last ms raw d.0,
      c.close-object.ensures base form ms raw d.0 _ opened.1 (told.0, d.2, told.2),
      all ∙ listing_json-more e left ms (and_last ms raw d.0) d.0 d.1 (ap (λ n. clean n) (sym c.raw.ensures.text) ∙ c.raw.ensures.clean) (ap (λ n. with n d.0 ms) (sym c.raw.ensures.text) ∙ with-last raw d.0 ms opened.0),
    )

pub returns : goal.returns
returns c =
    let ms = c.loop-name.invariant.0 in (
      ms,
      c.loop-name.invariant.2 ∙ ap (λ (es : List (Named × Target)). listing_json (listing_doc es) ms) c.in-None.ensures.steps.0 ∙ listing_json-done ms,
      c.in_ok-text.ensures c.args.out.items c.args.form ms c.loop-name.invariant.1,
    )
