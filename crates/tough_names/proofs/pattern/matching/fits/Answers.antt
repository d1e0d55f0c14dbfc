use Rattle.std.proofs.Common.{ℕ, List, ◌∷◌, ◌++◌, chars, subst, Option, Some, Bor, ◌≡◌, false, true}
use Rattle.tough_names.specs.declared.pattern.item.Item.{Item}
use Rattle.tough_names.specs.Glob.{Part}
use Rattle.tough_names.specs.Items.{parts_of}
use Rattle.tough_names.proofs.Retry.{parts_and_chars, InBounds, widened_bounds, retried_bounds, advanced_bounds}
use Rattle.tough_names.proofs.Greedy.{Searches, widens, advances_all, none_sought, retries, seeks}
use Rattle.tough_names.proofs.pattern.matching.fits.Goals as goal

pub loop-after-preserved-in-Widen : goal.loop-after-preserved-in-Widen
loop-after-preserved-in-Widen c =
    let P : List Part → Type 0 = λ left. Searches (parts_of c.args.items.now) (chars c.args.text.now) left (chars c.loop-after.rest.now) (parts_and_chars c.loop-after.retry) in
    let widened =
    widens (parts_of c.args.items.now) (chars c.args.text.now) (parts_of c.in-Widen.after.now) (chars c.loop-after.rest.now) (parts_and_chars c.loop-after.retry)
    (subst P c.in-Widen.ensures.0 c.loop-after.invariant.searches) in
    let sought = c.in-Some.ensures in
    record {
      text = sought.valid;
      searches = seeks (parts_of c.args.items.now) (chars c.args.text.now) (parts_of c.in-Widen.after.now) (chars c.loop-after.rest.now) (chars c.in-Some.from.now) sought.end sought.all widened;
      within = widened_bounds c.args.items.now c.args.text.now c.loop-after.left.now c.loop-after.rest.now c.loop-after.retry c.in-Widen.after.now c.in-Some.from.now c.in-Widen.ensures.1 sought.within c.loop-after.invariant.within;
    }

pub returns-in_default : goal.returns-in_default
returns-in_default c =
    let P : List Part → Type 0 = λ left. Searches (parts_of c.args.items.now) (chars c.args.text.now) left (chars c.loop-after.rest.now) (parts_and_chars c.loop-after.retry) in
    let widened =
    widens (parts_of c.args.items.now) (chars c.args.text.now) (parts_of c.in-Widen.after.now) (chars c.loop-after.rest.now) (parts_and_chars c.loop-after.retry)
    (subst P c.in-Widen.ensures.0 c.loop-after.invariant.searches) in (
      λ never. let no : false ≡ true = never in absurd (cc (no)),
      λ fits. absurd (none_sought (parts_of c.args.items.now) (chars c.args.text.now) (parts_of c.in-Widen.after.now) (chars c.loop-after.rest.now) c.in_default.ensures widened fits),
    )

pub loop-after-preserved-in-Advance : goal.loop-after-preserved-in-Advance
loop-after-preserved-in-Advance c =
    let e = c.in-Advance.ensures in
    let P : List Part → Type 0 = λ left. Searches (parts_of c.args.items.now) (chars c.args.text.now) left (chars c.loop-after.rest.now) (parts_and_chars c.loop-after.retry) in
    let Q : List ℕ → Type 0 = λ rest. Searches (parts_of c.args.items.now) (chars c.args.text.now) (e.covering ++ parts_of c.in-Advance.after.now) rest (parts_and_chars c.loop-after.retry) in
    record {
      text = e.valid;
      searches = advances_all (parts_of c.args.items.now) (chars c.args.text.now) e.covering e.covered (parts_of c.in-Advance.after.now) (chars c.in-Advance.tail.now) (parts_and_chars c.loop-after.retry) e.each
          (subst Q e.chars (subst P e.parts c.loop-after.invariant.searches));
      within = advanced_bounds c.args.items.now c.args.text.now c.loop-after.left.now c.loop-after.rest.now c.loop-after.retry c.in-Advance.after.now c.in-Advance.tail.now e.fewer e.within c.loop-after.invariant.within;
    }

pub loop-after-preserved : goal.loop-after-preserved
loop-after-preserved c =
    let P : Option (Bor (List Item) × Bor (List ℕ)) → Type 0 = λ retry. Searches (parts_of c.args.items.now) (chars c.args.text.now) (parts_of c.loop-after.left.now) (chars c.loop-after.rest.now) (parts_and_chars retry) in
    let Q : List ℕ → Type 0 = λ from. Searches (parts_of c.args.items.now) (chars c.args.text.now) (parts_of c.loop-after.left.now) (chars c.loop-after.rest.now) (Some (parts_of c.in-Some-retry.after.now, from)) in
    let retried =
    retries (parts_of c.args.items.now) (chars c.args.text.now) (parts_of c.loop-after.left.now) (chars c.loop-after.rest.now) (parts_of c.in-Some-retry.after.now) c.in-Some-split_first.field-0-0 (chars c.in-Some-split_first.tail.now) c.in-Stuck.ensures
    (subst Q c.in-Some-split_first.ensures.chars (subst P c.in-Some-retry.is c.loop-after.invariant.searches)) in
    let sought = c.in-Some-seek.ensures in
    let R : Option (Bor (List Item) × Bor (List ℕ)) → Type 0 = λ retry. InBounds c.args.items.now c.args.text.now c.loop-after.left.now c.loop-after.rest.now retry in
    let w = subst R c.in-Some-retry.is c.loop-after.invariant.within in
    record {
      text = sought.valid;
      searches = seeks (parts_of c.args.items.now) (chars c.args.text.now) (parts_of c.in-Some-retry.after.now) (chars c.in-Some-split_first.tail.now) (chars c.in-Some-seek.again.now) sought.end sought.all retried;
      within = retried_bounds c.args.items.now c.args.text.now c.loop-after.left.now c.loop-after.rest.now c.in-Some-retry.after c.in-Some-retry.from c.in-Some-split_first.tail.now c.in-Some-seek.again.now c.in-Some-split_first.ensures.shorter sought.within w;
    }
