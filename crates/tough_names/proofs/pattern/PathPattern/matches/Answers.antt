use Rattle.std.proofs.Common.{◌≡◌, ℕ, false, List, chars, IsUtf8, rules, ap, sym, ◌∙◌, Some, subst}
use Rattle.tough_names.specs.Begins.{begin_alike}
use Rattle.tough_names.specs.Items.{parts_of}
use Rattle.tough_names.specs.Glob.{Part, Fits}
use Rattle.tough_names.specs.Grammar.{parts_in}
use Rattle.tough_names.specs.Spelling.{Matches}
use Rattle.tough_names.proofs.Begins.{unlike-is-unmatched}
use Rattle.tough_names.proofs.lemmas.Patterns.{matches_if, fits_if}
use Rattle.tough_names.proofs.pattern.PathPattern.matches.Goals as goal

pub returns-then-not-begin_alike : goal.returns-then-not-begin_alike
returns-then-not-begin_alike c =
    let pattern : c.as_bytes.result.now ≡ c.args.self.now = search rules in
    let name : c.as_bytes-2.result.now ≡ c.args.name.now.resolved = search rules in
    let unlike : begin_alike c.args.self.now c.args.name.now.resolved ≡ false = search rules in
    (λ yes. absurd (search rules), λ m. absurd (unlike-is-unmatched c.args.self.now c.args.name.now.resolved (subst IsUtf8 pattern c.as_bytes.ensures.utf8) (subst IsUtf8 c.resolved.ensures.text c.resolved.utf8) unlike m))

pub returns : goal.returns
returns c =
    let pattern = chars c.args.self.now in
    let spelled : parts_in pattern ≡ Some (parts_of c.self.inside.items.items) = ap (λ t. parts_in (chars t)) (sym c.self.view_is) ∙ c.self.invariant in
    let parts = parts_of c.self.inside.items.items in
    let text = chars c.args.name.now.resolved in
    let items = ap parts_of c.as_slice.ensures.value in
    let name = ap chars c.resolved-2.ensures.text in
    let P : List Part → Type 0 = λ p. Fits p text in
    let Q : List ℕ → Type 0 = λ t. Fits (parts_of c.as_slice.result.now) t in (
      λ yes. (let m : Matches pattern text = matches_if pattern text parts spelled (subst P items (subst Q name (c.fits.ensures.0 yes))) in m),
      λ m. c.fits.ensures.1 (subst Q (sym name) (subst P (sym items) (fits_if pattern text parts spelled m))),
    )
