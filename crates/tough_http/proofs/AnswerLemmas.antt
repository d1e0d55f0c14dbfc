-- Where a part is found in a text.
use Rattle.std.proofs.Common.{◌↔◌, ℕ, List, Option, Some, None, refl, arith, IsTrue}
use Rattle.std.proofs.lemmas.Bool.{false≢true}
use Rattle.std.specs.Prelude.{is_some}
use Rattle.memchr.specs.Find.{FindsNeedle}
use Rattle.tough_http.specs.Answers.{HasPart}

-- a search that finds a place tells that the part is there
pub finds_part : (text part : List ℕ) (r : Option ℕ) → FindsNeedle text part 0 r → IsTrue (is_some r) ↔ HasPart text part
finds_part text part None h = (λ no. absurd (false≢true no), λ has. absurd (h has.0 (omega arith) (omega (arith, has.1.fits)) has.1))
finds_part text part (Some k) h = (λ _. (k, h.1), λ _. refl)
