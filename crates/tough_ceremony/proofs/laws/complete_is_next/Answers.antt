use Rattle.std.specs.Prelude.{Decides}
use Rattle.tough_keys.specs.Same.{Verifies}
use Rattle.tough_roles.specs.Chain.{ReachesUnder}
use Rattle.tough_roles.specs.Root.{RootDoc, root_doc, root_json}
use Rattle.tough_roles.specs.Signature.{SignedDoc, signed_doc}
use Rattle.tough_roles.specs.declared.role_type.RoleType.TheVariants as types
use Rattle.tough_roles.specs.declared.root.Root.{Root}
use Rattle.tough_roles.specs.declared.signed.Signed.{Signed}
use Rattle.tough_ceremony.specs.Tallying.{is_reached, IsTally, IsAccepted}
use Rattle.tough_ceremony.specs.declared.tally.Tally.{Tally}
use Rattle.tough_ceremony.proofs.Counting.{reached_by, reached_is}
use Rattle.tough_ceremony.proofs.laws.complete_is_next.Goals as goal

-- the same of the plain form of the document
as_plain : (v : Verifies) (by : Root) (s : Signed Root) → IsAccepted v by s → ReachesUnder v (root_doc by) types.Root root_json (signed_doc root_doc s)
as_plain v by s h = record { asked = h.asked; there = h.there; text = h.text; canonical = h.canonical; reached = h.reached }

from_plain : (v : Verifies) (by : Root) (s : Signed Root) → ReachesUnder v (root_doc by) types.Root root_json (signed_doc root_doc s) → IsAccepted v by s
from_plain v by s h = record { asked = h.asked; there = h.there; text = h.text; canonical = h.canonical; reached = h.reached }

-- the tally of a document tells whether it is accepted
decided : (v : Verifies) (by : RootDoc) (s : SignedDoc RootDoc) (t : Tally) → IsTally v by s t → Decides (is_reached t) (ReachesUnder v by types.Root root_json s)
decided v by s t h = reached_is v by root_json s h.asked h.text (is_reached t) h.there h.canonical (reached_by v by.keys h.asked h.text s.signatures t h.tally)

pub returns-clause-tallied : goal.returns-clause-tallied
returns-clause-tallied c v old next before itself h k =
    let a = decided v (root_doc old.signed) (signed_doc root_doc next) before h in
    let b = decided v (root_doc next.signed) (signed_doc root_doc next) itself k in (
      λ n. (a.1 n.before, b.1 n.itself, n.version),
      λ x. record { before = a.0 x.0; itself = b.0 x.1; version = x.2 },
    )

pub returns-clause-accepted : goal.returns-clause-accepted
returns-clause-accepted c v old next = (
  λ h. (from_plain v old.signed next h.before, from_plain v next.signed next h.itself, h.version),
  λ h. record { before = as_plain v old.signed next h.0; itself = as_plain v next.signed next h.1; version = h.2 },
)
