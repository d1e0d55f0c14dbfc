-- The edits that begin with a root's file.
use Rattle.std.specs.Prelude.{◌≡◌, ℕ, List, Option, Some, option_and_then}
use Rattle.std.proofs.Common.{ap, inr, ◌∙◌}
use Rattle.serde_json.specs.Data.{Data}
use Rattle.tough_files.specs.Contents.{Node, file}
use Rattle.tough_roles.specs.Document.{IsSigned}
use Rattle.tough_roles.specs.Root.{root_doc, root_at}
use Rattle.tough_roles.specs.Signature.{signed_doc, signed_at}
use Rattle.tough_roles.specs.declared.root.Root.{Root}
use Rattle.tough_roles.specs.declared.signed.Signed.{Signed}
use Rattle.tough_signed.specs.declared.error.EditError.{EditError}
use Rattle.tough_release.specs.Roots.{IsRootOf, root_in, IsUnstable}
use Rattle.tough_publish.specs.Roots.{IsRootless}

-- what reading says of the root is an equation on its plain form
pub root_read : (bytes : List ℕ) (s : Signed Root) → ((d : Data) (x : Signed Root) → IsSigned (λ e y. root_at e ≡ Some (root_doc y)) d x → signed_at root_at d ≡ Some (signed_doc root_doc x)) → IsRootOf s bytes → root_in bytes ≡ Some (signed_doc root_doc s)
root_read bytes s law (d, is, signed) = ap (option_and_then (signed_at root_at)) is ∙ law d s signed

pub unstable_at : (path : List ℕ) (n : Option Node) (bytes : List ℕ) (s : Signed Root) (error : EditError) → n ≡ Some (file bytes) → root_in bytes ≡ Some (signed_doc root_doc s) → IsUnstable (root_doc s.signed).roles error → IsRootless path n error
unstable_at path n bytes s error at read h = inr (record { bytes = bytes; at = at; root = signed_doc root_doc s; read = read; unstable = h })
