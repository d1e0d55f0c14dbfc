-- What a document lists for a file, as the map has it.
use Rattle.std.proofs.Common.{◌≡◌, ℕ, List, [], ◌∷◌, Option, Some, Bool, true, false, cond, option_map, nat_cmp, String, string_bytes, refl, sym}
use Rattle.std.specs.declared.alloc.Global.{Global}
use Rattle.std.specs.Cmp.Lexicographic.{slice_cmp}
use Rattle.std.specs.Ordering.{is_eq}
use Rattle.std.specs.Str.{bytes_eq}
use Rattle.std.specs.Map.{lookup}
use Rattle.std.proofs.lemmas.Map.Text.{is_eq-slice_cmp}
use Rattle.tough_roles.specs.declared.timestamp.Metafile.{Metafile}
use Rattle.tough_roles.specs.Timestamp.{MetafileDoc, metafile_doc, metafiles_doc, metafile_in}

step : (b c : Bool) (m : Metafile) (r : Option MetafileDoc) (l : Option Metafile) → b ≡ c → r ≡ option_map metafile_doc l
    → cond b (Some (metafile_doc m)) r ≡ option_map metafile_doc (cond c (Some m) l)
step true true m r l e h = refl
step true false m r l e h = absurd (cc (e))
step false true m r l e h = absurd (cc (e))
step false false m r l e h = h

pub looked : (es : List (String Global × Metafile)) (name : List ℕ)
    → metafile_in (metafiles_doc es) name ≡ option_map metafile_doc (lookup (λ k. is_eq (slice_cmp nat_cmp name (string_bytes k))) es)
looked [] name = refl
looked (e ∷ es) name = step (bytes_eq name (string_bytes e.0)) (is_eq (slice_cmp nat_cmp name (string_bytes e.0))) e.1
    (metafile_in (metafiles_doc es) name) (lookup (λ k. is_eq (slice_cmp nat_cmp name (string_bytes k))) es) (sym (is_eq-slice_cmp name (string_bytes e.0))) (looked es name)
