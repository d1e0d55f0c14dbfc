-- The files of signed roles, one after another.
use Rattle.std.proofs.Common.{◌≡◌, ℕ, ◌+◌, ◌<◌, List, [], ◌∷◌, ◌++◌, map, take, length, get_or, sym, ap, ◌∙◌}
use Rattle.std.proofs.lemmas.List.{map-append, take_more}
use Rattle.tough_write.specs.declared.write.NamedFile.{NamedFile}
use Rattle.tough_write.specs.Writing.{FileDoc, file_doc}

module _ {R : Type 0} (g : R → FileDoc) (rs : List R) (i : ℕ) (r : R) (fs : List NamedFile) (f : NamedFile) where
  -- one more file
  pub named_more : i < length rs → r ≡ get_or rs i r → map file_doc fs ≡ map g (take i rs) → file_doc f ≡ g r → map file_doc (fs ++ f ∷ []) ≡ map g (take (i + 1) rs)
  named_more less is before this =
      let here : take (i + 1) rs ≡ take i rs ++ r ∷ [] = take_more rs i r less ∙ ap (λ x. take i rs ++ x ∷ []) (sym is) in
      map-append file_doc fs (f ∷ []) ∙ ap (λ docs. docs ++ file_doc f ∷ []) before ∙ ap (λ d. map g (take i rs) ++ d ∷ []) this
      ∙ sym (ap (map g) here ∙ map-append g (take i rs) (r ∷ []))
