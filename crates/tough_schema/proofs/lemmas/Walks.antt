-- What a document lists under a name, and the names in a set.
use Rattle.std.proofs.Common.{◌≡◌, List, [], ◌∷◌, Bool, true, false, Option, Some, option_map, Ordering, Less, Equal, Greater, is_eq, String, Global, string_bytes, string_cmp, refl, ◌∙◌, cond, ◌||◌, bytes_eq}
use Rattle.std.proofs.lemmas.Map.Text.{btree_set_updates_text}
use Rattle.std.specs.BTreeMap.{is_at}
use Rattle.std.specs.BTreeSet.{BTreeSet, Updates}
use Rattle.std.specs.Map.{lookup}
use Rattle.tough_schema.specs.Target.{TargetDoc, target_doc}
use Rattle.tough_schema.specs.declared.target.Target.{Target}
use Rattle.tough_schema.specs.Search.{add, listed}
use Rattle.tough_schema.specs.Visited.{names_in}
use Rattle.tough_schema.specs.Targets.{listing_doc}
use Rattle.tough_names.specs.Named.{Named, by_raw_then_resolved}

found_at : (o : Ordering) (e : Named × Target) (rest : Option Target) (docs : Option TargetDoc) → docs ≡ option_map target_doc rest
    → (cond (is_eq o) (Some (target_doc e.1)) docs) ≡ option_map target_doc (cond (is_eq o) (Some e.1) rest)
found_at Less e rest docs h = h
found_at Equal e rest docs h = refl
found_at Greater e rest docs h = h

pub listed-get : (name : Named) (es : List (Named × Target)) → listed name (listing_doc es) ≡ option_map target_doc (lookup (is_at (by_raw_then_resolved name)) es)
listed-get name [] = refl
listed-get name (e ∷ es) = found_at (by_raw_then_resolved name e.0) e (lookup (is_at (by_raw_then_resolved name)) es) (listed name (listing_doc es)) (listed-get name es)

or-cond : (a b : Bool) → cond a true b ≡ (a || b)
or-cond true b = refl
or-cond false b = refl

pub names_in-insert : (s n : BTreeSet (String Global)) (k : String Global) → Updates string_cmp s n k true → names_in n ≡ add (string_bytes k) (names_in s)
names_in-insert s n k u = λ i q. (btree_set_updates_text (string_bytes k) s n true u q ∙ or-cond (bytes_eq (string_bytes k) q) (names_in s q)) i
