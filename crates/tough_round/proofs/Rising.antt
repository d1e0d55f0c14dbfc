-- What was read into a table is in the order of its keys.
use Rattle.std.proofs.Common.{◌≡◌, ℕ, List, [], ◌∷◌, Bool, true, false, Option, Some, None, Ordering, Less, Equal, Greater, refl, ap, subst, ◌∙◌}
use Rattle.std.specs.Prelude.{if◌then◌else◌}
use Rattle.std.specs.Ordering.{ordering_reverse}
use Rattle.std.specs.Cmp.{IsTotalOrder}
use Rattle.std.specs.BTreeMap.{insert_entry, is_at}
use Rattle.std.specs.Map.{lookup, keys_of}
use Rattle.std.specs.List.{AllByRecursion}
use Rattle.std.specs.List.Sorted.{IsStrictlySortedBy}
use Rattle.serde_json.specs.Data.{Data, Members, no_members, member}
use Rattle.tough_json.specs.Reading.{◌>>=◌}
use Rattle.tough_json.specs.Table.{with_entry, table_from}
use Rattle.tough_json.proofs.lemmas.Write.{bind_ok, some-inj}

after : {K : Type 0} {R : K → K → Ordering} (o : IsTotalOrder R) (k x : K) (ys : List K) → R k x ≡ Less → AllByRecursion (λ y. R x y ≡ Less) ys → AllByRecursion (λ y. R k y ≡ Less) ys
after o k x [] h a = tt
after o k x (y ∷ ys) h a = (o.trans k x y h a.0, after o k x ys h a.1)

module _ {K X : Type 0} {R : K → K → Ordering} (o : IsTotalOrder R) where
  all-at : (P : K → Type 0) (e : K × X) (es : List (K × X)) (k : K) (v : X) (t : Ordering) → R k e.0 ≡ t → AllByRecursion P (keys_of (e ∷ es)) → P k → AllByRecursion P (keys_of (insert_entry R es k v)) → AllByRecursion P (keys_of (insert_entry R (e ∷ es) k v))
  all-at P e es k v Less is a p rest = rw is (p, a)
  all-at P e es k v Equal is a p rest = rw is a
  all-at P e es k v Greater is a p rest = rw is (a.0, rest)

  all-insert : (P : K → Type 0) (es : List (K × X)) (k : K) (v : X) → AllByRecursion P (keys_of es) → P k → AllByRecursion P (keys_of (insert_entry R es k v))
  all-insert P [] k v a p = (p, tt)
  all-insert P (e ∷ es) k v a p = all-at P e es k v (R k e.0) refl a p (all-insert P es k v a.1 p)

  rise-at : (e : K × X) (es : List (K × X)) (k : K) (v : X) (t : Ordering) → R k e.0 ≡ t → IsStrictlySortedBy R (keys_of (e ∷ es)) → IsStrictlySortedBy R (keys_of (insert_entry R es k v)) → IsStrictlySortedBy R (keys_of (insert_entry R (e ∷ es) k v))
  unfolding IsStrictlySortedBy
  rise-at e es k v Less is s rest = rw is ((is, after o k e.0 (keys_of es) is s.0), s)
  rise-at e es k v Equal is s rest = rw is s
  rise-at e es k v Greater is s rest = rw is (all-insert (λ y. R e.0 y ≡ Less) es k v s.0 (o.antisymm e.0 k ∙ ap ordering_reverse is), rest)

  pub insert-rises : (es : List (K × X)) (k : K) (v : X) → IsStrictlySortedBy R (keys_of es) → IsStrictlySortedBy R (keys_of (insert_entry R es k v))
  unfolding IsStrictlySortedBy
  insert-rises [] k v s = (tt, tt)
  insert-rises (e ∷ es) k v s = rise-at e es k v (R k e.0) refl s (insert-rises es k v s.1)

  entry-rises : (b : Bool) (e : K × X) (found more : List (K × X)) → IsStrictlySortedBy R (keys_of found) → (if b then Some (insert_entry R found e.0 e.1) else None) ≡ Some more → IsStrictlySortedBy R (keys_of more)
  entry-rises true e found more s h = subst (λ (l : List (K × X)). IsStrictlySortedBy R (keys_of l)) (some-inj h) (insert-rises found e.0 e.1 s)
  entry-rises false e found more s h = cc

  pub table-rises : (may : Option X → Bool) (entry : List ℕ → Data → Option (K × X)) (found es : List (K × X)) (ms : Members) → IsStrictlySortedBy R (keys_of found) → table_from may R entry found ms ≡ Some es → IsStrictlySortedBy R (keys_of es)
  unfolding table_from
  table-rises may entry found es no_members s h = subst (λ (l : List (K × X)). IsStrictlySortedBy R (keys_of l)) (some-inj h) s
  table-rises may entry found es (member name d ms) s h =
      let a = bind_ok (entry name d) (λ e. with_entry may R found e >>= λ more. table_from may R entry more ms) es h in
      let b = bind_ok (with_entry may R found a.0) (λ more. table_from may R entry more ms) es a.2 in
      table-rises may entry b.0 es ms (entry-rises (may (lookup (is_at (R a.0.0)) found)) a.0 found b.0 s b.1) b.2
