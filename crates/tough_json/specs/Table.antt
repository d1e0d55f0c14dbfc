-- Objects whose members are the entries of a map.
use Rattle.std.specs.Prelude.{List, [], ◌∷◌, ℕ, Bool, Option, Some, None, if◌then◌else◌}
use Rattle.std.specs.declared.cmp.Ordering.{Ordering}
use Rattle.std.specs.BTreeMap.{insert_entry, is_at}
use Rattle.std.specs.Map.{lookup}
use Rattle.serde_json.specs.Data.{Data, Members, no_members, member}
use Rattle.tough_json.specs.Reading.{◌>>=◌}
use Rattle.tough_json.specs.Writing.{with}

-- the map with one more entry, where may says that it may be put there, by what stands under its key
abbrev pub with_entry : {K X : Type 0} → (Option X → Bool) → (K → K → Ordering) → List (K × X) → K × X → Option (List (K × X))
with_entry may order found e = if may (lookup (is_at (order e.0)) found) then Some (insert_entry order found e.0 e.1) else None

-- the members are put into the map one after another
unfoldable pub table_from : {K X : Type 0} → (Option X → Bool) → (K → K → Ordering) → (List ℕ → Data → Option (K × X)) → List (K × X) → Members → Option (List (K × X))
table_from may order entry found no_members = Some found
table_from may order entry found (member name d ms) = entry name d >>= λ e. with_entry may order found e >>= λ more. table_from may order entry more ms

-- each entry under its name, beside the members that are there
unfoldable pub table_json : {K X : Type 0} → (K → Option (List ℕ)) → (X → Option Data) → List (K × X) → Members → Option Members
table_json name json [] found = Some found
table_json name json (e ∷ es) found = json e.1 >>= λ value. name e.0 >>= λ n. with n value found >>= λ more. table_json name json es more
