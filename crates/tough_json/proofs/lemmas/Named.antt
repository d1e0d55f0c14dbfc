-- A map whose entries are written one after another into an object.
use Rattle.std.proofs.Common.{◌≡◌, ℕ, List, [], ◌∷◌, ◌++◌, map, Option, Some, None, String, Global, string_bytes, string_cmp, nat_cmp, Greater, refl, ap, ◌∙◌}
use Rattle.std.specs.String.{string_cmp_total}
use Rattle.std.specs.Cmp.Lexicographic.{slice_cmp}
use Rattle.std.specs.List.Sorted.{IsStrictlySortedBy}
use Rattle.std.specs.Map.{keys_of}
use Rattle.std.specs.Ordering.{ordering_reverse}
use Rattle.serde_json.specs.Data.{Data, Members, no_members, member, put}
use Rattle.tough_json.specs.declared.error.WriteError.{WriteError}
use Rattle.tough_json.specs.declared.error.WriteError.TheVariants as writes
use Rattle.tough_json.specs.Results.{RefusesWrite}
use Rattle.tough_json.specs.Reading.{◌>>=◌}
use Rattle.tough_json.specs.Writing.{named}
use Rattle.tough_json.proofs.lemmas.Each.{below_middle}
use Rattle.tough_json.proofs.lemmas.Write.{bind_ok, some-inj}

-- one more member at the end
abbrev pub snoc : Members → List ℕ → Data → Members
snoc no_members k d = member k d no_members
snoc (member l e ms) k d = member l e (snoc ms k d)

abbrev pub docs : {X A : Type 0} → (X → A) → List (String Global × X) → List (List ℕ × A)
docs f es = map (λ e. (string_bytes e.0, f e.1)) es

bind2 : (k : List ℕ) (o : Option Data) (q : Option Members) (x : Data) (r : Members) → o ≡ Some x → q ≡ Some r → (o >>= λ d. q >>= λ rest. Some (member k d rest)) ≡ Some (member k x r)
bind2 k o q x r h w = rw (h, w) refl

bind-none : (k : List ℕ) (o : Option Data) (q : Option Members) → q ≡ None → (o >>= λ d. q >>= λ rest. Some (member k d rest)) ≡ None
bind-none k (Some d) q h = rw h refl
bind-none k None q h = refl

pub named-snoc : {A : Type 0} (g : A → Option Data) (es : List (List ℕ × A)) (k : List ℕ) (a : A) (ms : Members) (d : Data) → named g es ≡ Some ms → g a ≡ Some d → named g (es ++ (k, a) ∷ []) ≡ Some (snoc ms k d)
unfolding named
named-snoc g [] k a ms d h w = rw (w, ← some-inj h) refl
named-snoc g (e ∷ es) k a ms d h w =
    let first = bind_ok (g e.1) (λ x. named g es >>= λ rest. Some (member e.0 x rest)) ms h in
    let others = bind_ok (named g es) (λ rest. Some (member e.0 first.0 rest)) ms first.2 in
    bind2 e.0 (g e.1) (named g (es ++ (k, a) ∷ [])) first.0 (snoc others.0 k d) first.1 (named-snoc g es k a others.0 d others.1 w) ∙ ap (λ (m : Members). Some (snoc m k d)) (some-inj others.2)

pub named-refused : {A : Type 0} (g : A → Option Data) (es : List (List ℕ × A)) (e : List ℕ × A) (left : List (List ℕ × A)) → g e.1 ≡ None → named g (es ++ e ∷ left) ≡ None
unfolding named
named-refused g [] e left h = rw h refl
named-refused g (x ∷ es) e left h = bind-none x.0 (g x.1) (named g (es ++ e ∷ left)) (named-refused g es e left h)

-- a name above the others goes last
pub put-snoc : {X A : Type 0} (f : X → A) (g : A → Option Data) (es : List (String Global × X)) (k : String Global) (more : List (String Global)) (d : Data) (ms : Members) → named g (docs f es) ≡ Some ms → IsStrictlySortedBy string_cmp (keys_of es ++ k ∷ more) → put (string_bytes k) d ms ≡ snoc ms (string_bytes k) d
unfolding named IsStrictlySortedBy
put-snoc f g [] k more d ms h s = rw (← some-inj h) refl
put-snoc f g (e ∷ es) k more d ms h s =
    let first = bind_ok (g (f e.1)) (λ x. named g (docs f es) >>= λ rest. Some (member (string_bytes e.0) x rest)) ms h in
    let others = bind_ok (named g (docs f es)) (λ rest. Some (member (string_bytes e.0) first.0 rest)) ms first.2 in
    let above : slice_cmp nat_cmp (string_bytes k) (string_bytes e.0) ≡ Greater = string_cmp_total.antisymm k e.0 ∙ ap ordering_reverse (below_middle e.0 (keys_of es) k more s.0) in
    rw (← some-inj others.2, above) (ap (λ l. member (string_bytes e.0) first.0 l) (put-snoc f g es k more d others.0 others.1 s.1))

-- a refusal of a part refuses the whole
pub refuses-write : {X Y : Type 0} (part : Option X) (whole : Option Y) (e : WriteError) → (part ≡ None → whole ≡ None) → RefusesWrite e part → RefusesWrite e whole
refuses-write part whole writes.Unwritable h r = h r
refuses-write part whole writes.Memory h r = r
