-- The listing of a document may be taken out of it first.
use Rattle.std.proofs.Common.{◌≡◌, ℕ, Bor, Vec, Result, Ok, Err, List, codes, false, bytes_eq, true≢false, Option, Some, None, option_map, option_and_then, Ordering, Less, Equal, Greater, is_eq, nat_cmp, refl, sym, ap, ◌∙◌}
use Rattle.std.proofs.lemmas.Map.Text.{is_eq-slice_cmp}
use Rattle.std.proofs.lemmas.Slice.Eq.{bytes_eq-Decides}
use Rattle.std.specs.Cmp.Lexicographic.{slice_cmp}
use Rattle.std.specs.Ordering.{match_ordering}
use Rattle.json.specs.Value.{value_view, members_view as json_members}
use Rattle.json.specs.declared.value.Value.{Value as Borrowed, Object}
use Rattle.json.proofs.Trees.{view-Object}
use Rattle.serde_json.specs.Read.{of_json, of_members}
use Rattle.tough_json.specs.Borrowed.{RefusesMember}
use Rattle.tough_json.specs.Results.{json_of, Reads, Refuses, ReadsBytes}
use Rattle.tough_json.specs.declared.error.ReadError.{ReadError}
use Rattle.tough_json.specs.declared.error.ReadError.TheVariants as errors
use Rattle.serde_json.specs.Data.{Data, object, Members, no_members, member}
use Rattle.serde_json.specs.Find.{get_member}
use Rattle.tough_json.specs.Reading.{◌>>=◌, required, optional, without, text, positive, instant}
use Rattle.tough_json.proofs.lemmas.Write.{bind_ok, some-inj}
use Rattle.tough_names.specs.Named.{Named}
use Rattle.tough_roles.specs.Document.{RefusesValue}
use Rattle.tough_roles.specs.Head.{Head, head_at}
use Rattle.tough_roles.proofs.lemmas.Entry.{map_ok}
use Rattle.tough_schema.specs.Target.{TargetDoc}
use Rattle.tough_schema.specs.Delegations.{delegations_at}
use Rattle.tough_schema.specs.Targets.{TargetsDoc, listing_at, targets_at, targets_around}

-- ---- two names that differ

abbrev Apart : List ℕ → List ℕ → Type 0
Apart a k = bytes_eq a k ≡ false

same_at : (a k l : List ℕ) → Apart a k → slice_cmp nat_cmp a l ≡ Equal → slice_cmp nat_cmp k l ≡ Equal → ⊥
same_at a k l apart p q =
    let is : (x : List ℕ) → slice_cmp nat_cmp x l ≡ Equal → x ≡ l = λ x h. (bytes_eq-Decides x l).0 (sym (is_eq-slice_cmp x l) ∙ ap is_eq h) in
    true≢false (sym ((bytes_eq-Decides a k).1 (is a p ∙ sym (is k q))) ∙ apart)

get_without_at : (o r : Ordering) (a k l : List ℕ) (e : Data) (ms : Members) → slice_cmp nat_cmp a l ≡ o → slice_cmp nat_cmp k l ≡ r → Apart a k → get_member a (without k ms) ≡ get_member a ms
    → get_member a (match_ordering r (member l e (without k ms)) ms (member l e (without k ms))) ≡ match_ordering o (get_member a ms) (Some e) (get_member a ms)
get_without_at Less Less a k l e ms p q apart later = rw p later
get_without_at Less Equal a k l e ms p q apart later = refl
get_without_at Less Greater a k l e ms p q apart later = rw p later
get_without_at Equal Less a k l e ms p q apart later = rw p refl
get_without_at Equal Equal a k l e ms p q apart later = absurd (same_at a k l apart p q)
get_without_at Equal Greater a k l e ms p q apart later = rw p refl
get_without_at Greater Less a k l e ms p q apart later = rw p later
get_without_at Greater Equal a k l e ms p q apart later = refl
get_without_at Greater Greater a k l e ms p q apart later = rw p later

get_without : (a k : List ℕ) (ms : Members) → Apart a k → get_member a (without k ms) ≡ get_member a ms
get_without a k no_members apart = refl
get_without a k (member l e ms) apart = get_without_at (slice_cmp nat_cmp a l) (slice_cmp nat_cmp k l) a k l e ms refl refl apart (get_without a k ms apart)

without_both_at : (o r : Ordering) (a k l : List ℕ) (e : Data) (ms : Members) → slice_cmp nat_cmp a l ≡ o → slice_cmp nat_cmp k l ≡ r → Apart a k → without a (without k ms) ≡ without k (without a ms)
    → without a (match_ordering r (member l e (without k ms)) ms (member l e (without k ms))) ≡ without k (match_ordering o (member l e (without a ms)) ms (member l e (without a ms)))
without_both_at Less Less a k l e ms p q apart later = rw (p, q) (ap (member l e) later)
without_both_at Less Equal a k l e ms p q apart later = rw q refl
without_both_at Less Greater a k l e ms p q apart later = rw (p, q) (ap (member l e) later)
without_both_at Equal Less a k l e ms p q apart later = rw p refl
without_both_at Equal Equal a k l e ms p q apart later = absurd (same_at a k l apart p q)
without_both_at Equal Greater a k l e ms p q apart later = rw p refl
without_both_at Greater Less a k l e ms p q apart later = rw (p, q) (ap (member l e) later)
without_both_at Greater Equal a k l e ms p q apart later = rw q refl
without_both_at Greater Greater a k l e ms p q apart later = rw (p, q) (ap (member l e) later)

without_both : (a k : List ℕ) (ms : Members) → Apart a k → without a (without k ms) ≡ without k (without a ms)
without_both a k no_members apart = refl
without_both a k (member l e ms) apart = without_both_at (slice_cmp nat_cmp a l) (slice_cmp nat_cmp k l) a k l e ms refl refl apart (without_both a k ms apart)

-- ---- what is read of the others

abbrev less : {X : Type 0} → List ℕ → X × Members → X × Members
less k p = (p.0, without k p.1)

map_less : {X : Type 0} (o : Option X) (k : List ℕ) (ms left : Members) → ms ≡ without k left → option_map (λ x. (x, ms)) o ≡ option_map (less k) (option_map (λ x. (x, left)) o)
map_less None k ms left h = refl
map_less (Some x) k ms left h = ap (λ m. Some (x, m)) h

required_less : {X : Type 0} (a k : List ℕ) (f : Data → Option X) (ms : Members) → Apart a k → required a f (without k ms) ≡ option_map (less k) (required a f ms)
required_less a k f ms apart = rw (get_without a k ms apart) (map_less (option_and_then f (get_member a ms)) k (without a (without k ms)) (without a ms) (without_both a k ms apart))

bind_less : {X Y : Type 0} (k : List ℕ) (o : Option (X × Members)) (f : X × Members → Option (Y × Members)) → ((p : X × Members) → f (less k p) ≡ option_map (less k) (f p)) → (option_map (less k) o >>= f) ≡ option_map (less k) (o >>= f)
bind_less k None f h = refl
bind_less k (Some p) f h = h p

head_less : (k : List ℕ) (ms : Members) → Apart (codes "spec_version") k → Apart (codes "version") k → Apart (codes "expires") k → Apart (codes "_type") k → head_at (without k ms) ≡ option_map (less k) (head_at ms)
unfolding head_at
head_less k ms s v e t =
    ap (λ o. o >>= λ x. required (codes "version") positive x.1 >>= λ y. required (codes "expires") instant y.1 >>= λ z. Some (record { spec_version = x.0; version = y.0; expires = z.0 }, without (codes "_type") z.1)) (required_less (codes "spec_version") k text ms s)
    ∙ bind_less k (required (codes "spec_version") text ms) (λ x. required (codes "version") positive x.1 >>= λ y. required (codes "expires") instant y.1 >>= λ z. Some (record { spec_version = x.0; version = y.0; expires = z.0 }, without (codes "_type") z.1)) (λ x.
    ap (λ o. o >>= λ y. required (codes "expires") instant y.1 >>= λ z. Some (record { spec_version = x.0; version = y.0; expires = z.0 }, without (codes "_type") z.1)) (required_less (codes "version") k positive x.1 v)
    ∙ bind_less k (required (codes "version") positive x.1) (λ y. required (codes "expires") instant y.1 >>= λ z. Some (record { spec_version = x.0; version = y.0; expires = z.0 }, without (codes "_type") z.1)) (λ y.
    ap (λ o. o >>= λ z. Some (record { spec_version = x.0; version = y.0; expires = z.0 }, without (codes "_type") z.1)) (required_less (codes "expires") k instant y.1 e)
    ∙ bind_less k (required (codes "expires") instant y.1) (λ z. Some (record { spec_version = x.0; version = y.0; expires = z.0 }, without (codes "_type") z.1)) (λ z.
    ap (λ m. Some (record { spec_version = x.0; version = y.0; expires = z.0 }, m)) (without_both (codes "_type") k z.1 t))))

required_keeps : {X : Type 0} (a k : List ℕ) (f : Data → Option X) (ms : Members) (p : X × Members) → Apart k a → required a f ms ≡ Some p → get_member k p.1 ≡ get_member k ms
required_keeps a k f ms p apart h =
    let found = map_ok (λ x. (x, without a ms)) (option_and_then f (get_member a ms)) p h in
    ap (λ q. get_member k q.1) (sym found.2) ∙ get_without k a ms apart

head_keeps : (k : List ℕ) (ms : Members) (h : Head × Members) → Apart k (codes "spec_version") → Apart k (codes "version") → Apart k (codes "expires") → Apart k (codes "_type") → head_at ms ≡ Some h → get_member k h.1 ≡ get_member k ms
unfolding head_at
head_keeps k ms h s v e t is =
    let x = bind_ok (required (codes "spec_version") text ms) _ h is in
    let y = bind_ok (required (codes "version") positive x.0.1) _ h x.2 in
    let z = bind_ok (required (codes "expires") instant y.0.1) _ h y.2 in
    ap (λ q. get_member k q.1) (sym (some-inj z.2)) ∙ get_without k (codes "_type") z.0.1 t
    ∙ required_keeps (codes "expires") k instant y.0.1 z.0 e z.1 ∙ required_keeps (codes "version") k positive x.0.1 y.0 v y.1 ∙ required_keeps (codes "spec_version") k text ms x.0 s x.1

-- ---- the document

abbrev around : Head × Members → List (Named × TargetDoc) → Option TargetsDoc
around h l = optional (codes "delegations") delegations_at (without (codes "targets") h.1) >>= λ g. Some (record { head = h.0; targets = l; delegations = g.0; extra = g.1 })

none_each : (o : Option (List (Named × TargetDoc))) (f : List (Named × TargetDoc) → Option TargetsDoc) → ((l : List (Named × TargetDoc)) → f l ≡ None) → (o >>= f) ≡ None
none_each None f h = refl
none_each (Some l) f h = h l

abbrev behind : Head → List (Named × TargetDoc) × Members → Option TargetsDoc
behind head t = optional (codes "delegations") delegations_at t.1 >>= λ g. Some (record { head = head; targets = t.0; delegations = g.0; extra = g.1 })

with_head : (o : Option (List (Named × TargetDoc))) (h : Head × Members) (f : List (Named × TargetDoc) → Option TargetsDoc) → ((l : List (Named × TargetDoc)) → f l ≡ around h l)
    → ((option_map {U = List (Named × TargetDoc) × Members} (λ l. (l, without (codes "targets") h.1)) o) >>= behind h.0) ≡ (o >>= f)
with_head None h f is = refl
with_head (Some l) h f is = sym (is l)

first_at : (o : Option (Head × Members)) (ms : Members) → head_at ms ≡ o
    → (o >>= λ h. required (codes "targets") listing_at h.1 >>= behind h.0)
    ≡ (option_and_then listing_at (get_member (codes "targets") ms) >>= λ l. targets_around l (without (codes "targets") ms))
unfolding targets_around
first_at None ms is =
    let none : (l : List (Named × TargetDoc)) → targets_around l (without (codes "targets") ms) ≡ None = λ l. rw (head_less (codes "targets") ms refl refl refl refl, is) refl in
    sym (none_each (option_and_then listing_at (get_member (codes "targets") ms)) _ none)
first_at (Some h) ms is =
    rw (head_keeps (codes "targets") ms h refl refl refl refl is)
    (with_head (option_and_then listing_at (get_member (codes "targets") ms)) h _ (λ l. rw (head_less (codes "targets") ms refl refl refl refl, is) refl))

-- the listing, and then the others
pub targets-first : (ms : Members) → targets_at (object ms) ≡ (option_and_then listing_at (get_member (codes "targets") ms) >>= λ l. targets_around l (without (codes "targets") ms))
unfolding targets_at
targets-first ms = first_at (head_at ms) ms refl

-- ---- the document of JSON

pub refused-member : (e : ReadError) (ms : Members) → RefusesMember (codes "targets") ms e → Refuses e (targets_at (object ms))
refused-member (errors.Json place) ms h = h
refused-member (errors.Shape s) ms h = targets-first ms ∙ ap (λ o. option_and_then listing_at o >>= λ l. targets_around l (without (codes "targets") ms)) h
refused-member errors.Memory ms h = h

pub refused-listing : (e : ReadError) (ms : Members) (x : Data) → get_member (codes "targets") ms ≡ Some x → Refuses e (listing_at x) → Refuses e (targets_at (object ms))
refused-listing (errors.Json place) ms x is h = h
refused-listing (errors.Shape s) ms x is h = targets-first ms ∙ ap (λ o. option_and_then listing_at o >>= λ l. targets_around l (without (codes "targets") ms)) is ∙ ap (λ o. o >>= λ l. targets_around l (without (codes "targets") ms)) h
refused-listing errors.Memory ms x is h = h

pub listed-first : (ms : Members) (x : Data) (l : List (Named × TargetDoc)) → get_member (codes "targets") ms ≡ Some x → listing_at x ≡ Some l → targets_at (object ms) ≡ targets_around l (without (codes "targets") ms)
listed-first ms x l is h = targets-first ms ∙ ap (λ o. option_and_then listing_at o >>= λ l. targets_around l (without (codes "targets") ms)) is ∙ ap (λ o. o >>= λ l. targets_around l (without (codes "targets") ms)) h

pub object-members : {A : Type 0} → (value : Borrowed A) (v : Vec (Bor (List ℕ) × Borrowed A) A) (d : Data) → value ≡ Object v → of_json (value_view value) ≡ Some d
    → (ms : Members) × (of_members (json_members v.items) no_members ≡ Some ms) × (object ms ≡ d)
object-members value v d is h = map_ok object (of_members (json_members v.items) no_members) d (sym (ap (λ x. of_json (value_view x)) is ∙ ap of_json (view-Object v)) ∙ h)

-- ---- what a document's reader answers

pub refused-value : (e : ReadError) (d : Data) → Refuses e (targets_at d) → RefusesValue (λ x. targets_at x ≡ None) e d
refused-value (errors.Json place) d h = h
refused-value (errors.Shape s) d h = h
refused-value errors.Memory d h = h

pub read-bytes : {X Y : Type 0} (view : X → Y) (r : Result X ReadError) (d : Data) (bytes : List ℕ) (f : Data → Option Y) → json_of bytes ≡ Some d → Reads view r (f d) → ReadsBytes view r bytes f
read-bytes view (Ok x) d bytes f is h = (d, is, h)
read-bytes view (Err (errors.Json place)) d bytes f is h = absurd h
read-bytes view (Err (errors.Shape s)) d bytes f is h = (d, is, h)
read-bytes view (Err errors.Memory) d bytes f is h = tt
