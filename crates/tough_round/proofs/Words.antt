-- Integers that were read are of 64 bits.
use Rattle.std.proofs.Common.{◌≡◌, ℕ, zero, suc, ◌^◌, ◌<◌, ◌&&◌, nat_lt, nat_le, List, Bool, true, false, Option, Some, None, option_map, option_and_then, Ordering, Less, Equal, Greater, ltb-true, refl, ap, subst, ◌∙◌}
use Rattle.std.specs.Prelude.{if◌then◌else◌, ◌==◌, slice_index, drop}
use Rattle.std.specs.Ordering.{nat_cmp, match_ordering}
use Rattle.std.specs.Cmp.Lexicographic.{slice_cmp}
use Rattle.std.specs.Str.{is_utf8}
use Rattle.std.specs.Float.{binary64, float_is_finite}
use Rattle.std.proofs.lemmas.Bool.{and_parts}
use Rattle.fast_float.specs.Text.{minus, Parts, digits_of, nearest, with_sign, scan}
use Rattle.json.specs.Json as json
use Rattle.json.specs.Lex.{tokens}
use Rattle.serde_json.specs.Data.{Num, unsigned, negative, float, Data, null, boolean, number, string, array, object, Items, no_items, item, Members, no_members, member, put}
use Rattle.serde_json.specs.Find.{get_member, as_object, as_u64}
use Rattle.serde_json.specs.Read.{is_integer, float_of, number_from, number_of, of_json, of_items, of_members, max_depth, read}
use Rattle.tough_json.specs.Reading.{without, required, whole, if_positive, positive}
use Rattle.tough_json.specs.Results.{json_of}
use Rattle.tough_json.proofs.lemmas.Write.{some-inj}

abbrev pub IsWord : Num → Type 0
IsWord (unsigned n) = n < 2 ^ 64
IsWord (negative z) = Unit {0}
IsWord (float x) = Unit {0}

-- each integer in the value is
abbrev mutual
  pub HasWords : Data → Type 0
  HasWords null = Unit {0}
  HasWords (boolean b) = Unit {0}
  HasWords (number n) = IsWord n
  HasWords (string s) = Unit {0}
  HasWords (array ds) = HaveWords ds
  HasWords (object ms) = MembersHave ms

  pub HaveWords : Items → Type 0
  HaveWords no_items = Unit {0}
  HaveWords (item d ds) = HasWords d × HaveWords ds

  pub MembersHave : Members → Type 0
  MembersHave no_members = Unit {0}
  MembersHave (member k d ms) = HasWords d × MembersHave ms

-- ---- options

pub map-some : {A B : Type 0} (f : A → B) (o : Option A) (b : B) → option_map f o ≡ Some b → (a : A) × (o ≡ Some a) × (f a ≡ b)
map-some f None b h = cc
map-some f (Some a) b h = (a, refl, some-inj h)

pub then-some : {A B : Type 0} (f : A → Option B) (o : Option A) (b : B) → option_and_then f o ≡ Some b → (a : A) × (o ≡ Some a) × (f a ≡ Some b)
then-some f None b h = cc
then-some f (Some a) b h = (a, refl, h)

-- ---- numbers

float-word : (b : Bool) (x : Num) (n : Num) → IsWord x → (if b then Some x else None) ≡ Some n → IsWord n
float-word true x n w h = subst IsWord (some-inj h) w
float-word false x n w h = cc

whole-word : (p : Parts) (n : Num) (b : Bool) → (is_integer p && nat_lt (digits_of p) (2 ^ 64)) ≡ b → (if b then Some (unsigned (digits_of p)) else float_of false p) ≡ Some n → IsWord n
whole-word p n true is h = subst IsWord (some-inj h) (ltb-true (digits_of p) (2 ^ 64) (and_parts (is_integer p) (nat_lt (digits_of p) (2 ^ 64)) is).1)
whole-word p n false is h = float-word (float_is_finite (nearest binary64 false p)) (float (nearest binary64 false p)) n tt h

negative-word : (p : Parts) (n : Num) (b : Bool) → (if b then Some (negative (with_sign true (digits_of p))) else float_of true p) ≡ Some n → IsWord n
negative-word p n true h = subst IsWord (some-inj h) tt
negative-word p n false h = float-word (float_is_finite (nearest binary64 true p)) (float (nearest binary64 true p)) n tt h

from-word : (sign : Bool) (p : Parts) (n : Num) → number_from sign p ≡ Some n → IsWord n
from-word false p n h = whole-word p n (is_integer p && nat_lt (digits_of p) (2 ^ 64)) refl h
from-word true p n h = negative-word p n (is_integer p && nat_lt 0 (digits_of p) && nat_le (digits_of p) (2 ^ 63)) h

either-word : (b : Bool) (p q : Parts) (n : Num) → (if b then number_from true p else number_from false q) ≡ Some n → IsWord n
either-word true p q n h = from-word true p n h
either-word false p q n h = from-word false q n h

number-word : (s : List ℕ) (n : Num) → number_of s ≡ Some n → IsWord n
unfolding number_of
number-word s n h = either-word (slice_index s 0 == minus) (scan (drop 1 s)) (scan s) n h

-- ---- values

put-at : (t : Ordering) (k l : List ℕ) (d e : Data) (ms rest : Members) → HasWords d → MembersHave (member l e ms) → MembersHave rest → MembersHave (match_ordering t (member k d (member l e ms)) (member l d ms) (member l e rest))
put-at Less k l d e ms rest w a r = (w, a)
put-at Equal k l d e ms rest w a r = (w, a.1)
put-at Greater k l d e ms rest w a r = (a.0, r)

put-words : (k : List ℕ) (d : Data) (ms : Members) → HasWords d → MembersHave ms → MembersHave (put k d ms)
put-words k d no_members w a = (w, tt)
put-words k d (member l e ms) w a = put-at (slice_cmp nat_cmp k l) k l d e ms (put k d ms) w a (put-words k d ms w a.1)

mutual
  value-words : (j : json.Json) (d : Data) → of_json j ≡ Some d → HasWords d
  value-words json.null d h = subst HasWords (some-inj h) tt
  value-words (json.boolean b) d h = subst HasWords (some-inj h) tt
  value-words (json.number s) d h = let r = map-some number (number_of s) d h in subst HasWords r.2 (number-word s r.0 r.1)
  value-words (json.string s) d h = subst HasWords (some-inj h) tt
  value-words (json.array js) d h = let r = map-some array (of_items js) d h in subst HasWords r.2 (items-words js r.0 r.1)
  value-words (json.object ms) d h = let r = map-some object (of_members ms no_members) d h in subst HasWords r.2 (members-words ms no_members r.0 tt r.1)

  items-words : (js : json.Items) (ds : Items) → of_items js ≡ Some ds → HaveWords ds
  items-words json.no_items ds h = subst HaveWords (some-inj h) tt
  items-words (json.item j js) ds h =
      let r = then-some (λ d. option_map (item d) (of_items js)) (of_json j) ds h in
      let q = map-some (item r.0) (of_items js) ds r.2 in
      subst HaveWords q.2 (value-words j r.0 r.1, items-words js q.0 q.1)

  members-words : (ms : json.Members) (found all : Members) → MembersHave found → of_members ms found ≡ Some all → MembersHave all
  members-words json.no_members found all w h = subst MembersHave (some-inj h) w
  members-words (json.member k j ms) found all w h =
      let r = then-some (λ d. of_members ms (put k d found)) (of_json j) all h in
      members-words ms (put k r.0 found) all (put-words k r.0 found (value-words j r.0 r.1) w) r.2

utf8-words : (b : Bool) (bytes : List ℕ) (d : Data) → (if b then read bytes else None) ≡ Some d → HasWords d
utf8-words true bytes d h = let r = then-some of_json (option_and_then (λ p. json.if_last p.0 p.1) (json.value max_depth (tokens bytes))) d h in value-words r.0 d r.2
utf8-words false bytes d h = cc

pub read-words : (bytes : List ℕ) (d : Data) → json_of bytes ≡ Some d → HasWords d
unfolding json_of
read-words bytes d h = utf8-words (is_utf8 bytes) bytes d h

-- ---- members

pub object-words : (d : Data) (ms : Members) → as_object d ≡ Some ms → HasWords d → MembersHave ms
object-words null ms h w = cc
object-words (boolean b) ms h w = cc
object-words (number n) ms h w = cc
object-words (string s) ms h w = cc
object-words (array ds) ms h w = cc
object-words (object l) ms h w = subst MembersHave (some-inj h) w

found-at : (t : Ordering) (e : Data) (o : Option Data) (d : Data) → match_ordering t o (Some e) o ≡ Some d → HasWords e → (o ≡ Some d → HasWords d) → HasWords d
found-at Less e o d h w r = r h
found-at Equal e o d h w r = subst HasWords (some-inj h) w
found-at Greater e o d h w r = r h

pub found-words : (k : List ℕ) (ms : Members) (d : Data) → get_member k ms ≡ Some d → MembersHave ms → HasWords d
found-words k no_members d h a = cc
found-words k (member l e ms) d h a = found-at (slice_cmp nat_cmp k l) e (get_member k ms) d h a.0 (λ g. found-words k ms d g a.1)

left-at : (t : Ordering) (l : List ℕ) (e : Data) (ms rest : Members) → MembersHave (member l e ms) → MembersHave rest → MembersHave (match_ordering t (member l e rest) ms (member l e rest))
left-at Less l e ms rest a r = (a.0, r)
left-at Equal l e ms rest a r = a.1
left-at Greater l e ms rest a r = (a.0, r)

pub left-words : (k : List ℕ) (ms : Members) → MembersHave ms → MembersHave (without k ms)
left-words k no_members a = tt
left-words k (member l e ms) a = left-at (slice_cmp nat_cmp k l) l e ms (without k ms) a (left-words k ms a.1)

-- what a member that must be there is read of
pub required-words : {A : Type 0} (k : List ℕ) (f : Data → Option A) (ms : Members) (r : A × Members) → required k f ms ≡ Some r → MembersHave ms → ((d : Data) × (f d ≡ Some r.0) × HasWords d) × MembersHave r.1
required-words {A} k f ms r h a =
    let p = map-some (λ x. let q : A × Members = (x, without k ms) in q) (option_and_then f (get_member k ms)) r h in
    let q = then-some f (get_member k ms) p.0 p.1 in
    ((q.0, q.2 ∙ ap (λ (y : A × Members). Some y.0) p.2, found-words k ms q.0 q.1 a), subst MembersHave (ap (λ (y : A × Members). y.1) p.2) (left-words k ms a))

-- ---- versions

positive-word : (m n : ℕ) → m < 2 ^ 64 → if_positive m ≡ Some n → n < 2 ^ 64
positive-word zero n w h = cc
positive-word (suc m) n w h = subst (λ x. x < 2 ^ 64) (some-inj h) w

u64-word : (x : Num) (n : ℕ) → as_u64 x ≡ Some n → IsWord x → n < 2 ^ 64
u64-word (unsigned m) n h w = subst (λ x. x < 2 ^ 64) (some-inj h) w
u64-word (negative z) n h w = cc
u64-word (float x) n h w = cc

whole-word-of : (d : Data) (n : ℕ) → whole d ≡ Some n → HasWords d → n < 2 ^ 64
whole-word-of null n h w = cc
whole-word-of (boolean b) n h w = cc
whole-word-of (number x) n h w = u64-word x n h w
whole-word-of (string s) n h w = cc
whole-word-of (array ds) n h w = cc
whole-word-of (object ms) n h w = cc

pub positive-words : (d : Data) (n : ℕ) → positive d ≡ Some n → HasWords d → n < 2 ^ 64
positive-words d n h w = let r = then-some if_positive (whole d) n h in positive-word r.0 n (whole-word-of d r.0 r.1 w) r.2
