-- What a chain of readers went through, where it gave a value.
use Rattle.std.proofs.Common.{◌≡◌, Bool, true, false, not, ◌&&◌, Option, Some, None, option_and_then, refl, sym}
use Rattle.std.specs.Prelude.{if◌then◌else◌}

pub and_left : (a b : Bool) → (a && b) ≡ true → a ≡ true
and_left true b e = refl
and_left false b e = e

pub and_right : (a b : Bool) → (a && b) ≡ true → b ≡ true
and_right true b e = e
and_right false b e = absurd (cc)

pub not_not : (a : Bool) → not a ≡ true → a ≡ false
not_not true e = sym e
not_not false e = refl

-- a value under a test
pub if_some : {A : Type 0} (t : Bool) (x : Option A) (y : A) → (if t then x else None) ≡ Some y → (t ≡ true) × (x ≡ Some y)
if_some true x y e = (refl, e)
if_some false x y e = absurd (cc)

-- a value under the opposite of a test
pub unless_some : {A : Type 0} (t : Bool) (x : Option A) (y : A) → (if t then None else x) ≡ Some y → (t ≡ false) × (x ≡ Some y)
unless_some true x y e = absurd (cc)
unless_some false x y e = (refl, e)

-- one of two values
pub either : {A P : Type 0} (t : Bool) (x y : Option A) (z : Option A) → (if t then x else y) ≡ z → (t ≡ true → x ≡ z → P) → (t ≡ false → y ≡ z → P) → P
either true x y z e f g = f refl e
either false x y z e f g = g refl e

-- a value after a value
pub and_then_some : {A B P : Type 0} (f : A → Option B) (o : Option A) (y : B) → option_and_then f o ≡ Some y → ((x : A) → o ≡ Some x → f x ≡ Some y → P) → P
and_then_some f None y e k = absurd (cc)
and_then_some f (Some x) y e k = k x refl e
