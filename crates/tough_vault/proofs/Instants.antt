-- The order of instants.
use Rattle.std.proofs.Common.{◌≡◌, ℤ, ◌≤ℤ◌, T, Bool, true, false, not, refl, sym, subst}
use lib.Signed.{lt_z, lt_z_yes, lt_z_no, <ℤ-≤ℤ_trans, clash_ℤ}

by_test : (a b c : ℤ) (t : Bool) → lt_z c a ≡ t → a ≤ℤ b → b ≤ℤ c → a ≤ℤ c
by_test a b c true e h k = clash_ℤ (<ℤ-≤ℤ_trans (lt_z_yes (subst T (sym e) tt)) h) k
by_test a b c false e h k = lt_z_no (subst (λ (x : Bool). T (not x)) (sym e) tt)

-- of three instants in order, the first isn't later than the last
pub no_later : (a b c : ℤ) → a ≤ℤ b → b ≤ℤ c → a ≤ℤ c
no_later a b c h k = by_test a b c (lt_z c a) refl h k
