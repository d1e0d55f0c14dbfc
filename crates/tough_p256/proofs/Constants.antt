-- The words of constants of the field.
use Rattle.std.proofs.Common.{◌≡◌, ◌-◌, [], ◌∷◌, refl}
use Rattle.tough_modular.specs.Number.{number}
use Rattle.tough_p256.specs.Field.{prime}
use Rattle.tough_p256.specs.Order.{order}

pub zero_form : number (0 ∷ 0 ∷ 0 ∷ 0 ∷ []) ≡ 0
unfolding number
zero_form = refl

pub one_form : number (0x1 ∷ 0xffffffff00000000 ∷ 0xffffffffffffffff ∷ 0xfffffffe ∷ []) ≡ 0xfffffffeffffffffffffffffffffffff000000000000000000000001
unfolding number
one_form = refl

pub three_form : number (0x3 ∷ 0xfffffffd00000000 ∷ 0xffffffffffffffff ∷ 0x2fffffffc ∷ []) ≡ 0x2fffffffcfffffffffffffffffffffffd000000000000000000000003
unfolding number
three_form = refl

pub b_form : number (0xd89cdf6229c4bddf ∷ 0xacf005cd78843090 ∷ 0xe5a220abf7212ed6 ∷ 0xdc30061d04874834 ∷ []) ≡ 0xdc30061d04874834e5a220abf7212ed6acf005cd78843090d89cdf6229c4bddf
unfolding number
b_form = refl

pub base_x_form : number (0x79e730d418a9143c ∷ 0x75ba95fc5fedb601 ∷ 0x79fb732b77622510 ∷ 0x18905f76a53755c6 ∷ []) ≡ 0x18905f76a53755c679fb732b7762251075ba95fc5fedb60179e730d418a9143c
unfolding number
base_x_form = refl

pub base_y_form : number (0xddf25357ce95560a ∷ 0x8b4ab8e4ba19e45c ∷ 0xd2e88688dd21f325 ∷ 0x8571ff1825885d85 ∷ []) ≡ 0x8571ff1825885d85d2e88688dd21f3258b4ab8e4ba19e45cddf25357ce95560a
unfolding number
base_y_form = refl

pub order_form : number (0x9ad169483335f568 ∷ 0x89b1054463fe9931 ∷ 0x9c0166ce652e96b7 ∷ 0x98648c200fe30feb ∷ []) ≡ 0x98648c200fe30feb9c0166ce652e96b789b1054463fe99319ad169483335f568
unfolding number
order_form = refl

pub room_words : number (0xc46353d039cdaae ∷ 0x4319055358e8617b ∷ 0x0 ∷ 0x0 ∷ []) ≡ prime - order
unfolding number
room_words = refl

pub less_two_words : number (0xffff_ffff_ffff_fffd ∷ 0xffff_ffff ∷ 0 ∷ 0xffff_ffff_0000_0001 ∷ []) ≡ prime - 2
unfolding number
less_two_words = refl
