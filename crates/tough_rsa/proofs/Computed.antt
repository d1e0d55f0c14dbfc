-- A signature of 2,048 bits verified by computing: the power is squared 16 times, each time modulo the modulus.
use Rattle.std.proofs.Common.{◌≡◌, ℕ, ◌+◌, ◌-◌, ◌*◌, ◌%◌, ◌^◌, true, nat_eq, nat_lt, List, length, refl, sym, ◌∙◌, arith, pow-suc}
use Rattle.std.proofs.Math.Nat.{pow-zero}
use Rattle.std.proofs.lemmas.Nat.{pow-add, mul-mod}
use Rattle.std.specs.Int.Count.{count_leading_zeros}
use Rattle.sha2.specs.Sha256.{sha256, first_words, schedule, rounds, compress, hash_after, digest_bytes}
use Rattle.tough_modular.specs.Octets.{octets_number, number_octets}
use Rattle.tough_rsa.specs.Pss.{xor_all, mask_blocks, mgf1, clear_bits, is_consistent, halves_match, emsa_pss_verify}
use Rattle.tough_rsa.specs.Rsa.{bits_of, is_modulus, is_exponent, is_encoding, is_root, rsa_verifies}
use Rattle.tough_rsa.specs.Vector.{vector_modulus, vector_message, vector_signature}

more : (x n i j k a b c : ℕ) → i + j ≡ k → x ^ i % n ≡ a → x ^ j % n ≡ b → (a * b) % n ≡ c → x ^ k % n ≡ c
more x n i j k a b c e f g h = rw (← e, pow-add x i j, mul-mod (x ^ i) (x ^ j) n, f, g) h

one : (x n a : ℕ) → x % n ≡ a → x ^ 1 % n ≡ a
one x n a e = let f : x ^ 1 ≡ x = pow-suc x 0 ∙ rw pow-zero (omega arith) in rw f e

abbrev a0 : ℕ
a0 = 0x3d537da224025e61bf1efd25e0eb144ef587935bacd937c5613ec0245e0fb123bc8359063d3307924da98fa17dcd60f4354b0dd520d08ff751bd3f24a11cff26b9b481b0dceb4fcfad30e0d03e0f11131b8fe21e26f4cf7af88feb9814be02cf5c47c4575d193e29902e2d5cb88c6b44716d221bbd9656effd1ba58634a80b45f7ea6cc73cb5ea06ea43de432bde1d0ce08e72ea21117871953decfc48ba3ebbb1dd068257f16d89e5bf711ba390991ca27614f359bdeff56c32d201191d132af34315ab06d9fbe0119f6d1ba47ed28a3cfe481dd6c00ac531163fad6921bdf7986b317f24b2ffa7625be950112765abdd97eae7ba9c2177c85681d46c17bada

abbrev a1 : ℕ
a1 = 0xd56549a0a0cbfe30be16b5e827c9e767397ab6f622db063b05031b7130b7cb8138ffaf106e6b7614d31a4955d70de3ec7917585632099550e8e296440f00e3a9cf9c609c7d1db582fa5f70d617124f62b00e8848994599fe689764ce373916f16dd9e488df0d0fd7bb2337c07dbe58c06ec78ce97b2f1b29957b29ee5af8bb96b63a72cc635fd6446b4bf49d23573f6f3682c8640e3367e7501d99ee9e87da57eaa25eb517d3d70ed356df414802e523757542bcb1dfce022f0480c6db479356db1364634698419b795e9957fadd4df61e2dcb2f26c3874d45361abff91574d73eb024d5c8cb5eaf071770de2d4ece4deed2154788f20ddc8d6e41f28bee5484

abbrev a2 : ℕ
a2 = 0xc769d25882af8cfb1d0686134bc4847c565560bf9bd981e52d103519c580b2e33e5dc7fed6fe65ef9898deabb77985d7ccd99965b18f6aa94313e9e6939fdfe6134f36e7fc08e20011ce7d63ac71d571d63b54a05c32e38d07d02f89efe9e4fa3aaff30408423e756c1bc823fd127001c581e2fd65b3863afe04c1ff72d0d8a8e1a050031073c745d4de86296634550672219ad73433e9dbf6cac124e88b10c221835f35d9be712fee059ea52ee7f2d6d65b7070dba293cb50da99547b2c13aca352799928dc5a8616ef0dac54b09fe9be2878768b460d0ed86bf7e750b6e582c9db6d9488035826bcb25f7f11d118c4e835d5ebe7a4ac28f9454da76a288d96

abbrev a3 : ℕ
a3 = 0xd095e5165e986908c6fb6c9e54426be4b4eda73bf88b0a5625e4706f332fd7f006c2a15c947d6e2303f93a078172574352159e80c271a104b85278f67ddbd2506b515ec8ae187abb9036bb2c8169dcb1ecfc86801194f2772385a9aef47d5d99e3de98fb884acedfd49883d37dc216e4e6d584149c8da584e3bf24aaad668d888505f99420a71cdc68f9df67bfc95339456ff92e9b96e836e09e00ffbe56febf1f57c59c96c740c30d0c0c0a76d5c74552f0d517a6e176ec0571ceed269a9a569076bf0dc7b99af505049bcb38ba50c25edc55cb3e9c4cf90e03e0642e0e78ded32dc3cc431ba9ace94ff417db0ed8a639a84dccf5e5d63b83ef54f2e602227f

abbrev a4 : ℕ
a4 = 0x6deff0fe94926d817fddc540cc89ac1d44663e27d60768e543407c04d5d06d58b1c93080c8f05b9453561ca89c5245b67dbbafc5175b853298f7b4dbd8dd9f76a7299d2b4345e504a7b15b9ef12a97ee5b66edd0c79c60b7b1ea3887bc1be76d6751f7237fdfb18dfc083bb431b2b838f400f0ca7ad2b18e976115dd3897ffecd216582a8bbba2d18686506b53537bb82356831d4cba531fa6c91f4ecddc10bec64c5541e73fb60b6130154f5e1784d0dfce9b7babdd5cacb78b3f8a849f9709156ab8a8a604a3f080794ddae618042c0988bfe6422ddddd107e99d1d524e272bcb86cef05066d723cf0bb7b81bcfe1e71fa95e630ce79c69379e81674e76fd4

abbrev a5 : ℕ
a5 = 0x373d5db391ab89c76390f91f1a834aa875e1f321981554f9f6200afb31cf25c73083f1842fd712382404ba19fbcd97e6c5672a0976b7ad1efd3eb0e1be5d2300159d57ab286ca42e39c47656362f3e544f16f8e07c1b5ffd814aa34392933644d112ea8c962ab1155da6c127be3d55507837f274681e7df23c612a781acb8993358ab87fea6e0b635ea5e8fee42a556994a9f8ca16b11f23f8f20a9b82a4bc29c7f2d400d57a0992d1bc50f6a8cc0b3d6bd55ddc6405ac6228d685f4f40b3bc48d8ee583e425a35f2af82c842e644ecaae7de2e022a082c997233a36ff100a37e4c50b6d6821cca3ed50149a826d1806e143014a5ef3b57d349cf064c046a3f

abbrev a6 : ℕ
a6 = 0x883c5517334ca35bc508f556766b0a91967e79a861055d7da623da4e87018f26fac6bc5d9d899104c630c44b3af83532c744a877a7e5321db140e3d382d78b0cfc4d3ec8555843acbec87fd2ef5813a24739e117b136f303024dd6f7174b6d33878dda68cb7e4cdcc4a6605046dce89cd5087c4ece50c129307d19154aa005b60464d781f1014beccf6801765816747ceaf4a0909945c5da3f2ed27ada2f31b64e99e4f98ccf1c03e089cb312622614fec13a91809581c6d4bcef34c926bc0f6a5a7a7ec5f304b0a2faf5c655cb3ef9d243d036abb2ea1496d4aa9742e4135242392da4013d46a8940c7eae0dd231cb6d5a159df21eab24a88ed2ef961fbafad

abbrev a7 : ℕ
a7 = 0x67bc9606d55fe514f144ce760d40b0c0141a931fc33c86f427d3d7a49c4a730e9e90216575ef2ab805753e61c723b1362c701e44d3774e6f77a6d41e490333817db4f52f3f84feff29da1a875368c22a9d36c4f7c2a591e2339711d54ac9d62a94789128847fb07fc294e16d555fec9f7038a955a0916f295e63764f1564cc822af10f2c9a6735fc82b4f2ce80c8bc8f839e6c4ad235937c12faa509c0786a5b5c115921013ddfaab4ff15be86fca7ebf4b34ced9ea6d6246fd71cadfec52095cdd4b45a088569e553290177af7a1a989babf079fa11fec3ca54d4594d7e8d63bcdf270301a548c189fd9908a5b183f584437bf31ac487b851dab8157a45e48f

abbrev a8 : ℕ
a8 = 0x4cc05726c810f804f8e280f943032db22a430c4068671bba5af17390dfef157375f1f39610c0f8cb42d19d191d46862fdc662d4bbdb48ffe1f8b6785a44dbad86a26aa6c5d8f6a0ba3a6f54df5b8e995324542c213a769268fe4d48359cc2d67420c170362885317db0b97c72bec31707e0ac95184ff03ad5b7510f76589a4c9852586fc73dca834a6d93d81770a25360cab924075f3ce987f2df11630bfd09f74ca07b130c9e81ca5d39d34c75fb09de3704a1b2d0b38236e4de9438a90f48eea7a75cf7ab7c074c382631cfed1d8372f68174ac44ff21c9bc313644f7afc6199e490f6b3ba4453bed9c8b4c47da16a4d562043d9b5e08b17516ae70357fd62

abbrev a9 : ℕ
a9 = 0x678ef073b99df4e509963ca77c9bd6da5446927c5e6cc40c9fbb2f07acfa235ddaed090f1edb8f1be13b69c30d898229479b805fdf884b9b4b25cad46f7073a8001d063dc176cc53aef03561907651a97273dd859a3d55c7ad602db79f391cf8f06d67a37e46e9b032917ad4bce050b27a4e4da98334b24d74c46c3dc2fffac033df555e1f6d44ccfd2ad2c119781dfc56848af5c1c2745b3bb6841b6687eb1a49971b38ced3b01c80cd49d0915696e21b92c2d3c56f5b51ed5da6c205c01eb1a3b26855269d842e3b17228f3cfe5f91de76ad880035d865219335f08226a644666db66dd3250d10e4f2319b0ceffdd0571957798b4c6db292091c931f087e9e

abbrev a10 : ℕ
a10 = 0x6cb26bf8c2852662ab52b77d24b0ea0292d40188bd79d1c0d12b2d37f8adea263597010db46e3b5db9cf29dfdb37854b64a71354165fa8b03e042ae9722e1d6e99941528e3626699b1d78f9cfd415e537517d12da9e2f9c8c4319212ec77797ac1d14da1653a2224f1adb0c7bc0367e54f4f2735a8d11670a09cee4daff0fe5fee19b337a4a10fa5f4fc34ed83740f3e272e2332d6e818f189ecce05e7b591cc7d6a0cbfe182aa85a92c77695a5e90b41cc7bdb6da0171bb6f03658a2a5234f7429f1ebab32f120be14b677515099ceb66c107675ac2418981b329add4e384000f31e8f91d82c5528e75f3fc58bd531ff29b4c47a394981e3dd9bbf357f2f226

abbrev a11 : ℕ
a11 = 0x7bd40af84c75ec3828ee41f4e7fd7e7a4edbd0b7b21faf2727018c8195ebc6ea97739f7b7ecb80907a34a552212f6107dba23ca10788a881b1bb636d2443da456c0e425f799f18add51a7907555a4960782f8052de434f18bfcd8c2413118732728057be404fb9059374cf6774d87ddcc5f81ee1ed0c05d1108f09f703bff239fade6520c7bdf8080bc41da146bc6ca66386bf80f193cf319221511bf0d429ba840a3f65d202f177c224bb7541652b0979adac8ce1a74fd7f0e6cd30a743d94ba2dafebb5c4a2a43d75609468ce03b8069694ea12015bb93268b5194b0ac791a6c071f8cae777411b1487b60bc37d339ae2793350a66be8424cb99edda6f676c

abbrev a12 : ℕ
a12 = 0x165c0884cd69a21ddb807f69639ead562371f546359ff43b974c7580c8944e86a7190702889714f8503653ca420555ca7aaaac0765684ed81b98988a4ff76ef384d7d1aafeb1b7ad25357d5c91612c61bfd23b8367ab0dee329e5b40f951d5c1fccb84120dd74ad33575c24d5eafd7718f7d92878db547ade1573f75138c312bfd643da2a24aedef0b071d58b02d05ff8050d0c0665af44d669e42cdea450aaa822a843fd43b9dacbe72e5b0d2d410c3afecf87663f04cf602761b3798e63d983511d24ab1f83675693461225df18f81f2dcfe12f2183fdebbf37e14d306810876e15caf8f112332e2148f8de6d35491dd5c3cc89e03514952e1702806d1002c

abbrev a13 : ℕ
a13 = 0x2616c515d90bf1941b582bd2abd610d17ae232633bd54919759c0de9028dacc46fd41d8483c2a98ed2892b98856869f450f43fe6b989ea1eac5778a7a338e69c7f5e21be1623773df20c5552c35677a4288ef26bcc9c592bb09389f83ee0b8681015056727bcf9cc86f1792a9dd142c2585a13f6502c7ee5f7a6719e0f3c0b84c664e1b91e88b367dadb3660adc3793ed578e4aa9ae4cbb702c2eaaecb4c246575365e7377e9d917e6767fc78e8f4cf489dc394cc5d03d1070aef398d4ab849fbb6b796e25197b20dba1a8f55c3f88b6f0e382f41883564f3c3ce99160a85cac70c371ef4dd7ace8890ac78587e8a88697ff33dafe868d5c561053ee40cce46e

abbrev a14 : ℕ
a14 = 0x34dae74b996bcc04550ead72a2682c69d195c40eb57b731dc5a629d21bf61bea13d0fdc55d03cc220904103c689ccf9f836d3b02339d5a750953484adf6e9d21bed54178194b089c4c34938b6e6b174f31b5687e9f247eeec0a78c39c29286e6b69c9b149681694c97b7165348a39e6cbf0e265f64a311e237698c50dae5f0e92146cbceaa08a61da06af891c73c5713525197680178c92db9ce102af499f74a4e4d24687301bf225f45833a07e3200e572cbfaf803731e14892f64a927472bfad2ab58621eef8338ff027cf7f8e5c2424d63b944a2ab3f3fa5588044b5d7712526a8dd2e47f49a527c29d54b23f86ef68d2a00ad1a4b50d2389b70e999367fb

abbrev a15 : ℕ
a15 = 0x578b96ec28b71fa2bf56bf7aaafa746b39578713e3a5eb8c3f08ce422bb9dbf514954a3d5c9f4a741cd5f9c31978ca6c7eef60636c521fc08b1e8c106ab8e4ef4ce4e94329467e8d2cb383d2e91965c23120d5edd41042ee41de051d8cf9782cdd6a3236f338062b0a15b7fa092c2ffa9fd0fafa19a7d795e9c10beb3da3d2d8305db350adda8b2547d51ac0c0577d1e5034db1e0042353be7fe5596929d0f838b5003149bc8e9cba54a2fe9846e23b8d970412d14c3610f1460f90e4b9d378d1eefe3f8eea90ed3efc9a448fd74563d99a6fea7622a3b4995094eaf08a3939e2876001e2f41194c032017f3e539da1ba4f6ff3a54fe7bb615fc0b6b8ba777a1

abbrev a16 : ℕ
a16 = 0x85d053d9d18ed6018ebaaaf9542e076c4b7ec936649142090188349b2a1d7dc38cccc25311dbf1510da1cd65b02fd505af9c0a36f81d4f795a90f3f013410a6823c94eb09fdf796017ef7c7f0c088331beea597d32cd9ccdc179ed8283ac7f2ac7dec28df3aa6986d0190f0a1a9b34c07664f48f348277424ad779f2475d9a23a7660b5156465f6b8d02ff2b6d169b6eb613325bcdd0cada45ab9fcf8588e76a53380c73bd74fc07191e5093df1254b1c05997b60a7a3fb5c0c2c0a21e8081863ee1a07608e071b2d6a7fee103b5188407aaa560981cb03f5619e4f2ae2cd9477e31316fbd2f58ae302da9623a77b212d5a4aaa272dae4dc61a9ed8b974a1a05

abbrev the_modulus : ℕ
the_modulus = 0xd7380b7a636fdb334566a9debeb77d03e2dfb88c87fbbd289a692e7b90cca6a7cdbf34eab5eaafe41ceaf8ecb6ca8f11aa8b1036ceee739b7c3004654a535554e5a2c61f65efa6b6c421e94c6e2b6828426aa6ae9b100efc15182f742e9eb5fd8ae7f38175f52301bf6617789dbd6cc248b5230b4106bce4dab77758f65659898364a967ff6a528b2d165c2fde78effdfada9f06395d593d4b2231979681ba22290953e01ede0e768d7e0d0f6e65bb817b8ad6203b0bbca3f04f4d211376f51279d601356150ee400cacc8b6cca023e78927954323d4fc0d5d56f3747bbb04bf30a6bb795412eeb1c47ee40bcbc8511d647e29bb862b429e07b3f818713e5b3d

abbrev encoded : ℕ
encoded = 0x1975f1f9f58723724b7c8879699a452bc9d961bc85e2ebe9210d25a0e2e66ced8b0f3d64cf3b66178eeccfa8655dc9fd98b19d41cafabcb0603a71886907fc6a44e986f509f2f003a02cf0ff1d742545732a3912a322208f2b5519c4c59854e8772f802430fc072de2bacc26d7d413f5d4f6f8fc8d50eee39d70a32497a7cdedcfd91dfaead2f7484fb2a85ff5c834f8f81b92d75640967098428b64ff0f6bfb483e9e692513464e4c4adfdfd7e9c26854892591234e6660c63d51c5fcc6777dd4610fceba6390a3fc70c44eacfde339d2c63456264c233a4f5aa45a1d4494bda899b6d01e8b7137177c20585d2849e2d873fa828cde9c9ed0d20d3976ebfdbc

power : (x n : ℕ) → x ≡ a0 → n ≡ the_modulus → x ^ 65537 % n ≡ encoded
power x n e f =
    let p0 : x ^ 1 % n ≡ a0 = one x n a0 (rw (e, f) refl) in
    let p1 : x ^ 2 % n ≡ a1 = more x n 1 1 2 a0 a0 a1 refl p0 p0 (rw f refl) in
    let p2 : x ^ 4 % n ≡ a2 = more x n 2 2 4 a1 a1 a2 refl p1 p1 (rw f refl) in
    let p3 : x ^ 8 % n ≡ a3 = more x n 4 4 8 a2 a2 a3 refl p2 p2 (rw f refl) in
    let p4 : x ^ 16 % n ≡ a4 = more x n 8 8 16 a3 a3 a4 refl p3 p3 (rw f refl) in
    let p5 : x ^ 32 % n ≡ a5 = more x n 16 16 32 a4 a4 a5 refl p4 p4 (rw f refl) in
    let p6 : x ^ 64 % n ≡ a6 = more x n 32 32 64 a5 a5 a6 refl p5 p5 (rw f refl) in
    let p7 : x ^ 128 % n ≡ a7 = more x n 64 64 128 a6 a6 a7 refl p6 p6 (rw f refl) in
    let p8 : x ^ 256 % n ≡ a8 = more x n 128 128 256 a7 a7 a8 refl p7 p7 (rw f refl) in
    let p9 : x ^ 512 % n ≡ a9 = more x n 256 256 512 a8 a8 a9 refl p8 p8 (rw f refl) in
    let p10 : x ^ 1024 % n ≡ a10 = more x n 512 512 1024 a9 a9 a10 refl p9 p9 (rw f refl) in
    let p11 : x ^ 2048 % n ≡ a11 = more x n 1024 1024 2048 a10 a10 a11 refl p10 p10 (rw f refl) in
    let p12 : x ^ 4096 % n ≡ a12 = more x n 2048 2048 4096 a11 a11 a12 refl p11 p11 (rw f refl) in
    let p13 : x ^ 8192 % n ≡ a13 = more x n 4096 4096 8192 a12 a12 a13 refl p12 p12 (rw f refl) in
    let p14 : x ^ 16384 % n ≡ a14 = more x n 8192 8192 16384 a13 a13 a14 refl p13 p13 (rw f refl) in
    let p15 : x ^ 32768 % n ≡ a15 = more x n 16384 16384 32768 a14 a14 a15 refl p14 p14 (rw f refl) in
    let p16 : x ^ 65536 % n ≡ a16 = more x n 32768 32768 65536 a15 a15 a16 refl p15 p15 (rw f refl) in
    more x n 65536 1 65537 a16 a0 encoded refl p16 p0 (rw f refl)

root_is : octets_number vector_signature ≡ a0
unfolding octets_number
root_is = refl

modulus_is : octets_number vector_modulus ≡ the_modulus
unfolding octets_number
modulus_is = refl

power_is : encoded ≡ octets_number vector_signature ^ 65537 % octets_number vector_modulus
power_is = sym (power (octets_number vector_signature) (octets_number vector_modulus) root_is modulus_is)

taken : is_modulus vector_modulus ≡ true
unfolding is_modulus count_leading_zeros
taken = refl

exponent : is_exponent 65537 ≡ true
unfolding is_exponent
exponent = refl

below : nat_lt (octets_number vector_signature) (octets_number vector_modulus) ≡ true
unfolding octets_number
below = refl

encoding : is_encoding vector_message encoded (bits_of vector_modulus - 1) ≡ true
unfolding count_leading_zeros sha256 first_words schedule rounds compress hash_after digest_bytes number_octets xor_all mask_blocks mgf1 clear_bits is_consistent halves_match emsa_pss_verify is_encoding
encoding = refl

together : (n : List ℕ) (e : ℕ) (m s : List ℕ) (em : ℕ) → is_modulus n ≡ true → is_exponent e ≡ true → nat_eq (length s) (length n) ≡ true
    → nat_lt (octets_number s) (octets_number n) ≡ true → em ≡ octets_number s ^ e % octets_number n → is_encoding m em (bits_of n - 1) ≡ true → rsa_verifies n e m s ≡ true
unfolding rsa_verifies is_root
together n e m s em a b c d p i = rw (a, b, c, d, ← p) i

pub verifies : rsa_verifies vector_modulus 65537 vector_message vector_signature ≡ true
verifies = together vector_modulus 65537 vector_message vector_signature encoded taken exponent refl below power_is encoding
