-- Signed roots are a set, so that an equation of them has one proof.
use Rattle.std.proofs.Common.{◌≡◌, ℕ, ℤ, List, Bool, Option, Some, refl, ap, ap₂, sym, ◌∙◌}
use Rattle.std.proofs.Math.Logic.{∥∥₁_elim}
use Rattle.std.proofs.Props.{props}
use Rattle.std.specs.Float.Ieee.{Float}
use mathlib.Core.HLevel.{collapsible→set}
use base.Stored.{Coded-set, coded_float}
use Rattle.serde_json.specs.Data as json
use Rattle.tough_roles.specs.Root.{RootDoc, root_doc}
use Rattle.tough_roles.specs.Signature.{SignedDoc, signed_doc}
use Rattle.tough_roles.specs.declared.root.Root.{Root}
use Rattle.tough_roles.specs.declared.signed.Signed.{Signed}
use Rattle.tough_release.specs.Roots.{root_in, IsRootFile}

-- ---- a copy of JSON values, which are a set

data N : Type 0 where
  unsigned : ℕ → N
  negative : ℤ → N
  float : Float → N
  deriving IsSet as N-set

mutual
  data D : Type 0 where
    nul : D
    bool : Bool → D
    num : N → D
    str : List ℕ → D
    arr : I → D
    obj : M → D
    deriving IsSet as D-set

  data I : Type 0 where
    nil : I
    cons : D → I → I
    deriving IsSet as I-set

  data M : Type 0 where
    none : M
    mem : List ℕ → D → M → M
    deriving IsSet as M-set

-- ---- JSON values are a set, since they are the copies

abbrev n_to : json.Num → N
n_to (json.unsigned n) = unsigned n
n_to (json.negative n) = negative n
n_to (json.float n) = float n

abbrev n_from : N → json.Num
n_from (unsigned n) = json.unsigned n
n_from (negative n) = json.negative n
n_from (float n) = json.float n

n_back : (n : json.Num) → n_from (n_to n) ≡ n
n_back (json.unsigned n) = refl
n_back (json.negative n) = refl
n_back (json.float n) = refl

abbrev mutual
  d_to : json.Data → D
  d_to json.null = nul
  d_to (json.boolean b) = bool b
  d_to (json.number n) = num (n_to n)
  d_to (json.string s) = str s
  d_to (json.array l) = arr (i_to l)
  d_to (json.object m) = obj (m_to m)

  i_to : json.Items → I
  i_to json.no_items = nil
  i_to (json.item d l) = cons (d_to d) (i_to l)

  m_to : json.Members → M
  m_to json.no_members = none
  m_to (json.member k d m) = mem k (d_to d) (m_to m)

abbrev mutual
  d_from : D → json.Data
  d_from nul = json.null
  d_from (bool b) = json.boolean b
  d_from (num n) = json.number (n_from n)
  d_from (str s) = json.string s
  d_from (arr l) = json.array (i_from l)
  d_from (obj m) = json.object (m_from m)

  i_from : I → json.Items
  i_from nil = json.no_items
  i_from (cons d l) = json.item (d_from d) (i_from l)

  m_from : M → json.Members
  m_from none = json.no_members
  m_from (mem k d m) = json.member k (d_from d) (m_from m)

mutual
  d_back : (d : json.Data) → d_from (d_to d) ≡ d
  d_back json.null = refl
  d_back (json.boolean b) = refl
  d_back (json.number n) = ap json.number (n_back n)
  d_back (json.string s) = refl
  d_back (json.array l) = ap json.array (i_back l)
  d_back (json.object m) = ap json.object (m_back m)

  i_back : (l : json.Items) → i_from (i_to l) ≡ l
  i_back json.no_items = refl
  i_back (json.item d l) = ap₂ json.item (d_back d) (i_back l)

  m_back : (m : json.Members) → m_from (m_to m) ≡ m
  m_back json.no_members = refl
  m_back (json.member k d m) = ap₂ (json.member k) (d_back d) (m_back m)

retract_set : {A B : Type 0} (f : A → B) (g : B → A) → ((a : A) → g (f a) ≡ a) → IsSet B → IsSet A
retract_set f g h Bs = collapsible→set (λ x y p. sym (h x) ∙ ap g (ap f p) ∙ h y) (λ x y p q. ap (λ (r : f x ≡ f y). sym (h x) ∙ ap g r ∙ h y) (Bs (f x) (f y) (ap f p) (ap f q)))

pub members-set : IsSet json.Members
members-set =
    let bools : IsSet Bool = Prim.hlevel props in
    let texts : IsSet (List ℕ) = Prim.hlevel props in
    let floats : IsSet Float = Coded-set coded_float in
    let numbers : IsSet N = N-set (Prim.hlevel props) (Prim.hlevel props) floats in
    retract_set m_to m_from m_back (M-set bools numbers texts)

-- ---- signed roots

roots-set : IsSet (Option (SignedDoc RootDoc))
roots-set = Prim.hlevel (props, members-set)

pub root_read : (root : Signed Root) (bytes : List ℕ) → IsRootFile root bytes → root_in bytes ≡ Some (signed_doc root_doc root)
root_read root bytes h = ∥∥₁_elim h (roots-set (root_in bytes) (Some (signed_doc root_doc root))) (λ e. e)
