-- The fault that is answered is the least of all.
use Rattle.std.proofs.Common.{◌≡◌, ℕ, zero, suc, Bool, true, false, ◌&&◌, ◌||◌, ◌==◌, nat_lt, if◌then◌else◌, List, [], ◌∷◌, Option, Some, None, Result, Ok, Err, map, refl, sym, ap, ◌∙◌, subst, arith, ◌⊎◌, inl, inr, Contains}
use Rattle.std.proofs.lemmas.Bool.Decides.{nat_tests}
use Rattle.mls_lattice.specs.Policy.{Policy}
use Rattle.mls_scheme.specs.Scheme.{Schemes}
use Rattle.mls_translang.specs.Tx.{Tx}
use Rattle.mls_parser.specs.declared.draft.Draft.{Draft}
use Rattle.mls_parser.specs.declared.fault.PlacedFault.{PlacedFault}
use Rattle.mls_parser.specs.Fault.{code_of, is_before, sooner, least_from, least, IsLeast}
use Rattle.mls_parser.specs.Noted.{State}
use Rattle.mls_parser.specs.ReadTx.{tx_of}
use Rattle.mls_parser.specs.Parsing.{answer, judged, noted, parsed}

-- ---- the order of faults

abbrev before : ℕ → ℕ → ℕ → ℕ → Bool
before a m b n = nat_lt a b || (a == b && nat_lt m n)

self : (a m : ℕ) → before a m a m ≡ false
self a m = grind (arith, nat_tests)

other : (a m b n : ℕ) → before a m b n ≡ true → before b n a m ≡ false
other a m b n h = grind (arith, nat_tests)

further : (a m b n d o : ℕ) → before b n d o ≡ false → before a m b n ≡ false → before a m d o ≡ false
further a m b n d o h k = grind (arith, nat_tests)

is_self : (f : PlacedFault) → is_before f f ≡ false
unfolding is_before
is_self f = self f.at (code_of f.cause)

is_other : (f g : PlacedFault) → is_before f g ≡ true → is_before g f ≡ false
unfolding is_before
is_other f g h = other f.at (code_of f.cause) g.at (code_of g.cause) h

is_further : (f g x : PlacedFault) → is_before g x ≡ false → is_before f g ≡ false → is_before f x ≡ false
unfolding is_before
is_further f g x h k = further f.at (code_of f.cause) g.at (code_of g.cause) x.at (code_of x.cause) h k

-- ---- elements

this : (f : PlacedFault) (fs : List PlacedFault) → Contains (f ∷ fs) f
this f fs = (zero, omega arith, refl)

later : (g f : PlacedFault) (fs : List PlacedFault) → Contains fs f → Contains (g ∷ fs) f
later g f fs (k, lt, e) = (suc k, omega (arith, lt), e)

this_or_later : (g f : PlacedFault) (fs : List PlacedFault) → Contains (g ∷ fs) f → (g ≡ f) ⊎ Contains fs f
this_or_later g f fs (zero, lt, e) = inl e
this_or_later g f fs (suc k, lt, e) = inr (k, omega (arith, lt), e)

-- ---- the least

module _ (f g x : PlacedFault) (gs : List PlacedFault) where
  both : (b : Bool) → is_before g f ≡ b → IsLeast ((if b then g else f) ∷ gs) x → IsLeast (f ∷ g ∷ gs) x
  both true e l = record {
    one = later f x (g ∷ gs) l.one;
    first = (is_further f g x l.first.0 (is_other g f e), l.first);
  }
  both false e l = record {
    one = elim (this_or_later f x gs l.one) [
      | inl is ↦ subst (λ y. Contains (f ∷ g ∷ gs) y) is (this f (g ∷ gs))
      | inr on ↦ later f x (g ∷ gs) (later g x gs on)
    ];
    first = (l.first.0, (is_further g f x l.first.0 e, l.first.1));
  }

least_of : (f : PlacedFault) (fs : List PlacedFault) (x : PlacedFault) → least_from (Some f) fs ≡ Some x
    → IsLeast (f ∷ fs) x
unfolding least_from
least_of f [] x e =
    let is : f ≡ x = cc in
    subst (λ y. IsLeast (f ∷ []) y) is (record { one = this f []; first = (is_self f, tt) })
least_of f (g ∷ gs) x e = both f g x gs (is_before g f) refl (least_of (sooner (Some f) g) gs x e)

pub least_is : (fs : List PlacedFault) (x : PlacedFault) → least fs ≡ Some x → IsLeast fs x
unfolding least_from
least_is [] x e = absurd cc
least_is (f ∷ fs) x e = least_of f fs x e

never : (f : PlacedFault) (fs : List PlacedFault) → least_from (Some f) fs ≡ None → ⊥
unfolding least_from
never f [] e = absurd cc
never f (g ∷ gs) e = never (if is_before g f then g else f) gs e

pub none_at_all : (fs : List PlacedFault) → least fs ≡ None → fs ≡ []
unfolding least_from
none_at_all [] e = refl
none_at_all (f ∷ fs) e = absurd (never f fs e)

-- ---- what is answered

module _ {X : Type 0} (fs : List PlacedFault) (x : X) where
  right_at : (o : Option PlacedFault) (y : X) → least fs ≡ o → answer o x ≡ Ok y → fs ≡ []
  right_at None y is h = none_at_all fs is
  right_at (Some f) y is h = absurd cc

  pub answered_right : (y : X) → answer (least fs) x ≡ Ok y → fs ≡ []
  answered_right y h = right_at (least fs) y refl h

  least_at : (o : Option PlacedFault) (f : PlacedFault) → least fs ≡ o → answer o x ≡ Err f → IsLeast fs f
  least_at None f is h = absurd cc
  least_at (Some g) f is h =
      let same : g ≡ f = cc in
      subst (IsLeast fs) same (least_is fs g is)

  pub answered_least : (f : PlacedFault) → answer (least fs) x ≡ Err f → IsLeast fs f
  answered_least f h = least_at (least fs) f refl h

-- ---- texts

module _ (policy : Policy) (schemes : Schemes) (bytes : List ℕ) (x : List Draft × State)
    (right : noted policy schemes bytes ≡ Ok x) where
  is_judged : {r : Result (List Tx) PlacedFault} → parsed policy schemes bytes ≡ r
      → answer (least x.1.0) (map tx_of x.0) ≡ r
  unfolding parsed
  is_judged e = ap judged (sym right) ∙ e

  pub read_right : (xs : List Tx) → parsed policy schemes bytes ≡ Ok xs → x.1.0 ≡ []
  read_right xs e = answered_right x.1.0 (map tx_of x.0) xs (is_judged e)

  pub refused_least : (f : PlacedFault) → parsed policy schemes bytes ≡ Err f → IsLeast x.1.0 f
  refused_least f e = answered_least x.1.0 (map tx_of x.0) f (is_judged e)
