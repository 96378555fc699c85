-- What a call leaves is what the definition of its write says.
use Rattle.std.proofs.Common.{◌≡◌, ℕ, true, zero, suc, ◌<◌, arith, List, [], ◌∷◌, length, Option, None, refl, sym, ap, ◌∙◌, subst, true≢false, ◌≤◌, Result, Ok, Err, IfOk, IfErr, IsErrOf}
use Rattle.std.proofs.lemmas.List.{length-map, get_or-map}
use Rattle.std.proofs.lemmas.Result.{on_ok_weaker, IfOk-weaker}
use Rattle.mls_lattice.specs.Labels.{Labels, AreDistinct}
use Rattle.mls_lattice.specs.Policy.{Policy, labels_of}
use Rattle.mls_scheme.specs.declared.value.Value.{Value}
use Rattle.mls_scheme.specs.declared.tuple.Element.{Element}
use Rattle.mls_scheme.specs.Table.{Table}
use Rattle.mls_scheme.specs.declared.place.Place.{Place}
use Rattle.mls_scheme.specs.Scheme.{Scheme, Schemes, scheme_of, IsUnder, AreUnder}
use Rattle.mls_scheme.specs.Writes.{key_of}
use Rattle.mls_filterview.specs.declared.base.BaseFault.{BaseFault}
use Rattle.mls_filterview.specs.declared.base.BaseFault.TheVariants.{NotBegun, Begun}
use Rattle.mls_filterview.specs.Calls.{begun_after, IsCall, IsChange, IsFault, IsServed, IsStep, NoWriteDown}
use Rattle.mls_filterview.specs.Content.{Seen, State, after}
use Rattle.mls_filterview.specs.Stored.{IsContent}
use Rattle.mls_filterview.specs.declared.fragment.Node.{Node}
use Rattle.mls_filterview.specs.declared.fragment.Cell.{Cell}
use Rattle.mls_filterview.specs.Fragment.{node_of, cells_of, IsMadeOf}
use Rattle.mls_scheme.specs.Tuple.{at, null_element}
use Rattle.mls_updates.specs.declared.outcome.Outcome.{Outcome}
use Rattle.mls_updates.specs.declared.outcome.Outcome.TheVariants.{KeyNull}
use Rattle.mls_updates.specs.Writes.{Write, WriteFits, WriteKinds, has_null, root, write}
use Rattle.mls_updates.specs.Calls.{IsWritten, HasWritten}
use Rattle.mls_updates.proofs.FittingLemmas.{write-content}
use Rattle.mls_updates.proofs.LeftLemmas.{write_null}
use Rattle.mls_updates.proofs.StateLemmas.{table_of}

-- ---- a tuple that is added

pub made_same : (U T : Table) (m n : Node) (xs ys : List Cell) (es : List Element) → U ≡ T → m ≡ n → xs ≡ ys
    → IsMadeOf T n ys es → IsMadeOf U m xs es
made_same U T m n xs ys es same is own h =
    subst (λ X. IsMadeOf X m xs es) (sym same) (subst (λ k. IsMadeOf T k xs es) (sym is)
    (subst (λ zs. IsMadeOf T n zs es) (sym own) h))

-- the elements of a root are all its own
pub root_made : (T : Table) (q : Place) (values : List (Option Value)) → IsMadeOf T (node_of (q, root q.class values))
    (cells_of (q, root q.class values)) (root q.class values)
root_made T q values = record {
  pattern = refl;
  own = refl;
  others = λ i l ne. absurd (ne (class_at i l));
}
  where
    of_class : Option Value → Element
    of_class v = record { value = v; class = q.class }

    class_at : (i : ℕ) → i < length (root q.class values) → (at (root q.class values) i).class ≡ q.class
    class_at i l = ap (λ e. e.class) (get_or-map of_class values i None null_element
        (subst (λ k. i < k) (length-map values of_class) l))

-- ---- schemes

-- a relation of schemes that speak of declared labels does so
pub under_scheme : (count : ℕ) (schemes : Schemes) (relation : ℕ) → AreUnder count schemes → relation < length schemes
    → IsUnder count (scheme_of schemes relation)
under_scheme count [] relation h l = absurd (omega arith)
under_scheme count (scheme ∷ schemes) zero h l = h.0
under_scheme count (scheme ∷ schemes) (suc relation) h l = under_scheme count schemes relation h.1 (omega arith)

-- ---- what each write leaves is of the stored form

written_content : (ls : Labels) (distinct : AreDistinct ls) (scheme : Scheme) (relation w : ℕ) (wr : Write)
    (s t : State) (o : Outcome) → WriteFits ls (length scheme.others) w wr → WriteKinds scheme wr
    → IsContent ls scheme (s.now.db relation) → IsWritten ls scheme relation w wr s t o
    → IsContent ls scheme (t.now.db relation)
written_content ls distinct scheme relation w wr s t o fits kinds content h =
    let S = (write ls scheme w wr (s.now.db relation)).table in
    subst (IsContent ls scheme) (sym (ap (λ x. x.now.db relation) h.state ∙ table_of s relation S))
    (write-content ls distinct scheme w (s.now.db relation) content wr fits kinds)

-- ---- faults of the store or of memory

served_not_begun : {A : Type 0} (r : Result A BaseFault) → IfErr r IsServed → IsErrOf r NotBegun → ⊥
served_not_begun r h e = (subst (λ x. IfErr x IsServed) e h).0 refl

served_no_other : {A : Type 0} (r : Result A BaseFault) → IfErr r IsServed → IsErrOf r Begun → ⊥
served_no_other r h e = (subst (λ x. IfErr x IsServed) e h).1 refl

served_from : {A : Type 0} (r : Result A BaseFault) → (IsErrOf r NotBegun → ⊥) → (IsErrOf r Begun → ⊥)
    → IfErr r IsServed
served_from (Ok x) n o = tt
served_from (Err e) n o = (λ h. n (ap Err h), λ h. o (ap Err h))

-- where a change is begun
module _ {Self : Type 0} (seen : Self → Seen) {A : Type 0} (old new : Self) (r : Result A BaseFault)
    (begun : (seen old).state.begun ≡ true) where
  -- a call that belongs into it is a step of it
  pub change_step : IsChange seen (seen old).state.begun old new r → IsStep seen old new r
  change_step c = record {
    call = c.call;
    served = served_from r (λ e. true≢false (sym begun ∙ c.not_begun.0 e)) c.no_other;
    mode = on_ok_weaker r (λ m. m ∙ begun) c.mode;
  }

  -- and a step is such a call
  step_change : IsStep seen old new r → IsChange seen true old new r
  step_change c = record {
    call = c.call;
    not_begun = (λ e. absurd (served_not_begun r c.served e), λ b. absurd (true≢false (sym begun ∙ b)));
    no_other = served_no_other r c.served;
    mode = c.mode;
  }

-- ---- a whole write, inside a change

module _ {B : Type 0} (seen : B → Seen) (policy : Policy) (schemes : Schemes) (relation w : ℕ) (wr : Write) (a : B)
    (begun : (seen a).state.begun ≡ true)
    (stored : (seen a).is_clean → IsContent (labels_of policy) (scheme_of schemes relation)
    ((seen a).state.now.db relation)) where
  abbrev ls : Labels
  ls = labels_of policy

  abbrev scheme : Scheme
  scheme = scheme_of schemes relation

  -- of a key with a null
  pub null_written : has_null (key_of wr) ≡ true → HasWritten seen policy schemes relation w wr a a (Ok KeyNull)
  null_written h = record {
    change = step_change seen a a (Ok KeyNull) begun (record {
      call = record {
        clean = λ k. k;
        about = λ k. refl;
        count = omega arith;
        fault = tt;
      };
      served = tt;
      mode = begun;
    });
    access = record { reads = λ m u h. h; changes = λ m u h. h };
    done = λ k. write_null ls scheme relation w (seen a).state wr h;
    kept = stored;
  }

  -- by a step over a base that was lent before
  pub step_written : AreDistinct ls → WriteFits ls (length scheme.others) w wr → WriteKinds scheme wr
      → (b c : B) (r : Result Outcome BaseFault) → b ≡ a → IsStep seen b c r → NoWriteDown seen ls w w b c
      → ((seen c).is_clean → IfOk r (IsWritten ls scheme relation w wr (seen a).state (seen c).state))
      → HasWritten seen policy schemes relation w wr a c r
  step_written distinct fits kinds b c r same step access done =
      let over = subst (λ x. IsStep seen x c r) same step in
      record {
        change = step_change seen a c r begun over;
        access = subst (λ x. NoWriteDown seen ls w w x c) same access;
        done = done;
        kept = λ k. IfOk-weaker r (IsWritten ls scheme relation w wr (seen a).state (seen c).state) _
            (λ o. written_content ls distinct scheme relation w wr (seen a).state (seen c).state o fits kinds
            (stored (over.call.clean k))) (done k);
      }

-- a call after one that left the state as it was
module _ {Self : Type 0} (seen : Self → Seen) {A : Type 0} (old mid new : Self) (mode : (seen mid).state.begun
    ≡ (seen old).state.begun) (same : (seen mid).is_clean → (seen mid).state ≡ (seen old).state) where
  later_fault : (count : (seen old).failures ≤ (seen mid).failures) (clean : (seen new).is_clean → (seen mid).is_clean)
      (r : Result A BaseFault) → IfErr r IsServed → IfErr r (λ e. IsFault seen e mid new)
      → IfErr r (λ e. IsFault seen e old new)
  later_fault count clean (Ok x) s f = tt
  later_fault count clean (Err e) s f = record {
    store = λ h. (let less = f.store h in omega (arith, count, less));
    not_begun = λ h. absurd (s.0 h);
    begun = λ h. absurd (s.1 h);
    mode = f.mode ∙ ap (begun_after e) mode;
    content = λ h. f.content h ∙ ap (after e) (same (clean h));
  }

  pub later_call : {B : Type 0} (q : Result B BaseFault) (r : Result A BaseFault) → IsCall seen old mid q
      → IfErr r IsServed → IsCall seen mid new r → IsCall seen old new r
  later_call q r first served second = record {
    clean = λ h. first.clean (second.clean h);
    about = λ h. second.about h ∙ first.about (second.clean h);
    count = (let n = first.count in let m = second.count in omega (arith, n, m));
    fault = later_fault first.count second.clean r served second.fault;
  }
