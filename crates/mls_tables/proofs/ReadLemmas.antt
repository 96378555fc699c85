-- Calls that read the four tables, one after another and in a transaction.
use Rattle.std.proofs.Common.{◌≡◌, Ok, Err, Result, IfOk, OnOk, sym, subst, ◌∙◌, IsErrAnd}
use Rattle.sqlite.specs.Effect.{Database}
use Rattle.sqlite.specs.State.{State, IsUnchanged}
use Rattle.sqlite.proofs.Callers.{unchanged_then}
use Rattle.mls_tables.specs.declared.adopting.AdoptFault.{AdoptFault}
use Rattle.mls_tables.specs.Schema.{HasTables}
use Rattle.mls_tables.specs.Adopting.{ReadsTables}

still : (old mid : State) → IsUnchanged old mid → HasTables old.now.schema → HasTables mid.now.schema
still old mid same has = subst (λ (db : Database). HasTables db.schema) (sym same.0.now_is) has

module _ {X Y : Type 0} {Says : Database → X → Type 0} {Next : Database → Y → Type 0} {Reads ReadsNext : Database
    → Type 0} (old mid new : State) where
  -- what is read after a call that changed nothing
  pub read_after : (x : X) (r : Result Y AdoptFault) → ReadsTables Says Reads old mid (Ok x)
      → ReadsTables Next ReadsNext mid new r → ReadsTables Next ReadsNext old new r
  read_after x (Ok y) first next = record {
    clean = λ now. first.clean (next.clean now);
    says = λ now has. let same = first.same (next.clean now) has in subst (λ db. Next db y) same.0.now_is
        (next.says now (still old mid same has));
    same = λ now has. let same = first.same (next.clean now) has in unchanged_then old mid new same
        (next.same now (still old mid same has));
    left = λ now has. tt;
    bad = λ now has. tt;
  }
  read_after x (Err e) first next = record {
    clean = λ now. first.clean (next.clean now);
    says = λ now has. tt;
    same = λ now has. tt;
    left = λ now has.
        let same = first.same (next.clean now) has in
        let kept = next.left now (still old mid same has) in
        record { was_open = λ shows. same.0.was_open; committed = λ shows. kept.committed shows ∙ same.0.committed_is };
    bad = λ now has is reads. let same = first.same (next.clean now) has in next.bad now (still old mid same has) is
        (subst ReadsNext (sym same.0.now_is) reads);
  }

-- a part that is refused
pub refused : {X Y : Type 0} {Says : Database → X → Type 0} {All : Database → Y → Type 0} {Reads AllReads : Database
    → Type 0} (old new : State) (e : AdoptFault) (r : Result Y AdoptFault) → IsErrAnd r (λ x. x ≡ e)
    → ((db : Database) → AllReads db → Reads db) → ReadsTables Says Reads old new (Err e)
    → ReadsTables All AllReads old new r
refused old new e (Ok y) same part read = absurd same
refused old new e (Err x) same part read = record {
  clean = read.clean;
  says = λ now has. tt;
  same = λ now has. tt;
  left = read.left;
  bad = λ now has is all. read.bad now has (sym same ∙ is) (part old.now all);
}

pub ok_with : {A E : Type 0} (P : Type 0) (Q : A → Type 0) (r : Result A E) → OnOk r P → IfOk r Q
    → IfOk r (λ x. P × Q x)
ok_with P Q (Ok x) p q = (p, q)
ok_with P Q (Err e) p q = tt

pub on_ok : {A E : Type 0} (P : Type 0) (Q : A → Type 0) (r : Result A E) → ((x : A) → Q x → P) → IfOk r Q → OnOk r P
on_ok P Q (Ok x) from q = from x q
on_ok P Q (Err e) from q = tt
