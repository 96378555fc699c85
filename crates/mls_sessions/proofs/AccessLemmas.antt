-- What events read and change is what they may.
use Rattle.std.proofs.Common.{◌≡◌, ℕ, ◌<◌, Bool, true, false, ◌&&◌, List, length, get_or, Option, Some, None, sym, ap, ◌∙◌, subst, inl, inr, true≢false, IfSome}
use Rattle.std.proofs.lemmas.Bool.{cases_Bool, false_from_ne_true}
use Rattle.mls_lattice.specs.Labels.{Labels, below}
use Rattle.mls_lattice.specs.Policy.{Name}
use Rattle.mls_lattice.proofs.LatticeLemmas.{below-trans}
use Rattle.mls_scheme.specs.declared.value.Value.{Value}
use Rattle.mls_filterview.specs.Content.{Seen}
use Rattle.mls_filterview.specs.Calls.{Avoids, NoReadUp, NoWriteDown}
use Rattle.mls_filterview.specs.View.{IsAmong}
use Rattle.mls_filterview.proofs.AmongLemmas.{among_here, none_of}
use Rattle.mls_certcheck.specs.declared.certified.Certified.{Certified as Checked}
use Rattle.mls_certcheck.specs.declared.stored.Stored.{Stored}
use Rattle.mls_certcheck.specs.declared.stored.Stored.TheVariants.{Certified}
use Rattle.mls_certcheck.specs.Rules.{Rules, claim}
use Rattle.mls_certcheck.specs.Site.{Site, site_labels, AreCertified}
use Rattle.mls_certcheck.specs.Stored.{IsCertifiedUnder}
use Rattle.mls_translang.specs.declared.event.Event.{Event}
use Rattle.mls_translang.specs.declared.event.Command.{Command}
use Rattle.mls_translang.specs.declared.event.Command.TheVariants as commands
use Rattle.mls_translang.specs.declared.event.One.{One}
use Rattle.mls_translang.specs.declared.event.One.TheVariants as ones
use Rattle.mls_translang.specs.declared.query.Query.{Query}
use Rattle.mls_machine.specs.Denying.{first_denial, stored_named, call_denial, call_denials}
use Rattle.mls_machine.proofs.DenyingLemmas.{may_run}
use Rattle.mls_sessions.specs.Access.{run_may_read, run_may_change, one_may_read, one_may_change, may_read, may_change, IsOnePermitted, IsBatchPermitted, IsPermitted, ArePermitted}
use Rattle.mls_sessions.specs.Denying.{denial_in}
use Rattle.mls_sessions.specs.Turns.{is_write}
use Rattle.mls_sessions.proofs.CallLemmas.{call_allowed}
use Rattle.mls_machine.proofs.CalledLemmas.{found_holds}

-- what is called with a certificate was checked under the policy
pub found_rules : (site : Site) (name : Name) (k : Checked) → AreCertified site → stored_named site.stored name
    ≡ Some (Certified k) → Rules (claim site.policy k.tx k.cert)
found_rules site name k certified is = subst (λ o. IfSome o (IsCertifiedUnder site.policy)) is
    (found_holds _ _ site.stored certified)

-- what is not both is not the one that makes the other
one_false : (a b : Bool) → (a ≡ true → b ≡ true) → (a && b) ≡ false → a ≡ false
one_false a b h none = false_from_ne_true a (λ t. true≢false (sym (λ i. t i && h t i) ∙ none))

-- ---- the commands of a batch

module _ {B : Type 0} (seen : B → Seen) (a b : B) (ls : Labels) (level : ℕ) (one : One) where
  abbrev May : One → Type 0
  May it = IsOnePermitted seen ls level it a b

  pub view_in_permitted : (relation label : ℕ) (query : Query) (counts : Bool)
      → one ≡ ones.View relation label query counts → below ls label level ≡ true → NoReadUp seen ls label a b
      → May one
  view_in_permitted relation label query counts is low k =
      let h : May (ones.View relation label query counts) = record {
        reads = λ m u. k.reads m (one_false _ _ (λ t. below-trans ls m label level t low) u);
        changes = λ m u. k.changes m tt;
      } in
      subst May (sym is) h

  pub expect_permitted : (expected relation label : ℕ) (query : Query)
      → one ≡ ones.Expect expected relation label query → below ls label level ≡ true → NoReadUp seen ls label a b
      → May one
  expect_permitted expected relation label query is low k =
      let h : May (ones.Expect expected relation label query) = record {
        reads = λ m u. k.reads m (one_false _ _ (λ t. below-trans ls m label level t low) u);
        changes = λ m u. k.changes m tt;
      } in
      subst May (sym is) h

  -- as one of them may, all may
  pub batch_has : (batch : List One) (i : ℕ) → i < length batch → one ≡ get_or batch i one → May one
      → IsBatchPermitted seen ls level batch a b
  batch_has batch i within is h = record {
    reads = λ m out. h.reads m (none_of (λ x. one_may_read ls level x m) batch out one here);
    changes = λ m out. h.changes m (none_of (λ x. one_may_change ls level x m) batch out one here);
  }
    where
      here : IsAmong one batch
      here = subst (λ x. IsAmong x batch) (sym is) (among_here batch i one within)

-- ---- commands

module _ {B : Type 0} (seen : B → Seen) (a b : B) (site : Site) (level : ℕ) where
  abbrev labels : Labels
  labels = site_labels site

  -- a command does
  abbrev Permits : Command → Type 0
  Permits command = Avoids seen (λ m. may_read site level command m ≡ false)
      (λ m. may_change site level command m ≡ false) a b

  pub write_permitted : (command : Command) → is_write command ≡ true → NoWriteDown seen labels level level a b
      → Permits command
  write_permitted (commands.Call name args) h k = absurd (true≢false (sym h))
  write_permitted (commands.Open name) h k = absurd (true≢false (sym h))
  write_permitted commands.Close h k = absurd (true≢false (sym h))
  write_permitted commands.Audit h k = absurd (true≢false (sym h))
  write_permitted (commands.View relation label query counts) h k = absurd (true≢false (sym h))
  write_permitted (commands.Dump relation) h k = absurd (true≢false (sym h))
  write_permitted (commands.All batch) h k = absurd (true≢false (sym h))
  write_permitted (commands.Write relation wr) h k = k

  pub batch_permitted : (command : Command) (batch : List One) → command ≡ commands.All batch
      → IsBatchPermitted seen labels level batch a b → Permits command
  batch_permitted command batch is k = subst Permits (sym is) k

  pub dump_permitted : (command : Command) (relation : ℕ) → command ≡ commands.Dump relation
      → NoReadUp seen labels level a b → Permits command
  dump_permitted command relation is k =
      let h : Permits (commands.Dump relation) = record { reads = k.reads; changes = λ m u. k.changes m tt } in
      subst Permits (sym is) h

  -- of a label below the level
  pub view_permitted : (command : Command) (relation label : ℕ) (query : Query) (counts : Bool)
      → command ≡ commands.View relation label query counts → below labels label level ≡ true
      → NoReadUp seen labels label a b → Permits command
  view_permitted command relation label query counts is low k =
      let h : Permits (commands.View relation label query counts) = record {
        reads = λ m u. k.reads m (one_false _ _ (λ t. below-trans labels m label level t low) u);
        changes = λ m u. k.changes m tt;
      } in
      subst Permits (sym is) h

  -- between the ends of what is run
  pub run_permitted : (k : Checked) (it : Option Stored) → it ≡ Some (Certified k) → k.tx.lo ≡ level
      → NoWriteDown seen labels k.tx.hi k.tx.lo a b
      → Avoids seen (λ m. run_may_read labels it m ≡ false) (λ m. run_may_change labels level it m ≡ false) a b
  run_permitted k it is low h =
      let r : Avoids seen (λ m. run_may_read labels (Some (Certified k)) m ≡ false)
      (λ m. run_may_change labels level (Some (Certified k)) m ≡ false) a b
      = record {
        reads = h.reads;
        changes = λ m u. h.changes m (one_false _ _ (subst (λ l. below labels l m ≡ true) low) u);
      } in
      subst (λ o. Avoids seen (λ m. run_may_read labels o m ≡ false) (λ m. run_may_change labels level o m ≡ false) a b)
      (sym is) r

  pub call_permitted : (event : Event) → event.level ≡ level → (user : ℕ) (name : Name) (args : List (Option Value))
      → event.command ≡ commands.Call name args → denial_in site event.level user event.command ≡ None
      → (k : Checked) → stored_named site.stored name ≡ Some (Certified k)
      → NoWriteDown seen labels k.tx.hi k.tx.lo a b → Permits event.command
  call_permitted event at user name args is allowed k stored h =
      let none : first_denial (call_denials site event.level user k.tx args) ≡ None =
      sym (ap (call_denial site event.level user args) stored) ∙ call_allowed site event user name args is allowed
      in
      let r : Permits (commands.Call name args)
      = run_permitted k (stored_named site.stored name) stored
      ((may_run site event.level user k.tx args none).lo ∙ at) h in
      subst Permits (sym is) r

-- ---- events one after another

module _ {B : Type 0} (seen : B → Seen) (site : Site) (es : List Event) (a : B) where
  pub permitted_start : ArePermitted seen site es a a
  permitted_start = record { reads = λ m h. inl h; changes = λ m h. inl h }

  -- one of them more
  pub permitted_more : (i : ℕ) (e : Event) → i < length es → get_or es i e ≡ e → (b c : B) → IsPermitted seen site e b c
      → ArePermitted seen site es a b → ArePermitted seen site es a c
  permitted_more i e within is b c one before = record {
    reads = λ m h. elim (cases_Bool (may_read site e.level e.command m)) [
      | inl low ↦ inr (e, here, low)
      | inr high ↦ before.reads m (one.reads m high h)
    ];
    changes = λ m h. elim (cases_Bool (may_change site e.level e.command m)) [
      | inl high ↦ inr (e, here, high)
      | inr low ↦ before.changes m (one.changes m low h)
    ];
  }
    where
      here : IsAmong e es
      here = subst (λ x. IsAmong x es) is (among_here es i e within)
