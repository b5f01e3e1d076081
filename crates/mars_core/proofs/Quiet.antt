-- A core whose store shows the same.
use Rattle.std.proofs.Common.{◌≡◌, ℕ, Bool, IsTrue, List, length, sym, ap, subst, ◌∙◌}
use Rattle.std.specs.Prelude.{Option}
use Rattle.array_shape.specs.declared.shape.Shape.{Shape}
use Rattle.eaw_face.specs.State as store
use Rattle.eaw_face.specs.State.{listed}
use Rattle.eaw_face.specs.StoreView.{StoreView}
use Rattle.eaw_face.specs.Mirroring.{ShowsSame}
use Rattle.history.specs.Rows.{NamedRows}
use Rattle.history.specs.Table.{Granted}
use Rattle.history.specs.Writes.{Table}
use Rattle.history.specs.declared.transaction.Done.{Done}
use Rattle.record_slots.specs.Places.{version_of}
use Rattle.record_table.specs.Names.{names_of}
use Rattle.page_store.specs.Index.{Index}
use Rattle.page_store.specs.Shown.{PagesView, pages_of}
use Rattle.record_table.specs.State.{TableState}
use Rattle.record_table.proofs.Moving.{shown_same}
use Rattle.caller_steps.specs.State.{State, Offer}
use Rattle.caller_steps.specs.Prefix.{HasPrefixOf}
use Rattle.caller_steps.specs.Core.{CoreView, Continues}
use Rattle.caller_steps.specs.Sound.{IsSound}
use Rattle.caller_steps.proofs.Continuing.{continues_as}
use Rattle.mars_core.specs.Over.{limits_of, index_of, OpensWithTables}
use Rattle.mars_core.specs.Held.{Held, core_of, core_over, state_at, state_over}
use Rattle.mars_core.specs.Kept.{HasHeld, IsKept}

-- what a core keeps true
module _ (tells : Bool) (Opens : Shape → List ℕ → List ℕ → Type 0) (index : Index) (p q : PagesView) (same : ShowsSame p.store q.store) (counts : q.counts ≡ p.counts)
    (names : List (List ℕ)) (base : Table) (history : List Done) (live : ℕ → Option Granted) (offers : ℕ → Offer) (doubt : List Done) where
  state_same : state_at index q.store names base history live offers doubt ≡ state_at index p.store names base history live offers doubt
  state_same = λ i. record { names = names; base = base; history = history; live = live; offers = offers; doubt = doubt; is_dead = same.is_dead i; index = index_of index (same.state i).bytes }

  pub kept_quiet : (n : ℕ) (rows : List NamedRows) → IsKept tells Opens index p n rows (state_at index p.store names base history live offers doubt) → IsKept tells Opens index q n rows (state_at index q.store names base history live offers doubt)
  kept_quiet n rows kept =
      let s = state_at index p.store names base history live offers doubt in
      let shows = shown_same index p q same.state counts in
      subst (λ (x : State). IsKept tells Opens index q n rows x) (sym state_same) (record {
        seats = kept.seats ∙ sym (ap (λ (h : Shape). h.numbers) same.shape);
        in_order = kept.in_order;
        idle = λ alive t none. ap (λ (f : store.Logs (ℕ × ℕ)). listed (f t)) same.ranges ∙ kept.idle (sym same.is_dead ∙ alive) t none;
        saves = λ alive t table. ap (λ (f : ℕ → List ℕ). length (f t)) counts ∙ kept.saves (sym same.is_dead ∙ alive) t table;
        tied = λ told alive.
            let tied = kept.tied told (sym same.is_dead ∙ alive) in
            record {
              index_sound = subst (λ (d : store.State). index.sound d.bytes) (sym same.state) tied.index_sound;
              version = ap (λ (d : store.State). version_of d.bytes) same.state ∙ tied.version;
              named = tied.named ∙ ap (λ (d : store.State). names_of d.bytes) (sym same.state);
              mirrors = record {
                table = ap (λ (x : TableState). x.table) shows ∙ tied.mirrors.table;
                logs = λ caller. ap (λ (x : TableState). x.logs caller) shows ∙ tied.mirrors.logs caller;
              };
              sound = tied.sound;
              room = subst (λ (x : Shape × ℕ). HasHeld (limits_of index x.0 x.1) s) (λ i. (sym same.shape i, sym same.depth i)) tied.room;
            };
        safe = λ told image left.
            subst (λ (h : Shape). HasPrefixOf (OpensWithTables (Opens h) index names) s (length history) image) (sym same.shape)
            (kept.safe told image (subst (λ (m : ℕ). p.store.left_since m image) same.moment ((same.left q.store.moment image).0 left)));
      })

module _ {S : Type 0} (tells : Bool) (Opens : Shape → List ℕ → List ℕ → Type 0) (index : Index) (old new : StoreView) (same : ShowsSame old new) (was is : Held S) (rest : is ≡ record was { records = is.records }) where
  core_is : core_of Opens index new is ≡ record (core_of Opens index old was) { left_since = new.left_since }
  core_is = λ i. record (core_over Opens index (record old { shape = same.shape i; depth = same.depth i; state = same.state i; is_dead = same.is_dead i; faults = same.faults i; moment = same.moment i })
      (state_over index (record old { state = same.state i; is_dead = same.is_dead i }) (rest i))) { left_since = new.left_since }

  -- a core whose store shows the same goes on
  pub goes_on : (rows : List NamedRows) (count : ℕ) → IsKept tells Opens index (pages_of old was.records) count rows (state_over index old was) → IsTrue tells → IsSound (state_over index old was)
      → Continues (core_of Opens index old was) (core_of Opens index new is)
  goes_on rows count kept told sound =
      let core = core_of Opens index old was in
      subst (λ (v : CoreView). Continues core v) (sym core_is) (continues_as core new.left_since same.left sound (kept.safe told))
