-- An array whose records begin anew, with one table more or without.
use Rattle.std.proofs.Common.{◌≡◌, ℕ, inl, inr, ⊎_elim, ◌++◌, ◌∷◌, [], List, length, Bool, true, false, Result, Ok, Err, refl, sym, ◌∙◌, ap, subst, arith}
use Rattle.std.specs.Prelude.{Option, Some, None, IfOk}
use Rattle.pcm_media.specs.Images.{MayLeave}
use Rattle.pcm_media.specs.View.{View}
use Rattle.pcm_media.proofs.Left.{left_as_read}
use Rattle.tape_media.specs.Steps.{device_of}
use Rattle.array_shape.specs.declared.shape.Shape.{Shape}
use Rattle.eaw_face.specs.StoreView.{StoreView}
use Rattle.eaw_device.specs.Laws.{one_data}
use Rattle.eaw_device.specs.Opens.{Opens, AllOpen, OpensLike, FindsData, KeepsData, IsBehind}
use Rattle.page_store.specs.Index.{Index, index_pages_of}
use Rattle.record_slots.specs.Places.{next_page, tables_of}
use Rattle.history.specs.Key.{of_table}
use Rattle.history.specs.Writes.{rows_of}
use Rattle.history.proofs.Keyed.{rows_of-found}
use Rattle.record_table.specs.Does.{OpensNamed}
use Rattle.record_table.specs.Names.{names_of, IsNew}
use Rattle.record_table.specs.Shown.{table_of, pairs_of, found_key}
use Rattle.record_table.specs.Upgrading.{OpensUpgraded}
use Rattle.record_table.specs.declared.making.MakeFault.{MakeFault}
use Rattle.record_table.specs.declared.making.MakeFault.TheVariants as refused
use Rattle.record_table.proofs.Joint.{found_some}
use Rattle.record_table.proofs.Sharing.{name_there}
use Rattle.record_table.proofs.Tables.{record_at, get-table_in}
use Rattle.btree_pages.specs.Index.{tree}
use Rattle.caller_steps.specs.Room.{Limits}
use Rattle.caller_steps.specs.Core.{CoreView}
use Rattle.caller_steps.specs.State.{State, Index as KeysIndex, records_of}
use Rattle.mars_core.specs.Making.{MakesTable, OpensAsNamed, OpensWithName}
use Rattle.mars_core.specs.Over.{IsOver, limits_of}
use Rattle.mars_core.specs.declared.fault.CoreFault.{CoreFault}
use Rattle.open_records.specs.Opens.{Begins, OfData, KeepsRecords, OpensAsLeft}
use Rattle.taped_records.specs.declared.making.Unmade.{Unmade}
use Rattle.taped_records.specs.declared.making.Unmade.TheVariants.{BadName, Exists, TablesFull, InUse, PagesFull, Media, Dead, NoMemory}
use Rattle.taped_records.specs.declared.records.TapedRecords.{TapedRecords}
use Rattle.taped_records.specs.Making as taped
use Rattle.taped_records.specs.Making.{MayMake, OpensHolding, OpensMeanwhile, BeginsAnew, UnmadeCause, IsByChance, MayClose, tables_in, records_in}
use Rattle.taped_records.specs.Remaking.{IsPutDown}
use Rattle.taped_records.specs.Shown.{tape_of, core_in}

-- a table that is not there has no records
no_pair : (index : Index) (bytes name : List ℕ) (key : ℕ) → IsNew name (names_of bytes) → (slot : Option ℕ) → found_key (pairs_of index bytes) (of_table name key) ≡ slot → slot ≡ None
unfolding pairs_of
no_pair index bytes name key new None is = refl
no_pair index bytes name key new (Some slot) is =
    let found = found_some index bytes (of_table name key) slot (tables_of bytes) is in
    absurd (new found.number (name_there (tables_of bytes) found.number found.entry found.there ∙ ap (λ (text : List ℕ). Some text) found.named))

pub no_rows : (index : Index) (bytes name : List ℕ) → IsNew name (names_of bytes) → rows_of name (table_of index bytes) ≡ []
unfolding table_of
no_rows index bytes name new =
    rows_of-found name (table_of index bytes) [] tt
    (λ k. get-table_in bytes (pairs_of index bytes) (of_table name k) ∙ ap (record_at bytes) (no_pair index bytes name k new (found_key (pairs_of index bytes) (of_table name k)) refl))

-- what comes by chance is a cause, and may close the array
pub by_chance : (name : List ℕ) (old : TapedRecords) (unmade : Unmade) → MayMake name old → IsByChance unmade → UnmadeCause name old unmade × MayClose unmade
by_chance name old Media may chance = (may, tt)
by_chance name old NoMemory may chance = (may, tt)
by_chance name old BadName may chance = absurd chance
by_chance name old Exists may chance = absurd chance
by_chance name old TablesFull may chance = absurd chance
by_chance name old InUse may chance = absurd chance
by_chance name old PagesFull may chance = absurd chance
by_chance name old Dead may chance = absurd chance

-- what holds of a making that was not refused at the opening
pub made_of : (P : Result ℕ MakeFault → Type 0) (told : Result (Result ℕ MakeFault) CoreFault) (made : Result ℕ MakeFault) → IfOk told P → told ≡ Ok made → P made
made_of P told made holds is = subst (λ (o : Result (Result ℕ MakeFault) CoreFault). IfOk o P) is holds

-- a core is put down
pub is_down : (store : StoreView) (depth : ℕ) (core : CoreView) (media : View) (defers : Bool) → depth ≡ store.depth → IsOver true (Opens store.shape) tree store core → store.is_dead ≡ false → IsBehind true defers store media
    → ((image : List ℕ) → MayLeave media.content image → Opens store.shape image store.state.bytes) → IsPutDown store.shape depth core media
is_down store depth core media defers told over alive behind opens = record {
  bytes = store.state.bytes;
  opens = opens;
  sound = over.sound refl alive;
  named = over.names refl alive;
  shows = over.table refl alive;
  pages = ap (λ (i : KeysIndex). i.keys.next_page) (over.keys refl);
  limits = over.limits ∙ ap (limits_of tree store.shape) (sym told);
  moment = behind.moment ∙ sym over.moment;
  left = λ t image left. (over.left t image).0 (behind.left t image left);
}

module _ (depth : ℕ) (old : TapedRecords) (media : View) (down : IsPutDown old.core.records.store.shape depth (core_in old) media) (found : StoreView) (finds : FindsData true media found) (keeps : KeepsData true media found.moment found.left_since)
    (opened : found.device ≡ device_of (tape_of old).past) where
  abbrev shape : Shape
  shape = old.core.records.store.shape

  as_found : (found.shape ≡ shape) × (found.state.bytes ≡ down.bytes)
  as_found = finds refl shape down.bytes (down.opens media.content.bytes (left_as_read media.content))

  all_open : AllOpen shape media.content
  all_open image left = (down.bytes, down.opens image left)

  as_it_was : (image : List ℕ) → OpensLike shape media.content image → OpensHolding shape (tables_in old) (records_in old) image
  as_it_was image like = record {
    bytes = down.bytes;
    opened = inl (subst (Opens shape image) (one_data shape like.0 like.2 down.bytes like.3 (down.opens like.0 like.1)) like.4);
    sound = down.sound;
    named = down.named;
    shows = down.shows;
  }

  -- an image with the tables of the store, or with one more
  as_named : (image : List ℕ) → OpensAsNamed (Opens found.shape) tree found.state.bytes image → OpensNamed (Opens shape) tree image (tables_in old) (records_in old)
  as_named image o = record {
    bytes = o.bytes;
    opened = subst (λ (s : Shape). Opens s image o.bytes) as_found.0 o.opened;
    sound = o.sound;
    named = o.named ∙ ap names_of as_found.1 ∙ down.named;
    shows = o.shows ∙ ap (table_of tree) as_found.1 ∙ down.shows;
  }

  with_name : (name image : List ℕ) → OpensWithName (Opens found.shape) tree name found.state.bytes image → OpensNamed (Opens shape) tree image (tables_in old ++ name ∷ []) (records_in old)
  with_name name image o = record {
    bytes = o.bytes;
    opened = subst (λ (s : Shape). Opens s image o.bytes) as_found.0 o.opened;
    sound = o.sound;
    named = o.named ∙ ap (λ (names : List (List ℕ)). names ++ name ∷ []) (ap names_of as_found.1 ∙ down.named);
    shows = o.shows ∙ ap (table_of tree) as_found.1 ∙ down.shows;
  }

  holding : (names : List (List ℕ)) (image : List ℕ) → OpensNamed (Opens shape) tree image names (records_in old) → OpensHolding shape names (records_in old) image
  holding names image o = record { bytes = o.bytes; opened = inl o.opened; sound = o.sound; named = o.named; shows = o.shows }

  module _ (name : List ℕ) (after : StoreView) (made : Result ℕ MakeFault) (makes : MakesTable true (Opens found.shape) tree name found after made) (defers : Bool) (last : View) (behind : IsBehind true defers after last)
      (counts : (image : List ℕ) → MayLeave last.content image → last.left_since last.moment image) where
    -- what is left now opens with tables of these names
    module _ (names : List (List ℕ)) (opens : (image : List ℕ) → after.left_since after.moment image → OpensNamed (Opens shape) tree image names (records_in old))
        (is_one : (image : List ℕ) → OpensHolding shape names (records_in old) image → OpensMeanwhile name old image) (new : TapedRecords) (begins : OfData true last (λ (s : Shape) (b : List ℕ). Begins tree depth s b (core_in new)))
        (time : KeepsRecords true last (core_in new).moment (core_in new).left_since) where
      named_now : (image : List ℕ) → MayLeave last.content image → OpensNamed (Opens shape) tree image names (records_in old)
      named_now image left = opens image (subst (λ (t : ℕ). after.left_since t image) behind.moment (behind.left last.moment image (counts image left)))

      last_opens : AllOpen shape last.content
      last_opens image left = let o = named_now image left in (o.bytes, o.opened)

      as_left : (image : List ℕ) → OpensAsLeft shape last.content image → OpensHolding shape names (records_in old) image
      as_left image is =
          let o = named_now is.0 is.1 in
          let same : is.2 ≡ o.bytes = one_data shape is.0 is.2 o.bytes is.3 o.opened in
          record { bytes = o.bytes; opened = subst (λ (b : List ℕ). OpensUpgraded (Opens shape) b image) same is.4; sound = o.sound; named = o.named; shows = o.shows }

      pub begins_anew : new.callers ≡ old.callers → new.rows ≡ old.rows → device_of (tape_of new).past ≡ last.device → BeginsAnew name names old new
      begins_anew callers rows reopened =
          let now = named_now last.content.bytes (left_as_read last.content) in
          let begun = begins refl shape now.bytes now.opened in
          let first = keeps refl shape all_open in
          let making = makes.time refl in
          let opening = time refl shape last_opens in
          record {
            names = ap (λ (s : State). s.names) begun.state ∙ now.named;
            records = ap records_of begun.state ∙ now.shows;
            fresh = ap (λ (s : State). s.history) begun.state;
            limits = begun.limits ∙ sym down.limits;
            callers = callers;
            rows = rows;
            device = reopened ∙ behind.device ∙ makes.mirrors.device ∙ opened;
            later = omega (arith, down.moment, first.later, making.later, behind.moment, opening.later);
            leaves = λ t image le left.
                ⊎_elim
                (λ was. ⊎_elim
                (λ before. ⊎_elim (λ here. inl (down.left t image here)) (λ like. inr (inl (as_it_was image like))) (first.only t image (omega (arith, le, down.moment)) before))
                (λ one. inr (⊎_elim (λ same. inl (holding (tables_in old) image (as_named image same))) (λ more. inr (holding (tables_in old ++ name ∷ []) image (with_name name image more))) one))
                (making.only t image (omega (arith, le, down.moment, first.later)) (behind.left t image was)))
                (λ later. inr (is_one image (as_left image later)))
                (opening.only t image (omega (arith, le, down.moment, first.later, making.later, behind.moment)) left);
          }

-- the table was made
module _ (depth : ℕ) (old : TapedRecords) (media : View) (down : IsPutDown old.core.records.store.shape depth (core_in old) media) (found : StoreView) (finds : FindsData true media found) (keeps : KeepsData true media found.moment found.left_since)
    (opened : found.device ≡ device_of (tape_of old).past) (name : List ℕ)
    (after : StoreView) (defers : Bool) (last : View) (behind : IsBehind true defers after last) (counts : (image : List ℕ) → MayLeave last.content image → last.left_since last.moment image) (new : TapedRecords)
    (begins : OfData true last (λ (s : Shape) (b : List ℕ). Begins tree depth s b (core_in new))) (time : KeepsRecords true last (core_in new).moment (core_in new).left_since) (callers : new.callers ≡ old.callers) (rows : new.rows ≡ old.rows) (reopened : device_of (tape_of new).past ≡ last.device)
    (may : MayMake name old) where
  pub has_table : (number : ℕ) → MakesTable true (Opens found.shape) tree name found after (Ok number) → taped.MakesTable name number old new
  has_table number makes =
      let opens = λ (image : List ℕ) (left : after.left_since after.moment image). with_name depth old media down found finds keeps opened name image (makes.now refl image left) in
      let anew = begins_anew depth old media down found finds keeps opened name after (Ok number) makes defers last behind counts (tables_in old ++ name ∷ []) opens (λ image is. inr is) new begins time callers rows reopened in
      let told = makes.cause.1 refl in
      record {
        may = may;
        number = told.1 ∙ ap length (ap names_of (as_found depth old media down found finds keeps opened).1 ∙ down.named);
        begins = anew;
        empty =
            ap (rows_of name) (anew.records ∙ sym down.shows)
            ∙ no_rows tree down.bytes name (subst (IsNew name) (sym down.named) may.new);
      }

  -- no page was left for it
  pub has_no_page : (pages : ℕ) → MakesTable true (Opens found.shape) tree name found after (Err (refused.PagesFull pages)) → UnmadeCause name old PagesFull × BeginsAnew name (tables_in old) old new
  has_no_page pages makes =
      let opens = λ (image : List ℕ) (left : after.left_since after.moment image). as_named depth old media down found finds keeps opened image (makes.same refl refl image left) in
      let is = as_found depth old media down found finds keeps opened in
      let told = makes.cause.2 refl in (
        (may, down.pages ∙ ap next_page (sym is.1) ∙ told.2 ∙ ap index_pages_of is.0 ∙ sym (ap (λ (l : Limits). l.index_pages) down.limits)),
        begins_anew depth old media down found finds keeps opened name after (Err (refused.PagesFull pages)) makes defers last behind counts (tables_in old) opens (λ image is. inl is) new begins time callers rows reopened,
      )
