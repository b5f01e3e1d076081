-- What a loss of power leaves of a core, and what holds of its data.
use Rattle.std.proofs.Common.{◌≡◌, ◌≤◌, ◌+◌, ◌⊎◌, ℕ, inl, inr, Bool, List, [], ◌∷◌, ◌++◌, length, take, IsTrue, refl, sym, ap, subst, ◌∙◌, arith}
use Rattle.array_shape.specs.declared.shape.Shape.{Shape}
use Rattle.array_shape.specs.Places.{data_len}
use Rattle.eaw_face.specs.StoreView.{StoreView, LeavesOnly, LeavesSome}
use Rattle.eaw_face.specs.Causes.{IsAlive}
use Rattle.page_store.specs.Index.{Index}
use Rattle.page_store.specs.Shown.{PagesView}
use Rattle.history.specs.Writes.{Table}
use Rattle.history.specs.Legal.{records}
use Rattle.history.specs.Groups.{AreWhole}
use Rattle.history.specs.declared.transaction.Done.{Done}
use Rattle.record_table.specs.Does.{OpensWith, OpensAs}
use Rattle.caller_steps.specs.State.{State}
use Rattle.caller_steps.specs.Prefix.{HasPrefix, HasPrefixOf}
use Rattle.caller_steps.specs.Core.{IsSafe}
use Rattle.caller_steps.proofs.Sound.{history_whole}
use Rattle.mars_core.specs.Over.{OpensWithTables}
use Rattle.mars_core.specs.Held.{core_over}
use Rattle.mars_core.specs.Kept.{IsTied}

-- the laws of a store, for one view
pub record StoreLaws (tells : Bool) (Opens : Shape → List ℕ → List ℕ → Type 0) (store : StoreView) : Type 0 where
  pub long : IsTrue tells → length store.state.bytes ≡ data_len store.shape
  pub some : IsTrue tells → IsAlive store → LeavesSome store
  pub counts : IsTrue tells → (t : ℕ) (image : List ℕ) → t ≤ store.moment → store.left_since store.moment image → store.left_since t image
  pub only : IsTrue tells → IsAlive store → (image : List ℕ) → store.left_since store.moment image → Opens store.shape image store.state.bytes

take_front : {A : Type 0} (xs ys : List A) → take (length xs) (xs ++ ys) ≡ xs
take_front [] ys = refl
take_front (x ∷ xs) ys = ap (λ zs. x ∷ zs) (take_front xs ys)

longer : {A : Type 0} (xs ys : List A) → length xs ≤ length (xs ++ ys)
longer [] ys = omega arith
longer (x ∷ xs) ys = omega (arith, longer xs ys)

pub length-one : {A : Type 0} (xs : List A) (x : A) → length (xs ++ x ∷ []) ≡ length xs + 1
length-one [] x = omega arith
length-one (y ∷ xs) x = omega (arith, length-one xs x)

take_all : {A : Type 0} (xs : List A) → take (length xs) xs ≡ xs
take_all [] = refl
take_all (x ∷ xs) = ap (λ zs. x ∷ zs) (take_all xs)

module _ (Op : List ℕ → Table → Type 0) (image : List ℕ) where
  -- the whole history is a prefix, whatever is in doubt
  pub prefix_all : (base : Table) (history doubt : List Done) → AreWhole (length history) history → Op image (records base history) → HasPrefix Op base (history ++ doubt) (length history) image
  prefix_all base history doubt whole opens = record {
    count = length history;
    at_least = omega arith;
    at_most = longer history doubt;
    whole = subst (λ (hs : List Done). AreWhole (length history) hs) (sym (take_front history doubt)) whole;
    opens = subst (λ (hs : List Done). Op image (records base hs)) (sym (take_front history doubt)) opens;
  }

  -- with more transactions, in doubt or not
  pub prefix_more : (base : Table) (history more : List Done) → AreWhole (length (history ++ more)) (history ++ more) → Op image (records base (history ++ more)) → HasPrefix Op base (history ++ more) (length history) image
  prefix_more base history more whole opens = record {
    count = length (history ++ more);
    at_least = longer history more;
    at_most = omega arith;
    whole = subst (λ (hs : List Done). AreWhole (length (history ++ more)) hs) (sym (take_all (history ++ more))) whole;
    opens = subst (λ (hs : List Done). Op image (records base hs)) (sym (take_all (history ++ more))) opens;
  }

-- What opens as the data of a core's store has the tables that its callers ask for.
pub opens_tied : (Opens : Shape → List ℕ → List ℕ → Type 0) (index : Index) (p : PagesView) (s : State) → IsTied index p s → (shape : Shape) → shape ≡ p.store.shape → (names : List (List ℕ)) → names ≡ s.names
    → (image : List ℕ) (table : Table) → OpensAs (Opens p.store.shape) index image p.store.state.bytes table → OpensWithTables (Opens shape) index names image table
opens_tied Opens index p s tied shape shapes names same image table opens = record {
  bytes = opens.bytes;
  opened = subst (λ (h : Shape). Opens h image opens.bytes) (sym shapes) opens.opened;
  sound = opens.sound;
  version = opens.version tied.version;
  named = opens.named ∙ sym tied.named ∙ sym same;
  shows = opens.shows;
}

module _ (tells : Bool) (Opens : Shape → List ℕ → List ℕ → Type 0) (index : Index) (one : (shape : Shape) (image a b : List ℕ) → Opens shape image a → Opens shape image b → a ≡ b)
    (p q : PagesView) (old_laws : StoreLaws tells Opens p.store) (new_laws : StoreLaws tells Opens q.store) (told : IsTrue tells) (shape : q.store.shape ≡ p.store.shape)
    (alive : IsAlive p.store) (sound : index.sound p.store.state.bytes) where
  module _ (A B : Table) (time : LeavesOnly (λ image. OpensWith (Opens p.store.shape) index image A ⊎ OpensWith (Opens p.store.shape) index image B) p.store q.store) where
    -- the data stays a sound index while the store lives
    pub sound_after : IsAlive q.store → index.sound q.store.state.bytes
    sound_after living =
        let some = new_laws.some told living in
        let now = subst (λ (s : Shape). Opens s some.image q.store.state.bytes) shape (new_laws.only told living some.image some.left) in
        go some.image now (time.only p.store.moment some.image (omega arith) (new_laws.counts told p.store.moment some.image time.later some.left))
      where
        from : (image bytes : List ℕ) → Opens p.store.shape image q.store.state.bytes → Opens p.store.shape image bytes → index.sound bytes → index.sound q.store.state.bytes
        from image bytes now opened s = subst index.sound (one p.store.shape image bytes q.store.state.bytes opened now) s

        go : (image : List ℕ) → Opens p.store.shape image q.store.state.bytes
            → (p.store.left_since p.store.moment image) ⊎ (OpensWith (Opens p.store.shape) index image A ⊎ OpensWith (Opens p.store.shape) index image B) → index.sound q.store.state.bytes
        go image now (inl past) = from image p.store.state.bytes now (old_laws.only told alive image past) sound
        go image now (inr (inl o)) = from image o.bytes now o.opened o.sound
        go image now (inr (inr o)) = from image o.bytes now o.opened o.sound

  -- If the medium failed, what may be left now is what might have been left before or within the call.
  pub safe_dead : (s new : State) → IsTied index p s → new.names ≡ s.names → new.base ≡ s.base → new.history ≡ s.history
      → LeavesOnly (HasPrefixOf (OpensWithTables (Opens q.store.shape) index new.names) new (length s.history)) p.store q.store
      → IsSafe (core_over Opens index q.store new) q.store.moment (length new.history)
  safe_dead s new tied names base history time image left =
      subst (λ (hs : List Done). HasPrefix (OpensWithTables (Opens q.store.shape) index new.names) new.base (new.history ++ new.doubt) (length hs) image) (sym history)
      (go (time.only p.store.moment image (omega arith) (new_laws.counts told p.store.moment image time.later left)))
    where
      go : (p.store.left_since p.store.moment image) ⊎ HasPrefixOf (OpensWithTables (Opens q.store.shape) index new.names) new (length s.history) image
          → HasPrefix (OpensWithTables (Opens q.store.shape) index new.names) new.base (new.history ++ new.doubt) (length s.history) image
      go (inl past) =
          let opened = subst (λ (h : Shape). Opens h image p.store.state.bytes) (sym shape) (old_laws.only told alive image past) in
          subst (λ (hs : List Done). HasPrefix (OpensWithTables (Opens q.store.shape) index new.names) new.base (new.history ++ new.doubt) (length hs) image) history
          (prefix_all (OpensWithTables (Opens q.store.shape) index new.names) image new.base new.history new.doubt (subst (λ (hs : List Done). AreWhole (length hs) hs) (sym history) (history_whole s tied.sound)) (record {
            bytes = p.store.state.bytes;
            opened = opened;
            sound = sound;
            version = tied.version;
            named = sym tied.named ∙ sym names;
            shows = tied.mirrors.table ∙ (λ i. records (sym base i) (sym history i));
          }))
      go (inr has) = has

-- While the store lives, whatever may be left now opens with the records of the history, in its tables.
pub safe_alive : (tells : Bool) (Opens : Shape → List ℕ → List ℕ → Type 0) (index : Index) (q : PagesView) (laws : StoreLaws tells Opens q.store) (s : State) → IsTrue tells → IsAlive q.store → IsTied index q s
    → IsSafe (core_over Opens index q.store s) q.store.moment (length s.history)
safe_alive tells Opens index q laws s told alive tied image left = prefix_all (OpensWithTables (Opens q.store.shape) index s.names) image s.base s.history s.doubt (history_whole s tied.sound) (record {
  bytes = q.store.state.bytes;
  opened = laws.only told alive image left;
  sound = tied.index_sound;
  version = tied.version;
  named = sym tied.named;
  shows = tied.mirrors.table;
})
