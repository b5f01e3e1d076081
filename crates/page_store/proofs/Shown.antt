-- The model's state that pages stand for.
use Rattle.std.proofs.Common.{◌≡◌, ℕ, zero, suc, ◌<◌, ◌≤◌, List, [], ◌∷◌, length, get_or, take, refl, sym, ◌∙◌, ap, subst, arith}
use Rattle.std.specs.Prelude.{Option, Some, None, map}
use Rattle.std.specs.Option.{option_map, unwrap_or}
use Rattle.std.proofs.lemmas.List.{length-take, length-take-le, take_min}
use Rattle.array_shape.specs.declared.shape.Shape.{Shape}
use Rattle.array_shape.specs.Places.{data_len}
use Rattle.array_shape.specs.Logged.{Part, ranges_of, AllPlaced}
use Rattle.eaw_face.specs.State.{State, listed}
use Rattle.eaw_face.specs.StoreView.{StoreView, ArePlaced}
use Rattle.page_store.specs.State.{log_of}
use Rattle.page_store.specs.Command.{PageCommand, after}
use Rattle.page_store.specs.Outline.{Outline, outline, outline_after}
use Rattle.page_store.specs.Kept.{IsFront, IsKeptOf, IsKept, IsOrdered, IsAllowed}
use Rattle.page_store.specs.Shown.{PagesView, saved_of, outline_of, state_of}
use Rattle.page_store.proofs.Keeping.{kept_after}
use Rattle.page_store.proofs.Outline.{outline_does, listed-ranges}

-- the list at a save
saved_at : (log : List Part) (counts : List ℕ) (i : ℕ) → get_or (saved_of log counts) i [] ≡ take (get_or counts i 0) log
saved_at log [] i = refl
saved_at log (n ∷ ns) zero = refl
saved_at log (n ∷ ns) (suc i) = saved_at log ns i

length-saved_of : (log : List Part) (counts : List ℕ) → length (saved_of log counts) ≡ length counts
length-saved_of log [] = refl
length-saved_of log (n ∷ ns) = ap suc (length-saved_of log ns)

length-ranges_of : (log : List Part) → length (ranges_of log) ≡ length log
length-ranges_of [] = refl
length-ranges_of (p ∷ ps) = ap suc (length-ranges_of ps)

front-take : (n : ℕ) (log : List Part) → IsFront (take n log) log
front-take n log = ap (λ (k : ℕ). take k log) (length-take n log) ∙ take_min n log

-- each count within the log
lengths_saved : (log : List Part) (counts : List ℕ) → ((i : ℕ) → i < length counts → get_or counts i 0 ≤ length log) → map length (saved_of log counts) ≡ counts
lengths_saved log [] within = refl
lengths_saved log (n ∷ ns) within = λ i. length-take-le n log (within 0 (omega arith)) i ∷ lengths_saved log ns (λ k lt. within (suc k) (omega arith)) i

-- lists that are prefixes of a log are those of their lengths
saved_lengths : (log : List Part) (saved : List (List Part)) → ((i : ℕ) → i < length saved → IsFront (get_or saved i []) log) → saved_of log (map length saved) ≡ saved
saved_lengths log [] fronts = refl
saved_lengths log (l ∷ ls) fronts = λ i. fronts 0 (omega arith) i ∷ saved_lengths log ls (λ k lt. fronts (suc k) (omega arith)) i

pub placed_parts : (shape : Shape) (log : List Part) → ArePlaced shape (ranges_of log) → AllPlaced shape log
placed_parts shape [] placed = tt
placed_parts shape (p ∷ ps) placed = (placed.0, placed_parts shape ps placed.1)

-- what a store that tells shows while it is not dead
pub record IsTold (store : StoreView) : Type 0 where
  pub long : length store.state.bytes ≡ data_len store.shape
  pub outlines : (t : ℕ) → store.ranges t ≡ option_map ranges_of (store.state.logs t)
  pub placed : (t : ℕ) → ArePlaced store.shape (listed (store.ranges t))

module _ (pages : PagesView) (told : IsTold pages.store) (ordered : IsOrdered (outline_of pages)) where
  log_at : ℕ → List Part
  log_at t = listed (pages.store.state.logs t)

  ranges_at : (t : ℕ) → listed (pages.store.ranges t) ≡ ranges_of (listed (pages.store.state.logs t))
  ranges_at t = ap listed (told.outlines t) ∙ listed-ranges (pages.store.state.logs t)

  now_at : (t : ℕ) → length (listed (pages.store.ranges t)) ≡ length (listed (pages.store.state.logs t))
  now_at t = ap length (ranges_at t) ∙ length-ranges_of (listed (pages.store.state.logs t))

  within_top : (top : Option ℕ) (n now : ℕ) → unwrap_or top 0 ≤ now → n ≤ unwrap_or top now → n ≤ now
  within_top None n now mark before = before
  within_top (Some m) n now mark before = omega arith

  within : (t i : ℕ) → i < length (pages.counts t) → get_or (pages.counts t) i 0 ≤ length (listed (pages.store.state.logs t))
  within t i lt =
      let of = ordered t in
      subst (λ (n : ℕ). get_or (pages.counts t) i 0 ≤ n) (now_at t) (within_top (pages.top t) _ _ of.mark (of.before i lt))

  pub outlined : outline (state_of pages) ≡ outline_of pages
  outlined = λ i. record {
    ranges = λ t. sym (told.outlines t) i;
    counts = λ t. lengths_saved (listed (pages.store.state.logs t)) (pages.counts t) (within t) i;
    top = pages.top;
  }

  saved_within : (t i : ℕ) → i < length (pages.counts t) → length (get_or (saved_of (listed (pages.store.state.logs t)) (pages.counts t)) i []) ≡ get_or (pages.counts t) i 0
  saved_within t i lt = ap length (saved_at (listed (pages.store.state.logs t)) (pages.counts t) i) ∙ length-take-le _ (listed (pages.store.state.logs t)) (within t i lt)

  kept_at : (t : ℕ) → IsKeptOf pages.store.shape (saved_of (listed (pages.store.state.logs t)) (pages.counts t)) (pages.top t) (listed (pages.store.state.logs t))
  kept_at t =
      let log = listed (pages.store.state.logs t) in
      let counts = pages.counts t in
      let of = ordered t in
      let many = length-saved_of log counts in
      record {
        fronts = λ i lt. subst (λ front. IsFront front log) (sym (saved_at log counts i)) (front-take (get_or counts i 0) log);
        rising = λ i j le lt. omega (arith, saved_within t i (omega (arith, many)), saved_within t j (omega (arith, many)), of.rising i j le (omega (arith, many)));
        mark = subst (λ (n : ℕ). unwrap_or (pages.top t) 0 ≤ n) (now_at t) of.mark;
        before = λ i lt. subst (λ (n : ℕ). n ≤ unwrap_or (pages.top t) (length log)) (sym (saved_within t i (omega (arith, many))))
            (subst (λ (n : ℕ). get_or counts i 0 ≤ unwrap_or (pages.top t) n) (now_at t) (of.before i (omega (arith, many))));
        placed = placed_parts pages.store.shape log (subst (λ rs. ArePlaced pages.store.shape rs) (ranges_at t) (told.placed t));
      }

  pub kept : IsKept pages.store.shape (state_of pages)
  kept = record { long = told.long; each = kept_at }

  -- a command whose store and outline are as the model says has the model's state
  pub state_after : (c : PageCommand) (new : PagesView) → IsAllowed pages.store.shape c (outline_of pages)
      → new.store.state ≡ (after c (state_of pages)).store → outline_of new ≡ outline_after c (outline_of pages) → state_of new ≡ after c (state_of pages)
  state_after c new allowed store same =
      let s' = after c (state_of pages) in
      let allowed' = subst (λ o. IsAllowed pages.store.shape c o) (sym outlined) allowed in
      let kept' = kept_after pages.store.shape (state_of pages) kept c allowed' in
      let out : outline s' ≡ outline_of new = outline_does pages.store.shape c (state_of pages) kept allowed' ∙ ap (outline_after c) outlined ∙ sym same in
      let saved : (t : ℕ) → saved_of (listed (new.store.state.logs t)) (new.counts t) ≡ s'.saved t = λ t.
      ap (λ (st : State). saved_of (listed (st.logs t)) (new.counts t)) store
      ∙ ap (saved_of (log_of s' t)) (ap (λ (o : Outline). o.counts t) (sym out))
      ∙ saved_lengths (log_of s' t) (s'.saved t) (kept'.each t).fronts in
      λ i. record { store = store i; saved = λ t. saved t i; top = (sym out i).top }
