-- What each command of pages makes of the views, the data and the saves.
use Rattle.std.proofs.Common.{◌≡◌, ℕ, zero, suc, ◌+◌, ◌-◌, ◌<◌, ◌≤◌, Bool, cond, inl, inr, List, [], ◌∷◌, ◌++◌, length, take, drop, refl, sym, ◌∙◌, ap, subst, arith}
use Rattle.std.specs.Prelude.{Option, Some, None}
use Rattle.std.specs.Option.{option_map}
use Rattle.std.proofs.lemmas.Bool.{cases_eq}
use Rattle.std.proofs.lemmas.List.{take-append-drop, get_or_append_left, get_or_push, get_or-take, length-append}
use Rattle.mars_base.specs.Bytes.{put}
use Rattle.array_shape.specs.declared.shape.Shape.{Shape}
use Rattle.array_shape.specs.Places.{IsPlaced}
use Rattle.array_shape.specs.Logged.{Part, applied, AllFit, ranges_of}
use Rattle.array_image.proofs.Applied.{applied-append}
use Rattle.array_image.proofs.Data.{all_fit}
use Rattle.eaw_face.specs.State.{listed, with_log}
use Rattle.page_store.specs.Edit.{AreApart, with_write}
use Rattle.page_store.specs.State.{PagesState, log_of, view_of, with_one, save_at, floor_of}
use Rattle.page_store.specs.Command.{PageCommand, write_as, save, back, top_begin, top_end, end, end_group, atomic_write, read_as, read, after}
use Rattle.page_store.specs.Kept.{IsFront, IsKept, Spares}
use Rattle.page_store.proofs.Parts.{applied_either_order}
use Rattle.page_store.proofs.Edit.{view_written}
use Rattle.page_store.proofs.Writes.{take-none}
use Rattle.page_store.proofs.Numbers.{with_here, with_there}

-- the parts of a number, and of another one, if the logs changed for the first alone
list_here : (s : PagesState) (t : ℕ) (log : Option (List Part)) → listed (with_log s.store.logs t log t) ≡ listed log
list_here s t log = ap listed (with_here s.store.logs t log)

list_there : (s : PagesState) (t u : ℕ) (log : Option (List Part)) → (u ≡ t → ⊥) → listed (with_log s.store.logs t log u) ≡ log_of s u
list_there s t u log ne = ap listed (with_there s.store.logs t log u ne)

-- a list in place of that of a number that is live
pub listed-map : (f : List Part → List Part) (log : Option (List Part)) → f [] ≡ [] → listed (option_map f log) ≡ f (listed log)
listed-map f None none = sym none
listed-map f (Some log) none = refl

-- the parts of a save: none if the number is not live, since it had none when it was saved
pub saved_or_none : (front : List Part) (log : Option (List Part)) → IsFront front (listed log) → listed (option_map (λ old. front) log) ≡ front
saved_or_none front None is = sym (take-none (length front)) ∙ is
saved_or_none front (Some log) is = refl

pub fit-take : (n k : ℕ) (log : List Part) → AllFit n log → AllFit n (take k log)
fit-take n zero log fit = tt
fit-take n (suc k) [] fit = tt
fit-take n (suc k) (p ∷ ps) fit = (fit.0, fit-take n k ps fit.1)

pub fit-drop : (n k : ℕ) (log : List Part) → AllFit n log → AllFit n (drop k log)
fit-drop n zero log fit = fit
fit-drop n (suc k) [] fit = tt
fit-drop n (suc k) (p ∷ ps) fit = fit-drop n k ps fit.1

-- the end of a top action: the parts before the mark stay; those from it on are in the data; the others' parts stay
pub top_end_list : (s : PagesState) (t mark : ℕ) → log_of (after (top_end t mark) s) t ≡ take mark (log_of s t)
top_end_list s t mark = list_here s t (option_map (take mark) (s.store.logs t)) ∙ listed-map (take mark) (s.store.logs t) (take-none mark)

pub top_end_data : (s : PagesState) (t mark : ℕ) → (after (top_end t mark) s).store.bytes ≡ applied (drop mark (log_of s t)) s.store.bytes
top_end_data s t mark = refl

pub top_end_others : (s : PagesState) (t mark u : ℕ) → (u ≡ t → ⊥) → view_of u (after (top_end t mark) s) ≡ applied (log_of s u) (applied (drop mark (log_of s t)) s.store.bytes)
top_end_others s t mark u ne = ap (λ (l : List Part). applied l (applied (drop mark (log_of s t)) s.store.bytes)) (list_there s t u (option_map (take mark) (s.store.logs t)) ne)

module _ (shape : Shape) (s : PagesState) (kept : IsKept shape s) where
  pub log_fits : (t : ℕ) → AllFit (length s.store.bytes) (log_of s t)
  log_fits t = subst (λ n. AllFit n (log_of s t)) (sym kept.long) (all_fit shape (log_of s t) (kept.each t).placed)

  -- a write puts its bytes into the view of its number
  pub write_as_view : (t addr : ℕ) (bytes : List ℕ) → IsPlaced shape addr (length bytes) → view_of t (after (write_as t addr bytes) s) ≡ put (view_of t s) addr bytes
  write_as_view t addr bytes placed =
      ap (λ (l : List Part). applied l s.store.bytes) (list_here s t (Some (with_write (floor_of s t) addr bytes (log_of s t))))
      ∙ view_written addr bytes (floor_of s t) (log_of s t) s.store.bytes (omega (arith, placed.inside, kept.long)) (log_fits t)

  save_front : (t n : ℕ) → 0 < n → n ≤ length (s.saved t) → IsFront (save_at (s.saved t) n) (log_of s t)
  save_front t n some le = (kept.each t).fronts (n - 1) (omega arith)

  -- back: the parts are those of the save
  pub back_list : (t n : ℕ) → 0 < n → n ≤ length (s.saved t) → log_of (after (back t n) s) t ≡ save_at (s.saved t) n
  back_list t n some le = list_here s t (option_map (λ log. save_at (s.saved t) n) (s.store.logs t)) ∙ saved_or_none (save_at (s.saved t) n) (s.store.logs t) (save_front t n some le)

  -- and the view is that list over the data as it is now
  pub back_view : (t n : ℕ) → 0 < n → n ≤ length (s.saved t) → view_of t (after (back t n) s) ≡ applied (save_at (s.saved t) n) s.store.bytes
  back_view t n some le = ap (λ (l : List Part). applied l s.store.bytes) (back_list t n some le)

  -- The end of a top action: if the parts from the mark on share no byte with those before it, the view stays.
  pub top_end_view : (t mark : ℕ) → AreApart (ranges_of (take mark (log_of s t))) (ranges_of (drop mark (log_of s t))) → view_of t (after (top_end t mark) s) ≡ view_of t s
  top_end_view t mark apart =
      ap (λ (l : List Part). applied l (applied (drop mark (log_of s t)) s.store.bytes)) (top_end_list s t mark)
      ∙ applied_either_order (take mark (log_of s t)) (drop mark (log_of s t)) s.store.bytes (fit-take (length s.store.bytes) mark (log_of s t) (log_fits t)) (fit-drop (length s.store.bytes) mark (log_of s t) (log_fits t)) apart
      ∙ sym (applied-append (take mark (log_of s t)) (drop mark (log_of s t)) s.store.bytes)
      ∙ ap (λ (l : List Part). applied l s.store.bytes) (take-append-drop mark (log_of s t))

  -- another number whose parts share no byte with those from the mark on sees them written into its view
  pub top_end_other_view : (t mark u : ℕ) → (u ≡ t → ⊥) → AreApart (ranges_of (log_of s u)) (ranges_of (drop mark (log_of s t))) → view_of u (after (top_end t mark) s) ≡ applied (drop mark (log_of s t)) (view_of u s)
  top_end_other_view t mark u ne apart =
      top_end_others s t mark u ne
      ∙ applied_either_order (log_of s u) (drop mark (log_of s t)) s.store.bytes (log_fits u) (fit-drop (length s.store.bytes) mark (log_of s t) (log_fits t)) apart

-- a write changes no other view, and no data
pub write_as_others : (s : PagesState) (t addr : ℕ) (bytes : List ℕ) (u : ℕ) → (u ≡ t → ⊥) → view_of u (after (write_as t addr bytes) s) ≡ view_of u s
write_as_others s t addr bytes u ne = ap (λ (l : List Part). applied l s.store.bytes) (list_there s t u (Some (with_write (floor_of s t) addr bytes (log_of s t))) ne)

pub write_as_data : (s : PagesState) (t addr : ℕ) (bytes : List ℕ) → (after (write_as t addr bytes) s).store.bytes ≡ s.store.bytes
write_as_data s t addr bytes = refl

-- back: the saves above n are gone, n stays; no data changes, and no other view
pub back_saves : (s : PagesState) (t n : ℕ) → (after (back t n) s).saved t ≡ take n (s.saved t)
back_saves s t n = with_here s.saved t (take n (s.saved t))

pub back_data : (s : PagesState) (t n : ℕ) → (after (back t n) s).store.bytes ≡ s.store.bytes
back_data s t n = refl

pub back_others : (s : PagesState) (t n u : ℕ) → (u ≡ t → ⊥) → view_of u (after (back t n) s) ≡ view_of u s
back_others s t n u ne = ap (λ (l : List Part). applied l s.store.bytes) (list_there s t u (option_map (λ log. save_at (s.saved t) n) (s.store.logs t)) ne)

-- a save: one more, which is the list as it is; the store stays
pub save_count : (s : PagesState) (t : ℕ) → length ((after (save t) s).saved t) ≡ length (s.saved t) + 1
save_count s t = ap length (with_here s.saved t (s.saved t ++ log_of s t ∷ [])) ∙ omega (arith, length-append (s.saved t) (log_of s t ∷ []))

pub save_list : (s : PagesState) (t : ℕ) → save_at ((after (save t) s).saved t) (length (s.saved t) + 1) ≡ log_of s t
save_list s t =
    ap (λ (saved : List (List Part)). save_at saved (length (s.saved t) + 1)) (with_here s.saved t (s.saved t ++ log_of s t ∷ []))
    ∙ get_or_push (s.saved t) (log_of s t) [] (length (s.saved t) + 1 - 1) (omega arith)

pub save_store : (s : PagesState) (t : ℕ) → (after (save t) s).store ≡ s.store
save_store s t = refl

-- the end: the data are what the number saw, or as they were; it has no parts and no saves
pub end_data : (s : PagesState) (t : ℕ) (commits : Bool) → (after (end t commits) s).store.bytes ≡ cond commits (view_of t s) s.store.bytes
end_data s t commits = refl

pub end_list : (s : PagesState) (t : ℕ) (commits : Bool) → log_of (after (end t commits) s) t ≡ []
end_list s t commits = list_here s t None

pub end_saves : (s : PagesState) (t : ℕ) (commits : Bool) → (after (end t commits) s).saved t ≡ []
end_saves s t commits = with_here s.saved t []

pub end_others : (s : PagesState) (t : ℕ) (commits : Bool) (u : ℕ) → (u ≡ t → ⊥) → log_of (after (end t commits) s) u ≡ log_of s u
end_others s t commits u ne = list_there s t u None ne

-- the saves of one number that was changed, and those of another
same_saves : (s : PagesState) (u t n : ℕ) (saved : List (List Part)) → (u ≡ t → save_at saved n ≡ save_at (s.saved t) n) → save_at (with_one s.saved u saved t) n ≡ save_at (s.saved t) n
same_saves s u t n saved same = elim (cases_eq t u) [
  | inl is ↦ ap (λ (k : ℕ). save_at (with_one s.saved u saved k) n) is ∙ ap (λ (l : List (List Part)). save_at l n) (with_here s.saved u saved) ∙ same (sym is)
  | inr ne ↦ ap (λ (l : List (List Part)). save_at l n) (with_there s.saved u saved t ne)
]

-- No command but a way back to an earlier save and the end of the number changes a saved list.
pub saves_stay : (c : PageCommand) (s : PagesState) (t n : ℕ) → 0 < n → n ≤ length (s.saved t) → Spares c t n → save_at ((after c s).saved t) n ≡ save_at (s.saved t) n
saves_stay (write_as u addr bytes) s t n some le spares = refl
saves_stay (save u) s t n some le spares = same_saves s u t n (s.saved u ++ log_of s u ∷ []) (λ is.
    ap (λ (k : ℕ). save_at (s.saved k ++ log_of s k ∷ []) n) is ∙ get_or_append_left (s.saved t) (log_of s t ∷ []) [] (n - 1) (omega arith))
saves_stay (back u m) s t n some le spares = same_saves s u t n (take m (s.saved u)) (λ is.
    let early : n ≤ m = spares is in
    ap (λ (k : ℕ). save_at (take m (s.saved k)) n) is ∙ get_or-take m (s.saved t) (n - 1) [] (omega arith))
saves_stay (top_begin u) s t n some le spares = refl
saves_stay (top_end u mark) s t n some le spares = refl
saves_stay (end u commits) s t n some le spares = same_saves s u t n [] (λ is. absurd (spares is))
saves_stay (end_group us) s t n some le spares = ap (λ (b : Bool). save_at (cond b [] (s.saved t)) n) spares
saves_stay (atomic_write u addr bytes) s t n some le spares = refl
saves_stay (read_as u) s t n some le spares = refl
saves_stay read s t n some le spares = refl
