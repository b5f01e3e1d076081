-- A top action as a whole: what was written in it is in the data, and the number's parts are what they were.
use Rattle.std.proofs.Common.{◌≡◌, ℕ, List, [], ◌∷◌, ◌++◌, length, take, drop, refl, sym, ◌∙◌, ap, subst, arith}
use Rattle.std.specs.Prelude.{max, Option, Some}
use Rattle.std.specs.Option.{option_map, unwrap_or}
use Rattle.std.proofs.lemmas.List.{append-nil, take_at}
use Rattle.array_shape.specs.declared.shape.Shape.{Shape}
use Rattle.array_shape.specs.Places.{data_len}
use Rattle.array_shape.specs.Logged.{Part, applied, AllFit, AllPlaced, ranges_of}
use Rattle.array_image.proofs.Data.{all_fit}
use Rattle.eaw_face.specs.State.{listed}
use Rattle.page_store.specs.Edit.{edit_pos, with_write}
use Rattle.page_store.specs.State.{PagesState, log_of, save_at, floor_of}
use Rattle.page_store.specs.Command.{write_as, top_begin, after}
use Rattle.page_store.specs.Kept.{IsKept}
use Rattle.page_store.specs.Played.{played, writes_as, top_of}
use Rattle.page_store.proofs.Numbers.{with_here, with_there}
use Rattle.page_store.proofs.Edit.{view_written, written_later}
use Rattle.page_store.proofs.Writes.{write_placed}
use Rattle.page_store.proofs.Keeping.{saved_within}
use Rattle.page_store.proofs.Views.{top_end_list}

-- parts written one after another into a log
writes_in : ℕ → List Part → List Part → List Part
writes_in floor [] log = log
writes_in floor (p ∷ ps) log = writes_in floor ps (with_write floor p.0 p.1 log)

write_behind : (addr : ℕ) (bytes : List ℕ) (log more : List Part) → with_write (length log) addr bytes (log ++ more) ≡ log ++ with_write 0 addr bytes more
write_behind addr bytes [] more = refl
write_behind addr bytes (p ∷ ps) more = written_later (edit_pos (length ps) (addr, length bytes) (ranges_of (ps ++ more))) addr bytes p (ps ++ more) ∙ ap (λ (l : List Part). p ∷ l) (write_behind addr bytes ps more)

writes_behind : (ws log more : List Part) → writes_in (length log) ws (log ++ more) ≡ log ++ writes_in 0 ws more
unfolding writes_in
writes_behind [] log more = refl
writes_behind (w ∷ ws) log more = ap (writes_in (length log) ws) (write_behind w.0 w.1 log more) ∙ writes_behind ws log (with_write 0 w.0 w.1 more)

-- parts written into a log, and that log written into data
writes_applied : (shape : Shape) (ws log : List Part) (d : List ℕ) → length d ≡ data_len shape → AllPlaced shape ws → AllPlaced shape log → applied (writes_in 0 ws log) d ≡ applied ws (applied log d)
unfolding writes_in
writes_applied shape [] log d long placed placed' = refl
writes_applied shape (w ∷ ws) log d long placed placed' =
    writes_applied shape ws (with_write 0 w.0 w.1 log) d long placed.1 (write_placed w.0 w.1 shape placed.0 0 log placed')
    ∙ ap (applied ws) (view_written w.0 w.1 0 log d (omega (arith, placed.0.inside, long)) (subst (λ n. AllFit n log) (sym long) (all_fit shape log placed')))

-- writes change the log of their number alone
played_log : (ws : List Part) (s : PagesState) (t : ℕ) → log_of (played (writes_as t ws) s) t ≡ writes_in (floor_of s t) ws (log_of s t)
unfolding writes_in
played_log [] s t = refl
played_log (w ∷ ws) s t = played_log ws (after (write_as t w.0 w.1) s) t ∙ ap (writes_in (floor_of s t) ws) (ap listed (with_here s.store.logs t (Some (with_write (floor_of s t) w.0 w.1 (log_of s t)))))

played_bytes : (ws : List Part) (s : PagesState) (t : ℕ) → (played (writes_as t ws) s).store.bytes ≡ s.store.bytes
played_bytes [] s t = refl
played_bytes (w ∷ ws) s t = played_bytes ws (after (write_as t w.0 w.1) s) t

module _ (shape : Shape) (s : PagesState) (kept : IsKept shape s) (t : ℕ) (ws : List Part) (placed : AllPlaced shape ws) where
  begun : PagesState
  begun = after (top_begin t) s

  floor_begun : floor_of begun t ≡ length (log_of s t)
  unfolding begun
  floor_begun =
      ap (λ (o : Option ℕ). max (length (save_at (s.saved t) (length (s.saved t)))) (unwrap_or o 0)) (with_here s.top t (Some (length (log_of s t))))
      ∙ omega (arith, saved_within shape (s.saved t) (s.top t) (log_of s t) (kept.each t))

  log_written : log_of (played (writes_as t ws) begun) t ≡ log_of s t ++ writes_in 0 ws []
  unfolding begun
  log_written =
      played_log ws begun t
      ∙ ap (λ (n : ℕ). writes_in n ws (log_of s t)) floor_begun
      ∙ ap (writes_in (length (log_of s t)) ws) (sym (append-nil (log_of s t)))
      ∙ writes_behind ws (log_of s t) []

  pub top_of_data : (top_of t ws s).store.bytes ≡ applied ws s.store.bytes
  unfolding begun
  top_of_data =
      ap (λ (l : List Part). applied (drop (length (log_of s t)) l) (played (writes_as t ws) begun).store.bytes) log_written
      ∙ ap (λ (l : List Part). applied l (played (writes_as t ws) begun).store.bytes) (drop_at (log_of s t) (writes_in 0 ws []))
      ∙ ap (applied (writes_in 0 ws [])) (played_bytes ws begun t)
      ∙ writes_applied shape ws [] s.store.bytes kept.long placed tt
    where
      drop_at : (l more : List Part) → drop (length l) (l ++ more) ≡ more
      drop_at [] more = refl
      drop_at (p ∷ ps) more = drop_at ps more

  pub top_of_list : log_of (top_of t ws s) t ≡ log_of s t
  unfolding begun
  top_of_list =
      top_end_list (played (writes_as t ws) begun) t (length (log_of s t))
      ∙ ap (take (length (log_of s t))) log_written
      ∙ take_at (log_of s t) (writes_in 0 ws []) (length (log_of s t)) refl

-- the others' parts, and all saves, are what they were
played_other : (ws : List Part) (s : PagesState) (t u : ℕ) → (u ≡ t → ⊥) → log_of (played (writes_as t ws) s) u ≡ log_of s u
played_other [] s t u ne = refl
played_other (w ∷ ws) s t u ne = played_other ws (after (write_as t w.0 w.1) s) t u ne ∙ ap listed (with_there s.store.logs t (Some (with_write (floor_of s t) w.0 w.1 (log_of s t))) u ne)

played_saved : (ws : List Part) (s : PagesState) (t : ℕ) → (played (writes_as t ws) s).saved ≡ s.saved
played_saved [] s t = refl
played_saved (w ∷ ws) s t = played_saved ws (after (write_as t w.0 w.1) s) t

pub top_of_other : (s : PagesState) (t : ℕ) (ws : List Part) (u : ℕ) → (u ≡ t → ⊥) → log_of (top_of t ws s) u ≡ log_of s u
top_of_other s t ws u ne =
    ap listed (with_there (played (writes_as t ws) (after (top_begin t) s)).store.logs t (option_map (take (length (log_of s t))) ((played (writes_as t ws) (after (top_begin t) s)).store.logs t)) u ne)
    ∙ played_other ws (after (top_begin t) s) t u ne

pub top_of_saved : (s : PagesState) (t : ℕ) (ws : List Part) → (top_of t ws s).saved ≡ s.saved
top_of_saved s t ws = played_saved ws (after (top_begin t) s) t
