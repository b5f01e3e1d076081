-- Every command keeps what holds of pages between commands.
use Rattle.std.proofs.Common.{◌≡◌, ℕ, zero, suc, ◌-◌, ◌<◌, ◌≤◌, true, false, inl, inr, List, [], ◌∷◌, ◌++◌, length, get_or, take, drop, sym, ◌∙◌, ap, subst, arith}
use Rattle.std.specs.Prelude.{max, Option, Some, None}
use Rattle.std.specs.Option.{option_map, unwrap_or}
use Rattle.std.proofs.lemmas.Bool.{cases_lt}
use Rattle.std.proofs.lemmas.List.{get_or_append_left, get_or_push, get_or_past, get_or-take, length-append, length-take, length-take-le, take_all, take-take}
use Rattle.array_shape.specs.declared.shape.Shape.{Shape}
use Rattle.array_shape.specs.Places.{IsPlaced}
use Rattle.array_shape.specs.Logged.{Part, AllPlaced, AllFit}
use Rattle.mars_base.proofs.Puts.{length-put}
use Rattle.array_image.proofs.Applied.{length-applied}
use Rattle.eaw_face.specs.State.{listed, group_log}
use Rattle.eaw_face.proofs.Groups.{with_each_two}
use Rattle.page_store.specs.Edit.{with_write}
use Rattle.page_store.specs.State.{PagesState, log_of, save_at, floor_of}
use Rattle.page_store.specs.Command.{PageCommand, write_as, save, back, top_begin, top_end, end, end_group, atomic_write, read_as, read, after}
use Rattle.page_store.specs.Kept.{IsFront, IsKeptOf, IsKept, IsAllowed}
use Rattle.page_store.proofs.Writes.{take-none, write_front, write_placed, write_longer}
use Rattle.page_store.specs.Outline.{outline}
use Rattle.page_store.proofs.Outline.{length-lengths}
use Rattle.page_store.proofs.Numbers.{with_two, with_other}
use Rattle.page_store.proofs.Views.{log_fits, fit-drop, listed-map, saved_or_none}

placed-take : (shape : Shape) (n : ℕ) (log : List Part) → AllPlaced shape log → AllPlaced shape (take n log)
placed-take shape zero log placed = tt
placed-take shape (suc n) [] placed = tt
placed-take shape (suc n) (p ∷ ps) placed = (placed.0, placed-take shape n ps placed.1)

front_shorter : (front log : List Part) → IsFront front log → length front ≤ length log
front_shorter front log is = omega (arith, ap length is, length-take (length front) log)

front_trans : (a b log : List Part) → IsFront a log → IsFront b log → length a ≤ length b → IsFront a b
front_trans a b log fa fb le = ap (take (length a)) (sym fb) ∙ take-take (length a) (length b) log le ∙ fa

module _ (shape : Shape) (saved : List (List Part)) (top : Option ℕ) (log : List Part) (kept : IsKeptOf shape saved top log) where
  at : ℕ → List Part
  at i = get_or saved i []

  -- the floor
  last : ℕ
  last = length (save_at saved (length saved))

  last_within : last ≤ length log
  unfolding last
  last_within = elim (cases_lt 0 (length saved)) [
    | inl some ↦ front_shorter (save_at saved (length saved)) log (kept.fronts (length saved - 1) (omega arith))
    | inr none ↦ omega (arith, ap length (get_or_past saved (length saved - 1) [] (omega arith)))
  ]

  pub saved_within : length (save_at saved (length saved)) ≤ length log
  unfolding last
  saved_within = last_within

  below_last : (i : ℕ) → i < length saved → length (get_or saved i []) ≤ last
  unfolding last
  below_last i lt = kept.rising i (length saved - 1) (omega arith) (omega arith)

  kept_write : (addr : ℕ) (bytes : List ℕ) → IsPlaced shape addr (length bytes) → IsKeptOf shape saved top (with_write (max last (unwrap_or top 0)) addr bytes log)
  kept_write addr bytes placed = record {
    fronts = λ i lt. write_front addr bytes (length (get_or saved i [])) (max last (unwrap_or top 0)) log (omega (arith, below_last i lt)) (omega (arith, last_within, kept.mark)) ∙ kept.fronts i lt;
    rising = kept.rising;
    mark = write_longer addr bytes (unwrap_or top 0) (max last (unwrap_or top 0)) log kept.mark;
    before = λ i lt. go i top (write_longer addr bytes (length log) (max last (unwrap_or top 0)) log (omega arith)) (kept.before i lt);
    placed = write_placed addr bytes shape placed (max last (unwrap_or top 0)) log kept.placed;
  }
    where
      go : (i : ℕ) (o : Option ℕ) {new : ℕ} → length log ≤ new → length (get_or saved i []) ≤ unwrap_or o (length log) → length (get_or saved i []) ≤ unwrap_or o new
      go i None le below = omega arith
      go i (Some mark) le below = below

  saved_left : (i : ℕ) → i < length saved → get_or (saved ++ log ∷ []) i [] ≡ get_or saved i []
  saved_left i lt = get_or_append_left saved (log ∷ []) [] i lt

  saved_last : (i : ℕ) → length saved ≤ i → i < length (saved ++ log ∷ []) → get_or (saved ++ log ∷ []) i [] ≡ log
  saved_last i le lt = get_or_push saved log [] i (omega (arith, length-append saved (log ∷ [])))

  new_front : (i : ℕ) → i < length (saved ++ log ∷ []) → IsFront (get_or (saved ++ log ∷ []) i []) log
  new_front i lt = elim (cases_lt i (length saved)) [
    | inl old ↦ subst (λ f. IsFront f log) (sym (saved_left i old)) (kept.fronts i old)
    | inr new ↦ subst (λ f. IsFront f log) (sym (saved_last i new lt)) (take_all (length log) log (omega arith))
  ]

  new_rising : (i j : ℕ) → i ≤ j → j < length (saved ++ log ∷ []) → length (get_or (saved ++ log ∷ []) i []) ≤ length (get_or (saved ++ log ∷ []) j [])
  new_rising i j le lt = elim (cases_lt j (length saved)) [
    | inl old ↦ omega (arith, kept.rising i j le old, ap length (saved_left i (omega arith)), ap length (saved_left j old))
    | inr new ↦ omega (arith, ap length (saved_last j new lt), front_shorter (get_or (saved ++ log ∷ []) i []) log (new_front i (omega arith)))
  ]

  kept_save : top ≡ None → IsKeptOf shape (saved ++ log ∷ []) top log
  kept_save none = record {
    fronts = new_front;
    rising = new_rising;
    mark = kept.mark;
    before = λ i lt. subst (λ o. length (get_or (saved ++ log ∷ []) i []) ≤ unwrap_or o (length log)) (sym none) (front_shorter (get_or (saved ++ log ∷ []) i []) log (new_front i lt));
    placed = kept.placed;
  }

  kept_begin : IsKeptOf shape saved (Some (length log)) log
  kept_begin = record {
    fronts = kept.fronts;
    rising = kept.rising;
    mark = omega arith;
    before = λ i lt. front_shorter (get_or saved i []) log (kept.fronts i lt);
    placed = kept.placed;
  }

  kept_top : (mark : ℕ) → top ≡ Some mark → IsKeptOf shape saved None (take mark log)
  kept_top mark is = record {
    fronts = λ i lt. front i lt;
    rising = kept.rising;
    mark = omega arith;
    before = λ i lt. front_shorter (get_or saved i []) (take mark log) (front i lt);
    placed = placed-take shape mark log kept.placed;
  }
    where
      front : (i : ℕ) → i < length saved → IsFront (get_or saved i []) (take mark log)
      front i lt =
          let le : length (get_or saved i []) ≤ mark = subst (λ o. length (get_or saved i []) ≤ unwrap_or o (length log)) is (kept.before i lt) in
          take-take (length (get_or saved i [])) mark log le ∙ kept.fronts i lt

  kept_back : (n : ℕ) → 0 < n → n ≤ length saved → top ≡ None → IsKeptOf shape (take n saved) top (save_at saved n)
  kept_back n some le none = record {
    fronts = front;
    rising = λ i j ij lt. omega (arith, kept.rising i j ij (omega (arith, long)), ap length (get_or-take n saved i [] (omega (arith, long))), ap length (get_or-take n saved j [] (omega (arith, long))));
    mark = subst (λ o. unwrap_or o 0 ≤ length (save_at saved n)) (sym none) (omega arith);
    before = λ i lt. subst (λ o. length (get_or (take n saved) i []) ≤ unwrap_or o (length (save_at saved n))) (sym none) (front_shorter (get_or (take n saved) i []) (save_at saved n) (front i lt));
    placed = subst (AllPlaced shape) (kept.fronts (n - 1) (omega arith)) (placed-take shape (length (save_at saved n)) log kept.placed);
  }
    where
      long : length (take n saved) ≡ n
      long = length-take-le n saved le

      front : (i : ℕ) → i < length (take n saved) → IsFront (get_or (take n saved) i []) (save_at saved n)
      front i lt =
          let small : i < n = omega (arith, long) in
          subst (λ f. IsFront f (save_at saved n)) (sym (get_or-take n saved i [] small))
          (front_trans (get_or saved i []) (save_at saved n) log (kept.fronts i (omega arith)) (kept.fronts (n - 1) (omega arith)) (kept.rising i (n - 1) (omega arith) (omega arith)))

pub kept_none : (shape : Shape) (top : Option ℕ) → top ≡ None → IsKeptOf shape [] top []
kept_none shape top none = record {
  fronts = λ i lt. absurd (omega arith);
  rising = λ i j le lt. absurd (omega arith);
  mark = subst (λ o. unwrap_or o 0 ≤ 0) (sym none) (omega arith);
  before = λ i lt. absurd (omega arith);
  placed = tt;
}

fit-append : (n : ℕ) (ps qs : List Part) → AllFit n ps → AllFit n qs → AllFit n (ps ++ qs)
fit-append n [] qs fit more = more
fit-append n (p ∷ ps) qs fit more = (fit.0, fit-append n ps qs fit.1 more)

module _ (shape : Shape) (s : PagesState) (kept : IsKept shape s) where
  group_fits : (ts : List ℕ) → AllFit (length s.store.bytes) (group_log s.store.logs ts)
  group_fits [] = tt
  group_fits (t ∷ ts) = fit-append (length s.store.bytes) (log_of s t) (group_log s.store.logs ts) (log_fits shape s kept t) (group_fits ts)

  pub kept_after : (c : PageCommand) → IsAllowed shape c (outline s) → IsKept shape (after c s)
  unfolding last
  kept_after (write_as t addr bytes) placed = record {
    long = kept.long;
    each = with_other (λ u o. IsKeptOf shape (s.saved u) (s.top u) (listed o)) s.store.logs t (Some (with_write (floor_of s t) addr bytes (log_of s t))) (kept_write shape (s.saved t) (s.top t) (log_of s t) (kept.each t) addr bytes placed) kept.each;
  }
  kept_after (save t) none = record {
    long = kept.long;
    each = with_other (λ u saved. IsKeptOf shape saved (s.top u) (log_of s u)) s.saved t (s.saved t ++ log_of s t ∷ []) (kept_save shape (s.saved t) (s.top t) (log_of s t) (kept.each t) none) kept.each;
  }
  kept_after (back t n) allowed = let enough : n ≤ length (s.saved t) = omega (arith, allowed.1, length-lengths (s.saved t)) in record {
    long = kept.long;
    each = with_two (λ u o saved. IsKeptOf shape saved (s.top u) (listed o)) s.store.logs s.saved t (option_map (λ log. save_at (s.saved t) n) (s.store.logs t)) (take n (s.saved t))
        (subst (IsKeptOf shape (take n (s.saved t)) (s.top t)) (sym (saved_or_none (save_at (s.saved t) n) (s.store.logs t) ((kept.each t).fronts (n - 1) (omega (arith, allowed.0, enough)))))
        (kept_back shape (s.saved t) (s.top t) (log_of s t) (kept.each t) n allowed.0 enough allowed.2)) kept.each;
  }
  kept_after (top_begin t) none = record {
    long = kept.long;
    each = with_other (λ u top. IsKeptOf shape (s.saved u) top (log_of s u)) s.top t (Some (length (log_of s t))) (kept_begin shape (s.saved t) (s.top t) (log_of s t) (kept.each t)) kept.each;
  }
  kept_after (top_end t mark) is = record {
    long = length-applied (drop mark (log_of s t)) s.store.bytes (fit-drop (length s.store.bytes) mark (log_of s t) (log_fits shape s kept t)) ∙ kept.long;
    each = with_two (λ u o top. IsKeptOf shape (s.saved u) top (listed o)) s.store.logs s.top t (option_map (take mark) (s.store.logs t)) None
        (subst (IsKeptOf shape (s.saved t) None) (sym (listed-map (take mark) (s.store.logs t) (take-none mark))) (kept_top shape (s.saved t) (s.top t) (log_of s t) (kept.each t) mark is)) kept.each;
  }
  kept_after (end t true) none = record {
    long = length-applied (log_of s t) s.store.bytes (log_fits shape s kept t) ∙ kept.long;
    each = with_two (λ u o saved. IsKeptOf shape saved (s.top u) (listed o)) s.store.logs s.saved t None [] (kept_none shape (s.top t) none) kept.each;
  }
  kept_after (end t false) none = record {
    long = kept.long;
    each = with_two (λ u o saved. IsKeptOf shape saved (s.top u) (listed o)) s.store.logs s.saved t None [] (kept_none shape (s.top t) none) kept.each;
  }
  kept_after (end_group ts) allowed = record {
    long = length-applied (group_log s.store.logs ts) s.store.bytes (group_fits ts) ∙ kept.long;
    each = with_each_two (λ u o saved. IsKeptOf shape saved (s.top u) (listed o)) s.store.logs s.saved ts None [] (λ u is. kept_none shape (s.top u) (allowed u is)) kept.each;
  }
  kept_after (atomic_write t addr bytes) allowed = record {
    long = length-put s.store.bytes addr bytes (omega (arith, allowed.inside, kept.long)) ∙ kept.long;
    each = kept.each;
  }
  kept_after (read_as t) allowed = kept
  kept_after read allowed = kept
