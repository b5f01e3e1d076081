-- Each command makes of the outline what it makes of the state.
use Rattle.std.proofs.Common.{◌≡◌, ℕ, zero, suc, ◌-◌, Bool, true, false, cond, List, [], ◌∷◌, ◌++◌, length, get_or, take, refl, sym, ◌∙◌, ap, arith}
use Rattle.std.specs.Prelude.{max, map, nat_eq, Option, Some, None}
use Rattle.std.specs.Option.{option_map, unwrap_or}
use Rattle.std.proofs.lemmas.List.{take-map}
use Rattle.array_shape.specs.declared.shape.Shape.{Shape}
use Rattle.array_shape.specs.Logged.{Part, ranges_of}
use Rattle.eaw_face.specs.State.{listed}
use Rattle.eaw_face.proofs.Groups.{with_each_over}
use Rattle.page_store.specs.Edit.{with_write, with_range}
use Rattle.page_store.specs.State.{PagesState, log_of, with_one, save_at, floor_of}
use Rattle.page_store.specs.Command.{PageCommand, write_as, save, back, top_begin, top_end, end, end_group, atomic_write, read_as, read, after}
use Rattle.page_store.specs.Kept.{IsFront, IsKept, IsAllowed}
use Rattle.page_store.specs.Outline.{outline, count_at, floor_in, outline_after}
use Rattle.page_store.proofs.Exact.{write_ranges}

-- a function over what one number has now
over : {A B : Type 0} (f : A → B) (g : ℕ → A) (t : ℕ) (x : A) (y : B) → f x ≡ y → (λ (u : ℕ). f (with_one g t x u)) ≡ with_one (λ (u : ℕ). f (g u)) t y
over f g t x y is = λ i u. one u i
  where
    one : (u : ℕ) → f (with_one g t x u) ≡ with_one (λ (k : ℕ). f (g k)) t y u
    one u = go (nat_eq u t)
      where
        go : (b : Bool) → f (cond b x (g u)) ≡ cond b y (f (g u))
        go true = is
        go false = refl

length-ranges : (log : List Part) → length (ranges_of log) ≡ length log
length-ranges [] = refl
length-ranges (p ∷ ps) = ap suc (length-ranges ps)

pub listed-ranges : (log : Option (List Part)) → listed (option_map ranges_of log) ≡ ranges_of (listed log)
listed-ranges None = refl
listed-ranges (Some log) = refl

take-ranges : (n : ℕ) (log : List Part) → ranges_of (take n log) ≡ take n (ranges_of log)
take-ranges zero log = refl
take-ranges (suc n) [] = refl
take-ranges (suc n) (p ∷ ps) = ap (λ (rs : List (ℕ × ℕ)). (p.0, length p.1) ∷ rs) (take-ranges n ps)

map-push : (saved : List (List Part)) (log : List Part) → map length (saved ++ log ∷ []) ≡ map length saved ++ length log ∷ []
map-push [] log = refl
map-push (l ∷ ls) log = ap (λ (ns : List ℕ). length l ∷ ns) (map-push ls log)

pub length-lengths : (saved : List (List Part)) → length (map length saved) ≡ length saved
length-lengths [] = refl
length-lengths (l ∷ ls) = ap suc (length-lengths ls)

-- the count of a save is the length of its list
pub counted : (saved : List (List Part)) (n : ℕ) → count_at (map length saved) n ≡ length (save_at saved n)
counted saved n = at saved (n - 1)
  where
    at : (ls : List (List Part)) (i : ℕ) → get_or (map length ls) i 0 ≡ length (get_or ls i [])
    at [] i = refl
    at (l ∷ ls) zero = refl
    at (l ∷ ls) (suc i) = at ls i

pub floors : (s : PagesState) (t : ℕ) → floor_in (outline s) t ≡ floor_of s t
floors s t = ap (λ (n : ℕ). max n (unwrap_or (s.top t) 0)) (ap (count_at (map length (s.saved t))) (length-lengths (s.saved t)) ∙ counted (s.saved t) (length (s.saved t)))

cut : (n : ℕ) (log : Option (List Part)) → option_map ranges_of (option_map (take n) log) ≡ option_map (take n) (option_map ranges_of log)
cut n None = refl
cut n (Some log) = ap Some (take-ranges n log)

cut_back : (front : List Part) (n : ℕ) (log : Option (List Part)) → n ≡ length front → IsFront front (listed log) → option_map ranges_of (option_map (λ old. front) log) ≡ option_map (take n) (option_map ranges_of log)
cut_back front n None is fits = refl
cut_back front n (Some log) is fits = ap (λ (l : List Part). Some (ranges_of l)) (sym fits) ∙ ap Some (take-ranges (length front) log) ∙ ap (λ (k : ℕ). Some (take k (ranges_of log))) (sym is)

pub outline_does : (shape : Shape) (c : PageCommand) (s : PagesState) → IsKept shape s → IsAllowed shape c (outline s) → outline (after c s) ≡ outline_after c (outline s)
outline_does shape (write_as t addr bytes) s kept allowed = λ i. record {
  ranges = over (option_map ranges_of) s.store.logs t (Some (with_write (floor_of s t) addr bytes (log_of s t))) (Some (with_range (floor_in (outline s) t) (addr, length bytes) (listed (option_map ranges_of (s.store.logs t)))))
      (ap Some (write_ranges (floor_of s t) addr bytes (log_of s t) ∙ (λ j. with_range (sym (floors s t) j) (addr, length bytes) (sym (listed-ranges (s.store.logs t)) j)))) i;
  counts = λ u. map length (s.saved u);
  top = s.top;
}
outline_does shape (save t) s kept allowed = λ i. record {
  ranges = λ u. option_map ranges_of (s.store.logs u);
  counts = over (map length) s.saved t (s.saved t ++ log_of s t ∷ []) (map length (s.saved t) ++ length (listed (option_map ranges_of (s.store.logs t))) ∷ [])
      (map-push (s.saved t) (log_of s t) ∙ ap (λ (n : ℕ). map length (s.saved t) ++ n ∷ []) (sym (ap length (listed-ranges (s.store.logs t)) ∙ length-ranges (log_of s t)))) i;
  top = s.top;
}
outline_does shape (back t n) s kept allowed = λ i. record {
  ranges = over (option_map ranges_of) s.store.logs t (option_map (λ log. save_at (s.saved t) n) (s.store.logs t)) (option_map (take (count_at (map length (s.saved t)) n)) (option_map ranges_of (s.store.logs t)))
      (cut_back (save_at (s.saved t) n) (count_at (map length (s.saved t)) n) (s.store.logs t) (counted (s.saved t) n) ((kept.each t).fronts (n - 1) (omega (arith, allowed.0, allowed.1, length-lengths (s.saved t))))) i;
  counts = over (map length) s.saved t (take n (s.saved t)) (take n (map length (s.saved t))) (sym (take-map length n (s.saved t))) i;
  top = s.top;
}
outline_does shape (top_begin t) s kept allowed = λ i. record {
  ranges = λ u. option_map ranges_of (s.store.logs u);
  counts = λ u. map length (s.saved u);
  top = with_one s.top t (Some (sym (ap length (listed-ranges (s.store.logs t)) ∙ length-ranges (log_of s t)) i));
}
outline_does shape (top_end t mark) s kept allowed = λ i. record {
  ranges = over (option_map ranges_of) s.store.logs t (option_map (take mark) (s.store.logs t)) (option_map (take mark) (option_map ranges_of (s.store.logs t))) (cut mark (s.store.logs t)) i;
  counts = λ u. map length (s.saved u);
  top = with_one s.top t None;
}
outline_does shape (end t commits) s kept allowed = λ i. record {
  ranges = over (option_map ranges_of) s.store.logs t None None refl i;
  counts = over (map length) s.saved t [] [] refl i;
  top = s.top;
}
outline_does shape (end_group ts) s kept allowed = λ i. record {
  ranges = with_each_over (option_map ranges_of) s.store.logs ts None None refl i;
  counts = with_each_over (map length) s.saved ts [] [] refl i;
  top = s.top;
}
outline_does shape (atomic_write t addr bytes) s kept allowed = refl
outline_does shape (read_as t) s kept allowed = refl
outline_does shape read s kept allowed = refl
