-- Rows whose keys rise, and one that comes behind them.
use Rattle.std.proofs.Common.{◌≡◌, ℕ, zero, suc, ◌-◌, ◌<◌, List, [], ◌∷◌, ◌++◌, length, map, take, get_or, Option, Some, None, refl, sym, ap, subst, ◌∙◌, arith, cond}
use Rattle.std.specs.Prelude.{slice_get}
use Rattle.std.specs.BTreeMap.{insert_entry, is_at}
use Rattle.std.specs.Map.{lookup}
use Rattle.std.specs.List.{AllByRecursion}
use Rattle.std.specs.List.Sorted.{IsStrictlySortedBy}
use Rattle.std.specs.Ordering.{nat_cmp, is_eq, match_ordering}
use Rattle.std.specs.Cmp.{ranked}
use Rattle.std.specs.declared.cmp.Ordering.{Ordering}
use Rattle.std.specs.declared.cmp.Ordering.TheVariants.{Less, Equal, Greater}
use Rattle.history.specs.Key.{main_name}
use Rattle.history.specs.Writes.{Row}
use Rattle.dump_text.specs.Dump.{AreRising}
use Rattle.dump_text.specs.Keyed.{AreBelow}

less : (a b : ℕ) → a < b → nat_cmp a b ≡ Less
less a b lt = go (nat_cmp a b) refl
  where
    go : (order : Ordering) → nat_cmp a b ≡ order → nat_cmp a b ≡ Less
    go Less at = at
    go Equal at = absurd (omega (arith, lt, ranked a b Equal (sym at)))
    go Greater at = absurd (omega (arith, lt, ranked a b Greater (sym at)))

greater : (a b : ℕ) → b < a → nat_cmp a b ≡ Greater
greater a b lt = go (nat_cmp a b) refl
  where
    go : (order : Ordering) → nat_cmp a b ≡ order → nat_cmp a b ≡ Greater
    go Less at = absurd (omega (arith, lt, ranked a b Less (sym at)))
    go Equal at = absurd (omega (arith, lt, ranked a b Equal (sym at)))
    go Greater at = at

-- a key behind all others is put at the end
pub put_behind : (key : ℕ) (value : List ℕ) (rows : List Row) → AreBelow key rows → insert_entry nat_cmp rows key value ≡ rows ++ (key, value) ∷ []
put_behind key value [] below = refl
put_behind key value (row ∷ rows) below =
    ap (λ (order : Ordering). match_ordering order ((key, value) ∷ row ∷ rows) ((row.0, value) ∷ rows) (row ∷ insert_entry nat_cmp rows key value)) (greater key row.0 below.0)
    ∙ ap (λ (l : List Row). row ∷ l) (put_behind key value rows below.1)

-- and is none of theirs
pub none_behind : (key : ℕ) (rows : List Row) → AreBelow key rows → lookup (is_at (nat_cmp key)) rows ≡ None
none_behind key [] below = refl
none_behind key (row ∷ rows) below =
    ap (λ (order : Ordering). cond (is_eq order) (Some row.1) (lookup (is_at (nat_cmp key)) rows)) (greater key row.0 below.0) ∙ none_behind key rows below.1

-- a key behind the last one is behind all
below_last : (key : ℕ) (rows : List Row) (last : Row) (n : ℕ) → AreRising (main_name, rows) → length rows ≡ suc n → slice_get rows n ≡ Some last → last.0 < key → AreBelow key rows
unfolding IsStrictlySortedBy
below_last key [] last n rising long is lt = tt
below_last key (row ∷ []) last zero rising long is lt = (let same : row ≡ last = cc is in subst (λ (r : Row). r.0 < key) (sym same) lt, tt)
below_last key (row ∷ []) last (suc n) rising long is lt = absurd (omega arith)
below_last key (row ∷ next ∷ rows) last zero rising long is lt = absurd (omega arith)
below_last key (row ∷ next ∷ rows) last (suc n) rising long is lt =
    let rest = below_last key (next ∷ rows) last n rising.1 (omega arith) is lt in
    (omega (arith, ranked row.0 next.0 Less (sym rising.0.0), rest.0), rest)

pub below_found : (key : ℕ) (rows : List Row) (last : Row) → AreRising (main_name, rows) → slice_get rows (length rows - 1) ≡ Some last → last.0 < key → AreBelow key rows
below_found key [] last rising is lt = tt
below_found key (row ∷ rows) last rising is lt =
    let n : length (row ∷ rows) - 1 ≡ length rows = omega arith in
    below_last key (row ∷ rows) last (length rows) rising refl (subst (λ (k : ℕ). slice_get (row ∷ rows) k ≡ Some last) n is) lt

pub none_rise : AreRising (main_name, [])
unfolding IsStrictlySortedBy
none_rise = tt

-- the keys rise with one more behind all
pub rising_more : (key : ℕ) (value : List ℕ) (rows : List Row) → AreRising (main_name, rows) → AreBelow key rows → AreRising (main_name, rows ++ (key, value) ∷ [])
unfolding IsStrictlySortedBy
rising_more key value [] rising below = (tt, tt)
rising_more key value (row ∷ rows) rising below = (more row.0 rows rising.0 below.0, rising_more key value rows rising.1 below.1)
  where
    more : (low : ℕ) (rest : List Row) → AllByRecursion (λ y. nat_cmp low y ≡ Less) (map (λ (r : Row). r.0) rest) → low < key → AllByRecursion (λ y. nat_cmp low y ≡ Less) (map (λ (r : Row). r.0) (rest ++ (key, value) ∷ []))
    more low [] all lt = (less low key lt, tt)
    more low (r ∷ rest) all lt = (all.0, more low rest all.1 lt)

-- those before a row are below it
pub below_next : (rows : List Row) (i : ℕ) (row : Row) → AreRising (main_name, rows) → i < length rows → row ≡ get_or rows i row → AreBelow row.0 (take i rows)
unfolding IsStrictlySortedBy
below_next rows zero row rising within is = tt
below_next [] (suc i) row rising within is = tt
below_next (first ∷ rows) (suc i) row rising within is = (later first.0 rows i rising.0 (omega arith) is, below_next rows i row rising.1 (omega arith) is)
  where
    later : (low : ℕ) (rest : List Row) (j : ℕ) → AllByRecursion (λ y. nat_cmp low y ≡ Less) (map (λ (r : Row). r.0) rest) → j < length rest → row ≡ get_or rest j row → low < row.0
    later low [] j all short at = absurd (omega (arith, short))
    later low (r ∷ rest) zero all short at = subst (λ (x : Row). low < x.0) (sym at) (ranked low r.0 Less (sym all.0))
    later low (r ∷ rest) (suc j) all short at = later low rest j all.1 (omega (arith, short)) at
