-- The beginning of a way, and what comes behind it.
use Rattle.std.proofs.Common.{◌≡◌, ◌≢◌, ℕ, zero, suc, ◌+◌, ◌^◌, ◌<◌, ◌≤◌, List, Option, Some, None, refl, sym, ◌∙◌, ap, subst, arith}
use Rattle.std.specs.Prelude.{IfSome}
use Rattle.std.specs.Option.{option_map, option_or}
use Rattle.array_shape.specs.Places.{page_count}
use Rattle.array_shape.specs.declared.shape.Shape.{Shape}
use Rattle.record_slots.specs.Places.{next_page}
use Rattle.page_store.specs.Pairs.{Pair}
use Rattle.index_pages.specs.Keys.{key_end}
use Rattle.index_pages.specs.Page.{page_pairs, level_of}
use Rattle.btree_laws.specs.Descent.{page_for}
use Rattle.btree_laws.specs.Sound.{IsSoundTree}
use Rattle.btree_laws.specs.declared.root.Root.{Root}
use Rattle.btree_pages.specs.Leaf.{behind_in, bound_in}
use Rattle.btree_pages.specs.Start.{IsLater, IsStart, entry_of, key_of, start_behind}
use Rattle.btree_pages.specs.declared.look.Start.{Start}
use Rattle.btree_pages.proofs.Descending.{Down, down_first, down_at, down_behind}

at_top : (root : Root) (bytes : List ℕ) (start : Start) (d : ℕ) → d ≡ 0 → start.page ≡ page_for d bytes root.page start.key → start.page ≡ root.page
at_top root bytes start zero is page = page
at_top root bytes start (suc d) is page = absurd (omega arith)

-- a way that begins there goes down from there
begun_at : (d : ℕ) (root : Root) (bytes : List ℕ) (start : Start) → IsSoundTree root bytes → start.key < key_end → (s : IsStart root bytes start) → s.depth ≡ d
    → (d : ℕ) × (b : Option ℕ) × (d + start.most ≡ 8) × (start.most ≡ 8 → b ≡ None) × Down root bytes start.key d start.page b
begun_at zero root bytes start sound lt s is = (
  0,
  None,
  omega (arith, s.few, is),
  λ all. refl,
  subst (λ (p : ℕ). Down root bytes start.key 0 p None) (sym (at_top root bytes start s.depth is s.page_is)) (down_first root bytes start.key sound lt),
)
begun_at (suc d) root bytes start sound lt s is =
    let r = down_at (suc d) root bytes start.key sound lt (omega (arith, s.below, is)) in (
      suc d,
      r.0,
      omega (arith, s.few, is),
      λ all. absurd (omega (arith, s.few, is, all)),
      subst (λ (p : ℕ). Down root bytes start.key (suc d) p r.0) (sym (s.page_is ∙ ap (λ (n : ℕ). page_for n bytes root.page start.key) is)) r.1,
    )

pub start_down : (root : Root) (bytes : List ℕ) (start : Start) → IsSoundTree root bytes → start.key < key_end → IsStart root bytes start
    → (d : ℕ) × (b : Option ℕ) × (d + start.most ≡ 8) × (start.most ≡ 8 → b ≡ None) × Down root bytes start.key d start.page b
start_down root bytes start sound lt s = begun_at s.depth root bytes start sound lt s refl

-- a way from which as many pages may be read as from the root begins there
pub start_root : (root : Root) (bytes : List ℕ) (start : Start) → IsStart root bytes start → start.most ≡ 8 → start.page ≡ root.page
start_root root bytes start s all = at_top root bytes start s.depth (omega (arith, s.few, all)) s.page_is

-- what is known of the entry behind, of two where the first one counts
pub entry_or : (a b : Option Start) → entry_of (option_or a b) ≡ option_or (entry_of a) (entry_of b)
entry_or None b = refl
entry_or (Some a) b = refl

pub key_or : (a b : Option Start) → key_of (option_or a b) ≡ option_or (key_of a) (key_of b)
key_or None b = refl
key_or (Some a) b = refl

pub some_or : (P : Start → Type 0) (a b : Option Start) → IfSome a P → IfSome b P → IfSome (option_or a b) P
some_or P None b first second = second
some_or P (Some a) b first second = first

pub entry_behind : (most : ℕ) (entry : Option Pair) → entry_of (start_behind most entry) ≡ entry
entry_behind most None = refl
entry_behind most (Some e) = refl

pub key_behind : (most : ℕ) (pairs : List Pair) (key : ℕ) (entry : Option Pair) → entry ≡ behind_in pairs key → key_of (start_behind most entry) ≡ bound_in pairs key
key_behind most pairs key None is = ap (λ (o : Option Pair). option_map (λ e. e.0) o) is
key_behind most pairs key (Some e) is = ap (λ (o : Option Pair). option_map (λ e. e.0) o) is

pub small_entry : (count : ℕ) (entry : Option Pair) → count ≤ 2 ^ 32 → IfSome entry (λ e. e.1 < count) → IfSome entry (λ e. e.1 < 2 ^ 32)
small_entry count None few inside = tt
small_entry count (Some e) few inside = omega (arith, few, inside)

pub less_entry : (few count : ℕ) (entry : Option Pair) → few ≤ count → IfSome entry (λ e. e.1 < few) → IfSome entry (λ e. e.1 < count)
less_entry few count None less inside = tt
less_entry few count (Some e) less inside = omega (arith, less, inside)

-- where the way behind begins: so many steps on, of so many that there may be
abbrev pub Lasts : Shape → Start → ℕ → Start → Type 0
Lasts shape start step b = (b.page < page_count shape) × (start.key < b.key) × (b.most < start.most) × (start.most ≤ b.most + step)

pub lasts_next : (shape : Shape) (start : Start) (step : ℕ) (behind : Option Start) → IfSome behind (Lasts shape start step) → IfSome behind (Lasts shape start (step + 1))
lasts_next shape start step None is = tt
lasts_next shape start step (Some b) is = (is.0, is.1, is.2, omega (arith, is.3))

pub lasts_first : (shape : Shape) (start : Start) (step most : ℕ) (entry : Option Pair) (count : ℕ) → count ≤ page_count shape → IfSome entry (λ e. e.1 < count) → IfSome entry (λ e. start.key < e.0) → most + step + 1 ≡ start.most
    → IfSome (start_behind most entry) (Lasts shape start (step + 1))
lasts_first shape start step most None count few inside above is = tt
lasts_first shape start step most (Some e) count few inside above is = (omega (arith, inside, few), above, omega (arith, is), omega (arith, is))

pub lasts_later : (shape : Shape) (start : Start) (step : ℕ) (behind : Option Start) → step < start.most → IfSome behind (Lasts shape start step) → IfSome behind (IsLater shape start)
lasts_later shape start step None lt is = tt
lasts_later shape start step (Some b) lt is = record { inside = is.0; above = is.1; some = omega (arith, lt, is.3); fewer = is.2 }

-- the entry behind a page on the way leads to a page on the way of its own low key
module _ (root : Root) (bytes : List ℕ) (key depth page most : ℕ) (bound : Option ℕ) (d : Down root bytes key depth page bound) (inner : level_of bytes page ≢ 0) where
  pub starts_behind : (entry : Option Pair) → entry ≡ behind_in (page_pairs bytes page) key → depth + most ≡ 7 → IfSome (start_behind most entry) (IsStart root bytes)
  starts_behind None is few = tt
  starts_behind (Some e) is few =
      let there = down_behind root bytes key depth page bound d inner e (sym is) in
      record { depth = depth + 1; page_is = there.0; below = there.1; few = omega (arith, few) }

  pub inside_behind : (entry : Option Pair) → entry ≡ behind_in (page_pairs bytes page) key → IfSome entry (λ e. e.1 < next_page bytes)
  inside_behind None is = tt
  inside_behind (Some e) is = (down_behind root bytes key depth page bound d inner e (sym is)).2
