-- The steps that keep the rule of what is published.
use Rattle.std.proofs.Common.{◌≡◌, ◌≢◌, ℕ, ◌+◌, List, [], ◌∷◌, ◌++◌, length, length-append, set, refl, sym, ap, ◌∙◌, subst, ⊎_elim, Option, None, Some, arith}
use mathlib.Core.List.{IsPrefix}
use mathlib.Core.Option.{some}
use lib.ListN.{get_elem?}
use Rattle.left_right.specs.Register.{Admits, TurnsAt, Forks, Merges}
use Rattle.atomic_table.proofs.Lists.{at_set, at_snoc}
use Rattle.snapshot_readers.specs.Batches.{Batch, IsLast, records_after}
use Rattle.history.specs.Writes.{Table}
use Rattle.snapshot_readers.specs.declared.snapshot.Snapshot.{Snapshot}
use Rattle.snapshot_readers.specs.declared.snapshot.Known.{Known}
use Rattle.snapshot_readers.specs.Shown.{list_of, Tied, AllStand, IsSeen, IsTold, known_of, base_known, lists_known}
use Rattle.snapshot_readers.proofs.Prefixes.{prefix_self, prefix_trans, prefix_whole}

abbrev View : Type 0
View = Option Known

-- so it is with each view
abbrev Each : (View → Type 0) → List View → Type 0
Each P views = (seat : ℕ) (v : View) → get_elem? views seat ≡ some v → P v

each_snoc : (P : View → Type 0) (views : List View) (w : View) → Each P views → P w → Each P (views ++ w ∷ [])
each_snoc P views w each here seat v at = ⊎_elim (each seat v) (λ (e : w ≡ v). subst P e here) (at_snoc views w v seat at)

each_set : (P Q : View → Type 0) (views : List View) (seat : ℕ) (w : View) → ((u : View) → P u → Q u) → Each P views → Q w → Each Q (set views seat w)
each_set P Q views seat w keeps each here j u e =
    ⊎_elim (λ (t : (j ≡ seat) × (w ≡ u)). subst Q t.1 here) (λ (t : (j ≢ seat) × (get_elem? views j ≡ some u)). keeps u (each j u t.1)) (at_set views seat j w u e)

-- a seat that knows these to have been published
abbrev with_lists : View → List (List Batch) → View
with_lists None lists = None
with_lists (Some known) lists = Some (record known { lists = lists })

-- what is shown fits a view, where these are the lists that were published
abbrev Fits : Snapshot → List (List Batch) → View → Type 0
Fits x lists v = Tied v x × IsPrefix (lists_known v) lists

none_fits : (x : Snapshot) (lists : List (List Batch)) → Fits x lists None
none_fits x lists = (λ book e. absurd cc, (lists, refl))

with_fits : (x : Snapshot) (lists more : List (List Batch)) (v : View) → Tied v x → IsPrefix more lists → Fits x lists (with_lists v more)
with_fits x lists more None tied first = none_fits x lists
with_fits x lists more (Some known) tied first = (tied, first)

pub admits : Admits AllStand None
admits x views h = record { lists = h.lists; last = h.last; count = h.count; each = each_snoc (Fits x h.lists) views None h.each (none_fits x h.lists) }

-- the rule at the start
pub first_stands : (x : Snapshot) → x.count ≡ 1 → AllStand x (None ∷ [])
first_stands x one =
    let lists : List (List Batch) = list_of x ∷ [] in
    record { lists = lists; last = ([], refl); count = sym one; each = each_snoc (Fits x lists) [] None (λ seat v at. absurd cc) (none_fits x lists) }

is_seen : (v : View) (x : Snapshot) (lists : List (List Batch)) → Fits x lists v → IsLast (list_of x) lists → IsSeen v x (with_lists v lists)
is_seen None x lists fits last = record { tied = fits.0; book = refl; base = refl; more = prefix_self []; last = λ book e. absurd cc }
is_seen (Some known) x lists fits last = record { tied = fits.0; book = refl; base = refl; more = fits.1; last = λ book e. last }

-- a reader sees what is published
pub sees : (seat : ℕ) (v : View) (x : Snapshot) → TurnsAt AllStand seat v x x (λ v x y w. IsSeen v x w)
sees seat v x views h at =
    let fits = h.each seat v at in
    let P = Fits x h.lists in (
      with_lists v h.lists,
      record { lists = h.lists; last = h.last; count = h.count; each = each_set P P views seat (with_lists v h.lists) (λ u f. f) h.each (with_fits x h.lists h.lists v fits.0 (prefix_self h.lists)) },
      is_seen v x h.lists fits h.last,
    )

is_told : (v : View) (y : Snapshot) → IsTold v y (with_lists v (lists_known v ++ list_of y ∷ []))
is_told None y = record { book = refl; lists = λ book e. absurd cc }
is_told (Some known) y = record { book = refl; lists = λ book e. refl }

-- the writer, which knows all lists that were published, shows more of the same list
pub shows : (seat : ℕ) (v : View) (x y : Snapshot) → y.list.seen.book ≡ x.list.seen.book → ((base : Table) → x.records ≡ records_after base (list_of x) → y.records ≡ records_after base (list_of y))
    → length (lists_known v) ≡ x.count → y.count ≡ x.count + 1 → TurnsAt AllStand seat v x y (λ v x y w. IsTold v y w)
shows seat v x y same right all count views h at =
    let fits = h.each seat v at in
    let told = list_of y ∷ [] in
    let now : List (List Batch) = h.lists ++ told in
    let more : List (List Batch) = lists_known v ++ told in
    let keeps : (u : View) → Tied u x → Tied u y = λ u t book e. (same ∙ (t book e).0, right (base_known u) (t book e).1) in
    let whole : lists_known v ≡ h.lists = prefix_whole (lists_known v) h.lists fits.1 (omega (arith, all, h.count)) in (
      with_lists v more,
      record {
        lists = now;
        last = (h.lists, refl);
        count = omega (arith, length-append h.lists told, h.count, count);
        each = each_set (Fits x h.lists) (Fits y now) views seat (with_lists v more) (λ u f. (keeps u f.0, prefix_trans (lists_known u) h.lists now f.1 (told, refl))) h.each
            (with_fits y now more v (keeps v fits.0) (subst (λ (l : List (List Batch)). IsPrefix (l ++ told) now) (sym whole) (prefix_self now)));
      },
      is_told v y,
    )

only_one : (before : List (List Batch)) (list : List Batch) (lists : List (List Batch)) → lists ≡ before ++ list ∷ [] → length lists ≡ 1 → lists ≡ list ∷ []
only_one [] list lists is one = is
only_one (b ∷ before) list lists is one = absurd (omega (arith, ap length is, one, length-append before (list ∷ [])))

-- the writer comes to know what it shows at the start
claims : (seat : ℕ) (v : View) (x : Snapshot) → list_of x ≡ [] → x.count ≡ 1 → TurnsAt AllStand seat v x x (λ v x y w. w ≡ Some (known_of y))
claims seat v x none one views h at =
    let P = Fits x h.lists in
    let tied : Tied (Some (known_of x)) x = λ book e. (cc e, ap (records_after x.records) (sym none)) in
    let first : IsPrefix (list_of x ∷ []) h.lists = subst (λ (l : List (List Batch)). IsPrefix l h.lists) (only_one h.last.0 (list_of x) h.lists h.last.1 (h.count ∙ one)) (prefix_self h.lists) in
    (Some (known_of x), record { lists = h.lists; last = h.last; count = h.count; each = each_set P P views seat (Some (known_of x)) (λ u f. f) h.each (tied, first) }, refl)

pub claims_same : (seat : ℕ) (v : View) (x y : Snapshot) → list_of x ≡ [] → x.count ≡ 1 → y ≡ x → TurnsAt AllStand seat v x y (λ v x y w. w ≡ Some (known_of y))
claims_same seat v x y none one is = subst (λ (z : Snapshot). TurnsAt AllStand seat v x z (λ v x y w. w ≡ Some (known_of y))) (sym is) (claims seat v x none one)

pub forks : (seat : ℕ) (v : View) → Forks AllStand seat v v v
forks seat v x views h at =
    let P = Fits x h.lists in
    let here = h.each seat v at in
    record { lists = h.lists; last = h.last; count = h.count; each = each_snoc P (set views seat v) v (each_set P P views seat v (λ u f. f) h.each here) here }

pub merges : (seat : ℕ) (v : View) (other : ℕ) (w : View) → Merges AllStand seat v other w w None
merges seat v other w x views h at apart there =
    let P = Fits x h.lists in
    let told : P w = ⊎_elim (λ (t : (other ≡ seat) × (w ≡ w)). absurd (apart t.0)) (λ (t : (other ≢ seat) × (get_elem? views other ≡ some w)). h.each other w t.1) (at_set views seat other w w there) in
    record { lists = h.lists; last = h.last; count = h.count; each = each_set P P (set views seat w) other None (λ u f. f) (each_set P P views seat w (λ u f. f) h.each told) (none_fits x h.lists) }
